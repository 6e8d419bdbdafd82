-- The first fault of scripts, and the statement at which it arises.
use Rattle.std.proofs.Common.{◌≡◌, inl, inr, ℕ, ◌+◌, List, [], ◌∷◌, ◌++◌, append_assoc, length, refl, sym, ap, subst, ◌∙◌, Option, Some, None, arith}
use Rattle.std.specs.Prelude.{IfSome, option_map, unwrap_or}
use Rattle.std.specs.List.{flat_map}
use Rattle.std.proofs.lemmas.List.{append-nil}
use Rattle.std.proofs.lemmas.List.Concat.{flat_map-append}
use Rattle.gb_report.specs.declared.fault.Fault.{Fault}
use Rattle.gb_script.specs.declared.script.Statement.{Statement}
use Rattle.gb_registry.specs.declared.first_fault.FaultAt.{FaultAt}
use Rattle.gb_registry.specs.declared.so_far.SoFar.{SoFar}
use Rattle.gb_registry.specs.Configure.{each_after, missing_tasks, script_missing, statement_faults, statement_missing}
use Rattle.gb_registry.specs.Faults.{first_of}
use Rattle.gb_registry.specs.Faulty.{HasFirst, IsFirstAt, at_or, missing_in, missing_in_script, or_later, wrong_in, wrong_in_script}
use Rattle.gb_registry.specs.New.{AreNew}
use Rattle.gb_registry.specs.Projects.{Path}
use Rattle.gb_registry.specs.References.{Names}
use Rattle.gb_registry.specs.Said.{Said, said_by}
use Rattle.gb_registry.specs.SoFar.{begun, script_after, script_faults, scripts_faults, so_far_after, faults_so_far}
use Rattle.gb_registry.specs.Tables.{Tables}
use Rattle.gb_registry.proofs.Alike.{Alike, IsBefore, begins, each_after-append, more_if_none, none_other, script_alike, scripts_alike}
use Rattle.gb_registry.proofs.Firsts.{first-append}
use Rattle.gb_registry.proofs.Judged.{IsObserved, goes_on, judged}
use Rattle.gb_registry.proofs.Placed.{all_missing, said_missing}

abbrev said : Path → Statement → Said
said project statement = record { project = project; statement = statement }

-- ---- It is the first fault

abbrev pub fault_in : Option FaultAt → Option Fault
fault_in found = option_map (λ at. at.fault) found

at_first : (project : Path) (number : ℕ) (faults : List Fault) (other : Option FaultAt) (more : List Fault) → fault_in other ≡ first_of more
    → fault_in (at_or project number (first_of faults) other) ≡ first_of (faults ++ more)
at_first project number [] other more e = e
at_first project number (fault ∷ faults) other more e = refl

or_first : (one other : Option FaultAt) (faults more : List Fault) → fault_in one ≡ first_of faults → fault_in other ≡ first_of more
    → fault_in (or_later one other) ≡ first_of (faults ++ more)
or_first (Some at) other [] more e f = absurd (cc)
or_first (Some at) other (fault ∷ faults) more e f = e
or_first None other [] more e f = f
or_first None other (fault ∷ faults) more e f = absurd (cc)

no_first : (faults : List Fault) → None ≡ first_of faults → faults ≡ []
no_first [] e = refl
no_first (fault ∷ faults) e = absurd (cc)

module _ {M F Z S A : Type 0} (tables : Tables M F Z S A) where
  script_first : (project : Path) (so_far : SoFar) (number : ℕ) (statements : List Statement)
      → fault_in (wrong_in_script tables project so_far number statements) ≡ first_of (script_faults tables project so_far statements)
  script_first project so_far number [] = refl
  script_first project so_far number (statement ∷ statements) =
      at_first project number (faults_so_far tables project so_far statement) _ _ (script_first project (so_far_after project so_far statement) (number + 1) statements)

  pub wrong_first : (so_far : SoFar) (scripts : List (Path × List Statement)) → fault_in (wrong_in tables so_far scripts) ≡ first_of (scripts_faults tables so_far scripts)
  wrong_first so_far [] = refl
  wrong_first so_far (script ∷ scripts) =
      or_first (wrong_in_script tables script.0 (begun so_far) 0 script.1) _ _ _ (script_first script.0 (begun so_far) 0 script.1)
      (wrong_first (script_after script.0 (begun so_far) script.1) scripts)

module _ (names : Names) where
  script_missing_first : (project : Path) (number : ℕ) (statements : List Statement)
      → fault_in (missing_in_script names project number statements) ≡ first_of (flat_map (statement_missing names project) statements)
  script_missing_first project number [] = refl
  script_missing_first project number (statement ∷ statements) =
      at_first project number (statement_missing names project statement) _ _ (script_missing_first project (number + 1) statements)

  pub missing_first : (scripts : List (Path × List Statement)) → fault_in (missing_in names scripts) ≡ first_of (flat_map (script_missing names) scripts)
  missing_first [] = refl
  missing_first (script ∷ scripts) =
      or_first (missing_in_script names script.0 0 script.1) _ _ _ (script_missing_first script.0 0 script.1) (missing_first scripts)

-- ---- It arises at this statement

same_some : {X : Type 0} (x y : X) → Some x ≡ Some y → x ≡ y
same_some x y e = ap (λ o. unwrap_or o x) e

-- the statement of a script, whose statements count from a number
record InScript (project : Path) (number : ℕ) (statements : List Statement) (at : FaultAt) (Has : List Statement → Statement → Type 0) : Type 0 where
  pub earlier : List Statement
  pub statement : Statement
  pub later : List Statement
  pub all : statements ≡ earlier ++ statement ∷ later
  pub project_is : project ≡ at.project
  pub statement_is : at.statement ≡ number + length earlier
  pub has : Has earlier statement

module _ (project : Path) (number : ℕ) (statement : Statement) (statements : List Statement) (at : FaultAt) (Has : List Statement → Statement → Type 0) where
  here : (fault : Fault) → record { project = project; statement = number; fault = fault } ≡ at → Has [] statement
      → InScript project number (statement ∷ statements) at Has
  here fault same has = record {
    earlier = [];
    statement = statement;
    later = statements;
    all = refl;
    project_is = ap (λ (a : FaultAt). a.project) same;
    statement_is = (let e : at.statement ≡ number = sym (ap (λ (a : FaultAt). a.statement) same) in omega (arith, e));
    has = has;
  }

  further : (Then : List Statement → Statement → Type 0) → InScript project (number + 1) statements at Then
      → ((earlier : List Statement) (one : Statement) → Then earlier one → Has (statement ∷ earlier) one)
      → InScript project number (statement ∷ statements) at Has
  further Then rest more = record {
    earlier = statement ∷ rest.earlier;
    statement = rest.statement;
    later = rest.later;
    all = ap (λ l. statement ∷ l) rest.all;
    project_is = rest.project_is;
    statement_is = (let e : at.statement ≡ number + 1 + length rest.earlier = rest.statement_is in omega (arith, e));
    has = more rest.earlier rest.statement rest.has;
  }

-- the statement of scripts
record InScripts (scripts : List (Path × List Statement)) (at : FaultAt) (Has : List (Path × List Statement) → Path → List Statement → Statement → Type 0) : Type 0 where
  pub before : List (Path × List Statement)
  pub earlier : List Statement
  pub statement : Statement
  pub later : List Statement
  pub after : List (Path × List Statement)
  pub all : scripts ≡ before ++ (at.project, earlier ++ statement ∷ later) ∷ after
  pub statement_is : at.statement ≡ length earlier
  pub has : Has before at.project earlier statement

module _ (script : Path × List Statement) (scripts : List (Path × List Statement)) (at : FaultAt)
    (Has : List (Path × List Statement) → Path → List Statement → Statement → Type 0) where
  in_this : InScript script.0 0 script.1 at (Has [] script.0) → InScripts (script ∷ scripts) at Has
  in_this found = record {
    before = [];
    earlier = found.earlier;
    statement = found.statement;
    later = found.later;
    after = scripts;
    all =
        ap (λ (statements : List Statement). (script.0, statements) ∷ scripts) found.all
        ∙ ap (λ (project : Path). (project, found.earlier ++ found.statement ∷ found.later) ∷ scripts) found.project_is;
    statement_is = (let e : at.statement ≡ 0 + length found.earlier = found.statement_is in omega (arith, e));
    has = subst (λ (project : Path). Has [] project found.earlier found.statement) found.project_is found.has;
  }

  in_later : (Then : List (Path × List Statement) → Path → List Statement → Statement → Type 0) → InScripts scripts at Then
      → ((before : List (Path × List Statement)) (project : Path) (earlier : List Statement) (one : Statement) → Then before project earlier one → Has (script ∷ before) project earlier one)
      → InScripts (script ∷ scripts) at Has
  in_later Then rest more = record {
    before = script ∷ rest.before;
    earlier = rest.earlier;
    statement = rest.statement;
    later = rest.later;
    after = rest.after;
    all = ap (λ l. script ∷ l) rest.all;
    statement_is = rest.statement_is;
    has = more rest.before at.project rest.earlier rest.statement rest.has;
  }

-- ---- A statement with a fault of its own

module _ {M F Z S A : Type 0} (tables : Tables M F Z S A) where
  -- after these statements, and these of its script, it is the first that has a fault, and this is its first one
  abbrev OwnIn : List Said → Path → Fault → List Statement → Statement → Type 0
  OwnIn before project fault earlier statement =
      (each_after (statement_faults tables) before (said_by (project, earlier)) ≡ [])
      × (first_of (statement_faults tables (before ++ said_by (project, earlier)) (said project statement)) ≡ Some fault)

  own_in : (statements : List Statement) (before : List Said) (project : Path) (so_far : SoFar) → IsObserved before project so_far → (number : ℕ) (at : FaultAt)
      → wrong_in_script tables project so_far number statements ≡ Some at → InScript project number statements at (OwnIn before project at.fault)
  own_in [] before project so_far is number at found = absurd (cc)
  own_in (statement ∷ statements) before project so_far is number at found =
      by (λ own later. own_in statements (before ++ said project statement ∷ []) project (so_far_after project so_far statement) (goes_on tables before project so_far is statement own) (number + 1) at later)
      (faults_so_far tables project so_far statement) refl
    where
      rest : Option FaultAt
      rest = wrong_in_script tables project (so_far_after project so_far statement) (number + 1) statements

      by : (statement_faults tables before (said project statement) ≡ [] → rest ≡ Some at
          → InScript project (number + 1) statements at (OwnIn (before ++ said project statement ∷ []) project at.fault))
          → (faults : List Fault) → faults_so_far tables project so_far statement ≡ faults
          → InScript project number (statement ∷ statements) at (OwnIn before project at.fault)
      by next [] none =
          let own : statement_faults tables before (said project statement) ≡ [] = sym (judged tables before project so_far is statement) ∙ none in
          further project number statement statements at (OwnIn before project at.fault) (OwnIn (before ++ said project statement ∷ []) project at.fault)
          (next own (ap (λ (faults : List Fault). at_or project number (first_of faults) rest) (sym none) ∙ found))
          (λ earlier one has. (
            ap (λ l. l ++ each_after (statement_faults tables) (before ++ said project statement ∷ []) (said_by (project, earlier))) own ∙ has.0,
            ap (λ l. first_of (statement_faults tables l (said project one))) (sym (append_assoc before (said project statement ∷ []) (said_by (project, earlier)))) ∙ has.1,
          ))
      by next (fault ∷ faults) some =
          let same : record { project = project; statement = number; fault = fault } ≡ at =
          same_some _ at (ap (λ (faults : List Fault). at_or project number (first_of faults) rest) (sym some) ∙ found) in
          here project number statement statements at (OwnIn before project at.fault) fault same (
            refl,
            ap (λ l. first_of (statement_faults tables l (said project statement))) (append-nil before)
                ∙ ap first_of (sym (judged tables before project so_far is statement) ∙ some)
                ∙ ap (λ (a : FaultAt). Some a.fault) same,
          )

  abbrev OwnAmong : List Said → Fault → List (Path × List Statement) → Path → List Statement → Statement → Type 0
  OwnAmong before fault prefix project earlier statement =
      (each_after (statement_faults tables) before (flat_map said_by prefix ++ said_by (project, earlier)) ≡ [])
      × (first_of (statement_faults tables (before ++ (flat_map said_by prefix ++ said_by (project, earlier))) (said project statement)) ≡ Some fault)

  own_among : (scripts : List (Path × List Statement)) (before : List Said) (so_far : SoFar) → IsBefore before so_far → AreNew before scripts → (at : FaultAt)
      → wrong_in tables so_far scripts ≡ Some at → InScripts scripts at (OwnAmong before at.fault)
  own_among [] before so_far is new at found = absurd (cc)
  own_among (script ∷ scripts) before so_far is new at found =
      by (λ next later. own_among scripts (before ++ said_by script) (script_after script.0 (begun so_far) script.1) next new.1 at later)
      (wrong_in_script tables script.0 (begun so_far) 0 script.1) refl
    where
      after : SoFar
      after = script_after script.0 (begun so_far) script.1

      rest : Option FaultAt
      rest = wrong_in tables after scripts

      observed_is : IsObserved before script.0 (begun so_far)
      observed_is = begins before script.0 so_far is new.0

      by : (IsBefore (before ++ said_by script) after → rest ≡ Some at → InScripts scripts at (OwnAmong (before ++ said_by script) at.fault))
          → (first : Option FaultAt) → wrong_in_script tables script.0 (begun so_far) 0 script.1 ≡ first
          → InScripts (script ∷ scripts) at (OwnAmong before at.fault)
      by goes (Some one) some =
          let same : Some one ≡ Some at = ap (λ (first : Option FaultAt). or_later first rest) (sym some) ∙ found in
          in_this script scripts at (OwnAmong before at.fault) (own_in script.1 before script.0 (begun so_far) observed_is 0 at (some ∙ same))
      by goes None none =
          let faultless : script_faults tables script.0 (begun so_far) script.1 ≡ [] =
          no_first (script_faults tables script.0 (begun so_far) script.1) (ap fault_in (sym none) ∙ script_first tables script.0 (begun so_far) 0 script.1) in
          let alike = script_alike tables script.0 script.1 before (begun so_far) observed_is in
          let next = more_if_none _ _ alike faultless in
          let own = none_other (script_faults tables script.0 (begun so_far) script.1) _ alike faultless in
          in_later script scripts at (OwnAmong before at.fault) (OwnAmong (before ++ said_by script) at.fault)
          (goes (record { tasks = next.tasks; count = next.count }) (ap (λ (first : Option FaultAt). or_later first rest) (sym none) ∙ found))
          (λ prefix project earlier one has.
          let last = flat_map said_by prefix ++ said_by (project, earlier) in
          let whole = append_assoc (said_by script) (flat_map said_by prefix) (said_by (project, earlier)) in (
            ap (each_after (statement_faults tables) before) whole ∙ each_after-append (statement_faults tables) before (said_by script) last
                ∙ ap (λ l. l ++ each_after (statement_faults tables) (before ++ said_by script) last) own ∙ has.0,
            ap (λ l. first_of (statement_faults tables (before ++ l) (said project one))) whole
                ∙ ap (λ l. first_of (statement_faults tables l (said project one))) (sym (append_assoc before (said_by script) last)) ∙ has.1,
          ))

-- ---- A statement that names a missing task

module _ (names : Names) where
  abbrev GapIn : Path → Fault → List Statement → Statement → Type 0
  GapIn project fault earlier statement =
      (flat_map (missing_tasks names) (said_by (project, earlier)) ≡ []) × (first_of (missing_tasks names (said project statement)) ≡ Some fault)

  gap_in : (statements : List Statement) (project : Path) (number : ℕ) (at : FaultAt) → missing_in_script names project number statements ≡ Some at
      → InScript project number statements at (GapIn project at.fault)
  gap_in [] project number at found = absurd (cc)
  gap_in (statement ∷ statements) project number at found =
      by (λ later. gap_in statements project (number + 1) at later) (statement_missing names project statement) refl
    where
      rest : Option FaultAt
      rest = missing_in_script names project (number + 1) statements

      by : (rest ≡ Some at → InScript project (number + 1) statements at (GapIn project at.fault))
          → (faults : List Fault) → statement_missing names project statement ≡ faults → InScript project number (statement ∷ statements) at (GapIn project at.fault)
      by next [] none =
          further project number statement statements at (GapIn project at.fault) (GapIn project at.fault)
          (next (ap (λ (faults : List Fault). at_or project number (first_of faults) rest) (sym none) ∙ found))
          (λ earlier one has. (ap (λ l. l ++ flat_map (missing_tasks names) (said_by (project, earlier))) none ∙ has.0, has.1))
      by next (fault ∷ faults) some =
          let same : record { project = project; statement = number; fault = fault } ≡ at =
          same_some _ at (ap (λ (faults : List Fault). at_or project number (first_of faults) rest) (sym some) ∙ found) in
          here project number statement statements at (GapIn project at.fault) fault same (refl, ap first_of some ∙ ap (λ (a : FaultAt). Some a.fault) same)

  abbrev GapAmong : Fault → List (Path × List Statement) → Path → List Statement → Statement → Type 0
  GapAmong fault prefix project earlier statement =
      (flat_map (missing_tasks names) (flat_map said_by prefix ++ said_by (project, earlier)) ≡ [])
      × (first_of (missing_tasks names (said project statement)) ≡ Some fault)

  gap_among : (scripts : List (Path × List Statement)) (at : FaultAt) → missing_in names scripts ≡ Some at → InScripts scripts at (GapAmong at.fault)
  gap_among [] at found = absurd (cc)
  gap_among (script ∷ scripts) at found =
      by (λ later. gap_among scripts at later) (missing_in_script names script.0 0 script.1) refl
    where
      rest : Option FaultAt
      rest = missing_in names scripts

      by : (rest ≡ Some at → InScripts scripts at (GapAmong at.fault))
          → (first : Option FaultAt) → missing_in_script names script.0 0 script.1 ≡ first → InScripts (script ∷ scripts) at (GapAmong at.fault)
      by next (Some one) some =
          let same : Some one ≡ Some at = ap (λ (first : Option FaultAt). or_later first rest) (sym some) ∙ found in
          in_this script scripts at (GapAmong at.fault) (gap_in script.1 script.0 0 at (some ∙ same))
      by next None none =
          let own : flat_map (statement_missing names script.0) script.1 ≡ [] =
          no_first (flat_map (statement_missing names script.0) script.1) (ap fault_in (sym none) ∙ script_missing_first names script.0 0 script.1) in
          in_later script scripts at (GapAmong at.fault) (GapAmong at.fault)
          (next (ap (λ (first : Option FaultAt). or_later first rest) (sym none) ∙ found))
          (λ prefix project earlier one has.
          let last = flat_map said_by prefix ++ said_by (project, earlier) in (
            ap (flat_map (missing_tasks names)) (append_assoc (said_by script) (flat_map said_by prefix) (said_by (project, earlier)))
                ∙ flat_map-append (missing_tasks names) (said_by script) last
                ∙ ap (λ l. l ++ flat_map (missing_tasks names) last) (said_missing names script.0 script.1 ∙ own)
                ∙ has.0,
            has.1,
          ))

-- ---- Both

pub no_own_observed : {M F Z S A : Type 0} (tables : Tables M F Z S A) (scripts : List (Path × List Statement)) (so_far : SoFar) → wrong_in tables so_far scripts ≡ None → scripts_faults tables so_far scripts ≡ []
no_own_observed tables scripts so_far none = no_first (scripts_faults tables so_far scripts) (ap fault_in (sym none) ∙ wrong_first tables so_far scripts)

alike_first : (xs ys : List Fault) {More : Type 0} → Alike xs ys More → (fault : Fault) → first_of xs ≡ Some fault → first_of ys ≡ Some fault
alike_first xs ys (inl (other, here, there)) fault first = there ∙ sym here ∙ first
alike_first xs ys (inr (here, there, more)) fault first = absurd (cc)

module _ {M F Z S A : Type 0} (tables : Tables M F Z S A) (names : Names) (scripts : List (Path × List Statement)) where
  first_at : (at : FaultAt) (Has : List (Path × List Statement) → Path → List Statement → Statement → Type 0) → InScripts scripts at Has
      → ((prefix : List (Path × List Statement)) (project : Path) (earlier : List Statement) (one : Statement) → Has prefix project earlier one
      → HasFirst tables names scripts (flat_map said_by prefix ++ said_by (project, earlier)) (said project one) at.fault)
      → IsFirstAt tables names scripts at
  first_at at Has found first = record {
    before = found.before;
    earlier = found.earlier;
    statement = found.statement;
    later = found.later;
    after = found.after;
    all = found.all;
    number = found.statement_is;
    first = first found.before at.project found.earlier found.statement found.has;
  }

  own_at : (so_far : SoFar) → IsBefore [] so_far → AreNew [] scripts → (at : FaultAt) → wrong_in tables so_far scripts ≡ Some at
      → IsFirstAt tables names scripts at
  own_at so_far is new at found =
      first_at at (OwnAmong tables [] at.fault) (own_among tables scripts [] so_far is new at found) (λ prefix project earlier one has. inl has)

  gap_at : each_after (statement_faults tables) [] (flat_map said_by scripts) ≡ [] → (at : FaultAt) → missing_in names scripts ≡ Some at
      → IsFirstAt tables names scripts at
  gap_at none at found =
      first_at at (GapAmong names at.fault) (gap_among names scripts at found) (λ prefix project earlier one has. inr (none, has.0, has.1))

  -- the scripts are new, and this is the state before them
  module _ (so_far : SoFar) (start : IsBefore [] so_far) (new : AreNew [] scripts) where
    abbrev own_faults : List Fault
    own_faults = each_after (statement_faults tables) [] (flat_map said_by scripts)

    abbrev gaps : List Fault
    gaps = flat_map (missing_tasks names) (flat_map said_by scripts)

    no_own : wrong_in tables so_far scripts ≡ None → own_faults ≡ []
    no_own none =
        none_other (scripts_faults tables so_far scripts) own_faults (scripts_alike tables scripts [] so_far start new) (no_own_observed tables scripts so_far none)

    pub own_first : (at : FaultAt) → wrong_in tables so_far scripts ≡ Some at → Some at.fault ≡ first_of (own_faults ++ gaps)
    own_first at found =
        sym (first-append own_faults gaps at.fault
        (alike_first (scripts_faults tables so_far scripts) own_faults (scripts_alike tables scripts [] so_far start new) at.fault
        (sym (wrong_first tables so_far scripts) ∙ ap fault_in found)))

    pub own_there : (at : FaultAt) → wrong_in tables so_far scripts ≡ Some at → IsFirstAt tables names scripts at
    own_there at found = own_at so_far start new at found

    pub gap_first : wrong_in tables so_far scripts ≡ None → (found : Option FaultAt) → found ≡ missing_in names scripts → fault_in found ≡ first_of (own_faults ++ gaps)
    gap_first none found is =
        ap fault_in is ∙ missing_first names scripts
        ∙ ap first_of (sym (all_missing names scripts))
        ∙ ap (λ own. first_of (own ++ gaps)) (sym (no_own none))

    pub gap_there : wrong_in tables so_far scripts ≡ None → (found : Option FaultAt) → found ≡ missing_in names scripts → IfSome found (IsFirstAt tables names scripts)
    gap_there none None is = tt
    gap_there none (Some at) is = gap_at (no_own none) at (sym is)
