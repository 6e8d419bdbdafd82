-- Scripts that are checked one after another report the first of all their faults.
use Rattle.std.proofs.Common.{◌≡◌, ◌⊎◌, inl, inr, List, [], ◌∷◌, ◌++◌, append_assoc, refl, sym, ap, subst, ◌∙◌, Some}
use Rattle.std.specs.Prelude.{filter_map}
use Rattle.std.specs.List.{flat_map, list_any}
use Rattle.std.proofs.lemmas.List.{append-nil}
use Rattle.gb_core.specs.Lists.{first_of}
use Rattle.gb_report.specs.declared.fault.Fault.{Fault}
use Rattle.gb_script.specs.declared.script.Statement.{Statement}
use Rattle.gb_registry.specs.declared.so_far.SoFar.{SoFar}
use Rattle.gb_registry.specs.Configure.{each_after, finalizes, statement_faults}
use Rattle.gb_registry.specs.Faults.{IsFirstFault}
use Rattle.gb_registry.specs.New.{AreNew}
use Rattle.gb_registry.specs.Projects.{Path}
use Rattle.gb_registry.specs.Said.{Said, declared_property, paths_of, said_by, script_of}
use Rattle.gb_registry.specs.SoFar.{begun, script_after, script_faults, scripts_after, scripts_faults, so_far_after, faults_so_far}
use Rattle.gb_registry.specs.Tables.{Tables}
use Rattle.gb_registry.proofs.Firsts.{first-append}
use Rattle.gb_registry.proofs.Judged.{IsObserved, count_of, goes_on, judged}

-- the same first fault, or no fault in both and also `More`
abbrev pub Alike : List Fault → List Fault → Type 0 → Type 0
Alike xs ys More = ((fault : Fault) × (first_of xs ≡ Some fault) × (first_of ys ≡ Some fault)) ⊎ ((xs ≡ []) × (ys ≡ []) × More)

none_first : (faults : List Fault) (fault : Fault) → faults ≡ [] → first_of faults ≡ Some fault → ⊥
none_first faults fault none first = absurd (cc)

pub more_if_none : (xs ys : List Fault) {More : Type 0} → Alike xs ys More → xs ≡ [] → More
more_if_none xs ys (inl (fault, here, there)) none = absurd (none_first xs fault none here)
more_if_none xs ys (inr (here, there, more)) none = more

-- two lists alike, each followed by more
both_alike : (xs ys : List Fault) (More : Type 0) (xs' ys' : List Fault) (More' : Type 0) → Alike xs ys More → (More → Alike xs' ys' More') → Alike (xs ++ xs') (ys ++ ys') More'
both_alike xs ys More xs' ys' More' (inl (fault, here, there)) next = inl (fault, first-append xs xs' fault here, first-append ys ys' fault there)
both_alike xs ys More xs' ys' More' (inr (here, there, more)) next =
    subst (λ zs. Alike (zs ++ xs') (ys ++ ys') More') (sym here) (subst (λ zs. Alike xs' (zs ++ ys') More') (sym there) (next more))

-- a list is alike itself
same_alike : (xs ys : List Fault) (More : Type 0) → xs ≡ ys → (ys ≡ [] → More) → Alike xs ys More
same_alike xs [] More same more = inr (same, refl, more refl)
same_alike xs (fault ∷ ys) More same more = inl (fault, ap first_of same, refl)

abbrev said : Path → Statement → Said
said project statement = record { project = project; statement = statement }

pub each_after-append : {A B : Type 0} (f : List A → A → List B) (before xs ys : List A) → each_after f before (xs ++ ys) ≡ each_after f before xs ++ each_after f (before ++ xs) ys
each_after-append f before [] ys = ap (λ b. each_after f b ys) (sym (append-nil before))
each_after-append f before (x ∷ xs) ys =
    ap (λ l. f before x ++ l) (each_after-append f (before ++ x ∷ []) xs ys)
    ∙ sym (append_assoc (f before x) (each_after f (before ++ x ∷ []) xs) _)
    ∙ ap (λ b. f before x ++ each_after f (before ++ x ∷ []) xs ++ each_after f b ys) (append_assoc before (x ∷ []) xs)

module _ {M F Z S A : Type 0} (tables : Tables M F Z S A) where
  pub script_alike : (project : Path) (script : List Statement) (before : List Said) (so_far : SoFar) → IsObserved before project so_far
      → Alike (script_faults tables project so_far script) (each_after (statement_faults tables) before (said_by (project, script))) (IsObserved (before ++ said_by (project, script)) project (script_after project so_far script))
  script_alike project [] before so_far is = inr (refl, refl, subst (λ b. IsObserved b project so_far) (sym (append-nil before)) is)
  script_alike project (statement ∷ script) before so_far is =
      both_alike (faults_so_far tables project so_far statement) (statement_faults tables before (said project statement)) (IsObserved (before ++ said project statement ∷ []) project (so_far_after project so_far statement)) _ _ _
      (same_alike _ _ _ (judged tables before project so_far is statement) (goes_on tables before project so_far is statement))
      (λ next. subst (λ b. Alike (script_faults tables project (so_far_after project so_far statement) script) (each_after (statement_faults tables) (before ++ said project statement ∷ []) (said_by (project, script))) (IsObserved b project (script_after project (so_far_after project so_far statement) script)))
      (append_assoc before (said project statement ∷ []) (said_by (project, script)))
      (script_alike project script (before ++ said project statement ∷ []) (so_far_after project so_far statement) next))

-- the tasks and the count of properties are those of these statements
pub record IsBefore (before : List Said) (so_far : SoFar) : Type 0 where
  pub tasks : so_far.tasks ≡ paths_of before
  pub count : so_far.count ≡ count_of before

-- nothing is before the first script
pub starts : (so_far : SoFar) → so_far ≡ record { tasks = []; properties = []; finals = []; count = 0 } → IsBefore [] so_far
starts so_far is = record { tasks = ap (λ s. s.tasks) is; count = ap (λ s. s.count) is }

pub begins : (before : List Said) (project : Path) (so_far : SoFar) → IsBefore before so_far → script_of before project ≡ [] → IsObserved before project (begun so_far)
begins before project so_far is new = record {
  tasks = is.tasks;
  properties = sym (ap (filter_map declared_property) new);
  finals = λ name. sym (ap (list_any (finalizes name)) new);
  count = is.count;
}

module _ {M F Z S A : Type 0} (tables : Tables M F Z S A) where
  pub scripts_alike : (scripts : List (Path × List Statement)) (before : List Said) (so_far : SoFar) → IsBefore before so_far → AreNew before scripts
      → Alike (scripts_faults tables so_far scripts) (each_after (statement_faults tables) before (flat_map said_by scripts)) (IsBefore (before ++ flat_map said_by scripts) (scripts_after so_far scripts))
  scripts_alike [] before so_far is new = inr (refl, refl, subst (λ b. IsBefore b so_far) (sym (append-nil before)) is)
  scripts_alike (script ∷ scripts) before so_far is new =
      let after = script_after script.0 (begun so_far) script.1 in
      let said_more = before ++ said_by script in
      subst (λ faults. Alike (scripts_faults tables so_far (script ∷ scripts)) faults (IsBefore (before ++ (said_by script ++ flat_map said_by scripts)) (scripts_after after scripts)))
      (sym (each_after-append (statement_faults tables) before (said_by script) (flat_map said_by scripts)))
      (both_alike (script_faults tables script.0 (begun so_far) script.1) (each_after (statement_faults tables) before (said_by script)) (IsObserved said_more script.0 after) _ _ _
      (script_alike tables script.0 script.1 before (begun so_far) (begins before script.0 so_far is new.0))
      (λ next. subst (λ b. Alike (scripts_faults tables after scripts) (each_after (statement_faults tables) said_more (flat_map said_by scripts)) (IsBefore b (scripts_after after scripts)))
      (append_assoc before (said_by script) (flat_map said_by scripts))
      (scripts_alike scripts said_more after (record { tasks = next.tasks; count = next.count }) new.1)))

pub none_other : (xs ys : List Fault) {More : Type 0} → Alike xs ys More → xs ≡ [] → ys ≡ []
none_other xs ys (inl (fault, here, there)) none = absurd (none_first xs fault none here)
none_other xs ys (inr (here, there, more)) none = there

pub first_other : (xs ys : List Fault) {More : Type 0} (reported : Fault) → Alike xs ys More → IsFirstFault xs reported → IsFirstFault ys reported
first_other xs ys reported alike (inl memory) = inl memory
first_other xs ys reported (inl (fault, here, there)) (inr first) = inr (there ∙ sym here ∙ first)
first_other xs ys reported (inr (here, there, more)) (inr first) = absurd (none_first xs reported here first)
