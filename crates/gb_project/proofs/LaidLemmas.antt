-- Scripts that are laid, and whose tasks are declared, one script after another.
use Rattle.std.proofs.Common.{◌≡◌, ℕ, zero, suc, ◌+◌, ◌<◌, ◌≤◌, List, [], ◌∷◌, ◌++◌, length, drop, take, get_or, refl, sym, ap, subst, ◌∙◌, arith, append_assoc}
use Rattle.std.proofs.lemmas.List.{length-map, length-take-le, map-append, take_more}
use Rattle.std.specs.List.{AllByRecursion, flat_map}
use Rattle.gb_provider.specs.Meanings.{Meanings}
use Rattle.gb_provider.specs.Table.{Table}
use Rattle.gb_provider.specs.declared.expression.Expression.{Expression}
use Rattle.gb_registry.proofs.Firsts.{left_from}
use Rattle.gb_registry.specs.Projects.{Path}
use Rattle.gb_registry.specs.References.{Names}
use Rattle.gb_registry.specs.Said.{Registered}
use Rattle.gb_registry.specs.SoFar.{scripts_in}
use Rattle.gb_registry.specs.Tables.{Tables}
use Rattle.gb_registry.specs.declared.checking.Scripted.{Scripted}
use Rattle.gb_report.specs.declared.fault.Fault.{Fault}
use Rattle.gb_script.specs.declared.script.Statement.{Statement}
use Rattle.gb_declare.specs.Joined.{Named}
use Rattle.gb_declare.proofs.MakingLemmas.{there_on}
use Rattle.gb_declare.specs.Scripts.{laid_site, script_faults, script_made, script_site}
use Rattle.gb_declare.specs.Site.{AreThere, Site}
use Rattle.gb_declare.specs.NodesInTable.{scripts_faults, scripts_made, sites_made}
use Rattle.gb_declare.specs.declared.script_nodes.Laid.{Laid}
use Rattle.gb_project.proofs.ScriptLemmas.{count_folded}
use Rattle.gb_project.specs.Stage.{AreAllGood, Stage, with_script, with_scripts}
use Rattle.gb_project.specs.Steps.{Begins, laid_sites, task_paths}
use Rattle.gb_project.specs.Tasks.{script_tasks}

abbrev pub Script : Type 0
Script = Path × List Statement

abbrev pub script_in : Scripted → Script
script_in scripted = (scripted.project, scripted.script)

-- the rest of the scripts from one on
pub scripts_from : (scripts : List Scripted) (i : ℕ) (scripted : Scripted) → i < length scripts → scripted ≡ get_or scripts i scripted → scripts_in (drop i scripts) ≡ script_in scripted ∷ scripts_in (drop (i + 1) scripts)
scripts_from scripts i scripted below is = ap scripts_in (left_from scripts i scripted below is)

-- ---- Sites

-- one more script is laid
pub sites_more : (given : List (Named (List ℕ))) (scripts : List Script) (laid : List Laid) (script : Script) (one : Laid) → length scripts ≡ length laid
    → laid_sites given (scripts ++ script ∷ []) (laid ++ one ∷ []) ≡ laid_sites given scripts laid ++ laid_site script.0 one given ∷ []
sites_more given [] [] script one same = refl
sites_more given [] (other ∷ laid) script one same = absurd (omega (arith, same))
sites_more given (first ∷ scripts) [] script one same = absurd (omega (arith, same))
sites_more given (first ∷ scripts) (other ∷ laid) script one same = ap (λ sites. laid_site first.0 other given ∷ sites) (sites_more given scripts laid script one (omega (arith, same)))

-- the sites that are left
pub sites_left : (given : List (Named (List ℕ))) (scripts : List Scripted) (i : ℕ) (scripted : Scripted) (rest others : List Laid) (one : Laid) → i < length scripts → scripted ≡ get_or scripts i scripted → rest ≡ one ∷ others
    → laid_sites given (scripts_in (drop i scripts)) rest ≡ laid_site scripted.project one given ∷ laid_sites given (scripts_in (drop (i + 1) scripts)) others
sites_left given scripts i scripted rest others one below is cut =
    ap (laid_sites given (scripts_in (drop i scripts))) cut ∙ ap (λ ss. laid_sites given ss (one ∷ others)) (scripts_from scripts i scripted below is)

-- ---- Scripts that are laid one after another

module _ {M F Z S : Type 0} (functions table : Table M F Z S) (same : table ≡ functions) (given : List (Named (List ℕ))) (scripts : List Scripted) (i : ℕ) (scripted : Scripted) (below : i < length scripts) (is : scripted ≡ get_or scripts i scripted)
    (nodes new : List (Expression M F Z)) where
  abbrev made_by : Table M F Z S → List (Expression M F Z)
  made_by f = script_made f scripted.project given nodes scripted.script

  new_is : new ≡ made_by table → made_by functions ≡ new
  new_is made = ap made_by (sym same) ∙ sym made

  pub made_on : (whole : List (Expression M F Z)) → new ≡ made_by table → whole ≡ scripts_made functions given nodes (scripts_in (drop i scripts)) → whole ≡ scripts_made functions given new (scripts_in (drop (i + 1) scripts))
  made_on whole made before =
      before ∙ ap (scripts_made functions given nodes) (scripts_from scripts i scripted below is) ∙ ap (λ n. scripts_made functions given n (scripts_in (drop (i + 1) scripts))) (new_is made)

  pub sites_on : (whole : List Site) (laid laid' : List Laid) (one : Laid) → length laid ≡ i → laid' ≡ laid ++ one ∷ [] → new ≡ made_by table → laid_site scripted.project one given ≡ script_site scripted.project given (length nodes) scripted.script
      → whole ≡ laid_sites given (scripts_in (take i scripts)) laid ++ sites_made functions given nodes (scripts_in (drop i scripts))
      → whole ≡ laid_sites given (scripts_in (take (i + 1) scripts)) laid' ++ sites_made functions given new (scripts_in (drop (i + 1) scripts))
  sites_on whole laid laid' one count pushed made site before =
      let prefix = scripts_in (take i scripts) in
      let rest = scripts_in (drop (i + 1) scripts) in
      let here = laid_site scripted.project one given in
      let long : length prefix ≡ length laid = length-map (take i scripts) script_in ∙ length-take-le i scripts (omega (arith, below)) ∙ sym count in
      let more : scripts_in (take (i + 1) scripts) ≡ prefix ++ script_in scripted ∷ [] =
      ap scripts_in (take_more scripts i scripted below ∙ ap (λ s. take i scripts ++ s ∷ []) (sym is)) ∙ map-append script_in (take i scripts) (scripted ∷ []) in
      let left : sites_made functions given nodes (scripts_in (drop i scripts)) ≡ here ∷ sites_made functions given new rest =
      ap (sites_made functions given nodes) (scripts_from scripts i scripted below is)
      ∙ ap (λ s. s ∷ sites_made functions given (made_by functions) rest) (sym site) ∙ ap (λ n. here ∷ sites_made functions given n rest) (new_is made) in
      let joined : laid_sites given (scripts_in (take (i + 1) scripts)) laid' ≡ laid_sites given prefix laid ++ here ∷ [] =
      ap (λ ss. laid_sites given ss laid') more ∙ ap (laid_sites given (prefix ++ script_in scripted ∷ [])) pushed ∙ sites_more given prefix laid (script_in scripted) one long in
      before ∙ ap (λ l. laid_sites given prefix laid ++ l) left ∙ sym (append_assoc (laid_sites given prefix laid) (here ∷ []) (sites_made functions given new rest)) ∙ ap (λ l. l ++ sites_made functions given new rest) (sym joined)

  module _ (means : Meanings M F Z S) where
    abbrev faults_by : Table M F Z S → List Fault
    faults_by f = script_faults means f scripted.project given nodes scripted.script

    pub faults_here : (whole : List Fault) → whole ≡ scripts_faults functions given means nodes (scripts_in (drop i scripts)) → whole ≡ faults_by table ++ scripts_faults functions given means (made_by functions) (scripts_in (drop (i + 1) scripts))
    faults_here whole before =
        before ∙ ap (scripts_faults functions given means nodes) (scripts_from scripts i scripted below is)
        ∙ ap (λ f. faults_by f ++ scripts_faults functions given means (made_by functions) (scripts_in (drop (i + 1) scripts))) (sym same)

    pub good_more : (whole : List Fault) → new ≡ made_by table → faults_by table ≡ [] → whole ≡ scripts_faults functions given means nodes (scripts_in (drop i scripts))
        → whole ≡ scripts_faults functions given means new (scripts_in (drop (i + 1) scripts))
    good_more whole made clear before =
        faults_here whole before ∙ ap (λ fs. fs ++ scripts_faults functions given means (made_by functions) (scripts_in (drop (i + 1) scripts))) clear
        ∙ ap (λ n. scripts_faults functions given means n (scripts_in (drop (i + 1) scripts))) (new_is made)

-- what is present stays present
pub all_there : (sites : List Site) (n m : ℕ) → n ≤ m → AllByRecursion (λ site. AreThere site n) sites → AllByRecursion (λ site. AreThere site m) sites
all_there [] n m le all = tt
all_there (site ∷ sites) n m le all = (there_on site n m le all.0, all_there sites n m le all.1)

-- ---- Tasks

drop_drop : (paths : List Path) (n m : ℕ) → drop m (drop n paths) ≡ drop (n + m) paths
drop_drop paths zero m = let same : m ≡ zero + m = omega arith in ap (λ k. drop k paths) same
drop_drop [] (suc n) m = nothing m ∙ sym (nothing (suc n + m))
  where
    nothing : (k : ℕ) → drop {A = Path} k [] ≡ []
    nothing zero = refl
    nothing (suc k) = refl
drop_drop (path ∷ paths) (suc n) m = let same : suc (n + m) ≡ suc n + m = omega arith in drop_drop paths n m ∙ ap (λ k. drop k (path ∷ paths)) same

drop_prefix : (prefix rest : List Path) → drop (length prefix) (prefix ++ rest) ≡ rest
drop_prefix [] rest = refl
drop_prefix (path ∷ prefix) rest = drop_prefix prefix rest

-- the paths after those of some tasks
pub begins_after : (paths prefix back : List Path) (n m : ℕ) → m ≡ n + length prefix → Begins (prefix ++ back) (drop n paths) → Begins back (drop m paths)
begins_after paths prefix back n m more begins = (
  begins.0,
  ap (λ k. drop k paths) more ∙ sym (drop_drop paths n (length prefix)) ∙ ap (drop (length prefix)) (begins.1 ∙ append_assoc prefix back begins.0) ∙ drop_prefix prefix (back ++ begins.0),
)

pub begins_before : (paths prefix back : List Path) → Begins (prefix ++ back) paths → Begins prefix paths
begins_before paths prefix back begins = (back ++ begins.0, begins.1 ∙ append_assoc prefix back begins.0)

tasks_first : (script : Script) (scripts : List Script) → task_paths (flat_map script_tasks (script ∷ scripts)) ≡ task_paths (script_tasks script) ++ task_paths (flat_map script_tasks scripts)
tasks_first script scripts = map-append (λ (task : Registered). task.path) (script_tasks script) (flat_map script_tasks scripts)

module _ {M F Z S A : Type 0} (tables : Tables M F Z S A) (names : Names) (given : List (Named (List ℕ))) (scripts : List Scripted) (i : ℕ) (scripted : Scripted) (below : i < length scripts) (is : scripted ≡ get_or scripts i scripted) where
  paths_left : (paths : List Path) → Begins (task_paths (flat_map script_tasks (scripts_in (drop i scripts)))) paths
      → Begins (task_paths (script_tasks (script_in scripted)) ++ task_paths (flat_map script_tasks (scripts_in (drop (i + 1) scripts)))) paths
  paths_left paths begins =
      subst (λ prefix. Begins prefix paths) (ap (λ ss. task_paths (flat_map script_tasks ss)) (scripts_from scripts i scripted below is) ∙ tasks_first (script_in scripted) (scripts_in (drop (i + 1) scripts))) begins

  pub next_script : (paths : List Path) → Begins (task_paths (flat_map script_tasks (scripts_in (drop i scripts)))) paths → Begins (task_paths (script_tasks (script_in scripted))) paths
  next_script paths begins =
      begins_before paths (task_paths (script_tasks (script_in scripted))) (task_paths (flat_map script_tasks (scripts_in (drop (i + 1) scripts)))) (paths_left paths begins)

  module _ (rest others : List Laid) (one : Laid) (cut : rest ≡ one ∷ others) where
    abbrev here : Site
    here = laid_site scripted.project one given

    abbrev left : List Laid → ℕ → List Site
    left laid k = laid_sites given (scripts_in (drop k scripts)) laid

    sites_are : left rest i ≡ here ∷ left others (i + 1)
    sites_are = sites_left given scripts i scripted rest others one below is cut

    -- one script more
    pub scripts_on : (whole stage stage' : Stage M F Z) → stage' ≡ with_script tables names here stage (script_in scripted)
        → whole ≡ with_scripts tables names stage (left rest i) (scripts_in (drop i scripts)) → whole ≡ with_scripts tables names stage' (left others (i + 1)) (scripts_in (drop (i + 1) scripts))
    scripts_on whole stage stage' more before =
        before ∙ ap (λ sites. with_scripts tables names stage sites (scripts_in (drop i scripts))) sites_are
        ∙ ap (with_scripts tables names stage (here ∷ left others (i + 1))) (scripts_from scripts i scripted below is)
        ∙ sym (ap (λ t. with_scripts tables names t (left others (i + 1)) (scripts_in (drop (i + 1) scripts))) more)

    good_both : AreAllGood tables names (left rest i) (scripts_in (drop i scripts)) → AreAllGood tables names (here ∷ left others (i + 1)) (script_in scripted ∷ scripts_in (drop (i + 1) scripts))
    good_both all =
        subst (AreAllGood tables names (here ∷ left others (i + 1))) (scripts_from scripts i scripted below is)
        (subst (λ sites. AreAllGood tables names sites (scripts_in (drop i scripts))) sites_are all)

    pub good_scripts : AreAllGood tables names (left rest i) (scripts_in (drop i scripts)) → AreAllGood tables names (left others (i + 1)) (scripts_in (drop (i + 1) scripts))
    good_scripts all = (good_both all).1

    there_both : (n : ℕ) → AllByRecursion (λ site. AreThere site n) (left rest i) → AllByRecursion (λ site. AreThere site n) (here ∷ left others (i + 1))
    there_both n all = subst (AllByRecursion (λ site. AreThere site n)) sites_are all

    pub there_script : (n : ℕ) → AllByRecursion (λ site. AreThere site n) (left rest i) → AreThere here n
    there_script n all = (there_both n all).0

    pub there_scripts : (n m : ℕ) → n ≤ m → AllByRecursion (λ site. AreThere site n) (left rest i) → AllByRecursion (λ site. AreThere site m) (left others (i + 1))
    there_scripts n m le all = all_there (left others (i + 1)) n m le (there_both n all).1

    pub next_scripts : (paths : List Path) (stage stage' : Stage M F Z) → stage' ≡ with_script tables names here stage (script_in scripted)
        → Begins (task_paths (flat_map script_tasks (scripts_in (drop i scripts)))) (drop (length stage.faults) paths)
        → Begins (task_paths (flat_map script_tasks (scripts_in (drop (i + 1) scripts)))) (drop (length stage'.faults) paths)
    next_scripts paths stage stage' more begins =
        let tasks = script_tasks (script_in scripted) in
        let long : length stage'.faults ≡ length stage.faults + length (task_paths tasks) =
        ap (λ (t : Stage M F Z). length t.faults) more ∙ count_folded tables names here scripted.script stage tasks ∙ ap (λ k. length stage.faults + k) (sym (length-map tasks (λ (task : Registered). task.path))) in
        begins_after paths (task_paths tasks) (task_paths (flat_map script_tasks (scripts_in (drop (i + 1) scripts)))) (length stage.faults) (length stage'.faults) long
        (paths_left (drop (length stage.faults) paths) begins)
