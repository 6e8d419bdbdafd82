-- Scripts without a fault register each path once.
use Rattle.std.proofs.Common.{◌≡◌, Bool, true, false, List, [], ◌∷◌, ◌++◌, refl, sym, ap, subst, ◌∙◌}
use Rattle.std.specs.Prelude.{Some, if◌then◌else◌}
use Rattle.std.specs.List.{flat_map}
use Rattle.gb_script.specs.declared.script.Statement.{Statement}
use Rattle.gb_script.specs.declared.script.Statement.TheVariants as statements
use Rattle.gb_report.specs.declared.fault.Fault.{Fault}
use Rattle.gb_registry.specs.Configure.{each_after, statement_faults, missing_tasks}
use Rattle.gb_registry.specs.Once.{PathsAreNew}
use Rattle.gb_registry.specs.Projects.{Path, is_among}
use Rattle.gb_core.specs.Path.{task_in}
use Rattle.gb_registry.specs.Said.{Said, paths_of, registered_path}
use Rattle.gb_registry.specs.Source.{Source}
use Rattle.gb_registry.specs.Tables.{Tables}

none_before : {X : Type 0} (xs ys : List X) → xs ++ ys ≡ [] → xs ≡ []
none_before [] ys e = refl
none_before (x ∷ xs) ys e = cc

none_after : {X : Type 0} (xs ys : List X) → xs ++ ys ≡ [] → ys ≡ []
none_after [] ys e = e
none_after (x ∷ xs) ys e = cc

one_more : {X : Type 0} (xs ys : List X) (x : X) → (xs ++ x ∷ []) ++ ys ≡ xs ++ x ∷ ys
one_more [] ys x = refl
one_more (z ∷ xs) ys x = ap (λ l. z ∷ l) (one_more xs ys x)

-- none of them has a fault
nothing_at : {A B : Type 0} (f : List A → A → List B) (before prefix back : List A) (x : A) → each_after f before (prefix ++ x ∷ back) ≡ [] → f (before ++ prefix) x ≡ []
nothing_at f before [] back x e = ap (λ l. f l x) (right_end before) ∙ none_before (f before x) (each_after f (before ++ x ∷ []) back) e
  where
    right_end : {X : Type 0} (xs : List X) → xs ++ [] ≡ xs
    right_end [] = refl
    right_end (y ∷ ys) = ap (λ l. y ∷ l) (right_end ys)
nothing_at f before (y ∷ prefix) back x e =
    ap (λ l. f l x) (sym (one_more before prefix y))
    ∙ nothing_at f (before ++ y ∷ []) prefix back x (none_after (f before y) (each_after f (before ++ y ∷ []) (prefix ++ x ∷ back)) e)

new_by : (b : Bool) (fault : Fault) (others : List Fault) → (if b then fault ∷ [] else others) ≡ [] → b ≡ false
new_by true fault others e = cc
new_by false fault others e = refl

module _ {M F Z S A : Type 0} (tables : Tables M F Z S A) (source : Source) where
  new_at : (prefix : List Said) (project : Path) (statement : Statement) (path : Path) → registered_path (record { project = project; statement = statement }) ≡ Some path
      → statement_faults tables prefix (record { project = project; statement = statement }) ≡ [] → is_among (paths_of prefix) path ≡ false
  new_at prefix project (statements.DefaultTasks texts) path is none = cc
  new_at prefix project (statements.Property name) path is none = cc
  new_at prefix project (statements.Set a) path is none = cc
  new_at prefix project (statements.Convention a) path is none = cc
  new_at prefix project (statements.Unset name) path is none = cc
  new_at prefix project (statements.DisallowChanges name) path is none = cc
  new_at prefix project (statements.Named c) path is none = cc
  new_at prefix project (statements.Register r) path is none =
      let same : task_in project r.name ≡ path = cc in
      subst (λ p. is_among (paths_of prefix) p ≡ false) same (new_by (is_among (paths_of prefix) (task_in project r.name)) _ _ none)

  pub paths_are_new : PathsAreNew tables source
  paths_are_new none prefix back s path split is =
      let first = none_before (each_after (statement_faults tables) [] source.said) (flat_map (missing_tasks source.names) source.said) none in
      let here = nothing_at (statement_faults tables) [] prefix back s (sym (ap (each_after (statement_faults tables) []) split) ∙ first) in
      new_at prefix s.project s.statement path is here
