-- The effect of one more statement on the properties of its project.
use Rattle.std.proofs.Common.{◌≡◌, ℕ, Bool, true, false, ◌||◌, List, [], ◌∷◌, ◌++◌, refl, sym, ap, subst, ◌∙◌, Option, Some, None}
use Rattle.std.proofs.lemmas.Grind.{fold-append}
use Rattle.std.proofs.lemmas.List.{append-nil}
use Rattle.std.proofs.lemmas.List.Folds.{list_any-append}
use Rattle.std.proofs.lemmas.Option.{slice_get-map}
use Rattle.std.proofs.lemmas.Slice.Eq.{bytes_eq-Decides}
use Rattle.std.specs.Prelude.{bytes_eq, fold, option_map, slice_get}
use Rattle.std.specs.List.{list_any}
use Rattle.gb_provider.proofs.GrowLemmas.{mapped_at}
use Rattle.gb_provider.specs.declared.expression.Expression.{Expression}
use Rattle.gb_provider.specs.declared.expression.Expression.TheVariants.{OfProperty}
use Rattle.gb_provider.specs.declared.expression.Property.{Property}
use Rattle.gb_provider.specs.declared.expression.Setting.TheVariants.{Followed}
use Rattle.gb_registry.proofs.Own.{own_script, script_of-append}
use Rattle.gb_registry.specs.Configure.{finalizes}
use Rattle.gb_registry.specs.Projects.{Path}
use Rattle.gb_registry.specs.Said.{Said, convention_after, said_by, script_of, set_after}
use Rattle.gb_registry.specs.Source.{Source}
use Rattle.gb_registry.specs.Tables.{Tables}
use Rattle.gb_script.specs.Tree.{Tree, Root, TextOf, FlagOf, ListOf, PropertyOf, DirOf, FileOf, TheBuildDir, GradlePropertyOf, TaskOf, MapBy, FlatMapBy, ZipBy, Else}
use Rattle.gb_script.specs.declared.script.Statement.{Statement}
use Rattle.gb_declare.specs.Spots.{Spot, Written, Made, spot_of}
use Rattle.gb_declare.specs.Whole.{expression_at, number_of, property_of, table_of}
use Rattle.gb_declare.proofs.KeyLemmas.{key_of}

pub same_bytes : (a : List ℕ) → bytes_eq a a ≡ true
same_bytes a = (bytes_eq-Decides a a).1 refl

pub bytes_same : (a b : List ℕ) → bytes_eq a b ≡ true → a ≡ b
bytes_same a b is = (bytes_eq-Decides a b).0 is

pub bytes_distinct : (a b : List ℕ) → (a ≡ b → ⊥) → bytes_eq a b ≡ false
bytes_distinct a b other =
    elim (bytes_eq a b) as (λ t. bytes_eq a b ≡ t → t ≡ false) [
      | true ↦ λ is. absurd (other (bytes_same a b is))
      | false ↦ λ _. refl
    ] refl

abbrev pub says : Path → Statement → Said
says project statement = record { project = project; statement = statement }

-- ---- The script of a project with one statement more

pub script_more : (done : List Said) (project : Path) (statement : Statement) → script_of (done ++ says project statement ∷ []) project ≡ script_of done project ++ statement ∷ []
script_more done project statement =
    script_of-append done (said_by (project, statement ∷ [])) project
    ∙ ap (λ l. script_of done project ++ l) (own_script project project true (same_bytes project) (statement ∷ []))

pub script_other : (done : List Said) (project other : Path) (statement : Statement) → bytes_eq project other ≡ false → script_of (done ++ says project statement ∷ []) other ≡ script_of done other
script_other done project other statement separate =
    script_of-append done (said_by (project, statement ∷ [])) other
    ∙ ap (λ l. script_of done other ++ l) (own_script project other false separate (statement ∷ []))
    ∙ append-nil (script_of done other)

-- ---- The effect of one more statement on a property

pub fold_more : {A B : Type 0} (f : B → A → B) (b : B) (xs : List A) (x : A) → fold f b (xs ++ x ∷ []) ≡ f (fold f b xs) x
fold_more f b xs x = fold-append f b xs (x ∷ [])

or_none : (b c : Bool) → c ≡ false → (b || (c || false)) ≡ b
or_none true c is = refl
or_none false c is = ap (λ d. d || false) is

-- the statement does not concern the property of a name
pub record IsUntouched (name : List ℕ) (statement : Statement) : Type 0 where
  pub set : (before : Option Tree) → set_after name before statement ≡ before
  pub convention : (before : Option Tree) → convention_after name before statement ≡ before
  pub final : finalizes name statement ≡ false

module _ {M F Z S A : Type 0} (tables : Tables M F Z S A) (source : Source) (all : List Spot) where
  -- the source after these statements
  abbrev pub after : List Said → Source
  after done = record source { said = done }

  abbrev pub table_after : List Said → List (Expression M F Z)
  table_after done = table_of tables (after done) all

  abbrev pub place : Path → Tree → ℕ
  place project tree = number_of tables source all (spot_of project tree)

  -- a property after the statements of a script
  abbrev pub property_after : Path → List ℕ → List Statement → Property
  property_after project name script = record {
    project = project;
    name = name;
    setting = option_map (λ tree. Followed (place project tree)) (fold (set_after name) None script);
    convention = option_map (λ tree. place project tree) (fold (convention_after name) None script);
    is_final = list_any (finalizes name) script;
  }

  -- what it is set to, its convention and whether it is final
  abbrev pub property_with : Path → List ℕ → Option Tree → Option Tree → Bool → Property
  property_with project name set convention final = record {
    project = project;
    name = name;
    setting = option_map (λ tree. Followed (place project tree)) set;
    convention = option_map (λ tree. place project tree) convention;
    is_final = final;
  }

  -- with one statement more
  pub property_more : (project : Path) (name : List ℕ) (script : List Statement) (statement : Statement)
      → property_after project name (script ++ statement ∷ [])
      ≡ property_with project name (set_after name (fold (set_after name) None script) statement) (convention_after name (fold (convention_after name) None script) statement)
      (list_any (finalizes name) script || (finalizes name statement || false))
  property_more project name script statement =
      ap (λ s. property_with project name s (fold (convention_after name) None (script ++ statement ∷ [])) (list_any (finalizes name) (script ++ statement ∷ []))) (fold_more (set_after name) None script statement)
      ∙ ap (λ c. property_with project name (set_after name (fold (set_after name) None script) statement) c (list_any (finalizes name) (script ++ statement ∷ []))) (fold_more (convention_after name) None script statement)
      ∙ ap (property_with project name (set_after name (fold (set_after name) None script) statement) (convention_after name (fold (convention_after name) None script) statement))
      (list_any-append (finalizes name) script (statement ∷ []))

  property_kept : (project : Path) (name : List ℕ) (script : List Statement) (statement : Statement) → IsUntouched name statement → property_after project name (script ++ statement ∷ []) ≡ property_after project name script
  property_kept project name script statement untouched =
      let set = fold (set_after name) None script in
      let convention = fold (convention_after name) None script in
      property_more project name script statement
      ∙ ap (λ s. property_with project name s (convention_after name convention statement) (list_any (finalizes name) script || (finalizes name statement || false))) (untouched.set set)
      ∙ ap (λ c. property_with project name set c (list_any (finalizes name) script || (finalizes name statement || false))) (untouched.convention convention)
      ∙ ap (property_with project name set convention) (or_none (list_any (finalizes name) script) (finalizes name statement) untouched.final)

  -- ---- The expressions that one more statement does not change

  module _ (done : List Said) (project : Path) (statement : Statement) where
    abbrev pub more : List Said
    more = done ++ says project statement ∷ []

    -- the statement does not concern the property, if the expression is one of the project
    abbrev pub IsLeft : Expression M F Z → Type 0
    IsLeft e = (name : List ℕ) → key_of (Some e) ≡ Some (project, name) → IsUntouched name statement

    kept_property : (other : Path) (name : List ℕ) → IsLeft (property_of tables (after done) all other name) → property_of tables (after more) all other name ≡ property_of tables (after done) all other name
    kept_property other name left =
        elim (bytes_eq project other) as (λ b. bytes_eq project other ≡ b → property_of tables (after more) all other name ≡ property_of tables (after done) all other name) [
          | true ↦ λ same.
              let is : project ≡ other = bytes_same project other same in
              let untouched : IsUntouched name statement = left name (ap (λ p. Some (p, name)) (sym is)) in
              let grown : script_of more other ≡ script_of done other ++ statement ∷ [] = subst (λ p. script_of more p ≡ script_of done p ++ statement ∷ []) is (script_more done project statement) in
              ap (λ s. OfProperty (property_after other name s)) grown ∙ ap OfProperty (property_kept other name (script_of done other) statement untouched)
          | false ↦ λ separate. ap (λ s. OfProperty (property_after other name s)) (script_other done project other statement separate)
        ] refl

    kept_root : (other : Path) (root : Root) → IsLeft (expression_at tables (after done) all (Written other root [])) → expression_at tables (after more) all (Written other root []) ≡ expression_at tables (after done) all (Written other root [])
    kept_root other (PropertyOf name) left = kept_property other name left
    kept_root other (ListOf trees) left = refl
    kept_root other (TextOf t) left = refl
    kept_root other (FlagOf b) left = refl
    kept_root other (DirOf t) left = refl
    kept_root other (FileOf t) left = refl
    kept_root other TheBuildDir left = refl
    kept_root other (GradlePropertyOf t) left = refl
    kept_root other (TaskOf t) left = refl

    kept_spot : (spot : Spot) → IsLeft (expression_at tables (after done) all spot) → expression_at tables (after more) all spot ≡ expression_at tables (after done) all spot
    kept_spot (Written other root []) left = kept_root other root left
    kept_spot (Written other root (MapBy f ∷ before)) left = refl
    kept_spot (Written other root (FlatMapBy f ∷ before)) left = refl
    kept_spot (Written other root (ZipBy tree f ∷ before)) left = refl
    kept_spot (Written other root (Else tree ∷ before)) left = refl
    kept_spot (Made other task name tree) left = refl

    -- an expression that the statement does not concern keeps its position
    pub table_kept : (k : ℕ) (e : Expression M F Z) → slice_get (table_after done) k ≡ Some e → IsLeft e → slice_get (table_after more) k ≡ Some e
    table_kept k e is left =
        let spot = mapped_at (expression_at tables (after done) all) all k e (slice_get all k) refl (sym (slice_get-map (expression_at tables (after done) all) all k) ∙ is) in
        let same = kept_spot spot.0 (subst IsLeft (sym spot.2) left) in
        slice_get-map (expression_at tables (after more) all) all k ∙ ap (option_map (expression_at tables (after more) all)) spot.1 ∙ ap Some (same ∙ spot.2)
