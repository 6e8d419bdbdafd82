-- Whether one action of a task writes, and executes incrementally.
use Rattle.std.specs.Prelude.{◌≡◌, Bool, true, false, cond, List, [], ◌∷◌, Some}
use Rattle.std.specs.FinMap.Entries.{find}
use Rattle.std.proofs.Common.{refl, sym, ap, ◌∙◌}
use mathlib.Core.Bool.{true≢false}
use Rattle.gb_core.specs.Lists.{byte_order}
use Rattle.gb_action.specs.Meanings.{Meanings, shape_of}
use Rattle.gb_folder.specs.Files.{is_empty}
use Rattle.gb_plan.specs.Ready.{IsReadyAction, Rows}
use Rattle.gb_plan.specs.declared.task.Action.{Action}
use Rattle.gb_plan.specs.declared.task.TaskDeclaration.{TaskDeclaration as Task}
use Rattle.gb_semantics.specs.Headline.{Agrees}
use Rattle.gb_semantics.specs.Kinds.{Kinds, kind_of}
use Rattle.gb_semantics.specs.Label.{has_one_writer}
use Rattle.gb_run.specs.AskingChanges.{CanGoOn, writers, writes_stored}
use Rattle.gb_run.proofs.Fitting.{agreed_incremental, agreed_writes}

-- ---- among the actions that write

abbrev one : Kinds → List Action → Bool
one kinds [] = false
one kinds (writer ∷ []) = kinds.incremental (kind_of writer)
one kinds (writer ∷ other ∷ others) = false

one_is : (kinds : Kinds) (actions : List Action) → has_one_writer kinds actions ≡ one kinds (writers kinds actions)
one_is kinds actions = by (writers kinds actions) refl
  where
    by : (ws : List Action) → writers kinds actions ≡ ws → has_one_writer kinds actions ≡ one kinds (writers kinds actions)
    by [] e = rw e
    by (w ∷ []) e = rw e
    by (w ∷ x ∷ more) e = rw e

-- if one that executes incrementally was found before, or none
abbrev pub only : Kinds → Bool → List Action → Bool
only kinds true left = is_empty (writers kinds left)
only kinds false left = one kinds (writers kinds left)

pub begins : (kinds : Kinds) (actions left : List Action) → left ≡ actions → has_one_writer kinds actions ≡ only kinds false left
begins kinds actions left is = one_is kinds actions ∙ ap (λ (l : List Action). one kinds (writers kinds l)) (sym is)

pub ends : (kinds : Kinds) (found : Bool) (left : List Action) → left ≡ [] → only kinds found left ≡ found
ends kinds true left is = ap (λ (l : List Action). is_empty (writers kinds l)) is
ends kinds false left is = ap (λ (l : List Action). one kinds (writers kinds l)) is

module _ {S : Type 0} (meanings : Meanings S) (kinds : Kinds) (rows : Rows S) (task : Task) (action : Action) (more : List Action)
    (ready : IsReadyAction meanings rows task action) (agrees : Agrees meanings rows kinds) (writes : Bool)
    (is : (stored : S) → find byte_order action.kind rows ≡ Some stored → writes ≡ writes_stored meanings stored) where
  kind_writes : kinds.writes (kind_of action) ≡ writes
  kind_writes = agreed_writes meanings kinds rows task action ready agrees ready.stored ready.found ∙ sym (is ready.stored ready.found)

  pub passes_by : (found : Bool) → writes ≡ false → only kinds found (action ∷ more) ≡ only kinds found more
  passes_by true none = ap (λ b. is_empty (cond b (action ∷ writers kinds more) (writers kinds more))) (kind_writes ∙ none)
  passes_by false none = ap (λ b. one kinds (cond b (action ∷ writers kinds more) (writers kinds more))) (kind_writes ∙ none)

  pub one_too_many : writes ≡ true → only kinds true (action ∷ more) ≡ false
  one_too_many so = ap (λ b. is_empty (cond b (action ∷ writers kinds more) (writers kinds more))) (kind_writes ∙ so)

  module _ (answers : Bool) (able : (stored : S) → find byte_order action.kind rows ≡ Some stored → answers ≡ (shape_of meanings stored).incremental) where
    kind_answers : kinds.incremental (kind_of action) ≡ answers
    kind_answers = agreed_incremental meanings kinds rows task action ready agrees ready.stored ready.found ∙ sym (able ready.stored ready.found)

    pub finds_it : writes ≡ true → answers ≡ true → only kinds false (action ∷ more) ≡ only kinds true more
    finds_it so goes = ap (λ b. one kinds (cond b (action ∷ writers kinds more) (writers kinds more))) (kind_writes ∙ so) ∙ by (writers kinds more)
      where
        by : (ws : List Action) → one kinds (action ∷ ws) ≡ is_empty ws
        by [] = kind_answers ∙ goes
        by (w ∷ ws) = refl

    pub not_by_changes : writes ≡ true → answers ≡ false → only kinds false (action ∷ more) ≡ false
    not_by_changes so not_so = ap (λ b. one kinds (cond b (action ∷ writers kinds more) (writers kinds more))) (kind_writes ∙ so) ∙ by (writers kinds more)
      where
        by : (ws : List Action) → one kinds (action ∷ ws) ≡ false
        by [] = kind_answers ∙ not_so
        by (w ∷ ws) = refl

-- ---- what the table holds

module _ {S : Type 0} (meanings : Meanings S) (rows : Rows S) (action : Action) where
  pub quiet_goes : (writes : Bool) → writes ≡ false → ((stored : S) → find byte_order action.kind rows ≡ Some stored → writes ≡ writes_stored meanings stored) → CanGoOn meanings rows action
  quiet_goes writes none is stored found so = absurd (true≢false (sym so ∙ sym (is stored found) ∙ none))

  pub answering_goes : (answers : Bool) → answers ≡ true → ((stored : S) → find byte_order action.kind rows ≡ Some stored → answers ≡ (shape_of meanings stored).incremental) → CanGoOn meanings rows action
  answering_goes answers goes able stored found so = sym (able stored found) ∙ goes
