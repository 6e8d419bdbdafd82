-- The decision on a task from its record and its present state, by digests.
use Rattle.std.specs.Prelude.{◌≡◌, ℕ, Bool, false, List, [], ◌∷◌, if◌then◌else◌, bytes_eq, Option, Some, None}
use Rattle.std.specs.List.{list_any, flat_map, zip, AllZip}
use Rattle.gb_folder.specs.Files.{is_empty}
use Rattle.gb_action.specs.Changes.{Changes, changes_between}
use Rattle.gb_history.specs.Record.{Record, Prints}
use Rattle.gb_history.specs.declared.decide.Present.{Present}
use Rattle.gb_history.specs.declared.decide.Decision.{Decision}
use Rattle.gb_history.specs.declared.decide.Decision.TheVariants as decisions

-- The run has outputs and is what the task has now; the task is not stale, and no rerun is requested.
pub record IsUpToDate (run : Record) (present : Present) : Type 0 where
  pub no_rerun : present.rerun ≡ false
  pub not_stale : present.is_stale ≡ false
  pub has_outputs : is_empty present.now.outputs ≡ false
  pub same : run ≡ present.now

-- the property of this name is incremental
abbrev pub is_incremental : List (List ℕ) → List ℕ → Bool
is_incremental names name = list_any (bytes_eq name) names

-- a property of the same name, and of the same files unless it is incremental
abbrev pub IsAlike : List (List ℕ) → Prints → Prints → Type 0
IsAlike incremental old new = (old.0 ≡ new.0) × (is_incremental incremental old.0 ≡ false → old.1 ≡ new.1)

-- The run differs from what the task has now only in incremental properties.
pub record IsSince (run : Record) (present : Present) : Type 0 where
  pub no_rerun : present.rerun ≡ false
  pub not_stale : present.is_stale ≡ false
  pub same_actions : run.actions ≡ present.now.actions
  pub same_values : run.values ≡ present.now.values
  pub same_outputs : run.outputs ≡ present.now.outputs
  pub alike : AllZip (IsAlike present.incremental.items) run.inputs present.now.inputs

-- the changes of a property, where it is incremental
abbrev pub changes_of : List (List ℕ) → Prints × Prints → List Changes
changes_of incremental pair =
    if is_incremental incremental pair.0.0 then (pair.0.0, changes_between pair.0.1 pair.1.1) ∷ [] else []

-- the changes of the incremental properties, by name
abbrev pub changes_since : Record → Present → List Changes
changes_since run present =
    flat_map (changes_of present.incremental.items) (zip run.inputs present.now.inputs)

abbrev pub DecidesFrom : Record → Present → Decision → Type 0
DecidesFrom run present decisions.UpToDate = IsUpToDate run present
DecidesFrom run present (decisions.Incremental changes) =
    (¬ IsUpToDate run present) × IsSince run present × (changes ≡ changes_since run present)
DecidesFrom run present decisions.Full = (¬ IsUpToDate run present) × (¬ IsSince run present)

-- up to date, or else incremental, or else full; full where there is no record
abbrev pub Decides : Option Record → Present → Decision → Type 0
Decides None present decision = decision ≡ decisions.Full
Decides (Some run) present decision = DecidesFrom run present decision
