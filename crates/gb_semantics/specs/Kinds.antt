-- What the kinds of actions mean, each by its name and its version.
use Rattle.std.specs.Prelude.{ℕ, Bool, List}
use Rattle.gb_action.specs.Meanings.{Making, Printing}
use Rattle.gb_plan.specs.declared.task.Action.{Action}

abbrev pub Name : Type 0
Name = List ℕ

-- what names a kind, and which version of it
pub record Kind : Type 0 where
  pub name : Name
  pub version : ℕ

abbrev pub kind_of : Action → Kind
kind_of action = record { name = action.kind; version = action.version }

-- What the kinds mean, whatever closures implement them.
pub record Kinds : Type 0 where
  -- the files that an action makes of arguments, values and trees, or the text with which it fails
  pub makes : Kind → Making
  -- the lines that it prints, for these and the changes of the incremental properties
  pub prints : Kind → Printing
  -- whether the kind writes files
  pub writes : Kind → Bool
  -- whether it can run incrementally, from old outputs by changes alone
  pub incremental : Kind → Bool
