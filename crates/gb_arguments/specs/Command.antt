-- The command as `clap` knows it, and what `clap` finds in arguments for it.
use Rattle.std.specs.Prelude.{ℕ, Bool, true, not, List, [], ◌∷◌, Option, None, Some, codes, nat_lt, unwrap_or}
use Rattle.clap.specs.Faults.{fault_of}
use Rattle.clap.specs.Simple.{App, matches_of, new_rule, new_shape}
use Rattle.clap.specs.Walk.{Row, Rule, all_of, count_of, is_empty}
use Rattle.clap.specs.declared.builder.action.ArgAction.TheVariants.{Append, Count}

-- an option that takes a value each time it is used
abbrev pub valued : List ℕ → ℕ → List ℕ → Rule
valued id short long = record (new_rule id) { short = Some short; long = Some long; action = Some Append }

-- an option without a value
abbrev pub flag : List ℕ → Option ℕ → List ℕ → Rule
flag id short long = record (new_rule id) { short = short; long = Some long; action = Some Count }

-- The options are `-x` (120) or `--exclude-task` and `-P` (80) or `--project-prop`, each with a value, and
-- the flags `--continue`, `--rerun-tasks`, and `-m` (109) or `--dry-run`. Any other argument is a task. No
-- argument is the program's name, and there is no help option and no version option.
abbrev pub gb_command : App
gb_command = record {
  top = record (new_shape (codes "gb")) {
    rules = valued (codes "exclude") 120 (codes "exclude-task")
        ∷ valued (codes "property") 80 (codes "project-prop")
        ∷ flag (codes "continue") None (codes "continue")
        ∷ flag (codes "rerun") None (codes "rerun-tasks")
        ∷ flag (codes "dry-run") (Some 109) (codes "dry-run")
        ∷ record (new_rule (codes "task")) { action = Some Append } ∷ [];
    no_binary_name = true;
    disable_help_flag = true;
    disable_version_flag = true;
  };
  subs = [];
}

-- `clap` finds a fault in the arguments for this command
abbrev pub is_refused : List (List ℕ) → Bool
is_refused words = not (is_empty (fault_of gb_command words))

-- the texts that are found for an option, or as tasks, in their order
abbrev pub texts_in : List ℕ → List Row → List (List ℕ)
texts_in id rows = unwrap_or (all_of id rows) []

-- the flag is found, once or more often
abbrev pub flag_in : List ℕ → List Row → Bool
flag_in id rows = nat_lt 0 (count_of id rows)

-- what is found in the arguments
abbrev pub rows_in : List (List ℕ) → List Row
rows_in words = matches_of gb_command words
