-- What the arguments of a command line request.
use Rattle.std.specs.Prelude.{ℕ, ◌≡◌, ◌++◌, List, [], ◌∷◌, codes, if◌then◌else◌}
use Rattle.gb_semantics.specs.declared.events.Invocation.{Invocation}
use Rattle.gb_report.specs.declared.fault.Fault.{Fault}
use Rattle.gb_report.specs.declared.fault.Fault.TheVariants as faults
use Rattle.gb_arguments.specs.Command.{flag_in, is_refused, rows_in, texts_in}
use Rattle.gb_arguments.specs.Values.{AreLast, values_faults}

-- The invocation has what the arguments give, in their order; of each property it has the last value.
pub record IsAsked (words : List (List ℕ)) (asked : Invocation) : Type 0 where
  pub requested : asked.requested ≡ texts_in (codes "task") (rows_in words)
  pub excluded : asked.excluded ≡ texts_in (codes "exclude") (rows_in words)
  pub properties : AreLast (texts_in (codes "property") (rows_in words)) asked.properties
  pub keep_going : asked.options.keep_going ≡ flag_in (codes "continue") (rows_in words)
  pub rerun : asked.options.rerun ≡ flag_in (codes "rerun") (rows_in words)
  pub dry_run : asked.options.dry_run ≡ flag_in (codes "dry-run") (rows_in words)

-- arguments that do not fit the command, then the faults of the values of properties
abbrev pub words_faults : List (List ℕ) → List Fault
words_faults words =
    (if is_refused words then faults.Usage ∷ [] else [])
    ++ values_faults (texts_in (codes "property") (rows_in words))
