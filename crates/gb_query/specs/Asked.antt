-- The place of a query.
use Rattle.std.specs.Prelude.{ℕ, List, [], ◌∷◌, Result, Ok, Err, if◌then◌else◌}
use Rattle.gb_core.specs.Place.{is_place}
use Rattle.gb_report.specs.declared.fault.Fault.{Fault}
use Rattle.gb_report.specs.declared.fault.Fault.TheVariants as faults

-- The only text, if it is a place. It is refused if it is no place (2), and any other number of texts is
-- refused (96).
abbrev pub asked_place : List (List ℕ) → Result (List ℕ) Fault
asked_place [] = Err faults.Usage
asked_place (text ∷ []) = if is_place text then Ok text else Err (faults.BadPlace text)
asked_place (text ∷ other ∷ texts) = Err faults.Usage
