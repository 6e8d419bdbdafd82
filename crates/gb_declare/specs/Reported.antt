-- How a task's trouble is reported.
use Rattle.std.specs.Prelude.{ℕ, ◌≡◌}
use Rattle.gb_provider.specs.Answers.{RunsInto}
use Rattle.gb_report.specs.declared.fault.Fault.{Fault}
use Rattle.gb_report.specs.declared.fault.Fault.TheVariants.{Circular}
use Rattle.gb_declare.specs.Realised.{Trouble, Plain, Endless}
use Rattle.gb_registry.specs.Tables.{Tables}
use Rattle.gb_registry.specs.Source.{Source}
use Rattle.gb_declare.specs.Whole.{whole}
use Rattle.gb_declare.specs.CircleNames.{circle_names}

module _ {M F Z S A : Type 0} (tables : Tables M F Z S A) (source : Source) (entry : ℕ) where
  -- The names on the circle that an expression of the whole table runs into. It does not matter which circle
  -- is chosen: a workspace keeps no numbers of the whole table, and knows only that such numbers exist.
  abbrev pub IsCircleReported : Fault → Type 0
  IsCircleReported (Circular names) = ∥ RunsInto tables.means (whole tables source) entry names ∥₁
  IsCircleReported other = ⊥

abbrev pub IsReported : {M F Z S A : Type 0} → Tables M F Z S A → Source → Trouble → Fault → Type 0
IsReported tables source (Plain known) fault = fault ≡ known
IsReported tables source (Endless entry) fault = IsCircleReported tables source entry fault

-- Two faults that report one trouble are the same fault.
abbrev pub ReportedOneWay : {M F Z S A : Type 0} → Tables M F Z S A → Source → Type 0
ReportedOneWay tables source = (trouble : Trouble) (a b : Fault) →
    IsReported tables source trouble a → IsReported tables source trouble b → a ≡ b

-- Whatever fault reports a circle that an entry of the whole table runs into is the value of this function at
-- the entry.
abbrev pub IsReportedBy : {M F Z S A : Type 0} → Tables M F Z S A → Source → (ℕ → Fault) → Type 0
IsReportedBy tables source reported =
    (entry : ℕ) (fault : Fault) → IsReported tables source (Endless entry) fault → fault ≡ reported entry

-- a circle that an entry of the whole table runs into, reported by its names
abbrev pub reported_circle : {M F Z S A : Type 0} → Tables M F Z S A → Source → ℕ → Fault
reported_circle tables source entry = Circular (circle_names tables.means (whole tables source) entry)
