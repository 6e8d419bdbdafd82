-- Outputs and their required positions.
use Rattle.std.specs.Prelude.{ℕ, ◌≡◌, List, if◌then◌else◌, Result, Ok, Err}
use Rattle.std.proofs.Common.{sym, subst}
use Rattle.gb_action.specs.declared.output_files.Form.{Form}
use Rattle.gb_core.specs.Place.{is_beneath}
use Rattle.gb_plan.specs.declared.task.Output.{Output}
use Rattle.gb_registry.specs.Projects.{Path}
use Rattle.gb_registry.specs.Said.{Registered}
use Rattle.gb_registry.specs.Source.{Source}
use Rattle.gb_registry.specs.Tables.{Tables}
use Rattle.gb_report.specs.declared.fault.Fault.{Fault}
use Rattle.gb_report.specs.declared.fault.Fault.TheVariants.{OutputOutsideBuild}
use Rattle.gb_declare.specs.Realised.{Plain, Trouble, built}
use Rattle.gb_declare.specs.Whole.{build_folder, spots, whole}
use Rattle.gb_project.specs.Given.{IsSorted}
use Rattle.gb_project.specs.Evaluated.{IsBuiltIn}

-- an output, under a build folder or not
abbrev lies : Path → List ℕ → Output → Result Output Trouble
lies path build output = if is_beneath output.place build then Ok output else Err (Plain (OutputOutsideBuild path output.place))

pub built_there : {M F Z S A : Type 0} (tables : Tables M F Z S A) (source : Source) (at : Registered) (path : Path) (build : List ℕ) → IsBuiltIn path build at → (copied name : List ℕ) (form : Form) (place : List ℕ) → copied ≡ name
    → (r : Result Output Fault) → IsSorted (lies path build (record { name = copied; form = form; place = place })) r
    → IsSorted (built tables source at (spots tables source) (whole tables source) (record { name = name; form = form; place = place })) r
built_there tables source at path build is copied name form place same r sorted =
    subst (λ p. IsSorted (lies p (build_folder at.project) (record { name = name; form = form; place = place })) r) (sym is.0)
    (subst (λ b. IsSorted (lies path b (record { name = name; form = form; place = place })) r) (sym is.1)
    (subst (λ n. IsSorted (lies path build (record { name = n; form = form; place = place })) r) same sorted))
