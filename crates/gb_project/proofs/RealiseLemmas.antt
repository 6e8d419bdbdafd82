-- The result of a task in the form that a plan requests.
use Rattle.std.proofs.Common.{◌≡◌, true, inl, inr, sym, ap, ◌∙◌}
use Rattle.std.specs.Prelude.{◌⊎◌, IfErr, IfOk, Result, Ok, Err, Some}
use Rattle.gb_plan.specs.Graph.{declaration_at, paths_of}
use Rattle.gb_plan.specs.Task.{Path, has_path}
use Rattle.gb_plan.specs.declared.task.TaskDeclaration.{TaskDeclaration}
use Rattle.gb_report.specs.declared.fault.Fault.{Fault}
use Rattle.gb_report.specs.declared.fault.Fault.TheVariants.{OutOfMemory}
use Rattle.gb_registry.specs.Said as said
use Rattle.gb_registry.specs.Source.{Source}
use Rattle.gb_registry.specs.Tables.{Tables}
use Rattle.gb_declare.specs.Realised.{Trouble, Plain, Endless, realised}
use Rattle.gb_declare.specs.Reported.{IsReported}
use Rattle.gb_project.specs.Over.{Reports}
use Rattle.gb_project.proofs.FindLemmas.{find_made, found_made}
use Rattle.gb_declare.proofs.CircleNamesLemmas.{reported_by_names}
use Rattle.gb_declare.proofs.RisingLemmas.{realised_names_rise}
use Rattle.gb_project.proofs.SoundLemmas.{paths_said}
use Rattle.gb_declare.specs.Registered.{declaration_of, registry_said, settled}
use Rattle.gb_declare.specs.Known.{DeclaredNamesRise}

module _ {M F Z S A : Type 0} (tables : Tables M F Z S A) (source : Source) where
  -- a trouble is reported by the fault that `settled` gives
  settled_as : (trouble : Trouble) (fault : Fault) → IsReported tables source trouble fault → settled tables source (Err trouble) ≡ Err fault
  settled_as (Plain known) fault reported = ap Err (sym reported)
  settled_as (Endless entry) fault reported = ap Err (sym (reported_by_names tables source entry fault reported))

  module _ (path : Path) (there : has_path (paths_of (registry_said tables source)) path ≡ true) where
    exists : declaration_at (registry_said tables source) path ≡ Some (declaration_of tables source path)
    exists =
        find_made (declaration_of tables source) (said.paths_of source.said) path
        (sym (ap (λ paths. has_path paths path) (paths_said tables source)) ∙ there)

    pub declares : (answer : Result TaskDeclaration Fault) → Reports tables source (realised tables source path) answer
        → IfOk answer (λ task. declaration_at (registry_said tables source) path ≡ Some (Ok task))
    declares (Ok task) is = exists ∙ ap (λ r. Some (settled tables source r)) is
    declares (Err fault) is = tt

    pub is_at_fault : (answer : Result TaskDeclaration Fault) → Reports tables source (realised tables source path) answer
        → IfErr answer (λ fault. (fault ≡ OutOfMemory) ⊎ (declaration_at (registry_said tables source) path ≡ Some (Err fault)))
    is_at_fault (Ok task) is = tt
    is_at_fault (Err fault) (inl memory) = inl memory
    is_at_fault (Err fault) (inr is) =
        inr (exists ∙ ap (λ r. Some (settled tables source r)) is.1 ∙ ap Some (settled_as is.0 fault is.2))

  -- what is declared is the result of the task
  pub declared_realised : (path : Path) (task : TaskDeclaration) → declaration_at (registry_said tables source) path ≡ Some (Ok task) → realised tables source path ≡ Ok task
  declared_realised path task is =
      settled_ok (realised tables source path) (found_made (declaration_of tables source) (said.paths_of source.said) path (Ok task) is)
    where
      ok_same : (a b : TaskDeclaration) → (let one : Result TaskDeclaration Fault = Ok a in one) ≡ Ok b → a ≡ b
      ok_same a b e = cc

      settled_ok : (r : Result TaskDeclaration Trouble) → settled tables source r ≡ Ok task → r ≡ Ok task
      settled_ok (Ok other) e = ap Ok (ok_same other task e)
      settled_ok (Err (Plain fault)) e = absurd (cc)
      settled_ok (Err (Endless entry)) e = absurd (cc)

  -- so its names rise
  pub names_rise : DeclaredNamesRise tables source
  names_rise path task is = realised_names_rise tables source path task (declared_realised path task is)
