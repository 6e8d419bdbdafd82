use Rattle.std.proofs.Common.{◌≡◌, Some, inl, inr, subst, ◌∙◌}
use Rattle.gb_registry.specs.Faults.{first_of}
use Rattle.gb_registry.specs.Projects.{Path, root_path}
use Rattle.gb_registry.specs.References.{lookup_faults}
use Rattle.gb_report.specs.declared.fault.Fault.TheVariants.{TaskNotFound}
use Rattle.gb_project.specs.Over.{known_names}
use Rattle.gb_project.proofs.KnownLemmas.{first_reported}
use Rattle.gb_project.proofs.workspaces.unknown.Goals as goal

pub returns-in-Err : goal.returns-in-Err
returns-in-Err c =
    let names = known_names c.args.projects.now c.args.tasks.now in
    let path = c.args.path.now in
    let fault = c.in-Err.fault in elim c.in-Err.ensures [
      | inl out ↦ inl out
      | inr first ↦ inr (first_reported (TaskNotFound path) (lookup_faults names root_path path) fault
          (subst (λ (text : Path). first_of (lookup_faults names root_path text) ≡ Some fault) (c.in_ok-text.ensures ∙ c.as_str.ensures.text) first))
    ]
