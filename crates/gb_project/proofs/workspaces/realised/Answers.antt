use Rattle.std.proofs.Common.{◌≡◌, None, Err, inl, inr, sym, ap, refl, ◌∙◌}
use Rattle.std.specs.Prelude.{bytes_eq, position}
use Rattle.gb_registry.specs.Projects.{root_path}
use Rattle.gb_registry.specs.References.{lookup_faults}
use Rattle.gb_registry.specs.Tables.{tables_of}
use Rattle.gb_report.specs.declared.fault.Fault.TheVariants.{TaskNotFound}
use Rattle.gb_declare.specs.Realised.{Plain, first_or}
use Rattle.gb_project.specs.Over.{known_names}
use Rattle.gb_project.proofs.WorkspaceLemmas.{unknown_task}
use Rattle.gb_project.proofs.workspaces.realised.Goals as goal

pub returns-in_default-clause-reported : goal.returns-in_default-clause-reported
returns-in_default-clause-reported g c =
    let tables = tables_of g.T.Transforms.meanings g.A.Actions.meanings c.args.tables.now in
    let source = c.args.registry.now in
    let path = c.args.path.now in
    let none : position (bytes_eq path) source.names.tasks ≡ None =
    sym (c.position.ensures ∙ ap (λ t. position (bytes_eq t) c.tasks.result.now) c.as_str.ensures.text ∙ ap (position (bytes_eq path)) c.tasks.ensures.tasks) ∙ c.in_default.is in
    let names : known_names c.projects.result.now c.paths-tasks.result.now ≡ source.names =
    ap (λ p. known_names p c.paths-tasks.result.now) c.projects.ensures ∙ ap (known_names source.names.projects) (c.paths-tasks.ensures ∙ c.tasks-in_default.ensures.tasks) in
    elim c.in_ok-unknown.ensures [
      | inl out ↦ inl out
      | inr is ↦ inr (
        Plain c.in_ok-unknown.field-0,
        unknown_task tables source path c.requires.kept.tasks none ∙ ap (λ f. Err (Plain f)) (sym (is ∙ ap (λ n. first_or (TaskNotFound path) (lookup_faults n root_path path)) names)),
        refl,
      )
    ]
