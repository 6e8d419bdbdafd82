use Rattle.std.proofs.Common.{◌≡◌, ap, subst, sym, ◌∙◌}
use Rattle.std.specs.List.{list_all}
use Rattle.gb_plan.specs.Graph.{IsRegistry}
use Rattle.gb_registry.specs.Said.{paths_of}
use Rattle.gb_registry.specs.SoFar.{scripts_in}
use Rattle.gb_registry.specs.Select.{default_tasks}
use Rattle.gb_registry.specs.Tables.{tables_of}
use Rattle.gb_project.specs.Named.{is_named}
use Rattle.gb_declare.specs.Registered.{registry_said}
use Rattle.gb_project.specs.Workspace.{Space}
use Rattle.gb_project.proofs.SaidLemmas.{AreNamed, read_named}
use Rattle.gb_project.proofs.SoundLemmas.{registry_is_sound}
use Rattle.gb_project.proofs.script_tasks.ScriptTasks.declare.Goals as goal

pub invariant_of-result : goal.invariant_of-result
invariant_of-result g c =
    let source = c.args.configured.now.registry in
    let tables = tables_of g.T.Transforms.meanings g.A.Actions.meanings in
    let space : c.in_ok-workspace.workspace ≡ record { tables = c.args.configured.now.tables.now; source = source } = c.in_ok-workspace.ensures in
    let named : AreNamed source =
    read_named source (scripts_in c.scripts.result.now) c.scripts.ensures.read
    (sym (ap (list_all is_named) c.scripts.ensures.said) ∙ c.read_names.ensures) in
    record {
      source = ap (λ (s : Space _ _ _ _ _ _ _). s.source) space;
      tasks = subst (λ (s : Space _ _ _ _ _ _ _). s.source.names.tasks ≡ paths_of s.source.said) (sym space) named.tasks;
      words = c.in_ok-default_tasks.ensures ∙ sym (ap (λ (s : Space _ _ _ _ _ _ _). default_tasks s.source.said) space);
      ordered =
          subst (λ (s : Space _ _ _ _ _ _ _). IsRegistry (registry_said (tables s.tables) s.source)) (sym space)
          (registry_is_sound (tables c.args.configured.now.tables.now) source named c.args.configured.now.good);
    }
