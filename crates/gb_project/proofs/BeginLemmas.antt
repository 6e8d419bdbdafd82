-- The initial state for a registry of scripts without a fault.
use Rattle.std.proofs.Common.{◌≡◌, ℕ, List, [], ◌∷◌, length, sym, ap, subst, ◌∙◌}
use Rattle.std.proofs.lemmas.List.{append-nil}
use Rattle.std.specs.Prelude.{IfOk, Ok, Err, Result, reverse}
use Rattle.std.specs.BTreeMap.{is_at}
use Rattle.std.specs.FinMap.Entries.{find}
use Rattle.std.specs.List.{AllByRecursion, flat_map}
use Rattle.std.specs.Map.{lookup}
use Rattle.gb_project.proofs.KnownLemmas.{paths_are}
use Rattle.gb_core.specs.Lists.{byte_order}
use Rattle.gb_provider.specs.declared.expression.Expression.{Expression}
use Rattle.gb_registry.proofs.Separate.{are_new}
use Rattle.gb_registry.specs.Configure.{configure_faults, each_after, missing_tasks, statement_faults}
use Rattle.gb_registry.specs.New.{AreNew}
use Rattle.gb_registry.specs.Projects.{Path}
use Rattle.gb_registry.specs.Read.{IsRead}
use Rattle.gb_registry.specs.Said.{paths_of, said_by}
use Rattle.gb_registry.specs.Source.{Source}
use Rattle.gb_registry.specs.Tables.{Tables}
use Rattle.gb_script.specs.declared.script.Statement.{Statement}
use Rattle.gb_declare.specs.Joined.{Named}
use Rattle.gb_declare.specs.Whole.{spots, whole}
use Rattle.gb_declare.proofs.BuildLemmas.{builds_are_places}
use Rattle.gb_registry.proofs.Fine.{nil_prefix}
use Rattle.gb_declare.proofs.NodesInTableLemmas as existing
use Rattle.gb_declare.specs.Grown.{IsRight}
use Rattle.gb_declare.specs.Scripts.{build_faults}
use Rattle.gb_declare.specs.Site.{AreThere, Site}
use Rattle.gb_declare.specs.NodesInTable.{AreSaid, scripts_faults, scripts_made, sites_made}
use Rattle.gb_project.specs.Kept.{AreDeclared}
use Rattle.gb_project.specs.Stage.{AreAllGood, begun, with_scripts}
use Rattle.gb_project.specs.Steps.{Begins, task_paths}
use Rattle.gb_project.specs.Tasks.{script_tasks}
use Rattle.gb_project.proofs.ScriptTaskLemmas.{tasks_are_good, tasks_listed, tasks_in_table}

module _ {M F Z S A : Type 0} (tables : Tables M F Z S A) (source : Source) (scripts : List (Path × List Statement)) (given : List (Named (List ℕ))) (read : IsRead source scripts)
    (none : configure_faults tables source ≡ []) (found : (text : List ℕ) → lookup (is_at (byte_order text)) given ≡ find byte_order text (reverse source.given)) where
  all_are : source.said ≡ flat_map said_by scripts
  all_are = ap (λ (s : Source). s.said) read.said ∙ sym (ap (flat_map said_by) read.each)

  pub are_said : AreSaid tables source scripts given
  are_said = record {
    said = all_are;
    new = subst (AreNew []) (sym read.each) (are_new read.settings read.texts);
    good = nil_prefix (each_after (statement_faults tables) [] source.said) (flat_map (missing_tasks source.names) source.said) none;
    found = found;
  }

  -- its scripts are laid without a fault
  pub laid_good : scripts_faults tables.functions given tables.means [] scripts ≡ []
  laid_good =
      existing.scripts_are_good tables source scripts given are_said
      ∙ ap (flat_map (λ (script : Path × List Statement). build_faults script.0)) read.each
      ∙ builds_are_places read.settings read.texts read.good

  abbrev laid_nodes : List (Expression M F Z)
  laid_nodes = scripts_made tables.functions given [] scripts

  all_there : (number : ℕ → ℕ) (sites : List Site) → AllByRecursion (IsRight tables source (spots tables source) (whole tables source) number laid_nodes) sites
      → AllByRecursion (λ site. AreThere site (length laid_nodes)) sites
  all_there number [] right = tt
  all_there number (site ∷ sites) right = (right.0.there, all_there number sites right.1)

  pub sites_there : AllByRecursion (λ site. AreThere site (length laid_nodes)) (sites_made tables.functions given [] scripts)
  sites_there =
      let exists = existing.scripts_in_table tables source scripts given are_said in
      all_there exists.number (sites_made tables.functions given [] scripts) exists.right

  pub names_are : source.names.tasks ≡ paths_of source.said
  names_are = ap (λ (s : Source). s.names.tasks) read.said ∙ ap paths_of (sym (ap (λ (s : Source). s.said) read.said))

  pub paths_begin : Begins (task_paths (flat_map script_tasks scripts)) source.names.tasks
  paths_begin = (
    [],
    names_are ∙ paths_are source.said ∙ ap task_paths (sym (tasks_listed tables source scripts given are_said)) ∙ sym (append-nil (task_paths (flat_map script_tasks scripts))),
  )

  pub tasks_good : AreAllGood tables source.names (sites_made tables.functions given [] scripts) scripts
  tasks_good = tasks_are_good tables source scripts given are_said

  pub all_declared : AreDeclared tables source (with_scripts tables source.names (begun laid_nodes) (sites_made tables.functions given [] scripts) scripts)
  all_declared = tasks_in_table tables source scripts given are_said

pub ok_if : {X E : Type 0} (P Q : X → Type 0) → ((x : X) → P x → Q x) → (r : Result X E) → IfOk r P → IfOk r Q
ok_if P Q all (Ok x) p = all x p
ok_if P Q all (Err e) p = p
