use Rattle.std.proofs.Common.{◌≡◌, ℕ, List, [], length, sym, ap, subst, ◌∙◌}
use Rattle.std.specs.Prelude.{reverse}
use Rattle.std.specs.BTreeMap.{is_at}
use Rattle.std.specs.FinMap.Entries.{find}
use Rattle.std.specs.List.{AllByRecursion}
use Rattle.std.specs.Map.{lookup}
use Rattle.gb_core.specs.Lists.{byte_order}
use Rattle.gb_registry.specs.References.{Names}
use Rattle.gb_registry.specs.SoFar.{scripts_in}
use Rattle.gb_registry.specs.Tables.{tables_of}
use Rattle.gb_declare.specs.Site.{AreThere}
use Rattle.gb_declare.specs.NodesInTable.{scripts_faults, scripts_made, sites_made}
use Rattle.gb_project.specs.Kept.{AreDeclared}
use Rattle.gb_project.specs.Stage.{AreAllGood, begun, with_scripts}
use Rattle.gb_project.specs.Steps.{IsStaged, laid_sites}
use Rattle.gb_project.specs.Views.{stage_of}
use Rattle.gb_project.specs.Workspace.{IsKeptIn}
use Rattle.gb_project.proofs.BeginLemmas.{all_declared, laid_good, names_are, ok_if, paths_begin, sites_there, tasks_good}
use Rattle.gb_project.proofs.workspaces.declared.Goals as goal

pub lay-requires : goal.lay-requires
lay-requires g c =
    let tables = tables_of g.T.Transforms.meanings g.A.Actions.meanings c.args.configured.now.tables.now in
    let source = c.args.configured.now.registry in
    let scripts = scripts_in c.scripts-scripts.result.now in
    let given = c.in_ok-given.given.entries in
    let found : (text : List ℕ) → lookup (is_at (byte_order text)) given ≡ find byte_order text (reverse source.given) =
    λ text. c.in_ok-given.ensures text ∙ ap (λ l. find byte_order text (reverse l)) c.given.ensures in
    ap (λ t. scripts_faults t given g.T.Transforms.meanings c.args.providers.now.nodes scripts) c.requires.table
    ∙ ap (λ ns. scripts_faults tables.functions given g.T.Transforms.meanings ns scripts) c.requires.none
    ∙ laid_good tables source scripts given c.scripts-scripts.ensures.read c.args.configured.now.good found

pub declare_scripts-requires-clause-there : goal.declare_scripts-requires-clause-there
declare_scripts-requires-clause-there g c =
    let tables = tables_of g.T.Transforms.meanings g.A.Actions.meanings c.args.configured.now.tables.now in
    let source = c.args.configured.now.registry in
    let scripts = scripts_in c.scripts-scripts.result.now in
    let given = c.in_ok-given.given.entries in
    let found : (text : List ℕ) → lookup (is_at (byte_order text)) given ≡ find byte_order text (reverse source.given) =
    λ text. c.in_ok-given.ensures text ∙ ap (λ l. find byte_order text (reverse l)) c.given.ensures in
    let sites : laid_sites given scripts c.deref.result.now ≡ sites_made tables.functions given [] scripts =
    ap (laid_sites given scripts) c.deref.ensures.value ∙ c.in_ok-laid.ensures.sites
    ∙ ap (λ t. sites_made t given c.args.providers.now.nodes scripts) c.requires.table ∙ ap (λ ns. sites_made tables.functions given ns scripts) c.requires.none in
    let nodes : c.lay.new.providers.nodes ≡ scripts_made tables.functions given [] scripts =
    c.in_ok-laid.ensures.made.made
    ∙ ap (λ t. scripts_made t given c.args.providers.now.nodes scripts) c.requires.table ∙ ap (λ ns. scripts_made tables.functions given ns scripts) c.requires.none in
    subst (λ all. AllByRecursion (λ site. AreThere site (length c.lay.new.providers.nodes)) all) (sym sites)
    (subst (λ ns. AllByRecursion (λ site. AreThere site (length ns)) (sites_made tables.functions given [] scripts)) (sym nodes)
    (sites_there tables source scripts given c.scripts-scripts.ensures.read c.args.configured.now.good found))

pub declare_scripts-requires-clause-next : goal.declare_scripts-requires-clause-next
declare_scripts-requires-clause-next g c =
    let tables = tables_of g.T.Transforms.meanings g.A.Actions.meanings c.args.configured.now.tables.now in
    let source = c.args.configured.now.registry in
    let scripts = scripts_in c.scripts-scripts.result.now in
    let given = c.in_ok-given.given.entries in
    let found : (text : List ℕ) → lookup (is_at (byte_order text)) given ≡ find byte_order text (reverse source.given) =
    λ text. c.in_ok-given.ensures text ∙ ap (λ l. find byte_order text (reverse l)) c.given.ensures in
    let begin = paths_begin tables source scripts given c.scripts-scripts.ensures.read c.args.configured.now.good found in
    (begin.0, c.as_slice-paths.ensures ∙ c.tasks-tasks.ensures.tasks ∙ begin.1)

pub declare_scripts-requires-clause-good : goal.declare_scripts-requires-clause-good
declare_scripts-requires-clause-good g c =
    let tables = tables_of g.T.Transforms.meanings g.A.Actions.meanings c.args.configured.now.tables.now in
    let source = c.args.configured.now.registry in
    let scripts = scripts_in c.scripts-scripts.result.now in
    let given = c.in_ok-given.given.entries in
    let found : (text : List ℕ) → lookup (is_at (byte_order text)) given ≡ find byte_order text (reverse source.given) =
    λ text. c.in_ok-given.ensures text ∙ ap (λ l. find byte_order text (reverse l)) c.given.ensures in
    let sites : laid_sites given scripts c.deref.result.now ≡ sites_made tables.functions given [] scripts =
    ap (laid_sites given scripts) c.deref.ensures.value ∙ c.in_ok-laid.ensures.sites
    ∙ ap (λ t. sites_made t given c.args.providers.now.nodes scripts) c.requires.table ∙ ap (λ ns. sites_made tables.functions given ns scripts) c.requires.none in
    let known : Names = record { projects = c.projects.result.now; tasks = c.paths.result.now } in
    let names : known ≡ source.names =
    (λ i. record { projects = c.projects.ensures i; tasks = (c.paths.ensures ∙ c.tasks-tasks.ensures.tasks) i }) in
    subst (λ ns. AreAllGood tables ns (laid_sites given scripts c.deref.result.now) scripts) (sym names)
    (subst (λ all. AreAllGood tables source.names all scripts) (sym sites)
    (tasks_good tables source scripts given c.scripts-scripts.ensures.read c.args.configured.now.good found))

pub returns : goal.returns
returns g c =
    let tables = tables_of g.T.Transforms.meanings g.A.Actions.meanings c.args.configured.now.tables.now in
    let source = c.args.configured.now.registry in
    let scripts = scripts_in c.scripts-scripts.result.now in
    let given = c.in_ok-given.given.entries in
    let found : (text : List ℕ) → lookup (is_at (byte_order text)) given ≡ find byte_order text (reverse source.given) =
    λ text. c.in_ok-given.ensures text ∙ ap (λ l. find byte_order text (reverse l)) c.given.ensures in
    let sites : laid_sites given scripts c.deref.result.now ≡ sites_made tables.functions given [] scripts =
    ap (laid_sites given scripts) c.deref.ensures.value ∙ c.in_ok-laid.ensures.sites
    ∙ ap (λ t. sites_made t given c.args.providers.now.nodes scripts) c.requires.table ∙ ap (λ ns. sites_made tables.functions given ns scripts) c.requires.none in
    let nodes : c.lay.new.providers.nodes ≡ scripts_made tables.functions given [] scripts =
    c.in_ok-laid.ensures.made.made
    ∙ ap (λ t. scripts_made t given c.args.providers.now.nodes scripts) c.requires.table ∙ ap (λ ns. scripts_made tables.functions given ns scripts) c.requires.none in
    let known : Names = record { projects = c.projects.result.now; tasks = c.paths.result.now } in
    let names : known ≡ source.names =
    (λ i. record { projects = c.projects.ensures i; tasks = (c.paths.ensures ∙ c.tasks-tasks.ensures.tasks) i }) in
    let same : with_scripts tables known (begun c.lay.new.providers.nodes) (laid_sites given scripts c.deref.result.now) scripts
    ≡ with_scripts tables source.names (begun (scripts_made tables.functions given [] scripts)) (sites_made tables.functions given [] scripts) scripts =
    (λ i. with_scripts tables (names i) (begun (nodes i)) (sites i) scripts) in
    let whole = all_declared tables source scripts given c.scripts-scripts.ensures.read c.args.configured.now.good found in
    ok_if (λ d. IsStaged c.lay.new.providers c.declare_scripts.new.providers d (with_scripts tables known (begun c.lay.new.providers.nodes) (laid_sites given scripts c.deref.result.now) scripts))
    (λ d. IsKeptIn tables source (stage_of c.declare_scripts.new.providers.nodes d))
    (λ d staged. record {
      tasks = names_are tables source scripts given c.scripts-scripts.ensures.read c.args.configured.now.good found;
      declared = subst (AreDeclared tables source) (sym (staged.staged ∙ same)) whole;
    }) c.declare_scripts.result c.declare_scripts.ensures
