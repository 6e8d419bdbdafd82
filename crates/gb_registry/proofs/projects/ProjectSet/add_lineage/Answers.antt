use Rattle.std.proofs.Common.{◌≡◌, lit<, true, ap, subst, None, Some}
use Rattle.std.specs.Prelude.{drop}
use Rattle.std.specs.List.{list_all}
use Rattle.std.proofs.lemmas.Str.Pattern.{strip_prefix_char}
use Rattle.gb_core.specs.Path.{is_project_path}
use Rattle.gb_registry.specs.Projects.{lineage_of_names}
use Rattle.gb_registry.proofs.Folders.{begins_with_colon, lineage_is_good}
use Rattle.gb_registry.proofs.projects.ProjectSet.add_lineage.Goals as goal

pub add_names-requires : goal.add_names-requires
add_names-requires c =
    let path = strip_prefix_char 58 c.args.path.now (Some c.in-Some.names) c.in-Some.ensures.cases (lit< tt) in
    subst (λ names. list_all is_project_path (lineage_of_names names) ≡ true) (ap (drop 1) path) (lineage_is_good c.args.path.now c.requires)

pub unreachable-requires : goal.unreachable-requires
unreachable-requires c =
    let path = c.args.path.now in
    strip_prefix_char 58 path None c.in-None.ensures.cases (lit< tt) (drop 1 path) (begins_with_colon path c.requires)
