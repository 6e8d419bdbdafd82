use Rattle.std.proofs.Common.{sym, ap, subst, ◌∙◌, ◌<◌}
use Rattle.std.specs.Prelude.{All, drop}
use Rattle.gb_registry.proofs.Folders.{project_bytes}
use Rattle.gb_registry.proofs.paths.folder_text.Goals as goal

pub slashed_text-requires : goal.slashed_text-requires
slashed_text-requires c =
    let path = sym c.as_bytes.ensures.value ∙ c.in-Some.ensures.cases.0 in
    subst (All (λ byte. byte < 128)) (ap (drop 1) path) (project_bytes c.args.path.now c.requires)
