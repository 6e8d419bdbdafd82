use mathlib.Core.Path.{fun_ext}
use Rattle.std.proofs.Common.{◌≡◌, None, Ok, MatchResult, ap, subst, ◌∙◌}
use Rattle.gb_action.specs.Files.{tree_at}
use Rattle.gb_with.specs.Renamed.{all_renamed}
use Rattle.gb_with.specs.TreeKinds.{IsFailure}
use Rattle.gb_with.proofs.renamed.RenamedTreeKind.make.Goals as goal

pub returns : goal.returns
returns g c =
    let renamed = g.K.Renaming.renamed in
    let edit = g.K.FileKind.makes c.args.arguments.now in
    subst (λ meant. MatchResult c.all_renamed.result (λ made. meant ≡ Ok made.items) (λ fault. IsFailure fault meant))
    (ap (λ maker. all_renamed renamed maker (λ _. None) c.files_of-2.result.now) (fun_ext c.in_ok-maker.ensures)
    ∙ ap (all_renamed renamed edit (λ _. None)) (c.files_of-2.ensures ∙ ap (tree_at c.args.trees.now) c.in_ok-source_name.ensures))
    c.all_renamed.ensures
