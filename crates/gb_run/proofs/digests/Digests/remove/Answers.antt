use Rattle.std.proofs.Common.{not, sym, ap, ◌∙◌, bytes_eq}
use Rattle.std.specs.FinMap.Entries.{is_sorted}
use Rattle.gb_core.specs.Lists.{byte_order}
use Rattle.gb_folder.specs.Files.{Files, are_placed, without}
use Rattle.gb_folder.proofs.Sound.{placed_where}
use Rattle.gb_run.specs.Digests.{digests_in}
use Rattle.gb_run.proofs.ByPlace.{sorted_without}
use Rattle.gb_run.proofs.Digested.{where_digests}
use Rattle.gb_run.proofs.digests.Digests.remove.Goals as goal

pub invariant_of-self-inside : goal.invariant_of-self-inside
invariant_of-self-inside c =
    let old = digests_in c.self.inside.held in
    let place = c.args.place.now in (
      ap (is_sorted byte_order) c.take_out.ensures ∙ sorted_without old place c.self.inside.sorted,
      (ap are_placed c.take_out.ensures ∙ placed_where (λ other. not (bytes_eq other place)) old c.self.inside.placed, tt),
    )

pub returns-clause-files : goal.returns-clause-files
returns-clause-files c = λ files is.
    let place = c.args.place.now in
    c.take_out.ensures ∙ ap (λ (fs : Files). without fs place) (c.self.view_is ∙ is) ∙ sym (where_digests (λ other. not (bytes_eq other place)) files)
