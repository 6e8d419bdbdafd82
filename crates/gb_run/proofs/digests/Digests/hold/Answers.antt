use Rattle.gb_folder.proofs.Sound.{placed_after_put, sorted_after_put}
use Rattle.gb_run.specs.Digests.{digests_in}
use Rattle.gb_run.proofs.digests.Digests.hold.Goals as goal

pub invariant_of-self-inside : goal.invariant_of-self-inside
invariant_of-self-inside c =
    let old = digests_in c.self.inside.held in
    let new = digests_in c.hold.new.held in (
      sorted_after_put c.hold.result old new c.args.place.now c.args.digest c.hold.ensures.ok c.hold.ensures.err c.self.inside.sorted,
      (placed_after_put c.hold.result old new c.args.place.now c.args.digest c.hold.ensures.ok c.hold.ensures.err c.hold.ensures.place c.self.inside.placed, tt),
    )
