use Rattle.std.proofs.Common.{◌≡◌, ℕ, List, true, subst}
use Rattle.std.proofs.lemmas.List.Elements.{All-head, All-tail}
use Rattle.gb_core.specs.Place.{is_under}
use Rattle.gb_disk.specs.Disk.{AllUnder}
use Rattle.gb_disk.proofs.device.Device.meet.Goals as goal

pub loop-place-preserved : goal.loop-place-preserved
loop-place-preserved g c =
    let left = subst (AllUnder c.args.root.now) c.in-Some.ensures.steps.0 c.loop-place.invariant.left in
    let here = All-head (λ (place : List ℕ). is_under place c.args.root.now ≡ true) _ _ left in
    record {
      files = c.add.ensures.files c.args.root.now here c.loop-place.invariant.files;
      folders = c.add.ensures.folders c.args.root.now here c.loop-place.invariant.folders;
      left = All-tail (λ (place : List ℕ). is_under place c.args.root.now ≡ true) _ _ left;
    }
