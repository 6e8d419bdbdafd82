use Rattle.std.proofs.Common.{◌≡◌, ◌∷◌, [], ap, lit<, map, string_bytes, sym, ◌∙◌}
use Rattle.std.proofs.lemmas.Iterator.Splits.{YieldsList-from_str_split}
use Rattle.std.proofs.lemmas.Iterator.Consumers.{YieldsList-at, YieldsList-turn}
use Rattle.std.proofs.lemmas.List.{map-append}
use Rattle.std.specs.List.{join_with_byte, list_all}
use Rattle.gb_core.specs.Place.{is_segment}
use Rattle.gb_disk.specs.Disk.{path_in}
use Rattle.gb_disk.proofs.Segments.{all_good, good_segment, step_down}
use Rattle.gb_disk.proofs.device.Device.go_to.Goals as goal

pub loop-segment-preserved : goal.loop-segment-preserved
loop-segment-preserved g c =
    let place = c.args.place.now in
    let base = string_bytes c.args.self.now.base in
    let segment = c.in-Some.segment.now in
    let so_far = map (λ s. s.now) c.loop-segment.yielded in
    let turn = YieldsList-turn (YieldsList-at c.into_iter-segment-iterator.ensures.into_iter_gives (YieldsList-from_str_split 47 place (lit< tt) (c.split-segment-items.ensures.text ∙ c.as_str-2.ensures.text) c.split-segment-items.ensures.has_more c.split-segment-items.ensures.pattern)) c.loop-segment.yielded _ c.loop-segment.yielded_by _ _ c.in-Some.segment c.in-Some.is c.next.ensures.steps in
    let good = good_segment place segment _ c.as_str-2.ensures.place turn.0 turn.1 in
    let more = map-append (λ s. s.now) c.loop-segment.yielded (c.in-Some.segment ∷ []) in
    record {
      good = ap (list_all is_segment) more ∙ all_good so_far segment c.loop-segment.invariant.good good;
      path = λ reached.
          let above : string_bytes c.loop-segment.path ≡ path_in base (join_with_byte 47 so_far) = c.loop-segment.invariant.path (c.in_ok-entry.ensures.above reached) in
          let steps : string_bytes c.step.new.path ≡ path_in (string_bytes c.loop-segment.path) segment = c.in_ok-entry.ensures.at reached in
          let before : path_in (string_bytes c.loop-segment.path) segment ≡ path_in (path_in base (join_with_byte 47 so_far)) segment = ap (λ path. path_in path segment) above in
          let after = step_down base segment so_far c.loop-segment.invariant.good good in
          steps ∙ before ∙ after ∙ ap (λ s. path_in base (join_with_byte 47 s)) (sym more);
    }
