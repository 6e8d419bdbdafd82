use Rattle.std.proofs.Common.{◌≡◌, ◌+◌, ◌<◌, ◌∷◌, ◌++◌, length, get_or, drop, refl, sym, ap, ◌∙◌, arith}
use Rattle.std.specs.Prelude.{zip}
use Rattle.std.specs.Vec.Iter.{into_iter_items}
use Rattle.std.proofs.lemmas.List.{append-nil}
use Rattle.gb_registry.specs.SoFar.{scripts_in}
use Rattle.gb_registry.proofs.Placed.{folder_at, none_left, placed_more, zip_none}
use Rattle.gb_registry.proofs.configure.with_projects.Goals as goal

pub copy_project-requires : goal.copy_project-requires
copy_project-requires c =
    let next = c.loop-script.next in
    let projects = c.args.projects.now in
    let place = c.index-places-next.result in
    let steps = c.in-Some.ensures.steps.0 in
    let within : next < length projects = omega (arith, c.loop-script.invariant.room, ap length steps) in
    (folder_at projects next place within (c.index-places-next.is ∙ ap (λ ps. get_or ps next place) c.as_slice-places.ensures)).0

pub loop-script-preserved : goal.loop-script-preserved
loop-script-preserved c =
    let next = c.loop-script.next in
    let projects = c.args.projects.now in
    let place = c.index-places-next.result in
    let steps = c.in-Some.ensures.steps.0 in
    let within : next < length projects = omega (arith, c.loop-script.invariant.room, ap length steps) in
    let rest = into_iter_items c.next.new.self in
    let at = folder_at projects next place within (c.index-places-next.is ∙ ap (λ ps. get_or ps next place) c.as_slice-places.ensures) in
    let before =
    c.loop-script.invariant.so_far
    ∙ ap (λ r. scripts_in c.loop-script.made.items ++ zip (drop next projects) r) steps
    ∙ ap (λ ps. scripts_in c.loop-script.made.items ++ zip ps (c.in-Some.script ∷ rest)) at.1 in
    record {
      places = c.loop-script.invariant.places;
      so_far = placed_more c.loop-script.made.items c.push.new.self.items (record { project = c.in_ok-project.project; script = c.in-Some.script }) place.0 c.in-Some.script (zip (drop (next + 1) projects) rest) _ c.in_ok-push.ensures.items c.in_ok-project.ensures refl before;
      room = omega (arith, c.loop-script.invariant.room, ap length steps);
    }

pub returns : goal.returns
returns c =
    let next = c.loop-script.next in
    let projects = c.args.projects.now in
    let empty : length (into_iter_items c.loop-script.script-iterator) ≡ 0 = omega (arith, c.loop-script.script-iterator.rest.ok.0, c.in-None.ensures.steps.0) in
    let none = none_left (into_iter_items c.loop-script.script-iterator) empty in
    sym (c.loop-script.invariant.so_far
    ∙ ap (λ r. scripts_in c.loop-script.made.items ++ zip (drop next projects) r) none
    ∙ ap (λ l. scripts_in c.loop-script.made.items ++ l) (zip_none (drop next projects))
    ∙ append-nil (scripts_in c.loop-script.made.items))
