use Rattle.std.proofs.Common.{◌≡◌, ◌++◌, ℕ, List, codes, string_bytes, ap, ◌∙◌}
use Rattle.std.proofs.lemmas.Result.{IfOk-weaker}
use Rattle.std.specs.List.{flat_map}
use Rattle.gb_picture.specs.Svg.{curve, spot_at}
use Rattle.gb_picture.proofs.Numbered.{three}
use Rattle.gb_picture.proofs.svg.push_edges.Goals as goal

pub returns : goal.returns
returns c =
    let spots = c.args.spots.now in
    let number = c.args.number in
    let old = string_bytes c.args.out.now in
    let one = string_bytes c.push_before.new.out in
    let two = string_bytes c.push_before-2.new.out in
    let end = string_bytes c.push_after.new.out in
    let needs : ℕ → List ℕ = (λ one. curve (spot_at spots one) (spot_at spots number) (codes "n")) in
    let runs_after : ℕ → List ℕ = (λ one. curve (spot_at spots one) (spot_at spots number) (codes "a")) in
    let finalizers : ℕ → List ℕ = (λ one. curve (spot_at spots number) (spot_at spots one) (codes "f")) in
    let node = c.args.node.now in
    let first : one ≡ old ++ flat_map needs node.needs.items = c.in_ok-push_before.ensures ∙ ap (λ s. old ++ flat_map needs s) c.as_slice.ensures.value in
    let second : two ≡ one ++ flat_map runs_after node.runs_after.items = c.in_ok-push_before-2.ensures ∙ ap (λ s. one ++ flat_map runs_after s) c.as_slice-2.ensures.value in
    IfOk-weaker c.push_after.result _ _
    (λ done e. three old (flat_map needs node.needs.items) (flat_map runs_after node.runs_after.items) (flat_map finalizers node.finalizers.items) one two end
    first second (e ∙ ap (λ s. two ++ flat_map finalizers s) c.as_slice-3.ensures.value))
    c.push_after.ensures
