use Rattle.std.proofs.Common.{◌≡◌, ◌≢◌, ◌<◌, ◌++◌, ◌+◌, ℕ, List, Option, Some, None, [], ◌∷◌, map, length, get_or, unwrap_or, take, sym, ap, ◌∙◌, arith, inl, inr}
use Rattle.std.proofs.Math.Seq.{take-length}
use Rattle.std.proofs.lemmas.Grind.{take_at_read}
use Rattle.std.proofs.lemmas.List.{get_or_default, get_or-map, get_or-set_other, length-map, map-append}
use Rattle.std.proofs.lemmas.List.Elements.{Contains-get_or}
use Rattle.gb_plan.specs.declared.plan.Planned.{Planned}
use Rattle.gb_graph.proofs.Edges.{take_grows}
use Rattle.gb_graph.proofs.Numbers.{separate_take}
use Rattle.gb_graph.proofs.ranked.tasks_at.Goals as goal
use Rattle.gb_graph.proofs.ranked.tasks_at.Goals.{in-Some+in_ok-push, in_default}

pub index_mut-requires : goal.index_mut-requires
index_mut-requires c =
    let lt = c.requires.known _ (Contains-get_or c.args.numbers.now c.loop-number.number-index 0 c.loop-number-test.true) in
    omega (arith, lt, c.loop-number.invariant.each)

pub loop-number-init : goal.loop-number-init
loop-number-init c =
    let tasks = c.args.tasks.items in
    record {
      each = let e : length c.in_ok-slots.slots.items ≡ length tasks = ap length c.in_ok-slots.ensures ∙ length-map tasks Some in omega (arith, e);
      filled = λ k d lt _. ap (λ (xs : List (Option Planned)). get_or xs k None) c.in_ok-slots.ensures ∙ get_or-map Some tasks k d None lt;
      placed = λ d. c.new-placed.ensures.items;
    }

pub loop-number-preserved : goal.loop-number-preserved
loop-number-preserved c =
    let tasks = c.args.tasks.items in
    let numbers = c.args.numbers.now in
    let i = c.loop-number.number-index in
    let t = get_or numbers i 0 in
    let lt = c.loop-number-test.true in
    let slots = c.loop-number.slots.items in
    let known : t < length tasks = c.requires.known t (Contains-get_or numbers i 0 lt) in
    let fits : t < length slots = omega (arith, known, c.loop-number.invariant.each) in
    let taken : (d : Planned) → c.take.result ≡ Some (get_or tasks t d) = λ d.
    c.take.ensures.value ∙ (c.index_mut.ensures.value ∙ (get_or_default slots t _ None fits ∙ c.loop-number.invariant.filled t d known (separate_take numbers i 0 c.requires.separate lt))) in
    let grows = λ (k : ℕ). take_grows numbers i t k lt (get_or_default numbers i 0 t lt) in
    record {
      each = c.loop-number.invariant.each;
      filled = λ k d within lacks.
          let separate : k ≢ t = λ e. lacks ((grows k).1 (inr (sym e))) in
          get_or-set_other slots t k c.take.new.self None separate ∙ c.loop-number.invariant.filled k d within (λ old. lacks ((grows k).1 (inl old)));
      placed = λ d.
          let f : ℕ → Planned = λ k. get_or tasks k d in
          let next : map f (take i numbers) ++ f t ∷ [] ≡ map f (take (i + 1) numbers) =
          sym (map-append f (take i numbers) (t ∷ [])) ∙ ap (map f) (sym (take_at_read numbers i 0 lt).1) in
          elim c.match-take.branch [
            | in-Some+in_ok-push w ↦
                let is : w.in-Some.planned ≡ f t = ap (λ (o : Option Planned). unwrap_or o (f t)) (sym w.in-Some.is ∙ taken d) in
                ap (λ (v : _). v.items) w.placed-is ∙ (w.in_ok-push.ensures.items
                ∙ (ap (λ (z : Planned). c.loop-number.placed.items ++ z ∷ []) is ∙ (ap (λ (zs : List Planned). zs ++ f t ∷ []) (c.loop-number.invariant.placed d) ∙ next)))
            | in_default w ↦ absurd (w.in_default.not-Some (f t) (taken d))
          ];
    }

pub returns : goal.returns
returns c = λ d.
    let e : length c.args.numbers.now ≡ c.loop-number.number-index = omega (arith, c.loop-number-test.false) in
    c.loop-number.invariant.placed d ∙ ap (map (λ k. get_or c.args.tasks.items k d)) (ap (λ n. take n c.args.numbers.now) (sym e) ∙ take-length c.args.numbers.now)
