use Rattle.std.proofs.Common.{◌≡◌, ℕ, List, IsTrue, sym, ap, subst, ◌∙◌, set}
use Rattle.std.specs.List.{insert}
use Rattle.std.specs.FinMap.Entries.{put, is_sorted}
use Rattle.gb_core.specs.Lists.{byte_order}
use Rattle.gb_action.proofs.Ordered.{put-at, put-insert, searchable, ordered-put}
use Rattle.gb_action.proofs.files.Files.insert.Goals as goal

-- the result of `put` is what a write at the index found leaves
replaced : (c : goal.After-drop-index_mut-in-Ok) → put byte_order c.args.path c.args.bytes c.self.inside.entries.items ≡ set c.self.inside.entries.items c.in-Ok.index (c.args.path, c.args.bytes)
replaced c =
    let es = c.as_slice.result.now in
    let is = c.as_slice.ensures.value in
    let ordered : IsTrue (is_sorted byte_order es) = subst (λ x. IsTrue (is_sorted byte_order x)) (sym is) c.self.invariant in
    let d : List ℕ × List ℕ = (c.args.path, c.args.bytes) in
    subst (λ x. put byte_order c.args.path c.args.bytes x ≡ set x c.in-Ok.index d) is
    (put-at es c.args.path c.args.bytes c.in-Ok.index d ordered c.in-Ok.ensures.within (c.in-Ok.ensures.position d))

-- the result of `put` is what an insert at the index for the path leaves
inserted : (c : goal.In_ok-insert-in-Err) → put byte_order c.args.path c.args.bytes c.self.inside.entries.items ≡ c.insert.new.self.items
inserted c =
    let es = c.as_slice.result.now in
    let is = c.as_slice.ensures.value in
    let ordered : IsTrue (is_sorted byte_order es) = subst (λ x. IsTrue (is_sorted byte_order x)) (sym is) c.self.invariant in
    ap (put byte_order c.args.path c.args.bytes) (sym is)
    ∙ put-insert es c.args.path c.args.bytes c.in-Err.index c.in-Err.ensures.within (c.in-Err.ensures.position (searchable es c.args.path ordered))
    ∙ ap (λ x. insert x c.in-Err.index (c.args.path, c.args.bytes)) is
    ∙ sym c.in_ok-insert-in-Err.ensures.items

pub invariant_of-self : goal.invariant_of-self
invariant_of-self c = subst (λ x. IsTrue (is_sorted byte_order x)) (replaced c) (ordered-put c.self.inside.entries.items c.args.path c.args.bytes c.self.invariant)

pub invariant_of-self-in-Continue-1 : goal.invariant_of-self-in-Continue-1
invariant_of-self-in-Continue-1 c = subst (λ x. IsTrue (is_sorted byte_order x)) (inserted c) (ordered-put c.self.inside.entries.items c.args.path c.args.bytes c.self.invariant)

pub returns-in-Ok-clause-ok : goal.returns-in-Ok-clause-ok
returns-in-Ok-clause-ok c = sym (replaced c) ∙ ap (put byte_order c.args.path c.args.bytes) c.self.view_is

pub returns-in_ok-insert-in-Err-clause-ok : goal.returns-in_ok-insert-in-Err-clause-ok
returns-in_ok-insert-in-Err-clause-ok c = sym (inserted c) ∙ ap (put byte_order c.args.path c.args.bytes) c.self.view_is
