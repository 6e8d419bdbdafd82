use Rattle.std.proofs.Common.{Bor, ◌-◌, length, ◌≡◌, ◌++◌, ℕ, List, take, drop, sym, ap, ◌∙◌, append_assoc, take-append-drop}
use Rattle.std.proofs.lemmas.List.{take_rest}
use Rattle.std.proofs.KnownBytes.{Appends-trans, Appends-kept}
use Rattle.gb_printer.proofs.page.write.Goals as goal
use Rattle.gb_printer.proofs.page.write.Goals.{in-Ok, in-Err}

moves_prefix : (all done left : List ℕ) (n : ℕ) → all ≡ done ++ left → all ≡ (done ++ take n left) ++ take (length left - n) (drop n left)
moves_prefix all done left n e =
    e ∙ ap (λ l. done ++ l) (sym (take-append-drop n left)) ∙ sym (append_assoc done (take n left) (drop n left)) ∙ ap (λ l. (done ++ take n left) ++ l) (sym (take_rest left n))

pub loop-preserved : goal.loop-preserved
loop-preserved g c =
    let (done, split, appended) = c.loop.invariant in
    let all = c.args.text.now in
    let left = c.loop.left.now in
    elim c.match-write.branch [
      | in-Ok w ↦ (
        done ++ take w.in-Ok.count left,
        moves_prefix all done left w.in-Ok.count split ∙ ap (λ (b : Bor (List ℕ)). (done ++ take w.in-Ok.count left) ++ b.now) (sym w.left-is),
        Appends-trans _ _ _ _ _ appended w.in-Ok.ensures.bytes,
      )
      | in-Err w ↦ (
        done,
        split ∙ ap (λ (b : Bor (List ℕ)). done ++ b.now) (sym w.left-is),
        Appends-kept _ _ _ _ appended w.in-Err.ensures.bytes,
      )
    ]
