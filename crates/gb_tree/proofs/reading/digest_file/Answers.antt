use Rattle.std.proofs.Common.{arith, ◌≡◌, ◌+◌, ◌*◌, ℕ, List, inr, take, ◌∙◌, ap, subst}
use Rattle.std.proofs.lemmas.List.{take_all}
use Rattle.sha2.specs.Hashers.{Holds256}
use Rattle.sha2.specs.Sha256.{sha256}
use Rattle.gb_tree.specs.declared.fault.TreeFault.TheVariants as faults
use Rattle.gb_tree.specs.Tree.{bytes_at}
use Rattle.gb_tree.proofs.Pieces.{same_piece, one_more, last_piece, whole_digest, within_file, nothing_after, something_after, not_large, is_too_large, is_none, is_some}
use Rattle.gb_folder.proofs.Asked.{requests_then}
use Rattle.gb_tree.proofs.reading.digest_file.Goals as goal

pub returns-then-len-lt-PIECE-clause-digest : goal.returns-then-len-lt-PIECE-clause-digest
returns-then-len-lt-PIECE-clause-digest g c = λ faithful.
    let before = c.in_ok-piece.ensures.reads.requests.back faithful in
    let bytes = bytes_at (g.F.Folder.device.contents c.args.folder.now).files c.args.place.now in
    let old = c.loop-index in
    let at = old.index * 65536 in
    whole_digest at bytes c.as_slice.result.now _ (c.finalize.ensures _ (c.update.ensures (take at bytes) (old.invariant.held before)))
    (c.as_slice.ensures.value ∙ same_piece _ _ c.args.place.now at 65536 _ (old.invariant.same before) (c.in_ok-piece.ensures.read faithful)) (omega (arith, c.as_slice.ensures.len, c.len.ensures, c.if-len-lt-PIECE.true))

pub returns-then-len-lt-PIECE-clause-small : goal.returns-then-len-lt-PIECE-clause-small
returns-then-len-lt-PIECE-clause-small g c = λ faithful.
    let bytes = bytes_at (g.F.Folder.device.contents c.args.folder.now).files c.args.place.now in
    let old = c.loop-index in
    let at = old.index * 65536 in
    let end = last_piece at bytes c.in_ok-piece.piece.items (same_piece _ _ c.args.place.now at 65536 _ (old.invariant.same (c.in_ok-piece.ensures.reads.requests.back faithful)) (c.in_ok-piece.ensures.read faithful)) (omega (arith, c.len.ensures, c.if-len-lt-PIECE.true)) in
    not_large bytes (omega (arith, end, c.loop-index-test.true))

pub loop-index-preserved : goal.loop-index-preserved
loop-index-preserved g c =
    let back = c.in_ok-piece.ensures.reads.requests.back in
    let bytes = bytes_at (g.F.Folder.device.contents c.args.folder.now).files c.args.place.now in
    let old = c.loop-index in
    let at = old.index * 65536 in
    let next : at + 65536 ≡ (old.index + 1) * 65536 = omega arith in
    record {
      requests = requests_then old.invariant.requests c.in_ok-piece.ensures.reads.requests;
      back = λ faithful. old.invariant.back (back faithful);
      same = λ faithful. c.in_ok-piece.ensures.reads.same faithful ∙ old.invariant.same (back faithful);
      most = omega (arith, c.loop-index-test.true);
      more = λ faithful.
          let far = within_file at bytes c.in_ok-piece.piece.items (old.invariant.more (back faithful)) (same_piece _ _ c.args.place.now at 65536 _ (old.invariant.same (back faithful)) (c.in_ok-piece.ensures.read faithful)) (omega (arith, c.len.ensures, c.if-len-lt-PIECE.false)) in
          omega (arith, far);
      held = λ faithful.
          let is = c.as_slice.ensures.value ∙ same_piece _ _ c.args.place.now at 65536 _ (old.invariant.same (back faithful)) (c.in_ok-piece.ensures.read faithful) in
          subst (λ (n : ℕ). Holds256 c.update.new.self (take n bytes)) next
          (subst (λ (held : List ℕ). Holds256 c.update.new.self held) (one_more at bytes c.as_slice.result.now is) (c.update.ensures (take at bytes) (old.invariant.held (back faithful))));
    }

pub returns-then-is_empty-clause-digest : goal.returns-then-is_empty-clause-digest
returns-then-is_empty-clause-digest g c = λ faithful.
    let before = c.in_ok-more.ensures.reads.requests.back faithful in
    let bytes = bytes_at (g.F.Folder.device.contents c.args.folder.now).files c.args.place.now in
    let old = c.loop-index in
    let at : old.index * 65536 ≡ 8388608 = omega (arith, old.invariant.most, c.loop-index-test.false) in
    let is = c.as_slice-2.ensures.value ∙ same_piece _ _ c.args.place.now 8388608 1 _ (old.invariant.same before) (c.in_ok-more.ensures.read faithful) in
    let end = nothing_after 8388608 bytes c.as_slice-2.result.now is (is_none _ c.if-is_empty.ensures) in
    c.finalize-then-is_empty.ensures (take (old.index * 65536) bytes) (old.invariant.held before)
    ∙ ap sha256 (take_all (old.index * 65536) bytes (omega (arith, at, end)))

pub returns-then-is_empty-clause-small : goal.returns-then-is_empty-clause-small
returns-then-is_empty-clause-small g c = λ faithful.
    let bytes = bytes_at (g.F.Folder.device.contents c.args.folder.now).files c.args.place.now in
    let is = c.as_slice-2.ensures.value ∙ same_piece _ _ c.args.place.now 8388608 1 _ (c.loop-index.invariant.same (c.in_ok-more.ensures.reads.requests.back faithful)) (c.in_ok-more.ensures.read faithful) in
    not_large bytes (nothing_after 8388608 bytes c.as_slice-2.result.now is (is_none _ c.if-is_empty.ensures))

pub returns-clause-err : goal.returns-clause-err
returns-clause-err g c = λ faithful exists.
    let bytes = bytes_at (g.F.Folder.device.contents c.args.folder.now).files c.args.place.now in
    let is = c.as_slice-2.ensures.value ∙ same_piece _ _ c.args.place.now 8388608 1 _ (c.loop-index.invariant.same (c.in_ok-more.ensures.reads.requests.back faithful)) (c.in_ok-more.ensures.read faithful) in
    inr (is_too_large bytes (something_after 8388608 bytes c.as_slice-2.result.now is (is_some _ c.if-is_empty.ensures)), ap faults.TooLarge c.in_ok-copy.ensures)
