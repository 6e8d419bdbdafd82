use Rattle.std.proofs.Common.{◌<◌, ◌⊎◌, ◌↔◌, ◌+◌, ℕ, length, Contains, sym, subst, arith}
use Rattle.gb_graph.specs.Places.{place_at}
use Rattle.gb_graph.proofs.Cuts.{IsCut, cut_found, cut_passed, cuts_all}
use Rattle.gb_graph.proofs.overlaps.find_above.Goals as goal
use Rattle.gb_graph.proofs.overlaps.find_above.Goals.{then-text-end-eq47+in_ok-find_folder, else-text-end-eq47}

pub loop-end-preserved : goal.loop-end-preserved
loop-end-preserved c =
    let row = c.args.row.now in
    let text = c.args.text.now in
    let n = c.loop-end.end in
    let initial = c.args.found.now.items in
    let old = c.loop-end.found.items in
    elim c.if-text-end-eq47.branch [
      | then-text-end-eq47+in_ok-find_folder w ↦
          subst (λ (v : _). (k : ℕ) → Contains v.items k ↔ (Contains initial k ⊎ ((k < length row) × IsCut text (n + 1) (place_at row k)))) (sym w.found-is)
          (cut_found row text n initial old w.find_folder.new.found.items w.if-text-end-eq47.true c.loop-end.invariant w.in_ok-find_folder.ensures)
      | else-text-end-eq47 w ↦
          subst (λ (v : _). (k : ℕ) → Contains v.items k ↔ (Contains initial k ⊎ ((k < length row) × IsCut text (n + 1) (place_at row k)))) (sym w.found-is)
          (cut_passed row text n initial old w.if-text-end-eq47.false c.loop-end.invariant)
    ]

pub returns : goal.returns
returns c =
    cuts_all c.args.row.now c.args.text.now c.loop-end.end c.args.found.now.items c.loop-end.found.items (omega (arith, c.loop-end-test.false)) c.loop-end.invariant
