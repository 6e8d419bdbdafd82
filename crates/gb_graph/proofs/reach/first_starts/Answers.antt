use Rattle.std.proofs.Common.{◌≡◌, ◌<◌, Contains, length, drop, sym, ap, subst, ◌∙◌, arith}
use Rattle.std.proofs.lemmas.List.{length-map}
use Rattle.gb_graph.specs.Order.{rows, row}
use Rattle.gb_graph.specs.Settled.{is_marked}
use Rattle.gb_graph.proofs.Reached.{first_none, first_more, first_as, spread_as, prefix_of, none_exist}
use Rattle.gb_graph.proofs.Rows.{rows_row}
use Rattle.gb_graph.proofs.reach.first_starts.Goals as goal

pub loop-word-init : goal.loop-word-init
loop-word-init c = record {
  marks = c.in_ok-exists.ensures.len;
  each = c.in_ok-words.ensures.len;
  first = first_none (rows c.args.table.now) (rows c.args.starts.now) c.in_ok-exists.exists.items c.in_ok-words.words.items (λ k. ap (λ s. is_marked s k) (c.in_ok-exists.ensures.items_if_clones_equal (λ y h. h)) ∙ none_exist (length c.args.table.now) k);
}

pub spread-requires : goal.spread-requires
spread-requires c =
    let old = c.loop-word.invariant in
    let lt : c.loop-word.word < length c.args.starts.now = c.loop-word-test.true in
    let is : c.deref.result.now ≡ row (rows c.args.starts.now) c.loop-word.word = c.deref.ensures.value ∙ sym (rows_row c.args.starts.now c.loop-word.word c.index-starts-word.result lt c.index-starts-word.is) in
    record {
      tasks = c.requires.tasks;
      known = λ task h. c.requires.known c.loop-word.word task (subst (λ ts. Contains ts task) is h);
      marks = omega (arith, c.deref_mut.ensures.len, old.marks);
      each = omega (arith, c.deref_mut-in-loop-word.ensures.len, old.each);
      closed = λ from task h e. ap (λ s. is_marked s task) c.deref_mut.ensures.value ∙ old.first.closed from task (ap (λ s. is_marked s from) (sym c.deref_mut.ensures.value) ∙ h) e;
    }

pub loop-word-preserved : goal.loop-word-preserved
loop-word-preserved c =
    let table = rows c.args.table.now in
    let starts = rows c.args.starts.now in
    let old = c.loop-word.invariant in
    let i = c.loop-word.word in
    let exists = c.loop-word.exists.items in
    let words = c.loop-word.words.items in
    let lt : i < length c.args.starts.now = c.loop-word-test.true in
    let same : length starts ≡ length c.args.starts.now = length-map c.args.starts.now (λ v. v.items) in
    let is : c.deref.result.now ≡ row starts i = c.deref.ensures.value ∙ sym (rows_row c.args.starts.now i c.index-starts-word.result lt c.index-starts-word.is) in
    let new_exists = prefix_of c.loop-word.exists.len c.spread.new.exists (drop (length c.spread.new.exists) exists) (omega (arith, c.spread.auto.exists, c.deref_mut.ensures.len)) in
    let new_words = prefix_of c.loop-word.words.len c.spread.new.words (drop (length c.spread.new.words) words) (omega (arith, c.spread.auto.words, c.deref_mut-in-loop-word.ensures.len)) in
    record {
      marks = old.marks;
      each = old.each;
      first = first_as table starts _ c.spread.new.exists _ c.spread.new.words _ new_exists new_words
          (first_more table starts i (omega (arith, lt, same)) exists c.spread.new.exists words c.spread.new.words old.first c.deref.result.now is
          (spread_as table c.deref.result.now i exists c.deref_mut.result.now c.spread.new.exists words c.deref_mut-in-loop-word.result.now c.spread.new.words
          c.deref_mut.ensures.value c.deref_mut-in-loop-word.ensures.value c.in_ok-spread.ensures));
    }

pub returns : goal.returns
returns c = record {
  each = omega (arith, c.loop-word.invariant.each);
  first = λ index task low r.
      let first = c.loop-word.invariant.first in
      (first.first task (first.whole index task (omega (arith, low, c.loop-word-test.false)) r)).1;
}
