use Rattle.std.proofs.Common.{◌≡◌, ◌==◌, ◌&&◌, ◌||◌, lit<, [], ◌∷◌, ◌++◌, length, map, take, sym, ap, ◌∙◌, bytes_eq}
use Rattle.std.proofs.Math.Seq.{take-length}
use Rattle.std.proofs.lemmas.Iterator.Splits.{YieldsList-from_str_split}
use Rattle.std.proofs.lemmas.Iterator.Consumers.{YieldsList-at, YieldsList-turn, YieldsList-end}
use Rattle.std.proofs.lemmas.List.{length_push}
use Rattle.std.specs.List.{filter, list_any, slice_split}
use Rattle.gb_kinds.specs.Words.{is_word, letter_or_space}
use Rattle.gb_kinds.proofs.WordPaths.{small_run}
use Rattle.gb_kinds.proofs.WordSets.{word_of_next}
use Rattle.gb_kinds.proofs.file_words.words_of.Goals as goal

pub add_run-requires : goal.add_run-requires
add_run-requires c =
    let text = map letter_or_space c.args.bytes.now in
    let is : c.deref.result.now ≡ text = c.deref.ensures ∙ c.in_ok-text.ensures in
    let turn = YieldsList-turn (YieldsList-at c.into_iter-run-iterator.ensures.into_iter_gives (YieldsList-from_str_split 32 text (lit< tt) (c.split-run-items.ensures.text ∙ is) c.split-run-items.ensures.has_more c.split-run-items.ensures.pattern)) c.loop-run.yielded _ c.loop-run.yielded_by _ _ c.in-Some.run' c.in-Some.is c.next.ensures.steps in
    small_run c.args.bytes.now c.in-Some.run'.now (length c.loop-run.yielded) turn.0 turn.1

pub loop-run-preserved : goal.loop-run-preserved
loop-run-preserved c = λ word.
    let text = map letter_or_space c.args.bytes.now in
    let runs = slice_split (λ byte. byte == 32) text in
    let is : c.deref.result.now ≡ text = c.deref.ensures ∙ c.in_ok-text.ensures in
    let turn = YieldsList-turn (YieldsList-at c.into_iter-run-iterator.ensures.into_iter_gives (YieldsList-from_str_split 32 text (lit< tt) (c.split-run-items.ensures.text ∙ is) c.split-run-items.ensures.has_more c.split-run-items.ensures.pattern)) c.loop-run.yielded _ c.loop-run.yielded_by _ _ c.in-Some.run' c.in-Some.is c.next.ensures.steps in
    c.in_ok-add_run.ensures word
    ∙ ap (λ b. b || (is_word c.in-Some.run'.now && bytes_eq word c.in-Some.run'.now)) (c.loop-run.invariant word)
    ∙ sym (word_of_next word c.in-Some.run'.now runs (length c.loop-run.yielded) (length (c.loop-run.yielded ++ c.in-Some.run' ∷ [])) (length_push c.loop-run.yielded c.in-Some.run') turn.0 turn.1)

pub returns : goal.returns
returns c = λ word.
    let text = map letter_or_space c.args.bytes.now in
    let runs = slice_split (λ byte. byte == 32) text in
    let is : c.deref.result.now ≡ text = c.deref.ensures ∙ c.in_ok-text.ensures in
    let end = YieldsList-end (YieldsList-at c.into_iter-run-iterator.ensures.into_iter_gives (YieldsList-from_str_split 32 text (lit< tt) (c.split-run-items.ensures.text ∙ is) c.split-run-items.ensures.has_more c.split-run-items.ensures.pattern)) c.loop-run.yielded _ c.loop-run.yielded_by _ _ c.in-None.is c.next.ensures.steps in
    c.loop-run.invariant word
    ∙ ap (λ n. list_any (bytes_eq word) (filter is_word (take n runs))) end.1
    ∙ ap (λ rs. list_any (bytes_eq word) (filter is_word rs)) (take-length runs)
