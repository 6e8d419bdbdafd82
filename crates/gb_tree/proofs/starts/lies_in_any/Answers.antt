use Rattle.std.proofs.Common.{ap, sym, ◌∙◌, ◌||◌, rules}
use Rattle.std.specs.List.{list_any}
use Rattle.gb_core.specs.Place.{is_beneath}
use Rattle.gb_folder.proofs.Above.{split_at_last}
use Rattle.gb_tree.proofs.Above.{any_above, none_above}
use Rattle.gb_tree.proofs.starts.lies_in_any.Goals as goal

pub returns-then-contains : goal.returns-then-contains
returns-then-contains c = λ places has.
    let split = split_at_last c.loop-folder.rest.now c.in-Some.folder.now c.in-Some.field-0-1.now c.in-Some.ensures.cases in
    sym (c.loop-folder.invariant.same places has ∙ any_above _ _ _ places split ∙ ap (λ b. b || list_any (is_beneath c.in-Some.folder.now) places) (sym (has c.in-Some.folder.now) ∙ sym c.contains.ensures ∙ c.if-contains.true))

pub loop-folder-preserved : goal.loop-folder-preserved
loop-folder-preserved c =
    let split = split_at_last c.loop-folder.rest.now c.in-Some.folder.now c.in-Some.field-0-1.now c.in-Some.ensures.cases in
    record {
      utf8 = search rules;
      same = λ places has. c.loop-folder.invariant.same places has ∙ any_above _ _ _ places split ∙ ap (λ b. b || list_any (is_beneath c.in-Some.folder.now) places) (sym (has c.in-Some.folder.now) ∙ sym c.contains.ensures ∙ c.if-contains.false);
    }

pub returns : goal.returns
returns c = λ places has. sym (c.loop-folder.invariant.same places has ∙ none_above c.loop-folder.rest.now places c.in_default.ensures.cases)
