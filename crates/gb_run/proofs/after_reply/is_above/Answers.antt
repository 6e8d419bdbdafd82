use Rattle.std.proofs.Common.{ap, sym, ◌∙◌, ◌||◌, rules}
use Rattle.std.specs.List.{list_any}
use Rattle.std.specs.Prelude.{string_bytes}
use Rattle.gb_core.specs.Place.{is_beneath}
use Rattle.gb_folder.proofs.Above.{split_at_last}
use Rattle.gb_run.proofs.Fits.{any_above, none_above}
use Rattle.gb_run.proofs.after_reply.is_above.Goals as goal

pub returns-then-contains_key : goal.returns-then-contains_key
returns-then-contains_key c =
    let es = c.args.steps.now.entries in
    let folder = c.in-Some.folder.now in
    let split = split_at_last c.loop-folder.rest.now folder c.in-Some.field-0-1.now c.in-Some.ensures.cases in
    sym (c.loop-folder.invariant.same ∙ any_above es _ _ _ split ∙ ap (λ b. b || list_any (λ step. is_beneath folder (string_bytes step.0)) es) (sym c.if-contains_key.ensures))

pub loop-folder-preserved : goal.loop-folder-preserved
loop-folder-preserved c =
    let es = c.args.steps.now.entries in
    let folder = c.in-Some.folder.now in
    let split = split_at_last c.loop-folder.rest.now folder c.in-Some.field-0-1.now c.in-Some.ensures.cases in
    record {
      utf8 = search rules;
      same = c.loop-folder.invariant.same ∙ any_above es _ _ _ split ∙ ap (λ b. b || list_any (λ step. is_beneath folder (string_bytes step.0)) es) (sym c.if-contains_key.ensures);
    }

pub returns : goal.returns
returns c = sym (c.loop-folder.invariant.same ∙ none_above c.loop-folder.rest.now c.args.steps.now.entries c.in_default.ensures.cases)
