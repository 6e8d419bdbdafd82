use Rattle.std.proofs.Common.{◌≡◌, ◌∙◌, IsUtf8, subst, sym}
use Rattle.gb_history.specs.Places.{record_place}
use Rattle.gb_history.proofs.Places.{IsUtf8-record_place}
use Rattle.gb_history.proofs.record_place.record_place.Goals as goal

pub returns-clause-bad : goal.returns-clause-bad
returns-clause-bad c is =
    let text : c.as_slice.result.now ≡ record_place c.args.path.now = c.as_slice.ensures.value ∙ c.in_ok-text.ensures.text in
    absurd (c.in-Err.ensures.cases.0 (subst IsUtf8 (sym text) (IsUtf8-record_place c.args.path.now c.in_ok-text.ensures.path)))
