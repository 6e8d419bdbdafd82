use Rattle.std.proofs.Common.{Err, ap, sym, ◌∙◌}
use Rattle.std.proofs.lemmas.Bool.{false≢true}
use Rattle.gb_core.specs.Place.{is_place}
use Rattle.gb_query.proofs.owner.belongs.Goals as goal

pub returns-in-Err-BadPlace-clause-at : goal.returns-in-Err-BadPlace-clause-at
returns-in-Err-BadPlace-clause-at c =
    let bad = c.in-Err-BadPlace.ensures.bad (ap Err c.in-Err-BadPlace.field-0-is) in
    (λ no. absurd (false≢true no), λ same. absurd (false≢true (sym bad ∙ ap is_place same ∙ c.requires)))
