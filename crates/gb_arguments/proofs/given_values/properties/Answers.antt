use Rattle.std.proofs.Common.{◌≡◌, ◌≢◌, ◌∙◌, ap, sym, subst, rules}
use Rattle.std.specs.FinMap.Entries.{find, is_sorted}
use Rattle.std.specs.Prelude.{AllPairs}
use Rattle.gb_core.specs.Lists.{byte_order}
use Rattle.gb_arguments.specs.Values.{names_of}
use Rattle.gb_arguments.proofs.LastOf.{rising-differ, strictly-is_sorted}
use Rattle.gb_arguments.proofs.given_values.properties.Goals as goal

pub returns-clause-last : goal.returns-clause-last
returns-clause-last c =
    let same : c.from_vec.result ≡ c.in_ok-given.given.entries = search rules in
    record {
      rising = ap (is_sorted byte_order) same ∙ strictly-is_sorted _ c.into_iter.ensures.into_iter_gives.5;
      last = λ name. ap (find byte_order name) same ∙ c.in_ok-given.ensures.last name;
    }

pub returns-clause-once : goal.returns-clause-once
returns-clause-once c =
    let same : c.from_vec.result ≡ c.in_ok-given.given.entries = search rules in
    subst (λ es. AllPairs (λ one other. one ≢ other) (names_of es)) (sym same) (rising-differ _ c.into_iter.ensures.into_iter_gives.5)
