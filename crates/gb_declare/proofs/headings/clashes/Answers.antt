use Rattle.std.proofs.Common.{ℕ, List, not, ap, sym, ◌∙◌}
use Rattle.std.specs.Prelude.{bytes_eq}
use Rattle.gb_declare.specs.Declaring.{heading}
use Rattle.gb_declare.specs.Headings.{word_in}
use Rattle.gb_declare.proofs.HeadingLemmas.{clashes_found, clashes_not}
use Rattle.gb_declare.proofs.headings.clashes.Goals as goal

pub returns-in-Some-get : goal.returns-in-Some-get
returns-in-Some-get c =
    let found = clashes_found c.args.words.now (heading c.args.clause.now) c.in-Some.name.now c.in-Some.ensures c.in-Some-get.earlier.now c.in-Some-get.ensures.value in
    c.ne.ensures
    ∙ ap (λ (w : List ℕ). not (bytes_eq w c.word-in-Some-get.result.now)) c.word.ensures
    ∙ ap (λ (w : List ℕ). not (bytes_eq (word_in (heading c.in-Some-get.earlier.now.now)) w)) c.word-in-Some-get.ensures
    ∙ sym found

pub returns-in-None : goal.returns-in-None
returns-in-None c = sym (clashes_not c.args.words.now (heading c.args.clause.now) c.in-Some.name.now c.in-Some.ensures c.in-None.ensures.value)
