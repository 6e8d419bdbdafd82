use Rattle.std.proofs.Common.{◌≡◌, ◌<◌, ◌≤◌, ◌-◌, length, get_or, true, false, sym, ◌∙◌, arith}
use Rattle.std.proofs.lemmas.Str.{IsCharBoundary-before_ascii}
use Rattle.gb_script.specs.Lexing.{is_blank}
use Rattle.gb_format.proofs.Trims.{one_less, none_less, blank_low}
use Rattle.gb_format.proofs.cutting.trimmed_len.Goals as goal

pub blanks-preserved : goal.blanks-preserved
blanks-preserved c =
    let xs = c.args.bytes.now in
    let some : 0 < c.blanks.len = search arith in
    let within : c.blanks.len ≤ length xs = c.blanks.invariant.within in
    let blank : is_blank (get_or xs (c.blanks.len - 1) 0) ≡ true = sym c.is_blank.ensures ∙ c.if-is_blank.true in
    record {
      same = one_less xs c.blanks.len some within blank c.blanks.invariant.same;
      within = omega (arith, within);
      boundary = IsCharBoundary-before_ascii xs (c.blanks.len - 1) (omega (arith, within, some)) (blank_low _ blank);
    }

pub returns-else-is_blank-clause-prefix : goal.returns-else-is_blank-clause-prefix
returns-else-is_blank-clause-prefix c =
    let xs = c.args.bytes.now in
    let some : 0 < c.blanks.len = search arith in
    let none : is_blank (get_or xs (c.blanks.len - 1) 0) ≡ false = sym c.is_blank.ensures ∙ c.if-is_blank.false in
    none_less xs c.blanks.len some c.blanks.invariant.within none c.blanks.invariant.same
