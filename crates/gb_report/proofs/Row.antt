-- Names in a list, one more at a time.
use Rattle.std.proofs.Common.{◌≡◌, ◌<◌, ◌≤◌, ℕ, List, ◌∷◌, ◌++◌, ◌+◌, take, suc, sym, ap, ◌∙◌, append-nil, arith}
use Rattle.std.specs.Prelude.{codes, get_or, length}
use Rattle.std.specs.List.{flat_map}
use Rattle.std.proofs.Math.Seq.{take-suc}
use Rattle.std.proofs.lemmas.Grind.{flat_map-append}
use Rattle.std.proofs.lemmas.List.{take_all}
use Rattle.gb_report.specs.Fault.{row_text}

-- a name after a comma
abbrev pub following : List ℕ → List ℕ
following name = codes ", " ++ name

one_after : (names : List (List ℕ)) (i : ℕ) (name : List ℕ) → i < length names → get_or names i name ≡ name
    → flat_map following (take i names) ++ following name ≡ flat_map following (take (suc i) names)
one_after names i name within is =
    sym (ap (flat_map following) (take-suc names i name within)
    ∙ (flat_map-append following (take i names) _ ∙ ap (λ end. flat_map following (take i names) ++ end) (append-nil _ ∙ ap following is)))

pub one_more : (names : List (List ℕ)) (i : ℕ) (name : List ℕ) → i < length names → get_or names i name ≡ name
    → flat_map following (take i names) ++ following name ≡ flat_map following (take (i + 1) names)
one_more names i name within is =
    let next : suc i ≡ i + 1 = omega arith in
    one_after names i name within is ∙ ap (λ n. flat_map following (take n names)) next

pub whole_row : (names : List (List ℕ)) (first : List ℕ) (others : List (List ℕ)) (n : ℕ) → names ≡ first ∷ others → length others ≤ n
    → first ++ flat_map following (take n others) ≡ row_text names
whole_row names first others n is over = ap (λ rest. first ++ flat_map following rest) (take_all n others over) ∙ ap row_text (sym is)
