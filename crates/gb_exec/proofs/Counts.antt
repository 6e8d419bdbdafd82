-- Counts of refusals: the sum of many of them.
use Rattle.std.proofs.Common.{◌≡◌, ◌+◌, ◌-◌, ◌^◌, ℕ, Bool, true, false, not, cond, List, [], ◌∷◌, ◌++◌, length, arith, refl}
use Rattle.std.specs.List.{count_by, fold, items_where_true}
use Rattle.std.proofs.Math.Nat.{sub-add-min_cancel}
use Rattle.gb_report.specs.declared.report.Heard.{Heard}
use Rattle.gb_semantics.specs.Headline.{counted}

pub counted_none : (count : ℕ) → counted count 0 ≡ count
counted_none count = let none = sub-add-min_cancel 0 (2 ^ 64 - 1 - count) in omega (arith, none)

pub counted_both : (count first later : ℕ) → counted (counted count first) later ≡ counted count (first + later)
counted_both count first later =
    let one = sub-add-min_cancel first (2 ^ 64 - 1 - count) in
    let two = sub-add-min_cancel later (2 ^ 64 - 1 - counted count first) in
    let both = sub-add-min_cancel (first + later) (2 ^ 64 - 1 - count) in
    omega (arith, one, two, both)

refused_from : (count : ℕ) (kept : List Bool) → fold (λ n b. n + cond (not b) 1 0) count kept ≡ count + count_by not kept
refused_from count [] = omega arith
refused_from count (true ∷ kept) = let rest = refused_from (count + 0) kept in omega (arith, rest)
refused_from count (false ∷ kept) =
    let rest = refused_from (count + 1) kept in
    let one = refused_from 1 kept in
    omega (arith, rest, one)

pub refused_both : (bs cs : List Bool) → count_by not (bs ++ cs) ≡ count_by not bs + count_by not cs
refused_both [] cs = omega arith
refused_both (true ∷ bs) cs = refused_both bs cs
refused_both (false ∷ bs) cs =
    let rest = refused_both bs cs in
    let all = refused_from 1 (bs ++ cs) in
    let one = refused_from 1 bs in
    omega (arith, rest, all, one)

-- what was kept and what was refused is all
pub kept_or_refused : (kept : List Bool) (reported : List Heard) → length kept ≡ length reported → length (items_where_true kept reported) + count_by not kept ≡ length reported
kept_or_refused [] [] same = refl
kept_or_refused [] (x ∷ reported) same = absurd (omega (arith, same))
kept_or_refused (b ∷ kept) [] same = absurd (omega (arith, same))
kept_or_refused (true ∷ kept) (x ∷ reported) same = let rest = kept_or_refused kept reported (omega (arith, same)) in omega (arith, rest)
kept_or_refused (false ∷ kept) (x ∷ reported) same =
    let rest = kept_or_refused kept reported (omega (arith, same)) in
    let one = refused_from 1 kept in
    omega (arith, rest, one)
