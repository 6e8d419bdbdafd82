-- A notification in two parts is a notification of the whole.
use Rattle.std.proofs.Common.{◌≡◌, ◌≤◌, ◌+◌, ℕ, Bool, true, false, not, List, [], ◌∷◌, ◌++◌, length, ap, sym, ◌∙◌, arith, refl}
use Rattle.std.specs.List.{AllZip, count_by, items_where_true}
use Rattle.std.proofs.lemmas.List.{length-append, append_assoc}
use Rattle.gb_report.specs.declared.report.Heard.{Heard}
use Rattle.gb_semantics.specs.Headline.{Ear, HearsAll, HearsSome, counted}
use Rattle.gb_exec.specs.Notifying.{ReportedIsHeard, ReportedMore}
use Rattle.gb_exec.proofs.Counts.{counted_both, counted_none, kept_or_refused, refused_both}
use Rattle.gb_exec.proofs.ByNumber.{both_true}
use Rattle.gb_plan.proofs.Tests.{left_of, right_of}

-- ---- Marks of what was kept

kept_joined : (bs cs : List Bool) (xs ys : List Heard) → length bs ≡ length xs → items_where_true (bs ++ cs) (xs ++ ys) ≡ items_where_true bs xs ++ items_where_true cs ys
kept_joined [] cs [] ys same = refl
kept_joined [] cs (x ∷ xs) ys same = absurd (omega (arith, same))
kept_joined (b ∷ bs) cs [] ys same = absurd (omega (arith, same))
kept_joined (true ∷ bs) cs (x ∷ xs) ys same = ap (λ zs. x ∷ zs) (kept_joined bs cs xs ys (omega (arith, same)))
kept_joined (false ∷ bs) cs (x ∷ xs) ys same = kept_joined bs cs xs ys (omega (arith, same))

kept_short : (bs : List Bool) (xs : List Heard) → length (items_where_true bs xs) ≤ length xs
kept_short [] xs = omega arith
kept_short (b ∷ bs) [] = omega arith
kept_short (true ∷ bs) (x ∷ xs) = let rest = kept_short bs xs in omega (arith, rest)
kept_short (false ∷ bs) (x ∷ xs) = let rest = kept_short bs xs in omega (arith, rest)

-- a listener that kept as many has kept all
kept_whole : (bs : List Bool) (xs : List Heard) → length (items_where_true bs xs) ≡ length xs → items_where_true bs xs ≡ xs
kept_whole [] [] same = refl
kept_whole [] (x ∷ xs) same = absurd (omega (arith, same))
kept_whole (b ∷ bs) [] same = refl
kept_whole (true ∷ bs) (x ∷ xs) same = ap (λ zs. x ∷ zs) (kept_whole bs xs (omega (arith, same)))
kept_whole (false ∷ bs) (x ∷ xs) same = let short = kept_short bs xs in absurd (omega (arith, same, short))

-- ---- One listener

pair_is : (ear : Ear) (hears : List Heard) (count : ℕ) → ear.0 ≡ hears → ear.1 ≡ count → ear ≡ (hears, count)
pair_is (heard, refused) hears count same also = ap (λ (xs : List Heard). (xs, refused)) same ∙ ap (λ (n : ℕ). (hears, n)) also

-- a listener that got as many notifications as were sent has got them all, and refused none
heard_whole : (reported : List Heard) (old new : Ear) → HearsSome reported old new → length new.0 ≡ length old.0 + length reported → HearsAll reported old new
heard_whole reported old new some long =
    let is = ap (λ (ear : Ear). length ear.0) some.2 in
    let parts = length-append old.0 (items_where_true some.0 reported) in
    let all = kept_or_refused some.0 reported some.1 in
    let none : count_by not some.0 ≡ 0 = omega (arith, is, parts, all, long) in
    pair_is new (old.0 ++ reported) old.1
    (ap (λ (ear : Ear). ear.0) some.2 ∙ ap (λ xs. old.0 ++ xs) (kept_whole some.0 reported (omega (arith, all, none))))
    (ap (λ (ear : Ear). ear.1) some.2 ∙ ap (counted old.1) none ∙ counted_none old.1)

module _ (first later : List Heard) (old mid new : Ear) where
  all_of_both : HearsAll first old mid → HearsAll later mid new → HearsAll (first ++ later) old new
  all_of_both a b =
      b ∙ ap (λ (ear : Ear). (ear.0 ++ later, ear.1)) a ∙ ap (λ xs. (xs, old.1)) (append_assoc old.0 first later)

  some_of_both : HearsSome first old mid → HearsSome later mid new → HearsSome (first ++ later) old new
  some_of_both a b =
      let long = length-append a.0 b.0 in
      let both_long = length-append first later in (
        a.0 ++ b.0,
        omega (arith, long, both_long, a.1, b.1),
        b.2 ∙ ap (λ (ear : Ear). (ear.0 ++ items_where_true b.0 later, counted ear.1 (count_by not b.0))) a.2
            ∙ ap (λ xs. (xs, counted (counted old.1 (count_by not a.0)) (count_by not b.0)))
            (append_assoc old.0 (items_where_true a.0 first) (items_where_true b.0 later) ∙ ap (λ xs. old.0 ++ xs) (sym (kept_joined a.0 b.0 first later a.1)))
            ∙ ap (λ n. (old.0 ++ items_where_true (a.0 ++ b.0) (first ++ later), n))
            (counted_both old.1 (count_by not a.0) (count_by not b.0) ∙ ap (counted old.1) (sym (refused_both a.0 b.0))),
      )

  -- a listener that got all notifications got those of each part
  parts : HearsSome first old mid → HearsSome later mid new → HearsAll (first ++ later) old new → HearsAll first old mid × HearsAll later mid new
  parts a b all =
      let total = ap (λ (ear : Ear). length ear.0) all in
      let l1 = ap (λ (ear : Ear). length ear.0) a.2 in
      let l2 = ap (λ (ear : Ear). length ear.0) b.2 in
      let l3 = length-append old.0 (items_where_true a.0 first) in
      let l4 = length-append mid.0 (items_where_true b.0 later) in
      let l5 = length-append old.0 (first ++ later) in
      let l6 = length-append first later in
      let s1 = kept_or_refused a.0 first a.1 in
      let s2 = kept_or_refused b.0 later b.1 in (
        heard_whole first old mid a (omega (arith, total, l1, l2, l3, l4, l5, l6, s1, s2)),
        heard_whole later mid new b (omega (arith, total, l1, l2, l3, l4, l5, l6, s1, s2)),
      )

-- ---- All listeners

module _ (first later : List Heard) where
  each_both : (old mid new : List Ear) → AllZip (HearsSome first) old mid → AllZip (HearsSome later) mid new → AllZip (HearsSome (first ++ later)) old new
  each_both [] [] [] a b = tt
  each_both [] [] (n ∷ new) a b = absurd b
  each_both [] (m ∷ mid) new a b = absurd a
  each_both (o ∷ old) [] new a b = absurd a
  each_both (o ∷ old) (m ∷ mid) [] a b = absurd b
  each_both (o ∷ old) (m ∷ mid) (n ∷ new) a b = (some_of_both first later o m n a.0 b.0, each_both old mid new a.1 b.1)

  all_both : (old mid new : List Ear) → AllZip (HearsAll first) old mid → AllZip (HearsAll later) mid new → AllZip (HearsAll (first ++ later)) old new
  all_both [] [] [] a b = tt
  all_both [] [] (n ∷ new) a b = absurd b
  all_both [] (m ∷ mid) new a b = absurd a
  all_both (o ∷ old) [] new a b = absurd a
  all_both (o ∷ old) (m ∷ mid) [] a b = absurd b
  all_both (o ∷ old) (m ∷ mid) (n ∷ new) a b = (all_of_both first later o m n a.0 b.0, all_both old mid new a.1 b.1)

  all_parts : (old mid new : List Ear) → AllZip (HearsSome first) old mid → AllZip (HearsSome later) mid new → AllZip (HearsAll (first ++ later)) old new
      → AllZip (HearsAll first) old mid × AllZip (HearsAll later) mid new
  all_parts [] [] [] a b h = (tt, tt)
  all_parts [] [] (n ∷ new) a b h = absurd b
  all_parts [] (m ∷ mid) new a b h = absurd a
  all_parts (o ∷ old) [] new a b h = absurd a
  all_parts (o ∷ old) (m ∷ mid) [] a b h = absurd b
  all_parts (o ∷ old) (m ∷ mid) (n ∷ new) a b h =
      let here = parts first later o m n a.0 b.0 h.0 in
      let rest = all_parts old mid new a.1 b.1 h.1 in ((here.0, rest.0), (here.1, rest.1))

pub reported_more : ReportedMore
reported_more first later all_first all_later old mid new a b = record {
  each = each_both first later old mid new a.each b.each;
  whole = (
    λ h. all_both first later old mid new (a.whole.0 (left_of all_first all_later h)) (b.whole.0 (right_of all_first all_later h)),
    λ h. let split = all_parts first later old mid new a.each b.each h in both_true all_first all_later (a.whole.1 split.0) (b.whole.1 split.1),
  );
}

pub reported_is_heard : ReportedIsHeard
reported_is_heard report all_heard old new same reported = record {
  each = reported.each;
  refused = (
    λ none. reported.whole.0 (not_false all_heard (sym same ∙ none)),
    λ all. same ∙ ap not (reported.whole.1 all),
  );
}
  where
    not_false : (b : Bool) → not b ≡ false → b ≡ true
    not_false true e = refl
    not_false false e = sym e
