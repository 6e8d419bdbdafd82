-- Trails from number to number, and the cycle that they lead into.
use Rattle.std.specs.Prelude.{ℕ, zero, suc, ◌≡◌, ◌⊎◌, ◌<◌, ◌+◌, Bool, true, false, List, [], ◌∷◌, ◌++◌, length, get_or, take, refl, Contains, ◌↔◌, Option, Some, None, unwrap_or, MatchOption}
use Rattle.std.specs.Ordering.{is_lt}
use Rattle.std.specs.declared.cmp.Ordering.{Ordering}
use Rattle.std.specs.declared.cmp.Ordering.TheVariants.{Less, Equal, Greater}
use Rattle.std.specs.Cmp.Lexicographic.{nat_list_cmp_total}
use Rattle.std.proofs.Common.{sym, ap, subst, ◌∙◌, inl, inr, arith}
use Rattle.std.proofs.Math.ListN.{set}
use Rattle.std.proofs.lemmas.Bool.{cases_eq}
use Rattle.std.proofs.lemmas.List.{get_or-set_same}
use Rattle.std.proofs.lemmas.List.Elements.{Contains-append_left, Contains-push, Contains-push_cases}
use Rattle.gb_core.specs.Lists.{byte_order}
use Rattle.gb_core.proofs.Found.{same_tied}
use Rattle.gb_plan.specs.declared.plan.Planned.{Planned}
use Rattle.gb_plan.specs.Task.{Path}
use Rattle.gb_plan.proofs.Tests.{not_true}
use Rattle.gb_plan.proofs.Same.{In}
use Rattle.gb_graph.specs.Settled.{is_marked}
use Rattle.gb_graph.specs.Ranked.{AreDistinct}
use Rattle.gb_graph.specs.Cycle.{IsLeastNumber, IsNextNumber, IsRound, IsTrail, LeadsTo, is_there, goes, path_at}
use Rattle.gb_graph.proofs.Edges.{take_grows}
use Rattle.gb_graph.proofs.Keeping.{mark_kept, mark_other, not_both}
use Rattle.gb_graph.proofs.Numbers.{in_of, of_in, in_prefix, in_back, in_either, separate_parts, separate_both, not_nil, same_head, same_tail}

-- ---- The least by path

is_less : (o : Ordering) → is_lt o ≡ true → o ≡ Less
is_less Less e = refl
is_less Equal e = not_true e
is_less Greater e = not_true e

abbrev before : Path → Path → Bool
before p q = is_lt (byte_order p q)

not_itself : (p : Path) → before p p ≡ false
not_itself p = ap is_lt (same_tied p p refl)

-- what is not before the greater one is not before the lesser one
still_not : (p low high : Path) → before low high ≡ true → before p high ≡ false → before p low ≡ false
still_not p low high lower no_less = elim (before p low) as (λ b. before p low ≡ b → b ≡ false) [
  | true ↦ λ e. not_both (ap is_lt (nat_list_cmp_total.trans p low high (is_less (byte_order p low) e) (is_less (byte_order low high) lower))) no_less
  | false ↦ λ _. refl
] refl

module _ (tasks : List Planned) (marks : List Bool) (numbers : List ℕ) (i t : ℕ) (lt : i < length numbers) (is : t ≡ get_or numbers i t) where
  grows_to : (k : ℕ) → Contains (take (i + 1) numbers) k → Contains (take i numbers) k ⊎ (t ≡ k)
  grows_to k = (take_grows numbers i t k lt is).0

  grows_back : (k : ℕ) → Contains (take i numbers) k ⊎ (t ≡ k) → Contains (take (i + 1) numbers) k
  grows_back k = (take_grows numbers i t k lt is).1

  pub none_more : ((k : ℕ) → Contains (take i numbers) k → is_marked marks k ≡ false) → is_marked marks t ≡ false → (k : ℕ) → Contains (take (i + 1) numbers) k → is_marked marks k ≡ false
  none_more none shut k c = elim (grows_to k c) [ inl old ↦ none k old | inr e ↦ ap (is_marked marks) (sym e) ∙ shut ]

  pub first_least : ((k : ℕ) → Contains (take i numbers) k → is_marked marks k ≡ false) → is_marked marks t ≡ true → IsLeastNumber tasks (take (i + 1) numbers) marks t
  first_least none marked = record {
    is_in = grows_back t (inr refl);
    marked = marked;
    least = λ k c h. elim (grows_to k c) [
      | inl old ↦ not_both h (none k old)
      | inr e ↦ ap (λ v. before (path_at tasks v) (path_at tasks t)) (sym e) ∙ not_itself (path_at tasks t)
    ];
  }

  pub new_least : (m : ℕ) → IsLeastNumber tasks (take i numbers) marks m → is_marked marks t ≡ true → before (path_at tasks t) (path_at tasks m) ≡ true → IsLeastNumber tasks (take (i + 1) numbers) marks t
  new_least m old marked lower = record {
    is_in = grows_back t (inr refl);
    marked = marked;
    least = λ k c h. elim (grows_to k c) [
      | inl was ↦ still_not (path_at tasks k) (path_at tasks t) (path_at tasks m) lower (old.least k was h)
      | inr e ↦ ap (λ v. before (path_at tasks v) (path_at tasks t)) (sym e) ∙ not_itself (path_at tasks t)
    ];
  }

  pub old_least : (m : ℕ) → IsLeastNumber tasks (take i numbers) marks m → (is_marked marks t ≡ true → before (path_at tasks t) (path_at tasks m) ≡ false) → IsLeastNumber tasks (take (i + 1) numbers) marks m
  old_least m old not_lower = record {
    is_in = grows_back m (inl old.is_in);
    marked = old.marked;
    least = λ k c h. elim (grows_to k c) [
      | inl was ↦ old.least k was h
      | inr e ↦ ap (λ v. before (path_at tasks v) (path_at tasks m)) (sym e) ∙ not_lower (ap (is_marked marks) e ∙ h)
    ];
  }

-- ---- Trails

module _ (steps : ℕ → ℕ → Type 0) where
  pub leads_push : (a b c : ℕ) (xs : List ℕ) → LeadsTo steps a xs b → steps b c → LeadsTo steps a (xs ++ b ∷ []) c
  leads_push a b c xs is_there s = goes s is_there
  leads_push a b c xs (goes {next = next} {passed = passed} first way) s = goes first (leads_push next b c passed way s)

  pub leads_both : (a b c : ℕ) (xs ys : List ℕ) → LeadsTo steps a xs b → LeadsTo steps b ys c → LeadsTo steps a (xs ++ ys) c
  leads_both a b c xs ys is_there other = other
  leads_both a b c xs ys (goes {next = next} {passed = passed} first way) other = goes first (leads_both next b c passed ys way other)

  pub leads_cut : (a c : ℕ) (whole : List ℕ) → LeadsTo steps a whole c → (prefix : List ℕ) (b : ℕ) (rest : List ℕ) → whole ≡ prefix ++ b ∷ rest → LeadsTo steps a prefix b × LeadsTo steps b (b ∷ rest) c
  leads_cut a c whole is_there prefix b rest e = not_nil prefix b rest e
  leads_cut a c whole (goes {next = next} {passed = passed} first way) [] b rest e =
      let head : a ≡ b = same_head a b passed rest e in
      (subst (LeadsTo steps a []) head is_there, subst (λ v. LeadsTo steps v (b ∷ rest) c) head (subst (λ zs. LeadsTo steps a zs c) e (goes first way)))
  leads_cut a c whole (goes {next = next} {passed = passed} first way) (f ∷ prefix) b rest e =
      let head : a ≡ f = same_head a f passed (prefix ++ b ∷ rest) e in
      let more = leads_cut next c passed way prefix b rest (same_tail a f passed (prefix ++ b ∷ rest) e) in
      (subst (λ v. LeadsTo steps a (v ∷ prefix) b) head (goes first more.0), more.1)

-- ---- Numbers that occur once

separate_left : (xs ys : List ℕ) → AreDistinct (xs ++ ys) → AreDistinct xs
separate_left [] ys separate = tt
separate_left (x ∷ xs) ys separate = (λ c. separate.0 (of_in x (xs ++ ys) (in_prefix x xs ys (in_of xs x c))), separate_left xs ys separate.1)

separate_right : (xs ys : List ℕ) → AreDistinct (xs ++ ys) → AreDistinct ys
separate_right [] ys separate = separate
separate_right (x ∷ xs) ys separate = separate_right xs ys separate.1

-- ---- The cycle

pub round_is : (tasks : List Planned) (after : List (List ℕ)) (marks : List Bool) (numbers : List ℕ) (start back first : ℕ) (trail prefix round end most rest last : List ℕ)
    → IsLeastNumber tasks numbers marks start → IsTrail tasks after marks start trail back → trail ≡ prefix ++ round → round ≡ back ∷ rest
    → IsLeastNumber tasks round marks first → round ≡ end ++ most → most ≡ first ∷ last → IsRound tasks after marks numbers (most ++ end)
round_is tasks after marks numbers start back first trail prefix round end most rest last least t parts begins of_round cuts at =
    let steps = IsNextNumber tasks after marks in
    let outer = leads_cut steps start back trail t.leads prefix back rest (parts ∙ ap (λ r. prefix ++ r) begins) in
    let around : LeadsTo steps back round back = subst (λ r. LeadsTo steps back r back) (sym begins) outer.1 in
    let inner = leads_cut steps back back round around end first last (cuts ∙ ap (λ m. end ++ m) at) in
    let over : LeadsTo steps first most back = subst (λ m. LeadsTo steps first m back) (sym at) inner.1 in
    let separate : AreDistinct (end ++ most) = subst AreDistinct cuts (separate_right prefix round (subst AreDistinct parts t.separate)) in
    record {
      start = start;
      first = first;
      way = prefix ++ end;
      from_least = least;
      comes_to = leads_both steps start back first prefix end outer.0 inner.0;
      goes_round = leads_both steps first back first most end over inner.0;
      once = separate_both most end (separate_right end most separate) (separate_left end most separate) (λ k i j. separate_parts end most separate k j i);
      least_first = record {
        is_in = of_in first (most ++ end) (turned first (in_of round first of_round.is_in));
        marked = of_round.marked;
        least = λ k c h. of_round.least k (of_in k round (back_in k (in_of (most ++ end) k c))) h;
      };
    }
  where
    turned : (k : ℕ) → In k round → In k (most ++ end)
    turned k i = elim (in_either k end most (subst (λ r. In k r) cuts i)) [ inl j ↦ in_back k most end j | inr j ↦ in_prefix k most end j ]

    back_in : (k : ℕ) → In k (most ++ end) → In k round
    back_in k i = subst (λ r. In k r) (sym cuts) (elim (in_either k most end i) [ inl j ↦ in_back k end most j | inr j ↦ in_prefix k end most j ])

-- ---- In options

pub least_or : (tasks : List Planned) (numbers : List ℕ) (marks : List Bool) (found : Option ℕ)
    → MatchOption found ((k : ℕ) → Contains numbers k → is_marked marks k ≡ false) (λ k. IsLeastNumber tasks numbers marks k)
    → (some : ℕ) → Contains numbers some → is_marked marks some ≡ true → (v : ℕ) → v ≡ unwrap_or found 0 → IsLeastNumber tasks numbers marks v
least_or tasks numbers marks None none some c h v is = not_both h (none some c)
least_or tasks numbers marks (Some k) least some c h v is = subst (IsLeastNumber tasks numbers marks) (sym is) least

abbrev pub IsWithin : List Planned → Option ℕ → Type 0
IsWithin tasks found = MatchOption found (Unit {0}) (λ k. k < length tasks)

module _ (tasks : List Planned) (marks : List Bool) (numbers : List ℕ) (i t : ℕ) (lt : i < length numbers) (is : t ≡ get_or numbers i t) (known : t < length tasks) where
  abbrev SoFar : List ℕ → Option ℕ → Type 0
  SoFar ks found = MatchOption found ((k : ℕ) → Contains ks k → is_marked marks k ≡ false) (λ k. IsLeastNumber tasks ks marks k)

  abbrev IsLesser : Option ℕ → ℕ → Type 0
  IsLesser found result = MatchOption found (result ≡ t)
      (λ other. ((result ≡ t) × (before (path_at tasks t) (path_at tasks other) ≡ true)) ⊎ ((result ≡ other) × (before (path_at tasks t) (path_at tasks other) ≡ false)))

  pub so_far_marked : (found : Option ℕ) (result : ℕ) → SoFar (take i numbers) found → IsWithin tasks found → is_marked marks t ≡ true → IsLesser found result
      → IsLeastNumber tasks (take (i + 1) numbers) marks result × (result < length tasks)
  so_far_marked None result none within marked same =
      (subst (IsLeastNumber tasks (take (i + 1) numbers) marks) (sym same) (first_least tasks marks numbers i t lt is none marked), omega (arith, known, same))
  so_far_marked (Some m) result least within marked (inl (same, lower)) =
      (subst (IsLeastNumber tasks (take (i + 1) numbers) marks) (sym same) (new_least tasks marks numbers i t lt is m least marked lower), omega (arith, known, same))
  so_far_marked (Some m) result least within marked (inr (same, higher)) =
      (subst (IsLeastNumber tasks (take (i + 1) numbers) marks) (sym same) (old_least tasks marks numbers i t lt is m least (λ _. higher)), omega (arith, within, same))

  pub so_far_shut : (found : Option ℕ) → SoFar (take i numbers) found → is_marked marks t ≡ false → SoFar (take (i + 1) numbers) found
  so_far_shut None none shut = none_more tasks marks numbers i t lt is none shut
  so_far_shut (Some m) least shut = old_least tasks marks numbers i t lt is m least (λ h. not_both h shut)

-- ---- One step of a trail

pub met_grows : (met : List Bool) (trail : List ℕ) (at : ℕ) → at < length met → ((k : ℕ) → (is_marked met k ≡ true) ↔ Contains trail k)
    → (k : ℕ) → (is_marked (set met at true) k ≡ true) ↔ Contains (trail ++ at ∷ []) k
met_grows met trail at lt reported k = (
  λ h. elim (cases_eq k at) [
    | inl e ↦ subst (Contains (trail ++ at ∷ [])) (sym e) (Contains-push trail at)
    | inr separate ↦ Contains-append_left trail (at ∷ []) k ((reported k).0 (sym (mark_other met at k separate) ∙ h))
  ],
  λ c. elim (Contains-push_cases trail at k c) [
    | inl old ↦ mark_kept met at k lt ((reported k).1 old)
    | inr e ↦ ap (is_marked (set met at true)) (sym e) ∙ get_or-set_same met at true false lt
  ],
)

pub exists_within : (marks : List Bool) (k : ℕ) → is_marked marks k ≡ true → k < length marks
exists_within [] k h = not_true h
exists_within (b ∷ marks) zero h = omega arith
exists_within (b ∷ marks) (suc k) h = let lt = exists_within marks k h in omega (arith, lt)
