-- A walk in which each step is determined leads into at most one cycle.
use Rattle.std.specs.Prelude.{◌≡◌, ◌⊎◌, true, false, not, ◌||◌, List, ◌∷◌, bytes_eq, refl}
use Rattle.std.specs.Ordering.{is_lt, ordering_reverse}
use Rattle.std.specs.declared.cmp.Ordering.{Ordering}
use Rattle.std.specs.declared.cmp.Ordering.TheVariants.{Less, Equal, Greater}
use Rattle.std.specs.Cmp.Lexicographic.{bytes_decides, nat_list_cmp_total}
use Rattle.std.proofs.Common.{sym, ap, subst, ◌∙◌, inl, inr}
use Rattle.gb_core.specs.Lists.{byte_order}
use Rattle.gb_core.proofs.Found.{tied_same}
use Rattle.gb_plan.specs.Task.{Path, has_path}
use Rattle.gb_plan.specs.Graph.{Plan, no_repeats}
use Rattle.gb_plan.specs.Refusal.{IsLeastOf, IsLeastBefore, IsWalk, is_there, goes, IsCycle}
use Rattle.gb_plan.proofs.Tests.{not_true, not_false, no_longer, left_of, none_left, none_right, or_right, itself, at_member}

-- ---- The least

equal_if : (o : Ordering) → is_lt o ≡ false → is_lt (ordering_reverse o) ≡ false → o ≡ Equal
equal_if Less e f = not_false e
equal_if Equal e f = refl
equal_if Greater e f = not_false f

-- two texts where neither comes before the other are equal
pub neither_less : (a b : Path) → is_lt (byte_order a b) ≡ false → is_lt (byte_order b a) ≡ false → a ≡ b
neither_less a b e f = tied_same a b (equal_if (byte_order a b) e (sym (ap is_lt (nat_list_cmp_total.antisymm b a)) ∙ f))

not_less : (paths : List Path) (least path : Path) → IsLeastOf paths least → has_path paths path ≡ true → is_lt (byte_order path least) ≡ false
not_less paths least path is h = no_longer (is_lt (byte_order path least)) (at_member (λ other. not (is_lt (byte_order other least))) paths path is.least h)

-- the least elements of two lists are equal, where each is in the other's list
pub least_is_one : (xs ys : List Path) (a b : Path) → IsLeastOf xs a → IsLeastOf ys b → has_path ys a ≡ true → has_path xs b ≡ true → a ≡ b
least_is_one xs ys a b of_a of_b a_in b_in = neither_less a b (not_less ys b a of_b a_in) (not_less xs a b of_a b_in)

-- ---- Walks

module _ (steps : Path → Path → Type 0) (one_next : (a b c : Path) → steps a b → steps a c → b ≡ c) where
  -- of two walks from one task, one continues where the other ends
  goes_on_to : (a b c : Path) (xs ys : List Path) → IsWalk steps a xs b → IsWalk steps a ys c → ((zs : List Path) × IsWalk steps b zs c) ⊎ ((zs : List Path) × IsWalk steps c zs b)
  goes_on_to a b c xs ys is_there other = inl (ys, other)
  goes_on_to a b c xs ys (goes {next = next} {passed = passed} s way) is_there = inr (xs, goes s way)
  goes_on_to a b c xs ys (goes {next = next} {passed = passed} s way) (goes {next = second} {passed = others} t other) =
      goes_on_to next b c passed others way (subst (λ n. IsWalk steps n others c) (one_next a second next t s) other)

  -- from each task of a walk it leads on to the end
  leads_from : (a b : Path) (xs : List Path) → IsWalk steps a xs b → (x : Path) → has_path xs x ≡ true → (ys : List Path) × IsWalk steps x ys b
  leads_from a b xs is_there x h = not_true h
  leads_from a b xs (goes {next = next} {passed = passed} s way) x h =
      elim (bytes_eq x a) as (λ e. bytes_eq x a ≡ e → (e || has_path passed x) ≡ true → (ys : List Path) × IsWalk steps x ys b) [
        | true ↦ λ same _. (xs, subst (λ y. IsWalk steps y xs b) (sym ((bytes_decides x a).0 same)) (goes s way))
        | false ↦ λ _ h. leads_from next b passed way x h
      ] refl h

  -- a walk passes the task it begins at, unless it ends there
  begins_on : (a b : Path) (xs : List Path) → IsWalk steps a xs b → (has_path xs a ≡ true) ⊎ (a ≡ b)
  begins_on a b xs is_there = inr refl
  begins_on a b xs (goes {passed = passed} s way) = inl (ap (λ e. e || has_path passed a) (itself a))

  -- a step from a task of a walk leads to a task of it, or to its end
  next_on : (a b : Path) (xs : List Path) → IsWalk steps a xs b → (x y : Path) → has_path xs x ≡ true → steps x y → (has_path xs y ≡ true) ⊎ (y ≡ b)
  next_on a b xs is_there x y h t = not_true h
  next_on a b xs (goes {next = next} {passed = passed} s way) x y h t =
      elim (bytes_eq x a) as (λ e. bytes_eq x a ≡ e → (e || has_path passed x) ≡ true → ((bytes_eq y a || has_path passed y) ≡ true) ⊎ (y ≡ b)) [
        | true ↦ λ same _. wider (subst (λ z. (has_path passed z ≡ true) ⊎ (z ≡ b)) (one_next a next y s (subst (λ z. steps z y) ((bytes_decides x a).0 same) t)) (begins_on next b passed way))
        | false ↦ λ _ h. wider (next_on next b passed way x y h t)
      ] refl h
    where
      wider : (has_path passed y ≡ true) ⊎ (y ≡ b) → ((bytes_eq y a || has_path passed y) ≡ true) ⊎ (y ≡ b)
      wider (inl e) = inl (or_right (bytes_eq y a) (has_path passed y) e)
      wider (inr e) = inr e

  -- from a task of a cycle all walks stay on it
  stays_on : (a : Path) (cycle : List Path) → IsWalk steps a cycle a → has_path cycle a ≡ true → (x y : Path) (ys : List Path) → has_path cycle x ≡ true → IsWalk steps x ys y → has_path cycle y ≡ true
  stays_on a cycle round on x y ys h is_there = h
  stays_on a cycle round on x y ys h (goes {next = next} {passed = passed} s way) =
      stays_on a cycle round on next y passed (here (next_on a a cycle round x next h s)) way
    where
      here : (has_path cycle next ≡ true) ⊎ (next ≡ a) → has_path cycle next ≡ true
      here (inl e) = e
      here (inr e) = ap (has_path cycle) e ∙ on

  -- walks that reach a task for the first time are equal
  first_ways : (a b c : Path) (xs ys : List Path) → b ≡ c → IsWalk steps a xs b → IsWalk steps a ys c → has_path xs b ≡ false → has_path ys b ≡ false → xs ≡ ys
  first_ways a b c xs ys same is_there is_there e f = refl
  first_ways a b c xs ys same is_there (goes {passed = others} t other) e f = not_false (sym (itself a) ∙ none_left (bytes_eq a a) (has_path others a) f)
  first_ways a b c xs ys same (goes {passed = passed} s way) is_there e f =
      not_false (sym ((bytes_decides b a).1 same) ∙ none_left (bytes_eq b a) (has_path passed b) e)
  first_ways a b c xs ys same (goes {next = next} {passed = passed} s way) (goes {next = second} {passed = others} t other) e f =
      ap (λ zs. a ∷ zs)
      (first_ways next b c passed others same way (subst (λ n. IsWalk steps n others c) (one_next a second next t s) other)
      (none_right (bytes_eq b a) (has_path passed b) e) (none_right (bytes_eq b a) (has_path others b) f))

  -- cycles from one task on, in which it occurs once
  one_round : (a b c : Path) (xs ys : List Path) → a ≡ b → a ≡ c → IsWalk steps a xs b → IsWalk steps a ys c → has_path xs a ≡ true → has_path ys a ≡ true
      → no_repeats xs ≡ true → no_repeats ys ≡ true → xs ≡ ys
  one_round a b c xs ys to_b to_c is_there other h g e f = not_true h
  one_round a b c xs ys to_b to_c (goes s way) is_there h g e f = not_true g
  one_round a b c xs ys to_b to_c (goes {next = next} {passed = passed} s way) (goes {next = second} {passed = others} t other) h g e f =
      ap (λ zs. a ∷ zs)
      (first_ways next b c passed others (sym to_b ∙ to_c) way (subst (λ n. IsWalk steps n others c) (one_next a second next t s) other)
      (ap (has_path passed) (sym to_b) ∙ no_longer (has_path passed a) (left_of _ _ e)) (ap (has_path others) (sym to_b) ∙ no_longer (has_path others a) (left_of _ _ f)))

  -- two cycles that a walk from one task reaches are equal
  pub one_cycle : (start a b : Path) (v w xs ys : List Path) → IsWalk steps start v a → IsWalk steps start w b → IsWalk steps a xs a → IsWalk steps b ys b
      → IsLeastOf xs a → IsLeastOf ys b → no_repeats xs ≡ true → no_repeats ys ≡ true → xs ≡ ys
  one_cycle start a b v w xs ys to_a to_b round_a round_b least_a least_b once_a once_b =
      let both = on_both (goes_on_to start a b v w to_a to_b) in
      let same = least_is_one xs ys a b least_a least_b both.1 both.0 in
      one_round a a b xs ys refl same round_a (subst (λ c. IsWalk steps c ys b) (sym same) round_b) least_a.is_in (subst (λ c. has_path ys c ≡ true) (sym same) least_b.is_in) once_a once_b
    where
      on_both : ((zs : List Path) × IsWalk steps a zs b) ⊎ ((zs : List Path) × IsWalk steps b zs a) → (has_path xs b ≡ true) × (has_path ys a ≡ true)
      on_both (inl way) =
          let b_on = stays_on a xs round_a least_a.is_in a b way.0 least_a.is_in way.1 in
          let back = leads_from a a xs round_a b b_on in
          (b_on, stays_on b ys round_b least_b.is_in b a back.0 least_b.is_in back.1)
      on_both (inr way) =
          let a_on = stays_on b ys round_b least_b.is_in b a way.0 least_b.is_in way.1 in
          let back = leads_from b b ys round_b a a_on in
          (stays_on a xs round_a least_a.is_in a b back.0 least_a.is_in back.1, a_on)

pub cycles_are_one : (plan : Plan) (unplaced xs ys : List Path) → IsCycle plan unplaced xs → IsCycle plan unplaced ys → xs ≡ ys
cycles_are_one plan unplaced xs ys of_x of_y =
    let same = least_is_one unplaced unplaced of_y.start of_x.start of_y.from_least of_x.from_least of_y.from_least.is_in of_x.from_least.is_in in
    one_cycle (IsLeastBefore plan unplaced) (λ a b c s t. least_is_one _ _ b c s t s.is_in t.is_in) of_x.start of_x.first of_y.first of_x.way of_y.way xs ys
    of_x.comes_to (subst (λ start. IsWalk (IsLeastBefore plan unplaced) start of_y.way of_y.first) same of_y.comes_to)
    of_x.goes_round of_y.goes_round of_x.least_first of_y.least_first of_x.once of_y.once
