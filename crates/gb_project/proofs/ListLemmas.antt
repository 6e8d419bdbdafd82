-- What holds for all of a list, and for what is picked from it.
use Rattle.std.proofs.Common.{◌≡◌, ℕ, zero, suc, List, [], ◌∷◌, ◌++◌, map, refl, sym, subst, Option, Some, None}
use Rattle.std.specs.Prelude.{filter_map, fold, reverse, slice_get}
use Rattle.std.specs.List.{AllByRecursion, cons_option, flat_map, last_or}
use Rattle.std.specs.FinMap.Entries.{by_order, put}
use Rattle.std.specs.declared.cmp.Ordering.TheVariants.{Less, Equal, Greater}
use Rattle.std.proofs.lemmas.List.{reverse-append}
use Rattle.gb_core.specs.Lists.{byte_order}
use Rattle.gb_declare.specs.Joined.{Named, by_name}

module _ {X : Type 0} (P : X → Type 0) where
  pub both_all : (xs ys : List X) → AllByRecursion P xs → AllByRecursion P ys → AllByRecursion P (xs ++ ys)
  both_all [] ys prefix back = back
  both_all (x ∷ xs) ys prefix back = (prefix.0, both_all xs ys prefix.1 back)

  pub prefix_all : (xs ys : List X) → AllByRecursion P (xs ++ ys) → AllByRecursion P xs
  prefix_all [] ys all = tt
  prefix_all (x ∷ xs) ys all = (all.0, prefix_all xs ys all.1)

  pub back_all : (xs ys : List X) → AllByRecursion P (xs ++ ys) → AllByRecursion P ys
  back_all [] ys all = all
  back_all (x ∷ xs) ys all = back_all xs ys all.1

  pub all_reversed : (xs : List X) → AllByRecursion P xs → AllByRecursion P (reverse xs)
  all_reversed [] all = tt
  all_reversed (x ∷ xs) all =
      subst (AllByRecursion P) (sym (reverse-append (x ∷ []) xs)) (both_all (reverse xs) (x ∷ []) (all_reversed xs all.1) (all.0, tt))

  -- the last of these
  pub last_all : (before : Option X) (xs : List X) → ((x : X) → before ≡ Some x → P x) → AllByRecursion P xs
      → (x : X) → last_or before xs ≡ Some x → P x
  last_all before [] first all x is = first x is
  last_all before (y ∷ xs) first all x is =
      last_all (Some y) xs (λ z same. (let one : y ≡ z = cc in subst P one all.0)) all.1 x is

  pub all_at : (xs : List X) (k : ℕ) (x : X) → AllByRecursion P xs → slice_get xs k ≡ Some x → P x
  all_at [] k x all is = absurd (cc)
  all_at (y ∷ xs) zero x all is = let one : y ≡ x = cc in subst P one all.0
  all_at (y ∷ xs) (suc k) x all is = all_at xs k x all.1 is

pub all_mapped : {X Y : Type 0} (f : X → Y) (P : Y → Type 0) (xs : List X) → AllByRecursion (λ x. P (f x)) xs
    → AllByRecursion P (map f xs)
all_mapped f P [] all = tt
all_mapped f P (x ∷ xs) all = (all.0, all_mapped f P xs all.1)

pub all_joined : {X Y : Type 0} (f : X → List Y) (P : Y → Type 0) (xs : List X)
    → AllByRecursion (λ x. AllByRecursion P (f x)) xs → AllByRecursion P (flat_map f xs)
all_joined f P [] all = tt
all_joined f P (x ∷ xs) all = both_all P (f x) (flat_map f xs) all.0 (all_joined f P xs all.1)

pub all_picked : {X Y : Type 0} (pick : X → Option Y) (Q : X → Type 0) (P : Y → Type 0)
    → ((x : X) → Q x → (y : Y) → pick x ≡ Some y → P y) → (xs : List X) → AllByRecursion Q xs
    → AllByRecursion P (filter_map pick xs)
all_picked pick Q P judged [] all = tt
all_picked pick Q P judged (x ∷ xs) all =
    let rest = all_picked pick Q P judged xs all.1 in
    elim (pick x) as (λ o. pick x ≡ o → AllByRecursion P (cons_option o (filter_map pick xs))) [
      | None ↦ λ _. rest
      | Some y ↦ λ is. (judged x all.0 y is, rest)
    ] refl

-- ---- By name

module _ {X : Type 0} (P : X → Type 0) where
  all_put : (k : List ℕ) (v : X) (es : List (Named X)) → P v → AllByRecursion (λ (e : Named X). P e.1) es
      → AllByRecursion (λ (e : Named X). P e.1) (put byte_order k v es)
  all_put k v [] here all = (here, tt)
  all_put k v (e ∷ es) here all =
      elim (byte_order k e.0) as (λ o. AllByRecursion (λ (e : Named X). P e.1) (by_order o ((k, v) ∷ e ∷ es) ((e.0, v) ∷ es) (e ∷ put byte_order k v es))) [
        | Less ↦ (here, all)
        | Equal ↦ (here, all.1)
        | Greater ↦ (all.0, all_put k v es here all.1)
      ]

  all_there : (there entries : List (Named X)) → AllByRecursion (λ (e : Named X). P e.1) there → AllByRecursion (λ (e : Named X). P e.1) entries
      → AllByRecursion (λ (e : Named X). P e.1) (fold (λ there entry. put byte_order entry.0 entry.1 there) there entries)
  all_there there [] old all = old
  all_there there (e ∷ entries) old all = all_there (put byte_order e.0 e.1 there) entries (all_put e.0 e.1 there all.0 old) all.1

  pub all_by_name : (entries : List (Named X)) → AllByRecursion (λ (e : Named X). P e.1) entries
      → AllByRecursion (λ (e : Named X). P e.1) (by_name entries)
  all_by_name entries all = all_there [] entries tt all
