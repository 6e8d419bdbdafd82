-- What holds for each element of combined lists.
use Rattle.std.proofs.Common.{◌≡◌, ℕ, suc, zero, List, [], ◌∷◌, ◌++◌, map, reverse, Option, None, Some, sym, subst}
use Rattle.std.proofs.lemmas.List.{reverse-append}
use Rattle.std.specs.BTreeSet.{insert_key}
use Rattle.std.specs.FinMap.Entries.{by_order, put}
use Rattle.std.specs.List.{AllByRecursion, cons_option, flat_map, last_or}
use Rattle.std.specs.Option.{option_to_list}
use Rattle.std.specs.Ordering.{match_ordering}
use Rattle.std.specs.Prelude.{filter_map, slice_get}
use Rattle.std.specs.declared.cmp.Ordering.TheVariants.{Less, Equal, Greater}
use Rattle.gb_core.specs.Lists.{byte_order}
use Rattle.gb_core.specs.Tasks.{with_tasks}
use Rattle.gb_registry.specs.Projects.{Path}
use Rattle.gb_declare.specs.Joined.{Named, by_name}
use Rattle.gb_declare.proofs.JoinLemmas.{put_all}

module _ {X : Type 0} (P : X → Type 0) where
  pub all_append : (xs ys : List X) → AllByRecursion P xs → AllByRecursion P ys → AllByRecursion P (xs ++ ys)
  all_append [] ys prefix back = back
  all_append (x ∷ xs) ys prefix back = (prefix.0, all_append xs ys prefix.1 back)

  pub all_reversed : (xs : List X) → AllByRecursion P xs → AllByRecursion P (reverse xs)
  all_reversed [] all = tt
  all_reversed (x ∷ xs) all = subst (AllByRecursion P) (sym (reverse-append (x ∷ []) xs)) (all_append (reverse xs) (x ∷ []) (all_reversed xs all.1) (all.0, tt))

  pub all_last : (o : Option X) (xs : List X) → AllByRecursion P (option_to_list o) → AllByRecursion P xs → AllByRecursion P (option_to_list (last_or o xs))
  all_last o [] first all = first
  all_last o (x ∷ xs) first all = all_last (Some x) xs (all.0, tt) all.1

  pub all_at : (xs : List X) (i : ℕ) (x : X) → AllByRecursion P xs → slice_get xs i ≡ Some x → P x
  all_at [] i x all is = absurd (cc)
  all_at (y ∷ xs) zero x all is = let same : y ≡ x = cc in subst P same all.0
  all_at (y ∷ xs) (suc i) x all is = all_at xs i x all.1 is

-- what holds for each element holds for what is made from it
module _ {X Y : Type 0} (P : X → Type 0) (Q : Y → Type 0) where
  pub all_mapped : (f : X → Y) → ((x : X) → P x → Q (f x)) → (xs : List X) → AllByRecursion P xs → AllByRecursion Q (map f xs)
  all_mapped f has [] all = tt
  all_mapped f has (x ∷ xs) all = (has x all.0, all_mapped f has xs all.1)

  pub all_gathered : (f : X → List Y) → ((x : X) → P x → AllByRecursion Q (f x)) → (xs : List X) → AllByRecursion P xs → AllByRecursion Q (flat_map f xs)
  all_gathered f has [] all = tt
  all_gathered f has (x ∷ xs) all = all_append Q (f x) (flat_map f xs) (has x all.0) (all_gathered f has xs all.1)

  pub all_picked : (pick : X → Option Y) → ((x : X) → P x → AllByRecursion Q (option_to_list (pick x))) → (xs : List X) → AllByRecursion P xs → AllByRecursion Q (filter_map pick xs)
  all_picked pick has [] all = tt
  all_picked pick has (x ∷ xs) all = with_one (pick x) (has x all.0) (all_picked pick has xs all.1)
    where
      with_one : (o : Option Y) → AllByRecursion Q (option_to_list o) → AllByRecursion Q (filter_map pick xs) → AllByRecursion Q (cons_option o (filter_map pick xs))
      with_one None one rest = rest
      with_one (Some y) one rest = (one.0, rest)

-- ---- Entries by name

module _ {X : Type 0} (P : X → Type 0) where
  abbrev Each : List (Named X) → Type 0
  Each = AllByRecursion (λ entry. P entry.1)

  all_put : (name : List ℕ) (x : X) (es : List (Named X)) → P x → Each es → Each (put byte_order name x es)
  all_put name x [] has all = (has, tt)
  all_put name x (e ∷ es) has all =
      elim (byte_order name e.0) as (λ o. Each (by_order o ((name, x) ∷ e ∷ es) ((e.0, x) ∷ es) (e ∷ put byte_order name x es))) [
        | Less ↦ (has, all)
        | Equal ↦ (has, all.1)
        | Greater ↦ (all.0, all_put name x es has all.1)
      ]

  all_put_all : (there more : List (Named X)) → Each there → Each more → Each (put_all there more)
  all_put_all there [] old new = old
  all_put_all there (e ∷ more) old new = all_put_all (put byte_order e.0 e.1 there) more (all_put e.0 e.1 there new.0 old) new.1

  pub all_by_name : (es : List (Named X)) → Each es → Each (by_name es)
  all_by_name es all = all_put_all [] es tt all

-- ---- Tasks

module _ (P : Path → Type 0) where
  pub insert_all : (tasks : List Path) (task : Path) → AllByRecursion P tasks → P task → AllByRecursion P (insert_key byte_order tasks task)
  insert_all [] task all has = (has, tt)
  insert_all (other ∷ tasks) task all has =
      elim (byte_order task other) as (λ o. AllByRecursion P (match_ordering o (task ∷ other ∷ tasks) (other ∷ tasks) (other ∷ insert_key byte_order tasks task))) [
        | Less ↦ (has, all)
        | Equal ↦ all
        | Greater ↦ (all.0, insert_all tasks task all.1 has)
      ]

  pub with_all : (there more : List Path) → AllByRecursion P there → AllByRecursion P more → AllByRecursion P (with_tasks there more)
  with_all there [] all new = all
  with_all there (task ∷ more) all new = with_all (insert_key byte_order there task) more (insert_all there task all new.0) new.1
