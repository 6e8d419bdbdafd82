-- Why the files of a property are not listed.
use Rattle.std.proofs.Common.{◌≡◌, ℕ, suc, Bool, true, false, cond, List, [], ◌∷◌, ◌++◌, length, map, Option, Some, None, inl, inr, refl, sym, ◌∙◌, ap}
use Rattle.std.specs.Ordering.{is_lt}
use Rattle.std.specs.Prelude.{nat_lt}
use Rattle.gb_core.specs.Lists.{first_of}
use Rattle.gb_folder.specs.Files.{Place, Contents}
use Rattle.gb_folder.specs.Limits.{max_files}
use Rattle.gb_tree.specs.Property.{distinct, doubled, entries_of, entry_faults, entry_order, found_from, in_order, inserted, paths_of, places_of, starts_in}
use Rattle.gb_tree.specs.Tree.{Entries, IsRefused, special_roots, too_many}
use Rattle.gb_tree.specs.declared.fault.TreeFault.{TreeFault}
use Rattle.gb_tree.specs.declared.fault.TreeFault.TheVariants as faults
use Rattle.gb_tree.specs.declared.property.Naming.{Naming}
use Rattle.gb_tree.proofs.Refused.{prefix_first}
use Rattle.gb_tree.proofs.Starting.{found_in_order}

length-inserted : (entry : List ℕ × Place) (entries : Entries) → length (inserted entry entries) ≡ suc (length entries)
length-inserted entry [] = refl
length-inserted entry (other ∷ others) = elim (is_lt (entry_order other entry)) as (λ b. length (cond b (other ∷ inserted entry others) (entry ∷ other ∷ others)) ≡ suc (suc (length others))) [
  | true ↦ ap suc (length-inserted entry others)
  | false ↦ refl
]

length-in_order : (entries : Entries) → length (in_order entries) ≡ length entries
length-in_order [] = refl
length-in_order (entry ∷ entries) = length-inserted entry (in_order entries) ∙ ap suc (length-in_order entries)

-- the order does not count
too_many-in_order : (name : List ℕ) (entries : Entries) → too_many name (in_order entries) ≡ too_many name entries
too_many-in_order name entries = ap (λ n. cond (nat_lt max_files n) (faults.TooManyFiles name ∷ []) []) (length-in_order entries)

not_many : (b : Bool) (fault : TreeFault) → cond b (fault ∷ []) [] ≡ [] → b ≡ false
not_many true fault none = absurd (cc)
not_many false fault none = refl

-- entries that are not too many are not too many in order
pub few_in_order : (name : List ℕ) (entries sorted : Entries) → too_many name entries ≡ [] → sorted ≡ in_order entries → nat_lt max_files (length sorted) ≡ false
few_in_order name entries sorted few same =
    ap (λ (es : Entries). nat_lt max_files (length es)) same ∙ ap (nat_lt max_files) (length-in_order entries)
    ∙ not_many (nat_lt max_files (length entries)) (faults.TooManyFiles name) few

first_map : {X Y : Type 0} (f : X → Y) (xs : List X) (x : X) → first_of xs ≡ Some x → first_of (map f xs) ≡ Some (f x)
first_map f [] x e = absurd (cc)
first_map {X} {Y} f (y ∷ xs) x e = ap (λ o. mapped o) e
  where
    mapped : Option X → Option Y
    mapped None = None
    mapped (Some z) = Some (f z)

module _ (name : List ℕ) (naming : Naming) (roots : List Place) (include exclude : List (List ℕ)) (contents : Contents) (starts : List (Place × Place)) (same : starts ≡ starts_in include (distinct roots)) where
  abbrev all : List (Place × Place) → Entries
  all starts = found_from naming include exclude contents.files starts

  abbrev final : Entries
  final = entries_of naming roots include exclude contents.files

  abbrev reported : Entries → List TreeFault
  reported entries = map (faults.DuplicateInput name) (doubled (paths_of entries))

  -- in order, they are the entries of the property
  pub in_their_order : in_order (all starts) ≡ final
  in_their_order = ap (λ starts. in_order (all starts)) same ∙ found_in_order naming roots include exclude contents.files

  as_many : too_many name (all starts) ≡ too_many name final
  as_many = sym (too_many-in_order name (all starts)) ∙ ap (too_many name) in_their_order

  as_special : special_roots contents (places_of starts) ≡ special_roots contents (places_of (starts_in include (distinct roots)))
  as_special = ap (λ starts. special_roots contents (places_of starts)) same

  -- a fault in finding the entries comes first
  pub found_refused : (before after : ℕ) (fault : TreeFault) → IsRefused before after (special_roots contents (places_of starts) ++ too_many name (all starts)) fault → IsRefused before after (entry_faults name naming roots include exclude contents) fault
  found_refused before after fault (inl machine) = inl machine
  found_refused before after fault (inr first) =
      let special = special_roots contents (places_of (starts_in include (distinct roots))) in
      let here : special_roots contents (places_of starts) ++ too_many name (all starts) ≡ special ++ too_many name final =
      ap (λ faults. faults ++ too_many name (all starts)) as_special ∙ ap (λ faults. special ++ faults) as_many in
      inr (prefix_first (special ++ too_many name final) (reported final) fault (sym (ap first_of here) ∙ first))

  -- where there was no such fault, the fault left is that paths are doubled
  pub only_doubled : (entries sorted : Entries) → special_roots contents (places_of starts) ≡ [] → entries ≡ all starts → too_many name entries ≡ [] → sorted ≡ in_order entries → entry_faults name naming roots include exclude contents ≡ reported sorted
  only_doubled entries sorted none is few order =
      ap (λ faults. faults ++ too_many name final ++ reported final) (sym as_special ∙ none)
      ∙ ap (λ faults. faults ++ reported final) (sym as_many ∙ sym (ap (too_many name) is) ∙ few)
      ∙ ap reported (sym in_their_order ∙ sym (order ∙ ap in_order is))

  pub doubled_first : (sorted : Entries) (path : List ℕ) (fault : TreeFault) → entry_faults name naming roots include exclude contents ≡ reported sorted → first_of (doubled (paths_of sorted)) ≡ Some path → fault ≡ faults.DuplicateInput name path
      → first_of (entry_faults name naming roots include exclude contents) ≡ Some fault
  doubled_first sorted path fault is first here = ap first_of is ∙ first_map (faults.DuplicateInput name) (doubled (paths_of sorted)) path first ∙ ap Some (sym here)
