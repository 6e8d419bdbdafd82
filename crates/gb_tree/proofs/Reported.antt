-- Why the files at entries are not read, stated for the whole.
use Rattle.std.proofs.Common.{◌≡◌, ◌≤◌, ◌++◌, ℕ, true, false, cond, List, [], ◌∷◌, map, inl, inr, sym, ◌∙◌, subst}
use Rattle.std.specs.List.{AllByRecursion}
use Rattle.std.specs.Prelude.{IsSome}
use Rattle.gb_folder.specs.Files.{Place, Files, Contents, file_at, is_own, places_under}
use Rattle.gb_tree.specs.declared.fault.TreeFault.{TreeFault}
use Rattle.gb_tree.specs.Tree.{Entries, IsRefused, entries_from, output_entries, too_large}
use Rattle.gb_tree.proofs.InOrder.{listed_exist}
use Rattle.gb_tree.proofs.Refused.{back_first, prefix_first, machine_before}

abbrev pub Exist : Files → Entries → Type 0
Exist files entries = AllByRecursion (λ entry. IsSome (file_at files entry.1)) entries

-- a fault in listing them comes first
pub refused_listing : (before after : ℕ) (listing more : List TreeFault) (fault : TreeFault) → IsRefused before after listing fault → IsRefused before after (listing ++ more) fault
refused_listing before after listing more fault (inl machine) = inl machine
refused_listing before after listing more fault (inr first) = inr (prefix_first listing more fault first)

-- there was no fault in listing the entries
pub refused_reading : (before mid after : ℕ) (old now : Contents) (listing : List TreeFault) (entries read : Entries) (fault : TreeFault) → now ≡ old → read ≡ entries → before ≤ mid → mid ≤ after → listing ≡ []
    → Exist old.files entries → (Exist now.files read → IsRefused mid after (too_large now.files read) fault) → IsRefused before after (listing ++ too_large old.files entries) fault
refused_reading before mid after old now listing entries read fault same all le more none exists refused =
    elim (subst (λ (es : Entries). IsRefused mid after (too_large old.files es) fault) all
    (subst (λ (contents : Contents). IsRefused mid after (too_large contents.files read) fault) same
    (refused (subst (λ (es : Entries). Exist now.files es) (sym all) (subst (λ (contents : Contents). Exist contents.files entries) (sym same) exists))))) [
      | inl machine ↦ inl (machine_before before mid after fault le more machine)
      | inr first ↦ inr (back_first listing (too_large old.files entries) none ∙ first)
    ]

pub with_paths : (files : Files) (path : Place → List ℕ) (places : List Place) → AllByRecursion (λ at. IsSome (file_at files at)) places → Exist files (map (λ place. (path place, place)) places)
with_paths files path [] all = tt
with_paths files path (place ∷ places) all = (all.0, with_paths files path places all.1)

pub outputs_exist : (files : Files) (root : Place) → Exist files (output_entries files root)
outputs_exist files root = elim (is_own root) as (λ b. Exist files (cond b [] (entries_from root (places_under files root)))) [
  | true ↦ tt
  | false ↦ with_paths files _ (places_under files root) (listed_exist files root)
]
