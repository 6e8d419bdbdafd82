-- Files that were listed and read during a part of the calls were listed and read during all of them.
use Rattle.std.proofs.Common.{ℕ, List, [], ◌∷◌, inl, inr}
use Rattle.std.specs.List.{AllZip}
use Rattle.gb_folder.specs.Calls.{Requests, no_change}
use Rattle.gb_folder.specs.Files.{Files, Place}
use Rattle.gb_folder.proofs.Answering.{on_longer_way, read_longer}
use Rattle.gb_tree.specs.Answered.{AreEntriesListed, AreOutputEntriesListed, IsFileRead, IsStartListed, IsTreeRead, WasObserved, WereObserved}
use Rattle.gb_tree.specs.Tree.{Entries}
use Rattle.gb_tree.specs.declared.kept.ScannedFile.{ScannedFile}
use Rattle.gb_tree.specs.declared.property.Naming.{Naming}
use Rattle.gb_folder.specs.Calls.{Device}

-- what follows pair by pair follows for two lists
pub all_zip_more : {A B : Type 0} (some more : A → B → Type 0) → ((a : A) (b : B) → some a b → more a b) → (xs : List A) (ys : List B)
    → AllZip some xs ys → AllZip more xs ys
all_zip_more some more step [] [] all = all
all_zip_more some more step [] (y ∷ ys) all = all
all_zip_more some more step (x ∷ xs) [] all = all
all_zip_more some more step (x ∷ xs) (y ∷ ys) all = (step x y all.0, all_zip_more some more step xs ys all.1)

module _ {F : Type 0} {device : Device F} where
  pub observed_longer : {first old new end : F} → Requests device no_change first old → Requests device no_change new end
      → (observed : ScannedFile) → WasObserved device old new observed → WasObserved device first end observed
  observed_longer before following observed was = (was.0, read_longer before following observed.place was.0 was.1, was.2, was.3)

  pub all_observed_longer : {first old new end : F} → Requests device no_change first old → Requests device no_change new end
      → (files : List ScannedFile) → WereObserved device old new files → WereObserved device first end files
  all_observed_longer before following [] all = all
  all_observed_longer before following (observed ∷ files) all = (observed_longer before following observed all.0, all_observed_longer before following files all.1)

  pub entries_longer : {first old new end : F} → Requests device no_change first old → Requests device no_change new end
      → (naming : Naming) (roots : List Place) (include exclude : List (List ℕ)) (entries : Entries)
      → AreEntriesListed device naming roots include exclude old new entries
      → AreEntriesListed device naming roots include exclude first end entries
  entries_longer {first = first} {old = old} {new = new} {end = end} before following naming roots include exclude entries were = record {
    listings = were.listings;
    listed = all_zip_more (IsStartListed device old new) (IsStartListed device first end)
        (λ start places was. on_longer_way before following was) _ were.listings were.listed;
    are = were.are;
    few = were.few;
    single = were.single;
  }

  pub output_entries_longer : {first old new end : F} → Requests device no_change first old → Requests device no_change new end
      → (root : Place) (entries : Entries) → AreOutputEntriesListed device old new root entries
      → AreOutputEntriesListed device first end root entries
  output_entries_longer before following root entries (inl own) = inl own
  output_entries_longer before following root entries (inr were) = inr (were.0, on_longer_way before following were.1, were.2)

  pub tree_longer : {first old new end : F} → Requests device no_change first old → Requests device no_change new end
      → (entries : Entries) (files : Files) → IsTreeRead device old new entries files
      → IsTreeRead device first end entries files
  tree_longer {first = first} {old = old} {new = new} {end = end} before following entries files was =
      all_zip_more (IsFileRead device old new) (IsFileRead device first end)
      (λ entry file is. (is.0, read_longer before following entry.1 file.1 is.1)) entries files was
