-- The files and the listings of starts that calls returned so far.
use Rattle.std.proofs.Common.{◌≡◌, ◌<◌, ◌+◌, ℕ, List, [], ◌∷◌, ◌++◌, length, take, get_or, refl, sym, ◌∙◌, ap, subst, append_assoc}
use Rattle.std.proofs.lemmas.List.{map-append, take_more}
use Rattle.std.specs.List.{AllZip, flat_map, zip}
use Rattle.gb_folder.specs.Answers.{WereListed, WereRead}
use Rattle.gb_folder.specs.Calls.{Requests, no_change}
use Rattle.gb_folder.specs.Files.{Bytes, Files, Place}
use Rattle.gb_folder.specs.Limits.{max_files}
use Rattle.gb_folder.proofs.Answering.{on_longer_way}
use Rattle.gb_folder.proofs.Asked.{requests_nothing}
use Rattle.gb_tree.specs.Answered.{IsFileRead, IsStartListed, IsTreeRead, listed_in}
use Rattle.gb_tree.specs.Property.{entries_in, held}
use Rattle.gb_tree.specs.Reading.{entries_observed}
use Rattle.gb_tree.specs.Tree.{Entries}
use Rattle.gb_tree.specs.declared.kept.ScannedFile.{ScannedFile}
use Rattle.gb_tree.specs.declared.property.Naming.{Naming}
use Rattle.gb_tree.proofs.Answering.{all_zip_more, tree_longer}
use Rattle.gb_tree.proofs.Holding.{take_again}
use Rattle.gb_tree.proofs.Loops.{with_none}
use Rattle.gb_folder.specs.Calls.{Device}

-- ---- One pair more

pub all_zip_push : {A B : Type 0} (R : A → B → Type 0) (xs : List A) (ys : List B) (x : A) (y : B) → AllZip R xs ys → R x y
    → AllZip R (xs ++ x ∷ []) (ys ++ y ∷ [])
all_zip_push R [] [] x y all one = (one, tt)
all_zip_push R [] (b ∷ ys) x y all one = absurd all
all_zip_push R (a ∷ xs) [] x y all one = absurd all
all_zip_push R (a ∷ xs) (b ∷ ys) x y all one = (all.0, all_zip_push R xs ys x y all.1 one)

flat_push : {A B Y : Type 0} (R : A → B → Type 0) (f : A × B → List Y) (xs : List A) (ys : List B) (x : A) (y : B) → AllZip R xs ys
    → flat_map f (zip (xs ++ x ∷ []) (ys ++ y ∷ [])) ≡ flat_map f (zip xs ys) ++ f (x, y)
flat_push R f [] [] x y all = with_none (f (x, y))
flat_push R f [] (b ∷ ys) x y all = absurd all
flat_push R f (a ∷ xs) [] x y all = absurd all
flat_push R f (a ∷ xs) (b ∷ ys) x y all =
    ap (λ more. f (a, b) ++ more) (flat_push R f xs ys x y all.1) ∙ sym (append_assoc (f (a, b)) (flat_map f (zip xs ys)) (f (x, y)))

module _ {F : Type 0} {device : Device F} where
  -- ---- Listings of starts

  -- what was listed at one start more
  pub one_start_more : {old now new : F} (naming : Naming) (include exclude : List (List ℕ)) (starts : List (Place × Place)) (i : ℕ) (start : Place × Place)
      (places : List Place) (kept more : Entries) → i < length starts → start ≡ get_or starts i start
      → Requests device no_change old now → Requests device no_change now new
      → WereListed device now new start.1 places → more ≡ held (kept ++ entries_in naming include exclude start.0 places)
      → ((listings : List (List Place)) × AllZip (IsStartListed device old now) (take i starts) listings
      × (kept ≡ held (listed_in naming include exclude (zip (take i starts) listings))))
      → (listings : List (List Place)) × AllZip (IsStartListed device old new) (take (i + 1) starts) listings
      × (more ≡ held (listed_in naming include exclude (zip (take (i + 1) starts) listings)))
  one_start_more {old = old} {now = now} {new = new} naming include exclude starts i start places kept more within is before requests way taken so_far =
      let listed = IsStartListed device old new in
      let longer = all_zip_more (IsStartListed device old now) listed (λ start places was. on_longer_way (requests_nothing old) requests was)
      (take i starts) so_far.0 so_far.1 in
      let prefix : take (i + 1) starts ≡ take i starts ++ start ∷ [] = take_more starts i start within ∙ ap (λ next. take i starts ++ next ∷ []) (sym is) in
      let here = entries_in naming include exclude start.0 places in
      let listings = so_far.0 ++ places ∷ [] in
      let found : List (Place × Place) → Entries = λ starts. listed_in naming include exclude (zip starts listings) in
      let reported = listed_in naming include exclude (zip (take i starts) so_far.0) in (
        listings,
        subst (λ (starts : List (Place × Place)). AllZip listed starts listings) (sym prefix)
            (all_zip_push listed (take i starts) so_far.0 start places longer (on_longer_way before (requests_nothing new) way)),
        taken ∙ ap (λ (entries : Entries). held (entries ++ here)) so_far.2 ∙ take_again (max_files + 1) reported here
            ∙ sym (ap held (ap found prefix ∙ flat_push listed (λ (listing : (Place × Place) × List Place). entries_in naming include exclude listing.0.0 listing.1) (take i starts) so_far.0 start places longer)),
      )

  -- ---- A tree

  -- what was read of one file more
  pub one_file_more : {first now new : F} (files : List ScannedFile) (i : ℕ) (x : ScannedFile) (tree more : Files) (bytes : Bytes) → i < length files → x ≡ get_or files i x
      → Requests device no_change now new → IsTreeRead device first now (entries_observed (take i files)) tree
      → WereRead device first new x.place bytes → more ≡ tree ++ (x.path, bytes) ∷ []
      → IsTreeRead device first new (entries_observed (take (i + 1) files)) more
  one_file_more {first = first} {new = new} files i x tree more bytes within is requests so_far way added =
      let before = entries_observed (take i files) in
      let entries : entries_observed (take (i + 1) files) ≡ before ++ (x.path, x.place) ∷ [] =
      ap entries_observed (take_more files i x within ∙ ap (λ file. take i files ++ file ∷ []) (sym is))
      ∙ map-append (λ (file : ScannedFile). (file.path, file.place)) (take i files) (x ∷ []) in
      let read = IsFileRead device first new in
      subst (λ (made : Files). AllZip read (entries_observed (take (i + 1) files)) made) (sym added)
      (subst (λ (es : Entries). AllZip read es (tree ++ (x.path, bytes) ∷ [])) (sym entries)
      (all_zip_push read before tree (x.path, x.place) (x.path, bytes) (tree_longer (requests_nothing first) requests before tree so_far) (refl, way)))
