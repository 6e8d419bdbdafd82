-- Files as they were read once.
use Rattle.std.proofs.Common.{arith, add-one, ◌≡◌, ◌<◌, ◌+◌, ℕ, zero, suc, Bool, true, ◌&&◌, IsTrue, List, [], ◌∷◌, ◌++◌, map, length, get_or, take, refl, sym, ◌∙◌, ap, subst}
use Rattle.std.proofs.lemmas.Bool.{and_parts}
use Rattle.std.proofs.lemmas.List.{take_more, map-append}
use Rattle.std.proofs.lemmas.List.Folds.{list_all-append}
use Rattle.std.specs.List.{AllByRecursion, list_all}
use Rattle.std.specs.Ordering.{is_lt}
use Rattle.std.specs.FinMap.Entries.{put, below_all, by_order, is_sorted}
use Rattle.gb_action.specs.Files.{Tree}
use Rattle.gb_core.specs.Lists.{byte_order}
use Rattle.gb_folder.specs.Files.{Place, Files}
use Rattle.gb_tree.specs.Prints.{digests_of}
use Rattle.gb_tree.specs.Reading.{AreObserved, IsObservedIn, digests_observed, entries_observed}
use Rattle.gb_tree.specs.Tree.{Entries, bytes_at, contents_at, is_among}
use Rattle.gb_tree.specs.declared.kept.ScannedFile.{ScannedFile}
use Rattle.sha2.specs.Sha256.{sha256}
use Rattle.gb_tree.proofs.Blame.{entry_among}
use Rattle.gb_tree.proofs.Digests.{digests_append}
use Rattle.gb_tree.proofs.Holding.{all_append}
use Rattle.gb_tree.proofs.InOrder.{is_less, reversed, sorted_alike}

-- ---- One of several

pub mapped_at : {X Y : Type 0} (f : X → Y) (xs : List X) (i : ℕ) (x : X) → i < length xs → x ≡ get_or xs i x → (i < length (map f xs)) × (f x ≡ get_or (map f xs) i (f x))
mapped_at f [] i x within is = absurd (omega (arith, within))
mapped_at f (y ∷ xs) zero x within is = (omega arith, ap f is)
mapped_at f (y ∷ xs) (suc i) x within is = let more = mapped_at f xs i x (omega (arith, within)) is in (omega (arith, more.0), more.1)

pub all_at : {X : Type 0} (P : X → Type 0) (xs : List X) (i : ℕ) (x : X) → i < length xs → x ≡ get_or xs i x → AllByRecursion P xs → P x
all_at P [] i x within is all = absurd (omega (arith, within))
all_at P (y ∷ xs) zero x within is all = subst P (sym is) all.0
all_at P (y ∷ xs) (suc i) x within is all = all_at P xs i x (omega (arith, within)) is all.1

pub test_at : {X : Type 0} (test : X → Bool) (xs : List X) (i : ℕ) (x : X) → i < length xs → x ≡ get_or xs i x → IsTrue (list_all test xs) → IsTrue (test x)
test_at test [] i x within is all = absurd (omega (arith, within))
test_at test (y ∷ xs) zero x within is all = ap test is ∙ (and_parts (test y) (list_all test xs) all).0
test_at test (y ∷ xs) (suc i) x within is all = test_at test xs i x (omega (arith, within)) is (and_parts (test y) (list_all test xs) all).1

-- a file that was read is among the places
pub observed_among : (files : List ScannedFile) (i : ℕ) (x : ScannedFile) → i < length files → x ≡ get_or files i x → IsTrue (is_among (entries_observed files) x.place)
observed_among files i x within is =
    let entry = mapped_at (λ (file : ScannedFile). (file.path, file.place)) files i x within is in
    entry_among (entries_observed files) i (x.path, x.place) entry.0 entry.1

-- ---- In the order of their paths

below_prefix : (k : List ℕ) (files : List ScannedFile) (n : ℕ) → below_all byte_order k (digests_observed files) ≡ true → below_all byte_order k (digests_observed (take n files)) ≡ true
below_prefix k files zero below = refl
below_prefix k [] (suc n) below = refl
below_prefix k (file ∷ files) (suc n) below =
    let parts = and_parts (is_lt (byte_order k file.path)) (below_all byte_order k (digests_observed files)) below in
    ap (λ b. b && below_all byte_order k (digests_observed (take n files))) parts.0 ∙ below_prefix k files n parts.1

pub sorted_prefix : (files : List ScannedFile) (n : ℕ) → is_sorted byte_order (digests_observed files) ≡ true → is_sorted byte_order (digests_observed (take n files)) ≡ true
sorted_prefix files zero sorted = refl
sorted_prefix [] (suc n) sorted = refl
sorted_prefix (file ∷ files) (suc n) sorted =
    let parts = and_parts (below_all byte_order file.path (digests_observed files)) (is_sorted byte_order (digests_observed files)) sorted in
    ap (λ b. b && is_sorted byte_order (digests_observed (take n files))) (below_prefix file.path files n parts.0) ∙ sorted_prefix files n parts.1

last_below : (k path : List ℕ) (bytes : List ℕ) (tree : Tree) → below_all byte_order k (tree ++ (path, bytes) ∷ []) ≡ true → is_lt (byte_order k path) ≡ true
last_below k path bytes [] below = (and_parts (is_lt (byte_order k path)) true below).0
last_below k path bytes (file ∷ tree) below =
    last_below k path bytes tree (and_parts (is_lt (byte_order k file.0)) (below_all byte_order k (tree ++ (path, bytes) ∷ [])) below).1

put_after : (path bytes : List ℕ) (tree : Tree) → is_sorted byte_order (tree ++ (path, bytes) ∷ []) ≡ true → put byte_order path bytes tree ≡ tree ++ (path, bytes) ∷ []
put_after path bytes [] sorted = refl
put_after path bytes (file ∷ tree) sorted =
    let parts = and_parts (below_all byte_order file.0 (tree ++ (path, bytes) ∷ [])) (is_sorted byte_order (tree ++ (path, bytes) ∷ [])) sorted in
    ap (λ o. by_order o ((path, bytes) ∷ file ∷ tree) ((file.0, bytes) ∷ tree) (file ∷ put byte_order path bytes tree))
    (reversed file.0 path _ (is_less (byte_order file.0 path) (last_below file.0 path bytes tree parts.0)))
    ∙ ap (λ files. file ∷ files) (put_after path bytes tree parts.1)

-- one path more
pub path_more : (files : List ScannedFile) (i : ℕ) (x : ScannedFile) (tree : Tree) (bytes : List ℕ) → i < length files → x ≡ get_or files i x
    → map (λ file. file.0) tree ≡ map (λ file. file.path) (take i files) → map (λ file. file.0) (tree ++ (x.path, bytes) ∷ []) ≡ map (λ file. file.path) (take (i + 1) files)
path_more files i x tree bytes within is same =
    map-append (λ (file : List ℕ × List ℕ). file.0) tree ((x.path, bytes) ∷ [])
    ∙ ap (λ paths. paths ++ x.path ∷ []) same
    ∙ sym (map-append (λ (file : ScannedFile). file.path) (take i files) (x ∷ []))
    ∙ ap (λ y. map (λ (file : ScannedFile). file.path) (take i files ++ y ∷ [])) is
    ∙ sym (ap (map (λ (file : ScannedFile). file.path)) (take_more files i x within))

pub paths_observed : (files : List ScannedFile) → map (λ file. file.path) files ≡ map (λ file. file.0) (digests_observed files)
paths_observed [] = refl
paths_observed (file ∷ files) = ap (λ paths. file.path ∷ paths) (paths_observed files)

-- a file whose path follows those that are there is appended to them
pub put_observed : (files : List ScannedFile) (i : ℕ) (x : ScannedFile) (tree : Tree) (bytes : List ℕ) → i < length files → x ≡ get_or files i x → IsTrue (is_sorted byte_order (digests_observed files))
    → map (λ file. file.0) tree ≡ map (λ file. file.path) (take i files) → put byte_order x.path bytes tree ≡ tree ++ (x.path, bytes) ∷ []
put_observed files i x tree bytes within is sorted same =
    put_after x.path bytes tree
    (sorted_alike (tree ++ (x.path, bytes) ∷ []) (digests_observed (take (i + 1) files)) (path_more files i x tree bytes within is same ∙ paths_observed (take (i + 1) files))
    ∙ sorted_prefix files (i + 1) sorted)

contents_next : (old : Files) (files : List ScannedFile) (i : ℕ) (x : ScannedFile) → i < length files → x ≡ get_or files i x
    → contents_at old (entries_observed (take i files)) ++ (x.path, bytes_at old x.place) ∷ [] ≡ contents_at old (entries_observed (take (suc i) files))
contents_next old [] i x within is = absurd (omega (arith, within))
contents_next old (y ∷ files) zero x within is = ap (λ (z : ScannedFile). (z.path, bytes_at old z.place) ∷ []) is
contents_next old (y ∷ files) (suc i) x within is = ap (λ more. (y.path, bytes_at old y.place) ∷ more) (contents_next old files i x (omega (arith, within)) is)

-- the tree of what was read, and of one file more
pub contents_more : (old : Files) (files : List ScannedFile) (i : ℕ) (x : ScannedFile) → i < length files → x ≡ get_or files i x
    → contents_at old (entries_observed (take i files)) ++ (x.path, bytes_at old x.place) ∷ [] ≡ contents_at old (entries_observed (take (i + 1) files))
contents_more old files i x within is = rw add-one (contents_next old files i x within is)

-- ---- What they show about the files

pub digests_reported : (old : Files) (observed : List ScannedFile) → AllByRecursion (IsObservedIn old) observed → digests_observed observed ≡ digests_of (contents_at old (entries_observed observed))
digests_reported old [] all = refl
digests_reported old (file ∷ observed) all =
    ap (λ digest. (file.path, digest) ∷ digests_observed observed) all.0.digested ∙ ap (λ more. (file.path, sha256 (bytes_at old file.place)) ∷ more) (digests_reported old observed all.1)

-- the digests of the files at the entries
pub observed_digests : (old : Files) (entries : Entries) (observed : List ScannedFile) → AreObserved old entries observed → digests_observed observed ≡ digests_of (contents_at old entries)
observed_digests old entries observed are = digests_reported old observed are.each ∙ ap (λ es. digests_of (contents_at old es)) are.placed

-- what holds of the places of the entries holds of the files'
pub observed_places : (P : Place → Type 0) (observed : List ScannedFile) → AllByRecursion (λ entry. P entry.1) (entries_observed observed) → AllByRecursion (λ file. P file.place) observed
observed_places P [] all = tt
observed_places P (file ∷ observed) all = (all.0, observed_places P observed all.1)

pub at_entries : (P : Place → Type 0) (entries : Entries) (observed : List ScannedFile) → entries_observed observed ≡ entries → AllByRecursion (λ entry. P entry.1) entries → AllByRecursion (λ file. P file.place) observed
at_entries P entries observed placed all = observed_places P observed (subst (λ (es : Entries). AllByRecursion (λ entry. P entry.1) es) (sym placed) all)

pub observed_sorted : (entries : Entries) (observed : List ScannedFile) → entries_observed observed ≡ entries → is_sorted byte_order entries ≡ true → is_sorted byte_order (digests_observed observed) ≡ true
observed_sorted entries observed placed sorted = sorted_alike (digests_observed observed) (entries_observed observed) (same_paths observed) ∙ ap (is_sorted byte_order) placed ∙ sorted
  where
    same_paths : (observed : List ScannedFile) → map (λ file. file.0) (digests_observed observed) ≡ map (λ file. file.0) (entries_observed observed)
    same_paths [] = refl
    same_paths (file ∷ observed) = ap (λ paths. file.path ∷ paths) (same_paths observed)

-- ---- One file more is read

pub placed_more : (entries : Entries) (i : ℕ) (e : List ℕ × Place) (observed more : List ScannedFile) (x : ScannedFile) → i < length entries → e ≡ get_or entries i e → more ≡ observed ++ x ∷ [] → x.path ≡ e.0 → x.place ≡ e.1
    → entries_observed observed ≡ take i entries → entries_observed more ≡ take (i + 1) entries
placed_more entries i e observed more x within is added path place placed =
    ap entries_observed added ∙ map-append (λ (file : ScannedFile). (file.path, file.place)) observed (x ∷ [])
    ∙ ap (λ es. es ++ (x.path, x.place) ∷ []) placed
    ∙ ap (λ p. take i entries ++ (p, x.place) ∷ []) path ∙ ap (λ p. take i entries ++ (e.0, p) ∷ []) place
    ∙ ap (λ y. take i entries ++ y ∷ []) is ∙ sym (take_more entries i e within)

pub test_more : {X : Type 0} (test : X → Bool) (xs ys : List X) (x : X) → ys ≡ xs ++ x ∷ [] → IsTrue (list_all test xs) → IsTrue (test x) → IsTrue (list_all test ys)
test_more test xs ys x added all one =
    ap (list_all test) added ∙ list_all-append test xs (x ∷ []) ∙ ap (λ b. b && (test x && true)) all ∙ ap (λ b. b && true) one

pub each_more : {X : Type 0} (P : X → Type 0) (xs ys : List X) (x : X) → ys ≡ xs ++ x ∷ [] → AllByRecursion P xs → P x → AllByRecursion P ys
each_more {X} P xs ys x added all one = subst (λ (zs : List X). AllByRecursion P zs) (sym added) (all_append P xs (x ∷ []) all (one, tt))

pub digest_more : (tree more digests next : Tree) (path bytes digest copied : List ℕ) → digests ≡ digests_of tree → next ≡ digests ++ (copied, digest) ∷ [] → copied ≡ path → digest ≡ sha256 bytes
    → more ≡ tree ++ (path, bytes) ∷ [] → next ≡ digests_of more
digest_more tree more digests next path bytes digest copied so_far added same of is =
    added ∙ ap (λ p. digests ++ (p, digest) ∷ []) same ∙ ap (λ d. digests ++ (path, d) ∷ []) of ∙ ap (λ ds. ds ++ (path, sha256 bytes) ∷ []) so_far
    ∙ sym (digests_append tree ((path, bytes) ∷ [])) ∙ sym (ap digests_of is)
