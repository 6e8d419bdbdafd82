-- What is remembered of files that were read, and what holds of it later.
use Rattle.std.proofs.Common.{arith, ◌≡◌, ◌<◌, ◌+◌, ◌++◌, ℕ, zero, suc, List, [], ◌∷◌, None, get_or, inl, inr, length, refl, sym, ap, subst, take, ◌∙◌}
use Rattle.std.proofs.lemmas.List.{append-nil, flat_map_more, map-append, take_more}
use Rattle.std.proofs.lemmas.List.Elements.{Contains-append_cases, Contains-append_left, Contains-append_right}
use Rattle.std.specs.List.{AllByRecursion, Contains, flat_map}
use Rattle.gb_folder.proofs.Answering.{read_longer}
use Rattle.gb_folder.specs.Calls.{Requests, no_change}
use Rattle.gb_folder.specs.Files.{Contents, Files, Place}
use Rattle.gb_tree.specs.Answered.{WasObserved, WereObserved}
use Rattle.gb_tree.specs.Reading.{IsObservedIn}
use Rattle.gb_tree.specs.DigestCache.{AreAmong, AreCached, AreCachedIn, IsCachedIn, CachedFile, WasCached, places_read, seen_in}
use Rattle.gb_tree.specs.declared.kept.ScannedFile.{ScannedFile}
use Rattle.gb_tree.proofs.Holding.{all_append}
use Rattle.gb_tree.proofs.Observed.{all_at}
use Rattle.gb_folder.specs.Calls.{Device}

-- what holds of all holds of one of them
pub all_contained : {X : Type 0} (P : X → Type 0) (xs : List X) (x : X) → Contains xs x → AllByRecursion P xs → P x
all_contained P xs x among all = all_at P xs among.0 x among.1 (sym among.2) all

-- what holds of all of those holds of each file that is among them
pub all_among : (P : CachedFile → Type 0) (files those : List CachedFile) → AreAmong files those → AllByRecursion P those → AllByRecursion P files
all_among P [] those among all = tt
all_among P (file ∷ files) those among all = (
  all_contained P those file (among file (Contains-append_left (file ∷ []) files file (0, omega arith, refl))) all,
  all_among P files those (λ other there. among other (Contains-append_right (file ∷ []) files other there)) all,
)

-- what holds of each file of each reading
pub all_seen : (P : CachedFile → Type 0) (Q : ScannedFile → Type 0) → ((file : ScannedFile) → Q file → P (file.place, file.digest)) → (readings : List (List ℕ × List ScannedFile))
    → AllByRecursion (λ reading. AllByRecursion Q reading.1) readings → AllByRecursion P (seen_in readings)
all_seen P Q step [] all = tt
all_seen P Q step (reading ∷ readings) all = all_append P (places_read reading.1) (seen_in readings) (of_one reading.1 all.0) (all_seen P Q step readings all.1)
  where
    of_one : (files : List ScannedFile) → AllByRecursion Q files → AllByRecursion P (places_read files)
    of_one [] each = tt
    of_one (file ∷ files) each = (step file each.0, of_one files each.1)

-- ---- More is remembered

-- the places of one file more
pub places_more : (files : List ScannedFile) (i : ℕ) (x : ScannedFile) → i < length files → x ≡ get_or files i x → places_read (take i files) ++ (x.place, x.digest) ∷ [] ≡ places_read (take (i + 1) files)
places_more files i x within is =
    sym (map-append (λ (file : ScannedFile). let seen : CachedFile = (file.place, file.digest) in seen) (take i files) (x ∷ []))
    ∙ ap (λ y. places_read (take i files ++ y ∷ [])) is ∙ sym (ap places_read (take_more files i x within))

-- no files are among any
pub none_among : (seen those : List CachedFile) → seen ≡ [] → AreAmong seen those
none_among seen those none = subst (λ (files : List CachedFile). AreAmong files those) (sym none) (λ file there. absurd (omega (arith, there.1)))

-- what was not forgotten at the end is among what there was
pub among_first : (seen forgotten old : List CachedFile) → seen ++ forgotten ≡ old → AreAmong seen old
among_first seen forgotten old same = λ file there. subst (λ (files : List CachedFile). Contains files file) same (Contains-append_left seen forgotten file there)

-- the order does not matter
pub among_turned : (old more : List CachedFile) → AreAmong (more ++ old) (old ++ more)
among_turned old more = λ file there. elim (Contains-append_cases more old file there) [
  | inl later ↦ Contains-append_right old more file later
  | inr earlier ↦ Contains-append_left old more file earlier
]

-- what is among the ones is among these and more
pub among_more : (before old more : List CachedFile) → AreAmong before old → AreAmong (before ++ more) (old ++ more)
among_more before old more among = λ file there. elim (Contains-append_cases before more file there) [
  | inl earlier ↦ Contains-append_left old more file (among file earlier)
  | inr later ↦ Contains-append_right old more file later
]

-- what is remembered of one reading more
seen_more : (old : List CachedFile) (readings : List (List ℕ × List ScannedFile)) (i : ℕ) (x : List ℕ × List ScannedFile) → i < length readings → x ≡ get_or readings i x
    → (old ++ seen_in (take i readings)) ++ places_read x.1 ≡ old ++ seen_in (take (i + 1) readings)
seen_more old readings i x within is =
    flat_map_more (λ (reading : List ℕ × List ScannedFile). places_read reading.1) old (take i readings) x
    ∙ ap (λ y. old ++ seen_in (take i readings ++ y ∷ [])) is ∙ sym (ap (λ rs. old ++ seen_in rs) (take_more readings i x within))

pub reading_more : (old middle now : List CachedFile) (readings : List (List ℕ × List ScannedFile)) (i : ℕ) (x : List ℕ × List ScannedFile) → i < length readings → x ≡ get_or readings i x
    → AreAmong middle (old ++ seen_in (take i readings)) → AreAmong now (middle ++ places_read x.1) → AreAmong now (old ++ seen_in (take (i + 1) readings))
reading_more old middle now readings i x within is before then =
    subst (λ (those : List CachedFile). AreAmong now those) (seen_more old readings i x within is)
    (λ file there. among_more middle (old ++ seen_in (take i readings)) (places_read x.1) before file (then file there))

-- what is among those of one reading is remembered
pub contained_in : {A X : Type 0} (f : A → List X) (ys : List A) (i : ℕ) (y : A) (x : X) → i < length ys → y ≡ get_or ys i y → Contains (f y) x → Contains (flat_map f ys) x
contained_in f [] i y x within is among = absurd (omega (arith, within))
contained_in {A} f (other ∷ ys) zero y x within is among = Contains-append_left (f other) (flat_map f ys) x (subst (λ (z : A). Contains (f z) x) is among)
contained_in f (other ∷ ys) (suc i) y x within is among = Contains-append_right (f other) (flat_map f ys) x (contained_in f ys i y x (omega (arith, within)) is among)

-- ---- Over any folder

-- nothing is remembered
pub none_seen : {F : Type 0} (device : Device F) (since now : F) (seen : List CachedFile) → seen ≡ [] → AreCached device since now seen
none_seen device since now seen none = subst (λ (files : List CachedFile). AreCached device since now files) (sym none) tt

-- what was seen before, and what was read
pub seen_remembered : {F : Type 0} (device : Device F) (since now : F) (seen old : List CachedFile) (readings : List (List ℕ × List ScannedFile)) → AreAmong seen (old ++ seen_in readings)
    → AreCached device since now old → AllByRecursion (λ reading. WereObserved device since now reading.1) readings
    → AreCached device since now seen
seen_remembered device since now seen old readings among before were =
    all_among (WasCached device since now) seen (old ++ seen_in readings) among (all_append (WasCached device since now) old (seen_in readings) before
    (all_seen (WasCached device since now) (WasObserved device since now) (λ file was. (was.0, was.1, was.2)) readings were))

-- the same of the files of one reading
pub files_remembered : {F : Type 0} (device : Device F) (since now : F) (seen old : List CachedFile) (files : List ScannedFile) → AreAmong seen (old ++ places_read files)
    → AreCached device since now old → WereObserved device since now files → AreCached device since now seen
files_remembered device since now seen old files among before were =
    seen_remembered device since now seen old (([], files) ∷ []) (subst (λ (more : List CachedFile). AreAmong seen (old ++ more)) (sym (append-nil (places_read files))) among) before (were, tt)

-- a file with a digest that was seen
pub seen_observed : {F : Type 0} (device : Device F) (since now : F) (seen : List CachedFile) (path : List ℕ) (place : Place) (digest : List ℕ) → Contains seen (place, digest)
    → AreCached device since now seen
    → WasObserved device since now (record { path = path; place = place; digest = digest; kept = None })
seen_observed device since now seen path place digest among all =
    let was = all_contained (WasCached device since now) seen (place, digest) among all in
    (was.0, was.1, was.2, inl refl)

module _ {F : Type 0} {device : Device F} where
  -- what was seen on a part of the way was seen on all of it
  pub seen_longer : {first old new end : F} → Requests device no_change first old → Requests device no_change new end
      → (seen : List CachedFile) → AreCached device old new seen → AreCached device first end seen
  seen_longer before following [] all = tt
  seen_longer before following (file ∷ seen) all =
      ((all.0.0, read_longer before following file.0 all.0.0 all.0.1, all.0.2), seen_longer before following seen all.1)

-- ---- In a folder whose contents are known

pub seen_observed_in : (files : Files) (seen : List CachedFile) (path : List ℕ) (place : Place) (digest : List ℕ) → Contains seen (place, digest)
    → AreCachedIn files seen → IsObservedIn files (record { path = path; place = place; digest = digest; kept = None })
seen_observed_in files seen path place digest among all =
    let is = all_contained (IsCachedIn files) seen (place, digest) among all in
    record { exists = is.exists; small = is.small; digested = is.digested; whole = inl refl }

pub none_seen_in : (files : Files) (seen : List CachedFile) → seen ≡ [] → AreCachedIn files seen
none_seen_in files seen none = subst (λ (those : List CachedFile). AreCachedIn files those) (sym none) tt

-- it is known as long as the contents stay the same
pub known_still : (old now : Contents) (seen : List CachedFile) → now ≡ old → AreCachedIn old.files seen → AreCachedIn now.files seen
known_still old now seen same known = subst (λ (contents : Contents). AreCachedIn contents.files seen) (sym same) known
