-- The loss of the tool's own files: what is remembered after it has true records.
use Rattle.std.specs.Prelude.{◌≡◌, ◌≢◌, ◌++◌, ◌⊎◌, Bool, true, false, not, cond, IsTrue, List, [], ◌∷◌, Option, None, Some, bytes_eq, Contains, fold}
use Rattle.std.specs.Cmp.Lexicographic.{bytes_decides}
use Rattle.std.specs.FinMap.Entries.{find-where_key, is_sorted-where_key, where_key}
use Rattle.std.specs.List.{AllByRecursion, flat_map}
use Rattle.std.proofs.Common.{arith, refl, sym, ap, subst, ◌∙◌, inl, inr}
use Rattle.gb_core.specs.Lists.{byte_order}
use Rattle.gb_core.specs.Path.{is_task_path}
use Rattle.gb_folder.specs.Files.{Bytes, Contents, Files, IsFolder, Place, Tearing, file_at, files_where, is_own, places_under, with_left, without}
use Rattle.gb_folder.proofs.Changes.{file_at-files_where, file_at-with_file, file_at-without}
use Rattle.gb_history.specs.Places.{record_place}
use Rattle.gb_semantics.specs.declared.events.Answer.{Answer}
use Rattle.gb_semantics.specs.declared.events.Answer.TheVariants as answers
use Rattle.gb_semantics.specs.declared.events.Event.TheVariants as events
use Rattle.gb_semantics.specs.Edits.{LossStep, Shown, own_place}
use Rattle.gb_semantics.specs.Events.{KeepsWhatExists, RemembersAfter, Setting}
use Rattle.gb_semantics.specs.Headline.{Registering, TornWritesAreDetected, contents_outside, state_of}
use Rattle.gb_semantics.specs.Kinds.{Kinds}
use Rattle.gb_semantics.specs.Memory.{Entry, Memory, recalled}
use Rattle.gb_semantics.specs.TrueRecord.{IsMade, IsTextOfNoRecord, Stores, contents_of}
use Rattle.gb_folder.proofs.Sound.{same_from}
use Rattle.gb_semantics.proofs.Lemmas.Files.{of_T, T_of}
use Rattle.gb_semantics.proofs.Lemmas.Clear.{Among, in_left, in_one, in_right}
use Rattle.sha2.specs.Sha256.{sha256}
use Rattle.gb_records.specs.Said.{IsText}
use Rattle.gb_records.proofs.Holding.{at_left}
use Rattle.gb_records.proofs.Reported.{holds_for_memory, texts_are_records}
use Rattle.gb_report.specs.declared.fault.Fault.{Fault}
use Rattle.gb_folder.specs.Changes.{IsCutShort, without_all}
use Rattle.gb_plan.specs.Task.{Path, has_path}
use Rattle.gb_build.specs.Leading.{IsTransition}
use Rattle.gb_build.proofs.Fewer.{are_among}
use Rattle.gb_build.proofs.Leading.{observed_more}
use Rattle.gb_records.specs.Setting.{setting_by}

-- ---- What is at a place after a removal that was cut short

-- the file that was there, or none
abbrev IsOrGone : Option Bytes → Option Bytes → Type 0
IsOrGone now existed = (now ≡ existed) ⊎ (now ≡ None)

gone_or_not : (b : Bool) (existed : Option Bytes) → IsOrGone (cond b existed None) existed
gone_or_not true existed = inl refl
gone_or_not false existed = inr refl

after_all : (places : List Place) (files : Files) (q : Place) → IsOrGone (file_at (fold without files places) q) (file_at files q)
after_all [] files q = inl refl
after_all (place ∷ places) files q =
    let here : file_at (without files place) q ≡ cond (not (bytes_eq q place)) (file_at files q) None = file_at-without files place q in
    elim (after_all places (without files place) q) [
      | inl same ↦ subst (λ (now : Option Bytes). IsOrGone now (file_at files q)) (sym (same ∙ here)) (gone_or_not (not (bytes_eq q place)) (file_at files q))
      | inr gone ↦ inr gone
    ]

left_elsewhere : (files : Files) (place q : Place) (left : Option Bytes) → bytes_eq q place ≡ false → file_at (with_left files place left) q ≡ file_at files q
left_elsewhere files place q None other = file_at-without files place q ∙ ap (λ b. cond (not b) (file_at files q) None) other
left_elsewhere files place q (Some bytes) other = file_at-with_file files place bytes q ∙ ap (λ b. cond b (Some bytes) (file_at files q)) other

-- what is left is the same, or is no record
abbrev IsSameOrNone : Path → Option Bytes → Option Bytes → Type 0
IsSameOrNone path now existed = (now ≡ existed) ⊎ IsTextOfNoRecord IsText path now

none_or_same : (path : Path) (now existed : Option Bytes) → IsOrGone now existed → IsSameOrNone path now existed
none_or_same path now existed (inl same) = inl same
none_or_same path now existed (inr gone) = inr (subst (IsTextOfNoRecord IsText path) (sym gone) tt)

module _ (may_leave : Tearing) (observed : TornWritesAreDetected IsText record_place may_leave) (old new : Contents) where
  torn_at : (path : Path) (existed left : Option Bytes) → IsTrue (is_task_path path) → may_leave (record_place path) existed None left
      → IsOrGone existed (file_at old.files (record_place path)) → IsSameOrNone path left (file_at old.files (record_place path))
  torn_at path existed left good may was = elim (observed path existed None left good tt may) [
    | inl same ↦ none_or_same path left (file_at old.files (record_place path)) (subst (λ (now : Option Bytes). IsOrGone now (file_at old.files (record_place path))) (sym same) was)
    | inr (inl gone) ↦ inr (subst (IsTextOfNoRecord IsText path) (sym gone) tt)
    | inr (inr none) ↦ inr none
  ]

  cut_leaves : (places : List Place) (fault : Fault) → IsCutShort may_leave places old fault new → (path : Path) → IsTrue (is_task_path path)
      → IsSameOrNone path (file_at new.files (record_place path)) (file_at old.files (record_place path))
  cut_leaves places fault cut path good = elim cut.hindered [
    | inl memory ↦
        subst (λ (now : Contents). IsSameOrNone path (file_at now.files (record_place path)) (file_at old.files (record_place path))) (sym memory.1)
        (none_or_same path _ _ (after_all cut.gone old.files (record_place path)))
    | inr device ↦
        let torn = device.1 in
        subst (λ (now : Contents). IsSameOrNone path (file_at now.files (record_place path)) (file_at old.files (record_place path))) (sym torn.2)
        (by torn.0 torn.1 (bytes_eq (record_place path) cut.place) refl)
  ]
    where
      left_over : Files
      left_over = (without_all old cut.gone).files

      by : (left : Option Bytes) → may_leave cut.place (file_at left_over cut.place) None left → (b : Bool) → bytes_eq (record_place path) cut.place ≡ b
          → IsSameOrNone path (file_at (with_left left_over cut.place left) (record_place path)) (file_at old.files (record_place path))
      by left may true is =
          let here : record_place path ≡ cut.place = (bytes_decides (record_place path) cut.place).0 is in
          subst (λ (now : Option Bytes). IsSameOrNone path now (file_at old.files (record_place path)))
          (sym (ap (λ (place : Place). file_at (with_left left_over cut.place left) place) here ∙ at_left left_over cut.place left))
          (torn_at path (file_at left_over (record_place path)) left good
          (subst (λ (place : Place). may_leave place (file_at left_over place) None left) (sym here) may)
          (after_all cut.gone old.files (record_place path)))
      by left may false is =
          none_or_same path _ _
          (subst (λ (now : Option Bytes). IsOrGone now (file_at old.files (record_place path))) (sym (left_elsewhere left_over cut.place (record_place path) left is))
          (after_all cut.gone old.files (record_place path)))

-- ---- What is remembered

same_file : Option Bytes → Option Bytes → Bool
same_file None None = true
same_file None (Some b) = false
same_file (Some a) None = false
same_file (Some a) (Some b) = bytes_eq a b

is_same_file : (a b : Option Bytes) → same_file a b ≡ true → a ≡ b
unfolding same_file
is_same_file None None e = refl
is_same_file None (Some b) e = absurd (cc)
is_same_file (Some a) None e = absurd (cc)
is_same_file (Some a) (Some b) e = ap Some ((bytes_decides a b).0 e)

same_is : (b : Option Bytes) → same_file b b ≡ true
unfolding same_file
same_is None = refl
same_is (Some b) = (bytes_decides b b).1 refl

other_file : (a b : Option Bytes) → same_file a b ≡ false → a ≢ b
other_file a b e same = absurd (let t : same_file a b ≡ true = subst (λ (x : Option Bytes). same_file x b ≡ true) (sym same) (same_is b) in let f : true ≡ false = sym t ∙ e in cc)

recalled-where : (test : Path → Bool) (memory : Memory) (path : Path) → recalled (where_key byte_order test memory) path ≡ cond (test path) (recalled memory path) None
recalled-where test memory path = find-where_key byte_order test path (λ x same. ap test (sym (same_from path x same))) memory

all_where : (P : Path × Entry → Type 0) (test : Path → Bool) (memory : Memory) → AllByRecursion P memory → AllByRecursion P (where_key byte_order test memory)
all_where P test [] all = tt
all_where P test (entry ∷ memory) all = by (all_where P test memory all.1) (test entry.0)
  where
    by : AllByRecursion P (where_key byte_order test memory) → (b : Bool)
        → AllByRecursion P (cond b (entry ∷ where_key byte_order test memory) (where_key byte_order test memory))
    by rest true = (all.0, rest)
    by rest false = rest

abbrev all_contents : Memory → List Bytes
all_contents memory = flat_map (λ entry. contents_of entry.1) memory

fewer_contents : (test : Path → Bool) (memory : Memory) → Among (all_contents (where_key byte_order test memory)) (all_contents memory)
fewer_contents test [] c h = h
fewer_contents test (entry ∷ memory) c h = by (fewer_contents test memory c) (test entry.0) h
  where
    by : (has_path (all_contents (where_key byte_order test memory)) c ≡ true → has_path (all_contents memory) c ≡ true) → (b : Bool) → has_path (all_contents (cond b (entry ∷ where_key byte_order test memory) (where_key byte_order test memory))) c ≡ true
        → has_path (all_contents (entry ∷ memory)) c ≡ true
    by rest true h = elim (in_one c (contents_of entry.1) (all_contents (where_key byte_order test memory)) h) [
      | inl here ↦ in_left c (contents_of entry.1) (all_contents memory) here
      | inr there ↦ in_right c (contents_of entry.1) (all_contents memory) (rest there)
    ]
    by rest false h = in_right c (contents_of entry.1) (all_contents memory) (rest h)

none_within : (bytes : Bytes) → ¬ Contains [] bytes
none_within bytes (k, less, e) = omega arith

-- ---- The loss

module _ (kinds : Kinds) (registers : Registering) (may_leave : Tearing) (observed_tears : TornWritesAreDetected IsText record_place may_leave)
    (old end : Shown) (is_folder : IsFolder end.contents.files) where
  abbrev setting : Setting
  setting = setting_by kinds registers may_leave

  -- the record of the path is as it was
  abbrev still : Path → Bool
  still path = same_file (file_at end.contents.files (record_place path)) (file_at old.contents.files (record_place path))

  -- from a loss that left each record as it was or took it away
  lost_leads : (answer : Answer) → LossStep may_leave old answer end
      → ((remembered : Memory) → RemembersAfter setting (state_of old remembered) answer (state_of end (where_key byte_order still remembered)))
      → ((path : Path) → IsTrue (is_task_path path) → IsSameOrNone path (file_at end.contents.files (record_place path)) (file_at old.contents.files (record_place path)))
      → IsTransition setting old events.Lost answer end
  lost_leads answer step after left remembered clear observed worth = record {
    remembered = kept;
    step = (step, after remembered);
    exists = λ given. let existed = worth given.0 in (
      holds_for_memory kinds end.contents kept is_folder (all_where (λ entry. IsMade kinds entry.1) still remembered existed.0.made)
          (record {
            in_order = of_T _ (is_sorted-where_key byte_order still remembered (T_of _ existed.0.in_order));
            of_tasks = all_where (λ entry. IsTrue (is_task_path entry.0)) still remembered existed.0.of_tasks;
            records = λ path good. stored path good (existed.0.records path good) (still path) refl;
          }),
      observed_more (all_contents kept) (observed ++ contents_outside old.contents) (contents_outside end.contents)
          (λ bytes within. existed.1 bytes (are_among (all_contents kept) (all_contents remembered) (fewer_contents still remembered) bytes within)),
    );
  }
    where
      kept : Memory
      kept = where_key byte_order still remembered

      stored : (path : Path) → IsTrue (is_task_path path) → Stores sha256 IsText path (file_at old.contents.files (record_place path)) (recalled remembered path)
          → (b : Bool) → still path ≡ b → Stores sha256 IsText path (file_at end.contents.files (record_place path)) (recalled kept path)
      stored path good was true is =
          subst (λ (entry : Option Entry). Stores sha256 IsText path (file_at end.contents.files (record_place path)) entry)
          (sym (recalled-where still remembered path ∙ ap (λ b. cond b (recalled remembered path) None) is))
          (subst (λ (bytes : Option Bytes). Stores sha256 IsText path bytes (recalled remembered path)) (sym (is_same_file _ _ is)) was)
      stored path good was false is =
          subst (λ (entry : Option Entry). Stores sha256 IsText path (file_at end.contents.files (record_place path)) entry)
          (sym (recalled-where still remembered path ∙ ap (λ b. cond b (recalled remembered path) None) is))
          (elim (left path good) [ inl same ↦ absurd (other_file _ _ is same) | inr none ↦ none ])

  -- a record that is where it was is remembered, and nothing else
  keeps_existing : (remembered : Memory) → KeepsWhatExists setting (state_of old remembered) (state_of end (where_key byte_order still remembered))
  keeps_existing remembered path good = by (still path) refl
    where
      by : (b : Bool) → still path ≡ b
          → ((file_at end.contents.files (record_place path) ≡ file_at old.contents.files (record_place path)) × (recalled (where_key byte_order still remembered) path ≡ recalled remembered path))
          ⊎ ((file_at end.contents.files (record_place path) ≢ file_at old.contents.files (record_place path)) × (recalled (where_key byte_order still remembered) path ≡ None))
      by true is = inl (is_same_file _ _ is, recalled-where still remembered path ∙ ap (λ b. cond b (recalled remembered path) None) is)
      by false is = inr (other_file _ _ is, recalled-where still remembered path ∙ ap (λ b. cond b (recalled remembered path) None) is)

  all_gone : end.contents ≡ record old.contents { files = files_where (λ place. not (is_own place)) old.contents.files }
      → (path : Path) → file_at end.contents.files (record_place path) ≡ None
  all_gone is path =
      ap (λ (c : Contents). file_at c.files (record_place path)) is
      ∙ file_at-files_where old.contents.files (λ place. not (is_own place)) (record_place path)
      ∙ ap (λ b. cond (not b) (file_at old.contents.files (record_place path)) None) (texts_are_records.own path)

  -- all that was remembered is gone
  none_leads : LossStep may_leave old answers.Edited end → IsTransition setting old events.Lost answers.Edited end
  none_leads step remembered clear observed worth = record {
    remembered = [];
    step = (step, refl);
    exists = λ given. (
      holds_for_memory kinds end.contents [] is_folder tt
          (record {
            in_order = refl;
            of_tasks = tt;
            records = λ path good. subst (λ (bytes : Option Bytes). IsTextOfNoRecord IsText path bytes) (sym (all_gone step path)) tt;
          }),
      λ bytes within. absurd (none_within bytes within),
    );
  }

  pub loss_leads : (answer : Answer) → LossStep may_leave old answer end → IsTransition setting old events.Lost answer end
  loss_leads answers.Edited step = none_leads step
  loss_leads (answers.Refused fault) (inl unlisted) =
      lost_leads (answers.Refused fault) (inl unlisted) keeps_existing
      (λ path good. inl (ap (λ (c : Contents). file_at c.files (record_place path)) unlisted.0))
  loss_leads (answers.Refused fault) (inr cut) =
      lost_leads (answers.Refused fault) (inr cut) keeps_existing (cut_leaves may_leave observed_tears old.contents end.contents (places_under old.contents.files own_place) fault cut.1)
  loss_leads (answers.Built report) step = absurd step
  loss_leads (answers.NotBuilt fault) step = absurd step
