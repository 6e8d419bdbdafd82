-- From contents that a state of a folder shows back to those that an earlier state shows.
use Rattle.std.specs.Prelude.{◌≡◌, ◌≤◌, ◌⊎◌, ◌++◌, false, List, [], ◌∷◌, Some, Ok, Err, length}
use Rattle.std.proofs.Common.{refl, sym, subst, ap, ◌∙◌, inl, inr}
use Rattle.gb_folder.specs.Answers.{WereListed, WereRead}
use Rattle.gb_folder.specs.Calls.{Call, Lists, Reads, ReadsPart, Writes, Removes, IsReachedBy, Requests, fault_of, no_change, none, then, Device}
use Rattle.gb_folder.specs.Files.{Bytes, Contents, Place, Tearing, file_at, is_special_under, places_under}
use Rattle.gb_folder.specs.Limits.{max_file}
use Rattle.gb_folder.proofs.Known.{reading_keeps}
use Rattle.gb_folder.specs.Semantics.{Answers, AnswersAll}
use Rattle.gb_folder.specs.declared.folder.FolderFault.{FolderFault}
use Rattle.gb_folder.specs.declared.folder.FolderFault.TheVariants as folders
use Rattle.gb_logged.specs.Logged.{LogsCalls}
use Rattle.gb_answers.specs.Answering.{AnswersSoundly, IsSound}
use Rattle.gb_folder.specs.Device.{Leads}

-- `Shows` relates the states of a folder to contents under which all of its calls are answered: a call that led
-- to a state that shows contents came from one that shows the contents before the call.
pub record AreAnswersOf {F : Type 0} (allowed : F → Call → F → Type 0) (leaves : Tearing)
    (Shows : F → Contents → Type 0) : Type 0 where
  pub sound : (state : F) (contents : Contents) → Shows state contents → IsSound contents
  pub back : (old : F) (call : Call) (new : F) (after : Contents) → allowed old call new → Shows new after
      → (before : Contents) × Shows old before × Answers leaves before call after

module _ {F : Type 0} (device : Device F) (leaves : Tearing) (Shows : F → Contents → Type 0)
    (are : AreAnswersOf device.allowed leaves Shows) where
  -- calls that request no change came from a state that shows the same
  unchanged : (old : F) {new : F} (contents : Contents) → IsReachedBy device no_change old new → Shows new contents → Shows old contents
  unchanged old contents none shows = shows
  unchanged old contents (then {mid = mid} call new led permitted is) shows =
      let from = are.back mid call new contents is.allowed shows in
      unchanged old contents led (subst (λ (c : Contents). Shows mid c) (sym (reading_keeps leaves from.0 contents call permitted from.2)) from.1)

  pub back_unchanged : (old new : F) (contents : Contents) → Requests device no_change old new → Shows new contents → Shows old contents
  back_unchanged old new contents requests shows = unchanged old contents (requests.calls none) shows

  -- what was listed on the way to a state is what its contents have
  pub listed_in : (old new : F) (contents : Contents) → Shows new contents → (root : Place) (places : List Place) → WereListed device old new root places
      → (places ≡ places_under contents.files root) × (is_special_under contents root ≡ false)
  listed_in old new contents shows root places way =
      let from = are.back way.before (Lists root (Ok places)) way.after contents way.is.allowed (back_unchanged way.after new contents way.rest shows) in (
        from.2.0.0 ∙ ap (λ (c : Contents). places_under c.files root) (sym from.2.1),
        ap (λ (c : Contents). is_special_under c root) from.2.1 ∙ from.2.0.1,
      )

  -- and what was read is what they have
  pub read_in : (old new : F) (contents : Contents) → Shows new contents → (place : Place) (bytes : Bytes) → WereRead device old new place bytes
      → (file_at contents.files place ≡ Some bytes) × (length bytes ≤ max_file)
  read_in old new contents shows place bytes way =
      let from = are.back way.before (Reads place max_file (Ok bytes)) way.after contents way.is.allowed (back_unchanged way.after new contents way.rest shows) in
      (ap (λ (c : Contents). file_at c.files place) from.2.1 ∙ from.2.0.0, from.2.0.1)

  -- calls that led to contents came from contents that answer them
  pub back_calls : (old new : F) (calls : List Call) (after : Contents) → Leads device old calls new → Shows new after
      → (before : Contents) × Shows old before × AnswersAll leaves before calls after
  back_calls old new [] after led shows = (after, subst (λ (f : F). Shows f after) led shows, refl)
  back_calls old new (call ∷ calls) after led shows =
      let later = back_calls led.0 new calls after led.2 shows in
      let from = are.back old call led.0 later.0 led.1.allowed later.1 in
      (from.0, from.1, ((are.sound old from.0 from.1).folder, (later.0, from.2, later.2)))

-- ---- A folder that keeps its calls

same_fault : (a b : FolderFault) → Some a ≡ Some b → a ≡ b
same_fault a b e = cc

-- a call for which memory ran out did nothing
nothing_done : (leaves : Tearing) (contents : Contents) (call : Call) → fault_of call ≡ Some folders.OutOfMemory → Answers leaves contents call contents
nothing_done leaves contents (Lists root (Ok places)) is = absurd (let e = is in (cc))
nothing_done leaves contents (Lists root (Err fault)) is = subst (λ (f : FolderFault). Answers leaves contents (Lists root (Err f)) contents) (sym (same_fault fault folders.OutOfMemory is)) (tt, refl)
nothing_done leaves contents (Reads place limit (Ok bytes)) is = absurd (let e = is in (cc))
nothing_done leaves contents (Reads place limit (Err fault)) is = subst (λ (f : FolderFault). Answers leaves contents (Reads place limit (Err f)) contents) (sym (same_fault fault folders.OutOfMemory is)) (tt, refl)
nothing_done leaves contents (ReadsPart place at len (Ok bytes)) is = absurd (let e = is in (cc))
nothing_done leaves contents (ReadsPart place at len (Err fault)) is = subst (λ (f : FolderFault). Answers leaves contents (ReadsPart place at len (Err f)) contents) (sym (same_fault fault folders.OutOfMemory is)) (tt, refl)
nothing_done leaves contents (Writes place bytes limit (Ok done)) is = absurd (let e = is in (cc))
nothing_done leaves contents (Writes place bytes limit (Err fault)) is = subst (λ (f : FolderFault). Answers leaves contents (Writes place bytes limit (Err f)) contents) (sym (same_fault fault folders.OutOfMemory is)) refl
nothing_done leaves contents (Removes place (Ok done)) is = absurd (let e = is in (cc))
nothing_done leaves contents (Removes place (Err fault)) is = subst (λ (f : FolderFault). Answers leaves contents (Removes place (Err f)) contents) (sym (same_fault fault folders.OutOfMemory is)) refl

last_of : (leaves : Tearing) (calls : List Call) (call : Call) (start end : Contents) → AnswersSoundly leaves start (calls ++ call ∷ []) end
    → (mid : Contents) × AnswersSoundly leaves start calls mid × Answers leaves mid call end × IsSound end
last_of leaves [] call start end answers = (start, (answers.0, refl), subst (λ (c : Contents). Answers leaves start call c) (sym answers.3.1) answers.2, subst IsSound (sym answers.3.1) answers.3.0)
last_of leaves (first ∷ calls) call start end answers =
    let rest = last_of leaves calls call answers.1 end answers.3 in
    (rest.0, (answers.0, answers.1, answers.2, rest.1), rest.2, rest.3)

pub start_sound : (leaves : Tearing) (calls : List Call) (start end : Contents) → AnswersSoundly leaves start calls end → IsSound start
start_sound leaves [] start end answers = answers.0
start_sound leaves (call ∷ calls) start end answers = answers.0

end_sound : (leaves : Tearing) (calls : List Call) (start end : Contents) → AnswersSoundly leaves start calls end → IsSound end
end_sound leaves [] start end answers = subst IsSound (sym answers.1) answers.0
end_sound leaves (call ∷ calls) start end answers = end_sound leaves calls answers.1 end answers.3

module _ {F : Type 0} (allowed : F → Call → F → Type 0) (log : F → List Call) (keeps : LogsCalls allowed log) (leaves : Tearing) (start : Contents) where
  -- what a state shows, by the calls that led to it
  abbrev pub Shown : F → Contents → Type 0
  Shown state contents = AnswersSoundly leaves start (log state) contents

  pub kept_answers : AreAnswersOf allowed leaves Shown
  kept_answers = record {
    sound = λ state contents shown. end_sound leaves (log state) start contents shown;
    back = λ old call new after is shown. by old call new after shown (keeps.kept old call new is);
  }
    where
      by : (old : F) (call : Call) (new : F) (after : Contents) → Shown new after → (log new ≡ log old ++ call ∷ []) ⊎ ((log new ≡ log old) × (fault_of call ≡ Some folders.OutOfMemory)) → (before : Contents) × Shown old before × Answers leaves before call after
      by old call new after shown (inl more) =
          let last = last_of leaves (log old) call start after (subst (λ (calls : List Call). AnswersSoundly leaves start calls after) more shown) in
          (last.0, last.1, last.2)
      by old call new after shown (inr same) =
          (after, subst (λ (calls : List Call). AnswersSoundly leaves start calls after) same.0 shown, nothing_done leaves after call same.1)
