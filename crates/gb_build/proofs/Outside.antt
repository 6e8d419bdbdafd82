-- Edits outside of the tool's own files: what they change, and that they continue a run.
use Rattle.std.specs.Prelude.{ℕ, ◌≡◌, ◌++◌, Bool, true, false, not, IsTrue, List}
use Rattle.std.specs.Cmp.Lexicographic.{bytes_decides}
use Rattle.std.specs.Prelude.{bytes_eq}
use Rattle.std.proofs.Common.{refl, sym, ap, ◌∙◌, inl, inr}
use Rattle.gb_folder.specs.Files.{Bytes, IsFolder, Place, Tearing, is_own}
use Rattle.gb_semantics.specs.declared.events.Answer.{Answer}
use Rattle.gb_semantics.specs.declared.events.Answer.TheVariants as answers
use Rattle.gb_semantics.specs.declared.events.Event.{Event}
use Rattle.gb_semantics.specs.declared.events.Event.TheVariants as events
use Rattle.gb_semantics.specs.Edits.{PutStep, RemoveStep, Shown}
use Rattle.gb_semantics.specs.Events.{Setting, Step, world_in}
use Rattle.gb_semantics.specs.Headline.{Registering, StillClear, contents_outside, state_of}
use Rattle.gb_semantics.specs.Kinds.{Kinds}
use Rattle.gb_semantics.specs.Memory.{Memory}
use Rattle.gb_semantics.specs.TrueRecord.{memory_contents}
use Rattle.gb_records.proofs.Reported.{holds_elsewhere, holds_for_memory}
use Rattle.gb_folder.specs.Changes.{ChangesOnly}
use Rattle.gb_folder.proofs.Machine.{changes_left, changes_none, changes_with, changes_without}
use Rattle.gb_build.specs.Leading.{IsTransition}
use Rattle.gb_build.proofs.Leading.{observed_more}
use Rattle.gb_records.specs.Setting.{setting_by}

-- a place that is not the tool's own
abbrev pub is_outside : Place → Bool
is_outside place = not (is_own place)

pub itself : (place : Place) → bytes_eq place place ≡ true
itself place = (bytes_decides place place).1 refl

pub same_either_way : (a b : List ℕ) → bytes_eq a b ≡ bytes_eq b a
same_either_way a b = by (bytes_eq a b) (bytes_eq b a) refl refl
  where
    by : (s t : Bool) → bytes_eq a b ≡ s → bytes_eq b a ≡ t → s ≡ t
    by true t e f = sym (sym f ∙ (bytes_decides b a).1 (sym ((bytes_decides a b).0 e)))
    by false true e f = sym e ∙ (bytes_decides a b).1 (sym ((bytes_decides b a).0 f))
    by false false e f = refl

module _ (registers : Registering) (may_leave : Tearing) (place : Place) where
  module _ (bytes : Bytes) (old new : Shown) where
    pub put_outside : (answer : Answer) → PutStep may_leave place bytes old answer new → ChangesOnly is_outside old.contents new.contents
    put_outside answers.Edited step = changes_with is_outside old.contents new.contents place bytes step.3 (ap not step.0)
    put_outside (answers.Refused fault) (inl (inl memory)) = changes_none is_outside old.contents new.contents memory.0
    put_outside (answers.Refused fault) (inl (inr torn)) = changes_left is_outside old.contents new.contents place torn.torn.0 torn.torn.2 (ap not torn.outside)
    put_outside (answers.Refused fault) (inr (inl none)) = changes_none is_outside old.contents new.contents none.0
    put_outside (answers.Refused fault) (inr (inr large)) = changes_none is_outside old.contents new.contents large.0
    put_outside (answers.Built report) step = absurd step
    put_outside (answers.NotBuilt fault) step = absurd step

  module _ (old new : Shown) where
    pub remove_outside : (answer : Answer) → RemoveStep may_leave place old answer new → ChangesOnly is_outside old.contents new.contents
    remove_outside answers.Edited step = changes_without is_outside old.contents new.contents place step.2 (ap not step.0)
    remove_outside (answers.Refused fault) (inl (inl memory)) = changes_none is_outside old.contents new.contents memory.0
    remove_outside (answers.Refused fault) (inl (inr torn)) = changes_left is_outside old.contents new.contents place torn.torn.0 torn.torn.2 (ap not torn.outside)
    remove_outside (answers.Refused fault) (inr (inl none)) = changes_none is_outside old.contents new.contents none.0
    remove_outside (answers.Refused fault) (inr (inr gone)) = changes_none is_outside old.contents new.contents gone.0
    remove_outside (answers.Built report) step = absurd step
    remove_outside (answers.NotBuilt fault) step = absurd step

module _ (kinds : Kinds) (registers : Registering) (may_leave : Tearing) (old end : Shown) (is_folder : IsFolder end.contents.files) where
  abbrev setting : Setting
  setting = setting_by kinds registers may_leave

  -- an event that changes nothing of the tool's own, and after which the same is remembered
  outside_leads : (event : Event) (answer : Answer) → ChangesOnly is_outside old.contents end.contents
      → ((remembered : Memory) (clear : Bool) (observed : List Bytes) → Step setting (StillClear setting (IsTrue clear) (state_of old remembered)) observed (state_of old remembered) event answer (state_of end remembered))
      → IsTransition setting old event answer end
  outside_leads event answer changes step remembered clear observed worth = record {
    remembered = remembered;
    step = step remembered clear observed;
    exists = λ given.
        let existed = worth given.0 in (
          holds_for_memory kinds end.contents remembered is_folder existed.0.made
              (holds_elsewhere old.contents.files end.contents.files remembered changes.elsewhere
              (record { in_order = existed.0.in_order; of_tasks = existed.0.of_tasks; records = existed.0.records })),
          observed_more (memory_contents (world_in (state_of old remembered))) (observed ++ contents_outside old.contents) (contents_outside end.contents) existed.1,
        );
  }

  pub put_leads : (place : Place) (bytes : Bytes) (answer : Answer) → PutStep may_leave place bytes old answer end → IsTransition setting old (events.Put place bytes) answer end
  put_leads place bytes answer step =
      outside_leads (events.Put place bytes) answer (put_outside registers may_leave place bytes old end answer step) (λ remembered clear observed. (step, refl))

  pub remove_leads : (place : Place) (answer : Answer) → RemoveStep may_leave place old answer end → IsTransition setting old (events.Remove place) answer end
  remove_leads place answer step =
      outside_leads (events.Remove place) answer (remove_outside registers may_leave place old end answer step) (λ remembered clear observed. (step, refl))
