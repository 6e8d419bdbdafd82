-- What edits change, by their answer.
use Rattle.std.specs.Prelude.{◌≡◌, Bool, not, bytes_eq}
use Rattle.std.proofs.Common.{ap, ◌∙◌, inl, inr}
use Rattle.gb_folder.specs.Files.{Bytes, Contents, Files, Place, Tearing, files_where, without}
use Rattle.gb_semantics.specs.declared.events.Answer.{Answer}
use Rattle.gb_semantics.specs.declared.events.Answer.TheVariants as answers
use Rattle.gb_semantics.specs.declared.events.Event.TheVariants as events
use Rattle.gb_semantics.specs.Edits.{PutStep, RemoveStep, Shown}
use Rattle.gb_semantics.specs.Headline.{EventKeeps, RefusedEditKeeps, Registering}
use Rattle.gb_report.specs.declared.fault.Fault.{Fault}
use Rattle.gb_report.specs.declared.fault.Fault.TheVariants as faults
use Rattle.gb_folder.specs.Changes.{ChangesOnly}
use Rattle.gb_folder.proofs.Machine.{changes_left, changes_none}
use Rattle.gb_build.proofs.Outside.{itself, same_either_way}

-- a refusal that changed nothing
nothing : (place : Place) (fault : Fault) (old new : Contents) → new ≡ old → RefusedEditKeeps place fault old new
nothing place (faults.Device at) old new same = let changes = changes_none (bytes_eq place) old new same in (changes.elsewhere, changes.special)
nothing place fault old new same = same

-- the device stopped the edit
torn : (place : Place) (fault : Fault) (old new : Contents) → fault ≡ faults.Device place → ChangesOnly (bytes_eq place) old new → RefusedEditKeeps place fault old new
torn place (faults.Device at) old new is changes = (changes.elsewhere, changes.special)
torn place fault old new is changes = absurd (cc)

module _ (registers : Registering) (may_leave : Tearing) (place : Place) where
  module _ (bytes : Bytes) (old new : Shown) where
    pub put_keeps : (answer : Answer) → PutStep may_leave place bytes old answer new → EventKeeps registers (events.Put place bytes) answer old.contents new.contents
    put_keeps answers.Edited step = step.3
    put_keeps (answers.Refused fault) (inl (inl memory)) = nothing place fault old.contents new.contents memory.0
    put_keeps (answers.Refused fault) (inl (inr stopped)) =
        torn place fault old.contents new.contents stopped.reported (changes_left (bytes_eq place) old.contents new.contents place stopped.torn.0 stopped.torn.2 (itself place))
    put_keeps (answers.Refused fault) (inr (inl none)) = nothing place fault old.contents new.contents none.0
    put_keeps (answers.Refused fault) (inr (inr large)) = nothing place fault old.contents new.contents large.0
    put_keeps (answers.Built report) step = absurd step
    put_keeps (answers.NotBuilt fault) step = absurd step

  without_place : (files : Files) → without files place ≡ files_where (λ other. not (bytes_eq place other)) files
  without_place files = ap (λ (test : Place → Bool). files_where test files) (λ i other. not (same_either_way other place i))

  module _ (old new : Shown) where
    pub remove_keeps : (answer : Answer) → RemoveStep may_leave place old answer new → EventKeeps registers (events.Remove place) answer old.contents new.contents
    remove_keeps answers.Edited step = step.2 ∙ ap (λ (files : Files). record old.contents { files = files }) (without_place old.contents.files)
    remove_keeps (answers.Refused fault) (inl (inl memory)) = nothing place fault old.contents new.contents memory.0
    remove_keeps (answers.Refused fault) (inl (inr stopped)) =
        torn place fault old.contents new.contents stopped.reported (changes_left (bytes_eq place) old.contents new.contents place stopped.torn.0 stopped.torn.2 (itself place))
    remove_keeps (answers.Refused fault) (inr (inl none)) = nothing place fault old.contents new.contents none.0
    remove_keeps (answers.Refused fault) (inr (inr gone)) = nothing place fault old.contents new.contents gone.0
    remove_keeps (answers.Built report) step = absurd step
    remove_keeps (answers.NotBuilt fault) step = absurd step
