-- How one event continues a run, starting from any memory and any contents that were read before it.
use Rattle.std.specs.Prelude.{◌++◌, Bool, List, Contains, IsTrue}
use Rattle.gb_folder.specs.Files.{Bytes}
use Rattle.gb_semantics.specs.declared.events.Answer.{Answer}
use Rattle.gb_semantics.specs.declared.events.Event.{Event}
use Rattle.gb_semantics.specs.Edits.{Shown}
use Rattle.gb_semantics.specs.Events.{Setting, State, Step, world_in}
use Rattle.gb_semantics.specs.Headline.{HoldsMemory, StillClear, contents_outside, observed_with, state_of}
use Rattle.gb_semantics.specs.Memory.{Memory}
use Rattle.gb_semantics.specs.TrueRecord.{memory_contents}

-- each content of the one list is one of the other
abbrev pub AreAmong : List Bytes → List Bytes → Type 0
AreAmong some all = (bytes : Bytes) → Contains some bytes → Contains all bytes

-- The folder holds the records of what is remembered, which is true. Each content that this memory mentions
-- was read before, or is in the folder.
abbrev pub HoldsObserved : Setting → List Bytes → State → Type 0
HoldsObserved setting observed state =
    HoldsMemory setting state.contents state.remembered
    × AreAmong (memory_contents (world_in state)) (observed ++ contents_outside state.contents)

-- The event is a step of a run, where the contents that were read are collision-free. If all of these are,
-- true records of what is remembered exist after it.
pub record LeadsTo (setting : Setting) (clear : Bool) (observed : List Bytes) (old : State) (event : Event)
    (answer : Answer) (new : Shown) : Type 0 where
  pub remembered : Memory
  pub step : Step setting (StillClear setting (IsTrue clear) old)
      observed old event answer (state_of new remembered)
  pub exists : StillClear setting (IsTrue clear) old (observed_with observed old (state_of new remembered))
      → HoldsObserved setting (observed ++ contents_outside old.contents) (state_of new remembered)

-- An event leads from what a folder shows to what it shows then, starting from any remembered records. The
-- premise: true records of these exist in the folder, if all was collision-free before.
abbrev pub IsTransition : Setting → Shown → Event → Answer → Shown → Type 0
IsTransition setting old event answer new =
    (remembered : Memory) (clear : Bool) (observed : List Bytes)
    → (IsTrue clear → HoldsObserved setting observed (state_of old remembered))
    → LeadsTo setting clear observed (state_of old remembered) event answer new
