-- The tool is called again and again; in between anybody may edit the folder, but nobody else writes a
-- record.
use Rattle.std.specs.Prelude.{ℕ, suc, ◌≡◌, ◌⊎◌, List, [], ◌∷◌, None, IsTrue, is_some, ⊤}
use Rattle.std.specs.FinMap.Entries.{where_key}
use Rattle.gb_core.specs.Lists.{byte_order}
use Rattle.gb_core.specs.Path.{is_task_path}
use Rattle.gb_folder.specs.Files.{Contents, IsFolder, Tearing, file_at}
use Rattle.gb_plan.specs.Task.{Path}
use Rattle.gb_semantics.specs.declared.events.Event.{Event}
use Rattle.gb_semantics.specs.declared.events.Answer.{Answer}
use Rattle.gb_semantics.specs.Memory.{Memory}
use Rattle.gb_semantics.specs.Edits.{Shown}
use Rattle.gb_semantics.specs.Events.{Setting, State}
use Rattle.gb_semantics.specs.Headline.{EventsHold, Registering, HoldsMemory, WentThrough, state_of}
use Rattle.gb_semantics.specs.Every.{AllCollisionFree, AllSucceed, UnconditionalRun}

-- One use of the tool: the folder that it found, the events and their results, and the folder that it left.
pub record Session : Type 0 where
  pub start : Shown
  pub events : List Event
  pub answers : List Answer
  pub end : Shown

-- Between two sessions the folder was edited, but each record is as it was, or is gone.
pub record IsEdited (setting : Setting) (old new : Contents) : Type 0 where
  pub is_folder : IsFolder new.files
  pub records : (path : Path) → IsTrue (is_task_path path)
      → (file_at new.files (setting.record_place path) ≡ file_at old.files (setting.record_place path))
      ⊎ (file_at new.files (setting.record_place path) ≡ None)

-- what is remembered of the tasks whose records still exist
abbrev pub still_remembered : Setting → Contents → Memory → Memory
still_remembered setting folder remembered =
    where_key byte_order (λ path. is_some (file_at folder.files (setting.record_place path))) remembered

-- the state in which a session begins, where this was remembered before it
abbrev pub begins : Setting → Session → Memory → State
begins setting session remembered =
    state_of session.start (still_remembered setting session.start.contents remembered)

-- what is remembered after the last of these states
abbrev pub remembered_after : Memory → List State → Memory
remembered_after remembered [] = remembered
remembered_after remembered (state ∷ states) = remembered_after state.remembered states

-- Each session may have tables of its own, and so a meaning of scripts, and a device of its own.
module _ (setting : Setting) (registers : ℕ → Registering) (may_leave : ℕ → Tearing) where
  -- the parameters of the session of this number
  abbrev pub setting_at : ℕ → Setting
  setting_at number = record setting { registers = registers number; may_leave = may_leave number }

  -- one session after another, each over the folder that was left, as it has been edited since
  abbrev pub SessionsHold : ℕ → Contents → List Session → Type 0
  SessionsHold number left [] = ⊤
  SessionsHold number left (session ∷ rest) =
      IsEdited setting left session.start.contents
      × EventsHold (setting_at number) session.start session.events session.answers session.end
      × SessionsHold (suc number) session.end.contents rest

  -- Each session went through states. If no two contents of these states, or of the records that the session
  -- found, share a digest, it is a plain run in which each success is from scratch, and the same holds for
  -- the sessions after it.
  abbrev pub AllHold : ℕ → Memory → List Session → Type 0
  AllHold number remembered [] = ⊤
  AllHold number remembered (session ∷ rest) =
      let start = begins setting session remembered in
      (states : List State)
      × WentThrough (setting_at number) start states session.events session.answers session.end
      × (AllCollisionFree setting start states
      → UnconditionalRun (setting_at number) start states session.events session.answers session.end
      × AllSucceed (setting_at number) start states session.events session.answers session.end
      × AllHold (suc number) (remembered_after start.remembered states) rest)

  -- what all sessions of the tool promise, from a folder that holds true records
  abbrev pub HeadlineOfSessions : Type 0
  HeadlineOfSessions =
      (left : Contents) (sessions : List Session) → SessionsHold 0 left sessions →
      (remembered : Memory) → HoldsMemory setting left remembered → AllHold 0 remembered sessions
