-- Sessions one after another: the records that one leaves are those that the next one finds.
use Rattle.std.specs.Prelude.{ℕ, suc, ◌≡◌, Bool, true, false, cond, List, [], ◌∷◌, Option, None, Some, IsTrue, is_some}
use Rattle.std.specs.List.{AllByRecursion}
use Rattle.std.specs.FinMap.Entries.{find-where_key, is_sorted-where_key, where_key}
use Rattle.std.proofs.Common.{sym, ap, subst, inl, inr}
use Rattle.gb_core.specs.Lists.{byte_order}
use Rattle.gb_core.specs.Path.{is_task_path}
use Rattle.gb_folder.specs.Files.{Contents, Bytes, Tearing, file_at}
use Rattle.gb_plan.specs.Task.{Path}
use Rattle.gb_semantics.specs.declared.events.Event.{Event}
use Rattle.gb_semantics.specs.declared.events.Answer.{Answer}
use Rattle.gb_semantics.specs.Memory.{Entry, Memory, recalled}
use Rattle.gb_semantics.specs.TrueRecord.{Stores}
use Rattle.gb_semantics.specs.Edits.{Shown}
use Rattle.gb_semantics.specs.Events.{Setting, State}
use Rattle.gb_semantics.specs.Headline.{Registering, HoldsMemory}
use Rattle.gb_semantics.specs.Every.{UnconditionalRun}
use Rattle.gb_semantics.specs.Sessions.{Session, IsEdited, SessionsHold, AllHold, HeadlineOfSessions, begins, remembered_after, setting_at, still_remembered}
use Rattle.gb_semantics.proofs.Common.{none_some}
use Rattle.gb_semantics.proofs.Lemmas.Files.{tied_same, T_of, of_T}
use Rattle.gb_semantics.proofs.Lemmas.Plain.{headline}

-- what holds of all entries holds of some
some_hold : {X : Type 0} (test : Path → Bool) (P : Path × X → Type 0) (entries : List (Path × X))
    → AllByRecursion P entries → AllByRecursion P (where_key byte_order test entries)
some_hold test P [] h = tt
some_hold test P (entry ∷ entries) h =
    elim (test entry.0) as (λ b. AllByRecursion P (cond b (entry ∷ where_key byte_order test entries) (where_key byte_order test entries))) [
      | true ↦ (h.0, some_hold test P entries h.1)
      | false ↦ some_hold test P entries h.1
    ]

module _ (setting : Setting) where
  -- the record of one task, where its file is as it was, or is gone
  stores : (path : Path) (old new : Option Bytes) (entry : Option Entry) → Stores setting.digest setting.says path old entry
      → new ≡ old → Stores setting.digest setting.says path new (cond (is_some new) entry None)
  stores path old None entry h same = tt
  stores path old (Some bytes) entry h same = subst (λ left. Stores setting.digest setting.says path left entry) (sym same) h

  gone : (path : Path) (new : Option Bytes) (entry : Option Entry) → new ≡ None → Stores setting.digest setting.says path new (cond (is_some new) entry None)
  gone path None entry is_none = tt
  gone path (Some bytes) entry is_none = none_some (sym is_none)

  -- after an edit the records that still exist are those of what is still remembered
  still_exists : (old new : Contents) (remembered : Memory) → IsEdited setting old new → HoldsMemory setting old remembered
      → HoldsMemory setting new (still_remembered setting new remembered)
  still_exists old new remembered edited exists = record {
    is_folder = edited.is_folder;
    in_order = of_T _ (is_sorted-where_key byte_order there remembered (T_of _ exists.in_order));
    of_tasks = some_hold there (λ entry. IsTrue (is_task_path entry.0)) remembered exists.of_tasks;
    records = λ path is_path. subst (Stores setting.digest setting.says path (file_at new.files (setting.record_place path))) (sym (found path)) (elim (edited.records path is_path) [
      | inl same ↦ stores path (file_at old.files (setting.record_place path)) (file_at new.files (setting.record_place path)) (recalled remembered path) (exists.records path is_path) same
      | inr is_none ↦ gone path (file_at new.files (setting.record_place path)) (recalled remembered path) is_none
    ]);
    made = some_hold there _ remembered exists.made;
  }
    where
      there : Path → Bool
      there path = is_some (file_at new.files (setting.record_place path))

      found : (path : Path) → recalled (where_key byte_order there remembered) path ≡ cond (there path) (recalled remembered path) None
      found path = find-where_key byte_order there path (λ x e. ap there (sym (tied_same path x e))) remembered

  -- what a collision-free execution leaves is what is remembered after its last state
  plain_end : (old : State) (states : List State) (all : List Event) (reported : List Answer) (end : Shown) → HoldsMemory setting old.contents old.remembered
      → UnconditionalRun setting old states all reported end → HoldsMemory setting end.contents (remembered_after old.remembered states)
  plain_end old [] [] [] end exists run = subst (λ folder. HoldsMemory setting folder old.remembered) run.1 exists
  plain_end old (next ∷ states) (event ∷ rest) (answer ∷ others) end exists run = plain_end next states rest others end run.2 run.3
  plain_end old [] [] (answer ∷ others) end exists run = absurd run
  plain_end old [] (event ∷ rest) [] end exists run = absurd run
  plain_end old [] (event ∷ rest) (answer ∷ others) end exists run = absurd run
  plain_end old (next ∷ states) [] [] end exists run = absurd run
  plain_end old (next ∷ states) [] (answer ∷ others) end exists run = absurd run
  plain_end old (next ∷ states) (event ∷ rest) [] end exists run = absurd run

module _ (setting : Setting) (registers : ℕ → Registering) (may_leave : ℕ → Tearing) where
  abbrev at : ℕ → Setting
  at number = setting_at setting registers may_leave number

  all_hold : (number : ℕ) (left : Contents) (sessions : List Session) → SessionsHold setting registers may_leave number left sessions
      → (remembered : Memory) → HoldsMemory setting left remembered → AllHold setting registers may_leave number remembered sessions
  all_hold number left [] hold remembered exists = tt
  all_hold number left (session ∷ rest) hold remembered exists =
      let first : State = begins setting session remembered in
      let found : HoldsMemory (at number) session.start.contents first.remembered = still_exists setting left session.start.contents remembered hold.0 exists in
      let run = headline (at number) session.start session.end session.events session.answers hold.1 first.remembered found in (
        run.0,
        run.1,
        λ separate.
            let plain = run.2 separate in (
              plain.0,
              plain.1,
              all_hold (suc number) session.end.contents rest hold.2 (remembered_after first.remembered run.0)
                  (plain_end (at number) first run.0 session.events session.answers session.end found plain.0),
            ),
      )

pub sessions : (setting : Setting) (registers : ℕ → Registering) (may_leave : ℕ → Tearing) → HeadlineOfSessions setting registers may_leave
sessions setting registers may_leave left all hold remembered exists = all_hold setting registers may_leave 0 left all hold remembered exists
