-- Calls that a folder keeps: those that lead on are kept after those before, and what they returned is among
-- what all of them returned.
use Rattle.std.specs.Prelude.{◌≡◌, ◌++◌, List, [], ◌∷◌, map, None, Some, Ok, Contains}
use Rattle.std.specs.List.{AllByRecursion, AllZip}
use Rattle.std.proofs.Common.{refl, sym, ap, subst, ◌∙◌, inl, inr, append_assoc}
use Rattle.std.proofs.lemmas.List.{append-nil}
use Rattle.std.proofs.lemmas.List.Elements.{Contains-append_left, Contains-push}
use Rattle.gb_action.specs.Files.{Trees}
use Rattle.gb_action.specs.declared.output_files.OutputFiles.{OutputFiles}
use Rattle.gb_folder.specs.Answers.{IsOnWay, WereRead}
use Rattle.gb_folder.specs.Calls.{Call, Reads, IsPermitted, IsReachedBy, Permit, Requests, fault_of, none, then, Device}
use Rattle.gb_folder.specs.Files.{Bytes, Files, Place}
use Rattle.gb_folder.specs.Limits.{max_file}
use Rattle.gb_folder.specs.declared.folder.FolderFault.TheVariants as folders
use Rattle.gb_label.specs.ReadingAnswered.{AreInputsRead, AreOutputsRead, IsInputRead, IsOutputRead}
use Rattle.gb_logged.specs.Logged.{LogsCalls}
use Rattle.gb_semantics.specs.TrueRecord.{contents_in}
use Rattle.gb_plan.specs.declared.task.FileProperty.{FileProperty}
use Rattle.gb_plan.specs.declared.task.Output.{Output}
use Rattle.gb_plan.specs.declared.task.TaskDeclaration.{TaskDeclaration as Task}
use Rattle.gb_task.specs.Truth.{contents_read}
use Rattle.gb_tree.specs.Answered.{IsTreeRead}
use Rattle.gb_tree.specs.Tree.{Entries}
use Rattle.gb_tree.proofs.Holding.{all_append}
use Rattle.gb_answers.specs.Stored.{content_of}
use Rattle.gb_folder.specs.Device.{Leads}

-- a call that returned no fault is no call for which memory ran out
none_lost : {A : Type 0} (call : Call) → fault_of call ≡ None → fault_of call ≡ Some folders.OutOfMemory → A
none_lost call well lost = absurd (let e = sym well ∙ lost in (cc))

module _ {F : Type 0} (device : Device F) (log : F → List Call) (keeps : LogsCalls device.allowed log) where
  -- the calls that were kept from one state to another, of which this holds
  pub record Grows (P : Call → Type 0) (old new : F) : Type 0 where
    pub more : List Call
    pub is : log new ≡ log old ++ more
    pub each : AllByRecursion P more

  pub stays : (P : Call → Type 0) (old new : F) → log new ≡ log old → Grows P old new
  stays P old new same = record { more = []; is = same ∙ sym (append-nil (log old)); each = tt }

  pub grows_then : (P : Call → Type 0) (old mid new : F) → Grows P old mid → Grows P mid new → Grows P old new
  grows_then P old mid new first second = record {
    more = first.more ++ second.more;
    is = second.is ∙ ap (λ (calls : List Call). calls ++ second.more) first.is ∙ append_assoc (log old) first.more second.more;
    each = all_append P first.more second.more first.each second.each;
  }

  pub one_grows : (P : Call → Type 0) (old : F) (call : Call) (new : F) → device.allowed old call new → P call → Grows P old new
  one_grows P old call new is holds = elim (keeps.kept old call new is) [
    | inl more ↦ record { more = call ∷ []; is = more; each = (holds, tt) }
    | inr lost ↦ stays P old new lost.0
  ]

  leads_grow : (permit : Permit) (old : F) {new : F} → IsReachedBy device permit old new → Grows (IsPermitted permit) old new
  leads_grow permit old none = stays (IsPermitted permit) old old refl
  leads_grow permit old (then {mid = mid} call new led permitted is) =
      grows_then (IsPermitted permit) old mid new (leads_grow permit old led) (one_grows (IsPermitted permit) mid call new is.allowed permitted)

  pub requests_grow : (permit : Permit) (old new : F) → Requests device permit old new → Grows (IsPermitted permit) old new
  requests_grow permit old new requests = leads_grow permit old (requests.calls none)

  pub calls_grow : (P : Call → Type 0) (old : F) (calls : List Call) (new : F) → Leads device old calls new → AllByRecursion P calls → Grows P old new
  calls_grow P old [] new led all = stays P old new (ap log led)
  calls_grow P old (call ∷ calls) new led all =
      grows_then P old led.0 new (one_grows P old call led.0 led.1.allowed all.0) (calls_grow P led.0 calls new led.2 all.1)

  -- ---- states on the way to a last one

  -- the calls of the state are the first of these
  pub record IsWithin (final : List Call) (state : F) : Type 0 where
    pub later : List Call
    pub is : final ≡ log state ++ later

  pub within_before : {P : Call → Type 0} (final : List Call) (old new : F) → Grows P old new → IsWithin final new → IsWithin final old
  within_before final old new grows within = record {
    later = grows.more ++ within.later;
    is = within.is ∙ ap (λ (calls : List Call). calls ++ within.later) grows.is ∙ append_assoc (log old) grows.more within.later;
  }

  pub itself : (calls : List Call) → AllByRecursion (λ (call : Call). call ≡ call) calls
  itself [] = tt
  itself (call ∷ calls) = (refl, itself calls)

  pub within_calls : (final : List Call) (old : F) (calls : List Call) (new : F) → Leads device old calls new → IsWithin final new → IsWithin final old
  within_calls final old calls new led within = within_before {P = λ (call : Call). call ≡ call} final old new (calls_grow (λ (call : Call). call ≡ call) old calls new led (itself calls)) within

  pub within_requests : {permit : Permit} (final : List Call) (old new : F) → Requests device permit old new → IsWithin final new → IsWithin final old
  within_requests {permit = permit} final old new requests within = within_before {P = IsPermitted permit} final old new (requests_grow permit old new requests) within

  -- a call that was answered well is among them
  pub has_call : (final : List Call) (old : F) (call : Call) (new : F) → device.allowed old call new → fault_of call ≡ None → IsWithin final new → Contains final call
  has_call final old call new is well within = elim (keeps.kept old call new is) [
    | inl more ↦ subst (λ (calls : List Call). Contains calls call) (sym within.is)
        (Contains-append_left (log new) within.later call (subst (λ (calls : List Call). Contains calls call) (sym more) (Contains-push (log old) call)))
    | inr lost ↦ none_lost call well lost.1
  ]

  -- so is one on the way
  pub has_on_way : (final : List Call) (call : Call) (old new : F) → fault_of call ≡ None → IsOnWay device call old new → IsWithin final new → Contains final call
  has_on_way final call old new well way within =
      has_call final way.before call way.after way.is.allowed well (within_requests final way.after new way.rest within)

  -- and each that went well, of calls that were made
  pub each_kept : (final : List Call) (old : F) (calls : List Call) (new : F) → Leads device old calls new → IsWithin final new
      → AllByRecursion (λ (call : Call). fault_of call ≡ None → Contains final call) calls
  each_kept final old [] new led within = tt
  each_kept final old (call ∷ calls) new led within = (
    λ well. has_call final old call led.0 led.1.allowed well (within_calls final led.0 calls new led.2 within),
    each_kept final led.0 calls new led.2 within,
  )

  -- ---- what was read

  module _ (final : List Call) (all : List Bytes) (among : (call : Call) → Contains final call → AllByRecursion (Contains all) (content_of call)) (old new : F) (within : IsWithin final new) where
    read_among : (place : Place) (bytes : Bytes) → WereRead device old new place bytes → Contains all bytes
    read_among place bytes were = (among (Reads place max_file (Ok bytes)) (has_on_way final (Reads place max_file (Ok bytes)) old new refl were within)).0

    tree_among : (entries : Entries) (files : Files) → IsTreeRead device old new entries files → AllByRecursion (Contains all) (map (λ file. file.1) files)
    tree_among [] [] were = tt
    tree_among [] (file ∷ files) were = absurd were
    tree_among (entry ∷ entries) [] were = absurd were
    tree_among (entry ∷ entries) (file ∷ files) were = (read_among entry.1 file.1 were.0.1, tree_among entries files were.1)

    inputs_among : (properties : List FileProperty) (trees : Trees) → AllZip (IsInputRead device old new) properties trees → AllByRecursion (Contains all) (contents_in trees)
    inputs_among [] [] were = tt
    inputs_among [] (tree ∷ trees) were = absurd were
    inputs_among (property ∷ properties) [] were = absurd were
    inputs_among (property ∷ properties) (tree ∷ trees) were =
        all_append (Contains all) (map (λ file. file.1) tree.1) (contents_in trees) (tree_among were.0.0 tree.1 were.0.2) (inputs_among properties trees were.1)

    outputs_among : (outputs : List Output) (observed : List OutputFiles) → AllZip (IsOutputRead device old new) outputs observed
        → AllByRecursion (Contains all) (contents_in (map (λ output. (output.name, output.files)) observed))
    outputs_among [] [] were = tt
    outputs_among [] (one ∷ observed) were = absurd were
    outputs_among (output ∷ outputs) [] were = absurd were
    outputs_among (output ∷ outputs) (one ∷ observed) were =
        all_append (Contains all) (map (λ file. file.1) one.files) (contents_in (map (λ output. (output.name, output.files)) observed)) (tree_among were.0.0 one.files were.0.2) (outputs_among outputs observed were.1)

    -- the contents of the trees of a task's inputs that were read
    pub trees_among : (task : Task) (trees : Trees) → AreInputsRead device old new task trees → AllByRecursion (Contains all) (contents_in trees)
    trees_among task trees were = inputs_among task.files trees were

    -- with those of the files of its outputs
    pub all_among : (task : Task) (trees : Trees) (observed : List OutputFiles) → AreInputsRead device old new task trees → AreOutputsRead device old new task observed
        → AllByRecursion (Contains all) (contents_read trees observed)
    all_among task trees observed inputs outputs =
        all_append (Contains all) (contents_in trees) (contents_in (map (λ output. (output.name, output.files)) observed)) (inputs_among task.files trees inputs) (outputs_among task.outputs observed outputs)
