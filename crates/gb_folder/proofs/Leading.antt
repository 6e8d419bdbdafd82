-- Sequences of calls, and what follows from them: over any folder, and over one with known contents.
use Rattle.std.specs.Prelude.{◌≡◌, ◌≤◌, ◌++◌, List, [], ◌∷◌, Option, Some, None, Ok, Err}
use Rattle.std.specs.List.{AllByRecursion}
use Rattle.std.proofs.Common.{refl, sym, subst, arith}
use Rattle.gb_folder.specs.Calls.{Device, IsReachedBy, Requests, Call, IsPermitted, Lists, Permit, none, then, Reads, ReadsPart, Removes, Writes}
use Rattle.gb_folder.specs.Device.{IsCalled, Leads}
use Rattle.gb_folder.specs.Files.{Bytes, Contents, IsFolder, IsTorn, Place, SameTearing, Tearing}
use Rattle.gb_folder.specs.Semantics.{Answers, AnswersAll}
use Rattle.gb_folder.specs.declared.folder.FolderFault.TheVariants as folders
use Rattle.gb_folder.proofs.Asked.{requests_nothing, requests_then, one_call}
use Rattle.gb_folder.proofs.Changes.{SameTearing-same, SameTearing-chain}

-- ---- over any folder

module _ {F : Type 0} (device : Device F) where
  pub leads_on : (old mid new : F) (first second : List Call) → Leads device old first mid → Leads device mid second new → Leads device old (first ++ second) new
  leads_on old mid new [] second same more = subst (λ (f : F). Leads device f second new) same more
  leads_on old mid new (call ∷ first) second led more = (led.0, led.1, leads_on led.0 mid new first second led.2 more)

  pub leads_once : (old new : F) (call : Call) → IsCalled device old call new → Leads device old (call ∷ []) new
  leads_once old new call called = (new, called, refl)

  pub requests_of : (permit : Permit) (old new : F) (calls : List Call) → AllByRecursion (IsPermitted permit) calls → Leads device old calls new → Requests device permit old new
  requests_of permit old new [] all same = subst (λ (f : F). Requests device permit old f) (sym same) (requests_nothing old)
  requests_of permit old new (call ∷ calls) all led = requests_then (one_call call all.0 led.1) (requests_of permit led.0 new calls all.1 led.2)

  -- requests are such calls
  all_then : (P : Call → Type 0) (calls : List Call) (call : Call) → AllByRecursion P calls → P call → AllByRecursion P (calls ++ call ∷ [])
  all_then P [] call all holds = (holds, tt)
  all_then P (first ∷ calls) call all holds = (all.0, all_then P calls call all.1 holds)

  pub calls_in : (permit : Permit) (old : F) {new : F} → IsReachedBy device permit old new → (calls : List Call) × Leads device old calls new × AllByRecursion (IsPermitted permit) calls
  calls_in permit old none = ([], refl, tt)
  calls_in permit old (then {mid = mid} call new led permitted is) =
      let before = calls_in permit old led in
      (before.0 ++ call ∷ [], leads_on old mid new before.0 (call ∷ []) before.1 (leads_once mid new call is), all_then (IsPermitted permit) before.0 call before.2 permitted)

  pub count_of : (old new : F) (calls : List Call) → Leads device old calls new → device.failures old ≤ device.failures new
  count_of old new [] same = subst (λ (f : F). device.failures old ≤ device.failures f) (sym same) (omega arith)
  count_of old new (call ∷ calls) led = omega (arith, led.1.count, count_of led.0 new calls led.2)

-- ---- what a stopped call may leave

torn_before : (first second : Tearing) → SameTearing first second → (place : Place) (next : Option Bytes) (old new : Contents) → IsTorn second place next old new → IsTorn first place next old new
torn_before first second same place next old new torn = (torn.0, (same place _ next torn.0).0 torn.1, torn.2)

answers_before : (first second : Tearing) → SameTearing first second → (old new : Contents) (call : Call) → Answers second old call new → Answers first old call new
answers_before first second same old new (Lists root answer) is = is
answers_before first second same old new (Reads place limit answer) is = is
answers_before first second same old new (ReadsPart place at len answer) is = is
answers_before first second same old new (Writes place bytes limit (Ok done)) is = is
answers_before first second same old new (Writes place bytes limit (Err folders.OutOfMemory)) is = is
answers_before first second same old new (Writes place bytes limit (Err folders.Device)) is = torn_before first second same place (Some bytes) old new is
answers_before first second same old new (Writes place bytes limit (Err folders.Missing)) is = is
answers_before first second same old new (Writes place bytes limit (Err folders.Blocked)) is = is
answers_before first second same old new (Writes place bytes limit (Err folders.TooLarge)) is = is
answers_before first second same old new (Writes place bytes limit (Err folders.BadFileName)) is = is
answers_before first second same old new (Removes place (Ok done)) is = is
answers_before first second same old new (Removes place (Err folders.OutOfMemory)) is = is
answers_before first second same old new (Removes place (Err folders.Device)) is = torn_before first second same place None old new is
answers_before first second same old new (Removes place (Err folders.Missing)) is = is
answers_before first second same old new (Removes place (Err folders.Blocked)) is = is
answers_before first second same old new (Removes place (Err folders.TooLarge)) is = is
answers_before first second same old new (Removes place (Err folders.BadFileName)) is = is

-- ---- over a folder with known contents

module _ {F : Type 0} (device : Device F) (sound : (f : F) → IsFolder (device.contents f).files) where
  faithful_before : (old new : F) (calls : List Call) → Leads device old calls new → device.faithful new → device.faithful old
  faithful_before old new [] same is = subst device.faithful same is
  faithful_before old new (call ∷ calls) led is = led.1.back (faithful_before led.0 new calls led.2 is)

  answered_from : (first : Tearing) (old new : F) (calls : List Call) → device.faithful new → SameTearing first (device.may_leave old) → Leads device old calls new → AnswersAll first (device.contents old) calls (device.contents new)
  answered_from first old new [] faithful same led = subst (λ (f : F). device.contents f ≡ device.contents old) (sym led) refl
  answered_from first old new (call ∷ calls) faithful same led = (
    sound old,
    (
      device.contents led.0,
      answers_before first (device.may_leave old) same (device.contents old) (device.contents led.0) call (led.1.exact (faithful_before led.0 new calls led.2 faithful)),
      answered_from first led.0 new calls faithful (SameTearing-chain _ _ _ same led.1.tearing) led.2,
    ),
  )

  pub answered_all : (old new : F) (calls : List Call) → device.faithful new → Leads device old calls new → AnswersAll (device.may_leave old) (device.contents old) calls (device.contents new)
  answered_all old new calls faithful led = answered_from (device.may_leave old) old new calls faithful (SameTearing-same _) led
