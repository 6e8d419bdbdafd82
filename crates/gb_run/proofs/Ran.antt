-- A run that was computed and then done: its calls, the attribution of its faults, and how it ends.
use Rattle.std.specs.Prelude.{ℕ, ◌≡◌, ◌≢◌, ◌≤◌, ◌++◌, Bool, true, List, [], ◌∷◌, Option, Result, Ok, Err, IsTrue, IfErr, IfOk, OnOk, map}
use Rattle.std.specs.FinMap.Entries.{is_sorted}
use Rattle.std.specs.List.{AllByRecursion}
use Rattle.std.specs.Result.{result_err}
use Rattle.std.proofs.Common.{refl, sym, ap, subst, ◌∙◌, inl, inr}
use Rattle.gb_core.specs.Lists.{byte_order}
use Rattle.gb_folder.specs.Calls.{Call, IsPermitted, Permit}
use Rattle.gb_folder.specs.Files.{Contents, Files, HasRisen, Place, Tearing}
use Rattle.gb_folder.proofs.Changes.{HasRisen-before}
use Rattle.gb_report.specs.declared.fault.Fault.{Fault}
use Rattle.gb_report.specs.declared.fault.Fault.TheVariants as faults
use Rattle.gb_action.specs.Changes.{Changes}
use Rattle.gb_action.specs.Files.{Trees}
use Rattle.gb_plan.specs.Task.{Text}
use Rattle.gb_plan.specs.declared.task.Action.{Action}
use Rattle.gb_plan.specs.declared.task.TaskDeclaration.{TaskDeclaration as Task}
use Rattle.gb_semantics.specs.Kinds.{Kinds, kind_of}
use Rattle.gb_semantics.specs.Made.{put_result}
use Rattle.gb_run.specs.RunInput.{RunInput, EndsWell, run_input}
use Rattle.gb_run.specs.Failing.{Fails, InFull, RunMode}
use Rattle.gb_run.specs.Steps.{Step}
use Rattle.gb_folder.specs.Semantics.{AnswersAll}
use Rattle.gb_folder.specs.Calls.{Device}
use Rattle.gb_folder.specs.Device.{Leads}
use Rattle.gb_run.specs.Doing.{Does, Ending}
use Rattle.gb_run.specs.Work.{DoesParts, OrPrints, RunsInFull, Work, ending, or_fault, or_made, or_stop, part_of, with_part, work_of}
use Rattle.gb_run.specs.WorkByChanges.{Increment, IsWorkByChanges, RunsByChanges}
use Rattle.gb_run.specs.Worked.{part_held}
use Rattle.gb_run.specs.declared.work.Part.{Part as HeldPart}
use Rattle.gb_run.proofs.Composed.{Ends, done_work_ends}
use Rattle.gb_run.proofs.Follows.{blamed_at, blamed_for, permitted}
use Rattle.gb_folder.proofs.Leading.{count_of}

both : (P : Call → Type 0) (xs ys : List Call) → AllByRecursion P xs → AllByRecursion P ys → AllByRecursion P (xs ++ ys)
both P [] ys first then = then
both P (x ∷ xs) ys first then = (first.0, both P xs ys first.1 then)

-- ---- over any folder

pub permitted_parts : (permit : Permit) (parts : List HeldPart) (calls : List Call) (lines : List Text) (result : Ending) → AllByRecursion (λ (p : HeldPart). AllByRecursion (λ (s : Step). permit s.0 s.1) p.steps.items) parts
    → DoesParts (map part_held parts) calls lines result → AllByRecursion (IsPermitted permit) calls
permitted_parts permit [] calls lines result all does = subst (λ (cs : List Call). AllByRecursion (IsPermitted permit) cs) (sym does.0) tt
permitted_parts permit (part ∷ parts) calls lines result all does =
    subst (λ (cs : List Call). AllByRecursion (IsPermitted permit) cs) (sym does.3)
    (both (IsPermitted permit) does.0 does.1 (permitted permit part.steps.items does.0 does.2 all.0 does.4) (on does.2 does.5 (λ more h. permitted_parts permit parts does.1 more result all.1 h)))
  where
    none : does.1 ≡ [] → AllByRecursion (IsPermitted permit) does.1
    none is = subst (λ (cs : List Call). AllByRecursion (IsPermitted permit) cs) (sym is) tt

    on : (t : Ending) → OrPrints t part.lines (λ more. DoesParts (map part_held parts) does.1 more result) does.1 lines result → ((more : List Text) → DoesParts (map part_held parts) does.1 more result → AllByRecursion (IsPermitted permit) does.1)
        → AllByRecursion (IsPermitted permit) does.1
    on (Ok d) (inl memory) goes = none memory.0
    on (Ok d) (inr printed) goes = goes printed.0 printed.2
    on (Err fault) ended goes = none ended.0

pub blamed_parts_at : (test : Place → Bool) (parts : List HeldPart) (calls : List Call) (lines : List Text) (result : Ending) → AllByRecursion (λ (p : HeldPart). AllByRecursion (λ (s : Step). IsTrue (test s.0)) p.steps.items) parts
    → DoesParts (map part_held parts) calls lines result → (place : Place) → result ≡ Err (faults.Device place) → IsTrue (test place)
blamed_parts_at test [] calls lines result all does place is = absurd (let e = sym does.2 ∙ is in (cc))
blamed_parts_at test (part ∷ parts) calls lines result all does place is = on does.2 does.4 does.5 (λ more h. blamed_parts_at test parts does.1 more result all.1 h place is)
  where
    on : (t : Ending) → Does part.steps.items does.0 t → OrPrints t part.lines (λ more. DoesParts (map part_held parts) does.1 more result) does.1 lines result → ((more : List Text) → DoesParts (map part_held parts) does.1 more result → IsTrue (test place))
        → IsTrue (test place)
    on (Ok d) first (inl memory) goes = absurd (let e = sym memory.2 ∙ is in (cc))
    on (Ok d) first (inr printed) goes = goes printed.0 printed.2
    on (Err fault) first ended goes = blamed_at test part.steps.items does.0 (Err fault) all.0 first place (sym ended.2 ∙ is)

module _ {F : Type 0} (device : Device F) where
  leads_then : (old new : F) (first later : List Call) → Leads device old (first ++ later) new → (mid : F) × Leads device old first mid × Leads device mid later new
  leads_then old new [] later led = (old, refl, led)
  leads_then old new (call ∷ first) later led = let rest = leads_then led.0 new first later led.2 in (rest.0, (led.0, led.1, rest.1), rest.2)

  -- what is known of the last state was known before
  pub known_before : (old new : F) (calls : List Call) → Leads device old calls new → device.faithful new → device.faithful old
  known_before old new [] led known = subst device.faithful led known
  known_before old new (call ∷ calls) led known = led.1.back (known_before led.0 new calls led.2 known)

  pub blamed_parts_for : (parts : List HeldPart) (calls : List Call) (lines : List Text) (result : Ending) (old new : F) → DoesParts (map part_held parts) calls lines result → Leads device old calls new
      → (place : Place) → result ≡ Err (faults.Device place) → HasRisen (device.failures old) (device.failures new)
  blamed_parts_for [] calls lines result old new does led place is = absurd (let e = sym does.2 ∙ is in (cc))
  blamed_parts_for (part ∷ parts) calls lines result old new does led place is =
      let here = leads_then old new does.0 does.1 (subst (λ (cs : List Call). Leads device old cs new) does.3 led) in
      on does.2 does.4 does.5 (λ more h. HasRisen-before (device.failures old) (device.failures here.0) (device.failures new) (count_of device old here.0 does.0 here.1) (count_of device here.0 new does.1 here.2)
      (blamed_parts_for parts does.1 more result here.0 new h here.2 place is))
    where
      halves : (mid : F) × Leads device old does.0 mid × Leads device mid does.1 new
      halves = leads_then old new does.0 does.1 (subst (λ (cs : List Call). Leads device old cs new) does.3 led)

      on : (t : Ending) → Does part.steps.items does.0 t → OrPrints t part.lines (λ more. DoesParts (map part_held parts) does.1 more result) does.1 lines result
          → ((more : List Text) → DoesParts (map part_held parts) does.1 more result → HasRisen (device.failures old) (device.failures new)) → HasRisen (device.failures old) (device.failures new)
      on (Ok d) first (inl memory) goes = absurd (let e = sym memory.2 ∙ is in (cc))
      on (Ok d) first (inr printed) goes = goes printed.0 printed.2
      on (Err fault) first ended goes =
          subst (λ (f : F). HasRisen (device.failures old) (device.failures f)) (sym (subst (λ (cs : List Call). Leads device halves.0 cs new) ended.0 halves.2))
          (blamed_for device part.steps.items does.0 (Err fault) old halves.0 first halves.1 place (sym ended.2 ∙ is))

-- the run's own fault is not the device's
pub device_alone : {X : Type 0} (result : Ending) (made : Result X Fault) (place : Place) → IfErr made (λ fault. (at : Place) → fault ≢ faults.Device at) → or_made result made ≡ Err (faults.Device place) → result ≡ Err (faults.Device place)
device_alone (Ok d) (Ok x) place other is = absurd (let e = is in (cc))
device_alone (Ok d) (Err fault) place other is = absurd (other place (let e = is in (cc)))
device_alone (Err fault) made place other is = let e = is in (cc)

-- ---- how it ends

-- the work does not depend on the rest of the folder
same_work : (kinds : Kinds) (task : Task) (trees : Trees) (changes : List Changes) (rest held : Files) (actions : List Action)
    → work_of (run_input kinds task trees changes []) held actions ≡ work_of (run_input kinds task trees changes rest) held actions
same_work kinds task trees changes rest held [] = refl
same_work kinds task trees changes rest held (action ∷ actions) = on (put_result task.outputs held (kinds.makes (kind_of action) action.args task.values trees)) (λ more. same_work kinds task trees changes rest more actions)
  where
    on : (r : Result Files (List Fault)) → ((more : Files) → work_of (run_input kinds task trees changes []) more actions ≡ work_of (run_input kinds task trees changes rest) more actions)
        → or_stop r (λ more. with_part (part_of (run_input kinds task trees changes []) action) (work_of (run_input kinds task trees changes []) more actions))
        ≡ or_stop r (λ more. with_part (part_of (run_input kinds task trees changes rest) action) (work_of (run_input kinds task trees changes rest) more actions))
    on (Ok more) same = ap (with_part (part_of (run_input kinds task trees changes []) action)) (same more)
    on (Err hindrances) same = refl

pub ran : (kinds : Kinds) (task : Task) (trees : Trees) (changes : List Changes) (may_leave : Tearing) (before after : ℕ) (old new : Contents) (calls : List Call) (parts slice : List HeldPart) (own : Option Fault)
    (said printed now : List Text) (result : Ending) → slice ≡ parts → record { parts = map part_held parts; fault = own } ≡ work_of (run_input kinds task trees changes []) [] task.actions
    → is_sorted byte_order old.files ≡ true → before ≤ after → ((place : Place) → result ≡ Err (faults.Device place) → HasRisen before after)
    → DoesParts (map part_held slice) calls printed result → AnswersAll may_leave old calls new → said ≡ [] → now ≡ said ++ printed
    → Ends (run_input kinds task trees changes old.files) InFull may_leave before after result own now new.files
ran kinds task trees changes may_leave before after old new calls parts slice own said printed now result same work sorted rises risen does all silent prints =
    subst (λ (ls : List Text). Ends (run_input kinds task trees changes old.files) InFull may_leave before after result own ls new.files) (sym (prints ∙ ap (λ (ls : List Text). ls ++ printed) silent))
    (subst (λ (w : Work). Ends (run_input kinds task trees changes old.files) InFull may_leave before after result w.fault printed new.files) (sym is)
    (done_work_ends may_leave (run_input kinds task trees changes old.files) before after old new calls printed result sorted refl rises risen
    (subst (λ (w : Work). DoesParts w.parts calls printed result) is (subst (λ (ps : List HeldPart). DoesParts (map part_held ps) calls printed result) same does)) all))
  where
    is : record { parts = map part_held parts; fault = own } ≡ work_of (run_input kinds task trees changes old.files) [] task.actions
    is = work ∙ same_work kinds task trees changes old.files [] task.actions

module _ {X : Type 0} (input : RunInput) (mode : RunMode) (may_leave : Tearing) (before after : ℕ) (lines : List Text) (new : Files) where
  pub ended_well : (result : Ending) (made : Result X Fault) → Ends input mode may_leave before after result (result_err made) lines new → OnOk (or_made result made) (EndsWell input lines new)
  ended_well (Ok d) (Ok x) ends = ends
  ended_well (Ok d) (Err fault) ends = tt
  ended_well (Err fault) made ends = tt

  pub ended_badly : (result : Ending) (made : Result X Fault) → Ends input mode may_leave before after result (result_err made) lines new → IfErr (or_made result made) (λ fault. Fails input mode may_leave before fault lines after new)
  ended_badly (Ok d) (Ok x) ends = tt
  ended_badly (Ok d) (Err fault) ends = ends
  ended_badly (Err fault) made ends = ends

-- ---- what it returns

ending_is : {X : Type 0} (done : Ending) (made : Result X Fault) → ending (or_made done made) ≡ or_fault done (result_err made)
ending_is (Ok d) (Ok x) = refl
ending_is (Ok d) (Err fault) = refl
ending_is (Err fault) made = refl

pub if_made : {X : Type 0} (P : X → Type 0) (done : Ending) (made : Result X Fault) → IfOk made P → IfOk (or_made done made) P
if_made P (Ok d) made is = is
if_made P (Err fault) made is = tt

pub runs_so : {X : Type 0} (input : RunInput) (calls : List Call) (parts slice : List HeldPart) (made : Result X Fault) (said printed now : List Text) (done : Ending) → slice ≡ parts
    → record { parts = map part_held parts; fault = result_err made } ≡ work_of input [] input.task.actions → DoesParts (map part_held slice) calls printed done → said ≡ [] → now ≡ said ++ printed
    → RunsInFull input calls now (ending (or_made done made))
runs_so input calls parts slice made said printed now done same work does silent prints =
    subst (λ (ls : List Text). RunsInFull input calls ls (ending (or_made done made))) (sym (prints ∙ ap (λ (ls : List Text). ls ++ printed) silent)) (inr (
      done,
      subst (λ (w : Work). DoesParts w.parts calls printed done) work (subst (λ (ps : List HeldPart). DoesParts (map part_held ps) calls printed done) same does),
      ending_is done made ∙ ap (λ (w : Work). or_fault done w.fault) work,
    ))

pub parts_so : (said printed now : List Text) → said ≡ [] → now ≡ said ++ printed → now ≡ printed
parts_so said printed now silent prints = prints ∙ ap (λ (ls : List Text). ls ++ printed) silent

pub runs_by : {X : Type 0} (run : Increment) (calls : List Call) (parts slice : List HeldPart) (made : Result X Fault) (said printed now : List Text) (done : Ending) → slice ≡ parts
    → IsWorkByChanges run (record { parts = map part_held parts; fault = result_err made }) → DoesParts (map part_held slice) calls printed done → said ≡ [] → now ≡ said ++ printed
    → RunsByChanges run calls now (ending (or_made done made))
runs_by run calls parts slice made said printed now done same work does silent prints =
    subst (λ (ls : List Text). RunsByChanges run calls ls (ending (or_made done made))) (sym (parts_so said printed now silent prints)) (inr (
      record { parts = map part_held parts; fault = result_err made },
      work,
      done,
      subst (λ (ps : List HeldPart). DoesParts (map part_held ps) calls printed done) same does,
      ending_is done made,
    ))
