-- What follows from steps that were done: over any folder, and over contents that answer as the calls were
-- answered.
use Rattle.std.specs.Prelude.{◌≡◌, ◌⊎◌, Bool, List, [], ◌∷◌, Some, None, Ok, Err, IsTrue}
use Rattle.std.specs.List.{AllByRecursion}
use Rattle.std.proofs.Common.{refl, sym, ap, subst, ◌∙◌, inl, inr, arith}
use Rattle.gb_folder.specs.Calls.{Call, IsPermitted, Permit, fault_of}
use Rattle.gb_folder.specs.Files.{Contents, HasRisen, IsFolder, Place, Tearing}
use Rattle.gb_folder.specs.declared.folder.FolderFault.TheVariants as folders
use Rattle.gb_folder.proofs.Changes.{HasRisen-before}
use Rattle.gb_report.specs.declared.fault.Fault.{Fault}
use Rattle.gb_report.specs.declared.fault.Fault.TheVariants as faults
use Rattle.gb_folder.specs.Changes.{IsHindered}
use Rattle.gb_folder.proofs.Emptied.{blocked_none, without_none}
use Rattle.gb_run.specs.Steps.{Step, folder_after}
use Rattle.gb_run.specs.Stepping.{HasRoom, IsCutShort, IsFree, IsShutOut, IsSmall}
use Rattle.gb_folder.specs.Semantics.{Answer, Answers, AnswersAll}
use Rattle.gb_folder.specs.Calls.{Device}
use Rattle.gb_folder.specs.Device.{Leads}
use Rattle.gb_run.specs.Doing.{Does, OrEnds, Ending, call_of, ending_of}
use Rattle.gb_folder.proofs.Leading.{count_of}

-- ---- what the calls are

step_permitted : (permit : Permit) (step : Step) (answer : Answer) → permit step.0 step.1 → IsPermitted permit (call_of step answer)
step_permitted permit (place, None) answer may = may
step_permitted permit (place, Some bytes) answer may = may

-- the very bytes of these steps, and no others
pub permitted : (permit : Permit) (steps : List Step) (calls : List Call) (result : Ending) → AllByRecursion (λ (s : Step). permit s.0 s.1) steps → Does steps calls result → AllByRecursion (IsPermitted permit) calls
permitted permit [] calls result all does = subst (λ (cs : List Call). AllByRecursion (IsPermitted permit) cs) (sym does.0) tt
permitted permit (step ∷ steps) calls result all (inl memory) = subst (λ (cs : List Call). AllByRecursion (IsPermitted permit) cs) (sym memory.0) tt
permitted permit (step ∷ steps) calls result all (inr allowed) =
    subst (λ (cs : List Call). AllByRecursion (IsPermitted permit) cs) (sym allowed.2) (step_permitted permit step allowed.0 all.0, on (ending_of step allowed.0) allowed.3 (λ h. permitted permit steps allowed.1 result all.1 h))
  where
    on : (t : Ending) → OrEnds t (Does steps allowed.1 result) allowed.1 result → (Does steps allowed.1 result → AllByRecursion (IsPermitted permit) allowed.1) → AllByRecursion (IsPermitted permit) allowed.1
    on (Ok d) h goes = goes h
    on (Err fault) h goes = subst (λ (cs : List Call). AllByRecursion (IsPermitted permit) cs) (sym h.0) tt

-- ---- attribution of faults

device_ending : (step : Step) (answer : Answer) (place : Place) → ending_of step answer ≡ Err (faults.Device place) → (fault_of (call_of step answer) ≡ Some folders.Device) × (step.0 ≡ place)
device_ending (at, None) (Ok done) place is = absurd (let e = is in (cc))
device_ending (at, None) (Err folders.OutOfMemory) place is = absurd (let e = is in (cc))
device_ending (at, None) (Err folders.Device) place is = (refl, let e = is in (cc))
device_ending (at, None) (Err folders.Missing) place is = absurd (let e = is in (cc))
device_ending (at, None) (Err folders.Blocked) place is = absurd (let e = is in (cc))
device_ending (at, None) (Err folders.TooLarge) place is = absurd (let e = is in (cc))
device_ending (at, None) (Err folders.BadFileName) place is = absurd (let e = is in (cc))
device_ending (at, Some bytes) (Ok done) place is = absurd (let e = is in (cc))
device_ending (at, Some bytes) (Err folders.OutOfMemory) place is = absurd (let e = is in (cc))
device_ending (at, Some bytes) (Err folders.Device) place is = (refl, let e = is in (cc))
device_ending (at, Some bytes) (Err folders.Missing) place is = absurd (let e = is in (cc))
device_ending (at, Some bytes) (Err folders.Blocked) place is = absurd (let e = is in (cc))
device_ending (at, Some bytes) (Err folders.TooLarge) place is = absurd (let e = is in (cc))
device_ending (at, Some bytes) (Err folders.BadFileName) place is = absurd (let e = is in (cc))

-- a fault is attributed to the device only at a place of these steps
pub blamed_at : (test : Place → Bool) (steps : List Step) (calls : List Call) (result : Ending) → AllByRecursion (λ (s : Step). IsTrue (test s.0)) steps → Does steps calls result → (place : Place) → result ≡ Err (faults.Device place) → IsTrue (test place)
blamed_at test [] calls result all does place is = absurd (let e = does.1 in (cc))
blamed_at test (step ∷ steps) calls result all (inl memory) place is = absurd (let e = memory.1 in (cc))
blamed_at test (step ∷ steps) calls result all (inr allowed) place is = on (ending_of step allowed.0) refl allowed.3 (λ h. blamed_at test steps allowed.1 result all.1 h place is)
  where
    on : (t : Ending) → ending_of step allowed.0 ≡ t → OrEnds t (Does steps allowed.1 result) allowed.1 result → (Does steps allowed.1 result → IsTrue (test place)) → IsTrue (test place)
    on (Ok d) same h goes = goes h
    on (Err fault) same h goes = subst (λ (p : Place). IsTrue (test p)) (device_ending step allowed.0 place (same ∙ sym h.1 ∙ is)).1 all.0

-- and only where it failed
module _ {F : Type 0} (device : Device F) where
  pub blamed_for : (steps : List Step) (calls : List Call) (result : Ending) (old new : F) → Does steps calls result → Leads device old calls new → (place : Place) → result ≡ Err (faults.Device place) → HasRisen (device.failures old) (device.failures new)
  blamed_for [] calls result old new does led place is = absurd (let e = does.1 in (cc))
  blamed_for (step ∷ steps) calls result old new (inl memory) led place is = absurd (let e = memory.1 in (cc))
  blamed_for (step ∷ steps) calls result old new (inr allowed) led place is =
      let here = subst (λ (cs : List Call). Leads device old cs new) allowed.2 led in
      on (ending_of step allowed.0) refl allowed.3 (λ h. HasRisen-before (device.failures old) (device.failures here.0) (device.failures new) here.1.count (count_of device here.0 new allowed.1 here.2)
      (blamed_for steps allowed.1 result here.0 new h here.2 place is))
    where
      here : Leads device old (call_of step allowed.0 ∷ allowed.1) new
      here = subst (λ (cs : List Call). Leads device old cs new) allowed.2 led

      on : (t : Ending) → ending_of step allowed.0 ≡ t → OrEnds t (Does steps allowed.1 result) allowed.1 result → (Does steps allowed.1 result → HasRisen (device.failures old) (device.failures new)) → HasRisen (device.failures old) (device.failures new)
      on (Ok d) same h goes = goes h
      on (Err fault) same h goes =
          subst (λ (f : F). HasRisen (device.failures old) (device.failures f)) (sym (subst (λ (cs : List Call). Leads device here.0 cs new) h.0 here.2))
          (here.1.risen (device_ending step allowed.0 place (same ∙ sym h.1 ∙ is)).0)

-- ---- what is left

module _ (may_leave : Tearing) where
  one_done : (step : Step) (answer : Answer) (old mid : Contents) → IsFolder old.files → ending_of step answer ≡ Ok tt → Answers may_leave old (call_of step answer) mid → (mid ≡ folder_after old (step ∷ [])) × IsFree old.files step
  one_done (place, None) (Ok done) old mid sound is answers = (answers.1, tt)
  one_done (place, None) (Err folders.OutOfMemory) old mid sound is answers = absurd (let e = is in (cc))
  one_done (place, None) (Err folders.Device) old mid sound is answers = absurd (let e = is in (cc))
  one_done (place, None) (Err folders.Missing) old mid sound is answers = (answers.2 ∙ ap (λ fs. record old { files = fs }) (sym (without_none old.files place sound answers.0)), tt)
  one_done (place, None) (Err folders.Blocked) old mid sound is answers =
      (answers.1 ∙ ap (λ fs. record old { files = fs }) (sym (without_none old.files place sound (blocked_none old.files place sound answers.0))), tt)
  one_done (place, None) (Err folders.TooLarge) old mid sound is answers = absurd answers
  one_done (place, None) (Err folders.BadFileName) old mid sound is answers = absurd answers
  one_done (place, Some bytes) (Ok done) old mid sound is answers = (answers.2, answers.0)
  one_done (place, Some bytes) (Err fault) old mid sound is answers = absurd (let e = is in (cc))

  one_stopped : (step : Step) (answer : Answer) (old mid : Contents) (fault : Fault) → IsSmall step → ending_of step answer ≡ Err fault → Answers may_leave old (call_of step answer) mid
      → IsShutOut step old fault mid ⊎ IsHindered may_leave step.0 step.1 old fault mid
  one_stopped (place, None) (Ok done) old mid fault small is answers = absurd (let e = is in (cc))
  one_stopped (place, None) (Err folders.OutOfMemory) old mid fault small is answers = inr (inl (let e = is in (cc), answers))
  one_stopped (place, None) (Err folders.Device) old mid fault small is answers = inr (inr (let e = is in (cc), answers))
  one_stopped (place, None) (Err folders.Missing) old mid fault small is answers = absurd (let e = is in (cc))
  one_stopped (place, None) (Err folders.Blocked) old mid fault small is answers = absurd (let e = is in (cc))
  one_stopped (place, None) (Err folders.TooLarge) old mid fault small is answers = absurd answers
  one_stopped (place, None) (Err folders.BadFileName) old mid fault small is answers = absurd answers
  one_stopped (place, Some bytes) (Ok done) old mid fault small is answers = absurd (let e = is in (cc))
  one_stopped (place, Some bytes) (Err folders.OutOfMemory) old mid fault small is answers = inr (inl (let e = is in (cc), answers))
  one_stopped (place, Some bytes) (Err folders.Device) old mid fault small is answers = inr (inr (let e = is in (cc), answers))
  one_stopped (place, Some bytes) (Err folders.Missing) old mid fault small is answers = absurd answers
  one_stopped (place, Some bytes) (Err folders.Blocked) old mid fault small is answers = inl (record { comes = refl; blocked = answers.0; reported = let e = is in (cc); same = answers.1 })
  one_stopped (place, Some bytes) (Err folders.TooLarge) old mid fault small is answers = absurd (omega (arith, small, answers.0))
  one_stopped (place, Some bytes) (Err folders.BadFileName) old mid fault small is answers = absurd answers

  -- all were done
  pub leaves : (steps : List Step) (calls : List Call) (old new : Contents) → Does steps calls (Ok tt) → AnswersAll may_leave old calls new → (new ≡ folder_after old steps) × HasRoom old.files steps
  leaves [] calls old new does all = (subst (λ (cs : List Call). AnswersAll may_leave old cs new) does.0 all, tt)
  leaves (step ∷ steps) calls old new (inl memory) all = absurd (let e = memory.1 in (cc))
  leaves (step ∷ steps) calls old new (inr allowed) all =
      let here = subst (λ (cs : List Call). AnswersAll may_leave old cs new) allowed.2 all in
      on (ending_of step allowed.0) refl allowed.3 (λ h. leaves steps allowed.1 here.1.0 new h here.1.2)
    where
      here : AnswersAll may_leave old (call_of step allowed.0 ∷ allowed.1) new
      here = subst (λ (cs : List Call). AnswersAll may_leave old cs new) allowed.2 all

      on : (t : Ending) → ending_of step allowed.0 ≡ t → OrEnds t (Does steps allowed.1 (Ok tt)) allowed.1 (Ok tt) → (Does steps allowed.1 (Ok tt) → (new ≡ folder_after here.1.0 steps) × HasRoom here.1.0.files steps)
          → (new ≡ folder_after old (step ∷ steps)) × HasRoom old.files (step ∷ steps)
      on (Ok d) same h goes =
          let one = one_done step allowed.0 old here.1.0 here.0 same here.1.1 in
          let rest = goes h in
          (rest.0 ∙ ap (λ (f : Contents). folder_after f steps) one.0, (one.1, subst (λ (f : Contents). HasRoom f.files steps) one.0 rest.1))
      on (Err fault) same h goes = absurd (let e = h.1 in (cc))

  -- a prefix of them was done, and the next was shut out, or failed by the machine
  pub cut_short : (steps : List Step) (calls : List Call) (old new : Contents) (fault : Fault) → AllByRecursion IsSmall steps → Does steps calls (Err fault) → AnswersAll may_leave old calls new → IsCutShort may_leave steps old fault new
  cut_short [] calls old new fault small does all = absurd (let e = does.1 in (cc))
  cut_short (step ∷ steps) calls old new fault small (inl memory) all = record {
    prefix = [];
    step = step;
    following = steps;
    all = refl;
    room = tt;
    stopped = inr (inl (let e = memory.1 in (cc), subst (λ (cs : List Call). AnswersAll may_leave old cs new) memory.0 all));
  }
  cut_short (step ∷ steps) calls old new fault small (inr allowed) all =
      let here = subst (λ (cs : List Call). AnswersAll may_leave old cs new) allowed.2 all in
      on (ending_of step allowed.0) refl allowed.3 (λ h. cut_short steps allowed.1 here.1.0 new fault small.1 h here.1.2)
    where
      here : AnswersAll may_leave old (call_of step allowed.0 ∷ allowed.1) new
      here = subst (λ (cs : List Call). AnswersAll may_leave old cs new) allowed.2 all

      on : (t : Ending) → ending_of step allowed.0 ≡ t → OrEnds t (Does steps allowed.1 (Err fault)) allowed.1 (Err fault) → (Does steps allowed.1 (Err fault) → IsCutShort may_leave steps here.1.0 fault new) → IsCutShort may_leave (step ∷ steps) old fault new
      on (Ok d) same h goes =
          let one = one_done step allowed.0 old here.1.0 here.0 same here.1.1 in
          let rest = subst (λ (f : Contents). IsCutShort may_leave steps f fault new) one.0 (goes h) in
          record {
            prefix = step ∷ rest.prefix;
            step = rest.step;
            following = rest.following;
            all = ap (λ (ss : List Step). step ∷ ss) rest.all;
            room = (one.1, rest.room);
            stopped = rest.stopped;
          }
      on (Err other) same h goes =
          record {
            prefix = [];
            step = step;
            following = steps;
            all = refl;
            room = tt;
            stopped = one_stopped step allowed.0 old new fault small.0 (same ∙ sym h.1)
                (subst (λ (f : Contents). Answers may_leave old (call_of step allowed.0) f) (sym (subst (λ (cs : List Call). AnswersAll may_leave here.1.0 cs new) h.0 here.1.2)) here.1.1);
          }
