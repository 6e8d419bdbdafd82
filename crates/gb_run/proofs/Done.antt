-- Steps done one after another.
use Rattle.std.specs.Prelude.{ℕ, ◌≡◌, ◌<◌, ◌+◌, ◌++◌, List, [], ◌∷◌, Ok, Err, length, get_or, take, drop}
use Rattle.std.proofs.Common.{refl, sym, ap, subst, ◌∙◌, inl, inr}
use Rattle.std.proofs.lemmas.List.{take-append-drop, take_more}
use Rattle.gb_folder.specs.Calls.{Call}
use Rattle.gb_report.specs.declared.fault.Fault.{Fault}
use Rattle.gb_folder.proofs.Loops.{step_here}
use Rattle.gb_run.specs.Steps.{Step}
use Rattle.gb_folder.specs.Semantics.{Answer}
use Rattle.gb_folder.specs.Calls.{Device}
use Rattle.gb_folder.specs.Device.{Leads}
use Rattle.gb_run.specs.Doing.{Does, OrEnds, Ending, Tried, call_of, ending_of}
use Rattle.gb_folder.proofs.Leading.{leads_on, leads_once}

-- these steps and then those
pub does_then : (prefix following : List Step) (done last : List Call) (result : Ending) → Does prefix done (Ok tt) → Does following last result → Does (prefix ++ following) (done ++ last) result
does_then [] following done last result first more = subst (λ (calls : List Call). Does following (calls ++ last) result) (sym first.0) more
does_then (step ∷ prefix) following done last result (inl memory) more = absurd (let e = memory.1 in (cc))
does_then (step ∷ prefix) following done last result (inr allowed) more =
    inr (allowed.0, allowed.1 ++ last, ap (λ (calls : List Call). calls ++ last) allowed.2, on (ending_of step allowed.0) allowed.3 (λ h. does_then prefix following allowed.1 last result h more))
  where
    on : (t : Ending) → OrEnds t (Does prefix allowed.1 (Ok tt)) allowed.1 (Ok tt) → (Does prefix allowed.1 (Ok tt) → Does (prefix ++ following) (allowed.1 ++ last) result) → OrEnds t (Does (prefix ++ following) (allowed.1 ++ last) result) (allowed.1 ++ last) result
    on (Ok d) h goes = goes h
    on (Err fault) h goes = absurd (let e = h.1 in (cc))

-- one that was refused is the last
ends_then : (step : Step) (later : List Step) (calls : List Call) (fault : Fault) → Does (step ∷ []) calls (Err fault) → Does (step ∷ later) calls (Err fault)
ends_then step later calls fault (inl memory) = inl memory
ends_then step later calls fault (inr allowed) = inr (allowed.0, allowed.1, allowed.2, on (ending_of step allowed.0) allowed.3)
  where
    on : (t : Ending) → OrEnds t (Does [] allowed.1 (Err fault)) allowed.1 (Err fault) → OrEnds t (Does later allowed.1 (Err fault)) allowed.1 (Err fault)
    on (Ok d) h = absurd (let e = h.1 in (cc))
    on (Err other) h = h

one_asked : (step : Step) (answer : Answer) (result : Ending) → result ≡ ending_of step answer → Does (step ∷ []) (call_of step answer ∷ []) result
one_asked step answer result is = inr (answer, [], refl, on (ending_of step answer) is)
  where
    on : (t : Ending) → result ≡ t → OrEnds t (Does [] [] result) [] result
    on (Ok d) same = (refl, same)
    on (Err fault) same = (refl, same)

module _ {F : Type 0} (device : Device F) where
  -- these steps were tried
  abbrev pub Led : List Step → F → Ending → F → Type 0
  Led steps old result new = (calls : List Call) × Leads device old calls new × Does steps calls result

  pub of_tried : (step : Step) (old : F) (result : Ending) (new : F) → Tried device step old result new → Led (step ∷ []) old result new
  of_tried step old result new (inl memory) = ([], memory.1, inl (refl, memory.0))
  of_tried step old result new (inr allowed) = (call_of step allowed.0 ∷ [], leads_once device old new (call_of step allowed.0) allowed.1, one_asked step allowed.0 result allowed.2)

  led_then : (prefix following : List Step) (old mid new : F) (result : Ending) → Led prefix old (Ok tt) mid → Led following mid result new → Led (prefix ++ following) old result new
  led_then prefix following old mid new result first more =
      (first.0 ++ more.0, leads_on device old mid new first.0 more.0 first.1 more.1, does_then prefix following first.0 more.0 result first.2 more.2)

  module _ (steps : List Step) (i : ℕ) (step : Step) (within : i < length steps) (is : step ≡ get_or steps i step) (old mid new : F) where
    pub led_more : Led (take i steps) old (Ok tt) mid → Tried device step mid (Ok tt) new → Led (take (i + 1) steps) old (Ok tt) new
    led_more first tried =
        subst (λ (ss : List Step). Led ss old (Ok tt) new) (ap (λ (s : Step). take i steps ++ s ∷ []) is ∙ sym (take_more steps i step within))
        (led_then (take i steps) (step ∷ []) old mid new (Ok tt) first (of_tried step mid (Ok tt) new tried))

    pub led_short : (fault : Fault) → Led (take i steps) old (Ok tt) mid → Tried device step mid (Err fault) new → Led steps old (Err fault) new
    led_short fault first tried =
        let one = of_tried step mid (Err fault) new tried in
        subst (λ (ss : List Step). Led ss old (Err fault) new) (sym (sym (take-append-drop i steps) ∙ step_here (λ (rest : List Step). take i steps ++ rest) steps i step within is))
        (led_then (take i steps) (step ∷ drop (i + 1) steps) old mid new (Err fault) first (one.0, one.1, ends_then step (drop (i + 1) steps) one.0 fault one.2))
