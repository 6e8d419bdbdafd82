-- How often an invocation attributes a fault to the device, compared with how often the device failed.
use Rattle.std.specs.Prelude.{ℕ, ◌≡◌, ◌≤◌, ◌⊎◌, Bool, false, List, cond, Err, Result}
use Rattle.std.proofs.Common.{refl, sym, ap, ◌∙◌, subst, inl, inr, arith}
use Rattle.gb_folder.specs.Files.{HasRisen}
use Rattle.gb_semantics.specs.Headline.{HasFailed, answer_of, is_of_device, times_attributed}
use Rattle.gb_report.specs.declared.fault.Fault.{Fault}
use Rattle.gb_report.specs.declared.fault.Fault.TheVariants as faults
use Rattle.gb_report.specs.declared.report.Report.{Report}
use Rattle.gb_folder.specs.Faults.{Blames}

abbrev RefusedFails : Fault → ℕ → ℕ → Type 0
RefusedFails fault before after = HasFailed (times_attributed (answer_of (Err fault))) before after

unblamed : (fault : Fault) (before after : ℕ) → before ≤ after → is_of_device fault ≡ false → RefusedFails fault before after
unblamed fault before after count none = subst (λ (b : Bool). HasFailed (cond b 1 0) before after) (sym none) (inl (omega (arith, count)))

pub risen_once : (before after : ℕ) → before ≤ after → HasRisen before after → HasFailed 1 before after
risen_once before after count (inl more) = inl (omega (arith, more))
risen_once before after count (inr last) = inr (omega (arith, count, last))

-- a fault is the device's, or it is not
device_or_not : (fault : Fault) → ((place : List ℕ) × (fault ≡ faults.Device place)) ⊎ (is_of_device fault ≡ false)
device_or_not (faults.Device place) = inl (place, refl)
device_or_not other = inr refl

-- a result that is an error attributes what its fault does
reported_so : (result : Result Report Fault) (fault : Fault) (before after : ℕ) → result ≡ Err fault → RefusedFails fault before after → HasFailed (times_attributed (answer_of result)) before after
reported_so result fault before after is fails = subst (λ (r : Result Report Fault). HasFailed (times_attributed (answer_of r)) before after) (sym is) fails

-- where memory ran out, no fault is attributed to the device
pub memory_blames_none : (result : Result Report Fault) (fault : Fault) (before after : ℕ) → before ≤ after → result ≡ Err fault → fault ≡ faults.OutOfMemory
    → HasFailed (times_attributed (answer_of result)) before after
memory_blames_none result fault before after count is out = reported_so result fault before after is (unblamed fault before after count (ap is_of_device out))

-- where scripts could not be read, a fault is attributed to the device at most once, and then the device
-- failed
pub reading_fails : {X : Type 0} (read : Result X Fault) (fault reported : Fault) (before after : ℕ) → before ≤ after → read ≡ Err fault → reported ≡ fault → Blames read before after
    → (result : Result Report Fault) → result ≡ Err reported → HasFailed (times_attributed (answer_of result)) before after
reading_fails read fault reported before after count was same blames result is = reported_so result reported before after is (elim (device_or_not fault) [
  | inl device ↦
      subst (λ (b : Bool). HasFailed (cond b 1 0) before after) (sym (ap is_of_device (same ∙ device.1))) (risen_once before after count (blames device.0 (was ∙ ap Err device.1)))
  | inr none ↦ unblamed reported before after count (ap is_of_device same ∙ none)
])

-- what failed since later failed since before
pub failed_since : (times before later after : ℕ) → before ≤ later → HasFailed times later after → HasFailed times before after
failed_since times before later after earlier (inl more) = inl (omega (arith, earlier, more))
failed_since times before later after earlier (inr last) = inr last
