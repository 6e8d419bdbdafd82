-- How often events attribute faults to the device.
use Rattle.std.specs.Prelude.{ℕ, ◌≡◌, ◌≤◌, ◌+◌, ◌++◌, List, [], ◌∷◌, Ok, Err}
use Rattle.std.proofs.Common.{arith, refl, sym, subst, inl, inr}
use Rattle.gb_semantics.specs.declared.events.Answer.{Answer}
use Rattle.gb_semantics.specs.Headline.{HasFailed, times_attributed, times_attributed_in_all}
use Rattle.gb_report.specs.declared.fault.Fault.TheVariants as faults
use Rattle.gb_folder.specs.Faults.{Blames}
use Rattle.gb_build.specs.Answers.{Edit, edit_answer}
use Rattle.gb_build.proofs.Blamed.{risen_once}

sum_more : (reported : List Answer) (answer : Answer) → times_attributed_in_all (reported ++ answer ∷ []) ≡ times_attributed_in_all reported + times_attributed answer
sum_more [] answer = omega arith
sum_more (a ∷ reported) answer = let rest = sum_more reported answer in omega arith

failed_more : (first second third m n : ℕ) → HasFailed m first second → HasFailed n second third → second ≤ third → HasFailed (m + n) first third
failed_more first second third m n (inl a) (inl b) le = inl (omega arith)
failed_more first second third m n (inl a) (inr b) le = inr b
failed_more first second third m n (inr a) b le = inr (omega arith)

-- with one answer more, faults are attributed as often more as that answer does
pub blamed_more : (reported : List Answer) (answer : Answer) (first second third : ℕ) → HasFailed (times_attributed_in_all reported) first second → HasFailed (times_attributed answer) second third → second ≤ third
    → HasFailed (times_attributed_in_all (reported ++ answer ∷ [])) first third
blamed_more reported answer first second third a b le =
    subst (λ n. HasFailed n first third) (sym (sum_more reported answer)) (failed_more first second third (times_attributed_in_all reported) (times_attributed answer) a b le)

-- an edit that attributes a fault to the device only where the device failed
pub edit_blames : (edit : Edit) (before after : ℕ) → before ≤ after → Blames edit before after → HasFailed (times_attributed (edit_answer edit)) before after
edit_blames (Ok done) before after count blames = inl (omega arith)
edit_blames (Err (faults.Device place)) before after count blames = risen_once before after count (blames place refl)
edit_blames (Err other) before after count blames = inl (omega arith)
