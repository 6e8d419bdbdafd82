-- The notifications of one report more.
use Rattle.std.specs.Prelude.{ℕ, ◌≡◌, true, false, cond, List, [], ◌∷◌, ◌++◌}
use Rattle.std.specs.List.{AllZip}
use Rattle.std.proofs.Common.{refl, ap, sym, ◌∙◌}
use Rattle.std.proofs.lemmas.Grind.{flat_map-append}
use Rattle.gb_exec.specs.Notifying.{AllReported}
use Rattle.gb_exec.proofs.Counts.{counted_none}
use Rattle.gb_semantics.specs.Headline.{Ear, HearsAll, HearsSome}
use Rattle.gb_semantics.specs.Execution.{heard_of}
use Rattle.gb_report.specs.Outcome.{is_started}
use Rattle.gb_report.specs.declared.report.Heard.{Heard}
use Rattle.gb_report.specs.declared.report.Heard.TheVariants as heard
use Rattle.gb_report.specs.declared.report.TaskReport.{TaskReport}

nothing_more : (xs : List Heard) → xs ≡ xs ++ []
nothing_more [] = refl
nothing_more (x ∷ xs) = ap (λ (ys : List Heard). x ∷ ys) (nothing_more xs)

all_heard : (ears : List Ear) → AllZip (HearsAll []) ears ears
all_heard [] = tt
all_heard (ear ∷ ears) = (ap (λ (xs : List Heard). (xs, ear.1)) (nothing_more ear.0), all_heard ears)

each_reported : (ears : List Ear) → AllZip (HearsSome []) ears ears
each_reported [] = tt
each_reported (ear ∷ ears) = (
  ([], refl, ap (λ (xs : List Heard). (xs, ear.1)) (nothing_more ear.0) ∙ ap (λ (n : ℕ). (ear.0 ++ [], n)) (sym (counted_none ear.1))),
  each_reported ears,
)

-- where there is nothing to notify of, all were notified
pub unnotified : (ears : List Ear) → AllReported [] true ears ears
unnotified ears = record { each = each_reported ears; whole = (λ _. all_heard ears, λ _. refl) }

pub heard_passed : (report : TaskReport) → is_started report.outcome ≡ false → heard_of false (report ∷ []) ≡ []
heard_passed report e = ap (λ b. cond b (heard.Start report.path ∷ heard.End report.path report.outcome ∷ []) [] ++ []) e

pub heard_started : (report : TaskReport) → is_started report.outcome ≡ true → heard_of false (report ∷ []) ≡ heard.Start report.path ∷ heard.End report.path report.outcome ∷ []
heard_started report e = ap (λ b. cond b (heard.Start report.path ∷ heard.End report.path report.outcome ∷ []) [] ++ []) e

pub heard_more : (done : List TaskReport) (report : TaskReport) → heard_of false (done ++ report ∷ []) ≡ heard_of false done ++ heard_of false (report ∷ [])
heard_more done report =
    flat_map-append (λ (r : TaskReport). cond (is_started r.outcome) (heard.Start r.path ∷ heard.End r.path r.outcome ∷ []) []) done (report ∷ [])
