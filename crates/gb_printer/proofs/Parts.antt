-- The text of a report is its parts, and then the rest.
use Rattle.std.proofs.Common.{◌≤◌, arith, length-append, ◌≡◌, ◌++◌, ℕ, Bool, true, false, cond, List, [], length, drop, ap, refl, ◌∙◌, append_assoc}
use Rattle.std.proofs.Math.Seq.{drop-append_seam}
use Rattle.std.specs.List.{flat_map}
use Rattle.gb_report.specs.Outcome.{is_successful}
use Rattle.gb_report.specs.Report.{dry_text, failure_text, refusal_text, report_text, result_text, summary, task_text}
use Rattle.gb_report.specs.declared.report.Report.{Report}
use Rattle.gb_printer.specs.Printing.{parts_text, rest_text}

-- five texts, one after another
five : (a b c d e : List ℕ) → ((((a ++ b) ++ c) ++ d) ++ e) ≡ a ++ (((b ++ c) ++ d) ++ e)
five a b c d e =
    ap (λ (l : List ℕ). (l ++ d) ++ e) (append_assoc a b c)
    ∙ ap (λ (l : List ℕ). l ++ e) (append_assoc a (b ++ c) d)
    ∙ append_assoc a ((b ++ c) ++ d) e

pub in_parts : (report : Report) → report_text report ≡ parts_text report ++ rest_text report
in_parts report =
    let parts = flat_map task_text report.tasks in
    let failures = flat_map (λ task. failure_text task.path task.outcome) report.tasks in
    let refusal = refusal_text report.listener_refused in
    let ended = result_text (is_successful report) in
    let last = summary report.tasks in
    elim report.dry_run as (λ (dry : Bool). cond dry (dry_text report.tasks) ((((parts ++ failures) ++ refusal) ++ ended) ++ last)
    ≡ cond dry [] parts ++ cond dry (dry_text report.tasks) (((failures ++ refusal) ++ ended) ++ last)) [
      | true ↦ refl
      | false ↦ five parts failures refusal ended last
    ]

pub following : (report : Report) → drop (length (parts_text report)) (report_text report) ≡ rest_text report
following report = ap (λ (l : List ℕ). drop (length (parts_text report)) l) (in_parts report) ∙ drop-append_seam (parts_text report) (rest_text report)

pub parts_fit : (report : Report) → length (parts_text report) ≤ length (report_text report)
parts_fit report = omega (arith, ap (λ (l : List ℕ). length l) (in_parts report), length-append (parts_text report) (rest_text report))
