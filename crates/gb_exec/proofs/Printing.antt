-- What is printed of one report more.
use Rattle.std.specs.Prelude.{ℕ, ◌≡◌, List, [], ◌∷◌, ◌++◌}
use Rattle.std.specs.List.{flat_map}
use Rattle.std.proofs.Common.{ap, append-nil, ◌∙◌}
use Rattle.std.proofs.lemmas.Grind.{flat_map-append}
use Rattle.gb_report.specs.Report.{task_text}
use Rattle.gb_report.specs.declared.report.TaskReport.{TaskReport}

pub parts_more : (done : List TaskReport) (report : TaskReport) → flat_map task_text (done ++ report ∷ []) ≡ flat_map task_text done ++ task_text report
parts_more done report =
    flat_map-append task_text done (report ∷ []) ∙ ap (λ (text : List ℕ). flat_map task_text done ++ text) (append-nil (task_text report))
