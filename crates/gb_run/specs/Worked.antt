-- A work, as the code holds it.
use Rattle.std.specs.Prelude.{Bool, map, IsTrue}
use Rattle.std.specs.List.{AllByRecursion}
use Rattle.std.specs.Result.{result_err}
use Rattle.gb_folder.specs.Files.{Place}
use Rattle.gb_run.specs.Work.{Part, Work}
use Rattle.gb_run.specs.declared.work.Part.{Part as HeldPart}
use Rattle.gb_run.specs.declared.work.Work.{Work as HeldWork}

abbrev pub part_held : HeldPart → Part
part_held part = record { steps = part.steps.items; lines = part.lines }

abbrev pub work_held : HeldWork → Work
work_held work = record { parts = map part_held work.parts.items; fault = result_err work.made }

-- the steps of a part are at such places
abbrev pub AreStepsAt : (Place → Bool) → HeldPart → Type 0
AreStepsAt test part = AllByRecursion (λ step. IsTrue (test step.0)) part.steps.items
