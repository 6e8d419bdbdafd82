-- The places that a task's files take.
use Rattle.std.specs.Prelude.{List, [], ◌++◌, map}
use Rattle.std.specs.List.{flat_map}
use Rattle.gb_folder.specs.Files.{Files}
use Rattle.gb_report.specs.declared.fault.Fault.{Fault}
use Rattle.gb_report.specs.declared.fault.Fault.TheVariants as faults
use Rattle.gb_plan.specs.declared.task.Output.{Output}
use Rattle.gb_semantics.specs.Made.{file_faults, full_outputs, put_over}

-- the files as empty ones: the places that they take
abbrev pub blank : Files → Files
blank files = map (λ file. (file.0, [])) files

-- the outputs with more files than they may have, as faults
abbrev pub count_faults : List Output → Files → List Fault
count_faults outputs files = map (λ output. faults.TooManyFiles output.name) (full_outputs outputs files)

-- the faults of these files, in the order of their places, given the places taken before
abbrev pub faults_beside : List Output → Files → Files → List Fault
faults_beside outputs taken files =
    let all = put_over taken (blank files) in
    flat_map (file_faults all) files ++ count_faults outputs all
