-- The number and the text of each fault.
use Rattle.std.specs.Prelude.{ℕ, ◌||◌, ◌==◌, List, [], ◌∷◌, ◌++◌, map, take, if◌then◌else◌, codes}
use Rattle.std.specs.Prelude.{decimal, nat_lt, encode_utf8_all}
use Rattle.std.specs.List.{flat_map}
use Rattle.std.specs.Str.{chars}
use Rattle.gb_report.specs.declared.fault.About.{About}
use Rattle.gb_report.specs.declared.fault.About.TheVariants as abouts
use Rattle.gb_report.specs.declared.fault.Fault.{Fault}
use Rattle.gb_report.specs.declared.fault.Fault.TheVariants as faults
use Rattle.gb_report.specs.declared.fault.Limited.{Limited}
use Rattle.gb_report.specs.declared.fault.Limited.TheVariants as limited

-- the fault number that is reported to users
abbrev pub fault_number : Fault → ℕ
fault_number (faults.BadName text) = 1
fault_number (faults.BadPlace text) = 2
fault_number faults.OutOfMemory = 3
fault_number (faults.Device place) = 10
fault_number (faults.Missing place) = 11
fault_number (faults.Blocked place) = 12
fault_number (faults.TooLarge place) = 13
fault_number (faults.BadFileName place) = 14
fault_number (faults.Syntax script line) = 20
fault_number (faults.TooLong script) = 21
fault_number (faults.TooDeep script line) = 22
fault_number (faults.NotUtf8 script) = 23
fault_number (faults.Circular names) = 30
fault_number (faults.UnknownTransform name) = 31
fault_number (faults.BadArguments name) = 32
fault_number (faults.NoValue task name) = 33
fault_number (faults.WrongValue name) = 34
fault_number (faults.Final name) = 35
fault_number (faults.UnknownAction name) = 40
fault_number (faults.ActionFailed text) = 42
fault_number (faults.BadArgument task name) = 43
fault_number (faults.UnknownProject text) = 50
fault_number (faults.DuplicateTask task) = 51
fault_number (faults.TaskNotFound text) = 52
fault_number (faults.DuplicateProperty name) = 53
fault_number (faults.UnknownProperty name) = 54
fault_number (faults.BadShape task) = 55
fault_number (faults.OutputOutsideBuild task place) = 56
fault_number (faults.BadProjectPlace project) = 57
fault_number (faults.TooMany what) = 58
fault_number (faults.UnknownOutput task text) = 59
fault_number (faults.Cycle tasks) = 60
fault_number (faults.OverlappingOutputs task other place) = 61
fault_number (faults.UndeclaredDependency task producer place) = 62
fault_number (faults.OwnOutputAsInput task place) = 63
fault_number faults.NoTasks = 64
fault_number (faults.BadPattern text) = 70
fault_number (faults.DuplicateInput name path) = 71
fault_number (faults.TooManyFiles name) = 72
fault_number faults.HistoryNotWritten = 90
fault_number (faults.OwnState place) = 94
fault_number (faults.BadLine line) = 95
fault_number faults.Usage = 96

-- a control character is printed as '?'
abbrev pub shown_character : ℕ → ℕ
shown_character c = if nat_lt c 32 || (c == 127) then 63 else c

-- the printed part of a text from outside: its first 80 characters
abbrev pub shown : List ℕ → List ℕ
shown text = encode_utf8_all (map shown_character (take 80 (chars text)))

-- what exceeds a limit
abbrev pub limited_text : Limited → List ℕ
limited_text limited.Projects = codes "projects"
limited_text limited.Tasks = codes "tasks"
limited_text limited.Properties = codes "properties"
limited_text limited.Values = codes "values"

-- names with a comma and a space between each two
abbrev pub row_text : List (List ℕ) → List ℕ
row_text [] = []
row_text (name ∷ names) = name ++ flat_map (λ next. codes ", " ++ next) names

-- the text of a fault: its number, its words and what it is about
abbrev pub fault_text : Fault → List ℕ
fault_text (faults.BadName text) = codes "1 bad name " ++ shown text
fault_text (faults.BadPlace text) = codes "2 bad place " ++ shown text
fault_text faults.OutOfMemory = codes "3 out of memory"
fault_text (faults.Device place) = codes "10 device " ++ place
fault_text (faults.Missing place) = codes "11 missing " ++ place
fault_text (faults.Blocked place) = codes "12 blocked " ++ place
fault_text (faults.TooLarge place) = codes "13 too large " ++ place
fault_text (faults.BadFileName place) = codes "14 bad file name " ++ place
fault_text (faults.Syntax script line) = codes "20 syntax " ++ script ++ codes ":" ++ decimal line
fault_text (faults.TooLong script) = codes "21 too long " ++ script
fault_text (faults.TooDeep script line) = codes "22 too deep " ++ script ++ codes ":" ++ decimal line
fault_text (faults.NotUtf8 script) = codes "23 not UTF-8 " ++ script
fault_text (faults.Circular names) = codes "30 circular " ++ row_text names
fault_text (faults.UnknownTransform name) = codes "31 unknown transform " ++ name
fault_text (faults.BadArguments name) = codes "32 bad arguments " ++ name
fault_text (faults.NoValue task name) = codes "33 no value " ++ task ++ codes " " ++ name
fault_text (faults.WrongValue name) = codes "34 wrong value " ++ name
fault_text (faults.Final name) = codes "35 final " ++ name
fault_text (faults.UnknownAction name) = codes "40 unknown action " ++ name
fault_text (faults.ActionFailed text) = codes "42 " ++ text
fault_text (faults.BadArgument task name) = codes "43 bad argument " ++ task ++ codes " " ++ name
fault_text (faults.UnknownProject text) = codes "50 unknown project " ++ shown text
fault_text (faults.DuplicateTask task) = codes "51 duplicate task " ++ task
fault_text (faults.TaskNotFound text) = codes "52 task not found " ++ shown text
fault_text (faults.DuplicateProperty name) = codes "53 duplicate property " ++ name
fault_text (faults.UnknownProperty name) = codes "54 unknown property " ++ name
fault_text (faults.BadShape task) = codes "55 bad shape " ++ task
fault_text (faults.OutputOutsideBuild task place) =
    codes "56 output outside build " ++ task ++ codes " " ++ place
fault_text (faults.BadProjectPlace project) = codes "57 bad project place " ++ project
fault_text (faults.TooMany what) = codes "58 too many " ++ limited_text what
fault_text (faults.UnknownOutput task text) = codes "59 unknown output " ++ task ++ codes " " ++ shown text
fault_text (faults.Cycle tasks) = codes "60 cycle " ++ row_text tasks
fault_text (faults.OverlappingOutputs task other place) =
    codes "61 overlapping outputs " ++ task ++ codes " " ++ other ++ codes " " ++ place
fault_text (faults.UndeclaredDependency task producer place) =
    codes "62 undeclared dependency " ++ task ++ codes " " ++ producer ++ codes " " ++ place
fault_text (faults.OwnOutputAsInput task place) =
    codes "63 own output as input " ++ task ++ codes " " ++ place
fault_text faults.NoTasks = codes "64 no tasks"
fault_text (faults.BadPattern text) = codes "70 bad pattern " ++ shown text
fault_text (faults.DuplicateInput name path) = codes "71 duplicate input " ++ name ++ codes " " ++ path
fault_text (faults.TooManyFiles name) = codes "72 too many files " ++ name
fault_text faults.HistoryNotWritten = codes "90 history not written"
fault_text (faults.OwnState place) = codes "94 own state " ++ place
fault_text (faults.BadLine line) = codes "95 bad line " ++ decimal line
fault_text faults.Usage = codes "96 usage"

-- what a fault is about, as it is printed after its words
abbrev pub about_text : About → List ℕ
about_text abouts.Nothing = []
about_text (abouts.Place place) = place.now
about_text (abouts.Name name) = name.now
about_text (abouts.Text text) = text.now
about_text (abouts.Task task) = task.now
about_text (abouts.Project project) = project.now
about_text (abouts.Number number) = decimal number
about_text (abouts.Limited what) = limited_text what
about_text (abouts.Shown text) = shown text.now
about_text (abouts.Names names) = row_text names.now
about_text (abouts.Tasks tasks) = row_text tasks.now
about_text (abouts.Line script line) = script.now ++ codes ":" ++ decimal line
about_text (abouts.TaskName task name) = task.now ++ codes " " ++ name.now
about_text (abouts.TaskPlace task place) = task.now ++ codes " " ++ place.now
about_text (abouts.TaskShown task text) = task.now ++ codes " " ++ shown text.now
about_text (abouts.NamePath name path) = name.now ++ codes " " ++ path.now
about_text (abouts.TasksPlace task other place) =
    task.now ++ codes " " ++ other.now ++ codes " " ++ place.now
