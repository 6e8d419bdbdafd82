-- The calls of a folder on a disk, which it keeps for proofs alone, and what is supposed of it.
use Rattle.std.specs.Prelude.{ℕ, ◌≡◌, List, [], ◌∷◌, ◌++◌}
use Rattle.gb_folder.specs.Calls.{Call, Device}
use Rattle.gb_folder.specs.Files.{Contents, Tearing}
use Rattle.gb_disk.specs.Shown.{IsAnswered, shown}
use Rattle.gb_disk.specs.Supposed.{Supposed, leaves_of}
use Rattle.gb_disk.specs.declared.disk.DiskFolder.{DiskFolder}

-- the calls that it was asked for, with their answers, in order
abbrev pub calls_of : {R : Type 0} → DiskFolder R → List Call
calls_of folder = folder.log.calls

-- what is supposed of it
abbrev pub supposed_of : {R : Type 0} → DiskFolder R → Supposed
supposed_of folder = folder.log.supposed

-- The second state is the one after this call, with its answer, in the first one.
abbrev pub is_next : {R : Type 0} → DiskFolder R → Call → DiskFolder R → Type 0
is_next old call new =
    (calls_of new ≡ calls_of old ++ call ∷ []) × (supposed_of new ≡ supposed_of old)

-- how often the device failed in the calls so far
abbrev pub failures_of : {R : Type 0} → DiskFolder R → ℕ
failures_of folder = folder.failures

-- Each call so far was answered as it would have been over the supposed contents.
abbrev pub IsAsSupposed : {R : Type 0} → DiskFolder R → Type 0
IsAsSupposed folder = IsAnswered folder.log

-- the supposed contents after the calls so far
abbrev pub contents_of : {R : Type 0} → DiskFolder R → Contents
contents_of folder = shown folder.log

-- what a stopped write or removal may leave there, as is supposed
abbrev pub may_leave_of : {R : Type 0} → DiskFolder R → Tearing
may_leave_of folder = leaves_of (supposed_of folder)

-- the folder by these
abbrev pub disk_device : {R : Type 0} → Device (DiskFolder R)
disk_device = record {
  failures = failures_of;
  may_leave = may_leave_of;
  allowed = is_next;
  faithful = IsAsSupposed;
  contents = contents_of;
}
