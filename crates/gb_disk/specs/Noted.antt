-- The calls that a folder on a disk was asked for.
use Rattle.gb_folder.specs.Calls.{Call, Lists, Reads, ReadsPart, Writes, Removes, answered}
use Rattle.gb_disk.specs.declared.call_log.Noted.{Noted}
use Rattle.gb_disk.specs.declared.call_log.Noted.TheVariants as noted

-- the call with its answer
abbrev pub call_of : Noted → Call
call_of (noted.Lists root answer) = Lists root.now (answered answer.now)
call_of (noted.Reads place limit answer) = Reads place.now limit (answered answer.now)
call_of (noted.ReadsPart place at len answer) = ReadsPart place.now at len (answered answer.now)
call_of (noted.Writes place bytes limit answer) = Writes place.now bytes.now limit answer.now
call_of (noted.Removes place answer) = Removes place.now answer.now
