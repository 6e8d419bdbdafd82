use Rattle.std.proofs.Common.{take}
use Rattle.std.specs.List.{AllZip}
use Rattle.gb_records.specs.Texts.{IsRecordOf}
use Rattle.gb_records.proofs.stored_records.each_record.Given as goal

abbrev pub invariant-loop-text : goal.invariant-loop-text
invariant-loop-text l = AllZip IsRecordOf (take l.text-index l.texts) l.records.items
