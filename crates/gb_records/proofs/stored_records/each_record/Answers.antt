use Rattle.gb_records.proofs.Calls.{read_more}
use Rattle.gb_records.specs.Texts.{IsRecordOf}
use Rattle.gb_records.proofs.stored_records.each_record.Goals as goal

pub loop-text-preserved : goal.loop-text-preserved
loop-text-preserved c =
    let pushed = c.in_ok-push_record.ensures.read in
    read_more IsRecordOf c.args.texts.now c.loop-text.text-index c.text-item.result c.loop-text.records.items c.push_record.new.records.items pushed.0
    c.loop-text-test.true c.text-item.is c.loop-text.invariant pushed.1 pushed.2
