use Rattle.gb_history.specs.Text.{IsTextOf}
use Rattle.gb_history.specs.declared.record.Edition.TheVariants.{Second}
use Rattle.gb_history.proofs.Lists.{all_true}
use Rattle.gb_history.proofs.OneText.{one_text}
use Rattle.gb_history.proofs.record_text.RecordReader.read.Goals as goal

-- a text is that of at most one record
pub returns-in-Some : goal.returns-in-Some
returns-in-Some c =
    let same : IsTextOf c.args.path.now c.in-Some.found c.args.bytes.now = record { edition = Second; fits = all_true c.in-Some.found.actions; same = c.in-Some.ensures.exact } in
    record {
      exact = same;
      utf8 = c.in-Some.ensures.utf8;
      held = c.in-Some.ensures.held;
      back = λ run u h of. one_text c.args.path.now c.in-Some.found run c.args.bytes.now u c.in-Some.ensures.held h same of;
    }

pub returns-in-None : goal.returns-in-None
returns-in-None c =
    let read = c.read_by_tree.ensures in
    record { exact = read.exact; utf8 = read.utf8; held = read.held; back = read.back }
