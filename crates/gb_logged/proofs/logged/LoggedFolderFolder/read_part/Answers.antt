use Rattle.std.proofs.Common.{rules, inl, inr}
use Rattle.gb_folder.specs.Call.{ReadsPart, answered}
use Rattle.gb_folder.proofs.Asked.{one_call}
use Rattle.gb_logged.proofs.logged.LoggedFolderFolder.read_part.Goals as goal

pub returns-in_err-keep_read_part : goal.returns-in_err-keep_read_part
returns-in_err-keep_read_part g c =
    let said = c.read_part-answer.ensures in
    record {
      allowed = inr (c.in_err-keep_read_part.ensures.err, search rules, one_call (ReadsPart c.args.place.now c.args.at c.args.len (answered c.read_part-answer.result)) tt said);
      well = search rules;
      count = said.count;
      tearing = said.tearing;
      risen = search rules;
      back = said.back;
      exact = search rules;
    }

pub returns : goal.returns
returns g c =
    let said = c.read_part-answer.ensures in
    record {
      allowed = inl (c.in_ok-keep_read_part.ensures.ok, said.allowed);
      well = said.well;
      count = said.count;
      tearing = said.tearing;
      risen = said.risen;
      back = said.back;
      exact = said.exact;
    }
