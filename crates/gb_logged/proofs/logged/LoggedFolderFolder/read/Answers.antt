use Rattle.std.proofs.Common.{rules, inl, inr}
use Rattle.gb_folder.specs.Call.{Reads, answered}
use Rattle.gb_folder.proofs.Asked.{one_call}
use Rattle.gb_logged.proofs.logged.LoggedFolderFolder.read.Goals as goal

pub returns-in_err-keep_read : goal.returns-in_err-keep_read
returns-in_err-keep_read g c =
    let said = c.read-answer.ensures in
    record {
      allowed = inr (c.in_err-keep_read.ensures.err, search rules, one_call (Reads c.args.place.now c.args.limit (answered c.read-answer.result)) tt said);
      well = search rules;
      count = said.count;
      tearing = said.tearing;
      risen = search rules;
      back = said.back;
      exact = search rules;
    }

pub returns : goal.returns
returns g c =
    let said = c.read-answer.ensures in
    record {
      allowed = inl (c.in_ok-keep_read.ensures.ok, said.allowed);
      well = said.well;
      count = said.count;
      tearing = said.tearing;
      risen = said.risen;
      back = said.back;
      exact = said.exact;
    }
