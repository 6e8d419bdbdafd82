use Rattle.std.proofs.Common.{rules, inl, inr}
use Rattle.gb_folder.specs.Call.{Lists, answered}
use Rattle.gb_folder.proofs.Asked.{one_call}
use Rattle.gb_logged.proofs.logged.LoggedFolderFolder.list.Goals as goal

pub returns-in_err-keep_list : goal.returns-in_err-keep_list
returns-in_err-keep_list g c =
    let said = c.list-answer.ensures in
    record {
      allowed = inr (c.in_err-keep_list.ensures.err, search rules, one_call (Lists c.args.root.now (answered c.list-answer.result)) tt said);
      well = search rules;
      count = said.count;
      tearing = said.tearing;
      risen = search rules;
      back = said.back;
      exact = search rules;
    }

pub returns : goal.returns
returns g c =
    let said = c.list-answer.ensures in
    record {
      allowed = inl (c.in_ok-keep_list.ensures.ok, said.allowed);
      well = said.well;
      count = said.count;
      tearing = said.tearing;
      risen = said.risen;
      back = said.back;
      exact = said.exact;
    }
