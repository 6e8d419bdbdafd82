use Rattle.std.proofs.Common.{rules, inl, inr, ap}
use Rattle.gb_folder.proofs.Asked.{requests_nothing}
use Rattle.gb_logged.specs.Logged.{log_of}
use Rattle.gb_logged.proofs.Keeping.{kept_removal}
use Rattle.gb_logged.proofs.logged.LoggedFolderFolder.remove.Goals as goal

pub returns-in_err-reserve : goal.returns-in_err-reserve
returns-in_err-reserve g c = record {
  allowed = inr (ap log_of c.in_err-reserve.ensures.items, search rules, requests_nothing c.args.self.now.inner);
  well = search rules;
  count = search rules;
  tearing = search rules;
  risen = search rules;
  back = search rules;
  exact = search rules;
}

pub returns : goal.returns
returns g c =
    let said = c.remove-answer.ensures in
    record {
      allowed = inl (kept_removal c.remove-answer.result c.in_ok-at.ensures c.in_ok-reserve.ensures.items c.push_reserved.ensures.items, said.allowed);
      well = said.well;
      count = said.count;
      tearing = said.tearing;
      risen = said.risen;
      back = said.back;
      exact = said.exact;
    }
