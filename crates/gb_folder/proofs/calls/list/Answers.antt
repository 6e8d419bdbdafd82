use Rattle.gb_folder.specs.Call.{Lists, answered}
use Rattle.gb_folder.specs.declared.folder.FolderFault.TheVariants as folders
use Rattle.gb_folder.proofs.Asked.{one_read}
use Rattle.gb_folder.proofs.Said.{are_ordered, are_under, if_listed, listed, lists_fit, none_special, row_fails}
use Rattle.gb_folder.proofs.calls.list.Goals as goal

pub returns : goal.returns
returns g c =
    let old = g.F.Folder.device.contents c.args.folder.now in
    let root = c.args.root.now in
    let row = c.list.result in
    let said = c.list.ensures in
    record {
      called = said;
      reads = one_read (Lists root (answered row)) tt (λ known. (said.exact known).1) said;
      risen = λ is. said.risen (row_fails row is);
      under = are_under root row said.well;
      ordered = are_ordered root row said.well;
      not_large = lists_fit root row said.well;
      listed = λ known. listed old root row (said.exact known).0;
      none_special = λ known. none_special old root row (said.exact known).0;
      bad_name = λ known is. if_listed old root row (said.exact known).0 folders.BadFileName is;
      not_missing = λ known is. if_listed old root row (said.exact known).0 folders.Missing is;
      not_blocked = λ known is. if_listed old root row (said.exact known).0 folders.Blocked is;
    }
