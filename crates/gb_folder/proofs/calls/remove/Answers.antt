use Rattle.gb_folder.specs.Call.{Removes}
use Rattle.gb_folder.specs.declared.folder.FolderFault.TheVariants as folders
use Rattle.gb_folder.proofs.Asked.{one_call, taking_permitted}
use Rattle.gb_folder.proofs.Said.{change_fails, existed, if_removed, removed, removes_fit, removes_named, unremoved}
use Rattle.gb_folder.proofs.calls.remove.Goals as goal

pub returns : goal.returns
returns g c =
    let device = g.F.Folder.device in
    let may_leave = device.may_leave c.args.folder.now in
    let old = device.contents c.args.folder.now in
    let new = device.contents c.remove.new.self in
    let place = c.args.place.now in
    let answer = c.remove.result in
    let said = c.remove.ensures in
    record {
      called = said;
      requests = one_call (Removes place answer) (taking_permitted place) said;
      risen = λ is. said.risen (change_fails answer is);
      not_large = removes_fit answer said.well;
      not_named = removes_named answer said.well;
      removed = λ known. removed may_leave old place new answer (said.exact known);
      existed = λ known. existed may_leave old place new answer (said.exact known);
      missing = λ known is. (if_removed may_leave old place new answer (said.exact known) folders.Missing is).0;
      missing_free = λ known is. (if_removed may_leave old place new answer (said.exact known) folders.Missing is).1;
      blocked = λ known is. (if_removed may_leave old place new answer (said.exact known) folders.Blocked is).0;
      same = λ known. unremoved may_leave old place new answer (said.exact known);
      torn = λ known is. if_removed may_leave old place new answer (said.exact known) folders.Device is;
    }
