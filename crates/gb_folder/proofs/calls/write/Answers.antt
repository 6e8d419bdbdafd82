use Rattle.gb_folder.specs.Call.{Writes}
use Rattle.gb_folder.specs.declared.folder.FolderFault.TheVariants as folders
use Rattle.gb_folder.proofs.Asked.{one_call, put_permitted}
use Rattle.gb_folder.proofs.Said.{change_fails, free, if_wrote, unwritten, writes_large, writes_named, writes_there, writes_within, written}
use Rattle.gb_folder.proofs.calls.write.Goals as goal

pub returns : goal.returns
returns g c =
    let device = g.F.Folder.device in
    let may_leave = device.may_leave c.args.folder.now in
    let old = device.contents c.args.folder.now in
    let new = device.contents c.write.new.self in
    let place = c.args.place.now in
    let bytes = c.args.bytes.now in
    let limit = c.args.limit in
    let answer = c.write.result in
    let said = c.write.ensures in
    record {
      called = said;
      requests = one_call (Writes place bytes limit answer) (put_permitted place bytes) said;
      risen = λ is. said.risen (change_fails answer is);
      within = writes_within bytes limit answer said.well;
      large = writes_large bytes limit answer said.well;
      not_missing = writes_there bytes limit answer said.well;
      not_named = writes_named bytes limit answer said.well;
      written = λ known. written may_leave old place new bytes limit answer (said.exact known);
      free = λ known. free may_leave old place new bytes limit answer (said.exact known);
      blocked = λ known is. (if_wrote may_leave old place new bytes limit answer (said.exact known) folders.Blocked is).0;
      same = λ known. unwritten may_leave old place new bytes limit answer (said.exact known);
      torn = λ known is. if_wrote may_leave old place new bytes limit answer (said.exact known) folders.Device is;
    }
