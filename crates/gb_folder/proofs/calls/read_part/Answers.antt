use Rattle.gb_folder.specs.Call.{ReadsPart, answered}
use Rattle.gb_folder.specs.declared.folder.FolderFault.TheVariants as folders
use Rattle.gb_folder.proofs.Asked.{one_read}
use Rattle.gb_folder.proofs.Said.{if_part_read, part_fits, part_found, part_named, part_within, row_fails}
use Rattle.gb_folder.proofs.calls.read_part.Goals as goal

pub returns : goal.returns
returns g c =
    let old = g.F.Folder.device.contents c.args.folder.now in
    let place = c.args.place.now in
    let at = c.args.at in
    let len = c.args.len in
    let row = c.read_part.result in
    let said = c.read_part.ensures in
    record {
      called = said;
      reads = one_read (ReadsPart place at len (answered row)) tt (λ known. (said.exact known).1) said;
      risen = λ is. said.risen (row_fails row is);
      within = part_within len row said.well;
      not_large = part_fits len row said.well;
      not_named = part_named len row said.well;
      found = λ known. part_found old place at len row (said.exact known).0;
      missing = λ known is. (if_part_read old place at len row (said.exact known).0 folders.Missing is).0;
      missing_free = λ known is. (if_part_read old place at len row (said.exact known).0 folders.Missing is).1;
      blocked = λ known is. if_part_read old place at len row (said.exact known).0 folders.Blocked is;
    }
