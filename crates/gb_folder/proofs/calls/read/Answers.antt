use Rattle.gb_folder.specs.Call.{Reads, answered}
use Rattle.gb_folder.specs.Files.{file_at}
use Rattle.gb_folder.specs.declared.folder.FolderFault.TheVariants as folders
use Rattle.gb_folder.proofs.Asked.{one_read}
use Rattle.gb_folder.proofs.Said.{found, if_read, is_larger, reads_named, reads_within, row_fails}
use Rattle.gb_folder.proofs.calls.read.Goals as goal

pub returns : goal.returns
returns g c =
    let old = g.F.Folder.device.contents c.args.folder.now in
    let place = c.args.place.now in
    let limit = c.args.limit in
    let row = c.read.result in
    let said = c.read.ensures in
    record {
      called = said;
      reads = one_read (Reads place limit (answered row)) tt (λ known. (said.exact known).1) said;
      risen = λ is. said.risen (row_fails row is);
      within = reads_within limit row said.well;
      not_named = reads_named limit row said.well;
      found = λ known. found old place limit row (said.exact known).0;
      missing = λ known is. (if_read old place limit row (said.exact known).0 folders.Missing is).0;
      missing_free = λ known is. (if_read old place limit row (said.exact known).0 folders.Missing is).1;
      blocked = λ known is. if_read old place limit row (said.exact known).0 folders.Blocked is;
      large = λ known is. is_larger old place limit (file_at old.files place) (if_read old place limit row (said.exact known).0 folders.TooLarge is);
    }
