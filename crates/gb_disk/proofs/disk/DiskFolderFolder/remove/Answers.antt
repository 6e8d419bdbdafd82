use Rattle.std.proofs.Common.{rules}
use Rattle.gb_folder.specs.Call.{Removes}
use Rattle.gb_disk.proofs.Answered.{answered as answered_by}
use Rattle.gb_disk.proofs.disk.DiskFolderFolder.remove.Goals as goal

pub returns : goal.returns
returns g c =
    let by = answered_by c.args.self.now.log c.note.new.self.log (Removes c.args.place.now c.counted-outcome.result) (search rules) (search rules) in
    record {
      allowed = search rules;
      well = search rules;
      count = search rules;
      tearing = search rules;
      risen = search rules;
      back = λ known. (by known).0;
      exact = λ known. (by known).1;
    }
