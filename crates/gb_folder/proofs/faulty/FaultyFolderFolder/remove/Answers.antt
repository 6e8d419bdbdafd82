use Rattle.std.proofs.Common.{rules, None}
use Rattle.gb_folder.proofs.Leaving.{nothing_touched}
use Rattle.gb_folder.proofs.faulty.FaultyFolderFolder.remove.Goals as goal

pub returns-then-fails : goal.returns-then-fails
returns-then-fails g c =
    let device = g.F.Folder.device in
    let folder = c.args.self.now in
    record {
      allowed = search rules;
      well = search rules;
      count = search rules;
      tearing = search rules;
      risen = search rules;
      back = search rules;
      exact = λ known. nothing_touched folder.plan.mode (device.may_leave folder.inner) (device.contents folder.inner) c.args.place.now None (g.met.F.Folder.sound folder.inner);
    }
