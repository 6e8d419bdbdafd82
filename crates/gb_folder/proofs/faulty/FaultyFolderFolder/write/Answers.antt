use Rattle.std.proofs.Common.{rules, Some, ap, subst}
use Rattle.gb_folder.proofs.Leaving.{Left}
use Rattle.gb_folder.proofs.faulty.FaultyFolderFolder.write.Goals as goal

pub returns-then-fails : goal.returns-then-fails
returns-then-fails g c =
    let device = g.F.Folder.device in
    let folder = c.args.self.now in
    record {
      allowed = search rules;
      well = search rules;
      count = search rules;
      tearing = search rules;
      risen = search rules;
      back = search rules;
      exact = λ known. subst
          (λ mode. Left mode (device.may_leave folder.inner) (device.contents folder.inner) (device.contents c.tear.new.self.inner) c.args.place.now (Some c.args.bytes.now))
          (ap (λ plan. plan.mode) c.fails.ensures.counted) (c.tear.ensures.torn known c.args.bytes.now);
    }
