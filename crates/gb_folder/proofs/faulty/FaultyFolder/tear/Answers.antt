use Rattle.std.proofs.Common.{◌≡◌, List, ℕ, Some, arith, refl, subst}
use Rattle.std.specs.Prelude.{OnOk}
use Rattle.gb_folder.specs.Files.{file_at, with_file}
use Rattle.gb_folder.specs.declared.folder.FolderFault.TheVariants as folders
use Rattle.gb_folder.proofs.Leaving.{nothing_touched, torn_write}
use Rattle.gb_folder.proofs.Said.{if_wrote, unwritten, written}
use Rattle.gb_folder.proofs.faulty.FaultyFolder.tear.Goals as goal

pub returns-in-StopTorn-clause-torn : goal.returns-in-StopTorn-clause-torn
returns-in-StopTorn-clause-torn g c faithful next =
    let old = g.F.Folder.device.contents c.args.self.now.inner in
    let place = c.args.place.now in
    let left = g.F.Folder.device.may_leave c.args.self.now.inner place (file_at old.files place) in
    let new = g.F.Folder.device.contents c.write.new.self in
    let given = c.as_slice.result.now in
    let exact = c.write.ensures.exact faithful in
    torn_write c.args.self.now.plan.mode c.in-StopTorn.bytes (g.F.Folder.device.may_leave c.args.self.now.inner) old new place next c.write.result
    (g.met.F.Folder.sound c.args.self.now.inner) c.in-StopTorn.is
    (subst (λ (bytes : List ℕ). OnOk c.write.result (new ≡ record old { files = with_file old.files place bytes })) c.as_slice.ensures.value (written (g.F.Folder.device.may_leave c.args.self.now.inner) old place new given _ c.write.result exact))
    (unwritten (g.F.Folder.device.may_leave c.args.self.now.inner) old place new given _ c.write.result exact)
    (λ is. let found = if_wrote (g.F.Folder.device.may_leave c.args.self.now.inner) old place new given _ c.write.result exact folders.Device is in (found.0, subst (λ (bytes : List ℕ). left (Some bytes) found.0) c.as_slice.ensures.value found.1, found.2))

pub returns-then-self-clause-torn : goal.returns-then-self-clause-torn
returns-then-self-clause-torn g c faithful next =
    let folder = c.args.self.now in
    nothing_touched folder.plan.mode (g.F.Folder.device.may_leave folder.inner) (g.F.Folder.device.contents folder.inner) c.args.place.now (Some next) (g.met.F.Folder.sound folder.inner)

pub returns-in_default : goal.returns-in_default
returns-in_default g c =
    let folder = c.args.self.now in
    record {
      plan = refl;
      whole = λ _. refl;
      count = omega arith;
      tearing = λ place existed next left. (λ may. may, λ may. may);
      back = λ is. is;
      torn = λ faithful next. nothing_touched folder.plan.mode (g.F.Folder.device.may_leave folder.inner) (g.F.Folder.device.contents folder.inner) c.args.place.now (Some next) (g.met.F.Folder.sound folder.inner);
    }
