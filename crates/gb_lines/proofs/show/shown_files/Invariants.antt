use Rattle.std.proofs.Common.{◌≡◌, ◌++◌, drop}
use Rattle.std.specs.List.{flat_map}
use Rattle.gb_folder.specs.Files.{file_at, places_under}
use Rattle.gb_lines.specs.Texts.{shown_at}
use Rattle.gb_lines.proofs.show.shown_files.Given as goal

abbrev pub invariant-loop-place : goal.invariant-loop-place
invariant-loop-place g l =
    let files = (g.F.Folder.device.contents l.fn.folder).files in
    record {
      listed : g.F.Folder.device.faithful l.folder → l.place-items ≡ places_under files l.fn.place;
      back : g.F.Folder.device.faithful l.folder → g.F.Folder.device.faithful l.fn.folder;
      same : g.F.Folder.device.faithful l.folder → g.F.Folder.device.contents l.folder ≡ g.F.Folder.device.contents l.fn.folder;
      shown : g.F.Folder.device.faithful l.folder → l.text.items ++ flat_map (λ p. shown_at p (file_at files p)) (drop l.place-index l.place-items)
          ≡ flat_map (λ p. shown_at p (file_at files p)) l.place-items;
    }
