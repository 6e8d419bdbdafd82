use Rattle.std.proofs.Common.{◌≡◌, length, take}
use Rattle.gb_folder.specs.Calls.{Requests, no_change}
use Rattle.gb_build.specs.Found.{WereParsed}
use Rattle.gb_build.specs.Scripts.{AreTexts, script_places}
use Rattle.gb_build.proofs.each_script.read_scripts.Given as goal

abbrev pub invariant-loop-project : goal.invariant-loop-project
invariant-loop-project g l =
    let contents = g.F.Folder.device.contents in
    record {
      requests : Requests g.F.Folder.device no_change l.fn.folder l.folder;
      back : g.F.Folder.device.faithful l.folder → g.F.Folder.device.faithful l.fn.folder;
      same : g.F.Folder.device.faithful l.folder → contents l.folder ≡ contents l.fn.folder;
      one_each : length l.scripts.items ≡ l.project-index;
      parsed : WereParsed g.F.Folder.device l.fn.folder l.folder (script_places (take l.project-index l.projects)) l.scripts.items;
      texts : g.F.Folder.device.faithful l.folder → AreTexts (contents l.fn.folder).files (script_places (take l.project-index l.projects)) l.scripts.items;
    }
