use Rattle.std.proofs.Common.{◌≡◌, ◌++◌, List, drop}
use Rattle.gb_folder.specs.Calls.{Requests, no_change}
use Rattle.gb_registry.specs.SoFar.{scripts_in}
use Rattle.gb_registry.specs.Tables.{tables_of}
use Rattle.gb_check.specs.Sites.{AreSites}
use Rattle.gb_check.specs.declared.clause_lines.ClauseMark.{ClauseMark}
use Rattle.gb_check.specs.declared.sites.Site.{Site}
use Rattle.gb_check.proofs.sites.read_sites.Given as goal

abbrev pub invariant-loop-scripted : goal.invariant-loop-scripted
invariant-loop-scripted g l =
    let contents = g.F.Folder.device.contents in
    let faithful = g.F.Folder.device.faithful in
    let files = (contents l.fn.folder).files in
    let tables = tables_of g.T.Transforms.meanings g.A.Actions.meanings l.tables in
    record {
      requests : Requests g.F.Folder.device no_change l.fn.folder l.folder;
      back : faithful l.folder → faithful l.fn.folder;
      same : faithful l.folder → contents l.folder ≡ contents l.fn.folder;
      sites : (later : _) → (faithful later → faithful l.folder) → (others : List Site) (words : List ClauseMark)
          → AreSites tables l.names (faithful later) files (scripts_in (drop l.scripted-index l.scripts)) others words
          → AreSites tables l.names (faithful later) files (scripts_in l.scripts) (l.sites.items ++ others) (l.marks.items ++ words);
    }
