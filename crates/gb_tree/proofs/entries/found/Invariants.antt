use Rattle.std.proofs.Common.{◌≡◌, ◌≤◌, ◌+◌, ◌++◌, IsTrue, List, drop, length, take}
use Rattle.std.specs.List.{AllByRecursion, AllZip, zip}
use Rattle.gb_core.specs.Lists.{first_of}
use Rattle.gb_folder.specs.Calls.{Requests, no_change}
use Rattle.gb_folder.specs.Files.{Place}
use Rattle.gb_folder.specs.Limits.{max_files}
use Rattle.gb_tree.specs.Answered.{IsStartListed, listed_in}
use Rattle.gb_tree.specs.Property.{found_from, held, is_under_any, places_of}
use Rattle.gb_tree.specs.Tree.{special_roots}
use Rattle.gb_tree.proofs.entries.found.Given as goal

abbrev pub invariant-loop-root : goal.invariant-loop-root
invariant-loop-root g l =
    let contents = g.F.Folder.device.contents in
    let old = contents l.fn.folder in
    record {
      requests : Requests g.F.Folder.device no_change l.fn.folder l.folder;
      few : length l.entries.items ≤ max_files + 1;
      under : AllByRecursion (λ entry. IsTrue (is_under_any (places_of l.starts) entry.1)) l.entries.items;
      answered : (listings : List (List Place))
          × AllZip (IsStartListed g.F.Folder.device l.fn.folder l.folder) (take l.root-index l.starts) listings
          × (l.entries.items ≡ held (listed_in l.naming l.include l.exclude (zip (take l.root-index l.starts) listings)));
      back : g.F.Folder.device.faithful l.folder → g.F.Folder.device.faithful l.fn.folder;
      same : g.F.Folder.device.faithful l.folder → contents l.folder ≡ old;
      found : g.F.Folder.device.faithful l.folder → held (l.entries.items ++ found_from l.naming l.include l.exclude old.files (drop l.root-index l.starts)) ≡ held (found_from l.naming l.include l.exclude old.files l.starts);
      special : g.F.Folder.device.faithful l.folder → first_of (special_roots old (places_of (drop l.root-index l.starts))) ≡ first_of (special_roots old (places_of l.starts));
    }
