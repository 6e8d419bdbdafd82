use Rattle.std.proofs.Common.{◌≡◌, ◌≤◌, ◌++◌, length, drop, take}
use Rattle.gb_registry.specs.SoFar.{scripts_in}
use Rattle.gb_declare.specs.NodesInTable.{scripts_faults, scripts_made, sites_made}
use Rattle.gb_project.specs.Steps.{laid_sites}
use Rattle.gb_project.proofs.scripts.lay_scripts.Given as goal

abbrev pub invariant-loop-scripted : goal.invariant-loop-scripted
invariant-loop-scripted g l =
    let functions = l.initial.providers.table in
    let given = l.given.entries in
    let left = scripts_in (drop l.scripted-index l.scripts) in
    record {
      table : l.providers.table ≡ functions;
      count : length l.laid.items ≡ l.scripted-index;
      sites :
          sites_made functions given l.initial.providers.nodes (scripts_in l.scripts)
          ≡ laid_sites given (scripts_in (take l.scripted-index l.scripts)) l.laid.items ++ sites_made functions given l.providers.nodes left;
      made :
          scripts_made functions given l.initial.providers.nodes (scripts_in l.scripts)
          ≡ scripts_made functions given l.providers.nodes left;
      grown : length l.initial.providers.nodes ≤ length l.providers.nodes;
      good :
          scripts_faults functions given g.T.Transforms.meanings l.initial.providers.nodes (scripts_in l.scripts)
          ≡ scripts_faults functions given g.T.Transforms.meanings l.providers.nodes left;
    }
