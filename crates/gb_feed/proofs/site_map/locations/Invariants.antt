use Rattle.std.proofs.Common.{◌≡◌, drop}
use Rattle.gb_feed.specs.SiteMap.{locations, map_begun}
use Rattle.gb_feed.proofs.site_map.locations.Given as goal

abbrev pub invariant-loop-path : goal.invariant-loop-path
invariant-loop-path l =
    locations l.base l.map.items (drop l.path-index l.files) ≡ locations l.base map_begun l.files
