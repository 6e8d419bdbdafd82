use Rattle.std.proofs.Common.{◌≡◌, IsTrue, map, string_bytes}
use Rattle.std.specs.List.{join_with_byte, list_all}
use Rattle.gb_core.specs.Place.{is_segment}
use Rattle.gb_disk.specs.Disk.{is_reached, path_in}
use Rattle.gb_disk.proofs.device.Device.go_to.Given as goal

-- the path is that of the segments so far, unless the walk ended above
abbrev pub invariant-loop-segment : goal.invariant-loop-segment
invariant-loop-segment g l =
    let so_far = map (λ segment. segment.now) l.yielded in
    record {
      good : IsTrue (list_all is_segment so_far);
      path : IsTrue (is_reached l.is_made l.entry) → string_bytes l.path ≡ path_in (string_bytes l.self.base) (join_with_byte 47 so_far);
    }
