use Rattle.std.proofs.Common.{◌≡◌, ◌++◌, map, string_bytes}
use Rattle.gb_with.specs.Both.{seconds}
use Rattle.gb_with.specs.Names.{are_new}
use Rattle.gb_with.proofs.beside.add_seconds.Given as goal

abbrev pub invariant-loop-name : goal.invariant-loop-name
invariant-loop-name g l =
    (l.table ++ seconds (map (λ e. (string_bytes e.0, e.1)) l.name-iterator.rest.items)
    ≡ l.initial.table ++ seconds (map (λ e. (string_bytes e.0, e.1)) l.initial.name-iterator.rest.items))
    × (are_new l.table (seconds (map (λ e. (string_bytes e.0, e.1)) l.name-iterator.rest.items))
    ≡ are_new l.initial.table (seconds (map (λ e. (string_bytes e.0, e.1)) l.initial.name-iterator.rest.items)))
