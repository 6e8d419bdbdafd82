use Rattle.std.proofs.Common.{◌≡◌, ℕ, List, take}
use Rattle.std.specs.Prelude.{reverse}
use Rattle.std.specs.BTreeMap.{is_at}
use Rattle.std.specs.FinMap.Entries.{find}
use Rattle.std.specs.Map.{lookup}
use Rattle.gb_core.specs.Lists.{byte_order}
use Rattle.gb_declare.proofs.given.by_name.Given as goal

abbrev pub invariant-loop-name : goal.invariant-loop-name
invariant-loop-name l =
    (text : List ℕ) → lookup (is_at (byte_order text)) l.found.entries ≡ find byte_order text (reverse (take l.name-index l.given))
