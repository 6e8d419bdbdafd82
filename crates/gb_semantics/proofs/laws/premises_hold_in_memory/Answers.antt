use Rattle.std.specs.Prelude.{refl}
use Rattle.gb_semantics.proofs.laws.premises_hold_in_memory.Goals as goal

pub returns : goal.returns
returns c = λ returned. record {
  exists = record { is_folder = record { in_order = refl; none_blocked = refl }; in_order = refl; of_tasks = tt; records = λ path is_path. tt; made = tt };
  tears = λ path old new left is_path of_tool torn. absurd torn;
}
