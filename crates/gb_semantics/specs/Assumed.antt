-- The requirements of a run are satisfiable: kinds by the tables, and the rest by an empty folder in memory.
use Rattle.std.specs.Prelude.{◌≡◌, true, [], map}
use Rattle.gb_folder.specs.Files.{Tearing}
use Rattle.gb_action.specs.Meanings.{Meanings}
use Rattle.gb_plan.specs.Graph.{no_repeats}
use Rattle.gb_plan.specs.Ready.{Rows}
use Rattle.gb_semantics.specs.Kinds.{Kinds}
use Rattle.gb_semantics.specs.Events.{Setting}
use Rattle.gb_semantics.specs.Headline.{Agrees, HoldsMemory, TornWritesAreDetected}

-- some kinds agree with each table in which no name occurs twice
abbrev pub SomeKindsAgree : {S : Type 0} → Meanings S → Type 0
SomeKindsAgree {S = S} meanings =
    (rows : Rows S) → no_repeats (map (λ row. row.0) rows) ≡ true
    → (kinds : Kinds) × Agrees meanings rows kinds

-- a device that never leaves anything
abbrev pub leaves_nothing : Tearing
leaves_nothing place existed next left = ⊥

-- The empty folder holds an empty memory, and what is never torn is recognised for what it is.
pub record PremisesHoldInMemory (setting : Setting) : Type 0 where
  pub exists : HoldsMemory setting (record { files = []; special = [] }) []
  pub tears : TornWritesAreDetected setting.says setting.record_place leaves_nothing
