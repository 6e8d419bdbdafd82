-- What a build assumes, besides a folder whose contents are known.
use Rattle.gb_action.specs.Meanings.{Meanings}
use Rattle.gb_folder.specs.Files.{Tearing}
use Rattle.gb_history.specs.Places.{record_place}
use Rattle.gb_semantics.specs.Headline.{Agrees, TornWritesAreDetected}
use Rattle.gb_semantics.specs.Kinds.{Kinds}
use Rattle.gb_plan.specs.Ready.{Rows}
use Rattle.gb_records.specs.Said.{IsText}

-- The kinds say of each action of the table what its meaning does, and a record that a stopped write left is
-- recognized for what it is.
pub record IsAssumed {S : Type 0} (meanings : Meanings S) (rows : Rows S) (kinds : Kinds)
    (may_leave : Tearing) : Type 0 where
  pub agrees : Agrees meanings rows kinds
  pub tears : TornWritesAreDetected IsText record_place may_leave
