use Rattle.std.proofs.Common.{ℕ, List, [], ◌∷◌, ◌∙◌}
use Rattle.std.specs.List.{AllByRecursion}
use Rattle.gb_history.specs.Record.{Record}
use Rattle.gb_history.specs.Text.{RecordFits}
use Rattle.gb_history.specs.declared.record.Edition.TheVariants.{Second}
use Rattle.gb_history.proofs.Lists.{all_true}
use Rattle.gb_history.proofs.history.History.through_text.Goals as goal

-- the second edition expresses all versions
all_fit : (records : List (List ℕ × Record)) → AllByRecursion (RecordFits Second) records
all_fit [] = tt
all_fit (one ∷ records) = (all_true one.1.actions, all_fit records)

pub returns : goal.returns
returns c =
    c.read.ensures.back c.args.self.now c.in_ok-text.ensures.held
    (record { edition = Second; fits = all_fit c.args.self.now; same = c.as_slice.ensures.value ∙ c.in_ok-text.ensures.text })
