use Rattle.std.proofs.Common.{ℕ, List, ap, ◌∙◌}
use Rattle.std.specs.FinMap.Entries.{put}
use Rattle.std.specs.Option.{option_copied}
use Rattle.gb_core.specs.Lists.{byte_order}
use Rattle.gb_run.specs.ChangeTexts.{steps_in}
use Rattle.gb_run.proofs.StepTexts.{put_by_text}
use Rattle.gb_run.proofs.reply_steps.put_step.Goals as goal

pub returns : goal.returns
returns c =
    put_by_text c.args.steps.now c.insert.new.self c.in_ok-text.text _ c.in_ok-insert.ensures.entries
    ∙ ap (λ (text : List ℕ). put byte_order text (option_copied c.args.bytes) (steps_in c.args.steps.now)) c.in_ok-text.ensures
