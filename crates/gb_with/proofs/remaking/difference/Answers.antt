use Rattle.std.proofs.Common.{[], unwrap_or, refl, ap, ◌∙◌}
use Rattle.gb_action.specs.Outputs.{files_of}
use Rattle.gb_with.specs.Remaking.{made_no_more}
use Rattle.gb_with.proofs.remaking.difference.Goals as goal

pub returns : goal.returns
returns c =
    let outputs = c.args.request.now.outputs in
    let made = c.in_ok-made.made.entries in
    record {
      made = made;
      in_order = c.in_ok-made.ensures.ordered;
      is_made = c.in_ok-made.ensures.files;
      removes = c.in_ok-outdated.ensures ∙ ap (λ existed. made_no_more existed made) (c.existing.ensures
          ∙ ap (λ name. unwrap_or (files_of outputs name) []) c.in_ok-output.ensures);
      writes = c.in_ok-renewed.ensures;
      prints = refl;
    }
