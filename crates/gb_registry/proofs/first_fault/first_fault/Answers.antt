use Rattle.std.proofs.Common.{[], sym, ap, subst, ◌∙◌}
use Rattle.std.specs.Prelude.{zip}
use Rattle.gb_registry.specs.New.{AreNew}
use Rattle.gb_registry.specs.SoFar.{scripts_in}
use Rattle.gb_registry.proofs.Separate.{are_new}
use Rattle.gb_registry.proofs.first_fault.first_fault.Goals as goal

pub first_among-requires : goal.first_among-requires
first_among-requires g c =
    let placed =
    ap scripts_in c.as_slice.ensures.value ∙ c.in_ok-scripts.ensures ∙ ap (λ ps. zip ps c.args.scripts.items) c.in_ok-projects.ensures.projects in
    subst (AreNew []) (sym placed) (are_new c.args.settings.now c.args.scripts.items)
