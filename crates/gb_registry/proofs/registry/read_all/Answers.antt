use Rattle.std.proofs.Common.{List, [], sym, ap, subst, ◌∙◌}
use Rattle.std.specs.Prelude.{zip}
use Rattle.gb_registry.specs.New.{AreNew}
use Rattle.gb_registry.specs.Projects.{Path}
use Rattle.gb_registry.specs.SoFar.{scripts_in}
use Rattle.gb_registry.proofs.Separate.{are_new}
use Rattle.gb_registry.proofs.registry.read_all.Goals as goal

pub checked-requires : goal.checked-requires
checked-requires g c =
    let settings = c.requires.of_settings.0 in
    let scripts = c.args.scripts.items in
    let placed = ap scripts_in c.as_slice.ensures.value ∙ c.in_ok-scripts.ensures in
    subst (AreNew []) (sym placed) (subst (λ (projects : List Path). AreNew [] (zip projects scripts)) (sym c.requires.of_settings.2) (are_new settings scripts))
