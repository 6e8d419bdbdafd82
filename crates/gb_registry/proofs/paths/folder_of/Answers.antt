use Rattle.std.proofs.Common.{sym, ap, subst, ◌∙◌, ◌≡◌, ◌≤◌, true, length, refl, Err, true≢false}
use Rattle.std.specs.Result.{IsErrOf}
use Rattle.gb_core.specs.declared.place.PlaceFault.TheVariants.{BadPlace}
use Rattle.gb_core.specs.Path.{is_project_path}
use Rattle.gb_core.specs.Place.{is_place}
use Rattle.gb_registry.specs.Projects.{folder_text}
use Rattle.gb_registry.proofs.Folders.{folder_is_place, names_something}
use Rattle.gb_registry.proofs.paths.folder_of.Goals as goal

pub unreachable-requires : goal.unreachable-requires
unreachable-requires c =
    let text = c.as_str-text.result.now in
    let path = names_something text (subst (λ t. is_project_path t ≡ true) (sym c.as_str-text.ensures.text) c.as_str-text.ensures.path) (sym c.eq.ensures ∙ c.if-eq.false) in
    let short = subst (λ t. length (folder_text t) ≤ 896) (sym c.as_str-text.ensures.text) c.requires in
    let folder = c.as_str.ensures.value ∙ c.in_ok-folder.ensures in
    true≢false (sym (folder_is_place text path short) ∙ ap is_place (sym folder) ∙ c.read.ensures.bad (subst (λ r. IsErrOf r BadPlace) (sym (c.in-Err-BadPlace.is ∙ ap Err c.in-Err-BadPlace.field-0-is)) refl))
