-- The names of properties, and lists whose names rise.
use Rattle.std.specs.Prelude.{ℕ, ◌≡◌, ◌<◌, ◌+◌, List, [], ◌∷◌, ◌++◌, map, length, take, get_or, IsTrue}
use Rattle.std.specs.FinMap.Entries.{is_sorted}
use Rattle.std.specs.List.{filter}
use Rattle.std.proofs.Common.{sym, ap, ◌∙◌}
use Rattle.std.proofs.lemmas.List.{map-append, take_more}
use Rattle.std.proofs.lemmas.List.Elements.{filter-append}
use Rattle.gb_core.specs.Lists.{byte_order}
use Rattle.gb_history.specs.Ascending.{ascends}
use Rattle.gb_history.proofs.Rising.{ascends-is_sorted}
use Rattle.gb_plan.specs.declared.task.FileProperty.{FileProperty}
use Rattle.gb_label.specs.Deciding.{incremental_names}

pub incremental_more : (properties : List FileProperty) (i : ℕ) (property : FileProperty) → i < length properties
    → property ≡ get_or properties i property
    → incremental_names (take (i + 1) properties) ≡ incremental_names (take i properties) ++ incremental_names (property ∷ [])
incremental_more properties i property less is =
    let named : FileProperty → List ℕ = λ p. p.name in
    ap incremental_names (take_more properties i property less ∙ ap (λ p. take i properties ++ p ∷ []) (sym is))
    ∙ ap (map named) (filter-append (λ p. p.incremental) (take i properties) (property ∷ []))
    ∙ map-append named (filter (λ p. p.incremental) (take i properties)) (filter (λ p. p.incremental) (property ∷ []))

-- entries of names that rise are in order
pub in_order : {V : Type 0} (es : List (List ℕ × V)) (names : List (List ℕ)) → map (λ e. e.0) es ≡ names → IsTrue (ascends names)
    → IsTrue (is_sorted byte_order es)
in_order es names same rises = sym (ascends-is_sorted es) ∙ ap ascends same ∙ rises
