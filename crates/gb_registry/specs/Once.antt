-- Scripts without a fault register each path once.
use Rattle.std.specs.Prelude.{◌≡◌, false, List, [], ◌∷◌, ◌++◌, Some}
use Rattle.gb_registry.specs.Configure.{configure_faults}
use Rattle.gb_registry.specs.Projects.{Path, is_among}
use Rattle.gb_registry.specs.Said.{Said, paths_of, registered_path}
use Rattle.gb_registry.specs.Source.{Source}
use Rattle.gb_registry.specs.Tables.{Tables}

-- a path that a statement registers is not registered before it
abbrev pub PathsAreNew : {M F Z S A : Type 0} → Tables M F Z S A → Source → Type 0
PathsAreNew tables source =
    configure_faults tables source ≡ [] → (prefix back : List Said) (s : Said) (path : Path) →
    source.said ≡ prefix ++ s ∷ back → registered_path s ≡ Some path → is_among (paths_of prefix) path ≡ false
