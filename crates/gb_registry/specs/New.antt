-- Scripts of projects without earlier statements.
use Rattle.std.specs.Prelude.{◌≡◌, List, [], ◌∷◌, ◌++◌}
use Rattle.gb_script.specs.declared.script.Statement.{Statement}
use Rattle.gb_registry.specs.Projects.{Path}
use Rattle.gb_registry.specs.Said.{Said, said_by, script_of}

-- none of the projects has a statement before its script
abbrev pub AreNew : List Said → List (Path × List Statement) → Type 0
AreNew before [] = Unit {0}
AreNew before (script ∷ scripts) =
    (script_of before script.0 ≡ []) × AreNew (before ++ said_by script) scripts
