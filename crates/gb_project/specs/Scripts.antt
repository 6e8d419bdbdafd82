-- The registered tasks of scripts in the form that a plan requests.
use Rattle.gb_action.specs.Meanings as of_actions
use Rattle.gb_declare.specs.Registered.{registry_said}
use Rattle.gb_plan.specs.Graph.{Registry}
use Rattle.gb_provider.specs.Meanings as of_functions
use Rattle.gb_registry.specs.Tables.{tables_of}
use Rattle.gb_project.specs.Workspace.{Space}

-- what the scripts of a workspace register
abbrev pub registry_in : {N U M F Z S A : Type 0} → of_functions.Meanings M F Z S → of_actions.Meanings A
    → Space N U A M F Z S → Registry
registry_in means shapes space = registry_said (tables_of means shapes space.tables) space.source
