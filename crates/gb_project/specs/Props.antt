-- Facts that hold in at most one way, so ghost fields may state them.
use Rattle.std.specs.Prelude.{Bool, List, ℕ, Result, Ok, Err, IfOk}
use Rattle.std.specs.Coded.{Coded-set, Unit-prop, coded_bool, coded_list, coded_ℕ, codes}
use Rattle.std.specs.List.{AllByRecursion-prop}
use Rattle.gb_plan.specs.Graph.{IsDeclared, IsRegistry, Registry}
use Rattle.gb_plan.specs.Task.{Path}
use Rattle.gb_plan.specs.declared.task.TaskDeclaration.{TaskDeclaration}
use Rattle.gb_registry.specs.Source.{Source}
use Rattle.gb_report.specs.declared.fault.Fault.{Fault}
use Rattle.gb_script.specs.Coding.{tree_code}

bool_set : IsSet Bool
bool_set = Coded-set coded_bool

bytes_set : IsSet (List ℕ)
bytes_set = Coded-set (coded_list coded_ℕ)

pub source_set : IsSet Source
source_set = Coded-set (Prim.hlevel (codes, tree_code))

module _ (registry : Registry) where
  declared-prop : (path : Path) (task : TaskDeclaration) → IsProp (IsDeclared registry path task)
  declared-prop path task = Prim.hlevel (bool_set, bytes_set)

  -- what is registered under a path, if it is declared
  abbrev IsEntry : Path × Result TaskDeclaration Fault → Type 0
  IsEntry entry = IfOk entry.1 (IsDeclared registry entry.0)

  if_declared-prop : (path : Path) (declared : Result TaskDeclaration Fault)
      → IsProp (IsEntry (path, declared))
  if_declared-prop path (Ok task) = declared-prop path task
  if_declared-prop path (Err fault) = Unit-prop

  pub IsRegistry-prop : IsProp (IsRegistry registry)
  IsRegistry-prop =
      let each = AllByRecursion-prop IsEntry (λ entry. if_declared-prop entry.0 entry.1) registry.tasks in
      Prim.hlevel (bool_set, each)
