-- Cycles of tasks, through needs, orders and finalizers.
use Rattle.std.specs.Prelude.{List, [], ◌∷◌, codes, refl}
use Rattle.gb_report.specs.declared.fault.Fault.TheVariants as faults
use Rattle.gb_plan.specs.declared.task.TaskDeclaration.{TaskDeclaration}
use Rattle.gb_plan.specs.Task.{Path}
use Rattle.gb_plan.specs.Graph.{Plan}
use Rattle.gb_plan.specs.Refusal.{is_there, goes, IsScheduleFault, has_cycle}
use Rattle.gb_plan.proofs.RowTasks.{plain, planned}

abbrev needing : Path → List Path → TaskDeclaration
needing path needs = plain path [] needs []

-- `:a` needs `:b`, `:b` needs `:c`, and `:c` needs `:a`
abbrev pub round : Plan
round = planned (needing (codes ":b") (codes ":c" ∷ [])) 0 ∷ planned (needing (codes ":c") (codes ":a" ∷ [])) 0 ∷ planned (needing (codes ":a") (codes ":b" ∷ [])) 0 ∷ []

pub cycle_of_three : IsScheduleFault round (faults.Cycle (codes ":a" ∷ codes ":b" ∷ codes ":c" ∷ []))
cycle_of_three = has_cycle (record {
  some_stuck = refl;
  cycle = _;
  is_cycle = record {
    start = codes ":a";
    first = codes ":a";
    way = [];
    from_least = record { is_in = refl; least = refl };
    comes_to = is_there;
    goes_round = goes (record { is_in = refl; least = refl }) (goes (record { is_in = refl; least = refl }) (goes (record { is_in = refl; least = refl }) is_there));
    once = refl;
    least_first = record { is_in = refl; least = refl };
  };
  reported = refl;
})

-- the least unplaced task leads into a cycle that it is not on: `:a` needs `:c`, which must run after `:b`,
-- which needs `:c`
abbrev pub into : Plan
into = planned (needing (codes ":a") (codes ":c" ∷ [])) 0 ∷ planned (needing (codes ":b") (codes ":c" ∷ [])) 0
    ∷ planned (record (needing (codes ":c") []) { must_run_after = codes ":b" ∷ [] }) 0 ∷ []

pub cycle_through_order : IsScheduleFault into (faults.Cycle (codes ":b" ∷ codes ":c" ∷ []))
cycle_through_order = has_cycle (record {
  some_stuck = refl;
  cycle = _;
  is_cycle = record {
    start = codes ":a";
    first = codes ":b";
    way = codes ":a" ∷ codes ":c" ∷ [];
    from_least = record { is_in = refl; least = refl };
    comes_to = goes (record { is_in = refl; least = refl }) (goes (record { is_in = refl; least = refl }) is_there);
    goes_round = goes (record { is_in = refl; least = refl }) (goes (record { is_in = refl; least = refl }) is_there);
    once = refl;
    least_first = record { is_in = refl; least = refl };
  };
  reported = refl;
})

-- a task that needs its own finalizer
abbrev pub finalized : Plan
finalized = planned (plain (codes ":a") [] (codes ":f" ∷ []) (codes ":f" ∷ [])) 0 ∷ planned (needing (codes ":f") []) 0 ∷ []

pub cycle_through_finalizer : IsScheduleFault finalized (faults.Cycle (codes ":a" ∷ codes ":f" ∷ []))
cycle_through_finalizer = has_cycle (record {
  some_stuck = refl;
  cycle = _;
  is_cycle = record {
    start = codes ":a";
    first = codes ":a";
    way = [];
    from_least = record { is_in = refl; least = refl };
    comes_to = is_there;
    goes_round = goes (record { is_in = refl; least = refl }) (goes (record { is_in = refl; least = refl }) is_there);
    once = refl;
    least_first = record { is_in = refl; least = refl };
  };
  reported = refl;
})
