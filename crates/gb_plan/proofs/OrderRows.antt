-- Two tasks where one reads what the other writes: overlaps, reads without an order, and orders.
use Rattle.std.specs.Prelude.{◌≡◌, true, false, [], ◌∷◌, codes, refl, Ok}
use Rattle.std.proofs.Common.{lit<}
use Rattle.gb_report.specs.declared.fault.Fault.TheVariants as faults
use Rattle.gb_plan.specs.declared.task.TaskDeclaration.{TaskDeclaration}
use Rattle.gb_plan.specs.Graph.{Request, Plan, start, selected, brings, leaves_out, after, after_at, is_in_order, IsScheduled, IsAfter, IsSound}
use Rattle.gb_plan.specs.Refusal.{Conflict, IsScheduleFault, has_overlap, has_own_input, is_undeclared}
use Rattle.gb_plan.proofs.Tests.{not_true, reached_in}
use Rattle.gb_plan.proofs.Refused.{no_overlap, no_own_input}
use Rattle.gb_plan.proofs.Conflicts.{least_overlap, least_own_input, least_undeclared}
use Rattle.gb_plan.proofs.RowTasks.{planned, to_file, to_folder, a, b, reads_x, two}

-- ---- Overlapping outputs

abbrev pub overlapping : Plan
overlapping = two (b (codes "src") (to_folder (codes "build/x")) [] [])

abbrev at_x : Conflict
at_x = record { task = codes ":a"; other = codes ":b"; place = codes "build/x" }

-- the lesser task is named first
pub overlap_reported : IsScheduleFault overlapping (faults.OverlappingOutputs (codes ":a") (codes ":b") (codes "build/x"))
overlap_reported = has_overlap (record {
  all_ready = refl;
  conflict = at_x;
  is_least = least_overlap overlapping at_x
      (record { prefix = []; back = (codes ":b", codes "build/x") ∷ []; exists = refl; overlapped = refl }) refl;
  reported = refl;
})

-- two outputs of one task
abbrev pub doubled : TaskDeclaration
doubled = record a { outputs = to_folder (codes "build/x") ∷ to_file (codes "build/x/y") ∷ [] }

pub own_overlap_reported : IsScheduleFault (planned doubled 0 ∷ []) (faults.OverlappingOutputs (codes ":a") (codes ":a") (codes "build/x"))
own_overlap_reported = has_overlap (record {
  all_ready = refl;
  conflict = record { task = codes ":a"; other = codes ":a"; place = codes "build/x" };
  is_least = least_overlap (planned doubled 0 ∷ []) _
      (record { prefix = []; back = (codes ":a", codes "build/x/y") ∷ []; exists = refl; overlapped = refl }) refl;
  reported = refl;
})

-- ---- An own output as input

abbrev pub reads_itself : Plan
reads_itself = planned (b (codes "build") (to_file (codes "build/y")) [] []) 0 ∷ []

pub own_input_reported : IsScheduleFault reads_itself (faults.OwnOutputAsInput (codes ":b") (codes "build"))
own_input_reported = has_own_input (record {
  all_ready = refl;
  outputs_separate = no_overlap reads_itself refl;
  conflict = record { task = codes ":b"; other = codes ":b"; place = codes "build" };
  is_least = least_own_input reads_itself _
      (record {
        task = b (codes "build") (to_file (codes "build/y")) [] [];
        is_task = refl;
        is_same = refl;
        reads = record { reader_in = (0, lit< tt, refl); writer_in = (0, lit< tt, refl); is_root = refl; overlapped = refl };
      }) refl;
  reported = refl;
})

-- ---- An undeclared dependency

abbrev pub undeclared : Plan
undeclared = two (reads_x [] [])

b_not_after_a : ¬ IsAfter undeclared (reads_x [] []) (codes ":a")
b_not_after_a r = not_true (reached_in (after undeclared (reads_x [] [])) (after_at undeclared) _ [] refl refl r)

pub undeclared_reported : IsScheduleFault undeclared (faults.UndeclaredDependency (codes ":b") (codes ":a") (codes "build/x"))
undeclared_reported = is_undeclared (record {
  all_ready = refl;
  outputs_separate = no_overlap undeclared refl;
  inputs_separate = no_own_input undeclared (refl, (refl, tt));
  conflict = record { task = codes ":b"; other = codes ":a"; place = codes "build/x" };
  is_least = least_undeclared undeclared _
      (record {
        reader = reads_x [] [];
        writer = a;
        is_reader = refl;
        is_writer = refl;
        two = refl;
        reads = record { reader_in = (1, lit< tt, refl); writer_in = (0, lit< tt, refl); is_root = refl; overlapped = refl };
        not_after = b_not_after_a;
      }) refl;
  reported = refl;
})

-- ---- With an order it is declared

abbrev pub ordered : Plan
ordered = planned a 1 ∷ planned (reads_x [] (codes ":a" ∷ [])) 0 ∷ []

pub ordered_in_order : is_in_order ordered [] ordered ≡ true
ordered_in_order = refl

pub ordered_sound : IsSound ordered
ordered_sound = record {
  outputs_separate = refl;
  inputs_separate = (refl, (refl, tt));
  declared = ((λ reads same. not_true reads, (λ reads same. not_true reads, tt)), ((λ reads same. start refl refl, (λ reads same. not_true reads, tt)), tt));
}

-- an order that forgets `mustRunAfter`
pub order_is_kept : (let turned = planned (reads_x [] (codes ":a" ∷ [])) 0 ∷ planned a 1 ∷ [] in is_in_order turned [] turned) ≡ false
order_is_kept = refl

-- by itself the reader is the whole plan
pub alone_in_order : (let alone = planned (reads_x [] (codes ":a" ∷ [])) 0 ∷ [] in is_in_order alone [] alone) ≡ true
alone_in_order = refl

-- an order schedules nothing
abbrev pub only_b : Request
only_b = record {
  registry = record { projects = codes ":" ∷ []; tasks = (codes ":a", Ok a) ∷ (codes ":b", Ok (reads_x [] (codes ":a" ∷ []))) ∷ []; default_tasks = [] };
  words = codes "b" ∷ [];
  excluded = [];
}

pub order_schedules_nothing : ¬ IsScheduled only_b (codes ":a")
order_schedules_nothing r = not_true (reached_in (selected only_b) (brings only_b.registry) (leaves_out only_b) (codes ":b" ∷ []) refl refl r)
