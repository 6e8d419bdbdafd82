-- The plan of two requested names: a need with a finalizer, the task after it, and another task.
use Rattle.std.specs.Prelude.{ℕ, zero, suc, ◌≡◌, ◌<◌, ◌↔◌, IsTrue, true, false, [], ◌∷◌, codes, refl, Ok, unwrap_or}
use Rattle.std.specs.List.{AllByRecursion}
use Rattle.std.proofs.Common.{arith, sym, ap, subst}
use Rattle.gb_folder.specs.Files.{is_empty}
use Rattle.gb_plan.specs.declared.plan.Planned.{Planned}
use Rattle.gb_plan.specs.declared.task.TaskDeclaration.{TaskDeclaration}
use Rattle.gb_plan.specs.Task.{Text, Path}
use Rattle.gb_plan.specs.Graph.{IsRegistry, Request, Plan, Reached, start, step, order, selected, selected_by, brings, leaves_out, is_scheduled_in, is_in_order, IsScheduled, WordReaches, IsFirstWord, IsSchedule, IsPlan, IsReadInOrder}
use Rattle.gb_plan.specs.Refusal.{request_of}
use Rattle.gb_plan.proofs.Tests.{at_each, not_true, not_false, reached_in}
use Rattle.gb_plan.proofs.Same.{plans_are_one}
use Rattle.gb_plan.proofs.RowTasks.{bad, fin, p, planned, q, registry}

pub is_registry : IsRegistry registry
is_registry = record {
  once = refl;
  declared = (
    record { own_path = refl; in_project = refl; registered = refl; shaped = λ e. absurd (not_true e); in_build_folder = refl },
    (
      record { own_path = refl; in_project = refl; registered = refl; shaped = λ e. absurd (not_true e); in_build_folder = refl },
      (
        record { own_path = refl; in_project = refl; registered = refl; shaped = λ e. absurd (not_true e); in_build_folder = refl },
        (
          record { own_path = refl; in_project = refl; registered = refl; shaped = λ e. absurd (not_true e); in_build_folder = refl },
          tt,
        ),
      ),
    ),
  );
}

-- not without its project
pub no_project : ¬ IsRegistry (record registry { projects = [] })
no_project is = not_true is.declared.0.in_project

abbrev pub request : Request
request = record { registry = registry; words = codes "q" ∷ codes "p" ∷ []; excluded = [] }

pub asked : request_of registry (codes "q" ∷ codes "p" ∷ []) [] ≡ Ok request
asked = refl

pub selection : selected request ≡ codes ":q" ∷ codes ":p" ∷ []
selection = refl

abbrev brought : TaskDeclaration → Planned
brought task = record { task = task; word = 0; is_selected = false }

abbrev pub plan : Plan
plan = brought bad ∷ brought fin ∷ planned q 0 ∷ planned p 1 ∷ []

-- ---- It is the plan of the request

reached_q : IsScheduled request (codes ":q")
reached_q = start refl refl

reached_bad : IsScheduled request (codes ":bad")
reached_bad = step reached_q refl refl

reached_fin : IsScheduled request (codes ":fin")
reached_fin = step reached_bad refl refl

scheduled : (path : Path) → IsTrue (is_scheduled_in plan path) ↔ IsScheduled request path
scheduled path = (
  λ h. at_each (IsScheduled request) (order plan) path (reached_bad, (reached_fin, (reached_q, (start refl refl, tt)))) h,
  λ r. reached_in (selected request) (brings registry) (leaves_out request) (order plan) refl refl r,
)

first_word : (path : Path) → Reached (codes ":q" ∷ []) (brings registry) (leaves_out request) path → IsFirstWord request path 0
first_word path r = record { reaches = (codes "q", refl, r); none_before = λ i h. absurd (omega arith) }

from_q : Reached (codes ":q" ∷ []) (brings registry) (leaves_out request) (codes ":q")
from_q = start refl refl

from_bad : Reached (codes ":q" ∷ []) (brings registry) (leaves_out request) (codes ":bad")
from_bad = step from_q refl refl

from_fin : Reached (codes ":q" ∷ []) (brings registry) (leaves_out request) (codes ":fin")
from_fin = step from_bad refl refl

not_from_q : (word : Text) → codes "q" ≡ word → ¬ Reached (selected_by registry word) (brings registry) (leaves_out request) (codes ":p")
not_from_q word e r =
    let at_q : Reached (selected_by registry (codes "q")) (brings registry) (leaves_out request) (codes ":p") =
    subst (λ w. Reached (selected_by registry w) (brings registry) (leaves_out request) (codes ":p")) (sym e) r in
    not_true (reached_in (selected_by registry (codes "q")) (brings registry) (leaves_out request) (codes ":q" ∷ codes ":bad" ∷ codes ":fin" ∷ []) refl refl at_q)

none_before_p : (i : ℕ) → i < 1 → ¬ WordReaches request i (codes ":p")
none_before_p zero h w = not_from_q w.0 (ap (λ o. unwrap_or o w.0) w.1) w.2
none_before_p (suc i) h w = absurd (omega arith)

word_of_p : IsFirstWord request (codes ":p") 1
word_of_p = record { reaches = (codes "p", refl, start refl refl); none_before = none_before_p }

pub schedule : IsSchedule request plan
schedule = record {
  scheduled = scheduled;
  declared = (refl, (refl, (refl, (refl, tt))));
  words = (first_word _ from_bad, (first_word _ from_fin, (first_word _ from_q, (word_of_p, tt))));
  selection = (refl, (refl, (refl, (refl, tt))));
  once = refl;
  in_order = refl;
}

reads_none : AllByRecursion (λ (reader : Planned). AllByRecursion (λ (writer : Planned). IsReadInOrder plan reader.task writer.task) plan) plan
reads_none = (
  (not_true, (not_true, (not_true, (not_true, tt)))),
  (
    (not_true, (not_true, (not_true, (not_true, tt)))),
    ((not_true, (not_true, (not_true, (not_true, tt)))), ((not_true, (not_true, (not_true, (not_true, tt)))), tt)),
  ),
)

pub is_plan : IsPlan request plan
is_plan = record {
  schedule = schedule;
  all_ready = refl;
  sound = record { outputs_separate = refl; inputs_separate = (refl, (refl, (refl, (refl, tt)))); declared = reads_none };
}

-- ---- And no other is

-- one without tasks
pub not_empty : ¬ IsPlan request []
not_empty other = not_false (ap is_empty (plans_are_one request [] plan other is_plan))

-- one that leaves out the finalizer
pub finalizer_is_scheduled : ¬ IsPlan request (brought bad ∷ planned q 0 ∷ planned p 1 ∷ [])
finalizer_is_scheduled other = not_true ((other.schedule.scheduled (codes ":fin")).1 reached_fin)

-- one in which the finalizer is before the task that it finalizes
pub not_turned : ¬ IsPlan request (brought fin ∷ brought bad ∷ planned q 0 ∷ planned p 1 ∷ [])
not_turned other = not_true other.schedule.in_order

-- one in which the second name's task comes first
pub not_by_path : ¬ IsPlan request (brought bad ∷ brought fin ∷ planned p 1 ∷ planned q 0 ∷ [])
not_by_path other = not_true other.schedule.in_order

-- one with a task twice
pub not_twice : ¬ IsPlan request (brought bad ∷ brought fin ∷ planned q 0 ∷ planned p 1 ∷ planned p 1 ∷ [])
not_twice other = not_true other.schedule.once

-- one with a task that no requested name reaches
abbrev only_p : Request
only_p = record { registry = registry; words = codes "p" ∷ []; excluded = [] }

pub not_too_many : ¬ IsPlan only_p (brought fin ∷ planned p 0 ∷ [])
not_too_many other =
    not_true (reached_in (selected only_p) (brings registry) (leaves_out only_p) (codes ":p" ∷ []) refl refl ((other.schedule.scheduled (codes ":fin")).0 refl))

-- ---- What is left out never enters

abbrev pub without_bad : Request
without_bad = record { registry = registry; words = codes "q" ∷ []; excluded = codes ":bad" ∷ [] }

pub asked_without : request_of registry (codes "q" ∷ []) (codes "bad" ∷ []) ≡ Ok without_bad
asked_without = refl

-- neither the task that is left out, nor its finalizer
pub excluded_enters_not : (path : Path) → IsScheduled without_bad path → is_scheduled_in (planned q 0 ∷ []) path ≡ true
excluded_enters_not path r = reached_in (selected without_bad) (brings registry) (leaves_out without_bad) (codes ":q" ∷ []) refl refl r

-- the task that needs it is alone, and is ready
pub alone_in_order : is_in_order (planned q 0 ∷ []) [] (planned q 0 ∷ []) ≡ true
alone_in_order = refl
