use Rattle.std.proofs.Common.{◌≡◌, take, drop, map, vec_len, ◌∷◌, []}
use Rattle.gb_exec.specs.Notifying.{AllReported, reported_of}
use Rattle.gb_exec.proofs.notifying.notify.Given as goal

abbrev pub invariant-loop-at : goal.invariant-loop-at
invariant-loop-at g l =
    let ear = g.L.TaskListener.ear in
    record {
      len : vec_len l.listeners ≡ vec_len l.fn.listeners;
      done : AllReported (reported_of l.task l.ended ∷ []) l.all_heard (take l.at (map ear l.fn.listeners.items)) (take l.at (map ear l.listeners.items));
      rest : drop l.at (map ear l.listeners.items) ≡ drop l.at (map ear l.fn.listeners.items);
    }
