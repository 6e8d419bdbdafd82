-- What continues a run, and what is one whole run of an event.
use Rattle.std.specs.Prelude.{◌≡◌, ◌≤◌, ◌++◌, Bool, true, IsTrue, List, [], ◌∷◌, Result, ⊤}
use Rattle.std.proofs.Common.{refl, sym, subst, arith}
use Rattle.gb_folder.specs.Files.{Bytes, Contents}
use Rattle.gb_semantics.specs.declared.events.Answer.{Answer}
use Rattle.gb_semantics.specs.declared.events.Answer.TheVariants as answers
use Rattle.gb_semantics.specs.declared.events.Event.{Event}
use Rattle.gb_semantics.specs.declared.events.Event.TheVariants as events
use Rattle.gb_semantics.specs.declared.events.Invocation.{Invocation}
use Rattle.gb_semantics.specs.Edits.{Shown}
use Rattle.gb_semantics.specs.Events.{Setting, State, Step, may_occur, own_files, world_in}
use Rattle.gb_semantics.specs.Headline.{InvocationHolds, HoldsMemory, StillClear, answer_of, contents_outside, state_of}
use Rattle.gb_semantics.specs.Memory.{Memory, folder_contents}
use Rattle.gb_semantics.specs.TrueRecord.{memory_contents}
use Rattle.gb_semantics.specs.Execution.{Guard}
use Rattle.gb_semantics.proofs.Lemmas.Clear.{in_left}
use Rattle.gb_semantics.proofs.Lemmas.Weaker.{builds_weaker}
use Rattle.gb_report.specs.declared.fault.Fault.{Fault}
use Rattle.gb_report.specs.declared.report.Report.{Report}
use Rattle.gb_build.specs.Leading.{AreAmong, IsTransition, LeadsTo, HoldsObserved}
use Rattle.gb_build.proofs.Fewer.{among_of, are_among}

-- contents that were read, and more of them
pub observed_more : (some observed more : List Bytes) → AreAmong some observed → AreAmong some (observed ++ more)
observed_more some observed more within = are_among some (observed ++ more) (λ c h. in_left c observed more (among_of some observed within c h))

-- an event that changes nothing, and after which the same is remembered
pub nothing_leads : (setting : Setting) (old end : Shown) (event : Event) (answer : Answer) → end.contents ≡ old.contents
    → (remembered : Memory) (clear : Bool) (observed : List Bytes) → (IsTrue clear → HoldsObserved setting observed (state_of old remembered))
    → Step setting (StillClear setting (IsTrue clear) (state_of old remembered)) observed (state_of old remembered) event answer (state_of end remembered)
    → LeadsTo setting clear observed (state_of old remembered) event answer end
nothing_leads setting old end event answer same remembered clear observed worth step = record {
  remembered = remembered;
  step = step;
  exists = λ given.
      let existed = worth given.0 in (
        subst (λ (contents : Contents). HoldsMemory setting contents remembered) (sym same) existed.0,
        observed_more (memory_contents (world_in (state_of old remembered))) (observed ++ contents_outside old.contents) (contents_outside end.contents) existed.1,
      );
}

-- a step is also one where less is assumed
pub step_weaker : (setting : Setting) (assumed less : Guard) → ((contents : List Bytes) → less contents → assumed contents)
    → (observed : List Bytes) (old : State) (event : Event) (answer : Answer) (new : State) → Step setting assumed observed old event answer new → Step setting less observed old event answer new
step_weaker setting assumed less grants observed old (events.Put place bytes) answer new step = step
step_weaker setting assumed less grants observed old (events.Remove place) answer new step = step
step_weaker setting assumed less grants observed old events.Lost answer new step = step
step_weaker setting assumed less grants observed old (events.Invoke invocation) (answers.Built report) new step = record {
  plan = step.plan;
  planned = step.planned;
  dry_run = step.dry_run;
  elsewhere = step.elsewhere;
  dry_keeps = step.dry_keeps;
  builds = builds_weaker setting.kinds invocation.options step.plan (may_occur setting (own_files old.contents) invocation.options) (may_occur setting (own_files old.contents) invocation.options)
      (λ task moment next fault may. may) assumed less grants observed old.failures new.failures (world_in old) (world_in new) report.tasks step.builds;
  success = λ given. step.success (grants (observed ++ folder_contents (world_in old) ++ folder_contents (world_in new)) given);
}
step_weaker setting assumed less grants observed old (events.Invoke invocation) (answers.NotBuilt fault) new step = step
step_weaker setting assumed less grants observed old (events.Invoke invocation) answers.Edited new step = step
step_weaker setting assumed less grants observed old (events.Invoke invocation) (answers.Refused fault) new step = step

-- what continues a run from true records is one invocation
pub led_holds : (setting : Setting) (old end : Shown) (invocation : Invocation) (result : Result Report Fault) → old.failures ≤ end.failures
    → IsTransition setting old (events.Invoke invocation) (answer_of result) end → InvocationHolds setting old invocation result end
led_holds setting old end invocation result count leads remembered exists =
    let start : State = state_of old remembered in
    let all : List Bytes = memory_contents (world_in start) in
    let led = leads remembered true all (λ _. (exists, observed_more all all (contents_outside old.contents) (λ bytes within. within))) in (
      state_of end led.remembered ∷ [],
      (
        count,
        step_weaker setting (StillClear setting (IsTrue true) start) (StillClear setting ⊤ start) (λ contents given. (refl, given.1)) all start
            (events.Invoke invocation) (answer_of result) (state_of end led.remembered) led.step,
        λ given. (led.exists (refl, given.1)).0,
        (omega arith, refl),
      ),
    )
