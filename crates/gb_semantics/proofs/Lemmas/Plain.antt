-- Where no two contents of a run share a digest, every step of it is unconditional; and success follows from
-- the other clauses of a build.
use Rattle.std.specs.Prelude.{ℕ, List, [], ◌∷◌, ◌++◌, ⊤}
use Rattle.std.proofs.Common.{inl, inr}
use Rattle.gb_report.specs.declared.report.Options.{Options}
use Rattle.gb_report.specs.declared.report.TaskReport.{TaskReport}
use Rattle.gb_semantics.proofs.Existing.{rules_of, existing, with_execution}
use Rattle.gb_semantics.specs.declared.events.Event.{Event}
use Rattle.gb_semantics.specs.declared.events.Event.TheVariants as events
use Rattle.gb_semantics.specs.declared.events.Answer.{Answer}
use Rattle.gb_semantics.specs.declared.events.Answer.TheVariants as answers
use Rattle.gb_folder.specs.Files.{Bytes}
use Rattle.gb_semantics.specs.Kinds.{Kinds}
use Rattle.gb_semantics.specs.Memory.{World, folder_contents}
use Rattle.gb_semantics.specs.TrueRecord.{AreCollisionFree}
use Rattle.gb_plan.specs.Graph.{Plan, Request, IsPlan}
use Rattle.gb_plan.specs.declared.plan.Planned.{Planned}
use Rattle.gb_semantics.specs.Label.{Moment}
use Rattle.gb_semantics.specs.Execution.{May, Guard, Executions, Builds, moment_after}
use Rattle.gb_semantics.specs.Edits.{Shown}
use Rattle.gb_semantics.specs.Events.{Setting, State, Step, may_occur, own_files, world_in}
use Rattle.gb_semantics.specs.Headline.{GoesThrough, IsClear, StillClear, contents_outside, observed_with, state_of}
use Rattle.gb_semantics.specs.Every.{UnconditionalRun, ClearRunIsUnconditional, AllSucceed, EverySuccessIsFromScratch, Headline}
use Rattle.gb_semantics.specs.Every.{contents_of_all, always}
use Rattle.gb_semantics.proofs.Lemmas.Clear.{Among, separate_of_fewer, all_hold}
use Rattle.gb_semantics.proofs.Lemmas.Every.{up_to_here, joined, step_succeeds}

-- ---- A build without a condition on digests

-- a guard that holds for fewer contents where it holds for more
abbrev pub Spreads : Guard → Type 0
Spreads assumed = (all some : List Bytes) → Among some all → assumed all → assumed some

-- where nothing has a premise, the contents so far do not matter
any_observed : (kinds : Kinds) (options : Options) (may : May) (plan : Plan) (observed other : List Bytes) (rest : List Planned) (moment : Moment) (reports : List TaskReport) (new : World) (failures : ℕ)
    → Executions (rules_of kinds options may plan) always observed rest moment reports (existing new failures) → Executions (rules_of kinds options may plan) always other rest moment reports (existing new failures)
any_observed kinds options may plan observed other [] moment [] new failures executions = executions
any_observed kinds options may plan observed other [] moment (report ∷ reports) new failures executions = executions
any_observed kinds options may plan observed other (planned ∷ rest) moment [] new failures executions = executions
any_observed kinds options may plan observed other (planned ∷ rest) moment (report ∷ reports) new failures executions = (
  executions.0,
  with_execution executions.1 executions.1.execution,
  any_observed kinds options may plan (observed ++ folder_contents moment.world) (other ++ folder_contents moment.world) rest (moment_after moment report executions.0) reports new failures executions.2,
)

module _ (setting : Setting) (assumed : Guard) (spreads : Spreads assumed) where
  pub plain_builds : (may : May) (options : Options) (request : Request) (plan : Plan) (observed other : List Bytes) (before after : ℕ) (old new : World) (reports : List TaskReport) → IsPlan request plan
      → assumed (observed ++ folder_contents old ++ folder_contents new)
      → Builds (rules_of setting.kinds options may plan) assumed observed (existing old before) reports (existing new after) → Builds (rules_of setting.kinds options may plan) always other (existing old before) reports (existing new after)
  plain_builds may options request plan observed other before after old new reports is_plan given builds = elim builds [
    | inl dry ↦ inl dry
    | inr run ↦ inr (
      run.0,
      any_observed setting.kinds options may plan observed other plan (record { world = old; outcomes = []; failures = before }) reports new after
          (all_hold setting.kinds options may plan assumed spreads observed plan (record { world = old; outcomes = []; failures = before }) reports new after is_plan.sound.outputs_separate given run.1),
    )
  ]

  step_plain : (observed : List Bytes) (old new : State) (event : Event) (answer : Answer)
      → assumed (observed_with observed old new) → Step setting assumed observed old event answer new → (other : List Bytes) → Step setting always other old event answer new
  step_plain observed old new (events.Put place bytes) answer given s other = s
  step_plain observed old new (events.Remove place) answer given s other = s
  step_plain observed old new events.Lost answer given s other = s
  step_plain observed old new (events.Invoke invocation) (answers.Built report) given s other = record {
    plan = s.plan;
    planned = s.planned;
    dry_run = s.dry_run;
    elsewhere = s.elsewhere;
    dry_keeps = s.dry_keeps;
    builds = plain_builds (may_occur setting (own_files old.contents) invocation.options) invocation.options s.planned.request s.plan observed other old.failures new.failures (world_in old) (world_in new) report.tasks s.planned.planned given s.builds;
    success = λ _. s.success given;
  }
  step_plain observed old new (events.Invoke invocation) (answers.NotBuilt fault) given s other = s
  step_plain observed old new (events.Invoke invocation) answers.Edited given s other = s
  step_plain observed old new (events.Invoke invocation) (answers.Refused fault) given s other = s

module _ (setting : Setting) where
  pub clear_spreads : (clear : Type 0) (old : State) → Spreads (StillClear setting clear old)
  clear_spreads clear old all some among given = (given.0, elim given.1 [ inl none ↦ inl none | inr separate ↦ inr (separate_of_fewer setting.digest all some among separate) ])

  run_plain : (clear : Type 0) (observed : List Bytes) (old : State) (states : List State) (all : List Event) (reported : List Answer) (end : Shown)
      → GoesThrough setting clear observed old states all reported end
      → clear → AreCollisionFree setting.digest (observed ++ contents_of_all (old ∷ states)) → UnconditionalRun setting old states all reported end
  run_plain clear observed old [] [] [] end run is_clear separate = run
  run_plain clear observed old (next ∷ states) (event ∷ rest) (answer ∷ others) end run is_clear separate =
      let here_observed : List Bytes = contents_outside old.contents in
      let here : IsClear setting old.remembered (observed_with observed old next) =
      inr (separate_of_fewer setting.digest (observed ++ contents_of_all (old ∷ next ∷ states)) (observed_with observed old next)
      (up_to_here observed here_observed (contents_outside next.contents) (contents_of_all states)) separate) in (
        run.0,
        step_plain setting (StillClear setting clear old) (clear_spreads clear old) observed old next event answer (is_clear, here) run.1,
        run.2 (is_clear, here),
        run_plain (StillClear setting clear old (observed_with observed old next)) (observed ++ here_observed) next states rest others end run.3 (is_clear, here)
            (separate_of_fewer setting.digest (observed ++ contents_of_all (old ∷ next ∷ states)) ((observed ++ here_observed) ++ contents_of_all (next ∷ states))
            (joined observed here_observed (contents_of_all (next ∷ states))) separate),
      )
  run_plain clear observed old [] [] (answer ∷ others) end run is_clear separate = absurd run
  run_plain clear observed old [] (event ∷ rest) [] end run is_clear separate = absurd run
  run_plain clear observed old [] (event ∷ rest) (answer ∷ others) end run is_clear separate = absurd run
  run_plain clear observed old (next ∷ states) [] [] end run is_clear separate = absurd run
  run_plain clear observed old (next ∷ states) [] (answer ∷ others) end run is_clear separate = absurd run
  run_plain clear observed old (next ∷ states) (event ∷ rest) [] end run is_clear separate = absurd run

pub plain : (setting : Setting) → ClearRunIsUnconditional setting
plain setting start states all reported end run separate = run_plain setting ⊤ _ start states all reported end run tt separate

-- in a collision-free execution of a list of events each success is from scratch
plain_succeeds : (setting : Setting) (old : State) (states : List State) (all : List Event) (reported : List Answer) (end : Shown)
    → UnconditionalRun setting old states all reported end → AllSucceed setting old states all reported end
plain_succeeds setting old [] [] [] end run = run.1
plain_succeeds setting old (next ∷ states) (event ∷ rest) (answer ∷ others) end run =
    (step_succeeds setting always [] old next event answer tt (run.1 []), plain_succeeds setting next states rest others end run.3)
plain_succeeds setting old [] [] (answer ∷ others) end run = absurd run
plain_succeeds setting old [] (event ∷ rest) [] end run = absurd run
plain_succeeds setting old [] (event ∷ rest) (answer ∷ others) end run = absurd run
plain_succeeds setting old (next ∷ states) [] [] end run = absurd run
plain_succeeds setting old (next ∷ states) [] (answer ∷ others) end run = absurd run
plain_succeeds setting old (next ∷ states) (event ∷ rest) [] end run = absurd run

pub every : (setting : Setting) → EverySuccessIsFromScratch setting
every setting start states all reported end run separate =
    plain_succeeds setting start states all reported end (plain setting start states all reported end run separate)

pub headline : (setting : Setting) → Headline setting
headline setting old end all reported holds remembered exists =
    let run = holds remembered exists in (
      run.0,
      run.1,
      λ separate.
          let is_plain = plain setting (state_of old remembered) run.0 all reported end run.1 separate in
          (is_plain, plain_succeeds setting (state_of old remembered) run.0 all reported end is_plain),
    )
