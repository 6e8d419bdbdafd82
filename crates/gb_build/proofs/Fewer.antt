-- Contents that were read before and are in the folder need not be counted twice.
use Rattle.std.specs.Prelude.{◌++◌, List, [], ◌∷◌}
use Rattle.std.proofs.Common.{inl, inr}
use Rattle.gb_folder.specs.Files.{Bytes}
use Rattle.gb_semantics.specs.Label.{Moment}
use Rattle.gb_semantics.specs.Memory.{folder_contents}
use Rattle.gb_semantics.specs.Execution.{Builds, Guard, Rules, WorldState, Executions, first_moment, moment_after}
use Rattle.gb_semantics.proofs.Lemmas.Clear.{Among, found, in_left, in_one, in_right, listed}
use Rattle.gb_semantics.proofs.Lemmas.Plain.{Spreads}
use Rattle.gb_semantics.proofs.Existing.{with_execution}
use Rattle.gb_plan.specs.declared.plan.Planned.{Planned}
use Rattle.gb_report.specs.declared.report.TaskReport.{TaskReport}
use Rattle.gb_build.specs.Leading.{AreAmong}

pub among_of : (some all : List Bytes) → AreAmong some all → Among some all
among_of some all h c e = found all c (h c (listed some c e))

pub are_among : (some all : List Bytes) → Among some all → AreAmong some all
are_among some all h c within = listed all c (h c (found some c within))

-- the contents of the folder were counted
pub here_again : (observed here : List Bytes) → Among (observed ++ here ++ here) (observed ++ here)
here_again observed here c h = elim (in_one c (observed ++ here) here h) [ inl before ↦ before | inr exists ↦ in_right c observed here exists ]

pub both_more : (some all more : List Bytes) → Among some all → Among (some ++ more) (all ++ more)
both_more some all more among c h = elim (in_one c some more h) [ inl a ↦ in_left c all more (among c a) | inr b ↦ in_right c all more b ]

pub once_more : (observed here more : List Bytes) → Among (observed ++ here ++ here ++ more) (observed ++ here ++ more)
once_more observed here more = both_more (observed ++ here ++ here) (observed ++ here) more (here_again observed here)

module _ (rules : Rules) (assumed : Guard) (spreads : Spreads assumed) where
  -- executions that count more of the contents read are executions that count fewer, if both are the same
  -- together with those in the folder
  executions_fewer : (more observed : List Bytes) (rest : List Planned) (moment : Moment) (reports : List TaskReport) (new : WorldState)
      → Among (more ++ folder_contents moment.world) (observed ++ folder_contents moment.world)
      → Executions rules assumed more rest moment reports new → Executions rules assumed observed rest moment reports new
  executions_fewer more observed [] moment [] new among executions = executions
  executions_fewer more observed [] moment (report ∷ reports) new among executions = executions
  executions_fewer more observed (planned ∷ rest) moment [] new among executions = executions
  executions_fewer more observed (planned ∷ rest) moment (report ∷ reports) new among executions = (
    executions.0,
    with_execution executions.1 (λ given. executions.1.execution (spreads (observed ++ folder_contents moment.world) (more ++ folder_contents moment.world) among given)),
    executions_fewer (more ++ folder_contents moment.world) (observed ++ folder_contents moment.world) rest (moment_after moment report executions.0) reports new
        (both_more (more ++ folder_contents moment.world) (observed ++ folder_contents moment.world) (folder_contents executions.0.world) among) executions.2,
  )

  -- a build that counts the contents in the folder before it among those read is one that does not
  pub builds_fewer : (observed : List Bytes) (old : WorldState) (reports : List TaskReport) (new : WorldState)
      → Builds rules assumed (observed ++ folder_contents old.world) old reports new → Builds rules assumed observed old reports new
  builds_fewer observed old reports new builds = elim builds [
    | inl dry ↦ inl dry
    | inr run ↦ inr (
      run.0,
      executions_fewer (observed ++ folder_contents old.world) observed rules.plan (first_moment old) reports new (here_again observed (folder_contents old.world)) run.1,
    )
  ]
