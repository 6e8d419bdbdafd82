-- What a step implies for a build in which no task failed, and which contents are among those of a run.
use Rattle.std.specs.Prelude.{List, ◌++◌}
use Rattle.std.proofs.Common.{inl, inr}
use Rattle.gb_semantics.specs.declared.events.Event.{Event}
use Rattle.gb_semantics.specs.declared.events.Event.TheVariants as events
use Rattle.gb_semantics.specs.declared.events.Answer.{Answer}
use Rattle.gb_semantics.specs.declared.events.Answer.TheVariants as answers
use Rattle.gb_folder.specs.Files.{Bytes}
use Rattle.gb_semantics.specs.Execution.{Guard}
use Rattle.gb_semantics.specs.Events.{Setting, State, Step}
use Rattle.gb_semantics.specs.Headline.{observed_with}
use Rattle.gb_semantics.specs.Every.{Succeeds}
use Rattle.gb_semantics.proofs.Lemmas.Clear.{Among, in_left, in_right, in_one}

-- the contents so far, and those before and after an event, are among all
pub up_to_here : (observed here next rest : List Bytes) → Among (observed ++ here ++ next) (observed ++ (here ++ (next ++ rest)))
up_to_here observed here next rest c h = elim (in_one c (observed ++ here) next h) [
  | inl earlier ↦ elim (in_one c observed here earlier) [
    | inl in_observed ↦ in_left c observed (here ++ (next ++ rest)) in_observed
    | inr in_here ↦ in_right c observed (here ++ (next ++ rest)) (in_left c here (next ++ rest) in_here)
  ]
  | inr in_next ↦ in_right c observed (here ++ (next ++ rest)) (in_right c here (next ++ rest) (in_left c next rest in_next))
]

-- the same contents, otherwise joined
pub joined : (observed here rest : List Bytes) → Among (observed ++ here ++ rest) (observed ++ (here ++ rest))
joined observed here rest c h = elim (in_one c (observed ++ here) rest h) [
  | inr later ↦ in_right c observed (here ++ rest) (in_right c here rest later)
  | inl earlier ↦ elim (in_one c observed here earlier) [
    | inl in_observed ↦ in_left c observed (here ++ rest) in_observed
    | inr in_here ↦ in_right c observed (here ++ rest) (in_left c here rest in_here)
  ]
]

module _ (setting : Setting) where
  pub step_succeeds : (assumed : Guard) (observed : List Bytes) (old new : State) (event : Event) (answer : Answer)
      → assumed (observed_with observed old new) → Step setting assumed observed old event answer new → Succeeds setting old.contents event answer new.contents
  step_succeeds assumed observed old new (events.Put place bytes) answer given s = tt
  step_succeeds assumed observed old new (events.Remove place) answer given s = tt
  step_succeeds assumed observed old new events.Lost answer given s = tt
  step_succeeds assumed observed old new (events.Invoke invocation) (answers.Built report) given s =
      λ none. let success = s.success given none in record { plan = s.plan; planned = s.planned; started = success.0; files = success.1 }
  step_succeeds assumed observed old new (events.Invoke invocation) answers.Edited given s = tt
  step_succeeds assumed observed old new (events.Invoke invocation) (answers.Refused fault) given s = tt
  step_succeeds assumed observed old new (events.Invoke invocation) (answers.NotBuilt fault) given s = tt
