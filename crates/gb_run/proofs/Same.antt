-- Equal slices have equal properties.
use Rattle.std.specs.Prelude.{◌≡◌, true, List, [], ◌∷◌, Option}
use Rattle.std.specs.List.{AllByRecursion}
use Rattle.std.specs.Borrow.{Bor}
use Rattle.std.proofs.Common.{sym, subst}
use Rattle.gb_folder.specs.Files.{Bytes, Place}
use Rattle.gb_action.specs.declared.output_files.OutputFiles.{OutputFiles}
use Rattle.gb_action.specs.declared.reply.OutputPath.{OutputPath}
use Rattle.gb_action.specs.declared.reply.Written.{Written}
use Rattle.gb_plan.specs.declared.task.Output.{Output}
use Rattle.gb_run.specs.Placing.{faults_beside}
use Rattle.gb_run.specs.Named.{held_after, steps_of}
use Rattle.gb_run.specs.Steps.{Step, in_step_order}
use Rattle.gb_run.specs.ChangeTexts.{shown_steps}
use Rattle.gb_run.proofs.AtOutputs.{is_at}
use Rattle.gb_run.proofs.Small.{steps_at_outputs}

pub same_held : (o p : List Output) (s t : List OutputFiles) (r q : List OutputPath) (w v : List Written) → o ≡ p → s ≡ t → r ≡ q → w ≡ v
    → faults_beside o [] (held_after o s r w) ≡ faults_beside p [] (held_after p t q v)
same_held o p s t r q w v a b c d = λ i. faults_beside (a i) [] (held_after (a i) (b i) (c i) (d i))

pub same_steps : (o p : List Output) (r q : List OutputPath) (w v : List Written) → o ≡ p → r ≡ q → w ≡ v → in_step_order (steps_of o r w) ≡ in_step_order (steps_of p q v)
same_steps o p r q w v a c d = λ i. in_step_order (steps_of (a i) (c i) (d i))

-- the steps of a reply are at the outputs of its task
pub steps_at : (o p : List Output) (r : List OutputPath) (w : List Written) (steps : List Step) → o ≡ p → steps ≡ in_step_order (steps_of o r w) → AllByRecursion (λ (s : Step). is_at p s.0 ≡ true) steps
steps_at o p r w steps same is =
    subst (λ (ss : List Step). AllByRecursion (λ (s : Step). is_at p s.0 ≡ true) ss) (sym is)
    (subst (λ (outs : List Output). AllByRecursion (λ (s : Step). is_at outs s.0 ≡ true) (in_step_order (steps_of o r w))) same (steps_at_outputs o r w))

-- what holds of places holds of them in a row
pub all_shown : (P : Place → Type 0) (row : List (Place × Option (Bor Bytes))) → AllByRecursion (λ (s : Step). P s.0) (shown_steps row) → AllByRecursion (λ (s : Place × Option (Bor Bytes)). P s.0) row
all_shown P [] all = tt
all_shown P (x ∷ row) all = (all.0, all_shown P row all.1)
