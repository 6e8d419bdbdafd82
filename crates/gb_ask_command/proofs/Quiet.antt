-- The findings for a folder; and if there is no fault, builds of it are refused for no task.
use Rattle.std.proofs.Common.{◌≡◌, ◌⊎◌, List, Ok, Err, ap, subst, sym, ◌∙◌, inl, inr}
use Rattle.gb_build.proofs.OneLemmas.{folders_one}
use Rattle.gb_build.proofs.Readings.{registered}
use Rattle.gb_ask_command.specs.Faulty.{IsFaulty}
use Rattle.gb_build.specs.Registering.{registers_in}
use Rattle.gb_build.specs.Scripts.{FolderDeclares}
use Rattle.gb_check.specs.Found.{IsOfWords, IsSilent}
use Rattle.gb_check.specs.Sites.{AreLinesAt, script_of_project}
use Rattle.gb_check.proofs.Same.{found_of_same}
use Rattle.gb_check.specs.declared.findings.Finding.{Finding}
use Rattle.gb_check.specs.declared.findings.Findings.{Findings}
use Rattle.gb_declare.specs.Registered.{registry_said}
use Rattle.gb_folder.specs.Files.{Contents, Files}
use Rattle.gb_semantics.specs.Events.{IsRefusedBy}
use Rattle.gb_semantics.specs.TrueRecord.{outside}
use Rattle.gb_semantics.specs.declared.events.Invocation.{Invocation}
use Rattle.gb_plan.specs.Graph.{Plan, Registry, paths_of}
use Rattle.gb_plan.specs.Refusal.{IsScheduleFault}
use Rattle.gb_plan.specs.Task.{Path, Text}
use Rattle.gb_query.specs.Inventory.{AreUnregistered}
use Rattle.gb_registry.specs.Source.{Source}
use Rattle.gb_registry.specs.Tables.{Tables}
use Rattle.gb_report.specs.declared.fault.Fault.{Fault}
use Rattle.gb_report.specs.declared.fault.Fault.TheVariants as faults
use Rattle.gb_ask_command.specs.Check.{AreFindingsOf, AreLeft, IsFoundAt, IsNotForATask, IsQuiet}

-- ---- The same folder

pub left_of_same : (known : Type 0) (old new : Contents) → (known → new ≡ old) → (registered : List Path) (found : List Finding) → AreLeft known new registered found → AreLeft known old registered found
left_of_same known old new same registered found (left, are, is) = (
  left,
  λ reported. subst (λ (contents : Contents). AreUnregistered contents registered left) (same reported) (are reported),
  is,
)

module _ {M F Z S A : Type 0} (tables : Tables M F Z S A) where
  pub found_in_same : (known : Type 0) (old new : Contents) → (known → new ≡ old) → (source : Source) (findings : Findings)
      → AreFindingsOf tables known source new findings → AreFindingsOf tables known source old findings
  found_in_same known old new same source findings are = record {
    scripts = are.scripts;
    are_scripts = are.are_scripts;
    in_tasks = are.in_tasks;
    findings = found_of_same known known (λ yes. yes) old new same tables source.names (registry_said tables source) are.scripts are.in_tasks are.findings;
    left = are.left;
    are_left = left_of_same known old new same (paths_of (registry_said tables source)) are.left are.are_left;
    faults = are.faults;
    warnings = are.warnings;
  }

  -- ---- Builds of the folder

  module _ (source : Source) (contents : Contents) (given : List (Text × Text)) (says : FolderDeclares tables contents.files given (Ok source)) (silent : IsSilent (registry_said tables source)) where
    there : (invocation : Invocation) → invocation.properties ≡ given → registers_in tables (outside contents).files invocation.properties (Ok (registry_said tables source))
    there invocation same = registered tables contents given invocation.properties (sym same) source says

    no_other : (invocation : Invocation) → invocation.properties ≡ given → (registry : Registry) → registers_in tables (outside contents).files invocation.properties (Ok registry) → registry ≡ registry_said tables source
    no_other invocation same registry (other, says_other, is) =
        let here = there invocation same in
        let one = folders_one tables (outside contents).files invocation.properties (Ok other) (Ok here.0) says_other here.1 in
        let same_source : other ≡ here.0 = cc in
        is ∙ ap (registry_said tables) same_source ∙ sym here.2

    of_refusal : (invocation : Invocation) (fault : Fault) → IsRefusedBy (registry_said tables source) invocation fault
        → (fault ≡ faults.OutOfMemory) ⊎ (IsOfWords (registry_said tables source) invocation.requested invocation.excluded fault ⊎ ((plan : Plan) × IsScheduleFault plan fault))
    of_refusal invocation fault refused = silent invocation.requested invocation.excluded fault (inr refused)

    pub quiet : IsQuiet tables source contents given
    quiet invocation failures after fault same (inl scripts) =
        let here = there invocation same in
        let two = folders_one tables (outside contents).files invocation.properties (Ok here.0) (Err fault) here.1 scripts in
        absurd (cc)
    quiet invocation failures after fault same (inr (inl (registry, scripts, refused))) =
        elim (of_refusal invocation fault (subst (λ (r : Registry). IsRefusedBy r invocation fault) (no_other invocation same registry scripts) refused)) as (λ _. IsNotForATask (registry_said tables source) invocation failures after fault) [
          | inl memory ↦ inl memory
          | inr rest ↦ inr (inr rest)
        ]
    quiet invocation failures after fault same (inr (inr (inl memory))) = inl memory
    quiet invocation failures after fault same (inr (inr (inr (place, first, device)))) = inr (inl (place, device))

-- the finding of a statement, too
pub found_at_same : {M F Z S A : Type 0} (tables : Tables M F Z S A) (known : Type 0) (old new : Files) → (known → new ≡ old) → (findings : Findings)
    → IsFoundAt tables known new findings → IsFoundAt tables known old findings
found_at_same tables known old new same findings (at, faulty, (spot, (lines, are, is), alone, none)) = (
  at,
  λ reported. subst (λ (files : Files). IsFaulty tables files at) (same reported) (faulty reported),
  (spot, (lines, λ reported. subst (λ (files : Files). AreLinesAt files (script_of_project at.project) lines) (same reported) (are reported), is), alone, none),
)
