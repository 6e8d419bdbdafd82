-- The calls that an invocation makes, from those of its parts.
use Rattle.std.specs.Prelude.{ℕ, ◌≡◌, ◌∷◌, [], ⊤, true, List, Option, Result, Ok, Err, OnOk}
use Rattle.std.specs.List.{AllByRecursion}
use Rattle.std.proofs.Common.{inl, inr, subst, sym, true≢false, ◌∙◌}
use Rattle.gb_declare.specs.Registered.{registry_said}
use Rattle.gb_action.specs.Meanings.{Meanings}
use Rattle.gb_folder.specs.Calls.{Call, Device, IsPermitted, Lists, Permit, Reads, ReadsPart, Removes, Requests, Writes, changes_at, no_change, none}
use Rattle.gb_folder.specs.Device.{Leads}
use Rattle.gb_folder.proofs.Asked.{requests_more, requests_nothing, requests_reading, requests_then}
use Rattle.gb_folder.proofs.Leading.{calls_in, requests_of}
use Rattle.gb_exec.specs.Asking.{ExecutionsRequest}
use Rattle.gb_exec.specs.Building.{is_of_executions}
use Rattle.gb_exec.proofs.Asking.{executions_places}
use Rattle.gb_build.specs.Asking.{AreBuildable}
use Rattle.gb_build.specs.Found.{IsDeclared}
use Rattle.gb_build.specs.RequestAsked.{BuildRequests}
use Rattle.gb_history.specs.Record.{Record}
use Rattle.gb_semantics.specs.Execution.{dry_reports}
use Rattle.gb_semantics.specs.declared.events.Invocation.{Invocation}
use Rattle.gb_plan.specs.Graph.{IsRegistry, Plan, Registry}
use Rattle.gb_plan.specs.Ready.{Rows}
use Rattle.gb_registry.specs.Source.{Source}
use Rattle.gb_registry.specs.Tables.{Tables}
use Rattle.gb_report.specs.declared.fault.Fault.{Fault}
use Rattle.gb_report.specs.declared.report.Report.{Report}
use Rattle.gb_report.specs.declared.report.TaskReport.{TaskReport}
use Rattle.gb_build.specs.InvocationAsked.{BuildsDeclared, InvocationRequests}

-- any change
abbrev pub any_change : Permit
any_change place next = ⊤

all_may : (calls : List Call) → AllByRecursion (IsPermitted any_change) calls
all_may [] = tt
all_may (call ∷ calls) = (may call, all_may calls)
  where
    may : (call : Call) → IsPermitted any_change call
    may (Lists root answer) = tt
    may (Reads place limit answer) = tt
    may (ReadsPart place at len answer) = tt
    may (Writes place bytes limit answer) = tt
    may (Removes place answer) = tt

-- what calls keep of a folder, whichever they are
pub calls_keep : {F : Type 0} (device : Device F) (old new : F) → (calls : List Call) × Leads device old calls new → Requests device any_change old new
calls_keep device old new led = requests_of device any_change old new led.0 (all_may led.0) led.1

-- and those of a build
pub build_keeps : {F S : Type 0} (device : Device F) (meanings : Meanings S) (rows : Rows S) (registry : Registry) (invocation : Invocation) (result : Result Report Fault) (old new : F)
    → BuildRequests device meanings rows registry invocation result old new → Requests device any_change old new
build_keeps device meanings rows registry invocation (Err fault) old new requests = requests_reading requests
build_keeps device meanings rows registry invocation (Ok report) old new requests =
    let plan = requests.1 in
    requests_then (requests_reading plan.first) (requests_more (λ place next may. tt)
    (executions_places device meanings rows invocation.options requests.0.plan plan.records report.tasks plan.begun plan.begun new plan.executions))

module _ {F M N Z S A : Type 0} (device : Device F) (tables : Tables M N Z S A) (invocation : Invocation) where
  -- a refused one
  pub refusal_requests : (result : Result Report Fault) (fault : Fault) (old new : F) → result ≡ Err fault → Requests device no_change old new
      → InvocationRequests device tables invocation result old new
  refusal_requests result fault old new is requests = subst (λ (r : Result Report Fault). InvocationRequests device tables invocation r old new) (sym is) requests

  -- a build of what the scripts register, once they have been read
  pub declared_requests : (result : Result Report Fault) (source : Source) (given : List (List ℕ × List ℕ)) (old begun new : F) → given ≡ invocation.properties
      → Requests device no_change old begun → IsDeclared device tables given old begun source
      → OnOk result (IsRegistry (registry_said tables source) × AreBuildable tables.shapes tables.kinds (registry_said tables source))
      → BuildRequests device tables.shapes tables.kinds (registry_said tables source) invocation result begun new
      → InvocationRequests device tables invocation result old new
  declared_requests (Err fault) source given old begun new are first declared sound requests = requests_then first requests
  declared_requests (Ok report) source given old begun new are first declared sound requests = record {
    source = source;
    begun = begun;
    first = first;
    declared = subst (λ (values : List (List ℕ × List ℕ)). IsDeclared device tables values old begun source) are declared;
    is_registry = sound.0;
    buildable = sound.1;
    by = requests.0;
    plan = requests.1;
  }

  -- a build changes files at the outputs and records of its tasks alone
  pub their_own : (report : Report) (old new : F) → (builds : BuildsDeclared device tables invocation report old new) → Requests device (changes_at (is_of_executions builds.by.plan)) old new
  their_own report old new builds =
      let plan = builds.plan in
      requests_then (requests_reading builds.first) (requests_then (requests_reading plan.first)
      (executions_places device tables.shapes tables.kinds invocation.options builds.by.plan plan.records report.tasks plan.begun plan.begun new plan.executions))

  -- the list of all of them
  pub invocation_calls : (result : Result Report Fault) (old new : F) → InvocationRequests device tables invocation result old new → (calls : List Call) × Leads device old calls new
  invocation_calls (Err fault) old new requests = let found = calls_in device no_change old (requests.calls none) in (found.0, found.1)
  invocation_calls (Ok report) old new builds =
      let found = calls_in device (changes_at (is_of_executions builds.by.plan)) old ((their_own report old new builds).calls none) in
      (found.0, found.1)

  -- ---- a dry run

  none_of_dry : (plan : Plan) (records : List (Option Record)) (since old new : F)
      → ExecutionsRequest device tables.shapes tables.kinds invocation.options plan records (dry_reports plan) since old new → Requests device no_change old new
  none_of_dry [] [] since old new executions = subst (λ (f : F). Requests device no_change old f) (sym executions) (requests_nothing old)
  none_of_dry [] (last ∷ records) since old new executions = absurd executions
  none_of_dry (planned ∷ plan) [] since old new executions = absurd executions
  none_of_dry (planned ∷ plan) (last ∷ records) since old new executions = requests_then executions.1 (none_of_dry plan records since executions.0 new executions.2)

  pub dry_requests_nothing : (result : Result Report Fault) (old new : F) → InvocationRequests device tables invocation result old new → invocation.options.dry_run ≡ true → Requests device no_change old new
  dry_requests_nothing (Err fault) old new requests dry = requests
  dry_requests_nothing (Ok report) old new builds dry =
      let plan = builds.plan in
      requests_then builds.first (requests_then plan.first (elim builds.by.outlines [
        | inl is_dry ↦ none_of_dry builds.by.plan plan.records plan.begun plan.begun new
            (subst (λ (reports : List TaskReport). ExecutionsRequest device tables.shapes tables.kinds invocation.options builds.by.plan plan.records reports plan.begun plan.begun new) is_dry.1 plan.executions)
        | inr built ↦ absurd (true≢false (sym dry ∙ built.0))
      ]))
