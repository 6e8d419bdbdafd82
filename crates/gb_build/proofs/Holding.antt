-- A build of a plan is a step of a run by its definition.
use Rattle.std.specs.Prelude.{ℕ, ◌≡◌, ◌≤◌, ◌++◌, ◌&&◌, Bool, true, false, not, List, Err, Ok, Option, Result, IsTrue}
use Rattle.std.specs.List.{AllZip}
use Rattle.std.proofs.Common.{refl, sym, ap, subst, ◌∙◌, inl, inr}
use Rattle.sha2.specs.Sha256.{sha256}
use Rattle.gb_folder.specs.Files.{Bytes, Contents, Files, IsFolder, SameTearing, Tearing}
use Rattle.gb_graph.specs.Answer.{IsPlanOf}
use Rattle.gb_semantics.specs.declared.events.Event.TheVariants as events
use Rattle.gb_semantics.specs.declared.events.Invocation.{Invocation}
use Rattle.gb_semantics.specs.Edits.{Shown}
use Rattle.gb_semantics.specs.Events.{HasPlan, Setting, may_occur, own_files, rules_in, world_in}
use Rattle.gb_semantics.specs.Headline.{StillClear, answer_of, contents_outside, observed_with, state_of}
use Rattle.gb_semantics.specs.Kinds.{Kinds}
use Rattle.gb_semantics.specs.Label.{Moment}
use Rattle.gb_semantics.specs.Memory.{Memory, World}
use Rattle.gb_semantics.specs.TrueRecord.{memory_contents, outside}
use Rattle.gb_semantics.specs.Execution.{Builds, Guard, WorldState as At}
use Rattle.gb_semantics.proofs.Lemmas.Clear.{separate_of_fewer}
use Rattle.gb_semantics.proofs.Lemmas.Plain.{Spreads, plain_builds}
use Rattle.gb_semantics.proofs.Lemmas.Observed.{remembered_was_observed}
use Rattle.gb_semantics.proofs.Lemmas.Success.{success_follows, truth_follows}
use Rattle.gb_semantics.proofs.Lemmas.Weaker.{builds_weaker}
use Rattle.gb_plan.specs.Graph.{IsRegistry, Plan, Registry, order}
use Rattle.gb_plan.specs.declared.task.TaskDeclaration.{TaskDeclaration as Task}
use Rattle.gb_plan.proofs.Tests.{left_of, no_longer, not_true, right_of}
use Rattle.gb_history.specs.Record.{Record}
use Rattle.gb_records.specs.Said.{IsReadAt}
use Rattle.gb_records.specs.Holding.{HoldsRecords}
use Rattle.gb_records.proofs.Reported.{holds_for_memory}
use Rattle.gb_report.specs.declared.fault.Fault.{Fault}
use Rattle.gb_report.specs.declared.fault.Fault.TheVariants as faults
use Rattle.gb_report.specs.declared.report.Options.{Options}
use Rattle.gb_report.specs.declared.report.Report.{Report}
use Rattle.gb_folder.specs.Changes.{ChangesOnly}
use Rattle.gb_task.specs.Executing.{Registering, setting_with}
use Rattle.gb_exec.specs.Building.{is_of_executions}
use Rattle.gb_exec.specs.Built.{AreTrueBefore, HasBuilt}
use Rattle.gb_exec.proofs.ByNumber.{both_true}
use Rattle.gb_build.proofs.Changed.{HaveOwnPlaces, records_differ}
use Rattle.gb_build.specs.Leading.{LeadsTo, HoldsObserved}
use Rattle.gb_build.proofs.Earlier.{builds_since}
use Rattle.gb_build.proofs.Fewer.{among_of, are_among, builds_fewer, once_more}

-- a fault that is possible there with the torn writes of a folder is possible with those of an equal one
may_alike : (kinds : Kinds) (registry_of : Registering) (may_leave second : Tearing) → SameTearing may_leave second → (own : Files) (options : Options) (task : Task) (moment : Moment) (new : At) (fault : Fault)
    → may_occur (setting_with kinds registry_of second) own options task moment new fault → may_occur (setting_with kinds registry_of may_leave) own options task moment new fault
may_alike kinds registry_of may_leave second alike own options task moment new faults.OutOfMemory may = may
may_alike kinds registry_of may_leave second alike own options task moment new (faults.Device place) may = (
  may.0,
  may.1,
  elim may.2 [
    | inl exists ↦ inl exists
    | inr torn ↦ inr (torn.0, torn.1, torn.2, torn.3, (alike place torn.0 torn.1 _).0 torn.4)
  ],
)
may_alike kinds registry_of may_leave second alike own options task moment new faults.HistoryNotWritten may = may
may_alike kinds registry_of may_leave second alike own options task moment new other may = absurd may

abbrev said_or : Registry → Result Registry Fault → Registry
said_or other (Ok registry) = registry
said_or other (Err fault) = other

module _ (kinds : Kinds) (registry_of : Registering) (may_leave : Tearing) (registry : Registry) (sound : IsRegistry registry)
    (invocation : Invocation) (plan : Plan) (is_plan : IsPlanOf registry invocation.requested invocation.excluded plan) (own_places : HaveOwnPlaces plan)
    (old end : Shown) (report : Report) (dry_run : report.dry_run ≡ invocation.options.dry_run) (is_folder : IsFolder end.contents.files)
    (changes : ChangesOnly (is_of_executions plan) old.contents end.contents) (dry : invocation.options.dry_run ≡ true → end.contents ≡ old.contents)
    (count : old.failures ≤ end.failures)
    (scripts : registry_of (outside old.contents).files invocation.properties ≡ Ok registry) where
  abbrev setting : Setting
  setting = setting_with kinds registry_of may_leave

  abbrev assumed : Bool → Memory → Guard
  assumed clear remembered = StillClear setting (IsTrue clear) (state_of old remembered)

  abbrev IsBuiltTo : Bool → List Bytes → Memory → Memory → Type 0
  IsBuiltTo clear observed remembered memory =
      Builds (rules_in setting (own_files old.contents) invocation.options plan) (assumed clear remembered) observed
      (record { world = world_in (state_of old remembered); failures = old.failures }) report.tasks
      (record { world = world_in (state_of end memory); failures = end.failures })

  abbrev ExistAfter : Bool → List Bytes → Memory → Memory → Type 0
  ExistAfter clear observed remembered memory =
      assumed clear remembered (observed_with observed (state_of old remembered) (state_of end memory)) → HoldsRecords end.contents.files memory

  spreads : (clear : Bool) (remembered : Memory) → Spreads (assumed clear remembered)
  spreads clear remembered all some among given =
      (given.0, elim given.1 [ inl empty ↦ inl empty | inr separate ↦ inr (separate_of_fewer sha256 all some among separate) ])

  planned : HasPlan setting (outside old.contents) invocation plan
  planned = record { registry = registry; scripts = scripts; request = is_plan.0; asked = is_plan.1; planned = is_plan.2 }

  -- a build of the plan from what is remembered to what is, with its records, is a step
  pub assembled : (remembered memory : Memory) (clear : Bool) (observed : List Bytes) → (IsTrue clear → HoldsObserved setting observed (state_of old remembered))
      → IsBuiltTo clear observed remembered memory → ExistAfter clear observed remembered memory
      → LeadsTo setting clear observed (state_of old remembered) (events.Invoke invocation) (answer_of (Ok report)) end
  assembled remembered memory clear observed worth builds records = record {
    remembered = memory;
    step = record {
      plan = plan;
      planned = planned;
      dry_run = dry_run;
      elsewhere = records_differ plan own_places old.contents end.contents changes;
      dry_keeps = λ is_dry. ap own_files (dry (sym dry_run ∙ is_dry));
      builds = builds;
      success = λ given none.
          let all = success_follows one (assumed clear remembered) (spreads clear remembered) (λ files properties other is. subst IsRegistry (ap (said_or registry) is) sound)
          (state_of old remembered) (worth given.0).0 invocation plan planned_so (may_occur setting (own_files old.contents) invocation.options) observed end.failures
          (world_in (state_of end memory)) report.tasks given none builds in
          (λ not_dry. all.0 (sym dry_run ∙ not_dry), all.1);
    };
    exists = λ given. (
      holds_for_memory kinds end.contents memory is_folder
          (truth_follows one (assumed clear remembered) (spreads clear remembered) (state_of old remembered) (worth given.0).0 invocation plan planned_so
          (may_occur setting (own_files old.contents) invocation.options) observed end.failures (world_in (state_of end memory)) report.tasks given builds)
          (records given),
      are_among (memory_contents (world_in (state_of end memory))) ((observed ++ here) ++ contents_outside end.contents)
          (λ c h. once_more observed here (contents_outside end.contents) c
          (remembered_was_observed kinds invocation.options (may_occur setting (own_files old.contents) invocation.options) plan (observed ++ here) old.failures end.failures
          (world_in (state_of old remembered)) (world_in (state_of end memory)) report.tasks is_plan.2.sound.outputs_separate
          (among_of (memory_contents (world_in (state_of old remembered))) (observed ++ here) (worth given.0).1)
          (plain_builds one (assumed clear remembered) (spreads clear remembered) (may_occur setting (own_files old.contents) invocation.options) invocation.options is_plan.0 plan
          observed (observed ++ here) old.failures end.failures (world_in (state_of old remembered)) (world_in (state_of end memory)) report.tasks is_plan.2 given builds) c h)),
    );
  }
    where
      here : List Bytes
      here = contents_outside old.contents

      one : Setting
      one = setting_with kinds (λ files properties. Ok registry) may_leave

      planned_so : HasPlan one (outside old.contents) invocation plan
      planned_so = record { registry = registry; scripts = refl; request = is_plan.0; asked = is_plan.1; planned = is_plan.2 }

  -- what a build of the plan is, by what was read before it in a folder of these contents
  abbrev pub GivesBuild : Tearing → ℕ → List (Option Record) → Contents → Type 0
  GivesBuild second failures records contents =
      (remembered : Memory) (clear : Bool) (observed : List Bytes) → (IsTrue clear → AreTrueBefore kinds plan records observed contents remembered)
      → HasBuilt (setting_with kinds registry_of second) clear observed invocation.options plan
      (record { contents = contents; remembered = remembered; failures = failures }) report.tasks end

  module _ (mid : Shown) (same : mid.contents ≡ old.contents) (earlier : old.failures ≤ mid.failures) (second : Tearing) (alike : SameTearing may_leave second)
      (records : List (Option Record)) (read : invocation.options.dry_run ≡ false → AllZip (IsReadAt old.contents.files) (order plan) records)
      (builds : GivesBuild second mid.failures records mid.contents)
      (remembered : Memory) (clear : Bool) (observed : List Bytes) (worth : IsTrue clear → HoldsObserved setting observed (state_of old remembered)) where
    -- all was clear before, and this is no dry run
    abbrev reads : Bool
    reads = clear && not invocation.options.dry_run

    abbrev all_observed : List Bytes
    all_observed = observed ++ contents_outside old.contents

    abbrev IsBuiltFrom : Type 0
    IsBuiltFrom =
        HasBuilt (setting_with kinds registry_of second) reads all_observed invocation.options plan
        (record { contents = old.contents; remembered = remembered; failures = mid.failures }) report.tasks end

    existed : IsTrue clear → HoldsRecords old.contents.files remembered
    existed is_clear = let exists = (worth is_clear).0 in record { in_order = exists.in_order; of_tasks = exists.of_tasks; records = exists.records }

    -- what is remembered has true records, and these were read, except in a dry run
    built_from : IsBuiltFrom
    built_from =
        subst (GivesBuild second mid.failures records) same builds remembered reads all_observed
        (λ ready.
        let is_clear : IsTrue clear = left_of clear (not invocation.options.dry_run) ready in
        record {
          existing = existed is_clear;
          made = (worth is_clear).0.made;
          read = read (no_longer invocation.options.dry_run (right_of clear (not invocation.options.dry_run) ready));
          was_observed = (worth is_clear).1;
        })

    dry_leads : IsBuiltFrom → invocation.options.dry_run ≡ true
        → LeadsTo setting clear observed (state_of old remembered) (events.Invoke invocation) (answer_of (Ok report)) end
    dry_leads built is_dry = elim built.builds [
      | inl all ↦
          assembled remembered built.remembered clear observed worth (inl all)
          (λ given. subst (HoldsRecords end.contents.files) (sym (ap (λ (w : World). w.memory) all.2))
          (subst (λ (c : Contents). HoldsRecords c.files remembered) (sym (dry is_dry)) (existed given.0)))
      | inr run ↦ not_true (sym run.0 ∙ is_dry)
    ]

    wet_leads : IsBuiltFrom → invocation.options.dry_run ≡ false
        → LeadsTo setting clear observed (state_of old remembered) (events.Invoke invocation) (answer_of (Ok report)) end
    wet_leads built not_dry =
        let own : Files = own_files old.contents in
        let first : World = world_in (state_of old remembered) in
        let last : World = world_in (state_of end built.remembered) in
        let ready : IsTrue clear → IsTrue reads = λ is_clear. both_true clear (not invocation.options.dry_run) is_clear (ap not not_dry) in
        assembled remembered built.remembered clear observed worth
        (builds_fewer (rules_in setting own invocation.options plan) (assumed clear remembered) (spreads clear remembered) observed
        (record { world = first; failures = old.failures }) report.tasks (record { world = last; failures = end.failures })
        (builds_since setting own invocation.options plan old.failures (assumed clear remembered) all_observed first mid.failures report.tasks
        (record { world = last; failures = end.failures }) earlier
        (builds_weaker kinds invocation.options plan (may_occur (setting_with kinds registry_of second) own invocation.options) (may_occur setting own invocation.options)
        (may_alike kinds registry_of may_leave second alike own invocation.options)
        (StillClear (setting_with kinds registry_of second) (IsTrue reads) (record { contents = old.contents; remembered = remembered; failures = mid.failures }))
        (assumed clear remembered) (λ contents given. (ready given.0, given.1))
        all_observed mid.failures end.failures first last report.tasks built.builds)))
        (λ given. built.records (
          ready given.0,
          (spreads clear remembered (observed_with observed (state_of old remembered) (state_of end built.remembered))
              (observed_with all_observed (state_of old remembered) (state_of end built.remembered))
              (once_more observed (contents_outside old.contents) (contents_outside end.contents)) given).1,
        ))

    -- a build of the plan by what was read is a step
    pub built_leads : LeadsTo setting clear observed (state_of old remembered) (events.Invoke invocation) (answer_of (Ok report)) end
    built_leads = by invocation.options.dry_run refl
      where
        by : (b : Bool) → invocation.options.dry_run ≡ b
            → LeadsTo setting clear observed (state_of old remembered) (events.Invoke invocation) (answer_of (Ok report)) end
        by true is_dry = dry_leads built_from is_dry
        by false not_dry = wet_leads built_from not_dry
