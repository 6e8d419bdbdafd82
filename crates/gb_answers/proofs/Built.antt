-- A build in which no task failed left what is made from scratch, over any folder whose calls contents answer.
use Rattle.std.specs.Prelude.{ℕ, ◌≡◌, ◌++◌, true, false, not, cond, List, [], ◌∷◌, Option, None, Some, Result, Ok, Err, IsTrue}
use Rattle.std.specs.FinMap.Entries.{find}
use Rattle.std.specs.List.{AllByRecursion, AllZip, flat_map, fold, list_all}
use Rattle.std.specs.Ordering.{is_eq}
use Rattle.std.proofs.Common.{refl, sym, subst, ap, ◌∙◌, inl, inr}
use Rattle.sha2.specs.Sha256.{sha256}
use Rattle.gb_action.specs.Meanings.{Meanings}
use Rattle.gb_build.proofs.Readings.{registered}
use Rattle.gb_build.specs.Found.{IsDeclared, WasFound, WasParsed, WereParsed}
use Rattle.gb_build.specs.InvocationAsked.{BuildsDeclared}
use Rattle.gb_build.specs.Registering.{setting_of}
use Rattle.gb_build.specs.Scripts.{AreTexts, FolderDeclares, script_places, settings_place}
use Rattle.gb_build.specs.Texts.{FileMeans, TextMeans}
use Rattle.gb_core.specs.Lists.{byte_order}
use Rattle.gb_core.specs.Path.{is_task_path}
use Rattle.gb_declare.specs.Registered.{registry_said}
use Rattle.gb_exec.specs.Asking.{ExecutionsRequest}
use Rattle.gb_folder.specs.Calls.{Call, Reads, Requests, no_change, Device}
use Rattle.gb_folder.specs.Files.{Bytes, Contents, Place, Tearing, file_at, is_blocked, is_own}
use Rattle.gb_folder.specs.declared.folder.FolderFault.TheVariants as folders
use Rattle.gb_folder.proofs.Free.{free_at}
use Rattle.gb_history.specs.Places.{record_place}
use Rattle.gb_history.specs.Record.{IsWellFormed, Record}
use Rattle.gb_semantics.specs.Events.{HasPlan, has_failure, max_record}
use Rattle.gb_semantics.specs.Every.{IsFromScratch}
use Rattle.gb_semantics.specs.Execution.{dry_reports}
use Rattle.gb_semantics.specs.Headline.{Agrees, contents_outside}
use Rattle.gb_semantics.specs.Kinds.{Kinds}
use Rattle.gb_semantics.specs.Memory.{Entry, Memory, recalled}
use Rattle.gb_semantics.specs.Outline.{AreOutlines}
use Rattle.gb_semantics.specs.Scratch.{add_task, cleared}
use Rattle.gb_semantics.specs.TrueRecord.{AreCollisionFree, HoldsTrue, Stores, contents_of, outside, record_of}
use Rattle.gb_semantics.specs.declared.events.Invocation.{Invocation}
use Rattle.gb_semantics.proofs.Common.{none_some, some_same}
use Rattle.gb_semantics.proofs.Lemmas.Clear.{Among, in_left, in_right}
use Rattle.gb_semantics.proofs.Lemmas.Scratch.{AreDone, actives, ended_well, no_out, where_all}
use Rattle.gb_semantics.proofs.Lemmas.Started.{outlines_started}
use Rattle.gb_semantics.proofs.Lemmas.Success.{folder_where}
use Rattle.gb_semantics.proofs.Lemmas.Truth.{recalled_made}
use Rattle.gb_semantics.proofs.Lemmas.Whole.{done_from_scratch, each_started}
use Rattle.gb_plan.specs.Graph.{Plan, Registry, Request, order}
use Rattle.gb_plan.specs.Ready.{Rows}
use Rattle.gb_plan.specs.Task.{Path, has_path}
use Rattle.gb_plan.specs.declared.plan.Planned.{Planned}
use Rattle.gb_plan.proofs.Tests.{not_false}
use Rattle.gb_records.specs.Answered.{WasAnswered}
use Rattle.gb_records.specs.Said.{IsText}
use Rattle.gb_records.proofs.Reported.{texts_are_records}
use Rattle.gb_registry.specs.Configure.{configure_faults}
use Rattle.gb_registry.specs.Projects.{projects_of}
use Rattle.gb_registry.specs.Source.{Source}
use Rattle.gb_registry.specs.Tables.{Tables}
use Rattle.gb_report.specs.declared.report.Options.{Options}
use Rattle.gb_report.specs.declared.report.Report.{Report}
use Rattle.gb_report.specs.declared.report.TaskReport.{TaskReport}
use Rattle.gb_script.specs.Script.{HasMeaning, MeansAsSettings}
use Rattle.gb_script.specs.declared.fault.ScriptFault.{ScriptFault}
use Rattle.gb_script.specs.declared.script.Statement.{Statement}
use Rattle.gb_answers.proofs.Back.{AreAnswersOf, Shown, back_unchanged, kept_answers, start_sound}
use Rattle.gb_answers.proofs.Chain.{IsTrueWithin, Steps, all_done, chain}
use Rattle.gb_answers.proofs.Going.{AllWentWell, IsOfTrue, world_of}
use Rattle.gb_answers.proofs.OfPlan.{each_may, each_named, shaped}
use Rattle.gb_answers.proofs.Named.{named}
use Rattle.gb_logged.specs.Logged.{LogsCalls}
use Rattle.gb_answers.specs.Answering.{AnswersSoundly}
use Rattle.gb_answers.specs.Scratch.{AnsweredSuccessIsFromScratch}

-- ---- What is remembered

recalled_among : (memory : Memory) (path : Path) (entry : Entry) → recalled memory path ≡ Some entry → Among (contents_of entry) (flat_map (λ (e : Path × Entry). contents_of e.1) memory)
recalled_among [] path entry is c h = none_some is
recalled_among (m ∷ memory) path entry is c h =
    elim (is_eq (byte_order path m.0)) as (λ b. cond b (Some m.1) (find byte_order path memory) ≡ Some entry → has_path (contents_of m.1 ++ flat_map (λ (e : Path × Entry). contents_of e.1) memory) c ≡ true) [
      | true ↦ λ here. in_left c (contents_of m.1) (flat_map (λ (e : Path × Entry). contents_of e.1) memory) (ap (λ (e : Entry). has_path (contents_of e) c) (some_same here) ∙ h)
      | false ↦ λ later. in_right c (contents_of m.1) (flat_map (λ (e : Path × Entry). contents_of e.1) memory) (recalled_among memory path entry later c h)
    ] is

-- ---- What was read is what the contents have

module _ {F : Type 0} (device : Device F) (leaves : Tearing) (Shows : F → Contents → Type 0)
    (are : AreAnswersOf device.allowed leaves Shows) (old new : F) (contents : Contents) (shows : Shows new contents) where
  found_in : (place : Place) (found : Option Bytes) → WasFound device old new place found
      → (file_at contents.files place ≡ found) × (is_blocked contents.files place ≡ false)
  found_in place None found =
      let way = found.1 in
      let from = are.back way.before (Reads place found.0 (Err folders.Missing)) way.after contents way.is.allowed (back_unchanged device leaves Shows are way.after new contents way.rest shows) in
      (ap (λ (c : Contents). file_at c.files place) from.2.1 ∙ from.2.0.0, ap (λ (c : Contents). is_blocked c.files place) from.2.1 ∙ from.2.0.1)
  found_in place (Some bytes) found =
      let way = found.1 in
      let from = are.back way.before (Reads place found.0 (Ok bytes)) way.after contents way.is.allowed (back_unchanged device leaves Shows are way.after new contents way.rest shows) in
      let exists : file_at contents.files place ≡ Some bytes = ap (λ (c : Contents). file_at c.files place) from.2.1 ∙ from.2.0.0 in
      (exists, free_at contents.files place bytes (are.sound new contents shows).folder exists)

  text_says : {X : Type 0} (MeansAs : Bytes → Result (List X) ScriptFault → Type 0) (place : Place) (said : List X)
      → WasParsed device MeansAs old new place said → TextMeans MeansAs contents.files place (Ok said)
  text_says MeansAs place said parsed =
      let found = found_in place parsed.0 parsed.1 in
      inr (found.1, subst (λ o. FileMeans MeansAs place o (Ok said)) (sym found.0) parsed.2)

  texts_say : (places : List Place) (texts : List (List Statement)) → WereParsed device old new places texts → AreTexts contents.files places texts
  texts_say [] [] parsed = tt
  texts_say [] (text ∷ texts) parsed = absurd parsed
  texts_say (place ∷ places) [] parsed = absurd parsed
  texts_say (place ∷ places) (text ∷ texts) parsed = (text_says HasMeaning place text parsed.0, texts_say places texts parsed.1)

  -- what the scripts were found to declare is what those of the contents declare
  pub scripts_found : {M A Z S T : Type 0} (tables : Tables M A Z S T) (given : List (List ℕ × List ℕ)) (source : Source)
      → IsDeclared device tables given old new source → FolderDeclares tables contents.files given (Ok source)
  scripts_found tables given source declared = (
    declared.settings,
    (declared.settings, text_says MeansAsSettings settings_place declared.settings declared.settings_parsed, (declared.settings_pass, refl)),
    (
      declared.texts,
      texts_say (script_places (projects_of declared.settings)) declared.texts declared.parsed,
      (subst (λ (s : Source). configure_faults tables s ≡ []) declared.declares declared.passes, declared.declares),
    ),
  )

  -- ---- Records

  module _ (kinds : Kinds) (remembered : Memory) (holds : HoldsTrue kinds sha256 IsText record_place contents remembered) (all : List Bytes)
      (among : Among (flat_map (λ (entry : Path × Entry). contents_of entry.1) remembered) all) where
    true_record : (path : Path) (last : Option Record) → IsTrue (is_task_path path) → WasAnswered device old new path last → IsTrueWithin kinds all last
    true_record path None named answered run is = none_some is
    true_record path (Some said) named answered run is =
        by (recalled remembered path) refl (holds.records path named)
      where
        exists : file_at contents.files (record_place path) ≡ Some answered.0
        exists = (found_in (record_place path) (Some answered.0) (max_record, answered.2)).0

        by : (entry : Option Entry) → recalled remembered path ≡ entry → Stores sha256 IsText path (file_at contents.files (record_place path)) entry
            → (true_one : IsOfTrue kinds run) × Among (contents_of true_one.entry) all
        by None recall stored = absurd (subst (λ o. Stores sha256 IsText path o None) exists stored said answered.1)
        by (Some entry) recall stored =
            let same : answered.0 ≡ stored.0 = some_same (sym exists ∙ stored.1) in
            let text : IsText path said stored.0 = subst (IsText path said) same answered.1 in
            let one : said ≡ record_of sha256 entry = texts_are_records.one path said (record_of sha256 entry) stored.0 text stored.2 in
            let whole : said ≡ run = some_same is in (
              record { held = subst IsWellFormed whole answered.1.held; entry = entry; is_made = recalled_made kinds remembered path entry holds.made recall; said = sym whole ∙ one },
              λ c h. among c (recalled_among remembered path entry recall c h),
            )

    pub true_records : (paths : List Path) (records : List (Option Record)) → AllByRecursion (λ (path : Path). IsTrue (is_task_path path)) paths
        → AllZip (WasAnswered device old new) paths records → AllByRecursion (IsTrueWithin kinds all) records
    true_records [] [] named answered = tt
    true_records [] (last ∷ records) named answered = absurd answered
    true_records (path ∷ paths) [] named answered = tt
    true_records (path ∷ paths) (last ∷ records) named answered =
        (true_record path last named.0 answered.0, true_records paths records named.1 answered.1)

-- a dry run requests no change, task by task
module _ {F S : Type 0} (device : Device F) (leaves : Tearing) (Shows : F → Contents → Type 0)
    (are : AreAnswersOf device.allowed leaves Shows) (meanings : Meanings S) (rows : Rows S) (options : Options) where
  dry_unchanged : (rest : List Planned) (records : List (Option Record)) (since old new : F) (contents : Contents)
      → ExecutionsRequest device meanings rows options rest records (dry_reports rest) since old new → Shows new contents → Shows old contents
  dry_unchanged [] [] since old new contents requests shows = subst (λ (f : F). Shows f contents) requests shows
  dry_unchanged [] (last ∷ records) since old new contents requests shows = absurd requests
  dry_unchanged (planned ∷ rest) [] since old new contents requests shows = absurd requests
  dry_unchanged (planned ∷ rest) (last ∷ records) since old new contents requests shows =
      back_unchanged device leaves Shows are old requests.0 contents requests.1 (dry_unchanged rest records since requests.0 new contents requests.2 shows)

-- ---- A build in which no task failed

module _ {F M N Z S A : Type 0} (device : Device F) (tables : Tables M N Z S A)
    (step : (leaves : Tearing) (Shows : F → Contents → Type 0) → AreAnswersOf device.allowed leaves Shows
    → (kinds : Kinds) → Agrees tables.shapes tables.kinds kinds → (options : Options) (plan : Plan)
    → Steps device Shows tables.shapes tables.kinds kinds options plan) where
  module _ (log : F → List Call) (keeps : LogsCalls device.allowed log) (kinds : Kinds) (agrees : Agrees tables.shapes tables.kinds kinds)
      (invocation : Invocation) (report : Report) (old new : F) (start end : Contents) (begins : log old ≡ []) (answers : AnswersSoundly (device.may_leave old) start (log new) end)
      (builds : BuildsDeclared device tables invocation report old new) (none_failed : has_failure report ≡ false)
      (all : List Bytes) (separate : AreCollisionFree sha256 all) (start_among : Among (contents_outside start) all) (end_among : Among (contents_outside end) all)
      (trusted : Shown device.allowed log keeps (device.may_leave old) start builds.plan.begun start → invocation.options.dry_run ≡ false → AllByRecursion (IsTrueWithin kinds all) builds.plan.records) where
    abbrev Shows : F → Contents → Type 0
    Shows = Shown device.allowed log keeps (device.may_leave old) start

    are : AreAnswersOf device.allowed (device.may_leave old) Shows
    are = kept_answers device.allowed log keeps (device.may_leave old) start

    unchanged : (first last : F) (contents : Contents) → Requests device no_change first last → Shows last contents → Shows first contents
    unchanged = back_unchanged device (device.may_leave old) Shows are

    abbrev registry : Registry
    registry = registry_said tables builds.source

    abbrev request : Request
    request = builds.by.request

    abbrev plan : Plan
    plan = builds.by.plan

    -- at first the folder showed the first contents
    shows_start : (contents : Contents) → Shows builds.plan.begun contents → contents ≡ start
    shows_start contents shows =
        let first = unchanged old builds.begun contents builds.first (unchanged builds.begun builds.plan.begun contents builds.plan.first shows) in
        let none : AnswersSoundly (device.may_leave old) start [] contents = subst (λ (calls : List Call). AnswersSoundly (device.may_leave old) start calls contents) begins first in
        none.1

    -- ---- What the folder showed when the scripts were read

    shows_begun : Shows builds.plan.begun start → Shows builds.begun start
    shows_begun shows = unchanged builds.begun builds.plan.begun start builds.plan.first shows

    has_plan : Shows builds.plan.begun start → HasPlan (setting_of tables kinds (device.may_leave old)) (outside start) invocation plan
    has_plan shows = record {
      registry = registry;
      scripts = registered tables start invocation.properties invocation.properties refl builds.source
          (scripts_found device (device.may_leave old) Shows are old builds.begun start (shows_begun shows) tables invocation.properties builds.source builds.declared);
      request = request;
      asked = builds.by.asked;
      planned = builds.by.planned;
    }

    -- ---- A dry run

    module _ (dry : IsTrue invocation.options.dry_run) (reports : report.tasks ≡ dry_reports plan) where
      dry_shows : Shows builds.plan.begun end
      dry_shows =
          dry_unchanged device (device.may_leave old) Shows are tables.shapes tables.kinds invocation.options plan builds.plan.records builds.plan.begun builds.plan.begun new end
          (subst (λ (r : List TaskReport). ExecutionsRequest device tables.shapes tables.kinds invocation.options plan builds.plan.records r builds.plan.begun builds.plan.begun new) reports builds.plan.executions)
          answers

      same : end ≡ start
      same = shows_start end dry_shows

      dry_from_scratch : IsFromScratch (setting_of tables kinds (device.may_leave old)) start invocation report end
      dry_from_scratch = record {
        plan = plan;
        planned = has_plan (subst (λ (c : Contents). Shows builds.plan.begun c) same dry_shows);
        started = λ wet. not_false (sym dry ∙ sym builds.by.dry_run ∙ wet);
        files =
            ap (λ b. fold (add_task kinds (outside start)) (Some (cleared (cond b [] (actives plan)) (outside start).files)) (cond b [] (actives plan))) dry
            ∙ ap Some (where_all (no_out []) (λ q. refl) (outside start).files ∙ ap (λ (c : Contents). (outside c).files) (sym same));
      }

    -- ---- Another run

    module _ (wet : invocation.options.dry_run ≡ false) (outlines : AreOutlines invocation.options plan [] plan report.tasks) where
      well : list_all ended_well report.tasks ≡ true
      well = outlines_started invocation.options request plan builds.by.planned.schedule [] plan [] report.tasks refl refl builds.by.planned.all_ready none_failed outlines

      chained : (before : Contents) × Shows builds.plan.begun before × AllWentWell kinds plan builds.plan.records before end
      chained = chain device Shows tables.shapes tables.kinds kinds invocation.options plan
          (step (device.may_leave old) Shows are kinds agrees invocation.options plan)
          [] plan builds.plan.records report.tasks builds.plan.begun builds.plan.begun new end (each_may device tables invocation report old new builds) outlines well builds.plan.executions answers

      began : chained.0 ≡ start
      began = shows_start chained.0 chained.1

      wet_shows : Shows builds.plan.begun start
      wet_shows = subst (λ (c : Contents). Shows builds.plan.begun c) began chained.1

      done : AreDone kinds plan (world_of start) (world_of end)
      done = all_done kinds all separate plan builds.plan.records start end builds.by.planned.sound.outputs_separate (trusted wet_shows wet) start_among end_among
          (subst (λ (c : Contents). AllWentWell kinds plan builds.plan.records c end) began chained.2)

      wet_from_scratch : IsFromScratch (setting_of tables kinds (device.may_leave old)) start invocation report end
      wet_from_scratch = record {
        plan = plan;
        planned = has_plan wet_shows;
        started = λ _. each_started report.tasks well;
        files = done_from_scratch kinds invocation.options request plan (world_of start) (world_of end) builds.by.planned (shaped device tables invocation report old new builds)
            (folder_where (λ place. not (is_own place)) start.files (start_sound (device.may_leave old) (log new) start end answers).folder) tt wet done;
      }

    pub from_scratch_left : IsFromScratch (setting_of tables kinds (device.may_leave old)) start invocation report end
    from_scratch_left = elim builds.by.outlines [
      | inl dry ↦ dry_from_scratch dry.0 dry.1
      | inr run ↦ wet_from_scratch run.0 run.1
    ]

  pub built : AnsweredSuccessIsFromScratch device tables
  built log keeps kinds agrees invocation report old new start end remembered begins is builds none_failed =
      from_scratch_left log keeps kinds agrees invocation report old new start end begins is.answers builds none_failed (flat_map (λ (entry : Path × Entry). contents_of entry.1) remembered ++ contents_outside start ++ contents_outside end) is.separate
      (λ c h. in_left c (flat_map (λ (entry : Path × Entry). contents_of entry.1) remembered ++ contents_outside start) (contents_outside end) (in_right c (flat_map (λ (entry : Path × Entry). contents_of entry.1) remembered) (contents_outside start) h))
      (λ c h. in_right c (flat_map (λ (entry : Path × Entry). contents_of entry.1) remembered ++ contents_outside start) (contents_outside end) h)
      (λ shows wet.
      true_records device (device.may_leave old) (Shown device.allowed log keeps (device.may_leave old) start) (kept_answers device.allowed log keeps (device.may_leave old) start)
      builds.begun builds.plan.begun start shows kinds remembered is.holds (flat_map (λ (entry : Path × Entry). contents_of entry.1) remembered ++ contents_outside start ++ contents_outside end)
      (λ c h. in_left c (flat_map (λ (entry : Path × Entry). contents_of entry.1) remembered ++ contents_outside start) (contents_outside end) (in_left c (flat_map (λ (entry : Path × Entry). contents_of entry.1) remembered) (contents_outside start) h))
      (order builds.by.plan) builds.plan.records (each_named device tables invocation report old new builds) (builds.plan.answered wet))
