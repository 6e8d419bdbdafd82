-- What an execution that went well did, between contents.
use Rattle.std.specs.Prelude.{ℕ, ◌≡◌, ◌++◌, ◌||◌, Bool, true, false, not, cond, List, [], ◌∷◌, map, Option, Some, None, is_some, Ok, Err, IsTrue, bytes_eq}
use Rattle.std.specs.List.{AllByRecursion, list_any}
use Rattle.std.specs.Cmp.Lexicographic.{bytes_decides}
use Rattle.std.specs.FinMap.Entries.{is_sorted}
use Rattle.std.proofs.Common.{refl, sym, ap, ap₂, subst, ◌∙◌, inl, inr}
use Rattle.sha2.specs.Sha256.{sha256}
use Rattle.gb_core.specs.Lists.{byte_order}
use Rattle.gb_core.specs.Place.{is_under}
use Rattle.gb_action.specs.Changes.{Changes}
use Rattle.gb_action.specs.Files.{Trees}
use Rattle.gb_action.specs.Meanings.{Meanings, WritesItsOutput}
use Rattle.gb_action.specs.declared.output_files.OutputFiles.{OutputFiles}
use Rattle.gb_folder.specs.Calls.{Call, Requests, no_change, Device}
use Rattle.gb_folder.specs.Each.{OrStops}
use Rattle.gb_folder.specs.Files.{Bytes, Contents, DiffersOnlyAt, Files, IsFolder, Place, Tearing, are_placed, file_at, files_where, is_empty}
use Rattle.gb_folder.specs.Semantics.{AnswersAll}
use Rattle.gb_folder.proofs.Sound.{placed_where}
use Rattle.gb_history.specs.Record.{Record}
use Rattle.gb_label.specs.Reading.{observed_of}
use Rattle.gb_semantics.specs.Headline.{Agrees, contents_outside}
use Rattle.gb_semantics.specs.Kinds.{Kinds}
use Rattle.gb_semantics.specs.Label.{CannotRead, Early, HasNoActions, HasNoSource, Moment, has_one_writer, some_outcome}
use Rattle.gb_semantics.specs.Made.{blocked_in, made, made_of, rest_of, with_outputs}
use Rattle.gb_semantics.specs.Memory.{World, output_files}
use Rattle.gb_semantics.specs.Outline.{AnswersAlone, idle_outcome}
use Rattle.gb_semantics.specs.Tree.{has_no_source, input_faults, trees_of}
use Rattle.gb_semantics.specs.TrueRecord.{contents_in, contents_of, outside}
use Rattle.gb_semantics.proofs.Lemmas.Clear.{Among, either, in_left, in_one, in_right, right, separate_of_fewer}
use Rattle.gb_semantics.proofs.Lemmas.Files.{at-put_over, at-where, or_else, same_files, sorted-put_over, sorted-where}
use Rattle.gb_semantics.proofs.Lemmas.Making.{IsRight, made_of_is_right}
use Rattle.gb_semantics.proofs.Lemmas.Observed.{entry_observed}
use Rattle.gb_semantics.proofs.Lemmas.Success.{folder_where}
use Rattle.gb_semantics.proofs.Lemmas.Worked.{Did, Shows as MadeShows, idle, skipped, worked}
use Rattle.gb_plan.specs.Graph.{Plan, needs_in, some_overlap}
use Rattle.gb_plan.specs.Ready.{Rows}
use Rattle.gb_plan.specs.Task.{IsShaped, Text, has_path, is_output_of, output_places}
use Rattle.gb_plan.specs.declared.task.Action.{Action}
use Rattle.gb_plan.specs.declared.task.Output.{Output}
use Rattle.gb_plan.specs.declared.task.TaskDeclaration.{TaskDeclaration as Task}
use Rattle.gb_plan.proofs.Tests.{itself, not_false, not_true}
use Rattle.gb_records.proofs.Separate.{output_observed}
use Rattle.gb_report.specs.Outcome.{is_executed, is_failed, is_started, is_up_to_date}
use Rattle.gb_report.specs.declared.fault.Fault.{Fault}
use Rattle.gb_report.specs.declared.report.Options.{Options}
use Rattle.gb_report.specs.declared.report.Outcome.{Outcome}
use Rattle.gb_report.specs.declared.report.Outcome.TheVariants as outcomes
use Rattle.gb_run.specs.Doing.{Ending}
use Rattle.gb_run.proofs.Changed.{changes_of}
use Rattle.gb_run.proofs.Composed.{answered_then}
use Rattle.gb_run.proofs.Fitting.{all_fitting}
use Rattle.gb_run.proofs.Owned.{owned_observed}
use Rattle.gb_task.specs.Buildable.{IsBuildable}
use Rattle.gb_task.specs.ByOutcome.{ExecutionRequests}
use Rattle.gb_task.specs.Current.{IsCurrentOn}
use Rattle.gb_task.specs.Ran.{HaveRead, RanByChanges, RanInFull, WasCleared, WasRun}
use Rattle.gb_task.specs.Stages.{DeletesRecord, IsOfRunByChanges, RunByChanges, Silently, Stores, Then, WritesChanges}
use Rattle.gb_task.specs.Truth.{AreSeparate, IsTrueBeside, contents_read}
use Rattle.gb_task.proofs.Outside.{early_outside, kept, source_outside, trees_outside}
use Rattle.gb_task.proofs.Own.{is_kept, kept_at, swapped}
use Rattle.gb_task.proofs.Parts.{narrowed}
use Rattle.gb_task.proofs.Truth.{goes_from_true, up_to_date_is_made}
use Rattle.gb_answers.proofs.Back.{AreAnswersOf, back_calls, back_unchanged}
use Rattle.gb_answers.proofs.ByChanges.{ran_by_changes}
use Rattle.gb_answers.proofs.Cleared.{cleared, deleted, stored_stage}
use Rattle.gb_answers.proofs.Current.{made_at, shows_made}
use Rattle.gb_answers.proofs.Full.{ran_in_full}
use Rattle.gb_answers.proofs.Going.{GoesByTrue, WentWell, world_of}
use Rattle.gb_answers.proofs.Outputs.{outputs_are, outputs_are_once}
use Rattle.gb_answers.proofs.Trees.{answered_readable, inputs_readable, sourced, sourceless, trees_are}

-- ---- contents that were read are among the files

abbrev bytes_in : Files → List Bytes
bytes_in files = map (λ (file : Place × Bytes). file.1) files

each_in : (all : List Bytes) (files : Files) → ((c : Bytes) → has_path (bytes_in files) c ≡ true → has_path all c ≡ true)
    → AllByRecursion (λ (file : Place × Bytes). has_path all file.1 ≡ true) files
each_in all [] within = tt
each_in all (file ∷ files) within = (
  within file.1 (ap (λ b. b || has_path (bytes_in files) file.1) (itself file.1)),
  each_in all files (λ c e. within c (right (bytes_eq c file.1) (has_path (bytes_in files) c) e)),
)

tree_among : (all : List Bytes) (files : Files) → AllByRecursion (λ (file : Place × Bytes). has_path all file.1 ≡ true) files → Among (bytes_in files) all
tree_among all [] each c h = not_true h
tree_among all (file ∷ files) each c h = elim (either (bytes_eq c file.1) (has_path (bytes_in files) c) h) [
  | inl here ↦ ap (has_path all) ((bytes_decides c file.1).0 here) ∙ each.0
  | inr there ↦ tree_among all files each.1 c there
]

abbrev pair_of : OutputFiles → List ℕ × Files
pair_of output = (output.name, output.files)

outputs_among : (files : Files) (outputs : List Output) → Among (contents_in (map pair_of (map (observed_of files) outputs))) (bytes_in files)
outputs_among files [] c h = not_true h
outputs_among files (output ∷ outputs) c h =
    elim (in_one c (bytes_in (observed_of files output).files) (contents_in (map pair_of (map (observed_of files) outputs))) h) [
      | inl here ↦ tree_among (bytes_in files) (observed_of files output).files
          (output_observed (λ (bytes : Bytes). has_path (bytes_in files) bytes ≡ true) files (each_in (bytes_in files) files (λ _ e. e)) output.place) c here
      | inr later ↦ outputs_among files outputs c later
    ]

read_among : (task : Task) (files : Files) (trees : Trees) (observed : List OutputFiles) → trees ≡ trees_of task files → observed ≡ map (observed_of files) task.outputs
    → Among (contents_read trees observed) (bytes_in files)
read_among task files trees observed trees_here observed_here c h = elim (in_one c (contents_in trees) (contents_in (map pair_of observed)) h) [
  | inl input ↦ entry_observed task files c (in_left c (contents_in (trees_of task files)) (bytes_in (output_files task files)) (ap (λ (ts : Trees). has_path (contents_in ts) c) (sym trees_here) ∙ input))
  | inr output ↦ outputs_among files task.outputs c (ap (λ (os : List OutputFiles). has_path (contents_in (map pair_of os)) c) (sym observed_here) ∙ output)
]

-- so the record that was read is true next to them
true_beside : (kinds : Kinds) (task : Task) (last : Option Record) (run : Record) (files : Files) (trees : Trees) (observed : List OutputFiles) → last ≡ Some run
    → trees ≡ trees_of task files → observed ≡ map (observed_of files) task.outputs → GoesByTrue kinds last (bytes_in files) → IsTrueBeside kinds run (contents_read trees observed)
true_beside kinds task last run files trees observed is trees_here observed_here goes =
    let held = goes run is in
    let contents = contents_of held.0.entry in
    record {
      entry = held.0.entry;
      is_made = held.0.is_made;
      said = held.0.said;
      separate = separate_of_fewer sha256 (contents ++ bytes_in files) (contents ++ contents_read trees observed)
          (λ c h. elim (in_one c contents (contents_read trees observed) h) [
            | inl old ↦ in_left c contents (bytes_in files) old
            | inr new ↦ in_right c contents (bytes_in files) (read_among task files trees observed trees_here observed_here c new)
          ]) held.1;
    }

-- ---- what is at no output stays

rest_kept : (task : Task) (files new : Files) → is_sorted byte_order files ≡ true → IsRight task.outputs new → rest_of task (with_outputs task files new) ≡ rest_of task files
rest_kept task files new sorted right =
    same_files (rest_of task (with_outputs task files new)) (rest_of task files)
    (sorted-where (λ q. not (is_output_of task q)) (with_outputs task files new) (sorted-put_over (rest_of task files) new (sorted-where (λ q. not (is_output_of task q)) files sorted)))
    (sorted-where (λ q. not (is_output_of task q)) files sorted)
    (λ q. at-where (λ p. not (is_output_of task p)) (with_outputs task files new) q
    ∙ ap (λ (o : Option Bytes). cond (not (is_output_of task q)) o None) (at-put_over (rest_of task files) new q right.in_order ∙ ap (or_else (file_at new q)) (at-where (λ p. not (is_output_of task p)) files q))
    ∙ beside (is_output_of task q) (file_at new q) (file_at files q) (right.beside q)
    ∙ sym (at-where (λ p. not (is_output_of task p)) files q))
  where
    beside : (b : Bool) (n o : Option Bytes) → (b ≡ false → n ≡ None) → cond (not b) (or_else n (cond (not b) o None)) None ≡ cond (not b) o None
    beside true n o h = refl
    beside false n o h = ap (λ (m : Option Bytes). or_else m o) (h refl)

kept_differs : (task : Task) (old new : Files) → DiffersOnlyAt (is_output_of task) old new → DiffersOnlyAt (is_output_of task) (kept old) (kept new)
kept_differs task old new differs =
    swapped (λ q. not (is_output_of task q)) is_kept new ∙ ap kept differs ∙ swapped is_kept (λ q. not (is_output_of task q)) old

-- a run by changes changes files at its outputs alone
module _ {S : Type 0} (leaves : Tearing) (meanings : Meanings S) (rows : Rows S) (task : Task) (trees : Trees) (changes : List Changes) (observed : List OutputFiles) where
  abbrev Kept : Contents → Contents → Type 0
  Kept old new = DiffersOnlyAt (is_output_of task) (outside old).files (outside new).files × (new.special ≡ old.special)

  written_kept : (calls : List Call) (lines : List Text) (old new : Contents)
      → Then (WritesChanges meanings rows task trees changes observed) (Stores task (IsOfRunByChanges meanings rows task trees changes observed)) calls lines (Ok tt) → AnswersAll leaves old calls new → Kept old new
  written_kept calls lines old new does answers = on does.4 does.7 does.8
    where
      parts : (mid : Contents) × AnswersAll leaves old does.0 mid × AnswersAll leaves mid does.1 new
      parts = answered_then leaves does.0 does.1 old new (subst (λ (cs : List Call). AnswersAll leaves old cs new) does.5 answers)

      on : (mid : Ending) → WritesChanges meanings rows task trees changes observed does.0 does.2 mid
          → OrStops mid (Stores task (IsOfRunByChanges meanings rows task trees changes observed) does.1 does.3 (Ok tt)) does.1 does.3 (Ok tt) → Kept old new
      on (Ok done) writes stores =
          let only = changes_of (is_output_of task) leaves old parts.0 does.0 writes.0 parts.1 in
          let same = stored_stage leaves task (IsOfRunByChanges meanings rows task trees changes observed) does.1 does.3 parts.0 new stores parts.2 in (
            ap (λ (c : Contents). rest_of task c.files) same ∙ kept_differs task old.files parts.0.files only.elsewhere,
            ap (λ (c : Contents). c.special) same ∙ only.special,
          )
      on (Err fault) writes stores = absurd (let e = stores.2 in (cc))

  changes_kept : (calls : List Call) (lines : List Text) (old new : Contents) → RunByChanges meanings rows task trees changes observed calls lines (Ok tt) → AnswersAll leaves old calls new → Kept old new
  changes_kept calls lines old new does answers = on does.4 does.7 does.8
    where
      parts : (mid : Contents) × AnswersAll leaves old does.0 mid × AnswersAll leaves mid does.1 new
      parts = answered_then leaves does.0 does.1 old new (subst (λ (cs : List Call). AnswersAll leaves old cs new) does.5 answers)

      on : (mid : Ending) → Silently (DeletesRecord task.path true) does.0 does.2 mid
          → OrStops mid (Then (WritesChanges meanings rows task trees changes observed) (Stores task (IsOfRunByChanges meanings rows task trees changes observed)) does.1 does.3 (Ok tt)) does.1 does.3 (Ok tt) → Kept old new
      on (Ok done) first second =
          let same = deleted leaves task.path true does.0 old parts.0 first.1 parts.1 in
          let rest = written_kept does.1 does.3 parts.0 new second parts.2 in (
            rest.0 ∙ ap (λ (c : Contents). rest_of task c.files) same,
            rest.1 ∙ ap (λ (c : Contents). c.special) same,
          )
      on (Err fault) first second = absurd (let e = second.2 in (cc))

-- ---- what can be read in a whole folder can be read in it without the tool's own files

abbrev early_by : Bool → List Fault → Bool → Option Early
early_by rests hindrances dry = cond rests (Some HasNoActions) (cond (not (is_empty hindrances)) (Some (CannotRead hindrances)) (cond dry (Some HasNoSource) None))

-- the task without outputs: its inputs are the same
abbrev without_outputs : Task → Task
without_outputs task = record task { runs = true; outputs = [] }

none_hinders : (hindrances : List Fault) (dry then : Bool) → early_by false (hindrances ++ []) dry ≡ early_by false [] then → is_empty hindrances ≡ true
none_hinders [] dry then e = refl
none_hinders (fault ∷ hindrances) dry true e = absurd (let d = e in (cc))
none_hinders (fault ∷ hindrances) dry false e = absurd (let d = e in (cc))

readable_outside : (task : Task) (folder : Contents) → is_empty task.actions ≡ false → input_faults task folder ≡ [] → is_empty (input_faults task (outside folder)) ≡ true
readable_outside task folder acts none =
    none_hinders (input_faults task (outside folder)) (has_no_source task (outside folder).files) (has_no_source task folder.files)
    (ap (λ (rests : Bool). early_by rests (input_faults task (outside folder) ++ []) (has_no_source task (outside folder).files)) (sym acts)
    ∙ early_outside (without_outputs task) folder
    ∙ ap₂ (λ (rests : Bool) (hindrances : List Fault). early_by rests (hindrances ++ []) (has_no_source task folder.files)) acts none)

-- ---- what is made, with a source or without

made_sourced : (kinds : Kinds) (task : Task) (files new : Files) → has_no_source task files ≡ false → made_of kinds task.actions task.values (trees_of task files) task.outputs ≡ Ok new → made kinds task files ≡ Ok new
made_sourced kinds task files new source makes = ap (λ b. cond b (Ok []) (made_of kinds task.actions task.values (trees_of task files) task.outputs)) source ∙ makes

made_sourceless : (kinds : Kinds) (task : Task) (files : Files) → has_no_source task files ≡ true → made kinds task files ≡ Ok []
made_sourceless kinds task files source = ap (λ b. cond b (Ok []) (made_of kinds task.actions task.values (trees_of task files) task.outputs)) source

-- ---- tasks without actions

nothing_made : (kinds : Kinds) (task : Task) (actions : List Action) (trees : Trees) (new : Files) → is_empty actions ≡ true → made_of kinds actions task.values trees task.outputs ≡ Ok new → new ≡ []
nothing_made kinds task [] trees new none makes = let e = makes in cc
nothing_made kinds task (action ∷ actions) trees new none makes = not_true none

no_writer : {A : Type 0} (kinds : Kinds) (actions : List Action) → is_empty actions ≡ true → has_one_writer kinds actions ≡ true → A
no_writer kinds [] none one = not_true one
no_writer kinds (action ∷ actions) none one = not_true none

all_stay : (files : Files) → files_where (λ q. true) files ≡ files
all_stay [] = refl
all_stay (file ∷ files) = ap (λ (fs : Files). file ∷ fs) (all_stay files)

none_out : (outputs : List Output) (files : Files) → is_empty outputs ≡ true → files_where (λ q. not (list_any (λ (output : Output). is_under q output.place) outputs)) files ≡ files
none_out [] files none = all_stay files
none_out (output ∷ outputs) files none = not_true none

never_idle : {A : Type 0} (outcome : Outcome) (b : Bool) → (is_executed outcome || is_up_to_date outcome) ≡ false → outcome ≡ idle_outcome b → A
never_idle outcome true not_so e = not_false (sym (ap (λ (o : Outcome). is_executed o || is_up_to_date o) e) ∙ not_so)
never_idle outcome false not_so e = not_false (sym (ap (λ (o : Outcome). is_executed o || is_up_to_date o) e) ∙ not_so)

-- ---- executions

module _ {F S : Type 0} (device : Device F) (leaves : Tearing) (Shows : F → Contents → Type 0)
    (are : AreAnswersOf device.allowed leaves Shows) (meanings : Meanings S) (rows : Rows S) (kinds : Kinds) (agrees : Agrees meanings rows kinds)
    (own_output : (kind : ℕ) → WritesItsOutput meanings kind) (options : Options) where
  module _ (task : Task) (last : Option Record) (buildable : IsBuildable meanings rows task) (apart : some_overlap (output_places task) ≡ false) where
    lie : AreSeparate task
    lie = record { separate = apart; not_own = buildable.not_own }

    abbrev Went : F → Contents → Type 0
    Went old after = (before : Contents) × Shows old before × WentWell kinds task last before after

    -- nothing changed
    still : (old new : F) (after : Contents) → Requests device no_change old new → Shows new after
        → (GoesByTrue kinds last (contents_outside after) → Did kinds task (world_of after) (world_of after)) → Went old after
    still old new after requests shows did = (
      after,
      back_unchanged device leaves Shows are old new after requests shows,
      record { sound = are.sound new after shows; files = refl; special = refl; done = did },
    )

    -- the trees and the outputs that were read are those outside of the tool's own folder
    trees_here : (old new : F) (contents : Contents) (trees : Trees) → Shows new contents → HaveRead device task trees old new → trees ≡ trees_of task (outside contents).files
    trees_here old new contents trees shows have =
        trees_are device leaves Shows are old new contents shows task trees have.inputs have.named ∙ sym (trees_outside task contents.files)

    observed_outside : (new : F) (contents : Contents) (observed : List OutputFiles) → Shows new contents → observed ≡ map (observed_of contents.files) task.outputs → observed ≡ map (observed_of (outside contents).files) task.outputs
    observed_outside new contents observed shows is =
        is ∙ sym (owned_observed is_kept contents.files (are.sound new contents shows).folder.in_order task.outputs (kept_at task.outputs buildable.not_own))

    -- a run without actions, and so without outputs, leaves what is outside of the tool's own folder
    idle_full : (lines : List Text) (old new : F) (after : Contents) → task.runs ≡ true → is_empty task.actions ≡ true → is_empty task.outputs ≡ true → Shows new after
        → RanInFull device meanings rows task (is_some last) lines (Ok tt) old new → Went old after
    idle_full lines old new after runs acts outs shows was =
        let back = back_calls device leaves Shows are was.1 new was.3.0 after was.3.1 shows in
        let ran = ran_in_full leaves kinds meanings rows agrees task was.0 (is_some last) was.3.0 lines back.0 after (are.sound was.1 back.0 back.1).folder lie
        (trees_here old was.1 back.0 was.0 back.1 was.2) was.3.2 back.2 in
        let files : (outside after).files ≡ (outside back.0).files =
        ran.2 ∙ ap (with_outputs task (outside back.0).files) (nothing_made kinds task task.actions (trees_of task (outside back.0).files) ran.0 acts ran.1)
        ∙ none_out task.outputs (outside back.0).files outs in (
          back.0,
          back_unchanged device leaves Shows are old was.1 back.0 was.2.requests back.1,
          record {
            sound = are.sound new after shows;
            files = ap (rest_of task) files;
            special = ran.4;
            done = λ goes. idle runs acts
                (ap₂ (λ (fs : Files) (special : List (List ℕ)). let world : World = record { folder = record { files = fs; special = special }; memory = [] } in world) files ran.4);
          },
        )

    module _ (runs : task.runs ≡ true) (acts : is_empty task.actions ≡ false) where
      -- ---- up to date

      current : (since new : F) (after : Contents) → Shows new after → IsCurrentOn device options task last since new
          → GoesByTrue kinds last (contents_outside after) → Did kinds task (world_of after) (world_of after)
      current since new after shows on goes = worked (record {
        runs = runs;
        has_actions = acts;
        readable = readable_outside task after acts (inputs_readable device leaves Shows are since new after shows task on.trees on.inputs_read);
        made_files = shown.made_files;
        makes = made_sourced kinds task files shown.made_files (source_outside task after.files ∙ sourced device leaves Shows are since new after shows task on.sourced) shown.makes;
        room = shown.room;
        files = shown.same;
        special = refl;
        memory = inl refl;
      })
        where
          files : Files
          files = (outside after).files

          folder : IsFolder (outside after).files
          folder = folder_where is_kept after.files (are.sound new after shows).folder

          placed : IsTrue (are_placed (outside after).files)
          placed = placed_where is_kept after.files (are.sound new after shows).placed

          trees : on.trees ≡ trees_of task (outside after).files
          trees = trees_are device leaves Shows are since new after shows task on.trees on.inputs_read on.named ∙ sym (trees_outside task after.files)

          observed : on.observed ≡ map (observed_of (outside after).files) task.outputs
          observed = observed_outside new after on.observed shows
              (outputs_are_once device leaves Shows are since new after shows task on.observed on.outputs_read on.formed buildable.not_own)

          shown : MadeShows kinds task (outside after).files
          shown = shows_made kinds task (outside after).files folder
              (made_at kinds task on.trees on.observed (outside after).files folder placed trees observed lie
              (up_to_date_is_made device kinds options task last since new lie on
              (true_beside kinds task last on.run (outside after).files on.trees on.observed on.remembered trees observed goes)))

      -- ---- without source

      cleared_well : (lines : List Text) (old new : F) (after : Contents) → Shows new after → WasCleared device task (is_some last) lines (Ok tt) old new → Went old after
      cleared_well lines old new after shows was =
          let back = back_calls device leaves Shows are was.0 new was.3.0 after was.3.1 shows in
          let left = cleared leaves task (is_some last) was.3.0 lines back.0 after (are.sound was.0 back.0 back.1).folder lie was.3.2 back.2 in (
            back.0,
            back_unchanged device leaves Shows are old was.0 back.0 was.1 back.1,
            record {
              sound = are.sound new after shows;
              files = ap (rest_of task) left.0 ∙ narrowed (λ q. not (is_output_of task q)) (λ q. not (is_output_of task q)) (λ q is. is) (outside back.0).files;
              special = left.1;
              done = λ goes. worked (record {
                runs = runs;
                has_actions = acts;
                readable = readable_outside task back.0 acts (answered_readable device leaves Shows are old was.0 back.0 back.1 task was.2.0 was.2.1);
                made_files = [];
                makes = made_sourceless kinds task (outside back.0).files (source_outside task back.0.files ∙ sourceless device leaves Shows are old was.0 back.0 back.1 task was.2);
                room = refl;
                files = left.0;
                special = left.1;
                memory = inl refl;
              });
            },
          )

      -- ---- runs

      -- what a run leaves
      abbrev Ran : Contents → Contents → Type 0
      Ran old new =
          (made : Files) × (made_of kinds task.actions task.values (trees_of task (outside old).files) task.outputs ≡ Ok made)
          × ((outside new).files ≡ with_outputs task (outside old).files made) × (is_empty (blocked_in (rest_of task (outside old).files) made) ≡ true)
          × (new.special ≡ old.special)

      ran_did : (old read : F) (before after : Contents) (trees : Trees) → Shows read before → HaveRead device task trees old read → Ran before after → Did kinds task (world_of before) (world_of after)
      ran_did old read before after trees shows have ran = worked (record {
        runs = runs;
        has_actions = acts;
        readable = readable_outside task before acts (inputs_readable device leaves Shows are old read before shows task trees have.inputs);
        made_files = ran.0;
        makes = made_sourced kinds task (outside before).files ran.0 (source_outside task before.files ∙ sourced device leaves Shows are old read before shows task have.sourced) ran.1;
        room = ran.3;
        files = ran.2;
        special = ran.4;
        memory = inl refl;
      })

      full_well : (lines : List Text) (old new : F) (after : Contents) → Shows new after → RanInFull device meanings rows task (is_some last) lines (Ok tt) old new → Went old after
      full_well lines old new after shows was =
          let back = back_calls device leaves Shows are was.1 new was.3.0 after was.3.1 shows in
          let folder = (are.sound was.1 back.0 back.1).folder in
          let ran = ran_in_full leaves kinds meanings rows agrees task was.0 (is_some last) was.3.0 lines back.0 after folder lie (trees_here old was.1 back.0 was.0 back.1 was.2) was.3.2 back.2 in (
            back.0,
            back_unchanged device leaves Shows are old was.1 back.0 was.2.requests back.1,
            record {
              sound = are.sound new after shows;
              files = ap (rest_of task) ran.2
                  ∙ rest_kept task (outside back.0).files ran.0 (sorted-where is_kept back.0.files folder.in_order)
                  (made_of_is_right kinds task.outputs task.values (trees_of task (outside back.0).files) task.actions ran.0 ran.1);
              special = ran.4;
              done = λ goes. ran_did old was.1 back.0 after was.0 back.1 was.2 ran;
            },
          )

      changes_well : (run : Record) (lines : List Text) (old new : F) (after : Contents) → Shows new after → last ≡ Some run → IsTrue (has_one_writer kinds task.actions)
          → RanByChanges device meanings rows task options run lines (Ok tt) old new → Went old after
      changes_well run lines old new after shows is one was = (
        back.0,
        back_unchanged device leaves Shows are old was.3 back.0 was.4.requests back.1,
        record {
          sound = are.sound new after shows;
          files = stays.0;
          special = stays.1;
          done = λ goes. ran_did old was.3 back.0 after was.0 back.1 was.4 (ran goes);
        },
      )
        where
          back : (before : Contents) × Shows was.3 before × AnswersAll leaves before was.6.0 after
          back = back_calls device leaves Shows are was.3 new was.6.0 after was.6.1 shows

          stays : DiffersOnlyAt (is_output_of task) (outside back.0).files (outside after).files × (after.special ≡ back.0.special)
          stays = changes_kept leaves meanings rows task was.0 was.1 was.2 was.6.0 lines back.0 after was.6.2 back.2

          trees : was.0 ≡ trees_of task (outside back.0).files
          trees = trees_here old was.3 back.0 was.0 back.1 was.4

          observed : was.2 ≡ map (observed_of back.0.files) task.outputs
          observed = outputs_are device leaves Shows are old was.3 back.0 back.1 task was.2 was.5.outputs was.5.formed buildable.not_own

          ran : GoesByTrue kinds last (contents_outside back.0) → Ran back.0 after
          ran goes =
              let from = goes_from_true device kinds options task run was.0 was.1 was.2 old was.3 lie one (goes run is).0.held was.5
              (true_beside kinds task last run (outside back.0).files was.0 was.2 is trees (observed_outside was.3 back.0 was.2 back.1 observed) goes) in
              ran_by_changes leaves kinds meanings rows agrees task was.0 was.1 was.2 was.6.0 lines back.0 after (are.sound was.3 back.0 back.1).folder (are.sound was.3 back.0 back.1).placed lie trees
              (all_fitting meanings kinds rows task task.actions own_output agrees buildable.ready) from.0 from.1 from.4 observed was.6.2 back.2

      run_well : (lines : List Text) (old new : F) (after : Contents) → Shows new after → WasRun device meanings rows task options last lines (Ok tt) old new → Went old after
      run_well lines old new after shows (inl full) = full_well lines old new after shows full
      run_well lines old new after shows (inr by) = changes_well by.0 lines old new after shows by.1 (by.2 kinds agrees) by.3

    -- ---- by outcome

    module _ (plan : Plan) (moment : Moment) (lines : List Text) (since old new : F) (after : Contents) (shows : Shows new after) (shaped : IsShaped task) where
      abbrev Requested : Outcome → Type 0
      Requested outcome = ExecutionRequests device meanings rows options task last outcome lines since old new

      by : (outcome : Outcome) (r a : Bool) → task.runs ≡ r → is_empty task.actions ≡ a → AnswersAlone options plan moment task r a outcome → is_failed outcome ≡ false → is_started outcome ≡ true
          → Requested outcome → Went old after
      by outcomes.NotRun r a runs acts answer well started requests = not_true started
      by (outcomes.Failed fault) r a runs acts answer well started requests = not_false well
      by outcomes.Skipped false a runs acts answer well started requests = still old new after requests shows (λ _. skipped runs refl)
      by outcomes.UpToDate false a runs acts (inl is) well started requests = absurd (let e = is in (cc))
      by outcomes.UpToDate false a runs acts (inr is) well started requests = absurd (let e = is in (cc))
      by outcomes.NoSource false a runs acts (inl is) well started requests = absurd (let e = is in (cc))
      by outcomes.NoSource false a runs acts (inr is) well started requests = absurd (let e = is in (cc))
      by outcomes.Executed false a runs acts (inl is) well started requests = absurd (let e = is in (cc))
      by outcomes.Executed false a runs acts (inr is) well started requests = absurd (let e = is in (cc))
      by outcomes.Skipped true true runs acts (inl is) well started requests = never_idle outcomes.Skipped (some_outcome is_executed moment (needs_in plan task)) refl is
      by outcomes.Skipped true true runs acts (inr is) well started requests = absurd (let e = is in (cc))
      by outcomes.NoSource true true runs acts (inl is) well started requests = never_idle outcomes.NoSource (some_outcome is_executed moment (needs_in plan task)) refl is
      by outcomes.NoSource true true runs acts (inr is) well started requests = absurd (let e = is in (cc))
      by outcomes.UpToDate true true runs acts answer well started requests = still old new after requests.0 shows (λ _. idle runs acts refl)
      by outcomes.Executed true true runs acts answer well started (inl rests) = still old new after rests.1 shows (λ _. idle runs acts refl)
      by outcomes.Executed true true runs acts answer well started (inr (inl full)) = idle_full lines old new after runs acts (shaped acts) shows full
      by outcomes.Executed true true runs acts answer well started (inr (inr ran)) = no_writer kinds task.actions acts (ran.2 kinds agrees)
      by outcomes.Skipped true false runs acts answer well started requests = absurd answer
      by outcomes.UpToDate true false runs acts answer well started requests = still old new after requests.0 shows (current runs acts since new after shows (requests.1 refl acts))
      by outcomes.NoSource true false runs acts answer well started requests = cleared_well runs acts lines old new after shows requests
      by outcomes.Executed true false runs acts answer well started (inl rests) = not_false (sym rests.0 ∙ acts)
      by outcomes.Executed true false runs acts answer well started (inr ran) = run_well runs acts lines old new after shows ran

  -- What an execution that went well did.
  pub step : (plan : Plan) (moment : Moment) (task : Task) (last : Option Record) (outcome : Outcome) (lines : List Text) (since old new : F) (after : Contents)
      → IsBuildable meanings rows task → IsShaped task → some_overlap (output_places task) ≡ false
      → AnswersAlone options plan moment task task.runs (is_empty task.actions) outcome → is_failed outcome ≡ false → is_started outcome ≡ true
      → ExecutionRequests device meanings rows options task last outcome lines since old new → Shows new after
      → (before : Contents) × Shows old before × WentWell kinds task last before after
  step plan moment task last outcome lines since old new after buildable shaped apart answer well started requests shows =
      by task last buildable apart plan moment lines since old new after shows shaped outcome task.runs (is_empty task.actions) refl refl answer well started requests
