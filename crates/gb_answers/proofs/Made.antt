-- What a run that went well makes was written by its calls, or was read at its outputs.
use Rattle.std.specs.Prelude.{◌≡◌, ◌⊎◌, ◌++◌, Bool, true, false, not, ◌&&◌, cond, List, [], ◌∷◌, map, Option, None, Some, Result, Ok, Err, IsTrue, is_some, unwrap_or, ⊤}
use Rattle.std.specs.List.{AllByRecursion, AllZip, filter, fold}
use Rattle.std.specs.FinMap.Entries.{find, is_sorted, put}
use Rattle.std.specs.Ordering.{eq_by_cmp}
use Rattle.std.proofs.Common.{refl, sym, ap, subst, ◌∙◌, inl, inr, true≢false}
use Rattle.std.proofs.lemmas.List.{append-nil}
use Rattle.gb_core.specs.Lists.{byte_order}
use Rattle.gb_core.specs.Place.{beneath, is_place}
use Rattle.gb_action.specs.Changes.{Changes}
use Rattle.gb_action.specs.Files.{Trees}
use Rattle.gb_action.specs.declared.output_files.OutputFiles.{OutputFiles}
use Rattle.gb_action.specs.declared.reply.Reply.{Reply}
use Rattle.gb_action.specs.declared.reply.Written.{Written}
use Rattle.gb_folder.specs.Calls.{Call, Writes}
use Rattle.gb_folder.specs.Files.{Bytes, Files, IsFolder, Place, are_placed, file_at}
use Rattle.gb_folder.specs.Limits.{max_file}
use Rattle.gb_folder.specs.Semantics.{Answer}
use Rattle.gb_semantics.specs.Kinds.{Kinds, kind_of}
use Rattle.gb_semantics.specs.Made.{act, made_of, placed, put_over, put_result, step_faults}
use Rattle.gb_semantics.specs.TrueRecord.{contents_in}
use Rattle.gb_semantics.proofs.Lemmas.Files.{left_of, or_else, right_of, same_place}
use Rattle.gb_semantics.proofs.Lemmas.Making.{made_of_is_right}
use Rattle.gb_semantics.proofs.Lemmas.Reading.{each}
use Rattle.gb_plan.specs.Task.{Text}
use Rattle.gb_plan.specs.declared.task.Action.{Action}
use Rattle.gb_plan.specs.declared.task.Output.{Output}
use Rattle.gb_plan.specs.declared.task.TaskDeclaration.{TaskDeclaration as Task}
use Rattle.gb_records.proofs.Placed.{made_placed}
use Rattle.gb_report.specs.declared.fault.Fault.{Fault}
use Rattle.gb_run.specs.Asking.{made_by}
use Rattle.gb_run.specs.AskingChanges.{GoesOn, IsFitting, writers}
use Rattle.gb_run.specs.ChangeLaws.{IsReplied}
use Rattle.gb_run.specs.RunInput.{RunInput, run_input}
use Rattle.gb_run.specs.Doing.{Does, Ending, OrEnds, call_of, ending_of}
use Rattle.gb_run.specs.Named.{existing, held_after, named, put as put_files, steps_of}
use Rattle.gb_run.specs.Steps.{Step, in_step_order, put_steps}
use Rattle.gb_run.specs.Work.{DoesParts, OrPrints, Part, RunsInFull, Work, files_of, or_fault, or_stop, part_of, with_part, work_of}
use Rattle.gb_run.specs.WorkByChanges.{EndsSo, Increment, IsPart, IsReaderPart, IsWriterPart, RunsByChanges, increment_of}
use Rattle.gb_run.proofs.Beside.{at_over}
use Rattle.gb_run.proofs.Digested.{each_found}
use Rattle.gb_run.proofs.Leading.{at_files, held_is_made}
use Rattle.gb_run.proofs.Looks.{at_put, sorted_steps}
use Rattle.gb_run.proofs.WritingAction.{ok_value}
use Rattle.gb_run.proofs.Writer.{GoesBy, IsOfWriter, first_goes, heads, ok_same, writer_made, writer_of}
use Rattle.gb_tree.proofs.Holding.{all_append}

-- what holds of all holds of the first, and of the others
pub left_part : {X : Type 0} (P : X → Type 0) (xs ys : List X) → AllByRecursion P (xs ++ ys) → AllByRecursion P xs
left_part P [] ys all = tt
left_part P (x ∷ xs) ys all = (all.0, left_part P xs ys all.1)

pub right_part : {X : Type 0} (P : X → Type 0) (xs ys : List X) → AllByRecursion P (xs ++ ys) → AllByRecursion P ys
right_part P [] ys all = all
right_part P (x ∷ xs) ys all = right_part P xs ys all.1

-- ---- calls that were made

-- the call is one of these
abbrev pub Has : List Call → Call → Type 0
Has [] call = ⊥
Has (first ∷ calls) call = (first ≡ call) ⊎ Has calls call

has_left : (calls more : List Call) (call : Call) → Has calls call → Has (calls ++ more) call
has_left [] more call has = absurd has
has_left (first ∷ calls) more call (inl here) = inl here
has_left (first ∷ calls) more call (inr later) = inr (has_left calls more call later)

has_right : (calls more : List Call) (call : Call) → Has more call → Has (calls ++ more) call
has_right [] more call has = has
has_right (first ∷ calls) more call has = inr (has_right calls more call has)

-- the file was written
abbrev pub WroteFile : List Call → Place → Bytes → Type 0
WroteFile calls place bytes = Has calls (Writes place bytes max_file (Ok tt))

-- ---- steps that were done

-- each step that puts a file wrote it
abbrev Wrote : List Call → Step → Type 0
Wrote calls (place, None) = ⊤
Wrote calls (place, Some bytes) = WroteFile calls place bytes

wrote_later : (first : Call) (calls : List Call) (step : Step) → Wrote calls step → Wrote (first ∷ calls) step
wrote_later first calls (place, None) wrote = tt
wrote_later first calls (place, Some bytes) wrote = inr wrote

all_later : (first : Call) (calls : List Call) (steps : List Step) → AllByRecursion (Wrote calls) steps → AllByRecursion (Wrote (first ∷ calls)) steps
all_later first calls [] all = tt
all_later first calls (step ∷ steps) all = (wrote_later first calls step all.0, all_later first calls steps all.1)

here_wrote : (step : Step) (answer : Answer) (calls : List Call) → ending_of step answer ≡ Ok tt → Wrote (call_of step answer ∷ calls) step
here_wrote (place, None) answer calls well = tt
here_wrote (place, Some bytes) (Ok done) calls well = inl refl
here_wrote (place, Some bytes) (Err fault) calls well = absurd (let e = well in (cc))

pub all_wrote : (steps : List Step) (calls : List Call) → Does steps calls (Ok tt) → AllByRecursion (Wrote calls) steps
all_wrote [] calls does = tt
all_wrote (step ∷ steps) calls (inl memory) = absurd (let e = memory.1 in (cc))
all_wrote (step ∷ steps) calls (inr done) =
    subst (λ (cs : List Call). AllByRecursion (Wrote cs) (step ∷ steps)) (sym done.2) (on (ending_of step done.0) refl done.3 (λ does. all_wrote steps done.1 does))
  where
    on : (mid : Ending) → ending_of step done.0 ≡ mid → OrEnds mid (Does steps done.1 (Ok tt)) done.1 (Ok tt) → (Does steps done.1 (Ok tt) → AllByRecursion (Wrote done.1) steps)
        → AllByRecursion (Wrote (call_of step done.0 ∷ done.1)) (step ∷ steps)
    on (Ok done_well) is next goes = (here_wrote step done.0 done.1 is, all_later (call_of step done.0) done.1 steps (goes next))
    on (Err fault) is next goes = absurd (let e = next.1 in (cc))

-- files that are put as steps
all_put : (calls : List Call) (files : Files) → AllByRecursion (Wrote calls) (put_files files) → AllByRecursion (λ (file : Place × Bytes). WroteFile calls file.0 file.1) files
all_put calls [] all = tt
all_put calls (file ∷ files) all = (all.0, all_put calls files all.1)

-- of files by place
by_place : (P : Place → Bytes → Type 0) (files : Files) → AllByRecursion (λ (file : Place × Bytes). P file.0 file.1) files → (q : Place) (bytes : Bytes) → file_at files q ≡ Some bytes → P q bytes
by_place P [] all q bytes is = absurd (let e = is in (cc))
by_place P (file ∷ files) all q bytes is = at (eq_by_cmp byte_order q file.0) refl is (λ e. by_place P files all.1 q bytes e)
  where
    at : (b : Bool) → eq_by_cmp byte_order q file.0 ≡ b → cond b (Some file.1) (file_at files q) ≡ Some bytes → (file_at files q ≡ Some bytes → P q bytes) → P q bytes
    at true same e later =
        let bytes_are : file.1 ≡ bytes = (let d = e in (cc)) in
        subst (λ (place : Place). P place bytes) (sym (same_place q file.0 same)) (subst (P file.0) bytes_are all.0)
    at false same e later = later e

-- ---- a full run

either : (o held : Option Bytes) (bytes : Bytes) → or_else o held ≡ Some bytes → (o ≡ Some bytes) ⊎ (held ≡ Some bytes)
either (Some x) held bytes is = inl is
either None held bytes is = inr is

module _ (kinds : Kinds) (task : Task) (trees : Trees) (changes : List Changes) where
  abbrev input : RunInput
  input = run_input kinds task trees changes []

  -- the first of these actions was done, and then the others
  module _ (action : Action) (actions : List Action) (held new : Files) (by : GoesBy kinds task task.values trees action actions held new) where
    abbrev own : Files
    own = put_over [] (placed task.outputs by.written)

    abbrev more : Files
    more = put_over held (placed task.outputs by.written)

    abbrev part : Part
    part = part_of input action

    abbrev next : Files → Work
    next files = with_part (part_of input action) (work_of input files actions)

    work_is : work_of input held (action ∷ actions) ≡ with_part (part_of input action) (work_of input more actions)
    work_is =
        ap (λ (r : Result (List Written) Text). or_stop (put_result task.outputs held r) next) by.makes
        ∙ ap (λ b. or_stop (cond b (Ok more) (Err (step_faults task.outputs held (placed task.outputs by.written)))) next) by.free

    steps_are : part.steps ≡ put_files own
    steps_are = ap (λ (r : Result (List Written) Text). put_files (files_of task.outputs r)) by.makes

    in_first : (calls : List Call) → Does part.steps calls (Ok tt) → (q : Place) (bytes : Bytes) → file_at own q ≡ Some bytes → WroteFile calls q bytes
    in_first calls does = by_place (WroteFile calls) own (all_put calls own (all_wrote (put_files own) calls (subst (λ (ss : List Step). Does ss calls (Ok tt)) steps_are does)))

    first_then : (calls : List Call) (lines : List Text) → DoesParts (part ∷ (work_of input more actions).parts) calls lines (Ok tt)
        → ((later : List Call) (rest : List Text) → DoesParts (work_of input more actions).parts later rest (Ok tt)
        → (q : Place) (bytes : Bytes) → file_at new q ≡ Some bytes → (file_at more q ≡ Some bytes) ⊎ WroteFile later q bytes)
        → (q : Place) (bytes : Bytes) → file_at new q ≡ Some bytes → (file_at held q ≡ Some bytes) ⊎ WroteFile calls q bytes
    first_then calls lines done again q bytes at = on done.2 done.4 done.5
      where
        on : (mid : Ending) → Does part.steps done.0 mid → OrPrints mid part.lines (λ rest. DoesParts (work_of input more actions).parts done.1 rest (Ok tt)) done.1 lines (Ok tt)
            → (file_at held q ≡ Some bytes) ⊎ WroteFile calls q bytes
        on (Err fault) first prints = absurd (let e = prints.2 in (cc))
        on (Ok well) first (inl memory) = absurd (let e = memory.2 in (cc))
        on (Ok well) first (inr printed) = elim (again done.1 printed.0 printed.2 q bytes at) [
          | inl there ↦ elim (either (file_at own q) (file_at held q) bytes (sym (at_over held (placed task.outputs by.written) q) ∙ there)) [
            | inl put_there ↦ inr (subst (λ (cs : List Call). WroteFile cs q bytes) (sym done.3) (has_left done.0 done.1 (Writes q bytes max_file (Ok tt)) (in_first done.0 first q bytes put_there)))
            | inr before ↦ inl before
          ]
          | inr wrote ↦ inr (subst (λ (cs : List Call). WroteFile cs q bytes) (sym done.3) (has_right done.0 done.1 (Writes q bytes max_file (Ok tt)) wrote))
        ]

  -- what is held at the end was held before, or written
  held_or_written : (actions : List Action) (held new : Files) (calls : List Call) (lines : List Text)
      → fold (act kinds task.outputs task.values trees) (Ok held) actions ≡ Ok new → DoesParts (work_of input held actions).parts calls lines (Ok tt)
      → (q : Place) (bytes : Bytes) → file_at new q ≡ Some bytes → (file_at held q ≡ Some bytes) ⊎ WroteFile calls q bytes
  held_or_written [] held new calls lines goes does = λ q bytes at. inl (ap (λ (r : Files). file_at r q) (ok_same (fold (act kinds task.outputs task.values trees) (Ok held) []) held new refl goes) ∙ at)
  held_or_written (action ∷ actions) held new calls lines goes does =
      let by = first_goes kinds task task.values trees action actions held new goes in
      first_then action actions held new by calls lines (subst (λ (w : Work). DoesParts w.parts calls lines (Ok tt)) (work_is action actions held new by) does)
      (λ later rest done. held_or_written actions (put_over held (placed task.outputs by.written)) new later rest by.later done)

-- what holds of what is found by place holds of each file
each_file : (P : Place → Bytes → Type 0) (files : Files) → is_sorted byte_order files ≡ true → ((q : Place) (bytes : Bytes) → file_at files q ≡ Some bytes → P q bytes)
    → AllByRecursion (λ (file : Place × Bytes). P file.0 file.1) files
each_file P files sorted by = each (λ (file : Place × Bytes). file_at files file.0 ≡ Some file.1) (λ (file : Place × Bytes). P file.0 file.1) (λ file is. by file.0 file.1 is) files (each_found files sorted)

-- each file that a full run makes was written by its calls
pub made_in_full : (kinds : Kinds) (task : Task) (trees : Trees) (changes : List Changes) (made : Files) (calls : List Call) (lines : List Text)
    → made_of kinds task.actions task.values trees task.outputs ≡ Ok made → RunsInFull (run_input kinds task trees changes []) calls lines (Ok tt)
    → AllByRecursion (λ (file : Place × Bytes). WroteFile calls file.0 file.1) made
made_in_full kinds task trees changes made calls lines is (inl memory) = absurd (let e = memory.2 in (cc))
made_in_full kinds task trees changes made calls lines is (inr ran) = by ran.0 ran.1 ran.2
  where
    by : (done : Ending) → DoesParts (work_of (run_input kinds task trees changes []) [] task.actions).parts calls lines done
        → Ok tt ≡ or_fault done (work_of (run_input kinds task trees changes []) [] task.actions).fault → AllByRecursion (λ (file : Place × Bytes). WroteFile calls file.0 file.1) made
    by (Err fault) does result = absurd (let e = result in (cc))
    by (Ok well) does result =
        each_file (WroteFile calls) made (made_of_is_right kinds task.outputs task.values trees task.actions made is).in_order
        (λ q bytes at. elim (held_or_written kinds task trees changes task.actions [] made calls lines is does q bytes at) [
          | inl never ↦ absurd (let e = never in (cc))
          | inr wrote ↦ wrote
        ])

-- ---- a run by changes

-- a step that is found in steps over these is found in the same steps over none, or in these
over_steps : (q : Place) (v : Option Bytes) (held one two : List Step) (steps : List Step)
    → ((w : Option Bytes) → find byte_order q one ≡ Some w → (find byte_order q two ≡ Some w) ⊎ (find byte_order q held ≡ Some w))
    → find byte_order q (put_steps one steps) ≡ Some v → (find byte_order q (put_steps two steps) ≡ Some v) ⊎ (find byte_order q held ≡ Some v)
over_steps q v held one two [] so is = so v is
over_steps q v held one two (step ∷ steps) so is =
    over_steps q v held (put byte_order step.0 step.1 one) (put byte_order step.0 step.1 two) steps (λ w at. by w (eq_by_cmp byte_order q step.0) refl (sym (at_put one step q) ∙ at)) is
  where
    by : (w : Option Bytes) (b : Bool) → eq_by_cmp byte_order q step.0 ≡ b → cond b (Some step.1) (find byte_order q one) ≡ Some w
        → (find byte_order q (put byte_order step.0 step.1 two) ≡ Some w) ⊎ (find byte_order q held ≡ Some w)
    by w true same e = inl (at_put two step q ∙ ap (λ b. cond b (Some step.1) (find byte_order q two)) same ∙ e)
    by w false same e = elim (so w e) [
      | inl found ↦ inl (at_put two step q ∙ ap (λ b. cond b (Some step.1) (find byte_order q two)) same ∙ found)
      | inr before ↦ inr before
    ]

-- what holds of all steps holds of one that is found
found_step : (P : Place → Option Bytes → Type 0) (steps : List Step) → AllByRecursion (λ (step : Step). P step.0 step.1) steps → (q : Place) (v : Option Bytes) → find byte_order q steps ≡ Some v → P q v
found_step P [] all q v is = absurd (let e = is in (cc))
found_step P (step ∷ steps) all q v is = at (eq_by_cmp byte_order q step.0) refl is (λ e. found_step P steps all.1 q v e)
  where
    at : (b : Bool) → eq_by_cmp byte_order q step.0 ≡ b → cond b (Some step.1) (find byte_order q steps) ≡ Some v → (find byte_order q steps ≡ Some v → P q v) → P q v
    at true same e later =
        let value : step.1 ≡ v = (let d = e in (cc)) in
        subst (λ (place : Place). P place v) (sym (same_place q step.0 same)) (subst (P step.0) value all.0)
    at false same e later = later e

abbrev removal : Step → Bool
removal step = is_place step.0 && not (is_some step.1)

abbrev writing : Step → Bool
writing step = is_place step.0 && is_some step.1

-- what holds of all in turn holds of those at places
before_turn : (P : Step → Type 0) (steps : List Step) → AllByRecursion P (in_step_order steps) → AllByRecursion (λ (step : Step). is_place step.0 ≡ true → P step) steps
before_turn P steps all = split steps (left_part P (filter removal steps) (filter writing steps) all) (right_part P (filter removal steps) (filter writing steps) all)
  where
    split : (rest : List Step) → AllByRecursion P (filter removal rest) → AllByRecursion P (filter writing rest) → AllByRecursion (λ (step : Step). is_place step.0 ≡ true → P step) rest
    split [] one two = tt
    split (step ∷ rest) one two = (λ good. here good step.1 refl one two, split rest (later removal one) (later writing two))
      where
        later : (test : Step → Bool) → AllByRecursion P (filter test (step ∷ rest)) → AllByRecursion P (filter test rest)
        later test h = elim (test step) as (λ b. AllByRecursion P (cond b (step ∷ filter test rest) (filter test rest)) → AllByRecursion P (filter test rest)) [ true ↦ λ g. g.1 | false ↦ λ g. g ] h

        taken : (test : Step → Bool) → test step ≡ true → AllByRecursion P (filter test (step ∷ rest)) → P step
        taken test is h = (subst (λ b. AllByRecursion P (cond b (step ∷ filter test rest) (filter test rest))) is h).0

        here : is_place step.0 ≡ true → (v : Option Bytes) → step.1 ≡ v → AllByRecursion P (filter removal (step ∷ rest)) → AllByRecursion P (filter writing (step ∷ rest)) → P step
        here good None is h g = taken removal (ap (λ b. b && not (is_some step.1)) good ∙ ap (λ o. not (is_some o)) is) h
        here good (Some bytes) is h g = taken writing (ap (λ b. b && is_some step.1) good ∙ ap is_some is) g

-- files put over nothing are those files
put_found : (P : Bytes → Type 0) (held : List Step) (files : List (Place × Bytes)) → AllByRecursion (λ (file : Place × Bytes). P file.1) files
    → ((q : Place) (bytes : Bytes) → find byte_order q held ≡ Some (Some bytes) → P bytes)
    → (q : Place) (bytes : Bytes) → find byte_order q (put_steps held (put_files files)) ≡ Some (Some bytes) → P bytes
put_found P held [] all so q bytes is = so q bytes is
put_found P held (file ∷ files) all so q bytes is =
    put_found P (put byte_order file.0 (Some file.1) held) files all.1 (λ r b at. by r b (eq_by_cmp byte_order r file.0) (sym (at_put held (file.0, Some file.1) r) ∙ at)) q bytes is
  where
    by : (r : Place) (b : Bytes) (t : Bool) → cond t (Some (Some file.1)) (find byte_order r held) ≡ Some (Some b) → P b
    by r b true e = let same : file.1 ≡ b = (let d = e in (cc)) in subst P same all.0
    by r b false e = so r b e

-- the files of outputs are those that were observed
existing_of : (P : Bytes → Type 0) (outputs : List Output) (observed : List OutputFiles) → AllByRecursion P (contents_in (map (λ output. (output.name, output.files)) observed))
    → AllByRecursion (λ (file : Place × Bytes). P file.1) (existing outputs observed)
existing_of P [] observed all = tt
existing_of P (output ∷ outputs) [] all = tt
existing_of P (output ∷ outputs) (found ∷ observed) all =
    all_append (λ (file : Place × Bytes). P file.1) (map (λ (file : Place × Bytes). (beneath output.place file.0, file.1)) found.files) (existing outputs observed)
    (at_root found.files (left_part P (map (λ file. file.1) found.files) (contents_in (map (λ (o : OutputFiles). (o.name, o.files)) observed)) all))
    (existing_of P outputs observed (right_part P (map (λ file. file.1) found.files) (contents_in (map (λ (o : OutputFiles). (o.name, o.files)) observed)) all))
  where
    at_root : (files : Files) → AllByRecursion P (map (λ file. file.1) files) → AllByRecursion (λ (file : Place × Bytes). P file.1) (map (λ (file : Place × Bytes). (beneath output.place file.0, file.1)) files)
    at_root [] h = tt
    at_root (file ∷ files) h = (h.0, at_root files h.1)

module _ (kinds : Kinds) (task : Task) (trees : Trees) (changes : List Changes) (observed : List OutputFiles) (before : Trees) (old : Files)
    (goes_on : GoesOn kinds task before trees changes observed old) (fitting : AllByRecursion (IsFitting kinds task) task.actions) (folder : IsFolder old) (good : IsTrue (are_placed old)) where
  abbrev run : Increment
  run = increment_of kinds task trees changes observed

  -- the part of the writer was done
  record DidWriter (writer : Action) (calls : List Call) : Type 0 where
    pub part : Part
    pub is : IsWriterPart run writer part
    pub did : AllByRecursion (Wrote calls) part.steps

  did_later : (writer : Action) (first later : List Call) → DidWriter writer later → DidWriter writer (first ++ later)
  did_later writer first later did = record { part = did.part; is = did.is; did = each (Wrote later) (Wrote (first ++ later)) (λ step wrote. further step wrote) did.part.steps did.did }
    where
      further : (step : Step) → Wrote later step → Wrote (first ++ later) step
      further (place, None) wrote = tt
      further (place, Some bytes) wrote = has_right first later (Writes place bytes max_file (Ok tt)) wrote

  did_first : (writer : Action) (first later : List Call) → DidWriter writer first → DidWriter writer (first ++ later)
  did_first writer first later did = record { part = did.part; is = did.is; did = each (Wrote first) (Wrote (first ++ later)) (λ step wrote. further step wrote) did.part.steps did.did }
    where
      further : (step : Step) → Wrote first step → Wrote (first ++ later) step
      further (place, None) wrote = tt
      further (place, Some bytes) wrote = has_left first later (Writes place bytes max_file (Ok tt)) wrote

  find_writer : (writer : Action) (actions : List Action) (parts : List Part) (calls : List Call) (lines : List Text) → AllZip (IsPart run) actions parts → DoesParts parts calls lines (Ok tt)
      → writers kinds actions ≡ writer ∷ [] → DidWriter writer calls
  find_writer writer [] parts calls lines are does one = absurd (let e = one in (cc))
  find_writer writer (action ∷ actions) [] calls lines are does one = absurd are
  find_writer writer (action ∷ actions) (part ∷ parts) calls lines are does one =
      subst (λ (cs : List Call). DidWriter writer cs) (sym does.3) (on does.2 does.4 does.5 (λ rest done q. find_writer writer actions parts does.1 rest are.1 done q))
    where
      here : Does part.steps does.0 (Ok tt) → (IsReaderPart run action part ⊎ IsWriterPart run action part) → (b : Bool) → kinds.writes (kind_of action) ≡ b
          → cond b (action ∷ writers kinds actions) (writers kinds actions) ≡ writer ∷ [] → (writers kinds actions ≡ writer ∷ [] → DidWriter writer does.1) → DidWriter writer (does.0 ++ does.1)
      here first (inl reader) true writes q further = absurd (true≢false (sym writes ∙ reader.quiet))
      here first (inl reader) false writes q further = did_later writer does.0 does.1 (further q)
      here first (inr is) true writes q further =
          subst (λ (a : Action). DidWriter a (does.0 ++ does.1)) (heads action writer (writers kinds actions) [] q)
          (did_first action does.0 does.1 (record { part = part; is = is; did = all_wrote part.steps does.0 first }))
      here first (inr is) false writes q further = absurd (true≢false (sym is.writes ∙ writes))

      on : (mid : Ending) → Does part.steps does.0 mid → OrPrints mid part.lines (λ rest. DoesParts parts does.1 rest (Ok tt)) does.1 lines (Ok tt)
          → ((rest : List Text) → DoesParts parts does.1 rest (Ok tt) → writers kinds actions ≡ writer ∷ [] → DidWriter writer does.1) → DidWriter writer (does.0 ++ does.1)
      on (Err fault) first prints again = absurd (let e = prints.2 in (cc))
      on (Ok done) first (inl memory) again = absurd (let e = memory.2 in (cc))
      on (Ok done) first (inr printed) again = here first are.0.0 (kinds.writes (kind_of action)) refl one (again printed.0 printed.2)

  module _ (writer : Action) (writes : writers kinds task.actions ≡ writer ∷ []) (calls : List Call) (did : DidWriter writer calls) (made : Files)
      (is : made_of kinds task.actions task.values trees task.outputs ≡ Ok made) where
    abbrev reply : Reply
    reply = did.is.reply

    makes : (written : List Written) × (made_by kinds task writer trees ≡ Ok written)
    makes = ok_value (made_by kinds task writer trees) (did.is.answers.succeeds reply refl)

    replied : IsReplied kinds task trees changes observed old reply makes.0
    replied = record {
      in_order = folder.in_order;
      are_placed = good;
      fitting = fitting;
      old = before;
      goes_on = goes_on;
      writer = writer;
      writes = writes;
      makes = makes.1;
      carries = did.is.answers.by_changes reply refl refl;
    }

    of_writer : IsOfWriter kinds task task.values trees writer [] made
    of_writer = writer_made kinds task task.values trees task.actions writer [] made fitting writes is

    made_is : made ≡ held_after task.outputs observed reply.removes reply.writes
    made_is =
        of_writer.files
        ∙ ap (λ (w : List Written). put_over [] (placed task.outputs w)) (ok_same (made_by kinds task writer trees) of_writer.written makes.0 of_writer.makes makes.1)
        ∙ sym (held_is_made kinds task trees changes observed old reply makes.0 replied)

    abbrev base : List Step
    base = put_steps [] (put_files (existing task.outputs observed))

    abbrev all_steps : List Step
    all_steps = put_steps base (named task.outputs reply.removes reply.writes)

    base_sorted : is_sorted byte_order base ≡ true
    base_sorted = sorted_steps [] (put_files (existing task.outputs observed)) refl

    -- each file was written, or is one of those that were observed
    made_or_read : (P : Bytes → Type 0) → AllByRecursion P (contents_in (map (λ output. (output.name, output.files)) observed)) → (q : Place) (bytes : Bytes) → file_at made q ≡ Some bytes
        → is_place q ≡ true → WroteFile calls q bytes ⊎ P bytes
    made_or_read P read q bytes at placed =
        elim (over_steps q (Some bytes) base base [] (named task.outputs reply.removes reply.writes) (λ w there. inr there) (some_of (find byte_order q all_steps) at_steps)) [
          | inl step ↦ inl (found_step (λ p v. is_place p ≡ true → Wrote calls (p, v)) (steps_of task.outputs reply.removes reply.writes)
              (before_turn (Wrote calls) (steps_of task.outputs reply.removes reply.writes) (subst (AllByRecursion (Wrote calls)) did.is.steps did.did)) q (Some bytes) step placed)
          | inr there ↦ inr (put_found P [] (existing task.outputs observed) (existing_of P task.outputs observed read) (λ p b e. absurd (let d = e in (cc))) q bytes there)
        ]
      where
        at_steps : unwrap_or (find byte_order q all_steps) None ≡ Some bytes
        at_steps = sym (at_files all_steps (sorted_steps base (named task.outputs reply.removes reply.writes) base_sorted) q) ∙ ap (λ (fs : Files). file_at fs q) (sym made_is) ∙ at

        some_of : (o : Option (Option Bytes)) → unwrap_or o None ≡ Some bytes → o ≡ Some (Some bytes)
        some_of None e = absurd (let d = e in (cc))
        some_of (Some v) e = ap Some e

  -- Each file that a run by changes makes was written by its calls, or has a content that was read at its outputs.
  pub made_by_changes : (P : Bytes → Type 0) (made : Files) (calls : List Call) (lines : List Text) → AllByRecursion P (contents_in (map (λ output. (output.name, output.files)) observed))
      → made_of kinds task.actions task.values trees task.outputs ≡ Ok made → RunsByChanges run calls lines (Ok tt)
      → AllByRecursion (λ (file : Place × Bytes). WroteFile calls file.0 file.1 ⊎ P file.1) made
  made_by_changes P made calls lines read is (inl memory) = absurd (let e = memory.2 in (cc))
  made_by_changes P made calls lines read is (inr ran) = by ran.2 ran.3 ran.4
    where
      the_writer : (writer : Action) × (writers kinds task.actions ≡ writer ∷ [])
      the_writer = writer_of kinds task.actions goes_on.one_writer

      none_left_over : (left : List Action) (own : Option Fault) → EndsSo run left own → own ≡ None → left ≡ []
      none_left_over [] own ends well = refl
      none_left_over (action ∷ left) own ends well = absurd (let e = sym well ∙ ends.1 in (cc))

      no_fault : (own : Option Fault) → Ok tt ≡ or_fault (Ok tt) own → own ≡ None
      no_fault None e = refl
      no_fault (Some fault) e = absurd (let d = e in (cc))

      by : (done : Ending) → DoesParts ran.0.parts calls lines done → Ok tt ≡ or_fault done ran.0.fault → AllByRecursion (λ (file : Place × Bytes). WroteFile calls file.0 file.1 ⊎ P file.1) made
      by (Err fault) does result = absurd (let e = result in (cc))
      by (Ok well) does result =
          let rest = none_left_over ran.1.left ran.0.fault ran.1.ends (no_fault ran.0.fault result) in
          let whole : task.actions ≡ ran.1.done = ran.1.all ∙ ap (λ (l : List Action). ran.1.done ++ l) rest ∙ append-nil ran.1.done in
          let did = find_writer the_writer.0 task.actions ran.0.parts calls lines (subst (λ (l : List Action). AllZip (IsPart run) l ran.0.parts) (sym whole) ran.1.parts) does the_writer.1 in
          with_places did made (each_found made (made_of_is_right kinds task.outputs task.values trees task.actions made is).in_order)
          (made_placed kinds task.outputs task.values trees task.actions made is)
        where
          with_places : DidWriter the_writer.0 calls → (files : Files) → AllByRecursion (λ (file : Place × Bytes). file_at made file.0 ≡ Some file.1) files → are_placed files ≡ true
              → AllByRecursion (λ (file : Place × Bytes). WroteFile calls file.0 file.1 ⊎ P file.1) files
          with_places did [] found placed = tt
          with_places did (file ∷ files) found placed = (
            made_or_read the_writer.0 the_writer.1 calls did made is P read file.0 file.1 found.0 (left_of (is_place file.0) (are_placed files) placed),
            with_places did files found.1 (right_of (is_place file.0) (are_placed files) placed),
          )
