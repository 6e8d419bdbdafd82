-- Records stay true over any folder.
use Rattle.std.specs.Prelude.{◌≡◌, ◌++◌, ℕ, Bool, true, false, cond, List, [], ◌∷◌, map, unwrap_or, Some, None, Ok, Contains, IsTrue}
use Rattle.std.specs.List.{AllByRecursion, AllZip, flat_map, zip}
use Rattle.std.specs.FinMap.Entries.{find}
use Rattle.std.specs.Ordering.{eq_by_cmp}
use Rattle.std.proofs.Common.{refl, sym, ap, ap₂, subst, ◌∙◌}
use Rattle.std.proofs.lemmas.List.Elements.{Contains-append_left, Contains-append_right}
use mathlib.Core.Bool.{true≢false}
use Rattle.sha2.specs.Sha256.{sha256}
use Rattle.gb_action.specs.Changes.{Changes, changes_between}
use Rattle.gb_action.specs.Files.{Tree, Trees, tree_at}
use Rattle.gb_action.specs.Meanings.{Meanings}
use Rattle.gb_action.specs.Replies.{DescribesChangesFrom}
use Rattle.gb_action.specs.declared.change.Change.{Change}
use Rattle.gb_action.specs.declared.output_files.Form.{Form}
use Rattle.gb_action.specs.declared.output_files.OutputFiles.{OutputFiles}
use Rattle.gb_core.specs.Lists.{byte_order}
use Rattle.gb_folder.specs.Files.{Place, Bytes, Files, IsFolder, are_placed, file_at}
use Rattle.gb_history.specs.Decision.{IsAlike, changes_of, is_incremental}
use Rattle.gb_history.specs.Record.{ArePrints, IsWellFormed, Prints, Record, prints_in}
use Rattle.gb_history.specs.Text.{record_text}
use Rattle.gb_history.specs.declared.decide.Present.{Present}
use Rattle.gb_run.specs.AskingChanges.{GoesOn, request_of}
use Rattle.gb_semantics.proofs.Common.{none_some}
use Rattle.gb_semantics.specs.Kinds.{Kinds}
use Rattle.gb_semantics.specs.Label.{has_one_writer}
use Rattle.gb_semantics.specs.Made.{made_of}
use Rattle.gb_semantics.specs.Memory.{Entry, output_files}
use Rattle.gb_semantics.specs.TrueRecord.{contents_in, contents_of, prints_of}
use Rattle.gb_semantics.proofs.Lemmas.Files.{at-where, same_files, same_place, sorted-where}
use Rattle.gb_semantics.proofs.Lemmas.Making.{IsRight, made_of_is_right}
use Rattle.gb_plan.specs.Task.{is_output_of, given_files, given_outputs}
use Rattle.gb_plan.specs.declared.task.Output.{Output}
use Rattle.gb_plan.specs.declared.task.TaskDeclaration.{TaskDeclaration as Task}
use Rattle.gb_records.proofs.Separate.{trees_back, output_observed}
use Rattle.gb_records.proofs.Digests.{tree_in, trees_in}
use Rattle.gb_records.proofs.Outputs.{output_in, output_trees, outputs_reported, prints_reported}
use Rattle.gb_records.proofs.Placed.{made_placed}
use Rattle.gb_records.proofs.Since.{SameUnless, alike_trees}
use Rattle.gb_tree.specs.Prints.{digests_of}
use Rattle.gb_tree.proofs.Digests.{same_changes}
use Rattle.gb_report.specs.declared.report.Options.{Options}
use Rattle.gb_label.specs.ReadingAnswered.{AreInputsRead}
use Rattle.gb_label.specs.Reading.{digests_in, prints_observed, records_with, observed_of}
use Rattle.gb_task.specs.Keeping.{IsRecordOf}
use Rattle.gb_task.specs.Ran.{GoesFrom}
use Rattle.gb_task.specs.Truth.{AreMadeOf, FullRunsAreTrue, IsTextOfTrue, IsTrueBeside, AreSeparate, RunsByChangesStayTrue, UpToDateIsMade, contents_read}
use Rattle.gb_task.proofs.Made.{made_folder}
use Rattle.gb_task.proofs.Since.{all_sorted}
use Rattle.gb_folder.specs.Calls.{Device}

-- ---- the record of what was made

abbrev entry_by : Task → Trees → Files → Entry
entry_by task trees files = record { actions = task.actions; values = task.values; inputs = trees; outputs = task.outputs; files = files }

text_of_record : {F : Type 0} (device : Device F) (old read : F) (kinds : Kinds) (task : Task) (trees : Trees) (run : Record) (bytes : Bytes)
    → AreInputsRead device old read task trees → map (λ (tree : List ℕ × Tree). tree.0) trees ≡ given_files task.files → IsRecordOf kinds task trees run
    → bytes ≡ record_text task.path run → IsTextOfTrue device old kinds task bytes
text_of_record device old read kinds task trees run bytes inputs named of text = record {
  run = run;
  text = text;
  entry = entry_by task trees of.0;
  actions = refl;
  values = refl;
  outputs = refl;
  read = read;
  inputs_read = inputs;
  named = named;
  is_made = of.1;
  said = of.2;
}

pub full_runs_are_true : {F S : Type 0} (device : Device F) (meanings : Meanings S) → FullRunsAreTrue device meanings
full_runs_are_true device meanings first read rows kinds task trees run agrees have full =
    text_of_record device first read kinds task trees run (record_text task.path run) have.inputs have.named (full kinds agrees) refl

-- ---- what the lists of changes say of trees

-- the changes of the properties of these names, tree by tree
abbrev lists_of : List (List ℕ) → Trees → Trees → List Changes
lists_of names old new = flat_map (changes_of names) (zip old new)

abbrev Same : List (List ℕ) → Trees → Trees → Type 0
Same names old new = AllZip (SameUnless (is_incremental names)) old new

same_names : (names : List (List ℕ)) (old new : Trees) → Same names old new → map (λ (tree : List ℕ × Tree). tree.0) old ≡ map (λ (tree : List ℕ × Tree). tree.0) new
same_names names [] [] same = refl
same_names names [] (b ∷ new) same = absurd same
same_names names (a ∷ old) [] same = absurd same
same_names names (a ∷ old) (b ∷ new) same = ap₂ (λ (x : List ℕ) (l : List (List ℕ)). x ∷ l) same.0.0 (same_names names old new same.1)

-- a name that is not incremental has no list
no_list : (names : List (List ℕ)) (name : List ℕ) → is_incremental names name ≡ false → (old new : Trees) → find byte_order name (lists_of names old new) ≡ None
no_list names name not_so [] new = refl
no_list names name not_so (a ∷ old) [] = refl
no_list names name not_so (a ∷ old) (b ∷ new) = by (is_incremental names a.0) refl (no_list names name not_so old new)
  where
    tied : (c : Bool) → eq_by_cmp byte_order name a.0 ≡ c → is_incremental names a.0 ≡ true → find byte_order name (lists_of names old new) ≡ None
        → cond c (Some (changes_between a.1 b.1)) (find byte_order name (lists_of names old new)) ≡ None
    tied true is so rest = absurd (true≢false (sym so ∙ ap (is_incremental names) (sym (same_place name a.0 is)) ∙ not_so))
    tied false is so rest = rest

    by : (c : Bool) → is_incremental names a.0 ≡ c → find byte_order name (lists_of names old new) ≡ None
        → find byte_order name (cond c ((a.0, changes_between a.1 b.1) ∷ []) [] ++ lists_of names old new) ≡ None
    by true so rest = tied (eq_by_cmp byte_order name a.0) refl so rest
    by false so rest = rest

-- a tree without a list is as it was
others_same : (names : List (List ℕ)) (old new : Trees) → Same names old new → (name : List ℕ) → find byte_order name (lists_of names old new) ≡ None
    → find byte_order name old ≡ find byte_order name new
others_same names [] [] same name none = refl
others_same names [] (b ∷ new) same name none = absurd same
others_same names (a ∷ old) [] same name none = absurd same
others_same names (a ∷ old) (b ∷ new) same name none =
    by (others_same names old new same.1 name) (eq_by_cmp byte_order name a.0) refl (is_incremental names a.0) refl none
    ∙ ap (λ (n : List ℕ). cond (eq_by_cmp byte_order name n) (Some b.1) (find byte_order name new)) same.0.0
  where
    by : (find byte_order name (lists_of names old new) ≡ None → find byte_order name old ≡ find byte_order name new)
        → (t : Bool) → eq_by_cmp byte_order name a.0 ≡ t → (c : Bool) → is_incremental names a.0 ≡ c
        → find byte_order name (cond c ((a.0, changes_between a.1 b.1) ∷ []) [] ++ lists_of names old new) ≡ None
        → cond (eq_by_cmp byte_order name a.0) (Some a.1) (find byte_order name old) ≡ cond (eq_by_cmp byte_order name a.0) (Some b.1) (find byte_order name new)
    by later true is true so none =
        none_some (sym none ∙ ap (λ t. cond t (Some (changes_between a.1 b.1)) (find byte_order name (lists_of names old new))) is)
    by later true is false so none =
        ap (λ t. cond t (Some a.1) (find byte_order name old)) is ∙ ap Some (same.0.1 so)
        ∙ sym (ap (λ t. cond t (Some b.1) (find byte_order name new)) is)
    by later false is true so none =
        ap (λ t. cond t (Some a.1) (find byte_order name old)) is
        ∙ later (sym (ap (λ t. cond t (Some (changes_between a.1 b.1)) (find byte_order name (lists_of names old new))) is) ∙ none)
        ∙ sym (ap (λ t. cond t (Some b.1) (find byte_order name new)) is)
    by later false is false so none =
        ap (λ t. cond t (Some a.1) (find byte_order name old)) is
        ∙ later none
        ∙ sym (ap (λ t. cond t (Some b.1) (find byte_order name new)) is)

-- a list has the changes of its tree
lists_determine : (names : List (List ℕ)) (old new : Trees) → Same names old new → (name : List ℕ) (list : List Change) → find byte_order name (lists_of names old new) ≡ Some list
    → list ≡ changes_between (tree_at old name) (tree_at new name)
lists_determine names [] [] same name list some = absurd (let e = some in (cc))
lists_determine names [] (b ∷ new) same name list some = absurd same
lists_determine names (a ∷ old) [] same name list some = absurd same
lists_determine names (a ∷ old) (b ∷ new) same name list some =
    by (lists_determine names old new same.1 name list) (eq_by_cmp byte_order name a.0) refl (is_incremental names a.0) refl some
    ∙ ap (λ (n : List ℕ). changes_between (tree_at (a ∷ old) name) (unwrap_or (cond (eq_by_cmp byte_order name n) (Some b.1) (find byte_order name new)) [])) same.0.0
  where
    same_some : (x y : List Change) → Some x ≡ Some y → x ≡ y
    same_some x y e = cc

    found : Bool → List Change
    found t = changes_between (unwrap_or (cond t (Some a.1) (find byte_order name old)) []) (unwrap_or (cond t (Some b.1) (find byte_order name new)) [])

    by : (find byte_order name (lists_of names old new) ≡ Some list → list ≡ changes_between (tree_at old name) (tree_at new name))
        → (t : Bool) → eq_by_cmp byte_order name a.0 ≡ t → (c : Bool) → is_incremental names a.0 ≡ c
        → find byte_order name (cond c ((a.0, changes_between a.1 b.1) ∷ []) [] ++ lists_of names old new) ≡ Some list
        → list ≡ found (eq_by_cmp byte_order name a.0)
    by later true is true so some =
        same_some list (changes_between a.1 b.1) (sym some ∙ ap (λ t. cond t (Some (changes_between a.1 b.1)) (find byte_order name (lists_of names old new))) is)
        ∙ sym (ap found is)
    by later true is false so some =
        none_some (sym (no_list names name (ap (is_incremental names) (same_place name a.0 is) ∙ so) old new) ∙ some)
    by later false is true so some =
        later (sym (ap (λ t. cond t (Some (changes_between a.1 b.1)) (find byte_order name (lists_of names old new))) is) ∙ some)
        ∙ sym (ap found is)
    by later false is false so some = later some ∙ sym (ap found is)

-- ---- what was read, by digests

abbrev pair_of : OutputFiles → List ℕ × Tree
pair_of output = (output.name, output.files)

abbrev AreFormed : List OutputFiles → List Output → Type 0
AreFormed observed outputs = map (λ (output : OutputFiles). let form : List ℕ × Form = (output.name, output.form) in form) observed ≡ given_outputs outputs

first_formed : (a b : List ℕ × Form) (l m : List (List ℕ × Form)) → a ∷ l ≡ b ∷ m → a ≡ b
first_formed a b l m e = cc

others_formed : (a b : List ℕ × Form) (l m : List (List ℕ × Form)) → a ∷ l ≡ b ∷ m → l ≡ m
others_formed a b l m e = cc

said_with : (outputs : List Output) (observed : List OutputFiles) → AreFormed observed outputs → map output_in (records_with outputs (prints_observed observed)) ≡ outputs
said_with [] observed formed = refl
said_with (output ∷ outputs) [] formed = absurd (let e = formed in (cc))
said_with (output ∷ outputs) (one ∷ observed) formed =
    ap₂ (λ (name : List ℕ) (l : List Output). let said : Output = record { name = name; form = output.form; place = output.place } in said ∷ l)
    (ap (λ (form : List ℕ × Form). form.0) (first_formed _ _ _ _ formed)) (said_with outputs observed (others_formed _ _ _ _ formed))

prints_with : (outputs : List Output) (observed : List OutputFiles) → AreFormed observed outputs → prints_in (records_with outputs (prints_observed observed)) ≡ prints_of sha256 (map pair_of observed)
prints_with [] [] formed = refl
prints_with [] (one ∷ observed) formed = absurd (let e = formed in (cc))
prints_with (output ∷ outputs) [] formed = absurd (let e = formed in (cc))
prints_with (output ∷ outputs) (one ∷ observed) formed =
    ap (λ (l : List Prints). (one.name, digests_of one.files) ∷ l) (prints_with outputs observed (others_formed _ _ _ _ formed))

observed_back : (files : Files) (outputs : List Output) (observed : List OutputFiles) → AreFormed observed outputs → output_trees files outputs ≡ map pair_of observed → observed ≡ map (observed_of files) outputs
observed_back files [] [] formed same = refl
observed_back files [] (one ∷ observed) formed same = absurd (let e = formed in (cc))
observed_back files (output ∷ outputs) [] formed same = absurd (let e = formed in (cc))
observed_back files (output ∷ outputs) (one ∷ observed) formed same =
    ap₂ (λ (o : OutputFiles) (l : List OutputFiles). o ∷ l)
    (ap₂ (λ (form : List ℕ × Form) (tree : List ℕ × Tree). let o : OutputFiles = record { name = form.0; form = form.1; files = tree.1 } in o)
    (first_formed _ _ _ _ formed) (sym (head _ _ _ _ same)))
    (observed_back files outputs observed (others_formed _ _ _ _ formed) (tail _ _ _ _ same))
  where
    head : (a b : List ℕ × Tree) (l m : Trees) → a ∷ l ≡ b ∷ m → a ≡ b
    head a b l m e = cc

    tail : (a b : List ℕ × Tree) (l m : Trees) → a ∷ l ≡ b ∷ m → l ≡ m
    tail a b l m e = cc

made_in : (all : List Bytes) (files : Files) → AllByRecursion (λ (file : Place × Bytes). Contains all file.1) files → (outputs : List Output)
    → AllByRecursion (λ (tree : List ℕ × Tree). AllByRecursion (λ (file : Place × Bytes). Contains all file.1) tree.1) (output_trees files outputs)
made_in all files held [] = tt
made_in all files held (output ∷ outputs) = (output_observed (Contains all) files held output.place, made_in all files held outputs)

observed_at : (all : List Bytes) (tree : Tree) → AllByRecursion (λ (file : Place × Bytes). Contains all file.1) tree → (path bytes : List ℕ) → find byte_order path tree ≡ Some bytes → Contains all bytes
observed_at all [] h path bytes e = absurd (cc)
observed_at all (file ∷ tree) h path bytes e = by (observed_at all tree h.1 path bytes) (eq_by_cmp byte_order path file.0) e
  where
    by : (find byte_order path tree ≡ Some bytes → Contains all bytes) → (t : Bool) → cond t (Some file.1) (find byte_order path tree) ≡ Some bytes → Contains all bytes
    by later true is = let same : file.1 ≡ bytes = cc in subst (Contains all) same h.0
    by later false is = later is

-- digests of trees yield the same changes
same_lists : (all : List Bytes) → ((a b : Bytes) → Contains all a → Contains all b → sha256 a ≡ sha256 b → a ≡ b) → (names : List (List ℕ)) (old new : Trees)
    → AllByRecursion (λ (tree : List ℕ × Tree). AllByRecursion (λ (file : Place × Bytes). Contains all file.1) tree.1) old
    → AllByRecursion (λ (tree : List ℕ × Tree). AllByRecursion (λ (file : Place × Bytes). Contains all file.1) tree.1) new
    → flat_map (changes_of names) (zip (prints_of sha256 old) (prints_of sha256 new)) ≡ lists_of names old new
same_lists all separate names [] new p q = refl
same_lists all separate names (a ∷ old) [] p q = refl
same_lists all separate names (a ∷ old) (b ∷ new) p q =
    ap₂ (λ (list : List Change) (l : List Changes). cond (is_incremental names a.0) ((a.0, list) ∷ []) [] ++ l)
    (same_changes a.1 b.1 (λ path x y at to same. separate x y (observed_at all a.1 p.0 path x at) (observed_at all b.1 q.0 path y to) same))
    (same_lists all separate names old new p.1 q.1)

-- ---- what is known of a task whose record has the outputs that were read

module _ (kinds : Kinds) (task : Task) (last : Record) (trees : Trees) (observed : List OutputFiles) (lie : AreSeparate task)
    (formed : AreFormed observed task.outputs) (so : IsTrueBeside kinds last (contents_read trees observed))
    (actions_are : last.actions ≡ task.actions) (values_are : last.values ≡ task.values)
    (outputs_are : last.outputs ≡ records_with task.outputs (prints_observed observed)) where
  abbrev before : Entry
  before = so.entry

  abbrev all : List Bytes
  all = contents_of so.entry ++ contents_read trees observed

  actions : so.entry.actions ≡ task.actions
  actions = sym (ap (λ (r : Record). r.actions) so.said) ∙ actions_are

  values : so.entry.values ≡ task.values
  values = sym (ap (λ (r : Record). r.values) so.said) ∙ values_are

  outputs : so.entry.outputs ≡ task.outputs
  outputs =
      sym (outputs_reported so.entry.files so.entry.outputs)
      ∙ ap (map output_in) (sym (ap (λ (r : Record). r.outputs) so.said) ∙ outputs_are)
      ∙ said_with task.outputs observed formed

  inputs_said : last.inputs ≡ prints_of sha256 so.entry.inputs
  inputs_said = ap (λ (r : Record). r.inputs) so.said

  reported : prints_of sha256 (output_trees so.entry.files so.entry.outputs) ≡ prints_of sha256 (map pair_of observed)
  reported =
      sym (prints_reported so.entry.files so.entry.outputs)
      ∙ ap prints_in (sym (ap (λ (r : Record). r.outputs) so.said) ∙ outputs_are)
      ∙ prints_with task.outputs observed formed

  old_in : AllByRecursion (λ (tree : List ℕ × Tree). AllByRecursion (λ (file : Place × Bytes). Contains all file.1) tree.1) so.entry.inputs
  old_in = trees_in all so.entry.inputs (λ x c. Contains-append_left (contents_of so.entry) (contents_read trees observed) x
      (Contains-append_left (contents_in so.entry.inputs) (map (λ file. file.1) so.entry.files) x c))

  files_in : AllByRecursion (λ (file : Place × Bytes). Contains all file.1) so.entry.files
  files_in = tree_in all so.entry.files (λ x c. Contains-append_left (contents_of so.entry) (contents_read trees observed) x
      (Contains-append_right (contents_in so.entry.inputs) (map (λ file. file.1) so.entry.files) x c))

  new_in : AllByRecursion (λ (tree : List ℕ × Tree). AllByRecursion (λ (file : Place × Bytes). Contains all file.1) tree.1) trees
  new_in = trees_in all trees (λ x c. Contains-append_right (contents_of so.entry) (contents_read trees observed) x
      (Contains-append_left (contents_in trees) (contents_in (map pair_of observed)) x c))

  observed_in : AllByRecursion (λ (tree : List ℕ × Tree). AllByRecursion (λ (file : Place × Bytes). Contains all file.1) tree.1) (map pair_of observed)
  observed_in = trees_in all (map pair_of observed) (λ x c. Contains-append_right (contents_of so.entry) (contents_read trees observed) x
      (Contains-append_right (contents_in trees) (contents_in (map pair_of observed)) x c))

  same_trees : output_trees so.entry.files so.entry.outputs ≡ map pair_of observed
  same_trees = trees_back sha256 (Contains all) so.separate (output_trees so.entry.files so.entry.outputs) (map pair_of observed) (made_in all so.entry.files files_in so.entry.outputs) observed_in reported

  pub exist : observed ≡ map (observed_of so.entry.files) task.outputs
  exist = observed_back so.entry.files task.outputs observed formed (ap (output_trees so.entry.files) (sym outputs) ∙ same_trees)

  made_then : made_of kinds task.actions task.values so.entry.inputs task.outputs ≡ Ok so.entry.files
  made_then = (λ i. made_of kinds (sym actions i) (sym values i) so.entry.inputs (sym outputs i)) ∙ so.is_made

  right : IsRight task.outputs so.entry.files
  right = made_of_is_right kinds task.outputs task.values so.entry.inputs task.actions so.entry.files made_then

  own_files : so.entry.files ≡ output_files task so.entry.files
  own_files =
      same_files so.entry.files (output_files task so.entry.files) right.in_order (sorted-where (is_output_of task) so.entry.files right.in_order)
      (λ q. by q (is_output_of task q) refl ∙ sym (at-where (is_output_of task) so.entry.files q))
    where
      by : (q : Place) (b : Bool) → is_output_of task q ≡ b → file_at so.entry.files q ≡ cond (is_output_of task q) (file_at so.entry.files q) None
      by q true is = ap (λ b. cond b (file_at so.entry.files q) None) (sym is)
      by q false is = right.beside q is ∙ ap (λ b. cond b (file_at so.entry.files q) None) (sym is)

  -- with the inputs that were read, what was read at the outputs is what was made
  pub made_now : last.inputs ≡ digests_in trees → AreMadeOf kinds task trees observed
  made_now same = record {
    files = so.entry.files;
    made = ap (λ (ts : Trees). made_of kinds task.actions task.values ts task.outputs)
        (sym (trees_back sha256 (Contains all) so.separate so.entry.inputs trees old_in new_in (sym inputs_said ∙ same))) ∙ made_then;
    exist = exist;
  }

  module _ (names : List (List ℕ)) (held : AllByRecursion ArePrints last.inputs) (alike : AllZip (IsAlike names) last.inputs (digests_in trees)) where
    same : Same names so.entry.inputs trees
    same = alike_trees all so.separate names so.entry.inputs trees old_in new_in (subst (λ prints. AllZip (IsAlike names) prints (digests_in trees)) inputs_said alike)

    lists_are : flat_map (changes_of names) (zip last.inputs (digests_in trees)) ≡ lists_of names so.entry.inputs trees
    lists_are = ap (λ prints. flat_map (changes_of names) (zip prints (digests_in trees))) inputs_said ∙ same_lists all so.separate names so.entry.inputs trees old_in new_in

    shows : DescribesChangesFrom so.entry.inputs (request_of task trees (lists_of names so.entry.inputs trees) observed [])
    shows = record {
      ordered = all_sorted sha256 so.entry.inputs (subst (AllByRecursion ArePrints) inputs_said held);
      same_names = same_names names so.entry.inputs trees same;
      same_others = others_same names so.entry.inputs trees same;
      reported = lists_determine names so.entry.inputs trees same;
    }

    pub goes_on : (one : has_one_writer kinds task.actions ≡ true) → GoesOn kinds task so.entry.inputs trees (flat_map (changes_of names) (zip last.inputs (digests_in trees))) observed so.entry.files
    goes_on one = subst (λ (lists : List Changes). GoesOn kinds task so.entry.inputs trees lists observed so.entry.files) (sym lists_are) (record {
      one_writer = one;
      was_made = made_then ∙ ap Ok own_files;
      shows = shows;
      exists = exist;
      separate = lie.separate;
      not_own = lie.not_own;
    })

-- ---- the laws

-- By a true record, the changes of an incremental run lead to the trees that were read from those of which
-- what was read at the outputs was made.
pub goes_from_true : {F : Type 0} (device : Device F) (kinds : Kinds) (options : Options) (task : Task) (last : Record) (trees : Trees)
    (changes : List Changes) (observed : List OutputFiles) (first read : F) → AreSeparate task → has_one_writer kinds task.actions ≡ true → IsWellFormed last
    → GoesFrom device options task last trees changes observed first read → IsTrueBeside kinds last (contents_read trees observed)
    → (before : Trees) × (existing : Files) × IsFolder existing × IsTrue (are_placed existing) × GoesOn kinds task before trees changes observed existing
goes_from_true device kinds options task last trees changes observed first read lie one held on so = (
  so.entry.inputs,
  so.entry.files,
  made_folder kinds task.outputs task.values so.entry.inputs task.actions so.entry.files made,
  made_placed kinds task.outputs task.values so.entry.inputs task.actions so.entry.files made,
  subst (λ (lists : List Changes). GoesOn kinds task so.entry.inputs trees lists observed so.entry.files) (sym lists)
      (goes_on kinds task last trees observed lie on.formed so actions values outputs names held.inputs alike one),
)
  where
    present : Present
    present = on.decided.present

    names : List (List ℕ)
    names = on.decided.present.incremental.items

    actions : last.actions ≡ task.actions
    actions = on.decided.decides.1.same_actions ∙ ap (λ (run : Record). run.actions) on.decided.is.now

    values : last.values ≡ task.values
    values = on.decided.decides.1.same_values ∙ ap (λ (run : Record). run.values) on.decided.is.now

    outputs : last.outputs ≡ records_with task.outputs (prints_observed observed)
    outputs = on.decided.decides.1.same_outputs ∙ ap (λ (run : Record). run.outputs) on.decided.is.now

    inputs : on.decided.present.now.inputs ≡ digests_in trees
    inputs = ap (λ (run : Record). run.inputs) on.decided.is.now

    alike : AllZip (IsAlike names) last.inputs (digests_in trees)
    alike = subst (λ prints. AllZip (IsAlike names) last.inputs prints) inputs on.decided.decides.1.alike

    lists : changes ≡ flat_map (changes_of names) (zip last.inputs (digests_in trees))
    lists = on.decided.decides.2 ∙ ap (λ prints. flat_map (changes_of names) (zip last.inputs prints)) inputs

    made : made_of kinds task.actions task.values so.entry.inputs task.outputs ≡ Ok so.entry.files
    made = made_then kinds task last trees observed lie on.formed so actions values outputs

pub runs_by_changes_stay_true : {F S : Type 0} (device : Device F) (meanings : Meanings S) → RunsByChangesStayTrue device meanings
runs_by_changes_stay_true device meanings first read rows kinds options task last trees changes observed run agrees lie one held have on by so =
    let from = goes_from_true device kinds options task last trees changes observed first read lie one held on so in
    text_of_record device first read kinds task trees run (record_text task.path run) have.inputs have.named
    (by kinds agrees from.0 from.1 from.2 from.3 from.4) refl

pub up_to_date_is_made : {F : Type 0} (device : Device F) → UpToDateIsMade device
up_to_date_is_made device kinds options task last old new lie on so =
    made_now kinds task on.run on.trees on.observed lie on.formed so
    (ap (λ (run : Record). run.actions) same) (ap (λ (run : Record). run.values) same)
    (ap (λ (run : Record). run.outputs) same) (ap (λ (run : Record). run.inputs) same)
  where
    same : on.run ≡ record { actions = task.actions; values = task.values; inputs = digests_in on.trees; outputs = records_with task.outputs (prints_observed on.observed) }
    same = on.decides.same ∙ on.has.now
