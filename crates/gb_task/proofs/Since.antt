-- What an incremental run is based on, by what is remembered.
use Rattle.std.specs.Prelude.{ℕ, ◌≡◌, ◌&&◌, ◌||◌, Bool, true, false, not, cond, List, [], ◌∷◌, map, option_map, option_and_then, unwrap_or, is_some, Option, None, Some, Ok}
use Rattle.std.specs.FinMap.Entries.{find, is_sorted}
use Rattle.std.specs.List.{AllByRecursion, filter, list_all, list_any}
use Rattle.std.specs.Ordering.{eq_by_cmp}
use Rattle.std.proofs.Common.{refl, sym, ap, ap₂, subst, ◌∙◌}
use Rattle.sha2.specs.Sha256.{sha256}
use Rattle.gb_action.specs.Changes.{Changes, changes_between}
use Rattle.gb_action.specs.Files.{Tree, Trees, tree_at}
use Rattle.gb_action.specs.Replies.{DescribesChangesFrom}
use Rattle.gb_action.specs.declared.change.Change.{Change}
use Rattle.gb_action.specs.declared.output_files.OutputFiles.{OutputFiles}
use Rattle.gb_core.specs.Lists.{byte_order}
use Rattle.gb_core.specs.Path.{is_task_path}
use Rattle.gb_core.specs.Place.{is_under}
use Rattle.gb_folder.specs.Files.{Place, Bytes, Contents, Files, file_at, is_own}
use Rattle.gb_history.specs.Ascending.{ascends}
use Rattle.gb_history.specs.Places.{record_place}
use Rattle.gb_history.specs.Record.{ArePrints}
use Rattle.gb_history.proofs.Rising.{ascends-is_sorted}
use Rattle.gb_label.specs.Deciding.{HasNamesInOrder}
use Rattle.gb_semantics.specs.Kinds.{Kinds}
use Rattle.gb_semantics.specs.Label.{IsIncremental, changes_from}
use Rattle.gb_semantics.specs.Made.{made_of}
use Rattle.gb_semantics.specs.Memory.{Entry, Memory, output_files, recalled}
use Rattle.gb_semantics.specs.Tree.{tree_of, trees_of}
use Rattle.gb_semantics.specs.TrueRecord.{IsMade, Stores, outside, prints_of, record_of}
use Rattle.gb_semantics.proofs.Common.{none_some}
use Rattle.gb_semantics.proofs.Lemmas.Files.{same_place}
use Rattle.gb_plan.specs.Graph.{some_overlap}
use Rattle.gb_plan.specs.Task.{is_output_of, output_places}
use Rattle.gb_plan.specs.declared.task.FileProperty.{FileProperty}
use Rattle.gb_plan.specs.declared.task.Output.{Output}
use Rattle.gb_plan.specs.declared.task.TaskDeclaration.{TaskDeclaration as Task}
use Rattle.gb_plan.proofs.Tests.{not_false, or_right}
use Rattle.gb_records.specs.Said.{IsText}
use Rattle.gb_records.specs.Holding.{HoldsRecords}
use Rattle.gb_report.specs.declared.report.Options.{Options}
use Rattle.gb_run.specs.AskingChanges.{GoesOn, request_of, observed_of}
use Rattle.gb_run.proofs.Looks.{find_kept}
use Rattle.gb_run.proofs.Owned.{narrowed}
use Rattle.gb_folder.specs.Changes.{ChangesOnly, is_at}
use Rattle.gb_task.proofs.Outside.{kept}
use Rattle.gb_task.proofs.Own.{is_kept, kept_at}
use Rattle.gb_task.proofs.Part.{from_same}
use Rattle.gb_task.proofs.Taken.{taken_kept}

-- ---- properties by name

abbrev Row : Type 0
Row = List ℕ × FileProperty

abbrev rows : List FileProperty → List Row
rows properties = map (λ (property : FileProperty). let row : Row = (property.name, property) in row) properties

names_of_rows : (properties : List FileProperty) → map (λ (row : Row). row.0) (rows properties) ≡ map (λ (property : FileProperty). property.name) properties
names_of_rows [] = refl
names_of_rows (p ∷ ps) = ap (λ (names : List (List ℕ)). p.name ∷ names) (names_of_rows ps)

sorted_rows : (properties : List FileProperty) → ascends (map (λ (property : FileProperty). property.name) properties) ≡ true → is_sorted byte_order (rows properties) ≡ true
sorted_rows properties rise = sym (ascends-is_sorted (rows properties)) ∙ ap ascends (names_of_rows properties) ∙ rise

-- what is named after the properties is found by their names
module _ {X : Type 0} (f : FileProperty → X) where
  abbrev named : List FileProperty → List (List ℕ × X)
  named properties = map (λ (property : FileProperty). let pair : List ℕ × X = (property.name, f property) in pair) properties

  find_named : (name : List ℕ) (properties : List FileProperty) → find byte_order name (named properties) ≡ option_map f (find byte_order name (rows properties))
  find_named name [] = refl
  find_named name (p ∷ ps) = by (eq_by_cmp byte_order name p.name) (find_named name ps)
    where
      by : (b : Bool) → find byte_order name (named ps) ≡ option_map f (find byte_order name (rows ps))
          → cond b (Some (f p)) (find byte_order name (named ps)) ≡ option_map f (cond b (Some p) (find byte_order name (rows ps)))
      by true later = refl
      by false later = later

rows_filter : (t : FileProperty → Bool) (properties : List FileProperty) → rows (filter t properties) ≡ filter (λ (row : Row). t row.1) (rows properties)
rows_filter t [] = refl
rows_filter t (p ∷ ps) = by (rows_filter t ps) (t p)
  where
    by : rows (filter t ps) ≡ filter (λ (row : Row). t row.1) (rows ps) → (b : Bool) → rows (cond b (p ∷ filter t ps) (filter t ps)) ≡ cond b ((p.name, p) ∷ filter (λ (row : Row). t row.1) (rows ps)) (filter (λ (row : Row). t row.1) (rows ps))
    by later true = ap (λ (l : List Row). (p.name, p) ∷ l) later
    by later false = later

-- a property that is found has the name
named_so : (name : List ℕ) (properties : List FileProperty) (p : FileProperty) → find byte_order name (rows properties) ≡ Some p → p.name ≡ name
named_so name [] p e = none_some e
named_so name (q ∷ qs) p e = by (λ there. named_so name qs p there) (eq_by_cmp byte_order name q.name) refl e
  where
    same : (a b : FileProperty) → Some a ≡ Some b → a ≡ b
    same a b is = cc

    by : (find byte_order name (rows qs) ≡ Some p → p.name ≡ name) → (b : Bool) → eq_by_cmp byte_order name q.name ≡ b → cond b (Some q) (find byte_order name (rows qs)) ≡ Some p → p.name ≡ name
    by again true is here = ap (λ (x : FileProperty). x.name) (sym (same q p here)) ∙ sym (same_place name q.name is)
    by again false is later = again later

-- what two lists of names have in common is found in both or in neither
same_found : {X Y : Type 0} (name : List ℕ) (xs : List (List ℕ × X)) (ys : List (List ℕ × Y)) → map (λ (x : List ℕ × X). x.0) xs ≡ map (λ (y : List ℕ × Y). y.0) ys
    → is_some (find byte_order name xs) ≡ is_some (find byte_order name ys)
same_found name [] [] e = refl
same_found name [] (y ∷ ys) e = absurd (let q = e in (cc))
same_found name (x ∷ xs) [] e = absurd (let q = e in (cc))
same_found name (x ∷ xs) (y ∷ ys) e =
    ap (λ (n : List ℕ). is_some (cond (eq_by_cmp byte_order name n) (Some x.1) (find byte_order name xs))) (same_head _ _ _ _ e)
    ∙ by (eq_by_cmp byte_order name y.0) (same_found name xs ys (same_tail _ _ _ _ e))
  where
    same_head : (a b : List ℕ) (l m : List (List ℕ)) → a ∷ l ≡ b ∷ m → a ≡ b
    same_head a b l m q = cc

    same_tail : (a b : List ℕ) (l m : List (List ℕ)) → a ∷ l ≡ b ∷ m → l ≡ m
    same_tail a b l m q = cc

    by : (b : Bool) → is_some (find byte_order name xs) ≡ is_some (find byte_order name ys)
        → is_some (cond b (Some x.1) (find byte_order name xs)) ≡ is_some (cond b (Some y.1) (find byte_order name ys))
    by true later = refl
    by false later = later

-- ---- what the lists contain

module _ (old : Trees) (g : FileProperty → Tree) (properties : List FileProperty)
    (rise : ascends (map (λ (property : FileProperty). property.name) properties) ≡ true)
    (same_names : map (λ (tree : List ℕ × Tree). tree.0) old ≡ map (λ (property : FileProperty). property.name) properties)
    (same_others : map (λ (property : FileProperty). tree_at old property.name) (filter (λ (property : FileProperty). not property.incremental) properties)
    ≡ map g (filter (λ (property : FileProperty). not property.incremental) properties)) where
  abbrev between : FileProperty → List Change
  between property = changes_between (tree_at old property.name) (g property)

  abbrev lists : List Changes
  lists = named between (filter (λ (property : FileProperty). property.incremental) properties)

  abbrev passes : Option FileProperty → Option FileProperty
  passes o = option_and_then (λ (p : FileProperty). cond p.incremental (Some p) None) o

  find_list : (name : List ℕ) → find byte_order name (named between (filter (λ (property : FileProperty). property.incremental) properties))
      ≡ option_map between (passes (find byte_order name (rows properties)))
  find_list name =
      find_named between name (filter (λ (property : FileProperty). property.incremental) properties)
      ∙ ap (option_map between)
      (ap (find byte_order name) (rows_filter (λ (property : FileProperty). property.incremental) properties)
      ∙ find_kept (λ (q : List ℕ) (p : FileProperty). p.incremental) name (rows properties) (sorted_rows properties rise))

  -- a property that is not incremental is as it was
  same_other : (ps : List FileProperty) (name : List ℕ) (p : FileProperty)
      → map (λ (property : FileProperty). tree_at old property.name) (filter (λ (property : FileProperty). not property.incremental) ps) ≡ map g (filter (λ (property : FileProperty). not property.incremental) ps)
      → find byte_order name (rows ps) ≡ Some p → p.incremental ≡ false → tree_at old p.name ≡ g p
  same_other [] name p same e other = none_some e
  same_other (q ∷ qs) name p same e other = by (λ so there. same_other qs name p so there other) (eq_by_cmp byte_order name q.name) e
    where
      head_same : (a b : Tree) (l m : List Tree) → a ∷ l ≡ b ∷ m → a ≡ b
      head_same a b l m q = cc

      tail_same : (a b : Tree) (l m : List Tree) → a ∷ l ≡ b ∷ m → l ≡ m
      tail_same a b l m q = cc

      same_some : (a b : FileProperty) → Some a ≡ Some b → a ≡ b
      same_some a b is = cc

      first : (b : Bool) → q.incremental ≡ b → b ≡ false
          → map (λ (property : FileProperty). tree_at old property.name) (cond (not b) (q ∷ filter (λ (property : FileProperty). not property.incremental) qs) (filter (λ (property : FileProperty). not property.incremental) qs))
          ≡ map g (cond (not b) (q ∷ filter (λ (property : FileProperty). not property.incremental) qs) (filter (λ (property : FileProperty). not property.incremental) qs))
          → tree_at old q.name ≡ g q
      first true is none so = not_false none
      first false is none so = head_same _ _ _ _ so

      later : (b : Bool)
          → map (λ (property : FileProperty). tree_at old property.name) (cond (not b) (q ∷ filter (λ (property : FileProperty). not property.incremental) qs) (filter (λ (property : FileProperty). not property.incremental) qs))
          ≡ map g (cond (not b) (q ∷ filter (λ (property : FileProperty). not property.incremental) qs) (filter (λ (property : FileProperty). not property.incremental) qs))
          → map (λ (property : FileProperty). tree_at old property.name) (filter (λ (property : FileProperty). not property.incremental) qs) ≡ map g (filter (λ (property : FileProperty). not property.incremental) qs)
      later true so = so
      later false so = tail_same _ _ _ _ so

      by : (map (λ (property : FileProperty). tree_at old property.name) (filter (λ (property : FileProperty). not property.incremental) qs) ≡ map g (filter (λ (property : FileProperty). not property.incremental) qs)
          → find byte_order name (rows qs) ≡ Some p → tree_at old p.name ≡ g p) → (b : Bool) → cond b (Some q) (find byte_order name (rows qs)) ≡ Some p → tree_at old p.name ≡ g p
      by again true here =
          let is : q ≡ p = same_some q p here in
          subst (λ (x : FileProperty). tree_at old x.name ≡ g x) is
          (first q.incremental refl (ap (λ (x : FileProperty). x.incremental) is ∙ other) same)
      by again false there = again (later q.incremental same) there

  names_rows : map (λ (tree : List ℕ × Tree). tree.0) old ≡ map (λ (row : Row). row.0) (rows properties)
  names_rows = same_names ∙ sym (names_of_rows properties)

  others_so : (name : List ℕ) → find byte_order name (named between (filter (λ (property : FileProperty). property.incremental) properties)) ≡ None
      → find byte_order name old ≡ find byte_order name (named g properties)
  others_so name none = by (find byte_order name (rows properties)) refl
    where
      whole : (o : Option Tree) → is_some o ≡ true → o ≡ Some (unwrap_or o [])
      whole None e = not_false (sym e)
      whole (Some x) e = refl

      nothing : (o : Option Tree) → is_some o ≡ false → o ≡ None
      nothing None e = refl
      nothing (Some x) e = not_false e

      at : (p : FileProperty) → find byte_order name (rows properties) ≡ Some p → (b : Bool) → p.incremental ≡ b → find byte_order name old ≡ find byte_order name (named g properties)
      at p e true t = none_some (sym none ∙ find_list name ∙ ap (λ o. option_map between (passes o)) e ∙ ap (λ b. option_map between (cond b (Some p) None)) t)
      at p e false t =
          whole (find byte_order name old) (same_found name old (rows properties) names_rows ∙ ap is_some e)
          ∙ ap Some (ap (tree_at old) (sym (named_so name properties p e)) ∙ same_other properties name p same_others e t)
          ∙ sym (find_named g name properties ∙ ap (option_map g) e)

      by : (o : Option FileProperty) → find byte_order name (rows properties) ≡ o → find byte_order name old ≡ find byte_order name (named g properties)
      by None e =
          nothing (find byte_order name old) (same_found name old (rows properties) names_rows ∙ ap is_some e)
          ∙ sym (find_named g name properties ∙ ap (option_map g) e)
      by (Some p) e = at p e p.incremental refl

  reported_so : (name : List ℕ) (list : List Change) → find byte_order name (named between (filter (λ (property : FileProperty). property.incremental) properties)) ≡ Some list
      → list ≡ changes_between (tree_at old name) (tree_at (named g properties) name)
  reported_so name list e = by (find byte_order name (rows properties)) refl
    where
      same_some : (a b : List Change) → Some a ≡ Some b → a ≡ b
      same_some a b is = cc

      at : (p : FileProperty) → find byte_order name (rows properties) ≡ Some p → (b : Bool) → p.incremental ≡ b → list ≡ changes_between (tree_at old name) (tree_at (named g properties) name)
      at p is true t =
          sym (same_some (between p) list (sym (find_list name ∙ ap (λ o. option_map between (passes o)) is ∙ ap (λ b. option_map between (cond b (Some p) None)) t) ∙ e))
          ∙ ap₂ (λ (n : List ℕ) (tree : Tree). changes_between (tree_at old n) tree) (named_so name properties p is)
          (sym (ap (λ (o : Option Tree). unwrap_or o []) (find_named g name properties ∙ ap (option_map g) is)))
      at p is false t = none_some (sym (find_list name ∙ ap (λ o. option_map between (passes o)) is ∙ ap (λ b. option_map between (cond b (Some p) None)) t) ∙ e)

      by : (o : Option FileProperty) → find byte_order name (rows properties) ≡ o → list ≡ changes_between (tree_at old name) (tree_at (named g properties) name)
      by None is = none_some (sym (find_list name ∙ ap (λ o. option_map between (passes o)) is) ∙ e)
      by (Some p) is = at p is p.incremental refl

-- ---- what is remembered is in order

names_kept : (digest : Bytes → List ℕ) (tree : Tree) → map (λ (file : Place × List ℕ). file.0) (map (λ (file : Place × Bytes). let print : Place × List ℕ = (file.0, digest file.1) in print) tree) ≡ map (λ (file : Place × Bytes). file.0) tree
names_kept digest [] = refl
names_kept digest (file ∷ tree) = ap (λ (names : List (List ℕ)). file.0 ∷ names) (names_kept digest tree)

pub all_sorted : (digest : Bytes → List ℕ) (trees : Trees) → AllByRecursion ArePrints (prints_of digest trees) → list_all (λ (tree : List ℕ × Tree). is_sorted byte_order tree.1) trees ≡ true
all_sorted digest [] all = refl
all_sorted digest (tree ∷ trees) all =
    ap₂ (λ (a b : Bool). a && b)
    (sym (ascends-is_sorted tree.1) ∙ ap ascends (sym (names_kept digest tree.1))
    ∙ ascends-is_sorted (map (λ (file : Place × Bytes). let print : Place × List ℕ = (file.0, digest file.1) in print) tree.1) ∙ all.0.2)
    (all_sorted digest trees all.1)

pub ordered_inputs : (files : Files) (memory : Memory) (path : List ℕ) (entry : Entry) → HoldsRecords files memory → is_task_path path ≡ true → recalled memory path ≡ Some entry
    → list_all (λ (tree : List ℕ × Tree). is_sorted byte_order tree.1) entry.inputs ≡ true
ordered_inputs files memory path entry existing is_path known =
    by (subst (λ (o : Option Entry). Stores sha256 IsText path (file_at files (record_place path)) o) known (existing.records path is_path))
  where
    by : Stores sha256 IsText path (file_at files (record_place path)) (Some entry) → list_all (λ (tree : List ℕ × Tree). is_sorted byte_order tree.1) entry.inputs ≡ true
    by stored =
        let text : IsText path (record_of sha256 entry) stored.0 = stored.2 in
        all_sorted sha256 entry.inputs text.held.inputs

-- ---- what an incremental run is based on

names_of_trees : (files : Files) (properties : List FileProperty)
    → map (λ (tree : List ℕ × Tree). tree.0) (map (λ (property : FileProperty). let tree : List ℕ × Tree = (property.name, tree_of property files) in tree) properties)
    ≡ map (λ (property : FileProperty). property.name) properties
names_of_trees files [] = refl
names_of_trees files (property ∷ properties) = ap (λ (names : List (List ℕ)). property.name ∷ names) (names_of_trees files properties)

observed_kept : (files : Files) (outputs : List Output) → ((q : Place) → list_any (λ (o : Output). is_under q o.place) outputs ≡ true → is_kept q ≡ true)
    → map (observed_of (kept files)) outputs ≡ map (observed_of files) outputs
observed_kept files [] within = refl
observed_kept files (output ∷ outputs) within =
    ap₂ (λ (tree : Tree) (l : List OutputFiles). let observed : OutputFiles = record { name = output.name; form = output.form; files = tree } in observed ∷ l)
    (from_same is_kept files output.place (λ q under. within q (ap (λ b. b || list_any (λ (o : Output). is_under q o.place) outputs) under)))
    (observed_kept files outputs (λ q any. within q (or_right (is_under q output.place) (list_any (λ (o : Output). is_under q o.place) outputs) any)))

module _ (kinds : Kinds) (options : Options) (task : Task) (memory : Memory) (old taken : Contents)
    (out : list_any (λ (o : Output). is_own o.place) task.outputs ≡ false) (separate : some_overlap (output_places task) ≡ false) (names : HasNamesInOrder task)
    (is_path : is_task_path task.path ≡ true) (existing : HoldsRecords old.files memory) (changed : ChangesOnly (is_at (record_place task.path)) old taken)
    (since : IsIncremental kinds options task (record { folder = outside old; memory = memory })) (is_made : IsMade kinds since.entry) where
  abbrev entry : Entry
  entry = since.entry

  abbrev trees : Trees
  trees = trees_of task (kept old.files)

  abbrev reported : List Changes
  reported = changes_from task since.entry.inputs (kept old.files)

  files_kept : kept taken.files ≡ kept old.files
  files_kept = taken_kept task old taken changed

  same_names : map (λ (tree : List ℕ × Tree). tree.0) since.entry.inputs ≡ map (λ (property : FileProperty). property.name) task.files
  same_names = since.same_properties

  shows : DescribesChangesFrom since.entry.inputs (request_of task (trees_of task (kept old.files)) (changes_from task since.entry.inputs (kept old.files)) (map (observed_of taken.files) task.outputs) [])
  shows = record {
    ordered = ordered_inputs old.files memory task.path since.entry existing is_path since.remembered;
    same_names = since.same_properties ∙ sym (names_of_trees (kept old.files) task.files);
    same_others = λ name none. others_so since.entry.inputs (λ (property : FileProperty). tree_of property (kept old.files)) task.files names.files since.same_properties since.same_others name none;
    reported = λ name list is. reported_so since.entry.inputs (λ (property : FileProperty). tree_of property (kept old.files)) task.files names.files since.same_properties since.same_others name list is;
  }

  was_made : made_of kinds task.actions task.values since.entry.inputs task.outputs ≡ Ok (output_files task taken.files)
  was_made =
      (λ i. made_of kinds (sym since.same_actions i) (sym since.same_values i) since.entry.inputs (sym since.same_outputs i))
      ∙ is_made
      ∙ ap Ok (since.same_files ∙ ap (output_files task) (sym files_kept) ∙ narrowed (is_output_of task) is_kept (λ q at. kept_at task.outputs out q at) taken.files)

  pub goes_on_since : (read : Trees) (changes : List Changes) (outputs : List OutputFiles) → read ≡ trees_of task (kept old.files) → changes ≡ changes_from task since.entry.inputs (kept old.files)
      → outputs ≡ map (observed_of old.files) task.outputs → GoesOn kinds task since.entry.inputs read changes outputs taken.files
  goes_on_since read changes outputs are_read are_changes are_outputs =
      subst (λ (ts : Trees). GoesOn kinds task since.entry.inputs ts changes outputs taken.files) (sym are_read)
      (subst (λ (cs : List Changes). GoesOn kinds task since.entry.inputs (trees_of task (kept old.files)) cs outputs taken.files) (sym are_changes)
      (subst (λ (os : List OutputFiles). GoesOn kinds task since.entry.inputs (trees_of task (kept old.files)) (changes_from task since.entry.inputs (kept old.files)) os taken.files) (sym outputs_then)
      (record {
        one_writer = since.one_writer;
        was_made = was_made;
        shows = shows;
        exists = refl;
        separate = separate;
        not_own = out;
      })))
    where
      within : (q : Place) → list_any (λ (o : Output). is_under q o.place) task.outputs ≡ true → is_kept q ≡ true
      within q at = kept_at task.outputs out q at

      outputs_then : outputs ≡ map (observed_of taken.files) task.outputs
      outputs_then =
          are_outputs ∙ sym (observed_kept old.files task.outputs within)
          ∙ ap (λ (fs : Files). map (observed_of fs) task.outputs) (sym files_kept)
          ∙ observed_kept taken.files task.outputs within
