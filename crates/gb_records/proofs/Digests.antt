-- Equal digests mean equal contents, if no two contents share one.
use Rattle.std.specs.Prelude.{◌≡◌, ◌||◌, ◌<◌, ℕ, zero, suc, Bool, true, false, cond, List, [], ◌∷◌, ◌++◌, map, length, Some, None, Contains}
use Rattle.std.specs.List.{AllByRecursion, list_any}
use Rattle.std.specs.FinMap.Entries.{find, is_sorted}
use Rattle.std.proofs.Common.{refl, sym, ap, ap₂, subst, ◌∙◌, arith}
use Rattle.std.proofs.lemmas.List.Elements.{Contains-append_left, Contains-append_right}
use mathlib.Core.Bool.{true≢false}
use Rattle.sha2.specs.Sha256.{sha256}
use Rattle.gb_core.specs.Lists.{byte_order}
use Rattle.gb_core.specs.Place.{is_under, is_place}
use Rattle.gb_folder.specs.Files.{Place, Bytes, Files, are_placed, file_at, is_empty, is_own}
use Rattle.gb_folder.proofs.Sound.{placed_where}
use Rattle.gb_action.specs.Files.{Tree, Trees}
use Rattle.gb_action.specs.Meanings.{Values}
use Rattle.gb_plan.specs.Task.{is_output_of}
use Rattle.gb_plan.specs.declared.task.Action.{Action}
use Rattle.gb_plan.specs.declared.task.Output.{Output}
use Rattle.gb_plan.specs.declared.task.TaskDeclaration.{TaskDeclaration as Task}
use Rattle.gb_tree.specs.Tree.{path_from, files_from}
use Rattle.gb_history.specs.Record.{Record, prints_in}
use Rattle.gb_semantics.specs.Kinds.{Kinds}
use Rattle.gb_semantics.specs.Memory.{Entry, entry_of, output_files}
use Rattle.gb_semantics.specs.TrueRecord.{contents_in, contents_of, output_record_of, prints_of, record_of}
use Rattle.gb_semantics.proofs.Lemmas.Files.{at-where, same_files, sorted-where}
use Rattle.gb_semantics.proofs.Lemmas.Making.{IsRight, made_of_is_right}
use Rattle.gb_records.specs.Digests.{IsClearTo, RecordsDetermineEntries, UpToDateIsCurrent}
use Rattle.gb_semantics.specs.Label.{IsCurrent}
use Rattle.gb_semantics.proofs.Common.{some_same}
use Rattle.gb_history.specs.Decision.{IsUpToDate}
use Rattle.gb_records.proofs.Separate.{found_from, output_observed, trees_back}
use Rattle.gb_records.proofs.Calls.{unplaced}
use Rattle.gb_records.proofs.Placed.{made_placed}
use Rattle.gb_records.proofs.Outputs.{output_trees, prints_reported, same_outputs}

-- ---- the files at the outputs, by their trees

at_outputs : (a b : Files) → are_placed a ≡ true → are_placed b ≡ true → (outputs : List Output) → list_any (λ (output : Output). is_own output.place) outputs ≡ false
    → output_trees a outputs ≡ output_trees b outputs → (q : Place) → is_place q ≡ true → list_any (λ (output : Output). is_under q output.place) outputs ≡ true
    → file_at a q ≡ file_at b q
at_outputs a b placed_a placed_b [] own e q good any = absurd (true≢false (sym any))
at_outputs a b placed_a placed_b (output ∷ outputs) own e q good any =
    by (λ free same there. at_outputs a b placed_a placed_b outputs free same q good there) (is_under q output.place) (is_own output.place) refl refl own any
  where
    left : List ℕ × Tree
    left = (output.name, files_from a output.place)

    right : List ℕ × Tree
    right = (output.name, files_from b output.place)

    by : (list_any (λ (out : Output). is_own out.place) outputs ≡ false → output_trees a outputs ≡ output_trees b outputs
        → list_any (λ (out : Output). is_under q out.place) outputs ≡ true → file_at a q ≡ file_at b q) → (u o : Bool) → is_under q output.place ≡ u → is_own output.place ≡ o → (o || list_any (λ (out : Output). is_own out.place) outputs) ≡ false
        → (u || list_any (λ (out : Output). is_under q out.place) outputs) ≡ true → file_at a q ≡ file_at b q
    by later u true under is free any = absurd (true≢false free)
    by later true false under is free any =
        let head : left ≡ right = cc in
        sym (found_from a output.place q is under good placed_a)
        ∙ ap (λ (tree : List ℕ × Tree). find byte_order (path_from output.place q) tree.1) head
        ∙ found_from b output.place q is under good placed_b
    by later false false under is free any =
        let rest : output_trees a outputs ≡ output_trees b outputs = cc in
        later free rest any

same_by_outputs : (outputs : List Output) (a b : Files) → IsRight outputs a → IsRight outputs b → are_placed a ≡ true → are_placed b ≡ true
    → list_any (λ (output : Output). is_own output.place) outputs ≡ false → output_trees a outputs ≡ output_trees b outputs → a ≡ b
same_by_outputs outputs a b right_a right_b placed_a placed_b own e =
    same_files a b right_a.in_order right_b.in_order (λ q. by q (is_place q) (list_any (λ (output : Output). is_under q output.place) outputs) refl refl)
  where
    by : (q : Place) (good out : Bool) → is_place q ≡ good → list_any (λ (output : Output). is_under q output.place) outputs ≡ out → file_at a q ≡ file_at b q
    by q false out good is = unplaced a q placed_a good ∙ sym (unplaced b q placed_b good)
    by q true false good is = right_a.beside q is ∙ sym (right_b.beside q is)
    by q true true good is = at_outputs a b placed_a placed_b outputs own e q good is

-- ---- all contents of an entry

abbrev pub InAll : List Bytes → Tree → Type 0
InAll all tree = AllByRecursion (λ (file : Place × Bytes). Contains all file.1) tree

pub here : (x : Bytes) (xs : List Bytes) → Contains (x ∷ xs) x
here x xs = (zero, omega arith, refl)

there : (x y : Bytes) (xs : List Bytes) → Contains xs y → Contains (x ∷ xs) y
there x y xs c = (suc c.0, (let low : c.0 < length xs = c.1 in omega arith), c.2)

pub tree_in : (all : List Bytes) (tree : Tree) → ((x : Bytes) → Contains (map (λ file. file.1) tree) x → Contains all x) → InAll all tree
tree_in all [] h = tt
tree_in all (file ∷ tree) h = (h file.1 (here file.1 (map (λ f. f.1) tree)), tree_in all tree (λ x c. h x (there file.1 x (map (λ f. f.1) tree) c)))

pub trees_in : (all : List Bytes) (trees : Trees) → ((x : Bytes) → Contains (contents_in trees) x → Contains all x)
    → AllByRecursion (λ (tree : List ℕ × Tree). InAll all tree.1) trees
trees_in all [] h = tt
trees_in all (tree ∷ trees) h = (
  tree_in all tree.1 (λ x c. h x (Contains-append_left (map (λ file. file.1) tree.1) (contents_in trees) x c)),
  trees_in all trees (λ x c. h x (Contains-append_right (map (λ file. file.1) tree.1) (contents_in trees) x c)),
)

outputs_in : (all : List Bytes) (files : Files) → InAll all files → (outputs : List Output) → AllByRecursion (λ (tree : List ℕ × Tree). InAll all tree.1) (output_trees files outputs)
outputs_in all files in_all [] = tt
outputs_in all files in_all (output ∷ outputs) = (output_observed (Contains all) files in_all output.place, outputs_in all files in_all outputs)

-- ---- entries

same_entries : (a b : Entry) → a.actions ≡ b.actions → a.values ≡ b.values → a.inputs ≡ b.inputs → a.outputs ≡ b.outputs → a.files ≡ b.files → a ≡ b
same_entries a b p q r s t =
    ap₂ (λ (x : List Action) (y : Values). let e : Entry = record { actions = x; values = y; inputs = a.inputs; outputs = a.outputs; files = a.files } in e) p q
    ∙ ap₂ (λ (x : Trees) (y : List Output). let e : Entry = record { actions = b.actions; values = b.values; inputs = x; outputs = y; files = a.files } in e) r s
    ∙ ap (λ (x : Files). let e : Entry = record { actions = b.actions; values = b.values; inputs = b.inputs; outputs = b.outputs; files = x } in e) t

now_right : (task : Task) (files : Files) → is_sorted byte_order files ≡ true → IsRight task.outputs (output_files task files)
now_right task files sorted = record {
  in_order = sorted-where (is_output_of task) files sorted;
  beside = λ q out. at-where (is_output_of task) files q ∙ ap (λ b. cond b (file_at files q) None) out;
}

-- the contents of both are among all
pub old_in : (entry now : Entry) (x : Bytes) → Contains (contents_of entry) x → Contains (contents_of entry ++ contents_of now) x
old_in entry now x c = Contains-append_left (contents_of entry) (contents_of now) x c

pub now_in : (entry now : Entry) (x : Bytes) → Contains (contents_of now) x → Contains (contents_of entry ++ contents_of now) x
now_in entry now x c = Contains-append_right (contents_of entry) (contents_of now) x c

pub inputs_in : (all : List Bytes) (entry : Entry) → ((x : Bytes) → Contains (contents_of entry) x → Contains all x) → AllByRecursion (λ (tree : List ℕ × Tree). InAll all tree.1) entry.inputs
inputs_in all entry h = trees_in all entry.inputs (λ x c. h x (Contains-append_left (contents_in entry.inputs) (map (λ file. file.1) entry.files) x c))

files_in : (all : List Bytes) (entry : Entry) → ((x : Bytes) → Contains (contents_of entry) x → Contains all x) → InAll all entry.files
files_in all entry h = tree_in all entry.files (λ x c. h x (Contains-append_right (contents_in entry.inputs) (map (λ file. file.1) entry.files) x c))

-- the files at the outputs, if their records are the same
pub files_reported : (kinds : Kinds) (task : Task) (files : Files) (entry : Entry) → IsClearTo kinds task files entry
    → (record_of sha256 entry).outputs ≡ (record_of sha256 (entry_of task files)).outputs → entry.files ≡ output_files task files
files_reported kinds task files entry clear e =
    same_by_outputs task.outputs entry.files now.files
    (subst (λ outs. IsRight outs entry.files) outputs (made_of_is_right kinds entry.outputs entry.values entry.inputs entry.actions entry.files clear.is_made))
    (now_right task files clear.is_folder.in_order)
    (made_placed kinds entry.outputs entry.values entry.inputs entry.actions entry.files clear.is_made)
    (placed_where (is_output_of task) files clear.placed)
    clear.not_own
    trees
  where
    now : Entry
    now = entry_of task files

    all : List Bytes
    all = contents_of entry ++ contents_of now

    outputs : entry.outputs ≡ task.outputs
    outputs = same_outputs entry now e

    reported : prints_of sha256 (output_trees entry.files task.outputs) ≡ prints_of sha256 (output_trees now.files task.outputs)
    reported =
        ap (λ outs. prints_of sha256 (output_trees entry.files outs)) (sym outputs) ∙ sym (prints_reported entry.files entry.outputs)
        ∙ ap prints_in e ∙ prints_reported now.files task.outputs

    trees : output_trees entry.files task.outputs ≡ output_trees now.files task.outputs
    trees = trees_back sha256 (Contains all) clear.separate _ _ (outputs_in all entry.files (files_in all entry (old_in entry now)) task.outputs)
        (outputs_in all now.files (files_in all now (now_in entry now)) task.outputs) reported

pub records_determine_entries : RecordsDetermineEntries
records_determine_entries kinds task files entry clear e =
    same_entries entry now (ap (λ (r : Record). r.actions) e) (ap (λ (r : Record). r.values) e) inputs outputs
    (files_reported kinds task files entry clear (ap (λ (r : Record). r.outputs) e))
  where
    now : Entry
    now = entry_of task files

    all : List Bytes
    all = contents_of entry ++ contents_of now

    outputs : entry.outputs ≡ task.outputs
    outputs = same_outputs entry now (ap (λ (r : Record). r.outputs) e)

    inputs : entry.inputs ≡ now.inputs
    inputs = trees_back sha256 (Contains all) clear.separate entry.inputs now.inputs (inputs_in all entry (old_in entry now)) (inputs_in all now (now_in entry now)) (ap (λ (r : Record). r.inputs) e)

-- ---- up to date

pub empty_map : {X Y : Type 0} (f : X → Y) (xs : List X) → is_empty (map f xs) ≡ is_empty xs
empty_map f [] = refl
empty_map f (x ∷ xs) = refl

pub up_to_date_is_current : UpToDateIsCurrent
up_to_date_is_current kinds options task world entry run present remembered of is clear = (forward, backward)
  where
    outputs : is_empty present.now.outputs ≡ is_empty task.outputs
    outputs = ap (λ (r : Record). is_empty r.outputs) is.now ∙ empty_map (output_record_of sha256 (output_files task world.folder.files)) task.outputs

    forward : IsUpToDate run present → IsCurrent options task world
    forward u = record {
      has_outputs = sym outputs ∙ u.has_outputs;
      not_stale = sym is.stale ∙ u.not_stale;
      no_rerun = sym is.rerun ∙ u.no_rerun;
      same = remembered ∙ ap Some (records_determine_entries kinds task world.folder.files entry clear (sym of ∙ u.same ∙ is.now));
    }

    backward : IsCurrent options task world → IsUpToDate run present
    backward c = record {
      no_rerun = is.rerun ∙ c.no_rerun;
      not_stale = is.stale ∙ c.not_stale;
      has_outputs = outputs ∙ c.has_outputs;
      same =
          let same : entry ≡ entry_of task world.folder.files = some_same (sym remembered ∙ c.same) in
          of ∙ ap (record_of sha256) same ∙ sym is.now;
    }
