-- Incremental execution, by digests and by whole contents.
use Rattle.std.specs.Prelude.{◌≡◌, ◌++◌, ℕ, true, not, List, map, IsTrue}
use Rattle.std.specs.List.{AllByRecursion, AllZip, filter, flat_map, zip}
use Rattle.std.specs.FinMap.Entries.{is_sorted}
use Rattle.std.proofs.Common.{sym, ap, ap₂, subst, ◌∙◌}
use Rattle.sha2.specs.Sha256.{sha256}
use Rattle.gb_core.specs.Lists.{byte_order}
use Rattle.gb_folder.specs.Files.{Bytes, Files}
use Rattle.gb_action.specs.Files.{Tree, tree_at}
use Rattle.gb_report.specs.declared.report.Options.{Options}
use Rattle.gb_plan.specs.declared.task.FileProperty.{FileProperty}
use Rattle.gb_plan.specs.declared.task.Output.{Output}
use Rattle.gb_plan.specs.declared.task.TaskDeclaration.{TaskDeclaration as Task}
use Rattle.gb_history.specs.declared.decide.Present.{Present}
use Rattle.gb_history.specs.Decision.{IsAlike, IsSince, changes_of, changes_since, is_incremental}
use Rattle.gb_history.specs.Record.{Record, Prints}
use Rattle.gb_semantics.specs.Kinds.{Kinds}
use Rattle.gb_semantics.specs.Label.{IsIncremental, changes_from, has_one_writer}
use Rattle.gb_semantics.specs.Memory.{Entry, entry_of, output_files}
use Rattle.gb_semantics.specs.Tree.{tree_of}
use Rattle.gb_semantics.specs.TrueRecord.{contents_of, output_record_of, prints_of, record_of}
use Rattle.gb_semantics.proofs.Common.{some_same}
use Rattle.gb_records.specs.Digests.{ChangesAreOfContents, IsClearTo, IsPresent, SinceIsIncremental}
use Rattle.gb_records.specs.Said.{IsSaidOf}
use Rattle.gb_records.proofs.Digests.{InAll, files_reported, inputs_in, now_in, old_in}
use Rattle.gb_records.proofs.Outputs.{same_outputs}
use Rattle.gb_records.proofs.Since.{IsRight, SameUnless, alike_trees, alike_prints, changes_reported, found_of, map_where, map_where_back, named_trees, names_right, same_of, sorted_prints}

module _ (kinds : Kinds) (options : Options) (task : Task) (files : Files) (entry : Entry) (run : Record) (present : Present)
    (of : IsSaidOf run entry) (is : IsPresent options task files present) (clear : IsClearTo kinds task files entry) where
  now : Entry
  now = entry_of task files

  abbrev all : List Bytes
  all = contents_of entry ++ contents_of (entry_of task files)

  sorted : is_sorted byte_order (named_trees files task.files) ≡ true
  sorted = sym (sorted_prints (named_trees files task.files)) ∙ ap (λ (r : Record). is_sorted byte_order r.inputs) (sym is.now) ∙ is.in_order.inputs

  right : IsRight (is_incremental present.incremental.items) task.files
  right = subst (λ names. IsRight (is_incremental names) task.files) (sym is.incremental) (names_right files task.files sorted)

  old_observed : AllByRecursion (λ (tree : List ℕ × Tree). InAll all tree.1) entry.inputs
  old_observed = inputs_in all entry (old_in entry (entry_of task files))

  now_observed : AllByRecursion (λ (tree : List ℕ × Tree). InAll all tree.1) (named_trees files task.files)
  now_observed = inputs_in all (entry_of task files) (now_in entry (entry_of task files))

  run_inputs : run.inputs ≡ prints_of sha256 entry.inputs
  run_inputs = ap (λ (r : Record). r.inputs) of

  now_inputs : present.now.inputs ≡ prints_of sha256 (named_trees files task.files)
  now_inputs = ap (λ (r : Record). r.inputs) is.now

  pub same_trees : AllZip (IsAlike present.incremental.items) run.inputs present.now.inputs → AllZip (SameUnless (is_incremental present.incremental.items)) entry.inputs (named_trees files task.files)
  same_trees alike = alike_trees all clear.separate present.incremental.items entry.inputs (named_trees files task.files) old_observed now_observed
      (subst (λ (inputs : List Prints). AllZip (IsAlike present.incremental.items) (prints_of sha256 entry.inputs) inputs) now_inputs
      (subst (λ (inputs : List Prints). AllZip (IsAlike present.incremental.items) inputs present.now.inputs) run_inputs alike))

  pub same_prints : AllZip (SameUnless (is_incremental present.incremental.items)) entry.inputs (named_trees files task.files) → AllZip (IsAlike present.incremental.items) run.inputs present.now.inputs
  same_prints same =
      subst (λ (inputs : List Prints). AllZip (IsAlike present.incremental.items) inputs present.now.inputs) (sym run_inputs)
      (subst (λ (inputs : List Prints). AllZip (IsAlike present.incremental.items) (prints_of sha256 entry.inputs) inputs) (sym now_inputs)
      (alike_prints all clear.separate present.incremental.items entry.inputs (named_trees files task.files) same))

  pub reported : IsSince run present → changes_since run present ≡ changes_from task entry.inputs files
  reported since =
      ap₂ (λ (x y : List Prints). flat_map (changes_of present.incremental.items) (zip x y)) run_inputs now_inputs
      ∙ changes_reported all clear.separate files present.incremental.items entry.inputs task.files old_observed now_observed (same_trees since.alike) right sorted

pub changes_are_of_contents : ChangesAreOfContents
changes_are_of_contents kinds options task files entry run present of is clear since = reported kinds options task files entry run present of is clear since

pub since_is_incremental : SinceIsIncremental
since_is_incremental kinds options task world entry run present remembered of is clear = (forward, backward)
  where
    files : Files
    files = world.folder.files

    actions : run.actions ≡ entry.actions
    actions = ap (λ (r : Record). r.actions) of

    forward : IsSince run present × IsTrue (has_one_writer kinds task.actions) → IsIncremental kinds options task world
    forward h =
        let since = h.0 in
        let found = found_of world.folder.files (is_incremental present.incremental.items) entry.inputs task.files
        (right kinds options task world.folder.files entry run present of is clear) (sorted kinds options task world.folder.files entry run present of is clear)
        (same_trees kinds options task world.folder.files entry run present of is clear since.alike) in
        let outputs : (record_of sha256 entry).outputs ≡ (record_of sha256 (entry_of task world.folder.files)).outputs =
        sym (ap (λ (r : Record). r.outputs) of) ∙ since.same_outputs ∙ ap (λ (r : Record). r.outputs) is.now in
        record {
          entry = entry;
          remembered = remembered;
          same_actions = sym actions ∙ since.same_actions ∙ ap (λ (r : Record). r.actions) is.now;
          same_values = sym (ap (λ (r : Record). r.values) of) ∙ since.same_values ∙ ap (λ (r : Record). r.values) is.now;
          same_outputs = same_outputs entry (entry_of task world.folder.files) outputs;
          same_files = files_reported kinds task world.folder.files entry clear outputs;
          same_properties = found.0;
          same_others = map_where (λ property. tree_at entry.inputs property.name) (λ property. tree_of property world.folder.files) task.files found.1;
          not_stale = sym is.stale ∙ since.not_stale;
          no_rerun = sym is.rerun ∙ since.no_rerun;
          one_writer = h.1;
        }

    backward : IsIncremental kinds options task world → IsSince run present × IsTrue (has_one_writer kinds task.actions)
    backward since =
        let same : since.entry ≡ entry = some_same (sym since.remembered ∙ remembered) in
        let outputs : entry.outputs ≡ task.outputs = ap (λ (e : Entry). e.outputs) (sym same) ∙ since.same_outputs in
        let held : entry.files ≡ output_files task world.folder.files = ap (λ (e : Entry). e.files) (sym same) ∙ since.same_files in
        let names = ap (λ (e : Entry). map (λ (tree : List ℕ × Tree). tree.0) e.inputs) (sym same) ∙ since.same_properties in
        let others = ap (λ (e : Entry). map (λ (property : FileProperty). tree_at e.inputs property.name) (filter (λ (property : FileProperty). not property.incremental) task.files)) (sym same) ∙ since.same_others in
        let found = map_where_back (λ property. tree_at entry.inputs property.name) (λ property. tree_of property world.folder.files) task.files others in
        let trees = same_of world.folder.files (is_incremental present.incremental.items) entry.inputs task.files
        (right kinds options task world.folder.files entry run present of is clear) (sorted kinds options task world.folder.files entry run present of is clear) names found in (
          record {
            no_rerun = is.rerun ∙ since.no_rerun;
            not_stale = is.stale ∙ since.not_stale;
            same_actions = actions ∙ ap (λ (e : Entry). e.actions) (sym same) ∙ since.same_actions ∙ sym (ap (λ (r : Record). r.actions) is.now);
            same_values = ap (λ (r : Record). r.values) of ∙ ap (λ (e : Entry). e.values) (sym same) ∙ since.same_values ∙ sym (ap (λ (r : Record). r.values) is.now);
            same_outputs = run_outputs outputs held;
            alike = same_prints kinds options task world.folder.files entry run present of is clear trees;
          },
          since.one_writer,
        )
      where
        run_outputs : entry.outputs ≡ task.outputs → entry.files ≡ output_files task world.folder.files → run.outputs ≡ present.now.outputs
        run_outputs outputs held =
            ap (λ (r : Record). r.outputs) of
            ∙ ap₂ (λ (outs : List Output) (fs : Files). map (output_record_of sha256 fs) outs) outputs held
            ∙ ap (λ (r : Record). r.outputs) (sym is.now)
