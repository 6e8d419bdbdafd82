-- What is compared with a record by digests is what the task has now.
use Rattle.std.specs.Prelude.{◌≡◌, Bool, true, List, [], ◌∷◌, map}
use Rattle.std.specs.List.{list_any}
use Rattle.std.proofs.Common.{refl, sym, ap, ap₂, ◌∙◌}
use Rattle.gb_core.specs.Place.{is_under}
use Rattle.gb_folder.specs.Files.{Place, Files, files_where}
use Rattle.gb_history.specs.Record.{Record}
use Rattle.gb_history.specs.declared.record.OutputRecord.{OutputRecord}
use Rattle.gb_semantics.specs.Tree.{trees_of}
use Rattle.gb_plan.specs.Task.{is_output_of}
use Rattle.gb_plan.specs.declared.task.Output.{Output}
use Rattle.gb_tree.specs.Prints.{digests_of}
use Rattle.gb_label.specs.Reading.{digests_in, recorded_of}
use Rattle.gb_task.specs.Case.{PresentIsOfContents}
use Rattle.gb_task.proofs.Part.{first_within, from_same, rest_within}

-- an output with these files, as it is recorded
abbrev pub recorded_as : Output → Files → OutputRecord
recorded_as output tree = record { form = output.form; place = output.place; prints = (output.name, digests_of tree) }

-- in a part of a folder that has all of the outputs they are recorded alike
pub part_same : (test : Place → Bool) (files : Files) (outputs : List Output) → ((q : Place) → list_any (λ (o : Output). is_under q o.place) outputs ≡ true → test q ≡ true)
    → map (recorded_of (files_where test files)) outputs ≡ map (recorded_of files) outputs
part_same test files [] within = refl
part_same test files (output ∷ outputs) within =
    ap₂ (λ (tree : Files) (l : List OutputRecord). recorded_as output tree ∷ l) (from_same test files output.place (first_within test output outputs within))
    (part_same test files outputs (rest_within test output outputs within))

pub present_is_of_contents : PresentIsOfContents
present_is_of_contents options task files present is = record {
  now =
      is.now
      ∙ ap (λ (outputs : List OutputRecord). let run : Record = record {
        actions = task.actions;
        values = task.values;
        inputs = digests_in (trees_of task files);
        outputs = outputs;
      } in run) (sym (part_same (is_output_of task) files task.outputs (λ q under. under)));
  in_order = is.in_order;
  incremental = is.incremental;
  rerun = is.rerun;
  stale = is.stale;
}
