-- Tasks whose parts are borrowed from a script, as the definitions have them.
use Rattle.std.specs.Prelude.{List, ◌++◌}
use Rattle.std.specs.List.{flat_map}
use Rattle.std.specs.Option.{option_copied}
use Rattle.gb_report.specs.declared.fault.Fault.{Fault}
use Rattle.gb_registry.specs.Said.{Registered}
use Rattle.gb_registry.specs.References.{name_faults}
use Rattle.gb_declare.specs.Borrowed.{now_of, named_in, outputs_in}
use Rattle.gb_declare.specs.Joined.{Joined, depends_on_in, must_run_after_in, finalized_by_in}
use Rattle.gb_declare.specs.declared.registered.Registered as borrowed
use Rattle.gb_declare.specs.declared.registered.Joined as read

abbrev pub registered_of : borrowed.Registered → Registered
registered_of task = record {
  project = task.project.now;
  path = task.path.now;
  action = option_copied task.action;
  clauses = now_of task.clauses.items;
}

abbrev pub joined_of : read.Joined → Joined
joined_of said = record {
  enabled = option_copied said.enabled;
  only_if = now_of said.only_if.items;
  up_to_date_when = now_of said.up_to_date_when.items;
  values = named_in said.values;
  files = named_in said.files;
  outputs = outputs_in said.outputs;
  actions = now_of said.actions;
  depends_on = said.depends_on;
  must_run_after = said.must_run_after;
  finalizers = said.finalizers;
}

-- the texts of a task that are no paths
abbrev pub text_faults : Registered → List Fault
text_faults task =
    flat_map (name_faults task.project) (flat_map depends_on_in task.clauses)
    ++ flat_map (name_faults task.project) (flat_map must_run_after_in task.clauses)
    ++ flat_map (name_faults task.project) (flat_map finalized_by_in task.clauses)
