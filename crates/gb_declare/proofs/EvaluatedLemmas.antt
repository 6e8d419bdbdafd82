-- The parts of a realised task, each evaluated.
use Rattle.std.proofs.Common.{◌≡◌, List, Ok, refl, subst}
use Rattle.std.specs.List.{AllZip}
use Rattle.gb_plan.specs.declared.task.TaskDeclaration.{TaskDeclaration}
use Rattle.gb_provider.specs.declared.expression.Expression.{Expression}
use Rattle.gb_registry.specs.Said.{Registered}
use Rattle.gb_registry.specs.Source.{Source}
use Rattle.gb_registry.specs.Tables.{Tables}
use Rattle.gb_declare.specs.Joined.{Joined}
use Rattle.gb_declare.specs.Realised.{each_of, evaluated, is_enabled, passes, value_under, files_under, output_under, action_of, needs_of}
use Rattle.gb_declare.specs.Spots.{Spot}
use Rattle.gb_declare.proofs.ReadyLemmas.{both_ok, same_ok, each_ok}

module _ {M F Z S A : Type 0} (tables : Tables M F Z S A) (source : Source) (at : Registered) (all : List Spot) (table : List (Expression M F Z)) where
  pub record IsEvaluated (task : Joined) (t : TaskDeclaration) : Type 0 where
    pub values : AllZip (λ value y. value_under tables source at all table value ≡ Ok y) task.values t.values
    pub files : AllZip (λ files y. files_under tables source at all table files ≡ Ok y) task.files t.files
    pub outputs : AllZip (λ output y. output_under tables source at all table output ≡ Ok y) task.outputs t.outputs
    pub actions : AllZip (λ call y. action_of tables source at all table call ≡ Ok y) task.actions t.actions
    pub needs : needs_of tables source at all table task ≡ t.needs
    pub after : task.must_run_after ≡ t.must_run_after
    pub finalizers : task.finalizers ≡ t.finalizers

  pub is_evaluated : (task : Joined) (t : TaskDeclaration) → evaluated tables source at all table task ≡ Ok t → IsEvaluated task t
  is_evaluated task t e =
      let e1 = both_ok (is_enabled tables source at all table task.enabled) _ t e in
      let e2 = both_ok (each_of (passes tables source at all table) task.only_if) _ t e1.2 in
      let e3 = both_ok (each_of (passes tables source at all table) task.up_to_date_when) _ t e2.2 in
      let e4 = both_ok (each_of (value_under tables source at all table) task.values) _ t e3.2 in
      let e5 = both_ok (each_of (files_under tables source at all table) task.files) _ t e4.2 in
      let e6 = both_ok (each_of (output_under tables source at all table) task.outputs) _ t e5.2 in
      let e7 = both_ok (each_of (action_of tables source at all table) task.actions) _ t e6.2 in
      subst (IsEvaluated task) (same_ok _ t e7.2) (record {
        values = each_ok (value_under tables source at all table) task.values e4.0 e4.1;
        files = each_ok (files_under tables source at all table) task.files e5.0 e5.1;
        outputs = each_ok (output_under tables source at all table) task.outputs e6.0 e6.1;
        actions = each_ok (action_of tables source at all table) task.actions e7.0 e7.1;
        needs = refl;
        after = refl;
        finalizers = refl;
      })
