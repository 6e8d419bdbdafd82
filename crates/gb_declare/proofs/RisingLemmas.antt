-- The names of what a realised task declares are sorted, each once.
use Rattle.std.proofs.Common.{◌≡◌, ℕ, Bool, List, [], ◌∷◌, map, Option, None, Some, Result, Ok, Err, T, ◌&&◌, true, false, refl, sym, ap, subst}
use Rattle.std.specs.Cmp.Lexicographic.{nat_list_cmp_total}
use Rattle.std.specs.FinMap.Entries.{below_all, is_sorted, is_sorted-put, put}
use Rattle.std.specs.List.{AllByRecursion}
use Rattle.std.specs.List.Sorted.{IsStrictlySortedBy}
use Rattle.std.specs.Ordering.{is_lt}
use Rattle.std.specs.Prelude.{filter_map}
use Rattle.std.specs.declared.cmp.Ordering.{Ordering}
use Rattle.std.specs.declared.cmp.Ordering.TheVariants.{Less, Equal, Greater}
use Rattle.gb_core.specs.Lists.{byte_order}
use Rattle.gb_core.specs.declared.value.Value.{Value}
use Rattle.gb_action.specs.declared.output_files.Form.{Form}
use Rattle.gb_plan.specs.declared.task.Output.{Output}
use Rattle.gb_plan.specs.declared.task.TaskDeclaration.{TaskDeclaration}
use Rattle.gb_provider.specs.declared.expression.Expression.{Expression}
use Rattle.gb_report.specs.declared.fault.Fault.{Fault}
use Rattle.gb_script.specs.Tree.{Tree}
use Rattle.gb_registry.specs.Said.{Registered, task_at}
use Rattle.gb_registry.specs.Projects.{Path}
use Rattle.gb_registry.specs.Source.{Source}
use Rattle.gb_registry.specs.Tables.{Tables}
use Rattle.gb_declare.specs.Declaring.{declared, declaring_faults}
use Rattle.gb_declare.specs.Joined.{Joined, Named, Made, by_name, joined, value_in, files_in, output_in}
use Rattle.gb_declare.specs.Known.{HasRisingNames, RealisedNamesRise}
use Rattle.gb_declare.specs.Realised.{realised_at, realised_if, required, value_under, files_under, output_under}
use Rattle.gb_declare.specs.Spots.{Spot}
use Rattle.gb_declare.specs.Whole.{spots, table_of}
use Rattle.gb_declare.proofs.EvaluatedLemmas.{IsEvaluated, is_evaluated}
use Rattle.gb_declare.proofs.JoinLemmas.{put_all}
use Rattle.gb_declare.proofs.ReadyLemmas.{both_ok, same_ok, no_faults, observed_same, file_ok, output_ok}

-- ---- Entries by name

first : (a b : Bool) → T (a && b) → T a
first true b h = tt
first false b h = absurd h

second : (a b : Bool) → T (a && b) → T b
second true b h = h
second false b h = absurd h

less : (o : Ordering) → T (is_lt o) → o ≡ Less
less Less h = refl
less Equal h = absurd h
less Greater h = absurd h

abbrev Rise : List (List ℕ) → Type 0
Rise names = IsStrictlySortedBy byte_order names

module _ {X : Type 0} where
  above : (name : List ℕ) (es : List (Named X)) → T (below_all byte_order name es) → AllByRecursion (λ other. byte_order name other ≡ Less) (map (λ e. e.0) es)
  above name [] h = tt
  above name (e ∷ es) h = (less _ (first _ _ h), above name es (second _ _ h))

  names_rise : (es : List (Named X)) → T (is_sorted byte_order es) → Rise (map (λ e. e.0) es)
  unfolding IsStrictlySortedBy
  names_rise [] h = tt
  names_rise (e ∷ es) h = (above e.0 es (first _ _ h), names_rise es (second _ _ h))

  put_sorted : (there more : List (Named X)) → T (is_sorted byte_order there) → T (is_sorted byte_order (put_all there more))
  put_sorted there [] h = h
  put_sorted there (e ∷ more) h = put_sorted (put byte_order e.0 e.1 there) more (is_sorted-put byte_order nat_list_cmp_total e.0 e.1 there h)

  by_name_rises : (es : List (Named X)) → Rise (map (λ e. e.0) (by_name es))
  by_name_rises es = names_rise (by_name es) (put_sorted [] es tt)

-- ---- A task

module _ {M F Z S A : Type 0} (tables : Tables M F Z S A) (source : Source) (at : Registered) where
  module _ (all : List Spot) (table : List (Expression M F Z)) where
    value_ok : (value : Named Tree) (y : Named Value) → value_under tables source at all table value ≡ Ok y → y.0 ≡ value.0
    value_ok value y e =
        let here = both_ok (required tables source at all table value.0 value.1) _ y e in
        ap (λ z. z.0) (sym (same_ok _ y here.2))

    evaluated_rises : (task : Joined) (t : TaskDeclaration) → IsEvaluated tables source at all table task t
        → Rise (map (λ e. e.0) task.values) → Rise (map (λ e. e.0) task.files) → Rise (map (λ e. e.0) task.outputs) → HasRisingNames t
    evaluated_rises task t is values files outputs = record {
      values = subst Rise (sym (observed_same (value_under tables source at all table) (λ e. e.0) (λ y. y.0) value_ok task.values t.values is.values)) values;
      files = subst Rise (sym (observed_same (files_under tables source at all table) (λ e. e.0) (λ p. p.name) (file_ok tables source at all table) task.files t.files is.files)) files;
      outputs = subst Rise (sym (observed_same (output_under tables source at all table) (λ e. e.0) (λ o. o.name) same_name task.outputs t.outputs is.outputs)) outputs;
    }
      where
        same_name : (o : Named Made) (y : Output) → output_under tables source at all table o ≡ Ok y → y.name ≡ o.0
        same_name o y e = ap (λ (n : List ℕ × Form). n.0) (output_ok tables source at all table o y e).0

  rises_at : (r : Result Joined Fault) (t : TaskDeclaration) → declared tables source.names source.said at ≡ r → realised_at tables source at r ≡ Ok t → HasRisingNames t
  rises_at (Ok task) t is e =
      let ok = no_faults (declaring_faults tables source.names source.said at) (joined at) task is in
      let all = spots tables source in
      let table = table_of tables source all in
      evaluated_rises all table task t (is_evaluated tables source at all table task t e)
      (subst (λ (j : Joined). Rise (map (λ e. e.0) j.values)) ok.1 (by_name_rises (filter_map value_in at.clauses)))
      (subst (λ (j : Joined). Rise (map (λ e. e.0) j.files)) ok.1 (by_name_rises (filter_map files_in at.clauses)))
      (subst (λ (j : Joined). Rise (map (λ e. e.0) j.outputs)) ok.1 (by_name_rises (filter_map output_in at.clauses)))
  rises_at (Err fault) t is e = absurd (cc)

module _ {M F Z S A : Type 0} (tables : Tables M F Z S A) (source : Source) where
  rises_if : (path : Path) (o : Option Registered) (t : TaskDeclaration) → realised_if tables source path o ≡ Ok t → HasRisingNames t
  rises_if path None t e = absurd (cc)
  rises_if path (Some at) t e = rises_at tables source at (declared tables source.names source.said at) t refl e

  pub realised_names_rise : RealisedNamesRise tables source
  realised_names_rise path t e = rises_if path (task_at source.said path) t e
