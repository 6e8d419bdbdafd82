-- What a task makes is in order and under its output places.
use Rattle.std.specs.Prelude.{ℕ, ◌≡◌, Bool, true, false, cond, ◌&&◌, ◌||◌, List, [], ◌∷◌, ◌++◌, Some, None, Result, Ok, Err, bytes_eq, ⊤}
use Rattle.std.specs.List.{list_any, list_all, fold}
use Rattle.std.specs.Ordering.{eq_by_cmp}
use Rattle.std.specs.FinMap.Entries.{is_sorted}
use Rattle.std.proofs.Common.{refl, sym, ap, subst, ◌∙◌}
use Rattle.gb_report.specs.declared.fault.Fault.{Fault}
use Rattle.gb_folder.specs.Files.{Place, Bytes, Files, is_empty, file_at, with_file}
use Rattle.gb_core.specs.Lists.{byte_order}
use Rattle.gb_core.specs.Place.{is_under, beneath}
use Rattle.gb_plan.specs.declared.task.TaskDeclaration.{TaskDeclaration as Task}
use Rattle.gb_plan.specs.declared.task.Output.{Output}
use Rattle.gb_plan.specs.declared.task.Action.{Action}
use Rattle.gb_action.specs.Meanings.{Values}
use Rattle.gb_action.specs.Files.{Trees}
use Rattle.gb_semantics.specs.Tree.{has_no_source, trees_of}
use Rattle.gb_semantics.specs.Kinds.{Kinds, kind_of}
use Rattle.gb_action.specs.declared.reply.Written.{Written}
use Rattle.gb_semantics.specs.Made.{output_named, placed_in, placed, put_over, step_faults, put_result, act, made_of, made}
use Rattle.gb_plan.proofs.Tests.{not_true}
use Rattle.gb_semantics.proofs.Lemmas.Files.{same_place, at-with, sorted-put_over}
use Rattle.gb_plan.proofs.Places.{beneath_under}

abbrev is_out : List Output → Place → Bool
is_out outputs place = list_any (λ output. is_under place output.place) outputs

-- files that are all out leave the other places as they are
beside_out : (outputs : List Output) (held files : Files) (q : Place) → list_all (λ (f : Place × Bytes). is_out outputs f.0) files ≡ true → is_out outputs q ≡ false → file_at (put_over held files) q ≡ file_at held q
beside_out outputs held [] q h out = refl
beside_out outputs held (f ∷ files) q h out =
    beside_out outputs (with_file held f.0 f.1) files q (second (is_out outputs f.0) (list_all (λ g. is_out outputs g.0) files) h) out
    ∙ at-with held f.0 f.1 q
    ∙ elim (eq_by_cmp byte_order q f.0) as (λ b. eq_by_cmp byte_order q f.0 ≡ b → cond b (Some f.1) (file_at held q) ≡ file_at held q) [
      | true ↦ λ e. not_true (sym out ∙ ap (is_out outputs) (same_place q f.0 e) ∙ first (is_out outputs f.0) (list_all (λ g. is_out outputs g.0) files) h)
      | false ↦ λ _. refl
    ] refl
  where
    first : (a b : Bool) → (a && b) ≡ true → a ≡ true
    first true b e = refl
    first false b e = e

    second : (a b : Bool) → (a && b) ≡ true → b ≡ true
    second true b e = e
    second false b e = not_true e

all_append : {X : Type 0} (p : X → Bool) (xs ys : List X) → list_all p xs ≡ true → list_all p ys ≡ true → list_all p (xs ++ ys) ≡ true
all_append p [] ys h g = g
all_append p (x ∷ xs) ys h g = elim (p x) as (λ b. (b && list_all p xs) ≡ true → (b && list_all p (xs ++ ys)) ≡ true) [ true ↦ λ e. all_append p xs ys e g | false ↦ λ e. e ] h

or_right : (a b : Bool) → b ≡ true → (a || b) ≡ true
or_right true b e = refl
or_right false b e = e

-- a file goes under an output, whatever comes before that output
places_out : (outputs part : List Output) (file : Written)
    → ((q : Place) → list_any (λ output. is_under q output.place) part ≡ true → is_out outputs q ≡ true)
    → list_all (λ (f : Place × Bytes). is_out outputs f.0) (placed_in (output_named part file.output) file) ≡ true
places_out outputs [] file h = refl
places_out outputs (output ∷ part) file h =
    let rest = places_out outputs part file (λ q e. h q (or_right (is_under q output.place) (list_any (λ o. is_under q o.place) part) e)) in
    let here = h (beneath output.place file.path) (ap (λ b. b || list_any (λ o. is_under (beneath output.place file.path) o.place) part) (beneath_under output.place file.path)) in
    elim (bytes_eq output.name file.output) as (λ b. list_all (λ (f : Place × Bytes). is_out outputs f.0) (placed_in (cond b (Some output) (output_named part file.output)) file) ≡ true) [
      | true ↦ ap (λ b. b && true) here
      | false ↦ rest
    ]

placed_out : (outputs : List Output) (written : List Written) → list_all (λ (f : Place × Bytes). is_out outputs f.0) (placed outputs written) ≡ true
placed_out outputs [] = refl
placed_out outputs (file ∷ written) =
    all_append (λ (f : Place × Bytes). is_out outputs f.0) (placed_in (output_named outputs file.output) file) (placed outputs written) (places_out outputs outputs file (λ q e. e)) (placed_out outputs written)

-- in order, and nothing outside the outputs
pub record IsRight (outputs : List Output) (files : Files) : Type 0 where
  pub in_order : is_sorted byte_order files ≡ true
  pub beside : (q : Place) → is_out outputs q ≡ false → file_at files q ≡ None

abbrev RightResult : List Output → Result Files (List Fault) → Type 0
RightResult outputs (Ok files) = IsRight outputs files
RightResult outputs (Err fault) = ⊤

module _ (kinds : Kinds) (outputs : List Output) (values : Values) (trees : Trees) where
  put_right : (held : Files) → IsRight outputs held → (r : Result (List Written) (List ℕ)) → RightResult outputs (put_result outputs held r)
  put_right held h (Err text) = tt
  put_right held h (Ok written) =
      elim (is_empty (step_faults outputs held (placed outputs written))) as (λ b. RightResult outputs (cond b (Ok (put_over held (placed outputs written))) (Err (step_faults outputs held (placed outputs written))))) [
        | true ↦ record {
          in_order = sorted-put_over held (placed outputs written) h.in_order;
          beside = λ q out. beside_out outputs held (placed outputs written) q (placed_out outputs written) out ∙ h.beside q out;
        }
        | false ↦ tt
      ]

  act_right : (held : Result Files (List Fault)) → RightResult outputs held → (action : Action) → RightResult outputs (act kinds outputs values trees held action)
  act_right (Err fault) h action = tt
  act_right (Ok held) h action = put_right held h (kinds.makes (kind_of action) action.args values trees)

  fold_right : (actions : List Action) (held : Result Files (List Fault)) → RightResult outputs held → RightResult outputs (fold (act kinds outputs values trees) held actions)
  fold_right [] held h = h
  fold_right (action ∷ actions) held h = fold_right actions (act kinds outputs values trees held action) (act_right held h action)

  made_of_right : (actions : List Action) → RightResult outputs (made_of kinds actions values trees outputs)
  made_of_right actions = fold_right actions (Ok []) (record { in_order = refl; beside = λ q out. refl })

pub made_right : (kinds : Kinds) (task : Task) (files new : Files) → made kinds task files ≡ Ok new → IsRight task.outputs new
made_right kinds task files new e = subst (RightResult task.outputs) e whole
  where
    whole : RightResult task.outputs (made kinds task files)
    whole = elim (has_no_source task files) as (λ b. RightResult task.outputs (cond b (Ok []) (made_of kinds task.actions task.values (trees_of task files) task.outputs))) [
      | true ↦ record { in_order = refl; beside = λ q out. refl }
      | false ↦ made_of_right kinds task.outputs task.values (trees_of task files) task.actions
    ]

pub made_of_is_right : (kinds : Kinds) (outputs : List Output) (values : Values) (trees : Trees) (actions : List Action) (new : Files)
    → made_of kinds actions values trees outputs ≡ Ok new → IsRight outputs new
made_of_is_right kinds outputs values trees actions new e = subst (RightResult outputs) e (made_of_right kinds outputs values trees actions)
