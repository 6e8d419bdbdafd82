-- The table entries for the actions of a ready task write and execute incrementally as the kinds say.
use Rattle.std.specs.Prelude.{ℕ, ◌≡◌, ◌&&◌, ◌||◌, Bool, true, false, if◌then◌else◌, List, [], ◌∷◌, Option, Some, None, is_some, bytes_eq}
use Rattle.std.specs.List.{AllByRecursion, list_all}
use Rattle.std.specs.FinMap.Entries.{find}
use Rattle.std.proofs.Common.{refl, sym, ap, subst, ◌∙◌}
use mathlib.Core.Bool.{true≢false}
use Rattle.gb_core.specs.Lists.{byte_order}
use Rattle.gb_action.specs.Meanings.{Meanings, WritesItsOutput, shape_of}
use Rattle.gb_action.specs.Shapes.{args_fit, has_output, has_source, is_form, target}
use Rattle.gb_action.specs.declared.output_files.Form.{Form}
use Rattle.gb_action.specs.declared.reply.Written.{Written}
use Rattle.gb_action.specs.declared.shape.Fit.TheVariants.{Yes, BadArgument, BadShape}
use Rattle.gb_action.specs.declared.shape.Shape.{Shape}
use Rattle.gb_plan.specs.Ready.{IsReadyAction, Rows}
use Rattle.gb_plan.specs.Task.{given_files, given_outputs}
use Rattle.gb_plan.specs.declared.task.Action.{Action}
use Rattle.gb_plan.specs.declared.task.Output.{Output}
use Rattle.gb_plan.specs.declared.task.TaskDeclaration.{TaskDeclaration as Task}
use Rattle.gb_semantics.specs.Headline.{Agrees, AgreesAt}
use Rattle.gb_semantics.specs.Kinds.{Kind, Kinds, kind_of}
use Rattle.gb_semantics.specs.Made.{output_named}
use Rattle.gb_run.specs.AskingChanges.{IsFitting}
use Rattle.gb_run.proofs.Agreed.{agrees_found, some_same}

-- ---- a call that fits has its output

fits_output : (a b c : Bool) → (if a && b then (if c then Yes else BadArgument) else BadShape) ≡ Yes → b ≡ true
fits_output true true c e = refl
fits_output true false c e = absurd (let h : BadShape ≡ Yes = e in cc)
fits_output false b c e = absurd (let h : BadShape ≡ Yes = e in cc)

first_named : (a b : Bool) (o : Output) (rest : Option Output) (c : Bool) → (c ≡ true → is_some rest ≡ true) → ((a && b) || c) ≡ true → is_some (if a then Some o else rest) ≡ true
first_named true b o rest c more e = refl
first_named false b o rest c more e = more e

names_output : (form : Form) (outputs : List Output) → has_output (Some form) (given_outputs outputs) ≡ true → is_some (output_named outputs target) ≡ true
names_output form [] e = absurd (true≢false (sym e))
names_output form (output ∷ outputs) e =
    first_named (bytes_eq output.name target) (is_form output.form form) output (output_named outputs target) _ (names_output form outputs) e

has_target : (shape : Shape) (outputs : List Output) → has_output shape.out (given_outputs outputs) ≡ true → is_some shape.out ≡ true → is_some (output_named outputs target) ≡ true
has_target shape outputs fits writes = by shape.out refl writes
  where
    by : (o : Option Form) → shape.out ≡ o → is_some o ≡ true → is_some (output_named outputs target) ≡ true
    by None is e = absurd (true≢false (sym e))
    by (Some form) is e = names_output form outputs (ap (λ o. has_output o (given_outputs outputs)) (sym is) ∙ fits)

module _ {S : Type 0} (meanings : Meanings S) (kinds : Kinds) where
  module _ (rows : Rows S) (task : Task) (action : Action) (ready : IsReadyAction meanings rows task action) (agrees : Agrees meanings rows kinds) where
    stored_agrees : AgreesAt meanings kinds (action.kind, ready.stored)
    stored_agrees = agrees_found meanings kinds rows action.kind ready.stored agrees ready.found

    kind_is : {T : Type 0} (f : Kind → T) → f (kind_of action) ≡ f (record { name = action.kind; version = meanings.version ready.stored })
    kind_is f = ap (λ version. f (record { name = action.kind; version = version })) (sym ready.version)

    pub agreed_writes : (stored : S) → find byte_order action.kind rows ≡ Some stored → kinds.writes (kind_of action) ≡ is_some (shape_of meanings stored).out
    agreed_writes stored found =
        kind_is kinds.writes ∙ stored_agrees.writes
        ∙ ap (λ (s : S). is_some (shape_of meanings s).out) (some_same ready.stored stored (sym ready.found ∙ found))

    pub agreed_incremental : (stored : S) → find byte_order action.kind rows ≡ Some stored → kinds.incremental (kind_of action) ≡ (shape_of meanings stored).incremental
    agreed_incremental stored found =
        kind_is kinds.incremental ∙ stored_agrees.incremental
        ∙ ap (λ (s : S). (shape_of meanings s).incremental) (some_same ready.stored stored (sym ready.found ∙ found))

    pub fitting : ((kind : ℕ) → WritesItsOutput meanings kind) → IsFitting kinds task action
    fitting own = record {
      keeps = λ args values trees written makes.
          subst (λ b. list_all (λ (file : Written). bytes_eq file.output target && b) written ≡ true) (sym (agreed_writes ready.stored ready.found))
          (own (meanings.kind ready.stored) args values trees written (sym (ap (λ f. f args values trees) (kind_is kinds.makes ∙ stored_agrees.makes)) ∙ makes));
      has_target = λ writes.
          has_target (shape_of meanings ready.stored) task.outputs
          (fits_output (has_source (shape_of meanings ready.stored) (given_files task.files)) (has_output (shape_of meanings ready.stored).out (given_outputs task.outputs)) (args_fit (shape_of meanings ready.stored).args action.args) ready.fits)
          (sym (agreed_writes ready.stored ready.found) ∙ writes);
    }

  pub all_fitting : (rows : Rows S) (task : Task) (actions : List Action) → ((kind : ℕ) → WritesItsOutput meanings kind) → Agrees meanings rows kinds → AllByRecursion (IsReadyAction meanings rows task) actions
      → AllByRecursion (IsFitting kinds task) actions
  all_fitting rows task [] own agrees ready = tt
  all_fitting rows task (action ∷ actions) own agrees ready = (fitting rows task action ready.0 agrees own, all_fitting rows task actions own agrees ready.1)
