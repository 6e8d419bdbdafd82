-- The table entry under the name of an action means what the kinds say.
use Rattle.std.proofs.Common.{◌≡◌, ℕ, cond, List, [], ◌∷◌, Some, refl, sym, ap, subst, ◌∙◌}
use Rattle.std.specs.FinMap.Entries.{find}
use Rattle.std.specs.Ordering.{is_eq}
use Rattle.std.specs.declared.cmp.Ordering.TheVariants.{Less, Equal, Greater}
use Rattle.gb_core.specs.Lists.{byte_order}
use Rattle.gb_core.proofs.Found.{tied_same}
use Rattle.gb_action.specs.Meanings.{Meanings, makes_of, prints_of}
use Rattle.gb_plan.specs.Ready.{IsReadyAction, Rows}
use Rattle.gb_plan.specs.declared.task.Action.{Action}
use Rattle.gb_plan.specs.declared.task.TaskDeclaration.{TaskDeclaration}
use Rattle.gb_semantics.specs.Headline.{Agrees, AgreesAt}
use Rattle.gb_semantics.specs.Kinds.{Kinds, kind_of}

pub some_same : {A : Type 0} (x y : A) → Some x ≡ Some y → x ≡ y
some_same x y e = cc

module _ {S : Type 0} (meanings : Meanings S) (kinds : Kinds) where
  pub agrees_found : (rows : Rows S) (name : List ℕ) (stored : S) → Agrees meanings rows kinds → find byte_order name rows ≡ Some stored → AgreesAt meanings kinds (name, stored)
  agrees_found [] name stored all found = absurd (cc)
  agrees_found (row ∷ rows) name stored all found =
      elim (byte_order name row.0) as (λ o. byte_order name row.0 ≡ o → cond (is_eq o) (Some row.1) (find byte_order name rows) ≡ Some stored → AgreesAt meanings kinds (name, stored)) [
        | Less ↦ λ _ later. agrees_found rows name stored all.1 later
        | Equal ↦ λ tied here.
            subst (λ (key : List ℕ). AgreesAt meanings kinds (key, stored)) (sym (tied_same name row.0 tied))
            (subst (λ (s : S). AgreesAt meanings kinds (row.0, s)) (some_same row.1 stored here) all.0)
        | Greater ↦ λ _ later. agrees_found rows name stored all.1 later
      ] refl found

  module _ (rows : Rows S) (task : TaskDeclaration) (action : Action) (stored : S) (ready : IsReadyAction meanings rows task action) (found : find byte_order action.kind rows ≡ Some stored) where
    pub same_stored : ready.stored ≡ stored
    same_stored = some_same ready.stored stored (sym ready.found ∙ found)

    versions : meanings.version stored ≡ action.version
    versions = ap meanings.version (sym same_stored) ∙ ready.version

    pub agreed_makes : Agrees meanings rows kinds → kinds.makes (kind_of action) ≡ makes_of meanings stored
    agreed_makes all =
        ap (λ version. kinds.makes (record { name = action.kind; version = version })) (sym versions)
        ∙ (agrees_found rows action.kind stored all found).makes

    pub agreed_prints : Agrees meanings rows kinds → kinds.prints (kind_of action) ≡ prints_of meanings stored
    agreed_prints all =
        ap (λ version. kinds.prints (record { name = action.kind; version = version })) (sym versions)
        ∙ (agrees_found rows action.kind stored all found).prints
