use Rattle.std.proofs.Common.{◌≡◌, ℕ, List, sym, ◌∙◌, ap, subst, IfOk}
use Rattle.std.proofs.lemmas.Option.{none-some}
use Rattle.std.specs.Prelude.{bytes_eq, unwrap_or}
use Rattle.std.specs.Option.{option_copied}
use Rattle.gb_core.specs.Lists.{first_of}
use Rattle.gb_folder.specs.Files.{Place}
use Rattle.gb_tree.proofs.Doubles.{not_again}
use Rattle.gb_tree.proofs.entries.first_under.Goals as goal
use Rattle.gb_tree.proofs.entries.first_under.Goals.{in_default-via-in-Some+else-eq, in_default-via-in_default}

pub returns-in_default : goal.returns-in_default
returns-in_default c =
    let later = c.args.later.now in
    let path = c.args.path.now in
    let same = not_again path later c.requires.rising c.requires.from (λ entry there. elim c.in_default.branch [
      | in_default-via-in-Some+else-eq w ↦
          let is = ap (λ o. unwrap_or o entry) (ap option_copied (sym w.in-Some.is) ∙ c.first.ensures.value ∙ there) in
          sym (ap (λ (e : List ℕ × Place). bytes_eq e.0 path) is) ∙ sym w.eq.ensures ∙ w.if-eq.false
      | in_default-via-in_default w ↦ absurd (none-some entry (ap option_copied (sym w.in_default.is) ∙ c.first.ensures.value ∙ there))
    ]) in
    subst (λ (paths : List (List ℕ)). IfOk c.first_beneath.result (λ other. option_copied other ≡ first_of paths)) (sym same) c.first_beneath.ensures
