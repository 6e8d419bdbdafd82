use Rattle.std.proofs.Common.{◌≡◌, ◌⊎◌, ◌∙◌, List, Some, None, refl, ap, inl, inr, subst, sym}
use Rattle.std.specs.Prelude.{MatchOption, Option, find, option_map}
use Rattle.std.proofs.lemmas.Result.{IfErr-weaker, IfOk-weaker}
use Rattle.gb_registry.specs.Projects.{Path}
use Rattle.gb_registry.specs.SoFar.{scripts_in}
use Rattle.gb_registry.specs.declared.checking.Scripted.{Scripted}
use Rattle.gb_script.specs.declared.script.Statement.{Statement}
use Rattle.gb_folder.specs.Faults.{IsOfMachine}
use Rattle.gb_check.specs.DefaultWords.{defaults_line, is_root}
use Rattle.gb_check.specs.Marks.{Lines}
use Rattle.gb_check.specs.Sites.{AreLinesAt, IsUnread, script_of_project}
use Rattle.gb_check.specs.declared.findings.Spot.{Spot}
use Rattle.gb_check.specs.declared.findings.Spot.TheVariants as spots
use Rattle.gb_check.proofs.Words.{found_among, found_of_each}
use Rattle.gb_check.proofs.default_words.defaults_spot.Goals as goal

abbrev said : Scripted → Path × List Statement
said scripted = (scripted.project, scripted.script)

pub returns-in-Some-clause-spot : goal.returns-in-Some-clause-spot
returns-in-Some-clause-spot g c =
    let F = g.F.Folder in
    let root : Scripted = c.in-Some.root.now in
    let files = (F.device.contents c.args.folder.now).files in
    let here : find is_root (scripts_in c.args.scripts.now) ≡ Some (said root) = found_of_each said is_root c.args.scripts.now ∙ ap (option_map said) (sym c.in-Some.ensures) in
    IfOk-weaker c.line_in.result _ _
    (λ spot is.
    subst (λ (script : Option (Path × List Statement)). MatchOption script (spot ≡ spots.Unknown) (λ one.
    (lines : List Lines) × (F.device.faithful c.line_in.new.folder → AreLinesAt files (script_of_project one.0) lines) × (spot ≡ spots.Line (script_of_project one.0) (defaults_line 1 one.1 lines)))) (sym here) is)
    c.line_in.ensures.spot

pub returns-in-None-clause-spot : goal.returns-in-None-clause-spot
returns-in-None-clause-spot g c =
    let F = g.F.Folder in
    let files = (F.device.contents c.args.folder.now).files in
    let spot : Spot = spots.Unknown in
    let none : find is_root (scripts_in c.args.scripts.now) ≡ None = found_of_each said is_root c.args.scripts.now ∙ ap (option_map said) (sym c.in-None.ensures) in
    subst (λ (script : Option (Path × List Statement)). MatchOption script (spot ≡ spots.Unknown) (λ one.
    (lines : List Lines) × (F.device.faithful c.args.folder.now → AreLinesAt files (script_of_project one.0) lines) × (spot ≡ spots.Line (script_of_project one.0) (defaults_line 1 one.1 lines)))) (sym none) refl

pub returns-in-Some-clause-err : goal.returns-in-Some-clause-err
returns-in-Some-clause-err g c = λ faithful.
    let F = g.F.Folder in
    let root : Scripted = c.in-Some.root.now in
    let files = (F.device.contents c.args.folder.now).files in
    let here : find is_root (scripts_in c.args.scripts.now) ≡ Some (said root) = found_of_each said is_root c.args.scripts.now ∙ ap (option_map said) (sym c.in-Some.ensures) in
    IfErr-weaker c.line_in.result _ _
    (λ fault why. elim why as (λ _. IsOfMachine (F.device.failures c.args.folder.now) (F.device.failures c.line_in.new.folder) fault ⊎ IsUnread files (scripts_in c.args.scripts.now) fault) [
      | inl machine ↦ inl machine
      | inr has ↦ inr (record { script = said root; is_one = found_among is_root (scripts_in c.args.scripts.now) (said root) here; has = has })
    ])
    (c.line_in.ensures.err faithful)
