use Rattle.std.proofs.Common.{◌+◌, true, false, drop, sym, ap, ◌∙◌}
use Rattle.std.specs.Prelude.{fold, option_copied, bytes_eq}
use Rattle.std.proofs.lemmas.List.Sums.{fold-append}
use Rattle.gb_registry.specs.Projects.{root_path}
use Rattle.gb_registry.specs.Said.{script_of}
use Rattle.gb_registry.specs.SoFar.{said_in}
use Rattle.gb_registry.specs.Select.{defaults_after, texts_or_none}
use Rattle.gb_registry.proofs.Own.{script_next}
use Rattle.gb_registry.proofs.registry.last_defaults.Goals as goal
use Rattle.gb_registry.proofs.registry.last_defaults.Goals.{then-eq, else-eq}

pub loop-scripted-preserved : goal.loop-scripted-preserved
loop-scripted-preserved c =
    let scripts = c.args.scripts.now in
    let i = c.loop-scripted.scripted-index in
    let scripted = c.scripted-item.result in
    let before = texts_or_none (option_copied c.loop-scripted.last) in
    let rest = script_of (said_in (drop (i + 1) scripts)) root_path in
    let is_root = sym (ap (λ p. bytes_eq p root_path) (c.as_str.ensures.text ∙ c.path.ensures)) ∙ sym c.eq.ensures in
    elim c.if-eq.branch [
      | then-eq w ↦
          c.loop-scripted.invariant
          ∙ ap (fold defaults_after before) (script_next scripts i scripted root_path true c.loop-scripted-test.true c.scripted-item.is (is_root ∙ w.if-eq.true))
          ∙ fold-append defaults_after before scripted.script rest
          ∙ ap (λ texts. fold defaults_after texts rest)
          (ap (fold defaults_after before) (sym w.statements.ensures) ∙ sym w.later_defaults-last.ensures ∙ ap (λ o. texts_or_none (option_copied o)) (sym w.last-is))
      | else-eq w ↦
          c.loop-scripted.invariant
          ∙ ap (fold defaults_after before) (script_next scripts i scripted root_path false c.loop-scripted-test.true c.scripted-item.is (is_root ∙ w.if-eq.false))
          ∙ ap (λ o. fold defaults_after (texts_or_none (option_copied o)) rest) (sym w.last-is)
    ]
