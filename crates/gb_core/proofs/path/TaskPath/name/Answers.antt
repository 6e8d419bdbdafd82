use Rattle.std.proofs.Common.{lit<, ◌∙◌, ap, sym, subst, IsTrue}
use Rattle.gb_core.specs.Name.{is_name}
use Rattle.gb_core.specs.Path.{task_name}
use Rattle.gb_core.proofs.LastColon.{cut_at_last, no_last}
use Rattle.gb_core.proofs.Parts.{has_parts}
use Rattle.gb_core.proofs.path.TaskPath.name.Goals as goal

pub returns-in-Some-clause-text : goal.returns-in-Some-clause-text
returns-in-Some-clause-text c = (cut_at_last 58 _ _ _ (lit< tt) c.in-Some.ensures.cases).1 ∙ ap task_name (c.as_str-text.ensures ∙ c.self.view_is)

pub returns-in-Some-clause-name : goal.returns-in-Some-clause-name
returns-in-Some-clause-name c =
    let whole = (cut_at_last 58 _ _ _ (lit< tt) c.in-Some.ensures.cases).1 ∙ ap task_name c.as_str-text.ensures in
    subst (λ x. IsTrue (is_name x)) (sym whole) (has_parts c.self.inside.text c.self.invariant).1

pub returns-in-None-clause-text : goal.returns-in-None-clause-text
returns-in-None-clause-text c = (no_last 58 _ (lit< tt) c.in-None.ensures.cases).1 ∙ ap task_name (c.as_str-text.ensures ∙ c.self.view_is)

pub returns-in-None-clause-name : goal.returns-in-None-clause-name
returns-in-None-clause-name c =
    let whole = (no_last 58 _ (lit< tt) c.in-None.ensures.cases).1 ∙ ap task_name c.as_str-text.ensures in
    subst (λ x. IsTrue (is_name x)) (sym whole) (has_parts c.self.inside.text c.self.invariant).1
