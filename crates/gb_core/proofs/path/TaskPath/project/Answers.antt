use Rattle.std.proofs.Common.{rules, lit<, ◌∙◌, ap, sym, subst, IsTrue}
use Rattle.gb_core.specs.Path.{is_project_path, root_if_empty, project_of}
use Rattle.gb_core.proofs.LastColon.{cut_at_last, no_last}
use Rattle.gb_core.proofs.Parts.{has_parts}
use Rattle.gb_core.proofs.path.TaskPath.project.Goals as goal

pub returns-in-Some-clause-text : goal.returns-in-Some-clause-text
returns-in-Some-clause-text c = c.root_if_empty.ensures ∙ ap root_if_empty (cut_at_last 58 _ _ _ (lit< tt) c.in-Some.ensures.cases).0 ∙ ap project_of (c.as_str.ensures ∙ c.self.view_is)

pub returns-in-Some-clause-project : goal.returns-in-Some-clause-project
returns-in-Some-clause-project c =
    let whole = c.root_if_empty.ensures ∙ ap root_if_empty (cut_at_last 58 _ _ _ (lit< tt) c.in-Some.ensures.cases).0 ∙ ap project_of c.as_str.ensures in
    subst (λ x. IsTrue (is_project_path x)) (sym whole) (has_parts c.self.inside.text c.self.invariant).0

pub returns-in-None-clause-text : goal.returns-in-None-clause-text
returns-in-None-clause-text c = ap root_if_empty (no_last 58 _ (lit< tt) c.in-None.ensures.cases).0 ∙ ap project_of (c.as_str.ensures ∙ c.self.view_is)

pub returns-in-None-clause-project : goal.returns-in-None-clause-project
returns-in-None-clause-project c = search rules
