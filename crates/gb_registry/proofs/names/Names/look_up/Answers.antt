use Rattle.std.proofs.Common.{◌≡◌, sym, ap, ◌∙◌, string_bytes}
use Rattle.gb_core.specs.Path.{project_of}
use Rattle.gb_registry.specs.Projects.{absolute, is_among}
use Rattle.gb_registry.proofs.Lookups.{no_project, no_task}
use Rattle.gb_registry.proofs.names.Names.look_up.Goals as goal

pub returns-then-not-contains : goal.returns-then-not-contains
returns-then-not-contains c =
    let text = c.args.text.now in
    let path : string_bytes c.in_ok-path.path ≡ absolute c.args.project.now text = c.in_ok-path.ensures ∙ ap (absolute c.args.project.now) c.as_str.ensures in
    let project = c.project_of.ensures ∙ ap project_of (c.as_str-2.ensures.value ∙ path) in
    let known = sym (ap (λ names. is_among names.projects (project_of (absolute c.args.project.now text))) c.self.view_is) ∙ sym (ap (is_among c.self.inside.projects.now) project) ∙ sym c.contains.ensures in
    no_project _ _ text _ (known ∙ c.if-not-contains.true) c.in_ok-copy.ensures

pub returns-then-not-contains-2 : goal.returns-then-not-contains-2
returns-then-not-contains-2 c =
    let text = c.args.text.now in
    let path : string_bytes c.in_ok-path.path ≡ absolute c.args.project.now text = c.in_ok-path.ensures ∙ ap (absolute c.args.project.now) c.as_str.ensures in
    let project = c.project_of.ensures ∙ ap project_of (c.as_str-2.ensures.value ∙ path) in
    let known = sym (ap (λ names. is_among names.projects (project_of (absolute c.args.project.now text))) c.self.view_is) ∙ sym (ap (is_among c.self.inside.projects.now) project) ∙ sym c.contains.ensures in
    let task = c.as_str-3.ensures.value ∙ path in
    let there = sym (ap (λ names. is_among names.tasks (absolute c.args.project.now text)) c.self.view_is) ∙ sym (ap (is_among c.self.inside.tasks.now) task) ∙ sym c.contains-2.ensures in
    no_task _ _ text _ (known ∙ c.if-not-contains.false) (there ∙ c.if-not-contains-2.true) c.in_ok-copy-2.ensures
