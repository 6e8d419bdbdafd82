use Rattle.std.proofs.Common.{◌≡◌, List, [], None, Ok, sym, ap, ◌∙◌}
use Rattle.std.proofs.lemmas.Result.{IfOk-weaker}
use Rattle.gb_registry.specs.Faulty.{missing_in, wrong_in}
use Rattle.gb_registry.specs.Projects.{Path}
use Rattle.gb_registry.specs.Said.{paths_of}
use Rattle.gb_registry.specs.SoFar.{said_in, scripts_in, source_in}
use Rattle.gb_registry.specs.Tables.{tables_of}
use Rattle.gb_registry.proofs.Alike.{IsBefore, more_if_none, scripts_alike}
use Rattle.gb_registry.proofs.Located.{gap_first, gap_there, no_own_observed, own_first, own_there}
use Rattle.gb_registry.proofs.first_fault.first_among.Goals as goal

pub returns-in-Some-clause-first : goal.returns-in-Some-clause-first
returns-in-Some-clause-first g c =
    let tables = tables_of g.T.Transforms.meanings g.A.Actions.meanings c.args.tables.now in
    let scripts = scripts_in c.args.scripts.now in
    let so_far = c.new-so_far.result in
    let start : IsBefore [] so_far = record { tasks = ap (λ s. s.tasks) c.new-so_far.ensures; count = ap (λ s. s.count) c.new-so_far.ensures } in
    let names = (source_in c.args.projects.now c.args.scripts.now).names in
    own_first tables names scripts so_far start c.requires c.in-Some.at (sym c.in_ok-at.ensures.found ∙ c.in-Some.is)

pub returns-in-Some-clause-at : goal.returns-in-Some-clause-at
returns-in-Some-clause-at g c =
    let tables = tables_of g.T.Transforms.meanings g.A.Actions.meanings c.args.tables.now in
    let scripts = scripts_in c.args.scripts.now in
    let so_far = c.new-so_far.result in
    let start : IsBefore [] so_far = record { tasks = ap (λ s. s.tasks) c.new-so_far.ensures; count = ap (λ s. s.count) c.new-so_far.ensures } in
    let names = (source_in c.args.projects.now c.args.scripts.now).names in
    own_there tables names scripts so_far start c.requires c.in-Some.at (sym c.in_ok-at.ensures.found ∙ c.in-Some.is)

pub returns-clause-first : goal.returns-clause-first
returns-clause-first g c =
    let tables = tables_of g.T.Transforms.meanings g.A.Actions.meanings c.args.tables.now in
    let scripts = scripts_in c.args.scripts.now in
    let so_far = c.new-so_far.result in
    let start : IsBefore [] so_far = record { tasks = ap (λ s. s.tasks) c.new-so_far.ensures; count = ap (λ s. s.count) c.new-so_far.ensures } in
    let names = (source_in c.args.projects.now c.args.scripts.now).names in
    let none : wrong_in tables so_far scripts ≡ None = sym c.in_ok-at.ensures.found ∙ c.in-None.is in
    let faultless = no_own_observed tables scripts so_far none in
    let tasks : c.paths.result.now ≡ paths_of (said_in c.args.scripts.now) =
    c.paths.ensures ∙ c.into_tasks-tasks.ensures ∙ ap (λ s. s.tasks) (c.in_ok-at.ensures.so_far (ap Ok c.in-None.is)) ∙ (more_if_none _ _ (scripts_alike tables scripts [] so_far start c.requires) faultless).tasks in
    IfOk-weaker c.missing_in.result _ _
    (λ found is. gap_first tables names scripts so_far start c.requires none found
    (is ∙ ap (λ (tasks : List Path). missing_in (record { projects = c.args.projects.now; tasks = tasks }) scripts) tasks))
    c.missing_in.ensures.found

pub returns-clause-at : goal.returns-clause-at
returns-clause-at g c =
    let tables = tables_of g.T.Transforms.meanings g.A.Actions.meanings c.args.tables.now in
    let scripts = scripts_in c.args.scripts.now in
    let so_far = c.new-so_far.result in
    let start : IsBefore [] so_far = record { tasks = ap (λ s. s.tasks) c.new-so_far.ensures; count = ap (λ s. s.count) c.new-so_far.ensures } in
    let names = (source_in c.args.projects.now c.args.scripts.now).names in
    let none : wrong_in tables so_far scripts ≡ None = sym c.in_ok-at.ensures.found ∙ c.in-None.is in
    let faultless = no_own_observed tables scripts so_far none in
    let tasks : c.paths.result.now ≡ paths_of (said_in c.args.scripts.now) =
    c.paths.ensures ∙ c.into_tasks-tasks.ensures ∙ ap (λ s. s.tasks) (c.in_ok-at.ensures.so_far (ap Ok c.in-None.is)) ∙ (more_if_none _ _ (scripts_alike tables scripts [] so_far start c.requires) faultless).tasks in
    IfOk-weaker c.missing_in.result _ _
    (λ found is. gap_there tables names scripts so_far start c.requires none found
    (is ∙ ap (λ (tasks : List Path). missing_in (record { projects = c.args.projects.now; tasks = tasks }) scripts) tasks))
    c.missing_in.ensures.found
