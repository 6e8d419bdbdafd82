use Rattle.std.proofs.Common.{inr, sym, ap, refl, ◌∙◌, arith, Err}
use Rattle.gb_registry.specs.Tables.{tables_of}
use Rattle.gb_declare.specs.Realised.{Plain}
use Rattle.gb_project.proofs.WorkspaceLemmas.{at_fault, entry_is, entry_kept, entry_shows, entry_within, fault_within, row_count, row_within}
use Rattle.gb_project.proofs.workspaces.realised_at.Goals as goal

pub index-requires : goal.index-requires
index-requires g c =
    let tables = tables_of g.T.Transforms.meanings g.A.Actions.meanings c.args.tables.now in
    let within = fault_within tables c.args.registry.now c.args.providers.now.nodes c.args.declared.now c.requires.kept c.args.path.now c.args.index c.requires.index in
    omega (arith, within, c.args.declared.now.faults.ok.0)

pub returns-in-Some-clause-reported : goal.returns-in-Some-clause-reported
returns-in-Some-clause-reported g c =
    let tables = tables_of g.T.Transforms.meanings g.A.Actions.meanings c.args.tables.now in
    inr (
      Plain c.in_ok-copy.field-0,
      at_fault tables c.args.registry.now c.args.providers.now.nodes c.args.declared.now c.requires.kept c.args.path.now c.args.index c.requires.index
          c.index.result.now c.in-Some.fault c.index.ensures c.in-Some.is
          ∙ ap (λ f. Err (Plain f)) (sym c.in_ok-copy.ensures),
      refl,
    )

pub index-requires-2 : goal.index-requires-2
index-requires-2 g c =
    let tables = tables_of g.T.Transforms.meanings g.A.Actions.meanings c.args.tables.now in
    let within = entry_within tables c.args.registry.now c.args.providers.now.nodes c.args.declared.now c.requires.kept c.args.path.now c.args.index c.requires.index in
    omega (arith, within, c.args.declared.now.entries.ok.0)

pub unreachable-requires : goal.unreachable-requires
unreachable-requires g c =
    let tables = tables_of g.T.Transforms.meanings g.A.Actions.meanings c.args.tables.now in
    entry_is tables c.args.registry.now c.args.providers.now.nodes c.args.declared.now c.requires.kept c.args.path.now c.args.index c.requires.index
    c.index.result.now c.index-2.result.now c.index.ensures c.in_default.is c.index-2.ensures c.in_default-index.is

pub evaluated_entry-requires-clause-within : goal.evaluated_entry-requires-clause-within
evaluated_entry-requires-clause-within g c =
    let tables = tables_of g.T.Transforms.meanings g.A.Actions.meanings c.args.tables.now in
    row_within tables c.args.registry.now c.args.providers.now.nodes c.args.declared.now c.requires.kept c.args.path.now c.args.index c.requires.index c.in-Some-index.entry
    (entry_kept tables c.args.registry.now c.args.providers.now.nodes c.args.declared.now c.requires.kept c.args.path.now c.args.index c.requires.index
    c.index.result.now c.index-2.result.now c.in-Some-index.entry c.index.ensures c.in_default.is c.index-2.ensures c.in-Some-index.is)

pub evaluated_entry-requires-clause-count : goal.evaluated_entry-requires-clause-count
evaluated_entry-requires-clause-count g c =
    let tables = tables_of g.T.Transforms.meanings g.A.Actions.meanings c.args.tables.now in
    row_count tables c.args.registry.now c.args.providers.now.nodes c.args.declared.now c.requires.kept c.args.path.now c.args.index c.requires.index c.in-Some-index.entry
    (entry_kept tables c.args.registry.now c.args.providers.now.nodes c.args.declared.now c.requires.kept c.args.path.now c.args.index c.requires.index
    c.index.result.now c.index-2.result.now c.in-Some-index.entry c.index.ensures c.in_default.is c.index-2.ensures c.in-Some-index.is)

pub evaluated_entry-requires-clause-patterns : goal.evaluated_entry-requires-clause-patterns
evaluated_entry-requires-clause-patterns g c =
    let tables = tables_of g.T.Transforms.meanings g.A.Actions.meanings c.args.tables.now in
    (entry_kept tables c.args.registry.now c.args.providers.now.nodes c.args.declared.now c.requires.kept c.args.path.now c.args.index c.requires.index
    c.index.result.now c.index-2.result.now c.in-Some-index.entry c.index.ensures c.in_default.is c.index-2.ensures c.in-Some-index.is).patterns

pub returns-clause-reported : goal.returns-clause-reported
returns-clause-reported g c =
    let tables = tables_of g.T.Transforms.meanings g.A.Actions.meanings c.args.tables.now in
    entry_shows tables c.args.registry.now c.args.providers.now.nodes c.args.declared.now c.requires.kept c.args.path.now c.args.index c.requires.index c.in-Some-index.entry
    (entry_kept tables c.args.registry.now c.args.providers.now.nodes c.args.declared.now c.requires.kept c.args.path.now c.args.index c.requires.index
    c.index.result.now c.index-2.result.now c.in-Some-index.entry c.index.ensures c.in_default.is c.index-2.ensures c.in-Some-index.is)
    c.projects.result.now c.paths.result.now c.as_slice.result.now c.evaluated_entry.result c.projects.ensures (c.paths.ensures ∙ c.tasks.ensures.tasks) c.as_slice.ensures.value c.evaluated_entry.ensures.reported
