use Rattle.std.proofs.Common.{◌<◌, Ok, length, map, sym, ap, subst, ◌∙◌, refl}
use Rattle.std.specs.List.{flat_map}
use Rattle.std.proofs.lemmas.List.Elements.{All-append}
use Rattle.std.proofs.lemmas.Result.{err_from_is_err_and}
use Rattle.gb_project.proofs.ReportLemmas.{passed_on}
use Rattle.gb_project.specs.Given.{HasValue}
use Rattle.gb_project.specs.Over.{IsOver, known_names}
use Rattle.gb_registry.specs.Tables.{tables_of}
use Rattle.gb_declare.specs.Whole.{spots, whole}
use Rattle.gb_provider.specs.declared.expression.Node.{Node}
use Rattle.gb_project.specs.Rows.{AreWithin, HaveValues}
use Rattle.gb_project.proofs.PartLemmas.{back_all, prefix_all, left_counted}
use Rattle.gb_project.proofs.RowValueLemmas.{AreLeft, first_of_all, none_of_all, row_fails_here, row_exists, rows_go_on}
use Rattle.gb_declare.specs.Borrowed.{named_in}
use Rattle.gb_declare.specs.Joined.{Named}
use Rattle.gb_declare.specs.Realised.{each_of, files_under}
use Rattle.gb_script.specs.declared.script.InputFiles.{InputFiles}
use Rattle.gb_project.specs.Parts.{HasPatterns, HavePatterns}
use Rattle.gb_project.proofs.RowValueLemmas.{others_of_all}
use Rattle.gb_project.proofs.WalkLemmas.{IsWalked, walk_begins, walk_ends}
use Rattle.gb_project.proofs.file_properties.properties.Goals as goal

pub returns-in_err-read-clause-reported : goal.returns-in_err-read-clause-reported
returns-in_err-read-clause-reported g c = λ source number over at is are.
    let context = c.args.context.now in
    let tables = tables_of g.T.Transforms.meanings g.A.Actions.meanings context.tables.now in
    let f = files_under tables source at (spots tables source) (whole tables source) in
    let x : Named InputFiles = (c.in-Some.name.now, c.in-Some.files.now.now) in
    let next = ap (map (λ e. (e.0, e.1.now))) c.in-Some.ensures.steps in
    let left = c.loop-name.invariant.reported source number over at is are in
    let there = subst (λ p. IsOver tables source (known_names context.projects.now context.tasks.now) context.faults.now p.nodes number) (sym c.loop-name.invariant.kept) over in
    let fault = c.in_err-read.field-0.0 in
    let p = err_from_is_err_and c.from_residual.result c.from_residual.ensures.1 in
    passed_on tables source (each_of f (named_in c.args.files.now)) c.from_residual.result p.0 fault p.1 p.2
    (row_fails_here tables source number at.project (λ (property : Named InputFiles). property.1.from) f (named_in c.args.files.now) c.loop-name.found.items c.loop-name.rest.now c.split_at.result.0.now c.split_at.result.1.now (map (λ e. (e.0, e.1.now)) c.loop-name.name-iterator) (map (λ e. (e.0, e.1.now)) c.next.new.self) x c.split_at.ensures.whole (c.split_at.ensures.first ∙ ap length c.as_slice.ensures) next left fault (c.in_err-read.ensures.reported source number there at is (row_exists tables source number at.project (λ (property : Named InputFiles). property.1.from) f (named_in c.args.files.now) c.loop-name.found.items c.loop-name.rest.now c.split_at.result.0.now c.split_at.result.1.now (map (λ e. (e.0, e.1.now)) c.loop-name.name-iterator) (map (λ e. (e.0, e.1.now)) c.next.new.self) x c.split_at.ensures.whole (c.split_at.ensures.first ∙ ap length c.as_slice.ensures) next left)))

pub loop-name-preserved : goal.loop-name-preserved
loop-name-preserved g c = record {
  kept = c.in_ok-read.ensures.kept ∙ c.loop-name.invariant.kept;
  within = back_all (λ (node : Node). node.number < length c.args.providers.now.nodes) c.split_at.result.0.now c.split_at.result.1.now (subst (AreWithin c.args.providers.now.nodes) (sym c.split_at.ensures.whole) c.loop-name.invariant.within);
  count =
      let x : Named InputFiles = (c.in-Some.name.now, c.in-Some.files.now.now) in
      left_counted c.split_at.result.0.now c.split_at.result.1.now c.loop-name.rest.now x.1.from (flat_map (λ (property : Named InputFiles). property.1.from) (map (λ e. (e.0, e.1.now)) c.next.new.self)) (flat_map (λ (property : Named InputFiles). property.1.from) (map (λ e. (e.0, e.1.now)) c.loop-name.name-iterator)) c.split_at.ensures.whole (c.split_at.ensures.first ∙ ap length c.as_slice.ensures) c.loop-name.invariant.count
      (ap (flat_map (λ (property : Named InputFiles). property.1.from)) (ap (map (λ e. (e.0, e.1.now))) c.in-Some.ensures.steps));
  patterns =
      others_of_all (λ (property : Named InputFiles). HasPatterns property.1) (c.in-Some.name.now, c.in-Some.files.now.now) (map (λ e. (e.0, e.1.now)) c.next.new.self)
      (subst HavePatterns (ap (map (λ e. (e.0, e.1.now))) c.in-Some.ensures.steps) c.loop-name.invariant.patterns);
  given = λ more.
      c.loop-name.invariant.given
      (subst (HaveValues g.T.Transforms.meanings c.args.providers.now.nodes) c.split_at.ensures.whole
      (All-append (λ (node : Node). HasValue g.T.Transforms.meanings c.args.providers.now.nodes node.number) c.split_at.result.0.now c.split_at.result.1.now (subst (λ p. HaveValues g.T.Transforms.meanings p.nodes c.split_at.result.0.now) c.loop-name.invariant.kept c.in_ok-read.ensures.given) more));
  reported = λ source number over at is are.
      let context = c.args.context.now in
      let tables = tables_of g.T.Transforms.meanings g.A.Actions.meanings context.tables.now in
      let f = files_under tables source at (spots tables source) (whole tables source) in
      let x : Named InputFiles = (c.in-Some.name.now, c.in-Some.files.now.now) in
      let next = ap (map (λ e. (e.0, e.1.now))) c.in-Some.ensures.steps in
      let left = c.loop-name.invariant.reported source number over at is are in
      let there = subst (λ p. IsOver tables source (known_names context.projects.now context.tasks.now) context.faults.now p.nodes number) (sym c.loop-name.invariant.kept) over in
      rows_go_on tables source number at.project (λ (property : Named InputFiles). property.1.from) f (named_in c.args.files.now) c.loop-name.found.items c.loop-name.rest.now c.split_at.result.0.now c.split_at.result.1.now (map (λ e. (e.0, e.1.now)) c.loop-name.name-iterator) (map (λ e. (e.0, e.1.now)) c.next.new.self) x c.split_at.ensures.whole (c.split_at.ensures.first ∙ ap length c.as_slice.ensures) next left c.in_ok-read.read c.push.new.self.items c.in_ok-push.ensures.items (c.in_ok-read.ensures.reported source number there at is (row_exists tables source number at.project (λ (property : Named InputFiles). property.1.from) f (named_in c.args.files.now) c.loop-name.found.items c.loop-name.rest.now c.split_at.result.0.now c.split_at.result.1.now (map (λ e. (e.0, e.1.now)) c.loop-name.name-iterator) (map (λ e. (e.0, e.1.now)) c.next.new.self) x c.split_at.ensures.whole (c.split_at.ensures.first ∙ ap length c.as_slice.ensures) next left));
}

pub returns-clause-given : goal.returns-clause-given
returns-clause-given g c =
    c.loop-name.invariant.given (none_of_all (λ (node : Node). HasValue g.T.Transforms.meanings c.args.providers.now.nodes node.number) c.loop-name.rest.now (c.loop-name.invariant.count ∙ ap (λ xs. length (flat_map (λ (property : Named InputFiles). property.1.from) (map (λ e. (e.0, e.1.now)) xs))) c.in-None.ensures.steps.0))

pub property-requires-clause-within : goal.property-requires-clause-within
property-requires-clause-within g c =
    subst (λ p. AreWithin p.nodes c.split_at.result.0.now) (sym c.loop-name.invariant.kept)
    (prefix_all (λ (node : Node). node.number < length c.args.providers.now.nodes) c.split_at.result.0.now c.split_at.result.1.now (subst (AreWithin c.args.providers.now.nodes) (sym c.split_at.ensures.whole) c.loop-name.invariant.within))

pub property-requires-clause-patterns : goal.property-requires-clause-patterns
property-requires-clause-patterns g c =
    first_of_all (λ (property : Named InputFiles). HasPatterns property.1) (c.in-Some.name.now, c.in-Some.files.now.now) (map (λ e. (e.0, e.1.now)) c.next.new.self)
    (subst HavePatterns (ap (map (λ e. (e.0, e.1.now))) c.in-Some.ensures.steps) c.loop-name.invariant.patterns)

pub returns-clause-reported : goal.returns-clause-reported
returns-clause-reported g c = λ source number over at is are.
    let context = c.args.context.now in
    let tables = tables_of g.T.Transforms.meanings g.A.Actions.meanings context.tables.now in
    let f = files_under tables source at (spots tables source) (whole tables source) in
    walk_ends f (named_in c.args.files.now) c.loop-name.found.items (map (λ e. (e.0, e.1.now)) c.loop-name.name-iterator) (ap (map (λ e. (e.0, e.1.now))) c.in-None.ensures.steps.0)
    (c.loop-name.invariant.reported source number over at is are).1
    ∙ ap Ok (sym c.from_vec.ensures)

pub loop-name-init : goal.loop-name-init
loop-name-init g c =
    let entries = sym (c.into_iter-name-iterator.ensures.into_iter_gives ∙ c.iter-name-items.ensures.rest) in
    record {
      kept = refl;
      within = c.requires.within;
      count = c.requires.count ∙ ap (λ es. length (flat_map (λ (property : Named InputFiles). property.1.from) (map (λ e. (e.0, e.1.now)) es))) entries;
      patterns = subst (λ es. HavePatterns (map (λ e. (e.0, e.1.now)) es)) entries c.requires.patterns;
      given = λ all. all;
      reported = λ source number over at is are.
          let tables = tables_of g.T.Transforms.meanings g.A.Actions.meanings c.args.context.now.tables.now in
          let f = files_under tables source at (spots tables source) (whole tables source) in
          subst (λ es. AreLeft tables source number at.project (λ (property : Named InputFiles). property.1.from) f (named_in c.args.files.now) c.new-found.result.items c.args.row.now (map (λ e. (e.0, e.1.now)) es)) entries
          (are, subst (λ ys. IsWalked f (named_in c.args.files.now) ys (named_in c.args.files.now)) (sym c.new-found.ensures.items) (walk_begins f (named_in c.args.files.now)));
    }
