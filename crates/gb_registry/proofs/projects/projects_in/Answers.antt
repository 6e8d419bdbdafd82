use Rattle.std.proofs.Common.{◌++◌, ◌∙◌, sym, ap, ◌+◌, drop}
use Rattle.std.specs.List.{flat_map}
use Rattle.gb_registry.specs.Projects.{included, lineage_of, settings_faults, texts_faults, with_paths}
use Rattle.gb_registry.proofs.Firsts.{first_among, reported_on}
use Rattle.gb_registry.proofs.Lineages.{include_faults, include_left, include_paths}
use Rattle.gb_registry.proofs.projects.projects_in.Goals as goal

pub loop-texts-preserved : goal.loop-texts-preserved
loop-texts-preserved c =
    let there = c.loop-texts.projects in
    let after = c.include_all.new.projects in
    let includes = c.args.includes.now in
    let i = c.loop-texts.texts-index in
    let texts = c.texts-item.result in
    let added = c.in_ok-include_all.ensures.ok ∙ ap (λ ts. with_paths there (flat_map lineage_of ts)) c.as_slice.ensures in
    let none = ap (texts_faults there) (sym c.as_slice.ensures) ∙ c.in_ok-include_all.ensures.faults in
    record {
      paths = c.loop-texts.invariant.paths ∙ include_paths there after includes i texts c.loop-texts-test.true c.texts-item.is added;
      faults = c.loop-texts.invariant.faults ∙ include_left there after includes i texts c.loop-texts-test.true c.texts-item.is added none;
    }

pub returns-in_err-include_all-clause-faults : goal.returns-in_err-include_all-clause-faults
returns-in_err-include_all-clause-faults c =
    let there = c.loop-texts.projects in
    let includes = c.args.includes.now in
    let i = c.loop-texts.texts-index in
    let texts = c.texts-item.result in
    let fault = c.in_err-include_all.field-0.0 in
    let given = c.as_slice.result.now in
    let whole =
    c.loop-texts.invariant.faults ∙ include_faults there there includes i texts c.loop-texts-test.true c.texts-item.is
    ∙ ap (λ ts. texts_faults there ts ++ texts_faults (with_paths there (flat_map lineage_of texts)) (included (drop (i + 1) includes))) (sym c.as_slice.ensures) in
    reported_on (settings_faults includes) _ fault c.from_residual-in_err-include_all.ensures.1
    (first_among (texts_faults there given) (texts_faults (with_paths there (flat_map lineage_of texts)) (included (drop (i + 1) includes))) _ fault whole c.in_err-include_all.ensures.faults)
