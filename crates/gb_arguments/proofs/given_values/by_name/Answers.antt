use Rattle.std.proofs.Common.{◌∙◌, ap, ◌++◌, ◌+◌, drop, sym, subst}
use Rattle.std.proofs.lemmas.Map.Views.{All-keys-insert_entry}
use Rattle.std.specs.List.{flat_map}
use Rattle.std.specs.Prelude.{All, IsTrue}
use Rattle.gb_core.specs.Lists.{byte_order}
use Rattle.gb_core.specs.Name.{is_name}
use Rattle.gb_arguments.specs.Values.{names_of, part_faults, texts_after}
use Rattle.gb_arguments.proofs.Firsts.{first_among, reported_on}
use Rattle.gb_arguments.proofs.LastOf.{faults_left, last_more, length-put}
use Rattle.gb_arguments.proofs.given_values.by_name.Goals as goal

pub loop-text-preserved : goal.loop-text-preserved
loop-text-preserved c =
    let texts = c.args.texts.now in
    let i = c.loop-text.text-index in
    let rest = flat_map part_faults (texts_after (drop (i + 1) texts)) in
    let added = c.in_ok-put.ensures.put in
    record {
      last = last_more texts i _ c.loop-text-test.true _ _ added c.loop-text.invariant.last;
      names = subst (λ es. All (λ name. IsTrue (is_name name)) (names_of es)) (sym added)
          (All-keys-insert_entry byte_order _ _ (λ name. IsTrue (is_name name)) _ c.loop-text.invariant.names c.in_ok-put.ensures.name);
      most = length-put texts i _ c.loop-text-test.true _ _ added c.loop-text.invariant.most;
      faults = c.loop-text.invariant.faults ∙ faults_left texts i _ c.loop-text-test.true ∙ ap (λ fs. fs ++ rest) c.in_ok-put.ensures.faults;
    }

pub returns-in_err-put-clause-faults : goal.returns-in_err-put-clause-faults
returns-in_err-put-clause-faults c =
    let texts = c.args.texts.now in
    let i = c.loop-text.text-index in
    reported_on _ _ c.in_err-put.field-0.0 c.from_residual.ensures.1
    (first_among _ (flat_map part_faults (texts_after (drop (i + 1) texts))) _ _
    (c.loop-text.invariant.faults ∙ faults_left texts i _ c.loop-text-test.true) c.in_err-put.ensures.faults)
