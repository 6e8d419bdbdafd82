use Rattle.std.proofs.Common.{◌≡◌, ◌++◌, refl, ap, sym, ◌∙◌}
use Rattle.serde_json.specs.Written.{compact_text}
use Rattle.sha2.specs.Sha256.{sha256}
use Rattle.gb_history.specs.Text.{history_text_in, record_json, seal, unsealed}
use Rattle.gb_history.specs.declared.record.Edition.TheVariants.{Second}
use Rattle.gb_history.proofs.record_text.RecordReader.read_directly.Goals as goal

pub returns-then-is_same-clause-exact : goal.returns-then-is_same-clause-exact
unfolding history_text_in
returns-then-is_same-clause-exact c =
    let bytes = c.args.bytes.now in
    let json : unsealed bytes ≡ compact_text (record_json Second c.args.path.now c.in_ok-found.found) =
    sym c.unsealed-json.ensures ∙ sym (c.if-is_same.ensures.0 refl) ∙ c.as_slice.ensures.value ∙ c.in-Ok.ensures.json in
    c.if-not-has_seal.ensures refl ∙ ap (λ d. unsealed bytes ++ seal d) c.requires ∙ ap (λ j. j ++ seal (sha256 j)) json
