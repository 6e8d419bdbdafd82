use Rattle.std.proofs.Common.{◌≡◌, List, true≢false, ap, ap₂, sym, ◌∙◌}
use Rattle.std.specs.Prelude.{ℕ}
use Rattle.serde_json.specs.Written.{compact_text}
use Rattle.gb_history.specs.Record.{Record}
use Rattle.gb_history.specs.Text.{record_json, text_in, history_text_in, unsealed, IsTextOf}
use Rattle.gb_history.specs.declared.fault.RecordFault.TheVariants.{OutOfMemory}
use Rattle.gb_history.proofs.Lists.{err_passes}
use Rattle.gb_history.proofs.Records.{take-sealed}
use Rattle.gb_history.proofs.record_text.read_by_tree.Goals as goal

-- what the seal is of, is the JSON of the record
json_of : (bytes path : List ℕ) (run : Record) (of : IsTextOf path run bytes) → unsealed bytes ≡ compact_text (record_json of.edition path run)
unfolding history_text_in
json_of bytes path run of = ap unsealed of.same ∙ take-sealed (compact_text (record_json of.edition path run))

pub returns-in_err-edition-clause-back : goal.returns-in_err-edition-clause-back
returns-in_err-edition-clause-back c run u h of =
    let path = c.args.path.now in
    let json : c.unsealed.result.now ≡ compact_text (record_json of.edition path run) = c.unsealed.ensures ∙ json_of c.args.bytes.now path run of in
    let reported : c.in_err-edition.field-0.0 ≡ OutOfMemory = c.in_err-edition.ensures.read of.edition path run u h of.fits json in
    err_passes c.from_residual.result (λ got. got ≡ run) (λ x. x ≡ OutOfMemory) (rw reported at c.from_residual.ensures.1)

pub returns-then-not-is_same-clause-back : goal.returns-then-not-is_same-clause-back
returns-then-not-is_same-clause-back c run u h of =
    let path = c.args.path.now in
    let json : c.unsealed.result.now ≡ compact_text (record_json of.edition path run) = c.unsealed.ensures ∙ json_of c.args.bytes.now path run of in
    let same = c.in_ok-edition.ensures.read of.edition path run u h of.fits json in
    let text : c.as_slice.result.now ≡ c.args.bytes.now = c.as_slice.ensures.value ∙ c.in_ok-text.ensures.text ∙ ap₂ (λ x r. text_in x path r) same.0 same.1 ∙ sym of.same in
    absurd (true≢false (sym (c.if-not-is_same.ensures.1 text)))

pub returns-clause-back : goal.returns-clause-back
returns-clause-back c run u h of =
    let path = c.args.path.now in
    let json : c.unsealed.result.now ≡ compact_text (record_json of.edition path run) = c.unsealed.ensures ∙ json_of c.args.bytes.now path run of in
    (c.in_ok-edition.ensures.read of.edition path run u h of.fits json).1
