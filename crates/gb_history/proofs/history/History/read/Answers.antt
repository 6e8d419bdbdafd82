use Rattle.std.proofs.Common.{◌≡◌, List, true≢false, ap, ap₂, sym, ◌∙◌}
use Rattle.std.specs.Prelude.{ℕ}
use Rattle.serde_json.specs.Written.{compact_text}
use Rattle.gb_history.specs.Record.{Record}
use Rattle.gb_history.specs.Text.{history_json, history_text_in, unsealed, IsHistoryText}
use Rattle.gb_history.specs.declared.fault.RecordFault.TheVariants.{OutOfMemory}
use Rattle.gb_history.proofs.Lists.{err_passes}
use Rattle.gb_history.proofs.Records.{take-sealed}
use Rattle.gb_history.proofs.history.History.read.Goals as goal

-- what the seal is of, is the JSON of the records
json_of : (bytes : List ℕ) (records : List (List ℕ × Record)) (of : IsHistoryText records bytes) → unsealed bytes ≡ compact_text (history_json of.edition records)
unfolding history_text_in
json_of bytes records of = ap unsealed of.same ∙ take-sealed (compact_text (history_json of.edition records))

pub returns-in_err-edition-clause-back : goal.returns-in_err-edition-clause-back
returns-in_err-edition-clause-back c records held of =
    let json : c.unsealed.result.now ≡ compact_text (history_json of.edition records) = c.unsealed.ensures ∙ json_of c.args.bytes.now records of in
    let reported : c.in_err-edition.field-0.0 ≡ OutOfMemory = c.in_err-edition.ensures.read of.edition records held of.fits json in
    err_passes c.from_residual.result (λ got. got ≡ records) (λ x. x ≡ OutOfMemory) (rw reported at c.from_residual.ensures.1)

pub returns-then-not-is_same-clause-back : goal.returns-then-not-is_same-clause-back
returns-then-not-is_same-clause-back c records held of =
    let json : c.unsealed.result.now ≡ compact_text (history_json of.edition records) = c.unsealed.ensures ∙ json_of c.args.bytes.now records of in
    let same = c.in_ok-edition.ensures.read of.edition records held of.fits json in
    let text : c.as_slice.result.now ≡ c.args.bytes.now = c.as_slice.ensures.value ∙ c.in_ok-text.ensures.text ∙ ap₂ history_text_in same.0 same.1 ∙ sym of.same in
    absurd (true≢false (sym (c.if-not-is_same.ensures.1 text)))

pub returns-clause-back : goal.returns-clause-back
returns-clause-back c records held of =
    let json : c.unsealed.result.now ≡ compact_text (history_json of.edition records) = c.unsealed.ensures ∙ json_of c.args.bytes.now records of in
    (c.in_ok-edition.ensures.read of.edition records held of.fits json).1
