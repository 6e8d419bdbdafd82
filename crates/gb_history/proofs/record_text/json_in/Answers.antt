use Rattle.std.proofs.Common.{◌≡◌, ℕ, List, Some, IsUtf8, ap, subst, sym, ◌∙◌}
use Rattle.std.specs.List.{AllByRecursion}
use Rattle.serde_json.specs.View.{view}
use Rattle.serde_json.specs.Read.{read}
use Rattle.serde_json.specs.Written.{compact_text}
use Rattle.gb_history.specs.Record.{Record, IsSaid}
use Rattle.gb_history.specs.Text.{history_json}
use Rattle.gb_history.specs.declared.record.Edition.{Edition}
use Rattle.gb_history.specs.declared.fault.RecordFault.TheVariants.{OutOfMemory}
use Rattle.gb_history.proofs.Lists.{err_passes}
use Rattle.gb_history.proofs.Records.{IsUtf8-history, read-history}
use Rattle.gb_history.proofs.record_text.json_in.Goals as goal

utf8 : (json : List ℕ) (edition : Edition) (records : List (List ℕ × Record)) → AllByRecursion IsSaid records → json ≡ compact_text (history_json edition records) → IsUtf8 json
utf8 json edition records said e = subst IsUtf8 (sym e) (IsUtf8-history edition records said)

reads : (json : List ℕ) (edition : Edition) (records : List (List ℕ × Record)) → AllByRecursion IsSaid records → json ≡ compact_text (history_json edition records)
    → read json ≡ Some (history_json edition records)
reads json edition records said e = ap read e ∙ read-history edition records said

pub returns-in_err-json : goal.returns-in_err-json
returns-in_err-json c edition records said e =
    let reported : c.in_err-json.field-0.0 ≡ OutOfMemory =
    c.in_err-json.ensures (history_json edition records) (utf8 _ edition records said e) (reads _ edition records said e) in
    err_passes c.from_residual.result _ (λ x. x ≡ OutOfMemory) (rw reported at c.from_residual.ensures.1)

pub returns-in_default : goal.returns-in_default
returns-in_default c edition records said e =
    let value : view c.in_ok-json.json ≡ history_json edition records =
    c.in_ok-json.ensures _ (utf8 _ edition records said e) (reads _ edition records said e) in
    absurd (cc (c.in_default.ensures edition records value))

pub returns : goal.returns
returns c edition records said e =
    let value : view c.in_ok-json.json ≡ history_json edition records =
    c.in_ok-json.ensures _ (utf8 _ edition records said e) (reads _ edition records said e) in
    let same : c.in-Some.edition ≡ edition = cc (c.in-Some.ensures edition records value) in (same, value)
