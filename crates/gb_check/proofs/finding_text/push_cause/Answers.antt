use Rattle.std.proofs.Common.{◌++◌, codes, string_bytes, ap, sym, ◌∙◌}
use Rattle.std.proofs.lemmas.Result.{IfOk-weaker}
use Rattle.gb_check.specs.Found.{cause_text}
use Rattle.gb_check.specs.declared.findings.Problem.{Problem}
use Rattle.gb_check.proofs.Rows.{four_parts, five_parts}
use Rattle.gb_check.proofs.finding_text.push_cause.Goals as goal

pub returns-in-Shared : goal.returns-in-Shared
returns-in-Shared c =
    IfOk-weaker c.write-in-Shared.result _ _
    (λ _ is. four_parts (string_bytes c.args.text.now) c.in-Shared.first (codes " and ") c.in-Shared.second (codes " read one folder") (string_bytes c.write-in-Shared.new.self) is ∙ ap (λ (cause : Problem). string_bytes c.args.text.now ++ cause_text cause) (sym c.in-Shared.is))
    c.write-in-Shared.ensures.bytes

pub returns-in-Unneeded : goal.returns-in-Unneeded
returns-in-Unneeded c =
    IfOk-weaker c.write-in-Unneeded.result _ _
    (λ _ is. four_parts (string_bytes c.args.text.now) c.in-Unneeded.root (codes " overlaps an output of ") c.in-Unneeded.maker (codes ", which is not needed directly") (string_bytes c.write-in-Unneeded.new.self) is ∙ ap (λ (cause : Problem). string_bytes c.args.text.now ++ cause_text cause) (sym c.in-Unneeded.is))
    c.write-in-Unneeded.ensures.bytes

pub returns-in-Stale : goal.returns-in-Stale
returns-in-Stale c =
    IfOk-weaker c.write-in-Stale.result _ _
    (λ _ is. five_parts (string_bytes c.args.text.now) (codes "where ") c.in-Stale.maker (codes " is skipped, ") c.in-Stale.reader (codes " reads its old output") (string_bytes c.write-in-Stale.new.self) is ∙ ap (λ (cause : Problem). string_bytes c.args.text.now ++ cause_text cause) (sym c.in-Stale.is))
    c.write-in-Stale.ensures.bytes

pub returns-in-Unread : goal.returns-in-Unread
returns-in-Unread c =
    IfOk-weaker c.write-in-Unread.result _ _
    (λ _ is. is ∙ ap (λ (cause : Problem). string_bytes c.args.text.now ++ cause_text cause) (sym c.in-Unread.is))
    c.write-in-Unread.ensures.bytes

pub returns-in-Unregistered : goal.returns-in-Unregistered
returns-in-Unregistered c =
    IfOk-weaker c.write-in-Unregistered.result _ _
    (λ _ is. is ∙ ap (λ (cause : Problem). string_bytes c.args.text.now ++ cause_text cause) (sym c.in-Unregistered.is))
    c.write-in-Unregistered.ensures.bytes
