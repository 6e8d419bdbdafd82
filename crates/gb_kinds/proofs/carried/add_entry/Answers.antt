use Rattle.std.proofs.Common.{◌≢◌, [], length, Some, sym, ap, ◌∙◌, bytes_eq, if◌then◌else◌, true≢false}
use Rattle.std.specs.Option.{option_or}
use Rattle.gb_action.specs.Files.{file_at}
use Rattle.gb_kinds.specs.Words.{index_files}
use Rattle.gb_kinds.proofs.Carrying.{filled}
use Rattle.gb_kinds.proofs.WordFiles.{file_put, ordered}
use Rattle.gb_kinds.proofs.carried.add_entry.Goals as goal

pub returns-in_ok-insert-clause-ordered : goal.returns-in_ok-insert-clause-ordered
returns-in_ok-insert-clause-ordered c = ordered c.insert.new.self.entries c.in_ok-insert.ensures.ordered

pub returns-in_ok-insert-clause-entries : goal.returns-in_ok-insert-clause-entries
returns-in_ok-insert-clause-entries c = λ other.
    let before = index_files c.args.index.now in
    let some : c.args.lines.now.keys ≢ [] = λ none. true≢false (sym (c.is_empty.ensures.1 (ap length none)) ∙ c.if-not-is_empty.true) in
    file_put c.args.word.now c.args.index.now c.insert.new.self c.in_ok-copy.field-0 c.in_ok-reported.reported c.in_ok-copy.ensures c.in_ok-insert.ensures.updates.0 other
    ∙ ap (λ o. if bytes_eq c.args.word.now other then o else file_at before other)
    (ap Some c.in_ok-reported.ensures.bytes ∙ ap (λ o. option_or o (file_at before other)) (sym (filled c.args.lines.now.keys some)))
