use Rattle.gb_history.proofs.Records.{IsUtf8-digest}
use Rattle.gb_history.proofs.to_json.write_digest.Goals as goal

pub unreachable-requires : goal.unreachable-requires
unreachable-requires c = c.in_default.ensures.cases.0 (rw c.digits_of-digits.ensures (IsUtf8-digest c.args.digest.now))
