use Rattle.std.proofs.Common.{◌≡◌, Some, Ok, ap}
use Rattle.hex.specs.Hex.{encode_lower, decode_sized}
use Rattle.hex.proofs.HexLemmas.{decode_sized-encode_lower}
use Rattle.serde_json.specs.Find.{as_str}
use Rattle.serde_json.specs.View.{view}
use Rattle.gb_history.proofs.Lists.{IsBytes-all}
use Rattle.gb_history.proofs.from_json.digest_from.Goals as goal

pub returns-in-Ok : goal.returns-in-Ok
returns-in-Ok c digest len small e =
    let said : as_str (view c.args.json.now) ≡ Some (encode_lower digest) = ap as_str e in
    let text : c.in-Some.text.now ≡ encode_lower digest = cc (said, c.in-Some.ensures) in
    let back : decode_sized c.in-Some.text.now 32 ≡ Ok digest = rw text (decode_sized-encode_lower digest 32 len (IsBytes-all digest small)) in
    let same : c.in-Ok.digest ≡ digest = cc (back, c.in-Ok.ensures) in
    ap Ok same

pub returns-in-Err : goal.returns-in-Err
returns-in-Err c digest len small e =
    let said : as_str (view c.args.json.now) ≡ Some (encode_lower digest) = ap as_str e in
    let text : c.in-Some.text.now ≡ encode_lower digest = cc (said, c.in-Some.ensures) in
    let back : decode_sized c.in-Some.text.now 32 ≡ Ok digest = rw text (decode_sized-encode_lower digest 32 len (IsBytes-all digest small)) in
    absurd (cc (back, c.in-Err.ensures))
