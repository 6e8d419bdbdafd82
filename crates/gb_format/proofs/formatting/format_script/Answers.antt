use Rattle.std.proofs.Common.{string_bytes}
use Rattle.std.proofs.lemmas.Result.{IfOk-weaker}
use Rattle.std.proofs.lemmas.Str.{IsUtf8-string_bytes}
use Rattle.gb_script.specs.Grammar.{script_tokens}
use Rattle.gb_script.specs.Fits.{IsScript}
use Rattle.gb_format.specs.Shown.{IsWhole}
use Rattle.gb_format.proofs.Real.{script_real}
use Rattle.gb_format.proofs.Formats.{is_formatted, formatted_parses, read_whole}
use Rattle.gb_format.proofs.formatting.format_script.Goals as goal

pub formatted_bytes-requires-clause-whole : goal.formatted_bytes-requires-clause-whole
formatted_bytes-requires-clause-whole c = read_whole IsScript script_tokens script_real c.args.bytes.now c.in_ok-script.script c.in_ok-script.ensures.found

pub returns-clause-found : goal.returns-clause-found
returns-clause-found c =
    let whole : IsWhole c.args.bytes.now = read_whole IsScript script_tokens script_real c.args.bytes.now c.in_ok-script.script c.in_ok-script.ensures.found in
    IfOk-weaker c.formatted_bytes.result _ _ (λ out h. is_formatted c.args.bytes.now (string_bytes out) whole h.0) c.formatted_bytes.ensures.found

pub returns-clause-same : goal.returns-clause-same
returns-clause-same c =
    let whole : IsWhole c.args.bytes.now = read_whole IsScript script_tokens script_real c.args.bytes.now c.in_ok-script.script c.in_ok-script.ensures.found in
    IfOk-weaker c.formatted_bytes.result _ _ (λ out h. (c.in_ok-script.script, c.in_ok-script.ensures.found, formatted_parses IsScript script_tokens c.args.bytes.now (string_bytes out) whole h.0 h.1 (IsUtf8-string_bytes out) c.in_ok-script.script c.in_ok-script.ensures.found)) c.formatted_bytes.ensures.found
