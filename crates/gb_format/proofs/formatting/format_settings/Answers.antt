use Rattle.std.proofs.Common.{string_bytes}
use Rattle.std.proofs.lemmas.Result.{IfOk-weaker}
use Rattle.std.proofs.lemmas.Str.{IsUtf8-string_bytes}
use Rattle.gb_script.specs.Grammar.{settings_tokens}
use Rattle.gb_script.specs.Fits.{IsSettings}
use Rattle.gb_format.specs.Shown.{IsWhole}
use Rattle.gb_format.proofs.Real.{settings_real}
use Rattle.gb_format.proofs.Formats.{is_formatted, formatted_parses, read_whole}
use Rattle.gb_format.proofs.formatting.format_settings.Goals as goal

pub formatted_bytes-requires-clause-whole : goal.formatted_bytes-requires-clause-whole
formatted_bytes-requires-clause-whole c = read_whole IsSettings settings_tokens settings_real c.args.bytes.now c.in_ok-settings.settings c.in_ok-settings.ensures.found

pub returns-clause-found : goal.returns-clause-found
returns-clause-found c =
    let whole : IsWhole c.args.bytes.now = read_whole IsSettings settings_tokens settings_real c.args.bytes.now c.in_ok-settings.settings c.in_ok-settings.ensures.found in
    IfOk-weaker c.formatted_bytes.result _ _ (λ out h. is_formatted c.args.bytes.now (string_bytes out) whole h.0) c.formatted_bytes.ensures.found

pub returns-clause-same : goal.returns-clause-same
returns-clause-same c =
    let whole : IsWhole c.args.bytes.now = read_whole IsSettings settings_tokens settings_real c.args.bytes.now c.in_ok-settings.settings c.in_ok-settings.ensures.found in
    IfOk-weaker c.formatted_bytes.result _ _ (λ out h. (c.in_ok-settings.settings, c.in_ok-settings.ensures.found, formatted_parses IsSettings settings_tokens c.args.bytes.now (string_bytes out) whole h.0 h.1 (IsUtf8-string_bytes out) c.in_ok-settings.settings c.in_ok-settings.ensures.found)) c.formatted_bytes.ensures.found
