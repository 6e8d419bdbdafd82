use Rattle.std.proofs.Common.{◌≡◌, ◌∙◌, ap, ap₂, codes, true, Some, rules}
use Rattle.std.proofs.lemmas.Result.{IfOk-weaker}
use Rattle.clap.specs.Simple.{App, app_of, app_of_fields, new_app, new_rule, on_top, with_rule}
use Rattle.clap.specs.Walk.{Rule, rule_of}
use Rattle.clap.specs.declared.builder.action.ArgAction.TheVariants.{Append}
use Rattle.gb_arguments.specs.Command.{flag}
use Rattle.gb_arguments.proofs.arguments.command.Goals as goal

abbrev with_no_name : App → App
with_no_name = on_top (λ s. record s { no_binary_name = true })

abbrev with_no_help : App → App
with_no_help = on_top (λ s. record s { disable_help_flag = true })

abbrev with_no_version : App → App
with_no_version = on_top (λ s. record s { disable_version_flag = true })

abbrev with_short : Rule → Rule
with_short rule = record rule { short = Some 109 }

abbrev task : Rule
task = record (new_rule (codes "task")) { action = Some Append }

pub returns : goal.returns
returns c =
    let no_name : app_of c.no_binary_name.result ≡ with_no_name (new_app (codes "gb")) =
    ap app_of_fields c.no_binary_name.ensures ∙ ap with_no_name c.new.ensures.app in
    let no_help : app_of c.disable_help_flag.result ≡ with_no_help (with_no_name (new_app (codes "gb"))) =
    ap app_of_fields c.disable_help_flag.ensures ∙ ap with_no_help no_name in
    let no_version : app_of c.disable_version_flag.result ≡ with_no_version (with_no_help (with_no_name (new_app (codes "gb")))) =
    ap app_of_fields c.disable_version_flag.ensures ∙ ap with_no_version no_help in
    let dry_run : rule_of c.short.result ≡ flag (codes "dry-run") (Some 109) (codes "dry-run") =
    ap rule_of c.short.ensures ∙ ap with_short c.flag-3.ensures.rule in
    let tasks : rule_of c.action.result ≡ task = search rules in
    let one = c.in_ok-arg.ensures.shape c.valued.ensures.own ∙ ap₂ with_rule no_version c.valued.ensures.rule in
    let two = c.in_ok-arg-2.ensures.shape c.valued-2.ensures.own ∙ ap₂ with_rule one c.valued-2.ensures.rule in
    let three = c.in_ok-arg-3.ensures.shape c.flag.ensures.own ∙ ap₂ with_rule two c.flag.ensures.rule in
    let four = c.in_ok-arg-4.ensures.shape c.flag-2.ensures.own ∙ ap₂ with_rule three c.flag-2.ensures.rule in
    let five = c.in_ok-arg-5.ensures.shape (search rules) ∙ ap₂ with_rule four dry_run in
    IfOk-weaker c.arg-6.result _ _ (λ all added. added.shape (search rules) ∙ ap₂ with_rule five tasks) c.arg-6.ensures
