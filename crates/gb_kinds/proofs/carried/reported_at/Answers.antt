use Rattle.std.proofs.Common.{[], ap, sym, ◌∙◌, unwrap_or}
use Rattle.std.specs.Option.{option_copied, option_map}
use Rattle.gb_kinds.proofs.WordFiles.{file_in, items}
use Rattle.gb_kinds.proofs.carried.reported_at.Goals as goal

pub returns-in-Some : goal.returns-in-Some
returns-in-Some c =
    c.as_slice.ensures.value
    ∙ ap (λ o. unwrap_or (option_map items (option_copied o)) []) (sym c.in-Some.is)
    ∙ ap (λ o. unwrap_or (option_map items o) []) c.get.ensures.value
    ∙ ap (λ o. unwrap_or o []) (sym (file_in c.args.word.now c.args.index.now))

pub returns-in-None : goal.returns-in-None
returns-in-None c =
    ap (λ o. unwrap_or (option_map items (option_copied o)) []) (sym c.in-None.is)
    ∙ ap (λ o. unwrap_or (option_map items o) []) c.get.ensures.value
    ∙ ap (λ o. unwrap_or o []) (sym (file_in c.args.word.now c.args.index.now))
