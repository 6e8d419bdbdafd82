use Rattle.std.proofs.Common.{◌∙◌, ap, sym, map, string_bytes}
use Rattle.gb_core.specs.Lists.{no_repeats}
use Rattle.gb_table.proofs.Tables.{no_repeats-named}
use Rattle.gb_table.proofs.table.NamedTable.names_are_unique.Goals as goal

pub returns : goal.returns
returns g c =
    ap (λ entries. no_repeats (map (λ entry. entry.0) entries)) (sym c.self.view_is)
    ∙ no_repeats-named string_bytes c.self.inside.entries.entries c.len-count.ensures.unique
