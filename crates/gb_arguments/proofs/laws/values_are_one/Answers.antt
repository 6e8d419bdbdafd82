use Rattle.std.specs.FinMap.Entries.{same_entries}
use Rattle.std.proofs.Common.{sym, rules, ◌∙◌}
use Rattle.std.proofs.lemmas.Cmp.{nat_list_cmp_total}
use Rattle.gb_core.proofs.Found.{tied_same}
use Rattle.gb_core.specs.Lists.{byte_order}
use Rattle.gb_arguments.proofs.laws.values_are_one.Goals as goal

pub returns : goal.returns
returns c texts one other first second =
    same_entries byte_order nat_list_cmp_total tied_same one other
    (search rules) (search rules) (λ name. first.last name ∙ sym (second.last name))
