use Rattle.std.proofs.Common.{◌≡◌, true, subst, sym}
use Rattle.std.proofs.lemmas.List.Filters.{dedup_is, All-dedup}
use Rattle.std.proofs.lemmas.List.Kept.{IsStrictlySortedBy-dedup}
use Rattle.std.proofs.lemmas.List.Sorted.{All-permutation}
use Rattle.std.specs.Cmp.Lexicographic.{nat_list_cmp_total, texts_ties}
use Rattle.std.specs.List.Sorted.{IsStrictlySortedBy}
use Rattle.gb_core.specs.Place.{is_under}
use Rattle.gb_disk.specs.Disk.{AllUnder}
use Rattle.gb_core.specs.Lists.{byte_order}
use Rattle.gb_disk.proofs.entries.in_order.Goals as goal

pub returns : goal.returns
returns c =
    let kept = dedup_is _ _ _ c.dedup.ensures.filtered in
    record {
      under = λ root all. subst (AllUnder root) (sym kept)
          (All-dedup _ (λ place. is_under place root ≡ true) _ (All-permutation (λ place. is_under place root ≡ true) _ _ c.sort_unstable.ensures.permutation all));
      ordered = subst (IsStrictlySortedBy byte_order) (sym kept)
          (IsStrictlySortedBy-dedup nat_list_cmp_total texts_ties _ c.sort_unstable.ensures.sorted);
    }
