use Rattle.std.proofs.Common.{arith, ◌≡◌, ℕ, List, IsTrue, IfErr, inl, inr, map, sym, ap, subst, ◌∙◌}
use Rattle.std.proofs.lemmas.Result.{err_from_is_err_and}
use Rattle.std.specs.List.{AllByRecursion, AllZip, zip}
use Rattle.gb_folder.specs.Files.{Place}
use Rattle.gb_tree.specs.declared.fault.TreeFault.TheVariants as faults
use Rattle.gb_tree.specs.Answered.{IsStartListed, listed_in}
use Rattle.gb_tree.specs.Property.{distinct, doubled, entry_faults, in_order, is_under_any, paths_of, places_of, starts_in}
use Rattle.gb_tree.specs.Tree.{Entries, IsRefused}
use Rattle.gb_tree.proofs.Blame.{blamed_before}
use Rattle.gb_tree.proofs.Found.{distinct_under}
use Rattle.gb_tree.proofs.Holding.{all_wider}
use Rattle.gb_tree.proofs.Listing.{doubled_first, few_in_order, found_refused, in_their_order, only_doubled}
use Rattle.gb_tree.proofs.Refused.{at_err}
use Rattle.gb_tree.proofs.Sorting.{all_in_order}
use Rattle.gb_tree.proofs.Starting.{beneath_roots}
use Rattle.gb_tree.proofs.entries.entries_of.Goals as goal

-- the starts are those of the roots, each once
these : (include : List (List ℕ)) (roots kept : List Place) → kept ≡ distinct roots → starts_in include kept ≡ starts_in include (distinct roots)
these include roots kept once = ap (starts_in include) once

-- under one of the starts is under one of the roots
of_roots : (include : List (List ℕ)) (roots : List Place) (starts : List (Place × Place)) → starts ≡ starts_in include (distinct roots) → (at : Place) → IsTrue (is_under_any (places_of starts) at) → IsTrue (is_under_any roots at)
of_roots include roots starts same at h =
    distinct_under roots at (beneath_roots include (distinct roots) at (subst (λ (starts : List (Place × Place)). IsTrue (is_under_any (places_of starts) at)) same h))

pub returns-in_err-entries-clause-blame : goal.returns-in_err-entries-clause-blame
returns-in_err-entries-clause-blame g c =
    let p = err_from_is_err_and c.from_residual-in_err-entries.result c.from_residual-in_err-entries.ensures.1 in
    let starts = (starts_in c.args.include.now c.as_slice.result.now) in
    let roots = c.args.roots.now in
    blamed_before (λ at. IsTrue (is_under_any (places_of starts) at)) (λ at. IsTrue (is_under_any roots at)) _ _ _ _ c.in_err-entries.field-0.0 p.0 (omega arith) c.in_err-entries.ensures.reads.requests.count p.1 p.2
    (of_roots c.args.include.now roots starts (these c.args.include.now c.args.roots.now c.as_slice.result.now (c.as_slice.ensures.value ∙ c.in_ok-roots.ensures))) c.in_err-entries.ensures.blame

pub returns-in_err-entries-clause-err : goal.returns-in_err-entries-clause-err
returns-in_err-entries-clause-err g c = λ faithful.
    let p = err_from_is_err_and c.from_residual-in_err-entries.result c.from_residual-in_err-entries.ensures.1 in
    let failures = g.F.Folder.device.failures in
    let old = g.F.Folder.device.contents c.args.folder.now in
    let name = c.args.name.now in
    let roots = c.args.roots.now in
    let include = c.args.include.now in
    let exclude = c.args.exclude.now in
    at_err (λ r. IfErr r (λ fault. IsRefused (failures c.args.folder.now) (failures c.found_few.new.folder) (entry_faults name c.args.naming roots include exclude old) fault)) c.from_residual-in_err-entries.result p.0 c.in_err-entries.field-0.0 p.1 p.2
    (found_refused name c.args.naming roots include exclude old (starts_in c.args.include.now c.as_slice.result.now) (these c.args.include.now c.args.roots.now c.as_slice.result.now (c.as_slice.ensures.value ∙ c.in_ok-roots.ensures)) _ _ _ (c.in_err-entries.ensures.err faithful))

pub returns-in_err-check_doubled-clause-err : goal.returns-in_err-check_doubled-clause-err
returns-in_err-check_doubled-clause-err g c = λ faithful.
    let p = err_from_is_err_and c.from_residual-in_err-check_doubled.result c.from_residual-in_err-check_doubled.ensures.1 in
    let failures = g.F.Folder.device.failures in
    let old = g.F.Folder.device.contents c.args.folder.now in
    let name = c.args.name.now in
    let roots = c.args.roots.now in
    let include = c.args.include.now in
    let exclude = c.args.exclude.now in
    let same = these c.args.include.now c.args.roots.now c.as_slice.result.now (c.as_slice.ensures.value ∙ c.in_ok-roots.ensures) in
    let starts = (starts_in c.args.include.now c.as_slice.result.now) in
    let sorted = c.as_slice-2.result.now in
    at_err (λ r. IfErr r (λ fault. IsRefused (failures c.args.folder.now) (failures c.found_few.new.folder) (entry_faults name c.args.naming roots include exclude old) fault)) c.from_residual-in_err-check_doubled.result p.0 c.in_err-check_doubled.field-0.0 p.1 p.2
    (elim c.in_err-check_doubled.ensures.err [
      | inl none ↦ inl (inl none)
      | inr found ↦ inr (doubled_first name c.args.naming roots include exclude old starts same sorted found.0 _
          (only_doubled name c.args.naming roots include exclude old starts same c.in_ok-entries.entries.items sorted
          (c.in_ok-entries.ensures.none_special faithful) (c.in_ok-entries.ensures.found faithful) c.in_ok-entries.ensures.few (c.as_slice-2.ensures.value ∙ c.sort.ensures.sorted))
          found.1 found.2)
    ])

pub returns-clause-under : goal.returns-clause-under
returns-clause-under g c =
    let roots = c.args.roots.now in
    let starts = (starts_in c.args.include.now c.as_slice.result.now) in
    let entries : Entries = c.in_ok-entries.entries.items in
    subst (λ (es : Entries). AllByRecursion (λ entry. IsTrue (is_under_any roots entry.1)) es) (sym c.sort.ensures.sorted)
    (all_in_order _ entries (all_wider (λ (entry : List ℕ × Place). IsTrue (is_under_any (places_of starts) entry.1)) (λ (entry : List ℕ × Place). IsTrue (is_under_any roots entry.1)) entries
    (λ entry. of_roots c.args.include.now roots starts (these c.args.include.now c.args.roots.now c.as_slice.result.now (c.as_slice.ensures.value ∙ c.in_ok-roots.ensures)) entry.1) c.in_ok-entries.ensures.under))

pub returns-clause-listed : goal.returns-clause-listed
returns-clause-listed g c =
    let reported = c.in_ok-entries.ensures.answered in
    let naming = c.args.naming in
    let include = c.args.include.now in
    let exclude = c.args.exclude.now in
    let same = these c.args.include.now c.args.roots.now c.as_slice.result.now (c.as_slice.ensures.value ∙ c.in_ok-roots.ensures) in
    record {
      listings = reported.0;
      listed = subst (λ (starts : List (Place × Place)). AllZip (IsStartListed g.F.Folder.device c.args.folder.now c.found_few.new.folder) starts reported.0) same reported.1;
      are = c.sort.ensures.sorted ∙ ap in_order (reported.2 ∙ ap (λ (starts : List (Place × Place)). listed_in naming include exclude (zip starts reported.0)) same);
      few = few_in_order c.args.name.now c.in_ok-entries.entries.items _ c.in_ok-entries.ensures.few c.sort.ensures.sorted;
      single = ap (λ (es : Entries). doubled (paths_of es)) (sym c.as_slice-2.ensures.value) ∙ c.in_ok-check_doubled.ensures.fit;
    }

pub returns-clause-entries : goal.returns-clause-entries
returns-clause-entries g c = λ faithful.
    c.sort.ensures.sorted ∙ ap in_order (c.in_ok-entries.ensures.found faithful)
    ∙ in_their_order c.args.name.now c.args.naming c.args.roots.now c.args.include.now c.args.exclude.now (g.F.Folder.device.contents c.args.folder.now) (starts_in c.args.include.now c.as_slice.result.now) (these c.args.include.now c.args.roots.now c.as_slice.result.now (c.as_slice.ensures.value ∙ c.in_ok-roots.ensures))

pub returns-clause-fit : goal.returns-clause-fit
returns-clause-fit g c = λ faithful.
    only_doubled c.args.name.now c.args.naming c.args.roots.now c.args.include.now c.args.exclude.now (g.F.Folder.device.contents c.args.folder.now) (starts_in c.args.include.now c.as_slice.result.now) (these c.args.include.now c.args.roots.now c.as_slice.result.now (c.as_slice.ensures.value ∙ c.in_ok-roots.ensures))
    c.in_ok-entries.entries.items c.as_slice-2.result.now (c.in_ok-entries.ensures.none_special faithful) (c.in_ok-entries.ensures.found faithful) c.in_ok-entries.ensures.few (c.as_slice-2.ensures.value ∙ c.sort.ensures.sorted)
    ∙ ap (map (faults.DuplicateInput c.args.name.now)) c.in_ok-check_doubled.ensures.fit
