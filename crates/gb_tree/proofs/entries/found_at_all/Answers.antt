use Rattle.std.proofs.Common.{arith, ◌≡◌, ◌+◌, ◌++◌, [], ◌∷◌, ℕ, List, IfErr, IsTrue, length, sym, ◌∙◌, ap, subst}
use Rattle.std.proofs.lemmas.List.{length-take}
use Rattle.std.proofs.lemmas.Result.{err_from_is_err_and}
use Rattle.std.specs.List.{AllByRecursion, AllZip, zip}
use Rattle.gb_core.specs.Place.{is_under}
use Rattle.gb_folder.specs.Files.{Contents, Place}
use Rattle.gb_folder.specs.Limits.{max_files}
use Rattle.gb_folder.proofs.Asked.{requests_then}
use Rattle.gb_tree.specs.Answered.{IsStartListed, listed_in}
use Rattle.gb_tree.specs.Property.{found_from, held, is_under_any, places_of, starts_in}
use Rattle.gb_tree.specs.Tree.{Entries, IsRefused, special_roots}
use Rattle.gb_tree.specs.declared.fault.TreeFault.{TreeFault}
use Rattle.gb_tree.proofs.Blame.{blamed_before}
use Rattle.gb_tree.proofs.Holding.{all_append, all_take, all_wider}
use Rattle.gb_tree.proofs.Refused.{at_err}
use Rattle.gb_tree.proofs.Rooted.{found_more, none_special_more, one_root_more, refused_here, under_all}
use Rattle.gb_tree.proofs.Starting.{starts_within}
use Rattle.gb_tree.proofs.entries.found_at_all.Goals as goal

pub found-requires : goal.found-requires
found-requires g c =
    let root = c.root-item.result in
    subst (λ (starts : List (Place × Place)). AllByRecursion (λ (start : Place × Place). IsTrue (is_under start.1 start.0)) starts)
    (sym (c.as_slice.ensures.value ∙ c.in_ok-starts.ensures.starts)) (starts_within c.args.include.now (root ∷ []))

pub returns-in_err-here-clause-blame : goal.returns-in_err-here-clause-blame
returns-in_err-here-clause-blame g c =
    let p = err_from_is_err_and c.from_residual-in_err-here.result c.from_residual-in_err-here.ensures.1 in
    let include = c.args.include.now in
    let roots = c.args.roots.now in
    let root = c.root-item.result in
    let starts = c.as_slice.result.now in
    let these : starts ≡ starts_in include (root ∷ []) = c.as_slice.ensures.value ∙ c.in_ok-starts.ensures.starts in
    blamed_before (λ at. IsTrue (is_under_any (places_of starts) at)) (λ at. IsTrue (is_under_any (places_of (starts_in include roots)) at)) _ _ _ _ c.in_err-here.field-0.0 p.0 c.loop-root.invariant.requests.count c.in_err-here.ensures.reads.requests.count p.1 p.2
    (λ at h. under_all include roots c.loop-root.root-index root at c.loop-root-test.true c.root-item.is (subst (λ (starts : List (Place × Place)). IsTrue (is_under_any (places_of starts) at)) these h))
    c.in_err-here.ensures.blame

pub returns-in_err-here-clause-special : goal.returns-in_err-here-clause-special
returns-in_err-here-clause-special g c = λ faithful.
    let before = c.found.ensures.reads.requests.back faithful in
    let p = err_from_is_err_and c.from_residual-in_err-here.result c.from_residual-in_err-here.ensures.1 in
    let failures = g.F.Folder.device.failures in
    let contents = g.F.Folder.device.contents in
    let old = contents c.args.folder.now in
    let include = c.args.include.now in
    let roots = c.args.roots.now in
    let root = c.root-item.result in
    let starts = c.as_slice.result.now in
    let these : starts ≡ starts_in include (root ∷ []) = c.as_slice.ensures.value ∙ c.in_ok-starts.ensures.starts in
    let fault : TreeFault = c.in_err-here.field-0.0 in
    let here : IsRefused (failures c.loop-root.folder) (failures c.found.new.folder) (special_roots (contents c.loop-root.folder) (places_of starts)) fault = c.in_err-here.ensures.special faithful in
    at_err (λ r. IfErr r (λ fault. IsRefused (failures c.args.folder.now) (failures c.found.new.folder) (special_roots old (places_of (starts_in include roots))) fault)) c.from_residual-in_err-here.result p.0 c.in_err-here.field-0.0 p.1 p.2
    (refused_here (failures c.args.folder.now) (failures c.loop-root.folder) (failures c.found.new.folder) old include roots c.loop-root.root-index root fault c.loop-root-test.true c.root-item.is
    c.loop-root.invariant.requests.count c.in_err-here.ensures.reads.requests.count (c.loop-root.invariant.none_special before)
    (subst (λ (now : Contents). IsRefused (failures c.loop-root.folder) (failures c.found.new.folder) (special_roots now (places_of (starts_in include (root ∷ [])))) fault) (c.loop-root.invariant.same before)
    (subst (λ (starts : List (Place × Place)). IsRefused (failures c.loop-root.folder) (failures c.found.new.folder) (special_roots (contents c.loop-root.folder) (places_of starts)) fault) these here)))

pub loop-root-preserved : goal.loop-root-preserved
loop-root-preserved g c =
    let back = c.found.ensures.reads.requests.back in
    let contents = g.F.Folder.device.contents in
    let old = contents c.args.folder.now in
    let was = c.loop-root.invariant in
    let naming = c.args.naming in
    let include = c.args.include.now in
    let exclude = c.args.exclude.now in
    let roots = c.args.roots.now in
    let i = c.loop-root.root-index in
    let root = c.root-item.result in
    let within = c.loop-root-test.true in
    let is = c.root-item.is in
    let starts = c.as_slice.result.now in
    let these : starts ≡ starts_in include (root ∷ []) = c.as_slice.ensures.value ∙ c.in_ok-starts.ensures.starts in
    let kept : Entries = c.loop-root.entries.items in
    let here : Entries = c.in_ok-here.here.items in
    let taken : c.append_held.new.entries.items ≡ held (kept ++ here) = c.in_ok-append_held.ensures in
    let listed = IsStartListed g.F.Folder.device c.loop-root.folder c.found.new.folder in
    let answered = c.in_ok-here.ensures.answered in
    let listings : List (List Place) = answered.0 in
    let reported : here ≡ held (listed_in naming include exclude (zip (starts_in include (root ∷ [])) listings)) =
    answered.2
    ∙ ap (λ patterns. held (listed_in naming patterns c.in_ok-excluded.excluded (zip starts listings))) c.in_ok-included.ensures
    ∙ ap (λ patterns. held (listed_in naming include patterns (zip starts listings))) c.in_ok-excluded.ensures
    ∙ ap (λ (starts : List (Place × Place)). held (listed_in naming include exclude (zip starts listings))) these in
    let all = one_root_more naming include exclude roots i root kept here within is was.requests c.in_ok-here.ensures.reads.requests was.answered
    (listings, subst (λ (starts : List (Place × Place)). AllZip listed starts listings) these answered.1, reported) in
    record {
      requests = requests_then was.requests c.in_ok-here.ensures.reads.requests;
      few = let count = ap length taken ∙ length-take (max_files + 1) (kept ++ here) in omega (arith, count);
      under = subst (λ (es : Entries). AllByRecursion (λ entry. IsTrue (is_under_any (places_of (starts_in include roots)) entry.1)) es) (sym taken)
          (all_take _ (max_files + 1) (kept ++ here) (all_append _ kept here was.under
          (all_wider (λ (entry : List ℕ × Place). IsTrue (is_under_any (places_of starts) entry.1)) (λ (entry : List ℕ × Place). IsTrue (is_under_any (places_of (starts_in include roots)) entry.1)) here
          (λ entry h. under_all include roots i root entry.1 within is (subst (λ (starts : List (Place × Place)). IsTrue (is_under_any (places_of starts) entry.1)) these h)) c.in_ok-here.ensures.under)));
      answered = (all.0, all.1, taken ∙ all.2);
      back = λ faithful. was.back (back faithful);
      same = λ faithful. c.in_ok-here.ensures.reads.same faithful ∙ was.same (back faithful);
      found = λ faithful.
          let now : here ≡ held (found_from naming include exclude old.files (starts_in include (root ∷ []))) =
          c.in_ok-here.ensures.found faithful
          ∙ ap (λ patterns. held (found_from naming patterns c.in_ok-excluded.excluded (contents c.loop-root.folder).files starts)) c.in_ok-included.ensures
          ∙ ap (λ patterns. held (found_from naming include patterns (contents c.loop-root.folder).files starts)) c.in_ok-excluded.ensures
          ∙ ap (λ (now : Contents). held (found_from naming include exclude now.files starts)) (was.same (back faithful))
          ∙ ap (λ (starts : List (Place × Place)). held (found_from naming include exclude old.files starts)) these in
          taken ∙ found_more naming include exclude old.files roots i root kept here within is (was.found (back faithful)) now;
      none_special = λ faithful.
          none_special_more old include roots i root within is (was.none_special (back faithful))
          (ap (λ (starts : List (Place × Place)). special_roots old (places_of starts)) (sym these) ∙ ap (λ (now : Contents). special_roots now (places_of starts)) (sym (was.same (back faithful))) ∙ c.in_ok-here.ensures.none_special faithful);
    }
