use Rattle.std.proofs.Common.{arith, ◌≡◌, ◌+◌, ◌++◌, ◌∷◌, List, Some, IfErr, IsTrue, inl, inr, cond, drop, map, refl, sym, ◌∙◌, ap, subst, append_assoc}
use Rattle.std.proofs.lemmas.Result.{err_from_is_err_and}
use Rattle.std.proofs.lemmas.List.{take_all}
use Rattle.std.specs.List.{AllPass, AllZip, filter, zip}
use Rattle.gb_core.specs.Lists.{first_of}
use Rattle.gb_core.specs.Place.{is_under}
use Rattle.gb_folder.specs.Answers.{WereListed}
use Rattle.gb_folder.specs.Files.{Contents, Place, is_special_under, places_under}
use Rattle.gb_folder.specs.Limits.{max_files}
use Rattle.gb_folder.proofs.Asked.{requests_then}
use Rattle.gb_tree.specs.declared.fault.TreeFault.TheVariants as faults
use Rattle.gb_tree.specs.Answered.{IsStartListed, listed_in}
use Rattle.gb_tree.specs.Property.{entries_in, found_from, held, is_under_any, places_of}
use Rattle.gb_tree.specs.Tree.{Entries, IsRefused, special_roots}
use Rattle.gb_tree.proofs.Blame.{blamed_before}
use Rattle.gb_tree.proofs.Found.{all_of_root, taken_beneath, under_start}
use Rattle.gb_tree.proofs.Gathering.{one_start_more}
use Rattle.gb_tree.proofs.Holding.{held_done, take_again}
use Rattle.gb_tree.proofs.Loops.{step_here}
use Rattle.gb_tree.proofs.Refused.{at_err, machine_before}
use Rattle.gb_tree.proofs.Observed.{all_at}
use Rattle.gb_tree.proofs.Under.{own_place}
use Rattle.gb_tree.proofs.entries.found.Goals as goal

pub add_entries-requires-clause-under : goal.add_entries-requires-clause-under
add_entries-requires-clause-under g c =
    let start = c.loop-root-item.result in
    subst (λ (ps : List Place). AllPass (λ at. is_under at start.0) ps) (sym c.as_slice.ensures.value)
    (all_of_root start.0 start.1 c.in_ok-places.places.items
    (all_at (λ (start : Place × Place). IsTrue (is_under start.1 start.0)) c.args.starts.now c.loop-root.root-index start c.loop-root-test.true c.loop-root-item.is c.requires)
    c.in_ok-places.ensures.under)

pub returns-in_err-places-clause-special : goal.returns-in_err-places-clause-special
returns-in_err-places-clause-special g c = λ faithful.
    let before = c.listed.ensures.reads.requests.back faithful in
    let p = err_from_is_err_and c.from_residual.result c.from_residual.ensures.1 in
    let failures = g.F.Folder.device.failures in
    let old = g.F.Folder.device.contents c.args.folder.now in
    let starts = c.args.starts.now in
    let i = c.loop-root.root-index in
    let start = c.loop-root-item.result in
    let rest = filter (is_special_under old) (places_of (drop (i + 1) starts)) in
    at_err (λ r. IfErr r (λ fault. IsRefused (failures c.args.folder.now) (failures c.listed.new.folder) (special_roots old (places_of starts)) fault)) c.from_residual.result p.0 c.in_err-places.field-0.0 p.1 p.2 (elim (c.in_err-places.ensures.special faithful) [
      | inl machine ↦ inl (machine_before _ _ _ _ c.loop-root.invariant.requests.count c.in_err-places.ensures.reads.requests.count machine)
      | inr special ↦ inr (
          sym (c.loop-root.invariant.special before)
          ∙ step_here (λ ss. first_of (special_roots old (places_of ss))) starts i start c.loop-root-test.true c.loop-root-item.is
          ∙ ap (λ b. first_of (map faults.BadFileName (cond b (start.1 ∷ rest) rest))) (ap (λ (now : Contents). is_special_under now start.1) (sym (c.loop-root.invariant.same before)) ∙ special.0)
          ∙ ap Some (sym special.1)
          )
    ])

pub returns-in_err-places-clause-blame : goal.returns-in_err-places-clause-blame
returns-in_err-places-clause-blame g c =
    let p = err_from_is_err_and c.from_residual.result c.from_residual.ensures.1 in
    let starts = c.args.starts.now in
    let start = c.loop-root-item.result in
    blamed_before (λ at. at ≡ start.1) (λ at. IsTrue (is_under_any (places_of starts) at)) _ _ _ _ c.in_err-places.field-0.0 p.0 c.loop-root.invariant.requests.count c.in_err-places.ensures.reads.requests.count p.1 p.2
    (λ at is. under_start starts c.loop-root.root-index start at c.loop-root-test.true c.loop-root-item.is (subst (λ (place : Place). IsTrue (is_under place start.1)) (sym is) (own_place start.1)))
    c.in_err-places.ensures.blame

pub loop-root-preserved : goal.loop-root-preserved
loop-root-preserved g c =
    let back = c.listed.ensures.reads.requests.back in
    let old = g.F.Folder.device.contents c.args.folder.now in
    let was = c.loop-root.invariant in
    let naming = c.args.naming in
    let include = c.args.include.now in
    let exclude = c.args.exclude.now in
    let starts = c.args.starts.now in
    let i = c.loop-root.root-index in
    let start = c.loop-root-item.result in
    let places = c.as_slice.result.now in
    let kept : Entries = c.loop-root.entries.items in
    let here : List Place → Entries = entries_in naming include exclude start.0 in
    let rest = found_from naming include exclude old.files (drop (i + 1) starts) in
    let special_rest = filter (is_special_under old) (places_of (drop (i + 1) starts)) in
    let within = c.loop-root-test.true in
    let is = c.loop-root-item.is in
    record {
      requests = requests_then was.requests c.in_ok-places.ensures.reads.requests;
      few = c.in_ok-add_entries.ensures.few;
      under = taken_beneath naming include exclude starts i start c.in_ok-places.places.items places kept c.add_entries.new.entries.items within is c.as_slice.ensures.value c.in_ok-places.ensures.under c.in_ok-add_entries.ensures.entries was.under;
      answered = one_start_more naming include exclude starts i start places kept c.add_entries.new.entries.items within is was.requests c.in_ok-places.ensures.reads.requests
          (subst (λ (ps : List Place). WereListed g.F.Folder.device c.loop-root.folder c.listed.new.folder start.1 ps)
          (sym c.as_slice.ensures.value) c.in_ok-places.ensures.answered)
          c.in_ok-add_entries.ensures.entries was.answered;
      back = λ faithful. was.back (back faithful);
      same = λ faithful. c.in_ok-places.ensures.reads.same faithful ∙ was.same (back faithful);
      found = λ faithful.
          let listed : places ≡ places_under old.files start.1 = c.as_slice.ensures.value ∙ c.in_ok-places.ensures.listed faithful ∙ ap (λ (now : Contents). places_under now.files start.1) (was.same (back faithful)) in
          ap (λ (es : Entries). held (es ++ rest)) c.in_ok-add_entries.ensures.entries
          ∙ take_again (max_files + 1) (kept ++ here places) rest
          ∙ ap held (append_assoc kept (here places) rest)
          ∙ ap (λ ps. held (kept ++ (here ps ++ rest))) listed
          ∙ ap (λ es. held (kept ++ es)) (sym (step_here (found_from naming include exclude old.files) starts i start within is))
          ∙ was.found (back faithful);
      special = λ faithful.
          let none = ap (λ (now : Contents). is_special_under now start.1) (sym (was.same (back faithful))) ∙ c.in_ok-places.ensures.none_special faithful in
          sym (step_here (λ ss. first_of (special_roots old (places_of ss))) starts i start within is ∙ ap (λ b. first_of (map faults.BadFileName (cond b (start.1 ∷ special_rest) special_rest))) none)
          ∙ was.special (back faithful);
    }

pub returns-clause-answered : goal.returns-clause-answered
returns-clause-answered g c =
    let listed = IsStartListed g.F.Folder.device c.args.folder.now c.loop-root.folder in
    let entries : Entries = c.loop-root.entries.items in
    subst (λ (starts : List (Place × Place)). (listings : List (List Place)) × AllZip listed starts listings
    × (entries ≡ held (listed_in c.args.naming c.args.include.now c.args.exclude.now (zip starts listings))))
    (take_all c.loop-root.root-index c.args.starts.now (omega (arith, c.loop-root-test.false))) c.loop-root.invariant.answered

pub returns-clause-found : goal.returns-clause-found
returns-clause-found g c = λ faithful.
    let all : List (Place × Place) → Entries = found_from c.args.naming c.args.include.now c.args.exclude.now (g.F.Folder.device.contents c.args.folder.now).files in
    let end = c.loop-root-test.false in
    held_done all c.loop-root.entries.items (all c.args.starts.now) c.args.starts.now c.loop-root.root-index refl (omega (arith, end)) c.loop-root.invariant.few (c.loop-root.invariant.found faithful)
