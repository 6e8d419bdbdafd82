use Rattle.std.proofs.Common.{arith, ◌∷◌, [], ℕ, List, Some, IsTrue, inr, cond, sym, ap, ◌∙◌}
use Rattle.std.proofs.lemmas.Result.{err_from_is_err_and}
use Rattle.gb_core.specs.Lists.{first_of}
use Rattle.gb_folder.specs.Files.{Place}
use Rattle.gb_tree.specs.declared.fault.TreeFault.TheVariants as faults
use Rattle.gb_tree.specs.Property.{found_from, is_under_any, places_of, starts_in}
use Rattle.gb_tree.specs.Tree.{special_roots, too_many}
use Rattle.gb_tree.proofs.Blame.{blamed_before}
use Rattle.gb_tree.proofs.Holding.{held_few, held_many}
use Rattle.gb_tree.proofs.Refused.{back_first}
use Rattle.gb_tree.proofs.entries.found_few.Goals as goal

pub returns-in_err-entries-clause-blame : goal.returns-in_err-entries-clause-blame
returns-in_err-entries-clause-blame g c =
    let p = err_from_is_err_and c.from_residual.result c.from_residual.ensures.1 in
    let IsSuch : Place → Type 0 = λ at. IsTrue (is_under_any (places_of (starts_in c.args.include.now c.args.roots.now)) at) in
    blamed_before IsSuch IsSuch _ _ _ _ c.in_err-entries.field-0.0 p.0 (omega arith) c.in_err-entries.ensures.reads.requests.count p.1 p.2 (λ at h. h) c.in_err-entries.ensures.blame

pub returns-then-len-gt-MAX_FILES-clause-err : goal.returns-then-len-gt-MAX_FILES-clause-err
returns-then-len-gt-MAX_FILES-clause-err g c = λ faithful.
    let old = g.F.Folder.device.contents c.args.folder.now in
    let name = c.args.name.now in
    let all = found_from c.args.naming c.args.include.now c.args.exclude.now old.files (starts_in c.args.include.now c.args.roots.now) in
    let many = held_many c.in_ok-entries.entries.items all (c.in_ok-entries.ensures.found faithful) (omega (arith, c.len.ensures, c.if-len-gt-MAX_FILES.true)) in
    inr (back_first (special_roots old (places_of (starts_in c.args.include.now c.args.roots.now))) (too_many name all) (c.in_ok-entries.ensures.none_special faithful)
    ∙ ap (λ b. first_of (cond b (faults.TooManyFiles name ∷ []) [])) many
    ∙ ap (λ (reported : List ℕ). Some (faults.TooManyFiles reported)) (sym c.in_ok-copy.ensures))

pub returns-clause-answered : goal.returns-clause-answered
returns-clause-answered g c =
    let reported = c.in_ok-entries.ensures.answered in
    (reported.0, reported.1, held_few c.in_ok-entries.entries.items _ reported.2 (omega (arith, c.len.ensures, c.if-len-gt-MAX_FILES.false)))

pub returns-clause-found : goal.returns-clause-found
returns-clause-found g c = λ faithful.
    held_few c.in_ok-entries.entries.items _ (c.in_ok-entries.ensures.found faithful) (omega (arith, c.len.ensures, c.if-len-gt-MAX_FILES.false))
