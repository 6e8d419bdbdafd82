use Rattle.std.proofs.Common.{arith, IsTrue, ℕ, List, subst, sym}
use Rattle.std.proofs.lemmas.Result.{err_from_is_err_and}
use Rattle.gb_folder.specs.Files.{Files}
use Rattle.gb_tree.specs.Answered.{IsTreeRead, WereObserved}
use Rattle.gb_tree.specs.Reading.{entries_observed}
use Rattle.gb_tree.specs.Tree.{is_among}
use Rattle.gb_tree.specs.declared.kept.ScannedFile.{ScannedFile}
use Rattle.gb_tree.proofs.Blame.{blamed_before}
use Rattle.gb_tree.proofs.kept.Reading.completed.Goals as goal

pub returns-in_err-files-clause-blame : goal.returns-in_err-files-clause-blame
returns-in_err-files-clause-blame g c =
    let p = err_from_is_err_and c.from_residual.result c.from_residual.ensures.1 in
    blamed_before (λ at. IsTrue (is_among (entries_observed c.self.inside.files.items) at)) (λ at. IsTrue (is_among (entries_observed c.args.self.1) at)) _ _ _ _ c.in_err-files.field-0.0 p.0 (omega arith) c.in_err-files.ensures.reads.requests.count p.1 p.2
    (λ at h. subst (λ (value : List ℕ × List ScannedFile). IsTrue (is_among (entries_observed value.1) at)) c.self.view_is h) c.in_err-files.ensures.blame

pub returns-clause-answered : goal.returns-clause-answered
returns-clause-answered g c = λ first before observed.
    let F = g.F.Folder in
    let files = c.self.inside.files.items in
    let reported = c.in_ok-files.ensures.answered first before
    (subst (λ (value : List ℕ × List ScannedFile). WereObserved F.device first c.args.folder.now value.1) (sym c.self.view_is) observed) in
    subst (λ (value : List ℕ × List ScannedFile). IsTreeRead F.device first c.complete_all.new.folder (entries_observed value.1) c.new.result.1) c.self.view_is
    (subst (λ (tree : List ℕ × Files). IsTreeRead F.device first c.complete_all.new.folder (entries_observed files) tree.1) (sym c.new.ensures) reported)
