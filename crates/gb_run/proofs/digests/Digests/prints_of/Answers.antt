use Rattle.std.proofs.Common.{Vec, ◌≡◌, [], ℕ, cond, List, sym, ap, ◌∙◌}
use Rattle.std.specs.FinMap.Entries.{is_sorted}
use Rattle.std.specs.Global.{Global}
use Rattle.gb_core.specs.Lists.{byte_order}
use Rattle.gb_folder.specs.Files.{Files, files_under, is_own}
use Rattle.gb_tree.specs.Prints.{digests_of}
use Rattle.gb_tree.specs.Tree.{files_from}
use Rattle.gb_tree.proofs.Digests.{sorted_digests}
use Rattle.gb_run.specs.Digests.{digests_in}
use Rattle.gb_run.proofs.Digested.{files_from_is, from_digests, from_root}
use Rattle.gb_run.proofs.digests.Digests.prints_of.Goals as goal
use Rattle.gb_run.proofs.digests.Digests.prints_of.Goals.{then-is_own, else-is_own+in_ok-found}

pub returns-clause-prints : goal.returns-clause-prints
returns-clause-prints c = λ files is.
    let held = digests_in c.self.inside.held in
    let root = c.args.output.now.place in
    let these : held ≡ digests_of files = c.self.view_is ∙ is in
    let found : c.if-is_own.found.items ≡ cond (is_own root) [] (from_root root (files_under held root)) =
    elim c.if-is_own.branch [
      | then-is_own w ↦
          ap (λ (v : Vec (List ℕ × List ℕ) Global). v.items) w.found-is ∙ w.new-found.ensures.items
          ∙ sym (ap (λ b. cond b [] (from_root root (files_under held root))) (sym c.is_own.ensures ∙ w.if-is_own.true))
      | else-is_own+in_ok-found w ↦
          ap (λ (v : Vec (List ℕ × List ℕ) Global). v.items) w.found-is ∙ w.in_ok-found.ensures.found
          ∙ sym (ap (λ b. cond b [] (from_root root (files_under held root))) (sym c.is_own.ensures ∙ w.if-is_own.false))
    ] in
    c.new.ensures
    ∙ ap (λ (fs : Files). let tree : List ℕ × Files = (c.in_ok-copy.field-0, fs) in tree)
    (found ∙ sym (files_from_is held root c.self.inside.sorted) ∙ ap (λ (fs : Files). files_from fs root) these
    ∙ from_digests files root (sym (sorted_digests files) ∙ ap (is_sorted byte_order) (sym these) ∙ c.self.inside.sorted))
    ∙ ap (λ (name : List ℕ). let tree : List ℕ × Files = (name, digests_of (files_from files root)) in tree) c.in_ok-copy.ensures
