use Rattle.std.proofs.Common.{◌≡◌, ◌+◌, IsTrue, ◌∷◌, ℕ, List, map, cond, drop, sym, ◌∙◌, ap}
use Rattle.std.proofs.lemmas.Result.{err_from_is_err_and}
use Rattle.std.specs.List.{filter}
use Rattle.std.specs.FinMap.Entries.{put}
use Rattle.gb_core.specs.Lists.{byte_order, first_of}
use Rattle.gb_tree.specs.declared.fault.TreeFault.TheVariants as faults
use Rattle.gb_tree.specs.Tree.{bytes_at, is_among, is_large, too_large}
use Rattle.gb_folder.proofs.Asked.{requests_then}
use Rattle.gb_tree.proofs.Blame.{at_entry, blamed_before}
use Rattle.gb_tree.proofs.Loops.{step_here}
use Rattle.gb_tree.proofs.InOrder.{file_more}
use Rattle.gb_tree.proofs.Known.{read_bytes, read_small}
use Rattle.gb_tree.proofs.reading.read_all.Goals as goal

pub loop-path-preserved : goal.loop-path-preserved
loop-path-preserved g c =
    let back = c.read_file.ensures.reads.requests.back in
    let contents = g.F.Folder.device.contents in
    let files = (contents c.args.folder.now).files in
    let entries = c.args.entries.now in
    let old = c.loop-path in
    let i = old.path-index in
    let e = c.loop-path-item.result in
    let within = c.loop-path-test.true in
    let is = c.loop-path-item.is in
    record {
      requests = requests_then old.invariant.requests c.read_file.ensures.reads.requests;
      back = λ faithful. old.invariant.back (back faithful);
      same = λ faithful. c.read_file.ensures.reads.same faithful ∙ old.invariant.same (back faithful);
      read = λ faithful.
          c.in_ok-insert.ensures.ok
          ∙ ap (λ path. put byte_order path c.in_ok-bytes.bytes old.files) c.in_ok-copy.ensures
          ∙ ap (λ bytes. put byte_order e.0 bytes old.files) (read_bytes c.read_file.ensures.reads faithful e.1 c.in_ok-bytes.bytes c.in_ok-bytes.ensures.answered ∙ ap (λ now. bytes_at now.files e.1) (old.invariant.same (back faithful)))
          ∙ ap (put byte_order e.0 (bytes_at files e.1)) (old.invariant.read (back faithful))
          ∙ file_more files entries i e within is c.requires;
      large = λ faithful.
          let small = ap (λ now. is_large now.files e.1) (sym (old.invariant.same (back faithful))) ∙ read_small c.read_file.ensures.reads faithful e.1 c.in_ok-bytes.bytes c.in_ok-bytes.ensures.answered in
          sym (step_here (λ es. first_of (too_large files es)) entries i e within is ∙ ap (λ b. first_of (map (λ (f : List ℕ × List ℕ). faults.TooLarge f.1) (cond b (e ∷ filter (λ f. is_large files f.1) (drop (i + 1) entries)) (filter (λ f. is_large files f.1) (drop (i + 1) entries))))) small)
          ∙ old.invariant.large (back faithful);
    }

pub returns-in_err-bytes-clause-blame : goal.returns-in_err-bytes-clause-blame
returns-in_err-bytes-clause-blame g c =
    let p = err_from_is_err_and c.from_residual.result c.from_residual.ensures.1 in
    let entries = c.args.entries.now in
    let entry = c.loop-path-item.result in
    blamed_before (λ at. at ≡ entry.1) (λ at. IsTrue (is_among entries at)) _ _ _ _ c.in_err-bytes.field-0.0 p.0 c.loop-path.invariant.requests.count c.in_err-bytes.ensures.reads.requests.count p.1 p.2
    (at_entry entries c.loop-path.path-index entry c.loop-path-test.true c.loop-path-item.is) c.in_err-bytes.ensures.blame
