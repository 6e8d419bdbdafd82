use Rattle.std.proofs.Common.{arith, add-one, suc, IsTrue, IfErr, ℕ, List, length, map, take, sym, ◌∙◌, ap, subst}
use Rattle.std.proofs.lemmas.Iterator.Adapters.{YieldsList-from_vec}
use Rattle.std.proofs.lemmas.Iterator.Consumers.{YieldsList-end, YieldsList-turn}
use Rattle.std.proofs.lemmas.List.{length_push, take_all}
use Rattle.std.proofs.lemmas.Result.{err_from_is_err_and}
use Rattle.std.specs.List.{AllByRecursion, AllZip}
use Rattle.gb_action.specs.Files.{Tree}
use Rattle.gb_folder.proofs.Asked.{requests_nothing, requests_then}
use Rattle.gb_folder.specs.Files.{Contents, Files}
use Rattle.gb_history.specs.Record.{Prints}
use Rattle.gb_plan.specs.declared.task.FileProperty.{FileProperty}
use Rattle.gb_folder.proofs.Machine.{at_err, handed_on, machine_before}
use Rattle.gb_folder.specs.Faults.{IsOfMachine}
use Rattle.gb_tree.proofs.Answering.{all_zip_more}
use Rattle.gb_tree.specs.Prints.{digests_of}
use Rattle.gb_tree.specs.Reading.{entries_observed}
use Rattle.gb_tree.specs.Tree.{contents_at}
use Rattle.gb_label.specs.ReadingAnswered.{IsInputAnswered, IsInputRead}
use Rattle.gb_label.specs.Reading.{Read, is_input_of}
use Rattle.gb_label.proofs.ReadingAnswering.{as_many, input_completed, next_made, tree_read_longer}
use Rattle.gb_label.proofs.Loops.{all_at, name_more}
use Rattle.gb_label.proofs.Readings.{Persists, among_within, gathered_more, inputs_exist, mapped_more, pair_is, tree_made, trees_made}
use Rattle.gb_label.proofs.inputs.complete_inputs.Goals as goal

pub returns-in_err-tree-clause-blamed : goal.returns-in_err-tree-clause-blamed
returns-in_err-tree-clause-blamed g c = λ place device.
    let p = err_from_is_err_and c.from_residual.result c.from_residual.ensures.1 in
    let readings = c.args.readings.items in
    let x : Read = c.in-Some.reading in
    let gives = c.into_iter-reading-iterator.ensures.into_iter_gives in
    let execution = YieldsList-turn (YieldsList-from_vec {s = c.into_iter-reading-iterator.result} readings gives.0 (gives.1 ∙ c.args.readings.ok.0)) c.loop-reading.yielded c.loop-reading.reading-iterator c.loop-reading.yielded_by c.next.result c.next.new.self x c.in-Some.is c.next.ensures.steps in
    among_within (is_input_of c.args.task.now) x.1 (all_at (λ (reading : Read). AllByRecursion (λ observed. IsTrue (is_input_of c.args.task.now observed.place)) reading.1) readings (length c.loop-reading.yielded) x execution.0 execution.1 c.requires.within) place
    (c.complete.ensures.blamed place (handed_on c.from_residual.result c.complete.result p.0 c.in_err-tree.field-0.0 place p.1 p.2 c.in_err-tree.was device))

pub returns-in_err-tree-clause-err : goal.returns-in_err-tree-clause-err
returns-in_err-tree-clause-err g c = λ faithful observed.
    let p = err_from_is_err_and c.from_residual.result c.from_residual.ensures.1 in
    let failures = g.F.Folder.device.failures in
    let old = (g.F.Folder.device.contents c.args.folder.now).files in
    let readings = c.args.readings.items in
    let x : Read = c.in-Some.reading in
    let gives = c.into_iter-reading-iterator.ensures.into_iter_gives in
    let execution = YieldsList-turn (YieldsList-from_vec {s = c.into_iter-reading-iterator.result} readings gives.0 (gives.1 ∙ c.args.readings.ok.0)) c.loop-reading.yielded c.loop-reading.reading-iterator c.loop-reading.yielded_by c.next.result c.next.new.self x c.in-Some.is c.next.ensures.steps in
    let exists = all_at (Persists old) readings (length c.loop-reading.yielded) x execution.0 execution.1 (inputs_exist old c.args.task.now.files readings observed) in
    at_err (λ r. IfErr r (IsOfMachine (failures c.args.folder.now) (failures c.complete.new.folder))) c.from_residual.result p.0 c.in_err-tree.field-0.0 p.1 p.2
    (machine_before _ _ _ _ c.loop-reading.invariant.requests.count c.complete.ensures.reads.requests.count
    (c.in_err-tree.ensures.err faithful (subst (λ (now : Contents). Persists now.files x) (sym (c.loop-reading.invariant.same (c.complete.ensures.reads.requests.back faithful))) exists)))

pub loop-reading-preserved : goal.loop-reading-preserved
loop-reading-preserved g c =
    let old = (g.F.Folder.device.contents c.args.folder.now).files in
    let so_far = c.loop-reading.invariant in
    let back = c.complete.ensures.reads.requests.back in
    let readings = c.args.readings.items in
    let n = length c.loop-reading.yielded in
    let x : Read = c.in-Some.reading in
    let gives = c.into_iter-reading-iterator.ensures.into_iter_gives in
    let execution = YieldsList-turn (YieldsList-from_vec {s = c.into_iter-reading-iterator.result} readings gives.0 (gives.1 ∙ c.args.readings.ok.0)) c.loop-reading.yielded c.loop-reading.reading-iterator c.loop-reading.yielded_by c.next.result c.next.new.self x c.in-Some.is c.next.ensures.steps in
    let next = sym (length_push c.loop-reading.yielded x) in
    let tree : List ℕ × Tree = c.in_ok-tree.tree in
    let found : Prints = c.in_ok-tree.found in
    let one = c.in_ok-tree.ensures in
    let trees = c.loop-reading.trees in
    let more = c.in_ok-push-2.ensures.ok in
    record {
      can_next = tt;
      is_finite = tt;
      requests = requests_then so_far.requests c.complete.ensures.reads.requests;
      back = λ known. so_far.back (back known);
      same = λ faithful. c.complete.ensures.reads.same faithful ∙ so_far.same (back faithful);
      named =
          name_more (λ (t : List ℕ × Tree). t.0) (λ (reading : Read). reading.0) trees c.push-in-loop-reading.new.self tree readings n x execution.0 execution.1 so_far.named more one.named
          ∙ ap (λ k. map (λ (reading : Read). reading.0) (take k readings)) next;
      digests =
          mapped_more (λ (t : List ℕ × Tree). let p : Prints = (t.0, digests_of t.1) in p) trees c.push-in-loop-reading.new.self tree c.loop-reading.prints.items c.push.new.self.items found so_far.digests c.in_ok-push.ensures.items more
          (one.digests ∙ ap (λ (name : List ℕ). let p : Prints = (name, digests_of tree.1) in p) (sym one.named));
      answered = λ first requests were.
          let F = g.F.Folder in
          let files = c.args.task.now.files in
          let now = c.complete.new.folder in
          let Done : FileProperty → List ℕ × Files → Type 0 = IsInputRead F.device first now in
          subst (λ (k : ℕ). AllZip Done (take k files) c.push-in-loop-reading.new.self) (sym (add-one n) ∙ next)
          (subst (λ (ts : List (List ℕ × Files)). AllZip Done (take (suc n) files) ts) (sym more)
          (next_made (IsInputAnswered F.device first c.args.folder.now) Done files readings trees n x tree execution.0 execution.1 were
          (λ property was. input_completed so_far.requests c.complete.ensures.reads.requests property x tree (one.answered first (requests_then requests so_far.requests)) was)
          (all_zip_more (IsInputRead F.device first c.loop-reading.folder) Done (tree_read_longer (requests_nothing first) c.complete.ensures.reads.requests)
          (take n files) trees (so_far.answered first requests were))));
      trees = λ faithful all.
          let exists = all_at (Persists old) readings n x execution.0 execution.1 all in
          gathered_more (tree_made old) trees c.push-in-loop-reading.new.self tree readings n x execution.0 execution.1 more
          (pair_is tree x.0 (contents_at old (entries_observed x.1)) one.named
          (one.tree faithful (subst (λ (now : Contents). Persists now.files x) (sym (so_far.same (back faithful))) exists) ∙ ap (λ now. contents_at now.files (entries_observed x.1)) (so_far.same (back faithful))))
          (so_far.trees (back faithful) all)
          ∙ ap (λ k. map (tree_made old) (take k readings)) next;
    }

pub returns-clause-named : goal.returns-clause-named
returns-clause-named g c =
    let readings = c.args.readings.items in
    let gives = c.into_iter-reading-iterator.ensures.into_iter_gives in
    let end = YieldsList-end (YieldsList-from_vec {s = c.into_iter-reading-iterator.result} readings gives.0 (gives.1 ∙ c.args.readings.ok.0)) c.loop-reading.yielded c.loop-reading.reading-iterator c.loop-reading.yielded_by c.next.result c.next.new.self c.in-None.is c.next.ensures.steps in
    c.loop-reading.invariant.named ∙ ap (map (λ (reading : Read). reading.0)) (take_all (length c.loop-reading.yielded) readings (omega (arith, end.1))) ∙ c.requires.named

pub returns-clause-trees : goal.returns-clause-trees
returns-clause-trees g c = λ faithful observed.
    let old = (g.F.Folder.device.contents c.args.folder.now).files in
    let files = c.args.task.now.files in
    let readings = c.args.readings.items in
    let gives = c.into_iter-reading-iterator.ensures.into_iter_gives in
    let end = YieldsList-end (YieldsList-from_vec {s = c.into_iter-reading-iterator.result} readings gives.0 (gives.1 ∙ c.args.readings.ok.0)) c.loop-reading.yielded c.loop-reading.reading-iterator c.loop-reading.yielded_by c.next.result c.next.new.self c.in-None.is c.next.ensures.steps in
    c.loop-reading.invariant.trees faithful (inputs_exist old files readings observed)
    ∙ ap (map (tree_made old)) (take_all (length c.loop-reading.yielded) readings (omega (arith, end.1)))
    ∙ trees_made old files readings c.requires.named observed

pub returns-clause-answered : goal.returns-clause-answered
returns-clause-answered g c = λ first requests were.
    let F = g.F.Folder in
    let files = c.args.task.now.files in
    let readings = c.args.readings.items in
    let gives = c.into_iter-reading-iterator.ensures.into_iter_gives in
    let end = YieldsList-end (YieldsList-from_vec {s = c.into_iter-reading-iterator.result} readings gives.0 (gives.1 ∙ c.args.readings.ok.0)) c.loop-reading.yielded c.loop-reading.reading-iterator c.loop-reading.yielded_by c.next.result c.next.new.self c.in-None.is c.next.ensures.steps in
    let many = as_many (IsInputAnswered F.device first c.args.folder.now) files readings were in
    subst (λ (fs : List FileProperty). AllZip (IsInputRead F.device first c.loop-reading.folder) fs c.loop-reading.trees)
    (take_all (length c.loop-reading.yielded) files (omega (arith, end.1, many))) (c.loop-reading.invariant.answered first requests were)
