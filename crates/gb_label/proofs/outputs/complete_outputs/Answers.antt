use Rattle.std.proofs.Common.{arith, ◌≡◌, ◌∷◌, [], IsTrue, IfErr, ℕ, List, length, map, take, sym, ◌∙◌, ap, subst}
use Rattle.std.proofs.lemmas.Iterator.{YieldsList-from_slice, YieldsList-from_zip}
use Rattle.std.proofs.lemmas.Iterator.Adapters.{YieldsList-from_vec}
use Rattle.std.proofs.lemmas.Iterator.Consumers.{YieldsList-at, YieldsList-end, YieldsList-turn}
use Rattle.std.proofs.lemmas.List.{length_push, map-append, take_all}
use Rattle.std.proofs.lemmas.Result.{err_from_is_err_and}
use Rattle.std.specs.Iterator.Adapters.{zip_second}
use Rattle.std.specs.List.{AllByRecursion, AllZip, zip}
use Rattle.gb_action.specs.declared.output_files.Form.{Form}
use Rattle.gb_action.specs.declared.output_files.OutputFiles.{OutputFiles}
use Rattle.gb_folder.proofs.Asked.{requests_nothing, requests_then}
use Rattle.gb_folder.specs.Files.{Contents}
use Rattle.gb_history.specs.Record.{Prints}
use Rattle.gb_plan.specs.Task.{is_output_of}
use Rattle.gb_plan.specs.declared.task.Output.{Output}
use Rattle.gb_label.proofs.Loops.{all_at}
use Rattle.gb_folder.proofs.Machine.{at_err, handed_on, machine_before}
use Rattle.gb_folder.specs.Faults.{IsOfMachine}
use Rattle.gb_tree.proofs.Answering.{all_zip_more}
use Rattle.gb_tree.specs.Prints.{digests_of}
use Rattle.gb_tree.specs.Reading.{entries_observed}
use Rattle.gb_tree.specs.Tree.{contents_at}
use Rattle.gb_label.specs.ReadingAnswered.{IsOutputAnswered, IsOutputRead}
use Rattle.gb_label.specs.Reading.{Read}
use Rattle.gb_label.proofs.ReadingAnswering.{files_read_longer, firsts_made, output_completed, pairs_all}
use Rattle.gb_label.proofs.Readings.{Persists, among_within, form_of, gathered_more, mapped_more, output_is, output_made, outputs_made, pair_is, pairs_formed, pairs_named, pairs_exist, pairs_within, observed_more}
use Rattle.gb_label.proofs.outputs.complete_outputs.Goals as goal

pub returns-in_err-files-clause-blamed : goal.returns-in_err-files-clause-blamed
returns-in_err-files-clause-blamed g c = λ place device.
    let p = err_from_is_err_and c.from_residual.result c.from_residual.ensures.1 in
    let outputs = c.args.task.now.outputs in
    let readings = c.args.readings.items in
    let pairs = zip outputs readings in
    let x : Output × Read = (c.in-Some.output.now, c.in-Some.reading) in
    let gives = c.zip-output-items.ensures.second in
    let road = YieldsList-at c.into_iter-output-iterator.ensures.into_iter_gives (YieldsList-from_zip (YieldsList-at c.zip-output-items.ensures.first (YieldsList-from_slice outputs (c.iter.ensures.rest ∙ c.as_slice.ensures))) (YieldsList-from_vec {s = zip_second c.zip-output-items.result} readings gives.0 (gives.1 ∙ c.args.readings.ok.0))) in
    let execution = YieldsList-turn road c.loop-output.yielded c.loop-output.output-iterator c.loop-output.yielded_by c.next.result c.next.new.self _ c.in-Some.is c.next.ensures.steps in
    among_within (is_output_of c.args.task.now) x.1.1
    (all_at (λ (pair : Output × Read). AllByRecursion (λ observed. IsTrue (is_output_of c.args.task.now observed.place)) pair.1.1) pairs (length c.loop-output.yielded) x execution.0 execution.1 (pairs_within (is_output_of c.args.task.now) outputs readings c.requires.within)) place
    (c.complete_one.ensures.blamed place (handed_on c.from_residual.result c.complete_one.result p.0 c.in_err-files.field-0.0 place p.1 p.2 c.in_err-files.was device))

pub returns-in_err-files-clause-err : goal.returns-in_err-files-clause-err
returns-in_err-files-clause-err g c = λ faithful observed.
    let p = err_from_is_err_and c.from_residual.result c.from_residual.ensures.1 in
    let failures = g.F.Folder.device.failures in
    let old = (g.F.Folder.device.contents c.args.folder.now).files in
    let outputs = c.args.task.now.outputs in
    let readings = c.args.readings.items in
    let pairs = zip outputs readings in
    let x : Output × Read = (c.in-Some.output.now, c.in-Some.reading) in
    let gives = c.zip-output-items.ensures.second in
    let road = YieldsList-at c.into_iter-output-iterator.ensures.into_iter_gives (YieldsList-from_zip (YieldsList-at c.zip-output-items.ensures.first (YieldsList-from_slice outputs (c.iter.ensures.rest ∙ c.as_slice.ensures))) (YieldsList-from_vec {s = zip_second c.zip-output-items.result} readings gives.0 (gives.1 ∙ c.args.readings.ok.0))) in
    let execution = YieldsList-turn road c.loop-output.yielded c.loop-output.output-iterator c.loop-output.yielded_by c.next.result c.next.new.self _ c.in-Some.is c.next.ensures.steps in
    let exists = all_at (λ (pair : Output × Read). Persists old pair.1) pairs (length c.loop-output.yielded) x execution.0 execution.1 (pairs_exist old outputs readings observed) in
    at_err (λ r. IfErr r (IsOfMachine (failures c.args.folder.now) (failures c.complete_one.new.folder))) c.from_residual.result p.0 c.in_err-files.field-0.0 p.1 p.2
    (machine_before _ _ _ _ c.loop-output.invariant.requests.count c.complete_one.ensures.reads.requests.count
    (c.in_err-files.ensures.err faithful (subst (λ (now : Contents). Persists now.files x.1) (sym (c.loop-output.invariant.same (c.complete_one.ensures.reads.requests.back faithful))) exists)))

pub loop-output-preserved : goal.loop-output-preserved
loop-output-preserved g c =
    let old = (g.F.Folder.device.contents c.args.folder.now).files in
    let so_far = c.loop-output.invariant in
    let back = c.complete_one.ensures.reads.requests.back in
    let outputs = c.args.task.now.outputs in
    let readings = c.args.readings.items in
    let pairs = zip outputs readings in
    let n = length c.loop-output.yielded in
    let x : Output × Read = (c.in-Some.output.now, c.in-Some.reading) in
    let gives = c.zip-output-items.ensures.second in
    let road = YieldsList-at c.into_iter-output-iterator.ensures.into_iter_gives (YieldsList-from_zip (YieldsList-at c.zip-output-items.ensures.first (YieldsList-from_slice outputs (c.iter.ensures.rest ∙ c.as_slice.ensures))) (YieldsList-from_vec {s = zip_second c.zip-output-items.result} readings gives.0 (gives.1 ∙ c.args.readings.ok.0))) in
    let execution = YieldsList-turn road c.loop-output.yielded c.loop-output.output-iterator c.loop-output.yielded_by c.next.result c.next.new.self _ c.in-Some.is c.next.ensures.steps in
    let next = sym (length_push c.loop-output.yielded (c.in-Some.output, c.in-Some.reading)) in
    let found : Prints = c.in_ok-files.found in
    let made : OutputFiles = c.in_ok-files.files in
    let one = c.in_ok-files.ensures in
    let observed = c.loop-output.observed in
    let more = c.in_ok-push-2.ensures.ok in
    let named = all_at (λ (pair : Output × Read). pair.1.0 ≡ pair.0.name) pairs n x execution.0 execution.1 (pairs_named outputs readings c.requires.named) in
    let Shown : Type 0 = List ℕ × Form in
    let reported : OutputFiles → Shown = λ output. (output.name, output.form) in
    record {
      can_next = so_far.can_next;
      is_finite = so_far.is_finite;
      requests = requests_then so_far.requests c.complete_one.ensures.reads.requests;
      back = λ known. so_far.back (back known);
      same = λ faithful. c.complete_one.ensures.reads.same faithful ∙ so_far.same (back faithful);
      formed =
          gathered_more form_of (map reported observed) (map reported c.push-in-loop-output.new.self) (reported made) pairs n x execution.0 execution.1
          (ap (map reported) more ∙ map-append reported observed (made ∷ []))
          (pair_is (reported made) x.0.name x.0.form one.named one.formed) so_far.formed
          ∙ ap (λ k. map form_of (take k pairs)) next;
      digests =
          mapped_more (λ (output : OutputFiles). let p : Prints = (output.name, digests_of output.files) in p) observed c.push-in-loop-output.new.self made c.loop-output.prints.items c.push.new.self.items found so_far.digests c.in_ok-push.ensures.items more
          (one.digests ∙ ap (λ (name : List ℕ). let p : Prints = (name, digests_of made.files) in p) (named ∙ sym one.named));
      answered = λ first requests were.
          let F = g.F.Folder in
          let now = c.complete_one.new.folder in
          let Done : Output × Read → OutputFiles → Type 0 = λ pair files. IsOutputRead F.device first now pair.0 files in
          let SoFar : Output × Read → OutputFiles → Type 0 = λ pair files. IsOutputRead F.device first c.loop-output.folder pair.0 files in
          let Answered : Output → Read → Type 0 = IsOutputAnswered F.device first c.args.folder.now in
          let was = all_at (λ (pair : Output × Read). Answered pair.0 pair.1) pairs n x execution.0 execution.1 (pairs_all Answered outputs readings were) in
          subst (λ (k : ℕ). AllZip Done (take k pairs) c.push-in-loop-output.new.self) next
          (observed_more Done pairs observed c.push-in-loop-output.new.self n x made execution.0 execution.1 more
          (all_zip_more SoFar Done (λ pair. files_read_longer (requests_nothing first) c.complete_one.ensures.reads.requests pair.0) (take n pairs) observed (so_far.answered first requests were))
          (output_completed so_far.requests c.complete_one.ensures.reads.requests x.0 x.1 made (one.answered first (requests_then requests so_far.requests)) was));
      files = λ faithful all.
          let exists = all_at (λ (pair : Output × Read). Persists old pair.1) pairs n x execution.0 execution.1 all in
          gathered_more (output_made old) observed c.push-in-loop-output.new.self made pairs n x execution.0 execution.1 more
          (output_is made x.0.name x.0.form (contents_at old (entries_observed x.1.1)) one.named one.formed
          (one.files faithful (subst (λ (now : Contents). Persists now.files x.1) (sym (so_far.same (back faithful))) exists) ∙ ap (λ now. contents_at now.files (entries_observed x.1.1)) (so_far.same (back faithful))))
          (so_far.files (back faithful) all)
          ∙ ap (λ k. map (output_made old) (take k pairs)) next;
    }

pub returns-clause-formed : goal.returns-clause-formed
returns-clause-formed g c =
    let outputs = c.args.task.now.outputs in
    let readings = c.args.readings.items in
    let pairs = zip outputs readings in
    let gives = c.zip-output-items.ensures.second in
    let road = YieldsList-at c.into_iter-output-iterator.ensures.into_iter_gives (YieldsList-from_zip (YieldsList-at c.zip-output-items.ensures.first (YieldsList-from_slice outputs (c.iter.ensures.rest ∙ c.as_slice.ensures))) (YieldsList-from_vec {s = zip_second c.zip-output-items.result} readings gives.0 (gives.1 ∙ c.args.readings.ok.0))) in
    let end = YieldsList-end road c.loop-output.yielded c.loop-output.output-iterator c.loop-output.yielded_by c.next.result c.next.new.self c.in-None.is c.next.ensures.steps in
    c.loop-output.invariant.formed ∙ ap (map form_of) (take_all (length c.loop-output.yielded) pairs (omega (arith, end.1))) ∙ pairs_formed outputs readings c.requires.named

pub returns-clause-files : goal.returns-clause-files
returns-clause-files g c = λ faithful observed.
    let old = (g.F.Folder.device.contents c.args.folder.now).files in
    let outputs = c.args.task.now.outputs in
    let readings = c.args.readings.items in
    let pairs = zip outputs readings in
    let gives = c.zip-output-items.ensures.second in
    let road = YieldsList-at c.into_iter-output-iterator.ensures.into_iter_gives (YieldsList-from_zip (YieldsList-at c.zip-output-items.ensures.first (YieldsList-from_slice outputs (c.iter.ensures.rest ∙ c.as_slice.ensures))) (YieldsList-from_vec {s = zip_second c.zip-output-items.result} readings gives.0 (gives.1 ∙ c.args.readings.ok.0))) in
    let end = YieldsList-end road c.loop-output.yielded c.loop-output.output-iterator c.loop-output.yielded_by c.next.result c.next.new.self c.in-None.is c.next.ensures.steps in
    c.loop-output.invariant.files faithful (pairs_exist old outputs readings observed)
    ∙ ap (map (output_made old)) (take_all (length c.loop-output.yielded) pairs (omega (arith, end.1)))
    ∙ outputs_made old outputs readings observed

pub returns-clause-answered : goal.returns-clause-answered
returns-clause-answered g c = λ first requests were.
    let F = g.F.Folder in
    let outputs = c.args.task.now.outputs in
    let readings = c.args.readings.items in
    let pairs = zip outputs readings in
    let gives = c.zip-output-items.ensures.second in
    let road = YieldsList-at c.into_iter-output-iterator.ensures.into_iter_gives (YieldsList-from_zip (YieldsList-at c.zip-output-items.ensures.first (YieldsList-from_slice outputs (c.iter.ensures.rest ∙ c.as_slice.ensures))) (YieldsList-from_vec {s = zip_second c.zip-output-items.result} readings gives.0 (gives.1 ∙ c.args.readings.ok.0))) in
    let end = YieldsList-end road c.loop-output.yielded c.loop-output.output-iterator c.loop-output.yielded_by c.next.result c.next.new.self c.in-None.is c.next.ensures.steps in
    let Done : Output → OutputFiles → Type 0 = IsOutputRead F.device first c.loop-output.folder in
    firsts_made (IsOutputAnswered F.device first c.args.folder.now) Done outputs readings c.loop-output.observed were
    (subst (λ (ps : List (Output × Read)). AllZip (λ pair files. Done pair.0 files) ps c.loop-output.observed)
    (take_all (length c.loop-output.yielded) pairs (omega (arith, end.1))) (c.loop-output.invariant.answered first requests were))
