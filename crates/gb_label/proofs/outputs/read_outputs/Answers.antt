use Rattle.std.proofs.Common.{◌≡◌, ◌≤◌, ◌<◌, length, get_or, ◌++◌, List, map, IsTrue, IfErr, sym, ap, subst, take, ◌∙◌, inl, inr, arith}
use Rattle.std.proofs.lemmas.Result.{err_from_is_err_and}
use Rattle.std.proofs.lemmas.List.{take_all}
use Rattle.std.specs.List.{AllByRecursion, AllZip, flat_map}
use Rattle.gb_core.specs.Lists.{first_of}
use Rattle.gb_core.specs.Place.{is_under}
use Rattle.gb_folder.proofs.Asked.{requests_nothing, requests_then}
use Rattle.gb_folder.specs.Files.{Contents}
use Rattle.gb_history.specs.Record.{Prints}
use Rattle.gb_history.proofs.Lists.{map_twice}
use Rattle.gb_report.specs.declared.fault.Fault.{Fault}
use Rattle.gb_plan.specs.Task.{is_output_of}
use Rattle.gb_plan.specs.declared.task.Output.{Output}
use Rattle.gb_folder.proofs.Machine.{at_err, handed_on, machine_before}
use Rattle.gb_folder.proofs.Loops.{any_here}
use Rattle.gb_tree.proofs.Answering.{all_zip_more}
use Rattle.gb_tree.proofs.Holding.{all_wider}
use Rattle.gb_tree.proofs.Observed.{each_more}
use Rattle.gb_tree.proofs.Remembering.{known_still, seen_longer}
use Rattle.gb_tree.specs.Prints.{digests_of}
use Rattle.gb_tree.specs.DigestCache.{AreCachedIn}
use Rattle.gb_tree.specs.Tree.{files_from}
use Rattle.gb_tree.specs.declared.kept.ScannedFile.{ScannedFile}
use Rattle.gb_label.specs.ReadingAnswered.{IsOutputAnswered}
use Rattle.gb_label.specs.Reading.{CannotRead, IsOutputObserved, Read, print_faults, recorded_of}
use Rattle.gb_label.proofs.ReadingAnswering.{output_longer}
use Rattle.gb_label.proofs.Loops.{one_more, name_more, first_of_all}
use Rattle.gb_label.proofs.Readings.{prints_more, observed_more}
use Rattle.gb_label.proofs.outputs.read_outputs.Goals as goal

pub returns-in_err-read_one-clause-blamed : goal.returns-in_err-read_one-clause-blamed
returns-in_err-read_one-clause-blamed g c = λ place device.
    let p = err_from_is_err_and c.from_residual.result c.from_residual.ensures.1 in
    let outputs = c.args.task.now.outputs in
    let index = c.loop-output.output-index in
    let item = c.output-item.result in
    let less = subst (λ (os : List Output). index < length os) c.as_slice-output-items.ensures c.loop-output-test.true in
    let is = subst (λ (os : List Output). item ≡ get_or os index item) c.as_slice-output-items.ensures c.output-item.is in
    any_here (λ (output : Output). is_under place output.place) outputs index item less is
    (c.read_one.ensures.blamed place (handed_on c.from_residual.result c.read_one.result p.0 c.in_err-read_one.field-0.0 place p.1 p.2 c.in_err-read_one.was device))

pub returns-in_err-read_one-clause-err : goal.returns-in_err-read_one-clause-err
returns-in_err-read_one-clause-err g c = λ faithful known.
    let p = err_from_is_err_and c.from_residual.result c.from_residual.ensures.1 in
    let old = g.F.Folder.device.contents c.args.folder.now in
    let outputs = c.args.task.now.outputs in
    let index = c.loop-output.output-index in
    let item = c.output-item.result in
    let less = subst (λ (os : List Output). index < length os) c.as_slice-output-items.ensures c.loop-output-test.true in
    let is = subst (λ (os : List Output). item ≡ get_or os index item) c.as_slice-output-items.ensures c.output-item.is in
    let IsFault : Fault → Type 0 = CannotRead (g.F.Folder.device.failures c.args.folder.now) (g.F.Folder.device.failures c.read_one.new.folder) (flat_map (print_faults old) c.args.task.now.outputs) in
    at_err (λ r. IfErr r IsFault) c.from_residual.result p.0 c.in_err-read_one.field-0.0 p.1 p.2 (elim (c.in_err-read_one.ensures.err faithful (known_still _ _ c.args.seen.now (c.loop-output.invariant.same (c.read_one.ensures.reads.requests.back faithful)) known)) [
      | inl machine ↦ inl (machine_before _ _ _ _ c.loop-output.invariant.requests.count c.read_one.ensures.reads.requests.count machine)
      | inr first ↦ inr (first_of_all (print_faults old) outputs index item _ less is (c.loop-output.invariant.fit (c.read_one.ensures.reads.requests.back faithful) known)
          (ap (λ folder. first_of (print_faults folder item)) (sym (c.loop-output.invariant.same (c.read_one.ensures.reads.requests.back faithful))) ∙ first))
    ])

pub loop-output-preserved : goal.loop-output-preserved
loop-output-preserved g c =
    let task = c.args.task.now in
    let old = g.F.Folder.device.contents c.args.folder.now in
    let outputs = task.outputs in
    let index = c.loop-output.output-index in
    let item = c.output-item.result in
    let less = subst (λ (os : List Output). index < length os) c.as_slice-output-items.ensures c.loop-output-test.true in
    let is = subst (λ (os : List Output). item ≡ get_or os index item) c.as_slice-output-items.ensures c.output-item.is in
    let so_far = c.loop-output.invariant in
    let back = c.read_one.ensures.reads.requests.back in
    let readings = c.loop-output.readings.items in
    let next = c.push.new.self.items in
    let added = c.in_ok-push.ensures.items in
    let one = c.in_ok-read_one.ensures in
    let x : Read = c.in_ok-read_one.field-0 in
    let known_now = λ (faithful : g.F.Folder.device.faithful c.read_one.new.folder) (known : AreCachedIn old.files c.args.seen.now). known_still _ _ c.args.seen.now (so_far.same (back faithful)) known in
    let reported : Output → Prints = λ output. (recorded_of old.files output).prints in
    record {
      requests = requests_then so_far.requests c.read_one.ensures.reads.requests;
      back = λ known. so_far.back (back known);
      same = λ faithful. c.read_one.ensures.reads.same faithful ∙ so_far.same (back faithful);
      named = name_more (λ (reading : Read). reading.0) (λ (output : Output). output.name) readings next x outputs index item less is so_far.named added one.named;
      within =
          each_more (λ (reading : Read). AllByRecursion (λ observed. IsTrue (is_output_of task observed.place)) reading.1) readings next x added so_far.within
          (all_wider (λ (observed : ScannedFile). IsTrue (is_under observed.place item.place)) (λ (observed : ScannedFile). IsTrue (is_output_of task observed.place)) x.1
          (λ observed under. any_here (λ (output : Output). is_under observed.place output.place) outputs index item less is under) one.within);
      answered = λ first before known.
          let F = g.F.Folder in
          let now = c.read_one.new.folder in
          let Answered : Output → Read → Type 0 = IsOutputAnswered F.device first now in
          observed_more Answered outputs readings next index item x less is added
          (all_zip_more (IsOutputAnswered F.device first c.loop-output.folder) Answered (output_longer (requests_nothing first) c.read_one.ensures.reads.requests)
          (take index outputs) readings (so_far.answered first before known))
          (one.answered first (requests_then before so_far.requests) (seen_longer (requests_nothing first) so_far.requests c.args.seen.now known));
      prints = λ faithful known.
          prints_more reported readings next x outputs index item less is added one.named
          (one.digests faithful (known_now faithful known) ∙ ap (λ folder. digests_of (files_from folder.files item.place)) (so_far.same (back faithful))) (so_far.prints (back faithful) known);
      observed = λ faithful known.
          observed_more (IsOutputObserved old.files) outputs readings next index item x less is added (so_far.observed (back faithful) known)
          (subst (λ (now : Contents). IsOutputObserved now.files item x) (so_far.same (back faithful)) (one.observed faithful (known_now faithful known)));
      fit = λ faithful known.
          one_more (print_faults old) outputs index item less is
          ∙ ap (λ xs. xs ++ print_faults old item) (so_far.fit (back faithful) known)
          ∙ (ap (λ folder. print_faults folder item) (sym (so_far.same (back faithful))) ∙ one.fit faithful (known_now faithful known));
    }

pub returns-clause-read : goal.returns-clause-read
returns-clause-read g c =
    let outputs = c.args.task.now.outputs in
    let index = c.loop-output.output-index in
    let long : length outputs ≤ index = omega (arith, c.loop-output-test.false, ap length c.as_slice-output-items.ensures) in
    record {
      named = c.loop-output.invariant.named ∙ ap (map (λ (output : Output). output.name)) (take_all index outputs long);
      within = c.loop-output.invariant.within;
    }

pub returns-clause-prints : goal.returns-clause-prints
returns-clause-prints g c = λ faithful known.
    let old = g.F.Folder.device.contents c.args.folder.now in
    let outputs = c.args.task.now.outputs in
    let index = c.loop-output.output-index in
    let long : length outputs ≤ index = omega (arith, c.loop-output-test.false, ap length c.as_slice-output-items.ensures) in
    c.loop-output.invariant.prints faithful known
    ∙ ap (map (λ (output : Output). (recorded_of old.files output).prints)) (take_all index outputs long)
    ∙ map_twice (recorded_of old.files) (λ made. made.prints) outputs

pub returns-clause-observed : goal.returns-clause-observed
returns-clause-observed g c = λ faithful known.
    let old = g.F.Folder.device.contents c.args.folder.now in
    let outputs = c.args.task.now.outputs in
    let index = c.loop-output.output-index in
    let long : length outputs ≤ index = omega (arith, c.loop-output-test.false, ap length c.as_slice-output-items.ensures) in
    subst (λ (os : List Output). AllZip (IsOutputObserved old.files) os c.loop-output.readings.items) (take_all index outputs long) (c.loop-output.invariant.observed faithful known)

pub returns-clause-answered : goal.returns-clause-answered
returns-clause-answered g c = λ first before known.
    let F = g.F.Folder in
    let outputs = c.args.task.now.outputs in
    let index = c.loop-output.output-index in
    let long : length outputs ≤ index = omega (arith, c.loop-output-test.false, ap length c.as_slice-output-items.ensures) in
    subst (λ (os : List Output). AllZip (IsOutputAnswered F.device first c.loop-output.folder) os c.loop-output.readings.items)
    (take_all index outputs long) (c.loop-output.invariant.answered first before known)
