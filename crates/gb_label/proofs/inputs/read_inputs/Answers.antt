use Rattle.std.proofs.Common.{◌≡◌, ◌≤◌, ◌<◌, length, get_or, ◌++◌, List, map, IsTrue, IfErr, sym, ap, subst, take, ◌∙◌, inl, inr, arith}
use Rattle.std.proofs.lemmas.Result.{err_from_is_err_and}
use Rattle.std.proofs.lemmas.List.{take_all}
use Rattle.std.specs.List.{AllByRecursion, AllZip}
use Rattle.gb_core.specs.Lists.{first_of}
use Rattle.gb_core.specs.Place.{is_under}
use Rattle.gb_folder.proofs.Asked.{requests_nothing, requests_then}
use Rattle.gb_folder.specs.Files.{Contents}
use Rattle.gb_history.specs.Record.{Prints}
use Rattle.gb_history.proofs.Lists.{map_twice}
use Rattle.gb_report.specs.declared.fault.Fault.{Fault}
use Rattle.gb_plan.specs.declared.task.FileProperty.{FileProperty}
use Rattle.gb_folder.proofs.Machine.{at_err, handed_on, machine_before}
use Rattle.gb_tree.proofs.Answering.{all_zip_more}
use Rattle.gb_tree.proofs.Holding.{all_wider}
use Rattle.gb_tree.proofs.Observed.{each_more}
use Rattle.gb_tree.proofs.Remembering.{known_still, seen_longer}
use Rattle.gb_tree.specs.Prints.{digests_of}
use Rattle.gb_tree.specs.Property.{is_under_any}
use Rattle.gb_tree.specs.DigestCache.{AreCachedIn}
use Rattle.gb_tree.specs.declared.kept.ScannedFile.{ScannedFile}
use Rattle.gb_semantics.specs.Tree.{tree_faults, tree_of, input_faults}
use Rattle.gb_label.specs.ReadingAnswered.{IsInputAnswered}
use Rattle.gb_label.specs.Reading.{CannotRead, IsPropertyObserved, Read, is_input_of}
use Rattle.gb_label.proofs.ReadingAnswering.{input_longer}
use Rattle.gb_label.proofs.Loops.{any_of_one, one_more, name_more, first_of_all}
use Rattle.gb_label.proofs.Readings.{prints_more, observed_more}
use Rattle.gb_label.proofs.inputs.read_inputs.Goals as goal

pub returns-in_err-read_one-clause-blamed : goal.returns-in_err-read_one-clause-blamed
returns-in_err-read_one-clause-blamed g c = λ place device.
    let p = err_from_is_err_and c.from_residual.result c.from_residual.ensures.1 in
    let files = c.args.task.now.files in
    let index = c.loop-property.property-index in
    let item = c.property-item.result in
    let less = subst (λ (fs : List FileProperty). index < length fs) c.as_slice-property-items.ensures c.loop-property-test.true in
    let is = subst (λ (fs : List FileProperty). item ≡ get_or fs index item) c.as_slice-property-items.ensures c.property-item.is in
    any_of_one (is_under place) (λ property. property.roots) files index item less is
    (c.read_one.ensures.blamed place (handed_on c.from_residual.result c.read_one.result p.0 c.in_err-read_one.field-0.0 place p.1 p.2 c.in_err-read_one.was device))

pub returns-in_err-read_one-clause-err : goal.returns-in_err-read_one-clause-err
returns-in_err-read_one-clause-err g c = λ faithful known.
    let p = err_from_is_err_and c.from_residual.result c.from_residual.ensures.1 in
    let old = g.F.Folder.device.contents c.args.folder.now in
    let files = c.args.task.now.files in
    let index = c.loop-property.property-index in
    let item = c.property-item.result in
    let less = subst (λ (fs : List FileProperty). index < length fs) c.as_slice-property-items.ensures c.loop-property-test.true in
    let is = subst (λ (fs : List FileProperty). item ≡ get_or fs index item) c.as_slice-property-items.ensures c.property-item.is in
    let IsFault : Fault → Type 0 = CannotRead (g.F.Folder.device.failures c.args.folder.now) (g.F.Folder.device.failures c.read_one.new.folder) (input_faults c.args.task.now old) in
    at_err (λ r. IfErr r IsFault) c.from_residual.result p.0 c.in_err-read_one.field-0.0 p.1 p.2 (elim (c.in_err-read_one.ensures.err faithful (known_still _ _ c.args.seen.now (c.loop-property.invariant.same (c.read_one.ensures.reads.requests.back faithful)) known)) [
      | inl machine ↦ inl (machine_before _ _ _ _ c.loop-property.invariant.requests.count c.read_one.ensures.reads.requests.count machine)
      | inr first ↦ inr (first_of_all (λ property. tree_faults property old) files index item _ less is (c.loop-property.invariant.fit (c.read_one.ensures.reads.requests.back faithful) known)
          (ap (λ folder. first_of (tree_faults item folder)) (sym (c.loop-property.invariant.same (c.read_one.ensures.reads.requests.back faithful))) ∙ first))
    ])

pub loop-property-preserved : goal.loop-property-preserved
loop-property-preserved g c =
    let task = c.args.task.now in
    let old = g.F.Folder.device.contents c.args.folder.now in
    let files = task.files in
    let index = c.loop-property.property-index in
    let item = c.property-item.result in
    let less = subst (λ (fs : List FileProperty). index < length fs) c.as_slice-property-items.ensures c.loop-property-test.true in
    let is = subst (λ (fs : List FileProperty). item ≡ get_or fs index item) c.as_slice-property-items.ensures c.property-item.is in
    let so_far = c.loop-property.invariant in
    let back = c.read_one.ensures.reads.requests.back in
    let readings = c.loop-property.readings.items in
    let next = c.push.new.self.items in
    let added = c.in_ok-push.ensures.items in
    let one = c.in_ok-read_one.ensures in
    let x : Read = c.in_ok-read_one.field-0 in
    let known_now = λ (faithful : g.F.Folder.device.faithful c.read_one.new.folder) (known : AreCachedIn old.files c.args.seen.now). known_still _ _ c.args.seen.now (so_far.same (back faithful)) known in
    let reported : FileProperty → Prints = λ property. (property.name, digests_of (tree_of property old.files)) in
    record {
      requests = requests_then so_far.requests c.read_one.ensures.reads.requests;
      back = λ known. so_far.back (back known);
      same = λ faithful. c.read_one.ensures.reads.same faithful ∙ so_far.same (back faithful);
      named = name_more (λ (reading : Read). reading.0) (λ (property : FileProperty). property.name) readings next x files index item less is so_far.named added one.named;
      within =
          each_more (λ (reading : Read). AllByRecursion (λ observed. IsTrue (is_input_of task observed.place)) reading.1) readings next x added so_far.within
          (all_wider (λ (observed : ScannedFile). IsTrue (is_under_any item.roots observed.place)) (λ (observed : ScannedFile). IsTrue (is_input_of task observed.place)) x.1
          (λ observed under. any_of_one (is_under observed.place) (λ property. property.roots) files index item less is under) one.within);
      answered = λ first before known.
          let F = g.F.Folder in
          let now = c.read_one.new.folder in
          let Answered : FileProperty → Read → Type 0 = IsInputAnswered F.device first now in
          observed_more Answered files readings next index item x less is added
          (all_zip_more (IsInputAnswered F.device first c.loop-property.folder) Answered (input_longer (requests_nothing first) c.read_one.ensures.reads.requests)
          (take index files) readings (so_far.answered first before known))
          (one.answered first (requests_then before so_far.requests) (seen_longer (requests_nothing first) so_far.requests c.args.seen.now known));
      prints = λ faithful known.
          prints_more reported readings next x files index item less is added one.named
          (one.digests faithful (known_now faithful known) ∙ ap (λ folder. digests_of (tree_of item folder.files)) (so_far.same (back faithful))) (so_far.prints (back faithful) known);
      observed = λ faithful known.
          observed_more (IsPropertyObserved old.files) files readings next index item x less is added (so_far.observed (back faithful) known)
          (subst (λ (now : Contents). IsPropertyObserved now.files item x) (so_far.same (back faithful)) (one.observed faithful (known_now faithful known)));
      fit = λ faithful known.
          one_more (λ property. tree_faults property old) files index item less is
          ∙ ap (λ xs. xs ++ tree_faults item old) (so_far.fit (back faithful) known) ∙ (ap (tree_faults item) (sym (so_far.same (back faithful))) ∙ one.fit faithful (known_now faithful known));
    }

pub returns-clause-read : goal.returns-clause-read
returns-clause-read g c =
    let files = c.args.task.now.files in
    let index = c.loop-property.property-index in
    let long : length files ≤ index = omega (arith, c.loop-property-test.false, ap length c.as_slice-property-items.ensures) in
    record {
      named = c.loop-property.invariant.named ∙ ap (map (λ (property : FileProperty). property.name)) (take_all index files long);
      within = c.loop-property.invariant.within;
    }

pub returns-clause-prints : goal.returns-clause-prints
returns-clause-prints g c = λ faithful known.
    let old = g.F.Folder.device.contents c.args.folder.now in
    let files = c.args.task.now.files in
    let index = c.loop-property.property-index in
    let long : length files ≤ index = omega (arith, c.loop-property-test.false, ap length c.as_slice-property-items.ensures) in
    c.loop-property.invariant.prints faithful known
    ∙ ap (map (λ (property : FileProperty). (property.name, digests_of (tree_of property old.files)))) (take_all index files long)
    ∙ map_twice (λ (property : FileProperty). (property.name, tree_of property old.files)) (λ tree. (tree.0, digests_of tree.1)) files

pub returns-clause-observed : goal.returns-clause-observed
returns-clause-observed g c = λ faithful known.
    let old = g.F.Folder.device.contents c.args.folder.now in
    let files = c.args.task.now.files in
    let index = c.loop-property.property-index in
    let long : length files ≤ index = omega (arith, c.loop-property-test.false, ap length c.as_slice-property-items.ensures) in
    subst (λ (fs : List FileProperty). AllZip (IsPropertyObserved old.files) fs c.loop-property.readings.items) (take_all index files long) (c.loop-property.invariant.observed faithful known)

pub returns-clause-answered : goal.returns-clause-answered
returns-clause-answered g c = λ first before known.
    let F = g.F.Folder in
    let files = c.args.task.now.files in
    let index = c.loop-property.property-index in
    let long : length files ≤ index = omega (arith, c.loop-property-test.false, ap length c.as_slice-property-items.ensures) in
    subst (λ (fs : List FileProperty). AllZip (IsInputAnswered F.device first c.loop-property.folder) fs c.loop-property.readings.items)
    (take_all index files long) (c.loop-property.invariant.answered first before known)
