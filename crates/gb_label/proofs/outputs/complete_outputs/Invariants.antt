use Rattle.std.proofs.Common.{◌≡◌, length, map, take}
use Rattle.std.specs.List.{AllByRecursion, AllZip, zip}
use Rattle.gb_folder.specs.Calls.{Requests, no_change}
use Rattle.gb_label.specs.ReadingAnswered.{IsOutputAnswered, IsOutputRead}
use Rattle.gb_label.specs.Reading.{prints_observed}
use Rattle.gb_label.proofs.Readings.{Persists, form_of, output_made}
use Rattle.gb_label.proofs.outputs.complete_outputs.Given as goal

abbrev pub invariant-loop-output : goal.invariant-loop-output
invariant-loop-output g l =
    let contents = g.F.Folder.device.contents in
    let old = (contents l.fn.folder).files in
    let pairs = zip l.task.outputs l.fn.readings.items in
    let done = take (length l.yielded) pairs in
    record {
      can_next : (goal.iterator-loop-output g).can_next l.output-iterator;
      is_finite : (goal.iterator-loop-output g).is_finite l.output-iterator;
      requests : Requests g.F.Folder.device no_change l.fn.folder l.folder;
      back : g.F.Folder.device.faithful l.folder → g.F.Folder.device.faithful l.fn.folder;
      same : g.F.Folder.device.faithful l.folder → contents l.folder ≡ contents l.fn.folder;
      formed : map (λ output. (output.name, output.form)) l.observed ≡ map form_of done;
      digests : l.prints.items ≡ prints_observed l.observed;
      answered : (first : _) → Requests g.F.Folder.device no_change first l.fn.folder
          → AllZip (IsOutputAnswered g.F.Folder.device first l.fn.folder) l.task.outputs l.fn.readings.items
          → AllZip (λ pair observed. IsOutputRead g.F.Folder.device first l.folder pair.0 observed) done l.observed;
      files : g.F.Folder.device.faithful l.folder → AllByRecursion (λ pair. Persists old pair.1) pairs → l.observed ≡ map (output_made old) done;
    }
