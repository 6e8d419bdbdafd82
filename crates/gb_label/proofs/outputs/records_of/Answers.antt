use Rattle.std.proofs.Common.{arith, ◌∷◌, ◌++◌, [], length, map, take, sym, ◌∙◌, ap, refl}
use Rattle.std.proofs.lemmas.Iterator.{YieldsList-from_slice, YieldsList-from_zip}
use Rattle.std.proofs.lemmas.Iterator.Adapters.{YieldsList-from_vec}
use Rattle.std.proofs.lemmas.Iterator.Consumers.{YieldsList-at, YieldsList-end, YieldsList-turn}
use Rattle.std.proofs.lemmas.List.{length_push, take_all}
use Rattle.std.specs.Iterator.Adapters.{zip_second}
use Rattle.std.specs.List.{zip}
use Rattle.gb_history.specs.Record.{Prints}
use Rattle.gb_history.specs.declared.record.OutputRecord.{OutputRecord}
use Rattle.gb_plan.specs.declared.task.Output.{Output}
use Rattle.gb_label.specs.Reading.{record_with}
use Rattle.gb_label.proofs.Readings.{gathered_more}
use Rattle.gb_label.proofs.outputs.records_of.Goals as goal

pub loop-output-preserved : goal.loop-output-preserved
loop-output-preserved c =
    let outputs = c.args.task.now.outputs in
    let prints = c.args.prints.items in
    let pairs = zip outputs prints in
    let x : Output × Prints = (c.in-Some.output.now, c.in-Some.prints) in
    let gives = c.zip-output-items.ensures.second in
    let road = YieldsList-at c.into_iter-output-iterator.ensures.into_iter_gives (YieldsList-from_zip (YieldsList-at c.zip-output-items.ensures.first (YieldsList-from_slice outputs (c.iter.ensures.rest ∙ c.as_slice.ensures))) (YieldsList-from_vec {s = zip_second c.zip-output-items.result} prints gives.0 (gives.1 ∙ c.args.prints.ok.0))) in
    let execution = YieldsList-turn road c.loop-output.yielded c.loop-output.output-iterator c.loop-output.yielded_by c.next.result c.next.new.self _ c.in-Some.is c.next.ensures.steps in
    let next = sym (length_push c.loop-output.yielded (c.in-Some.output, c.in-Some.prints)) in
    gathered_more record_with c.loop-output.records.items c.push.new.self.items (record_with (x.0, x.1)) pairs (length c.loop-output.yielded) x execution.0 execution.1
    (c.in_ok-push.ensures.items ∙ ap (λ place. c.loop-output.records.items ++ (let made : OutputRecord = record { form = x.0.form; place = place; prints = x.1 } in made) ∷ []) c.in_ok-copy.ensures)
    refl c.loop-output.invariant
    ∙ ap (λ k. map record_with (take k pairs)) next

pub returns : goal.returns
returns c =
    let outputs = c.args.task.now.outputs in
    let prints = c.args.prints.items in
    let pairs = zip outputs prints in
    let gives = c.zip-output-items.ensures.second in
    let road = YieldsList-at c.into_iter-output-iterator.ensures.into_iter_gives (YieldsList-from_zip (YieldsList-at c.zip-output-items.ensures.first (YieldsList-from_slice outputs (c.iter.ensures.rest ∙ c.as_slice.ensures))) (YieldsList-from_vec {s = zip_second c.zip-output-items.result} prints gives.0 (gives.1 ∙ c.args.prints.ok.0))) in
    let end = YieldsList-end road c.loop-output.yielded c.loop-output.output-iterator c.loop-output.yielded_by c.next.result c.next.new.self c.in-None.is c.next.ensures.steps in
    c.loop-output.invariant ∙ ap (map record_with) (take_all (length c.loop-output.yielded) pairs (omega (arith, end.1)))
