use Rattle.std.proofs.Common.{◌≡◌, ◌+◌, ◌&&◌, ℕ, cond, Some, bytes_eq, is_some, Option, List, ◌∷◌, [], ◌++◌, arith, sym, ap, subst, length, length-append, map, option_copied, take, ◌∙◌}
use Rattle.std.specs.List.{AllByRecursion, AllZip, zip}
use Rattle.std.proofs.lemmas.List.{map-append, take_all}
use Rattle.gb_folder.specs.Files.{Contents}
use Rattle.gb_folder.proofs.Asked.{requests_then}
use Rattle.gb_history.specs.Record.{Record}
use Rattle.gb_history.proofs.Lists.{AllByRecursion-push}
use Rattle.gb_plan.specs.Graph.{order}
use Rattle.gb_plan.specs.declared.plan.Planned.{Planned}
use Rattle.gb_label.proofs.Loops.{all_at}
use Rattle.gb_predict.specs.Prediction.{IsPredictedOf, IsReasoned}
use Rattle.gb_graph.specs.Ranked.{number_at}
use Rattle.gb_predict.specs.Least.{AreNotStarting}
use Rattle.gb_predict.specs.Marks.{AreMarkedAfter, culprit, keeper, mark}
use Rattle.gb_predict.proofs.Lost.{lost_more}
use Rattle.gb_predict.specs.declared.predicted_outcome.Prediction.{Prediction}
use Rattle.gb_predict.proofs.Marking.{all_pairs, marked_more, path_more, related_more, zip_prefix}
use Rattle.gb_predict.proofs.Predicting.{all_related, prediction_wider}
use Rattle.gb_predict.proofs.predict.predict_each.Goals as goal

pub prediction-requires-clause-ready : goal.prediction-requires-clause-ready
prediction-requires-clause-ready g c = all_at _ c.args.plan.now c.loop-at.at c.index-plan-at.result c.loop-at-test.true c.index-plan-at.is c.requires.ready

pub prediction-requires-clause-in_order : goal.prediction-requires-clause-in_order
prediction-requires-clause-in_order g c = all_at _ c.args.plan.now c.loop-at.at c.index-plan-at.result c.loop-at-test.true c.index-plan-at.is c.requires.in_order

pub prediction-requires-clause-each : goal.prediction-requires-clause-each
prediction-requires-clause-each g c =
    let long = ap length c.as_slice.ensures.value ∙ c.loop-at.invariant.count in
    let less = c.loop-at-test.true in
    omega (arith, long, less)

pub prediction-requires-clause-not_starting : goal.prediction-requires-clause-not_starting
prediction-requires-clause-not_starting g c =
    subst (λ (reported : List Prediction). AreNotStarting reported c.loop-at.not_starting) (sym c.as_slice.ensures.value) c.loop-at.invariant.not_starting

pub loop-at-preserved : goal.loop-at-preserved
loop-at-preserved g c =
    let F = g.F.Folder in
    let inv = c.loop-at.invariant in
    let back = c.prediction.ensures.reads.requests.back in
    let plan = c.args.plan.now in
    let records = c.args.records.now in
    let at = c.loop-at.at in
    let reported : List Prediction = c.loop-at.reported.items in
    let one : Prediction = c.in_ok-one.one in
    let planned : Planned = c.index-plan-at.result in
    let last : Option Record = c.index-records-at.result in
    let old : Contents = F.device.contents c.args.folder.now in
    let begun = F.device.failures c.args.folder.now in
    let mid = F.device.failures c.loop-at.folder in
    let new = F.device.failures c.prediction.new.folder in
    let more = c.in_ok-keep.ensures.items in
    let here =
    subst (λ (ones : List Prediction). one.after ≡ mark (zip plan ones) planned.task one.coming) c.as_slice.ensures.value
    c.in_ok-one.ensures.marked ∙ ap (λ pairs. mark pairs planned.task one.coming) (sym (zip_prefix plan reported at inv.count)) in
    let lacks = subst (λ (ones : List Prediction). one.kept_by ≡ keeper planned.task ones) c.as_slice.ensures.value c.in_ok-one.ensures.needs in
    let noted : (other : List ℕ) → number_at c.keep.new.not_starting other ≡ cond (is_some (culprit one) && bytes_eq one.path other) (Some (length reported)) (number_at c.loop-at.not_starting other) = λ other.
    c.in_ok-keep.ensures.noted other
    ∙ ap (λ (path : List ℕ). cond (is_some (culprit one) && bytes_eq path other) (Some at) (number_at c.loop-at.not_starting other)) (sym c.in_ok-one.ensures.path)
    ∙ ap (λ n. cond (is_some (culprit one) && bytes_eq one.path other) (Some n) (number_at c.loop-at.not_starting other)) (sym inv.count) in
    record {
      requests = requests_then inv.requests c.prediction.ensures.reads.requests;
      back = λ known. inv.back (back known);
      same = λ faithful. c.prediction.ensures.reads.same faithful ∙ inv.same (back faithful);
      count = ap length more ∙ length-append reported (one ∷ []) ∙ ap (λ n. n + 1) inv.count;
      paths =
          path_more (λ (p : Planned). p.task.path) plan (map (λ (f : Prediction). f.path) reported) _ at planned c.loop-at-test.true c.index-plan-at.is inv.paths
          (ap (map (λ (f : Prediction). f.path)) more ∙ map-append (λ (f : Prediction). f.path) reported (one ∷ []) ∙ ap (λ path. map (λ (f : Prediction). f.path) reported ++ path ∷ []) c.in_ok-one.ensures.path);
      reasoned = subst (AllByRecursion (λ (f : Prediction). IsReasoned f.coming)) (sym more) (AllByRecursion-push (λ (f : Prediction). IsReasoned f.coming) reported one inv.reasoned c.in_ok-one.ensures.reasoned);
      marked =
          subst (λ (l : List Prediction). AreMarkedAfter [] (zip (take (at + 1) plan) l)) (sym more)
          (marked_more plan reported at planned one c.loop-at-test.true inv.count c.index-plan-at.is inv.marked here lacks);
      not_starting = subst (λ (l : List Prediction). AreNotStarting l c.keep.new.not_starting) (sym more) (lost_more reported one c.loop-at.not_starting c.keep.new.not_starting inv.not_starting noted);
      prediction = λ faithful kinds agrees.
          let Is : ℕ → Planned × Option Record → Prediction → Type 0 = λ until pair f. IsPredictedOf kinds c.args.options pair.0.task old pair.1 begun until f.coming in
          subst (AllZip (Is new) (take (at + 1) (zip plan records))) (sym more)
          (related_more (Is new) plan records reported at planned last one c.loop-at-test.true (omega (arith, c.loop-at-test.true, c.requires.each)) c.index-plan-at.is c.index-records-at.is
          (all_related (Is mid) (Is new)
          (λ pair f is. prediction_wider kinds c.args.options pair.0.task old pair.1 begun begun mid new f.coming (omega arith) inv.requests.count c.prediction.ensures.reads.requests.count is)
          (take at (zip plan records)) reported (inv.prediction (back faithful) kinds agrees))
          (prediction_wider kinds c.args.options planned.task old last begun mid new new one.coming inv.requests.count c.prediction.ensures.reads.requests.count (omega arith)
          (subst (λ (read : Option Record). IsPredictedOf kinds c.args.options planned.task old read mid new one.coming) c.as_ref-last.ensures.value
          (subst (λ (folder : Contents). IsPredictedOf kinds c.args.options planned.task folder (option_copied c.as_ref-last.result) mid new one.coming) (inv.same (back faithful))
          (c.in_ok-one.ensures.prediction faithful kinds agrees)))));
    }

pub returns-clause-paths : goal.returns-clause-paths
returns-clause-paths g c = c.loop-at.invariant.paths ∙ ap order (take_all c.loop-at.at c.args.plan.now c.loop-at-test.false)

pub returns-clause-marked : goal.returns-clause-marked
returns-clause-marked g c =
    subst (λ (plan : List Planned). AreMarkedAfter [] (zip plan c.loop-at.reported.items)) (take_all c.loop-at.at c.args.plan.now c.loop-at-test.false) c.loop-at.invariant.marked

pub returns-clause-prediction : goal.returns-clause-prediction
returns-clause-prediction g c = λ faithful kinds agrees.
    let F = g.F.Folder in
    subst (λ (pairs : List (Planned × Option Record)). AllZip (λ pair (f : Prediction). IsPredictedOf kinds c.args.options pair.0.task (F.device.contents c.args.folder.now) pair.1 (F.device.failures c.args.folder.now) (F.device.failures c.loop-at.folder) f.coming) pairs c.loop-at.reported.items)
    (all_pairs c.args.plan.now c.args.records.now c.loop-at.at c.loop-at-test.false) (c.loop-at.invariant.prediction faithful kinds agrees)
