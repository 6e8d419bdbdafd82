use Rattle.std.proofs.Common.{◌≡◌, ◌⊎◌, ◌+◌, ◌||◌, ◌++◌, ◌∷◌, [], List, Some, inl, inr, length, take, sym, ap, ◌∙◌, arith}
use Rattle.std.proofs.Math.Seq.{take-length}
use Rattle.std.proofs.lemmas.Result.{err_from_is_err_and}
use Rattle.std.specs.List.{flat_map}
use Rattle.std.specs.Prelude.{bytes_eq}
use Rattle.gb_core.specs.Lists.{first_of}
use Rattle.gb_report.specs.declared.fault.Fault.{Fault}
use Rattle.gb_report.specs.declared.fault.Fault.TheVariants.{OutOfMemory}
use Rattle.gb_plan.specs.Task.{Path, has_path}
use Rattle.gb_plan.specs.Refusal.{word_faults}
use Rattle.gb_graph.specs.Words.{newly_selected, selected_once}
use Rattle.gb_graph.proofs.Newly.{newly_push, none_again, take_next}
use Rattle.gb_graph.proofs.Queues.{has_push}
use Rattle.gb_graph.proofs.Selections.{err_so, first_at, flat_more}
use Rattle.gb_graph.proofs.selection.select_all.Goals as goal

pub loop-word-preserved : goal.loop-word-preserved
loop-word-preserved g c =
    let registry = g.T.Tasks.registry c.args.tasks.now in
    let words = c.args.words.now in
    let i = c.loop-word.word-index in
    let word = c.word-item.result in
    let found : List (List Path) = c.loop-word.found.items in
    let more : take (i + 1) words ≡ take i words ++ word ∷ [] = take_next words i word c.loop-word-test.true c.word-item.is in
    let old = c.loop-word.invariant in
    let was = old.before word in
    record {
      before = λ text. c.in_ok-select_once.ensures.before text ∙ (ap (λ b. b || bytes_eq text word) (old.before text) ∙ (sym (has_push (take i words) word text) ∙ ap (λ ws. has_path ws text) (sym more)));
      selected =
          c.in_ok-push.ensures.items
          ∙ ap (λ (ps : List Path). found ++ ps ∷ []) (c.in_ok-select_once.ensures.selected ∙ ap (λ b. selected_once registry b word) was)
          ∙ ap (λ (fs : List (List Path)). fs ++ selected_once registry (has_path (take i words) word) word ∷ []) old.selected
          ∙ (sym (newly_push registry [] (take i words) word) ∙ ap (newly_selected registry []) (sym more));
      good =
          flat_more (word_faults registry) words i word c.loop-word-test.true c.word-item.is
          ∙ (λ j. old.good j ++ none_again (word_faults registry) (take i words) word old.good (λ e. c.in_ok-select_once.ensures.good (was ∙ e)) j);
    }

pub returns : goal.returns
returns g c =
    let registry = g.T.Tasks.registry c.args.tasks.now in
    let words = c.args.words.now in
    let e : length words ≡ c.loop-word.word-index = omega (arith, c.loop-word-test.false, c.loop-word.auto.word-index-end) in
    let whole : take c.loop-word.word-index words ≡ words = ap (λ n. take n words) (sym e) ∙ take-length words in
    record {
      selected = c.loop-word.invariant.selected ∙ ap (newly_selected registry []) whole;
      good = ap (flat_map (word_faults registry)) (sym whole) ∙ c.loop-word.invariant.good;
      bad = tt;
    }

pub returns-in_err-select_once-clause-bad : goal.returns-in_err-select_once-clause-bad
returns-in_err-select_once-clause-bad g c =
    let registry = g.T.Tasks.registry c.args.tasks.now in
    let words = c.args.words.now in
    let fault : Fault = c.in_err-select_once.field-0.0 in
    let p = err_from_is_err_and c.from_residual.result c.from_residual.ensures.1 in
    err_so (λ f. (f ≡ OutOfMemory) ⊎ (first_of (flat_map (word_faults registry) words) ≡ Some f)) c.from_residual.result p.0 fault p.1 p.2 (elim c.in_err-select_once.ensures.bad [
      | inl e ↦ inl e
      | inr e ↦ inr (first_at (word_faults registry) words c.loop-word.word-index c.word-item.result fault c.loop-word-test.true c.word-item.is c.loop-word.invariant.good e)
    ])
