-- What a run that fails prints, and what it leaves.
use Rattle.std.proofs.Common.{◌≡◌, ◌+◌, ◌⊎◌, inl, inr, ℕ, suc, true, false, cond, not, List, [], ◌∷◌, ◌++◌, length, take, Option, Some, None, Result, Ok, Err, map, refl, sym, ap, subst, ◌∙◌, arith, length-append}
use Rattle.std.specs.Prelude.{Contains, bytes_eq}
use Rattle.std.specs.Cmp.Lexicographic.{bytes_decides}
use Rattle.std.specs.List.{AllByRecursion, flat_map}
use Rattle.std.proofs.lemmas.Bool.{not-true, false≢true}
use Rattle.std.proofs.lemmas.List.Elements.{Contains-append_left, Contains-append_right}
use Rattle.gb_folder.specs.Files.{Place, Bytes, Files, file_at, with_left}
use Rattle.gb_folder.proofs.Changes.{file_at-with_file, file_at-without}
use Rattle.gb_report.specs.declared.fault.Fault.{Fault}
use Rattle.gb_report.specs.declared.fault.Fault.TheVariants as faults
use Rattle.gb_action.specs.declared.reply.Written.{Written}
use Rattle.gb_action.specs.Changes.{Changes}
use Rattle.gb_action.specs.Files.{Trees}
use Rattle.gb_plan.specs.Task.{Text, is_output_of}
use Rattle.gb_plan.specs.declared.task.Action.{Action}
use Rattle.gb_plan.specs.declared.task.TaskDeclaration.{TaskDeclaration as Task}
use Rattle.gb_semantics.specs.Kinds.{Kinds, kind_of}
use Rattle.gb_semantics.specs.Tree.{has_no_source, trees_of}
use Rattle.gb_semantics.specs.Made.{blocked_in, file_faults, full_outputs, placed, put_over, rest_of, step_faults}
use Rattle.gb_semantics.specs.Run.{Ended, ends, hindrances, or_end, step_by, unless_hindered}
use Rattle.gb_semantics.specs.Execution.{IsWritten, lines_of}
use Rattle.gb_semantics.specs.Events.{IsTornInRun, Setting, ExistsInRun}
use Rattle.gb_semantics.proofs.Lemmas.Ending.{ended_is_made}
use Rattle.gb_run.specs.RunInput.{RunInput, files_at_hand, run_along, whole_run}
use Rattle.gb_run.specs.Failing.{FailsByItself, InFull, RunState, RunMode, files_then}
use Rattle.gb_run.specs.Laws.{EndedRunsAreMade, FailedRunsInventNothingInFull, FailedRunsPrintPrefixes, run_input_in}
use Rattle.gb_run.specs.Named.{put}
use Rattle.gb_run.specs.Stepping.{FailsByMachine}
use Rattle.gb_run.specs.Steps.{Step, after_steps}
use Rattle.gb_run.proofs.AsSteps.{IsParted, after_put, parted}
use Rattle.gb_run.proofs.AtOutputs.{BlamesNone, counts_blame_none, files_blame_none}
use Rattle.gb_run.proofs.Endings.{following-done, on, run}
use Rattle.gb_run.proofs.Invented.{IsOf, found_in, in_over, in_where, none_in, of_free, of_held, of_more}
use Rattle.gb_run.proofs.Writer.{heads}
use Rattle.gb_tree.proofs.Holding.{all_append}

pub ended_runs_are_made : EndedRunsAreMade
ended_runs_are_made kinds task changes old lines new well =
    let input = run_input_in kinds task changes old in
    let made = ended_is_made kinds task.outputs task.values input.trees input.rest [] task.actions refl well.no_fault in
    ((whole_run input).held, made.0, well.files)

-- ---- fronts

take_prefix : {X : Type 0} (xs ys : List X) → take (length xs) (xs ++ ys) ≡ xs
take_prefix [] ys = refl
take_prefix (x ∷ xs) ys = ap (λ zs. x ∷ zs) (take_prefix xs ys)

take_past : {X : Type 0} (xs ys : List X) (n : ℕ) → take (length xs + n) (xs ++ ys) ≡ xs ++ take n ys
take_past [] ys n = let e : 0 + n ≡ n = omega arith in ap (λ k. take k ys) e
take_past (x ∷ xs) ys n = let e : suc (length xs) + n ≡ suc (length xs + n) = omega arith in ap (λ k. take k (x ∷ xs ++ ys)) e ∙ ap (λ zs. x ∷ zs) (take_past xs ys n)

take_next : {X : Type 0} (x : X) (xs : List X) (n : ℕ) → take (n + 1) (x ∷ xs) ≡ x ∷ take n xs
take_next x xs n = let e : n + 1 ≡ suc n = omega arith in ap (λ k. take k (x ∷ xs)) e

module _ (input : RunInput) (mode : RunMode) (state : RunState input mode) where
  ended_done : (whole_run input).done ≡ state.done ++ (run input.kinds input.task.outputs input.task.values input.trees input.rest (run_along input state.done).held state.left).done
  ended_done =
      ap (λ (actions : List Action). (run_along input actions).done) state.all
      ∙ ap (λ (ended : Ended). ended.done) (on input.kinds input.task.outputs input.task.values input.trees input.rest state.done state.left [] state.no_fault)
      ∙ following-done state.done (run input.kinds input.task.outputs input.task.values input.trees input.rest (run_along input state.done).held state.left)

  -- the actions that have ended are a prefix of those that can
  pub prefix_of : state.done ≡ take (length state.done) (whole_run input).done
  prefix_of =
      sym (ap (take (length state.done)) ended_done
      ∙ take_prefix state.done (run input.kinds input.task.outputs input.task.values input.trees input.rest (run_along input state.done).held state.left).done)

  abbrev reached : List Action
  reached = take (length (whole_run input).done + 1) input.task.actions

  abbrev count : ℕ
  count = length (run input.kinds input.task.outputs input.task.values input.trees input.rest (run_along input state.done).held state.left).done

  reached_is : reached ≡ state.done ++ take (count + 1) state.left
  reached_is =
      let sizes : length (whole_run input).done ≡ length state.done + count =
      ap length ended_done ∙ length-append state.done (run input.kinds input.task.outputs input.task.values input.trees input.rest (run_along input state.done).held state.left).done in
      let e : length (whole_run input).done + 1 ≡ length state.done + (count + 1) = omega (arith, sizes) in
      ap (λ n. take n input.task.actions) e ∙ ap (take (length state.done + (count + 1))) state.all ∙ take_past state.done state.left (count + 1)

  abbrev Of : List Action → Place × Bytes → Type 0
  Of actions file = IsOf input.kinds input.task.outputs input.task.values input.trees actions file

  of_right : (xs ys : List Action) (file : Place × Bytes) → Of ys file → Of (xs ++ ys) file
  of_right xs ys file h = record { action = h.action; written = h.written; among = Contains-append_right xs ys h.action h.among; makes = h.makes; put = h.put }

module _ (input : RunInput) (state : RunState input InFull) where
  abbrev upto : List Action
  upto = take (length (whole_run input).done + 1) input.task.actions

  abbrev Among : List Action → Place × Bytes → Type 0
  Among actions file = IsOf input.kinds input.task.outputs input.task.values input.trees actions file

  -- a file of the action at hand
  of_hand : (file : Place × Bytes) → Contains (files_at_hand input (run_along input state.done).held state.left) file → Among upto file
  of_hand file h = go state.left refl h
    where
      go : (left : List Action) → state.left ≡ left → Contains (files_at_hand input (run_along input state.done).held left) file → Among upto file
      go [] is g = none_in file g
      go (action ∷ more) is g =
          subst (λ (actions : List Action). Among actions file) (sym (reached_is input InFull state))
          (of_right input InFull state state.done (take (count input InFull state + 1) state.left) file
          (subst (λ (left : List Action). Among (take (count input InFull state + 1) left) file) (sym is)
          (subst (λ (actions : List Action). Among actions file) (sym (take_next action more (count input InFull state)))
          (of_more input.kinds input.task.outputs input.task.values input.trees (action ∷ []) (take (count input InFull state) more) file
          (of_free input.kinds input.task.outputs input.task.values input.trees (run_along input state.done).held action file g)))))

  -- its files, those that were put and those that are left
  parts : IsParted (files_at_hand input (run_along input state.done).held state.left) state.prefix state.following
  parts = parted (files_at_hand input (run_along input state.done).held state.left) state.prefix state.following state.at_hand

  then_is : files_then input InFull state ≡ put_over (put_over input.rest (run_along input state.done).held) parts.first
  then_is = ap (after_steps (put_over input.rest (run_along input state.done).held)) parts.prefix_is ∙ after_put (put_over input.rest (run_along input state.done).held) parts.first

  -- each file of the folder is written by an action that the run reached, or is of the rest
  pub exists_by : (file : Place × Bytes) → Contains (files_then input InFull state) file → Among upto file ⊎ Contains input.rest file
  exists_by file h = elim (in_over (put_over input.rest (run_along input state.done).held) parts.first file (subst (λ (fs : Files). Contains fs file) then_is h)) [
    | inl prefix ↦ inl (of_hand file (subst (λ (fs : List (Place × Bytes)). Contains fs file) (sym parts.all) (Contains-append_left parts.first parts.later file prefix)))
    | inr before ↦ elim (in_over input.rest (run_along input state.done).held file before) [
      | inl held ↦ elim (of_held input.kinds input.task.outputs input.task.values input.trees input.rest state.done [] state.no_fault file held) [
        | inl written ↦ inl (subst (λ (actions : List Action). Among actions file) (sym (reached_is input InFull state))
            (of_more input.kinds input.task.outputs input.task.values input.trees state.done (take (count input InFull state + 1) state.left) file written))
        | inr none ↦ none_in file none
      ]
      | inr rest ↦ inr rest
    ]
  ]

  -- the same for each that was to be put
  pub was_next : (step : Step) (more : List Step) → state.following ≡ step ∷ more → (bytes : Bytes) × (step.1 ≡ Some bytes) × Among upto (step.0, bytes)
  was_next step more is = by parts.later parts.all (sym is ∙ parts.after_is)
    where
      by : (later : List (Place × Bytes)) → files_at_hand input (run_along input state.done).held state.left ≡ parts.first ++ later → step ∷ more ≡ put later
          → (bytes : Bytes) × (step.1 ≡ Some bytes) × Among upto (step.0, bytes)
      by [] all puts = absurd (let e = puts in (cc))
      by (file ∷ later) all puts =
          let same = heads step (file.0, Some file.1) more (put later) puts in (
            file.1,
            ap (λ (s : Step). s.1) same,
            subst (λ (p : Place). Among upto (p, file.1)) (sym (ap (λ (s : Step). s.0) same))
                (of_hand file (subst (λ (fs : List (Place × Bytes)). Contains fs file) (sym all)
                (Contains-append_right parts.first (file ∷ later) file (0, omega arith, refl)))),
          )

-- ---- where the device failed

pub left_elsewhere : (files : Files) (place : Place) (left : Option Bytes) (q : Place) → bytes_eq q place ≡ false → file_at (with_left files place left) q ≡ file_at files q
left_elsewhere files place None q other = file_at-without files place q ∙ ap (λ b. cond (not b) (file_at files q) None) other
left_elsewhere files place (Some bytes) q other = file_at-with_file files place bytes q ∙ ap (λ b. cond b (Some bytes) (file_at files q)) other

pub left_here : (files : Files) (place : Place) (left : Option Bytes) → file_at (with_left files place left) place ≡ left
left_here files place None = file_at-without files place place ∙ ap (λ b. cond (not b) (file_at files place) None) ((bytes_decides place place).1 refl)
left_here files place (Some bytes) = file_at-with_file files place bytes place ∙ ap (λ b. cond b (Some bytes) (file_at files place)) ((bytes_decides place place).1 refl)

-- ---- no run attributes its own fault to the device

blocked_blame_none : (places : List Place) → AllByRecursion BlamesNone (map faults.Blocked places)
blocked_blame_none [] = tt
blocked_blame_none (place ∷ places) = ((λ at e. cc), blocked_blame_none places)

module _ (kinds : Kinds) (task : Task) (trees : Trees) (rest : Files) where
  pub blames_none : (actions : List Action) (held : Files) (place : Place) → (ends kinds task.outputs task.values trees rest held actions).fault ≡ Some (faults.Device place) → ⊥
  blames_none [] held place e = cc
  blames_none (action ∷ actions) held place e = by_made (λ more h. blames_none actions more place h) (kinds.makes (kind_of action) action.args task.values trees) e
    where
      Again : Type 0
      Again = (more : Files) → (ends kinds task.outputs task.values trees rest more actions).fault ≡ Some (faults.Device place) → ⊥

      some_is : (x y : Fault) → Some x ≡ Some y → x ≡ y
      some_is x y is = cc

      by_faults : Again → (written : List Written) (hs : List Fault) → AllByRecursion BlamesNone hs
          → (or_end action held (unless_hindered hs (put_over held (placed task.outputs written))) (λ more. ends kinds task.outputs task.values trees rest more actions)).fault ≡ Some (faults.Device place) → ⊥
      by_faults again written [] each g = again (put_over held (placed task.outputs written)) g
      by_faults again written (fault ∷ others) each g = each.0 place (some_is fault (faults.Device place) g)

      by_made : Again → (r : Result (List Written) Text)
          → (or_end action held (step_by task.outputs rest held r) (λ more. ends kinds task.outputs task.values trees rest more actions)).fault ≡ Some (faults.Device place) → ⊥
      by_made again (Err text) h = cc
      by_made again (Ok written) h =
          let files = placed task.outputs written in
          let all = put_over held files in
          by_faults again written (hindrances task.outputs rest held files)
          (all_append BlamesNone (step_faults task.outputs held files) (map faults.Blocked (blocked_in rest (put_over [] files)))
          (all_append BlamesNone (flat_map (file_faults all) (put_over [] files)) _ (files_blame_none all (put_over [] files)) (counts_blame_none (full_outputs task.outputs all)))
          (blocked_blame_none (blocked_in rest (put_over [] files)))) h

-- ---- what is printed

pub failed_runs_print_prefixes : (setting : Setting) → FailedRunsPrintPrefixes setting
failed_runs_print_prefixes setting mode task changes old fault lines new failure =
    let state = failure.fails.state in (
      length state.done,
      failure.fails.printed ∙ ap (λ (actions : List Action). lines_of setting.kinds task (trees_of task old) changes actions) (prefix_of (run_input_in setting.kinds task changes old) mode state),
    )

-- ---- what is there

module _ (setting : Setting) (task : Task) (changes : List Changes) (old : Files) where
  -- where in the run each file at the outputs is, and each that was to be put
  pub record AreOfTheRun (mode : RunMode) (state : RunState (run_input_in setting.kinds task changes old) mode) (place : Place) : Type 0 where
    pub existed : ExistsInRun setting.kinds task old place (file_at (files_then (run_input_in setting.kinds task changes old) mode state) place)
    pub next : (step : Step) (later : List Step) → state.following ≡ step ∷ later → step.0 ≡ place → ExistsInRun setting.kinds task old place step.1

  module _ (mode : RunMode) (state : RunState (run_input_in setting.kinds task changes old) mode) where
    -- what is at a place once the run has failed: what was there at the state, except where the device
    -- failed
    pub left_then : (before after : ℕ) (fault : Fault) (new : Files)
        → FailsByItself (run_input_in setting.kinds task changes old) mode state fault new
        ⊎ FailsByMachine setting.may_leave before (files_then (run_input_in setting.kinds task changes old) mode state) state.following fault after new
        → (place : Place) → (file_at new place ≡ file_at (files_then (run_input_in setting.kinds task changes old) mode state) place) ⊎ (fault ≡ faults.Device place)
    left_then before after fault new (inl itself) place = inl (ap (λ (fs : Files). file_at fs place) itself.files)
    left_then before after fault new (inr (inl memory)) place = inl (ap (λ (fs : Files). file_at fs place) memory.1)
    left_then before after fault new (inr (inr stopped)) place =
        elim (bytes_eq place stopped.step.0) as (λ b. bytes_eq place stopped.step.0 ≡ b
        → (file_at new place ≡ file_at (files_then (run_input_in setting.kinds task changes old) mode state) place) ⊎ (fault ≡ faults.Device place)) [
          | true ↦ λ here. inr (stopped.device ∙ ap faults.Device (sym ((bytes_decides place stopped.step.0).0 here)))
          | false ↦ λ other. inl (ap (λ (fs : Files). file_at fs place) stopped.files
              ∙ left_elsewhere (files_then (run_input_in setting.kinds task changes old) mode state) stopped.step.0 stopped.left place other)
        ] refl

    pub torn : (before after : ℕ) (place : Place) (new : Files)
        → FailsByItself (run_input_in setting.kinds task changes old) mode state (faults.Device place) new
        ⊎ FailsByMachine setting.may_leave before (files_then (run_input_in setting.kinds task changes old) mode state) state.following (faults.Device place) after new
        → AreOfTheRun mode state place → IsTornInRun setting task old place (file_at new place)
    torn before after place new (inl itself) are =
        absurd (blames_none setting.kinds task (trees_of task old) (rest_of task old) task.actions [] place itself.faulty)
    torn before after place new (inr (inl memory)) are = absurd (let e = memory.0 in (cc))
    torn before after place new (inr (inr stopped)) are =
        let here : stopped.step.0 ≡ place = let e = stopped.device in (cc) in
        let then = files_then (run_input_in setting.kinds task changes old) mode state in (
          file_at then place,
          stopped.step.1,
          are.existed,
          are.next stopped.step stopped.later stopped.next here,
          subst (λ (left : Option Bytes). setting.may_leave place (file_at then place) stopped.step.1 left)
              (sym (ap (λ (fs : Files). file_at fs place) stopped.files
              ∙ ap (λ (p : Place). file_at (with_left then p stopped.left) place) here ∙ left_here then place stopped.left))
              (subst (λ (p : Place). setting.may_leave p (file_at then p) stopped.step.1 stopped.left) here stopped.may),
        )

  -- ---- in full

  module _ (source : has_no_source task old ≡ false) (state : RunState (run_input_in setting.kinds task changes old) InFull) (place : Place) (output : is_output_of task place ≡ true) where
    written_by : (bytes : Bytes) → Contains (files_then (run_input_in setting.kinds task changes old) InFull state) (place, bytes) → IsWritten setting.kinds task old place bytes
    written_by bytes h = elim (exists_by (run_input_in setting.kinds task changes old) state (place, bytes) h) [
      | inl w ↦ (source, w.action, w.written, w.among, w.makes, w.put)
      | inr rest ↦ absurd (false≢true (sym (not-true _ (in_where (λ q. not (is_output_of task q)) old (place, bytes) rest)) ∙ output))
    ]

    -- each file that is there then is written
    pub written_then : (bytes : Bytes) → file_at (files_then (run_input_in setting.kinds task changes old) InFull state) place ≡ Some bytes → IsWritten setting.kinds task old place bytes
    written_then bytes is = written_by bytes (found_in (files_then (run_input_in setting.kinds task changes old) InFull state) place bytes is)

    pub are_of_the_run : AreOfTheRun InFull state place
    are_of_the_run = record { existed = so (file_at (files_then (run_input_in setting.kinds task changes old) InFull state) place) refl; next = next_so }
      where
        so : (left : Option Bytes) → file_at (files_then (run_input_in setting.kinds task changes old) InFull state) place ≡ left → ExistsInRun setting.kinds task old place left
        so None is = tt
        so (Some bytes) is = inr (written_then bytes is)

        next_so : (step : Step) (later : List Step) → state.following ≡ step ∷ later → step.0 ≡ place → ExistsInRun setting.kinds task old place step.1
        next_so step later next here =
            let w = was_next (run_input_in setting.kinds task changes old) state step later next in
            subst (λ (left : Option Bytes). ExistsInRun setting.kinds task old place left) (sym w.1)
            (inr (subst (λ (p : Place). IsWritten setting.kinds task old p w.0) here (source, w.2.action, w.2.written, w.2.among, w.2.makes, w.2.put)))

pub failed_runs_invent_nothing_in_full : (setting : Setting) → FailedRunsInventNothingInFull setting
failed_runs_invent_nothing_in_full setting task changes old fault lines new source failure place bytes output e =
    by (left_then setting task changes old InFull failure.fails.state failure.before failure.after fault new failure.fails.why place)
  where
    by : (file_at new place ≡ file_at (files_then (run_input_in setting.kinds task changes old) InFull failure.fails.state) place) ⊎ (fault ≡ faults.Device place)
        → IsWritten setting.kinds task old place bytes ⊎ (fault ≡ faults.Device place)
    by (inl same) = inl (written_then setting task changes old source failure.fails.state place output bytes (sym same ∙ e))
    by (inr device) = inr device
