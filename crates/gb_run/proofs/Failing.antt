-- An incremental execution that failed: what it keeps, what it prints, and what it leaves.
use Rattle.std.specs.Prelude.{ℕ, ◌≡◌, ◌≢◌, ◌⊎◌, ◌++◌, ◌||◌, Bool, true, false, cond, if◌then◌else◌, List, [], ◌∷◌, Option, Some, None, Result, Ok, Err, IsTrue}
use Rattle.std.specs.List.{AllByRecursion, fold, list_any}
use Rattle.std.specs.FinMap.Entries.{is_sorted}
use Rattle.std.specs.Ordering.{eq_by_cmp}
use Rattle.std.proofs.Common.{refl, sym, ap, subst, ◌∙◌, inl, inr}
use Rattle.std.proofs.lemmas.Grind.{fold-append}
use mathlib.Core.Bool.{true≢false}
use Rattle.gb_core.specs.Lists.{byte_order}
use Rattle.gb_folder.specs.Files.{Place, Bytes, Files, file_at, is_empty, with_left}
use Rattle.gb_report.specs.declared.fault.Fault.{Fault}
use Rattle.gb_report.specs.declared.fault.Fault.TheVariants as faults
use Rattle.gb_action.specs.Changes.{Changes}
use Rattle.gb_action.specs.Files.{Trees}
use Rattle.gb_action.specs.declared.reply.Written.{Written}
use Rattle.gb_plan.specs.Task.{Text, is_output_of}
use Rattle.gb_plan.specs.declared.task.Action.{Action}
use Rattle.gb_plan.specs.declared.task.Output.{Output}
use Rattle.gb_plan.specs.declared.task.TaskDeclaration.{TaskDeclaration as Task}
use Rattle.gb_plan.proofs.Tests.{each_all, filter_append}
use Rattle.gb_semantics.specs.Events.{IsTornInRun, Setting, ExistsInRun}
use Rattle.gb_semantics.specs.Kinds.{Kinds, kind_of}
use Rattle.gb_semantics.specs.Label.{has_one_writer}
use Rattle.gb_semantics.specs.Made.{act, made_of, placed, put_over, rest_of, step_faults}
use Rattle.gb_semantics.specs.Tree.{has_no_source, trees_of}
use Rattle.gb_semantics.specs.Execution.{IsWritten}
use Rattle.gb_semantics.proofs.Lemmas.Ending.{ended_is_made}
use Rattle.gb_semantics.proofs.Lemmas.Files.{at-put_over, or_else, same_place, sorted-put_over}
use Rattle.gb_semantics.proofs.Lemmas.Making.{made_of_is_right}
use Rattle.gb_run.specs.Asking.{made_by}
use Rattle.gb_run.specs.RunInput.{RunInput, files_at_hand, free_files, run_along}
use Rattle.gb_run.specs.Laws.{FailedRunsInventNothingByChanges, FailedRunsKeepRightFiles, Failure, TornPlacesAreOfTheRun, run_input_in}
use Rattle.gb_run.proofs.AsSteps.{after_put}
use Rattle.gb_run.proofs.Endings.{with_none}
use Rattle.gb_run.proofs.FailedRuns.{AreOfTheRun, are_of_the_run, left_then, torn}
use Rattle.gb_run.proofs.RunStates.{state_at}
use Rattle.gb_run.specs.AskingChanges.{IsFitting, writers}
use Rattle.gb_run.specs.Failing.{AreAtHand, ByChanges, FailsByItself, InFull, RunState, ended_files, files_then}
use Rattle.gb_run.specs.Named.{put}
use Rattle.gb_run.specs.Stepping.{FailsByMachine}
use Rattle.gb_run.specs.Steps.{LeadTo, Step, after_steps}
use Rattle.gb_run.proofs.Looks.{at_left}
use Rattle.gb_run.proofs.Writer.{IsOfWriter, heads, none_made, tails, writer_made, writer_of}
use Rattle.gb_run.proofs.Placed.{all_after, all_prefix, none_after as after_none, none_before as prefix_none}

-- ---- steps

elsewhere : (files : Files) (p : Place) (left : Option Bytes) (q : Place) → p ≢ q → file_at (with_left files p left) q ≡ file_at files q
elsewhere files p left q separate = at_left files p left q ∙ by (eq_by_cmp byte_order q p) refl
  where
    by : (b : Bool) → eq_by_cmp byte_order q p ≡ b → cond b left (file_at files q) ≡ file_at files q
    by true e = absurd (separate (sym (same_place q p e)))
    by false e = refl

untouched : (files : Files) (steps : List Step) (q : Place) → AllByRecursion (λ (s : Step). s.0 ≢ q) steps → file_at (after_steps files steps) q ≡ file_at files q
untouched files [] q all = refl
untouched files (s ∷ steps) q all = untouched (with_left files s.0 s.1) steps q all.1 ∙ elsewhere files s.0 s.1 q all.0

abbrev AreMeant : Files → List Step → Type 0
AreMeant target steps = AllByRecursion (λ (step : Step). (step.1 ≡ None) ⊎ (step.1 ≡ file_at target step.0)) steps

-- what holds of no file, of what was there and of what is to be there, holds in between
steps_exist : (P : Option Bytes → Type 0) (target files : Files) (q : Place) (steps : List Step) → P None → P (file_at target q) → AreMeant target steps → P (file_at files q) → P (file_at (after_steps files steps) q)
steps_exist P target files q [] none new meant at = at
steps_exist P target files q (s ∷ steps) none new meant at =
    steps_exist P target (with_left files s.0 s.1) q steps none new meant.1 (subst P (sym (at_left files s.0 s.1 q)) (by (eq_by_cmp byte_order q s.0) refl))
  where
    put : q ≡ s.0 → (s.1 ≡ None) ⊎ (s.1 ≡ file_at target s.0) → P s.1
    put is (inl gone) = subst P (sym gone) none
    put is (inr there) = subst P (sym (there ∙ ap (file_at target) (sym is))) new

    by : (b : Bool) → eq_by_cmp byte_order q s.0 ≡ b → P (cond b s.1 (file_at files q))
    by true e = put (same_place q s.0 e) meant.0
    by false e = at

-- ---- which actions write

module _ (kinds : Kinds) where
  abbrev any_writes : List Action → Bool
  any_writes actions = list_any (λ (action : Action). kinds.writes (kind_of action)) actions

  none_of : (xs : List Action) → any_writes xs ≡ false → writers kinds xs ≡ []
  none_of [] e = refl
  none_of (x ∷ xs) e = by (λ f. none_of xs f) (kinds.writes (kind_of x)) e
    where
      by : (any_writes xs ≡ false → writers kinds xs ≡ []) → (b : Bool) → (b || any_writes xs) ≡ false → cond b (x ∷ writers kinds xs) (writers kinds xs) ≡ []
      by again true f = absurd (true≢false f)
      by again false f = again f

  none_after : (xs ys : List Action) (w : Action) → any_writes xs ≡ true → writers kinds xs ++ writers kinds ys ≡ w ∷ [] → writers kinds ys ≡ []
  none_after [] ys w e is = absurd (true≢false (sym e))
  none_after (x ∷ xs) ys w e is = by (λ f q. none_after xs ys w f q) (kinds.writes (kind_of x)) e is
    where
      by : (any_writes xs ≡ true → writers kinds xs ++ writers kinds ys ≡ w ∷ [] → writers kinds ys ≡ []) → (b : Bool) → (b || any_writes xs) ≡ true
          → cond b (x ∷ writers kinds xs) (writers kinds xs) ++ writers kinds ys ≡ w ∷ [] → writers kinds ys ≡ []
      by again true f q = after_none (writers kinds xs) (writers kinds ys) (tails x w (writers kinds xs ++ writers kinds ys) [] q)
      by again false f q = again f q

sorted_free : (outputs : List Output) (made : Result (List Written) Text) → is_sorted byte_order (free_files outputs [] made) ≡ true
sorted_free outputs (Err text) = refl
sorted_free outputs (Ok written) = by (is_empty (step_faults outputs [] (placed outputs written)))
  where
    by : (b : Bool) → is_sorted byte_order (cond b (put_over [] (placed outputs written)) []) ≡ true
    by true = sorted-put_over [] (placed outputs written) refl
    by false = refl

or_twice : (a b : Option Bytes) → or_else (or_else a None) b ≡ or_else a b
or_twice (Some x) b = refl
or_twice None b = refl

-- ---- a state of the run

module _ (setting : Setting) (task : Task) (changes : List Changes) (old : Files) (one : IsTrue (has_one_writer setting.kinds task.actions))
    (fitting : AllByRecursion (IsFitting setting.kinds task) task.actions) (state : RunState (run_input_in setting.kinds task changes old) (ByChanges old)) where
  abbrev input : RunInput
  input = run_input_in setting.kinds task changes old

  abbrev trees : Trees
  trees = trees_of task old

  abbrev held : Files
  held = (run_along (run_input_in setting.kinds task changes old) state.done).held

  fits : AllByRecursion (IsFitting setting.kinds task) (state.done ++ state.left)
  fits = subst (AllByRecursion (IsFitting setting.kinds task)) state.all fitting

  parted : (w : Action) → writers setting.kinds task.actions ≡ w ∷ [] → writers setting.kinds state.done ++ writers setting.kinds state.left ≡ w ∷ []
  parted w is =
      sym (filter_append (λ (a : Action). setting.kinds.writes (kind_of a)) state.done state.left)
      ∙ ap (writers setting.kinds) (sym state.all) ∙ is

  held_made : fold (act setting.kinds task.outputs task.values (trees_of task old)) (Ok []) state.done ≡ Ok (run_along (run_input_in setting.kinds task changes old) state.done).held
  held_made = (ended_is_made setting.kinds task.outputs task.values (trees_of task old) (rest_of task old) [] state.done refl state.no_fault).0

  held_none : any_writes setting.kinds state.done ≡ false → held ≡ []
  held_none none =
      none_made setting.kinds task task.values (trees_of task old) state.done [] held (all_prefix (IsFitting setting.kinds task) state.done state.left fits)
      (none_of setting.kinds state.done none) held_made

  abbrev found : (w : Action) × (writers setting.kinds task.actions ≡ w ∷ [])
  found = writer_of setting.kinds task.actions one

  -- the files that the writer is to leave
  abbrev hand_of : Action → Files
  hand_of action = free_files task.outputs [] (made_by setting.kinds task action (trees_of task old))

  abbrev target_of : Action → Files
  target_of action = put_over (rest_of task old) (put_over [] (hand_of action))

  -- the next action is the writer, and its steps are at hand
  record IsAtWriter : Type 0 where
    action : Action
    later : List Action
    left : state.left ≡ action ∷ later
    none_before : any_writes setting.kinds state.done ≡ false
    alone : writers setting.kinds task.actions ≡ action ∷ []
    leads : LeadTo old (target_of action) (state.prefix ++ state.following)

  module _ (action : Action) (later : List Action) (is : state.left ≡ action ∷ later) (writes : setting.kinds.writes (kind_of action) ≡ true) where
    left_writers : writers setting.kinds state.left ≡ action ∷ writers setting.kinds later
    left_writers =
        ap (writers setting.kinds) is
        ∙ ap (λ b. cond b (action ∷ writers setting.kinds later) (writers setting.kinds later)) writes

    none : any_writes setting.kinds state.done ≡ false
    none = at (any_writes setting.kinds state.done) refl
      where
        at : (b : Bool) → any_writes setting.kinds state.done ≡ b → b ≡ false
        at true e =
            let nothing : action ∷ writers setting.kinds later ≡ [] = sym left_writers ∙ none_after setting.kinds state.done state.left found.0 e (parted found.0 found.1) in
            absurd (let q = nothing in (cc))
        at false e = refl

    alone_then : writers setting.kinds task.actions ≡ action ∷ []
    alone_then =
        let all : action ∷ writers setting.kinds later ≡ found.0 ∷ [] =
        ap (λ (ws : List Action). ws ++ (action ∷ writers setting.kinds later)) (sym (none_of setting.kinds state.done none))
        ∙ ap (λ (ws : List Action). writers setting.kinds state.done ++ ws) (sym left_writers) ∙ parted found.0 found.1 in
        found.1 ∙ ap (λ (w : Action). w ∷ []) (sym (heads action found.0 (writers setting.kinds later) [] all))

    ended_old : ended_files (run_input_in setting.kinds task changes old) (ByChanges old) state.done ≡ old
    ended_old = ap (λ b. if b then put_over (rest_of task old) held else old) none

    at_writer : LeadTo (ended_files (run_input_in setting.kinds task changes old) (ByChanges old) state.done)
        (put_over (rest_of task old) (put_over held (free_files task.outputs held (made_by setting.kinds task action (trees_of task old))))) (state.prefix ++ state.following) → IsAtWriter
    at_writer leads = record {
      action = action;
      later = later;
      left = is;
      none_before = none;
      alone = alone_then;
      leads =
          subst (λ (files : Files). LeadTo files (target_of action) (state.prefix ++ state.following)) ended_old
          (subst (λ (h : Files). LeadTo (ended_files (run_input_in setting.kinds task changes old) (ByChanges old) state.done)
          (put_over (rest_of task old) (put_over h (free_files task.outputs h (made_by setting.kinds task action (trees_of task old))))) (state.prefix ++ state.following)) (held_none none) leads);
    }

  hand : (state.prefix ++ state.following ≡ []) ⊎ IsAtWriter
  hand = by state.left refl state.at_hand
    where
      by : (left : List Action) → state.left ≡ left → AreAtHand (run_input_in setting.kinds task changes old) (ByChanges old) state.done left (state.prefix ++ state.following)
          → (state.prefix ++ state.following ≡ []) ⊎ IsAtWriter
      by [] is steps = inl steps
      by (action ∷ later) is (inl steps) = inl steps
      by (action ∷ later) is (inr at) = inr (at_writer action later is at.0 at.1)

  -- ---- what was right

  module _ (files : Files) (makes : made_of setting.kinds task.actions task.values (trees_of task old) task.outputs ≡ Ok files)
      (place : Place) (bytes : Bytes) (right : file_at files place ≡ Some bytes) (existed : file_at old place ≡ Some bytes) where
    in_order : is_sorted byte_order files ≡ true
    in_order = (made_of_is_right setting.kinds task.outputs task.values (trees_of task old) task.actions files makes).in_order

    abbrev goes : Result Files (List Fault) → List Action → Result Files (List Fault)
    goes so_far actions = fold (act setting.kinds task.outputs task.values (trees_of task old)) so_far actions

    all_made : goes (Ok held) state.left ≡ Ok files
    all_made =
        ap (λ (r : Result Files (List Fault)). goes r state.left) (sym held_made)
        ∙ sym (fold-append (act setting.kinds task.outputs task.values (trees_of task old)) (Ok []) state.done state.left)
        ∙ ap (goes (Ok [])) (sym state.all) ∙ makes

    module _ (e : any_writes setting.kinds state.done ≡ true) where
      all_held : files ≡ held
      all_held =
          none_made setting.kinds task task.values (trees_of task old) state.left held files (all_after (IsFitting setting.kinds task) state.done state.left fits)
          (none_after setting.kinds state.done state.left found.0 e (parted found.0 found.1)) all_made

      there : file_at (put_over (rest_of task old) held) place ≡ Some bytes
      there =
          at-put_over (rest_of task old) held place (ap (is_sorted byte_order) (sym all_held) ∙ in_order)
          ∙ ap (λ o. or_else o (file_at (rest_of task old) place)) (ap (λ (fs : Files). file_at fs place) (sym all_held) ∙ right)

    ended_right : file_at (ended_files (run_input_in setting.kinds task changes old) (ByChanges old) state.done) place ≡ Some bytes
    ended_right = by (any_writes setting.kinds state.done) refl
      where
        by : (b : Bool) → any_writes setting.kinds state.done ≡ b → file_at (if b then put_over (rest_of task old) held else old) place ≡ Some bytes
        by true e = there e
        by false e = existed

    target_right : (at : IsAtWriter) → file_at (target_of at.action) place ≡ Some bytes
    target_right at =
        at-put_over (rest_of task old) (put_over [] (hand_of at.action)) place (sorted-put_over [] (hand_of at.action) refl)
        ∙ ap (λ o. or_else o (file_at (rest_of task old) place))
        (at-put_over [] (hand_of at.action) place (sorted_free task.outputs (made_by setting.kinds task at.action (trees_of task old)))
        ∙ ap (λ o. or_else o (file_at [] place)) (ap (λ (fs : Files). file_at fs place) hand_is ∙ right))
      where
        of_writer : IsOfWriter setting.kinds task task.values (trees_of task old) at.action [] files
        of_writer = writer_made setting.kinds task task.values (trees_of task old) task.actions at.action [] files fitting at.alone makes

        hand_is : hand_of at.action ≡ files
        hand_is =
            ap (free_files task.outputs []) of_writer.makes
            ∙ ap (λ b. if b then put_over [] (placed task.outputs of_writer.written) else []) of_writer.free
            ∙ sym of_writer.files

    others : AllByRecursion (λ (s : Step). s.0 ≢ place) (state.prefix ++ state.following)
    others = by hand
      where
        by : (state.prefix ++ state.following ≡ []) ⊎ IsAtWriter → AllByRecursion (λ (s : Step). s.0 ≢ place) (state.prefix ++ state.following)
        by (inl none) = subst (AllByRecursion (λ (s : Step). s.0 ≢ place)) (sym none) tt
        by (inr at) =
            each_all (λ (s : Step). file_at old s.0 ≢ file_at (target_of at.action) s.0) (λ (s : Step). s.0 ≢ place)
            (λ s differ is. differ (ap (file_at old) is ∙ existed ∙ sym (target_right at) ∙ ap (file_at (target_of at.action)) (sym is)))
            (state.prefix ++ state.following) at.leads.needed

    then_right : file_at (files_then (run_input_in setting.kinds task changes old) (ByChanges old) state) place ≡ Some bytes
    then_right =
        untouched (ended_files (run_input_in setting.kinds task changes old) (ByChanges old) state.done) state.prefix place
        (all_prefix (λ (s : Step). s.0 ≢ place) state.prefix state.following others)
        ∙ ended_right

    stays : (before after : ℕ) (fault : Fault) (new : Files)
        → FailsByItself (run_input_in setting.kinds task changes old) (ByChanges old) state fault new
        ⊎ FailsByMachine setting.may_leave before (files_then (run_input_in setting.kinds task changes old) (ByChanges old) state) state.following fault after new
        → file_at new place ≡ Some bytes
    stays before after fault new (inl itself) = ap (λ (fs : Files). file_at fs place) itself.files ∙ then_right
    stays before after fault new (inr (inl memory)) = ap (λ (fs : Files). file_at fs place) memory.1 ∙ then_right
    stays before after fault new (inr (inr stopped)) =
        ap (λ (fs : Files). file_at fs place) stopped.files
        ∙ elsewhere (files_then (run_input_in setting.kinds task changes old) (ByChanges old) state) stopped.step.0 stopped.left place separate
        ∙ then_right
      where
        separate : stopped.step.0 ≢ place
        separate = (subst (AllByRecursion (λ (s : Step). s.0 ≢ place)) stopped.next (all_after (λ (s : Step). s.0 ≢ place) state.prefix state.following others)).0

  -- ---- what is there

  module _ (source : has_no_source task old ≡ false) (q : Place) (output : is_output_of task q ≡ true) where
    abbrev Exists : Option Bytes → Type 0
    Exists left = ExistsInRun setting.kinds task old q left

    existed_so : Exists (file_at old q)
    existed_so = by (file_at old q) refl
      where
        by : (left : Option Bytes) → file_at old q ≡ left → Exists left
        by None e = tt
        by (Some bytes) e = inl e

    ended_exists : Exists (file_at (ended_files (run_input_in setting.kinds task changes old) (ByChanges old) state.done) q)
    ended_exists = by (any_writes setting.kinds state.done)
      where
        by : (b : Bool) → Exists (file_at (if b then put_over (rest_of task old) held else old) q)
        by true = (are_of_the_run setting task changes old source (state_at (run_input_in setting.kinds task changes old) InFull state.done state.left state.all state.no_fault) q output).existed
        by false = existed_so

    target_exists : (at : IsAtWriter) → Exists (file_at (target_of at.action) q)
    target_exists at = subst (λ (left : Option Bytes). Exists left) same (are_of_the_run setting task changes old source full_moment q output).existed
      where
        -- a full execution after its files
        full_moment : RunState (run_input_in setting.kinds task changes old) InFull
        full_moment = record {
          done = state.done;
          left = state.left;
          all = state.all;
          no_fault = state.no_fault;
          prefix = put (hand_of at.action);
          following = [];
          at_hand = with_none (put (hand_of at.action)) ∙ sym (λ i. put (files_at_hand (run_input_in setting.kinds task changes old) (held_none at.none_before i) (at.left i)));
        }

        sorted : is_sorted byte_order (hand_of at.action) ≡ true
        sorted = sorted_free task.outputs (made_by setting.kinds task at.action (trees_of task old))

        same : file_at (after_steps (put_over (rest_of task old) held) (put (hand_of at.action))) q ≡ file_at (target_of at.action) q
        same =
            ap (λ (fs : Files). file_at fs q) (after_put (put_over (rest_of task old) held) (hand_of at.action))
            ∙ at-put_over (put_over (rest_of task old) held) (hand_of at.action) q sorted
            ∙ ap (λ (h : Files). or_else (file_at (hand_of at.action) q) (file_at (put_over (rest_of task old) h) q)) (held_none at.none_before)
            ∙ sym (or_twice (file_at (hand_of at.action) q) (file_at (rest_of task old) q))
            ∙ sym (at-put_over (rest_of task old) (put_over [] (hand_of at.action)) q (sorted-put_over [] (hand_of at.action) refl)
            ∙ ap (λ o. or_else o (file_at (rest_of task old) q)) (at-put_over [] (hand_of at.action) q sorted))

    then_exists : Exists (file_at (files_then (run_input_in setting.kinds task changes old) (ByChanges old) state) q)
    then_exists = by hand
      where
        by : (state.prefix ++ state.following ≡ []) ⊎ IsAtWriter → Exists (file_at (files_then (run_input_in setting.kinds task changes old) (ByChanges old) state) q)
        by (inl none) =
            subst (λ (steps : List Step). Exists (file_at (after_steps (ended_files (run_input_in setting.kinds task changes old) (ByChanges old) state.done) steps) q)) (sym (prefix_none state.prefix state.following none)) ended_exists
        by (inr at) =
            steps_exist (λ (left : Option Bytes). Exists left) (target_of at.action) (ended_files (run_input_in setting.kinds task changes old) (ByChanges old) state.done) q state.prefix tt (target_exists at)
            (all_prefix (λ (step : Step). (step.1 ≡ None) ⊎ (step.1 ≡ file_at (target_of at.action) step.0)) state.prefix state.following at.leads.meant) ended_exists

    -- the same for what was to be put next
    next_exists : (step : Step) (later : List Step) → state.following ≡ step ∷ later → step.0 ≡ q → Exists step.1
    next_exists step later next here = by hand
      where
        so : (at : IsAtWriter) → (step.1 ≡ None) ⊎ (step.1 ≡ file_at (target_of at.action) step.0) → Exists step.1
        so at (inl gone) = subst (λ (left : Option Bytes). Exists left) (sym gone) tt
        so at (inr there) = subst (λ (left : Option Bytes). Exists left) (sym (there ∙ ap (file_at (target_of at.action)) here)) (target_exists at)

        by : (state.prefix ++ state.following ≡ []) ⊎ IsAtWriter → Exists step.1
        by (inl none) = absurd (let e : step ∷ later ≡ [] = sym next ∙ after_none state.prefix state.following none in (cc))
        by (inr at) =
            so at (subst (AllByRecursion (λ (s : Step). (s.1 ≡ None) ⊎ (s.1 ≡ file_at (target_of at.action) s.0))) next
            (all_after (λ (s : Step). (s.1 ≡ None) ⊎ (s.1 ≡ file_at (target_of at.action) s.0)) state.prefix state.following at.leads.meant)).0

    pub are_of_changes : AreOfTheRun setting task changes old (ByChanges old) state q
    are_of_changes = record { existed = then_exists; next = next_exists }

-- ---- laws

pub failed_runs_keep_right_files : (setting : Setting) → FailedRunsKeepRightFiles setting
failed_runs_keep_right_files setting task changes old fault lines new failure files makes place bytes right existed =
    stays setting task changes old failure.is_way.1 failure.is_way.2 failure.fails.state files makes place bytes right existed failure.before failure.after fault new failure.fails.why

pub failed_runs_invent_nothing_by_changes : (setting : Setting) → FailedRunsInventNothingByChanges setting
failed_runs_invent_nothing_by_changes setting task changes old fault lines new source failure place bytes output e =
    by (left_then setting task changes old (ByChanges old) failure.fails.state failure.before failure.after fault new failure.fails.why place)
  where
    as_right : ExistsInRun setting.kinds task old place (Some bytes) → (file_at old place ≡ Some bytes) ⊎ IsWritten setting.kinds task old place bytes ⊎ (fault ≡ faults.Device place)
    as_right (inl there) = inl there
    as_right (inr written) = inr (inl written)

    by : (file_at new place ≡ file_at (files_then (run_input_in setting.kinds task changes old) (ByChanges old) failure.fails.state) place) ⊎ (fault ≡ faults.Device place)
        → (file_at old place ≡ Some bytes) ⊎ IsWritten setting.kinds task old place bytes ⊎ (fault ≡ faults.Device place)
    by (inl same) =
        as_right (subst (λ (left : Option Bytes). ExistsInRun setting.kinds task old place left) (sym same ∙ e)
        (are_of_changes setting task changes old failure.is_way.1 failure.is_way.2 failure.fails.state source place output).existed)
    by (inr device) = inr (inr device)

pub torn_places_are_of_the_run : (setting : Setting) → TornPlacesAreOfTheRun setting
torn_places_are_of_the_run setting InFull task changes old place lines new source output failure =
    torn setting task changes old InFull failure.fails.state failure.before failure.after place new failure.fails.why
    (are_of_the_run setting task changes old source failure.fails.state place output)
torn_places_are_of_the_run setting (ByChanges existed) task changes old place lines new source output failure =
    here (subst (λ (fs : Files). Failure setting (ByChanges fs) task changes old (faults.Device place) lines new) failure.is_way.0 failure)
  where
    here : Failure setting (ByChanges old) task changes old (faults.Device place) lines new → IsTornInRun setting task old place (file_at new place)
    here so =
        torn setting task changes old (ByChanges old) so.fails.state so.before so.after place new so.fails.why
        (are_of_changes setting task changes old so.is_way.1 so.is_way.2 so.fails.state source place output)
