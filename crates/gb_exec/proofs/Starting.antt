-- A task starts by its number exactly where it starts by its path.
use Rattle.std.proofs.Common.{◌≡◌, ◌<◌, ◌≤◌, ℕ, Bool, true, false, not, ◌&&◌, List, [], map, length, get_or, bytes_eq, ap, sym, subst, ◌∙◌, ◌⊎◌, inl, inr, Contains, IsTrue, arith, refl, Some, slice_get}
use Rattle.std.specs.List.{list_any, filter, flat_map}
use Rattle.std.specs.Cmp.Lexicographic.{bytes_decides}
use Rattle.std.proofs.lemmas.Bool.{cases_order}
use Rattle.std.proofs.lemmas.Option.{slice_get-get_or, slice_get_within, get_or_from_slice_get}
use Rattle.std.proofs.lemmas.List.{length-map}
use Rattle.gb_report.specs.declared.report.Outcome.{Outcome}
use Rattle.gb_report.specs.declared.report.Outcome.TheVariants as outcomes
use Rattle.gb_report.specs.Outcome.{is_executed, is_failed, is_started}
use Rattle.gb_plan.specs.declared.plan.Planned.{Planned}
use Rattle.gb_plan.specs.Task.{Path, has_path}
use Rattle.gb_plan.specs.Graph.{no_repeats, order, needs_in, is_scheduled_in, Reached, start, step}
use Rattle.gb_plan.proofs.Tests.{not_true, left_of, right_of, in_filter, into_filter, any_map}
use Rattle.gb_semantics.specs.Label.{Moment, some_outcome}
use Rattle.gb_semantics.specs.Execution as meant
use Rattle.gb_exec.specs.declared.may_start.Ending.{Ending}
use Rattle.gb_exec.specs.declared.may_start.Ending.TheVariants.{ToCome}
use Rattle.gb_exec.specs.Starts.{Progress, FinalizesStarted, Serves, called, needed, ending_in, ending_of, ended_badly, has_started, has_failed, has_executed, has_executed_need, lacks_need, mark_at, row}
use Rattle.gb_exec.specs.Plans.{AreOfPlan, AreEndings, IsNeeded, NeedsByNumber, StartsByNumber, path_at}
use Rattle.gb_exec.proofs.Marks.{row_known}
use Rattle.gb_exec.proofs.ByNumber.{same_truth, both_true, at_some, some_at, contained, contains_any, any_default, filtered_at, at_filtered, any_flat, path_is, in_order, of_order}
use Rattle.gb_graph.proofs.Edges.{one_number}

-- ---- What an outcome counts as

badly : (outcome : Outcome) → meant.has_not_ended_well outcome ≡ ended_badly (ending_of outcome)
badly outcomes.Executed = refl
badly outcomes.UpToDate = refl
badly outcomes.Skipped = refl
badly outcomes.NoSource = refl
badly (outcomes.Failed fault) = refl
badly outcomes.NotRun = refl

starting : (outcome : Outcome) → is_started outcome ≡ has_started (ending_of outcome)
starting outcomes.Executed = refl
starting outcomes.UpToDate = refl
starting outcomes.Skipped = refl
starting outcomes.NoSource = refl
starting (outcomes.Failed fault) = refl
starting outcomes.NotRun = refl

failing : (outcome : Outcome) → is_failed outcome ≡ has_failed (ending_of outcome)
failing outcomes.Executed = refl
failing outcomes.UpToDate = refl
failing outcomes.Skipped = refl
failing outcomes.NoSource = refl
failing (outcomes.Failed fault) = refl
failing outcomes.NotRun = refl

executing : (outcome : Outcome) → is_executed outcome ≡ has_executed (ending_of outcome)
executing outcomes.Executed = refl
executing outcomes.UpToDate = refl
executing outcomes.Skipped = refl
executing outcomes.NoSource = refl
executing (outcomes.Failed fault) = refl
executing outcomes.NotRun = refl

module _ (plan : List Planned) (progress : Progress) (moment : Moment) (some_planned : Planned)
    (once : no_repeats (order plan) ≡ true) (are : AreOfPlan plan progress) (endings : AreEndings plan moment.outcomes progress.endings) where
  -- the task of a number
  at : (number : ℕ) → number < length plan → (planned : Planned) × (slice_get plan number ≡ Some planned)
  at number less = (get_or plan number some_planned, slice_get-get_or plan number some_planned less)

  same_number : (i j : ℕ) → i < length plan → j < length plan → path_at plan i ≡ path_at plan j → i ≡ j
  same_number i j li lj same = one_number (order plan) once i j (subst (λ n. i < n) (sym (length-map _ _)) li) (subst (λ n. j < n) (sym (length-map _ _)) lj) same

  -- ---- Outcomes by number

  module _ (test : Outcome → Bool) (ends : Ending → Bool) (agree : (outcome : Outcome) → test outcome ≡ ends (ending_of outcome)) where
    by_number : (paths : List Path) → some_outcome test moment paths ≡ true
        → (number : ℕ) × (number < length plan) × (has_path paths (path_at plan number) ≡ true) × (ends (ending_in progress.endings number) ≡ true)
    by_number paths h =
        let found = at_some (λ entry. has_path paths entry.0 && test entry.1) moment.outcomes h in
        let entry = found.1 in
        let ended = endings.ended found.0 entry found.2 in (
          found.0,
          ended.0,
          ap (has_path paths) (sym ended.1) ∙ left_of (has_path paths entry.0) (test entry.1) found.3,
          ap ends ended.2 ∙ sym (agree entry.1) ∙ right_of (has_path paths entry.0) (test entry.1) found.3,
        )

    module _ (none_to_come : ends ToCome ≡ false) where
      came : (number : ℕ) → ends (ending_in progress.endings number) ≡ true → (entry : Path × Outcome) × (slice_get moment.outcomes number ≡ Some entry)
      came number h = elim (cases_order number (length moment.outcomes)) [
        | inr (inl less) ↦ (get_or moment.outcomes number ([], outcomes.NotRun), slice_get-get_or moment.outcomes number ([], outcomes.NotRun) less)
        | inl e ↦ past (omega arith)
        | inr (inr more) ↦ past (omega arith)
      ]
        where
          past : length moment.outcomes ≤ number → (entry : Path × Outcome) × (slice_get moment.outcomes number ≡ Some entry)
          past over = not_true (sym (ap ends (endings.to_come number over) ∙ none_to_come) ∙ h)

      tested : (number : ℕ) (h : ends (ending_in progress.endings number) ≡ true) → test (came number h).0.1 ≡ true
      tested number h = agree (came number h).0.1 ∙ ap ends (sym (endings.ended number (came number h).0 (came number h).1).2) ∙ h

      by_path : (paths : List Path) (number : ℕ) → has_path paths (path_at plan number) ≡ true → ends (ending_in progress.endings number) ≡ true
          → some_outcome test moment paths ≡ true
      by_path paths number has h =
          let entry = came number h in
          some_at (λ e. has_path paths e.0 && test e.1) moment.outcomes number entry.0 entry.1
          (both_true (has_path paths entry.0.0) (test entry.0.1) (ap (has_path paths) (endings.ended number entry.0 entry.1).1 ∙ has) (tested number h))

      ended_within : (number : ℕ) → ends (ending_in progress.endings number) ≡ true → number < length plan
      ended_within number h = (endings.ended number (came number h).0 (came number h).1).0

  -- ---- Needs

  module _ (number : ℕ) (planned : Planned) (here : slice_get plan number ≡ Some planned) where
    within : number < length plan
    within = slice_get_within plan number planned here

    -- a need has an outcome of a kind by its path exactly where it has it by its number
    module _ (test : Outcome → Bool) (ends : Ending → Bool) (agree : (outcome : Outcome) → test outcome ≡ ends (ending_of outcome)) (none_to_come : ends ToCome ≡ false) where
      of_need : some_outcome test moment (needs_in plan planned.task) ≡ list_any (λ before. ends (ending_in progress.endings before)) (row progress.needs number)
      of_need = same_truth (some_outcome test moment (needs_in plan planned.task)) (list_any (λ before. ends (ending_in progress.endings before)) (row progress.needs number))
          (λ h.
          let found = by_number test ends agree (needs_in plan planned.task) h in
          contains_any (λ before. ends (ending_in progress.endings before)) (row progress.needs number) found.0
          ((are.needs.reported number found.0 planned here).1 (found.1, (in_filter (is_scheduled_in plan) planned.task.needs (path_at plan found.0) found.2).0)) found.3)
          (λ h.
          let found = at_some (λ before. ends (ending_in progress.endings before)) (row progress.needs number) h in
          let reported = (are.needs.reported number found.1 planned here).0 (contained (row progress.needs number) found.0 found.1 found.2) in
          by_path test ends agree none_to_come (needs_in plan planned.task) found.1
          (into_filter (is_scheduled_in plan) planned.task.needs (path_at plan found.1) reported.1 (in_order plan found.1 reported.0)) found.3)

    lacks : meant.lacks_need plan moment planned ≡ lacks_need progress number
    lacks = of_need meant.has_not_ended_well ended_badly badly refl

    executed : some_outcome is_executed moment (needs_in plan planned.task) ≡ has_executed_need progress number
    executed = of_need is_executed has_executed executing refl

    -- ---- Finalizers

    finalizes : meant.finalizes_started plan moment planned.task.path ≡ true → FinalizesStarted progress number
    finalizes h =
        let found = by_number is_started has_started starting (map (λ z. z.task.path) (filter (λ z. has_path z.task.finalizers planned.task.path) plan)) h in
        let other = filtered_at (λ z. has_path z.task.finalizers planned.task.path) (λ z. bytes_eq (path_at plan found.0) z.task.path) plan
        (sym (any_map (bytes_eq (path_at plan found.0)) (λ z. z.task.path) (filter (λ z. has_path z.task.finalizers planned.task.path) plan)) ∙ found.2) in
        let same = same_number other.0 found.0 (slice_get_within plan other.0 other.1 other.2) found.1
        (path_is plan other.0 other.1 other.2 ∙ sym ((bytes_decides (path_at plan found.0) other.1.task.path).0 other.4)) in (
          found.0,
          found.3,
          subst (λ n. Contains (row progress.finalizers n) number) same
              ((are.finalizers.reported other.0 number other.1 other.2).1 (within, ap (has_path other.1.task.finalizers) (path_is plan number planned here) ∙ other.3)),
        )

    finalized : FinalizesStarted progress number → meant.finalizes_started plan moment planned.task.path ≡ true
    finalized is =
        let other = at is.0 (ended_within is_started has_started starting refl is.0 is.1) in
        let reported = (are.finalizers.reported is.0 number other.0 other.1).0 is.2 in
        by_path is_started has_started starting refl (map (λ z. z.task.path) (filter (λ z. has_path z.task.finalizers planned.task.path) plan)) is.0
        (any_map (bytes_eq (path_at plan is.0)) (λ z. z.task.path) (filter (λ z. has_path z.task.finalizers planned.task.path) plan)
        ∙ at_filtered (λ z. has_path z.task.finalizers planned.task.path) (λ z. bytes_eq (path_at plan is.0) z.task.path) plan is.0 other.0 other.1
        (ap (has_path other.0.task.finalizers) (sym (path_is plan number planned here)) ∙ reported.1)
        ((bytes_decides (path_at plan is.0) other.0.task.path).1 (path_is plan is.0 other.0 other.1))) is.1

    -- ---- Which are wanted

    is_needed : list_any (λ other. has_path other.task.needs planned.task.path) plan ≡ true → IsNeeded progress.needs number
    is_needed h =
        let found = at_some (λ other. has_path other.task.needs planned.task.path) plan h in
        (found.0, (are.needs.reported found.0 number found.1 found.2).1 (within, ap (has_path found.1.task.needs) (path_is plan number planned here) ∙ found.3))

    needs_it : IsNeeded progress.needs number → list_any (λ other. has_path other.task.needs planned.task.path) plan ≡ true
    needs_it is =
        let known = row_known progress.needs is.0 number is.1 in
        let other = at is.0 (omega (arith, known, are.needs.each)) in
        let reported = (are.needs.reported is.0 number other.0 other.1).0 is.1 in
        some_at (λ z. has_path z.task.needs planned.task.path) plan is.0 other.0 other.1 (ap (has_path other.0.task.needs) (sym (path_is plan number planned here)) ∙ reported.1)

    wanted : meant.is_uncalled plan moment planned ≡ false → IsTrue (mark_at progress.wanted number) ⊎ FinalizesStarted progress number
    wanted h = elim (one_of planned.is_selected (list_any (λ other. has_path other.task.needs planned.task.path) plan) (meant.finalizes_started plan moment planned.task.path) h) [
      | inl selected ↦ inl ((are.wanted number planned here).1 (inl selected))
      | inr (inl needed_by) ↦ inl ((are.wanted number planned here).1 (inr (is_needed needed_by)))
      | inr (inr by_start) ↦ inr (finalizes by_start)
    ]
      where
        one_of : (a b c : Bool) → (not a && not b && not c) ≡ false → (a ≡ true) ⊎ (b ≡ true) ⊎ (c ≡ true)
        one_of true b c e = inl refl
        one_of false true c e = inr (inl refl)
        one_of false false true e = inr (inr refl)
        one_of false false false e = not_true (sym e)

    is_called : IsTrue (mark_at progress.wanted number) ⊎ FinalizesStarted progress number → meant.is_uncalled plan moment planned ≡ false
    is_called either = elim either [
      | inl marked ↦ elim ((are.wanted number planned here).0 marked) [
        | inl selected ↦ by_first planned.is_selected (list_any (λ other. has_path other.task.needs planned.task.path) plan) (meant.finalizes_started plan moment planned.task.path) selected
        | inr needed_by ↦ by_second planned.is_selected (list_any (λ other. has_path other.task.needs planned.task.path) plan) (meant.finalizes_started plan moment planned.task.path) (needs_it needed_by)
      ]
      | inr is ↦ by_third planned.is_selected (list_any (λ other. has_path other.task.needs planned.task.path) plan) (meant.finalizes_started plan moment planned.task.path) (finalized is)
    ]
      where
        by_first : (a b c : Bool) → a ≡ true → (not a && not b && not c) ≡ false
        by_first true b c e = refl
        by_first false b c e = not_true e

        by_second : (a b c : Bool) → b ≡ true → (not a && not b && not c) ≡ false
        by_second true b c e = refl
        by_second false true c e = refl
        by_second false false c e = not_true e

        by_third : (a b c : Bool) → c ≡ true → (not a && not b && not c) ≡ false
        by_third true b c e = refl
        by_third false true c e = refl
        by_third false false true e = refl
        by_third false false false e = not_true e

  -- ---- Whether the build stops

  some_failed : list_any (λ entry. is_failed entry.1) moment.outcomes ≡ list_any has_failed progress.endings
  some_failed = same_truth (list_any (λ entry. is_failed entry.1) moment.outcomes) (list_any has_failed progress.endings)
      (λ h.
      let found = at_some (λ entry. is_failed entry.1) moment.outcomes h in
      any_default has_failed progress.endings found.0 ToCome refl (ap has_failed (endings.ended found.0 found.1 found.2).2 ∙ sym (failing found.1.1) ∙ found.3))
      (λ h.
      let found = at_some has_failed progress.endings h in
      let ended = ap has_failed (get_or_from_slice_get progress.endings found.0 found.1 ToCome found.2) ∙ found.3 in
      let entry = came is_failed has_failed failing refl found.0 ended in
      some_at (λ e. is_failed e.1) moment.outcomes found.0 entry.0 entry.1 (tested is_failed has_failed failing refl found.0 ended))

  -- ---- What serves a finalizer

  abbrev steps : Path → List Path
  steps p = flat_map (λ planned. needs_in plan planned.task) (filter (λ planned. bytes_eq planned.task.path p) plan)

  serves : {path : Path} → Reached (meant.open_finalizers plan moment) steps (λ _. false) path → (number : ℕ) × (number < length plan) × (path_at plan number ≡ path) × Serves progress number
  serves (start {path = path} h o) =
      let both = in_filter (meant.finalizes_started plan moment) (order plan) path h in
      let number = of_order plan path both.0 in
      let planned = at number.0 number.1 in (
        number.0,
        number.1,
        number.2,
        called (finalizes number.0 planned.0 planned.1 (ap (meant.finalizes_started plan moment) (sym (path_is plan number.0 planned.0 planned.1) ∙ number.2) ∙ both.1)),
      )
  serves (step {from = from} {path = path} r h o) =
      let later = serves r in
      let other = filtered_at (λ z. bytes_eq z.task.path from) (λ z. has_path (needs_in plan z.task) path) plan
      (sym (any_flat (bytes_eq path) (λ z. needs_in plan z.task) (filter (λ z. bytes_eq z.task.path from) plan)) ∙ h) in
      let both = in_filter (is_scheduled_in plan) other.1.task.needs path other.4 in
      let number = of_order plan path both.1 in
      let same = same_number other.0 later.0 (slice_get_within plan other.0 other.1 other.2) later.1
      (path_is plan other.0 other.1 other.2 ∙ (bytes_decides other.1.task.path from).0 other.3 ∙ sym later.2) in (
        number.0,
        number.1,
        number.2,
        needed later.3 (subst (λ n. Contains (row progress.needs n) number.0) same
            ((are.needs.reported other.0 number.0 other.1 other.2).1 (number.1, ap (has_path other.1.task.needs) number.2 ∙ both.0))),
      )

  reached : (number : ℕ) → Serves progress number → (number < length plan) × Reached (meant.open_finalizers plan moment) steps (λ _. false) (path_at plan number)
  reached number (called is) =
      let other = at is.0 (ended_within is_started has_started starting refl is.0 is.1) in
      let reported = (are.finalizers.reported is.0 number other.0 other.1).0 is.2 in
      let planned = at number reported.0 in (
        reported.0,
        start (into_filter (meant.finalizes_started plan moment) (order plan) (path_at plan number) (in_order plan number reported.0)
            (ap (meant.finalizes_started plan moment) (path_is plan number planned.0 planned.1) ∙ finalized number planned.0 planned.1 is)) refl,
      )
  reached number (needed {later} s c) =
      let before = reached later s in
      let planned = at later before.0 in
      let reported = (are.needs.reported later number planned.0 planned.1).0 c in (
        reported.0,
        step before.1 (any_flat (bytes_eq (path_at plan number)) (λ z. needs_in plan z.task) (filter (λ z. bytes_eq z.task.path (path_at plan later)) plan)
            ∙ at_filtered (λ z. bytes_eq z.task.path (path_at plan later)) (λ z. has_path (needs_in plan z.task) (path_at plan number)) plan later planned.0 planned.1
            ((bytes_decides planned.0.task.path (path_at plan later)).1 (sym (path_is plan later planned.0 planned.1)))
            (into_filter (is_scheduled_in plan) planned.0.task.needs (path_at plan number) reported.1 (in_order plan number reported.0))) refl,
      )

pub starts_by_number : StartsByNumber
starts_by_number options plan progress moment number planned once are endings here = (
  λ meets. record {
    needs_ended_well = sym (lacks plan progress moment planned once are endings number planned here) ∙ meets.needs_ended_well;
    is_wanted = wanted plan progress moment planned once are endings number planned here meets.is_called;
    goes_on = elim meets.goes_on [
      | inl not_stopping ↦ inl (ap (λ b. b && not options.keep_going) (sym (some_failed plan progress moment planned once are endings)) ∙ not_stopping)
      | inr by_needs ↦
          let found = serves plan progress moment planned once are endings by_needs in
          inr (subst (Serves progress) (same_number plan progress moment planned once are endings found.0 number found.1 (slice_get_within plan number planned here)
          (found.2 ∙ sym (path_is plan number planned here))) found.3)
    ];
  },
  λ meets. record {
    needs_ended_well = lacks plan progress moment planned once are endings number planned here ∙ meets.needs_ended_well;
    is_called = is_called plan progress moment planned once are endings number planned here meets.is_wanted;
    goes_on = elim meets.goes_on [
      | inl not_stopping ↦ inl (ap (λ b. b && not options.keep_going) (some_failed plan progress moment planned once are endings) ∙ not_stopping)
      | inr s ↦ inr (subst (λ p. meant.ServesFinalizer plan moment p) (path_is plan number planned here) (reached plan progress moment planned once are endings number s).1)
    ];
  },
)

pub needs_by_number : NeedsByNumber
needs_by_number plan progress moment number planned once are endings here = executed plan progress moment planned once are endings number planned here
