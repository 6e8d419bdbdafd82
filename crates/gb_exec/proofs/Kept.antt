-- The marks stay true of the endings.
use Rattle.std.proofs.Common.{◌≡◌, ◌<◌, ◌≤◌, ◌≢◌, ◌↔◌, ℕ, zero, suc, Bool, true, false, ◌||◌, ◌&&◌, List, [], ◌∷◌, length, get_or, replicate, ap, sym, subst, ◌∙◌, ◌⊎◌, inl, inr, Contains, arith, refl}
use Rattle.std.specs.List.{list_any}
use Rattle.std.proofs.lemmas.List.{get_or-set_same, get_or-set_other, get_or-replicate, length-replicate}
use Rattle.std.proofs.Math.ListN.{set, length-set, get_or-eq_default}
use Rattle.std.proofs.Math.Bool.{or_comm}
use Rattle.std.proofs.lemmas.Bool.{cases_eq, cases_order, false≢true}
use Rattle.gb_exec.specs.declared.may_start.Ending.{Ending}
use Rattle.gb_exec.specs.declared.may_start.Ending.TheVariants.{ToCome}
use Rattle.gb_exec.specs.Starts.{Progress, IsWired, FinalizesStarted, Serves, called as by_call, needed, Spreads, marked, further, Keeps, ending_in, has_failed, has_started, mark_at, row}
use Rattle.gb_plan.proofs.Tests.{left_of, right_of}

-- one thing again and again is at each index
always : {X : Type 0} (count at : ℕ) (x : X) → get_or (replicate count x) at x ≡ x
always count at x = elim (cases_order at count) [
  | inr (inl less) ↦ get_or-replicate count at x x less
  | inl e ↦ past (omega arith)
  | inr (inr more) ↦ past (omega arith)
]
  where
    past : count ≤ at → get_or (replicate count x) at x ≡ x
    past h = get_or-eq_default (replicate count x) x (omega (arith, h, length-replicate count x))

none_failed : (count : ℕ) → list_any has_failed (replicate count ToCome) ≡ false
none_failed zero = refl
none_failed (suc count) = none_failed count

-- ---- Before the first execution

pub at_first : (needs finalizers : List (List ℕ)) (wanted : List Bool) (endings called serving : ℕ)
    → endings ≡ length needs → called ≡ length needs → serving ≡ length needs → IsWired needs finalizers wanted
    → Keeps (record { needs = needs; finalizers = finalizers; wanted = wanted; endings = replicate endings ToCome }) (replicate called false) (replicate serving false) false false
at_first needs finalizers wanted endings called serving each_ending each_called each_serving wired = record {
  wired = wired;
  each_ending = length-replicate endings ToCome ∙ each_ending;
  each_called = length-replicate called false ∙ each_called;
  each_serving = length-replicate serving false ∙ each_serving;
  are_called = λ task. (
    λ h. absurd (false≢true (sym (always called task false) ∙ h)),
    λ is. absurd (false≢true (sym (ap has_started (always endings is.0 ToCome)) ∙ is.1)),
  );
  are_serving = λ h. absurd (false≢true h);
  failed = sym (none_failed endings);
}

-- ---- One ending more

module _ (progress : Progress) (task : ℕ) (ending : Ending) (known : task < length progress.endings) (to_come : ending_in progress.endings task ≡ ToCome) where
  abbrev after : Progress
  after = record progress { endings = set progress.endings task ending }

  ended : ending_in (set progress.endings task ending) task ≡ ending
  ended = get_or-set_same progress.endings task ending ToCome known

  other : (number : ℕ) → number ≢ task → ending_in (set progress.endings task ending) number ≡ ending_in progress.endings number
  other number separate = get_or-set_other progress.endings task number ending ToCome separate

  -- what was called is called
  still_called : (number : ℕ) → FinalizesStarted progress number → FinalizesStarted after number
  still_called number is = elim (cases_eq is.0 task) [
    | inl e ↦ absurd (false≢true (sym (ap has_started (ap (ending_in progress.endings) e ∙ to_come)) ∙ is.1))
    | inr separate ↦ (is.0, ap has_started (other is.0 separate) ∙ is.1, is.2)
  ]

  -- and the finalizers of the task, where it was started
  newly_called : (number : ℕ) → has_started ending ≡ true → Contains (row progress.finalizers task) number → FinalizesStarted after number
  newly_called number started c = (task, ap has_started ended ∙ started, c)

  -- and no other
  only_called : (number : ℕ) → FinalizesStarted after number → FinalizesStarted progress number ⊎ ((has_started ending ≡ true) × Contains (row progress.finalizers task) number)
  only_called number is = elim (cases_eq is.0 task) [
    | inl e ↦ inr (sym (ap has_started (ap (ending_in (set progress.endings task ending)) e ∙ ended)) ∙ is.1, subst (λ k. Contains (row progress.finalizers k) number) e is.2)
    | inr separate ↦ inl (is.0, sym (ap has_started (other is.0 separate)) ∙ is.1, is.2)
  ]

  pub failed_more : list_any has_failed (set progress.endings task ending) ≡ (list_any has_failed progress.endings || has_failed ending)
  failed_more = by_list progress.endings task known to_come
    where
      shifted : (a b c : Bool) → (a || (b || c)) ≡ ((a || b) || c)
      shifted true b c = refl
      shifted false b c = refl

      by_list : (endings : List Ending) (at : ℕ) → at < length endings → ending_in endings at ≡ ToCome
          → list_any has_failed (set endings at ending) ≡ (list_any has_failed endings || has_failed ending)
      by_list [] at less is = absurd (omega (arith, less))
      by_list (e ∷ endings) zero less is =
          or_comm (has_failed ending) (list_any has_failed endings) ∙ ap (λ b. (b || list_any has_failed endings) || has_failed ending) (sym (ap has_failed is))
      by_list (e ∷ endings) (suc at) less is = ap (λ b. has_failed e || b) (by_list endings at (omega (arith, less)) is) ∙ shifted (has_failed e) (list_any has_failed endings) (has_failed ending)

-- ---- What serves a finalizer

-- more that is called, more that serves
pub more_serve : (progress other : Progress) → other.needs ≡ progress.needs → ((task : ℕ) → FinalizesStarted progress task → FinalizesStarted other task)
    → (task : ℕ) → Serves progress task → Serves other task
more_serve progress other same more task (by_call is) = by_call (more task is)
more_serve progress other same more task (needed {later} s c) =
    needed (more_serve progress other same more later s) (subst (λ needs. Contains (row needs later) task) (sym same) c)

-- what spreads from what is called serves
module _ (progress : Progress) (marks : List Bool) (are : (task : ℕ) → (mark_at marks task ≡ true) ↔ FinalizesStarted progress task) where
  pub spread_serves : (task : ℕ) → Spreads progress.needs marks task → Serves progress task
  spread_serves task (marked h) = by_call ((are task).0 h)
  spread_serves task (further {later} s c) = needed (spread_serves later s) c

  pub serves_spread : (task : ℕ) → Serves progress task → Spreads progress.needs marks task
  serves_spread task (by_call is) = marked ((are task).1 is)
  serves_spread task (needed {later} s c) = further (serves_spread later s) c

-- ---- The end of an execution

module _ (progress : Progress) (marks serving : List Bool) (is_spread some_failed : Bool) (keeps : Keeps progress marks serving is_spread some_failed)
    (task : ℕ) (ending : Ending) (known : task < length progress.needs) (to_come : ending_in progress.endings task ≡ ToCome) where
  in_endings : task < length progress.endings
  in_endings = omega (arith, known, keeps.each_ending)

  abbrev next : Progress
  next = record progress { endings = set progress.endings task ending }

  failed_after : (some_failed || has_failed ending) ≡ list_any has_failed (set progress.endings task ending)
  failed_after = ap (λ b. b || has_failed ending) keeps.failed ∙ sym (failed_more progress task ending in_endings to_come)

  -- where none is newly called, the same serve
  same_serve : ((number : ℕ) → FinalizesStarted next number → FinalizesStarted progress number) → is_spread ≡ true → (number : ℕ) → (mark_at serving number ≡ true) ↔ Serves next number
  same_serve only spread number = (
    λ h. more_serve progress next refl (still_called progress task ending in_endings to_come) number ((keeps.are_serving spread number).0 h),
    λ s. (keeps.are_serving spread number).1 (more_serve next progress refl only number s),
  )

  pub passed : has_started ending ≡ false → Keeps next marks serving is_spread (some_failed || has_failed ending)
  passed not_started = record {
    wired = keeps.wired;
    each_ending = length-set progress.endings task ending ∙ keeps.each_ending;
    each_called = keeps.each_called;
    each_serving = keeps.each_serving;
    are_called = λ number. (λ h. still_called progress task ending in_endings to_come number ((keeps.are_called number).0 h), λ is. (keeps.are_called number).1 (only number is));
    are_serving = same_serve only;
    failed = failed_after;
  }
    where
      only : (number : ℕ) → FinalizesStarted next number → FinalizesStarted progress number
      only number is = elim (only_called progress task ending in_endings to_come number is) [
        | inl was ↦ was
        | inr new ↦ absurd (false≢true (sym not_started ∙ new.0))
      ]

  pub started : has_started ending ≡ true → (new : List Bool) → length new ≡ length marks
      → ((number : ℕ) → mark_at marks number ≡ true → mark_at new number ≡ true)
      → ((number : ℕ) → Contains (row progress.finalizers task) number → mark_at new number ≡ true)
      → ((number : ℕ) → mark_at new number ≡ true → (mark_at marks number ≡ true) ⊎ Contains (row progress.finalizers task) number)
      → (none : Bool) → (none ≡ true → (number : ℕ) → ¬ Contains (row progress.finalizers task) number)
      → Keeps next new serving (is_spread && none) (some_failed || has_failed ending)
  started has new same kept all only none no_row = record {
    wired = keeps.wired;
    each_ending = length-set progress.endings task ending ∙ keeps.each_ending;
    each_called = same ∙ keeps.each_called;
    each_serving = keeps.each_serving;
    are_called = λ number. (
      λ h. elim (only number h) [
        | inl was ↦ still_called progress task ending in_endings to_come number ((keeps.are_called number).0 was)
        | inr c ↦ newly_called progress task ending in_endings to_come number has c
      ],
      λ is. elim (only_called progress task ending in_endings to_come number is) [
        | inl was ↦ kept number ((keeps.are_called number).1 was)
        | inr c ↦ all number c.1
      ],
    );
    are_serving = λ both. same_serve (none_new (right_of is_spread none both)) (left_of is_spread none both);
    failed = failed_after;
  }
    where
      none_new : none ≡ true → (number : ℕ) → FinalizesStarted next number → FinalizesStarted progress number
      none_new is_none number is = elim (only_called progress task ending in_endings to_come number is) [
        | inl was ↦ was
        | inr c ↦ absurd (no_row is_none number c.1)
      ]

-- ---- A look for what serves

pub respread : (progress : Progress) (marks serving : List Bool) (is_spread some_failed : Bool) → Keeps progress marks serving is_spread some_failed
    → (new : List Bool) → length new ≡ length progress.needs → ((task : ℕ) → (mark_at new task ≡ true) ↔ Spreads progress.needs marks task)
    → Keeps progress marks new true some_failed
respread progress marks serving is_spread some_failed keeps new same are = record {
  wired = keeps.wired;
  each_ending = keeps.each_ending;
  each_called = keeps.each_called;
  each_serving = same;
  are_called = keeps.are_called;
  are_serving = λ _ task. (
    λ h. spread_serves progress marks keeps.are_called task ((are task).0 h),
    λ s. (are task).1 (serves_spread progress marks keeps.are_called task s),
  );
  failed = keeps.failed;
}
