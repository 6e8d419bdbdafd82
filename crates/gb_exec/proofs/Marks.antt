-- Marks, and rows of numbers.
use Rattle.std.proofs.Common.{◌≡◌, ◌<◌, ◌≤◌, ℕ, Bool, true, false, List, [], length, get_or, ap, sym, subst, ◌∙◌, ◌⊎◌, inl, inr, Contains, arith, Vec}
use Rattle.std.specs.Global.{Global}
use Rattle.std.proofs.lemmas.List.{get_or-set_same, get_or-set_other, get_or-map}
use Rattle.std.proofs.Math.ListN.{set, get_or-eq_default}
use Rattle.std.proofs.lemmas.Bool.{cases_eq, cases_order}
use Rattle.gb_exec.specs.Starts.{Spreads, marked, further, mark_at, row, rows}

pub rows_row : (vs : List (Vec ℕ Global)) (i : ℕ) (v : Vec ℕ Global) → i < length vs → v ≡ get_or vs i v → row (rows vs) i ≡ v.items
rows_row vs i v lt is = get_or-map (λ v. v.items) vs i v [] lt ∙ ap (λ v. v.items) (sym is)

-- a mark more keeps the others
pub mark_kept : (marks : List Bool) (at task : ℕ) → at < length marks → mark_at marks task ≡ true → mark_at (set marks at true) task ≡ true
mark_kept marks at task lt h = elim (cases_eq task at) [
  | inl e ↦ subst (λ k. mark_at (set marks at true) k ≡ true) (sym e) (get_or-set_same marks at true false lt)
  | inr n ↦ get_or-set_other marks at task true false n ∙ h
]

pub mark_set : (marks : List Bool) (at : ℕ) → at < length marks → mark_at (set marks at true) at ≡ true
mark_set marks at lt = get_or-set_same marks at true false lt

-- and no other is new
pub mark_only : (marks : List Bool) (at task : ℕ) → mark_at (set marks at true) task ≡ true → (task ≡ at) ⊎ (mark_at marks task ≡ true)
mark_only marks at task h = elim (cases_eq task at) [
  | inl e ↦ inl e
  | inr n ↦ inr (sym (get_or-set_other marks at task true false n) ∙ h)
]

-- a row that has something is there
pub row_known : (table : List (List ℕ)) (i x : ℕ) → Contains (row table i) x → i < length table
row_known table i x h = elim (cases_order i (length table)) [
  | inr (inl less) ↦ less
  | inl e ↦ none (omega arith)
  | inr (inr more) ↦ none (omega arith)
]
  where
    none : length table ≤ i → i < length table
    none past = let empty = subst (λ xs. Contains xs x) (get_or-eq_default table [] past) h in absurd (omega (arith, empty.1))

-- what is closed and has the first marks has all that they reach
pub reached : (needs : List (List ℕ)) (old new : List Bool) → ((task : ℕ) → mark_at old task ≡ true → mark_at new task ≡ true)
    → ((later task : ℕ) → mark_at new later ≡ true → Contains (row needs later) task → mark_at new task ≡ true)
    → (task : ℕ) → Spreads needs old task → mark_at new task ≡ true
reached needs old new kept closed task (marked h) = kept task h
reached needs old new kept closed task (further {later} s c) = closed later task (reached needs old new kept closed later s) c
