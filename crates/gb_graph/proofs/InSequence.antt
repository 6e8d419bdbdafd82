-- Numbers in sequence are in order, where each task comes only after tasks of lesser numbers.
use Rattle.std.specs.Prelude.{ℕ, ◌<◌, ◌+◌, ◌↔◌, List, [], ◌∷◌, ◌++◌, length, Contains}
use Rattle.std.proofs.Common.{sym, subst, inl, inr, arith}
use Rattle.std.proofs.lemmas.Bool.{cases_eq, cases_order}
use Rattle.std.proofs.lemmas.List.Elements.{Contains-append_left, Contains-push, Contains-push_cases}
use Rattle.gb_graph.specs.Order.{row, InOrder, goes_on}

pub execution_reported : (numbers : List ℕ) (n : ℕ) → ((k : ℕ) → Contains numbers k ↔ (k < n)) → (k : ℕ) → Contains (numbers ++ n ∷ []) k ↔ (k < n + 1)
execution_reported numbers n reported k = (
  λ h. elim (Contains-push_cases numbers n k h) [ inl o ↦ (let lt = (reported k).0 o in omega (arith, lt)) | inr e ↦ omega (arith, e) ],
  λ lt. elim (cases_eq k n) [
    | inl e ↦ subst (λ v. Contains (numbers ++ n ∷ []) v) (sym e) (Contains-push numbers n)
    | inr separate ↦ Contains-append_left numbers (n ∷ []) k ((reported k).1 (omega (arith, lt, separate)))
  ],
)

pub execution_order : (table : List (List ℕ)) (numbers : List ℕ) (n : ℕ) → ((task before : ℕ) → Contains (row table task) before → before < task) → n < length table
    → ((k : ℕ) → Contains numbers k ↔ (k < n)) → InOrder table numbers → InOrder table (numbers ++ n ∷ [])
execution_order table numbers n lower lt reported order = goes_on order (record {
  known = lt;
  waits = λ h. let low = (reported n).0 h in omega (arith, low);
  ready = λ before h. (reported before).1 (lower n before h);
  least = λ other known waits ready. elim (cases_order other n) [
    | inl e ↦ omega (arith, e)
    | inr (inl low) ↦ absurd (waits ((reported other).1 low))
    | inr (inr high) ↦ omega (arith, high)
  ];
})
