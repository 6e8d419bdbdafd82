-- Declarations one after another determine one result.
use Rattle.std.proofs.Common.{◌≡◌, List, [], ◌∷◌, None, Some, Result, Ok, Err, sym, ap, subst, ◌∙◌, inl, inr}
use Rattle.gb_report.specs.declared.fault.Fault.{Fault}
use Rattle.gb_registry.specs.Faults.{first_of}
use Rattle.gb_build.specs.Executions.{InTurn, Passes}

-- at most one result is declared so
abbrev pub IsOne : {X : Type 0} → (Result X Fault → Type 0) → Type 0
IsOne {X = X} Said = (a b : Result X Fault) → Said a → Said b → a ≡ b

ok_no_err : {X : Type 0} (x : X) (fault : Fault) → let R : Type 0 = Result X Fault in let a : R = Ok x in let b : R = Err fault in a ≡ b → ⊥
ok_no_err x fault e = cc

same_ok : {X : Type 0} (x y : X) → let R : Type 0 = Result X Fault in let a : R = Ok x in let b : R = Ok y in a ≡ b → x ≡ y
same_ok x y e = cc

none_first : (xs : List Fault) (fault : Fault) → xs ≡ [] → first_of xs ≡ Some fault → ⊥
none_first [] fault none first = let e : None ≡ Some fault = first in cc
none_first (x ∷ xs) fault none first = cc

pub passes_one : {X : Type 0} (xs : List Fault) (x : X) → IsOne (Passes xs x)
passes_one xs x (Ok y) (Ok z) a b = ap Ok (a.1 ∙ sym b.1)
passes_one xs x (Ok y) (Err fault) a b = absurd (none_first xs fault a.0 b)
passes_one xs x (Err fault) (Ok z) a b = absurd (none_first xs fault b.0 a)
passes_one xs x (Err fault) (Err other) a b = ap Err (let e : Some fault ≡ Some other = sym a ∙ b in cc)

module _ {X Y : Type 0} (First : Result X Fault → Type 0) (Next : X → Result Y Fault → Type 0) (first : IsOne First) (next : (x : X) → IsOne (Next x)) where
  same_first : (x z : X) → First (Ok x) → First (Ok z) → x ≡ z
  same_first x z a b = same_ok x z (first (Ok x) (Ok z) a b)

  no_both : (x : X) (fault : Fault) → First (Ok x) → First (Err fault) → ⊥
  no_both x fault a b = ok_no_err x fault (first (Ok x) (Err fault) a b)

  same_next : (x z : X) (a b : Result Y Fault) → First (Ok x) → First (Ok z) → Next x a → Next z b → a ≡ b
  same_next x z a b f g n m = next z a b (subst (λ w. Next w a) (same_first x z f g) n) m

  pub executions_one : IsOne (InTurn First Next)
  executions_one (Ok y) (Ok z) (x, f, n) (w, g, m) = same_next x w (Ok y) (Ok z) f g n m
  executions_one (Ok y) (Err fault) (x, f, n) (inl bad) = absurd (no_both x fault f bad)
  executions_one (Ok y) (Err fault) (x, f, n) (inr (w, g, m)) = same_next x w (Ok y) (Err fault) f g n m
  executions_one (Err fault) (Ok z) (inl bad) (w, g, m) = absurd (no_both w fault g bad)
  executions_one (Err fault) (Ok z) (inr (x, f, n)) (w, g, m) = same_next x w (Err fault) (Ok z) f g n m
  executions_one (Err fault) (Err other) (inl bad) (inl worse) = ap Err (let e = first (Err fault) (Err other) bad worse in cc)
  executions_one (Err fault) (Err other) (inl bad) (inr (w, g, m)) = absurd (no_both w fault g bad)
  executions_one (Err fault) (Err other) (inr (x, f, n)) (inl worse) = absurd (no_both x other f worse)
  executions_one (Err fault) (Err other) (inr (x, f, n)) (inr (w, g, m)) = same_next x w (Err fault) (Err other) f g n m

-- declarations one after another stay so where each of the two does
pub executions_stay : {X Y : Type 0} (First First' : Result X Fault → Type 0) (Next Next' : X → Result Y Fault → Type 0)
    → ((r : Result X Fault) → First r → First' r) → ((x : X) → First (Ok x) → (r : Result Y Fault) → Next x r → Next' x r)
    → (r : Result Y Fault) → InTurn First Next r → InTurn First' Next' r
executions_stay First First' Next Next' first next (Ok y) (x, f, n) = (x, first (Ok x) f, next x f (Ok y) n)
executions_stay First First' Next Next' first next (Err fault) (inl bad) = inl (first (Err fault) bad)
executions_stay First First' Next Next' first next (Err fault) (inr (x, f, n)) = inr (x, first (Ok x) f, next x f (Err fault) n)
