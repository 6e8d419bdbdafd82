-- The first of several faults, passed on.
use Rattle.std.proofs.Common.{◌≡◌, inl, inr, ℕ, suc, ◌+◌, ◌<◌, List, [], ◌∷◌, ◌++◌, length, get_or, drop, add-one, Some, Ok, Err, Result, sym, ap, subst, ◌∙◌}
use Rattle.std.proofs.Math.Seq.{drop-cons}
use Rattle.std.specs.Result.{IsErrAnd}
use Rattle.gb_core.specs.Lists.{first_of}
use Rattle.gb_report.specs.declared.fault.Fault.{Fault}
use Rattle.gb_registry.specs.Faults.{IsFirstFault, ReportsFirst}

pub first-append : {X : Type 0} (xs more : List X) (x : X) → first_of xs ≡ Some x → first_of (xs ++ more) ≡ Some x
first-append [] more x e = absurd (cc)
first-append (first ∷ xs) more x e = e

-- the first of some faults is the first of these faults followed by more
pub first_among : (faults more whole : List Fault) (fault : Fault) → whole ≡ faults ++ more → IsFirstFault faults fault → IsFirstFault whole fault
first_among faults more whole fault same (inl memory) = inl memory
first_among faults more whole fault same (inr first) = inr (ap first_of same ∙ first-append faults more fault first)

-- a fault that is passed on is reported
pub reported_on : {T : Type 0} (faults : List Fault) (answer : Result T Fault) (fault : Fault) → IsErrAnd answer (λ handed. handed ≡ fault) → IsFirstFault faults fault → ReportsFirst faults answer
reported_on faults (Ok x) fault handed first = absurd handed
reported_on faults (Err reported) fault handed first = subst (IsFirstFault faults) (sym handed) first

-- what is left of a row from an index on
pub left_from : {X : Type 0} (xs : List X) (i : ℕ) (x : X) → i < length xs → x ≡ get_or xs i x → drop i xs ≡ x ∷ drop (i + 1) xs
left_from xs i x within is = rw add-one (drop-cons xs i x within ∙ ap (λ y. y ∷ drop (suc i) xs) (sym is))
