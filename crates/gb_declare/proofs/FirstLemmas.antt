-- The first of several faults.
use Rattle.std.proofs.Common.{◌≡◌, inl, inr, ℕ, suc, ◌<◌, List, [], ◌∷◌, ◌++◌, length, get_or, drop, Some, sym, ap, ◌∙◌}
use Rattle.std.proofs.Math.Seq.{drop-cons}
use Rattle.std.specs.List.{flat_map}
use Rattle.gb_report.specs.declared.fault.Fault.{Fault}
use Rattle.gb_registry.specs.Faults.{first_of, IsFirstFault}

first-append : (faults more : List Fault) (fault : Fault) → first_of faults ≡ Some fault → first_of (faults ++ more) ≡ Some fault
first-append [] more fault e = absurd (cc)
first-append (first ∷ faults) more fault e = e

-- the first fault of these is also the first of these followed by more
pub first_more : (faults more : List Fault) (fault : Fault) → IsFirstFault faults fault → IsFirstFault (faults ++ more) fault
first_more faults more fault (inl memory) = inl memory
first_more faults more fault (inr first) = inr (first-append faults more fault first)

-- the first fault of the element at an index is that of all, where those before it have none
pub stopped_at : {X : Type 0} (f : X → List Fault) (all : List Fault) (xs : List X) (i : ℕ) (x : X) (fault : Fault) → all ≡ flat_map f (drop i xs)
    → i < length xs → x ≡ get_or xs i x → IsFirstFault (f x) fault → IsFirstFault all fault
stopped_at f all xs i x fault same within is reported =
    let next : drop i xs ≡ x ∷ drop (suc i) xs = drop-cons xs i x within ∙ ap (λ w. w ∷ drop (suc i) xs) (sym is) in
    rw (same ∙ ap (flat_map f) next) (first_more (f x) (flat_map f (drop (suc i) xs)) fault reported)
