-- The first of several faults.
use Rattle.std.proofs.Common.{◌≡◌, ◌∙◌, ap, false, inl, inr, rules, List, [], ◌∷◌, ◌++◌, Result}
use Rattle.std.specs.Prelude.{IsErrAnd, if◌then◌else◌, not}
use Rattle.std.proofs.lemmas.Result.{err_from_is_err_and}
use Rattle.clap.specs.Kinds.{IsAmong, Kinds}
use Rattle.clap.specs.Walk.{is_empty}
use Rattle.clap.specs.declared.error.kind.ErrorKind.{ErrorKind}
use Rattle.gb_core.specs.Lists.{first_of}
use Rattle.gb_report.specs.declared.fault.Fault.{Fault}
use Rattle.gb_report.specs.declared.fault.Fault.TheVariants.{Usage}
use Rattle.gb_arguments.specs.Faults.{IsFirstFault, ReportsFirst}

-- the first of some faults is also the first of these faults followed by more
pub first_among : (faults more whole : List Fault) (fault : Fault) → whole ≡ faults ++ more → IsFirstFault faults fault → IsFirstFault whole fault
first_among faults more whole fault same (inl memory) = inl memory
first_among [] more whole fault same (inr first) = absurd (cc)
first_among (one ∷ faults) more whole fault same (inr first) = inr (ap first_of same ∙ first)

-- the error that the exit of a `?` returns
pub reported_on : {T : Type 0} (faults : List Fault) (answer : Result T Fault) (fault : Fault) → IsErrAnd answer (λ handed. handed ≡ fault) → IsFirstFault faults fault → ReportsFirst faults answer
reported_on faults answer fault handed first = let p = err_from_is_err_and answer handed in rw (p.1, p.2) first

-- where `clap` reports some kind of error, the arguments are refused
pub usage_first : (kinds : Kinds) (kind : ErrorKind) → IsAmong kind kinds → IsFirstFault (if not (is_empty kinds) then Usage ∷ [] else []) Usage
usage_first [] kind among = absurd among
usage_first (one ∷ kinds) kind among =
    let filled : is_empty (one ∷ kinds) ≡ false = search rules in
    inr (ap (λ b. first_of (if not b then Usage ∷ [] else [])) filled)
