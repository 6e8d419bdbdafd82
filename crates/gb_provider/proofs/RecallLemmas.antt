-- Cached answers.
use Rattle.std.proofs.Common.{◌≡◌, ◌≢◌, ℕ, zero, suc, List, [], ◌∷◌, ◌++◌, refl, sym, ◌∙◌, arith}
use Rattle.std.specs.Prelude.{Option, Some, None, Result, Ok, Err, slice_get}
use Rattle.gb_core.specs.declared.value.Value.{Value}
use Rattle.gb_provider.specs.declared.fault.ProviderFault.{ProviderFault}
use Rattle.gb_provider.specs.declared.fault.ProviderFault.TheVariants as faults
use Rattle.gb_provider.specs.declared.expression.Expression.{Expression}
use Rattle.gb_provider.specs.declared.expression.Outcome.{Outcome}
use Rattle.gb_provider.specs.declared.evaluation.State.{State}
use Rattle.gb_provider.specs.declared.evaluation.State.TheVariants.{New, Open}
use Rattle.gb_provider.specs.Answers.{IsGot}
use Rattle.gb_provider.specs.Meanings.{Meanings}
use Rattle.gb_provider.specs.Remembered.{IsReported, IsRemembered}
use Rattle.gb_provider.specs.Rounds.{Rule, answer}
use Rattle.gb_provider.specs.Rules.{rules}
use Rattle.gb_provider.specs.Search.{IsSound, known}
use Rattle.gb_provider.proofs.SearchLemmas.{still_settled}

module _ {A : Type 0} where
  -- one more new state implies nothing
  pub known_more : (states : List (State A)) (e : ℕ) → known (states ++ New ∷ []) e ≡ known states e
  known_more [] zero = refl
  known_more [] (suc e) = refl
  known_more (state ∷ states) zero = refl
  known_more (state ∷ states) (suc e) = known_more states e

  -- and is not open
  pub closed_more : (states : List (State A)) (e : ℕ) → slice_get states e ≢ Some Open → slice_get (states ++ New ∷ []) e ≢ Some Open
  closed_more [] zero shut is = cc
  closed_more [] (suc e) shut is = cc
  closed_more (state ∷ states) zero shut is = shut is
  closed_more (state ∷ states) (suc e) shut is = closed_more states e shut is

  -- with no cached answers, all of them are right
  pub none_remembered : (table : List (Rule ℕ A)) → IsRemembered table []
  none_remembered table = (omega arith, record { right = λ e a is. cc; settled = λ e a is. cc; closed = λ e is. cc })

  -- the same answers under more states are as right
  pub sound_extended : (table : List (Rule ℕ A)) (old new : List (State A)) → ((e : ℕ) → known new e ≡ known old e) → ((e : ℕ) → slice_get old e ≢ Some Open → slice_get new e ≢ Some Open) → IsSound table old → IsSound table new
  sound_extended table old new same shut sound = record {
    right = λ e a now. sound.right e a (sym (same e) ∙ now);
    settled = still_settled table old new same sound.settled;
    closed = λ e. shut e (sound.closed e);
  }

-- a known answer that is returned is the result of `get`
pub reported_got : {M F Z S : Type 0} (meanings : Meanings M F Z S) (nodes : List (Expression M F Z)) (number : ℕ) (o : Option Outcome) → ((a : Outcome) → o ≡ Some a → answer (rules meanings nodes) number ≡ Some a)
    → (result : Result (Option Value) ProviderFault) → IsReported o result → IsGot meanings nodes number result
reported_got meanings nodes number o right (Ok (Some value)) reported = right _ reported
reported_got meanings nodes number o right (Ok None) reported = right _ reported
reported_got meanings nodes number o right (Err (faults.Circular names)) reported = absurd reported
reported_got meanings nodes number o right (Err (faults.Step fault)) reported = absurd reported
reported_got meanings nodes number o right (Err faults.NoValue) reported = absurd reported
reported_got meanings nodes number o right (Err (faults.Value fault)) reported = right _ reported
reported_got meanings nodes number o right (Err faults.OutOfMemory) reported = tt
