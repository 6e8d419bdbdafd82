-- The results of one step after another.
use Rattle.std.specs.Prelude.{◌≡◌, Result, Ok, Err}
use Rattle.std.proofs.Common.{ap, subst, ◌∙◌, sym, inl, inr}
use Rattle.gb_registry.specs.Source.{Source}
use Rattle.gb_registry.specs.Tables.{Tables}
use Rattle.gb_report.specs.declared.fault.Fault.{Fault}
use Rattle.gb_declare.specs.Realised.{Trouble, Plain, and_then}
use Rattle.gb_project.specs.Given.{IsSorted}
use Rattle.gb_project.specs.Over.{Reports}

module _ {M F Z S A : Type 0} (tables : Tables M F Z S A) (source : Source) where
  -- the fault of the first step is that of both
  pub first_fails : {X Y : Type 0} (first : Result X Trouble) (next : X → Result Y Trouble) (fault : Fault) → Reports tables source first (Err fault) → Reports tables source (and_then first next) (Err fault)
  first_fails first next fault (inl out) = inl out
  first_fails first next fault (inr (trouble, is, reported)) = inr (trouble, ap (λ r. and_then r next) is, reported)

  -- what the second gives is what both give
  pub then_gives : {X Y : Type 0} (first : Result X Trouble) (next : X → Result Y Trouble) (x : X) (y : Result Y Fault) → first ≡ Ok x → Reports tables source (next x) y → Reports tables source (and_then first next) y
  then_gives first next x y is reported = subst (λ r. Reports tables source (and_then r next) y) (sym is) reported

  -- the fault of a value of another sort
  pub sorted_shows : {X : Type 0} (expected : Result X Trouble) (r : Result X Fault) → IsSorted expected r → Reports tables source expected r
  sorted_shows expected (Ok x) is = is
  sorted_shows expected (Err fault) (inl out) = inl out
  sorted_shows expected (Err fault) (inr is) = inr (Plain fault, is, λ i. fault)

  -- a fault that is passed on
  pub passed_on : {X : Type 0} (expected : Result X Trouble) (r : Result X Fault) (fault known : Fault) → r ≡ Err fault → fault ≡ known → Reports tables source expected (Err known) → Reports tables source expected r
  passed_on expected r fault known is same reported = subst (Reports tables source expected) (sym (is ∙ ap Err same)) reported
