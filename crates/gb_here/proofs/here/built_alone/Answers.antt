use Rattle.std.proofs.Common.{ℕ, ◌≤◌, arith, Option, None, Some, subst, sym}
use Rattle.std.specs.Prelude.{IfSome, unwrap_or}
use Rattle.gb_here.proofs.here.built_alone.Goals as goal

printed_low : (status : Option ℕ) → IfSome status (λ s. s ≤ 2) → unwrap_or status 1 ≤ 2
printed_low None is = omega arith
printed_low (Some s) is = is

pub returns : goal.returns
returns g c = subst (λ n. n ≤ 2) (sym c.unwrap_or.ensures) (printed_low c.run_on_disk-status.result c.run_on_disk-status.ensures.bounded)
