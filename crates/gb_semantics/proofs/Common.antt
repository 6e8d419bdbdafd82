-- Small definitions that several proofs need: what an option holds, and the guard that always holds.
use Rattle.std.specs.Prelude.{◌≡◌, Some, None, is_some, unwrap_or, ⊤}
use Rattle.std.proofs.Common.{sym, ap}
use mathlib.Core.Bool.{true≢false}
use Rattle.gb_semantics.specs.Execution.{Guard}

pub some_same : {A : Type 0} {x y : A} → Some x ≡ Some y → x ≡ y
some_same {x = x} e = ap (λ o. unwrap_or o x) e

pub none_some : {A B : Type 0} {x : A} → None ≡ Some x → B
none_some e = absurd (true≢false (sym (ap is_some e)))

-- every guard holds
abbrev pub all_assumed : Guard
all_assumed contents = ⊤
