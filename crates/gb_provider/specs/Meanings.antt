-- The meanings of stored functions, for any closures that implement them.
use Rattle.std.specs.Prelude.{◌≡◌, ℕ, Bool, List, Option, Result, Ok, Err}
use Rattle.gb_core.specs.declared.value.Value.{Value}
use Rattle.gb_provider.specs.declared.fault.Chosen.{Chosen}
use Rattle.gb_provider.specs.declared.fault.Refusal.{Refusal}
use Rattle.gb_provider.specs.declared.fault.TransformFault.{TransformFault}
use Rattle.gb_provider.specs.declared.fault.TransformFault.TheVariants.{Refused, OutOfMemory}

-- the kind of a stored function, the number of its arguments, and the meaning of each number of a kind
pub record Kinds (S A : Type 0) : Type 0 where
  pub kind : S → ℕ
  pub arity : S → ℕ
  pub means : ℕ → A

-- the meaning of a stored function: the meaning of its kind
abbrev pub meaning_of : {S A : Type 0} → Kinds S A → S → A
meaning_of kinds stored = kinds.means (kinds.kind stored)

-- the texts between the brackets after a function's name
abbrev pub Arguments : Type 0
Arguments = List (List ℕ)

-- The meanings of the functions of `map`, `flatMap` and `zip`, and of the tests: one result for
-- each operand and arguments.
pub record Meanings (M F Z S : Type 0) : Type 0 where
  pub map : Kinds M (Value → Arguments → Result (Option Value) Refusal)
  pub flat_map : Kinds F (Value → Arguments → Result (Option Chosen) Refusal)
  pub zip : Kinds Z (Value → Value → Arguments → Result Value Refusal)
  pub test : Kinds S (Value → Arguments → Result Bool Refusal)

-- the result is that of the meaning, unless memory runs out
abbrev pub IsReply : {A : Type 0} → Result A TransformFault → Result A Refusal → Type 0
IsReply (Ok a) meant = meant ≡ Ok a
IsReply (Err (Refused refusal)) meant = meant ≡ Err refusal
IsReply (Err OutOfMemory) meant = Unit {0}
