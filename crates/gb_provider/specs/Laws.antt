-- What follows from the definition by rounds.
use Rattle.std.specs.Prelude.{◌≡◌, ◌<◌, ◌≤◌, ℕ, List, [], ◌∷◌, ◌++◌, length, Some, None}
use Rattle.gb_provider.specs.declared.expression.Expression.{Expression}
use Rattle.gb_provider.specs.Answers.{value_of}
use Rattle.gb_provider.specs.Indexed.{IsNoOutput}
use Rattle.gb_provider.specs.Meanings.{Meanings}
use Rattle.gb_provider.specs.Produced.{produced_by}
use Rattle.gb_provider.specs.Remembered.{AreWithin}
use Rattle.gb_provider.specs.Rounds.{Rule, answer_after}

-- an answer stays once it is reached
abbrev pub AnswersStay : Type 0 → Type 0
AnswersStay A =
    (rules : List (Rule ℕ A)) (m n entry : ℕ) (a : A) → m ≤ n → answer_after rules m entry ≡ Some a
    → answer_after rules n entry ≡ Some a

-- an entry without an answer after as many rounds as there are entries never has one
abbrev pub RoundsAreBounded : Type 0 → Type 0
RoundsAreBounded A =
    (rules : List (Rule ℕ A)) (entry : ℕ) → answer_after rules (length rules) entry ≡ None → (n : ℕ)
    → answer_after rules n entry ≡ None

-- one more expression that is no output changes neither the value of another nor its tasks
abbrev pub PlainOnesKeepAnswers : {M F Z S : Type 0} → Meanings M F Z S → Type 0
PlainOnesKeepAnswers {M} {F} {Z} meanings =
    (nodes : List (Expression M F Z)) (added : Expression M F Z) (entry : ℕ) → AreWithin nodes
    → IsNoOutput added → entry < length nodes
    → (value_of meanings (nodes ++ added ∷ []) entry ≡ value_of meanings nodes entry)
    × (produced_by meanings (nodes ++ added ∷ []) entry ≡ produced_by meanings nodes entry)
