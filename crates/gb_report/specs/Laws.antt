-- Theorems about the texts, as statements.
use Rattle.std.specs.Prelude.{◌≡◌, List, ℕ, ◌∷◌, ◌++◌, decimal}
use Rattle.gb_report.specs.declared.fault.Fault.{Fault}
use Rattle.gb_report.specs.Fault.{fault_number, fault_text}

-- the text of each fault is its number, a space and more
abbrev pub TextsBeginWithNumbers : Type 0
TextsBeginWithNumbers =
    (fault : Fault) → (rest : List ℕ) × (fault_text fault ≡ decimal (fault_number fault) ++ 32 ∷ rest)
