-- The values of properties that texts `NAME=VALUE` give.
use Rattle.std.specs.Prelude.{ℕ, ◌≡◌, ◌==◌, ◌++◌, List, [], ◌∷◌, IsTrue, length, map, nat_lt, reverse}
use Rattle.std.specs.Prelude.{if◌then◌else◌}
use Rattle.std.specs.Borrow.{Bor}
use Rattle.std.specs.FinMap.Entries.{find, is_sorted}
use Rattle.std.specs.List.{after_first, before_first, flat_map}
use Rattle.gb_core.specs.Lists.{byte_order}
use Rattle.gb_core.specs.Name.{is_name}
use Rattle.gb_report.specs.declared.fault.Fault.{Fault}
use Rattle.gb_report.specs.declared.fault.Fault.TheVariants as faults
use Rattle.gb_report.specs.declared.fault.Limited.TheVariants as limited

-- the part before the first `=` (61), or the whole text where there is no `=`
abbrev pub name_in : List ℕ → List ℕ
name_in text = before_first (λ byte. byte == 61) text

-- the part after the first `=`, and nothing where there is no `=`
abbrev pub value_in : List ℕ → List ℕ
value_in text = after_first (λ byte. byte == 61) text

-- the name and the value of a text
abbrev pub part : List ℕ → List ℕ × List ℕ
part text = (name_in text, value_in text)

-- each name that a text has maps to the value of the last text with that name, and no other name is present
abbrev pub IsLastOf : List (List ℕ) → List (List ℕ × List ℕ) → Type 0
IsLastOf texts given =
    (name : List ℕ) → find byte_order name given ≡ find byte_order name (reverse (map part texts))

-- the last value of each name; the names rise, so each occurs once
pub record AreLast (texts : List (List ℕ)) (given : List (List ℕ × List ℕ)) : Type 0 where
  pub rising : IsTrue (is_sorted byte_order given)
  pub last : IsLastOf texts given

abbrev pub names_of : List (List ℕ × List ℕ) → List (List ℕ)
names_of given = map (λ entry. entry.0) given

-- the texts to which references point
abbrev pub texts_after : List (Bor (List ℕ)) → List (List ℕ)
texts_after texts = map (λ text. text.now) texts

-- a text with an invalid name
abbrev pub part_faults : List ℕ → List Fault
part_faults text = if is_name (name_in text) then [] else faults.BadName (name_in text) ∷ []

-- more than 256 texts, and then each text with an invalid name
abbrev pub values_faults : List (List ℕ) → List Fault
values_faults texts =
    (if nat_lt 256 (length texts) then faults.TooMany limited.Values ∷ [] else [])
    ++ flat_map part_faults texts
