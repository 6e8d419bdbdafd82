-- The meanings of the kinds of actions, whatever closures implement them.
use Rattle.std.specs.Prelude.{ℕ, ◌≡◌, true, ◌&&◌, List, Ok, Result, bytes_eq, is_some}
use Rattle.std.specs.List.{list_all}
use Rattle.gb_core.specs.declared.value.Value.{Value}
use Rattle.gb_action.specs.Files.{Trees}
use Rattle.gb_action.specs.Changes.{Changes}
use Rattle.gb_action.specs.declared.reply.Written.{Written}
use Rattle.gb_action.specs.declared.shape.Shape.{Shape}
use Rattle.gb_action.specs.Shapes.{target}

-- values of inputs by name
abbrev pub Values : Type 0
Values = List (List ℕ × Value)

-- the files that an action makes of arguments, values and trees, or the text with which it fails
abbrev pub Making : Type 0
Making = List Value → Values → Trees → Result (List Written) (List ℕ)

-- the lines that it prints, for these and the changes of the incremental properties
abbrev pub Printing : Type 0
Printing = List Value → Values → Trees → List Changes → List (List ℕ)

-- the kind and the version of a stored action; and for each number of a kind its shape, what it
-- makes and what it prints
pub record Meanings (S : Type 0) : Type 0 where
  pub kind : S → ℕ
  pub version : S → ℕ
  pub shape : ℕ → Shape
  pub makes : ℕ → Making
  pub prints : ℕ → Printing

-- the kind of a number writes only files of its own output, and none if its shape has no output
abbrev pub WritesItsOutput : {S : Type 0} → Meanings S → ℕ → Type 0
WritesItsOutput meanings kind =
    (arguments : List Value) (values : Values) (trees : Trees) (written : List Written)
    → meanings.makes kind arguments values trees ≡ Ok written
    → list_all (λ file. bytes_eq file.output target && is_some (meanings.shape kind).out) written ≡ true

module _ {S : Type 0} (meanings : Meanings S) (stored : S) where
  abbrev pub shape_of : Shape
  shape_of = meanings.shape (meanings.kind stored)

  abbrev pub makes_of : Making
  makes_of = meanings.makes (meanings.kind stored)

  abbrev pub prints_of : Printing
  prints_of = meanings.prints (meanings.kind stored)
