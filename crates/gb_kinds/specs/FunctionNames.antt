-- The names of the functions of values.
use Rattle.std.specs.Prelude.{ℕ, [], ◌∷◌, ◌++◌, map, codes}
use Rattle.gb_provider.specs.Table.{Table}
use Rattle.gb_provider.specs.declared.table.Transform.{Transform}
use Rattle.gb_provider.specs.declared.table.Transform.TheVariants.{Map, FlatMap, Zip, Test}
use Rattle.gb_kinds.specs.declared.functions.TheConstants.{UPPER, APPEND, SPLIT, JOIN, CHILD, NON_EMPTY}
use Rattle.gb_kinds.specs.declared.functions.TheConstants.{OUTPUT, CONCAT, IS_TRUE, EQUALS}

-- the numbers of functions by name
abbrev pub Numbers : Type 0
Numbers = Table ℕ ℕ ℕ ℕ

-- a stored function as its number, given the numbers of each use
abbrev pub number_of : {M F Z S : Type 0} → (M → ℕ) → (F → ℕ) → (Z → ℕ) → (S → ℕ) → Transform M F Z S
    → Transform ℕ ℕ ℕ ℕ
number_of mapped chosen zipped tested (Map function) = Map (mapped function)
number_of mapped chosen zipped tested (FlatMap function) = FlatMap (chosen function)
number_of mapped chosen zipped tested (Zip function) = Zip (zipped function)
number_of mapped chosen zipped tested (Test function) = Test (tested function)

abbrev pub numbers : {M F Z S : Type 0} → Table M F Z S → (M → ℕ) → (F → ℕ) → (Z → ℕ) → (S → ℕ) → Numbers
numbers table mapped chosen zipped tested =
    map (λ entry. (entry.0, number_of mapped chosen zipped tested entry.1)) table

-- the functions in the order of their table: those that map a text,
abbrev pub text_functions : Numbers
text_functions =
    (codes "upper", Map UPPER) ∷ (codes "append", Map APPEND) ∷ (codes "nonEmpty", Map NON_EMPTY) ∷ []

-- those that take or return a list or a place,
abbrev pub part_functions : Numbers
part_functions = (codes "split", Map SPLIT) ∷ (codes "join", Map JOIN) ∷ (codes "child", Map CHILD) ∷ []

-- those of `flatMap` and `zip`,
abbrev pub other_functions : Numbers
other_functions = (codes "output", FlatMap OUTPUT) ∷ (codes "concat", Zip CONCAT) ∷ []

-- and the tests
abbrev pub test_functions : Numbers
test_functions = (codes "isTrue", Test IS_TRUE) ∷ (codes "equals", Test EQUALS) ∷ []

abbrev pub value_functions : Numbers
value_functions = text_functions ++ part_functions ++ other_functions ++ test_functions
