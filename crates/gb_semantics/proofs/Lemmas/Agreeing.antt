-- The kinds that a table gives agree with it, where no name occurs twice in it.
use Rattle.std.specs.Prelude.{◌≡◌, not, ◌∷◌, [], List, ℕ, Bool, true, false, cond, Option, Some, None, Err, is_some, map, bytes_eq}
use Rattle.std.specs.List.{AllByRecursion}
use Rattle.std.specs.FinMap.Entries.{find}
use Rattle.std.specs.Ordering.{eq_by_cmp, is_eq}
use Rattle.std.proofs.Common.{ap, refl, sym, ◌∙◌}
use Rattle.gb_core.proofs.Found.{same_tied}
use Rattle.gb_core.specs.Lists.{byte_order}
use Rattle.gb_action.specs.Meanings.{Making, Meanings, Printing, makes_of, prints_of, shape_of}
use Rattle.gb_plan.proofs.Tests.{itself, left_of, no_longer, none_left, none_right, not_false, right_of}
use Rattle.gb_plan.specs.Graph.{no_repeats}
use Rattle.gb_plan.specs.Ready.{Rows}
use Rattle.gb_plan.specs.Task.{has_path}
use Rattle.gb_semantics.specs.Kinds.{Kinds}
use Rattle.gb_semantics.specs.Headline.{Agrees}
use Rattle.gb_semantics.specs.Assumed.{SomeKindsAgree}
use Rattle.gb_semantics.proofs.Lemmas.Files.{same_place}

module _ {S : Type 0} (meanings : Meanings S) where
  abbrev makes_in : Option S → Making
  makes_in None = λ args given trees. Err []
  makes_in (Some stored) = makes_of meanings stored

  abbrev prints_in : Option S → Printing
  prints_in None = λ args given trees changes. []
  prints_in (Some stored) = prints_of meanings stored

  abbrev writes_in : Option S → Bool
  writes_in None = false
  writes_in (Some stored) = is_some (shape_of meanings stored).out

  abbrev incremental_in : Option S → Bool
  incremental_in None = false
  incremental_in (Some stored) = (shape_of meanings stored).incremental

  abbrev kinds_in : Rows S → Kinds
  kinds_in rows = record {
    makes = λ kind. makes_in (find byte_order kind.name rows);
    prints = λ kind. prints_in (find byte_order kind.name rows);
    writes = λ kind. writes_in (find byte_order kind.name rows);
    incremental = λ kind. incremental_in (find byte_order kind.name rows);
  }

  -- each row is found by its name
  abbrev AreFound : Rows S → Rows S → Type 0
  AreFound all rows = AllByRecursion (λ row. find byte_order row.0 all ≡ Some row.1) rows

  agree : (all rows : Rows S) → AreFound all rows → Agrees meanings rows (kinds_in all)
  agree all [] found = tt
  agree all (row ∷ rows) found = (
    record { makes = ap makes_in found.0; prints = ap prints_in found.0; writes = ap writes_in found.0; incremental = ap incremental_in found.0 },
    agree all rows found.1,
  )

  abbrev names_of : Rows S → List (List ℕ)
  names_of rows = map (λ row. row.0) rows

  -- a row is found by its name after one of another name
  found_after : (name other : List ℕ) (stored first : S) (rows : Rows S) → bytes_eq other name ≡ false → find byte_order name rows ≡ Some stored
      → find byte_order name ((other, first) ∷ rows) ≡ Some stored
  found_after name other stored first rows differs is = by (eq_by_cmp byte_order name other) refl
    where
      by : (b : Bool) → eq_by_cmp byte_order name other ≡ b → cond b (Some first) (find byte_order name rows) ≡ Some stored
      by true e = not_false (sym (ap (bytes_eq other) (same_place name other e) ∙ itself other) ∙ differs)
      by false e = is

  all_after : (other : List ℕ) (first : S) (all rows : Rows S) → has_path (names_of rows) other ≡ false → AreFound all rows → AreFound ((other, first) ∷ all) rows
  all_after other first all [] differs found = tt
  all_after other first all (row ∷ rows) differs found = (
    found_after row.0 other row.1 first all (none_left (bytes_eq other row.0) (has_path (names_of rows) other) differs) found.0,
    all_after other first all rows (none_right (bytes_eq other row.0) (has_path (names_of rows) other) differs) found.1,
  )

  are_found : (rows : Rows S) → no_repeats (names_of rows) ≡ true → AreFound rows rows
  are_found [] once = tt
  are_found ((name, stored) ∷ rows) once = (
    ap (λ (b : Bool). cond b (Some stored) (find byte_order name rows)) (ap is_eq (same_tied name name refl)),
    all_after name stored rows rows (no_longer (has_path (names_of rows) name) (left_of (not (has_path (names_of rows) name)) (no_repeats (names_of rows)) once))
        (are_found rows (right_of (not (has_path (names_of rows) name)) (no_repeats (names_of rows)) once)),
  )

pub some_agree : {S : Type 0} (meanings : Meanings S) → SomeKindsAgree meanings
some_agree meanings rows once = (kinds_in meanings rows, agree meanings rows rows (are_found meanings rows once))
