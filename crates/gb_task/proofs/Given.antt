-- What a run is given: names of digests, and what is remembered by what was read.
use Rattle.std.specs.Prelude.{ℕ, suc, ◌≡◌, Bool, false, List, [], ◌∷◌, length, map, is_some, Option, None, Some}
use Rattle.std.proofs.Common.{refl, sym, ap, ap₂, ◌∙◌}
use Rattle.gb_action.specs.Files.{Trees}
use Rattle.gb_action.specs.declared.output_files.Form.{Form}
use Rattle.gb_action.specs.declared.output_files.OutputFiles.{OutputFiles}
use Rattle.gb_history.specs.Record.{Prints}
use Rattle.gb_plan.specs.Task.{given_outputs}
use Rattle.gb_plan.specs.declared.task.FileProperty.{FileProperty}
use Rattle.gb_plan.specs.declared.task.Output.{Output}
use Rattle.gb_plan.proofs.Tests.{not_false}
use Rattle.gb_label.specs.Reading.{digests_in, prints_observed}

-- where no record was read nothing is remembered
pub none_read : {X : Type 0} (o : Option X) (read : Bool) → is_some o ≡ read → read ≡ false → o ≡ None
none_read None read is no_read = refl
none_read (Some x) read is no_read = not_false (is ∙ no_read)

names_of_digests : (trees : Trees) → map (λ (found : Prints). found.0) (digests_in trees) ≡ map (λ tree. tree.0) trees
names_of_digests [] = refl
names_of_digests (tree ∷ trees) = ap (λ (names : List (List ℕ)). tree.0 ∷ names) (names_of_digests trees)

pub named_digests : (inputs : List Prints) (trees : Trees) (names : List (List ℕ)) → inputs ≡ digests_in trees → map (λ tree. tree.0) trees ≡ names
    → map (λ (found : Prints). found.0) inputs ≡ names
named_digests inputs trees names are named = ap (map (λ (found : Prints). found.0)) are ∙ names_of_digests trees ∙ named

as_many_named : {X Y : Type 0} (f : X → List ℕ) (h : Y → List ℕ) (xs : List X) (ys : List Y) → map f xs ≡ map h ys → length xs ≡ length ys
as_many_named f h [] [] same = refl
as_many_named f h [] (y ∷ ys) same = absurd (cc)
as_many_named f h (x ∷ xs) [] same = absurd (cc)
as_many_named f h (x ∷ xs) (y ∷ ys) same = ap suc (as_many_named f h xs ys (rest same))
  where
    rest : f x ∷ map f xs ≡ h y ∷ map h ys → map f xs ≡ map h ys
    rest e = cc

-- as many digests as properties
pub as_many : (properties : List FileProperty) (trees : Trees) (inputs : List Prints) → inputs ≡ digests_in trees → map (λ tree. tree.0) trees ≡ map (λ property. property.name) properties
    → length properties ≡ length inputs
as_many properties trees inputs are named =
    as_many_named (λ (property : FileProperty). property.name) (λ (found : Prints). found.0) properties inputs (sym (named_digests inputs trees _ are named))

-- the digests of outputs bear the outputs' names
pub named_outputs : (outputs : List Output) (observed : List OutputFiles) (prints : List Prints) → prints ≡ prints_observed observed
    → map (λ output. (output.name, output.form)) observed ≡ given_outputs outputs → map (λ (found : Prints). found.0) prints ≡ map (λ (output : Output). output.name) outputs
named_outputs outputs observed prints are formed = ap (map (λ (found : Prints). found.0)) are ∙ by outputs observed formed
  where
    by : (outputs : List Output) (observed : List OutputFiles) → map (λ (output : OutputFiles). (output.name, output.form)) observed ≡ given_outputs outputs
        → map (λ (found : Prints). found.0) (prints_observed observed) ≡ map (λ (output : Output). output.name) outputs
    by [] [] same = refl
    by [] (found ∷ observed) same = absurd (cc)
    by (output ∷ outputs) [] same = absurd (cc)
    by (output ∷ outputs) (found ∷ observed) same = ap₂ (λ (name : List ℕ) (names : List (List ℕ)). name ∷ names) (first same) (by outputs observed (rest same))
      where
        heads : {X : Type 0} {x y : X} {xs ys : List X} → x ∷ xs ≡ y ∷ ys → x ≡ y
        heads e = cc

        first : (found.name, found.form) ∷ map (λ (f : OutputFiles). (f.name, f.form)) observed ≡ (output.name, output.form) ∷ given_outputs outputs → found.name ≡ output.name
        first e = ap (λ (p : List ℕ × Form). p.0) (heads e)

        rest : (found.name, found.form) ∷ map (λ (f : OutputFiles). (f.name, f.form)) observed ≡ (output.name, output.form) ∷ given_outputs outputs
            → map (λ (f : OutputFiles). (f.name, f.form)) observed ≡ given_outputs outputs
        rest e = cc
