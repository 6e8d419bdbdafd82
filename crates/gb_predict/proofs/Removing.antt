-- Whether files are at the outputs of a task, by their places.
use Rattle.std.specs.Prelude.{◌≡◌, ◌==◌, ◌&&◌, ◌||◌, ◌++◌, Bool, true, false, not, cond, List, [], ◌∷◌, length}
use Rattle.std.specs.Cmp.{unsigned_Decides}
use Rattle.std.specs.List.{list_all, list_any}
use Rattle.std.proofs.Common.{refl, sym, ap₂, ◌∙◌, arith}
use Rattle.gb_core.specs.Place.{is_under}
use Rattle.gb_folder.specs.Files.{Bytes, Files, Place, files_where, is_empty, places_under}
use Rattle.gb_plan.specs.declared.task.Output.{Output}
use Rattle.gb_run.specs.Emptying.{places_at}
use Rattle.gb_predict.proofs.Predicting.{empty_mapped}

pub length_empty : {X : Type 0} (xs : List X) → (length xs == 0) ≡ is_empty xs
length_empty [] = (unsigned_Decides 0 0).1 refl
length_empty (x ∷ xs) = by (length (x ∷ xs) == 0) refl
  where
    some : length (x ∷ xs) ≡ 0 → ⊥
    some e = omega (arith, e)

    by : (b : Bool) → (length (x ∷ xs) == 0) ≡ b → b ≡ false
    by true e = absurd (some ((unsigned_Decides (length (x ∷ xs)) 0).0 e))
    by false e = refl

abbrev none_passes : (Place → Bool) → Files → Bool
none_passes test files = list_all (λ (file : Place × Bytes). not (test file.0)) files

none_where : (test : Place → Bool) (files : Files) → is_empty (files_where test files) ≡ none_passes test files
none_where test [] = refl
none_where test (file ∷ files) =
    elim (test file.0) as (λ b. is_empty (cond b (file ∷ files_where test files) (files_where test files)) ≡ (not b && none_passes test files)) [
      | true ↦ refl
      | false ↦ none_where test files
    ]

empty_append : {X : Type 0} (xs ys : List X) → is_empty (xs ++ ys) ≡ (is_empty xs && is_empty ys)
empty_append [] ys = refl
empty_append (x ∷ xs) ys = refl

none_of_both : (one other : Place → Bool) (files : Files) → (none_passes one files && none_passes other files) ≡ none_passes (λ q. one q || other q) files
none_of_both one other [] = refl
none_of_both one other (file ∷ files) = by (one file.0) (other file.0) (none_of_both one other files)
  where
    nothing : (a : Bool) → (a && false) ≡ false
    nothing true = refl
    nothing false = refl

    by : (a b : Bool) → (none_passes one files && none_passes other files) ≡ none_passes (λ q. one q || other q) files
        → ((not a && none_passes one files) && (not b && none_passes other files)) ≡ (not (a || b) && none_passes (λ q. one q || other q) files)
    by true b rest = refl
    by false true rest = nothing (none_passes one files)
    by false false rest = rest

every : (files : Files) → none_passes (λ q. false) files ≡ true
every [] = refl
every (file ∷ files) = every files

-- there is no place of a file at the outputs exactly if there is no file
pub none_at : (outputs : List Output) (files : Files)
    → is_empty (places_at outputs files) ≡ is_empty (files_where (λ q. list_any (λ (output : Output). is_under q output.place) outputs) files)
none_at outputs files = walk outputs ∙ sym (none_where (λ q. list_any (λ (output : Output). is_under q output.place) outputs) files)
  where
    walk : (outputs : List Output) → is_empty (places_at outputs files) ≡ none_passes (λ q. list_any (λ (output : Output). is_under q output.place) outputs) files
    walk [] = sym (every files)
    walk (output ∷ outputs) =
        empty_append (places_under files output.place) (places_at outputs files)
        ∙ ap₂ (λ (a b : Bool). a && b)
        (empty_mapped (λ (file : Place × Bytes). file.0) (files_where (λ q. is_under q output.place) files) ∙ none_where (λ q. is_under q output.place) files)
        (walk outputs)
        ∙ none_of_both (λ q. is_under q output.place) (λ q. list_any (λ (o : Output). is_under q o.place) outputs) files
