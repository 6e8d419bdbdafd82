-- If no more files are taken in all than one output may have, no output has too many.
use Rattle.std.proofs.Common.{◌≡◌, ◌≤◌, Bool, true, false, cond, List, [], ◌∷◌, length, map, refl, ap, ◌∙◌, arith}
use Rattle.std.specs.Prelude.{nat_lt}
use Rattle.std.specs.List.{filter}
use Rattle.gb_folder.specs.Files.{Place, Files, files_under}
use Rattle.gb_folder.specs.Limits.{max_files}
use Rattle.gb_report.specs.declared.fault.Fault.TheVariants as faults
use Rattle.gb_plan.specs.declared.task.Output.{Output}
use Rattle.gb_semantics.specs.Made.{full_outputs}
use Rattle.gb_run.specs.Placing.{count_faults}

-- a test passes no more than there are
fewer : {X : Type 0} (test : X → Bool) (xs : List X) → length (filter test xs) ≤ length xs
fewer test [] = omega arith
fewer test (x ∷ xs) =
    let rest = fewer test xs in
    elim (test x) as (λ b. length (cond b (x ∷ filter test xs) (filter test xs)) ≤ length (x ∷ xs)) [ true ↦ omega arith | false ↦ omega arith ]

not_full : (files : Files) (root : Place) → length files ≤ max_files → nat_lt max_files (length (files_under files root)) ≡ false
not_full files root few = let less : length (files_under files root) ≤ length files = fewer _ files in grind arith

pub none_full : (outputs : List Output) (files : Files) → length files ≤ max_files → count_faults outputs files ≡ []
none_full [] files few = refl
none_full (output ∷ outputs) files few =
    ap (λ b. map (λ (full : Output). faults.TooManyFiles full.name) (cond b (output ∷ full_outputs outputs files) (full_outputs outputs files))) (not_full files output.place few)
    ∙ none_full outputs files few
