-- What the records of outputs imply for the outputs and their files.
use Rattle.std.specs.Prelude.{◌≡◌, ℕ, List, [], ◌∷◌, map}
use Rattle.std.proofs.Common.{refl, sym, ap, ◌∙◌}
use Rattle.sha2.specs.Sha256.{sha256}
use Rattle.gb_action.specs.Files.{Tree, Trees}
use Rattle.gb_folder.specs.Files.{Files}
use Rattle.gb_history.specs.Record.{Prints, prints_in}
use Rattle.gb_history.specs.declared.record.OutputRecord.{OutputRecord}
use Rattle.gb_semantics.specs.Memory.{Entry}
use Rattle.gb_semantics.specs.TrueRecord.{output_record_of, prints_of, record_of}
use Rattle.gb_plan.specs.declared.task.Output.{Output}
use Rattle.gb_tree.specs.Tree.{files_from}

-- the outputs with their files
abbrev pub output_trees : Files → List Output → Trees
output_trees files outputs = map (λ (output : Output). let tree : List ℕ × Tree = (output.name, files_from files output.place) in tree) outputs

-- the output that is recorded
abbrev pub output_in : OutputRecord → Output
output_in output = record { name = output.prints.0; form = output.form; place = output.place }

pub outputs_reported : (files : Files) (outputs : List Output) → map output_in (map (output_record_of sha256 files) outputs) ≡ outputs
outputs_reported files [] = refl
outputs_reported files (output ∷ outputs) = ap (λ (l : List Output). output ∷ l) (outputs_reported files outputs)

pub prints_reported : (files : Files) (outputs : List Output) → prints_in (map (output_record_of sha256 files) outputs) ≡ prints_of sha256 (output_trees files outputs)
prints_reported files [] = refl
prints_reported files (output ∷ outputs) = ap (λ (l : List Prints). (output_record_of sha256 files output).prints ∷ l) (prints_reported files outputs)

-- entries whose records have the same outputs have the same
pub same_outputs : (a b : Entry) → (record_of sha256 a).outputs ≡ (record_of sha256 b).outputs → a.outputs ≡ b.outputs
same_outputs a b e = sym (outputs_reported a.files a.outputs) ∙ ap (map output_in) e ∙ outputs_reported b.files b.outputs
