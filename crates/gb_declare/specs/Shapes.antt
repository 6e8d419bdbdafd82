-- What a task lacks for its actions, by the names of its files and the names and forms of its outputs.
use Rattle.std.specs.Prelude.{ℕ, Bool, false, not, ◌&&◌, List, Option, None, Some}
use Rattle.gb_action.specs.Meanings.{Meanings, shape_of}
use Rattle.gb_action.specs.Shapes.{has_source, has_output}
use Rattle.gb_action.specs.declared.output_files.Form.{Form}

-- the stored action, if there is one, finds no such file property or output
abbrev pub is_unfit : {A : Type 0} → Meanings A → List (List ℕ) → List (List ℕ × Form) → Option A → Bool
is_unfit shapes files outputs None = false
is_unfit shapes files outputs (Some stored) =
    let shape = shape_of shapes stored in not (has_source shape files && has_output shape.out outputs)
