-- Some kinds of actions, as plain functions, for worked examples.
use Rattle.std.specs.Prelude.{Bool, not, ◌||◌, List, [], ◌∷◌, ◌++◌, map, if◌then◌else◌, codes, bytes_eq, Result, Ok, Err}
use Rattle.std.specs.List.{flat_map}
use Rattle.gb_core.specs.declared.value.Value.{Value}
use Rattle.gb_core.specs.declared.value.Value.TheVariants as values
use Rattle.gb_plan.specs.Task.{Text}
use Rattle.gb_semantics.specs.Kinds.{Kind, Kinds}
use Rattle.gb_action.specs.Meanings.{Values}
use Rattle.gb_action.specs.Files.{Tree, Trees, tree_at}
use Rattle.gb_action.specs.declared.change.Change.{Change}
use Rattle.gb_action.specs.declared.change.Change.TheVariants.{Added, Modified, Removed}
use Rattle.gb_action.specs.Changes.{Changes}
use Rattle.gb_action.specs.declared.reply.Written.{Written}

abbrev pub text_of : Value → Text
text_of (values.Text text) = text
text_of (values.Flag flag) = []
text_of (values.List texts) = []
text_of (values.Place place) = place
text_of (values.Task task) = task

abbrev pub first_arg : List Value → Text
first_arg [] = []
first_arg (value ∷ others) = text_of value

abbrev pub second_arg : List Value → Text
second_arg [] = []
second_arg (value ∷ others) = first_arg others

abbrev pub src : Trees → Tree
src trees = tree_at trees (codes "src")

abbrev pub written : Text → Text → Written
written path bytes = record { output = codes "out"; path = path; bytes = bytes }

abbrev pub row_makes : Kind → List Value → Values → Trees → Result (List Written) Text
row_makes kind args given trees =
    if bytes_eq kind.name (codes "writeText") then Ok (written [] (first_arg args) ∷ [])
    else if bytes_eq kind.name (codes "addFile") then Ok (written (first_arg args) (second_arg args) ∷ [])
    else if bytes_eq kind.name (codes "copyFiles") then Ok (map (λ file. written file.0 file.1) (src trees))
    else if bytes_eq kind.name (codes "concat") then Ok (written [] (flat_map (λ file. file.1) (src trees)) ∷ [])
    else if bytes_eq kind.name (codes "fail") then Err (first_arg args)
    else Ok []

abbrev pub change_text : Change → Text
change_text (Added path) = codes "ADDED " ++ path
change_text (Modified path) = codes "MODIFIED " ++ path
change_text (Removed path) = codes "REMOVED " ++ path

abbrev pub row_prints : Kind → List Value → Values → Trees → List Changes → List Text
row_prints kind args given trees changes =
    if bytes_eq kind.name (codes "printLine") then first_arg args ∷ []
    else if bytes_eq kind.name (codes "copyFiles") then flat_map (λ property. map change_text property.1) changes
    else []

abbrev pub writes_nothing : Kind → Bool
writes_nothing kind = bytes_eq kind.name (codes "printLine") || bytes_eq kind.name (codes "fail")

abbrev pub row_kinds : Kinds
row_kinds = record {
  makes = row_makes;
  prints = row_prints;
  writes = λ kind. not (writes_nothing kind);
  incremental = λ kind. bytes_eq kind.name (codes "copyFiles");
}
