-- The files and printed lines of a kind that makes a file from each file by a function of its arguments and
-- the file's bytes.
use Rattle.std.specs.Prelude.{ℕ, ◌≡◌, List, Ok, true}
use Rattle.gb_core.specs.declared.value.Value.{Value}
use Rattle.gb_action.specs.Files.{Trees, tree_at}
use Rattle.gb_action.specs.Meanings.{Making, Values}
use Rattle.gb_action.specs.Shapes.{source}
use Rattle.gb_action.specs.declared.reply.Written.{Written}
use Rattle.gb_kinds.specs.ByFile.{by_file}
use Rattle.gb_kinds.specs.Own.{are_own, moved, own_by_file}

-- the result for the arguments of a call and the bytes of one file
abbrev pub Edit : Type 0
Edit = List Value → List ℕ → List ℕ

-- each file of `src`, at the same path, with the result for its bytes
abbrev pub makes_by_file : Edit → Making
makes_by_file edit arguments values trees = Ok (by_file (edit arguments) (tree_at trees source))

-- it writes only to its own output
pub by_file-own : (edit : Edit) (arguments : List Value) (values : Values) (trees : Trees)
    (written : List Written)
    → makes_by_file edit arguments values trees ≡ Ok written → are_own true written ≡ true
by_file-own edit arguments values trees written made =
    moved true (by_file (edit arguments) (tree_at trees source)) written made
    (own_by_file (edit arguments) (tree_at trees source))
