-- Each built-in kind writes only files of its own output.
use Rattle.std.specs.Prelude.{ℕ, ◌≡◌, Bool, true, false, ◌&&◌, List, [], ◌∷◌, Result, Ok, bytes_eq, is_some}
use Rattle.std.specs.List.{list_all}
use Rattle.std.specs.Result.{result_unwrap_or}
use Rattle.std.proofs.Common.{refl, ap, subst}
use Rattle.gb_core.specs.declared.value.Value.{Value}
use Rattle.gb_action.specs.Files.{Tree, Trees, tree_at}
use Rattle.gb_action.specs.Meanings.{Values}
use Rattle.gb_action.specs.Shapes.{source, target}
use Rattle.gb_action.specs.declared.reply.Written.{Written}
use Rattle.gb_kinds.specs.Builtin.{Kind, PrintLine, WriteText, Fail, CopyFiles, ReplaceTokens, KeepLines}
use Rattle.gb_kinds.specs.Builtin.{Sums, Concat, AddFile, WordIndex, NoKind, kind_makes}
use Rattle.gb_kinds.specs.Builtin.{kind_shape, first_text, second_text}
use Rattle.gb_kinds.specs.ByFile.{by_file}
use Rattle.gb_kinds.specs.Contents.{sum_line, kept_lines, with_value}
use Rattle.gb_kinds.specs.Words.{index_of}

-- each file is one of the output that kinds write, if there is an output
abbrev pub are_own : Bool → List Written → Bool
are_own has_output written = list_all (λ (file : Written). bytes_eq file.output target && has_output) written

pub own_by_file : (edit : List ℕ → List ℕ) (files : Tree) → are_own true (by_file edit files) ≡ true
own_by_file edit [] = refl
own_by_file edit (file ∷ files) = own_by_file edit files

pub moved : (has_output : Bool) (made written : List Written)
    → ◌≡◌ {A = Result (List Written) (List ℕ)} (Ok made) (Ok written) → are_own has_output made ≡ true
    → are_own has_output written ≡ true
moved has_output made written e own =
    subst (λ xs. are_own has_output xs ≡ true)
    (ap (λ (r : Result (List Written) (List ℕ)). result_unwrap_or r []) e) own

pub writes_own : (kind : Kind) (arguments : List Value) (values : Values) (trees : Trees)
    (written : List Written) → kind_makes kind arguments values trees ≡ Ok written
    → are_own (is_some (kind_shape kind).out) written ≡ true
writes_own PrintLine arguments values trees written e = moved false [] written e refl
writes_own WriteText arguments values trees written e = moved true _ written e refl
writes_own Fail arguments values trees written e = absurd (cc)
writes_own CopyFiles arguments values trees written e =
    moved true _ written e (own_by_file (λ bytes. bytes) (tree_at trees source))
writes_own ReplaceTokens arguments values trees written e =
    moved true _ written e
    (own_by_file (with_value (first_text arguments) (second_text arguments)) (tree_at trees source))
writes_own KeepLines arguments values trees written e =
    moved true _ written e (own_by_file (kept_lines (first_text arguments)) (tree_at trees source))
writes_own Sums arguments values trees written e =
    moved true _ written e (own_by_file sum_line (tree_at trees source))
writes_own Concat arguments values trees written e = moved true _ written e refl
writes_own AddFile arguments values trees written e = moved true _ written e refl
writes_own WordIndex arguments values trees written e =
    moved true _ written e (own_by_file (λ bytes. bytes) (index_of (tree_at trees source)))
writes_own NoKind arguments values trees written e = absurd (cc)
