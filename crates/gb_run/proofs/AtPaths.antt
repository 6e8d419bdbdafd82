-- Files and steps at the paths of an output.
use Rattle.std.specs.Prelude.{ℕ, ◌≡◌, ◌≢◌, ◌++◌, ◌&&◌, ◌||◌, Bool, true, false, cond, List, [], ◌∷◌, Option, Some, None, option_map, bytes_eq, if◌then◌else◌}
use Rattle.std.specs.List.{AllByRecursion}
use Rattle.std.specs.Option.{option_or}
use Rattle.std.specs.Cmp.Lexicographic.{bytes_decides}
use Rattle.std.specs.Ordering.{eq_by_cmp}
use Rattle.std.specs.FinMap.Entries.{find, put as put_at}
use Rattle.std.proofs.Common.{refl, sym, ap, subst, ◌∙◌}
use mathlib.Core.Bool.{true≢false}
use Rattle.gb_core.specs.Lists.{byte_order}
use Rattle.gb_core.specs.Place.{beneath}
use Rattle.gb_folder.specs.Files.{Place, Bytes, Files, file_at, with_file}
use Rattle.gb_action.specs.Outputs.{is_removed, written_at}
use Rattle.gb_action.specs.Shapes.{target}
use Rattle.gb_action.specs.declared.reply.OutputPath.{OutputPath}
use Rattle.gb_action.specs.declared.reply.Reply.{Reply}
use Rattle.gb_action.specs.declared.reply.Written.{Written}
use Rattle.gb_tree.specs.Tree.{path_from}
use Rattle.gb_tree.proofs.InOrder.{at_root, past_root}
use Rattle.gb_tree.proofs.Holding.{all_append}
use Rattle.gb_plan.specs.declared.task.Output.{Output}
use Rattle.gb_semantics.specs.Made.{output_named, placed, placed_in, put_over}
use Rattle.gb_semantics.proofs.Lemmas.Files.{at-with, same_place}
use Rattle.gb_run.specs.Named.{named, put, removed, removed_in}
use Rattle.gb_run.specs.Steps.{Step, put_steps}
use Rattle.gb_run.proofs.Looks.{at_others, at_put, steps_append, ties}

-- ---- paths under a place

pub from_beneath : (root path : Place) → path_from root (beneath root path) ≡ path
from_beneath root [] = at_root root
from_beneath root (c ∷ path) = past_root root (c ∷ path)

pub beneath_same : (root p q : Place) → beneath root p ≡ beneath root q → p ≡ q
beneath_same root p q e = sym (from_beneath root p) ∙ ap (path_from root) e ∙ from_beneath root q

alike : (a b : Bool) → (a ≡ true → b ≡ true) → (b ≡ true → a ≡ true) → a ≡ b
alike true b f g = sym (f refl)
alike false true f g = g refl
alike false false f g = refl

-- two paths under a place compare as equal if they are one
pub tied_beneath : (root p q : Place) → eq_by_cmp byte_order (beneath root p) (beneath root q) ≡ bytes_eq q p
tied_beneath root p q = alike _ _
    (λ e. (bytes_decides q p).1 (sym (beneath_same root p q (same_place (beneath root p) (beneath root q) e))))
    (λ e. sym (ties (beneath root p) (beneath root q)) ∙ (bytes_decides (beneath root p) (beneath root q)).1 (ap (beneath root) (sym ((bytes_decides q p).0 e))))

-- all of these name the output that kinds write
abbrev pub WritesTarget : List Written → Type 0
WritesTarget written = AllByRecursion (λ (file : Written). bytes_eq file.output target ≡ true) written

abbrev pub RemovesTarget : List OutputPath → Type 0
RemovesTarget removes = AllByRecursion (λ (path : OutputPath). bytes_eq path.output target ≡ true) removes

module _ (outputs : List Output) (output : Output) (is : output_named outputs target ≡ Some output) where
  of_name : (name : List ℕ) → bytes_eq name target ≡ true → output_named outputs name ≡ Some output
  of_name name e = ap (output_named outputs) ((bytes_decides name target).0 e) ∙ is

  one_placed : (file : Written) → bytes_eq file.output target ≡ true → placed_in (output_named outputs file.output) file ≡ (beneath output.place file.path, file.bytes) ∷ []
  one_placed file e = ap (λ o. placed_in o file) (of_name file.output e)

  one_removed : (path : OutputPath) → bytes_eq path.output target ≡ true → removed_in (output_named outputs path.output) path ≡ (beneath output.place path.path, None) ∷ []
  one_removed path e = ap (λ o. removed_in o path) (of_name path.output e)

  here : (name path other : List ℕ) → bytes_eq name target ≡ true → eq_by_cmp byte_order (beneath output.place path) (beneath output.place other) ≡ (bytes_eq name target && bytes_eq other path)
  here name path other e = tied_beneath output.place path other ∙ ap (λ b. b && bytes_eq other path) (sym e)

  -- ---- at a path of the output

  pub at_placed : (held : Files) (written : List Written) → WritesTarget written → (path : List ℕ)
      → file_at (put_over held (placed outputs written)) (beneath output.place path) ≡ option_or (written_at written target path) (file_at held (beneath output.place path))
  at_placed held [] all path = refl
  at_placed held (file ∷ written) all path =
      ap (λ fs. file_at (put_over held (fs ++ placed outputs written)) (beneath output.place path)) (one_placed file all.0)
      ∙ at_placed (with_file held (beneath output.place file.path) file.bytes) written all.1 path
      ∙ ap (option_or (written_at written target path)) (at-with held (beneath output.place file.path) file.bytes (beneath output.place path) ∙ ap (λ b. cond b (Some file.bytes) (file_at held (beneath output.place path))) (here file.output path file.path all.0))
      ∙ by (written_at written target path) (bytes_eq file.output target && bytes_eq file.path path) (file_at held (beneath output.place path))
    where
      by : (o : Option Bytes) (b : Bool) (h : Option Bytes) → option_or o (cond b (Some file.bytes) h) ≡ option_or (option_or o (if b then Some file.bytes else None)) h
      by None true h = refl
      by None false h = refl
      by (Some x) b h = refl

  at_put_files : (held : List Step) (written : List Written) → WritesTarget written → (path : List ℕ)
      → find byte_order (beneath output.place path) (put_steps held (put (placed outputs written))) ≡ option_or (option_map (λ b. Some b) (written_at written target path)) (find byte_order (beneath output.place path) held)
  at_put_files held [] all path = refl
  at_put_files held (file ∷ written) all path =
      ap (λ fs. find byte_order (beneath output.place path) (put_steps held (put (fs ++ placed outputs written)))) (one_placed file all.0)
      ∙ at_put_files (put_at byte_order (beneath output.place file.path) (Some file.bytes) held) written all.1 path
      ∙ ap (option_or (option_map (λ b. Some b) (written_at written target path))) (at_put held (beneath output.place file.path, Some file.bytes) (beneath output.place path) ∙ ap (λ b. cond b (Some (Some file.bytes)) (find byte_order (beneath output.place path) held)) (here file.output path file.path all.0))
      ∙ by (written_at written target path) (bytes_eq file.output target && bytes_eq file.path path) (find byte_order (beneath output.place path) held)
    where
      by : (o : Option Bytes) (b : Bool) (h : Option (Option Bytes))
          → option_or (option_map (λ x. Some x) o) (cond b (Some (Some file.bytes)) h) ≡ option_or (option_map (λ x. Some x) (option_or o (if b then Some file.bytes else None))) h
      by None true h = refl
      by None false h = refl
      by (Some x) b h = refl

  at_removed : (held : List Step) (removes : List OutputPath) → RemovesTarget removes → (path : List ℕ)
      → find byte_order (beneath output.place path) (put_steps held (removed outputs removes)) ≡ cond (is_removed removes target path) (Some None) (find byte_order (beneath output.place path) held)
  at_removed held [] all path = refl
  at_removed held (other ∷ removes) all path =
      ap (λ ss. find byte_order (beneath output.place path) (put_steps held (ss ++ removed outputs removes))) (one_removed other all.0)
      ∙ at_removed (put_at byte_order (beneath output.place other.path) None held) removes all.1 path
      ∙ ap (cond (is_removed removes target path) (Some None)) (at_put held (beneath output.place other.path, None) (beneath output.place path) ∙ ap (λ b. cond b (Some None) (find byte_order (beneath output.place path) held)) (here other.output path other.path all.0))
      ∙ by (is_removed removes target path) (bytes_eq other.output target && bytes_eq other.path path) (find byte_order (beneath output.place path) held)
    where
      by : (y x : Bool) (h : Option (Option Bytes)) → cond y (Some None) (cond x (Some None) h) ≡ cond (x || y) (Some None) h
      by true true h = refl
      by true false h = refl
      by false true h = refl
      by false false h = refl

  -- what a reply leaves at the path of an output, by its steps over others
  pub at_named : (held : List Step) (reply : Reply) → WritesTarget reply.writes → RemovesTarget reply.removes → (path : List ℕ)
      → find byte_order (beneath output.place path) (put_steps held (named outputs reply.removes reply.writes))
      ≡ option_or (option_map (λ b. Some b) (written_at reply.writes target path)) (cond (is_removed reply.removes target path) (Some None) (find byte_order (beneath output.place path) held))
  at_named held reply writes removes path =
      ap (find byte_order (beneath output.place path)) (steps_append held (removed outputs reply.removes) (put (placed outputs reply.writes)))
      ∙ at_put_files (put_steps held (removed outputs reply.removes)) reply.writes writes path
      ∙ ap (option_or (option_map (λ b. Some b) (written_at reply.writes target path))) (at_removed held reply.removes removes path)

  -- ---- elsewhere

  -- the place is that of no path of the output
  abbrev pub IsElsewhere : Place → Type 0
  IsElsewhere q = (path : List ℕ) → beneath output.place path ≢ q

  pub placed_elsewhere : (held : Files) (written : List Written) → WritesTarget written → (q : Place) → IsElsewhere q → file_at (put_over held (placed outputs written)) q ≡ file_at held q
  placed_elsewhere held [] all q other = refl
  placed_elsewhere held (file ∷ written) all q other =
      ap (λ fs. file_at (put_over held (fs ++ placed outputs written)) q) (one_placed file all.0)
      ∙ placed_elsewhere (with_file held (beneath output.place file.path) file.bytes) written all.1 q other
      ∙ at-with held (beneath output.place file.path) file.bytes q
      ∙ by (eq_by_cmp byte_order q (beneath output.place file.path)) refl
    where
      by : (b : Bool) → eq_by_cmp byte_order q (beneath output.place file.path) ≡ b → cond b (Some file.bytes) (file_at held q) ≡ file_at held q
      by true e = absurd (other file.path (sym (same_place q (beneath output.place file.path) e)))
      by false e = refl

  removed_separate : (removes : List OutputPath) → RemovesTarget removes → (q : Place) → IsElsewhere q → AllByRecursion (λ (s : Step). s.0 ≢ q) (removed outputs removes)
  removed_separate [] all q other = tt
  removed_separate (path ∷ removes) all q other =
      subst (λ (ss : List Step). AllByRecursion (λ (s : Step). s.0 ≢ q) (ss ++ removed outputs removes)) (sym (one_removed path all.0)) (other path.path, removed_separate removes all.1 q other)

  put_separate : (written : List Written) → WritesTarget written → (q : Place) → IsElsewhere q → AllByRecursion (λ (s : Step). s.0 ≢ q) (put (placed outputs written))
  put_separate [] all q other = tt
  put_separate (file ∷ written) all q other =
      subst (λ (fs : List (Place × Bytes)). AllByRecursion (λ (s : Step). s.0 ≢ q) (put (fs ++ placed outputs written))) (sym (one_placed file all.0)) (other file.path, put_separate written all.1 q other)

  pub named_distinct : (reply : Reply) → WritesTarget reply.writes → RemovesTarget reply.removes → (q : Place) → IsElsewhere q → AllByRecursion (λ (s : Step). s.0 ≢ q) (named outputs reply.removes reply.writes)
  named_distinct reply writes removes q other = all_append (λ (s : Step). s.0 ≢ q) (removed outputs reply.removes) (put (placed outputs reply.writes)) (removed_separate reply.removes removes q other) (put_separate reply.writes writes q other)

  pub named_elsewhere : (held : List Step) (reply : Reply) → WritesTarget reply.writes → RemovesTarget reply.removes → (q : Place) → IsElsewhere q
      → find byte_order q (put_steps held (named outputs reply.removes reply.writes)) ≡ find byte_order q held
  named_elsewhere held reply writes removes q other = at_others held (named outputs reply.removes reply.writes) q (named_distinct reply writes removes q other)

  -- a place is that of a path of the output, or of none
  pub data Where (q : Place) : Type 0 where
    Here : (path : List ℕ) → q ≡ beneath output.place path → Where q
    Elsewhere : IsElsewhere q → Where q

  pub whether : (q : Place) → Where q
  whether q = by (bytes_eq q (beneath output.place (path_from output.place q))) refl
    where
      by : (b : Bool) → bytes_eq q (beneath output.place (path_from output.place q)) ≡ b → Where q
      by true e = Here (path_from output.place q) ((bytes_decides q (beneath output.place (path_from output.place q))).0 e)
      by false e = Elsewhere (λ path same. true≢false (sym ((bytes_decides q (beneath output.place (path_from output.place q))).1 (sym same ∙ ap (beneath output.place) (sym (from_beneath output.place path) ∙ ap (path_from output.place) same))) ∙ e))
