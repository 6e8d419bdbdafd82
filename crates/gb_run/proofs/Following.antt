-- The files at the outputs of a task were made of its old trees, and are read so.
use Rattle.std.specs.Prelude.{ℕ, ◌≡◌, ◌&&◌, ◌||◌, Bool, true, false, cond, List, [], ◌∷◌, map, Option, Some, None, option_map, option_and_then, bytes_eq, if◌then◌else◌}
use Rattle.std.specs.List.{AllByRecursion, list_any}
use Rattle.std.specs.Option.{option_or}
use Rattle.std.specs.Cmp.Lexicographic.{bytes_decides}
use Rattle.std.proofs.Common.{refl, sym, ap, ◌∙◌}
use mathlib.Core.Bool.{true≢false}
use Rattle.gb_core.specs.Place.{beneath, is_under, overlaps}
use Rattle.gb_folder.specs.Files.{Place, Files, are_placed, file_at}
use Rattle.gb_folder.proofs.Changes.{file_at-files_where}
use Rattle.gb_action.specs.Changes.{Changes}
use Rattle.gb_action.specs.Files.{Trees}
use Rattle.gb_action.specs.Outputs.{exists_at, written_at}
use Rattle.gb_action.specs.Replies.{FollowsOn}
use Rattle.gb_action.specs.Shapes.{target}
use Rattle.gb_action.specs.declared.output_files.OutputFiles.{OutputFiles}
use Rattle.gb_action.specs.declared.reply.Written.{Written}
use Rattle.gb_tree.specs.Tree.{files_from}
use Rattle.gb_plan.specs.Graph.{some_overlap}
use Rattle.gb_plan.specs.Task.{is_output_of}
use Rattle.gb_plan.specs.declared.task.Action.{Action}
use Rattle.gb_plan.specs.declared.task.Output.{Output}
use Rattle.gb_plan.specs.declared.task.TaskDeclaration.{TaskDeclaration as Task}
use Rattle.gb_plan.proofs.Places.{beneath_under, none_under}
use Rattle.gb_plan.proofs.Tests.{none_left, none_right, or_right}
use Rattle.gb_semantics.specs.Kinds.{Kinds, kind_of}
use Rattle.gb_semantics.specs.Made.{output_named, placed, put_over}
use Rattle.gb_semantics.specs.Memory.{output_files}
use Rattle.gb_run.specs.AskingChanges.{GoesOn, IsFitting, request_of, writers}
use Rattle.gb_run.proofs.AtPaths.{Elsewhere, Here, IsElsewhere, Where, WritesTarget, at_placed, placed_elsewhere, whether}
use Rattle.gb_run.proofs.Observed.{own_named, observed_at, observed_named}
use Rattle.gb_run.proofs.Writer.{IsOfWriter, writer_made, writes_target}

pub or_none : {X : Type 0} (o : Option X) → option_or o None ≡ o
or_none None = refl
or_none (Some x) = refl

pub no_some : {X A : Type 0} (o : Option X) (x : X) → o ≡ None → o ≡ Some x → A
no_some o x e f = absurd (cc)

some_same : {X : Type 0} (o : Option X) (x y : X) → o ≡ Some x → o ≡ Some y → x ≡ y
some_same o x y e f = cc

-- ---- outputs are disjoint

-- a place under the output of a name is under some output
pub under_named : (outputs : List Output) (name : List ℕ) (output : Output) (q : Place) → output_named outputs name ≡ Some output → is_under q output.place ≡ true
    → list_any (λ (o : Output). is_under q o.place) outputs ≡ true
under_named [] name output q e under = no_some None output refl e
under_named (first ∷ outputs) name output q e under = by (λ w. under_named outputs name output q w under) (bytes_eq first.name name) e
  where
    by : (output_named outputs name ≡ Some output → list_any (λ (o : Output). is_under q o.place) outputs ≡ true) → (b : Bool) → (if b then Some first else output_named outputs name) ≡ Some output
        → (is_under q first.place || list_any (λ (o : Output). is_under q o.place) outputs) ≡ true
    by again true w =
        ap (λ b. b || list_any (λ (o : Output). is_under q o.place) outputs) (ap (λ (o : Output). is_under q o.place) (some_same (Some first) first output refl w) ∙ under)
    by again false w = or_right (is_under q first.place) (list_any (λ (o : Output). is_under q o.place) outputs) (again w)

any_places : (outputs : List Output) (q : Place) → list_any (is_under q) (map (λ (o : Output). o.place) outputs) ≡ list_any (λ (o : Output). is_under q o.place) outputs
any_places [] q = refl
any_places (o ∷ outputs) q = ap (λ b. is_under q o.place || b) (any_places outputs q)

-- no place is under outputs of two names
pub never_both : (outputs : List Output) (name other : List ℕ) (a b : Output) (q : Place) → bytes_eq name other ≡ false → output_named outputs name ≡ Some a → output_named outputs other ≡ Some b
    → is_under q a.place ≡ true → is_under q b.place ≡ true → some_overlap (map (λ (o : Output). o.place) outputs) ≡ false → ⊥
never_both [] name other a b q differ e f under_a under_b separate = no_some None a refl e
never_both (first ∷ outputs) name other a b q differ e f under_a under_b separate =
    by (λ v w. never_both outputs name other a b q differ v w under_a under_b (none_right (list_any (overlaps first.place) places) (some_overlap places) separate))
    (bytes_eq first.name name) (bytes_eq first.name other) refl refl e f
  where
    places : List Place
    places = map (λ (o : Output). o.place) outputs

    free : list_any (overlaps first.place) (map (λ (o : Output). o.place) outputs) ≡ false
    free = none_left (list_any (overlaps first.place) (map (λ (o : Output). o.place) outputs)) (some_overlap (map (λ (o : Output). o.place) outputs)) separate

    clash : (n : List ℕ) (c d : Output) → is_under q c.place ≡ true → is_under q d.place ≡ true → first ≡ c → output_named outputs n ≡ Some d → ⊥
    clash n c d under_c under_d is named =
        true≢false (sym (any_places outputs q ∙ under_named outputs n d q named under_d)
        ∙ none_under q first.place (map (λ (o : Output). o.place) outputs) (ap (λ (o : Output). is_under q o.place) is ∙ under_c) free)

    by : (output_named outputs name ≡ Some a → output_named outputs other ≡ Some b → ⊥) → (x y : Bool) → bytes_eq first.name name ≡ x → bytes_eq first.name other ≡ y
        → (if x then Some first else output_named outputs name) ≡ Some a → (if y then Some first else output_named outputs other) ≡ Some b → ⊥
    by again true true x y v w =
        true≢false (sym ((bytes_decides name other).1 (sym ((bytes_decides first.name name).0 x) ∙ (bytes_decides first.name other).0 y)) ∙ differ)
    by again true false x y v w = clash other a b under_a under_b (some_same (Some first) first a refl v) w
    by again false true x y v w = clash name b a under_b under_a (some_same (Some first) first b refl w) v
    by again false false x y v w = again v w

-- ---- what was written is nowhere else

pub unwritten : (written : List Written) → WritesTarget written → (output path : List ℕ) → bytes_eq output target ≡ false → written_at written output path ≡ None
unwritten [] all output path differ = refl
unwritten (file ∷ written) all output path differ =
    ap (λ o. option_or o (if bytes_eq file.output output && bytes_eq file.path path then Some file.bytes else None)) (unwritten written all.1 output path differ)
    ∙ ap (λ b. if b && bytes_eq file.path path then Some file.bytes else None) (other (bytes_eq file.output output) refl)
  where
    other : (b : Bool) → bytes_eq file.output output ≡ b → b ≡ false
    other true e = absurd (true≢false (sym ((bytes_decides output target).1 (sym ((bytes_decides file.output output).0 e) ∙ (bytes_decides file.output target).0 all.0)) ∙ differ))
    other false e = refl

-- ---- the task

module _ (kinds : Kinds) (task : Task) (old trees : Trees) (changes : List Changes) (observed : List OutputFiles) (files : Files) (good : are_placed files ≡ true)
    (fitting : AllByRecursion (IsFitting kinds task) task.actions) (goes_on : GoesOn kinds task old trees changes observed files)
    (writer : Action) (is_writer : writers kinds task.actions ≡ writer ∷ []) (fits : IsFitting kinds task writer)
    (output : Output) (is_target : output_named task.outputs target ≡ Some output) where
  -- what its writer made of the old trees
  pub before : IsOfWriter kinds task task.values old writer [] (output_files task files)
  before = writer_made kinds task task.values old task.actions writer [] (output_files task files) fitting is_writer goes_on.was_made

  abbrev pub made_before : List Written
  made_before = before.written

  pub target_before : WritesTarget before.written
  target_before = writes_target kinds writer fits.keeps writer.args task.values old before.written before.makes

  -- at an output of the task there is what was made
  pub existed : (q : Place) → is_output_of task q ≡ true → file_at files q ≡ file_at (put_over [] (placed task.outputs before.written)) q
  existed q at =
      sym (ap (λ b. cond b (file_at files q) None) at) ∙ sym (file_at-files_where files (is_output_of task) q) ∙ ap (λ (fs : Files). file_at fs q) before.files

  pub at_target : (path : List ℕ) → is_output_of task (beneath output.place path) ≡ true
  at_target path = under_named task.outputs target output (beneath output.place path) is_target (beneath_under output.place path)

  pub existed_at : (path : List ℕ) → file_at files (beneath output.place path) ≡ written_at before.written target path
  existed_at path =
      existed (beneath output.place path) (at_target path) ∙ at_placed task.outputs output is_target [] before.written target_before path
      ∙ or_none (written_at before.written target path)

  -- elsewhere at outputs there is nothing
  pub existed_elsewhere : (q : Place) → is_output_of task q ≡ true → IsElsewhere task.outputs output is_target q → file_at files q ≡ None
  existed_elsewhere q at other = existed q at ∙ placed_elsewhere task.outputs output is_target [] before.written target_before q other

  -- there is nothing at an output of another name
  none_existed : (name path : List ℕ) (other : Output) → bytes_eq name target ≡ false → output_named task.outputs name ≡ Some other → file_at files (beneath other.place path) ≡ None
  none_existed name path other differ named = by (whether task.outputs output is_target (beneath other.place path))
    where
      by : Where task.outputs output is_target (beneath other.place path) → file_at files (beneath other.place path) ≡ None
      by (Here at same) = absurd (never_both task.outputs name target other output (beneath other.place path) differ named is_target (beneath_under other.place path)
          (ap (λ p. is_under p output.place) same ∙ beneath_under output.place at) goes_on.separate)
      by (Elsewhere separate) = existed_elsewhere (beneath other.place path) (under_named task.outputs name other (beneath other.place path) named (beneath_under other.place path)) separate

  observed_is : (name path : List ℕ) → exists_at observed name path ≡ option_and_then (λ (fs : Files). file_at fs path) (option_map (λ (o : Output). files_from files o.place) (output_named task.outputs name))
  observed_is name path =
      ap (λ (outs : List OutputFiles). exists_at outs name path) goes_on.exists ∙ ap (option_and_then (λ (fs : Files). file_at fs path)) (observed_named files good task.outputs name)

  -- what is read of an output
  pub observed_target : (path : List ℕ) → exists_at observed target path ≡ file_at files (beneath output.place path)
  observed_target path =
      observed_is target path ∙ ap (λ o. option_and_then (λ (fs : Files). file_at fs path) (option_map (λ (p : Output). files_from files p.place) o)) is_target
      ∙ observed_at files output.place (own_named files good task.outputs target output goes_on.not_own is_target) good path

  observed_other : (name path : List ℕ) → bytes_eq name target ≡ false → exists_at observed name path ≡ None
  observed_other name path differ = observed_is name path ∙ by (output_named task.outputs name) refl
    where
      by : (o : Option Output) → output_named task.outputs name ≡ o → option_and_then (λ (fs : Files). file_at fs path) (option_map (λ (p : Output). files_from files p.place) o) ≡ None
      by None named = refl
      by (Some other) named =
          observed_at files other.place (own_named files good task.outputs name other goes_on.not_own named) good path ∙ none_existed name path other differ named

  observed_before : (name path : List ℕ) → exists_at observed name path ≡ written_at before.written name path
  observed_before name path = by (bytes_eq name target) refl
    where
      by : (b : Bool) → bytes_eq name target ≡ b → exists_at observed name path ≡ written_at before.written name path
      by true e =
          ap (λ n. exists_at observed n path) ((bytes_decides name target).0 e) ∙ observed_target path ∙ existed_at path
          ∙ ap (λ n. written_at before.written n path) (sym ((bytes_decides name target).0 e))
      by false e = observed_other name path e ∙ sym (unwritten before.written target_before name path e)

  pub unobserved : (name path : List ℕ) → bytes_eq name target ≡ false → exists_at observed name path ≡ None
  unobserved name path differ = observed_other name path differ

  -- the request follows on
  pub follows : FollowsOn (kinds.makes (kind_of writer)) (request_of task trees changes observed writer.args) old
  follows = record {
    shows = record { ordered = goes_on.shows.ordered; same_names = goes_on.shows.same_names; same_others = goes_on.shows.same_others; reported = goes_on.shows.reported };
    before = before.written;
    was_made = before.makes;
    exists = observed_before;
  }
