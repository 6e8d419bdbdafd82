-- The results of the kinds that work file by file.
use Rattle.std.proofs.Common.{◌≡◌, ℕ, Bool, true, false, true≢false, ◌&&◌, if◌then◌else◌, List, [], ◌∷◌, map, Result, Ok, Option, Some, None, unwrap_or, refl, sym, ap, subst, ◌∙◌, bytes_eq, IsTrue}
use Rattle.std.proofs.lemmas.List.Folds.{list_all-append}
use Rattle.std.specs.List.{flat_map, list_any, list_all}
use Rattle.std.specs.Option.{option_or}
use Rattle.std.specs.FinMap.Entries.{find, is_sorted}
use Rattle.std.specs.Ordering.{eq_by_cmp}
use Rattle.gb_core.specs.declared.value.Value.{Value}
use Rattle.gb_core.specs.Lists.{byte_order}
use Rattle.gb_action.specs.Files.{Tree, Trees, file_at, tree_at}
use Rattle.gb_action.specs.Changes.{changes_between}
use Rattle.gb_action.specs.Meanings.{Making, Printing}
use Rattle.gb_action.specs.Outputs.{written_at, exists_at, left_at, is_named, is_removed, names_only}
use Rattle.gb_action.specs.Replies.{Answers, CarriesOver, FollowsOn, DescribesChangesFrom, made_for}
use Rattle.gb_action.specs.Shapes.{source, target}
use Rattle.gb_action.specs.declared.change.Change.{Change}
use Rattle.gb_action.specs.declared.change.Change.TheVariants.{Added, Modified, Removed}
use Rattle.gb_action.specs.declared.output_files.OutputFiles.{OutputFiles}
use Rattle.gb_action.specs.declared.reply.OutputPath.{OutputPath}
use Rattle.gb_action.specs.declared.reply.Reply.{Reply}
use Rattle.gb_action.specs.declared.reply.Written.{Written}
use Rattle.gb_action.specs.declared.request.Request.{Request}
use Rattle.gb_kinds.specs.ByFile.{by_file, change_line, file_of, holds, removes_for, rewritten, source_changes, writes_for, IsByFile}
use Rattle.gb_kinds.proofs.FileLaw.{carries, is_frugal}
use Rattle.gb_kinds.proofs.Paths.{unchanged}

pub same_ok : {X E : Type 0} {x y : X} → ◌≡◌ {A = Result X E} (Ok x) (Ok y) → x ≡ y
same_ok e = cc

-- ---- Trees and changes

and_first : (a b : Bool) → (a && b) ≡ true → a ≡ true
and_first true b e = refl
and_first false b e = e

and_second : (a b : Bool) → (a && b) ≡ true → b ≡ true
and_second true b e = e
and_second false b e = absurd (true≢false (sym e))

-- where all trees are in order, the tree of a property is
pub tree_ordered : (trees : Trees) (name : List ℕ) → list_all (λ (tree : List ℕ × Tree). is_sorted byte_order tree.1) trees ≡ true → IsTrue (is_sorted byte_order (tree_at trees name))
tree_ordered [] name h = refl
tree_ordered (tree ∷ trees) name h =
    elim (eq_by_cmp byte_order name tree.0) as (λ b. IsTrue (is_sorted byte_order (unwrap_or (if b then Some tree.1 else find byte_order name trees) []))) [
      | true ↦ and_first (is_sorted byte_order tree.1) _ h
      | false ↦ tree_ordered trees name (and_second (is_sorted byte_order tree.1) _ h)
    ]

-- whether or not `src` has a list, its changes are known
pub source_reported : (old : Trees) (request : Request) → DescribesChangesFrom old request → source_changes request.changes.lists ≡ changes_between (tree_at old source) (tree_at request.files source)
source_reported old request shows = by (find byte_order source request.changes.lists) refl
  where
    by : (o : Option (List Change)) → find byte_order source request.changes.lists ≡ o → unwrap_or o [] ≡ changes_between (tree_at old source) (tree_at request.files source)
    by (Some list) e = shows.reported source list e
    by None e =
        let same : tree_at old source ≡ tree_at request.files source = ap (λ (o : Option Tree). unwrap_or o []) (shows.same_others source e) in
        sym (unchanged (tree_at request.files source)) ∙ ap (λ tree. changes_between tree (tree_at request.files source)) (sym same)

-- ---- The outputs that are named

module _ (outputs : List OutputFiles) (declared : list_any (λ (output : OutputFiles). bytes_eq output.name target) outputs ≡ true) where
  abbrev pub is_output : List ℕ → Bool
  is_output name = list_any (λ (output : OutputFiles). bytes_eq output.name name) outputs

  abbrev pub written_there : List Written → Bool
  written_there files = list_all (λ (file : Written). is_output file.output) files

  abbrev pub removed_there : List OutputPath → Bool
  removed_there removes = list_all (λ (removed : OutputPath). is_output removed.output) removes

  pub both : (a b : Bool) → a ≡ true → b ≡ true → (a && b) ≡ true
  both true b p q = q
  both false b p q = p

  pub all_declared : (edit : List ℕ → List ℕ) (files : Tree) → written_there (by_file edit files) ≡ true
  all_declared edit [] = refl
  all_declared edit (file ∷ files) = both (is_output target) _ declared (all_declared edit files)

  pub removes_declared : (changes : List Change) → removed_there (flat_map removes_for changes) ≡ true
  removes_declared [] = refl
  removes_declared (Added path ∷ changes) = removes_declared changes
  removes_declared (Modified path ∷ changes) = removes_declared changes
  removes_declared (Removed path ∷ changes) = both (is_output target) _ declared (removes_declared changes)

  module _ (edit : List ℕ → List ℕ) (files : Tree) where
    rewritten_there : (path : List ℕ) (existing contents : Option (List ℕ)) → written_there (rewritten edit path existing contents) ≡ true
    rewritten_there path existing None = refl
    rewritten_there path existing (Some bytes) =
        elim (holds existing (edit bytes)) as (λ b. written_there (if b then [] else file_of path (edit bytes) ∷ []) ≡ true) [
          | true ↦ refl
          | false ↦ both (is_output target) true declared refl
        ]

    change_there : (change : Change) → written_there (writes_for edit outputs files change) ≡ true
    change_there (Added path) = rewritten_there path (exists_at outputs target path) (file_at files path)
    change_there (Modified path) = rewritten_there path (exists_at outputs target path) (file_at files path)
    change_there (Removed path) = refl

    pub writes_declared : (changes : List Change) → written_there (flat_map (writes_for edit outputs files) changes) ≡ true
    writes_declared [] = refl
    writes_declared (change ∷ changes) =
        list_all-append (λ (file : Written). is_output file.output) (writes_for edit outputs files change) (flat_map (writes_for edit outputs files) changes)
        ∙ both _ _ (change_there change) (writes_declared changes)

-- ---- Answers

module _ (edit : List Value → List ℕ → List ℕ) where
  abbrev makes : Making
  makes arguments values trees = Ok (by_file (edit arguments) (tree_at trees source))

  abbrev prints : Printing
  prints arguments values trees changes = map change_line (source_changes changes)

  module _ (request : Request) (reply : Reply) (ordered : IsTrue (is_sorted byte_order (tree_at request.files source))) (is : IsByFile (edit request.args) request reply) where
    abbrev now : Tree
    now = tree_at request.files source

    module _ (changed : request.changes.incremental ≡ true) (old : Trees) (follows : FollowsOn makes request old) (after : List Written) (makes_after : made_for makes request ≡ Ok after) (output path : List ℕ) where
      abbrev was : Tree
      was = tree_at old source

      existed : (output path : List ℕ) → exists_at request.outputs output path ≡ written_at (by_file (edit request.args) was) output path
      existed output path = follows.exists output path ∙ ap (λ files. written_at files output path) (sym (same_ok follows.was_made))

      writes_are : reply.writes ≡ flat_map (writes_for (edit request.args) request.outputs now) (changes_between was now)
      writes_are = is.writes changed ∙ ap (flat_map (writes_for (edit request.args) request.outputs now)) (source_reported old request follows.shows)

      removes_are : reply.removes ≡ flat_map removes_for (changes_between was now)
      removes_are = is.removes changed ∙ ap (flat_map removes_for) (source_reported old request follows.shows)

      after_is : written_at (by_file (edit request.args) now) output path ≡ written_at after output path
      after_is = ap (λ files. written_at files output path) (same_ok makes_after)

      carried : left_at reply request.outputs output path ≡ written_at after output path
      carried =
          ap (λ writes. option_or (written_at writes output path) (if is_removed reply.removes output path then None else exists_at request.outputs output path)) writes_are
          ∙ ap (λ removes. option_or (written_at (flat_map (writes_for (edit request.args) request.outputs now) (changes_between was now)) output path) (if is_removed removes output path then None else exists_at request.outputs output path)) removes_are
          ∙ carries (edit request.args) request.outputs was now (tree_ordered old source follows.shows.ordered) ordered existed output path
          ∙ after_is

      frugal : is_named reply output path ≡ true → exists_at request.outputs output path ≡ written_at after output path → ⊥
      frugal named same =
          is_frugal (edit request.args) request.outputs was now (tree_ordered old source follows.shows.ordered) ordered existed output path
          (subst (λ removes. is_named (record { removes = removes; writes = flat_map (writes_for (edit request.args) request.outputs now) (changes_between was now); lines = reply.lines }) output path ≡ true) removes_are
          (subst (λ writes. is_named (record { removes = reply.removes; writes = writes; lines = reply.lines }) output path ≡ true) writes_are named))
          (same ∙ sym after_is)

    carries_over : request.changes.incremental ≡ true → CarriesOver makes request reply
    carries_over changed = record {
      carried = λ old follows after makes_after output path. carried changed old follows after makes_after output path;
      frugal = λ old follows after makes_after output path named same. frugal changed old follows after makes_after output path named same;
    }

    named : list_any (λ (output : OutputFiles). bytes_eq output.name target) request.outputs ≡ true → names_only request.outputs reply ≡ true
    named declared = by request.changes.incremental refl
      where
        by : (b : Bool) → request.changes.incremental ≡ b → names_only request.outputs reply ≡ true
        by true e =
            both request.outputs declared _ _
            (subst (λ writes. written_there request.outputs declared writes ≡ true) (sym (is.writes e)) (writes_declared request.outputs declared (edit request.args) now (source_changes request.changes.lists)))
            (subst (λ removes. removed_there request.outputs declared removes ≡ true) (sym (is.removes e)) (removes_declared request.outputs declared (source_changes request.changes.lists)))
        by false e =
            both request.outputs declared _ _
            (subst (λ writes. written_there request.outputs declared writes ≡ true) (sym (is.in_full e)) (all_declared request.outputs declared (edit request.args) now))
            (subst (λ removes. removed_there request.outputs declared removes ≡ true) (sym (is.keeps e)) refl)

    pub by_file-answers : list_any (λ (output : OutputFiles). bytes_eq output.name target) request.outputs ≡ true → Answers makes prints request (Ok reply)
    by_file-answers declared = record {
      succeeds = λ r e. refl;
      removes_nothing = λ r e full. ap (λ x. x.removes) (sym (same_ok e)) ∙ is.keeps full;
      in_full = λ r e full. ap Ok (sym (is.in_full full) ∙ ap (λ x. x.writes) (same_ok e));
      by_changes = λ r e changed. subst (CarriesOver makes request) (same_ok e) (carries_over changed);
      declared = λ r e. subst (λ x. names_only request.outputs x ≡ true) (same_ok e) (named declared);
      prints_lines = λ r e. ap (λ x. x.lines) (sym (same_ok e)) ∙ is.lines;
      failed = λ text e. absurd cc;
    }
