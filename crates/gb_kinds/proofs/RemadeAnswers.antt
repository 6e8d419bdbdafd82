-- The results of kinds that compute all the files that they make.
use Rattle.std.proofs.Common.{◌≡◌, ℕ, Bool, true, false, ◌&&◌, ◌||◌, if◌then◌else◌, List, [], ◌∷◌, map, Ok, Option, Some, None, is_some, not, refl, sym, ap, subst, ◌∙◌, ◌⊎◌, inl, inr, bytes_eq, IsTrue, T}
use Rattle.std.proofs.lemmas.List.Folds.{list_all-append}
use Rattle.std.specs.List.{filter, list_any}
use Rattle.std.specs.Option.{option_map, option_or}
use Rattle.std.specs.Cmp.Lexicographic.{bytes_decides, nat_list_eq_equiv}
use Rattle.std.specs.FinMap.Entries.{is_sorted}
use Rattle.gb_core.specs.Lists.{byte_order}
use Rattle.gb_action.specs.Files.{Tree, Trees, file_at, tree_at}
use Rattle.gb_action.specs.Meanings.{Making}
use Rattle.gb_action.specs.Outputs.{written_at, exists_at, left_at, is_named, is_removed, names_only}
use Rattle.gb_action.specs.Replies.{Answers, CarriesOver, FollowsOn, made_for}
use Rattle.gb_action.specs.Shapes.{source, target}
use Rattle.gb_action.specs.declared.output_files.OutputFiles.{OutputFiles}
use Rattle.gb_action.specs.declared.reply.Reply.{Reply}
use Rattle.gb_action.specs.declared.reply.Written.{Written}
use Rattle.gb_action.specs.declared.request.Request.{Request}
use Rattle.gb_kinds.specs.Builtin.{prints_changes}
use Rattle.gb_kinds.specs.ByFile.{file_of, holds, where_new}
use Rattle.gb_kinds.specs.Remade.{as_made, outdated, renewed, existing, IsRemade}
use Rattle.gb_kinds.proofs.ByFileAnswers.{all_declared, both, removed_there, same_ok, written_there, is_output}
use Rattle.gb_kinds.proofs.FileLaw.{itself}
use Rattle.gb_kinds.proofs.RemadeLaw.{gone, leaves, names_differences, new_at, existed_at, wrote}
use Rattle.gb_kinds.proofs.Writing.{written_at-by_file}

true_T : (b : Bool) → IsTrue b → T b
true_T b e = subst T (sym e) tt

-- ---- The outputs that are named

module _ (outputs : List OutputFiles) (declared : list_any (λ (output : OutputFiles). bytes_eq output.name target) outputs ≡ true) where
  one_there : (path : List ℕ) (existed : Option (List ℕ)) (bytes : List ℕ) → written_there outputs declared (where_new path existed bytes) ≡ true
  one_there path existed bytes =
      elim (holds existed bytes) as (λ b. written_there outputs declared (if b then [] else file_of path bytes ∷ []) ≡ true) [
        | true ↦ refl
        | false ↦ both outputs declared (is_output outputs declared target) true declared refl
      ]

  renewed_there : (made : Tree) → written_there outputs declared (renewed outputs made) ≡ true
  renewed_there [] = refl
  renewed_there (file ∷ made) =
      list_all-append (λ (written : Written). is_output outputs declared written.output) (where_new file.0 (exists_at outputs target file.0) file.1) (renewed outputs made)
      ∙ both outputs declared _ _ (one_there file.0 (exists_at outputs target file.0) file.1) (renewed_there made)

  outdated_there : (made : Tree) (paths : List (List ℕ)) → removed_there outputs declared (outdated outputs made paths) ≡ true
  outdated_there made [] = refl
  outdated_there made (path ∷ paths) = by (stale path) (outdated_there made paths)
    where
      stale : List ℕ → Bool
      stale p = is_some (exists_at outputs target p) && not (is_some (file_at made p))

      by : (b : Bool) → removed_there outputs declared (outdated outputs made paths) ≡ true
          → removed_there outputs declared (map (λ (p : List ℕ). record { output = target; path = p }) (if b then path ∷ filter stale paths else filter stale paths)) ≡ true
      by true later = both outputs declared _ _ declared later
      by false later = later

-- ---- The files made at some paths

-- the path was examined, and the file made there is the right one, or it was not, and the existing file is
abbrev pub IsRightAt : List OutputFiles → Tree → List (List ℕ) → Tree → List ℕ → Type 0
IsRightAt outputs made looked_at now path =
    ((list_any (bytes_eq path) looked_at ≡ true) × (file_at made path ≡ file_at now path))
    ⊎ ((list_any (bytes_eq path) looked_at ≡ false) × (file_at made path ≡ None) × (file_at (existing outputs) path ≡ file_at now path))

module _ (outputs : List OutputFiles) (made : Tree) (looked_at : List (List ℕ)) (now : Tree) (path : List ℕ) where
  abbrev existed_there : Option (List ℕ)
  existed_there = exists_at outputs target path

  nothing_new : (o : Option (List ℕ)) → new_at o o ≡ None
  nothing_new None = refl
  nothing_new (Some bytes) = ap (λ b. if b then None else Some bytes) (itself bytes)

  right_new : IsRightAt outputs made looked_at now path → new_at existed_there (file_at made path) ≡ new_at existed_there (file_at now path)
  right_new (inl (there, same)) = ap (new_at existed_there) same
  right_new (inr (separate, none, same)) = ap (new_at existed_there) none ∙ sym (ap (new_at existed_there) (sym (existed_at outputs target path ∙ same)) ∙ nothing_new existed_there)

  not_gone : (b : Bool) → (b && not b) ≡ false
  not_gone true = refl
  not_gone false = refl

  flipped : (paths : List (List ℕ)) → list_any (λ (p : List ℕ). bytes_eq p path) paths ≡ list_any (bytes_eq path) paths
  flipped [] = refl
  flipped (p ∷ paths) = ap (λ b. b || list_any (λ (q : List ℕ). bytes_eq q path) paths) (nat_list_eq_equiv.symm p path) ∙ ap (λ b. bytes_eq path p || b) (flipped paths)

  right_gone : IsRightAt outputs made looked_at now path
      → (list_any (λ (p : List ℕ). bytes_eq p path) looked_at && (is_some existed_there && not (is_some (file_at made path)))) ≡ (is_some existed_there && not (is_some (file_at now path)))
  right_gone (inl (there, same)) =
      ap (λ b. b && (is_some existed_there && not (is_some (file_at made path)))) (flipped looked_at ∙ there) ∙ ap (λ o. is_some existed_there && not (is_some o)) same
  right_gone (inr (separate, none, same)) =
      ap (λ b. b && (is_some existed_there && not (is_some (file_at made path)))) (flipped looked_at ∙ separate)
      ∙ sym (ap (λ o. is_some existed_there && not (is_some o)) (sym (existed_at outputs target path ∙ same)) ∙ not_gone (is_some existed_there))

-- ---- Answers

module _ (make : Tree → Tree) (sorted : (tree : Tree) → IsTrue (is_sorted byte_order (make tree))) where
  abbrev makes : Making
  makes arguments values trees = Ok (as_made (make (tree_at trees source)))

  module _ (request : Request) (reply : Reply) (remade : Tree) (looked_at : List (List ℕ)) (is_remade : IsRemade remade looked_at request reply)
      (made_in_full : request.changes.incremental ≡ false → remade ≡ make (tree_at request.files source))
      (in_order : request.changes.incremental ≡ true → IsTrue (is_sorted byte_order remade))
      (right : request.changes.incremental ≡ true → (old : Trees) → FollowsOn makes request old → (path : List ℕ) → IsRightAt request.outputs remade looked_at (make (tree_at request.files source)) path) where
    abbrev now : Tree
    now = make (tree_at request.files source)

    made_at : (tree : Tree) (output path : List ℕ) → written_at (as_made (make tree)) output path ≡ (if bytes_eq target output then file_at (make tree) path else None)
    made_at tree output path = written_at-by_file (λ bytes. bytes) output path (make tree) (sorted tree) ∙ ap (λ o. if bytes_eq target output then o else None) (same (file_at (make tree) path))
      where
        same : (o : Option (List ℕ)) → option_map (λ bytes. bytes) o ≡ o
        same None = refl
        same (Some x) = refl

    module _ (changed : request.changes.incremental ≡ true) (old : Trees) (follows : FollowsOn makes request old) (after : List Written) (makes_after : made_for makes request ≡ Ok after) (output path : List ℕ) where
      at : IsRightAt request.outputs remade looked_at now path
      at = right changed old follows path

      abbrev existed : Option (List ℕ)
      existed = exists_at request.outputs target path

      same : bytes_eq target output ≡ true → exists_at request.outputs output path ≡ existed
      same e = ap (λ name. exists_at request.outputs name path) (sym ((bytes_decides target output).0 e))

      alone : bytes_eq target output ≡ false → exists_at request.outputs output path ≡ None
      alone e =
          follows.exists output path
          ∙ ap (λ files. written_at files output path) (sym (same_ok follows.was_made))
          ∙ made_at (tree_at old source) output path
          ∙ ap (λ b. if b then file_at (make (tree_at old source)) path else None) e

      written : written_at reply.writes output path ≡ (if bytes_eq target output then new_at existed (file_at now path) else None)
      written =
          ap (λ writes. written_at writes output path) (is_remade.writes changed)
          ∙ wrote request.outputs output path remade (true_T _ (in_order changed))
          ∙ ap (λ o. if bytes_eq target output then o else None) (right_new request.outputs remade looked_at now path at)

      removed : is_removed reply.removes output path ≡ (bytes_eq target output && (is_some existed && not (is_some (file_at now path))))
      removed =
          ap (λ removes. is_removed removes output path) (is_remade.removes changed)
          ∙ gone request.outputs output path remade looked_at
          ∙ ap (λ b. bytes_eq target output && b) (right_gone request.outputs remade looked_at now path at)

      after_is : (if bytes_eq target output then file_at now path else None) ≡ written_at after output path
      after_is = sym (made_at (tree_at request.files source) output path) ∙ ap (λ files. written_at files output path) (same_ok makes_after)

      carried : left_at reply request.outputs output path ≡ written_at after output path
      carried =
          ap (λ w. option_or w (if is_removed reply.removes output path then None else exists_at request.outputs output path)) written
          ∙ ap (λ b. option_or (if bytes_eq target output then new_at existed (file_at now path) else None) (if b then None else exists_at request.outputs output path)) removed
          ∙ leaves (bytes_eq target output) existed (exists_at request.outputs output path) (file_at now path) same alone
          ∙ after_is

      frugal : is_named reply output path ≡ true → exists_at request.outputs output path ≡ written_at after output path → ⊥
      frugal named equal =
          names_differences (bytes_eq target output) existed (exists_at request.outputs output path) (file_at now path) same alone
          (subst (λ b. (is_some (if bytes_eq target output then new_at existed (file_at now path) else None) || b) ≡ true) removed (subst (λ w. (is_some w || is_removed reply.removes output path) ≡ true) written named))
          (equal ∙ sym after_is)

    carries_over : request.changes.incremental ≡ true → CarriesOver makes request reply
    carries_over changed = record {
      carried = λ old follows after makes_after output path. carried changed old follows after makes_after output path;
      frugal = λ old follows after makes_after output path named equal. frugal changed old follows after makes_after output path named equal;
    }

    named : list_any (λ (output : OutputFiles). bytes_eq output.name target) request.outputs ≡ true → names_only request.outputs reply ≡ true
    named declared = by request.changes.incremental refl
      where
        by : (b : Bool) → request.changes.incremental ≡ b → names_only request.outputs reply ≡ true
        by true e =
            both request.outputs declared _ _
            (subst (λ writes. written_there request.outputs declared writes ≡ true) (sym (is_remade.writes e)) (renewed_there request.outputs declared remade))
            (subst (λ removes. removed_there request.outputs declared removes ≡ true) (sym (is_remade.removes e)) (outdated_there request.outputs declared remade looked_at))
        by false e =
            both request.outputs declared _ _
            (subst (λ writes. written_there request.outputs declared writes ≡ true) (sym (is_remade.in_full e)) (all_declared request.outputs declared (λ bytes. bytes) remade))
            (subst (λ removes. removed_there request.outputs declared removes ≡ true) (sym (is_remade.keeps e)) refl)

    pub remade-answers : list_any (λ (output : OutputFiles). bytes_eq output.name target) request.outputs ≡ true → Answers makes prints_changes request (Ok reply)
    remade-answers declared = record {
      succeeds = λ r e. refl;
      removes_nothing = λ r e full. ap (λ x. x.removes) (sym (same_ok e)) ∙ is_remade.keeps full;
      in_full = λ r e full. ap Ok (ap as_made (sym (made_in_full full)) ∙ sym (is_remade.in_full full) ∙ ap (λ x. x.writes) (same_ok e));
      by_changes = λ r e changed. subst (CarriesOver makes request) (same_ok e) (carries_over changed);
      declared = λ r e. subst (λ x. names_only request.outputs x ≡ true) (same_ok e) (named declared);
      prints_lines = λ r e. ap (λ x. x.lines) (sym (same_ok e)) ∙ is_remade.lines;
      failed = λ text e. absurd cc;
    }
