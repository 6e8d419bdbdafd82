-- The results of kinds that make all their files again.
use Rattle.std.proofs.Common.{◌≡◌, ◌≢◌, ℕ, Bool, true, false, true≢false, ◌&&◌, ◌||◌, if◌then◌else◌, List, [], ◌∷◌, Ok, Option, None, is_some, not, refl, sym, ap, subst, ◌∙◌, bytes_eq, IsTrue, T}
use Rattle.std.proofs.lemmas.List.Folds.{list_all-append, list_any-append}
use Rattle.std.specs.List.{list_any}
use Rattle.std.specs.Cmp.Lexicographic.{bytes_decides}
use Rattle.std.specs.Result.{is_ok}
use Rattle.gb_action.specs.Files.{Tree, Trees, file_at}
use Rattle.gb_action.specs.Meanings.{Making, Printing}
use Rattle.gb_action.specs.Outputs.{written_at, exists_at, is_removed, names_only}
use Rattle.gb_action.specs.Replies.{Answers, CarriesOver, FollowsOn, made_for}
use Rattle.gb_action.specs.Shapes.{target}
use Rattle.gb_action.specs.declared.output_files.OutputFiles.{OutputFiles}
use Rattle.gb_action.specs.declared.reply.OutputPath.{OutputPath}
use Rattle.gb_action.specs.declared.reply.Reply.{Reply}
use Rattle.gb_action.specs.declared.reply.Written.{Written}
use Rattle.gb_action.specs.declared.request.Request.{Request}
use Rattle.gb_with.specs.Remaking.{IsRecheck, made_no_more, unless_made}
use Rattle.gb_kinds.specs.Own.{are_own}
use Rattle.gb_kinds.specs.Remade.{as_made, renewed, existing}
use Rattle.gb_core.proofs.Found.{find-same, find-other}
use Rattle.gb_kinds.specs.ByFile.{file_of, holds, where_new}
use Rattle.gb_kinds.proofs.ByFileAnswers.{all_declared, both, is_output, removed_there, same_ok, written_there}
use Rattle.gb_kinds.proofs.FileLaw.{and_false, or_false}
use Rattle.gb_with.proofs.Differing.{NamesDifferences, carries_over}
use Rattle.gb_kinds.proofs.RemadeLaw.{new_at, existed_at, wrote}

true_T : (b : Bool) → IsTrue b → T b
true_T b e = subst T (sym e) tt

-- ---- What is removed

module _ (made : Tree) (output path : List ℕ) where
  -- a file made there stays
  abbrev stays : List ℕ → Bool
  stays p = not (is_some (file_at made p))

  one_gone : (p : List ℕ) → is_removed (unless_made made p) output path ≡ (stays p && (bytes_eq target output && bytes_eq p path))
  one_gone p = by (is_some (file_at made p))
    where
      by : (b : Bool) → is_removed (if b then [] else record { output = target; path = p } ∷ []) output path ≡ (not b && (bytes_eq target output && bytes_eq p path))
      by true = refl
      by false = or_false (bytes_eq target output && bytes_eq p path)

  gone : (existed : Tree) → is_removed (made_no_more existed made) output path ≡ (bytes_eq target output && (is_some (file_at existed path) && stays path))
  gone [] = sym (and_false (bytes_eq target output) false refl)
  gone (file ∷ existed) =
      list_any-append (λ (removed : OutputPath). bytes_eq removed.output output && bytes_eq removed.path path) (unless_made made file.0) (made_no_more existed made)
      ∙ ap (λ b. b || is_removed (made_no_more existed made) output path) (one_gone file.0)
      ∙ ap (λ b. (stays file.0 && (bytes_eq target output && bytes_eq file.0 path)) || b) (gone existed)
      ∙ by (bytes_eq file.0 path) refl
    where
      once : (s t b : Bool) → ((s && (t && true)) || (t && (b && s))) ≡ (t && s)
      once true true b = refl
      once true false b = refl
      once false true true = refl
      once false true false = refl
      once false false b = refl

      not_here : (s t : Bool) → (s && (t && false)) ≡ false
      not_here true true = refl
      not_here true false = refl
      not_here false t = refl

      by : (b : Bool) → bytes_eq file.0 path ≡ b
          → ((stays file.0 && (bytes_eq target output && bytes_eq file.0 path)) || (bytes_eq target output && (is_some (file_at existed path) && stays path)))
          ≡ (bytes_eq target output && (is_some (file_at (file ∷ existed) path) && stays path))
      by true e =
          ap (λ p. (stays p && (bytes_eq target output && bytes_eq file.0 path)) || (bytes_eq target output && (is_some (file_at existed path) && stays path))) ((bytes_decides file.0 path).0 e)
          ∙ ap (λ b. (stays path && (bytes_eq target output && b)) || (bytes_eq target output && (is_some (file_at existed path) && stays path))) e
          ∙ once (stays path) (bytes_eq target output) (is_some (file_at existed path))
          ∙ ap (λ o. bytes_eq target output && (is_some o && stays path)) (sym (find-same path file existed ((bytes_decides file.0 path).0 e)))
      by false e =
          let other : file.0 ≢ path = λ is. true≢false (sym ((bytes_decides file.0 path).1 is) ∙ e) in
          ap (λ b. (stays file.0 && (bytes_eq target output && b)) || (bytes_eq target output && (is_some (file_at existed path) && stays path))) e
          ∙ ap (λ b. b || (bytes_eq target output && (is_some (file_at existed path) && stays path))) (not_here (stays file.0) (bytes_eq target output))
          ∙ ap (λ o. bytes_eq target output && (is_some o && stays path)) (sym (find-other path file existed other))

-- ---- The outputs that are named

module _ (outputs : List OutputFiles) (declared : list_any (λ (output : OutputFiles). bytes_eq output.name target) outputs ≡ true) where
  one_there : (path : List ℕ) (existed : Option (List ℕ)) (bytes : List ℕ) → written_there outputs declared (where_new path existed bytes) ≡ true
  one_there path existed bytes = by (holds existed bytes)
    where
      by : (b : Bool) → written_there outputs declared (if b then [] else file_of path bytes ∷ []) ≡ true
      by true = refl
      by false = both outputs declared (is_output outputs declared target) true declared refl

  renewed_there : (made : Tree) → written_there outputs declared (renewed outputs made) ≡ true
  renewed_there [] = refl
  renewed_there (file ∷ made) =
      list_all-append (λ (written : Written). is_output outputs declared written.output) (where_new file.0 (exists_at outputs target file.0) file.1) (renewed outputs made)
      ∙ both outputs declared _ _ (one_there file.0 (exists_at outputs target file.0) file.1) (renewed_there made)

  outdated_there : (made existed : Tree) → removed_there outputs declared (made_no_more existed made) ≡ true
  outdated_there made [] = refl
  outdated_there made (file ∷ existed) =
      list_all-append (λ (removed : OutputPath). is_output outputs declared removed.output) (unless_made made file.0) (made_no_more existed made)
      ∙ both outputs declared _ _ (by (is_some (file_at made file.0))) (outdated_there made existed)
    where
      by : (b : Bool) → removed_there outputs declared (if b then [] else record { output = target; path = file.0 } ∷ []) ≡ true
      by true = refl
      by false = both outputs declared (is_output outputs declared target) true declared refl

-- ---- Answers

module _ (makes : Making) (prints : Printing) (files : Tree) (lines : List (List ℕ)) (request : Request) (reply : Reply) (anew : IsRecheck files lines request reply)
    (own : (trees : Trees) (written : List Written) → makes request.args request.values trees ≡ Ok written → are_own true written ≡ true)
    (made : made_for makes request ≡ Ok (as_made files))
    (meant : prints request.args request.values request.files request.changes.lists ≡ lines) where
  abbrev now : List ℕ → Option (List ℕ)
  now path = written_at (as_made files) target path

  makes_now : (after : List Written) → made_for makes request ≡ Ok after → (path : List ℕ) → written_at after target path ≡ now path
  makes_now after makes_after path = ap (λ written. written_at written target path) (same_ok (sym makes_after ∙ made))

  names : request.changes.incremental ≡ true → (old : Trees) → FollowsOn makes request old → NamesDifferences request reply now
  names changed old follows = record {
    writes = λ output path.
        ap (λ writes. written_at writes output path) (anew.by_changes changed).writes
        ∙ wrote request.outputs output path (anew.by_changes changed).made (true_T _ (anew.by_changes changed).in_order)
        ∙ ap (λ o. if bytes_eq target output then new_at (exists_at request.outputs target path) o else None) ((anew.by_changes changed).is_made path);
    removes = λ output path.
        ap (λ removes. is_removed removes output path) (anew.by_changes changed).removes
        ∙ gone (anew.by_changes changed).made output path (existing request.outputs)
        ∙ ap (λ o. bytes_eq target output && (is_some o && not (is_some (file_at (anew.by_changes changed).made path)))) (sym (existed_at request.outputs output path))
        ∙ ap (λ o. bytes_eq target output && (is_some (exists_at request.outputs target path) && not (is_some o))) ((anew.by_changes changed).is_made path);
  }

  named : list_any (λ (output : OutputFiles). bytes_eq output.name target) request.outputs ≡ true → names_only request.outputs reply ≡ true
  named declared = by request.changes.incremental refl
    where
      by : (b : Bool) → request.changes.incremental ≡ b → names_only request.outputs reply ≡ true
      by true e =
          both request.outputs declared _ _
          (subst (λ writes. written_there request.outputs declared writes ≡ true) (sym (anew.by_changes e).writes) (renewed_there request.outputs declared (anew.by_changes e).made))
          (subst (λ removes. removed_there request.outputs declared removes ≡ true) (sym (anew.by_changes e).removes) (outdated_there request.outputs declared (anew.by_changes e).made (existing request.outputs)))
      by false e =
          subst (λ r. names_only request.outputs r ≡ true) (sym (anew.in_full e))
          (both request.outputs declared _ _ (all_declared request.outputs declared (λ bytes. bytes) files) refl)

  says : reply.lines ≡ lines
  says = by request.changes.incremental refl
    where
      by : (b : Bool) → request.changes.incremental ≡ b → reply.lines ≡ lines
      by true e = (anew.by_changes e).prints
      by false e = ap (λ r. r.lines) (anew.in_full e)

  pub remaking-answers : list_any (λ (output : OutputFiles). bytes_eq output.name target) request.outputs ≡ true → Answers makes prints request (Ok reply)
  remaking-answers declared = record {
    succeeds = λ r e. ap is_ok made;
    removes_nothing = λ r e full. ap (λ x. x.removes) (sym (same_ok e) ∙ anew.in_full full);
    in_full = λ r e full. made ∙ ap Ok (ap (λ x. x.writes) (sym (anew.in_full full) ∙ same_ok e));
    by_changes = λ r e changed. subst (CarriesOver makes request) (same_ok e) (carries_over makes request reply now own makes_now (names changed));
    declared = λ r e. subst (λ x. names_only request.outputs x ≡ true) (same_ok e) (named declared);
    prints_lines = λ r e. ap (λ x. x.lines) (sym (same_ok e)) ∙ says ∙ sym meant;
    failed = λ text e. absurd cc;
  }
