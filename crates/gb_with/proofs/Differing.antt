-- Replies that list the files that differ, path by path, turn the existing files into the files made.
use Rattle.std.proofs.Common.{◌≡◌, ℕ, Bool, true, false, true≢false, not, ◌&&◌, ◌||◌, if◌then◌else◌, List, [], ◌∷◌, Ok, Option, Some, None, is_some, refl, sym, ap, subst, ◌∙◌, bytes_eq}
use Rattle.std.specs.Option.{option_or}
use Rattle.std.specs.Cmp.Lexicographic.{bytes_decides}
use Rattle.gb_action.specs.Files.{Trees}
use Rattle.gb_action.specs.Meanings.{Making}
use Rattle.gb_action.specs.Outputs.{written_at, exists_at, left_at, is_named, is_removed}
use Rattle.gb_action.specs.Replies.{CarriesOver, FollowsOn, made_for}
use Rattle.gb_action.specs.Shapes.{target}
use Rattle.gb_action.specs.declared.reply.Reply.{Reply}
use Rattle.gb_action.specs.declared.reply.Written.{Written}
use Rattle.gb_action.specs.declared.request.Request.{Request}
use Rattle.gb_kinds.specs.Own.{are_own}
use Rattle.gb_kinds.proofs.RemadeLaw.{leaves, names_differences, new_at}

both_true : (a b c : Bool) → ((a && b) && c) ≡ true → (a ≡ true) × (c ≡ true)
both_true true true c e = (refl, e)
both_true true false c e = absurd (true≢false (sym e))
both_true false b c e = absurd (true≢false (sym e))

-- files of the output that kinds write leave no file in another output
pub not_elsewhere : (output path : List ℕ) → bytes_eq target output ≡ false → (files : List Written) → are_own true files ≡ true → written_at files output path ≡ None
not_elsewhere output path separate [] own = refl
not_elsewhere output path separate (file ∷ files) own =
    let parts = both_true (bytes_eq file.output target) true (are_own true files) own in
    let here : bytes_eq file.output output ≡ false = ap (λ name. bytes_eq name output) ((bytes_decides file.output target).0 parts.0) ∙ separate in
    ap (λ w. option_or w (if bytes_eq file.output output && bytes_eq file.path path then Some file.bytes else None)) (not_elsewhere output path separate files parts.1)
    ∙ ap (λ b. if b && bytes_eq file.path path then Some file.bytes else None) here

-- the writes and removals of a reply at each path, by the existing file and the file made there
pub record NamesDifferences (request : Request) (reply : Reply) (now : List ℕ → Option (List ℕ)) : Type 0 where
  pub writes : (output path : List ℕ) → written_at reply.writes output path ≡ (if bytes_eq target output then new_at (exists_at request.outputs target path) (now path) else None)
  pub removes : (output path : List ℕ) → is_removed reply.removes output path ≡ (bytes_eq target output && (is_some (exists_at request.outputs target path) && not (is_some (now path))))

module _ (makes : Making) (request : Request) (reply : Reply) (now : List ℕ → Option (List ℕ))
    (own : (trees : Trees) (written : List Written) → makes request.args request.values trees ≡ Ok written → are_own true written ≡ true)
    (makes_now : (after : List Written) → made_for makes request ≡ Ok after → (path : List ℕ) → written_at after target path ≡ now path)
    (names : (old : Trees) → FollowsOn makes request old → NamesDifferences request reply now) where
  module _ (old : Trees) (follows : FollowsOn makes request old) (after : List Written) (makes_after : made_for makes request ≡ Ok after) (output path : List ℕ) where
    abbrev existed : Option (List ℕ)
    existed = exists_at request.outputs target path

    same : bytes_eq target output ≡ true → exists_at request.outputs output path ≡ existed
    same e = ap (λ name. exists_at request.outputs name path) (sym ((bytes_decides target output).0 e))

    alone : bytes_eq target output ≡ false → exists_at request.outputs output path ≡ None
    alone e = follows.exists output path ∙ not_elsewhere output path e follows.before (own old follows.before follows.was_made)

    after_is : (if bytes_eq target output then now path else None) ≡ written_at after output path
    after_is = by (bytes_eq target output) refl
      where
        by : (b : Bool) → bytes_eq target output ≡ b → (if b then now path else None) ≡ written_at after output path
        by true e = sym (makes_now after makes_after path) ∙ ap (λ name. written_at after name path) ((bytes_decides target output).0 e)
        by false e = sym (not_elsewhere output path e after (own request.files after makes_after))

    carried : left_at reply request.outputs output path ≡ written_at after output path
    carried =
        ap (λ w. option_or w (if is_removed reply.removes output path then None else exists_at request.outputs output path)) ((names old follows).writes output path)
        ∙ ap (λ b. option_or (if bytes_eq target output then new_at existed (now path) else None) (if b then None else exists_at request.outputs output path)) ((names old follows).removes output path)
        ∙ leaves (bytes_eq target output) existed (exists_at request.outputs output path) (now path) same alone
        ∙ after_is

    frugal : is_named reply output path ≡ true → exists_at request.outputs output path ≡ written_at after output path → ⊥
    frugal named equal =
        names_differences (bytes_eq target output) existed (exists_at request.outputs output path) (now path) same alone
        (subst (λ b. (is_some (if bytes_eq target output then new_at existed (now path) else None) || b) ≡ true) ((names old follows).removes output path)
        (subst (λ w. (is_some w || is_removed reply.removes output path) ≡ true) ((names old follows).writes output path) named))
        (equal ∙ sym after_is)

  pub carries_over : CarriesOver makes request reply
  carries_over = record {
    carried = λ old follows after makes_after output path. carried old follows after makes_after output path;
    frugal = λ old follows after makes_after output path named equal. frugal old follows after makes_after output path named equal;
  }
