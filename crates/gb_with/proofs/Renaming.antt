-- Files at paths of their own, one after another.
use mathlib.Core.Path.{fun_ext}
use Rattle.std.proofs.Common.{◌≡◌, ℕ, ◌+◌, ◌<◌, cond, List, [], ◌∷◌, ◌++◌, length, drop, get_or, Option, Some, Result, Ok, Err, refl, sym, ap, ◌∙◌, append_assoc}
use Rattle.std.proofs.lemmas.List.{drop_more}
use Rattle.std.proofs.lemmas.Map.Text.{is_eq-slice_cmp}
use Rattle.std.specs.BTreeMap.{is_at}
use Rattle.gb_core.specs.Lists.{byte_order}
use Rattle.gb_action.specs.Files.{Tree}
use Rattle.gb_action.specs.declared.reply.ActionFault.{ActionFault}
use Rattle.gb_action.specs.declared.reply.ActionFault.TheVariants.{ActionFailed, OutOfMemory}
use Rattle.gb_with.specs.Renamed.{Taken, all_renamed, following, made_at, new_path, onto, taking}
use Rattle.gb_with.specs.TreeKinds.{IsFailure}

-- a failure of something is one of a result that fails if it does
pub fails_too : {A B : Type 0} (fault : ActionFault) (one : Result A (List ℕ)) (other : Result B (List ℕ))
    → ((text : List ℕ) → one ≡ Err text → other ≡ Err text) → IsFailure fault one → IsFailure fault other
fails_too (ActionFailed text) one other leads failed = leads text failed
fails_too OutOfMemory one other leads failed = tt

-- a path that is inserted into a map is taken
pub taken_more : (taken after : Taken) (key new path value : List ℕ) → key ≡ new → value ≡ path
    → ((q : List ℕ) → after q ≡ cond (is_at (byte_order key) q) (Some value) (taken q)) → (q : List ℕ) → after q ≡ taking taken new path q
taken_more taken after key new path value key_is value_is puts q =
    puts q
    ∙ ap (λ k. cond (is_at (byte_order k) q) (Some value) (taken q)) key_is
    ∙ ap (λ v. cond (is_at (byte_order new) q) (Some v) (taken q)) value_is
    ∙ ap (λ b. cond b (Some path) (taken q)) (is_eq-slice_cmp new q)

module _ (renamed : List ℕ → Option (List ℕ)) (edit : List ℕ → List ℕ) where
  abbrev all : Taken → Tree → Result Tree (List ℕ)
  all taken files = all_renamed renamed edit taken files

  joined : (made : Tree) (file : List ℕ × List ℕ) (later : Result Tree (List ℕ)) → following (made ++ file ∷ []) later ≡ following made (onto (Ok file) later)
  joined made file (Err text) = refl
  joined made file (Ok files) = ap Ok (append_assoc made (file ∷ []) files)

  module _ (made : Tree) (taken : Taken) (files : Tree) (i : ℕ) (file : List ℕ × List ℕ) (within : i < length files) (is : file ≡ get_or files i file) where
    abbrev rest : Tree
    rest = drop (i + 1) files

    abbrev with_next : Result (List ℕ) (List ℕ) → Result Tree (List ℕ)
    with_next at = following made (made_at (edit file.1) at (λ new. all (taking taken new file.0) rest))

    next_is : following made (all taken (drop i files)) ≡ with_next (new_path taken file.0 (renamed file.0))
    next_is = ap (λ fs. following made (all taken fs)) (drop_more files i file within ∙ ap (λ f. f ∷ rest) (sym is))

    -- one more file
    pub one_more : (after : Taken) (new : List ℕ) → new_path taken file.0 (renamed file.0) ≡ Ok new → ((q : List ℕ) → after q ≡ taking taken new file.0 q)
        → following (made ++ (new, edit file.1) ∷ []) (all after rest) ≡ following made (all taken (drop i files))
    one_more after new named puts =
        ap (λ t. following (made ++ (new, edit file.1) ∷ []) (all t rest)) (fun_ext puts)
        ∙ joined made (new, edit file.1) (all (taking taken new file.0) rest)
        ∙ sym (ap with_next named)
        ∙ sym next_is

    -- a file that fails
    pub one_fails : (text : List ℕ) → new_path taken file.0 (renamed file.0) ≡ Err text → following made (all taken (drop i files)) ≡ Err text
    one_fails text named = next_is ∙ ap with_next named
