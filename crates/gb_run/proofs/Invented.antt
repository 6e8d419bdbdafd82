-- Where the files in the folder during a run come from: an action writes them.
use Rattle.std.proofs.Common.{◌≡◌, ◌<◌, ◌⊎◌, inl, inr, ℕ, zero, suc, Bool, true, false, cond, List, [], ◌∷◌, ◌++◌, length, Some, None, Result, Ok, Err, refl, sym, ap, subst, ◌∙◌, arith}
use Rattle.std.specs.Prelude.{Contains, slice_index_or}
use Rattle.std.specs.Ordering.{is_eq, nat_cmp}
use Rattle.std.specs.Cmp.Lexicographic.{slice_cmp}
use Rattle.std.specs.declared.cmp.Ordering.TheVariants.{Less, Equal, Greater}
use Rattle.std.specs.FinMap.Entries.{by_order}
use Rattle.std.proofs.lemmas.List.Elements.{Contains-append_left, Contains-append_right}
use Rattle.gb_core.specs.Lists.{byte_order}
use Rattle.gb_core.proofs.Found.{tied_same}
use Rattle.gb_folder.specs.Files.{Place, Bytes, Files, file_at, files_where, is_empty, with_file}
use Rattle.gb_action.specs.declared.reply.Written.{Written}
use Rattle.gb_action.specs.Files.{Trees}
use Rattle.gb_action.specs.Meanings.{Values}
use Rattle.gb_plan.specs.Task.{Text}
use Rattle.gb_plan.specs.declared.task.Action.{Action}
use Rattle.gb_plan.specs.declared.task.Output.{Output}
use Rattle.gb_semantics.specs.Kinds.{Kinds, kind_of}
use Rattle.gb_semantics.specs.Made.{placed, put_over, step_faults}
use Rattle.gb_semantics.specs.Run.{ends, hindrances, or_end, step_by, unless_hindered}
use Rattle.gb_run.specs.RunInput.{free_files}

-- ---- elements

pub in_head : {X : Type 0} (x : X) (xs : List X) → Contains (x ∷ xs) x
in_head x xs = (0, omega arith, refl)

pub in_tail : {X : Type 0} (x y : X) (xs : List X) → Contains xs y → Contains (x ∷ xs) y
in_tail x y xs h = Contains-append_right (x ∷ []) xs y h

in_cons : {X : Type 0} (x y : X) (xs : List X) → Contains (x ∷ xs) y → (x ≡ y) ⊎ Contains xs y
in_cons x y xs h = go h.0 h.1 h.2
  where
    go : (k : ℕ) → k < length (x ∷ xs) → slice_index_or (x ∷ xs) k y ≡ y → (x ≡ y) ⊎ Contains xs y
    go zero lt is = inl is
    go (suc k) lt is = inr (k, omega (arith, lt), is)

-- ---- files

-- a file that is put, or was there before
in_put : (files : Files) (place : Place) (bytes : Bytes) (file : Place × Bytes) → Contains (with_file files place bytes) file → ((place, bytes) ≡ file) ⊎ Contains files file
in_put [] place bytes file h = in_cons (place, bytes) file [] h
in_put (f ∷ files) place bytes file h =
    elim (slice_cmp nat_cmp place f.0) as (λ o. slice_cmp nat_cmp place f.0 ≡ o → Contains (by_order o ((place, bytes) ∷ f ∷ files) ((f.0, bytes) ∷ files) (f ∷ with_file files place bytes)) file
    → ((place, bytes) ≡ file) ⊎ Contains (f ∷ files) file) [
      | Less ↦ λ _ g. in_cons (place, bytes) file (f ∷ files) g
      | Equal ↦ λ tied g. elim (in_cons (f.0, bytes) file files g) [
        | inl here ↦ inl (ap (λ (p : Place). (p, bytes)) (tied_same place f.0 tied) ∙ here)
        | inr there ↦ inr (in_tail f file files there)
      ]
      | Greater ↦ λ _ g. elim (in_cons f file (with_file files place bytes) g) [
        | inl here ↦ inr (subst (λ x. Contains (f ∷ files) x) here (in_head f files))
        | inr there ↦ elim (in_put files place bytes file there) [
          | inl put ↦ inl put
          | inr existed ↦ inr (in_tail f file files existed)
        ]
      ]
    ] refl h

pub in_over : (held : Files) (files : List (Place × Bytes)) (file : Place × Bytes) → Contains (put_over held files) file → Contains files file ⊎ Contains held file
in_over held [] file h = inr h
in_over held (f ∷ files) file h = elim (in_over (with_file held f.0 f.1) files file h) [
  | inl later ↦ inl (in_tail f file files later)
  | inr before ↦ elim (in_put held f.0 f.1 file before) [
    | inl put ↦ inl (subst (λ x. Contains (f ∷ files) x) put (in_head f files))
    | inr existed ↦ inr existed
  ]
]

pub none_in : {A : Type 0} (file : Place × Bytes) → Contains [] file → A
none_in file h = absurd (omega (arith, h.1))

-- a file that is found is one of them
pub found_in : (files : Files) (place : Place) (bytes : Bytes) → file_at files place ≡ Some bytes → Contains files (place, bytes)
found_in [] place bytes e = absurd (cc)
found_in (f ∷ files) place bytes e =
    elim (byte_order place f.0) as (λ o. byte_order place f.0 ≡ o → cond (is_eq o) (Some f.1) (file_at files place) ≡ Some bytes → Contains (f ∷ files) (place, bytes)) [
      | Less ↦ λ _ later. in_tail f (place, bytes) files (found_in files place bytes later)
      | Equal ↦ λ tied here.
          subst (λ (x : Place × Bytes). Contains (f ∷ files) x) (ap (λ (p : Place). (p, f.1)) (sym (tied_same place f.0 tied)) ∙ ap (λ (b : Bytes). (place, b)) (some_is f.1 bytes here)) (in_head f files)
      | Greater ↦ λ _ later. in_tail f (place, bytes) files (found_in files place bytes later)
    ] refl e
  where
    some_is : (x y : Bytes) → Some x ≡ Some y → x ≡ y
    some_is x y is = cc

-- files that pass a test do so
pub in_where : (test : Place → Bool) (files : Files) (file : Place × Bytes) → Contains (files_where test files) file → test file.0 ≡ true
in_where test [] file h = none_in file h
in_where test (f ∷ files) file h =
    elim (test f.0) as (λ b. test f.0 ≡ b → Contains (cond b (f ∷ files_where test files) (files_where test files)) file → test file.0 ≡ true) [
      | true ↦ λ is g. elim (in_cons f file (files_where test files) g) [
        | inl here ↦ ap (λ (x : Place × Bytes). test x.0) (sym here) ∙ is
        | inr there ↦ in_where test files file there
      ]
      | false ↦ λ _ g. in_where test files file g
    ] refl h

-- ---- actions

module _ (kinds : Kinds) (outputs : List Output) (values : Values) (trees : Trees) where
  -- one of the actions writes the file
  pub record IsOf (actions : List Action) (file : Place × Bytes) : Type 0 where
    pub action : Action
    pub written : List Written
    pub among : Contains actions action
    pub makes : kinds.makes (kind_of action) action.args values trees ≡ Ok written
    pub put : Contains (placed outputs written) file

  pub of_more : (actions more : List Action) (file : Place × Bytes) → IsOf actions file → IsOf (actions ++ more) file
  of_more actions more file h = record { action = h.action; written = h.written; among = Contains-append_left actions more h.action h.among; makes = h.makes; put = h.put }

  of_tail : (first : Action) (actions : List Action) (file : Place × Bytes) → IsOf actions file → IsOf (first ∷ actions) file
  of_tail first actions file h = record { action = h.action; written = h.written; among = in_tail first h.action actions h.among; makes = h.makes; put = h.put }

  -- what an action at hand writes
  pub of_free : (held : Files) (action : Action) (file : Place × Bytes) → Contains (free_files outputs held (kinds.makes (kind_of action) action.args values trees)) file → IsOf (action ∷ []) file
  of_free held action file h =
      elim (kinds.makes (kind_of action) action.args values trees) as (λ r. kinds.makes (kind_of action) action.args values trees ≡ r → Contains (free_files outputs held r) file → IsOf (action ∷ []) file) [
        | Err text ↦ λ _ g. none_in file g
        | Ok written ↦ λ is g.
            elim (is_empty (step_faults outputs held (placed outputs written))) as (λ b. Contains (cond b (put_over [] (placed outputs written)) []) file → IsOf (action ∷ []) file) [
              | true ↦ λ k. elim (in_over [] (placed outputs written) file k) [
                | inl put ↦ record { action = action; written = written; among = in_head action []; makes = is; put = put }
                | inr none ↦ none_in file none
              ]
              | false ↦ λ k. none_in file k
            ] g
      ] refl h

  -- what is held after actions that ended
  pub of_held : (rest : Files) (actions : List Action) (held : Files) → (ends kinds outputs values trees rest held actions).fault ≡ None → (file : Place × Bytes)
      → Contains (ends kinds outputs values trees rest held actions).held file → IsOf actions file ⊎ Contains held file
  of_held rest [] held none file h = inr h
  of_held rest (action ∷ actions) held none file h =
      by_made (λ more e g. of_held rest actions more e file g) (kinds.makes (kind_of action) action.args values trees) refl none h
    where
      Again : Type 0
      Again = (more : Files) → (ends kinds outputs values trees rest more actions).fault ≡ None → Contains (ends kinds outputs values trees rest more actions).held file → IsOf actions file ⊎ Contains more file

      by_made : Again → (r : Result (List Written) Text) → kinds.makes (kind_of action) action.args values trees ≡ r
          → (or_end action held (step_by outputs rest held r) (λ more. ends kinds outputs values trees rest more actions)).fault ≡ None
          → Contains (or_end action held (step_by outputs rest held r) (λ more. ends kinds outputs values trees rest more actions)).held file → IsOf (action ∷ actions) file ⊎ Contains held file
      by_made again (Err text) is e g = absurd (let q = e in (cc))
      by_made again (Ok written) is e g =
          elim (hindrances outputs rest held (placed outputs written)) as (λ hs.
          (or_end action held (unless_hindered hs (put_over held (placed outputs written))) (λ more. ends kinds outputs values trees rest more actions)).fault ≡ None
          → Contains (or_end action held (unless_hindered hs (put_over held (placed outputs written))) (λ more. ends kinds outputs values trees rest more actions)).held file
          → IsOf (action ∷ actions) file ⊎ Contains held file) [
            | [] ↦ λ ended k. elim (again (put_over held (placed outputs written)) ended k) [
              | inl later ↦ inl (of_tail action actions file later)
              | inr here ↦ elim (in_over held (placed outputs written) file here) [
                | inl put ↦ inl (record { action = action; written = written; among = in_head action actions; makes = is; put = put })
                | inr existed ↦ inr existed
              ]
            ]
            | fault ∷ others ↦ λ ended k. absurd (let q = ended in (cc))
          ] e g
