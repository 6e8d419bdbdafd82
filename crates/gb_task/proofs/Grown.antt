-- What a run left that ended well can be read: no file is too large, and no output has too many.
use Rattle.std.specs.Prelude.{ℕ, ◌≡◌, ◌++◌, Bool, true, false, not, List, [], ◌∷◌, map, length, cond, if◌then◌else◌, nat_lt, Option, Some, None, unwrap_or, Result, Ok, Err, ⊤}
use Rattle.std.specs.List.{AllByRecursion, filter, flat_map, fold, list_any}
use Rattle.std.specs.Ordering.{eq_by_cmp}
use Rattle.std.proofs.Common.{refl, sym, ap, ap₂, subst, ◌∙◌}
use Rattle.std.proofs.lemmas.List.{length-map}
use Rattle.gb_core.specs.Lists.{byte_order}
use Rattle.gb_core.specs.Place.{is_place, is_under}
use Rattle.gb_action.specs.Files.{Trees}
use Rattle.gb_action.specs.Meanings.{Values}
use Rattle.gb_action.specs.declared.reply.Written.{Written}
use Rattle.gb_folder.specs.Files.{Place, Bytes, Contents, Files, file_at, files_under, files_where, is_blocked, is_empty, is_special_under, is_own, places_under, with_file}
use Rattle.gb_folder.specs.Limits.{max_file, max_files}
use Rattle.gb_semantics.specs.Kinds.{Kinds, kind_of}
use Rattle.gb_semantics.specs.Made.{act, fault_if, file_faults, full_outputs, made_of, placed, put_over, put_result, step_faults}
use Rattle.gb_semantics.specs.Tree.{reported_of_tree}
use Rattle.gb_semantics.proofs.Common.{some_same}
use Rattle.gb_semantics.proofs.Lemmas.Files.{at-with, or_else}
use Rattle.gb_plan.proofs.Tests.{not_true}
use Rattle.gb_plan.specs.Task.{is_output_of}
use Rattle.gb_semantics.specs.Memory.{output_files}
use Rattle.gb_plan.specs.declared.task.Action.{Action}
use Rattle.gb_plan.specs.declared.task.Output.{Output}
use Rattle.gb_report.specs.declared.fault.Fault.{Fault}
use Rattle.gb_report.specs.declared.fault.Fault.TheVariants as faults
use Rattle.gb_tree.specs.Tree.{entries_from, is_large, special_roots, path_from, too_large, too_many}
use Rattle.gb_tree.specs.declared.fault.TreeFault.{TreeFault}
use Rattle.gb_tree.specs.declared.fault.TreeFault.TheVariants as trees
use Rattle.gb_label.specs.Reading.{print_faults}
use Rattle.gb_label.proofs.Growth.{special_parts}
use Rattle.gb_task.specs.Case.{MadeIsNotGrown}
use Rattle.gb_task.proofs.Part.{Within, all_under, bytes_same, first_within, rest_within, under_same}

-- ---- what a run makes is small

-- no file is above the limit
abbrev IsSmall : Files → Type 0
IsSmall files = (q : Place) (bytes : Bytes) → file_at files q ≡ Some bytes → nat_lt max_file (length bytes) ≡ false

empty_left : {X : Type 0} (xs ys : List X) → is_empty (xs ++ ys) ≡ true → is_empty xs ≡ true
empty_left [] ys e = refl
empty_left (x ∷ xs) ys e = not_true e

empty_right : {X : Type 0} (xs ys : List X) → is_empty (xs ++ ys) ≡ true → is_empty ys ≡ true
empty_right [] ys e = e
empty_right (x ∷ xs) ys e = not_true e

unhindered : (b : Bool) (fault : Fault) → is_empty (fault_if b fault) ≡ true → b ≡ false
unhindered true fault e = not_true e
unhindered false fault e = refl

small_file : (all : Files) (file : Place × Bytes) → is_empty (file_faults all file) ≡ true → nat_lt max_file (length file.1) ≡ false
small_file all file e =
    let nowhere = fault_if (not (is_place file.0)) (faults.BadPlace file.0) in
    let blocked = fault_if (is_blocked all file.0) (faults.Blocked file.0) in
    let large = fault_if (nat_lt max_file (length file.1)) (faults.TooLarge file.0) in
    unhindered _ (faults.TooLarge file.0) (empty_right (nowhere ++ blocked) large e)

small_files : (all files : Files) → is_empty (flat_map (file_faults all) files) ≡ true → IsSmall files
small_files all [] e q bytes is = absurd (cc)
small_files all (file ∷ files) e q bytes is =
    elim (eq_by_cmp byte_order q file.0) as (λ b. cond b (Some file.1) (file_at files q) ≡ Some bytes → nat_lt max_file (length bytes) ≡ false) [
      | true ↦ λ here. ap (λ x. nat_lt max_file (length x)) (some_same (sym here)) ∙ small_file all file (empty_left (file_faults all file) (flat_map (file_faults all) files) e)
      | false ↦ λ later. small_files all files (empty_right (file_faults all file) (flat_map (file_faults all) files) e) q bytes later
    ] is

-- files put over others are found before them
over_as : (held a b : Files) (files : List (Place × Bytes)) → ((q : Place) → file_at a q ≡ or_else (file_at b q) (file_at held q)) → (q : Place)
    → file_at (put_over a files) q ≡ or_else (file_at (put_over b files) q) (file_at held q)
over_as held a b [] same q = same q
over_as held a b (f ∷ files) same q = over_as held (with_file a f.0 f.1) (with_file b f.0 f.1) files step q
  where
    by : (p : Place) (e : Bool) → cond e (Some f.1) (file_at a p) ≡ or_else (cond e (Some f.1) (file_at b p)) (file_at held p)
    by p true = refl
    by p false = same p

    step : (p : Place) → file_at (with_file a f.0 f.1) p ≡ or_else (file_at (with_file b f.0 f.1) p) (file_at held p)
    step p = at-with a f.0 f.1 p ∙ by p (eq_by_cmp byte_order p f.0) ∙ ap (λ o. or_else o (file_at held p)) (sym (at-with b f.0 f.1 p))

small_over : (held : Files) (files : List (Place × Bytes)) → IsSmall held → IsSmall (put_over [] files) → IsSmall (put_over held files)
small_over held files old new q bytes is =
    by (file_at (put_over [] files) q) (new q) (sym (over_as held held [] files (λ p. refl) q) ∙ is)
  where
    by : (o : Option Bytes) → ((b : Bytes) → o ≡ Some b → nat_lt max_file (length b) ≡ false) → or_else o (file_at held q) ≡ Some bytes → nat_lt max_file (length bytes) ≡ false
    by None small e = old q bytes e
    by (Some b) small e = small bytes e

-- no file is too large, and no output has too many
record IsFit (outputs : List Output) (files : Files) : Type 0 where
  small : IsSmall files
  few : is_empty (full_outputs outputs files) ≡ true

abbrev FitResult : List Output → Result Files (List Fault) → Type 0
FitResult outputs (Ok files) = IsFit outputs files
FitResult outputs (Err hindrances) = ⊤

none_full : (outputs : List Output) → is_empty (full_outputs outputs []) ≡ true
none_full [] = refl
none_full (output ∷ outputs) = none_full outputs

empty_named : (outputs : List Output) → is_empty (map (λ (output : Output). faults.TooManyFiles output.name) outputs) ≡ true → is_empty outputs ≡ true
empty_named [] e = refl
empty_named (output ∷ outputs) e = not_true e

module _ (kinds : Kinds) (outputs : List Output) (values : Values) (inputs : Trees) where
  put_fit : (held : Files) → IsFit outputs held → (r : Result (List Written) (List ℕ)) → FitResult outputs (put_result outputs held r)
  put_fit held fit (Err text) = tt
  put_fit held fit (Ok written) = by (is_empty (step_faults outputs held (placed outputs written))) refl
    where
      by : (b : Bool) → is_empty (step_faults outputs held (placed outputs written)) ≡ b → FitResult outputs (if b then Ok (put_over held (placed outputs written)) else Err (step_faults outputs held (placed outputs written)))
      by true e = record {
        small = small_over held (placed outputs written) fit.small
            (small_files (put_over held (placed outputs written)) (put_over [] (placed outputs written))
            (empty_left (flat_map (file_faults (put_over held (placed outputs written))) (put_over [] (placed outputs written))) _ e));
        few = empty_named (full_outputs outputs (put_over held (placed outputs written)))
            (empty_right (flat_map (file_faults (put_over held (placed outputs written))) (put_over [] (placed outputs written))) _ e);
      }
      by false e = tt

  act_fit : (held : Result Files (List Fault)) → FitResult outputs held → (action : Action) → FitResult outputs (act kinds outputs values inputs held action)
  act_fit (Err hindrances) fit action = tt
  act_fit (Ok held) fit action = put_fit held fit (kinds.makes (kind_of action) action.args values inputs)

  fold_fit : (actions : List Action) (held : Result Files (List Fault)) → FitResult outputs held → FitResult outputs (fold (act kinds outputs values inputs) held actions)
  fold_fit [] held fit = fit
  fold_fit (action ∷ actions) held fit = fold_fit actions (act kinds outputs values inputs held action) (act_fit held fit action)

made_fit : (kinds : Kinds) (outputs : List Output) (values : Values) (inputs : Trees) (actions : List Action) (new : Files)
    → made_of kinds actions values inputs outputs ≡ Ok new → IsFit outputs new
made_fit kinds outputs values inputs actions new e =
    subst (FitResult outputs) e
    (fold_fit kinds outputs values inputs actions (Ok []) (record { small = λ q bytes is. absurd (cc); few = none_full outputs }))

-- ---- so it can be read

small_bytes : (files : Files) → IsSmall files → (place : Place) → is_large files place ≡ false
small_bytes files small place = by (file_at files place) refl
  where
    by : (o : Option Bytes) → file_at files place ≡ o → nat_lt max_file (length (unwrap_or o [])) ≡ false
    by None e = refl
    by (Some bytes) e = small place bytes e

module _ (test : Place → Bool) (folder : Contents) (small : IsSmall (files_where test folder.files)) where
  none_large : (root : Place) (places : List Place) → AllByRecursion (λ place. test place ≡ true) places → too_large folder.files (entries_from root places) ≡ []
  none_large root [] all = refl
  none_large root (place ∷ places) all =
      ap (λ b. map (λ (entry : List ℕ × Place). trees.TooLarge entry.1)
      (cond b ((path_from root place, place) ∷ filter (λ (e : List ℕ × Place). is_large folder.files e.1) (entries_from root places)) (filter (λ (e : List ℕ × Place). is_large folder.files e.1) (entries_from root places))))
      (ap (λ bytes. nat_lt max_file (length bytes)) (sym (bytes_same test folder.files place all.0)) ∙ small_bytes (files_where test folder.files) small place)
      ∙ none_large root places all.1

  not_many : (name : List ℕ) (root : Place) → Within test root → nat_lt max_files (length (files_under (files_where test folder.files) root)) ≡ false
      → too_many name (entries_from root (places_under folder.files root)) ≡ []
  not_many name root within few = ap (λ b. if b then trees.TooManyFiles name ∷ [] else []) (ap (nat_lt max_files) count ∙ few)
    where
      count : length (entries_from root (places_under folder.files root)) ≡ length (files_under (files_where test folder.files) root)
      count = length-map (places_under folder.files root) (λ place. (path_from root place, place))
          ∙ length-map (files_under folder.files root) (λ (file : Place × Bytes). file.0)
          ∙ ap length (sym (under_same test folder.files root within))

  one_readable : (output : Output) → is_special_under folder output.place ≡ false → Within test output.place
      → nat_lt max_files (length (files_under (files_where test folder.files) output.place)) ≡ false → print_faults folder output ≡ []
  one_readable output none within few = by (is_own output.place)
    where
      special : special_roots folder (output.place ∷ []) ≡ []
      special = ap (λ b. map trees.BadFileName (cond b (output.place ∷ []) [])) none

      by : (own : Bool) → map reported_of_tree ((if own then [] else special_roots folder (output.place ∷ []) ++ too_many output.name (entries_from output.place (places_under folder.files output.place)))
          ++ too_large folder.files (if own then [] else entries_from output.place (places_under folder.files output.place))) ≡ []
      by true = refl
      by false = ap (map reported_of_tree)
          (ap₂ (λ (x y : List TreeFault). x ++ y)
          (ap₂ (λ (x y : List TreeFault). x ++ y) special (not_many output.name output.place within few))
          (none_large output.place (places_under folder.files output.place) (all_under test folder.files output.place within)))

  -- the first output has not too many files, nor have the others
  few_each : (output : Output) (outputs : List Output) → is_empty (full_outputs (output ∷ outputs) (files_where test folder.files)) ≡ true
      → (nat_lt max_files (length (files_under (files_where test folder.files) output.place)) ≡ false) × (is_empty (full_outputs outputs (files_where test folder.files)) ≡ true)
  few_each output outputs few = by (nat_lt max_files (length (files_under (files_where test folder.files) output.place))) refl few
    where
      by : (b : Bool) → nat_lt max_files (length (files_under (files_where test folder.files) output.place)) ≡ b
          → is_empty (cond b (output ∷ full_outputs outputs (files_where test folder.files)) (full_outputs outputs (files_where test folder.files))) ≡ true
          → (nat_lt max_files (length (files_under (files_where test folder.files) output.place)) ≡ false) × (is_empty (full_outputs outputs (files_where test folder.files)) ≡ true)
      by true is e = not_true e
      by false is e = (is, e)

  all_readable : (outputs : List Output) → AllByRecursion (λ (o : Output). is_special_under folder o.place ≡ false) outputs
      → ((q : Place) → list_any (λ (o : Output). is_under q o.place) outputs ≡ true → test q ≡ true)
      → is_empty (full_outputs outputs (files_where test folder.files)) ≡ true → flat_map (print_faults folder) outputs ≡ []
  all_readable [] special within few = refl
  all_readable (output ∷ outputs) special within few =
      let parts = few_each output outputs few in
      ap₂ (λ (x y : List Fault). x ++ y) (one_readable output special.0 (first_within test output outputs within) parts.0)
      (all_readable outputs special.1 (rest_within test output outputs within) parts.1)

none_special : (folder : Contents) (outputs : List Output) → map reported_of_tree (special_roots folder (map (λ (o : Output). o.place) outputs)) ≡ []
    → AllByRecursion (λ (o : Output). is_special_under folder o.place ≡ false) outputs
none_special folder [] none = tt
none_special folder (output ∷ outputs) none =
    let parts = special_parts folder output outputs none in
    (parts.0, none_special folder outputs parts.1)

pub made_is_not_grown : MadeIsNotGrown
made_is_not_grown kinds task folder entry made outputs files listed =
    let fit : IsFit task.outputs (output_files task folder.files) =
    subst (IsFit task.outputs) files
    (subst (λ outs. IsFit outs entry.files) outputs (made_fit kinds entry.outputs entry.values entry.inputs entry.actions entry.files made)) in
    all_readable (is_output_of task) folder fit.small task.outputs (none_special folder task.outputs listed) (λ q any. any) fit.few
