-- Steps of a reply: none puts a file that is too large, and all are at outputs.
use Rattle.std.specs.Prelude.{◌≡◌, ◌≤◌, ◌++◌, Bool, true, false, cond, List, [], ◌∷◌, length, Option, Some, None, unwrap_or}
use Rattle.std.specs.List.{AllByRecursion}
use Rattle.std.specs.Option.{option_or}
use Rattle.std.specs.Ordering.{eq_by_cmp}
use Rattle.std.specs.FinMap.Entries.{find, is_sorted, put as put_at}
use Rattle.std.proofs.Common.{refl, sym, ap, subst, ◌∙◌}
use Rattle.gb_core.specs.Lists.{byte_order}
use Rattle.gb_core.specs.Place.{beneath}
use Rattle.gb_folder.specs.Files.{Place, Bytes, Files, file_at}
use Rattle.gb_folder.specs.Limits.{max_file}
use Rattle.gb_action.specs.declared.output_files.OutputFiles.{OutputFiles}
use Rattle.gb_action.specs.declared.reply.OutputPath.{OutputPath}
use Rattle.gb_action.specs.declared.reply.Written.{Written}
use Rattle.gb_plan.specs.declared.task.Output.{Output}
use Rattle.gb_plan.proofs.Places.{beneath_under}
use Rattle.gb_semantics.specs.Made.{output_named, placed, placed_in}
use Rattle.gb_semantics.proofs.Lemmas.Files.{same_place}
use Rattle.gb_run.specs.Placing.{faults_beside}
use Rattle.gb_run.proofs.Agreed.{some_same}
use Rattle.gb_run.proofs.AtOutputs.{is_at}
use Rattle.gb_run.proofs.Placed.{small_taken}
use Rattle.gb_run.specs.Named.{held_after, named, put, removed, removed_in, existing, steps_of}
use Rattle.gb_run.specs.Stepping.{IsSmall}
use Rattle.gb_run.specs.Steps.{Step, in_step_order, put_steps}
use Rattle.gb_run.proofs.Following.{no_some, under_named}
use Rattle.gb_run.proofs.Leading.{all_found, all_in_execution, at_files}
use Rattle.gb_run.proofs.Looks.{at_put, sorted_steps}
use Rattle.gb_tree.proofs.Holding.{all_append}

-- steps put over others take precedence over them
last_or : (held : List Step) (xs : List Step) (base : List Step) (q : Place) → find byte_order q base ≡ None
    → find byte_order q (put_steps held xs) ≡ option_or (find byte_order q (put_steps base xs)) (find byte_order q held)
last_or held xs base q none = go xs held base (ap (λ o. option_or o (find byte_order q held)) (sym none))
  where
    three : (e : Bool) (v : Option Bytes) (o h : Option (Option Bytes)) (k : Option (Option Bytes)) → k ≡ option_or o h → cond e (Some v) k ≡ option_or (cond e (Some v) o) h
    three true v o h k is = refl
    three false v o h k is = is

    go : (xs a b : List Step) → find byte_order q a ≡ option_or (find byte_order q b) (find byte_order q held) → find byte_order q (put_steps a xs) ≡ option_or (find byte_order q (put_steps b xs)) (find byte_order q held)
    go [] a b is = is
    go (s ∷ xs) a b is =
        go xs (put_at byte_order s.0 s.1 a) (put_at byte_order s.0 s.1 b)
        (at_put a s q ∙ three (eq_by_cmp byte_order q s.0) s.1 (find byte_order q b) (find byte_order q held) (find byte_order q a) is
        ∙ ap (λ o. option_or o (find byte_order q held)) (sym (at_put b s q)))

small_at : (files : Files) → AllByRecursion (λ (f : Place × Bytes). length f.1 ≤ max_file) files → (q : Place) (b : Bytes) → file_at files q ≡ Some b → length b ≤ max_file
small_at [] all q b e = no_some None b refl e
small_at (f ∷ files) all q b e = by (small_at files all.1 q b) (eq_by_cmp byte_order q f.0) e
  where
    by : (file_at files q ≡ Some b → length b ≤ max_file) → (t : Bool) → cond t (Some f.1) (file_at files q) ≡ Some b → length b ≤ max_file
    by again true is = subst (λ x. length x ≤ max_file) (some_same f.1 b is) all.0
    by again false is = again is

-- what is put is held then, and so it is not too large
pub small_steps : (outputs : List Output) (observed : List OutputFiles) (removes : List OutputPath) (writes : List Written)
    → faults_beside outputs [] (held_after outputs observed removes writes) ≡ [] → AllByRecursion IsSmall (in_step_order (steps_of outputs removes writes))
small_steps outputs observed removes writes none =
    all_in_execution IsSmall (steps_of outputs removes writes)
    (all_found IsSmall (steps_of outputs removes writes) (sorted_steps [] (named outputs removes writes) refl) one)
  where
    base : List Step
    base = put_steps [] (put (existing outputs observed))

    sorted : is_sorted byte_order (put_steps (put_steps [] (put (existing outputs observed))) (named outputs removes writes)) ≡ true
    sorted = sorted_steps (put_steps [] (put (existing outputs observed))) (named outputs removes writes) (sorted_steps [] (put (existing outputs observed)) refl)

    one : (q : Place) (v : Option Bytes) → find byte_order q (steps_of outputs removes writes) ≡ Some v → IsSmall (q, v)
    one q None e = tt
    one q (Some b) e =
        small_at (held_after outputs observed removes writes) (small_taken outputs [] (held_after outputs observed removes writes) none) q b
        (at_files (put_steps (put_steps [] (put (existing outputs observed))) (named outputs removes writes)) sorted q
        ∙ ap (λ o. unwrap_or o None) (last_or (put_steps [] (put (existing outputs observed))) (named outputs removes writes) [] q refl
        ∙ ap (λ o. option_or o (find byte_order q (put_steps [] (put (existing outputs observed))))) e))

-- ---- at outputs

abbrev AtOutputs : List Output → List Step → Type 0
AtOutputs outputs steps = AllByRecursion (λ (s : Step). is_at outputs s.0 ≡ true) steps

put_separate : (xs ys : List (Place × Bytes)) → put (xs ++ ys) ≡ put xs ++ put ys
put_separate [] ys = refl
put_separate (x ∷ xs) ys = ap (λ ss. (x.0, Some x.1) ∷ ss) (put_separate xs ys)

removed_at : (outputs : List Output) (removes : List OutputPath) → AtOutputs outputs (removed outputs removes)
removed_at outputs [] = tt
removed_at outputs (path ∷ removes) = all_append (λ (s : Step). is_at outputs s.0 ≡ true) (removed_in (output_named outputs path.output) path) (removed outputs removes) (by (output_named outputs path.output) refl) (removed_at outputs removes)
  where
    by : (o : Option Output) → output_named outputs path.output ≡ o → AtOutputs outputs (removed_in o path)
    by None e = tt
    by (Some output) e = (under_named outputs path.output output (beneath output.place path.path) e (beneath_under output.place path.path), tt)

written_at : (outputs : List Output) (writes : List Written) → AtOutputs outputs (put (placed outputs writes))
written_at outputs [] = tt
written_at outputs (file ∷ writes) =
    subst (AtOutputs outputs) (sym (put_separate (placed_in (output_named outputs file.output) file) (placed outputs writes)))
    (all_append (λ (s : Step). is_at outputs s.0 ≡ true) (put (placed_in (output_named outputs file.output) file)) (put (placed outputs writes)) (by (output_named outputs file.output) refl) (written_at outputs writes))
  where
    by : (o : Option Output) → output_named outputs file.output ≡ o → AtOutputs outputs (put (placed_in o file))
    by None e = tt
    by (Some output) e = (under_named outputs file.output output (beneath output.place file.path) e (beneath_under output.place file.path), tt)

named_at : (P : Step → Type 0) (held xs : List Step) (q : Place) (v : Option Bytes) → ((w : Option Bytes) → find byte_order q held ≡ Some w → P (q, w)) → ((p : Place) (w : Option Bytes) → P (p, w) → (u : Option Bytes) → P (p, u)) → AllByRecursion P xs → find byte_order q (put_steps held xs) ≡ Some v → P (q, v)
named_at P held [] q v start any all e = start v e
named_at P held (s ∷ xs) q v start any all e =
    named_at P (put_at byte_order s.0 s.1 held) xs q v (λ w is. by w (eq_by_cmp byte_order q s.0) refl (sym (at_put held s q) ∙ is)) any all.1 e
  where
    by : (w : Option Bytes) → (b : Bool) → eq_by_cmp byte_order q s.0 ≡ b → cond b (Some s.1) (find byte_order q held) ≡ Some w → P (q, w)
    by w true tied is = any q s.1 (subst (λ p. P (p, s.1)) (sym (same_place q s.0 tied)) all.0) w
    by w false tied is = start w is

-- the steps of a reply are at outputs
pub steps_at_outputs : (outputs : List Output) (removes : List OutputPath) (writes : List Written) → AllByRecursion (λ (s : Step). is_at outputs s.0 ≡ true) (in_step_order (steps_of outputs removes writes))
steps_at_outputs outputs removes writes =
    all_in_execution (λ (s : Step). is_at outputs s.0 ≡ true) (steps_of outputs removes writes)
    (all_found (λ (s : Step). is_at outputs s.0 ≡ true) (steps_of outputs removes writes) (sorted_steps [] (named outputs removes writes) refl)
    (λ q v e. named_at (λ (s : Step). is_at outputs s.0 ≡ true) [] (named outputs removes writes) q v (λ w is. no_some None w refl is) (λ p w h u. h)
    (all_append (λ (s : Step). is_at outputs s.0 ≡ true) (removed outputs removes) (put (placed outputs writes)) (removed_at outputs removes) (written_at outputs writes)) e))
