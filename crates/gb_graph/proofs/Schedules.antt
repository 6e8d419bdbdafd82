-- The tasks of a queue at its end, with their arguments, are the scheduled ones.
use Rattle.std.specs.Prelude.{ℕ, ◌≡◌, ◌<◌, Bool, true, false, not, cond, ◌==◌, List, [], ◌∷◌, map, length, get_or, bytes_eq, refl, Result, Ok, Err, IfErr}
use Rattle.std.specs.List.{flat_map, filter, list_any, AllByRecursion}
use Rattle.std.proofs.Common.{sym, ap, subst, ◌∙◌, arith}
use Rattle.std.proofs.lemmas.List.{get_or-map, length-map}
use Rattle.std.proofs.lemmas.Simd.{map-map}
use Rattle.std.proofs.lemmas.List.Elements.{filter_agree, recursion_from_All}
use Rattle.gb_core.specs.Path.{task_name}
use Rattle.gb_tree.specs.Property.{distinct}
use Rattle.gb_plan.specs.declared.plan.Planned.{Planned}
use Rattle.gb_plan.specs.declared.task.TaskDeclaration.{TaskDeclaration}
use Rattle.gb_plan.specs.Task.{Text, Path, has_path}
use Rattle.gb_plan.specs.Graph.{Registry, Request, order, paths_of, selected, selected_by, words_of, absolute, leaves_out, no_repeats, IsFirstWord, IsRegistered}
use Rattle.gb_plan.specs.Refusal.{Queued}
use Rattle.gb_plan.proofs.Tests.{not_true, in_filter, each_all}
use Rattle.gb_plan.proofs.Registered.{in_with_tasks}
use Rattle.gb_graph.specs.Queue.{added, IsAsked, paths_in}
use Rattle.gb_graph.specs.Words.{AreDone, AreScheduled, AreWorded, AsksFor, asked, joined_paths, newly_selected}
use Rattle.gb_graph.proofs.Newly.{added_none, has_newly}
use Rattle.gb_graph.proofs.Queues.{added_distinct, queue_scheduled, has_append, split_or}

-- ---- The request

selects_registered : (registry : Registry) (word : Text) (p : Path) → has_path (selected_by registry word) p ≡ true → has_path (paths_of registry) p ≡ true
selects_registered registry word p h =
    by (list_any (λ byte. byte == 58) word) (sym (in_with_tasks [] (cond (list_any (λ byte. byte == 58) word) (filter (bytes_eq (absolute word)) (paths_of registry)) (filter (λ path. bytes_eq (task_name path) word) (paths_of registry))) p) ∙ h)
  where
    by : (b : Bool) → has_path (cond b (filter (bytes_eq (absolute word)) (paths_of registry)) (filter (λ path. bytes_eq (task_name path) word) (paths_of registry))) p ≡ true → has_path (paths_of registry) p ≡ true
    by true g = (in_filter (bytes_eq (absolute word)) (paths_of registry) p g).0
    by false g = (in_filter (λ path. bytes_eq (task_name path) word) (paths_of registry) p g).0

all_registered : (registry : Registry) (words : List Text) (p : Path) → has_path (flat_map (selected_by registry) words) p ≡ true → has_path (paths_of registry) p ≡ true
all_registered registry [] p h = not_true h
all_registered registry (word ∷ words) p h = split_or (has_path (selected_by registry word) p) (has_path (flat_map (selected_by registry) words) p) (sym (has_append (selected_by registry word) (flat_map (selected_by registry) words) p) ∙ h)
    (λ e. selects_registered registry word p e)
    (λ e. all_registered registry words p e)

pub lists_registered : (registry : Registry) (words : List Text) (lists : List (List Path)) → lists ≡ newly_selected registry [] words → (p : Path) → has_path (joined_paths lists) p ≡ true → has_path (paths_of registry) p ≡ true
lists_registered registry words lists is p h = all_registered registry words p (sym (has_newly registry words p) ∙ (ap (λ ls. has_path (joined_paths ls) p) (sym is) ∙ h))

pub asks_for : (registry : Registry) (requested excluded : List Text) (lists others : List (List Path)) → lists ≡ newly_selected registry [] (words_of registry requested) → others ≡ newly_selected registry [] excluded
    → AsksFor (asked registry requested excluded) registry lists others
asks_for registry requested excluded lists others is are = record {
  of = refl;
  selects = λ shut. ap (λ ls. added shut [] (joined_paths ls)) is ∙ added_none registry shut (words_of registry requested);
  leaves = λ p. ap (λ ls. has_path (joined_paths ls) p) are ∙ has_newly registry excluded p;
}

-- a queue that includes all of these paths begins with what is selected
pub is_asked : (request : Request) (registry : Registry) (lists others : List (List Path)) → AsksFor request registry lists others → (shut : Path → Bool) → ((p : Path) → shut p ≡ has_path (joined_paths others) p)
    → (empty queue : List Path) → empty ≡ [] → queue ≡ added shut empty (joined_paths lists) → IsAsked request registry queue shut
is_asked request registry lists others asks shut reported empty queue none is = record {
  of = asks.of;
  begins =
      is ∙ ap (λ e. added shut e (joined_paths lists)) none ∙ asks.selects shut ∙ added_distinct shut [] (selected request)
      ∙ ap distinct (filter_agree (λ p. not (shut p)) (λ p. not (leaves_out request p)) (λ p. ap not (shuts p)) (selected request));
  shuts = shuts;
}
  where
    shuts : (p : Path) → shut p ≡ leaves_out request p
    shuts p = reported p ∙ asks.leaves p

pub are_done : (request : Request) (registry : Registry) (found : List TaskDeclaration) (lists : List (List Path)) → request.registry ≡ registry → AllByRecursion (IsRegistered registry) found
    → Queued request (paths_in found) [] → lists ≡ newly_selected request.registry [] request.words → AreDone request found lists
are_done request registry found lists of declared queued selects =
    let same = queue_scheduled request (paths_in found) queued in
    record {
      declared = subst (λ r. AllByRecursion (IsRegistered r) found) (sym of) declared;
      scheduled = λ p. (same p).0;
      back = λ p. (same p).1;
      selects = selects;
    }

-- ---- With their arguments

module _ (request : Request) (found : List TaskDeclaration) (lists : List (List Path)) (done : AreDone request found lists) (words : List ℕ)
    (first : (k : ℕ) → k < length found → IsFirstWord request (get_or (paths_in found) k []) (get_or words k 0))
    (these : Path → Bool) (reported : (p : Path) → these p ≡ has_path (joined_paths lists) p) (planned : List Planned) (worded : AreWorded found words these planned) where
  same_order : order planned ≡ paths_in found
  same_order = sym (map-map (λ (task : TaskDeclaration). task.path) (λ (p : Planned). p.task) planned) ∙ ap paths_in worded.same

  same_length : length planned ≡ length found
  same_length = sym (length-map planned (λ (p : Planned). p.task)) ∙ ap length worded.same

  all_mapped_back : {X Y : Type 0} (P : Y → Type 0) (f : X → Y) (xs : List X) → AllByRecursion P (map f xs) → AllByRecursion (λ x. P (f x)) xs
  all_mapped_back P f [] all = tt
  all_mapped_back P f (x ∷ xs) all = (all.0, all_mapped_back P f xs all.1)

  selects : (p : Path) → these p ≡ has_path (selected request) p
  selects p = reported p ∙ (ap (λ ls. has_path (joined_paths ls) p) done.selects ∙ has_newly request.registry request.words p)

  pub are_scheduled : no_repeats (paths_in found) ≡ true → AreScheduled request planned
  are_scheduled once = record {
    scheduled = λ p h. done.scheduled p (ap (λ ps. has_path ps p) (sym same_order) ∙ h);
    back = λ p h. ap (λ ps. has_path ps p) same_order ∙ done.back p h;
    declared = all_mapped_back (IsRegistered request.registry) (λ (p : Planned). p.task) planned (subst (AllByRecursion (IsRegistered request.registry)) (sym worded.same) done.declared);
    words = recursion_from_All (λ (p : Planned). IsFirstWord request p.task.path p.word) planned (λ k d lt.
        let path : get_or (paths_in found) k [] ≡ (get_or planned k d).task.path = ap (λ ps. get_or ps k []) (sym same_order) ∙ get_or-map (λ (p : Planned). p.task.path) planned k d [] lt in
        subst (λ q. IsFirstWord request q (get_or planned k d).word) path
        (subst (IsFirstWord request (get_or (paths_in found) k [])) (sym (worded.worded k d lt)) (first k (omega (arith, lt, same_length)))));
    selection = each_all (λ (p : Planned). p.is_selected ≡ these p.task.path) (λ (p : Planned). p.is_selected ≡ has_path (selected request) p.task.path) (λ p h. h ∙ selects p.task.path) planned worded.selection;
    once = ap no_repeats same_order ∙ once;
  }

-- ---- Outcomes

pub err_weaker : {X E : Type 0} (r : Result X E) (P Q : E → Type 0) → ((e : E) → P e → Q e) → IfErr r P → IfErr r Q
err_weaker (Ok x) P Q f h = tt
err_weaker (Err e) P Q f h = f e h

pub not_in_none : {A : Type 0} (paths : List Path) (p : Path) → paths ≡ [] → has_path paths p ≡ true → A
not_in_none paths p none h = not_true (ap (λ ps. has_path ps p) (sym none) ∙ h)
