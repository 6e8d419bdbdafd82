-- Where the steps of a reply have room, and which is the first that has none: the same as for all the files
-- of a task.
use Rattle.std.specs.Prelude.{◌≡◌, ◌⊎◌, ◌++◌, ◌&&◌, ◌||◌, Bool, true, false, not, cond, List, [], ◌∷◌, map, Option, Some, None, Ok, Err, is_some, option_and_then, unwrap_or}
use Rattle.std.specs.List.{AllByRecursion, filter, list_any}
use Rattle.std.specs.Ordering.{eq_by_cmp, is_lt}
use Rattle.std.specs.Cmp.Lexicographic.{nat_list_cmp_total}
use Rattle.std.specs.FinMap.Entries.{below_all, find, is_sorted}
use Rattle.std.specs.declared.cmp.Ordering.TheVariants.{Less}
use Rattle.std.proofs.Common.{refl, sym, ap, subst, ◌∙◌, inl, inr}
use mathlib.Core.Bool.{true≢false}
use Rattle.gb_core.specs.Lists.{byte_order, first_of}
use Rattle.gb_core.specs.Place.{is_beneath, is_place}
use Rattle.gb_core.proofs.Found.{find-same}
use Rattle.gb_folder.specs.Files.{Place, Bytes, Files, IsFolder, file_at, files_where, is_blocked, with_left}
use Rattle.gb_folder.proofs.Changes.{file_at-files_where, files_where-with_left}
use Rattle.gb_report.specs.declared.fault.Fault.TheVariants as faults
use Rattle.gb_action.specs.declared.reply.Written.{Written}
use Rattle.gb_plan.specs.Task.{is_output_of}
use Rattle.gb_plan.specs.declared.task.Output.{Output}
use Rattle.gb_plan.specs.declared.task.TaskDeclaration.{TaskDeclaration as Task}
use Rattle.gb_plan.proofs.Tests.{neither, none_left, none_right}
use Rattle.gb_folder.proofs.Free.{free_at}
use Rattle.gb_semantics.specs.Made.{blocked_in, placed, put_over, rest_of, step_faults}
use Rattle.gb_semantics.specs.Run.{has_room, step_by, unless_hindered}
use Rattle.gb_semantics.proofs.Lemmas.Files.{at-put_over, left_of, or_else, right_of, same_place, sorted-put_over}
use Rattle.gb_run.specs.Placing.{count_faults}
use Rattle.gb_run.proofs.Agreed.{some_same}
use Rattle.gb_run.proofs.Placed.{all_after, all_prefix, free_files_of, none_before}
use Rattle.gb_run.proofs.Writer.{heads, tails}
use Rattle.gb_run.specs.Steps.{LeadTo, Step, after_steps, in_step_order}
use Rattle.gb_run.specs.Stepping.{HasRoom, IsFree}
use Rattle.gb_run.proofs.Following.{no_some}
use Rattle.gb_run.proofs.Leading.{all_found, sorted_after}
use Rattle.gb_run.proofs.Looks.{after_append, at_in_execution, at_left, find_kept, kept, none_below, sorted_kept}
use Rattle.gb_tree.proofs.InOrder.{is_less}

-- ---- lists

-- what holds of all holds of what is found
found_holds : {X : Type 0} (P : Place × X → Type 0) (xs : List (Place × X)) (q : Place) (v : X) → AllByRecursion P xs → find byte_order q xs ≡ Some v → P (q, v)
found_holds P [] q v all e = no_some None v refl e
found_holds P (x ∷ xs) q v all e = by (λ w. found_holds P xs q v all.1 w) (eq_by_cmp byte_order q x.0) refl e
  where
    by : (find byte_order q xs ≡ Some v → P (q, v)) → (b : Bool) → eq_by_cmp byte_order q x.0 ≡ b → cond b (Some x.1) (find byte_order q xs) ≡ Some v → P (q, v)
    by again true tied is = subst (λ w. P (q, w)) (some_same x.1 v is) (subst (λ p. P (p, x.1)) (sym (same_place q x.0 tied)) all.0)
    by again false tied is = again is

none_of : {X : Type 0} (t : X → Bool) (xs : List X) → AllByRecursion (λ x. t x ≡ false) xs → list_any t xs ≡ false
none_of t [] all = refl
none_of t (x ∷ xs) all = neither (t x) (list_any t xs) all.0 (none_of t xs all.1)

each_none : {X : Type 0} (t : X → Bool) (xs : List X) → list_any t xs ≡ false → AllByRecursion (λ x. t x ≡ false) xs
each_none t [] e = tt
each_none t (x ∷ xs) e = (none_left (t x) (list_any t xs) e, each_none t xs (none_right (t x) (list_any t xs) e))

-- ---- blocked places

-- what blocks no place in a folder blocks none in a part of it
blocked_where : (test : Place → Bool) (files : Files) (q : Place) → is_blocked files q ≡ false → is_blocked (files_where test files) q ≡ false
blocked_where test [] q e = refl
blocked_where test (f ∷ files) q e = by (blocked_where test files q (none_right (hits f.0) (is_blocked files q) e)) (test f.0)
  where
    hits : Place → Bool
    hits p = is_beneath q p || is_beneath p q

    by : is_blocked (files_where test files) q ≡ false → (b : Bool) → is_blocked (cond b (f ∷ files_where test files) (files_where test files)) q ≡ false
    by again true = neither (is_beneath q f.0 || is_beneath f.0 q) (is_blocked (files_where test files) q) (none_left (is_beneath q f.0 || is_beneath f.0 q) (is_blocked files q) e) again
    by again false = again

-- the first of them
first_is : (rest made : Files) (q : Place) (bytes : Bytes) → is_sorted byte_order made ≡ true → file_at made q ≡ Some bytes → is_blocked rest q ≡ true
    → ((p : Place) (b : Bytes) → file_at made p ≡ Some b → byte_order p q ≡ Less → is_blocked rest p ≡ false) → first_of (blocked_in rest made) ≡ Some q
first_is rest [] q bytes sorted at blocked before = no_some None bytes refl at
first_is rest (f ∷ made) q bytes sorted at blocked before =
    by (first_is rest made q bytes (right_of (below_all byte_order f.0 made) (is_sorted byte_order made) sorted)) (eq_by_cmp byte_order q f.0) refl at
  where
    below : below_all byte_order f.0 made ≡ true
    below = left_of (below_all byte_order f.0 made) (is_sorted byte_order made) sorted

    rest_is : Bool → List Place
    rest_is b = map (λ (g : Place × Bytes). g.0) (cond b (f ∷ filter (λ (g : Place × Bytes). is_blocked rest g.0) made) (filter (λ (g : Place × Bytes). is_blocked rest g.0) made))

    later_found : (p : Place) (b : Bytes) → file_at made p ≡ Some b → file_at (f ∷ made) p ≡ Some b
    later_found p b e = go (eq_by_cmp byte_order p f.0) refl
      where
        go : (t : Bool) → eq_by_cmp byte_order p f.0 ≡ t → cond t (Some f.1) (file_at made p) ≡ Some b
        go true tied = no_some (file_at made f.0) b (none_below f.0 made below) (ap (file_at made) (sym (same_place p f.0 tied)) ∙ e)
        go false tied = e

    less_of : (xs : Files) → below_all byte_order f.0 xs ≡ true → file_at xs q ≡ Some bytes → byte_order f.0 q ≡ Less
    less_of [] h e = no_some None bytes refl e
    less_of (x ∷ xs) h e = go (λ w. less_of xs (right_of (is_lt (byte_order f.0 x.0)) (below_all byte_order f.0 xs) h) w) (eq_by_cmp byte_order q x.0) refl e
      where
        go : (file_at xs q ≡ Some bytes → byte_order f.0 q ≡ Less) → (t : Bool) → eq_by_cmp byte_order q x.0 ≡ t → cond t (Some x.1) (file_at xs q) ≡ Some bytes → byte_order f.0 q ≡ Less
        go again true tied w = ap (byte_order f.0) (same_place q x.0 tied) ∙ is_less (byte_order f.0 x.0) (left_of (is_lt (byte_order f.0 x.0)) (below_all byte_order f.0 xs) h)
        go again false tied w = again w

    by : (file_at made q ≡ Some bytes → is_blocked rest q ≡ true → ((p : Place) (b : Bytes) → file_at made p ≡ Some b → byte_order p q ≡ Less → is_blocked rest p ≡ false) → first_of (blocked_in rest made) ≡ Some q)
        → (t : Bool) → eq_by_cmp byte_order q f.0 ≡ t → cond t (Some f.1) (file_at made q) ≡ Some bytes → first_of (blocked_in rest (f ∷ made)) ≡ Some q
    by again true tied is =
        ap (λ b. first_of (rest_is b)) (ap (is_blocked rest) (sym (same_place q f.0 tied)) ∙ blocked) ∙ ap Some (sym (same_place q f.0 tied))
    by again false tied is =
        ap (λ b. first_of (rest_is b)) (before f.0 f.1 own (less_of made below is)) ∙ again is blocked (λ p b e less. before p b (later_found p b e) less)
      where
        own : file_at (f ∷ made) f.0 ≡ Some f.1
        own = find-same f.0 f made refl

-- the files of an action have no fault but by the rest of the folder
blocked_step : (outputs : List Output) (rest held : Files) (written : List Written) (q : Place) → step_faults outputs held (placed outputs written) ≡ [] → first_of (blocked_in rest (put_over [] (placed outputs written))) ≡ Some q
    → step_by outputs rest held (Ok written) ≡ Err (faults.Blocked q)
blocked_step outputs rest held written q none first =
    ap (λ hs. unless_hindered (hs ++ map faults.Blocked (blocked_in rest (put_over [] (placed outputs written)))) (put_over held (placed outputs written))) none
    ∙ by (blocked_in rest (put_over [] (placed outputs written))) first
  where
    by : (places : List Place) → first_of places ≡ Some q → unless_hindered (map faults.Blocked places) (put_over held (placed outputs written)) ≡ Err (faults.Blocked q)
    by [] e = no_some None q refl e
    by (p ∷ places) e = ap (λ x. Err (faults.Blocked x)) (some_same p q e)

-- nor by the rest
free_step : (outputs : List Output) (rest held : Files) (written : List Written) → step_faults outputs held (placed outputs written) ≡ [] → has_room rest (put_over [] (placed outputs written))
    → step_by outputs rest held (Ok written) ≡ Ok (put_over held (placed outputs written))
free_step outputs rest held written none free =
    ap (λ hs. unless_hindered (hs ++ map faults.Blocked (blocked_in rest (put_over [] (placed outputs written)))) (put_over held (placed outputs written))) none
    ∙ ap (λ (fs : List (Place × Bytes)). unless_hindered (map faults.Blocked (map (λ (f : Place × Bytes). f.0) fs)) (put_over held (placed outputs written))) (nothing (put_over [] (placed outputs written)) free)
  where
    nothing : (files : List (Place × Bytes)) → has_room rest files → filter (λ (f : Place × Bytes). is_blocked rest f.0) files ≡ []
    nothing [] e = refl
    nothing (f ∷ files) e =
        ap (λ b. cond b (f ∷ filter (λ (g : Place × Bytes). is_blocked rest g.0) files) (filter (λ (g : Place × Bytes). is_blocked rest g.0) files))
        (none_left (is_blocked rest f.0) (list_any (λ (g : Place × Bytes). is_blocked rest g.0) files) e)
        ∙ nothing files (none_right (is_blocked rest f.0) (list_any (λ (g : Place × Bytes). is_blocked rest g.0) files) e)

-- ---- a prefix and what is after it

-- removals come first, so a prefix up to a write contains all removals
prefix_comes : (going coming prefix : List Step) (s : Step) (following : List Step) → AllByRecursion (λ (x : Step). is_some x.1 ≡ false) going → is_some s.1 ≡ true → going ++ coming ≡ prefix ++ s ∷ following
    → (before : List Step) × (coming ≡ before ++ s ∷ following) × (prefix ≡ going ++ before)
prefix_comes [] coming prefix s following none some e = (prefix, e, refl)
prefix_comes (x ∷ going) coming [] s following none some e =
    absurd (true≢false (sym some ∙ ap (λ (y : Step). is_some y.1) (sym (heads x s (going ++ coming) following e)) ∙ none.0))
prefix_comes (x ∷ going) coming (y ∷ prefix) s following none some e =
    let more = prefix_comes going coming prefix s following none.1 some (tails x y (going ++ coming) (prefix ++ s ∷ following) e) in
    (more.0, more.1, ap (λ z. z ∷ prefix) (sym (heads x y (going ++ coming) (prefix ++ s ∷ following) e)) ∙ ap (λ zs. x ∷ zs) more.2)

sorted_second : {X : Type 0} (xs ys : List (Place × X)) → is_sorted byte_order (xs ++ ys) ≡ true → is_sorted byte_order ys ≡ true
sorted_second [] ys h = h
sorted_second (x ∷ xs) ys h = sorted_second xs ys (right_of (below_all byte_order x.0 (xs ++ ys)) (is_sorted byte_order (xs ++ ys)) h)

below_more : {X : Type 0} (p q : Place) (xs : List (Place × X)) → byte_order p q ≡ Less → below_all byte_order q xs ≡ true → below_all byte_order p xs ≡ true
below_more p q [] less h = refl
below_more p q (x ∷ xs) less h =
    ap (λ o. is_lt o && below_all byte_order p xs) (nat_list_cmp_total.trans p q x.0 less (is_less (byte_order q x.0) (left_of (is_lt (byte_order q x.0)) (below_all byte_order q xs) h)))
    ∙ below_more p q xs less (right_of (is_lt (byte_order q x.0)) (below_all byte_order q xs) h)

-- what is found before a step is found in the prefix
found_before : {X : Type 0} (prefix : List (Place × X)) (s : Place × X) (following : List (Place × X)) (p : Place) (v : X) → is_sorted byte_order (prefix ++ s ∷ following) ≡ true → byte_order p s.0 ≡ Less
    → find byte_order p (prefix ++ s ∷ following) ≡ Some v → find byte_order p prefix ≡ Some v
found_before [] s following p v h less e =
    no_some (find byte_order p (s ∷ following)) v
    (none_below p (s ∷ following) (ap (λ o. is_lt o && below_all byte_order p following) less ∙ below_more p s.0 following less (left_of (below_all byte_order s.0 following) (is_sorted byte_order following) h))) e
found_before (x ∷ prefix) s following p v h less e =
    by (found_before prefix s following p v (right_of (below_all byte_order x.0 (prefix ++ s ∷ following)) (is_sorted byte_order (prefix ++ s ∷ following)) h) less) (eq_by_cmp byte_order p x.0) e
  where
    by : (find byte_order p (prefix ++ s ∷ following) ≡ Some v → find byte_order p prefix ≡ Some v) → (b : Bool) → cond b (Some x.1) (find byte_order p (prefix ++ s ∷ following)) ≡ Some v → cond b (Some x.1) (find byte_order p prefix) ≡ Some v
    by again true is = is
    by again false is = again is

-- what is there stays there while files are put
stays : (files : Files) (xs : List Step) (q : Place) → AllByRecursion (λ (s : Step). is_some s.1 ≡ true) xs → is_some (file_at files q) ≡ true → is_some (file_at (after_steps files xs) q) ≡ true
stays files [] q all e = e
stays files (s ∷ xs) q all e = stays (with_left files s.0 s.1) xs q all.1 (ap is_some (at_left files s.0 s.1 q) ∙ by (eq_by_cmp byte_order q s.0))
  where
    by : (b : Bool) → is_some (cond b s.1 (file_at files q)) ≡ true
    by true = all.0
    by false = e

picked_all : (t : Step → Bool) (P : Step → Type 0) (xs : List Step) → ((s : Step) → t s ≡ true → P s) → AllByRecursion P (filter t xs)
picked_all t P [] each = tt
picked_all t P (s ∷ xs) each = by (picked_all t P xs each) (t s) refl
  where
    by : AllByRecursion P (filter t xs) → (b : Bool) → t s ≡ b → AllByRecursion P (cond b (s ∷ filter t xs) (filter t xs))
    by again true e = (each s e, again)
    by again false e = again

-- a file that is there is none of those that block a free place
hits_none : (files : Files) (q p : Place) (b : Bytes) → is_blocked files q ≡ false → file_at files p ≡ Some b → (is_beneath q p || is_beneath p q) ≡ false
hits_none files q p b free e =
    found_holds (λ (f : Place × Bytes). (is_beneath q f.0 || is_beneath f.0 q) ≡ false) files p b (each_none (λ (f : Place × Bytes). is_beneath q f.0 || is_beneath f.0 q) files free) e

-- ---- the steps

module _ (task : Task) (files : Files) (folder : IsFolder files) (written : List Written) (steps : List Step) (sorted : is_sorted byte_order steps ≡ true)
    (at_outputs : AllByRecursion (λ (s : Step). is_output_of task s.0 ≡ true) (in_step_order steps))
    (none : step_faults task.outputs [] (placed task.outputs written) ≡ [])
    (leads : LeadTo files (put_over (rest_of task files) (put_over [] (placed task.outputs written))) (in_step_order steps)) where
  abbrev made : Files
  made = put_over [] (placed task.outputs written)

  abbrev rest : Files
  rest = rest_of task files

  abbrev outside : Place → Bool
  outside q = not (is_output_of task q)

  abbrev goes : Place → Option Bytes → Bool
  goes p o = is_place p && not (is_some o)

  abbrev comes : Place → Option Bytes → Bool
  comes p o = is_place p && is_some o

  made_sorted : is_sorted byte_order made ≡ true
  made_sorted = sorted-put_over [] (placed task.outputs written) refl

  -- steps leave the rest as it is
  rest_kept : (xs : List Step) (now : Files) → AllByRecursion (λ (s : Step). is_output_of task s.0 ≡ true) xs → files_where outside now ≡ rest → files_where outside (after_steps now xs) ≡ rest
  rest_kept [] now all is = is
  rest_kept (s ∷ xs) now all is = rest_kept xs (with_left now s.0 s.1) all.1 (files_where-with_left outside now s.0 s.1 (ap not all.0) ∙ is)

  -- if a step had room the rest is not in its way
  room_rest : (xs : List Step) (now : Files) → AllByRecursion (λ (s : Step). is_output_of task s.0 ≡ true) xs → files_where outside now ≡ rest → HasRoom now xs
      → AllByRecursion (λ (s : Step). is_some s.1 ≡ true → is_blocked rest s.0 ≡ false) xs
  room_rest [] now all is room = tt
  room_rest (s ∷ xs) now all is room = (first s.1 refl, room_rest xs (with_left now s.0 s.1) all.1 (files_where-with_left outside now s.0 s.1 (ap not all.0) ∙ is) room.1)
    where
      first : (o : Option Bytes) → s.1 ≡ o → is_some s.1 ≡ true → is_blocked rest s.0 ≡ false
      first None e some = absurd (true≢false (sym some ∙ ap is_some e))
      first (Some b) e some =
          ap (λ (fs : Files). is_blocked fs s.0) (sym is) ∙ blocked_where outside now s.0 (subst (λ o. IsFree now (s.0, o)) e room.0)

  -- what was there is not in the way of the rest
  existed_free : (q : Place) (b : Bytes) → file_at files q ≡ Some b → is_blocked rest q ≡ false
  existed_free q b e = blocked_where outside files q (free_at files q b folder e)

  new_made : (q : Place) (b : Bytes) → file_at made q ≡ Some b → file_at (put_over rest made) q ≡ Some b
  new_made q b e = at-put_over rest made q made_sorted ∙ ap (λ o. or_else o (file_at rest q)) e

  -- what is made was there already, or is put by a step
  came : (q : Place) (b : Bytes) → file_at made q ≡ Some b → (file_at files q ≡ Some b) ⊎ (find byte_order q (kept comes steps) ≡ Some (Some b))
  came q b e = by (find byte_order q steps) (is_place q) refl refl (sym (at_in_execution files steps q sorted) ∙ ap (λ (fs : Files). file_at fs q) leads.reached ∙ new_made q b e)
    where
      by : (o : Option (Option Bytes)) (p : Bool) → find byte_order q steps ≡ o → is_place q ≡ p → cond p (unwrap_or o (file_at files q)) (file_at files q) ≡ Some b
          → (file_at files q ≡ Some b) ⊎ (find byte_order q (kept comes steps) ≡ Some (Some b))
      by o false f at is = inl is
      by None true f at is = inl is
      by (Some None) true f at is = no_some None b refl is
      by (Some (Some x)) true f at is = inr (
          find_kept comes q steps sorted ∙ ap (λ o. unfold_kept o) f ∙ ap (λ p. cond (p && true) (Some (Some x)) None) at ∙ ap (λ y. Some (Some y)) (some_same x b is))
        where
          unfold_kept : Option (Option Bytes) → Option (Option Bytes)
          unfold_kept o = option_and_then (λ v. cond (comes q v) (Some v) None) o

  -- ---- all steps had room

  pub step_free : HasRoom files (in_step_order steps) → step_by task.outputs rest [] (Ok written) ≡ Ok (put_over [] (placed task.outputs written))
  step_free room = free_step task.outputs rest [] written none (none_of (λ (f : Place × Bytes). is_blocked rest f.0) made (all_found (λ (f : Place × Bytes). is_blocked rest f.0 ≡ false) made made_sorted each))
    where
      all : AllByRecursion (λ (s : Step). is_some s.1 ≡ true → is_blocked rest s.0 ≡ false) (kept comes steps)
      all = all_after (λ (s : Step). is_some s.1 ≡ true → is_blocked rest s.0 ≡ false) (kept goes steps) (kept comes steps) (room_rest (in_step_order steps) files at_outputs refl room)

      each : (q : Place) (b : Bytes) → file_at made q ≡ Some b → is_blocked rest q ≡ false
      each q b e = by (came q b e)
        where
          by : (file_at files q ≡ Some b) ⊎ (find byte_order q (kept comes steps) ≡ Some (Some b)) → is_blocked rest q ≡ false
          by (inl existed) = existed_free q b existed
          by (inr comes_there) = found_holds (λ (s : Step). is_some s.1 ≡ true → is_blocked rest s.0 ≡ false) (kept comes steps) q (Some b) all comes_there refl

  -- ---- a step was shut out

  module _ (prefix : List Step) (step : Step) (following : List Step) (all : in_step_order steps ≡ prefix ++ step ∷ following) (room : HasRoom files prefix) (some : is_some step.1 ≡ true)
      (blocked : is_blocked (after_steps files prefix) step.0 ≡ true) where
    going_none : AllByRecursion (λ (x : Step). is_some x.1 ≡ false) (kept goes steps)
    going_none = picked_all (λ (s : Step). goes s.0 s.1) (λ (x : Step). is_some x.1 ≡ false) steps (λ s e. lone (is_some s.1) (right_of (is_place s.0) (not (is_some s.1)) e))
      where
        lone : (b : Bool) → not b ≡ true → b ≡ false
        lone true e = absurd (true≢false (sym e))
        lone false e = refl

    parts : (before : List Step) × (kept comes steps ≡ before ++ step ∷ following) × (prefix ≡ kept goes steps ++ before)
    parts = prefix_comes (kept goes steps) (kept comes steps) prefix step following going_none some all

    coming_some : AllByRecursion (λ (x : Step). is_some x.1 ≡ true) (step ∷ following)
    coming_some = all_after (λ (x : Step). is_some x.1 ≡ true) parts.0 (step ∷ following)
        (subst (λ (xs : List Step). AllByRecursion (λ (x : Step). is_some x.1 ≡ true) xs) parts.1
        (picked_all (λ (s : Step). comes s.0 s.1) (λ (x : Step). is_some x.1 ≡ true) steps (λ s e. right_of (is_place s.0) (is_some s.1) e)))

    each_at : AllByRecursion (λ (s : Step). is_output_of task s.0 ≡ true) (prefix ++ step ∷ following)
    each_at = subst (λ (xs : List Step). AllByRecursion (λ (s : Step). is_output_of task s.0 ≡ true) xs) all at_outputs

    step_at : is_output_of task step.0 ≡ true
    step_at = (all_after (λ (s : Step). is_output_of task s.0 ≡ true) prefix (step ∷ following) each_at).0

    prefix_at : AllByRecursion (λ (s : Step). is_output_of task s.0 ≡ true) prefix
    prefix_at = all_prefix (λ (s : Step). is_output_of task s.0 ≡ true) prefix (step ∷ following) each_at

    abbrev then : Files
    then = after_steps files prefix

    rest_then : files_where outside (after_steps files prefix) ≡ rest
    rest_then = rest_kept prefix files prefix_at refl

    rest_at : (q : Place) → file_at rest q ≡ cond (outside q) (file_at files q) None
    rest_at q = file_at-files_where files outside q

    -- what is new at an output is made
    made_new : (q : Place) (b : Bytes) → is_output_of task q ≡ true → file_at (put_over rest made) q ≡ Some b → file_at made q ≡ Some b
    made_new q b at e = by (file_at made q) (sym (at-put_over rest made q made_sorted ∙ ap (or_else (file_at made q)) (rest_at q ∙ ap (λ t. cond (not t) (file_at files q) None) at)) ∙ e)
      where
        by : (o : Option Bytes) → or_else o None ≡ Some b → o ≡ Some b
        by None is = is
        by (Some x) is = is

    value : (o : Option Bytes) → is_some o ≡ true → (b : Bytes) × (o ≡ Some b)
    value None e = absurd (true≢false (sym e))
    value (Some b) e = (b, refl)

    step_made : file_at made step.0 ≡ Some (value step.1 some).0
    step_made = made_new step.0 (value step.1 some).0 step_at (by (all_after (λ (s : Step). (s.1 ≡ None) ⊎ (s.1 ≡ file_at (put_over rest made) s.0)) prefix (step ∷ following)
        (subst (λ (xs : List Step). AllByRecursion (λ (s : Step). (s.1 ≡ None) ⊎ (s.1 ≡ file_at (put_over rest made) s.0)) xs) all leads.meant)).0)
      where
        by : (step.1 ≡ None) ⊎ (step.1 ≡ file_at (put_over rest made) step.0) → file_at (put_over rest made) step.0 ≡ Some (value step.1 some).0
        by (inl gone) = absurd (true≢false (sym some ∙ ap is_some gone))
        by (inr is) = sym is ∙ (value step.1 some).1

    -- none of the task's own files is in its way
    made_free : is_blocked made step.0 ≡ false
    made_free = found_holds (λ (f : Place × Bytes). is_blocked made f.0 ≡ false) made step.0 (value step.1 some).0
        (free_files_of made made (none_before _ (count_faults task.outputs made) none)) step_made

    -- what is at an output then is made
    then_made : (q : Place) (b : Bytes) → is_output_of task q ≡ true → file_at then q ≡ Some b → is_some (file_at made q) ≡ true
    then_made q b at e =
        let new = value (file_at (put_over rest made) q) (ap (λ (fs : Files). is_some (file_at fs q)) (sym leads.reached ∙ ap (after_steps files) all ∙ after_append files prefix (step ∷ following))
        ∙ stays then (step ∷ following) q coming_some (ap is_some e)) in
        ap is_some (made_new q new.0 at new.1)

    blocked_rest : is_blocked rest step.0 ≡ true
    blocked_rest = by (is_blocked rest step.0) refl
      where
        hits : Place × Bytes → Bool
        hits f = is_beneath step.0 f.0 || is_beneath f.0 step.0

        each : is_blocked rest step.0 ≡ false → (q : Place) (b : Bytes) → file_at then q ≡ Some b → (is_beneath step.0 q || is_beneath q step.0) ≡ false
        each free q b e = at (is_output_of task q) refl
          where
            at : (t : Bool) → is_output_of task q ≡ t → (is_beneath step.0 q || is_beneath q step.0) ≡ false
            at true is = let there = value (file_at made q) (then_made q b is e) in hits_none made step.0 q there.0 made_free there.1
            at false is = hits_none rest step.0 q b free
                (ap (λ (fs : Files). file_at fs q) (sym rest_then) ∙ file_at-files_where then outside q ∙ ap (λ t. cond (not t) (file_at then q) None) is ∙ e)

        by : (b : Bool) → is_blocked rest step.0 ≡ b → b ≡ true
        by true e = refl
        by false e = absurd (true≢false (sym blocked ∙ none_of hits then (all_found (λ (f : Place × Bytes). hits f ≡ false) then (sorted_after files prefix folder.in_order) (each e))))

    pub step_shut_out : step_by task.outputs rest [] (Ok written) ≡ Err (faults.Blocked step.0)
    step_shut_out =
        blocked_step task.outputs rest [] written step.0 none (first_is rest made step.0 (value step.1 some).0 made_sorted step_made blocked_rest before)
      where
        prefix_free : AllByRecursion (λ (s : Step). is_some s.1 ≡ true → is_blocked rest s.0 ≡ false) parts.0
        prefix_free = all_after (λ (s : Step). is_some s.1 ≡ true → is_blocked rest s.0 ≡ false) (kept goes steps) parts.0
            (subst (λ (xs : List Step). AllByRecursion (λ (s : Step). is_some s.1 ≡ true → is_blocked rest s.0 ≡ false) xs) parts.2 (room_rest prefix files prefix_at refl room))

        before : (p : Place) (b : Bytes) → file_at made p ≡ Some b → byte_order p step.0 ≡ Less → is_blocked rest p ≡ false
        before p b e less = by (came p b e)
          where
            by : (file_at files p ≡ Some b) ⊎ (find byte_order p (kept comes steps) ≡ Some (Some b)) → is_blocked rest p ≡ false
            by (inl existed) = existed_free p b existed
            by (inr comes_there) =
                found_holds (λ (s : Step). is_some s.1 ≡ true → is_blocked rest s.0 ≡ false) parts.0 p (Some b) prefix_free
                (found_before parts.0 step following p (Some b) (ap (is_sorted byte_order) (sym parts.1) ∙ sorted_kept comes steps sorted) less
                (ap (find byte_order p) (sym parts.1) ∙ comes_there)) refl
