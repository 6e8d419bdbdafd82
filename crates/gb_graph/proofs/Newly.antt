-- What arguments newly select is what they select.
use Rattle.std.specs.Prelude.{ℕ, zero, suc, ◌≡◌, ◌<◌, ◌≤◌, ◌+◌, Bool, true, false, cond, ◌||◌, List, [], ◌∷◌, ◌++◌, length, get_or, take, bytes_eq, refl, Result, Ok, Err, OnOk}
use Rattle.std.specs.List.{flat_map}
use Rattle.std.specs.Ordering.{eq_by_cmp}
use Rattle.std.specs.Cmp.Lexicographic.{bytes_decides}
use Rattle.std.proofs.Common.{sym, ap, subst, ◌∙◌, arith, append-nil}
use Rattle.std.proofs.lemmas.Grind.{take_at_read}
use Rattle.std.proofs.lemmas.List.{append_assoc}
use Rattle.std.proofs.lemmas.Map.Text.{is_eq-slice_cmp}
use Rattle.gb_core.specs.Lists.{byte_order}
use Rattle.gb_plan.specs.Task.{Text, Path, has_path}
use Rattle.gb_plan.specs.Graph.{Registry, selected_by}
use Rattle.gb_plan.proofs.Tests.{not_true, or_right, itself, turned}
use Rattle.gb_graph.specs.Queue.{added}
use Rattle.gb_graph.specs.Words.{joined_paths, newly_selected, selected_once}
use Rattle.gb_graph.proofs.Numbers.{left_or}
use Rattle.gb_graph.proofs.Queues.{next_queue, added_append, has_push, split_or}
use Rattle.gb_graph.proofs.Selections.{or_none}

-- ---- What is added

module _ (shut : Path → Bool) where
  -- paths that are shut or known add nothing
  added_known : (queue xs : List Path) → ((p : Path) → has_path xs p ≡ true → (shut p || has_path queue p) ≡ true) → added shut queue xs ≡ queue
  added_known queue [] h = refl
  added_known queue (x ∷ xs) h =
      ap (λ b. added shut (cond b queue (queue ++ x ∷ [])) xs) (h x (left_or (bytes_eq x x) (has_path xs x) (itself x)))
      ∙ added_known queue xs (λ p g. h p (or_right (bytes_eq p x) (has_path xs p) g))

  kept_next : (queue : List Path) (x p : Path) → has_path queue p ≡ true → has_path (next_queue shut queue x) p ≡ true
  kept_next queue x p h = elim (shut x || has_path queue x) as (λ b. has_path (cond b queue (queue ++ x ∷ [])) p ≡ true) [
    | true ↦ h
    | false ↦ has_push queue x p ∙ left_or (has_path queue p) (bytes_eq p x) h
  ]

  kept_added : (queue xs : List Path) (p : Path) → has_path queue p ≡ true → has_path (added shut queue xs) p ≡ true
  kept_added queue [] p h = h
  kept_added queue (x ∷ xs) p h = kept_added (next_queue shut queue x) xs p (kept_next queue x p h)

  still_known : (queue xs : List Path) (p : Path) → (shut p || has_path queue p) ≡ true → (shut p || has_path (added shut queue xs) p) ≡ true
  still_known queue xs p h = split_or (shut p) (has_path queue p) h (left_or (shut p) (has_path (added shut queue xs) p)) (λ e. or_right (shut p) (has_path (added shut queue xs) p) (kept_added queue xs p e))

  next_known : (queue : List Path) (x : Path) → (shut x || has_path (next_queue shut queue x) x) ≡ true
  next_known queue x = elim (shut x || has_path queue x) as (λ b. (shut x || has_path queue x) ≡ b → (shut x || has_path (cond b queue (queue ++ x ∷ [])) x) ≡ true) [
    | true ↦ λ e. e
    | false ↦ λ _. or_right (shut x) (has_path (queue ++ x ∷ []) x) (has_push queue x x ∙ or_right (has_path queue x) (bytes_eq x x) (itself x))
  ] refl

  now_known : (queue xs : List Path) (p : Path) → has_path xs p ≡ true → (shut p || has_path (added shut queue xs) p) ≡ true
  now_known queue [] p h = not_true h
  now_known queue (x ∷ xs) p h = split_or (bytes_eq p x) (has_path xs p) h
      (λ e. let same = (bytes_decides p x).0 e in still_known (next_queue shut queue x) xs p (subst (λ q. (shut q || has_path (next_queue shut queue x) q) ≡ true) (sym same) (next_known queue x)))
      (λ e. now_known (next_queue shut queue x) xs p e)

module _ (registry : Registry) where
  abbrev of_word : Text → List Path
  of_word word = selected_by registry word

  -- arguments add to a queue what they newly select
  pub added_newly : (shut : Path → Bool) (before words : List Text) (queue : List Path)
      → ((w : Text) → has_path before w ≡ true → (p : Path) → has_path (of_word w) p ≡ true → (shut p || has_path queue p) ≡ true)
      → added shut queue (joined_paths (newly_selected registry before words)) ≡ added shut queue (flat_map (selected_by registry) words)
  added_newly shut before [] queue known = refl
  added_newly shut before (word ∷ words) queue known =
      elim (has_path before word) as (λ b. has_path before word ≡ b → added shut queue (selected_once registry b word ++ joined_paths (newly_selected registry (before ++ word ∷ []) words)) ≡ added shut queue (of_word word ++ flat_map (selected_by registry) words)) [
        | true ↦ λ e.
            added_newly shut (before ++ word ∷ []) words queue (λ w h p g. split_or (has_path before w) (bytes_eq w word) (sym (has_push before word w) ∙ h)
            (λ k. known w k p g)
            (λ k. known word e p (ap (λ v. has_path (of_word v) p) (sym ((bytes_decides w word).0 k)) ∙ g)))
            ∙ ap (λ q. added shut q (flat_map (selected_by registry) words)) (sym (added_known shut queue (of_word word) (known word e)))
            ∙ sym (added_append shut queue (of_word word) (flat_map (selected_by registry) words))
        | false ↦ λ _.
            added_append shut queue (of_word word) (joined_paths (newly_selected registry (before ++ word ∷ []) words))
            ∙ added_newly shut (before ++ word ∷ []) words (added shut queue (of_word word)) (λ w h p g. split_or (has_path before w) (bytes_eq w word) (sym (has_push before word w) ∙ h)
            (λ k. still_known shut queue (of_word word) p (known w k p g))
            (λ k. now_known shut queue (of_word word) p (ap (λ v. has_path (of_word v) p) (sym ((bytes_decides w word).0 k)) ∙ g)))
            ∙ sym (added_append shut queue (of_word word) (flat_map (selected_by registry) words))
      ] refl

  pub added_none : (shut : Path → Bool) (words : List Text) → added shut [] (joined_paths (newly_selected registry [] words)) ≡ added shut [] (flat_map (selected_by registry) words)
  added_none shut words = added_newly shut [] words [] (λ w h p g. not_true h)

  -- where nothing is shut, all paths are added
  regroup : (a b c : Bool) → ((a || b) || c) ≡ (a || (b || c))
  regroup true b c = refl
  regroup false b c = refl

  absorbed : (a b c : Bool) → (b ≡ true → a ≡ true) → (a || c) ≡ (a || (b || c))
  absorbed true b c h = refl
  absorbed false true c h = not_true (h refl)
  absorbed false false c h = refl

  has_added : (queue xs : List Path) (p : Path) → has_path (added (λ _. false) queue xs) p ≡ (has_path queue p || has_path xs p)
  has_added queue [] p = sym (or_none (has_path queue p))
  has_added queue (x ∷ xs) p =
      elim (has_path queue x) as (λ b. has_path queue x ≡ b → has_path (added (λ _. false) (cond b queue (queue ++ x ∷ [])) xs) p ≡ (has_path queue p || (bytes_eq p x || has_path xs p))) [
        | true ↦ λ e. has_added queue xs p ∙ absorbed (has_path queue p) (bytes_eq p x) (has_path xs p) (λ k. ap (has_path queue) ((bytes_decides p x).0 k) ∙ e)
        | false ↦ λ _. has_added (queue ++ x ∷ []) xs p ∙ (ap (λ b. b || has_path xs p) (has_push queue x p) ∙ regroup (has_path queue p) (bytes_eq p x) (has_path xs p))
      ] refl

  pub has_newly : (words : List Text) (p : Path) → has_path (joined_paths (newly_selected registry [] words)) p ≡ has_path (flat_map (selected_by registry) words) p
  has_newly words p =
      sym (has_added [] (joined_paths (newly_selected registry [] words)) p)
      ∙ (ap (λ q. has_path q p) (added_none (λ _. false) words) ∙ has_added [] (flat_map (selected_by registry) words) p)

  -- ---- Argument by argument

  pub newly_length : (before words : List Text) → length (newly_selected registry before words) ≡ length words
  newly_length before [] = refl
  newly_length before (word ∷ words) = ap suc (newly_length (before ++ word ∷ []) words)

  newly_from : (before words : List Text) (i : ℕ) → i < length words
      → get_or (newly_selected registry before words) i [] ≡ selected_once registry (has_path (before ++ take i words) (get_or words i [])) (get_or words i [])
  newly_from before [] i lt = absurd (omega (arith, lt))
  newly_from before (word ∷ words) zero lt = ap (λ b. selected_once registry (has_path b word) word) (sym (append-nil before))
  newly_from before (word ∷ words) (suc i) lt =
      newly_from (before ++ word ∷ []) words i (omega (arith, lt))
      ∙ ap (λ b. selected_once registry (has_path b (get_or words i [])) (get_or words i [])) (append_assoc before (word ∷ []) (take i words))

  pub newly_at : (words : List Text) (i : ℕ) → i < length words
      → get_or (newly_selected registry [] words) i [] ≡ selected_once registry (has_path (take i words) (get_or words i [])) (get_or words i [])
  newly_at words i lt = newly_from [] words i lt

  -- one argument more
  pub newly_push : (before words : List Text) (word : Text) → newly_selected registry before (words ++ word ∷ []) ≡ newly_selected registry before words ++ selected_once registry (has_path (before ++ words) word) word ∷ []
  newly_push before [] word = ap (λ b. selected_once registry (has_path b word) word ∷ []) (sym (append-nil before))
  newly_push before (first ∷ words) word =
      ap (λ ls. selected_once registry (has_path before first) first ∷ ls)
      (newly_push (before ++ first ∷ []) words word
      ∙ ap (λ b. newly_selected registry (before ++ first ∷ []) words ++ selected_once registry (has_path b word) word ∷ []) (append_assoc before (first ∷ []) words))

-- the first index of the argument at an index
pub record First (words : List Text) (i : ℕ) : Type 0 where
  pub index : ℕ
  pub within : index < length words
  pub upto : index ≤ i
  pub same : get_or words index [] ≡ get_or words i []
  pub fresh : has_path (take index words) (get_or words index []) ≡ false

pub first_index : (words : List Text) (i : ℕ) → i < length words → First words i
first_index [] i lt = absurd (omega (arith, lt))
first_index (w ∷ words) zero lt = record { index = 0; within = omega arith; upto = omega arith; same = refl; fresh = refl }
first_index (w ∷ words) (suc i) lt =
    elim (bytes_eq (get_or words i []) w) as (λ b. bytes_eq (get_or words i []) w ≡ b → First (w ∷ words) (suc i)) [
      | true ↦ λ e. record { index = 0; within = omega arith; upto = omega arith; same = sym ((bytes_decides (get_or words i []) w).0 e); fresh = refl }
      | false ↦ λ e.
          let f = first_index words i (omega (arith, lt)) in
          record {
            index = suc f.index;
            within = omega (arith, f.within);
            upto = omega (arith, f.upto);
            same = f.same;
            fresh = ap (λ b. b || has_path (take f.index words) (get_or words f.index [])) (ap (λ v. bytes_eq v w) f.same ∙ e) ∙ f.fresh;
          }
    ] refl

-- ---- Going on

pub on_ok_so : {X E : Type 0} (r : Result X E) (P : Type 0) → P → OnOk r P
on_ok_so (Ok x) P h = h
on_ok_so (Err e) P h = tt

-- a set with one text more
pub also_known : (old new : Text → Bool) (key word : Text) → key ≡ word → ((text : Text) → new text ≡ cond (eq_by_cmp byte_order key text) true (old text)) → (text : Text) → new text ≡ (old text || bytes_eq text word)
also_known old new key word same next text =
    next text ∙ (ap (λ b. cond b true (old text)) (is_eq-slice_cmp key text) ∙ (cond_or (bytes_eq key text) (old text) ∙ ap (λ b. old text || b) (turned key text ∙ ap (bytes_eq text) same)))
  where
    cond_or : (b c : Bool) → cond b true c ≡ (c || b)
    cond_or true true = refl
    cond_or true false = refl
    cond_or false true = refl
    cond_or false false = refl

pub take_next : (words : List Text) (i : ℕ) (word : Text) → i < length words → word ≡ get_or words i word → take (i + 1) words ≡ take i words ++ word ∷ []
take_next words i word lt is = (take_at_read words i word lt).1 ∙ ap (λ v. take i words ++ v ∷ []) (sym is)

-- a repeated argument has nothing that the arguments before it do not have
pub none_again : {Y : Type 0} (f : Text → List Y) (words : List Text) (word : Text) → flat_map f words ≡ [] → (has_path words word ≡ false → f word ≡ []) → f word ≡ []
none_again f words word none fresh = elim (has_path words word) as (λ b. has_path words word ≡ b → f word ≡ []) [
  | true ↦ λ e. among words none e
  | false ↦ λ e. fresh e
] refl
  where
    empty_prefix : {X : Type 0} (xs ys : List X) → xs ++ ys ≡ [] → xs ≡ []
    empty_prefix [] ys e = refl
    empty_prefix (x ∷ xs) ys e = absurd (let long = ap length e in omega (arith, long))

    empty_back : {X : Type 0} (xs ys : List X) → xs ++ ys ≡ [] → ys ≡ []
    empty_back [] ys e = e
    empty_back (x ∷ xs) ys e = absurd (let long = ap length e in omega (arith, long))

    among : (ws : List Text) → flat_map f ws ≡ [] → has_path ws word ≡ true → f word ≡ []
    among [] e h = not_true h
    among (w ∷ ws) e h = split_or (bytes_eq word w) (has_path ws word) h
        (λ k. ap f ((bytes_decides word w).0 k) ∙ empty_prefix (f w) (flat_map f ws) e)
        (λ k. among ws (empty_back (f w) (flat_map f ws) e) k)
