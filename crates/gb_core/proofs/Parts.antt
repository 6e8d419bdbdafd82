-- The parts of a task's path.
use Rattle.std.proofs.Common.{◌≡◌, ℕ, zero, suc, ◌+◌, ◌-◌, ◌<◌, ◌≤◌, ◌⊎◌, inl, inr, Bool, true, false, not, ◌&&◌, ◌||◌, eqb, List, [], ◌∷◌, ◌++◌, length, take, drop, get_or, refl, ap, sym, ◌∙◌, subst, true≢false, arith, length-append}
use Rattle.std.specs.Prelude.{All, IsTrue, codes, bytes_eq, if◌then◌else◌}
use Rattle.std.specs.List.{list_all, slice_split, after_last, before_last, suffix_len}
use Rattle.std.proofs.Math.Seq.{drop-append-add, take-append_seam, get_or-append_seam}
use Rattle.std.proofs.lemmas.List.{get_or-append_right}
use Rattle.std.proofs.lemmas.List.Folds.{list_all-append}
use Rattle.std.proofs.lemmas.List.Sums.{suffix_len_is}
use Rattle.std.proofs.lemmas.List.Splits.{slice_split_none}
use Rattle.std.proofs.lemmas.Bool.{eqb-true}
use Rattle.std.proofs.lemmas.Slice.Eq.{bytes_eq-Decides}
use Rattle.gb_core.specs.Name.{is_name, is_name_byte}
use Rattle.gb_core.specs.Path.{is_project_path, is_task_path, project_of, root_if_empty, task_in, task_name}
use Rattle.gb_core.proofs.Splits.{parts-joined}
use Rattle.gb_core.proofs.TaskPaths.{in_root, left_of, right_of, name_byte, letter_byte, name_bytes}

abbrev is_colon : ℕ → Bool
is_colon b = eqb b 58

-- no byte is a colon
abbrev HasNone : List ℕ → Type 0
HasNone text = All (λ b. is_colon b ≡ false) text

none_of_bytes : (text : List ℕ) → list_all is_name_byte text ≡ true → HasNone text
none_of_bytes [] h k d below = absurd (omega (arith, below))
none_of_bytes (c ∷ text) h zero d below = name_byte c (left_of (is_name_byte c) (list_all is_name_byte text) h)
none_of_bytes (c ∷ text) h (suc k) d below = none_of_bytes text (right_of (is_name_byte c) (list_all is_name_byte text) h) k d (omega (arith, below))

none_in_name : (text : List ℕ) → is_name text ≡ true → HasNone text
none_in_name [] h k d below = absurd (omega (arith, below))
none_in_name (c ∷ text) h zero d below = letter_byte c (name_bytes c text h).0
none_in_name (c ∷ text) h (suc k) d below = none_of_bytes text (name_bytes c text h).1 k d (omega (arith, below))

-- a text has no colon, or splits at its last one
abbrev IsCut : List ℕ → Type 0
IsCut text = HasNone text ⊎ ((prefix : List ℕ) × (back : List ℕ) × (text ≡ prefix ++ 58 ∷ back) × HasNone back)

none_after : (c : ℕ) (text : List ℕ) → is_colon c ≡ false → HasNone text → HasNone (c ∷ text)
none_after c text e h zero d below = e
none_after c text e h (suc k) d below = h k d (omega (arith, below))

cut_after : (c : ℕ) (text : List ℕ) (b : Bool) → is_colon c ≡ b → IsCut text → IsCut (c ∷ text)
cut_after c text b e (inr (prefix, back, same, none)) = inr (c ∷ prefix, back, ap (λ xs. c ∷ xs) same, none)
cut_after c text true e (inl none) = inr ([], text, ap (λ d. d ∷ text) (eqb-true c 58 e), none)
cut_after c text false e (inl none) = inl (none_after c text e none)

cut : (text : List ℕ) → IsCut text
cut [] = inl (λ k d below. absurd (omega (arith, below)))
cut (c ∷ text) = cut_after c text (is_colon c) refl (cut text)

module _ (prefix back : List ℕ) (none : HasNone back) where
  following : (k : ℕ) → length prefix + 1 ≤ k → k < length (prefix ++ 58 ∷ back) → not (is_colon (get_or (prefix ++ 58 ∷ back) k 0)) ≡ true
  following k from below =
      let index : k - length prefix ≡ suc (k - length prefix - 1) = omega (arith, from) in
      let short : k - length prefix - 1 < length back = omega (arith, from, below, length-append prefix (58 ∷ back)) in
      ap (λ b. not (is_colon b)) (get_or-append_right prefix (58 ∷ back) (length prefix) k 0 refl (omega (arith, from)) ∙ ap (λ n. get_or (58 ∷ back) n 0) index)
      ∙ ap not (none (k - length prefix - 1) 0 short)

  suffix : suffix_len (λ b. not (is_colon b)) (prefix ++ 58 ∷ back) ≡ length (prefix ++ 58 ∷ back) - (length prefix + 1)
  suffix =
      suffix_len_is (λ b. not (is_colon b)) (prefix ++ 58 ∷ back) (length prefix + 1) 0 (omega (arith, length-append prefix (58 ∷ back))) following
      (λ p. ap (λ n. not (is_colon (get_or (prefix ++ 58 ∷ back) n 0))) (let e : (length prefix + 1) - 1 ≡ length prefix = omega arith in e) ∙ ap (λ b. not (is_colon b)) (get_or-append_seam prefix 58 back 0))

  -- the parts before and after the last colon
  pub before : before_last is_colon (prefix ++ 58 ∷ back) ≡ prefix
  before =
      let count : length (prefix ++ 58 ∷ back) - suffix_len (λ b. not (is_colon b)) (prefix ++ 58 ∷ back) - 1 ≡ length prefix = omega (arith, suffix, length-append prefix (58 ∷ back)) in
      ap (λ n. take n (prefix ++ 58 ∷ back)) count ∙ take-append_seam prefix (58 ∷ back)

  pub after : after_last is_colon (prefix ++ 58 ∷ back) ≡ back
  after =
      let count : length (prefix ++ 58 ∷ back) - suffix_len (λ b. not (is_colon b)) (prefix ++ 58 ∷ back) ≡ length prefix + 1 = omega (arith, suffix, length-append prefix (58 ∷ back)) in
      ap (λ n. drop n (prefix ++ 58 ∷ back)) count ∙ drop-append-add prefix (58 ∷ back) 1

abbrev HasParts : List ℕ → Type 0
HasParts path = IsTrue (is_project_path (project_of path)) × IsTrue (is_name (task_name path)) × (task_in (project_of path) (task_name path) ≡ path)

abbrev AreParts : List ℕ → List ℕ → List ℕ → Type 0
AreParts path project name = IsTrue (is_task_path path) × (project_of path ≡ project) × (task_name path ≡ name)

around : (prefix back : List ℕ) → HasNone back → is_project_path (root_if_empty prefix) ≡ true → is_name back ≡ true → task_in (root_if_empty prefix) back ≡ prefix ++ 58 ∷ back → HasParts (prefix ++ 58 ∷ back)
around prefix back none project name again =
    let at_prefix : project_of (prefix ++ 58 ∷ back) ≡ root_if_empty prefix = ap root_if_empty (before prefix back none) in
    let at_back : task_name (prefix ++ 58 ∷ back) ≡ back = after prefix back none in (
      subst (λ x. is_project_path x ≡ true) (sym at_prefix) project,
      subst (λ x. is_name x ≡ true) (sym at_back) name,
      ap (λ x. task_in x (task_name (prefix ++ 58 ∷ back))) at_prefix ∙ ap (task_in (root_if_empty prefix)) at_back ∙ again,
    )

or_right : (a b : Bool) → b ≡ true → (a || b) ≡ true
or_right true b h = refl
or_right false b h = h

-- the names of a text are those before a colon and the one after it
names-joined : (prefix back : List ℕ) → HasNone back → list_all is_name (slice_split is_colon (prefix ++ 58 ∷ back)) ≡ (list_all is_name (slice_split is_colon prefix) && (is_name back && true))
names-joined prefix back none =
    ap (list_all is_name) (parts-joined 58 prefix back ∙ ap (λ parts. slice_split is_colon prefix ++ parts) (slice_split_none is_colon back none))
    ∙ list_all-append is_name (slice_split is_colon prefix) (back ∷ [])

no_root : (prefix back : List ℕ) → list_all is_name (slice_split is_colon prefix) ≡ true → task_in (58 ∷ prefix) back ≡ (58 ∷ prefix) ++ 58 ∷ back
no_root [] back h = absurd (true≢false (sym h))
no_root (c ∷ prefix) back h = refl

parts_of_text : (text : List ℕ) → list_all is_name (slice_split is_colon text) ≡ true → IsCut text → HasParts (58 ∷ text)
parts_of_text text h (inl none) =
    around [] text none refl (left_of (is_name text) true (sym (ap (list_all is_name) (slice_split_none is_colon text none)) ∙ h)) refl
parts_of_text text h (inr (prefix, back, same, none)) =
    let both : (list_all is_name (slice_split is_colon prefix) && (is_name back && true)) ≡ true = sym (names-joined prefix back none) ∙ ap (λ t. list_all is_name (slice_split is_colon t)) (sym same) ∙ h in
    let names : list_all is_name (slice_split is_colon prefix) ≡ true = left_of (list_all is_name (slice_split is_colon prefix)) (is_name back && true) both in
    let name : is_name back ≡ true = left_of (is_name back) true (right_of (list_all is_name (slice_split is_colon prefix)) (is_name back && true) both) in
    subst (λ t. HasParts (58 ∷ t)) (sym same) (around (58 ∷ prefix) back none (or_right (bytes_eq (58 ∷ prefix) (codes ":")) (is_task_path (58 ∷ prefix)) names) name (no_root prefix back names))

pub has_parts : (path : List ℕ) → is_task_path path ≡ true → HasParts path
has_parts [] h = absurd (true≢false (sym h))
has_parts (c ∷ text) h =
    subst (λ d. HasParts (d ∷ text)) (sym (eqb-true c 58 (left_of (eqb c 58) (list_all is_name (slice_split is_colon text)) h)))
    (parts_of_text text (right_of (eqb c 58) (list_all is_name (slice_split is_colon text)) h) (cut text))

root_parts : (project name : List ℕ) → project ≡ codes ":" → is_name name ≡ true → AreParts (58 ∷ name) project name
root_parts project name same h =
    let none : HasNone name = none_in_name name h in
    (in_root name h, ap root_if_empty (before [] name none) ∙ sym same, after [] name none)

inner_parts : (project name : List ℕ) → is_task_path project ≡ true → is_name name ≡ true → AreParts (project ++ 58 ∷ name) project name
inner_parts [] name p h = absurd (true≢false (sym p))
inner_parts (c ∷ prefix) name p h =
    let none : HasNone name = none_in_name name h in
    let colon : eqb c 58 ≡ true = left_of (eqb c 58) (list_all is_name (slice_split is_colon prefix)) p in
    let names : list_all is_name (slice_split is_colon prefix) ≡ true = right_of (eqb c 58) (list_all is_name (slice_split is_colon prefix)) p in (
      ap (λ b. b && list_all is_name (slice_split is_colon (prefix ++ 58 ∷ name))) colon ∙ names-joined prefix name none ∙ ap (λ b. b && (is_name name && true)) names ∙ ap (λ b. b && true) h,
      ap root_if_empty (before (c ∷ prefix) name none),
      after (c ∷ prefix) name none,
    )

by_root : (project name : List ℕ) (b : Bool) → bytes_eq project (codes ":") ≡ b → (b || is_task_path project) ≡ true → is_name name ≡ true → AreParts (if b then 58 ∷ name else project ++ 58 ∷ name) project name
by_root project name true e p h = root_parts project name ((bytes_eq-Decides project (codes ":")).0 e) h
by_root project name false e p h = inner_parts project name p h

pub parts_make : (project name : List ℕ) → is_project_path project ≡ true → is_name name ≡ true → AreParts (task_in project name) project name
parts_make project name p h = by_root project name (bytes_eq project (codes ":")) refl p h
