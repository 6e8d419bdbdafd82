-- Texts that are no task paths.
use Rattle.std.proofs.Common.{◌≡◌, ◌≢◌, ℕ, Bool, true, false, cond, ◌&&◌, eqb, List, [], ◌∷◌, length, refl, ap, sym, ◌∙◌, true≢false}
use Rattle.std.specs.Prelude.{nat_le}
use Rattle.std.specs.List.{list_all, slice_split, onto_first}
use Rattle.std.proofs.lemmas.Bool.{ne_eqb}
use Rattle.gb_core.specs.Name.{is_name, is_name_byte, is_letter}
use Rattle.gb_core.specs.Path.{is_task_path}

pub no_colon : (text : List ℕ) → ((rest : List ℕ) → text ≢ 58 ∷ rest) → false ≡ is_task_path text
no_colon [] h = refl
no_colon (c ∷ text) h = ap (λ b. b && list_all is_name (slice_split (λ b. eqb b 58) text)) (sym (ne_eqb c 58 (λ e. h text (ap (λ d. d ∷ text) e))))

pub name_byte : (c : ℕ) → is_name_byte c ≡ true → eqb c 58 ≡ false
name_byte c h = ne_eqb c 58 (λ e. true≢false (sym h ∙ ap is_name_byte e))

pub letter_byte : (c : ℕ) → is_letter c ≡ true → eqb c 58 ≡ false
letter_byte c h = ne_eqb c 58 (λ e. true≢false (sym h ∙ ap is_letter e))

pub left_of : (a b : Bool) → (a && b) ≡ true → a ≡ true
left_of true b e = refl
left_of false b e = e

pub right_of : (a b : Bool) → (a && b) ≡ true → b ≡ true
right_of true b e = e
right_of false b e = absurd (true≢false (sym e))

-- a split at colons of bytes of names is the one part
one_part : (text : List ℕ) → list_all is_name_byte text ≡ true → slice_split (λ b. eqb b 58) text ≡ text ∷ []
one_part [] h = refl
one_part (c ∷ text) h =
    ap (λ b. cond b ([] ∷ slice_split (λ b. eqb b 58) text) (onto_first c (slice_split (λ b. eqb b 58) text))) (name_byte c (left_of (is_name_byte c) (list_all is_name_byte text) h))
    ∙ ap (onto_first c) (one_part text (right_of (is_name_byte c) (list_all is_name_byte text) h))

and_assoc : (a b d : Bool) → (a && b && d) ≡ true → (a && (b && d)) ≡ true
and_assoc true b d e = e
and_assoc false b d e = e

-- after its first letter a name has bytes of names
pub name_bytes : (c : ℕ) (text : List ℕ) → is_name (c ∷ text) ≡ true → (is_letter c ≡ true) × (list_all is_name_byte text ≡ true)
name_bytes c text h =
    let whole : (is_letter c && (list_all is_name_byte text && nat_le (length text) 63)) ≡ true = and_assoc (is_letter c) (list_all is_name_byte text) (nat_le (length text) 63) h in (
      left_of (is_letter c) (list_all is_name_byte text && nat_le (length text) 63) whole,
      left_of (list_all is_name_byte text) (nat_le (length text) 63) (right_of (is_letter c) (list_all is_name_byte text && nat_le (length text) 63) whole),
    )

pub in_root : (name : List ℕ) → is_name name ≡ true → is_task_path (58 ∷ name) ≡ true
in_root [] h = absurd (true≢false (sym h))
in_root (c ∷ text) h =
    let bytes = name_bytes c text h in
    ap (list_all is_name)
    (ap (λ b. cond b ([] ∷ slice_split (λ b. eqb b 58) text) (onto_first c (slice_split (λ b. eqb b 58) text))) (letter_byte c bytes.0)
    ∙ ap (onto_first c) (one_part text bytes.1))
    ∙ ap (λ b. b && true) h
