-- Places by their segments and by their bytes.
use Rattle.std.proofs.Common.{◌≡◌, ℕ, Bool, true, false, ◌&&◌, ◌||◌, ◌⊎◌, inl, inr, nat_eq, IsTrue, List, [], ◌∷◌, ◌++◌, refl, ap, sym, ◌∙◌, subst, append_assoc}
use Rattle.std.specs.List.{starts_with, join_with_byte}
use Rattle.std.specs.Str.{bytes_eq}
use Rattle.std.proofs.lemmas.Bool.{eqb-true, eq-eqb}
use Rattle.std.proofs.lemmas.Slice.Eq.{bytes_eq-Decides}
use Rattle.std.proofs.lemmas.List.Splits.{join_with_byte-slice_split}
use Rattle.gb_core.proofs.Splits.{has_first, parts-joined}
use Rattle.gb_core.specs.Place.{segments, is_beneath, is_under, overlaps, IsBeneath, Overlap}

pub segments-joined : (folder text : List ℕ) → segments (folder ++ 47 ∷ text) ≡ segments folder ++ segments text
segments-joined = parts-joined 47

same_prefix : (c d : ℕ) (b : Bool) (text prefix : List ℕ) → nat_eq d c ≡ b → IsTrue (b && starts_with nat_eq text prefix) → ((rest : List ℕ) × (text ≡ prefix ++ rest)) → (rest : List ℕ) × (c ∷ text ≡ d ∷ prefix ++ rest)
same_prefix c d true text prefix same h r = (r.0, ap (λ x. x ∷ text) (sym (eqb-true d c same)) ∙ ap (λ xs. d ∷ xs) r.1)
same_prefix c d false text prefix same h r = absurd (cc)

rest_starts : (b c : Bool) → IsTrue (b && c) → IsTrue c
rest_starts true c h = h
rest_starts false c h = absurd (cc)

-- a text that starts with another is that and a rest
pub begins : (text prefix : List ℕ) → IsTrue (starts_with nat_eq text prefix) → (rest : List ℕ) × (text ≡ prefix ++ rest)
begins text [] h = (text, refl)
begins [] (d ∷ prefix) h = absurd (cc)
begins (c ∷ text) (d ∷ prefix) h = same_prefix c d (nat_eq d c) text prefix refl h (begins text prefix (rest_starts (nat_eq d c) (starts_with nat_eq text prefix) h))

begun : (prefix rest : List ℕ) → IsTrue (starts_with nat_eq (prefix ++ rest) prefix)
begun [] rest = refl
begun (c ∷ prefix) rest = subst (λ b. IsTrue (b && starts_with nat_eq (prefix ++ rest) prefix)) (sym (eq-eqb c c refl)) (begun prefix rest)

join-append : (first : List ℕ) (parts : List (List ℕ)) (next : List ℕ) (more : List (List ℕ)) → join_with_byte 47 ((first ∷ parts) ++ next ∷ more) ≡ join_with_byte 47 (first ∷ parts) ++ 47 ∷ join_with_byte 47 (next ∷ more)
join-append first [] next more = refl
join-append first (second ∷ parts) next more =
    ap (λ xs. first ++ 47 ∷ xs) (join-append second parts next more)
    ∙ sym (append_assoc first (47 ∷ join_with_byte 47 (second ∷ parts)) (47 ∷ join_with_byte 47 (next ∷ more)))

pub beneath-to_segments : (place folder : List ℕ) → IsTrue (is_beneath place folder) → IsBeneath place folder
beneath-to_segments place folder h =
    let r = begins place (folder ++ 47 ∷ []) h in
    let f = has_first 47 r.0 in
    (f.0, f.1, ap segments (r.1 ∙ append_assoc folder (47 ∷ []) r.0) ∙ segments-joined folder r.0 ∙ ap (λ parts. segments folder ++ parts) f.2)

pub beneath-from_segments : (place folder : List ℕ) → IsBeneath place folder → IsTrue (is_beneath place folder)
beneath-from_segments place folder (next, more, same) =
    let f = has_first 47 folder in
    let whole : place ≡ (folder ++ 47 ∷ []) ++ join_with_byte 47 (next ∷ more) =
    sym (join_with_byte-slice_split 47 place) ∙ ap (join_with_byte 47) same
    ∙ ap (λ parts. join_with_byte 47 (parts ++ next ∷ more)) f.2 ∙ join-append f.0 f.1 next more
    ∙ ap (λ text. text ++ 47 ∷ join_with_byte 47 (next ∷ more)) (ap (join_with_byte 47) (sym f.2) ∙ join_with_byte-slice_split 47 folder)
    ∙ sym (append_assoc folder (47 ∷ []) (join_with_byte 47 (next ∷ more))) in
    subst (λ text. IsTrue (is_beneath text folder)) (sym whole) (begun (folder ++ 47 ∷ []) (join_with_byte 47 (next ∷ more)))

either : (a b : Bool) → IsTrue (a || b) → IsTrue a ⊎ IsTrue b
either true b h = inl refl
either false b h = inr h

left_of : (a b : Bool) → IsTrue a → IsTrue (a || b)
left_of true b h = refl
left_of false b h = absurd (cc)

right_of : (a b : Bool) → IsTrue b → IsTrue (a || b)
right_of true b h = refl
right_of false b h = h

equal_bytes : (a b : List ℕ) → IsTrue (bytes_eq a b) → a ≡ b
equal_bytes a b h = (bytes_eq-Decides a b).0 h

bytes_equal : (a b : List ℕ) → a ≡ b → IsTrue (bytes_eq a b)
bytes_equal a b e = (bytes_eq-Decides a b).1 e

pub overlap-to_segments : (a b : List ℕ) → IsTrue (overlaps a b) → Overlap a b
overlap-to_segments a b h = elim (either (is_under a b) (is_under b a) h) [
  | inl under ↦ elim (either (bytes_eq a b) (is_beneath a b) under) [
    | inl same ↦ inl (equal_bytes a b same)
    | inr below ↦ inr (inl (beneath-to_segments a b below))
  ]
  | inr over ↦ elim (either (bytes_eq b a) (is_beneath b a) over) [
    | inl same ↦ inl (sym (equal_bytes b a same))
    | inr below ↦ inr (inr (beneath-to_segments b a below))
  ]
]

pub overlap-from_segments : (a b : List ℕ) → Overlap a b → IsTrue (overlaps a b)
overlap-from_segments a b (inl same) = left_of (is_under a b) (is_under b a) (left_of (bytes_eq a b) (is_beneath a b) (bytes_equal a b same))
overlap-from_segments a b (inr (inl below)) = left_of (is_under a b) (is_under b a) (right_of (bytes_eq a b) (is_beneath a b) (beneath-from_segments a b below))
overlap-from_segments a b (inr (inr below)) = right_of (is_under a b) (is_under b a) (right_of (bytes_eq b a) (is_beneath b a) (beneath-from_segments b a below))
