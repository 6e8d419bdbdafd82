-- Lists compared place by place, an element at a time.
use Rattle.std.proofs.Common.{◌≡◌, ℕ, ◌+◌, ◌<◌, List, [], ◌∷◌, ◌++◌, length, get_or, take, sym, ap, ap₂, ◌∙◌, arith, append-nil}
use Rattle.std.specs.List.{AllZip, flat_map, zip}
use Rattle.std.proofs.Math.Seq.{take-length}
use Rattle.std.proofs.lemmas.List.{take_more}
use Rattle.std.proofs.lemmas.List.Elements.{AllZip-push}
use Rattle.std.proofs.lemmas.Slice.Zip.{get_or-zip, length-zip}
use Rattle.std.proofs.lemmas.Grind.{flat_map-append}

-- one more pair of elements is related
pub all_zip_one_more : {X : Type 0} (R : X → X → Type 0) (xs ys : List X) (i : ℕ) (x y : X) → i < length xs → i < length ys
    → x ≡ get_or xs i x → y ≡ get_or ys i y → AllZip R (take i xs) (take i ys) → R x y → AllZip R (take (i + 1) xs) (take (i + 1) ys)
all_zip_one_more R xs ys i x y low high at to all here =
    rw (take_more xs i x low, take_more ys i y high, ← at, ← to) (AllZip-push R (take i xs) (take i ys) x y all here)

-- one more pair of elements is mapped
pub reported_one_more : {X Y : Type 0} (f : X × X → List Y) (xs ys : List X) (i : ℕ) (x y : X) → i < length xs → length xs ≡ length ys
    → x ≡ get_or xs i x → y ≡ get_or ys i y → (out more : List Y) → out ≡ flat_map f (take i (zip xs ys)) → more ≡ out ++ f (x, y)
    → more ≡ flat_map f (take (i + 1) (zip xs ys))
reported_one_more {Y = Y} f xs ys i x y low long at to out more done here =
    let high : i < length ys = omega arith in
    let both : i < length (zip xs ys) = omega (arith, length-zip xs ys) in
    let pair : get_or (zip xs ys) i (x, y) ≡ (x, y) = get_or-zip xs ys i (x, y) low high ∙ ap₂ (λ a b. (a, b)) (sym at) (sym to) in
    let Z = zip xs ys in
    let p = get_or Z i (x, y) in
    here ∙ ap₂ (λ (a b : List Y). a ++ b) done (ap f (sym pair) ∙ sym (append-nil (f p)))
    ∙ sym (flat_map-append f (take i Z) (p ∷ []))
    ∙ ap (flat_map f) (sym (take_more Z i (x, y) both))

-- all pairs of two lists of one length
pub all_pairs : {X : Type 0} (xs ys : List X) (i : ℕ) → length xs ≡ length ys → i ≡ length xs → take i (zip xs ys) ≡ zip xs ys
all_pairs xs ys i long all =
    let same : i ≡ length (zip xs ys) = omega (arith, length-zip xs ys) in
    rw same (take-length (zip xs ys))
