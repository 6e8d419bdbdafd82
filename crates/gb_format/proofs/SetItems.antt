-- Comments and tokens written one after another.
use Rattle.std.proofs.Common.{◌≡◌, ℕ, suc, ◌+◌, ◌-◌, ◌<◌, List, [], ◌∷◌, ◌++◌, length, take, drop, get_or, refl, sym, ap, ◌∙◌, append_assoc, arith}
use Rattle.std.proofs.lemmas.List.{length-drop}
use Rattle.std.proofs.Math.Seq.{drop-cons, take-length}
use Rattle.gb_format.specs.Layout.{gap_of}
use Rattle.gb_format.specs.Kinds.{kind_of}
use Rattle.gb_format.specs.Fits.{texts_of}
use Rattle.gb_format.specs.Rules.{step, first_state}
use Rattle.gb_format.specs.declared.fits.Item.{Item}
use Rattle.gb_format.specs.declared.kind.Kind.{Kind}
use Rattle.gb_format.specs.declared.kind.Kind.TheVariants as kinds
use Rattle.gb_format.specs.declared.rule.Spacing.TheVariants.{Beside}
use Rattle.gb_format.specs.declared.state.State.{State}
use Rattle.gb_format.specs.declared.state.Advance.{Advance}
use Rattle.gb_format.specs.Shown.{Shown, texts, shown, mended, typeset_from, typeset}

texts_shown : (items : List Item) → texts_of items ≡ texts (shown items)
texts_shown [] = refl
texts_shown (i ∷ items) = ap (λ (l : List (List ℕ)). i.text.now ∷ l) (texts_shown items)

next_is : (items : List Item) (i : ℕ) (d : Item) → i < length items → drop i items ≡ get_or items i d ∷ drop (i + 1) items
next_is items i d h =
    let more : suc i ≡ i + 1 = omega arith in
    drop-cons items i d h ∙ ap (λ n. get_or items i d ∷ drop n items) more

rest_is : (items : List Item) (i : ℕ) → take (length items - (i + 1)) (drop (i + 1) items) ≡ drop (i + 1) items
rest_is items i = ap (λ n. take n (drop (i + 1) items)) (sym (length-drop (i + 1) items)) ∙ take-length (drop (i + 1) items)

abbrev one_set : State → Kind → Item → Advance → Shown → List ℕ
one_set s k x next more = gap_of (mended k next.rule (kind_of x.text.now)) x.spacing ++ (x.text.now ++ typeset_from next.state (kind_of x.text.now) more)

pub set_one : (total out new : List ℕ) (s : State) (k after : Kind) (items : List Item) (i : ℕ) (d : Item) (next : Advance) → i < length items → next ≡ step s k (get_or items i d).spacing (get_or items i d).text.now (texts_of (take (length items - (i + 1)) (drop (i + 1) items))) → new ≡ out ++ (gap_of (mended k next.rule (kind_of (get_or items i d).text.now)) (get_or items i d).spacing ++ (get_or items i d).text.now) → after ≡ kind_of (get_or items i d).text.now → out ++ typeset_from s k (shown (drop i items)) ≡ total → new ++ typeset_from next.state after (shown (drop (i + 1) items)) ≡ total
set_one total out new s k after items i d next h n w a so_far =
    let x = get_or items i d in
    let more = shown (drop (i + 1) items) in
    let gap = gap_of (mended k next.rule (kind_of x.text.now)) x.spacing in
    let rest = typeset_from next.state (kind_of x.text.now) more in
    let now : next ≡ step s k x.spacing x.text.now (texts more) = n ∙ ap (step s k x.spacing x.text.now) (ap texts_of (rest_is items i) ∙ texts_shown (drop (i + 1) items)) in
    ap (λ (l : List ℕ). l ++ typeset_from next.state after more) w
    ∙ ap (λ (j : Kind). (out ++ (gap ++ x.text.now)) ++ typeset_from next.state j more) a
    ∙ append_assoc out (gap ++ x.text.now) rest
    ∙ ap (λ (l : List ℕ). out ++ l) (append_assoc gap x.text.now rest)
    ∙ ap (λ (j : Advance). out ++ one_set s k x j more) now
    ∙ ap (λ (l : List Item). out ++ typeset_from s k (shown l)) (sym (next_is items i d h))
    ∙ so_far

pub set_all : (empty out new last : List ℕ) (items : List Item) (d : Item) (begun : State) (start : Advance) (k : Kind) → 0 < length items → begun ≡ first_state → start ≡ step begun kinds.Sign Beside (get_or items 0 d).text.now (texts_of (take (length items - 1) (drop 1 items))) → k ≡ kind_of (get_or items 0 d).text.now → empty ≡ [] → out ≡ empty ++ (get_or items 0 d).text.now → new ≡ out ++ typeset_from start.state k (shown (take (length items - 1) (drop 1 items))) → last ≡ new ++ 10 ∷ [] → last ≡ typeset (shown items)
set_all empty out new last items d begun start k some b s a e o n l =
    let x = get_or items 0 d in
    let cut = take (length items - 1) (drop 1 items) in
    let rest = drop 1 items in
    l
    ∙ ap (λ (t : List ℕ). t ++ 10 ∷ []) (n ∙ ap (λ (t : List ℕ). t ++ typeset_from start.state k (shown cut)) (o ∙ ap (λ (t : List ℕ). t ++ x.text.now) e))
    ∙ append_assoc x.text.now (typeset_from start.state k (shown cut)) (10 ∷ [])
    ∙ ap (λ (j : Kind). x.text.now ++ (typeset_from start.state j (shown cut) ++ 10 ∷ [])) a
    ∙ ap (λ (j : Advance). x.text.now ++ (typeset_from j.state (kind_of x.text.now) (shown cut) ++ 10 ∷ [])) (s ∙ ap (λ (t : State). step t kinds.Sign Beside x.text.now (texts_of cut)) b ∙ ap (step first_state kinds.Sign Beside x.text.now) (texts_shown cut))
    ∙ ap (λ (y : List Item). typeset (shown (x ∷ y))) (rest_is items 0)
    ∙ ap (λ (y : List Item). typeset (shown y)) (sym (next_is items 0 d some))
