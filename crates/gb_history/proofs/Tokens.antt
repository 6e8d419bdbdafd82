-- Tokens that are written one after another, and lists an element at a time.
use Rattle.std.proofs.Common.{◌≡◌, ℕ, ◌+◌, ◌<◌, List, ◌++◌, length, get_or, drop, map, sym, ap, ◌∙◌, add-one, drop-cons, append_assoc}
use Rattle.std.specs.Prelude.{Result, Ok, Err, OnOk}
use Rattle.json.specs.Token.{Token}
use Rattle.json.specs.Tree.{items_tokens}
use Rattle.serde_json.specs.Data.{Data}
use Rattle.serde_json.specs.View.{items_of}
use Rattle.serde_json.specs.Written.{items_outline}
use Rattle.gb_history.specs.Tokens.{data_tokens}

-- what is left to write of a list, with the bracket that closes it
abbrev pub rest_tokens : {X : Type 0} → (X → Data) → List X → List Token
rest_tokens f xs = items_tokens (items_outline (items_of (map f xs)))

-- one more element written
pub item_written : {X : Type 0} (f : X → Data) (xs : List X) (i : ℕ) (d : X) (now next whole : List Token) → i < length xs
    → next ≡ now ++ data_tokens (f (get_or xs i d)) → now ++ rest_tokens f (drop i xs) ≡ whole → next ++ rest_tokens f (drop (i + 1) xs) ≡ whole
item_written f xs i d now next whole h here done =
    rw (add-one, here) (append_assoc now _ _ ∙ ap (λ (ys : List _). now ++ rest_tokens f ys) (sym (drop-cons xs i d h)) ∙ done)

-- what is written after other tokens
pub following : {T E : Type 0} (r : Result T E) (old now new first later : List Token) → now ≡ old ++ first → OnOk r (new ≡ now ++ later) → OnOk r (new ≡ old ++ (first ++ later))
following (Ok t) old now new first later e h = h ∙ ap (λ ts. ts ++ later) e ∙ append_assoc old first later
following (Err x) old now new first later e h = tt

pub on_ok : {T E : Type 0} (r : Result T E) {P : Type 0} → P → OnOk r P
on_ok (Ok t) p = p
on_ok (Err e) p = tt
