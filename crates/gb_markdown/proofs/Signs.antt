-- How often a sign is on a page.
use Rattle.std.proofs.Common.{◌≡◌, ℕ, ◌+◌, ◌*◌, ◌==◌, arith, Bool, true, false, cond, if◌then◌else◌}
use Rattle.std.proofs.Common.{List}
use Rattle.std.proofs.Common.{[], ◌∷◌, ◌++◌, codes, length, suc, refl, ap, sym, ◌∙◌}
use Rattle.std.specs.List.{count_by, flat_map, sum_by}
use Rattle.std.proofs.lemmas.List.Sums.{sum_by-append}
use Rattle.gb_markdown.specs.declared.rendered.Element.{Element}
use Rattle.gb_markdown.specs.declared.rendered.Element.TheVariants as elements
use Rattle.gb_markdown.specs.declared.rendered.Attribute.{Attribute}
use Rattle.gb_markdown.specs.declared.rendered.Attribute.TheVariants as attributes
use Rattle.gb_markdown.specs.Pieces.{Piece, Open, Close, Link, Picture, Listing, Coded, Named, Text}
use Rattle.gb_markdown.specs.Pieces.{name_of, escaped, escaped_byte, piece_text, tag}
use Rattle.gb_markdown.specs.Pieces.{attribute_begun, attribute_text, attributes_text, attributes_of, written}
use Rattle.gb_markdown.specs.Laws.{is_tag, tags, quotes, quotes_of}

abbrev count : ℕ → List ℕ → ℕ
count sign bytes = count_by (λ (b : ℕ). b == sign) bytes

joined : (sign : ℕ) (xs ys : List ℕ) → count sign (xs ++ ys) ≡ count sign xs + count sign ys
joined sign xs ys = sum_by-append (λ b. cond (b == sign) 1 0) xs ys

cons : {A : Type 0} (f : A → ℕ) (x : A) (xs : List A) → sum_by f (x ∷ xs) ≡ f x + sum_by f xs
cons f x xs = sum_by-append f (x ∷ []) xs ∙ ap (λ n. n + sum_by f xs) (alone (f x))
  where
    alone : (n : ℕ) → 0 + n ≡ n
    alone n = omega arith

sums : (all front rest middle back n m : ℕ) → all ≡ front + rest → rest ≡ middle + back → front ≡ n
    → middle ≡ m → all ≡ n + (m + back)
sums all front rest middle back n m e f g h = omega arith

without : (all n back : ℕ) → all ≡ n + (0 + back) → all ≡ n + back
without all n back e = omega arith

whole : (all front last name ends middle back n : ℕ) → all ≡ front + last → last ≡ name + ends
    → ends ≡ middle + back → name ≡ 0 → middle ≡ n → all ≡ (front + back) + n
whole all front last name ends middle back n e f g h k = omega arith

-- how often it is in what a list is written as, by how often it is in what each item is
counted : {A : Type 0} (sign : ℕ) (text : A → List ℕ) (weight : A → ℕ)
    → ((x : A) → count sign (text x) ≡ weight x)
    → (xs : List A) → count sign (flat_map text xs) ≡ sum_by weight xs
counted sign text weight each [] = refl
counted sign text weight each (x ∷ xs) =
    joined sign (text x) (flat_map text xs) ∙ ap (λ n. n + count sign (flat_map text xs)) (each x)
    ∙ ap (λ n. weight x + n) (counted sign text weight each xs) ∙ sym (cons weight x xs)

none : {A : Type 0} (xs : List A) → sum_by (λ (x : A). 0) xs ≡ 0
none [] = refl
none (x ∷ xs) = cons (λ x. 0) x xs ∙ ap (λ n. 0 + n) (none xs)

twos : {A : Type 0} (xs : List A) → sum_by (λ (x : A). 2) xs ≡ 2 * length xs
twos [] = refl
twos (x ∷ xs) =
    cons (λ x. 2) x xs ∙ ap (λ n. 2 + n) (twos xs) ∙ one_more (length xs)
  where
    one_more : (n : ℕ) → 2 + 2 * n ≡ 2 * suc n
    one_more n = omega arith

and_none : {m n k : ℕ} → m ≡ n → k ≡ 0 → m ≡ n + k
and_none e f = omega arith

-- a sign that no escaped byte is and no byte of a name, and that what begins an attribute has `begun` times
module _ (sign : ℕ) (free : (b : ℕ) → count sign (escaped_byte b) ≡ 0)
    (names : (element : Element) → count sign (name_of element) ≡ 0)
    (begun : ℕ) (begins : (name : Attribute) → count sign (attribute_begun name) ≡ begun)
    (slash : count sign (60 ∷ 47 ∷ []) ≡ count sign (60 ∷ [])) where
  abbrev in_attribute : ℕ
  in_attribute = begun + count sign (34 ∷ [])

  abbrev in_tag : ℕ
  in_tag = count sign (60 ∷ []) + count sign (62 ∷ [])

  text_free : (text : List ℕ) → count sign (escaped text) ≡ 0
  text_free text = counted sign escaped_byte (λ b. 0) free text ∙ none text

  one_attribute : (attribute : Attribute × List ℕ) → count sign (attribute_text attribute) ≡ in_attribute
  one_attribute (name, value) =
      let last = escaped value ++ 34 ∷ [] in
      without _ _ _ (sums _ (count sign (attribute_begun name)) (count sign last) (count sign (escaped value))
      (count sign (34 ∷ [])) begun 0 (joined sign (attribute_begun name) last)
      (joined sign (escaped value) (34 ∷ [])) (begins name) (text_free value))

  all_attributes : (attributes : List (Attribute × List ℕ)) → count sign (attributes_text attributes)
      ≡ sum_by (λ attribute. in_attribute) attributes
  all_attributes attributes =
      counted sign attribute_text (λ attribute. in_attribute) one_attribute attributes

  -- a name in a tag
  named : (front : List ℕ) → count sign front ≡ count sign (60 ∷ []) → (element : Element)
      → count sign (front ++ (name_of element ++ 62 ∷ [])) ≡ in_tag
  named front is element =
      let last = name_of element ++ 62 ∷ [] in
      without _ _ _ (sums _ (count sign front) (count sign last) (count sign (name_of element))
      (count sign (62 ∷ [])) (count sign (60 ∷ [])) 0 (joined sign front last)
      (joined sign (name_of element) (62 ∷ [])) is (names element))

  -- attributes in a tag
  tagged : (element : Element) (attributes : List (Attribute × List ℕ))
      → count sign (tag element attributes) ≡ in_tag + sum_by (λ attribute. in_attribute) attributes
  tagged element attributes =
      let ends = attributes_text attributes ++ 62 ∷ [] in
      let last = name_of element ++ ends in
      whole _ (count sign (60 ∷ [])) (count sign last) (count sign (name_of element)) (count sign ends)
      (count sign (attributes_text attributes)) (count sign (62 ∷ []))
      (sum_by (λ attribute. in_attribute) attributes) (joined sign (60 ∷ []) last)
      (joined sign (name_of element) ends) (joined sign (attributes_text attributes) (62 ∷ []))
      (names element) (all_attributes attributes)

  abbrev weight : Piece → ℕ
  weight piece = cond (is_tag piece) in_tag 0 + sum_by (λ attribute. in_attribute) (attributes_of piece)

  each : (piece : Piece) → count sign (piece_text piece) ≡ weight piece
  each (Open element) = tagged element []
  each (Close element) = and_none (named (60 ∷ 47 ∷ []) slash element) refl
  each (Link address title) = tagged elements.Anchor (attributes_of (Link address title))
  each (Picture address shown title) = tagged elements.Image (attributes_of (Picture address shown title))
  each (Listing first) = tagged elements.Numbered (attributes_of (Listing first))
  each (Coded language) = tagged elements.Code (attributes_of (Coded language))
  each (Named element name) = tagged element (attributes_of (Named element name))
  each (Text text) = text_free text

  pub on_page : (pieces : List Piece) → count sign (written pieces) ≡ sum_by weight pieces
  on_page pieces = counted sign piece_text weight each pieces

-- two functions with the same values have the same sum
same : {A : Type 0} (f g : A → ℕ) → ((x : A) → f x ≡ g x) → (xs : List A) → sum_by f xs ≡ sum_by g xs
same f g agree [] = refl
same f g agree (x ∷ xs) =
    cons f x xs ∙ ap (λ n. n + sum_by f xs) (agree x) ∙ ap (λ n. g x + n) (same f g agree xs)
    ∙ sym (cons g x xs)

-- no escaped byte is a sign that the escaped texts do not have, and that no other byte is
sign_free : (sign : ℕ) → count sign (codes "&lt;") ≡ 0 → count sign (codes "&gt;") ≡ 0
    → count sign (codes "&amp;") ≡ 0 → count sign (codes "&quot;") ≡ 0
    → ((b : ℕ) → (b == 60) ≡ false → (b == 62) ≡ false → (b == 34) ≡ false → (b == sign) ≡ false)
    → (b : ℕ) → count sign (escaped_byte b) ≡ 0
sign_free sign less greater amp quote other b = by (b == 60) (b == 62) (b == 38) (b == 34) refl refl refl
  where
    by : (t u v w : Bool) → (b == 60) ≡ t → (b == 62) ≡ u → (b == 34) ≡ w
        → count sign (if t then codes "&lt;" else if u then codes "&gt;" else if v then
        codes "&amp;" else if w then codes "&quot;" else b ∷ []) ≡ 0
    by true u v w e f g = less
    by false true v w e f g = greater
    by false false true w e f g = amp
    by false false false true e f g = quote
    by false false false false e f g = ap (λ t. 0 + cond t 1 0) (other b e f g)

less_free : (b : ℕ) → count 60 (escaped_byte b) ≡ 0
less_free = sign_free 60 refl refl refl refl (λ b e f g. e)

greater_free : (b : ℕ) → count 62 (escaped_byte b) ≡ 0
greater_free = sign_free 62 refl refl refl refl (λ b e f g. f)

quote_free : (b : ℕ) → count 34 (escaped_byte b) ≡ 0
quote_free = sign_free 34 refl refl refl refl (λ b e f g. g)

-- neither sign is in a name
signs_of : (element : Element) → (count 60 (name_of element) ≡ 0) × (count 62 (name_of element) ≡ 0)
    × (count 34 (name_of element) ≡ 0)
signs_of elements.HeadingOne = (refl, refl, refl)
signs_of elements.HeadingTwo = (refl, refl, refl)
signs_of elements.HeadingThree = (refl, refl, refl)
signs_of elements.HeadingFour = (refl, refl, refl)
signs_of elements.HeadingFive = (refl, refl, refl)
signs_of elements.HeadingSix = (refl, refl, refl)
signs_of elements.Paragraph = (refl, refl, refl)
signs_of elements.Items = (refl, refl, refl)
signs_of elements.Numbered = (refl, refl, refl)
signs_of elements.Item = (refl, refl, refl)
signs_of elements.Quote = (refl, refl, refl)
signs_of elements.Emphasis = (refl, refl, refl)
signs_of elements.Strong = (refl, refl, refl)
signs_of elements.Code = (refl, refl, refl)
signs_of elements.Block = (refl, refl, refl)
signs_of elements.Anchor = (refl, refl, refl)
signs_of elements.Table = (refl, refl, refl)
signs_of elements.Head = (refl, refl, refl)
signs_of elements.Body = (refl, refl, refl)
signs_of elements.Row = (refl, refl, refl)
signs_of elements.HeadCell = (refl, refl, refl)
signs_of elements.Cell = (refl, refl, refl)
signs_of elements.Image = (refl, refl, refl)
signs_of elements.Rule = (refl, refl, refl)
signs_of elements.Break = (refl, refl, refl)

-- what begins an attribute has one double quote
signs_in : (name : Attribute) → (count 60 (attribute_begun name) ≡ 0)
    × (count 62 (attribute_begun name) ≡ 0) × (count 34 (attribute_begun name) ≡ 1)
signs_in attributes.Href = (refl, refl, refl)
signs_in attributes.Source = (refl, refl, refl)
signs_in attributes.Shown = (refl, refl, refl)
signs_in attributes.Title = (refl, refl, refl)
signs_in attributes.Language = (refl, refl, refl)
signs_in attributes.Start = (refl, refl, refl)
signs_in attributes.Name = (refl, refl, refl)

pub less_counted : (pieces : List Piece) → count_by (λ (b : ℕ). b == 60) (written pieces) ≡ tags pieces
less_counted pieces =
    on_page 60 less_free (λ element. (signs_of element).0) 0 (λ name. (signs_in name).0) refl pieces
    ∙ same _ (λ piece. cond (is_tag piece) 1 0) (λ piece. sym (and_none refl (none (attributes_of piece))))
    pieces

pub greater_counted : (pieces : List Piece) → count_by (λ (b : ℕ). b == 62) (written pieces) ≡ tags pieces
greater_counted pieces =
    on_page 62 greater_free (λ element. (signs_of element).1) 0 (λ name. (signs_in name).1) refl pieces
    ∙ same _ (λ piece. cond (is_tag piece) 1 0) (λ piece. sym (and_none refl (none (attributes_of piece))))
    pieces

pub quotes_counted : (pieces : List Piece) → count_by (λ (b : ℕ). b == 34) (written pieces) ≡ quotes pieces
quotes_counted pieces =
    on_page 34 quote_free (λ element. (signs_of element).2) 1 (λ name. (signs_in name).2) refl pieces
    ∙ same _ quotes_of (λ piece. of_tag (is_tag piece) (twos (attributes_of piece))) pieces
  where
    of_tag : (b : Bool) {m n : ℕ} → m ≡ n → cond b 0 0 + m ≡ n
    of_tag true e = omega arith
    of_tag false e = omega arith
