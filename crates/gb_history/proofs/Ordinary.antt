-- The compact text of an ordinary value is UTF-8 and reads back as the value.
use Rattle.std.proofs.Common.{◌≡◌, ℕ, suc, ◌<◌, ◌≤◌, max, List, [], ◌∷◌, Bool, true, false, Option, Some, option_map, option_and_then, IsUtf8, refl, sym, ap, ap₂, ◌∙◌, subst, arith, append-nil}
use Rattle.std.specs.Prelude.{⊤}
use Rattle.std.proofs.lemmas.Str.{IsUtf8-append, IsUtf8-nil, IsUtf8-from_ascii}
use Rattle.std.proofs.lemmas.Fmt.{IsAscii-decimal}
use Rattle.json.specs.Token.{Token}
use Rattle.json.specs.Lex.{tokens}
use Rattle.json.specs.Json as json
use Rattle.json.specs.Tree as tree
use Rattle.json.proofs.Printed.Decimals.{IsNumber-decimal}
use Rattle.json.proofs.Printed.Tokens.{tokens-print}
use Rattle.json.proofs.Printed.Trees.{value-json_tokens, ArePrintable-json_tokens}
use Rattle.json.proofs.Printed.Utf8.{IsUtf8-are_ascii, IsUtf8-quoted, IsUtf8-boolean}
use Rattle.serde_json.specs.Data.{Num, unsigned, negative, float, Data, null, boolean, number, string, array, object, Items, no_items, item, Members, no_members, member, put, depth, items_depth, members_depth}
use Rattle.serde_json.specs.Read.{of_json, of_items, of_members, read, max_depth}
use Rattle.serde_json.specs.Written.{outline, items_outline, members_outline, compact_text, items_text, members_text, comma_if, has_float, items_have_float, members_have_float}
use Rattle.serde_json.proofs.Numbers.{number_of-decimal}
use Rattle.serde_json.proofs.Texts.{print-outline}

-- the members inserted one after another
abbrev pub put_all : Members → Members → Members
put_all no_members found = found
put_all (member k d ms) found = put_all ms (put k d found)

-- 32 bits, since this crate writes no other number
abbrev pub IsWord : Num → Type 0
IsWord (unsigned n) = n < 4294967296
IsWord (negative z) = Unit {0} → ⊥
IsWord (float x) = Unit {0} → ⊥

-- texts are UTF-8, numbers have 32 bits, and members are in the order of their keys
abbrev mutual
  pub IsOrdinary : Data → Type 0
  IsOrdinary null = ⊤
  IsOrdinary (boolean b) = ⊤
  IsOrdinary (number n) = IsWord n
  IsOrdinary (string s) = IsUtf8 s
  IsOrdinary (array ds) = AreOrdinary ds
  IsOrdinary (object ms) = (put_all ms no_members ≡ ms) × MembersAreOrdinary ms

  pub AreOrdinary : Items → Type 0
  AreOrdinary no_items = ⊤
  AreOrdinary (item d ds) = IsOrdinary d × AreOrdinary ds

  pub MembersAreOrdinary : Members → Type 0
  MembersAreOrdinary no_members = ⊤
  MembersAreOrdinary (member k d ms) = IsUtf8 k × IsOrdinary d × MembersAreOrdinary ms

no_number : {P : Type 0} → (Unit {0} → ⊥) → P
no_number h = absurd (h tt)

mutual
  of_json-outline : (d : Data) → IsOrdinary d → of_json (outline d) ≡ Some d
  of_json-outline null h = refl
  of_json-outline (boolean b) h = refl
  of_json-outline (number (unsigned n)) h = rw (number_of-decimal n (omega arith)) refl
  of_json-outline (number (negative z)) h = no_number h
  of_json-outline (number (float x)) h = no_number h
  of_json-outline (string s) h = refl
  of_json-outline (array ds) h = ap (option_map array) (of_items-outline ds h)
  of_json-outline (object ms) h = ap (option_map object) (of_members-outline ms no_members h.1 ∙ ap Some h.0)

  of_items-outline : (ds : Items) → AreOrdinary ds → of_items (items_outline ds) ≡ Some ds
  of_items-outline no_items h = refl
  of_items-outline (item d ds) h = rw (of_json-outline d h.0, of_items-outline ds h.1) refl

  of_members-outline : (ms found : Members) → MembersAreOrdinary ms → of_members (members_outline ms) found ≡ Some (put_all ms found)
  of_members-outline no_members found h = refl
  of_members-outline (member k d ms) found h = rw (of_json-outline d h.1) (of_members-outline ms (put k d found) h.2)

mutual
  HasNumbers-outline : (d : Data) → IsOrdinary d → tree.HasNumbers (outline d)
  HasNumbers-outline null h = tt
  HasNumbers-outline (boolean b) h = tt
  HasNumbers-outline (number (unsigned n)) h = IsNumber-decimal n (omega arith)
  HasNumbers-outline (number (negative z)) h = no_number h
  HasNumbers-outline (number (float x)) h = no_number h
  HasNumbers-outline (string s) h = tt
  HasNumbers-outline (array ds) h = ItemsHaveNumbers-outline ds h
  HasNumbers-outline (object ms) h = MembersHaveNumbers-outline ms h.1

  ItemsHaveNumbers-outline : (ds : Items) → AreOrdinary ds → tree.ItemsHaveNumbers (items_outline ds)
  ItemsHaveNumbers-outline no_items h = tt
  ItemsHaveNumbers-outline (item d ds) h = (HasNumbers-outline d h.0, ItemsHaveNumbers-outline ds h.1)

  MembersHaveNumbers-outline : (ms : Members) → MembersAreOrdinary ms → tree.MembersHaveNumbers (members_outline ms)
  MembersHaveNumbers-outline no_members h = tt
  MembersHaveNumbers-outline (member k d ms) h = (HasNumbers-outline d h.1, MembersHaveNumbers-outline ms h.2)

mutual
  depth-outline : (d : Data) → tree.depth (outline d) ≡ depth d
  depth-outline null = refl
  depth-outline (boolean b) = refl
  depth-outline (number n) = refl
  depth-outline (string s) = refl
  depth-outline (array ds) = ap suc (items_depth-outline ds)
  depth-outline (object ms) = ap suc (members_depth-outline ms)

  items_depth-outline : (ds : Items) → tree.items_depth (items_outline ds) ≡ items_depth ds
  items_depth-outline no_items = refl
  items_depth-outline (item d ds) = ap₂ max (depth-outline d) (items_depth-outline ds)

  members_depth-outline : (ms : Members) → tree.members_depth (members_outline ms) ≡ members_depth ms
  members_depth-outline no_members = refl
  members_depth-outline (member k d ms) = ap₂ max (depth-outline d) (members_depth-outline ms)

-- the value of a whole text, once its tokens are read
abbrev whole : Option (json.Json × List Token) → Option Data
whole o = option_and_then of_json (option_and_then (λ p. json.if_last p.0 p.1) o)

pub read-compact_text : (d : Data) → IsOrdinary d → depth d ≤ max_depth → read (compact_text d) ≡ Some d
read-compact_text d h shallow =
    let ts = tree.json_tokens (outline d) in
    let same : tokens (compact_text d) ≡ ts = ap tokens (sym (print-outline d)) ∙ tokens-print ts (ArePrintable-json_tokens (outline d) (HasNumbers-outline d h)) in
    let low : tree.depth (outline d) ≤ max_depth = subst (λ n. n ≤ max_depth) (sym (depth-outline d)) shallow in
    ap whole (ap (json.value max_depth) (same ∙ sym (append-nil ts)) ∙ value-json_tokens (outline d) max_depth [] low) ∙ of_json-outline d h

-- ---- UTF-8

IsUtf8-comma_if : (later : Bool) → IsUtf8 (comma_if later)
IsUtf8-comma_if true = IsUtf8-are_ascii _ refl
IsUtf8-comma_if false = IsUtf8-nil

then_byte : (x : ℕ) (xs : List ℕ) → IsUtf8 (x ∷ []) → IsUtf8 xs → IsUtf8 (x ∷ xs)
then_byte x xs one rest = IsUtf8-append (x ∷ []) xs one rest

mutual
  pub IsUtf8-compact_text : (d : Data) → IsOrdinary d → IsUtf8 (compact_text d)
  IsUtf8-compact_text null h = IsUtf8-are_ascii _ refl
  IsUtf8-compact_text (boolean b) h = IsUtf8-boolean b
  IsUtf8-compact_text (number (unsigned n)) h = IsUtf8-from_ascii _ (IsAscii-decimal n (omega arith))
  IsUtf8-compact_text (number (negative z)) h = no_number h
  IsUtf8-compact_text (number (float x)) h = no_number h
  IsUtf8-compact_text (string s) h = IsUtf8-quoted s h
  IsUtf8-compact_text (array ds) h = then_byte 91 _ (IsUtf8-are_ascii _ refl) (IsUtf8-items_text false ds h)
  IsUtf8-compact_text (object ms) h = then_byte 123 _ (IsUtf8-are_ascii _ refl) (IsUtf8-members_text false ms h.1)

  IsUtf8-items_text : (later : Bool) (ds : Items) → AreOrdinary ds → IsUtf8 (items_text later ds)
  IsUtf8-items_text later no_items h = IsUtf8-are_ascii _ refl
  IsUtf8-items_text later (item d ds) h =
      IsUtf8-append _ _ (IsUtf8-comma_if later) (IsUtf8-append _ _ (IsUtf8-compact_text d h.0) (IsUtf8-items_text true ds h.1))

  IsUtf8-members_text : (later : Bool) (ms : Members) → MembersAreOrdinary ms → IsUtf8 (members_text later ms)
  IsUtf8-members_text later no_members h = IsUtf8-are_ascii _ refl
  IsUtf8-members_text later (member k d ms) h =
      IsUtf8-append _ _ (IsUtf8-comma_if later) (IsUtf8-append _ _ (IsUtf8-quoted k h.0)
      (then_byte 58 _ (IsUtf8-are_ascii _ refl) (IsUtf8-append _ _ (IsUtf8-compact_text d h.1) (IsUtf8-members_text true ms h.2))))

-- ---- no float

mutual
  pub has_float-ordinary : (d : Data) → IsOrdinary d → has_float d ≡ false
  has_float-ordinary null h = refl
  has_float-ordinary (boolean b) h = refl
  has_float-ordinary (number (unsigned n)) h = refl
  has_float-ordinary (number (negative z)) h = refl
  has_float-ordinary (number (float x)) h = no_number h
  has_float-ordinary (string s) h = refl
  has_float-ordinary (array ds) h = items_have_float-ordinary ds h
  has_float-ordinary (object ms) h = members_have_float-ordinary ms h.1

  items_have_float-ordinary : (ds : Items) → AreOrdinary ds → items_have_float ds ≡ false
  items_have_float-ordinary no_items h = refl
  items_have_float-ordinary (item d ds) h = rw (has_float-ordinary d h.0) (items_have_float-ordinary ds h.1)

  members_have_float-ordinary : (ms : Members) → MembersAreOrdinary ms → members_have_float ms ≡ false
  members_have_float-ordinary no_members h = refl
  members_have_float-ordinary (member k d ms) h = rw (has_float-ordinary d h.1) (members_have_float-ordinary ms h.2)
