-- A clause clashes with the words noted before it exactly where it clashes with a clause before it.
use Rattle.std.proofs.Common.{◌≡◌, ℕ, Bool, true, false, not, ◌&&◌, ◌||◌, cond, List, [], ◌∷◌, ◌++◌, map, Option, None, Some, refl, sym, ap, ◌∙◌}
use Rattle.std.proofs.Math.Bool.{or-true}
use Rattle.std.proofs.lemmas.Bool.Decides.{same_from_decides}
use Rattle.std.specs.Cmp.Lexicographic.{nat_list_cmp_total, bytes_decides}
use Rattle.std.specs.Prelude.{bytes_eq, option_map}
use Rattle.std.specs.Borrow.{Bor}
use Rattle.std.specs.BTreeMap.{BTreeMap, insert_entry, is_at}
use Rattle.std.specs.Map.{lookup}
use Rattle.gb_script.specs.declared.script.Clause.{Clause}
use Rattle.std.specs.List.{list_any}
use Rattle.std.specs.Ordering.{eq_by_cmp, is_eq}
use Rattle.std.specs.declared.cmp.Ordering.{Ordering}
use Rattle.std.specs.declared.cmp.Ordering.TheVariants.{Less, Equal, Greater}
use Rattle.std.specs.FinMap.Entries.{put, find, find-put}
use Rattle.gb_core.proofs.Found.{tied_same, same_tied}
use Rattle.gb_core.specs.Lists.{byte_order}
use Rattle.gb_declare.specs.Declaring.{clash, heading}
use Rattle.gb_declare.specs.Headings.{Heading, noted, clashes, is_other, word_in, words_in}
use Rattle.gb_declare.proofs.JoinLemmas.{put_in}

equal : (o : Ordering) → is_eq o ≡ true → o ≡ Equal
equal Less e = absurd (cc)
equal Equal e = refl
equal Greater e = absurd (cc)

same_test : (q n : List ℕ) → eq_by_cmp byte_order q n ≡ bytes_eq q n
same_test q n = same_from_decides (eq_by_cmp byte_order q n) (bytes_eq q n) ((λ e. tied_same q n (equal (byte_order q n) e)), (λ e. ap is_eq (same_tied q n e))) (bytes_decides q n)

found_put : (q : List ℕ) (h : Heading) (words : List Heading) → find byte_order q (put byte_order h.0 h.1 words) ≡ cond (bytes_eq q h.0) (Some h.1) (find byte_order q words)
found_put q h words = find-put byte_order nat_list_cmp_total q h.0 h.1 words ∙ ap (λ b. cond b (Some h.1) (find byte_order q words)) (same_test q h.0)

-- the word of a heading is noted
abbrev IsNoted : List Heading → Option Heading → Type 0
IsNoted words None = Unit {0}
IsNoted words (Some h) = find byte_order h.0 words ≡ Some h.1

abbrev AllNoted : List Heading → List (Option Heading) → Type 0
AllNoted words [] = Unit {0}
AllNoted words (h ∷ hs) = IsNoted words h × AllNoted words hs

abbrev is_heading : List ℕ → List ℕ → Option Heading → Bool
is_heading name word None = false
is_heading name word (Some h) = bytes_eq h.0 name && bytes_eq h.1 word

-- the words noted are those of the headings, which do not clash
pub record Agrees (words : List Heading) (headings : List (Option Heading)) : Type 0 where
  pub exist : AllNoted words headings
  pub backed : (name word : List ℕ) → find byte_order name words ≡ Some word → list_any (is_heading name word) headings ≡ true

pub none_agree : Agrees [] []
none_agree = record { exist = tt; backed = λ name word e. absurd (cc) }

same : (a b : List ℕ) → bytes_eq a b ≡ true → a ≡ b
same a b e = (bytes_decides a b).0 e

itself : (a b : List ℕ) → a ≡ b → bytes_eq a b ≡ true
itself a b e = (bytes_decides a b).1 e

-- a name that is not noted is in no heading
unknown : (words : List Heading) (hs : List (Option Heading)) (h : Heading) → AllNoted words hs → find byte_order h.0 words ≡ None → list_any (λ e. clash e (Some h)) hs ≡ false
unknown words [] h exist none = refl
unknown words (None ∷ hs) h exist none = unknown words hs h exist.1 none
unknown words (Some e ∷ hs) h exist none =
    elim (bytes_eq e.0 h.0) as (λ b. bytes_eq e.0 h.0 ≡ b → ((b && not (bytes_eq e.1 h.1)) || list_any (λ e. clash e (Some h)) hs) ≡ false) [
      | true ↦ λ p. let is : e.0 ≡ h.0 = same e.0 h.0 p in let has : find byte_order e.0 words ≡ Some e.1 = exist.0 in absurd (cc)
      | false ↦ λ p. unknown words hs h exist.1 none
    ] refl

-- the same word is in all headings of the name
agreeing : (words : List Heading) (hs : List (Option Heading)) (h : Heading) (known : List ℕ) → AllNoted words hs → find byte_order h.0 words ≡ Some known → bytes_eq known h.1 ≡ true
    → list_any (λ e. clash e (Some h)) hs ≡ false
agreeing words [] h known exist found alike = refl
agreeing words (None ∷ hs) h known exist found alike = agreeing words hs h known exist.1 found alike
agreeing words (Some e ∷ hs) h known exist found alike =
    let rest = agreeing words hs h known exist.1 found alike in
    elim (bytes_eq e.0 h.0) as (λ b. bytes_eq e.0 h.0 ≡ b → ((b && not (bytes_eq e.1 h.1)) || list_any (λ e. clash e (Some h)) hs) ≡ false) [
      | true ↦ λ p.
          let is : e.0 ≡ h.0 = same e.0 h.0 p in
          let has : find byte_order e.0 words ≡ Some e.1 = exist.0 in
          let word : e.1 ≡ known = cc in
          rw (itself e.1 h.1 (word ∙ same known h.1 alike)) rest
      | false ↦ λ p. rest
    ] refl

-- another word is in a heading of the name
differing : (hs : List (Option Heading)) (h : Heading) (known : List ℕ) → bytes_eq known h.1 ≡ false → list_any (is_heading h.0 known) hs ≡ true
    → list_any (λ e. clash e (Some h)) hs ≡ true
differing [] h known separate any = absurd (cc)
differing (None ∷ hs) h known separate any = differing hs h known separate any
differing (Some e ∷ hs) h known separate any =
    elim (bytes_eq e.0 h.0) as (λ b. (((b && bytes_eq e.1 known) || list_any (is_heading h.0 known) hs) ≡ true) → ((b && not (bytes_eq e.1 h.1)) || list_any (λ e. clash e (Some h)) hs) ≡ true) [
      | true ↦ λ any.
          elim (bytes_eq e.1 known) as (λ b. bytes_eq e.1 known ≡ b → ((b || list_any (is_heading h.0 known) hs) ≡ true) → (not (bytes_eq e.1 h.1) || list_any (λ e. clash e (Some h)) hs) ≡ true) [
            | true ↦ λ p _. rw (ap (λ w. bytes_eq w h.1) (same e.1 known p) ∙ separate) refl
            | false ↦ λ p any. rw (differing hs h known separate any) (or-true (not (bytes_eq e.1 h.1)))
          ] refl any
      | false ↦ λ any. differing hs h known separate any
    ] any

none_clash : (hs : List (Option Heading)) → list_any (λ e. clash e None) hs ≡ false
none_clash [] = refl
none_clash (None ∷ hs) = none_clash hs
none_clash (Some e ∷ hs) = none_clash hs

-- a heading clashes with one of these exactly where it clashes with the words noted
pub any_clash : (words : List Heading) (hs : List (Option Heading)) (h : Option Heading) → Agrees words hs → list_any (λ e. clash e h) hs ≡ clashes words h
any_clash words hs None agrees = none_clash hs
any_clash words hs (Some h) agrees =
    elim (find byte_order h.0 words) as (λ o. find byte_order h.0 words ≡ o → list_any (λ e. clash e (Some h)) hs ≡ is_other h.1 o) [
      | None ↦ λ none. unknown words hs h agrees.exist none
      | Some known ↦ λ found.
          elim (bytes_eq known h.1) as (λ b. bytes_eq known h.1 ≡ b → list_any (λ e. clash e (Some h)) hs ≡ not b) [
            | true ↦ λ p. agreeing words hs h known agrees.exist found p
            | false ↦ λ p. differing hs h known p (agrees.backed h.0 known found)
          ] refl
    ] refl

-- ---- One heading more

equal_words : (known word : List ℕ) → not (bytes_eq known word) ≡ false → known ≡ word
equal_words known word e =
    elim (bytes_eq known word) as (λ b. bytes_eq known word ≡ b → not b ≡ false → known ≡ word) [
      | true ↦ λ p _. same known word p
      | false ↦ λ p no. absurd (cc)
    ] refl e

put_exists : (words : List Heading) (hs : List (Option Heading)) (h : Heading) → AllNoted words hs → clashes words (Some h) ≡ false → AllNoted (put byte_order h.0 h.1 words) hs
put_exists words [] h exist clear = tt
put_exists words (None ∷ hs) h exist clear = (tt, put_exists words hs h exist.1 clear)
put_exists words (Some e ∷ hs) h exist clear = (
  found_put e.0 h words ∙ elim (bytes_eq e.0 h.0) as (λ b. bytes_eq e.0 h.0 ≡ b → cond b (Some h.1) (find byte_order e.0 words) ≡ Some e.1) [
    | true ↦ λ p.
        let found : find byte_order h.0 words ≡ Some e.1 = ap (λ n. find byte_order n words) (sym (same e.0 h.0 p)) ∙ exist.0 in
        ap (λ w. Some w) (sym (equal_words e.1 h.1 (ap (is_other h.1) (sym found) ∙ clear)))
    | false ↦ λ p. exist.0
  ] refl,
  put_exists words hs h exist.1 clear,
)

last_exists : (words : List Heading) (hs : List (Option Heading)) (h : Option Heading) → AllNoted words hs → IsNoted words h → AllNoted words (hs ++ h ∷ [])
last_exists words [] h exist last = (last, tt)
last_exists words (e ∷ hs) h exist last = (exist.0, last_exists words hs h exist.1 last)

any_prefix : (p : Option Heading → Bool) (hs : List (Option Heading)) (h : Option Heading) → list_any p hs ≡ true → list_any p (hs ++ h ∷ []) ≡ true
any_prefix p [] h e = absurd (cc)
any_prefix p (x ∷ hs) h e =
    elim (p x) as (λ b. (b || list_any p hs) ≡ true → (b || list_any p (hs ++ h ∷ [])) ≡ true) [ true ↦ λ _. refl | false ↦ λ e. any_prefix p hs h e ] e

any_last : (p : Option Heading → Bool) (hs : List (Option Heading)) (h : Option Heading) → p h ≡ true → list_any p (hs ++ h ∷ []) ≡ true
any_last p [] h e = rw e refl
any_last p (x ∷ hs) h e = rw (any_last p hs h e) (or-true (p x))

-- one that does not clash is noted
pub agrees_more : (words : List Heading) (hs : List (Option Heading)) (h : Option Heading) → Agrees words hs → clashes words h ≡ false → Agrees (noted words h) (hs ++ h ∷ [])
agrees_more words hs None agrees clear = record {
  exist = last_exists words hs None agrees.exist tt;
  backed = λ name word e. any_prefix (is_heading name word) hs None (agrees.backed name word e);
}
agrees_more words hs (Some h) agrees clear = record {
  exist = last_exists (put byte_order h.0 h.1 words) hs (Some h) (put_exists words hs h agrees.exist clear) (found_put h.0 h words ∙ ap (λ b. cond b (Some h.1) (find byte_order h.0 words)) (itself h.0 h.0 refl));
  backed = λ name word e.
      elim (bytes_eq name h.0) as (λ b. bytes_eq name h.0 ≡ b → cond b (Some h.1) (find byte_order name words) ≡ Some word → list_any (is_heading name word) (hs ++ Some h ∷ []) ≡ true) [
        | true ↦ λ p is.
            let word_is : h.1 ≡ word = cc in
            any_last (is_heading name word) hs (Some h) (rw (itself h.0 name (sym (same name h.0 p)), itself h.1 word word_is) refl)
        | false ↦ λ p is. any_prefix (is_heading name word) hs (Some h) (agrees.backed name word is)
      ] refl (sym (found_put name h words) ∙ e);
}

-- ---- As the code looks them up

-- a heading by its name and its word
pub split_heading : (o : Option Heading) (name : List ℕ) → Some name ≡ option_map (λ h. h.0) o → o ≡ Some (name, word_in o)
split_heading None name e = absurd (cc)
split_heading (Some h) name e = let is : name ≡ h.0 = cc in ap (λ n. Some (n, h.1)) (sym is)

no_heading : (o : Option Heading) → None ≡ option_map (λ h. h.0) o → o ≡ None
no_heading None e = refl
no_heading (Some h) e = absurd (cc)

-- what is stored under a name, under any view
found_viewed : {X Y : Type 0} (view : X → Y) (q : List ℕ) (es : List (List ℕ × X)) → find byte_order q (map (λ e. (e.0, view e.1)) es) ≡ option_map view (lookup (is_at (byte_order q)) es)
found_viewed view q [] = refl
found_viewed view q (e ∷ es) =
    elim (byte_order q e.0) as (λ o. cond (is_eq o) (Some (view e.1)) (find byte_order q (map (λ e. (e.0, view e.1)) es)) ≡ option_map view (cond (is_eq o) (Some e.1) (lookup (is_at (byte_order q)) es))) [
      | Less ↦ found_viewed view q es
      | Equal ↦ refl
      | Greater ↦ found_viewed view q es
    ]

module _ (words : BTreeMap (List ℕ) (Bor Clause)) (h : Option Heading) (name : List ℕ) (is : Some name ≡ option_map (λ h. h.0) h) where
  pub clashes_found : (earlier : Bor Clause) → Some earlier ≡ lookup (is_at (byte_order name)) words.entries → clashes (words_in words) h ≡ not (bytes_eq (word_in (heading earlier.now)) (word_in h))
  clashes_found earlier found =
      ap (clashes (words_in words)) (split_heading h name is)
      ∙ ap (is_other (word_in h)) (found_viewed (λ (c : Bor Clause). word_in (heading c.now)) name words.entries ∙ ap (option_map (λ (c : Bor Clause). word_in (heading c.now))) (sym found))

  pub clashes_not : None ≡ lookup (is_at (byte_order name)) words.entries → clashes (words_in words) h ≡ false
  clashes_not none =
      ap (clashes (words_in words)) (split_heading h name is)
      ∙ ap (is_other (word_in h)) (found_viewed (λ (c : Bor Clause). word_in (heading c.now)) name words.entries ∙ ap (option_map (λ (c : Bor Clause). word_in (heading c.now))) (sym none))

  -- the clause about a name is stored under it
  pub noted_put : (new : BTreeMap (List ℕ) (Bor Clause)) (clause : Bor Clause) → h ≡ heading clause.now → new.entries ≡ insert_entry byte_order words.entries name clause → words_in new ≡ noted (words_in words) h
  noted_put new clause of put_is =
      put_in (λ (c : Bor Clause). word_in (heading c.now)) words new new name clause refl put_is
      ∙ ap (λ w. put byte_order name w (words_in words)) (ap word_in (sym of))
      ∙ sym (ap (noted (words_in words)) (split_heading h name is))
