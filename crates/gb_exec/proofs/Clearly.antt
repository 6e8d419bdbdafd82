-- Whether the contents that were read are collision-free is decided, and collision-free contents stay so with
-- fewer of them.
use Rattle.std.specs.Prelude.{ℕ, ◌≡◌, ◌⊎◌, Bool, true, false, not, ◌&&◌, List, bytes_eq}
use Rattle.std.specs.List.{list_any}
use Rattle.std.specs.Cmp.Lexicographic.{bytes_decides}
use Rattle.std.proofs.Common.{refl, sym, ap, ◌∙◌, inl, inr}
use Rattle.gb_folder.specs.Files.{Bytes, is_empty}
use Rattle.gb_semantics.specs.Events.{Setting, State}
use Rattle.gb_semantics.specs.TrueRecord.{AreCollisionFree}
use Rattle.gb_semantics.proofs.Lemmas.Clear.{Among, separate_of_fewer}
use Rattle.gb_plan.proofs.Tests.{left_of, no_longer, not_false, not_true, right_of}
use Rattle.gb_exec.proofs.ByNumber.{at_some, both_true, contained, contains_any}
use Rattle.gb_exec.specs.Built.{guard}

module _ (digest : Bytes → List ℕ) where
  -- two contents with one digest
  clash : Bytes → Bytes → Bool
  clash a b = bytes_eq (digest a) (digest b) && not (bytes_eq a b)

  some_clash : List Bytes → Bool
  some_clash contents = list_any (λ a. list_any (clash a) contents) contents

  clashing : (contents : List Bytes) → some_clash contents ≡ true → ¬ AreCollisionFree digest contents
  unfolding some_clash clash
  clashing contents e separate =
      let one = at_some (λ a. list_any (clash a) contents) contents e in
      let other = at_some (clash one.1) contents one.3 in
      let same = (bytes_decides (digest one.1) (digest other.1)).0 (left_of (bytes_eq (digest one.1) (digest other.1)) (not (bytes_eq one.1 other.1)) other.3) in
      let differ = no_longer (bytes_eq one.1 other.1) (right_of (bytes_eq (digest one.1) (digest other.1)) (not (bytes_eq one.1 other.1)) other.3) in
      not_true (sym differ ∙ (bytes_decides one.1 other.1).1
      (separate one.1 other.1 (contained contents one.0 one.1 one.2) (contained contents other.0 other.1 other.2) same))

  unclashing : (contents : List Bytes) → some_clash contents ≡ false → AreCollisionFree digest contents
  unfolding some_clash clash
  unclashing contents none a b in_a in_b same = by (bytes_eq a b) refl
    where
      by : (t : Bool) → bytes_eq a b ≡ t → a ≡ b
      by true e = (bytes_decides a b).0 e
      by false e =
          let here = both_true (bytes_eq (digest a) (digest b)) (not (bytes_eq a b)) ((bytes_decides (digest a) (digest b)).1 same) (ap not e) in
          not_false (sym (contains_any (λ x. list_any (clash x) contents) contents a in_a (contains_any (clash a) contents b in_b here)) ∙ none)

  pub separate_or_not : (contents : List Bytes) → AreCollisionFree digest contents ⊎ (¬ AreCollisionFree digest contents)
  separate_or_not contents = by (some_clash contents) refl
    where
      by : (t : Bool) → some_clash contents ≡ t → AreCollisionFree digest contents ⊎ (¬ AreCollisionFree digest contents)
      by true e = inr (clashing contents e)
      by false e = inl (unclashing contents e)

module _ (setting : Setting) (old : State) where
  pub clear_or_not : (clear : Bool) (contents : List Bytes) → guard setting clear old contents ⊎ (¬ guard setting clear old contents)
  clear_or_not false contents = inr (λ assumed. not_true assumed.0)
  clear_or_not true contents = by (is_empty old.remembered) refl
    where
      separate : is_empty old.remembered ≡ false → AreCollisionFree setting.digest contents ⊎ (¬ AreCollisionFree setting.digest contents)
          → guard setting true old contents ⊎ (¬ guard setting true old contents)
      separate some (inl are) = inl (refl, inr are)
      separate some (inr are_not) = inr (λ assumed. elim assumed.1 [ inl empty ↦ not_false (sym empty ∙ some) | inr are ↦ are_not are ])

      by : (t : Bool) → is_empty old.remembered ≡ t → guard setting true old contents ⊎ (¬ guard setting true old contents)
      by true e = inl (refl, inl e)
      by false e = separate e (separate_or_not setting.digest contents)

  pub clear_of_fewer : (clear : Bool) (all some : List Bytes) → Among some all → guard setting clear old all → guard setting clear old some
  clear_of_fewer clear all some among assumed = (
    assumed.0,
    elim assumed.1 [ inl empty ↦ inl empty | inr separate ↦ inr (separate_of_fewer setting.digest all some among separate) ],
  )
