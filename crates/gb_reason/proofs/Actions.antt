-- How actions differ, argument by argument or by their kinds.
use Rattle.std.proofs.Common.{◌≡◌, ◌≢◌, ◌==◌, ◌||◌, ℕ, suc, ◌+◌, Bool, true, false, true≢false, not, cond, List, [], ◌∷◌, ◌++◌, map, length, Some, refl, sym, ap, ap₂, subst, ◌∙◌, inl, inr, arith}
use Rattle.std.proofs.lemmas.List.Elements.{Contains-append_cases}
use Rattle.std.specs.Cmp.{unsigned_Decides}
use Rattle.std.specs.Cmp.Lexicographic.{bytes_decides, pointwise}
use Rattle.std.specs.List.{Contains, list_any}
use Rattle.std.specs.Prelude.{find, option_map}
use Rattle.gb_core.specs.declared.value.Value.{Value}
use Rattle.gb_plan.specs.declared.task.Action.{Action}
use Rattle.gb_reason.specs.Real.{IsArgument, IsOfOne, kind_of}
use Rattle.gb_reason.specs.Reasons.{first_other, has_kind, of_action, of_arguments}
use Rattle.gb_reason.specs.Same.{is_value}
use Rattle.gb_reason.specs.declared.reason.Reason.{Reason}
use Rattle.gb_reason.specs.declared.reason.Reason.TheVariants as reasons
use Rattle.gb_reason.proofs.Elements.{bytes_back, bytes_own, value_back, value_other, value_own}
use Rattle.gb_reason.proofs.Lists.{alike_pairs, both_none, contains_first, contains_later, contains_none, contains_one}

-- ---- Kinds

pub kind_own : (action : Action) → has_kind action action ≡ true
kind_own action = bytes_own action.kind

pub kind_back : (old new : Action) → has_kind old new ≡ true → old.kind ≡ new.kind
kind_back old new e = bytes_back old.kind new.kind e

pub kind_alike : (old new : Action) → kind_of old ≡ kind_of new → has_kind old new ≡ true
kind_alike old new e = (bytes_decides old.kind new.kind).1 e

-- ---- Arguments

arguments_same : (kind : List ℕ) (number : ℕ) (xs ys : List Value) → length xs ≡ length ys → of_arguments kind number xs ys ≡ [] → xs ≡ ys
arguments_same kind number [] [] long none = refl
arguments_same kind number [] (y ∷ ys) long none = absurd (omega (arith, long))
arguments_same kind number (x ∷ xs) [] long none = absurd (omega (arith, long))
arguments_same kind number (x ∷ xs) (y ∷ ys) long none =
    let nones = both_none (cond (is_value x y) [] (reasons.Argument kind number x y ∷ [])) (of_arguments kind (number + 1) xs ys) none in
    let rest = arguments_same kind (number + 1) xs ys (omega (arith, long)) nones.1 in
    by (is_value x y) refl nones.0 rest
  where
    by : (b : Bool) → is_value x y ≡ b → cond b [] (reasons.Argument kind number x y ∷ []) ≡ [] → xs ≡ ys → x ∷ xs ≡ y ∷ ys
    by true e n rest = ap₂ (λ (v : Value) (l : List Value). v ∷ l) (value_back x y e) rest
    by false e n rest = absurd (cc)

arguments_none : (kind : List ℕ) (number : ℕ) (xs : List Value) → of_arguments kind number xs xs ≡ []
arguments_none kind number [] = refl
arguments_none kind number (x ∷ xs) =
    ap (λ b. cond b [] (reasons.Argument kind number x x ∷ []) ++ of_arguments kind (number + 1) xs xs) (value_own x)
    ∙ arguments_none kind (number + 1) xs

pub action_same : (old new : Action) → has_kind old new ≡ true → of_action (old, new) ≡ [] → old ≡ new
action_same old new kind none = by (old.version == new.version) (length old.args == length new.args) refl refl none
  where
    by : (version long : Bool) → (old.version == new.version) ≡ version → (length old.args == length new.args) ≡ long
        → cond (not version) (reasons.ActionVersion old.kind ∷ [])
        (cond (not long) (reasons.ArgumentCount old.kind ∷ []) (of_arguments old.kind 1 old.args new.args)) ≡ [] → old ≡ new
    by false long one two n = absurd (cc)
    by true false one two n = absurd (cc)
    by true true one two n =
        let same_kind : old.kind ≡ new.kind = bytes_back old.kind new.kind kind in
        let same_version : old.version ≡ new.version = (unsigned_Decides old.version new.version).0 one in
        let same_args : old.args ≡ new.args =
        arguments_same old.kind 1 old.args new.args ((unsigned_Decides (length old.args) (length new.args)).0 two) n in
        λ i. record { kind = same_kind i; version = same_version i; args = same_args i }

pub action_none : (action : Action) → of_action (action, action) ≡ []
action_none action =
    ap₂ (λ (version long : Bool). cond (not version) (reasons.ActionVersion action.kind ∷ [])
    (cond (not long) (reasons.ArgumentCount action.kind ∷ []) (of_arguments action.kind 1 action.args action.args)))
    ((unsigned_Decides action.version action.version).1 refl) ((unsigned_Decides (length action.args) (length action.args)).1 refl)
    ∙ arguments_none action.kind 1 action.args

-- the argument that a reason is about
pub record Differs (kind : List ℕ) (first : ℕ) (xs ys : List Value) (reason : Reason) : Type 0 where
  pub number : ℕ
  pub was : Value
  pub is : Value
  pub says : reasons.Argument kind (first + number) was is ≡ reason
  pub in_old : (before : List Value) × (following : List Value) × (xs ≡ before ++ was ∷ following) × (number ≡ length before)
  pub in_new : (before : List Value) × (following : List Value) × (ys ≡ before ++ is ∷ following) × (number ≡ length before)
  pub other : was ≢ is

pub argument_of : (kind : List ℕ) (first : ℕ) (xs ys : List Value) (reason : Reason) → Contains (of_arguments kind first xs ys) reason → Differs kind first xs ys reason
argument_of kind first [] ys reason h = absurd (contains_none reason h)
argument_of kind first (x ∷ xs) [] reason h = absurd (contains_none reason h)
argument_of kind first (x ∷ xs) (y ∷ ys) reason h =
    elim (Contains-append_cases (cond (is_value x y) [] (reasons.Argument kind first x y ∷ [])) (of_arguments kind (first + 1) xs ys) reason h) [
      | inl here ↦ at (is_value x y) refl here
      | inr later ↦ following (argument_of kind (first + 1) xs ys reason later)
    ]
  where
    at : (b : Bool) → is_value x y ≡ b → Contains (cond b [] (reasons.Argument kind first x y ∷ [])) reason → Differs kind first (x ∷ xs) (y ∷ ys) reason
    at true e c = absurd (contains_none reason c)
    at false e c = record {
      number = 0;
      was = x;
      is = y;
      says = ap (λ n. reasons.Argument kind n x y) (omega arith) ∙ contains_one (reasons.Argument kind first x y) reason c;
      in_old = ([], xs, refl, refl);
      in_new = ([], ys, refl, refl);
      other = value_other x y e;
    }

    one_more : (first number : ℕ) → first + suc number ≡ first + 1 + number
    one_more first number = omega arith

    following : Differs kind (first + 1) xs ys reason → Differs kind first (x ∷ xs) (y ∷ ys) reason
    following found = record {
      number = suc found.number;
      was = found.was;
      is = found.is;
      says = ap (λ n. reasons.Argument kind n found.was found.is) (one_more first found.number) ∙ found.says;
      in_old = (x ∷ found.in_old.0, found.in_old.1, ap (λ (l : List Value). x ∷ l) found.in_old.2, ap suc found.in_old.3);
      in_new = (y ∷ found.in_new.0, found.in_new.1, ap (λ (l : List Value). y ∷ l) found.in_new.2, ap suc found.in_new.3);
      other = found.other;
    }

next : (number long : ℕ) → number ≡ long → 1 + number ≡ long + 1
next number long e = omega (arith, e)

module _ (kind : List ℕ) (xs ys : List Value) (reason : Reason) (found : Differs kind 1 xs ys reason) where
  pub argument_was : IsArgument xs (1 + found.number) found.was
  argument_was = (found.in_old.0, found.in_old.1, found.in_old.2, next found.number (length found.in_old.0) found.in_old.3)

  pub argument_is : IsArgument ys (1 + found.number) found.is
  argument_is = (found.in_new.0, found.in_new.1, found.in_new.2, next found.number (length found.in_new.0) found.in_new.3)

-- ---- Kinds that the others do not have

one_like : (action : Action) (others : List Action) → Contains (map kind_of others) action.kind → list_any (has_kind action) others ≡ true
one_like action [] h = absurd (contains_none action.kind h)
one_like action (other ∷ others) h = by (has_kind action other) refl (one_like action others)
  where
    by : (b : Bool) → has_kind action other ≡ b → (Contains (map kind_of others) action.kind → list_any (has_kind action) others ≡ true)
        → (b || list_any (has_kind action) others) ≡ true
    by true e following = refl
    by false e following = elim (Contains-append_cases (other.kind ∷ []) (map kind_of others) action.kind h) [
      | inl here ↦ absurd (true≢false (sym (kind_alike action other (sym (contains_one other.kind action.kind here))) ∙ e))
      | inr later ↦ following later
    ]

some_same : (kind other : List ℕ) → Some kind ≡ Some other → kind ≡ other
some_same kind other e = cc

pub first_is : (others actions : List Action) (kind : List ℕ) → first_other others actions ≡ Some kind → IsOfOne others actions kind
first_is others [] kind e = absurd (cc)
first_is others (action ∷ actions) kind e = by (list_any (has_kind action) others) refl (first_is others actions kind) e
  where
    by : (b : Bool) → list_any (has_kind action) others ≡ b → (first_other others actions ≡ Some kind → IsOfOne others actions kind)
        → option_map (λ (a : Action). a.kind) (cond (not b) (Some action) (find (λ (a : Action). not (list_any (has_kind a) others)) actions)) ≡ Some kind
        → IsOfOne others (action ∷ actions) kind
    by true has later e =
        let rest = later e in
        (contains_later action.kind (map kind_of actions) kind rest.0, rest.1)
    by false none later e =
        let same : action.kind ≡ kind = some_same action.kind kind e in (
          subst (λ (k : List ℕ). Contains (action.kind ∷ map kind_of actions) k) same (contains_first action.kind (map kind_of actions)),
          λ among. true≢false (sym (one_like action others (subst (λ (k : List ℕ). Contains (map kind_of others) k) (sym same) among)) ∙ none),
        )

-- actions whose kinds are the same in order are declared alike
pub kinds_alike : (old new : List Action) → map kind_of old ≡ map kind_of new → pointwise has_kind old new ≡ true
kinds_alike old new same = alike_pairs has_kind kind_of kind_alike old new same
