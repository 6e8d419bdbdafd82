-- The parts of a record that are the same, and those that changed.
use Rattle.std.proofs.Common.{◌≡◌, ◌≢◌, ◌↔◌, ℕ, Bool, T, true, false, true≢false, ◌&&◌, cond, List, [], ◌∷◌, map, Option, Some, None, refl, sym, ap, ap₂, subst, ◌∙◌, bytes_eq}
use Rattle.std.proofs.lemmas.Bool.{and_parts}
use Rattle.std.specs.Prelude.{IsTrue, is_some}
use Rattle.std.specs.Cmp.{booleans_Decides}
use Rattle.std.specs.Cmp.Lexicographic.{bytes_decides, nat_list_cmp_total, pointwise}
use Rattle.std.specs.FinMap.Entries.{is_sorted, same_entries}
use Rattle.std.specs.List.{Contains}
use Rattle.gb_core.proofs.Found.{tied_same}
use Rattle.gb_core.specs.Lists.{byte_order}
use Rattle.gb_core.specs.declared.value.Value.{Value}
use Rattle.gb_core.specs.declared.value.Value.TheVariants as values
use Rattle.gb_action.proofs.Reported.{is_change-reported, reported-is_change}
use Rattle.gb_action.specs.Changes.{IsChange, changes_between}
use Rattle.gb_action.specs.Files.{Tree, file_at}
use Rattle.gb_action.specs.Shapes.{is_form}
use Rattle.gb_action.specs.declared.change.Change.{Change}
use Rattle.gb_action.specs.declared.change.Change.TheVariants.{Added, Modified, Removed}
use Rattle.gb_action.specs.declared.output_files.Form.{Form}
use Rattle.gb_action.specs.declared.output_files.Form.TheVariants as forms
use Rattle.gb_history.specs.Record.{Prints}
use Rattle.gb_history.specs.declared.record.OutputRecord.{OutputRecord}
use Rattle.gb_reason.specs.Real.{declared}
use Rattle.gb_reason.specs.Reasons.{has_name, is_output, of_files, of_output, of_value}
use Rattle.gb_reason.specs.Same.{is_value}
use Rattle.gb_reason.specs.declared.reason.Reason.TheVariants as reasons
use Rattle.gb_reason.proofs.Lists.{contains_first, none_mapped, none_of, own_pairs}

-- ---- Tests

all_back : {X : Type 0} (E : X → X → Bool) → ((x y : X) → E x y ≡ true → x ≡ y) → (xs ys : List X) → pointwise E xs ys ≡ true → xs ≡ ys
all_back E back [] [] e = refl
all_back E back [] (y ∷ ys) e = absurd (true≢false (sym e))
all_back E back (x ∷ xs) [] e = absurd (true≢false (sym e))
all_back E back (x ∷ xs) (y ∷ ys) e =
    let parts = and_parts (E x y) (pointwise E xs ys) e in
    ap₂ (λ a (l : List _). a ∷ l) (back x y parts.0) (all_back E back xs ys parts.1)

pub bytes_own : (xs : List ℕ) → bytes_eq xs xs ≡ true
bytes_own xs = (bytes_decides xs xs).1 refl

pub bytes_back : (xs ys : List ℕ) → bytes_eq xs ys ≡ true → xs ≡ ys
bytes_back xs ys e = (bytes_decides xs ys).0 e

pub value_back : (a b : Value) → is_value a b ≡ true → a ≡ b
value_back (values.Text a) (values.Text b) e = ap (λ x. values.Text x) (bytes_back a b e)
value_back (values.Flag a) (values.Flag b) e = ap (λ x. values.Flag x) ((booleans_Decides a b).0 e)
value_back (values.List a) (values.List b) e = ap (λ x. values.List x) (all_back bytes_eq bytes_back a b e)
value_back (values.Place a) (values.Place b) e = ap (λ x. values.Place x) (bytes_back a b e)
value_back (values.Task a) (values.Task b) e = ap (λ x. values.Task x) (bytes_back a b e)
value_back a b e = absurd (true≢false (sym e))

pub value_own : (a : Value) → is_value a a ≡ true
value_own (values.Text a) = bytes_own a
value_own (values.Flag a) = (booleans_Decides a a).1 refl
value_own (values.List a) = own_pairs bytes_eq bytes_own a
value_own (values.Place a) = bytes_own a
value_own (values.Task a) = bytes_own a

-- ---- The result of a test of sameness

-- it has the same result as another test of the same
tested : {X : Type 0} {x y : X} (b c : Bool) → (IsTrue b ↔ (x ≡ y)) → (c ≡ true → x ≡ y) → (x ≡ y → c ≡ true) → b ≡ c
tested true c says back own = sym (own (says.0 refl))
tested false true says back own = says.1 (back refl)
tested false false says back own = refl

pub value_tested : (b : Bool) (x y : Value) → (IsTrue b ↔ (x ≡ y)) → b ≡ is_value x y
value_tested b x y says = tested b (is_value x y) says (value_back x y) (λ same. subst (λ z. is_value x z ≡ true) same (value_own x))

form_back : (a b : Form) → is_form a b ≡ true → a ≡ b
form_back forms.File forms.File e = refl
form_back forms.File forms.Dir e = absurd (true≢false (sym e))
form_back forms.Dir forms.File e = absurd (true≢false (sym e))
form_back forms.Dir forms.Dir e = refl

form_own : (a : Form) → is_form a a ≡ true
form_own forms.File = refl
form_own forms.Dir = refl

-- ---- Changes

-- a list of changes without a change
module _ (old new : Tree) (none : changes_between old new ≡ []) where
  no_change : (change : Change) → IsChange old new change → ⊥
  no_change change is = none_of (changes_between old new) change none (is_change-reported old new change is)

  same_at : (path : List ℕ) (o n : Option (List ℕ)) → file_at old path ≡ o → file_at new path ≡ n → file_at old path ≡ file_at new path
  same_at path None None p q = p ∙ sym q
  same_at path None (Some y) p q = absurd (no_change (Added path) (p, ap is_some q))
  same_at path (Some x) None p q = absurd (no_change (Removed path) (ap is_some p, q))
  same_at path (Some x) (Some y) p q = by (bytes_eq x y) refl
    where
      same_some : (a b : List ℕ) → Some a ≡ Some b → a ≡ b
      same_some a b e = cc

      by : (b : Bool) → bytes_eq x y ≡ b → file_at old path ≡ file_at new path
      by true e = p ∙ ap Some (bytes_back x y e) ∙ sym q
      by false e =
          absurd
          (no_change (Modified path)
          (ap is_some p, ap is_some q, λ same. true≢false (sym ((bytes_decides x y).1 (same_some x y (sym p ∙ same ∙ q))) ∙ e)))

true_T : (b : Bool) → IsTrue b → T b
true_T b e = subst T (sym e) tt

pub none_changed : (old new : Tree) → IsTrue (is_sorted byte_order old) → IsTrue (is_sorted byte_order new) → changes_between old new ≡ [] → old ≡ new
none_changed old new p q none =
    same_entries byte_order nat_list_cmp_total tied_same old new (true_T _ p) (true_T _ q)
    (λ path. same_at old new none path (file_at old path) (file_at new path) refl refl)

pub none_between : (tree : Tree) → changes_between tree tree ≡ []
none_between tree = by (changes_between tree tree) refl
  where
    by : (changes : List Change) → changes_between tree tree ≡ changes → changes ≡ []
    by [] e = refl
    by (change ∷ changes) e =
        absurd (never change (reported-is_change tree tree change (subst (λ l. Contains l change) (sym e) (contains_first change changes))))
      where
        none_some : (o : Option (List ℕ)) → o ≡ None → is_some o ≡ true → ⊥
        none_some o e some = true≢false (sym some ∙ ap is_some e)

        never : (change : Change) → IsChange tree tree change → ⊥
        never (Added path) is = none_some (file_at tree path) is.0 is.1
        never (Modified path) is = is.2 refl
        never (Removed path) is = none_some (file_at tree path) is.1 is.0

-- ---- Values

pub value_same : (old new : List ℕ × Value) → has_name old new ≡ true → of_value (old, new) ≡ [] → old ≡ new
value_same old new name none = by (is_value old.1 new.1) refl none
  where
    by : (b : Bool) → is_value old.1 new.1 ≡ b → cond b [] (reasons.Value old.0 old.1 new.1 ∷ []) ≡ [] → old ≡ new
    by true e n = ap₂ (λ (x : List ℕ) (v : Value). (x, v)) (bytes_back old.0 new.0 name) (value_back old.1 new.1 e)
    by false e n = absurd (cc)

pub value_none : (value : List ℕ × Value) → of_value (value, value) ≡ []
value_none value = ap (λ b. cond b [] (reasons.Value value.0 value.1 value.1 ∷ [])) (value_own value.1)

pub value_other : (was is : Value) → is_value was is ≡ false → was ≢ is
value_other was is e same = true≢false (sym (subst (λ v. is_value was v ≡ true) same (value_own was)) ∙ e)

pub name_own : {X : Type 0} (entry : List ℕ × X) → has_name entry entry ≡ true
name_own entry = bytes_own entry.0

pub name_back : {X : Type 0} (old new : List ℕ × X) → has_name old new ≡ true → old.0 ≡ new.0
name_back old new e = bytes_back old.0 new.0 e

pub name_alike : {X : Type 0} (old new : List ℕ × X) → old.0 ≡ new.0 → has_name old new ≡ true
name_alike old new e = (bytes_decides old.0 new.0).1 e

-- ---- Outputs

-- how one output relates to another that is declared as it is
pub record AreOne (old new : OutputRecord) : Type 0 where
  pub name : old.prints.0 ≡ new.prints.0
  pub form : old.form ≡ new.form
  pub place : old.place ≡ new.place

pub output_back : (old new : OutputRecord) → is_output old new ≡ true → AreOne old new
output_back old new e =
    let first = and_parts (bytes_eq old.prints.0 new.prints.0 && is_form old.form new.form) (bytes_eq old.place new.place) e in
    let prefix = and_parts (bytes_eq old.prints.0 new.prints.0) (is_form old.form new.form) first.0 in
    record {
      name = bytes_back old.prints.0 new.prints.0 prefix.0;
      form = form_back old.form new.form prefix.1;
      place = bytes_back old.place new.place first.1;
    }

pub output_own : (output : OutputRecord) → is_output output output ≡ true
output_own output =
    ap₂ (λ (x y : Bool). x && y) (ap₂ (λ (x y : Bool). x && y) (bytes_own output.prints.0) (form_own output.form)) (bytes_own output.place)

pub output_alike : (old new : OutputRecord) → declared old ≡ declared new → is_output old new ≡ true
output_alike old new e =
    let name : old.prints.0 ≡ new.prints.0 = ap (λ d. d.0) e in
    let form : old.form ≡ new.form = ap (λ d. d.1) e in
    let place : old.place ≡ new.place = ap (λ d. d.2) e in
    ap₂ (λ (x y : Bool). x && y)
    (ap₂ (λ (x y : Bool). x && y) ((bytes_decides old.prints.0 new.prints.0).1 name)
    (subst (λ f. is_form old.form f ≡ true) form (form_own old.form)))
    ((bytes_decides old.place new.place).1 place)

abbrev pub HasOrder : Prints → Type 0
HasOrder prints = IsTrue (is_sorted byte_order prints.1)

pub output_same : (old new : OutputRecord) → HasOrder old.prints → HasOrder new.prints → is_output old new ≡ true → of_output (old, new) ≡ [] → old ≡ new
output_same old new p q e none =
    let one = output_back old new e in
    let files : old.prints.1 ≡ new.prints.1 =
    none_changed old.prints.1 new.prints.1 p q (none_mapped (reasons.Output old.place) (changes_between old.prints.1 new.prints.1) none) in
    λ i. record { form = one.form i; place = one.place i; prints = (one.name i, files i) }

pub output_none : (output : OutputRecord) → of_output (output, output) ≡ []
output_none output = ap (map (reasons.Output output.place)) (none_between output.prints.1)

-- ---- File properties

pub files_same : (old new : Prints) → HasOrder old → HasOrder new → has_name old new ≡ true → of_files (old, new) ≡ [] → old ≡ new
files_same old new p q name none =
    let files : old.1 ≡ new.1 = none_changed old.1 new.1 p q (none_mapped (reasons.File old.0) (changes_between old.1 new.1) none) in
    let same : old.0 ≡ new.0 = bytes_back old.0 new.0 name in
    λ i. (same i, files i)

pub files_none : (prints : Prints) → of_files (prints, prints) ≡ []
files_none prints = ap (map (reasons.File prints.0)) (none_between prints.1)
