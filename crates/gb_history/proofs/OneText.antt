-- A text is that of at most one history, and of one record.
use Rattle.std.proofs.Common.{◌≡◌, ℕ, ◌-◌, false, List, [], ◌∷◌, length, take, map, codes, Some, Ok, IsUtf8, refl, sym, ap, ap₂, ◌∙◌, subst, arith, true≢false}
use Rattle.std.specs.Prelude.{bytes_eq}
use Rattle.std.specs.List.{AllByRecursion}
use Rattle.std.specs.Cmp.Lexicographic.{bytes_decides}
use Rattle.hex.specs.Hex.{encode_lower, decode_sized}
use Rattle.hex.proofs.HexLemmas.{decode_sized-encode_lower}
use Rattle.serde_json.specs.Data.{Data, string, object, member, Members, no_members}
use Rattle.serde_json.specs.Read.{read}
use Rattle.serde_json.specs.View.{items_of}
use Rattle.serde_json.specs.Written.{compact_text}
use Rattle.gb_core.specs.declared.value.Value.{Value}
use Rattle.gb_core.specs.declared.value.Value.TheVariants as values
use Rattle.gb_action.specs.declared.output_files.Form.{Form}
use Rattle.gb_action.specs.declared.output_files.Form.TheVariants as forms
use Rattle.gb_plan.specs.declared.task.Action.{Action}
use Rattle.gb_history.specs.declared.record.OutputRecord.{OutputRecord}
use Rattle.gb_history.specs.declared.record.Edition.{Edition}
use Rattle.gb_history.specs.declared.record.Edition.TheVariants as editions
use Rattle.gb_history.specs.Record.{Prints, Record, IsAction, IsPrint, ArePrints, IsOutput, IsWellFormed, IsSaid, AreHeld}
use Rattle.gb_history.specs.Text.{value_json, input_json, action_json, print_json, prints_json, shape_text, output_json, run_json, held_json, history_json, edition_number, history_text_in, FitsEdition, IsActionIn, RecordFits, IsTextOf, IsHistoryText}
use Rattle.gb_history.proofs.Lists.{IsBytes-all, all_both, items_of_inj}
use Rattle.gb_history.proofs.Records.{are_said, read-history, take-sealed}

same₃ : {A B C D : Type 0} (f : A → B → C → D) {a x : A} {b y : B} {c z : C} → a ≡ x → b ≡ y → c ≡ z → f a b c ≡ f x y z
same₃ f p q r = cc

same₄ : {A B C D E : Type 0} (f : A → B → C → D → E) {a w : A} {b x : B} {c y : C} {d z : D} → a ≡ w → b ≡ x → c ≡ y → d ≡ z → f a b c d ≡ f w x y z
same₄ f p q r s = cc

abbrev action_with : List ℕ → ℕ → List Value → Action
action_with kind version args = record { kind = kind; version = version; args = args }

-- lists of equal images, where the image determines the element
map_back : {X : Type 0} (f : X → Data) (P : X → Type 0) → ((x y : X) → P x → P y → f x ≡ f y → x ≡ y) → (xs ys : List X) → AllByRecursion P xs → AllByRecursion P ys
    → items_of (map f xs) ≡ items_of (map f ys) → xs ≡ ys
map_back {X = X} f P back xs ys p q e = by xs ys p q (items_of_inj (map f xs) (map f ys) e)
  where
    by : (xs ys : List X) → AllByRecursion P xs → AllByRecursion P ys → map f xs ≡ map f ys → xs ≡ ys
    by [] [] p q e = refl
    by [] (y ∷ ys) p q e = absurd (cc)
    by (x ∷ xs) [] p q e = absurd (cc)
    by (x ∷ xs) (y ∷ ys) p q e =
        let head : f x ≡ f y = cc in
        let rest : map f xs ≡ map f ys = cc in
        ap₂ (λ a (l : List X). a ∷ l) (back x y p.0 q.0 head) (by xs ys p.1 q.1 rest)

texts_back : (xs ys : List (List ℕ)) → map string xs ≡ map string ys → xs ≡ ys
texts_back [] [] e = refl
texts_back [] (y ∷ ys) e = absurd (cc)
texts_back (x ∷ xs) [] e = absurd (cc)
texts_back (x ∷ xs) (y ∷ ys) e =
    let head : x ≡ y = cc in
    let rest : map string xs ≡ map string ys = cc in
    ap₂ (λ a (l : List (List ℕ)). a ∷ l) head (texts_back xs ys rest)

-- the key of an object of one member
abbrev key_in : Members → List ℕ
key_in no_members = []
key_in (member key d more) = key

abbrev key_of : Data → List ℕ
key_of (object members) = key_in members
key_of other = []

differ : {A : Type 0} (one other : Data) → bytes_eq (key_of one) (key_of other) ≡ false → one ≡ other → A
differ one other separate e = absurd (true≢false (sym ((bytes_decides (key_of one) (key_of other)).1 (ap key_of e)) ∙ separate))

value_back : (v w : Value) → value_json v ≡ value_json w → v ≡ w
value_back (values.Text a) (values.Text b) e = let same : a ≡ b = cc in ap values.Text same
value_back (values.Text a) (values.Flag b) e = differ (value_json (values.Text a)) (value_json (values.Flag b)) refl e
value_back (values.Text a) (values.List b) e = differ (value_json (values.Text a)) (value_json (values.List b)) refl e
value_back (values.Text a) (values.Place b) e = differ (value_json (values.Text a)) (value_json (values.Place b)) refl e
value_back (values.Text a) (values.Task b) e = differ (value_json (values.Text a)) (value_json (values.Task b)) refl e
value_back (values.Flag a) (values.Text b) e = differ (value_json (values.Flag a)) (value_json (values.Text b)) refl e
value_back (values.Flag a) (values.Flag b) e = let same : a ≡ b = cc in ap values.Flag same
value_back (values.Flag a) (values.List b) e = differ (value_json (values.Flag a)) (value_json (values.List b)) refl e
value_back (values.Flag a) (values.Place b) e = differ (value_json (values.Flag a)) (value_json (values.Place b)) refl e
value_back (values.Flag a) (values.Task b) e = differ (value_json (values.Flag a)) (value_json (values.Task b)) refl e
value_back (values.List a) (values.Text b) e = differ (value_json (values.List a)) (value_json (values.Text b)) refl e
value_back (values.List a) (values.Flag b) e = differ (value_json (values.List a)) (value_json (values.Flag b)) refl e
value_back (values.List a) (values.List b) e =
    let same : items_of (map string a) ≡ items_of (map string b) = cc in
    ap values.List (texts_back a b (items_of_inj (map string a) (map string b) same))
value_back (values.List a) (values.Place b) e = differ (value_json (values.List a)) (value_json (values.Place b)) refl e
value_back (values.List a) (values.Task b) e = differ (value_json (values.List a)) (value_json (values.Task b)) refl e
value_back (values.Place a) (values.Text b) e = differ (value_json (values.Place a)) (value_json (values.Text b)) refl e
value_back (values.Place a) (values.Flag b) e = differ (value_json (values.Place a)) (value_json (values.Flag b)) refl e
value_back (values.Place a) (values.List b) e = differ (value_json (values.Place a)) (value_json (values.List b)) refl e
value_back (values.Place a) (values.Place b) e = let same : a ≡ b = cc in ap values.Place same
value_back (values.Place a) (values.Task b) e = differ (value_json (values.Place a)) (value_json (values.Task b)) refl e
value_back (values.Task a) (values.Text b) e = differ (value_json (values.Task a)) (value_json (values.Text b)) refl e
value_back (values.Task a) (values.Flag b) e = differ (value_json (values.Task a)) (value_json (values.Flag b)) refl e
value_back (values.Task a) (values.List b) e = differ (value_json (values.Task a)) (value_json (values.List b)) refl e
value_back (values.Task a) (values.Place b) e = differ (value_json (values.Task a)) (value_json (values.Place b)) refl e
value_back (values.Task a) (values.Task b) e = let same : a ≡ b = cc in ap values.Task same

abbrev Any : {X : Type 0} → X → Type 0
Any x = Unit {0}

all_any : {X : Type 0} (xs : List X) → AllByRecursion Any xs
all_any [] = tt
all_any (x ∷ xs) = (tt, all_any xs)

input_back : (v w : List ℕ × Value) → input_json v ≡ input_json w → v ≡ w
input_back v w e =
    let name : v.0 ≡ w.0 = cc in
    let reported : value_json v.1 ≡ value_json w.1 = cc in
    ap₂ (λ (n : List ℕ) (x : Value). (n, x)) name (value_back v.1 w.1 reported)

args_back : (xs ys : List Value) → items_of (map value_json xs) ≡ items_of (map value_json ys) → xs ≡ ys
args_back xs ys e = map_back value_json Any (λ v w p q k. value_back v w k) xs ys (all_any xs) (all_any ys) e

action_back : (edition : Edition) (a b : Action) → IsActionIn edition a → IsActionIn edition b → action_json edition a ≡ action_json edition b → a ≡ b
action_back editions.First a b p q e =
    let kind : a.kind ≡ b.kind = cc in
    let reported : items_of (map value_json a.args) ≡ items_of (map value_json b.args) = cc in
    let args : a.args ≡ b.args = args_back a.args b.args reported in
    same₃ action_with kind (p.1 ∙ sym q.1) args
action_back editions.Second a b p q e =
    let kind : a.kind ≡ b.kind = cc in
    let reported : items_of (map value_json a.args) ≡ items_of (map value_json b.args) = cc in
    let args : a.args ≡ b.args = args_back a.args b.args reported in
    let version : a.version ≡ b.version = cc in
    same₃ action_with kind version args

print_back : (p q : List ℕ × List ℕ) → IsPrint p → IsPrint q → print_json p ≡ print_json q → p ≡ q
print_back p q h k e =
    let path : p.0 ≡ q.0 = cc in
    let text : encode_lower p.1 ≡ encode_lower q.1 = cc in
    let left : decode_sized (encode_lower p.1) 32 ≡ Ok p.1 = decode_sized-encode_lower p.1 32 h.2 (IsBytes-all p.1 h.3) in
    let right : decode_sized (encode_lower q.1) 32 ≡ Ok q.1 = decode_sized-encode_lower q.1 32 k.2 (IsBytes-all q.1 k.3) in
    let digest : p.1 ≡ q.1 = cc in
    ap₂ (λ (a b : List ℕ). (a, b)) path digest

prints_back : (p q : Prints) → ArePrints p → ArePrints q → prints_json p ≡ prints_json q → p ≡ q
prints_back p q h k e =
    let name : p.0 ≡ q.0 = cc in
    let reported : items_of (map print_json p.1) ≡ items_of (map print_json q.1) = cc in
    ap₂ (λ (a : List ℕ) (b : List (List ℕ × List ℕ)). (a, b)) name (map_back print_json IsPrint print_back p.1 q.1 h.1 k.1 reported)

shape_back : (a b : Form) → shape_text a ≡ shape_text b → a ≡ b
shape_back forms.File forms.File e = refl
shape_back forms.File forms.Dir e = absurd (true≢false (sym ((bytes_decides (codes "file") (codes "dir")).1 e)))
shape_back forms.Dir forms.File e = absurd (true≢false (sym ((bytes_decides (codes "dir") (codes "file")).1 e)))
shape_back forms.Dir forms.Dir e = refl

output_back : (a b : OutputRecord) → IsOutput a → IsOutput b → output_json a ≡ output_json b → a ≡ b
output_back a b p q e =
    let name : a.prints.0 ≡ b.prints.0 = cc in
    let place : a.place ≡ b.place = cc in
    let reported : items_of (map print_json a.prints.1) ≡ items_of (map print_json b.prints.1) = cc in
    let shape : shape_text a.form ≡ shape_text b.form = cc in
    let form : a.form ≡ b.form = shape_back a.form b.form shape in
    let digests : a.prints.1 ≡ b.prints.1 = map_back print_json IsPrint print_back a.prints.1 b.prints.1 p.2.1 q.2.1 reported in
    let prints : a.prints ≡ b.prints = ap₂ (λ (x : List ℕ) (y : List (List ℕ × List ℕ)). (x, y)) name digests in
    same₃ (λ (f : Form) (at : List ℕ) (d : Prints). record { form = f; place = at; prints = d }) form place prints

edition_back : (a b : Edition) → edition_number a ≡ edition_number b → a ≡ b
edition_back editions.First editions.First e = refl
edition_back editions.First editions.Second e = absurd (omega (arith, e))
edition_back editions.Second editions.First e = absurd (omega (arith, e))
edition_back editions.Second editions.Second e = refl

run_back : (edition : Edition) (path : List ℕ) (a b : Record) → IsWellFormed a → IsWellFormed b → AllByRecursion (FitsEdition edition) a.actions
    → AllByRecursion (FitsEdition edition) b.actions → run_json edition path a ≡ run_json edition path b → a ≡ b
run_back edition path a b p q f g e =
    let reported_actions : items_of (map (action_json edition) a.actions) ≡ items_of (map (action_json edition) b.actions) = cc in
    let reported_inputs : items_of (map prints_json a.inputs) ≡ items_of (map prints_json b.inputs) = cc in
    let reported_outputs : items_of (map output_json a.outputs) ≡ items_of (map output_json b.outputs) = cc in
    let reported_values : items_of (map input_json a.values) ≡ items_of (map input_json b.values) = cc in
    let actions : a.actions ≡ b.actions = map_back (action_json edition) (IsActionIn edition) (action_back edition) a.actions b.actions
    (all_both IsAction (FitsEdition edition) a.actions p.actions f) (all_both IsAction (FitsEdition edition) b.actions q.actions g) reported_actions in
    let inputs : a.inputs ≡ b.inputs = map_back prints_json ArePrints prints_back a.inputs b.inputs p.inputs q.inputs reported_inputs in
    let outputs : a.outputs ≡ b.outputs = map_back output_json IsOutput output_back a.outputs b.outputs p.outputs q.outputs reported_outputs in
    let values_same : a.values ≡ b.values = map_back input_json Any (λ v w x y k. input_back v w k) a.values b.values (all_any a.values) (all_any b.values) reported_values in
    same₄ (λ (w : List Action) (x : List (List ℕ × Value)) (y : List Prints) (z : List OutputRecord). record { actions = w; values = x; inputs = y; outputs = z }) actions values_same inputs outputs

some_back : (a b : Data) → Some a ≡ Some b → a ≡ b
some_back a b e = cc

text_back : (ea eb : Edition) (a b : List (List ℕ × Record)) → history_text_in ea a ≡ history_text_in eb b
    → compact_text (history_json ea a) ≡ compact_text (history_json eb b)
unfolding history_text_in
text_back ea eb a b e = sym (take-sealed (compact_text (history_json ea a))) ∙ ap (λ t. take (length t - 66) t) e ∙ take-sealed (compact_text (history_json eb b))

-- a text can encode it, in this edition
abbrev IsSaidIn : Edition → List ℕ × Record → Type 0
IsSaidIn edition one = IsSaid one × RecordFits edition one

held_back : (edition : Edition) (a b : List ℕ × Record) → IsSaidIn edition a → IsSaidIn edition b → held_json edition a ≡ held_json edition b → a ≡ b
held_back edition a b p q e =
    let path : a.0 ≡ b.0 = cc in
    let runs : run_json edition b.0 a.1 ≡ run_json edition b.0 b.1 = ap (λ x. run_json edition x a.1) (sym path) ∙ e in
    ap₂ (λ (x : List ℕ) (y : Record). (x, y)) path (run_back edition b.0 a.1 b.1 p.0.1 q.0.1 p.1 q.1 runs)

records_back : (ea eb : Edition) (a b : List (List ℕ × Record)) → AllByRecursion IsSaid a → AllByRecursion IsSaid b → AllByRecursion (RecordFits ea) a
    → AllByRecursion (RecordFits eb) b → history_text_in ea a ≡ history_text_in eb b → a ≡ b
records_back ea eb a b p q f g e =
    let same : history_json ea a ≡ history_json eb b =
    some_back _ _ (sym (read-history ea a p) ∙ ap read (text_back ea eb a b e) ∙ read-history eb b q) in
    let numbers : edition_number ea ≡ edition_number eb = cc in
    let editions_same : ea ≡ eb = edition_back ea eb numbers in
    let reported : items_of (map (held_json ea) a) ≡ items_of (map (held_json eb) b) = cc in
    map_back (held_json eb) (IsSaidIn eb) (held_back eb) a b
    (all_both IsSaid (RecordFits eb) a p (subst (λ x. AllByRecursion (RecordFits x) a) editions_same f)) (all_both IsSaid (RecordFits eb) b q g)
    (ap (λ x. items_of (map (held_json x) a)) (sym editions_same) ∙ reported)

pub one_history : (a b : List (List ℕ × Record)) (text : List ℕ) → AreHeld a → AreHeld b → IsHistoryText a text → IsHistoryText b text → a ≡ b
one_history a b text p q of on =
    records_back of.edition on.edition a b (are_said a p.each) (are_said b q.each) of.fits on.fits (sym of.same ∙ on.same)

-- the first record
abbrev first_run : Record → List (List ℕ × Record) → Record
first_run run [] = run
first_run run (one ∷ records) = one.1

pub one_text : (path : List ℕ) (a b : Record) (text : List ℕ) → IsUtf8 path → IsWellFormed a → IsWellFormed b → IsTextOf path a text → IsTextOf path b text → a ≡ b
one_text path a b text u p q of on =
    ap (first_run a)
    (records_back of.edition on.edition ((path, a) ∷ []) ((path, b) ∷ []) ((u, p), tt) ((u, q), tt) (of.fits, tt) (on.fits, tt) (sym of.same ∙ on.same))
