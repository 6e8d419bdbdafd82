-- The JSON of records is ordinary, so its text is UTF-8 and reads back; and where its seal is.
use Rattle.std.proofs.Common.{◌≡◌, ℕ, suc, ◌+◌, ◌-◌, ◌<◌, ◌≤◌, List, [], ◌∷◌, ◌++◌, length, take, map, Some, true, nat_lt, zero, ltb-true, IsUtf8, refl, arith, length-append}
use Rattle.std.specs.List.{AllByRecursion}
use Rattle.std.specs.Str.{IsAscii}
use Rattle.std.proofs.lemmas.Bool.{and_parts}
use Rattle.std.proofs.lemmas.Str.{IsUtf8-from_ascii}
use Rattle.std.proofs.Math.Seq.{take-append_seam}
use Rattle.hex.specs.Hex.{encode_lower, lower_digits}
use Rattle.hex.proofs.HexLemmas.{length-encode_with, IsAscii-encode_with}
use Rattle.sha2.specs.Sha256.{sha256}
use Rattle.sha2.proofs.Facts256.{length-sha256}
use Rattle.json.proofs.Printed.Utf8.{are_ascii, IsUtf8-are_ascii}
use Rattle.serde_json.specs.Data.{Data, string, depth, items_depth}
use Rattle.serde_json.specs.Read.{read, max_depth}
use Rattle.serde_json.specs.View.{items_of}
use Rattle.serde_json.specs.Written.{compact_text}
use Rattle.gb_core.specs.declared.value.Value.{Value}
use Rattle.gb_core.specs.declared.value.Value.TheVariants as values
use Rattle.gb_action.specs.declared.output_files.Form.{Form}
use Rattle.gb_action.specs.declared.output_files.Form.TheVariants as forms
use Rattle.gb_plan.specs.declared.task.Action.{Action}
use Rattle.gb_history.specs.declared.record.Edition.{Edition}
use Rattle.gb_history.specs.declared.record.Edition.TheVariants as editions
use Rattle.gb_history.specs.declared.record.OutputRecord.{OutputRecord}
use Rattle.gb_history.specs.Record.{Prints, Record, IsArgument, IsInput, IsAction, IsPrint, ArePrints, IsOutput, IsWellFormed, IsSaid, IsHeld}
use Rattle.gb_history.specs.Text.{value_json, input_json, action_json, print_json, prints_json, shape_text, output_json, run_json, edition_number, held_json, history_json, sealed}
use Rattle.gb_history.proofs.Lists.{all_weaker}
use Rattle.gb_history.proofs.Ordinary.{IsOrdinary, AreOrdinary, read-compact_text, IsUtf8-compact_text}

are_ordinary : {X : Type 0} (f : X → Data) (P : X → Type 0) → ((x : X) → P x → IsOrdinary (f x)) → (xs : List X) → AllByRecursion P xs → AreOrdinary (items_of (map f xs))
are_ordinary f P each [] all = tt
are_ordinary f P each (x ∷ xs) all = (each x all.0, are_ordinary f P each xs all.1)

shallow : {X : Type 0} (f : X → Data) (n : ℕ) → ((x : X) → depth (f x) ≤ n) → (xs : List X) → items_depth (items_of (map f xs)) ≤ n
shallow f n each [] = omega arith
shallow f n each (x ∷ xs) = omega (arith, each x, shallow f n each xs)

IsAscii-are_ascii : (xs : List ℕ) → are_ascii xs ≡ true → IsAscii xs
IsAscii-are_ascii [] e i = omega arith
IsAscii-are_ascii (x ∷ xs) e zero = ltb-true _ _ (and_parts (nat_lt x 128) (are_ascii xs) e).0
IsAscii-are_ascii (x ∷ xs) e (suc i) = IsAscii-are_ascii xs (and_parts (nat_lt x 128) (are_ascii xs) e).1 i

ascii_digits : IsAscii lower_digits
ascii_digits = IsAscii-are_ascii lower_digits refl

pub IsUtf8-digest : (bytes : List ℕ) → IsUtf8 (encode_lower bytes)
IsUtf8-digest bytes = IsUtf8-from_ascii _ (IsAscii-encode_with lower_digits bytes ascii_digits)

ordinary_value : (v : Value) → IsArgument v → IsOrdinary (value_json v)
ordinary_value (values.Text t) h = (refl, (IsUtf8-are_ascii _ refl, h, tt))
ordinary_value (values.Flag b) h = (refl, (IsUtf8-are_ascii _ refl, tt, tt))
ordinary_value (values.List ts) h = (refl, (IsUtf8-are_ascii _ refl, are_ordinary string IsUtf8 (λ t u. u) ts h, tt))
ordinary_value (values.Place p) h = (refl, (IsUtf8-are_ascii _ refl, h.1, tt))
ordinary_value (values.Task p) h = (refl, (IsUtf8-are_ascii _ refl, h.1, tt))

ordinary_input : (v : List ℕ × Value) → IsInput v → IsOrdinary (input_json v)
ordinary_input v h = (h.0.1, (ordinary_value v.1 h.1, tt))

ordinary_action : (edition : Edition) (a : Action) → IsAction a → IsOrdinary (action_json edition a)
ordinary_action editions.First a h = (
  refl,
  (
    IsUtf8-are_ascii _ refl,
    are_ordinary value_json IsArgument ordinary_value a.args h.2,
    (IsUtf8-are_ascii _ refl, h.0.1, tt),
  ),
)
ordinary_action editions.Second a h = (
  refl,
  (
    IsUtf8-are_ascii _ refl,
    are_ordinary value_json IsArgument ordinary_value a.args h.2,
    (IsUtf8-are_ascii _ refl, h.0.1, (IsUtf8-are_ascii _ refl, h.1, tt)),
  ),
)

ordinary_print : (p : List ℕ × List ℕ) → IsPrint p → IsOrdinary (print_json p)
ordinary_print p h = (h.1, (IsUtf8-digest p.1, tt))

ordinary_prints : (p : Prints) → ArePrints p → IsOrdinary (prints_json p)
ordinary_prints p h =
    (refl, (IsUtf8-are_ascii _ refl, h.0.1, (IsUtf8-are_ascii _ refl, are_ordinary print_json IsPrint ordinary_print p.1 h.1, tt)))

IsUtf8-shape : (form : Form) → IsUtf8 (shape_text form)
IsUtf8-shape forms.File = IsUtf8-are_ascii _ refl
IsUtf8-shape forms.Dir = IsUtf8-are_ascii _ refl

ordinary_output : (o : OutputRecord) → IsOutput o → IsOrdinary (output_json o)
ordinary_output o h = (
  refl,
  (
    IsUtf8-are_ascii _ refl,
    h.2.0.1,
    (
      IsUtf8-are_ascii _ refl,
      h.1,
      (
        IsUtf8-are_ascii _ refl,
        are_ordinary print_json IsPrint ordinary_print o.prints.1 h.2.1,
        (IsUtf8-are_ascii _ refl, IsUtf8-shape o.form, tt),
      ),
    ),
  ),
)

ordinary_run : (edition : Edition) (path : List ℕ) → IsUtf8 path → (run : Record) → IsWellFormed run → IsOrdinary (run_json edition path run)
ordinary_run edition path u run h = (
  refl,
  (
    IsUtf8-are_ascii _ refl,
    are_ordinary (action_json edition) IsAction (ordinary_action edition) run.actions h.actions,
    (
      IsUtf8-are_ascii _ refl,
      are_ordinary prints_json ArePrints ordinary_prints run.inputs h.inputs,
      (
        IsUtf8-are_ascii _ refl,
        are_ordinary output_json IsOutput ordinary_output run.outputs h.outputs,
        (
          IsUtf8-are_ascii _ refl,
          u,
          (IsUtf8-are_ascii _ refl, are_ordinary input_json IsInput ordinary_input run.values h.values, tt),
        ),
      ),
    ),
  ),
)

small_number : (edition : Edition) → edition_number edition < 4294967296
small_number editions.First = omega arith
small_number editions.Second = omega arith

ordinary_held : (edition : Edition) (one : List ℕ × Record) → IsSaid one → IsOrdinary (held_json edition one)
ordinary_held edition one h = ordinary_run edition one.0 h.0 one.1 h.1

pub ordinary_history : (edition : Edition) (records : List (List ℕ × Record)) → AllByRecursion IsSaid records → IsOrdinary (history_json edition records)
ordinary_history edition records said = (
  refl,
  (
    IsUtf8-are_ascii _ refl,
    small_number edition,
    (IsUtf8-are_ascii _ refl, are_ordinary (held_json edition) IsSaid (ordinary_held edition) records said, tt),
  ),
)

depth_value : (v : Value) → depth (value_json v) ≤ 2
depth_value (values.Text t) = omega arith
depth_value (values.Flag b) = omega arith
depth_value (values.List ts) = omega (arith, shallow string 0 (λ t. omega arith) ts)
depth_value (values.Place p) = omega arith
depth_value (values.Task p) = omega arith

depth_input : (v : List ℕ × Value) → depth (input_json v) ≤ 3
depth_input v = omega (arith, depth_value v.1)

depth_action : (edition : Edition) (a : Action) → depth (action_json edition a) ≤ 4
depth_action editions.First a = omega (arith, shallow value_json 2 depth_value a.args)
depth_action editions.Second a = omega (arith, shallow value_json 2 depth_value a.args)

depth_prints : (p : Prints) → depth (prints_json p) ≤ 3
depth_prints p = omega (arith, shallow print_json 1 (λ q. omega arith) p.1)

depth_output : (o : OutputRecord) → depth (output_json o) ≤ 3
depth_output o = omega (arith, shallow print_json 1 (λ q. omega arith) o.prints.1)

depth_run : (edition : Edition) (path : List ℕ) (run : Record) → depth (run_json edition path run) ≤ 6
depth_run edition path run = omega (
  arith,
  shallow (action_json edition) 4 (depth_action edition) run.actions,
  shallow prints_json 3 depth_prints run.inputs,
  shallow output_json 3 depth_output run.outputs,
  shallow input_json 3 depth_input run.values,
)

depth_history : (edition : Edition) (records : List (List ℕ × Record)) → depth (history_json edition records) ≤ max_depth
depth_history edition records =
    omega (arith, shallow (held_json edition) 6 (λ one. depth_run edition one.0 one.1) records)

-- ---- the text of records

pub IsUtf8-history : (edition : Edition) (records : List (List ℕ × Record)) → AllByRecursion IsSaid records → IsUtf8 (compact_text (history_json edition records))
IsUtf8-history edition records said = IsUtf8-compact_text (history_json edition records) (ordinary_history edition records said)

pub read-history : (edition : Edition) (records : List (List ℕ × Record)) → AllByRecursion IsSaid records
    → read (compact_text (history_json edition records)) ≡ Some (history_json edition records)
read-history edition records said =
    read-compact_text (history_json edition records) (ordinary_history edition records said) (depth_history edition records)

-- a text can encode what a history holds
pub are_said : (records : List (List ℕ × Record)) → AllByRecursion IsHeld records → AllByRecursion IsSaid records
are_said records each = all_weaker IsHeld IsSaid (λ one h. h.1) records each

length_seal : (json : List ℕ) → length (encode_lower (sha256 json)) ≡ 64
length_seal json = omega (arith, length-encode_with lower_digits (sha256 json), length-sha256 json)

pub length-sealed : (json : List ℕ) → length (sealed json) ≡ length json + 66
length-sealed json = omega (arith, length_seal json, length-append json (10 ∷ (encode_lower (sha256 json) ++ 10 ∷ [])), length-append (encode_lower (sha256 json)) (10 ∷ []))

pub take-sealed : (json : List ℕ) → take (length (sealed json) - 66) (sealed json) ≡ json
take-sealed json =
    let same : length (sealed json) - 66 ≡ length json = omega (arith, length-sealed json) in
    rw same (take-append_seam json _)
