-- The text of a history, and of one record: its JSON, a line feed, the digest of the JSON, a line feed.
use Rattle.std.specs.Prelude.{ℕ, ◌≡◌, ◌-◌, ⊤, List, [], ◌∷◌, ◌++◌, map, codes, length, take}
use Rattle.std.specs.Prelude.{Result, IfOk, MatchResult, OnOk}
use Rattle.std.specs.List.{AllByRecursion}
use Rattle.std.specs.Str.{IsUtf8}
use Rattle.hex.specs.Hex.{encode_lower}
use Rattle.sha2.specs.Sha256.{sha256}
use Rattle.serde_json.specs.Data.{Data, boolean, number, unsigned, string, array, object, no_members, member}
use Rattle.serde_json.specs.View.{items_of}
use Rattle.serde_json.specs.Written.{compact_text}
use Rattle.gb_core.specs.declared.value.Value.{Value}
use Rattle.gb_core.specs.declared.value.Value.TheVariants as values
use Rattle.gb_action.specs.declared.output_files.Form.{Form}
use Rattle.gb_action.specs.declared.output_files.Form.TheVariants as forms
use Rattle.gb_plan.specs.declared.task.Action.{Action}
use Rattle.gb_history.specs.declared.record.OutputRecord.{OutputRecord}
use Rattle.gb_history.specs.declared.fault.RecordFault.{RecordFault}
use Rattle.gb_history.specs.declared.fault.RecordFault.TheVariants as faults
use Rattle.gb_history.specs.declared.record.Edition.{Edition}
use Rattle.gb_history.specs.declared.record.Edition.TheVariants as editions
use Rattle.gb_history.specs.Record.{Record, Prints, IsAction, IsWellFormed, IsHeld, AreHeld}

abbrev pub value_json : Value → Data
value_json (values.Text text) = object (member (codes "text") (string text) no_members)
value_json (values.Flag flag) = object (member (codes "flag") (boolean flag) no_members)
value_json (values.List texts) =
    object (member (codes "list") (array (items_of (map string texts))) no_members)
value_json (values.Place place) = object (member (codes "place") (string place) no_members)
value_json (values.Task path) = object (member (codes "task") (string path) no_members)

abbrev pub input_json : List ℕ × Value → Data
input_json input = array (items_of (string input.0 ∷ value_json input.1 ∷ []))

abbrev pub plain_object : Data → List ℕ → Data
plain_object arguments kind =
    object (member (codes "args") arguments (member (codes "kind") (string kind) no_members))

abbrev pub versioned_object : Data → List ℕ → ℕ → Data
versioned_object arguments kind version = object
    (member (codes "args") arguments
    (member (codes "kind") (string kind)
    (member (codes "version") (number (unsigned version)) no_members)))

-- the first edition has no versions
abbrev pub action_json : Edition → Action → Data
action_json editions.First action =
    plain_object (array (items_of (map value_json action.args))) action.kind
action_json editions.Second action =
    versioned_object (array (items_of (map value_json action.args))) action.kind action.version

abbrev pub print_json : List ℕ × List ℕ → Data
print_json print = array (items_of (string print.0 ∷ string (encode_lower print.1) ∷ []))

abbrev pub prints_json : Prints → Data
prints_json prints = object
    (member (codes "name") (string prints.0)
    (member (codes "prints") (array (items_of (map print_json prints.1))) no_members))

abbrev pub shape_text : Form → List ℕ
shape_text forms.File = codes "file"
shape_text forms.Dir = codes "dir"

abbrev pub output_json : OutputRecord → Data
output_json output = object
    (member (codes "name") (string output.prints.0)
    (member (codes "place") (string output.place)
    (member (codes "prints") (array (items_of (map print_json output.prints.1)))
    (member (codes "shape") (string (shape_text output.form)) no_members))))

abbrev pub run_object : Data → Data → Data → List ℕ → Data → Data
run_object actions files outputs path values = object
    (member (codes "actions") actions
    (member (codes "files") files
    (member (codes "outputs") outputs
    (member (codes "task") (string path)
    (member (codes "values") values no_members)))))

-- the record of the task of this path
abbrev pub run_json : Edition → List ℕ → Record → Data
run_json edition path run =
    run_object (array (items_of (map (action_json edition) run.actions)))
    (array (items_of (map prints_json run.inputs)))
    (array (items_of (map output_json run.outputs)))
    path
    (array (items_of (map input_json run.values)))

-- the number that denotes an edition
abbrev pub edition_number : Edition → ℕ
edition_number editions.First = 1
edition_number editions.Second = 2

-- a record as a history holds it
abbrev pub held_json : Edition → List ℕ × Record → Data
held_json edition one = run_json edition one.0 one.1

-- a list of these records
abbrev pub history_json : Edition → List (List ℕ × Record) → Data
history_json edition records = object
    (member (codes "form") (number (unsigned (edition_number edition)))
    (member (codes "tasks") (array (items_of (map (held_json edition) records))) no_members))

-- a list of that record alone
abbrev pub record_json : Edition → List ℕ → Record → Data
record_json edition path run = history_json edition ((path, run) ∷ [])

-- the seal that a digest gives: 66 bytes
abbrev pub seal : List ℕ → List ℕ
seal digest = 10 ∷ (encode_lower digest ++ 10 ∷ [])

-- a text and its seal
abbrev pub sealed : List ℕ → List ℕ
sealed json = json ++ seal (sha256 json)

-- a text without the 66 bytes of its seal
abbrev pub unsealed : List ℕ → List ℕ
unsealed text = take (length text - 66) text

unfoldable pub history_text_in : Edition → List (List ℕ × Record) → List ℕ
history_text_in edition records = sealed (compact_text (history_json edition records))

abbrev pub text_in : Edition → List ℕ → Record → List ℕ
text_in edition path run = history_text_in edition ((path, run) ∷ [])

-- the texts that are written: those of the second edition
abbrev pub history_text : List (List ℕ × Record) → List ℕ
history_text = history_text_in editions.Second

abbrev pub record_text : List ℕ → Record → List ℕ
record_text = text_in editions.Second

-- the edition can express the version
abbrev pub FitsEdition : Edition → Action → Type 0
FitsEdition editions.First action = action.version ≡ 1
FitsEdition editions.Second action = ⊤

abbrev pub IsActionIn : Edition → Action → Type 0
IsActionIn edition action = IsAction action × FitsEdition edition action

-- the edition can express all versions of the record
abbrev pub RecordFits : Edition → List ℕ × Record → Type 0
RecordFits edition one = AllByRecursion (FitsEdition edition) one.1.actions

abbrev pub IsHeldIn : Edition → List ℕ × Record → Type 0
IsHeldIn edition one = IsHeld one × RecordFits edition one

-- The text is that of the record in an edition that can express its versions.
pub record IsTextOf (path : List ℕ) (run : Record) (text : List ℕ) : Type 0 where
  pub edition : Edition
  pub fits : AllByRecursion (FitsEdition edition) run.actions
  pub same : text ≡ text_in edition path run

-- What reading a text as the record of a task returns: a record that has the text. If there is one, it is
-- returned, unless memory is insufficient.
pub record IsRecordRead (path : List ℕ) (text : List ℕ) (result : Result Record RecordFault) : Type 0 where
  pub exact : IfOk result (λ run. IsTextOf path run text)
  pub utf8 : OnOk result (IsUtf8 path)
  pub held : IfOk result IsWellFormed
  pub back : (run : Record) → IsUtf8 path → IsWellFormed run → IsTextOf path run text
      → MatchResult result (λ got. got ≡ run) (λ e. e ≡ faults.OutOfMemory)

abbrev pub TextsHaveOneRecord : Type 0
TextsHaveOneRecord =
    (path : List ℕ) (one other : Record) (text : List ℕ) → IsUtf8 path → IsWellFormed one
    → IsWellFormed other → IsTextOf path one text → IsTextOf path other text → one ≡ other

-- The text is that of the records in an edition that can express their versions.
pub record IsHistoryText (records : List (List ℕ × Record)) (text : List ℕ) : Type 0 where
  pub edition : Edition
  pub fits : AllByRecursion (RecordFits edition) records
  pub same : text ≡ history_text_in edition records

abbrev pub TextsHaveOneHistory : Type 0
TextsHaveOneHistory =
    (one other : List (List ℕ × Record)) (text : List ℕ) → AreHeld one → AreHeld other
    → IsHistoryText one text → IsHistoryText other text → one ≡ other
