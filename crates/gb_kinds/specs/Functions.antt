-- The results of the functions of values, for properties and providers, by their numbers.
use Rattle.std.specs.Prelude.{ℕ, ◌==◌, Bool, List, [], ◌∷◌, ◌++◌, length, map, codes, bytes_eq, if◌then◌else◌}
use Rattle.std.specs.Prelude.{Option, None, Some, Result, Ok, Err}
use Rattle.std.specs.Borrow.{Bor}
use Rattle.std.specs.declared.alloc.Global.{Global}
use Rattle.std.specs.Char.{to_ascii_uppercase}
use Rattle.std.specs.List.{join_by}
use Rattle.bstr.specs.Text.{split_at}
use Rattle.memchr.specs.Find.{matches}
use Rattle.gb_core.specs.Path.{is_task_path}
use Rattle.gb_core.specs.Place.{is_place, joined}
use Rattle.gb_core.specs.declared.value.Value.{Value}
use Rattle.gb_core.specs.declared.value.Value.TheVariants as values
use Rattle.gb_provider.specs.Meanings.{Arguments, IsReply}
use Rattle.gb_provider.specs.declared.fault.Chosen.{Chosen}
use Rattle.gb_provider.specs.declared.fault.Refusal.{Refusal}
use Rattle.gb_provider.specs.declared.fault.Refusal.TheVariants.{BadArguments, WrongValue}
use Rattle.gb_provider.specs.declared.fault.TransformFault.{TransformFault}
use Rattle.gb_kinds.specs.declared.functions.TheConstants.{UPPER, APPEND, SPLIT, JOIN, CHILD, NON_EMPTY}
use Rattle.gb_kinds.specs.declared.functions.TheConstants.{OUTPUT, CONCAT, IS_TRUE, EQUALS}

-- ---- What a function takes: the sort of its value is checked before the number of its arguments

module _ {A : Type 0} where
  abbrev pub of_text : Value → (List ℕ → Result A Refusal) → Result A Refusal
  of_text (values.Text text) meant = meant text
  of_text (values.Flag flag) meant = Err WrongValue
  of_text (values.List texts) meant = Err WrongValue
  of_text (values.Place place) meant = Err WrongValue
  of_text (values.Task task) meant = Err WrongValue

  abbrev pub of_list : Value → (List (List ℕ) → Result A Refusal) → Result A Refusal
  of_list (values.Text text) meant = Err WrongValue
  of_list (values.Flag flag) meant = Err WrongValue
  of_list (values.List texts) meant = meant texts
  of_list (values.Place place) meant = Err WrongValue
  of_list (values.Task task) meant = Err WrongValue

  abbrev pub of_place : Value → (List ℕ → Result A Refusal) → Result A Refusal
  of_place (values.Text text) meant = Err WrongValue
  of_place (values.Flag flag) meant = Err WrongValue
  of_place (values.List texts) meant = Err WrongValue
  of_place (values.Place place) meant = meant place
  of_place (values.Task task) meant = Err WrongValue

  -- a task, or a text that is the path of one
  abbrev pub of_task : Value → (List ℕ → Result A Refusal) → Result A Refusal
  of_task (values.Text text) meant = if is_task_path text then meant text else Err WrongValue
  of_task (values.Flag flag) meant = Err WrongValue
  of_task (values.List texts) meant = Err WrongValue
  of_task (values.Place place) meant = Err WrongValue
  of_task (values.Task task) meant = meant task

  -- a flag, or a text, which is true if it is `true`
  abbrev pub of_truth : Value → (Bool → Result A Refusal) → Result A Refusal
  of_truth (values.Text text) meant = meant (bytes_eq text (codes "true"))
  of_truth (values.Flag flag) meant = meant flag
  of_truth (values.List texts) meant = Err WrongValue
  of_truth (values.Place place) meant = Err WrongValue
  of_truth (values.Task task) meant = Err WrongValue

  -- no arguments
  abbrev pub alone : Arguments → A → Result A Refusal
  alone [] answer = Ok answer
  alone (text ∷ others) answer = Err BadArguments

  -- one argument
  abbrev pub with_one : Arguments → (List ℕ → Result A Refusal) → Result A Refusal
  with_one [] meant = Err BadArguments
  with_one (text ∷ []) meant = meant text
  with_one (text ∷ other ∷ others) meant = Err BadArguments

-- ---- Of `map`

abbrev pub Mapped : Type 0
Mapped = Result (Option Value) Refusal

-- a text
abbrev pub text_of : List ℕ → Option Value
text_of text = Some (values.Text text)

-- a text, or nothing if it is empty
abbrev pub if_any : List ℕ → Option Value
if_any [] = None
if_any (c ∷ text) = Some (values.Text (c ∷ text))

-- the pieces between the occurrences of a separator, which are found from the left and do not overlap
abbrev pub pieces : List ℕ → List ℕ → List (List ℕ)
pieces separator text = split_at text (length separator) 0 (matches text separator 0)

-- the pieces, if there is a separator
abbrev pub split_by : List ℕ → List ℕ → Mapped
split_by text [] = Err BadArguments
split_by text (c ∷ separator) = Ok (Some (values.List (pieces (c ∷ separator) text)))

-- the texts with a separator between each two
abbrev pub join_texts : List ℕ → List (List ℕ) → List ℕ
join_texts separator texts = join_by (λ text. text) separator texts

-- a text as a place, if it is a place
abbrev pub if_place : List ℕ → Mapped
if_place text = if is_place text then Ok (Some (values.Place text)) else Err BadArguments

abbrev pub upper : Value → Arguments → Mapped
upper value arguments = of_text value (λ text. alone arguments (text_of (map to_ascii_uppercase text)))

abbrev pub append : Value → Arguments → Mapped
append value arguments = of_text value (λ text. with_one arguments (λ end. Ok (text_of (text ++ end))))

abbrev pub split : Value → Arguments → Mapped
split value arguments = of_text value (λ text. with_one arguments (split_by text))

abbrev pub join : Value → Arguments → Mapped
join value arguments =
    of_list value (λ texts. with_one arguments (λ separator. Ok (text_of (join_texts separator texts))))

abbrev pub child : Value → Arguments → Mapped
child value arguments =
    of_place value (λ place. with_one arguments (λ path. if_place (joined (Some place) path)))

abbrev pub non_empty : Value → Arguments → Mapped
non_empty value arguments = of_text value (λ text. alone arguments (if_any text))

-- ---- Of `flatMap` and `zip`, and tests

abbrev pub output : Value → Arguments → Result (Option Chosen) Refusal
output value arguments =
    of_task value (λ task. with_one arguments (λ name. Ok (Some (record { task = task; output = name }))))

abbrev pub concat : Value → Value → Arguments → Result Value Refusal
concat left right arguments =
    of_text left (λ prefix. of_text right (λ back. alone arguments (values.Text (prefix ++ back))))

abbrev pub is_true : Value → Arguments → Result Bool Refusal
is_true value arguments = of_truth value (alone arguments)

abbrev pub equals : Value → Arguments → Result Bool Refusal
equals value arguments = of_text value (λ text. with_one arguments (λ other. Ok (bytes_eq text other)))

-- ---- By number

-- a function that refuses every value
abbrev pub nothing : {A : Type 0} → Value → Arguments → Result A Refusal
nothing value arguments = Err WrongValue

abbrev pub map_means : ℕ → Value → Arguments → Mapped
map_means number =
    if number == UPPER then upper
    else if number == APPEND then append
    else if number == SPLIT then split
    else if number == JOIN then join
    else if number == CHILD then child
    else if number == NON_EMPTY then non_empty
    else nothing

abbrev pub flat_map_means : ℕ → Value → Arguments → Result (Option Chosen) Refusal
flat_map_means number = if number == OUTPUT then output else nothing

abbrev pub zip_means : ℕ → Value → Value → Arguments → Result Value Refusal
zip_means number = if number == CONCAT then concat else (λ left. nothing)

abbrev pub test_means : ℕ → Value → Arguments → Result Bool Refusal
test_means number = if number == IS_TRUE then is_true else if number == EQUALS then equals else nothing

-- how many arguments they take
abbrev pub map_arity : ℕ → ℕ
map_arity number = if number == UPPER then 0 else if number == NON_EMPTY then 0 else 1

abbrev pub flat_map_arity : ℕ → ℕ
flat_map_arity number = 1

abbrev pub zip_arity : ℕ → ℕ
zip_arity number = 0

abbrev pub test_arity : ℕ → ℕ
test_arity number = if number == IS_TRUE then 0 else 1

-- ---- Closures

-- a closure that may be called with any value, and whose result then satisfies `post`, keeps the meaning
pub record Keeps {A : Type 0} (means : Value → Arguments → Result A Refusal)
    (pre : Global → Bor Value → Bor Arguments → Type 0)
    (post : Global → Bor Value → Bor Arguments → Result A TransformFault → Type 0) : Type 0 where
  pub callable : (alloc : Global) (value : Bor Value) (arguments : Bor Arguments) → pre alloc value arguments
  pub keeps : (alloc : Global) (value : Bor Value) (arguments : Bor Arguments)
      (answer : Result A TransformFault) → post alloc value arguments answer
      → IsReply answer (means value.now arguments.now)

-- the same for two values
pub record KeepsOfTwo (means : Value → Value → Arguments → Result Value Refusal)
    (pre : Global → Bor Value → Bor Value → Bor Arguments → Type 0)
    (post : Global → Bor Value → Bor Value → Bor Arguments → Result Value TransformFault → Type 0)
    : Type 0 where
  pub callable : (alloc : Global) (left right : Bor Value) (arguments : Bor Arguments)
      → pre alloc left right arguments
  pub keeps : (alloc : Global) (left right : Bor Value) (arguments : Bor Arguments)
      (answer : Result Value TransformFault) → post alloc left right arguments answer
      → IsReply answer (means left.now right.now arguments.now)
