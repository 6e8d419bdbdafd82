-- Which calls an action of a shape accepts.
use Rattle.std.specs.Prelude.{◌≡◌, ℕ, ◌==◌, Bool, true, false, not, ◌&&◌, ◌||◌, List, [], ◌∷◌, length, map}
use Rattle.std.specs.Prelude.{if◌then◌else◌, codes, bytes_eq, Option, Some, None}
use Rattle.std.specs.List.{list_any}
use Rattle.gb_core.specs.Place.{is_place}
use Rattle.gb_core.specs.declared.value.Value.{Value}
use Rattle.gb_core.specs.declared.value.Value.TheVariants as values
use Rattle.gb_action.specs.declared.output_files.Form.{Form}
use Rattle.gb_action.specs.declared.output_files.Form.TheVariants as forms
use Rattle.gb_action.specs.declared.shape.Arg.{Arg}
use Rattle.gb_action.specs.declared.shape.Arg.TheVariants as args
use Rattle.gb_action.specs.declared.shape.Parameter.{Parameter}
use Rattle.gb_action.specs.declared.shape.Parameter.TheVariants.{Optional, Required}
use Rattle.gb_action.specs.declared.shape.Shape.{Shape}
use Rattle.gb_action.specs.declared.shape.Fit.{Fit}
use Rattle.gb_action.specs.declared.shape.Fit.TheVariants.{Yes, BadArgument, BadShape}
use Rattle.gb_action.specs.declared.request.Request.{Request}

-- the file property that kinds read
abbrev pub source : List ℕ
source = codes "src"

-- the output that kinds write
abbrev pub target : List ℕ
target = codes "out"

-- any text; a text without a line feed; one that is not empty and has no '@'; one that is a place
abbrev pub text_fits : Arg → List ℕ → Bool
text_fits args.Text text = true
text_fits args.Line text = not (list_any (λ byte. byte == 10) text)
text_fits args.Key text = not (length text == 0) && not (list_any (λ byte. byte == 64) text)
text_fits args.Rel text = is_place text

-- an argument is a text
abbrev pub arg_fits : Arg → Value → Bool
arg_fits arg (values.Text text) = text_fits arg text
arg_fits arg (values.Flag flag) = false
arg_fits arg (values.List texts) = false
arg_fits arg (values.Place place) = false
arg_fits arg (values.Task task) = false

-- the requirement on an argument, if it is given
abbrev pub arg_of : Parameter → Arg
arg_of (Required arg) = arg
arg_of (Optional arg) = arg

abbrev pub is_optional : Parameter → Bool
is_optional (Required arg) = false
is_optional (Optional arg) = true

-- each value fits the parameter at its position, and the parameters after them are optional
abbrev pub args_fit : List Parameter → List Value → Bool
args_fit [] [] = true
args_fit (parameter ∷ parameters) (value ∷ values) =
    arg_fits (arg_of parameter) value && args_fit parameters values
args_fit [] (value ∷ values) = false
args_fit (parameter ∷ parameters) [] = is_optional parameter && args_fit parameters []

abbrev pub is_form : Form → Form → Bool
is_form forms.File forms.File = true
is_form forms.File forms.Dir = false
is_form forms.Dir forms.File = false
is_form forms.Dir forms.Dir = true

-- a kind that reads files needs the property
abbrev pub has_source : Shape → List (List ℕ) → Bool
has_source shape files = not shape.src || list_any (λ name. bytes_eq name source) files

-- a kind that writes files needs the output, in its form
abbrev pub has_output : Option Form → List (List ℕ × Form) → Bool
has_output None outputs = true
has_output (Some form) outputs =
    list_any (λ output. bytes_eq output.0 target && is_form output.1 form) outputs

-- whether a call fits, by the names of the file properties and the names and forms of the outputs, which are
-- checked first
abbrev pub fit : Shape → List Value → List (List ℕ) → List (List ℕ × Form) → Fit
fit shape args files outputs =
    if has_source shape files && has_output shape.out outputs
    then (if args_fit shape.args args then Yes else BadArgument) else BadShape

-- the action may be called: the call fits, and the request is incremental only if the action supports that
pub record IsAsked (shape : Shape) (request : Request) : Type 0 where
  pub fits : fit shape request.args (map (λ tree. tree.0) request.files)
      (map (λ output. (output.name, output.form)) request.outputs) ≡ Yes
  pub can_answer : request.changes.incremental ≡ true → shape.incremental ≡ true
