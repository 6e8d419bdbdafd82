-- The results of the kinds that write one file.
use Rattle.std.proofs.Common.{◌≡◌, ℕ, Bool, true, false, ◌&&◌, List, [], ◌∷◌, Ok, Some, refl, ap, IsTrue}
use Rattle.gb_core.specs.Place.{is_place, is_rel_path}
use Rattle.gb_core.specs.declared.value.Value.{Value}
use Rattle.gb_core.specs.declared.value.Value.TheVariants as values
use Rattle.gb_action.specs.Meanings.{Making, Printing}
use Rattle.gb_action.specs.Replies.{Answers, made_for}
use Rattle.gb_action.specs.Shapes.{IsAsked, args_fit}
use Rattle.gb_action.specs.declared.output_files.Form.{Form}
use Rattle.gb_action.specs.declared.request.Request.{Request}
use Rattle.gb_action.specs.declared.shape.Arg.TheVariants as args
use Rattle.gb_action.specs.declared.shape.Parameter.TheVariants.{Required}
use Rattle.gb_action.specs.declared.shape.Shape.{Shape}
use Rattle.gb_action.proofs.Asked.{declares_target}
use Rattle.gb_action.proofs.Answering.{Answers-in_full, asked_in_full}
use Rattle.gb_kinds.specs.Builtin.{first_text}
use Rattle.gb_kinds.specs.ByFile.{file_of, one_file}

pub one_file-answers : (makes : Making) (prints : Printing) (shape : Shape) (request : Request) (form : Form) (path bytes : List ℕ) → IsAsked shape request
    → shape.incremental ≡ false → shape.out ≡ Some form → made_for makes request ≡ Ok (file_of path bytes ∷ []) → [] ≡ prints request.args request.values request.files request.changes.lists
    → Answers makes prints request (Ok (one_file path bytes))
one_file-answers makes prints shape request form path bytes asked never out made lines =
    Answers-in_full makes prints request (one_file path bytes) (asked_in_full shape request asked never) refl made
    (ap (λ b. b && true && true) (declares_target shape request asked form out)) lines

-- a first argument that is a place is a path
pub first-is_path : (arguments : List Value) → args_fit (Required args.Rel ∷ Required args.Text ∷ []) arguments ≡ true → IsTrue (is_rel_path (first_text arguments))
first-is_path [] h = absurd (let e : false ≡ true = h in cc)
first-is_path (values.Text text ∷ others) h = path text (first _ _ h)
  where
    first : (a b : Bool) → (a && b) ≡ true → a ≡ true
    first true b e = refl
    first false b e = e

    path : (text : List ℕ) → is_place text ≡ true → IsTrue (is_rel_path text)
    path [] e = refl
    path (c ∷ text) e = e
first-is_path (values.Flag flag ∷ others) h = absurd (let e : false ≡ true = h in cc)
first-is_path (values.List texts ∷ others) h = absurd (let e : false ≡ true = h in cc)
first-is_path (values.Place place ∷ others) h = absurd (let e : false ≡ true = h in cc)
first-is_path (values.Task task ∷ others) h = absurd (let e : false ≡ true = h in cc)
