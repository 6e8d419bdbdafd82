-- What a request provides if an action of a shape may be called with it.
use Rattle.std.proofs.Common.{◌≡◌, Bool, true, false, true≢false, ◌&&◌, ◌||◌, if◌then◌else◌, List, [], ◌∷◌, map, Some, refl, sym, subst, bytes_eq}
use Rattle.std.specs.List.{list_any}
use Rattle.gb_action.specs.Shapes.{IsAsked, has_source, has_output, args_fit, target, is_form}
use Rattle.gb_action.specs.declared.output_files.Form.{Form}
use Rattle.gb_action.specs.declared.output_files.OutputFiles.{OutputFiles}
use Rattle.gb_action.specs.declared.request.Request.{Request}
use Rattle.gb_action.specs.declared.shape.Fit.TheVariants.{Yes, BadArgument, BadShape}
use Rattle.gb_action.specs.declared.shape.Shape.{Shape}

fits_all : (a b c : Bool) → (if a && b then (if c then Yes else BadArgument) else BadShape) ≡ Yes → (a ≡ true) × (b ≡ true) × (c ≡ true)
fits_all true true true e = (refl, refl, refl)
fits_all true true false e = absurd (let h : BadArgument ≡ Yes = e in cc)
fits_all true false c e = absurd (let h : BadShape ≡ Yes = e in cc)
fits_all false b c e = absurd (let h : BadShape ≡ Yes = e in cc)

named_first : (a b c d : Bool) → (c ≡ true → d ≡ true) → ((a && b) || c) ≡ true → (a || d) ≡ true
named_first true b c d more e = refl
named_first false b c d more e = more e

names_output : (form : Form) (outputs : List OutputFiles) → has_output (Some form) (map (λ (output : OutputFiles). (output.name, output.form)) outputs) ≡ true
    → list_any (λ (output : OutputFiles). bytes_eq output.name target) outputs ≡ true
names_output form [] e = absurd (true≢false (sym e))
names_output form (output ∷ outputs) e = named_first (bytes_eq output.name target) (is_form output.form form) _ _ (names_output form outputs) e

module _ (shape : Shape) (request : Request) (asked : IsAsked shape request) where
  both : (has_source shape (map (λ tree. tree.0) request.files) ≡ true) × (has_output shape.out (map (λ (output : OutputFiles). (output.name, output.form)) request.outputs) ≡ true) × (args_fit shape.args request.args ≡ true)
  both = fits_all (has_source shape (map (λ tree. tree.0) request.files)) (has_output shape.out (map (λ (output : OutputFiles). (output.name, output.form)) request.outputs)) (args_fit shape.args request.args) asked.fits

  -- the output that kinds write is declared
  pub declares_target : (form : Form) → shape.out ≡ Some form → list_any (λ (output : OutputFiles). bytes_eq output.name target) request.outputs ≡ true
  declares_target form is =
      names_output form request.outputs (subst (λ out. has_output out (map (λ (output : OutputFiles). (output.name, output.form)) request.outputs) ≡ true) is both.1)

  -- the file property that kinds read exists
  pub has_its_source : has_source shape (map (λ tree. tree.0) request.files) ≡ true
  has_its_source = both.0

  pub has_its_args : args_fit shape.args request.args ≡ true
  has_its_args = both.2
