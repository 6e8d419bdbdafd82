-- The part of a row of nodes for the places of outputs.
use Rattle.std.proofs.Common.{◌≡◌, ℕ, List, ◌++◌, length, take, drop, sym, ap, ◌∙◌, arith, append_assoc, length-append}
use Rattle.std.proofs.Math.Seq.{drop-append_seam, take-append_seam}
use Rattle.std.proofs.lemmas.List.{length-map, map-append}
use Rattle.gb_provider.specs.Rules.{numbers_of}
use Rattle.gb_provider.specs.declared.expression.Node.{Node}
use Rattle.gb_declare.specs.Joined.{Joined}
use Rattle.gb_project.specs.Parts.{AreCounted, row_of}
use Rattle.gb_project.specs.declared.parts.Parts.{Parts}
use Rattle.gb_project.specs.Stage.{before_outputs, output_row}

middle : {X : Type 0} (prefix these back : List X) (n m : ℕ) → length prefix ≡ n → length these ≡ m → take m (drop n ((prefix ++ these) ++ back)) ≡ these
middle prefix these back n m first second =
    ap (λ k. take k (drop n ((prefix ++ these) ++ back))) (sym second)
    ∙ ap (λ k. take (length these) (drop k ((prefix ++ these) ++ back))) (sym first)
    ∙ ap (λ l. take (length these) (drop (length prefix) l)) (append_assoc prefix these back)
    ∙ ap (take (length these)) (drop-append_seam prefix (these ++ back))
    ∙ take-append_seam these back

pub outputs_of_row : (task : Joined) (parts : Parts) (row : List Node) → AreCounted task parts → row_of parts ≡ row → numbers_of parts.outputs.now ≡ output_row task (numbers_of row)
outputs_of_row task parts row counted whole =
    let conditions = parts.enabled.now ++ (parts.only_if.now ++ parts.up_to_date_when.now) in
    let roots = parts.roots.now in
    let outputs = parts.outputs.now in
    let arguments = parts.arguments.now in
    let prefix = (conditions ++ parts.values.now) ++ roots in
    let number = λ (node : Node). node.number in
    let long : length prefix ≡ before_outputs task =
    omega (arith, counted.enabled, counted.only_if, counted.up_to_date_when, counted.values, counted.roots, length-append (conditions ++ parts.values.now) roots, length-append conditions parts.values.now, length-append parts.enabled.now (parts.only_if.now ++ parts.up_to_date_when.now), length-append parts.only_if.now parts.up_to_date_when.now) in
    let cut : numbers_of row ≡ (numbers_of prefix ++ numbers_of outputs) ++ numbers_of arguments =
    ap numbers_of (sym whole) ∙ map-append number (prefix ++ outputs) arguments ∙ ap (λ l. l ++ numbers_of arguments) (map-append number prefix outputs) in
    sym (ap (output_row task) cut ∙ middle (numbers_of prefix) (numbers_of outputs) (numbers_of arguments) (before_outputs task) (length task.outputs) (length-map prefix number ∙ long) (length-map outputs number ∙ counted.outputs))
