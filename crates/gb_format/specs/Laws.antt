-- What a layout changes, and what it keeps.
use Rattle.std.specs.Prelude.{◌≡◌, List, [], map}
use Rattle.gb_script.specs.Lexing.{Piece, IsCut}
use Rattle.gb_format.specs.Layout.{kept, tidy, layout, Observed}
use Rattle.gb_format.specs.declared.rule.Rule.{Rule}

-- The formatted text has the comments and tokens of the text, in their order and without the blanks at the
-- ends of comments, and otherwise only white space.
pub record IsLaidOut (rules : Observed → List Rule) (ps : List Piece) : Type 0 where
  pub pieces : List Piece
  pub cut : IsCut (layout rules ps) pieces []
  pub same : kept pieces ≡ map tidy (kept ps)
  -- formatted once more, they are the same text
  pub once : layout rules pieces ≡ layout rules ps
