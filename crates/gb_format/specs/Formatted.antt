-- The formatted text of a script or of settings.
use Rattle.std.specs.Prelude.{◌≡◌, ℕ, ◌+◌, ◌<◌, Bool, true, false, ◌==◌, List, [], ◌∷◌, length, map, IsTrue}
use Rattle.std.specs.Prelude.{◌⊎◌}
use Rattle.std.specs.Prelude.{if◌then◌else◌}
use Rattle.gb_script.specs.declared.fault.ScriptFault.{ScriptFault}
use Rattle.gb_script.specs.declared.fault.ScriptFault.TheVariants.{OutOfMemory, TooLong}
use Rattle.gb_script.specs.declared.script.Statement.{Statement}
use Rattle.gb_script.specs.Lexing.{is_blank, IsCut}
use Rattle.gb_script.specs.Script.{ParsesAs, ParsesAsSettings}
use Rattle.gb_format.specs.Layout.{kept, tidy}
use Rattle.gb_format.specs.Pieces.{pieces_of}
use Rattle.gb_format.specs.Shown.{shown_in, typeset}

-- the comments and tokens of the text, each after the white space of its rule
abbrev pub formatted : List ℕ → List ℕ
formatted text = typeset (shown_in text)

-- After `observed` newlines with only blanks between them, at most two newlines come in a row, so at most one
-- line in a row is empty.
abbrev pub few_newlines : ℕ → List ℕ → Bool
few_newlines observed [] = true
few_newlines observed (b ∷ bs) =
    if b == 10 then (if observed == 2 then false else few_newlines (observed + 1) bs)
    else (if is_blank b then few_newlines observed bs else few_newlines 0 bs)

-- The formatted text, and what it has in common with the original text.
pub record IsFormatted (text out : List ℕ) : Type 0 where
  pub is : out ≡ formatted text
  -- these are the pieces of both
  pub cut : IsCut text (pieces_of text) []
  pub out_cut : IsCut out (pieces_of out) []
  -- Both have the same comments and tokens in the same order, without the blanks at the ends of comments. So
  -- each comment is between the same two tokens.
  pub same : kept (pieces_of out) ≡ map tidy (kept (pieces_of text))
  -- formatted once more it is the same
  pub again : formatted out ≡ out
  pub empty_lines : IsTrue (few_newlines 0 out)

-- both texts are the same script
abbrev pub AreSameScript : List ℕ → List ℕ → Type 0
AreSameScript text out = (script : List Statement) × ParsesAs text script × ParsesAs out script

-- both texts are the same settings
abbrev pub AreSameSettings : List ℕ → List ℕ → Type 0
AreSameSettings text out =
    (settings : List (List (List ℕ))) × ParsesAsSettings text settings × ParsesAsSettings out settings

-- the fault of a text that can be read but not formatted
abbrev pub IsLayoutFault : List ℕ → ScriptFault → Type 0
IsLayoutFault text fault = (fault ≡ OutOfMemory) ⊎ ((fault ≡ TooLong) × (1048576 < length (formatted text)))
