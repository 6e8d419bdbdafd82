-- The formatted text, by the laws of layouts.
use Rattle.std.proofs.Common.{◌≡◌, ℕ, ◌≤◌, List, [], length, map, IsUtf8, sym, ap, subst, ◌∙◌}
use Rattle.gb_script.specs.Grammar.{Leveled}
use Rattle.gb_script.specs.Lexing.{Piece, IsCut}
use Rattle.gb_script.specs.Notation.{ParsesTo}
use Rattle.gb_format.specs.Layout.{items, kept, tidy, layout, observed}
use Rattle.gb_format.specs.Pieces.{pieces_of}
use Rattle.gb_format.specs.Shown.{IsWhole, shown_from, typeset}
use Rattle.gb_format.specs.Formatted.{formatted, few_newlines, IsFormatted}
use Rattle.gb_format.specs.declared.rule.Spacing.TheVariants.{Beside}
use Rattle.gb_format.proofs.Bridge.{layout_is}
use Rattle.gb_format.proofs.Computed.{pieces_compute}
use Rattle.gb_format.proofs.EmptyLines.{few_lines}
use Rattle.gb_format.proofs.Real.{Real}
use Rattle.gb_format.proofs.Same.{spelled_same}
use Rattle.gb_format.proofs.Exist.{fit_items}
use Rattle.gb_format.proofs.Steady.{rules, steady}
use Rattle.gb_format.proofs.Twice.{laid_out}
use Rattle.gb_format.proofs.Whole.{whole}

-- the formatted text is the layout of the pieces
formatted_is : (text : List ℕ) (ps : List Piece) → IsCut text ps [] → formatted text ≡ layout rules ps
formatted_is text ps c = ap (λ (qs : List Piece). typeset (shown_from Beside qs)) (pieces_compute text ps c) ∙ layout_is text ps c

pub is_formatted : (text out : List ℕ) → IsWhole text → out ≡ formatted text → IsFormatted text out
is_formatted text out w h =
    let ps = w.pieces in
    let laid = laid_out rules steady text ps w.cut in
    let same : out ≡ layout rules ps = h ∙ formatted_is text ps w.cut in
    let cut : IsCut out laid.pieces [] = subst (λ (l : List ℕ). IsCut l laid.pieces []) (sym same) laid.cut in
    let before : pieces_of text ≡ ps = pieces_compute text ps w.cut in
    let after : pieces_of out ≡ laid.pieces = pieces_compute out laid.pieces cut in
    record {
      is = h;
      cut = subst (λ (qs : List Piece). IsCut text qs []) (sym before) w.cut;
      out_cut = subst (λ (qs : List Piece). IsCut out qs []) (sym after) cut;
      same = ap kept after ∙ laid.same ∙ ap (λ (qs : List Piece). map tidy (kept qs)) (sym before);
      again = formatted_is out laid.pieces cut ∙ laid.once ∙ sym same;
      empty_lines = ap (few_newlines 0) same ∙ few_lines (rules (observed (items ps).0)) (items ps).0 (fit_items text ps w.cut);
    }

-- if a text parses as a value, the formatted text parses as it, too
pub formatted_parses : {A : Type 0} (Is : A → Type 0) (spelled : A → List Leveled) (text out : List ℕ) → IsWhole text → out ≡ formatted text → length out ≤ 1048576 → IsUtf8 out → (reported : A) → ParsesTo Is spelled text reported → ParsesTo Is spelled out reported
formatted_parses Is spelled text out w h short utf8 reported s =
    let same : out ≡ layout rules w.pieces = h ∙ formatted_is text w.pieces w.cut in
    subst (λ (l : List ℕ). ParsesTo Is spelled l reported) (sym same)
    (spelled_same Is spelled rules steady text w.pieces reported w.cut s (subst (λ (l : List ℕ). length l ≤ 1048576) same short) (subst IsUtf8 same utf8))

-- a text that is read consists of pieces up to its end
pub read_whole : {A : Type 0} (Is : A → Type 0) (spelled : A → List Leveled) → ((a : A) → Real (spelled a)) → (text : List ℕ) (reported : A) → ParsesTo Is spelled text reported → IsWhole text
read_whole Is spelled real text reported s = let w = whole Is spelled real text reported s in record { pieces = w.0; cut = w.1 }
