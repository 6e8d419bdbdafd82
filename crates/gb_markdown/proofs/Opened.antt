-- Definitions that are opened where they are computed.
use Rattle.std.proofs.Common.{◌≡◌, ℕ, zero, suc, ◌-◌, ◌<◌, arith, Bool, List, [], ◌∷◌, refl, ap, ◌∙◌}
use Rattle.std.proofs.Common.{append-nil}
use Rattle.gb_markdown.specs.Pieces.{Text, escaped, written}
use Rattle.gb_markdown.specs.References.{Refs}
use Rattle.gb_markdown.specs.Inline.{inline, tokens_of}
use Rattle.gb_markdown.specs.Tables.{lines_in, words_depth}
use Rattle.gb_markdown.specs.Blocks.{Names, blocks_depth, blocks_of, paragraph, read}
use Rattle.gb_markdown.specs.declared.blocks.Block.TheVariants as blocks

inline_zero : (refs : Refs) (text : List ℕ) → inline 0 refs text ≡ Text text ∷ []
unfolding inline
inline_zero refs text = refl

pub inline_none : (depth : ℕ) → depth ≡ 0 → (refs : Refs) (text : List ℕ)
    → written (inline depth refs text) ≡ escaped text
inline_none depth none refs text =
    ap (λ n. written (inline n refs text)) none ∙ ap written (inline_zero refs text) ∙ append-nil (escaped text)

inline_suc : (depth : ℕ) (refs : Refs) (text : List ℕ)
    → inline (suc depth) refs text ≡ tokens_of (inline depth) refs [] 0 10 text
unfolding inline
inline_suc depth refs text = refl

pub inline_some : (depth : ℕ) → ¬ (depth ≡ 0) → (refs : Refs) (text : List ℕ)
    → written (inline depth refs text) ≡ written (tokens_of (inline (depth - 1)) refs [] 0 10 text)
inline_some zero some refs text = absurd (some refl)
inline_some (suc depth) some refs text =
    let less : depth ≡ suc depth - 1 = omega arith in
    ap written (inline_suc depth refs text) ∙ ap (λ n. written (tokens_of (inline n) refs [] 0 10 text)) less

pub blocks_none : (refs : Refs) (names : Names) (tight : Bool) (text : List ℕ)
    → blocks_of 0 refs names tight text ≡ (paragraph refs tight text, names)
unfolding blocks_of
blocks_none refs names tight text = refl

pub blocks_some : (depth : ℕ) → 0 < depth → (refs : Refs) (names : Names) (tight : Bool) (text : List ℕ)
    → blocks_of depth refs names tight text
    ≡ read (blocks_of (depth - 1) refs) refs names tight blocks.Nothing [] (lines_in text)
unfolding blocks_of
blocks_some zero some refs names tight text = absurd (omega (arith, some))
blocks_some (suc depth) some refs names tight text =
    let less : depth ≡ suc depth - 1 = omega arith in
    ap (λ n. read (blocks_of n refs) refs names tight blocks.Nothing [] (lines_in text)) less

pub blocks_depth_is : blocks_depth ≡ 16
unfolding blocks_depth
blocks_depth_is = refl

pub words_depth_is : words_depth ≡ 6
unfolding words_depth
words_depth_is = refl
