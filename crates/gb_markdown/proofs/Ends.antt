-- Where stressed words end, a byte further.
use Rattle.std.proofs.Common.{◌≡◌, ℕ, ◌-◌, List, ◌∷◌, Some, sym, ap, ◌∙◌}
use Rattle.std.specs.Prelude.{not, if◌then◌else◌}
use Rattle.std.proofs.lemmas.Bool.{ne_eqb}
use Rattle.gb_markdown.specs.References.{Refs}
use Rattle.gb_markdown.specs.Inline.{byte_step, ends_after, ends_from}
use Rattle.gb_markdown.specs.declared.stress.Ending.{Ending}
use Rattle.gb_markdown.specs.declared.stress.Signs.{Signs}

pub passed_over : (refs : Refs) (stop : ℕ) (stack : List Signs) (ends : List Ending) (skip before b : ℕ)
    (line rest : List ℕ) (meant : List Ending) → line ≡ b ∷ rest → ¬ (skip ≡ 0)
    → ends_from refs stop stack ends skip before line ≡ meant
    → ends_from refs stop stack ends (skip - 1) b rest ≡ meant
passed_over refs stop stack ends skip before b line rest meant cut some is =
    let step = byte_step refs stop stack ends before (b ∷ rest) in
    let more : List Ending = ends_after (λ s e k. ends_from refs stop s e k b rest) step.0 step.1 step.2 in
    let kept : ends_from refs stop stack ends skip before (b ∷ rest)
    ≡ ends_from refs stop stack ends (skip - 1) b rest =
    ap (λ t. if not t then ends_from refs stop stack ends (skip - 1) b rest else more) (ne_eqb skip 0 some) in
    sym kept ∙ sym (ap (λ text. ends_from refs stop stack ends skip before text) cut) ∙ is

pub stepped : (refs : Refs) (stop : ℕ) (stack : List Signs) (ends : List Ending) (skip before b : ℕ)
    (line rest : List ℕ) (meant : List Ending) (next : List Signs) (found : List Ending) (more : ℕ)
    → line ≡ b ∷ rest → skip ≡ 0 → next ≡ (byte_step refs stop stack ends before line).0
    → found ≡ (byte_step refs stop stack ends before line).1
    → Some more ≡ (byte_step refs stop stack ends before line).2
    → ends_from refs stop stack ends skip before line ≡ meant
    → ends_from refs stop next found more b rest ≡ meant
stepped refs stop stack ends skip before b line rest meant next found more cut none n f m is =
    let step = byte_step refs stop stack ends before (b ∷ rest) in
    let first : next ≡ step.0 = n ∙ ap (λ text. (byte_step refs stop stack ends before text).0) cut in
    let second : found ≡ step.1 = f ∙ ap (λ text. (byte_step refs stop stack ends before text).1) cut in
    let third : Some more ≡ step.2 = m ∙ ap (λ text. (byte_step refs stop stack ends before text).2) cut in
    let whole : ends_from refs stop stack ends 0 before (b ∷ rest) ≡ meant =
    sym (ap (λ text. ends_from refs stop stack ends 0 before text) cut)
    ∙ sym (ap (λ k. ends_from refs stop stack ends k before line) none) ∙ is in
    ap (λ s. ends_from refs stop s found more b rest) first
    ∙ ap (λ e. ends_from refs stop step.0 e more b rest) second
    ∙ ap (λ o. ends_after (λ s e k. ends_from refs stop s e k b rest) step.0 step.1 o) third ∙ whole
