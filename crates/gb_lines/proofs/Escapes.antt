-- Escapes undone byte by byte.
use Rattle.std.proofs.Common.{◌≡◌, ℕ, Bool, true, false, List, [], ◌∷◌, ◌++◌, Option, None, Some, append_assoc, ap, sym, ◌∙◌, refl}
use Rattle.std.proofs.lemmas.List.{append-nil}
use Rattle.std.specs.Prelude.{◌==◌}
use Rattle.gb_lines.specs.Lines.{before, escape, unescaped}

-- these bytes, and then the text, if there is one
abbrev pub prefixed : List ℕ → Option (List ℕ) → Option (List ℕ)
prefixed done None = None
prefixed done (Some text) = Some (done ++ text)

-- the bytes after a backslash, or as they are
abbrev pub pending : Bool → List ℕ → List ℕ
pending true text = 92 ∷ text
pending false text = text

pub plain : (b : ℕ) (text : List ℕ) → (b == 92) ≡ false → unescaped (b ∷ text) ≡ before (Some b) (unescaped text)
unfolding unescaped
plain b [] h = rw h refl
plain b (c ∷ text) h = rw h refl

pub one_more : (done : List ℕ) (b : ℕ) (found : Option (List ℕ)) → prefixed (done ++ b ∷ []) found ≡ prefixed done (before (Some b) found)
one_more done b None = refl
one_more done b (Some text) = ap (λ (l : List ℕ). Some l) (append_assoc done (b ∷ []) text)

-- a backslash begins an escape
pub opens : (done rest left : List ℕ) (b : ℕ) (whole : Option (List ℕ)) → left ≡ b ∷ rest → b ≡ 92 → prefixed done (unescaped left) ≡ whole → prefixed done (unescaped (92 ∷ rest)) ≡ whole
unfolding unescaped
opens done rest left b whole here slash so_far = ap (λ (c : ℕ). prefixed done (unescaped (c ∷ rest))) (sym slash) ∙ ap (λ (l : List ℕ). prefixed done (unescaped l)) (sym here) ∙ so_far

-- a letter after a backslash ends it
pub closes : (done rest left : List ℕ) (b meant : ℕ) (whole : Option (List ℕ)) → left ≡ b ∷ rest → escape b ≡ Some meant → prefixed done (unescaped (92 ∷ left)) ≡ whole → prefixed (done ++ meant ∷ []) (unescaped rest) ≡ whole
unfolding unescaped
closes done rest left b meant whole here known so_far =
    one_more done meant (unescaped rest)
    ∙ ap (λ (m : Option ℕ). prefixed done (before m (unescaped rest))) (sym known)
    ∙ ap (λ (l : List ℕ). prefixed done (unescaped (92 ∷ l))) (sym here)
    ∙ so_far

-- no other letter does
pub stuck : (done rest left : List ℕ) (b : ℕ) (whole : Option (List ℕ)) → left ≡ b ∷ rest → escape b ≡ None → prefixed done (unescaped (92 ∷ left)) ≡ whole → whole ≡ None
unfolding unescaped
stuck done rest left b whole here unknown so_far =
    sym so_far
    ∙ ap (λ (l : List ℕ). prefixed done (unescaped (92 ∷ l))) here
    ∙ ap (λ (m : Option ℕ). prefixed done (before m (unescaped rest))) unknown

-- any other byte denotes itself
pub exists : (done rest left : List ℕ) (b : ℕ) (whole : Option (List ℕ)) → left ≡ b ∷ rest → (b == 92) ≡ false → prefixed done (unescaped left) ≡ whole → prefixed (done ++ b ∷ []) (unescaped rest) ≡ whole
unfolding unescaped
exists done rest left b whole here other so_far =
    one_more done b (unescaped rest)
    ∙ ap (λ (t : Option (List ℕ)). prefixed done t) (sym (plain b rest other))
    ∙ ap (λ (l : List ℕ). prefixed done (unescaped l)) (sym here)
    ∙ so_far

-- at the end no backslash is open
pub ends : (done text left : List ℕ) → left ≡ [] → prefixed done (unescaped left) ≡ unescaped text → unescaped text ≡ Some done
unfolding unescaped
ends done text left end so_far =
    sym so_far
    ∙ ap (λ (l : List ℕ). prefixed done (unescaped l)) end
    ∙ ap (λ (l : List ℕ). Some l) (append-nil done)

-- a backslash with no letter
pub open_end : (done text left : List ℕ) → left ≡ [] → prefixed done (unescaped (92 ∷ left)) ≡ unescaped text → unescaped text ≡ None
unfolding unescaped
open_end done text left end so_far = sym so_far ∙ ap (λ (l : List ℕ). prefixed done (unescaped (92 ∷ l))) end
