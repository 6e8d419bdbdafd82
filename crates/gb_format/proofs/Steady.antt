-- The rules of a text are those of its layout.
use Rattle.std.proofs.Common.{◌≡◌, ℕ, Bool, true, false, cond, List, [], ◌∷◌, map, refl, sym, ap, ◌∙◌}
use Rattle.gb_script.specs.Lexing.{Piece, Blank, Comment, Single, written}
use Rattle.gb_script.specs.declared.token.Token.TheVariants.{Word, Text, Mark, Wrong}
use Rattle.gb_format.specs.declared.kind.Kind.{Kind}
use Rattle.gb_format.specs.declared.kind.Kind.TheVariants as kinds
use Rattle.gb_format.specs.declared.fits.Reach.TheVariants as reaches
use Rattle.gb_format.specs.declared.rule.Spacing.{Spacing}
use Rattle.gb_format.specs.declared.rule.Spacing.TheVariants.{Beside, Below, Away}
use Rattle.gb_format.specs.declared.rule.Rule.{Rule}
use Rattle.gb_format.specs.declared.rule.Rule.TheVariants.{Space, Line}
use Rattle.gb_format.specs.declared.state.State.{State}
use Rattle.gb_format.specs.declared.state.Advance.{Advance}
use Rattle.gb_format.specs.Kinds.{kind_of}
use Rattle.gb_format.specs.Places.{begins, depth}
use Rattle.gb_format.specs.Fits.{fits_from}
use Rattle.gb_format.specs.Rules.{joins, begun_rule, begun, begin, inner, step_as, step}
use Rattle.gb_format.specs.Layout.{Item, tidy, spacing, gap_of, between, rules_after, placed_after, placed_first, Observed, observed, AreSteady}
use Rattle.gb_format.specs.Shown.{Shown, texts, state_after}
use Rattle.gb_format.proofs.Showing.{shows}
use Rattle.gb_format.proofs.Twice.{tidy_twice, below}

-- ---- the rules as a list

abbrev pub rules_from : State → Kind → Shown → List Rule
rules_from s k [] = []
rules_from s k (x ∷ xs) =
    (step s k x.0 x.1 (texts xs)).rule ∷ rules_from (step s k x.0 x.1 (texts xs)).state (kind_of x.1) xs

abbrev pub rules_of : Shown → List Rule
rules_of [] = []
rules_of (x ∷ xs) = rules_from (state_after x.1 (texts xs)) (kind_of x.1) xs

abbrev pub rules : Observed → List Rule
rules xs = rules_of (map (λ x. (x.0, written x.1)) xs)

pub rules_observed : (xs : List Item) → rules (observed xs) ≡ rules_of (shows xs)
rules_observed xs = ap rules_of (same xs)
  where
    same : (xs : List Item) → map (λ x. (x.0, written x.1)) (observed xs) ≡ shows xs
    same [] = refl
    same (x ∷ xs) = ap (λ (l : Shown). (spacing x.0, written (tidy x.1)) ∷ l) (same xs)

-- ---- one step

-- the function keeps spaces and new lines after an opening brace
record Keeps (k : Kind) (m : Rule → Rule) : Type 0 where
  space : k ≡ kinds.OpenBrace → m Space ≡ Space
  line : k ≡ kinds.OpenBrace → (n : ℕ) → m (Line n) ≡ Line n

between_keeps : (p q : Piece) → Keeps (kind_of (written p)) (λ r. between p r q)
between_keeps (Blank b) q = record { space = λ h. refl; line = λ h n. refl }
between_keeps (Comment c) q = record { space = λ h. absurd cc; line = λ h n. refl }
between_keeps (Single (Word w)) q = record { space = λ h. refl; line = λ h n. refl }
between_keeps (Single (Text t)) q = record { space = λ h. refl; line = λ h n. refl }
between_keeps (Single (Mark s)) q = record { space = λ h. refl; line = λ h n. refl }
between_keeps (Single Wrong) q = record { space = λ h. refl; line = λ h n. refl }

abbrev ruled : State → Kind → (Rule → Rule) → Spacing → Bool → Spacing
ruled s k m a j = spacing (gap_of (m (begun_rule s k j)) a)

-- a block stays on its line, or does not
brace_steady : (s : State) (m : Rule → Rule) (a : Spacing) (t : List ℕ) (ts : List (List ℕ)) → Keeps kinds.OpenBrace m → joins s kinds.OpenBrace (ruled s kinds.OpenBrace m a (joins s kinds.OpenBrace a t ts)) t ts ≡ joins s kinds.OpenBrace a t ts
brace_steady s m a t ts h = by_case a
  where
    broken : (a : Spacing) → joins s kinds.OpenBrace (ruled s kinds.OpenBrace m a false) t ts ≡ false
    broken a = ap (λ r. joins s kinds.OpenBrace (spacing (gap_of r a)) t ts) (h.line refl (depth s.place)) ∙ ap (λ b. joins s kinds.OpenBrace b t ts) (below (depth s.place))

    joined : (b : Bool) → fits_from reaches.Block s.place s.room t ts ≡ b → joins s kinds.OpenBrace (ruled s kinds.OpenBrace m Beside b) t ts ≡ b
    joined true e = ap (λ r. joins s kinds.OpenBrace (spacing (gap_of r Beside)) t ts) (h.space refl) ∙ e
    joined false e = broken Beside

    by_case : (a : Spacing) → joins s kinds.OpenBrace (ruled s kinds.OpenBrace m a (joins s kinds.OpenBrace a t ts)) t ts ≡ joins s kinds.OpenBrace a t ts
    by_case Beside = joined (fits_from reaches.Block s.place s.room t ts) refl
    by_case Below = broken Below
    by_case Away = broken Away

joins_steady : (s : State) (k : Kind) (m : Rule → Rule) (a : Spacing) (t : List ℕ) (ts : List (List ℕ)) → Keeps k m → joins s k (ruled s k m a (joins s k a t ts)) t ts ≡ joins s k a t ts
joins_steady s kinds.OpenBrace m a t ts h = brace_steady s m a t ts h
joins_steady s kinds.Comment m a t ts h = refl
joins_steady s kinds.Word m a t ts h = refl
joins_steady s kinds.Text m a t ts h = refl
joins_steady s kinds.CloseBrace m a t ts h = refl
joins_steady s kinds.OpenParen m a t ts h = refl
joins_steady s kinds.OpenBracket m a t ts h = refl
joins_steady s kinds.Close m a t ts h = refl
joins_steady s kinds.Comma m a t ts h = refl
joins_steady s kinds.Dot m a t ts h = refl
joins_steady s kinds.Sign m a t ts h = refl

abbrev made : State → Kind → List ℕ → List (List ℕ) → Bool → Advance
made s k t ts j = record { rule = begun_rule s k j; state = begun s j t ts }

token_steady : (s : State) (k : Kind) (m : Rule → Rule) (a : Spacing) (t : List ℕ) (ts : List (List ℕ)) (b : Bool) → Keeps k m → cond b (begin s k (spacing (gap_of (m (cond b (begin s k a t ts) (inner s k t ts)).rule) a)) t ts) (inner s k t ts) ≡ cond b (begin s k a t ts) (inner s k t ts)
token_steady s k m a t ts true h = ap (made s k t ts) (joins_steady s k m a t ts h)
token_steady s k m a t ts false h = refl

as_steady : (kt : Kind) (s : State) (k : Kind) (m : Rule → Rule) (a : Spacing) (t : List ℕ) (ts : List (List ℕ)) → Keeps k m → step_as kt s k (spacing (gap_of (m (step_as kt s k a t ts).rule) a)) t ts ≡ step_as kt s k a t ts
as_steady kinds.Comment s k m a t ts h = refl
as_steady kinds.CloseBrace s k m a t ts h = refl
as_steady kinds.Word s k m a t ts h = token_steady s k m a t ts (begins s.place t) h
as_steady kinds.Text s k m a t ts h = token_steady s k m a t ts (begins s.place t) h
as_steady kinds.OpenBrace s k m a t ts h = token_steady s k m a t ts (begins s.place t) h
as_steady kinds.OpenParen s k m a t ts h = token_steady s k m a t ts (begins s.place t) h
as_steady kinds.OpenBracket s k m a t ts h = token_steady s k m a t ts (begins s.place t) h
as_steady kinds.Close s k m a t ts h = token_steady s k m a t ts (begins s.place t) h
as_steady kinds.Comma s k m a t ts h = token_steady s k m a t ts (begins s.place t) h
as_steady kinds.Dot s k m a t ts h = token_steady s k m a t ts (begins s.place t) h
as_steady kinds.Sign s k m a t ts h = token_steady s k m a t ts (begins s.place t) h

step_steady : (s : State) (k : Kind) (m : Rule → Rule) (a : Spacing) (t : List ℕ) (ts : List (List ℕ)) → Keeps k m → step s k (spacing (gap_of (m (step s k a t ts).rule) a)) t ts ≡ step s k a t ts
unfolding step
step_steady s k m a t ts h = as_steady (kind_of t) s k m a t ts h

-- ---- all steps

texts_placed : (p : Piece) (rs : List Rule) (xs : List Item) → texts (shows (placed_after p rs xs)) ≡ texts (shows xs)
texts_placed p rs [] = refl
texts_placed p rs (x ∷ xs) =
    ap (λ (q : Piece). written q ∷ texts (shows (placed_after (tidy x.1) (rules_after rs) xs))) (tidy_twice x.1)
    ∙ ap (λ (l : List (List ℕ)). written (tidy x.1) ∷ l) (texts_placed (tidy x.1) (rules_after rs) xs)

abbrev next_rules : Kind → Advance → Shown → List Rule
next_rules k n xs = n.rule ∷ rules_from n.state k xs

steady_from : (s : State) (p : Piece) (xs : List Item) → rules_from s (kind_of (written p)) (shows (placed_after p (rules_from s (kind_of (written p)) (shows xs)) xs)) ≡ rules_from s (kind_of (written p)) (shows xs)
steady_from s p [] = refl
steady_from s p (x ∷ xs) =
    let k = kind_of (written p) in
    let q = tidy x.1 in
    let t = written q in
    let a = spacing x.0 in
    let ts = texts (shows xs) in
    let n = step s k a t ts in
    let rest = placed_after q (rules_from n.state (kind_of t) (shows xs)) xs in
    let b = spacing (gap_of (between p n.rule q) a) in
    ap (λ (z : Piece). next_rules (kind_of (written z)) (step s k b (written z) (texts (shows rest))) (shows rest)) (tidy_twice x.1)
    ∙ ap (λ (l : List (List ℕ)). next_rules (kind_of t) (step s k b t l) (shows rest)) (texts_placed q (rules_from n.state (kind_of t) (shows xs)) xs)
    ∙ ap (λ (z : Advance). next_rules (kind_of t) z (shows rest)) (step_steady s k (λ r. between p r q) a t ts (between_keeps p q))
    ∙ ap (λ (l : List Rule). n.rule ∷ l) (steady_from n.state q xs)

steady_first : (xs : List Item) → rules_of (shows (placed_first (rules_of (shows xs)) xs)) ≡ rules_of (shows xs)
steady_first [] = refl
steady_first (x ∷ xs) =
    let q = tidy x.1 in
    let t = written q in
    let rest = placed_after q (rules_of (shows (x ∷ xs))) xs in
    ap (λ (z : Piece). rules_from (state_after (written z) (texts (shows rest))) (kind_of (written z)) (shows rest)) (tidy_twice x.1)
    ∙ ap (λ (l : List (List ℕ)). rules_from (state_after t l) (kind_of t) (shows rest)) (texts_placed q (rules_of (shows (x ∷ xs))) xs)
    ∙ steady_from (state_after t (texts (shows xs))) q xs

pub steady : AreSteady rules
steady xs =
    rules_observed (placed_first (rules (observed xs)) xs)
    ∙ ap (λ (rs : List Rule). rules_of (shows (placed_first rs xs))) (rules_observed xs)
    ∙ steady_first xs
    ∙ sym (rules_observed xs)
