-- What is shown and escaped of a name.
use Rattle.std.proofs.Common.{ℕ, ◌≡◌, ◌==◌, ◌||◌, ◌&&◌, not, Bool, true, false, cond, List, [], ◌∷◌, ◌++◌, Some, map, refl, ap, sym, ◌∙◌, append_assoc, codes}
use Rattle.std.specs.List.{AllByRecursion, flat_map, list_all}
use Rattle.gb_picture.specs.Escapes.{dot_char, is_markup, is_special, mermaid_char, read_dot, xml_char, with_prefix}
use Rattle.gb_picture.specs.Shown.{is_hidden, shown_char}

all_append : {T : Type 0} (P : T → Type 0) (prefix back : List T) → AllByRecursion P prefix → AllByRecursion P back → AllByRecursion P (prefix ++ back)
all_append P [] back is more = more
all_append P (x ∷ prefix) back is more = (is.0, all_append P prefix back is.1 more)

pub all_flat : (P : ℕ → Type 0) (write : ℕ → List ℕ) → ((c : ℕ) → AllByRecursion P (write c)) → (cs : List ℕ) → AllByRecursion P (flat_map write cs)
all_flat P write each [] = tt
all_flat P write each (c ∷ cs) = all_append P (write c) (flat_map write cs) (each c) (all_flat P write each cs)

pub all_map : (P : ℕ → Type 0) (write : ℕ → ℕ) → ((c : ℕ) → P (write c)) → (cs : List ℕ) → AllByRecursion P (map write cs)
all_map P write each [] = tt
all_map P write each (c ∷ cs) = (each c, all_map P write each cs)

-- a choice that is made by a test has what both cases have
pub shows : (c : ℕ) → is_hidden (shown_char c) ≡ false
shows c =
    let by : (b : Bool) → is_hidden c ≡ b → is_hidden (cond b 0xFFFD c) ≡ false = λ b is. elim b as (λ v. is_hidden c ≡ v → is_hidden (cond v 0xFFFD c) ≡ false) [ true ↦ λ e. refl | false ↦ λ e. e ] is in
    by (is_hidden c) refl

-- what is chosen by a test has what each case has
choose : (P : ℕ → Type 0) (b : Bool) (one other : List ℕ) → AllByRecursion P one → (b ≡ false → AllByRecursion P other) → AllByRecursion P (cond b one other)
choose P true one other is else = is
choose P false one other is else = else refl

passes : (b more : Bool) → (not b && more) ≡ true → b ≡ false
passes true more e = cc
passes false more e = refl

others : (b more : Bool) → (not b && more) ≡ true → more ≡ true
others true more e = cc
others false more e = e

-- a written text whose characters all pass
plain : (p : ℕ → Bool) (cs : List ℕ) → list_all (λ c. not (p c)) cs ≡ true → AllByRecursion (λ c. p c ≡ false) cs
plain p [] e = tt
plain p (c ∷ cs) e = (passes (p c) (list_all (λ c. not (p c)) cs) e, plain p cs (others (p c) (list_all (λ c. not (p c)) cs) e))

pub xml_plain : (c : ℕ) → AllByRecursion (λ x. is_markup x ≡ false) (xml_char c)
xml_plain c =
    let P : ℕ → Type 0 = λ x. is_markup x ≡ false in
    choose P (c == 34) _ _ (plain is_markup (codes "&quot;") refl) (λ a.
    choose P (c == 38) _ _ (plain is_markup (codes "&amp;") refl) (λ b.
    choose P (c == 39) _ _ (plain is_markup (codes "&#39;") refl) (λ d.
    choose P (c == 60) _ _ (plain is_markup (codes "&lt;") refl) (λ e.
    choose P (c == 62) _ _ (plain is_markup (codes "&gt;") refl) (λ f. (rw (a, d, e, f) refl, tt))))))

pub mermaid_plain : (c : ℕ) → AllByRecursion (λ x. is_special x ≡ false) (mermaid_char c)
mermaid_plain c =
    let P : ℕ → Type 0 = λ x. is_special x ≡ false in
    choose P (c == 34) _ _ (plain is_special (codes "#quot;") refl) (λ a.
    choose P (c == 35) _ _ (plain is_special (codes "#35;") refl) (λ b.
    choose P (c == 38) _ _ (plain is_special (codes "#amp;") refl) (λ d.
    choose P (c == 60) _ _ (plain is_special (codes "#lt;") refl) (λ e.
    choose P (c == 62) _ _ (plain is_special (codes "#gt;") refl) (λ f.
    choose P (c == 96) _ _ (plain is_special (codes "#96;") refl) (λ g. (rw (a, d, e, f, g) refl, tt)))))))

-- ---- DOT

-- one character that is written, with what follows it
dot_step : (c : ℕ) (name rest more : List ℕ) → read_dot false more ≡ Some (name, rest) → read_dot false (dot_char c ++ more) ≡ Some (c ∷ name, rest)
dot_step c name rest more read =
    let by : (quote slash : Bool) → (c == 34) ≡ quote → (c == 92) ≡ slash → read_dot false (cond (quote || slash) (92 ∷ c ∷ []) (c ∷ []) ++ more) ≡ Some (c ∷ name, rest) =
    λ quote slash is_quote is_slash. elim quote as (λ q. (c == 34) ≡ q → read_dot false (cond (q || slash) (92 ∷ c ∷ []) (c ∷ []) ++ more) ≡ Some (c ∷ name, rest)) [
      | true ↦ λ e. ap (with_prefix c) read
      | false ↦ λ e. elim slash as (λ s. (c == 92) ≡ s → read_dot false (cond s (92 ∷ c ∷ []) (c ∷ []) ++ more) ≡ Some (c ∷ name, rest)) [
        | true ↦ λ f. ap (with_prefix c) read
        | false ↦ λ f. rw (e, f) (ap (with_prefix c) read)
      ] is_slash
    ] is_quote in
    by (c == 34) (c == 92) refl refl

pub dot_back : (name rest : List ℕ) → read_dot false (flat_map dot_char name ++ 34 ∷ rest) ≡ Some (name, rest)
dot_back [] rest = refl
dot_back (c ∷ name) rest =
    ap (read_dot false) (append_assoc (dot_char c) (flat_map dot_char name) (34 ∷ rest))
    ∙ dot_step c name rest (flat_map dot_char name ++ 34 ∷ rest) (dot_back name rest)
