-- From how many tokens are left to the lines of tokens, and to the meaning of the bytes of a text.
use Rattle.std.proofs.Common.{◌≡◌, ℕ, ◌-◌, ◌≤◌, ◌⊎◌, inl, inr, List, [], ◌∷◌, ◌++◌, length, map, take, drop, Ok, Err, refl, sym, ap, ◌∙◌, append_assoc}
use Rattle.std.proofs.lemmas.List.{length-map, length-drop, take-append-drop}
use Rattle.std.specs.Prelude.{IsUtf8}
use Rattle.gb_script.specs.declared.token.Token.{Token}
use Rattle.gb_script.specs.declared.token_fault.Stop.{Stop}
use Rattle.gb_script.specs.declared.token_fault.Stop.TheVariants as stops
use Rattle.gb_script.specs.declared.fault.ScriptFault.{ScriptFault}
use Rattle.gb_script.specs.declared.fault.ScriptFault.TheVariants.{OutOfMemory}
use Rattle.gb_script.specs.declared.script.Clause.{Clause}
use Rattle.gb_script.specs.declared.script.Statement.{Statement}
use Rattle.gb_script.specs.Lexing.{Placed}
use Rattle.gb_script.specs.Scanning.{scan}
use Rattle.gb_script.specs.Grammar.{Leveled, clause_tokens, statement_tokens, script_tokens}
use Rattle.gb_script.specs.Fits.{IsScript}
use Rattle.gb_script.specs.Notation.{tokens_in, line_of, IsSaid}
use Rattle.gb_script.specs.Reporting.{line_left, fault_reported}
use Rattle.gb_script.specs.Reading.{Fails, all_at}
use Rattle.gb_script.specs.Readers.{script_at}
use Rattle.gb_script.specs.Lines.{each_from, clauses_in, before_clauses, statement_lines, script_lines, AreLinesOf}
use Rattle.gb_script.specs.LineReaders.{script_lines_at}
use Rattle.gb_script.proofs.Readers.{bind_ok, bind_err, ok_is}
use Rattle.gb_script.proofs.StatementLaws.{Reads-script, script_ends_text}
use Rattle.gb_script.proofs.Sources.{line_is, parses_text, reported_stop}
use Rattle.gb_script.proofs.Pieces.{tokens_again}
use Rattle.gb_script.proofs.LineLaws.{firsts, clause_first, clause_firsts, statement_first, whole_same}

abbrev lines_of : List Placed → List ℕ
lines_of tokens = map (λ p. p.1) tokens

module _ (bytes : List ℕ) (short : length bytes ≤ 1048576) (utf8 : IsUtf8 bytes) where
  abbrev all : List Placed
  all = scan 1 bytes

  abbrev line : ℕ → ℕ
  line n = line_left bytes (lines_of all) n

  line_same : (prefix rest : List Placed) → all ≡ prefix ++ rest → line (length rest) ≡ line_of bytes rest
  line_same prefix rest h = line_is Reads-script script_ends_text bytes short utf8 (length rest) (lines_of all) prefix rest refl h (sym (length-map rest (λ (p : Placed). p.0)))

  each_same : {A B : Type 0} (m : A → List Leveled) (f : A → ℕ → B) (g : A → List Placed → B) → ((x : A) (prefix rest : List Placed) → all ≡ prefix ++ rest → f x (length rest) ≡ g x rest) → (xs : List A) (prefix rest : List Placed) → all ≡ prefix ++ rest → firsts f m xs (length rest) ≡ each_from g m xs rest
  each_same m f g same [] prefix rest h = refl
  each_same {B} m f g same (x ∷ xs) prefix rest h =
      let k = length (m x) in
      ap (λ (y : B). y ∷ firsts f m xs (length rest - k)) (same x prefix rest h)
      ∙ ap (λ n. g x rest ∷ firsts f m xs n) (sym (length-drop k rest))
      ∙ ap (λ (ys : List B). g x rest ∷ ys) (each_same m f g same xs (prefix ++ take k rest) (drop k rest) (cut_at k prefix rest h))
    where
      cut_at : (k : ℕ) (prefix rest : List Placed) → all ≡ prefix ++ rest → all ≡ (prefix ++ take k rest) ++ drop k rest
      cut_at k prefix rest h = h ∙ ap (λ (l : List Placed). prefix ++ l) (sym (take-append-drop k rest)) ∙ sym (append_assoc prefix (take k rest) (drop k rest))

  clauses_lines : (cs : List Clause) (prefix rest : List Placed) → all ≡ prefix ++ rest → clause_firsts line cs (length rest) ≡ each_from (λ c. line_of bytes) (clause_tokens 0) cs rest
  clauses_lines cs prefix rest h = each_same (clause_tokens 0) (clause_first line) (λ c. line_of bytes) (λ c. line_same) cs prefix rest h

  one_statement : (s : Statement) (prefix rest : List Placed) → all ≡ prefix ++ rest → statement_first line s (length rest) ≡ statement_lines bytes s rest
  one_statement s prefix rest h =
      let k = length (before_clauses s) in
      ap (λ n. (n, clause_firsts line (clauses_in s) (length rest - k))) (line_same prefix rest h)
      ∙ ap (λ n. (line_of bytes rest, clause_firsts line (clauses_in s) n)) (sym (length-drop k rest))
      ∙ ap (λ (ls : List ℕ). (line_of bytes rest, ls)) (clauses_lines (clauses_in s) (prefix ++ take k rest) (drop k rest) (cut_at k))
    where
      cut_at : (k : ℕ) → all ≡ (prefix ++ take k rest) ++ drop k rest
      cut_at k = h ∙ ap (λ (l : List Placed). prefix ++ l) (sym (take-append-drop k rest)) ∙ sym (append_assoc prefix (take k rest) (drop k rest))

  statements_lines : (ss : List Statement) → firsts (statement_first line) (statement_tokens 0) ss (length all) ≡ script_lines bytes ss all
  statements_lines ss = each_same (statement_tokens 0) (statement_first line) (statement_lines bytes) one_statement ss [] all refl

-- ---- from the steps of the code to its result

module _ (bytes text : List ℕ) (same : text ≡ bytes) (short : length bytes ≤ 1048576) (utf8 : IsUtf8 bytes) (tokens : List Token) (lines : List ℕ)
    (tokens_are : tokens ≡ tokens_in (scan 1 text)) (lines_are : lines ≡ lines_of (scan 1 text)) where
  abbrev firsts_of : List ℕ → List ℕ → ℕ → List Statement → List (ℕ × List ℕ)
  firsts_of b ls n script = firsts (statement_first (line_left b ls)) (statement_tokens 0) script n

  count_is : length tokens ≡ length (scan 1 bytes)
  count_is = ap length (tokens_are ∙ ap (λ b. tokens_in (scan 1 b)) same) ∙ length-map (scan 1 bytes) (λ (p : Placed). p.0)

  firsts_are : (script : List Statement) → firsts_of text lines (length tokens) script ≡ script_lines bytes script (scan 1 bytes)
  firsts_are script =
      ap (λ (b : List ℕ). firsts_of b lines (length tokens) script) same
      ∙ ap (λ (ls : List ℕ). firsts_of bytes ls (length tokens) script) (lines_are ∙ ap (λ (b : List ℕ). lines_of (scan 1 b)) same)
      ∙ ap (λ n. firsts_of bytes (lines_of (scan 1 bytes)) n script) count_is
      ∙ statements_lines bytes short utf8 script

  pub lines_found : (found : List (ℕ × List ℕ)) → all_at (script_lines_at (line_left text lines)) tokens ≡ Ok found → AreLinesOf bytes found
  lines_found found h =
      let x = bind_ok (all_at script_at tokens) (λ s. Ok (firsts_of text lines (length tokens) s)) found (sym (whole_same (line_left text lines) tokens) ∙ h) in
      let s = parses_text Reads-script script_ends_text bytes text same short utf8 tokens x.0 tokens_are x.1 in
      record {
        script = x.0;
        spells = s;
        lines_are = sym (ok_is (firsts_of text lines (length tokens) x.0) found x.2) ∙ firsts_are x.0 ∙ ap (script_lines bytes x.0) (sym (tokens_again bytes s.tokens s.source.has));
      }

  fails_as_script : (stop : Stop) → Fails stop (all_at (script_lines_at (line_left text lines)) tokens) → Fails stop (all_at script_at tokens)
  fails_as_script stops.Memory fails = tt
  fails_as_script (stops.Fault f) fails =
      elim (bind_err (all_at script_at tokens) (λ s. Ok (firsts_of text lines (length tokens) s)) f (sym (whole_same (line_left text lines) tokens) ∙ fails)) [
        | inl e ↦ e
        | inr x ↦ absurd (let no = x.2 in cc)
      ]

  pub lines_fault : (stop : Stop) (fault : ScriptFault) → Fails stop (all_at (script_lines_at (line_left text lines)) tokens) → fault ≡ fault_reported text lines stop → (fault ≡ OutOfMemory) ⊎ IsSaid IsScript script_tokens bytes (Err fault)
  lines_fault stop fault fails f = reported_stop Reads-script script_ends_text bytes text same short utf8 tokens lines stop fault tokens_are lines_are (fails_as_script stop fails) f
