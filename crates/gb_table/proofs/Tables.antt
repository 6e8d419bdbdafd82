-- A table's entries, looked up by name.
use Rattle.std.proofs.Common.{is_some, ◌≡◌, ℕ, true, false, true≢false, cond, not, ◌&&◌, ◌||◌, List, [], ◌∷◌, ◌++◌, map, Option, Some, None, Result, Ok, Err, refl, sym, ap, ◌∙◌, bytes_eq}
use Rattle.std.specs.List.{AllByRecursion, IsDistinct}
use Rattle.std.proofs.lemmas.Map.Keys.{IsDistinct-head, IsDistinct-tail}
use Rattle.std.specs.Result.{IsErrAnd, IsErrOf}
use Rattle.std.specs.Cmp.Lexicographic.{bytes_decides}
use Rattle.std.specs.FinMap.Entries.{find}
use Rattle.std.specs.Map.{lookup}
use Rattle.gb_core.specs.Lists.{byte_order, has_text, no_repeats}
use Rattle.gb_core.proofs.Found.{find-same, find-other}
use Rattle.gb_table.specs.declared.table.AddFault.{AddFault}
use Rattle.gb_table.specs.declared.table.AddFault.TheVariants.{Taken, OutOfMemory}

-- a value that is absent
pub is_none : {X : Type 0} (o : Option X) → is_some o ≡ false → o ≡ None
is_none None e = refl
is_none (Some x) e = absurd (true≢false e)

separate : (fault : AddFault) → fault ≡ OutOfMemory → IsErrOf {T = Unit {0}} (Err fault) Taken → ⊥
separate fault h is = cc

pub ok_is_no_fault : (x : Unit {0}) → IsErrOf {E = AddFault} (Ok x) Taken → ⊥
ok_is_no_fault x is = cc

-- an out-of-memory fault is no duplicate, and an absent name is no duplicate
pub no_memory : {P : Type 0} (r : Result (Unit {0}) AddFault) → IsErrAnd r (λ fault. fault ≡ OutOfMemory) → ¬ P → (IsErrOf r Taken → P) × (P → IsErrOf r Taken)
no_memory (Ok x) h absent = absurd h
no_memory (Err fault) h absent = (λ is. absurd (separate fault h is), λ p. absurd (absent p))

module _ {K S : Type 0} (text : K → List ℕ) where
  abbrev pub named : List (K × S) → List (List ℕ × S)
  named es = map (λ e. (text e.0, e.1)) es

  pub find-named : (q : List ℕ) (es : List (K × S)) → find byte_order q (named es) ≡ lookup (λ k. bytes_eq q (text k)) es
  find-named q [] = refl
  find-named q (e ∷ es) =
      elim (bytes_eq q (text e.0)) as (λ b. bytes_eq q (text e.0) ≡ b → find byte_order q (named (e ∷ es)) ≡ cond b (Some e.1) (lookup (λ k. bytes_eq q (text k)) es)) [
        | true ↦ λ p. find-same q (text e.0, e.1) (named es) (sym ((bytes_decides q (text e.0)).0 p))
        | false ↦ λ p. find-other q (text e.0, e.1) (named es) (λ same. true≢false (sym ((bytes_decides q (text e.0)).1 (sym same)) ∙ p)) ∙ find-named q es
      ] refl

  pub named-append : (es fs : List (K × S)) → named (es ++ fs) ≡ named es ++ named fs
  named-append [] fs = refl
  named-append (e ∷ es) fs = ap (λ r. (text e.0, e.1) ∷ r) (named-append es fs)

  -- whether a name is found in the table, by the underlying entries
  pub found-by : (q name : List ℕ) (es : List (K × S)) (table : List (List ℕ × S)) → named es ≡ table → name ≡ q
      → is_some (find byte_order q table) ≡ is_some (lookup (λ k. bytes_eq name (text k)) es)
  found-by q name es table is same =
      ap (λ x. is_some (find byte_order q x)) (sym is) ∙ ap is_some (find-named q es) ∙ ap (λ n. is_some (lookup (λ k. bytes_eq n (text k)) es)) (sym same)

  none_has : (q : List ℕ) (es : List (K × S)) → AllByRecursion (λ k. bytes_eq q (text k) ≡ false) (map (λ e. e.0) es)
      → has_text (map (λ e. e.0) (named es)) q ≡ false
  none_has q [] others = refl
  none_has q (e ∷ es) others =
      ap (λ b. b || has_text (map (λ e. e.0) (named es)) q) others.0 ∙ none_has q es others.1

  -- keys whose texts differ give a table in which no name occurs twice
  pub no_repeats-named : (es : List (K × S)) → IsDistinct (λ k other. bytes_eq (text k) (text other)) (map (λ e. e.0) es)
      → no_repeats (map (λ e. e.0) (named es)) ≡ true
  no_repeats-named [] distinct = refl
  no_repeats-named (e ∷ es) distinct =
      let alone = none_has (text e.0) es (IsDistinct-head (λ k other. bytes_eq (text k) (text other)) e.0 (map (λ e. e.0) es) distinct) in
      let others = no_repeats-named es (IsDistinct-tail (λ k other. bytes_eq (text k) (text other)) e.0 (map (λ e. e.0) es) distinct) in
      ap (λ b. not b && no_repeats (map (λ e. e.0) (named es))) alone ∙ others
