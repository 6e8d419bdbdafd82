-- The properties of a project are in the whole table, once their nodes are made.
use Rattle.std.proofs.Common.{◌≡◌, ℕ, zero, suc, ◌+◌, ◌<◌, true, false, cond, List, [], ◌∷◌, ◌++◌, length, map, refl, sym, ap, subst, ◌∙◌, arith, append_assoc, length-append, Some}
use Rattle.std.proofs.lemmas.List.{append-nil}
use Rattle.std.proofs.lemmas.Option.{slice_get_within}
use Rattle.std.specs.Prelude.{filter_map, slice_get}
use Rattle.std.specs.BTreeMap.{insert_entry, is_at}
use Rattle.std.specs.List.{AllByRecursion}
use Rattle.std.specs.Map.{lookup}
use Rattle.std.specs.Ordering.{match_ordering, is_eq}
use Rattle.std.specs.declared.cmp.Ordering.{Ordering}
use Rattle.std.specs.declared.cmp.Ordering.TheVariants.{Less, Equal, Greater}
use Rattle.gb_core.proofs.Found.{tied_same}
use Rattle.gb_core.specs.Lists.{byte_order}
use Rattle.gb_provider.specs.declared.expression.Expression.{Expression}
use Rattle.gb_provider.specs.declared.expression.Node.{Node}
use Rattle.gb_registry.specs.Projects.{Path}
use Rattle.gb_registry.specs.Said.{declared_property}
use Rattle.gb_registry.specs.Source.{Source}
use Rattle.gb_registry.specs.Tables.{Tables}
use Rattle.gb_script.specs.Tree.{PropertyOf}
use Rattle.gb_declare.specs.Partly.{IsPartOf}
use Rattle.gb_declare.specs.Spots.{Spot, Written}
use Rattle.gb_declare.specs.Whole.{number_of}
use Rattle.gb_declare.specs.Laid.{AreUnset, ScriptsAreLaid}
use Rattle.gb_declare.specs.Statements.{named_from, properties_made, unset_property}
use Rattle.gb_declare.proofs.GrownLemmas.{one_more}

-- ---- Which node is found under a name

pub equal : (o : Ordering) → is_eq o ≡ true → o ≡ Equal
equal Less e = absurd (cc)
equal Equal e = refl
equal Greater e = absurd (cc)

module _ (P : List ℕ → Node → Type 0) where
  abbrev AllAre : List (List ℕ × Node) → Type 0
  AllAre there = AllByRecursion (λ (e : List ℕ × Node). P e.0 e.1) there

  put_are : (there : List (List ℕ × Node)) (name : List ℕ) (node : Node) → P name node → AllAre there → AllAre (insert_entry byte_order there name node)
  put_are [] name node is all = (is, tt)
  put_are (e ∷ there) name node is all =
      elim (byte_order name e.0) as (λ o. byte_order name e.0 ≡ o → AllAre (match_ordering o ((name, node) ∷ e ∷ there) ((e.0, node) ∷ there) (e ∷ insert_entry byte_order there name node))) [
        | Less ↦ λ _. (is, all)
        | Equal ↦ λ tied. (subst (λ n. P n node) (tied_same name e.0 tied) is, all.1)
        | Greater ↦ λ _. (all.0, put_are there name node is all.1)
      ] refl

  found_is : (there : List (List ℕ × Node)) (name : List ℕ) (node : Node) → AllAre there → lookup (is_at (byte_order name)) there ≡ Some node → P name node
  found_is [] name node all is = absurd (cc)
  found_is (e ∷ there) name node all is =
      elim (is_at (byte_order name) e.0) as (λ b. is_at (byte_order name) e.0 ≡ b → cond b (Some e.1) (lookup (is_at (byte_order name)) there) ≡ Some node → P name node) [
        | true ↦ λ at found.
            let same : e.1 ≡ node = cc in
            let key : name ≡ e.0 = tied_same name e.0 (equal (byte_order name e.0) at) in
            subst (λ n. P name n) same (subst (λ k. P k e.1) (sym key) all.0)
        | false ↦ λ at found. found_is there name node all.1 found
      ] refl is

pub at_place : {X : Type 0} (prefix : List X) (x : X) (rest : List X) (i : ℕ) → i ≡ length prefix → slice_get (prefix ++ x ∷ rest) i ≡ Some x
at_place [] x rest zero is = refl
at_place [] x rest (suc i) is = absurd (omega (arith, is))
at_place (y ∷ prefix) x rest zero is = absurd (omega (arith, is))
at_place (y ∷ prefix) x rest (suc i) is = at_place prefix x rest i (omega (arith, is))

-- the node of a name is that of a position of the name
abbrev IsNode : ℕ → List (List ℕ) → List ℕ → Node → Type 0
IsNode n names name node = (k : ℕ) × (slice_get names k ≡ Some name) × (node.number ≡ n + k)

named_are : (n : ℕ) (whole : List (List ℕ)) (prefix names : List (List ℕ)) (there : List (List ℕ × Node)) → whole ≡ prefix ++ names → AllAre (IsNode n whole) there
    → AllAre (IsNode n whole) (named_from (n + length prefix) there names)
named_are n whole prefix [] there is all = all
named_are n whole prefix (name ∷ names) there is all =
    let here : slice_get whole (length prefix) ≡ Some name = ap (λ w. slice_get w (length prefix)) is ∙ at_place prefix name names (length prefix) refl in
    let next : whole ≡ (prefix ++ name ∷ []) ++ names = is ∙ sym (append_assoc prefix (name ∷ []) names) in
    let count : n + length (prefix ++ name ∷ []) ≡ (n + length prefix) + 1 = omega (arith, length-append prefix (name ∷ [])) in
    let node : Node = record { number = n + length prefix } in
    let put = put_are (IsNode n whole) there name node (length prefix, here, refl) all in
    subst (λ m. AllAre (IsNode n whole) (named_from m (insert_entry byte_order there name node) names)) count
    (named_are n whole (prefix ++ name ∷ []) names (insert_entry byte_order there name node) next put)

-- ---- The nodes of names

module _ {M F Z S A : Type 0} (tables : Tables M F Z S A) (source : Source) (all : List Spot) (whole : List (Expression M F Z)) (project : Path) where
  abbrev target : List ℕ → ℕ
  target name = number_of tables source all (Written project (PropertyOf name) [])

  record AreIn (number : ℕ → ℕ) (nodes : List (Expression M F Z)) (names : List (List ℕ)) (new : List (Expression M F Z)) : Type 0 where
    pub numbers : ℕ → ℕ
    pub part : IsPartOf numbers new whole
    pub agrees : (i : ℕ) → i < length nodes → numbers i ≡ number i
    pub exists : (k : ℕ) (name : List ℕ) → slice_get names k ≡ Some name → numbers (length nodes + k) ≡ target name
    pub count : length new ≡ length nodes + length names

  exists_more : (n m : ℕ) (numbers : ℕ → ℕ) (names : List (List ℕ)) (name : List ℕ) → m ≡ n + 1 → numbers n ≡ target name
      → ((k : ℕ) (other : List ℕ) → slice_get names k ≡ Some other → numbers (m + k) ≡ target other)
      → (k : ℕ) (other : List ℕ) → slice_get (name ∷ names) k ≡ Some other → numbers (n + k) ≡ target other
  exists_more n m numbers names name more here rest zero other at =
      let same : name ≡ other = cc in
      let none : n + 0 ≡ n = omega arith in
      ap numbers none ∙ here ∙ ap target same
  exists_more n m numbers names name more here rest (suc k) other at =
      let count : n + suc k ≡ m + k = omega (arith, more) in
      ap numbers count ∙ rest k other at

  names_grow : (number : ℕ → ℕ) (nodes : List (Expression M F Z)) (names : List (List ℕ)) (new : List (Expression M F Z)) → new ≡ properties_made project nodes names
      → IsPartOf number nodes whole → AreUnset tables source all whole project names → AreIn number nodes names new
  names_grow number nodes [] new is part unset =
      let same : new ≡ nodes = is ∙ append-nil nodes in
      record {
        numbers = number;
        part = subst (λ n. IsPartOf number n whole) (sym same) part;
        agrees = λ i below. refl;
        exists = λ k name at. absurd (cc);
        count = omega (arith, ap length same);
      }
  names_grow number nodes (name ∷ names) new is part unset =
      let e : Expression M F Z = unset_property project name in
      let one = one_more whole number nodes e (target name) part (tt, tt) (λ chosen is. absurd (cc)) (unset 0 name refl) in
      let longer : length (nodes ++ e ∷ []) ≡ length nodes + 1 = length-append nodes (e ∷ []) in
      let rest = names_grow one.numbers (nodes ++ e ∷ []) names new (is ∙ sym (append_assoc nodes (e ∷ []) (map (unset_property project) names))) one.part (λ k other at. unset (suc k) other at) in
      record {
        numbers = rest.numbers;
        part = rest.part;
        agrees = λ i below. rest.agrees i (omega (arith, below, longer)) ∙ one.agrees i below;
        exists = exists_more (length nodes) (length (nodes ++ e ∷ [])) rest.numbers names name longer (rest.agrees (length nodes) (omega (arith, longer)) ∙ one.exists) rest.exists;
        count = omega (arith, rest.count, longer);
      }

pub scripts_are_laid : {M F Z S A : Type 0} (tables : Tables M F Z S A) (source : Source) (all : List Spot) (whole : List (Expression M F Z)) → ScriptsAreLaid tables source all whole
scripts_are_laid tables source all whole number nodes project given statements part given_right unset =
    let names = filter_map declared_property statements in
    let n = length nodes in
    let grown = names_grow tables source all whole project number nodes names (properties_made project nodes names) refl part unset in
    let none : n + 0 ≡ n = omega arith in
    let every : AllAre (IsNode n names) (named_from n [] names) = subst (λ m. AllAre (IsNode n names) (named_from m [] names)) none (named_are n names [] names [] refl tt) in
    record {
      numbers = grown.numbers;
      part = grown.part;
      agrees = grown.agrees;
      right = record {
        build = refl;
        given = given_right;
        there = λ name node found.
            let at = found_is (IsNode n names) (named_from n [] names) name node every found in
            let below = slice_get_within names at.0 name at.1 in
            omega (arith, at.2, below, grown.count);
        named = λ name node found.
            let at = found_is (IsNode n names) (named_from n [] names) name node every found in
            ap grown.numbers at.2 ∙ grown.exists at.0 name at.1;
      };
    }
