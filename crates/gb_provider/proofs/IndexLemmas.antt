-- The numbers of outputs as the table grows and changes.
use Rattle.std.proofs.Common.{◌≡◌, ℕ, ◌+◌, ◌<◌, ◌≤◌, Bool, true, false, cond, nat_lt, List, [], ◌∷◌, ◌++◌, length, set, refl, sym, ap, subst, ◌∙◌, arith, inl, inr, length-append, length-set, get_or}
use Rattle.std.specs.Prelude.{Option, Some, None, not, ◌&&◌, position, slice_get, Result, Ok, Err}
use Rattle.std.specs.List.{position_or_len}
use Rattle.std.specs.Str.{bytes_eq}
use Rattle.std.specs.Ordering.{is_eq, nat_cmp, ordering_then}
use Rattle.std.specs.Cmp.Lexicographic.{slice_cmp}
use Rattle.std.specs.declared.cmp.Ordering.{Ordering}
use Rattle.std.specs.declared.cmp.Ordering.TheVariants.{Less, Equal, Greater}
use Rattle.std.specs.BTreeMap.{BTreeMap, get, is_at}
use Rattle.std.proofs.lemmas.List.Folds.{position_or_len-set}
use Rattle.std.proofs.lemmas.Map.Text.{is_eq-slice_cmp}
use Rattle.std.proofs.lemmas.Slice.Eq.{bytes_eq-Decides}
use Rattle.std.proofs.lemmas.Bool.{cases_lt, lt-ltb, le-ltb, eq-eqb}
use Rattle.std.proofs.lemmas.Bool.Decides.{eqb_tells}
use Rattle.std.proofs.lemmas.List.Folds.{position_or_len_push}
use Rattle.std.proofs.lemmas.List.Sums.{prefix_len-le-length}
use Rattle.std.proofs.Math.Dec.{eqb}
use Rattle.std.proofs.lemmas.Option.{get_or_from_slice_get, slice_get-get_or, slice_get_read, slice_get_within}
use Rattle.std.proofs.lemmas.List.{set-get_or}
use Rattle.std.proofs.lemmas.List.Quantifiers.{position-Some}
use Rattle.gb_provider.specs.declared.property_change.Change.{Change}
use Rattle.gb_provider.specs.declared.fault.Chosen.{Chosen}
use Rattle.gb_provider.specs.declared.fault.Final.{Final}
use Rattle.gb_provider.specs.declared.expression.Property.{Property}
use Rattle.gb_provider.specs.declared.expression.Expression.{Expression}
use Rattle.gb_provider.specs.declared.expression.Expression.TheVariants.{Constant, OfProperty, OfOutput, Listed, Mapped, FlatMapped, Zipped, OrElse}
use Rattle.gb_provider.specs.Changes.{AreChanged, IsNodeChanged, IsNodeDeclared, changed, open_property}
use Rattle.gb_provider.specs.Rules.{PlaceWithin, is_chosen, is_output, output_place}

module _ {X : Type 0} (p : X → Bool) where
  -- a change that leaves the test as it was leaves the place
  position_set : (xs : List X) (at : ℕ) (x y : X) → slice_get xs at ≡ Some x → p y ≡ p x → position p (set xs at y) ≡ position p xs
  position_set xs at x y there same =
      let first = position_or_len-set p xs at y x (same ∙ ap p (sym (get_or_from_slice_get xs at x x there))) in
      let long = length-set xs at y in
      ap (λ n. cond (nat_lt n (length (set xs at y))) (Some n) None) first
      ∙ ap (λ n. cond (nat_lt (position_or_len p xs) n) (Some (position_or_len p xs)) None) long

-- the effect of one more element, which passes or not
abbrev pub grown : Option ℕ → Bool → ℕ → Option ℕ
grown (Some place) passes n = Some place
grown None true n = Some n
grown None false n = None

abbrev place_at : ℕ → ℕ → Option ℕ
place_at n long = cond (nat_lt n long) (Some n) None

there_at : (n long : ℕ) → n < long → place_at n long ≡ Some n
there_at n long less = ap (λ b. cond b (Some n) None) (lt-ltb n long less)

past_at : (n long : ℕ) → long ≤ n → place_at n long ≡ None
past_at n long more = ap (λ b. cond b (Some n) None) (le-ltb n long more)

module _ {X : Type 0} (p : X → Bool) (y : X) (xs : List X) where
  longer : length (xs ++ y ∷ []) ≡ length xs + 1
  longer = simp length-append refl

  at_end : (b : Bool) → place_at (length xs + cond b 0 1) (length xs + 1) ≡ grown None b (length xs)
  at_end true = let same : length xs + 0 ≡ length xs = omega arith in ap (λ n. place_at n (length xs + 1)) same ∙ there_at (length xs) (length xs + 1) (omega arith)
  at_end false = past_at (length xs + 1) (length xs + 1) (omega arith)

  kept_before : position_or_len p xs < length xs → position p (xs ++ y ∷ []) ≡ grown (position p xs) (p y) (length xs)
  kept_before less =
      let other : eqb (position_or_len p xs) (length xs) ≡ false =
      elim (eqb_tells (position_or_len p xs) (length xs)) [ inl same ↦ absurd (omega (arith, same.1, less)) | inr differs ↦ differs.0 ] in
      let first : position_or_len p (xs ++ y ∷ []) ≡ position_or_len p xs = position_or_len_push p xs y ∙ ap (λ b. cond b (length xs + cond (p y) 0 1) (position_or_len p xs)) other in
      let there : place_at (position_or_len p (xs ++ y ∷ [])) (length (xs ++ y ∷ [])) ≡ Some (position_or_len p xs) =
      ap (λ n. place_at n (length (xs ++ y ∷ []))) first ∙ (ap (place_at (position_or_len p xs)) longer ∙ there_at (position_or_len p xs) (length xs + 1) (omega (arith, less))) in
      there ∙ sym (ap (λ o. grown o (p y) (length xs)) (there_at (position_or_len p xs) (length xs) less))

  found_last : position_or_len p xs ≡ length xs → position p (xs ++ y ∷ []) ≡ grown (position p xs) (p y) (length xs)
  found_last same =
      let first : position_or_len p (xs ++ y ∷ []) ≡ length xs + cond (p y) 0 1 = position_or_len_push p xs y ∙ ap (λ b. cond b (length xs + cond (p y) 0 1) (position_or_len p xs)) (eq-eqb (position_or_len p xs) (length xs) same) in
      let there : place_at (position_or_len p (xs ++ y ∷ [])) (length (xs ++ y ∷ [])) ≡ grown None (p y) (length xs) =
      ap (λ n. place_at n (length (xs ++ y ∷ []))) first ∙ (ap (place_at (length xs + cond (p y) 0 1)) longer ∙ at_end (p y)) in
      there ∙ sym (ap (λ o. grown o (p y) (length xs)) (past_at (position_or_len p xs) (length xs) (omega (arith, same))))

  -- the place in a list with one more element
  pub position_grown : position p (xs ++ y ∷ []) ≡ grown (position p xs) (p y) (length xs)
  position_grown =
      elim (cases_lt (position_or_len p xs) (length xs)) [
        | inl less ↦ kept_before less
        | inr past ↦ found_last (omega (arith, past, prefix_len-le-length (λ x. not (p x)) xs))
      ]

-- two outputs are the same exactly if their tasks and their names compare as equal
then_is : (o r : Ordering) → is_eq (ordering_then o r) ≡ (is_eq o && is_eq r)
then_is Less r = refl
then_is Equal r = refl
then_is Greater r = refl

pub same_order : (a b : Chosen) → is_eq (ordering_then (slice_cmp nat_cmp a.task b.task) (slice_cmp nat_cmp a.output b.output)) ≡ is_chosen b a
same_order a b =
    then_is (slice_cmp nat_cmp a.task b.task) (slice_cmp nat_cmp a.output b.output)
    ∙ (ap (λ x. x && is_eq (slice_cmp nat_cmp a.output b.output)) (is_eq-slice_cmp a.task b.task) ∙ ap (λ x. bytes_eq a.task b.task && x) (is_eq-slice_cmp a.output b.output))

module _ {M F Z : Type 0} where
  open_exists : (change : Change) (o : Option (Expression M F Z)) (property : Property) → open_property change o ≡ Some property → (old : Property) × (o ≡ Some (OfProperty old))
  open_exists change None property is = cc
  open_exists change (Some (Constant value)) property is = cc
  open_exists change (Some (OfProperty old)) property is = (old, refl)
  open_exists change (Some (OfOutput output)) property is = cc
  open_exists change (Some (Listed operands)) property is = cc
  open_exists change (Some (Mapped source call)) property is = cc
  open_exists change (Some (FlatMapped source call)) property is = cc
  open_exists change (Some (Zipped left right call)) property is = cc
  open_exists change (Some (OrElse left right)) property is = cc

  -- a change of a property leaves the numbers of all outputs
  pub places_changed : (change : Change) (old new : List (Expression M F Z)) (at : ℕ) (result : Result (Unit {0}) Final) → AreChanged change old at new result → (chosen : Chosen) → output_place new chosen ≡ output_place old chosen
  places_changed change old new at (Ok done) made chosen =
      let existed = open_exists change (slice_get old at) made.0 made.1 in
      ap (λ nodes. output_place nodes chosen) made.2 ∙ position_set (is_output chosen) old at (OfProperty existed.0) (OfProperty (changed change made.0)) existed.1 refl
  places_changed change old new at (Err final) made chosen = ap (λ nodes. output_place nodes chosen) made.1

both_true : (a b : Bool) → (a && b) ≡ true → (a ≡ true) × (b ≡ true)
both_true true b is = (refl, is)
both_true false b is = cc

abbrev make : List ℕ → List ℕ → Chosen
make task output = record { task = task; output = output }

same_chosen : (q k : Chosen) → is_chosen q k ≡ true → k ≡ q
same_chosen q k is =
    let both = both_true (bytes_eq k.task q.task) (bytes_eq k.output q.output) is in
    ap (λ t. make t k.output) ((bytes_eq-Decides k.task q.task).0 both.0) ∙ ap (λ o. make q.task o) ((bytes_eq-Decides k.output q.output).0 both.1)

pub grown_kept : (o : Option ℕ) (n : ℕ) → grown o false n ≡ o
grown_kept None n = refl
grown_kept (Some place) n = refl

module _ {M F Z : Type 0} (nodes : List (Expression M F Z)) (k : Chosen) (declared : Option ℕ) (none : output_place nodes k ≡ None) where
  pushed_at : (q : Chosen) (b : Bool) → is_chosen q k ≡ b → cond b (Some (length nodes)) (output_place nodes q) ≡ grown (output_place nodes q) b (length nodes)
  pushed_at q true is = let absent : output_place nodes q ≡ None = ap (output_place nodes) (sym (same_chosen q k is)) ∙ none in sym (ap (λ o. grown o true (length nodes)) absent)
  pushed_at q false is = sym (grown_kept (output_place nodes q) (length nodes))

  -- the numbers of outputs with one more
  pub places_pushed : (order : Chosen → Chosen → Ordering) → ((a b : Chosen) → is_eq (order a b) ≡ is_chosen b a) → (old new : BTreeMap Chosen ℕ)
      → ((q : Chosen) → get order old q ≡ output_place nodes q) → ((q : Chosen) → get order new q ≡ cond (is_at (order k) q) (Some (length nodes)) (get order old q))
      → (q : Chosen) → get order new q ≡ output_place (nodes ++ OfOutput (record { chosen = k; declared = declared }) ∷ []) q
  places_pushed order same old new existed updates q =
      updates q ∙ (ap (λ b. cond b (Some (length nodes)) (get order old q)) (same k q)
      ∙ (ap (λ o. cond (is_chosen q k) (Some (length nodes)) o) (existed q)
      ∙ (pushed_at q (is_chosen q k) refl ∙ sym (position_grown (is_output q) (OfOutput (record { chosen = k; declared = declared })) nodes))))

found_at : {X : Type 0} (p : X → Bool) (xs : List X) (n : ℕ) → position p xs ≡ Some n → (x : X) × (slice_get xs n ≡ Some x) × (p x ≡ true)
found_at p [] n is = cc
found_at p (x ∷ xs) n is =
    let found = position-Some p (x ∷ xs) n x is in
    (get_or (x ∷ xs) n x, slice_get-get_or (x ∷ xs) n x found.0, found.1)

module _ {M F Z : Type 0} where
  output_exists : (chosen : Chosen) (node : Expression M F Z) → is_output chosen node ≡ true → (q : Chosen) → is_chosen q chosen ≡ is_output q node
  output_exists chosen (Constant value) is q = cc
  output_exists chosen (OfProperty property) is q = cc
  output_exists chosen (OfOutput output) is q = ap (is_chosen q) (sym (same_chosen chosen output.chosen is))
  output_exists chosen (Listed operands) is q = cc
  output_exists chosen (Mapped source call) is q = cc
  output_exists chosen (FlatMapped source call) is q = cc
  output_exists chosen (Zipped left right call) is q = cc
  output_exists chosen (OrElse left right) is q = cc

  -- the numbers of outputs after one is declared
  pub places_declared : (nodes : List (Expression M F Z)) (number : ℕ) (chosen : Chosen) (declared : Option ℕ) → output_place nodes chosen ≡ Some number
      → (q : Chosen) → output_place (set nodes number (OfOutput (record { chosen = chosen; declared = declared }))) q ≡ output_place nodes q
  places_declared nodes number chosen declared exists q =
      let found = found_at (is_output chosen) nodes number exists in
      position_set (is_output q) nodes number found.0 (OfOutput (record { chosen = chosen; declared = declared })) found.1 (output_exists chosen found.0 found.2 q)

-- the number of an output is within the table
pub place_within : {M F Z : Type 0} (nodes : List (Expression M F Z)) (chosen : Chosen) → PlaceWithin (length nodes) (output_place nodes chosen)
place_within nodes chosen = by (output_place nodes chosen) refl
  where
    by : (o : Option ℕ) → output_place nodes chosen ≡ o → PlaceWithin (length nodes) o
    by None is = tt
    by (Some place) is = let found = found_at (is_output chosen) nodes place is in slice_get_within nodes place found.0 found.1

some_same : {X : Type 0} (x y : X) → Some x ≡ Some y → x ≡ y
some_same x y is = cc

module _ {M F Z : Type 0} (chosen : Chosen) (source : ℕ) where
  declared_one : (old new : Expression M F Z) → is_output chosen old ≡ true → IsNodeDeclared source old new → new ≡ OfOutput (record { chosen = chosen; declared = Some source })
  declared_one (Constant value) new is made = cc
  declared_one (OfProperty property) new is made = cc
  declared_one (OfOutput output) new is made = made output refl ∙ ap (λ k. OfOutput (record { chosen = k; declared = Some source })) (same_chosen chosen output.chosen is)
  declared_one (Listed operands) new is made = cc
  declared_one (Mapped origin call) new is made = cc
  declared_one (FlatMapped origin call) new is made = cc
  declared_one (Zipped left right call) new is made = cc
  declared_one (OrElse left right) new is made = cc

module _ {M F Z : Type 0} (nodes : List (Expression M F Z)) (at : ℕ) (below : at < length nodes) (old new : Expression M F Z) (existed : old ≡ get_or nodes at old) where
  existed_there : slice_get nodes at ≡ Some old
  existed_there = slice_get_read nodes (length nodes) at old refl below existed

  -- a change of one expression is a change of them all
  pub node_changed : (change : Change) (result : Result (Unit {0}) Final) → IsNodeChanged change old new result → AreChanged change nodes at (set nodes at new) result
  node_changed change (Ok done) made = (made.0, ap (open_property change) existed_there ∙ made.1, ap (set nodes at) made.2)
  node_changed change (Err final) kept = (ap (open_property change) existed_there ∙ kept.0, ap (set nodes at) (kept.1 ∙ existed) ∙ set-get_or nodes at old)

  -- and so where an output is declared
  pub node_declared : (chosen : Chosen) (source : ℕ) → output_place nodes chosen ≡ Some at → IsNodeDeclared source old new → set nodes at new ≡ set nodes at (OfOutput (record { chosen = chosen; declared = Some source }))
  node_declared chosen source exists made =
      let found = found_at (is_output chosen) nodes at exists in
      let same : found.0 ≡ old = some_same found.0 old (sym found.1 ∙ existed_there) in
      ap (set nodes at) (declared_one chosen source old new (subst (λ node. is_output chosen node ≡ true) same found.2) made)
