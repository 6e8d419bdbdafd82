-- Tasks that are declared one after another agree with the whole table.
use Rattle.std.proofs.Common.{◌≡◌, ℕ, zero, suc, ◌+◌, ◌<◌, ◌≤◌, ◌⊎◌, inl, inr, true, false, List, [], ◌∷◌, ◌++◌, length, map, get_or, refl, sym, ap, ◌∙◌, Option, Some, None, arith, append_assoc, length-append}
use Rattle.std.proofs.Math.Seq.{drop-append_seam, take-append_seam}
use Rattle.std.proofs.lemmas.Bool.{le-ltb, lt-ltb, ltb-false, ltb-true}
use Rattle.std.proofs.lemmas.List.{drop-map, length-map, take-map}
use Rattle.std.proofs.lemmas.Option.{slice_get-get_or, slice_get_within}
use Rattle.std.specs.Prelude.{drop, if◌then◌else◌, nat_lt, slice_get, take}
use Rattle.std.specs.List.{AllByRecursion, flat_map}
use Rattle.std.specs.Option.{option_to_list}
use Rattle.gb_provider.specs.Rules.{OperandsWithin, is_output, output_place}
use Rattle.gb_provider.specs.declared.expression.Expression.{Expression}
use Rattle.gb_provider.specs.declared.expression.Expression.TheVariants.{Constant}
use Rattle.gb_provider.specs.declared.fault.Chosen.{Chosen}
use Rattle.gb_registry.specs.Source.{Source}
use Rattle.gb_registry.specs.Tables.{Tables}
use Rattle.gb_script.specs.Tree.{Tree}
use Rattle.gb_script.specs.declared.script.Condition.{Condition}
use Rattle.gb_script.specs.declared.script.Call.{Call}
use Rattle.gb_script.specs.declared.script.InputFiles.{InputFiles}
use Rattle.gb_declare.proofs.GrowLemmas.{part_grows}
use Rattle.gb_declare.specs.Circles.{is_named}
use Rattle.gb_declare.specs.Growing.{extended}
use Rattle.gb_declare.specs.Joined as tasks
use Rattle.gb_declare.specs.Joined.{Joined, Named}
use Rattle.gb_declare.specs.Partly.{IsPartOf, renamed}
use Rattle.gb_declare.specs.Whole.{trees_of, whole}
use Rattle.gb_declare.proofs.GrownLemmas.{at_prefix, at_last}
use Rattle.gb_declare.specs.Complete.{IsLaidOut}
use Rattle.gb_declare.specs.Grown.{IsRowGrown}
use Rattle.gb_declare.specs.Nodes.{Made as These}
use Rattle.gb_project.specs.Stage.{before_outputs, output_of, output_row}
use Rattle.gb_project.proofs.PlaceLemmas.{named_renamed, never, output_itself, output_named, output_renamed, output_same, some_same, place_either, place_some, place_stays}

-- ---- Rows

pub same_numbers : (number numbers : ℕ → ℕ) (n : ℕ) → ((i : ℕ) → i < n → numbers i ≡ number i) → (row : List ℕ) → AllByRecursion (λ i. i < n) row → map numbers row ≡ map number row
same_numbers number numbers n agree [] within = refl
same_numbers number numbers n agree (i ∷ row) within = ap (λ k. k ∷ map numbers row) (agree i within.0) ∙ ap (λ ks. number i ∷ ks) (same_numbers number numbers n agree row within.1)

pub still_within : (n m : ℕ) → n ≤ m → (row : List ℕ) → AllByRecursion (λ i. i < n) row → AllByRecursion (λ i. i < m) row
still_within n m le [] within = tt
still_within n m le (i ∷ row) within = let here : i < n = within.0 in (omega (arith, here, le), still_within n m le row within.1)

pub taken_within : (P : ℕ → Type 0) (k : ℕ) (row : List ℕ) → AllByRecursion P row → AllByRecursion P (take k row)
taken_within P zero row within = tt
taken_within P (suc k) [] within = tt
taken_within P (suc k) (i ∷ row) within = (within.0, taken_within P k row within.1)

pub dropped_within : (P : ℕ → Type 0) (k : ℕ) (row : List ℕ) → AllByRecursion P row → AllByRecursion P (drop k row)
dropped_within P zero row within = within
dropped_within P (suc k) [] within = tt
dropped_within P (suc k) (i ∷ row) within = dropped_within P k row within.1

-- the expressions of outputs, in the row of all
abbrev pub output_trees : Joined → List Tree
output_trees task = map (λ (output : Named tasks.Made). output.1.1) task.outputs

outputs_in_row : (task : Joined) → take (length task.outputs) (drop (before_outputs task) (trees_of task)) ≡ output_trees task
outputs_in_row task =
    let e = option_to_list task.enabled in
    let c = map (λ (condition : Condition). condition.value) (task.only_if ++ task.up_to_date_when) in
    let v = map (λ (value : Named Tree). value.1) task.values in
    let f = flat_map (λ (files : Named InputFiles). files.1.from) task.files in
    let o = output_trees task in
    let a = flat_map (λ (call : Call). call.arguments) task.actions in
    let prefix = e ++ c ++ v ++ f in
    let conditions : length c ≡ length task.only_if + length task.up_to_date_when =
    length-map (task.only_if ++ task.up_to_date_when) (λ (condition : Condition). condition.value) ∙ length-append task.only_if task.up_to_date_when in
    let values : length v ≡ length task.values = length-map task.values (λ (value : Named Tree). value.1) in
    let outputs : length o ≡ length task.outputs = length-map task.outputs (λ (output : Named tasks.Made). output.1.1) in
    let count : length prefix ≡ before_outputs task =
    omega (arith, length-append (e ++ c ++ v) f, length-append (e ++ c) v, length-append e c, conditions, values) in
    ap (λ n. take (length task.outputs) (drop n (trees_of task))) (sym count)
    ∙ ap (λ (l : List Tree). take (length task.outputs) (drop (length prefix) l)) (append_assoc prefix o a)
    ∙ ap (take (length task.outputs)) (drop-append_seam prefix (o ++ a))
    ∙ ap (λ n. take n (o ++ a)) (sym outputs)
    ∙ take-append_seam o a

pub output_numbers : (number : ℕ → ℕ) (place : Tree → ℕ) (task : Joined) (row : List ℕ) → map number row ≡ map place (trees_of task) → map number (output_row task row) ≡ map place (output_trees task)
output_numbers number place task row are =
    sym (take-map number (length task.outputs) (drop (before_outputs task) row)) ∙ ap (take (length task.outputs)) (sym (drop-map number (before_outputs task) row))
    ∙ ap (λ (l : List ℕ). take (length task.outputs) (drop (before_outputs task) l)) are
    ∙ ap (take (length task.outputs)) (drop-map place (before_outputs task) (trees_of task)) ∙ take-map place (length task.outputs) (drop (before_outputs task) (trees_of task))
    ∙ ap (map place) (outputs_in_row task)

-- ---- Expressions that grow

at_back : {X : Type 0} (xs ys : List X) (k : ℕ) → slice_get (xs ++ ys) (length xs + k) ≡ slice_get ys k
at_back [] ys k = let e : 0 + k ≡ k = omega arith in ap (slice_get ys) e
at_back (x ∷ xs) ys k = let e : length (x ∷ xs) + k ≡ suc (length xs + k) = omega arith in ap (slice_get (x ∷ (xs ++ ys))) e ∙ at_back xs ys k

module _ {M F Z S A : Type 0} (tables : Tables M F Z S A) (source : Source) where
  abbrev table : List (Expression M F Z)
  table = whole tables source

  abbrev IsLaid : (ℕ → ℕ) → List (Expression M F Z) → Type 0
  IsLaid number nodes = IsLaidOut tables source number nodes

  named_there : (nodes : List (Expression M F Z)) (x : ℕ) → is_named (slice_get nodes x) ≡ true → (e : Expression M F Z) × (slice_get nodes x ≡ Some e) × (is_named (Some e) ≡ true)
  named_there nodes x named = by (slice_get nodes x) refl named
    where
      by : (o : Option (Expression M F Z)) → slice_get nodes x ≡ o → is_named o ≡ true → (e : Expression M F Z) × (slice_get nodes x ≡ Some e) × (is_named (Some e) ≡ true)
      by None at is = absurd (cc)
      by (Some e) at is = (e, at, is)

  there_at : (nodes : List (Expression M F Z)) (y : ℕ) → y < length nodes → (e : Expression M F Z) × (slice_get nodes y ≡ Some e)
  there_at nodes y below = let blank : Expression M F Z = Constant None in (get_or nodes y blank, slice_get-get_or nodes y blank below)

  module _ (number : ℕ → ℕ) (nodes : List (Expression M F Z)) (laid : IsLaid number nodes) where
    -- expressions without names
    module _ (targets : List ℕ) (made : These M F Z (List ℕ)) (grown : IsRowGrown table number nodes targets made) where
      prefix_is : (x : ℕ) → x < length nodes → slice_get made.nodes x ≡ slice_get nodes x
      prefix_is x below = ap (λ ns. slice_get ns x) grown.prefix.1 ∙ at_prefix nodes grown.prefix.0 x below

      pub row_longer : length nodes ≤ length made.nodes
      row_longer = omega (arith, ap length grown.prefix.1, length-append nodes grown.prefix.0)

      named_before : (x : ℕ) (e : Expression M F Z) → slice_get made.nodes x ≡ Some e → is_named (Some e) ≡ true → x < length nodes
      named_before x e at named =
          elim (nat_lt x (length nodes)) as (λ b. nat_lt x (length nodes) ≡ b → x < length nodes) [
            | true ↦ λ below. ltb-true x (length nodes) below
            | false ↦ λ past.
                let plain : is_named (Some e) ≡ false = (grown.plain x e (ltb-false x (length nodes) past) at).0 in
                let clash : true ≡ false = sym named ∙ plain in
                absurd (cc)
          ] refl

      row_once : (x y : ℕ) → is_named (slice_get made.nodes x) ≡ true → y < length made.nodes → grown.numbers x ≡ grown.numbers y → x ≡ y
      row_once x y named below same =
          let e = named_there made.nodes x named in
          let d = there_at made.nodes y below in
          let x_below = named_before x e.0 e.1 e.2 in
          let copies : Some (renamed grown.numbers e.0) ≡ Some (renamed grown.numbers d.0) =
          sym (grown.part.copied x e.0 e.1) ∙ ap (slice_get table) same ∙ grown.part.copied y d.0 d.1 in
          let d_named : is_named (Some d.0) ≡ true =
          sym (named_renamed grown.numbers d.0) ∙ sym (ap is_named copies) ∙ named_renamed grown.numbers e.0 ∙ e.2 in
          let y_below = named_before y d.0 d.1 d_named in
          laid.once x y (sym (ap is_named (prefix_is x x_below)) ∙ named) y_below (sym (grown.agrees x x_below) ∙ same ∙ grown.agrees y y_below)

      row_after : (x : ℕ) (e : Expression M F Z) → slice_get made.nodes x ≡ Some e → is_named (Some e) ≡ false → OperandsWithin x e
      row_after x e at unnamed =
          elim (nat_lt x (length nodes)) as (λ b. nat_lt x (length nodes) ≡ b → OperandsWithin x e) [
            | true ↦ λ below. laid.following x e (sym (prefix_is x (ltb-true x (length nodes) below)) ∙ at) unnamed
            | false ↦ λ past. (grown.plain x e (ltb-false x (length nodes) past) at).1
          ] refl

      pub row_laid : IsLaid grown.numbers made.nodes
      row_laid = record { part = grown.part; once = row_once; following = row_after }

      -- among them no output is new
      pub row_known : (chosen : Chosen) (j : ℕ) → output_place made.nodes chosen ≡ Some j → output_place nodes chosen ≡ Some j
      row_known chosen j is =
          elim (place_either (is_output chosen) nodes grown.prefix.0 j (sym (ap (λ ns. output_place ns chosen) grown.prefix.1) ∙ is)) [
            | inl before ↦ before
            | inr following ↦
                let at : slice_get made.nodes (length nodes + following.0) ≡ Some following.1 =
                ap (λ ns. slice_get ns (length nodes + following.0)) grown.prefix.1 ∙ at_back nodes grown.prefix.0 following.0 ∙ following.2 in
                let plain : is_named (Some following.1) ≡ false = (grown.plain (length nodes + following.0) following.1 (omega arith) at).0 in
                let clash : true ≡ false = sym (output_named chosen following.1 following.3) ∙ plain in
                absurd (cc)
          ]

      pub row_stays : (chosen : Chosen) (j : ℕ) → output_place nodes chosen ≡ Some j → output_place made.nodes chosen ≡ Some j
      row_stays chosen j is = ap (λ ns. output_place ns chosen) grown.prefix.1 ∙ place_stays (is_output chosen) nodes grown.prefix.0 j is

    -- an output that is not present yet, declared as one of the expressions
    module _ (chosen : Chosen) (place target represents : ℕ) (new : output_place nodes chosen ≡ None) (below : place < length nodes)
        (placed : output_place table chosen ≡ Some target) (there : slice_get table target ≡ Some (output_of chosen represents)) (for_it : number place ≡ represents) where
      abbrev more : List (Expression M F Z)
      more = nodes ++ output_of chosen place ∷ []

      abbrev pub numbers_more : ℕ → ℕ
      numbers_more = extended number (length nodes) target

      pub output_agrees : (i : ℕ) → i < length nodes → numbers_more i ≡ number i
      output_agrees i i_below = ap (λ b. if b then number i else target) (lt-ltb i (length nodes) i_below)

      output_number : numbers_more (length nodes) ≡ target
      output_number = ap (λ b. if b then number (length nodes) else target) (le-ltb (length nodes) (length nodes) (omega arith))

      pub output_longer : length more ≡ length nodes + 1
      output_longer = length-append nodes (output_of chosen place ∷ [])

      output_part : IsPartOf numbers_more more table
      output_part =
          part_grows number nodes table laid.part (output_of chosen place) target below (there ∙ ap (λ n. Some (output_of chosen n)) (sym for_it))
          (λ other is. ap (output_place table) (sym (output_same M F Z chosen other place is)) ∙ placed)

      -- no expression that is present has its number
      not_before : (x : ℕ) (e : Expression M F Z) → slice_get nodes x ≡ Some e → number x ≡ target → ⊥
      not_before x e at same =
          let copy : Some (renamed number e) ≡ Some (output_of chosen represents) = sym (laid.part.copied x e at) ∙ ap (slice_get table) same ∙ there in
          let is_copy = some_same (renamed number e) (output_of chosen represents) copy in
          let passes : is_output chosen e ≡ true = sym (output_renamed number chosen e) ∙ ap (is_output chosen) is_copy ∙ output_itself M F Z chosen represents in
          let found = place_some (is_output chosen) nodes x e at passes in
          never found.0 (sym new ∙ found.1)

      at_end : (x : ℕ) → x < length more → (x < length nodes) ⊎ (x ≡ length nodes)
      at_end x within =
          elim (nat_lt x (length nodes)) as (λ b. nat_lt x (length nodes) ≡ b → (x < length nodes) ⊎ (x ≡ length nodes)) [
            | true ↦ λ is. inl (ltb-true x (length nodes) is)
            | false ↦ λ is. inr (let past = ltb-false x (length nodes) is in omega (arith, past, within, output_longer))
          ] refl

      output_once : (x y : ℕ) → is_named (slice_get more x) ≡ true → y < length more → numbers_more x ≡ numbers_more y → x ≡ y
      output_once x y named y_within same =
          let e = named_there more x named in
          let x_within = slice_get_within more x e.0 e.1 in
          elim (at_end x x_within) [
            | inl x_below ↦ elim (at_end y y_within) [
              | inl y_below ↦ laid.once x y (sym (ap is_named (at_prefix nodes (output_of chosen place ∷ []) x x_below)) ∙ named) y_below (sym (output_agrees x x_below) ∙ same ∙ output_agrees y y_below)
              | inr y_last ↦
                  let at : slice_get nodes x ≡ Some e.0 = sym (at_prefix nodes (output_of chosen place ∷ []) x x_below) ∙ e.1 in
                  absurd (not_before x e.0 at (sym (output_agrees x x_below) ∙ same ∙ ap numbers_more y_last ∙ output_number))
            ]
            | inr x_last ↦ elim (at_end y y_within) [
              | inl y_below ↦
                  let d = there_at nodes y y_below in
                  absurd (not_before y d.0 d.1 (sym (output_agrees y y_below) ∙ sym same ∙ ap numbers_more x_last ∙ output_number))
              | inr y_last ↦ x_last ∙ sym y_last
            ]
          ]

      output_after : (x : ℕ) (e : Expression M F Z) → slice_get more x ≡ Some e → is_named (Some e) ≡ false → OperandsWithin x e
      output_after x e at unnamed =
          elim (at_end x (slice_get_within more x e at)) [
            | inl x_below ↦ laid.following x e (sym (at_prefix nodes (output_of chosen place ∷ []) x x_below) ∙ at) unnamed
            | inr x_last ↦
                let past : length nodes ≤ x = omega (arith, x_last) in
                let last = at_last nodes (output_of chosen place) e x past at in
                let named : is_named (Some e) ≡ true = ap (λ d. is_named (Some d)) (sym last.1) in
                let clash : false ≡ true = sym unnamed ∙ named in
                absurd (cc)
          ]

      pub output_laid : IsLaid numbers_more more
      output_laid = record { part = output_part; once = output_once; following = output_after }
