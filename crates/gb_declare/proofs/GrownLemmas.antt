-- The nodes made for an expression of the scripts are in the whole table.
use Rattle.std.proofs.Common.{◌≡◌, ℕ, zero, suc, ◌<◌, ◌≤◌, true, false, List, [], ◌∷◌, ◌++◌, length, map, refl, sym, ap, subst, ◌∙◌, arith, append_assoc, length-append}
use Rattle.std.proofs.lemmas.List.{append-nil}
use Rattle.std.proofs.lemmas.List.Elements.{All-from_recursion}
use Rattle.std.proofs.lemmas.Bool.{lt-ltb, le-ltb, ltb-true, ltb-false}
use Rattle.std.proofs.lemmas.Option.{slice_get_within}
use Rattle.std.specs.Prelude.{Option, Some, None, slice_get, nat_lt, if◌then◌else◌, reverse}
use Rattle.std.specs.List.{AllByRecursion, flat_map}
use Rattle.std.specs.FinMap.Entries.{find}
use Rattle.gb_core.specs.Lists.{byte_order}
use Rattle.gb_core.specs.declared.value.Value.TheVariants as values
use Rattle.gb_provider.specs.Called.{Called}
use Rattle.gb_provider.specs.Rules.{OperandsWithin, is_output}
use Rattle.gb_provider.specs.Table.{map_named, flat_map_named, zip_named}
use Rattle.gb_provider.specs.declared.expression.Expression.{Expression}
use Rattle.gb_provider.specs.declared.expression.Expression.TheVariants.{Constant, OfProperty, OfOutput, Listed, Mapped, FlatMapped, Zipped, OrElse}
use Rattle.gb_provider.specs.declared.expression.Node.{Node}
use Rattle.gb_provider.specs.declared.fault.Chosen.{Chosen}
use Rattle.gb_registry.proofs.Fine.{nil_back, nil_prefix}
use Rattle.gb_registry.specs.Projects.{Path}
use Rattle.gb_registry.specs.Source.{Source}
use Rattle.gb_registry.specs.Tables.{Tables}
use Rattle.gb_registry.specs.Wrong.{found_in, found_at, found_in_all, found_along, found_by}
use Rattle.gb_script.specs.Tree.{Tree, Chain, Root, TextOf, FlagOf, ListOf, PropertyOf, DirOf, FileOf, TheBuildDir, GradlePropertyOf, TaskOf, Link, MapBy, FlatMapBy, ZipBy, Else, Trees, NoTree, AndTree, trees_of, Links, NoLink, AndLink}
use Rattle.gb_script.specs.declared.function.Function.{Function}
use Rattle.gb_report.specs.declared.fault.Fault.{Fault}
use Rattle.gb_declare.specs.Circles.{is_named}
use Rattle.gb_declare.specs.Growing.{extended}
use Rattle.gb_declare.specs.Partly.{IsPartOf, renamed}
use Rattle.gb_declare.specs.Spots.{Spot, Written, spot_of, parts, root_parts, trees_parts, links_parts, link_parts, onto}
use Rattle.gb_declare.specs.Whole.{number_of, numbers_of, given_value, if_found}
use Rattle.gb_declare.proofs.GrowLemmas.{part_grows}
use Rattle.gb_declare.specs.Site.{Site, property_node}
use Rattle.gb_declare.specs.Grown.{IsPlain, IsInTable, IsRight, IsGrown, IsRowGrown, TreesGrow, RowsGrow}
use Rattle.gb_declare.specs.Nodes.{Made, added, as_text, constant_of, number_in, zip_made, else_made, tree_made, root_made, trees_made, links_made, link_made, following}
use Rattle.gb_declare.specs.Wrong.{root_faults, link_faults, known_faults}

pub all_prefix : {X : Type 0} (P : X → Type 0) (xs ys : List X) → AllByRecursion P (xs ++ ys) → AllByRecursion P xs
all_prefix P [] ys all = tt
all_prefix P (x ∷ xs) ys all = (all.0, all_prefix P xs ys all.1)

pub all_back : {X : Type 0} (P : X → Type 0) (xs ys : List X) → AllByRecursion P (xs ++ ys) → AllByRecursion P ys
all_back P [] ys all = all
all_back P (x ∷ xs) ys all = all_back P xs ys all.1

module _ {M F Z : Type 0} where
  no_output : (e : Expression M F Z) (chosen : Chosen) → is_named (Some e) ≡ false → is_output chosen e ≡ true → ⊥
  no_output (Constant value) chosen plain is = absurd (cc)
  no_output (OfProperty property) chosen plain is = absurd (cc)
  no_output (OfOutput output) chosen plain is = absurd (cc)
  no_output (Listed operands) chosen plain is = absurd (cc)
  no_output (Mapped from call) chosen plain is = absurd (cc)
  no_output (FlatMapped from call) chosen plain is = absurd (cc)
  no_output (Zipped left right call) chosen plain is = absurd (cc)
  no_output (OrElse left right) chosen plain is = absurd (cc)

  -- ---- Expressions after others

  pub at_prefix : (xs ys : List (Expression M F Z)) (i : ℕ) → i < length xs → slice_get (xs ++ ys) i ≡ slice_get xs i
  at_prefix [] ys i below = absurd (omega (arith, below))
  at_prefix (x ∷ xs) ys zero below = refl
  at_prefix (x ∷ xs) ys (suc i) below = at_prefix xs ys i (omega (arith, below))

  pub at_last : (xs : List (Expression M F Z)) (y z : Expression M F Z) (i : ℕ) → length xs ≤ i → slice_get (xs ++ y ∷ []) i ≡ Some z → (i ≡ length xs) × (y ≡ z)
  at_last [] y z zero past is = let same : y ≡ z = cc in (refl, same)
  at_last [] y z (suc i) past is = absurd (cc)
  at_last (x ∷ xs) y z zero past is = absurd (omega (arith, past))
  at_last (x ∷ xs) y z (suc i) past is = let more = at_last xs y z i (omega (arith, past)) is in let at = more.0 in (omega (arith, at), more.1)

  -- those from one number on have no names, and come after their operands
  abbrev pub ArePlain : ℕ → List (Expression M F Z) → Type 0
  ArePlain n nodes = (x : ℕ) (e : Expression M F Z) → n ≤ x → slice_get nodes x ≡ Some e → IsPlain x e

  none_plain : (nodes : List (Expression M F Z)) → ArePlain (length nodes) nodes
  none_plain nodes x e past is = let below = slice_get_within nodes x e is in absurd (omega (arith, past, below))

  one_plain : (nodes : List (Expression M F Z)) (e : Expression M F Z) → is_named (Some e) ≡ false → OperandsWithin (length nodes) e → ArePlain (length nodes) (nodes ++ e ∷ [])
  one_plain nodes e unnamed within x y past is =
      let last = at_last nodes e y x past is in
      subst (λ n. IsPlain n y) (sym last.0) (subst (IsPlain (length nodes)) last.1 (unnamed, within))

  plain_on : (n : ℕ) (more most : List (Expression M F Z)) → (rest : List (Expression M F Z)) × (most ≡ more ++ rest) → ArePlain n more → ArePlain (length more) most → ArePlain n most
  plain_on n more most prefix first second x e past is =
      elim (nat_lt x (length more)) as (λ b. nat_lt x (length more) ≡ b → IsPlain x e) [
        | true ↦ λ here. first x e past (sym (ap (λ nodes. slice_get nodes x) prefix.1 ∙ at_prefix more prefix.0 x (ltb-true x (length more) here)) ∙ is)
        | false ↦ λ there. second x e (ltb-false x (length more) there) is
      ] refl

  -- ---- A step whose function is found or not

  module _ {X : Type 0} (step : Called X → Expression M F Z) where
    found_within : (n : ℕ) → ((c : Called X) → OperandsWithin n (step c)) → (f : Function) (o : Option X) → OperandsWithin n (if_found step f o)
    found_within n all f (Some x) = all (record { name = f.name; function = x; arguments = f.arguments })
    found_within n all f None = tt

    found_plain : ((c : Called X) → is_named (Some (step c)) ≡ false) → (f : Function) (o : Option X) → is_named (Some (if_found step f o)) ≡ false
    found_plain all f (Some x) = all (record { name = f.name; function = x; arguments = f.arguments })
    found_plain all f None = refl

    found_renamed : (number : ℕ → ℕ) (other : Called X → Expression M F Z) → ((c : Called X) → renamed number (step c) ≡ other c)
        → (f : Function) (o : Option X) → renamed number (if_found step f o) ≡ if_found other f o
    found_renamed number other same f (Some x) = same (record { name = f.name; function = x; arguments = f.arguments })
    found_renamed number other same f None = refl

  given_same : (o : Option (List ℕ)) → given_value {M = M} {F = F} {Z = Z} o ≡ Constant (as_text o)
  given_same (Some text) = refl
  given_same None = refl

-- ---- Numbers that agree

same_numbers : (number number' : ℕ → ℕ) (n : ℕ) → ((i : ℕ) → i < n → number' i ≡ number i) → (row : List ℕ) → AllByRecursion (λ i. i < n) row → map number' row ≡ map number row
same_numbers number number' n agree [] all = refl
same_numbers number number' n agree (i ∷ row) all = ap (λ k. k ∷ map number' row) (agree i all.0) ∙ ap (λ ks. number i ∷ ks) (same_numbers number number' n agree row all.1)

more_within : (n m : ℕ) (row : List ℕ) (last : ℕ) → n ≤ m → last < m → AllByRecursion (λ i. i < n) row → AllByRecursion (λ i. i < m) (row ++ last ∷ [])
more_within n m [] last le below all = (below, tt)
more_within n m (i ∷ row) last le below all = let here : i < n = all.0 in (omega arith, more_within n m row last le below all.1)

map_last : (number : ℕ → ℕ) (row : List ℕ) (last : ℕ) → map number (row ++ last ∷ []) ≡ map number row ++ number last ∷ []
map_last number [] last = refl
map_last number (i ∷ row) last = ap (λ ks. number i ∷ ks) (map_last number row last)

-- ---- Growing

module _ {M F Z : Type 0} (whole : List (Expression M F Z)) where
  -- one expression more, by numbers that agree on those before
  pub record IsMore (number : ℕ → ℕ) (nodes : List (Expression M F Z)) (e : Expression M F Z) (target : ℕ) : Type 0 where
    pub numbers : ℕ → ℕ
    pub part : IsPartOf numbers (nodes ++ e ∷ []) whole
    pub agrees : (i : ℕ) → i < length nodes → numbers i ≡ number i
    pub exists : numbers (length nodes) ≡ target

  pub one_more : (number : ℕ → ℕ) (nodes : List (Expression M F Z)) (e : Expression M F Z) (target : ℕ) → IsPartOf number nodes whole → OperandsWithin (length nodes) e
      → ((chosen : Chosen) → is_output chosen e ≡ true → ⊥) → slice_get whole target ≡ Some (renamed number e) → IsMore number nodes e target
  one_more number nodes e target part within none exists = record {
    numbers = extended number (length nodes) target;
    part = part_grows number nodes whole part e target within exists (λ chosen is. absurd (none chosen is));
    agrees = λ i below. ap (λ b. if b then number i else target) (lt-ltb i (length nodes) below);
    exists = ap (λ b. if b then number (length nodes) else target) (le-ltb (length nodes) (length nodes) (omega arith));
  }

  one_grown : (number : ℕ → ℕ) (nodes : List (Expression M F Z)) (e : Expression M F Z) (target : ℕ) → IsPartOf number nodes whole → OperandsWithin (length nodes) e → is_named (Some e) ≡ false
      → slice_get whole target ≡ Some (renamed number e) → IsGrown whole number nodes target (added nodes e)
  one_grown number nodes e target part within unnamed exists =
      let more = one_more number nodes e target part within (λ chosen is. no_output e chosen unnamed is) exists in
      record {
        numbers = more.numbers;
        part = more.part;
        agrees = more.agrees;
        prefix = (e ∷ [], refl);
        within = omega (arith, length-append nodes (e ∷ []));
        exists = more.exists;
        plain = one_plain nodes e unnamed within;
      }

  -- nothing is made
  pub none_grown : (number : ℕ → ℕ) (nodes : List (Expression M F Z)) (place target : ℕ) → IsPartOf number nodes whole → place < length nodes → number place ≡ target
      → IsGrown whole number nodes target (record { nodes = nodes; place = place })
  none_grown number nodes place target part within exists = record {
    numbers = number;
    part = part;
    agrees = λ i below. refl;
    prefix = ([], sym (append-nil nodes));
    within = within;
    exists = exists;
    plain = none_plain nodes;
  }

  longer : (nodes more rest : List (Expression M F Z)) → more ≡ nodes ++ rest → length nodes ≤ length more
  longer nodes more rest is = omega (arith, ap length is, length-append nodes rest)

  prefix_on : (nodes more most : List (Expression M F Z)) → (rest : List (Expression M F Z)) × (more ≡ nodes ++ rest) → (rest : List (Expression M F Z)) × (most ≡ more ++ rest)
      → (rest : List (Expression M F Z)) × (most ≡ nodes ++ rest)
  prefix_on nodes more most a b = (a.0 ++ b.0, b.1 ∙ ap (λ n. n ++ b.0) a.1 ∙ append_assoc nodes a.0 b.0)

  module _ (number : ℕ → ℕ) (nodes : List (Expression M F Z)) (target : ℕ) (made : Made M F Z ℕ) (first : IsGrown whole number nodes target made) where
    more : length nodes ≤ length made.nodes
    more = longer nodes made.nodes first.prefix.0 first.prefix.1

    pub then_grown : (target' : ℕ) (made' : Made M F Z ℕ) → IsGrown whole first.numbers made.nodes target' made' → IsGrown whole number nodes target' made'
    then_grown target' made' second = record {
      numbers = second.numbers;
      part = second.part;
      agrees = λ i below. second.agrees i (omega (arith, below, more)) ∙ first.agrees i below;
      prefix = prefix_on nodes made.nodes made'.nodes first.prefix second.prefix;
      within = second.within;
      exists = second.exists;
      plain = plain_on (length nodes) made.nodes made'.nodes second.prefix first.plain second.plain;
    }

    then_row : (targets : List ℕ) (made' : Made M F Z (List ℕ)) → IsRowGrown whole first.numbers made.nodes targets made' → IsRowGrown whole number nodes targets made'
    then_row targets made' second = record {
      numbers = second.numbers;
      part = second.part;
      agrees = λ i below. second.agrees i (omega (arith, below, more)) ∙ first.agrees i below;
      prefix = prefix_on nodes made.nodes made'.nodes first.prefix second.prefix;
      within = second.within;
      exists = second.exists;
      plain = plain_on (length nodes) made.nodes made'.nodes second.prefix first.plain second.plain;
    }

module _ {M F Z S A : Type 0} (tables : Tables M F Z S A) (source : Source) (all : List Spot) (whole : List (Expression M F Z)) (site : Site) where
  abbrev Right : (ℕ → ℕ) → List (Expression M F Z) → Type 0
  Right number nodes = IsRight tables source all whole number nodes site

  abbrev Spots : List Spot → Type 0
  Spots spots = AllByRecursion (IsInTable tables source all whole) spots

  abbrev place_of : Spot → ℕ
  place_of spot = number_of tables source all spot

  abbrev written : Root → List Link → Spot
  written root steps = Written site.project root steps

  abbrev at_root : Root → List Fault
  at_root = root_faults site

  abbrev at_link : Link → List Fault
  at_link = link_faults tables.means tables.functions

  -- what is right stays right
  pub right_on : (number number' : ℕ → ℕ) (nodes nodes' : List (Expression M F Z)) → ((i : ℕ) → i < length nodes → number' i ≡ number i) → length nodes ≤ length nodes' → Right number nodes → Right number' nodes'
  right_on number number' nodes nodes' agree more right = record {
    build = right.build;
    given = right.given;
    there = λ name node is. omega (arith, right.there name node is, more);
    named = λ name node is. agree node.number (right.there name node is) ∙ right.named name node is;
  }

  right_grown : (number : ℕ → ℕ) (nodes : List (Expression M F Z)) (target : ℕ) (made : Made M F Z ℕ) (grown : IsGrown whole number nodes target made) → Right number nodes → Right grown.numbers made.nodes
  right_grown number nodes target made grown right = right_on number grown.numbers nodes made.nodes grown.agrees (longer whole nodes made.nodes grown.prefix.0 grown.prefix.1) right

  property_grows : (number : ℕ → ℕ) (nodes : List (Expression M F Z)) (name : List ℕ) (o : Option Node) → property_node site name ≡ o → known_faults name o ≡ []
      → IsPartOf number nodes whole → Right number nodes → IsGrown whole number nodes (place_of (written (PropertyOf name) [])) (record { nodes = nodes; place = number_in o })
  property_grows number nodes name None is good part right = absurd (cc)
  property_grows number nodes name (Some node) is good part right =
      none_grown whole number nodes node.number (place_of (written (PropertyOf name) [])) part (right.there name node is) (right.named name node is)

  mutual
    pub tree_grows : (number : ℕ → ℕ) (nodes : List (Expression M F Z)) (tree : Tree) → IsPartOf number nodes whole → Right number nodes → Spots (parts site.project tree)
        → found_in at_root at_link tree ≡ [] → IsGrown whole number nodes (place_of (spot_of site.project tree)) (tree_made tables.functions site nodes tree)
    tree_grows number nodes (Chain root links) part right spots good =
        let made = root_made tables.functions site nodes root in
        let first = root_grows number nodes root part right spots.0 (all_prefix (IsInTable tables source all whole) (root_parts site.project root) (links_parts site.project root [] links) spots.1) (nil_prefix (found_at at_root at_link root) (found_along at_root at_link links) good) in
        then_grown whole number nodes (place_of (written root [])) made first (place_of (spot_of site.project (Chain root links))) (links_made tables.functions site made links)
        (links_grow first.numbers made root [] links first.part (right_grown number nodes (place_of (written root [])) made first right) first.within first.exists
        (all_back (IsInTable tables source all whole) (root_parts site.project root) (links_parts site.project root [] links) spots.1)
        (nil_back (found_at at_root at_link root) (found_along at_root at_link links) good))

    root_grows : (number : ℕ → ℕ) (nodes : List (Expression M F Z)) (root : Root) → IsPartOf number nodes whole → Right number nodes → IsInTable tables source all whole (written root []) → Spots (root_parts site.project root)
        → found_at at_root at_link root ≡ [] → IsGrown whole number nodes (place_of (written root [])) (root_made tables.functions site nodes root)
    root_grows number nodes (ListOf trees) part right spot spots good =
        let row : Made M F Z (List ℕ) = record { nodes = nodes; place = [] } in
        let made = trees_made tables.functions site row trees in
        let grown = trees_grow number row trees [] part right tt refl spots good in
        let last = one_grown whole grown.numbers made.nodes (Listed made.place) (place_of (written (ListOf trees) [])) grown.part (All-from_recursion (λ i. i < length made.nodes) made.place grown.within) refl
        (spot refl ∙ ap (λ ns. Some (Listed ns)) (sym grown.exists)) in
        record {
          numbers = last.numbers;
          part = last.part;
          agrees = λ i below. last.agrees i (omega (arith, below, longer whole nodes made.nodes grown.prefix.0 grown.prefix.1)) ∙ grown.agrees i below;
          prefix = prefix_on whole nodes made.nodes (made.nodes ++ Listed made.place ∷ []) grown.prefix last.prefix;
          within = last.within;
          exists = last.exists;
          plain = plain_on (length nodes) made.nodes (made.nodes ++ Listed made.place ∷ []) last.prefix grown.plain last.plain;
        }
    root_grows number nodes (PropertyOf w) part right spot spots good = property_grows number nodes w (property_node site w) refl good part right
    root_grows number nodes (TextOf t) part right spot spots good = one_grown whole number nodes (Constant (Some (values.Text t))) (place_of (written (TextOf t) [])) part tt refl (spot refl)
    root_grows number nodes (FlagOf b) part right spot spots good = one_grown whole number nodes (Constant (Some (values.Flag b))) (place_of (written (FlagOf b) [])) part tt refl (spot refl)
    root_grows number nodes (DirOf t) part right spot spots good = one_grown whole number nodes (Constant (constant_of site (DirOf t))) (place_of (written (DirOf t) [])) part tt refl (spot refl)
    root_grows number nodes (FileOf t) part right spot spots good = one_grown whole number nodes (Constant (constant_of site (FileOf t))) (place_of (written (FileOf t) [])) part tt refl (spot refl)
    root_grows number nodes TheBuildDir part right spot spots good =
        one_grown whole number nodes (Constant (constant_of site TheBuildDir)) (place_of (written TheBuildDir [])) part tt refl (spot refl ∙ ap (λ b. Some (Constant (Some (values.Place b)))) (sym right.build))
    root_grows number nodes (GradlePropertyOf t) part right spot spots good =
        one_grown whole number nodes (Constant (constant_of site (GradlePropertyOf t))) (place_of (written (GradlePropertyOf t) [])) part tt refl
        (spot refl ∙ ap Some (given_same (find byte_order t (reverse source.given))) ∙ ap (λ o. Some (Constant (as_text o))) (sym (right.given t)))
    root_grows number nodes (TaskOf t) part right spot spots good = one_grown whole number nodes (Constant (constant_of site (TaskOf t))) (place_of (written (TaskOf t) [])) part tt refl (spot refl)

    pub trees_grow : (number : ℕ → ℕ) (row : Made M F Z (List ℕ)) (trees : Trees) (targets : List ℕ) → IsPartOf number row.nodes whole → Right number row.nodes
        → AllByRecursion (λ i. i < length row.nodes) row.place → map number row.place ≡ targets → Spots (trees_parts site.project trees) → found_in_all at_root at_link trees ≡ []
        → IsRowGrown whole number row.nodes (targets ++ numbers_of tables source all site.project trees) (trees_made tables.functions site row trees)
    trees_grow number row NoTree targets part right within exists spots good = record {
      numbers = number;
      part = part;
      agrees = λ i below. refl;
      prefix = ([], sym (append-nil row.nodes));
      within = within;
      exists = exists ∙ sym (append-nil targets);
      plain = none_plain row.nodes;
    }
    trees_grow number row (AndTree tree trees) targets part right within exists spots good =
        let made = tree_made tables.functions site row.nodes tree in
        let target = place_of (spot_of site.project tree) in
        let one = tree_grows number row.nodes tree part right (all_prefix (IsInTable tables source all whole) (parts site.project tree) (trees_parts site.project trees) spots) (nil_prefix (found_in at_root at_link tree) (found_in_all at_root at_link trees) good) in
        let le = longer whole row.nodes made.nodes one.prefix.0 one.prefix.1 in
        let next = trees_grow one.numbers (following row.place made) trees (targets ++ target ∷ []) one.part (right_grown number row.nodes target made one right)
        (more_within (length row.nodes) (length made.nodes) row.place made.place le one.within within)
        (map_last one.numbers row.place made.place ∙ ap (λ ks. ks ++ one.numbers made.place ∷ []) (same_numbers number one.numbers (length row.nodes) one.agrees row.place within ∙ exists) ∙ ap (λ k. targets ++ k ∷ []) one.exists)
        (all_back (IsInTable tables source all whole) (parts site.project tree) (trees_parts site.project trees) spots) (nil_back (found_in at_root at_link tree) (found_in_all at_root at_link trees) good) in
        subst (λ ts. IsRowGrown whole number row.nodes ts (trees_made tables.functions site row (AndTree tree trees))) (append_assoc targets (target ∷ []) (numbers_of tables source all site.project trees))
        (then_row whole number row.nodes target made one ((targets ++ target ∷ []) ++ numbers_of tables source all site.project trees) (trees_made tables.functions site (following row.place made) trees) next)

    links_grow : (number : ℕ → ℕ) (at : Made M F Z ℕ) (root : Root) (before : List Link) (links : Links) → IsPartOf number at.nodes whole → Right number at.nodes
        → at.place < length at.nodes → number at.place ≡ place_of (written root before) → Spots (links_parts site.project root before links) → found_along at_root at_link links ≡ []
        → IsGrown whole number at.nodes (place_of (written root (onto before links))) (links_made tables.functions site at links)
    links_grow number at root before NoLink part right within exists spots good = none_grown whole number at.nodes at.place (place_of (written root before)) part within exists
    links_grow number at root before (AndLink link links) part right within exists spots good =
        let made = link_made tables.functions site at.nodes at.place link in
        let target = place_of (written root (link ∷ before)) in
        let one = link_grows number at.nodes at.place root before link part right within exists spots.0 (all_prefix (IsInTable tables source all whole) (link_parts site.project link) (links_parts site.project root (link ∷ before) links) spots.1) (nil_prefix (found_by at_root at_link link) (found_along at_root at_link links) good) in
        then_grown whole number at.nodes target made one (place_of (written root (onto before (AndLink link links)))) (links_made tables.functions site made links)
        (links_grow one.numbers made root (link ∷ before) links one.part (right_grown number at.nodes target made one right) one.within one.exists
        (all_back (IsInTable tables source all whole) (link_parts site.project link) (links_parts site.project root (link ∷ before) links) spots.1)
        (nil_back (found_by at_root at_link link) (found_along at_root at_link links) good))

    link_grows : (number : ℕ → ℕ) (nodes : List (Expression M F Z)) (place : ℕ) (root : Root) (before : List Link) (link : Link) → IsPartOf number nodes whole → Right number nodes
        → place < length nodes → number place ≡ place_of (written root before) → IsInTable tables source all whole (written root (link ∷ before)) → Spots (link_parts site.project link) → found_by at_root at_link link ≡ []
        → IsGrown whole number nodes (place_of (written root (link ∷ before))) (link_made tables.functions site nodes place link)
    link_grows number nodes place root before (MapBy f) part right within exists spot spots good =
        let o = map_named tables.functions f.name in
        one_grown whole number nodes (if_found (Mapped place) f o) (place_of (written root (MapBy f ∷ before))) part (found_within (Mapped place) (length nodes) (λ c. within) f o) (found_plain (Mapped place) (λ c. refl) f o)
        (spot refl ∙ ap (λ k. Some (if_found (Mapped k) f o)) (sym exists) ∙ ap Some (sym (found_renamed (Mapped place) number (Mapped (number place)) (λ c. refl) f o)))
    link_grows number nodes place root before (FlatMapBy f) part right within exists spot spots good =
        let o = flat_map_named tables.functions f.name in
        one_grown whole number nodes (if_found (FlatMapped place) f o) (place_of (written root (FlatMapBy f ∷ before))) part (found_within (FlatMapped place) (length nodes) (λ c. within) f o) (found_plain (FlatMapped place) (λ c. refl) f o)
        (spot refl ∙ ap (λ k. Some (if_found (FlatMapped k) f o)) (sym exists) ∙ ap Some (sym (found_renamed (FlatMapped place) number (FlatMapped (number place)) (λ c. refl) f o)))
    link_grows number nodes place root before (ZipBy tree f) part right within exists spot spots good =
        let o = zip_named tables.functions f.name in
        let made = tree_made tables.functions site nodes tree in
        let target = place_of (spot_of site.project tree) in
        let operand = tree_grows number nodes tree part right spots (nil_prefix (found_in at_root at_link tree) (at_link (ZipBy tree f)) good) in
        let le = longer whole nodes made.nodes operand.prefix.0 operand.prefix.1 in
        let left : operand.numbers place ≡ place_of (written root before) = operand.agrees place within ∙ exists in
        let both : (place < length made.nodes) × (made.place < length made.nodes) = (omega (arith, within, le), operand.within) in
        then_grown whole number nodes target made operand (place_of (written root (ZipBy tree f ∷ before))) (zip_made tables.functions place f made)
        (one_grown whole operand.numbers made.nodes (if_found (Zipped place made.place) f o) (place_of (written root (ZipBy tree f ∷ before))) operand.part
        (found_within (Zipped place made.place) (length made.nodes) (λ c. both) f o) (found_plain (Zipped place made.place) (λ c. refl) f o)
        (spot refl ∙ ap (λ k. Some (if_found (Zipped k target) f o)) (sym left) ∙ ap (λ k. Some (if_found (Zipped (operand.numbers place) k) f o)) (sym operand.exists)
        ∙ ap Some (sym (found_renamed (Zipped place made.place) operand.numbers (Zipped (operand.numbers place) (operand.numbers made.place)) (λ c. refl) f o))))
    link_grows number nodes place root before (Else tree) part right within exists spot spots good =
        let made = tree_made tables.functions site nodes tree in
        let target = place_of (spot_of site.project tree) in
        let operand = tree_grows number nodes tree part right spots (nil_prefix (found_in at_root at_link tree) (at_link (Else tree)) good) in
        let le = longer whole nodes made.nodes operand.prefix.0 operand.prefix.1 in
        let left : operand.numbers place ≡ place_of (written root before) = operand.agrees place within ∙ exists in
        then_grown whole number nodes target made operand (place_of (written root (Else tree ∷ before))) (else_made tables.functions place made)
        (one_grown whole operand.numbers made.nodes (OrElse place made.place) (place_of (written root (Else tree ∷ before))) operand.part (omega (arith, within, le), operand.within) refl
        (spot refl ∙ ap (λ k. Some (OrElse k target)) (sym left) ∙ ap (λ k. Some (OrElse (operand.numbers place) k)) (sym operand.exists)))

pub trees_grow_so : {M F Z S A : Type 0} (tables : Tables M F Z S A) (source : Source) (all : List Spot) (whole : List (Expression M F Z)) → TreesGrow tables source all whole
trees_grow_so tables source all whole number nodes site tree part right spots good = tree_grows tables source all whole site number nodes tree part right spots good

-- ---- Expressions in a row

parts_in_row : (project : Path) (row : List Tree) → trees_parts project (trees_of row) ≡ flat_map (parts project) row
parts_in_row project [] = refl
parts_in_row project (tree ∷ row) = ap (λ more. parts project tree ++ more) (parts_in_row project row)

numbers_in_row : {M F Z S A : Type 0} (tables : Tables M F Z S A) (source : Source) (all : List Spot) (project : Path) (row : List Tree)
    → numbers_of tables source all project (trees_of row) ≡ map (λ tree. number_of tables source all (spot_of project tree)) row
numbers_in_row tables source all project [] = refl
numbers_in_row tables source all project (tree ∷ row) =
    ap (λ more. number_of tables source all (spot_of project tree) ∷ more) (numbers_in_row tables source all project row)

pub rows_grow_so : {M F Z S A : Type 0} (tables : Tables M F Z S A) (source : Source) (all : List Spot) (whole : List (Expression M F Z)) → RowsGrow tables source all whole
rows_grow_so tables source all whole number nodes site row part right spots good =
    subst (λ targets. IsRowGrown whole number nodes targets (trees_made tables.functions site (record { nodes = nodes; place = [] }) (trees_of row))) (numbers_in_row tables source all site.project row)
    (trees_grow tables source all whole site number (record { nodes = nodes; place = [] }) (trees_of row) [] part right tt refl
    (subst (AllByRecursion (IsInTable tables source all whole)) (sym (parts_in_row site.project row)) spots) good)
