-- If one search finds nothing in an expression, another search finds nothing in it either.
use Rattle.std.proofs.Common.{◌≡◌, ℕ, Bool, true, false, List, [], ◌∷◌, ◌++◌, refl, ap, ◌∙◌, Some}
use Rattle.std.specs.Prelude.{cond}
use Rattle.gb_registry.specs.Projects.{is_among}
use Rattle.gb_registry.specs.Tables.{Tables}
use Rattle.gb_registry.specs.Wrong as reported
use Rattle.gb_registry.specs.Wrong.{Scope, found_in, found_at, found_in_all, found_along, found_by, tree_faults}
use Rattle.gb_script.specs.Tree.{Tree, Chain, Root, TextOf, FlagOf, ListOf, PropertyOf, DirOf, FileOf, TheBuildDir, GradlePropertyOf, TaskOf, Link, MapBy, FlatMapBy, ZipBy, Else, Trees, NoTree, AndTree, Links, NoLink, AndLink}
use Rattle.gb_provider.specs.declared.expression.Node.{Node}
use Rattle.gb_registry.specs.References.{name_faults}
use Rattle.gb_declare.specs.Site.{Site, property_node}
use Rattle.gb_declare.specs.Wrong.{known_faults, link_faults, making_faults, root_faults}
use Rattle.gb_registry.proofs.Fine.{nil_back, nil_prefix}

pub nil_both : {X : Type 0} (xs ys : List X) → xs ≡ [] → ys ≡ [] → xs ++ ys ≡ []
nil_both xs ys prefix back = ap (λ l. l ++ ys) prefix ∙ back

module _ {X Y : Type 0} (at_root : Root → List X) (at_link : Link → List X) (at_root' : Root → List Y) (at_link' : Link → List Y)
    (root_none : (r : Root) → at_root r ≡ [] → at_root' r ≡ []) (link_none : (l : Link) → at_link l ≡ [] → at_link' l ≡ []) where
  mutual
    pub tree_none : (tree : Tree) → found_in at_root at_link tree ≡ [] → found_in at_root' at_link' tree ≡ []
    tree_none (Chain root links) none =
        nil_both (found_at at_root' at_link' root) (found_along at_root' at_link' links)
        (at_none root (nil_prefix (found_at at_root at_link root) (found_along at_root at_link links) none))
        (along_none links (nil_back (found_at at_root at_link root) (found_along at_root at_link links) none))

    at_none : (root : Root) → found_at at_root at_link root ≡ [] → found_at at_root' at_link' root ≡ []
    at_none (ListOf trees) none = all_none trees none
    at_none (TextOf t) none = root_none (TextOf t) none
    at_none (FlagOf b) none = root_none (FlagOf b) none
    at_none (PropertyOf w) none = root_none (PropertyOf w) none
    at_none (DirOf t) none = root_none (DirOf t) none
    at_none (FileOf t) none = root_none (FileOf t) none
    at_none TheBuildDir none = root_none TheBuildDir none
    at_none (GradlePropertyOf t) none = root_none (GradlePropertyOf t) none
    at_none (TaskOf t) none = root_none (TaskOf t) none

    all_none : (trees : Trees) → found_in_all at_root at_link trees ≡ [] → found_in_all at_root' at_link' trees ≡ []
    all_none NoTree none = refl
    all_none (AndTree tree trees) none =
        nil_both (found_in at_root' at_link' tree) (found_in_all at_root' at_link' trees)
        (tree_none tree (nil_prefix (found_in at_root at_link tree) (found_in_all at_root at_link trees) none))
        (all_none trees (nil_back (found_in at_root at_link tree) (found_in_all at_root at_link trees) none))

    along_none : (links : Links) → found_along at_root at_link links ≡ [] → found_along at_root' at_link' links ≡ []
    along_none NoLink none = refl
    along_none (AndLink link links) none =
        nil_both (found_by at_root' at_link' link) (found_along at_root' at_link' links)
        (by_none link (nil_prefix (found_by at_root at_link link) (found_along at_root at_link links) none))
        (along_none links (nil_back (found_by at_root at_link link) (found_along at_root at_link links) none))

    by_none : (link : Link) → found_by at_root at_link link ≡ [] → found_by at_root' at_link' link ≡ []
    by_none (MapBy f) none = link_none (MapBy f) none
    by_none (FlatMapBy f) none = link_none (FlatMapBy f) none
    by_none (ZipBy tree f) none =
        nil_both (found_in at_root' at_link' tree) (at_link' (ZipBy tree f))
        (tree_none tree (nil_prefix (found_in at_root at_link tree) (at_link (ZipBy tree f)) none))
        (link_none (ZipBy tree f) (nil_back (found_in at_root at_link tree) (at_link (ZipBy tree f)) none))
    by_none (Else tree) none =
        nil_both (found_in at_root' at_link' tree) (at_link' (Else tree))
        (tree_none tree (nil_prefix (found_in at_root at_link tree) (at_link (Else tree)) none))
        (link_none (Else tree) (nil_back (found_in at_root at_link tree) (at_link (Else tree)) none))

-- ---- Expressions without a fault in a scope

-- the scope knows only properties that have a node
abbrev pub HasNodesOf : Site → List (List ℕ) → Type 0
HasNodesOf site properties = (name : List ℕ) → is_among properties name ≡ true → (node : Node) × (property_node site name ≡ Some node)

pub among_if_none : {X : Type 0} (b : Bool) (x : X) → cond b [] (x ∷ []) ≡ [] → b ≡ true
among_if_none true x none = refl
among_if_none false x none = absurd (cc)

module _ {M F Z S A : Type 0} (tables : Tables M F Z S A) (site : Site) (scope : Scope) (there : site.project ≡ scope.project)
    (tasks : (text : List ℕ) → scope.task_faults text ≡ [] → name_faults scope.project text ≡ []) (nodes : HasNodesOf site scope.properties) where
  root_none : (r : Root) → reported.root_faults scope r ≡ [] → root_faults site r ≡ []
  root_none (PropertyOf name) none =
      let found = nodes name (among_if_none (is_among scope.properties name) _ none) in
      ap (known_faults name) found.1
  root_none (DirOf t) none = ap (λ p. reported.place_faults p t) there ∙ none
  root_none (FileOf t) none = ap (λ p. reported.place_faults p t) there ∙ none
  root_none (TaskOf t) none = ap (λ p. name_faults p t) there ∙ tasks t none
  root_none (ListOf trees) none = refl
  root_none (TextOf t) none = refl
  root_none (FlagOf b) none = refl
  root_none TheBuildDir none = refl
  root_none (GradlePropertyOf t) none = refl

  link_none : (l : Link) → reported.link_faults tables l ≡ [] → link_faults tables.means tables.functions l ≡ []
  link_none (MapBy f) none = none
  link_none (FlatMapBy f) none = none
  link_none (ZipBy tree f) none = none
  link_none (Else tree) none = refl

  -- an expression without a fault there is made without a fault
  pub made_good : (tree : Tree) → tree_faults tables scope tree ≡ [] → making_faults tables.means tables.functions site tree ≡ []
  made_good tree none =
      tree_none (reported.root_faults scope) (reported.link_faults tables) (root_faults site) (link_faults tables.means tables.functions) root_none link_none tree none
