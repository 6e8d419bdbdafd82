-- Rows of nodes.
use Rattle.std.specs.Prelude.{ℕ, zero, suc, Option, Some, None, codes, ◌≡◌, All, Bool, List, [], ◌∷◌, ◌++◌, length, map, refl, Result, Ok, Err}
use Rattle.std.specs.List.{flat_map}
use Rattle.std.proofs.Common.{sym, ap, subst, ◌∙◌, arith}
use Rattle.std.proofs.lemmas.List.{map-append}
use Rattle.gb_core.specs.declared.value.Value.{Value}
use Rattle.gb_provider.specs.declared.expression.Node.{Node}
use Rattle.gb_registry.specs.Projects.{Path}
use Rattle.gb_registry.specs.Said.{Registered}
use Rattle.gb_registry.specs.Source.{Source}
use Rattle.gb_registry.specs.Tables.{Tables}
use Rattle.gb_report.specs.declared.fault.Fault.{Fault}
use Rattle.gb_script.specs.Tree.{Tree}
use Rattle.gb_script.specs.declared.script.Condition.{Condition}
use Rattle.gb_declare.specs.Realised.{Trouble, each_of, passes, place_of, required}
use Rattle.gb_declare.specs.Whole.{spots, whole}
use Rattle.gb_declare.specs.Complete.{place_in_whole}
use Rattle.gb_project.specs.Given.{flag_at, place_at, required_at, truth_at}
use Rattle.gb_project.specs.Over.{Reports}
use Rattle.std.specs.Option.{option_to_list}
use Rattle.gb_project.specs.Evaluated.{enabled_of}
use Rattle.gb_project.specs.Rows.{AreFor, numbers_in}
use Rattle.gb_project.proofs.WalkLemmas.{IsWalked, each_map, fails_all, walk_goes_on}

-- ---- Lists

pub heads_same : {X : Type 0} (x y : X) (xs ys : List X) → x ∷ xs ≡ y ∷ ys → x ≡ y
heads_same x y xs ys e = cc

pub tails_same : {X : Type 0} (x y : X) (xs ys : List X) → x ∷ xs ≡ y ∷ ys → xs ≡ ys
tails_same x y xs ys e = cc

-- two rows of one length before others
pub prefixes_same : {X : Type 0} (ps qs rs ss : List X) → length ps ≡ length qs → ps ++ rs ≡ qs ++ ss → ps ≡ qs
prefixes_same [] [] rs ss n e = refl
prefixes_same [] (b ∷ qs) rs ss n e = absurd (omega (arith, n))
prefixes_same (a ∷ ps) [] rs ss n e = absurd (omega (arith, n))
prefixes_same (a ∷ ps) (b ∷ qs) rs ss n e =
    let first : a ≡ b = heads_same a b (ps ++ rs) (qs ++ ss) e in
    let rest : ps ≡ qs = prefixes_same ps qs rs ss (omega (arith, n)) (tails_same a b (ps ++ rs) (qs ++ ss) e) in
    λ i. first i ∷ rest i

pub backs_same : {X : Type 0} (ps qs rs ss : List X) → length ps ≡ length qs → ps ++ rs ≡ qs ++ ss → rs ≡ ss
backs_same [] [] rs ss n e = e
backs_same [] (b ∷ qs) rs ss n e = absurd (omega (arith, n))
backs_same (a ∷ ps) [] rs ss n e = absurd (omega (arith, n))
backs_same (a ∷ ps) (b ∷ qs) rs ss n e = backs_same ps qs rs ss (omega (arith, n)) (tails_same a b (ps ++ rs) (qs ++ ss) e)

-- ---- Nodes for expressions

module _ {M F Z S A : Type 0} (tables : Tables M F Z S A) (source : Source) (number : ℕ → ℕ) (project : Path) where
  pub first_for : (node : Node) (others : List Node) (tree : Tree) (trees : List Tree) → AreFor tables source number project (node ∷ others) (tree ∷ trees) → number node.number ≡ place_in_whole tables source project tree
  first_for node others tree trees are = heads_same _ _ _ _ are

  pub others_for : (node : Node) (others : List Node) (tree : Tree) (trees : List Tree) → AreFor tables source number project (node ∷ others) (tree ∷ trees) → AreFor tables source number project others trees
  others_for node others tree trees are = tails_same _ _ _ _ are

  separate : (ps qs : List Node) (xs ys : List Tree) → AreFor tables source number project (ps ++ qs) (xs ++ ys)
      → numbers_in number ps ++ numbers_in number qs ≡ map (place_in_whole tables source project) xs ++ map (place_in_whole tables source project) ys
  separate ps qs xs ys are =
      sym (map-append (λ (node : Node). number node.number) ps qs) ∙ are ∙ map-append (place_in_whole tables source project) xs ys

  counted : (ps : List Node) (xs : List Tree) → length ps ≡ length xs → length (numbers_in number ps) ≡ length (map (place_in_whole tables source project) xs)
  counted [] [] n = refl
  counted [] (x ∷ xs) n = absurd (omega (arith, n))
  counted (a ∷ ps) [] n = absurd (omega (arith, n))
  counted (a ∷ ps) (x ∷ xs) n = ap suc (counted ps xs (omega (arith, n)))

  pub prefix_for : (ps qs : List Node) (xs ys : List Tree) → length ps ≡ length xs → AreFor tables source number project (ps ++ qs) (xs ++ ys) → AreFor tables source number project ps xs
  prefix_for ps qs xs ys n are = prefixes_same (numbers_in number ps) _ (numbers_in number qs) _ (counted ps xs n) (separate ps qs xs ys are)

  pub back_for : (ps qs : List Node) (xs ys : List Tree) → length ps ≡ length xs → AreFor tables source number project (ps ++ qs) (xs ++ ys) → AreFor tables source number project qs ys
  back_for ps qs xs ys n are = backs_same (numbers_in number ps) _ (numbers_in number qs) _ (counted ps xs n) (separate ps qs xs ys are)

-- ---- The result of an expression by its node

module _ {M F Z S A : Type 0} (tables : Tables M F Z S A) (source : Source) (number : ℕ → ℕ) (at : Registered) (path : Path) (is : at.path ≡ path) where
  module _ (entry : ℕ) (tree : Tree) (same : entry ≡ place_in_whole tables source at.project tree) (name : List ℕ) where
    pub required_there : (r : Result Value Fault) → Reports tables source (required_at tables source path name entry) r
        → Reports tables source (required tables source at (spots tables source) (whole tables source) name tree) r
    required_there r reported =
        subst (λ p. Reports tables source (required_at tables source p name (place_in_whole tables source at.project tree)) r) (sym is)
        (subst (λ e. Reports tables source (required_at tables source path name e) r) same reported)

    pub place_there : (r : Result (List ℕ) Fault) → Reports tables source (place_at tables source path name entry) r
        → Reports tables source (place_of tables source at (spots tables source) (whole tables source) name tree) r
    place_there r reported =
        subst (λ p. Reports tables source (place_at tables source p name (place_in_whole tables source at.project tree)) r) (sym is)
        (subst (λ e. Reports tables source (place_at tables source path name e) r) same reported)

    pub flag_there : (r : Result Bool Fault) → Reports tables source (flag_at tables source path name entry) r
        → Reports tables source (flag_at tables source at.path name (place_in_whole tables source at.project tree)) r
    flag_there r reported =
        subst (λ p. Reports tables source (flag_at tables source p name (place_in_whole tables source at.project tree)) r) (sym is)
        (subst (λ e. Reports tables source (flag_at tables source path name e) r) same reported)

  module _ (row : List Node) (trees : List Tree) (are : AreFor tables source number at.project row trees) (name : List ℕ) where
    pub places_there : (r : Result (List (List ℕ)) Fault) → Reports tables source (each_of (place_at tables source path name) (numbers_in number row)) r
        → Reports tables source (each_of (place_of tables source at (spots tables source) (whole tables source) name) trees) r
    places_there r reported =
        subst (λ e. Reports tables source e r) (sym (each_map (place_at tables source at.path name) (place_in_whole tables source at.project) trees))
        (subst (λ p. Reports tables source (each_of (place_at tables source p name) (map (place_in_whole tables source at.project) trees)) r) (sym is)
        (subst (λ es. Reports tables source (each_of (place_at tables source path name) es) r) are reported))

    pub arguments_there : (r : Result (List Value) Fault) → Reports tables source (each_of (required_at tables source path name) (numbers_in number row)) r
        → Reports tables source (each_of (required tables source at (spots tables source) (whole tables source) name) trees) r
    arguments_there r reported =
        subst (λ e. Reports tables source e r) (sym (each_map (required_at tables source at.path name) (place_in_whole tables source at.project) trees))
        (subst (λ p. Reports tables source (each_of (required_at tables source p name) (map (place_in_whole tables source at.project) trees)) r) (sym is)
        (subst (λ es. Reports tables source (each_of (required_at tables source path name) es) r) are reported))

pub passes_there : {M F Z S A : Type 0} (tables : Tables M F Z S A) (source : Source) (at : Registered) (entry : ℕ) (condition : Condition) → entry ≡ place_in_whole tables source at.project condition.value
    → (r : Result Bool Fault) → Reports tables source (truth_at tables source at condition.test entry) r
    → Reports tables source (passes tables source at (spots tables source) (whole tables source) condition) r
passes_there tables source at entry condition same r reported = subst (λ e. Reports tables source (truth_at tables source at condition.test e) r) same reported

-- ---- One after another, with the remaining nodes

module _ {M F Z S A : Type 0} (tables : Tables M F Z S A) (source : Source) (number : ℕ → ℕ) (project : Path) {X Y : Type 0} (tree_of : X → Tree) (f : X → Result Y Trouble) (all : List X) where
  -- these are left, with the nodes for their expressions
  abbrev pub IsLeft : List Y → List Node → List X → Type 0
  IsLeft done row rest = AreFor tables source number project row (map tree_of rest) × IsWalked f all done rest

  module _ (done : List Y) (row others : List Node) (node : Node) (rest more : List X) (x : X) (cut : row ≡ node ∷ others) (next : rest ≡ x ∷ more) (left : IsLeft done row rest) where
    here : IsLeft done (node ∷ others) (x ∷ more)
    here = subst (λ xs. IsLeft done (node ∷ others) xs) next (subst (λ r. IsLeft done r rest) cut left)

    pub represents : number node.number ≡ place_in_whole tables source project (tree_of x)
    represents = first_for tables source number project node others (tree_of x) (map tree_of more) here.0

    pub goes_on : (y : Y) (done' : List Y) → done' ≡ done ++ y ∷ [] → f x ≡ Ok y → IsLeft done' others more
    goes_on y done' is given = (
      others_for tables source number project node others (tree_of x) (map tree_of more) here.0,
      subst (λ ys. IsWalked f all ys more) (sym is) (walk_goes_on f all done x more y here.1 given),
    )

    pub fails_here : (fault : Fault) → Reports tables source (f x) (Err fault) → Reports tables source (each_of f all) (Err fault)
    fails_here fault reported = fails_all tables source f all done x more fault here.1 reported

-- ---- The same, with a row of nodes for each

module _ {M F Z S A : Type 0} (tables : Tables M F Z S A) (source : Source) (number : ℕ → ℕ) (project : Path) {X Y : Type 0} (trees_of : X → List Tree) (f : X → Result Y Trouble) (all : List X) where
  abbrev pub AreLeft : List Y → List Node → List X → Type 0
  AreLeft done row rest = AreFor tables source number project row (flat_map trees_of rest) × IsWalked f all done rest

  module _ (done : List Y) (row these others : List Node) (rest more : List X) (x : X) (cut : these ++ others ≡ row) (counted : length these ≡ length (trees_of x)) (next : rest ≡ x ∷ more)
      (left : AreLeft done row rest) where
    cut_here : AreFor tables source number project (these ++ others) (trees_of x ++ flat_map trees_of more)
    cut_here =
        subst (λ r. AreFor tables source number project r (trees_of x ++ flat_map trees_of more)) (sym cut)
        (subst (λ xs. AreFor tables source number project row (flat_map trees_of xs)) next left.0)

    pub row_exists : AreFor tables source number project these (trees_of x)
    row_exists = prefix_for tables source number project these others (trees_of x) (flat_map trees_of more) counted cut_here

    pub rows_go_on : (y : Y) (done' : List Y) → done' ≡ done ++ y ∷ [] → f x ≡ Ok y → AreLeft done' others more
    rows_go_on y done' is given = (
      back_for tables source number project these others (trees_of x) (flat_map trees_of more) counted cut_here,
      subst (λ ys. IsWalked f all ys more) (sym is) (walk_goes_on f all done x more y (subst (IsWalked f all done) next left.1) given),
    )

    pub row_fails_here : (fault : Fault) → Reports tables source (f x) (Err fault) → Reports tables source (each_of f all) (Err fault)
    row_fails_here fault reported = fails_all tables source f all done x more fault (subst (IsWalked f all done) next left.1) reported

-- ---- Nodes with values

pub first_of_all : {X : Type 0} (P : X → Type 0) (x : X) (xs : List X) → All P (x ∷ xs) → P x
first_of_all P x xs all = all 0 x (omega arith)

pub others_of_all : {X : Type 0} (P : X → Type 0) (x : X) (xs : List X) → All P (x ∷ xs) → All P xs
others_of_all P x xs all = λ k d less. all (suc k) d (omega (arith, less))

pub all_of_both : {X : Type 0} (P : X → Type 0) (x : X) (xs : List X) → P x → All P xs → All P (x ∷ xs)
all_of_both P x xs first others zero d less = first
all_of_both P x xs first others (suc k) d less = others k d (omega (arith, less))

pub none_of_all : {X : Type 0} (P : X → Type 0) (xs : List X) → length xs ≡ 0 → All P xs
none_of_all P xs none = λ k d less. absurd (omega (arith, none, less))

-- ---- `enabled`

pub enabled_there : {M F Z S A : Type 0} (tables : Tables M F Z S A) (source : Source) (number : ℕ → ℕ) (at : Registered) (path : Path) → at.path ≡ path → (node : Node) (others : List Node) (enabled : Option Tree)
    → length (node ∷ others) ≡ length (option_to_list enabled) → AreFor tables source number at.project (node ∷ others) (option_to_list enabled)
    → (name : List ℕ) → name ≡ codes "enabled" → (r : Result Bool Fault) → Reports tables source (flag_at tables source path name (number node.number)) r → Reports tables source (enabled_of tables source at enabled) r
enabled_there tables source number at path is node others None count are name word r reported = absurd (let no_way : ⊥ = omega (arith, count) in no_way)
enabled_there tables source number at path is node others (Some tree) count are name word r reported =
    flag_there tables source number at path is (number node.number) tree (first_for tables source number at.project node others tree [] are) (codes "enabled") r
    (subst (λ n. Reports tables source (flag_at tables source path n (number node.number)) r) word reported)
