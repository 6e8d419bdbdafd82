-- The properties that a script declares occur once, and each has its node.
use Rattle.std.proofs.Common.{◌≡◌, ℕ, zero, suc, ◌+◌, ◌⊎◌, inl, inr, Bool, true, false, cond, ◌||◌, List, [], ◌∷◌, ◌++◌, length, map, refl, sym, ap, subst, ◌∙◌, Some, append_assoc}
use Rattle.std.proofs.lemmas.List.{append-nil}
use Rattle.std.proofs.lemmas.List.Elements.{filter_map-append}
use Rattle.std.proofs.lemmas.List.Folds.{list_any-append}
use Rattle.std.proofs.lemmas.Option.{slice_get-map}
use Rattle.std.specs.Prelude.{bytes_eq, filter_map, nat_lt, slice_get}
use Rattle.std.proofs.lemmas.Bool.{ltb-true, ltb-false}
use Rattle.gb_provider.specs.declared.expression.Expression.TheVariants.{OfProperty}
use Rattle.std.specs.BTreeMap.{insert_entry, is_at}
use Rattle.std.specs.List.{AllByRecursion}
use Rattle.std.specs.Map.{lookup}
use Rattle.std.specs.Ordering.{is_eq}
use Rattle.gb_core.proofs.Found.{same_tied}
use Rattle.gb_core.specs.Lists.{byte_order}
use Rattle.gb_provider.proofs.GrowLemmas.{mapped_at}
use Rattle.gb_provider.specs.declared.expression.Expression.{Expression}
use Rattle.gb_provider.specs.declared.expression.Node.{Node}
use Rattle.gb_registry.specs.Configure.{each_after, statement_faults}
use Rattle.gb_registry.specs.Projects.{Path, is_among}
use Rattle.gb_registry.specs.Said.{Said, declared_property, properties_of, said_by, script_of}
use Rattle.gb_registry.specs.Tables.{Tables}
use Rattle.gb_script.specs.Tree.{PropertyOf}
use Rattle.gb_script.specs.declared.script.Statement.{Statement}
use Rattle.gb_script.specs.declared.script.Statement.TheVariants as statements
use Rattle.gb_declare.specs.Spots.{Spot, Written}
use Rattle.gb_declare.specs.Whole.{statement_spots}
use Rattle.gb_declare.specs.Statements.{named_from, properties_made, unset_property}
use Rattle.gb_declare.proofs.GivenLemmas.{lookup_put}
use Rattle.gb_declare.proofs.GrownLemmas.{at_last, at_prefix}
use Rattle.gb_registry.proofs.Fine.{nil_back, nil_prefix}
use Rattle.gb_declare.proofs.KeyLemmas.{AreOnce, Key, key_at, key_of, keyed}
use Rattle.gb_declare.proofs.PlacedLemmas.{IsAmong}
use Rattle.gb_declare.proofs.SaidLemmas.{bytes_same, same_bytes, says, script_more}

-- ---- Names among others

pub or_true : (a b : Bool) → (a || b) ≡ true → (a ≡ true) ⊎ (b ≡ true)
or_true true b is = inl refl
or_true false b is = inr is

or_left : (a b : Bool) → a ≡ true → (a || b) ≡ true
or_left true b is = refl
or_left false b is = absurd (cc)

or_right : (a b : Bool) → b ≡ true → (a || b) ≡ true
or_right true b is = refl
or_right false b is = is

pub among_prefix : (xs ys : List (List ℕ)) (name : List ℕ) → is_among xs name ≡ true → is_among (xs ++ ys) name ≡ true
among_prefix xs ys name is = list_any-append (bytes_eq name) xs ys ∙ or_left (is_among xs name) (is_among ys name) is

among_last : (xs : List (List ℕ)) (name : List ℕ) → is_among (xs ++ name ∷ []) name ≡ true
among_last xs name = list_any-append (bytes_eq name) xs (name ∷ []) ∙ or_right (is_among xs name) (bytes_eq name name || false) (or_left (bytes_eq name name) false (same_bytes name))

pub at_among : (names : List (List ℕ)) (k : ℕ) (name : List ℕ) → slice_get names k ≡ Some name → is_among names name ≡ true
at_among [] k name is = absurd (cc)
at_among (w ∷ names) zero name is = let same : w ≡ name = cc in or_left (bytes_eq name w) (is_among names name) (subst (λ n. bytes_eq name n ≡ true) (sym same) (same_bytes name))
at_among (w ∷ names) (suc k) name is = or_right (bytes_eq name w) (is_among names name) (at_among names k name is)

-- ---- The node of each name

module _ (q : List ℕ) where
  abbrev has_node : List (List ℕ × Node) → Type 0
  has_node there = (node : Node) × (lookup (is_at (byte_order q)) there ≡ Some node)

  put_has : (there : List (List ℕ × Node)) (name : List ℕ) (node : Node) → (q ≡ name) ⊎ has_node there → has_node (insert_entry byte_order there name node)
  put_has there name node (inl same) =
      (node, lookup_put q there name node ∙ ap (λ o. cond (is_eq o) (Some node) (lookup (is_at (byte_order q)) there)) (same_tied q name same))
  put_has there name node (inr has) =
      elim (is_eq (byte_order q name)) as (λ b. is_eq (byte_order q name) ≡ b → has_node (insert_entry byte_order there name node)) [
        | true ↦ λ is. (node, lookup_put q there name node ∙ ap (λ b. cond b (Some node) (lookup (is_at (byte_order q)) there)) is)
        | false ↦ λ is. (has.0, lookup_put q there name node ∙ ap (λ b. cond b (Some node) (lookup (is_at (byte_order q)) there)) is ∙ has.1)
      ] refl

  pub named_has : (n : ℕ) (there : List (List ℕ × Node)) (names : List (List ℕ)) → (is_among names q ≡ true) ⊎ has_node there → has_node (named_from n there names)
  named_has n there [] (inl is) = absurd (cc)
  named_has n there [] (inr has) = has
  named_has n there (name ∷ names) (inr has) = named_has (n + 1) (insert_entry byte_order there name (record { number = n })) names (inr (put_has there name (record { number = n }) (inr has)))
  named_has n there (name ∷ names) (inl is) =
      elim (or_true (bytes_eq q name) (is_among names q) is) [
        | inl here ↦ named_has (n + 1) (insert_entry byte_order there name (record { number = n })) names (inr (put_has there name (record { number = n }) (inl (bytes_same q name here))))
        | inr later ↦ named_has (n + 1) (insert_entry byte_order there name (record { number = n })) names (inl later)
      ]

-- ---- Names that are new

-- none of them is known before, and none occurs twice
abbrev pub AreDistinct : List (List ℕ) → List (List ℕ) → Type 0
AreDistinct known [] = Unit {0}
AreDistinct known (name ∷ names) = (is_among known name ≡ false) × AreDistinct (known ++ name ∷ []) names

not_there : {X : Type 0} (b : Bool) (x : X) (others : List X) → cond b (x ∷ []) others ≡ [] → b ≡ false
not_there true x others none = absurd (cc)
not_there false x others none = refl

pub properties_more : (done : List Said) (project : Path) (statement : Statement) → properties_of (done ++ says project statement ∷ []) project ≡ properties_of done project ++ filter_map declared_property (statement ∷ [])
properties_more done project statement =
    ap (filter_map declared_property) (script_more done project statement) ∙ filter_map-append declared_property (script_of done project) (statement ∷ [])

module _ {M F Z S A : Type 0} (tables : Tables M F Z S A) (project : Path) where
  abbrev pub faults_of : List Said → List Statement → Type 0
  faults_of done script = each_after (statement_faults tables) done (said_by (project, script)) ≡ []

  head_distinct : (done : List Said) (statement : Statement) (script : List Statement) → statement_faults tables done (says project statement) ≡ []
      → AreDistinct (properties_of done project ++ filter_map declared_property (statement ∷ [])) (filter_map declared_property script) → AreDistinct (properties_of done project) (filter_map declared_property (statement ∷ script))
  head_distinct done (statements.Property name) script none rest = (not_there (is_among (properties_of done project) name) _ _ none, rest)
  head_distinct done (statements.Set a) script none rest = subst (λ known. AreDistinct known (filter_map declared_property script)) (append-nil (properties_of done project)) rest
  head_distinct done (statements.Convention a) script none rest = subst (λ known. AreDistinct known (filter_map declared_property script)) (append-nil (properties_of done project)) rest
  head_distinct done (statements.Unset name) script none rest = subst (λ known. AreDistinct known (filter_map declared_property script)) (append-nil (properties_of done project)) rest
  head_distinct done (statements.DisallowChanges name) script none rest = subst (λ known. AreDistinct known (filter_map declared_property script)) (append-nil (properties_of done project)) rest
  head_distinct done (statements.DefaultTasks texts) script none rest = subst (λ known. AreDistinct known (filter_map declared_property script)) (append-nil (properties_of done project)) rest
  head_distinct done (statements.Register r) script none rest = subst (λ known. AreDistinct known (filter_map declared_property script)) (append-nil (properties_of done project)) rest
  head_distinct done (statements.Named c) script none rest = subst (λ known. AreDistinct known (filter_map declared_property script)) (append-nil (properties_of done project)) rest

  pub names_distinct : (done : List Said) (script : List Statement) → faults_of done script → AreDistinct (properties_of done project) (filter_map declared_property script)
  names_distinct done [] none = tt
  names_distinct done (statement ∷ script) none =
      head_distinct done statement script (nil_prefix (statement_faults tables done (says project statement)) _ none)
      (subst (λ known. AreDistinct known (filter_map declared_property script)) (properties_more done project statement)
      (names_distinct (done ++ says project statement ∷ []) script (nil_back (statement_faults tables done (says project statement)) _ none)))

-- ---- Properties after others

module _ {M F Z : Type 0} (project : Path) where
  abbrev own : List ℕ → Expression M F Z
  own name = unset_property project name

  -- what is present once they are made was present before, or is one of them
  pub made_split : (nodes : List (Expression M F Z)) (names : List (List ℕ)) (x : ℕ) (e : Expression M F Z) → slice_get (properties_made project nodes names) x ≡ Some e
      → (slice_get nodes x ≡ Some e) ⊎ ((name : List ℕ) × (is_among names name ≡ true) × (own name ≡ e))
  made_split [] names x e is =
      let found = mapped_at own names x e (slice_get names x) refl (sym (slice_get-map own names x) ∙ is) in
      inr (found.0, at_among names x found.0 found.1, found.2)
  made_split (n ∷ nodes) names zero e is = inl is
  made_split (n ∷ nodes) names (suc x) e is = made_split nodes names x e is

  key_split : (nodes : List (Expression M F Z)) (e : Expression M F Z) (x : ℕ) (k : Key) → key_at (nodes ++ e ∷ []) x ≡ Some k → (key_at nodes x ≡ Some k) ⊎ ((x ≡ length nodes) × (key_of (Some e) ≡ Some k))
  key_split nodes e x k is =
      elim (nat_lt x (length nodes)) as (λ b. nat_lt x (length nodes) ≡ b → (key_at nodes x ≡ Some k) ⊎ ((x ≡ length nodes) × (key_of (Some e) ≡ Some k))) [
        | true ↦ λ here. inl (ap key_of (sym (at_prefix nodes (e ∷ []) x (ltb-true x (length nodes) here))) ∙ is)
        | false ↦ λ there.
            let found = keyed (slice_get (nodes ++ e ∷ []) x) k is in
            let last = at_last nodes e (OfProperty found.0) x (ltb-false x (length nodes) there) found.1 in
            inr (last.0, ap (λ o. key_of (Some o)) last.1 ∙ ap key_of (sym found.1) ∙ is)
      ] refl

  -- the properties of the project in the table are among these
  abbrev pub AreAmong : List (Expression M F Z) → List (List ℕ) → Type 0
  AreAmong nodes known = (x : ℕ) (name : List ℕ) → key_at nodes x ≡ Some (project, name) → is_among known name ≡ true

  one_once : (nodes : List (Expression M F Z)) (name : List ℕ) → AreOnce nodes → ((x : ℕ) → key_at nodes x ≡ Some (project, name) → ⊥) → AreOnce (nodes ++ own name ∷ [])
  one_once nodes name once new x y k at_x at_y =
      elim (key_split nodes (own name) x k at_x) [
        | inl old_x ↦
            elim (key_split nodes (own name) y k at_y) [
              | inl old_y ↦ once x y k old_x old_y
              | inr last_y ↦ absurd (new x (old_x ∙ sym last_y.1))
            ]
        | inr last_x ↦
            elim (key_split nodes (own name) y k at_y) [
              | inl old_y ↦ absurd (new y (old_y ∙ sym last_x.1))
              | inr last_y ↦ last_x.0 ∙ sym last_y.0
            ]
      ]

  one_among : (nodes : List (Expression M F Z)) (known : List (List ℕ)) (name : List ℕ) → AreAmong nodes known → AreAmong (nodes ++ own name ∷ []) (known ++ name ∷ [])
  one_among nodes known name among x other at =
      elim (key_split nodes (own name) x (project, other) at) [
        | inl old ↦ among_prefix known (name ∷ []) other (among x other old)
        | inr last ↦
            let same : name ≡ other = ap (λ (k : Key). k.1) (let both : ◌≡◌ {A = Key} (project, name) (project, other) = cc in both) in
            subst (λ n. is_among (known ++ n ∷ []) other ≡ true) (sym same) (among_last known other)
      ]

  pub names_once : (nodes : List (Expression M F Z)) (known names : List (List ℕ)) → AreOnce nodes → AreAmong nodes known → AreDistinct known names → AreOnce (properties_made project nodes names)
  names_once nodes known [] once among separate = subst AreOnce (sym (append-nil nodes)) once
  names_once nodes known (name ∷ names) once among separate =
      subst AreOnce (append_assoc nodes (own name ∷ []) (map own names))
      (names_once (nodes ++ own name ∷ []) (known ++ name ∷ []) names
      (one_once nodes name once (λ x at. (let clash : true ≡ false = sym (among x name at) ∙ separate.0 in absurd (cc))))
      (one_among nodes known name among) separate.1)

-- ---- The declaration of each name

module _ (all : List Spot) (project : Path) where
  -- what each of these statements declares and assigns is among all
  abbrev pub AreGiven : List Statement → Type 0
  AreGiven script = AllByRecursion (λ s. AllByRecursion (IsAmong all) (statement_spots s)) (said_by (project, script))

  pub declared_among : (script : List Statement) → AreGiven script → (name : List ℕ) → is_among (filter_map declared_property script) name ≡ true → IsAmong all (Written project (PropertyOf name) [])
  declared_among [] given name is = absurd (cc)
  declared_among (statements.Property w ∷ script) given name is =
      elim (or_true (bytes_eq name w) (is_among (filter_map declared_property script) name) is) [
        | inl here ↦ subst (λ n. IsAmong all (Written project (PropertyOf n) [])) (sym (bytes_same name w here)) given.0.0
        | inr later ↦ declared_among script given.1 name later
      ]
  declared_among (statements.Set a ∷ script) given name is = declared_among script given.1 name is
  declared_among (statements.Convention a ∷ script) given name is = declared_among script given.1 name is
  declared_among (statements.Unset w ∷ script) given name is = declared_among script given.1 name is
  declared_among (statements.DisallowChanges w ∷ script) given name is = declared_among script given.1 name is
  declared_among (statements.DefaultTasks texts ∷ script) given name is = declared_among script given.1 name is
  declared_among (statements.Register r ∷ script) given name is = declared_among script given.1 name is
  declared_among (statements.Named c ∷ script) given name is = declared_among script given.1 name is
