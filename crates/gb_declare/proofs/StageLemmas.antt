-- The table after some statements are made.
use Rattle.std.proofs.Common.{◌≡◌, ◌≢◌, ℕ, ◌==◌, ◌<◌, ◌≤◌, true, false, List, length, refl, sym, ap, subst, ◌∙◌, Some, None, arith, length-append}
use Rattle.std.proofs.lemmas.Bool.{eqb-true, eq-eqb, ltb-true, ltb-false}
use Rattle.std.proofs.lemmas.List.{length-set}
use Rattle.std.specs.Prelude.{slice_get, slice_set, nat_lt, option_map}
use Rattle.gb_provider.specs.Indexed.{IsNoOutput}
use Rattle.gb_provider.specs.Rules.{OperandsWithin}
use Rattle.gb_provider.specs.declared.expression.Expression.{Expression}
use Rattle.gb_provider.specs.declared.expression.Expression.TheVariants.{OfProperty}
use Rattle.gb_provider.specs.declared.expression.Property.{Property}
use Rattle.gb_provider.proofs.WithinLemmas.{changed_within}
use Rattle.gb_registry.specs.Projects.{Path}
use Rattle.gb_registry.specs.Said.{Said}
use Rattle.gb_registry.specs.Source.{Source}
use Rattle.gb_registry.specs.Tables.{Tables}
use Rattle.gb_script.specs.declared.script.Statement.{Statement}
use Rattle.gb_declare.specs.Circles.{is_named}
use Rattle.gb_declare.specs.Partly.{IsPartOf, renamed}
use Rattle.gb_declare.specs.Spots.{Spot}
use Rattle.gb_declare.specs.Grown.{IsGrown, IsRight}
use Rattle.gb_declare.specs.Nodes.{Made}
use Rattle.gb_declare.specs.Site.{Site}
use Rattle.gb_declare.proofs.GrownLemmas.{at_prefix}
use Rattle.gb_declare.proofs.KeyLemmas.{AreOnce, HasKeysOf, HasNoOutputs, Key, at_change, key_at, key_of, key_renamed, keys_changed, keys_grown, off_change, once_kept, outputs_none, unnamed_plain}
use Rattle.gb_declare.proofs.SaidLemmas.{IsLeft, IsUntouched, after, more, table_after, table_kept}

module _ {M F Z S A : Type 0} (tables : Tables M F Z S A) (source : Source) (all : List Spot) where
  -- Expressions that are a part of the whole after these statements: each property occurs once, other
  -- expressions come after their operands, and there is no output.
  pub record IsStage (done : List Said) (number : ℕ → ℕ) (nodes : List (Expression M F Z)) : Type 0 where
    pub part : IsPartOf number nodes (table_after tables source all done)
    pub once : AreOnce nodes
    pub following : (x : ℕ) (e : Expression M F Z) → slice_get nodes x ≡ Some e → is_named (Some e) ≡ false → OperandsWithin x e
    pub none : HasNoOutputs nodes

  -- The same for more expressions, with the same numbers as before, and with no new properties.
  pub record IsStepped (done : List Said) (number : ℕ → ℕ) (nodes new : List (Expression M F Z)) : Type 0 where
    pub numbers : ℕ → ℕ
    pub stage : IsStage done numbers new
    pub agrees : (i : ℕ) → i < length nodes → numbers i ≡ number i
    pub longer : length nodes ≤ length new
    pub keys : HasKeysOf nodes new

  -- one of them has this number in the whole
  pub record IsTreeStepped (done : List Said) (number : ℕ → ℕ) (nodes : List (Expression M F Z)) (target : ℕ) (made : Made M F Z ℕ) : Type 0 where
    pub steps : IsStepped done number nodes made.nodes
    pub exists : steps.numbers made.place ≡ target
    pub within : made.place < length made.nodes

  pub then_stepped : (first second : List Said) (number : ℕ → ℕ) (nodes mid new : List (Expression M F Z)) (one : IsStepped first number nodes mid) → IsStepped second one.numbers mid new → IsStepped second number nodes new
  then_stepped first second number nodes mid new one two =
      let some = one.longer in
      let others = two.longer in
      record {
        numbers = two.numbers;
        stage = two.stage;
        agrees = λ i below. two.agrees i (omega (arith, below, some)) ∙ one.agrees i below;
        longer = omega (arith, some, others);
        keys = λ x k at. one.keys x k (two.keys x k at);
      }

  -- a right site stays right
  abbrev pub IsSite : List Said → (ℕ → ℕ) → List (Expression M F Z) → Site → Type 0
  IsSite done number nodes site = IsRight tables (after tables source all done) all (table_after tables source all done) number nodes site

  pub site_moves : (done done' : List Said) (number number' : ℕ → ℕ) (nodes nodes' : List (Expression M F Z)) (site : Site) → ((i : ℕ) → i < length nodes → number' i ≡ number i) → length nodes ≤ length nodes'
      → IsSite done number nodes site → IsSite done' number' nodes' site
  site_moves done done' number number' nodes nodes' site agree longer right = record {
    build = right.build;
    given = right.given;
    there = λ name node is. let below = right.there name node is in omega (arith, below, longer);
    named = λ name node is. agree node.number (right.there name node is) ∙ right.named name node is;
  }

  -- ---- An expression more

  module _ (done : List Said) (number : ℕ → ℕ) (nodes : List (Expression M F Z)) (stage : IsStage done number nodes) (target : ℕ) (made : Made M F Z ℕ)
      (grown : IsGrown (table_after tables source all done) number nodes target made) where
    by_prefix : (P : ℕ → Expression M F Z → Type 0) → ((x : ℕ) (e : Expression M F Z) → slice_get nodes x ≡ Some e → P x e)
        → ((x : ℕ) (e : Expression M F Z) → length nodes ≤ x → slice_get made.nodes x ≡ Some e → P x e) → (x : ℕ) (e : Expression M F Z) → slice_get made.nodes x ≡ Some e → P x e
    by_prefix P old new x e is =
        elim (nat_lt x (length nodes)) as (λ b. nat_lt x (length nodes) ≡ b → P x e) [
          | true ↦ λ here. old x e (sym (ap (λ l. slice_get l x) grown.prefix.1 ∙ at_prefix nodes grown.prefix.0 x (ltb-true x (length nodes) here)) ∙ is)
          | false ↦ λ there. new x e (ltb-false x (length nodes) there) is
        ] refl

    grown_keys : HasKeysOf nodes made.nodes
    grown_keys = keys_grown nodes made.nodes grown.prefix.0 grown.prefix.1 grown.plain

    grown_stage : IsStage done grown.numbers made.nodes
    grown_stage = record {
      part = grown.part;
      once = once_kept nodes made.nodes grown_keys stage.once;
      following = by_prefix (λ x e. is_named (Some e) ≡ false → OperandsWithin x e) stage.following (λ x e past is _. (grown.plain x e past is).1);
      none = by_prefix (λ x e. IsNoOutput e) stage.none (λ x e past is. unnamed_plain e (grown.plain x e past is).0);
    }

    pub grown_steps : IsTreeStepped done number nodes target made
    grown_steps = record {
      steps = record {
        numbers = grown.numbers;
        stage = grown_stage;
        agrees = grown.agrees;
        longer = omega (arith, ap length grown.prefix.1, length-append nodes grown.prefix.0);
        keys = grown_keys;
      };
      exists = grown.exists;
      within = grown.within;
    }

  -- ---- A statement more

  module _ (done : List Said) (project : Path) (statement : Statement) (number : ℕ → ℕ) (nodes : List (Expression M F Z)) (stage : IsStage done number nodes) where
    abbrev next : List Said
    next = more tables source all done project statement

    -- a statement that concerns no property
    pub left_steps : ((name : List ℕ) → IsUntouched name statement) → IsStepped next number nodes nodes
    left_steps untouched = record {
      numbers = number;
      stage = record {
        part = record {
          within = stage.part.within;
          copied = λ x e is. table_kept tables source all done project statement (number x) (renamed number e) (stage.part.copied x e is) (λ name _. untouched name);
          placed = λ chosen k is. (let clash : Some k ≡ None = sym is ∙ outputs_none nodes stage.none chosen in absurd (cc));
        };
        once = stage.once;
        following = stage.following;
        none = stage.none;
      };
      agrees = λ i below. refl;
      longer = omega arith;
      keys = λ x k at. at;
    }

    -- one that changes a property
    module _ (place : ℕ) (old new : Property) (exists : slice_get nodes place ≡ Some (OfProperty old)) (same_project : old.project ≡ project) (new_project : new.project ≡ old.project) (new_name : new.name ≡ old.name)
        (untouched : (name : List ℕ) → (name ≡ old.name → ⊥) → IsUntouched name statement) (within : OperandsWithin {M = M} {F = F} {Z = Z} (length nodes) (OfProperty new))
        (here : slice_get (table_after tables source all next) (number place) ≡ Some (renamed number (OfProperty new))) where
      abbrev changed : List (Expression M F Z)
      changed = slice_set nodes place (OfProperty new)

      same_key : ◌≡◌ {A = Key} (old.project, old.name) (new.project, new.name)
      same_key = ap (λ p. (p, old.name)) (sym new_project) ∙ ap (λ n. (new.project, n)) (sym new_name)

      changed_keys : HasKeysOf nodes changed
      changed_keys = keys_changed nodes place old new exists same_key

      -- the statement does not concern any other expression
      other_left : (x : ℕ) (e : Expression M F Z) → x ≢ place → slice_get nodes x ≡ Some e → IsLeft tables source all done project statement (renamed number e)
      other_left x e other is name key = untouched name (λ same.
          let there : key_at nodes x ≡ Some (project, name) = ap key_of is ∙ sym (key_renamed number e) ∙ key in
          let old_key : key_at nodes place ≡ Some (project, name) = ap key_of exists ∙ ap (λ p. Some (p, old.name)) same_project ∙ ap (λ n. Some (project, n)) (sym same) in
          other (stage.once x place (project, name) there old_key))

      separate : (x : ℕ) → (x == place) ≡ false → x ≢ place
      separate x there is = let clash : true ≡ false = sym (eq-eqb x place is) ∙ there in absurd (cc)

      changed_copied : (x : ℕ) (e : Expression M F Z) → slice_get changed x ≡ Some e → slice_get (table_after tables source all next) (number x) ≡ Some (renamed number e)
      changed_copied x e is =
          elim (x == place) as (λ b. (x == place) ≡ b → slice_get (table_after tables source all next) (number x) ≡ Some (renamed number e)) [
            | true ↦ λ same.
                let at : x ≡ place = eqb-true x place same in
                let e_is : Some e ≡ Some (OfProperty new) = sym is ∙ ap (slice_get changed) at ∙ at_change nodes place old new exists in
                ap (λ i. slice_get (table_after tables source all next) (number i)) at ∙ here ∙ ap (λ o. option_map (renamed number) o) (sym e_is)
            | false ↦ λ there.
                let existed : slice_get nodes x ≡ Some e = sym (off_change nodes place old new exists x (separate x there)) ∙ is in
                table_kept tables source all done project statement (number x) (renamed number e) (stage.part.copied x e existed) (other_left x e (separate x there) existed)
          ] refl

      by_place : (P : ℕ → Expression M F Z → Type 0) → P place (OfProperty new) → ((x : ℕ) (e : Expression M F Z) → slice_get nodes x ≡ Some e → P x e) → (x : ℕ) (e : Expression M F Z) → slice_get changed x ≡ Some e → P x e
      by_place P at_place others x e is =
          elim (x == place) as (λ b. (x == place) ≡ b → P x e) [
            | true ↦ λ same.
                let at : x ≡ place = eqb-true x place same in
                let e_is : OfProperty new ≡ e = (let both : Some (OfProperty new) ≡ Some e = sym (ap (slice_get changed) at ∙ at_change nodes place old new exists) ∙ is in cc) in
                subst (λ i. P i e) (sym at) (subst (P place) e_is at_place)
            | false ↦ λ there. others x e (sym (off_change nodes place old new exists x (separate x there)) ∙ is)
          ] refl

      changed_none : HasNoOutputs changed
      changed_none = by_place (λ x e. IsNoOutput e) tt stage.none

      pub changed_steps : IsStepped next number nodes changed
      changed_steps = record {
        numbers = number;
        stage = record {
          part = record {
            within = changed_within nodes place (OfProperty new) stage.part.within within;
            copied = changed_copied;
            placed = λ chosen k is. (let clash : Some k ≡ None = sym is ∙ outputs_none changed changed_none chosen in absurd (cc));
          };
          once = once_kept nodes changed changed_keys stage.once;
          following = by_place (λ x e. is_named (Some e) ≡ false → OperandsWithin x e) (λ clash. absurd (cc)) stage.following;
          none = changed_none;
        };
        agrees = λ i below. refl;
        longer = omega (arith, length-set nodes place (OfProperty new));
        keys = changed_keys;
      }
