-- Everything that the scripts declare is in the whole table.
use Rattle.std.proofs.Common.{◌≡◌, ℕ, ◌<◌, ◌≤◌, inl, inr, true, false, List, [], ◌∷◌, ◌++◌, length, map, get_or, refl, sym, ap, subst, ◌∙◌, Option, Some, None, arith, append_assoc, length-append}
use Rattle.std.proofs.lemmas.List.{append-nil}
use Rattle.std.proofs.lemmas.List.Elements.{filter_map-append}
use Rattle.std.proofs.lemmas.Option.{slice_get-get_or}
use Rattle.std.specs.Prelude.{filter_map, reverse, slice_get}
use Rattle.std.specs.BTreeMap.{is_at}
use Rattle.std.specs.FinMap.Entries.{find}
use Rattle.std.specs.List.{AllByRecursion, flat_map}
use Rattle.std.specs.Map.{lookup}
use Rattle.gb_core.specs.Lists.{byte_order}
use Rattle.gb_provider.specs.Indexed.{IsNoOutput}
use Rattle.gb_provider.specs.Rules.{OperandsWithin}
use Rattle.gb_provider.specs.declared.expression.Expression.{Expression}
use Rattle.gb_provider.specs.declared.expression.Expression.TheVariants.{Constant, OfProperty, OfOutput, Listed, Mapped, FlatMapped, Zipped, OrElse}
use Rattle.gb_report.specs.declared.fault.Fault.{Fault}
use Rattle.gb_registry.proofs.Alike.{each_after-append}
use Rattle.gb_registry.proofs.Own.{own_script, script_of-append}
use Rattle.gb_registry.specs.Configure as configured
use Rattle.gb_registry.specs.Configure.{each_after}
use Rattle.gb_registry.specs.New.{AreNew}
use Rattle.gb_registry.specs.Projects.{Path, is_among}
use Rattle.gb_registry.specs.Said.{Said, declared_property, properties_of, said_by, script_of}
use Rattle.gb_registry.specs.Source.{Source}
use Rattle.gb_registry.specs.Tables.{Tables}
use Rattle.gb_script.specs.Tree.{PropertyOf}
use Rattle.gb_script.specs.declared.script.Statement.{Statement}
use Rattle.gb_declare.specs.Circles.{is_named}
use Rattle.gb_declare.specs.Joined.{Named}
use Rattle.gb_declare.specs.Partly.{IsPartOf}
use Rattle.gb_declare.specs.Spots.{Spot}
use Rattle.gb_declare.specs.Whole.{spots, statement_spots, whole}
use Rattle.gb_declare.specs.Laid.{AreUnset, IsLaid}
use Rattle.gb_declare.specs.Scripts.{build_faults, script_faults, script_made, script_site}
use Rattle.gb_declare.specs.Site.{Site}
use Rattle.gb_declare.specs.NodesInTable.{AreSaid, AreInTable, ScriptsAreGood, ScriptsInTable, scripts_faults, scripts_made, sites_made}
use Rattle.gb_declare.specs.Statements.{properties_made, statement_faults, statement_made, statements_faults, statements_made, unset_property}
use Rattle.gb_declare.proofs.FoundLemmas.{nil_both}
use Rattle.gb_declare.proofs.GrownLemmas.{all_back, all_prefix}
use Rattle.gb_registry.proofs.Fine.{nil_back, nil_prefix}
use Rattle.gb_declare.proofs.KeyLemmas.{Key, key_at, key_of, key_renamed, keyed, outputs_none}
use Rattle.gb_declare.proofs.LaidLemmas.{scripts_are_laid}
use Rattle.gb_declare.proofs.PlacedLemmas.{IsAmong, statement_among, written_exists}
use Rattle.gb_declare.proofs.SaidLemmas.{after, property_after, same_bytes, says, table_after}
use Rattle.gb_declare.proofs.ScriptLemmas.{AreAmong, AreDistinct, AreGiven, among_prefix, at_among, declared_among, made_split, named_has, names_distinct, names_once, properties_more}
use Rattle.gb_declare.proofs.StageLemmas.{IsSite, IsStage, IsStepped, site_moves, then_stepped}
use Rattle.gb_declare.proofs.StatementLemmas.{IsKnown, statement_done}

both_same : {X : Type 0} (xs ys xs' ys' : List X) → xs ≡ ys → xs' ≡ ys' → xs ++ xs' ≡ ys ++ ys'
both_same xs ys xs' ys' prefix back = ap (λ l. l ++ xs') prefix ∙ ap (λ l. ys ++ l) back

module _ {M F Z S A : Type 0} (tables : Tables M F Z S A) (source : Source) (all : List Spot) where
  abbrev Stage : List Said → (ℕ → ℕ) → List (Expression M F Z) → Type 0
  Stage done number nodes = IsStage tables source all done number nodes

  abbrev Stepped : List Said → (ℕ → ℕ) → List (Expression M F Z) → List (Expression M F Z) → Type 0
  Stepped done number nodes new = IsStepped tables source all done number nodes new

  abbrev faults_after : List Said → List Said → List Fault
  faults_after done said = each_after (configured.statement_faults tables) done said

  -- ---- The statements of a script

  module _ (site : Site) (names : List (List ℕ)) (knows : (name : List ℕ) → is_among names name ≡ true → IsKnown tables source all site name) where
    -- statements that are made, and that they are made without a fault
    record AreDone (done : List Said) (number : ℕ → ℕ) (nodes : List (Expression M F Z)) (script : List Statement) : Type 0 where
      pub steps : Stepped (done ++ said_by (site.project, script)) number nodes (statements_made tables.functions site nodes script)
      pub good : statements_faults tables.means tables.functions site nodes script ≡ []

    none_done : (done : List Said) (number : ℕ → ℕ) (nodes : List (Expression M F Z)) → Stage done number nodes → AreDone done number nodes []
    none_done done number nodes stage = record {
      steps = record {
        numbers = number;
        stage = subst (λ d. Stage d number nodes) (sym (append-nil done)) stage;
        agrees = λ i below. refl;
        longer = omega arith;
        keys = λ x k at. at;
      };
      good = refl;
    }

    statements_walk : (script : List Statement) (done : List Said) (number : ℕ → ℕ) (nodes : List (Expression M F Z)) → Stage done number nodes → IsSite tables source all done number nodes site
        → properties_of done site.project ++ filter_map declared_property script ≡ names → faults_after done (said_by (site.project, script)) ≡ [] → AreGiven all site.project script → AreDone done number nodes script
    statements_walk [] done number nodes stage right is none given = none_done done number nodes stage
    statements_walk (statement ∷ script) done number nodes stage right is none given =
        let s = says site.project statement in
        let next = done ++ s ∷ [] in
        let mid = statement_made tables.functions site nodes statement in
        let known_so_far = properties_of done site.project in
        let one = statement_done tables source all site done number nodes stage right
        (λ name among. knows name (subst (λ l. is_among l name ≡ true) is (among_prefix known_so_far (filter_map declared_property (statement ∷ script)) name among)))
        statement (nil_prefix (configured.statement_faults tables done s) (faults_after next (said_by (site.project, script))) none) given.0 in
        let is_next : properties_of next site.project ++ filter_map declared_property script ≡ names =
        ap (λ l. l ++ filter_map declared_property script) (properties_more done site.project statement)
        ∙ append_assoc known_so_far (filter_map declared_property (statement ∷ [])) (filter_map declared_property script)
        ∙ ap (λ l. known_so_far ++ l) (sym (filter_map-append declared_property (statement ∷ []) script)) ∙ is in
        let rest = statements_walk script next one.steps.numbers mid one.steps.stage (site_moves tables source all done next number one.steps.numbers nodes mid site one.steps.agrees one.steps.longer right)
        is_next (nil_back (configured.statement_faults tables done s) (faults_after next (said_by (site.project, script))) none) given.1 in
        record {
          steps = subst (λ d. Stepped d number nodes (statements_made tables.functions site mid script)) (append_assoc done (s ∷ []) (said_by (site.project, script)))
              (then_stepped tables source all next (next ++ said_by (site.project, script)) number nodes mid (statements_made tables.functions site mid script) one.steps rest.steps);
          good = nil_both (statement_faults tables.means tables.functions site nodes statement) (statements_faults tables.means tables.functions site mid script) one.good rest.good;
        }

  -- ---- A script

  -- a property in the table is one of a project with earlier statements
  abbrev HaveSaid : List Said → List (Expression M F Z) → Type 0
  HaveSaid done nodes = (x : ℕ) (k : Key) → key_at nodes x ≡ Some k → script_of done k.0 ≡ [] → ⊥

  -- the table after a script, for which its site is right, and that the script is made without a fault
  record IsScriptDone (project : Path) (given : List (Named (List ℕ))) (script : List Statement) (done : List Said) (number : ℕ → ℕ) (nodes : List (Expression M F Z)) : Type 0 where
    pub numbers : ℕ → ℕ
    pub stage : Stage (done ++ said_by (project, script)) numbers (script_made tables.functions project given nodes script)
    pub said : HaveSaid (done ++ said_by (project, script)) (script_made tables.functions project given nodes script)
    pub agrees : (i : ℕ) → i < length nodes → numbers i ≡ number i
    pub longer : length nodes ≤ length (script_made tables.functions project given nodes script)
    pub right : IsSite tables source all (done ++ said_by (project, script)) numbers (script_made tables.functions project given nodes script) (script_site project given (length nodes) script)
    pub good : script_faults tables.means tables.functions project given nodes script ≡ build_faults project

  module _ (project : Path) (given : List (Named (List ℕ))) (found : (text : List ℕ) → lookup (is_at (byte_order text)) given ≡ find byte_order text (reverse source.given))
      (script : List Statement) (done : List Said) (number : ℕ → ℕ) (nodes : List (Expression M F Z)) (stage : Stage done number nodes) (said : HaveSaid done nodes)
      (new : script_of done project ≡ []) (none : faults_after done (said_by (project, script)) ≡ []) (all_given : AreGiven all project script) where
    abbrev names : List (List ℕ)
    names = filter_map declared_property script

    abbrev laid_nodes : List (Expression M F Z)
    laid_nodes = properties_made project nodes names

    abbrev site : Site
    site = script_site project given (length nodes) script

    unset : AreUnset tables (after tables source all done) all (table_after tables source all done) project names
    unset k name at =
        written_exists tables (after tables source all done) all project (PropertyOf name) [] (declared_among all project script all_given name (at_among names k name at))
        ∙ ap (λ s. Some (OfProperty (property_after tables source all project name s))) new

    laid : IsLaid tables (after tables source all done) all (table_after tables source all done) number nodes project given script
    laid = scripts_are_laid tables (after tables source all done) all (table_after tables source all done) number nodes project given script stage.part found unset

    none_there : AreAmong {M = M} {F = F} {Z = Z} project nodes []
    none_there x name at = absurd (said x (project, name) at new)

    separate : AreDistinct [] names
    separate = subst (λ known. AreDistinct known names) (ap (filter_map declared_property) new) (names_distinct tables project done script none)

    by_made : (P : ℕ → Expression M F Z → Type 0) → ((x : ℕ) (e : Expression M F Z) → slice_get nodes x ≡ Some e → P x e) → ((x : ℕ) (name : List ℕ) → P x (unset_property project name))
        → (x : ℕ) (e : Expression M F Z) → slice_get laid_nodes x ≡ Some e → P x e
    by_made P old own x e is =
        elim (made_split project nodes names x e is) [
          | inl existed ↦ old x e existed
          | inr made ↦ subst (P x) made.2 (own x made.0)
        ]

    laid_stage : Stage done laid.numbers laid_nodes
    laid_stage = record {
      part = laid.part;
      once = names_once project nodes [] names stage.once none_there separate;
      following = by_made (λ x e. is_named (Some e) ≡ false → OperandsWithin x e) stage.following (λ x name clash. absurd (cc));
      none = by_made (λ x e. IsNoOutput e) stage.none (λ x name. tt);
    }

    knows : (name : List ℕ) → is_among names name ≡ true → IsKnown tables source all site name
    knows name among =
        let node = named_has name (length nodes) [] names (inl among) in
        record { node = node.0; found = node.1; among = declared_among all project script all_given name among }

    all_done : AreDone site names knows done laid.numbers laid_nodes script
    all_done =
        statements_walk site names knows script done laid.numbers laid_nodes laid_stage laid.right
        (ap (λ s. filter_map declared_property s ++ names) new) none all_given

    abbrev made : List (Expression M F Z)
    made = script_made tables.functions project given nodes script

    -- the table has no property of a project without statements so far
    said_then : HaveSaid (done ++ said_by (project, script)) made
    said_then x k at silent =
        let before : script_of done k.0 ≡ [] = nil_prefix (script_of done k.0) (script_of (said_by (project, script)) k.0) (sym (script_of-append done (said_by (project, script)) k.0) ∙ silent) in
        let own : script_of (said_by (project, script)) k.0 ≡ [] = nil_back (script_of done k.0) (script_of (said_by (project, script)) k.0) (sym (script_of-append done (said_by (project, script)) k.0) ∙ silent) in
        let at_laid = all_done.steps.keys x k at in
        let there = keyed (slice_get laid_nodes x) k at_laid in
        elim (made_split project nodes names x (OfProperty there.0) there.1) [
          | inl existed ↦ said x k (ap key_of existed ∙ sym (ap key_of there.1) ∙ at_laid) before
          | inr is_made ↦
              let same : Some (project, is_made.0) ≡ Some k = ap (λ e. key_of (Some e)) is_made.2 ∙ sym (ap key_of there.1) ∙ at_laid in
              let key : ◌≡◌ {A = Key} (project, is_made.0) k = cc in
              let project_is : project ≡ k.0 = ap (λ (p : Key). p.0) key in
              let empty : script ≡ [] = sym (own_script project project true (same_bytes project) script) ∙ ap (script_of (said_by (project, script))) project_is ∙ own in
              let clash : false ≡ true = ap (λ s. is_among (filter_map declared_property s) is_made.0) (sym empty) ∙ is_made.1 in
              absurd (cc)
        ]

    script_done : IsScriptDone project given script done number nodes
    script_done =
        let steps = all_done.steps in
        let more : length nodes ≤ length laid_nodes = omega (arith, length-append nodes (map (unset_property {M = M} {F = F} {Z = Z} project) names)) in
        let most = steps.longer in
        record {
          numbers = steps.numbers;
          stage = steps.stage;
          said = said_then;
          agrees = λ i below. steps.agrees i (omega (arith, below, more)) ∙ laid.agrees i below;
          longer = omega (arith, more, most);
          right = site_moves tables source all done (done ++ said_by (project, script)) laid.numbers steps.numbers laid_nodes made site steps.agrees steps.longer laid.right;
          good = ap (λ fs. build_faults project ++ fs) all_done.good ∙ append-nil (build_faults project);
        }

  -- ---- All scripts

  -- what each of these statements declares and assigns is among all
  abbrev AllGiven : List Said → Type 0
  AllGiven said = AllByRecursion (λ s. AllByRecursion (IsAmong all) (statement_spots s)) said

  module _ (given : List (Named (List ℕ))) where
    abbrev made_of : List (Expression M F Z) → List (Path × List Statement) → List (Expression M F Z)
    made_of nodes scripts = scripts_made tables.functions given nodes scripts

    -- the table after scripts, after which these are the statements
    pub record AreScriptsDone (said : List Said) (number : ℕ → ℕ) (nodes : List (Expression M F Z)) (scripts : List (Path × List Statement)) : Type 0 where
      pub numbers : ℕ → ℕ
      pub stage : Stage said numbers (made_of nodes scripts)
      pub agrees : (i : ℕ) → i < length nodes → numbers i ≡ number i
      pub longer : length nodes ≤ length (made_of nodes scripts)
      pub right : AllByRecursion (IsSite tables source all said numbers (made_of nodes scripts)) (sites_made tables.functions given nodes scripts)
      pub good : scripts_faults tables.functions given tables.means nodes scripts ≡ flat_map (λ (script : Path × List Statement). build_faults script.0) scripts

    no_scripts : (done : List Said) (number : ℕ → ℕ) (nodes : List (Expression M F Z)) → Stage done number nodes → AreScriptsDone (done ++ []) number nodes []
    no_scripts done number nodes stage = record {
      numbers = number;
      stage = subst (λ d. Stage d number nodes) (sym (append-nil done)) stage;
      agrees = λ i below. refl;
      longer = omega arith;
      right = tt;
      good = refl;
    }

    module _ (script : Path × List Statement) (scripts : List (Path × List Statement)) (done final : List Said) (number : ℕ → ℕ) (nodes : List (Expression M F Z)) (one : IsScriptDone script.0 given script.1 done number nodes) where
      abbrev mid : List (Expression M F Z)
      mid = script_made tables.functions script.0 given nodes script.1

      -- a script, and then others
      then_scripts : AreScriptsDone final one.numbers mid scripts → AreScriptsDone final number nodes (script ∷ scripts)
      then_scripts rest =
          let some = one.longer in
          let more = rest.longer in
          record {
            numbers = rest.numbers;
            stage = rest.stage;
            agrees = λ i below. rest.agrees i (omega (arith, below, some)) ∙ one.agrees i below;
            longer = omega (arith, some, more);
            right = (
              site_moves tables source all (done ++ said_by script) final one.numbers rest.numbers mid (made_of mid scripts) (script_site script.0 given (length nodes) script.1) rest.agrees rest.longer one.right,
              rest.right,
            );
            good =
                both_same (script_faults tables.means tables.functions script.0 given nodes script.1) (build_faults script.0) (scripts_faults tables.functions given tables.means mid scripts)
                (flat_map (λ (s : Path × List Statement). build_faults s.0) scripts) one.good rest.good;
          }

  module _ (given : List (Named (List ℕ))) (found : (text : List ℕ) → lookup (is_at (byte_order text)) given ≡ find byte_order text (reverse source.given)) where
    scripts_walk : (scripts : List (Path × List Statement)) (done : List Said) (number : ℕ → ℕ) (nodes : List (Expression M F Z)) → Stage done number nodes → HaveSaid done nodes → AreNew done scripts
        → faults_after done (flat_map said_by scripts) ≡ [] → AllGiven (flat_map said_by scripts) → AreScriptsDone given (done ++ flat_map said_by scripts) number nodes scripts
    scripts_walk [] done number nodes stage said new none all_given = no_scripts given done number nodes stage
    scripts_walk (script ∷ scripts) done number nodes stage said new none all_given =
        let here = said_by script in
        let others = flat_map said_by scripts in
        let next = done ++ here in
        let split = sym (each_after-append (configured.statement_faults tables) done here others) ∙ none in
        let one = script_done script.0 given found script.1 done number nodes stage said new.0 (nil_prefix (faults_after done here) (faults_after next others) split)
        (all_prefix (λ s. AllByRecursion (IsAmong all) (statement_spots s)) here others all_given) in
        let rest = scripts_walk scripts next one.numbers (script_made tables.functions script.0 given nodes script.1) one.stage one.said new.1 (nil_back (faults_after done here) (faults_after next others) split)
        (all_back (λ s. AllByRecursion (IsAmong all) (statement_spots s)) here others all_given) in
        subst (λ d. AreScriptsDone given d number nodes (script ∷ scripts)) (append_assoc done here others) (then_scripts given script scripts done (next ++ others) number nodes one rest)

    none_stage : Stage [] (λ i. i) []
    none_stage = record {
      part = record {
        within = λ i e below. absurd (omega (arith, below));
        copied = λ x e is. absurd (cc);
        placed = λ chosen k is. absurd (cc);
      };
      once = λ x y k at_x at_y. absurd (cc);
      following = λ x e is plain. absurd (cc);
      none = λ x e is. absurd (cc);
    }

    pub all_scripts : (scripts : List (Path × List Statement)) → AreNew [] scripts → faults_after [] (flat_map said_by scripts) ≡ [] → AllGiven (flat_map said_by scripts)
        → AreScriptsDone given (flat_map said_by scripts) (λ i. i) [] scripts
    all_scripts scripts new none all_given = scripts_walk scripts [] (λ i. i) [] none_stage (λ x k at silent. absurd (cc)) new none all_given

-- ---- The law

module _ {M F Z : Type 0} where
  -- what has a name and is no output is a property
  named_keyed : (o : Option (Expression M F Z)) → is_named o ≡ true → ((e : Expression M F Z) → o ≡ Some e → IsNoOutput e) → (k : Key) × (key_of o ≡ Some k)
  named_keyed None named plain = absurd (cc)
  named_keyed (Some (OfProperty property)) named plain = ((property.project, property.name), refl)
  named_keyed (Some (OfOutput output)) named plain = absurd (plain (OfOutput output) refl)
  named_keyed (Some (Constant value)) named plain = absurd (cc)
  named_keyed (Some (Listed operands)) named plain = absurd (cc)
  named_keyed (Some (Mapped from call)) named plain = absurd (cc)
  named_keyed (Some (FlatMapped from call)) named plain = absurd (cc)
  named_keyed (Some (Zipped left right call)) named plain = absurd (cc)
  named_keyed (Some (OrElse left right)) named plain = absurd (cc)

  -- expressions at one number of the whole have one key
  same_key : (number : ℕ → ℕ) (nodes whole : List (Expression M F Z)) → IsPartOf number nodes whole → (x y : ℕ) (k : Key) → key_at nodes x ≡ Some k → y < length nodes → number x ≡ number y → key_at nodes y ≡ Some k
  same_key number nodes whole part x y k at below same =
      let there = keyed (slice_get nodes x) k at in
      let blank : Expression M F Z = Constant None in
      let e = get_or nodes y blank in
      let exists : slice_get nodes y ≡ Some e = slice_get-get_or nodes y blank below in
      let old : Expression M F Z = OfProperty there.0 in
      ap key_of exists ∙ sym (key_renamed number e) ∙ ap key_of (sym (part.copied y e exists)) ∙ ap (λ i. key_of (slice_get whole i)) (sym same)
      ∙ ap key_of (part.copied x old there.1) ∙ key_renamed number old ∙ ap key_of (sym there.1) ∙ at

module _ {M F Z S A : Type 0} (tables : Tables M F Z S A) (source : Source) where
  all_given : (prefix back : List Said) → source.said ≡ prefix ++ back → AllGiven tables source (spots tables source) back
  all_given prefix [] split = tt
  all_given prefix (s ∷ back) split = (statement_among tables source prefix back s split, all_given (prefix ++ s ∷ []) back (split ∙ sym (append_assoc prefix (s ∷ []) back)))

  module _ (scripts : List (Path × List Statement)) (given : List (Named (List ℕ))) (said : AreSaid tables source scripts given) where
    abbrev final : List (Expression M F Z)
    final = scripts_made tables.functions given [] scripts

    done : AreScriptsDone tables source (spots tables source) given source.said (λ i. i) [] scripts
    done =
        subst (λ d. AreScriptsDone tables source (spots tables source) given d (λ i. i) [] scripts) (sym said.said)
        (all_scripts tables source (spots tables source) given said.found scripts said.new (ap (each_after (configured.statement_faults tables) []) (sym said.said) ∙ said.good)
        (all_given [] (flat_map said_by scripts) said.said))

    final_part : IsPartOf done.numbers final (whole tables source)
    final_part = done.stage.part

    laid_once : (x y : ℕ) → is_named (slice_get final x) ≡ true → y < length final → done.numbers x ≡ done.numbers y → x ≡ y
    laid_once x y named below same =
        let key = named_keyed (slice_get final x) named (done.stage.none x) in
        done.stage.once x y key.0 key.1 (same_key done.numbers final (whole tables source) final_part x y key.0 key.1 below same)

    existing : AreInTable tables source final (sites_made tables.functions given [] scripts)
    existing = record {
      number = done.numbers;
      laid = record { part = final_part; once = laid_once; following = done.stage.following };
      right = done.right;
      plain = outputs_none final done.stage.none;
    }

    good : scripts_faults tables.functions given tables.means [] scripts ≡ flat_map (λ (script : Path × List Statement). build_faults script.0) scripts
    good = done.good

  pub scripts_in_table : ScriptsInTable tables source
  scripts_in_table scripts given said = existing scripts given said

  pub scripts_are_good : ScriptsAreGood tables source
  scripts_are_good scripts given said = good scripts given said
