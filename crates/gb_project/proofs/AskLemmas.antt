-- What providers return is what the whole table gives.
use Rattle.std.specs.Prelude.{ℕ, suc, ◌≡◌, ◌⊎◌, ◌<◌, Bool, true, false, All, List, [], ◌∷◌, ◌++◌, length, map, refl, option_map, Option, Some, None, Result, Ok, Err, slice_get}
use Rattle.std.proofs.Common.{sym, ap, subst, ◌∙◌, inl, inr, arith}
use Rattle.std.proofs.lemmas.Option.{slice_get-map, slice_get_within}
use Rattle.gb_core.specs.declared.value.Value.{Value}
use Rattle.gb_core.specs.declared.value.Value.TheVariants as values
use Rattle.gb_provider.specs.Answers.{IsFault as IsFaultOf, IsGot, RunsInto, value_of}
use Rattle.gb_provider.specs.Produced.{AreProducers, produced_by}
use Rattle.gb_provider.specs.declared.produced.Produced.{Produced}
use Rattle.gb_provider.specs.declared.produced.Produced.TheVariants as produced
use Rattle.gb_provider.specs.Names.{IsLeastRound}
use Rattle.gb_provider.specs.Meanings.{Meanings, meaning_of}
use Rattle.gb_provider.specs.Rounds.{Rule, Answers, Reads, after_operand, and_then, answer, awaited, next_awaited, reading}
use Rattle.gb_provider.specs.Rules.{OperandsWithin, chosen_rule, is_output, list_rule, mapped, on_text, on_value, or_else, output_place, output_rule, rule, rules, zipped}
use Rattle.gb_provider.specs.declared.expression.Expression.{Expression}
use Rattle.gb_provider.specs.declared.expression.Expression.TheVariants.{Constant, OfProperty, OfOutput, Listed, Mapped, FlatMapped, Zipped, OrElse}
use Rattle.gb_provider.specs.declared.expression.Outcome.{Outcome}
use Rattle.gb_provider.specs.declared.expression.Outcome.TheVariants as outcomes
use Rattle.gb_provider.specs.declared.fault.ProviderFault.{ProviderFault}
use Rattle.gb_provider.specs.declared.fault.ProviderFault.TheVariants as providers
use Rattle.gb_provider.specs.declared.fault.Chosen.{Chosen}
use Rattle.gb_provider.specs.declared.fault.Refusal.{Refusal}
use Rattle.gb_registry.specs.References.{Names}
use Rattle.gb_registry.specs.Source.{Source}
use Rattle.gb_registry.specs.Tables.{Tables}
use Rattle.gb_report.specs.declared.fault.Fault.{Fault}
use Rattle.gb_declare.specs.Circles.{AreOrdered, is_named}
use Rattle.gb_declare.specs.Partly.{IsPending}
use Rattle.gb_declare.specs.Realised.{Plain, Endless, given_by, tasks_from, reported}
use Rattle.gb_declare.specs.Reported.{IsReported}
use Rattle.gb_declare.specs.Whole.{whole}
use Rattle.gb_declare.proofs.DistinctLemmas.{circles_are_distinct}
use Rattle.gb_declare.proofs.CarrierLemmas.{part_produces}
use Rattle.gb_declare.proofs.CircleLemmas.{circles_stay}
use Rattle.gb_declare.proofs.NeedLemmas.{given_has_tasks}
use Rattle.gb_declare.proofs.CopyLemmas.{mapped_at, part_answers_lem, part_is_endless_lem}
use Rattle.gb_plan.proofs.Tests.{not_true}
use Rattle.gb_project.proofs.KnownLemmas.{find_passes, placed_at}
use Rattle.gb_project.specs.Given.{HasValue, IsOfGet, given_at, producers_at}
use Rattle.gb_project.specs.Over.{IsOver, IsReportedOf, Reports}

-- ---- What rules read

module _ {M F Z : Type 0} (nodes : List (Expression M F Z)) (x : ℕ) where
  -- it is before, or has a name
  abbrev Fine : ℕ → Type 0
  Fine s = (s < x) ⊎ (is_named (slice_get nodes s) ≡ true)

  abbrev AllFine : Rule ℕ Outcome → Type 0
  AllFine (Answers a) = Unit {0}
  AllFine (Reads operand next) = Fine operand × ((a : Outcome) → AllFine (next a))

  module _ (f : ℕ → Option Outcome) where
    after_fine : (operand : ℕ) (next : Outcome → Rule ℕ Outcome) (s : ℕ) → Fine operand → ((a : Outcome) → awaited (reading f (next a)) ≡ Some s → Fine s) → (o : Option Outcome)
        → awaited (after_operand operand (λ a. reading f (next a)) o) ≡ Some s → Fine s
    after_fine operand next s fine go_on None e = let same : operand ≡ s = cc in subst Fine same fine
    after_fine operand next s fine go_on (Some a) e = go_on a e

    pub awaits_fine : (r : Rule ℕ Outcome) → AllFine r → (s : ℕ) → awaited (reading f r) ≡ Some s → Fine s
    awaits_fine (Answers a) fine s e = absurd (let no_way : ⊥ = cc in no_way)
    awaits_fine (Reads operand next) fine s e = after_fine operand next s fine.0 (λ a. awaits_fine (next a) (fine.1 a) s) (f operand) e

  value_fine : (go_on : Value → Rule ℕ Outcome) → ((value : Value) → AllFine (go_on value)) → (a : Outcome) → AllFine (on_value go_on a)
  value_fine go_on fine (outcomes.Given value) = fine value
  value_fine go_on fine outcomes.Absent = tt
  value_fine go_on fine (outcomes.Refused fault) = tt

  text_fine : (go_on : List ℕ → Rule ℕ Outcome) (other : Rule ℕ Outcome) → ((text : List ℕ) → AllFine (go_on text)) → AllFine other → (value : Value) → AllFine (on_text go_on other value)
  text_fine go_on other fine rest (values.Text text) = fine text
  text_fine go_on other fine rest (values.Flag flag) = rest
  text_fine go_on other fine rest (values.List texts) = rest
  text_fine go_on other fine rest (values.Place place) = rest
  text_fine go_on other fine rest (values.Task task) = rest

  list_fine : (wrong : Bool) (texts : List (List ℕ)) (operands : List ℕ) → All (λ operand. operand < x) operands → AllFine (list_rule wrong texts operands)
  list_fine wrong texts [] within = tt
  list_fine wrong texts (operand ∷ operands) within =
      let later : All (λ o. o < x) operands = λ k d less. within (suc k) d (omega (arith, less)) in (
        inl (within 0 operand (omega arith)),
        value_fine (on_text (λ text. list_rule wrong (texts ++ text ∷ []) operands) (list_rule true texts operands))
            (text_fine (λ text. list_rule wrong (texts ++ text ∷ []) operands) (list_rule true texts operands)
            (λ text. list_fine wrong (texts ++ text ∷ []) operands later) (list_fine true texts operands later)),
      )

  output_named : (chosen : Chosen) (e : Expression M F Z) → is_output chosen e ≡ true → is_named (Some e) ≡ true
  output_named chosen (Constant value) h = not_true h
  output_named chosen (OfProperty property) h = refl
  output_named chosen (OfOutput output) h = refl
  output_named chosen (Listed operands) h = not_true h
  output_named chosen (Mapped source call) h = not_true h
  output_named chosen (FlatMapped source call) h = not_true h
  output_named chosen (Zipped left right call) h = not_true h
  output_named chosen (OrElse left right) h = not_true h

  place_fine : (chosen : Chosen) (o : Option ℕ) → output_place nodes chosen ≡ o → AllFine (output_rule chosen o)
  place_fine chosen None is = tt
  place_fine chosen (Some k) is =
      let at = placed_at (is_output chosen) nodes k is in
      (inr (ap is_named at.2 ∙ output_named chosen at.0 (find_passes (is_output chosen) nodes at.0 at.1)), λ a. tt)

  chosen_fine : (function : List ℕ) (r : Result (Option Chosen) Refusal) → AllFine (chosen_rule (output_place nodes) function r)
  chosen_fine function (Ok (Some chosen)) = place_fine chosen (output_place nodes chosen) refl
  chosen_fine function (Ok None) = tt
  chosen_fine function (Err refusal) = tt

  else_fine : (right : ℕ) → right < x → (a : Outcome) → AllFine (or_else right a)
  else_fine right within (outcomes.Given value) = tt
  else_fine right within outcomes.Absent = (inl within, λ a. tt)
  else_fine right within (outcomes.Refused fault) = tt

  module _ {S : Type 0} (means : Meanings M F Z S) where
    pub fine_rule_of : (e : Expression M F Z) → is_named (Some e) ≡ false → OperandsWithin x e → AllFine (rule means nodes e)
    fine_rule_of (Constant value) unnamed within = tt
    fine_rule_of (OfProperty property) unnamed within = not_true (sym unnamed)
    fine_rule_of (OfOutput output) unnamed within = not_true (sym unnamed)
    fine_rule_of (Listed operands) unnamed within = list_fine false [] operands within
    fine_rule_of (Mapped source call) unnamed within = (inl within, value_fine (λ value. Answers (mapped call.name (meaning_of means.map call.function value call.arguments))) (λ value. tt))
    fine_rule_of (FlatMapped source call) unnamed within =
        (inl within, value_fine (λ value. chosen_rule (output_place nodes) call.name (meaning_of means.flat_map call.function value call.arguments)) (λ value. chosen_fine call.name (meaning_of means.flat_map call.function value call.arguments)))
    fine_rule_of (Zipped left right call) unnamed within = (
      inl within.0,
      value_fine (λ a. Reads right (on_value (λ b. Answers (zipped call.name (meaning_of means.zip call.function a b call.arguments)))))
          (λ a. (inl within.1, value_fine (λ b. Answers (zipped call.name (meaning_of means.zip call.function a b call.arguments))) (λ b. tt))),
    )
    fine_rule_of (OrElse left right) unnamed within = (inl within.0, else_fine right within.1)

module _ {M F Z S A : Type 0} (tables : Tables M F Z S A) (source : Source) (names : Names) (why : List (Option Fault)) (nodes : List (Expression M F Z)) (number : ℕ → ℕ)
    (over : IsOver tables source names why nodes number) where
  abbrev all : List (Expression M F Z)
  all = whole tables source

  -- ---- Values

  not_pending : (outcome : Outcome) → IsPending nodes all outcome → ⊥
  not_pending outcome pending =
      let placed = over.complete.placed pending.0 pending.3.0 pending.3.1 in
      let both : None ≡ Some placed.0 = sym pending.2 ∙ placed.1 in
      let no_way : ⊥ = cc in no_way

  pub answered_there : (entry : ℕ) (outcome : Outcome) → value_of tables.means nodes entry ≡ Some outcome → value_of tables.means all (number entry) ≡ Some outcome
  answered_there entry outcome e = elim (part_answers_lem tables.means number nodes all over.complete.laid.part entry outcome e) [
    | inl pending ↦ absurd (not_pending outcome pending)
    | inr there ↦ there
  ]

  pub endless_there : (entry : ℕ) → entry < length nodes → value_of tables.means nodes entry ≡ None → value_of tables.means all (number entry) ≡ None
  endless_there entry within e = part_is_endless_lem tables.means number nodes all over.complete.laid.part entry within e

  -- ---- Circles

  abbrev the_rules : List (Rule ℕ Outcome)
  the_rules = rules tables.means nodes

  rule_there : (s : ℕ) (o : Option (Rule ℕ Outcome)) → and_then (λ r. awaited (reading (answer the_rules) r)) o ≡ Some s → (r : Rule ℕ Outcome) × (o ≡ Some r)
  rule_there s None e = cc
  rule_there s (Some r) e = (r, refl)

  node_there : (x s : ℕ) → next_awaited the_rules x ≡ Some s → (e : Expression M F Z) × (slice_get nodes x ≡ Some e)
  node_there x s e =
      let here = rule_there s (slice_get the_rules x) e in
      let found = mapped_at tables.means number nodes all over.complete.laid.part (rule tables.means nodes) nodes x here.0 (slice_get nodes x) refl (sym (slice_get-map (rule tables.means nodes) nodes x) ∙ here.1) in
      (found.0, found.1)

  following : (x s : ℕ) → next_awaited the_rules x ≡ Some s → is_named (slice_get nodes x) ≡ false → is_named (slice_get nodes s) ≡ false → s < x
  following x s e unnamed plain =
      let here = node_there x s e in
      let operands = over.complete.laid.following x here.0 here.1 (sym (ap is_named here.1) ∙ unnamed) in
      let awaits = sym (ap (and_then (λ r. awaited (reading (answer the_rules) r))) (slice_get-map (rule tables.means nodes) nodes x ∙ ap (option_map (rule tables.means nodes)) here.1)) ∙ e in
      elim (awaits_fine nodes x (answer the_rules) (rule tables.means nodes here.0) (fine_rule_of nodes x tables.means here.0 (sym (ap is_named here.1) ∙ unnamed) operands) s awaits) [
        | inl less ↦ less
        | inr named ↦ not_true (sym plain ∙ named)
      ]

  ordered : AreOrdered tables.means number nodes
  ordered = record {
    once = λ x y s t awaits awaits' named same. over.complete.laid.once x y named (slice_get_within nodes y (node_there y t awaits').0 (node_there y t awaits').1) same;
    falls = following;
  }

  pub circle_there : (entry : ℕ) (names : List (List ℕ)) → RunsInto tables.means nodes entry names → RunsInto tables.means all (number entry) names
  circle_there entry names into =
      let separate = circles_are_distinct tables.means number nodes all over.complete.laid.part ordered entry into.0 into.1 in
      let there = circles_stay tables.means number nodes all over.complete.laid.part entry into.0 separate into.1 in
      (map number into.0, there.0, subst (λ (ns : List (List ℕ)). IsLeastRound ns names) (sym there.1) into.2)

  -- ---- Results

  pub ok_shows : (entry : ℕ) (value : Option Value) → IsGot tables.means nodes entry (Ok value) → given_at tables source (number entry) ≡ Ok value
  ok_shows entry (Some value) is = ap (given_by tables source (number entry)) (answered_there entry (outcomes.Given value) is)
  ok_shows entry None is = ap (given_by tables source (number entry)) (answered_there entry outcomes.Absent is)

  pub err_shows : (entry : ℕ) → entry < length nodes → (fault : ProviderFault) (known : Fault) → IsFaultOf tables.means nodes entry fault → IsReportedOf tables names why fault known
      → Reports tables source (given_at tables source (number entry)) (Err known)
  err_shows entry within (providers.Circular texts) known is same =
      inr (
        Endless (number entry),
        ap (given_by tables source (number entry)) (endless_there entry within is.0),
        subst (IsReported tables source (Endless (number entry))) (sym same) ∣ circle_there entry texts is.1 ∣₁,
      )
  err_shows entry within (providers.Step fault) known is same = absurd is
  err_shows entry within providers.NoValue known is same = absurd is
  err_shows entry within (providers.Value fault) known is same = elim (same source over.known) [
    | inl out ↦ inl out
    | inr e ↦ inr (Plain (reported tables source fault), ap (given_by tables source (number entry)) (answered_there entry (outcomes.Refused fault) is), e)
  ]
  err_shows entry within providers.OutOfMemory known is same = inl same

  -- ---- Tasks

  pub tasks_there : (entry : ℕ) → HasValue tables.means nodes entry → (tasks : List (List ℕ)) → produced_by tables.means nodes entry ≡ Some (produced.Tasks tasks) → tasks ≡ producers_at tables source (number entry)
  tasks_there entry value tasks e = sym (ap tasks_from (part_produces tables.means number nodes all over.complete.laid.part entry tasks e))

-- what has a value fails to give its tasks only when memory runs out
pub only_memory : {M F Z S : Type 0} (means : Meanings M F Z S) (nodes : List (Expression M F Z)) (entry : ℕ) → HasValue means nodes entry → (fault : ProviderFault) → AreProducers means nodes entry (Err fault) → fault ≡ providers.OutOfMemory
only_memory means nodes entry value fault are =
    let has = given_has_tasks means nodes entry value.0 value.1 in of has fault are
  where
    of : (tasks : List (List ℕ)) × (produced_by means nodes entry ≡ Some (produced.Tasks tasks)) → (fault : ProviderFault) → AreProducers means nodes entry (Err fault) → fault ≡ providers.OutOfMemory
    of has (providers.Circular names) (inl never) = let both : ◌≡◌ {A = Option (Produced ℕ)} None (Some (produced.Tasks has.0)) = sym never.0 ∙ has.1 in absurd (let no_way : ⊥ = cc in no_way)
    of has (providers.Circular names) (inr (chooser, is, rest)) = let both : ◌≡◌ {A = Option (Produced ℕ)} (Some (produced.Endless chooser)) (Some (produced.Tasks has.0)) = sym is ∙ has.1 in absurd (let no_way : ⊥ = cc in no_way)
    of has (providers.Step fault) are = absurd are
    of has providers.NoValue are = absurd are
    of has (providers.Value fault) are = let both : ◌≡◌ {A = Option (Produced ℕ)} (Some (produced.Refused fault)) (Some (produced.Tasks has.0)) = sym are ∙ has.1 in absurd (let no_way : ⊥ = cc in no_way)
    of has providers.OutOfMemory are = refl

pub of_get : {M F Z S : Type 0} (means : Meanings M F Z S) (nodes : List (Expression M F Z)) (entry : ℕ) (fault : ProviderFault) → IsFaultOf means nodes entry fault → IsOfGet fault
of_get means nodes entry (providers.Circular texts) is = tt
of_get means nodes entry (providers.Step fault) is = is
of_get means nodes entry providers.NoValue is = is
of_get means nodes entry (providers.Value fault) is = tt
of_get means nodes entry providers.OutOfMemory is = tt
