-- All reasons: each is true, and there is none exactly if a task is up to date.
use Rattle.std.proofs.Common.{◌≡◌, ◌==◌, ℕ, Bool, true, false, true≢false, not, cond, inl, inr, List, [], ◌∷◌, ◌++◌, length, Option, Some, None, refl, sym, ap, ap₂, subst, ◌∙◌}
use Rattle.std.proofs.lemmas.List.Elements.{Contains-append_cases}
use Rattle.std.specs.Cmp.{unsigned_Decides}
use Rattle.std.specs.Cmp.Lexicographic.{pointwise}
use Rattle.std.specs.List.{AllByRecursion, Contains}
use Rattle.std.specs.Prelude.{◌↔◌}
use Rattle.gb_action.proofs.Reported.{reported-is_change}
use Rattle.gb_action.specs.Changes.{changes_between}
use Rattle.gb_folder.specs.Files.{is_empty}
use Rattle.gb_history.specs.Decision.{DecidesFrom, IsUpToDate}
use Rattle.gb_history.specs.Record.{Record, prints_in}
use Rattle.gb_history.specs.declared.decide.Decision.{Decision}
use Rattle.gb_history.specs.declared.decide.Decision.TheVariants as decisions
use Rattle.gb_history.specs.declared.decide.Present.{Present}
use Rattle.gb_history.specs.declared.record.OutputRecord.{OutputRecord}
use Rattle.gb_reason.specs.Real.{EachIsReal, HasPathsInOrder, IsReal, IsRealFrom, NoneIsUpToDate, declared}
use Rattle.gb_plan.specs.declared.task.Action.{Action}
use Rattle.gb_reason.specs.Reasons.{differences, first_other, has_kind, has_name, is_output, kind_by, kind_reason, of_action, of_arguments, of_files, of_output, of_value, part, reasons_from}
use Rattle.gb_reason.specs.Same.{is_value}
use Rattle.gb_reason.specs.declared.reason.Reason.{Reason}
use Rattle.gb_reason.specs.declared.reason.Reason.TheVariants as reasons
use Rattle.gb_reason.proofs.Elements.{HasOrder, files_none, files_same, name_alike, name_back, name_own, output_alike, output_back, output_none, output_own, output_same, value_none, value_other, value_same}
use Rattle.gb_reason.proofs.Actions.{action_none, action_same, argument_is, argument_of, argument_was, first_is, kind_back, kind_own, kinds_alike}
use Rattle.gb_reason.proofs.Lists.{Reported, alike_pairs, both_none, contains_none, contains_one, from_map}
use Rattle.gb_reason.proofs.Parts.{part_none, part_same, part_reported}

-- ---- None

always : {X : Type 0} (xs : List X) → AllByRecursion (λ _. Unit {0}) xs
always [] = tt
always (x ∷ xs) = (tt, always xs)

orders : (outputs : List OutputRecord) → AllByRecursion HasOrder (prints_in outputs) → AllByRecursion (λ (output : OutputRecord). HasOrder output.prints) outputs
orders [] all = tt
orders (output ∷ outputs) all = (all.0, orders outputs all.1)

abbrev of_actions : Record → Record → List Reason
of_actions old new = part has_kind of_action (kind_reason old.actions new.actions) old.actions new.actions

abbrev of_values : Record → Record → List Reason
of_values old new = part has_name of_value reasons.ValueNames old.values new.values

abbrev of_outputs : Record → Record → List Reason
of_outputs old new = part is_output of_output reasons.OutputNames old.outputs new.outputs

abbrev of_inputs : Record → Record → List Reason
of_inputs old new = part has_name of_files reasons.FileNames old.inputs new.inputs

module _ (old new : Record) where
  -- runs without a reported difference are the same
  pub no_difference : HasPathsInOrder old → HasPathsInOrder new → differences old new ≡ [] → old ≡ new
  no_difference p q none =
      let prefix = both_none ((of_actions old new ++ of_values old new) ++ of_outputs old new) (of_inputs old new) none in
      let middle = both_none (of_actions old new ++ of_values old new) (of_outputs old new) prefix.0 in
      let first = both_none (of_actions old new) (of_values old new) middle.0 in
      let actions : old.actions ≡ new.actions =
      part_same has_kind of_action (kind_reason old.actions new.actions) (λ _. Unit {0}) (λ x y _ _ e n. action_same x y e n) old.actions new.actions
      (always old.actions) (always new.actions) first.0 in
      let values : old.values ≡ new.values =
      part_same has_name of_value reasons.ValueNames (λ _. Unit {0}) (λ x y _ _ e n. value_same x y e n) old.values new.values
      (always old.values) (always new.values) first.1 in
      let outputs : old.outputs ≡ new.outputs =
      part_same is_output of_output reasons.OutputNames (λ output. HasOrder output.prints) output_same old.outputs new.outputs
      (orders old.outputs p.outputs) (orders new.outputs q.outputs) middle.1 in
      let inputs : old.inputs ≡ new.inputs =
      part_same has_name of_files reasons.FileNames HasOrder files_same old.inputs new.inputs p.inputs q.inputs prefix.1 in
      λ i. record { actions = actions i; values = values i; inputs = inputs i; outputs = outputs i }

pub none_differs : (run : Record) → differences run run ≡ []
none_differs run =
    ap₂ (λ (a b : List Reason). a ++ b)
    (ap₂ (λ (a b : List Reason). a ++ b)
    (ap₂ (λ (a b : List Reason). a ++ b) (part_none has_kind of_action (kind_reason run.actions run.actions) kind_own action_none run.actions)
    (part_none has_name of_value reasons.ValueNames name_own value_none run.values))
    (part_none is_output of_output reasons.OutputNames output_own output_none run.outputs))
    (part_none has_name of_files reasons.FileNames name_own files_none run.inputs)

module _ (run : Record) (present : Present) where
  abbrev Parted : Bool → Bool → Bool → List Reason
  Parted rerun stale bare =
      cond rerun (reasons.Rerun ∷ [])
      (cond stale (reasons.Stale ∷ []) (cond bare (reasons.NoOutputs ∷ []) (differences run present.now)))

  none_if : (p : HasPathsInOrder run) (q : HasPathsInOrder present.now) (a b c : Bool) → present.rerun ≡ a → present.is_stale ≡ b → is_empty present.now.outputs ≡ c
      → Parted a b c ≡ [] → IsUpToDate run present
  none_if p q true b c rerun stale bare e = absurd (cc)
  none_if p q false true c rerun stale bare e = absurd (cc)
  none_if p q false false true rerun stale bare e = absurd (cc)
  none_if p q false false false rerun stale bare e =
      record { no_rerun = rerun; not_stale = stale; has_outputs = bare; same = no_difference run present.now p q e }

  pub none_is : HasPathsInOrder run → HasPathsInOrder present.now → reasons_from run present ≡ [] → IsUpToDate run present
  none_is p q e = none_if p q present.rerun present.is_stale (is_empty present.now.outputs) refl refl refl e

  pub is_none : IsUpToDate run present → reasons_from run present ≡ []
  is_none is =
      ap (λ b. Parted b present.is_stale (is_empty present.now.outputs)) is.no_rerun
      ∙ ap (λ b. Parted false b (is_empty present.now.outputs)) is.not_stale
      ∙ ap (λ b. Parted false false b) is.has_outputs
      ∙ subst (λ now. differences run now ≡ []) is.same (none_differs run)

pub none_is_up_to_date : NoneIsUpToDate
none_is_up_to_date None present decision p q decides = (λ e. absurd (cc), λ is. absurd (other_case decision decides is))
  where
    other_case : (decided : Decision) → decided ≡ decisions.Full → decided ≡ decisions.UpToDate → ⊥
    other_case decided is up = cc
none_is_up_to_date (Some run) present decision p q decides = by decision decides
  where
    by : (decision : Decision) → DecidesFrom run present decision → (reasons_from run present ≡ []) ↔ (decision ≡ decisions.UpToDate)
    by decisions.UpToDate is = (λ _. refl, λ _. is_none run present is)
    by (decisions.Incremental changes) other = (λ e. absurd (other.0 (none_is run present (p run refl) q e)), λ e. absurd (cc))
    by decisions.Full other = (λ e. absurd (other.0 (none_is run present (p run refl) q e)), λ e. absurd (cc))

-- ---- Each is real

module _ (run : Record) (present : Present) where
  abbrev Real : Reason → Type 0
  Real = IsRealFrom run present

  real_action : (reason : Reason) → Contains (of_actions run present.now) reason → Real reason
  real_action reason h = elim (part_reported has_kind of_action (kind_reason old new) old new reason h) [
    | inl other ↦ subst Real other.0 (by_kind (first_other old new) (first_other new old) refl refl other.1)
    | inr reported ↦ pair reported (reported.old.version == reported.new.version) (length reported.old.args == length reported.new.args) refl refl reported.reported
  ]
    where
      old : List Action
      old = run.actions

      new : List Action
      new = present.now.actions

      by_kind : (one gone : Option (List ℕ)) → first_other old new ≡ one → first_other new old ≡ gone → pointwise has_kind old new ≡ false
          → Real (kind_by one gone)
      by_kind (Some kind) left e f others = first_is old new kind e
      by_kind None (Some kind) e f others = first_is new old kind f
      by_kind None None e f others = λ same. true≢false (sym (kinds_alike old new same) ∙ others)

      pair : (reported : Reported has_kind of_action old new reason) (version long : Bool) → (reported.old.version == reported.new.version) ≡ version
          → (length reported.old.args == length reported.new.args) ≡ long
          → Contains (cond (not version) (reasons.ActionVersion reported.old.kind ∷ [])
          (cond (not long) (reasons.ArgumentCount reported.old.kind ∷ []) (of_arguments reported.old.kind 1 reported.old.args reported.new.args))) reason → Real reason
      pair reported false long one two c =
          subst Real (contains_one (reasons.ActionVersion reported.old.kind) reason c) (
            reported.old,
            reported.new,
            (reported.in_old, reported.in_new, refl, sym (kind_back reported.old reported.new reported.declared)),
            λ same. true≢false (sym ((unsigned_Decides reported.old.version reported.new.version).1 same) ∙ one),
          )
      pair reported true false one two c =
          subst Real (contains_one (reasons.ArgumentCount reported.old.kind) reason c) (
            reported.old,
            reported.new,
            (reported.in_old, reported.in_new, refl, sym (kind_back reported.old reported.new reported.declared)),
            λ same. true≢false (sym ((unsigned_Decides (length reported.old.args) (length reported.new.args)).1 same) ∙ two),
          )
      pair reported true true one two c =
          let found = argument_of reported.old.kind 1 reported.old.args reported.new.args reason c in
          subst Real found.says (
            reported.old,
            reported.new,
            (reported.in_old, reported.in_new, refl, sym (kind_back reported.old reported.new reported.declared)),
            argument_was reported.old.kind reported.old.args reported.new.args reason found,
            argument_is reported.old.kind reported.old.args reported.new.args reason found,
            found.other,
          )

  real_value : (reason : Reason) → Contains (of_values run present.now) reason → Real reason
  real_value reason h = elim (part_reported has_name of_value reasons.ValueNames run.values present.now.values reason h) [
    | inl other ↦
        subst Real other.0
        (λ same. true≢false (sym (alike_pairs has_name (λ entry. entry.0) name_alike run.values present.now.values same) ∙ other.1))
    | inr reported ↦ pair reported (is_value reported.old.1 reported.new.1) refl reported.reported
  ]
    where
      pair : (reported : Reported has_name of_value run.values present.now.values reason) (b : Bool) → is_value reported.old.1 reported.new.1 ≡ b
          → Contains (cond b [] (reasons.Value reported.old.0 reported.old.1 reported.new.1 ∷ [])) reason → Real reason
      pair reported true e c = absurd (contains_none reason c)
      pair reported false e c =
          let same : reported.old.0 ≡ reported.new.0 = name_back reported.old reported.new reported.declared in
          let exists : Contains present.now.values (reported.old.0, reported.new.1) =
          subst (λ (name : List ℕ). Contains present.now.values (name, reported.new.1)) (sym same) reported.in_new in
          subst Real (contains_one (reasons.Value reported.old.0 reported.old.1 reported.new.1) reason c)
          (reported.in_old, exists, value_other reported.old.1 reported.new.1 e)

  real_output : (reason : Reason) → Contains (of_outputs run present.now) reason → Real reason
  real_output reason h = elim (part_reported is_output of_output reasons.OutputNames run.outputs present.now.outputs reason h) [
    | inl other ↦
        subst Real other.0
        (λ same. true≢false (sym (alike_pairs is_output declared output_alike run.outputs present.now.outputs same) ∙ other.1))
    | inr reported ↦
        let m = from_map (reasons.Output reported.old.place) (changes_between reported.old.prints.1 reported.new.prints.1) reason reported.reported in
        let one = output_back reported.old reported.new reported.declared in
        subst Real m.is
        (reported.old, reported.new, reported.in_old, reported.in_new, refl, sym one.place, reported-is_change reported.old.prints.1 reported.new.prints.1 m.from m.in_list)
  ]

  real_input : (reason : Reason) → Contains (of_inputs run present.now) reason → Real reason
  real_input reason h = elim (part_reported has_name of_files reasons.FileNames run.inputs present.now.inputs reason h) [
    | inl other ↦
        subst Real other.0
        (λ same. true≢false (sym (alike_pairs has_name (λ entry. entry.0) name_alike run.inputs present.now.inputs same) ∙ other.1))
    | inr reported ↦
        let m = from_map (reasons.File reported.old.0) (changes_between reported.old.1 reported.new.1) reason reported.reported in
        let same : reported.old.0 ≡ reported.new.0 = name_back reported.old reported.new reported.declared in
        let exists : Contains present.now.inputs (reported.old.0, reported.new.1) =
        subst (λ (name : List ℕ). Contains present.now.inputs (name, reported.new.1)) (sym same) reported.in_new in
        subst Real m.is (reported.old.1, reported.new.1, reported.in_old, exists, reported-is_change reported.old.1 reported.new.1 m.from m.in_list)
  ]

  real_difference : (reason : Reason) → Contains (differences run present.now) reason → Real reason
  real_difference reason h =
      elim (Contains-append_cases ((of_actions run present.now ++ of_values run present.now) ++ of_outputs run present.now) (of_inputs run present.now) reason h) [
        | inr input ↦ real_input reason input
        | inl prefix ↦ elim (Contains-append_cases (of_actions run present.now ++ of_values run present.now) (of_outputs run present.now) reason prefix) [
          | inr output ↦ real_output reason output
          | inl first ↦ elim (Contains-append_cases (of_actions run present.now) (of_values run present.now) reason first) [
            | inl action ↦ real_action reason action
            | inr value ↦ real_value reason value
          ]
        ]
      ]

  real_if : (reason : Reason) (a b c : Bool) → present.rerun ≡ a → present.is_stale ≡ b → is_empty present.now.outputs ≡ c
      → Contains (Parted run present a b c) reason → Real reason
  real_if reason true b c rerun stale bare h = subst Real (contains_one reasons.Rerun reason h) rerun
  real_if reason false true c rerun stale bare h = subst Real (contains_one reasons.Stale reason h) stale
  real_if reason false false true rerun stale bare h = subst Real (contains_one reasons.NoOutputs reason h) (none present.now.outputs bare)
    where
      none : (outputs : List OutputRecord) → is_empty outputs ≡ true → outputs ≡ []
      none [] e = refl
      none (output ∷ outputs) e = absurd (true≢false (sym e))
  real_if reason false false false rerun stale bare h = real_difference reason h

pub each_is_real : EachIsReal
each_is_real None present reason h = by (is_empty present.now.outputs) refl h
  where
    none : (outputs : List OutputRecord) → is_empty outputs ≡ true → outputs ≡ []
    none [] e = refl
    none (output ∷ outputs) e = absurd (true≢false (sym e))

    by : (b : Bool) → is_empty present.now.outputs ≡ b → Contains (cond b reasons.NoOutputs reasons.NoRecord ∷ []) reason → IsReal None present reason
    by true e c = subst (IsReal None present) (contains_one reasons.NoOutputs reason c) (none present.now.outputs e)
    by false e c =
        subst (IsReal None present) (contains_one reasons.NoRecord reason c) (λ same. true≢false (sym (ap is_empty same) ∙ e))
each_is_real (Some run) present reason h =
    real_if run present reason present.rerun present.is_stale (is_empty present.now.outputs) refl refl refl h
