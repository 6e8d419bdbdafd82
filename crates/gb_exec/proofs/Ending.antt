-- How executions ended by number, one execution more.
use Rattle.std.specs.Prelude.{ℕ, ◌≡◌, ◌<◌, ◌≤◌, ◌+◌, ◌⊎◌, List, [], ◌∷◌, ◌++◌, length, slice_get, slice_set, Some}
use Rattle.std.proofs.Common.{zero, suc, refl, sym, ap, subst, ◌∙◌, inl, inr, arith, length-append}
use Rattle.std.proofs.lemmas.Bool.{cases_eq}
use Rattle.std.proofs.lemmas.List.{get_or-set_same, get_or-set_other}
use Rattle.gb_semantics.proofs.Common.{none_some, some_same}
use Rattle.gb_plan.specs.Task.{Path}
use Rattle.gb_plan.specs.declared.plan.Planned.{Planned}
use Rattle.gb_report.specs.declared.report.Outcome.{Outcome}
use Rattle.gb_exec.specs.Plans.{AreEndings, path_at}
use Rattle.gb_exec.specs.Starts.{ending_in, ending_of}
use Rattle.gb_exec.specs.declared.may_start.Ending.{Ending}
use Rattle.gb_exec.specs.declared.may_start.Ending.TheVariants.{ToCome}

got_more : {X : Type 0} (xs : List X) (x : X) (k : ℕ) (e : X) → slice_get (xs ++ x ∷ []) k ≡ Some e → (slice_get xs k ≡ Some e) ⊎ ((k ≡ length xs) × (e ≡ x))
got_more [] x zero e is = inr (refl, sym (some_same is))
got_more [] x (suc k) e is = none_some is
got_more (y ∷ xs) x zero e is = inl is
got_more (y ∷ xs) x (suc k) e is = elim (got_more xs x k e is) [ inl here ↦ inl here | inr last ↦ inr (omega (arith, last.0), last.1) ]

pub endings_more : (plan : List Planned) (outcomes : List (Path × Outcome)) (endings : List Ending) (path : Path) (outcome : Outcome) (index : ℕ) → length outcomes ≡ index → index < length plan
    → length endings ≡ length plan → path ≡ path_at plan index → AreEndings plan outcomes endings
    → AreEndings plan (outcomes ++ (path, outcome) ∷ []) (slice_set endings index (ending_of outcome))
endings_more plan outcomes endings path outcome index long less each is before = record {
  ended = λ number entry got. elim (got_more outcomes (path, outcome) number entry got) [
    | inl here ↦
        let was = before.ended number entry here in (
          was.0,
          was.1,
          elim (cases_eq number index) [
            | inl e ↦ absurd (beyond number entry here (omega (arith, e, long)))
            | inr n ↦ get_or-set_other endings index number (ending_of outcome) ToCome n ∙ was.2
          ],
        )
    | inr last ↦
        let at : number ≡ index = last.0 ∙ long in (
          subst (λ (n : ℕ). n < length plan) (sym at) less,
          ap (λ (e : Path × Outcome). e.0) last.1 ∙ is ∙ ap (path_at plan) (sym at),
          subst (λ (n : ℕ). ending_in (slice_set endings index (ending_of outcome)) n ≡ ending_of entry.1) (sym at)
              (get_or-set_same endings index (ending_of outcome) ToCome (omega (arith, each, less)) ∙ ap (λ (e : Path × Outcome). ending_of e.1) (sym last.1)),
        )
  ];
  to_come = λ number past.
      let last : List (Path × Outcome) = (path, outcome) ∷ [] in
      let longer : length (outcomes ++ last) ≡ length outcomes + length last = length-append outcomes last in
      get_or-set_other endings index number (ending_of outcome) ToCome (λ e. absurd (omega (arith, e, longer, long, past)))
      ∙ before.to_come number (omega (arith, longer, past));
}
  where
    beyond : (number : ℕ) (entry : Path × Outcome) → slice_get outcomes number ≡ Some entry → length outcomes ≤ number → ⊥
    beyond number entry got past = by outcomes number got past
      where
        by : (xs : List (Path × Outcome)) (k : ℕ) → slice_get xs k ≡ Some entry → length xs ≤ k → ⊥
        by [] k got past = none_some got
        by (x ∷ xs) zero got past = absurd (omega (arith, past))
        by (x ∷ xs) (suc k) got past = by xs k got (omega (arith, past))

pub none_ended : (plan : List Planned) (endings : List Ending) → ((number : ℕ) → ending_in endings number ≡ ToCome) → AreEndings plan [] endings
none_ended plan endings come = record {
  ended = λ number entry got. none_some got;
  to_come = λ number past. come number;
}
