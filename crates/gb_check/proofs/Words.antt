-- The faults of words one after another.
use Rattle.std.proofs.Common.{◌≡◌, ◌≢◌, ◌⊎◌, ◌++◌, ◌∙◌, Bool, true, false, not, cond, List, [], ◌∷◌, Some, Result, Ok, Err, refl, ap, inl, inr, subst, sym}
use Rattle.std.specs.Prelude.{Contains, OnOk, find, map, option_map}
use Rattle.std.proofs.lemmas.List.Elements.{Contains-append_left, Contains-append_right, Contains-push}
use Rattle.gb_core.specs.Lists.{first_of}
use Rattle.gb_core.specs.Path.{is_task_path}
use Rattle.gb_folder.specs.Files.{is_empty}
use Rattle.gb_plan.specs.Graph.{Registry, absolute, selected_by}
use Rattle.gb_plan.specs.Refusal.{lacks_project, word_faults}
use Rattle.gb_plan.specs.Task.{Text}
use Rattle.gb_report.specs.declared.fault.Fault.{Fault}
use Rattle.gb_report.specs.declared.fault.Fault.TheVariants as faults

-- a word has at most one fault
pub one_fault : (registry : Registry) (word : Text) (fault : Fault) → first_of (word_faults registry word) ≡ Some fault → word_faults registry word ≡ fault ∷ []
one_fault registry word fault = by (not (is_task_path (absolute word))) (lacks_project registry word) (is_empty (selected_by registry word))
  where
    by : (bad lacking empty : Bool)
        → first_of (cond bad (faults.BadName word ∷ []) (cond lacking (faults.UnknownProject word ∷ []) (cond empty (faults.TaskNotFound word ∷ []) []))) ≡ Some fault
        → cond bad (faults.BadName word ∷ []) (cond lacking (faults.UnknownProject word ∷ []) (cond empty (faults.TaskNotFound word ∷ []) [])) ≡ fault ∷ []
    by true lacking empty first = let same : faults.BadName word ≡ fault = cc in ap (λ f. f ∷ []) same
    by false true empty first = let same : faults.UnknownProject word ≡ fault = cc in ap (λ f. f ∷ []) same
    by false false true first = let same : faults.TaskNotFound word ≡ fault = cc in ap (λ f. f ∷ []) same
    by false false false first = absurd (cc)

-- the first of a row that passes, and what is made of it
pub found_of_each : {X Y : Type 0} (made : X → Y) (test : Y → Bool) (xs : List X) → find test (map made xs) ≡ option_map made (find (λ x. test (made x)) xs)
found_of_each made test [] = refl
found_of_each made test (x ∷ xs) =
    elim (test (made x)) as (λ b. cond b (Some (made x)) (find test (map made xs)) ≡ option_map made (cond b (Some x) (find (λ y. test (made y)) xs))) [
      | true ↦ refl
      | false ↦ found_of_each made test xs
    ]

-- it is one of them
pub found_among : {X : Type 0} (test : X → Bool) (xs : List X) (x : X) → find test xs ≡ Some x → Contains xs x
found_among test [] x e = absurd (cc)
found_among {X} test (y ∷ xs) x e =
    elim (test y) as (λ b. test y ≡ b → cond b (Some y) (find test xs) ≡ Some x → Contains (y ∷ xs) x) [
      | true ↦ λ _ here. let same : y ≡ x = cc in Contains-append_left (y ∷ []) xs x (Contains-push_same same)
      | false ↦ λ _ later. Contains-append_right (y ∷ []) xs x (found_among test xs x later)
    ] refl e
  where
    Contains-push_same : y ≡ x → Contains (y ∷ []) x
    Contains-push_same same = subst (Contains (y ∷ [])) same (Contains-push [] y)

-- ---- What is added

-- the fault of a word, if it is not lack of memory
pub word_added : {T : Type 0} (result : Result T Fault) (registry : Registry) (word : Text) (fault : Fault) (old new : List Fault)
    → (fault ≡ faults.OutOfMemory) ⊎ (first_of (word_faults registry word) ≡ Some fault) → OnOk result (fault ≢ faults.OutOfMemory)
    → OnOk result (new ≡ old ++ fault ∷ []) → OnOk result (new ≡ old ++ word_faults registry word)
word_added (Err other) registry word fault old new which known added = tt
word_added (Ok done) registry word fault old new (inl memory) known added = absurd (known memory)
word_added (Ok done) registry word fault old new (inr first) known added = added ∙ ap (λ (reported : List Fault). old ++ reported) (sym (one_fault registry word fault first))
