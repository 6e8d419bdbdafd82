-- The fault of a declaration is that of a clause.
use Rattle.std.proofs.Common.{◌≡◌, ◌⊎◌, ◌++◌, ◌∷◌, Bool, true, false, List, [], Some, inl, inr, refl, subst, sym}
use Rattle.std.specs.Prelude.{if◌then◌else◌}
use Rattle.std.specs.List.{flat_map, list_any}
use Rattle.gb_declare.specs.Declaring.{clash, clash_faults, clause_faults, clauses_faults, heading, is_misshapen, main_faults, shape_faults}
use Rattle.gb_declare.specs.Joined.{joined}
use Rattle.gb_plan.specs.Task.{Path}
use Rattle.gb_registry.specs.Faults.{first_of}
use Rattle.gb_registry.specs.Tables.{Tables}
use Rattle.gb_registry.specs.Wrong.{Scope}
use Rattle.gb_report.specs.declared.fault.Fault.{Fault}
use Rattle.gb_report.specs.declared.fault.Fault.TheVariants as faults
use Rattle.gb_script.specs.declared.script.Clause.{Clause}
use Rattle.gb_check.specs.OfClauses.{FaultsAreOfClauses}

-- ---- The first of two rows

first_in : (xs ys : List Fault) (fault : Fault) → first_of (xs ++ ys) ≡ Some fault → (first_of xs ≡ Some fault) ⊎ ((xs ≡ []) × (first_of ys ≡ Some fault))
first_in [] ys fault is = inr (refl, is)
first_in (x ∷ xs) ys fault is = inl is

first_before : (xs ys : List Fault) (fault : Fault) → first_of xs ≡ Some fault → first_of (xs ++ ys) ≡ Some fault
first_before [] ys fault is = absurd (cc)
first_before (x ∷ xs) ys fault is = is

first_after : (xs ys : List Fault) (fault : Fault) → xs ≡ [] → first_of ys ≡ Some fault → first_of (xs ++ ys) ≡ Some fault
first_after xs ys fault none is = subst (λ (zs : List Fault). first_of (zs ++ ys) ≡ Some fault) (sym none) is

right_empty : (xs ys : List Fault) → xs ++ ys ≡ [] → ys ≡ []
right_empty [] ys none = none
right_empty (x ∷ xs) ys none = absurd (cc)

-- ---- A fault of the whole

only : (path : Path) (b : Bool) (fault : Fault) → first_of (if b then faults.BadShape path ∷ [] else []) ≡ Some fault → fault ≡ faults.BadShape path
only path true fault is = cc
only path false fault is = absurd (cc)

module _ {M F Z S A : Type 0} (tables : Tables M F Z S A) (scope : Scope) (path : Path) (fault : Fault) where
  of_clauses : (before clauses : List Clause) → first_of (clauses_faults tables scope path before clauses) ≡ Some fault
      → (fault ≡ faults.BadShape path) ⊎ (first_of (flat_map (clause_faults tables scope) clauses) ≡ Some fault)
  of_clauses before [] is = absurd (cc)
  of_clauses before (clause ∷ clauses) is =
      let here : List Fault = clash_faults path before clause in
      let own : List Fault = clause_faults tables scope clause in
      let rest : List Fault = clauses_faults tables scope path (before ++ clause ∷ []) clauses in
      let more : List Fault = flat_map (clause_faults tables scope) clauses in
      elim (first_in (here ++ own) rest fault is) [
        | inl first ↦ elim (first_in here own fault first) [
          | inl clashes ↦ inl (only path (list_any (λ earlier. clash (heading earlier) (heading clause)) before) fault clashes)
          | inr (none, by_itself) ↦ inr (first_before own more fault by_itself)
        ]
        | inr (none, later) ↦ elim (of_clauses (before ++ clause ∷ []) clauses later) [
          | inl shape ↦ inl shape
          | inr by_itself ↦ inr (first_after own more fault (right_empty here own none) by_itself)
        ]
      ]

pub faults_of_clauses : {M F Z S A : Type 0} (tables : Tables M F Z S A) → FaultsAreOfClauses tables
faults_of_clauses tables scope task fault is =
    let main : List Fault = main_faults tables scope task.action in
    let clauses : List Fault = clauses_faults tables scope task.path [] task.clauses in
    let shape : List Fault = shape_faults tables task.path (joined task) in
    let own : List Fault = flat_map (clause_faults tables scope) task.clauses in
    elim (first_in (main ++ clauses) shape fault is) [
      | inl here ↦ elim (first_in main clauses fault here) [
        | inl first ↦ inr (first_before main own fault first)
        | inr (none, later) ↦ elim (of_clauses tables scope task.path fault [] task.clauses later) [
          | inl is_shape ↦ inl is_shape
          | inr by_itself ↦ inr (first_after main own fault none by_itself)
        ]
      ]
      | inr (none, last) ↦ inl (only task.path (is_misshapen tables (joined task)) fault last)
    ]
