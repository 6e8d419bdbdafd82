-- Clauses are checked one after another.
use Rattle.std.proofs.Common.{◌≡◌, ℕ, ◌+◌, ◌<◌, Bool, true, false, List, [], ◌∷◌, ◌++◌, length, get_or, drop, take, map, Some, if◌then◌else◌, add-one, refl, sym, ap, ◌∙◌, ◌||◌}
use Rattle.std.proofs.lemmas.List.{map-append}
use Rattle.std.proofs.Math.Seq.{take-suc}
use Rattle.std.specs.Borrow.{Bor}
use Rattle.std.specs.List.{list_any}
use Rattle.gb_report.specs.declared.fault.Fault.{Fault}
use Rattle.gb_report.specs.declared.fault.Fault.TheVariants as faults
use Rattle.gb_script.specs.declared.script.Clause.{Clause}
use Rattle.gb_registry.specs.Faults.{first_of, IsFirstFault}
use Rattle.gb_registry.specs.Projects.{Path}
use Rattle.gb_registry.specs.Tables.{Tables}
use Rattle.gb_registry.specs.Wrong.{Scope}
use Rattle.gb_declare.specs.Borrowed.{now_of}
use Rattle.gb_declare.specs.Declaring.{clash, clash_faults, clause_faults, clauses_faults, heading}
use Rattle.gb_declare.specs.Headings.{Heading, clashes, noted}
use Rattle.gb_declare.proofs.FirstLemmas.{first_more}
use Rattle.gb_declare.proofs.HeadingLemmas.{Agrees, agrees_more, any_clash}
use Rattle.gb_declare.proofs.JoinLemmas.{left_at}

any_mapped : {X Y : Type 0} (f : X → Y) (p : Y → Bool) (xs : List X) → list_any (λ x. p (f x)) xs ≡ list_any p (map f xs)
any_mapped f p [] = refl
any_mapped f p (x ∷ xs) = ap (λ b. p (f x) || b) (any_mapped f p xs)

module _ {M F Z S A : Type 0} (tables : Tables M F Z S A) (scope : Scope) (path : Path) (clauses : List (Bor Clause)) (i : ℕ) (clause : Bor Clause) (within : i < length clauses) (is : clause ≡ get_or clauses i clause) (words : List Heading) (all : List Fault)
    (clear : all ≡ clauses_faults tables scope path (now_of (take i clauses)) (now_of (drop i clauses))) (agrees : Agrees words (map heading (now_of (take i clauses)))) where
  before : List Clause
  before = now_of (take i clauses)

  grown : now_of (take (i + 1) clauses) ≡ now_of (take i clauses) ++ clause.now ∷ []
  grown = rw add-one (ap now_of (take-suc clauses i clause within ∙ ap (λ c. take i clauses ++ c ∷ []) (sym is)) ∙ map-append (λ (b : Bor Clause). b.now) (take i clauses) (clause ∷ []))

  clash_is : clash_faults path (now_of (take i clauses)) clause.now ≡ (if clashes words (heading clause.now) then faults.BadShape path ∷ [] else [])
  clash_is = ap (λ b. if b then faults.BadShape path ∷ [] else []) (any_mapped heading (λ e. clash e (heading clause.now)) (now_of (take i clauses)) ∙ any_clash words (map heading (now_of (take i clauses))) (heading clause.now) agrees)

  next : all ≡ (clash_faults path (now_of (take i clauses)) clause.now ++ clause_faults tables scope clause.now) ++ clauses_faults tables scope path (now_of (take (i + 1) clauses)) (now_of (drop (i + 1) clauses))
  next =
      clear ∙ ap (clauses_faults tables scope path (now_of (take i clauses))) (left_at clauses i clause within is)
      ∙ ap (λ b. (clash_faults path (now_of (take i clauses)) clause.now ++ clause_faults tables scope clause.now) ++ clauses_faults tables scope path b (now_of (drop (i + 1) clauses))) (sym grown)

  -- the name of the clause is noted in another form
  pub stops_at_clash : clashes words (heading clause.now) ≡ true → first_of all ≡ Some (faults.BadShape path)
  stops_at_clash e = ap first_of (next ∙ ap (λ f. (f ++ clause_faults tables scope clause.now) ++ clauses_faults tables scope path (now_of (take (i + 1) clauses)) (now_of (drop (i + 1) clauses))) (clash_is ∙ ap (λ b. if b then faults.BadShape path ∷ [] else []) e))

  module _ (none : clashes words (heading clause.now) ≡ false) where
    unclashed : all ≡ clause_faults tables scope clause.now ++ clauses_faults tables scope path (now_of (take (i + 1) clauses)) (now_of (drop (i + 1) clauses))
    unclashed = next ∙ ap (λ f. (f ++ clause_faults tables scope clause.now) ++ clauses_faults tables scope path (now_of (take (i + 1) clauses)) (now_of (drop (i + 1) clauses))) (clash_is ∙ ap (λ b. if b then faults.BadShape path ∷ [] else []) none)

    -- the clause is at fault
    pub stops_in_clause : (fault : Fault) → IsFirstFault (clause_faults tables scope clause.now) fault → IsFirstFault all fault
    stops_in_clause fault reported = rw unclashed (first_more (clause_faults tables scope clause.now) _ fault reported)

    -- it is not
    pub goes_on : clause_faults tables scope clause.now ≡ [] → all ≡ clauses_faults tables scope path (now_of (take (i + 1) clauses)) (now_of (drop (i + 1) clauses))
    goes_on no_fault = unclashed ∙ ap (λ f. f ++ clauses_faults tables scope path (now_of (take (i + 1) clauses)) (now_of (drop (i + 1) clauses))) no_fault

    pub agrees_on : (new : List Heading) → new ≡ noted words (heading clause.now) → Agrees new (map heading (now_of (take (i + 1) clauses)))
    agrees_on new is_new = rw (is_new, grown, map-append heading (now_of (take i clauses)) (clause.now ∷ [])) (agrees_more words (map heading (now_of (take i clauses))) (heading clause.now) agrees none)
