-- The conflicts (`Conflict`) of a plan in a list, from which the least is computed.
use Rattle.std.specs.Prelude.{◌≡◌, Bool, true, false, not, cond, ◌&&◌, ◌||◌, List, [], ◌∷◌, ◌++◌, map, bytes_eq, refl, Contains}
use Rattle.std.specs.List.{list_any, list_all, filter, flat_map, AllByRecursion}
use Rattle.std.specs.Cmp.Lexicographic.{bytes_decides}
use Rattle.std.proofs.Common.{sym, ap, subst, ◌∙◌, inl, inr}
use Rattle.std.proofs.lemmas.List.Elements.{All-contains, All-from_recursion}
use Rattle.gb_core.specs.Place.{overlaps}
use Rattle.gb_folder.specs.Files.{Place}
use Rattle.gb_plan.specs.declared.task.TaskDeclaration.{TaskDeclaration}
use Rattle.gb_plan.specs.Task.{Path, has_path, roots_of, output_places}
use Rattle.gb_plan.specs.Graph.{Plan}
use Rattle.gb_plan.specs.Refusal.{Conflict, is_before, outputs_of, IsOverlap, IsRead, IsOwnInput, IsUndeclared, IsLeastConflict}
use Rattle.gb_plan.proofs.Tests.{not_true, no_longer, left_of, right_of, each_all, each_of_all}
use Rattle.gb_plan.proofs.Same.{In, at_in}

-- ---- Members

in_prefix : {X : Type 0} (z : X) (xs ys : List X) → In z xs → In z (xs ++ ys)
in_prefix z [] ys i = absurd i
in_prefix z (x ∷ xs) ys (inl e) = inl e
in_prefix z (x ∷ xs) ys (inr i) = inr (in_prefix z xs ys i)

in_back : {X : Type 0} (z : X) (xs ys : List X) → In z ys → In z (xs ++ ys)
in_back z [] ys i = i
in_back z (x ∷ xs) ys i = inr (in_back z xs ys i)

in_map : {X Y : Type 0} (f : X → Y) (xs : List X) (x : X) → In x xs → In (f x) (map f xs)
in_map f [] x i = absurd i
in_map f (y ∷ ys) x (inl e) = inl (ap f e)
in_map f (y ∷ ys) x (inr i) = inr (in_map f ys x i)

in_all : {X Y : Type 0} (f : X → List Y) (xs : List X) (x : X) (y : Y) → In x xs → In y (f x) → In y (flat_map f xs)
in_all f [] x y i j = absurd i
in_all f (z ∷ zs) x y (inl e) j = in_prefix y (f z) (flat_map f zs) (subst (λ v. In y (f v)) e j)
in_all f (z ∷ zs) x y (inr i) j = in_back y (f z) (flat_map f zs) (in_all f zs x y i j)

in_those : {X : Type 0} (test : X → Bool) (xs : List X) (x : X) → In x xs → test x ≡ true → In x (filter test xs)
in_those test [] x i h = absurd i
in_those test (y ∷ ys) x (inl e) h = subst (λ b. In x (cond b (y ∷ filter test ys) (filter test ys))) (sym (sym (ap test e) ∙ h)) (inl e)
in_those test (y ∷ ys) x (inr i) h =
    elim (test y) as (λ b. In x (cond b (y ∷ filter test ys) (filter test ys))) [ true ↦ inr (in_those test ys x i h) | false ↦ in_those test ys x i h ]

some_in : {X : Type 0} (test : X → Bool) (xs : List X) → list_any test xs ≡ true → (x : X) × In x xs × (test x ≡ true)
some_in test [] h = not_true h
some_in test (x ∷ xs) h =
    elim (test x) as (λ b. test x ≡ b → (b || list_any test xs) ≡ true → (y : _) × In y (x ∷ xs) × (test y ≡ true)) [
      | true ↦ λ e _. (x, inl refl, e)
      | false ↦ λ _ h. let rest = some_in test xs h in (rest.0, inr rest.1, rest.2)
    ] refl h

in_paths : (paths : List Path) (path : Path) → has_path paths path ≡ true → In path paths
in_paths paths path h = let at = some_in (bytes_eq path) paths h in subst (λ p. In p paths) (sym ((bytes_decides path at.0).0 at.2)) at.1

all_in : {X : Type 0} (xs : List X) → AllByRecursion (λ y. In y xs) xs
all_in [] = tt
all_in (x ∷ xs) = (inl refl, each_all _ _ (λ y i. inr i) xs (all_in xs))

in_of_contains : {X : Type 0} (xs : List X) (x : X) → Contains xs x → In x xs
in_of_contains xs x c = All-contains (λ y. In y xs) xs x (All-from_recursion (λ y. In y xs) xs (all_in xs)) c

-- ---- Overlaps

-- each of a list with the others
abbrev pub beside : {X : Type 0} → List X → List (X × List X)
beside [] = []
beside (x ∷ xs) = (x, xs) ∷ map (λ at. (at.0, x ∷ at.1)) (beside xs)

in_beside : {X : Type 0} (prefix : List X) (x : X) (back : List X) → In (x, prefix ++ back) (beside (prefix ++ x ∷ back))
in_beside [] x back = inl refl
in_beside (f ∷ prefix) x back = inr (in_map (λ at. (at.0, f ∷ at.1)) (beside (prefix ++ x ∷ back)) (x, prefix ++ back) (in_beside prefix x back))

abbrev overlaps_at : (Path × Place) × List (Path × Place) → List Conflict
overlaps_at at = map (λ other. record { task = at.0.0; other = other.0; place = at.0.1 }) (filter (λ other. overlaps at.0.1 other.1) at.1)

abbrev pub overlaps_listed : Plan → List Conflict
overlaps_listed plan = flat_map overlaps_at (beside (outputs_of plan))

overlap_listed : (plan : Plan) (conflict : Conflict) → IsOverlap plan conflict → In conflict (overlaps_listed plan)
overlap_listed plan conflict at =
    let output = some_in (λ (o : Path × Place). bytes_eq o.0 conflict.other && overlaps conflict.place o.1) (at.prefix ++ at.back) at.overlapped in
    in_all overlaps_at (beside (outputs_of plan)) ((conflict.task, conflict.place), at.prefix ++ at.back) conflict
    (subst (λ os. In ((conflict.task, conflict.place), at.prefix ++ at.back) (beside os)) (sym at.exists) (in_beside at.prefix (conflict.task, conflict.place) at.back))
    (subst (λ path. In (record { task = conflict.task; other = path; place = conflict.place }) (overlaps_at ((conflict.task, conflict.place), at.prefix ++ at.back)))
    ((bytes_decides output.0.0 conflict.other).0 (left_of _ _ output.2))
    (in_map (λ (other : Path × Place). record { task = conflict.task; other = other.0; place = conflict.place }) _ output.0
    (in_those (λ (other : Path × Place). overlaps conflict.place other.1) (at.prefix ++ at.back) output.0 output.1 (right_of (bytes_eq output.0.0 conflict.other) _ output.2))))

-- ---- Reads

abbrev reads_at : TaskDeclaration → TaskDeclaration → List Conflict
reads_at reader writer = map (λ root. record { task = reader.path; other = writer.path; place = root }) (filter (λ root. list_any (overlaps root) (output_places writer)) (roots_of reader))

abbrev tasks_of : Plan → List TaskDeclaration
tasks_of plan = map (λ planned. planned.task) plan

abbrev pub reads_listed : Plan → List Conflict
reads_listed plan = flat_map (λ reader. flat_map (reads_at reader) (tasks_of plan)) (tasks_of plan)

read_listed : (plan : Plan) (reader writer : TaskDeclaration) (root : Place) → IsRead plan reader writer root
    → In (record { task = reader.path; other = writer.path; place = root }) (reads_listed plan)
read_listed plan reader writer root at =
    in_all (λ reader. flat_map (reads_at reader) (tasks_of plan)) (tasks_of plan) reader _ (in_of_contains (tasks_of plan) reader at.reader_in)
    (in_all (reads_at reader) (tasks_of plan) writer _ (in_of_contains (tasks_of plan) writer at.writer_in)
    (in_map (λ root. record { task = reader.path; other = writer.path; place = root }) _ root
    (in_those (λ root. list_any (overlaps root) (output_places writer)) (roots_of reader) root (in_paths (roots_of reader) root at.is_root) at.overlapped)))

abbrev is_of_one : Conflict → Bool
is_of_one conflict = bytes_eq conflict.task conflict.other

abbrev pub own_inputs_listed : Plan → List Conflict
own_inputs_listed plan = filter is_of_one (reads_listed plan)

abbrev pub undeclared_listed : Plan → List Conflict
undeclared_listed plan = filter (λ conflict. not (is_of_one conflict)) (reads_listed plan)

own_input_listed : (plan : Plan) (conflict : Conflict) → IsOwnInput plan conflict → In conflict (own_inputs_listed plan)
own_input_listed plan conflict at =
    in_those is_of_one (reads_listed plan) conflict
    (subst (λ (m : Conflict). In m (reads_listed plan)) (λ i. record { task = sym at.is_task i; other = sym at.is_same i; place = conflict.place }) (read_listed plan at.task at.task conflict.place at.reads))
    ((bytes_decides conflict.task conflict.other).1 (at.is_task ∙ sym at.is_same))

is_undeclared_listed : (plan : Plan) (conflict : Conflict) → IsUndeclared plan conflict → In conflict (undeclared_listed plan)
is_undeclared_listed plan conflict at =
    in_those (λ m. not (is_of_one m)) (reads_listed plan) conflict
    (subst (λ (m : Conflict). In m (reads_listed plan)) (λ i. record { task = sym at.is_reader i; other = sym at.is_writer i; place = conflict.place }) (read_listed plan at.reader at.writer conflict.place at.reads))
    (ap not ((λ i. bytes_eq (at.is_reader i) (at.is_writer i)) ∙ at.two))

-- ---- The least

-- none of these comes before it
abbrev pub is_first_of : List Conflict → Conflict → Bool
is_first_of listed conflict = list_all (λ other. not (is_before other conflict)) listed

-- where all are listed, one that none of the list comes before is the least
least_listed : (IsConflict : Conflict → Type 0) (listed : List Conflict) → ((other : Conflict) → IsConflict other → In other listed) → (conflict : Conflict) → IsConflict conflict
    → is_first_of listed conflict ≡ true → IsLeastConflict IsConflict conflict
least_listed IsConflict listed all conflict meets none = record {
  meets = meets;
  least = λ other h. no_longer (is_before other conflict) (at_in (λ (m : Conflict). not (is_before m conflict) ≡ true) listed other (each_of_all (λ m. not (is_before m conflict)) listed none) (all other h));
}

pub least_overlap : (plan : Plan) (conflict : Conflict) → IsOverlap plan conflict → is_first_of (overlaps_listed plan) conflict ≡ true → IsLeastConflict (IsOverlap plan) conflict
least_overlap plan = least_listed (IsOverlap plan) (overlaps_listed plan) (overlap_listed plan)

pub least_own_input : (plan : Plan) (conflict : Conflict) → IsOwnInput plan conflict → is_first_of (own_inputs_listed plan) conflict ≡ true → IsLeastConflict (IsOwnInput plan) conflict
least_own_input plan = least_listed (IsOwnInput plan) (own_inputs_listed plan) (own_input_listed plan)

pub least_undeclared : (plan : Plan) (conflict : Conflict) → IsUndeclared plan conflict → is_first_of (undeclared_listed plan) conflict ≡ true → IsLeastConflict (IsUndeclared plan) conflict
least_undeclared plan = least_listed (IsUndeclared plan) (undeclared_listed plan) (is_undeclared_listed plan)
