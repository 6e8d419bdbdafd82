-- Where the contents before and after a build satisfy the guard, all its executions hold: no other contents
-- exist between them.
use Rattle.gb_semantics.proofs.Existing.{rules_of, existing, with_execution}
use Rattle.gb_semantics.specs.TrueRecord.{AreCollisionFree}
use Rattle.std.specs.Cmp.Lexicographic.{bytes_decides}
use Rattle.std.proofs.lemmas.Map.Views.{Contains-from_any}
use Rattle.std.specs.Prelude.{ℕ, ◌≡◌, ◌⊎◌, Bool, true, false, not, cond, ◌||◌, List, [], ◌∷◌, ◌++◌, map, bytes_eq, zero, suc, Contains}
use Rattle.std.specs.List.{list_any, flat_map, AllByRecursion}
use Rattle.std.proofs.Common.{refl, sym, ap, ◌∙◌, inl, inr, arith}
use Rattle.gb_report.specs.declared.report.Options.{Options}
use Rattle.gb_report.specs.declared.report.TaskReport.{TaskReport}
use Rattle.gb_folder.specs.Files.{Place, Bytes, Files, files_where}
use Rattle.gb_core.specs.Place.{is_under}
use Rattle.gb_plan.specs.declared.task.TaskDeclaration.{TaskDeclaration as Task}
use Rattle.gb_plan.specs.Task.{is_output_of, output_places, has_path}
use Rattle.gb_semantics.specs.Kinds.{Kinds}
use Rattle.gb_semantics.specs.Memory.{World, folder_contents}
use Rattle.gb_plan.specs.Graph.{Plan, some_overlap}
use Rattle.gb_plan.specs.declared.plan.Planned.{Planned}
use Rattle.gb_semantics.specs.Label.{Moment}
use Rattle.gb_semantics.specs.Execution.{May, Guard, Executions, moment_after, Builds}
use Rattle.gb_plan.proofs.Tests.{not_false, any_append, any_map, none_left, none_right}
use Rattle.gb_semantics.proofs.Common.{all_assumed}
use Rattle.gb_plan.proofs.Places.{separate_places, overlap_tail, out_of}

abbrev pub places_of : List Planned → List Place
places_of plan = flat_map (λ planned. output_places planned.task) plan

-- each of some contents is among all
abbrev pub Among : List Bytes → List Bytes → Type 0
Among some all = (c : Bytes) → has_path some c ≡ true → has_path all c ≡ true

pub either : (a b : Bool) → (a || b) ≡ true → (a ≡ true) ⊎ (b ≡ true)
either true b e = inl refl
either false b e = inr e

pub right : (a b : Bool) → b ≡ true → (a || b) ≡ true
right true b e = refl
right false b e = e

pub in_left : (c : Bytes) (xs ys : List Bytes) → has_path xs c ≡ true → has_path (xs ++ ys) c ≡ true
in_left c xs ys e = any_append (bytes_eq c) xs ys ∙ ap (λ b. b || has_path ys c) e

pub in_right : (c : Bytes) (xs ys : List Bytes) → has_path ys c ≡ true → has_path (xs ++ ys) c ≡ true
in_right c xs ys e = any_append (bytes_eq c) xs ys ∙ right (has_path xs c) (has_path ys c) e

pub in_one : (c : Bytes) (xs ys : List Bytes) → has_path (xs ++ ys) c ≡ true → (has_path xs c ≡ true) ⊎ (has_path ys c ≡ true)
in_one c xs ys e = either (has_path xs c) (has_path ys c) (sym (any_append (bytes_eq c) xs ys) ∙ e)

-- what is listed, and what a test finds
pub found : (xs : List Bytes) (c : Bytes) → Contains xs c → has_path xs c ≡ true
found [] c (k, less, e) = absurd (omega arith)
found (x ∷ xs) c (zero, less, e) = ap (λ b. b || has_path xs c) ((bytes_decides c x).1 (sym e))
found (x ∷ xs) c (suc k, less, e) = right (bytes_eq c x) (has_path xs c) (found xs c (k, omega arith, e))

pub listed : (xs : List Bytes) (c : Bytes) → has_path xs c ≡ true → Contains xs c
listed xs c e = Contains-from_any (λ x y same. (bytes_decides x y).0 same) c xs e

pub separate_of_fewer : (digest : Bytes → List ℕ) (all some : List Bytes) → Among some all → AreCollisionFree digest all → AreCollisionFree digest some
separate_of_fewer digest all some among separate a b in_a in_b same = separate a b (listed all a (among a (found some a in_a))) (listed all b (among b (found some b in_b))) same

-- ---- Files

narrow : (test wide : Place → Bool) → ((q : Place) → test q ≡ true → wide q ≡ true) → (files : Files) → files_where test (files_where wide files) ≡ files_where test files
narrow test wide h [] = refl
narrow test wide h (f ∷ files) =
    let rest = narrow test wide h files in
    elim (wide f.0) as (λ b. wide f.0 ≡ b → files_where test (cond b (f ∷ files_where wide files) (files_where wide files)) ≡ cond (test f.0) (f ∷ files_where test files) (files_where test files)) [
      | true ↦ λ _. ap (λ xs. cond (test f.0) (f ∷ xs) xs) rest
      | false ↦ λ out. elim (test f.0) as (λ b. test f.0 ≡ b → files_where test (files_where wide files) ≡ cond b (f ∷ files_where test files) (files_where test files)) [
        | true ↦ λ e. not_false (sym (h f.0 e) ∙ out)
        | false ↦ λ _. rest
      ] refl
    ] refl

same_narrow : (test wide : Place → Bool) → ((q : Place) → test q ≡ true → wide q ≡ true) → (old new : Files) → files_where wide new ≡ files_where wide old → files_where test new ≡ files_where test old
same_narrow test wide h old new e = sym (narrow test wide h new) ∙ ap (files_where test) e ∙ narrow test wide h old

module _ (P : Place × Bytes → Bool) (t : Place → Bool) where
  pub part_of : (files : Files) → list_any P (files_where t files) ≡ true → list_any P files ≡ true
  part_of [] e = e
  part_of (f ∷ files) h =
      elim (t f.0) as (λ b. list_any P (cond b (f ∷ files_where t files) (files_where t files)) ≡ true → (P f || list_any P files) ≡ true) [
        | true ↦ λ e. elim (P f) as (λ b. (b || list_any P (files_where t files)) ≡ true → (b || list_any P files) ≡ true) [ true ↦ λ _. refl | false ↦ λ e. part_of files e ] e
        | false ↦ λ e. right (P f) (list_any P files) (part_of files e)
      ] h

  parts : (files : Files) → list_any P files ≡ true → (list_any P (files_where t files) ≡ true) ⊎ (list_any P (files_where (λ q. not (t q)) files) ≡ true)
  parts [] e = inl e
  parts (f ∷ files) h =
      elim (t f.0) as (λ b. (list_any P (cond b (f ∷ files_where t files) (files_where t files)) ≡ true)
      ⊎ (list_any P (cond (not b) (f ∷ files_where (λ q. not (t q)) files) (files_where (λ q. not (t q)) files)) ≡ true)) [
        | true ↦ elim (either (P f) (list_any P files) h) [
          | inl here ↦ inl (ap (λ b. b || list_any P (files_where t files)) here)
          | inr there ↦ elim (parts files there) [ inl a ↦ inl (right (P f) (list_any P (files_where t files)) a) | inr b ↦ inr b ]
        ]
        | false ↦ elim (either (P f) (list_any P files) h) [
          | inl here ↦ inr (ap (λ b. b || list_any P (files_where (λ q. not (t q)) files)) here)
          | inr there ↦ elim (parts files there) [ inl a ↦ inl a | inr b ↦ inr (right (P f) (list_any P (files_where (λ q. not (t q)) files)) b) ]
        ]
      ]

-- contents in the middle exist before, or afterwards
pub existed : (out : Place → Bool) (old mid new : Files) → files_where (λ q. not (out q)) mid ≡ files_where (λ q. not (out q)) old → files_where out new ≡ files_where out mid
    → (c : Bytes) → has_path (map (λ file. file.1) mid) c ≡ true → (has_path (map (λ file. file.1) old) c ≡ true) ⊎ (has_path (map (λ file. file.1) new) c ≡ true)
existed out old mid new before afterwards c h =
    let P : Place × Bytes → Bool = λ f. bytes_eq c f.1 in
    let snd : Place × Bytes → Bytes = λ f. f.1 in
    elim (parts P out mid (sym (any_map (bytes_eq c) snd mid) ∙ h)) [
      | inl there ↦ inr (any_map (bytes_eq c) snd new ∙ part_of P out new (ap (list_any P) afterwards ∙ there))
      | inr there ↦ inl (any_map (bytes_eq c) snd old ∙ part_of P (λ q. not (out q)) old (ap (list_any P) (sym before) ∙ there))
    ]

-- ---- Executions: no later task has an output place in common with this one
pub later_separate : (task : Task) (rest : List Planned) → ((q : Place) → is_output_of task q ≡ true → list_any (is_under q) (places_of rest) ≡ false)
    → AllByRecursion (λ (later : Planned). (q : Place) → is_output_of task q ≡ true → is_output_of later.task q ≡ false) rest
later_separate task [] h = tt
later_separate task (later ∷ rest) h = (
  λ q e. out_of later.task q ∙ none_left (list_any (is_under q) (output_places later.task)) (list_any (is_under q) (places_of rest)) (sym (any_append (is_under q) (output_places later.task) (places_of rest)) ∙ h q e),
  later_separate task rest (λ q e. none_right (list_any (is_under q) (output_places later.task)) (list_any (is_under q) (places_of rest)) (sym (any_append (is_under q) (output_places later.task) (places_of rest)) ∙ h q e)),
)

module _ (kinds : Kinds) (options : Options) (may_occur : May) (plan : Plan) (assumed : Guard) where
  -- executions leave the places that are no outputs of theirs
  pub rest_leave : (test : Place → Bool) (observed : List Bytes) (rest : List Planned) (moment : Moment) (reports : List TaskReport) (new : World) (failures : ℕ)
      → AllByRecursion (λ (later : Planned). (q : Place) → test q ≡ true → is_output_of later.task q ≡ false) rest
      → Executions (rules_of kinds options may_occur plan) assumed observed rest moment reports (existing new failures) → files_where test new.folder.files ≡ files_where test moment.world.folder.files
  rest_leave test observed [] moment [] new failures separate executions = ap (λ (w : World). files_where test w.folder.files) executions.0
  rest_leave test observed [] moment (report ∷ reports) new failures separate executions = absurd executions
  rest_leave test observed (planned ∷ rest) moment [] new failures separate executions = absurd executions
  rest_leave test observed (planned ∷ rest) moment (report ∷ reports) new failures separate executions =
      rest_leave test (observed ++ folder_contents moment.world) rest (moment_after moment report executions.0) reports new failures separate.1 executions.2
      ∙ same_narrow test (λ place. not (is_output_of planned.task place)) (λ q e. ap not (separate.0 q e)) moment.world.folder.files executions.0.world.folder.files executions.1.files

  pub all_hold : ((all some : List Bytes) → Among some all → assumed all → assumed some)
      → (observed : List Bytes) (rest : List Planned) (moment : Moment) (reports : List TaskReport) (new : World) (failures : ℕ)
      → some_overlap (places_of rest) ≡ false → assumed (observed ++ folder_contents moment.world ++ folder_contents new)
      → Executions (rules_of kinds options may_occur plan) assumed observed rest moment reports (existing new failures)
      → Executions (rules_of kinds options may_occur plan) all_assumed observed rest moment reports (existing new failures)
  all_hold fewer observed [] moment [] new failures separate given executions = executions
  all_hold fewer observed [] moment (report ∷ reports) new failures separate given executions = absurd executions
  all_hold fewer observed (planned ∷ rest) moment [] new failures separate given executions = absurd executions
  all_hold fewer observed (planned ∷ rest) moment (report ∷ reports) new failures separate given executions = (
    executions.0,
    with_execution executions.1 (λ _. executions.1.execution (fewer (before ++ folder_contents new) before (λ c e. in_left c before (folder_contents new) e) given)),
    all_hold fewer before rest (moment_after moment report executions.0) reports new failures
        (overlap_tail (output_places planned.task) (places_of rest) separate)
        (fewer (before ++ folder_contents new) (before ++ folder_contents executions.0.world ++ folder_contents new) between given) executions.2,
  )
    where
      before : List Bytes
      before = observed ++ folder_contents moment.world

      later_leave : files_where (is_output_of planned.task) new.folder.files ≡ files_where (is_output_of planned.task) executions.0.world.folder.files
      later_leave = rest_leave (is_output_of planned.task) before rest (moment_after moment report executions.0) reports new failures
          (later_separate planned.task rest (λ q e. separate_places q (output_places planned.task) (places_of rest) separate (sym (out_of planned.task q) ∙ e))) executions.2

      between : Among (before ++ folder_contents executions.0.world ++ folder_contents new) (before ++ folder_contents new)
      between c h = elim (in_one c (before ++ folder_contents executions.0.world) (folder_contents new) h) [
        | inr after ↦ in_right c before (folder_contents new) after
        | inl earlier ↦ elim (in_one c before (folder_contents executions.0.world) earlier) [
          | inl observed_before ↦ in_left c before (folder_contents new) observed_before
          | inr mid ↦ elim (existed (is_output_of planned.task) moment.world.folder.files executions.0.world.folder.files new.folder.files executions.1.files later_leave c mid) [
            | inl old ↦ in_left c before (folder_contents new) (in_right c observed (folder_contents moment.world) old)
            | inr last ↦ in_right c before (folder_contents new) last
          ]
        ]
      ]

-- over contents where no two share a digest, all executions of a build hold
pub clear_build : (kinds : Kinds) (options : Options) (may_occur : May) (digest : Bytes → List ℕ) (plan : Plan) (observed : List Bytes) (before after : ℕ) (old new : World) (reports : List TaskReport)
    → some_overlap (places_of plan) ≡ false → AreCollisionFree digest (observed ++ folder_contents old ++ folder_contents new)
    → Builds (rules_of kinds options may_occur plan) (AreCollisionFree digest) observed (existing old before) reports (existing new after)
    → Builds (rules_of kinds options may_occur plan) all_assumed observed (existing old before) reports (existing new after)
clear_build kinds options may_occur digest plan observed before after old new reports separate clear builds = elim builds [
  | inl dry ↦ inl dry
  | inr run ↦ inr (run.0, all_hold kinds options may_occur plan (AreCollisionFree digest) (separate_of_fewer digest) observed plan (record { world = old; outcomes = []; failures = before }) reports new after separate clear run.1)
]
