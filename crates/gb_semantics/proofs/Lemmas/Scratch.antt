-- A build in which no task failed leaves what is made from scratch.
use Rattle.std.specs.Prelude.{◌≡◌, Bool, true, false, not, cond, ◌&&◌, ◌||◌, List, [], ◌∷◌, map, Option, Some, None, bytes_eq, ⊤, ℕ, ◌++◌}
use Rattle.std.specs.List.{list_any, list_all, filter, fold, AllByRecursion}
use Rattle.std.specs.Ordering.{eq_by_cmp}
use Rattle.std.specs.FinMap.Entries.{is_sorted, find-put, find-where_key}
use Rattle.std.proofs.Common.{refl, sym, ap, subst, ◌∙◌, inl, inr}
use Rattle.std.proofs.lemmas.Map.Text.{is_eq-slice_cmp}
use Rattle.gb_report.specs.declared.report.Options.{Options}
use Rattle.gb_report.specs.declared.report.TaskReport.{TaskReport}
use Rattle.gb_folder.specs.Files.{IsFolder, Place, Bytes, Files, Contents, is_empty, file_at, files_where, is_blocked}
use Rattle.gb_core.specs.Lists.{byte_order}
use Rattle.gb_core.specs.Place.{is_beneath}
use Rattle.gb_plan.specs.Task.{Path, is_output_of}
use Rattle.gb_plan.specs.declared.task.TaskDeclaration.{TaskDeclaration as Task}
use Rattle.gb_semantics.proofs.Existing.{rules_of, existing}
use Rattle.gb_semantics.specs.Tree.{input_faults}
use Rattle.gb_semantics.specs.Kinds.{Kinds}
use Rattle.gb_semantics.specs.Made.{made, put_over, with_outputs, blocked_in, rest_of}
use Rattle.gb_semantics.specs.Memory.{Memory, Entry, World, recalled, remember, forget, entry_of, folder_contents}
use Rattle.gb_plan.specs.Graph.{Plan}
use Rattle.gb_plan.specs.declared.plan.Planned.{Planned}
use Rattle.gb_semantics.specs.Label.{Moment}
use Rattle.gb_report.specs.Outcome.{is_failed, is_started}
use Rattle.gb_semantics.specs.Execution.{May, Executions, moment_after}
use Rattle.gb_semantics.specs.Scratch.{cleared, put_at_outputs, add_task}
use Rattle.gb_plan.proofs.Tests.{not_true}
use Rattle.gb_semantics.proofs.Common.{all_assumed}
use Rattle.gb_semantics.proofs.Lemmas.Files.{at-where, at-put_over, sorted-where, sorted-put_over, same_files, tied_same, total, or_else, left_of, right_of}
use Rattle.gb_semantics.proofs.Lemmas.Worked.{Did, skipped, idle, worked, Worked, IsTrusted, what_it_did}
use Rattle.gb_semantics.proofs.Lemmas.Reading.{AllUnobserved, input_faults_same, made_same}
use Rattle.gb_semantics.proofs.Lemmas.Making.{IsRight, made_right}

abbrev pub any_out : List Task → Place → Bool
any_out tasks place = list_any (λ task. is_output_of task place) tasks

abbrev pub no_out : List Task → Place → Bool
no_out tasks place = not (any_out tasks place)

-- What a sound plan gives for a task and those that run after it: disjoint outputs, inputs that none of them
-- writes, and no outputs without actions.
pub record Fits (task : Task) (others : List Task) : Type 0 where
  pub separate : (q : Place) → is_output_of task q ≡ true → any_out others q ≡ false
  pub unobserved : AllUnobserved (no_out (task ∷ others)) task
  pub idle_writes_none : is_empty task.actions ≡ true → (q : Place) → is_output_of task q ≡ false

abbrev pub AllFit : List Task → Type 0
AllFit [] = ⊤
AllFit (task ∷ tasks) = Fits task tasks × AllFit tasks

abbrev pub actives : List Planned → List Task
actives plan = filter (λ task. task.runs) (map (λ planned. planned.task) plan)

abbrev pub PathsDistinct : List Planned → Type 0
PathsDistinct [] = ⊤
PathsDistinct (planned ∷ rest) = AllByRecursion (λ (other : Planned). bytes_eq other.task.path planned.task.path ≡ false) rest × PathsDistinct rest

-- ---- Files

pub where_all : (test : Place → Bool) → ((q : Place) → test q ≡ true) → (files : Files) → files_where test files ≡ files
where_all test h [] = refl
where_all test h (f ∷ files) = ap (λ b. cond b (f ∷ files_where test files) (files_where test files)) (h f.0) ∙ ap (λ fs. f ∷ fs) (where_all test h files)

-- adding the files of a task and then clearing the others' places can be done in either order
put_then_clear : (task : Task) (others : List Task) (files new : Files) → is_sorted byte_order files ≡ true → IsRight task.outputs new → Fits task others
    → put_over (cleared (task ∷ others) files) new ≡ cleared others (with_outputs task files new)
put_then_clear task others files new sorted right fits =
    same_files _ _
    (sorted-put_over (cleared (task ∷ others) files) new (sorted-where (no_out (task ∷ others)) files sorted))
    (sorted-where (no_out others) (with_outputs task files new) (sorted-put_over (files_where (λ q. not (is_output_of task q)) files) new (sorted-where (λ q. not (is_output_of task q)) files sorted)))
    (λ q. left q ∙ both q (is_output_of task q) refl ∙ sym (right_side q))
  where
    left : (q : Place) → file_at (put_over (cleared (task ∷ others) files) new) q ≡ or_else (file_at new q) (cond (not (is_output_of task q || any_out others q)) (file_at files q) None)
    left q = at-put_over (cleared (task ∷ others) files) new q right.in_order ∙ ap (or_else (file_at new q)) (at-where (no_out (task ∷ others)) files q)

    right_side : (q : Place) → file_at (cleared others (with_outputs task files new)) q ≡ cond (not (any_out others q)) (or_else (file_at new q) (cond (not (is_output_of task q)) (file_at files q) None)) None
    right_side q = at-where (no_out others) (with_outputs task files new) q
        ∙ ap (λ o. cond (not (any_out others q)) o None)
        (at-put_over (files_where (λ p. not (is_output_of task p)) files) new q right.in_order ∙ ap (or_else (file_at new q)) (at-where (λ p. not (is_output_of task p)) files q))

    none_left : (o : Option Bytes) → o ≡ None → (b : Bool) (old : Option Bytes) → or_else o (cond (not b) old None) ≡ cond (not b) (or_else o old) None
    none_left o e true old = ap (λ p. or_else p None) e
    none_left o e false old = refl

    both : (q : Place) (b : Bool) → is_output_of task q ≡ b → or_else (file_at new q) (cond (not (is_output_of task q || any_out others q)) (file_at files q) None)
        ≡ cond (not (any_out others q)) (or_else (file_at new q) (cond (not (is_output_of task q)) (file_at files q) None)) None
    both q true e =
        ap (λ b. or_else (file_at new q) (cond (not (b || any_out others q)) (file_at files q) None)) e
        ∙ sym (ap (λ b. cond (not b) (or_else (file_at new q) (cond (not (is_output_of task q)) (file_at files q) None)) None) (fits.separate q e)
        ∙ ap (λ b. or_else (file_at new q) (cond (not b) (file_at files q) None)) e)
    both q false e =
        ap (λ b. or_else (file_at new q) (cond (not (b || any_out others q)) (file_at files q) None)) e
        ∙ none_left (file_at new q) (right.beside q e) (any_out others q) (file_at files q)
        ∙ sym (ap (λ b. cond (not (any_out others q)) (or_else (file_at new q) (cond (not b) (file_at files q) None)) None) e)

-- ---- Room

any_fewer : (p : Place × Bytes → Bool) (a b : Place → Bool) (files : Files) → list_any p (files_where a (files_where b files)) ≡ true → list_any p (files_where a files) ≡ true
any_fewer p a b [] h = h
any_fewer p a b (f ∷ files) given =
    (elim (b f.0) as (λ c. list_any p (files_where a (cond c (f ∷ files_where b files) (files_where b files))) ≡ true → list_any p (cond (a f.0) (f ∷ files_where a files) (files_where a files)) ≡ true) [
      | true ↦ elim (a f.0) as (λ c. list_any p (cond c (f ∷ files_where a (files_where b files)) (files_where a (files_where b files))) ≡ true → list_any p (cond c (f ∷ files_where a files) (files_where a files)) ≡ true) [
        | true ↦ elim (p f) as (λ c. (c || list_any p (files_where a (files_where b files))) ≡ true → (c || list_any p (files_where a files)) ≡ true) [
          | true ↦ λ e. e
          | false ↦ any_fewer p a b files
        ]
        | false ↦ any_fewer p a b files
      ]
      | false ↦ λ h. elim (a f.0) as (λ c. list_any p (cond c (f ∷ files_where a files) (files_where a files)) ≡ true) [
        | true ↦ or_right (p f) (list_any p (files_where a files)) (any_fewer p a b files h)
        | false ↦ any_fewer p a b files h
      ]
    ]) given
  where
    or_right : (c d : Bool) → d ≡ true → (c || d) ≡ true
    or_right true d e = refl
    or_right false d e = e

fewer_pass : {X Y : Type 0} (g : X → Y) (p s : X → Bool) → ((x : X) → s x ≡ true → p x ≡ true) → (xs : List X) → is_empty (map g (filter p xs)) ≡ true → is_empty (map g (filter s xs)) ≡ true
fewer_pass g p s h [] e = refl
fewer_pass g p s h (x ∷ xs) given =
    elim (p x) as (λ b. p x ≡ b → is_empty (map g (cond b (x ∷ filter p xs) (filter p xs))) ≡ true → is_empty (map g (cond (s x) (x ∷ filter s xs) (filter s xs))) ≡ true) [
      | true ↦ λ _ e. not_true e
      | false ↦ λ out e. elim (s x) as (λ b. s x ≡ b → is_empty (map g (cond b (x ∷ filter s xs) (filter s xs))) ≡ true) [
        | true ↦ λ i. not_true (sym out ∙ h x i)
        | false ↦ λ _. fewer_pass g p s h xs e
      ] refl
    ] refl given

room_stays : (task : Task) (test : Place → Bool) (files new : Files) → is_empty (blocked_in (rest_of task files) new) ≡ true → is_empty (blocked_in (rest_of task (files_where test files)) new) ≡ true
room_stays task test files new h =
    fewer_pass (λ (f : Place × Bytes). f.0)
    (λ f. is_blocked (files_where (λ q. not (is_output_of task q)) files) f.0)
    (λ f. is_blocked (files_where (λ q. not (is_output_of task q)) (files_where test files)) f.0)
    (λ f e. any_fewer (λ g. is_beneath f.0 g.0 || is_beneath g.0 f.0) (λ q. not (is_output_of task q)) test files e) new h

-- ---- One task more

module _ (kinds : Kinds) (folder : Contents) where
  add_worked : (task : Task) (others : List Task) (old new : World) → folder.special ≡ old.folder.special → is_sorted byte_order old.folder.files ≡ true → Fits task others → Worked kinds task old new
      → add_task kinds folder (Some (cleared (task ∷ others) old.folder.files)) task ≡ Some (cleared others new.folder.files)
  add_worked task others old new special sorted fits did =
      ap (λ b. cond b (Some S) (cond (is_empty (input_faults task (record folder { files = S }))) (put_at_outputs task S (made kinds task S)) None)) did.has_actions
      ∙ ap (λ fs. cond (is_empty fs) (put_at_outputs task S (made kinds task S)) None) (input_faults_same (no_out (task ∷ others)) task folder F fits.unobserved ∙ here)
      ∙ ap (λ b. cond b (put_at_outputs task S (made kinds task S)) None) did.readable
      ∙ ap (put_at_outputs task S) (made_same (no_out (task ∷ others)) kinds task F fits.unobserved ∙ did.makes)
      ∙ ap (λ b. cond b (Some (put_over S did.made_files)) None) (room_stays task (no_out (task ∷ others)) F did.made_files did.room)
      ∙ ap Some (put_then_clear task others F did.made_files sorted (made_right kinds task F did.made_files did.makes) fits ∙ ap (cleared others) (sym did.files))
    where
      F : Files
      F = old.folder.files

      S : Files
      S = cleared (task ∷ others) F

      here : input_faults task (record folder { files = F }) ≡ input_faults task old.folder
      here = ap (λ o. input_faults task (record { files = F; special = o })) special

-- ---- Memory of the others

bytes_tied : (a b : Path) → bytes_eq a b ≡ false → eq_by_cmp byte_order a b ≡ false
bytes_tied a b e = is_eq-slice_cmp a b ∙ e

recalled-forget : (memory : Memory) (path other : Path) → bytes_eq other path ≡ false → recalled (forget memory path) other ≡ recalled memory other
recalled-forget memory path other e =
    find-where_key byte_order (λ p. not (bytes_eq p path)) other (λ x t. ap (λ p. not (bytes_eq p path)) (sym (tied_same other x t))) memory
    ∙ ap (λ b. cond (not b) (recalled memory other) None) e

recalled-remember : (memory : Memory) (path : Path) (entry : Entry) (other : Path) → bytes_eq other path ≡ false → recalled (remember memory path entry) other ≡ recalled memory other
recalled-remember memory path entry other e =
    find-put byte_order total other path entry memory ∙ ap (λ b. cond b (Some entry) (recalled memory other)) (bytes_tied other path e)

same_recall : (kinds : Kinds) (task : Task) (old new : World) → Worked kinds task old new → (other : Path) → bytes_eq other task.path ≡ false → recalled new.memory other ≡ recalled old.memory other
same_recall kinds task old new did other e = elim did.memory [
  | inl same ↦ ap (λ m. recalled m other) same
  | inr changed ↦ elim changed [
    | inl gone ↦ ap (λ m. recalled m other) gone ∙ recalled-forget old.memory task.path other e
    | inr put ↦ ap (λ m. recalled m other) put ∙ recalled-remember old.memory task.path (entry_of task new.folder.files) other e
  ]
]

abbrev AllTrusted : Kinds → Memory → List Planned → Type 0
AllTrusted kinds memory plan = AllByRecursion (λ (planned : Planned). IsTrusted kinds memory planned.task) plan

still_trusted : (kinds : Kinds) (task : Task) (old new : World) → Worked kinds task old new → (rest : List Planned)
    → AllByRecursion (λ (other : Planned). bytes_eq other.task.path task.path ≡ false) rest → AllTrusted kinds old.memory rest → AllTrusted kinds new.memory rest
still_trusted kinds task old new did [] separate trusted = tt
still_trusted kinds task old new did (other ∷ rest) separate trusted =
    (λ files is_folder h. trusted.0 files is_folder (sym (same_recall kinds task old new did other.task.path separate.0) ∙ h), still_trusted kinds task old new did rest separate.1 trusted.1)

-- ---- All tasks

abbrev pub ended_well : TaskReport → Bool
ended_well report = is_started report.outcome && not (is_failed report.outcome)

not_of_true : (b : Bool) → not b ≡ true → b ≡ false
not_of_true true e = not_true e
not_of_true false e = refl

abbrev Built : Kinds → Contents → List Task → Files → Files → Type 0
Built kinds folder tasks files end = fold (add_task kinds folder) (Some (cleared tasks files)) tasks ≡ Some end

abbrev Again : Kinds → Contents → List Planned → World → World → Type 0
Again kinds folder rest mid new =
    folder.special ≡ mid.folder.special → AllFit (actives rest) → AllTrusted kinds mid.memory rest
    → Built kinds folder (actives rest) mid.folder.files new.folder.files

module _ (kinds : Kinds) (folder : Contents) where
  after_execution : (planned : Planned) (rest : List Planned) (old mid new : World) → Again kinds folder rest mid new
      → folder.special ≡ old.folder.special → is_sorted byte_order old.folder.files ≡ true
      → AllFit (actives (planned ∷ rest)) → AllTrusted kinds old.memory (planned ∷ rest) → PathsDistinct (planned ∷ rest)
      → Did kinds planned.task old mid → Built kinds folder (actives (planned ∷ rest)) old.folder.files new.folder.files
  after_execution planned rest old mid new again special sorted fit trusted separate (skipped runs same) =
      subst (λ b. Built kinds folder (cond b (planned.task ∷ actives rest) (actives rest)) old.folder.files new.folder.files) (sym runs)
      (subst (λ (w : World). Built kinds folder (actives rest) w.folder.files new.folder.files) same
      (again (special ∙ ap (λ (w : World). w.folder.special) (sym same))
      (subst (λ b. AllFit (cond b (planned.task ∷ actives rest) (actives rest))) runs fit)
      (subst (λ (w : World). AllTrusted kinds w.memory rest) (sym same) trusted.1)))
  after_execution planned rest old mid new again special sorted fit trusted separate (idle runs acts same) =
      subst (λ b. Built kinds folder (cond b (planned.task ∷ actives rest) (actives rest)) old.folder.files new.folder.files) (sym runs)
      (ap (λ o. fold (add_task kinds folder) o (actives rest))
      (ap (λ b. cond b (Some S) (cond (is_empty (input_faults planned.task (record folder { files = S }))) (put_at_outputs planned.task S (made kinds planned.task S)) None)) acts
      ∙ ap Some (λ i. files_where (λ q. not (here.0.idle_writes_none acts q i || any_out (actives rest) q)) old.folder.files)
      ∙ ap (λ (w : World). Some (cleared (actives rest) w.folder.files)) (sym same))
      ∙ again (special ∙ ap (λ (w : World). w.folder.special) (sym same))
      here.1 (subst (λ (w : World). AllTrusted kinds w.memory rest) (sym same) trusted.1))
    where
      S : Files
      S = cleared (planned.task ∷ actives rest) old.folder.files

      here : AllFit (planned.task ∷ actives rest)
      here = subst (λ b. AllFit (cond b (planned.task ∷ actives rest) (actives rest))) runs fit
  after_execution planned rest old mid new again special sorted fit trusted separate (worked did) =
      subst (λ b. Built kinds folder (cond b (planned.task ∷ actives rest) (actives rest)) old.folder.files new.folder.files) (sym did.runs)
      (ap (λ o. fold (add_task kinds folder) o (actives rest)) (add_worked kinds folder planned.task (actives rest) old mid special sorted here.0 did)
      ∙ again (special ∙ sym did.special)
      here.1 (still_trusted kinds planned.task old mid did rest separate.0 trusted.1))
    where
      here : AllFit (planned.task ∷ actives rest)
      here = subst (λ b. AllFit (cond b (planned.task ∷ actives rest) (actives rest))) did.runs fit

module _ (kinds : Kinds) (options : Options) (may_occur : May) (plan : Plan) (folder : Contents) where
  pub follows : (observed : List Bytes) (rest : List Planned) (moment : Moment) (reports : List TaskReport) (new : World) (failures : ℕ)
      → folder.special ≡ moment.world.folder.special → IsFolder moment.world.folder.files
      → AllFit (actives rest) → AllTrusted kinds moment.world.memory rest → PathsDistinct rest
      → list_all ended_well reports ≡ true
      → Executions (rules_of kinds options may_occur plan) all_assumed observed rest moment reports (existing new failures)
      → Built kinds folder (actives rest) moment.world.folder.files new.folder.files
  follows observed [] moment [] new failures special sorted fit trusted separate well executions =
      ap Some (where_all (no_out []) (λ q. refl) moment.world.folder.files ∙ sym (ap (λ (w : World). w.folder.files) executions.0))
  follows observed [] moment (report ∷ reports) new failures special sorted fit trusted separate well executions = absurd executions
  follows observed (planned ∷ rest) moment [] new failures special sorted fit trusted separate well executions = absurd executions
  follows observed (planned ∷ rest) moment (report ∷ reports) new failures special sorted fit trusted separate well executions =
      elim (executions.1.execution tt).2 [
        | inl started ↦ after_execution kinds folder planned rest moment.world executions.0.world new
            (λ special' fit' trusted'. follows (observed ++ folder_contents moment.world) rest (moment_after moment report executions.0) reports new failures special' executions.1.folder fit' trusted' separate.1 (right_of (ended_well report) (list_all ended_well reports) well) executions.2)
            special sorted.in_order fit trusted separate
            (what_it_did kinds options plan planned.task moment executions.0.world may_occur executions.0.failures report
            (not_of_true (is_failed report.outcome) (right_of (is_started report.outcome) (not (is_failed report.outcome)) (left_of (ended_well report) (list_all ended_well reports) well))) sorted trusted.0 started.1)
        | inr passed ↦ not_true (sym (ap is_started passed.1.outcome) ∙ left_of (is_started report.outcome) (not (is_failed report.outcome)) (left_of (ended_well report) (list_all ended_well reports) well))
      ]

-- ---- Tasks that were done, however it is known

-- Each task was skipped, had nothing to do, or its outputs were then what its actions make: one after another.
abbrev pub AreDone : Kinds → List Planned → World → World → Type 0
AreDone kinds [] old new = new.folder.files ≡ old.folder.files
AreDone kinds (planned ∷ rest) old new =
    (mid : World) × IsFolder mid.folder.files × Did kinds planned.task old mid × AreDone kinds rest mid new

module _ (kinds : Kinds) (folder : Contents) where
  pub done_follows : (rest : List Planned) (old new : World) → folder.special ≡ old.folder.special → IsFolder old.folder.files
      → AllFit (actives rest) → AllTrusted kinds old.memory rest → PathsDistinct rest
      → AreDone kinds rest old new → Built kinds folder (actives rest) old.folder.files new.folder.files
  done_follows [] old new special sorted fit trusted separate done =
      ap Some (where_all (no_out []) (λ q. refl) old.folder.files ∙ sym done)
  done_follows (planned ∷ rest) old new special sorted fit trusted separate done =
      after_execution kinds folder planned rest old done.0 new
      (λ special' fit' trusted'. done_follows rest done.0 new special' done.1 fit' trusted' separate.1 done.3)
      special sorted.in_order fit trusted separate done.2
