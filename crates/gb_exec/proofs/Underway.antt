-- A build that is underway: what holds between two executions, and one execution more.
use Rattle.std.specs.Prelude.{ℕ, ◌≡◌, ◌≤◌, ◌⊎◌, ◌||◌, Bool, true, false, not, List, [], ◌∷◌, ◌++◌, map, bytes_eq, IsTrue}
use Rattle.std.specs.List.{AllByRecursion, flat_map, list_any}
use Rattle.std.proofs.Common.{refl, sym, ap, ap₂, subst, ◌∙◌, inl, inr, append_assoc, arith}
use Rattle.std.proofs.lemmas.List.{map-append}
use Rattle.gb_core.specs.Path.{is_task_path}
use Rattle.gb_core.specs.Place.{is_under}
use Rattle.gb_folder.specs.Files.{Bytes, Contents, DiffersOnlyAt, Files, IsFolder, Place, SameTearing, Tearing, files_where, is_own}
use Rattle.gb_semantics.specs.Edits.{Shown}
use Rattle.gb_semantics.specs.Events.{Setting, State, own_files, rules_in, world_in}
use Rattle.gb_semantics.specs.Headline.{contents_outside, state_of}
use Rattle.gb_semantics.specs.Kinds.{Kinds}
use Rattle.gb_semantics.specs.Label.{Moment}
use Rattle.gb_semantics.specs.Memory.{Memory, World, folder_contents, recalled}
use Rattle.gb_semantics.specs.TrueRecord.{outside}
use Rattle.gb_semantics.specs.Execution.{Guard, Rules, WorldState as Exists, Execution, Executions, first_moment, moment_after}
use Rattle.gb_semantics.proofs.Lemmas.Clear.{Among, in_left, in_one, in_right, existed}
use Rattle.gb_semantics.proofs.Lemmas.Success.{folder_where}
use Rattle.gb_plan.specs.Graph.{Plan, order, some_overlap}
use Rattle.gb_plan.specs.Task.{Path, is_output_of, output_places}
use Rattle.gb_plan.specs.declared.plan.Planned.{Planned}
use Rattle.gb_plan.proofs.Places.{separate_places, out_of}
use Rattle.gb_plan.proofs.Tests.{turned as turned_paths}
use Rattle.gb_plan.proofs.Tests.{any_append, none_left, none_right, not_false, not_true, or_right}
use Rattle.gb_records.specs.Holding.{HoldsRecords}
use Rattle.gb_report.specs.declared.report.Options.{Options}
use Rattle.gb_report.specs.declared.report.Outcome.{Outcome}
use Rattle.gb_report.specs.declared.report.TaskReport.{TaskReport}
use Rattle.gb_exec.proofs.ByNumber.{any_flat}
use Rattle.gb_folder.specs.Changes.{ChangesOnly}
use Rattle.gb_task.specs.Executing.{Registering, setting_with}
use Rattle.gb_task.proofs.Parts.{narrowed}
use Rattle.gb_exec.specs.Building.{is_of_executions}
use Rattle.gb_exec.specs.Built.{HasBuilt, IsExecutionOf, guard}
use Rattle.gb_exec.proofs.Clearly.{clear_of_fewer, clear_or_not}
use Rattle.gb_exec.proofs.Elsewhere.{execution_leaves_others}
use Rattle.gb_exec.proofs.Shut.{HasOwnPlaces, execution_so}

-- what a task's report adds to the outcomes
abbrev pub outcome_in : TaskReport → Path × Outcome
outcome_in report = (report.path, report.outcome)

-- the place is at an output of one of these tasks
abbrev pub is_made_by : List Planned → Place → Bool
is_made_by prefix place = list_any (λ planned. is_output_of planned.task place) prefix

abbrev pub contents_in : Files → List Bytes
contents_in files = map (λ file. file.1) files

-- ---- Places

any_same : {X : Type 0} (p q : X → Bool) → ((x : X) → p x ≡ q x) → (xs : List X) → list_any p xs ≡ list_any q xs
any_same p q same [] = refl
any_same p q same (x ∷ xs) = ap₂ (λ (a b : Bool). a || b) (same x) (any_same p q same xs)

abbrev places_of : List Planned → List Place
places_of plan = flat_map (λ planned. output_places planned.task) plan

made_places : (prefix : List Planned) (q : Place) → is_made_by prefix q ≡ list_any (is_under q) (places_of prefix)
made_places prefix q =
    any_same (λ (planned : Planned). is_output_of planned.task q) (λ planned. list_any (is_under q) (output_places planned.task)) (λ planned. out_of planned.task q) prefix
    ∙ sym (any_flat (is_under q) (λ (planned : Planned). output_places planned.task) prefix)

places_append : (prefix rest : List Planned) → places_of (prefix ++ rest) ≡ places_of prefix ++ places_of rest
places_append [] rest = refl
places_append (planned ∷ prefix) rest =
    ap (λ (places : List Place). output_places planned.task ++ places) (places_append prefix rest) ∙ sym (append_assoc (output_places planned.task) (places_of prefix) (places_of rest))

-- no executed task has an output at a place of a task to come
made_separate : (prefix rest : List Planned) (planned : Planned) → some_overlap (places_of (prefix ++ planned ∷ rest)) ≡ false → (q : Place) → is_made_by prefix q ≡ true
    → is_output_of planned.task q ≡ false
made_separate prefix rest planned separate q made =
    out_of planned.task q
    ∙ none_left (list_any (is_under q) (output_places planned.task)) (list_any (is_under q) (places_of rest))
    (sym (any_append (is_under q) (output_places planned.task) (places_of rest))
    ∙ separate_places q (places_of prefix) (places_of (planned ∷ rest)) (ap some_overlap (sym (places_append prefix (planned ∷ rest))) ∙ separate) (sym (made_places prefix q) ∙ made))

same_narrow : (test wide : Place → Bool) → ((q : Place) → test q ≡ true → wide q ≡ true) → (old new : Files) → files_where wide new ≡ files_where wide old
    → files_where test new ≡ files_where test old
same_narrow test wide h old new e = sym (narrowed test wide h new) ∙ ap (files_where test) e ∙ narrowed test wide h old

wider_differs : (few more : Place → Bool) → ((q : Place) → few q ≡ true → more q ≡ true) → (old new : Files) → DiffersOnlyAt few old new → DiffersOnlyAt more old new
wider_differs few more h old new e = same_narrow (λ q. not (more q)) (λ q. not (few q)) (λ q out. by q (few q) refl out) old new e
  where
    by : (q : Place) (t : Bool) → few q ≡ t → not (more q) ≡ true → not t ≡ true
    by q true is out = not_true (sym (ap not (h q is)) ∙ out)
    by q false is out = refl

others_separate : (path : Path) (rest : List Planned) → list_any (bytes_eq path) (order rest) ≡ false → AllByRecursion (λ (other : Planned). bytes_eq path other.task.path ≡ false) rest
others_separate path [] e = tt
others_separate path (other ∷ rest) e =
    (none_left (bytes_eq path other.task.path) (list_any (bytes_eq path) (order rest)) e, others_separate path rest (none_right (bytes_eq path other.task.path) (list_any (bytes_eq path) (order rest)) e))

module _ (kinds : Kinds) (registry_of : Registering) (may_leave : Tearing) (clear : Bool) (observed : List Bytes) (options : Options) (plan : Plan) (old : State) where
  abbrev pub setting : Setting
  setting = setting_with kinds registry_of may_leave

  abbrev pub rules : Rules
  rules = rules_in setting (own_files old.contents) options plan

  abbrev pub assumed : Guard
  assumed = guard setting clear old

  -- the records of what is remembered exist, and of the tasks to come it is what was remembered at first
  pub record IsStill (rest : List Planned) (files : Files) (memory : Memory) : Type 0 where
    pub existing : HoldsRecords files memory
    pub same : AllByRecursion (λ planned. recalled memory planned.task.path ≡ recalled old.remembered planned.task.path) rest

  -- not all contents that were read are collision-free
  pub record IsLost (observed_now : List Bytes) : Type 0 where
    pub some : List Bytes
    pub not_clear : ¬ assumed some
    pub among : Among some observed_now

  pub record IsUnderway (prefix rest : List Planned) (done : List TaskReport) (now : Shown) : Type 0 where
    pub moment : Moment
    pub observed_now : List Bytes
    pub outcomes : moment.outcomes ≡ map outcome_in done
    pub folder : moment.world.folder ≡ outside now.contents
    pub failures : moment.failures ≡ now.failures
    pub differs : DiffersOnlyAt (is_made_by prefix) (outside old.contents).files (outside now.contents).files
    pub keeps : Among observed observed_now
    -- what was read existed before, or stays at the outputs made so far
    pub among : (later : Files) → files_where (is_made_by prefix) later ≡ files_where (is_made_by prefix) (outside now.contents).files
        → Among observed_now (observed ++ contents_outside old.contents ++ contents_in later)
    pub known : IsStill rest now.contents.files moment.world.memory ⊎ IsLost observed_now
    pub joins : (reports : List TaskReport) (new : Exists) → Executions rules assumed observed_now rest moment reports new
        → Executions rules assumed observed plan (first_moment (record { world = world_in old; failures = old.failures })) (done ++ reports) new

  -- ---- Before the first execution

  pub begun : (IsTrue clear → HoldsRecords old.contents.files old.remembered) → IsUnderway [] plan [] (record { contents = old.contents; failures = old.failures })
  begun exists = record {
    moment = first_moment (record { world = world_in old; failures = old.failures });
    observed_now = observed;
    outcomes = refl;
    folder = refl;
    failures = refl;
    differs = refl;
    keeps = λ c h. h;
    among = λ later e c h. in_left c (observed ++ contents_outside old.contents) (contents_in later) (in_left c observed (contents_outside old.contents) h);
    known = by clear refl;
    joins = λ reports new executions. executions;
  }
    where
      all_same : (rest : List Planned) → AllByRecursion (λ (planned : Planned). recalled old.remembered planned.task.path ≡ recalled old.remembered planned.task.path) rest
      all_same [] = tt
      all_same (planned ∷ rest) = (refl, all_same rest)

      by : (t : Bool) → clear ≡ t → IsStill plan old.contents.files old.remembered ⊎ IsLost observed
      by true e = inl (record { existing = exists e; same = all_same plan })
      by false e = inr (record { some = []; not_clear = λ given. not_false (sym given.0 ∙ e); among = λ c h. not_true h })

  -- ---- One execution more

  module _ (prefix rest : List Planned) (planned : Planned) (whole : plan ≡ prefix ++ planned ∷ rest) (done : List TaskReport) (now : Shown) (u : IsUnderway prefix (planned ∷ rest) done now)
      (report : TaskReport) (next : Shown) (count : now.failures ≤ next.failures) (is_folder : IsFolder next.contents.files)
      (differs : DiffersOnlyAt (is_output_of planned.task) (outside now.contents).files (outside next.contents).files) (special : next.contents.special ≡ now.contents.special)
      (separate : some_overlap (places_of plan) ≡ false) where
    abbrev observed_next : List Bytes
    observed_next = u.observed_now ++ folder_contents u.moment.world

    abbrev existing_next : Memory → Exists
    existing_next memory = record { world = record { folder = outside next.contents; memory = memory }; failures = next.failures }

    files_now : u.moment.world.folder.files ≡ (outside now.contents).files
    files_now = ap (λ (folder : Contents). folder.files) u.folder

    made_out : (q : Place) → is_made_by prefix q ≡ true → is_output_of planned.task q ≡ false
    made_out = made_separate prefix rest planned (ap (λ (p : List Planned). some_overlap (places_of p)) (sym whole) ∙ separate)

    first_of_prefix : (q : Place) → is_made_by prefix q ≡ true → is_made_by (prefix ++ planned ∷ []) q ≡ true
    first_of_prefix q e = any_append (λ (p : Planned). is_output_of p.task q) prefix (planned ∷ []) ∙ ap (λ b. b || list_any (λ (p : Planned). is_output_of p.task q) (planned ∷ [])) e

    last_of_prefix : (q : Place) → is_output_of planned.task q ≡ true → is_made_by (prefix ++ planned ∷ []) q ≡ true
    last_of_prefix q e = any_append (λ (p : Planned). is_output_of p.task q) prefix (planned ∷ []) ∙ or_right (is_made_by prefix q) (is_output_of planned.task q || false) (ap (λ b. b || false) e)

    -- what is at the outputs made so far stays
    stays : (later : Files) → files_where (is_made_by (prefix ++ planned ∷ [])) later ≡ files_where (is_made_by (prefix ++ planned ∷ [])) (outside next.contents).files
        → files_where (is_made_by prefix) later ≡ files_where (is_made_by prefix) (outside now.contents).files
    stays later e =
        same_narrow (is_made_by prefix) (is_made_by (prefix ++ planned ∷ [])) first_of_prefix (outside next.contents).files later e
        ∙ same_narrow (is_made_by prefix) (λ q. not (is_output_of planned.task q)) (λ q made. ap not (made_out q made)) (outside now.contents).files (outside next.contents).files differs

    stepped : (memory : Memory) → (assumed observed_next → Execution rules u.moment planned report (existing_next memory))
        → IsStill rest next.contents.files memory ⊎ IsLost observed_next → IsUnderway (prefix ++ planned ∷ []) rest (done ++ report ∷ []) next
    stepped memory execution known = record {
      moment = moment_after u.moment report (existing_next memory);
      observed_now = observed_next;
      outcomes = ap (λ (os : List (Path × Outcome)). os ++ outcome_in report ∷ []) u.outcomes ∙ sym (map-append outcome_in done (report ∷ []));
      folder = refl;
      failures = refl;
      differs =
          wider_differs (is_output_of planned.task) (is_made_by (prefix ++ planned ∷ [])) last_of_prefix (outside now.contents).files (outside next.contents).files differs
          ∙ wider_differs (is_made_by prefix) (is_made_by (prefix ++ planned ∷ [])) first_of_prefix (outside old.contents).files (outside now.contents).files u.differs;
      keeps = λ c h. in_left c u.observed_now (folder_contents u.moment.world) (u.keeps c h);
      among = λ later e c h. elim (in_one c u.observed_now (folder_contents u.moment.world) h) [
        | inl before ↦ u.among later (stays later e) c before
        | inr here ↦ elim (existed (is_made_by prefix) (outside old.contents).files (outside now.contents).files later u.differs (stays later e) c
            (subst (λ (files : Files). list_any (bytes_eq c) (contents_in files) ≡ true) files_now here)) [
              | inl first ↦ in_left c (observed ++ contents_outside old.contents) (contents_in later) (in_right c observed (contents_outside old.contents) first)
              | inr last ↦ in_right c (observed ++ contents_outside old.contents) (contents_in later) last
            ]
      ];
      known = known;
      joins = λ reports new executions.
          subst (λ (all : List TaskReport). Executions rules assumed observed plan (first_moment (record { world = world_in old; failures = old.failures })) all new)
          (sym (append_assoc done (report ∷ []) reports))
          (u.joins (report ∷ reports) new (
            existing_next memory,
            record {
              folder = folder_where (λ place. not (is_own place)) next.contents.files is_folder;
              files = subst (λ (files : Files). DiffersOnlyAt (is_output_of planned.task) files (outside next.contents).files) (sym files_now) differs;
              special = special ∙ sym (ap (λ (folder : Contents). folder.special) u.folder);
              count = subst (λ (n : ℕ). n ≤ next.failures) (sym u.failures) count;
              execution = execution;
            },
            executions,
          ));
    }

    pub goes_on : (second : Tearing) → SameTearing may_leave second → list_any (bytes_eq planned.task.path) (order rest) ≡ false
        → (assumed observed_next → IsStill (planned ∷ rest) now.contents.files u.moment.world.memory
        → IsExecutionOf (setting_with kinds registry_of second) options plan u.moment planned report now.contents next.failures next.contents)
        → (AllByRecursion HasOwnPlaces prefix × IsTrue (is_task_path planned.task.path) × ChangesOnly (is_of_executions prefix) old.contents now.contents)
        → IsUnderway (prefix ++ planned ∷ []) rest (done ++ report ∷ []) next
    goes_on second alike once taken places = elim (clear_or_not setting old clear observed_next) [
      | inl given ↦ elim u.known [
        | inl still ↦ with_execution (taken given still) still
        | inr lost ↦ absurd (lost.not_clear (clear_of_fewer setting old clear observed_next lost.some
            (λ c h. in_left c u.observed_now (folder_contents u.moment.world) (lost.among c h)) given))
      ]
      | inr not_given ↦ stepped [] (λ given. absurd (not_given given)) (inr (record { some = observed_next; not_clear = not_given; among = λ c h. h }))
    ]
      where
        with_execution : IsExecutionOf (setting_with kinds registry_of second) options plan u.moment planned report now.contents next.failures next.contents
            → IsStill (planned ∷ rest) now.contents.files u.moment.world.memory → IsUnderway (prefix ++ planned ∷ []) rest (done ++ report ∷ []) next
        with_execution turned still =
            stepped turned.memory
            (λ _. execution_so kinds registry_of may_leave second alike options plan prefix old.contents now.contents places.0 places.2 planned places.1 u.moment (existing_next turned.memory) report turned.execution)
            (inl (record { existing = turned.records; same = others rest (others_separate planned.task.path rest once) still.same.1 }))
          where
            turned_over : (one other : Path) → bytes_eq one other ≡ false → bytes_eq other one ≡ false
            turned_over one other e = sym (flipped one other) ∙ e
              where
                flipped : (a b : Path) → bytes_eq a b ≡ bytes_eq b a
                flipped a b = turned_paths a b

            others : (rest : List Planned) → AllByRecursion (λ (other : Planned). bytes_eq planned.task.path other.task.path ≡ false) rest
                → AllByRecursion (λ (other : Planned). recalled u.moment.world.memory other.task.path ≡ recalled old.remembered other.task.path) rest
                → AllByRecursion (λ (other : Planned). recalled turned.memory other.task.path ≡ recalled old.remembered other.task.path) rest
            others [] separate_all same_all = tt
            others (other ∷ more) separate_all same_all = (
              execution_leaves_others (rules_in (setting_with kinds registry_of second) (own_files now.contents) options plan) u.moment planned report (existing_next turned.memory) turned.execution other.task.path
                  (turned_over planned.task.path other.task.path separate_all.0)
                  ∙ same_all.0,
              others more separate_all.1 same_all.1,
            )

  -- ---- After the last execution

  pub built : (done : List TaskReport) (new : Shown) → options.dry_run ≡ false → IsUnderway plan [] done new → HasBuilt setting clear observed options plan old done new
  built done new not_dry u = record {
    remembered = u.moment.world.memory;
    builds = inr (
      not_dry,
      subst (λ (all : List TaskReport). Executions rules assumed observed plan (first_moment (record { world = world_in old; failures = old.failures })) all last) (none_after done)
          (u.joins [] last (ap (λ (folder : Contents). let w : World = record { folder = folder; memory = u.moment.world.memory } in w) (sym u.folder), at_most u.failures)),
    );
    records = λ given. elim u.known [
      | inl still ↦ still.existing
      | inr lost ↦ absurd (lost.not_clear (clear_of_fewer setting old clear (observed ++ contents_outside old.contents ++ contents_outside new.contents) lost.some
          (λ c h. u.among (outside new.contents).files refl c (lost.among c h)) given))
    ];
  }
    where
      last : Exists
      last = record { world = world_in (state_of new u.moment.world.memory); failures = new.failures }

      none_after : (xs : List TaskReport) → xs ++ [] ≡ xs
      none_after [] = refl
      none_after (x ∷ xs) = ap (λ (ys : List TaskReport). x ∷ ys) (none_after xs)

      at_most : u.moment.failures ≡ new.failures → u.moment.failures ≤ new.failures
      at_most e = subst (λ (n : ℕ). u.moment.failures ≤ n) e (omega arith)
