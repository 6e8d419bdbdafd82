-- The one action of a task that writes, and what it makes.
use Rattle.std.specs.Prelude.{◌≡◌, ◌&&◌, Bool, true, false, cond, List, [], ◌∷◌, Result, Ok, Err, bytes_eq, IsTrue}
use Rattle.std.specs.List.{AllByRecursion, fold, list_all}
use Rattle.std.proofs.Common.{refl, sym, ap, subst, ◌∙◌}
use mathlib.Core.Bool.{true≢false}
use Rattle.gb_folder.specs.Files.{Files, is_empty}
use Rattle.gb_action.specs.Files.{Trees}
use Rattle.gb_action.specs.Meanings.{Values}
use Rattle.gb_action.specs.Shapes.{target}
use Rattle.gb_action.specs.declared.reply.Written.{Written}
use Rattle.gb_report.specs.declared.fault.Fault.{Fault}
use Rattle.gb_plan.specs.Task.{Text}
use Rattle.gb_plan.specs.declared.task.Action.{Action}
use Rattle.gb_plan.specs.declared.task.Output.{Output}
use Rattle.gb_plan.specs.declared.task.TaskDeclaration.{TaskDeclaration as Task}
use Rattle.gb_semantics.specs.Kinds.{Kinds, kind_of}
use Rattle.gb_semantics.specs.Label.{has_one_writer}
use Rattle.gb_semantics.specs.Made.{act, placed, put_over, put_result, step_faults}
use Rattle.gb_semantics.proofs.Lemmas.Files.{left_of, right_of}
use Rattle.gb_run.specs.AskingChanges.{IsFitting, KeepsToOwn, writers}
use Rattle.gb_run.proofs.AtPaths.{WritesTarget}

no_cons : {X A : Type 0} (x : X) (xs : List X) → x ∷ xs ≡ [] → A
no_cons x xs e = absurd (let q = e in (cc))

no_nil : {X A : Type 0} (x : X) (xs : List X) → [] ≡ x ∷ xs → A
no_nil x xs e = absurd (let q = e in (cc))

no_err : {T E A : Type 0} (r : Result T E) (x : E) (y : T) → r ≡ Err x → r ≡ Ok y → A
no_err r x y e f = absurd (cc)

pub heads : {X : Type 0} (x y : X) (xs ys : List X) → x ∷ xs ≡ y ∷ ys → x ≡ y
heads x y xs ys e = cc

pub tails : {X : Type 0} (x y : X) (xs ys : List X) → x ∷ xs ≡ y ∷ ys → xs ≡ ys
tails x y xs ys e = cc

pub ok_same : {T E : Type 0} (r : Result T E) (x y : T) → r ≡ Ok x → r ≡ Ok y → x ≡ y
ok_same r x y e f = cc

never : (b : Bool) → (b && false) ≡ true → ⊥
never true e = true≢false (sym e)
never false e = true≢false (sym e)

-- ---- which action it is

pub writer_of : (kinds : Kinds) (actions : List Action) → IsTrue (has_one_writer kinds actions) → (writer : Action) × (writers kinds actions ≡ writer ∷ [])
writer_of kinds actions one = by (writers kinds actions) refl
  where
    by : (ws : List Action) → writers kinds actions ≡ ws → (writer : Action) × (writers kinds actions ≡ writer ∷ [])
    by [] e = absurd (true≢false (sym (rw e at one)))
    by (w ∷ []) e = (w, e)
    by (w ∷ x ∷ more) e = absurd (true≢false (sym (rw e at one)))

module _ (kinds : Kinds) (task : Task) where
  -- it writes, and is one of the actions
  pub fits_writer : (actions : List Action) (writer : Action) (more : List Action) → AllByRecursion (IsFitting kinds task) actions → writers kinds actions ≡ writer ∷ more
      → (kinds.writes (kind_of writer) ≡ true) × IsFitting kinds task writer
  fits_writer [] writer more all e = no_nil writer more e
  fits_writer (action ∷ actions) writer more all e = by (λ w. fits_writer actions writer more all.1 w) (kinds.writes (kind_of action)) refl e
    where
      same : (x y : Action) (xs ys : List Action) → x ∷ xs ≡ y ∷ ys → x ≡ y
      same x y xs ys q = cc

      by : (writers kinds actions ≡ writer ∷ more → (kinds.writes (kind_of writer) ≡ true) × IsFitting kinds task writer) → (b : Bool) → kinds.writes (kind_of action) ≡ b
          → cond b (action ∷ writers kinds actions) (writers kinds actions) ≡ writer ∷ more → (kinds.writes (kind_of writer) ≡ true) × IsFitting kinds task writer
      by again true writes q =
          let is = same action writer (writers kinds actions) more q in
          (ap (λ (a : Action). kinds.writes (kind_of a)) (sym is) ∙ writes, subst (IsFitting kinds task) is all.0)
      by again false writes q = again q

-- ---- what it writes

module _ (kinds : Kinds) (action : Action) (keeps : KeepsToOwn kinds action) where
  each_target : (written : List Written) → list_all (λ (file : Written). bytes_eq file.output target && kinds.writes (kind_of action)) written ≡ true → WritesTarget written
  each_target [] all = tt
  each_target (file ∷ written) all = (
    left_of (bytes_eq file.output target) (kinds.writes (kind_of action)) (left_of (bytes_eq file.output target && kinds.writes (kind_of action)) (list_all (λ (f : Written). bytes_eq f.output target && kinds.writes (kind_of action)) written) all),
    each_target written (right_of (bytes_eq file.output target && kinds.writes (kind_of action)) (list_all (λ (f : Written). bytes_eq f.output target && kinds.writes (kind_of action)) written) all),
  )

  pub writes_target : (args : _) (values : Values) (trees : Trees) (written : List Written) → kinds.makes (kind_of action) args values trees ≡ Ok written → WritesTarget written
  writes_target args values trees written makes = each_target written (keeps args values trees written makes)

  -- an action that does not write makes nothing
  pub writes_none : (args : _) (values : Values) (trees : Trees) (written : List Written) → kinds.writes (kind_of action) ≡ false → kinds.makes (kind_of action) args values trees ≡ Ok written → written ≡ []
  writes_none args values trees [] none makes = refl
  writes_none args values trees (file ∷ written) none makes =
      absurd (never (bytes_eq file.output target)
      (ap (λ b. bytes_eq file.output target && b) (sym none) ∙ left_of (bytes_eq file.output target && kinds.writes (kind_of action)) (list_all (λ (f : Written). bytes_eq f.output target && kinds.writes (kind_of action)) written) (keeps args values trees (file ∷ written) makes)))

-- ---- what all of them make

module _ (kinds : Kinds) (task : Task) (values : Values) (trees : Trees) where
  abbrev outputs : List Output
  outputs = task.outputs

  abbrev goes : Result Files (List Fault) → List Action → Result Files (List Fault)
  goes held actions = fold (act kinds task.outputs values trees) held actions

  stays_err : (faults : List Fault) (actions : List Action) → goes (Err faults) actions ≡ Err faults
  stays_err faults [] = refl
  stays_err faults (action ∷ actions) = stays_err faults actions

  never_ok : {A : Type 0} (faults : List Fault) (actions : List Action) (new : Files) → goes (Err faults) actions ≡ Ok new → A
  never_ok faults actions new e = no_err (goes (Err faults) actions) faults new (stays_err faults actions) e

  -- the first action's result leads on, if all of them end well
  pub record GoesBy (action : Action) (actions : List Action) (held new : Files) : Type 0 where
    pub written : List Written
    pub makes : kinds.makes (kind_of action) action.args values trees ≡ Ok written
    pub free : is_empty (step_faults task.outputs held (placed task.outputs written)) ≡ true
    pub later : goes (Ok (put_over held (placed task.outputs written))) actions ≡ Ok new

  pub first_goes : (action : Action) (actions : List Action) (held new : Files) → goes (Ok held) (action ∷ actions) ≡ Ok new → GoesBy action actions held new
  first_goes action actions held new e = by (kinds.makes (kind_of action) action.args values trees) refl e
    where
      by : (r : Result (List Written) Text) → kinds.makes (kind_of action) action.args values trees ≡ r → goes (put_result task.outputs held r) actions ≡ Ok new → GoesBy action actions held new
      by (Err text) is q = never_ok _ actions new q
      by (Ok written) is q = free_by (is_empty (step_faults task.outputs held (placed task.outputs written))) refl q
        where
          free_by : (b : Bool) → is_empty (step_faults task.outputs held (placed task.outputs written)) ≡ b
              → goes (cond b (Ok (put_over held (placed task.outputs written))) (Err (step_faults task.outputs held (placed task.outputs written)))) actions ≡ Ok new → GoesBy action actions held new
          free_by true free p = record { written = written; makes = is; free = free; later = p }
          free_by false free p = never_ok _ actions new p

  -- actions that do not write leave what is held
  pub none_made : (actions : List Action) (held new : Files) → AllByRecursion (IsFitting kinds task) actions → writers kinds actions ≡ [] → goes (Ok held) actions ≡ Ok new → new ≡ held
  none_made [] held new all none e = sym (ok_same (goes (Ok held) []) held new refl e)
  none_made (action ∷ actions) held new all none e = by (λ w q. none_made actions held new all.1 w q) (kinds.writes (kind_of action)) refl none (first_goes action actions held new e)
    where
      by : (writers kinds actions ≡ [] → goes (Ok held) actions ≡ Ok new → new ≡ held) → (b : Bool) → kinds.writes (kind_of action) ≡ b → cond b (action ∷ writers kinds actions) (writers kinds actions) ≡ []
          → GoesBy action actions held new → new ≡ held
      by again true writes q goes_by = no_cons action (writers kinds actions) q
      by again false writes q goes_by =
          again q (ap (λ w. goes (Ok (put_over held (placed task.outputs w))) actions) (sym (writes_none kinds action all.0.keeps action.args values trees goes_by.written writes goes_by.makes)) ∙ goes_by.later)

  -- the files are those of the writer
  pub record IsOfWriter (writer : Action) (held new : Files) : Type 0 where
    pub written : List Written
    pub makes : kinds.makes (kind_of writer) writer.args values trees ≡ Ok written
    pub free : is_empty (step_faults task.outputs held (placed task.outputs written)) ≡ true
    pub files : new ≡ put_over held (placed task.outputs written)

  pub writer_made : (actions : List Action) (writer : Action) (held new : Files) → AllByRecursion (IsFitting kinds task) actions → writers kinds actions ≡ writer ∷ [] → goes (Ok held) actions ≡ Ok new
      → IsOfWriter writer held new
  writer_made [] writer held new all one e = no_nil writer [] one
  writer_made (action ∷ actions) writer held new all one e = by (λ w q. writer_made actions writer held new all.1 w q) (kinds.writes (kind_of action)) refl one (first_goes action actions held new e)
    where
      heads : (x y : Action) (xs ys : List Action) → x ∷ xs ≡ y ∷ ys → x ≡ y
      heads x y xs ys q = cc

      tails : (x y : Action) (xs ys : List Action) → x ∷ xs ≡ y ∷ ys → xs ≡ ys
      tails x y xs ys q = cc

      by : (writers kinds actions ≡ writer ∷ [] → goes (Ok held) actions ≡ Ok new → IsOfWriter writer held new) → (b : Bool) → kinds.writes (kind_of action) ≡ b
          → cond b (action ∷ writers kinds actions) (writers kinds actions) ≡ writer ∷ [] → GoesBy action actions held new → IsOfWriter writer held new
      by again true writes q goes_by =
          subst (λ (w : Action). IsOfWriter w held new) (heads action writer (writers kinds actions) [] q) (record {
            written = goes_by.written;
            makes = goes_by.makes;
            free = goes_by.free;
            files = none_made actions (put_over held (placed task.outputs goes_by.written)) new all.1 (tails action writer (writers kinds actions) [] q) goes_by.later;
          })
      by again false writes q goes_by =
          again q (ap (λ w. goes (Ok (put_over held (placed task.outputs w))) actions) (sym (writes_none kinds action all.0.keeps action.args values trees goes_by.written writes goes_by.makes)) ∙ goes_by.later)
