-- The reply of a task's writer to an incremental request leads from the current files to what it makes.
use Rattle.std.specs.Prelude.{ℕ, ◌≡◌, ◌≢◌, ◌⊎◌, ◌&&◌, ◌||◌, Bool, true, false, not, cond, List, [], ◌∷◌, Option, Some, None, is_some, option_map, unwrap_or, bytes_eq, if◌then◌else◌}
use Rattle.std.specs.List.{AllByRecursion, flat_map}
use Rattle.std.specs.Option.{option_or}
use Rattle.std.specs.Ordering.{eq_by_cmp, is_lt}
use Rattle.std.specs.FinMap.Entries.{below_all, find, is_sorted}
use Rattle.std.proofs.Common.{refl, sym, ap, subst, ◌∙◌, inl, inr}
use mathlib.Core.Bool.{true≢false}
use Rattle.gb_core.specs.Lists.{byte_order}
use Rattle.gb_core.specs.Place.{beneath, is_place}
use Rattle.gb_core.proofs.Found.{find-same}
use Rattle.gb_folder.specs.Files.{Place, Bytes, Files, are_placed, file_at, with_left}
use Rattle.gb_report.specs.declared.fault.Fault.TheVariants as faults
use Rattle.gb_action.specs.Changes.{Changes}
use Rattle.gb_action.specs.Files.{Trees}
use Rattle.gb_action.specs.Outputs.{is_named, is_removed, left_at, exists_at, written_at}
use Rattle.gb_action.specs.Shapes.{target}
use Rattle.gb_action.specs.declared.output_files.OutputFiles.{OutputFiles}
use Rattle.gb_action.specs.declared.reply.OutputPath.{OutputPath}
use Rattle.gb_action.specs.declared.reply.Reply.{Reply}
use Rattle.gb_action.specs.declared.reply.Written.{Written}
use Rattle.gb_plan.specs.Task.{is_output_of}
use Rattle.gb_plan.specs.declared.task.Output.{Output}
use Rattle.gb_plan.specs.declared.task.TaskDeclaration.{TaskDeclaration as Task}
use Rattle.gb_plan.proofs.Tests.{itself, or_true}
use Rattle.gb_semantics.specs.Kinds.{Kinds, kind_of}
use Rattle.gb_semantics.specs.Made.{file_faults, fault_if, output_named, placed, put_over, rest_of, step_faults}
use Rattle.gb_semantics.proofs.Lemmas.Files.{at-put_over, at-where, left_of, or_else, right_of, same_files, same_place, sorted-put_over, sorted-where}
use Rattle.gb_run.specs.AskingChanges.{IsFitting}
use Rattle.gb_run.specs.ChangeLaws.{IsReplied, RepliesAreMade, RepliesLeadOn}
use Rattle.gb_run.specs.Named.{files_left, held_after, named, put, existing, steps_of}
use Rattle.gb_run.specs.Steps.{LeadTo, Step, after_steps, in_step_order, put_steps}
use Rattle.gb_run.proofs.Agreed.{some_same}
use Rattle.gb_run.proofs.AtPaths.{Elsewhere, Here, IsElsewhere, RemovesTarget, Where, WritesTarget, at_named, at_placed, named_elsewhere, placed_elsewhere, whether}
use Rattle.gb_run.proofs.Following.{at_target, follows, no_some, or_none, observed_target, existed_elsewhere, unobserved, unwritten}
use Rattle.gb_run.proofs.Looks.{at_in_execution, both_of, none_again, sorted_steps}
use Rattle.gb_run.proofs.Placed.{none_after, none_before}
use Rattle.gb_run.proofs.Observed.{all_back}
use Rattle.gb_run.proofs.Writer.{fits_writer, writes_target}
use Rattle.gb_tree.proofs.Holding.{all_append}
use Rattle.gb_tree.proofs.InOrder.{all_filter}

-- ---- steps by place

-- what holds of what is found holds of all
pub all_found : {X : Type 0} (P : Place × X → Type 0) (steps : List (Place × X)) → is_sorted byte_order steps ≡ true → ((q : Place) (v : X) → find byte_order q steps ≡ Some v → P (q, v)) → AllByRecursion P steps
all_found P [] h each = tt
all_found P (s ∷ steps) h each = (
  each s.0 s.1 (find-same s.0 s steps refl),
  all_found P steps (right_of (below_all byte_order s.0 steps) (is_sorted byte_order steps) h) (λ q v found. each q v (later q v found)),
)
  where
    later : (q : Place) (v : _) → find byte_order q steps ≡ Some v → find byte_order q (s ∷ steps) ≡ Some v
    later q v found = by (eq_by_cmp byte_order q s.0) refl
      where
        by : (b : Bool) → eq_by_cmp byte_order q s.0 ≡ b → cond b (Some s.1) (find byte_order q steps) ≡ Some v
        by true e = no_some (find byte_order q steps) v (none_again q s steps h e) found
        by false e = found

pub all_in_execution : (P : Step → Type 0) (steps : List Step) → AllByRecursion P steps → AllByRecursion P (in_step_order steps)
all_in_execution P steps all =
    all_append P _ _ (all_filter P (λ (s : Step). is_place s.0 && not (is_some s.1)) steps all) (all_filter P (λ (s : Step). is_place s.0 && is_some s.1) steps all)

-- steps keep files in order
sorted_left : (files : Files) (place : Place) (left : Option Bytes) → is_sorted byte_order files ≡ true → is_sorted byte_order (with_left files place left) ≡ true
sorted_left files place None h = sorted-where (λ other. not (bytes_eq other place)) files h
sorted_left files place (Some bytes) h = sorted-put_over files ((place, bytes) ∷ []) h

pub sorted_after : (old : Files) (steps : List Step) → is_sorted byte_order old ≡ true → is_sorted byte_order (after_steps old steps) ≡ true
sorted_after old [] h = h
sorted_after old (s ∷ steps) h = sorted_after (with_left old s.0 s.1) steps (sorted_left old s.0 s.1 h)

-- ---- the files of steps

below_left : (p : Place) (steps : List Step) → below_all byte_order p steps ≡ true → below_all byte_order p (files_left steps) ≡ true
below_left p [] h = refl
below_left p ((q, None) ∷ steps) h = below_left p steps (right_of (is_lt (byte_order p q)) (below_all byte_order p steps) h)
below_left p ((q, Some b) ∷ steps) h =
    both_of (is_lt (byte_order p q)) (below_all byte_order p (files_left steps)) (left_of (is_lt (byte_order p q)) (below_all byte_order p steps) h)
    (below_left p steps (right_of (is_lt (byte_order p q)) (below_all byte_order p steps) h))

sorted_files : (steps : List Step) → is_sorted byte_order steps ≡ true → is_sorted byte_order (files_left steps) ≡ true
sorted_files [] h = refl
sorted_files ((q, None) ∷ steps) h = sorted_files steps (right_of (below_all byte_order q steps) (is_sorted byte_order steps) h)
sorted_files ((q, Some b) ∷ steps) h =
    both_of (below_all byte_order q (files_left steps)) (is_sorted byte_order (files_left steps)) (below_left q steps (left_of (below_all byte_order q steps) (is_sorted byte_order steps) h))
    (sorted_files steps (right_of (below_all byte_order q steps) (is_sorted byte_order steps) h))

pub at_files : (steps : List Step) → is_sorted byte_order steps ≡ true → (q : Place) → file_at (files_left steps) q ≡ unwrap_or (find byte_order q steps) None
at_files [] h q = refl
at_files ((p, None) ∷ steps) h q =
    at_files steps (right_of (below_all byte_order p steps) (is_sorted byte_order steps) h) q ∙ by (eq_by_cmp byte_order q p) refl
  where
    by : (b : Bool) → eq_by_cmp byte_order q p ≡ b → unwrap_or (find byte_order q steps) None ≡ unwrap_or (cond b (Some None) (find byte_order q steps)) None
    by true e = ap (λ o. unwrap_or o None) (none_again q (p, None) steps h e)
    by false e = refl
at_files ((p, Some x) ∷ steps) h q =
    ap (cond (eq_by_cmp byte_order q p) (Some x)) (at_files steps (right_of (below_all byte_order p steps) (is_sorted byte_order steps) h) q) ∙ by (eq_by_cmp byte_order q p)
  where
    by : (b : Bool) → cond b (Some x) (unwrap_or (find byte_order q steps) None) ≡ unwrap_or (cond b (Some (Some x)) (find byte_order q steps)) None
    by true = refl
    by false = refl

-- ---- which outputs a reply names

named_writes : (P : Written → Type 0) (files : List Written) → ((file : Written) → is_some (written_at files file.output file.path) ≡ true → P file) → AllByRecursion P files
named_writes P [] each = tt
named_writes P (file ∷ files) each = (each file first, named_writes P files (λ f some. each f (later f some)))
  where
    first : is_some (option_or (written_at files file.output file.path) (if bytes_eq file.output file.output && bytes_eq file.path file.path then Some file.bytes else None)) ≡ true
    first = by (written_at files file.output file.path)
      where
        own : (bytes_eq file.output file.output && bytes_eq file.path file.path) ≡ true
        own = both_of (bytes_eq file.output file.output) (bytes_eq file.path file.path) (itself file.output) (itself file.path)

        by : (o : Option Bytes) → is_some (option_or o (if bytes_eq file.output file.output && bytes_eq file.path file.path then Some file.bytes else None)) ≡ true
        by None = ap (λ b. is_some (if b then Some file.bytes else None)) own
        by (Some x) = refl

    later : (f : Written) → is_some (written_at files f.output f.path) ≡ true → is_some (written_at (file ∷ files) f.output f.path) ≡ true
    later f some = by (written_at files f.output f.path) some
      where
        by : (o : Option Bytes) → is_some o ≡ true → is_some (option_or o (if bytes_eq file.output f.output && bytes_eq file.path f.path then Some file.bytes else None)) ≡ true
        by None e = absurd (true≢false (sym e))
        by (Some x) e = refl

named_removes : (P : OutputPath → Type 0) (removes : List OutputPath) → ((path : OutputPath) → is_removed removes path.output path.path ≡ true → P path) → AllByRecursion P removes
named_removes P [] each = tt
named_removes P (path ∷ removes) each = (
  each path (ap (λ b. b || is_removed removes path.output path.path) (both_of (bytes_eq path.output path.output) (bytes_eq path.path path.path) (itself path.output) (itself path.path))),
  named_removes P removes (λ p is. each p (ap (λ b. (bytes_eq path.output p.output && bytes_eq path.path p.path) || b) is ∙ or_true (bytes_eq path.output p.output && bytes_eq path.path p.path))),
)

-- ---- files without a fault are at places

is_good : (b : Bool) (fault : _) → fault_if (not b) fault ≡ [] → b ≡ true
is_good true fault e = refl
is_good false fault e = absurd (cc)

placed_files : (all files : Files) → flat_map (file_faults all) files ≡ [] → are_placed files ≡ true
placed_files all [] e = refl
placed_files all (file ∷ files) e =
    both_of (is_place file.0) (are_placed files)
    (is_good (is_place file.0) (faults.BadPlace file.0)
    (none_before (fault_if (not (is_place file.0)) (faults.BadPlace file.0)) _ (none_before _ _ (none_before (file_faults all file) (flat_map (file_faults all) files) e))))
    (placed_files all files (none_after (file_faults all file) (flat_map (file_faults all) files) e))

-- at what is no place there is no file
nowhere : (files : Files) (q : Place) → are_placed files ≡ true → is_place q ≡ false → file_at files q ≡ None
nowhere [] q good not_one = refl
nowhere (file ∷ files) q good not_one =
    ap (λ b. cond b (Some file.1) (file_at files q)) (by (eq_by_cmp byte_order q file.0) refl) ∙ nowhere files q (right_of (is_place file.0) (are_placed files) good) not_one
  where
    by : (b : Bool) → eq_by_cmp byte_order q file.0 ≡ b → b ≡ false
    by true e = absurd (true≢false (sym (ap is_place (same_place q file.0 e) ∙ left_of (is_place file.0) (are_placed files) good) ∙ not_one))
    by false e = refl

-- ---- the reply

module _ (kinds : Kinds) (task : Task) (trees : Trees) (changes : List Changes) (observed : List OutputFiles) (files : Files) (reply : Reply) (written : List Written)
    (r : IsReplied kinds task trees changes observed files reply written) where
  fits : (kinds.writes (kind_of r.writer) ≡ true) × IsFitting kinds task r.writer
  fits = fits_writer kinds task task.actions r.writer [] r.fitting r.writes

  found : (output : Output) × (output_named task.outputs target ≡ Some output)
  found = by (output_named task.outputs target) refl
    where
      by : (o : Option Output) → output_named task.outputs target ≡ o → (output : Output) × (output_named task.outputs target ≡ Some output)
      by None e = absurd (true≢false (sym (sym (ap is_some e) ∙ fits.1.has_target fits.0)))
      by (Some output) e = (output, e)

  abbrev output : Output
  output = found.0

  abbrev root : Place
  root = found.0.place

  now_target : WritesTarget written
  now_target = writes_target kinds r.writer fits.1.keeps r.writer.args task.values trees written r.makes

  abbrev made : Files
  made = put_over [] (placed task.outputs written)

  abbrev steps : List Step
  steps = steps_of task.outputs reply.removes reply.writes

  made_at : (path : List ℕ) → file_at made (beneath root path) ≡ written_at written target path
  made_at path = at_placed task.outputs output found.1 [] written now_target path ∙ or_none (written_at written target path)

  made_elsewhere : (q : Place) → IsElsewhere task.outputs output found.1 q → file_at made q ≡ None
  made_elsewhere q other = placed_elsewhere task.outputs output found.1 [] written now_target q other

  observed_here : (path : List ℕ) → exists_at observed target path ≡ file_at files (beneath root path)
  observed_here path = observed_target kinds task r.old trees changes observed files r.are_placed r.fitting r.goes_on r.writer r.writes fits.1 output found.1 path

  carried : (name path : List ℕ) → left_at reply observed name path ≡ written_at written name path
  carried name path =
      r.carries.carried r.old (follows kinds task r.old trees changes observed files r.are_placed r.fitting r.goes_on r.writer r.writes fits.1 output found.1) written r.makes name path

  frugal : (name path : List ℕ) → is_named reply name path ≡ true → exists_at observed name path ≢ written_at written name path
  frugal name path is =
      r.carries.frugal r.old (follows kinds task r.old trees changes observed files r.are_placed r.fitting r.goes_on r.writer r.writes fits.1 output found.1) written r.makes name path is

  -- only the output that kinds write is named
  only_target : (name path : List ℕ) → is_named reply name path ≡ true → bytes_eq name target ≡ true
  only_target name path is = by (bytes_eq name target) refl
    where
      by : (b : Bool) → bytes_eq name target ≡ b → b ≡ true
      by true e = refl
      by false e = absurd (frugal name path is
          (unobserved kinds task r.old trees changes observed files r.are_placed r.fitting r.goes_on r.writer r.writes fits.1 output found.1 name path e ∙ sym (unwritten written now_target name path e)))

  writes : WritesTarget reply.writes
  writes = named_writes (λ (file : Written). bytes_eq file.output target ≡ true) reply.writes
      (λ file some. only_target file.output file.path (ap (λ b. b || is_removed reply.removes file.output file.path) some))

  removes : RemovesTarget reply.removes
  removes = named_removes (λ (path : OutputPath). bytes_eq path.output target ≡ true) reply.removes
      (λ path is. only_target path.output path.path (ap (λ b. is_some (written_at reply.writes path.output path.path) || b) is ∙ or_true (is_some (written_at reply.writes path.output path.path))))

  step_at : (held : List Step) (path : List ℕ)
      → find byte_order (beneath root path) (put_steps held (named task.outputs reply.removes reply.writes))
      ≡ option_or (option_map (λ b. Some b) (written_at reply.writes target path)) (cond (is_removed reply.removes target path) (Some None) (find byte_order (beneath root path) held))
  step_at held path = at_named task.outputs output found.1 held reply writes removes path

  step_elsewhere : (held : List Step) (q : Place) → IsElsewhere task.outputs output found.1 q → find byte_order q (put_steps held (named task.outputs reply.removes reply.writes)) ≡ find byte_order q held
  step_elsewhere held q other = named_elsewhere task.outputs output found.1 held reply writes removes q other

  -- ---- what is held then

  abbrev existed : List Step
  existed = put_steps [] (put (existing task.outputs observed))

  existed_now : (q : Place) → find byte_order q existed ≡ cond (is_output_of task q && is_some (file_at files q)) (Some (Some (unwrap_or (file_at files q) []))) None
  existed_now q =
      ap (λ (outs : List OutputFiles). find byte_order q (put_steps [] (put (existing task.outputs outs)))) r.goes_on.exists
      ∙ all_back files r.are_placed task.outputs r.goes_on.not_own [] q

  pub held_is_made : held_after task.outputs observed reply.removes reply.writes ≡ put_over [] (placed task.outputs written)
  held_is_made =
      same_files (held_after task.outputs observed reply.removes reply.writes) (put_over [] (placed task.outputs written)) (sorted_files (put_steps existed (named task.outputs reply.removes reply.writes)) sorted) (sorted-put_over [] (placed task.outputs written) refl)
      (λ q. at_files (put_steps existed (named task.outputs reply.removes reply.writes)) sorted q ∙ at q)
    where
      sorted : is_sorted byte_order (put_steps existed (named task.outputs reply.removes reply.writes)) ≡ true
      sorted = sorted_steps existed (named task.outputs reply.removes reply.writes) (sorted_steps [] (put (existing task.outputs observed)) refl)

      here : (path : List ℕ) → find byte_order (beneath root path) existed ≡ option_map (λ b. Some b) (exists_at observed target path)
      here path =
          existed_now (beneath root path)
          ∙ ap (λ b. cond (b && is_some (file_at files (beneath root path))) (Some (Some (unwrap_or (file_at files (beneath root path)) []))) None)
          (at_target kinds task r.old trees changes observed files r.are_placed r.fitting r.goes_on r.writer r.writes fits.1 output found.1 path)
          ∙ by (file_at files (beneath root path)) ∙ ap (option_map (λ b. Some b)) (sym (observed_here path))
        where
          by : (o : Option Bytes) → cond (is_some o) (Some (Some (unwrap_or o []))) None ≡ option_map (λ b. Some b) o
          by None = refl
          by (Some x) = refl

      nothing : (q : Place) → IsElsewhere task.outputs output found.1 q → find byte_order q existed ≡ None
      nothing q other = existed_now q ∙ by (is_output_of task q) refl
        where
          by : (b : Bool) → is_output_of task q ≡ b → cond (b && is_some (file_at files q)) (Some (Some (unwrap_or (file_at files q) []))) None ≡ None
          by true e =
              ap (λ o. cond (is_some o) (Some (Some (unwrap_or o []))) None)
              (existed_elsewhere kinds task r.old trees changes observed files r.are_placed r.fitting r.goes_on r.writer r.writes fits.1 output found.1 q e other)
          by false e = refl

      left : (w : Option Bytes) (b : Bool) (s : Option Bytes)
          → unwrap_or (option_or (option_map (λ x. Some x) w) (cond b (Some None) (option_map (λ x. Some x) s))) None ≡ option_or w (if b then None else s)
      left (Some x) b s = refl
      left None true s = refl
      left None false None = refl
      left None false (Some x) = refl

      at : (q : Place) → unwrap_or (find byte_order q (put_steps existed (named task.outputs reply.removes reply.writes))) None ≡ file_at made q
      at q = by (whether task.outputs output found.1 q)
        where
          by : Where task.outputs output found.1 q → unwrap_or (find byte_order q (put_steps existed (named task.outputs reply.removes reply.writes))) None ≡ file_at made q
          by (Here path same) =
              ap (λ p. unwrap_or (find byte_order p (put_steps existed (named task.outputs reply.removes reply.writes))) None) same
              ∙ ap (λ o. unwrap_or o None) (step_at existed path)
              ∙ ap (λ o. unwrap_or (option_or (option_map (λ x. Some x) (written_at reply.writes target path)) (cond (is_removed reply.removes target path) (Some None) o)) None) (here path)
              ∙ left (written_at reply.writes target path) (is_removed reply.removes target path) (exists_at observed target path)
              ∙ carried target path ∙ sym (made_at path) ∙ ap (file_at made) (sym same)
          by (Elsewhere other) = ap (λ o. unwrap_or o None) (step_elsewhere existed q other ∙ nothing q other) ∙ sym (made_elsewhere q other)

  -- ---- what its steps lead to

  abbrev goal_files : Files
  goal_files = put_over (rest_of task files) (put_over [] (placed task.outputs written))

  sorted_made : is_sorted byte_order (put_over [] (placed task.outputs written)) ≡ true
  sorted_made = sorted-put_over [] (placed task.outputs written) refl

  steps_sorted : is_sorted byte_order (put_steps [] (named task.outputs reply.removes reply.writes)) ≡ true
  steps_sorted = sorted_steps [] (named task.outputs reply.removes reply.writes) refl

  rest_at : (q : Place) → file_at (rest_of task files) q ≡ cond (not (is_output_of task q)) (file_at files q) None
  rest_at q = at-where (λ place. not (is_output_of task place)) files q

  new_at : (q : Place) → file_at goal_files q ≡ or_else (file_at made q) (cond (not (is_output_of task q)) (file_at files q) None)
  new_at q = at-put_over (rest_of task files) made q sorted_made ∙ ap (or_else (file_at made q)) (rest_at q)

  new_here : (path : List ℕ) → file_at goal_files (beneath root path) ≡ written_at written target path
  new_here path =
      new_at (beneath root path)
      ∙ ap (λ b. or_else (file_at made (beneath root path)) (cond (not b) (file_at files (beneath root path)) None))
      (at_target kinds task r.old trees changes observed files r.are_placed r.fitting r.goes_on r.writer r.writes fits.1 output found.1 path)
      ∙ by (file_at made (beneath root path)) ∙ made_at path
    where
      by : (o : Option Bytes) → or_else o None ≡ o
      by None = refl
      by (Some x) = refl

  new_elsewhere : (q : Place) → IsElsewhere task.outputs output found.1 q → file_at goal_files q ≡ file_at files q
  new_elsewhere q other = new_at q ∙ ap (λ o. or_else o (cond (not (is_output_of task q)) (file_at files q) None)) (made_elsewhere q other) ∙ by (is_output_of task q) refl
    where
      by : (b : Bool) → is_output_of task q ≡ b → cond (not b) (file_at files q) None ≡ file_at files q
      by true e = sym (existed_elsewhere kinds task r.old trees changes observed files r.are_placed r.fitting r.goes_on r.writer r.writes fits.1 output found.1 q e other)
      by false e = refl

  -- a step is one of those that the reply names
  record IsStep (q : Place) (v : Option Bytes) : Type 0 where
    path : List ℕ
    place : q ≡ beneath root path
    name : is_named reply target path ≡ true
    means : (v ≡ None) ⊎ (v ≡ written_at written target path)

  step_is : (q : Place) (v : Option Bytes) → find byte_order q (put_steps [] (named task.outputs reply.removes reply.writes)) ≡ Some v → IsStep q v
  step_is q v e = by (whether task.outputs output found.1 q)
    where
      named_by : (path : List ℕ) → q ≡ beneath root path → (w : Option Bytes) (b : Bool) → written_at reply.writes target path ≡ w → is_removed reply.removes target path ≡ b
          → option_or (option_map (λ x. Some x) w) (cond b (Some None) None) ≡ Some v → IsStep q v
      named_by path place (Some x) b w f is = record {
        path = path;
        place = place;
        name = ap (λ o. is_some o || is_removed reply.removes target path) w;
        means = inr (sym (some_same (Some x) v is) ∙ sym (ap (λ o. option_or o (if is_removed reply.removes target path then None else exists_at observed target path)) w) ∙ carried target path);
      }
      named_by path place None true w f is = record {
        path = path;
        place = place;
        name = ap (λ b. is_some (written_at reply.writes target path) || b) f ∙ or_true (is_some (written_at reply.writes target path));
        means = inl (sym (some_same None v is));
      }
      named_by path place None false w f is = absurd (let none = is in (cc))

      by : Where task.outputs output found.1 q → IsStep q v
      by (Here path place) =
          named_by path place (written_at reply.writes target path) (is_removed reply.removes target path) refl refl
          (sym (step_at [] path) ∙ ap (λ p. find byte_order p (put_steps [] (named task.outputs reply.removes reply.writes))) (sym place) ∙ e)
      by (Elsewhere other) = no_some (find byte_order q (put_steps [] (named task.outputs reply.removes reply.writes))) v (step_elsewhere [] q other) e

  needs : (q : Place) (v : Option Bytes) → IsStep q v → file_at files q ≢ file_at goal_files q
  needs q v is same =
      frugal target is.path is.name
      (observed_here is.path ∙ ap (file_at files) (sym is.place) ∙ same ∙ ap (file_at goal_files) is.place ∙ new_here is.path)

  means : (q : Place) (v : Option Bytes) → IsStep q v → (v ≡ None) ⊎ (v ≡ file_at goal_files q)
  means q v is = by is.means
    where
      by : (v ≡ None) ⊎ (v ≡ written_at written target is.path) → (v ≡ None) ⊎ (v ≡ file_at goal_files q)
      by (inl none) = inl none
      by (inr is_made) = inr (is_made ∙ sym (new_here is.path) ∙ ap (file_at goal_files) (sym is.place))

  module _ (none : step_faults task.outputs [] (placed task.outputs written) ≡ []) where
    good_made : are_placed made ≡ true
    good_made = placed_files made made (none_before (flat_map (file_faults made) made) _ none)

    after_at : (q : Place) → file_at (after_steps files (in_step_order steps)) q ≡ file_at goal_files q
    after_at q = at_in_execution files steps q steps_sorted ∙ by (whether task.outputs output found.1 q)
      where
        here : (path : List ℕ) (b : Bool) → is_place (beneath root path) ≡ b
            → cond b (unwrap_or (find byte_order (beneath root path) steps) (file_at files (beneath root path))) (file_at files (beneath root path)) ≡ file_at goal_files (beneath root path)
        here path true e =
            ap (λ o. unwrap_or o (file_at files (beneath root path))) (step_at [] path)
            ∙ ap (unwrap_or (option_or (option_map (λ x. Some x) (written_at reply.writes target path)) (cond (is_removed reply.removes target path) (Some None) None))) (sym (observed_here path))
            ∙ left (written_at reply.writes target path) (is_removed reply.removes target path) (exists_at observed target path)
            ∙ carried target path ∙ sym (new_here path)
          where
            left : (w : Option Bytes) (b : Bool) (s : Option Bytes)
                → unwrap_or (option_or (option_map (λ x. Some x) w) (cond b (Some None) None)) s ≡ option_or w (if b then None else s)
            left (Some x) b s = refl
            left None true s = refl
            left None false s = refl
        here path false e =
            nowhere files (beneath root path) r.are_placed e ∙ sym (nowhere made (beneath root path) good_made e) ∙ made_at path ∙ sym (new_here path)

        by : Where task.outputs output found.1 q → cond (is_place q) (unwrap_or (find byte_order q steps) (file_at files q)) (file_at files q) ≡ file_at goal_files q
        by (Here path same) = subst (λ p. cond (is_place p) (unwrap_or (find byte_order p steps) (file_at files p)) (file_at files p) ≡ file_at goal_files p) (sym same) (here path (is_place (beneath root path)) refl)
        by (Elsewhere other) =
            ap (λ o. cond (is_place q) (unwrap_or o (file_at files q)) (file_at files q)) (step_elsewhere [] q other)
            ∙ either (is_place q) ∙ sym (new_elsewhere q other)
          where
            either : (b : Bool) → cond b (file_at files q) (file_at files q) ≡ file_at files q
            either true = refl
            either false = refl

    pub leads : LeadTo files (put_over (rest_of task files) (put_over [] (placed task.outputs written))) (in_step_order (steps_of task.outputs reply.removes reply.writes))
    leads = record {
      needed = all_in_execution (λ (s : Step). file_at files s.0 ≢ file_at goal_files s.0) steps
          (all_found (λ (s : Step). file_at files s.0 ≢ file_at goal_files s.0) steps steps_sorted (λ q v e. needs q v (step_is q v e)));
      meant = all_in_execution (λ (s : Step). (s.1 ≡ None) ⊎ (s.1 ≡ file_at goal_files s.0)) steps
          (all_found (λ (s : Step). (s.1 ≡ None) ⊎ (s.1 ≡ file_at goal_files s.0)) steps steps_sorted (λ q v e. means q v (step_is q v e)));
      reached = same_files (after_steps files (in_step_order steps)) goal_files (sorted_after files (in_step_order steps) r.in_order)
          (sorted-put_over (rest_of task files) made (sorted-where (λ place. not (is_output_of task place)) files r.in_order)) after_at;
    }

pub replies_are_made : RepliesAreMade
replies_are_made kinds task trees changes observed files reply written r = held_is_made kinds task trees changes observed files reply written r

pub replies_lead_on : RepliesLeadOn
replies_lead_on kinds task trees changes observed files reply written r none = leads kinds task trees changes observed files reply written r none
