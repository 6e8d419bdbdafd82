-- Parts of a folder: without the tool's own files, at a task's outputs, and but for its record.
use Rattle.std.specs.Prelude.{ℕ, ◌≡◌, ◌||◌, ◌&&◌, Bool, true, false, not, List, [], ◌∷◌, cond, bytes_eq}
use Rattle.std.specs.List.{list_any}
use Rattle.std.specs.Cmp.Lexicographic.{bytes_decides}
use Rattle.std.proofs.Common.{refl, sym, ap, ap₂, ◌∙◌}
use Rattle.gb_core.specs.Place.{is_beneath}
use Rattle.gb_folder.specs.Files.{Place, Contents, DiffersOnlyAt, Files, files_where, is_blocked, is_own}
use Rattle.gb_folder.proofs.Beneath.{not_beneath_itself}
use Rattle.gb_history.specs.Places.{record_place}
use Rattle.gb_semantics.specs.TrueRecord.{outside}
use Rattle.gb_plan.proofs.Tests.{neither, no_longer, not_false, not_true}
use Rattle.gb_plan.specs.Task.{Path, is_output_of}
use Rattle.gb_plan.specs.declared.task.Output.{Output}
use Rattle.gb_plan.specs.declared.task.TaskDeclaration.{TaskDeclaration as Task}
pub use Rattle.gb_run.proofs.Owned.{narrowed}
use Rattle.gb_folder.specs.Changes.{ChangesOnly, is_at}
use Rattle.gb_task.specs.Executing.{is_of_execution}
use Rattle.gb_task.proofs.Outside.{kept}
use Rattle.gb_task.proofs.Own.{blocked_where, is_kept, kept_at, not_in_own_way}

where_both : (one other : Place → Bool) (files : Files) → files_where one (files_where other files) ≡ files_where (λ q. other q && one q) files
where_both one other [] = refl
where_both one other (f ∷ files) =
    let rest = where_both one other files in
    elim (other f.0) as (λ b. files_where one (cond b (f ∷ files_where other files) (files_where other files))
    ≡ cond (b && one f.0) (f ∷ files_where (λ q. other q && one q) files) (files_where (λ q. other q && one q) files)) [
      | true ↦ ap (λ (xs : Files). cond (one f.0) (f ∷ xs) xs) rest
      | false ↦ rest
    ]

where_same : (one other : Place → Bool) → ((q : Place) → one q ≡ other q) → (files : Files) → files_where one files ≡ files_where other files
where_same one other same [] = refl
where_same one other same (f ∷ files) = ap₂ (λ (b : Bool) (xs : Files). cond b (f ∷ xs) xs) (same f.0) (where_same one other same files)

-- what changes at some places changes at more
pub widened : (few more : Place → Bool) → ((q : Place) → few q ≡ true → more q ≡ true) → (old new : Contents) → ChangesOnly few old new → ChangesOnly more old new
widened few more within old new changes = record {
  elsewhere =
      sym (narrow new.files) ∙ ap (files_where (λ q. not (more q))) changes.elsewhere ∙ narrow old.files;
  special = changes.special;
}
  where
    passes : (q : Place) → not (more q) ≡ true → not (few q) ≡ true
    passes q none = by (few q) refl
      where
        by : (b : Bool) → few q ≡ b → not b ≡ true
        by true is = not_true (sym (no_longer (more q) none) ∙ within q is)
        by false is = refl

    narrow : (files : Files) → files_where (λ q. not (more q)) (files_where (λ q. not (few q)) files) ≡ files_where (λ q. not (more q)) files
    narrow = narrowed (λ q. not (more q)) (λ q. not (few q)) passes

-- ---- the place of a record

not_the_record : (path : Path) (q : Place) → is_kept q ≡ true → is_at (record_place path) q ≡ false
not_the_record path q is = by (bytes_eq q (record_place path)) refl
  where
    by : (b : Bool) → bytes_eq q (record_place path) ≡ b → b ≡ false
    by true e = not_false (sym (ap is_own ((bytes_decides q (record_place path)).0 e)) ∙ no_longer (is_own q) is)
    by false e = refl

not_not : (b : Bool) → b ≡ false → not b ≡ true
not_not true e = not_false e
not_not false e = refl

same_kept : (path : Path) (old new : Files) → DiffersOnlyAt (is_at (record_place path)) old new → kept new ≡ kept old
same_kept path old new differs =
    let narrow = narrowed is_kept (λ q. not (is_at (record_place path) q)) (λ q is. not_not (is_at (record_place path) q) (not_the_record path q is)) in
    sym (narrow new) ∙ ap (files_where is_kept) differs ∙ narrow old

-- where a record changed, the folder without the tool's own files is the same
pub outside_same : (path : Path) (old new : Contents) → ChangesOnly (is_at (record_place path)) old new → outside new ≡ outside old
outside_same path old new changes =
    ap₂ (λ (files : Files) (special : List (List ℕ)). let folder : Contents = record { files = files; special = special } in folder) (same_kept path old.files new.files changes.elsewhere) changes.special

-- what is in the way of a record is the tool's own
pub blocked_by_own : (path : Path) (files : Files) → is_blocked files (record_place path) ≡ is_blocked (files_where is_own files) (record_place path)
blocked_by_own path files = sym (blocked_where is_own (record_place path) (λ f not_own. not_in_own_way (record_place path) f refl not_own) files)

-- ---- what an execution changes

module _ (task : Task) (old new : Files) (differs : DiffersOnlyAt (is_of_execution task) old new) where
  abbrev execution_passes : Place → Bool
  execution_passes q = not (is_of_execution task q) && is_kept q

  pub differs_outside : DiffersOnlyAt (is_output_of task) (kept old) (kept new)
  differs_outside = as_one new ∙ ap (files_where is_kept) differs ∙ sym (as_one old)
    where
      by : (k o a : Bool) → (k ≡ true → a ≡ false) → (k && not o) ≡ (not (o || a) && k)
      by true true a h = refl
      by true false true h = not_false (h refl)
      by true false false h = refl
      by false true a h = refl
      by false false true h = refl
      by false false false h = refl

      as_one : (files : Files) → files_where (λ q. not (is_output_of task q)) (files_where is_kept files) ≡ files_where is_kept (files_where (λ q. not (is_of_execution task q)) files)
      as_one files =
          where_both (λ q. not (is_output_of task q)) is_kept files
          ∙ where_same (λ q. is_kept q && not (is_output_of task q)) (λ q. not (is_of_execution task q) && is_kept q)
          (λ q. by (is_kept q) (is_output_of task q) (is_at (record_place task.path) q) (not_the_record task.path q)) files
          ∙ sym (where_both is_kept (λ q. not (is_of_execution task q)) files)

  -- what is in the way of the task's record was so before
  module _ (out : list_any (λ (o : Output). is_own o.place) task.outputs ≡ false) where
    abbrev others : Place → Bool
    others q = not (is_of_execution task q) && is_own q

    not_at_output : (q : Place) → is_own q ≡ true → is_output_of task q ≡ false
    not_at_output q own = by (is_output_of task q) refl
      where
        by : (b : Bool) → is_output_of task q ≡ b → b ≡ false
        by true at = not_true (sym (no_longer (is_own q) (kept_at task.outputs out q at)) ∙ own)
        by false at = refl

    free : (f : Place) → others f ≡ false → (is_beneath (record_place task.path) f || is_beneath f (record_place task.path)) ≡ false
    free f others_not = by (is_own f) refl
      where
        itself : is_at (record_place task.path) f ≡ true → (is_beneath (record_place task.path) f || is_beneath f (record_place task.path)) ≡ false
        itself e =
            let same = (bytes_decides f (record_place task.path)).0 e in
            ap (λ p. is_beneath (record_place task.path) p || is_beneath p (record_place task.path)) same
            ∙ neither _ _ (not_beneath_itself (record_place task.path)) (not_beneath_itself (record_place task.path))

        here : (o a : Bool) → o ≡ false → (not (o || a) && true) ≡ false → a ≡ true
        here true a h e = not_false h
        here false true h e = refl
        here false false h e = not_false e

        by : (b : Bool) → is_own f ≡ b → (is_beneath (record_place task.path) f || is_beneath f (record_place task.path)) ≡ false
        by true own = itself (here (is_output_of task f) (is_at (record_place task.path) f) (not_at_output f own)
            (sym (ap (λ b. not (is_of_execution task f) && b) own) ∙ others_not))
        by false not_own = not_in_own_way (record_place task.path) f refl not_own

    pub in_way_before : is_blocked new (record_place task.path) ≡ is_blocked (files_where is_own old) (record_place task.path)
    in_way_before =
        sym (blocked_where others (record_place task.path) free new)
        ∙ ap (λ files. is_blocked files (record_place task.path)) (sym (where_both is_own (λ q. not (is_of_execution task q)) new) ∙ ap (files_where is_own) differs ∙ where_both is_own (λ q. not (is_of_execution task q)) old)
        ∙ blocked_where others (record_place task.path) free old
        ∙ sym (blocked_where is_own (record_place task.path) (λ f not_own. not_in_own_way (record_place task.path) f refl not_own) old)
