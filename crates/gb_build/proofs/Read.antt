-- What is read before a build, and why it could not be.
use Rattle.std.specs.Prelude.{ℕ, ◌≡◌, ◌++◌, ◌&&◌, Bool, true, false, List, [], ◌∷◌, length, take, Result, Err}
use Rattle.std.specs.List.{AllByRecursion, AllZip, list_any}
use Rattle.std.proofs.Common.{refl, sym, ap, subst, ◌∙◌, inl, inr, suc, arith, length-append}
use Rattle.std.proofs.Math.Seq.{take-length}
use Rattle.std.proofs.lemmas.List.{length-map}
use Rattle.gb_folder.specs.Files.{is_own}
use Rattle.gb_history.specs.Places.{record_place}
use Rattle.gb_plan.specs.Graph.{order}
use Rattle.gb_plan.specs.Task.{Path}
use Rattle.gb_plan.specs.declared.plan.Planned.{Planned}
use Rattle.gb_records.proofs.Reported.{texts_are_records}
use Rattle.gb_report.specs.declared.fault.Fault.{Fault}
use Rattle.gb_folder.specs.Changes.{is_at}
use Rattle.gb_folder.specs.Faults.{BlamesOnly, IsOfMachine}
use Rattle.gb_folder.proofs.Machine.{among_passes}
use Rattle.gb_build.specs.Refusing.{IsUnread}

-- ---- Nothing more

none_of_length : {X : Type 0} (xs : List X) → length xs ≡ 0 → xs ≡ []
none_of_length [] e = refl
none_of_length (x ∷ xs) e = absurd (omega (arith, e))

with_none : {X : Type 0} (xs : List X) → xs ++ [] ≡ xs
with_none [] = refl
with_none (x ∷ xs) = ap (λ ys. x ∷ ys) (with_none xs)

pub as_long : {X Y : Type 0} (R : X → Y → Type 0) (xs : List X) (ys : List Y) → AllZip R xs ys → length ys ≡ length xs
as_long R [] [] all = refl
as_long R [] (y ∷ ys) all = absurd all
as_long R (x ∷ xs) [] all = absurd all
as_long R (x ∷ xs) (y ∷ ys) all = ap suc (as_long R xs ys all.1)

-- a list of a length, cut to it and filled up to it, is as it was
same_filled : {X : Type 0} (old new more : List X) (n : ℕ) → length old ≡ n → new ≡ take n old ++ more → length new ≡ n → new ≡ old
same_filled old new more n long is to =
    let whole : take n old ≡ old = ap (λ k. take k old) (sym long) ∙ take-length old in
    let all : new ≡ old ++ more = is ∙ ap (λ xs. xs ++ more) whole in
    let none : more ≡ [] = none_of_length more (omega (arith, sym to ∙ ap length all, length-append old more, long)) in
    all ∙ ap (λ xs. old ++ xs) none ∙ with_none old

-- what was read of each task is what there is of it
pub all_read : {X : Type 0} (R : Path → X → Type 0) (plan : List Planned) (read filled more : List X) → AllZip R (order plan) read
    → filled ≡ take (length plan) read ++ more → length filled ≡ length plan → AllZip R (order plan) filled
all_read R plan read filled more all is to =
    subst (AllZip R (order plan))
    (sym (same_filled read filled more (length plan) (as_long R (order plan) read all ∙ length-map plan (λ (planned : Planned). planned.task.path)) is to)) all

-- ---- Faults

own_records : (paths : List Path) → AllByRecursion (λ path. is_own (record_place path) ≡ true) paths
own_records [] = tt
own_records (path ∷ paths) = (texts_are_records.own path, own_records paths)

-- a fault of the machine, reported at a record, is why records could not be read
pub unread : {T : Type 0} (call : Result T Fault) (fault reported : Fault) (paths : List Path) (before after : ℕ) → call ≡ Err fault → reported ≡ fault
    → BlamesOnly (λ place. list_any (λ path. is_at (record_place path) place) paths) call → IsOfMachine before after fault → (dry_run : Bool) → dry_run ≡ false → IsUnread dry_run before after reported
unread call fault reported paths before after was same blamed (inl out) dry_run not_dry = inl (same ∙ out)
unread call fault reported paths before after was same blamed (inr device) dry_run not_dry =
    let own : is_own device.0 ≡ true = among_passes record_place is_own paths device.0 (own_records paths) (blamed device.0 (was ∙ ap Err device.1)) in
    subst (λ b. IsUnread b before after reported) (sym not_dry) (inr (device.0, both (is_own device.0) own, (device.2, same ∙ device.1)))
  where
    both : (b : Bool) → b ≡ true → (b && true) ≡ true
    both true e = refl
    both false e = e
