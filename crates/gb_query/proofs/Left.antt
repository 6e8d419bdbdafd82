-- Records of tasks that are not registered.
use Rattle.std.proofs.Common.{ℕ, suc, ◌≡◌, ◌<◌, ◌+◌, Bool, false, List, ◌∷◌, Option, None, Some, Result, Ok, Err, length, get_or, drop, ap, sym, subst, ◌∙◌, arith}
use Rattle.std.specs.Prelude.{IfErr, is_some}
use Rattle.std.specs.Result.{IsErrAnd}
use Rattle.std.proofs.Math.Seq.{drop-cons}
use Rattle.gb_folder.specs.Files.{Files, Place}
use Rattle.gb_history.specs.Record.{Record}
use Rattle.gb_plan.specs.Task.{Path, has_path}
use Rattle.gb_records.specs.Said.{IsReadAt}
use Rattle.gb_report.specs.declared.fault.Fault.{Fault}
use Rattle.gb_query.specs.Inventory.{IsLeftAt, damaged, left, row_if}
use Rattle.gb_query.specs.Owner.{IsOwner}

-- the rest of a row from one of it on
pub rest_from : {X : Type 0} (xs : List X) (i : ℕ) (x : X) → i < length xs → x ≡ get_or xs i x → drop i xs ≡ x ∷ drop (i + 1) xs
rest_from xs i x low at =
    let next : suc i ≡ i + 1 = omega arith in
    drop-cons xs i x low ∙ ap (λ n. get_or xs i x ∷ drop n xs) next ∙ ap (λ y. y ∷ drop (i + 1) xs) (sym at)

-- what is read of a task that is not registered
pub of_record : (files : Files) (registered : List Path) (place : Place) (path : Path) (read : Option Record) (has : Bool) → IsOwner place (Some path)
    → IsReadAt files path read → has ≡ is_some read → has_path registered path ≡ false → IsLeftAt files registered place (row_if has path)
of_record files registered place path (Some run) has owner at is free = left path owner (run, at) free (ap (λ b. row_if b path) is)
of_record files registered place path None has owner at is free = damaged path owner at (ap (λ b. row_if b path) is)

-- what holds of a fault that is returned holds of the result
pub handed : {T : Type 0} (Bad : Fault → Type 0) (result : Result T Fault) (fault : Fault) → IsErrAnd result (λ f. f ≡ fault) → Bad fault → IfErr result Bad
handed Bad (Ok x) fault is bad = absurd is
handed Bad (Err f) fault is bad = subst Bad (sym is) bad
