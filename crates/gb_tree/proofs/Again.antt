-- What a second reading says, from the state before the first.
use Rattle.std.proofs.Common.{◌≤◌, ℕ, Result, Ok, Err, IfOk}
use Rattle.gb_folder.specs.Files.{Place}
use Rattle.gb_folder.proofs.Changes.{HasRisen-before}
use Rattle.gb_tree.specs.declared.fault.TreeFault.{TreeFault}
use Rattle.gb_tree.specs.Tree.{Blames}

pub ok_as : {T E : Type 0} {P Q : T → Type 0} (r : Result T E) → IfOk r P → ((x : T) → P x → Q x) → IfOk r Q
ok_as (Ok x) is step = step x is
ok_as (Err fault) is step = is

-- the count of failures had not fallen in between
pub blames_longer : {A : Type 0} (IsSuch : Place → Type 0) (first second third : ℕ) (r : Result A TreeFault) → first ≤ second → second ≤ third
    → Blames IsSuch second third r → Blames IsSuch first third r
blames_longer IsSuch first second third r le more blames at is =
    let parts = blames at is in
    (parts.0, HasRisen-before first second third le more parts.1)
