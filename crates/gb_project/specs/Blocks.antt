-- The clauses that a script adds to tasks, by the names of the tasks.
use Rattle.std.specs.Prelude.{◌≡◌, ℕ, List, [], Option, Some, None}
use Rattle.std.specs.BTreeMap.{BTreeMap, get}
use Rattle.std.specs.Borrow.{Bor}
use Rattle.std.specs.Global.{Global}
use Rattle.std.specs.List.{flat_map}
use Rattle.std.specs.declared.vec.Vec.{Vec}
use Rattle.gb_core.specs.Lists.{byte_order}
use Rattle.gb_declare.specs.Borrowed.{now_of}
use Rattle.gb_registry.specs.Said.{added_clauses}
use Rattle.gb_script.specs.declared.script.Clause.{Clause}
use Rattle.gb_script.specs.declared.script.Statement.{Statement}

-- clauses by the names of tasks, each of them borrowed
abbrev pub Blocks : Type 0
Blocks = BTreeMap (List ℕ) (Vec (Bor Clause) Global)

-- the clauses, if there are some
abbrev pub clauses_in : Option (Vec (Bor Clause) Global) → List Clause
clauses_in None = []
clauses_in (Some clauses) = now_of clauses.items

-- the clauses that are stored under a name
abbrev pub clauses_under : Blocks → List ℕ → List Clause
clauses_under blocks name = clauses_in (get byte_order blocks name)

-- under each name is everything that a script adds to the task of the name
abbrev pub AreBlocks : Blocks → List Statement → Type 0
AreBlocks blocks script = (name : List ℕ) → clauses_under blocks name ≡ flat_map (added_clauses name) script
