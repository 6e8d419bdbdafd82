-- What borrowed parts of a script represent.
use Rattle.std.specs.Prelude.{ℕ, List, map}
use Rattle.std.specs.Borrow.{Bor}
use Rattle.std.specs.BTreeMap.{BTreeMap}
use Rattle.gb_action.specs.declared.output_files.Form.{Form}
use Rattle.gb_script.specs.Tree.{Tree}
use Rattle.gb_declare.specs.Joined.{Named, Made}

abbrev pub now_of : {X : Type 0} → List (Bor X) → List X
now_of borrowed = map (λ b. b.now) borrowed

-- things by name, each of them borrowed
abbrev pub named_in : {X : Type 0} → BTreeMap (List ℕ) (Bor X) → List (Named X)
named_in things = map (λ e. (e.0, e.1.now)) things.entries

-- outputs by name, with borrowed expressions of their places
abbrev pub outputs_in : BTreeMap (List ℕ) (Form × Bor Tree) → List (Named Made)
outputs_in outputs = map (λ e. (e.0, (e.1.0, e.1.1.now))) outputs.entries
