-- The files of kinds that work on all files at once.
use Rattle.std.specs.Prelude.{ℕ, ◌≡◌, true, false, List, [], Option, None, Some, Result, Ok, Err}
use Rattle.gb_core.specs.declared.value.Value.{Value}
use Rattle.gb_action.specs.Files.{Tree, Trees}
use Rattle.gb_action.specs.Meanings.{Making, Printing, Values}
use Rattle.gb_action.specs.declared.reply.ActionFault.{ActionFault}
use Rattle.gb_action.specs.declared.reply.ActionFault.TheVariants.{ActionFailed, OutOfMemory}
use Rattle.gb_action.specs.declared.reply.Reply.{Reply}
use Rattle.gb_action.specs.declared.reply.Written.{Written}
use Rattle.gb_action.specs.declared.shape.Parameter.{Parameter}
use Rattle.gb_action.specs.declared.shape.Shape.{Shape}
use Rattle.gb_kinds.specs.Own.{are_own, moved, own_by_file}
use Rattle.gb_kinds.specs.Remade.{as_made}
use Rattle.std.proofs.Common.{refl}

-- the failure is that of the meaning, unless memory runs out
abbrev pub IsFailure : {A : Type 0} → ActionFault → Result A (List ℕ) → Type 0
IsFailure (ActionFailed text) meant = meant ≡ Err text
IsFailure OutOfMemory meant = Unit {0}

-- a kind that reads files, and makes none
abbrev pub of_checks : List Parameter → Shape
of_checks args = record { args = args; src = true; out = None; incremental = false }

-- the reply that does nothing
abbrev pub nothing : Reply
nothing = record { removes = []; writes = []; lines = [] }

abbrev pub written_or : Result Tree (List ℕ) → Result (List Written) (List ℕ)
written_or (Ok files) = Ok (as_made files)
written_or (Err text) = Err text

abbrev pub makes_of_trees : (List Value → Trees → Result Tree (List ℕ)) → Making
makes_of_trees makes arguments values trees = written_or (makes arguments trees)

-- nothing is made if nothing is found
abbrev pub nothing_or : Option (List ℕ) → Result (List Written) (List ℕ)
nothing_or None = Ok []
nothing_or (Some text) = Err text

abbrev pub makes_nothing : (List Value → Trees → Option (List ℕ)) → Making
makes_nothing finds arguments values trees = nothing_or (finds arguments trees)

abbrev pub prints_nothing : Printing
prints_nothing arguments values trees changes = []

-- ---- It writes only to its own output

written-own : (made : Result Tree (List ℕ)) (written : List Written) → written_or made ≡ Ok written
    → are_own true written ≡ true
written-own (Ok files) written e =
    moved true (as_made files) written e (own_by_file (λ bytes. bytes) files)
written-own (Err text) written e = absurd (cc)

pub of_trees-own : (makes : List Value → Trees → Result Tree (List ℕ)) (arguments : List Value)
    (values : Values) (trees : Trees) (written : List Written)
    → makes_of_trees makes arguments values trees ≡ Ok written → are_own true written ≡ true
of_trees-own makes arguments values trees = written-own (makes arguments trees)

nothing-own : (found : Option (List ℕ)) (written : List Written) → nothing_or found ≡ Ok written
    → are_own false written ≡ true
nothing-own None written e = moved false [] written e refl
nothing-own (Some text) written e = absurd (cc)

pub nothing_made-own : (finds : List Value → Trees → Option (List ℕ)) (arguments : List Value)
    (values : Values) (trees : Trees) (written : List Written)
    → makes_nothing finds arguments values trees ≡ Ok written → are_own false written ≡ true
nothing_made-own finds arguments values trees = nothing-own (finds arguments trees)
