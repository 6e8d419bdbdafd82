-- The calls that it takes to process each item of a list.
use Rattle.std.specs.Prelude.{◌≡◌, ◌++◌, List, [], ◌∷◌, Result, Ok, Err}
use Rattle.gb_folder.specs.Call.{Call}

-- the outcome of work without a result of its own: success, or the fault that ended it
abbrev pub Ended : Type 0 → Type 0
Ended E = Result (Unit {0}) E

-- After an item that succeeded the next one follows. An item that failed is the last.
abbrev pub OrStops : {E Y : Type 0} → Ended E → Type 0 → List Call → List Y → Ended E → Type 0
OrStops (Ok done) next later more result = next
OrStops (Err fault) next later more result = (later ≡ []) × (more ≡ []) × (result ≡ Err fault)

-- Each item was processed by these calls, and yielded these values, up to the first item that failed. `One`
-- relates an item to the calls that it takes, to what it yields, and to its outcome.
abbrev pub Each : {E X Y : Type 0} → (X → List Call → List Y → Ended E → Type 0) → List X → List Call
    → List Y → Ended E → Type 0
Each One [] calls made result = (calls ≡ []) × (made ≡ []) × (result ≡ Ok tt)
Each {E = E} {Y = Y} One (x ∷ xs) calls made result =
    (first : List Call) × (later : List Call) × (some : List Y) × (more : List Y) × (mid : Ended E)
    × (calls ≡ first ++ later) × (made ≡ some ++ more) × One x first some mid
    × OrStops mid (Each One xs later more result) later more result
