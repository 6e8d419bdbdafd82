-- Lists of events, one event more at a time.
use Rattle.std.specs.Prelude.{ℕ, ◌≡◌, ◌≤◌, ◌<◌, ◌++◌, ◌⊎◌, Bool, true, false, IsTrue, List, [], ◌∷◌, length, suc, take, zero, ⊤}
use Rattle.std.proofs.Common.{arith, refl, sym, ap, subst, ◌∙◌, inl, inr, append_assoc}
use Rattle.std.proofs.lemmas.List.{append-nil, length-take-le}
use Rattle.std.proofs.Math.Seq.{take-nil}
use Rattle.gb_folder.specs.Files.{Bytes, Contents}
use Rattle.gb_semantics.specs.declared.events.Answer.{Answer}
use Rattle.gb_semantics.specs.declared.events.Answer.TheVariants as answers
use Rattle.gb_semantics.specs.declared.events.Event.{Event}
use Rattle.gb_semantics.specs.Edits.{Shown}
use Rattle.gb_semantics.specs.Events.{Setting, State, world_in}
use Rattle.gb_semantics.specs.Headline.{AllKeepElsewhere, Ear, EventKeeps, EventsHold, GoesThrough, HaveHeardAll, Registering, RunHolds, StillClear, contents_outside, observed_with, state_of}
use Rattle.gb_semantics.specs.Memory.{Memory}
use Rattle.gb_semantics.specs.TrueRecord.{memory_contents}
use Rattle.gb_exec.proofs.Clearly.{clear_or_not}
use Rattle.gb_plan.proofs.Tests.{not_true}
use Rattle.gb_build.specs.Leading.{IsTransition, HoldsObserved}
use Rattle.gb_build.proofs.Leading.{observed_more, step_weaker}

-- ---- Runs

-- a run went through the same states where less is clear
goes_weaker : (setting : Setting) (one other : Type 0) → (other → one) → (observed : List Bytes) (old : State) (states : List State) (all : List Event) (reported : List Answer) (end : Shown)
    → GoesThrough setting one observed old states all reported end → GoesThrough setting other observed old states all reported end
goes_weaker setting one other weaker observed old [] [] [] end run = run
goes_weaker setting one other weaker observed old (next ∷ states) (event ∷ rest) (answer ∷ others) end run = (
  run.0,
  step_weaker setting (StillClear setting one old) (StillClear setting other old) (λ contents given. (weaker given.0, given.1)) observed old event answer next run.1,
  λ given. run.2 (weaker given.0, given.1),
  goes_weaker setting (StillClear setting one old (observed_with observed old next)) (StillClear setting other old (observed_with observed old next))
      (λ given. (weaker given.0, given.1)) (observed ++ contents_outside old.contents) next states rest others end run.3,
)
goes_weaker setting one other weaker observed old [] [] (answer ∷ others) end run = absurd run
goes_weaker setting one other weaker observed old [] (event ∷ rest) [] end run = absurd run
goes_weaker setting one other weaker observed old [] (event ∷ rest) (answer ∷ others) end run = absurd run
goes_weaker setting one other weaker observed old (next ∷ states) [] [] end run = absurd run
goes_weaker setting one other weaker observed old (next ∷ states) [] (answer ∷ others) end run = absurd run
goes_weaker setting one other weaker observed old (next ∷ states) (event ∷ rest) [] end run = absurd run

run_weaker : (setting : Setting) (one other : Type 0) → (other → one) → (observed : List Bytes) (old : State) (all : List Event) (reported : List Answer) (end : Shown)
    → RunHolds setting one observed old all reported end → RunHolds setting other observed old all reported end
run_weaker setting one other weaker observed old all reported end run = (run.0, goes_weaker setting one other weaker observed old run.0 all reported end run.1)

-- a run of these events from what a folder shows, whatever is remembered
pub RunsFrom : Setting → Shown → List Event → List Answer → Shown → Type 0
RunsFrom setting old all reported end =
    (remembered : Memory) (clear : Bool) (observed : List Bytes) → (IsTrue clear → HoldsObserved setting observed (state_of old remembered))
    → RunHolds setting (IsTrue clear) observed (state_of old remembered) all reported end

yes_of : {X : Type 0} → X ⊎ (¬ X) → Bool
yes_of (inl is) = true
yes_of (inr is_not) = false

is_so : {X : Type 0} (decided : X ⊎ (¬ X)) → yes_of decided ≡ true → X
unfolding yes_of
is_so (inl is) e = is
is_so (inr is_not) e = not_true e

is_yes : {X : Type 0} (decided : X ⊎ (¬ X)) → X → yes_of decided ≡ true
unfolding yes_of
is_yes (inl is) x = refl
is_yes (inr is_not) x = absurd (is_not x)

-- an event, and then a run
pub runs_on : (setting : Setting) (old mid end : Shown) (event : Event) (answer : Answer) (rest : List Event) (others : List Answer) → old.failures ≤ mid.failures
    → IsTransition setting old event answer mid → RunsFrom setting mid rest others end → RunsFrom setting old (event ∷ rest) (answer ∷ others) end
unfolding RunsFrom
runs_on setting old mid end event answer rest others count leads runs remembered clear observed worth =
    let start : State = state_of old remembered in
    let led = leads remembered clear observed worth in
    let next : State = state_of mid led.remembered in
    let decided = clear_or_not setting start clear (observed_with observed start next) in
    let later =
    run_weaker setting (IsTrue (yes_of decided)) (StillClear setting (IsTrue clear) start (observed_with observed start next)) (is_yes decided)
    (observed ++ contents_outside old.contents) next rest others end
    (runs led.remembered (yes_of decided) (observed ++ contents_outside old.contents) (λ yes. led.exists (is_so decided yes))) in (
      next ∷ later.0,
      (count, led.step, λ given. (led.exists given).0, later.1),
    )

pub runs_nowhere : (setting : Setting) (old : Shown) → RunsFrom setting old [] [] old
unfolding RunsFrom
runs_nowhere setting old remembered clear observed worth = ([], (omega arith, refl))

-- a run, starting from any true records that exist
pub runs_hold : (setting : Setting) (old end : Shown) (all : List Event) (reported : List Answer) → RunsFrom setting old all reported end → EventsHold setting old all reported end
unfolding RunsFrom
runs_hold setting old end all reported runs remembered exists =
    let observed : List Bytes = memory_contents (world_in (state_of old remembered)) in
    run_weaker setting (IsTrue true) ⊤ (λ _. refl) observed (state_of old remembered) all reported end
    (runs remembered true observed (λ _. (exists, observed_more observed observed (contents_outside old.contents) (λ bytes within. within))))

-- ---- What changes

pub keeps_more : (registers : Registering) (all : List Event) (reported : List Answer) (event : Event) (answer : Answer) (old mid new : Contents) → length all ≡ length reported
    → AllKeepElsewhere registers all reported old mid → EventKeeps registers event answer mid new → AllKeepElsewhere registers (all ++ event ∷ []) (reported ++ answer ∷ []) old new
keeps_more registers [] [] event answer old mid new same keeps more = (new, subst (λ (c : Contents). EventKeeps registers event answer c new) keeps more, refl)
keeps_more registers [] (a ∷ reported) event answer old mid new same keeps more = absurd (cc)
keeps_more registers (e ∷ all) [] event answer old mid new same keeps more = absurd (cc)
keeps_more registers (e ∷ all) (a ∷ reported) event answer old mid new same keeps more =
    (keeps.0, keeps.1, keeps_more registers all reported event answer keeps.0 mid new (omega (arith, same)) keeps.2 more)

-- ---- The notifications

pub heard_more : (reported : List Answer) (answer : Answer) (old mid new : List Ear) → HaveHeardAll reported old mid → HaveHeardAll (answer ∷ []) mid new → HaveHeardAll (reported ++ answer ∷ []) old new
heard_more [] answer old mid new heard more = subst (λ (ears : List Ear). HaveHeardAll (answer ∷ []) ears new) heard more
heard_more (answers.Edited ∷ reported) answer old mid new heard more = heard_more reported answer old mid new heard more
heard_more (answers.Refused fault ∷ reported) answer old mid new heard more = heard_more reported answer old mid new heard more
heard_more (answers.Built report ∷ reported) answer old mid new heard more = (heard.0, heard.1, heard_more reported answer heard.0 mid new heard.2 more)
heard_more (answers.NotBuilt fault ∷ reported) answer old mid new heard more = heard_more reported answer old mid new heard more

-- ---- Lists, one element more

pub more_ahead : (setting : Setting) (old end : Shown) (all : List Event) (event : Event) (rest : List Event) (reported : List Answer) (answer : Answer) (others : List Answer)
    → RunsFrom setting old (all ++ event ∷ rest) (reported ++ answer ∷ others) end → RunsFrom setting old (all ++ event ∷ [] ++ rest) (reported ++ answer ∷ [] ++ others) end
more_ahead setting old end all event rest reported answer others runs =
    subst (λ (events : List Event). RunsFrom setting old events (reported ++ answer ∷ [] ++ others) end) (sym (append_assoc all (event ∷ []) rest))
    (subst (λ (answers : List Answer). RunsFrom setting old (all ++ event ∷ rest) answers end) (sym (append_assoc reported (answer ∷ []) others)) runs)

pub taken_all : {X Y : Type 0} (index : ℕ) (xs : List X) (ys : List Y) → length ys ≡ index → index < length xs → length (take index xs) ≡ length ys
taken_all index xs ys same less = length-take-le index xs (omega (arith, less)) ∙ sym same

pub take_all : {X : Type 0} (index : ℕ) (xs : List X) → length xs ≤ index → take index xs ≡ xs
take_all index [] less = take-nil index
take_all zero (x ∷ xs) less = absurd (omega arith)
take_all (suc index) (x ∷ xs) less = ap (λ rest. x ∷ rest) (take_all index xs (omega (arith, less)))

pub to_the_end : (setting : Setting) (old end : Shown) (index : ℕ) (all : List Event) (reported : List Answer) → length all ≤ index
    → RunsFrom setting old (take index all ++ []) (reported ++ []) end → RunsFrom setting old all reported end
to_the_end setting old end index all reported less runs =
    subst (λ (events : List Event). RunsFrom setting old events reported end) (append-nil (take index all) ∙ take_all index all less)
    (subst (λ (answers : List Answer). RunsFrom setting old (take index all ++ []) answers end) (append-nil reported) runs)
