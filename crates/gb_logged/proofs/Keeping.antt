-- What is kept after one more call.
use Rattle.std.proofs.Common.{◌≡◌, ℕ, List, [], ◌∷◌, ◌++◌, ap, ◌∙◌, inl, inr}
use Rattle.std.proofs.lemmas.List.{map-append}
use Rattle.gb_folder.specs.Calls.{Writes, Removes}
use Rattle.gb_folder.specs.Semantics.{Answer}
use Rattle.gb_logged.specs.Logged.{call_of, log_of, log, allowed_over, LogsCalls}
use Rattle.gb_logged.specs.declared.logged.LoggedCall.{LoggedCall}
use Rattle.gb_logged.specs.declared.logged.LoggedCall.TheVariants as kept
use Rattle.gb_folder.specs.Calls.{Device}

kept_one : (old new : List LoggedCall) (call : LoggedCall) → new ≡ old ++ call ∷ []
    → log_of new ≡ log_of old ++ call_of call ∷ []
kept_one old new call is = ap log_of is ∙ map-append call_of old (call ∷ [])

-- a write, kept with copies of its place and its bytes, where there was room
pub kept_write : {old roomy new : List LoggedCall} {copied place written bytes : List ℕ}
    (limit : ℕ) (answer : Answer)
    → copied ≡ place → written ≡ bytes → roomy ≡ old
    → new ≡ roomy ++ kept.Writes copied written limit answer ∷ []
    → log_of new ≡ log_of old ++ Writes place bytes limit answer ∷ []
kept_write {old = old} {new = new} {copied = copied} {place = place} {written = written} {bytes = bytes}
    limit answer at these same pushed =
    kept_one old new (kept.Writes place bytes limit answer)
    (pushed ∙ ap (λ (l : List LoggedCall). l ++ kept.Writes copied written limit answer ∷ []) same
    ∙ ap (λ (p : List ℕ). old ++ kept.Writes p written limit answer ∷ []) at
    ∙ ap (λ (b : List ℕ). old ++ kept.Writes place b limit answer ∷ []) these)

-- a removal, kept with a copy of its place, where there was room
pub kept_removal : {old roomy new : List LoggedCall} {copied place : List ℕ} (answer : Answer)
    → copied ≡ place → roomy ≡ old → new ≡ roomy ++ kept.Removes copied answer ∷ []
    → log_of new ≡ log_of old ++ Removes place answer ∷ []
kept_removal {old = old} {new = new} {copied = copied} {place = place} answer at same pushed =
    kept_one old new (kept.Removes place answer)
    (pushed ∙ ap (λ (l : List LoggedCall). l ++ kept.Removes copied answer ∷ []) same
    ∙ ap (λ (p : List ℕ). old ++ kept.Removes p answer ∷ []) at)

-- a logged folder keeps its calls
pub all_kept : {F : Type 0} (device : Device F)
    → LogsCalls (allowed_over device) log
all_kept device = record {
  kept = λ old call new is. elim is [ inl noted ↦ inl noted.0 | inr left ↦ inr (left.0, left.1) ];
}
