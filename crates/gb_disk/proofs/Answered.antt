-- What is known of supposed contents after a call, by what was known before it and the answer.
use Rattle.std.proofs.Common.{ℕ, ◌≡◌, ◌+◌, List, [], ◌∷◌, ◌++◌, length, ap, arith, subst, sym, ◌∙◌}
use Rattle.std.proofs.lemmas.List.{length-append}
use Rattle.gb_folder.specs.Calls.{Call}
use Rattle.gb_folder.specs.Semantics.{Answers}
use Rattle.gb_disk.specs.Shown.{AreAnswered, IsAnswered, contents_at, shown}
use Rattle.gb_disk.specs.Supposed.{Supposed, leaves_of}
use Rattle.gb_disk.specs.declared.call_log.CallLog.{CallLog}

last : (supposed : Supposed) (number : ℕ) (calls : List Call) (call : Call) → AreAnswered supposed number (calls ++ call ∷ [])
    → AreAnswered supposed number calls
    × Answers (leaves_of supposed) (contents_at supposed (number + length calls)) call (contents_at supposed (number + length calls + 1))
last supposed number [] call is =
    let same : number ≡ number + 0 = omega arith in
    (tt, subst (λ (n : ℕ). Answers (leaves_of supposed) (contents_at supposed n) call (contents_at supposed (n + 1))) same is.0)
last supposed number (first ∷ calls) call is =
    let rest = last supposed (number + 1) calls call is.1 in
    let same : number + 1 + length calls ≡ number + length (first ∷ calls) = omega arith in
    ((is.0, rest.0), subst (λ (n : ℕ). Answers (leaves_of supposed) (contents_at supposed n) call (contents_at supposed (n + 1))) same rest.1)

pub answered : (old new : CallLog) (call : Call) → new.calls ≡ old.calls ++ call ∷ [] → new.supposed ≡ old.supposed → IsAnswered new
    → IsAnswered old × Answers (leaves_of old.supposed) (shown old) call (shown new)
answered old new call calls same is =
    let known : AreAnswered old.supposed 0 (old.calls ++ call ∷ []) =
    subst (λ (cs : List Call). AreAnswered old.supposed 0 cs) calls (subst (λ (s : Supposed). AreAnswered s 0 new.calls) same is) in
    let told = last old.supposed 0 old.calls call known in
    let before : 0 + length old.calls ≡ length old.calls = omega arith in
    let long : length new.calls ≡ length old.calls + 1 = ap length calls ∙ length-append old.calls (call ∷ []) in
    let here = subst (λ (n : ℕ). Answers (leaves_of old.supposed) (contents_at old.supposed n) call (contents_at old.supposed (n + 1))) before told.1 in
    let there = subst (λ (n : ℕ). Answers (leaves_of old.supposed) (shown old) call (contents_at old.supposed n)) (sym long) here in
    (told.0, subst (λ (s : Supposed). Answers (leaves_of old.supposed) (shown old) call (contents_at s (length new.calls))) (sym same) there)
