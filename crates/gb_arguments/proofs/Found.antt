-- What is read from matches is what their rows have.
use Rattle.std.proofs.Common.{◌≡◌, ◌∙◌, ap, refl, ℕ, List, [], Bor, Option, Some, None}
use Rattle.std.specs.Prelude.{option_map, unwrap_or}
use Rattle.clap.proofs.WalkLemmas.{raw_values-rows}
use Rattle.clap.specs.Matches.{matched_of, raw_values}
use Rattle.clap.specs.Walk.{rows_of}
use Rattle.clap.specs.declared.parser.matches.Found.{Found}
use Rattle.gb_arguments.specs.Command.{texts_in}
use Rattle.gb_arguments.specs.Values.{texts_after}

unwrapped : (found : Option (Bor (List (Bor (List ℕ))))) (empty : Bor (List (Bor (List ℕ)))) → empty.now ≡ []
    → texts_after (unwrap_or found empty).now ≡ unwrap_or (option_map (λ s. texts_after s.now) found) []
unwrapped (Some texts) empty none = refl
unwrapped None empty none = ap texts_after none

pub texts_read : (f : Found) (id : List ℕ) (found : Option (Bor (List (Bor (List ℕ))))) (empty given : Bor (List (Bor (List ℕ))))
    → option_map (λ s. texts_after s.now) found ≡ option_map raw_values (matched_of f id) → given ≡ unwrap_or found empty → empty.now ≡ []
    → texts_after given.now ≡ texts_in id (rows_of f)
texts_read f id found empty given same is none =
    ap (λ (g : Bor (List (Bor (List ℕ)))). texts_after g.now) is ∙ unwrapped found empty none
    ∙ ap (λ (o : Option (List (List ℕ))). unwrap_or o []) (same ∙ raw_values-rows f id)
