-- Graphs with the colours of predictions.
use Rattle.std.specs.Prelude.{ℕ, ◌≡◌, List, [], Ok, Err}
use Rattle.gb_semantics.specs.Edits.{Shown}
use Rattle.gb_semantics.specs.declared.events.Invocation.{Invocation}
use Rattle.gb_predict.specs.declared.predicted_outcome.Prediction.{Prediction}
use Rattle.gb_registry.specs.Tables.{Tables}
use Rattle.gb_ask_command.specs.Replies.{IsGraphReply}
use Rattle.gb_ask_command.specs.Reply.{Reply}
use Rattle.gb_ask_command.specs.Reported.{Answer, IsAnswerTo}
use Rattle.gb_ask_command.specs.declared.arguments.Colouring.{Colouring}
use Rattle.gb_ask_command.specs.declared.arguments.Colouring.TheVariants as colourings
use Rattle.gb_ask_command.specs.declared.arguments.Style.{Style}

-- the predictions of an answer; none if it is refused
abbrev pub found_in : Answer → List Prediction
found_in (Ok reported) = reported.items
found_in (Err fault) = []

module _ {M F Z S A : Type 0} (tables : Tables M F Z S A) (known : Type 0) (old : Shown) (after : ℕ) where
  -- The predictions that colours show: none if no colours are requested, or else those of the answer of `why`
  -- to the request. The folder is `old` at first, and its device has failed `after` times at the end.
  abbrev pub ArePredicted : Colouring → Invocation → List Prediction → Type 0
  ArePredicted colourings.Plain invocation predicted = predicted ≡ []
  ArePredicted colourings.Outcomes invocation predicted =
      (answer : Answer) × IsAnswerTo tables known invocation old answer after
      × (predicted ≡ found_in answer)

module _ {M F Z S A : Type 0} (tables : Tables M F Z S A) (known : Type 0) (old : Shown) (after : ℕ)
    (style : Style) (colouring : Colouring) where
  -- First the request is predicted, which does not change the folder. Then this is the reply, with the
  -- colours of these predictions.
  pub record IsGraphAnswer (invocation : Invocation) (reply : Reply) : Type 0 where
    pub shown : Shown
    pub same : known → shown.contents ≡ old.contents
    pub predicted : List Prediction
    pub are_predicted : ArePredicted tables known old shown.failures colouring invocation predicted
    pub reply_is : IsGraphReply tables known shown after style predicted invocation reply
