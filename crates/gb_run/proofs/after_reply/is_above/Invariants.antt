use Rattle.std.proofs.Common.{◌≡◌, length}
use denote.Text.{Utf8}
use denote.Shadow.{shadow}
use Rattle.std.specs.List.{list_any}
use Rattle.std.specs.Prelude.{string_bytes}
use Rattle.gb_core.specs.Place.{is_beneath}
use Rattle.gb_run.proofs.after_reply.is_above.Given as goal

-- a step is at an ancestor folder of the text exactly if one is at an ancestor folder of its rest
abbrev pub invariant-loop-folder : goal.invariant-loop-folder
invariant-loop-folder l = record {
  utf8 : shadow (Utf8 l.rest);
  same : list_any (λ step. is_beneath l.text (string_bytes step.0)) l.steps.entries ≡ list_any (λ step. is_beneath l.rest (string_bytes step.0)) l.steps.entries;
}

abbrev pub decreases-loop-folder : goal.decreases-loop-folder
decreases-loop-folder l = length l.rest
