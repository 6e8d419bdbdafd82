use Rattle.std.proofs.Common.{◌≡◌, drop}
use Rattle.gb_markdown.specs.References.{meanings, referred}
use Rattle.gb_markdown.proofs.references.referred.Given as goal

abbrev pub invariant-loop-reference : goal.invariant-loop-reference
invariant-loop-reference l =
    referred l.label (meanings (drop l.reference-index l.references)) ≡ referred l.label (meanings l.references)
