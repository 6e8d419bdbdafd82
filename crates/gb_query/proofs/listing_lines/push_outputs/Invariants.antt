use Rattle.std.proofs.Common.{◌≡◌, ◌++◌, string_bytes, take}
use Rattle.std.specs.List.{flat_map}
use Rattle.gb_query.specs.Listing.{output_text}
use Rattle.gb_query.proofs.listing_lines.push_outputs.Given as goal

abbrev pub invariant-loop-output : goal.invariant-loop-output
invariant-loop-output l = string_bytes l.text ≡ string_bytes l.fn.text ++ flat_map output_text (take l.output-index l.outputs)
