use Rattle.std.proofs.Common.{◌≡◌, ◌≤◌, length, string_bytes}
use denote.Text.{Utf8}
use denote.Shadow.{shadow}
use Rattle.gb_script.specs.Scanning.{with_content, content_at}
use Rattle.gb_script.proofs.lexing.content_by_runs.Given as goal

abbrev pub invariant-runs : goal.invariant-runs
invariant-runs l = record {
  text : shadow (Utf8 l.rest);
  so_far : with_content (string_bytes l.content) (content_at l.rest) ≡ content_at l.text;
  shorter : length l.rest ≤ length l.text;
}

abbrev pub decreases-runs : goal.decreases-runs
decreases-runs l = length l.rest
