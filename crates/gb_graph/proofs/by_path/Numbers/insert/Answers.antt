use Rattle.std.proofs.Common.{ℕ, List, cond, Some, bytes_eq, sym, ap, ◌∙◌, Bor}
use Rattle.std.specs.Map.{lookup}
use Rattle.gb_graph.specs.Ranked.{number_at}
use Rattle.gb_graph.proofs.Looked.{looked_up}
use Rattle.gb_graph.proofs.by_path.Numbers.insert.Goals as goal

pub returns : goal.returns
returns c = λ other.
    let old = c.self.inside.entries.entries in
    let path : Bor (List ℕ) = record { ref_ptr = (0, 0); now = other } in
    looked_up c.insert.new.self.entries other ∙ c.in_ok-insert.ensures.updates.0 path
    ∙ ap (λ text. cond (bytes_eq text other) (Some c.args.number) (lookup (λ k. bytes_eq other k.now) old)) c.as_str.ensures.text
    ∙ ap (cond (bytes_eq c.args.path.now other) (Some c.args.number)) (sym (looked_up old other) ∙ ap (λ numbers. number_at numbers other) c.self.view_is)
