use Rattle.std.proofs.Common.{◌≡◌, ap, ◌∙◌, List, ℕ}
use Rattle.std.specs.Prelude.{bytes_eq}
use Rattle.gb_core.specs.Place.{is_beneath}
use Rattle.gb_graph.proofs.Cuts.{all_found, finds_same}
use Rattle.gb_graph.proofs.overlaps.overlapped.Goals as goal

pub returns : goal.returns
returns c =
    let row = c.args.row.now in
    let place = c.args.place.now in
    let text : c.as_bytes-text.result.now ≡ place = c.as_bytes-text.ensures.value ∙ c.as_str.ensures.text in
    all_found row place c.new-found.result.items c.find_beneath.new.found.items c.find_at.new.found.items c.find_above.new.found.items c.new-found.ensures.items
    (finds_same row (λ p. is_beneath p c.as_bytes-text.result.now) (λ p. is_beneath p place) (λ p. ap (is_beneath p) text) _ _ c.in_ok-find_beneath.ensures)
    (finds_same row (λ p. bytes_eq p c.as_bytes-text.result.now) (λ p. bytes_eq p place) (λ p. ap (bytes_eq p) text) _ _ c.in_ok-find_at.ensures)
    (finds_same row (λ p. is_beneath c.as_bytes-text.result.now p) (λ p. is_beneath place p) (λ p. ap (λ (t : List ℕ). is_beneath t p) text) _ _ c.in_ok-find_above.ensures)
