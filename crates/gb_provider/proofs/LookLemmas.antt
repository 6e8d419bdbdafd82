-- What an evaluation step of a node implies for the rule of an entry.
use Rattle.std.proofs.Common.{◌≡◌, ℕ, ◌<◌, List, Option, Some, length, map, get_or, refl, sym, ◌∙◌, ap, subst}
use Rattle.std.specs.Prelude.{slice_get, option_map}
use Rattle.std.proofs.lemmas.Option.{slice_get-map, slice_get_read}
use Rattle.gb_provider.specs.declared.evaluation.Reading.{Reading}
use Rattle.gb_provider.specs.Rounds.{Rule, reading}
use Rattle.gb_provider.specs.Search.{IsLook, IsPast, IsPastAt}

-- each node has a rule, and the node that was evaluated is the one of this number
module _ {N A : Type 0} (rule_of : List N → N → Rule ℕ A) (here inside nodes : List N) (alike : here ≡ nodes) (same : inside ≡ nodes) (f : ℕ → Option A) (at : ℕ) (node : N) (below : at < length inside) (is : node ≡ get_or inside at node) where
  there : slice_get (map (rule_of nodes) nodes) at ≡ Some (rule_of here node)
  there =
      let found : slice_get inside at ≡ Some node = slice_get_read inside (length inside) at node refl below is in
      let first : slice_get nodes at ≡ Some node = subst (λ (ns : List N). slice_get ns at ≡ Some node) same found in
      let rule : slice_get (map (rule_of nodes) nodes) at ≡ Some (rule_of nodes node) = slice_get-map (rule_of nodes) nodes at ∙ ap (option_map (rule_of nodes)) first in
      subst (λ (ns : List N). slice_get (map (rule_of nodes) nodes) at ≡ Some (rule_of ns node)) (sym alike) rule

  pub past_of_node : (n : ℕ) → IsPastAt (map (rule_of nodes) nodes) f at n → IsPast f n (rule_of here node)
  past_of_node n past = past (rule_of here node) there

  pub past_of_entry : (n : ℕ) → IsPast f n (rule_of here node) → IsPastAt (map (rule_of nodes) nodes) f at n
  past_of_entry n past r other = let one : rule_of here node ≡ r = cc (there) in subst (λ (s : Rule ℕ A). IsPast f n s) one past

  pub look_of_entry : (found : Reading ℕ A) → found ≡ reading f (rule_of here node) → IsLook (map (rule_of nodes) nodes) f at found
  look_of_entry found reads = (rule_of here node, there, reads)
