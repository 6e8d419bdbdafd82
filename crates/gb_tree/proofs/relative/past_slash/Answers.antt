use Rattle.std.proofs.Common.{inl, inr, drop, sym, ap}
use Rattle.gb_tree.proofs.relative.past_slash.Goals as goal

pub returns-in-None : goal.returns-in-None
unfolding lib.Utf8.encode
returns-in-None c = elim c.requires [
  | inl none ↦ sym (ap (drop 1) none)
  | inr more ↦ absurd (c.in-None.ensures.cases more.0 more.1)
]
