-- What is written of the nodes so far, and of the rest.
use Rattle.std.proofs.Common.{ℕ, suc, ◌≡◌, ◌+◌, ◌<◌, List, ◌++◌, get_or, length, take, drop, drop-cons, ap, sym, refl, ◌∙◌, append_assoc, add-one}
use Rattle.gb_picture.specs.Graph.{numbered}

-- what is written so far, this one, and the rest, is what is written so far and the rest with this one
pub numbered_step : {T : Type 0} (write : ℕ → T → List ℕ) (all before now : List ℕ) (nodes : List T) (i : ℕ) (d : T) → i < length nodes
    → before ++ numbered write i (drop i nodes) ≡ all → now ≡ before ++ write i (get_or nodes i d)
    → now ++ numbered write (i + 1) (drop (i + 1) nodes) ≡ all
numbered_step write all before now nodes i d within so_far added =
    let rest : numbered write i (drop i nodes) ≡ write i (get_or nodes i d) ++ numbered write (i + 1) (drop (suc i) nodes) = ap (numbered write i) (drop-cons nodes i d within) in
    ap (λ t. t ++ numbered write (i + 1) (drop (i + 1) nodes)) added
    ∙ append_assoc before (write i (get_or nodes i d)) (numbered write (i + 1) (drop (i + 1) nodes))
    ∙ ap (λ t. before ++ t) (sym (rest ∙ ap (λ n. write i (get_or nodes i d) ++ numbered write (i + 1) (drop n nodes)) (sym (add-one i))))
    ∙ so_far

-- three texts that are added one after another
pub three : (old a b d one two end : List ℕ) → one ≡ old ++ a → two ≡ one ++ b → end ≡ two ++ d → end ≡ old ++ ((a ++ b) ++ d)
three old a b d one two end p q r =
    r ∙ ap (λ t. t ++ d) (q ∙ ap (λ t. t ++ b) p ∙ append_assoc old a b)
    ∙ append_assoc old (a ++ b) d
