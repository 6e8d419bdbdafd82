use Rattle.std.proofs.Common.{Vec, ◌≡◌, ◌||◌, Bool, true, false, cond, ℕ, List, [], ◌∷◌, ◌++◌, refl, sym, ◌∙◌, ap, take}
use Rattle.std.proofs.lemmas.List.Folds.{list_any-append, list_any_more}
use Rattle.std.proofs.lemmas.Map.Text.{btree_set_updates_text}
use Rattle.std.specs.BTreeSet.{contains_text}
use Rattle.std.specs.Global.{Global}
use Rattle.std.specs.List.{list_any}
use Rattle.std.specs.Prelude.{bytes_eq, string_bytes}
use Rattle.gb_tree.proofs.Comparing.{plain_matches}
use Rattle.gb_tree.proofs.sieve.Sieve.new.Goals as goal
use Rattle.gb_tree.proofs.sieve.Sieve.new.Goals.{then-has_wild+in_ok-copy+in_ok-push, else-has_wild+in_ok-from_str+in_ok-insert}
use Rattle.gb_tree.specs.Pattern.{is_wild, path_matches}
use Rattle.gb_tree.specs.Property.{matches_any}

in_set : (here had others : Bool) → (cond here true had || others) ≡ ((had || others) || here)
in_set true true others = refl
in_set true false true = refl
in_set true false false = refl
in_set false true others = refl
in_set false false true = refl
in_set false false false = refl

tried : (has before here : Bool) → (has || (before || (here || false))) ≡ ((has || before) || here)
tried true before here = refl
tried false true here = refl
tried false false true = refl
tried false false false = refl

-- a pattern with a wildcard more
wild_more : (has : Bool) (wild : List (List ℕ)) (pattern path : List ℕ) → (has || matches_any (wild ++ pattern ∷ []) path) ≡ ((has || matches_any wild path) || path_matches pattern path)
wild_more has wild pattern path =
    ap (λ b. has || b) (list_any-append (λ pattern. path_matches pattern path) wild (pattern ∷ []))
    ∙ tried has (matches_any wild path) (path_matches pattern path)

pub loop-pattern-preserved : goal.loop-pattern-preserved
loop-pattern-preserved c = λ path.
    let patterns = c.args.all.now in
    let i = c.loop-pattern.pattern-index in
    let pattern = c.pattern-item.result in
    let before = c.loop-pattern in
    let one_more =
    ap (λ b. b || path_matches pattern path) (before.invariant path)
    ∙ ap (λ other. matches_any (take i patterns) path || path_matches other path) c.pattern-item.is
    ∙ sym (list_any_more (λ pattern. path_matches pattern path) patterns i pattern c.loop-pattern-test.true) in
    elim c.if-has_wild.branch [
      | then-has_wild+in_ok-copy+in_ok-push w ↦
          ap (λ set. contains_text set path || matches_any c.if-has_wild.wild.items path) w.plain-is
          ∙ ap (λ (v : Vec (List ℕ) Global). contains_text before.plain path || matches_any v.items path) w.wild-is
          ∙ ap (λ (wild : List (List ℕ)). contains_text before.plain path || matches_any wild path)
          (w.in_ok-push.ensures.items ∙ ap (λ copy. before.wild.items ++ copy ∷ []) w.in_ok-copy.ensures)
          ∙ wild_more (contains_text before.plain path) before.wild.items pattern path
          ∙ one_more
      | else-has_wild+in_ok-from_str+in_ok-insert w ↦
          let key : string_bytes w.in_ok-from_str.field-0 ≡ pattern = w.in_ok-from_str.ensures.ok ∙ w.as_str-else-has_wild.ensures in
          let none : list_any is_wild pattern ≡ false = ap (list_any is_wild) (sym c.as_str.ensures) ∙ sym c.has_wild.ensures ∙ w.if-has_wild.false in
          ap (λ set. contains_text set path || matches_any c.if-has_wild.wild.items path) w.plain-is
          ∙ ap (λ (v : Vec (List ℕ) Global). contains_text w.insert.new.self path || matches_any v.items path) w.wild-is
          ∙ ap (λ b. b || matches_any before.wild.items path)
          (btree_set_updates_text (string_bytes w.in_ok-from_str.field-0) before.plain w.insert.new.self true w.in_ok-insert.ensures.updates path
          ∙ ap (λ bs. cond (bytes_eq bs path) true (contains_text before.plain path)) key
          ∙ ap (λ here. cond here true (contains_text before.plain path)) (plain_matches pattern path none))
          ∙ in_set (path_matches pattern path) (contains_text before.plain path) (matches_any before.wild.items path)
          ∙ one_more
    ]
