-- Tasks that clauses name, one clause after another.
use Rattle.std.proofs.Common.{◌≡◌, ℕ, ◌+◌, ◌<◌, List, [], ◌∷◌, ◌++◌, length, get_or, drop, refl, sym, ap, ◌∙◌}
use Rattle.std.proofs.lemmas.Grind.{flat_map-append}
use Rattle.std.specs.Borrow.{Bor}
use Rattle.std.specs.BTreeSet.{insert_key}
use Rattle.std.specs.List.{flat_map}
use Rattle.gb_core.specs.Lists.{byte_order}
use Rattle.gb_core.specs.Tasks.{with_tasks}
use Rattle.gb_report.specs.declared.fault.Fault.{Fault}
use Rattle.gb_registry.specs.Projects.{Path, absolute}
use Rattle.gb_registry.specs.References.{name_faults}
use Rattle.gb_declare.specs.Borrowed.{now_of}
use Rattle.gb_declare.specs.Joined.{with_named}
use Rattle.gb_declare.proofs.JoinLemmas.{left_at}

with_tasks-append : (there a b : List Path) → with_tasks there (a ++ b) ≡ with_tasks (with_tasks there a) b
with_tasks-append there [] b = refl
with_tasks-append there (task ∷ a) b = with_tasks-append (insert_key byte_order there task) a b

named-append : (project : Path) (there : List Path) (a b : List (List ℕ)) → with_named project there (a ++ b) ≡ with_named project (with_named project there a) b
named-append project there a b =
    let task : List ℕ → List Path = λ text. absolute project text ∷ [] in
    ap (with_tasks there) (flat_map-append task a b) ∙ with_tasks-append there (flat_map task a) (flat_map task b)

module _ {C : Type 0} (project : Path) (pick : C → List (List ℕ)) (clauses : List (Bor C)) (i : ℕ) (clause : Bor C) (within : i < length clauses) (is : clause ≡ get_or clauses i clause) (texts : List (List ℕ)) (picked : texts ≡ pick clause.now) where
  next : flat_map pick (now_of (drop i clauses)) ≡ texts ++ flat_map pick (now_of (drop (i + 1) clauses))
  next = ap (flat_map pick) (left_at clauses i clause within is) ∙ ap (λ t. t ++ flat_map pick (now_of (drop (i + 1) clauses))) (sym picked)

  -- the tasks of one clause more
  pub named_more : (old new whole : List Path) → with_named project old (flat_map pick (now_of (drop i clauses))) ≡ whole → new ≡ with_named project old texts
      → with_named project new (flat_map pick (now_of (drop (i + 1) clauses))) ≡ whole
  named_more old new whole before is_new =
      ap (λ there. with_named project there (flat_map pick (now_of (drop (i + 1) clauses)))) is_new
      ∙ sym (named-append project old texts (flat_map pick (now_of (drop (i + 1) clauses))))
      ∙ sym (ap (with_named project old) next) ∙ before

  -- its texts are paths
  pub clear_more : (all : List Fault) → all ≡ flat_map (name_faults project) (flat_map pick (now_of (drop i clauses))) → flat_map (name_faults project) texts ≡ []
      → all ≡ flat_map (name_faults project) (flat_map pick (now_of (drop (i + 1) clauses)))
  clear_more all before clear =
      before ∙ ap (flat_map (name_faults project)) next
      ∙ flat_map-append (name_faults project) texts (flat_map pick (now_of (drop (i + 1) clauses)))
      ∙ ap (λ faults. faults ++ flat_map (name_faults project) (flat_map pick (now_of (drop (i + 1) clauses)))) clear
