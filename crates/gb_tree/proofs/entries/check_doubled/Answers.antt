use Rattle.std.proofs.Common.{arith, ◌≡◌, ◌+◌, ◌-◌, ℕ, List, Some, inr, add-one, drop, take, length, sym, ◌∙◌, ap, subst, get_or}
use Rattle.std.proofs.lemmas.List.{take_rest, drop_all}
use Rattle.std.specs.List.{filter}
use Rattle.std.specs.Option.{option_copied}
use Rattle.gb_core.specs.Place.{is_under}
use Rattle.gb_core.specs.Lists.{first_of}
use Rattle.gb_folder.specs.Files.{Place}
use Rattle.gb_tree.specs.declared.fault.TreeFault.TheVariants as faults
use Rattle.gb_tree.specs.Property.{doubled, paths_of}
use Rattle.gb_tree.specs.Rising.{IsFrom, IsRising}
use Rattle.gb_tree.specs.Tree.{Entries}
use Rattle.gb_tree.proofs.Doubles.{from_here, rising_drop, strictly_sorted}
use Rattle.gb_tree.proofs.Loops.{step_here}
use Rattle.gb_tree.proofs.Refused.{prefix_first, none_first}
use Rattle.gb_tree.proofs.entries.check_doubled.Goals as goal

pub first_under-requires-clause-rising : goal.first_under-requires-clause-rising
first_under-requires-clause-rising c =
    let entries = c.args.entries.now in
    let i = c.loop-index.index in
    subst (λ (es : Entries). IsRising es) (sym (take_rest entries (i + 1))) (rising_drop entries (i + 1) c.requires)

pub first_under-requires-clause-from : goal.first_under-requires-clause-from
first_under-requires-clause-from c =
    let entries = c.args.entries.now in
    let i = c.loop-index.index in
    subst (λ (es : Entries). IsFrom (get_or entries i c.index-entries-index.result).0 es) (sym (take_rest entries (i + 1))) (rw add-one (from_here entries i c.index-entries-index.result c.loop-index-test.true c.requires))

pub returns-in-Some-clause-err : goal.returns-in-Some-clause-err
returns-in-Some-clause-err c =
    let entries = c.args.entries.now in
    let i = c.loop-index.index in
    let e = c.index-entries-index.result in
    let rest = drop (i + 1) entries in
    let other = c.in-Some.other.now in
    let first : first_of (filter (λ other. is_under other e.0) (paths_of rest)) ≡ Some other =
    ap (λ es. first_of (filter (λ other. is_under other e.0) (paths_of es))) (sym (take_rest entries (i + 1)))
    ∙ ap (λ (x : List ℕ × Place). first_of (filter (λ other. is_under other x.0) (paths_of (take (length entries - (i + 1)) (drop (i + 1) entries))))) c.index-entries-index.is
    ∙ sym c.in_ok-other.ensures ∙ ap option_copied c.in-Some.is in
    inr (
      other,
      sym c.loop-index.invariant.doubled ∙ step_here (λ es. first_of (doubled (paths_of es))) entries i e c.loop-index-test.true c.index-entries-index.is
          ∙ prefix_first (filter (λ other. is_under other e.0) (paths_of rest)) (doubled (paths_of rest)) other first,
      ap (λ name. faults.DuplicateInput name c.in_ok-copy-2.field-0) c.in_ok-copy.ensures ∙ ap (faults.DuplicateInput c.args.name.now) c.in_ok-copy-2.ensures,
    )

pub returns-clause-ordered : goal.returns-clause-ordered
returns-clause-ordered c =
    let entries = c.args.entries.now in
    let end = c.loop-index-test.false in
    strictly_sorted entries c.requires (none_first (doubled (paths_of entries)) (sym c.loop-index.invariant.doubled ∙ ap (λ es. first_of (doubled (paths_of es))) (drop_all c.loop-index.index entries (omega (arith, end)))))
