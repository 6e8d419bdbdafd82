use Rattle.std.proofs.Common.{◌≡◌, inl, inr, length, drop, ◌∙◌, ap}
use Rattle.std.proofs.lemmas.List.{drop-drop}
use Rattle.gb_core.specs.Place.{is_rel_path}
use Rattle.gb_tree.specs.Tree.{path_from}
use Rattle.gb_tree.proofs.Rest.{rest_is_path}
use Rattle.gb_tree.proofs.Under.{under_parts, after_root, has_prefix}
use Rattle.gb_tree.proofs.relative.text_from.Goals as goal

pub past_slash-requires : goal.past_slash-requires
past_slash-requires c =
    let place = c.args.place.now in
    let root = c.args.root.now in
    let is = c.in-Some.ensures.cases.2 ∙ ap (λ n. drop n place) c.in-Some.ensures.cases.1.0 in
    elim (after_root place root (under_parts place root c.requires.under)) [
      | inl none ↦ inl (is ∙ none)
      | inr more ↦ inr (more.0, is ∙ more.1)
    ]

pub returns-in-Some-clause-good : goal.returns-in-Some-clause-good
returns-in-Some-clause-good c =
    let place = c.args.place.now in
    let root = c.args.root.now in
    let is : c.past_slash.result.now ≡ path_from root place =
    c.past_slash.ensures ∙ ap (drop 1) (c.in-Some.ensures.cases.2 ∙ ap (λ n. drop n place) c.in-Some.ensures.cases.1.0) ∙ drop-drop 1 (length root) place in
    ap is_rel_path is ∙ rest_is_path root place (under_parts place root c.requires.under) c.requires.placed

pub returns-in-None : goal.returns-in-None
returns-in-None c =
    let prefix = has_prefix c.args.place.now c.args.root.now (under_parts c.args.place.now c.args.root.now c.requires.under) in
    absurd (c.in-None.ensures.cases prefix.0 prefix.1)
