use Rattle.std.proofs.Common.{◌<◌, ◌++◌, ◌∷◌, [], length, rules, ap, ◌∙◌}
use Rattle.gb_format.specs.Shown.{shown}
use Rattle.gb_format.proofs.CutItems.{all_left, prefix_is, blank_cut, kept_cut, none_left, shown_more}
use Rattle.gb_format.proofs.cutting.cut.Goals as goal

pub parts-init : goal.parts-init
parts-init c = record {
  text = search rules;
  left = all_left c.args.text.now _ c.requires (ap shown c.new-items.ensures.items);
}

pub cut_first-requires : goal.cut_first-requires
cut_first-requires c =
    let left = c.parts.invariant.left in
    prefix_is c.parts.rest.now left.pieces left.cut (search rules)

pub parts-preserved-in-Some : goal.parts-preserved-in-Some
parts-preserved-in-Some c =
    let some : 0 < length c.parts.rest.now = search rules in
    record {
      text = search rules;
      left = blank_cut c.args.text.now _ c.parts.spacing c.in_ok-prefix.prefix.now c.parts.rest.now c.in_ok-prefix.after.now c.parts.invariant.left some c.in_ok-prefix.ensures.exact c.in-Some.next c.in-Some.ensures;
    }

pub parts-preserved : goal.parts-preserved
parts-preserved c =
    let some : 0 < length c.parts.rest.now = search rules in
    let more = shown_more c.parts.items.items c.push.new.self.items _ c.in_ok-push-in-None.ensures.items in
    record {
      text = search rules;
      left = kept_cut c.args.text.now (shown c.parts.items.items) c.parts.spacing c.in_ok-prefix.prefix.now c.parts.rest.now c.in_ok-prefix.after.now c.parts.invariant.left some c.in_ok-prefix.ensures.exact (shown c.push.new.self.items) c.in-None.ensures (more ∙ ap (λ t. shown c.parts.items.items ++ (c.parts.spacing, t) ∷ []) c.trimmed-text.ensures);
    }

pub returns : goal.returns
returns c = none_left c.args.text.now _ _ c.parts.rest.now c.parts.invariant.left (search rules)
