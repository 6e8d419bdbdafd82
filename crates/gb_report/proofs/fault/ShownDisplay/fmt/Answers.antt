use Rattle.std.proofs.Common.{◌≡◌, ℕ, List, [], ◌∷◌, ◌++◌, map, rules, sym, ap, subst, ◌∙◌, append_assoc, append-nil}
use Rattle.std.specs.Prelude.{encode_utf8, encode_utf8_all}
use Rattle.std.proofs.Output.{has_written_append, has_written_of_eq}
use Rattle.std.proofs.lemmas.Iterator.{YieldsList-from_chars, YieldsList-from_take}
use Rattle.std.proofs.lemmas.Iterator.Consumers.{YieldsList-end}
use Rattle.std.proofs.lemmas.List.{map-id}
use Rattle.std.specs.Str.{IsUtf8}
use Rattle.gb_report.specs.Fault.{shown_character}
use Rattle.gb_report.proofs.fault.ShownDisplay.fmt.Goals as goal

-- one more character
shown_more : (cs : List ℕ) (c : ℕ) → encode_utf8_all (map shown_character cs) ++ encode_utf8 (shown_character c) ≡ encode_utf8_all (map shown_character (cs ++ c ∷ []))
shown_more [] c = sym (append-nil _)
shown_more (d ∷ cs) c = append_assoc (encode_utf8 (shown_character d)) _ _ ∙ ap (λ (l : List ℕ). encode_utf8 (shown_character d) ++ l) (shown_more cs c)

pub loop-character-preserved : goal.loop-character-preserved
loop-character-preserved g c plain =
    has_written_of_eq _ _ _ _ _ (shown_more c.loop-character.yielded c.in-Some.character)
    (has_written_append _ _ _ _ _ _ (c.loop-character.invariant plain) (search rules))

pub returns-clause-writes : goal.returns-clause-writes
returns-clause-writes g c plain ok =
    let prefix = YieldsList-end (YieldsList-from_take {s = c.into_iter-character-iterator.result} 80 (YieldsList-from_chars c.args.self.now.text.now (subst IsUtf8 c.as_str.ensures c.as_str.utf8) cc) cc)
    c.loop-character.yielded c.loop-character.character-iterator c.loop-character.yielded_by c.next.result c.next.new.self c.in-None.is c.next.ensures.steps in
    has_written_of_eq _ _ _ _ _ (ap (λ (cs : List ℕ). encode_utf8_all (map shown_character cs)) (sym (map-id c.loop-character.yielded) ∙ prefix.0)) (c.loop-character.invariant plain)
