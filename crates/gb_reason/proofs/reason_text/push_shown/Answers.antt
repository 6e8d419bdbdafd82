use Rattle.std.proofs.Common.{◌≡◌, ℕ, List, [], ◌∷◌, ◌++◌, map, sym, ap, subst, ◌∙◌, append_assoc, append-nil}
use Rattle.std.specs.Prelude.{encode_utf8, encode_utf8_all, string_bytes}
use Rattle.std.proofs.lemmas.Iterator.{YieldsList-from_chars, YieldsList-from_take}
use Rattle.std.proofs.lemmas.Iterator.Consumers.{YieldsList-end}
use Rattle.std.proofs.lemmas.List.{map-id}
use Rattle.std.specs.Str.{IsUtf8}
use Rattle.gb_report.specs.Fault.{shown_character}
use Rattle.gb_reason.proofs.reason_text.push_shown.Goals as goal

-- one more character
shown_more : (cs : List ℕ) (c : ℕ) → encode_utf8_all (map shown_character cs) ++ encode_utf8 (shown_character c) ≡ encode_utf8_all (map shown_character (cs ++ c ∷ []))
shown_more [] c = sym (append-nil _)
shown_more (d ∷ cs) c = append_assoc (encode_utf8 (shown_character d)) _ _ ∙ ap (λ (l : List ℕ). encode_utf8 (shown_character d) ++ l) (shown_more cs c)

pub returns : goal.returns
returns c =
    let prefix = YieldsList-end (YieldsList-from_take {s = c.into_iter-character-iterator.result} 80 (YieldsList-from_chars c.args.reported.now (subst IsUtf8 c.as_str.ensures c.as_str.utf8) cc) cc)
    c.loop-character.yielded c.loop-character.character-iterator c.loop-character.yielded_by c.next.result c.next.new.self c.in-None.is c.next.ensures.steps in
    c.loop-character.invariant
    ∙ ap (λ (cs : List ℕ). string_bytes c.args.text.now ++ encode_utf8_all (map shown_character cs)) (sym (map-id c.loop-character.yielded) ∙ prefix.0)

pub loop-character-preserved : goal.loop-character-preserved
loop-character-preserved c =
    let reported = encode_utf8_all (map shown_character c.loop-character.yielded) in
    let next = encode_utf8 (shown_character c.in-Some.character) in
    c.in_ok-push.ensures.bytes
    ∙ ap (λ ch. string_bytes c.loop-character.text ++ encode_utf8 ch) c.shown_character.ensures
    ∙ ap (λ (l : List ℕ). l ++ next) c.loop-character.invariant
    ∙ append_assoc (string_bytes c.args.text.now) reported next
    ∙ ap (λ (l : List ℕ). string_bytes c.args.text.now ++ l) (shown_more c.loop-character.yielded c.in-Some.character)
