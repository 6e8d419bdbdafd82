-- The path of a place consists of its segments, one after another.
use Rattle.std.proofs.Common.{◌≡◌, ◌<◌, ◌&&◌, ℕ, true, List, length, get_or, [], ◌∷◌, ◌++◌, append_assoc, IsTrue, refl, sym, ap, ◌∙◌}
use Rattle.std.specs.List.{join_with_byte, list_all}
use Rattle.std.proofs.lemmas.Bool.{and_from, and_parts}
use Rattle.std.proofs.lemmas.List.Elements.{All-get_or}
use Rattle.std.proofs.lemmas.List.Folds.{list_all-append}
use Rattle.std.proofs.lemmas.List.Sums.{AllPass-from_list_all}
use Rattle.std.specs.Prelude.{nat_le}
use Rattle.gb_core.specs.Place.{is_place, is_printable, is_segment, segments}
use Rattle.gb_disk.specs.Disk.{path_in}

-- a further segment follows a slash
join_more : (first segment : List ℕ) (segments : List (List ℕ)) → join_with_byte 47 (first ∷ (segments ++ segment ∷ [])) ≡ join_with_byte 47 (first ∷ segments) ++ 47 ∷ segment
join_more first segment [] = refl
join_more first segment (second ∷ segments) =
    ap (λ rest. first ++ 47 ∷ rest) (join_more second segment segments) ∙ sym (append_assoc first (47 ∷ join_with_byte 47 (second ∷ segments)) (47 ∷ segment))

-- a path, a text and a segment
two_steps : (path : List ℕ) (c : ℕ) (text : List ℕ) (d : ℕ) (segment : List ℕ) → path_in (path_in path (c ∷ text)) (d ∷ segment) ≡ path_in path (c ∷ text ++ 47 ∷ d ∷ segment)
two_steps [] c text d segment = refl
two_steps (b ∷ path) c text d segment = ap (λ rest. b ∷ rest) (append_assoc path (47 ∷ c ∷ text) (47 ∷ d ∷ segment))

pub step_down : (base segment : List ℕ) (segments : List (List ℕ)) → IsTrue (list_all is_segment segments) → IsTrue (is_segment segment)
    → path_in (path_in base (join_with_byte 47 segments)) segment ≡ path_in base (join_with_byte 47 (segments ++ segment ∷ []))
step_down base [] segments good is = absurd (cc is)
step_down [] (d ∷ segment) [] good is = refl
step_down (b ∷ base) (d ∷ segment) [] good is = refl
step_down base (d ∷ segment) ([] ∷ segments) good is = absurd (cc good)
step_down base (d ∷ segment) ((c ∷ first) ∷ []) good is = two_steps base c first d segment
step_down base (d ∷ segment) ((c ∷ first) ∷ second ∷ segments) good is =
    two_steps base c (first ++ 47 ∷ join_with_byte 47 (second ∷ segments)) d segment
    ∙ ap (path_in base) (sym (join_more (c ∷ first) (d ∷ segment) (second ∷ segments)))

-- each segment of a place is one that can occur in a folder
pub good_segment : (place segment : List ℕ) (index : ℕ) → IsTrue (is_place place) → index < length (segments place) → segment ≡ get_or (segments place) index segment
    → IsTrue (is_segment segment)
good_segment place segment index placed inside is =
    let all = (and_parts (nat_le (length place) 1024 && list_all is_printable place) _ placed).1 in
    ap is_segment is ∙ All-get_or (λ s. is_segment s ≡ true) (segments place) index segment inside (AllPass-from_list_all is_segment (segments place) all)

-- so is each of those so far, with the next
pub all_good : (segments : List (List ℕ)) (segment : List ℕ) → IsTrue (list_all is_segment segments) → IsTrue (is_segment segment) → IsTrue (list_all is_segment (segments ++ segment ∷ []))
all_good segments segment good is = list_all-append is_segment segments (segment ∷ []) ∙ and_from _ _ good (and_from _ _ is refl)
