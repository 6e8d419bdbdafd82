-- Words and indexes, worked out.
use Rattle.std.proofs.Common.{◌≡◌, [], ◌∷◌, ◌++◌, true, false, ◌&&◌, ◌||◌, List, replicate, codes, refl}
use Rattle.bstr.specs.Text.{line_len, lines_from}
use Rattle.gb_action.specs.Files.{Tree}
use Rattle.gb_action.specs.declared.change.Change.{Change}
use Rattle.gb_action.specs.declared.change.Change.TheVariants.{Modified}
use Rattle.gb_kinds.specs.Carried.{is_carried, is_looked_at}
use Rattle.gb_kinds.specs.Words.{index_of, words_of}

pub two_files : index_of ((codes "a", codes "red Blue") ∷ (codes "b", codes "blue") ∷ []) ≡ (codes "blue", codes "a\nb\n") ∷ (codes "red", codes "a\n") ∷ []
two_files = refl

pub once_a_file : index_of ((codes "a", codes "x X x") ∷ []) ≡ (codes "x", codes "a\n") ∷ []
once_a_file = refl

-- any bytes that are not letters separate words
pub parted : words_of (255 ∷ codes "It's" ++ 195 ∷ 169 ∷ codes "t4U") ≡ codes "it" ∷ codes "s" ∷ codes "t" ∷ codes "u" ∷ []
parted = refl

pub longest : words_of (replicate 64 88) ≡ replicate 64 120 ∷ []
longest = refl

pub too_long : words_of (replicate 65 88) ≡ []
too_long = refl

-- ---- For changes: the old index has the word w at both files and v at a, and b was modified

abbrev old_index : Tree
old_index = (codes "v", codes "a\n") ∷ (codes "w", codes "a\nb\n") ∷ []

abbrev files : Tree
files = (codes "a", codes "any") ∷ (codes "b", codes "x") ∷ []

abbrev changed : List Change
changed = Modified (codes "b") ∷ []

pub stays : is_carried old_index changed files (codes "w") (codes "a\n") ≡ true
unfolding line_len lines_from
stays = refl

pub leaves : is_carried old_index changed files (codes "w") (codes "b\n") ≡ false
unfolding line_len lines_from
leaves = refl

pub comes : is_carried old_index changed files (codes "x") (codes "b\n") ≡ true
unfolding line_len lines_from
comes = refl

-- words that b contains or contained are examined,
pub are_looked_at : (is_looked_at old_index changed files (codes "w") && is_looked_at old_index changed files (codes "x")) ≡ true
unfolding line_len lines_from
are_looked_at = refl

-- and no others; the bytes of a file that did not change are not needed
pub are_not : (is_looked_at old_index changed files (codes "v") || is_looked_at old_index changed files (codes "any")) ≡ false
unfolding line_len lines_from
are_not = refl
