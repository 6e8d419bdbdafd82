-- The words with which clauses begin, by the names that they are about, as they are noted clause by clause.
use Rattle.std.specs.Prelude.{ℕ, Bool, false, not, List, [], map, Option, Some, None, bytes_eq}
use Rattle.std.specs.Borrow.{Bor}
use Rattle.std.specs.BTreeMap.{BTreeMap}
use Rattle.std.specs.FinMap.Entries.{put, find}
use Rattle.gb_core.specs.Lists.{byte_order}
use Rattle.gb_script.specs.declared.script.Clause.{Clause}
use Rattle.gb_declare.specs.Declaring.{heading}
use Rattle.gb_declare.specs.Joined.{Named}

-- the name and the word of a clause, if it is about one
abbrev pub Heading : Type 0
Heading = Named (List ℕ)

-- the word, or nothing
abbrev pub word_in : Option Heading → List ℕ
word_in None = []
word_in (Some h) = h.1

-- the first clauses about each name represent their words
abbrev pub words_in : BTreeMap (List ℕ) (Bor Clause) → List Heading
words_in clauses = map (λ e. (e.0, word_in (heading e.1.now))) clauses.entries

-- these words with the word of one more clause
abbrev pub noted : List Heading → Option Heading → List Heading
noted words None = words
noted words (Some h) = put byte_order h.0 h.1 words

abbrev pub is_other : List ℕ → Option (List ℕ) → Bool
is_other word None = false
is_other word (Some known) = not (bytes_eq known word)

-- another word is noted for the name
abbrev pub clashes : List Heading → Option Heading → Bool
clashes words None = false
clashes words (Some h) = is_other h.1 (find byte_order h.0 words)
