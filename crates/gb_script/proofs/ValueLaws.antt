-- Values are read by the laws.
use Rattle.std.proofs.Common.{◌≡◌, ℕ, zero, suc, ◌+◌, ◌≤◌, Bool, true, false, cond, not, List, [], ◌∷◌, ◌++◌, Option, Some, None, Ok, refl, sym, ap, subst, ◌∙◌, arith, ◌⊎◌, inl, inr, codes}
use Rattle.std.specs.Prelude.{is_some}
use Rattle.std.specs.List.{AllByRecursion, flat_map}
use Rattle.std.proofs.lemmas.Bool.{le-ltb}
use Rattle.gb_script.specs.declared.token.Sign.{Sign}
use Rattle.gb_script.specs.declared.token.Sign.TheVariants.{OpenParen, CloseParen, OpenBracket, CloseBracket, Comma, Dot}
use Rattle.gb_script.specs.declared.token.Token.{Token}
use Rattle.gb_script.specs.declared.token.Token.TheVariants.{Word, Text, Mark, Wrong}
use Rattle.gb_script.specs.declared.keywords.SourceWord.{SourceWord}
use Rattle.gb_script.specs.declared.keywords.SourceWord.TheVariants as sources
use Rattle.gb_script.specs.declared.keywords.StepWord.{StepWord}
use Rattle.gb_script.specs.declared.keywords.StepWord.TheVariants as steps
use Rattle.gb_script.specs.declared.function.Function.{Function}
use Rattle.gb_script.specs.Lexing.{begins}
use Rattle.gb_script.specs.Words.{meaning_in, source_words, step_words, is_reserved}
use Rattle.gb_script.specs.Tree.{Tree, Chain, Root, TextOf, FlagOf, ListOf, PropertyOf, DirOf, FileOf, TheBuildDir, GradlePropertyOf, TaskOf, Link, MapBy, FlatMapBy, ZipBy, Else, Trees, NoTree, AndTree, Links, NoLink, AndLink, trees_of, links_of}
use Rattle.gb_script.specs.Grammar.{Leveled, opened, sign, word, bracketed_tokens, function_tokens, tree_tokens, root_tokens, trees_tokens, further_tokens, links_tokens, link_tokens, values_tokens}
use Rattle.gb_script.specs.Fits.{IsProperty, IsFunction, IsTree, IsRoot, AreTrees, AreLinks, IsLink}
use Rattle.gb_script.specs.Reading.{Reader, ◌>>=◌, is_sign, open_at, property_at, text_at, meaning_at, maybe_at, past_at, list_at, pair_at, made_at, closed_at, opened_at}
use Rattle.gb_script.specs.Readers.{bracketed_text_at, function_at, root_of_at, in_list, list_from, list_root_at, word_root_at, root_at, zip_from, link_of_at, link_at, chain_from, chain_at, inside_at, tree_at}
use Rattle.gb_script.proofs.Runs.{cases_bool}
use Rattle.gb_script.proofs.Readers.{Reads, always, Reads-as, Reads-bind, Reads-done}
use Rattle.gb_script.proofs.Singles.{tests_sign, Reads-text, Reads-property, Reads-skip-at, Reads-meaning, IsAny, skip_fails}
use Rattle.gb_script.proofs.Maybe.{stops, Begun, Reads-maybe}
use Rattle.gb_script.proofs.TextLaws.{row_end, IsRow, Reads-row, Reads-bracketed_text, Reads-function, function_end, function_ends, a_function}
use Rattle.gb_script.proofs.Limited.{no_dot, chain_marks, Reads-chain}
use Rattle.gb_script.proofs.Combined.{Reads-same, Reads-into, Reads-pair, Reads-past, Reads-closed, Reads-opened, Reads-either}

-- ---- a source that a word begins

abbrev source_spelling : SourceWord → List ℕ
source_spelling sources.True = codes "true"
source_spelling sources.False = codes "false"
source_spelling sources.Dir = codes "dir"
source_spelling sources.File = codes "file"
source_spelling sources.BuildDir = codes "buildDir"
source_spelling sources.GradleProperty = codes "gradleProperty"
source_spelling sources.Task = codes "task"

source_means : (k : SourceWord) → meaning_in source_words (source_spelling k) ≡ Some k
source_means sources.True = refl
source_means sources.False = refl
source_means sources.Dir = refl
source_means sources.File = refl
source_means sources.BuildDir = refl
source_means sources.GradleProperty = refl
source_means sources.Task = refl

-- the part after the word
abbrev root_tail : ℕ → Root → List Leveled
root_tail d (TextOf t) = []
root_tail d (FlagOf b) = []
root_tail d (ListOf trees) = []
root_tail d (PropertyOf w) = []
root_tail d (DirOf t) = bracketed_tokens d t
root_tail d (FileOf t) = bracketed_tokens d t
root_tail d TheBuildDir = []
root_tail d (GradlePropertyOf t) = bracketed_tokens d t
root_tail d (TaskOf t) = bracketed_tokens d t

abbrev IsRootOf : SourceWord → Root → Type 0
IsRootOf sources.True root = root ≡ FlagOf true
IsRootOf sources.False root = root ≡ FlagOf false
IsRootOf sources.Dir root = (t : List ℕ) × (root ≡ DirOf t) × IsAny t
IsRootOf sources.File root = (t : List ℕ) × (root ≡ FileOf t) × IsAny t
IsRootOf sources.BuildDir root = root ≡ TheBuildDir
IsRootOf sources.GradleProperty root = (t : List ℕ) × (root ≡ GradlePropertyOf t) × IsAny t
IsRootOf sources.Task root = (t : List ℕ) × (root ≡ TaskOf t) × IsAny t

module _ (room d : ℕ) (sum : room + d ≡ 64) where
  of_nothing : (root : Root) → root_tail d root ≡ [] → Reads (λ b. b ≡ root) (root_tail d) always (λ ts. Ok (root, ts))
  of_nothing root nil =
      Reads-as (Reads-done root) (λ b. b ≡ root) (root_tail d) always (λ b p. p) (λ b p. p) (λ b p. ap (root_tail d) p ∙ nil) (λ b o p. refl)

  of_text : (f : List ℕ → Root) → ((t : List ℕ) → root_tail d (f t) ≡ bracketed_tokens d t) → Reads (λ root. (t : List ℕ) × (root ≡ f t) × IsAny t) (root_tail d) always (made_at f (bracketed_text_at room))
  of_text f same =
      Reads-into (Reads-bracketed_text room d sum) f (λ root. (t : List ℕ) × (root ≡ f t) × IsAny t) (root_tail d) always
      (λ root q. q) (λ t p. (t, refl, tt)) (λ t p. same t) (λ t o p. refl)

  Reads-root_of : (k : SourceWord) → Reads (IsRootOf k) (root_tail d) always (root_of_at room k)
  unfolding root_of_at
  Reads-root_of sources.True = of_nothing (FlagOf true) refl
  Reads-root_of sources.False = of_nothing (FlagOf false) refl
  Reads-root_of sources.Dir = of_text DirOf (λ t. refl)
  Reads-root_of sources.File = of_text FileOf (λ t. refl)
  Reads-root_of sources.BuildDir = of_nothing TheBuildDir refl
  Reads-root_of sources.GradleProperty = of_text GradlePropertyOf (λ t. refl)
  Reads-root_of sources.Task = of_text TaskOf (λ t. refl)

  some_root : (k : SourceWord) → (root : Root) × IsRootOf k root
  some_root sources.True = (FlagOf true, refl)
  some_root sources.False = (FlagOf false, refl)
  some_root sources.Dir = (DirOf [], ([], refl, tt))
  some_root sources.File = (FileOf [], ([], refl, tt))
  some_root sources.BuildDir = (TheBuildDir, refl)
  some_root sources.GradleProperty = (GradlePropertyOf [], ([], refl, tt))
  some_root sources.Task = (TaskOf [], ([], refl, tt))

  -- one that a word begins
  abbrev IsWorded : Root → Type 0
  IsWorded root = (k : SourceWord) × IsAny k × IsRootOf k root

  worded_is : (k : SourceWord) (root : Root) → IsRootOf k root → root_tokens d root ≡ word (source_spelling k) ∷ root_tail d root
  worded_is sources.True root q = ap (root_tokens d) q ∙ ap (λ (r : Root). word (codes "true") ∷ root_tail d r) (sym q)
  worded_is sources.False root q = ap (root_tokens d) q ∙ ap (λ (r : Root). word (codes "false") ∷ root_tail d r) (sym q)
  worded_is sources.Dir root q = ap (root_tokens d) q.1 ∙ ap (λ (r : Root). word (codes "dir") ∷ root_tail d r) (sym q.1)
  worded_is sources.File root q = ap (root_tokens d) q.1 ∙ ap (λ (r : Root). word (codes "file") ∷ root_tail d r) (sym q.1)
  worded_is sources.BuildDir root q = ap (root_tokens d) q ∙ ap (λ (r : Root). word (codes "buildDir") ∷ root_tail d r) (sym q)
  worded_is sources.GradleProperty root q = ap (root_tokens d) q.1 ∙ ap (λ (r : Root). word (codes "gradleProperty") ∷ root_tail d r) (sym q.1)
  worded_is sources.Task root q = ap (root_tokens d) q.1 ∙ ap (λ (r : Root). word (codes "task") ∷ root_tail d r) (sym q.1)

  Reads-worded : Reads IsWorded (root_tokens d) always (λ ts. meaning_at source_words ts >>= λ k. root_of_at room k.0 k.1)
  Reads-worded =
      Reads-bind {r2 = root_of_at room}
      (Reads-meaning source_words source_spelling (refl, (refl, (refl, (refl, (refl, (refl, (refl, tt))))))) source_means sources.True) (λ k p. Reads-root_of k)
      (λ k p. some_root k)
      IsWorded (root_tokens d) always
      (λ root q. q)
      (λ k root p q. (k, tt, q))
      (λ k root p q. worded_is k root q)
      (λ k root o p q h. (refl, refl))
      (λ k root o p q h g. refl)

-- ---- trees in a row

-- the trees of a list, and back
abbrev list_of : Trees → List Tree
list_of NoTree = []
list_of (AndTree tree trees) = tree ∷ list_of trees

trees_again : (trees : Trees) → trees ≡ trees_of (list_of trees)
trees_again NoTree = refl
trees_again (AndTree tree trees) = ap (AndTree tree) (trees_again trees)

trees_all : (trees : Trees) → AreTrees trees → AllByRecursion IsTree (list_of trees)
trees_all NoTree p = tt
trees_all (AndTree tree trees) p = (p.0, trees_all trees p.1)

all_trees : (ts : List Tree) → AllByRecursion IsTree ts → AreTrees (trees_of ts)
all_trees [] p = tt
all_trees (t ∷ ts) p = (p.0, all_trees ts p.1)

further_is : (d : ℕ) (ts : List Tree) → further_tokens d (trees_of ts) ≡ flat_map (λ y. sign Comma ∷ tree_tokens d y) ts
further_is d [] = refl
further_is d (t ∷ ts) = ap (λ (l : List Leveled). sign Comma ∷ (tree_tokens d t ++ l)) (further_is d ts)

pub trees_is : (d : ℕ) (ts : List Tree) → trees_tokens d (trees_of ts) ≡ values_tokens d ts
trees_is d [] = refl
trees_is d (t ∷ ts) = ap (λ (l : List Leveled). tree_tokens d t ++ l) (further_is d ts)

-- ---- links in a row

abbrev links_list : Links → List Link
links_list NoLink = []
links_list (AndLink link links) = link ∷ links_list links

links_again : (links : Links) → links ≡ links_of (links_list links)
links_again NoLink = refl
links_again (AndLink link links) = ap (AndLink link) (links_again links)

links_all : (links : Links) → AreLinks links → AllByRecursion IsLink (links_list links)
links_all NoLink p = tt
links_all (AndLink link links) p = (p.0, links_all links p.1)

all_links : (ls : List Link) → AllByRecursion IsLink ls → AreLinks (links_of ls)
all_links [] p = tt
all_links (l ∷ ls) p = (p.0, all_links ls p.1)

-- ---- a token that begins a value does not close a list

tree_begun : (d : ℕ) (tree : Tree) → Begun in_list (tree_tokens d tree)
tree_begun d (Chain root links) = root_begun root (links_tokens d 1 links)
  where
    root_begun : (root : Root) (more : List Leveled) → Begun in_list (root_tokens d root ++ more)
    root_begun (TextOf t) more = record { head = (Text t, 0); tail = more; whole = refl; passes = refl }
    root_begun (FlagOf true) more = record { head = word (codes "true"); tail = more; whole = refl; passes = refl }
    root_begun (FlagOf false) more = record { head = word (codes "false"); tail = more; whole = refl; passes = refl }
    root_begun (ListOf trees) more = record { head = opened OpenBracket d; tail = (trees_tokens (d + 1) trees ++ sign CloseBracket ∷ []) ++ more; whole = refl; passes = refl }
    root_begun (PropertyOf w) more = record { head = word w; tail = more; whole = refl; passes = refl }
    root_begun (DirOf t) more = record { head = word (codes "dir"); tail = bracketed_tokens d t ++ more; whole = refl; passes = refl }
    root_begun (FileOf t) more = record { head = word (codes "file"); tail = bracketed_tokens d t ++ more; whole = refl; passes = refl }
    root_begun TheBuildDir more = record { head = word (codes "buildDir"); tail = more; whole = refl; passes = refl }
    root_begun (GradlePropertyOf t) more = record { head = word (codes "gradleProperty"); tail = bracketed_tokens d t ++ more; whole = refl; passes = refl }
    root_begun (TaskOf t) more = record { head = word (codes "task"); tail = bracketed_tokens d t ++ more; whole = refl; passes = refl }

-- some value
abbrev pub a_tree : Tree
a_tree = Chain TheBuildDir NoLink

abbrev pub IsGiven : {A : Type 0} → (A → Type 0) → List A → Type 0
IsGiven P [] = ⊥
IsGiven P (x ∷ xs) = P x × AllByRecursion P xs

-- one or more values, where one is read
pub Reads-values : (d : ℕ) (inside : Reader Tree) → Reads IsTree (tree_tokens d) (λ t. no_dot) inside → Reads (IsGiven IsTree) (values_tokens d) (λ ts. row_end no_dot) (list_at inside)
Reads-values d inside R =
    Reads-as (Reads-row {c = no_dot} R (a_tree, (tt, tt)) refl) (IsGiven IsTree) (values_tokens d) (λ ts. row_end no_dot) to back (λ ts p. refl) (λ ts o p. refl)
  where
    to : (ts : List Tree) → IsRow {c = no_dot} R (a_tree, (tt, tt)) refl ts → IsGiven IsTree ts
    to [] p = p
    to (t ∷ ts) p = p

    back : (ts : List Tree) → IsGiven IsTree ts → IsRow {c = no_dot} R (a_tree, (tt, tt)) refl ts
    back [] p = p
    back (t ∷ ts) p = p

pub none_or_given : {A : Type 0} (P : A → Type 0) (xs : List A) → AllByRecursion P xs → (xs ≡ []) ⊎ IsGiven P xs
none_or_given P [] p = inl refl
none_or_given P (x ∷ xs) p = inr p

pub given_all : {A : Type 0} (P : A → Type 0) (xs : List A) → IsGiven P xs → AllByRecursion P xs
given_all P [] p = tt
given_all P (x ∷ xs) p = p

-- ---- a list

abbrev elements_end : List Tree → Option Token → Bool
elements_end [] o = stops in_list o
elements_end (t ∷ ts) o = row_end no_dot o

elements_same : (ts : List Tree) (o : Option Token) → IsGiven IsTree ts → elements_end ts o ≡ row_end no_dot o
elements_same [] o p = absurd p
elements_same (t ∷ ts) o p = refl

elements_close : (ts : List Tree) → elements_end ts (Some (Mark CloseBracket)) ≡ true
elements_close [] = refl
elements_close (t ∷ ts) = refl

some_begun : (d : ℕ) (ts : List Tree) → IsGiven IsTree ts → Begun in_list (values_tokens d ts)
some_begun d [] p = absurd p
some_begun d (t ∷ ts) p =
    let b = tree_begun d t in
    record { head = b.head; tail = b.tail ++ flat_map (λ y. sign Comma ∷ tree_tokens d y) ts; whole = ap (λ (l : List Leveled). l ++ flat_map (λ y. sign Comma ∷ tree_tokens d y) ts) b.whole; passes = b.passes }

abbrev IsListRoot : Root → Type 0
IsListRoot root = (ts : List Tree) × (root ≡ list_from ts) × AllByRecursion IsTree ts

-- the part within the brackets
abbrev list_marks : ℕ → Root → List Leveled
list_marks d (TextOf t) = []
list_marks d (FlagOf b) = []
list_marks d (ListOf trees) = trees_tokens (d + 1) trees
list_marks d (PropertyOf w) = []
list_marks d (DirOf t) = []
list_marks d (FileOf t) = []
list_marks d TheBuildDir = []
list_marks d (GradlePropertyOf t) = []
list_marks d (TaskOf t) = []

abbrev list_end : Root → Option Token → Bool
list_end (TextOf t) o = true
list_end (FlagOf b) o = true
list_end (ListOf trees) o = elements_end (list_of trees) o
list_end (PropertyOf w) o = true
list_end (DirOf t) o = true
list_end (FileOf t) o = true
list_end TheBuildDir o = true
list_end (GradlePropertyOf t) o = true
list_end (TaskOf t) o = true

list_again : (ts : List Tree) → list_of (trees_of ts) ≡ ts
list_again [] = refl
list_again (t ∷ ts) = ap (λ (l : List Tree). t ∷ l) (list_again ts)

list_closes : (root : Root) → list_end root (Some (Mark CloseBracket)) ≡ true
list_closes (TextOf t) = refl
list_closes (FlagOf b) = refl
list_closes (ListOf trees) = elements_close (list_of trees)
list_closes (PropertyOf w) = refl
list_closes (DirOf t) = refl
list_closes (FileOf t) = refl
list_closes TheBuildDir = refl
list_closes (GradlePropertyOf t) = refl
list_closes (TaskOf t) = refl

module _ (room d : ℕ) (sum : room + d ≡ 64) (inside : Reader Tree) (R : (n : ℕ) → room ≡ suc n → Reads IsTree (tree_tokens (d + 1)) (λ t. no_dot) inside) where
  Reads-elements : (n : ℕ) → room ≡ suc n → Reads (AllByRecursion IsTree) (values_tokens (d + 1)) elements_end (λ ts. maybe_at in_list (list_at inside) [] ts)
  Reads-elements n e =
      Reads-maybe in_list (Reads-values (d + 1) inside (R n e)) []
      (AllByRecursion IsTree) (values_tokens (d + 1)) elements_end
      (some_begun (d + 1)) (none_or_given IsTree)
      tt (given_all IsTree)
      refl (λ ts p. refl)
      (λ o. refl) elements_same

  Reads-listed : (n : ℕ) → room ≡ suc n → Reads IsListRoot (list_marks d) list_end (made_at list_from (λ ts. maybe_at in_list (list_at inside) [] ts))
  Reads-listed n e =
      Reads-into (Reads-elements n e) list_from IsListRoot (list_marks d) list_end
      (λ root q. q) (λ ts p. (ts, refl, p)) (λ ts p. trees_is (d + 1) ts) (λ ts o p. ap (λ (l : List Tree). elements_end l o) (list_again ts))

  list_is : (root : Root) → IsListRoot root → root_tokens d root ≡ opened OpenBracket d ∷ (list_marks d root ++ sign CloseBracket ∷ [])
  list_is root q = ap (root_tokens d) q.1 ∙ ap (λ (r : Root). opened OpenBracket d ∷ (list_marks d r ++ sign CloseBracket ∷ [])) (sym q.1)

  Reads-list_root : Reads IsListRoot (root_tokens d) always (list_root_at room inside)
  unfolding list_root_at
  Reads-list_root =
      Reads-as
      (Reads-opened (λ n. closed_at (is_sign CloseBracket) (made_at list_from (λ ts. maybe_at in_list (list_at inside) [] ts))) OpenBracket room d sum (list_from [], ([], refl, tt)) (λ n e. Reads-closed (tests_sign CloseBracket) (Reads-listed n e) (λ root p. list_closes root)))
      IsListRoot (root_tokens d) always (λ root p. p) (λ root p. p) list_is (λ root o p. refl)

-- ---- a root: a text, one that a word begins, a list or a property

abbrev is_text : Token → Bool
is_text (Word w) = false
is_text (Text t) = true
is_text (Mark s) = false
is_text Wrong = false

abbrev is_source : Token → Bool
is_source (Word w) = is_reserved w
is_source (Text t) = false
is_source (Mark s) = false
is_source Wrong = false

abbrev IsTextRoot : Root → Type 0
IsTextRoot root = (t : List ℕ) × (root ≡ TextOf t) × IsAny t

abbrev IsPropertyRoot : Root → Type 0
IsPropertyRoot root = (w : List ℕ) × (root ≡ PropertyOf w) × IsProperty w

worded_test : (k : SourceWord) → is_source (Word (source_spelling k)) ≡ true
worded_test k = ap is_some (source_means k)

begun_by : (test : Token → Bool) (d : ℕ) (f : Root) (root : Root) → root ≡ f → Begun test (root_tokens d f) → Begun test (root_tokens d root)
begun_by test d f root e b = subst (λ (r : Root). Begun test (root_tokens d r)) (sym e) b

property_end : List ℕ → Option Token → Bool
property_end w o = true

module _ (room d : ℕ) (sum : room + d ≡ 64) (inside : Reader Tree) (R : (n : ℕ) → room ≡ suc n → Reads IsTree (tree_tokens (d + 1)) (λ t. no_dot) inside) where
  Reads-text_root : Reads IsTextRoot (root_tokens d) always (made_at TextOf text_at)
  Reads-text_root =
      Reads-into Reads-text TextOf IsTextRoot (root_tokens d) always (λ root q. q) (λ t p. (t, refl, tt)) (λ t p. refl) (λ t o p. refl)

  Reads-property_root : Reads IsPropertyRoot (root_tokens d) always (made_at PropertyOf property_at)
  Reads-property_root =
      Reads-into Reads-property PropertyOf IsPropertyRoot (root_tokens d) always (λ root q. q) (λ w p. (w, refl, p)) (λ w p. refl) (λ w o p. refl)

  list_first : (test : Token → Bool) → test (Mark OpenBracket) ≡ true → (root : Root) → IsListRoot root → Begun test (root_tokens d root)
  list_first test h root q = begun_by test d (list_from q.0) root q.1 (record { head = opened OpenBracket d; tail = trees_tokens (d + 1) (trees_of q.0) ++ sign CloseBracket ∷ []; whole = refl; passes = h })

  property_first : (test : Token → Bool) → ((w : List ℕ) → is_reserved w ≡ false → test (Word w) ≡ true) → (root : Root) → IsPropertyRoot root → Begun test (root_tokens d root)
  property_first test h root q = begun_by test d (PropertyOf q.0) root q.1 (record { head = word q.0; tail = []; whole = refl; passes = h q.0 q.2.1 })

  worded_first : (test : Token → Bool) → ((k : SourceWord) → test (Word (source_spelling k)) ≡ true) → (root : Root) → IsWorded room d sum root → Begun test (root_tokens d root)
  worded_first test h root q = record { head = word (source_spelling q.0); tail = root_tail d root; whole = worded_is room d sum q.0 root q.2; passes = h q.0 }

  -- a list or a property
  IsThird : Root → Type 0
  IsThird root = IsListRoot root ⊎ IsPropertyRoot root

  Reads-third : Reads (λ root. IsListRoot root ⊎ IsPropertyRoot root) (root_tokens d) always (λ ts. cond (begins (is_sign OpenBracket) ts) (list_root_at room inside ts) (made_at PropertyOf property_at ts))
  Reads-third =
      Reads-either (is_sign OpenBracket) (Reads-list_root room d sum inside R) Reads-property_root
      (list_first (is_sign OpenBracket) refl) (property_first (λ t. not (is_sign OpenBracket t)) (λ w h. refl))

  third_first : (test : Token → Bool) → test (Mark OpenBracket) ≡ true → ((w : List ℕ) → is_reserved w ≡ false → test (Word w) ≡ true) → (root : Root) → IsListRoot root ⊎ IsPropertyRoot root → Begun test (root_tokens d root)
  third_first test h g root q = elim q [ inl p ↦ list_first test h root p | inr p ↦ property_first test g root p ]

  Reads-second : Reads (λ root. IsWorded room d sum root ⊎ (IsListRoot root ⊎ IsPropertyRoot root)) (root_tokens d) always (λ ts. cond (begins is_source ts) (meaning_at source_words ts >>= λ k. root_of_at room k.0 k.1) (cond (begins (is_sign OpenBracket) ts) (list_root_at room inside ts) (made_at PropertyOf property_at ts)))
  Reads-second =
      Reads-either is_source (Reads-worded room d sum) Reads-third
      (worded_first is_source worded_test) (third_first (λ t. not (is_source t)) refl (λ w h. rw h refl))

  second_first : (root : Root) → IsWorded room d sum root ⊎ (IsListRoot root ⊎ IsPropertyRoot root) → Begun (λ t. not (is_text t)) (root_tokens d root)
  second_first root q = elim q [ inl p ↦ worded_first (λ t. not (is_text t)) (λ k. refl) root p | inr p ↦ third_first (λ t. not (is_text t)) refl (λ w h. refl) root p ]

  abbrev first_is : Reader Root
  first_is ts = cond (begins is_text ts) (made_at TextOf text_at ts) (cond (begins is_source ts) (meaning_at source_words ts >>= λ k. root_of_at room k.0 k.1) (cond (begins (is_sign OpenBracket) ts) (list_root_at room inside ts) (made_at PropertyOf property_at ts)))

  word_same : (w : List ℕ) (ts : List Token) (o : Option SourceWord) → meaning_in source_words w ≡ o → word_root_at room (meaning_in source_words w) (Word w ∷ ts) ts ≡ first_is (Word w ∷ ts)
  unfolding word_root_at meaning_at
  word_same w ts None h = rw h refl
  word_same w ts (Some k) h = rw h refl

  mark_same : (s : Sign) (ts : List Token) → list_root_at room inside (Mark s ∷ ts) ≡ first_is (Mark s ∷ ts)
  unfolding list_root_at open_at property_at
  mark_same s ts =
      elim (cases_bool (is_sign OpenBracket (Mark s))) [
        | inl y ↦ rw y refl
        | inr y ↦ rw (y, skip_fails (is_sign OpenBracket) (Mark s ∷ ts) y) refl
      ]

  root_same : (ts : List Token) → root_at room inside ts ≡ first_is ts
  unfolding root_at text_at property_at
  root_same [] = refl
  root_same (Text t ∷ ts) = refl
  root_same (Word w ∷ ts) = word_same w ts (meaning_in source_words w) refl
  root_same (Mark s ∷ ts) = mark_same s ts
  root_same (Wrong ∷ ts) = refl

  abbrev IsSome : Root → Type 0
  IsSome root = IsTextRoot root ⊎ (IsWorded room d sum root ⊎ (IsListRoot root ⊎ IsPropertyRoot root))

  -- one of the four
  which_root : (root : Root) → IsRoot root → IsSome root
  which_root (TextOf t) p = inl (t, refl, tt)
  which_root (FlagOf true) p = inr (inl (sources.True, tt, refl))
  which_root (FlagOf false) p = inr (inl (sources.False, tt, refl))
  which_root (ListOf trees) p = inr (inr (inl (list_of trees, ap ListOf (trees_again trees), trees_all trees p)))
  which_root (PropertyOf w) p = inr (inr (inr (w, refl, p)))
  which_root (DirOf t) p = inr (inl (sources.Dir, tt, (t, refl, tt)))
  which_root (FileOf t) p = inr (inl (sources.File, tt, (t, refl, tt)))
  which_root TheBuildDir p = inr (inl (sources.BuildDir, tt, refl))
  which_root (GradlePropertyOf t) p = inr (inl (sources.GradleProperty, tt, (t, refl, tt)))
  which_root (TaskOf t) p = inr (inl (sources.Task, tt, (t, refl, tt)))

  worded_root : (k : SourceWord) (root : Root) → IsRootOf k root → IsRoot root
  worded_root sources.True root q = subst IsRoot (sym q) tt
  worded_root sources.False root q = subst IsRoot (sym q) tt
  worded_root sources.Dir root q = subst IsRoot (sym q.1) tt
  worded_root sources.File root q = subst IsRoot (sym q.1) tt
  worded_root sources.BuildDir root q = subst IsRoot (sym q) tt
  worded_root sources.GradleProperty root q = subst IsRoot (sym q.1) tt
  worded_root sources.Task root q = subst IsRoot (sym q.1) tt

  is_root : (root : Root) → IsSome root → IsRoot root
  is_root root q =
      elim q [
        | inl p ↦ subst IsRoot (sym p.1) tt
        | inr p ↦
            elim p [
              | inl s ↦ worded_root s.0 root s.2
              | inr s ↦
                  elim s [
                    | inl l ↦ subst IsRoot (sym l.1) (all_trees l.0 l.2)
                    | inr w ↦ subst IsRoot (sym w.1) w.2
                  ]
            ]
      ]

  Reads-root : Reads IsRoot (root_tokens d) always (root_at room inside)
  Reads-root =
      Reads-as
      (Reads-same (Reads-either is_text Reads-text_root Reads-second (λ root q. begun_by is_text d (TextOf q.0) root q.1 (record { head = (Text q.0, 0); tail = []; whole = refl; passes = refl })) second_first) (root_at room inside) root_same)
      IsRoot (root_tokens d) always is_root which_root (λ root p. refl) (λ root o p. refl)

-- ---- a step

abbrev step_spelling : StepWord → List ℕ
step_spelling steps.Map = codes "map"
step_spelling steps.FlatMap = codes "flatMap"
step_spelling steps.Zip = codes "zip"
step_spelling steps.OrElse = codes "orElse"

step_means : (k : StepWord) → meaning_in step_words (step_spelling k) ≡ Some k
step_means steps.Map = refl
step_means steps.FlatMap = refl
step_means steps.Zip = refl
step_means steps.OrElse = refl

-- the part within the brackets
abbrev inner_marks : ℕ → Link → List Leveled
inner_marks d (MapBy f) = function_tokens (d + 1) f
inner_marks d (FlatMapBy f) = function_tokens (d + 1) f
inner_marks d (ZipBy tree f) = tree_tokens (d + 1) tree ++ sign Comma ∷ function_tokens (d + 1) f
inner_marks d (Else tree) = tree_tokens (d + 1) tree

abbrev inner_end : Link → Option Token → Bool
inner_end (MapBy f) o = function_end f o
inner_end (FlatMapBy f) o = function_end f o
inner_end (ZipBy tree f) o = function_end f o
inner_end (Else tree) o = no_dot o

inner_closes : (link : Link) → inner_end link (Some (Mark CloseParen)) ≡ true
inner_closes (MapBy f) = function_ends f (Some (Mark CloseParen)) refl
inner_closes (FlatMapBy f) = function_ends f (Some (Mark CloseParen)) refl
inner_closes (ZipBy tree f) = function_ends f (Some (Mark CloseParen)) refl
inner_closes (Else tree) = refl

abbrev in_brackets : ℕ → Link → List Leveled
in_brackets d link = opened OpenParen d ∷ (inner_marks d link ++ sign CloseParen ∷ [])

abbrev word_of_link : Link → List ℕ
word_of_link (MapBy f) = codes "map"
word_of_link (FlatMapBy f) = codes "flatMap"
word_of_link (ZipBy tree f) = codes "zip"
word_of_link (Else tree) = codes "orElse"

link_is : (d : ℕ) (link : Link) → link_tokens d link ≡ word (word_of_link link) ∷ in_brackets d link
link_is d (MapBy f) = refl
link_is d (FlatMapBy f) = refl
link_is d (ZipBy tree f) = refl
link_is d (Else tree) = refl

abbrev IsLinkOf : StepWord → Link → Type 0
IsLinkOf steps.Map link = (f : Function) × (link ≡ MapBy f) × IsFunction f
IsLinkOf steps.FlatMap link = (f : Function) × (link ≡ FlatMapBy f) × IsFunction f
IsLinkOf steps.Zip link = (x : Tree × Function) × (link ≡ zip_from x) × (IsTree x.0 × IsFunction x.1)
IsLinkOf steps.OrElse link = (tree : Tree) × (link ≡ Else tree) × IsTree tree

word_same_link : (k : StepWord) (link : Link) → IsLinkOf k link → word_of_link link ≡ step_spelling k
word_same_link steps.Map link q = ap word_of_link q.1
word_same_link steps.FlatMap link q = ap word_of_link q.1
word_same_link steps.Zip link q = ap word_of_link q.1
word_same_link steps.OrElse link q = ap word_of_link q.1

some_link : (k : StepWord) → (link : Link) × IsLinkOf k link
some_link steps.Map = (MapBy a_function, (a_function, refl, refl))
some_link steps.FlatMap = (FlatMapBy a_function, (a_function, refl, refl))
some_link steps.Zip = (ZipBy a_tree a_function, ((a_tree, a_function), refl, ((tt, tt), refl)))
some_link steps.OrElse = (Else a_tree, (a_tree, refl, (tt, tt)))

which_link : (link : Link) → IsLink link → (k : StepWord) × IsAny k × IsLinkOf k link
which_link (MapBy f) p = (steps.Map, tt, (f, refl, p))
which_link (FlatMapBy f) p = (steps.FlatMap, tt, (f, refl, p))
which_link (ZipBy tree f) p = (steps.Zip, tt, ((tree, f), refl, p))
which_link (Else tree) p = (steps.OrElse, tt, (tree, refl, p))

is_link : (k : StepWord) (link : Link) → IsLinkOf k link → IsLink link
is_link steps.Map link q = subst IsLink (sym q.1) q.2
is_link steps.FlatMap link q = subst IsLink (sym q.1) q.2
is_link steps.Zip link q = subst IsLink (sym q.1) q.2
is_link steps.OrElse link q = subst IsLink (sym q.1) q.2

module _ (room d : ℕ) (sum : room + d ≡ 64) (inside : Reader Tree) (R : (n : ℕ) → room ≡ suc n → Reads IsTree (tree_tokens (d + 1)) (λ t. no_dot) inside) where
  within : (n : ℕ) → room ≡ suc n → n + (d + 1) ≡ 64
  within n e = omega (arith, e, sum)

  -- in brackets, what is read so
  bracketed : (k : StepWord) (r : ℕ → Reader Link) → ((n : ℕ) → room ≡ suc n → Reads (IsLinkOf k) (inner_marks d) inner_end (r n)) → Reads (IsLinkOf k) (in_brackets d) always (opened_at OpenParen room (λ n. closed_at (is_sign CloseParen) (r n)))
  bracketed k r within = Reads-opened (λ n. closed_at (is_sign CloseParen) (r n)) OpenParen room d sum (some_link k) (λ n e. Reads-closed (tests_sign CloseParen) (within n e) (λ link p. inner_closes link))

  Reads-link_of : (k : StepWord) → Reads (IsLinkOf k) (in_brackets d) always (link_of_at room inside k)
  unfolding link_of_at
  Reads-link_of steps.Map =
      bracketed steps.Map (λ n. made_at MapBy (function_at n)) (λ n e. Reads-into (Reads-function n (d + 1) (within n e)) MapBy (IsLinkOf steps.Map) (inner_marks d) inner_end (λ link q. q) (λ f p. (f, refl, p)) (λ f p. refl) (λ f o p. refl))
  Reads-link_of steps.FlatMap =
      bracketed steps.FlatMap (λ n. made_at FlatMapBy (function_at n)) (λ n e. Reads-into (Reads-function n (d + 1) (within n e)) FlatMapBy (IsLinkOf steps.FlatMap) (inner_marks d) inner_end (λ link q. q) (λ f p. (f, refl, p)) (λ f p. refl) (λ f o p. refl))
  Reads-link_of steps.Zip =
      bracketed steps.Zip (λ n. made_at zip_from (pair_at inside (λ ts. past_at (is_sign Comma) (function_at n) ts)))
      (λ n e.
      Reads-into (Reads-pair (R n e) (Reads-past (tests_sign Comma) (Reads-function n (d + 1) (within n e)) (a_function, refl)) (a_function, refl)) zip_from
      (IsLinkOf steps.Zip) (inner_marks d) inner_end
      (λ link q. q) (λ x p. (x, refl, p)) (λ x p. refl) (λ x o p. refl))
  Reads-link_of steps.OrElse =
      bracketed steps.OrElse (λ n. made_at Else inside) (λ n e. Reads-into (R n e) Else (IsLinkOf steps.OrElse) (inner_marks d) inner_end (λ link q. q) (λ t p. (t, refl, p)) (λ t p. refl) (λ t o p. refl))

  Reads-worded_link : Reads IsLink (link_tokens d) always (λ ts. meaning_at step_words ts >>= λ k. link_of_at room inside k.0 k.1)
  Reads-worded_link =
      Reads-bind {r2 = link_of_at room inside}
      (Reads-meaning step_words step_spelling (refl, (refl, (refl, (refl, tt)))) step_means steps.Map) (λ k p. Reads-link_of k)
      (λ k p. some_link k)
      IsLink (link_tokens d) always
      which_link
      (λ k link p q. is_link k link q)
      (λ k link p q. link_is d link ∙ ap (λ (w : List ℕ). word w ∷ in_brackets d link) (word_same_link k link q))
      (λ k link o p q h. (refl, refl))
      (λ k link o p q h g. refl)

  -- the n-th step of a chain
  Reads-link : (n : ℕ) → n ≤ 64 → Reads IsLink (λ link. (Mark Dot, n) ∷ link_tokens d link) always (link_at room inside)
  unfolding link_at
  Reads-link n few = Reads-skip-at (tests_sign Dot) Reads-worded_link (Else a_tree, (tt, tt)) n (le-ltb 64 n few)

  links_is : (n : ℕ) (ls : List Link) → links_tokens d n (links_of ls) ≡ chain_marks (link_tokens d) Reads-link (Else a_tree, (tt, tt)) n ls
  links_is n [] = refl
  links_is n (l ∷ ls) = ap (λ (k : List Leveled). (Mark Dot, n) ∷ (link_tokens d l ++ k)) (links_is (n + 1) ls)

  tree_split : (tree : Tree) → IsTree tree → (x : Root × List Link) × (tree ≡ chain_from x) × (IsRoot x.0 × AllByRecursion IsLink x.1)
  tree_split (Chain root links) p = ((root, links_list links), ap (Chain root) (links_again links), (p.0, links_all links p.1))

  Reads-chained : Reads IsTree (tree_tokens d) (λ t. no_dot) (chain_at room inside)
  unfolding chain_at
  Reads-chained =
      Reads-into (Reads-pair (Reads-root room d sum inside R) (Reads-chain (link_tokens d) Reads-link (Else a_tree, (tt, tt)) 64 1 refl) ([], tt)) chain_from
      IsTree (tree_tokens d) (λ t. no_dot)
      tree_split
      (λ x p. (p.0, all_links x.1 p.1))
      (λ x p. ap (λ (l : List Leveled). root_tokens d x.0 ++ l) (links_is 1 x.1))
      (λ x o p. refl)

-- a value inside d brackets, where room more may open
pub Reads-tree : (room d : ℕ) → room + d ≡ 64 → Reads IsTree (tree_tokens d) (λ t. no_dot) (tree_at room)
unfolding inside_at
Reads-tree zero d sum = Reads-chained zero d sum (inside_at zero) (λ n e. absurd (no n e))
  where
    no : (n : ℕ) → zero ≡ suc n → ⊥
    no n e = omega (arith, e)
Reads-tree (suc k) d sum = Reads-chained (suc k) d sum (inside_at (suc k)) (λ n e. Reads-tree k (d + 1) (omega (arith, sum)))
