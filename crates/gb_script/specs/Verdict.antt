-- The result for a whole sequence of tokens.
use Rattle.std.specs.Prelude.{◌≡◌, ◌≢◌, Bool, true, false, List, [], ◌∷◌, ◌++◌, nat_lt}
use Rattle.std.specs.List.{AllByRecursion}
use Rattle.gb_script.specs.declared.token.Token.{Token}
use Rattle.gb_script.specs.Grammar.{Leveled, tokens_of}

-- at most 64 brackets are open at once, and a chain has at most 64 steps
abbrev pub is_over : Leveled → Bool
is_over m = nat_lt 64 m.1

abbrev pub IsWithin : Leveled → Type 0
IsWithin m = is_over m ≡ false

abbrev pub AllWithin : List Leveled → Type 0
AllWithin ms = AllByRecursion IsWithin ms

-- The tokens begin a spelling, and pass no limit.
pub record Begins {A : Type 0} (Is : A → Type 0) (spelled : A → List Leveled)
    (before : List Token) : Type 0 where
  pub value : A
  pub is : Is value
  pub prefix : List Leveled
  pub more : List Leveled
  pub whole : spelled value ≡ prefix ++ more
  pub tokens : before ≡ tokens_of prefix
  pub within : AllWithin prefix

-- After the tokens before, the bad ones begin with the first that no spelling has there, limits aside. If
-- there are no bad ones, the end comes too early.
pub record IsFirstStray {A : Type 0} (Is : A → Type 0) (spelled : A → List Leveled)
    (before bad : List Token) : Type 0 where
  -- the tokens before it begin a spelling
  pub begun : Begins Is spelled before
  -- no spelling begins with them and it
  pub none : (b : Token) (rest : List Token) → bad ≡ b ∷ rest → (a : A) (other : List Token) → Is a
      → tokens_of (spelled a) ≢ before ++ b ∷ other
  -- no spelling is exactly these tokens
  pub short : bad ≡ [] → (a : A) → Is a → tokens_of (spelled a) ≢ before

-- After the tokens before, which pass no limit, the bad ones begin with one past a limit; some spelling
-- has it there, limits aside.
pub record IsFirstDeep {A : Type 0} (Is : A → Type 0) (spelled : A → List Leveled)
    (before bad : List Token) : Type 0 where
  pub value : A
  pub is : Is value
  pub prefix : List Leveled
  pub over : Leveled
  pub more : List Leveled
  pub rest : List Token
  pub whole : spelled value ≡ prefix ++ over ∷ more
  pub tokens : before ≡ tokens_of prefix
  pub within : AllWithin prefix
  pub past : is_over over ≡ true
  pub bad_is : bad ≡ over.0 ∷ rest
