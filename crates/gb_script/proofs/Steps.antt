-- The steps that have a value of their own, read one part after the other.
use Rattle.std.proofs.Common.{◌≡◌, ℕ, suc, ◌+◌, Bool, List, Result, Ok, Err, refl, ap, ◌∙◌, arith}
use Rattle.gb_script.specs.declared.token_fault.Fault.{Fault}
use Rattle.gb_script.specs.declared.token_fault.Stop.{Stop}
use Rattle.gb_script.specs.declared.token_fault.Stop.TheVariants as stops
use Rattle.gb_script.specs.declared.token.Sign.TheVariants.{OpenParen, CloseParen, Comma}
use Rattle.gb_script.specs.declared.token.Token.{Token}
use Rattle.gb_script.specs.declared.function.Function.{Function}
use Rattle.gb_script.specs.declared.keywords.StepWord.TheVariants as steps
use Rattle.gb_script.specs.Tree.{Tree, Link, ZipBy, Else}
use Rattle.gb_script.specs.Reading.{◌>>=◌, Fails, is_sign, skip_at, open_at, past_at, closed_at}
use Rattle.gb_script.specs.Readers.{function_at, zip_from, link_of_at, inside_at, tree_at}

abbrev with_rest : {A : Type 0} → A → List Token → Result (A × List Token) Fault
with_rest a rest = Ok (a, rest)

-- the token that passes the test, after the value that was read
abbrev closed : {A : Type 0} → (Token → Bool) → A × List Token → Result (A × List Token) Fault
closed test x = skip_at test x.1 >>= with_rest x.0

abbrev following : Tree → Function × List Token → Result ((Tree × Function) × List Token) Fault
following tree x = Ok ((tree, x.0), x.1)

abbrev zipped : (Tree × Function) × List Token → Result (Link × List Token) Fault
zipped x = Ok (zip_from x.0, x.1)

abbrev zipped_to : Tree → Function × List Token → Result (Link × List Token) Fault
zipped_to tree x = Ok (ZipBy tree x.0, x.1)

closed_of : (tree : Tree) (function : Function) (s : Result (List Token) Fault) → (s >>= with_rest (ZipBy tree function)) ≡ ((s >>= with_rest function) >>= zipped_to tree)
closed_of tree function (Ok rest) = refl
closed_of tree function (Err e) = refl

-- the tree that was read first is given to the function that is read after it
zip_of : (tree : Tree) (test : Token → Bool) (x : Result (Function × List Token) Fault) → (((x >>= following tree) >>= zipped) >>= closed test) ≡ ((x >>= closed test) >>= zipped_to tree)
zip_of tree test (Ok y) = closed_of tree y.0 (skip_at test y.1)
zip_of tree test (Err e) = refl

module _ (room inner : ℕ) (ts rest after : List Token) (tree : Tree) (begun : open_at OpenParen room ts ≡ Ok (inner, rest)) (more : inner + 1 ≡ room) (read : tree_at inner rest ≡ Ok (tree, after)) where
  inside : inside_at room rest ≡ Ok (tree, after)
  inside = (let same : room ≡ suc inner = omega arith in ap (λ r. inside_at r rest) same ∙ read)

  pub else_open : (e : Stop) → Fails e (skip_at (is_sign CloseParen) after) → Fails e (link_of_at room (inside_at room) steps.OrElse ts)
  unfolding link_of_at
  else_open stops.Memory fails = tt
  else_open (stops.Fault f) fails = rw (begun, inside, fails) refl

  pub else_is : (end : List Token) → skip_at (is_sign CloseParen) after ≡ Ok end → link_of_at room (inside_at room) steps.OrElse ts ≡ Ok (Else tree, end)
  unfolding link_of_at
  else_is end closed = rw (begun, inside, closed) refl

  pub zip_alone : (e : Stop) → Fails e (closed_at (is_sign CloseParen) (past_at (is_sign Comma) (function_at inner)) after) → Fails e (link_of_at room (inside_at room) steps.Zip ts)
  unfolding link_of_at
  zip_alone stops.Memory fails = tt
  zip_alone (stops.Fault f) fails = rw (begun, inside, zip_of tree (is_sign CloseParen) (past_at (is_sign Comma) (function_at inner) after), fails) refl

  pub zip_is : (function : Function) (end : List Token) → closed_at (is_sign CloseParen) (past_at (is_sign Comma) (function_at inner)) after ≡ Ok (function, end) → link_of_at room (inside_at room) steps.Zip ts ≡ Ok (ZipBy tree function, end)
  unfolding link_of_at
  zip_is function end found = rw (begun, inside, zip_of tree (is_sign CloseParen) (past_at (is_sign Comma) (function_at inner) after), found) refl
