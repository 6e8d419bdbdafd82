-- The calls at the place of a record.
use Rattle.std.proofs.Common.{◌≡◌, ℕ, List, Some, ap, refl}
use Rattle.gb_folder.specs.Calls.{Requests, put_at, taken_at}
use Rattle.gb_folder.proofs.Asked.{requests_put, requests_taken}
use Rattle.gb_folder.specs.Calls.{Device}

module _ {F : Type 0} {device : Device F} {old new : F} where
  -- the same place
  pub taken_as : (place at : List ℕ) → place ≡ at → Requests device (taken_at place) old new → Requests device (taken_at at) old new
  unfolding taken_at
  taken_as place at same takes = requests_taken place (same, refl) takes

  -- the same place and text
  pub put_as : (place at bytes text : List ℕ) → place ≡ at → bytes ≡ text → Requests device (put_at place bytes) old new
      → Requests device (put_at at text) old new
  unfolding put_at
  put_as place at bytes text same same_text puts = requests_put place bytes (same, ap Some same_text) puts
