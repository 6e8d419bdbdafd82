-- Contents that answer as the calls of a folder were answered, whichever folder it is.
use Rattle.std.specs.Prelude.{◌≡◌, List, [], ◌∷◌, IsTrue}
use Rattle.gb_folder.specs.Calls.{Call}
use Rattle.gb_folder.specs.Files.{Contents, IsFolder, Tearing, are_placed}
use Rattle.gb_folder.specs.Semantics.{Answers}

-- Contents that a folder may have: no file is at an ancestor folder of another, and each is at a valid place.
pub record IsSound (contents : Contents) : Type 0 where
  pub folder : IsFolder contents.files
  pub placed : IsTrue (are_placed contents.files)

-- These contents answer the calls, one after another, as they were answered, and the calls leave the second
-- contents.
abbrev pub AnswersSoundly : Tearing → Contents → List Call → Contents → Type 0
AnswersSoundly leaves old [] new = IsSound old × (new ≡ old)
AnswersSoundly leaves old (call ∷ calls) new =
    IsSound old × (mid : Contents) × Answers leaves old call mid × AnswersSoundly leaves mid calls new
