-- The notes of a call that changes nothing.
use Rattle.std.specs.Prelude.{List, [], ◌++◌, ◌≡◌}
use Rattle.std.proofs.Common.{sym}
use Rattle.std.proofs.lemmas.List.{append-nil}
use Rattle.gb_folder.specs.declared.noted.Note.{Note}

pub none_noted : (notes : List Note) → notes ≡ notes ++ []
none_noted notes = sym (append-nil notes)
