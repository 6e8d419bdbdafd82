use Rattle.std.specs.Str.{chars}
use Rattle.gb_picture.specs.Shown.{is_hidden, shown_char}
use Rattle.gb_picture.proofs.Escaped.{all_map, shows}
use Rattle.std.proofs.Common.{◌≡◌, false}
use Rattle.gb_picture.proofs.laws.shows_no_hidden.Goals as goal

pub returns : goal.returns
returns c = λ text. all_map (λ c. is_hidden c ≡ false) shown_char shows (chars text)
