use Rattle.std.proofs.Common.{◌≡◌, false}
use Rattle.gb_picture.specs.Escapes.{is_markup, xml_char}
use Rattle.gb_picture.proofs.Escaped.{all_flat, xml_plain}
use Rattle.gb_picture.proofs.laws.xml_has_no_markup.Goals as goal

pub returns : goal.returns
returns c = all_flat (λ c. is_markup c ≡ false) xml_char xml_plain
