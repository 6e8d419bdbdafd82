use Rattle.std.proofs.Common.{◌≡◌, false}
use Rattle.gb_picture.specs.Escapes.{is_special, mermaid_char}
use Rattle.gb_picture.proofs.Escaped.{all_flat, mermaid_plain}
use Rattle.gb_picture.proofs.laws.mermaid_has_no_special.Goals as goal

pub returns : goal.returns
returns c = all_flat (λ c. is_special c ≡ false) mermaid_char mermaid_plain
