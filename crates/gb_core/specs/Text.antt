-- Texts.
use Rattle.std.specs.Prelude.{ℕ, List}
use Rattle.std.specs.Rc.{rc_str_bytes}
use Rattle.gb_core.specs.declared.text.Form.{Form}
use Rattle.gb_core.specs.declared.text.Form.TheVariants.{Short, Shared}

-- the bytes of a text, inline or shared
abbrev pub form_bytes : Form → List ℕ
form_bytes (Short text) = text
form_bytes (Shared text) = rc_str_bytes text
