use Rattle.std.proofs.Common.{◌≡◌, refl, subst}
use Rattle.std.specs.Prelude.{IfOk}
use Rattle.clap.specs.Matches.{found_of}
use Rattle.gb_arguments.proofs.Found.{texts_read}
use Rattle.gb_arguments.proofs.arguments.texts_found.Goals as goal

pub returns : goal.returns
returns c =
    let same = texts_read (found_of c.args.matches.now) c.args.id.now _ _ _ c.get_strs.ensures c.unwrap_or-texts.ensures refl in
    subst (λ texts. IfOk c.copy_texts.result (λ copied. copied ≡ texts)) same c.copy_texts.ensures
