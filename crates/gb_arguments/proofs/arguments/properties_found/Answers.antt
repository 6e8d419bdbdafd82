use Rattle.std.proofs.Common.{codes, refl, subst}
use Rattle.std.specs.Prelude.{IfOk}
use Rattle.clap.specs.Matches.{found_of}
use Rattle.gb_arguments.specs.Faults.{ReportsFirst}
use Rattle.gb_arguments.specs.Values.{AreLast, values_faults}
use Rattle.gb_arguments.proofs.Found.{texts_read}
use Rattle.gb_arguments.proofs.arguments.properties_found.Goals as goal

pub returns-clause-last : goal.returns-clause-last
returns-clause-last c =
    let same = texts_read (found_of c.args.matches.now) (codes "property") _ _ _ c.get_strs.ensures c.unwrap_or-texts.ensures refl in
    subst (λ texts. IfOk c.properties.result (AreLast texts)) same c.properties.ensures.last

pub returns-clause-faults : goal.returns-clause-faults
returns-clause-faults c =
    let same = texts_read (found_of c.args.matches.now) (codes "property") _ _ _ c.get_strs.ensures c.unwrap_or-texts.ensures refl in
    subst (λ texts. ReportsFirst (values_faults texts) c.properties.result) same c.properties.ensures.faults
