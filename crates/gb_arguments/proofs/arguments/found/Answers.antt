use Rattle.std.proofs.Common.{◌≡◌, ◌∙◌, ap, subst, inl, inr, map}
use Rattle.std.specs.Prelude.{string_bytes}
use Rattle.clap.specs.Faults.{fault_of, is_simple_and_free}
use Rattle.clap.specs.Kinds.{IsAmong}
use Rattle.clap.specs.Simple.{app_of}
use Rattle.clap.specs.Values.{kind_of}
use Rattle.gb_arguments.specs.Command.{gb_command}
use Rattle.gb_arguments.proofs.Firsts.{usage_first}
use Rattle.gb_arguments.proofs.arguments.found.Goals as goal

pub returns-clause-faults : goal.returns-clause-faults
returns-clause-faults c =
    let words = map string_bytes c.args.words.now in
    let same : app_of c.in_ok-command.field-0 ≡ gb_command = c.in_ok-command.ensures in
    elim (c.in-Err.ensures.kinds (ap is_simple_and_free same)) [
      | inl memory ↦ absurd (c.in_default.not-OutOfMemory (c.kind.ensures ∙ memory))
      | inr among ↦ usage_first (fault_of gb_command words) _ (subst (λ a. IsAmong (kind_of c.in-Err.error) (fault_of a words)) same among)
    ]
