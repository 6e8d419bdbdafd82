use Rattle.std.proofs.Common.{inl}
use Rattle.gb_answers.proofs.disk_calls.disk_folders_keep_calls.Goals as goal

pub returns : goal.returns
returns g c = record { kept = λ old call new is. inl is.0 }
