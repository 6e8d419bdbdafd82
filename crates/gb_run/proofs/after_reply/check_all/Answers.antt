use Rattle.std.proofs.Common.{◌≡◌, ◌⊎◌, ◌++◌, ℕ, List, Option, Some, IfErr, map, sym, ap, ◌∙◌, inl, inr, string_bytes}
use Rattle.std.proofs.lemmas.Result.{err_from_is_err_and}
use Rattle.std.specs.Borrow.{Bor}
use Rattle.std.specs.Global.{Global}
use Rattle.std.specs.List.{flat_map}
use Rattle.std.specs.Option.{option_copied}
use Rattle.std.specs.declared.string.String.{String}
use Rattle.gb_core.specs.Lists.{first_of}
use Rattle.gb_folder.specs.Files.{Bytes}
use Rattle.gb_report.specs.declared.fault.Fault.{Fault}
use Rattle.gb_report.specs.declared.fault.Fault.TheVariants as faults
use Rattle.gb_folder.proofs.Machine.{at_err}
use Rattle.gb_semantics.specs.Made.{file_faults}
use Rattle.gb_run.proofs.Placed.{first_more}
use Rattle.gb_run.specs.Named.{files_left, left_in}
use Rattle.gb_run.specs.ChangeTexts.{steps_in}
use Rattle.gb_run.proofs.after_reply.check_all.Goals as goal

pub returns-in_err-check_file-clause-err : goal.returns-in_err-check_file-clause-err
returns-in_err-check_file-clause-err c =
    let all = c.args.all.now in
    let p = err_from_is_err_and c.from_residual.result c.from_residual.ensures.1 in
    let IsFault : Fault → Type 0 = λ fault. (fault ≡ faults.OutOfMemory) ⊎ (first_of (flat_map (file_faults all) (files_left (steps_in c.args.steps.now))) ≡ Some fault) in
    at_err (λ r. IfErr r IsFault) c.from_residual.result p.0 c.in_err-check_file.field-0.0 p.1 p.2 (elim c.in_err-check_file.ensures.err [
      | inl memory ↦ inl memory
      | inr first ↦ inr (
          ap first_of (sym c.loop-text.invariant
          ∙ ap (λ (es : List (String Global × Option (Bor Bytes))). flat_map (file_faults all) (files_left (map (λ e. (string_bytes e.0, option_copied e.1)) es))) c.in-Some.ensures.steps
          ∙ ap (λ (o : Option (Bor Bytes)). flat_map (file_faults all)
          (left_in (string_bytes c.in-Some.text.now, option_copied o) ++ files_left (map (λ (e : String Global × Option (Bor Bytes)). (string_bytes e.0, option_copied e.1)) c.next.new.self))) c.in-Some-bytes.is)
          ∙ first_more _ _ _ (ap (λ (text : List ℕ). first_of (file_faults all (text, c.in-Some-bytes.bytes.now))) (sym c.as_str.ensures.value) ∙ first))
    ])
