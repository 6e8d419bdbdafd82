use Rattle.std.proofs.Common.{◌≡◌, false, true, Bool, List, IfErr, sym, ap, ◌∙◌, inl, inr}
use Rattle.std.proofs.lemmas.Result.{err_from_is_err_and}
use Rattle.gb_folder.specs.Files.{Contents}
use Rattle.gb_semantics.specs.Tree.{has_no_source, listing_faults, trees_of}
use Rattle.gb_plan.specs.declared.task.FileProperty.{FileProperty}
use Rattle.gb_plan.specs.declared.task.TaskDeclaration.{TaskDeclaration as Task}
use Rattle.gb_report.specs.declared.fault.Fault.{Fault}
use Rattle.gb_folder.proofs.Machine.{at_err}
use Rattle.gb_label.specs.Reading.{Read, digests_in, prints_read}
use Rattle.gb_label.specs.Looking.{IsHindered, lacks_source}
use Rattle.gb_label.proofs.Cases.{by_source, first_in_prefix, hindered}
use Rattle.gb_label.proofs.Sources.{same_source, source_read}
use Rattle.gb_folder.proofs.Asked.{requests_nothing}
use Rattle.gb_label.proofs.ReadingAnswering.{inputs_longer}
use Rattle.gb_label.proofs.early_outcomes.look_at_files.Goals as goal

pub returns-in_err-inputs-clause-err : goal.returns-in_err-inputs-clause-err
returns-in_err-inputs-clause-err g c = λ faithful known.
    let p = err_from_is_err_and c.from_residual.result c.from_residual.ensures.1 in
    let IsFault : Fault → Type 0 = IsHindered c.args.task.now (g.F.Folder.device.contents c.args.folder.now) (g.F.Folder.device.failures c.args.folder.now) (g.F.Folder.device.failures c.read_inputs.new.folder) in
    at_err (λ r. IfErr r IsFault) c.from_residual.result p.0 c.in_err-inputs.field-0.0 p.1 p.2 (elim (c.in_err-inputs.ensures.err faithful known) [
      | inl machine ↦ inl machine
      | inr first ↦ inr (hindered c.args.task.now (g.F.Folder.device.contents c.args.folder.now) c.in_err-inputs.field-0.0 c.requires.runs c.requires.acts (first_in_prefix _ _ _ first))
    ])

-- what was found of the readings holds of the files
sourced : (task : Task) (old : Contents) (properties : List FileProperty) (inputs observed : List Read) (found b : Bool) → properties ≡ task.files
    → prints_read inputs ≡ digests_in (trees_of task old.files) → observed ≡ inputs → found ≡ lacks_source properties observed → found ≡ b
    → has_no_source task old.files ≡ b
sourced task old properties inputs observed found b is read same reported decided =
    sym (same_source task old.files) ∙ ap (lacks_source task.files) (sym read) ∙ source_read task.files inputs ∙ ap (lacks_source task.files) (sym same)
    ∙ ap (λ ps. lacks_source ps observed) (sym is) ∙ sym reported ∙ decided

pub returns-then-is_without_source-clause-case : goal.returns-then-is_without_source-clause-case
returns-then-is_without_source-clause-case g c = λ faithful known.
    let before = c.check_outputs.ensures.reads.requests.back faithful in
    let task = c.args.task.now in
    let old : Contents = g.F.Folder.device.contents c.args.folder.now in
    by_source task old true c.requires.runs c.requires.acts (c.in_ok-inputs.ensures.fit before known)
    (ap (listing_faults task) (sym (c.in_ok-inputs.ensures.reads.same before)) ∙ c.in_ok-check_outputs.ensures.none_special faithful)
    (sourced task old c.as_slice.result.now c.in_ok-inputs.inputs.items c.as_slice-2.result.now c.is_without_source.result true c.as_slice.ensures
    (c.in_ok-inputs.ensures.prints before known) c.as_slice-2.ensures.value c.is_without_source.ensures c.if-is_without_source.true)

pub returns-clause-case : goal.returns-clause-case
returns-clause-case g c = λ faithful known.
    let old : Contents = g.F.Folder.device.contents c.args.folder.now in (
      c.in_ok-inputs.ensures.fit faithful known,
      sourced c.args.task.now old c.as_slice.result.now c.in_ok-inputs.inputs.items c.as_slice-2.result.now c.is_without_source.result false c.as_slice.ensures
          (c.in_ok-inputs.ensures.prints faithful known) c.as_slice-2.ensures.value c.is_without_source.ensures c.if-is_without_source.false,
      c.in_ok-inputs.ensures.prints faithful known,
      c.in_ok-inputs.ensures.observed faithful known,
    )

-- whether the readings give no source is what was found of them
found_of : (properties other : List FileProperty) (inputs observed : List Read) (found b : Bool) → properties ≡ other → observed ≡ inputs → found ≡ lacks_source properties observed → found ≡ b
    → lacks_source other inputs ≡ b
found_of properties other inputs observed found b is same reported decided =
    ap (lacks_source other) (sym same) ∙ ap (λ ps. lacks_source ps observed) (sym is) ∙ sym reported ∙ decided

pub returns-clause-may_be : goal.returns-clause-may_be
returns-clause-may_be g c = (
  c.requires.runs,
  c.requires.acts,
  c.in_ok-inputs.ensures.read,
  found_of c.as_slice.result.now c.args.task.now.files c.in_ok-inputs.inputs.items c.as_slice-2.result.now c.is_without_source.result false c.as_slice.ensures
      c.as_slice-2.ensures.value c.is_without_source.ensures c.if-is_without_source.false,
)

pub returns-then-is_without_source-clause-answered : goal.returns-then-is_without_source-clause-answered
returns-then-is_without_source-clause-answered g c = λ first before known. (
  c.in_ok-inputs.inputs.items,
  inputs_longer (requests_nothing first) c.check_outputs.ensures.reads.requests c.args.task.now c.in_ok-inputs.inputs.items (c.in_ok-inputs.ensures.answered first before known),
  found_of c.as_slice.result.now c.args.task.now.files c.in_ok-inputs.inputs.items c.as_slice-2.result.now c.is_without_source.result true c.as_slice.ensures
      c.as_slice-2.ensures.value c.is_without_source.ensures c.if-is_without_source.true,
)
