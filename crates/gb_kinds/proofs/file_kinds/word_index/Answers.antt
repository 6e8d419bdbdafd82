use Rattle.std.proofs.Common.{refl}
use Rattle.gb_action.specs.declared.output_files.Form.TheVariants.{Dir}
use Rattle.gb_action.proofs.Asked.{declares_target}
use Rattle.gb_kinds.specs.Builtin.{builtin_shape}
use Rattle.gb_kinds.specs.Words.{index_files, index_of}
use Rattle.gb_kinds.specs.declared.shapes.TheConstants.{WORD_INDEX}
use Rattle.gb_kinds.proofs.CarriedLaw.{follows-is_right}
use Rattle.gb_kinds.proofs.RemadeAnswers.{remade-answers}
use Rattle.gb_kinds.proofs.WordFiles.{index-sorted}
use Rattle.gb_kinds.proofs.file_kinds.word_index.Goals as goal

pub returns : goal.returns
returns c =
    let request = c.args.request.now in
    let remade = c.in_ok-remade.remade in
    let made = index_files remade.made in
    remade-answers index_of index-sorted request c.in_ok-reply_remade.field-0 made remade.looked_at.keys c.in_ok-reply_remade.ensures
    c.in_ok-remade.ensures.in_full
    (λ changed. (c.in_ok-remade.ensures.carried changed).ordered)
    (λ changed old follows path. follows-is_right request made remade.looked_at (c.in_ok-remade.ensures.carried changed) old follows path)
    (declares_target (builtin_shape WORD_INDEX) request c.requires Dir refl)
