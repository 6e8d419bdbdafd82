use Rattle.std.proofs.Common.{List, subst}
use Rattle.gb_semantics.specs.Edits.{Shown}
use Rattle.gb_predict.specs.declared.predicted_outcome.Prediction.{Prediction}
use Rattle.gb_registry.specs.Tables.{tables_of}
use Rattle.gb_ask_command.specs.Replies.{IsGraphReply}
use Rattle.gb_ask_command.proofs.Reported.{predicted_before, shows}
use Rattle.gb_ask_command.proofs.graph.draw_coloured.Goals as goal

pub returns-clause-reply : goal.returns-clause-reply
returns-clause-reply g c =
    let F = g.F.Folder in
    let tables = tables_of g.T.Transforms.meanings g.A.Actions.meanings c.args.tables.now in
    let old : Shown = shows (F.device.contents c.args.folder.now) (F.device.failures c.args.folder.now) in
    let shown : Shown = shows (F.device.contents c.predicted-predicted.new.folder) (F.device.failures c.predicted-predicted.new.folder) in
    let known = F.device.faithful c.draw.new.folder in
    let back = c.draw.ensures.reads.requests.back in
    record {
      shown = shown;
      same = λ faithful. c.predicted-predicted.ensures.reads.same (back faithful);
      predicted = c.predicted-predicted.result.items;
      are_predicted =
          predicted_before tables (F.device.faithful c.predicted-predicted.new.folder) known back old shown.failures c.args.invocation.now c.args.colouring c.predicted-predicted.result.items
          c.predicted-predicted.ensures.predicted;
      reply_is =
          subst (λ (predicted : List Prediction). IsGraphReply tables known shown (F.device.failures c.draw.new.folder) c.args.style predicted c.args.invocation.now c.draw.result)
          c.as_slice.ensures.value c.draw.ensures.reply;
    }
