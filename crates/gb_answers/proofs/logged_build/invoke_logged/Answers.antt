use Rattle.std.specs.Prelude.{[]}
use Rattle.std.proofs.Common.{IfOk, ap, refl, subst, sym}
use Rattle.std.proofs.lemmas.List.{append-nil}
use Rattle.gb_logged.specs.Logged.{log, log_of}
use Rattle.gb_registry.specs.Tables.{tables_of}
use Rattle.gb_answers.specs.Scratch.{LeavesFromScratch}
use Rattle.gb_answers.proofs.Logged.{leaves_from_scratch}
use Rattle.gb_answers.proofs.logged_build.invoke_logged.Goals as goal

pub returns : goal.returns
returns g c =
    let F = g.F.Folder in
    let tables = tables_of g.T.Transforms.meanings g.A.Actions.meanings c.args.tables.now in
    let after = c.invoke-answer.new.folder in
    record {
      from_scratch =
          subst (λ inner. IfOk c.invoke-answer.result
          (λ report. LeavesFromScratch tables (F.device.may_leave inner) c.args.invocation.now report (log after)))
          c.new-folder.ensures.inner
          (leaves_from_scratch _ tables log c.logged_folders_keep_calls.ensures
          c.answered_success_is_from_scratch.ensures c.args.invocation.now c.invoke-answer.result
          c.new-folder.result after (ap log_of c.new-folder.ensures.calls) c.invoke-answer.ensures.does.requests);
      logged = λ kinds. (
        record {
          invocation = c.args.invocation.now;
          answer = c.invoke-answer.result;
          old = c.new-folder.result;
          new = after;
          begins = ap log_of c.new-folder.ensures.calls;
          requests = c.invoke-answer.ensures.does.requests;
          made = log after;
          unmade = [];
          cut = sym (append-nil (log after));
        },
        refl,
        refl,
        refl,
        refl,
      );
    }
