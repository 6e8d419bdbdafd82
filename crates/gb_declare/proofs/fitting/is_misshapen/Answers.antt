use Rattle.std.proofs.Common.{◌≡◌, ℕ, Bool, List, ◌||◌, sym, ap, ◌∙◌}
use Rattle.std.specs.Borrow.{Bor}
use Rattle.std.specs.List.{list_any}
use Rattle.std.specs.FinMap.Entries.{find}
use Rattle.gb_action.specs.declared.output_files.Form.{Form}
use Rattle.gb_core.specs.Lists.{byte_order}
use Rattle.gb_script.specs.declared.script.Call.{Call}
use Rattle.gb_registry.specs.Tables.{tables_of}
use Rattle.gb_declare.specs.Declaring.{lacks_actions}
use Rattle.gb_declare.specs.Shapes.{is_unfit}
use Rattle.gb_declare.proofs.ViewLemmas.{misshapen_is}
use Rattle.gb_declare.proofs.fitting.is_misshapen.Goals as goal
use Rattle.gb_declare.proofs.fitting.is_misshapen.Goals.{then-lacks, else-lacks}

pub returns : goal.returns
returns g c =
    let said = c.args.said.now in
    let table = c.args.scope.now.tables.now.actions in
    let names = c.in_ok-files.files.items in
    let forms = c.in_ok-outputs.outputs.items in
    let is = misshapen_is (tables_of g.T.Transforms.meanings g.A.Actions.meanings c.args.scope.now.tables.now) said names forms c.in_ok-files.ensures c.in_ok-outputs.ensures in
    let any : Bool = list_any (λ (call : Bor Call). is_unfit g.A.Actions.meanings names forms (find byte_order call.now.name table)) said.actions in
    let lacks : c.lacks_actions-lacks.result ≡ lacks_actions forms said.actions =
    c.lacks_actions-lacks.ensures ∙ ap (λ (fs : List (List ℕ × Form)). lacks_actions fs said.actions) c.deref.ensures.value in
    elim c.if-lacks.branch [
      | then-lacks w ↦ w.result-is ∙ w.if-lacks.true ∙ sym (ap (λ b. b || any) (sym lacks ∙ w.if-lacks.true)) ∙ is
      | else-lacks w ↦
          w.result-is ∙ w.is_any_unfit.ensures
          ∙ ap (λ (ns : List (List ℕ)). list_any (λ (call : Bor Call). is_unfit g.A.Actions.meanings ns w.deref-else-lacks-2.result.now (find byte_order call.now.name table)) said.actions) w.deref-else-lacks.ensures.value
          ∙ ap (λ (fs : List (List ℕ × Form)). list_any (λ (call : Bor Call). is_unfit g.A.Actions.meanings names fs (find byte_order call.now.name table)) said.actions) w.deref-else-lacks-2.ensures.value
          ∙ sym (ap (λ b. b || any) (sym lacks ∙ w.if-lacks.false)) ∙ is
    ]
