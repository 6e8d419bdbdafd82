use Rattle.std.proofs.Common.{◌≡◌, ◌++◌, List, ap, ◌∙◌, unwrap_or}
use Rattle.std.specs.Borrow.{Bor}
use Rattle.std.specs.BTreeMap.{get}
use Rattle.std.specs.Global.{Global}
use Rattle.std.specs.declared.vec.Vec.{Vec}
use Rattle.gb_core.specs.Lists.{byte_order}
use Rattle.gb_script.specs.declared.script.Clause.{Clause}
use Rattle.gb_declare.specs.Borrowed.{now_of}
use Rattle.gb_project.specs.Blocks.{clauses_under}
use Rattle.gb_project.proofs.BlockLemmas.{block_added, or_nothing}
use Rattle.gb_project.proofs.task_blocks.add_block.Goals as goal

pub returns : goal.returns
returns c = λ other.
    let existed : now_of c.unwrap_or-clauses.result.items ≡ clauses_under c.args.blocks.now c.args.name.now =
    ap (λ (v : Vec (Bor Clause) Global). now_of v.items) (c.unwrap_or-clauses.ensures ∙ ap (λ o. unwrap_or o c.new.result) c.remove.ensures.value)
    ∙ or_nothing (get byte_order c.args.blocks.now c.args.name.now) c.new.result c.new.ensures.items in
    block_added c.args.blocks.now c.remove.new.self c.insert.new.self c.args.name.now c.in_ok-copy.field-0 c.push_clauses.new.to c.in_ok-copy.ensures
    c.remove.ensures.updates.0 c.in_ok-insert.ensures.updates.0 c.args.block.now (c.in_ok-push_clauses.ensures ∙ ap (λ (l : List Clause). l ++ c.args.block.now) existed) other
