use Rattle.std.proofs.Common.{◌≡◌, ◌∙◌, ◌⊎◌, inl, Ok, Err}
use Rattle.gb_script.specs.declared.fault.ScriptFault.TheVariants.{OutOfMemory}
use Rattle.gb_script.specs.Grammar.{script_tokens}
use Rattle.gb_script.specs.Fits.{IsScript}
use Rattle.gb_script.specs.Notation.{IsSaid}
use Rattle.gb_script.specs.Script.{ParsesAs}
use Rattle.gb_script.proofs.StatementLaws.{Reads-script, script_ends_text}
use Rattle.gb_script.proofs.Sources.{one_said, parses_text, reported_stop, reported_back, reported_syntax, reported_depth}
use Rattle.gb_script.proofs.source.read_script.Goals as goal
use Rattle.gb_script.proofs.source.read_script.Goals.{In-Ok, After-fault_of}

found : (c : In-Ok) → ParsesAs c.args.bytes.now c.in-Ok.script
found c =
    let text = c.in_ok-text.ensures in
    parses_text Reads-script script_ends_text c.args.bytes.now _ text.same text.short text.utf8 _ _ (c.deref.ensures.value ∙ c.in_ok-lexed.ensures.tokens) c.in-Ok.ensures

pub returns-in-Ok-clause-found : goal.returns-in-Ok-clause-found
returns-in-Ok-clause-found c = found (goal.at.returns-in-Ok-clause-found c).In-Ok

pub returns-in-Ok-clause-back : goal.returns-in-Ok-clause-back
returns-in-Ok-clause-back c = λ said s. inl (one_said Reads-script script_ends_text c.args.bytes.now (Ok c.in-Ok.script) said (found (goal.at.returns-in-Ok-clause-back c).In-Ok) s)

reported : (c : After-fault_of) → (c.fault_of.result ≡ OutOfMemory) ⊎ IsSaid IsScript script_tokens c.args.bytes.now (Err c.fault_of.result)
reported c =
    let text = c.in_ok-text.ensures in
    reported_stop Reads-script script_ends_text c.args.bytes.now _ text.same text.short text.utf8 _ _ c.in-Err.stop _ (c.deref.ensures.value ∙ c.in_ok-lexed.ensures.tokens) c.in_ok-lexed.ensures.lines c.in-Err.ensures c.fault_of.ensures

pub returns-clause-back : goal.returns-clause-back
returns-clause-back c = reported_back Reads-script script_ends_text c.args.bytes.now c.fault_of.result (reported (goal.at.returns-clause-back c).After-fault_of)

pub returns-clause-syntax : goal.returns-clause-syntax
returns-clause-syntax c = reported_syntax Reads-script script_ends_text c.args.bytes.now c.fault_of.result (reported (goal.at.returns-clause-syntax c).After-fault_of)

pub returns-clause-too_deep : goal.returns-clause-too_deep
returns-clause-too_deep c = reported_depth Reads-script script_ends_text c.args.bytes.now c.fault_of.result (reported (goal.at.returns-clause-too_deep c).After-fault_of)
