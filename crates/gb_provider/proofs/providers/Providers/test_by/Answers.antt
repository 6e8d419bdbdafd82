use Rattle.gb_provider.proofs.TestLemmas.{asked_tested, fault_tested, absent_tested}
use Rattle.gb_provider.proofs.providers.Providers.test_by.Goals.{in-Ok-Some, in-Ok-None, in-Err}
use Rattle.gb_provider.proofs.providers.Providers.test_by.Goals as goal

pub returns-clause-tested : goal.returns-clause-tested
returns-clause-tested g c =
    elim c.match-get.branch [
      | in-Ok-Some w ↦
          let got = rw w.in-Ok-Some.field-0-is at w.in-Ok-Some.ensures.got in
          rw w.result-is (asked_tested g.T.Transforms.meanings c.args.self.now c.args.node.number c.args.name.now c.args.arguments.now c.args.test.now c.requires.count w.in-Ok-Some.value got w.ask_once.result w.ask_once.ensures)
      | in-Ok-None w ↦
          let got = rw w.in-Ok-None.field-0-is at w.in-Ok-None.ensures.got in
          rw w.result-is (absent_tested g.T.Transforms.meanings c.args.self.now c.args.node.number c.args.name.now c.args.arguments.now c.args.test.now c.requires.count got)
      | in-Err w ↦
          rw w.result-is (fault_tested g.T.Transforms.meanings c.args.self.now c.args.node.number c.args.name.now c.args.arguments.now c.args.test.now c.requires.count w.in-Err.fault w.in-Err.ensures.got)
    ]
