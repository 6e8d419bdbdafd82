use Rattle.gb_folder.proofs.Answering.{read_longer}
use Rattle.gb_folder.proofs.Asked.{requests_nothing}
use Rattle.gb_tree.proofs.Known.{read_bytes}
use Rattle.gb_tree.proofs.completing.complete.Goals as goal

pub returns-clause-answered : goal.returns-clause-answered
returns-clause-answered g c = λ first before observed.
    read_longer before (requests_nothing c.read_file.new.folder) c.args.observed.place c.in_ok-bytes.bytes c.in_ok-bytes.ensures.answered

pub returns-clause-read : goal.returns-clause-read
returns-clause-read g c = λ faithful observed. read_bytes c.read_file.ensures.reads faithful c.args.observed.place c.in_ok-bytes.bytes c.in_ok-bytes.ensures.answered
