use Rattle.gb_folder.specs.Calls.{changes_at, none}
use Rattle.gb_folder.proofs.Leading.{calls_in, requests_of}
use Rattle.gb_folder.proofs.laws.requests_are_calls.Goals as goal

pub returns : goal.returns
returns g c = λ test old new. (
  λ requests. calls_in g.F.Folder.device (changes_at test) old (requests.calls none),
  λ calls. requests_of g.F.Folder.device (changes_at test) old new calls.0 calls.2 calls.1,
)
