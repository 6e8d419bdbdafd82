use Rattle.std.proofs.lemmas.List.Elements.{Contains-append_left}
use Rattle.gb_tree.specs.DigestCache.{places_read}
use Rattle.gb_tree.proofs.digest_cache.DigestCache.add_new.Goals as goal

pub returns-else-not-has_first : goal.returns-else-not-has_first
returns-else-not-has_first c = λ file there. Contains-append_left c.args.self.now (places_read c.args.files.items) file there
