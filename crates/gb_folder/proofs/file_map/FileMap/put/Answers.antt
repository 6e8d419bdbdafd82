use Rattle.gb_folder.specs.Memory.{files_of}
use Rattle.gb_folder.proofs.Sound.{sorted_after_put}
use Rattle.gb_folder.proofs.file_map.FileMap.put.Goals as goal

pub invariant_of-self-inside : goal.invariant_of-self-inside
invariant_of-self-inside c =
    (sorted_after_put c.put.result (files_of c.self.inside.held) (files_of c.put.new.held) c.args.text.now c.args.bytes.now c.put.ensures.ok c.put.ensures.err c.self.inside.sorted, tt)
