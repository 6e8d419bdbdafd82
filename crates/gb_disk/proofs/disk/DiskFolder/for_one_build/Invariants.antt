use Rattle.gb_disk.proofs.disk.DiskFolder.for_one_build.Given as goal

abbrev pub ghost-new : goal.ghost-new
ghost-new g a = g.supposed
