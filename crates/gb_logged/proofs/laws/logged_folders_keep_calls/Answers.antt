use Rattle.gb_logged.proofs.Keeping.{all_kept}
use Rattle.gb_logged.proofs.laws.logged_folders_keep_calls.Goals as goal

pub returns : goal.returns
returns g c = all_kept g.F.Folder.device
