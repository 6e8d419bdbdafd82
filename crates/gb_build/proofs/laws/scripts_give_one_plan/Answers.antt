use Rattle.gb_build.proofs.OnePlan.{one_plan}
use Rattle.gb_build.proofs.laws.scripts_give_one_plan.Goals as goal

pub returns : goal.returns
returns g c = λ tables kinds folder. one_plan tables kinds (g.F.Folder.device.may_leave folder)
