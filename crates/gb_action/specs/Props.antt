-- An answer is right in one way at most, so a ghost field may say that it is.
use Rattle.std.specs.Prelude.{ℕ, Bool, List, Result, Option}
use Rattle.std.specs.Coded.{Coded-set, coded_ℕ, coded_bool, coded_list, coded_option, coded_result}
use Rattle.gb_action.specs.contracts.reply.Written as written
use Rattle.gb_action.specs.contracts.reply.OutputPath as output_path
use Rattle.gb_action.specs.Meanings.{Making, Printing}
use Rattle.gb_action.specs.Replies.{Answers}
use Rattle.gb_action.specs.declared.reply.Written.{Written}
use Rattle.gb_action.specs.declared.reply.OutputPath.{OutputPath}
use Rattle.gb_action.specs.declared.reply.Reply.{Reply}
use Rattle.gb_action.specs.declared.reply.ActionFault.{ActionFault}
use Rattle.gb_action.specs.declared.request.Request.{Request}

bool_set : IsSet Bool
bool_set = Coded-set coded_bool

bytes_set : IsSet (Option (List ℕ))
bytes_set = Coded-set (coded_option (coded_list coded_ℕ))

lines_set : IsSet (List (List ℕ))
lines_set = Coded-set (coded_list (coded_list coded_ℕ))

removes_set : IsSet (List OutputPath)
removes_set = Coded-set (coded_list output_path.the_row.coded)

made_set : IsSet (Result (List Written) (List ℕ))
made_set = Coded-set (coded_result (coded_list written.the_row.coded) (coded_list coded_ℕ))

pub Answers-prop : (makes : Making) (prints : Printing) (request : Request)
    (answer : Result Reply ActionFault) → IsProp (Answers makes prints request answer)
Answers-prop makes prints request answer = Prim.hlevel (bool_set, bytes_set, lines_set, removes_set, made_set)
