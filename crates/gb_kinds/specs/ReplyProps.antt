-- A result agrees with its meaning in at most one way, so a ghost field may state that it does.
use Rattle.std.specs.Prelude.{Bool, Result, Ok, Err, Option}
use Rattle.std.specs.Coded.{Coded-set, coded_bool, coded_option, coded_result}
use Rattle.gb_core.specs.contracts.value.Value as value
use Rattle.gb_core.specs.declared.value.Value.{Value}
use Rattle.gb_provider.specs.Meanings.{IsReply}
use Rattle.gb_provider.specs.contracts.fault.Chosen as chosen
use Rattle.gb_provider.specs.contracts.fault.Refusal as refusal
use Rattle.gb_provider.specs.declared.fault.Chosen.{Chosen}
use Rattle.gb_provider.specs.declared.fault.Refusal.{Refusal}
use Rattle.gb_provider.specs.declared.fault.TransformFault.{TransformFault}
use Rattle.gb_provider.specs.declared.fault.TransformFault.TheVariants.{Refused, OutOfMemory}

IsReply-prop : {A : Type 0} → IsSet (Result A Refusal)
    → (answer : Result A TransformFault) (meant : Result A Refusal) → IsProp (IsReply answer meant)
IsReply-prop set (Ok a) meant = Prim.hlevel set
IsReply-prop set (Err (Refused refusal)) meant = Prim.hlevel set
IsReply-prop set (Err OutOfMemory) meant = Prim.hlevel

pub mapped-prop : (answer : Result (Option Value) TransformFault) (meant : Result (Option Value) Refusal)
    → IsProp (IsReply answer meant)
mapped-prop = IsReply-prop (Coded-set (coded_result (coded_option value.the_row.coded) refusal.the_row.coded))

pub chosen-prop : (answer : Result (Option Chosen) TransformFault) (meant : Result (Option Chosen) Refusal)
    → IsProp (IsReply answer meant)
chosen-prop =
    IsReply-prop (Coded-set (coded_result (coded_option chosen.the_row.coded) refusal.the_row.coded))

pub zipped-prop : (answer : Result Value TransformFault) (meant : Result Value Refusal)
    → IsProp (IsReply answer meant)
zipped-prop = IsReply-prop (Coded-set (coded_result value.the_row.coded refusal.the_row.coded))

pub tested-prop : (answer : Result Bool TransformFault) (meant : Result Bool Refusal)
    → IsProp (IsReply answer meant)
tested-prop = IsReply-prop (Coded-set (coded_result coded_bool refusal.the_row.coded))
