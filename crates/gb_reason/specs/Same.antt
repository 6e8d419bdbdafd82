-- Tests whether two things of a record are the same.
use Rattle.std.specs.Prelude.{◌==◌, ◌&&◌, Bool, false, bytes_eq}
use Rattle.std.specs.Bool.{beq}
use Rattle.std.specs.Cmp.Lexicographic.{pointwise}
use Rattle.gb_core.specs.declared.value.Value.{Value}
use Rattle.gb_core.specs.declared.value.Value.TheVariants as values
use Rattle.gb_plan.specs.declared.task.Action.{Action}

-- the values are the same
abbrev pub is_value : Value → Value → Bool
is_value (values.Text one) (values.Text two) = bytes_eq one two
is_value (values.Flag one) (values.Flag two) = beq one two
is_value (values.List one) (values.List two) = pointwise bytes_eq one two
is_value (values.Place one) (values.Place two) = bytes_eq one two
is_value (values.Task one) (values.Task two) = bytes_eq one two
is_value one two = false

-- the actions are the same, in one version and with the same arguments
abbrev pub is_action : Action → Action → Bool
is_action one two =
    bytes_eq one.kind two.kind && (one.version == two.version) && pointwise is_value one.args two.args
