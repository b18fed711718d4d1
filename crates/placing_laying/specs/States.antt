-- "State is 1 for step 1, else 2"
use Rattle.std.specs.Prelude.{ℤ, pos}
use Rattle.placing_laying.specs.declared.State.{State}
use Rattle.placing_laying.specs.declared.State.TheVariants.{Fixed, Auto}

abbrev pub state_number : State → ℤ
state_number Fixed = pos 1
state_number Auto = pos 2
