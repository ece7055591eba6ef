-- Where values go, as the source machine sees it.
use Rattle.op_values.specs.declared.setting.Here.{Here}
use Rattle.op_semantics.specs.Expressions.{Here as MeantHere}

abbrev pub here_view : Here → MeantHere
here_view here = record { temp = here.temporary; whole = here.whole; held = here.held }
