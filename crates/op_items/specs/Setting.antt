-- Where values go, as the source machine sees it.
use Rattle.op_items.specs.declared.setting.Here.{Here}
use Rattle.op_meaning.specs.Expressions.{Here as MeantHere}

abbrev pub here_view : Here → MeantHere
here_view here = record { temp = here.temporary; whole = here.whole }
