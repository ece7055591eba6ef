-- Names that stand for what is there, as all do whose declarations break no rule.
use Rattle.std.specs.Prelude.{List}
use Rattle.std.specs.List.{All}
use Rattle.op_core.specs.Sound.{Row}
use Rattle.op_core.specs.Typing.{Fits, Sees}
use Rattle.op_core.specs.declared.program.Core.{Core}
use Rattle.op_types.specs.Names.{Named}
use Rattle.op_types.specs.declared.constant.Constant.{Constant}
use Rattle.op_types.specs.declared.visible.Meaning.{Meaning}
use Rattle.op_types.specs.declared.visible.Meaning.TheVariants as meaning

-- it is a value of its type
abbrev pub IsSoundConstant : Core → Constant → Type 0
IsSoundConstant core c = Fits core c.value c.of

-- what a name stands for is there, and may be named
abbrev pub StandsFor : Core → Sees → Meaning → Type 0
StandsFor core sees meaning.Spoiled = ⊥
StandsFor core sees (meaning.Constant c) = IsSoundConstant core c
StandsFor core sees (meaning.Variable id writable) = sees.variable id × Row core.variables id.0
StandsFor core sees (meaning.TypeName of) = Row core.types of.0
StandsFor core sees (meaning.Routine id) = sees.routine id × Row core.routines id.0
StandsFor core sees m = Unit {0}

abbrev pub AllStand : Core → Sees → List Named → Type 0
AllStand core sees names = All (λ n. StandsFor core sees n.meaning) names
