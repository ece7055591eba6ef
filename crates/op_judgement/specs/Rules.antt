-- The numbers by which the rules of the checker are told, and the features that the profile leaves out.
use Rattle.std.specs.Prelude.{ℕ}
use Rattle.op_base.specs.declared.rule.Rule.{Rule}
use Rattle.op_judgement.specs.declared.rules.Feature.{Feature}
use Rattle.op_judgement.specs.declared.rules.Feature.TheVariants.{FloatingPoint, OtherIntegers, ShortStrings, OtherStrings, Pointers, ProceduralTypes, Metaclasses, Files, Overloads, CaseOnStrings, NestedRoutines, FractionWidth, Strings, DynamicArrays, Classes, Interfaces, Exceptions}
use Rattle.op_judgement.specs.declared.rules.LanguageRule.{LanguageRule}
use Rattle.op_judgement.specs.declared.rules.LanguageRule.TheVariants.{Syntax, MissingFile, OtherFile, NotInProfile, DeclaredTwice, UnknownName, WrongKindOfName, NoBody, HeadingDiffers, NotAssignable, NoOperator, NotBoolean, NotOrdinal, NotIndexed, NoMember, WrongArguments, NoVariable, VariableOfAnotherType, NotWritable, NoConstant, EmptyRange, LabelTwice, OutOfRange, NoSetElement, NoStatement, NumberTooLarge, CharacterOfString, ContainsItself, NoCast, NoLoop, LeavesFinally, NotWritten, TooManyNames, TypeTooLarge, TooManyParameters, LocalsTooLarge, GlobalsTooLarge}

abbrev pub number_of_feature : Feature → ℕ
number_of_feature FloatingPoint = 1
number_of_feature OtherIntegers = 2
number_of_feature ShortStrings = 3
number_of_feature OtherStrings = 4
number_of_feature Pointers = 5
number_of_feature ProceduralTypes = 6
number_of_feature Metaclasses = 7
number_of_feature Files = 11
number_of_feature Overloads = 12
number_of_feature CaseOnStrings = 25
number_of_feature NestedRoutines = 28
number_of_feature FractionWidth = 35
number_of_feature Strings = 40
number_of_feature DynamicArrays = 41
number_of_feature Classes = 42
number_of_feature Interfaces = 43
number_of_feature Exceptions = 44

abbrev pub number_of : LanguageRule → ℕ
number_of Syntax = 9
number_of MissingFile = 10
number_of OtherFile = 12
number_of (NotInProfile feature) = 13
number_of DeclaredTwice = 14
number_of UnknownName = 15
number_of WrongKindOfName = 16
number_of NoBody = 18
number_of HeadingDiffers = 19
number_of NotAssignable = 20
number_of NoOperator = 21
number_of NotBoolean = 22
number_of NotOrdinal = 23
number_of NotIndexed = 24
number_of NoMember = 25
number_of WrongArguments = 26
number_of NoVariable = 27
number_of VariableOfAnotherType = 28
number_of NotWritable = 29
number_of NoConstant = 30
number_of EmptyRange = 31
number_of LabelTwice = 32
number_of OutOfRange = 33
number_of NoSetElement = 34
number_of NoStatement = 35
number_of NumberTooLarge = 36
number_of CharacterOfString = 37
number_of ContainsItself = 38
number_of NoCast = 39
number_of NoLoop = 58
number_of LeavesFinally = 59
number_of NotWritten = 60
number_of TooManyNames = 64
number_of TypeTooLarge = 67
number_of TooManyParameters = 68
number_of LocalsTooLarge = 69
number_of GlobalsTooLarge = 72

-- the rule as it is told, where features are numbered too
abbrev pub rule_of : LanguageRule → Rule
rule_of (NotInProfile feature) = record { number = 13; feature = number_of_feature feature }
rule_of rule = record { number = number_of rule; feature = 0 }
