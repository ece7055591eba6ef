-- The unit System: what a program sees without declaring it (Free Pascal Reference Guide, "The system unit").
use Rattle.std.specs.Prelude.{ℕ, pos, List, true, [], ◌∷◌, ◌++◌, length, codes, Option, None, Some}
use Rattle.op_check_unit.specs.Steps.{Here}
use Rattle.op_check_unit.specs.declared.system.Known.{Known}
use Rattle.op_check_unit.specs.declared.system.Known.TheVariants.{Named as Type_, Form, Value}
use Rattle.op_core.specs.Types.{id}
use Rattle.op_core.specs.declared.class.InterfaceKind.TheVariants.{Com}
use Rattle.op_core.specs.declared.constant.Const.TheVariants.{Ordinal}
use Rattle.op_core.specs.declared.ids.ClassId.{ClassId}
use Rattle.op_core.specs.declared.ids.Run.{Run}
use Rattle.op_core.specs.declared.ids.TypeId.{TypeId}
use Rattle.op_core.specs.declared.operation.Function.TheVariants.{Length, Low, High, Ord, Succ, Pred, Abs, Sqr, Odd, Assigned, UpCase}
use Rattle.op_core.specs.declared.program.Core.{Core}
use Rattle.op_core.specs.declared.types.CoreType.{CoreType}
use Rattle.op_core.specs.declared.types.CoreType.TheVariants.{Integer, Boolean, Char, String, Nil, Nothing, EmptySet, Subrange, Set, Class, Interface}
use Rattle.op_core.specs.declared.types.IntegerKind.TheVariants.{Signed8, Unsigned8, Signed16, Unsigned16, Signed32}
use Rattle.op_judgement.specs.declared.rules.Feature.TheVariants.{Files, FloatingPoint, Metaclasses, OtherIntegers, OtherStrings, Pointers, ProceduralTypes, ShortStrings}
use Rattle.op_types.specs.ConstantParts.{made, nodes}
use Rattle.op_types.specs.Entering.{entered}
use Rattle.op_types.specs.Names.{Named, lower}
use Rattle.op_types.specs.declared.visible.BuiltIn.TheVariants as form
use Rattle.op_types.specs.declared.visible.Meaning.{Meaning}
use Rattle.op_types.specs.declared.visible.Meaning.TheVariants as meaning

-- ---- types

abbrev pub no_rows : Run
no_rows = record { first = 0; count = 0 }

-- a class without members of its own
abbrev pub with_class : List ℕ → TypeId → Option ClassId → Run → Core → Core
with_class n of ancestor listed core = record core {
  classes = core.classes ++ record { name = n; of = of; unit = record { 0 = 0 }; ancestor = ancestor; interfaces = listed; fields = no_rows; methods = no_rows; properties = no_rows; complete = true } ∷ [];
}

abbrev pub with_unknown : Core → Core
with_unknown core = record core {
  interfaces = core.interfaces ++ record { name = codes "IUnknown"; of = id 18; unit = record { 0 = 0 }; kind = Com; ancestor = None; methods = no_rows; complete = true } ∷ [];
}

abbrev pub with_listed : Core → Core
with_listed core = record core { listed = core.listed ++ record { 0 = 0 } ∷ [] }

-- TObject, TInterfacedObject and IUnknown; their members are not built yet.
abbrev pub with_classes : Core → Core
with_classes core =
    with_unknown (with_class (codes "TInterfacedObject") (id 17) (Some (record { 0 = 0 })) (record { first = 0; count = 1 }) (with_listed (with_class (codes "TObject") (id 16) None no_rows core)))

-- the predefined types, with the set types that stand behind their bases, and those of the classes and the interface
abbrev pub types : List CoreType
types =
    Integer Signed8 ∷ Integer Unsigned8 ∷ Integer Signed16 ∷ Integer Unsigned16 ∷ Integer Signed32 ∷ Boolean ∷ Char ∷ String ∷ Nil ∷ Nothing ∷ EmptySet
    ∷ Subrange (id 4) (pos 0) (pos 31) ∷ Subrange (id 6) (pos 0) (pos 31) ∷ Set (id 5)
    ∷ Class (record { 0 = 0 }) ∷ Class (record { 0 = 1 }) ∷ Interface (record { 0 = 0 }) ∷ []

abbrev pub with_types : List CoreType → Core → Core
with_types [] core = core
with_types (t ∷ ts) core = with_types ts (entered core t)

abbrev pub empty : Core
empty = record { types = []; extents = []; fields = []; classes = []; interfaces = []; listed = []; methods = []; properties = []; routines = []; parameters = []; variables = []; globals = []; units = []; exceptions = None }

abbrev pub system_core : Core
system_core = with_types types (with_classes empty)

-- ---- names

abbrev pub meaning_of_known : Known → Meaning
meaning_of_known (Type_ of) = meaning.TypeName of
meaning_of_known (Form b) = meaning.BuiltIn b
meaning_of_known (Value of n) = meaning.Constant (made (Ordinal n) of (nodes 1))

-- a name, alone and behind that of the unit
abbrev pub with_known : List ℕ → Known → List Named → List Named
with_known n k ns = ns ++ record { name = lower n; meaning = meaning_of_known k } ∷ [] ++ record { name = lower (codes "system." ++ n); meaning = meaning_of_known k } ∷ []

abbrev pub with_table : List (List ℕ × Known) → List Named → List Named
with_table [] ns = ns
with_table (x ∷ xs) ns = with_table xs (with_known x.0 x.1 ns)

abbrev pub type_names : List (List ℕ × Known)
type_names =
    (codes "ShortInt", Type_ (id 0))
    ∷ (codes "Byte", Type_ (id 1))
    ∷ (codes "SmallInt", Type_ (id 2))
    ∷ (codes "Word", Type_ (id 3))
    ∷ (codes "LongInt", Type_ (id 4))
    ∷ (codes "Integer", Type_ (id 4))
    ∷ (codes "Boolean", Type_ (id 5))
    ∷ (codes "Char", Type_ (id 6))
    ∷ (codes "AnsiString", Type_ (id 7))
    ∷ []

abbrev pub class_names : List (List ℕ × Known)
class_names =
    (codes "TObject", Type_ (id 16))
    ∷ (codes "TInterfacedObject", Type_ (id 17))
    ∷ (codes "IUnknown", Type_ (id 18))
    ∷ (codes "IInterface", Type_ (id 18))
    ∷ []

abbrev pub value_names : List (List ℕ × Known)
value_names =
    (codes "False", Value (id 5) (pos 0))
    ∷ (codes "True", Value (id 5) (pos 1))
    ∷ (codes "MaxInt", Value (id 4) (pos 2147483647))
    ∷ []

abbrev pub text_names : List (List ℕ × Known)
text_names =
    (codes "Write", Form form.Write)
    ∷ (codes "WriteLn", Form form.WriteLn)
    ∷ (codes "Read", Form form.Read)
    ∷ (codes "ReadLn", Form form.ReadLn)
    ∷ (codes "SetLength", Form form.SetLength)
    ∷ (codes "Val", Form form.Val)
    ∷ (codes "Str", Form form.Str)
    ∷ (codes "Delete", Form form.Delete)
    ∷ (codes "Insert", Form form.Insert)
    ∷ []

abbrev pub statement_names : List (List ℕ × Known)
statement_names =
    (codes "Inc", Form form.Inc)
    ∷ (codes "Dec", Form form.Dec)
    ∷ (codes "Include", Form form.Include)
    ∷ (codes "Exclude", Form form.Exclude)
    ∷ (codes "Halt", Form form.Halt)
    ∷ (codes "Exit", Form form.Exit)
    ∷ (codes "Break", Form form.Break)
    ∷ (codes "Continue", Form form.Continue)
    ∷ []

abbrev pub function_names : List (List ℕ × Known)
function_names =
    (codes "Length", Form (form.Function Length))
    ∷ (codes "Low", Form (form.Function Low))
    ∷ (codes "High", Form (form.Function High))
    ∷ (codes "Ord", Form (form.Function Ord))
    ∷ (codes "Succ", Form (form.Function Succ))
    ∷ (codes "Pred", Form (form.Function Pred))
    ∷ (codes "Abs", Form (form.Function Abs))
    ∷ (codes "Sqr", Form (form.Function Sqr))
    ∷ (codes "Odd", Form (form.Function Odd))
    ∷ (codes "Assigned", Form (form.Function Assigned))
    ∷ (codes "UpCase", Form (form.Function UpCase))
    ∷ []

abbrev pub other_names : List (List ℕ × Known)
other_names =
    (codes "Eof", Form form.Eof)
    ∷ (codes "Eoln", Form form.Eoln)
    ∷ (codes "Copy", Form form.Copy)
    ∷ (codes "Chr", Form form.Chr)
    ∷ (codes "Pos", Form form.Pos)
    ∷ (codes "StringOfChar", Form form.StringOfChar)
    ∷ []

-- Types that are not in this profile, by their features:
-- floating point
abbrev pub floating_names : List (List ℕ × Known)
floating_names =
    (codes "Real", Form (form.LeftOut FloatingPoint))
    ∷ (codes "Single", Form (form.LeftOut FloatingPoint))
    ∷ (codes "Double", Form (form.LeftOut FloatingPoint))
    ∷ (codes "Extended", Form (form.LeftOut FloatingPoint))
    ∷ (codes "Currency", Form (form.LeftOut FloatingPoint))
    ∷ (codes "Comp", Form (form.LeftOut FloatingPoint))
    ∷ (codes "ValReal", Form (form.LeftOut FloatingPoint))
    ∷ (codes "TDateTime", Form (form.LeftOut FloatingPoint))
    ∷ []

-- other integer types
abbrev pub integer_names : List (List ℕ × Known)
integer_names =
    (codes "Int64", Form (form.LeftOut OtherIntegers))
    ∷ (codes "UInt64", Form (form.LeftOut OtherIntegers))
    ∷ (codes "QWord", Form (form.LeftOut OtherIntegers))
    ∷ (codes "Cardinal", Form (form.LeftOut OtherIntegers))
    ∷ (codes "LongWord", Form (form.LeftOut OtherIntegers))
    ∷ (codes "DWord", Form (form.LeftOut OtherIntegers))
    ∷ []

-- integer types of the width of the machine
abbrev pub native_names : List (List ℕ × Known)
native_names =
    (codes "NativeInt", Form (form.LeftOut OtherIntegers))
    ∷ (codes "NativeUInt", Form (form.LeftOut OtherIntegers))
    ∷ (codes "PtrInt", Form (form.LeftOut OtherIntegers))
    ∷ (codes "PtrUInt", Form (form.LeftOut OtherIntegers))
    ∷ []

-- integer types by their bits, and those of sizes
abbrev pub sized_names : List (List ℕ × Known)
sized_names =
    (codes "Int8", Form (form.LeftOut OtherIntegers))
    ∷ (codes "Int16", Form (form.LeftOut OtherIntegers))
    ∷ (codes "Int32", Form (form.LeftOut OtherIntegers))
    ∷ (codes "UInt8", Form (form.LeftOut OtherIntegers))
    ∷ (codes "UInt16", Form (form.LeftOut OtherIntegers))
    ∷ (codes "UInt32", Form (form.LeftOut OtherIntegers))
    ∷ (codes "SizeInt", Form (form.LeftOut OtherIntegers))
    ∷ (codes "SizeUInt", Form (form.LeftOut OtherIntegers))
    ∷ []

-- short strings
abbrev pub short_names : List (List ℕ × Known)
short_names =
    (codes "ShortString", Form (form.LeftOut ShortStrings))
    ∷ (codes "OpenString", Form (form.LeftOut ShortStrings))
    ∷ []

-- other string types
abbrev pub string_names : List (List ℕ × Known)
string_names =
    (codes "WideString", Form (form.LeftOut OtherStrings))
    ∷ (codes "UnicodeString", Form (form.LeftOut OtherStrings))
    ∷ (codes "UTF8String", Form (form.LeftOut OtherStrings))
    ∷ (codes "RawByteString", Form (form.LeftOut OtherStrings))
    ∷ []

-- pointers to characters and texts
abbrev pub character_names : List (List ℕ × Known)
character_names =
    (codes "PChar", Form (form.LeftOut Pointers))
    ∷ (codes "PAnsiChar", Form (form.LeftOut Pointers))
    ∷ (codes "PWideChar", Form (form.LeftOut Pointers))
    ∷ (codes "PPChar", Form (form.LeftOut Pointers))
    ∷ (codes "PString", Form (form.LeftOut Pointers))
    ∷ (codes "PAnsiString", Form (form.LeftOut Pointers))
    ∷ []

-- other pointers
abbrev pub pointer_names : List (List ℕ × Known)
pointer_names =
    (codes "Pointer", Form (form.LeftOut Pointers))
    ∷ (codes "PPointer", Form (form.LeftOut Pointers))
    ∷ (codes "PByte", Form (form.LeftOut Pointers))
    ∷ (codes "PInteger", Form (form.LeftOut Pointers))
    ∷ (codes "PLongInt", Form (form.LeftOut Pointers))
    ∷ (codes "PBoolean", Form (form.LeftOut Pointers))
    ∷ []

-- a procedural type, a metaclass and files
abbrev pub rest_names : List (List ℕ × Known)
rest_names =
    (codes "TProcedure", Form (form.LeftOut ProceduralTypes))
    ∷ (codes "TClass", Form (form.LeftOut Metaclasses))
    ∷ (codes "Text", Form (form.LeftOut Files))
    ∷ (codes "TextFile", Form (form.LeftOut Files))
    ∷ []

abbrev pub with_left_out : List Named → List Named
with_left_out ns =
    with_table rest_names (with_table pointer_names (with_table character_names (with_table string_names (with_table short_names (with_table sized_names (with_table native_names (with_table integer_names (with_table floating_names ns))))))))

abbrev pub system_unit : List Named
system_unit = record { name = codes "system"; meaning = meaning.Unit (record { 0 = 4294967295 }) } ∷ []

abbrev pub system_names : List Named
system_names =
    with_left_out (with_table other_names (with_table function_names (with_table statement_names (with_table text_names (with_table value_names (with_table class_names (with_table type_names system_unit)))))))

-- ---- where a program begins

abbrev pub beginning : Here
beginning = record { core = system_core; unit = record { 0 = 0 }; names = system_names; first = length system_names; count = 0; own = None; ahead = []; bytes = 0; routine = None; awaited = []; bodies = []; first_values = [] }
