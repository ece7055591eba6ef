-- What a unit exports, and what those see that use it (Free Pascal Reference Guide, "Units" and "Scope").
use Rattle.std.specs.Prelude.{Bool, List, [], ◌∷◌, ◌++◌, codes, drop, length, Option, Some, None, if◌then◌else◌}
use Rattle.std.specs.Str.{str_eq_ignore_ascii_case}
use Rattle.op_check_unit.specs.Naming.{with_name}
use Rattle.op_check_unit.specs.Steps.{Given, Here}
use Rattle.op_check_unit.specs.declared.uses.Export.{Export}
use Rattle.op_core.specs.Faults.{kept}
use Rattle.op_judgement.specs.declared.rules.LanguageRule.TheVariants.{MissingFile}
use Rattle.op_judgement.specs.Steps.{Step, breaks, each, gives, when}
use Rattle.op_tree.specs.declared.position.Name.{Name}
use Rattle.op_types.specs.Names.{lower}
use Rattle.op_types.specs.declared.visible.Meaning.TheVariants.{Unit as UnitName}

-- ---- the scope of a unit

-- a scope begins
abbrev pub opened : Here → Here
opened h = record h { first = length h.names; count = 0 }

-- the name stands for the unit or the program, around the scope of its declarations, which stand behind it too
abbrev pub with_own : Name → Here → Here
with_own n h = opened (record (with_name n (UnitName h.unit) h) { own = Some n.text })

-- ---- exports

-- what the scope has behind the interface part, its global variables, and the first rule that the part breaks
abbrev pub exported : Name → Given (Unit {0}) → Export
exported n g = record { unit = n.text; id = g.here.unit; names = drop g.here.first g.here.names; count = g.here.count; globals = g.here.core.globals; broken = kept None g.faults }

-- Its global variables come into the table with those of the implementation part: till then none is there.
abbrev pub put_apart : Here → Here
put_apart h = record h { core = record h.core { globals = [] }; bytes = 0 }

-- ---- uses

abbrev pub is_system : Name → Bool
is_system n = str_eq_ignore_ascii_case n.text (codes "System")

-- what the unit of this name exports, where its interface part is declared
abbrev pub exports_of : List (Option Export) → Name → Option Export
exports_of [] n = None
exports_of (None ∷ es) n = exports_of es n
exports_of (Some e ∷ es) n = if str_eq_ignore_ascii_case e.unit n.text then Some e else exports_of es n

-- the name of a unit, and behind it what it exports
abbrev pub with_used : Export → Here → Here
with_used e h = record h { names = (h.names ++ record { name = lower e.unit; meaning = UnitName e.id } ∷ []) ++ e.names }

-- there is such a unit; it is so where the program was loaded
abbrev pub used_by : Name → Option Export → Here → Step Here (Unit {0})
used_by n None h = breaks MissingFile n.position.place h
used_by n (Some e) h = gives tt (with_used e h)

-- the names of System are there without its use
abbrev pub used : List (Option Export) → Name → Here → Step Here (Unit {0})
used es n h = when (is_system n) (gives tt h) (used_by n (exports_of es n) h)

-- what is used later hides what is used earlier
abbrev pub uses_mean : List (Option Export) → List Name → Here → Step Here (Unit {0})
uses_mean es ns h = each (used es) ns h

-- ---- the implementation part

-- its scope goes on with what the interface part declares
abbrev pub put_back : Export → Here → Here
put_back e h = record h { names = h.names ++ e.names; count = e.count }
