-- The fields of records (Free Pascal Reference Guide, "Record types").
use Rattle.std.specs.Prelude.{Bool, true, false, nat_lt, List, [], ◌∷◌, ◌++◌, length, is_some, Option, Some, None}
use Rattle.op_base.specs.declared.place.Place.{Place}
use Rattle.op_check_unit.specs.Naming.{most_names}
use Rattle.op_check_unit.specs.Steps.{Here}
use Rattle.op_check_unit.specs.Types.{in_core, sized_row}
use Rattle.op_check_unit.specs.declared.record.FieldRows.{FieldRows}
use Rattle.op_core.specs.declared.ids.TypeId.{TypeId}
use Rattle.op_core.specs.declared.types.CoreType.TheVariants.{Record}
use Rattle.op_core.specs.declared.types.Field.{Field}
use Rattle.op_judgement.specs.declared.rules.LanguageRule.TheVariants.{DeclaredTwice, TooManyNames}
use Rattle.op_judgement.specs.Steps.{Step, gather, gives, silent, unchanged, when}
use Rattle.op_tree.specs.declared.class.Visibility.TheVariants.{Public}
use Rattle.op_tree.specs.declared.position.Name.{Name}
use Rattle.op_types.specs.Names.{Named, lower, meaning_of}
use Rattle.op_types.specs.declared.visible.Meaning.TheVariants.{Spoiled}

-- no field yet
abbrev pub no_rows : FieldRows
no_rows = record { fields = []; seen = []; whole = true }

abbrev pub is_seen : FieldRows → Name → Bool
is_seen r n = is_some (meaning_of r.seen (lower n.text))

abbrev pub seen_too : Name → List Named → List Named
seen_too n seen = seen ++ record { name = lower n.text; meaning = Spoiled } ∷ []

-- a field more, without which the record is not whole where its type is broken
abbrev pub with_field : Option TypeId → Name → FieldRows → FieldRows
with_field None n r = record { fields = r.fields; seen = seen_too n r.seen; whole = false }
with_field (Some of) n r = record { fields = r.fields ++ record { name = n; of = of; visibility = Public } ∷ []; seen = seen_too n r.seen; whole = r.whole }

-- a field, unless its name is taken in the record or too many are
abbrev pub one_field : Option TypeId → Name → FieldRows → Here → Step Here FieldRows
one_field t n r h =
    when (is_seen r n) (unchanged DeclaredTwice n.position.place r h)
    (when (nat_lt (length r.seen) most_names) (gives (with_field t n r) h) (unchanged TooManyNames n.position.place r h))

-- fields of one type
abbrev pub some_fields : Option TypeId → List Name → FieldRows → Here → Step Here FieldRows
some_fields t ns r h = gather (one_field t) ns r h

abbrev with_fields : List Field → Here → Here
with_fields fields h = in_core (record h.core { fields = h.core.fields ++ fields }) h

abbrev rows_entered : Place → FieldRows → Here → Step Here TypeId
rows_entered place r h = sized_row place (Record (record { first = length h.core.fields; count = length r.fields })) (with_fields r.fields h)

-- the record that has these fields
abbrev pub record_of : Place → FieldRows → Here → Step Here TypeId
record_of place r h = when r.whole (rows_entered place r h) (silent h)
