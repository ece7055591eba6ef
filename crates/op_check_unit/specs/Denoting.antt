-- What a type that is written denotes (Free Pascal Reference Guide, "Types").
use Rattle.std.specs.Prelude.{Bool, true, false, List, [], ◌∷◌, Option}
use Rattle.op_check_unit.specs.Naming.{type_named}
use Rattle.op_check_unit.specs.Records.{no_rows, some_fields, record_of}
use Rattle.op_check_unit.specs.Steps.{Here}
use Rattle.op_check_unit.specs.Types.{row, start_of_denoter, string_means, subrange_of, enumerated, set_over, index_over, array_of}
use Rattle.op_check_unit.specs.declared.record.FieldRows.{FieldRows}
use Rattle.op_core.specs.declared.ids.TypeId.{TypeId}
use Rattle.op_judgement.specs.Judgement.{with_part}
use Rattle.op_judgement.specs.Steps.{Step, followed, gives, judged, onward}
use Rattle.op_tree.specs.Denoter.{Denoter, named, string, subrange, enumeration, set, array, record_, Denoters, no_denoters, denoters, FieldLists, no_fields, fields}
use Rattle.op_tree.specs.declared.position.Name.{Name}

-- The type may be written in the declaration of a type of a name, and there within a record or an array.
abbrev mutual
  pub denoted : Option Name → Bool → Denoter → Here → Step Here TypeId
  denoted own inside (named q) h = judged h (type_named h.core h.names own inside q)
  denoted own inside (string p) h = judged h (string_means p)
  denoted own inside (subrange first last) h = onward (judged h (subrange_of h.core h.names first last)) row
  denoted own inside (enumeration p ns) h = enumerated ns h
  denoted own inside (set p base) h = followed (denoted own false base h) (λ t h. onward (judged h (with_part (set_over h.core (start_of_denoter base)) t)) row)
  denoted own inside (array p packed is element) h = onward (indices own [] is h) (λ is h. followed (denoted own true element h) (array_of p.place is))
  denoted own inside (record_ p packed lists) h = onward (field_lists own lists no_rows h) (record_of p.place)

  -- the types of indices behind those of others, the last one first
  pub indices : Option Name → List (Option TypeId) → Denoters → Here → Step Here (List (Option TypeId))
  indices own is no_denoters h = gives is h
  indices own is (denoters d ds) h = followed (followed (denoted own false d h) (λ t h. judged h (with_part (index_over h.core (start_of_denoter d)) t))) (λ t h. indices own (t ∷ is) ds h)

  -- fields behind others
  pub field_lists : Option Name → FieldLists → FieldRows → Here → Step Here FieldRows
  field_lists own no_fields r h = gives r h
  field_lists own (fields ns d others) r h = onward (followed (denoted own true d h) (λ t h. some_fields t ns r h)) (field_lists own others)
