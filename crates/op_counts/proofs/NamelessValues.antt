-- Values that hold no name: what variables and instances begin with, and what is left of a value that ended.
use Rattle.std.proofs.Common.{◌≡◌, ℕ, zero, suc, length, refl}
use Rattle.std.specs.Prelude.{slice_get}
use Rattle.op_core.specs.Sizes.{type_at}
use Rattle.op_core.specs.declared.ids.ClassId.{ClassId}
use Rattle.op_core.specs.declared.ids.TypeId.{TypeId}
use Rattle.op_core.specs.declared.program.Core.{Core}
use Rattle.op_counts.proofs.ValueCounts.{sum_none, nil_nameless}
use Rattle.op_counts.specs.Counting.{count_in}
use Rattle.op_meaning.specs.Shapes.{Shape, single, composite, of_chars, of_elements, of_instance, shape_of, field_type, fields_of_class, zero_instance, zero_of, zero_within, zero_by, parts_by, part_type}
use Rattle.op_meaning.specs.Values.{Value, number, parts, text, line, array, instance, emptied}

-- ---- what variables begin with

zero_nameless : (n : ℕ) (core : Core) (y : ℕ) (of : TypeId) → count_in y (zero_within n core of) ≡ 0
zero_nameless zero core y of = refl
zero_nameless (suc n) core y of = by (λ to. zero_nameless n core y to) (shape_of core of)
  where
    by : ((to : TypeId) → count_in y (zero_within n core to) ≡ 0) → (shape : Shape) → count_in y (zero_by (zero_within n core) core (type_at core of) shape) ≡ 0
    by inner (single kind) = refl
    by inner composite = sum_none (parts_by core (type_at core of)) _ (λ k less. inner (part_type core (type_at core of) k))
    by inner of_chars = refl
    by inner of_elements = refl
    by inner (of_instance holds) = nil_nameless y holds

pub begins_nameless : (core : Core) (y : ℕ) (of : TypeId) → count_in y (zero_of core of) ≡ 0
begins_nameless core y of = zero_nameless (suc of.0) core y of

pub instance_begins_nameless : (core : Core) (y : ℕ) (c : ClassId) → count_in y (zero_instance core c) ≡ 0
instance_begins_nameless core y c = sum_none (length (fields_of_class core c)) _ (λ k less. begins_nameless core y (field_type (slice_get (fields_of_class core c) k)))

-- ---- what is left behind the end

-- A value that is ended holds nothing.
pub emptied_nameless : (y : ℕ) (v : Value) → count_in y (emptied v) ≡ 0
emptied_nameless y (number n) = refl
emptied_nameless y (parts count part) = sum_none count _ (λ k less. emptied_nameless y (part k))
emptied_nameless y (text t) = refl
emptied_nameless y (line n) = refl
emptied_nameless y (array n) = refl
emptied_nameless y (instance holds n) = nil_nameless y holds
