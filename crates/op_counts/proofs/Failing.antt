-- Errors change no number of holders, also where they are raised: an instance of an exception begins with no name, and its message is a literal.
use Rattle.std.proofs.Common.{◌≡◌, ℕ, ◌+◌, List, [], ◌∷◌, length, refl, arith}
use Rattle.std.specs.Prelude.{Bool, true, false, Option, Some, None, nat_eq, slice_get, if◌then◌else◌}
use Rattle.op_core.specs.declared.ids.ClassId.{ClassId}
use Rattle.op_core.specs.declared.ids.FieldId.{FieldId}
use Rattle.op_core.specs.declared.program.Core.{Core}
use Rattle.op_core.specs.declared.program.ExceptionClasses.{ExceptionClasses}
use Rattle.op_counts.proofs.NamelessValues.{begins_nameless}
use Rattle.op_counts.proofs.ValueCounts.{sum_none}
use Rattle.op_counts.proofs.Writes.{parts_made}
use Rattle.op_counts.specs.Counting.{count_in, held}
use Rattle.op_meaning.specs.Errors.{class_of_error, raised_as, failed}
use Rattle.op_meaning.specs.Frames.{StateOver, with_world}
use Rattle.op_meaning.specs.Shapes.{field_type, fields_of_class, field_of_class, zero_instance, zero_of}
use Rattle.op_meaning.specs.Values.{Value, text, literal, put}
use Rattle.op_meaning.specs.World.{fields, Live}

-- the instance with its message
message_nameless : (core : Core) (y : ℕ) (c : ClassId) (k : ℕ) (says : List ℕ) → count_in y (put (k ∷ []) (text (literal says)) (zero_instance core c)) ≡ 0
message_nameless core y c k says = sum_none (length (fields_of_class core c)) _ (λ j less. by (nat_eq j k) (zero_of core (field_type (slice_get (fields_of_class core c) j))) (begins_nameless core y (field_type (slice_get (fields_of_class core c) j))))
  where
    by : (b : Bool) (v : Value) → count_in y v ≡ 0 → count_in y (if b then text (literal says) else v) ≡ 0
    by true v none = refl
    by false v none = none

module _ {Work Counts : Type 0} (core : Core) (s : StateOver Work Counts) (y : ℕ) where
  raised_counted : (of : Core) (message : FieldId) (c : ClassId) (says : List ℕ) → held core (with_world (raised_as of message c says s.world) s) y ≡ held core s y
  raised_counted of message c says =
      let new = put (field_of_class of c message ∷ []) (text (literal says)) (zero_instance of c) in
      let more : held core (with_world (raised_as of message c says s.world) s) y ≡ held core s y + count_in y new = parts_made core s y (fields c Live) new refl in
      let none : count_in y new ≡ 0 = message_nameless of y c (field_of_class of c message) says in
      omega arith

  -- An error ends the program or is raised: all holders stay as many.
  pub failed_counted : (n : ℕ) → held core (with_world (failed core n s.world) s) y ≡ held core s y
  failed_counted n = by core.exceptions
    where
      as_class : (x : ExceptionClasses) (e : Option (ClassId × List ℕ)) → class_of_error x n ≡ e → held core (with_world (failed (record core { exceptions = Some x }) n s.world) s) y ≡ held core s y
      as_class x None is = rw is refl
      as_class x (Some (c, says)) is = rw is (raised_counted (record core { exceptions = Some x }) x.message c says)

      by : (o : Option ExceptionClasses) → held core (with_world (failed (record core { exceptions = o }) n s.world) s) y ≡ held core s y
      by None = refl
      by (Some x) = as_class x (class_of_error x n) refl
