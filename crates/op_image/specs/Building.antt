-- What may be built.
use Rattle.std.specs.Prelude.{Bool, ◌&&◌, length, nat_le, nat_lt}
use Rattle.std.specs.List.{list_all}
use Rattle.op_layout.specs.declared.layout.Layout.{Layout}
use Rattle.op_link.specs.Memory.{constants_size, globals_size}
use Rattle.op_low.specs.Valid.{is_valid}
use Rattle.op_low.specs.declared.code.Low.{Low}

-- the layout has all that the code may name, and has it within the constants; its tables hold routines that are there
unfoldable pub is_laid_out : Low → Layout → Bool
is_laid_out low layout =
    nat_le low.counts.literals (length layout.literals)
    && nat_le low.counts.tables (length layout.tables)
    && nat_le low.counts.descriptors (length layout.descriptors)
    && list_all (λ place. nat_le place.offset (constants_size layout)) layout.literals
    && list_all (λ offset. nat_le offset (constants_size layout)) layout.tables
    && list_all (λ offset. nat_le offset (constants_size layout)) layout.descriptors
    && list_all (λ routine. nat_lt routine.0 (length low.routines)) layout.entries

-- the code is valid and laid out, and its globals take at most 15,728,640 bytes
unfoldable pub is_buildable : Low → Layout → Bool
is_buildable low layout = is_valid low && is_laid_out low layout && nat_le (globals_size low.globals) 15728640
