-- Where the low code of a program stands in its image: there is what the optimizer makes of it, and each routine has the frame that it has there.
use Rattle.std.specs.Prelude.{ℕ, ◌+◌, ◌*◌, List}
use Rattle.op_build.specs.Built.{program_layout, program_low}
use Rattle.op_core.specs.declared.program.Core.{Core}
use Rattle.op_heap.specs.Demands.{first_heap}
use Rattle.op_heap.specs.Memory.{control_address}
use Rattle.op_image.specs.Beginning.{begun}
use Rattle.op_image.specs.Meaning.{setting_of}
use Rattle.op_link.specs.declared.memory_map.Settings.{Settings}
use Rattle.op_low.specs.declared.code.Low.{Low}
use Rattle.op_mir.specs.declared.code.Mir.{Mir}
use Rattle.op_rv.specs.State.{word_at}
use Rattle.op_select.specs.Going.{Setting as Placed, placement_of}
use Rattle.op_agreement.specs.Settings.{Setting}

-- the setting of better low code over the image
abbrev pub placed_in : Core → Mir → Settings → (better : Low) → (image : List ℕ) → Placed
placed_in core mir settings better image = setting_of better (program_layout core mir) settings image

-- that of the low code for which it stands, beside managed code, with so many bytes of stack, over this memory, which tells the bytes of
-- the heap that it begins with
abbrev pub setting_by : Core → Mir → (stack : ℕ) → Low → Placed → (memory : ℕ → ℕ) → Setting
setting_by core mir stack low w memory = record {
  core = core;
  mir = mir;
  stack = stack;
  low = low;
  placement = placement_of w;
  bottom = w.bottom;
  top = w.top;
  loaded = memory;
  heap = first_heap (word_at memory (control_address + 8));
  kinds = λ name. 0;
}

abbrev pub setting_in : Core → Mir → Settings → (better : Low) → (image : List ℕ) → Setting
setting_in core mir settings better image = setting_by core mir (1024 * settings.stack) (program_low core mir settings) (placed_in core mir settings better image) (begun settings image)
