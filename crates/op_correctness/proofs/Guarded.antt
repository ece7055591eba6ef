-- What the agreement asks of where a program is placed holds as well where the control region and the heap could not be written.
use Rattle.std.proofs.Common.{◌≡◌, ◌≤◌, ◌<◌, ℕ, ◌+◌, ◌*◌, Bool, true, false, not, ◌&&◌, ◌||◌, nat_le, nat_lt, inr, refl, ap, ap₂, arith}
use Rattle.std.proofs.lemmas.Bool.{and_from}
use Rattle.std.proofs.lemmas.Bool.Decides.{nat_tests}
use Rattle.op_core.specs.declared.program.Core.{Core}
use Rattle.op_image.proofs.Guarding.{stack_apart}
use Rattle.op_image.specs.Means.{guarded, is_of_heap}
use Rattle.op_link.specs.Memory.{control_address, heap_address, heap_size}
use Rattle.op_link.specs.declared.memory_map.Settings.{Settings}
use Rattle.op_low.specs.declared.code.Low.{Low}
use Rattle.op_mir.specs.declared.code.Mir.{Mir}
use Rattle.op_select.specs.Going.{IsSetting, Setting as Placed}
use Rattle.op_agreement.specs.Fitting.{HeapIsPlaced, IsOwned, IsPlacedProgram, global_address, global_size}
use Rattle.op_agreement.specs.Settings.{Setting, due_address}
use Rattle.op_agreement.specs.Starting.{IsLoaded}
use Rattle.op_agreement.specs.Typed.{IsGlobal}
use Rattle.op_correctness.specs.Placed.{setting_by}

-- the global variables and the word of the stack lie in front of the control region
pub record LiesInFront (g : Setting) : Type 0 where
  pub globals : (v : ℕ) → IsGlobal g.core v → global_address g v + global_size g v ≤ control_address
  pub due : due_address g + 4 ≤ control_address

-- so the bytes of the control region and of the heap are the heap's own
pub heap_placed : (g : Setting) (bytes : ℕ) → LiesInFront g → g.heap.bytes ≡ bytes → heap_address + bytes ≤ g.bottom → HeapIsPlaced g
heap_placed g bytes front is below =
    record {
      control = λ x from before. owned x from (omega arith);
      heap = λ x from before. owned x (omega arith) (omega arith);
    }
  where
    owned : (x : ℕ) → control_address ≤ x → x < g.bottom → IsOwned g x
    owned x from before =
        record {
          below = before;
          globals = λ v global. let front_global = front.globals v global in inr (omega arith);
          due = (let front_due = front.due in inr (omega arith));
        }

module _ (core : Core) (mir : Mir) (stack : ℕ) (low : Low) (w : Placed) (law : IsSetting w) (memory : ℕ → ℕ) (settings : Settings) (below : heap_address + heap_size settings ≤ w.bottom) (front : LiesInFront (setting_by core mir stack low w memory)) where
  abbrev g : Setting
  g = setting_by core mir stack low w memory

  abbrev v : Placed
  v = guarded w settings

  early : (x : ℕ) → x < control_address → is_of_heap settings x ≡ false
  early x before =
      let control : nat_le control_address x ≡ false = grind (arith, nat_tests) in
      let heap : nat_le heap_address x ≡ false = grind (arith, nat_tests) in
      ap₂ (λ a b. (a && nat_lt x (control_address + 524312)) || (b && nat_lt x (heap_address + heap_size settings))) control heap

  may_write : (x : ℕ) → w.rights.writable x ≡ true → is_of_heap settings x ≡ false → v.rights.writable x ≡ true
  may_write x may apart = and_from (w.rights.writable x) (not (is_of_heap settings x)) may (ap not apart)

  pub still_placed : IsPlacedProgram (setting_by core mir stack low w memory) → IsPlacedProgram (setting_by core mir stack low (guarded w settings) memory)
  still_placed is =
      record {
        runtime = record { others = is.runtime.others; routines = is.runtime.routines; frames = is.runtime.frames };
        words = is.words;
        literals = λ id bytes there.
            let text = is.literals id bytes there in
            record { readable = text.readable; fixed = λ x from before. ap (λ b. b && not (is_of_heap settings x)) (text.fixed x from before); below = text.below; stands = text.stands };
        globals = λ u global.
            let stands = is.globals u global in
            let before_control = front.globals u global in
            record { type = stands.type; aligned = stands.aligned; readable = stands.readable; writable = λ x from before. may_write x (stands.writable x from before) (early x (omega arith)); below = stands.below };
        apart = is.apart;
        due =
            (let due = is.due in
            let before_control = front.due in
            record { words = due.words; readable = due.readable; writable = λ x from before. may_write x (due.writable x from before) (early x (omega arith)); below = due.below; apart = due.apart });
        heap =
            record {
              control = λ x from before. let owned = is.heap.control x from before in record { below = owned.below; globals = owned.globals; due = owned.due };
              heap = λ x from before. let owned = is.heap.heap x from before in record { below = owned.below; globals = owned.globals; due = owned.due };
            };
        whole = is.whole;
        top = is.top;
        readable = is.readable;
        writable = λ x from before. may_write x (is.writable x from before) (stack_apart w law settings below x from);
      }

  pub still_loaded : IsLoaded (setting_by core mir stack low w memory) → IsLoaded (setting_by core mir stack low (guarded w settings) memory)
  still_loaded is =
      record {
        entry = is.entry;
        zeros = is.zeros;
        values = is.values;
        bytes = is.bytes;
        heap = record { lies = is.heap.lies; table = is.heap.table };
        stack_whole = is.stack_whole;
        stack_readable = is.stack_readable;
        stack_below = is.stack_below;
        stack_told = is.stack_told;
        room = is.room;
        blocks = is.blocks;
        charge = is.charge;
        pending = is.pending;
      }
