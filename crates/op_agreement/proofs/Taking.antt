-- A variable of the routine under way takes a value with parts from an address.
use Rattle.std.proofs.Common.{◌≡◌, ◌≢◌, ◌≤◌, ◌<◌, ◌⊎◌, inl, inr, ℕ, zero, suc, ◌+◌, ◌-◌, List, [], ◌∷◌, ◌++◌, None, refl, sym, ap, ap₂, ◌∙◌, subst, arith, ◌*◌}
use Rattle.std.specs.Prelude.{◌^◌, ◌%◌, pos, Bool, true, false, nat_eq, nat_lt, slice_index, if◌then◌else◌}
use Rattle.std.specs.Int.{bytes_low_first}
use Rattle.std.proofs.lemmas.Bool.{cases_lt}
use Rattle.std.proofs.lemmas.Bool.Decides.{nat_tests}
use Rattle.op_compute.proofs.Registers.{put_lower, put_other, put_same}
use Rattle.op_compute.specs.Bank.{scratch_of}
use Rattle.op_compute.specs.Straight.{at, put}
use Rattle.op_constants.specs.Offsets.{size_in}
use Rattle.op_expand.specs.Calls.{runtime}
use Rattle.op_places.specs.Homes.{home_at, rounded}
use Rattle.op_places.specs.Moves.{taken_code}
use Rattle.op_places.specs.Places.{home_code, home_spot, reach_code, reached, stored_code}
use Rattle.op_places.specs.declared.homes.Home.{Home}
use Rattle.op_places.specs.declared.homes.Home.TheVariants.{Stored}
use Rattle.op_low.specs.Machine.{act}
use Rattle.op_low.specs.State.{Running, State, routine_of}
use Rattle.op_low.specs.declared.ids.VirtualRegister.{VirtualRegister}
use Rattle.op_low.specs.declared.instruction.Call.{Call as Operands}
use Rattle.op_low.specs.declared.instruction.Instruction.{Instruction as LowInstruction}
use Rattle.op_low.specs.declared.instruction.Instruction.TheVariants.{Const, Local as LocalAddress, Store as StoreWord}
use Rattle.op_meaning.specs.Shapes.{type_of_local}
use Rattle.op_mir.specs.declared.ids.LocalId.{LocalId}
use Rattle.op_mir.specs.declared.path.Root.TheVariants.{Local}
use Rattle.op_rt_text.proofs.Contracts.{value_is_taken}
use Rattle.op_rt_text.specs.Names.{call, take_number}
use Rattle.op_rt_text.specs.Running.{Called, Copies, Copyable}
use Rattle.op_rv.proofs.Memory.{with_bytes-below, word_at-stored}
use Rattle.op_rv.specs.State.{with_bytes, word_at}
use Rattle.op_rv.specs.declared.instruction.StoreOp.TheVariants.{Sw}
use Rattle.op_agreement.proofs.Going.{Goes, goes_from, goes_none, goes_one, goes_then, goes_to, standing, goes_within, goes_path}
use Rattle.op_agreement.proofs.WholeWords.{byte_far, byte_small, byte_taken, rounded_some, rounded_within, word_stores}
use Rattle.op_agreement.specs.Chart.{Floor}
use Rattle.op_agreement.specs.Fitting.{IsFitting}
use Rattle.op_agreement.specs.Settings.{Setting, StoredAt}
use Rattle.op_agreement.specs.Stands.{IsFloor}
use Rattle.op_agreement.specs.Typed.{IsVariable}

-- ---- where a variable is stored

-- a variable of the routine under way is stored in its locals
pub record IsStored (g : Setting) (f : Floor) (l : State) (v : LocalId) (offset size : ℕ) : Type 0 where
  pub floor : IsFloor g f
  pub limit : l.limit ≡ f.base + f.frame.locals
  pub words : f.base % 4 ≡ 0
  pub top : l.limit + l.room ≤ g.top
  pub variable : IsVariable g.core f.number v.0 false
  pub home : home_at f.frame.homes v ≡ Stored offset
  pub typed : size ≡ size_in g.core (type_of_local g.core f.number v.0)

-- it lies within them, by whole words
pub record LiesWithin (g : Setting) (f : Floor) (l : State) (offset size : ℕ) : Type 0 where
  pub whole : (f.base + offset) % 4 ≡ 0
  pub within : f.base + offset + size ≤ l.limit
  pub rounded_in : f.base + offset + rounded size ≤ l.limit
  pub high : l.limit ≤ g.top
  pub low : l.limit < 2 ^ 32
  pub inside : offset + size ≤ f.frame.locals

pub stored_within : (g : Setting) → IsFitting g → (f : Floor) (l : State) (v : LocalId) (offset size : ℕ) → IsStored g f l v offset size → LiesWithin g f l offset size
stored_within g fit f l v offset size is =
    let fits = is.floor.fits in
    let inside = fits.within (Local v) offset (is.variable, is.home) in
    let words = fits.words (Local v) offset (is.variable, is.home) in
    let locals = fits.whole in
    let limit = is.limit in
    let base = is.words in
    let same = is.typed in
    let top = is.top in
    let end = fit.placed.top in
    let whole : (f.base + offset) % 4 ≡ 0 = omega arith in
    let within : f.base + offset + size ≤ l.limit = omega arith in
    let limit_whole : l.limit % 4 ≡ 0 = omega arith in
    record { whole = whole; within = within; rounded_in = rounded_within (f.base + offset) l.limit size whole limit_whole within; high = omega arith; low = omega arith; inside = omega arith }

-- ---- what is asked

-- A variable of the routine under way is stored in its locals, and a register has the address of so many bytes that may be read and end
-- below these. The register is not the one that gets the variable's address.
pub record CanTake (g : Setting) (f : Floor) (l : State) (from : VirtualRegister) (v : LocalId) (offset source size : ℕ) : Type 0 where
  pub floor : IsFloor g f
  pub running : l.ending ≡ Running
  pub routine : l.top.routine ≡ runtime + f.number
  pub limit : l.limit ≡ f.base + f.frame.locals
  pub words : f.base % 4 ≡ 0
  pub lowest : g.bottom ≤ f.base
  pub room : 1024 ≤ l.room
  pub top : l.limit + l.room ≤ g.top
  pub bytes : (x : ℕ) → x < l.limit → l.memory x < 2 ^ 8
  pub variable : IsVariable g.core f.number v.0 false
  pub home : home_at f.frame.homes v ≡ Stored offset
  pub typed : size ≡ size_in g.core (type_of_local g.core f.number v.0)
  pub other : from.0 ≢ f.frame.bank.scratch
  pub holds : l.top.registers from.0 ≡ source
  pub readable : (x : ℕ) → source ≤ x → x < source + size → g.placement.rights.readable x ≡ true
  pub below : 0 < size → source + size ≤ f.base

-- what it costs at most to take so many bytes
abbrev pub take_most : ℕ → ℕ
take_most size = 195 + 6 * size

-- Low code has come to the rest. Registers in front of the scratch registers are as they were, but for the one with the address; so is
-- memory below the limit, but for the whole words of the variable, where these bytes stand now.
pub record Taken (g : Setting) (f : Floor) (l : State) (from : VirtualRegister) (rest : List LowInstruction) (a source size : ℕ) : Type 0 where
  pub registers : ℕ → ℕ
  pub memory : ℕ → ℕ
  pub goes : Goes g 0 (take_most size) l (record (at l registers rest) { memory = memory })
  pub kept : (r : ℕ) → r < f.frame.bank.scratch → r ≢ from.0 → registers r ≡ l.top.registers r
  pub others : (x : ℕ) → x < l.limit → (x < a) ⊎ (a + rounded size ≤ x) → memory x ≡ l.memory x
  pub copied : (k : ℕ) → k < size → memory (a + k) ≡ l.memory (source + k)
  pub bytes : (x : ℕ) → x < l.limit → memory x < 2 ^ 8

module _ (g : Setting) (fit : IsFitting g) (f : Floor) (l : State) (from : VirtualRegister) (v : LocalId) (offset source size : ℕ) (can : CanTake g f l from v offset source size) (rest : List LowInstruction) where
  abbrev to : VirtualRegister
  to = scratch_of f.frame.bank 0

  abbrev a : ℕ
  a = f.base + offset

  abbrev operands : Operands
  operands = record { arguments = to ∷ from ∷ []; to = from; landing = None }

  abbrev taking : LowInstruction
  taking = call take_number (to ∷ from ∷ []) from

  -- the variable lies within the locals, by whole words
  lies_within : LiesWithin g f l offset size
  lies_within = stored_within g fit f l v offset size (record { floor = can.floor; limit = can.limit; words = can.words; top = can.top; variable = can.variable; home = can.home; typed = can.typed })

  -- ---- the code

  -- by whether there are bytes, and by the home of the variable, which is stored in front of the end of the locals
  abbrev code_by : Bool → Home → List LowInstruction
  code_by none home =
      if none then []
      else (home_code f.frame to home ++ [] ++ reach_code 0 (home_spot to home)) ++ StoreWord Sw from (reached 0 (home_spot to home)).base (pos 0) ∷ Const from size ∷ call take_number ((reached 0 (home_spot to home)).base ∷ from ∷ []) from ∷ []

  abbrev place_taken : Bool → List LowInstruction
  place_taken inside = if inside then LocalAddress to offset ∷ [] else Const to 0 ∷ []

  -- what is left of it, step by step
  abbrev at_call : List LowInstruction
  at_call = taking ∷ rest

  abbrev at_size : List LowInstruction
  at_size = Const from size ∷ at_call

  abbrev at_word : List LowInstruction
  at_word = StoreWord Sw from to (pos 0) ∷ at_size

  abbrev at_place : List LowInstruction
  at_place = LocalAddress to offset ∷ at_word

  -- ---- some bytes

  module _ (some : 0 < size) where
    within_here : LiesWithin g f l offset size
    within_here = lies_within

    -- with some bytes the code is this
    code_is : taken_code g.core f.frame from size v ++ rest ≡ at_place
    unfolding taken_code
    code_is =
        let inside = within_here.inside in
        let more : nat_eq size 0 ≡ false = grind (arith, nat_tests) in
        let less : nat_lt offset f.frame.locals ≡ true = grind (arith, nat_tests) in
        let reach : reach_code 0 (home_spot to (Stored offset)) ≡ [] = refl in
        let base : (reached 0 (home_spot to (Stored offset))).base ≡ to = refl in
        let behind = λ (r : VirtualRegister). StoreWord Sw from r (pos 0) ∷ Const from size ∷ call take_number (r ∷ from ∷ []) from ∷ [] in
        ap (λ b. code_by b (home_at f.frame.homes v) ++ rest) more
        ∙ ap (λ h. code_by false h ++ rest) can.home
        ∙ ap₂ (λ c r. ((stored_code f.frame to offset ++ [] ++ c) ++ behind r) ++ rest) reach base
        ∙ ap (λ b. ((place_taken b ++ [] ++ []) ++ behind to) ++ rest) less

    -- the registers and the memory on the way
    abbrev placed : ℕ → ℕ
    placed = put l.top.registers to a

    abbrev sized : ℕ → ℕ
    sized = put placed from size

    abbrev worded : ℕ → ℕ
    worded = with_bytes l.memory a (bytes_low_first 0 4 source)

    abbrev there : State
    there = record l { memory = worded }

    -- the address of the variable
    address_goes : Goes g 1 1 (at l l.top.registers at_place) (at l placed at_word)
    unfolding act put
    address_goes =
        let limit = can.limit in
        let is : (routine_of g.low l.top.routine).locals ≡ f.frame.locals = ap (λ r. (routine_of g.low r).locals) can.routine ∙ can.floor.expanded.locals in
        let at_ : l.limit - (routine_of g.low l.top.routine).locals + offset ≡ a = omega arith in
        goes_to g 1 (at l l.top.registers at_place) (at l (put l.top.registers to (l.limit - (routine_of g.low l.top.routine).locals + offset)) at_word) (at l placed at_word)
        (ap (λ x. at l (put l.top.registers to x) at_word) at_)
        (goes_one g l l.top.registers (LocalAddress to offset) at_word refl)

    -- the register still has the address of the bytes
    from_placed : placed from.0 ≡ source
    from_placed = put_other l.top.registers to a from.0 (let other = can.other in λ same. other (omega arith)) ∙ can.holds

    -- that is stored where they are to go
    word_goes : Goes g 1 1 (at l placed at_word) (at there placed at_size)
    word_goes =
        let is = within_here in
        let words = is.whole in
        let inside = is.rounded_in in
        let low = is.low in
        let high = is.high in
        let lowest = can.lowest in
        let (least, more) = rounded_some size some in
        word_stores g l placed from to 0 a source at_size (let same = put_same l.top.registers to a in omega arith) from_placed words (omega arith) (omega arith)
        (λ x up down. fit.placed.writable x (omega arith) (omega arith))

    -- and how many they are
    size_goes : Goes g 1 1 (at there placed at_size) (at there sized at_call)
    unfolding act put
    size_goes = goes_one g there placed (Const from size) at_call refl

    -- ---- the call

    -- the address is where it was stored
    word_is : word_at worded a ≡ source
    word_is =
        let is = within_here in
        let low = is.low in
        let below = can.below some in
        let inside = is.within in
        word_at-stored l.memory a source (omega arith)

    -- memory in front of the variable is as it was
    before : (x : ℕ) → x < a → worded x ≡ l.memory x
    before x less = with_bytes-below l.memory a (bytes_low_first 0 4 source) x less

    -- the run-time routine is called as it asks
    called : Called g.low g.placement (at there sized at_call) take_number (a ∷ size ∷ []) operands rest
    called =
        let is = within_here in
        let inside = is.within in
        let low = is.low in
        let high = is.high in
        let lowest = can.lowest in
        let room = can.room in
        let top = can.top in
        let end = fit.placed.top in
        let limit = can.limit in
        let other = can.other in
        record {
          runtime = fit.placed.runtime;
          running = refl;
          next = refl;
          passed = ap₂ (λ x y. x ∷ y ∷ []) (put_other placed from size to.0 (λ same. other (omega arith)) ∙ put_same l.top.registers to a) (put_same placed from size);
          words = words (omega arith) (omega arith);
          room = record {
            room = omega arith;
            words = omega arith;
            readable = λ x up down. fit.placed.readable x (omega arith) (omega arith);
            writable = λ x up down. fit.placed.writable x (omega arith) (omega arith);
          };
        }
      where
        words : a < 2 ^ 32 → size < 2 ^ 32 → (k : ℕ) → slice_index (a ∷ size ∷ []) k < 2 ^ 32
        words p q zero = p
        words p q (suc zero) = q
        words p q (suc (suc k)) = omega arith

    -- the bytes may be copied
    copyable : Copyable g.placement (at there sized at_call) a source size
    copyable =
        let is = within_here in
        let inside = is.within in
        let high = is.high in
        let lowest = can.lowest in
        let below = can.below some in
        record {
          target = record { may = λ x up down. fit.placed.writable x (omega arith) (omega arith); below = inside };
          source = record { may = can.readable; below = omega arith };
          bytes = λ x up down. subst (λ b. b < 2 ^ 8) (sym (before x (omega arith))) (can.bytes x (omega arith));
          apart = inl (omega arith);
        }

    -- and are
    copies : Copies g.low g.placement (at there sized at_call) operands rest a source size
    copies =
        let is = within_here in
        let inside = is.rounded_in in
        let high = is.high in
        let lowest = can.lowest in
        let (least, more) = rounded_some size some in
        subst (λ s. Copies g.low g.placement (at there sized at_call) operands rest a s size) word_is
        (value_is_taken g.low g.placement (at there sized at_call) operands rest a size
        (subst (λ s. Copyable g.placement (at there sized at_call) a s size) (sym word_is) copyable)
        is.whole (record { may = λ x up down. fit.placed.readable x (omega arith) (omega arith); below = omega arith }) called)

    -- so the variable has them
    taken_some : l.top.now ≡ taken_code g.core f.frame from size v ++ rest → Taken g f l from rest a source size
    unfolding put
    taken_some now =
        let c = copies in
        let registers = put sized from c.value in
        let end : State = record (at l registers rest) { memory = c.memory } in
        let is = within_here in
        let inside = is.within in
        let lowest = can.below some in
        let below : source + size ≤ a = omega arith in
        record {
          registers = registers;
          memory = c.memory;
          goes = goes_within g 0 (take_most size) l end (goes_from g 0 l (at l l.top.registers at_place) end (standing g l at_place can.running (now ∙ code_is))
              (goes_then g 1 2 0 (at l l.top.registers at_place) (at l placed at_word) end (omega arith) address_goes
              (goes_then g 1 1 2 (at l placed at_word) (at there placed at_size) end (omega arith) word_goes
              (goes_then g 1 0 1 (at there placed at_size) (at there sized at_call) end (omega arith) size_goes
              (goes_path g c.steps 0 (192 + 6 * size) (at there sized at_call) end (omega arith) c.path refl))))) (omega arith);
          kept = λ r low other. put_other sized from c.value r other ∙ put_other placed from size r other ∙ put_lower l.top.registers to a r (omega arith);
          others = byte_far l.memory c.memory a source size l.limit some below inside can.bytes c.copied;
          copied = byte_taken l.memory c.memory a source size l.limit some below inside can.bytes c.copied;
          bytes = byte_small l.memory c.memory a source size l.limit some below inside can.bytes c.copied;
        }

  -- what has no bytes takes none
  taken_none : size ≡ 0 → l.top.now ≡ taken_code g.core f.frame from size v ++ rest → Taken g f l from rest a source size
  unfolding taken_code
  taken_none none now =
      let test : nat_eq size 0 ≡ true = ap (λ n. nat_eq n 0) none in
      let is : taken_code g.core f.frame from size v ++ rest ≡ rest = ap (λ b. code_by b (home_at f.frame.homes v) ++ rest) test in
      record {
        registers = l.top.registers;
        memory = l.memory;
        goes = goes_within g 0 (take_most size) l (at l l.top.registers rest) (goes_to g 0 l l (at l l.top.registers rest) (standing g l rest can.running (now ∙ is)) (goes_none g l)) (omega arith);
        kept = λ r low other. refl;
        others = λ x low far. refl;
        copied = λ k low. absurd (omega arith);
        bytes = can.bytes;
      }

  -- a variable takes so many bytes
  pub taken_goes : l.top.now ≡ taken_code g.core f.frame from size v ++ rest → Taken g f l from rest a source size
  taken_goes now = by (cases_lt 0 size)
    where
      by : (0 < size) ⊎ (size ≤ 0) → Taken g f l from rest a source size
      by (inl some) = taken_some some now
      by (inr none) = taken_none (omega arith) now
