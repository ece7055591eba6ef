-- Virtual registers in their homes: what fetching and keeping them does, and what stays.
use Rattle.std.proofs.Common.{◌≡◌, ◌≢◌, ℕ, zero, suc, ◌+◌, ◌-◌, ◌*◌, ◌%◌, ◌^◌, ◌<◌, ◌≤◌, ◌⊎◌, inl, inr, Bool, true, false, cond, nat_eq, nat_le, nat_lt, pos, List, [], ◌∷◌, ◌++◌, length, get_or, slice_get, refl, ap, sym, subst, ◌∙◌, arith}
use Rattle.std.proofs.lemmas.Bool.{cases_lt, cond-false, cond-true, ltb-false, ltb-true}
use Rattle.std.proofs.lemmas.Bool.Decides.{nat_tests}
use Rattle.std.specs.Cmp.{first_so, second_so}
use Rattle.std.specs.Int.{bytes_low_first}
use Rattle.std.specs.List.{list_all}
use Rattle.op_low.specs.State.{Caller, State as LowState, routine_of, routine_or, keep as with_kept, value}
use Rattle.op_low.specs.Valid.{is_sized, is_valid, is_valid_routine, most_locals, most_registers}
use Rattle.op_low.specs.declared.code.Low.{Low}
use Rattle.op_low.specs.declared.code.Routine.{Routine}
use Rattle.op_low.specs.declared.ids.VirtualRegister.{VirtualRegister}
use Rattle.op_rv.proofs.Memory.{four-bounded, with_bytes-above, with_bytes-below, with_bytes-bounded, with_bytes-outside, word_at-same, word_at-stored}
use Rattle.op_rv.specs.Decoding.{instr_at}
use Rattle.op_rv.specs.State.{State, with_bytes, word_at}
use Rattle.op_rv.specs.declared.instruction.ImmOp.TheVariants.{Addi}
use Rattle.op_rv.specs.declared.instruction.Instr.TheVariants.{Imm}
use Rattle.op_rv.specs.declared.objects.Item.TheVariants.{Plain}
use Rattle.op_select.specs.Frames.{frame_of, bring, brought, fetch, home, keep, load_home, operand, put, put_away, register_of, store_home}
use Rattle.op_select.specs.Going.{Setting, IsSetting, routine_in, locals_in, frame_in, Sound, place_of, homes_in, held, Holds, restored, Below, Stays}
use Rattle.op_select.specs.Placing.{Stands, StandsFrom}
use Rattle.op_select.specs.Selection.{answered, code_items}
use Rattle.op_select.specs.Sequences.{word_load, word_store}
use Rattle.op_select.specs.declared.frame.Home.TheVariants.{Frame, Register}
use Rattle.op_select.proofs.SequenceLemmas.{loads, moves, stores}
use Rattle.op_select.proofs.Walks.{Walk, walk_none, walk_join, walk_weaken, placed, sound_placed, Becomes, nothing_more}

-- ---- sizes

pub record Sizes (routine : Routine) : Type 0 where
  pub parameters : routine.parameters ≤ routine.registers
  pub registers : routine.registers ≤ most_registers
  pub locals : routine.locals ≤ most_locals
  pub locals_aligned : routine.locals % 4 ≡ 0

sizes_of : (routine : Routine) → is_sized routine ≡ true → Sizes routine
unfolding is_sized
sizes_of routine is =
    let four = first_so _ _ is in
    let three = first_so _ _ four in
    let two = first_so _ _ three in
    let a : nat_le routine.parameters routine.registers ≡ true = first_so _ _ two in
    let b : nat_le routine.registers most_registers ≡ true = second_so _ _ two in
    let c : nat_le routine.locals most_locals ≡ true = second_so _ _ three in
    let d : nat_eq (routine.locals % 4) 0 ≡ true = second_so _ _ four in
    record {
      parameters = grind (arith, nat_tests);
      registers = grind (arith, nat_tests);
      locals = grind (arith, nat_tests);
      locals_aligned = grind (arith, nat_tests);
    }

sizes_in : (low : Low) (routines : List Routine) (r : ℕ) → list_all (is_valid_routine low) routines ≡ true → Sizes (routine_or (slice_get routines r))
unfolding is_valid_routine
sizes_in low [] r all = record { parameters = omega arith; registers = omega arith; locals = omega arith; locals_aligned = refl }
sizes_in low (x ∷ xs) zero all = sizes_of x (first_so _ _ (first_so _ _ all))
sizes_in low (x ∷ xs) (suc r) all = sizes_in low xs r (second_so _ _ all)

pub sizes : (low : Low) (r : ℕ) → is_valid low ≡ true → Sizes (routine_of low r)
unfolding is_valid
sizes low r valid = sizes_in low low.routines r (second_so _ _ valid)

-- ---- memory

true≢false : {b : Bool} → b ≡ true → b ≡ false → ⊥
true≢false yes_ no_ = absurd (let e : true ≡ false = sym yes_ ∙ no_ in cc)

other_home : (memory : ℕ → ℕ) (routine : Routine) (sp to r v : ℕ) → to < routine.registers → r < routine.registers → (r < to) ⊎ (to < r) → word_at (with_bytes memory (place_of routine sp to) (bytes_low_first 0 4 v)) (place_of routine sp r) ≡ word_at memory (place_of routine sp r)
other_home memory routine sp to r v to_in r_in (inl lower) =
    word_at-same memory _ (place_of routine sp r) (λ x from before. with_bytes-outside memory (place_of routine sp to) (bytes_low_first 0 4 v) x (λ above under. absurd (omega arith)))
other_home memory routine sp to r v to_in r_in (inr upper) =
    word_at-same memory _ (place_of routine sp r) (λ x from before. with_bytes-outside memory (place_of routine sp to) (bytes_low_first 0 4 v) x (λ above under. absurd (omega arith)))

-- one home in the frame has become a value
pub stored_home : (memory : ℕ → ℕ) (routine : Routine) (sp to r v old : ℕ) → to < routine.registers → r < routine.registers → v < 2 ^ 32 → word_at memory (place_of routine sp r) ≡ old → word_at (with_bytes memory (place_of routine sp to) (bytes_low_first 0 4 v)) (place_of routine sp r) ≡ cond (nat_eq r to) v old
stored_home memory routine sp to r v old to_in r_in fits had =
    let same : (r < to) ⊎ (to < r) → nat_eq r to ≡ false → word_at (with_bytes memory (place_of routine sp to) (bytes_low_first 0 4 v)) (place_of routine sp r) ≡ cond (nat_eq r to) v old = λ apart test. other_home memory routine sp to r v to_in r_in apart ∙ had ∙ sym (cond-false (nat_eq r to) v old test) in
    elim (cases_lt r to) [
      | inl lower ↦ same (inl lower) (grind (arith, nat_tests))
      | inr upper ↦
          elim (cases_lt to r) [
            | inl higher ↦ same (inr higher) (grind (arith, nat_tests))
            | inr equal ↦
                let is : r ≡ to = omega arith in
                let test : nat_eq r to ≡ true = grind (arith, nat_tests) in
                ap (λ k. word_at (with_bytes memory (place_of routine sp to) (bytes_low_first 0 4 v)) (place_of routine sp k)) is ∙ word_at-stored memory (place_of routine sp to) v fits ∙ sym (cond-true (nat_eq r to) v old test)
          ]
    ]

-- ---- homes

pub held_register : (memory homes : ℕ → ℕ) (routine : Routine) (sp r : ℕ) → r < 14 → held memory homes routine sp r ≡ homes r
held_register memory homes routine sp r less =
    let test : nat_lt r 14 ≡ true = grind (arith, nat_tests) in
    cond-true (nat_lt r 14) (homes r) (word_at memory (place_of routine sp r)) test

pub held_frame : (memory homes : ℕ → ℕ) (routine : Routine) (sp r : ℕ) → 14 ≤ r → held memory homes routine sp r ≡ word_at memory (place_of routine sp r)
held_frame memory homes routine sp r over =
    let test : nat_lt r 14 ≡ false = grind (arith, nat_tests) in
    cond-false (nat_lt r 14) (homes r) (word_at memory (place_of routine sp r)) test

-- what is kept in the frame, and the homes that are words, are the same
pub holds_same : (memory other homes others : ℕ → ℕ) (sp : ℕ) (routine : Routine) (registers : ℕ → ℕ) → ((x : ℕ) → sp ≤ x → x < sp + 4 * (routine.registers - 14) → other x ≡ memory x) → ((k : ℕ) → k < 14 → k < routine.registers → homes k < 2 ^ 32 → others k ≡ homes k) → Holds memory homes sp routine registers → Holds other others sp routine registers
holds_same memory other homes others sp routine registers same kept holds r within =
    let old = holds r within in
    elim (cases_lt r 14) [
      | inl less ↦
          let is : homes r ≡ registers r = sym (held_register memory homes routine sp r less) ∙ old.0 in
          let word = subst (λ n. n < 2 ^ 32) (sym is) old.1 in
          (held_register other others routine sp r less ∙ kept r less within word ∙ is, old.1)
      | inr over ↦
          let words = word_at-same memory other (place_of routine sp r) (λ x from before. same x (omega arith) (omega arith)) in
          (held_frame other others routine sp r over ∙ words ∙ sym (held_frame memory homes routine sp r over) ∙ old.0, old.1)
    ]

pub restored_saved : (routine : Routine) (memory : ℕ → ℕ) (sp : ℕ) (homes : ℕ → ℕ) (k : ℕ) → k < routine.registers → restored routine memory sp homes k ≡ word_at memory (place_of routine sp k)
unfolding restored
restored_saved routine memory sp homes k less =
    let test : nat_lt k routine.registers ≡ true = grind (arith, nat_tests) in
    cond-true (nat_lt k routine.registers) (word_at memory (place_of routine sp k)) (homes k) test

pub restored_kept : (routine : Routine) (memory : ℕ → ℕ) (sp : ℕ) (homes : ℕ → ℕ) (k : ℕ) → routine.registers ≤ k → restored routine memory sp homes k ≡ homes k
unfolding restored
restored_kept routine memory sp homes k over =
    let test : nat_lt k routine.registers ≡ false = grind (arith, nat_tests) in
    cond-false (nat_lt k routine.registers) (word_at memory (place_of routine sp k)) (homes k) test

restored_same : (routine : Routine) (memory other homes others : ℕ → ℕ) (sp k : ℕ) → ((x : ℕ) → sp + 4 * (routine.registers - 14) ≤ x → other x ≡ memory x) → k < 14 → (routine.registers ≤ k → homes k < 2 ^ 32 → others k ≡ homes k) → restored routine memory sp homes k < 2 ^ 32 → restored routine other sp others k ≡ restored routine memory sp homes k
restored_same routine memory other homes others sp k same few kept word =
    elim (cases_lt k routine.registers) [
      | inl less ↦
          let words = word_at-same memory other (place_of routine sp k) (λ x from before. same x (omega arith)) in
          restored_saved routine other sp others k less ∙ words ∙ sym (restored_saved routine memory sp homes k less)
      | inr over ↦
          let is = restored_kept routine memory sp homes k over in
          restored_kept routine other sp others k over ∙ kept over (subst (λ n. n < 2 ^ 32) is word) ∙ sym is
    ]

-- ---- frames of callers

-- what the frame saves and all above it, and the homes that it does not save, are the same
pub below_same : (w : Setting) (memory other homes others : ℕ → ℕ) (r limit sp : ℕ) (cs : List Caller) → ((x : ℕ) → sp + 4 * ((routine_in w r).registers - 14) ≤ x → other x ≡ memory x) → ((k : ℕ) → k < 14 → (routine_in w r).registers ≤ k → homes k < 2 ^ 32 → others k ≡ homes k) → Below w memory homes r limit sp cs → Below w other others r limit sp cs
unfolding Below frame_of
below_same w memory other homes others r limit sp [] same kept below = below
below_same w memory other homes others r limit sp (c ∷ cs) same kept below =
    let waits = below.1 in
    let old = restored (routine_in w r) memory sp homes in
    let new = restored (routine_in w r) other sp others in
    let pointwise : (k : ℕ) → k < 14 → old k < 2 ^ 32 → new k ≡ old k = λ k few word. restored_same (routine_in w r) memory other homes others sp k same few (kept k few) word in
    let ra = word_at-same memory other (sp + frame_in w r - 4) (λ x from before. same x (omega arith)) in (
      below.0,
      record {
        exists = waits.exists;
        keeps = waits.keeps;
        back = subst (λ a. StandsFrom w.placing c.activation.routine a (answered (routine_in w c.activation.routine) c.to c.landing ++ code_items (routine_in w c.activation.routine) c.activation.now)) (sym ra) waits.back;
        holds = holds_same memory other old new (sp + frame_in w r) (routine_in w c.activation.routine) c.activation.registers (λ x from before. same x (omega arith)) (λ k few within word. pointwise k few word) waits.holds;
      },
      below_same w memory other old new c.activation.routine (limit - locals_in w r) (sp + frame_in w r) cs (λ x from. same x (omega arith)) (λ k few over word. pointwise k few word) below.2,
    )

-- the frames end at the top of the stack
pub below_top : (w : Setting) (memory homes : ℕ → ℕ) (r limit sp : ℕ) (cs : List Caller) → Below w memory homes r limit sp cs → sp + frame_in w r ≤ w.top
unfolding Below
below_top w memory homes r limit sp [] below =
    let e = below.1 in
    omega arith
below_top w memory homes r limit sp (c ∷ cs) below =
    let more = below_top w memory (restored (routine_in w r) memory sp homes) c.activation.routine (limit - locals_in w r) (sp + frame_in w r) cs below.2 in
    omega arith

-- and the locals lie above its bottom
pub below_bottom : (w : Setting) (memory homes : ℕ → ℕ) (r limit sp : ℕ) (cs : List Caller) → Below w memory homes r limit sp cs → w.bottom + locals_in w r ≤ limit
unfolding Below
below_bottom w memory homes r limit sp [] below =
    let e = below.0 in
    omega arith
below_bottom w memory homes r limit sp (c ∷ cs) below = below.0

module _ (w : Setting) (law : IsSetting w) where
  -- what is stored where low code's stack lies leaves the code alone
  pub sound_stored : (b : State) (registers : List ℕ) (at a : ℕ) (bytes : List ℕ) → Sound w b → length registers ≡ 32 → ((k : ℕ) → get_or bytes k 0 < 2 ^ 8) → ((x : ℕ) → a ≤ x → x < a + length bytes → w.rights.writable x ≡ true) → Sound w (record (placed b registers at) { memory = with_bytes b.memory a bytes })
  sound_stored b registers at a bytes sound size small writable =
      record {
        running = sound.running;
        rights = sound.rights;
        size = size;
        bytes = with_bytes-bounded b.memory a bytes sound.bytes small;
        code = λ place i stands.
            let same = word_at-same b.memory (with_bytes b.memory a bytes) place (λ x from before. with_bytes-outside b.memory a bytes x (λ lower upper. true≢false (writable x lower upper) (law.fixed place i stands x from before))) in
            ap instr_at same ∙ sound.code place i stands;
      }

  pub stays_placed : (m : LowState) (b : State) (registers : List ℕ) (at : ℕ) → Stays w m b → length registers ≡ 32 → get_or registers 2 0 ≡ get_or b.registers 2 0 → get_or registers 8 0 ≡ get_or b.registers 8 0 → ((k : ℕ) → get_or registers (18 + k) 0 ≡ get_or b.registers (18 + k) 0) → Stays w m (placed b registers at)
  stays_placed m b registers at stays size sp limit homes =
      record {
        sound = sound_placed w law b registers at stays.sound size;
        memory = stays.memory;
        input = stays.input;
        input_bytes = stays.input_bytes;
        output = stays.output;
        errors = stays.errors;
        limit = limit ∙ stays.limit;
        sp = sp ∙ stays.sp;
        limit_aligned = stays.limit_aligned;
        sp_aligned = stays.sp_aligned;
        holds = holds_same b.memory b.memory (homes_in b) (homes_in (placed b registers at)) (m.limit + m.room) (routine_in w m.top.routine) m.top.registers (λ x from before. refl) (λ k few within word. homes k) stays.holds;
        below = below_same w b.memory b.memory (homes_in b) (homes_in (placed b registers at)) m.top.routine m.limit (m.limit + m.room) m.callers (λ x from. refl) (λ k few over word. homes k) stays.below;
      }

  -- ---- the home of a register

  record Homes (m : LowState) (r : ℕ) : Type 0 where
    fits : 4 * ((routine_in w m.top.routine).registers - 1 - r) < 2 ^ 32
    address : (m.limit + m.room + 4 * ((routine_in w m.top.routine).registers - 1 - r)) % 2 ^ 32 ≡ place_of (routine_in w m.top.routine) (m.limit + m.room) r
    aligned : place_of (routine_in w m.top.routine) (m.limit + m.room) r % 4 ≡ 0
    from : w.bottom ≤ place_of (routine_in w m.top.routine) (m.limit + m.room) r
    before : place_of (routine_in w m.top.routine) (m.limit + m.room) r + 8 ≤ m.limit + m.room + frame_in w m.top.routine
    within : place_of (routine_in w m.top.routine) (m.limit + m.room) r + 4 ≤ w.top
    unsaved : 14 ≤ r → place_of (routine_in w m.top.routine) (m.limit + m.room) r + 4 ≤ m.limit + m.room + 4 * ((routine_in w m.top.routine).registers - 14)

  homes : (m : LowState) (b : State) (r : ℕ) → Stays w m b → r < (routine_in w m.top.routine).registers → Homes m r
  unfolding frame_of
  homes m b r stays within =
      let size = sizes w.low m.top.routine law.valid in
      let few = size.registers in
      let top = below_top w b.memory (homes_in b) m.top.routine m.limit (m.limit + m.room) m.callers stays.below in
      let bottom = below_bottom w b.memory (homes_in b) m.top.routine m.limit (m.limit + m.room) m.callers stays.below in
      let low = law.low_top in
      let whole = stays.sp_aligned in
      record {
        fits = omega arith;
        address = omega arith;
        aligned = omega arith;
        from = omega arith;
        before = omega arith;
        within = omega arith;
        unsaved = λ over. omega arith;
      }

  pub value-bounded : (m : LowState) (b : State) (r : VirtualRegister) → Stays w m b → r.0 < (routine_in w m.top.routine).registers → value m r < 2 ^ 32
  value-bounded m b r stays within = (stays.holds r.0 within).1

  register_holds : (m : LowState) (b : State) (r : VirtualRegister) → Stays w m b → r.0 < (routine_in w m.top.routine).registers → r.0 < 14 → get_or b.registers (18 + r.0) 0 ≡ value m r
  register_holds m b r stays within less =
      sym (held_register b.memory (homes_in b) (routine_in w m.top.routine) (m.limit + m.room) r.0 less) ∙ (stays.holds r.0 within).0

  frame_holds : (m : LowState) (b : State) (r : VirtualRegister) → Stays w m b → r.0 < (routine_in w m.top.routine).registers → 14 ≤ r.0 → word_at b.memory (place_of (routine_in w m.top.routine) (m.limit + m.room) r.0) ≡ value m r
  frame_holds m b r stays within over =
      sym (held_frame b.memory (homes_in b) (routine_in w m.top.routine) (m.limit + m.room) r.0 over) ∙ (stays.holds r.0 within).0

  -- a word of the frame in a register
  loads_home : (m : LowState) (b : State) (to : ℕ) (r : VirtualRegister) (at : ℕ) → Stays w m b → r.0 < (routine_in w m.top.routine).registers → 14 ≤ r.0 → to ≢ 0 → to < 32 → to ≢ 2 → Stands w.placing m.top.routine b.pc (word_load to 2 to (4 * ((routine_in w m.top.routine).registers - 1 - r.0))) at → Becomes b to to (value m r) at 1 3
  loads_home m b to r at stays within over some small apart stands =
      let h = homes m b r.0 stays within in
      let routine = routine_in w m.top.routine in
      let a = place_of routine (m.limit + m.room) r.0 in
      let top = h.within in
      let bottom = h.from in
      let place = ap (λ n. (n + 4 * (routine.registers - 1 - r.0)) % 2 ^ 32) stays.sp ∙ h.address in
      let loaded = loads w law b m.top.routine to 2 to (4 * (routine.registers - 1 - r.0)) at a stays.sound some small (omega arith) some small apart h.fits place h.aligned (λ x from before. law.readable x (omega arith) (omega arith)) stands in
      record {
        registers = loaded.registers;
        size = loaded.size;
        value_is = loaded.value_is ∙ frame_holds m b r stays within over;
        others = loaded.others;
        walk = loaded.walk;
      }

  -- a home in a register
  moves_home : (m : LowState) (b : State) (to : ℕ) (r : VirtualRegister) (at : ℕ) → Stays w m b → r.0 < (routine_in w m.top.routine).registers → r.0 < 14 → to ≢ 0 → to < 32 → Stands w.placing m.top.routine b.pc (Plain (Imm Addi to (18 + r.0) (pos 0)) ∷ []) at → Becomes b to to (value m r) at 1 3
  moves_home m b to r at stays within less some small stands =
      let is = register_holds m b r stays within less in
      let made = moves w law b m.top.routine to (18 + r.0) at stays.sound some small (omega arith) (subst (λ n. n < 2 ^ 32) (sym is) (value-bounded m b r stays within)) stands in
      record {
        registers = made.registers;
        size = made.size;
        value_is = made.value_is ∙ is;
        others = made.others;
        walk = walk_weaken b (placed b made.registers at) 1 1 1 3 [] (omega arith) (omega arith) made.walk;
      }

  fetches_by : (m : LowState) (b : State) (to : ℕ) (r : VirtualRegister) (at : ℕ) (early : Bool) → nat_lt r.0 14 ≡ early → Stays w m b → r.0 < (routine_in w m.top.routine).registers → to ≢ 0 → to < 32 → to ≢ 2 → Stands w.placing m.top.routine b.pc (load_home to (cond early (Register (18 + r.0)) (Frame (4 * ((routine_in w m.top.routine).registers - 1 - r.0))))) at → Becomes b to to (value m r) at 1 3
  unfolding load_home
  fetches_by m b to r at true test stays within some small apart stands = moves_home m b to r at stays within (ltb-true r.0 14 test) some small stands
  fetches_by m b to r at false test stays within some small apart stands = loads_home m b to r at stays within (ltb-false r.0 14 test) some small apart stands

  pub fetches : (m : LowState) (b : State) (to : ℕ) (r : VirtualRegister) (at : ℕ) → Stays w m b → r.0 < (routine_in w m.top.routine).registers → to ≢ 0 → to < 32 → to ≢ 2 → Stands w.placing m.top.routine b.pc (fetch (routine_in w m.top.routine) to r) at → Becomes b to to (value m r) at 1 3
  unfolding fetch home
  fetches m b to r at stays within some small apart stands = fetches_by m b to r at (nat_lt r.0 14) refl stays within some small apart stands

  -- ---- operands

  -- the operand has the value; a scratch register may have changed
  pub record Brings (b : State) (scratch q v at : ℕ) : Type 0 where
    pub registers : List ℕ
    pub size : length registers ≡ 32
    pub value_is : get_or registers q 0 ≡ v
    pub others : (p : ℕ) → p ≢ scratch → get_or registers p 0 ≡ get_or b.registers p 0
    pub some : q ≢ 0
    pub apart : (p : ℕ) → p < 18 → p ≢ scratch → q ≢ p
    pub walk : Walk b (placed b registers at) 0 3 []

  brings_by : (m : LowState) (b : State) (scratch : ℕ) (r : VirtualRegister) (at : ℕ) (early : Bool) → nat_lt r.0 14 ≡ early → Stays w m b → r.0 < (routine_in w m.top.routine).registers → scratch ≢ 0 → scratch < 32 → scratch ≢ 2 → Stands w.placing m.top.routine b.pc (brought scratch (cond early (Register (18 + r.0)) (Frame (4 * ((routine_in w m.top.routine).registers - 1 - r.0))))) at → Brings b scratch (register_of scratch (cond early (Register (18 + r.0)) (Frame (4 * ((routine_in w m.top.routine).registers - 1 - r.0))))) (value m r) at
  unfolding brought register_of
  brings_by m b scratch r at true test stays within some small apart stands =
      let there = nothing_more w.placing m.top.routine b.pc at stands in
      record {
        registers = b.registers;
        size = stays.sound.size;
        value_is = register_holds m b r stays within (ltb-true r.0 14 test);
        others = λ p other. refl;
        some = omega arith;
        apart = λ p low other. omega arith;
        walk = walk_weaken b (placed b b.registers at) 0 0 0 3 [] (omega arith) (omega arith) (subst (λ n. Walk b (placed b b.registers n) 0 0 []) there (walk_none b));
      }
  brings_by m b scratch r at false test stays within some small apart stands =
      let made = loads_home m b scratch r at stays within (ltb-false r.0 14 test) some small apart stands in
      record {
        registers = made.registers;
        size = made.size;
        value_is = made.value_is;
        others = λ p other. made.others p other other;
        some = some;
        apart = λ p low other same. other (sym same);
        walk = walk_weaken b (placed b made.registers at) 1 3 0 3 [] (omega arith) (omega arith) made.walk;
      }

  pub brings : (m : LowState) (b : State) (scratch : ℕ) (r : VirtualRegister) (at : ℕ) → Stays w m b → r.0 < (routine_in w m.top.routine).registers → scratch ≢ 0 → scratch < 32 → scratch ≢ 2 → Stands w.placing m.top.routine b.pc (bring (routine_in w m.top.routine) scratch r) at → Brings b scratch (operand (routine_in w m.top.routine) scratch r) (value m r) at
  unfolding bring operand home
  brings m b scratch r at stays within some small apart stands = brings_by m b scratch r at (nat_lt r.0 14) refl stays within some small apart stands

  -- ---- values that are kept

  pub record Kept (m : LowState) (b : State) (at : ℕ) : Type 0 where
    pub after : State
    pub there : after.pc ≡ at
    pub stays : Stays w m after
    pub walk : Walk b after 1 3 []

  -- a home in a register has become a value
  pub kept_register : (m : LowState) (b : State) (registers : List ℕ) (at v : ℕ) (to : VirtualRegister) → Stays w m b → length registers ≡ 32 → get_or registers 2 0 ≡ get_or b.registers 2 0 → get_or registers 8 0 ≡ get_or b.registers 8 0 → ((k : ℕ) → k ≢ to.0 → get_or registers (18 + k) 0 ≡ get_or b.registers (18 + k) 0) → get_or registers (18 + to.0) 0 ≡ v → v < 2 ^ 32 → to.0 < (routine_in w m.top.routine).registers → to.0 < 14 → Stays w (with_kept to v m) (placed b registers at)
  kept_register m b registers at v to stays size sp limit homes has fits within less =
      let routine = routine_in w m.top.routine in
      let place = m.limit + m.room in
      let new = homes_in (placed b registers at) in
      record {
        sound = sound_placed w law b registers at stays.sound size;
        memory = stays.memory;
        input = stays.input;
        input_bytes = stays.input_bytes;
        output = stays.output;
        errors = stays.errors;
        limit = limit ∙ stays.limit;
        sp = sp ∙ stays.sp;
        limit_aligned = stays.limit_aligned;
        sp_aligned = stays.sp_aligned;
        holds = λ r inside. kept_by m b registers at v to r stays homes has fits less inside (nat_eq r to.0) refl;
        below = below_same w b.memory b.memory (homes_in b) new m.top.routine m.limit place m.callers (λ x from. refl) (λ k few over word. homes k (omega arith)) stays.below;
      }
    where
      kept_by : (m : LowState) (b : State) (registers : List ℕ) (at v : ℕ) (to : VirtualRegister) (r : ℕ) → Stays w m b → ((k : ℕ) → k ≢ to.0 → get_or registers (18 + k) 0 ≡ get_or b.registers (18 + k) 0) → get_or registers (18 + to.0) 0 ≡ v → v < 2 ^ 32 → to.0 < 14 → r < (routine_in w m.top.routine).registers → (same : Bool) → nat_eq r to.0 ≡ same → (held b.memory (homes_in (placed b registers at)) (routine_in w m.top.routine) (m.limit + m.room) r ≡ cond same v (m.top.registers r)) × (cond same v (m.top.registers r) < 2 ^ 32)
      kept_by m b registers at v to r stays homes has fits less inside true test =
          let is : r ≡ to.0 = grind (arith, nat_tests) in
          let few : r < 14 = omega arith in
          (held_register b.memory (homes_in (placed b registers at)) (routine_in w m.top.routine) (m.limit + m.room) r few ∙ ap (λ k. get_or registers (18 + k) 0) is ∙ has, fits)
      kept_by m b registers at v to r stays homes has fits less inside false test =
          let other : r ≢ to.0 = grind (arith, nat_tests) in
          let old = stays.holds r inside in
          elim (cases_lt r 14) [
            | inl few ↦ (held_register b.memory (homes_in (placed b registers at)) (routine_in w m.top.routine) (m.limit + m.room) r few ∙ homes r other ∙ sym (held_register b.memory (homes_in b) (routine_in w m.top.routine) (m.limit + m.room) r few) ∙ old.0, old.1)
            | inr over ↦ (held_frame b.memory (homes_in (placed b registers at)) (routine_in w m.top.routine) (m.limit + m.room) r over ∙ sym (held_frame b.memory (homes_in b) (routine_in w m.top.routine) (m.limit + m.room) r over) ∙ old.0, old.1)
          ]

  -- and one in the frame
  pub keeps_frame : (m : LowState) (b : State) (q v : ℕ) (to : VirtualRegister) (at : ℕ) → Stays w m b → to.0 < (routine_in w m.top.routine).registers → 14 ≤ to.0 → q ≢ 0 → q ≢ 1 → get_or b.registers q 0 ≡ v → v < 2 ^ 32 → Stands w.placing m.top.routine b.pc (word_store q 2 1 (4 * ((routine_in w m.top.routine).registers - 1 - to.0))) at → Kept (with_kept to v m) b at
  keeps_frame m b q v to at stays within over some apart has fits stands =
      let h = homes m b to.0 stays within in
      let routine = routine_in w m.top.routine in
      let sp = m.limit + m.room in
      let a = place_of routine sp to.0 in
      let top = h.within in
      let bottom = h.from in
      let under = h.unsaved over in
      let place = ap (λ n. (n + 4 * (routine.registers - 1 - to.0)) % 2 ^ 32) stays.sp ∙ h.address in
      let writable : (x : ℕ) → a ≤ x → x < a + 4 → w.rights.writable x ≡ true = λ x from before. law.writable x (omega arith) (omega arith) in
      let stored = stores w law b m.top.routine q 2 1 (4 * (routine.registers - 1 - to.0)) at a stays.sound some apart (omega arith) (omega arith) (omega arith) (omega arith) h.fits place h.aligned writable stands in
      let bytes = bytes_low_first 0 4 (get_or b.registers q 0) in
      let memory = with_bytes b.memory a bytes in
      let c = record (placed b stored.registers at) { memory = memory } in
      let two : get_or stored.registers 2 0 ≡ get_or b.registers 2 0 = stored.others 2 (omega arith) in
      let eight : get_or stored.registers 8 0 ≡ get_or b.registers 8 0 = stored.others 8 (omega arith) in
      let same : (k : ℕ) → get_or stored.registers (18 + k) 0 ≡ get_or b.registers (18 + k) 0 = λ k. stored.others (18 + k) (omega arith) in
      record {
        after = c;
        there = refl;
        walk = stored.walk;
        stays =
            record {
              sound = sound_stored b stored.registers at a bytes stays.sound stored.size (four-bounded (get_or b.registers q 0)) writable;
              memory = λ x below. with_bytes-below b.memory a bytes x (omega arith) ∙ stays.memory x below;
              input = stays.input;
              input_bytes = stays.input_bytes;
              output = stays.output;
              errors = stays.errors;
              limit = eight ∙ stays.limit;
              sp = two ∙ stays.sp;
              limit_aligned = stays.limit_aligned;
              sp_aligned = stays.sp_aligned;
              holds = λ r inside. subst (λ n. (held (with_bytes b.memory a (bytes_low_first 0 4 n)) (homes_in c) routine sp r ≡ cond (nat_eq r to.0) v (m.top.registers r)) × (cond (nat_eq r to.0) v (m.top.registers r) < 2 ^ 32)) (sym has) (stored_holds m b (homes_in c) v to r stays over within inside fits same);
              below = below_same w b.memory memory (homes_in b) (homes_in c) m.top.routine m.limit sp m.callers (λ x from. with_bytes-above b.memory a bytes x (omega arith)) (λ k few beyond word. same k) stays.below;
            };
      }
    where
      chosen-bounded : (same : Bool) (v x : ℕ) → v < 2 ^ 32 → x < 2 ^ 32 → cond same v x < 2 ^ 32
      chosen-bounded true v x first second = first
      chosen-bounded false v x first second = second

      stored_holds : (m : LowState) (b : State) (new : ℕ → ℕ) (v : ℕ) (to : VirtualRegister) (r : ℕ) → Stays w m b → 14 ≤ to.0 → to.0 < (routine_in w m.top.routine).registers → r < (routine_in w m.top.routine).registers → v < 2 ^ 32 → ((k : ℕ) → new k ≡ homes_in b k) → (held (with_bytes b.memory (place_of (routine_in w m.top.routine) (m.limit + m.room) to.0) (bytes_low_first 0 4 v)) new (routine_in w m.top.routine) (m.limit + m.room) r ≡ cond (nat_eq r to.0) v (m.top.registers r)) × (cond (nat_eq r to.0) v (m.top.registers r) < 2 ^ 32)
      stored_holds m b new v to r stays over within inside fits same =
          let routine = routine_in w m.top.routine in
          let sp = m.limit + m.room in
          let memory = with_bytes b.memory (place_of routine sp to.0) (bytes_low_first 0 4 v) in
          let old = stays.holds r inside in
          let word = chosen-bounded (nat_eq r to.0) v (m.top.registers r) fits old.1 in
          elim (cases_lt r 14) [
            | inl few ↦
                let test : nat_eq r to.0 ≡ false = grind (arith, nat_tests) in
                (held_register memory new routine sp r few ∙ same r ∙ sym (held_register b.memory (homes_in b) routine sp r few) ∙ old.0 ∙ sym (cond-false (nat_eq r to.0) v (m.top.registers r) test), word)
            | inr more ↦
                (held_frame memory new routine sp r more ∙ stored_home b.memory routine sp to.0 r v (m.top.registers r) within inside fits (sym (held_frame b.memory (homes_in b) routine sp r more) ∙ old.0), word)
          ]

  -- what a register of the machine has is kept
  keeps_by : (m : LowState) (b : State) (q v : ℕ) (to : VirtualRegister) (at : ℕ) (early : Bool) → nat_lt to.0 14 ≡ early → Stays w m b → to.0 < (routine_in w m.top.routine).registers → q ≢ 0 → q ≢ 1 → get_or b.registers q 0 ≡ v → v < 2 ^ 32 → Stands w.placing m.top.routine b.pc (store_home q (cond early (Register (18 + to.0)) (Frame (4 * ((routine_in w m.top.routine).registers - 1 - to.0))))) at → Kept (with_kept to v m) b at
  unfolding store_home
  keeps_by m b q v to at true test stays within some apart has fits stands =
      let less = ltb-true to.0 14 test in
      let made = moves w law b m.top.routine (18 + to.0) q at stays.sound (omega arith) (omega arith) some (subst (λ n. n < 2 ^ 32) (sym has) fits) stands in
      record {
        after = placed b made.registers at;
        there = refl;
        stays = kept_register m b made.registers at v to stays made.size (made.others 2 (omega arith) (omega arith)) (made.others 8 (omega arith) (omega arith)) (λ k other. made.others (18 + k) (omega arith) (omega arith)) (made.value_is ∙ has) fits within less;
        walk = walk_weaken b (placed b made.registers at) 1 1 1 3 [] (omega arith) (omega arith) made.walk;
      }
  keeps_by m b q v to at false test stays within some apart has fits stands =
      keeps_frame m b q v to at stays within (ltb-false to.0 14 test) some apart has fits stands

  pub keeps : (m : LowState) (b : State) (q v : ℕ) (to : VirtualRegister) (at : ℕ) → Stays w m b → to.0 < (routine_in w m.top.routine).registers → q ≢ 0 → q ≢ 1 → get_or b.registers q 0 ≡ v → v < 2 ^ 32 → Stands w.placing m.top.routine b.pc (keep (routine_in w m.top.routine) to q) at → Kept (with_kept to v m) b at
  unfolding keep home
  keeps m b q v to at stays within some apart has fits stands = keeps_by m b q v to at (nat_lt to.0 14) refl stays within some apart has fits stands

  -- ---- results

  -- a result in the register for it, and sp, the limit and the other homes as they were
  pub record Result (b : State) (t v at least most : ℕ) : Type 0 where
    pub registers : List ℕ
    pub size : length registers ≡ 32
    pub value_is : get_or registers t 0 ≡ v
    pub sp_same : get_or registers 2 0 ≡ get_or b.registers 2 0
    pub limit_same : get_or registers 8 0 ≡ get_or b.registers 8 0
    pub homes_same : (k : ℕ) → 18 + k ≢ t → get_or registers (18 + k) 0 ≡ get_or b.registers (18 + k) 0
    pub walk : Walk b (placed b registers at) least most []

  -- the result is at home
  pub record PutsTo (m : LowState) (b : State) (most at : ℕ) : Type 0 where
    pub after : State
    pub there : after.pc ≡ at
    pub stays : Stays w m after
    pub walk : Walk b after 1 most []

  puts_by : (m : LowState) (b : State) (v mid at l k : ℕ) (to : VirtualRegister) (early : Bool) → nat_lt to.0 14 ≡ early → Stays w m b → Result b (register_of 10 (cond early (Register (18 + to.0)) (Frame (4 * ((routine_in w m.top.routine).registers - 1 - to.0))))) v mid l k → 1 ≤ l → v < 2 ^ 32 → to.0 < (routine_in w m.top.routine).registers → Stands w.placing m.top.routine mid (put_away (cond early (Register (18 + to.0)) (Frame (4 * ((routine_in w m.top.routine).registers - 1 - to.0))))) at → PutsTo (with_kept to v m) b (k + 3) at
  unfolding register_of put_away
  puts_by m b v mid at l k to true test stays made some fits within stands =
      let there = nothing_more w.placing m.top.routine mid at stands in
      let c = placed b made.registers mid in
      record {
        after = c;
        there = there;
        stays = kept_register m b made.registers mid v to stays made.size made.sp_same made.limit_same (λ j other. made.homes_same j (omega arith)) made.value_is fits within (ltb-true to.0 14 test);
        walk = walk_weaken b c l k 1 (k + 3) [] some (omega arith) made.walk;
      }
  puts_by m b v mid at l k to false test stays made some fits within stands =
      let c = placed b made.registers mid in
      let stays_c = stays_placed m b made.registers mid stays made.size made.sp_same made.limit_same (λ j. made.homes_same j (omega arith)) in
      let kept = keeps_frame m c 10 v to at stays_c within (ltb-false to.0 14 test) (omega arith) (omega arith) made.value_is fits stands in
      record {
        after = kept.after;
        there = kept.there;
        stays = kept.stays;
        walk = walk_weaken b kept.after (l + 1) (k + 3) 1 (k + 3) [] (omega arith) (omega arith) (walk_join b c kept.after l k 1 3 [] [] made.walk kept.walk);
      }

  pub puts : (m : LowState) (b : State) (v mid at l k : ℕ) (to : VirtualRegister) → Stays w m b → Result b (operand (routine_in w m.top.routine) 10 to) v mid l k → 1 ≤ l → v < 2 ^ 32 → to.0 < (routine_in w m.top.routine).registers → Stands w.placing m.top.routine mid (put (routine_in w m.top.routine) to) at → PutsTo (with_kept to v m) b (k + 3) at
  unfolding operand put home
  puts m b v mid at l k to stays made some fits within stands = puts_by m b v mid at l k to (nat_lt to.0 14) refl stays made some fits within stands
