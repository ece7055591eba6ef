-- A function whose result is one value returns.
use Rattle.std.proofs.Common.{◌≡◌, ◌≤◌, ◌<◌, ◌⊎◌, inl, inr, ℕ, ◌+◌, ◌-◌, List, [], ◌∷◌, ◌++◌, length, Option, Some, None, refl, sym, ap, ap₂, ◌∙◌, subst, arith, ◌*◌}
use Rattle.std.specs.Prelude.{pos, true, false, nat_eq, nat_lt, slice_get, if◌then◌else◌}
use Rattle.std.proofs.lemmas.Bool.Decides.{nat_tests}
use Rattle.op_compute.proofs.Registers.{put_same}
use Rattle.op_compute.specs.Bank.{scratch_of}
use Rattle.op_compute.specs.Meaning.{IsWordOf}
use Rattle.op_compute.specs.Straight.{at, put}
use Rattle.op_constants.specs.Arranged.{IsSmall}
use Rattle.op_constants.specs.Lies.{arrangement_of}
use Rattle.op_constants.specs.Offsets.{size_in}
use Rattle.op_core.specs.declared.ids.TypeId.{TypeId}
use Rattle.op_core.specs.declared.program.Core.{Core}
use Rattle.op_core.specs.declared.types.IntegerKind.{IntegerKind}
use Rattle.op_expand.specs.Calls.{left, number_code, receiver_of, result_code, return_code}
use Rattle.op_places.specs.Frames.{returning_of}
use Rattle.op_places.specs.Homes.{home_at}
use Rattle.op_places.specs.Moves.{held_by, load_op, near}
use Rattle.op_places.specs.Places.{home_code, home_spot, reach_code, reached}
use Rattle.op_places.specs.declared.frame.Frame.{Frame}
use Rattle.op_places.specs.declared.frame.Returning.TheVariants.{Result}
use Rattle.op_places.specs.declared.homes.Home.TheVariants.{Held, Stored, Shared}
use Rattle.op_places.specs.declared.homes.Home.{Home}
use Rattle.op_low.specs.Machine.{act}
use Rattle.op_low.specs.State.{Caller, State, routine_of}
use Rattle.op_low.specs.declared.ids.VirtualRegister.{VirtualRegister}
use Rattle.op_low.specs.declared.instruction.Instruction.TheVariants.{Const, Load, Local as LocalAddress, Move, Return as LowReturn}
use Rattle.op_low.specs.declared.instruction.Instruction.{Instruction as LowInstruction}
use Rattle.op_meaning.specs.Calls.{received, result_in}
use Rattle.op_meaning.specs.Expressions.{result_of}
use Rattle.op_meaning.specs.Items.{Receiver, nowhere, to_temp, to_place}
use Rattle.op_meaning.specs.Machine.{returned as goes_back}
use Rattle.op_meaning.specs.Shapes.{composite, result_of_routine, shape_of, single}
use Rattle.op_meaning.specs.Values.{Value, all_of, local, number_in}
use Rattle.op_mir.specs.Machine.{MirCaller, MirState, execute, mir_step, tables, mir_cost}
use Rattle.op_mir.specs.View.{view_receiver}
use Rattle.op_mir.specs.declared.ids.LocalId.{LocalId}
use Rattle.op_mir.specs.declared.instruction.Instruction.TheVariants.{Return}
use Rattle.op_mir.specs.declared.instruction.Instruction.{Instruction}
use Rattle.op_mir.specs.declared.instruction.Receiver.TheVariants.{Nowhere, Temporary, Place as ToPlace}
use Rattle.op_mir.specs.declared.instruction.Receiver.{Receiver as DeclaredReceiver}
use Rattle.op_mir.specs.declared.path.Root.TheVariants.{Local}
use Rattle.op_meaning.specs.Paths.{Path}
use Rattle.op_rv.specs.Step.{load_value}
use Rattle.op_agreement.proofs.Branching.{begins_here, step_here}
use Rattle.op_agreement.proofs.Computing.{rest_above, rest_below}
use Rattle.op_agreement.proofs.Following.{Comes}
use Rattle.op_agreement.proofs.Going.{Goes, goes_from, goes_none, goes_one, goes_then, goes_to, goes_within}
use Rattle.op_agreement.proofs.Memory.{number_loads, size_of_number, some_size}
use Rattle.op_agreement.proofs.Standing.{Next, here}
use Rattle.op_agreement.proofs.Updating.{limit_here}
use Rattle.op_agreement.proofs.Callers.{Waits, gone_below, gone_scratch, gone_temporary, low_returns, waits}
use Rattle.op_agreement.proofs.Pricing.{afford_light}
use Rattle.op_agreement.specs.Chart.{Floor, IsAt, address_of, stored_offset}
use Rattle.op_agreement.specs.Coding.{code_for}
use Rattle.op_agreement.specs.Fitting.{IsFitting}
use Rattle.op_agreement.specs.Settings.{HomeFits, Setting, StoredAt, managed}
use Rattle.op_agreement.specs.Stands.{Stands}
use Rattle.op_agreement.specs.Steps.{most_for_one}
use Rattle.op_agreement.specs.Typed.{IsTypedReceiver, HasResult}

-- ---- a function

function_returning : (core : Core) (r : ℕ) (of : TypeId) → r < length core.routines → result_of (slice_get core.routines r) ≡ Some of → returning_of core r ≡ Result of (record { 0 = result_of_routine core r })
function_returning core r of low some = let t : nat_eq r (length core.routines) ≡ false = grind (arith, nat_tests) in rw (t, some) refl

-- the register of the caller in which it gets what a routine returns: that of the temporary, or one that is free
abbrev pub WordGoes : Frame → (free : VirtualRegister) → Receiver → VirtualRegister → Type 0
WordGoes frame free nowhere to = to.0 ≡ free.0
WordGoes frame free (to_temp t) to = to.0 ≡ frame.bank.temporaries + t
WordGoes frame free (to_place of path) to = to.0 ≡ free.0

word_goes : (frame : Frame) (free : VirtualRegister) (d : DeclaredReceiver) → WordGoes frame free (view_receiver d) (receiver_of frame d free)
word_goes frame free Nowhere = refl
word_goes frame free (Temporary t) = refl
word_goes frame free (ToPlace of to) = refl

module _ (g : Setting) (fit : IsFitting g) (m : MirState) (l : State) (floors : ℕ → Floor) (is : List Instruction) (next : Next g m l floors Return is) (c : MirCaller) (cs : List MirCaller) (lc : Caller) (lcs : List Caller) (above : m.callers ≡ c ∷ cs) (lows : l.callers ≡ lc ∷ lcs) (of : TypeId) (some : result_of (slice_get g.core.routines (here m floors).number) ≡ Some of) (has : HasResult g.core (here m floors).number of) where
  abbrev pub rest : List LowInstruction
  rest = rest_below g m l floors Return is next

  abbrev pub frame : Frame
  frame = (here m floors).frame

  abbrev pub v : ℕ
  v = result_of_routine g.core (here m floors).number

  abbrev pub variable : LocalId
  variable = record { 0 = result_of_routine g.core (here m floors).number }

  -- the value of the result
  abbrev pub value : Value
  value = m.world.memory (local (length m.callers) (result_of_routine g.core (here m floors).number))

  pub caller : Waits g floors m l c cs lc lcs
  caller = waits g floors m l next.stays c cs lc lcs above lows of (ap (λ r. result_of (slice_get g.core.routines r)) (sym next.stays.activation.number) ∙ some)

  abbrev pub returned : Receiver → Value → MirState
  returned receiver x = record {
    world = received (tables (managed g)) receiver x (record m.world { temps = c.temps; waiting = c.waiting; made = c.made; depth = m.world.depth - 1 });
    routine = c.routine;
    work = c.work;
    frames = c.frames;
    callers = cs;
    pending = m.pending;
    charged = caller.under;
    counts = tt;
  }

  -- where the caller gets what is returned
  pub caller_gets : WordGoes (floors (length cs)).frame (scratch_of (floors (length cs)).frame.bank 0) c.receiver lc.to
  caller_gets =
      let frame_below = (floors (length cs)).frame in
      let free = scratch_of (floors (length cs)).frame.bank 0 in
      subst (λ r. WordGoes frame_below free r lc.to) (sym caller.receiver) (subst (λ to. WordGoes frame_below free (view_receiver caller.declared) to) (sym caller.to) (word_goes frame_below free caller.declared))

  -- the step of managed code
  pub return_step : mir_step (managed g) m ≡ returned c.receiver value
  unfolding execute
  return_step =
      let charge = caller.charge in
      let charged : m.charged - (managed g).charge m.routine ≡ caller.under = omega arith in
      let s = next.stays in
      let behind : MirState = record m { work = rest_above g m l floors Return is next } in
      let value_is : result_in (tables (managed g)) m.routine m.world ≡ value = ap₂ (λ d r. m.world.memory (local d (result_of_routine g.core r))) s.depth (sym s.activation.number) in
      step_here g fit m l floors Return is next ∙ ap (λ xs. goes_back (tables (managed g)) xs behind) above
      ∙ ap₂ (λ (x : Value) (n : ℕ). let y : MirState = record { world = received (tables (managed g)) c.receiver x (record m.world { temps = c.temps; waiting = c.waiting; made = c.made; depth = m.world.depth - 1 }); routine = c.routine; work = c.work; frames = c.frames; callers = cs; pending = m.pending; charged = n; counts = tt } in y) value_is charged

  -- the code of the return
  pub result_code_is : code_for g.core g.mir frame Return ≡ result_code g.core frame of variable
  unfolding code_for
  result_code_is =
      let a = next.stays.activation in
      let low : (here m floors).number < length g.core.routines = subst (λ r. r < length g.core.routines) (sym a.number) caller.low in
      ap (return_code g.core frame) (a.floor.fits.returning ∙ function_returning g.core (here m floors).number of low some)

  -- the result stands in the locals
  module _ (offset : ℕ) (home : home_at frame.homes variable ≡ Stored offset) where
    pub stored_result : StoredAt g.core (here m floors).number frame (Local variable) offset
    stored_result = (has.0, home)

    pub result_within : offset + size_in g.core of ≤ frame.locals
    result_within = subst (λ t. offset + size_in g.core t ≤ frame.locals) has.1 (next.stays.activation.floor.fits.within (Local variable) offset stored_result)

    pub result_small : IsSmall g.core of
    result_small = subst (IsSmall g.core) has.1 (next.stays.activation.floor.fits.types (Local variable) offset stored_result)

    -- it is a live place at its address
    pub result_at : (a : ℕ) → (size_in g.core of ≡ 0) ⊎ (a ≡ (here m floors).base + offset) → IsAt g floors (length m.callers) (all_of (local (length m.callers) v)) of a
    result_at a there =
        let offset_is : stored_offset (home_at frame.homes variable) ≡ offset = ap stored_offset home in
        record {
          live = (omega arith, subst (StoredAt g.core (here m floors).number frame (Local variable)) (sym offset_is) stored_result);
          distance = 0;
          leads = (ap (arrangement_of g.core) has.1, refl);
          at = by there offset_is;
        }
      where
        by : (size_in g.core of ≡ 0) ⊎ (a ≡ (here m floors).base + offset) → stored_offset (home_at frame.homes variable) ≡ offset → (size_in g.core of ≡ 0) ⊎ (a ≡ address_of g floors (local (length m.callers) v) + 0)
        by (inl none) offset_is = inl none
        by (inr same) offset_is = inr (omega arith)

    pub local_address : l.limit - (routine_of g.low l.top.routine).locals + offset ≡ (here m floors).base + offset
    local_address =
        let a = next.stays.activation in
        let base = a.base in
        let locals : (routine_of g.low l.top.routine).locals ≡ frame.locals = ap (λ r. (routine_of g.low r).locals) a.same ∙ a.floor.expanded.locals in
        omega arith

  -- ---- one value

  module _ (kind : IntegerKind) (shape : shape_of g.core of ≡ single kind) where
    -- the code comes to where the register has the value
    record NumberReady : Type 0 where
      f : ℕ → ℕ
      r : VirtualRegister
      goes : Goes g 0 2 l (at l f (LowReturn r ∷ rest))
      word : IsWordOf (f r.0) (number_in value)

    number_code_is : code_for g.core g.mir frame Return ≡ number_code g.core frame kind variable
    number_code_is = result_code_is ∙ rw shape refl

    -- the code by the home of the variable
    abbrev load_by_home : Home → Option VirtualRegister → List LowInstruction
    load_by_home h (Some r) = Move left r ∷ []
    load_by_home h None = (home_code frame left h ++ [] ++ reach_code near (home_spot left h)) ++ Load (load_op kind) left (reached near (home_spot left h)).base (pos (reached near (home_spot left h)).offset) ∷ []

    abbrev number_by_home : Home → Option VirtualRegister → List LowInstruction
    number_by_home h (Some r) = LowReturn r ∷ []
    number_by_home h None = load_by_home h (held_by (Local variable) [] h) ++ LowReturn left ∷ []

    number_by_is : (h : Home) → home_at frame.homes variable ≡ h → number_code g.core frame kind variable ≡ number_by_home h (held_by (Local variable) [] h)
    number_by_is h home = ap (λ h. number_by_home h (held_by (Local variable) [] h)) home

    -- from its register, or from the locals
    number_held : (r : VirtualRegister) → home_at frame.homes variable ≡ Held r → NumberReady
    number_held r home =
        let code : code_for g.core g.mir frame Return ≡ LowReturn r ∷ [] = number_code_is ∙ number_by_is (Held r) home in
        record {
          f = l.top.registers;
          r = r;
          goes = goes_from g 0 l (at l l.top.registers (LowReturn r ∷ rest)) (at l l.top.registers (LowReturn r ∷ rest)) (begins_here g fit m l floors Return is next (LowReturn r ∷ []) code) (goes_within g 0 2 (at l l.top.registers (LowReturn r ∷ rest)) (at l l.top.registers (LowReturn r ∷ rest)) (goes_none g (at l l.top.registers (LowReturn r ∷ rest))) (omega arith));
          word = next.stays.activation.kept.variables v r.0 has.0 home;
        }

    number_stored : (offset : ℕ) → home_at frame.homes variable ≡ Stored offset → NumberReady
    unfolding act put
    number_stored offset home =
        let s = next.stays in
        let a = (here m floors).base + offset in
        let small = result_small offset home in
        let within = result_within offset home in
        let size = size_of_number g fit m l floors s of kind shape small in
        let bytes = some_size kind in
        let t : nat_lt offset frame.locals ≡ true = grind (arith, nat_tests) in
        let code : code_for g.core g.mir frame Return ≡ LocalAddress left offset ∷ Load (load_op kind) left left (pos 0) ∷ LowReturn left ∷ [] = number_code_is ∙ number_by_is (Stored offset) home ∙ ap (λ b. (if b then LocalAddress left offset ∷ [] else Const left 0 ∷ []) ++ [] ++ [] ++ Load (load_op kind) left left (pos 0) ∷ [] ++ LowReturn left ∷ []) t in
        let h = put l.top.registers left a in
        let same : h 0 + 0 ≡ a = omega (arith, put_same l.top.registers left a) in
        let base = s.activation.base in
        let limit = limit_here g fit floors m l s in
        let top = fit.placed.top in
        let (loads, word) = number_loads g fit m l floors s (all_of (local (length m.callers) v)) of kind h left left 0 (LowReturn left ∷ rest) shape small (result_at offset home (h 0 + 0) (inr same)) (omega arith) in
        let n = load_value (load_op kind) l.memory (h 0 + 0) in
        let f = λ (r : ℕ). if nat_eq r 0 then n else h r in
        let first : Goes g 1 1 (at l l.top.registers (LocalAddress left offset ∷ Load (load_op kind) left left (pos 0) ∷ LowReturn left ∷ rest)) (at l h (Load (load_op kind) left left (pos 0) ∷ LowReturn left ∷ rest)) =
        goes_to g 1 (at l l.top.registers (LocalAddress left offset ∷ Load (load_op kind) left left (pos 0) ∷ LowReturn left ∷ rest)) (act g.low g.placement (LocalAddress left offset) (at l l.top.registers (Load (load_op kind) left left (pos 0) ∷ LowReturn left ∷ rest))) (at l h (Load (load_op kind) left left (pos 0) ∷ LowReturn left ∷ rest))
        (ap (λ x. at l (put l.top.registers left x) (Load (load_op kind) left left (pos 0) ∷ LowReturn left ∷ rest)) (local_address offset home))
        (goes_one g l l.top.registers (LocalAddress left offset) (Load (load_op kind) left left (pos 0) ∷ LowReturn left ∷ rest) refl) in
        record {
          f = f;
          r = left;
          goes = goes_from g 0 l (at l l.top.registers (LocalAddress left offset ∷ Load (load_op kind) left left (pos 0) ∷ LowReturn left ∷ rest)) (at l f (LowReturn left ∷ rest)) (begins_here g fit m l floors Return is next (LocalAddress left offset ∷ Load (load_op kind) left left (pos 0) ∷ LowReturn left ∷ []) code)
              (goes_then g 1 1 0 (at l l.top.registers (LocalAddress left offset ∷ Load (load_op kind) left left (pos 0) ∷ LowReturn left ∷ rest)) (at l h (Load (load_op kind) left left (pos 0) ∷ LowReturn left ∷ rest)) (at l f (LowReturn left ∷ rest)) (omega arith) first loads);
          word = word;
        }

    number_ready : (home : Home) → home_at frame.homes variable ≡ home → HomeFits frame home → NumberReady
    number_ready (Held r) home fits = number_held r home
    number_ready (Stored offset) home fits = number_stored offset home
    number_ready (Shared id) home fits = absurd fits

    -- a number goes to no place
    no_place : (path : Path) (type : TypeId) → c.receiver ≡ to_place type path → ⊥
    no_place path type e =
        let number = next.stays.activation.number in
        let typed = subst (λ r. IsTypedReceiver g.core r (Some of)) e (subst (λ o. IsTypedReceiver g.core c.receiver o) (ap (λ r. result_of (slice_get g.core.routines r)) (sym number) ∙ some) caller.typed) in
        let (n, path_is, same, parts) = typed in
        let clash : single kind ≡ composite = sym shape ∙ ap (shape_of g.core) same ∙ parts in
        cc

    abbrev goes_on : ℕ → State
    goes_on n = gone_below g fit m l floors next.stays c cs lc lcs above lows caller n

    -- and the caller goes on
    pub number_result_comes : Comes g m l
    number_result_comes =
        let ready = number_ready (home_at frame.homes variable) refl (next.stays.activation.floor.fits.homes variable has.0.0) in
        let k = gone_below g fit m l floors next.stays c cs lc lcs above lows caller (ready.f ready.r.0) in
        record {
          to = k;
          goes = goes_within g 1 (most_for_one * mir_cost (managed g) m) l k (goes_then g 0 1 1 l (at l ready.f (LowReturn ready.r ∷ rest)) k (omega arith) ready.goes (low_returns g fit m l floors next.stays c cs lc lcs above lows caller ready.f l.memory ready.r rest)) (afford_light g fit m l floors Return is next 3 (omega arith));
          stands = subst (λ x. Stands g x k) (sym return_step) (by (ready.f ready.r.0) ready.word c.receiver refl caller_gets);
        }
      where
        by : (n : ℕ) → IsWordOf n (number_in value) → (r : Receiver) → c.receiver ≡ r → WordGoes (floors (length cs)).frame (scratch_of (floors (length cs)).frame.bank 0) r lc.to → Stands g (returned c.receiver value) (goes_on n)
        by n word nowhere e to_is = subst (λ r. Stands g (returned r value) (goes_on n)) (sym e) (gone_scratch g fit m l floors next.stays c cs lc lcs above lows caller next.ending (omega arith) n)
        by n word (to_temp t) e to_is = subst (λ r. Stands g (returned r value) (goes_on n)) (sym e) (gone_temporary g fit m l floors next.stays c cs lc lcs above lows caller next.ending t to_is n (number_in value) word)
        by n word (to_place type path) e to_is = absurd (no_place path type e)
