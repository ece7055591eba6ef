-- A function whose result has parts returns: it is copied to a temporary of the caller, which then goes on.
use Rattle.std.proofs.Common.{◌≡◌, ◌≤◌, ◌<◌, ◌⊎◌, inl, inr, ℕ, suc, ◌+◌, ◌-◌, List, [], ◌∷◌, ◌++◌, length, Option, Some, None, refl, sym, ap, ap₂, ◌∙◌, subst, arith, append_assoc, append-nil, ◌*◌}
use Rattle.std.specs.Prelude.{pos, Bool, true, false, nat_le, nat_lt, slice_get, if◌then◌else◌}
use Rattle.std.proofs.lemmas.Bool.{cases_lt}
use Rattle.std.proofs.lemmas.Bool.Decides.{nat_tests}
use Rattle.op_agreement.proofs.Branching.{begins_here}
use Rattle.op_agreement.proofs.Callers.{Waits, gone_above, gone_below, gone_scratch, low_returns, waits}
use Rattle.op_agreement.proofs.Closing.{main_comes}
use Rattle.op_agreement.proofs.Computing.{rest_below}
use Rattle.op_agreement.proofs.Copied.{all_whole, copyable, stays_copied, stays_nothing}
use Rattle.op_agreement.proofs.Copying.{having, none_goes, some_go}
use Rattle.op_agreement.proofs.Following.{Comes}
use Rattle.op_agreement.proofs.Going.{Goes, goes_fewer, goes_from, goes_one, goes_then, goes_to, goes_within}
use Rattle.op_agreement.proofs.Pricing.{charge_of_floor, least}
use Rattle.op_agreement.proofs.Primitives.{room_there}
use Rattle.op_agreement.proofs.Resulting.{WordGoes, caller, caller_gets, local_address, number_result_comes, result_at, result_code_is, result_small, result_within, return_step, returned}
use Rattle.op_agreement.proofs.Returning.{live_deeper, procedure_comes}
use Rattle.op_agreement.proofs.Standing.{Next, here}
use Rattle.op_agreement.proofs.Updating.{limit_here}
use Rattle.op_agreement.specs.Chart.{Floor, IsAt}
use Rattle.op_agreement.specs.Coding.{code_for}
use Rattle.op_agreement.specs.Fitting.{IsFitting}
use Rattle.op_agreement.specs.Settings.{Setting, managed}
use Rattle.op_agreement.specs.Stands.{AreStillDue, CallersStand, ResultGoes, Stands, Stays}
use Rattle.op_agreement.specs.Steps.{most_for_one}
use Rattle.op_agreement.specs.Typed.{IsTypedReceiver, HasResult}
use Rattle.op_compute.proofs.Registers.{put_higher, put_same}
use Rattle.op_compute.specs.Bank.{scratch_of}
use Rattle.op_compute.specs.Ranges.{sum_with}
use Rattle.op_compute.specs.Straight.{at, put}
use Rattle.op_constants.specs.Offsets.{size_in}
use Rattle.op_constants.specs.Shapes.{is_composite}
use Rattle.op_core.specs.declared.ids.TypeId.{TypeId}
use Rattle.op_core.specs.declared.program.Core.{Core}
use Rattle.op_expand.specs.Calls.{left, number_code, parts_code, result_address}
use Rattle.op_places.specs.Homes.{home_at, parameter}
use Rattle.op_places.specs.Moves.{by_words, bytes_code, limit_of}
use Rattle.op_places.specs.Places.{at_register, at_scratch, home_code, home_spot, reach_code, reached, stored_code}
use Rattle.op_places.specs.declared.frame.Frame.{Frame}
use Rattle.op_places.specs.declared.homes.Home.TheVariants.{Stored}
use Rattle.op_places.specs.declared.spot.Spot.{Spot}
use Rattle.op_low.specs.Machine.{act}
use Rattle.op_low.specs.State.{Caller, State}
use Rattle.op_low.specs.declared.instruction.Instruction.{Instruction as LowInstruction}
use Rattle.op_low.specs.declared.instruction.Instruction.TheVariants.{Const, Local as LocalAddress, Return as LowReturn}
use Rattle.op_meaning.specs.Expressions.{result_of}
use Rattle.op_meaning.specs.Items.{Receiver, nowhere, to_temp, to_place}
use Rattle.op_meaning.specs.Paths.{Path, in_temporary}
use Rattle.op_meaning.specs.Shapes.{composite, result_of_routine, shape_of}
use Rattle.op_meaning.specs.Statements.{kind_of}
use Rattle.op_meaning.specs.Values.{Holder, Place, Value, all_of, local, same_holder, temporary}
use Rattle.op_meaning.specs.World.{with_value}
use Rattle.op_mir.specs.Code.{ret}
use Rattle.op_mir.specs.Machine.{MirCaller, MirState, mir_step, mir_cost, instr_bytes}
use Rattle.op_mir.specs.Plain.{IsPlainWorld}
use Rattle.op_mir.specs.declared.ids.LocalId.{LocalId}
use Rattle.op_mir.specs.declared.instruction.Instruction.{Instruction}
use Rattle.op_mir.specs.declared.instruction.Instruction.TheVariants.{Return}
use Rattle.op_rt_text.specs.Names.{register}

regroup : (x b r rest : List LowInstruction) → ((x ++ [] ++ []) ++ b ++ r) ++ rest ≡ x ++ (b ++ (r ++ rest))
regroup x b r rest =
    ap (λ y. (y ++ b ++ r) ++ rest) (append-nil (x ++ []) ∙ append-nil x) ∙ append_assoc (x ++ b) r rest ∙ append_assoc x b (r ++ rest)

-- the bytes of a result
abbrev result_size : Core → Option TypeId → ℕ
result_size core None = 0
result_size core (Some of) = size_in core of

module _ (g : Setting) (fit : IsFitting g) (m : MirState) (l : State) (floors : ℕ → Floor) (is : List Instruction) (next : Next g m l floors Return is) (c : MirCaller) (cs : List MirCaller) (lc : Caller) (lcs : List Caller) (above : m.callers ≡ c ∷ cs) (lows : l.callers ≡ lc ∷ lcs) (of : TypeId) (some : result_of (slice_get g.core.routines (here m floors).number) ≡ Some of) (has : HasResult g.core (here m floors).number of) (type : TypeId) (n : ℕ) (receives : c.receiver ≡ to_place type (record { root = in_temporary type n; steps = [] })) (same_type : of ≡ type) (parts : shape_of g.core of ≡ composite) (receiver_is : IsAt g floors (length cs) (all_of (temporary (length cs) type n)) type (l.top.registers result_address.0)) where
  abbrev rest : List LowInstruction
  rest = rest_below g m l floors Return is next

  abbrev frame : Frame
  frame = (here m floors).frame

  abbrev variable : LocalId
  variable = record { 0 = result_of_routine g.core (here m floors).number }

  abbrev value : Value
  value = m.world.memory (local (length m.callers) (result_of_routine g.core (here m floors).number))

  abbrev words : Bool
  words = by_words g.core of

  abbrev size : ℕ
  size = size_in g.core of

  abbrev source : Spot
  source = at_scratch left

  abbrev target : Spot
  target = at_register result_address (register (parameter 0))

  abbrev copies : List LowInstruction
  copies = bytes_code (by_words g.core of) (size_in g.core of) (at_scratch left) (at_register result_address (register (parameter 0)))

  -- ---- what is known of the caller

  abbrev the_caller : Waits g floors m l c cs lc lcs
  the_caller = caller g fit m l floors is next c cs lc lcs above lows of some has

  abbrev place : Place
  place = all_of (temporary (length cs) type n)

  -- the temporary of the caller is a live place at the address in register 1
  place_is : IsAt g floors (length m.callers) place of (l.top.registers result_address.0)
  place_is =
      let levels : length m.callers ≡ suc (length cs) = ap length above in
      subst (λ t. IsAt g floors (length m.callers) place t (l.top.registers result_address.0)) (sym same_type)
      (record { live = live_deeper g.core floors (length cs) (length m.callers) (temporary (length cs) type n) (omega arith) receiver_is.live; distance = receiver_is.distance; leads = receiver_is.leads; at = receiver_is.at })

  -- ---- the step of managed code, as one that puts the value first

  abbrev put_above : MirState
  put_above = record m { world = with_value (all_of (temporary (length cs) type n)) value m.world; work = m.work }

  abbrev put_below : (ℕ → ℕ) → State
  put_below memory = having l l.top.registers l.top.now memory

  -- its world is plain
  put_plain : IsPlainWorld put_above.world
  put_plain =
      let plain = next.stays.plain in
      record { raised = plain.raised; made = plain.made; waiting = plain.waiting }

  -- the activation has been charged, since it has a caller
  result_paid : 200 + 6 * size_in g.core of + 1 ≤ most_for_one * mir_cost (managed g) m
  result_paid =
      let a = next.stays.activation in
      let number = a.number in
      let many = fit.program.number in
      let low = the_caller.low in
      let few : (here m floors).number < length g.mir.routines = omega arith in
      let charged_some = (fit.routines (here m floors).number (here m floors).routine a.floor.found a.floor.charge).charged few in
      let charge = charge_of_floor g fit m l floors Return is next c cs above in
      let cost = least g fit m l floors Return is next in
      let bytes : instr_bytes g.core (here m floors).number ret ≡ size_in g.core of = ap (result_size g.core) some in
      omega arith

  -- the code has come to the return, and the memory is that of the value that was put
  done : (memory : ℕ → ℕ) → Stays g floors put_above (put_below memory) → (f : ℕ → ℕ) → Goes g 0 (200 + 6 * size_in g.core of) l (having l f (LowReturn left ∷ rest) memory) → Comes g m l
  done memory s f goes =
      let w = waits g floors put_above (put_below memory) s c cs lc lcs above lows of (ap (λ r. result_of (slice_get g.core.routines r)) (sym next.stays.activation.number) ∙ some) in
      let k = gone_below g fit put_above (put_below memory) floors s c cs lc lcs above lows w (f 0) in
      let first = the_caller.charge in
      let second = w.charge in
      let under : the_caller.under ≡ w.under = omega arith in
      let deep : m.world.depth ≡ suc (length cs) = next.stays.depth ∙ ap length above in
      let depth : m.world.depth - 1 ≡ length cs = omega arith in
      let to_is : lc.to.0 ≡ (floors (length cs)).frame.bank.scratch + 0 = subst (λ r. WordGoes (floors (length cs)).frame (scratch_of (floors (length cs)).frame.bank 0) r lc.to) receives (caller_gets g fit m l floors is next c cs lc lcs above lows of some has) in
      let step : mir_step (managed g) m ≡ gone_above g fit put_above (put_below memory) floors s c cs lc lcs above lows w c.temps =
      return_step g fit m l floors is next c cs lc lcs above lows of some has
      ∙ ap (λ r. returned g fit m l floors is next c cs lc lcs above lows of some has r value) receives
      ∙ ap₂ (λ (d u : ℕ). let x : MirState = record { world = with_value (all_of (temporary d type n)) value (record m.world { temps = c.temps; waiting = c.waiting; made = c.made; depth = m.world.depth - 1 }); routine = c.routine; work = c.work; frames = c.frames; callers = cs; pending = m.pending; charged = u; counts = tt } in x) depth under in
      record {
        to = k;
        goes = goes_within g 1 (most_for_one * mir_cost (managed g) m) l k (goes_then g 0 1 1 l (having l f (LowReturn left ∷ rest) memory) k (omega arith) goes (low_returns g fit put_above (put_below memory) floors s c cs lc lcs above lows w f memory left rest)) result_paid;
        stands = subst (λ x. Stands g x k) (sym step) (gone_scratch g fit put_above (put_below memory) floors s c cs lc lcs above lows w next.ending (omega arith) (f 0));
      }

  -- ---- the code

  parts_code_is : code_for g.core g.mir frame Return ≡ parts_code g.core frame of variable
  parts_code_is = result_code_is g fit m l floors is next c cs lc lcs above lows of some has ∙ ap (λ s. if is_composite s then parts_code g.core frame of variable else number_code g.core frame (kind_of g.core of) variable) parts

  module _ (offset : ℕ) (home : home_at frame.homes variable ≡ Stored offset) where
    abbrev limit : ℕ
    limit = limit_of (by_words g.core of) (size_in g.core of)

    parts_code_at : parts_code g.core frame of variable ≡ (stored_code frame left offset ++ [] ++ []) ++ copies ++ LowReturn left ∷ []
    unfolding parts_code
    parts_code_at =
        let z : nat_le 0 limit ≡ true = grind (arith, nat_tests) in
        ap (λ h. (home_code frame left h ++ [] ++ reach_code limit (home_spot left h)) ++ bytes_code words size (reached limit (home_spot left h)) target ++ LowReturn left ∷ []) home
        ∙ ap (λ b. (stored_code frame left offset ++ [] ++ (if b then [] else sum_with (register 1) (register 1) left (pos 0))) ++ bytes_code words size (if b then source else at_scratch (register 1)) target ++ LowReturn left ∷ []) z

    begins : l ≡ at l l.top.registers (stored_code frame left offset ++ (copies ++ (LowReturn left ∷ rest)))
    begins =
        begins_here g fit m l floors Return is next ((stored_code frame left offset ++ [] ++ []) ++ copies ++ LowReturn left ∷ []) (parts_code_is ∙ parts_code_at)
        ∙ ap (at l l.top.registers) (regroup (stored_code frame left offset) copies (LowReturn left ∷ []) rest)

    -- the first register has the address of the result
    record SourceReady : Type 0 where
      h : ℕ → ℕ
      goes : Goes g 0 1 l (at l h (copies ++ (LowReturn left ∷ rest)))
      there : (size ≡ 0) ⊎ (h 0 ≡ (here m floors).base + offset)
      address : h 1 ≡ l.top.registers 1

    source_ready : SourceReady
    unfolding act put
    source_ready = by (nat_lt offset frame.locals) refl
      where
        by : (b : Bool) → nat_lt offset frame.locals ≡ b → SourceReady
        by true e =
            let a = (here m floors).base + offset in
            let h = put l.top.registers left a in
            let same : l ≡ at l l.top.registers (LocalAddress left offset ∷ (copies ++ (LowReturn left ∷ rest))) = begins ∙ ap (λ b. at l l.top.registers ((if b then LocalAddress left offset ∷ [] else Const left 0 ∷ []) ++ (copies ++ (LowReturn left ∷ rest)))) e in
            record {
              h = h;
              goes = goes_from g 0 l (at l l.top.registers (LocalAddress left offset ∷ (copies ++ (LowReturn left ∷ rest)))) (at l h (copies ++ (LowReturn left ∷ rest))) same
                  (goes_fewer g 1 0 (at l l.top.registers (LocalAddress left offset ∷ (copies ++ (LowReturn left ∷ rest)))) (at l h (copies ++ (LowReturn left ∷ rest))) (omega arith)
                  (goes_to g 1 (at l l.top.registers (LocalAddress left offset ∷ (copies ++ (LowReturn left ∷ rest)))) (act g.low g.placement (LocalAddress left offset) (at l l.top.registers (copies ++ (LowReturn left ∷ rest)))) (at l h (copies ++ (LowReturn left ∷ rest)))
                  (ap (λ x. at l (put l.top.registers left x) (copies ++ (LowReturn left ∷ rest))) (local_address g fit m l floors is next c cs lc lcs above lows of some has offset home))
                  (goes_one g l l.top.registers (LocalAddress left offset) (copies ++ (LowReturn left ∷ rest)) refl)));
              there = inr (put_same l.top.registers left a);
              address = put_higher l.top.registers left a 1 (omega arith);
            }
        by false e =
            let h = put l.top.registers left 0 in
            let more : frame.locals ≤ offset = grind (arith, nat_tests) in
            let within = result_within g fit m l floors is next c cs lc lcs above lows of some has offset home in
            let same : l ≡ at l l.top.registers (Const left 0 ∷ (copies ++ (LowReturn left ∷ rest))) = begins ∙ ap (λ b. at l l.top.registers ((if b then LocalAddress left offset ∷ [] else Const left 0 ∷ []) ++ (copies ++ (LowReturn left ∷ rest)))) e in
            record {
              h = h;
              goes = goes_from g 0 l (at l l.top.registers (Const left 0 ∷ (copies ++ (LowReturn left ∷ rest)))) (at l h (copies ++ (LowReturn left ∷ rest))) same
                  (goes_fewer g 1 0 (at l l.top.registers (Const left 0 ∷ (copies ++ (LowReturn left ∷ rest)))) (at l h (copies ++ (LowReturn left ∷ rest))) (omega arith)
                  (goes_one g l l.top.registers (Const left 0) (copies ++ (LowReturn left ∷ rest)) refl));
              there = inl (omega arith);
              address = put_higher l.top.registers left 0 1 (omega arith);
            }

    -- the bytes are copied, if there are any
    parts_by : SourceReady → (0 < size) ⊎ (size ≤ 0) → Comes g m l
    parts_by ready (inr few) =
        let s = next.stays in
        let none : size ≡ 0 = omega arith in
        let small = result_small g fit m l floors is next c cs lc lcs above lows of some has offset home in
        let top = limit_here g fit floors m l s in
        let end = fit.placed.top in
        let h = put ready.h target.free 0 in
        done l.memory
        (stays_nothing g fit m l floors s of small place (l.top.registers result_address.0) place_is none value m.work l.top.registers l.top.now put_plain (λ r low. refl) s.activation.kept.temporaries)
        h
        (goes_within g 0 (200 + 6 * size_in g.core of) l (at l h (LowReturn left ∷ rest)) (goes_then g 0 1 0 l (at l ready.h (copies ++ (LowReturn left ∷ rest))) (at l h (LowReturn left ∷ rest)) (omega arith) ready.goes
        (none_goes g l (omega arith) words size source target ready.h (LowReturn left ∷ rest) none)) (omega arith))
    parts_by ready (inl more) =
        let s = next.stays in
        let small = result_small g fit m l floors is next c cs lc lcs above lows of some has offset home in
        let top = limit_here g fit floors m l s in
        let end = fit.placed.top in
        let a = (here m floors).base + offset in
        let b = l.top.registers result_address.0 in
        let address = ready.address in
        let q = all_of (local (length m.callers) (result_of_routine g.core (here m floors).number)) in
        let one = result_at g fit m l floors is next c cs lc lcs above lows of some has offset home a (inr refl) in
        let size_word = small.size in
        let it = some_go g l (omega arith) words size source target ready.h (LowReturn left ∷ rest) a b more (omega arith) (omega arith) (there ready.there) (omega arith)
        (copyable g fit m l floors s of small q place a b one place_is more)
        (all_whole g fit m l floors s of small q place a b one place_is more)
        fit.placed.runtime (room_there g fit m l floors s l refl refl) (omega arith) (λ long. (refl, refl)) in
        done it.memory
        (stays_copied g fit m l floors s of small q place a b one place_is more it.memory it.copied m.work l.top.registers l.top.now put_plain (λ r low. refl) s.activation.kept.temporaries)
        it.h
        (goes_within g 0 (200 + 6 * size_in g.core of) l (having l it.h (LowReturn left ∷ rest) it.memory) (goes_then g 0 1 0 l (at l ready.h (copies ++ (LowReturn left ∷ rest))) (having l it.h (LowReturn left ∷ rest) it.memory) (omega arith) ready.goes it.goes) (omega arith))
      where
        there : (size ≡ 0) ⊎ (ready.h 0 ≡ (here m floors).base + offset) → ready.h 0 + 0 ≡ (here m floors).base + offset
        there (inl none) = absurd (omega arith)
        there (inr same) = omega arith

  pub parts_result_comes : Comes g m l
  parts_result_comes =
      let (offset, home) = next.stays.activation.floor.fits.composites variable has.0 (ap (shape_of g.core) has.1 ∙ parts) in
      parts_by offset home (source_ready offset home) (cases_lt 0 size)

-- ---- all functions, and all routines

module _ (g : Setting) (fit : IsFitting g) (m : MirState) (l : State) (floors : ℕ → Floor) (is : List Instruction) (next : Next g m l floors Return is) (due : AreStillDue g m) (of : TypeId) (some : result_of (slice_get g.core.routines (here m floors).number) ≡ Some of) (has : HasResult g.core (here m floors).number of) where
  function_by : (cs : List MirCaller) (ls : List Caller) → m.callers ≡ cs → l.callers ≡ ls → CallersStand g floors m.world.memory m.world.bound cs ls m.routine (l.top.registers result_address.0) l.limit l.room m.charged → Comes g m l
  function_by [] ls above lows s = main_comes g fit m l floors is next above due
  function_by (c ∷ cs) [] above lows s = absurd s
  function_by (c ∷ cs) (lc ∷ lcs) above lows s = by c.receiver refl typed_here known.result
    where
      known : Waits g floors m l c cs lc lcs
      known = caller g fit m l floors is next c cs lc lcs above lows of some has

      typed_here : IsTypedReceiver g.core c.receiver (Some of)
      typed_here = subst (λ o. IsTypedReceiver g.core c.receiver o) (ap (λ r. result_of (slice_get g.core.routines r)) (sym next.stays.activation.number) ∙ some) known.typed

      parts_by_place : (type : TypeId) (path : Path) → c.receiver ≡ to_place type path → IsTypedReceiver g.core (to_place type path) (Some of) → ResultGoes g floors (length cs) known.declared (to_place type path) lc (l.top.registers result_address.0) → Comes g m l
      parts_by_place type path e (k, is_path, same, parts) (n, path_is, receiver_is, low) =
          parts_result_comes g fit m l floors is next c cs lc lcs above lows of some has type n (e ∙ ap (to_place type) path_is) same (ap (shape_of g.core) same ∙ parts) receiver_is

      by : (r : Receiver) → c.receiver ≡ r → IsTypedReceiver g.core c.receiver (Some of) → ResultGoes g floors (length cs) known.declared c.receiver lc (l.top.registers result_address.0) → Comes g m l
      by nowhere e is_typed result = absurd (subst (λ r. IsTypedReceiver g.core r (Some of)) e is_typed)
      by (to_temp t) e is_typed result =
          let (kind, shape) = subst (λ r. IsTypedReceiver g.core r (Some of)) e is_typed in
          number_result_comes g fit m l floors is next c cs lc lcs above lows of some has kind shape
      by (to_place type path) e is_typed result =
          parts_by_place type path e (subst (λ r. IsTypedReceiver g.core r (Some of)) e is_typed) (subst (λ r. ResultGoes g floors (length cs) known.declared r lc (l.top.registers result_address.0)) e result)

  pub function_comes : Comes g m l
  function_comes = function_by m.callers l.callers refl refl next.stays.callers

-- every return comes along
pub return_comes : (g : Setting) → IsFitting g → (m : MirState) (l : State) (floors : ℕ → Floor) (is : List Instruction) → AreStillDue g m → Next g m l floors Return is → Comes g m l
return_comes g fit m l floors is due next = by (result_of (slice_get g.core.routines (here m floors).number)) refl
  where
    by : (result : Option TypeId) → result_of (slice_get g.core.routines (here m floors).number) ≡ result → Comes g m l
    by None none = procedure_comes g fit m l floors is next due none
    by (Some of) some = function_comes g fit m l floors is next due of some (fit.program.results (here m floors).number of some)
