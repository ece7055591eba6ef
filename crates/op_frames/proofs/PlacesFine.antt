-- The low code that comes to places has its operands in range, and takes as many scratch registers as are counted.
use Rattle.std.proofs.Math.Nat.{le-max_left, le-max_right}
use Rattle.op_constants.specs.Offsets.{element_size_by}
use Rattle.op_core.specs.Sizes.{type_at}
use Rattle.op_core.specs.declared.types.CoreType.{CoreType}
use Rattle.op_core.specs.declared.types.CoreType.TheVariants.{Array}
use Rattle.std.proofs.Common.{◌≡◌, ◌<◌, ◌≤◌, ℕ, suc, ℤ, pos, negsuc, ◌+◌, ◌*◌, ◌-◌, ◌^◌, ◌-ℤ◌, max, fold, le_refl, true≢false, Option, Some, None, Bool, true, false, List, [], ◌∷◌, ◌++◌, length, map, nat_eq, nat_le, nat_lt, refl, sym, ap, ◌∙◌, subst, arith, if◌then◌else◌}
use Rattle.std.proofs.lemmas.Bool.{le-leb, leb-true, lt-ltb, ltb-true}
use Rattle.std.specs.Int.{w32, cast_unsigned}
use Rattle.op_compute.specs.Bank.{error_block_of, register_of, scratch_of}
use Rattle.op_compute.specs.Ranges.{distance_code, distance_register, sum_with}
use Rattle.op_compute.specs.declared.bank.RuntimeError.TheVariants.{RangeCheck}
use Rattle.op_constants.specs.Offsets.{element_size, field_offset, size_in}
use Rattle.op_core.specs.declared.program.Core.{Core}
use Rattle.op_core.specs.declared.ids.TypeId.{TypeId}
use Rattle.op_places.specs.Homes.{home_at, offset_of}
use Rattle.op_places.specs.Places.{after, at_register, at_scratch, reach_code, reached, home_of, stored_code, home_code, home_spot, power_of, scale_code, scaled, index_code, behind_code, element_code, step_code, step_spot, steps_code, steps_spot, place_code, place_of}
use Rattle.op_places.specs.declared.frame.Frame.{Frame}
use Rattle.op_places.specs.declared.homes.Home.{Home}
use Rattle.op_places.specs.declared.homes.Home.TheVariants.{Held, Stored, Shared}
use Rattle.op_places.specs.declared.spot.Spot.{Spot}
use Rattle.op_frames.proofs.ComputingFine.{joined, sum_with_fine, distance_fine, register_fine}
use Rattle.op_frames.proofs.Fine.{Bounds, Below, Leads, IsFine, AreFine}
use Rattle.op_frames.specs.Made.{Every}
use Rattle.op_frames.specs.Named.{IsNamedRoot, IsNamedStep, fields_offset}
use Rattle.op_low.specs.Valid.{has_symbol}
use Rattle.op_low.specs.declared.ids.VirtualRegister.{VirtualRegister}
use Rattle.op_low.specs.declared.instruction.Instruction.{Instruction}
use Rattle.op_low.specs.declared.instruction.Instruction.TheVariants.{Const, Address, Local as LocalAddress, Alu, Shift, Branch}
use Rattle.op_lower.specs.Temporaries.{in_step, most_of, up_to}
use Rattle.op_mir.specs.View.{view_root, view_step}
use Rattle.op_mir.specs.declared.ids.LocalId.{LocalId}
use Rattle.op_mir.specs.declared.path.Root.{Root}
use Rattle.op_mir.specs.declared.path.Root.TheVariants.{Global, Local, Through, Temporary}
use Rattle.op_mir.specs.declared.path.Step.{Step}
use Rattle.op_mir.specs.declared.path.Step.TheVariants.{Field, Element}
use Rattle.op_rv.specs.declared.instruction.AluOp.TheVariants.{Add, Mul}
use Rattle.op_rv.specs.declared.instruction.BranchOp.TheVariants.{Bltu}
use Rattle.op_rv.specs.declared.instruction.ShiftOp.TheVariants.{Slli}
use Rattle.op_rv.specs.declared.symbol.Symbol.TheVariants.{Global as GlobalSymbol}

-- a home whose register is there
abbrev pub IsHome : Bounds → Home → Type 0
IsHome m (Held r) = Below m r
IsHome m (Stored offset) = Unit {0}
IsHome m (Shared id) = id.0 < length m.low.globals

-- a routine with its variables and temporaries in registers that are there
pub record IsFrame (m : Bounds) (core : Core) (frame : Frame) : Type 0 where
  pub locals : frame.locals ≡ m.locals
  pub homes : (v : LocalId) → IsHome m (home_at frame.homes v)
  pub scratch : frame.bank.scratch ≤ m.registers
  pub two : 2 ≤ m.registers
  pub errors : frame.bank.errors + 4 ≤ m.blocks
  pub globals : length core.variables < length m.low.globals
  pub sizes : (of : TypeId) → size_in core of ≤ 1048576

-- how many temporaries there are
abbrev pub Temporaries : Frame → ℕ → Type 0
Temporaries frame n = frame.bank.temporaries + n ≡ frame.bank.scratch

-- ---- numbers

pub word_of_number : (n : ℕ) → n < 2 ^ 32 → cast_unsigned w32 (pos n) < 2 ^ 32
word_of_number n p = p

power_below : (n : ℕ) → nat_lt (power_of n) 32 ≡ true
power_below n = by (nat_eq n 2) (nat_eq n 4) (nat_eq n 8) (nat_eq n 16) (nat_eq n 32) (nat_eq n 64)
  where
    by : (a b c d e f : Bool) → nat_lt (if a then 1 else if b then 2 else if c then 3 else if d then 4 else if e then 5 else if f then 6 else 0) 32 ≡ true
    by true b c d e f = refl
    by false true c d e f = refl
    by false false true d e f = refl
    by false false false true e f = refl
    by false false false false true f = refl
    by false false false false false true = refl
    by false false false false false false = refl

pub element_small : (core : Core) → ((of : TypeId) → size_in core of ≤ 1048576) → (of : TypeId) → element_size core of ≤ 1048576
element_small core small of = small_by (type_at core of)
  where
    small_by : (t : Option CoreType) → element_size_by core t ≤ 1048576
    small_by (Some (Array index element)) = small element
    small_by _ = omega arith

-- ---- the temporaries of steps

most_from : {A : Type 0} (f : A → ℕ) (n : ℕ) (xs : List A) → n ≤ fold (λ most x. max most (f x)) n xs
most_from f n [] = le_refl n
most_from f n (x ∷ xs) = let e = most_from f (max n (f x)) xs in omega (arith, e, le-max_left n (f x))

most_over : {A : Type 0} (f : A → ℕ) (n : ℕ) (xs : List A) (k : ℕ) → fold (λ most x. max most (f x)) n xs ≤ k → Every (λ x. f x ≤ k) xs
most_over f n [] k less = tt
most_over f n (x ∷ xs) k less =
    let e = most_from f (max n (f x)) xs in
    (omega (arith, e, le-max_right n (f x), less), most_over f (max n (f x)) xs k less)

-- each part has at most as many as are counted
pub most_each : {A : Type 0} (f : A → ℕ) (xs : List A) (k : ℕ) → most_of f xs ≤ k → Every (λ x. f x ≤ k) xs
most_each f xs k less = most_over f 0 xs k less

-- ---- places

module _ (m : Bounds) (core : Core) (frame : Frame) (n : ℕ) (is : IsFrame m core frame) (temporaries : Temporaries frame n) where
  pub temporary_below : (t : ℕ) → t < n → frame.bank.temporaries + t < m.registers
  temporary_below t p = omega (arith, p, temporaries, is.scratch)

  stored_by : (inside : Bool) (to : VirtualRegister) (offset : ℕ) → nat_lt offset frame.locals ≡ inside → Below m to → AreFine m (if inside then LocalAddress to offset ∷ [] else Const to 0 ∷ [])
  stored_by true to offset e t = ((t, subst (λ l. offset < l) is.locals (ltb-true offset frame.locals e)), tt)
  stored_by false to offset e t = ((t, omega arith), tt)

  stored_fine : (to : VirtualRegister) (offset : ℕ) → Below m to → AreFine m (stored_code frame to offset)
  stored_fine to offset t = stored_by (nat_lt offset frame.locals) to offset refl t

  home_fine : (free : VirtualRegister) (home : Home) → IsHome m home → Below m free → AreFine m (home_code frame free home)
  unfolding has_symbol
  home_fine free (Held r) h f = tt
  home_fine free (Stored offset) h f = stored_fine free offset f
  home_fine free (Shared id) h f = ((f, lt-ltb id.0 (length m.low.globals) h), tt)

  pub root_home : (root : Root) → IsNamedRoot core (view_root root) → IsHome m (home_of core frame root)
  root_home (Global v) named = omega (arith, is.globals, named)
  root_home (Local v) named = is.homes v
  root_home (Through v) named = is.homes v
  root_home (Temporary of k) named = tt

  -- ---- spots: the base is there, and so many scratch registers are left

  pub record IsSpot (free : ℕ) (spot : Spot) : Type 0 where
    pub base : Below m spot.base
    pub free_is : spot.free.0 ≤ free

  begin_spot : (free : VirtualRegister) (home : Home) → IsHome m home → Below m free → IsSpot (free.0 + 1) (home_spot free home)
  begin_spot free (Held r) h f = record { base = h; free_is = omega arith }
  begin_spot free (Stored offset) h f = record { base = f; free_is = omega arith }
  begin_spot free (Shared id) h f = record { base = f; free_is = omega arith }

  -- ---- elements

  scale_by : (one none : Bool) (to from via : VirtualRegister) (size : ℕ) → size ≤ 1048576 → Below m to → Below m from → Below m via → AreFine m (if one then [] else if none then Const via size ∷ Alu Mul to from via ∷ [] else Shift Slli to from (power_of size) ∷ [])
  scale_by true none to from via size small t f v = tt
  scale_by false true to from via size small t f v = ((v, omega (arith, small)), ((t, f, v), tt))
  scale_by false false to from via size small t f v = ((t, f, power_below size), tt)

  scale_fine : (to from via : VirtualRegister) (size : ℕ) → size ≤ 1048576 → Below m to → Below m from → Below m via → AreFine m (scale_code to from via size)
  unfolding scale_code
  scale_fine to from via size small t f v = scale_by (nat_eq size 1) (nat_eq (power_of size) 0) to from via size small t f v

  scaled_below : (one : Bool) (to from : VirtualRegister) → Below m to → Below m from → Below m (if one then from else to)
  scaled_below true to from t f = f
  scaled_below false to from t f = t

  behind_fine : (to base distance via : VirtualRegister) (size : ℕ) → size ≤ 1048576 → Below m to → Below m base → Below m distance → Below m via → AreFine m (behind_code to base distance via size)
  unfolding behind_code
  behind_fine to base distance via size small t b d v =
      joined m _ _ (scale_fine to distance via size small t d v) ((t, b, scaled_below (nat_eq size 1) to distance t d), tt)

  index_fine : (to via index : VirtualRegister) (low high : ℤ) → cast_unsigned w32 (high -ℤ low) < 2 ^ 32 → Below m to → Below m via → Below m index → AreFine m (index_code frame to via index low high)
  unfolding index_code
  index_fine to via index low high gap t v i =
      joined m _ _ (distance_fine m to index low t i) ((v, gap), ((v, register_fine m to index low t i, omega (arith, is.errors)), tt))

  element_fine : (low high : ℤ) (index : VirtualRegister) (size : ℕ) (spot : Spot) → cast_unsigned w32 (high -ℤ low) < 2 ^ 32 → size ≤ 1048576 → Below m index → Below m spot.base → spot.free.0 + 2 ≤ m.registers → AreFine m (element_code frame low high index size spot)
  unfolding element_code
  element_fine low high index size spot gap small i b less =
      let t : spot.free.0 < m.registers = omega (arith, less) in
      let v : spot.free.0 + 1 < m.registers = omega (arith, less) in
      joined m _ _ (index_fine spot.free (after spot.free) index low high gap t v i) (behind_fine spot.free spot.base (distance_register spot.free index low) (after spot.free) size small t b (register_fine m spot.free index low t i) v)

  -- ---- paths

  steps_fine : (steps : List Step) (spot : Spot) → Every IsNamedStep (map view_step steps) → Every (λ s. in_step s ≤ n) steps → Below m spot.base → spot.free.0 + 2 * length steps ≤ m.registers → AreFine m (steps_code core frame steps spot)
  steps_fine [] spot named t b less = tt
  steps_fine (Field of k ∷ steps) spot named t b less = steps_fine steps (step_spot core (Field of k) spot) named.1 t.1 b (omega (arith, less))
  steps_fine (Element of low high index ∷ steps) spot named t b less =
      let less' : spot.free.0 + 2 * suc (length steps) ≤ m.registers = less in
      joined m _ _ (element_fine low high (register_of frame.bank index) (element_size core of) spot named.0 (element_small core is.sizes of) (temporary_below index.0 (omega (arith, t.0))) b (omega (arith, less')))
      (steps_fine steps (step_spot core (Element of low high index) spot) named.1 t.1 (omega (arith, less')) (omega (arith, less')))

  steps_end : (steps : List Step) (spot : Spot) → Below m spot.base → spot.free.0 + 2 * length steps ≤ m.registers → IsSpot (spot.free.0 + length steps) (steps_spot core steps spot)
  steps_end [] spot b less = record { base = b; free_is = omega arith }
  steps_end (Field of k ∷ steps) spot b less =
      let less' : spot.free.0 + 2 * suc (length steps) ≤ m.registers = less in
      let rest = steps_end steps (step_spot core (Field of k) spot) b (omega (arith, less')) in
      record { base = rest.base; free_is = omega (arith, rest.free_is) }
  steps_end (Element of low high index ∷ steps) spot b less =
      let less' : spot.free.0 + 2 * suc (length steps) ≤ m.registers = less in
      let rest = steps_end steps (step_spot core (Element of low high index) spot) (omega (arith, less')) (omega (arith, less')) in
      record { base = rest.base; free_is = omega (arith, rest.free_is) }

  steps_offset : (steps : List Step) (spot : Spot) → (steps_spot core steps spot).offset ≡ spot.offset + fields_offset core (map view_step steps)
  steps_offset [] spot = omega arith
  steps_offset (Field of k ∷ steps) spot = let rest = steps_offset steps (step_spot core (Field of k) spot) in omega (arith, rest)
  steps_offset (Element of low high index ∷ steps) spot = steps_offset steps (step_spot core (Element of low high index) spot)

  reach_by : (near : Bool) (limit : ℕ) (spot : Spot) → spot.offset < 2 ^ 32 → (near ≡ false → Below m spot.free) → Below m spot.base → AreFine m (if near then [] else sum_with spot.free spot.free spot.base (pos spot.offset))
  reach_by true limit spot o f b = tt
  reach_by false limit spot o f b = sum_with_fine m spot.free spot.free spot.base (pos spot.offset) (word_of_number spot.offset o) (f refl) (f refl) b

  reached_by : (near : Bool) (k : ℕ) (spot : Spot) → IsSpot k spot → (near ≡ false → spot.free.0 + 1 ≤ k) → (near ≡ false → Below m spot.free) → IsSpot k (if near then spot else at_scratch spot.free)
  reached_by true k spot s room f = s
  reached_by false k spot s room f = record { base = f refl; free_is = room refl }

  reached_near : (near : Bool) (limit : ℕ) (spot : Spot) → nat_le spot.offset limit ≡ near → (if near then spot else at_scratch spot.free).offset ≤ limit
  reached_near true limit spot e = leb-true spot.offset limit e
  reached_near false limit spot e = omega arith

  pub place_near : (limit : ℕ) (root : Root) (steps : List Step) (free : VirtualRegister) → (place_of core frame limit root steps free).offset ≤ limit
  place_near limit root steps free = reached_near _ limit (steps_spot core steps (home_spot free (home_of core frame root))) refl

  begin_offset : (free : VirtualRegister) (home : Home) → (home_spot free home).offset ≡ 0
  begin_offset free (Held r) = refl
  begin_offset free (Stored offset) = refl
  begin_offset free (Shared id) = refl

  -- where a distance has to be reached there is a step
  far_steps : (limit : ℕ) (steps : List Step) (spot : Spot) → spot.offset ≡ 0 → nat_le (steps_spot core steps spot).offset limit ≡ false → 1 ≤ length steps
  far_steps limit [] spot zero e =
      let near : nat_le spot.offset limit ≡ true = ap (λ o. nat_le o limit) zero ∙ le-leb 0 limit (omega arith) in
      absurd (true≢false (sym near ∙ e))
  far_steps limit (s ∷ steps) spot zero e = omega arith

  module _ (limit : ℕ) (root : Root) (steps : List Step) (free : VirtualRegister) (named : IsNamedRoot core (view_root root)) (each : Every IsNamedStep (map view_step steps)) (offset : fields_offset core (map view_step steps) < 2 ^ 32) (t : Every (λ s. in_step s ≤ n) steps) (room : free.0 + (1 + 2 * length steps) ≤ m.registers) where
    pub place_fine : AreFine m (place_code core frame limit root steps free)
    place_fine =
        let home = home_of core frame root in
        let h = root_home root named in
        let f : free.0 < m.registers = omega (arith, room) in
        let begin = home_spot free home in
        let s = begin_spot free home h f in
        let less : begin.free.0 + 2 * length steps ≤ m.registers = omega (arith, s.free_is, room) in
        let end = steps_end steps begin s.base less in
        let zero = begin_offset free home in
        let far = far_steps limit steps begin zero in
        let distance : (steps_spot core steps begin).offset < 2 ^ 32 = omega (arith, steps_offset steps begin, zero, offset) in
        joined m _ _ (joined m _ _ (home_fine free home h f) (steps_fine steps begin each t s.base less))
        (reach_by (nat_le (steps_spot core steps begin).offset limit) limit (steps_spot core steps begin) distance (λ e. omega (arith, far e, end.free_is, s.free_is, room)) end.base)

    pub place_spot : IsSpot (free.0 + (1 + 2 * length steps)) (place_of core frame limit root steps free)
    place_spot =
        let home = home_of core frame root in
        let h = root_home root named in
        let f : free.0 < m.registers = omega (arith, room) in
        let begin = home_spot free home in
        let s = begin_spot free home h f in
        let less : begin.free.0 + 2 * length steps ≤ m.registers = omega (arith, s.free_is, room) in
        let end = steps_end steps begin s.base less in
        let far = far_steps limit steps begin (begin_offset free home) in
        let all : IsSpot (free.0 + (1 + 2 * length steps)) (steps_spot core steps begin) = record { base = end.base; free_is = omega (arith, end.free_is, s.free_is) } in
        reached_by (nat_le (steps_spot core steps begin).offset limit) (free.0 + (1 + 2 * length steps)) (steps_spot core steps begin) all (λ e. omega (arith, far e, end.free_is, s.free_is)) (λ e. omega (arith, far e, end.free_is, s.free_is, room))
