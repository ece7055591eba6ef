-- The code that copies bytes copies them: none, few one by one, and more by a run-time routine.
use Rattle.std.proofs.Common.{◌≡◌, ◌≢◌, ◌≤◌, ◌<◌, ◌⊎◌, inl, inr, ℕ, zero, suc, ◌+◌, ◌*◌, List, [], ◌∷◌, ◌++◌, None, refl, sym, ap, ap₂, ◌∙◌, subst, arith, append_assoc}
use Rattle.std.specs.Prelude.{◌^◌, ◌%◌, pos, Bool, true, false, ◌&&◌, nat_eq, nat_lt, slice_index, if◌then◌else◌}
use Rattle.std.specs.Int.{bytes_low_first}
use Rattle.std.proofs.lemmas.Bool.{cond-true}
use Rattle.std.proofs.lemmas.Bool.Decides.{nat_tests}
use Rattle.op_compute.proofs.Registers.{put_lower, put_other, put_same}
use Rattle.op_compute.specs.Straight.{at, put}
use Rattle.op_places.specs.Moves.{bytes_code, copy_number, is_short, unit_code, unit_load, unit_of, unit_store, units_code, units_in}
use Rattle.op_places.specs.declared.spot.Spot.{Spot}
use Rattle.op_low.specs.Machine.{act, load, store}
use Rattle.op_low.specs.State.{State, bad, keep, usable}
use Rattle.op_low.specs.declared.ids.VirtualRegister.{VirtualRegister}
use Rattle.op_low.specs.declared.instruction.Call.{Call as Operands}
use Rattle.op_low.specs.declared.instruction.Instruction.TheVariants.{Call, Const, Load, Store}
use Rattle.op_low.specs.declared.instruction.Instruction.{Instruction}
use Rattle.op_rt_text.proofs.Contracts.{bytes_are_copied, words_are_copied}
use Rattle.op_rt_text.proofs.CopyRun.{Moved, moved_is, moved_on, moved_unit, unit_byte, unit_word}
use Rattle.op_rt_text.specs.Names.{call, routine_id}
use Rattle.op_rt_text.specs.Running.{Allowed, Called, Copies, Copyable, HasRoom, HasRuntime}
use Rattle.op_rv.specs.State.{bytes_from, with_bytes}
use Rattle.op_rv.specs.Step.{can_access, load_size_of, load_value, offset_from, store_size_of}
use Rattle.op_agreement.proofs.Elements.{KeptBelow}
use Rattle.op_agreement.proofs.Going.{Goes, goes_fewer, goes_from, goes_none, goes_one, goes_then, goes_to, goes_within, goes_path}
use Rattle.op_agreement.proofs.Memory.{may_access}
use Rattle.op_agreement.specs.Settings.{Setting}

-- ---- units

-- what a unit is
unit_loaded : (words : Bool) → load_size_of (unit_load words) ≡ unit_of words
unit_loaded true = refl
unit_loaded false = refl

unit_stored : (words : Bool) → store_size_of (unit_store words) ≡ unit_of words
unit_stored true = refl
unit_stored false = refl

unit_is : (words : Bool) (memory : ℕ → ℕ) (a : ℕ) → ((x : ℕ) → a ≤ x → x < a + unit_of words → memory x < 2 ^ 8) → bytes_low_first 0 (store_size_of (unit_store words)) (load_value (unit_load words) memory a) ≡ bytes_from memory a (unit_of words)
unit_is true memory a bytes = unit_word memory a bytes
unit_is false memory a bytes = unit_byte memory a bytes

unit_some : (words : Bool) → (0 < unit_of words) × (unit_of words ≤ 4)
unit_some true = (omega arith, omega arith)
unit_some false = (omega arith, omega arith)

-- so many units are all bytes
units_all : (words : Bool) (size : ℕ) → size % unit_of words ≡ 0 → units_in words size * unit_of words ≡ size
units_all true size whole = omega arith
units_all false size whole = omega arith

-- a unit behind units is at a multiple too
unit_behind : (words : Bool) (a k : ℕ) → a % unit_of words ≡ 0 → (a + k * unit_of words) % unit_of words ≡ 0
unit_behind true a k whole = omega arith
unit_behind false a k whole = omega arith

-- an address that is a word
plain_offset : (b off : ℕ) → b + off < 2 ^ 32 → offset_from b (pos off) ≡ b + off
plain_offset b off low = omega arith

-- a state with other registers, code and memory
abbrev pub having : State → (ℕ → ℕ) → List Instruction → (ℕ → ℕ) → State
having l h now memory = record (at l h now) { memory = memory }

-- a front and the rest of what may be used
open_front : (right : ℕ → Bool) (limit a n k : ℕ) → Allowed right limit a (n + k) → Allowed right limit a n
open_front right limit a n k it = let below = it.below in record { may = λ x from before. it.may x from (omega arith); below = omega arith }

open_back : (right : ℕ → Bool) (limit a n k : ℕ) → Allowed right limit a (n + k) → Allowed right limit (a + n) k
open_back right limit a n k it = let below = it.below in record { may = λ x from before. it.may x (omega arith) (omega arith); below = omega arith }

same_byte : (x y : ℕ) → x ≡ y → y < 2 ^ 8 → x < 2 ^ 8
same_byte x y same low = omega arith

-- one register changes, again
kept_on : (h f : ℕ → ℕ) (to : VirtualRegister) (v : ℕ) → ((r : ℕ) → r ≢ to.0 → h r ≡ f r) → (r : ℕ) → r ≢ to.0 → put h to v r ≡ f r
kept_on h f to v kept r differs = put_other h to v r differs ∙ kept r differs

module _ (g : Setting) (l : State) (limit : l.limit ≤ 2 ^ 32) (words : Bool) (source target : Spot) (base : target.base.0 < target.free.0) where
  -- one unit is loaded and stored
  unit_goes : (k : ℕ) (h memory : ℕ → ℕ) (rest : List Instruction) (a b : ℕ) → h source.base.0 + (source.offset + k * unit_of words) ≡ a → h target.base.0 + (target.offset + k * unit_of words) ≡ b → Allowed g.placement.rights.readable l.limit a (unit_of words) → Allowed g.placement.rights.writable l.limit b (unit_of words) → a % unit_of words ≡ 0 → b % unit_of words ≡ 0 → ((x : ℕ) → a ≤ x → x < a + unit_of words → memory x < 2 ^ 8) → Goes g 2 2 (having l h (unit_code words k source target ++ rest) memory) (having l (put h target.free (load_value (unit_load words) memory a)) rest (with_bytes memory b (bytes_from memory a (unit_of words))))
  unfolding act load store put
  unit_goes k h memory rest a b from_is to_is readable writable from_whole to_whole bytes =
      let m = record l { memory = memory } in
      let some = unit_some words in
      let from_below = readable.below in
      let to_below = writable.below in
      let loads = Load (unit_load words) target.free source.base (pos (source.offset + k * unit_of words)) in
      let stores = Store (unit_store words) target.free target.base (pos (target.offset + k * unit_of words)) in
      let v = load_value (unit_load words) memory a in
      let h1 = put h target.free v in
      let from_at : offset_from (h source.base.0) (pos (source.offset + k * unit_of words)) ≡ a = plain_offset (h source.base.0) (source.offset + k * unit_of words) (omega arith) ∙ from_is in
      let same : h1 target.base.0 ≡ h target.base.0 = put_lower h target.free v target.base.0 base in
      let to_at : offset_from (h1 target.base.0) (pos (target.offset + k * unit_of words)) ≡ b = plain_offset (h1 target.base.0) (target.offset + k * unit_of words) (omega arith) ∙ ap (λ x. x + (target.offset + k * unit_of words)) same ∙ to_is in
      let can_load : can_access (usable g.placement.rights.readable (at m h (stores ∷ rest))) a (load_size_of (unit_load words)) ≡ true =
      subst (λ n. can_access (λ x. g.placement.rights.readable x && nat_lt x l.limit) a n ≡ true) (sym (unit_loaded words)) (may_access g.placement.rights.readable l.limit a (unit_of words) from_whole readable.may from_below) in
      let can_store : can_access (usable g.placement.rights.writable (at m h1 rest)) b (store_size_of (unit_store words)) ≡ true =
      subst (λ n. can_access (λ x. g.placement.rights.writable x && nat_lt x l.limit) b n ≡ true) (sym (unit_stored words)) (may_access g.placement.rights.writable l.limit b (unit_of words) to_whole writable.may to_below) in
      let loaded : h1 target.free.0 ≡ v = put_same h target.free v in
      let first : Goes g 1 1 (at m h (loads ∷ stores ∷ rest)) (at m h1 (stores ∷ rest)) = goes_to g 1 (at m h (loads ∷ stores ∷ rest)) (act g.low g.placement loads (at m h (stores ∷ rest))) (at m h1 (stores ∷ rest))
      (ap (λ x. load g.placement (unit_load words) target.free x (at m h (stores ∷ rest))) from_at ∙ cond-true (can_access (usable g.placement.rights.readable (at m h (stores ∷ rest))) a (load_size_of (unit_load words))) (keep target.free v (at m h (stores ∷ rest))) (bad (at m h (stores ∷ rest))) can_load)
      (goes_one g m h loads (stores ∷ rest) refl) in
      let second : Goes g 1 1 (at m h1 (stores ∷ rest)) (having l h1 rest (with_bytes memory b (bytes_from memory a (unit_of words)))) = goes_to g 1 (at m h1 (stores ∷ rest)) (act g.low g.placement stores (at m h1 rest)) (having l h1 rest (with_bytes memory b (bytes_from memory a (unit_of words))))
      (ap₂ (λ w x. store g.placement (unit_store words) w x (at m h1 rest)) loaded to_at
      ∙ cond-true (can_access (usable g.placement.rights.writable (at m h1 rest)) b (store_size_of (unit_store words))) (having l h1 rest (with_bytes memory b (bytes_low_first 0 (store_size_of (unit_store words)) v))) (bad (at m h1 rest)) can_store
      ∙ ap (λ bs. having l h1 rest (with_bytes memory b bs)) (unit_is words memory a bytes))
      (goes_one g m h1 stores rest refl) in
      goes_then g 1 1 2 (at m h (loads ∷ stores ∷ rest)) (at m h1 (stores ∷ rest)) (having l h1 rest (with_bytes memory b (bytes_from memory a (unit_of words)))) (omega arith) first second

  -- so many units are copied, and only the register that is free changes
  pub record UnitsGo (n : ℕ) (f : ℕ → ℕ) (rest : List Instruction) (a b : ℕ) : Type 0 where
    pub h : ℕ → ℕ
    pub memory : ℕ → ℕ
    pub goes : Goes g n (2 * n) (at l f (units_code words n source target ++ rest)) (having l h rest memory)
    pub kept : (r : ℕ) → r ≢ target.free.0 → h r ≡ f r
    pub moved : Moved l.memory memory b a (n * unit_of words)

  units_go : (n : ℕ) (f : ℕ → ℕ) (rest : List Instruction) (a b : ℕ) → source.base.0 < target.free.0 → f source.base.0 + source.offset ≡ a → f target.base.0 + target.offset ≡ b → Allowed g.placement.rights.readable l.limit a (n * unit_of words) → Allowed g.placement.rights.writable l.limit b (n * unit_of words) → a % unit_of words ≡ 0 → b % unit_of words ≡ 0 → ((x : ℕ) → a ≤ x → x < a + n * unit_of words → l.memory x < 2 ^ 8) → (a + n * unit_of words ≤ b) ⊎ (b ≤ a) → UnitsGo n f rest a b
  units_go zero f rest a b other from_is to_is readable writable from_whole to_whole bytes apart =
      let none : 0 * unit_of words ≡ 0 = omega arith in
      record { h = f; memory = l.memory; goes = goes_none g (at l f rest); kept = λ r differs. refl; moved = record { within = λ j before. absurd (omega arith); outside = λ x out. refl } }
  units_go (suc n) f rest a b other from_is to_is readable writable from_whole to_whole bytes apart =
      let u = unit_of words in
      let more : suc n * u ≡ n * u + u = omega arith in
      let readable_all = subst (Allowed g.placement.rights.readable l.limit a) more readable in
      let writable_all = subst (Allowed g.placement.rights.writable l.limit b) more writable in
      let apart_all = subst (λ z. (a + z ≤ b) ⊎ (b ≤ a)) more apart in
      let first = units_go n f (unit_code words n source target ++ rest) a b other from_is to_is (open_front g.placement.rights.readable l.limit a (n * u) u readable_all) (open_front g.placement.rights.writable l.limit b (n * u) u writable_all) from_whole to_whole (λ x from before. bytes x from (omega arith)) (apart_first apart_all) in
      let from_same : first.h source.base.0 ≡ f source.base.0 = first.kept source.base.0 (λ same. omega arith) in
      let to_same : first.h target.base.0 ≡ f target.base.0 = first.kept target.base.0 (λ same. omega arith) in
      let v = load_value (unit_load words) first.memory (a + n * u) in
      let after = with_bytes first.memory (b + n * u) (bytes_from first.memory (a + n * u) u) in
      let source_kept : (x : ℕ) → a + n * u ≤ x → x < a + n * u + u → first.memory x ≡ l.memory x = λ x from before. first.moved.outside x (λ lower upper. unchanged apart_all x from before lower upper) in
      let second = unit_goes n first.h first.memory rest (a + n * u) (b + n * u) (omega arith) (omega arith) (open_back g.placement.rights.readable l.limit a (n * u) u readable_all) (open_back g.placement.rights.writable l.limit b (n * u) u writable_all) (unit_behind words a n from_whole) (unit_behind words b n to_whole) (λ x from before. same_byte (first.memory x) (l.memory x) (source_kept x from before) (bytes x (omega arith) (omega arith))) in
      record {
        h = put first.h target.free v;
        memory = after;
        goes = goes_within g (suc n) (2 * suc n) (at l f ((units_code words n source target ++ unit_code words n source target) ++ rest)) (having l (put first.h target.free v) rest after) (goes_from g (suc n) (at l f ((units_code words n source target ++ unit_code words n source target) ++ rest)) (at l f (units_code words n source target ++ (unit_code words n source target ++ rest))) (having l (put first.h target.free v) rest after)
            (ap (at l f) (append_assoc (units_code words n source target) (unit_code words n source target) rest))
            (goes_then g n 2 (suc n) (at l f (units_code words n source target ++ (unit_code words n source target ++ rest))) (having l first.h (unit_code words n source target ++ rest) first.memory) (having l (put first.h target.free v) rest after) (omega arith) first.goes second)) (omega arith);
        kept = kept_on first.h f target.free v first.kept;
        moved = subst (Moved l.memory after b a) (sym more) (moved_on l.memory first.memory after b a (n * u) u apart_all first.moved (moved_unit first.memory (b + n * u) (a + n * u) u));
      }
    where
      apart_first : (a + (n * unit_of words + unit_of words) ≤ b) ⊎ (b ≤ a) → (a + n * unit_of words ≤ b) ⊎ (b ≤ a)
      apart_first (inl lower) = inl (omega arith)
      apart_first (inr upper) = inr upper

      unchanged : (a + (n * unit_of words + unit_of words) ≤ b) ⊎ (b ≤ a) → (x : ℕ) → a + n * unit_of words ≤ x → x < a + n * unit_of words + unit_of words → b ≤ x → x < b + n * unit_of words → ⊥
      unchanged (inl lower) x from before at_ under = omega arith
      unchanged (inr upper) x from before at_ under = omega arith

-- ---- all of the code

-- what a copy of so many bytes costs at most
abbrev pub copy_most : ℕ → ℕ
copy_most size = 193 + 6 * size

-- The code comes to what stands behind it: the bytes of the target are those of the source, and nothing else below the limit has changed.
pub record BytesGo (g : Setting) (l : State) (words : Bool) (size : ℕ) (source target : Spot) (f : ℕ → ℕ) (rest : List Instruction) (a b : ℕ) : Type 0 where
  pub h : ℕ → ℕ
  pub memory : ℕ → ℕ
  pub goes : Goes g 1 (copy_most size) (at l f (bytes_code words size source target ++ rest)) (having l h rest memory)
  pub kept : KeptBelow target.free.0 f h
  pub copied : (x : ℕ) → x < l.limit → memory x ≡ with_bytes l.memory b (bytes_from l.memory a size) x

-- a routine that copies has been called
copied_by : (g : Setting) (words : Bool) (m : State) (operands : Operands) (rest : List Instruction) (b a size : ℕ) → Copyable g.placement m b a size → (words ≡ true → (a % 4 ≡ 0) × (b % 4 ≡ 0) × (size % 4 ≡ 0)) → Called g.low g.placement m (copy_number words) (b ∷ a ∷ size ∷ []) operands rest → Copies g.low g.placement m operands rest b a size
copied_by g true m operands rest b a size can whole called =
    let (from_whole, to_whole, all_whole) = whole refl in
    words_are_copied g.low g.placement m operands rest b a size can to_whole from_whole all_whole called
copied_by g false m operands rest b a size can whole called = bytes_are_copied g.low g.placement m operands rest b a size can called

-- words are at multiples of 4, and bytes anywhere
multiples : (words : Bool) (a b size : ℕ) → (words ≡ true → (a % 4 ≡ 0) × (b % 4 ≡ 0) × (size % 4 ≡ 0)) → (a % unit_of words ≡ 0) × (b % unit_of words ≡ 0) × (size % unit_of words ≡ 0)
multiples true a b size whole = whole refl
multiples false a b size whole = (omega arith, omega arith, omega arith)

-- some bytes are some units
units_some : (words : Bool) (n size : ℕ) → n * unit_of words ≡ size → 0 < size → 1 ≤ n
units_some words zero size all some = absurd (omega arith)
units_some words (suc n) size all some = omega arith

module _ (g : Setting) (l : State) (limit : l.limit ≤ 2 ^ 32) (words : Bool) (size : ℕ) (source target : Spot) (f : ℕ → ℕ) (rest : List Instruction) where
  -- nothing at all
  pub none_goes : size ≡ 0 → Goes g 1 1 (at l f (bytes_code words size source target ++ rest)) (at l (put f target.free 0) rest)
  unfolding act put
  none_goes none =
      subst (λ n. Goes g 1 1 (at l f (bytes_code words n source target ++ rest)) (at l (put f target.free 0) rest)) (sym none)
      (goes_one g l f (Const target.free 0) rest refl)

  module _ (a b : ℕ) (some : 0 < size) (source_base : source.base.0 < target.free.0) (target_base : target.base.0 < target.free.0) (from_is : f source.base.0 + source.offset ≡ a) (to_is : f target.base.0 + target.offset ≡ b) (can : Copyable g.placement l b a size) (whole : words ≡ true → (a % 4 ≡ 0) × (b % 4 ≡ 0) × (size % 4 ≡ 0)) where
    abbrev Copied : List Instruction → Type 0
    Copied code = (h : ℕ → ℕ) × (memory : ℕ → ℕ) × Goes g 1 (copy_most size) (at l f (code ++ rest)) (having l h rest memory) × KeptBelow target.free.0 f h × ((x : ℕ) → x < l.limit → memory x ≡ with_bytes l.memory b (bytes_from l.memory a size) x)

    -- one by one
    few_go : is_short words size ≡ true → Copied (units_code words (units_in words size) source target)
    few_go short =
        let eight : units_in words size ≤ 8 = grind (arith, nat_tests) in
        let (from_whole, to_whole, all_whole) = multiples words a b size whole in
        let all = units_all words size all_whole in
        let u = unit_of words in
        let n = units_in words size in
        let it = units_go g l limit words source target target_base n f rest a b source_base from_is to_is (subst (Allowed g.placement.rights.readable l.limit a) (sym all) can.source) (subst (Allowed g.placement.rights.writable l.limit b) (sym all) can.target) from_whole to_whole (λ x from before. can.bytes x from (omega arith)) (subst (λ z. (a + z ≤ b) ⊎ (b ≤ a)) (sym all) can.apart) in
        (it.h, it.memory, goes_within g 1 (copy_most size) (at l f (units_code words n source target ++ rest)) (having l it.h rest it.memory) (goes_fewer g n 1 (at l f (units_code words n source target ++ rest)) (having l it.h rest it.memory) (units_some words n size all some) it.goes) (omega arith), λ r low. it.kept r (λ same. omega arith), λ x low. moved_is l.memory it.memory b a size (subst (Moved l.memory it.memory b a) all it.moved) x)

    module _ (runtime : HasRuntime g.low g.placement) (room : HasRoom g.placement l 256) (word : size < 2 ^ 32) (from_near : source.offset ≡ 0) (to_near : target.offset ≡ 0) where
      abbrev arguments : List VirtualRegister
      arguments = target.base ∷ source.base ∷ target.free ∷ []

      abbrev operands : Operands
      operands = record { arguments = arguments; to = target.free; landing = None }

      abbrev counted : ℕ → ℕ
      counted = put f target.free size

      abbrev before_call : State
      before_call = at l counted (Call (routine_id (copy_number words)) operands ∷ rest)

      -- the call of the run-time routine, behind the number of bytes
      call_stands : Called g.low g.placement before_call (copy_number words) (b ∷ a ∷ size ∷ []) operands rest
      call_stands =
          let to_same : counted target.base.0 ≡ b = put_lower f target.free size target.base.0 target_base ∙ omega arith in
          let from_same : counted source.base.0 ≡ a = put_lower f target.free size source.base.0 source_base ∙ omega arith in
          let size_same : counted target.free.0 ≡ size = put_same f target.free size in
          let to_below = can.target.below in
          let from_below = can.source.below in
          record {
            runtime = runtime;
            running = refl;
            next = refl;
            passed = ap₂ (λ x y. x ∷ y ∷ counted target.free.0 ∷ []) to_same from_same ∙ ap (λ z. b ∷ a ∷ z ∷ []) size_same;
            words = words_are (omega arith) (omega arith);
            room = record { room = room.room; words = room.words; readable = room.readable; writable = room.writable };
          }
        where
          words_are : b < 2 ^ 32 → a < 2 ^ 32 → (k : ℕ) → slice_index (b ∷ a ∷ size ∷ []) k < 2 ^ 32
          words_are p q zero = p
          words_are p q (suc zero) = q
          words_are p q (suc (suc zero)) = word
          words_are p q (suc (suc (suc k))) = omega arith

      many_go : Copied (Const target.free size ∷ call (copy_number words) arguments target.free ∷ [])
      unfolding act put
      many_go =
          let it = copied_by g words before_call operands rest b a size (record { target = can.target; source = can.source; bytes = can.bytes; apart = can.apart }) whole call_stands in
          let h = put counted target.free it.value in
          let code = Const target.free size ∷ call (copy_number words) arguments target.free ∷ [] in
          let second : Goes g 0 (192 + 6 * size) before_call (having l h rest it.memory) = goes_path g it.steps 0 (192 + 6 * size) before_call (having l h rest it.memory) (omega arith) it.path refl in (
            h,
            it.memory,
            goes_within g 1 (copy_most size) (at l f (code ++ rest)) (having l h rest it.memory)
                (goes_then g 1 0 1 (at l f (code ++ rest)) before_call (having l h rest it.memory) (omega arith) (goes_one g l f (Const target.free size) (call (copy_number words) arguments target.free ∷ rest) refl) second) (omega arith),
            λ r low. put_lower counted target.free it.value r low ∙ put_lower f target.free size r low,
            it.copied,
          )

    -- some bytes
    pub some_go : HasRuntime g.low g.placement → HasRoom g.placement l 256 → size < 2 ^ 32 → (is_short words size ≡ false → (source.offset ≡ 0) × (target.offset ≡ 0)) → BytesGo g l words size source target f rest a b
    some_go runtime room word near =
        let t : nat_eq size 0 ≡ false = grind (arith, nat_tests) in
        let (h, memory, goes, kept, copied) = subst (λ c. Copied (if c then Const target.free 0 ∷ [] else (if is_short words size then units_code words (units_in words size) source target else (Const target.free size ∷ call (copy_number words) (target.base ∷ source.base ∷ target.free ∷ []) target.free ∷ [])))) (sym t) (by (is_short words size) refl near) in
        record { h = h; memory = memory; goes = goes; kept = kept; copied = copied }
      where
        by : (short : Bool) → is_short words size ≡ short → (short ≡ false → (source.offset ≡ 0) × (target.offset ≡ 0)) → Copied (if short then units_code words (units_in words size) source target else (Const target.free size ∷ call (copy_number words) (target.base ∷ source.base ∷ target.free ∷ []) target.free ∷ []))
        by true e near = few_go e
        by false e near = let (from_near, to_near) = near refl in many_go runtime room word from_near to_near
