-- Numbers in memory: which may be loaded and stored, and what that is to values.
use Rattle.std.proofs.Common.{◌≡◌, ◌≤◌, ◌<◌, ◌⊎◌, inl, inr, ℕ, ℤ, zero, suc, ◌+◌, ◌-◌, List, ◌∷◌, length, refl, sym, ap, ap₂, ◌∙◌, subst, arith, get_or}
use Rattle.std.specs.Prelude.{◌^◌, ◌%◌, pos, Bool, true, false, ◌&&◌, nat_eq, nat_le, nat_lt, if◌then◌else◌}
use Rattle.std.specs.Int.{bytes_low_first, cast_signed, w8, w16}
use Rattle.std.proofs.lemmas.Bool.{cond-true, cases_lt}
use Rattle.std.proofs.lemmas.Bool.Decides.{nat_tests}
use Rattle.op_compute.proofs.Words.{number_is}
use Rattle.op_compute.specs.Meaning.{IsWordOf}
use Rattle.op_compute.specs.Straight.{at}
use Rattle.op_constants.proofs.Lying.{leads_aligned, leads_within, part_lies}
use Rattle.op_constants.proofs.Stores.{byte_fits, half_fits, stored}
use Rattle.op_constants.proofs.TypesArranged.{type_is_arranged}
use Rattle.op_constants.specs.Arranged.{IsSmall}
use Rattle.op_constants.specs.Lies.{IsAligned, Lies, arrangement_by, arrangement_of, arrangement_within, bytes_in, load_op as load_meant, number_there, one_number, store_op as store_meant}
use Rattle.op_constants.specs.Offsets.{size_in}
use Rattle.op_core.specs.Sizes.{integer_size, type_at}
use Rattle.op_core.specs.declared.ids.TypeId.{TypeId}
use Rattle.op_core.specs.declared.program.Core.{Core}
use Rattle.op_core.specs.declared.types.IntegerKind.TheVariants.{Signed8, Unsigned8, Signed16, Unsigned16, Signed32}
use Rattle.op_core.specs.declared.types.IntegerKind.{IntegerKind}
use Rattle.op_places.specs.Moves.{load_op, store_op}
use Rattle.op_low.specs.Machine.{act, load, store}
use Rattle.op_low.specs.State.{State, bad, keep, usable}
use Rattle.op_low.specs.declared.ids.VirtualRegister.{VirtualRegister}
use Rattle.op_low.specs.declared.instruction.Instruction.TheVariants.{Load, Store}
use Rattle.op_low.specs.declared.instruction.Instruction.{Instruction}
use Rattle.op_meaning.specs.Numbers.{low_bits_of}
use Rattle.op_meaning.specs.Shapes.{shape_of, single}
use Rattle.op_meaning.specs.Values.{Place, number, number_in}
use Rattle.op_meaning.specs.World.{value_at}
use Rattle.op_mir.specs.Machine.{MirState}
use Rattle.op_rv.proofs.Memory.{all_of, four-bounded, with_bytes-bounded, with_bytes-outside}
use Rattle.op_rv.specs.Operation.{signed}
use Rattle.op_rv.specs.State.{all_from, half_at, with_bytes}
use Rattle.op_rv.specs.Step.{can_access, load_size_of, load_value, offset_from, store_size_of}
use Rattle.op_agreement.proofs.Charting.{live_stands}
use Rattle.op_agreement.proofs.Going.{Goes, goes_one, goes_to}
use Rattle.op_agreement.proofs.Updating.{Changed, floors_here, limit_here}
use Rattle.op_agreement.specs.Chart.{Floor, IsAt, address_of, type_held}
use Rattle.op_agreement.specs.Fitting.{IsFitting}
use Rattle.op_agreement.specs.Settings.{Setting}
use Rattle.op_agreement.specs.Stands.{Stays}

-- ---- kinds

same_load : (kind : IntegerKind) → load_op kind ≡ load_meant kind
same_load Signed8 = refl
same_load Unsigned8 = refl
same_load Signed16 = refl
same_load Unsigned16 = refl
same_load Signed32 = refl

same_store : (kind : IntegerKind) → store_op kind ≡ store_meant kind
same_store Signed8 = refl
same_store Unsigned8 = refl
same_store Signed16 = refl
same_store Unsigned16 = refl
same_store Signed32 = refl

load_size : (kind : IntegerKind) → load_size_of (load_op kind) ≡ integer_size kind
load_size Signed8 = refl
load_size Unsigned8 = refl
load_size Signed16 = refl
load_size Unsigned16 = refl
load_size Signed32 = refl

store_size : (kind : IntegerKind) → store_size_of (store_op kind) ≡ integer_size kind
store_size Signed8 = refl
store_size Unsigned8 = refl
store_size Signed16 = refl
store_size Unsigned16 = refl
store_size Signed32 = refl

pub some_size : (kind : IntegerKind) → 0 < integer_size kind
some_size Signed8 = omega arith
some_size Unsigned8 = omega arith
some_size Signed16 = omega arith
some_size Unsigned16 = omega arith
some_size Signed32 = omega arith

stored_length : (kind : IntegerKind) (v : ℕ) → length (bytes_low_first 0 (store_size_of (store_op kind)) v) ≡ integer_size kind
stored_length Signed8 v = refl
stored_length Unsigned8 v = refl
stored_length Signed16 v = refl
stored_length Unsigned16 v = refl
stored_length Signed32 v = refl

kind_bytes : (kind : IntegerKind) (v k : ℕ) → get_or (bytes_low_first 0 (store_size_of (store_op kind)) v) k 0 < 2 ^ 8
kind_bytes Signed8 v zero = omega arith
kind_bytes Signed8 v (suc k) = omega arith
kind_bytes Unsigned8 v zero = omega arith
kind_bytes Unsigned8 v (suc k) = omega arith
kind_bytes Signed16 v zero = omega arith
kind_bytes Signed16 v (suc zero) = omega arith
kind_bytes Signed16 v (suc (suc k)) = omega arith
kind_bytes Unsigned16 v zero = omega arith
kind_bytes Unsigned16 v (suc zero) = omega arith
kind_bytes Unsigned16 v (suc (suc k)) = omega arith
kind_bytes Signed32 v k = four-bounded v k

-- what is loaded is a word
loaded_word : (kind : IntegerKind) (memory : ℕ → ℕ) (a : ℕ) → ((x : ℕ) → a ≤ x → x < a + integer_size kind → memory x < 2 ^ 8) → load_value (load_op kind) memory a < 2 ^ 32
loaded_word Signed8 memory a bytes = (number_is (cast_signed w8 (memory a)) (byte_fits (memory a) (bytes a (omega arith) (omega arith)))).bound
loaded_word Unsigned8 memory a bytes = let b = bytes a (omega arith) (omega arith) in omega arith
loaded_word Signed16 memory a bytes = let b = bytes a (omega arith) (omega arith) in let c = bytes (a + 1) (omega arith) (omega arith) in (number_is (cast_signed w16 (half_at memory a)) (half_fits (half_at memory a) (omega arith))).bound
loaded_word Unsigned16 memory a bytes = let b = bytes a (omega arith) (omega arith) in let c = bytes (a + 1) (omega arith) (omega arith) in omega arith
loaded_word Signed32 memory a bytes =
    let b0 = bytes a (omega arith) (omega arith) in
    let b1 = bytes (a + 1) (omega arith) (omega arith) in
    let b2 = bytes (a + 2) (omega arith) (omega arith) in
    let b3 = bytes (a + 3) (omega arith) (omega arith) in
    omega arith

-- bytes stay bytes below a limit
pub bounded_below : (limit : ℕ) (memory : ℕ → ℕ) (a : ℕ) (bytes : List ℕ) → ((x : ℕ) → x < limit → memory x < 2 ^ 8) → ((k : ℕ) → get_or bytes k 0 < 2 ^ 8) → (x : ℕ) → x < limit → with_bytes memory a bytes x < 2 ^ 8
bounded_below limit memory a bytes all few x low =
    let t : nat_lt x limit ≡ true = grind (arith, nat_tests) in
    let same : memory x ≡ masked x = sym (ap (λ b. if b then memory x else 0) t) in
    subst (λ v. (if nat_le a x && nat_lt x (a + length bytes) then Rattle.std.specs.Prelude.slice_index bytes (x - a) else v) < 2 ^ 8) (sym same) (with_bytes-bounded masked a bytes mask few x)
  where
    masked : ℕ → ℕ
    masked y = if nat_lt y limit then memory y else 0

    mask : (y : ℕ) → masked y < 2 ^ 8
    mask y = by (cases_lt y limit)
      where
        by : (y < limit) ⊎ (limit ≤ y) → masked y < 2 ^ 8
        by (inl less) = let t : nat_lt y limit ≡ true = grind (arith, nat_tests) in subst (λ b. (if b then memory y else 0) < 2 ^ 8) (sym t) (all y less)
        by (inr more) = let t : nat_lt y limit ≡ false = grind (arith, nat_tests) in subst (λ b. (if b then memory y else 0) < 2 ^ 8) (sym t) (omega arith)

pub number_arranged : (core : Core) (of : TypeId) (kind : IntegerKind) → shape_of core of ≡ single kind → arrangement_of core of ≡ one_number kind
number_arranged core of kind is = ap (arrangement_by (arrangement_within of.0 core) core (size_in core of) (type_at core of)) is

-- ---- what has a right below the limit

pub may_use : (right : ℕ → Bool) (limit a n : ℕ) → ((x : ℕ) → a ≤ x → x < a + n → right x ≡ true) → a + n ≤ limit → all_from (λ x. right x && nat_lt x limit) a n ≡ true
may_use right limit a n each below = all_of (λ x. right x && nat_lt x limit) a n (λ x from to. by x (each x from to) (omega arith))
  where
    by : (x : ℕ) → right x ≡ true → x < limit → (right x && nat_lt x limit) ≡ true
    by x may low = let t : nat_lt x limit ≡ true = grind (arith, nat_tests) in ap₂ (λ a b. a && b) may t

pub may_access : (right : ℕ → Bool) (limit a n : ℕ) → a % n ≡ 0 → ((x : ℕ) → a ≤ x → x < a + n → right x ≡ true) → a + n ≤ limit → can_access (λ x. right x && nat_lt x limit) a n ≡ true
may_access right limit a n aligned each below =
    let t : nat_eq (a % n) 0 ≡ true = ap (λ z. nat_eq z 0) aligned in
    ap₂ (λ a b. a && b) t (may_use right limit a n each below)

plain_offset : (b off : ℕ) → b + off < 2 ^ 32 → offset_from b (pos off) ≡ b + off
plain_offset b off low = omega arith

module _ (g : Setting) (fit : IsFitting g) (m : MirState) (l : State) (floors : ℕ → Floor) (s : Stays g floors m l) where
  -- a place of some bytes that is at an address: the bytes there
  pub record PlaceStands (q : Place) (of : TypeId) (a : ℕ) : Type 0 where
    pub is_at : IsAt g floors (length m.callers) q of a
    pub same : a ≡ address_of g floors q.holder + is_at.distance
    pub below : a + size_in g.core of ≤ l.limit
    pub readable : (x : ℕ) → a ≤ x → x < a + size_in g.core of → g.placement.rights.readable x ≡ true
    pub writable : (x : ℕ) → a ≤ x → x < a + size_in g.core of → g.placement.rights.writable x ≡ true
    pub aligned : IsAligned (arrangement_of g.core of) a
    pub lies : Lies (arrangement_of g.core of) (value_at m.world q) l.memory a

  pub place_stands : (q : Place) (of : TypeId) (a : ℕ) → IsAt g floors (length m.callers) q of a → IsSmall g.core of → 0 < size_in g.core of → PlaceStands q of a
  place_stands q of a is small some = by is.at
    where
      by : (size_in g.core of ≡ 0) ⊎ (a ≡ address_of g floors q.holder + is.distance) → PlaceStands q of a
      by (inl none) = absurd (omega arith)
      by (inr same) =
          let stands = live_stands g fit floors (length m.callers) l.limit (floors_here g fit floors m l s) (limit_here g fit floors m l s) q.holder is.live in
          let whole = type_is_arranged g.core fit.program.extents (type_held g.core floors q.holder) stands.small in
          let part = type_is_arranged g.core fit.program.extents of small in
          let within = leads_within (arrangement_of g.core (type_held g.core floors q.holder)) (arrangement_of g.core of) q.path is.distance whole.arranged is.leads in
          let a_size = whole.size in
          let b_size = part.size in
          let below = stands.below in
          let aligned = leads_aligned (arrangement_of g.core (type_held g.core floors q.holder)) (arrangement_of g.core of) q.path (address_of g floors q.holder) is.distance (whole.aligned (address_of g floors q.holder) (stands.aligned (omega arith))) is.leads in
          let lies = part_lies (arrangement_of g.core (type_held g.core floors q.holder)) (arrangement_of g.core of) q.path (m.world.memory q.holder) l.memory (address_of g floors q.holder) is.distance is.leads (s.lie q.holder is.live) in
          record {
            is_at = is;
            same = same;
            below = omega arith;
            readable = λ x from to. stands.readable x (omega arith) (omega arith);
            writable = λ x from to. stands.writable x (omega arith) (omega arith);
            aligned = subst (IsAligned (arrangement_of g.core of)) (sym same) aligned;
            lies = subst (Lies (arrangement_of g.core of) (value_at m.world q) l.memory) (sym same) lies;
          }

  pub size_of_number : (of : TypeId) (kind : IntegerKind) → shape_of g.core of ≡ single kind → IsSmall g.core of → size_in g.core of ≡ integer_size kind
  size_of_number of kind shape small = sym (type_is_arranged g.core fit.program.extents of small).size ∙ ap bytes_in (number_arranged g.core of kind shape)

  -- a load of a number
  pub number_loads : (q : Place) (of : TypeId) (kind : IntegerKind) (h : ℕ → ℕ) (to base : VirtualRegister) (off : ℕ) (rest : List Instruction) → shape_of g.core of ≡ single kind → IsSmall g.core of → IsAt g floors (length m.callers) q of (h base.0 + off) → h base.0 + off < 2 ^ 32 → Goes g 1 1 (at l h (Load (load_op kind) to base (pos off) ∷ rest)) (at l (λ r. if nat_eq r to.0 then load_value (load_op kind) l.memory (h base.0 + off) else h r) rest) × IsWordOf (load_value (load_op kind) l.memory (h base.0 + off)) (number_in (value_at m.world q))
  unfolding act load
  number_loads q of kind h to base off rest shape small is low =
      let size = size_of_number of kind shape small in
      let some = some_size kind in
      let a = h base.0 + off in
      let stands = place_stands q of a is small (omega arith) in
      let below = stands.below in
      let op_size = load_size kind in
      let aligned : a % integer_size kind ≡ 0 = subst (λ l. IsAligned l a) (number_arranged g.core of kind shape) stands.aligned in
      let can : can_access (usable g.placement.rights.readable (at l h rest)) a (load_size_of (load_op kind)) ≡ true =
      subst (λ n. can_access (λ x. g.placement.rights.readable x && nat_lt x l.limit) a n ≡ true) (sym op_size)
      (may_access g.placement.rights.readable l.limit a (integer_size kind) aligned (λ x from to. stands.readable x from (omega arith)) (omega arith)) in
      let lies : number_in (value_at m.world q) ≡ number_there kind l.memory a = subst (λ r. Lies r (value_at m.world q) l.memory a) (number_arranged g.core of kind shape) stands.lies in
      let v = load_value (load_op kind) l.memory a in (
        goes_to g 1 (at l h (Load (load_op kind) to base (pos off) ∷ rest)) (act g.low g.placement (Load (load_op kind) to base (pos off)) (at l h rest)) (at l (λ r. if nat_eq r to.0 then v else h r) rest)
            (ap (λ x. load g.placement (load_op kind) to x (at l h rest)) (plain_offset (h base.0) off low) ∙ cond-true (can_access (usable g.placement.rights.readable (at l h rest)) a (load_size_of (load_op kind))) (keep to v (at l h rest)) (bad (at l h rest)) can)
            (goes_one g l h (Load (load_op kind) to base (pos off)) rest refl),
        record { number = ap (λ op. signed (load_value op l.memory a)) (same_load kind) ∙ sym lies; bound = loaded_word kind l.memory a (λ x from to. s.bytes x (omega arith)) },
      )

  -- a store of a number
  pub record Stored (q : Place) (of : TypeId) (kind : IntegerKind) (h : ℕ → ℕ) (from base : VirtualRegister) (off : ℕ) (rest : List Instruction) (z : ℤ) : Type 0 where
    pub memory : ℕ → ℕ
    pub goes : Goes g 1 1 (at l h (Store (store_op kind) from base (pos off) ∷ rest)) (record (at l h rest) { memory = memory })
    pub changed : Changed g fit floors m l s memory (h base.0 + off) (size_in g.core of)
    pub bytes : (x : ℕ) → x < l.limit → memory x < 2 ^ 8
    pub lies : Lies (arrangement_of g.core of) (number (low_bits_of kind z)) memory (h base.0 + off)

  pub number_stores : (q : Place) (of : TypeId) (kind : IntegerKind) (h : ℕ → ℕ) (from base : VirtualRegister) (off : ℕ) (rest : List Instruction) (z : ℤ) → shape_of g.core of ≡ single kind → IsSmall g.core of → IsAt g floors (length m.callers) q of (h base.0 + off) → h base.0 + off < 2 ^ 32 → IsWordOf (h from.0) z → Stored q of kind h from base off rest z
  unfolding act store
  number_stores q of kind h from base off rest z shape small is low word =
      let size = size_of_number of kind shape small in
      let some = some_size kind in
      let a = h base.0 + off in
      let stands = place_stands q of a is small (omega arith) in
      let below = stands.below in
      let op_size = store_size kind in
      let aligned : a % integer_size kind ≡ 0 = subst (λ l. IsAligned l a) (number_arranged g.core of kind shape) stands.aligned in
      let can : can_access (usable g.placement.rights.writable (at l h rest)) a (store_size_of (store_op kind)) ≡ true =
      subst (λ n. can_access (λ x. g.placement.rights.writable x && nat_lt x l.limit) a n ≡ true) (sym op_size)
      (may_access g.placement.rights.writable l.limit a (integer_size kind) aligned (λ x from to. stands.writable x from (omega arith)) (omega arith)) in
      let bytes = bytes_low_first 0 (store_size_of (store_op kind)) (h from.0) in
      let long = stored_length kind (h from.0) in
      let memory = with_bytes l.memory a bytes in
      record {
        memory = memory;
        goes = goes_to g 1 (at l h (Store (store_op kind) from base (pos off) ∷ rest)) (act g.low g.placement (Store (store_op kind) from base (pos off)) (at l h rest)) (record (at l h rest) { memory = memory })
            (ap (λ x. store g.placement (store_op kind) (h from.0) x (at l h rest)) (plain_offset (h base.0) off low) ∙ cond-true (can_access (usable g.placement.rights.writable (at l h rest)) a (store_size_of (store_op kind))) (record (at l h rest) { memory = memory }) (bad (at l h rest)) can)
            (goes_one g l h (Store (store_op kind) from base (pos off)) rest refl);
        changed = λ x less far. with_bytes-outside l.memory a bytes x (λ from to. outside x (a + length bytes) a (size_in g.core of) far from to (omega arith));
        bytes = bounded_below l.limit l.memory a bytes s.bytes (kind_bytes kind (h from.0));
        lies = subst (λ r. Lies r (number (low_bits_of kind z)) memory a) (sym (number_arranged g.core of kind shape))
            (sym (ap (λ op. number_there kind (with_bytes l.memory a (bytes_low_first 0 (store_size_of op) (h from.0))) a) (same_store kind) ∙ stored kind l.memory a (h from.0) word.bound ∙ ap (low_bits_of kind) word.number));
      }
    where
      outside : (x end a size : ℕ) → (x < a) ⊎ (a + size ≤ x) → a ≤ x → x < end → end ≤ a + size → ⊥
      outside x end a size (inl before) from to less = omega arith
      outside x end a size (inr behind) from to less = omega arith
