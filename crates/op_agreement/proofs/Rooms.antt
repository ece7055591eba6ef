-- Where the variables of a routine and its temporaries of record and array types begin: one behind the other.
use Rattle.std.proofs.Common.{◌≡◌, ◌≤◌, ◌⊎◌, ℕ, zero, suc, ◌+◌, ◌%◌, Bool, true, false, List, [], ◌∷◌, take, slice_get, Some, refl, sym, ap, ap₂, ◌∙◌, arith, inl, inr, true≢false, if◌then◌else◌}
use Rattle.std.specs.List.{list_any}
use Rattle.op_base.proofs.Tests.{or_second}
use Rattle.op_constants.specs.Offsets.{size_in}
use Rattle.op_core.specs.declared.ids.TypeId.{TypeId}
use Rattle.op_core.specs.declared.program.Core.{Core}
use Rattle.op_core.specs.declared.routine.Variable.{Variable}
use Rattle.op_places.proofs.RoomLemmas.{one_with_both, room_whole, rounded_whole, sum_whole, temporary_is}
use Rattle.op_places.specs.Homes.{end_of, home_at, home_by, homes_from, is_one_root, keeping_of, offset_of, room_behind, room_by, rounded, size_of_root}
use Rattle.op_places.specs.declared.homes.Keeping.{Keeping}
use Rattle.op_places.specs.declared.homes.Keeping.TheVariants.{AsGiven, InRegister, InMemory}
use Rattle.op_places.specs.declared.homes.Room.{Room}
use Rattle.op_mir.specs.declared.path.Root.{Root}
use Rattle.op_mir.specs.declared.path.Root.TheVariants.{Global, Local, Through, Temporary}

-- ---- whole words

-- what is rounded up to whole words is no less
pub rounded_more : (n : ℕ) → n ≤ rounded n
rounded_more n = omega arith

-- ---- the room behind variables

-- the second room begins at no lower register and byte than the first
pub record IsLater (a b : Room) : Type 0 where
  pub register : a.register ≤ b.register
  pub offset : a.offset ≤ b.offset

-- later than what is later
later_then : (a b c : Room) → IsLater a b → IsLater b c → IsLater a c
later_then a b c p q =
    let first = p.register in
    let second = q.register in
    let third = p.offset in
    let fourth = q.offset in
    record { register = omega (arith, first, second); offset = omega (arith, third, fourth) }

-- a room is no earlier than itself
later_same : (a : Room) → IsLater a a
later_same a = record { register = omega arith; offset = omega arith }

-- what a variable leaves is later
later_by : (keeping : Keeping) (size : ℕ) (room : Room) → IsLater room (room_by keeping size room)
later_by AsGiven size room = later_same room
later_by InRegister size room = record { register = omega arith; offset = omega arith }
later_by InMemory size room = record { register = omega arith; offset = omega arith }

module _ (core : Core) (parameters : ℕ) (roots : List Root) where
  -- the room behind variables is later than the room before them
  pub behind_later : (k : ℕ) (room : Room) (vs : List Variable) → IsLater room (room_behind core parameters roots k room vs)
  behind_later k room [] = later_same room
  behind_later k room (v ∷ vs) =
      let next = room_by (keeping_of core parameters roots k v) (size_in core v.of) room in
      later_then room next (room_behind core parameters roots (k + 1) next vs) (later_by (keeping_of core parameters roots k v) (size_in core v.of) room) (behind_later (k + 1) next vs)

  -- the room before a variable is no later than the one behind all
  pub before_all : (k : ℕ) (room : Room) (vs : List Variable) (j : ℕ) → IsLater (room_behind core parameters roots k room (take j vs)) (room_behind core parameters roots k room vs)
  before_all k room vs zero = behind_later k room vs
  before_all k room [] (suc j) = later_same room
  before_all k room (v ∷ vs) (suc j) = before_all (k + 1) (room_by (keeping_of core parameters roots k v) (size_in core v.of) room) vs j

  -- nor than the one before a later variable
  pub before_later : (k : ℕ) (room : Room) (vs : List Variable) (i j : ℕ) → i ≤ j → IsLater (room_behind core parameters roots k room (take i vs)) (room_behind core parameters roots k room (take j vs))
  before_later k room vs zero j low = behind_later k room (take j vs)
  before_later k room vs (suc i) zero low = absurd (omega arith)
  before_later k room [] (suc i) (suc j) low = later_same room
  before_later k room (v ∷ vs) (suc i) (suc j) low = before_later (k + 1) (room_by (keeping_of core parameters roots k v) (size_in core v.of) room) vs i j (omega arith)

  -- the room behind one variable is what this one leaves of the room before it
  pub before_next : (k j n : ℕ) (room : Room) (vs : List Variable) (v : Variable) → n ≡ k + j → slice_get vs j ≡ Some v → room_behind core parameters roots k room (take (suc j) vs) ≡ room_by (keeping_of core parameters roots n v) (size_in core v.of) (room_behind core parameters roots k room (take j vs))
  before_next k j n room [] v at e = absurd cc
  before_next k zero n room (w ∷ vs) v at e =
      let same : w ≡ v = cc in
      let here : k ≡ n = omega arith in
      ap₂ (λ m u. room_by (keeping_of core parameters roots m u) (size_in core u.of) room) here same
  before_next k (suc j) n room (w ∷ vs) v at e = before_next (k + 1) j n (room_by (keeping_of core parameters roots k w) (size_in core w.of) room) vs v (omega arith) e

  -- a variable is at home where the room before it begins
  pub home_there : (k j n : ℕ) (room : Room) (vs : List Variable) (v : Variable) → n ≡ k + j → slice_get vs j ≡ Some v → home_at (homes_from core parameters roots k room vs) (record { 0 = j }) ≡ home_by (keeping_of core parameters roots n v) n (room_behind core parameters roots k room (take j vs))
  home_there k j n room [] v at e = absurd cc
  home_there k zero n room (w ∷ vs) v at e =
      let same : w ≡ v = cc in
      let here : k ≡ n = omega arith in
      ap₂ (λ m u. home_by (keeping_of core parameters roots m u) m room) here same
  home_there k (suc j) n room (w ∷ vs) v at e = home_there (k + 1) j n (room_by (keeping_of core parameters roots k w) (size_in core w.of) room) vs v (omega arith) e

  -- variables leave whole words
  pub behind_whole : (k : ℕ) (room : Room) (vs : List Variable) → room.offset % 4 ≡ 0 → (room_behind core parameters roots k room vs).offset % 4 ≡ 0
  behind_whole k room [] p = p
  behind_whole k room (v ∷ vs) p = behind_whole (k + 1) (room_by (keeping_of core parameters roots k v) (size_in core v.of) room) vs (room_whole (keeping_of core parameters roots k v) (size_in core v.of) room p)

-- ---- temporaries

module _ (core : Core) where
  -- a temporary takes whole words
  root_whole : (root : Root) → size_of_root core root % 4 ≡ 0
  root_whole (Temporary of n) = rounded_whole (size_in core of)
  root_whole (Global v) = refl
  root_whole (Local v) = refl
  root_whole (Through v) = refl

  -- so do all together
  pub end_whole : (offset : ℕ) (roots : List Root) → offset % 4 ≡ 0 → end_of core offset roots % 4 ≡ 0
  end_whole offset [] p = p
  end_whole offset (r ∷ rs) p = end_whole (offset + size_of_root core r) rs (sum_whole offset (size_of_root core r) p (root_whole r))

  -- and end behind the variables
  pub end_later : (offset : ℕ) (roots : List Root) → offset ≤ end_of core offset roots
  end_later offset [] = omega arith
  end_later offset (r ∷ rs) = let rest = end_later (offset + size_of_root core r) rs in omega (arith, rest)

  -- a temporary begins behind the variables
  pub offset_later : (root : Root) (offset : ℕ) (roots : List Root) → offset ≤ offset_of core root offset roots
  offset_later root offset [] = omega arith
  offset_later root offset (r ∷ rs) = by (is_one_root root r) (offset_later root (offset + size_of_root core r) rs)
    where
      by : (one : Bool) → offset + size_of_root core r ≤ offset_of core root (offset + size_of_root core r) rs → offset ≤ (if one then offset else offset_of core root (offset + size_of_root core r) rs)
      by true rest = omega arith
      by false rest = omega (arith, rest)

  -- by whole words
  pub offset_whole : (root : Root) (offset : ℕ) (roots : List Root) → offset % 4 ≡ 0 → offset_of core root offset roots % 4 ≡ 0
  offset_whole root offset [] p = p
  offset_whole root offset (r ∷ rs) p = by (is_one_root root r) (offset_whole root (offset + size_of_root core r) rs (sum_whole offset (size_of_root core r) p (root_whole r)))
    where
      by : (one : Bool) → offset_of core root (offset + size_of_root core r) rs % 4 ≡ 0 → (if one then offset else offset_of core root (offset + size_of_root core r) rs) % 4 ≡ 0
      by true rest = p
      by false rest = rest

  -- and ends in front of the end of all
  pub offset_within : (of : TypeId) (n offset : ℕ) (roots : List Root) → list_any (is_one_root (Temporary of n)) roots ≡ true → offset_of core (Temporary of n) offset roots + rounded (size_in core of) ≤ end_of core offset roots
  offset_within of n offset [] e = absurd (true≢false (sym e))
  offset_within of n offset (r ∷ rs) e = by (is_one_root (Temporary of n) r) refl (offset_within of n (offset + size_of_root core r) rs)
    where
      by : (one : Bool) → is_one_root (Temporary of n) r ≡ one → (list_any (is_one_root (Temporary of n)) rs ≡ true → offset_of core (Temporary of n) (offset + size_of_root core r) rs + rounded (size_in core of) ≤ end_of core (offset + size_of_root core r) rs) → (if one then offset else offset_of core (Temporary of n) (offset + size_of_root core r) rs) + rounded (size_in core of) ≤ end_of core (offset + size_of_root core r) rs
      by true o rest =
          let size : size_of_root core r ≡ rounded (size_in core of) = ap (size_of_root core) (temporary_is of n r o) in
          let later = end_later (offset + size_of_root core r) rs in
          omega (arith, size, later)
      by false o rest = rest (or_second (is_one_root (Temporary of n) r) (list_any (is_one_root (Temporary of n)) rs) o e)

  -- two temporaries lie one behind the other
  pub offsets_apart : (of type : TypeId) (n m offset : ℕ) (roots : List Root) → is_one_root (Temporary of n) (Temporary type m) ≡ false → list_any (is_one_root (Temporary of n)) roots ≡ true → list_any (is_one_root (Temporary type m)) roots ≡ true → (offset_of core (Temporary of n) offset roots + rounded (size_in core of) ≤ offset_of core (Temporary type m) offset roots) ⊎ (offset_of core (Temporary type m) offset roots + rounded (size_in core type) ≤ offset_of core (Temporary of n) offset roots)
  offsets_apart of type n m offset [] apart e f = absurd (true≢false (sym e))
  offsets_apart of type n m offset (r ∷ rs) apart e f = by (is_one_root (Temporary of n) r) (is_one_root (Temporary type m) r) refl refl (offsets_apart of type n m (offset + size_of_root core r) rs apart)
    where
      by : (one other : Bool) → is_one_root (Temporary of n) r ≡ one → is_one_root (Temporary type m) r ≡ other
          → (list_any (is_one_root (Temporary of n)) rs ≡ true → list_any (is_one_root (Temporary type m)) rs ≡ true → (offset_of core (Temporary of n) (offset + size_of_root core r) rs + rounded (size_in core of) ≤ offset_of core (Temporary type m) (offset + size_of_root core r) rs) ⊎ (offset_of core (Temporary type m) (offset + size_of_root core r) rs + rounded (size_in core type) ≤ offset_of core (Temporary of n) (offset + size_of_root core r) rs))
          → ((if one then offset else offset_of core (Temporary of n) (offset + size_of_root core r) rs) + rounded (size_in core of) ≤ (if other then offset else offset_of core (Temporary type m) (offset + size_of_root core r) rs)) ⊎ ((if other then offset else offset_of core (Temporary type m) (offset + size_of_root core r) rs) + rounded (size_in core type) ≤ (if one then offset else offset_of core (Temporary of n) (offset + size_of_root core r) rs))
      by true true o p rest = absurd (true≢false (sym (one_with_both of type n m r o p) ∙ apart))
      by true false o p rest =
          let size : size_of_root core r ≡ rounded (size_in core of) = ap (size_of_root core) (temporary_is of n r o) in
          let later = offset_later (Temporary type m) (offset + size_of_root core r) rs in
          inl (omega (arith, size, later))
      by false true o p rest =
          let size : size_of_root core r ≡ rounded (size_in core type) = ap (size_of_root core) (temporary_is type m r p) in
          let later = offset_later (Temporary of n) (offset + size_of_root core r) rs in
          inr (omega (arith, size, later))
      by false false o p rest =
          rest (or_second (is_one_root (Temporary of n) r) (list_any (is_one_root (Temporary of n)) rs) o e) (or_second (is_one_root (Temporary type m) r) (list_any (is_one_root (Temporary type m)) rs) p f)
