-- The room that variables and temporaries take, and temporaries that are one.
use Rattle.std.proofs.Common.{◌≡◌, ◌≤◌, ℕ, ◌+◌, ◌*◌, ◌/◌, ◌%◌, min, Bool, true, List, [], ◌∷◌, nat_eq, refl, sym, ap₂, ◌∙◌, subst, arith, true≢false}
use Rattle.std.proofs.lemmas.Bool.{and_from, and_parts, eq-eqb, eqb-true}
use Rattle.op_constants.specs.Offsets.{size_in}
use Rattle.op_core.specs.declared.ids.TypeId.{TypeId}
use Rattle.op_core.specs.declared.program.Core.{Core}
use Rattle.op_core.specs.declared.routine.Variable.{Variable}
use Rattle.op_places.specs.Homes.{is_one_root, keeping_of, room_behind, room_by, rounded}
use Rattle.op_places.specs.declared.homes.Keeping.{Keeping}
use Rattle.op_places.specs.declared.homes.Keeping.TheVariants.{AsGiven, InRegister, InMemory}
use Rattle.op_places.specs.declared.homes.Room.{Room}
use Rattle.op_mir.specs.declared.path.Root.{Root}
use Rattle.op_mir.specs.declared.path.Root.TheVariants.{Global, Local, Through, Temporary}

-- ---- whole words

-- what is rounded up takes whole words
pub rounded_whole : (n : ℕ) → rounded n % 4 ≡ 0
rounded_whole n = whole (n / 4 + min 1 (n % 4))
  where
    whole : (k : ℕ) → k * 4 % 4 ≡ 0
    whole k = omega arith

-- whole words together are whole words
pub sum_whole : (a b : ℕ) → a % 4 ≡ 0 → b % 4 ≡ 0 → (a + b) % 4 ≡ 0
sum_whole a b p q = omega arith

-- ---- the room behind variables

-- a variable takes no register, or one
pub room_grows : (keeping : Keeping) (size : ℕ) (room : Room) → room.register ≤ (room_by keeping size room).register
room_grows AsGiven size room = omega arith
room_grows InRegister size room = omega arith
room_grows InMemory size room = omega arith

-- and so do more of them
pub behind_grows : (core : Core) (parameters : ℕ) (roots : List Root) (k : ℕ) (room : Room) (vs : List Variable) → room.register ≤ (room_behind core parameters roots k room vs).register
behind_grows core parameters roots k room [] = omega arith
behind_grows core parameters roots k room (v ∷ vs) =
    let here = room_grows (keeping_of core parameters roots k v) (size_in core v.of) room in
    let rest = behind_grows core parameters roots (k + 1) (room_by (keeping_of core parameters roots k v) (size_in core v.of) room) vs in
    omega (arith, here, rest)

-- behind a variable the room begins at a whole word again
pub room_whole : (keeping : Keeping) (size : ℕ) (room : Room) → room.offset % 4 ≡ 0 → (room_by keeping size room).offset % 4 ≡ 0
room_whole AsGiven size room p = p
room_whole InRegister size room p = p
room_whole InMemory size room p = sum_whole room.offset (rounded size) p (rounded_whole size)

-- ---- temporaries

-- what is one with a temporary is that temporary
pub temporary_is : (of : TypeId) (n : ℕ) (s : Root) → is_one_root (Temporary of n) s ≡ true → s ≡ Temporary of n
temporary_is of n (Global v) e = absurd (true≢false (sym e))
temporary_is of n (Local w) e = absurd (true≢false (sym e))
temporary_is of n (Through w) e = absurd (true≢false (sym e))
temporary_is of n (Temporary type m) e =
    let (types, numbers) = and_parts (nat_eq of.0 type.0) (nat_eq n m) e in
    sym (ap₂ (λ t k. Temporary (record { 0 = t }) k) (eqb-true of.0 type.0 types) (eqb-true n m numbers))

-- a temporary is one with itself
pub one_with_itself : (of : TypeId) (n : ℕ) → is_one_root (Temporary of n) (Temporary of n) ≡ true
one_with_itself of n = and_from (nat_eq of.0 of.0) (nat_eq n n) (eq-eqb of.0 of.0 refl) (eq-eqb n n refl)

-- of two temporaries that are one with the same root the one is the other
pub one_with_both : (of type : TypeId) (n m : ℕ) (s : Root) → is_one_root (Temporary of n) s ≡ true → is_one_root (Temporary type m) s ≡ true → is_one_root (Temporary of n) (Temporary type m) ≡ true
one_with_both of type n m s e f =
    let same : Temporary type m ≡ Temporary of n = sym (temporary_is type m s f) ∙ temporary_is of n s e in
    subst (λ t. is_one_root (Temporary of n) t ≡ true) (sym same) (one_with_itself of n)
