-- The frame of a routine takes no more bytes than the routine needs, where its code is valid.
use Rattle.std.proofs.Common.{◌≡◌, ◌<◌, ◌≤◌, ◌⊎◌, inl, inr, ℕ, zero, suc, ◌+◌, ◌*◌, max, Bool, true, false, ◌&&◌, ◌||◌, List, [], ◌∷◌, ◌++◌, length, map, fold, take, nat_lt, Option, Some, None, slice_get, refl, sym, ap, ap₂, ◌∙◌, subst, arith, true≢false, if◌then◌else◌, ◌-◌, drop, nat_eq, length-take}
use Rattle.std.specs.List.{flat_map, list_all, list_any, sum_by}
use Rattle.std.proofs.lemmas.Bool.{and_from, or_left, or_right}
use Rattle.std.proofs.lemmas.Bool.Decides.{nat_tests}
use Rattle.std.proofs.lemmas.List.Concat.{flat_map-cons}
use Rattle.std.proofs.lemmas.List.Folds.{list_any-append}
use Rattle.std.proofs.lemmas.List.Sums.{sum_by-cons}
use Rattle.std.specs.Cmp.{first_so, second_so}
use Rattle.std.proofs.lemmas.Option.{slice_get_within}
use Rattle.op_base.proofs.Tests.{or_second}
use Rattle.op_constants.specs.Offsets.{size_in}
use Rattle.op_constants.specs.Shapes.{is_composite}
use Rattle.op_core.proofs.Rows.{row_at}
use Rattle.op_core.specs.Rows.{rows}
use Rattle.op_core.specs.declared.ids.TypeId.{TypeId}
use Rattle.op_core.specs.declared.program.Core.{Core}
use Rattle.op_core.specs.declared.routine.Variable.{Variable}
use Rattle.op_places.specs.Frames.{first_room, frame_of, parameters_of, variables_room}
use Rattle.op_places.specs.Homes.{is_one_root, keeping_of, room_behind, room_by, roots_of, rounded, size_of_root, home_at, home_by, homes_from, with_action, with_block, with_given, with_instruction, with_receiver, with_temporary}
use Rattle.op_places.specs.declared.homes.Home.{Home}
use Rattle.op_places.specs.declared.homes.Keeping.{Keeping}
use Rattle.op_places.specs.declared.homes.Keeping.TheVariants.{AsGiven, InRegister, InMemory}
use Rattle.op_places.specs.declared.homes.Room.{Room}
use Rattle.op_frames.proofs.Beginnings.{begins_two}
use Rattle.op_frames.proofs.FramesUnder.{kept_by, end_is}
use Rattle.op_frames.proofs.Lowered.{most_at}
use Rattle.op_frames.proofs.NeedUnder.{first_by, first_is, words_as}
use Rattle.op_frames.proofs.PlacesFine.{most_each}
use Rattle.op_frames.proofs.RegistersUnder.{held_by}
use Rattle.op_frames.proofs.WholesUnder.{blocks_good, eq_tells, eq_true, sum_covered}
use Rattle.op_frames.specs.Fitting.{begin_of_block, begin_of_routine, begin_room, begins_with_one, is_held, is_stored, registers_of_routine, room_of_block, room_of_instruction}
use Rattle.op_frames.specs.Made.{Every}
use Rattle.op_frames.specs.Scratch.{given_room, givens_room, receiver_room}
use Rattle.op_frames.specs.Wholes.{ActionIn, AreWholesIn, GivenIn, IsWholeIn, ReceiverIn}
use Rattle.op_lower.specs.Temporaries.{most_of}
use Rattle.op_meaning.specs.Shapes.{is_reference, shape_of, type_of_local, type_of_row, variables_of}
use Rattle.op_mir.proofs.NeedLemmas.{need_is}
use Rattle.op_mir.specs.FrameNeed.{each_once, roots_named, roots_of_action, roots_of_given, roots_of_instruction, roots_of_receiver, variable_bytes, code_words, first_words, frame_need}
use Rattle.op_mir.specs.Kinds.{begins, has_kinds, is_begun, of_own}
use Rattle.op_mir.specs.Valid.{act_fits, action_fits, has_landing, is_valid_block, is_valid_instruction, is_valid_routine, leaves_if}
use Rattle.op_mir.specs.View.{view_action, view_block, view_computation, view_given, view_instruction, view_receiver, view_root}
use Rattle.op_mir.specs.declared.action.Action.{Action}
use Rattle.op_mir.specs.declared.action.Action.TheVariants.{Constant, Load, Store, Copy, Look, BeginWith, Pick, Compute, Do}
use Rattle.op_mir.specs.declared.action.Computation.{Computation}
use Rattle.op_mir.specs.declared.action.Computation.TheVariants.{Arithmetic, Compare, Negate, Complement, Invert, Absolute, Odd, Upper, LowBits, Check, Neighbour, Single, Span, Combine, Contains, CheckSet}
use Rattle.op_mir.specs.declared.code.Block.{Block}
use Rattle.op_mir.specs.declared.code.Mir.{Mir}
use Rattle.op_mir.specs.declared.code.Routine.{Routine}
use Rattle.op_mir.specs.declared.ids.BlockId.{BlockId}
use Rattle.op_mir.specs.declared.ids.LocalId.{LocalId}
use Rattle.op_mir.specs.declared.instruction.Given.{Given}
use Rattle.op_mir.specs.declared.instruction.Given.TheVariants.{ByValue, ByPlace, ByCopy}
use Rattle.op_mir.specs.declared.instruction.Instruction.{Instruction}
use Rattle.op_mir.specs.declared.instruction.Instruction.TheVariants.{Act, Call, Jump, When, Unless, Switch, Dispatch, MakeDue, OpenTemporaries, EndTemporary, Stop, Return}
use Rattle.op_mir.specs.declared.instruction.Receiver.{Receiver}
use Rattle.op_mir.specs.declared.instruction.Receiver.TheVariants.{Nowhere, Temporary as ToTemporary, Place}
use Rattle.op_mir.specs.declared.path.Root.{Root}
use Rattle.op_mir.specs.declared.path.Root.TheVariants.{Global, Local, Through, Temporary}

-- ---- a root that is named stands in the list that has each once

named_again : (of : TypeId) (n : ℕ) (x : Root) (xs : List Root) → is_one_root (Temporary of n) x ≡ true → list_any (is_one_root x) xs ≡ true → list_any (is_one_root (Temporary of n)) xs ≡ true
named_again of n (Local w) xs e h = absurd (true≢false (sym e))
named_again of n (Global w) xs e h = absurd (true≢false (sym e))
named_again of n (Through w) xs e h = absurd (true≢false (sym e))
named_again of n (Temporary type m) xs e h =
    let a = eq_tells of.0 type.0 (first_so (nat_eq of.0 type.0) (nat_eq n m) e) in
    let b = eq_tells n m (second_so (nat_eq of.0 type.0) (nat_eq n m) e) in
    ap₂ (λ k j. list_any (is_one_root (Temporary (record { 0 = k }) j)) xs) a b ∙ h

once_has : (of : TypeId) (n : ℕ) (xs : List Root) → list_any (is_one_root (Temporary of n)) xs ≡ true → list_any (is_one_root (Temporary of n)) (each_once xs) ≡ true
once_has of n [] e = e
once_has of n (x ∷ xs) e = by (list_any (is_one_root x) xs) (is_one_root (Temporary of n) x) refl refl (once_has of n xs)
  where
    by : (again one : Bool) → list_any (is_one_root x) xs ≡ again → is_one_root (Temporary of n) x ≡ one → (list_any (is_one_root (Temporary of n)) xs ≡ true → list_any (is_one_root (Temporary of n)) (each_once xs) ≡ true) → list_any (is_one_root (Temporary of n)) (each_once (x ∷ xs)) ≡ true
    by true true o p more = rw o (more (named_again of n x xs p o))
    by true false o p more = rw o (more (or_second (is_one_root (Temporary of n) x) (list_any (is_one_root (Temporary of n)) xs) p e))
    by false true o p more =
        let goal = or_left (is_one_root (Temporary of n) x) (list_any (is_one_root (Temporary of n)) (each_once xs)) p in
        rw o goal
    by false false o p more =
        let goal = or_right (is_one_root (Temporary of n) x) (list_any (is_one_root (Temporary of n)) (each_once xs)) (more (or_second (is_one_root (Temporary of n) x) (list_any (is_one_root (Temporary of n)) xs) p e)) in
        rw o goal

-- all temporaries of the one list are in the other
abbrev Sub : List Root → List Root → Type 0
Sub xs wholes = (of : TypeId) (n : ℕ) → list_any (is_one_root (Temporary of n)) xs ≡ true → list_any (is_one_root (Temporary of n)) wholes ≡ true

self_root : (of : TypeId) (n : ℕ) → is_one_root (Temporary of n) (Temporary of n) ≡ true
self_root of n = and_from (nat_eq of.0 of.0) (nat_eq n n) (eq_true of.0 of.0 refl) (eq_true n n refl)

front_of : (xs ys wholes : List Root) → Sub (xs ++ ys) wholes → Sub xs wholes
front_of xs ys wholes s of n e = s of n (list_any-append (is_one_root (Temporary of n)) xs ys ∙ or_left (list_any (is_one_root (Temporary of n)) xs) (list_any (is_one_root (Temporary of n)) ys) e)

back_of : (xs ys wholes : List Root) → Sub (xs ++ ys) wholes → Sub ys wholes
back_of xs ys wholes s of n e = s of n (list_any-append (is_one_root (Temporary of n)) xs ys ∙ or_right (list_any (is_one_root (Temporary of n)) xs) (list_any (is_one_root (Temporary of n)) ys) e)

first_in : (wholes : List Root) (root : Root) (rest : List Root) → Sub (root ∷ rest) wholes → IsWholeIn wholes (view_root root)
first_in wholes (Temporary of n) rest s = s of n (or_left (is_one_root (Temporary of n) (Temporary of n)) (list_any (is_one_root (Temporary of n)) rest) (self_root of n))
first_in wholes (Global v) rest s = tt
first_in wholes (Local v) rest s = tt
first_in wholes (Through v) rest s = tt

rest_in : (wholes : List Root) (root : Root) (rest : List Root) → Sub (root ∷ rest) wholes → Sub rest wholes
rest_in wholes root rest s of n e = s of n (or_right (is_one_root (Temporary of n) root) (list_any (is_one_root (Temporary of n)) rest) e)

computation_in : (wholes : List Root) (c : Computation) → ActionIn wholes (view_computation c)
computation_in wholes (Arithmetic o checked to a b) = tt
computation_in wholes (Compare o to a b) = tt
computation_in wholes (Negate checked to a) = tt
computation_in wholes (Complement to a) = tt
computation_in wholes (Invert to a) = tt
computation_in wholes (Absolute checked to a) = tt
computation_in wholes (Odd to a) = tt
computation_in wholes (Upper to a) = tt
computation_in wholes (LowBits kind to a) = tt
computation_in wholes (Check low high to a) = tt
computation_in wholes (Neighbour distance low high to a) = tt
computation_in wholes (Single to a) = tt
computation_in wholes (Span to a b) = tt
computation_in wholes (Combine o to a b) = tt
computation_in wholes (Contains to a b) = tt
computation_in wholes (CheckSet all to a) = tt

module _ (core : Core) (wholes : List Root) where
  action_in : (r : ℕ) (a : Action) → Sub (roots_of_action a) wholes → ActionIn wholes (view_action core r a)
  action_in r (Load to kind from) s = first_in wholes from.root [] s
  action_in r (Store to kind from) s = first_in wholes to.root [] s
  action_in r (Copy of to from) s = (first_in wholes to.root [] (rest_in wholes from.root (to.root ∷ []) s), first_in wholes from.root (to.root ∷ []) s)
  action_in r (Look at) s = first_in wholes at.root [] s
  action_in r (Constant to n) s = tt
  action_in r (BeginWith v) s = tt
  action_in r (Pick to text index) s = tt
  action_in r (Compute c) s = computation_in wholes c
  action_in r (Do p operands to) s = tt

  given_in : (g : Given) → Sub (roots_of_given g) wholes → GivenIn wholes (view_given g)
  given_in (ByPlace path) s = first_in wholes path.root [] s
  given_in (ByCopy of path) s = first_in wholes path.root [] s
  given_in (ByValue kind t) s = tt

  givens_in : (gs : List Given) → Sub (flat_map roots_of_given gs) wholes → Every (GivenIn wholes) (map view_given gs)
  givens_in [] s = tt
  givens_in (g ∷ gs) s =
      let parts = subst (λ xs. Sub xs wholes) (flat_map-cons roots_of_given g gs) s in
      (given_in g (front_of (roots_of_given g) (flat_map roots_of_given gs) wholes parts), givens_in gs (back_of (roots_of_given g) (flat_map roots_of_given gs) wholes parts))

  receiver_in : (y : Receiver) → Sub (roots_of_receiver y) wholes → ReceiverIn wholes (view_receiver y)
  receiver_in (Place of to) s = first_in wholes to.root [] s
  receiver_in Nowhere s = tt
  receiver_in (ToTemporary t) s = tt

  instruction_in : (r : ℕ) (i : Instruction) → Sub (roots_of_instruction i) wholes → AreWholesIn wholes (view_instruction core r i)
  instruction_in r (Act a landing) s = action_in r a s
  instruction_in r (Call q call) s =
      (givens_in call.given (front_of (flat_map roots_of_given call.given) (roots_of_receiver call.receiver) wholes s), receiver_in call.receiver (back_of (flat_map roots_of_given call.given) (roots_of_receiver call.receiver) wholes s))
  instruction_in r (Jump block) s = tt
  instruction_in r (When t block) s = tt
  instruction_in r (Unless t block) s = tt
  instruction_in r (Switch t arms) s = tt
  instruction_in r (Dispatch t block) s = tt
  instruction_in r (MakeDue f) s = tt
  instruction_in r (OpenTemporaries ts) s = tt
  instruction_in r (EndTemporary t) s = tt
  instruction_in r (Stop t) s = tt
  instruction_in r Return s = tt

  code_in : (r : ℕ) (code : List Instruction) → Sub (flat_map roots_of_instruction code) wholes → Every (AreWholesIn wholes) (map (view_instruction core r) code)
  code_in r [] s = tt
  code_in r (i ∷ code) s =
      let parts = subst (λ xs. Sub xs wholes) (flat_map-cons roots_of_instruction i code) s in
      (instruction_in r i (front_of (roots_of_instruction i) (flat_map roots_of_instruction code) wholes parts), code_in r code (back_of (roots_of_instruction i) (flat_map roots_of_instruction code) wholes parts))

  abbrev roots_in : Block → List Root
  roots_in b = flat_map roots_of_instruction b.code

  blocks_in : (r : ℕ) (bs : List Block) → Sub (roots_named bs) wholes → Every (Every (AreWholesIn wholes)) (map (view_block core r) bs)
  blocks_in r [] s = tt
  blocks_in r (b ∷ bs) s =
      let parts = subst (λ xs. Sub xs wholes) (flat_map-cons roots_in b bs) s in
      (code_in r b.code (front_of (roots_in b) (roots_named bs) wholes parts), blocks_in r bs (back_of (roots_in b) (roots_named bs) wholes parts))

-- Temporaries of record and array types take in a frame what each of them is counted once for.
pub wholes_needed : (core : Core) (r : ℕ) (routine : Routine) → sum_by (size_of_root core) (roots_of routine) ≤ sum_by (size_of_root core) (each_once (roots_named routine.blocks))
wholes_needed core r routine =
    let wholes = each_once (roots_named routine.blocks) in
    let good = blocks_good core r wholes [] routine.blocks (tt, tt) (blocks_in core wholes r routine.blocks (λ of n e. once_has of n (roots_named routine.blocks) e)) in
    sum_covered core (roots_of routine) wholes good.0 good.1

-- ---- variables

own_by : (reference whole named parameter : Bool) → (if reference then AsGiven else if whole || named then InMemory else if parameter then AsGiven else InRegister) ≡ InRegister → reference ≡ false
own_by true whole named parameter e = absurd cc
own_by false whole named parameter e = refl

module _ (core : Core) (parameters : ℕ) (roots : List Root) (sizes : (of : TypeId) → is_composite (shape_of core of) ≡ false → 1 ≤ size_in core of) where
  word_at_least : (n : ℕ) → 1 ≤ n → 4 ≤ rounded n
  word_at_least n some = omega (arith, some)

  room_step : (keeping : Keeping) (size bytes : ℕ) (room : Room) → (keeping ≡ InRegister → 4 ≤ bytes) → (keeping ≡ InMemory → rounded size ≤ bytes) → 4 * (room_by keeping size room).register + (room_by keeping size room).offset ≤ 4 * room.register + room.offset + bytes
  room_step AsGiven size bytes room h g = omega arith
  room_step InMemory size bytes room h g = let p = g refl in omega (arith, p)
  room_step InRegister size bytes room h g = let p = h refl in omega (arith, p)

  abbrev own_bytes : (v : Variable) → is_reference v.role ≡ false → variable_bytes core v ≡ rounded (size_in core v.of)
  own_bytes v e = ap (λ b. if b then 0 else rounded (size_in core v.of)) e

  in_register : (k : ℕ) (v : Variable) → keeping_of core parameters roots k v ≡ InRegister → 4 ≤ variable_bytes core v
  in_register k v e =
      let named = list_any (is_one_root (Local (record { 0 = k }))) roots in
      let own = own_bytes v (own_by (is_reference v.role) (is_composite (shape_of core v.of)) named (nat_lt k parameters) e) in
      let word = word_at_least (size_in core v.of) (sizes v.of (held_by (is_reference v.role) (is_composite (shape_of core v.of)) named (nat_lt k parameters) e)) in
      omega (arith, own, word)

  in_memory : (k : ℕ) (v : Variable) → keeping_of core parameters roots k v ≡ InMemory → rounded (size_in core v.of) ≤ variable_bytes core v
  in_memory k v e =
      let own = own_bytes v (kept_by (is_reference v.role) (is_composite (shape_of core v.of)) (list_any (is_one_root (Local (record { 0 = k }))) roots) (nat_lt k parameters) e) in
      omega (arith, own)

  -- Variables take no more than they are counted for.
  pub variables_needed : (k : ℕ) (room : Room) (vs : List Variable) → 4 * (room_behind core parameters roots k room vs).register + (room_behind core parameters roots k room vs).offset ≤ 4 * room.register + room.offset + sum_by (variable_bytes core) vs
  variables_needed k room [] = omega arith
  variables_needed k room (v ∷ vs) =
      let keeping = keeping_of core parameters roots k v in
      let here = room_step keeping (size_in core v.of) (variable_bytes core v) room (in_register k v) (in_memory k v) in
      let rest = variables_needed (k + 1) (room_by keeping (size_in core v.of) room) vs in
      let sum = sum_by-cons (variable_bytes core) v vs in
      omega (arith, here, rest, sum)

-- ---- a variable that code gives by place: its call works with two words at least

or_neither : (a : Bool) → (a || (false || false)) ≡ a
or_neither true = refl
or_neither false = refl

module _ (core : Core) (r : ℕ) (v : LocalId) where
  abbrev IsNamed : List Root → Type 0
  IsNamed roots = list_any (is_one_root (Local v)) roots ≡ true

  temporary_kept : (rs : List Root) (root : Root) → IsNamed (with_temporary rs root) → IsNamed rs
  temporary_kept rs (Global w) e = e
  temporary_kept rs (Local w) e = e
  temporary_kept rs (Through w) e = e
  temporary_kept rs (Temporary of n) e = by (list_any (is_one_root (Temporary of n)) rs) refl e
    where
      by : (has : Bool) → list_any (is_one_root (Temporary of n)) rs ≡ has → IsNamed (if list_any (is_one_root (Temporary of n)) rs then rs else rs ++ Temporary of n ∷ []) → IsNamed rs
      by true o p = subst (λ b. IsNamed (if b then rs else rs ++ Temporary of n ∷ [])) o p
      by false o p =
          let longer : IsNamed (rs ++ Temporary of n ∷ []) = subst (λ b. IsNamed (if b then rs else rs ++ Temporary of n ∷ [])) o p in
          sym (list_any-append (is_one_root (Local v)) rs (Temporary of n ∷ []) ∙ or_neither (list_any (is_one_root (Local v)) rs)) ∙ longer

  given_kept : (rs : List Root) (g : Given) → IsNamed (with_given rs g) → IsNamed rs ⊎ (1 ≤ given_room (view_given g))
  given_kept rs (ByPlace path) e = inr (omega arith)
  given_kept rs (ByCopy of path) e = inr (omega arith)
  given_kept rs (ByValue kind t) e = inl e

  givens_kept : (rs : List Root) (gs : List Given) → IsNamed (fold with_given rs gs) → IsNamed rs ⊎ (1 ≤ givens_room (map view_given gs))
  givens_kept rs [] e = inl e
  givens_kept rs (g ∷ gs) e = by (givens_kept (with_given rs g) gs e)
    where
      first : IsNamed rs ⊎ (1 ≤ given_room (view_given g)) → IsNamed rs ⊎ (1 ≤ givens_room (map view_given (g ∷ gs)))
      first (inl p) = inl p
      first (inr some) = inr (omega (arith, some))

      by : IsNamed (with_given rs g) ⊎ (1 ≤ givens_room (map view_given gs)) → IsNamed rs ⊎ (1 ≤ givens_room (map view_given (g ∷ gs)))
      by (inl p) = first (given_kept rs g p)
      by (inr some) = inr (omega (arith, some))

  receiver_kept : (rs : List Root) (y : Receiver) → IsNamed (with_receiver rs y) → IsNamed rs
  receiver_kept rs (Place of to) e = temporary_kept rs to.root e
  receiver_kept rs Nowhere e = e
  receiver_kept rs (ToTemporary t) e = e

  action_kept : (rs : List Root) (a : Action) → IsNamed (with_action rs a) → IsNamed rs
  action_kept rs (Load to kind from) e = temporary_kept rs from.root e
  action_kept rs (Store to kind from) e = temporary_kept rs to.root e
  action_kept rs (Copy of to from) e = temporary_kept rs from.root (temporary_kept (with_temporary rs from.root) to.root e)
  action_kept rs (Look at) e = temporary_kept rs at.root e
  action_kept rs (Constant to n) e = e
  action_kept rs (BeginWith w) e = e
  action_kept rs (Pick to text index) e = e
  action_kept rs (Compute c) e = e
  action_kept rs (Do p operands to) e = e

  instruction_kept : (rs : List Root) (i : Instruction) → IsNamed (with_instruction rs i) → IsNamed rs ⊎ (2 ≤ room_of_instruction core r i)
  instruction_kept rs (Act a landing) e = inl (action_kept rs a e)
  instruction_kept rs (Call q call) e = by (givens_kept rs call.given (receiver_kept (fold with_given rs call.given) call.receiver e))
    where
      by : IsNamed rs ⊎ (1 ≤ givens_room (map view_given call.given)) → IsNamed rs ⊎ (2 ≤ 1 + receiver_room (view_receiver call.receiver) + givens_room (map view_given call.given))
      by (inl p) = inl p
      by (inr some) = inr (omega (arith, some))
  instruction_kept rs (Jump block) e = inl e
  instruction_kept rs (When t block) e = inl e
  instruction_kept rs (Unless t block) e = inl e
  instruction_kept rs (Switch t arms) e = inl e
  instruction_kept rs (Dispatch t block) e = inl e
  instruction_kept rs (MakeDue f) e = inl e
  instruction_kept rs (OpenTemporaries ts) e = inl e
  instruction_kept rs (EndTemporary t) e = inl e
  instruction_kept rs (Stop t) e = inl e
  instruction_kept rs Return e = inl e

  code_kept : (top : ℕ) (rs : List Root) (code : List Instruction) → Every (λ i. room_of_instruction core r i ≤ top) code → IsNamed (fold with_instruction rs code) → IsNamed rs ⊎ (2 ≤ top)
  code_kept top rs [] below e = inl e
  code_kept top rs (i ∷ code) (here, below) e = by (code_kept top (with_instruction rs i) code below e)
    where
      first : IsNamed rs ⊎ (2 ≤ room_of_instruction core r i) → IsNamed rs ⊎ (2 ≤ top)
      first (inl p) = inl p
      first (inr some) = inr (omega (arith, some, here))

      by : IsNamed (with_instruction rs i) ⊎ (2 ≤ top) → IsNamed rs ⊎ (2 ≤ top)
      by (inl p) = first (instruction_kept rs i p)
      by (inr some) = inr some

  blocks_kept : (top : ℕ) (rs : List Root) (bs : List Block) → Every (λ b. room_of_block core r b ≤ top) bs → IsNamed (fold with_block rs bs) → IsNamed rs ⊎ (2 ≤ top)
  blocks_kept top rs [] below e = inl e
  blocks_kept top rs (b ∷ bs) (here, below) e = by (blocks_kept top (with_block rs b) bs below e)
    where
      by : IsNamed (with_block rs b) ⊎ (2 ≤ top) → IsNamed rs ⊎ (2 ≤ top)
      by (inl p) = code_kept top rs b.code (most_each (room_of_instruction core r) b.code top here) p
      by (inr some) = inr some

  named_words : (routine : Routine) (top : ℕ) → most_of (room_of_block core r) routine.blocks ≤ top → IsNamed (roots_of routine) → 2 ≤ top
  named_words routine top less e = by (blocks_kept top [] routine.blocks (most_each (room_of_block core r) routine.blocks top less) e)
    where
      by : IsNamed [] ⊎ (2 ≤ top) → 2 ≤ top
      by (inl none) = absurd cc
      by (inr some) = some

-- ---- what variables begin with

held_case : (reference whole named parameter : Bool) (k : ℕ) (room : Room) → whole ≡ false → named ≡ false → is_held (home_by (if reference then AsGiven else if whole || named then InMemory else if parameter then AsGiven else InRegister) k room) ≡ true
held_case true whole named parameter k room e f = refl
held_case false false false true k room e f = refl
held_case false false false false k room e f = refl
held_case false true named parameter k room e f = absurd cc
held_case false false true parameter k room e f = absurd cc

number_held : (core : Core) (parameters : ℕ) (roots : List Root) (k : ℕ) (room : Room) (vs : List Variable) (j : ℕ) (w : Variable) → slice_get vs j ≡ Some w → is_composite (shape_of core w.of) ≡ false
    → list_any (is_one_root (Local (record { 0 = k + j }))) roots ≡ false → is_held (home_at (homes_from core parameters roots k room vs) (record { 0 = j })) ≡ true
number_held core parameters roots k room [] j w there e f = absurd cc
number_held core parameters roots k room (v ∷ vs) zero w there e f =
    let same : v ≡ w = cc in
    let single : is_composite (shape_of core v.of) ≡ false = subst (λ (x : Variable). is_composite (shape_of core x.of) ≡ false) (sym same) e in
    held_case (is_reference v.role) (is_composite (shape_of core v.of)) (list_any (is_one_root (Local (record { 0 = k }))) roots) (nat_lt k parameters) k room single (subst (λ n. list_any (is_one_root (Local (record { 0 = n }))) roots ≡ false) (plus k) f)
  where
    plus : (n : ℕ) → n + 0 ≡ n
    plus n = omega arith
number_held core parameters roots k room (v ∷ vs) (suc j) w there e f =
    number_held core parameters roots (k + 1) (room_by (keeping_of core parameters roots k v) (size_in core v.of) room) vs j w there e (subst (λ n. list_any (is_one_root (Local (record { 0 = n }))) roots ≡ false) (further k j) f)
  where
    further : (n m : ℕ) → n + suc m ≡ n + 1 + m
    further n m = omega arith

abbrev one_or_two : Bool → ℕ
one_or_two one = if one then 1 else 2

module _ (core : Core) (mir : Mir) (r : ℕ) (x : Routine) where
  abbrev vs : List Variable
  vs = rows core.variables (variables_of core r)

  -- the row of a variable that may begin so
  begun_row : (v : LocalId) → begins core (variables_of core r) v ≡ true → (w : Variable) × (slice_get vs v.0 ≡ Some w)
  begun_row v e = by (slice_get vs v.0) refl
    where
      by : (o : Option Variable) → slice_get vs v.0 ≡ o → (w : Variable) × (slice_get vs v.0 ≡ Some w)
      by (Some w) at = (w, at)
      by None at = absurd (true≢false (sym (sym (ap (λ o. is_begun core (of_own o)) at) ∙ e)))

  -- its type
  type_there : (v : ℕ) (w : Variable) → slice_get vs v ≡ Some w → type_of_local core r v ≡ w.of
  type_there v w at =
      let low = slice_get_within vs v w at in
      let few = length-take (variables_of core r).count (drop (variables_of core r).first core.variables) in
      ap type_of_row (sym (row_at core.variables (variables_of core r) v (omega (arith, low, few))) ∙ at)

  module _ (valid : is_valid_routine core mir (variables_of core r) x ≡ true) (stored : (list_any is_stored (take (parameters_of core r) (frame_of core r x).homes) ≡ true) ⊎ (vs ≡ [])) (unnamed : (v : LocalId) → list_any (is_one_root (Local v)) (roots_of x) ≡ false) where
    row_none : (v : ℕ) (w : Variable) → slice_get vs v ≡ Some w → vs ≡ [] → ⊥
    row_none v w at bare = let nothing : slice_get {X = Variable} [] v ≡ Some w = sym (ap (λ ws. slice_get ws v) bare) ∙ at in absurd cc

    with_one : (v : LocalId) (w : Variable) → slice_get vs v.0 ≡ Some w → (whole : Bool) → is_composite (shape_of core (type_of_local core r v.0)) ≡ whole → begins_with_one core r (frame_of core r x) v ≡ true
    with_one v w at true e = ap (λ b. if b then list_any is_stored (take (parameters_of core r) (frame_of core r x).homes) else is_held (home_at (frame_of core r x).homes v)) e ∙ by stored
      where
        by : (list_any is_stored (take (parameters_of core r) (frame_of core r x).homes) ≡ true) ⊎ (vs ≡ []) → list_any is_stored (take (parameters_of core r) (frame_of core r x).homes) ≡ true
        by (inl some) = some
        by (inr bare) = absurd (row_none v.0 w at bare)
    with_one v w at false e =
        ap (λ b. if b then list_any is_stored (take (parameters_of core r) (frame_of core r x).homes) else is_held (home_at (frame_of core r x).homes v)) e
        ∙ number_held core (parameters_of core r) (roots_of x) 0 (first_room (parameters_of core r)) vs v.0 w at (sym (ap (λ t. is_composite (shape_of core t)) (type_there v.0 w at)) ∙ e) (unnamed_at v.0)
      where
        unnamed_at : (n : ℕ) → list_any (is_one_root (Local (record { 0 = 0 + n }))) (roots_of x) ≡ false
        unnamed_at n = unnamed (record { 0 = 0 + n })

    begin_one : (v : LocalId) (landing : Option BlockId) → begins core (variables_of core r) v ≡ true → begin_room core r (frame_of core r x) (Act (BeginWith v) landing) ≤ 1
    unfolding begin_room
    begin_one v landing e =
        let (w, at) = begun_row v e in
        let one = with_one v w at (is_composite (shape_of core (type_of_local core r v.0))) refl in
        let goal : one_or_two (begins_with_one core r (frame_of core r x) v) ≡ 1 = ap one_or_two one in
        omega (arith, goal)

    room_one : (i : Instruction) → is_valid_instruction core mir (variables_of core r) x i ≡ true → begin_room core r (frame_of core r x) i ≤ 1
    unfolding begin_room is_valid_instruction act_fits has_kinds
    room_one (Act (BeginWith v) landing) e = begin_one v landing (second_so (action_fits mir x (BeginWith v)) (begins core (variables_of core r) v) (first_so (action_fits mir x (BeginWith v) && begins core (variables_of core r) v) (has_landing x landing) e))
    room_one (Act (Constant to k) landing) e = omega arith
    room_one (Act (Load to kind from) landing) e = omega arith
    room_one (Act (Store to kind from) landing) e = omega arith
    room_one (Act (Copy of to from) landing) e = omega arith
    room_one (Act (Look at) landing) e = omega arith
    room_one (Act (Pick to text index) landing) e = omega arith
    room_one (Act (Compute c) landing) e = omega arith
    room_one (Act (Do p operands to) landing) e = omega arith
    room_one (Call q call) e = omega arith
    room_one (Jump block) e = omega arith
    room_one (When t block) e = omega arith
    room_one (Unless t block) e = omega arith
    room_one (Switch t arms) e = omega arith
    room_one (Dispatch t block) e = omega arith
    room_one (MakeDue f) e = omega arith
    room_one (OpenTemporaries ts) e = omega arith
    room_one (EndTemporary t) e = omega arith
    room_one (Stop t) e = omega arith
    room_one Return e = omega arith

    code_one : (code : List Instruction) → list_all (is_valid_instruction core mir (variables_of core r) x) code ≡ true → Every (λ i. begin_room core r (frame_of core r x) i ≤ 1) code
    code_one [] e = tt
    code_one (i ∷ code) e = (
      room_one i (first_so (is_valid_instruction core mir (variables_of core r) x i) (list_all (is_valid_instruction core mir (variables_of core r) x) code) e),
      code_one code (second_so (is_valid_instruction core mir (variables_of core r) x i) (list_all (is_valid_instruction core mir (variables_of core r) x) code) e),
    )

    blocks_one : (bs : List Block) → list_all (is_valid_block core mir (variables_of core r) x) bs ≡ true → Every (λ b. begin_of_block core r (frame_of core r x) b ≤ 1) bs
    unfolding is_valid_block
    blocks_one [] e = tt
    blocks_one (b ∷ bs) e =
        let here = first_so (is_valid_block core mir (variables_of core r) x b) (list_all (is_valid_block core mir (variables_of core r) x) bs) e in
        let rest = second_so (is_valid_block core mir (variables_of core r) x b) (list_all (is_valid_block core mir (variables_of core r) x) bs) e in
        (most_at (begin_room core r (frame_of core r x)) b.code 1 (code_one b.code (second_so (leaves_if (slice_get b.code (length b.code - 1))) (list_all (is_valid_instruction core mir (variables_of core r) x) b.code) here)), blocks_one bs rest)

    begins_one : begin_of_routine core r x ≤ 1
    unfolding is_valid_routine
    begins_one = most_at (begin_of_block core r (frame_of core r x)) x.blocks 1 (blocks_one x.blocks (second_so (nat_eq x.locals (variables_of core r).count && nat_lt 0 (length x.blocks)) (list_all (is_valid_block core mir (variables_of core r) x) x.blocks) valid))

-- ---- frames

stored_first_home : (core : Core) (n : ℕ) → 1 ≤ n → (home : Home) (homes : List Home) → is_stored home ≡ true → list_any is_stored (take n (home ∷ homes)) ≡ true
stored_first_home core zero some home homes e = absurd (omega (arith, some))
stored_first_home core (suc n) some home homes e = or_left (is_stored home) (list_any is_stored (take n homes)) e

first_kept : (reference whole named parameter : Bool) → parameter ≡ true
    → ((if reference then AsGiven else if whole || named then InMemory else if parameter then AsGiven else InRegister) ≡ InMemory)
    ⊎ (((if reference then AsGiven else if whole || named then InMemory else if parameter then AsGiven else InRegister) ≡ AsGiven) × ((reference ≡ true) ⊎ (whole ≡ false)))
first_kept true whole named parameter e = inr (refl, inl refl)
first_kept false true named parameter e = inl refl
first_kept false false true parameter e = inl refl
first_kept false false false true e = inr (refl, inr refl)
first_kept false false false false e = absurd cc

some_by : (refers some : Bool) → 1 ≤ first_by refers some
some_by true some = omega arith
some_by false true = omega arith
some_by false false = omega arith

first_some : (n : ℕ) (ws : List Variable) → 1 ≤ first_words n ws
unfolding first_words
first_some n [] = omega arith
first_some n (v ∷ ws) = some_by (is_reference v.role) (nat_lt 0 n)

-- what a frame has room by: two words for first values, one of them that is not taken, an instruction that works with two, or a word that the first parameter does not take
abbrev HasRoom : (firsts begins rooms taken given : ℕ) → Type 0
HasRoom firsts begins rooms taken given = ((2 ≤ firsts) ⊎ (begins ≤ 1)) ⊎ ((2 ≤ rooms) ⊎ (taken + 4 ≤ given))

module _ (core : Core) (mir : Mir) (r : ℕ) (x : Routine) (sizes : (of : TypeId) → is_composite (shape_of core of) ≡ false → 1 ≤ size_in core of) (valid : is_valid_routine core mir (variables_of core r) x ≡ true) where
  abbrev rooms : ℕ
  rooms = most_of (room_of_block core r) x.blocks

  abbrev taken : ℕ
  taken = 4 * (variables_room core r x).register + (variables_room core r x).offset

  abbrev given : List Variable → ℕ
  given ws = 4 * (2 + parameters_of core r) + 0 + sum_by (variable_bytes core) ws

  few_or_two : (n : ℕ) → (n ≤ 1) ⊎ (2 ≤ n)
  few_or_two zero = inl (omega arith)
  few_or_two (suc zero) = inl (omega arith)
  few_or_two (suc (suc n)) = inr (omega arith)

  -- one word is enough where the first parameter is stored, or there is no variable
  by_stored : (list_any is_stored (take (parameters_of core r) (frame_of core r x).homes) ≡ true) ⊎ (rows core.variables (variables_of core r) ≡ []) → (begin_of_routine core r x ≤ 1) ⊎ (2 ≤ rooms)
  by_stored stored = by (few_or_two rooms)
    where
      unnamed : rooms ≤ 1 → (v : LocalId) → list_any (is_one_root (Local v)) (roots_of x) ≡ false
      unnamed few v = none (list_any (is_one_root (Local v)) (roots_of x)) refl
        where
          none : (b : Bool) → list_any (is_one_root (Local v)) (roots_of x) ≡ b → list_any (is_one_root (Local v)) (roots_of x) ≡ false
          none false e = e
          none true e = absurd (let two = named_words core r v x 1 few e in omega (arith, two))

      by : (rooms ≤ 1) ⊎ (2 ≤ rooms) → (begin_of_routine core r x ≤ 1) ⊎ (2 ≤ rooms)
      by (inl few) = inl (begins_one core mir r x valid stored (unnamed few))
      by (inr some) = inr some

  room_of_stored : (ws : List Variable) → (begin_of_routine core r x ≤ 1) ⊎ (2 ≤ rooms) → HasRoom (first_words (parameters_of core r) ws) (begin_of_routine core r x) rooms taken (given ws)
  room_of_stored ws (inl one) = inl (inr one)
  room_of_stored ws (inr two) = inr (inl two)

  given_room_is : (keeping : Keeping) (size : ℕ) (room : Room) → keeping ≡ AsGiven → 4 * (room_by keeping size room).register + (room_by keeping size room).offset ≤ 4 * room.register + room.offset
  given_room_is AsGiven size room e = omega arith
  given_room_is InMemory size room e = absurd cc
  given_room_is InRegister size room e = absurd cc

  has_room : (ws : List Variable) → rows core.variables (variables_of core r) ≡ ws → HasRoom (first_words (parameters_of core r) ws) (begin_of_routine core r x) rooms taken (given ws)
  has_room [] same = room_of_stored [] (by_stored (inr same))
  has_room (v ∷ ws) same = by (is_reference v.role) (nat_lt 0 (parameters_of core r)) refl refl
    where
      two_by : first_words (parameters_of core r) (v ∷ ws) ≡ 2 → HasRoom (first_words (parameters_of core r) (v ∷ ws)) (begin_of_routine core r x) rooms taken (given (v ∷ ws))
      two_by e = inl (inl (omega (arith, e)))

      kept_is : nat_lt 0 (parameters_of core r) ≡ true → is_reference v.role ≡ false
          → (keeping_of core (parameters_of core r) (roots_of x) 0 v ≡ InMemory) ⊎ ((keeping_of core (parameters_of core r) (roots_of x) 0 v ≡ AsGiven) × ((is_reference v.role ≡ true) ⊎ (is_composite (shape_of core v.of) ≡ false)))
          → HasRoom (first_words (parameters_of core r) (v ∷ ws)) (begin_of_routine core r x) rooms taken (given (v ∷ ws))
      kept_is some own (inl memory) =
          let many : 1 ≤ parameters_of core r = grind (arith, nat_tests, some) in
          let first = stored_first_home core (parameters_of core r) many (home_by (keeping_of core (parameters_of core r) (roots_of x) 0 v) 0 (first_room (parameters_of core r))) _ (ap (λ keeping. is_stored (home_by keeping 0 (first_room (parameters_of core r)))) memory) in
          room_of_stored (v ∷ ws) (by_stored (inl (subst (λ us. list_any is_stored (take (parameters_of core r) (homes_from core (parameters_of core r) (roots_of x) 0 (first_room (parameters_of core r)) us)) ≡ true) (sym same) first)))
      kept_is some own (inr (as_given, inl refers)) = absurd (true≢false (sym refers ∙ own))
      kept_is some own (inr (as_given, inr single)) =
          let here = given_room_is (keeping_of core (parameters_of core r) (roots_of x) 0 v) (size_in core v.of) (first_room (parameters_of core r)) as_given in
          let rest = variables_needed core (parameters_of core r) (roots_of x) sizes 1 (room_by (keeping_of core (parameters_of core r) (roots_of x) 0 v) (size_in core v.of) (first_room (parameters_of core r))) ws in
          let sum = sum_by-cons (variable_bytes core) v ws in
          let bytes : variable_bytes core v ≡ rounded (size_in core v.of) = ap (λ b. if b then 0 else rounded (size_in core v.of)) own in
          let word = four_at_least (size_in core v.of) (sizes v.of single) in
          let room : 4 * (room_behind core (parameters_of core r) (roots_of x) 0 (first_room (parameters_of core r)) (v ∷ ws)).register + (room_behind core (parameters_of core r) (roots_of x) 0 (first_room (parameters_of core r)) (v ∷ ws)).offset + 4 ≤ given (v ∷ ws) = omega (arith, here, rest, sum, bytes, word) in
          inr (inr (subst (λ us. 4 * (room_behind core (parameters_of core r) (roots_of x) 0 (first_room (parameters_of core r)) us).register + (room_behind core (parameters_of core r) (roots_of x) 0 (first_room (parameters_of core r)) us).offset + 4 ≤ given (v ∷ ws)) (sym same) room))
        where
          four_at_least : (n : ℕ) → 1 ≤ n → 4 ≤ rounded n
          four_at_least n some = omega (arith, some)

      by : (refers some : Bool) → is_reference v.role ≡ refers → nat_lt 0 (parameters_of core r) ≡ some → HasRoom (first_words (parameters_of core r) (v ∷ ws)) (begin_of_routine core r x) rooms taken (given (v ∷ ws))
      by true some e f = two_by (first_is (parameters_of core r) v ws ∙ ap (λ b. first_by b (nat_lt 0 (parameters_of core r))) e)
      by false false e f = two_by (first_is (parameters_of core r) v ws ∙ ap (λ b. first_by b (nat_lt 0 (parameters_of core r))) e ∙ ap (λ b. first_by false b) f)
      by false true e f = kept_is f e (first_kept (is_reference v.role) (is_composite (shape_of core v.of)) (list_any (is_one_root (Local (record { 0 = 0 }))) (roots_of x)) (nat_lt 0 (parameters_of core r)) f)

  -- The frame takes no more than is needed.
  pub frame_needed : (frame_of core r x).locals + 4 * (registers_of_routine core r x + 1) ≤ frame_need core r x
  frame_needed =
      let ws = rows core.variables (variables_of core r) in
      let need = need_is core r x in
      let words = words_as core r x.blocks in
      let variables = variables_needed core (parameters_of core r) (roots_of x) sizes 0 (first_room (parameters_of core r)) ws in
      let wholes = wholes_needed core r x in
      let ends = end_is core (variables_room core r x).offset (roots_of x) in
      let least = first_some (parameters_of core r) ws in
      total (frame_of core r x).locals (variables_room core r x).offset (sum_by (size_of_root core) (roots_of x)) (sum_by (size_of_root core) (each_once (roots_named x.blocks))) (variables_room core r x).register x.temporaries (begin_of_routine core r x) rooms (code_words x.blocks)
      (first_words (parameters_of core r) ws) (parameters_of core r) (sum_by (variable_bytes core) ws) (frame_need core r x) ends variables wholes (begins_two core r x) words least need (has_room ws refl)
    where
      total : (locals offset roots wholes registers temporaries begins rooms words firsts parameters bytes need : ℕ) → locals ≡ offset + roots → 4 * registers + offset ≤ 4 * (2 + parameters) + 0 + bytes → roots ≤ wholes → begins ≤ 2 → words ≡ rooms → 1 ≤ firsts
          → need ≡ 4 * (3 + parameters + temporaries + max firsts words) + bytes + wholes → HasRoom firsts begins rooms (4 * registers + offset) (4 * (2 + parameters) + 0 + bytes) → locals + 4 * (registers + temporaries + max (max 1 begins) rooms + 1) ≤ need
      total locals offset roots wholes registers temporaries begins rooms words firsts parameters bytes need a b c d e f g (inl (inl h)) = omega (arith, a, b, c, d, e, f, g, h)
      total locals offset roots wholes registers temporaries begins rooms words firsts parameters bytes need a b c d e f g (inl (inr h)) = omega (arith, a, b, c, d, e, f, g, h)
      total locals offset roots wholes registers temporaries begins rooms words firsts parameters bytes need a b c d e f g (inr (inl h)) = omega (arith, a, b, c, d, e, f, g, h)
      total locals offset roots wholes registers temporaries begins rooms words firsts parameters bytes need a b c d e f g (inr (inr h)) = omega (arith, a, b, c, d, e, f, g, h)
