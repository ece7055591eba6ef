-- The items of statements are typed.
use Rattle.std.proofs.Common.{◌≡◌, ◌<◌, ℕ, ◌+◌, Bool, true, false, List, [], ◌∷◌, Option, Some, slice_get, refl, arith}
use Rattle.std.proofs.lemmas.Int.{ints}
use Rattle.std.proofs.lemmas.List.Elements.{All-cons, All-drop, All-nil}
use Rattle.std.specs.List.{All}
use Rattle.std.specs.Prelude.{IsSomeAnd}
use Rattle.op_core.specs.Expression.{Expression}
use Rattle.op_core.specs.Sizes.{range_of, type_at}
use Rattle.op_core.specs.Sound.{IsSound, within}
use Rattle.op_core.specs.Statement.{BuiltIn, write, count, include, exclude, free as free_of, destroy, Item as Output, plain, padded, Target}
use Rattle.op_core.specs.StatementTyping.{IsBuiltIn, IsElementOf, IsItem, host}
use Rattle.op_core.specs.Typing.{IsOrdinal, IsSet, base_of, type_of}
use Rattle.op_core.specs.declared.ids.TypeId.{TypeId}
use Rattle.op_core.specs.declared.program.Core.{Core}
use Rattle.op_core.specs.declared.routine.Routine.{Routine}
use Rattle.op_core.specs.declared.types.CoreType.{CoreType}
use Rattle.op_core.specs.declared.types.CoreType.TheVariants.{Integer, Boolean, Char, Enumeration, Subrange, Set}
use Rattle.op_core.specs.declared.types.IntegerKind.TheVariants.{Signed32}
use Rattle.op_meaning.specs.Actions.{arithmetic, combine, load, single as lone, store}
use Rattle.op_meaning.specs.Every.{EveryWork, built_in_works, item_works, items_works}
use Rattle.op_meaning.specs.Expressions.{Here, Found, Now, ready, at_path, a_text, converted, find, make, own, past, past_whole, path_of}
use Rattle.op_meaning.specs.Items.{Items, ◌&◌, only, acts, act, free}
use Rattle.op_meaning.specs.Statements.{changed_set, counted_at, done_built_in, kind_of, line_end, no_width, sum_or_difference, write_all, write_by, write_by_now, write_one, write_text}
use Rattle.op_meaning.specs.Texts.{line_feed}
use Rattle.op_tree.specs.declared.operator.Operator.{Operator}
use Rattle.op_tree.specs.declared.operator.Operator.TheVariants.{Add, Subtract}
use Rattle.op_tree.specs.declared.statement.Direction.{Direction}
use Rattle.op_typing.proofs.Actions.{both, converted_typed}
use Rattle.op_typing.proofs.Expressions.{find_typed, is_text_at_end, make_typed, state_path}
use Rattle.op_typing.proofs.Founds.{FoundIs, IsOwn, env_at}
use Rattle.op_typing.proofs.Rows.{each_row}
use Rattle.op_typing.proofs.Storing.{kind_is}
use Rattle.op_typing.proofs.Types.{ordinal_single, set_single}
use Rattle.op_typing.specs.Simple.{IsSimple, IsSimpleProgram, is_solid, simple_asks}
use Rattle.op_typing.specs.Typed.{AreTyped, IsShortText, IsTypedAction}

-- ---- types of what counts

ordinal_solid : (o : Option CoreType) → IsSomeAnd (range_of o) (λ range. Unit {0}) → is_solid o ≡ true
ordinal_solid (Some (Integer kind)) h = refl
ordinal_solid (Some Boolean) h = refl
ordinal_solid (Some Char) h = refl
ordinal_solid (Some (Enumeration values)) h = refl
ordinal_solid (Some (Subrange base low high)) h = refl
ordinal_solid _ h = absurd h

set_solid : (o : Option CoreType) → IsSomeAnd (base_of o) (λ base. Unit {0}) → is_solid o ≡ true
set_solid (Some (Set base)) h = refl
set_solid _ h = absurd h

line_feed_short : IsShortText line_feed
line_feed_short = (omega arith, All-cons (λ b. b < 256) 10 [] (omega arith) (All-nil (λ b. b < 256)))

write_by_typed : (core : Core) (r : ℕ) (o : Option CoreType) (t : ℕ) → IsTypedAction core r (write_by o t)
write_by_typed core r (Some Boolean) t = record { sorts = refl; each = (tt, (tt, tt)); taken = tt; nothing = refl }
write_by_typed core r (Some Char) t = record { sorts = refl; each = (tt, (tt, tt)); taken = tt; nothing = refl }
write_by_typed core r _ t = record { sorts = refl; each = (tt, (tt, tt)); taken = tt; nothing = refl }

module _ (core : Core) (sound : IsSound core) (simple : IsSimpleProgram core) (r : ℕ) (x : Routine) (is_there : slice_get core.routines r ≡ Some x) where
  -- ---- Write

  written_typed : (here : Here) (of : TypeId) (f : Found) (width : Items) (now : Now) → AreTyped core r f.items → AreTyped core r width → IsOwn now → AreTyped core r (write_by_now (env_at core r) here of f width now)
  written_typed here of f width ready h k own =
      let w = write_by (host core (type_at core of)) here.temp in
      both core r f.items (width & only (act w)) h (both core r width (only (act w)) k (write_by_typed core r (host core (type_at core of)) here.temp, tt))
  written_typed here of f width (at_path p) h k own = absurd own
  written_typed here of f width (a_text bytes) h k own = both core r f.items (width & only (act (write_text bytes (here.temp + 1)))) h (both core r width (only (act (write_text bytes (here.temp + 1)))) k (record { sorts = refl; each = (own, (tt, tt)); taken = tt; nothing = refl }, tt))

  no_width_typed : (here : Here) → AreTyped core r (no_width here)
  no_width_typed here = (omega (arith, ints), tt)

  one_typed : (o : Output) (here : Here) → IsItem core (within core r) o → EveryWork (simple_asks core) (item_works o) → AreTyped core r (write_one (env_at core r) here o)
  one_typed (plain e) here h s =
      let m = make_typed core sound simple r x is_there e here h.0 s in
      written_typed here (type_of e) (make (env_at core r) here e) (no_width here) (make (env_at core r) here e).now m.0 (no_width_typed here) m.1
  one_typed (padded e w) here h s =
      let m = make_typed core sound simple r x is_there e here h.0.0 s.0 in
      let n = make_typed core sound simple r x is_there w (past 1 here) h.1.0 s.1 in
      written_typed here (type_of e) (make (env_at core r) here e) (make (env_at core r) (past 1 here) w).items (make (env_at core r) here e).now m.0 n.0 m.1

  write_typed : (items : List Output) (here : Here) → All (IsItem core (within core r)) items → EveryWork (simple_asks core) (items_works items) → AreTyped core r (write_all (env_at core r) here items)
  write_typed [] here h s = tt
  write_typed (o ∷ os) here h s =
      both core r (write_one (env_at core r) here o) (write_all (env_at core r) here os)
      (one_typed o here (each_row (IsItem core (within core r)) (o ∷ os) 0 o h refl) s.0)
      (write_typed os here (All-drop (IsItem core (within core r)) 1 (o ∷ os) h) s.1)

  end_typed : (here : Here) (ends : Bool) → AreTyped core r (line_end here ends)
  end_typed here false = tt
  end_typed here true = (omega (arith, ints), (record { sorts = refl; each = (line_feed_short, (tt, tt)); taken = tt; nothing = refl }, tt))

  -- ---- Inc, Dec, Include and Exclude

  counted_typed : (here : Here) (d : Direction) (target : Target) (amount : Expression) (checked : Bool) (f : Found) → IsOrdinal core (type_of target.place) → FoundIs core r (is_text_at_end target.place) (type_of target.place) f → AreTyped core r (make (env_at core r) (past (f.used + 1) (past_whole here)) amount).items → AreTyped core r (counted_at (env_at core r) here d target amount checked f)
  counted_typed here d target amount checked f ordinal h k =
      let of = type_of target.place in
      let t = here.temp + f.used in
      let path = state_path core sound simple r x is_there (is_text_at_end target.place) of here f.now (ordinal_solid (type_at core of) ordinal) h.1 in
      let (kind, single_kind) = ordinal_single core of ordinal in
      let e = kind_is core of kind single_kind in
      let stores = only (act (store (path_of of here f.now) (kind_of core of) t)) in
      let conversions = acts (converted core target.store of t) in
      let sums = acts (arithmetic (sum_or_difference d) checked t t (t + 1) ∷ []) in
      let amounts = (make (env_at core r) (past (f.used + 1) (past_whole here)) amount).items in
      let loads = only (act (load t (kind_of core of) (path_of of here f.now))) in
      both core r f.items (loads & amounts & sums & conversions & stores) h.0
      (both core r loads (amounts & sums & conversions & stores) ((of, path, e), tt)
      (both core r amounts (sums & conversions & stores) k
      (both core r sums (conversions & stores) (tt, tt)
      (both core r conversions stores (converted_typed core sound simple r target.store of t) ((of, path, e), tt)))))

  changed_typed : (here : Here) (o : Operator) (s e : Expression) (f : Found) → IsSet core (type_of s) → FoundIs core r (is_text_at_end s) (type_of s) f → AreTyped core r (make (env_at core r) (past (f.used + 1) (past_whole here)) e).items → AreTyped core r (changed_set (env_at core r) here o (type_of s) e f)
  changed_typed here o s e f set h k =
      let of = type_of s in
      let t = here.temp + f.used in
      let path = state_path core sound simple r x is_there (is_text_at_end s) of here f.now (set_solid (type_at core of) set) h.1 in
      let is_single = set_single core of set in
      let changes = acts (lone (t + 1) (t + 1) ∷ load t Signed32 (path_of of here f.now) ∷ combine o t t (t + 1) ∷ store (path_of of here f.now) Signed32 t ∷ []) in
      let elements = (make (env_at core r) (past (f.used + 1) (past_whole here)) e).items in
      both core r f.items (elements & changes) h.0
      (both core r elements changes k (tt, ((of, path, is_single), (tt, ((of, path, is_single), tt)))))

  element_made : (s e : Expression) (here : Here) (o : Operator) → IsElementOf core (within core r) s e → IsSimple core s → IsSimple core e → AreTyped core r (changed_set (env_at core r) here o (type_of s) e (find (env_at core r) here s))
  element_made s e here o h p q =
      let f = find (env_at core r) here s in
      changed_typed here o s e f h.0.0.1 (find_typed core sound simple r x is_there s here h.0.0.0 p) (make_typed core sound simple r x is_there e (past (f.used + 1) (past_whole here)) h.1 q).0

  pub built_in_typed : (b : BuiltIn) (here : Here) → IsBuiltIn core (within core r) b → EveryWork (simple_asks core) (built_in_works b) → AreTyped core r (done_built_in (env_at core r) here b)
  built_in_typed (write items ends) here h s = both core r (write_all (env_at core r) here items) (line_end here ends) (write_typed items here h s) (end_typed here ends)
  built_in_typed (count d target amount checked) here h s =
      let f = find (env_at core r) here target.place in
      counted_typed here d target amount checked f h.0.0.1 (find_typed core sound simple r x is_there target.place here h.0.0.0 s.0) (make_typed core sound simple r x is_there amount (past (f.used + 1) (past_whole here)) h.1.0 s.1).0
  built_in_typed (include set e) here h s = element_made set e here Add h s.0 s.1
  built_in_typed (exclude set e) here h s = element_made set e here Subtract h s.0 s.1
  built_in_typed (free_of e empties) here h s = let f = find (env_at core r) here e in both core r f.items (only (free true (path_of (type_of e) here f.now))) (find_typed core sound simple r x is_there e here h.0 s).0 (tt, tt)
  built_in_typed (destroy e) here h s = let f = find (env_at core r) here e in both core r f.items (only (free false (path_of (type_of e) here f.now))) (find_typed core sound simple r x is_there e here h.0 s).0 (tt, tt)
  built_in_typed _ here h s = tt
