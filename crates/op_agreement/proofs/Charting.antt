-- What is live lies within the stack or is a global, each apart from all others.
use Rattle.std.proofs.Common.{◌≡◌, ◌≢◌, ◌≤◌, ◌<◌, ◌⊎◌, inl, inr, ℕ, suc, ◌+◌, List, [], ◌∷◌, length, refl, sym, ap, ap₂, ◌∙◌, subst, arith}
use Rattle.std.specs.Prelude.{◌%◌, Bool, true, false, ◌&&◌, nat_eq}
use Rattle.std.proofs.lemmas.Bool.{and_parts, cases_lt, eqb-true}
use Rattle.std.proofs.lemmas.Bool.Decides.{nat_tests}
use Rattle.op_constants.specs.Arranged.{IsSmall, IsUnit}
use Rattle.op_constants.specs.Offsets.{size_in, alignment_in}
use Rattle.op_core.proofs.OneType.{by_number}
use Rattle.op_core.specs.Types.{is_same}
use Rattle.op_expand.specs.Calls.{result_address}
use Rattle.op_places.specs.Homes.{home_at, is_one_root, offset_of}
use Rattle.op_low.specs.State.{Caller}
use Rattle.op_meaning.specs.Values.{Value, Holder, global, local, temporary, object, Place, same_holder}
use Rattle.op_mir.specs.Machine.{MirCaller}
use Rattle.op_mir.specs.declared.path.Root.TheVariants.{Local, Temporary}
use Rattle.op_mir.specs.declared.path.Root.{Root}
use Rattle.op_agreement.specs.Chart.{Floor, Live, address_of, stored_offset, type_held}
use Rattle.op_agreement.specs.Fitting.{DueStands, IsFitting, IsOwned}
use Rattle.op_agreement.specs.Settings.{Apart, Setting, StoredAt, type_stored}
use Rattle.op_agreement.specs.Stands.{CallersStand, IsFloor}
use Rattle.op_constants.proofs.TypesArranged.{type_is_arranged}
use Rattle.op_constants.proofs.Units.{coarser}
use Rattle.op_core.specs.declared.ids.TypeId.{TypeId}

-- ---- the locals of all activations lie one behind the other

pub record FloorsStand (g : Setting) (floors : ℕ → Floor) (depth limit : ℕ) : Type 0 where
  pub each : (d : ℕ) → d ≤ depth → IsFloor g (floors d)
  pub lowest : (d : ℕ) → d ≤ depth → g.bottom ≤ (floors d).base
  pub words : (d : ℕ) → d ≤ depth → (floors d).base % 4 ≡ 0
  pub order : (d e : ℕ) → d < e → e ≤ depth → (floors d).base + (floors d).frame.locals ≤ (floors e).base
  pub last : limit ≡ (floors depth).base + (floors depth).frame.locals

pub below_limit : (g : Setting) (floors : ℕ → Floor) (depth limit : ℕ) → FloorsStand g floors depth limit → (d : ℕ) → d ≤ depth → (floors d).base + (floors d).frame.locals ≤ limit
below_limit g floors depth limit s d low = by (cases_lt d depth)
  where
    by : (d < depth) ⊎ (depth ≤ d) → (floors d).base + (floors d).frame.locals ≤ limit
    by (inl less) = let order = s.order d depth less (omega arith) in let last = s.last in omega arith
    by (inr more) = let same : d ≡ depth = omega arith in let last = s.last in subst (λ d. (floors d).base + (floors d).frame.locals ≤ limit) (sym same) (omega arith)

-- one floor more, above those that stand
one_more : (g : Setting) (floors : ℕ → Floor) (n below limit : ℕ) → IsFloor g (floors (suc n)) → limit ≡ (floors (suc n)).base + (floors (suc n)).frame.locals → limit ≡ below + (floors (suc n)).frame.locals → IsFloor g (floors n) → FloorsStand g floors n below → FloorsStand g floors (suc n) limit
one_more g floors n below limit floor is at last_floor inner =
    let base : (floors (suc n)).base ≡ below = omega arith in
    record {
      each = λ d low. upper (λ d. IsFloor g (floors d)) d low inner.each floor;
      lowest = λ d low. upper (λ d. g.bottom ≤ (floors d).base) d low inner.lowest (let b = inner.lowest n (omega arith) in let e = inner.last in omega arith);
      words = λ d low. upper (λ d. (floors d).base % 4 ≡ 0) d low inner.words (let b = inner.words n (omega arith) in let w = last_floor.fits.whole in let e = inner.last in omega arith);
      order = λ d e less low. upper (λ e. d < e → (floors d).base + (floors d).frame.locals ≤ (floors e).base) e low (λ e low less. inner.order d e less low) (λ less. let b = below_limit g floors n below inner d (omega arith) in omega arith) less;
      last = is;
    }
  where
    upper : (P : ℕ → Type 0) (d : ℕ) → d ≤ suc n → ((d : ℕ) → d ≤ n → P d) → P (suc n) → P d
    upper P d low lower top = by (cases_lt d (suc n))
      where
        by : (d < suc (n)) ⊎ (suc n ≤ d) → P d
        by (inl less) = lower d (omega arith)
        by (inr more) = let same : d ≡ suc n = omega arith in subst P (sym same) top

pub floors_stand : (g : Setting) → IsFitting g → (floors : ℕ → Floor) (values : Holder → Value) (bound : ℕ → ℕ → Place) (cs : List MirCaller) (ls : List Caller) (number address limit room charged : ℕ) → IsFloor g (floors (length cs)) → limit ≡ (floors (length cs)).base + (floors (length cs)).frame.locals → CallersStand g floors values bound cs ls number address limit room charged → FloorsStand g floors (length cs) limit
floors_stand g fit floors values bound [] [] number address limit room charged floor is (main, at) =
    let base : (floors 0).base ≡ g.bottom = omega arith in
    record {
      each = λ d low. let same : d ≡ 0 = omega arith in subst (λ d. IsFloor g (floors d)) (sym same) floor;
      lowest = λ d low. let same : d ≡ 0 = omega arith in subst (λ d. g.bottom ≤ (floors d).base) (sym same) (omega arith);
      words = λ d low. let same : d ≡ 0 = omega arith in subst (λ d. (floors d).base % 4 ≡ 0) (sym same) (ap (λ b. b % 4) base ∙ fit.placed.whole);
      order = λ d e less low. absurd (omega arith);
      last = is;
    }
floors_stand g fit floors values bound [] (l ∷ ls) number address limit room charged floor is s = absurd s
floors_stand g fit floors values bound (c ∷ cs) [] number address limit room charged floor is s = absurd s
floors_stand g fit floors values bound (c ∷ cs) (l ∷ ls) number address limit room charged floor is (inl (below, under, spare, declared, low, charge, at, more, frames, receiver, to, typed, result, waiting, made, position, activation, callers)) =
    one_more g floors (length cs) below limit floor is at activation.floor (floors_stand g fit floors values bound cs ls c.routine (l.activation.registers result_address.0) below spare under activation.floor activation.base callers)
floors_stand g fit floors values bound (c ∷ cs) (l ∷ ls) number address limit room charged floor is (inr (below, under, spare, status, a, ended, others, are, charge, at, more, closing, activation, callers)) =
    one_more g floors (length cs) below limit floor is at activation.floor (floors_stand g fit floors values bound cs others c.routine (a.registers result_address.0) below spare under activation.floor activation.base callers)

-- ---- what is live

pub unit_below : (a : ℕ) → IsUnit a → a ≤ 4
unit_below a (inl e) = omega arith
unit_below a (inr (inl e)) = omega arith
unit_below a (inr (inr e)) = omega arith

-- it has a type whose values are small, stands at a multiple of the type's alignment, by whole words but where it is a global variable, which
-- lies below the stack, and may be read and written
pub record LiveStands (g : Setting) (floors : ℕ → Floor) (limit : ℕ) (h : Holder) : Type 0 where
  pub small : IsSmall g.core (type_held g.core floors h)
  pub aligned : 0 < size_in g.core (type_held g.core floors h) → address_of g floors h % alignment_in g.core (type_held g.core floors h) ≡ 0
  pub words : (address_of g floors h + size_in g.core (type_held g.core floors h) ≤ g.bottom) ⊎ (address_of g floors h % 4 ≡ 0)
  pub below : address_of g floors h + size_in g.core (type_held g.core floors h) ≤ limit
  pub readable : (x : ℕ) → address_of g floors h ≤ x → x < address_of g floors h + size_in g.core (type_held g.core floors h) → g.placement.rights.readable x ≡ true
  pub writable : (x : ℕ) → address_of g floors h ≤ x → x < address_of g floors h + size_in g.core (type_held g.core floors h) → g.placement.rights.writable x ≡ true

module _ (g : Setting) (fit : IsFitting g) (floors : ℕ → Floor) (depth limit : ℕ) (s : FloorsStand g floors depth limit) (top : limit ≤ g.top) where
  bottom_below : g.bottom ≤ limit
  bottom_below = let a = s.lowest depth (omega arith) in let b = s.last in omega arith

  stored_stands : (d : ℕ) (root : Root) (offset : ℕ) (at size : ℕ) → d ≤ depth → StoredAt g.core (floors d).number (floors d).frame root offset → at ≡ (floors d).base + offset → size ≡ size_in g.core (type_stored g.core (floors d).number root) → (at % 4 ≡ 0) × (at + size ≤ limit) × ((x : ℕ) → at ≤ x → x < at + size → g.placement.rights.readable x ≡ true) × ((x : ℕ) → at ≤ x → x < at + size → g.placement.rights.writable x ≡ true)
  stored_stands d root offset at size low stored is size_is =
      let floor = s.each d low in
      let within = floor.fits.within root offset stored in
      let words = floor.fits.words root offset stored in
      let base = s.words d low in
      let lowest = s.lowest d low in
      let inside = below_limit g floors depth limit s d low in
      let end : at + size ≤ limit = omega arith in
      (omega arith, end, λ x from to. fit.placed.readable x (omega arith) (omega arith), λ x from to. fit.placed.writable x (omega arith) (omega arith))

  -- what stands by whole words stands at a multiple of any alignment
  whole_aligned : (of : TypeId) (a : ℕ) → IsSmall g.core of → a % 4 ≡ 0 → a % alignment_in g.core of ≡ 0
  whole_aligned of a small whole =
      let unit = (type_is_arranged g.core fit.program.extents of small).unit in
      coarser (alignment_in g.core of) 4 a unit (inr (inr refl)) (unit_below (alignment_in g.core of) unit) whole

  pub live_stands : (h : Holder) → Live g.core floors depth h → LiveStands g floors limit h
  live_stands (global v) live =
      let stands = fit.placed.globals v live in
      let below = stands.below in
      let bottom = bottom_below in
      record { small = stands.type; aligned = stands.aligned; words = inl stands.below; below = omega arith; readable = stands.readable; writable = stands.writable }
  live_stands (local d v) (low, stored) =
      let offset = stored_offset (home_at (floors d).frame.homes (record { 0 = v })) in
      let (words, below, readable, writable) = stored_stands d (Local (record { 0 = v })) offset (address_of g floors (local d v)) (size_in g.core (type_held g.core floors (local d v))) low stored refl refl in
      let small = (s.each d low).fits.types (Local (record { 0 = v })) offset stored in
      record { small = small; aligned = λ some. whole_aligned (type_held g.core floors (local d v)) (address_of g floors (local d v)) small words; words = inr words; below = below; readable = readable; writable = writable }
  live_stands (temporary d of n) (low, stored) =
      let offset = offset_of g.core (Temporary of n) (floors d).frame.temporaries (floors d).frame.roots in
      let (words, below, readable, writable) = stored_stands d (Temporary of n) offset (address_of g floors (temporary d of n)) (size_in g.core of) low stored refl refl in
      let small = (s.each d low).fits.types (Temporary of n) offset stored in
      record { small = small; aligned = λ some. whole_aligned of (address_of g floors (temporary d of n)) small words; words = inr words; below = below; readable = readable; writable = writable }
  live_stands (object name) live = absurd live

  -- a variable of an activation lies by whole words, and not below the stack
  pub local_stands : (d v : ℕ) → Live g.core floors depth (local d v) → (address_of g floors (local d v) % 4 ≡ 0) × (g.bottom ≤ address_of g floors (local d v))
  local_stands d v (low, stored) =
      let offset = stored_offset (home_at (floors d).frame.homes (record { 0 = v })) in
      let (words, below, readable, writable) = stored_stands d (Local (record { 0 = v })) offset (address_of g floors (local d v)) (size_in g.core (type_held g.core floors (local d v))) low stored refl refl in
      let lowest = s.lowest d low in
      (words, omega arith)

  -- the word that counts finalization parts lies apart from it
  pub due_apart : (at : ℕ) → DueStands g at → (h : Holder) → Live g.core floors depth h → Apart (address_of g floors h) (size_in g.core (type_held g.core floors h)) at 4
  due_apart at due (global v) live = due.apart v live
  due_apart at due (local d v) (low, stored) = let base = s.lowest d low in let below = due.below in inr (omega arith)
  due_apart at due (temporary d of n) (low, stored) = let base = s.lowest d low in let below = due.below in inr (omega arith)
  due_apart at due (object name) live = absurd live

  -- a byte of the heap's is none of it
  pub owned_apart : (x : ℕ) → IsOwned g x → (h : Holder) → Live g.core floors depth h → (x < address_of g floors h) ⊎ (address_of g floors h + size_in g.core (type_held g.core floors h) ≤ x)
  owned_apart x owned (global v) live = owned.globals v live
  owned_apart x owned (local d v) (low, stored) = let base = s.lowest d low in let below = owned.below in inl (omega arith)
  owned_apart x owned (temporary d of n) (low, stored) = let base = s.lowest d low in let below = owned.below in inl (omega arith)
  owned_apart x owned (object name) live = absurd live

  -- ---- two of them lie apart

  abbrev size_stored : ℕ → Root → ℕ
  size_stored d root = size_in g.core (type_stored g.core (floors d).number root)

  stored_apart : (d e : ℕ) (one other : Root) (a b : ℕ) → d ≤ depth → e ≤ depth → StoredAt g.core (floors d).number (floors d).frame one a → StoredAt g.core (floors e).number (floors e).frame other b → (d ≡ e → is_one_root one other ≡ false) → Apart ((floors d).base + a) (size_stored d one) ((floors e).base + b) (size_stored e other)
  stored_apart d e one other a b low high first second differ = by (cases_lt d e) (cases_lt e d)
    where
      within_one : a + size_stored d one ≤ (floors d).frame.locals
      within_one = (s.each d low).fits.within one a first

      within_other : b + size_stored e other ≤ (floors e).frame.locals
      within_other = (s.each e high).fits.within other b second

      moved : Apart a (size_stored d one) b (size_stored d other) → Apart ((floors d).base + a) (size_stored d one) ((floors d).base + b) (size_stored d other)
      moved (inl before) = inl (omega arith)
      moved (inr behind) = inr (omega arith)

      level : (same : d ≡ e) → Apart ((floors d).base + a) (size_stored d one) ((floors e).base + b) (size_stored e other)
      level same =
          subst (λ e. StoredAt g.core (floors e).number (floors e).frame other b → Apart ((floors d).base + a) (size_stored d one) ((floors e).base + b) (size_stored e other)) same
          (λ second. moved ((s.each d low).fits.apart one other a b (differ same) first second)) second

      by : (d < e) ⊎ (e ≤ d) → (e < d) ⊎ (d ≤ e) → Apart ((floors d).base + a) (size_stored d one) ((floors e).base + b) (size_stored e other)
      by (inl less) other_order = let order = s.order d e less high in let inside = within_one in inl (omega arith)
      by (inr more) (inl less) = let order = s.order e d less low in let inside = within_other in inr (omega arith)
      by (inr more) (inr less) = level (omega arith)

  global_apart : (v d : ℕ) (root : Root) (a : ℕ) → Live g.core floors depth (global v) → d ≤ depth → StoredAt g.core (floors d).number (floors d).frame root a → address_of g floors (global v) + size_in g.core (type_held g.core floors (global v)) ≤ (floors d).base + a
  global_apart v d root a live low stored = let below = (fit.placed.globals v live).below in let base = s.lowest d low in omega arith

  not_same : (v u : ℕ) → nat_eq v u ≡ false → v ≢ u
  not_same v u e same = let t : nat_eq v u ≡ true = grind (arith, nat_tests) in let clash : true ≡ false = sym t ∙ e in cc

  front_true : (d e : ℕ) (b : Bool) → d ≡ e → (nat_eq d e && b) ≡ false → b ≡ false
  front_true d e b same is = let t : nat_eq d e ≡ true = grind (arith, nat_tests) in rw t at is

  pub live_apart : (h k : Holder) → same_holder h k ≡ false → Live g.core floors depth h → Live g.core floors depth k → Apart (address_of g floors h) (size_in g.core (type_held g.core floors h)) (address_of g floors k) (size_in g.core (type_held g.core floors k))
  live_apart (global v) (global u) e one other = fit.placed.apart v u (not_same v u e) one other
  live_apart (global v) (local d u) e one (low, stored) = inl (global_apart v d (Local (record { 0 = u })) _ one low stored)
  live_apart (global v) (temporary d of n) e one (low, stored) = inl (global_apart v d (Temporary of n) _ one low stored)
  live_apart (local d v) (global u) e (low, stored) other = inr (global_apart u d (Local (record { 0 = v })) _ other low stored)
  live_apart (local d v) (local f u) e (low, stored) (high, kept) = stored_apart d f (Local (record { 0 = v })) (Local (record { 0 = u })) _ _ low high stored kept (λ same. front_true d f (nat_eq v u) same e)
  live_apart (local d v) (temporary f of n) e (low, stored) (high, kept) = stored_apart d f (Local (record { 0 = v })) (Temporary of n) _ _ low high stored kept (λ same. refl)
  live_apart (temporary d of n) (global u) e (low, stored) other = inr (global_apart u d (Temporary of n) _ other low stored)
  live_apart (temporary d of n) (local f u) e (low, stored) (high, kept) = stored_apart d f (Temporary of n) (Local (record { 0 = u })) _ _ low high stored kept (λ same. refl)
  live_apart (temporary d of n) (temporary f to k) e (low, stored) (high, kept) = stored_apart d f (Temporary of n) (Temporary to k) _ _ low high stored kept (λ same. both_front d f same e)
    where
      both_front : (d f : ℕ) → d ≡ f → same_holder (temporary d of n) (temporary f to k) ≡ false → (is_same of to && nat_eq n k) ≡ false
      both_front d f same e = let t : nat_eq d f ≡ true = grind (arith, nat_tests) in rw t at e
  live_apart (object name) k e one other = absurd one
  live_apart (global v) (object name) e one other = absurd other
  live_apart (local d v) (object name) e one other = absurd other
  live_apart (temporary d of n) (object name) e one other = absurd other

-- ---- what the test of holders tells

pub same_is : (h k : Holder) → same_holder h k ≡ true → h ≡ k
same_is (global v) (global u) e = ap (λ n. global n) (eqb-true v u e)
same_is (local d v) (local f u) e = let (p, q) = and_parts (nat_eq d f) (nat_eq v u) e in ap₂ (λ a b. local a b) (eqb-true d f p) (eqb-true v u q)
same_is (temporary d of n) (temporary f to k) e =
    let (pq, r) = and_parts (nat_eq d f && is_same of to) (nat_eq n k) e in
    let (p, q) = and_parts (nat_eq d f) (is_same of to) pq in
    ap₂ (λ a b. temporary a b n) (eqb-true d f p) (by_number of to q) ∙ ap (λ m. temporary f to m) (eqb-true n k r)
same_is (object v) (object u) e = ap (λ n. object n) (eqb-true v u e)
same_is (global v) (local d u) e = absurd cc
same_is (global v) (temporary d of n) e = absurd cc
same_is (global v) (object u) e = absurd cc
same_is (local d v) (global u) e = absurd cc
same_is (local d v) (temporary f of n) e = absurd cc
same_is (local d v) (object u) e = absurd cc
same_is (temporary d of n) (global u) e = absurd cc
same_is (temporary d of n) (local f u) e = absurd cc
same_is (temporary d of n) (object u) e = absurd cc
same_is (object v) (global u) e = absurd cc
same_is (object v) (local d u) e = absurd cc
same_is (object v) (temporary d of n) e = absurd cc
