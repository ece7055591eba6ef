-- Where paths lead: the place of the root, and then the place itself.
use Rattle.std.proofs.Common.{◌≡◌, ◌≤◌, ◌<◌, ◌⊎◌, inl, inr, ℕ, ◌+◌, ◌-◌, ◌*◌, List, [], ◌∷◌, ◌++◌, length, Option, Some, None, refl, sym, ap, ◌∙◌, subst, arith, append_assoc}
use Rattle.std.specs.Prelude.{◌^◌, map, Bool, true, false, nat_lt, if◌then◌else◌}
use Rattle.std.proofs.lemmas.Bool.Decides.{nat_tests}
use Rattle.op_compute.proofs.Registers.{put_lower, put_same}
use Rattle.op_compute.specs.Bank.{error_block_of}
use Rattle.op_compute.specs.Straight.{at, fewest_steps, put}
use Rattle.op_compute.specs.declared.bank.RuntimeError.TheVariants.{RangeCheck}
use Rattle.op_constants.proofs.Lying.{leads_on, leads_within}
use Rattle.op_constants.proofs.Reaching.{steps_lead}
use Rattle.op_constants.proofs.TypesArranged.{type_is_arranged}
use Rattle.op_constants.specs.Arranged.{IsSmall}
use Rattle.op_constants.specs.Lies.{Leads, arrangement_of}
use Rattle.op_constants.specs.Offsets.{size_in}
use Rattle.op_constants.specs.Reaching.{distance}
use Rattle.op_core.specs.declared.ids.TypeId.{TypeId}
use Rattle.op_places.specs.Homes.{home_at, offset_of, parameter}
use Rattle.op_places.specs.Places.{home_code, home_of, home_spot, place_code, place_of, reach_code, steps_code, steps_spot}
use Rattle.op_places.specs.declared.frame.Frame.{Frame}
use Rattle.op_places.specs.declared.homes.Home.TheVariants.{Held, Stored}
use Rattle.op_places.specs.declared.homes.Home.{Home}
use Rattle.op_places.specs.declared.spot.Spot.{Spot}
use Rattle.op_low.specs.Machine.{act}
use Rattle.op_low.specs.State.{State, block_of, routine_of}
use Rattle.op_low.specs.declared.ids.VirtualRegister.{VirtualRegister}
use Rattle.op_low.specs.declared.instruction.Instruction.TheVariants.{Address, Const, Local as LocalAddress}
use Rattle.op_low.specs.declared.instruction.Instruction.{Instruction}
use Rattle.op_meaning.specs.Costs.{indices}
use Rattle.op_meaning.specs.Paths.{place_of as place_meant, place_of_root}
use Rattle.op_meaning.specs.Values.{Place, Holder, all_of, local, temporary, Reached as Met, failing, reached as met}
use Rattle.op_mir.specs.Machine.{MirState}
use Rattle.op_mir.specs.View.{view_path, view_root, view_step}
use Rattle.op_mir.specs.declared.path.Path.{Path}
use Rattle.op_mir.specs.declared.path.Root.TheVariants.{Global, Local, Through, Temporary}
use Rattle.op_mir.specs.declared.path.Root.{Root}
use Rattle.op_rt_text.specs.Names.{register}
use Rattle.op_rv.specs.declared.symbol.Symbol.TheVariants.{Global as GlobalSymbol}
use Rattle.op_agreement.proofs.Charting.{live_stands}
use Rattle.op_agreement.proofs.Elements.{KeptBelow}
use Rattle.op_agreement.proofs.Going.{Goes, GoesTo, cost_of, goes_from, goes_none, goes_one, goes_straight, goes_then, goes_to, goes_within, is_read_instruction}
use Rattle.op_agreement.proofs.Lengths.{tail_short}
use Rattle.op_agreement.proofs.Places.{HaveIndices, Kept, reach_then, reached_behind, small_first, small_last, spot_behind, steps_then}
use Rattle.op_agreement.proofs.Standing.{here}
use Rattle.op_agreement.proofs.Updating.{floors_here, limit_here}
use Rattle.op_agreement.specs.Chart.{Floor, IsAt, Live, address_of, stored_offset, type_held}
use Rattle.op_agreement.specs.Fitting.{IsFitting}
use Rattle.op_agreement.specs.Settings.{IsPlaced, IsRooted, Setting, StoredAt}
use Rattle.op_agreement.specs.Stands.{Stays}
use Rattle.op_agreement.specs.Typed.{PathTo, RootIs}

-- what it costs at most to come to a place
abbrev pub place_most : Path → ℕ
place_most path = 3 + 2 * indices (view_path path)

regroup : (a b c d : List Instruction) → (a ++ b ++ c) ++ d ≡ a ++ ((b ++ c) ++ d)
regroup a b c d = simp append_assoc refl

module _ (g : Setting) (fit : IsFitting g) (m : MirState) (l : State) (floors : ℕ → Floor) (s : Stays g floors m l) where
  abbrev frame_here : Frame
  frame_here = (here m floors).frame

  abbrev At : Place → TypeId → ℕ → Type 0
  At q of a = IsAt g floors (length m.callers) q of a

  -- a place that is live lies below the limit
  pub at_within : (q : Place) (of : TypeId) (a : ℕ) → At q of a → IsSmall g.core of → a < 2 ^ 32 → a + size_in g.core of < 2 ^ 32
  at_within q of a is small low = by is.at
    where
      by : (size_in g.core of ≡ 0) ⊎ (a ≡ address_of g floors q.holder + is.distance) → a + size_in g.core of < 2 ^ 32
      by (inl none) = omega arith
      by (inr at_) =
          let stands = live_stands g fit floors (length m.callers) l.limit (floors_here g fit floors m l s) (limit_here g fit floors m l s) q.holder is.live in
          let whole = type_is_arranged g.core fit.program.extents (type_held g.core floors q.holder) stands.small in
          let part = type_is_arranged g.core fit.program.extents of small in
          let within = leads_within (arrangement_of g.core (type_held g.core floors q.holder)) (arrangement_of g.core of) q.path is.distance whole.arranged is.leads in
          let a_size = whole.size in
          let b_size = part.size in
          let below = stands.below in
          let limit = limit_here g fit floors m l s in
          let top = fit.placed.top in
          omega arith

  -- ---- the place where a path begins

  pub record HomeGoes (f : ℕ → ℕ) (free : VirtualRegister) (home : Home) (q : Place) (from : TypeId) (code : List Instruction) : Type 0 where
    pub h : ℕ → ℕ
    pub goes : Goes g (fewest_steps (home_code frame_here free home)) 1 (at l f (home_code frame_here free home ++ code)) (at l h code)
    pub kept : KeptBelow free.0 f h
    pub is : At q from (h (home_spot free home).base.0 + (home_spot free home).offset)
    pub low : h (home_spot free home).base.0 + (home_spot free home).offset < 2 ^ 32
    pub base : (home_spot free home).base.0 < (home_spot free home).free.0
    pub more : free.0 ≤ (home_spot free home).free.0

  -- a register has become the address
  address_goes : (f : ℕ → ℕ) (free : VirtualRegister) (i : Instruction) (code : List Instruction) (v : ℕ) → act g.low g.placement i (at l f code) ≡ at l (put f free v) code → is_read_instruction i ≡ false → Goes g 1 (cost_of g (at l f (i ∷ code)) i) (at l f (i ∷ code)) (at l (put f free v) code)
  address_goes f free i code v does unread = (goes_to g 1 (at l f (i ∷ code)) (act g.low g.placement i (at l f code)) (at l (put f free v) code) does (goes_one g l f i code unread))

  plus_none : (a : ℕ) → a ≡ a + 0
  plus_none a = omega arith

  -- what has an address in the locals
  stored_goes : (f : ℕ → ℕ) (free : VirtualRegister) (offset : ℕ) (h : Holder) (from : TypeId) (code : List Instruction) → Live g.core floors (length m.callers) h → type_held g.core floors h ≡ from → address_of g floors h ≡ (here m floors).base + offset → offset + size_in g.core from ≤ (here m floors).frame.locals → HomeGoes f free (Stored offset) (all_of h) from code
  unfolding act put
  stored_goes f free offset h from code live type address within = by (nat_lt offset frame_here.locals) refl
    where
      locals : l.limit - (routine_of g.low l.top.routine).locals + offset ≡ (here m floors).base + offset
      locals =
          let a = s.activation in
          let base = a.base in
          let is : (routine_of g.low l.top.routine).locals ≡ (here m floors).frame.locals = ap (λ r. (routine_of g.low r).locals) a.same ∙ a.floor.expanded.locals in
          omega arith

      low : (here m floors).base + offset < 2 ^ 32
      low =
          let a = s.activation in
          let base = a.base in
          let limit = limit_here g fit floors m l s in
          let top = fit.placed.top in
          omega arith

      holds : (a : ℕ) → (size_in g.core from ≡ 0) ⊎ (a ≡ (here m floors).base + offset) → At (all_of h) from (a + 0)
      holds a at_ = record { live = live; distance = 0; leads = (ap (arrangement_of g.core) type, refl); at = is at_ }
        where
          is : (size_in g.core from ≡ 0) ⊎ (a ≡ (here m floors).base + offset) → (size_in g.core from ≡ 0) ⊎ (a + 0 ≡ address_of g floors h + 0)
          is (inl none) = inl none
          is (inr same) = inr (omega arith)

      by : (b : Bool) → nat_lt offset frame_here.locals ≡ b → HomeGoes f free (Stored offset) (all_of h) from code
      by true e = record {
        h = put f free ((here m floors).base + offset);
        goes = subst (λ c. Goes g (fewest_steps c) 1 (at l f (c ++ code)) (at l (put f free ((here m floors).base + offset)) code)) (sym (ap (λ b. if b then LocalAddress free offset ∷ [] else Const free 0 ∷ []) e))
            (address_goes f free (LocalAddress free offset) code ((here m floors).base + offset) (ap (λ v. at l (put f free v) code) locals) refl);
        kept = λ r below. put_lower f free ((here m floors).base + offset) r below;
        is = holds (put f free ((here m floors).base + offset) free.0) (inr (put_same f free ((here m floors).base + offset)));
        low = let is = put_same f free ((here m floors).base + offset) in let less = low in omega arith;
        base = omega arith;
        more = omega arith;
      }
      by false e = record {
        h = put f free 0;
        goes = subst (λ c. Goes g (fewest_steps c) 1 (at l f (c ++ code)) (at l (put f free 0) code)) (sym (ap (λ b. if b then LocalAddress free offset ∷ [] else Const free 0 ∷ []) e))
            (address_goes f free (Const free 0) code 0 refl refl);
        kept = λ r below. put_lower f free 0 r below;
        is = holds (put f free 0 free.0) (inl (let more : frame_here.locals ≤ offset = grind (arith, nat_tests) in omega arith));
        low = let is = put_same f free 0 in omega arith;
        base = omega arith;
        more = omega arith;
      }

  pub home_goes : (root : Root) (from : TypeId) (free : VirtualRegister) (f : ℕ → ℕ) (code : List Instruction) → RootIs g.core (here m floors).number (view_root root) from → IsPlaced g.core (here m floors).number frame_here root → (here m floors).frame.bank.scratch ≤ free.0 → Kept g fit m l floors s f → HomeGoes f free (home_of g.core frame_here root) (place_of_root m.world (view_root root)) from code
  unfolding act put
  home_goes (Global v) from free f code (known, type) placed scratch kept =
      let a = g.placement.address (GlobalSymbol (record { 0 = v.0 })) in
      let less = fit.placed.words (GlobalSymbol (record { 0 = v.0 })) in
      let is = put_same f free a in
      record {
        h = put f free a;
        goes = address_goes f free (Address free (GlobalSymbol (record { 0 = v.0 }))) code a refl refl;
        kept = λ r below. put_lower f free a r below;
        is = record { live = known; distance = 0; leads = (ap (arrangement_of g.core) type, refl); at = inr (ap (λ v. v + 0) is) };
        low = omega arith;
        base = omega arith;
        more = omega arith;
      }
  home_goes (Local v) from free f code (variable, type) (offset, home) scratch kept =
      let fits = s.activation.floor.fits in
      let stored_here : StoredAt g.core (here m floors).number frame_here (Local (record { 0 = v.0 })) offset = (variable, home) in
      let offset_is : stored_offset (home_at frame_here.homes (record { 0 = v.0 })) ≡ offset = ap stored_offset home in
      let live : Live g.core floors (length m.callers) (local (length m.callers) v.0) = (omega arith, subst (StoredAt g.core (here m floors).number frame_here (Local (record { 0 = v.0 }))) (sym offset_is) stored_here) in
      let within = fits.within (Local (record { 0 = v.0 })) offset stored_here in
      subst (λ home. HomeGoes f free home (all_of (local m.world.depth v.0)) from code) (sym home)
      (subst (λ d. HomeGoes f free (Stored offset) (all_of (local d v.0)) from code) (sym s.depth)
      (stored_goes f free offset (local (length m.callers) v.0) from code live type (ap (λ n. (here m floors).base + n) offset_is) (subst (λ t. offset + size_in g.core t ≤ frame_here.locals) type within)))
  home_goes (Temporary of n) from free f code type placed scratch kept =
      let fits = s.activation.floor.fits in
      let offset = offset_of g.core (Temporary of n) frame_here.temporaries frame_here.roots in
      let stored_here : StoredAt g.core (here m floors).number frame_here (Temporary of n) offset = (placed, refl) in
      let within = fits.within (Temporary of n) offset stored_here in
      subst (λ d. HomeGoes f free (Stored offset) (all_of (temporary d of n)) from code) (sym s.depth)
      (stored_goes f free offset (temporary (length m.callers) of n) from code (omega arith, stored_here) type refl (subst (λ t. offset + size_in g.core t ≤ frame_here.locals) type within))
  home_goes (Through v) from free f code (variable, type) placed scratch kept =
      let a = s.activation in
      let fits = a.floor.fits in
      let home = fits.references v variable in
      let low = fits.homes v variable.0 in
      let in_front : parameter v.0 < (here m floors).frame.bank.temporaries = (subst (Rattle.op_agreement.specs.Settings.HomeFits frame_here) home low).1 in
      let behind = fits.scratch in
      let there : f (parameter v.0) ≡ l.top.registers (parameter v.0) = kept (parameter v.0) (omega arith) in
      let word = a.kept.words v.0 variable in
      let is_at : At (m.world.bound (length m.callers) v.0) from (l.top.registers (parameter v.0)) = subst (λ t. At (m.world.bound (length m.callers) v.0) t (l.top.registers (parameter v.0))) type (a.kept.references v.0 variable) in
      let from_register : l.top.registers (parameter v.0) ≡ f (parameter v.0) + 0 = omega arith in
      subst (λ home. HomeGoes f free home (m.world.bound m.world.depth v.0) from code) (sym home)
      (subst (λ d. HomeGoes f free (Held (register (parameter v.0))) (m.world.bound d v.0) from code) (sym s.depth)
      (record {
        h = f;
        goes = goes_within g 0 1 (at l f code) (at l f code) (goes_none g (at l f code)) (omega arith);
        kept = λ r below. refl;
        is = subst (At (m.world.bound (length m.callers) v.0) from) from_register is_at;
        low = omega arith;
        base = omega arith;
        more = omega arith;
      }))

  -- ---- the place where it leads

  -- the registers of a spot have the address of the place, or the error has come
  pub record Reached (least most : ℕ) (from : State) (f : ℕ → ℕ) (free : VirtualRegister) (spot : Spot) (rest : List Instruction) (q : Place) (of : TypeId) : Type 0 where
    pub h : ℕ → ℕ
    pub goes : Goes g least most from (at l h rest)
    pub kept : KeptBelow free.0 f h
    pub is : At q of (h spot.base.0 + spot.offset)
    pub low : h spot.base.0 + spot.offset + size_in g.core of < 2 ^ 32

  pub record Failed (least most : ℕ) (from : State) (error : ℕ) : Type 0 where
    pub is : error ≡ 201
    pub h : ℕ → ℕ
    pub goes : Goes g least most from (at l h (block_of g.low l.top.routine (error_block_of (here m floors).frame.bank RangeCheck).0))

  abbrev pub PlaceTo : (least most : ℕ) → State → (ℕ → ℕ) → VirtualRegister → Spot → List Instruction → TypeId → Met Place → Type 0
  PlaceTo least most from f free spot rest of (failing error) = Failed least most from error
  PlaceTo least most from f free spot rest of (met q) = Reached least most from f free spot rest q of

  module _ (path : Path) (of : TypeId) (limit : ℕ) (free : VirtualRegister) (f : ℕ → ℕ) (rest : List Instruction) (typed : PathTo g.core (here m floors).number (view_path path) of) (placed : IsPlaced g.core (here m floors).number (here m floors).frame path.root) (indices : HaveIndices (here m floors).routine path.steps) (scratch : (here m floors).frame.bank.scratch ≤ free.0) (kept : Kept g fit m l floors s f) where
    abbrev spot_here : Spot
    spot_here = place_of g.core frame_here limit path.root path.steps free

    abbrev begin : Spot
    begin = home_spot free (home_of g.core frame_here path.root)

    pub spot_fits : begin.base.0 < begin.free.0 → free.0 ≤ begin.free.0 → (spot_here.base.0 < spot_here.free.0) × (free.0 ≤ spot_here.free.0) × (spot_here.offset ≤ limit)
    spot_fits base more =
        let (p, q) = spot_behind g.core path.steps begin base in
        let (a, b, c) = reached_behind limit (steps_spot g.core path.steps begin) p in
        (a, omega arith, c)

    abbrev tail : List Instruction
    tail = steps_code g.core frame_here path.steps begin ++ reach_code limit (steps_spot g.core path.steps begin)

    abbrev least : ℕ
    least = fewest_steps (place_code g.core frame_here limit path.root path.steps free)

    abbrev most : ℕ
    most = 1 + length tail

    -- the indices are paid for by their bytes
    few : most ≤ place_most path
    few = let less = tail_short g.core frame_here path.root limit path.steps begin (steps_spot g.core path.steps begin) in omega arith

    fewest_of : (xs ys zs : List Instruction) → fewest_steps (xs ++ ys ++ zs) ≤ fewest_steps xs + fewest_steps (ys ++ zs)
    fewest_of [] ys zs = omega arith
    fewest_of (x ∷ xs) ys zs = omega arith

    pub place_goes : PlaceTo least (place_most path) (at l f (place_code g.core frame_here limit path.root path.steps free ++ rest)) f free spot_here rest of (place_meant m.world (view_path path))
    place_goes =
        let home = home_goes path.root typed.from free f (tail ++ rest) typed.root placed scratch kept in
        let small = small_first g.core typed.from (map view_step path.steps) typed.small in
        let last = small_last g.core typed.from of (map view_step path.steps) typed.reaches typed.small in
        let room = at_within (place_of_root m.world (view_root path.root)) typed.from (home.h begin.base.0 + begin.offset) home.is small home.low in
        let (far, more) = spot_behind g.core path.steps begin home.base in
        let kept_home : Kept g fit m l floors s home.h = λ r below. home.kept r (omega arith) ∙ kept r below in
        let straight = goes_straight g l tail rest home.h in
        let many = fewest_of (home_code frame_here free (home_of g.core frame_here path.root)) (steps_code g.core frame_here path.steps begin) (reach_code limit (steps_spot g.core path.steps begin)) in
        let first = fewest_steps (home_code frame_here free (home_of g.core frame_here path.root)) in
        let before = goes_from g first (at l f (place_code g.core frame_here limit path.root path.steps free ++ rest)) (at l f (home_code frame_here free (home_of g.core frame_here path.root) ++ (tail ++ rest))) (at l home.h (tail ++ rest)) (ap (at l f) (regroup (home_code frame_here free (home_of g.core frame_here path.root)) (steps_code g.core frame_here path.steps begin) (reach_code limit (steps_spot g.core path.steps begin)) rest)) home.goes in
        steps_then g fit m l floors s path.steps begin home.h (place_of_root m.world (view_root path.root)) typed.from of (home.h begin.base.0 + begin.offset) (reach_code limit (steps_spot g.core path.steps begin))
        (λ o. GoesTo g (fewest_steps tail) (length tail) l (at l home.h (tail ++ rest)) rest o → PlaceTo least (place_most path) (at l f (place_code g.core frame_here limit path.root path.steps free ++ rest)) f free spot_here rest of (place_meant m.world (view_path path)))
        indices typed.words typed.reaches typed.small (omega arith) home.base kept_home refl room
        (λ q e h after value.
        let (ks, place_is, leads) = steps_lead g.core fit.program.extents fit.program.first_type m.world typed.from of (map view_step path.steps) (place_of_root m.world (view_root path.root)) q small.there typed.reaches e in
        let whole = type_is_arranged g.core fit.program.extents typed.from small in
        let part = type_is_arranged g.core fit.program.extents of last in
        let within = leads_within (arrangement_of g.core typed.from) (arrangement_of g.core of) ks (distance g.core m.world (map view_step path.steps)) whole.arranged leads in
        let a_size = whole.size in
        let b_size = part.size in
        let d = distance g.core m.world (map view_step path.steps) in
        let spot1 = steps_spot g.core path.steps begin in
        reach_then limit spot1 h (λ o. GoesTo g (fewest_steps tail) (length tail) l (at l home.h (tail ++ rest)) rest o → PlaceTo least (place_most path) (at l f (place_code g.core frame_here limit path.root path.steps free ++ rest)) f free spot_here rest of (place_meant m.world (view_path path))) far (omega arith)
        (λ k later same goes. subst (λ o. PlaceTo least (place_most path) (at l f (place_code g.core frame_here limit path.root path.steps free ++ rest)) f free spot_here rest of o) (sym e) (record {
          h = k;
          goes = goes_within g least (place_most path) (at l f (place_code g.core frame_here limit path.root path.steps free ++ rest)) (at l k rest)
              (goes_then g first (fewest_steps tail) least (at l f (place_code g.core frame_here limit path.root path.steps free ++ rest)) (at l home.h (tail ++ rest)) (at l k rest) many before goes) few;
          kept = λ r below. later r (omega arith) ∙ after r (omega arith) ∙ home.kept r below;
          is = at_further (place_of_root m.world (view_root path.root)) q typed.from of ks (home.h begin.base.0 + begin.offset) d (k spot_here.base.0 + spot_here.offset) home.is place_is leads (same ∙ value) (omega arith);
          low = omega arith;
        })))
        (λ e h goes. subst (λ o. PlaceTo least (place_most path) (at l f (place_code g.core frame_here limit path.root path.steps free ++ rest)) f free spot_here rest of o) (sym e) (record {
          is = refl;
          h = h;
          goes = goes_within g least (place_most path) (at l f (place_code g.core frame_here limit path.root path.steps free ++ rest)) (at l h (block_of g.low l.top.routine (error_block_of (here m floors).frame.bank RangeCheck).0))
              (goes_then g first (fewest_steps tail) least (at l f (place_code g.core frame_here limit path.root path.steps free ++ rest)) (at l home.h (tail ++ rest)) (at l h (block_of g.low l.top.routine (error_block_of (here m floors).frame.bank RangeCheck).0)) many before goes) few;
        }))
        straight
      where
        -- a place behind a place
        at_further : (p q : Place) (from of : TypeId) (ks : List ℕ) (a d b : ℕ) → At p from a → q ≡ record { holder = p.holder; path = p.path ++ ks } → Leads (arrangement_of g.core from) ks (arrangement_of g.core of) d → b ≡ a + d → d + size_in g.core of ≤ size_in g.core from → At q of b
        at_further p q from of ks a d b is same leads sum within =
            subst (λ q. At q of b) (sym same) (record {
              live = is.live;
              distance = is.distance + d;
              leads = leads_on (arrangement_of g.core (type_held g.core floors p.holder)) (arrangement_of g.core from) (arrangement_of g.core of) p.path ks is.distance d is.leads leads;
              at = by is.at;
            })
          where
            by : (size_in g.core from ≡ 0) ⊎ (a ≡ address_of g floors p.holder + is.distance) → (size_in g.core of ≡ 0) ⊎ (b ≡ address_of g floors p.holder + (is.distance + d))
            by (inl none) = inl (omega arith)
            by (inr at_) = inr (omega arith)
