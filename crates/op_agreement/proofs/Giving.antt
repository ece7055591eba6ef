-- The arguments of a call: the code of each comes to a register that has what is handed over, or to error 201 of an index.
use Rattle.std.proofs.Common.{◌≡◌, ◌≤◌, ◌<◌, ◌⊎◌, inl, inr, ℕ, ℤ, suc, ◌+◌, ◌-◌, List, [], ◌∷◌, ◌++◌, length, Option, Some, None, refl, sym, ap, ◌∙◌, subst, arith, append_assoc, ◌*◌}
use Rattle.std.specs.Prelude.{◌^◌, ◌%◌, map, pos, negsuc, true, false}
use Rattle.std.proofs.lemmas.Bool.{and_parts}
use Rattle.std.specs.Int.{w32, w16, w8, int_wrap, int_rem_euclid}
use Rattle.std.specs.List.{list_all, sum_by}
use Rattle.std.specs.Option.{option_map}
use Rattle.std.proofs.lemmas.Int.{SFits-int_wrap, int_wrap_fits}
use Rattle.std.proofs.lemmas.List.Sums.{sum_by-cons}
use Rattle.op_compute.proofs.ConversionLemmas.{low_bits}
use Rattle.op_compute.proofs.Words.{word_wraps}
use Rattle.op_compute.specs.Bank.{register_of}
use Rattle.op_compute.specs.Conversions.{low_bits_code}
use Rattle.op_compute.specs.Meaning.{Answers, IsApart, IsWordOf, gives}
use Rattle.op_compute.specs.Straight.{Away, Behind, Crooked, Outcome, at, fewest_steps, outcome}
use Rattle.op_compute.specs.declared.bank.Operands.{Operands}
use Rattle.op_compute.specs.declared.bank.Work.{Work}
use Rattle.op_core.specs.declared.ids.TypeId.{TypeId}
use Rattle.op_core.specs.declared.routine.Variable.{Variable}
use Rattle.op_core.specs.declared.types.IntegerKind.{IntegerKind}
use Rattle.op_core.specs.declared.types.IntegerKind.TheVariants.{Signed8, Unsigned8, Signed16, Unsigned16, Signed32}
use Rattle.op_expand.specs.Calls.{given_code, given_spot, givens_code, givens_in}
use Rattle.op_meaning.specs.Frames.{Handed, a_place, a_value}
use Rattle.op_places.specs.Places.{after, at_scratch, place_code, place_of, reached}
use Rattle.op_places.specs.declared.frame.Frame.{Frame}
use Rattle.op_places.specs.declared.spot.Spot.{Spot}
use Rattle.op_low.specs.State.{State, value_in}
use Rattle.op_low.specs.declared.ids.VirtualRegister.{VirtualRegister}
use Rattle.op_low.specs.declared.instruction.Instruction.{Instruction as LowInstruction}
use Rattle.op_meaning.specs.Calls.{all_handed, handed}
use Rattle.op_meaning.specs.Costs.{given_bytes}
use Rattle.op_meaning.specs.Numbers.{low_bits_of}
use Rattle.op_meaning.specs.Paths.{place_of as place_meant}
use Rattle.op_meaning.specs.Shapes.{composite, is_reference, shape_of, single}
use Rattle.op_meaning.specs.Values.{Place, number, Reached as Met, reached as met, failing, and_then}
use Rattle.op_meaning.specs.World.{number_at, value_at}
use Rattle.op_mir.specs.Machine.{MirState}
use Rattle.op_mir.specs.Valid.{copied_fits, given_fits, has_type, path_fits}
use Rattle.op_mir.specs.View.{view_given, view_path}
use Rattle.op_mir.specs.declared.ids.TemporaryId.{TemporaryId}
use Rattle.op_mir.specs.declared.instruction.Given.TheVariants.{ByValue, ByPlace, ByCopy}
use Rattle.op_mir.specs.declared.instruction.Given.{Given}
use Rattle.op_mir.specs.declared.instruction.Instruction.{Instruction}
use Rattle.op_mir.specs.declared.path.Path.{Path}
use Rattle.op_mir.specs.declared.path.Root.TheVariants.{Global, Local, Through, Temporary}
use Rattle.op_mir.specs.declared.path.Root.{Root}
use Rattle.op_mir.specs.declared.path.Step.{Step}
use Rattle.op_rt_text.specs.Names.{block_id}
use Rattle.op_agreement.proofs.Branching.{has_of}
use Rattle.op_agreement.proofs.Elements.{KeptBelow}
use Rattle.op_agreement.proofs.Going.{Goes, GoesTo, goes_fewer, goes_from, goes_none, goes_straight, goes_then, goes_within}
use Rattle.op_agreement.proofs.Lengths.{low_bits_short}
use Rattle.op_agreement.proofs.Loading.{indices_in, placed_part}
use Rattle.op_agreement.proofs.Paths.{Failed, PlaceTo, place_goes, spot_fits, place_most}
use Rattle.op_agreement.proofs.Places.{HaveIndices}
use Rattle.op_agreement.proofs.Spots.{SpotFits, begin_fits, fits_register, fits_scratch, place_fits}
use Rattle.op_agreement.proofs.Standing.{Next, here}
use Rattle.op_agreement.specs.Chart.{Floor, IsAt}
use Rattle.op_agreement.specs.Fitting.{IsFitting}
use Rattle.op_agreement.specs.Handing.{AreHanded, IsHanded}
use Rattle.op_agreement.specs.Settings.{HasGiven, HaveGiven, IsPlaced, IsRooted, Setting}
use Rattle.op_agreement.specs.Typed.{AreTypedGiven, IsTypedGiven, PathTo}

-- ---- numbers

-- a byte's remainder is a byte
rem_byte : (n : ℤ) → int_rem_euclid (int_rem_euclid n (pos 256)) (pos 256) ≡ int_rem_euclid n (pos 256)
rem_byte (pos a) = let e : a % 256 % 256 ≡ a % 256 = omega arith in ap (λ k. pos k) e
rem_byte (negsuc a) = let e : (256 - 1 - a % 256) % 256 ≡ 256 - 1 - a % 256 = omega arith in ap (λ k. pos k) e

-- and that of two bytes has two
rem_half : (n : ℤ) → int_rem_euclid (int_rem_euclid n (pos 65536)) (pos 65536) ≡ int_rem_euclid n (pos 65536)
rem_half (pos a) = let e : a % 65536 % 65536 ≡ a % 65536 = omega arith in ap (λ k. pos k) e
rem_half (negsuc a) = let e : (65536 - 1 - a % 65536) % 65536 ≡ 65536 - 1 - a % 65536 = omega arith in ap (λ k. pos k) e

-- what a smaller integer type keeps of a number, it keeps whole
pub low_bits_again : (kind : IntegerKind) (n : ℤ) → low_bits_of kind (low_bits_of kind n) ≡ low_bits_of kind n
low_bits_again Signed8 n = int_wrap_fits w8 (int_wrap w8 n) (SFits-int_wrap w8 n)
low_bits_again Unsigned8 n = rem_byte n
low_bits_again Signed16 n = int_wrap_fits w16 (int_wrap w16 n) (SFits-int_wrap w16 n)
low_bits_again Unsigned16 n = rem_half n
low_bits_again Signed32 n = int_wrap_fits w32 (int_wrap w32 n) (SFits-int_wrap w32 n)

module _ (g : Setting) (fit : IsFitting g) (m : MirState) (l : State) (floors : ℕ → Floor) (i : Instruction) (js : List Instruction) (next : Next g m l floors i js) where
  abbrev frame : Frame
  frame = (here m floors).frame

  abbrev pub scratch_here : ℕ
  scratch_here = (here m floors).frame.bank.scratch

  abbrev Kept : (ℕ → ℕ) → Type 0
  Kept f = KeptBelow (here m floors).frame.bank.scratch l.top.registers f

  -- ---- one argument

  -- the register of the spot has what is handed over, or the error has come
  pub record IsGiven (most : ℕ) (from : State) (f : ℕ → ℕ) (free : VirtualRegister) (spot : Spot) (rest : List LowInstruction) (p : Variable) (x : Handed) : Type 0 where
    pub h : ℕ → ℕ
    pub goes : Goes g 0 most from (at l h rest)
    pub kept : KeptBelow free.0 f h
    pub is : IsHanded g floors (length m.callers) m.world x p (h spot.base.0)

  abbrev pub GivenTo : (most : ℕ) → State → (ℕ → ℕ) → VirtualRegister → Spot → List LowInstruction → Variable → Met Handed → Type 0
  GivenTo most from f free spot rest p (failing error) = Failed g fit m l floors next.stays 0 most from error
  GivenTo most from f free spot rest p (met x) = IsGiven most from f free spot rest p x

  -- what an argument costs at most
  abbrev pub given_most : Given → ℕ
  given_most x = 3 + 2 * given_bytes g.core (view_given x)

  -- a number that its type has narrowed
  abbrev narrow_work : VirtualRegister → Work
  narrow_work free = record { first = after free; second = after (after free); third = after (after (after free)); division = block_id 0; range = block_id 0; stack = block_id 0; overflow = block_id 0 }

  abbrev narrow_operands : TemporaryId → VirtualRegister → Operands
  narrow_operands t free = record { to = free; left = register_of (here m floors).frame.bank t; right = register_of (here m floors).frame.bank t }

  -- the register of a temporary has its number still
  word_of : (t : TemporaryId) (f : ℕ → ℕ) → t.0 < (here m floors).routine.temporaries → Kept f → IsWordOf (f (register_of (here m floors).frame.bank t).0) (number_at m.world t.0)
  word_of t f low kept =
      let a = next.stays.activation in
      let behind = a.floor.fits.scratch in
      let there : f ((here m floors).frame.bank.temporaries + t.0) ≡ l.top.registers ((here m floors).frame.bank.temporaries + t.0) = kept ((here m floors).frame.bank.temporaries + t.0) (omega arith) in
      subst (λ v. IsWordOf v (number_at m.world t.0)) (sym there) (a.kept.temporaries t.0 low)

  narrowed : (kind : IntegerKind) (t : TemporaryId) (p : Variable) (free : VirtualRegister) (f : ℕ → ℕ) (rest : List LowInstruction) → t.0 < (here m floors).routine.temporaries → is_reference p.role ≡ false → shape_of g.core p.of ≡ single kind → scratch_here ≤ free.0 → Kept f → IsGiven 3 (at l f (low_bits_code free kind (register_of (here m floors).frame.bank t) ++ rest)) f free (at_scratch free) rest p (a_value (number (low_bits_of kind (number_at m.world t.0))))
  narrowed kind t p free f rest low value shape less kept =
      let behind = next.stays.activation.floor.fits.scratch in
      let apart : IsApart (narrow_work free) (narrow_operands t free) = record { to = omega arith; left = omega arith; right = omega arith; second = omega arith; third = omega arith } in
      by (outcome (low_bits_code free kind (register_of (here m floors).frame.bank t)) f)
      (low_bits (narrow_work free) (narrow_operands t free) f (number_at m.world t.0) apart (word_of t f low kept) kind)
      (goes_straight g l (low_bits_code free kind (register_of (here m floors).frame.bank t)) rest f)
    where
      code : List LowInstruction
      code = low_bits_code free kind (register_of (here m floors).frame.bank t)

      by : (o : Outcome) → Answers (narrow_work free) free f (gives (low_bits_of kind (number_at m.world t.0))) o → GoesTo g (fewest_steps code) (length code) l (at l f (code ++ rest)) rest o → IsGiven 3 (at l f (code ++ rest)) f free (at_scratch free) rest p (a_value (number (low_bits_of kind (number_at m.world t.0))))
      by (Behind h) given goes = record {
        h = h;
        goes = goes_within g 0 3 (at l f (code ++ rest)) (at l h rest) (goes_fewer g (fewest_steps code) 0 (at l f (code ++ rest)) (at l h rest) (omega arith) goes) (let short = low_bits_short free kind (register_of (here m floors).frame.bank t) in omega arith);
        kept = λ r below. given.others r (omega arith) (λ same. omega arith);
        is = (value, inl (kind, shape, refl, low_bits_again kind (number_at m.world t.0), given.result));
      }
      by (Away block h) given goes = absurd given
      by Crooked given goes = absurd given

  -- of each kind, of which the words need no code
  value_given : (kind : IntegerKind) (t : TemporaryId) (p : Variable) (free : VirtualRegister) (f : ℕ → ℕ) (rest : List LowInstruction) → t.0 < (here m floors).routine.temporaries → is_reference p.role ≡ false → shape_of g.core p.of ≡ single kind → scratch_here ≤ free.0 → Kept f → IsGiven 3 (at l f (given_code g.core frame (ByValue kind t) free ++ rest)) f free (given_spot g.core frame (ByValue kind t) free) rest p (a_value (number (low_bits_of kind (number_at m.world t.0))))
  value_given Signed8 t p free f rest low value shape less kept = narrowed Signed8 t p free f rest low value shape less kept
  value_given Unsigned8 t p free f rest low value shape less kept = narrowed Unsigned8 t p free f rest low value shape less kept
  value_given Signed16 t p free f rest low value shape less kept = narrowed Signed16 t p free f rest low value shape less kept
  value_given Unsigned16 t p free f rest low value shape less kept = narrowed Unsigned16 t p free f rest low value shape less kept
  value_given Signed32 t p free f rest low value shape less kept =
      let x = number_at m.world t.0 in
      let word = word_of t f low kept in
      record {
        h = f;
        goes = goes_within g 0 3 (at l f rest) (at l f rest) (goes_none g (at l f rest)) (omega arith);
        kept = λ r below. refl;
        is = (value, inl (Signed32, shape, refl, low_bits_again Signed32 x, subst (IsWordOf (f (register_of (here m floors).frame.bank t).0)) (sym (word_wraps (f (register_of (here m floors).frame.bank t).0) x word)) word));
      }

  -- a place, or what stands there
  path_given : (path : Path) (of : TypeId) (p : Variable) (passed : Place → Handed) (free : VirtualRegister) (f : ℕ → ℕ) (rest : List LowInstruction) → ((q : Place) (a : ℕ) → IsAt g floors (length m.callers) q of a → a < 2 ^ 32 → IsHanded g floors (length m.callers) m.world (passed q) p a) → PathTo g.core (here m floors).number (view_path path) of → IsPlaced g.core (here m floors).number (here m floors).frame path.root → HaveIndices (here m floors).routine path.steps → scratch_here ≤ free.0 → Kept f → GivenTo (place_most path) (at l f (place_code g.core (here m floors).frame 0 path.root path.steps free ++ rest)) f free (place_of g.core (here m floors).frame 0 path.root path.steps free) rest p (and_then (place_meant m.world (view_path path)) (λ q. met (passed q)))
  path_given path of p passed free f rest holds typed placed indices less kept =
      let begins = begin_fits g m l floors next.stays path.root typed.from free typed.root placed less in
      let (base, more, offset) = spot_fits g fit m l floors next.stays path of 0 free f rest typed placed indices less kept begins.base begins.more in
      by (omega arith) (place_meant m.world (view_path path)) (place_goes g fit m l floors next.stays path of 0 free f rest typed placed indices less kept)
    where
      code : List LowInstruction
      code = place_code g.core (here m floors).frame 0 path.root path.steps free

      spot : Spot
      spot = place_of g.core (here m floors).frame 0 path.root path.steps free

      by : spot.offset ≡ 0 → (o : Met Place) → PlaceTo g fit m l floors next.stays (fewest_steps code) (place_most path) (at l f (code ++ rest)) f free spot rest of o → GivenTo (place_most path) (at l f (code ++ rest)) f free spot rest p (and_then o (λ q. met (passed q)))
      by none (failing error) fails = record { is = fails.is; h = fails.h; goes = goes_fewer g (fewest_steps code) 0 (at l f (code ++ rest)) _ (omega arith) fails.goes }
      by none (met q) reached =
          let here_is : reached.h spot.base.0 + spot.offset ≡ reached.h spot.base.0 = omega arith in
          let low = reached.low in
          record {
            h = reached.h;
            goes = goes_fewer g (fewest_steps code) 0 (at l f (code ++ rest)) (at l reached.h rest) (omega arith) reached.goes;
            kept = reached.kept;
            is = holds q (reached.h spot.base.0) (subst (IsAt g floors (length m.callers) q of) here_is reached.is) (omega arith);
          }

  -- what is copied has parts, and so an address
  copied_placed : (of : TypeId) (root : Root) (steps : List Step) → PathTo g.core (here m floors).number (view_path (record { root = root; steps = steps })) of → shape_of g.core of ≡ composite → IsRooted g.core (here m floors).number (here m floors).frame root → IsPlaced g.core (here m floors).number (here m floors).frame root
  copied_placed of (Global v) steps typed shape rooted = tt
  copied_placed of (Through v) steps typed shape rooted = tt
  copied_placed of (Temporary to n) steps typed shape rooted = rooted
  copied_placed of (Local v) [] typed shape rooted =
      let (variable, type) = typed.root in
      next.stays.activation.floor.fits.composites v variable (ap (shape_of g.core) type ∙ ap (shape_of g.core) typed.reaches ∙ shape)
  copied_placed of (Local v) (st ∷ ss) typed shape rooted = placed_part g fit m l floors js i next v st ss of typed

  -- its register is none of those that are taken
  pub given_fits_spot : (x : Given) (p : Variable) (free : VirtualRegister) → given_fits g.mir (here m floors).routine x ≡ true → IsTypedGiven g.core (here m floors).number (view_given x) p → HasGiven g.core (here m floors).number (here m floors).frame x → scratch_here ≤ free.0 → SpotFits scratch_here free (given_spot g.core (here m floors).frame x free)
  unfolding given_fits
  given_fits_spot (ByValue kind t) p free fits typed homes less = by kind (let low = has_of (here m floors).routine t fits in let behind = next.stays.activation.floor.fits.scratch in omega arith)
    where
      by : (kind : IntegerKind) → (register_of (here m floors).frame.bank t).0 < scratch_here → SpotFits scratch_here free (given_spot g.core (here m floors).frame (ByValue kind t) free)
      by Signed8 low = fits_scratch scratch_here free
      by Unsigned8 low = fits_scratch scratch_here free
      by Signed16 low = fits_scratch scratch_here free
      by Unsigned16 low = fits_scratch scratch_here free
      by Signed32 low = fits_register scratch_here (register_of (here m floors).frame.bank t) free low less
  given_fits_spot (ByPlace path) p free fits typed homes less = place_fits g m l floors next.stays path p.of free typed.1 homes less
  given_fits_spot (ByCopy of path) p free fits (value, same, shape, typed) homes less = place_fits g m l floors next.stays path of free typed (copied_placed of path.root path.steps typed shape homes) less

  -- at no more than more
  given_within : (p q : ℕ) (from : State) (f : ℕ → ℕ) (free : VirtualRegister) (spot : Spot) (rest : List LowInstruction) (v : Variable) (o : Met Handed) → p ≤ q → GivenTo p from f free spot rest v o → GivenTo q from f free spot rest v o
  given_within p q from f free spot rest v (failing error) less fails = record { is = fails.is; h = fails.h; goes = goes_within g 0 q from _ fails.goes less }
  given_within p q from f free spot rest v (met x) less given = record { h = given.h; goes = goes_within g 0 q from _ given.goes less; kept = given.kept; is = given.is }

  -- the code of an argument hands it over, or comes to the error
  pub one_given : (x : Given) (p : Variable) (free : VirtualRegister) (f : ℕ → ℕ) (rest : List LowInstruction) → given_fits g.mir (here m floors).routine x ≡ true → IsTypedGiven g.core (here m floors).number (view_given x) p → HasGiven g.core (here m floors).number (here m floors).frame x → scratch_here ≤ free.0 → Kept f → GivenTo (given_most x) (at l f (given_code g.core (here m floors).frame x free ++ rest)) f free (given_spot g.core (here m floors).frame x free) rest p (handed m.world (view_given x))
  unfolding given_fits copied_fits
  one_given (ByValue kind t) p free f rest fits (value, shape) homes less kept = given_within 3 (given_most (ByValue kind t)) _ f free _ rest p (met _) (omega arith) (value_given kind t p free f rest (has_of (here m floors).routine t fits) value shape less kept)
  one_given (ByPlace path) p free f rest fits (reference, typed) homes less kept =
      given_within (place_most path) (given_most (ByPlace path)) _ f free _ rest p _ (omega arith)
      (path_given path p.of p (λ q. a_place q) free f rest (λ q a is low. (reference, is, low)) typed homes (indices_in g.mir (here m floors).routine path fits) less kept)
  one_given (ByCopy of path) p free f rest fits (value, same, shape, typed) homes less kept =
      given_within (place_most path) (given_most (ByCopy of path)) _ f free _ rest p _ (omega arith)
      (path_given path of p (λ q. a_value (value_at m.world q)) free f rest
      (λ q a is low. (value, inr (ap (shape_of g.core) same ∙ shape, q, subst (λ t. IsAt g floors (length m.callers) q t a) (sym same) is, refl, low)))
      typed (copied_placed of path.root path.steps typed shape homes) (indices_in g.mir (here m floors).routine path (and_parts (has_type g.mir of) (path_fits g.mir (here m floors).routine path) fits).1) less kept)

  -- ---- all arguments

  -- registers differ by scratch registers in front of the free one alone
  abbrev pub KeptOutside : (free : ℕ) → (ℕ → ℕ) → (ℕ → ℕ) → Type 0
  KeptOutside free f k = (r : ℕ) → (r < scratch_here) ⊎ (free ≤ r) → k r ≡ f r

  -- The registers have what is handed over, and still do where scratch registers in front of the free one have changed.
  pub record AreGiven (most : ℕ) (from : State) (f : ℕ → ℕ) (free : VirtualRegister) (bases : List VirtualRegister) (rest : List LowInstruction) (ps : List Variable) (xs : List Handed) : Type 0 where
    pub h : ℕ → ℕ
    pub goes : Goes g 0 most from (at l h rest)
    pub kept : KeptBelow free.0 f h
    pub are : (k : ℕ → ℕ) → KeptOutside free.0 h k → AreHanded g floors (length m.callers) m.world xs ps (map (value_in k) bases)

  abbrev pub AllGivenTo : (most : ℕ) → State → (ℕ → ℕ) → VirtualRegister → List VirtualRegister → List LowInstruction → List Variable → Met (List Handed) → Type 0
  AllGivenTo most from f free bases rest ps (failing error) = Failed g fit m l floors next.stays 0 most from error
  AllGivenTo most from f free bases rest ps (met xs) = AreGiven most from f free bases rest ps xs

  -- what arguments cost at most
  abbrev pub all_most : List Given → ℕ
  all_most xs = 3 * length xs + 2 * sum_by (given_bytes g.core) (map view_given xs)

  all_within : (p q : ℕ) (from : State) (f : ℕ → ℕ) (free : VirtualRegister) (bases : List VirtualRegister) (rest : List LowInstruction) (ps : List Variable) (o : Met (List Handed)) → p ≤ q → AllGivenTo p from f free bases rest ps o → AllGivenTo q from f free bases rest ps o
  all_within p q from f free bases rest ps (failing error) less fails = record { is = fails.is; h = fails.h; goes = goes_within g 0 q from _ fails.goes less }
  all_within p q from f free bases rest ps (met xs) less given = record { h = given.h; goes = goes_within g 0 q from _ given.goes less; kept = given.kept; are = given.are }

  -- one argument, and others behind it
  given_then : (one many : ℕ) (first : List LowInstruction) (others rest : List LowInstruction) (free : VirtualRegister) (spot : Spot) (bases : List VirtualRegister) (f : ℕ → ℕ) (p : Variable) (ps : List Variable) (o : Met Handed) (os : Met (List Handed)) → scratch_here ≤ free.0 → SpotFits scratch_here free spot → GivenTo one (at l f (first ++ (others ++ rest))) f free spot (others ++ rest) p o → ((h : ℕ → ℕ) → KeptBelow free.0 f h → AllGivenTo many (at l h (others ++ rest)) h spot.free bases rest ps os) → AllGivenTo (one + many) (at l f ((first ++ others) ++ rest)) f free (spot.base ∷ bases) rest (p ∷ ps) (and_then o (λ x. and_then os (λ xs. met (x ∷ xs))))
  given_then one many first others rest free spot bases f p ps (failing error) os less fits fails behind =
      record { is = fails.is; h = fails.h; goes = goes_within g 0 (one + many) (at l f ((first ++ others) ++ rest)) _ (goes_from g 0 (at l f ((first ++ others) ++ rest)) (at l f (first ++ (others ++ rest))) _ (ap (at l f) (append_assoc first others rest)) fails.goes) (omega arith) }
  given_then one many first others rest free spot bases f p ps (met x) (failing error) less fits given behind =
      let fails = behind given.h given.kept in
      record {
        is = fails.is;
        h = fails.h;
        goes = goes_from g 0 (at l f ((first ++ others) ++ rest)) (at l f (first ++ (others ++ rest))) _ (ap (at l f) (append_assoc first others rest))
            (goes_then g 0 0 0 (at l f (first ++ (others ++ rest))) (at l given.h (others ++ rest)) _ (omega arith) given.goes fails.goes);
      }
  given_then one many first others rest free spot bases f p ps (met x) (met xs) less fits given behind =
      let later = behind given.h given.kept in
      let base = fits.base in
      let more = fits.more in
      record {
        h = later.h;
        goes = goes_from g 0 (at l f ((first ++ others) ++ rest)) (at l f (first ++ (others ++ rest))) (at l later.h rest) (ap (at l f) (append_assoc first others rest))
            (goes_then g 0 0 0 (at l f (first ++ (others ++ rest))) (at l given.h (others ++ rest)) (at l later.h rest) (omega arith) given.goes later.goes);
        kept = λ r below. later.kept r (omega arith) ∙ given.kept r below;
        are = λ k same. (
          subst (IsHanded g floors (length m.callers) m.world x p) (sym (same spot.base.0 fits.apart ∙ later.kept spot.base.0 base)) given.is,
          later.are k (λ r far. same r (nearer r far)),
        );
      }
    where
      nearer : (r : ℕ) → (r < scratch_here) ⊎ (spot.free.0 ≤ r) → (r < scratch_here) ⊎ (free.0 ≤ r)
      nearer r (inl low) = inl low
      nearer r (inr high) = let more = fits.more in inr (omega arith)

  -- the code of all arguments hands them over, or comes to the error of the first index that is out of its range
  pub all_given : (xs : List Given) (ps : List Variable) (free : VirtualRegister) (f : ℕ → ℕ) (rest : List LowInstruction) → list_all (given_fits g.mir (here m floors).routine) xs ≡ true → AreTypedGiven g.core (here m floors).number (map view_given xs) ps → HaveGiven g.core (here m floors).number (here m floors).frame xs → scratch_here ≤ free.0 → Kept f → AllGivenTo (all_most xs) (at l f (givens_code g.core (here m floors).frame xs free ++ rest)) f free (givens_in g.core (here m floors).frame xs free) rest ps (all_handed m.world (map view_given xs))
  all_given [] [] free f rest fits typed homes less kept = record { h = f; goes = goes_within g 0 (all_most []) (at l f rest) (at l f rest) (goes_none g (at l f rest)) (omega arith); kept = λ r below. refl; are = λ k same. tt }
  all_given [] (p ∷ ps) free f rest fits typed homes less kept = absurd typed
  all_given (x ∷ xs) [] free f rest fits typed homes less kept = absurd typed
  all_given (x ∷ xs) (p ∷ ps) free f rest fits (typed, others_typed) (homes, others_homes) less kept =
      let (fits_first, fits_others) = and_parts (given_fits g.mir (here m floors).routine x) (list_all (given_fits g.mir (here m floors).routine) xs) fits in
      let spot = given_spot g.core (here m floors).frame x free in
      let stands = given_fits_spot x p free fits_first typed homes less in
      let more = stands.more in
      let others = givens_code g.core (here m floors).frame xs spot.free in
      let sum = sum_by-cons (given_bytes g.core) (view_given x) (map view_given xs) in
      all_within (given_most x + all_most xs) (all_most (x ∷ xs)) _ f free _ rest (p ∷ ps) _ (omega arith)
      (given_then (given_most x) (all_most xs) (given_code g.core (here m floors).frame x free) others rest free spot (givens_in g.core (here m floors).frame xs spot.free) f p ps (handed m.world (view_given x)) (all_handed m.world (map view_given xs)) less stands
      (one_given x p free f (others ++ rest) fits_first typed homes less kept)
      (λ h after. all_given xs ps spot.free h rest fits_others others_typed others_homes (omega arith) (λ r low. after r (omega arith) ∙ kept r low)))

  -- so many registers as rows
  pub given_length : (xs : List Given) (ps : List Variable) (free : VirtualRegister) → AreTypedGiven g.core (here m floors).number (map view_given xs) ps → length (givens_in g.core (here m floors).frame xs free) ≡ length ps
  given_length [] [] free typed = refl
  given_length [] (p ∷ ps) free typed = absurd typed
  given_length (x ∷ xs) [] free typed = absurd typed
  given_length (x ∷ xs) (p ∷ ps) free (typed, others) = ap suc (given_length xs ps (given_spot g.core (here m floors).frame x free).free others)
