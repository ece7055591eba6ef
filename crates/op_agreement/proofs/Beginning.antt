-- A local variable begins with its first value: a number, the bytes of a literal, or zeros.
use Rattle.std.proofs.Common.{◌≡◌, ◌≤◌, ◌<◌, ◌⊎◌, ℕ, ℤ, ◌+◌, List, [], ◌∷◌, ◌++◌, length, Option, Some, None, refl, sym, ap, ◌∙◌, subst, arith, get_or, ◌*◌, suc}
use Rattle.std.specs.Prelude.{pos, false, slice_get, if◌then◌else◌, Bool, true}
use Rattle.op_agreement.proofs.Begun.{offset_is, stays_begun, stays_number}
use Rattle.op_agreement.proofs.Branching.{begins_here, step_here}
use Rattle.op_agreement.proofs.Cases.{behind_act}
use Rattle.op_agreement.proofs.Computing.{rest_above, rest_below, rest_stands}
use Rattle.op_agreement.proofs.FirstNumbers.{first_fits, first_is, number_fits, number_kept}
use Rattle.op_agreement.proofs.Following.{Comes}
use Rattle.op_agreement.proofs.Going.{Goes, GoesTo, goes_from, goes_one, goes_straight, goes_then, goes_within}
use Rattle.op_agreement.proofs.Lengths.{low_bits_short}
use Rattle.op_agreement.proofs.Pricing.{afford}
use Rattle.op_agreement.proofs.Primitives.{text_there}
use Rattle.op_agreement.proofs.Putting.{variable_puts}
use Rattle.op_agreement.proofs.Sparing.{spare_fits}
use Rattle.op_agreement.proofs.Standing.{Next, here, stands_on}
use Rattle.op_agreement.proofs.Storing.{stays_variable}
use Rattle.op_agreement.proofs.Taking.{CanTake, taken_goes, take_most}
use Rattle.op_agreement.proofs.Updating.{floors_here}
use Rattle.op_agreement.proofs.Zeroing.{CanClear, clear_most, emptied_goes}
use Rattle.op_agreement.specs.Chart.{Floor, address_of}
use Rattle.op_agreement.specs.Coding.{code_for}
use Rattle.op_agreement.specs.Fitting.{IsFitting}
use Rattle.op_agreement.specs.Settings.{AreLiterals, HomeFits, Setting, managed}
use Rattle.op_agreement.specs.Stands.{Position, Stands, Stays}
use Rattle.op_agreement.specs.Steps.{most_for_one}
use Rattle.op_agreement.specs.Typed.{IsVariable}
use Rattle.op_compute.proofs.ConversionLemmas.{low_bits}
use Rattle.op_compute.proofs.Registers.{put_lower, put_other, put_same}
use Rattle.op_compute.proofs.Words.{number_is}
use Rattle.op_compute.specs.Bank.{scratch_of, work_of}
use Rattle.op_compute.specs.Conversions.{low_bits_code}
use Rattle.op_compute.specs.Meaning.{Answers, IsApart, IsWordOf, gives}
use Rattle.op_compute.specs.Straight.{Away, Behind, Crooked, Outcome, at, outcome, put}
use Rattle.op_compute.specs.declared.bank.Operands.{Operands}
use Rattle.op_compute.specs.declared.bank.Work.{Work}
use Rattle.op_constants.proofs.Distinct.{stands_at_number}
use Rattle.op_constants.proofs.FirstLies.{first-number, first_lies}
use Rattle.op_constants.proofs.FirstRows.{first-length}
use Rattle.op_constants.proofs.Zeros.{zeros_read}
use Rattle.op_constants.specs.Arranged.{IsSmall}
use Rattle.op_constants.specs.FirstBytes.{first_bytes, first_number, are_zeros}
use Rattle.op_constants.specs.FirstFits.{FirstFits}
use Rattle.op_constants.specs.Lies.{Lies, arrangement_of}
use Rattle.op_constants.specs.Literals.{literals_of, first_literals}
use Rattle.op_constants.specs.Offsets.{size_in}
use Rattle.op_constants.specs.Shapes.{is_composite}
use Rattle.op_constants.specs.Texts.{number_of}
use Rattle.op_core.specs.Initial.{FirstValue, constant}
use Rattle.op_core.specs.Sizes.{integer_range}
use Rattle.op_core.specs.Typing.{Within}
use Rattle.op_core.specs.declared.constant.Const.TheVariants.{Ordinal}
use Rattle.op_core.specs.declared.ids.TypeId.{TypeId}
use Rattle.op_core.specs.declared.types.IntegerKind.{IntegerKind}
use Rattle.op_places.specs.Homes.{home_at, rounded}
use Rattle.op_expand.specs.Actions.{begun_by, number_begun, parts_begun, composite_begun, zeros_begun}
use Rattle.op_places.specs.Moves.{held_by, near, store_op, taken_code}
use Rattle.op_places.specs.Places.{place_code, place_of}
use Rattle.op_places.specs.declared.frame.Frame.{Frame}
use Rattle.op_places.specs.declared.homes.Home.{Home}
use Rattle.op_places.specs.declared.homes.Home.TheVariants.{Held, Shared, Stored}
use Rattle.op_low.specs.Machine.{act}
use Rattle.op_low.specs.State.{State}
use Rattle.op_low.specs.declared.ids.VirtualRegister.{VirtualRegister}
use Rattle.op_low.specs.declared.instruction.Instruction.{Instruction as LowInstruction}
use Rattle.op_low.specs.declared.instruction.Instruction.TheVariants.{Address, Const, Store as StoreWord}
use Rattle.op_meaning.specs.Actions.{begin_with, perform}
use Rattle.op_meaning.specs.Numbers.{low_bits_of}
use Rattle.op_meaning.specs.Shapes.{Shape, composite, first_of, of_chars, of_elements, of_instance, shape_of, single, type_of_local, type_of_row}
use Rattle.op_meaning.specs.Statements.{kind_by}
use Rattle.op_meaning.specs.Values.{Value, all_of, local, number}
use Rattle.op_meaning.specs.World.{World, with_value}
use Rattle.op_mir.proofs.PlainLemmas.{plain_perform}
use Rattle.op_mir.specs.Machine.{MirState, execute, mir_step, mir_cost}
use Rattle.op_mir.specs.Plain.{IsPlainWorld}
use Rattle.op_mir.specs.View.{first_at}
use Rattle.op_mir.specs.declared.action.Action.TheVariants.{BeginWith}
use Rattle.op_mir.specs.declared.ids.BlockId.{BlockId}
use Rattle.op_mir.specs.declared.ids.LocalId.{LocalId}
use Rattle.op_mir.specs.declared.instruction.Instruction.{Instruction}
use Rattle.op_mir.specs.declared.instruction.Instruction.TheVariants.{Act}
use Rattle.op_mir.specs.declared.path.Root.TheVariants.{Local}
use Rattle.op_rt_text.specs.Names.{literal}
use Rattle.op_rv.proofs.Memory.{byte_from}
use Rattle.op_rv.specs.Operation.{word_from}

module _ (g : Setting) (fit : IsFitting g) (m : MirState) (l : State) (floors : ℕ → Floor) (is : List Instruction) (v : LocalId) (landing : Option BlockId) (next : Next g m l floors (Act (BeginWith v) landing) is) where
  abbrev frame : Frame
  frame = (here m floors).frame

  abbrev level : ℕ
  level = length m.callers

  abbrev number_here : ℕ
  number_here = (here m floors).number

  abbrev begin : Instruction
  begin = Act (BeginWith v) landing

  abbrev rest : List LowInstruction
  rest = rest_below g m l floors begin is next

  abbrev of : TypeId
  of = type_of_local g.core number_here v.0

  abbrev value : FirstValue
  value = first_at g.core number_here v.0

  abbrev x : Value
  x = first_of g.core of value

  abbrev with_this : Value → World
  with_this y = with_value (all_of (local level v.0)) y m.world

  abbrev begun : Value → MirState
  begun y = record m { world = with_this y; work = rest_above g m l floors begin is next }

  variable : IsVariable g.core number_here v.0 false
  variable = next.fine.1.0

  small : IsSmall g.core of
  small = next.fine.1.2

  fits_first : FirstFits g.core of value
  fits_first = next.fine.1.3

  -- ---- managed code

  -- the variable gets the value
  step_above : mir_step (managed g) m ≡ begun x
  unfolding execute perform
  step_above = step_here g fit m l floors begin is next ∙ ap (λ d. record m { world = with_value (all_of (local d v.0)) x m.world; work = rest_above g m l floors begin is next }) next.stays.depth

  -- a first value names no instance
  plain_with : (w : FirstValue) → IsPlainWorld (with_this (first_of g.core of w))
  unfolding perform
  plain_with w = subst (λ d. IsPlainWorld (with_value (all_of (local d v.0)) (first_of g.core of w) m.world)) next.stays.depth (plain_perform g.core fit.program.exceptions (λ n. 0) (begin_with v.0 of w) m.world tt next.stays.plain)

  -- ---- low code

  abbrev code_by_shape : Shape → FirstValue → List LowInstruction
  code_by_shape s w = if is_composite s then composite_begun g.core frame (literals_of g.core g.mir) (size_in g.core of) (first_bytes g.core of w) v else number_begun g.core frame (kind_by s) (first_number w) v

  -- by the shape of its values
  code_is : (s : Shape) → shape_of g.core of ≡ s → code_for g.core g.mir frame begin ≡ code_by_shape s value
  unfolding code_for begun_by
  code_is s shape =
      ap (λ n. begun_by g.core frame (literals_of g.core g.mir) v (type_of_row (slice_get g.core.variables (n + v.0))) (slice_get g.core.variables (n + v.0))) next.stays.activation.floor.fits.first
      ∙ ap (λ w. code_by_shape (shape_of g.core of) w) (sym (first_is g.core number_here v.0))
      ∙ ap (λ s. code_by_shape s value) shape

  -- the state that is reached stands for the one above
  reached_stands : (k : State) (most : ℕ) → most ≤ 256 + 6 * size_in g.core of → Goes g 1 most l k → Stays g floors (begun x) k → k.top.now ≡ rest → Comes g m l
  reached_stands k most few goes stays now = record {
    to = k;
    goes = goes_within g 1 (most_for_one * mir_cost (managed g) m) l k goes (afford g fit m l floors begin is next (λ light. light) most (omega arith));
    stands = subst (λ y. Stands g y k) (sym step_above) (stands_on g (begun x) k next.ending next.frames (record {
      floors = floors;
      stays = stays;
      position = subst (Position g (here m floors) (rest_above g m l floors begin is next)) (sym now) (rest_stands g m l floors begin is next (behind_act next.on));
    }));
  }

  -- ---- numbers

  module _ (sh : Shape) (shape : shape_of g.core of ≡ sh) (whole : is_composite sh ≡ false) where
    abbrev kind : IntegerKind
    kind = kind_by sh

    abbrev n : ℤ
    n = first_number value

    abbrev word : ℕ
    word = word_from n

    abbrev via : VirtualRegister
    via = scratch_of frame.bank 0

    abbrev free : VirtualRegister
    free = scratch_of frame.bank 1

    abbrev given : ℕ → ℕ
    given = put l.top.registers via word

    -- the number is one of the kind, which keeps all of it, and its word
    within : Within (integer_range kind) n
    within = first_fits g.core of value sh shape whole fits_first

    word_is : IsWordOf word n
    word_is = number_is n (number_fits kind n within)

    kept_number : low_bits_of kind n ≡ n
    kept_number = number_kept kind n within

    given_is : IsWordOf (given via.0) n
    given_is = subst (λ w. IsWordOf w n) (sym (put_same l.top.registers via word)) word_is

    abbrev store_by_home : Option VirtualRegister → List LowInstruction
    store_by_home (Some r) = low_bits_code r kind via
    store_by_home None =
        let spot = place_of g.core frame near (Local v) [] free in
        place_code g.core frame near (Local v) [] free ++ StoreWord (store_op kind) via spot.base (pos spot.offset) ∷ []

    -- the word comes to a scratch register, and goes where the variable is kept
    number_code : (home : Home) → home_at frame.homes v ≡ home → code_for g.core g.mir frame begin ≡ Const via word ∷ store_by_home (held_by (Local v) [] home)
    unfolding number_begun
    number_code home at_ =
        code_is sh shape
        ∙ ap (λ b. if b then composite_begun g.core frame (literals_of g.core g.mir) (size_in g.core of) (first_bytes g.core of value) v else number_begun g.core frame kind n v) whole
        ∙ ap (λ h. Const via word ∷ store_by_home (held_by (Local v) [] h)) at_

    -- in a register
    begun_held : (q : VirtualRegister) → home_at frame.homes v ≡ Held q → Comes g m l
    unfolding outcome
    begun_held q at_ =
        let scratch = next.stays.activation.floor.fits.scratch in
        let (above, below) = subst (HomeFits frame) at_ (next.stays.activation.floor.fits.homes v variable.0) in
        let apart : IsApart work operands = record { to = omega arith; left = omega arith; right = omega arith; second = omega arith; third = omega arith } in
        by (outcome (low_bits_code q kind via) given) (goes_straight g l (Const via word ∷ low_bits_code q kind via) rest l.top.registers) (low_bits work operands given n apart given_is kind)
      where
        work : Work
        work = record (work_of frame.bank) { first = free; second = scratch_of frame.bank 2; third = scratch_of frame.bank 3 }

        operands : Operands
        operands = record { to = q; left = via; right = via }

        by : (o : Outcome) → GoesTo g 1 (suc (length (low_bits_code q kind via))) l (at l l.top.registers (Const via word ∷ low_bits_code q kind via ++ rest)) rest o → Answers work q given (gives (low_bits_of kind n)) o → Comes g m l
        by (Behind h) goes answers =
            let scratch = next.stays.activation.floor.fits.scratch in
            let begins = begins_here g fit m l floors begin is next (Const via word ∷ low_bits_code q kind via) (number_code (Held q) at_) in
            let stays = stays_variable g floors m l next.stays v.0 q.0 (low_bits_of kind n) variable at_ (rest_above g m l floors begin is next) h rest answers.result
            (λ r low differs. answers.others r (omega arith) differs ∙ put_lower l.top.registers via word r (omega arith)) (plain_with (constant (Ordinal (low_bits_of kind n)))) in
            reached_stands (at l h rest) (suc (length (low_bits_code q kind via))) (let short = low_bits_short q kind via in omega arith) (goes_from g 1 l (at l l.top.registers (Const via word ∷ low_bits_code q kind via ++ rest)) (at l h rest) begins goes)
            (stays_number g floors m v q at_ x (number (low_bits_of kind n)) (kept_number ∙ sym (first-number g.core of value)) (rest_above g m l floors begin is next) (at l h rest) stays (plain_with value)) refl
        by (Away block h) goes answers = absurd answers
        by Crooked goes answers = absurd answers

    -- in memory
    begun_stored : (offset : ℕ) → home_at frame.homes v ≡ Stored offset → Comes g m l
    unfolding act put
    begun_stored offset at_ =
        let scratch = next.stays.activation.floor.fits.scratch in
        let code = place_code g.core frame near (Local v) [] free ++ StoreWord (store_op kind) via (place_of g.core frame near (Local v) [] free).base (pos (place_of g.core frame near (Local v) [] free).offset) ∷ [] in
        let start = at l l.top.registers (Const via word ∷ (code ++ rest)) in
        let begins : l ≡ start = begins_here g fit m l floors begin is next (Const via word ∷ code) (number_code (Stored offset) at_) in
        let one : Goes g 1 1 start (at l given (code ++ rest)) = goes_one g l l.top.registers (Const via word) (code ++ rest) refl in
        let puts = variable_puts g fit m l floors next.stays v offset variable at_ small (rest_above g m l floors begin is next) rest sh shape whole x n (first-number g.core of value ∙ sym kept_number) (plain_with value) given via free (omega arith) (omega arith)
        (λ r low. put_lower l.top.registers via word r (omega arith)) given_is in
        reached_stands puts.to 5 (omega arith) (goes_from g 1 l start puts.to begins (goes_then g 1 1 1 start (at l given (code ++ rest)) puts.to (omega arith) one puts.goes)) puts.stays puts.now

    -- where it is kept
    begun_number : (home : Home) → home_at frame.homes v ≡ home → HomeFits frame home → Comes g m l
    begun_number (Held q) at_ fits = begun_held q at_
    begun_number (Stored offset) at_ fits = begun_stored offset at_
    begun_number (Shared id) at_ fits = absurd fits

  -- ---- values with parts

  abbrev bytes : List ℕ
  bytes = first_bytes g.core of value

  abbrev code_of_parts : Bool → List LowInstruction
  code_of_parts zeros = if zeros then zeros_begun g.core frame (size_in g.core of) v else parts_begun g.core frame (size_in g.core of) (number_of (literals_of g.core g.mir) bytes) v

  -- the variable takes them from there
  begun_parts : shape_of g.core of ≡ composite → are_zeros bytes ≡ false → Comes g m l
  unfolding act put
  begun_parts shape whole =
      let s = next.stays in
      let a = s.activation in
      let f = here m floors in
      let fits = a.floor.fits in
      let (offset, at_) = fits.composites v variable shape in
      let size = size_in g.core of in
      let many = first-length g.core of value in
      let spare = frame.spare in
      let free_of = spare_fits g f a.floor in
      let among = (subst (λ z. AreLiterals (literals_of g.core g.mir) (if z then [] else bytes ∷ [])) whole (subst (λ s. AreLiterals (literals_of g.core g.mir) (first_literals s bytes)) shape next.literals)).0 in
      let number = number_of (literals_of g.core g.mir) bytes in
      let found = stands_at_number (literals_of g.core g.mir) bytes among in
      let source = g.placement.address (literal number) in
      let stands = text_there g fit m l floors s l refl refl number bytes found in
      let below = (fit.placed.literals number bytes found).below in
      let floors_stand = floors_here g fit floors m l s in
      let lowest = floors_stand.lowest level (omega arith) in
      let enough = a.enough in
      let code = taken_code g.core frame spare size v in
      let start = at l l.top.registers (Address spare (literal number) ∷ (code ++ rest)) in
      let with_address = put l.top.registers spare source in
      let l1 = at l with_address (code ++ rest) in
      let begins : l ≡ start = begins_here g fit m l floors begin is next (Address spare (literal number) ∷ code) (code_is composite shape ∙ ap code_of_parts whole) in
      let one : Goes g 1 1 start l1 = goes_one g l l.top.registers (Address spare (literal number)) (code ++ rest) refl in
      let can : CanTake g f l1 spare v offset source size = record {
        floor = a.floor;
        running = refl;
        routine = a.same;
        limit = a.base;
        words = floors_stand.words level (omega arith);
        lowest = lowest;
        room = omega arith;
        top = a.top;
        bytes = s.bytes;
        variable = variable;
        home = at_;
        typed = refl;
        other = free_of.other;
        holds = put_same l.top.registers spare source;
        readable = λ y up down. stands.readable y up (omega arith);
        below = λ some. omega arith;
      } in
      let taken = taken_goes g fit f l1 spare v offset source size can rest refl in
      let k = record (at l1 taken.registers rest) { memory = taken.memory } in
      let place_is : address_of g floors (local level v.0) ≡ f.base + offset = ap (λ n. f.base + n) (offset_is g fit floors m l s v offset variable at_) in
      let there : (y : ℕ) → y < size → taken.memory (f.base + offset + y) ≡ get_or bytes y 0 = λ y low. taken.copied y low ∙ sym (byte_from l.memory source (length bytes) y (omega arith)) ∙ ap (λ b. get_or b y 0) stands.stands in
      let lies : Lies (arrangement_of g.core of) x taken.memory (f.base + offset) = first_lies g.core fit.program.extents of value taken.memory (f.base + offset) small fits_first there in
      reached_stands k (1 + take_most size) (omega arith) (goes_from g 1 l start k begins (goes_then g 1 0 1 start l1 k (omega arith) one taken.goes))
      (stays_begun g fit floors m l s v offset variable at_ x taken.memory
      (λ y low far. taken.others y low (subst (λ p. (y < p) ⊎ (p + rounded size ≤ y)) place_is far))
      (rest_above g m l floors begin is next) taken.registers rest (plain_with value) taken.bytes
      (subst (Lies (arrangement_of g.core of) x taken.memory) (sym place_is) lies)
      (λ r low differs. taken.kept r low differs ∙ put_other l.top.registers spare source r differs)) refl

  -- or the variable begins as zero
  begun_zeros : shape_of g.core of ≡ composite → are_zeros bytes ≡ true → Comes g m l
  begun_zeros shape none =
      let s = next.stays in
      let a = s.activation in
      let f = here m floors in
      let (offset, at_) = a.floor.fits.composites v variable shape in
      let size = size_in g.core of in
      let floors_stand = floors_here g fit floors m l s in
      let enough = a.enough in
      let code = zeros_begun g.core frame size v in
      let can : CanClear g f l v offset size = record {
        stored = record { floor = a.floor; limit = a.base; words = floors_stand.words level (omega arith); top = a.top; variable = variable; home = at_; typed = refl };
        running = s.running;
        routine = a.same;
        lowest = floors_stand.lowest level (omega arith);
        room = omega arith;
        bytes = s.bytes;
        other = (spare_fits g f a.floor).other;
      } in
      let emptied = emptied_goes g fit f l v offset size can rest (next.below ∙ ap (λ c. c ++ rest) (code_is composite shape ∙ ap code_of_parts none)) in
      let k = record (at l emptied.registers rest) { memory = emptied.memory } in
      let place_is : address_of g floors (local level v.0) ≡ f.base + offset = ap (λ n. f.base + n) (offset_is g fit floors m l s v offset variable at_) in
      let there : (y : ℕ) → y < size → emptied.memory (f.base + offset + y) ≡ get_or bytes y 0 = λ y low. emptied.none y low ∙ sym (zeros_read bytes none y) in
      let lies : Lies (arrangement_of g.core of) x emptied.memory (f.base + offset) = first_lies g.core fit.program.extents of value emptied.memory (f.base + offset) small fits_first there in
      reached_stands k (clear_most size) (omega arith) emptied.goes
      (stays_begun g fit floors m l s v offset variable at_ x emptied.memory
      (λ y low far. emptied.others y low (subst (λ p. (y < p) ⊎ (p + rounded size ≤ y)) place_is far))
      (rest_above g m l floors begin is next) emptied.registers rest (plain_with value) emptied.bytes
      (subst (Lies (arrangement_of g.core of) x emptied.memory) (sym place_is) lies)
      emptied.kept) refl

  -- a local variable begins with its first value
  pub begin_with_comes : Comes g m l
  begin_with_comes = by (shape_of g.core of) refl
    where
      number_by : (s : Shape) → shape_of g.core of ≡ s → is_composite s ≡ false → Comes g m l
      number_by s shape whole = begun_number s shape whole (home_at frame.homes v) refl (next.stays.activation.floor.fits.homes v variable.0)

      parts_by : shape_of g.core of ≡ composite → (zeros : Bool) → are_zeros bytes ≡ zeros → Comes g m l
      parts_by shape true none = begun_zeros shape none
      parts_by shape false whole = begun_parts shape whole

      by : (s : Shape) → shape_of g.core of ≡ s → Comes g m l
      by composite shape = parts_by shape (are_zeros bytes) refl
      by (single one) shape = number_by (single one) shape refl
      by of_chars shape = number_by of_chars shape refl
      by of_elements shape = number_by of_elements shape refl
      by (of_instance holds) shape = number_by (of_instance holds) shape refl
