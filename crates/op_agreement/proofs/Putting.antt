-- A value that has no parts is stored at a place.
use Rattle.std.proofs.Common.{◌≡◌, ◌≤◌, ◌<◌, ◌⊎◌, ℕ, ℤ, ◌+◌, List, [], ◌∷◌, ◌++◌, length, refl, sym, ap, ◌∙◌, subst, arith, append_assoc, inl, inr}
use Rattle.std.specs.Prelude.{pos, false, ◌^◌, ◌%◌}
use Rattle.std.specs.Int.{bytes_low_first}
use Rattle.op_compute.specs.Meaning.{IsWordOf}
use Rattle.op_compute.specs.Straight.{at, fewest_steps}
use Rattle.op_constants.proofs.Stores.{stored}
use Rattle.op_constants.proofs.TypesArranged.{type_is_arranged}
use Rattle.op_constants.specs.Arranged.{IsSmall}
use Rattle.op_constants.specs.Lies.{IsAligned, Lies, arrangement_by, arrangement_of, arrangement_within, bytes_in, number_there, one_number}
use Rattle.op_constants.specs.Offsets.{size_in}
use Rattle.op_constants.specs.Shapes.{is_composite}
use Rattle.op_core.specs.Sizes.{type_at}
use Rattle.op_core.specs.declared.ids.TypeId.{TypeId}
use Rattle.op_core.specs.declared.types.IntegerKind.{IntegerKind}
use Rattle.op_core.specs.declared.types.IntegerKind.TheVariants.{Signed32}
use Rattle.op_places.specs.Homes.{home_at}
use Rattle.op_places.specs.Moves.{near, store_op}
use Rattle.op_places.specs.Places.{place_code, place_of}
use Rattle.op_places.specs.declared.frame.Frame.{Frame}
use Rattle.op_places.specs.declared.homes.Home.TheVariants.{Stored}
use Rattle.op_places.specs.declared.spot.Spot.{Spot}
use Rattle.op_low.specs.State.{State}
use Rattle.op_low.specs.declared.ids.VirtualRegister.{VirtualRegister}
use Rattle.op_low.specs.declared.instruction.Instruction.{Instruction as LowInstruction}
use Rattle.op_low.specs.declared.instruction.Instruction.TheVariants.{Store as StoreWord}
use Rattle.op_meaning.specs.Numbers.{low_bits_of}
use Rattle.op_meaning.specs.Shapes.{Shape, composite, of_chars, of_elements, of_instance, shape_of, single, type_of_local}
use Rattle.op_meaning.specs.Statements.{kind_by}
use Rattle.op_meaning.specs.Values.{Place, Value, all_of, local, number, number_in}
use Rattle.op_meaning.specs.World.{with_value}
use Rattle.op_mir.specs.Code.{Instr}
use Rattle.op_mir.specs.Machine.{MirState}
use Rattle.op_mir.specs.Plain.{IsPlainWorld}
use Rattle.op_mir.specs.View.{view_path}
use Rattle.op_mir.specs.declared.ids.LocalId.{LocalId}
use Rattle.op_mir.specs.declared.path.Path.{Path}
use Rattle.op_mir.specs.declared.path.Root.TheVariants.{Local}
use Rattle.op_rv.proofs.Memory.{four-bounded, with_bytes-outside}
use Rattle.op_rv.specs.State.{with_bytes}
use Rattle.op_agreement.proofs.Elements.{KeptBelow}
use Rattle.op_agreement.proofs.Going.{Goes, goes_from, goes_then}
use Rattle.op_agreement.proofs.Memory.{number_arranged, number_stores, place_stands, size_of_number, some_size}
use Rattle.op_agreement.proofs.Paths.{Reached, place_goes}
use Rattle.op_agreement.proofs.Standing.{here}
use Rattle.op_agreement.proofs.Updating.{Changed, stays_put}
use Rattle.op_agreement.proofs.WholeWords.{bytes_stored, word_stores}
use Rattle.op_agreement.specs.Chart.{Floor, IsAt}
use Rattle.op_agreement.specs.Fitting.{IsFitting}
use Rattle.op_agreement.specs.Settings.{Setting}
use Rattle.op_agreement.specs.Stands.{Stays}
use Rattle.op_agreement.specs.Typed.{IsVariable, PathTo}

module _ (g : Setting) (fit : IsFitting g) (m : MirState) (l : State) (floors : ℕ → Floor) (s : Stays g floors m l) (q : Place) (of : TypeId) (small : IsSmall g.core of) (x : Value) (rest : List LowInstruction) where
  -- a number of a kind has been stored where the value lies
  pub record Put (kind : IntegerKind) (h : ℕ → ℕ) (from base : VirtualRegister) (off : ℕ) : Type 0 where
    pub memory : ℕ → ℕ
    pub goes : Goes g 1 1 (at l h (StoreWord (store_op kind) from base (pos off) ∷ rest)) (record (at l h rest) { memory = memory })
    pub changed : Changed g fit floors m l s memory (h base.0 + off) (size_in g.core of)
    pub bytes : (y : ℕ) → y < l.limit → memory y < 2 ^ 8
    pub lies : Lies (arrangement_of g.core of) x memory (h base.0 + off)
    pub some : 0 < size_in g.core of

  module _ (h : ℕ → ℕ) (from base : VirtualRegister) (off : ℕ) (n : ℤ) (is_at : IsAt g floors (length m.callers) q of (h base.0 + off)) (low : h base.0 + off < 2 ^ 32) (word : IsWordOf (h from.0) n) where
    -- where values are single numbers
    put_number : (kind : IntegerKind) → shape_of g.core of ≡ single kind → number_in x ≡ low_bits_of kind n → Put kind h from base off
    put_number kind shape same =
        let stores = number_stores g fit m l floors s q of kind h from base off rest n shape small is_at low word in
        let one = number_arranged g.core of kind shape in
        let size = size_of_number g fit m l floors s of kind shape small in
        let some = some_size kind in
        let lies : number_in (number (low_bits_of kind n)) ≡ number_there kind stores.memory (h base.0 + off) = subst (λ r. Lies r (number (low_bits_of kind n)) stores.memory (h base.0 + off)) one stores.lies in
        let mine : number_in x ≡ number_there kind stores.memory (h base.0 + off) = same ∙ lies in
        record {
          memory = stores.memory;
          goes = stores.goes;
          changed = stores.changed;
          bytes = stores.bytes;
          lies = subst (λ r. Lies r x stores.memory (h base.0 + off)) (sym one) mine;
          some = omega arith;
        }

    -- what is no number of its own is kept as a word
    put_word : arrangement_of g.core of ≡ one_number Signed32 → number_in x ≡ low_bits_of Signed32 n → Put Signed32 h from base off
    put_word one same =
        let a = h base.0 + off in
        let arranged = type_is_arranged g.core fit.program.extents of small in
        let size : 4 ≡ size_in g.core of = sym (ap bytes_in one) ∙ arranged.size in
        let stands = place_stands g fit m l floors s q of a is_at small (omega arith) in
        let below = stands.below in
        let whole : a % 4 ≡ 0 = subst (λ r. IsAligned r a) one stands.aligned in
        let bytes = bytes_low_first 0 4 (h from.0) in
        let memory = with_bytes l.memory a bytes in
        let mine : number_in x ≡ number_there Signed32 memory a = same ∙ sym (stored Signed32 l.memory a (h from.0) word.bound ∙ ap (low_bits_of Signed32) word.number) in
        record {
          memory = memory;
          goes = word_stores g l h from base off a (h from.0) rest refl refl whole (omega arith) low (λ y up down. stands.writable y up (omega arith));
          changed = λ y less far. with_bytes-outside l.memory a bytes y (λ up down. outside y a (size_in g.core of) far up down (omega arith));
          bytes = bytes_stored l.limit l.memory a bytes s.bytes (four-bounded (h from.0));
          lies = subst (λ r. Lies r x memory a) (sym one) mine;
          some = omega arith;
        }
      where
        outside : (y a size : ℕ) → (y < a) ⊎ (a + size ≤ y) → a ≤ y → y < a + 4 → 4 ≤ size → ⊥
        outside y a size (inl before) up down most = omega arith
        outside y a size (inr behind) up down most = omega arith

    -- how values of a shape lie
    arranged_by : (sh : Shape) → shape_of g.core of ≡ sh → arrangement_of g.core of ≡ arrangement_by (arrangement_within of.0 g.core) g.core (size_in g.core of) (type_at g.core of) sh
    arranged_by sh shape = ap (arrangement_by (arrangement_within of.0 g.core) g.core (size_in g.core of) (type_at g.core of)) shape

    -- where values have no parts
    pub put_by : (sh : Shape) → shape_of g.core of ≡ sh → is_composite sh ≡ false → number_in x ≡ low_bits_of (kind_by sh) n → Put (kind_by sh) h from base off
    put_by (single kind) shape whole same = put_number kind shape same
    put_by composite shape whole same = absurd cc
    put_by of_chars shape whole same = put_word (arranged_by of_chars shape) same
    put_by of_elements shape whole same = put_word (arranged_by of_elements shape) same
    put_by (of_instance holds) shape whole same = put_word (arranged_by (of_instance holds) shape) same

-- ---- a variable of the activation under way that is stored in its locals

module _ (g : Setting) (fit : IsFitting g) (m : MirState) (l : State) (floors : ℕ → Floor) (s : Stays g floors m l) (v : LocalId) (offset : ℕ) (variable : IsVariable g.core (here m floors).number v.0 false) (home : home_at (here m floors).frame.homes v ≡ Stored offset) (small : IsSmall g.core (type_of_local g.core (here m floors).number v.0)) (above : List Instr) (rest : List LowInstruction) where
  abbrev frame : Frame
  frame = (here m floors).frame

  abbrev type : TypeId
  type = type_of_local g.core (here m floors).number v.0

  abbrev whole_place : Place
  whole_place = all_of (local (length m.callers) v.0)

  abbrev spot : VirtualRegister → Spot
  spot free = place_of g.core frame near (Local v) [] free

  abbrev sw : IntegerKind → (from free : VirtualRegister) → LowInstruction
  sw kind from free = StoreWord (store_op kind) from (spot free).base (pos (spot free).offset)

  -- the code that stores a register there
  abbrev pub store_placed : IntegerKind → (from free : VirtualRegister) → List LowInstruction
  store_placed kind from free = place_code g.core frame near (Local v) [] free ++ sw kind from free ∷ []

  -- low code comes from a state to where the variable has the value
  pub record Puts (x : Value) (from : State) : Type 0 where
    pub to : State
    pub goes : Goes g 1 4 from to
    pub stays : Stays g floors (record m { world = with_value whole_place x m.world; work = above }) to
    pub now : to.top.now ≡ rest

  -- a register's number is stored there, and is the value
  pub variable_puts : (sh : Shape) → shape_of g.core type ≡ sh → is_composite sh ≡ false → (x : Value) (n : ℤ) → number_in x ≡ low_bits_of (kind_by sh) n → IsPlainWorld (with_value whole_place x m.world) → (f : ℕ → ℕ) (from free : VirtualRegister) → frame.bank.scratch ≤ free.0 → from.0 < free.0 → KeptBelow frame.bank.scratch l.top.registers f → IsWordOf (f from.0) n → Puts x (at l f (store_placed (kind_by sh) from free ++ rest))
  variable_puts sh shape whole x n same plain f from free behind low kept_f word =
      let a = s.activation in
      let scratch = a.floor.fits.scratch in
      let path : Path = record { root = Local v; steps = [] } in
      let code = place_code g.core frame near (Local v) [] free in
      let store = sw (kind_by sh) from free in
      let start = at l f (code ++ (store ∷ rest)) in
      let typed : PathTo g.core (here m floors).number (view_path path) type = record { from = type; root = (variable, refl); reaches = refl; words = tt; small = small } in
      let reached : Reached g fit m l floors s (fewest_steps code) 3 start f free (spot free) (store ∷ rest) whole_place type =
      subst (λ d. Reached g fit m l floors s (fewest_steps code) 3 start f free (spot free) (store ∷ rest) (all_of (local d v.0)) type) s.depth
      (place_goes g fit m l floors s path type near free f (store ∷ rest) typed (offset, home) tt behind kept_f) in
      let kept : KeptBelow frame.bank.scratch l.top.registers reached.h = λ r less. reached.kept r (omega arith) ∙ kept_f r less in
      let there : IsWordOf (reached.h from.0) n = subst (λ w. IsWordOf w n) (sym (reached.kept from.0 low)) word in
      let puts = put_by g fit m l floors s whole_place type small x rest reached.h from (spot free).base (spot free).offset n reached.is (let room = reached.low in omega arith) there sh shape whole same in
      let k = record (at l reached.h rest) { memory = puts.memory } in
      record {
        to = k;
        goes = goes_from g 1 (at l f (store_placed (kind_by sh) from free ++ rest)) start k (ap (at l f) (append_assoc code (store ∷ []) rest))
            (goes_then g (fewest_steps code) 1 1 start (at l reached.h (store ∷ rest)) k (omega arith) reached.goes puts.goes);
        stays = stays_put g fit floors m l s whole_place type (reached.h (spot free).base.0 + (spot free).offset) reached.is puts.some small x puts.memory puts.changed above reached.h rest plain puts.bytes puts.lies
            (λ r less. kept r (omega arith))
            (λ t less. subst (λ w. IsWordOf w (m.world.temps t)) (sym (kept (frame.bank.temporaries + t) (omega arith))) (a.kept.temporaries t less));
        now = refl;
      }
