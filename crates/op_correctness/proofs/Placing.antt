-- The image has the program where the agreement asks for it: run-time routines, literals, global variables, and the stack.
use Rattle.std.proofs.Common.{◌≡◌, ◌≢◌, ◌≤◌, ◌<◌, ℕ, zero, suc, ◌+◌, ◌-◌, ◌*◌, ◌%◌, inl, inr, List, [], ◌∷◌, ◌++◌, length, Option, Some, None, refl, sym, ap, ◌∙◌, subst, arith, get_or, append_assoc, length-append, Bool, true, false, if◌then◌else◌}
use Rattle.std.specs.Prelude.{◌^◌, drop, take, slice_get}
use Rattle.std.specs.List.{flat_map}
use Rattle.std.proofs.lemmas.List.Concat.{flat_map-cons}
use Rattle.std.specs.Int.{bytes_low_first}
use Rattle.std.specs.Option.{option_map}
use Rattle.op_agreement.specs.Fitting.{GlobalStands, LiteralStands, DueStands}
use Rattle.op_agreement.specs.Settings.{Apart}
use Rattle.op_agreement.specs.Typed.{IsGlobal}
use Rattle.op_build.specs.Built.{program_layout, program_low}
use Rattle.op_constants.proofs.FirstRows.{first-length}
use Rattle.op_constants.proofs.Lying.{number-same}
use Rattle.op_constants.proofs.TypesArranged.{type_is_arranged}
use Rattle.op_constants.proofs.Zeros.{zeros_read}
use Rattle.op_constants.specs.Arranged.{IsSmall, IsUnit}
use Rattle.op_constants.specs.FirstBytes.{first_bytes, are_zeros}
use Rattle.op_constants.specs.Literals.{literals_of}
use Rattle.op_constants.specs.Offsets.{alignment_in, size_in}
use Rattle.op_core.specs.Initial.{FirstValue, first_value_of}
use Rattle.op_core.specs.Sizes.{KeepsExtents}
use Rattle.op_core.specs.declared.program.Core.{Core}
use Rattle.op_core.specs.declared.routine.Variable.{Variable}
use Rattle.op_core.specs.declared.types.IntegerKind.TheVariants.{Signed32}
use Rattle.op_correctness.specs.Placed.{placed_in, setting_in}
use Rattle.op_expand.specs.Programs.{global_of, stack_global, global_with}
use Rattle.op_frames.proofs.GlobalsUnder.{size_with}
use Rattle.op_image.specs.Beginning.{begun}
use Rattle.op_image.specs.Means.{Means, StandsGlobal, StandsText}
use Rattle.op_layout.specs.Places.{places_from}
use Rattle.op_layout.specs.declared.layout.LiteralPlace.{LiteralPlace}
use Rattle.op_link.specs.Memory.{LieApart, control_address, variable_size}
use Rattle.op_link.specs.declared.memory_map.Settings.{Settings}
use Rattle.op_low.specs.declared.code.Low.{Low}
use Rattle.op_meaning.specs.Shapes.{type_of_row, type_of_variable}
use Rattle.op_mir.specs.declared.code.Mir.{Mir}
use Rattle.op_optimize.specs.Optimizing.{Optimizes}
use Rattle.op_rt_text.specs.Names.{literal}
use Rattle.op_rv.proofs.Memory.{byte_from, with_bytes-within, word_at-stored}
use Rattle.op_rv.specs.State.{bytes_from, with_bytes, word_at}
use Rattle.op_rv.specs.declared.objects.GlobalVariable.{GlobalVariable}
use Rattle.op_rv.specs.declared.symbol.Symbol.TheVariants.{Global}
use Rattle.op_select.specs.Going.{Setting as Placed}

-- ---- literals

-- each literal has a place, and its bytes are there
literal_placed : (front : List ℕ) (literals : List (List ℕ)) (id : ℕ) (bytes : List ℕ) → slice_get literals id ≡ Some bytes → (place : LiteralPlace) × (slice_get (places_from (length front) literals) id ≡ Some place) × (take place.length (drop place.offset (front ++ flat_map (λ x. x) literals)) ≡ bytes)
literal_placed front [] id bytes is = absurd cc
literal_placed front (x ∷ xs) zero bytes is =
    let same : x ≡ bytes = cc in
    (record { offset = length front; length = length x }, refl, ap (λ all. take (length x) (drop (length front) (front ++ all))) (flat_map-cons (λ y. y) x xs) ∙ taken_first front x (flat_map (λ y. y) xs) ∙ same)
  where
    taken_first : (a b c : List ℕ) → take (length b) (drop (length a) (a ++ (b ++ c))) ≡ b
    taken_first [] [] c = refl
    taken_first [] (y ∷ ys) c = ap (λ t. y ∷ t) (taken_first [] ys c)
    taken_first (y ∷ ys) b c = taken_first ys b c
literal_placed front (x ∷ xs) (suc id) bytes is =
    let (place, found, there) = literal_placed (front ++ x) xs id bytes is in
    let longer : length (front ++ x) ≡ length front + length x = length-append front x in
    (place, subst (λ n. slice_get (places_from n xs) id ≡ Some place) longer found, ap (λ all. take place.length (drop place.offset (front ++ all))) (flat_map-cons (λ y. y) x xs) ∙ ap (λ all. take place.length (drop place.offset all)) (sym (append_assoc front x (flat_map (λ y. y) xs))) ∙ there)

-- a byte of those that stand at an address
byte_of : (memory : ℕ → ℕ) (a : ℕ) (bytes : List ℕ) (x : ℕ) → bytes_from memory a (length bytes) ≡ bytes → x < length bytes → memory (a + x) ≡ get_or bytes x 0
byte_of memory a bytes x stands low = sym (byte_from memory a (length bytes) x low) ∙ ap (λ b. get_or b x 0) stands

-- a word whose bytes stand at an address
word_told : (memory : ℕ → ℕ) (a w : ℕ) → w < 2 ^ 32 → bytes_from memory a 4 ≡ bytes_low_first 0 4 w → word_at memory a ≡ w
word_told memory a w low stands =
    word_same memory (with_bytes memory a (bytes_low_first 0 4 w)) a (λ x from to. by x from to) ∙ word_at-stored memory a w low
  where
    by : (x : ℕ) → a ≤ x → x < a + 4 → memory x ≡ with_bytes memory a (bytes_low_first 0 4 w) x
    by x from to =
        let e : a + (x - a) ≡ x = omega arith in
        ap memory (sym e) ∙ byte_of memory a (bytes_low_first 0 4 w) (x - a) stands (omega arith) ∙ sym (with_bytes-within memory a (bytes_low_first 0 4 w) x from (omega arith))

    word_same : (old new : ℕ → ℕ) (a : ℕ) → ((x : ℕ) → a ≤ x → x < a + 4 → old x ≡ new x) → word_at old a ≡ word_at new a
    word_same old new a same = number-same Signed32 new old a a (λ x low. same (a + x) (omega arith) (omega arith))

-- what lies at a multiple of 4 or of 2 where its size is one lies at a multiple of each alignment that divides its size
aligned_by : (at size unit : ℕ) → IsUnit unit → size % unit ≡ 0 → (0 < size → size % 4 ≡ 0 → at % 4 ≡ 0) → (0 < size → size % 2 ≡ 0 → at % 2 ≡ 0) → 0 < size → at % unit ≡ 0
aligned_by at size unit (inl one) whole words halves some = subst (λ u. at % u ≡ 0) (sym one) (omega arith)
aligned_by at size unit (inr (inl two)) whole words halves some = subst (λ u. at % u ≡ 0) (sym two) (halves some (subst (λ u. size % u ≡ 0) two whole))
aligned_by at size unit (inr (inr four)) whole words halves some = subst (λ u. at % u ≡ 0) (sym four) (words some (subst (λ u. size % u ≡ 0) four whole))

-- the word of the stack lies at a multiple of 4
pub stack_aligned : (stack : ℕ) (w : Placed) (memory : ℕ → ℕ) (at : ℕ) → StandsGlobal w memory at (stack_global (1024 * stack)) → at % 4 ≡ 0
stack_aligned stack w memory at stands =
    let four : variable_size (stack_global (1024 * stack)) ≡ 4 = refl in
    stands.words (omega arith) (ap (λ n. n % 4) four)

module _ (core : Core) (mir : Mir) (settings : Settings) (better : Low) (optimizes : Optimizes (program_low core mir settings) better) (image : List ℕ) (means : Means better (program_layout core mir) settings image) where
  pub literal_stands : (id : ℕ) (bytes : List ℕ) → slice_get (literals_of core mir) id ≡ Some bytes → LiteralStands (setting_in core mir settings better image) ((setting_in core mir settings better image).placement.address (literal id)) bytes
  literal_stands id bytes is =
      let (place, found, there) = literal_placed [] (literals_of core mir) id bytes is in
      let stands = means.literals (record { 0 = id }) place found in
      let text : StandsText (placed_in core mir settings better image) (begun settings image) ((placed_in core mir settings better image).placing.address (literal id)) bytes = subst (StandsText (placed_in core mir settings better image) (begun settings image) ((placed_in core mir settings better image).placing.address (literal id))) there stands in
      record { readable = text.readable; fixed = text.fixed; below = text.below; stands = text.stands }

  -- ---- global variables

  abbrev at_of : ℕ → ℕ
  at_of v = (setting_in core mir settings better image).placement.address (Global (record { 0 = v }))

  -- the global variables are those of the better code
  global_in : (v : ℕ) (global : GlobalVariable) → slice_get (program_low core mir settings).globals v ≡ Some global → slice_get better.globals v ≡ Some global
  global_in v global there = ap (λ gs. slice_get gs v) optimizes.globals ∙ there

  each_stands : (v : ℕ) (global : GlobalVariable) → slice_get (program_low core mir settings).globals v ≡ Some global → StandsGlobal (placed_in core mir settings better image) (begun settings image) (at_of v) global
  each_stands v global there = means.globals.each (record { 0 = v }) global (global_in v global there)

  two_apart : (v u : ℕ) (a b : GlobalVariable) → v ≢ u → slice_get (program_low core mir settings).globals v ≡ Some a → slice_get (program_low core mir settings).globals u ≡ Some b → LieApart (at_of v) (variable_size a) (at_of u) (variable_size b)
  two_apart v u a b differ one other = means.globals.apart (record { 0 = v }) (record { 0 = u }) a b differ (global_in v a one) (global_in u b other)

  size_of_global : (row : Variable) → variable_size (global_of core (Some row)) ≡ size_in core row.of
  size_of_global row = by (option_map (λ i. first_value_of i.value) row.first_value) refl
    where
      by : (o : Option FirstValue) → option_map (λ i. first_value_of i.value) row.first_value ≡ o → variable_size (global_of core (Some row)) ≡ size_in core row.of
      by None is = let none : 0 + size_in core row.of ≡ size_in core row.of = omega arith in rw is none
      by (Some value) is = rw is (size_with (first_bytes core row.of value) ∙ first-length core row.of value)

  pub global_stands : (v : ℕ) (row : Variable) → KeepsExtents core → slice_get core.variables v ≡ Some row → slice_get (program_low core mir settings).globals v ≡ Some (global_of core (Some row)) → IsSmall core row.of → GlobalStands (setting_in core mir settings better image) v (at_of v) (size_in core (type_of_variable core v))
  global_stands v row keeps is there small =
      let stands = each_stands v (global_of core (Some row)) there in
      let size = size_of_global row in
      let type : type_of_variable core v ≡ row.of = ap type_of_row is in
      let same : size_in core (type_of_variable core v) ≡ variable_size (global_of core (Some row)) = ap (size_in core) type ∙ sym size in
      let below = stands.below in
      let arranged = type_is_arranged core keeps row.of small in
      record {
        type = subst (IsSmall core) (sym type) small;
        aligned = λ some.
            subst (λ of. at_of v % alignment_in core of ≡ 0) (sym type)
            (aligned_by (at_of v) (variable_size (global_of core (Some row))) (alignment_in core row.of) arranged.unit (subst (λ n. n % alignment_in core row.of ≡ 0) (sym size) arranged.whole) stands.words stands.halves (omega arith));
        readable = λ x from to. stands.readable x from (omega arith);
        writable = λ x from to. stands.writable x from (omega arith);
        below = omega arith;
      }

  -- it lies in front of the control region
  pub global_before : (v : ℕ) (row : Variable) → slice_get core.variables v ≡ Some row → slice_get (program_low core mir settings).globals v ≡ Some (global_of core (Some row)) → at_of v + size_in core (type_of_variable core v) ≤ control_address
  global_before v row is there =
      let stands = each_stands v (global_of core (Some row)) there in
      let size = size_of_global row in
      let same : size_in core (type_of_variable core v) ≡ variable_size (global_of core (Some row)) = ap (λ o. size_in core (type_of_row o)) is ∙ sym size in
      let front = stands.before_control in
      omega arith

  pub globals_apart : (v u : ℕ) (one other : Variable) → v ≢ u → slice_get core.variables v ≡ Some one → slice_get core.variables u ≡ Some other → slice_get (program_low core mir settings).globals v ≡ Some (global_of core (Some one)) → slice_get (program_low core mir settings).globals u ≡ Some (global_of core (Some other)) → Apart (at_of v) (size_in core (type_of_variable core v)) (at_of u) (size_in core (type_of_variable core u))
  globals_apart v u one other differ is_one is_other there_one there_other =
      let apart = two_apart v u (global_of core (Some one)) (global_of core (Some other)) differ there_one there_other in
      let first : size_in core (type_of_variable core v) ≡ variable_size (global_of core (Some one)) = ap (λ o. size_in core (type_of_row o)) is_one ∙ sym (size_of_global one) in
      let second : size_in core (type_of_variable core u) ≡ variable_size (global_of core (Some other)) = ap (λ o. size_in core (type_of_row o)) is_other ∙ sym (size_of_global other) in
      subst (λ n. Apart (at_of v) n (at_of u) (size_in core (type_of_variable core u))) (sym first) (subst (λ n. Apart (at_of v) (variable_size (global_of core (Some one))) (at_of u) n) (sym second) apart)

  -- ---- what they begin with

  pub zeros_loaded : (v : ℕ) (row : Variable) → slice_get core.variables v ≡ Some row → option_map (λ i. first_value_of i.value) row.first_value ≡ None → slice_get (program_low core mir settings).globals v ≡ Some (global_of core (Some row)) → (x : ℕ) → x < size_in core (type_of_variable core v) → (setting_in core mir settings better image).loaded (at_of v + x) ≡ 0
  zeros_loaded v row is none there x low =
      let begins : global_of core (Some row) ≡ record { initial = []; zeros = size_in core row.of } = rw none refl in
      let stands : StandsGlobal (placed_in core mir settings better image) (begun settings image) (at_of v) (record { initial = []; zeros = size_in core row.of }) = each_stands v (record { initial = []; zeros = size_in core row.of }) (there ∙ ap (λ y. Some y) begins) in
      let type : size_in core (type_of_variable core v) ≡ size_in core row.of = ap (λ o. size_in core (type_of_row o)) is in
      stands.zeros (at_of v + x) (omega arith) (omega arith)

  -- by whether it begins as zero
  value_loaded : (v : ℕ) (bytes : List ℕ) (zeros : Bool) → are_zeros bytes ≡ zeros → StandsGlobal (placed_in core mir settings better image) (begun settings image) (at_of v) (if zeros then record { initial = []; zeros = length bytes } else record { initial = bytes; zeros = 0 }) → (x : ℕ) → x < length bytes → (setting_in core mir settings better image).loaded (at_of v + x) ≡ get_or bytes x 0
  value_loaded v bytes true none stands x low = stands.zeros (at_of v + x) (omega arith) (omega (arith, low)) ∙ sym (zeros_read bytes none x)
  value_loaded v bytes false some stands x low = byte_of (setting_in core mir settings better image).loaded (at_of v) bytes x stands.stands low

  pub values_loaded : (v : ℕ) (row : Variable) (value : FirstValue) → slice_get core.variables v ≡ Some row → option_map (λ i. first_value_of i.value) row.first_value ≡ Some value → slice_get (program_low core mir settings).globals v ≡ Some (global_of core (Some row)) → (x : ℕ) → x < size_in core (type_of_variable core v) → (setting_in core mir settings better image).loaded (at_of v + x) ≡ get_or (first_bytes core (type_of_variable core v) value) x 0
  values_loaded v row value is some there x low =
      let bytes = first_bytes core row.of value in
      let begins : global_of core (Some row) ≡ global_with bytes = rw some refl in
      let stands : StandsGlobal (placed_in core mir settings better image) (begun settings image) (at_of v) (global_with bytes) = each_stands v (global_with bytes) (there ∙ ap (λ y. Some y) begins) in
      let type : type_of_variable core v ≡ row.of = ap type_of_row is in
      let size : size_in core (type_of_variable core v) ≡ size_in core row.of = ap (size_in core) type in
      let many = first-length core row.of value in
      value_loaded v bytes (are_zeros bytes) refl stands x (omega arith) ∙ ap (λ of. get_or (first_bytes core of value) x 0) (sym type)

  -- ---- the stack, and the word that tells its bytes

  pub stack_word : slice_get (program_low core mir settings).globals (length core.variables) ≡ Some (stack_global (1024 * settings.stack)) → settings.stack ≤ 65536 → StandsGlobal (placed_in core mir settings better image) (begun settings image) (at_of (length core.variables)) (stack_global (1024 * settings.stack)) × (word_at (setting_in core mir settings better image).loaded (at_of (length core.variables)) ≡ 1024 * settings.stack)
  stack_word there less =
      let stands = each_stands (length core.variables) (stack_global (1024 * settings.stack)) there in
      (stands, word_told (setting_in core mir settings better image).loaded (at_of (length core.variables)) (1024 * settings.stack) (omega arith) stands.stands)

  -- it lies in front of the control region
  pub due_before : slice_get (program_low core mir settings).globals (length core.variables) ≡ Some (stack_global (1024 * settings.stack)) → at_of (length core.variables) + 4 ≤ control_address
  due_before there =
      let front = (each_stands (length core.variables) (stack_global (1024 * settings.stack)) there).before_control in
      let four : variable_size (stack_global (1024 * settings.stack)) ≡ 4 = refl in
      omega arith

  -- the word stands apart from the global variables
  pub due_stands : slice_get (program_low core mir settings).globals (length core.variables) ≡ Some (stack_global (1024 * settings.stack)) → ((v : ℕ) → IsGlobal core v → (row : Variable) × (slice_get core.variables v ≡ Some row) × (slice_get (program_low core mir settings).globals v ≡ Some (global_of core (Some row)))) → settings.stack ≤ 65536 → DueStands (setting_in core mir settings better image) (at_of (length core.variables))
  due_stands there made less =
      let stands = each_stands (length core.variables) (stack_global (1024 * settings.stack)) there in
      let below = stands.below in
      record {
        words = stack_aligned settings.stack (placed_in core mir settings better image) (begun settings image) (at_of (length core.variables)) stands;
        readable = stands.readable;
        writable = stands.writable;
        below = stands.below;
        apart = λ v global.
            let (row, is, found) = made v global in
            let size : size_in core (type_of_variable core v) ≡ variable_size (global_of core (Some row)) = ap (λ o. size_in core (type_of_row o)) is ∙ sym (size_of_global row) in
            let less_row : v < length core.variables = global.0 in
            subst (λ n. Apart (at_of v) n (at_of (length core.variables)) 4) (sym size)
            (two_apart v (length core.variables) (global_of core (Some row)) (stack_global (1024 * settings.stack)) (λ same. omega (arith, same, less_row)) found there);
      }
