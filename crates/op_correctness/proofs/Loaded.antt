-- What the agreement asks of where a program is placed, of an image that was built.
use Rattle.std.proofs.Common.{◌≡◌, ◌≤◌, ◌<◌, ℕ, zero, suc, ◌+◌, ◌-◌, ◌*◌, List, [], ◌∷◌, ◌++◌, length, Option, Some, None, refl, sym, ap, ◌∙◌, subst, arith}
use Rattle.std.specs.Prelude.{Box, IfSome, IsSomeAnd, slice_get}
use Rattle.std.specs.declared.alloc.Global.{Global}
use Rattle.std.specs.Option.{option_map}
use Rattle.std.proofs.lemmas.Option.{slice_get_within}
use Rattle.op_build.specs.Built.{program_layout, program_low}
use Rattle.op_constants.proofs.SoundFirst.{row_fits, small_type}
use Rattle.op_constants.proofs.TypesArranged.{all_at}
use Rattle.op_constants.specs.Arranged.{IsSmall}
use Rattle.op_constants.specs.FirstFits.{FirstFits}
use Rattle.op_core.proofs.Rows.{there_is}
use Rattle.op_core.specs.Initial.{FirstValue, first_value_of}
use Rattle.op_core.specs.Sizes.{type_at}
use Rattle.op_core.specs.Sound.{IsFirst, IsSound, IsVariableRow}
use Rattle.op_core.specs.declared.constant.Initial.{Initial}
use Rattle.op_core.specs.declared.program.Core.{Core}
use Rattle.op_core.specs.declared.routine.Variable.{Variable}
use Rattle.op_core.specs.declared.types.CoreType.{CoreType}
use Rattle.op_expand.specs.Calls.{runtime}
use Rattle.op_expand.specs.Programs.{global_of, low_of}
use Rattle.op_heap.specs.Demands.{first_heap}
use Rattle.op_heap.specs.Instances.{TableLies}
use Rattle.op_heap.specs.Memory.{HeapLies}
use Rattle.op_image.proofs.HeapBegun.{begun_small}
use Rattle.op_image.proofs.Started.{bytes_small}
use Rattle.op_image.specs.Beginning.{begun}
use Rattle.op_image.specs.Means.{Means}
use Rattle.op_link.specs.Image.{regions_in}
use Rattle.op_link.specs.Memory.{heap_size, stack_address}
use Rattle.op_link.specs.Region.{byte_in}
use Rattle.op_link.specs.declared.memory_map.Settings.{Settings}
use Rattle.op_low.specs.State.{routine_of, routine_or, space}
use Rattle.op_low.specs.declared.code.Low.{Low}
use Rattle.op_low.specs.declared.code.Routine.{Routine as LowRoutine}
use Rattle.op_lower.specs.Lowers.{Lowers}
use Rattle.op_meaning.specs.Frames.{program_of}
use Rattle.op_meaning.specs.Shapes.{type_of_row, type_of_variable}
use Rattle.op_meaning.specs.Start.{first_pending}
use Rattle.op_mir.specs.declared.code.Mir.{Mir}
use Rattle.op_optimize.proofs.Optimized.{thins}
use Rattle.op_optimize.specs.Optimizing.{Optimizes}
use Rattle.op_rt_text.specs.Runtime.{runtime_routines}
use Rattle.op_select.specs.Frames.{frame_of}
use Rattle.op_agreement.proofs.Expanding.{entry, has_runtime}
use Rattle.op_agreement.proofs.LowGlobals.{global_made, stack_made}
use Rattle.op_agreement.specs.Fitting.{HasHeap, IsPlacedProgram}
use Rattle.op_agreement.specs.Settings.{Setting}
use Rattle.op_agreement.specs.Starting.{IsLoaded}
use Rattle.op_agreement.specs.Typed.{IsGlobal}
use Rattle.op_correctness.proofs.Guarded.{LiesInFront, heap_placed}
use Rattle.op_correctness.proofs.Placing.{due_before, global_before, global_stands, globals_apart, literal_stands, stack_aligned, stack_word, values_loaded, zeros_loaded, due_stands}
use Rattle.op_correctness.proofs.Thinner.{frames_less}
use Rattle.op_correctness.specs.Placed.{setting_in}

-- ---- the stack

pub bottom_is : (settings : Settings) → stack_address settings ≡ 1879048192 - (1024 * settings.stack + 2048)
unfolding stack_address
bottom_is settings = refl

-- ---- run-time routines have small frames

in_front : (xs ys : List LowRoutine) (k : ℕ) → k < length xs → slice_get (xs ++ ys) k ≡ slice_get xs k
in_front [] ys k less = absurd (omega arith)
in_front (x ∷ xs) ys zero less = refl
in_front (x ∷ xs) ys (suc k) less = let less' : suc k < suc (length xs) = less in in_front xs ys k (omega arith)

small_frames : (k : ℕ) → k < 9 → frame_of (routine_or (slice_get runtime_routines k)) ≤ 64
unfolding frame_of
small_frames zero less = omega arith
small_frames (suc zero) less = omega arith
small_frames (suc (suc zero)) less = omega arith
small_frames (suc (suc (suc zero))) less = omega arith
small_frames (suc (suc (suc (suc zero)))) less = omega arith
small_frames (suc (suc (suc (suc (suc zero))))) less = omega arith
small_frames (suc (suc (suc (suc (suc (suc zero)))))) less = omega arith
small_frames (suc (suc (suc (suc (suc (suc (suc zero))))))) less = omega arith
small_frames (suc (suc (suc (suc (suc (suc (suc (suc zero)))))))) less = omega arith
small_frames (suc (suc (suc (suc (suc (suc (suc (suc (suc k))))))))) less = absurd (omega arith)

module _ (core : Core) (mir : Mir) (settings : Settings) (better : Low) (optimizes : Optimizes (program_low core mir settings) better) (image : List ℕ) (means : Means better (program_layout core mir) settings image) (sound : IsSound core) (few : settings.stack ≤ 65536) where
  abbrev g : Setting
  g = setting_in core mir settings better image

  low_is : g.low ≡ low_of g.core g.mir g.stack
  low_is = refl

  -- ---- rows of global variables

  row_at : (v : ℕ) → IsGlobal core v → (row : Variable) × (slice_get core.variables v ≡ Some row)
  row_at v global = there_is core.variables v global.0

  small_row : (v : ℕ) (row : Variable) → IsGlobal core v → slice_get core.variables v ≡ Some row → IsSmall core row.of
  small_row v row global is = by (type_at core row.of) refl (all_at (IsVariableRow core) core.variables v row global.0 is sound.variables)
    where
      by : (o : Option CoreType) → type_at core row.of ≡ o → IsSomeAnd o (λ t. IfSome row.first_value (λ i. IsFirst core t row.of (first_value_of i.value))) → IsSmall core row.of
      by None none there = absurd there
      by (Some t) some there = small_type core sound row.of (slice_get_within core.types row.of.0 t some)

  made : (v : ℕ) (row : Variable) → IsGlobal core v → slice_get core.variables v ≡ Some row → slice_get (program_low core mir settings).globals v ≡ Some (global_of core (Some row))
  made v row global is = global_made g low_is v global ∙ ap (λ o. Some (global_of core o)) is

  pub lies_in_front : LiesInFront (setting_in core mir settings better image)
  lies_in_front =
      record {
        globals = λ v global. let (row, is) = row_at v global in global_before core mir settings better optimizes image means v row is (made v row global is);
        due = due_before core mir settings better optimizes image means (stack_made g low_is);
      }

  pub placed : IsPlacedProgram (setting_in core mir settings better image)
  placed =
      let bottom = bottom_is settings in
      record {
        runtime = has_runtime g low_is (λ r less. frames r less);
        words = means.placement.words;
        literals = λ id bytes is. literal_stands core mir settings better optimizes image means id bytes is;
        globals = λ v global. let (row, is) = row_at v global in global_stands core mir settings better optimizes image means v row sound.extents is (made v row global is) (small_row v row global is);
        apart = λ v u differ one other. let (a, is_a) = row_at v one in let (b, is_b) = row_at u other in globals_apart core mir settings better optimizes image means v u a b differ is_a is_b (made v a one is_a) (made u b other is_b);
        due = due_stands core mir settings better optimizes image means (stack_made g low_is) (λ v global. let (row, is) = row_at v global in (row, is, made v row global is)) few;
        heap = heap_placed g (heap_size settings) lies_in_front means.heap.bounds.heap_bytes means.heap.below;
        whole = omega arith;
        top = omega arith;
        readable = means.setting.readable;
        writable = means.setting.writable;
      }
    where
      frames : (r : ℕ) → r < length runtime_routines → frame_of (routine_of better r) ≤ 64
      frames r less =
          let as_expanded : frame_of (routine_of (program_low core mir settings) r) ≤ 64 = subst (λ o. frame_of (routine_or o) ≤ 64) (sym (in_front runtime_routines _ r less)) (small_frames r less) in
          let thinner = frames_less (program_low core mir settings) better (thins (program_low core mir settings) better optimizes) r in
          omega (arith, as_expanded, thinner)

  -- ---- what is loaded

  first_is : (v : ℕ) (row : Variable) → slice_get core.variables v ≡ Some row → (program_of core (1024 * settings.stack)).first v ≡ option_map (λ i. first_value_of i.value) row.first_value
  first_is v row is = rw is refl

  pub loaded : Lowers core mir → first_pending core ≡ [] → g.bottom + space g.low g.placement (runtime + length core.routines) + g.stack + 1024 ≤ g.top → IsLoaded (setting_in core mir settings better image)
  loaded lowers pending room =
      let (stack, told) = stack_word core mir settings better optimizes image means (stack_made g low_is) few in
      record {
        entry = entry g low_is lowers.number;
        zeros = λ v global none x low. let (row, is) = row_at v global in zeros_loaded core mir settings better optimizes image means v row is (sym (first_is v row is) ∙ none) (made v row global is) x low;
        values = λ v value global some. let (row, is) = row_at v global in (fits v row value global is (sym (first_is v row is) ∙ some), λ x low. values_loaded core mir settings better optimizes image means v row value is (sym (first_is v row is) ∙ some) (made v row global is) x low);
        bytes = λ x low. begun_small (byte_in (regions_in image)) (heap_size settings) (1024 * settings.stack) x (bytes_small image x means.bytes);
        heap = subst (λ n. HeapLies (λ name. 0) g.loaded (first_heap n) → TableLies g.loaded (first_heap n) → HasHeap g g.loaded) means.heap.bounds.heap_bytes (λ lies table. record { lies = lies; table = table }) (means.heap.lies (λ name. 0)) means.heap.table;
        stack_whole = stack_aligned settings.stack _ (begun settings image) _ stack;
        stack_readable = stack.readable;
        stack_below = stack.below;
        stack_told = told;
        room = room;
        blocks = lowers.blocks (1024 * settings.stack) (length core.routines);
        charge = lowers.program.charge;
        pending = pending;
      }
    where
      fits : (v : ℕ) (row : Variable) (value : FirstValue) → IsGlobal core v → slice_get core.variables v ≡ Some row → option_map (λ i. first_value_of i.value) row.first_value ≡ Some value → FirstFits core (type_of_variable core v) value
      fits v row value global is some = subst (λ of. FirstFits core of value) (sym (ap type_of_row is)) (by row.first_value refl some)
        where
          by : (o : Option (Box Initial Global)) → row.first_value ≡ o → option_map (λ i. first_value_of i.value) o ≡ Some value → FirstFits core row.of value
          by None none e = absurd cc
          by (Some b) first e = let same : first_value_of b.value ≡ value = cc in subst (FirstFits core row.of) same (row_fits core sound v row b is first).1
