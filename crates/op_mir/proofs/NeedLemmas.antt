-- What the sums of `frame_need` are, part by part.
use Rattle.std.proofs.Common.{◌≡◌, ◌≤◌, ℕ, ◌+◌, ◌-◌, ◌*◌, ◌^◌, max, min, Bool, true, false, ◌||◌, List, [], ◌∷◌, ◌++◌, flat_map, option_to_list, Option, Some, None, slice_get, nat_le, refl, sym, ap, ap₂, ◌∙◌, arith, append_assoc, if◌then◌else◌}
use Rattle.std.proofs.Math.Path.{fun_ext}
use Rattle.std.proofs.lemmas.List.Concat.{flat_map-cons}
use Rattle.std.proofs.lemmas.List.Folds.{list_any-append}
use Rattle.std.proofs.lemmas.List.Sums.{sum_by-append, sum_by-cons}
use Rattle.std.specs.List.{fold, list_any, sum_by}
use Rattle.op_core.specs.Rows.{rows}
use Rattle.op_core.specs.Sound.{bytes_of, globals_of}
use Rattle.op_core.specs.declared.ids.VariableId.{VariableId}
use Rattle.op_core.specs.declared.program.Core.{Core}
use Rattle.op_core.specs.declared.routine.Variable.{Variable}
use Rattle.op_meaning.specs.Shapes.{result_of_routine, variables_of}
use Rattle.op_mir.specs.FrameNeed.{bytes_before, code_words, each_once, first_words, frame_need, instruction_words, is_one_root, most_words, roots_named, roots_of_given, roots_of_instruction, size_of_root, variable_bytes}
use Rattle.op_mir.specs.declared.code.Block.{Block}
use Rattle.op_mir.specs.declared.code.Routine.{Routine}
use Rattle.op_mir.specs.declared.instruction.Given.{Given}
use Rattle.op_mir.specs.declared.instruction.Instruction.{Instruction}
use Rattle.op_mir.specs.declared.path.Root.{Root}

-- a number above the greatest one of 64 bits counts as that
abbrev pub capped : ℕ → ℕ
capped n = min n (2 ^ 64 - 1)

pub begins : (n : ℕ) → capped (0 + n) ≡ capped n
begins n = omega arith

-- ---- global variables

-- the bytes of the variables in these rows
abbrev pub bytes_of_ids : Core → List VariableId → ℕ
bytes_of_ids core ids = bytes_of core (flat_map (λ v. option_to_list (slice_get core.variables v.0)) ids)

pub one_more : (core : Core) (id : VariableId) (ids : List VariableId) → bytes_of_ids core (id ∷ ids) ≡ bytes_of core (option_to_list (slice_get core.variables id.0)) + bytes_of_ids core ids
one_more core id ids = ap (bytes_of core) (flat_map-cons (λ v. option_to_list (slice_get core.variables v.0)) id ids) ∙ sum_by-append _ (option_to_list (slice_get core.variables id.0)) _

-- ---- the part that has the most

pub capped_max : (a b : ℕ) → max (capped a) (capped b) ≡ capped (max a b)
capped_max a b = omega arith

most_from : {A : Type 0} (f : A → ℕ) (k : ℕ) (xs : List A) → fold (λ most x. max most (capped (f x))) (capped k) xs ≡ capped (fold (λ most x. max most (f x)) k xs)
most_from f k [] = refl
most_from f k (x ∷ xs) = ap (λ n. fold (λ most y. max most (capped (f y))) n xs) (capped_max k (f x)) ∙ most_from f (max k (f x)) xs

pub most_capped : {A : Type 0} (f : A → ℕ) (xs : List A) → most_words (λ x. capped (f x)) xs ≡ capped (most_words f xs)
most_capped f xs = most_from f 0 xs

pub most_words_capped : (blocks : List Block) → most_words (λ b. most_words (λ i. capped (instruction_words i)) b.code) blocks ≡ capped (most_words (λ b. most_words instruction_words b.code) blocks)
most_words_capped blocks = ap (λ f. most_words f blocks) (fun_ext (λ (b : Block). most_capped instruction_words b.code)) ∙ most_capped (λ (b : Block). most_words instruction_words b.code) blocks

-- ---- roots

none_more : (n : ℕ) → n ≡ 0 + n
none_more n = omega arith

pub any_named : {A : Type 0} (root : Root) (f : A → List Root) (xs : List A) → list_any (is_one_root root) (flat_map f xs) ≡ list_any (λ x. list_any (is_one_root root) (f x)) xs
any_named root f [] = refl
any_named root f (x ∷ xs) =
    ap (list_any (is_one_root root)) (flat_map-cons f x xs) ∙ list_any-append (is_one_root root) (f x) (flat_map f xs) ∙ ap (λ b. list_any (is_one_root root) (f x) || b) (any_named root f xs)

-- among what is given, or where the result goes
pub any_call : {A : Type 0} (root : Root) (f : A → List Root) (xs : List A) (ys : List Root) → list_any (is_one_root root) (flat_map f xs ++ ys) ≡ (list_any (λ x. list_any (is_one_root root) (f x)) xs || list_any (is_one_root root) ys)
any_call root f xs ys = list_any-append (is_one_root root) (flat_map f xs) ys ∙ ap (λ b. b || list_any (is_one_root root) ys) (any_named root f xs)

pub any_in_blocks : (root : Root) (blocks : List Block) → list_any (is_one_root root) (roots_named blocks) ≡ list_any (λ b. list_any (λ i. list_any (is_one_root root) (roots_of_instruction i)) b.code) blocks
any_in_blocks root blocks =
    any_named root (λ (b : Block). flat_map roots_of_instruction b.code) blocks
    ∙ ap (λ f. list_any f blocks) (fun_ext (λ (b : Block). any_named root roots_of_instruction b.code))

module _ (core : Core) where
  -- one root, which is named further on or is not
  once_by : (root : Root) (front back : List Root) → bytes_before core (root ∷ []) (front ++ back) ≡ (if list_any (is_one_root root) front || list_any (is_one_root root) back then 0 else size_of_root core root) + 0
  once_by root front back = ap (λ b. (if b then 0 else size_of_root core root) + 0) (list_any-append (is_one_root root) front back)

  pub once_front : (root : Root) (front back : List Root) → list_any (is_one_root root) front ≡ true → 0 ≡ bytes_before core (root ∷ []) (front ++ back)
  once_front root front back e =
      let is = once_by root front back in
      let value : (if list_any (is_one_root root) front || list_any (is_one_root root) back then 0 else size_of_root core root) + 0 ≡ 0 = ap (λ b. (if b || list_any (is_one_root root) back then 0 else size_of_root core root) + 0) e in
      sym (is ∙ value)

  pub once_back : (root : Root) (front back : List Root) → list_any (is_one_root root) front ≡ false → list_any (is_one_root root) back ≡ true → 0 ≡ bytes_before core (root ∷ []) (front ++ back)
  once_back root front back e f =
      let is = once_by root front back in
      let value : (if list_any (is_one_root root) front || list_any (is_one_root root) back then 0 else size_of_root core root) + 0 ≡ 0 = ap₂ (λ a b. (if a || b then 0 else size_of_root core root) + 0) e f in
      sym (is ∙ value)

  pub once_new : (root : Root) (front back : List Root) (n : ℕ) → list_any (is_one_root root) front ≡ false → list_any (is_one_root root) back ≡ false → n ≡ size_of_root core root → n ≡ bytes_before core (root ∷ []) (front ++ back)
  once_new root front back n e f same =
      let is = once_by root front back in
      let value : (if list_any (is_one_root root) front || list_any (is_one_root root) back then 0 else size_of_root core root) + 0 ≡ size_of_root core root + 0 = ap₂ (λ a b. (if a || b then 0 else size_of_root core root) + 0) e f in
      omega (arith, is, value, same)

  -- of what is given
  pub none_given : (o : Option Root) (rs later : List Root) → option_to_list o ≡ rs → o ≡ None → 0 ≡ bytes_before core rs later
  none_given o rs later list is = ap (λ xs. bytes_before core xs later) (ap option_to_list (sym is) ∙ list)

  pub one_given : (o : Option Root) (root : Root) (rs later : List Root) (n : ℕ) → option_to_list o ≡ rs → o ≡ Some root → n ≡ bytes_before core (root ∷ []) later → n ≡ bytes_before core rs later
  one_given o root rs later n list is e = e ∙ ap (λ xs. bytes_before core xs later) (ap option_to_list (sym is) ∙ list)

  -- what roots in front take is told part by part
  pub before_append : (xs ys later : List Root) → bytes_before core (xs ++ ys) later ≡ bytes_before core xs (ys ++ later) + bytes_before core ys later
  before_append [] ys later = none_more (bytes_before core ys later)
  before_append (x ∷ xs) ys later =
      let rest = before_append xs ys later in
      let same : list_any (is_one_root x) ((xs ++ ys) ++ later) ≡ list_any (is_one_root x) (xs ++ (ys ++ later)) = ap (list_any (is_one_root x)) (append_assoc xs ys later) in
      let here : (if list_any (is_one_root x) ((xs ++ ys) ++ later) then 0 else size_of_root core x) ≡ (if list_any (is_one_root x) (xs ++ (ys ++ later)) then 0 else size_of_root core x) = ap (λ b. if b then 0 else size_of_root core x) same in
      omega (arith, rest, here)

  -- each once, they take what those in front take and those behind
  pub once_append : (xs later : List Root) → sum_by (size_of_root core) (each_once (xs ++ later)) ≡ bytes_before core xs later + sum_by (size_of_root core) (each_once later)
  once_append [] later = none_more (sum_by (size_of_root core) (each_once later))
  once_append (x ∷ xs) later = by (list_any (is_one_root x) (xs ++ later)) refl (once_append xs later)
    where
      by : (again : Bool) → list_any (is_one_root x) (xs ++ later) ≡ again → sum_by (size_of_root core) (each_once (xs ++ later)) ≡ bytes_before core xs later + sum_by (size_of_root core) (each_once later)
          → sum_by (size_of_root core) (each_once (x ∷ (xs ++ later))) ≡ bytes_before core (x ∷ xs) later + sum_by (size_of_root core) (each_once later)
      by true e rest =
          let goal : sum_by (size_of_root core) (each_once (xs ++ later)) ≡ 0 + bytes_before core xs later + sum_by (size_of_root core) (each_once later) = omega (arith, rest) in
          rw e goal
      by false e rest =
          let sum = sum_by-cons (size_of_root core) x (each_once (xs ++ later)) in
          let goal : sum_by (size_of_root core) (x ∷ each_once (xs ++ later)) ≡ size_of_root core x + bytes_before core xs later + sum_by (size_of_root core) (each_once later) = omega (arith, sum, rest) in
          rw e goal

  -- ---- part by part

  pub once_behind : (root : Root) (front back : List Root) (n : ℕ) → list_any (is_one_root root) front ≡ false → n ≡ bytes_before core (root ∷ []) back → n ≡ bytes_before core (root ∷ []) (front ++ back)
  once_behind root front back n e same =
      let is = once_by root front back in
      let value : (if list_any (is_one_root root) front || list_any (is_one_root root) back then 0 else size_of_root core root) + 0 ≡ (if list_any (is_one_root root) back then 0 else size_of_root core root) + 0 = ap (λ b. (if b || list_any (is_one_root root) back then 0 else size_of_root core root) + 0) e in
      same ∙ sym (is ∙ value)

  -- from one place to another
  pub copy_same : (from to : Root) (later : List Root) (n : ℕ) → is_one_root from to ≡ true → n ≡ bytes_before core (to ∷ []) later → n ≤ 4294967296 → n ≡ capped (bytes_before core (from ∷ to ∷ []) later)
  copy_same from to later n e same small =
      let value : (if is_one_root from to || list_any (is_one_root from) later then 0 else size_of_root core from) + bytes_before core (to ∷ []) later ≡ 0 + bytes_before core (to ∷ []) later = ap (λ b. (if b || list_any (is_one_root from) later then 0 else size_of_root core from) + bytes_before core (to ∷ []) later) e in
      let whole : bytes_before core (from ∷ to ∷ []) later ≡ 0 + bytes_before core (to ∷ []) later = value in
      omega (arith, whole, same, small)

  pub copy_apart : (from to : Root) (later : List Root) (n m : ℕ) → is_one_root from to ≡ false → n ≡ bytes_before core (from ∷ []) later → m ≡ bytes_before core (to ∷ []) later → n ≤ 4294967296 → m ≤ 4294967296 → capped (n + m) ≡ capped (bytes_before core (from ∷ to ∷ []) later)
  copy_apart from to later n m e one other small few =
      let value : (if is_one_root from to || list_any (is_one_root from) later then 0 else size_of_root core from) + bytes_before core (to ∷ []) later ≡ (if list_any (is_one_root from) later then 0 else size_of_root core from) + bytes_before core (to ∷ []) later = ap (λ b. (if b || list_any (is_one_root from) later then 0 else size_of_root core from) + bytes_before core (to ∷ []) later) e in
      let whole : bytes_before core (from ∷ to ∷ []) later ≡ (if list_any (is_one_root from) later then 0 else size_of_root core from) + bytes_before core (to ∷ []) later = value in
      let alone : bytes_before core (from ∷ []) later ≡ (if list_any (is_one_root from) later then 0 else size_of_root core from) + 0 = refl in
      omega (arith, whole, alone, one, other)

  pub code_step : (i : Instruction) (others rest : List Instruction) (later : List Root) → rest ≡ i ∷ others → bytes_before core (flat_map roots_of_instruction rest) later ≡ bytes_before core (roots_of_instruction i) (flat_map roots_of_instruction others ++ later) + bytes_before core (flat_map roots_of_instruction others) later
  code_step i others rest later is =
      ap (λ code. bytes_before core (flat_map roots_of_instruction code) later) is ∙ ap (λ xs. bytes_before core xs later) (flat_map-cons roots_of_instruction i others)
      ∙ before_append (roots_of_instruction i) (flat_map roots_of_instruction others) later

  pub given_step : (g : Given) (more rest : List Given) (receiver later : List Root) → rest ≡ g ∷ more
      → bytes_before core (flat_map roots_of_given rest) (receiver ++ later) ≡ bytes_before core (roots_of_given g) (flat_map roots_of_given more ++ receiver ++ later) + bytes_before core (flat_map roots_of_given more) (receiver ++ later)
  given_step g more rest receiver later is =
      ap (λ gs. bytes_before core (flat_map roots_of_given gs) (receiver ++ later)) is ∙ ap (λ xs. bytes_before core xs (receiver ++ later)) (flat_map-cons roots_of_given g more)
      ∙ before_append (roots_of_given g) (flat_map roots_of_given more) (receiver ++ later)
      ∙ ap (λ xs. bytes_before core (roots_of_given g) xs + bytes_before core (flat_map roots_of_given more) (receiver ++ later)) (sym (append_assoc (flat_map roots_of_given more) receiver later))

  pub block_step : (b : Block) (behind rest : List Block) → rest ≡ b ∷ behind
      → sum_by (size_of_root core) (each_once (roots_named rest)) ≡ bytes_before core (flat_map roots_of_instruction b.code) (roots_named behind) + sum_by (size_of_root core) (each_once (roots_named behind))
  block_step b behind rest is =
      ap (λ bs. sum_by (size_of_root core) (each_once (roots_named bs))) is ∙ ap (λ xs. sum_by (size_of_root core) (each_once xs)) (flat_map-cons (λ (x : Block). flat_map roots_of_instruction x.code) b behind)
      ∙ once_append (flat_map roots_of_instruction b.code) (roots_named behind)

-- a sum grows by a part, and what is left is less by it
pub grows : (sum part told left rest total : ℕ) → capped (sum + left) ≡ total → left ≡ part + rest → told ≡ capped part → capped (capped (sum + told) + rest) ≡ total
grows sum part told left rest total a b c = omega (arith, sym a, b, c)

-- what a routine needs, from its parts as they are summed up
pub need_is : (core : Core) (r : ℕ) (routine : Routine) → frame_need core r routine
    ≡ 4 * (3 + result_of_routine core r + routine.temporaries + max (first_words (result_of_routine core r) (rows core.variables (variables_of core r))) (code_words routine.blocks))
    + sum_by (variable_bytes core) (rows core.variables (variables_of core r)) + sum_by (size_of_root core) (each_once (roots_named routine.blocks))
unfolding frame_need
need_is core r routine = refl
