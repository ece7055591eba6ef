-- Actions of conversions, operators and functions are typed.
use Rattle.std.proofs.Common.{◌≡◌, ◌<◌, ◌⊎◌, inl, inr, ℕ, ◌+◌, ◌^◌, Bool, true, false, List, [], ◌∷◌, length, Option, Some, if◌then◌else◌, refl, sym, ap, subst, ◌∙◌, arith}
use Rattle.std.proofs.lemmas.Int.{ints}
use Rattle.std.specs.Prelude.{ℤ, pos, negsuc, IsSomeAnd}
use Rattle.std.proofs.lemmas.Option.{none-some, same_Some}
use Rattle.op_core.specs.Sizes.{range_of, type_at, values_of}
use Rattle.op_core.specs.Sound.{IsSound}
use Rattle.op_core.specs.Typing.{Applies, element_of}
use Rattle.op_core.specs.declared.ids.TypeId.{TypeId}
use Rattle.op_core.specs.declared.operation.Conversion.{Conversion}
use Rattle.op_core.specs.declared.operation.Conversion.TheVariants.{LowBits, Check}
use Rattle.op_core.specs.declared.operation.Function.{Function}
use Rattle.op_core.specs.declared.operation.Function.TheVariants.{Length, Low, High, Succ, Pred, Abs, Sqr, Odd, UpCase}
use Rattle.op_core.specs.declared.program.Core.{Core}
use Rattle.op_core.specs.declared.types.CoreType.{CoreType}
use Rattle.op_core.specs.declared.types.CoreType.TheVariants.{Integer, Char, String, Set, Array, DynamicArray, OpenArray}
use Rattle.op_core.specs.declared.types.IntegerKind.TheVariants.{Signed32}
use Rattle.op_meaning.specs.Actions.{compare, arithmetic, invert, complement}
use Rattle.op_meaning.specs.Expressions.{Now, ready, at_path, a_text, applied, converted, converted_by, counted_by, counted_of, is_boolean, is_comparison, measured, measured_by, moved, on_two, prefix}
use Rattle.op_meaning.specs.Items.{Items, none, then_do, ◌&◌, only, acts, Item}
use Rattle.op_tree.specs.declared.operator.Operator.{Operator}
use Rattle.op_tree.specs.declared.operator.Operator.TheVariants.{Add, In_, Subtract}
use Rattle.op_tree.specs.declared.operator.PrefixOperator.{PrefixOperator}
use Rattle.op_tree.specs.declared.operator.PrefixOperator.TheVariants.{Not, Plus, Minus}
use Rattle.op_typing.proofs.Rows.{not_true}
use Rattle.op_typing.proofs.Types.{IsWord, fits, high_word, low_word, range_words}
use Rattle.op_typing.specs.Simple.{IsSimpleProgram, IsSolidType, is_solid}
use Rattle.op_typing.specs.Typed.{AreTyped, IsShortText, IsTypedAction, IsTypedItem}

-- ---- lists of items

pub both : (core : Core) (r : ℕ) (items others : Items) → AreTyped core r items → AreTyped core r others → AreTyped core r (items & others)
both core r none others h k = k
both core r (then_do i rest) others h k = (h.0, both core r rest others h.1 k)

pub one : (core : Core) (r : ℕ) (i : Item) → IsTypedItem core r i → AreTyped core r (only i)
one core r i h = (h, tt)

-- ---- operators and prefixes

if_typed : (core : Core) (r : ℕ) (b : Bool) (o : Operator) (checked : Bool) (t : ℕ) → IsTypedAction core r (if b then compare o t t (t + 1) else arithmetic o checked t t (t + 1))
if_typed core r true o checked t = tt
if_typed core r false o checked t = tt

pub on_two_typed : (core : Core) (r : ℕ) (o : Operator) (checked : Bool) (of : Option CoreType) (t : ℕ) → IsTypedAction core r (on_two o checked of t)
on_two_typed core r o checked (Some (Set base)) t = tt
on_two_typed core r In_ checked of t = tt
on_two_typed core r o checked of t = if_typed core r (is_comparison o) o checked t

not_typed : (core : Core) (r : ℕ) (b : Bool) (t : ℕ) → AreTyped core r (acts (if b then invert t t ∷ [] else complement t t ∷ []))
not_typed core r true t = (tt, tt)
not_typed core r false t = (tt, tt)

pub prefix_typed : (core : Core) (r : ℕ) (o : PrefixOperator) (checked : Bool) (of : Option CoreType) (t : ℕ) → AreTyped core r (acts (prefix o checked of t))
prefix_typed core r Plus checked of t = tt
prefix_typed core r Minus checked of t = (tt, tt)
prefix_typed core r Not checked of t = not_typed core r (is_boolean of) t

-- ---- functions

sequence_is : (o : Option CoreType) → is_solid o ≡ true → (o ≡ Some String) ⊎ IsSomeAnd (element_of o) (λ element. Unit {0}) → (at : TypeId) × (each : TypeId) × (o ≡ Some (Array at each))
sequence_is (Some (Array at each)) h s = (at, each, refl)
sequence_is o h (inl e) = absurd (not_true (sym (ap is_solid e) ∙ h))
sequence_is (Some (DynamicArray element)) h (inr s) = absurd (not_true h)
sequence_is (Some (OpenArray element)) h (inr s) = absurd (not_true h)
sequence_is _ h (inr s) = absurd s

measured_word : (function : Function) (range : Option (ℤ × ℤ)) (n : ℤ) → ((ends : ℤ × ℤ) → range ≡ Some ends → IsWord ends.0 × IsWord ends.1) → (function ≡ Length → values_of range < 2 ^ 31) → measured_by function range ≡ Some n → IsWord n
measured_word Low (Some ends) n words few e = subst IsWord (same_Some _ _ e) (words ends refl).0
measured_word High (Some ends) n words few e = subst IsWord (same_Some _ _ e) (words ends refl).1
measured_word Length (Some ends) n words few e = let less = few refl in subst IsWord (same_Some _ _ e) (omega (arith, ints, less))
measured_word _ _ n words few e = absurd (none-some _ e)

text_words : (bytes : List ℕ) → IsShortText bytes → (ends : ℤ × ℤ) → Some (pos 1, pos (length bytes)) ≡ Some ends → IsWord ends.0 × IsWord ends.1
text_words bytes short ends e = let less = short.0 in subst (λ ends. IsWord ends.0 × IsWord ends.1) (same_Some _ _ e) (omega (arith, ints), omega (arith, ints, less))

module _ (core : Core) (sound : IsSound core) (simple : IsSimpleProgram core) (r : ℕ) where
  moved_typed : (o : Operator) (distance : ℤ) → IsWord distance → (checked : Bool) (of : TypeId) (t : Option CoreType) (n : ℕ) → AreTyped core r (acts (moved core o distance checked of t n))
  moved_typed o distance near checked of (Some (Integer Signed32)) n = (omega (arith, ints), (tt, tt))
  moved_typed o distance near checked of t n = ((near, fits _ (low_word core sound of), fits _ (high_word core sound of)), tt)

  pub applied_typed : (function : Function) (checked : Bool) (of : TypeId) (t : ℕ) → AreTyped core r (acts (applied core function checked of t))
  applied_typed Succ checked of t = moved_typed Add (pos 1) (omega (arith, ints)) checked of (type_at core of) t
  applied_typed Pred checked of t = moved_typed Subtract (negsuc 0) (omega (arith, ints)) checked of (type_at core of) t
  applied_typed Abs checked of t = (tt, tt)
  applied_typed Sqr checked of t = (tt, tt)
  applied_typed Odd checked of t = (tt, tt)
  applied_typed UpCase checked of t = (tt, tt)
  applied_typed _ checked of t = tt

  -- ---- conversions

  converted_by_typed : (c : Conversion) (to : TypeId) (o : Option CoreType) (t : ℕ) → AreTyped core r (acts (converted_by core c to o t))
  converted_by_typed LowBits to (Some (Integer kind)) t = (tt, tt)
  converted_by_typed LowBits to (Some Char) t = (tt, tt)
  converted_by_typed Check to (Some (Set base)) t = (tt, tt)
  converted_by_typed Check to o t = ((fits _ (low_word core sound to), fits _ (high_word core sound to)), tt)
  converted_by_typed _ to o t = tt

  pub converted_typed : (c : Conversion) (to : TypeId) (t : ℕ) → AreTyped core r (acts (converted core c to t))
  converted_typed c to t = converted_by_typed c to (type_at core to) t

  -- ---- bounds and lengths

  counted_few : (function : Function) (of to : TypeId) → IsSolidType core of → Applies core function of to → function ≡ Length → values_of (range_of (type_at core (counted_of core of))) < 2 ^ 31
  counted_few function of to solid applies is =
      let applies : Applies core Length of to = subst (λ f. Applies core f of to) is applies in
      let (at, each, e) = sequence_is (type_at core of) solid applies.0 in
      let few = simple.arrays of.0 (Array at each) e in
      let counted : counted_of core of ≡ at = ap (counted_by of) e in
      subst (λ c. values_of (range_of (type_at core c)) < 2 ^ 31) (sym counted) few

  -- what is measured has 32 bits
  pub measure_word : (function : Function) (of to : TypeId) (now : Now) (n : ℤ) → IsSolidType core of → Applies core function of to → ((bytes : List ℕ) → now ≡ a_text bytes → IsShortText bytes) → measured core function of now ≡ Some n → IsWord n
  measure_word function of to (a_text bytes) n solid applies texts e = text_word function bytes n (texts bytes refl) e
    where
      text_word : (function : Function) (bytes : List ℕ) (n : ℤ) → IsShortText bytes → measured_by function (Some (pos 1, pos (length bytes))) ≡ Some n → IsWord n
      text_word function bytes n short e = let less = short.0 in measured_word function (Some (pos 1, pos (length bytes))) n (text_words bytes short) (λ is. omega (arith, ints, less)) e
  measure_word function of to ready n solid applies texts e = measured_word function (range_of (type_at core (counted_of core of))) n (range_words core sound (counted_of core of)) (counted_few function of to solid applies) e
  measure_word function of to (at_path p) n solid applies texts e = measured_word function (range_of (type_at core (counted_of core of))) n (range_words core sound (counted_of core of)) (counted_few function of to solid applies) e
