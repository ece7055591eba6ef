-- What a plain program does keeps plain worlds plain, and worlds in which nothing is raised.
use Rattle.std.proofs.Common.{◌≡◌, ℕ, suc, List, [], ◌∷◌, Option, Some, None, refl, sym, ap, ◌∙◌, subst}
use Rattle.std.specs.Prelude.{ℤ, Bool, true, false, if◌then◌else◌}
use Rattle.op_core.specs.declared.program.Core.{Core}
use Rattle.op_meaning.specs.Actions.{Action, constant, load, store, copy, look, begin_with, pick, arithmetic, compare, negate, complement, invert, absolute, odd, upper, low_bits, check, neighbour, single, span, combine, contains, check_set, primitive, perform}
use Rattle.op_meaning.specs.Calls.{given_one, given_all, entered, received}
use Rattle.op_meaning.specs.Errors.{failed, stopped}
use Rattle.op_meaning.specs.Frames.{Program, Handed, a_value, a_place}
use Rattle.op_meaning.specs.Items.{Receiver, nowhere, to_temp, to_place}
use Rattle.op_meaning.specs.Paths.{at_place, place_of}
use Rattle.op_meaning.specs.Primitives.{Destination, EachOperand, Operand, Outcome, Values, behind_first, from_temp, gives, literal_text, meaning, number_of, performed, signature, text_at, text_of, values_of}
use Rattle.op_meaning.specs.Values.{Reached, reached, failing, and_then, Value, local, Place, all_of}
use Rattle.op_meaning.specs.World.{World, with_number, with_value, written, Ended}
use Rattle.op_meaning.specs.declared.primitive.Sort.{Sort}
use Rattle.op_meaning.specs.declared.primitive.Sort.TheVariants.{Numeric, Textual}
use Rattle.op_mir.specs.Plain.{IsPlainAction, IsPlainOperand, IsPlainWorld, IsUnraised}

-- ---- worlds

-- what holds of worlds whatever they hold, stand for and write
pub record IsKept (P : World → Type 0) : Type 0 where
  pub number : (t : ℕ) (n : ℤ) (w : World) → P w → P (with_number t n w)
  pub value : (q : Place) (v : Value) (w : World) → P w → P (with_value q v w)
  pub bound : (b : ℕ → ℕ → Place) (w : World) → P w → P (record w { bound = b })
  pub written : (bytes : List ℕ) (w : World) → P w → P (written bytes w)
  pub stopped : (n : ℕ) (w : World) → P w → P (stopped n w)

pub plain_kept : IsKept IsPlainWorld
plain_kept = record {
  number = λ t n w h. record { raised = h.raised; made = h.made; waiting = h.waiting };
  value = λ q v w h. record { raised = h.raised; made = h.made; waiting = h.waiting };
  bound = λ b w h. record { raised = h.raised; made = h.made; waiting = h.waiting };
  written = λ bytes w h. record { raised = h.raised; made = h.made; waiting = h.waiting };
  stopped = λ n w h. record { raised = h.raised; made = h.made; waiting = h.waiting };
}

pub unraised_kept : IsKept IsUnraised
unraised_kept = record {
  number = λ t n w h. record { raised = h.raised; waiting = h.waiting };
  value = λ q v w h. record { raised = h.raised; waiting = h.waiting };
  bound = λ b w h. record { raised = h.raised; waiting = h.waiting };
  written = λ bytes w h. record { raised = h.raised; waiting = h.waiting };
  stopped = λ n w h. record { raised = h.raised; waiting = h.waiting };
}

kept_if : (P : World → Type 0) (b : Bool) (v w : World) → P v → P w → P (if b then v else w)
kept_if P true v w hv hw = hv
kept_if P false v w hv hw = hw

-- ---- errors

-- an error ends the program
pub failed_stops : (core : Core) → core.exceptions ≡ None → (n : ℕ) (w : World) → failed core n w ≡ stopped n w
failed_stops core e n w = rw e

pub failed_ended : (core : Core) → core.exceptions ≡ None → (n : ℕ) (w : World) → (failed core n w).ending ≡ Ended n
failed_ended core e n w = ap (λ v. v.ending) (failed_stops core e n w)

module _ (P : World → Type 0) (kept : IsKept P) (core : Core) (e : core.exceptions ≡ None) where
  kept_failed : (n : ℕ) (w : World) → P w → P (failed core n w)
  kept_failed n w h = subst P (sym (failed_stops core e n w)) (kept.stopped n w h)

  kept_at_place : (q : Reached Place) (f : Place → World) (w : World) → ((x : Place) → P (f x)) → P w → P (at_place core q f w)
  kept_at_place (failing error) f w hf h = kept_failed error w h
  kept_at_place (reached x) f w hf h = hf x

  kept_or_failed : (b : Bool) (n : ℕ) (v w : World) → P v → P w → P (if b then v else failed core n w)
  kept_or_failed b n v w hv h = kept_if P b v (failed core n w) hv (kept_failed n w h)

  failed_or_kept : (b : Bool) (n : ℕ) (v w : World) → P v → P w → P (if b then failed core n w else v)
  failed_or_kept b n v w hv h = kept_if P b (failed core n w) v (kept_failed n w h) hv

  kept_performed : (sort : Option Sort) → sort ≡ None → (to : Destination) (o : Reached (Outcome sort)) (w : World) → P w → P (performed core to o w)
  kept_performed None is to (reached o) w h = kept.written o.bytes w h
  kept_performed None is to (failing error) w h = kept_failed error w h
  kept_performed (Some sort) is to o w h = absurd cc

  pub kept_perform : (held : ℕ → ℕ) (a : Action) (w : World) → IsPlainAction a → P w → P (perform core held a w)
  unfolding perform
  kept_perform held (constant to n) w plain h = kept.number to _ w h
  kept_perform held (load to kind from) w plain h = kept_at_place (place_of w from) _ w (λ q. kept.number to _ w h) h
  kept_perform held (store to kind from) w plain h = kept_at_place (place_of w to) _ w (λ q. kept.value q _ w h) h
  kept_perform held (copy of to from) w plain h = kept_at_place (place_of w from) _ w (λ q. kept_at_place (place_of w to) _ w (λ x. kept.value x _ w h) h) h
  kept_perform held (look at) w plain h = kept_at_place (place_of w at) _ w (λ q. h) h
  kept_perform held (begin_with v of value) w plain h = kept.value (all_of (local w.depth v)) _ w h
  kept_perform held (pick to chars index) w plain h = kept_or_failed _ 201 _ w (kept.number to _ w h) h
  kept_perform held (arithmetic o checked to a b) w plain h = failed_or_kept _ 200 _ w (failed_or_kept _ 215 _ w (kept.number to _ w h) h) h
  kept_perform held (compare o to a b) w plain h = kept.number to _ w h
  kept_perform held (negate checked to a) w plain h = failed_or_kept _ 215 _ w (kept.number to _ w h) h
  kept_perform held (complement to a) w plain h = kept.number to _ w h
  kept_perform held (invert to a) w plain h = kept.number to _ w h
  kept_perform held (absolute checked to a) w plain h = failed_or_kept _ 215 _ w (kept.number to _ w h) h
  kept_perform held (odd to a) w plain h = kept.number to _ w h
  kept_perform held (upper to a) w plain h = kept.number to _ w h
  kept_perform held (low_bits kind to a) w plain h = kept.number to _ w h
  kept_perform held (check low high to a) w plain h = kept_or_failed _ 201 _ w (kept.number to _ w h) h
  kept_perform held (neighbour distance low high to a) w plain h = kept_or_failed _ 201 _ w (kept.number to _ w h) h
  kept_perform held (single to a) w plain h = kept.number to _ w h
  kept_perform held (span to a b) w plain h = kept.number to _ w h
  kept_perform held (combine o to a b) w plain h = kept.number to _ w h
  kept_perform held (contains to a b) w plain h = kept.number to _ w h
  kept_perform held (check_set all to a) w plain h = kept_or_failed _ 201 _ w (kept.number to _ w h) h
  kept_perform held (primitive p operands to) w plain h = kept_performed (gives p) plain.0 to (and_then (values_of held w (signature p) operands) (meaning p)) w h

  -- ---- results

  pub kept_received : (p : Program) → p.core ≡ core → (r : Receiver) (v : Value) (w : World) → P w → P (received p r v w)
  kept_received p same nowhere v w h = h
  kept_received p same (to_temp t) v w h = kept.number t _ w h
  kept_received p same (to_place of path) v w h =
      subst (λ x. P (at_place x (place_of w path) (λ q. with_value q v w) w)) (sym same)
      (kept_at_place (place_of w path) _ w (λ q. kept.value q v w h) h)

-- ---- by how many places names are held decides nothing

text_same : (m n : ℕ → ℕ) (w : World) (os : List Operand) → EachOperand IsPlainOperand os → text_of m w os ≡ text_of n w os
text_same m n w [] plain = refl
text_same m n w (from_temp t ∷ os) plain = refl
text_same m n w (text_at path ∷ os) plain = absurd plain.0
text_same m n w (literal_text bytes ∷ os) plain = refl

others_plain : (os : List Operand) → EachOperand IsPlainOperand os → EachOperand IsPlainOperand (behind_first os)
others_plain [] plain = tt
others_plain (o ∷ os) plain = plain.1

pub values_same : (m n : ℕ → ℕ) (w : World) (sorts : List Sort) (os : List Operand) → EachOperand IsPlainOperand os → values_of m w sorts os ≡ values_of n w sorts os
values_same m n w [] os plain = refl
values_same m n w (Numeric ∷ sorts) os plain = ap (λ vs. and_then vs (λ x. reached (number_of w os, x))) (values_same m n w sorts (behind_first os) (others_plain os plain))
values_same m n w (Textual ∷ sorts) os plain =
    ap (λ t. and_then t (λ v. and_then (values_of m w sorts (behind_first os)) (λ vs. reached (v, vs)))) (text_same m n w os plain)
    ∙ ap (λ vs. and_then (text_of n w os) (λ v. and_then vs (λ x. reached (v, x)))) (values_same m n w sorts (behind_first os) (others_plain os plain))

pub plain_same : (core : Core) (one other : ℕ → ℕ) (a : Action) (w : World) → IsPlainAction a → perform core one a w ≡ perform core other a w
unfolding perform
plain_same core one other (constant to n) w plain = refl
plain_same core one other (load to kind from) w plain = refl
plain_same core one other (store to kind from) w plain = refl
plain_same core one other (copy of to from) w plain = refl
plain_same core one other (look at) w plain = refl
plain_same core one other (begin_with v of value) w plain = refl
plain_same core one other (pick to chars index) w plain = refl
plain_same core one other (arithmetic o checked to a b) w plain = refl
plain_same core one other (compare o to a b) w plain = refl
plain_same core one other (negate checked to a) w plain = refl
plain_same core one other (complement to a) w plain = refl
plain_same core one other (invert to a) w plain = refl
plain_same core one other (absolute checked to a) w plain = refl
plain_same core one other (odd to a) w plain = refl
plain_same core one other (upper to a) w plain = refl
plain_same core one other (low_bits kind to a) w plain = refl
plain_same core one other (check low high to a) w plain = refl
plain_same core one other (neighbour distance low high to a) w plain = refl
plain_same core one other (single to a) w plain = refl
plain_same core one other (span to a b) w plain = refl
plain_same core one other (combine o to a b) w plain = refl
plain_same core one other (contains to a b) w plain = refl
plain_same core one other (check_set all to a) w plain = refl
plain_same core one other (primitive p operands to) w plain = ap (λ vs. performed core to (and_then vs (meaning p)) w) (values_same one other w (signature p) operands plain.1)

-- ---- what is handed over

kept_given : (P : World → Type 0) → IsKept P → (d k : ℕ) (xs : List Handed) (w : World) → P w → P (given_all d k xs w)
kept_given P kept d k [] w h = h
kept_given P kept d k (a_value v ∷ xs) w h = kept_given P kept d (suc k) xs (given_one d k (a_value v) w) (kept.value (all_of (local d k)) v w h)
kept_given P kept d k (a_place q ∷ xs) w h = kept_given P kept d (suc k) xs (given_one d k (a_place q) w) (kept.bound _ w h)

-- ---- plain worlds

pub plain_perform : (core : Core) → core.exceptions ≡ None → (held : ℕ → ℕ) (a : Action) (w : World) → IsPlainAction a → IsPlainWorld w → IsPlainWorld (perform core held a w)
plain_perform core e held a w plain h = kept_perform IsPlainWorld plain_kept core e held a w plain h

pub plain_received : (core : Core) → core.exceptions ≡ None → (p : Program) → p.core ≡ core → (r : Receiver) (v : Value) (w : World) → IsPlainWorld w → IsPlainWorld (received p r v w)
plain_received core e p same r v w h = kept_received IsPlainWorld plain_kept core e p same r v w h

pub plain_entered : (p : Program) (r : ℕ) (xs : List Handed) (w : World) → IsPlainWorld w → IsPlainWorld (entered p r xs w)
plain_entered p r xs w h = kept_given IsPlainWorld plain_kept (suc w.depth) 0 xs _ (record { raised = h.raised; made = refl; waiting = λ t. refl })

-- ---- worlds in which nothing is raised

pub unraised_perform : (core : Core) → core.exceptions ≡ None → (held : ℕ → ℕ) (a : Action) (w : World) → IsPlainAction a → IsUnraised w → IsUnraised (perform core held a w)
unraised_perform core e held a w plain h = kept_perform IsUnraised unraised_kept core e held a w plain h

pub unraised_received : (core : Core) → core.exceptions ≡ None → (p : Program) → p.core ≡ core → (r : Receiver) (v : Value) (w : World) → IsUnraised w → IsUnraised (received p r v w)
unraised_received core e p same r v w h = kept_received IsUnraised unraised_kept core e p same r v w h

pub unraised_entered : (p : Program) (r : ℕ) (xs : List Handed) (w : World) → IsUnraised w → IsUnraised (entered p r xs w)
unraised_entered p r xs w h = kept_given IsUnraised unraised_kept (suc w.depth) 0 xs _ (record { raised = h.raised; waiting = λ t. refl })
