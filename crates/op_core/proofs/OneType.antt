-- Types that are one: each with itself, both ways, over a third, and while the table of types grows.
use Rattle.std.proofs.Common.{◌≡◌, inl, inr, ◌⊎◌, ℕ, suc, ◌≤◌, Bool, true, false, ◌||◌, List, [], ◌∷◌, ◌++◌, length, nat_eq, slice_get, IsTrue, Option, Some, None, refl, sym, ap, subst, length-append, arith}
use Rattle.std.proofs.lemmas.Bool.{and_from, and_parts, eqb-true, eq-eqb, false≢true, or_cases}
use Rattle.op_base.proofs.Lists.{stays_front}
use Rattle.op_core.specs.Heading.{same_kind, same_mode, same_parameter, same_parameters, same_result}
use Rattle.op_core.specs.Types.{are_one, elements, is_one_type, true_of}
use Rattle.op_core.specs.Typing.{element_of}
use Rattle.op_core.specs.declared.ids.TypeId.{TypeId}
use Rattle.op_core.specs.declared.routine.Parameter.{Parameter}
use Rattle.op_core.specs.declared.types.CoreType.{CoreType}
use Rattle.op_core.specs.declared.types.CoreType.TheVariants.{DynamicArray, OpenArray}
use Rattle.op_tree.specs.declared.heading.ParameterMode.{ParameterMode}
use Rattle.op_tree.specs.declared.heading.ParameterMode.TheVariants.{Value, Var, Const_, Out}
use Rattle.op_tree.specs.declared.heading.RoutineKind.{RoutineKind}
use Rattle.op_tree.specs.declared.heading.RoutineKind.TheVariants.{Procedure, Function, Constructor, Destructor}

-- ---- by relations

-- arrays without bounds, of these elements
data Arrays : Option CoreType → Option CoreType → TypeId → TypeId → Type 0 where
  dynamic : {a b : TypeId} → Arrays (Some (DynamicArray a)) (Some (DynamicArray b)) a b
  without_bounds : {a b : TypeId} → Arrays (Some (OpenArray a)) (Some (OpenArray b)) a b

data Are (types : List CoreType) : ℕ → TypeId → TypeId → Type 0 where
  same : {n : ℕ} {a b : TypeId} → a ≡ b → Are types n a b
  within : {n : ℕ} {a b x y : TypeId} → Arrays (slice_get types a.0) (slice_get types b.0) x y → Are types n x y → Are types (suc n) a b

arrays_of : (f : TypeId → TypeId → Bool) (o p : Option CoreType) → true_of f (elements o p) ≡ true → (x : TypeId) × (y : TypeId) × Arrays o p x y × (f x y ≡ true)
arrays_of f (Some (DynamicArray a)) (Some (DynamicArray b)) e = (a, b, dynamic, e)
arrays_of f (Some (OpenArray a)) (Some (OpenArray b)) e = (a, b, without_bounds, e)
arrays_of f _ _ e = absurd (false≢true e)

of_arrays : (f : TypeId → TypeId → Bool) {o p : Option CoreType} {x y : TypeId} → Arrays o p x y → f x y ≡ true → true_of f (elements o p) ≡ true
of_arrays f dynamic e = e
of_arrays f without_bounds e = e

pub by_number : (a b : TypeId) → nat_eq a.0 b.0 ≡ true → a ≡ b
by_number a b e = ap (λ n. record { 0 = n }) (eqb-true a.0 b.0 e)

or_right : (x : Bool) {y : Bool} → y ≡ true → (x || y) ≡ true
or_right true e = refl
or_right false e = e

turned : {o p : Option CoreType} {x y : TypeId} → Arrays o p x y → Arrays p o y x
turned dynamic = dynamic
turned without_bounds = without_bounds

joined : {o p q : Option CoreType} {x y z w : TypeId} → Arrays o p x y → Arrays p q z w → (y ≡ z) × Arrays o q x w
joined dynamic dynamic = (refl, dynamic)
joined without_bounds without_bounds = (refl, without_bounds)

at : {o p q r : Option CoreType} {x y : TypeId} → q ≡ o → r ≡ p → Arrays o p x y → Arrays q r x y
at {o} {p} {q} {r} {x} {y} e f t = subst (λ q. Arrays q r x y) (sym e) (subst (λ r. Arrays o r x y) (sym f) t)

-- where both types stay
kept : {o p q r : Option CoreType} {x y : TypeId} → ((t : CoreType) → o ≡ Some t → q ≡ Some t) → ((t : CoreType) → p ≡ Some t → r ≡ Some t) → Arrays o p x y → Arrays q r x y
kept f g (dynamic {a = a} {b = b}) = at (f (DynamicArray a) refl) (g (DynamicArray b) refl) dynamic
kept f g (without_bounds {a = a} {b = b}) = at (f (OpenArray a) refl) (g (OpenArray b) refl) without_bounds

inner : {o p : Option CoreType} {x y z : TypeId} → Arrays o p x y → element_of o ≡ Some z → (x ≡ z) × (element_of p ≡ Some y)
inner (dynamic) e = (cc, refl)
inner (without_bounds) e = (cc, refl)

are_of : (steps types : List CoreType) (a b : TypeId) → are_one steps types a b ≡ true → Are types (length steps) a b
are_of [] types a b e = same (by_number a b e)
are_of (s ∷ ss) types a b e = one (are_of ss types) (or_cases _ _ e)
  where
    one : ((x y : TypeId) → are_one ss types x y ≡ true → Are types (length ss) x y) → (nat_eq a.0 b.0 ≡ true) ⊎ (true_of (are_one ss types) (elements (slice_get types a.0) (slice_get types b.0)) ≡ true) → Are types (suc (length ss)) a b
    one f (inl e) = same (by_number a b e)
    one f (inr t) = let x = arrays_of (are_one ss types) (slice_get types a.0) (slice_get types b.0) t in within x.2 (f x.0 x.1 x.3)

one_of : (steps types : List CoreType) {n : ℕ} {a b : TypeId} → n ≤ length steps → Are types n a b → are_one steps types a b ≡ true
one_of [] types {a} {b} le (same e) = eq-eqb a.0 b.0 (ap (λ t. t.0) e)
one_of [] types le (within t h) = absurd (omega arith)
one_of (s ∷ ss) types {a} {b} le (same e) = ap (λ x. x || true_of (are_one ss types) (elements (slice_get types a.0) (slice_get types b.0))) (eq-eqb a.0 b.0 (ap (λ t. t.0) e))
one_of (s ∷ ss) types {a} {b} le (within t h) = or_right (nat_eq a.0 b.0) (of_arrays (are_one ss types) t (one_of ss types (omega arith) h))

back : {types : List CoreType} {n : ℕ} {a b : TypeId} → Are types n a b → Are types n b a
back (same e) = same (sym e)
back (within t h) = within (turned t) (back h)

moved : {types : List CoreType} {n : ℕ} {a b c : TypeId} → a ≡ b → Are types n b c → Are types n a c
moved {types} {n} {c = c} e k = subst (λ a. Are types n a c) (sym e) k

over : {types : List CoreType} {n : ℕ} {a b c : TypeId} → Are types n a b → Are types n b c → Are types n a c
over (same e) k = moved e k
over (within t h) (same e) = back (moved (sym e) (within (turned t) (back h)))
over (within t h) (within u k) = let j = joined t u in within j.1 (over h (moved j.0 k))

grown : {old new : List CoreType} {n : ℕ} {a b : TypeId} → ((k : ℕ) (t : CoreType) → slice_get old k ≡ Some t → slice_get new k ≡ Some t) → Are old n a b → Are new n a b
grown stays (same e) = same e
grown stays (within {a = a} {b = b} t h) = within (kept (stays a.0) (stays b.0) t) (grown stays h)

-- ---- of a table

pub one_itself : (types : List CoreType) (a : TypeId) → IsTrue (is_one_type types a a)
one_itself types a = one_of types types {n = 0} (omega arith) (same refl)

pub one_back : (types : List CoreType) (a b : TypeId) → IsTrue (is_one_type types a b) → IsTrue (is_one_type types b a)
one_back types a b h = one_of types types (omega arith) (back (are_of types types a b h))

pub one_through : (types : List CoreType) (a b c : TypeId) → IsTrue (is_one_type types a b) → IsTrue (is_one_type types b c) → IsTrue (is_one_type types a c)
one_through types a b c h k = one_of types types (omega arith) (over (are_of types types a b h) (are_of types types b c k))

pub one_grows : (old more : List CoreType) (a b : TypeId) → IsTrue (is_one_type old a b) → IsTrue (is_one_type (old ++ more) a b)
one_grows old more a b h = one_of (old ++ more) (old ++ more) (omega (arith, length-append old more)) (grown (stays_front old more) (are_of old old a b h))

inside : {types : List CoreType} {n : ℕ} {a b z : TypeId} → n ≤ length types → Are types n a b → element_of (slice_get types a.0) ≡ Some z → (y : TypeId) × (element_of (slice_get types b.0) ≡ Some y) × IsTrue (is_one_type types z y)
inside {types} {z = z} le (same s) e = (z, subst (λ b. element_of (slice_get types b.0) ≡ Some z) s e, one_itself types z)
inside {types} le (within {y = y} t h) e = let i = inner t e in (y, i.1, one_of types types (omega arith) (moved (sym i.0) h))

-- their elements too
pub one_inside : (types : List CoreType) (a b z : TypeId) → IsTrue (is_one_type types a b) → element_of (slice_get types a.0) ≡ Some z → (y : TypeId) × (element_of (slice_get types b.0) ≡ Some y) × IsTrue (is_one_type types z y)
one_inside types a b z h e = inside (omega arith) (are_of types types a b h) e

-- ---- of headings

pub mode_is : (a b : ParameterMode) → same_mode a b ≡ true → a ≡ b
mode_is Value Value e = refl
mode_is Var Var e = refl
mode_is Const_ Const_ e = refl
mode_is Out Out e = refl
mode_is _ _ e = absurd (false≢true e)

pub kind_is : (a b : RoutineKind) → same_kind a b ≡ true → a ≡ b
kind_is Procedure Procedure e = refl
kind_is Function Function e = refl
kind_is Constructor Constructor e = refl
kind_is Destructor Destructor e = refl
kind_is _ _ e = absurd (false≢true e)

pub kind_itself : (k : RoutineKind) → same_kind k k ≡ true
kind_itself Procedure = refl
kind_itself Function = refl
kind_itself Constructor = refl
kind_itself Destructor = refl

pub result_itself : (types : List CoreType) (a : Option TypeId) → same_result types a a ≡ true
result_itself types None = refl
result_itself types (Some a) = one_itself types a

pub result_through : (types : List CoreType) (a b c : Option TypeId) → same_result types a b ≡ true → same_result types b c ≡ true → same_result types a c ≡ true
result_through types None None None e f = refl
result_through types (Some a) (Some b) (Some c) e f = one_through types a b c e f
result_through types None (Some b) c e f = absurd (false≢true e)
result_through types (Some a) None c e f = absurd (false≢true e)
result_through types None None (Some c) e f = absurd (false≢true f)
result_through types (Some a) (Some b) None e f = absurd (false≢true f)

pub result_grows : (old more : List CoreType) (a b : Option TypeId) → same_result old a b ≡ true → same_result (old ++ more) a b ≡ true
result_grows old more None None e = refl
result_grows old more (Some a) (Some b) e = one_grows old more a b e
result_grows old more None (Some b) e = absurd (false≢true e)
result_grows old more (Some a) None e = absurd (false≢true e)

mode_itself : (m : ParameterMode) → same_mode m m ≡ true
mode_itself Value = refl
mode_itself Var = refl
mode_itself Const_ = refl
mode_itself Out = refl

pub parameters_themselves : (types : List CoreType) (ps : List Parameter) → same_parameters types ps ps ≡ true
parameters_themselves types [] = refl
parameters_themselves types (p ∷ ps) = and_from _ _ (and_from _ _ (mode_itself p.mode) (one_itself types p.of)) (parameters_themselves types ps)

parameter_through : (types : List CoreType) (p q r : Parameter) → same_parameter types p q ≡ true → same_parameter types q r ≡ true → same_parameter types p r ≡ true
parameter_through types p q r e f =
    let a = and_parts _ _ e in
    let b = and_parts _ _ f in
    and_from _ _ (subst (λ m. same_mode p.mode m ≡ true) (mode_is q.mode r.mode b.0) a.0) (one_through types p.of q.of r.of a.1 b.1)

pub parameters_through : (types : List CoreType) (ps qs rs : List Parameter) → same_parameters types ps qs ≡ true → same_parameters types qs rs ≡ true → same_parameters types ps rs ≡ true
parameters_through types [] [] rs e f = f
parameters_through types (p ∷ ps) (q ∷ qs) (r ∷ rs) e f =
    let a = and_parts _ _ e in
    let b = and_parts _ _ f in
    and_from _ _ (parameter_through types p q r a.0 b.0) (parameters_through types ps qs rs a.1 b.1)
parameters_through types [] (q ∷ qs) rs e f = absurd (false≢true e)
parameters_through types (p ∷ ps) [] rs e f = absurd (false≢true e)
parameters_through types (p ∷ ps) (q ∷ qs) [] e f = absurd (false≢true f)

pub parameters_grow : (old more : List CoreType) (ps qs : List Parameter) → same_parameters old ps qs ≡ true → same_parameters (old ++ more) ps qs ≡ true
parameters_grow old more [] [] e = refl
parameters_grow old more (p ∷ ps) (q ∷ qs) e =
    let a = and_parts _ _ e in
    let b = and_parts _ _ a.0 in
    and_from _ _ (and_from _ _ b.0 (one_grows old more p.of q.of b.1)) (parameters_grow old more ps qs a.1)
parameters_grow old more [] (q ∷ qs) e = absurd (false≢true e)
parameters_grow old more (p ∷ ps) [] e = absurd (false≢true e)
