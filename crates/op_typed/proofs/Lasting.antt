-- What is so in a program is so in every later one, whatever facts and needs it is made of.
use Rattle.std.proofs.Common.{◌≡◌, Bool, true, false, List, [], ◌∷◌, map, IsSomeAnd, IsTrue, Option, Some, None, refl, sym, subst, ◌∙◌}
use Rattle.std.proofs.lemmas.Bool.{and_from, and_parts, false≢true}
use Rattle.std.proofs.lemmas.List.Elements.{All-weaker}
use Rattle.std.specs.List.{All, Contains}
use Rattle.op_core.proofs.Agreeing.{either_by}
use Rattle.op_core.proofs.Growing.{front_fit, front_row, front_rows, front_stays, front_there, of_some, one_on, some_and, stay_there}
use Rattle.op_core.proofs.OneType.{mode_is, one_back, one_inside, one_itself, one_through}
use Rattle.op_core.specs.Needs.{Callee, Need, IsMet, Fact, GivesType, IsCalled, IsPassed, IsSo, IsValued, OneType, ArePassed, Passing, Passings, Sees, Valued, always, as_array, as_list, asks_for, both, by_place, by_value, calls, class_such, constructor, descends, each, either, element_of, exception, extends, fact, field_of, fields_such, four, four_of, has_field, has_form, has_method, has_part, host, hosted, implements, interface_such, is_place, is_place_after, is_variable, leads_on, may_call, may_name, method_giving, no_passings, of_given, of_kind, of_option, of_part, one_type, opens, part_is, passings, placed, plain_routine, some, takes_place, three, three_of, two_of, type_there, value_of, valued, where_so}
use Rattle.op_core.specs.Expression.{Expression, expression, Steps, no_steps, steps, Action, field, index}
use Rattle.op_core.specs.Growing.{Grows, SameRoutine, SeesMore}
use Rattle.op_core.specs.Heading.{same_parameter, same_parameters, same_result}
use Rattle.op_core.specs.Members.{There, Kind, Descends, Extends, Implements, HasField, HasMethod, AsksFor, InRun, methods_of}
use Rattle.op_core.specs.Rows.{rows}
use Rattle.op_core.specs.Sizes.{type_at}
use Rattle.op_core.specs.declared.ids.ClassId.{ClassId}
use Rattle.op_core.specs.declared.ids.FieldId.{FieldId}
use Rattle.op_core.specs.declared.ids.InterfaceId.{InterfaceId}
use Rattle.op_core.specs.declared.ids.RoutineId.{RoutineId}
use Rattle.op_core.specs.declared.ids.TypeId.{TypeId}
use Rattle.op_core.specs.declared.program.Core.{Core}
use Rattle.op_core.specs.declared.routine.Parameter.{Parameter}
use Rattle.op_core.specs.declared.routine.Routine.{Routine}
use Rattle.op_core.specs.declared.types.CoreType.{CoreType}
use Rattle.op_core.specs.declared.types.CoreType.TheVariants.{String, Subrange, Record, Array, DynamicArray, OpenArray, Class}

-- ---- types

raise : {A : Type 0} (P : Option A → Type 0) (o q : Option A) → (P None → ⊥) → ((t : A) → o ≡ Some t → q ≡ Some t) → P o → P q
raise P None q never k p = absurd (never p)
raise P (Some t) q never k p = subst P (sym (k t refl)) p

kind_lasts : {old new : Core} → Grows old new → (of : TypeId) (t : CoreType) → Kind old of t → Kind new of t
kind_lasts g of t e = front_stays g.types of.0 t e

-- what is said of the row of a type
form_lasts : {old new : Core} (P : Option CoreType → Type 0) → (P None → ⊥) → Grows old new → (of : TypeId) → P (type_at old of) → P (type_at new of)
form_lasts {old} {new} P never g of p = raise P (type_at old of) (type_at new of) never (kind_lasts g of) p

part_lasts : {A : Type 0} {old new : Core} (p : Option CoreType → Option A) → p None ≡ None → Grows old new → (of : TypeId) (a : A) → p (type_at old of) ≡ Some a → p (type_at new of) ≡ Some a
part_lasts p none g of a h = form_lasts (λ t. p t ≡ Some a) (λ e. missing (sym none ∙ e)) g of h
  where
    missing : {A : Type 0} {a : A} → None ≡ Some a → ⊥
    missing e = absurd (cc)

of_part_lasts : {A : Type 0} {old new : Core} (p : Option CoreType → Option A) → p None ≡ None → Grows old new → (of : TypeId) {P Q : A → Type 0} → ((a : A) → P a → Q a) → IsSomeAnd (p (type_at old of)) P → IsSomeAnd (p (type_at new of)) Q
of_part_lasts {old = old} p none g of {P} {Q} f h = of_some P _ (p (type_at old of)) (λ a e k. some_and Q (part_lasts p none g of a e) (f a k)) h

hosted_lasts : {old new : Core} (test : Option CoreType → Bool) → test None ≡ false → Grows old new → (of : TypeId) → IsTrue (test (host old (type_at old of))) → IsTrue (test (host new (type_at new of)))
hosted_lasts {old} {new} test none g of h = form_lasts (λ t. IsTrue (test (host new t))) never g of (go (type_at old of) h)
  where
    never : IsTrue (test None) → ⊥
    never e = false≢true (sym none ∙ e)

    go : (t : Option CoreType) → IsTrue (test (host old t)) → IsTrue (test (host new t))
    go (Some (Subrange base low high)) h = form_lasts (λ t. IsTrue (test t)) never g base h
    go None h = h
    go (Some _) h = h

-- ---- members

descends_lasts : {old new : Core} → new.classes ≡ old.classes → {c d : ClassId} → Descends old c d → Descends new c d
descends_lasts e Descends.itself = Descends.itself
descends_lasts e (Descends.further {c = c} {a = a} t h) = Descends.further (subst (λ classes. There classes c.0 (λ x. x.ancestor ≡ Some a)) (sym e) t) (descends_lasts e h)

extends_lasts : {old new : Core} → new.interfaces ≡ old.interfaces → {i j : InterfaceId} → Extends old i j → Extends new i j
extends_lasts e Extends.itself = Extends.itself
extends_lasts e (Extends.further {i = i} {a = a} t h) = Extends.further (subst (λ faces. There faces i.0 (λ x. x.ancestor ≡ Some a)) (sym e) t) (extends_lasts e h)

implements_lasts : {old new : Core} {c : ClassId} {i : InterfaceId} → Grows old new → Implements old c i → Implements new c i
implements_lasts {old} {new} g h = record {
  lister = h.lister;
  descends = descends_lasts g.classes h.descends;
  listed = h.listed;
  lists = subst (λ listed. There new.classes h.lister.0 (λ x. Contains (rows listed x.interfaces) h.listed)) (sym g.listed) (subst (λ classes. There classes h.lister.0 (λ x. Contains (rows old.listed x.interfaces) h.listed)) (sym g.classes) h.lists);
  extends = extends_lasts g.interfaces h.extends;
}

has_field_lasts : {old new : Core} {c : ClassId} {f : FieldId} → Grows old new → HasField old c f → HasField new c f
has_field_lasts {f} g h = record {
  owner = h.owner;
  descends = descends_lasts g.classes h.descends;
  declares = subst (λ classes. There classes h.owner.0 (λ x. InRun x.fields f.0)) (sym g.classes) h.declares;
}

has_method_lasts : {old new : Core} {c : ClassId} {r : RoutineId} → Grows old new → HasMethod old c r → HasMethod new c r
has_method_lasts {old} {new} {r} g h = record {
  owner = h.owner;
  descends = descends_lasts g.classes h.descends;
  declares = subst (λ methods. There new.classes h.owner.0 (λ x. Contains (map (λ m. m.routine) (rows methods x.methods)) r)) (sym g.methods) (subst (λ classes. There classes h.owner.0 (λ x. Contains (methods_of old x.methods) r)) (sym g.classes) h.declares);
}

asks_for_lasts : {old new : Core} {i : InterfaceId} {r : RoutineId} → Grows old new → AsksFor old i r → AsksFor new i r
asks_for_lasts {old} {new} {r} g h = record {
  owner = h.owner;
  extends = extends_lasts g.interfaces h.extends;
  declares = subst (λ methods. There new.interfaces h.owner.0 (λ x. Contains (map (λ m. m.routine) (rows methods x.methods)) r)) (sym g.methods) (subst (λ faces. There faces h.owner.0 (λ x. Contains (methods_of old x.methods) r)) (sym g.interfaces) h.declares);
}

-- ---- places

leads_more : (chars : Bool) (t : Option CoreType) (a : Action) (b c : Bool) → (b ≡ true → c ≡ true) → leads_on chars t a b ≡ true → leads_on chars t a c ≡ true
leads_more chars (Some (Class d)) (field f) b c k h = refl
leads_more chars (Some (Record fields)) (field f) b c k h = k h
leads_more chars (Some (Array at element)) (index i) b c k h = k h
leads_more chars (Some (OpenArray element)) (index i) b c k h = k h
leads_more chars (Some (DynamicArray element)) (index i) b c k h = refl
leads_more chars (Some String) (index i) b c k h = let p = and_parts chars b h in and_from chars c p.0 (k p.1)
leads_more chars _ _ b c k h = absurd (false≢true h)

place_after : {old new : Core} → Grows old new → (chars : Bool) (of : TypeId) (others : Steps) (b c : Bool) → (b ≡ true → c ≡ true) → is_place_after chars old of others b ≡ true → is_place_after chars new of others c ≡ true
place_after g chars of no_steps b c k h = k h
place_after {old} {new} g chars of (steps a next others) b c k h =
    place_after g chars next others _ _ (λ e. form_lasts (λ t. leads_on chars t a c ≡ true) false≢true g of (leads_more chars (type_at old of) a b c k e)) h

place_lasts : {old new : Core} → Grows old new → (chars : Bool) (e : Expression) → IsTrue (is_place chars old e) → IsTrue (is_place chars new e)
place_lasts g chars (expression root of others) h = place_after g chars of others (is_variable root) (is_variable root) (λ e. e) h

-- ---- facts

some_weaker : {A : Type 0} {P Q : A → Type 0} (o : Option A) → ((a : A) → P a → Q a) → IsSomeAnd o P → IsSomeAnd o Q
some_weaker None f h = h
some_weaker (Some a) f h = f a h

pub fact_lasts : {old new : Core} → Grows old new → (f : Fact) → IsSo old f → IsSo new f
fact_lasts g (always P) h = h
fact_lasts g (both a b) h = (fact_lasts g a h.0, fact_lasts g b h.1)
fact_lasts g (three a b c) h = (fact_lasts g a h.0, fact_lasts g b h.1, fact_lasts g c h.2)
fact_lasts g (four a b c d) h = (fact_lasts g a h.0, fact_lasts g b h.1, fact_lasts g c h.2, fact_lasts g d h.3)
fact_lasts g (either a b) h = either_by (fact_lasts g a) (fact_lasts g b) h
fact_lasts g (some f) h = (h.0, fact_lasts g (f h.0) h.1)
fact_lasts g (where_so P f) h = λ p. fact_lasts g f (h p)
fact_lasts g (of_given o f) h = some_weaker o (λ a. fact_lasts g (f a)) h
fact_lasts g (of_kind of t) h = kind_lasts g of t h
fact_lasts g (has_form P never of) h = form_lasts P never g of h
fact_lasts g (has_part p none of f) h = of_part_lasts p none g of (λ a. fact_lasts g (f a)) h
fact_lasts g (part_is p none of a) h = part_lasts p none g of a h
fact_lasts g (hosted test none of) h = hosted_lasts test none g of h
fact_lasts g (one_type a b) h = one_on a b g.types h
fact_lasts g (type_there of) h = front_row g.types h
fact_lasts g (field_of f of) h = front_there (λ x. x.of ≡ of) g.fields f.0 h
fact_lasts g (fields_such run P) h = (front_fit run g.fields h.0, subst (All P) (sym (front_rows run g.fields h.0)) h.1)
fact_lasts g (class_such c P) h = subst (λ classes. There classes c.0 P) (sym g.classes) h
fact_lasts g (interface_such i P) h = subst (λ faces. There faces i.0 P) (sym g.interfaces) h
fact_lasts g (descends c d) h = descends_lasts g.classes h
fact_lasts g (extends i j) h = extends_lasts g.interfaces h
fact_lasts g (implements c i) h = implements_lasts g h
fact_lasts g (has_field c f) h = has_field_lasts g h
fact_lasts g (has_method c r) h = has_method_lasts g h
fact_lasts g (asks_for i r) h = asks_for_lasts g h
fact_lasts {old} {new} g (exception c) h = subst (λ x. IsSomeAnd x (λ x. Descends new c x.exception)) (sym g.exceptions) (some_weaker old.exceptions (λ x d. descends_lasts g.classes d) h)
fact_lasts g (placed chars e) h = place_lasts g chars e h

-- ---- calls

gives_lasts : {old new : Core} → Grows old new → (a b : Option TypeId) (of : TypeId) → same_result new.types a b ≡ true → GivesType old a of → GivesType new b of
gives_lasts g None None of e h = kind_lasts g of _ h
gives_lasts {new} g (Some a) (Some b) of e h = one_through new.types b a of (one_back new.types a b e) (one_on a of g.types h)
gives_lasts g None (Some b) of e h = absurd (false≢true e)
gives_lasts g (Some a) None of e h = absurd (false≢true e)

opens_lasts : {old new : Core} → Grows old new → (p q of : TypeId) → OneType new p q → IsSo old (opens p of) → IsSo new (opens q of)
opens_lasts {old} {new} g p q of same h =
    of_some _ _ (element_of (type_at new p)) (λ a e k. of_some _ _ (element_of (type_at new of)) (λ b d o.
    let x = one_inside new.types p q a same e in
    some_and _ x.1 (some_and _ d (one_through new.types x.0 a b (one_back new.types a x.0 x.2) o))) k) (fact_lasts g (opens p of) h)

called_lasts : {old new : Core} → Grows old new → (callee : Callee) {r q : Routine} {P Q : Type 0} → SameRoutine old new r q → (P → Q) → IsCalled old callee r P → IsCalled new callee q Q
called_lasts g (plain_routine to) {r} {q} k f h = (k.owner ∙ h.0, gives_lasts g r.result q.result to k.result h.1, f h.2)
called_lasts g constructor k f h = (k.kind ∙ h.0, f h.1)
called_lasts g (method_giving to) {r} {q} k f h = (gives_lasts g r.result q.result to k.result h.0, f h.1)

-- ---- needs

module _ {old new : Core} {less more : Sees} (g : Grows old new) (s : SeesMore less more) where
  mutual
    pub need_lasts : (c : Need) → IsMet old less c → IsMet new more c
    need_lasts (fact f) h = fact_lasts g f h
    need_lasts (two_of a b) h = (need_lasts a h.0, need_lasts b h.1)
    need_lasts (three_of a b c) h = (need_lasts a h.0, need_lasts b h.1, need_lasts c h.2)
    need_lasts (four_of a b c d) h = (need_lasts a h.0, need_lasts b h.1, need_lasts c h.2, need_lasts d h.3)
    need_lasts (each xs f) h = All-weaker (λ x. IsMet old less (f x)) (λ x. IsMet new more (f x)) (λ x. need_lasts (f x)) xs h
    need_lasts (of_option o f) h = some_weaker o (λ a. need_lasts (f a)) h
    need_lasts (of_part p none of f) h = of_part_lasts p none g of (λ a. need_lasts (f a)) h
    need_lasts (may_name id f) h = (s.variable id h.0, stay_there _ _ (λ v w k p. subst (λ role. IsSo new (f w.of role)) (sym k.role) (subst (λ of. IsSo new (f of v.role)) (sym k.of) (fact_lasts g (f v.of v.role) p))) g.variables id.0 h.1)
    need_lasts (may_call id) h = s.routine id h
    need_lasts (calls id callee xs) h = stay_there _ _ (λ r q k p. called_lasts g callee k (passings_last (rows old.parameters r.parameters) (rows new.parameters q.parameters) xs k.parameters) p) g.routines id.0 h
    need_lasts (value_of v of) h = value_lasts of of (one_itself new.types of) v h

    value_lasts : (a b : TypeId) → OneType new a b → (v : Valued) → IsValued old less a v → IsValued new more b v
    value_lasts a b same (valued root others from) h = (need_lasts root h.0, need_lasts others h.1, one_through new.types from a b (one_on from a g.types h.2) same)

    passing_lasts : (p q : Parameter) (x : Passing) → IsTrue (same_parameter new.types p q) → IsPassed old less p x → IsPassed new more q x
    passing_lasts p q (by_value v) k h =
        let a = and_parts _ _ k in (value_lasts p.of q.of a.1 v h.0, subst (λ m. takes_place m ≡ false) (mode_is p.mode q.mode a.0) h.1)
    passing_lasts p q (by_place v e) k h =
        let a = and_parts _ _ k in (value_lasts p.of q.of a.1 v h.0, subst (λ m. takes_place m ≡ true) (mode_is p.mode q.mode a.0) h.1, place_lasts g false e h.2)
    passing_lasts p q (as_array c of) k h = (need_lasts c h.0, opens_lasts g p.of q.of of (and_parts _ _ k).1 h.1)
    passing_lasts p q (as_list of c) k h =
        let a = and_parts _ _ k in (
          one_through new.types q.of p.of of (one_back new.types p.of q.of a.1) (one_on p.of of g.types h.0),
          subst (λ m. takes_place m ≡ false) (mode_is p.mode q.mode a.0) h.1,
          need_lasts c h.2,
        )

    passings_last : (ps qs : List Parameter) (xs : Passings) → IsTrue (same_parameters new.types ps qs) → ArePassed old less ps xs → ArePassed new more qs xs
    passings_last [] [] no_passings e h = tt
    passings_last (p ∷ ps) (q ∷ qs) (passings x xs) e h = let a = and_parts _ _ e in (passing_lasts p q x a.0 h.0, passings_last ps qs xs a.1 h.1)
    passings_last [] [] (passings x xs) e h = absurd h
    passings_last (p ∷ ps) (q ∷ qs) no_passings e h = absurd h
    passings_last [] (q ∷ qs) xs e h = absurd (false≢true e)
    passings_last (p ∷ ps) [] xs e h = absurd (false≢true e)
