-- First values: lists of them, and expressions in brackets.
use Rattle.std.proofs.Common.{◌≡◌, ℕ, zero, suc, ◌<◌, ◌≤◌, true, false, List, [], ◌∷◌, Option, Some, None, Result, Ok, Err, IfOk, length, slice_get, get_or, nat_lt, if◌then◌else◌, refl, sym, ap, subst, ◌∙◌, arith}
use Rattle.std.proofs.lemmas.Bool.{le-ltb, lt-ltb}
use Rattle.std.specs.Option.{option_map}
use Rattle.op_base.specs.declared.memory_error.NoMemory.{NoMemory}
use Rattle.op_base.specs.declared.place.Place.{Place}
use Rattle.op_check_stmt.proofs.Parts.{Completes, gathered, in_front, then as behind}
use Rattle.op_check_unit.specs.Initials.{by_brackets, counted, fields, first, first_expression, is_bracketed, of_type, one_value, shape_of, single, start_of_initial, starts, unless_wrong, wrong_count}
use Rattle.op_check_unit.specs.Naming.{is_name}
use Rattle.op_check_unit.specs.Types.{constant_part}
use Rattle.op_core.specs.Faults.{Checked, earlier}
use Rattle.op_core.specs.Initial.{FirstValue, first_value_of, no_values, values}
use Rattle.op_core.specs.Nodes.{first_values_of}
use Rattle.op_core.specs.declared.constant.Initial.{Initial as TypedInitial}
use Rattle.op_core.specs.declared.first_refusal.FirstRefusal.{FirstRefusal}
use Rattle.op_core.specs.declared.ids.TypeId.{TypeId}
use Rattle.op_core.specs.declared.program.Core.{Core}
use Rattle.op_core.specs.declared.types.Field.{Field}
use Rattle.op_judgement.proofs.Computed.{Reports, changed, followed, of_two}
use Rattle.op_judgement.specs.Judgement.{by, checked, fault}
use Rattle.op_judgement.specs.declared.rules.LanguageRule.{LanguageRule}
use Rattle.op_judgement.specs.declared.rules.LanguageRule.TheVariants.{NoMember}
use Rattle.op_judgement.specs.Judgement as judgement
use Rattle.op_tree.specs.Expression.{Expression, chain, prefixed, number, nil, set, literal, designated, inherited, designator, named, string, bracketed, Selectors, no_selectors, selectors}
use Rattle.op_tree.specs.Initial.{Initial, FieldInitials, field_initials, initial_of}
use Rattle.op_tree.specs.Lists.{initials_of}
use Rattle.op_tree.specs.declared.initializer.Initializer.{Initializer}
use Rattle.op_tree.specs.declared.position.Name.{Name}
use Rattle.op_tree.specs.declared.position.Position.{Position}
use Rattle.op_types.specs.ConstantParts.{start_of}
use Rattle.op_types.specs.Names.{Named}
use Rattle.op_types.specs.declared.constant.Constant.{Constant}

pub all_values : (xs : List TypedInitial) → in_front first_value_of values xs no_values ≡ first_values_of xs
all_values [] = refl
all_values (x ∷ xs) = ap (values (first_value_of x)) (all_values xs)

-- ---- lists that break a rule

gathered_nothing : {T A B : Type 0} (view : T → A) (add : A → B → B) (list : Option (List T)) → gathered view add list None ≡ None
gathered_nothing view add None = refl
gathered_nothing view add (Some xs) = refl

pub dies : {T A B : Type 0} (view : T → A) (add : A → B → B) (list : Option (List T)) (whole rest : Checked B) (old mid new : FirstRefusal) → Completes view add list whole rest old mid → Reports rest mid new None → Reports whole old new None
dies view add list whole rest old mid new c h = subst (Reports whole old new) (gathered_nothing view add list) (c.completes new None h)

pub refused_at : {T A B : Type 0} (view : T → A) (add : A → B → B) (list : Option (List T)) (whole rest : Checked B) (rule : LanguageRule) (place : Place) (old mid new : FirstRefusal) → Completes view add list whole rest old mid → rest ≡ checked (judgement.refused rule place) → new.kept ≡ earlier mid.kept (fault rule place) → Reports whole old new None
refused_at view add list whole rest rule place old mid new c e k = dies view add list whole rest old mid new c (subst (λ r. Reports r mid new None) (sym e) (refl, k))

-- ---- fields

pub next_field : (core : Core) (names : List Named) (bracket : Place) (f : Field) (fs : List Field) (n : Name) (i : Initial) (is : FieldInitials) → is_name (Some f.name) n ≡ true → checked (fields core names bracket (f ∷ fs) (field_initials n i is)) ≡ of_two values (checked (first core names f.of i)) (checked (fields core names bracket fs is))
next_field core names bracket f fs n i is e = ap (λ b. if b then of_two values (checked (first core names f.of i)) (checked (fields core names bracket fs is)) else checked (judgement.refused NoMember n.position.place)) e

pub other_field : (core : Core) (names : List Named) (bracket : Place) (f : Field) (fs : List Field) (n : Name) (i : Initial) (is : FieldInitials) → is_name (Some f.name) n ≡ false → checked (fields core names bracket (f ∷ fs) (field_initials n i is)) ≡ checked (judgement.refused NoMember n.position.place)
other_field core names bracket f fs n i is e = ap (λ b. if b then of_two values (checked (first core names f.of i)) (checked (fields core names bracket fs is)) else checked (judgement.refused NoMember n.position.place)) e

-- ---- expressions

pub alone : (core : Core) (names : List Named) (of : TypeId) (e : Expression) → is_bracketed e ≡ false → checked (first_expression core names of e) ≡ checked (single core names of e)
alone core names of (chain x xs) h = refl
alone core names of (prefixed o p e) h = refl
alone core names of (number n p) h = refl
alone core names of (nil p) h = refl
alone core names of (set p es) h = refl
alone core names of (literal t p ss) h = refl
alone core names of (inherited p d) h = refl
alone core names of (designated (designator (named n) ss)) h = refl
alone core names of (designated (designator (string p) ss)) h = refl
alone core names of (designated (designator (bracketed p e) (selectors s ss))) h = refl
alone core names of (designated (designator (bracketed p e) no_selectors)) h = absurd (cc)

pub bracketed_means : (core : Core) (names : List Named) (of : TypeId) (p : Position) (e : Expression) (ss : Selectors) → is_bracketed (designated (designator (bracketed p e) ss)) ≡ true → checked (first_expression core names of (designated (designator (bracketed p e) ss))) ≡ checked (by_brackets p.place (single core names of (designated (designator (bracketed p e) ss))) (λ count element. counted p.place count (start_of e ∷ []) (judgement.changed one_value (first_expression core names element e))) (shape_of core of))
bracketed_means core names of p e no_selectors h = refl
bracketed_means core names of p e (selectors s ss) h = absurd (cc)

-- a constant, and what is made of it
pub single_behind : (r : Result (Option TypedInitial) NoMemory) (core : Core) (names : List Named) (of : TypeId) (e : Expression) (x : Constant) (place : Place) (typed : Option Constant) (old mid new : FirstRefusal) → Reports (checked (constant_part core names e)) old mid typed → typed ≡ Some x → place ≡ start_of e → IfOk r (λ v. Reports (checked (of_type core place of x)) mid new (option_map first_value_of v)) → IfOk r (λ v. Reports (checked (single core names of e)) old new (option_map first_value_of v))
single_behind (Ok v) core names of e x place typed old mid new h is s k =
    behind (checked (constant_part core names e)) (by (λ c. checked (of_type core (start_of e) of c))) old mid new (Some x) (option_map first_value_of v) (subst (Reports (checked (constant_part core names e)) old mid) is h)
    (subst (λ place. Reports (checked (of_type core place of x)) mid new (option_map first_value_of v)) s k)
single_behind (Err z) core names of e x place typed old mid new h is s k = k

-- what is made of the one part of a list
pub one_listed : (r : Result (Option TypedInitial) NoMemory) (c : Checked FirstValue) (wrong : Option Place) (old mid new : FirstRefusal) (part : Option TypedInitial) → Reports c old mid (option_map first_value_of part) → IfOk r (λ v. Reports (checked (unless_wrong wrong (option_map one_value (option_map first_value_of part)))) mid new (option_map first_value_of v)) → IfOk r (λ v. Reports (followed (changed one_value c) (λ vs. checked (unless_wrong wrong vs))) old new (option_map first_value_of v))
one_listed (Ok v) c wrong old mid new part h k =
    behind (changed one_value c) (λ vs. checked (unless_wrong wrong vs)) old mid new (option_map one_value (option_map first_value_of part)) (option_map first_value_of v) (ap (option_map one_value) h.0, h.1) k
one_listed (Err e) c wrong old mid new part h k = k

-- ---- places

pub count_of : (is : List Initializer) → length (starts (initials_of is)) ≡ length is
count_of [] = refl
count_of (i ∷ is) = ap suc (count_of is)

pub none_at : (is : List Initializer) (k : ℕ) → length is ≤ k → None ≡ slice_get (starts (initials_of is)) k
none_at [] k h = refl
none_at (i ∷ is) zero h = absurd (omega (arith, h))
none_at (i ∷ is) (suc k) h = none_at is k (omega (arith, h))

pub some_at : (is : List Initializer) (k : ℕ) (x : Initializer) → k < length is → x ≡ get_or is k x → Some (start_of_initial (initial_of x)) ≡ slice_get (starts (initials_of is)) k
some_at [] k x h e = absurd (omega (arith, h))
some_at (i ∷ is) zero x h e = ap (λ x. Some (start_of_initial (initial_of x))) e
some_at (i ∷ is) (suc k) x h e = some_at is k x (omega (arith, h)) e

pub few : (bracket : Place) (count : ℕ) (is : List Initializer) → length is < count → Some bracket ≡ wrong_count bracket count (starts (initials_of is))
few bracket count is h =
    sym (ap (λ b. if b then Some bracket else slice_get (starts (initials_of is)) count) (ap (λ n. nat_lt n count) (count_of is) ∙ lt-ltb (length is) count h))

pub enough : (bracket : Place) (count : ℕ) (is : List Initializer) (r : Option Place) → count ≤ length is → r ≡ slice_get (starts (initials_of is)) count → r ≡ wrong_count bracket count (starts (initials_of is))
enough bracket count is r h e =
    e ∙ sym (ap (λ b. if b then Some bracket else slice_get (starts (initials_of is)) count) (ap (λ n. nat_lt n count) (count_of is) ∙ le-ltb (length is) count h))
