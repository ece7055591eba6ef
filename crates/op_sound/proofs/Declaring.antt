-- Declarations of types, constants and variables leave a settled state or break a rule.
use Rattle.std.proofs.Common.{◌≡◌, inl, inr, ◌⊎◌, ◌<◌, ◌≤◌, ℕ, suc, ◌+◌, ◌^◌, ◌-◌, min, false, true, ◌||◌, List, [], ◌∷◌, ◌++◌, All, IfSome, IsSomeAnd, IsTrue, append-nil, append_assoc, cond, drop, eq-or-lt_of_le, filter, flat_map, is_some, leb-true, length, length-append, nat_le, option_to_list, slice_get, Option, Some, None, refl, sym, ap, ap₂, subst, ◌∙◌, arith}
use Rattle.std.proofs.lemmas.List.{drop-append-le}
use Rattle.std.proofs.lemmas.List.Elements.{All-cons, All-head, All-nil, All-tail, Contains-push, filter-append}
use Rattle.std.proofs.lemmas.List.Sums.{sum_by_push}
use Rattle.op_base.proofs.Lists.{slice_get-front}
use Rattle.op_core.proofs.Rows.{there_is}
use Rattle.op_sound.proofs.Constants.{constant_whole, first_whole}
use Rattle.op_sound.proofs.Growth.{Wider, contains_on, counts_on, or_on, people_on, some_is, first_lasts}
use Rattle.op_sound.proofs.Steps.{Moves, founded, from_after, from_breaks, from_checked, from_followed, from_gives, from_so, from_then, from_where, if_counts, later_ahead, later_itself, later_through, lead_followed, leads, leads_on, moves_each, settled_ahead, settled_all_ahead, settled_in, settled_valued, wider}
use Rattle.op_sound.proofs.Types.{Denotes, IsType, behind_front, declared_settled, denoted_settled, entered_from, first_behind, with_declared_core, with_declared_settled}
use Rattle.op_sound.proofs.Tables.{tabled_beside}
use Rattle.op_sound.specs.Complete.{Counts, From, Inside, IsBareVariable, Later, Leads, Settled, Stage, WithBlockRows, declared_in, scope}
use Rattle.op_check_unit.specs.Declaring.{constant_by, constant_declared, constant_meaning, constants_declared, defined, globals_fit, most_global_bytes, names_declared, next_variable, one_type_declared, row_entered, type_declared, type_meaning, typed_declared, types_declared, value_means, variable_meaning, variables_declared, variables_named, with_first, with_row}
use Rattle.op_check_unit.specs.Naming.{all_ahead, declared, ended, is_declared, with_ahead}
use Rattle.op_check_unit.specs.Steps.{Here}
use Rattle.op_core.proofs.Growing.{front_itself, front_row, grows_behind, some_and}
use Rattle.op_core.specs.Faults.{none}
use Rattle.op_core.specs.Growing.{Grows}
use Rattle.op_core.specs.Initial.{FirstValue}
use Rattle.op_core.specs.Relations.{Filled, filled}
use Rattle.op_core.specs.Sizes.{type_at}
use Rattle.op_core.specs.Sound.{IsFirst, Row, bytes_of, globals_of, is_declared as is_counted, is_of_block, size_of}
use Rattle.op_core.specs.Typing.{Sees}
use Rattle.op_core.specs.declared.ids.RoutineId.{RoutineId}
use Rattle.op_core.specs.declared.ids.TypeId.{TypeId}
use Rattle.op_core.specs.declared.ids.VariableId.{VariableId}
use Rattle.op_core.specs.declared.program.Core.{Core}
use Rattle.op_core.specs.declared.routine.Role.{Role}
use Rattle.op_core.specs.declared.routine.Role.TheVariants.{Plain, Constant, Parameter, Object, Result, Handler}
use Rattle.op_core.specs.declared.routine.Variable.{Variable as VariableRow}
use Rattle.op_core.specs.declared.types.CoreType.{CoreType}
use Rattle.op_judgement.proofs.Completing.{whole_rule}
use Rattle.op_judgement.specs.declared.rules.LanguageRule.TheVariants.{GlobalsTooLarge}
use Rattle.op_judgement.specs.Steps.{done, each}
use Rattle.op_tree.specs.Declaration.{Constant as ConstantTree, TypeDeclaration, TypeDefinition, Variables, class, denotes, forward_class, forward_interface, interface}
use Rattle.op_tree.specs.Denoter.{Denoter}
use Rattle.op_tree.specs.Initial.{Initial, value, list, record_}
use Rattle.op_tree.specs.declared.position.Name.{Name}
use Rattle.op_typed.specs.Standing.{IsSoundConstant, StandsFor}
use Rattle.op_types.specs.declared.constant.Constant.{Constant as Value}
use Rattle.op_types.specs.declared.visible.Meaning.TheVariants.{Variable}

-- ---- types

defined_settled : {s : Stage} (own : Name) (d : TypeDefinition) (h : Here) → Settled s h → From (Denotes s h) (done (defined own d h))
defined_settled own (denotes t) h x = denoted_settled (Some own) false t h x
defined_settled own forward_class h x = from_checked {P = λ of. IsType of h.core} whole_rule (λ of t. leads x later_itself t)
defined_settled own (class c) h x = from_checked {P = λ of. IsType of h.core} whole_rule (λ of t. leads x later_itself t)
defined_settled own (forward_interface i) h x = from_checked {P = λ of. IsType of h.core} whole_rule (λ of t. leads x later_itself t)
defined_settled own (interface i) h x = from_checked {P = λ of. IsType of h.core} whole_rule (λ of t. leads x later_itself t)

type_stands : (core : Core) (sees : Sees) {t : Option TypeId} → Filled (λ of. IsType of core) t → StandsFor core sees (type_meaning t)
type_stands core sees (filled of q) = q

type_settled : {s : Stage} (d : TypeDeclaration) (h : Here) → Settled s h → From (Moves s h) (done (type_declared d h))
type_settled {s} d h x =
    lead_followed {h = with_ahead d.name h} {P = IsType} (λ t h. declared d.name (type_meaning t) (ended h)) (defined_settled d.name d.definition (with_ahead d.name h) (settled_ahead _ x))
    (λ t i y l f. leads_on l (declared_settled d.name (type_meaning t) (ended i) (settled_ahead [] y) (type_stands i.core (scope s.around.apart s.inside i.core) f)))

pub types_settled : {s : Stage} (ds : List TypeDeclaration) (h : Here) → Settled s h → From (Moves s h) (done (types_declared ds h))
types_settled ds h x = moves_each type_declared type_settled ds h x

-- ---- rows of variables

abbrev pub beside : Core → List VariableRow → Core
beside core vs = record core { variables = core.variables ++ vs }

globals_still : (vs ws : List VariableRow) (gs : List VariableId) → All (λ g. Row vs g.0) gs → flat_map (λ g. option_to_list (slice_get (vs ++ ws) g.0)) gs ≡ flat_map (λ g. option_to_list (slice_get vs g.0)) gs
globals_still vs ws [] a = refl
globals_still vs ws (g ∷ gs) a = ap₂ (λ o l. option_to_list o ++ l) (slice_get-front vs ws g.0 (All-head (λ g. Row vs g.0) g gs a)) (globals_still vs ws gs (All-tail (λ g. Row vs g.0) g gs a))

global_more : (vs : List VariableRow) (v : VariableRow) (gs : List VariableId) → All (λ g. Row vs g.0) gs → flat_map (λ g. option_to_list (slice_get (vs ++ v ∷ []) g.0)) (gs ++ record { 0 = length vs } ∷ []) ≡ flat_map (λ g. option_to_list (slice_get vs g.0)) gs ++ v ∷ []
global_more vs v [] a = ap (λ o. option_to_list o ++ []) (first_behind vs v [])
global_more vs v (g ∷ gs) a =
    ap₂ (λ o l. option_to_list o ++ l) (slice_get-front vs (v ∷ []) g.0 (All-head (λ g. Row vs g.0) g gs a)) (global_more vs v gs (All-tail (λ g. Row vs g.0) g gs a))
    ∙ sym (append_assoc (option_to_list (slice_get vs g.0)) (flat_map (λ g. option_to_list (slice_get vs g.0)) gs) (v ∷ []))

pub locals_more : (core : Core) (i : Inside) (ws : List VariableRow) → i.first ≤ length core.variables → declared_in (Some i) (beside core ws) ≡ declared_in (Some i) core ++ filter (λ v. is_counted v.role) ws
locals_more core i ws le = ap (filter (λ v. is_counted v.role)) (drop-append-le i.first core.variables ws le) ∙ filter-append (λ v. is_counted v.role) (drop i.first core.variables) ws

-- variables of a body, which are no globals
pub settled_local : {s : Stage} {h : Here} (ws : List VariableRow) (b : ℕ) → Settled s h → All (IsBareVariable h.core) ws → Counts (beside h.core ws) s.inside b → Settled s (record h { core = beside h.core ws; bytes = b })
settled_local {s} {h} ws b x a c =
    settled_in (beside h.core ws) b x w (tabled_beside _ _ _ _ _ x.tables)
    (people_on w x.tables x.people [] ws [] (sym (append-nil h.core.parameters)) refl (sym (append-nil h.core.globals)) refl (All-nil (λ p. Row h.core.types p.of.0)) a (All-nil (λ v. Row (h.core.variables ++ ws) v.0)) (subst (λ n. n ≤ most_global_bytes) (sym same) x.people.room))
    refl refl c (if_counts s.around.apart h.core (beside h.core ws) s.inside h.names (λ b. counts_on h.core (beside h.core ws) None b same) x.inside)
  where
    w : Wider h.core (beside h.core ws)
    w = wider x (front_itself h.core.types) (front_itself h.core.extents) (front_itself h.core.fields) (front_itself h.core.parameters) (behind_front h.core.variables ws) (front_itself h.core.globals) (front_itself h.core.routines) (refl, refl, refl, refl, refl) (omega arith)

    same : bytes_of (beside h.core ws) (globals_of (beside h.core ws)) ≡ bytes_of h.core (globals_of h.core)
    same = ap (bytes_of h.core) (globals_still h.core.variables ws h.core.globals x.people.globals)

-- a sum of few bytes is no sum that was cut off
pub capped : (b size old total : ℕ) → total ≡ old + size → (b ≤ most_global_bytes → old ≤ b) → min (b + size) (2 ^ 64 - 1) ≤ most_global_bytes → total ≤ min (b + size) (2 ^ 64 - 1)
capped b size old total e k le = let small : b ≤ most_global_bytes = omega (arith, le) in let o = k small in omega (arith, e, o, le)

-- what is counted is of the block
counted_of_block : (role : Role) → is_counted role ≡ true → IsTrue (is_of_block role)
counted_of_block Plain e = refl
counted_of_block Constant e = refl
counted_of_block (Parameter mode) e = absurd (cc)
counted_of_block Object e = absurd (cc)
counted_of_block Result e = absurd (cc)
counted_of_block Handler e = absurd (cc)

one_of_block : (vs : List VariableRow) (v : VariableRow) → is_counted v.role ≡ true → WithBlockRows vs (vs ++ v ∷ [])
one_of_block vs v e = record { more = v ∷ []; is = refl; of_block = All-cons (λ v. IsTrue (is_of_block v.role)) v [] (counted_of_block v.role e) (All-nil (λ v. IsTrue (is_of_block v.role))) }

-- the next variable is in scope
abbrev IsNext : Stage → Here → Unit {0} → Core → Type 0
IsNext s h u core = (length core.variables ≡ length h.core.variables + 1) × (scope s.around.apart s.inside core).variable (next_variable h)

abbrev IsRoom : Here → Type 0
IsRoom h = (is_some h.routine || nat_le h.bytes most_global_bytes) ≡ true

row_by : (s : Stage) (i : Option Inside) (o : Option RoutineId) (role : Role) (of : TypeId) (n : Name) (h : Here) → is_counted role ≡ true → Settled (record s { inside = i }) (record h { routine = o }) → IsType of h.core → IsRoom (with_row role of n (record h { routine = o })) → Leads (record s { inside = i }) h (IsNext (record s { inside = i }) h) tt (with_row role of n (record h { routine = o }))
row_by s None (Some r) role of n h e x t f = absurd (let z = x.routine in cc)
row_by s (Some i) None role of n h e x t f = absurd (let z = x.routine in cc)
row_by s (Some i) (Some r) role of n h e x t f = leads
    (settled_local (v ∷ []) _ x (All-cons (IsBareVariable h.core) v [] (t, refl) (All-nil (IsBareVariable h.core))) counts)
    (record { types = front_itself h.core.types; parameters = front_itself h.core.parameters; variables = one_of_block h.core.variables v e; globals = front_itself h.core.globals; routines = refl })
    (length-append h.core.variables (v ∷ []), inr x.inside.first)
  where
    v : VariableRow
    v = record { name = n; of = of; role = role; first_value = None }

    size : ℕ
    size = size_of h.core of

    total : bytes_of h.core (declared_in (Some i) (beside h.core (v ∷ []))) ≡ bytes_of h.core (declared_in (Some i) h.core) + size
    total =
        ap (bytes_of h.core) (locals_more h.core i (v ∷ []) x.inside.first ∙ ap (λ b. declared_in (Some i) h.core ++ cond b (v ∷ []) []) e)
        ∙ sum_by_push (λ v. size_of h.core v.of) (declared_in (Some i) h.core) v

    counts : Counts (beside h.core (v ∷ [])) (Some i) (min (h.bytes + size) (2 ^ 64 - 1))
    counts le = capped h.bytes size (bytes_of h.core (declared_in (Some i) h.core)) _ total x.counts le
row_by s None None role of n h e x t f = leads
    (settled_in new b x w (tabled_beside _ _ _ _ _ x.tables)
    (people_on w x.tables x.people [] (v ∷ []) (id ∷ []) (sym (append-nil h.core.parameters)) refl refl refl (All-nil (λ p. Row h.core.types p.of.0)) (All-cons (IsBareVariable h.core) v [] (t, refl) (All-nil (IsBareVariable h.core))) (All-cons (λ v. Row new.variables v.0) id [] below (All-nil (λ v. Row new.variables v.0))) room)
    refl refl counts tt)
    (record { types = front_itself h.core.types; parameters = front_itself h.core.parameters; variables = one_of_block h.core.variables v e; globals = behind_front h.core.globals (id ∷ []); routines = refl })
    (length-append h.core.variables (v ∷ []), inl (inl (Contains-push h.core.globals id)))
  where
    v : VariableRow
    v = record { name = n; of = of; role = role; first_value = None }

    id : VariableId
    id = record { 0 = length h.core.variables }

    new : Core
    new = record h.core { variables = h.core.variables ++ v ∷ []; globals = h.core.globals ++ id ∷ [] }

    size : ℕ
    size = size_of h.core of

    b : ℕ
    b = min (h.bytes + size) (2 ^ 64 - 1)

    w : Wider h.core new
    w = wider x (front_itself h.core.types) (front_itself h.core.extents) (front_itself h.core.fields) (front_itself h.core.parameters) (behind_front h.core.variables (v ∷ [])) (behind_front h.core.globals (id ∷ [])) (front_itself h.core.routines) (refl, refl, refl, refl, refl) (omega arith)

    below : Row new.variables id.0
    below = let l = length-append h.core.variables (v ∷ []) in omega (arith, l)

    total : bytes_of h.core (globals_of new) ≡ bytes_of h.core (globals_of h.core) + size
    total =
        ap (bytes_of h.core) (global_more h.core.variables v h.core.globals x.people.globals)
        ∙ sum_by_push (λ v. size_of h.core v.of) (globals_of h.core) v

    counts : Counts new None b
    counts le = capped h.bytes size (bytes_of h.core (globals_of h.core)) _ total x.counts le

    room : bytes_of new (globals_of new) ≤ most_global_bytes
    room = let le = leb-true b most_global_bytes f in let c = counts le in omega (arith, le, c)

with_row_settled : {s : Stage} (role : Role) (of : TypeId) (n : Name) (h : Here) → is_counted role ≡ true → Settled s h → IsType of h.core → IsRoom (with_row role of n h) → Leads s h (IsNext s h) tt (with_row role of n h)
with_row_settled {s} role of n h e x t f = row_by s s.inside h.routine role of n h e x t f

-- it is a first value of the type
abbrev Begins : Core → TypeId → FirstValue → Type 0
Begins core of v = IsSomeAnd (type_at core of) (λ t. IsFirst core t of v)

fit_settled : {s : Stage} (role : Role) (of : TypeId) (n : Name) (v : Option FirstValue) (h : Here) → is_counted role ≡ true → Settled s h → IsType of h.core → IfSome v (Begins h.core of) → From (Leads s h (IsNext s h)) (done (globals_fit n.position.place (with_row role of n (with_first v h))))
fit_settled role of n None h e x t b = from_where (is_some h.routine || nat_le (with_row role of n h).bytes most_global_bytes) GlobalsTooLarge n.position.place (with_row role of n h) (λ f. from_gives (with_row_settled role of n h e x t f))
fit_settled role of n (Some v) h e x t b =
    from_where (is_some h.routine || nat_le (with_row role of n h).bytes most_global_bytes) GlobalsTooLarge n.position.place (with_row role of n (with_first (Some v) h))
    (λ f. let r = with_row_settled role of n h e x t f in from_gives (leads (settled_valued (next_variable h, v) r.state (some_and (λ w. IsSomeAnd (type_at h.core w.of) (λ u. IsFirst (with_row role of n h).core u w.of v)) (first_behind h.core.variables (record { name = n; of = of; role = role; first_value = None }) []) begins)) r.later r.so))
  where
    grows : Grows h.core (with_row role of n h).core
    grows = grows_behind (founded x).routines (front_itself h.core.types) (front_itself h.core.extents) (front_itself h.core.fields) (front_itself h.core.parameters) (behind_front h.core.variables (record { name = n; of = of; role = role; first_value = None } ∷ [])) (front_itself h.core.routines) refl refl refl refl refl

    begins : Begins (with_row role of n h).core of v
    begins = let q = some_is (type_at h.core of) b in some_and (λ u. IsFirst (with_row role of n h).core u of v) q.1 (first_lasts grows (founded x) q.0 of v of.0 q.1 q.2)

row_settled : {s : Stage} (role : Role) (of : TypeId) (i : Option Initial) (n : Name) (h : Here) → is_counted role ≡ true → Settled s h → IsType of h.core → From (Leads s h (IsNext s h)) (done (row_entered role of i n h))
row_settled role of None n h e x t = from_after none (done (globals_fit n.position.place (with_row role of n (with_first None h)))) (fit_settled role of n None h e x t tt)
row_settled {s} role of (Some i) n h e x t =
    let r = there_is h.core.types of.0 t in
    from_followed (λ v h. globals_fit n.position.place (with_row role of n (with_first v h))) (from_checked {R = λ v g. (g ≡ h) × IsFirst h.core r.0 of v} (first_whole h.core (scope _ _ h.core) h.names (founded x) x.names of i r.0 r.1) (λ v b. (refl, b)))
    (λ v g f. one r g f)
  where
    one : (r : (a : CoreType) × (slice_get h.core.types of.0 ≡ Some a)) {v : Option FirstValue} (g : Here) → Filled (λ v. (g ≡ h) × IsFirst h.core r.0 of v) v → From (Leads s h (IsNext s h)) (done (globals_fit n.position.place (with_row role of n (with_first v g))))
    one r g (filled v q) = subst (λ g. From (Leads s h (IsNext s h)) (done (globals_fit n.position.place (with_row role of n (with_first (Some v) g))))) (sym q.0) (fit_settled role of n (Some v) h e x t (some_and (λ u. IsFirst h.core u of v) r.1 q.1))

-- ---- constants

value_settled : {s : Stage} (i : Initial) (h : Here) → Settled s h → From (λ c g. (g ≡ h) × IsSoundConstant h.core c) (done (value_means i h))
value_settled (value e) h x = from_checked (constant_whole h.core (scope _ _ h.core) h.names (founded x) x.names e) (λ c q. (refl, q))
value_settled (list p items) h x = from_breaks
value_settled (record_ p fields) h x = from_breaks

typed_settled : {s : Stage} {t : Option TypeId} (i : Initial) (n : Name) (h : Here) → Filled (λ of. IsType of h.core) t → Settled s h → From (Moves s h) (done (typed_declared t i n h))
typed_settled i n h (filled of q) x =
    from_then (declared n (Variable (next_variable h) false)) (row_settled Constant of (Some i) n h refl x q)
    (λ u g r. let e = r.so.0 in leads_on r.later (declared_settled n (Variable (next_variable h) false) g r.state (r.so.1, omega (arith, e))))

constant_by_settled : {s : Stage} (d : Option Denoter) (i : Initial) (n : Name) (h : Here) → Settled s h → From (Moves s h) (done (constant_by d i n h))
constant_by_settled {s} None i n h x = from_followed (λ c h. declared n (constant_meaning c) h) (value_settled i h x) (λ c g f. one g f)
  where
    one : {c : Option Value} (g : Here) → Filled (λ c. (g ≡ h) × IsSoundConstant h.core c) c → From (Moves s h) (done (declared n (constant_meaning c) g))
    one g (filled c q) = subst (λ g. From (Moves s h) (done (declared n (constant_meaning (Some c)) g))) (sym q.0) (declared_settled n (constant_meaning (Some c)) h x q.1)
constant_by_settled {s} (Some t) i n h x =
    lead_followed {h = with_ahead n h} {P = IsType} (λ t h. typed_declared t i n (ended h)) (denoted_settled None false t (with_ahead n h) (settled_ahead _ x)) (λ t g y l f. leads_on l (typed_settled i n (ended g) f (settled_ahead [] y)))

constant_settled : {s : Stage} (d : ConstantTree) (h : Here) → Settled s h → From (Moves s h) (done (constant_declared d h))
constant_settled d h x = constant_by_settled d.denoter d.value d.name h x

pub constants_settled : {s : Stage} (ds : List ConstantTree) (h : Here) → Settled s h → From (Moves s h) (done (constants_declared ds h))
constants_settled ds h x = moves_each constant_declared constant_settled ds h x

-- ---- variables

-- all variables from the old ones on are in scope
abbrev AreNext : Stage → Here → ℕ → Unit {0} → Core → Type 0
AreNext s h count u core = (length core.variables ≡ length h.core.variables + count) × ((k : ℕ) → length h.core.variables ≤ k → k < length core.variables → (scope s.around.apart s.inside core).variable (record { 0 = k }))

scope_later : {old new : Core} (apart : List VariableId) (i : Option Inside) → Later old new → (v : VariableId) → (scope apart i old).variable v → (scope apart i new).variable v
scope_later apart i l v x = or_on (λ g. or_on (contains_on v l.globals) g) x

each_row_settled : {s : Stage} (of : TypeId) (i : Option Initial) (ns : List Name) (h : Here) → Settled s h → IsType of h.core → From (Leads s h (AreNext s h (length ns))) (done (each (row_entered Plain of i) ns h))
each_row_settled of i [] h x t = from_gives (leads x later_itself (omega arith, λ k a b. absurd (omega (arith, a, b))))
each_row_settled {s} of i (n ∷ ns) h x t =
    from_then (each (row_entered Plain of i) ns) (row_settled Plain of i n h refl x t) (λ u g r. from_so (each_row_settled of i ns g r.state (front_row r.later.types t)) (λ a j q. leads q.state (later_through r.later q.later) (more g j r.so q.later q.so)))
  where
    more : (g j : Here) → IsNext s h tt g.core → Later g.core j.core → AreNext s g (length ns) tt j.core → AreNext s h (suc (length ns)) tt j.core
    more g j a l b = (let c = a.0 in let d = b.0 in omega (arith, c, d), λ k le lt. one k lt (eq-or-lt_of_le le))
      where
        one : (k : ℕ) → k < length j.core.variables → (length h.core.variables ≡ k) ⊎ (length h.core.variables < k) → (scope s.around.apart s.inside j.core).variable (record { 0 = k })
        one k lt (inl e) = subst (λ k. (scope s.around.apart s.inside j.core).variable (record { 0 = k })) e (scope_later s.around.apart s.inside l (next_variable h) a.1)
        one k lt (inr c) = let d = a.0 in b.1 k (omega (arith, c, d)) lt

named_settled : {s : Stage} {t : Option TypeId} (core : Core) (k : ℕ) (ns : List Name) (h : Here) → h.core ≡ core → Filled (λ of. Unit {0}) t → k + length ns ≤ length core.variables → ((j : ℕ) → k ≤ j → j < length core.variables → (scope s.around.apart s.inside core).variable (record { 0 = j })) → Settled s h → From (λ u i. Settled s i × (i.core ≡ core)) (done (variables_named t k ns h))
named_settled core k [] h e f le sees x = from_gives (x, e)
named_settled {s} core k (n ∷ ns) h e (filled of q) le sees x =
    let stands : StandsFor core (scope s.around.apart s.inside core) (Variable (record { 0 = k }) true) = (sees k (omega arith) (omega (arith, le)), omega (arith, le)) in
    from_then (variables_named (Some of) (k + 1) ns)
    (entered_from {R = λ u i. Settled s i × (i.core ≡ core)} (is_declared h n) 0 n (variable_meaning (Some of) k) h (with_declared_settled n (variable_meaning (Some of) k) h x (subst (λ c. StandsFor c (scope s.around.apart s.inside c) (Variable (record { 0 = k }) true)) (sym e) stands), with_declared_core n (variable_meaning (Some of) k) h ∙ e))
    (λ u i r. named_settled core (k + 1) ns i r.1 (filled of q) (omega (arith, le)) (λ j a b. sees j (omega (arith, a)) b) r.0)

names_settled : {s : Stage} {t : Option TypeId} (i : Option Initial) (ns : List Name) (h : Here) → Filled (λ of. IsType of h.core) t → Settled s h → From (Moves s h) (done (names_declared t i ns h))
names_settled {s} i ns h (filled of q) x =
    from_then (variables_named (Some of) (length h.core.variables) ns) (each_row_settled of i ns h x q)
    (λ u g r. let e = r.so.0 in from_so (named_settled g.core (length h.core.variables) ns g refl (filled of tt) (omega (arith, e)) r.so.1 r.state) (λ v j w. leads w.0 (subst (Later h.core) (sym w.1) r.later) tt))

one_type_settled : {s : Stage} (v : Variables) (h : Here) → Settled s h → From (Moves s h) (done (one_type_declared v h))
one_type_settled v h x =
    leads_on {i = all_ahead v.names h} (later_ahead v.names h)
    (lead_followed {h = all_ahead v.names h} {P = IsType} (λ t h. names_declared t v.value v.names (ended h)) (denoted_settled None false v.denoter (all_ahead v.names h) (settled_all_ahead v.names h x)) (λ t g y l f. leads_on l (names_settled v.value v.names (ended g) f (settled_ahead [] y))))

pub variables_settled : {s : Stage} (vs : List Variables) (h : Here) → Settled s h → From (Moves s h) (done (variables_declared vs h))
variables_settled vs h x = moves_each one_type_declared one_type_settled vs h x
