-- What is so of a state is so where tables have grown.
use Rattle.std.proofs.Common.{◌≡◌, inl, inr, ◌⊎◌, ◌<◌, ◌≤◌, ℕ, ◌+◌, Bool, true, false, cond, List, [], ◌∷◌, ◌++◌, replicate, All, Contains, IfSome, IsSomeAnd, drop, filter, flat_map, length, length-append, map, option_to_list, slice_get, unwrap_or, Option, Some, None, refl, sym, ap, ap₂, subst, ◌∙◌, arith}
use Rattle.std.proofs.lemmas.List.Elements.{All-append, All-cons, All-drop, All-head, All-nil, All-take, All-tail, All-weaker, Contains-append_left}
use Rattle.std.proofs.lemmas.List.Sums.{sum_by-cons}
use Rattle.std.proofs.lemmas.Option.{slice_get_within}
use Rattle.op_base.proofs.Lists.{slice_get-front}
use Rattle.op_base.specs.declared.place.Place.{Place}
use Rattle.op_sound.specs.Complete.{Counts, Inside, IsBareRoutine, IsBareVariable, IsDone, IsDonePart, IsGlobalOf, IsOpen, IsPeopled, IsShown, IsTypedBody, IsTypedFirst, declared_in, scope, scope_of}
use Rattle.op_check_unit.specs.Declaring.{most_global_bytes}
use Rattle.op_check_unit.specs.Routines.{most_bytes}
use Rattle.op_sound.specs.Tables.{IsTabled}
use Rattle.op_check_unit.specs.declared.uses.Export.{Export}
use Rattle.op_core.proofs.Growing.{all_at, front_fit, front_row, front_rows, front_stays, of_some, some_and}
use Rattle.op_typed.proofs.Lasting.{need_lasts, fact_lasts}
use Rattle.op_core.specs.Growing.{Grows, IsFrontOf, SeesMore}
use Rattle.op_core.specs.Initial.{FirstValue, constant, parts, FirstValues, no_values, values}
use Rattle.op_core.specs.Rows.{rows}
use Rattle.op_core.specs.Sizes.{KeepsExtents, plain, range_of, type_at, values_of}
use Rattle.op_core.specs.Sound.{AreFirst, HasRows, IsFirst, IsFounded, Row, at_start, bytes_of, first_rows, globals_of, is_declared, object_in, role_and_type, size_of}
use Rattle.op_core.specs.Statement.{Statements}
use Rattle.op_core.specs.StatementTyping.{AreStatements, statements_as}
use Rattle.op_core.specs.Typing.{Sees, fits}
use Rattle.op_core.specs.declared.ids.RoutineId.{RoutineId}
use Rattle.op_core.specs.declared.ids.TypeId.{TypeId}
use Rattle.op_core.specs.declared.ids.VariableId.{VariableId}
use Rattle.op_core.specs.declared.program.Core.{Core}
use Rattle.op_core.specs.declared.program.Unit.{Unit as RustUnit}
use Rattle.op_core.specs.declared.routine.Parameter.{Parameter}
use Rattle.op_core.specs.declared.routine.Role.TheVariants.{Parameter as ParameterRole, Result}
use Rattle.op_core.specs.declared.routine.Routine.{Routine}
use Rattle.op_core.specs.declared.routine.Variable.{Variable}
use Rattle.op_core.specs.declared.types.CoreType.{CoreType}
use Rattle.op_core.specs.declared.types.CoreType.TheVariants.{Array, Record}
use Rattle.op_types.specs.Names.{Named}
use Rattle.op_typed.specs.Standing.{AllStand, StandsFor}
use Rattle.op_types.specs.declared.visible.Meaning.{Meaning}
use Rattle.op_types.specs.declared.visible.Meaning.TheVariants as meaning

-- ---- tables behind others

-- tables grow, and those of variables and globals by rows behind the others alone
pub record Wider (old new : Core) : Type 0 where
  pub grows : Grows old new
  pub variables : IsFrontOf old.variables new.variables
  pub globals : IsFrontOf old.globals new.globals
  pub routines : length old.routines ≤ length new.routines
  pub units : length old.units ≤ length new.units

-- Globals stand in the table, or are among those that come into it: each is still in one of the two.
pub record Broader (apart next : List VariableId) (old new : Core) : Type 0 where
  pub grows : Grows old new
  pub variables : IsFrontOf old.variables new.variables
  pub knows : (v : VariableId) → IsGlobalOf apart old v → IsGlobalOf next new v
  pub routines : length old.routines ≤ length new.routines
  pub units : length old.units ≤ length new.units

pub some_is : {A : Type 0} {P : A → Type 0} (o : Option A) → IsSomeAnd o P → (a : A) × (o ≡ Some a) × P a
some_is (Some a) p = (a, refl, p)
some_is None p = absurd p

pub front_length : {A : Type 0} {xs ys : List A} → IsFrontOf xs ys → length xs ≤ length ys
front_length {xs = xs} f = let e = ap length f.is in let l = length-append xs f.more in omega (arith, e, l)

pub contains_on : {A : Type 0} {xs ys : List A} (x : A) → IsFrontOf xs ys → Contains xs x → Contains ys x
contains_on {xs = xs} x f c = subst (λ ys. Contains ys x) (sym f.is) (Contains-append_left xs f.more x c)

pub or_on : {A B C : Type 0} → (A → B) → A ⊎ C → B ⊎ C
or_on f (inl a) = inl (f a)
or_on f (inr c) = inr c

pub broader : {old new : Core} (apart : List VariableId) → Wider old new → Broader apart apart old new
broader {old} {new} apart w = record { grows = w.grows; variables = w.variables; knows = λ v x. one v x; routines = w.routines; units = w.units }
  where
    one : (v : VariableId) → IsGlobalOf apart old v → IsGlobalOf apart new v
    one v (inl c) = inl (contains_on v w.globals c)
    one v (inr d) = inr d

-- ---- names

pub stands_on : {apart next : List VariableId} {old new : Core} {less more : Sees} → Broader apart next old new → SeesMore less more → (m : Meaning) → StandsFor old less m → StandsFor new more m
stands_on w m meaning.Spoiled s = s
stands_on w m (meaning.Constant c) s = fact_lasts w.grows (fits c.value c.of) s
stands_on w m (meaning.Variable id writable) s = (m.variable id s.0, front_row w.variables s.1)
stands_on w m (meaning.TypeName of) s = front_row w.grows.types s
stands_on w m (meaning.Routine id) s = let lt = s.1 in let more = w.routines in (m.routine id s.0, omega (arith, lt, more))
stands_on w m other s = tt

pub scope_on : {apart next : List VariableId} {old new : Core} (i : Option Inside) → Broader apart next old new → SeesMore (scope apart i old) (scope next i new)
scope_on i w = record { variable = λ v x. or_on (λ g. w.knows v g) x; routine = λ r x. let more = w.routines in omega (arith, x, more) }

pub names_known : (apart next : List VariableId) {old new : Core} (i : Option Inside) → Broader apart next old new → (ns : List Named) → AllStand old (scope apart i old) ns → AllStand new (scope next i new) ns
names_known apart next {old} {new} i w ns s = All-weaker (λ n. StandsFor old (scope apart i old) n.meaning) (λ n. StandsFor new (scope next i new) n.meaning) (λ n x. stands_on w (scope_on i w) n.meaning x) ns s

pub names_on : (apart : List VariableId) {old new : Core} (i : Option Inside) → Wider old new → (ns : List Named) → AllStand old (scope apart i old) ns → AllStand new (scope apart i new) ns
names_on apart i w ns s = names_known apart apart i (broader apart w) ns s

pub shown_known : (apart next : List VariableId) {old new : Core} → Broader apart next old new → (e : Option Export) → IsShown apart old e → IsShown next new e
shown_known apart next w None x = tt
shown_known apart next {old} {new} w (Some e) x = record {
  unit = (let lt = x.unit in let more = w.units in omega (arith, lt, more));
  names = names_known apart next None w e.names x.names;
  globals = All-weaker (λ v. Row old.variables v.0) (λ v. Row new.variables v.0) (λ v lt. front_row w.variables lt) e.globals x.globals;
}

pub exports_known : (apart next : List VariableId) {old new : Core} → Broader apart next old new → (es : List (Option Export)) → All (IsShown apart old) es → All (IsShown next new) es
exports_known apart next {old} {new} w es a = All-weaker (IsShown apart old) (IsShown next new) (λ e x. shown_known apart next w e x) es a

pub exports_on : (apart : List VariableId) {old new : Core} → Wider old new → (es : List (Option Export)) → All (IsShown apart old) es → All (IsShown apart new) es
exports_on apart w es a = exports_known apart apart (broader apart w) es a

-- ---- units

-- a part whose body has come stays as it is
abbrev pub KeepsParts : Core → Core → Option ℕ → Option ℕ → List (Option Place) → List (Option Place) → Type 0
KeepsParts old new current next places later =
    (p : ℕ) → p < length old.routines → (IsOpen current places p → ⊥) → (slice_get new.routines p ≡ slice_get old.routines p) × (IsOpen next later p → ⊥)

pub part_on : (old new : Core) (current next : Option ℕ) (places later : List (Option Place)) → KeepsParts old new current next places later → (o : Option RoutineId) → IfSome o (IsDonePart old current places) → IfSome o (IsDonePart new next later)
part_on old new current next places later k None x = tt
part_on old new current next places later k (Some p) x =
    let q = some_is (slice_get old.routines p.0) x.0 in
    let s = k p.0 (slice_get_within old.routines p.0 q.0 q.1) x.1 in
    (some_and (λ r. r.parameters.count ≡ 0) (s.0 ∙ q.1) q.2, s.1)

pub units_on : (old new : Core) (start : ℕ) (current next : Option ℕ) (places later : List (Option Place)) → KeepsParts old new current next places later → (us : List RustUnit) → All (IsDone old start current places) us → All (IsDone new start next later) us
units_on old new start current next places later k us a = All-weaker (IsDone old start current places) (IsDone new start next later)
    (λ u x. record { globals = x.globals; initialization = part_on old new current next places later k u.initialization x.initialization; finalization = part_on old new current next places later k u.finalization x.finalization }) us a

-- ---- first values

same_range : {old new : Core} → Grows old new → (of : TypeId) → IsSomeAnd (range_of (type_at old of)) (λ r. Unit {0}) → type_at new of ≡ type_at old of
same_range {old} {new} g of h = one (type_at old of) refl h
  where
    one : (t : Option CoreType) → type_at old of ≡ t → IsSomeAnd (range_of t) (λ r. Unit {0}) → type_at new of ≡ type_at old of
    one None e h = absurd h
    one (Some t) e h = front_stays g.types of.0 t e ∙ sym e

mutual
  pub first_lasts : {old new : Core} → Grows old new → IsFounded old → (t : CoreType) (of : TypeId) (v : FirstValue) → (n : ℕ) → slice_get old.types n ≡ Some t → IsFirst old t of v → IsFirst new t of v
  first_lasts g f t of (constant v) n e h = fact_lasts g (fits v of) h
  first_lasts {old} {new} g f (Record fields) of (parts vs) n e h =
      subst (λ fs. AreFirst new (map (λ f. f.of) fs) vs) (sym (front_rows fields g.fields (f.types n (Record fields) e).0)) (are_first_last g f (map (λ f. f.of) (rows old.fields fields)) vs h)
  first_lasts {old} {new} g f (Array at element) of (parts vs) n e h =
      subst (λ t. AreFirst new (replicate (values_of (range_of t)) element) vs) (sym (same_range g at (f.types n (Array at element) e).0.1)) (are_first_last g f (replicate (values_of (range_of (type_at old at))) element) vs h)
  first_lasts g f _ of (parts vs) n e h = absurd h

  are_first_last : {old new : Core} → Grows old new → IsFounded old → (ofs : List TypeId) (vs : FirstValues) → AreFirst old ofs vs → AreFirst new ofs vs
  are_first_last g f [] no_values h = tt
  are_first_last {old} {new} g f (of ∷ ofs) (values v vs) h = (of_some _ _ (type_at old of) (λ t e k. some_and (λ t. IsFirst new t of v) (front_stays g.types of.0 t e) (first_lasts g f t of v of.0 e k)) h.0, are_first_last g f ofs vs h.1)
  are_first_last g f [] (values v vs) h = absurd h
  are_first_last g f (of ∷ ofs) no_values h = absurd h

-- ---- bodies

body_scope : {apart next : List VariableId} {old new : Core} (r : Routine) → Broader apart next old new → SeesMore (scope_of apart old r) (scope_of next new r)
body_scope r w = record { variable = λ v x. or_on (λ g. w.knows v g) x; routine = λ q x. let more = w.routines in omega (arith, x, more) }

-- the rows of a routine's variables
rows_on : {apart next : List VariableId} {old new : Core} → Broader apart next old new → (r : Routine) → IsBareRoutine old r → HasRows old r → HasRows new r
rows_on {old = old} {new = new} w r b h = record {
  others = h.others;
  are = ap (map role_and_type) (front_rows r.variables w.variables b.runs.1) ∙ h.are ∙ ap (λ ss. ss ++ h.others) (sym first);
  of_block = h.of_block;
}
  where
    first : first_rows new r ≡ first_rows old r
    first = ap₂ (λ os ps. os ++ map (λ p. (ParameterRole p.mode, p.of)) ps ++ map (λ of. (Result, of)) (option_to_list r.result)) (ap (object_in new) b.owner ∙ sym (ap (object_in old) b.owner)) (front_rows r.parameters w.grows.parameters b.runs.0)

pub body_known : (apart next : List VariableId) {old new : Core} → Broader apart next old new → IsPeopled old → (b : RoutineId × Statements) → slice_get new.routines b.0.0 ≡ slice_get old.routines b.0.0 → IsTypedBody apart old b → IsTypedBody next new b
body_known apart next {old} {new} w p b e t =
    let x = some_is (slice_get old.routines b.0.0) t in
    some_and (λ r. HasRows new r × AreStatements new (scope_of next new r) (at_start r) b.1) (e ∙ x.1)
    (rows_on w x.0 (all_at (IsBareRoutine old) old.routines b.0.0 x.0 p.routines x.1) x.2.0, need_lasts w.grows (body_scope x.0 w) (statements_as (at_start x.0) b.1) x.2.1)

pub body_on : (apart : List VariableId) {old new : Core} → Wider old new → IsPeopled old → (b : RoutineId × Statements) → slice_get new.routines b.0.0 ≡ slice_get old.routines b.0.0 → IsTypedBody apart old b → IsTypedBody apart new b
body_on apart w p b e t = body_known apart apart (broader apart w) p b e t

pub value_known : {apart next : List VariableId} {old new : Core} → Broader apart next old new → IsFounded old → (b : VariableId × FirstValue) → IsTypedFirst old b → IsTypedFirst new b
value_known {old = old} {new = new} w f b t =
    let x = some_is (slice_get old.variables b.0.0) t in
    let y = some_is (type_at old x.0.of) x.2 in
    subst (λ o. IsSomeAnd o (λ v. IsSomeAnd (type_at new v.of) (λ u. IsFirst new u v.of b.1))) (sym (front_stays w.variables b.0.0 x.0 x.1))
    (subst (λ o. IsSomeAnd o (λ u. IsFirst new u x.0.of b.1)) (sym (front_stays w.grows.types x.0.of.0 y.0 y.1)) (first_lasts w.grows f y.0 x.0.of b.1 x.0.of.0 y.1 y.2))

pub value_on : {old new : Core} → Wider old new → IsFounded old → (b : VariableId × FirstValue) → IsTypedFirst old b → IsTypedFirst new b
value_on w f b t = value_known (broader [] w) f b t

-- ---- bytes

size_on : {old : Core} (new : Core) → KeepsExtents old → IsFrontOf old.extents new.extents → (of : TypeId) → Row old.types of.0 → size_of new of ≡ size_of old of
size_on {old} new k f of lt = let e = k.count in ap (λ o. (unwrap_or o (plain 4 false)).size) (ap (λ xs. slice_get xs of.0) f.is ∙ slice_get-front old.extents f.more of.0 (omega (arith, lt, e)))

pub bytes_on : {old : Core} (new : Core) → KeepsExtents old → IsFrontOf old.extents new.extents → (vs : List Variable) → All (λ v. Row old.types v.of.0) vs → bytes_of new vs ≡ bytes_of old vs
bytes_on new k f [] a = refl
bytes_on {old} new k f (v ∷ vs) a =
    sum_by-cons (λ x. size_of new x.of) v vs
    ∙ ap₂ (λ n m. n + m) (size_on new k f v.of (All-head (λ x. Row old.types x.of.0) v vs a)) (bytes_on new k f vs (All-tail (λ x. Row old.types x.of.0) v vs a))
    ∙ sym (sum_by-cons (λ x. size_of old x.of) v vs)

rows_of_globals : (P : Variable → Type 0) (vs : List Variable) (gs : List VariableId) → All P vs → All P (flat_map (λ v. option_to_list (slice_get vs v.0)) gs)
rows_of_globals P vs [] a = All-nil P
rows_of_globals P vs (g ∷ gs) a = All-append P (option_to_list (slice_get vs g.0)) (flat_map (λ v. option_to_list (slice_get vs v.0)) gs) (one (slice_get vs g.0) refl) (rows_of_globals P vs gs a)
  where
    one : (o : Option Variable) → slice_get vs g.0 ≡ o → All P (option_to_list o)
    one None e = All-nil P
    one (Some v) e = All-cons P v [] (all_at P vs g.0 v a e) (All-nil P)

kept : (P : Variable → Type 0) (b : Bool) (v : Variable) (vs : List Variable) → P v → All P vs → All P (cond b (v ∷ vs) vs)
kept P true v vs p a = All-cons P v vs p a
kept P false v vs p a = a

all_filter : (P : Variable → Type 0) (test : Variable → Bool) (vs : List Variable) → All P vs → All P (filter test vs)
all_filter P test [] a = All-nil P
all_filter P test (v ∷ vs) a = kept P (test v) v (filter test vs) (All-head P v vs a) (all_filter P test vs (All-tail P v vs a))

typed_variables : {core : Core} → IsPeopled core → All (λ v. Row core.types v.of.0) core.variables
typed_variables {core} p = All-weaker (IsBareVariable core) (λ v. Row core.types v.of.0) (λ v x. x.0) core.variables p.variables

pub declared_rows : {core : Core} (i : Option Inside) → IsPeopled core → All (λ v. Row core.types v.of.0) (declared_in i core)
declared_rows {core} None p = rows_of_globals (λ v. Row core.types v.of.0) core.variables core.globals (typed_variables p)
declared_rows {core} (Some i) p = all_filter (λ v. Row core.types v.of.0) (λ v. is_declared v.role) (drop i.first core.variables) (All-drop (λ v. Row core.types v.of.0) i.first core.variables (typed_variables p))

same_declared : (old new : Core) (i : Option Inside) → new.variables ≡ old.variables → new.globals ≡ old.globals → declared_in i new ≡ declared_in i old
same_declared old new None e f = ap₂ (λ vs gs. flat_map (λ v. option_to_list (slice_get vs v.0)) gs) e f
same_declared old new (Some i) e f = ap (λ vs. filter (λ v. is_declared v.role) (drop i.first vs)) e

-- where variables and globals stay as they are
pub declared_bytes : {old : Core} (new : Core) (i : Option Inside) → IsTabled old → IsPeopled old → IsFrontOf old.extents new.extents → new.variables ≡ old.variables → new.globals ≡ old.globals → bytes_of new (declared_in i new) ≡ bytes_of old (declared_in i old)
declared_bytes {old} new i t p x e f = ap (bytes_of new) (same_declared old new i e f) ∙ bytes_on new t.extents x (declared_in i old) (declared_rows i p)

pub counts_on : (old new : Core) (i : Option Inside) (bytes : ℕ) → bytes_of new (declared_in i new) ≡ bytes_of old (declared_in i old) → Counts old i bytes → Counts new i bytes
counts_on old new i bytes e c le = subst (λ n. n ≤ bytes) (sym e) (c le)

-- ---- rows

pub bare_variable_on : {old new : Core} → Wider old new → (vs : List Variable) → All (IsBareVariable old) vs → All (IsBareVariable new) vs
bare_variable_on {old} {new} w vs a = All-weaker (IsBareVariable old) (IsBareVariable new) (λ v x. (front_row w.grows.types x.0, x.1)) vs a

result_row : {old new : Core} → Wider old new → (o : Option TypeId) → IfSome o (λ of. Row old.types of.0) → IfSome o (λ of. Row new.types of.0)
result_row w None x = tt
result_row w (Some of) x = front_row w.grows.types x

pub bare_routine_on : {old new : Core} → Wider old new → IsTabled old → IsPeopled old → (r : Routine) → IsBareRoutine old r → IsBareRoutine new r
bare_routine_on {old} {new} w t p r b = record {
  unit = (let le = b.unit in let more = w.units in omega (arith, le, more));
  owner = b.owner;
  enclosing = b.enclosing;
  body = b.body;
  runs = (front_fit r.parameters w.grows.parameters b.runs.0, front_fit r.variables w.variables b.runs.1);
  result = result_row w r.result b.result;
  locals = subst (λ n. n ≤ most_bytes) (sym e) b.locals;
}
  where
    run : List Variable
    run = rows old.variables r.variables

    typed : All (λ v. Row old.types v.of.0) (filter (λ v. is_declared v.role) run)
    typed = all_filter (λ v. Row old.types v.of.0) (λ v. is_declared v.role) run (All-take (λ v. Row old.types v.of.0) r.variables.count (drop r.variables.first old.variables) (All-drop (λ v. Row old.types v.of.0) r.variables.first old.variables (typed_variables p)))

    e : bytes_of new (filter (λ v. is_declared v.role) (rows new.variables r.variables)) ≡ bytes_of old (filter (λ v. is_declared v.role) run)
    e = ap (λ vs. bytes_of new (filter (λ v. is_declared v.role) vs)) (front_rows r.variables w.variables b.runs.1) ∙ bytes_on new t.extents w.grows.extents (filter (λ v. is_declared v.role) run) typed

pub bare_routines_on : {old new : Core} → Wider old new → IsTabled old → IsPeopled old → All (IsBareRoutine new) old.routines
bare_routines_on {old} {new} w t p = All-weaker (IsBareRoutine old) (IsBareRoutine new) (bare_routine_on w t p) old.routines p.routines

-- rows are put behind those of parameters, variables and globals
pub people_on : {old new : Core} → Wider old new → IsTabled old → IsPeopled old → (ps : List Parameter) (vs : List Variable) (gs : List VariableId) → new.parameters ≡ old.parameters ++ ps → new.variables ≡ old.variables ++ vs → new.globals ≡ old.globals ++ gs → new.routines ≡ old.routines → All (λ p. Row new.types p.of.0) ps → All (IsBareVariable new) vs → All (λ v. Row new.variables v.0) gs → bytes_of new (globals_of new) ≤ most_global_bytes → IsPeopled new
people_on {old} {new} w t p ps vs gs e f g h a b c room = record {
  parameters = subst (All (λ p. Row new.types p.of.0)) (sym e) (All-append (λ p. Row new.types p.of.0) old.parameters ps (All-weaker (λ p. Row old.types p.of.0) (λ p. Row new.types p.of.0) (λ p x. front_row w.grows.types x) old.parameters p.parameters) a);
  variables = subst (All (IsBareVariable new)) (sym f) (All-append (IsBareVariable new) old.variables vs (bare_variable_on w old.variables p.variables) b);
  routines = subst (All (IsBareRoutine new)) (sym h) (bare_routines_on w t p);
  globals = subst (All (λ v. Row new.variables v.0)) (sym g) (All-append (λ v. Row new.variables v.0) old.globals gs (All-weaker (λ v. Row old.variables v.0) (λ v. Row new.variables v.0) (λ v x. front_row w.variables x) old.globals p.globals) c);
  room = room;
}
