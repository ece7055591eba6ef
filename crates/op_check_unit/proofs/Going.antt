-- A loop has come so far that what the rest gives completes the whole.
use Rattle.std.proofs.Common.{◌≡◌, ℕ, pos, ◌<◌, ◌≤◌, ◌+◌, Bool, true, false, Result, Ok, Err, IfOk, List, [], ◌∷◌, ◌++◌, Option, Some, None, drop, drop-cons, add-one, get_or, map, reverse, length, arith, refl, sym, ap, subst, ◌∙◌}
use Rattle.std.proofs.lemmas.List.{drop_all, length-reverse, reverse-append}
use Rattle.op_base.specs.declared.memory_error.NoMemory.{NoMemory}
use Rattle.op_base.specs.declared.place.Place.{Place}
use Rattle.op_check_unit.specs.Declaring.{names_declared, one_type_declared, variable_meaning, variables_named}
use Rattle.op_check_unit.specs.Denoting.{denoted, field_lists, indices}
use Rattle.op_check_unit.specs.Headings.{form_means, head_by, head_means, no_parameters, own_name, parameter_groups, result_means}
use Rattle.op_check_unit.specs.Naming.{all_ahead, declared, declared_within, ended, with_ahead}
use Rattle.op_check_unit.specs.Records.{no_rows, one_field, record_of, some_fields}
use Rattle.op_check_unit.specs.Routines.{both_typed, headed, plain_declared}
use Rattle.op_check_unit.specs.Steps.{Declared, Declares, Given, Here, Leaves, Left, by, followed, here_of}
use Rattle.op_check_unit.specs.Types.{array_of, arrays, index_over, one_array, row, set_over, start_of_denoter, value_of, values}
use Rattle.op_check_unit.specs.declared.declarer.Declarer.{Declarer}
use Rattle.op_check_unit.specs.declared.heading.Head.{Head}
use Rattle.op_check_unit.specs.declared.heading.ParameterRows.{ParameterRows}
use Rattle.op_check_unit.specs.declared.record.FieldRows.{FieldRows}
use Rattle.op_core.specs.Faults.{kept, none}
use Rattle.op_core.specs.declared.ids.TypeId.{TypeId}
use Rattle.op_core.specs.declared.types.CoreType.{CoreType}
use Rattle.op_judgement.specs.Judgement.{with_part}
use Rattle.op_judgement.specs.Steps as step
use Rattle.op_judgement.specs.Steps.{Step, done, each, each_declaration, gather, judged}
use Rattle.op_tree.specs.Declaration.{Body, Declaration, Heading, Variables, declaration_of, declarations_of}
use Rattle.op_tree.specs.Denoter.{Denoter, array, record_, set, Denoters, FieldLists, denoter_of}
use Rattle.op_tree.specs.Lists.{denoters_of, field_lists_of}
use Rattle.op_tree.specs.declared.declaration.Declaration.{Declaration as RustDeclaration}
use Rattle.op_tree.specs.declared.denoter.Fields.{Fields}
use Rattle.op_tree.specs.declared.denoter.TypeDenoter.{TypeDenoter}
use Rattle.op_tree.specs.declared.heading.Directive.{Directive}
use Rattle.op_tree.specs.declared.heading.Parameter.{Parameter}
use Rattle.op_tree.specs.declared.position.Name.{Name}
use Rattle.op_tree.specs.declared.position.Position.{Position}
use Rattle.op_types.proofs.Folding.{next_of}

pub record Completes {A : Type 0} (whole rest : Given A) (old mid : Declarer) : Type 0 where
  pub completes : (new : Declarer) (t : Option A) → Left rest mid new t → Left whole old new t

-- a part, and what comes behind it
pub joined : {A B : Type 0} (g : Given A) (f : Option A → Here → Given B) (old mid new : Declarer) (t : Option A) (u : Option B) → Left g old mid t → Left (f t (here_of mid)) mid new u → Left (followed g f) old new u
joined g f old mid new t u a b =
    let h : Left (f g.typed g.here) mid new u = subst (λ x. Left (f g.typed x) mid new u) a.1.0 (subst (λ x. Left (f x (here_of mid)) mid new u) a.0 b) in
    (h.0, (h.1.0, h.1.1 ∙ ap (λ k. kept k (f g.typed g.here).faults) a.1.1))

-- the same, where a call gives what comes behind
pub joined_call : {A B R : Type 0} (g : Given A) (f : Option A → Here → Given B) (u : R → Option B) (old mid new : Declarer) (t : Option A) (r : Result R NoMemory) → Left g old mid t → IfOk r (λ x. Left (f t (here_of mid)) mid new (u x)) → IfOk r (λ x. Left (followed g f) old new (u x))
joined_call g f u old mid new t (Ok x) a b = joined g f old mid new t (u x) a b
joined_call g f u old mid new t (Err e) a b = b

pub joined_last : {A R : Type 0} (g : Given A) (f : Option A → Here → Given (Unit {0})) (old mid new : Declarer) (t : Option A) (r : Result R NoMemory) → Left g old mid t → IfOk r (λ x. Declared (f t (here_of mid)) mid new) → IfOk r (λ x. Declared (followed g f) old new)
joined_last g f old mid new t (Ok x) a b = (joined g f old mid new t (f t (here_of mid)).typed a (refl, b)).1
joined_last g f old mid new t (Err e) a b = b

-- a part behind a change of the state, which breaks no rule
pub behind_change : {A : Type 0} (g : Here → Step Here A) (h : Here) (old mid new : Declarer) (t : Option A) → here_of mid ≡ h → mid.sink ≡ old.sink → Leaves (g (here_of mid)) mid new t → Leaves (g h) old new t
behind_change g h old mid new t at sink a =
    let own : Leaves (g h) mid new t = subst (λ i. Leaves (g i) mid new t) at a in
    (own.0, (own.1.0, own.1.1 ∙ ap (λ s. kept s.kept (done (g h)).faults) sink))

pub call_behind : {R : Type 0} (g : Here → Step Here (Unit {0})) (h : Here) (old mid new : Declarer) (r : Result R NoMemory) → here_of mid ≡ h → mid.sink ≡ old.sink → IfOk r (λ x. Declares (g (here_of mid)) mid new) → IfOk r (λ x. Declares (g h) old new)
call_behind g h old mid new (Ok x) at sink a = (behind_change g h old mid new (done (g (here_of mid))).typed at sink (refl, a)).1
call_behind g h old mid new (Err e) at sink a = a

pub begins : {A : Type 0} (g : Given A) (d : Declarer) → Completes g g d d
begins g d = record { completes = λ new t h. h }

pub one_more : {A B : Type 0} (whole : Given B) (g : Given A) (f : Option A → Here → Given B) (old mid new : Declarer) (t : Option A) → Completes whole (followed g f) old mid → Left g mid new t → Completes whole (f t (here_of new)) old new
one_more whole g f old mid new t c a = record { completes = λ last u b. c.completes last u (joined g f mid new last t u a b) }

-- nothing is left
pub ends : {A : Type 0} (whole rest : Given A) (old mid : Declarer) (t : Option A) → Completes whole rest old mid → rest ≡ record { typed = t; here = here_of mid; faults = none } → Left whole old mid t
ends whole rest old mid t c e = c.completes mid t (subst (λ g. Left g mid mid t) (sym e) (refl, (refl, refl)))

-- ---- lists

-- the parts of a list
pub each_more : {A X : Type 0} (f : A → Here → Step Here (Unit {0})) (of : X → A) (xs : List X) (k : ℕ) (x : X) (whole : Given (Unit {0})) (old mid new : Declarer) → k < length xs → x ≡ get_or xs k x → Completes whole (done (each f (map of (drop k xs)) (here_of mid))) old mid → Declares (f (of x) (here_of mid)) mid new → Completes whole (done (each f (map of (drop (k + 1) xs)) (here_of new))) old new
each_more f of xs k x whole old mid new h e c d =
    one_more whole (done (f (of x) (here_of mid))) (λ t h. done (each f (map of (drop (k + 1) xs)) h)) old mid new (done (f (of x) (here_of mid))).typed
    (subst (λ ys. Completes whole (done (each f (map of ys) (here_of mid))) old mid) (next_of xs k x h e) c) (refl, d)

pub each_done : {A X : Type 0} (f : A → Here → Step Here (Unit {0})) (of : X → A) (xs : List X) (k : ℕ) (whole : Given (Unit {0})) (old mid : Declarer) → length xs ≤ k → Completes whole (done (each f (map of (drop k xs)) (here_of mid))) old mid → Declared whole old mid
each_done f of xs k whole old mid h c =
    (ends whole (done (each f (map of (drop k xs)) (here_of mid))) old mid (Some tt) c (ap (λ ys. done (each f (map of ys) (here_of mid))) (drop_all k xs h))).1

pub all_more : {A : Type 0} (f : A → Here → Step Here (Unit {0})) (xs : List A) (k : ℕ) (x : A) (whole : Given (Unit {0})) (old mid new : Declarer) → k < length xs → x ≡ get_or xs k x → Completes whole (done (each f (drop k xs) (here_of mid))) old mid → Declares (f x (here_of mid)) mid new → Completes whole (done (each f (drop (k + 1) xs) (here_of new))) old new
all_more f xs k x whole old mid new h e c d =
    one_more whole (done (f x (here_of mid))) (λ t h. done (each f (drop (k + 1) xs) h)) old mid new (done (f x (here_of mid))).typed
    (subst (λ ys. Completes whole (done (each f ys (here_of mid))) old mid) (next_of xs k x h e) c) (refl, d)

-- of numbers
pub numbers_more : {A : Type 0} (f : A → Here → Step Here (Unit {0})) (xs : List A) (k : ℕ) (d : A) (whole : Given (Unit {0})) (old mid new : Declarer) → k < length xs → Completes whole (done (each f (drop k xs) (here_of mid))) old mid → Declares (f (get_or xs k d) (here_of mid)) mid new → Completes whole (done (each f (drop (k + 1) xs) (here_of new))) old new
numbers_more f xs k d whole old mid new h c own =
    let x = get_or xs k d in
    let next : drop k xs ≡ x ∷ drop (k + 1) xs = rw add-one (drop-cons xs k d h) in
    one_more whole (done (f x (here_of mid))) (λ t h. done (each f (drop (k + 1) xs) h)) old mid new (done (f x (here_of mid))).typed
    (subst (λ ys. Completes whole (done (each f ys (here_of mid))) old mid) next c) (refl, own)

pub all_done : {A : Type 0} (f : A → Here → Step Here (Unit {0})) (xs : List A) (k : ℕ) (whole : Given (Unit {0})) (old mid : Declarer) → length xs ≤ k → Completes whole (done (each f (drop k xs) (here_of mid))) old mid → Declared whole old mid
all_done f xs k whole old mid h c =
    (ends whole (done (each f (drop k xs) (here_of mid))) old mid (Some tt) c (ap (λ ys. done (each f ys (here_of mid))) (drop_all k xs h))).1

-- the parts of a list, put behind what there is so far
pub gather_more : {A B : Type 0} (f : A → B → Here → Step Here B) (xs : List A) (k : ℕ) (x : A) (b c : B) (whole : Given B) (old mid new : Declarer) → k < length xs → x ≡ get_or xs k x → Completes whole (done (gather f (drop k xs) b (here_of mid))) old mid → Leaves (f x b (here_of mid)) mid new (Some c) → Completes whole (done (gather f (drop (k + 1) xs) c (here_of new))) old new
gather_more f xs k x b c whole old mid new h e w d =
    one_more whole (done (f x b (here_of mid))) (by (λ b h. done (gather f (drop (k + 1) xs) b h))) old mid new (Some c)
    (subst (λ ys. Completes whole (done (gather f ys b (here_of mid))) old mid) (next_of xs k x h e) w) d

pub gather_done : {A B : Type 0} (f : A → B → Here → Step Here B) (xs : List A) (k : ℕ) (b : B) (whole : Given B) (old mid : Declarer) → length xs ≤ k → Completes whole (done (gather f (drop k xs) b (here_of mid))) old mid → Left whole old mid (Some b)
gather_done f xs k b whole old mid h w =
    ends whole (done (gather f (drop k xs) b (here_of mid))) old mid (Some b) w (ap (λ ys. done (gather f ys b (here_of mid))) (drop_all k xs h))

-- the declarations of a list
pub declarations_more : (f : Declaration → Here → Step Here (Unit {0})) (xs : List RustDeclaration) (k : ℕ) (x : RustDeclaration) (whole : Given (Unit {0})) (old mid new : Declarer) → k < length xs → x ≡ get_or xs k x → Completes whole (done (each_declaration f (declarations_of (drop k xs)) (here_of mid))) old mid → Declares (f (declaration_of x) (here_of mid)) mid new → Completes whole (done (each_declaration f (declarations_of (drop (k + 1) xs)) (here_of new))) old new
declarations_more f xs k x whole old mid new h e c d =
    one_more whole (done (f (declaration_of x) (here_of mid))) (λ t h. done (each_declaration f (declarations_of (drop (k + 1) xs)) h)) old mid new (done (f (declaration_of x) (here_of mid))).typed
    (subst (λ ys. Completes whole (done (each_declaration f (declarations_of ys) (here_of mid))) old mid) (next_of xs k x h e) c) (refl, d)

pub declarations_done : (f : Declaration → Here → Step Here (Unit {0})) (xs : List RustDeclaration) (k : ℕ) (whole : Given (Unit {0})) (old mid : Declarer) → length xs ≤ k → Completes whole (done (each_declaration f (declarations_of (drop k xs)) (here_of mid))) old mid → Declared whole old mid
declarations_done f xs k whole old mid h c =
    (ends whole (done (each_declaration f (declarations_of (drop k xs)) (here_of mid))) old mid (Some tt) c (ap (λ ys. done (each_declaration f (declarations_of ys) (here_of mid))) (drop_all k xs h))).1

-- the values of an enumeration
pub values_more : (of : TypeId) (xs : List Name) (k : ℕ) (x : Name) (whole : Given (Unit {0})) (old mid new : Declarer) → k < length xs → x ≡ get_or xs k x → Completes whole (done (values of k (drop k xs) (here_of mid))) old mid → Declares (declared_within x (value_of of (pos k)) (here_of mid)) mid new → Completes whole (done (values of (k + 1) (drop (k + 1) xs) (here_of new))) old new
values_more of xs k x whole old mid new h e c d =
    one_more whole (done (declared_within x (value_of of (pos k)) (here_of mid))) (λ t h. done (values of (k + 1) (drop (k + 1) xs) h)) old mid new (done (declared_within x (value_of of (pos k)) (here_of mid))).typed
    (subst (λ ys. Completes whole (done (values of k ys (here_of mid))) old mid) (next_of xs k x h e) c) (refl, d)

pub values_done : (of : TypeId) (xs : List Name) (k : ℕ) (whole : Given (Unit {0})) (old mid : Declarer) → length xs ≤ k → Completes whole (done (values of k (drop k xs) (here_of mid))) old mid → Declared whole old mid
values_done of xs k whole old mid h c =
    (ends whole (done (values of k (drop k xs) (here_of mid))) old mid (Some tt) c (ap (λ ys. done (values of k ys (here_of mid))) (drop_all k xs h))).1

-- the fields of a record, of one type
pub fields_more : (t : Option TypeId) (xs : List Name) (k : ℕ) (x : Name) (r s : FieldRows) (whole : Given FieldRows) (old mid new : Declarer) → k < length xs → x ≡ get_or xs k x → Completes whole (done (some_fields t (drop k xs) r (here_of mid))) old mid → Leaves (one_field t x r (here_of mid)) mid new (Some s) → Completes whole (done (some_fields t (drop (k + 1) xs) s (here_of new))) old new
fields_more t xs k x r s whole old mid new h e c d =
    one_more whole (done (one_field t x r (here_of mid))) (by (λ r h. done (some_fields t (drop (k + 1) xs) r h))) old mid new (Some s)
    (subst (λ ys. Completes whole (done (some_fields t ys r (here_of mid))) old mid) (next_of xs k x h e) c) d

pub fields_done : (t : Option TypeId) (xs : List Name) (k : ℕ) (r : FieldRows) (whole : Given FieldRows) (old mid : Declarer) → length xs ≤ k → Completes whole (done (some_fields t (drop k xs) r (here_of mid))) old mid → Left whole old mid (Some r)
fields_done t xs k r whole old mid h c =
    ends whole (done (some_fields t (drop k xs) r (here_of mid))) old mid (Some r) c (ap (λ ys. done (some_fields t ys r (here_of mid))) (drop_all k xs h))

-- the lists of fields of a record
pub lists_more : (own : Option Name) (xs : List Fields) (k : ℕ) (x : Fields) (r s : FieldRows) (whole : Given FieldRows) (old mid far new : Declarer) (t : Option TypeId) → k < length xs → x ≡ get_or xs k x → Completes whole (done (field_lists own (field_lists_of (drop k xs)) r (here_of mid))) old mid → Leaves (denoted own true (denoter_of x.denoter) (here_of mid)) mid far t → Leaves (some_fields t x.names r (here_of far)) far new (Some s) → Completes whole (done (field_lists own (field_lists_of (drop (k + 1) xs)) s (here_of new))) old new
lists_more own xs k x r s whole old mid far new t h e c a b =
    one_more whole (followed (done (denoted own true (denoter_of x.denoter) (here_of mid))) (λ t h. done (some_fields t x.names r h))) (by (λ r h. done (field_lists own (field_lists_of (drop (k + 1) xs)) r h))) old mid new (Some s)
    (subst (λ ys. Completes whole (done (field_lists own (field_lists_of ys) r (here_of mid))) old mid) (next_of xs k x h e) c)
    (joined (done (denoted own true (denoter_of x.denoter) (here_of mid))) (λ t h. done (some_fields t x.names r h)) mid far new t (Some s) a b)

pub lists_done : (own : Option Name) (xs : List Fields) (k : ℕ) (r : FieldRows) (whole : Given FieldRows) (old mid : Declarer) → length xs ≤ k → Completes whole (done (field_lists own (field_lists_of (drop k xs)) r (here_of mid))) old mid → Left whole old mid (Some r)
lists_done own xs k r whole old mid h c =
    ends whole (done (field_lists own (field_lists_of (drop k xs)) r (here_of mid))) old mid (Some r) c (ap (λ ys. done (field_lists own (field_lists_of ys) r (here_of mid))) (drop_all k xs h))

-- the indices of an array
pub indices_more : (own : Option Name) (xs : List TypeDenoter) (k : ℕ) (x : TypeDenoter) (is js : List (Option TypeId)) (whole : Given (List (Option TypeId))) (old mid far new : Declarer) (t u : Option TypeId) → k < length xs → x ≡ get_or xs k x → js ≡ is ++ u ∷ [] → Completes whole (done (indices own (reverse is) (denoters_of (drop k xs)) (here_of mid))) old mid → Leaves (denoted own false (denoter_of x) (here_of mid)) mid far t → Leaves (judged (here_of far) (with_part (index_over far.core (start_of_denoter (denoter_of x))) t)) far new u → Completes whole (done (indices own (reverse js) (denoters_of (drop (k + 1) xs)) (here_of new))) old new
indices_more own xs k x is js whole old mid far new t u h e j c a b =
    let index : Option TypeId → Here → Given TypeId = λ t h. done (judged h (with_part (index_over h.core (start_of_denoter (denoter_of x))) t)) in
    subst (λ ys. Completes whole (done (indices own ys (denoters_of (drop (k + 1) xs)) (here_of new))) old new) (sym (ap reverse j ∙ reverse-append is (u ∷ [])))
    (one_more whole (followed (done (denoted own false (denoter_of x) (here_of mid))) index) (λ t h. done (indices own (t ∷ reverse is) (denoters_of (drop (k + 1) xs)) h)) old mid new u
    (subst (λ ys. Completes whole (done (indices own (reverse is) (denoters_of ys) (here_of mid))) old mid) (next_of xs k x h e) c)
    (joined (done (denoted own false (denoter_of x) (here_of mid))) index mid far new t u a b))

pub indices_done : (own : Option Name) (xs : List TypeDenoter) (k : ℕ) (is : List (Option TypeId)) (whole : Given (List (Option TypeId))) (old mid : Declarer) → length xs ≤ k → Completes whole (done (indices own is (denoters_of (drop k xs)) (here_of mid))) old mid → Left whole old mid (Some is)
indices_done own xs k is whole old mid h c =
    ends whole (done (indices own is (denoters_of (drop k xs)) (here_of mid))) old mid (Some is) c (ap (λ ys. done (indices own is (denoters_of ys) (here_of mid))) (drop_all k xs h))

-- arrays, from the last index on
pub arrays_more : (place : Place) (is js : List (Option TypeId)) (i t u : Option TypeId) (whole : Given TypeId) (old mid new : Declarer) → is ≡ js ++ i ∷ [] → Completes whole (done (arrays place t (reverse is) (here_of mid))) old mid → Leaves (one_array place i t (here_of mid)) mid new u → Completes whole (done (arrays place u (reverse js) (here_of new))) old new
arrays_more place is js i t u whole old mid new e c a =
    one_more whole (done (one_array place i t (here_of mid))) (λ t h. done (arrays place t (reverse js) h)) old mid new u
    (subst (λ ys. Completes whole (done (arrays place t ys (here_of mid))) old mid) (ap reverse e ∙ reverse-append js (i ∷ [])) c) a

some_reversed : {A : Type 0} (is : List A) → (length is ≡ 0 → ⊥) → (i : A) × (js : List A) × (reverse is ≡ i ∷ js)
some_reversed {A = A} is n = by_reverse (reverse is) refl
  where
    by_reverse : (ys : List A) → reverse is ≡ ys → (i : A) × (js : List A) × (reverse is ≡ i ∷ js)
    by_reverse (y ∷ ys) e = (y, ys, e)
    by_reverse [] e = absurd (n (sym (length-reverse is) ∙ ap length e))

pub arrays_done : (place : Place) (is js : List (Option TypeId)) (element of : Option TypeId) (old mid : Declarer) → (length is ≡ 0 → ⊥) → length js ≡ 0 → Completes (done (arrays place element (reverse is) (here_of old))) (done (arrays place of (reverse js) (here_of mid))) old mid → Leaves (array_of place (reverse is) element (here_of old)) old mid of
arrays_done place is [] element of old mid n h c =
    let r = some_reversed is n in
    subst (λ ys. Leaves (array_of place ys element (here_of old)) old mid of) (sym r.2)
    (subst (λ ys. Leaves (arrays place element ys (here_of old)) old mid of) r.2
    (ends (done (arrays place element (reverse is) (here_of old))) (done (arrays place of [] (here_of mid))) old mid of c refl))
arrays_done place is (j ∷ js) element of old mid n h c = absurd (omega (arith, h))

-- ---- types of several parts

pub set_denoted : (own : Option Name) (inside : Bool) (d base : Denoter) (p : Position) (of : Option TypeId) (t : Option CoreType) (place : Place) (old mid far new : Declarer) (r : Result (Option TypeId) NoMemory) → d ≡ set p base → Leaves (denoted own false base (here_of old)) old mid of → place ≡ start_of_denoter base → Leaves (judged (here_of mid) (with_part (set_over mid.core place) of)) mid far t → IfOk r (Leaves (step.by row t (here_of far)) far new) → IfOk r (Leaves (denoted own inside d (here_of old)) old new)
set_denoted own inside d base p of t place old mid far new (Err x) q a s b c = c
set_denoted own inside d base p of t place old mid far new (Ok u) q a s b c =
    subst (λ d. Leaves (denoted own inside d (here_of old)) old new u) (sym q)
    (joined (done (denoted own false base (here_of old))) (λ t h. followed (done (judged h (with_part (set_over h.core (start_of_denoter base)) t))) (by (λ t h. done (row t h)))) old mid new of u a
    (joined (done (judged (here_of mid) (with_part (set_over mid.core (start_of_denoter base)) of))) (by (λ t h. done (row t h))) mid far new t u (subst (λ place. Leaves (judged (here_of mid) (with_part (set_over mid.core place) of)) mid far t) s b) c))

pub array_denoted : (own : Option Name) (inside : Bool) (d e : Denoter) (p : Position) (packed : Bool) (ds : Denoters) (is : List (Option TypeId)) (t : Option TypeId) (old mid far new : Declarer) (r : Result (Option TypeId) NoMemory) → d ≡ array p packed ds e → Leaves (indices own [] ds (here_of old)) old mid (Some is) → Leaves (denoted own true e (here_of mid)) mid far t → IfOk r (Leaves (array_of p.place is t (here_of far)) far new) → IfOk r (Leaves (denoted own inside d (here_of old)) old new)
array_denoted own inside d e p packed ds is t old mid far new (Err x) q a b c = c
array_denoted own inside d e p packed ds is t old mid far new (Ok u) q a b c =
    subst (λ d. Leaves (denoted own inside d (here_of old)) old new u) (sym q)
    (joined (done (indices own [] ds (here_of old))) (by (λ is h. followed (done (denoted own true e h)) (λ t h. done (array_of p.place is t h)))) old mid new (Some is) u a
    (joined (done (denoted own true e (here_of mid))) (λ t h. done (array_of p.place is t h)) mid far new t u b c))

pub record_denoted : (own : Option Name) (inside : Bool) (d : Denoter) (p : Position) (packed : Bool) (lists : FieldLists) (empty rows : FieldRows) (old mid new : Declarer) (r : Result (Option TypeId) NoMemory) → d ≡ record_ p packed lists → empty ≡ no_rows → Leaves (field_lists own lists empty (here_of old)) old mid (Some rows) → IfOk r (Leaves (record_of p.place rows (here_of mid)) mid new) → IfOk r (Leaves (denoted own inside d (here_of old)) old new)
record_denoted own inside d p packed lists empty rows old mid new (Err x) q n a c = c
record_denoted own inside d p packed lists empty rows old mid new (Ok u) q n a c =
    subst (λ d. Leaves (denoted own inside d (here_of old)) old new u) (sym q)
    (joined (done (field_lists own lists no_rows (here_of old))) (by (λ r h. done (record_of p.place r h))) old mid new (Some rows) u (subst (λ r. Leaves (field_lists own lists r (here_of old)) old mid (Some rows)) n a) c)

-- ---- variables

pub variables_more : (t : Option TypeId) (first : ℕ) (xs : List Name) (k : ℕ) (x : Name) (whole : Given (Unit {0})) (old mid new : Declarer) → k < length xs → x ≡ get_or xs k x → Completes whole (done (variables_named t (first + k) (drop k xs) (here_of mid))) old mid → Declares (declared x (variable_meaning t (first + k)) (here_of mid)) mid new → Completes whole (done (variables_named t (first + (k + 1)) (drop (k + 1) xs) (here_of new))) old new
variables_more t first xs k x whole old mid new h e c d =
    let n : first + k + 1 ≡ first + (k + 1) = omega arith in
    subst (λ m. Completes whole (done (variables_named t m (drop (k + 1) xs) (here_of new))) old new) n
    (one_more whole (done (declared x (variable_meaning t (first + k)) (here_of mid))) (λ u h. done (variables_named t (first + k + 1) (drop (k + 1) xs) h)) old mid new (done (declared x (variable_meaning t (first + k)) (here_of mid))).typed
    (subst (λ ys. Completes whole (done (variables_named t (first + k) ys (here_of mid))) old mid) (next_of xs k x h e) c) (refl, d))

pub variables_done : (t : Option TypeId) (first : ℕ) (xs : List Name) (k : ℕ) (whole : Given (Unit {0})) (old mid : Declarer) → length xs ≤ k → Completes whole (done (variables_named t (first + k) (drop k xs) (here_of mid))) old mid → Declared whole old mid
variables_done t first xs k whole old mid h c =
    (ends whole (done (variables_named t (first + k) (drop k xs) (here_of mid))) old mid (Some tt) c (ap (λ ys. done (variables_named t (first + k) ys (here_of mid))) (drop_all k xs h))).1

-- variables of one type
pub one_type_joined : (v : Variables) (old begun mid last new : Declarer) (t : Option TypeId) (r : Result (Unit {0}) NoMemory) → here_of begun ≡ all_ahead v.names (here_of old) → begun.sink ≡ old.sink → Leaves (denoted None false v.denoter (here_of begun)) begun mid t → here_of last ≡ ended (here_of mid) → last.sink ≡ mid.sink → IfOk r (λ x. Declares (names_declared t v.value v.names (here_of last)) last new) → IfOk r (λ x. Declares (one_type_declared v (here_of old)) old new)
one_type_joined v old begun mid last new t r at sink a end end_sink b =
    joined_last (done (denoted None false v.denoter (all_ahead v.names (here_of old)))) (λ t h. done (names_declared t v.value v.names (ended h))) old mid new t r
    (behind_change (denoted None false v.denoter) (all_ahead v.names (here_of old)) old begun mid t at sink a)
    (call_behind (names_declared t v.value v.names) (ended (here_of mid)) mid last new r end end_sink b)

-- ---- routines

-- the parameters of a heading, and its result
pub head_joined : (x : Heading) (own : Option Name) (ps : List Parameter) (empty rows : ParameterRows) (o : Option (Option TypeId)) (old mid far new : Declarer) (u : Option Head) → own ≡ own_name x.kind x.name → ps ≡ x.parameters → empty ≡ no_parameters → Leaves (parameter_groups own ps empty (here_of old)) old mid (Some rows) → Leaves (result_means x.result (here_of mid)) mid far o → Left (by (λ t h. done (head_by x.kind t rows h)) o (here_of far)) far new u → Leaves (head_means x (here_of old)) old new u
head_joined x own ps empty rows o old mid far new u own_is ps_is empty_is a b c =
    let groups : Leaves (parameter_groups (own_name x.kind x.name) x.parameters no_parameters (here_of old)) old mid (Some rows) =
    subst (λ n. Leaves (parameter_groups n x.parameters no_parameters (here_of old)) old mid (Some rows)) own_is
    (subst (λ qs. Leaves (parameter_groups own qs no_parameters (here_of old)) old mid (Some rows)) ps_is
    (subst (λ r. Leaves (parameter_groups own ps r (here_of old)) old mid (Some rows)) empty_is a)) in
    joined (done (parameter_groups (own_name x.kind x.name) x.parameters no_parameters (here_of old))) (by (λ r h. followed (done (result_means x.result h)) (by (λ t h. done (head_by x.kind t r h))))) old mid new (Some rows) u groups
    (joined (done (result_means x.result (here_of mid))) (by (λ t h. done (head_by x.kind t rows h))) mid far new o u b c)

pub head_last : (x : Heading) (own : Option Name) (ps : List Parameter) (empty rows : ParameterRows) (o : Option (Option TypeId)) (of : Option TypeId) (old mid far new : Declarer) (r : Result (Option Head) NoMemory) → own ≡ own_name x.kind x.name → ps ≡ x.parameters → empty ≡ no_parameters → Leaves (parameter_groups own ps empty (here_of old)) old mid (Some rows) → Leaves (result_means x.result (here_of mid)) mid far o → o ≡ Some of → IfOk r (Leaves (head_by x.kind of rows (here_of far)) far new) → IfOk r (Leaves (head_means x (here_of old)) old new)
head_last x own ps empty rows o of old mid far new (Ok u) own_is ps_is empty_is a b is c =
    head_joined x own ps empty rows (Some of) old mid far new u own_is ps_is empty_is a (subst (Leaves (result_means x.result (here_of mid)) mid far) is b) c
head_last x own ps empty rows o of old mid far new (Err e) own_is ps_is empty_is a b is c = c

-- a heading, and the routine by what it says
pub plain_joined : (x : Heading) (ds : List Directive) (b : Body) (t : Option (Unit {0})) (u : Option Head) (old begun mid far last new : Declarer) (r : Result (Unit {0}) NoMemory) → here_of begun ≡ with_ahead x.name (here_of old) → begun.sink ≡ old.sink → Leaves (judged (here_of begun) (form_means x ds)) begun mid t → Leaves (head_means x (here_of mid)) mid far u → here_of last ≡ ended (here_of far) → last.sink ≡ far.sink → IfOk r (λ y. Declares (headed x.name (both_typed t u) b (here_of last)) last new) → IfOk r (λ y. Declares (plain_declared x ds b (here_of old)) old new)
plain_joined x ds b t u old begun mid far last new r at sink a c end end_sink k =
    joined_last (done (judged (with_ahead x.name (here_of old)) (form_means x ds))) (λ t h. followed (done (head_means x h)) (λ u h. done (headed x.name (both_typed t u) b (ended h)))) old mid new t r
    (behind_change (λ h. judged h (form_means x ds)) (with_ahead x.name (here_of old)) old begun mid t at sink a)
    (joined_last (done (head_means x (here_of mid))) (λ u h. done (headed x.name (both_typed t u) b (ended h))) mid far new u r c
    (call_behind (headed x.name (both_typed t u) b) (ended (here_of far)) far last new r end end_sink k))
