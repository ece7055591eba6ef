-- The index of names.
use Rattle.std.proofs.Common.{◌≡◌, ℕ, zero, suc, ◌<◌, ◌≤◌, nat_le, Bool, true, false, cond, drop, get_or, is_some, List, [], ◌∷◌, ◌++◌, length, map, min, slice_get, take, Option, Some, None, if◌then◌else◌, Vec, refl, sym, ap, subst, ◌∙◌, ◌⊎◌, inl, inr, arith, append_assoc, ap₂, ◌+◌}
use Rattle.std.proofs.Math.Nat.{min_comm}
use Rattle.std.proofs.Math.Seq.{take-length}
use Rattle.std.proofs.lemmas.List.{drop-map, drop_min, get_or-map, length-map, take-map, take-take, take_min}
use Rattle.std.proofs.lemmas.Option.{get_or_from_slice_get, slice_get_read, slice_get_within}
use Rattle.std.proofs.lemmas.Slice.Eq.{bytes_eq-Decides}
use Rattle.std.specs.Option.{option_flatten, option_map, option_or}
use Rattle.std.specs.Str.{bytes_eq}
use Rattle.std.specs.declared.alloc.Global.{Global}
use Rattle.indexmap.specs.IndexMap.{IndexMap, get, Updates}
use Rattle.op_base.proofs.Lists.{slice_get-take_is}
use Rattle.op_types.proofs.Folding.{next_of}
use Rattle.op_types.specs.Names.{Agrees, Named, named, meaning_of, last_at, last_named}
use Rattle.op_types.specs.declared.names.Declared.{Declared}
use Rattle.op_types.specs.declared.visible.Meaning.{Meaning}

-- ---- one declaration more

one_more : (x d : Declared) (xs : List Declared) (name : List ℕ) (b : Bool) → last_at (xs ++ d ∷ []) name ≡ (if b then Some (length xs) else last_at xs name) → last_at ((x ∷ xs) ++ d ∷ []) name ≡ (if b then Some (length (x ∷ xs)) else last_at (x ∷ xs) name)
one_more x d xs name true h = ap (λ l. option_or (option_map suc l) (if bytes_eq x.name.items name then Some 0 else None)) h
one_more x d xs name false h = ap (λ l. option_or (option_map suc l) (if bytes_eq x.name.items name then Some 0 else None)) h

last_append : (ds : List Declared) (d : Declared) (name : List ℕ) → last_at (ds ++ d ∷ []) name ≡ (if bytes_eq d.name.items name then Some (length ds) else last_at ds name)
last_append [] d name = refl
last_append (x ∷ xs) d name = one_more x d xs name (bytes_eq d.name.items name) (last_append xs d name)

-- ---- what the last one stands for

-- what stands at the number of the last one of a name
abbrev Leads : List Named → List ℕ → Option ℕ → Type 0
Leads ns name None = meaning_of ns name ≡ None
Leads ns name (Some k) = (n : Named) × (slice_get ns k ≡ Some n) × (n.name ≡ name) × (meaning_of ns name ≡ Some n.meaning)

step : (n : Named) (ns : List Named) (name : List ℕ) (l : Option ℕ) (b : Bool) → bytes_eq n.name name ≡ b → Leads ns name l → Leads (n ∷ ns) name (option_or (option_map suc l) (if b then Some 0 else None))
step n ns name (Some k) b e h = (h.0, h.1, h.2, ap (λ m. option_or m (if bytes_eq n.name name then Some n.meaning else None)) h.3)
step n ns name None true e h = (n, refl, (bytes_eq-Decides n.name name).0 e, ap (λ m. option_or m (if bytes_eq n.name name then Some n.meaning else None)) h ∙ ap (λ b. if b then Some n.meaning else None) e)
step n ns name None false e h = ap (λ m. option_or m (if bytes_eq n.name name then Some n.meaning else None)) h ∙ ap (λ b. if b then Some n.meaning else None) e

leads : (ns : List Named) (name : List ℕ) → Leads ns name (last_named ns name)
leads [] name = refl
leads (n ∷ ns) name = step n ns name (last_named ns name) (bytes_eq n.name name) refl (leads ns name)

-- ---- entering and leaving

abbrev same : Vec ℕ Global → Vec ℕ Global → Bool
same a b = bytes_eq a.items b.items

-- what stands in a list with one more
at_append : (ds : List Declared) (d : Declared) (n : ℕ) (e : Declared) → slice_get (ds ++ d ∷ []) n ≡ Some e → ((slice_get ds n ≡ Some e) × (take n (ds ++ d ∷ []) ≡ take n ds)) ⊎ ((d ≡ e) × (take n (ds ++ d ∷ []) ≡ ds))
at_append [] d zero e h = inr (cc, refl)
at_append [] d (suc n) e h = absurd (cc)
at_append (x ∷ xs) d zero e h = inl (h, refl)
at_append (x ∷ xs) d (suc n) e h = behind x (at_append xs d n e h)
  where
    behind : (x : Declared) → ((slice_get xs n ≡ Some e) × (take n (xs ++ d ∷ []) ≡ take n xs)) ⊎ ((d ≡ e) × (take n (xs ++ d ∷ []) ≡ xs)) → ((slice_get xs n ≡ Some e) × (take (suc n) (x ∷ (xs ++ d ∷ [])) ≡ take (suc n) (x ∷ xs))) ⊎ ((d ≡ e) × (take (suc n) (x ∷ (xs ++ d ∷ [])) ≡ x ∷ xs))
    behind x (inl g) = inl (g.0, ap (λ t. x ∷ t) g.1)
    behind x (inr g) = inr (g.0, ap (λ t. x ∷ t) g.1)

in_front : (ds : List Declared) (d : Declared) (n : ℕ) (e : Declared) → slice_get ds n ≡ Some e → (slice_get (ds ++ d ∷ []) n ≡ Some e) × (take n (ds ++ d ∷ []) ≡ take n ds)
in_front [] d n e h = absurd (cc)
in_front (x ∷ xs) d zero e h = (h, refl)
in_front (x ∷ xs) d (suc n) e h = let g = in_front xs d n e h in (g.0, ap (λ t. x ∷ t) g.1)

last_one : (ds : List Declared) (d : Declared) → (slice_get (ds ++ d ∷ []) (length ds) ≡ Some d) × (take (length ds) (ds ++ d ∷ []) ≡ ds)
last_one [] d = (refl, refl)
last_one (x ∷ xs) d = let g = last_one xs d in (g.0, ap (λ t. x ∷ t) g.1)

put : (b : Bool) (n : Option ℕ) (o : Option (Option ℕ)) → option_flatten (cond b (Some n) o) ≡ (if b then n else option_flatten o)
put true n o = refl
put false n o = refl

hides_more : (ds : List Declared) (d : Declared) → ((n : ℕ) (e : Declared) → slice_get ds n ≡ Some e → e.hides ≡ last_at (take n ds) e.name.items) → d.hides ≡ last_at ds d.name.items → (n : ℕ) (e : Declared) → slice_get (ds ++ d ∷ []) n ≡ Some e → e.hides ≡ last_at (take n (ds ++ d ∷ [])) e.name.items
hides_more ds d old own n e h = elim (at_append ds d n e h) [
  | inl g ↦ old n e g.0 ∙ ap (λ t. last_at t e.name.items) (sym g.1)
  | inr g ↦ subst (λ e. e.hides ≡ last_at (take n (ds ++ d ∷ [])) e.name.items) g.0 (own ∙ ap (λ t. last_at t d.name.items) (sym g.1))
]

pub entered_agrees : {S : Type 0} (ds : List Declared) (old new : IndexMap (Vec ℕ Global) (Option ℕ) S) (d : Declared) (key : Vec ℕ Global) (n : ℕ) → n ≡ length ds → Agrees ds old → Updates same old new key (Some (Some n)) → d.hides ≡ option_flatten (get same old key) → d.name.items ≡ key.items → Agrees (ds ++ d ∷ []) new
entered_agrees ds old new d key n l a u h e = record {
  finds = λ q.
      ap option_flatten (u.0 q)
      ∙ put (same key q) (Some n) (get same old q)
      ∙ ap (λ n. if same key q then Some n else option_flatten (get same old q)) l
      ∙ ap (λ l. if same key q then Some (length ds) else l) (a.finds q)
      ∙ ap (λ k. if bytes_eq k q.items then Some (length ds) else last_at ds q.items) (sym e)
      ∙ sym (last_append ds d q.items);
  hides = hides_more ds d a.hides (h ∙ a.finds key ∙ ap (last_at ds) (sym e));
}

own_hides : (ds : List Declared) (d : Declared) → ((n : ℕ) (e : Declared) → slice_get (ds ++ d ∷ []) n ≡ Some e → e.hides ≡ last_at (take n (ds ++ d ∷ [])) e.name.items) → d.hides ≡ last_at ds d.name.items
own_hides ds d h = let g = last_one ds d in h (length ds) d g.0 ∙ ap (λ t. last_at t d.name.items) g.1

restored : (ds : List Declared) (d : Declared) (name : List ℕ) (b : Bool) → bytes_eq d.name.items name ≡ b → d.hides ≡ last_at ds d.name.items → (if b then d.hides else last_at (ds ++ d ∷ []) name) ≡ last_at ds name
restored ds d name true e own = own ∙ ap (last_at ds) ((bytes_eq-Decides d.name.items name).0 e)
restored ds d name false e own = last_append ds d name ∙ ap (λ b. if b then Some (length ds) else last_at ds name) e

pub left_agrees : {S : Type 0} (all ds : List Declared) (old new : IndexMap (Vec ℕ Global) (Option ℕ) S) (d : Declared) → all ≡ ds ++ d ∷ [] → Agrees all old → Updates same old new d.name (Some d.hides) → Agrees ds new
left_agrees all ds old new d is b u = let a = subst (λ xs. Agrees xs old) is b in record {
  finds = λ q.
      ap option_flatten (u.0 q)
      ∙ put (same d.name q) d.hides (get same old q)
      ∙ ap (λ l. if same d.name q then d.hides else l) (a.finds q)
      ∙ restored ds d q.items (same d.name q) refl (own_hides ds d a.hides);
  hides = λ n e h. let g = in_front ds d n e h in a.hides n e g.0 ∙ ap (λ t. last_at t e.name.items) g.1;
}

pub present : {S : Type 0} (all ds : List Declared) (old : IndexMap (Vec ℕ Global) (Option ℕ) S) (d : Declared) → all ≡ ds ++ d ∷ [] → Agrees all old → get same old d.name ≡ None → ⊥
present all ds old d is b h =
    let a = subst (λ xs. Agrees xs old) is b in
    let e = sym (ap option_flatten h) ∙ a.finds d.name ∙ last_append ds d d.name.items ∙ ap (λ b. if b then Some (length ds) else last_at ds d.name.items) ((bytes_eq-Decides d.name.items d.name.items).1 refl) in
    absurd (cc)

-- ---- the last one of a name among the first ones

-- the number of the last one of a name is that of a declaration
pub lies : (ds : List Declared) (within : ℕ) (name : List ℕ) (k : ℕ) → Some k ≡ last_named (take within (map named ds)) name → k < length ds
lies ds within name k h =
    let l = subst (Leads (take within (map named ds)) name) (sym h) (leads (take within (map named ds)) name) in
    subst (λ m. k < m) (length-map ds named) (slice_get_within (map named ds) k l.0 (slice_get-take_is within (map named ds) k l.0 l.1).1)

-- the last one of a name is one of that name, and what it stands for is what the name stands for
pub stands : (ds : List Declared) (within : ℕ) (name : List ℕ) (k : ℕ) (d : Declared) → Some k ≡ last_named (take within (map named ds)) name → d ≡ get_or ds k d → (d.name.items ≡ name) × (Some d.meaning ≡ meaning_of (take within (map named ds)) name)
stands ds within name k d h e =
    let l = subst (Leads (take within (map named ds)) name) (sym h) (leads (take within (map named ds)) name) in
    let is : named d ≡ l.0 =
    ap named e ∙ sym (get_or-map named ds k d (named d) (lies ds within name k h)) ∙ get_or_from_slice_get (map named ds) k l.0 (named d) (slice_get-take_is within (map named ds) k l.0 l.1).1 in
    (ap (λ n. n.name) is ∙ l.2, ap (λ n. Some n.meaning) is ∙ sym l.3)

pub stands_for_none : (ns : List Named) (name : List ℕ) → None ≡ last_named ns name → None ≡ meaning_of ns name
stands_for_none ns name h = sym (subst (Leads ns name) (sym h) (leads ns name))

-- what the last one among all tells of the last one among fewer
abbrev pub Fits : ℕ → Option ℕ → Option ℕ → Type 0
Fits within None fewer = None ≡ fewer
Fits within (Some k) fewer = k < within → Some k ≡ fewer

none_fits : (l : Option ℕ) → Fits zero l None
none_fits None = refl
none_fits (Some k) = λ few. absurd (omega (arith, few))

one_fits : (within : ℕ) (b : Bool) (l fewer : Option ℕ) → Fits within l fewer → Fits (suc within) (option_or (option_map suc l) (if b then Some 0 else None)) (option_or (option_map suc fewer) (if b then Some 0 else None))
one_fits within true None fewer h = subst (λ f. Fits (suc within) (Some 0) (option_or (option_map suc f) (Some 0))) h (λ _. refl)
one_fits within false None fewer h = ap (λ f. option_or (option_map suc f) None) h
one_fits within b (Some k) fewer h = λ few. ap (λ f. option_or (option_map suc f) (if b then Some 0 else None)) (h (omega (arith, few)))

fits : (ns : List Named) (within : ℕ) (name : List ℕ) → Fits within (last_named ns name) (last_named (take within ns) name)
fits ns zero name = none_fits (last_named ns name)
fits [] (suc within) name = refl
fits (n ∷ ns) (suc within) name = one_fits within (bytes_eq n.name name) (last_named ns name) (last_named (take within ns) name) (fits ns within name)

-- a walk from each declaration of a name to the one before it is at the last one among the first `front`, which have all of the first `within`
pub record Walks (ns : List Named) (within : ℕ) (name : List ℕ) (last : Option ℕ) : Type 0 where
  pub front : ℕ
  pub is : last ≡ last_named (take front ns) name
  pub whole : take within (take front ns) ≡ take within ns

-- from the number in the index, among all
pub begins : {S : Type 0} (ds : List Declared) (newest : IndexMap (Vec ℕ Global) (Option ℕ) S) (within : ℕ) (key : Vec ℕ Global) (last : Option ℕ) → Agrees ds newest → last ≡ option_flatten (get same newest key) → Walks (map named ds) within key.items last
begins ds newest within key last a h = let all = take-length (map named ds) in record {
  front = length (map named ds);
  is = h ∙ a.finds key ∙ ap (λ ns. last_named ns key.items) (sym all);
  whole = ap (take within) all;
}

-- whose number is below `within` is the last one there
pub arrived : (ns : List Named) (within : ℕ) (name : List ℕ) (last l : Option ℕ) → Walks ns within name last → last ≡ l → Fits within l (last_named (take within ns) name)
arrived ns within name last l w h = subst (λ l. Fits within l (last_named (take within ns) name)) (sym w.is ∙ h) (subst (λ ms. Fits within (last_named (take w.front ns) name) (last_named ms name)) w.whole (fits (take w.front ns) within name))

-- what is left of a walk
abbrev pub left : Option ℕ → ℕ
left None = 0
left (Some k) = suc k

falls : (ns : List Named) (k : ℕ) (name : List ℕ) (l : Option ℕ) → Leads (take k ns) name l → left l ≤ k
falls ns k name None h = omega arith
falls ns k name (Some j) h = let e = (slice_get-take_is k ns j h.0 h.1).0 in omega (arith, e)

-- one declaration further back
pub goes_on : {S : Type 0} (ds : List Declared) (newest : IndexMap (Vec ℕ Global) (Option ℕ) S) (within : ℕ) (name : List ℕ) (last : Option ℕ) (k : ℕ) (d : Declared) → Agrees ds newest → Walks (map named ds) within name last → last ≡ Some k → within ≤ k → d ≡ get_or ds k d → Walks (map named ds) within name d.hides × (left d.hides < left last)
goes_on ds newest within name last k d a w h few e =
    let here : Some k ≡ last_named (take w.front (map named ds)) name = sym h ∙ w.is in
    let is : d.hides ≡ last_named (take k (map named ds)) name =
    a.hides k d (slice_get_read ds (length ds) k d refl (lies ds w.front name k here) e) ∙ ap (λ ns. last_named ns d.name.items) (sym (take-map named k ds)) ∙ ap (last_named (take k (map named ds))) (stands ds w.front name k d here e).0 in
    let low : left d.hides ≤ k = falls (map named ds) k name d.hides (subst (Leads (take k (map named ds)) name) (sym is) (leads (take k (map named ds)) name)) in
    let high : left last ≡ suc k = ap left h in
    (record { front = k; is = is; whole = take-take within k (map named ds) few }, omega (arith, low, high))

-- ---- declared behind so many

abbrev pub is_from : ℕ → Option ℕ → Bool
is_from count None = false
is_from count (Some at) = nat_le count at

any_named : (ns : List Named) (name : List ℕ) (l : Option ℕ) → Leads ns name l → is_some (meaning_of ns name) ≡ is_from 0 l
any_named ns name None h = ap is_some h
any_named ns name (Some n) h = ap is_some h.3 ∙ (let e : true ≡ nat_le 0 n = grind arith in e)

one_behind : (count : ℕ) (l : Option ℕ) (b : Bool) → is_from (suc count) (option_or (option_map suc l) (if b then Some 0 else None)) ≡ is_from count l
one_behind count (Some n) b = grind arith
one_behind count None true = grind arith
one_behind count None false = refl

since : (count : ℕ) (ns : List Named) (name : List ℕ) → is_some (meaning_of (drop count ns) name) ≡ is_from count (last_named ns name)
since zero ns name = any_named ns name (last_named ns name) (leads ns name)
since (suc count) [] name = refl
since (suc count) (n ∷ ns) name = since count ns name ∙ sym (one_behind count (last_named ns name) (bytes_eq n.name name))

pub since_by : (count : ℕ) (ns : List Named) (name : List ℕ) (last l : Option ℕ) → last ≡ last_named ns name → last ≡ l → is_from count l ≡ is_some (meaning_of (drop count ns) name)
since_by count ns name last l is h = ap (is_from count) (sym h ∙ is) ∙ sym (since count ns name)

-- ---- copies

-- what is behind so many among the first ones
pub behind_first : (ds slice front behind : List Declared) (within count n m : ℕ) (names : List Named) → slice ≡ ds → n ≡ min (length slice) within → front ≡ take n slice → m ≡ min (length front) count → behind ≡ drop m front → map named ds ≡ names → map named behind ≡ drop count (take within names)
behind_first ds slice front behind within count n m names hs hn hf hm hb v =
    let first : front ≡ take within ds = hf ∙ ap (λ n. take n slice) (hn ∙ min_comm (length slice) within) ∙ take_min within slice ∙ ap (take within) hs in
    let rest : behind ≡ drop count (take within ds) = hb ∙ ap (λ m. drop m front) (hm ∙ min_comm (length front) count) ∙ drop_min count front ∙ ap (drop count) first in
    ap (map named) rest ∙ sym (drop-map named count (take within ds)) ∙ ap (drop count) (sym (take-map named within ds)) ∙ ap (λ ns. drop count (take within ns)) v

-- one more copy, and those that are left
pub copied : (ds : List Declared) (k : ℕ) (d : Declared) (name : List ℕ) (meaning : Meaning) (old new whole : List Named) → k < length ds → d ≡ get_or ds k d → name ≡ d.name.items → meaning ≡ d.meaning → new ≡ old ++ record { name = name; meaning = meaning } ∷ [] → old ++ map named (drop k ds) ≡ whole → new ++ map named (drop (k + 1) ds) ≡ whole
copied ds k d name meaning old new whole lt is n m e w =
    ap (λ v. v ++ map named (drop (k + 1) ds)) e
    ∙ append_assoc old (record { name = name; meaning = meaning } ∷ []) (map named (drop (k + 1) ds))
    ∙ ap₂ (λ n m. old ++ record { name = n; meaning = m } ∷ map named (drop (k + 1) ds)) n m
    ∙ ap (λ xs. old ++ map named xs) (sym (next_of ds k d lt is))
    ∙ w
