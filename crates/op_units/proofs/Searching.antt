-- What is found among the tokens is the first construct that is not built.
use Rattle.std.proofs.Common.{◌≡◌, ◌≤◌, ℕ, Bool, true, false, ◌⊎◌, inl, inr, List, [], ◌∷◌, ◌++◌, Some, None, length, arith, refl, sym, ap, subst, ◌∙◌}
use Rattle.std.specs.Option.{option_and_then}
use Rattle.op_base.specs.declared.rule.Refusal.{Refusal}
use Rattle.op_scan.specs.declared.token.Token.{Token}
use Rattle.op_scan.specs.declared.token.TokenKind.{TokenKind}
use Rattle.op_scan.specs.declared.token.TokenKind.TheVariants as kind
use Rattle.op_tree.specs.Ends.{begins_selector}
use Rattle.op_tree.specs.Terminal.{Terminal, ◌at◌, terminals}
use Rattle.op_tree.specs.declared.position.Position.{Position}
use Rattle.op_units.specs.Search.{Found, begun, begun_by, search_in, or_behind, string_by, array_by, in_by, equal_by}
use Rattle.op_units.specs.Unbuilt.{Unbuilt, is_string, is_open_array, is_for_in, is_nil, is_class, is_is, is_as, is_inherited, is_interface, is_except, is_raise, HasUnbuilt, named, IsBuilt, FirstUnbuilt}

-- ---- at the front of the tokens

-- what is found is such a construct
abbrev Sound : List Terminal → Found → Type 0
Sound ks None = Unit {0}
Sound ks (Some x) = Unbuilt x.0 ks x.1

string_sound : (p : Position) (u : Terminal) (r : List Terminal) (b : Bool) → begins_selector u.kind ≡ b → Sound (kind.String at p ∷ u ∷ r) (string_by (kind.String at p) (u ∷ r) b)
string_sound p u r true h = tt
string_sound p u r false h = is_string h

array_sound : (p q : Position) (k : TokenKind) (r : List Terminal) → Sound (kind.Array at p ∷ k at q ∷ r) (array_by (kind.Array at p) (k at q ∷ r) k)
array_sound p q kind.Of r = is_open_array
array_sound p q other r = tt

in_sound : (p q u : Position) (k l : TokenKind) (r : List Terminal) → Sound (kind.For_ at p ∷ k at q ∷ l at u ∷ r) (in_by (l at u) r k l)
in_sound p q u (kind.Identifier text) kind.In_ r = is_for_in
in_sound p q u other others r = tt

equal_sound : (p q : Position) (k : TokenKind) (r : List Terminal) → Sound (kind.Equal at p ∷ k at q ∷ r) (equal_by (k at q) r k)
equal_sound p q kind.Class r = is_class
equal_sound p q kind.Interface r = is_interface
equal_sound p q other r = tt

sound_by : (k : TokenKind) (p : Position) (r : List Terminal) → Sound (k at p ∷ r) (begun_by k (k at p) r)
sound_by kind.String p [] = is_string tt
sound_by kind.String p (u ∷ r) = string_sound p u r (begins_selector u.kind) refl
sound_by kind.Array p [] = tt
sound_by kind.Array p (u ∷ r) = array_sound p u.position u.kind r
sound_by kind.For_ p [] = tt
sound_by kind.For_ p (t ∷ []) = tt
sound_by kind.For_ p (t ∷ u ∷ r) = in_sound p t.position u.position t.kind u.kind r
sound_by kind.Nil p r = is_nil
sound_by kind.Equal p [] = tt
sound_by kind.Equal p (u ∷ r) = equal_sound p u.position u.kind r
sound_by kind.Is p r = is_is
sound_by kind.As_ p r = is_as
sound_by kind.Inherited p r = is_inherited
sound_by kind.Except p r = is_except
sound_by kind.Raise p r = is_raise
sound_by other p r = tt

sound : (ks : List Terminal) → Sound ks (begun ks)
sound [] = tt
sound (t ∷ r) = sound_by t.kind t.position r

-- each such construct is found
complete : {f : ℕ} {ks q : List Terminal} → Unbuilt f ks q → begun ks ≡ Some (f, q)
complete (is_string {r = []} h) = refl
complete (is_string {p = p} {r = u ∷ r} h) = ap (string_by (kind.String at p) (u ∷ r)) h
complete is_open_array = refl
complete is_for_in = refl
complete is_nil = refl
complete is_class = refl
complete is_is = refl
complete is_as = refl
complete is_inherited = refl
complete is_interface = refl
complete is_except = refl
complete is_raise = refl

-- ---- in the tokens

told_within : {f : ℕ} {ks q : List Terminal} → Unbuilt f ks q → length q ≤ length ks
told_within is_for_in = omega arith
told_within is_class = omega arith
told_within is_interface = omega arith
told_within (is_string h) = omega arith
told_within is_open_array = omega arith
told_within is_nil = omega arith
told_within is_is = omega arith
told_within is_as = omega arith
told_within is_inherited = omega arith
told_within is_except = omega arith
told_within is_raise = omega arith

behind_within : (seen ks : List Terminal) → length ks ≤ length (seen ++ ks)
behind_within [] ks = omega arith
behind_within (t ∷ seen) ks = let h = behind_within seen ks in omega arith

within : {f : ℕ} {ks q : List Terminal} → HasUnbuilt f ks q → length q ≤ length ks
within {q = q} h = subst (λ ks. length q ≤ length ks) (sym h.parts) (let a = told_within h.unbuilt in let b = behind_within h.seen h.form in omega arith)

behind : {t u : Terminal} {ks ls : List Terminal} → t ∷ ks ≡ u ∷ ls → ks ≡ ls
behind e = cc

split_by : {f : ℕ} {t : Terminal} {r q : List Terminal} (seen form : List Terminal) → t ∷ r ≡ seen ++ form → Unbuilt f form q → Unbuilt f (t ∷ r) q ⊎ HasUnbuilt f r q
split_by {f = f} {q = q} [] form e u = inl (subst (λ ks. Unbuilt f ks q) (sym e) u)
split_by (x ∷ seen) form e u = inr (record { seen = seen; form = form; parts = behind e; unbuilt = u })

split : {f : ℕ} {t : Terminal} {r q : List Terminal} → HasUnbuilt f (t ∷ r) q → Unbuilt f (t ∷ r) q ⊎ HasUnbuilt f r q
split h = split_by h.seen h.form h.parts h.unbuilt

same_told : {f g : ℕ} {ks p q : List Terminal} → Unbuilt f ks p → Unbuilt g ks q → length q ≤ length p
same_told {p = p} {q = q} u v = let e : p ≡ q = same (sym (complete u) ∙ complete v) in subst (λ z. length z ≤ length p) e (omega arith)
  where
    same : {x y : ℕ × List Terminal} → Some x ≡ Some y → x.1 ≡ y.1
    same e = cc

-- a construct at the front is told before any behind it
before : {f g : ℕ} {t : Terminal} {r p q : List Terminal} → Unbuilt f (t ∷ r) p → HasUnbuilt g (t ∷ r) q → length q ≤ length p
before is_for_in h = elim (split h) [ inl u ↦ same_told is_for_in u | inr m ↦ elim (split m) [ inl u ↦ absurd (never (complete u)) | inr n ↦ within n ] ]
  where
    never : {A : Type 0} {a : A} → None ≡ Some a → ⊥
    never e = cc
before is_class h = elim (split h) [ inl u ↦ same_told is_class u | inr m ↦ within m ]
before is_interface h = elim (split h) [ inl u ↦ same_told is_interface u | inr m ↦ within m ]
before (is_string n) h = within h
before is_open_array h = within h
before is_nil h = within h
before is_is h = within h
before is_as h = within h
before is_inherited h = within h
before is_except h = within h
before is_raise h = within h

-- the first construct in the tokens, if there is one
abbrev IsFirstIn : List Terminal → Found → Type 0
IsFirstIn ks None = IsBuilt ks
IsFirstIn ks (Some x) = HasUnbuilt x.0 ks x.1 × ((other : ℕ) (q : List Terminal) → HasUnbuilt other ks q → length q ≤ length x.1)

not_here : {f : ℕ} {ks q : List Terminal} → begun ks ≡ None → Unbuilt f ks q → ⊥
not_here e u = never (sym e ∙ complete u)
  where
    never : {A : Type 0} {a : A} → None ≡ Some a → ⊥
    never e = cc

later : {f : ℕ} {t : Terminal} {r q : List Terminal} → begun (t ∷ r) ≡ None → HasUnbuilt f (t ∷ r) q → HasUnbuilt f r q
later e h = elim (split h) [ inl u ↦ absurd (not_here e u) | inr m ↦ m ]

step : (t : Terminal) (r : List Terminal) (front others : Found) → begun (t ∷ r) ≡ front → Sound (t ∷ r) front → IsFirstIn r others → IsFirstIn (t ∷ r) (or_behind front others)
step t r (Some x) others e u h = (record { seen = []; form = t ∷ r; parts = refl; unbuilt = u }, λ other q k. before u k)
step t r None None e u h = λ f q k. h f q (later e k)
step t r None (Some x) e u h = (record { seen = t ∷ h.0.seen; form = h.0.form; parts = ap (λ ks. t ∷ ks) h.0.parts; unbuilt = h.0.unbuilt }, λ other q k. h.1 other q (later e k))

nowhere : {f : ℕ} {q : List Terminal} (seen form : List Terminal) → [] ≡ seen ++ form → Unbuilt f form q → ⊥
nowhere (x ∷ seen) form e u = cc
nowhere {f = f} {q = q} [] form e u = nothing (subst (λ ks. Unbuilt f ks q) (sym e) u)
  where
    nothing : {f : ℕ} {q : List Terminal} → Unbuilt f [] q → ⊥
    nothing u = elim u [ ]

first_in : (ks : List Terminal) → IsFirstIn ks (search_in ks)
first_in [] = λ f q h. nowhere h.seen h.form h.parts h.unbuilt
first_in (t ∷ r) = step t r (begun (t ∷ r)) (search_in r) refl (sound (t ∷ r)) (first_in r)

-- ---- as refusals

told_somewhere : {f : ℕ} {ks : List Terminal} → Unbuilt f ks [] → ⊥
told_somewhere u = elim u [ ]

first_named : (ks : List Terminal) (x : Found) → IsFirstIn ks x → FirstUnbuilt ks (option_and_then named x)
first_named ks None h = h
first_named ks (Some (f, [])) h = absurd (told_somewhere h.0.unbuilt)
first_named ks (Some (f, t ∷ ts)) h = record { feature = f; told = t ∷ ts; is_there = h.0; names = refl; first = h.1 }

first_found : (ks : List Terminal) → FirstUnbuilt ks (option_and_then named (search_in ks))
first_found ks = first_named ks (search_in ks) (first_in ks)

none_by : (ks : List Terminal) (x : Found) → Sound ks x → option_and_then named x ≡ None → x ≡ None
none_by ks None u e = refl
none_by ks (Some (f, [])) u e = absurd (told_somewhere u)
none_by ks (Some (f, t ∷ ts)) u e = cc

-- nothing begins at the front
pub goes_on : (t : Terminal) (r : List Terminal) → option_and_then named (begun (t ∷ r)) ≡ None → search_in (t ∷ r) ≡ search_in r
goes_on t r e = ap (λ x. or_behind x (search_in r)) (none_by (t ∷ r) (begun (t ∷ r)) (sound (t ∷ r)) e)

-- something begins there
stops : (x others : Found) (refusal : Refusal) → option_and_then named x ≡ Some refusal → option_and_then named (or_behind x others) ≡ Some refusal
stops None others refusal e = cc
stops (Some x) others refusal e = e

pub found_at : (ks rest : List Terminal) (refusal : Refusal) → search_in rest ≡ search_in ks → option_and_then named (begun rest) ≡ Some refusal → FirstUnbuilt ks (Some refusal)
found_at ks [] refusal h e = absurd (none e)
  where
    none : {A : Type 0} {a : A} → None ≡ Some a → ⊥
    none e = cc
found_at ks (t ∷ r) refusal h e = subst (FirstUnbuilt ks) (ap (option_and_then named) (sym h) ∙ stops (begun (t ∷ r)) (search_in r) refusal e) (first_found ks)

pub nothing_left : (ks : List Terminal) (rest : List Token) → length rest ≡ 0 → search_in (terminals rest) ≡ search_in ks → IsBuilt ks
nothing_left ks [] e h = subst (λ x. FirstUnbuilt ks (option_and_then named x)) (sym h) (first_found ks)
nothing_left ks (t ∷ rest) e h = absurd (omega (arith, e))
