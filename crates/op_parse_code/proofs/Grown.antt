-- Lists that have more parts than before.
use Rattle.std.proofs.Common.{◌≡◌, ℕ, ◌-◌, List, [], ◌∷◌, ◌++◌, Option, Some, None, IsSomeAnd, MatchOption, length, set, get_or, append_assoc, sym, ap, ◌∙◌, subst, arith}
use Rattle.std.proofs.Math.Seq.{get_or-append_seam}
use Rattle.std.proofs.lemmas.List.{length-append, set_at}
use Rattle.op_parse_code.specs.Refusal.{Extended, Grown}

-- there is one
pub chosen : {T : Type 0} {P Q : T → Type 0} (N : Type 0) (o : Option T) → IsSomeAnd o P → ((x : T) → P x → Q x) → MatchOption o N Q
chosen N None h f = absurd h
chosen N (Some x) h f = f x h

pub grown_as : {A : Type 0} {P Q : A → Type 0} (xs ys : List A) → Grown xs ys P → ((x : A) → P x → Q x) → Grown xs ys Q
grown_as xs ys g f = (g.0, g.1, f g.0 g.2)

pub extended_more : {A : Type 0} {P Q : List A → Type 0} {R : A → Type 0} (xs ys zs : List A) → Extended xs ys P → Grown ys zs R → ((us : List A) (x : A) → P us → R x → Q (us ++ (x ∷ []))) → Extended xs zs Q
extended_more xs ys zs s g f = (s.0 ++ (g.0 ∷ []), g.1 ∙ (ap (λ w. w ++ (g.0 ∷ [])) s.1 ∙ append_assoc xs s.0 (g.0 ∷ [])), f s.0 g.0 s.2 g.2)

pub extended_ends : {A N : Type 0} {P Q : List A → Type 0} (xs ys zs : List A) → Extended xs ys P → N × (zs ≡ ys) → ((us : List A) → P us → N → Q us) → Extended xs zs Q
extended_ends xs ys zs s e f = (s.0, e.1 ∙ s.1, f s.0 s.2 e.0)

pub extended_none : {A : Type 0} {P : List A → Type 0} {xs ys : List A} → xs ≡ [] → Extended xs ys P → P ys
extended_none {P = P} e s = subst P (sym (s.1 ∙ ap (λ z. z ++ s.0) e)) s.2

-- the last part is written anew
pub grown_written : {A : Type 0} {P Q : A → Type 0} (xs ys : List A) (n : ℕ) (now new : A) → length ys ≡ n → Grown xs ys P → now ≡ get_or ys (n - 1) now → (P now → Q new) → Grown xs (set ys (n - 1) new) Q
grown_written {P = P} xs ys n now new len g is f =
    let before : length xs ≡ n - 1 = omega (arith, len, ap length g.1, length-append xs (g.0 ∷ [])) in
    let same : now ≡ g.0 = is ∙ (ap (λ z. get_or z (n - 1) now) g.1 ∙ (ap (λ k. get_or (xs ++ (g.0 ∷ [])) k now) (sym before) ∙ get_or-append_seam xs g.0 [] now)) in
    (new, ap (λ z. set z (n - 1) new) g.1 ∙ set_at xs g.0 [] new (n - 1) before, f (subst P (sym same) g.2))
