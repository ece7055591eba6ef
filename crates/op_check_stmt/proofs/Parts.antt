-- What is reported part by part, and lists of parts.
use Rattle.std.proofs.Common.{◌≡◌, List, [], ◌∷◌, ◌++◌, append_assoc, Option, None, Some, Result, Ok, Err, IfOk, refl, sym, ap, subst, ◌∙◌}
use Rattle.std.specs.Option.{option_map}
use Rattle.std.specs.Prelude.{Vec}
use Rattle.std.specs.declared.alloc.Global.{Global}
use Rattle.op_base.specs.declared.place.Place.{Place}
use Rattle.op_check_expr.specs.Parts.{Behind, OfOk}
use Rattle.op_check_stmt.specs.Labels.{once, repeated}
use Rattle.op_check_stmt.specs.declared.case.Spot.{Spot}
use Rattle.op_check_stmt.specs.Parts.{items_of, three_typed, with_last}
use Rattle.op_core.specs.Faults.{Checked, kept, none}
use Rattle.op_core.specs.declared.first_refusal.FirstRefusal.{FirstRefusal}
use Rattle.op_judgement.proofs.Computed.{Reports, changed, followed, of_two, paired}
use Rattle.op_judgement.specs.Judgement.{both_typed}

-- ---- one part after the other

pub one : {A B : Type 0} (f : A → B) (a : Checked A) (old new : FirstRefusal) (x : Option A) (t : Option B) → Reports a old new x → t ≡ option_map f x → Reports (changed f a) old new t
one f a old new x t h e = (e ∙ ap (option_map f) h.0, h.1)

pub two : {A B C : Type 0} (f : A → B → C) (a : Checked A) (b : Checked B) (old mid new : FirstRefusal) (x : Option A) (y : Option B) (t : Option C) → Reports a old mid x → Reports b mid new y → t ≡ both_typed f x y → Reports (of_two f a b) old new t
two f a b old mid new x y t h k e =
    (e ∙ (λ i. both_typed f (h.0 i) (k.0 i)), k.1 ∙ ap (λ s. kept s b.faults) h.1)

-- what both parts say
abbrev pub both_views : {X Y A B : Type 0} → (X → A) → (Y → B) → X × Y → A × B
both_views v w p = (v p.0, w p.1)

pub through : {X Y A B C : Type 0} (v : X → A) (w : Y → B) (f : A → B → C) (x : Option X) (y : Option Y) → option_map (λ (p : X × Y). f (v p.0) (w p.1)) (both_typed (λ x y. (x, y)) x y) ≡ both_typed f (option_map v x) (option_map w y)
through v w f None y = refl
through v w f (Some x) None = refl
through v w f (Some x) (Some y) = refl

-- a node that is made of a pair
pub made : {X Y A B C : Type 0} (v : X → A) (w : Y → B) (f : A → B → C) (a : Checked A) (b : Checked B) (old mid new : FirstRefusal) (x : Option X) (y : Option Y) (p : Option (X × Y)) (t : Option C) → Reports a old mid (option_map v x) → Reports b mid new (option_map w y) → p ≡ both_typed (λ x y. (x, y)) x y → t ≡ option_map (λ (p : X × Y). f (v p.0) (w p.1)) p → Reports (of_two f a b) old new t
made {X} {Y} v w f a b old mid new x y p t h k e g =
    two f a b old mid new (option_map v x) (option_map w y) t h k (g ∙ ap (option_map (λ (p : X × Y). f (v p.0) (w p.1))) e ∙ through v w f x y)

pub pairs : {X Y A B : Type 0} (v : X → A) (w : Y → B) (a : Checked A) (b : Checked B) (old mid new : FirstRefusal) (x : Option X) (y : Option Y) (p : Option (X × Y)) → Reports a old mid (option_map v x) → Reports b mid new (option_map w y) → p ≡ both_typed (λ x y. (x, y)) x y → Reports (paired a b) old new (option_map (both_views v w) p)
pairs v w a b old mid new x y p h k e = made v w (λ a b. (a, b)) a b old mid new x y p (option_map (both_views v w) p) h k e refl

-- the same behind an answer, where the second part is one
pub made_of : {X Y A B C U E : Type 0} (v : X → A) (w : Y → B) (f : A → B → C) (done : Result U E) (x : Option X) (y : Result (Option Y) E) (p : Option (X × Y)) (t : Option C) → Behind done (OfOk y (λ y. p ≡ both_typed (λ x y. (x, y)) x y)) → t ≡ option_map (λ (p : X × Y). f (v p.0) (w p.1)) p → Behind done (OfOk y (λ y. t ≡ both_typed f (option_map v x) (option_map w y)))
made_of {X} {Y} v w f (Ok u) x (Ok y) p t h e = e ∙ ap (option_map (λ (p : X × Y). f (v p.0) (w p.1))) h ∙ through v w f x y
made_of v w f (Ok u) x (Err y) p t h e = h
made_of v w f (Err u) x y p t h e = h

-- the same behind two answers
pub made_behind : {X Y A B C U E : Type 0} (v : X → A) (w : Y → B) (f : A → B → C) (first second : Result U E) (x : Option X) (y : Option Y) (p : Option (X × Y)) (t : Option C) → Behind first (Behind second (p ≡ both_typed (λ x y. (x, y)) x y)) → t ≡ option_map (λ (p : X × Y). f (v p.0) (w p.1)) p → Behind first (Behind second (t ≡ both_typed f (option_map v x) (option_map w y)))
made_behind {X} {Y} v w f (Ok u) (Ok s) x y p t h e = e ∙ ap (option_map (λ (p : X × Y). f (v p.0) (w p.1))) h ∙ through v w f x y
made_behind v w f (Ok u) (Err s) x y p t h e = h
made_behind v w f (Err u) second x y p t h e = h

-- the same of an answer and what stands behind another one
pub made_front : {X Y A B C U E : Type 0} (v : X → A) (w : Y → B) (f : A → B → C) (x : Result (Option X) E) (done : Result U E) (y : Option Y) (p : Option (X × Y)) (t : Option C) → OfOk x (λ x. Behind done (p ≡ both_typed (λ x y. (x, y)) x y)) → t ≡ option_map (λ (p : X × Y). f (v p.0) (w p.1)) p → OfOk x (λ x. Behind done (t ≡ both_typed f (option_map v x) (option_map w y)))
made_front {X} {Y} v w f (Ok x) (Ok u) y p t h e = e ∙ ap (option_map (λ (p : X × Y). f (v p.0) (w p.1))) h ∙ through v w f x y
made_front v w f (Ok x) (Err u) y p t h e = h
made_front v w f (Err x) done y p t h e = h

three_through : {X Y Z A B C : Type 0} (v : X → A) (w : Y → B) (f : Z → A → B → C) (z : Option Z) (x : Option X) (y : Option Y) → both_typed (λ z (p : X × Y). f z (v p.0) (w p.1)) z (both_typed (λ x y. (x, y)) x y) ≡ three_typed f z (option_map v x) (option_map w y)
three_through v w f None x y = refl
three_through v w f (Some z) None y = refl
three_through v w f (Some z) (Some x) None = refl
three_through v w f (Some z) (Some x) (Some y) = refl

-- three parts, of which two are answers
pub made_three : {X Y Z A B C E : Type 0} (v : X → A) (w : Y → B) (f : Z → A → B → C) (z : Option Z) (x : Result (Option X) E) (y : Result (Option Y) E) (p : Option (X × Y)) (t : Option C) → OfOk x (λ x. OfOk y (λ y. p ≡ both_typed (λ x y. (x, y)) x y)) → t ≡ both_typed (λ z (p : X × Y). f z (v p.0) (w p.1)) z p → OfOk x (λ x. OfOk y (λ y. t ≡ three_typed f z (option_map v x) (option_map w y)))
made_three {X} {Y} v w f z (Ok x) (Ok y) p t h e = e ∙ ap (both_typed (λ z (p : X × Y). f z (v p.0) (w p.1)) z) h ∙ three_through v w f z x y
made_three v w f z (Ok x) (Err y) p t h e = h
made_three v w f z (Err x) y p t h e = h

-- three parts
pub three : {A B C D : Type 0} (f : A → B → C → D) (a : Checked A) (b : Checked B) (c : Checked C) (old mid far new : FirstRefusal) (x : Option A) (y : Option B) (z : Option C) (t : Option D) → Reports a old mid x → Reports b mid far y → Reports c far new z → t ≡ three_typed f x y z → Reports (of_two (λ (p : A × B) c. f p.0 p.1 c) (paired a b) c) old new t
three {A} {B} f a b c old mid far new x y z t h k l e =
    two (λ (p : A × B) c. f p.0 p.1 c) (paired a b) c old far new (both_typed (λ a b. (a, b)) x y) z t (two (λ a b. (a, b)) a b old mid far x y (both_typed (λ a b. (a, b)) x y) h k refl) l e

-- what is made of a part that stands behind it
pub then : {A B : Type 0} (a : Checked A) (f : Option A → Checked B) (old mid new : FirstRefusal) (x : Option A) (t : Option B) → Reports a old mid x → Reports (f x) mid new t → Reports (followed a f) old new t
then a f old mid new x t h k =
    let l : Reports (f a.typed) mid new t = subst (λ x. Reports (f x) mid new t) h.0 k in
    (l.0, l.1 ∙ ap (λ s. kept s (f a.typed).faults) h.1)

-- what is made of the value of an answer
pub behind_answer : {A V E R : Type 0} {P Q : A → Type 0} (answer : Result A E) (r : Result V E) → IfOk answer P → IfOk r (λ _. OfOk answer Q) → ((a : A) → P a → Q a → R) → IfOk r (λ _. R)
behind_answer (Ok a) (Ok v) h g k = k a h g
behind_answer (Err e) (Ok v) h g k = absurd g
behind_answer answer (Err e) h g k = g

-- what is true of parts is true of what they are, behind two answers
pub behind_same : {A U E : Type 0} (Q : A → Type 0) (first second : Result U E) (p a : A) → Behind first (Behind second (p ≡ a)) → Q p → Behind first (Behind second (Q a))
behind_same Q (Ok u) (Ok s) p a h q = subst Q h q
behind_same Q (Ok u) (Err s) p a h q = h
behind_same Q (Err u) second p a h q = h

-- ---- lists

-- the parts of a list in front of others
abbrev pub in_front : {T A B : Type 0} → (T → A) → (A → B → B) → List T → B → B
in_front view add [] others = others
in_front view add (x ∷ xs) others = add (view x) (in_front view add xs others)

abbrev pub gathered : {T A B : Type 0} → (T → A) → (A → B → B) → Option (List T) → Option B → Option B
gathered view add list others = both_typed (in_front view add) list others

front_last : {T A B : Type 0} (view : T → A) (add : A → B → B) (xs : List T) (x : T) (others : B) → in_front view add (xs ++ x ∷ []) others ≡ in_front view add xs (add (view x) others)
front_last view add [] x others = refl
front_last view add (y ∷ ys) x others = ap (add (view y)) (front_last view add ys x others)

gathered_last : {T A B : Type 0} (view : T → A) (add : A → B → B) (list : Option (List T)) (x : Option T) (others : Option B) → gathered view add (with_last list x) others ≡ gathered view add list (both_typed add (option_map view x) others)
gathered_last view add None x others = refl
gathered_last view add (Some xs) None others = refl
gathered_last view add (Some xs) (Some x) None = refl
gathered_last view add (Some xs) (Some x) (Some others) = ap Some (front_last view add xs x others)

-- what is left completes the whole, behind the parts so far
pub record Completes {T A B : Type 0} (view : T → A) (add : A → B → B) (list : Option (List T)) (whole rest : Checked B) (old mid : FirstRefusal) : Type 0 where
  pub completes : (new : FirstRefusal) (t : Option B) → Reports rest mid new t → Reports whole old new (gathered view add list t)

gathered_none : {T A B : Type 0} (view : T → A) (add : A → B → B) (t : Option B) → gathered view add (Some []) t ≡ t
gathered_none view add None = refl
gathered_none view add (Some t) = refl

pub begins : {T A B : Type 0} (view : T → A) (add : A → B → B) (whole : Checked B) (s : FirstRefusal) → Completes view add (Some []) whole whole s s
begins view add whole s = record { completes = λ new t k. subst (Reports whole s new) (sym (gathered_none view add t)) k }

pub next : {T A B : Type 0} (view : T → A) (add : A → B → B) (list more : Option (List T)) (x : Option T) (y : Option A) (whole : Checked B) (item : Checked A) (others : Checked B) (old mid far : FirstRefusal) → Completes view add list whole (of_two add item others) old mid → Reports item mid far y → y ≡ option_map view x → more ≡ with_last list x → Completes view add more whole others old far
next view add list more x y whole item others old mid far c h v e = record {
  completes = λ new t k.
      subst (λ l. Reports whole old new (gathered view add l t)) (sym e)
      (subst (Reports whole old new) (ap (λ y. gathered view add list (both_typed add y t)) v ∙ sym (gathered_last view add list x t))
      (c.completes new (both_typed add y t) (two add item others mid far new y t (both_typed add y t) h k refl)));
}

all_gathered : {T A B : Type 0} (view : T → A) (add : A → B → B) (nil : B) (f : List T → B) → ((xs : List T) → in_front view add xs nil ≡ f xs) → (list : Option (List T)) → gathered view add list (Some nil) ≡ option_map f list
all_gathered view add nil f h None = refl
all_gathered view add nil f h (Some xs) = ap Some (h xs)

pub ends : {T A B : Type 0} (view : T → A) (add : A → B → B) (nil : B) (f : List T → B) → ((xs : List T) → in_front view add xs nil ≡ f xs) → (list : Option (List T)) (whole : Checked B) (old new : FirstRefusal) → Completes view add list whole (record { typed = Some nil; faults = none }) old new → Reports whole old new (option_map f list)
ends view add nil f h list whole old new c =
    subst (Reports whole old new) (all_gathered view add nil f h list) (c.completes new (Some nil) (refl, refl))

pub same : {A : Type 0} (x : Option A) → x ≡ option_map (λ y. y) x
same None = refl
same (Some x) = refl

-- what is noted of one more part
pub noted : {S : Type 0} (others more whole own rest all : List S) → more ≡ others ++ own → all ≡ own ++ rest → others ++ all ≡ whole → more ++ rest ≡ whole
noted others more whole own rest all h k e =
    ap (λ m. m ++ rest) h ∙ append_assoc others own rest ∙ ap (λ r. others ++ r) (sym k) ∙ e

pub seen : {T B : Type 0} (f : List T → B) (list : Option (Vec T Global)) → option_map f (items_of list) ≡ option_map (λ v. f v.items) list
seen f None = refl
seen f (Some v) = refl

once_viewed : {A B : Type 0} (v : A → B) (a t : Option A) (place : Option Place) (old new : FirstRefusal) → Reports (once a place) old new t → Reports (once (option_map v a) place) old new (option_map v t)
once_viewed v a t None old new h = (ap (option_map v) h.0, h.1)
once_viewed v a t (Some place) old new h = (ap (option_map v) h.0, h.1)

pub distinct_viewed : {A B : Type 0} (v : A → B) (a t : Option A) (ss : List Spot) (c : Checked B) (old mid new : FirstRefusal) → Reports c old mid (option_map v a) → Reports (once a (repeated ss)) mid new t → Reports (followed c (λ b. once b (repeated ss))) old new (option_map v t)
distinct_viewed v a t ss c old mid new h k = then c (λ b. once b (repeated ss)) old mid new (option_map v a) (option_map v t) h (once_viewed v a t (repeated ss) mid new k)
