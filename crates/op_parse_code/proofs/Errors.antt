-- What a call that may fail passes on.
use Rattle.std.proofs.Common.{◌≡◌, Result, Ok, Err, IsErrAnd, IfOk, IfErr, sym, subst, refl}
use Rattle.op_parse_code.specs.Refusal.{MadeOf, made, no_room, passed_on, MadeOrRefused, as_made, refused_itself}
use Rattle.op_parse_code.specs.declared.error.ParseError.{ParseError}
use Rattle.op_parse_code.specs.declared.error.ParseError.TheVariants.{NoMemory}

-- an error that is handed on by `?`
pub passed : {T : Type 0} {R Q : ParseError → Type 0} (r : Result T ParseError) → IsErrAnd r R → ((y : ParseError) → R y → Q y) → IfErr r Q
passed (Ok x) h f = absurd h
passed (Err y) h f = f y h

pub ok_weaker : {T : Type 0} {P Q : T → Type 0} (r : Result T ParseError) → IfOk r P → ((x : T) → P x → Q x) → IfOk r Q
ok_weaker (Ok x) h f = f x h
ok_weaker (Err y) h f = tt

pub err_weaker : {T : Type 0} {R Q : ParseError → Type 0} (r : Result T ParseError) → IfErr r R → ((y : ParseError) → R y → Q y) → IfErr r Q
err_weaker (Ok x) h f = tt
err_weaker (Err y) h f = f y h

-- what was read, and what was made of it
pub made_ok : {T U : Type 0} {P : T → Type 0} {R : T → U → Type 0} {Q : U → Type 0} (r : Result T ParseError) (s : Result U ParseError) → MadeOf R r s → IfOk r P → ((x : T) (y : U) → P x → R x y → Q y) → IfOk s Q
made_ok r s (made {x = x} {y = y} m) p f = f x y p m
made_ok r s (no_room e) p f = tt
made_ok r s (passed_on e) p f = tt

pub made_err : {T U : Type 0} {P : ParseError → Type 0} {R : T → U → Type 0} {Q : ParseError → Type 0} (r : Result T ParseError) (s : Result U ParseError) → MadeOf R r s → IfErr r P → ((e : ParseError) → e ≡ NoMemory → Q e) → ((e : ParseError) → P e → Q e) → IfErr s Q
made_err r s (made m) p f g = tt
made_err r s (no_room {e = e} is) p f g = f e is
made_err {Q = Q} r s (passed_on {e = e} is) p f g = subst Q (sym is) (g e p)

-- of what was read nothing was made, for want of room
pub made_none : {T U : Type 0} {R : T → U → Type 0} (x : T) (s : Result U ParseError) → IsErrAnd s (λ e. e ≡ NoMemory) → MadeOf R (Ok x) s
made_none x (Ok y) h = absurd h
made_none x (Err e) h = no_room h

-- what was read and may be refused itself, and what was made of it
pub judged_ok : {T U : Type 0} {P : T → Type 0} {R : T → U → Type 0} {S : T → ParseError → Type 0} {Q : U → Type 0} (r : Result T ParseError) (s : Result U ParseError) → MadeOrRefused R S r s → IfOk r P → ((x : T) (y : U) → P x → R x y → Q y) → IfOk s Q
judged_ok r s (as_made m) p f = made_ok r s m p f
judged_ok r s (refused_itself e) p f = tt

pub judged_err : {T U : Type 0} {P : T → Type 0} {E : ParseError → Type 0} {R : T → U → Type 0} {S : T → ParseError → Type 0} {Q : ParseError → Type 0} (r : Result T ParseError) (s : Result U ParseError) → MadeOrRefused R S r s → IfOk r P → IfErr r E → ((e : ParseError) → e ≡ NoMemory → Q e) → ((e : ParseError) → E e → Q e) → ((x : T) (e : ParseError) → P x → S x e → Q e) → IfErr s Q
judged_err r s (as_made m) p x f g h = made_err r s m x f g
judged_err r s (refused_itself {x = x} {e = e} t) p y f g h = h x e p t

-- what was read is refused itself
pub judged_none : {T U : Type 0} {E : ParseError → Type 0} {R : T → U → Type 0} {S : T → ParseError → Type 0} (x : T) (s : Result U ParseError) → IsErrAnd s E → ((e : ParseError) → E e → S x e) → MadeOrRefused R S (Ok x) s
judged_none x (Ok y) h f = absurd h
judged_none x (Err e) h f = refused_itself (f e h)

-- of what was made, what was read
pub made_as : {T U G : Type 0} {P : T → Type 0} {R : T → U → Type 0} (r : Result T ParseError) (y : U) → MadeOf R r (Ok y) → IfOk r P → ((x : T) → P x → R x y → G) → G
made_as {G = G} {R = R} r y m p f = made_ok {Q = λ z. z ≡ y → G} r (Ok y) m p (λ x z q n e. f x q (subst (λ w. R x w) e n)) refl

pub both_ok : {T : Type 0} (P Q : T → Type 0) (r : Result T ParseError) → IfOk r P → IfOk r Q → IfOk r (λ x. P x × Q x)
both_ok P Q (Ok x) p q = (p, q)
both_ok P Q (Err e) p q = tt

-- what was read behind something else is judged as that
pub judged_on : {T U V : Type 0} {P : T → Type 0} {E : ParseError → Type 0} {R : T → U → Type 0} {S : T → ParseError → Type 0} {A : V → U → Type 0} {B : V → ParseError → Type 0} (v : V) (r : Result T ParseError) (s : Result U ParseError) → MadeOrRefused R S r s → IfOk r P → IfErr r E → ((x : T) (y : U) → P x → R x y → A v y) → ((e : ParseError) → E e → B v e) → ((x : T) (e : ParseError) → P x → S x e → B v e) → MadeOrRefused A B (Ok v) s
judged_on v r s (as_made (made {x = x} {y = y} m)) p q f g h = as_made (made (f x y p m))
judged_on v r s (as_made (no_room e)) p q f g h = as_made (no_room e)
judged_on {B = B} v r s (as_made (passed_on {e = e} is)) p q f g h = refused_itself (subst (λ z. B v z) (sym is) (g e q))
judged_on v r s (refused_itself {x = x} {e = e} t) p q f g h = refused_itself (h x e p t)
