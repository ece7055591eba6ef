-- A step says of a part of a program that changes a state what it means, which state it leaves and which rules it breaks. It is a datum with
-- two readings, as a judgement is, which changes nothing: what a checker computes of the part, and what is said of it in the words of relations.
use Rattle.std.specs.Prelude.{◌≡◌, Bool, true, false, List, Option, [], ◌∷◌, if◌then◌else◌}
use Rattle.op_base.specs.declared.place.Place.{Place}
use Rattle.op_base.specs.declared.rule.Refusal.{Refusal}
use Rattle.op_core.specs.Relations.{Either, Entry, Never, NoneBroken, Only, Through, Where}
use Rattle.op_judgement.specs.Given as made
use Rattle.op_judgement.specs.Given.{Given}
use Rattle.op_judgement.specs.Judgement as judgement
use Rattle.op_judgement.specs.Judgement.{Judgement, When, Whether, fault}
use Rattle.op_judgement.specs.declared.rules.LanguageRule.{LanguageRule}
use Rattle.op_tree.specs.Declaration.{Declaration, Declarations, no_declarations, declarations}

pub data Step (S : Type 0) : Type 0 → Type 1 where
  -- it means this, and leaves this state
  gives : {A : Type 0} → A → S → Step S A
  -- it has no meaning, since a part of it has none, which is told there
  silent : {A : Type 0} → S → Step S A
  -- it breaks the rule, at a place
  breaks : {A : Type 0} → LanguageRule → Place → S → Step S A
  -- it breaks the rule, and means this all the same
  unchanged : {A : Type 0} → LanguageRule → Place → A → S → Step S A
  -- it breaks the rule where the test fails
  where_true : {A : Type 0} → Bool → LanguageRule → Place → S → Step S A → Step S A
  -- it is the first where the test holds, else the second
  when : {A : Type 0} → Bool → Step S A → Step S A → Step S A
  -- it is judged so, and changes nothing
  judged : {A : Type 0} → S → Judgement A → Step S A
  -- it means nothing of its own: the state is changed by what the part means, if anything
  changes : {A : Type 0} → Step S A → (Option A → S → S) → Step S (Unit {0})
  -- it is a part, and what comes behind it
  next : {A B : Type 0} → Step S A → (S → Step S B) → Step S B
  -- the same, where that reads what the part means, if anything
  followed : {A B : Type 0} → Step S A → (Option A → S → Step S B) → Step S B
  -- the same, where that comes only if the part means something
  onward : {A B : Type 0} → Step S A → (A → S → Step S B) → Step S B
  -- the same, where that comes only if the part breaks no rule
  unless_faulty : {A B : Type 0} → Step S A → (S → Step S B) → Step S B
  -- it is what an entry makes it, if there is an entry
  by : {A B : Type 0} → (A → S → Step S B) → Option A → S → Step S B
  -- it is the parts of a list, one behind the other
  each : {A : Type 0} → (A → S → Step S (Unit {0})) → List A → S → Step S (Unit {0})
  -- it is the declarations of a list, one behind the other
  each_declaration : (Declaration → S → Step S (Unit {0})) → Declarations → S → Step S (Unit {0})
  -- it is the parts of a list, put behind what there is so far
  gather : {A B : Type 0} → (A → B → S → Step S B) → List A → B → S → Step S B

-- ---- what is computed

abbrev pub done : {S A : Type 0} → Step S A → Given S A
done (gives a h) = made.gives a h
done (silent h) = made.silent h
done (breaks rule place h) = made.breaks rule place h
done (unchanged rule place a h) = made.unchanged rule place a h
done (where_true b rule place h g) = made.where_true b rule place h (done g)
done (when b g k) = if b then done g else done k
done (judged h j) = made.checked h (judgement.checked j)
done (changes g f) = made.changes (done g) f
done (next g f) = made.followed (done g) (λ t h. done (f h))
done (followed g f) = made.followed (done g) (λ t h. done (f t h))
done (onward g f) = made.followed (done g) (made.by (λ a h. done (f a h)))
done (unless_faulty g f) = made.unless_faulty (done g) (λ h. done (f h))
done (by f o h) = made.by (λ a h. done (f a h)) o h
done (each f as_ h) = made.each (λ a h. done (f a h)) as_ h
done (each_declaration f ds h) = made.each_declaration (λ d h. done (f d h)) ds h
done (gather f as_ b h) = made.gather (λ a b h. done (f a b h)) as_ b h

-- the state that a part leaves
abbrev pub behind : {S A : Type 0} → Step S A → S
behind g = (done g).here

-- ---- what is said

-- the parts of a list, each where those in front of it led
abbrev pub EachBreaks : {S A : Type 0} → (A → S → Refusal → Type 0) → (A → S → S) → List A → S → Refusal → Type 0
EachBreaks B step [] h = Never
EachBreaks B step (a ∷ as_) h = Either (B a h) (EachBreaks B step as_ (step a h))

abbrev pub EachDeclarationBreaks : {S : Type 0} → (Declaration → S → Refusal → Type 0) → (Declaration → S → S) → Declarations → S → Refusal → Type 0
EachDeclarationBreaks B step no_declarations h = Never
EachDeclarationBreaks B step (declarations d ds) h = Either (B d h) (EachDeclarationBreaks B step ds (step d h))

-- what there is behind the parts of a list
abbrev pub GatherMeans : {S A B : Type 0} → (A → B → S → B → Type 0) → (A → B → S → S) → List A → B → S → B → Type 0
GatherMeans T step [] b h = Only b
GatherMeans T step (a ∷ as_) b h = Through (T a b h) (λ c. GatherMeans T step as_ c (step a b h))

abbrev pub GatherBreaks : {S A B : Type 0} → (A → B → S → B → Type 0) → (A → B → S → Refusal → Type 0) → (A → B → S → S) → List A → B → S → Refusal → Type 0
GatherBreaks T Q step [] b h = Never
GatherBreaks T Q step (a ∷ as_) b h = Either (Q a b h) (Through (T a b h) (λ c. GatherBreaks T Q step as_ c (step a b h)))

abbrev mutual
  -- exactly what is meant
  pub Means : {S A : Type 0} → Step S A → A → Type 0
  Means (gives a h) = Only a
  Means (silent h) = Never
  Means (breaks rule place h) = Never
  Means (unchanged rule place a h) = Only a
  Means (where_true b rule place h g) = Where (b ≡ true) (Means g)
  Means (when b g k) = When b (Means g) (Means k)
  Means (judged h j) = judgement.Means j
  Means (changes g f) = Only tt
  Means (next g f) = Means (f (behind g))
  Means (followed g f) = Whether (Means g) (λ o. Means (f o (behind g)))
  Means (onward g f) = Through (Means g) (λ a. Means (f a (behind g)))
  Means (unless_faulty g f) = Where (NoneBroken (Breaks g)) (Means (f (behind g)))
  Means (by f o h) = Through (Entry o) (λ a. Means (f a h))
  Means (each f as_ h) = Only tt
  Means (each_declaration f ds h) = Only tt
  Means (gather f as_ b h) = GatherMeans (λ a b h. Means (f a b h)) (λ a b h. behind (f a b h)) as_ b h

  -- exactly the rules that are broken
  pub Breaks : {S A : Type 0} → Step S A → Refusal → Type 0
  Breaks (gives a h) = Never
  Breaks (silent h) = Never
  Breaks (breaks rule place h) = Only (fault rule place)
  Breaks (unchanged rule place a h) = Only (fault rule place)
  Breaks (where_true b rule place h g) = Either (Where (b ≡ false) (Only (fault rule place))) (Where (b ≡ true) (Breaks g))
  Breaks (when b g k) = When b (Breaks g) (Breaks k)
  Breaks (judged h j) = judgement.Breaks j
  Breaks (changes g f) = Breaks g
  Breaks (next g f) = Either (Breaks g) (Breaks (f (behind g)))
  Breaks (followed g f) = Either (Breaks g) (Whether (Means g) (λ o. Breaks (f o (behind g))))
  Breaks (onward g f) = Either (Breaks g) (Through (Means g) (λ a. Breaks (f a (behind g))))
  Breaks (unless_faulty g f) = Either (Breaks g) (Where (NoneBroken (Breaks g)) (Breaks (f (behind g))))
  Breaks (by f o h) = Through (Entry o) (λ a. Breaks (f a h))
  Breaks (each f as_ h) = EachBreaks (λ a h. Breaks (f a h)) (λ a h. behind (f a h)) as_ h
  Breaks (each_declaration f ds h) = EachDeclarationBreaks (λ d h. Breaks (f d h)) (λ d h. behind (f d h)) ds h
  Breaks (gather f as_ b h) = GatherBreaks (λ a b h. Means (f a b h)) (λ a b h. Breaks (f a b h)) (λ a b h. behind (f a b h)) as_ b h
