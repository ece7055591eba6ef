-- What is computed of a part that changes a state: what it denotes, the state behind it, and its faults.
use Rattle.std.specs.Prelude.{Bool, true, false, ◌&&◌, List, Option, Some, None, [], ◌∷◌}
use Rattle.op_base.specs.declared.place.Place.{Place}
use Rattle.op_core.specs.Faults.{Checked, Faults, both, none, one}
use Rattle.op_judgement.specs.Judgement.{fault}
use Rattle.op_judgement.specs.declared.rules.LanguageRule.{LanguageRule}
use Rattle.op_tree.specs.Declaration.{Declaration, Declarations, no_declarations, declarations}

-- no rule is broken
abbrev pub is_clear : Faults → Bool
is_clear none = true
is_clear (one fault) = false
is_clear (both first others) = is_clear first && is_clear others

-- without a type where anything in the part breaks a rule
pub record Given (S A : Type 0) : Type 0 where
  pub typed : Option A
  pub here : S
  pub faults : Faults

abbrev pub gives : {S A : Type 0} → A → S → Given S A
gives a h = record { typed = Some a; here = h; faults = none }

-- what reads a part without a type is silent
abbrev pub silent : {S A : Type 0} → S → Given S A
silent h = record { typed = None; here = h; faults = none }

abbrev pub breaks : {S A : Type 0} → LanguageRule → Place → S → Given S A
breaks rule place h = record { typed = None; here = h; faults = one (fault rule place) }

-- the rule is broken, and what there is stays
abbrev pub unchanged : {S A : Type 0} → LanguageRule → Place → A → S → Given S A
unchanged rule place a h = record { typed = Some a; here = h; faults = one (fault rule place) }

-- the rule is broken where a test fails
abbrev pub where_true : {S A : Type 0} → Bool → LanguageRule → Place → S → Given S A → Given S A
where_true true rule place h g = g
where_true false rule place h g = breaks rule place h

-- a part that changes nothing
abbrev pub checked : {S A : Type 0} → S → Checked A → Given S A
checked h c = record { typed = c.typed; here = h; faults = c.faults }

-- the state is changed by what a part denotes, if anything
abbrev pub changes : {S A : Type 0} → Given S A → (Option A → S → S) → Given S (Unit {0})
changes g f = record { typed = Some tt; here = f g.typed g.here; faults = g.faults }

-- a part, and what comes behind it
abbrev pub followed : {S A B : Type 0} → Given S A → (Option A → S → Given S B) → Given S B
followed g f = record { typed = (f g.typed g.here).typed; here = (f g.typed g.here).here; faults = both g.faults (f g.typed g.here).faults }

-- what comes behind a part that breaks no rule, and nothing behind one that breaks any
abbrev pub unless : {S A B : Type 0} → Bool → Given S A → (S → Given S B) → Given S B
unless true g f = followed g (λ t h. f h)
unless false g f = record { typed = None; here = g.here; faults = g.faults }

abbrev pub unless_faulty : {S A B : Type 0} → Given S A → (S → Given S B) → Given S B
unless_faulty g f = unless (is_clear g.faults) g f

-- what reads a part, silent where that has no type
abbrev pub by : {S A B : Type 0} → (A → S → Given S B) → Option A → S → Given S B
by f None h = silent h
by f (Some a) h = f a h

-- the parts of a list, one behind the other
abbrev pub each : {S A : Type 0} → (A → S → Given S (Unit {0})) → List A → S → Given S (Unit {0})
each f [] h = gives tt h
each f (a ∷ as_) h = followed (f a h) (λ t h. each f as_ h)

-- the declarations of a list
abbrev pub each_declaration : {S : Type 0} → (Declaration → S → Given S (Unit {0})) → Declarations → S → Given S (Unit {0})
each_declaration f no_declarations h = gives tt h
each_declaration f (declarations d ds) h = followed (f d h) (λ t h. each_declaration f ds h)

-- the parts of a list, put behind what there is so far
abbrev pub gather : {S A B : Type 0} → (A → B → S → Given S B) → List A → B → S → Given S B
gather f [] b h = gives b h
gather f (a ∷ as_) b h = followed (f a b h) (by (gather f as_))
