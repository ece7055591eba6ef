-- Each rule of the checker has a text, and so has each fault that is told of a judgement or a step.
use Rattle.std.proofs.Common.{◌≡◌, Bool, true, false, List, [], ◌∷◌, Option, Some, None, if◌then◌else◌, refl}
use Rattle.op_base.specs.Rule.{HasText, text_of_feature, text_of_rule}
use Rattle.op_base.specs.declared.place.Place.{Place}
use Rattle.op_base.specs.declared.rule.Refusal.{Refusal}
use Rattle.op_core.specs.Faults.{Checked, Faults, IsIn, none, one, both, here, front, behind}
use Rattle.op_judgement.specs.Given as made
use Rattle.op_judgement.specs.Given.{Given, is_clear}
use Rattle.op_judgement.specs.Judgement as judgement
use Rattle.op_judgement.specs.Judgement.{HaveTexts, Judgement, checked, fault, fine, untyped, refused, changed, of_two, through, followed, given, with_part, by_entry, by_test, when, known}
use Rattle.op_judgement.specs.Rules.{rule_of}
use Rattle.op_judgement.specs.Steps as step
use Rattle.op_judgement.specs.Steps.{Step, done}
use Rattle.op_judgement.specs.declared.rules.Feature.{Feature}
use Rattle.op_judgement.specs.declared.rules.Feature.TheVariants.{FloatingPoint, OtherIntegers, ShortStrings, OtherStrings, Pointers, ProceduralTypes, Metaclasses, Files, Overloads, CaseOnStrings, NestedRoutines, FractionWidth, Strings, DynamicArrays, Classes, Interfaces, Exceptions}
use Rattle.op_judgement.specs.declared.rules.LanguageRule.{LanguageRule}
use Rattle.op_judgement.specs.declared.rules.LanguageRule.TheVariants.{Syntax, MissingFile, OtherFile, NotInProfile, DeclaredTwice, UnknownName, WrongKindOfName, NoBody, HeadingDiffers, NotAssignable, NoOperator, NotBoolean, NotOrdinal, NotIndexed, NoMember, WrongArguments, NoVariable, VariableOfAnotherType, NotWritable, NoConstant, EmptyRange, LabelTwice, OutOfRange, NoSetElement, NoStatement, NumberTooLarge, CharacterOfString, ContainsItself, NoCast, NoLoop, LeavesFinally, NotWritten, TooManyNames, TypeTooLarge, TooManyParameters, LocalsTooLarge, GlobalsTooLarge}
use Rattle.op_tree.specs.Declaration.{Declaration, Declarations, no_declarations, declarations}

feature_has_text : (feature : Feature) → HasText (rule_of (NotInProfile feature))
unfolding text_of_rule text_of_feature
feature_has_text FloatingPoint = refl
feature_has_text OtherIntegers = refl
feature_has_text ShortStrings = refl
feature_has_text OtherStrings = refl
feature_has_text Pointers = refl
feature_has_text ProceduralTypes = refl
feature_has_text Metaclasses = refl
feature_has_text Files = refl
feature_has_text Overloads = refl
feature_has_text CaseOnStrings = refl
feature_has_text NestedRoutines = refl
feature_has_text FractionWidth = refl
feature_has_text Strings = refl
feature_has_text DynamicArrays = refl
feature_has_text Classes = refl
feature_has_text Interfaces = refl
feature_has_text Exceptions = refl

pub has_text : (rule : LanguageRule) → HasText (rule_of rule)
unfolding text_of_rule text_of_feature
has_text Syntax = refl
has_text MissingFile = refl
has_text OtherFile = refl
has_text (NotInProfile feature) = feature_has_text feature
has_text DeclaredTwice = refl
has_text UnknownName = refl
has_text WrongKindOfName = refl
has_text NoBody = refl
has_text HeadingDiffers = refl
has_text NotAssignable = refl
has_text NoOperator = refl
has_text NotBoolean = refl
has_text NotOrdinal = refl
has_text NotIndexed = refl
has_text NoMember = refl
has_text WrongArguments = refl
has_text NoVariable = refl
has_text VariableOfAnotherType = refl
has_text NotWritable = refl
has_text NoConstant = refl
has_text EmptyRange = refl
has_text LabelTwice = refl
has_text OutOfRange = refl
has_text NoSetElement = refl
has_text NoStatement = refl
has_text NumberTooLarge = refl
has_text CharacterOfString = refl
has_text ContainsItself = refl
has_text NoCast = refl
has_text NoLoop = refl
has_text LeavesFinally = refl
has_text NotWritten = refl
has_text TooManyNames = refl
has_text TypeTooLarge = refl
has_text TooManyParameters = refl
has_text LocalsTooLarge = refl
has_text GlobalsTooLarge = refl

-- the text of one of them
pub told_in : (f : Faults) → HaveTexts f → (r : Refusal) → IsIn r f → HasText r.rule
told_in none t r i = elim i [ ]
told_in (one q) t r here = t
told_in (both a b) t r (front i) = told_in a t.0 r i
told_in (both a b) t r (behind i) = told_in b t.1 r i

-- ---- judgements

told_by : {A B : Type 0} (g : A → Checked B) (o : Option A) → ((a : A) → HaveTexts (g a).faults) → HaveTexts (judgement.by g o).faults
told_by g None t = tt
told_by g (Some a) t = t a

told_or : {A B : Type 0} (rule : LanguageRule) (place : Place) (g : A → Checked B) (o : Option A) → ((a : A) → HaveTexts (g a).faults) → HaveTexts (judgement.or_fault (fault rule place) g o).faults
told_or rule place g None t = has_text rule
told_or rule place g (Some a) t = t a

told_unless : {A : Type 0} (rule : LanguageRule) (place : Place) (c : Checked A) (b : Bool) → HaveTexts c.faults → HaveTexts (judgement.unless (fault rule place) c b).faults
told_unless rule place c true t = t
told_unless rule place c false t = has_text rule

told_when : {A : Type 0} (c d : Checked A) (b : Bool) → HaveTexts c.faults → HaveTexts d.faults → HaveTexts (if b then c else d).faults
told_when c d true t u = t
told_when c d false t u = u

pub all_told : {A : Type 0} (j : Judgement A) → HaveTexts (checked j).faults
all_told (fine a) = tt
all_told untyped = tt
all_told (refused rule place) = has_text rule
all_told (changed f j) = all_told j
all_told (of_two f j k) = (all_told j, all_told k)
all_told (through j g) = (all_told j, told_by (λ a. checked (g a)) (checked j).typed (λ a. all_told (g a)))
all_told (followed j g) = (all_told j, all_told (g (checked j).typed))
all_told (given j g) = all_told (g (checked j).typed)
all_told (with_part g o) = told_by (λ a. checked (g a)) o (λ a. all_told (g a))
all_told (by_entry rule place g o) = told_or rule place (λ a. checked (g a)) o (λ a. all_told (g a))
all_told (by_test rule place j b) = told_unless rule place (checked j) b (all_told j)
all_told (when b j k) = told_when (checked j) (checked k) b (all_told j) (all_told k)
all_told (known c T B law told) = told

-- ---- steps

told_where : {S A : Type 0} (b : Bool) (rule : LanguageRule) (place : Place) (h : S) (g : Given S A) → HaveTexts g.faults → HaveTexts (made.where_true b rule place h g).faults
told_where true rule place h g t = t
told_where false rule place h g t = has_text rule

told_of : {S A : Type 0} (b : Bool) (g k : Given S A) → HaveTexts g.faults → HaveTexts k.faults → HaveTexts (if b then g else k).faults
told_of true g k t u = t
told_of false g k t u = u

pub told_unless_faulty : {S A B : Type 0} (g : Given S A) (f : S → Given S B) → HaveTexts g.faults → HaveTexts (f g.here).faults → HaveTexts (made.unless_faulty g f).faults
told_unless_faulty {S} {A} {B} g f t u = one_way (is_clear g.faults)
  where
    one_way : (b : Bool) → HaveTexts (made.unless b g f).faults
    one_way true = (t, u)
    one_way false = t

told_behind : {S A B : Type 0} (f : A → S → Given S B) (o : Option A) (h : S) → ((a : A) → HaveTexts (f a h).faults) → HaveTexts (made.by f o h).faults
told_behind f None h t = tt
told_behind f (Some a) h t = t a

told_each : {S A : Type 0} (f : A → S → Given S (Unit {0})) → ((a : A) (h : S) → HaveTexts (f a h).faults) → (as_ : List A) (h : S) → HaveTexts (made.each f as_ h).faults
told_each f t [] h = tt
told_each f t (a ∷ as_) h = (t a h, told_each f t as_ (f a h).here)

told_declarations : {S : Type 0} (f : Declaration → S → Given S (Unit {0})) → ((d : Declaration) (h : S) → HaveTexts (f d h).faults) → (ds : Declarations) (h : S) → HaveTexts (made.each_declaration f ds h).faults
told_declarations f t no_declarations h = tt
told_declarations f t (declarations d ds) h = (t d h, told_declarations f t ds (f d h).here)

told_gather : {S A B : Type 0} (f : A → B → S → Given S B) → ((a : A) (b : B) (h : S) → HaveTexts (f a b h).faults) → (as_ : List A) (b : B) (h : S) → HaveTexts (made.gather f as_ b h).faults
told_gather f t [] b h = tt
told_gather f t (a ∷ as_) b h = (t a b h, told_behind (made.gather f as_) (f a b h).typed (f a b h).here (λ c. told_gather f t as_ c (f a b h).here))

pub step_told : {S A : Type 0} (g : Step S A) → HaveTexts (done g).faults
step_told (step.gives a h) = tt
step_told (step.silent h) = tt
step_told (step.breaks rule place h) = has_text rule
step_told (step.unchanged rule place a h) = has_text rule
step_told (step.where_true b rule place h g) = told_where b rule place h (done g) (step_told g)
step_told (step.when b g k) = told_of b (done g) (done k) (step_told g) (step_told k)
step_told (step.judged h j) = all_told j
step_told (step.changes g f) = step_told g
step_told (step.next g f) = (step_told g, step_told (f (step.behind g)))
step_told (step.followed g f) = (step_told g, step_told (f (done g).typed (step.behind g)))
step_told (step.onward g f) = (step_told g, told_behind (λ a h. done (f a h)) (done g).typed (step.behind g) (λ a. step_told (f a (step.behind g))))
step_told (step.unless_faulty g f) = told_unless_faulty (done g) (λ h. done (f h)) (step_told g) (step_told (f (step.behind g)))
step_told (step.by f o h) = told_behind (λ a h. done (f a h)) o h (λ a. step_told (f a h))
step_told (step.each f as_ h) = told_each (λ a h. done (f a h)) (λ a h. step_told (f a h)) as_ h
step_told (step.each_declaration f ds h) = told_declarations (λ d h. done (f d h)) (λ d h. step_told (f d h)) ds h
step_told (step.gather f as_ b h) = told_gather (λ a b h. done (f a b h)) (λ a b h. step_told (f a b h)) as_ b h
