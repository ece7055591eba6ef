-- Names: what they stand for, and how they are declared (Free Pascal Reference Guide, "Scope").
use Rattle.std.specs.Prelude.{ℕ, ◌+◌, Bool, false, not, ◌||◌, nat_lt, List, [], ◌∷◌, ◌++◌, length, drop, is_some, Option, Some, None}
use Rattle.std.specs.Str.{str_eq_ignore_ascii_case}
use Rattle.op_base.specs.declared.place.Place.{Place}
use Rattle.op_check_expr.specs.Naming.{feature_of_type}
use Rattle.op_check_expr.specs.Parts.{by_feature}
use Rattle.op_check_unit.specs.declared.naming.Told.{Told}
use Rattle.op_check_unit.specs.declared.naming.Told.TheVariants.{Unknown, Spoiled, Known, LeftOutType, Unit as Unit', Other}
use Rattle.op_check_unit.specs.Steps.{Here}
use Rattle.op_core.specs.Sizes.{type_at}
use Rattle.op_core.specs.declared.ids.TypeId.{TypeId}
use Rattle.op_core.specs.declared.program.Core.{Core}
use Rattle.op_judgement.specs.Judgement.{Judgement, fine, refused, untyped, when}
use Rattle.op_judgement.specs.declared.rules.LanguageRule.TheVariants.{ContainsItself, DeclaredTwice, NotInProfile, TooManyNames, UnknownName, WrongKindOfName}
use Rattle.op_judgement.specs.Steps.{Step, gives, where_true}
use Rattle.op_tree.specs.declared.position.Name.{Name}
use Rattle.op_tree.specs.declared.position.QualifiedName.{QualifiedName}
use Rattle.op_types.specs.ConstantParts.{joined_name}
use Rattle.op_types.specs.Names.{Named, lower, meaning_of}
use Rattle.op_types.specs.declared.visible.BuiltIn.TheVariants.{LeftOut}
use Rattle.op_types.specs.declared.visible.Meaning.{Meaning}
use Rattle.op_types.specs.declared.visible.Meaning.TheVariants as meaning

-- ---- types that are named

-- what a name stands for, as far as types ask
abbrev pub told_by : Option Meaning → Told
told_by None = Unknown
told_by (Some meaning.Spoiled) = Spoiled
told_by (Some (meaning.TypeName of)) = Known of
told_by (Some (meaning.BuiltIn (LeftOut feature))) = LeftOutType feature
told_by (Some (meaning.Unit id)) = Unit'
told_by (Some _) = Other

abbrev pub told_in : List Named → List ℕ → Told
told_in names name = told_by (meaning_of names name)

-- unless the type shows a feature that is left out, as AnsiString and TObject do
abbrev pub by_type : {A : Type 0} → Core → Place → TypeId → Judgement A → Judgement A
by_type core place of j = by_feature place (feature_of_type (type_at core of)) j

-- the name is unknown, its declaration breaks a rule, the type is left out, or it is of another kind
abbrev pub type_meant : Core → Place → Told → Judgement TypeId
type_meant core place Unknown = refused UnknownName place
type_meant core place Spoiled = untyped
type_meant core place (Known of) = by_type core place of (fine of)
type_meant core place (LeftOutType feature) = refused (NotInProfile feature) place
type_meant core place _ = refused WrongKindOfName place

-- a name of a unit
abbrev pub type_of_unit : Core → List Named → Name → Name → Told → Judgement TypeId
type_of_unit core names u n Unit' = type_meant core n.position.place (told_in names (joined_name u.text n.text))
type_of_unit core names u n (Known of) = by_type core u.position.place of (refused WrongKindOfName u.position.place)
type_of_unit core names u n t = type_meant core u.position.place t

abbrev pub is_name : Option Name → Name → Bool
is_name None n = false
is_name (Some own) n = str_eq_ignore_ascii_case own.text n.text

abbrev pub place_of : Place → Option Name → Place
place_of place None = place
place_of place (Some own) = own.position.place

-- A type that is named in its own declaration: within a record or an array it would contain itself, elsewhere it is not known yet.
abbrev pub own_type : Option Name → Bool → Place → Judgement TypeId
own_type own inside place = when inside (refused ContainsItself (place_of place own)) (refused UnknownName place)

abbrev pub type_alone : Core → List Named → Option Name → Bool → Name → Judgement TypeId
type_alone core names own inside n =
    when (is_name own n) (own_type own inside n.position.place) (type_meant core n.position.place (told_in names (lower n.text)))

abbrev named_by : Core → List Named → Option Name → Bool → Name → Option Name → Judgement TypeId
named_by core names own inside n None = type_alone core names own inside n
named_by core names own inside n (Some u) = type_of_unit core names u n (told_in names (lower u.text))

-- a name, maybe in the declaration of a type
abbrev pub type_named : Core → List Named → Option Name → Bool → QualifiedName → Judgement TypeId
type_named core names own inside q = named_by core names own inside q.name q.unit

-- ---- names that are declared

-- the name stands in this scope
abbrev pub is_declared : Here → Name → Bool
is_declared h n = is_some (meaning_of (drop h.first h.names) (lower n.text))

-- the most names that a scope may have
abbrev pub most_names : ℕ
most_names = 65535

-- so many more names have room in this scope
abbrev pub has_room : ℕ → Here → Bool
has_room more h = nat_lt (h.count + more) most_names

abbrev pub with_name : Name → Meaning → Here → Here
with_name n m h = record h { names = h.names ++ record { name = lower n.text; meaning = m } ∷ []; count = h.count + 1 }

-- in the scope of a unit the name also stands behind that of the unit
abbrev pub qualified : Option (List ℕ) → Name → Meaning → Here → Here
qualified None n m h = h
qualified (Some unit) n m h = record h { names = h.names ++ record { name = joined_name unit n.text; meaning = m } ∷ [] }

abbrev pub with_declared : Name → Meaning → Here → Here
with_declared n m h = qualified h.own n m (with_name n m h)

-- A name, unless it is taken in this scope or too many are. So many stand in front of it and are declared later.
abbrev pub entered_name : Bool → ℕ → Name → Meaning → Here → Step Here (Unit {0})
entered_name taken more n m h =
    where_true (not taken) DeclaredTwice n.position.place h (where_true (has_room more h) TooManyNames n.position.place h (gives tt (with_declared n m h)))

abbrev pub declared : Name → Meaning → Here → Step Here (Unit {0})
declared n m h = entered_name (is_declared h n) 0 n m h

-- the name is one of those of the declaration that is under way
abbrev pub is_ahead : Here → Name → Bool
is_ahead h n = is_some (meaning_of h.ahead (lower n.text))

-- a name within the declaration of others
abbrev pub declared_within : Name → Meaning → Here → Step Here (Unit {0})
declared_within n m h = entered_name (is_ahead h n || is_declared h n) (length h.ahead) n m h

-- a name of a declaration that begins, and none of one that has ended
abbrev pub with_ahead : Name → Here → Here
with_ahead n h = record h { ahead = h.ahead ++ record { name = lower n.text; meaning = meaning.Spoiled } ∷ [] }

abbrev pub all_ahead : List Name → Here → Here
all_ahead [] h = h
all_ahead (n ∷ ns) h = all_ahead ns (with_ahead n h)

abbrev pub ended : Here → Here
ended h = record h { ahead = [] }
