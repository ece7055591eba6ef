-- What headings and their parameters are made of.
use Rattle.std.proofs.Common.{ℕ, Bool, true, false, List, [], ◌∷◌, Option, Some, None, map, refl, subst}
use Rattle.std.proofs.lemmas.List.{map-id}
use Rattle.op_parse_code.proofs.Refusing.{Known}
use Rattle.op_parse_code.proofs.StatementKnown.{known_name}
use Rattle.op_parse_code.specs.Refusal.{Phrase}
use Rattle.op_parse_code.specs.Whole.{NoMark, SomeName}
use Rattle.op_parse_code.specs.declared.mark.Mark.TheVariants as mark
use Rattle.op_parse_decl.specs.Combined.{Both, both, Stands, stands, Then, then_, Behind, no_mark, behind_mark, Or, this, that, Deeper, deeper, Nothing, nothing, mark_ahead, Ahead, is_ahead, not_ahead, Separated, last_part, and_more}
use Rattle.op_parse_decl.specs.DeclarationParts.{type_in, type_out}
use Rattle.op_parse_decl.specs.HeadingKnown.{known_routine_kind, known_moded, known_parameter_type}
use Rattle.op_parse_decl.specs.Headings.{IsRoutineKind, is_routine_kind, SomeRoutineName, routine_alone, routine_of_class, SomeHeading, SomeModed, some_moded, SomeParameter, SomeParameterPart, part_missing, part_empty, part_given, SomeParameterType}
use Rattle.op_parse_decl.specs.Known.{As, known_ahead, known_as, known_behind, known_deeper, known_nothing, known_separated, known_stands, known_then, no_mark_by}
use Rattle.op_parse_decl.specs.KnownTypes.{known_denoter}
use Rattle.op_parse_decl.specs.Types.{SomeDenoter}
use Rattle.op_scan.specs.declared.token.TokenKind.{TokenKind}
use Rattle.op_scan.specs.declared.token.TokenKind.TheVariants as kind
use Rattle.op_tree.proofs.DenoterUnique.{no_dot}
use Rattle.op_tree.proofs.ExpressionUnique.{is_colon}
use Rattle.op_tree.proofs.HeadingUnique.{no_parameters, part_no_dot, type_part_no_selector}
use Rattle.op_tree.proofs.StatementUnique.{is_dot, is_semicolon}
use Rattle.op_tree.specs.Denoter.{Denoter}
use Rattle.op_tree.specs.Ends.{begins_selector}
use Rattle.op_tree.specs.HeadingGrammar.{is_no_array, is_open_array, IsParameterType, is_named, is_string, is_parameter, AreParameters, is_one_parameter, are_parameters, IsParameterPart, has_no_brackets, has_empty_brackets, has_parameters, IsRoutineName, is_of_no_class, is_of_class, is_heading}
use Rattle.op_tree.specs.NameGrammar.{is_name, is_unqualified, is_qualified}
use Rattle.op_tree.specs.Terminal.{Terminal, ◌at◌}
use Rattle.op_tree.specs.declared.heading.Parameter.{Parameter}
use Rattle.op_tree.specs.declared.heading.ParameterMode.{ParameterMode}
use Rattle.op_tree.specs.declared.heading.ParameterType.{ParameterType}
use Rattle.op_tree.specs.declared.heading.RoutineKind.{RoutineKind}
use Rattle.op_tree.specs.declared.position.Name.{Name}
use Rattle.op_tree.specs.declared.position.Position.{Position}

-- ---- parameters of one type

abbrev pub ParameterParts : Phrase (Both (Both ParameterMode (List Name)) (Both (Option (Unit {0})) ParameterType))
ParameterParts = Then SomeModed (Then (Behind mark.Array (Stands mark.Of)) SomeParameterType)

pub closed_of_parts : {d : ℕ} {m : ParameterMode} {ns : List Name} {t : ParameterType} {ks r : List Terminal} → ParameterParts d (both (both m ns) (both None t)) ks r → SomeParameter d (record { mode = m; names = ns; open_array = false; of = t }) ks r
closed_of_parts (then_ (some_moded m n) (then_ (no_mark none) t)) = (is_parameter m n is_no_array t.0, t.1)

pub open_of_parts : {d : ℕ} {m : ParameterMode} {ns : List Name} {t : ParameterType} {ks r : List Terminal} → ParameterParts d (both (both m ns) (both (Some tt) t)) ks r → SomeParameter d (record { mode = m; names = ns; open_array = true; of = t }) ks r
open_of_parts (then_ (some_moded m n) (then_ (behind_mark stands) t)) = (is_parameter m n is_open_array t.0, t.1)

abbrev is_array : TokenKind → Bool
is_array kind.Array = true
is_array other = false

no_array : {t : ParameterType} {ks r : List Terminal} → IsParameterType t ks r → NoMark mark.Array ks
no_array (is_named (is_unqualified is_name)) = no_mark_by mark.Array is_array refl refl
no_array (is_named (is_qualified is_name n)) = no_mark_by mark.Array is_array refl refl
no_array is_string = no_mark_by mark.Array is_array refl refl

pub made_parameter : As ParameterParts SomeParameter
made_parameter d a ks r (is_parameter {mode = m} {ns = ns} {t = t} f n is_no_array g, none) = (both (both m ns) (both None t), then_ (some_moded f n) (then_ (no_mark (no_array g)) (g, none)), λ i ls s x. closed_of_parts x)
made_parameter d a ks r (is_parameter {mode = m} {ns = ns} {t = t} f n is_open_array g, none) = (both (both m ns) (both (Some tt) t), then_ (some_moded f n) (then_ (behind_mark stands) (g, none)), λ i ls s x. open_of_parts x)

-- ---- parameters in their brackets

parameters_in : {d : ℕ} {as_ : List Parameter} {q : Position} {ks r : List Terminal} → AreParameters as_ ks (kind.CloseParenthesis at q ∷ r) → Separated mark.Semicolon SomeParameter d as_ ks (kind.CloseParenthesis at q ∷ r)
parameters_in (is_one_parameter a) = last_part (a, no_mark_by mark.Dot is_dot refl refl) (no_mark_by mark.Semicolon is_semicolon refl refl)
parameters_in (are_parameters a more) = and_more (a, no_mark_by mark.Dot is_dot refl refl) (parameters_in more)

pub parameters_out : {d : ℕ} {as_ : List Parameter} {ks r : List Terminal} → Separated mark.Semicolon SomeParameter d as_ ks r → AreParameters as_ ks r
parameters_out (last_part a none) = is_one_parameter a.0
parameters_out (and_more a more) = are_parameters a.0 (parameters_out more)

-- the opening bracket, and the parameters behind it if the closing one does not stand there
abbrev pub PartFront : Phrase (Both (Unit {0}) (Or (Unit {0}) (List Parameter)))
PartFront = Then (Stands mark.OpenParenthesis) (Ahead mark.CloseParenthesis Nothing (Separated mark.Semicolon SomeParameter))

abbrev pub PartParts : Phrase (Or (Both (Both (Unit {0}) (Or (Unit {0}) (List Parameter))) (Unit {0})) (Unit {0}))
PartParts = Ahead mark.OpenParenthesis (Deeper (Then PartFront (Stands mark.CloseParenthesis))) Nothing

pub missing_of_parts : {d : ℕ} {ks r : List Terminal} → PartParts d (that tt) ks r → SomeParameterPart d [] ks r
missing_of_parts (not_ahead none nothing) = part_missing none

pub empty_of_parts : {d : ℕ} {ks r : List Terminal} → PartParts d (this (both (both tt (this tt)) tt)) ks r → SomeParameterPart d [] ks r
empty_of_parts (is_ahead h (deeper (then_ (then_ stands (is_ahead h' nothing)) stands))) = part_empty

given_of_parts : {d : ℕ} {as_ : List Parameter} {ks r : List Terminal} → PartParts d (this (both (both tt (that as_)) tt)) ks r → SomeParameterPart d as_ ks r
given_of_parts (is_ahead h (deeper (then_ (then_ stands (not_ahead none as_)) stands))) = part_given (parameters_out as_)

pub given_of_list : {d : ℕ} (as_ : List Parameter) {ks r : List Terminal} → PartParts d (this (both (both tt (that (map (λ a. a) as_))) tt)) ks r → SomeParameterPart d as_ ks r
given_of_list {d = d} as_ {ks = ks} {r = r} x = given_of_parts (subst (λ z. PartParts d (this (both (both tt (that z)) tt)) ks r) (map-id as_) x)

pub made_part : As PartParts SomeParameterPart
made_part d as_ ks r (part_missing none) = (that tt, not_ahead none nothing, λ i ls s x. missing_of_parts x)
made_part d as_ ks r part_empty = (this (both (both tt (this tt)) tt), is_ahead mark_ahead (deeper (then_ (then_ stands (is_ahead mark_ahead nothing)) stands)), λ i ls s x. empty_of_parts x)
made_part d as_ ks r (part_given {q = q} f) = (this (both (both tt (that as_)) tt), is_ahead mark_ahead (deeper (then_ (then_ stands (not_ahead (λ p z e. no_parameters (subst (λ y. AreParameters as_ y (kind.CloseParenthesis at q ∷ r)) e f)) (parameters_in f))) stands)), λ i ls s x. given_of_parts x)

-- ---- names of routines

abbrev pub NameParts : Phrase (Both Name (Option Name))
NameParts = Then SomeName (Behind mark.Dot SomeName)

pub alone_of_parts : {d : ℕ} {n : Name} {ks r : List Terminal} → NameParts d (both n None) ks r → SomeRoutineName d (both None n) ks r
alone_of_parts (then_ f (no_mark none)) = routine_alone f none

pub class_of_parts : {d : ℕ} {c n : Name} {ks r : List Terminal} → NameParts d (both c (Some n)) ks r → SomeRoutineName d (both (Some c) n) ks r
class_of_parts (then_ f (behind_mark g)) = routine_of_class f g

pub made_name : As NameParts SomeRoutineName
made_name d x ks r (routine_alone {n = n} f none) = (both n None, then_ f (no_mark none), λ i ls s x. alone_of_parts x)
made_name d x ks r (routine_of_class {c = c} {n = n} f g) = (both c (Some n), then_ f (behind_mark g), λ i ls s x. class_of_parts x)

-- ---- headings

abbrev pub HeadingParts : Phrase (Both RoutineKind (Both (Both (Option Name) Name) (Both (List Parameter) (Both (Option Denoter) (Unit {0})))))
HeadingParts = Then IsRoutineKind (Then SomeRoutineName (Then SomeParameterPart (Then (Behind mark.Colon SomeDenoter) (Stands mark.Semicolon))))

part_in : {d : ℕ} {as_ : List Parameter} {ks m : List Terminal} → IsParameterPart d as_ ks m → NoMark mark.OpenParenthesis m → SomeParameterPart d as_ ks m
part_in has_no_brackets none = part_missing none
part_in has_empty_brackets none = part_empty
part_in (has_parameters f) none = part_given f

part_out : {d : ℕ} {as_ : List Parameter} {ks m : List Terminal} → SomeParameterPart d as_ ks m → IsParameterPart d as_ ks m
part_out (part_missing none) = has_no_brackets
part_out part_empty = has_empty_brackets
part_out (part_given f) = has_parameters f

name_in : {d : ℕ} {c : Option Name} {n : Name} {ks r : List Terminal} → IsRoutineName c n ks r → NoMark mark.Dot r → SomeRoutineName d (both c n) ks r
name_in (is_of_no_class f) none = routine_alone f none
name_in (is_of_class f g) none = routine_of_class f g

name_out : {d : ℕ} {c : Option Name} {n : Name} {ks r : List Terminal} → SomeRoutineName d (both c n) ks r → IsRoutineName c n ks r
name_out (routine_alone f none) = is_of_no_class f
name_out (routine_of_class f g) = is_of_class f g

pub heading_of_parts : {d : ℕ} {sort : RoutineKind} {c : Option Name} {n : Name} {as_ : List Parameter} {t : Option Denoter} {ks r : List Terminal} → HeadingParts d (both sort (both (both c n) (both as_ (both t tt)))) ks r → SomeHeading d (record { kind = sort; class = c; name = n; parameters = as_; result = t }) ks r
heading_of_parts (then_ (is_routine_kind e) (then_ f (then_ a (then_ g (stands {p = p}))))) = (p, is_heading e (name_out f) (part_out a) (type_out g))

pub made_heading : As HeadingParts SomeHeading
made_heading d h ks r (u, is_heading {sort = sort} {c = c} {n = n} {as_ = as_} {t = t} {m1 = m} e f a g) =
    let s = type_part_no_selector g in
    (both sort (both (both c n) (both as_ (both t tt))), then_ (is_routine_kind e) (then_ (name_in f (no_mark_by mark.Dot is_dot refl (part_no_dot a (no_dot m s)))) (then_ (part_in a (no_mark_by mark.OpenParenthesis begins_selector refl s)) (then_ (type_in (no_mark_by mark.Colon is_colon refl refl) (record { operator = refl; selector = refl; range = refl }) g) stands))), λ i ls s x. heading_of_parts x)

known_parameter : Known SomeParameter
known_parameter = known_as made_parameter (known_then known_moded (known_then (known_behind (known_stands mark.Of)) known_parameter_type))

pub known_part : Known SomeParameterPart
known_part = known_as made_part (known_ahead (known_deeper (known_then (known_then (known_stands mark.OpenParenthesis) (known_ahead known_nothing (known_separated known_parameter))) (known_stands mark.CloseParenthesis))) known_nothing)

pub known_heading : Known SomeHeading
known_heading = known_as made_heading (known_then known_routine_kind (known_then (known_as made_name (known_then known_name (known_behind known_name))) (known_then known_part (known_then (known_behind known_denoter) (known_stands mark.Semicolon)))))
