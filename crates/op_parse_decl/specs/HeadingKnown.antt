-- The parts of headings that are no others put together: each stands whatever follows that begins so, and ends at one place.
use Rattle.std.proofs.Common.{◌≡◌, ℕ, suc, List, ◌∷◌, refl, ap, ◌∙◌}
use Rattle.op_parse_code.proofs.Cuts.{cut_none, cut_one, cut_join, Front}
use Rattle.op_parse_code.proofs.Refusing.{Known, no_mark_same}
use Rattle.op_parse_code.proofs.StatementFronts.{front_qualified}
use Rattle.op_parse_code.specs.declared.mark.Mark.TheVariants as mark
use Rattle.op_parse_decl.specs.Combined.{Both}
use Rattle.op_parse_decl.specs.Fronts.{front_names}
use Rattle.op_parse_decl.specs.Headings.{IsRoutineKind, is_routine_kind, SomeModed, some_moded, SomeParameterType}
use Rattle.op_parse_decl.specs.Known.{Stays}
use Rattle.op_parse_decl.specs.KnownTypes.{not_dot}
use Rattle.op_scan.specs.declared.token.TokenKind.TheVariants as kind
use Rattle.op_tree.proofs.HeadingUnique.{unique_moded, unique_parameter_type}
use Rattle.op_tree.specs.HeadingGrammar.{IsMode, by_value, by_var, by_const, by_out, IsParameterType, is_named, is_string}
use Rattle.op_tree.specs.Terminal.{Terminal, ◌at◌}
use Rattle.op_tree.specs.declared.heading.ParameterMode.{ParameterMode}
use Rattle.op_tree.specs.declared.heading.ParameterType.{ParameterType}
use Rattle.op_tree.specs.declared.heading.RoutineKind.{RoutineKind}
use Rattle.op_tree.specs.declared.position.Name.{Name}

front_kind : (d : ℕ) (sort : RoutineKind) (ks r : List Terminal) → IsRoutineKind d sort ks r → Stays (IsRoutineKind d sort) ks r
front_kind d sort ks r (is_routine_kind {k = k} {p = p} e) = (λ x. k at p ∷ x, cut_one (k at p) cut_none, refl, λ x h. is_routine_kind e)

same_kind : (d d' : ℕ) (sort sort' : RoutineKind) (ks r r' : List Terminal) → IsRoutineKind d sort ks r → IsRoutineKind d' sort' ks r' → r ≡ r'
same_kind d d' sort sort' ks r r' (is_routine_kind e) (is_routine_kind e') = refl

deepens_kind : (d : ℕ) (sort : RoutineKind) (ks r : List Terminal) → IsRoutineKind d sort ks r → IsRoutineKind (suc d) sort ks r
deepens_kind d sort ks r (is_routine_kind e) = is_routine_kind e

pub known_routine_kind : Known IsRoutineKind
known_routine_kind = record { front = front_kind; same = same_kind; deepens = deepens_kind }

front_mode : {m : ParameterMode} {ks r : List Terminal} → IsMode m ks r → Front (IsMode m) ks r
front_mode by_value = (λ x. x, cut_none, refl, λ x. by_value)
front_mode (by_var {p = p}) = (λ x. kind.Var at p ∷ x, cut_one (kind.Var at p) cut_none, refl, λ x. by_var)
front_mode (by_const {p = p}) = (λ x. kind.Const_ at p ∷ x, cut_one (kind.Const_ at p) cut_none, refl, λ x. by_const)
front_mode (by_out {out = out} {p = p} h) = (λ x. kind.Identifier out at p ∷ x, cut_one (kind.Identifier out at p) cut_none, refl, λ x. by_out h)

front_moded : (d : ℕ) (a : Both ParameterMode (List Name)) (ks r : List Terminal) → SomeModed d a ks r → Stays (SomeModed d a) ks r
front_moded d a ks r (some_moded {p = p} m n) =
    let s = front_mode m in
    let u = front_names n in
    (λ x. s.0 (u.0 (kind.Colon at p ∷ x)), cut_join s.1 (cut_join u.1 (cut_one (kind.Colon at p) cut_none)), s.2 ∙ ap s.0 u.2, λ x h. some_moded (s.3 (u.0 (kind.Colon at p ∷ x))) (u.3 (kind.Colon at p ∷ x)))

same_moded : (d d' : ℕ) (a a' : Both ParameterMode (List Name)) (ks r r' : List Terminal) → SomeModed d a ks r → SomeModed d' a' ks r' → r ≡ r'
same_moded d d' a a' ks r r' (some_moded m n) (some_moded m' n') = (unique_moded m n m' n').2

deepens_moded : (d : ℕ) (a : Both ParameterMode (List Name)) (ks r : List Terminal) → SomeModed d a ks r → SomeModed (suc d) a ks r
deepens_moded d a ks r (some_moded m n) = some_moded m n

pub known_moded : Known SomeModed
known_moded = record { front = front_moded; same = same_moded; deepens = deepens_moded }

front_type : {t : ParameterType} {ks r : List Terminal} → IsParameterType t ks r → Front (IsParameterType t) ks r
front_type (is_named q) = let s = front_qualified q in (s.0, s.1, s.2, λ x. is_named (s.3 x))
front_type (is_string {p = p}) = (λ x. kind.String at p ∷ x, cut_one (kind.String at p) cut_none, refl, λ x. is_string)

pub known_parameter_type : Known SomeParameterType
known_parameter_type = record {
  front = λ d t ks m p. let s = front_type p.0 in (s.0, s.1, s.2, λ x h. (s.3 x, no_mark_same mark.Dot m x h p.1));
  same = λ d d' t t' ks m m' p p'. (unique_parameter_type p.0 p'.0 (not_dot m p.1) (not_dot m' p'.1)).1;
  deepens = λ d t ks m p. p;
}
