-- A directive that is printed is a comment, and behind it its switches hold.
use Rattle.std.proofs.Common.{◌≡◌, ◌≢◌, ℕ, Bool, true, false, ◌&&◌, List, [], ◌∷◌, ◌++◌, refl, sym, ◌∙◌, subst}
use Rattle.std.specs.Prelude.{nat_eq, not}
use Rattle.std.proofs.lemmas.Bool.{and_parts}
use Rattle.std.specs.List.{list_all}
use Rattle.op_print.proofs.Words.{true_false}
use Rattle.op_print.specs.Page.{directive_of, sign_of}
use Rattle.op_scan.proofs.Lists.{head_eq}
use Rattle.op_scan.specs.Byte.{is_blank, is_name_byte}
use Rattle.op_scan.specs.Comment.{opening, IsPlainHere, IsPlain, ends, passes}
use Rattle.op_scan.specs.Directive.{argument_of, effect_of_comment, effect_of_directive, effect_of_letter, effect_of_named, is_conditional, switched, with_switch}
use Rattle.op_scan.specs.Item.{Stands, a_comment, comment, effect_of}
use Rattle.op_scan.specs.declared.comment.Marks.{Marks}
use Rattle.op_scan.specs.declared.comment.Marks.TheVariants.{Braces, Stars}
use Rattle.op_scan.specs.declared.effect.Effect.TheVariants.{Passes}
use Rattle.op_scan.specs.declared.token.Switches.{Switches}

-- what stands within the braces
abbrev pub inside_of : Switches → List ℕ
inside_of s = 36 ∷ 72 ∷ sign_of s.h ∷ 44 ∷ 81 ∷ sign_of s.q ∷ 44 ∷ 82 ∷ sign_of s.r ∷ []

-- no comment begins or ends with the byte
abbrev quiet : ℕ → Bool
quiet byte = not (nat_eq byte 125) && (not (nat_eq byte 123) && not (nat_eq byte 40))

inside_quiet : (s : Switches) → list_all quiet (inside_of s) ≡ true
inside_quiet s = at s.h s.q s.r
  where
    at : (h q r : Bool) → list_all quiet (inside_of (record { h = h; q = q; r = r })) ≡ true
    at true true true = refl
    at true true false = refl
    at true false true = refl
    at true false false = refl
    at false true true = refl
    at false true false = refl
    at false false true = refl
    at false false false = refl

quiet_within : (front : List ℕ) (byte : ℕ) (back : List ℕ) → list_all quiet (front ++ byte ∷ back) ≡ true → quiet byte ≡ true
quiet_within [] byte back h = (and_parts (quiet byte) (list_all quiet back) h).0
quiet_within (x ∷ front) byte back h = quiet_within front byte back (and_parts (quiet x) (list_all quiet (front ++ byte ∷ back)) h).1

loud : {A : Type 0} (byte other : ℕ) → quiet byte ≡ true → byte ≡ other → quiet other ≡ false → A
loud byte other h e l = true_false (sym (subst (λ b. quiet b ≡ true) e h) ∙ l)

plain_here : (byte : ℕ) (more : List ℕ) → quiet byte ≡ true → IsPlainHere Braces (byte ∷ more)
plain_here byte more h = record { no_end = λ rest e. loud byte 125 h (head_eq e) refl; no_comment = begins_none }
  where
    begins_none : (inner : Marks) (rest : List ℕ) → byte ∷ more ≢ opening inner ++ rest
    begins_none Braces rest e = loud byte 123 h (head_eq e) refl
    begins_none Stars rest e = loud byte 40 h (head_eq e) refl

inside_plain : (s : Switches) (after : List ℕ) → IsPlain Braces (inside_of s) after
inside_plain s after front byte back e = plain_here byte (back ++ after) (quiet_within front byte back (subst (λ xs. list_all quiet xs ≡ true) e (inside_quiet s)))

pub directive_stands : (s : Switches) (rest : List ℕ) → Stands (directive_of s) rest (a_comment (inside_of s))
directive_stands s rest = comment Braces (passes (inside_of s) (125 ∷ rest) refl (inside_plain s (125 ∷ rest)) (ends refl))

pub directive_effect : (s t : Switches) → effect_of s (a_comment (inside_of t)) ≡ Passes t
unfolding effect_of_comment effect_of_directive effect_of_named effect_of_letter is_conditional switched with_switch argument_of is_blank is_name_byte
directive_effect s t = at t.h t.q t.r
  where
    at : (h q r : Bool) → effect_of s (a_comment (inside_of (record { h = h; q = q; r = r }))) ≡ Passes (record { h = h; q = q; r = r })
    at true true true = refl
    at true true false = refl
    at true false true = refl
    at true false false = refl
    at false true true = refl
    at false true false = refl
    at false false true = refl
    at false false false = refl
