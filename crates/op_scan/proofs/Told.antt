-- What the scanner refuses breaks a rule that has a text.
use Rattle.std.proofs.Common.{ℕ, Bool, true, false, not, ◌&&◌, ◌||◌, List, [], ◌∷◌, Option, Some, None, codes, drop, length, map, nat_eq, nat_lt, take_while, unwrap_or, if◌then◌else◌, refl, sym, subst}
use Rattle.std.specs.Char.{to_ascii_lowercase}
use Rattle.std.specs.List.{prefix_len}
use Rattle.op_base.specs.Rule.{text_of_feature, text_of_rule}
use Rattle.op_base.specs.declared.rule.Rule.{Rule}
use Rattle.op_scan.specs.Byte.{begins_with, is_blank, is_name_byte}
use Rattle.op_scan.specs.Directive.{argument_of, effect_of_comment, effect_of_directive, effect_of_interfaces, effect_of_letter, effect_of_mode, effect_of_name, effect_of_named, effect_of_state, effect_of_switches, is_conditional, is_word, rule, switched, with_switch}
use Rattle.op_scan.specs.Item.{Item, a_blank, a_comment, a_name, a_number, a_string, a_symbol, effect_of, rule_without}
use Rattle.op_scan.specs.Keyword.{keyword_of}
use Rattle.op_scan.specs.Scan.{Outcome, whole, refused, preceded, Scans, ends, passes, gives, breaks, nothing}
use Rattle.op_base.specs.Rule.{HasText}
use Rattle.op_scan.specs.declared.effect.Effect.{Effect}
use Rattle.op_scan.specs.declared.effect.Effect.TheVariants.{Passes, Gives, Breaks}
use Rattle.op_scan.specs.declared.token.Switches.{Switches}
use Rattle.op_scan.specs.declared.token.Token.{Token}
use Rattle.op_scan.specs.declared.token.TokenKind.{TokenKind}
use Rattle.op_scan.specs.declared.token.TokenKind.TheVariants.{CharacterString, Identifier, Number}

-- ---- an item

-- the effect breaks no rule, or one that has a text
data EffectHasText : Effect → Type 0 where
  passing : (s : Switches) → EffectHasText (Passes s)
  giving : (kind : TokenKind) → EffectHasText (Gives kind)
  breaking : (broken : Rule) → HasText broken → EffectHasText (Breaks broken)

text_of_breaking : {broken : Rule} → EffectHasText (Breaks broken) → HasText broken
text_of_breaking (breaking broken h) = h

either : (test : Bool) {x y : Effect} → EffectHasText x → EffectHasText y → EffectHasText (if test then x else y)
either true h k = h
either false h k = k

told_switches : (o : Option Switches) → EffectHasText (effect_of_switches o)
unfolding text_of_rule
told_switches None = breaking (rule 6) refl
told_switches (Some s) = passing s

told_mode : (s : Switches) (mode : List ℕ) → EffectHasText (effect_of_mode s mode)
unfolding effect_of_mode text_of_rule
told_mode s mode =
    either (is_word mode (codes "objfpc")) (passing s)
    (either (nat_eq (length mode) 0) (breaking (rule 6) refl) (breaking (rule 7) refl))

told_interfaces : (s : Switches) (kind : List ℕ) → EffectHasText (effect_of_interfaces s kind)
unfolding effect_of_interfaces text_of_feature text_of_rule
told_interfaces s kind =
    either (is_word kind (codes "com")) (passing s)
    (either (is_word kind (codes "corba")) (breaking (record { number = 13; feature = 23 }) refl) (breaking (rule 6) refl))

told_state : (s : Switches) (letter : ℕ) (state : List ℕ) → EffectHasText (effect_of_state s letter state)
unfolding effect_of_state text_of_rule
told_state s letter state =
    either (is_word state (codes "on")) (passing (with_switch s letter true))
    (either (is_word state (codes "off")) (passing (with_switch s letter false)) (breaking (rule 6) refl))

told_name : (s : Switches) (name argument : List ℕ) → EffectHasText (effect_of_name s name argument)
unfolding effect_of_name
told_name s name argument =
    either (is_word name (codes "mode")) (told_mode s argument)
    (either (is_word name (codes "interfaces")) (told_interfaces s argument)
    (either (is_word name (codes "longstrings")) (told_state s 104 argument)
    (either (is_word name (codes "overflowchecks")) (told_state s 113 argument)
    (either (is_word name (codes "rangechecks")) (told_state s 114 argument) (passing s)))))

told_letter : (s : Switches) (name rest text : List ℕ) → EffectHasText (effect_of_letter s name rest text)
unfolding effect_of_letter text_of_rule
told_letter s name rest text =
    either (begins_with rest 43 || begins_with rest 45) (told_switches (switched s (take_while (λ byte. not (is_blank byte)) text)))
    (either (is_word name (codes "i")) (breaking (rule 8) refl)
    (either (is_word name (codes "h") || is_word name (codes "q") || is_word name (codes "r") && nat_eq (length (argument_of rest)) 0) (breaking (rule 6) refl) (passing s)))

told_named : (s : Switches) (name rest text : List ℕ) → EffectHasText (effect_of_named s name rest text)
unfolding effect_of_named text_of_rule
told_named s name rest text =
    either (is_conditional name) (breaking (rule 8) refl)
    (either (nat_eq (length name) 1) (told_letter s name rest text) (told_name s name (argument_of rest)))

told_directive : (s : Switches) (text : List ℕ) → EffectHasText (effect_of_directive s text)
unfolding effect_of_directive
told_directive s text = told_named s (take_while is_name_byte text) (drop (prefix_len is_name_byte text) text) text

told_comment : (s : Switches) (inside : List ℕ) → EffectHasText (effect_of_comment s inside)
unfolding effect_of_comment
told_comment s [] = passing s
told_comment s (byte ∷ text) = either (nat_eq byte 36) (told_directive s text) (passing s)

-- a word that is too long breaks a rule
told_word : (too_long : Bool) (broken : Rule) (kind : TokenKind) → HasText broken → EffectHasText (if too_long then Breaks broken else Gives kind)
told_word too_long broken kind h = either too_long (breaking broken h) (giving kind)

told_item : (s : Switches) (item : Item) → EffectHasText (effect_of s item)
unfolding text_of_rule
told_item s a_blank = passing s
told_item s (a_comment inside) = told_comment s inside
told_item s (a_name word) = told_word (nat_lt 127 (length word)) (rule 65) (unwrap_or (keyword_of (map to_ascii_lowercase word)) (Identifier word)) refl
told_item s (a_number value) = told_word (nat_lt 2147483648 value) (rule 4) (Number value) refl
told_item s (a_string text) = told_word (nat_lt 65535 (length text)) (rule 66) (CharacterString text) refl
told_item s (a_symbol kind) = giving kind

-- ---- no item

-- whichever byte stands there
told_by : (a b c d e f g : Bool) → HasText (if a then rule 2 else (if b then rule 3 else (if c then rule 3 else (if d then rule 4 else (if e then rule 4 else (if f then rule 4 else (if g then rule 5 else rule 1)))))))
unfolding text_of_rule
told_by true b c d e f g = refl
told_by false true c d e f g = refl
told_by false false true d e f g = refl
told_by false false false true e f g = refl
told_by false false false false true f g = refl
told_by false false false false false true g = refl
told_by false false false false false false true = refl
told_by false false false false false false false = refl

told_without : (bytes : List ℕ) → HasText (rule_without bytes)
unfolding rule_without text_of_rule
told_without [] = refl
told_without (byte ∷ after) = told_by (nat_eq byte 39) (nat_eq byte 123) (nat_eq byte 40) (nat_eq byte 36) (nat_eq byte 38) (nat_eq byte 37) (nat_eq byte 35)

-- ---- a text

-- what is refused breaks a rule that has a text
abbrev pub OutcomeHasText : Outcome → Type 0
OutcomeHasText (whole tokens end) = Unit {0}
OutcomeHasText (refused refusal) = HasText refusal.rule

told_preceded : (token : Token) (others : Outcome) → OutcomeHasText others → OutcomeHasText (preceded token others)
told_preceded token (whole tokens end) h = tt
told_preceded token (refused refusal) h = h

pub told_scans : {file mark : ℕ} {before bytes : List ℕ} {s : Switches} {outcome : Outcome} → Scans file mark before s bytes outcome → OutcomeHasText outcome
told_scans ends = tt
told_scans (passes piece rest item e h f others) = told_scans others
told_scans (gives kind o piece rest item e h f others is) = subst OutcomeHasText (sym is) (told_preceded _ o (told_scans others))
told_scans (breaks {s = s} broken piece rest item e h f is) = subst OutcomeHasText (sym is) (text_of_breaking (subst EffectHasText f (told_item s item)))
told_scans (nothing {bytes = bytes} some none is) = subst OutcomeHasText (sym is) (told_without bytes)
