-- What comments and directives do (Free Pascal Programmer's Guide, "Compiler directives").
use Rattle.std.specs.Prelude.{ℕ, Bool, true, false, List, [], ◌∷◌, Option, Some, None, codes, length, map, drop, nat_eq, ◌||◌, ◌&&◌, not, if◌then◌else◌}
use Rattle.std.specs.List.{take_while, prefix_len, list_any}
use Rattle.std.specs.Str.{bytes_eq}
use Rattle.std.specs.Char.{to_ascii_lowercase, is_ascii_alphabetic}
use Rattle.op_base.specs.declared.rule.Rule.{Rule}
use Rattle.op_scan.specs.Byte.{is_blank, is_name_byte, begins_with}
use Rattle.op_scan.specs.declared.token.Switches.{Switches}
use Rattle.op_scan.specs.declared.effect.Effect.{Effect}
use Rattle.op_scan.specs.declared.effect.Effect.TheVariants.{Passes, Breaks}

-- rule V of this number, that has no features
abbrev pub rule : ℕ → Rule
rule number = record { number = number; feature = 0 }

-- the words are the same in lower case
abbrev pub is_word : List ℕ → List ℕ → Bool
is_word word lower = bytes_eq (map to_ascii_lowercase word) lower

-- the words that leave out or take in parts of a text
abbrev conditional_words : List (List ℕ)
conditional_words =
    codes "if" ∷ codes "ifdef" ∷ codes "ifndef" ∷ codes "ifopt" ∷ codes "else" ∷ codes "elseif" ∷ codes "endif" ∷
    codes "define" ∷ codes "undef" ∷ codes "include" ∷ []

unfoldable pub is_conditional : List ℕ → Bool
is_conditional name = list_any (is_word name) conditional_words

-- the first word behind the blanks
unfoldable pub argument_of : List ℕ → List ℕ
argument_of bytes = take_while (λ byte. not (is_blank byte)) (drop (prefix_len is_blank bytes) bytes)

-- the switches after a letter is switched on or off
unfoldable pub with_switch : Switches → ℕ → Bool → Switches
with_switch s letter on =
    if nat_eq letter 104 || nat_eq letter 72 then record s { h = on } else
    (if nat_eq letter 113 || nat_eq letter 81 then record s { q = on } else
    (if nat_eq letter 114 || nat_eq letter 82 then record s { r = on } else s))

-- a letter with `+` or `-`
abbrev pub is_switch : ℕ → ℕ → Bool
is_switch letter sign = is_ascii_alphabetic letter && (nat_eq sign 43 || nat_eq sign 45)

-- the switches after a list such as `H+,Q-`, if it is one
unfoldable pub switched : Switches → List ℕ → Option Switches
switched s [] = None
switched s (letter ∷ []) = None
switched s (letter ∷ sign ∷ []) = if is_switch letter sign then Some (with_switch s letter (nat_eq sign 43)) else None
switched s (letter ∷ sign ∷ comma ∷ more) =
    if is_switch letter sign && nat_eq comma 44 then switched (with_switch s letter (nat_eq sign 43)) more else None

abbrev pub effect_of_switches : Option Switches → Effect
effect_of_switches None = Breaks (rule 6)
effect_of_switches (Some s) = Passes s

-- `mode`, whose argument is objfpc
unfoldable pub effect_of_mode : Switches → List ℕ → Effect
effect_of_mode s mode =
    if is_word mode (codes "objfpc") then Passes s else
    (if nat_eq (length mode) 0 then Breaks (rule 6) else Breaks (rule 7))

-- `interfaces`, whose argument is com
unfoldable pub effect_of_interfaces : Switches → List ℕ → Effect
effect_of_interfaces s kind =
    if is_word kind (codes "com") then Passes s else
    (if is_word kind (codes "corba") then Breaks (record { number = 13; feature = 23 }) else Breaks (rule 6))

-- the long name of a switch, whose argument is on or off
unfoldable pub effect_of_state : Switches → ℕ → List ℕ → Effect
effect_of_state s letter state =
    if is_word state (codes "on") then Passes (with_switch s letter true) else
    (if is_word state (codes "off") then Passes (with_switch s letter false) else Breaks (rule 6))

unfoldable pub effect_of_name : Switches → List ℕ → List ℕ → Effect
effect_of_name s name argument =
    if is_word name (codes "mode") then effect_of_mode s argument else
    (if is_word name (codes "interfaces") then effect_of_interfaces s argument else
    (if is_word name (codes "longstrings") then effect_of_state s 104 argument else
    (if is_word name (codes "overflowchecks") then effect_of_state s 113 argument else
    (if is_word name (codes "rangechecks") then effect_of_state s 114 argument else Passes s))))

-- One letter: a list of switches, to the first blank; or I, which takes in a file; or R with a file of resources, which is
-- passed over; H and Q want a sign.
unfoldable pub effect_of_letter : Switches → List ℕ → List ℕ → List ℕ → Effect
effect_of_letter s name rest text =
    if begins_with rest 43 || begins_with rest 45 then effect_of_switches (switched s (take_while (λ byte. not (is_blank byte)) text)) else
    (if is_word name (codes "i") then Breaks (rule 8) else
    (if is_word name (codes "h") || is_word name (codes "q") || is_word name (codes "r") && nat_eq (length (argument_of rest)) 0 then Breaks (rule 6) else
    Passes s))

-- the directive with this text behind the `$`, and with this name
unfoldable pub effect_of_named : Switches → List ℕ → List ℕ → List ℕ → Effect
effect_of_named s name rest text =
    if is_conditional name then Breaks (rule 8) else
    (if nat_eq (length name) 1 then effect_of_letter s name rest text else effect_of_name s name (argument_of rest))

unfoldable pub effect_of_directive : Switches → List ℕ → Effect
effect_of_directive s text =
    effect_of_named s (take_while is_name_byte text) (drop (prefix_len is_name_byte text) text) text

-- a comment with this inside, which is a directive where it begins with `$`
unfoldable pub effect_of_comment : Switches → List ℕ → Effect
effect_of_comment s [] = Passes s
effect_of_comment s (byte ∷ text) = if nat_eq byte 36 then effect_of_directive s text else Passes s
