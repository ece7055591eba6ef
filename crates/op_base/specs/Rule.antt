-- The texts of the rules, by V number and feature.
use Rattle.std.specs.Prelude.{ℕ, Option, Some, None, IsSome, List, [], ◌∷◌, codes, nat_eq, if◌then◌else◌}
use Rattle.op_base.specs.declared.rule.Rule.{Rule}

-- the text beside a number in a table
abbrev pub text_beside : ℕ → List (ℕ × List ℕ) → Option (List ℕ)
text_beside number [] = None
text_beside number (row ∷ rows) = if nat_eq number row.0 then Some row.1 else text_beside number rows

-- what the profile leaves out, each under the number of its feature
abbrev feature_texts : List (ℕ × List ℕ)
feature_texts =
    (1, codes "not in this profile: floating point or /") ∷
    (2, codes "not in this profile: other integer type") ∷
    (3, codes "not in this profile: short string") ∷
    (4, codes "not in this profile: other string type") ∷
    (5, codes "not in this profile: pointer") ∷
    (6, codes "not in this profile: procedural type") ∷
    (7, codes "not in this profile: metaclass") ∷
    (8, codes "not in this profile: object type") ∷
    (9, codes "not in this profile: variant record") ∷
    (10, codes "not in this profile: record method") ∷
    (11, codes "not in this profile: file type") ∷
    (12, codes "not in this profile: overload") ∷
    (13, codes "not in this profile: operator") ∷
    (14, codes "not in this profile: default parameter") ∷
    (15, codes "not in this profile: with") ∷
    (16, codes "not in this profile: goto or label") ∷
    (17, codes "not in this profile: asm or inline") ∷
    (18, codes "not in this profile: array of const") ∷
    (19, codes "not in this profile: class member") ∷
    (20, codes "not in this profile: indexed or default property") ∷
    (21, codes "not in this profile: strict visibility") ∷
    (22, codes "not in this profile: method resolution") ∷
    (23, codes "not in this profile: corba interfaces") ∷
    (24, codes "not in this profile: interface to class") ∷
    (25, codes "not in this profile: case on strings") ∷
    (26, codes "not in this profile: resourcestring") ∷
    (27, codes "not in this profile: threadvar") ∷
    (28, codes "not in this profile: nested routine") ∷
    (29, codes "not in this profile: generic") ∷
    (30, codes "not in this profile: library or exports") ∷
    (31, codes "not in this profile: enumeration value given") ∷
    (32, codes "not in this profile: several lengths") ∷
    (33, codes "not in this profile: array constructor") ∷
    (34, codes "not in this profile: raise at") ∷
    (35, codes "not in this profile: fraction width") ∷
    (36, codes "not in this profile: interface property") ∷
    (39, codes "not in this profile: unit or halt") ∷
    (40, codes "not in this profile: string at run time") ∷
    (41, codes "not in this profile: dynamic or open array, for in") ∷
    (42, codes "not in this profile: class") ∷
    (43, codes "not in this profile: interface") ∷
    (44, codes "not in this profile: exception") ∷
    []

-- each rule but the thirteenth, under its V number
abbrev rule_texts : List (ℕ × List ℕ)
rule_texts =
    (1, codes "no token begins here") ∷
    (2, codes "string not closed") ∷
    (3, codes "comment not closed") ∷
    (4, codes "bad number") ∷
    (5, codes "bad character constant") ∷
    (6, codes "bad directive") ∷
    (7, codes "mode is not objfpc") ∷
    (8, codes "conditional or include directive") ∷
    (9, codes "syntax") ∷
    (10, codes "file missing") ∷
    (11, codes "cycle of interface parts") ∷
    (12, codes "unit name differs from its file") ∷
    (14, codes "name declared twice in one scope") ∷
    (15, codes "unknown name") ∷
    (16, codes "name of the wrong kind here") ∷
    (17, codes "unit used twice or by itself") ∷
    (18, codes "routine without body") ∷
    (19, codes "heading differs from its declaration") ∷
    (20, codes "types not assignable") ∷
    (21, codes "operator not defined here") ∷
    (22, codes "condition is not Boolean") ∷
    (23, codes "ordinal type needed") ∷
    (24, codes "cannot be indexed so") ∷
    (25, codes "no such member") ∷
    (26, codes "wrong number of arguments") ∷
    (27, codes "variable needed") ∷
    (28, codes "variable of another type") ∷
    (29, codes "cannot be assigned") ∷
    (30, codes "constant needed") ∷
    (31, codes "empty range") ∷
    (32, codes "case label twice") ∷
    (33, codes "constant out of range") ∷
    (34, codes "set element out of 0 to 31") ∷
    (35, codes "expression is no statement") ∷
    (36, codes "2147483648 without minus") ∷
    (37, codes "character of a string as variable") ∷
    (38, codes "type contains itself") ∷
    (39, codes "cast not allowed") ∷
    (40, codes "ancestor is no complete class") ∷
    (41, codes "interfaces need TInterfacedObject") ∷
    (42, codes "interface method missing") ∷
    (43, codes "reserved method name") ∷
    (44, codes "nothing to override") ∷
    (45, codes "heading differs from the interface") ∷
    (46, codes "bad destructor") ∷
    (47, codes "member not visible") ∷
    (48, codes "bad property accessor") ∷
    (49, codes "property cannot be read") ∷
    (50, codes "bad abstract method") ∷
    (51, codes "nothing inherited here") ∷
    (52, codes "forward declaration never completed") ∷
    (53, codes "bad operands of is or as") ∷
    (54, codes "class used as a value") ∷
    (55, codes "ancestor is no interface") ∷
    (56, codes "class does not descend from Exception") ∷
    (57, codes "raise outside a handler") ∷
    (58, codes "no loop here") ∷
    (59, codes "leaves a finally part") ∷
    (60, codes "cannot be written or read") ∷
    (61, codes "nested deeper than 200") ∷
    (62, codes "file too large") ∷
    (63, codes "more than 1,000 units") ∷
    (64, codes "too many declarations or values") ∷
    (65, codes "identifier too long") ∷
    (66, codes "string literal too long") ∷
    (67, codes "type too large") ∷
    (68, codes "more than 64 parameters") ∷
    (69, codes "locals too large") ∷
    (70, codes "more than 64 ancestors") ∷
    (71, codes "too many classes and interfaces") ∷
    (72, codes "globals too large") ∷
    []

-- the text of rule 13 at a feature
unfoldable pub text_of_feature : ℕ → Option (List ℕ)
text_of_feature feature = text_beside feature feature_texts

-- the text of a rule, if there is such a rule
unfoldable pub text_of_rule : Rule → Option (List ℕ)
text_of_rule rule = if nat_eq rule.number 13 then text_of_feature rule.feature else text_beside rule.number rule_texts

-- there is such a rule
abbrev pub HasText : Rule → Type 0
HasText rule = IsSome (text_of_rule rule)
