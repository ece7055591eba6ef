-- The grammar of headings, classes and interfaces. The number is the depth that is left.
use Rattle.std.specs.Prelude.{◌≡◌, ℕ, suc, Bool, true, false, List, [], ◌∷◌, codes, Option, Some, None, map, if◌then◌else◌}
use Rattle.std.specs.Char.{to_ascii_lowercase}
use Rattle.std.specs.Str.{bytes_eq}
use Rattle.op_scan.specs.declared.token.TokenKind.{TokenKind}
use Rattle.op_scan.specs.declared.token.TokenKind.TheVariants as kind
use Rattle.op_tree.specs.Declaration.{Heading, Method, Property, Member, fields, method, property, Section, Class, Interface}
use Rattle.op_tree.specs.Denoter.{Denoter}
use Rattle.op_tree.specs.DenoterGrammar.{IsDenoter}
use Rattle.op_tree.specs.NameGrammar.{IsName, AreNames, IsQualified, AreBracketedNames}
use Rattle.op_tree.specs.Terminal.{Terminal, ◌at◌, IsWord}
use Rattle.op_tree.specs.declared.class.Visibility.{Visibility}
use Rattle.op_tree.specs.declared.class.Visibility.TheVariants as visibility
use Rattle.op_tree.specs.declared.heading.Directive.{Directive}
use Rattle.op_tree.specs.declared.heading.Directive.TheVariants as directive
use Rattle.op_tree.specs.declared.heading.Parameter.{Parameter}
use Rattle.op_tree.specs.declared.heading.ParameterMode.{ParameterMode}
use Rattle.op_tree.specs.declared.heading.ParameterMode.TheVariants as mode
use Rattle.op_tree.specs.declared.heading.ParameterType.{ParameterType}
use Rattle.op_tree.specs.declared.heading.ParameterType.TheVariants as parameter_type
use Rattle.op_tree.specs.declared.heading.RoutineKind.{RoutineKind}
use Rattle.op_tree.specs.declared.heading.RoutineKind.TheVariants as routine
use Rattle.op_tree.specs.declared.position.Name.{Name}
use Rattle.op_tree.specs.declared.position.Position.{Position}
use Rattle.op_tree.specs.declared.position.QualifiedName.{QualifiedName}

-- ---- words that are no reserved words

-- what stands beside a word in a table
abbrev pub beside : {A : Type 0} → List ℕ → List (List ℕ × A) → Option A
beside word [] = None
beside word (row ∷ rows) = if bytes_eq word row.0 then Some row.1 else beside word rows

abbrev pub directives : List (List ℕ × Directive)
directives =
    (codes "virtual", directive.Virtual_) ∷
    (codes "override", directive.Override_) ∷
    (codes "abstract", directive.Abstract_) ∷
    (codes "reintroduce", directive.Reintroduce) ∷
    (codes "overload", directive.Overload) ∷
    (codes "cdecl", directive.Cdecl) ∷
    (codes "stdcall", directive.Stdcall) ∷
    (codes "register", directive.Register) ∷
    []

abbrev pub visibilities : List (List ℕ × Visibility)
visibilities =
    (codes "private", visibility.Private) ∷
    (codes "protected", visibility.Protected) ∷
    (codes "public", visibility.Public) ∷
    (codes "published", visibility.Published) ∷
    []

-- what a word is, in any case of letters
unfoldable pub directive_of : List ℕ → Option Directive
directive_of text = beside (map to_ascii_lowercase text) directives

unfoldable pub visibility_of : List ℕ → Option Visibility
visibility_of text = beside (map to_ascii_lowercase text) visibilities

-- ---- headings

-- "procedure" | "function" | "constructor" | "destructor"
abbrev pub routine_kind_of : TokenKind → Option RoutineKind
routine_kind_of kind.Procedure = Some routine.Procedure
routine_kind_of kind.Function = Some routine.Function
routine_kind_of kind.Constructor = Some routine.Constructor
routine_kind_of kind.Destructor = Some routine.Destructor
routine_kind_of other = None

-- ["var" | "const" | "out"]
pub data IsMode : ParameterMode → List Terminal → List Terminal → Type 0 where
  by_value : {ks : List Terminal} → IsMode mode.Value ks ks
  by_var : {p : Position} {r : List Terminal} → IsMode mode.Var (kind.Var at p ∷ r) r
  by_const : {p : Position} {r : List Terminal} → IsMode mode.Const_ (kind.Const_ at p ∷ r) r
  by_out : {out : List ℕ} {p : Position} {r : List Terminal} → IsWord (codes "out") out → IsMode mode.Out (kind.Identifier out at p ∷ r) r

-- ["array" "of"]
pub data IsOpenArray : Bool → List Terminal → List Terminal → Type 0 where
  is_no_array : {ks : List Terminal} → IsOpenArray false ks ks
  is_open_array : {p q : Position} {r : List Terminal} → IsOpenArray true (kind.Array at p ∷ kind.Of at q ∷ r) r

-- qid | "string"
pub data IsParameterType : ParameterType → List Terminal → List Terminal → Type 0 where
  is_named : {q : QualifiedName} {ks r : List Terminal} → IsQualified q ks r → IsParameterType (parameter_type.Named q) ks r
  is_string : {p : Position} {r : List Terminal} → IsParameterType (parameter_type.String p) (kind.String at p ∷ r) r

-- par = ["var" | "const" | "out"] ids ":" ["array" "of"] (qid | "string")
pub data IsParameter : Parameter → List Terminal → List Terminal → Type 0 where
  is_parameter : {mode : ParameterMode} {ns : List Name} {b : Bool} {t : ParameterType} {p : Position} {ks m m1 m2 r : List Terminal} → IsMode mode ks m → AreNames ns m (kind.Colon at p ∷ m1) → IsOpenArray b m1 m2 → IsParameterType t m2 r → IsParameter (record { mode = mode; names = ns; open_array = b; of = t }) ks r

-- par {";" par}
pub data AreParameters : List Parameter → List Terminal → List Terminal → Type 0 where
  is_one_parameter : {a : Parameter} {ks r : List Terminal} → IsParameter a ks r → AreParameters (a ∷ []) ks r
  are_parameters : {a : Parameter} {as_ : List Parameter} {p : Position} {ks m r : List Terminal} → IsParameter a ks (kind.Semicolon at p ∷ m) → AreParameters as_ m r → AreParameters (a ∷ as_) ks r

-- [params], params = "(" [par {";" par}] ")"
pub data IsParameterPart : ℕ → List Parameter → List Terminal → List Terminal → Type 0 where
  has_no_brackets : {d : ℕ} {ks : List Terminal} → IsParameterPart d [] ks ks
  has_empty_brackets : {d : ℕ} {p q : Position} {r : List Terminal} → IsParameterPart (suc d) [] (kind.OpenParenthesis at p ∷ kind.CloseParenthesis at q ∷ r) r
  has_parameters : {d : ℕ} {as_ : List Parameter} {p q : Position} {ks r : List Terminal} → AreParameters as_ ks (kind.CloseParenthesis at q ∷ r) → IsParameterPart (suc d) as_ (kind.OpenParenthesis at p ∷ ks) r

-- [":" type]
pub data IsOptionalType : ℕ → Option Denoter → List Terminal → List Terminal → Type 0 where
  has_no_type : {d : ℕ} {ks : List Terminal} → IsOptionalType d None ks ks
  has_type : {d : ℕ} {t : Denoter} {p : Position} {ks r : List Terminal} → IsDenoter d t ks r → IsOptionalType d (Some t) (kind.Colon at p ∷ ks) r

-- id ["." id]
pub data IsRoutineName : Option Name → Name → List Terminal → List Terminal → Type 0 where
  is_of_no_class : {n : Name} {ks r : List Terminal} → IsName n ks r → IsRoutineName None n ks r
  is_of_class : {c n : Name} {p : Position} {ks m r : List Terminal} → IsName c ks (kind.Dot at p ∷ m) → IsName n m r → IsRoutineName (Some c) n ks r

-- heading = ("procedure" | "function" | "constructor" | "destructor") id ["." id] [params] [":" type]
pub data IsHeading : ℕ → Heading → List Terminal → List Terminal → Type 0 where
  is_heading : {d : ℕ} {k : TokenKind} {sort : RoutineKind} {c : Option Name} {n : Name} {as_ : List Parameter} {t : Option Denoter} {p : Position} {ks m m1 r : List Terminal} → routine_kind_of k ≡ Some sort → IsRoutineName c n ks m → IsParameterPart d as_ m m1 → IsOptionalType d t m1 r → IsHeading d (record { kind = sort; class = c; name = n; parameters = as_; result = t }) (k at p ∷ ks) r

-- {word ";"}
pub data AreDirectives : List Directive → List Terminal → List Terminal → Type 0 where
  are_no_directives : {ks : List Terminal} → AreDirectives [] ks ks
  are_directives : {word : List ℕ} {w : Directive} {ws : List Directive} {p q : Position} {ks r : List Terminal} → directive_of word ≡ Some w → AreDirectives ws ks r → AreDirectives (w ∷ ws) (kind.Identifier word at p ∷ kind.Semicolon at q ∷ ks) r

-- method = heading ";" {word ";"}
pub data IsMethod : ℕ → Method → List Terminal → List Terminal → Type 0 where
  is_method : {d : ℕ} {h : Heading} {ws : List Directive} {p : Position} {ks m r : List Terminal} → IsHeading d h ks (kind.Semicolon at p ∷ m) → AreDirectives ws m r → IsMethod d (record { heading = h; directives = ws }) ks r

-- {method}
pub data AreMethods : ℕ → List Method → List Terminal → List Terminal → Type 0 where
  are_no_methods : {d : ℕ} {ks : List Terminal} → AreMethods d [] ks ks
  are_methods : {d : ℕ} {a : Method} {as_ : List Method} {ks m r : List Terminal} → IsMethod d a ks m → AreMethods d as_ m r → AreMethods d (a ∷ as_) ks r

-- ---- classes

-- [word id], as read and write of a property
pub data IsAccessor : List ℕ → Option Name → List Terminal → List Terminal → Type 0 where
  has_no_accessor : {word : List ℕ} {ks : List Terminal} → IsAccessor word None ks ks
  has_accessor : {word text : List ℕ} {n : Name} {p : Position} {ks r : List Terminal} → IsWord word text → IsName n ks r → IsAccessor word (Some n) (kind.Identifier text at p ∷ ks) r

-- property = "property" id ":" type ["read" id] ["write" id] ";"
pub data IsProperty : ℕ → Property → List Terminal → List Terminal → Type 0 where
  is_property : {d : ℕ} {n : Name} {t : Denoter} {read write : Option Name} {p q u : Position} {ks m m1 m2 r : List Terminal} → IsName n ks (kind.Colon at q ∷ m) → IsDenoter d t m m1 → IsAccessor (codes "read") read m1 m2 → IsAccessor (codes "write") write m2 (kind.Semicolon at u ∷ r) → IsProperty d (record { name = n; denoter = t; read = read; write = write }) (kind.Property at p ∷ ks) r

-- ids ":" type ";" | method | property
pub data IsMember : ℕ → Member → List Terminal → List Terminal → Type 0 where
  are_fields : {d : ℕ} {ns : List Name} {t : Denoter} {p q : Position} {ks m r : List Terminal} → AreNames ns ks (kind.Colon at p ∷ m) → IsDenoter d t m (kind.Semicolon at q ∷ r) → IsMember d (fields (record { names = ns; denoter = t })) ks r
  is_class_method : {d : ℕ} {a : Method} {ks r : List Terminal} → IsMethod d a ks r → IsMember d (method a) ks r
  is_class_property : {d : ℕ} {a : Property} {ks r : List Terminal} → IsProperty d a ks r → IsMember d (property a) ks r

-- {ids ":" type ";" | method | property}
pub data AreMembers : ℕ → List Member → List Terminal → List Terminal → Type 0 where
  are_no_members : {d : ℕ} {ks : List Terminal} → AreMembers d [] ks ks
  are_members : {d : ℕ} {a : Member} {as_ : List Member} {ks m r : List Terminal} → IsMember d a ks m → AreMembers d as_ m r → AreMembers d (a ∷ as_) ks r

-- {section}, section = vis {ids ":" type ";" | method | property}
pub data AreSections : ℕ → List Section → List Terminal → List Terminal → Type 0 where
  are_no_sections : {d : ℕ} {ks : List Terminal} → AreSections d [] ks ks
  are_sections : {d : ℕ} {word : List ℕ} {v : Visibility} {as_ : List Member} {ss : List Section} {p : Position} {ks m r : List Terminal} → visibility_of word ≡ Some v → AreMembers d as_ ks m → AreSections d ss m r → AreSections d (record { visibility = Some v; members = as_ } ∷ ss) (kind.Identifier word at p ∷ ks) r

-- {section} "end". Without vis a section stands only first, and is not empty.
pub data IsClassBody : ℕ → List Section → List Terminal → List Terminal → Type 0 where
  begins_with_visibility : {d : ℕ} {ss : List Section} {p : Position} {ks r : List Terminal} → AreSections d ss ks (kind.End at p ∷ r) → IsClassBody d ss ks r
  begins_with_members : {d : ℕ} {a : Member} {as_ : List Member} {ss : List Section} {p : Position} {ks m r : List Terminal} → AreMembers d (a ∷ as_) ks m → AreSections d ss m (kind.End at p ∷ r) → IsClassBody d (record { visibility = None; members = a ∷ as_ } ∷ ss) ks r

-- class = "class" ["(" ids ")"] [{section} "end"], but for a forward declaration
pub data IsClass : ℕ → Class → List Terminal → List Terminal → Type 0 where
  has_body_alone : {d : ℕ} {ss : List Section} {p : Position} {ks r : List Terminal} → IsClassBody d ss ks r → IsClass d (record { ancestors = []; sections = ss }) (kind.Class at p ∷ ks) r
  has_list_alone : {d : ℕ} {ns : List Name} {p : Position} {ks r : List Terminal} → AreBracketedNames d ns ks r → IsClass d (record { ancestors = ns; sections = [] }) (kind.Class at p ∷ ks) r
  has_list_and_body : {d : ℕ} {ns : List Name} {ss : List Section} {p : Position} {ks m r : List Terminal} → AreBracketedNames d ns ks m → IsClassBody d ss m r → IsClass d (record { ancestors = ns; sections = ss }) (kind.Class at p ∷ ks) r

-- ["[" string "]"]
pub data IsIdentifier : ℕ → Option (List ℕ) → List Terminal → List Terminal → Type 0 where
  has_no_identifier : {d : ℕ} {ks : List Terminal} → IsIdentifier d None ks ks
  has_identifier : {d : ℕ} {text : List ℕ} {p q u : Position} {r : List Terminal} → IsIdentifier (suc d) (Some text) (kind.OpenBracket at p ∷ kind.CharacterString text at q ∷ kind.CloseBracket at u ∷ r) r

-- iface = "interface" ["(" id ")"] ["[" string "]"] [{method} "end"], but for a forward declaration
pub data IsInterface : ℕ → Interface → List Terminal → List Terminal → Type 0 where
  has_methods_alone : {d : ℕ} {text : Option (List ℕ)} {as_ : List Method} {p q : Position} {ks m r : List Terminal} → IsIdentifier d text ks m → AreMethods d as_ m (kind.End at q ∷ r) → IsInterface d (record { ancestor = None; identifier = text; methods = as_ }) (kind.Interface at p ∷ ks) r
  has_ancestor_alone : {d : ℕ} {n : Name} {text : Option (List ℕ)} {p : Position} {ks m r : List Terminal} → AreBracketedNames d (n ∷ []) ks m → IsIdentifier d text m r → IsInterface d (record { ancestor = Some n; identifier = text; methods = [] }) (kind.Interface at p ∷ ks) r
  has_ancestor_and_methods : {d : ℕ} {n : Name} {text : Option (List ℕ)} {as_ : List Method} {p q : Position} {ks m m1 r : List Terminal} → AreBracketedNames d (n ∷ []) ks m → IsIdentifier d text m m1 → AreMethods d as_ m1 (kind.End at q ∷ r) → IsInterface d (record { ancestor = Some n; identifier = text; methods = as_ }) (kind.Interface at p ∷ ks) r
