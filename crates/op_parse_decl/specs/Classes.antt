-- What is left of a class, from the tokens behind a part of it on, up to its `end` and the semicolon behind it.
use Rattle.std.specs.Prelude.{◌≡◌, ℕ, Bool, true, false, List, [], ◌∷◌, ◌++◌, Option, Some, None, codes, map}
use Rattle.op_base.specs.declared.place.Place.{Place}
use Rattle.op_parse_decl.specs.Form.{Form}
use Rattle.op_parse_code.specs.Refusal.{Phrase}
use Rattle.op_parse_decl.specs.Begun.{Anything, Opens}
use Rattle.op_parse_decl.specs.Refusal.{RefusesParts}
use Rattle.op_parse_code.specs.declared.error.ParseError.{ParseError}
use Rattle.op_parse_decl.specs.Headings.{SomeHeading}
use Rattle.op_parse_decl.specs.declared.class.Body.{Body}
use Rattle.op_parse_decl.specs.declared.class.Entry.{Entry as RustEntry}
use Rattle.op_parse_decl.specs.declared.class.Entry.TheVariants as entry
use Rattle.op_scan.specs.declared.token.TokenKind.{TokenKind}
use Rattle.op_scan.specs.declared.token.TokenKind.TheVariants as kind
use Rattle.op_tree.specs.Declaration.{Heading, Member, method, Property, Section, member_of, section_of}
use Rattle.op_tree.specs.Denoter.{Denoter}
use Rattle.op_tree.specs.DenoterGrammar.{IsDenoter}
use Rattle.op_tree.specs.Ends.{IsNot, NoDirective}
use Rattle.op_tree.specs.HeadingGrammar.{IsClassBody, IsMember, IsProperty, directive_of, visibility_of}
use Rattle.op_tree.specs.NameGrammar.{AreNames, IsName}
use Rattle.op_tree.specs.Terminal.{Terminal, ◌at◌, IsWord}
use Rattle.op_tree.specs.declared.class.Visibility.{Visibility}
use Rattle.op_tree.specs.declared.heading.Directive.{Directive}
use Rattle.op_tree.specs.declared.position.Name.{Name}
use Rattle.op_tree.specs.declared.position.Position.{Position}

-- {section} "end" ";"
abbrev pub SectionsBefore : Phrase (List Section)
SectionsBefore d ss ks r = (q : Position) × IsClassBody d ss ks (kind.Semicolon at q ∷ r)

-- ---- what is left

-- The rest of a class, with its `end` and the semicolon. Only behind a heading or a directive may a directive stand.
pub data ClassRest : Bool → ℕ → Unit {0} → List Terminal → List Terminal → Type 0 where
  rest_ends : {b : Bool} {d : ℕ} {p q : Position} {r : List Terminal} → ClassRest b d tt (kind.End at p ∷ kind.Semicolon at q ∷ r) r
  rest_directive : {d : ℕ} {word : List ℕ} {w : Directive} {p q : Position} {ks r : List Terminal} → directive_of word ≡ Some w → ClassRest true d tt ks r → ClassRest true d tt (kind.Identifier word at p ∷ kind.Semicolon at q ∷ ks) r
  rest_method : {b : Bool} {d : ℕ} {h : Heading} {ks m r : List Terminal} → SomeHeading d h ks m → ClassRest true d tt m r → ClassRest b d tt ks r
  rest_fields : {b : Bool} {d : ℕ} {ns : List Name} {t : Denoter} {word : List ℕ} {p q u : Position} {ks m n r : List Terminal} → AreNames ns (kind.Identifier word at p ∷ ks) (kind.Colon at q ∷ m) → IsDenoter d t m (kind.Semicolon at u ∷ n) → ClassRest false d tt n r → ClassRest b d tt (kind.Identifier word at p ∷ ks) r
  rest_property : {b : Bool} {d : ℕ} {a : Property} {p : Position} {ks m r : List Terminal} → IsProperty d a (kind.Property at p ∷ ks) m → ClassRest false d tt m r → ClassRest b d tt (kind.Property at p ∷ ks) r
  rest_visibility : {b : Bool} {d : ℕ} {word : List ℕ} {v : Visibility} {p : Position} {ks r : List Terminal} → visibility_of word ≡ Some v → ClassRest false d tt ks r → ClassRest b d tt (kind.Identifier word at p ∷ ks) r

-- no rest of a class stands there, also not behind a method that has no more directives there
abbrev pub RefusesRest : ℕ → Place → List Terminal → ParseError → Type 0
RefusesRest d end ks e = (b : Bool) → (b ≡ true → NoDirective ks) → RefusesParts (Opens Anything (ClassRest b)) (ClassRest b) d end ks e

-- ---- an entry

abbrev pub goes_on_as_field : TokenKind → Bool
goes_on_as_field kind.Comma = true
goes_on_as_field kind.Colon = true
goes_on_as_field other = false

-- the word of a visibility, where it is no field's name
pub data IsVisibility : Visibility → List Terminal → List Terminal → Type 0 where
  is_visibility : {word : List ℕ} {v : Visibility} {p : Position} {r : List Terminal} → visibility_of word ≡ Some v → IsNot goes_on_as_field r → IsVisibility v (kind.Identifier word at p ∷ r) r

abbrev pub NoVisibility : List Terminal → Type 0
NoVisibility ks = (v : Visibility) (r : List Terminal) → IsVisibility v ks r → ⊥

-- no directive follows that would belong to it
abbrev pub EndsMember : Member → List Terminal → Type 0
EndsMember (method a) r = NoDirective r
EndsMember other r = Unit {0}

abbrev pub SomeMember : Phrase Member
SomeMember d a ks r = IsMember d a ks r × EndsMember a r

pub data Entry : Type 0 where
  declares : (member : Member) → Entry
  opens : (visibility : Visibility) → Entry

abbrev pub entry_of : RustEntry → Entry
entry_of (entry.Member a) = declares (member_of a)
entry_of (entry.Visibility v) = opens v

abbrev pub SomeEntry : Phrase Entry
SomeEntry d (declares a) ks r = SomeMember d a ks r
SomeEntry d (opens v) ks r = IsVisibility v ks r

-- ---- the sections

-- the members of the section under way, from an entry on
abbrev pub members_behind : Entry → List Member → List Member
members_behind (declares a) ms = a ∷ ms
members_behind (opens v) ms = []

-- the other sections, from an entry on
abbrev pub sections_behind : Entry → List Member → List Section → List Section
sections_behind (declares a) ms ss = ss
sections_behind (opens v) ms ss = record { visibility = Some v; members = ms } ∷ ss

-- a section before others: where no visibility is written, only if it has members
abbrev pub sections_before : Option Visibility → List Member → List Section → List Section
sections_before None [] ss = ss
sections_before v ms ss = record { visibility = v; members = ms } ∷ ss

-- what is read, with more members of the last section and other sections behind it
abbrev pub body_with : Body → List Member → List Section → List Section
body_with b ms ss = map section_of b.sections.items ++ sections_before b.visibility (map member_of b.members.items ++ ms) ss

-- the second is the first with this entry behind it
abbrev pub Adds : Entry → Body → Body → Type 0
Adds e body all = (ms : List Member) (ss : List Section) → body_with all ms ss ≡ body_with body (members_behind e ms) (sections_behind e ms ss)

-- ---- forms

-- the word of a routine that an interface's method is resolved by
abbrev pub begins_resolution : TokenKind → Bool
begins_resolution kind.Procedure = true
begins_resolution kind.Function = true
begins_resolution other = false

-- a dot, a name and `=`, and these tokens from `=` on
abbrev pub Resolves : List Terminal → List Terminal → Type 0
Resolves ks form = (n : Name) × (p q : Position) × (ls r : List Terminal) × (ks ≡ kind.Dot at p ∷ ls) × IsName n ls form × (form ≡ kind.Equal at q ∷ r)

-- the word `default` stands at the front, and a semicolon with other tokens behind it
abbrev pub StandsDefault : List Terminal → List Terminal → Type 0
StandsDefault ks m = (word : List ℕ) × (p q : Position) × (r : List Terminal) × IsWord (codes "default") word × (ks ≡ kind.Identifier word at p ∷ m) × (m ≡ kind.Semicolon at q ∷ r)

-- where these tokens stand behind a property, it has this feature
abbrev pub IsFormBehindProperty : ℕ → List Terminal → Type 0
IsFormBehindProperty feature q = (m : List Terminal) × StandsDefault q m × ((d : ℕ) (a : Property) (ks : List Terminal) → IsProperty d a ks q → Form feature ks q m)
