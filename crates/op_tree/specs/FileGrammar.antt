-- The grammar of whole files. The number is the depth that is left.
use Rattle.std.specs.Prelude.{◌≡◌, ℕ, List, [], ◌∷◌, Option, Some, None}
use Rattle.op_scan.specs.declared.token.TokenKind.TheVariants as kind
use Rattle.op_tree.specs.Declaration.{Declarations}
use Rattle.op_tree.specs.DeclarationGrammar.{AreDeclarations, AreInterfaceDeclarations}
use Rattle.op_tree.specs.File.{File, program, unit, Tail}
use Rattle.op_tree.specs.NameGrammar.{IsName, AreNames, AreBracketedNames}
use Rattle.op_tree.specs.Statement.{Statements}
use Rattle.op_tree.specs.StatementGrammar.{IsBlock, AreStatements}
use Rattle.op_tree.specs.Terminal.{Terminal, ◌at◌}
use Rattle.op_tree.specs.declared.file.ProgramHeading.{ProgramHeading}
use Rattle.op_tree.specs.declared.position.Name.{Name}
use Rattle.op_tree.specs.declared.position.Position.{Position}

-- ["program" id ["(" ids ")"] ";"]
pub data IsProgramHeading : ℕ → Option ProgramHeading → List Terminal → List Terminal → Type 0 where
  has_no_heading : {d : ℕ} {ks : List Terminal} → IsProgramHeading d None ks ks
  has_name : {d : ℕ} {n : Name} {p q : Position} {ks r : List Terminal} → IsName n ks (kind.Semicolon at q ∷ r) → IsProgramHeading d (Some (record { name = n; parameters = [] })) (kind.Program at p ∷ ks) r
  has_name_and_list : {d : ℕ} {n : Name} {ns : List Name} {p q : Position} {ks m r : List Terminal} → IsName n ks m → AreBracketedNames d ns m (kind.Semicolon at q ∷ r) → IsProgramHeading d (Some (record { name = n; parameters = ns })) (kind.Program at p ∷ ks) r

-- [uses], uses = "uses" ids ";"
pub data IsUses : List Name → List Terminal → List Terminal → Type 0 where
  has_no_uses : {ks : List Terminal} → IsUses [] ks ks
  has_uses : {ns : List Name} {p q : Position} {ks r : List Terminal} → AreNames ns ks (kind.Semicolon at q ∷ r) → IsUses ns (kind.Uses at p ∷ ks) r

-- tail = "end" | block | "finalization" stmts "end" | "initialization" stmts ["finalization" stmts] "end"
pub data IsTail : ℕ → Tail → List Terminal → List Terminal → Type 0 where
  has_end_alone : {d : ℕ} {p : Position} {r : List Terminal} → IsTail d (record { initialization = None; finalization = None }) (kind.End at p ∷ r) r
  has_block : {d : ℕ} {ss : Statements} {ks r : List Terminal} → IsBlock d ss ks r → IsTail d (record { initialization = Some ss; finalization = None }) ks r
  has_finalization : {d : ℕ} {ss : Statements} {p q : Position} {ks r : List Terminal} → AreStatements d ss ks (kind.End at q ∷ r) → IsTail d (record { initialization = None; finalization = Some ss }) (kind.Finalization at p ∷ ks) r
  has_initialization : {d : ℕ} {ss : Statements} {p q : Position} {ks r : List Terminal} → AreStatements d ss ks (kind.End at q ∷ r) → IsTail d (record { initialization = Some ss; finalization = None }) (kind.Initialization at p ∷ ks) r
  has_both : {d : ℕ} {ss ts : Statements} {p q u : Position} {ks m r : List Terminal} → AreStatements d ss ks (kind.Finalization at q ∷ m) → AreStatements d ts m (kind.End at u ∷ r) → IsTail d (record { initialization = Some ss; finalization = Some ts }) (kind.Initialization at p ∷ ks) r

-- the first of the tokens stands there
abbrev pub BeginAt : Position → List Terminal → Type 0
BeginAt p [] = ⊥
BeginAt p (t ∷ ts) = t.position ≡ p

-- file = ["program" id ["(" ids ")"] ";"] [uses] {decl} block "."
--      | "unit" id ";" "interface" [uses] {idecl} "implementation" [uses] {decl} tail "."
pub data IsFile : ℕ → File → List Terminal → List Terminal → Type 0 where
  is_program : {d : ℕ} {h : Option ProgramHeading} {ns : List Name} {ds : Declarations} {ss : Statements} {p q : Position} {ks m m1 m2 r : List Terminal} → BeginAt p ks → IsProgramHeading d h ks m → IsUses ns m m1 → AreDeclarations d ds m1 m2 → IsBlock d ss m2 (kind.Dot at q ∷ r) → IsFile d (program (record { position = p; heading = h; uses = ns; declarations = ds; statements = ss })) ks r
  is_unit : {d : ℕ} {n : Name} {ns ls : List Name} {es ds : Declarations} {t : Tail} {p q u v w : Position} {ks m m1 m2 m3 m4 r : List Terminal} → IsName n ks (kind.Semicolon at q ∷ kind.Interface at u ∷ m) → IsUses ns m m1 → AreInterfaceDeclarations d es m1 (kind.Implementation at v ∷ m2) → IsUses ls m2 m3 → AreDeclarations d ds m3 m4 → IsTail d t m4 (kind.Dot at w ∷ r) → IsFile d (unit (record { position = p; name = n; interface = record { uses = ns; declarations = es }; implementation = record { uses = ls; declarations = ds }; tail = t })) (kind.Unit at p ∷ ks) r

-- The file's tree spells all of its tokens. No token stands in more than 200 counted parts.
abbrev pub Spells : File → List Terminal → Type 0
Spells file ks = IsFile 200 file ks []
