-- What files and their parts are made of.
use Rattle.std.proofs.Common.{◌≡◌, ℕ, Bool, true, false, List, [], ◌∷◌, Option, Some, None, map, refl, subst}
use Rattle.op_parse_code.specs.Refusal.{Phrase}
use Rattle.op_parse_code.specs.Whole.{NoMark, SomeName}
use Rattle.op_parse_code.specs.WholeStatement.{SomeStatements}
use Rattle.op_parse_code.specs.declared.mark.Mark.TheVariants as mark
use Rattle.op_parse_code.proofs.Statements.{ends_all}
use Rattle.op_parse_decl.specs.Combined.{Both, both, Stands, stands, Then, then_, Behind, no_mark, behind_mark, Repeats, Or, this, that, Choice, chosen, otherwise, Fork, marked, unmarked, Nothing, nothing}
use Rattle.op_parse_decl.specs.Declarations.{SomeUses, no_uses, some_uses, SomeProgramHeading, no_heading, some_program_heading, begins_declaration, InterfaceDeclaration, BlockDeclaration, listed, AllOf, SomeProgram, SomeUnit, StandsHere, stands_here}
use Rattle.op_parse_decl.specs.Blocks.{neither, begin_none, interface_in, interface_out, block_in, block_out, listed_of}
use Rattle.op_parse_decl.specs.Known.{As, no_mark_by}
use Rattle.op_parse_decl.specs.Opening.{is_open}
use Rattle.op_parse_decl.specs.Types.{SomeNames, SomeBracketedNames}
use Rattle.op_parse_decl.specs.declared.file.Tail.{Tail as RustTail}
use Rattle.op_scan.specs.declared.token.TokenKind.{TokenKind}
use Rattle.op_scan.specs.declared.token.TokenKind.TheVariants as kind
use Rattle.op_tree.proofs.ExpressionUnique.{false_true, is_comma, true_false}
use Rattle.op_tree.proofs.StatementUnique.{is_end}
use Rattle.op_tree.specs.Declaration.{Declaration, Declarations, declaration_of, declarations_of}
use Rattle.op_tree.specs.DeclarationGrammar.{AreDeclarations}
use Rattle.op_tree.specs.declared.declaration.Declaration.{Declaration as RustDeclaration}
use Rattle.op_tree.specs.Ends.{EndsDeclarations, IsNot}
use Rattle.op_tree.specs.File.{Program, program, UnitFile, Tail}
use Rattle.op_tree.specs.FileGrammar.{IsFile, is_program, is_unit, IsUses, has_no_uses, has_uses, IsProgramHeading, has_no_heading, has_name, has_name_and_list, IsTail, has_end_alone, has_block, has_finalization, has_initialization, has_both}
use Rattle.op_tree.specs.NameGrammar.{are_bracketed_names}
use Rattle.op_tree.specs.Statement.{Statements, stmts_of}
use Rattle.op_tree.specs.StatementGrammar.{AreStatements, IsBlock, is_begin_end}
use Rattle.op_tree.specs.Terminal.{Terminal, ◌at◌}
use Rattle.op_tree.specs.declared.file.ProgramHeading.{ProgramHeading}
use Rattle.op_tree.specs.declared.position.Name.{Name}
use Rattle.op_tree.specs.declared.position.Position.{Position}
use Rattle.std.specs.Option.{option_map}

-- ---- the units that are used

abbrev pub UsesParts : Phrase (Option (Both (List Name) (Unit {0})))
UsesParts = Behind mark.Uses (Then SomeNames (Stands mark.Semicolon))

pub uses_of_parts : {d : ℕ} {ns : List Name} {ks r : List Terminal} → UsesParts d (Some (both ns tt)) ks r → SomeUses d ns ks r
uses_of_parts (behind_mark (then_ n stands)) = some_uses n.0

pub no_uses_of_parts : {d : ℕ} {ks r : List Terminal} → UsesParts d None ks r → SomeUses d [] ks r
no_uses_of_parts (no_mark none) = no_uses none

pub made_uses : As UsesParts SomeUses
made_uses d ns ks r (no_uses none) = (None, no_mark none, λ i ls s x. no_uses_of_parts x)
made_uses d ns ks r (some_uses {q = q} n) = (Some (both ns tt), behind_mark (then_ (n, no_mark_by mark.Comma is_comma refl refl) stands), λ i ls s x. uses_of_parts x)

-- ---- the heading of a program

abbrev pub HeadingParts : Phrase (Option (Both Name (Both (Or (List Name) (Unit {0})) (Unit {0}))))
HeadingParts = Behind mark.Program (Then SomeName (Then (Choice is_open SomeBracketedNames Nothing) (Stands mark.Semicolon)))

pub no_heading_of_parts : {d : ℕ} {ks r : List Terminal} → HeadingParts d None ks r → SomeProgramHeading d None ks r
no_heading_of_parts (no_mark none) = no_heading none

pub names_of_parts : {d : ℕ} {n : Name} {ns : List Name} {ks r : List Terminal} → HeadingParts d (Some (both n (both (this ns) tt))) ks r → SomeProgramHeading d (Some (record { name = n; parameters = ns })) ks r
names_of_parts (behind_mark (then_ n (then_ (chosen h ns) stands))) = some_program_heading (has_name_and_list n ns)

pub name_of_parts : {d : ℕ} {n : Name} {ks r : List Terminal} → HeadingParts d (Some (both n (both (that tt) tt))) ks r → SomeProgramHeading d (Some (record { name = n; parameters = [] })) ks r
name_of_parts (behind_mark (then_ n (then_ (otherwise h nothing) stands))) = some_program_heading (has_name n)

pub made_heading : As HeadingParts SomeProgramHeading
made_heading d h ks r (no_heading none) = (None, no_mark none, λ i ls s x. no_heading_of_parts x)
made_heading d h ks r (some_program_heading (has_name {n = n} f)) = (Some (both n (both (that tt) tt)), behind_mark (then_ f (then_ (otherwise refl nothing) stands)), λ i ls s x. name_of_parts x)
made_heading d h ks r (some_program_heading (has_name_and_list {n = n} {ns = ns} f (are_bracketed_names g))) = (Some (both n (both (this ns) tt)), behind_mark (then_ f (then_ (chosen refl (are_bracketed_names g)) stands)), λ i ls s x. names_of_parts x)

-- ---- what a unit does

abbrev pub tail_of : RustTail → Tail
tail_of t = record { initialization = option_map (λ ss. stmts_of ss.items) t.initialization; finalization = option_map (λ ss. stmts_of ss.items) t.finalization }

-- statements up to `end`
abbrev pub Last : Phrase (Both Statements (Unit {0}))
Last = Then SomeStatements (Stands mark.End)

abbrev pub BlockParts : Phrase (Both (Unit {0}) (Both Statements (Unit {0})))
BlockParts = Then (Stands mark.Begin) Last

abbrev pub TailParts : Phrase (Or (Unit {0}) (Or (Both Statements (Unit {0})) (Or (Both Statements (Or (Both Statements (Unit {0})) (Unit {0}))) (Both (Unit {0}) (Both Statements (Unit {0}))))))
TailParts = Fork mark.End Nothing (Fork mark.Finalization Last (Fork mark.Initialization (Then SomeStatements (Fork mark.Finalization Last (Stands mark.End))) BlockParts))

pub end_of_parts : {d : ℕ} {ks r : List Terminal} → TailParts d (this tt) ks r → IsTail d (record { initialization = None; finalization = None }) ks r
end_of_parts (marked nothing) = has_end_alone

pub finalization_of_parts : {d : ℕ} {ss : Statements} {ks r : List Terminal} → TailParts d (that (this (both ss tt))) ks r → IsTail d (record { initialization = None; finalization = Some ss }) ks r
finalization_of_parts (unmarked none (marked (then_ ss stands))) = has_finalization ss.0

pub both_of_parts : {d : ℕ} {ss ts : Statements} {ks r : List Terminal} → TailParts d (that (that (this (both ss (this (both ts tt)))))) ks r → IsTail d (record { initialization = Some ss; finalization = Some ts }) ks r
both_of_parts (unmarked none (unmarked none' (marked (then_ ss (marked (then_ ts stands)))))) = has_both ss.0 ts.0

pub initialization_of_parts : {d : ℕ} {ss : Statements} {ks r : List Terminal} → TailParts d (that (that (this (both ss (that tt))))) ks r → IsTail d (record { initialization = Some ss; finalization = None }) ks r
initialization_of_parts (unmarked none (unmarked none' (marked (then_ ss (unmarked none'' stands))))) = has_initialization ss.0

pub block_of_parts : {d : ℕ} {ss : Statements} {ks r : List Terminal} → TailParts d (that (that (that (both tt (both ss tt))))) ks r → IsTail d (record { initialization = Some ss; finalization = None }) ks r
block_of_parts (unmarked none (unmarked none' (unmarked none'' (then_ stands (then_ ss stands))))) = has_block (is_begin_end ss.0)

abbrev is_finalization : TokenKind → Bool
is_finalization kind.Finalization = true
is_finalization other = false

abbrev is_initialization : TokenKind → Bool
is_initialization kind.Initialization = true
is_initialization other = false

last_in : {d : ℕ} {ss : Statements} {q : Position} {ks r : List Terminal} → AreStatements d ss ks (kind.End at q ∷ r) → Last d (both ss tt) ks r
last_in ss = then_ (ss, ends_all ss refl refl refl) stands

pub block_in_parts : {d : ℕ} {ss : Statements} {ks r : List Terminal} → IsBlock d ss ks r → BlockParts d (both tt (both ss tt)) ks r
block_in_parts (is_begin_end ss) = then_ stands (last_in ss)

pub made_tail : As TailParts IsTail
made_tail d t ks r has_end_alone = (this tt, marked nothing, λ i ls s x. end_of_parts x)
made_tail d t ks r (has_finalization {ss = ss} f) = (that (this (both ss tt)), unmarked (no_mark_by mark.End is_end refl refl) (marked (last_in f)), λ i ls s x. finalization_of_parts x)
made_tail d t ks r (has_both {ss = ss} {ts = ts} f g) = (that (that (this (both ss (this (both ts tt))))), unmarked (no_mark_by mark.End is_end refl refl) (unmarked (no_mark_by mark.Finalization is_finalization refl refl) (marked (then_ (f, ends_all f refl refl refl) (marked (last_in g))))), λ i ls s x. both_of_parts x)
made_tail d t ks r (has_initialization {ss = ss} f) = (that (that (this (both ss (that tt)))), unmarked (no_mark_by mark.End is_end refl refl) (unmarked (no_mark_by mark.Finalization is_finalization refl refl) (marked (then_ (f, ends_all f refl refl refl) (unmarked (no_mark_by mark.Finalization is_finalization refl refl) stands)))), λ i ls s x. initialization_of_parts x)
made_tail d t ks r (has_block {ss = ss} (is_begin_end f)) = (that (that (that (both tt (both ss tt)))), unmarked (no_mark_by mark.End is_end refl refl) (unmarked (no_mark_by mark.Finalization is_finalization refl refl) (unmarked (no_mark_by mark.Initialization is_initialization refl refl) (block_in_parts (is_begin_end f)))), λ i ls s x. block_of_parts x)

-- ---- files

-- the words before which no declaration stands
abbrev opens_file : TokenKind → Bool
opens_file kind.Uses = true
opens_file kind.Program = true
opens_file kind.Unit = true
opens_file other = false

declares_none : (k : TokenKind) → begins_declaration k ≡ true → opens_file k ≡ false
declares_none kind.Uses h = false_true h
declares_none kind.Program h = false_true h
declares_none kind.Unit h = false_true h
declares_none other h = refl

tail_opens_none : {d : ℕ} {t : Tail} {ks r : List Terminal} → IsTail d t ks r → IsNot opens_file ks × EndsDeclarations ks
tail_opens_none has_end_alone = (refl, refl)
tail_opens_none (has_block (is_begin_end ss)) = (refl, refl)
tail_opens_none (has_finalization ss) = (refl, refl)
tail_opens_none (has_initialization ss) = (refl, refl)
tail_opens_none (has_both ss ts) = (refl, refl)

uses_in : {d : ℕ} {ns : List Name} {ks r : List Terminal} → IsUses ns ks r → IsNot opens_file r → SomeUses d ns ks r
uses_in has_no_uses n = no_uses (no_mark_by mark.Uses opens_file refl n)
uses_in (has_uses ns) n = some_uses ns

uses_out : {d : ℕ} {ns : List Name} {ks r : List Terminal} → SomeUses d ns ks r → IsUses ns ks r
uses_out (no_uses none) = has_no_uses
uses_out (some_uses ns) = has_uses ns

abbrev opens_text : TokenKind → Bool
opens_text kind.Program = true
opens_text kind.Unit = true
opens_text other = false

fewer_words : (k : TokenKind) → opens_file k ≡ false → opens_text k ≡ false
fewer_words kind.Program h = true_false h
fewer_words kind.Unit h = true_false h
fewer_words other h = refl

uses_open_none : {ns : List Name} {ks r : List Terminal} → IsUses ns ks r → IsNot opens_file r → IsNot opens_text ks
uses_open_none {r = r} has_no_uses n = neither fewer_words r n
uses_open_none (has_uses ns) n = refl

heading_in : {d : ℕ} {h : Option ProgramHeading} {ks r : List Terminal} → IsProgramHeading d h ks r → IsNot opens_text r → SomeProgramHeading d h ks r
heading_in has_no_heading n = no_heading (no_mark_by mark.Program opens_text refl n)
heading_in (has_name f) n = some_program_heading (has_name f)
heading_in (has_name_and_list f g) n = some_program_heading (has_name_and_list f g)

heading_out : {d : ℕ} {h : Option ProgramHeading} {ks r : List Terminal} → SomeProgramHeading d h ks r → IsProgramHeading d h ks r
heading_out (no_heading none) = has_no_heading
heading_out (some_program_heading h) = h

abbrev is_unit_word : TokenKind → Bool
is_unit_word kind.Unit = true
is_unit_word other = false

heading_no_unit : {d : ℕ} {h : Option ProgramHeading} {ks r : List Terminal} → IsProgramHeading d h ks r → IsNot opens_text r → NoMark mark.Unit ks
heading_no_unit has_no_heading n = no_mark_by mark.Unit opens_text refl n
heading_no_unit (has_name f) n = no_mark_by mark.Unit is_unit_word refl refl
heading_no_unit (has_name_and_list f g) n = no_mark_by mark.Unit is_unit_word refl refl

-- what stands behind the uses of a program opens no file
body_opens_none : {d : ℕ} {ds : Declarations} {ss : Statements} {ks m r : List Terminal} → AreDeclarations d ds ks m → IsBlock d ss m r → IsNot opens_file ks
body_opens_none es (is_begin_end ss) = begin_none declares_none (block_in es refl) refl

-- a program does not begin as a unit
pub program_no_unit : {d : ℕ} {p : Program} {ks r : List Terminal} → IsFile d (program p) ks r → NoMark mark.Unit ks
program_no_unit (is_program b h us es ss) = heading_no_unit h (uses_open_none us (body_opens_none es ss))

-- ---- a program

abbrev pub ProgramParts : Phrase (Both Position (Both (Option ProgramHeading) (Both (List Name) (Both Declarations (Both (Both (Unit {0}) (Both Statements (Unit {0}))) (Unit {0}))))))
ProgramParts = Then StandsHere (Then SomeProgramHeading (Then SomeUses (Then (AllOf BlockDeclaration) (Then BlockParts (Stands mark.Dot)))))

pub program_of_parts : {d : ℕ} {p : Position} {h : Option ProgramHeading} {ns : List Name} {ds : Declarations} {ss : Statements} {ks r : List Terminal} → ProgramParts d (both p (both h (both ns (both ds (both (both tt (both ss tt)) tt))))) ks r → SomeProgram d (record { position = p; heading = h; uses = ns; declarations = ds; statements = ss }) ks r
program_of_parts {ds = ds} (then_ (stands_here b) (then_ h (then_ us (then_ es (then_ (then_ stands (then_ ss stands)) stands))))) = is_program b (heading_out h) (uses_out us) (block_out ds es) (is_begin_end ss.0)

pub made_program : As ProgramParts SomeProgram
made_program d f ks r (is_program {h = h} {ns = ns} {ds = ds} {p = p} b f1 us es (is_begin_end {ss = ss} g)) =
    let n = body_opens_none es (is_begin_end g) in
    (both p (both h (both ns (both ds (both (both tt (both ss tt)) tt)))), then_ (stands_here b) (then_ (heading_in f1 (uses_open_none us n)) (then_ (uses_in us n) (then_ (block_in es refl) (then_ (block_in_parts (is_begin_end g)) stands)))), λ i ls s x. program_of_parts x)

-- ---- a unit

abbrev pub UnitParts : Phrase (Both (Both (Both Position (Unit {0})) (Both Name (Both (Unit {0}) (Unit {0})))) (Both (Both (List Name) (Both (List Declaration) (Unit {0}))) (Both (Both (List Name) Declarations) (Both Tail (Unit {0})))))
UnitParts = Then (Then (Then StandsHere (Stands mark.Unit)) (Then SomeName (Then (Stands mark.Semicolon) (Stands mark.Interface)))) (Then (Then SomeUses (Then (Repeats begins_declaration InterfaceDeclaration) (Stands mark.Implementation))) (Then (Then SomeUses (AllOf BlockDeclaration)) (Then IsTail (Stands mark.Dot))))

abbrev unit_with : Position → Name → List Name → Declarations → List Name → Declarations → Tail → UnitFile
unit_with p n ns es ls ds t = record { position = p; name = n; interface = record { uses = ns; declarations = es }; implementation = record { uses = ls; declarations = ds }; tail = t }

pub unit_of_parts : {d : ℕ} {p : Position} {n : Name} {ns ls : List Name} (es : Declarations) {ds : Declarations} {t : Tail} {ks r : List Terminal} → UnitParts d (both (both (both p tt) (both n (both tt tt))) (both (both ns (both (listed es) tt)) (both (both ls ds) (both t tt)))) ks r → SomeUnit d (record { position = p; name = n; interface = record { uses = ns; declarations = es }; implementation = record { uses = ls; declarations = ds }; tail = t }) ks r
unit_of_parts {d = d} {n = n} {ns = ns} {ls = ls} es {ds = ds} {t = t} {ks = ks} {r = r} (then_ (then_ (then_ (stands_here h) stands) (then_ f (then_ stands stands))) (then_ (then_ us (then_ is stands)) (then_ (then_ vs bs) (then_ e stands)))) = subst (λ p. SomeUnit d (unit_with p n ns es ls ds t) ks r) h (is_unit f (uses_out us) (interface_out es is) (uses_out vs) (block_out ds bs) e)

-- the same, where the declarations of the interface part are those of a list
pub unit_of_list : {d : ℕ} {p : Position} {n : Name} {ns ls : List Name} (xs : List RustDeclaration) {ds : Declarations} {t : Tail} {ks r : List Terminal} → UnitParts d (both (both (both p tt) (both n (both tt tt))) (both (both ns (both (map declaration_of xs) tt)) (both (both ls ds) (both t tt)))) ks r → SomeUnit d (record { position = p; name = n; interface = record { uses = ns; declarations = declarations_of xs }; implementation = record { uses = ls; declarations = ds }; tail = t }) ks r
unit_of_list {d = d} {p = p} {n = n} {ns = ns} {ls = ls} xs {ds = ds} {t = t} {ks = ks} {r = r} x = unit_of_parts (declarations_of xs) (subst (λ z. UnitParts d (both (both (both p tt) (both n (both tt tt))) (both (both ns (both z tt)) (both (both ls ds) (both t tt)))) ks r) (listed_of xs) x)

pub made_unit : As UnitParts SomeUnit
made_unit d f ks r (is_unit {n = n} {ns = ns} {ls = vs} {es = es} {ds = ds} {t = t} {p = p} f1 us is ws bs e) =
    let k = tail_opens_none e in
    let ins = interface_in is refl in
    let blocks = block_in bs k.1 in
    (both (both (both p tt) (both n (both tt tt))) (both (both ns (both (listed es) tt)) (both (both vs ds) (both t tt))), then_ (then_ (then_ (stands_here refl) stands) (then_ f1 (then_ stands stands))) (then_ (then_ (uses_in us (begin_none declares_none ins refl)) (then_ ins stands)) (then_ (then_ (uses_in ws (begin_none declares_none blocks k.0)) blocks) (then_ e stands))), λ i ls s x. unit_of_parts es x)
