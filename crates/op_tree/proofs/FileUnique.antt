-- At most one file spells a list of tokens.
use Rattle.std.proofs.Common.{◌≡◌, ℕ, Bool, true, false, List, [], ◌∷◌, Option, Some, None, refl, sym, ap, ◌∙◌, subst, ap₂}
use Rattle.op_scan.specs.declared.token.TokenKind.{TokenKind}
use Rattle.op_scan.specs.declared.token.TokenKind.TheVariants as kind
use Rattle.op_tree.proofs.DeclarationUnique.{begins_data, block_no_declaration, data_begins, routine_begins, unique_declarations, unique_interface_part}
use Rattle.op_tree.proofs.DenoterUnique.{unique_bracketed_names, unique_names}
use Rattle.op_tree.proofs.ExpressionUnique.{true_false, false_true, Begins, behind}
use Rattle.op_tree.proofs.MethodUnique.{also, apart, begins_heading, method_begins}
use Rattle.op_tree.proofs.StatementUnique.{differ, is_end, same4, same5, unique_block, unique_name, unique_statements}
use Rattle.op_tree.specs.Declaration.{Declarations}
use Rattle.op_tree.specs.DeclarationGrammar.{AreInterfaceDeclarations, are_no_interface_declarations, data_in_interface, heading_in_interface, AreDeclarations, are_no_declarations, data_declared, routine_declared}
use Rattle.op_tree.specs.Ends.{IsNot, EndsDeclarations}
use Rattle.op_tree.specs.File.{File, program, unit, UnitPart, Tail}
use Rattle.op_tree.specs.FileGrammar.{IsProgramHeading, has_no_heading, has_name, has_name_and_list, IsUses, has_no_uses, has_uses, IsTail, has_end_alone, has_block, has_finalization, has_initialization, has_both, BeginAt, IsFile, is_program, is_unit}
use Rattle.op_tree.specs.NameGrammar.{AreBracketedNames, are_bracketed_names}
use Rattle.op_tree.specs.Statement.{Statements}
use Rattle.op_tree.specs.StatementGrammar.{IsBlock, is_begin_end, AreStatements}
use Rattle.op_tree.specs.Terminal.{Terminal, ◌at◌}
use Rattle.op_tree.specs.declared.file.ProgramHeading.{ProgramHeading}
use Rattle.op_tree.specs.declared.position.Name.{Name}
use Rattle.op_tree.specs.declared.position.Position.{Position}

-- ---- program headings

abbrev is_program_word : TokenKind → Bool
is_program_word kind.Program = true
is_program_word other = false

abbrev is_parenthesis : TokenKind → Bool
is_parenthesis kind.OpenParenthesis = true
is_parenthesis other = false

abbrev pub heading_with : Name → List Name → ProgramHeading
heading_with n ns = record { name = n; parameters = ns }

unique_program_heading : {d d' : ℕ} {h h' : Option ProgramHeading} {ks r r' : List Terminal} → IsProgramHeading d h ks r → IsProgramHeading d' h' ks r' → IsNot is_program_word r → IsNot is_program_word r' → (h ≡ h') × (r ≡ r')
unique_program_heading has_no_heading has_no_heading c c' = (refl, refl)
unique_program_heading has_no_heading (has_name n) c c' = true_false c
unique_program_heading has_no_heading (has_name_and_list n ns) c c' = true_false c
unique_program_heading (has_name n) has_no_heading c c' = true_false c'
unique_program_heading (has_name_and_list n ns) has_no_heading c c' = true_false c'
unique_program_heading (has_name n) (has_name n') c c' =
    let u = unique_name n n' in
    (ap (λ x. Some (heading_with x [])) u.0, ap behind u.1)
unique_program_heading (has_name n) (has_name_and_list n' (are_bracketed_names ns')) c c' = differ is_parenthesis (sym (unique_name n n').1) refl refl
unique_program_heading (has_name_and_list n (are_bracketed_names ns)) (has_name n') c c' = differ is_parenthesis (unique_name n n').1 refl refl
unique_program_heading (has_name_and_list n ns) (has_name_and_list {d = y} {ns = n1} {q = q1} {r = z} n' ns') c c' =
    let u = unique_name n n' in
    let v = unique_bracketed_names ns (subst (λ x. AreBracketedNames y n1 x (kind.Semicolon at q1 ∷ z)) (sym u.1) ns') in
    (ap₂ (λ x y. Some (heading_with x y)) u.0 v.0, ap behind v.1)

-- ---- uses

abbrev is_uses : TokenKind → Bool
is_uses kind.Uses = true
is_uses other = false

unique_uses : {ns ns' : List Name} {ks r r' : List Terminal} → IsUses ns ks r → IsUses ns' ks r' → IsNot is_uses r → IsNot is_uses r' → (ns ≡ ns') × (r ≡ r')
unique_uses has_no_uses has_no_uses h h' = (refl, refl)
unique_uses has_no_uses (has_uses ns) h h' = true_false h
unique_uses (has_uses ns) has_no_uses h h' = true_false h'
unique_uses (has_uses ns) (has_uses ns') h h' =
    let u = unique_names ns ns' refl refl in
    (u.0, ap behind u.1)

uses_no_program : {ns : List Name} {ks r : List Terminal} → IsUses ns ks r → IsNot is_program_word r → IsNot is_program_word ks
uses_no_program has_no_uses h = h
uses_no_program (has_uses ns) h = refl

-- ---- what stands behind the uses

-- the kind begins a declaration or what follows a list of declarations
abbrev begins_part : TokenKind → Bool
begins_part kind.Const_ = true
begins_part kind.Type_ = true
begins_part kind.Var = true
begins_part kind.Procedure = true
begins_part kind.Function = true
begins_part kind.Constructor = true
begins_part kind.Destructor = true
begins_part kind.Begin = true
begins_part kind.Implementation = true
begins_part kind.End = true
begins_part kind.Initialization = true
begins_part kind.Finalization = true
begins_part other = false

data_in_part : (k : TokenKind) → begins_data k ≡ true → begins_part k ≡ true
data_in_part kind.Const_ h = refl
data_in_part kind.Type_ h = refl
data_in_part kind.Var h = refl
data_in_part other h = false_true h

heading_in_part : (k : TokenKind) → begins_heading k ≡ true → begins_part k ≡ true
heading_in_part kind.Procedure h = refl
heading_in_part kind.Function h = refl
heading_in_part kind.Constructor h = refl
heading_in_part kind.Destructor h = refl
heading_in_part other h = false_true h

part_no_uses : (k : TokenKind) → begins_part k ≡ true → is_uses k ≡ false
part_no_uses kind.Uses h = false_true h
part_no_uses other h = refl

part_no_program : (k : TokenKind) → begins_part k ≡ true → is_program_word k ≡ false
part_no_program kind.Program h = false_true h
part_no_program other h = refl

abbrev is_unit_word : TokenKind → Bool
is_unit_word kind.Unit = true
is_unit_word other = false

part_no_unit : (k : TokenKind) → begins_part k ≡ true → is_unit_word k ≡ false
part_no_unit kind.Unit h = false_true h
part_no_unit other h = refl

declarations_begin : {d : ℕ} {es : Declarations} {ks r : List Terminal} → AreDeclarations d es ks r → Begins begins_part r → Begins begins_part ks
declarations_begin are_no_declarations h = h
declarations_begin {ks = ks} (data_declared e es) h = also data_in_part ks (data_begins e)
declarations_begin {ks = ks} (routine_declared e es) h = also heading_in_part ks (routine_begins e)

interface_begins : {d : ℕ} {es : Declarations} {ks r : List Terminal} → AreInterfaceDeclarations d es ks r → Begins begins_part r → Begins begins_part ks
interface_begins are_no_interface_declarations h = h
interface_begins {ks = ks} (data_in_interface e es) h = also data_in_part ks (data_begins e)
interface_begins {ks = ks} (heading_in_interface a es) h = also heading_in_part ks (method_begins a)

block_begins : {d : ℕ} {ss : Statements} {ks r : List Terminal} → IsBlock d ss ks r → Begins begins_part ks
block_begins (is_begin_end ss) = refl

-- ---- tails

tail_begins : {d : ℕ} {t : Tail} {ks r : List Terminal} → IsTail d t ks r → Begins begins_part ks
tail_begins has_end_alone = refl
tail_begins (has_block ss) = block_begins ss
tail_begins (has_finalization ss) = refl
tail_begins (has_initialization ss) = refl
tail_begins (has_both ss ts) = refl

tail_no_declaration : {d : ℕ} {t : Tail} {ks r : List Terminal} → IsTail d t ks r → EndsDeclarations ks
tail_no_declaration has_end_alone = refl
tail_no_declaration (has_block ss) = block_no_declaration ss
tail_no_declaration (has_finalization ss) = refl
tail_no_declaration (has_initialization ss) = refl
tail_no_declaration (has_both ss ts) = refl

abbrev pub tail_with : Option Statements → Option Statements → Tail
tail_with i f = record { initialization = i; finalization = f }

unique_tail : {d d' : ℕ} {t t' : Tail} {ks r r' : List Terminal} → IsTail d t ks r → IsTail d' t' ks r' → (t ≡ t') × (r ≡ r')
unique_tail has_end_alone has_end_alone = (refl, refl)
unique_tail has_end_alone (has_block ss) = elim ss [ ]
unique_tail (has_block ss) has_end_alone = elim ss [ ]
unique_tail (has_block ss) (has_block ss') =
    let u = unique_block ss ss' in
    (ap (λ x. tail_with (Some x) None) u.0, u.1)
unique_tail (has_block ss) (has_finalization ts) = elim ss [ ]
unique_tail (has_block ss) (has_initialization ts) = elim ss [ ]
unique_tail (has_block ss) (has_both ts us) = elim ss [ ]
unique_tail (has_finalization ts) (has_block ss) = elim ss [ ]
unique_tail (has_finalization ss) (has_finalization ss') =
    let u = unique_statements ss ss' (refl, refl, refl) (refl, refl, refl) in
    (ap (λ x. tail_with None (Some x)) u.0, ap behind u.1)
unique_tail (has_initialization ts) (has_block ss) = elim ss [ ]
unique_tail (has_initialization ss) (has_initialization ss') =
    let u = unique_statements ss ss' (refl, refl, refl) (refl, refl, refl) in
    (ap (λ x. tail_with (Some x) None) u.0, ap behind u.1)
unique_tail (has_initialization ss) (has_both ss' ts') = differ is_end (unique_statements ss ss' (refl, refl, refl) (refl, refl, refl)).1 refl refl
unique_tail (has_both ts us) (has_block ss) = elim ss [ ]
unique_tail (has_both ss ts) (has_initialization ss') = differ is_end (sym (unique_statements ss ss' (refl, refl, refl) (refl, refl, refl)).1) refl refl
unique_tail (has_both ss ts) (has_both {d = y} {ts = t1} {u = q} {r = z} ss' ts') =
    let u = unique_statements ss ss' (refl, refl, refl) (refl, refl, refl) in
    let v = unique_statements ts (subst (λ x. AreStatements y t1 x (kind.End at q ∷ z)) (sym (ap behind u.1)) ts') (refl, refl, refl) (refl, refl, refl) in
    (ap₂ (λ x y. tail_with (Some x) (Some y)) u.0 v.0, ap behind v.1)

-- ---- files

begin_same : {p p' : Position} (ks : List Terminal) → BeginAt p ks → BeginAt p' ks → p ≡ p'
begin_same [] h h' = absurd h
begin_same (t ∷ ks) h h' = sym h ∙ h'

abbrev pub program_with : Position → Option ProgramHeading → List Name → Declarations → Statements → File
program_with p h ns es ss = program (record { position = p; heading = h; uses = ns; declarations = es; statements = ss })

abbrev pub part_with : List Name → Declarations → UnitPart
part_with ns es = record { uses = ns; declarations = es }

abbrev pub unit_with : Position → Name → UnitPart → UnitPart → Tail → File
unit_with p n i m t = unit (record { position = p; name = n; interface = i; implementation = m; tail = t })

heading_no_unit : {d : ℕ} {h : Option ProgramHeading} {ks r : List Terminal} → IsProgramHeading d h ks r → IsNot is_unit_word r → IsNot is_unit_word ks
heading_no_unit has_no_heading h = h
heading_no_unit (has_name n) h = refl
heading_no_unit (has_name_and_list n ns) h = refl

uses_no_unit : {ns : List Name} {ks r : List Terminal} → IsUses ns ks r → IsNot is_unit_word r → IsNot is_unit_word ks
uses_no_unit has_no_uses h = h
uses_no_unit (has_uses ns) h = refl

-- a program does not begin as a unit does
no_unit : {A : Type 0} {d : ℕ} {h : Option ProgramHeading} {ns : List Name} {p : Position} {ks m r : List Terminal} → IsProgramHeading d h (kind.Unit at p ∷ ks) m → IsUses ns m r → Begins begins_part r → A
no_unit {r = r} h us b = true_false (heading_no_unit h (uses_no_unit us (apart part_no_unit r b)))

pub unique_file : {d d' : ℕ} {f f' : File} {ks r r' : List Terminal} → IsFile d f ks r → IsFile d' f' ks r' → (f ≡ f') × (r ≡ r')
unique_file {ks = ks} (is_program {m1 = m1} b h us es ss) (is_program {d = y} {ns = n1} {ds = e1} {ss = s1} {q = q1} {m1 = z1} {m2 = z2} {r = z} b' h' us' es' ss') =
    let c = declarations_begin es (block_begins ss) in
    let c' = declarations_begin es' (block_begins ss') in
    let u = unique_program_heading h h' (uses_no_program us (apart part_no_program m1 c)) (uses_no_program us' (apart part_no_program z1 c')) in
    let v = unique_uses us (subst (λ x. IsUses n1 x z1) (sym u.1) us') (apart part_no_uses m1 c) (apart part_no_uses z1 c') in
    let w = unique_declarations es (subst (λ x. AreDeclarations y e1 x z2) (sym v.1) es') (block_no_declaration ss) (block_no_declaration ss') in
    let s = unique_block ss (subst (λ x. IsBlock y s1 x (kind.Dot at q1 ∷ z)) (sym w.1) ss') in
    (same5 program_with (begin_same ks b b') u.0 v.0 w.0 s.0, ap behind s.1)
unique_file (is_program b h us es ss) (is_unit n us' is' ls ds t) = no_unit h us (declarations_begin es (block_begins ss))
unique_file (is_unit n us' is' ls ds t) (is_program b h us es ss) = no_unit h us (declarations_begin es (block_begins ss))
unique_file (is_unit {p = p} {m1 = m1} {m3 = m3} n us is ls ds t) (is_unit {d = y} {ns = n1} {ls = l1} {es = e1} {ds = d1} {t = t1} {v = v1} {w = w1} {m1 = z1} {m2 = z2} {m3 = z3} {m4 = z4} {r = z} n' us' is' ls' ds' t') =
    let c = interface_begins is refl in
    let c' = interface_begins is' refl in
    let k = declarations_begin ds (tail_begins t) in
    let k' = declarations_begin ds' (tail_begins t') in
    let a = unique_name n n' in
    let b = unique_uses us (subst (λ x. IsUses n1 x z1) (sym (ap behind (ap behind a.1))) us') (apart part_no_uses m1 c) (apart part_no_uses z1 c') in
    let e = unique_interface_part is (subst (λ x. AreInterfaceDeclarations y e1 x (kind.Implementation at v1 ∷ z2)) (sym b.1) is') refl refl in
    let f = unique_uses ls (subst (λ x. IsUses l1 x z3) (sym (ap behind e.1)) ls') (apart part_no_uses m3 k) (apart part_no_uses z3 k') in
    let g = unique_declarations ds (subst (λ x. AreDeclarations y d1 x z4) (sym f.1) ds') (tail_no_declaration t) (tail_no_declaration t') in
    let h = unique_tail t (subst (λ x. IsTail y t1 x (kind.Dot at w1 ∷ z)) (sym g.1) t') in
    (same4 (unit_with p) a.0 (ap₂ part_with b.0 e.0) (ap₂ part_with f.0 g.0) h.0, ap behind h.1)
