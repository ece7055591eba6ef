-- Declarations in a row and the bodies of routines: what they are made of, and what is known of them.
use Rattle.std.proofs.Common.{◌≡◌, ℕ, suc, Bool, true, false, ◌||◌, codes, List, [], ◌∷◌, is_some, map, refl, sym, ap, ◌∙◌, subst}
use Rattle.op_parse_code.proofs.Deeper.{deeper_statements}
use Rattle.op_parse_code.proofs.Cuts.{cut_none, cut_one, cut_join}
use Rattle.op_parse_code.proofs.Refusing.{Known}
use Rattle.op_parse_code.proofs.StatementFronts.{front_statements}
use Rattle.op_parse_code.proofs.StatementKnown.{known_name}
use Rattle.op_parse_code.specs.Opening.{is_identifier}
use Rattle.op_parse_code.specs.Refusal.{Phrase}
use Rattle.op_parse_code.specs.declared.mark.Mark.TheVariants as mark
use Rattle.op_parse_decl.specs.HeadingParts.{known_heading}
use Rattle.op_parse_decl.specs.Combined.{Both, both, Then, then_, Repeats, no_more, one_more, Or, this, that, Choice, chosen, otherwise, Deeper, deeper}
use Rattle.op_parse_decl.specs.DeclarationParts.{made_constant, made_variables, made_type, made_definition, made_data}
use Rattle.op_parse_decl.specs.Declarations.{DefinitionBefore, SomeData, WholeMethod, is_directive, begins_declaration, InterfaceDeclaration, interface_data, interface_heading, BlockDeclaration, block_data, block_routine, listed, AllOf, BodyBefore}
use Rattle.op_parse_decl.specs.Known.{As, Stays, join, known_ahead, known_as, known_stands, known_then, known_behind, known_repeats, known_choice, known_deeper, known_fork, known_several}
use Rattle.op_parse_decl.specs.KnownTypes.{known_names, known_denoter}
use Rattle.op_parse_decl.specs.InterfaceParts.{known_interface, known_method}
use Rattle.op_parse_decl.specs.ClassKnown.{known_class}
use Rattle.op_parse_decl.specs.InitialKnown.{known_initial}
use Rattle.op_scan.specs.declared.token.TokenKind.{TokenKind}
use Rattle.op_scan.specs.declared.token.TokenKind.TheVariants as kind
use Rattle.op_tree.proofs.DeclarationUnique.{begins_data, data_begins, routine_begins, unique_declarations, block_no_declaration, heading_no_data, identifier_continues}
use Rattle.op_tree.proofs.ExpressionUnique.{Begins, behind, true_false, false_true}
use Rattle.op_tree.proofs.MethodUnique.{also, apart, begins_heading, heading_begins, method_begins}
use Rattle.op_tree.proofs.StatementUnique.{unique_block}
use Rattle.op_tree.specs.Declaration.{Declaration, Method, heading, routine, Declarations, no_declarations, declarations, Body, body, declaration_of, declarations_of}
use Rattle.op_tree.specs.DeclarationGrammar.{AreVariablesOfOneType, IsConstant, IsTypeDeclaration, AreInterfaceDeclarations, are_no_interface_declarations, data_in_interface, heading_in_interface, AreDeclarations, are_no_declarations, data_declared, routine_declared, IsRoutine, is_routine, IsBody, is_body, is_forward as is_forward_body}
use Rattle.op_tree.specs.Ends.{IsNot, EndsDeclarations, continues_declarations}
use Rattle.op_tree.specs.HeadingGrammar.{beside, directives, directive_of, is_method}
use Rattle.op_tree.specs.StatementGrammar.{IsBlock, is_begin_end}
use Rattle.op_tree.specs.Terminal.{Terminal, ◌at◌, IsWord}
use Rattle.op_tree.specs.declared.declaration.Declaration.{Declaration as RustDeclaration}
use Rattle.op_tree.specs.declared.position.Position.{Position}

-- ---- what begins a declaration, and what does not

or_true : (b : Bool) → b || true ≡ true
or_true true = refl
or_true false = refl

declares_data : (ks : List Terminal) → Begins begins_data ks → Begins begins_declaration ks
declares_data ks h = also (λ k e. ap (λ b. b || begins_heading k) e) ks h

declares_routine : (ks : List Terminal) → Begins begins_heading ks → Begins begins_declaration ks
declares_routine ks h = also (λ k e. ap (λ b. begins_data k || b) e ∙ or_true (begins_data k)) ks h

no_name : (k : TokenKind) → begins_declaration k ≡ true → is_identifier k ≡ false
no_name (kind.Identifier text) h = false_true h
no_name other h = refl

-- what begins with none of these kinds begins with none of fewer
pub neither : {one other : TokenKind → Bool} → ((k : TokenKind) → one k ≡ false → other k ≡ false) → (ks : List Terminal) → IsNot one ks → IsNot other ks
neither f [] h = tt
neither f (t ∷ ks) h = f t.kind h

no_directive : (k : TokenKind) → is_identifier k ≡ false → is_directive k ≡ false
no_directive (kind.Identifier text) h = true_false h
no_directive other h = refl

ends_none : (k : TokenKind) → continues_declarations k ≡ false → begins_declaration k ≡ false
ends_none kind.Const_ h = true_false h
ends_none kind.Type_ h = true_false h
ends_none kind.Var h = true_false h
ends_none kind.Procedure h = true_false h
ends_none kind.Function h = true_false h
ends_none kind.Constructor h = true_false h
ends_none kind.Destructor h = true_false h
ends_none other h = refl

-- ---- declarations in a row

-- such parts begin with none of these kinds, if what stands behind them does not
pub begin_none : {A : Type 0} {test other : TokenKind → Bool} {P : Phrase A} {d : ℕ} {as_ : List A} {ks r : List Terminal} → ((k : TokenKind) → test k ≡ true → other k ≡ false) → Repeats test P d as_ ks r → IsNot other r → IsNot other ks
begin_none f (no_more h) n = n
begin_none {ks = ks} f (one_more h p more) n = apart f ks h

begin_no_name : {P : Phrase Declaration} {d : ℕ} {es : List Declaration} {ks r : List Terminal} → Repeats begins_declaration P d es ks r → EndsDeclarations r → IsNot is_identifier ks
begin_no_name {r = r} more h = begin_none no_name more (neither identifier_continues r h)

pub interface_in : {d : ℕ} {es : Declarations} {ks r : List Terminal} → AreInterfaceDeclarations d es ks r → EndsDeclarations r → AllOf InterfaceDeclaration d es ks r
interface_in {r = r} are_no_interface_declarations h = no_more (neither ends_none r h)
interface_in {ks = ks} (data_in_interface e es) h = let more = interface_in es h in one_more (declares_data ks (data_begins e)) (interface_data (e, begin_no_name more h)) more
interface_in {ks = ks} (heading_in_interface {m = m} a es) h = let more = interface_in es h in one_more (declares_routine ks (method_begins a)) (interface_heading (a, neither no_directive m (begin_no_name more h))) more

pub interface_out : {d : ℕ} (es : Declarations) {ks r : List Terminal} → AllOf InterfaceDeclaration d es ks r → AreInterfaceDeclarations d es ks r
interface_out no_declarations (no_more h) = are_no_interface_declarations
interface_out (declarations e es) (one_more h (interface_data f) more) = data_in_interface f.0 (interface_out es more)
interface_out (declarations e es) (one_more h (interface_heading f) more) = heading_in_interface f.0 (interface_out es more)

pub block_in : {d : ℕ} {es : Declarations} {ks r : List Terminal} → AreDeclarations d es ks r → EndsDeclarations r → AllOf BlockDeclaration d es ks r
block_in {r = r} are_no_declarations h = no_more (neither ends_none r h)
block_in {ks = ks} (data_declared e es) h = let more = block_in es h in one_more (declares_data ks (data_begins e)) (block_data (e, begin_no_name more h)) more
block_in {ks = ks} (routine_declared e es) h = one_more (declares_routine ks (routine_begins e)) (block_routine e) (block_in es h)

pub block_out : {d : ℕ} (es : Declarations) {ks r : List Terminal} → AllOf BlockDeclaration d es ks r → AreDeclarations d es ks r
block_out no_declarations (no_more h) = are_no_declarations
block_out (declarations e es) (one_more h (block_data f) more) = data_declared f.0 (block_out es more)
block_out (declarations e es) (one_more h (block_routine f) more) = routine_declared f (block_out es more)

pub as_all : (P : Phrase Declaration) → As (Repeats begins_declaration P) (AllOf P)
as_all P d es ks r f = (listed es, f, λ i ls s x. x)

pub listed_of : (xs : List RustDeclaration) → map declaration_of xs ≡ listed (declarations_of xs)
listed_of [] = refl
listed_of (x ∷ xs) = ap (λ z. declaration_of x ∷ z) (listed_of xs)

-- ---- a declaration of an interface part

abbrev pub DataOrHeading : Phrase (Or Declaration Method)
DataOrHeading = Choice begins_data SomeData WholeMethod

pub data_of_parts : {d : ℕ} {e : Declaration} {ks r : List Terminal} → DataOrHeading d (this e) ks r → InterfaceDeclaration d e ks r
data_of_parts (chosen h f) = interface_data f

pub heading_of_parts : {d : ℕ} {a : Method} {ks r : List Terminal} → DataOrHeading d (that a) ks r → InterfaceDeclaration d (heading a) ks r
heading_of_parts (otherwise h f) = interface_heading f

pub made_interface_declaration : As DataOrHeading InterfaceDeclaration
made_interface_declaration d e ks r (interface_data f) = (this e, chosen (data_begins f.0) f, λ i ls s x. data_of_parts x)
made_interface_declaration d e ks r (interface_heading {a = a} f) = (that a, otherwise (apart heading_no_data ks (method_begins f.0)) f, λ i ls s x. heading_of_parts x)

-- ---- a declaration of any other part

abbrev pub DataOrRoutine : Phrase (Or Declaration (Both Method Body))
DataOrRoutine = Choice begins_data SomeData (Deeper (Then WholeMethod BodyBefore))

pub data_in_block : {d : ℕ} {e : Declaration} {ks r : List Terminal} → DataOrRoutine d (this e) ks r → BlockDeclaration d e ks r
data_in_block (chosen h f) = block_data f

pub routine_of : {d : ℕ} {a : Method} {b : Body} {ks m r : List Terminal} → WholeMethod d a ks m → BodyBefore d b m r → IsRoutine (suc d) (routine a.heading a.directives b) ks r
routine_of (is_method h ws, n) (q, b) = is_routine h ws b

pub routine_in_block : {d : ℕ} {a : Method} {b : Body} {ks r : List Terminal} → DataOrRoutine d (that (both a b)) ks r → BlockDeclaration d (routine a.heading a.directives b) ks r
routine_in_block (otherwise h (deeper (then_ a b))) = block_routine (routine_of a b)

forward_is_none : (word : List ℕ) → IsWord (codes "forward") word → is_some (directive_of word) ≡ false
unfolding directive_of
forward_is_none word e = ap (λ x. is_some (beside x directives)) e

pub body_no_name : {d : ℕ} {es : Declarations} {ks m : List Terminal} → AreDeclarations d es ks m → EndsDeclarations m → IsNot is_identifier ks
body_no_name es h = begin_no_name (block_in es h) h

body_no_directive : {d : ℕ} {b : Body} {q : Position} {ks r : List Terminal} → IsBody d b ks (kind.Semicolon at q ∷ r) → IsNot is_directive ks
body_no_directive {ks = ks} (is_body es (is_begin_end ss)) = neither no_directive ks (body_no_name es refl)
body_no_directive (is_forward_body {word = word} e) = forward_is_none word e

pub made_block_declaration : As DataOrRoutine BlockDeclaration
made_block_declaration d e ks r (block_data f) = (this e, chosen (data_begins f.0) f, λ i ls s x. data_in_block x)
made_block_declaration d e ks r (block_routine (is_routine {h = h} {ws = ws} {b = b} {q = q} f g t)) = (that (both (record { heading = h; directives = ws }) b), otherwise (apart heading_no_data ks (heading_begins f)) (deeper (then_ (is_method f g, body_no_directive t) (q, t))), λ i ls s x. routine_in_block x)

-- ---- what is known of them

known_definition : Known DefinitionBefore
known_definition = known_as made_definition (known_fork known_class (known_ahead known_interface (known_then known_denoter (known_stands mark.Semicolon))))

pub known_constant : Known IsConstant
known_constant = known_as made_constant (known_then known_name (known_then (known_behind known_denoter) (known_then (known_stands mark.Equal) (known_then known_initial (known_stands mark.Semicolon)))))

pub known_variables : Known AreVariablesOfOneType
known_variables = known_as made_variables (known_then known_names (known_then (known_stands mark.Colon) (known_then known_denoter (known_then (known_behind known_initial) (known_stands mark.Semicolon)))))

pub known_type : Known IsTypeDeclaration
known_type = known_as made_type (known_then known_name (known_then (known_stands mark.Equal) known_definition))

pub known_data : Known SomeData
known_data = known_as made_data (known_fork (known_several known_constant) (known_fork (known_several known_variables) (known_then (known_stands mark.Type_) (known_several known_type))))

mutual
  front_declarations : {d : ℕ} {es : Declarations} {ks r : List Terminal} → AreDeclarations d es ks r → EndsDeclarations r → Stays (AreDeclarations d es) ks r
  front_declarations are_no_declarations h = (λ x. x, cut_none, refl, λ x s. are_no_declarations)
  front_declarations {d = d} {ks = ks} (data_declared {e = e} {es = es} {m = m} f more) h = join (SomeData d e) (AreDeclarations d es) (AreDeclarations d (declarations e es)) (λ ls y z u v. data_declared u.0 v) (known_data.front d e ks m (f, body_no_name more h)) (front_declarations more h)
  front_declarations {d = d} (routine_declared {e = e} {es = es} f more) h = join (IsRoutine d e) (AreDeclarations d es) (AreDeclarations d (declarations e es)) (λ ls y z u v. routine_declared u v) (front_routine f) (front_declarations more h)

  front_routine : {d : ℕ} {e : Declaration} {ks r : List Terminal} → IsRoutine d e ks r → Stays (IsRoutine d e) ks r
  front_routine {ks = ks} (is_routine {d = d} {h = h} {ws = ws} {b = b} {n = n} f g t) = join (WholeMethod d (record { heading = h; directives = ws })) (BodyBefore d b) (IsRoutine (suc d) (routine h ws b)) (λ ls y z u v. routine_of u v) (known_method.front d (record { heading = h; directives = ws }) ks n (is_method f g, body_no_directive t)) (front_body t)

  front_body : {d : ℕ} {b : Body} {q : Position} {ks r : List Terminal} → IsBody d b ks (kind.Semicolon at q ∷ r) → Stays (BodyBefore d b) ks r
  front_body {q = q} (is_forward_body {word = word} {p = p} e) = (λ x. kind.Identifier word at p ∷ kind.Semicolon at q ∷ x, cut_one (kind.Identifier word at p) (cut_one (kind.Semicolon at q) cut_none), refl, λ x s. (q, is_forward_body e))
  front_body {d = d} {q = q} (is_body {es = es} f (is_begin_end {ss = ss} {p = u} {q = v} g)) =
      let w = front_statements g in
      join (AreDeclarations d es) (λ ls z. IsBlock d ss ls (kind.Semicolon at q ∷ z)) (BodyBefore d (body es ss)) (λ ls y z a b. (q, is_body a b)) (front_declarations f refl) (λ x. kind.Begin at u ∷ w.0 (kind.End at v ∷ kind.Semicolon at q ∷ x), cut_one (kind.Begin at u) (cut_join w.1 (cut_one (kind.End at v) (cut_one (kind.Semicolon at q) cut_none))), ap (λ z. kind.Begin at u ∷ z) w.2, λ x s. is_begin_end (w.3 (kind.End at v ∷ kind.Semicolon at q ∷ x)))

same_body : {d d' : ℕ} {b b' : Body} {q q' : Position} {ks r r' : List Terminal} → IsBody d b ks (kind.Semicolon at q ∷ r) → IsBody d' b' ks (kind.Semicolon at q' ∷ r') → r ≡ r'
same_body {q' = q} {r' = z} (is_body es ss) (is_body {d = y} {ss = s1} es' ss') = ap behind (unique_block ss (subst (λ x. IsBlock y s1 x (kind.Semicolon at q ∷ z)) (sym (unique_declarations es es' (block_no_declaration ss) (block_no_declaration ss')).1) ss')).1
same_body (is_body es (is_begin_end ss)) (is_forward_body e) = true_false (body_no_name es refl)
same_body (is_forward_body e) (is_body es (is_begin_end ss)) = true_false (body_no_name es refl)
same_body (is_forward_body e) (is_forward_body e') = refl

mutual
  deeper_declarations : {d : ℕ} {es : Declarations} {ks r : List Terminal} → AreDeclarations d es ks r → EndsDeclarations r → AreDeclarations (suc d) es ks r
  deeper_declarations are_no_declarations h = are_no_declarations
  deeper_declarations {d = d} {ks = ks} (data_declared {e = e} {m = m} f more) h = data_declared (known_data.deepens d e ks m (f, body_no_name more h)).0 (deeper_declarations more h)
  deeper_declarations (routine_declared f more) h = routine_declared (deeper_routine f) (deeper_declarations more h)

  deeper_routine : {d : ℕ} {e : Declaration} {ks r : List Terminal} → IsRoutine d e ks r → IsRoutine (suc d) e ks r
  deeper_routine {ks = ks} (is_routine {d = d} {h = h} {p = p} {m = m} f g t) = is_routine (known_heading.deepens d h ks m (p, f)).1 g (deeper_body t)

  deeper_body : {d : ℕ} {b : Body} {q : Position} {ks r : List Terminal} → IsBody d b ks (kind.Semicolon at q ∷ r) → IsBody (suc d) b ks (kind.Semicolon at q ∷ r)
  deeper_body (is_forward_body e) = is_forward_body e
  deeper_body (is_body f (is_begin_end g)) = is_body (deeper_declarations f refl) (is_begin_end (deeper_statements g))

known_body : Known BodyBefore
known_body = record { front = λ d b ks r p. front_body p.1; same = λ d d' b b' ks r r' p p'. same_body p.1 p'.1; deepens = λ d b ks r p. (p.0, deeper_body p.1) }

pub known_block_declaration : Known BlockDeclaration
known_block_declaration = known_as made_block_declaration (known_choice known_data (known_deeper (known_then known_method known_body)))

pub known_declarations : Known (AllOf BlockDeclaration)
known_declarations = known_as (as_all BlockDeclaration) (known_repeats known_block_declaration)
