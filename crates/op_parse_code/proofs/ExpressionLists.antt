-- Lists of elements, of arguments and of indices.
use Rattle.std.proofs.Common.{◌≡◌, ℕ, List, ◌∷◌, ◌++◌, Option, Some, None, refl, sym, ap, ◌∙◌, subst}
use Rattle.op_base.specs.declared.place.Place.{Place}
use Rattle.op_parse_code.proofs.ExpressionKnown.{known_chain, known_element, known_argument}
use Rattle.op_parse_code.proofs.Fitting.{fits_chain, fits_element, fits_argument, StopsElement, StopsArgument}
use Rattle.op_parse_code.proofs.Living.{hands_as}
use Rattle.op_parse_code.proofs.Lists.{Splits, Joins, Listed, Open, SplitsOpen, JoinsOpen, open_item, open_more, hands_open, hands_alone, hands_behind_mark, hands_item, kind_same}
use Rattle.op_parse_code.proofs.Refusing.{Some_, Seq, refuses_map, refuses_first, no_mark_same}
use Rattle.op_parse_code.proofs.Cuts.{cut_seen}
use Rattle.op_parse_code.specs.GrammarForm.{GrammarForm, is_fraction_width}
use Rattle.op_parse_code.specs.Opening.{kind_of}
use Rattle.op_parse_code.specs.Refusal.{Phrase, SameHead, Refuses, in_grammar, refused_at}
use Rattle.op_parse_code.specs.Whole.{Chain, NoMark, SomeElement, SomeArgument, ElementsBefore, ArgumentsBefore, IndicesBefore, ClosesElements, closes_set, closes_labels, InsideSet, no_inside, some_inside, InsideCall, no_arguments_inside, arguments_inside}
use Rattle.op_parse_code.specs.declared.error.ParseError.{ParseError}
use Rattle.op_parse_code.specs.declared.mark.Mark.{Mark}
use Rattle.op_parse_code.specs.declared.mark.Mark.TheVariants as mark
use Rattle.op_scan.specs.declared.token.TokenKind.TheVariants as kind
use Rattle.op_tree.proofs.ExpressionUnique.{stop}
use Rattle.op_tree.specs.Ends.{Stops}
use Rattle.op_tree.specs.Expression.{Expression, Elements, no_elements, elements, Element, one, range, Expressions, no_expressions, expressions, Arguments, no_arguments, arguments, Argument, value, padded, rounded, expr_of, element_of, argument_of}
use Rattle.op_tree.specs.ExpressionGrammar.{IsChain, are_one_expression, are_expressions, are_one_element, are_elements, IsElement, is_one, is_range, are_one_argument, are_arguments, IsArgument, is_value, is_padded, is_rounded}
use Rattle.op_tree.specs.Lists.{expressions_of, arguments_of}
use Rattle.op_tree.specs.Statement.{elements_of}
use Rattle.op_tree.specs.Terminal.{Terminal, ◌at◌}
use Rattle.op_tree.specs.declared.expression.Argument.{Argument as RustArgument}
use Rattle.op_tree.specs.declared.expression.Element.{Element as RustElement}
use Rattle.op_tree.specs.declared.expression.Expr.{Expr}
use Rattle.op_tree.specs.declared.operator.Level.TheVariants.{Relational}
use Rattle.op_tree.specs.declared.position.Position.{Position}

-- ---- marks are apart

-- ---- one element

element_is : (d : ℕ) (x : Element) (ks r : List Terminal) → SomeElement d x ks r → IsElement d x ks r
element_is d (one e) ks r f = is_one f.0.0
element_is d (range a b) ks r (p, m, f, g) = is_range f.0 g.0

element_before : (d : ℕ) (x : Element) (ks : List Terminal) (m : Mark) (p : Position) (r : List Terminal) → Stops (kind_of m at p ∷ r) → NoMark mark.DotDot (kind_of m at p ∷ r) → IsElement d x ks (kind_of m at p ∷ r) → SomeElement d x ks (kind_of m at p ∷ r)
element_before d (one e) ks m p r s n (is_one f) = ((f, stop e _ s), n)
element_before d (range a b) ks m p r s n (is_range {p = q} {m = k} f g) = (q, k, (f, stop a _ (refl, refl)), (g, stop b _ s))

into_element : SplitsOpen (Chain Relational) (Chain Relational) SomeElement mark.DotDot
into_element d (one e) ks r f = ((e, None), r, (r, f.0, (f.1, refl)))
into_element d (range a b) ks r (p, m, f, g) = ((a, Some b), r, (kind.DotDot at p ∷ m, f, (p, m, refl, g)))

out_of_element : JoinsOpen (Chain Relational) (Chain Relational) SomeElement mark.DotDot
out_of_element d (a, None) ls r (m, f, (none, e)) = (one a, (subst (λ z. Chain Relational d a ls z) e f, subst (λ z. NoMark mark.DotDot z) e none))
out_of_element d (a, Some b) ls r (m, f, (p, n, e, g)) = (range a b, (p, n, subst (λ z. Chain Relational d a ls z) e f, g))

pub element_first : (d : ℕ) (end : Place) (ks : List Terminal) (e : ParseError) → Refuses (Chain Relational) d end ks e → Refuses SomeElement d end ks e
element_first d end ks e h = open_item (Chain Relational) (Chain Relational) SomeElement mark.DotDot d end ks e into_element (hands_alone (Chain Relational) (Chain Relational) SomeElement mark.DotDot Stops d ks out_of_element (fits_chain Relational) (tt, tt)) h

pub element_last : (d : ℕ) (end : Place) (a : Expression) (ks m : List Terminal) (p : Position) (after : List Terminal) (e : ParseError) → Chain Relational d a ks m → m ≡ kind.DotDot at p ∷ after → Refuses (Chain Relational) d end after e → Refuses SomeElement d end ks e
element_last d end a ks m p after e f is h = open_more (Chain Relational) (Chain Relational) SomeElement mark.DotDot d end a ks m after p e into_element (known_chain Relational) f is (hands_behind_mark (Chain Relational) (Chain Relational) SomeElement mark.DotDot d a ks m after p out_of_element (known_chain Relational) f is) h

pub element_range : (d : ℕ) (a b : Expression) (ks m : List Terminal) (p : Position) (after r : List Terminal) → Chain Relational d a ks m → m ≡ kind.DotDot at p ∷ after → Chain Relational d b after r → SomeElement d (range a b) ks r
element_range d a b ks m p after r f is g = (p, after, subst (λ z. Chain Relational d a ks z) is f, g)

-- ---- elements

abbrev pub add_element : RustElement → Elements → Elements
add_element x more = elements (element_of x) more

closes_stops : (close : Mark) → ClosesElements close → (p : Position) (r : List Terminal) → Stops (kind_of close at p ∷ r)
closes_stops close closes_set p r = (refl, refl)
closes_stops close closes_labels p r = (refl, refl)

closes_no_range : (close : Mark) → ClosesElements close → (p : Position) (r : List Terminal) → NoMark mark.DotDot (kind_of close at p ∷ r)
closes_no_range close closes_set p r = λ q s h. let clash : kind.CloseBracket ≡ kind.DotDot = kind_same h in absurd cc
closes_no_range close closes_labels p r = λ q s h. let clash : kind.Colon ≡ kind.DotDot = kind_same h in absurd cc

closes_no_comma : (close : Mark) → ClosesElements close → kind.Comma ≡ kind_of close → ⊥
closes_no_comma close closes_set h = absurd cc
closes_no_comma close closes_labels h = absurd cc

comma_no_range : (p : Position) (r : List Terminal) → NoMark mark.DotDot (kind.Comma at p ∷ r)
comma_no_range p r = λ q s h. let clash : kind.Comma ≡ kind.DotDot = kind_same h in absurd cc

elements_split : (close : Mark) → ClosesElements close → Splits SomeElement (ElementsBefore close) mark.Comma close
elements_split close c d x ls r (p, are_one_element {e = e} f) = ((e, None), r, (kind_of close at p ∷ r, element_before d e ls close p r (closes_stops close c p r) (closes_no_range close c p r) f, (p, refl)))
elements_split close c d x ls r (p, are_elements {e = e} {es = es} {p = q} {m = m} f g) = ((e, Some es), r, (kind.Comma at q ∷ m, element_before d e ls mark.Comma q m (refl, refl) (comma_no_range q m) f, (q, m, refl, (p, g))))

elements_join : (close : Mark) → Joins SomeElement (ElementsBefore close) mark.Comma close
elements_join close d (a, None) ls r (m, f, (p, e)) = (elements a no_elements, (p, are_one_element (element_is d a ls _ (subst (λ z. SomeElement d a ls z) e f))))
elements_join close d (a, Some es) ls r (m, f, (p, n, e, g)) = (elements a es, (g.0, are_elements (element_is d a ls _ (subst (λ z. SomeElement d a ls z) e f)) g.1))

pub elements_list : (close : Mark) → ClosesElements close → Listed SomeElement (ElementsBefore close) mark.Comma close element_of add_element elements_of
elements_list close c = record {
  none = no_elements;
  known = known_element;
  split = elements_split close c;
  join = elements_join close;
  begins = λ d ks. hands_item SomeElement (ElementsBefore close) mark.Comma close StopsElement d ks (elements_join close) fits_element (λ p r. (closes_stops close c p r, closes_no_range close c p r));
  apart = closes_no_comma close c;
  one = λ d x ks r p f. (p, are_one_element (element_is d (element_of x) ks _ f));
  next = λ d x more ks m r p f g. (g.0, are_elements (element_is d (element_of x) ks _ f) g.1);
  empty = refl;
  added = λ x xs. refl;
}

-- ---- indices

abbrev pub add_index : Expr → Expressions → Expressions
add_index x more = expressions (expr_of x) more

indices_split : Splits (Chain Relational) IndicesBefore mark.Comma mark.CloseBracket
indices_split d x ls r (p, are_one_expression {e = e} f) = ((e, None), r, (kind.CloseBracket at p ∷ r, (f, stop e _ (refl, refl)), (p, refl)))
indices_split d x ls r (p, are_expressions {e = e} {es = es} {p = q} {m = m} f g) = ((e, Some es), r, (kind.Comma at q ∷ m, (f, stop e _ (refl, refl)), (q, m, refl, (p, g))))

indices_join : Joins (Chain Relational) IndicesBefore mark.Comma mark.CloseBracket
indices_join d (a, None) ls r (m, f, (p, e)) = (expressions a no_expressions, (p, are_one_expression (subst (λ z. IsChain Relational d a ls z) e f.0)))
indices_join d (a, Some es) ls r (m, f, (p, n, e, g)) = (expressions a es, (g.0, are_expressions (subst (λ z. IsChain Relational d a ls z) e f.0) g.1))

pub indices_list : Listed (Chain Relational) IndicesBefore mark.Comma mark.CloseBracket expr_of add_index expressions_of
indices_list = record {
  none = no_expressions;
  known = known_chain Relational;
  split = indices_split;
  join = indices_join;
  begins = λ d ks. hands_item (Chain Relational) IndicesBefore mark.Comma mark.CloseBracket Stops d ks indices_join (fits_chain Relational) (λ p r. (refl, refl));
  apart = λ h. absurd cc;
  one = λ d x ks r p f. (p, are_one_expression f.0);
  next = λ d x more ks m r p f g. (g.0, are_expressions f.0 g.1);
  empty = refl;
  added = λ x xs. refl;
}

-- ---- one argument

argument_is : (d : ℕ) (x : Argument) (ks r : List Terminal) → SomeArgument d x ks r → IsArgument d x ks r
argument_is d (value e) ks r f = is_value f.0.0
argument_is d (padded a b) ks r (p, m, f, g, none) = is_padded f.0 g.0
argument_is d (rounded a b c) ks r (p, q, m, n, f, g, h) = is_rounded f.0 g.0 h.0

argument_before : (d : ℕ) (x : Argument) (ks : List Terminal) (m : Mark) (p : Position) (r : List Terminal) → Stops (kind_of m at p ∷ r) → NoMark mark.Colon (kind_of m at p ∷ r) → IsArgument d x ks (kind_of m at p ∷ r) → SomeArgument d x ks (kind_of m at p ∷ r)
argument_before d (value e) ks m p r s n (is_value f) = ((f, stop e _ s), n)
argument_before d (padded a b) ks m p r s n (is_padded {p = q} {m = k} f g) = (q, k, (f, stop a _ (refl, refl)), (g, stop b _ s), n)
argument_before d (rounded a b c) ks m p r s n (is_rounded {p = q} {q = q1} {m = k} {n = k1} f g h) = (q, q1, k, k1, (f, stop a _ (refl, refl)), (g, stop b _ (refl, refl)), (h, stop c _ s))

-- a width, and the digits behind it
abbrev Width : Phrase (Expression × Option Expression)
Width = Seq (Chain Relational) (Open (Chain Relational) mark.Colon)

into_widths : SplitsOpen (Chain Relational) Width SomeArgument mark.Colon
into_widths d (value e) ks r f = ((e, None), r, (r, f.0, (f.1, refl)))
into_widths d (padded a b) ks r (p, m, f, g, none) = ((a, Some (b, None)), r, (kind.Colon at p ∷ m, f, (p, m, refl, (r, g, (none, refl)))))
into_widths d (rounded a b c) ks r (p, q, m, n, f, g, h) = ((a, Some (b, Some c)), r, (kind.Colon at p ∷ m, f, (p, m, refl, (kind.Colon at q ∷ n, g, (q, n, refl, h)))))

out_of_widths : JoinsOpen (Chain Relational) Width SomeArgument mark.Colon
out_of_widths d (a, None) ls r (m, f, (none, e)) = (value a, (subst (λ z. Chain Relational d a ls z) e f, subst (λ z. NoMark mark.Colon z) e none))
out_of_widths d (a, Some (b, None)) ls r (m, f, (p, n, e, (o, g, (none, e1)))) = (padded a b, (p, n, subst (λ z. Chain Relational d a ls z) e f, subst (λ z. Chain Relational d b n z) e1 g, subst (λ z. NoMark mark.Colon z) e1 none))
out_of_widths d (a, Some (b, Some c)) ls r (m, f, (p, n, e, (o, g, (q, n1, e1, h)))) = (rounded a b c, (p, q, n, n1, subst (λ z. Chain Relational d a ls z) e f, subst (λ z. Chain Relational d b n z) e1 g, h))

pub argument_value : (d : ℕ) (end : Place) (ks : List Terminal) (e : ParseError) → Refuses (Chain Relational) d end ks e → Refuses SomeArgument d end ks e
argument_value d end ks e h = open_item (Chain Relational) Width SomeArgument mark.Colon d end ks e into_widths (hands_alone (Chain Relational) Width SomeArgument mark.Colon Stops d ks out_of_widths (fits_chain Relational) (tt, tt)) h

pub argument_width : (d : ℕ) (end : Place) (a : Expression) (ks m : List Terminal) (p : Position) (after : List Terminal) (e : ParseError) → Chain Relational d a ks m → m ≡ kind.Colon at p ∷ after → Refuses (Chain Relational) d end after e → Refuses SomeArgument d end ks e
argument_width d end a ks m p after e f is h = open_more (Chain Relational) Width SomeArgument mark.Colon d end a ks m after p e into_widths (known_chain Relational) f is (hands_behind_mark (Chain Relational) Width SomeArgument mark.Colon d a ks m after p out_of_widths (known_chain Relational) f is) (refuses_first (Chain Relational) (Open (Chain Relational) mark.Colon) d end after e (hands_open (Chain Relational) (Chain Relational) mark.Colon Stops d after (fits_chain Relational) (tt, tt)) h)

pub argument_padded : (d : ℕ) (a b : Expression) (ks m : List Terminal) (p : Position) (after r : List Terminal) → Chain Relational d a ks m → m ≡ kind.Colon at p ∷ after → Chain Relational d b after r → NoMark mark.Colon r → SomeArgument d (padded a b) ks r
argument_padded d a b ks m p after r f is g none = (p, after, subst (λ z. Chain Relational d a ks z) is f, g, none)

pub argument_digits : (d : ℕ) (end : Place) (a b : Expression) (ks m : List Terminal) (p q : Position) (after r s : List Terminal) (e : ParseError) → Chain Relational d a ks m → m ≡ kind.Colon at p ∷ after → Chain Relational d b after r → r ≡ kind.Colon at q ∷ s → e ≡ refused_at 13 35 end r → Refuses SomeArgument d end ks e
argument_digits d end a b ks m p q after r s e f is g is1 x =
    let front = (known_chain Relational).front d a ks m f in
    let seen = cut_seen front.1 in
    in_grammar 35 r x (seen.0, kind.Colon at p ∷ after, front.2 ∙ seen.1 m ∙ ap (λ z. seen.0 ++ z) is, subst (λ z. GrammarForm 35 (kind.Colon at p ∷ after) z) (sym is1) (is_fraction_width {d = d} {e = b} (subst (λ z. IsChain Relational d b after z) is1 g.0)))

-- ---- arguments

abbrev pub add_argument : RustArgument → Arguments → Arguments
add_argument x more = arguments (argument_of x) more

close_no_colon : (p : Position) (r : List Terminal) → NoMark mark.Colon (kind.CloseParenthesis at p ∷ r)
close_no_colon p r = λ q s h. let clash : kind.CloseParenthesis ≡ kind.Colon = kind_same h in absurd cc

comma_no_colon : (p : Position) (r : List Terminal) → NoMark mark.Colon (kind.Comma at p ∷ r)
comma_no_colon p r = λ q s h. let clash : kind.Comma ≡ kind.Colon = kind_same h in absurd cc

arguments_split : Splits SomeArgument ArgumentsBefore mark.Comma mark.CloseParenthesis
arguments_split d x ls r (p, are_one_argument {a = a} f) = ((a, None), r, (kind.CloseParenthesis at p ∷ r, argument_before d a ls mark.CloseParenthesis p r (refl, refl) (close_no_colon p r) f, (p, refl)))
arguments_split d x ls r (p, are_arguments {a = a} {args = args} {p = q} {m = m} f g) = ((a, Some args), r, (kind.Comma at q ∷ m, argument_before d a ls mark.Comma q m (refl, refl) (comma_no_colon q m) f, (q, m, refl, (p, g))))

arguments_join : Joins SomeArgument ArgumentsBefore mark.Comma mark.CloseParenthesis
arguments_join d (a, None) ls r (m, f, (p, e)) = (arguments a no_arguments, (p, are_one_argument (argument_is d a ls _ (subst (λ z. SomeArgument d a ls z) e f))))
arguments_join d (a, Some args) ls r (m, f, (p, n, e, g)) = (arguments a args, (g.0, are_arguments (argument_is d a ls _ (subst (λ z. SomeArgument d a ls z) e f)) g.1))

pub arguments_list : Listed SomeArgument ArgumentsBefore mark.Comma mark.CloseParenthesis argument_of add_argument arguments_of
arguments_list = record {
  none = no_arguments;
  known = known_argument;
  split = arguments_split;
  join = arguments_join;
  begins = λ d ks. hands_item SomeArgument ArgumentsBefore mark.Comma mark.CloseParenthesis StopsArgument d ks arguments_join fits_argument (λ p r. ((refl, refl), close_no_colon p r));
  apart = λ h. absurd cc;
  one = λ d x ks r p f. (p, are_one_argument (argument_is d (argument_of x) ks _ f));
  next = λ d x more ks m r p f g. (g.0, are_arguments (argument_is d (argument_of x) ks _ f) g.1);
  empty = refl;
  added = λ x xs. refl;
}

-- ---- inside brackets

into_set : (ks : List Terminal) → NoMark mark.CloseBracket ks → (d : ℕ) (b : Elements) (ls r : List Terminal) → SameHead ks ls → InsideSet d b ls r → Some_ (ElementsBefore mark.CloseBracket) d ls
into_set ks none d b ls r s (no_inside {p = p}) = absurd (no_mark_same mark.CloseBracket ks ls s none p r refl)
into_set ks none d b ls r s (some_inside f) = (b, r, f)

pub set_inside : (d : ℕ) (end : Place) (ks : List Terminal) (e : ParseError) → NoMark mark.CloseBracket ks → Refuses (ElementsBefore mark.CloseBracket) d end ks e → Refuses InsideSet d end ks e
set_inside d end ks e none h = refuses_map (ElementsBefore mark.CloseBracket) InsideSet d end ks e (into_set ks none) (hands_as (ElementsBefore mark.CloseBracket) InsideSet d ks (λ i b ls r s f. (b, some_inside f))) h

pub set_empty : (d : ℕ) (p : Position) (ks r : List Terminal) → ks ≡ kind.CloseBracket at p ∷ r → InsideSet d no_elements ks r
set_empty d p ks r is = subst (λ z. InsideSet d no_elements z r) (sym is) no_inside

into_call : (ks : List Terminal) → NoMark mark.CloseParenthesis ks → (d : ℕ) (b : Arguments) (ls r : List Terminal) → SameHead ks ls → InsideCall d b ls r → Some_ ArgumentsBefore d ls
into_call ks none d b ls r s (no_arguments_inside {p = p}) = absurd (no_mark_same mark.CloseParenthesis ks ls s none p r refl)
into_call ks none d b ls r s (arguments_inside f) = (b, r, f)

pub call_inside : (d : ℕ) (end : Place) (ks : List Terminal) (e : ParseError) → NoMark mark.CloseParenthesis ks → Refuses ArgumentsBefore d end ks e → Refuses InsideCall d end ks e
call_inside d end ks e none h = refuses_map ArgumentsBefore InsideCall d end ks e (into_call ks none) (hands_as ArgumentsBefore InsideCall d ks (λ i b ls r s f. (b, arguments_inside f))) h

pub call_empty : (d : ℕ) (p : Position) (ks r : List Terminal) → ks ≡ kind.CloseParenthesis at p ∷ r → InsideCall d no_arguments ks r
call_empty d p ks r is = subst (λ z. InsideCall d no_arguments z r) (sym is) no_arguments_inside
