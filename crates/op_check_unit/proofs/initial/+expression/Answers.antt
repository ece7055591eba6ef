use Rattle.std.proofs.Common.{◌≡◌, ◌⊎◌, inl, inr, ℕ, ◌∷◌, [], IfOk, true, ap, subst, sym, ◌∙◌}
use Rattle.std.specs.Option.{option_map}
use Rattle.op_base.specs.declared.place.Place.{Place}
use Rattle.op_judgement.proofs.Computed.{Reports, changed, followed}
use Rattle.op_check_unit.proofs.Beginning.{alone, bracketed_means, one_listed}
use Rattle.op_check_unit.specs.Initials.{by_brackets, counted, first_expression, is_bracketed, one_value, single, unless_wrong, wrong_count}
use Rattle.op_check_unit.specs.declared.initial.Shape.{Shape}
use Rattle.op_check_unit.specs.declared.initial.Shape.TheVariants.{Single, Fields}
use Rattle.op_core.specs.Initial.{FirstValue, first_value_of}
use Rattle.op_core.specs.declared.ids.Run.{Run}
use Rattle.op_core.specs.declared.ids.TypeId.{TypeId}
use Rattle.op_judgement.specs.Judgement as judgement
use Rattle.op_judgement.specs.Judgement.{Judgement, checked}
use Rattle.op_tree.proofs.Rows.{designated_says}
use Rattle.op_tree.specs.Expression.{designated, designator, bracketed, expr_of, root_of}
use Rattle.op_tree.specs.Statement.{selectors_of}
use Rattle.op_check_unit.proofs.initial.+expression.Goals as goal
use Rattle.op_types.specs.ConstantParts.{start_of}

pub first_expression-returns-else-is_bracketed : goal.first_expression-returns-else-is_bracketed
first_expression-returns-else-is_bracketed t c =
    subst (λ g. IfOk c.single.result (λ v. Reports g c.args.sink.now c.single.new.sink (option_map first_value_of v)))
    (sym (alone c.args.setting.core.now c.args.setting.visible.now c.args.of (expr_of c.args.e.now) (sym c.is_bracketed.ensures ∙ c.if-is_bracketed.false))) c.single.ensures

pub in_brackets-returns-in_ok-part-in-Elements : goal.in_brackets-returns-in_ok-part-in-Elements
in_brackets-returns-in_ok-part-in-Elements t c =
    let core = c.args.setting.core.now in
    let names = c.args.setting.visible.now in
    let of = c.args.of in
    let called = c.in-Designator.called in
    let p = c.in-Bracketed.position in
    let inner = expr_of c.in-Bracketed.inside.value in
    let ss = selectors_of called.selectors.items in
    let a = c.in-Elements in
    let old = c.args.sink.now in
    let mid = c.first_expression.new.sink in
    let new = c.one_part.new.sink in
    let wrong = c.wrong_one-wrong.result in
    let part = c.in_ok-part-in-Elements.part in
    let whole : expr_of c.args.e.now ≡ designated (designator (bracketed p inner) ss) =
    ap expr_of c.in-Designator.is ∙ designated_says called ∙ ap (λ r. designated (designator (root_of r) ss)) c.in-Bracketed.is in
    let means = ap (λ e. checked (first_expression core names of e)) whole ∙ bracketed_means core names of p inner ss (subst (λ e. is_bracketed e ≡ true) whole c.requires.bracketed)
    ∙ ap (λ s. checked (by_brackets p.place (single core names of (designated (designator (bracketed p inner) ss))) (λ count element. counted p.place count (start_of inner ∷ []) (judgement.changed one_value (first_expression core names element inner))) s)) (sym c.shape_of.ensures ∙ a.is) in
    let count : wrong ≡ wrong_count p.place a.count (start_of inner ∷ []) =
    c.wrong_one-wrong.ensures ∙ ap (λ s. wrong_count p.place a.count (s ∷ [])) (c.start_of.ensures ∙ ap (λ e. start_of (expr_of e)) c.deref-in-Elements.ensures) in
    subst (λ g. IfOk c.one_part.result (λ v. Reports g old new (option_map first_value_of v))) (sym means)
    (subst (λ w. IfOk c.one_part.result (λ v. Reports (followed (changed one_value (checked (first_expression core names a.element inner))) (λ vs. checked (unless_wrong w vs))) old new (option_map first_value_of v))) count
    (one_listed c.one_part.result (checked (first_expression core names a.element inner)) wrong old mid new part
    (subst (λ e. Reports (checked (first_expression core names a.element (expr_of e))) old mid (option_map first_value_of part)) c.deref.ensures c.in_ok-part-in-Elements.ensures)
    c.one_part.ensures))

-- what has no list takes the expression as a single value
no_list : (bracket : Place) (x : Judgement FirstValue) (f : ℕ → TypeId → Judgement FirstValue) (s : Shape) → (s ≡ Single) ⊎ ((r : Run) × (s ≡ Fields r)) → checked (by_brackets bracket x f s) ≡ checked x
no_list bracket x f s (inl e) = ap (λ s. checked (by_brackets bracket x f s)) e
no_list bracket x f s (inr r) = ap (λ s. checked (by_brackets bracket x f s)) r.1

pub in_brackets-returns-in-Single : goal.in_brackets-returns-in-Single
in_brackets-returns-in-Single t c =
    let core = c.args.setting.core.now in
    let names = c.args.setting.visible.now in
    let of = c.args.of in
    let called = c.in-Designator.called in
    let p = c.in-Bracketed.position in
    let inner = expr_of c.in-Bracketed.inside.value in
    let ss = selectors_of called.selectors.items in
    let whole : expr_of c.args.e.now ≡ designated (designator (bracketed p inner) ss) =
    ap expr_of c.in-Designator.is ∙ designated_says called ∙ ap (λ r. designated (designator (root_of r) ss)) c.in-Bracketed.is in
    let means = ap (λ e. checked (first_expression core names of e)) whole ∙ bracketed_means core names of p inner ss (subst (λ e. is_bracketed e ≡ true) whole c.requires.bracketed)
    ∙ ap (λ s. checked (by_brackets p.place (single core names of (designated (designator (bracketed p inner) ss))) (λ count element. counted p.place count (start_of inner ∷ []) (judgement.changed one_value (first_expression core names element inner))) s)) (sym c.shape_of.ensures)
    ∙ no_list p.place (single core names of (designated (designator (bracketed p inner) ss))) (λ count element. counted p.place count (start_of inner ∷ []) (judgement.changed one_value (first_expression core names element inner))) c.shape_of.result c.in-Single.is ∙ ap (λ e. checked (single core names of e)) (sym whole) in
    subst (λ g. IfOk c.single.result (λ v. Reports g c.args.sink.now c.single.new.sink (option_map first_value_of v))) (sym means) c.single.ensures
