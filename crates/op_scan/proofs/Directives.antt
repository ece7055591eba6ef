-- Lists of switches.
use Rattle.std.proofs.Common.{◌≡◌, ℕ, true, cond, ◌&&◌, List, ◌∷◌, None, ap, ◌∙◌}
use Rattle.std.specs.Prelude.{nat_eq}
use Rattle.std.proofs.lemmas.Bool.{eq-eqb}
use Rattle.op_scan.specs.Directive.{is_switch, with_switch, switched}
use Rattle.op_scan.specs.declared.token.Switches.{Switches}

-- a switch and a comma, and then more of the list
pub switched_more : (s : Switches) (letter sign comma : ℕ) (more : List ℕ) → is_switch letter sign ≡ true → comma ≡ 44 → switched s (letter ∷ sign ∷ comma ∷ more) ≡ switched (with_switch s letter (nat_eq sign 43)) more
unfolding switched
switched_more s letter sign comma more h e =
    ap (λ t. cond (t && nat_eq comma 44) (switched (with_switch s letter (nat_eq sign 43)) more) None) h
    ∙ ap (λ t. cond t (switched (with_switch s letter (nat_eq sign 43)) more) None) (eq-eqb comma 44 e)
