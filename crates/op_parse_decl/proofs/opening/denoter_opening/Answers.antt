use Rattle.std.proofs.Common.{◌≡◌, ◌∷◌, false, refl, sym, subst}
use Rattle.op_parse_decl.specs.Form.{BeginsProcedural, Form, begins_procedure_type, begins_function_type, is_object, is_file}
use Rattle.op_parse_decl.specs.Opening.{begins_denoter}
use Rattle.op_scan.specs.declared.token.TokenKind.{TokenKind}
use Rattle.op_tree.specs.Terminal.{◌at◌}
use Rattle.op_parse_decl.proofs.opening.denoter_opening.Goals as goal

pub returns-in-Procedure : goal.returns-in-Procedure
returns-in-Procedure c = subst BeginsProcedural (sym c.in-Procedure.is) begins_procedure_type

pub returns-in-Function : goal.returns-in-Function
returns-in-Function c = subst BeginsProcedural (sym c.in-Function.is) begins_function_type

pub returns-in-Object : goal.returns-in-Object
returns-in-Object c = (subst (λ (z : TokenKind). begins_denoter z ≡ false) (sym c.in-Object.is) refl, λ p r. subst (λ z. Form 8 (z at p ∷ r) (z at p ∷ r) (z at p ∷ r)) (sym c.in-Object.is) is_object)

pub returns-in-File : goal.returns-in-File
returns-in-File c = (subst (λ (z : TokenKind). begins_denoter z ≡ false) (sym c.in-File.is) refl, λ p r. subst (λ z. Form 11 (z at p ∷ r) (z at p ∷ r) (z at p ∷ r)) (sym c.in-File.is) is_file)
