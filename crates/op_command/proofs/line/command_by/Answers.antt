use Rattle.std.proofs.Common.{Some, None, ap, option_map, refl, ◌∙◌, codes}
use Rattle.clap.specs.Matches.{found_of}
use Rattle.clap.specs.Walk.{rows_of}
use Rattle.op_command.proofs.Telling.{asks_with, number_found, text_found}
use Rattle.op_command.specs.Command.{heap_range, stack_range, step_range}
use Rattle.op_command.specs.Reading.{asked_of}
use Rattle.op_command.proofs.line.command_by.Goals as goal

pub returns-in_err-operand : goal.returns-in_err-operand
returns-in_err-operand c =
    let found = found_of c.args.found.now in
    let operand = text_found found (codes "file") c.get_str.result c.get_str.ensures ∙ ap (option_map (λ s. s.now)) c.in_err-operand.was in
    ap (option_map asked_of) c.from_residual.ensures ∙ asks_with c.args.verb (rows_of found) None _ _ _ operand refl refl refl

pub returns-in_err-heap : goal.returns-in_err-heap
returns-in_err-heap c =
    let found = found_of c.args.found.now in
    let operand = text_found found (codes "file") c.get_str.result c.get_str.ensures ∙ ap (option_map (λ s. s.now)) c.in_ok-operand.was in
    let heap = number_found heap_range found (codes "heap") c.get_str-2.result c.kibibytes_or.result c.get_str-2.ensures c.kibibytes_or.ensures ∙ c.in_err-heap.was in
    ap (option_map asked_of) c.from_residual-in_err-heap.ensures ∙ asks_with c.args.verb (rows_of found) (Some c.in_ok-operand.operand.now) None _ _ operand heap refl refl

pub returns-in_err-stack : goal.returns-in_err-stack
returns-in_err-stack c =
    let found = found_of c.args.found.now in
    let operand = text_found found (codes "file") c.get_str.result c.get_str.ensures ∙ ap (option_map (λ s. s.now)) c.in_ok-operand.was in
    let heap = number_found heap_range found (codes "heap") c.get_str-2.result c.kibibytes_or.result c.get_str-2.ensures c.kibibytes_or.ensures ∙ c.in_ok-heap.was in
    let stack = number_found stack_range found (codes "stack") c.get_str-3.result c.kibibytes_or-2.result c.get_str-3.ensures c.kibibytes_or-2.ensures ∙ c.in_err-stack.was in
    ap (option_map asked_of) c.from_residual-in_err-stack.ensures ∙ asks_with c.args.verb (rows_of found) (Some c.in_ok-operand.operand.now) (Some c.in_ok-heap.heap) None _ operand heap stack refl

pub returns-in_err-steps : goal.returns-in_err-steps
returns-in_err-steps c =
    let found = found_of c.args.found.now in
    let operand = text_found found (codes "file") c.get_str.result c.get_str.ensures ∙ ap (option_map (λ s. s.now)) c.in_ok-operand.was in
    let heap = number_found heap_range found (codes "heap") c.get_str-2.result c.kibibytes_or.result c.get_str-2.ensures c.kibibytes_or.ensures ∙ c.in_ok-heap.was in
    let stack = number_found stack_range found (codes "stack") c.get_str-3.result c.kibibytes_or-2.result c.get_str-3.ensures c.kibibytes_or-2.ensures ∙ c.in_ok-stack.was in
    let steps = number_found step_range found (codes "steps") c.get_str-4.result c.number_or.result c.get_str-4.ensures c.number_or.ensures ∙ c.in_err-steps.was in
    ap (option_map asked_of) c.from_residual-in_err-steps.ensures ∙ asks_with c.args.verb (rows_of found) (Some c.in_ok-operand.operand.now) (Some c.in_ok-heap.heap) (Some c.in_ok-stack.stack) None operand heap stack steps

pub returns : goal.returns
returns c =
    let found = found_of c.args.found.now in
    let operand = text_found found (codes "file") c.get_str.result c.get_str.ensures ∙ ap (option_map (λ s. s.now)) c.in_ok-operand.was in
    let heap = number_found heap_range found (codes "heap") c.get_str-2.result c.kibibytes_or.result c.get_str-2.ensures c.kibibytes_or.ensures ∙ c.in_ok-heap.was in
    let stack = number_found stack_range found (codes "stack") c.get_str-3.result c.kibibytes_or-2.result c.get_str-3.ensures c.kibibytes_or-2.ensures ∙ c.in_ok-stack.was in
    let steps = number_found step_range found (codes "steps") c.get_str-4.result c.number_or.result c.get_str-4.ensures c.number_or.ensures ∙ c.in_ok-steps.was in
    asks_with c.args.verb (rows_of found) (Some c.in_ok-operand.operand.now) (Some c.in_ok-heap.heap) (Some c.in_ok-stack.stack) (Some c.in_ok-steps.steps) operand heap stack steps
