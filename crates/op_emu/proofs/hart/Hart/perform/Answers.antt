use Rattle.std.proofs.Common.{◌∙◌, ap, sym, rules, FitsSigned}
use Rattle.std.specs.Int.{w32}
use Rattle.std.proofs.lemmas.Int.{to_z-of_z}
use Rattle.op_rv.specs.declared.instruction.Instr.TheVariants.{Jal, Jalr, Branch, Load, Store, Imm}
use Rattle.op_rv.specs.Step.{act}
use Rattle.op_rv.specs.Environment.{environment_call}
use Rattle.op_emu.proofs.ActsLemmas.{StepIs-same, StepIs-act, act-Ecall}
use Rattle.op_emu.proofs.hart.Hart.perform.Goals as goal

pub returns-in-Lui-clause-acts : goal.returns-in-Lui-clause-acts
returns-in-Lui-clause-acts g c =
    StepIs-act c.args.i _ c.lui.result c.args.self.now c.lui.new.self _ _ _ _ c.in-Lui.is c.lui.ensures

pub returns-in-Auipc-clause-acts : goal.returns-in-Auipc-clause-acts
returns-in-Auipc-clause-acts g c =
    StepIs-act c.args.i _ c.auipc.result c.args.self.now c.auipc.new.self _ _ _ _ c.in-Auipc.is c.auipc.ensures

pub returns-in-Jal-clause-acts : goal.returns-in-Jal-clause-acts
returns-in-Jal-clause-acts g c =
    let fit : FitsSigned w32 c.in-Jal.offset = search rules in
    let is = c.in-Jal.is ∙ ap (λ offset. Jal c.in-Jal.rd offset) (sym (to_z-of_z w32 c.in-Jal.offset fit)) in
    StepIs-act c.args.i _ c.jal.result c.args.self.now c.jal.new.self _ _ _ _ is c.jal.ensures

pub returns-in-Jalr-clause-acts : goal.returns-in-Jalr-clause-acts
returns-in-Jalr-clause-acts g c =
    let fit : FitsSigned w32 c.in-Jalr.offset = search rules in
    let is = c.in-Jalr.is ∙ ap (λ offset. Jalr c.in-Jalr.rd c.in-Jalr.rs1 offset) (sym (to_z-of_z w32 c.in-Jalr.offset fit)) in
    StepIs-act c.args.i _ c.jalr.result c.args.self.now c.jalr.new.self _ _ _ _ is c.jalr.ensures

pub returns-in-Branch-clause-acts : goal.returns-in-Branch-clause-acts
returns-in-Branch-clause-acts g c =
    let fit : FitsSigned w32 c.in-Branch.offset = search rules in
    let is = c.in-Branch.is ∙ ap (λ offset. Branch c.in-Branch.op c.in-Branch.rs1 c.in-Branch.rs2 offset) (sym (to_z-of_z w32 c.in-Branch.offset fit)) in
    StepIs-act c.args.i _ c.branch_on.result c.args.self.now c.branch_on.new.self _ _ _ _ is c.branch_on.ensures

pub returns-in-Load-clause-acts : goal.returns-in-Load-clause-acts
returns-in-Load-clause-acts g c =
    let fit : FitsSigned w32 c.in-Load.offset = search rules in
    let is = c.in-Load.is ∙ ap (λ offset. Load c.in-Load.op c.in-Load.rd c.in-Load.rs1 offset) (sym (to_z-of_z w32 c.in-Load.offset fit)) in
    StepIs-act c.args.i _ c.load.result c.args.self.now c.load.new.self _ _ _ _ is c.load.ensures

pub returns-in-Store-clause-acts : goal.returns-in-Store-clause-acts
returns-in-Store-clause-acts g c =
    let fit : FitsSigned w32 c.in-Store.offset = search rules in
    let is = c.in-Store.is ∙ ap (λ offset. Store c.in-Store.op c.in-Store.rs1 c.in-Store.rs2 offset) (sym (to_z-of_z w32 c.in-Store.offset fit)) in
    StepIs-act c.args.i _ c.store.result c.args.self.now c.store.new.self _ _ _ _ is c.store.ensures

pub returns-in-Imm-clause-acts : goal.returns-in-Imm-clause-acts
returns-in-Imm-clause-acts g c =
    let fit : FitsSigned w32 c.in-Imm.imm = search rules in
    let is = c.in-Imm.is ∙ ap (λ imm. Imm c.in-Imm.op c.in-Imm.rd c.in-Imm.rs1 imm) (sym (to_z-of_z w32 c.in-Imm.imm fit)) in
    StepIs-act c.args.i _ c.imm.result c.args.self.now c.imm.new.self _ _ _ _ is c.imm.ensures

pub returns-in-Shift-clause-acts : goal.returns-in-Shift-clause-acts
returns-in-Shift-clause-acts g c =
    StepIs-act c.args.i _ c.shift.result c.args.self.now c.shift.new.self _ _ _ _ c.in-Shift.is c.shift.ensures

pub returns-in-Alu-clause-acts : goal.returns-in-Alu-clause-acts
returns-in-Alu-clause-acts g c =
    StepIs-act c.args.i _ c.alu.result c.args.self.now c.alu.new.self _ _ _ _ c.in-Alu.is c.alu.ensures

pub returns-in-Fence-clause-acts : goal.returns-in-Fence-clause-acts
returns-in-Fence-clause-acts g c =
    StepIs-act c.args.i _ c.fence.result c.args.self.now c.fence.new.self _ _ _ _ c.in-Fence.is c.fence.ensures

pub returns-in-Ecall-clause-acts : goal.returns-in-Ecall-clause-acts
returns-in-Ecall-clause-acts g c =
    StepIs-same environment_call (act c.args.i) c.call.result c.args.self.now c.call.new.self _ _ (λ x o e. act-Ecall _ _ c.in-Ecall.is) c.call.ensures.acts

pub returns-in-Ebreak-clause-acts : goal.returns-in-Ebreak-clause-acts
returns-in-Ebreak-clause-acts g c =
    StepIs-act c.args.i _ c.ebreak.result c.args.self.now c.args.self.now _ _ _ _ c.in-Ebreak.is c.ebreak.ensures
