use Rattle.std.proofs.Common.{◌+◌, ◌*◌, ◌∙◌, ap, sym, subst, rules, refl, FitsSigned}
use Rattle.std.specs.Int.{w32}
use Rattle.std.proofs.lemmas.Int.{to_z-of_z}
use Rattle.op_emu.specs.Quick.{RowGoes}
use Rattle.op_emu.specs.Segments.{regions_of}
use Rattle.op_emu.specs.declared.quick.Next.TheVariants.{On}
use Rattle.op_emu.specs.declared.row.Row.TheVariants.{Jal, Jalr, Beq, Bne, Blt, Bge, Bltu, Bgeu, Lb, Lh, Lw, Lbu, Lhu, Sb, Sh, Sw, Addi, Slti, Sltiu, Xori, Ori, Andi}
use Rattle.op_emu.proofs.quick.quick.Goals as goal

pub returns-in-Other : goal.returns-in-Other
returns-in-Other c =
    let words = c.args.registers.now.words in
    let rs = regions_of c.args.segments.now in
    record {
      goes = subst (λ row. RowGoes row c.args.base c.args.many c.args.k words rs _ words rs) (sym c.in-Other.is) (refl, refl, refl);
      apart = c.requires.apart;
      decoded = λ start rows is. is;
    }

pub returns-in-Lui : goal.returns-in-Lui
returns-in-Lui c =
    let words = c.args.registers.now.words in
    let rs = regions_of c.args.segments.now in
    record {
      goes = subst (λ row. RowGoes row c.args.base c.args.many c.args.k words rs On c.lui.new.self.words rs) (sym c.in-Lui.is) (c.lui.ensures (c.args.base + 4 * c.args.k) rs);
      apart = c.requires.apart;
      decoded = λ start rows is. is;
    }

pub returns-in-Auipc : goal.returns-in-Auipc
returns-in-Auipc c =
    let words = c.args.registers.now.words in
    let rs = regions_of c.args.segments.now in
    record {
      goes = subst (λ row. RowGoes row c.args.base c.args.many c.args.k words rs On c.auipc.new.self.words rs) (sym c.in-Auipc.is) (c.auipc.ensures rs);
      apart = c.requires.apart;
      decoded = λ start rows is. is;
    }

pub returns-in-Jal : goal.returns-in-Jal
returns-in-Jal c =
    let words = c.args.registers.now.words in
    let rs = regions_of c.args.segments.now in
    let fit : FitsSigned w32 c.in-Jal.offset = search rules in
    let is = c.in-Jal.is ∙ ap (λ offset. Jal c.in-Jal.rd offset) (sym (to_z-of_z w32 c.in-Jal.offset fit)) in
    record {
      goes = subst (λ row. RowGoes row c.args.base c.args.many c.args.k words rs c.jal.result c.jal.new.self.words rs) (sym is) (c.jal.ensures rs);
      apart = c.requires.apart;
      decoded = λ start rows is. is;
    }

pub returns-in-Jalr : goal.returns-in-Jalr
returns-in-Jalr c =
    let words = c.args.registers.now.words in
    let rs = regions_of c.args.segments.now in
    let fit : FitsSigned w32 c.in-Jalr.offset = search rules in
    let is = c.in-Jalr.is ∙ ap (λ offset. Jalr c.in-Jalr.rd c.in-Jalr.rs1 offset) (sym (to_z-of_z w32 c.in-Jalr.offset fit)) in
    record {
      goes = subst (λ row. RowGoes row c.args.base c.args.many c.args.k words rs c.jalr.result c.jalr.new.self.words rs) (sym is) (c.jalr.ensures rs);
      apart = c.requires.apart;
      decoded = λ start rows is. is;
    }

pub returns-in-Beq : goal.returns-in-Beq
returns-in-Beq c =
    let words = c.args.registers.now.words in
    let rs = regions_of c.args.segments.now in
    let fit : FitsSigned w32 c.in-Beq.offset = search rules in
    let is = c.in-Beq.is ∙ ap (λ offset. Beq c.in-Beq.rs1 c.in-Beq.rs2 offset) (sym (to_z-of_z w32 c.in-Beq.offset fit)) in
    record {
      goes = subst (λ row. RowGoes row c.args.base c.args.many c.args.k words rs c.branch_on.result words rs) (sym is) (c.branch_on.ensures rs);
      apart = c.requires.apart;
      decoded = λ start rows is. is;
    }

pub returns-in-Bne : goal.returns-in-Bne
returns-in-Bne c =
    let words = c.args.registers.now.words in
    let rs = regions_of c.args.segments.now in
    let fit : FitsSigned w32 c.in-Bne.offset = search rules in
    let is = c.in-Bne.is ∙ ap (λ offset. Bne c.in-Bne.rs1 c.in-Bne.rs2 offset) (sym (to_z-of_z w32 c.in-Bne.offset fit)) in
    record {
      goes = subst (λ row. RowGoes row c.args.base c.args.many c.args.k words rs c.branch_on-in-Bne.result words rs) (sym is) (c.branch_on-in-Bne.ensures rs);
      apart = c.requires.apart;
      decoded = λ start rows is. is;
    }

pub returns-in-Blt : goal.returns-in-Blt
returns-in-Blt c =
    let words = c.args.registers.now.words in
    let rs = regions_of c.args.segments.now in
    let fit : FitsSigned w32 c.in-Blt.offset = search rules in
    let is = c.in-Blt.is ∙ ap (λ offset. Blt c.in-Blt.rs1 c.in-Blt.rs2 offset) (sym (to_z-of_z w32 c.in-Blt.offset fit)) in
    record {
      goes = subst (λ row. RowGoes row c.args.base c.args.many c.args.k words rs c.branch_on-in-Blt.result words rs) (sym is) (c.branch_on-in-Blt.ensures rs);
      apart = c.requires.apart;
      decoded = λ start rows is. is;
    }

pub returns-in-Bge : goal.returns-in-Bge
returns-in-Bge c =
    let words = c.args.registers.now.words in
    let rs = regions_of c.args.segments.now in
    let fit : FitsSigned w32 c.in-Bge.offset = search rules in
    let is = c.in-Bge.is ∙ ap (λ offset. Bge c.in-Bge.rs1 c.in-Bge.rs2 offset) (sym (to_z-of_z w32 c.in-Bge.offset fit)) in
    record {
      goes = subst (λ row. RowGoes row c.args.base c.args.many c.args.k words rs c.branch_on-in-Bge.result words rs) (sym is) (c.branch_on-in-Bge.ensures rs);
      apart = c.requires.apart;
      decoded = λ start rows is. is;
    }

pub returns-in-Bltu : goal.returns-in-Bltu
returns-in-Bltu c =
    let words = c.args.registers.now.words in
    let rs = regions_of c.args.segments.now in
    let fit : FitsSigned w32 c.in-Bltu.offset = search rules in
    let is = c.in-Bltu.is ∙ ap (λ offset. Bltu c.in-Bltu.rs1 c.in-Bltu.rs2 offset) (sym (to_z-of_z w32 c.in-Bltu.offset fit)) in
    record {
      goes = subst (λ row. RowGoes row c.args.base c.args.many c.args.k words rs c.branch_on-in-Bltu.result words rs) (sym is) (c.branch_on-in-Bltu.ensures rs);
      apart = c.requires.apart;
      decoded = λ start rows is. is;
    }

pub returns-in-Bgeu : goal.returns-in-Bgeu
returns-in-Bgeu c =
    let words = c.args.registers.now.words in
    let rs = regions_of c.args.segments.now in
    let fit : FitsSigned w32 c.in-Bgeu.offset = search rules in
    let is = c.in-Bgeu.is ∙ ap (λ offset. Bgeu c.in-Bgeu.rs1 c.in-Bgeu.rs2 offset) (sym (to_z-of_z w32 c.in-Bgeu.offset fit)) in
    record {
      goes = subst (λ row. RowGoes row c.args.base c.args.many c.args.k words rs c.branch_on-in-Bgeu.result words rs) (sym is) (c.branch_on-in-Bgeu.ensures rs);
      apart = c.requires.apart;
      decoded = λ start rows is. is;
    }

pub returns-in-Lb : goal.returns-in-Lb
returns-in-Lb c =
    let words = c.args.registers.now.words in
    let rs = regions_of c.args.segments.now in
    let fit : FitsSigned w32 c.in-Lb.offset = search rules in
    let is = c.in-Lb.is ∙ ap (λ offset. Lb c.in-Lb.rd c.in-Lb.rs1 offset) (sym (to_z-of_z w32 c.in-Lb.offset fit)) in
    record {
      goes = subst (λ row. RowGoes row c.args.base c.args.many c.args.k words rs c.load.result c.load.new.self.words rs) (sym is) (c.load.ensures c.args.base c.args.many c.args.k);
      apart = c.requires.apart;
      decoded = λ start rows is. is;
    }

pub returns-in-Lh : goal.returns-in-Lh
returns-in-Lh c =
    let words = c.args.registers.now.words in
    let rs = regions_of c.args.segments.now in
    let fit : FitsSigned w32 c.in-Lh.offset = search rules in
    let is = c.in-Lh.is ∙ ap (λ offset. Lh c.in-Lh.rd c.in-Lh.rs1 offset) (sym (to_z-of_z w32 c.in-Lh.offset fit)) in
    record {
      goes = subst (λ row. RowGoes row c.args.base c.args.many c.args.k words rs c.load-in-Lh.result c.load-in-Lh.new.self.words rs) (sym is) (c.load-in-Lh.ensures c.args.base c.args.many c.args.k);
      apart = c.requires.apart;
      decoded = λ start rows is. is;
    }

pub returns-in-Lw : goal.returns-in-Lw
returns-in-Lw c =
    let words = c.args.registers.now.words in
    let rs = regions_of c.args.segments.now in
    let fit : FitsSigned w32 c.in-Lw.offset = search rules in
    let is = c.in-Lw.is ∙ ap (λ offset. Lw c.in-Lw.rd c.in-Lw.rs1 offset) (sym (to_z-of_z w32 c.in-Lw.offset fit)) in
    record {
      goes = subst (λ row. RowGoes row c.args.base c.args.many c.args.k words rs c.load-in-Lw.result c.load-in-Lw.new.self.words rs) (sym is) (c.load-in-Lw.ensures c.args.base c.args.many c.args.k);
      apart = c.requires.apart;
      decoded = λ start rows is. is;
    }

pub returns-in-Lbu : goal.returns-in-Lbu
returns-in-Lbu c =
    let words = c.args.registers.now.words in
    let rs = regions_of c.args.segments.now in
    let fit : FitsSigned w32 c.in-Lbu.offset = search rules in
    let is = c.in-Lbu.is ∙ ap (λ offset. Lbu c.in-Lbu.rd c.in-Lbu.rs1 offset) (sym (to_z-of_z w32 c.in-Lbu.offset fit)) in
    record {
      goes = subst (λ row. RowGoes row c.args.base c.args.many c.args.k words rs c.load-in-Lbu.result c.load-in-Lbu.new.self.words rs) (sym is) (c.load-in-Lbu.ensures c.args.base c.args.many c.args.k);
      apart = c.requires.apart;
      decoded = λ start rows is. is;
    }

pub returns-in-Lhu : goal.returns-in-Lhu
returns-in-Lhu c =
    let words = c.args.registers.now.words in
    let rs = regions_of c.args.segments.now in
    let fit : FitsSigned w32 c.in-Lhu.offset = search rules in
    let is = c.in-Lhu.is ∙ ap (λ offset. Lhu c.in-Lhu.rd c.in-Lhu.rs1 offset) (sym (to_z-of_z w32 c.in-Lhu.offset fit)) in
    record {
      goes = subst (λ row. RowGoes row c.args.base c.args.many c.args.k words rs c.load-in-Lhu.result c.load-in-Lhu.new.self.words rs) (sym is) (c.load-in-Lhu.ensures c.args.base c.args.many c.args.k);
      apart = c.requires.apart;
      decoded = λ start rows is. is;
    }

pub returns-in-Sb : goal.returns-in-Sb
returns-in-Sb c =
    let words = c.args.registers.now.words in
    let rs = regions_of c.args.segments.now in
    let fit : FitsSigned w32 c.in-Sb.offset = search rules in
    let is = c.in-Sb.is ∙ ap (λ offset. Sb c.in-Sb.rs1 c.in-Sb.rs2 offset) (sym (to_z-of_z w32 c.in-Sb.offset fit)) in
    record {
      goes = subst (λ row. RowGoes row c.args.base c.args.many c.args.k words rs c.store.result words (regions_of c.store.new.segments)) (sym is) (c.store.ensures.next c.args.base c.args.many c.args.k);
      apart = c.store.ensures.apart;
      decoded = c.store.ensures.decoded;
    }

pub returns-in-Sh : goal.returns-in-Sh
returns-in-Sh c =
    let words = c.args.registers.now.words in
    let rs = regions_of c.args.segments.now in
    let fit : FitsSigned w32 c.in-Sh.offset = search rules in
    let is = c.in-Sh.is ∙ ap (λ offset. Sh c.in-Sh.rs1 c.in-Sh.rs2 offset) (sym (to_z-of_z w32 c.in-Sh.offset fit)) in
    record {
      goes = subst (λ row. RowGoes row c.args.base c.args.many c.args.k words rs c.store-in-Sh.result words (regions_of c.store-in-Sh.new.segments)) (sym is) (c.store-in-Sh.ensures.next c.args.base c.args.many c.args.k);
      apart = c.store-in-Sh.ensures.apart;
      decoded = c.store-in-Sh.ensures.decoded;
    }

pub returns-in-Sw : goal.returns-in-Sw
returns-in-Sw c =
    let words = c.args.registers.now.words in
    let rs = regions_of c.args.segments.now in
    let fit : FitsSigned w32 c.in-Sw.offset = search rules in
    let is = c.in-Sw.is ∙ ap (λ offset. Sw c.in-Sw.rs1 c.in-Sw.rs2 offset) (sym (to_z-of_z w32 c.in-Sw.offset fit)) in
    record {
      goes = subst (λ row. RowGoes row c.args.base c.args.many c.args.k words rs c.store-in-Sw.result words (regions_of c.store-in-Sw.new.segments)) (sym is) (c.store-in-Sw.ensures.next c.args.base c.args.many c.args.k);
      apart = c.store-in-Sw.ensures.apart;
      decoded = c.store-in-Sw.ensures.decoded;
    }

pub returns-in-Addi : goal.returns-in-Addi
returns-in-Addi c =
    let words = c.args.registers.now.words in
    let rs = regions_of c.args.segments.now in
    let fit : FitsSigned w32 c.in-Addi.imm = search rules in
    let is = c.in-Addi.is ∙ ap (λ imm. Addi c.in-Addi.rd c.in-Addi.rs1 imm) (sym (to_z-of_z w32 c.in-Addi.imm fit)) in
    record {
      goes = subst (λ row. RowGoes row c.args.base c.args.many c.args.k words rs On c.imm.new.self.words rs) (sym is) (c.imm.ensures (c.args.base + 4 * c.args.k) rs);
      apart = c.requires.apart;
      decoded = λ start rows is. is;
    }

pub returns-in-Slti : goal.returns-in-Slti
returns-in-Slti c =
    let words = c.args.registers.now.words in
    let rs = regions_of c.args.segments.now in
    let fit : FitsSigned w32 c.in-Slti.imm = search rules in
    let is = c.in-Slti.is ∙ ap (λ imm. Slti c.in-Slti.rd c.in-Slti.rs1 imm) (sym (to_z-of_z w32 c.in-Slti.imm fit)) in
    record {
      goes = subst (λ row. RowGoes row c.args.base c.args.many c.args.k words rs On c.imm-in-Slti.new.self.words rs) (sym is) (c.imm-in-Slti.ensures (c.args.base + 4 * c.args.k) rs);
      apart = c.requires.apart;
      decoded = λ start rows is. is;
    }

pub returns-in-Sltiu : goal.returns-in-Sltiu
returns-in-Sltiu c =
    let words = c.args.registers.now.words in
    let rs = regions_of c.args.segments.now in
    let fit : FitsSigned w32 c.in-Sltiu.imm = search rules in
    let is = c.in-Sltiu.is ∙ ap (λ imm. Sltiu c.in-Sltiu.rd c.in-Sltiu.rs1 imm) (sym (to_z-of_z w32 c.in-Sltiu.imm fit)) in
    record {
      goes = subst (λ row. RowGoes row c.args.base c.args.many c.args.k words rs On c.imm-in-Sltiu.new.self.words rs) (sym is) (c.imm-in-Sltiu.ensures (c.args.base + 4 * c.args.k) rs);
      apart = c.requires.apart;
      decoded = λ start rows is. is;
    }

pub returns-in-Xori : goal.returns-in-Xori
returns-in-Xori c =
    let words = c.args.registers.now.words in
    let rs = regions_of c.args.segments.now in
    let fit : FitsSigned w32 c.in-Xori.imm = search rules in
    let is = c.in-Xori.is ∙ ap (λ imm. Xori c.in-Xori.rd c.in-Xori.rs1 imm) (sym (to_z-of_z w32 c.in-Xori.imm fit)) in
    record {
      goes = subst (λ row. RowGoes row c.args.base c.args.many c.args.k words rs On c.imm-in-Xori.new.self.words rs) (sym is) (c.imm-in-Xori.ensures (c.args.base + 4 * c.args.k) rs);
      apart = c.requires.apart;
      decoded = λ start rows is. is;
    }

pub returns-in-Ori : goal.returns-in-Ori
returns-in-Ori c =
    let words = c.args.registers.now.words in
    let rs = regions_of c.args.segments.now in
    let fit : FitsSigned w32 c.in-Ori.imm = search rules in
    let is = c.in-Ori.is ∙ ap (λ imm. Ori c.in-Ori.rd c.in-Ori.rs1 imm) (sym (to_z-of_z w32 c.in-Ori.imm fit)) in
    record {
      goes = subst (λ row. RowGoes row c.args.base c.args.many c.args.k words rs On c.imm-in-Ori.new.self.words rs) (sym is) (c.imm-in-Ori.ensures (c.args.base + 4 * c.args.k) rs);
      apart = c.requires.apart;
      decoded = λ start rows is. is;
    }

pub returns-in-Andi : goal.returns-in-Andi
returns-in-Andi c =
    let words = c.args.registers.now.words in
    let rs = regions_of c.args.segments.now in
    let fit : FitsSigned w32 c.in-Andi.imm = search rules in
    let is = c.in-Andi.is ∙ ap (λ imm. Andi c.in-Andi.rd c.in-Andi.rs1 imm) (sym (to_z-of_z w32 c.in-Andi.imm fit)) in
    record {
      goes = subst (λ row. RowGoes row c.args.base c.args.many c.args.k words rs On c.imm-in-Andi.new.self.words rs) (sym is) (c.imm-in-Andi.ensures (c.args.base + 4 * c.args.k) rs);
      apart = c.requires.apart;
      decoded = λ start rows is. is;
    }

pub returns-in-Slli : goal.returns-in-Slli
returns-in-Slli c =
    let words = c.args.registers.now.words in
    let rs = regions_of c.args.segments.now in
    record {
      goes = subst (λ row. RowGoes row c.args.base c.args.many c.args.k words rs On c.shift.new.self.words rs) (sym c.in-Slli.is) (c.shift.ensures (c.args.base + 4 * c.args.k) rs);
      apart = c.requires.apart;
      decoded = λ start rows is. is;
    }

pub returns-in-Srli : goal.returns-in-Srli
returns-in-Srli c =
    let words = c.args.registers.now.words in
    let rs = regions_of c.args.segments.now in
    record {
      goes = subst (λ row. RowGoes row c.args.base c.args.many c.args.k words rs On c.shift-in-Srli.new.self.words rs) (sym c.in-Srli.is) (c.shift-in-Srli.ensures (c.args.base + 4 * c.args.k) rs);
      apart = c.requires.apart;
      decoded = λ start rows is. is;
    }

pub returns-in-Srai : goal.returns-in-Srai
returns-in-Srai c =
    let words = c.args.registers.now.words in
    let rs = regions_of c.args.segments.now in
    record {
      goes = subst (λ row. RowGoes row c.args.base c.args.many c.args.k words rs On c.shift-in-Srai.new.self.words rs) (sym c.in-Srai.is) (c.shift-in-Srai.ensures (c.args.base + 4 * c.args.k) rs);
      apart = c.requires.apart;
      decoded = λ start rows is. is;
    }

pub returns-in-Add : goal.returns-in-Add
returns-in-Add c =
    let words = c.args.registers.now.words in
    let rs = regions_of c.args.segments.now in
    record {
      goes = subst (λ row. RowGoes row c.args.base c.args.many c.args.k words rs On c.alu.new.self.words rs) (sym c.in-Add.is) (c.alu.ensures (c.args.base + 4 * c.args.k) rs);
      apart = c.requires.apart;
      decoded = λ start rows is. is;
    }

pub returns-in-Sub : goal.returns-in-Sub
returns-in-Sub c =
    let words = c.args.registers.now.words in
    let rs = regions_of c.args.segments.now in
    record {
      goes = subst (λ row. RowGoes row c.args.base c.args.many c.args.k words rs On c.alu-in-Sub.new.self.words rs) (sym c.in-Sub.is) (c.alu-in-Sub.ensures (c.args.base + 4 * c.args.k) rs);
      apart = c.requires.apart;
      decoded = λ start rows is. is;
    }

pub returns-in-Sll : goal.returns-in-Sll
returns-in-Sll c =
    let words = c.args.registers.now.words in
    let rs = regions_of c.args.segments.now in
    record {
      goes = subst (λ row. RowGoes row c.args.base c.args.many c.args.k words rs On c.alu-in-Sll.new.self.words rs) (sym c.in-Sll.is) (c.alu-in-Sll.ensures (c.args.base + 4 * c.args.k) rs);
      apart = c.requires.apart;
      decoded = λ start rows is. is;
    }

pub returns-in-Slt : goal.returns-in-Slt
returns-in-Slt c =
    let words = c.args.registers.now.words in
    let rs = regions_of c.args.segments.now in
    record {
      goes = subst (λ row. RowGoes row c.args.base c.args.many c.args.k words rs On c.alu-in-Slt.new.self.words rs) (sym c.in-Slt.is) (c.alu-in-Slt.ensures (c.args.base + 4 * c.args.k) rs);
      apart = c.requires.apart;
      decoded = λ start rows is. is;
    }

pub returns-in-Sltu : goal.returns-in-Sltu
returns-in-Sltu c =
    let words = c.args.registers.now.words in
    let rs = regions_of c.args.segments.now in
    record {
      goes = subst (λ row. RowGoes row c.args.base c.args.many c.args.k words rs On c.alu-in-Sltu.new.self.words rs) (sym c.in-Sltu.is) (c.alu-in-Sltu.ensures (c.args.base + 4 * c.args.k) rs);
      apart = c.requires.apart;
      decoded = λ start rows is. is;
    }

pub returns-in-Xor : goal.returns-in-Xor
returns-in-Xor c =
    let words = c.args.registers.now.words in
    let rs = regions_of c.args.segments.now in
    record {
      goes = subst (λ row. RowGoes row c.args.base c.args.many c.args.k words rs On c.alu-in-Xor.new.self.words rs) (sym c.in-Xor.is) (c.alu-in-Xor.ensures (c.args.base + 4 * c.args.k) rs);
      apart = c.requires.apart;
      decoded = λ start rows is. is;
    }

pub returns-in-Srl : goal.returns-in-Srl
returns-in-Srl c =
    let words = c.args.registers.now.words in
    let rs = regions_of c.args.segments.now in
    record {
      goes = subst (λ row. RowGoes row c.args.base c.args.many c.args.k words rs On c.alu-in-Srl.new.self.words rs) (sym c.in-Srl.is) (c.alu-in-Srl.ensures (c.args.base + 4 * c.args.k) rs);
      apart = c.requires.apart;
      decoded = λ start rows is. is;
    }

pub returns-in-Sra : goal.returns-in-Sra
returns-in-Sra c =
    let words = c.args.registers.now.words in
    let rs = regions_of c.args.segments.now in
    record {
      goes = subst (λ row. RowGoes row c.args.base c.args.many c.args.k words rs On c.alu-in-Sra.new.self.words rs) (sym c.in-Sra.is) (c.alu-in-Sra.ensures (c.args.base + 4 * c.args.k) rs);
      apart = c.requires.apart;
      decoded = λ start rows is. is;
    }

pub returns-in-Or : goal.returns-in-Or
returns-in-Or c =
    let words = c.args.registers.now.words in
    let rs = regions_of c.args.segments.now in
    record {
      goes = subst (λ row. RowGoes row c.args.base c.args.many c.args.k words rs On c.alu-in-Or.new.self.words rs) (sym c.in-Or.is) (c.alu-in-Or.ensures (c.args.base + 4 * c.args.k) rs);
      apart = c.requires.apart;
      decoded = λ start rows is. is;
    }

pub returns-in-And : goal.returns-in-And
returns-in-And c =
    let words = c.args.registers.now.words in
    let rs = regions_of c.args.segments.now in
    record {
      goes = subst (λ row. RowGoes row c.args.base c.args.many c.args.k words rs On c.alu-in-And.new.self.words rs) (sym c.in-And.is) (c.alu-in-And.ensures (c.args.base + 4 * c.args.k) rs);
      apart = c.requires.apart;
      decoded = λ start rows is. is;
    }

pub returns-in-Mul : goal.returns-in-Mul
returns-in-Mul c =
    let words = c.args.registers.now.words in
    let rs = regions_of c.args.segments.now in
    record {
      goes = subst (λ row. RowGoes row c.args.base c.args.many c.args.k words rs On c.alu-in-Mul.new.self.words rs) (sym c.in-Mul.is) (c.alu-in-Mul.ensures (c.args.base + 4 * c.args.k) rs);
      apart = c.requires.apart;
      decoded = λ start rows is. is;
    }

pub returns-in-Mulh : goal.returns-in-Mulh
returns-in-Mulh c =
    let words = c.args.registers.now.words in
    let rs = regions_of c.args.segments.now in
    record {
      goes = subst (λ row. RowGoes row c.args.base c.args.many c.args.k words rs On c.alu-in-Mulh.new.self.words rs) (sym c.in-Mulh.is) (c.alu-in-Mulh.ensures (c.args.base + 4 * c.args.k) rs);
      apart = c.requires.apart;
      decoded = λ start rows is. is;
    }

pub returns-in-Mulhsu : goal.returns-in-Mulhsu
returns-in-Mulhsu c =
    let words = c.args.registers.now.words in
    let rs = regions_of c.args.segments.now in
    record {
      goes = subst (λ row. RowGoes row c.args.base c.args.many c.args.k words rs On c.alu-in-Mulhsu.new.self.words rs) (sym c.in-Mulhsu.is) (c.alu-in-Mulhsu.ensures (c.args.base + 4 * c.args.k) rs);
      apart = c.requires.apart;
      decoded = λ start rows is. is;
    }

pub returns-in-Mulhu : goal.returns-in-Mulhu
returns-in-Mulhu c =
    let words = c.args.registers.now.words in
    let rs = regions_of c.args.segments.now in
    record {
      goes = subst (λ row. RowGoes row c.args.base c.args.many c.args.k words rs On c.alu-in-Mulhu.new.self.words rs) (sym c.in-Mulhu.is) (c.alu-in-Mulhu.ensures (c.args.base + 4 * c.args.k) rs);
      apart = c.requires.apart;
      decoded = λ start rows is. is;
    }

pub returns-in-Div : goal.returns-in-Div
returns-in-Div c =
    let words = c.args.registers.now.words in
    let rs = regions_of c.args.segments.now in
    record {
      goes = subst (λ row. RowGoes row c.args.base c.args.many c.args.k words rs On c.alu-in-Div.new.self.words rs) (sym c.in-Div.is) (c.alu-in-Div.ensures (c.args.base + 4 * c.args.k) rs);
      apart = c.requires.apart;
      decoded = λ start rows is. is;
    }

pub returns-in-Divu : goal.returns-in-Divu
returns-in-Divu c =
    let words = c.args.registers.now.words in
    let rs = regions_of c.args.segments.now in
    record {
      goes = subst (λ row. RowGoes row c.args.base c.args.many c.args.k words rs On c.alu-in-Divu.new.self.words rs) (sym c.in-Divu.is) (c.alu-in-Divu.ensures (c.args.base + 4 * c.args.k) rs);
      apart = c.requires.apart;
      decoded = λ start rows is. is;
    }

pub returns-in-Rem : goal.returns-in-Rem
returns-in-Rem c =
    let words = c.args.registers.now.words in
    let rs = regions_of c.args.segments.now in
    record {
      goes = subst (λ row. RowGoes row c.args.base c.args.many c.args.k words rs On c.alu-in-Rem.new.self.words rs) (sym c.in-Rem.is) (c.alu-in-Rem.ensures (c.args.base + 4 * c.args.k) rs);
      apart = c.requires.apart;
      decoded = λ start rows is. is;
    }

pub returns-in-Remu : goal.returns-in-Remu
returns-in-Remu c =
    let words = c.args.registers.now.words in
    let rs = regions_of c.args.segments.now in
    record {
      goes = subst (λ row. RowGoes row c.args.base c.args.many c.args.k words rs On c.alu-in-Remu.new.self.words rs) (sym c.in-Remu.is) (c.alu-in-Remu.ensures (c.args.base + 4 * c.args.k) rs);
      apart = c.requires.apart;
      decoded = λ start rows is. is;
    }

pub returns-in-Fence : goal.returns-in-Fence
returns-in-Fence c =
    let words = c.args.registers.now.words in
    let rs = regions_of c.args.segments.now in
    record {
      goes = subst (λ row. RowGoes row c.args.base c.args.many c.args.k words rs On words rs) (sym c.in-Fence.is) (c.fence.ensures (c.args.base + 4 * c.args.k) rs);
      apart = c.requires.apart;
      decoded = λ start rows is. is;
    }
