-- Whole files as values.
use Rattle.std.specs.Prelude.{List, Option}
use Rattle.std.specs.Option.{option_map}
use Rattle.op_tree.specs.Declaration.{Declarations, declarations_of}
use Rattle.op_tree.specs.Statement.{Statements, stmts_of}
use Rattle.op_tree.specs.declared.file.Program.{Program as RustProgram}
use Rattle.op_tree.specs.declared.file.ProgramHeading.{ProgramHeading}
use Rattle.op_tree.specs.declared.file.Tree.{Tree}
use Rattle.op_tree.specs.declared.file.Tree.TheVariants as tree
use Rattle.op_tree.specs.declared.file.Unit.{Unit as RustUnit}
use Rattle.op_tree.specs.declared.position.Name.{Name}
use Rattle.op_tree.specs.declared.position.Position.{Position}

-- the position is that of the first token
pub record Program : Type 0 where
  pub position : Position
  pub heading : Option ProgramHeading
  pub uses : List Name
  pub declarations : Declarations
  pub statements : Statements

-- what is read of a part of a unit: its uses and its declarations
pub record UnitPart : Type 0 where
  pub uses : List Name
  pub declarations : Declarations

-- what a unit does at the beginning and at the end, if anything
pub record Tail : Type 0 where
  pub initialization : Option Statements
  pub finalization : Option Statements

pub record UnitFile : Type 0 where
  pub position : Position
  pub name : Name
  pub interface : UnitPart
  pub implementation : UnitPart
  pub tail : Tail

pub data File : Type 0 where
  program : (program : Program) → File
  unit : (unit : UnitFile) → File

abbrev pub program_of : RustProgram → Program
program_of p = record {
  position = p.position;
  heading = p.heading;
  uses = p.uses;
  declarations = declarations_of p.declarations.items;
  statements = stmts_of p.statements.items;
}

abbrev pub unit_of : RustUnit → UnitFile
unit_of u = record {
  position = u.position;
  name = u.name;
  interface = record { uses = u.interface_uses; declarations = declarations_of u.interface_declarations.items };
  implementation = record { uses = u.uses; declarations = declarations_of u.declarations.items };
  tail = record {
    initialization = option_map (λ ss. stmts_of ss.items) u.initialization;
    finalization = option_map (λ ss. stmts_of ss.items) u.finalization;
  };
}

-- what a tree says, wherever it lies in memory
abbrev pub file_of : Tree → File
file_of (tree.Program p) = program (program_of p)
file_of (tree.Unit u) = unit (unit_of u)
