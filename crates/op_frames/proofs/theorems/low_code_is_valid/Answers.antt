use Rattle.op_frames.proofs.FramesNeeded.{frame_needed}
use Rattle.op_frames.proofs.FramesUnder.{frame_small}
use Rattle.op_frames.proofs.GlobalsUnder.{globals_fit}
use Rattle.op_frames.proofs.LowFine.{buildable, laid_out, valid}
use Rattle.op_frames.proofs.Lowered.{named_code}
use Rattle.op_frames.proofs.RegistersUnder.{registers_small}
use Rattle.op_frames.proofs.SoundSizes.{open_small, single_some, sizes_small}
use Rattle.op_frames.proofs.WholesUnder.{wholes_small}
use Rattle.op_frames.proofs.theorems.low_code_is_valid.Goals as goal

pub returns : goal.returns
returns c = record {
  valid = valid;
  laid_out = laid_out;
  buildable = buildable;
  globals = globals_fit;
  made = named_code;
  registers = registers_small;
  frames = frame_small;
  wholes = wholes_small;
  sizes = λ core sound. record { small = sizes_small core sound; single = single_some core sound.extents; open_ = open_small core sound.extents };
  needed = λ core mir r routine sound valid. frame_needed core mir r routine (single_some core sound.extents) valid;
}
