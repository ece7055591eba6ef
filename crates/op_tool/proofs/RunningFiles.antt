-- The run of an image that was found in a file.
use Rattle.std.proofs.Common.{◌≡◌, ℕ, Option, List, inr, subst}
use Rattle.op_base.specs.declared.files.NamedFile.{NamedFile}
use Rattle.op_emu.specs.Filling.{AreBytes}
use Rattle.op_tool.specs.Effects.{Effect}
use Rattle.op_tool.specs.ImageRun.{OwesImage}
use Rattle.op_tool.specs.Owes.{call, IsFile, OwesRun}
use Rattle.op_tool.specs.declared.finish.Finish.{Finish}
use Rattle.op_tool.specs.declared.finish.Finish.TheVariants as finish

-- what the run of the image owes is what the command owes
run_owes_of : (words : List (List ℕ)) (stored : Option (List NamedFile)) (before now count count' most : ℕ) (image name : List ℕ) → IsFile stored name image → (answer : Finish) (done : Effect) → OwesImage image most count count' answer done → OwesRun (call words stored before now count count' image) name most answer done
run_owes_of words stored before now count count' most image name is (finish.Ended status) done owes = (is, owes)
run_owes_of words stored before now count count' most image name is (finish.Faulted kind pc) done owes = (is, owes)
run_owes_of words stored before now count count' most image name is finish.Spent done owes = (is, owes)
run_owes_of words stored before now count count' most image name is finish.ReadFault done owes = inr (is, owes)
run_owes_of words stored before now count count' most image name is (finish.BadImage condition) done owes = inr (is, owes)
run_owes_of words stored before now count count' most image name is finish.NoMemory done owes = (inr is, owes)
run_owes_of words stored before now count count' most image name is finish.Usage done owes = absurd owes
run_owes_of words stored before now count count' most image name is (finish.Refused rule place) done owes = absurd owes
run_owes_of words stored before now count count' most image name is finish.WriteFault done owes = absurd owes
run_owes_of words stored before now count count' most image name is finish.Limit done owes = absurd owes

pub run_owes : (words : List (List ℕ)) (stored : Option (List NamedFile)) (before now count count' most : ℕ) (image found name : List ℕ) → image ≡ found → IsFile stored name found → (answer : Finish) (done : Effect) → AreBytes done.input → OwesImage image most count count' answer done → OwesRun (call words stored before now count count' found) name most answer done
run_owes words stored before now count count' most image found name same is answer done bytes owes =
    run_owes_of words stored before now count count' most found name is answer done (subst (λ bytes. OwesImage bytes most count count' answer done) same owes)
