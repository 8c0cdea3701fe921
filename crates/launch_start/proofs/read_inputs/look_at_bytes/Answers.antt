use Rattle.launch_start.proofs.Bytes.{all_bytes}
use Rattle.launch_start.proofs.read_inputs.look_at_bytes.Goals as goal

pub returns : goal.returns
returns c = all_bytes c.args.bytes.now c.type_inv.bytes
