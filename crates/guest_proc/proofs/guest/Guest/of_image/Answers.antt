use Rattle.std.proofs.Common.{subst}
use Rattle.plain_process.specs.Valid.{IsUser}
use Rattle.guest_proc.proofs.Images.{made_of}
use Rattle.image_process.proofs.RebuiltUsers.{rebuilt_user}
use Rattle.guest_proc.proofs.guest.Guest.of_image.Goals as goal

pub returns-clause-valid : goal.returns-clause-valid
returns-clause-valid c pid tids text spells bytes =
    subst IsUser (made_of c.args.image c.in_ok-memory.memory c.in_ok-group.group c.in_ok-memory.ensures c.in_ok-group.ensures) (rebuilt_user pid tids text c.args.image spells bytes)
