-- The image of a job's start: one program on a host, with the console.
--     start_image host      the shared image of process 40000 there
--     StartHasImage      the kernel part of such a start has that image
-- Source: docs/FORMATS.md, "Shared image".
use Rattle.std.specs.Prelude.{ℕ, ◌+◌, ◌<◌, false, [], ◌∷◌}
use Rattle.views.specs.Limits.{HOST_LIMIT}
use Rattle.sys_abi.specs.declared.flags.TheConstants.{O_RDWR}
use Rattle.sys_abi.specs.declared.life.Life.TheVariants.{Live}
use Rattle.plain_tables.specs.Tables.{pid}
use Rattle.plain_process.specs.Start.{Launched}
use Rattle.plain_machine.specs.Start.{FIRST_PID, NOBODY, console_of, start_kernel}
use Rattle.shared_items.specs.declared.shared.ObjectImage.TheVariants.{Console}
use Rattle.shared_items.specs.declared.shared.DescriptorEntry.{DescriptorEntry}
use Rattle.shared_items.specs.declared.shared.Shared.{Shared}
use Rattle.image_codec.specs.KernelImages.{IsImage}

abbrev pub console_on : ℕ → DescriptorEntry
console_on number = record { number = number; desc = console_of FIRST_PID; cloexec = false }

unfoldable pub start_image : ℕ → Shared
start_image host = record {
  next_id = FIRST_PID + 1;
  next_file = 1;
  files = [];
  channels = [];
  descriptions = (record { id = console_of FIRST_PID; object = Console; flags = O_RDWR; owner = 0 }) ∷ [];
  processes = (record {
    pid = pid FIRST_PID;
    parent = NOBODY;
    host = host;
    made = 1;
    life = Live;
    pending = 0;
    threads = (record { tid = FIRST_PID; pending = 0 }) ∷ [];
    descriptors = console_on 0 ∷ console_on 1 ∷ console_on 2 ∷ [];
  }) ∷ [];
}

abbrev pub StartHasImage : Type 0
StartHasImage = (job : Launched) → job.host < HOST_LIMIT → IsImage (start_image job.host) (start_kernel (job ∷ []) [])
