-- The start of a job: each program in a process of its own, with the console on 0, 1 and 2.
--     start jobs files      the plain state of programs in the order of the words and of named files
use Rattle.std.specs.Prelude.{ℕ, ◌+◌, false, List, [], ◌∷◌}
use Rattle.std.specs.FinMap as map
use Rattle.plain_tables.specs.OfViews.Numbers.{Byte}
use Rattle.plain_tables.specs.OfSysAbi.declared.identity.DescId.{DescId}
use Rattle.plain_tables.specs.OfSysAbi.Orders.{vpid_cmp}
use Rattle.plain_tables.specs.OfSysAbi.declared.flags.TheConstants.{O_RDWR}
use Rattle.plain_tables.specs.OfPlainProcess.declared.user_part.UserPart.{UserPart}
use Rattle.plain_tables.specs.declared.description.Object.TheVariants.{Console}
use Rattle.plain_tables.specs.declared.description.Description.{Description}
use Rattle.plain_tables.specs.OfSysAbi.declared.descriptor.Descriptor.{Descriptor}
use Rattle.plain_machine.specs.declared.kernel.PlainKernel.{PlainKernel}
use Rattle.plain_machine.specs.declared.plain.Plain.{Plain}
pub use Rattle.plain_tables.specs.Tables.{FIRST_PID, NOBODY}
use Rattle.plain_tables.specs.Tables.{pid, slot}
use Rattle.plain_tables.specs.Start.{start_process}
use Rattle.plain_tables.specs.OfPlainProcess.Start.{Launched, start_user}

pub record NamedFile : Type 0 where
  pub name : List Byte
  pub bytes : List Byte

-- the console description of a process is number 0 of its own
abbrev pub console_of : ℕ → DescId
console_of p = record { pid = pid p; num = 0 }

abbrev pub console_description : Description
console_description = record { object = Console; flags = O_RDWR; owner = 0 }

abbrev pub console_descriptor : ℕ → Descriptor
console_descriptor p = record { desc = console_of p; cloexec = false }

unfoldable pub with_process : PlainKernel → ℕ → ℕ → PlainKernel
with_process k p host = record k {
  processes = map.insert k.processes (pid p) (start_process p);
  makers = map.insert k.makers (pid p) (record { host = host; made = 1 });
  descriptors = map.insert (map.insert (map.insert k.descriptors
      (slot (pid p) 0) (console_descriptor p))
      (slot (pid p) 1) (console_descriptor p))
      (slot (pid p) 2) (console_descriptor p);
  descriptions = map.insert k.descriptions (console_of p) console_description;
  next_id = p + 1;
}

unfoldable pub with_processes : PlainKernel → ℕ → List Launched → PlainKernel
with_processes k p [] = k
with_processes k p (launched ∷ rest) = with_processes (with_process k p launched.host) (p + 1) rest

unfoldable pub with_file : PlainKernel → NamedFile → PlainKernel
with_file k file = record k {
  names = map.insert k.names file.name k.next_file;
  files = map.insert k.files k.next_file file.bytes;
  next_file = k.next_file + 1;
}

unfoldable pub with_files : PlainKernel → List NamedFile → PlainKernel
with_files k [] = k
with_files k (file ∷ rest) = with_files (with_file k file) rest

unfoldable pub empty_kernel : PlainKernel
empty_kernel = record {
  processes = map.empty;
  makers = map.empty;
  descriptors = map.empty;
  descriptions = map.empty;
  names = map.empty;
  files = map.empty;
  next_file = 1;
  channels = map.empty;
  directions = map.empty;
  listeners = map.empty;
  inboxes = map.empty;
  next_id = FIRST_PID;
}

unfoldable pub start_kernel : List Launched → List NamedFile → PlainKernel
start_kernel jobs files = with_processes (with_files empty_kernel files) FIRST_PID jobs

unfoldable pub with_users : map.FinMap vpid_cmp UserPart → ℕ → List Launched → map.FinMap vpid_cmp UserPart
with_users users p [] = users
with_users users p (launched ∷ rest) =
    with_users (map.insert users (pid p) (start_user launched.program launched.arguments p)) (p + 1) rest

unfoldable pub start : List Launched → List NamedFile → Plain
start jobs files = record { kernel = start_kernel jobs files; users = with_users map.empty FIRST_PID jobs }
