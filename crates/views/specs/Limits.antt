-- How much there is at most: most of the table "Limits" of docs/MACHINE.md, and a few limits more. The limits
-- are this project's own.
use Rattle.std.specs.Prelude.{ℕ}

-- hosts; processes, those that have ended and are still there among them
abbrev pub HOST_LIMIT : ℕ
HOST_LIMIT = 16

abbrev pub PROCESS_LIMIT : ℕ
PROCESS_LIMIT = 128

-- threads of a process; contexts that a thread saves
abbrev pub THREAD_LIMIT : ℕ
THREAD_LIMIT = 64

abbrev pub CONTEXT_LIMIT : ℕ
CONTEXT_LIMIT = 64

-- pages of a process; of a program
abbrev pub PAGE_LIMIT : ℕ
PAGE_LIMIT = 2048

abbrev pub PROGRAM_PAGE_LIMIT : ℕ
PROGRAM_PAGE_LIMIT = 1536

-- the address that a process's break never passes
abbrev pub BREAK_LIMIT : ℕ
BREAK_LIMIT = 0x40000000

-- descriptors of a process; channels
abbrev pub DESCRIPTOR_LIMIT : ℕ
DESCRIPTOR_LIMIT = 256

abbrev pub CHANNEL_LIMIT : ℕ
CHANNEL_LIMIT = 256

-- files; files that a job begins with; bytes of all files; bytes of a name
abbrev pub FILE_LIMIT : ℕ
FILE_LIMIT = 1024

abbrev pub NAMED_FILE_LIMIT : ℕ
NAMED_FILE_LIMIT = 64

abbrev pub ALL_FILES_LIMIT : ℕ
ALL_FILES_LIMIT = 67108864

abbrev pub NAME_LIMIT : ℕ
NAME_LIMIT = 255

-- bytes in a direction; messages at a datagram end; bytes of a message
abbrev pub DIRECTION_LIMIT : ℕ
DIRECTION_LIMIT = 65536

abbrev pub INBOX_LIMIT : ℕ
INBOX_LIMIT = 64

abbrev pub MESSAGE_LIMIT : ℕ
MESSAGE_LIMIT = 4096
