-- How a trace's file spells a record, in 16 bytes: kind u8, x u8, fd u16, a u32, b u32, n u32, little-endian.
-- Fields that aren't named here are 0.
--     kind     record                           fields
--     1 2 3    User, Call, Deliver              a the process, b the thread; n the count; x the signal
--     4 6 7    Arrive, Drained, Refilled        a the channel's process, b its number, x the side, n the bytes
--     5 8      Cut, Complete                    b the low half of the generation, n the high half
--     9        Refused                          x 1 unsupported (fd the descriptor, a its process, b 5 a datagram pair or 6 a counter), 2 disk, 3 memory
--     10       Lapsed
use Rattle.std.specs.Prelude.{◌≡◌, ℕ, ◌/◌, ◌%◌, ◌^◌, ◌<◌, Bool, true, ◌&&◌, nat_le, nat_lt, IsTrue, List, [], ◌∷◌, ◌++◌, length}
use Rattle.std.specs.Int.{w16, w32, to_le_bytes}
use Rattle.sys_abi.specs.declared.record.Record.{Record}
use Rattle.sys_abi.specs.declared.record.Record.TheVariants.{User, Call, Deliver, Arrive, Cut, Drained, Refilled, Complete, Refused, Lapsed}
use Rattle.sys_abi.specs.declared.record.Cause.TheVariants.{Unsupported, DiskFault, Memory}
use Rattle.sys_abi.specs.declared.record.Kind.{Kind}
use Rattle.sys_abi.specs.declared.record.Kind.TheVariants.{Datagram, Counter}
use Rattle.sys_abi.specs.declared.identity.Dir.{Dir}
use Rattle.trace_log.specs.declared.fields.Fields.{Fields}

-- each field holds its number
pub record IsSmall (f : Fields) : Type 0 where
  pub kind : f.kind < 2 ^ 8
  pub x : f.x < 2 ^ 8
  pub fd : f.fd < 2 ^ 16
  pub a : f.a < 2 ^ 32
  pub b : f.b < 2 ^ 32
  pub n : f.n < 2 ^ 32

-- of that kind, with 0 in all other fields
abbrev pub bare : ℕ → Fields
bare kind = record { kind = kind; x = 0; fd = 0; a = 0; b = 0; n = 0 }

abbrev pub of_thread : ℕ → ℕ → ℕ → ℕ → Fields
of_thread kind p t n = record (bare kind) { a = p; b = t; n = n }

abbrev pub of_bytes : ℕ → Dir → ℕ → Fields
of_bytes kind dir n = record (bare kind) { x = dir.side; a = dir.conn.pid.0; b = dir.conn.num; n = n }

abbrev pub of_generation : ℕ → ℕ → Fields
of_generation kind generation = record (bare kind) { b = generation % 2 ^ 32; n = generation / 2 ^ 32 }

abbrev pub kind_number : Kind → ℕ
kind_number Datagram = 5
kind_number Counter = 6
kind_number _ = 0

unfoldable pub fields_of : Record → Fields
fields_of (User p t n) = of_thread 1 p.0 t.0 n
fields_of (Call p t) = of_thread 2 p.0 t.0 0
fields_of (Deliver p t s) = record (of_thread 3 p.0 t.0 0) { x = s.0 }
fields_of (Arrive dir n) = of_bytes 4 dir n
fields_of (Cut generation) = of_generation 5 generation
fields_of (Drained dir n) = of_bytes 6 dir n
fields_of (Refilled dir n) = of_bytes 7 dir n
fields_of (Complete generation) = of_generation 8 generation
fields_of (Refused (Unsupported p fd kind)) = record (bare 9) { x = 1; fd = fd.0; a = p.0; b = kind_number kind }
fields_of (Refused DiskFault) = record (bare 9) { x = 2 }
fields_of (Refused Memory) = record (bare 9) { x = 3 }
fields_of Lapsed = bare 10

-- the bytes of the fields, in their order
abbrev pub bytes_of : Fields → List ℕ
bytes_of f = f.kind ∷ f.x ∷ (to_le_bytes w16 f.fd ++ (to_le_bytes w32 f.a ++ (to_le_bytes w32 f.b ++ to_le_bytes w32 f.n)))

-- the 16 bytes of a record
abbrev pub spelling : Record → List ℕ
spelling r = bytes_of (fields_of r)

-- the bytes of a trace
abbrev pub spellings : List Record → List ℕ
spellings [] = []
spellings (r ∷ rs) = spelling r ++ spellings rs

-- what has to hold for a record to have a spelling, beyond what the types of its numbers say: a descriptor
-- fits its field, a signal is one, and an unsupported kind has a number
abbrev pub is_spellable : Record → Bool
is_spellable (Deliver p t s) = nat_le 1 s.0 && nat_le s.0 31
is_spellable (Refused (Unsupported p fd kind)) = nat_lt fd.0 (2 ^ 16) && nat_lt 0 (kind_number kind)
is_spellable _ = true

abbrev pub IsSmallDir : Dir → Type 0
IsSmallDir dir = (dir.conn.pid.0 < 2 ^ 32) × (dir.conn.num < 2 ^ 32) × (dir.side < 2 ^ 8)

-- the numbers are those that their types hold
unfoldable pub IsInRange : Record → Type 0
IsInRange (User p t n) = (p.0 < 2 ^ 32) × (t.0 < 2 ^ 32) × (n < 2 ^ 32)
IsInRange (Call p t) = (p.0 < 2 ^ 32) × (t.0 < 2 ^ 32)
IsInRange (Deliver p t s) = (p.0 < 2 ^ 32) × (t.0 < 2 ^ 32) × (s.0 < 2 ^ 32)
IsInRange (Arrive dir n) = IsSmallDir dir × (n < 2 ^ 32)
IsInRange (Cut generation) = generation < 2 ^ 64
IsInRange (Drained dir n) = IsSmallDir dir × (n < 2 ^ 32)
IsInRange (Refilled dir n) = IsSmallDir dir × (n < 2 ^ 32)
IsInRange (Complete generation) = generation < 2 ^ 64
IsInRange (Refused (Unsupported p fd kind)) = (p.0 < 2 ^ 32) × (fd.0 < 2 ^ 32)
IsInRange _ = Unit {0}

-- a record has a spelling where its numbers fit their fields, its signal is from 1 to 31 and, for an
-- unsupported one, its kind is listed
pub record HasSpelling (r : Record) : Type 0 where
  pub in_range : IsInRange r
  pub spellable : IsTrue (is_spellable r)

-- all of them have one
abbrev pub AllSpelled : List Record → Type 0
AllSpelled [] = Unit {0}
AllSpelled (r ∷ rs) = HasSpelling r × AllSpelled rs

-- the bytes are those of these records
pub record Spell (rs : List Record) (bytes : List ℕ) : Type 0 where
  pub each : AllSpelled rs
  pub whole : spellings rs ≡ bytes

-- the bytes don't begin with those of a record
abbrev pub BeginsWithNone : List ℕ → Type 0
BeginsWithNone bytes = (r : Record) (rest : List ℕ) → HasSpelling r → spelling r ++ rest ≡ bytes → ⊥

-- up to this place the bytes are those of records, and what follows there, which is something, doesn't begin
-- with one
pub record IsBadAt (bytes : List ℕ) (place : ℕ) : Type 0 where
  pub before : List Record
  pub rest : List ℕ
  pub front : AllSpelled before
  pub whole : spellings before ++ rest ≡ bytes
  pub at_place : place ≡ length (spellings before)
  pub more : 0 < length rest
  pub none : BeginsWithNone rest
