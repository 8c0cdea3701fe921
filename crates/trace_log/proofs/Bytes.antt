-- The 16 bytes of a record are those of no other record
use Rattle.std.proofs.Common.{◌≡◌, ℕ, ◌/◌, ◌%◌, ◌^◌, ◌<◌, ◌&&◌, nat_le, nat_lt, Bool, IsTrue, List, ◌++◌, take, drop, get_or, Option, Some, None, IfNone, refl, sym, ap, ◌∙◌, arith, lit<}
use Rattle.std.specs.Int.{w16, w32, from_le_bytes}
use Rattle.std.proofs.lemmas.Bool.Decides.{nat_tests}
use Rattle.std.proofs.lemmas.Nat.{from_le_bytes-to_le_bytes_2, from_le_bytes-to_le_bytes_4}
use Rattle.sys_abi.specs.declared.record.Record.{Record}
use Rattle.sys_abi.specs.declared.record.Record.TheVariants.{User, Call, Deliver, Arrive, Cut, Drained, Refilled, Complete, Refused, Lapsed}
use Rattle.sys_abi.specs.declared.record.Cause.TheVariants.{Unsupported, DiskFault, Memory}
use Rattle.sys_abi.specs.declared.record.Kind.{Kind}
use Rattle.sys_abi.specs.declared.record.Kind.TheVariants.{Console, File, Stream, Socket, Listener, Datagram, Counter}
use Rattle.trace_log.specs.declared.fields.Fields.{Fields}
use Rattle.trace_log.specs.Spelling.{fields_of, IsInRange, IsSmall, HasSpelling, bytes_of, spelling, BeginsWithNone, kind_number}
use Rattle.trace_log.proofs.OneRecord.{candidate-fields_of}

-- the fields at the front of the bytes
abbrev fields_in : List ℕ → Fields
fields_in bytes = record {
  kind = get_or bytes 0 0;
  x = get_or bytes 1 0;
  fd = from_le_bytes w16 (take 2 (drop 2 bytes));
  a = from_le_bytes w32 (take 4 (drop 4 bytes));
  b = from_le_bytes w32 (take 4 (drop 8 bytes));
  n = from_le_bytes w32 (take 4 (drop 12 bytes));
}

fields_in-bytes_of : (f : Fields) → IsSmall f → fields_in (bytes_of f) ≡ f
fields_in-bytes_of f small = λ i. record {
  kind = f.kind;
  x = f.x;
  fd = from_le_bytes-to_le_bytes_2 f.fd small.fd i;
  a = from_le_bytes-to_le_bytes_4 f.a small.a i;
  b = from_le_bytes-to_le_bytes_4 f.b small.b i;
  n = from_le_bytes-to_le_bytes_4 f.n small.n i;
}

pub bytes_of-injective : (f g : Fields) → IsSmall f → IsSmall g → bytes_of f ≡ bytes_of g → f ≡ g
bytes_of-injective f g f_small g_small e = sym (fields_in-bytes_of f f_small) ∙ ap fields_in e ∙ fields_in-bytes_of g g_small

small_kind : (kind : Kind) → kind_number kind < 2 ^ 32
small_kind Datagram = lit< tt
small_kind Counter = lit< tt
small_kind Console = lit< tt
small_kind File = lit< tt
small_kind Stream = lit< tt
small_kind Socket = lit< tt
small_kind Listener = lit< tt

small_thread : (kind p t n x : ℕ) → kind < 2 ^ 8 → x < 2 ^ 8 → p < 2 ^ 32 → t < 2 ^ 32 → n < 2 ^ 32 → IsSmall (record { kind = kind; x = x; fd = 0; a = p; b = t; n = n })
small_thread kind p t n x k xs ps ts ns = record { kind = k; x = xs; fd = lit< tt; a = ps; b = ts; n = ns }

small_generation : (kind generation : ℕ) → kind < 2 ^ 8 → generation < 2 ^ 64 → IsSmall (record { kind = kind; x = 0; fd = 0; a = 0; b = generation % 2 ^ 32; n = generation / 2 ^ 32 })
small_generation kind generation k range = record { kind = k; x = lit< tt; fd = lit< tt; a = lit< tt; b = omega arith; n = omega arith }

small_refusal : (x fd p b : ℕ) → x < 2 ^ 8 → fd < 2 ^ 16 → p < 2 ^ 32 → b < 2 ^ 32 → IsSmall (record { kind = 9; x = x; fd = fd; a = p; b = b; n = 0 })
small_refusal x fd p b xs fds ps bs = record { kind = lit< tt; x = xs; fd = fds; a = ps; b = bs; n = lit< tt }

signal_below : (s : ℕ) → IsTrue (nat_le 1 s && nat_le s 31) → s < 2 ^ 8
signal_below s h = grind (arith, nat_tests)

fd_below : (fd : ℕ) (listed : Bool) → IsTrue (nat_lt fd (2 ^ 16) && listed) → fd < 2 ^ 16
fd_below fd listed h = grind (arith, nat_tests)

pub fields_of-IsSmall : (r : Record) → HasSpelling r → IsSmall (fields_of r)
unfolding fields_of IsInRange
fields_of-IsSmall (User p t n) h = let range = h.in_range in small_thread 1 p.0 t.0 n 0 (lit< tt) (lit< tt) range.0 range.1 range.2
fields_of-IsSmall (Call p t) h = let range = h.in_range in small_thread 2 p.0 t.0 0 0 (lit< tt) (lit< tt) range.0 range.1 (lit< tt)
fields_of-IsSmall (Deliver p t s) h = let range = h.in_range in small_thread 3 p.0 t.0 0 s.0 (lit< tt) (signal_below s.0 h.spellable) range.0 range.1 (lit< tt)
fields_of-IsSmall (Arrive dir n) h = let range = h.in_range in small_thread 4 dir.conn.pid.0 dir.conn.num n dir.side (lit< tt) range.0.2 range.0.0 range.0.1 range.1
fields_of-IsSmall (Cut generation) h = small_generation 5 generation (lit< tt) h.in_range
fields_of-IsSmall (Drained dir n) h = let range = h.in_range in small_thread 6 dir.conn.pid.0 dir.conn.num n dir.side (lit< tt) range.0.2 range.0.0 range.0.1 range.1
fields_of-IsSmall (Refilled dir n) h = let range = h.in_range in small_thread 7 dir.conn.pid.0 dir.conn.num n dir.side (lit< tt) range.0.2 range.0.0 range.0.1 range.1
fields_of-IsSmall (Complete generation) h = small_generation 8 generation (lit< tt) h.in_range
fields_of-IsSmall (Refused (Unsupported p fd kind)) h = let range = h.in_range in small_refusal 1 fd.0 p.0 (kind_number kind) (lit< tt) (fd_below fd.0 _ h.spellable) range.0 (small_kind kind)
fields_of-IsSmall (Refused DiskFault) h = small_refusal 2 0 0 0 (lit< tt) (lit< tt) (lit< tt) (lit< tt)
fields_of-IsSmall (Refused Memory) h = small_refusal 3 0 0 0 (lit< tt) (lit< tt) (lit< tt) (lit< tt)
fields_of-IsSmall Lapsed h = small_thread 10 0 0 0 0 (lit< tt) (lit< tt) (lit< tt) (lit< tt) (lit< tt)

pub take-bytes_of : (f : Fields) (rest : List ℕ) → take 16 (bytes_of f ++ rest) ≡ bytes_of f
take-bytes_of f rest = refl

pub drop-bytes_of : (f : Fields) (rest : List ℕ) → drop 16 (bytes_of f ++ rest) ≡ rest
drop-bytes_of f rest = refl

-- a record has one spelling, and no other record has it
pub spelling-injective : (r q : Record) → HasSpelling r → HasSpelling q → spelling r ≡ spelling q → r ≡ q
spelling-injective r q r_has q_has e =
    let same = bytes_of-injective (fields_of r) (fields_of q) (fields_of-IsSmall r r_has) (fields_of-IsSmall q q_has) e in
    let left = candidate-fields_of r r_has in
    let right = candidate-fields_of q q_has in
    cc

-- what holds where there is none, made weaker
IfNone-weaker : {A P Q : Type 0} (o : Option A) → (P → Q) → IfNone o P → IfNone o Q
IfNone-weaker None f p = f p
IfNone-weaker (Some x) f p = p

-- where no record has the fields of the front, none begins the bytes
pub begins_with_none : (f : Fields) (front bytes : List ℕ) (o : Option Record) → IsSmall f → bytes_of f ≡ front → front ≡ take 16 bytes → IfNone o ((r : Record) → HasSpelling r → fields_of r ≡ f → ⊥) → IfNone o (BeginsWithNone bytes)
begins_with_none f front bytes o small read taken none =
    IfNone-weaker o
    (λ none r rest has whole. none r has (bytes_of-injective (fields_of r) f (fields_of-IsSmall r has) small (sym (take-bytes_of (fields_of r) rest) ∙ ap (take 16) whole ∙ sym taken ∙ sym read)))
    none
