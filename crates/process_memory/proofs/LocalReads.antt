-- What a call reads: a part of bytes that can be read, and the words of an action and of a set.
--     bytes_part              a part of the bytes
--     action_read, set_read   an action and a set, by their words      wait_reads      the word of a wait
--     lent_where_writable     a call is lent
use Rattle.std.proofs.Common.{◌≡◌, ℕ, ◌+◌, ◌-◌, ◌≤◌, List, ◌++◌, length, take, drop, refl, sym, ap, ◌∙◌, true, false, append_assoc, arith}
use Rattle.std.proofs.Math.Seq.{take-append_seam, drop-append_seam}
use Rattle.std.specs.List.{list_all}
use Rattle.std.specs.Prelude.{◌==◌, Bool, Option, Some, None, is_some, option_map, if◌then◌else◌}
use Rattle.guest_pages.proofs.Ranges.{joined, bytes_at-split}
use Rattle.guest_mem.proofs.Copies.{length-bytes_at}
use Rattle.plain_process.specs.declared.memory.Right.{Right}
use Rattle.plain_process.specs.declared.memory.Right.TheVariants.{Read}
use Rattle.plain_process.specs.declared.buffers.Source.{Source}
use Rattle.plain_process.specs.declared.buffers.Source.TheVariants.{Nothing, Bytes}
use Rattle.plain_process.specs.Memory.{Memory, bytes_at, load, little_endian}
use Rattle.plain_process.specs.Buffers.{bytes_of, unless_zero, span, is_wait, reads_of, given_of, written_spans, can_write, lent}
use Rattle.call_table.specs.declared.request.Request.{Request}
use Rattle.call_table.specs.declared.request.Request.TheVariants.{Futex}
use Rattle.plain_process.specs.declared.buffers.Span.{Span}
use Rattle.process_memory.proofs.LendLemmas.{unwritable, lent_whole}
use Rattle.plain_process.specs.Rows.Handlers.{word_in, action_in}
use Rattle.sys_abi.specs.Signals.{blockable}
use Rattle.process_memory.specs.Local.{NamesSet}

picked : (front part rest : Option (List ℕ)) (i j : ℕ) (given : List ℕ) → ((xs : List ℕ) → front ≡ Some xs → length xs ≡ i) → ((xs : List ℕ) → part ≡ Some xs → length xs ≡ j)
    → joined (joined front part) rest ≡ Some given → part ≡ Some (take j (drop i given))
picked None part rest i j given before size is = cc
picked (Some x) None rest i j given before size is = cc
picked (Some x) (Some y) None i j given before size is = cc
picked (Some x) (Some y) (Some z) i j given before size is =
    let same : (x ++ y) ++ z ≡ given = cc in
    ap (λ s. Some s) (sym (
    (λ k. take (sym (size y refl) k) (drop (sym (before x refl) k) (sym same k)))
    ∙ ap (λ s. take (length y) (drop (length x) s)) (append_assoc x y z)
    ∙ ap (take (length y)) (drop-append_seam x (y ++ z))
    ∙ take-append_seam y z
    ))

pub bytes_part : (m : Memory) (right : Right) (a n i j : ℕ) (given : List ℕ) → i + j ≤ n → bytes_at m right a n ≡ Some given → bytes_at m right (a + i) j ≡ Some (take j (drop i given))
bytes_part m right a n i j given within read =
    let rest : n ≡ i + j + (n - (i + j)) = omega arith in
    let back = bytes_at m right (a + (i + j)) (n - (i + j)) in
    picked (bytes_at m right a i) (bytes_at m right (a + i) j) back i j given
    (λ xs is. length-bytes_at m right a i xs is) (λ xs is. length-bytes_at m right (a + i) j xs is)
    (ap (λ front. joined front back) (sym (bytes_at-split m right a i j)) ∙ sym (bytes_at-split m right a (i + j) (n - (i + j))) ∙ ap (bytes_at m right a) (sym rest) ∙ read)

word_read : (m : Memory) (a n place word : ℕ) (given : List ℕ) → place + 4 ≤ n → bytes_at m Read a n ≡ Some given → load m (a + place) 4 ≡ Some word → word ≡ word_in given place
word_read m a n place word given within read is =
    let same : Some word ≡ Some (word_in given place) = sym is ∙ ap (option_map little_endian) (bytes_part m Read a n place 4 given within read) in cc

pub action_read : (m : Memory) (a handler flags mask : ℕ) (bytes : Option (List ℕ)) → bytes_at m Read a 16 ≡ bytes → is_some bytes ≡ true
    → load m a 4 ≡ Some handler → load m (a + 4) 4 ≡ Some flags → load m (a + 8) 4 ≡ Some mask
    → ◌≡◌ {A = Option _} (Some (record { handler = handler; flags = flags; mask = blockable mask })) (option_map action_in bytes)
action_read m a handler flags mask None read there first second third = cc
action_read m a handler flags mask (Some given) read there first second third =
    let start : load m (a + 0) 4 ≡ Some handler = ap (λ (k : ℕ). load m k 4) (omega arith) ∙ first in
    λ k. Some (record {
      handler = word_read m a 16 0 handler given (omega arith) read start k;
      flags = word_read m a 16 4 flags given (omega arith) read second k;
      mask = blockable (word_read m a 16 8 mask given (omega arith) read third k);
    })

named : (m : Memory) (a : ℕ) (source : Source) (given : List ℕ) (zero : _) → zero ≡ false → bytes_of m (if zero then Nothing else source) ≡ Some given → bytes_of m source ≡ Some given
named m a source given zero is read = ap (λ b. bytes_of m (if b then Nothing else source)) (sym is) ∙ read

pub set_read : (m : Memory) (a : ℕ) (given : List ℕ) (set : Option ℕ) → (a == 0) ≡ false → set ≡ load m a 4 → bytes_of m (unless_zero a (Bytes (span a 8))) ≡ Some given → NamesSet set given a
set_read m a given None some is read =
    let part = bytes_part m Read a 8 0 4 given (omega arith) (named m a (Bytes (span a 8)) given (a == 0) some read) in
    let start : load m a 4 ≡ Some (word_in given 0) = ap (λ (k : ℕ). load m k 4) (omega arith) ∙ ap (option_map little_endian) part in
    cc
set_read m a given (Some set) some is read =
    let start : load m (a + 0) 4 ≡ Some set = ap (λ (k : ℕ). load m k 4) (omega arith) ∙ sym is in
    (some, word_read m a 8 0 set given (omega arith) (named m a (Bytes (span a 8)) given (a == 0) some read) start)

-- the word that a wait reads
pub wait_reads : (m : Memory) (address operation value timeout : ℕ) (given : List ℕ) → true ≡ is_wait operation → given_of m (Futex address operation value timeout) ≡ Some given
    → load m address 4 ≡ Some (little_endian given)
unfolding given_of reads_of
wait_reads m address operation value timeout given waits read =
    ap (option_map little_endian) (ap (λ b. bytes_of m (if b then Bytes (span address 4) else Nothing)) waits ∙ read)

-- a call whose bytes can be read is lent just where each span can be written
pub lent_where_writable : (m : Memory) (q : Request) (source : Source) (spans : List Span) → source ≡ reads_of q → spans ≡ written_spans m q → is_some (bytes_of m source) ≡ true
    → list_all (can_write m) spans ≡ is_some (lent m q)
lent_where_writable m q source spans from to readable =
    by_bytes (bytes_of m source) refl readable
  where
    by_test : (given : List ℕ) (b : Bool) → bytes_of m source ≡ Some given → list_all (can_write m) spans ≡ b → list_all (can_write m) spans ≡ is_some (lent m q)
    by_test given true bytes test = test ∙ sym (ap is_some (lent_whole m q source spans given from to bytes test))
    by_test given false bytes test = test ∙ sym (ap is_some (unwritable m q source spans from to test))

    by_bytes : (bytes : Option (List ℕ)) → bytes_of m source ≡ bytes → is_some bytes ≡ true → list_all (can_write m) spans ≡ is_some (lent m q)
    by_bytes None bytes there = cc
    by_bytes (Some given) bytes there = by_test given (list_all (can_write m) spans) bytes refl
