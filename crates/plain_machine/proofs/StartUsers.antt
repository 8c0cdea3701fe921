-- A process's part at its start is valid, and has the one thread of its number; so is what a job starts that was read from a file.
use Rattle.std.proofs.Common.{◌≡◌, ℕ, zero, suc, ◌+◌, ◌*◌, ◌/◌, ◌%◌, ◌≤◌, Bool, true, false, cond, List, [], ◌∷◌, replicate, refl, sym, ap, subst, ◌∙◌, arith, ⊎_elim}
use Rattle.std.specs.Prelude.{Some, None, is_some, All, max, slice_range}
use Rattle.std.specs.List.{fold}
use Rattle.std.specs.Ordering.{nat_cmp, eq_by_cmp}
use Rattle.std.specs.Cmp.{nat_cmp_total}
use Rattle.std.specs.Int.{w32, from_le_bytes}
use Rattle.std.specs.FinMap as map
use Rattle.std.proofs.lemmas.List.{length-replicate, length-set}
use Rattle.std.proofs.lemmas.List.Elements.{All-set, All-nil, All-cons, All-append, All-take, All-drop, All-replicate}
use Rattle.plain_tables.proofs.OfViews.MapLaws.{get_insert_other, same_or_other}
use Rattle.plain_tables.specs.OfElf32.declared.program.Program.{Program}
use Rattle.plain_tables.specs.OfElf32.declared.program.Segment.{Segment}
use Rattle.plain_tables.specs.OfElf32.Programs.{IsWellPlaced}
use Rattle.plain_tables.specs.OfElf32.Fields.{word_at}
use Rattle.plain_tables.specs.OfElf32.FileHeader.{e_phnum}
use Rattle.plain_tables.specs.OfElf32.ProgramHeaders.{segments_before, segments_of, segment_of, program_header, describes_memory}
use Rattle.plain_tables.specs.OfPlainProcess.declared.user_part.SignalAction.{SignalAction}
use Rattle.plain_tables.specs.OfPlainProcess.Start.{break_of, start_sp, start_regs, start_thread, start_user, default_action}
use Rattle.plain_tables.specs.OfPlainProcess.Valid.{IsWord, IsByte, IsRegs, IsThread, IsAction}
use Rattle.plain_machine.specs.Laws.{StartIsUser, ReadIsLaunched}
use Rattle.plain_tables.proofs.OfPlainProcess.MemoryBounds.{byte_of}
use Rattle.plain_tables.proofs.OfPlainProcess.StartPages.{all_tail, start_memory_is}
use Rattle.plain_machine.proofs.StartHeaps.{start_heap, start_return}

highest_from : (segments : List Segment) (highest : ℕ) → All IsWellPlaced segments → highest ≤ 0x40000000 → fold (λ h segment. max h (segment.vaddr + segment.memsz)) highest segments ≤ 0x40000000
highest_from [] highest placed low = low
highest_from (s ∷ rest) highest placed low = highest_from rest _ (all_tail IsWellPlaced s rest placed) (let last = (placed 0 s (omega arith)).last in omega arith)

break_is : (segments : List Segment) → All IsWellPlaced segments → (break_of segments % 4096 ≡ 0) × (break_of segments ≤ 0x40000000)
unfolding break_of
break_is segments placed = let low = highest_from segments 0 placed (omega arith) in (whole _, rounded _ low)
  where
    whole : (n : ℕ) → 4096 * n % 4096 ≡ 0
    whole n = omega arith

    rounded : (n : ℕ) → n ≤ 0x40000000 → 4096 * ((n + 4095) / 4096) ≤ 0x40000000
    rounded n low = omega arith

sp_is : (arguments : List ℕ) → IsWord (start_sp arguments)
unfolding start_sp
sp_is arguments = omega arith

regs_are : (program : Program) (arguments : List ℕ) → IsWord program.entry → IsRegs (start_regs program arguments)
unfolding start_regs
regs_are program arguments entry = record {
  count = length-set (replicate 32 0) 2 (start_sp arguments) ∙ length-replicate {A = ℕ} 32 0;
  zero = refl;
  words = All-set IsWord (replicate 32 0) 2 (start_sp arguments) (sp_is arguments) (All-replicate IsWord 32 0 (omega arith));
  pc = entry;
}

-- a map of one entry
only : {X : Type 0} (b : Bool) (v found : X) → cond b (Some v) None ≡ Some found → v ≡ found
only true v found is = cc
only false v found is = cc

pub only_entry : {X : Type 0} (t q : ℕ) (v found : X) → map.get (map.insert (map.empty {R = nat_cmp}) t v) q ≡ Some found → v ≡ found
only_entry {X} t q v found is =
    let none : map.get (map.empty {X = X} {R = nat_cmp}) q ≡ None = map.get-empty nat_cmp q in
    only (eq_by_cmp nat_cmp q t) v found (ap (cond (eq_by_cmp nat_cmp q t) (Some v)) (sym none) ∙ sym (map.get-insert nat_cmp_total map.empty t v q) ∙ is)

pub only_key : {X : Type 0} (t q : ℕ) (v found : X) → map.get (map.insert (map.empty {R = nat_cmp}) t v) q ≡ Some found → q ≡ t
only_key {X} t q v found is = ⊎_elim
    (λ here. here)
    (λ other. let none : map.get (map.empty {X = X} {R = nat_cmp}) q ≡ None = map.get-empty nat_cmp q in
    let left = get_insert_other nat_cmp_total map.nat_cmp-IsAntisymmetric (map.empty {X = X} {R = nat_cmp}) t v q other in
    cc)
    (same_or_other nat_cmp_total map.nat_cmp-IsAntisymmetric q t)

pub one_entry : {X : Type 0} (t : ℕ) (v : X) → map.len (map.insert (map.empty {R = nat_cmp}) t v) ≡ 1
one_entry {X} t v =
    let none : map.get (map.empty {X = X} {R = nat_cmp}) t ≡ None = map.get-empty nat_cmp t in
    map.len-insert nat_cmp_total map.empty t v ∙ ap (λ found. cond (is_some found) (map.len (map.empty {X = X} {R = nat_cmp})) (map.len (map.empty {X = X} {R = nat_cmp}) + 1)) none
    ∙ ap (λ n. n + 1) (map.len-empty nat_cmp X) ∙ omega arith

pub start_user_is : StartIsUser
unfolding start_user
start_user_is launched t is small =
    let program = launched.program in
    let memory = start_memory_is program launched.arguments is.loadable is.bytes is.arguments in
    let break = break_is program.segments is.loadable.placed in
    let one = one_entry t (start_thread (start_regs program launched.arguments)) in
    record {
      pages = memory.pages;
      memory = memory.frames;
      return_page = start_return program launched.arguments;
      break_start = break.0;
      break_order = omega arith;
      break_limit = break.1;
      heap = start_heap program launched.arguments;
      thread_count = omega arith;
      thread_numbers = λ q thread found. subst IsWord (sym (only_key t q (start_thread (start_regs program launched.arguments)) thread found)) small;
      threads = λ q thread found. subst IsThread (only_entry t q (start_thread (start_regs program launched.arguments)) thread found) (record {
        regs = regs_are program launched.arguments is.entry;
        mask = omega arith;
        clear_tid = omega arith;
        count = omega arith;
        contexts = All-nil _;
      });
      actions = length-replicate {A = SignalAction} 31 default_action;
      handlers = All-replicate IsAction 31 default_action (record { handler = omega arith; flags = omega arith; mask = omega arith });
      waiters = All-nil _;
      waiters_apart = λ i j d first inside. absurd (omega arith);
    }

-- the bytes of a file's segments are bytes of the file
segments_are : (file : List ℕ) (n : ℕ) → All IsByte file → All (λ segment. All IsByte segment.bytes) (segments_before file n)
unfolding segments_before
segments_are file zero are = All-nil _
segments_are file (suc n) are =
    All-append (λ segment. All IsByte segment.bytes) (segments_before file n) (segments_of file (program_header file n)) (segments_are file n are) (described (describes_memory (program_header file n)))
  where
    described : (b : Bool) → All (λ segment. All IsByte segment.bytes) (cond b (segment_of file (program_header file n) ∷ []) [])
    described true = All-cons (λ segment. All IsByte segment.bytes) _ [] (All-take IsByte _ _ (All-drop IsByte (program_header file n).offset file are)) (All-nil _)
    described false = All-nil _

word_of_bytes : (bytes : List ℕ) → All IsByte bytes → IsWord (from_le_bytes w32 bytes)
word_of_bytes bytes are =
    let first = byte_of bytes 0 are in
    let second = byte_of bytes 1 are in
    let third = byte_of bytes 2 are in
    let fourth = byte_of bytes 3 are in
    omega arith

entry_is : (file : List ℕ) (place : ℕ) → All IsByte file → IsWord (word_at file place)
unfolding word_at
entry_is file place are = word_of_bytes (slice_range file place (place + 4)) (All-take IsByte _ _ (All-drop IsByte place file are))

pub read_is_launched : ReadIsLaunched
read_is_launched host file arguments bytes texts placed few low = record {
  host = low;
  loadable = record { placed = placed; pages = few };
  entry = entry_is file 24 bytes;
  bytes = segments_are file (e_phnum file) bytes;
  arguments = texts;
}
