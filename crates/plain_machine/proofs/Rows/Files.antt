-- The laws of openat, unlinkat and lseek.
use Rattle.std.proofs.Common.{◌≡◌, ℕ, ◌+◌, ◌-◌, ◌^◌, ◌<◌, ◌≤◌, Bool, true, false, cond, ◌&&◌, List, [], length, refl, ap, ◌∙◌, arith}
use Rattle.std.specs.Prelude.{◌==◌, ◌%◌, nat_lt, position, Option, Some, None, is_some, All}
use Rattle.std.specs.Option.{option_map_or}
use Rattle.std.specs.FinMap as map
use Rattle.std.specs.Cmp.{nat_cmp_total}
use Rattle.std.proofs.lemmas.Bool.Decides.{nat_tests}
use Rattle.std.proofs.lemmas.List.{length-take-le, get_or-take}
use Rattle.std.proofs.lemmas.List.Elements.{All-nil}
use Rattle.std.proofs.lemmas.List.Quantifiers.{position-Some}
use Rattle.plain_tables.specs.OfViews.Limits.{FILE_LIMIT}
use Rattle.plain_tables.proofs.OfViews.MapLaws.{get_insert_same}
use Rattle.plain_tables.specs.OfSysAbi.declared.identity.VPid.{VPid}
use Rattle.plain_tables.specs.OfSysAbi.declared.errors.TheConstants.{ENOENT, EBADF, EEXIST, EINVAL, ENFILE, ENOSPC, ESPIPE, ENAMETOOLONG}
use Rattle.plain_tables.specs.OfSysAbi.declared.flags.TheConstants.{O_CREAT, O_EXCL, O_TRUNC, O_CLOEXEC, AT_FDCWD}
use Rattle.plain_tables.specs.OfCallTable.declared.request.Request.{Request}
use Rattle.plain_tables.specs.OfCallTable.declared.request.Request.TheVariants.{Openat, Unlinkat, Lseek}
use Rattle.plain_tables.specs.OfSysAbi.Flags.{has_flag}
use Rattle.plain_machine.specs.declared.kernel.PlainKernel.{PlainKernel}
use Rattle.plain_tables.specs.declared.description.Object.{Object}
use Rattle.plain_tables.specs.declared.description.Object.TheVariants.{File}
use Rattle.plain_tables.specs.OfSysAbi.declared.maker.Maker.{Maker}
use Rattle.plain_tables.specs.Tables.{Makers, slot}
use Rattle.plain_tables.specs.Valid.Files.{IsName}
use Rattle.plain_tables.specs.OfPlainProcess.Attempts.{Gives, need, refuse_if, found}
use Rattle.plain_tables.specs.OfPlainProcess.Buffers.{PATH_LIMIT}
use Rattle.plain_tables.specs.OfPlainProcess.Valid.{IsByte}
use Rattle.plain_machine.specs.Kernel.{Held, held, free_from, has_numbers, with_object}
use Rattle.plain_machine.specs.KernelLaws.{IsAlone}
use Rattle.plain_machine.specs.Kernels.{IsKernel}
use Rattle.plain_machine.specs.RowLaws.{IsAsked}
use Rattle.plain_machine.specs.Rows.Files.{path_of, without_name, unlinkat_row, LAST_FILE, may_open, with_file_bytes, opened_number, with_opened, status_flags, with_open_file, open_at, openat_row, seek_start, OFFSET_LIMIT, in_reach, place_moved, file_size, seek, lseek_row}
use Rattle.plain_machine.specs.Serve.{row, is_ready}
use Rattle.plain_machine.specs.Start.{with_file}
use Rattle.plain_machine.proofs.HeldDescriptors.{IsHeldAt, held_is, held_prompt, IsFreeFrom, free_is, free_prompt}
use Rattle.plain_machine.proofs.LocalReplies.{needed, was_found}
use Rattle.plain_machine.proofs.MadeDescriptions.{whole_made}
use Rattle.plain_machine.proofs.Prompt.{is_prompt, prompt_then, prompt_need, prompt_refuse, prompt_found, settles}
use Rattle.plain_machine.proofs.QuietRows.{same_by, unchanged_meets}
use Rattle.plain_machine.proofs.RowBounds.{RowLaw, Meets, row_law, quiet}
use Rattle.plain_machine.proofs.StatusFlags.{opened_flags}
use Rattle.plain_machine.proofs.Trying.{Trying, succeeds, fails, after}
use Rattle.plain_machine.proofs.WholeObjects.{whole_offset, whole_emptied}
use Rattle.plain_machine.proofs.WholeStarts.{whole_file}
use Rattle.plain_machine.proofs.WholeUnnamed.{whole_unnamed}

not_refused : (b : Bool) (e : ℕ) (done : Unit {0}) → refuse_if b e ≡ Gives done → b ≡ false
unfolding refuse_if
not_refused true e done is = cc
not_refused false e done is = refl

-- the path

record IsPath (given name : List ℕ) : Type 0 where
  few : length name ≤ 255
  bytes : All IsByte given → All (λ byte. (1 ≤ byte) × (byte < 2 ^ 8)) name

path_gives : (given : List ℕ) → Trying (path_of given) (IsPath given)
unfolding path_of
path_gives given = after (found (position (λ byte. byte == 0) given) ENAMETOOLONG) (λ end there. after (need (nat_lt end PATH_LIMIT) ENAMETOOLONG) (λ done short.
    let test = needed _ ENAMETOOLONG done short in
    let less : end < 256 = grind (arith, nat_tests, test) in
    let first = λ (d : ℕ). position-Some (λ byte. byte == 0) given end d (was_found _ ENAMETOOLONG end there) in
    let within = (first 0).0 in
    let size = length-take-le end given (omega arith) in
    succeeds _ (record {
      few = omega arith;
      bytes = λ are i d below.
          let same = get_or-take end given i d (omega arith) in
          let byte = are i d (omega arith) in
          let other = (first d).2 i (omega arith) in
          (grind (arith, nat_tests, same, other), grind (arith, same, byte));
    })))

path_is : (given name : List ℕ) → path_of given ≡ Gives name → IsPath given name
path_is given name is = (path_gives given).each name is

path_prompt : (given : List ℕ) → is_prompt (path_of given) ≡ true
unfolding path_of
path_prompt given = prompt_then (found (position (λ byte. byte == 0) given) ENAMETOOLONG) _ (prompt_found _ ENAMETOOLONG)
    (λ end. prompt_then (need (nat_lt end PATH_LIMIT) ENAMETOOLONG) _ (prompt_need _ ENAMETOOLONG) (λ done. refl))

-- an offset

reach_small : (n place : ℕ) → in_reach n ≡ Some place → place < 2 ^ 31
reach_small n place is = chosen (nat_lt n OFFSET_LIMIT) refl is
  where
    chosen : (b : Bool) → nat_lt n OFFSET_LIMIT ≡ b → cond b (Some n) None ≡ Some place → place < 2 ^ 31
    chosen true low is = let same : n ≡ place = cc in grind (arith, nat_tests, low, same)
    chosen false high is = cc

moved_small : (offset start place : ℕ) → place_moved offset start ≡ Some place → place < 2 ^ 31
unfolding place_moved
moved_small offset start place is = chosen (nat_lt offset (2 ^ 31)) is
  where
    back : (b : Bool) → cond b None (in_reach (start + offset - 2 ^ 32)) ≡ Some place → place < 2 ^ 31
    back true is = cc
    back false is = reach_small (start + offset - 2 ^ 32) place is

    chosen : (b : Bool) → cond b (in_reach (start + offset)) (cond (nat_lt (start + offset) (2 ^ 32)) None (in_reach (start + offset - 2 ^ 32))) ≡ Some place → place < 2 ^ 31
    chosen true is = reach_small (start + offset) place is
    chosen false is = back (nat_lt (start + offset) (2 ^ 32)) is

-- the file that is opened

-- a kernel part with the same processes and descriptors, that has the file
record IsOpened (k after : PlainKernel) (number : ℕ) (asked : Type 0) : Type 0 where
  processes : after.processes ≡ k.processes
  makers : after.makers ≡ k.makers
  descriptors : after.descriptors ≡ k.descriptors
  next_id : after.next_id ≡ k.next_id
  there : asked → is_some (map.get after.files number) ≡ true
  whole : asked → IsKernel after

record MayBeMade (k : PlainKernel) : Type 0 where
  few : map.len k.files < 1024
  last : k.next_file + 1 < 2 ^ 32

may_make : (k : PlainKernel) (flags : ℕ) → Trying (may_open k flags None) (λ done. MayBeMade k)
unfolding may_open
may_make k flags = after (need (has_flag flags O_CREAT) ENOENT) (λ wanted may. record {
  each = λ done room.
      let tests = needed _ ENOSPC done room in
      record { few = grind (arith, nat_tests, tests); last = grind (arith, nat_tests, tests) };
})

open_prompt : (k : PlainKernel) (flags : ℕ) (file : Option ℕ) → is_prompt (may_open k flags file) ≡ true
unfolding may_open
open_prompt k flags None = prompt_then (need (has_flag flags O_CREAT) ENOENT) _ (prompt_need _ ENOENT) (λ wanted. prompt_need (nat_lt (map.len k.files) FILE_LIMIT && nat_lt k.next_file LAST_FILE) ENOSPC)
open_prompt k flags (Some number) = prompt_refuse (has_flag flags O_CREAT && has_flag flags O_EXCL) EEXIST

file_alone : (number : ℕ) → IsAlone (File number 0)
file_alone number = record { no_end = λ c s. refl; no_listener = λ a. refl; no_datagram = refl; knows_none = λ d. refl; unbound = refl }

module _ (k : PlainKernel) (p : VPid) (t : ℕ) (given : List ℕ) (directory path flags mode : ℕ) where
  abbrev opening : Request
  opening = Openat directory path flags mode

  module _ (name : List ℕ) (is_path : IsPath given name) (some : (length name == 0) ≡ false) where
    is_name : IsAsked k p t opening given → IsName name
    is_name asked = record { some = grind (arith, nat_tests, some); few = is_path.few; bytes = is_path.bytes asked.bytes }

    opened_by : (number : ℕ) (empties : Bool) → map.get k.names name ≡ Some number → IsOpened k (cond empties (with_file_bytes k number []) k) number (IsAsked k p t opening given)
    opened_by number true known = record {
      processes = refl;
      makers = refl;
      descriptors = refl;
      next_id = refl;
      there = λ asked. ap is_some (get_insert_same nat_cmp_total map.nat_cmp-IsAntisymmetric k.files number []);
      whole = λ asked. whole_emptied k number asked.kernel (asked.kernel.files.named name number known).1;
    }
    opened_by number false known = record {
      processes = refl;
      makers = refl;
      descriptors = refl;
      next_id = refl;
      there = λ asked. (asked.kernel.files.named name number known).1;
      whole = λ asked. asked.kernel;
    }

    opened_is : (file : Option ℕ) (done : Unit {0}) → map.get k.names name ≡ file → may_open k flags file ≡ Gives done → IsOpened k (with_opened k name flags file) (opened_number k file) (IsAsked k p t opening given)
    unfolding with_file
    opened_is None done known may = record {
      processes = refl;
      makers = refl;
      descriptors = refl;
      next_id = refl;
      there = λ asked. ap is_some (get_insert_same nat_cmp_total map.nat_cmp-IsAntisymmetric k.files k.next_file []);
      whole = λ asked.
          let room = (may_make k flags).each done may in
          let total = asked.kernel.files.total in
          whole_file k (record { name = name; bytes = [] }) asked.kernel (is_name asked) (All-nil IsByte) known room.few (omega arith) room.last;
    }
    opened_is (Some number) done known may = opened_by number (has_flag flags O_TRUNC) known

    open_served : (fd : ℕ) (file : Option ℕ) → map.get k.names name ≡ file → (flags % 4 == 3) ≡ false → has_numbers k p ≡ true → IsFreeFrom k.descriptors p 0 fd → Trying (open_at k p name flags fd file) (Meets k p t opening given)
    unfolding open_at
    open_served fd file known sound room free = after (may_open k flags file) (λ done may.
        let opened = opened_is file done known may in
        let after_open = with_opened k name flags file in
        let next = opened.next_id in
        let low = free.low in
        succeeds _ (unchanged_meets k p t opening given (with_open_file after_open p fd flags (opened_number k file)) fd refl opened.processes (omega arith) (λ asked. record {
          word = omega arith;
          kernel = whole_made after_open p fd (has_flag flags O_CLOEXEC) (File (opened_number k file) 0) (status_flags flags) (opened.whole asked)
              ((same_by k after_open opened.processes).live p ∙ asked.alive)
              (ap (λ (makers : Makers). nat_lt (option_map_or (λ (m : Maker). m.made) (map.get makers p) 0) 4294967292) opened.makers ∙ room) low
              (ap (λ descriptors. map.get descriptors (slot p fd)) opened.descriptors ∙ free.free) (opened_flags flags sound) (file_alone (opened_number k file))
              (record { opened = (opened.there asked, omega arith); addressed = tt; counts = tt; host = λ host none. cc });
        })))

  open_at_prompt : (name : List ℕ) (fd : ℕ) (file : Option ℕ) → is_prompt (open_at k p name flags fd file) ≡ true
  unfolding open_at
  open_at_prompt name fd file = prompt_then (may_open k flags file) _ (open_prompt k flags file) (λ done. refl)

  pub openat_law : RowLaw k p t opening given
  unfolding row is_ready openat_row
  openat_law = row_law k p t opening given (λ e. quiet t opening _ refl)
      (after (need (directory == AT_FDCWD) EBADF) (λ here at. after (path_of given) (λ name is_path. after (refuse_if (length name == 0) ENOENT) (λ named some. after (refuse_if (flags % 4 == 3) EINVAL) (λ sound known_mode.
      after (need (has_numbers k p) ENFILE) (λ numbers room. after (free_from k p 0) (λ fd free.
      open_served name (path_is given name is_path) (not_refused _ ENOENT named some) fd (map.get k.names name) refl (not_refused _ EINVAL sound known_mode) (needed _ ENFILE numbers room) (free_is k p 0 fd free))))))))
      (settles k _ (prompt_then (need (directory == AT_FDCWD) EBADF) _ (prompt_need _ EBADF) (λ here. prompt_then (path_of given) _ (path_prompt given) (λ name. prompt_then (refuse_if (length name == 0) ENOENT) _ (prompt_refuse _ ENOENT)
      (λ named. prompt_then (refuse_if (flags % 4 == 3) EINVAL) _ (prompt_refuse _ EINVAL) (λ sound. prompt_then (need (has_numbers k p) ENFILE) _ (prompt_need _ ENFILE)
      (λ numbers. prompt_then (free_from k p 0) _ (free_prompt k p 0) (λ fd. open_at_prompt name fd (map.get k.names name)))))))))

module _ (k : PlainKernel) (p : VPid) (t : ℕ) (given : List ℕ) where
  pub unlinkat_law : (directory path flags : ℕ) → RowLaw k p t (Unlinkat directory path flags) given
  unfolding row is_ready unlinkat_row
  unlinkat_law directory path flags = row_law k p t (Unlinkat directory path flags) given (λ e. quiet t (Unlinkat directory path flags) _ refl)
      (after (need (directory == AT_FDCWD) EBADF) (λ here at. after (need (flags == 0) EINVAL) (λ plain none. after (path_of given) (λ name is_path. after (found (map.get k.names name) ENOENT) (λ number there.
      succeeds _ (unchanged_meets k p t (Unlinkat directory path flags) given (without_name k name number) 0 refl refl (omega arith) (λ asked. record {
        word = omega arith;
        kernel = whole_unnamed k name number asked.kernel (was_found _ ENOENT number there);
      })))))))
      (settles k _ (prompt_then (need (directory == AT_FDCWD) EBADF) _ (prompt_need _ EBADF) (λ here. prompt_then (need (flags == 0) EINVAL) _ (prompt_need _ EINVAL)
      (λ plain. prompt_then (path_of given) _ (path_prompt given) (λ name. prompt_then (found (map.get k.names name) ENOENT) _ (prompt_found _ ENOENT) (λ number. refl))))))

  module _ (fd offset whence : ℕ) where
    abbrev seeking : Request
    seeking = Lseek fd offset whence

    seek_served : (h : Held) → IsHeldAt k.descriptors k.descriptions p fd h → (object : Object) → h.description.object ≡ object → Trying (seek k h offset whence object) (Meets k p t seeking given)
    unfolding seek
    seek_served h held (File number at) opens = after (found (seek_start whence at (file_size k number)) EINVAL) (λ start from. after (found (place_moved offset start) EINVAL) (λ place moved.
        let less = moved_small offset start place (was_found _ EINVAL place moved) in
        succeeds _ (unchanged_meets k p t seeking given (with_object k h (File number place)) place refl refl (omega arith) (λ asked. record {
          word = omega arith;
          kernel = whole_offset k h number at place asked.kernel held.description opens (omega arith);
        }))))
    seek_served h held _ other = fails ESPIPE

    seek_prompt : (h : Held) (object : Object) → is_prompt (seek k h offset whence object) ≡ true
    unfolding seek
    seek_prompt h (File number at) = prompt_then (found (seek_start whence at (file_size k number)) EINVAL) _ (prompt_found _ EINVAL)
        (λ start. prompt_then (found (place_moved offset start) EINVAL) _ (prompt_found _ EINVAL) (λ place. refl))
    seek_prompt h _ = refl

    pub lseek_law : RowLaw k p t seeking given
    unfolding row is_ready lseek_row
    lseek_law = row_law k p t seeking given (λ e. quiet t seeking _ refl)
        (after (held k p fd) (λ h there. seek_served h (held_is k p fd h there) h.description.object refl))
        (settles k _ (prompt_then (held k p fd) _ (held_prompt k p fd) (λ h. seek_prompt h h.description.object)))
