-- The laws of pipe2 and socketpair.
use Rattle.std.proofs.Common.{◌≡◌, ℕ, ◌+◌, ◌%◌, ◌<◌, Bool, true, false, ◌&&◌, cond, List, ◌++◌, refl, inl, inr, arith}
use Rattle.std.specs.Prelude.{◌==◌, ◌⊎◌, not, zero, suc, All}
use Rattle.std.proofs.lemmas.List.Elements.{All-append}
use Rattle.plain_tables.specs.OfSysAbi.declared.identity.VPid.{VPid}
use Rattle.plain_tables.specs.OfSysAbi.declared.errors.TheConstants.{EINVAL, ENFILE, EOPNOTSUPP, EAFNOSUPPORT}
use Rattle.plain_tables.specs.OfSysAbi.declared.flags.TheConstants.{O_WRONLY, O_RDWR, O_CLOEXEC}
use Rattle.plain_tables.specs.OfCallTable.declared.request.Request.{Request}
use Rattle.plain_tables.specs.OfCallTable.declared.request.Request.TheVariants.{Pipe2, Socketpair}
use Rattle.plain_tables.specs.OfSysAbi.Flags.{has_flag}
use Rattle.plain_machine.specs.declared.kernel.PlainKernel.{PlainKernel}
use Rattle.plain_machine.specs.declared.new_end.NewEnd.{NewEnd}
use Rattle.plain_tables.specs.declared.channel.ChannelKind.{ChannelKind}
use Rattle.plain_tables.specs.declared.channel.ChannelKind.TheVariants.{Pair, Pipe}
use Rattle.plain_tables.specs.OfPlainProcess.Attempts.{Gives, need}
use Rattle.plain_tables.specs.OfPlainProcess.Buffers.{fills_of, writes_of}
use Rattle.plain_tables.specs.OfPlainProcess.Memory.{low_bytes}
use Rattle.plain_tables.specs.OfPlainProcess.Valid.{IsByte}
use Rattle.plain_tables.proofs.OfPlainProcess.MemoryBounds.{low_bytes_are}
use Rattle.plain_machine.specs.Kernel.{free_from, has_numbers, is_live}
use Rattle.plain_machine.specs.Kernels.{IsKernel}
use Rattle.plain_machine.specs.Making.{are_making_flags, end_flags, has_channel_room, with_ends, with_datagrams}
use Rattle.plain_machine.specs.RowLaws.{IsAnswer}
use Rattle.plain_machine.specs.Rows.Channels.{numbers_answered, with_pipe, with_stream_pair, with_datagram_pair, new_end, is_pair_type, STREAMS, two_free, pipe2_row, stream_pair, datagram_pair, socketpair_row}
use Rattle.plain_machine.specs.Serve.{row, is_ready}
use Rattle.plain_machine.proofs.CallBounds.{lent_room}
use Rattle.plain_machine.proofs.HeldDescriptors.{IsFreeFrom, free_is, free_prompt}
use Rattle.plain_machine.proofs.KernelThreads.{SameProcesses}
use Rattle.plain_machine.proofs.LocalReplies.{needed, or_try}
use Rattle.plain_machine.proofs.MadeNumbers.{sound_flags, status_mode}
use Rattle.plain_machine.proofs.Prompt.{is_prompt, prompt_then, prompt_need, settles}
use Rattle.plain_machine.proofs.RowBounds.{RowLaw, Meets, row_law, quiet, stays}
use Rattle.plain_machine.proofs.Trying.{Trying, succeeds, after}
use Rattle.plain_machine.proofs.WholeDatagrams.{whole_datagrams}
use Rattle.plain_machine.proofs.WholeStreams.{whole_ends}

-- the answer of two numbers
numbers_are : (first second : ℕ) → All IsByte (low_bytes 4 first ++ low_bytes 4 second)
numbers_are first second = All-append IsByte (low_bytes 4 first) (low_bytes 4 second) (low_bytes_are 4 first) (low_bytes_are 4 second)

pipe_answer : (k : PlainKernel) (fds flags first second : ℕ) (given : List ℕ) → IsAnswer (Pipe2 fds flags) given (numbers_answered k first second)
unfolding fills_of writes_of
pipe_answer k fds flags first second given = record {
  reply = omega arith;
  bytes = numbers_are first second;
  short = omega arith;
  room = λ memory reads. lent_room memory (Pipe2 fds flags) given (low_bytes 4 first ++ low_bytes 4 second) reads (omega arith);
  is_shown = false;
  console = refl;
}

pair_answer : (k : PlainKernel) (domain socket_type protocol fds first second : ℕ) (given : List ℕ) → IsAnswer (Socketpair domain socket_type protocol fds) given (numbers_answered k first second)
unfolding fills_of writes_of
pair_answer k domain socket_type protocol fds first second given = record {
  reply = omega arith;
  bytes = numbers_are first second;
  short = omega arith;
  room = λ memory reads. lent_room memory (Socketpair domain socket_type protocol fds) given (low_bytes 4 first ++ low_bytes 4 second) reads (omega arith);
  is_shown = false;
  console = refl;
}

-- who lives
ends_living : (k : PlainKernel) (p : VPid) (kind : ChannelKind) (cloexec : Bool) (first second : NewEnd) → SameProcesses k (with_ends k p kind cloexec first second)
unfolding is_live
ends_living k p kind cloexec first second = record { live = λ q. refl; threads = λ q u. refl }

datagrams_living : (k : PlainKernel) (p : VPid) (cloexec : Bool) (flags fd other : ℕ) → SameProcesses k (with_datagrams k p cloexec flags fd other)
unfolding is_live
datagrams_living k p cloexec flags fd other = record { live = λ q. refl; threads = λ q u. refl }

-- two free descriptors
record AreFree (k : PlainKernel) (p : VPid) (fds : ℕ × ℕ) : Type 0 where
  first : free_from k p 0 ≡ Gives fds.0
  second : free_from k p (fds.0 + 1) ≡ Gives fds.1

two_are_free : (k : PlainKernel) (p : VPid) → Trying (two_free k p) (AreFree k p)
unfolding two_free
two_are_free k p = after (free_from k p 0) (λ first free. after (free_from k p (first + 1)) (λ second free_other. succeeds (first, second) (record { first = free; second = free_other })))

two_prompt : (k : PlainKernel) (p : VPid) → is_prompt (two_free k p) ≡ true
unfolding two_free
two_prompt k p = prompt_then (free_from k p 0) _ (free_prompt k p 0) (λ first. prompt_then (free_from k p (first + 1)) _ (free_prompt k p (first + 1)) (λ second. refl))

module _ (k : PlainKernel) (p : VPid) (fd other : ℕ) (free : free_from k p 0 ≡ Gives fd) (free_other : free_from k p (fd + 1) ≡ Gives other) where
  first_place : IsFreeFrom k.descriptors p 0 fd
  first_place = free_is k p 0 fd free

  second_place : IsFreeFrom k.descriptors p (fd + 1) other
  second_place = free_is k p (fd + 1) other free_other

  module _ (is : IsKernel k) (alive : is_live k p ≡ true) where
    module _ (flags : ℕ) (room : has_channel_room k p ≡ true) where
      whole_pipe : IsKernel (with_pipe k p flags fd other)
      whole_pipe = whole_ends k p Pipe (has_flag flags O_CLOEXEC) (new_end fd 1 (end_flags 0 flags)) (new_end other 0 (end_flags O_WRONLY flags)) is alive room tt first_place second_place
          (sound_flags 0 flags (omega arith)) (sound_flags O_WRONLY flags (omega arith)) (record { is_side = omega arith; mode = λ pipe. status_mode 0 flags (omega arith) })
          (record { is_side = omega arith; mode = λ pipe. status_mode O_WRONLY flags (omega arith) })
          sides (λ same. omega arith)
        where
          sides : (s : ℕ) → s < 2 → (s ≡ 1) ⊎ (s ≡ 0)
          sides zero low = inr refl
          sides (suc zero) low = inl refl
          sides (suc (suc n)) low = absurd (omega arith)

      whole_stream_pair : IsKernel (with_stream_pair k p flags fd other)
      whole_stream_pair = whole_ends k p Pair (has_flag flags O_CLOEXEC) (new_end fd 0 (end_flags O_RDWR flags)) (new_end other 1 (end_flags O_RDWR flags)) is alive room tt first_place second_place
          (sound_flags O_RDWR flags (omega arith)) (sound_flags O_RDWR flags (omega arith)) (record { is_side = omega arith; mode = λ pipe. cc })
          (record { is_side = omega arith; mode = λ pipe. cc })
          sides (λ same. omega arith)
        where
          sides : (s : ℕ) → s < 2 → (s ≡ 0) ⊎ (s ≡ 1)
          sides zero low = inl refl
          sides (suc zero) low = inr refl
          sides (suc (suc n)) low = absurd (omega arith)

    whole_datagram_pair : (flags : ℕ) → has_numbers k p ≡ true → IsKernel (with_datagram_pair k p flags fd other)
    whole_datagram_pair flags has = whole_datagrams k p (has_flag flags O_CLOEXEC) (end_flags O_RDWR flags) fd other is alive has first_place second_place (sound_flags O_RDWR flags (omega arith))

module _ (k : PlainKernel) (p : VPid) (t : ℕ) (given : List ℕ) where
  pub pipe2_law : (place flags : ℕ) → RowLaw k p t (Pipe2 place flags) given
  unfolding row is_ready pipe2_row
  pipe2_law place flags = row_law k p t (Pipe2 place flags) given (λ e. quiet t (Pipe2 place flags) _ refl)
      (after (need (are_making_flags flags) EINVAL) (λ may allowed. after (need (has_channel_room k p) ENFILE) (λ room has. after (two_free k p) (λ fds free.
      succeeds _ (record {
        short = omega arith;
        law = λ asked. stays k p t (Pipe2 place flags) given asked _ (pipe_answer _ place flags fds.0 fds.1 given)
            (let are = (two_are_free k p).each fds free in whole_pipe k p fds.0 fds.1 are.first are.second asked.kernel asked.alive flags (needed (has_channel_room k p) ENFILE room has))
            (ends_living k p Pipe (has_flag flags O_CLOEXEC) (new_end fds.0 1 (end_flags 0 flags)) (new_end fds.1 0 (end_flags O_WRONLY flags))) (omega arith) (quiet t (Pipe2 place flags) _ refl);
      })))))
      (settles k _ (prompt_then (need (are_making_flags flags) EINVAL) _ (prompt_need _ EINVAL) (λ may. prompt_then (need (has_channel_room k p) ENFILE) _ (prompt_need _ ENFILE)
      (λ room. prompt_then (two_free k p) _ (two_prompt k p) (λ fds. refl)))))

  module _ (domain socket_type protocol place : ℕ) where
    abbrev call : Request
    call = Socketpair domain socket_type protocol place

    streams_meet : Trying (stream_pair k p socket_type) (Meets k p t (Socketpair domain socket_type protocol place) given)
    unfolding stream_pair
    streams_meet = after (need (has_channel_room k p) ENFILE) (λ room has. after (two_free k p) (λ fds free.
        succeeds _ (record {
          short = omega arith;
          law = λ asked. stays k p t call given asked _ (pair_answer _ domain socket_type protocol place fds.0 fds.1 given)
              (let are = (two_are_free k p).each fds free in whole_stream_pair k p fds.0 fds.1 are.first are.second asked.kernel asked.alive socket_type (needed (has_channel_room k p) ENFILE room has))
              (ends_living k p Pair (has_flag socket_type O_CLOEXEC) (new_end fds.0 0 (end_flags O_RDWR socket_type)) (new_end fds.1 1 (end_flags O_RDWR socket_type))) (omega arith) (quiet t call _ refl);
        })))

    datagrams_meet : Trying (datagram_pair k p socket_type) (Meets k p t (Socketpair domain socket_type protocol place) given)
    unfolding datagram_pair
    datagrams_meet = after (need (has_numbers k p) ENFILE) (λ room has. after (two_free k p) (λ fds free.
        succeeds _ (record {
          short = omega arith;
          law = λ asked. stays k p t call given asked _ (pair_answer _ domain socket_type protocol place fds.0 fds.1 given)
              (let are = (two_are_free k p).each fds free in whole_datagram_pair k p fds.0 fds.1 are.first are.second asked.kernel asked.alive socket_type (needed (has_numbers k p) ENFILE room has))
              (datagrams_living k p (has_flag socket_type O_CLOEXEC) (end_flags O_RDWR socket_type) fds.0 fds.1) (omega arith) (quiet t call _ refl);
        })))

    pair_prompt : (b : Bool) → is_prompt (cond b (stream_pair k p socket_type) (datagram_pair k p socket_type)) ≡ true
    unfolding stream_pair datagram_pair
    pair_prompt true = prompt_then (need (has_channel_room k p) ENFILE) _ (prompt_need _ ENFILE)
        (λ room. prompt_then (two_free k p) _ (two_prompt k p) (λ fds. refl))
    pair_prompt false = prompt_then (need (has_numbers k p) ENFILE) _ (prompt_need _ ENFILE)
        (λ room. prompt_then (two_free k p) _ (two_prompt k p) (λ fds. refl))

    pub socketpair_law : RowLaw k p t (Socketpair domain socket_type protocol place) given
    unfolding row is_ready socketpair_row
    socketpair_law = row_law k p t call given (λ e. quiet t call _ refl)
        (after (need (not (domain == 2)) EOPNOTSUPP) (λ other named. after (need (domain == 1) EAFNOSUPPORT) (λ own known. after (need (is_pair_type socket_type && (protocol == 0)) EINVAL) (λ may allowed.
        or_try (socket_type % 16 == STREAMS) (stream_pair k p socket_type) (datagram_pair k p socket_type) streams_meet datagrams_meet))))
        (settles k _ (prompt_then (need (not (domain == 2)) EOPNOTSUPP) _ (prompt_need _ EOPNOTSUPP) (λ other. prompt_then (need (domain == 1) EAFNOSUPPORT) _ (prompt_need _ EAFNOSUPPORT)
        (λ own. prompt_then (need (is_pair_type socket_type && (protocol == 0)) EINVAL) _ (prompt_need _ EINVAL) (λ may. pair_prompt (socket_type % 16 == STREAMS))))))
