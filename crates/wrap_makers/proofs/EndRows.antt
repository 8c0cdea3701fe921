-- What the calls that make sockets, pipes and pairs of sockets leave of what the pairs are about.
--     MakesIn k p n entry k'       p has made so many things more, with this entry, and all else is kept
--     Makes k p n entry served     that a call does so, and answers a value
--     socket_makes, pipe_makes, pair_makes      each of these calls
use Rattle.std.proofs.Common.{◌≡◌, ◌≢◌, ℕ, ◌+◌, ◌-◌, ◌^◌, ◌<◌, ◌≤◌, Bool, true, false, cond, Option, Some, None, refl, sym, ap, ◌∙◌, subst, arith}
use Rattle.std.specs.Prelude.{◌==◌, ◌&&◌, ◌||◌, ◌%◌, not}
use Rattle.std.specs.FinMap as map
use Rattle.std.proofs.lemmas.Bool.Decides.{nat_tests}
use Rattle.views.proofs.MapLaws.{true_false, get_insert_same, get_insert_other}
use Rattle.views.specs.Numbers.{Flags}
use Rattle.sys_abi.specs.declared.identity.VPid.{VPid}
use Rattle.sys_abi.specs.declared.identity.DescId.{DescId}
use Rattle.sys_abi.specs.declared.identity.VirtAddr.{VirtAddr}
use Rattle.sys_abi.specs.declared.errors.TheConstants.{EINVAL, ENFILE, EOPNOTSUPP, EAFNOSUPPORT}
use Rattle.sys_abi.specs.declared.flags.TheConstants.{O_CLOEXEC, O_NONBLOCK, O_RDWR, O_WRONLY}
use Rattle.sys_abi.specs.declared.reply.Reply.TheVariants.{Value}
use Rattle.sys_abi.specs.Flags.{has_flag}
use Rattle.sys_abi.proofs.OrderLaws.{desc_total, desc_exact}
use Rattle.plain_process.specs.Attempts.{Gives, need}
use Rattle.plain_tables.specs.declared.description.Description.{Description}
use Rattle.plain_tables.specs.declared.description.Object.TheVariants as object
use Rattle.plain_tables.specs.Tables.{Channels, changed_at, made_more}
use Rattle.plain_machine.specs.declared.kernel.PlainKernel.{PlainKernel}
use Rattle.plain_machine.specs.declared.new_end.NewEnd.{NewEnd}
use Rattle.plain_machine.specs.Addresses.{AF_INET, address_at}
use Rattle.plain_machine.specs.Attempts.{Served}
use Rattle.plain_machine.specs.Channels.{open_channel}
use Rattle.plain_machine.specs.Kernel.{free_from, has_numbers, host_of, made_of, numbered, placed, is_live}
use Rattle.plain_machine.specs.Kernels.{IsKernel}
use Rattle.plain_machine.specs.Making.{are_making_flags, conn_id, desc_id, end_flags, has_channel_room, with_datagrams, with_ends}
use Rattle.plain_machine.specs.Rows.Channels.{STREAMS, two_free, new_end, pipe2_row, is_pair_type, stream_pair, datagram_pair, socketpair_row}
use Rattle.plain_machine.specs.Rows.Sockets.{socket_row}
use Rattle.plain_machine.specs.SocketWords.{is_stream_type, next_description, socket_flags}
use Rattle.plain_machine.proofs.LocalReplies.{needed}
use Rattle.plain_machine.proofs.MadeNumbers.{maker_of, made_is}
use Rattle.plain_machine.proofs.Trying.{Trying, succeeds, after}
use Rattle.host_tables.specs.Network.{kind_of}
use Rattle.host_tables.specs.Serves.{PAIR, PIPE}
use Rattle.host_tables.specs.Systems.{is_named_in}
use Rattle.wrap_makers.specs.declared.entries.Entry.{Entry}
use Rattle.wrap_makers.specs.declared.entries.Entry.TheVariants.{Nothing, Name, Channel}
use Rattle.wrap_makers.specs.Making.{name_of, channel_of, three_ids}

abbrev pub channels_with : Channels → Entry → Channels
channels_with channels (Channel id kind) = map.insert channels id (open_channel (kind_of kind) None None)
channels_with channels _ = channels

-- a name is that of a socket
abbrev pub HasNamed : PlainKernel → Entry → Type 0
HasNamed k (Name id address) = is_named_in (map.get k.descriptions id) ≡ true
HasNamed k _ = Unit {0}

pub record MakesIn (k : PlainKernel) (p : VPid) (n : ℕ) (entry : Entry) (k' : PlainKernel) : Type 0 where
  pub processes : k'.processes ≡ k.processes
  pub listeners : k'.listeners ≡ k.listeners
  pub names : (id : DescId) → is_named_in (map.get k.descriptions id) ≡ true
      → is_named_in (map.get k'.descriptions id) ≡ true
  pub named : HasNamed k' entry
  pub channels : k'.channels ≡ channels_with k.channels entry
  pub makers : k'.makers ≡ changed_at k.makers p (made_more n)
  pub next : k'.next_id ≡ k.next_id
  pub room : made_of k p < 2 ^ 32 - 4

pub record Makes (k : PlainKernel) (p : VPid) (n : ℕ) (entry : Entry) (served : Served) : Type 0 where
  pub kernel : MakesIn k p n entry served.kernel
  pub value : ℕ
  pub answers : served.reply ≡ Value value

-- the entry for the next numbers, if there are any left
abbrev pub name_by : PlainKernel → VPid → Bool → Entry
name_by k p left = name_of (cond left (Some (desc_id p (made_of k p))) None) (host_of k p)

abbrev pub channel_by : PlainKernel → VPid → ℕ → Bool → Entry
channel_by k p kind left = channel_of (cond left (Some (three_ids p (made_of k p))) None) kind

abbrev pub pair_entry : PlainKernel → VPid → Bool → Entry
pair_entry k p streams = cond streams (channel_by k p PAIR (has_numbers k p)) Nothing

left_of : (a b : Bool) → (a && b) ≡ true → a ≡ true
left_of true b e = refl
left_of false b e = e

module _ (k : PlainKernel) (p : VPid) (whole : IsKernel k) (alive : is_live k p ≡ true) where
  -- a number that was not given out is that of no description
  pub unmade : (num : ℕ) → made_of k p ≤ num → (o : Option Description)
      → map.get k.descriptions (desc_id p num) ≡ o → o ≡ None
  unfolding is_live
  unmade num from None is = refl
  unmade num from (Some x) is =
      let made = whole.made.opened (desc_id p num) x is in
      let m = maker_of k whole p alive in
      let less = made.below m.0 m.1 alive in
      let same : made_of k p ≡ m.0.made = made_is k whole p alive in
      absurd (omega (arith, less, same, from))

  apart : (num : ℕ) → made_of k p ≤ num → (q : DescId) → is_named_in (map.get k.descriptions q) ≡ true
      → q ≢ desc_id p num
  apart num from q h here =
      true_false (sym h ∙ ap is_named_in (ap (map.get k.descriptions) here
      ∙ unmade num from (map.get k.descriptions (desc_id p num)) refl))

  one_still : (num : ℕ) → made_of k p ≤ num → (x : Description) (q : DescId)
      → is_named_in (map.get k.descriptions q) ≡ true
      → is_named_in (map.get (map.insert k.descriptions (desc_id p num) x) q) ≡ true
  one_still num from x q h =
      ap is_named_in (get_insert_other desc_total desc_exact k.descriptions (desc_id p num) x q
      (apart num from q h)) ∙ h

  two_still : (a b : ℕ) → made_of k p ≤ a → made_of k p ≤ b → (x y : Description) (q : DescId)
      → is_named_in (map.get k.descriptions q) ≡ true
      → is_named_in (map.get (map.insert (map.insert k.descriptions (desc_id p a) x) (desc_id p b) y) q)
      ≡ true
  two_still a b from_a from_b x y q h =
      ap is_named_in (get_insert_other desc_total desc_exact (map.insert k.descriptions (desc_id p a) x)
      (desc_id p b) y q (apart b from_b q h)) ∙ one_still a from_a x q h

  module _ (has : has_numbers k p ≡ true) where
    room : made_of k p < 2 ^ 32 - 4
    room = grind (arith, nat_tests, has)

    socket_made : (fd : ℕ) (cloexec : Bool) (flags : Flags) (address : VirtAddr)
        → MakesIn k p 1 (Name (desc_id p (made_of k p)) address)
        (placed (numbered k p 1) p fd (desc_id p (made_of k p)) cloexec (object.Socket address) flags)
    socket_made fd cloexec flags address = record {
      processes = refl;
      listeners = refl;
      names = one_still (made_of k p) (omega arith) _;
      named =
          ap is_named_in (get_insert_same desc_total desc_exact k.descriptions (desc_id p (made_of k p))
          (record { object = object.Socket address; flags = flags; owner = 0 }));
      channels = refl;
      makers = refl;
      next = refl;
      room = room;
    }

    ends_made : (kind : ℕ) (cloexec : Bool) (first second : NewEnd)
        → MakesIn k p 3 (Channel (conn_id p (made_of k p)) kind)
        (with_ends k p (kind_of kind) cloexec first second)
    ends_made kind cloexec first second = record {
      processes = refl;
      listeners = refl;
      names = two_still (made_of k p + 1) (made_of k p + 2) (omega arith) (omega arith) _ _;
      named = tt;
      channels = refl;
      makers = refl;
      next = refl;
      room = room;
    }

    datagrams_made : (cloexec : Bool) (flags : Flags) (fd other : ℕ)
        → MakesIn k p 2 Nothing (with_datagrams k p cloexec flags fd other)
    datagrams_made cloexec flags fd other = record {
      processes = refl;
      listeners = refl;
      names = two_still (made_of k p) (made_of k p + 1) (omega arith) (omega arith) _ _;
      named = tt;
      channels = refl;
      makers = refl;
      next = refl;
      room = room;
    }

    -- with the entry of the numbers that are given out
    named_socket : (fd : ℕ) (cloexec : Bool) (flags : Flags)
        → MakesIn k p 1 (name_by k p (has_numbers k p))
        (placed (numbered k p 1) p fd (next_description k p) cloexec
        (object.Socket (address_at (host_of k p) 0)) flags)
    named_socket fd cloexec flags =
        subst (λ b. MakesIn k p 1 (name_by k p b) (placed (numbered k p 1) p fd (next_description k p) cloexec
        (object.Socket (address_at (host_of k p) 0)) flags)) (sym has)
        (socket_made fd cloexec flags (address_at (host_of k p) 0))

    listed_ends : (kind : ℕ) (cloexec : Bool) (first second : NewEnd)
        → MakesIn k p 3 (channel_by k p kind (has_numbers k p))
        (with_ends k p (kind_of kind) cloexec first second)
    listed_ends kind cloexec first second =
        subst (λ b. MakesIn k p 3 (channel_by k p kind b) (with_ends k p (kind_of kind) cloexec first second))
        (sym has) (ends_made kind cloexec first second)

  pub socket_makes : (domain socket_type protocol : ℕ)
      → Trying (socket_row k p domain socket_type protocol) (Makes k p 1 (name_by k p (has_numbers k p)))
  unfolding socket_row
  socket_makes domain socket_type protocol =
      after (need (domain == AF_INET) EAFNOSUPPORT) (λ local is_local.
      after (need (is_stream_type socket_type && ((protocol == 0) || (protocol == 6))) EINVAL) (λ sound is.
      after (need (has_numbers k p) ENFILE) (λ done has.
      after (free_from k p 0) (λ fd free.
      succeeds _ (record {
        kernel = named_socket (needed (has_numbers k p) ENFILE done has) fd (has_flag socket_type O_CLOEXEC)
            (socket_flags (has_flag socket_type O_NONBLOCK));
        value = fd;
        answers = refl;
      })))))

  has_both : (done : Unit {0}) → need (has_channel_room k p) ENFILE ≡ Gives done → has_numbers k p ≡ true
  has_both done has = left_of (has_numbers k p) _ (needed (has_channel_room k p) ENFILE done has)

  pub pipe_makes : (flags : Flags)
      → Trying (pipe2_row k p flags) (Makes k p 3 (channel_by k p PIPE (has_numbers k p)))
  unfolding pipe2_row
  pipe_makes flags =
      after (need (are_making_flags flags) EINVAL) (λ sound is_sound.
      after (need (has_channel_room k p) ENFILE) (λ done has.
      after (two_free k p) (λ fds free.
      succeeds _ (record {
        kernel = listed_ends (has_both done has) PIPE (has_flag flags O_CLOEXEC)
            (new_end fds.0 1 (end_flags 0 flags)) (new_end fds.1 0 (end_flags O_WRONLY flags));
        value = 0;
        answers = refl;
      }))))

  streams_make : (flags : Flags)
      → Trying (stream_pair k p flags) (Makes k p 3 (channel_by k p PAIR (has_numbers k p)))
  unfolding stream_pair
  streams_make flags =
      after (need (has_channel_room k p) ENFILE) (λ done has.
      after (two_free k p) (λ fds free.
      succeeds _ (record {
        kernel = listed_ends (has_both done has) PAIR (has_flag flags O_CLOEXEC)
            (new_end fds.0 0 (end_flags O_RDWR flags)) (new_end fds.1 1 (end_flags O_RDWR flags));
        value = 0;
        answers = refl;
      })))

  datagrams_make : (flags : Flags) → Trying (datagram_pair k p flags) (Makes k p 2 Nothing)
  unfolding datagram_pair
  datagrams_make flags =
      after (need (has_numbers k p) ENFILE) (λ done has.
      after (two_free k p) (λ fds free.
      succeeds _ (record {
        kernel = datagrams_made (needed (has_numbers k p) ENFILE done has) (has_flag flags O_CLOEXEC)
            (end_flags O_RDWR flags) fds.0 fds.1;
        value = 0;
        answers = refl;
      })))

  pair_by : (streams : Bool) (flags : Flags)
      → Trying (cond streams (stream_pair k p flags) (datagram_pair k p flags))
      (Makes k p (cond streams 3 2) (pair_entry k p streams))
  pair_by true flags = streams_make flags
  pair_by false flags = datagrams_make flags

  pub pair_makes : (domain socket_type protocol : ℕ)
      → Trying (socketpair_row k p domain socket_type protocol)
      (Makes k p (cond (socket_type % 16 == STREAMS) 3 2) (pair_entry k p (socket_type % 16 == STREAMS)))
  unfolding socketpair_row
  pair_makes domain socket_type protocol =
      after (need (not (domain == 2)) EOPNOTSUPP) (λ near is_near.
      after (need (domain == 1) EAFNOSUPPORT) (λ local is_local.
      after (need (is_pair_type socket_type && (protocol == 0)) EINVAL) (λ sound is_sound.
      pair_by (socket_type % 16 == STREAMS) socket_type)))
