-- The rows of pipe2 and socketpair, by what makes their ends.
--     pipe_refused, pipe_told               pipe2's
--     streams_told, datagrams_told          those of a pair of either type
--     pair_is                               socketpair's, by its tests
use Rattle.std.proofs.Common.{◌≡◌, ℕ, Bool, true, false, cond, refl, sym, ap, ◌∙◌}
use Rattle.std.specs.Prelude.{◌==◌, ◌&&◌, ◌%◌, not}
use Rattle.views.specs.Numbers.{Flags}
use Rattle.sys_abi.specs.declared.errors.TheConstants.{EINVAL, ENFILE, EAFNOSUPPORT, EOPNOTSUPP}
use Rattle.sys_abi.specs.declared.flags.TheConstants.{O_WRONLY, O_RDWR, O_CLOEXEC}
use Rattle.sys_abi.specs.declared.identity.VPid.{VPid}
use Rattle.sys_abi.specs.Flags.{has_flag}
use Rattle.plain_tables.specs.declared.channel.ChannelKind.TheVariants.{Pair, Pipe}
use Rattle.plain_process.specs.Attempts.{Try, Fails}
use Rattle.plain_machine.specs.declared.kernel.PlainKernel.{PlainKernel}
use Rattle.plain_machine.specs.Attempts.{Served}
use Rattle.plain_machine.specs.Kernel.{has_numbers}
use Rattle.plain_machine.specs.Making.{are_making_flags, end_flags, has_channel_room}
use Rattle.plain_machine.specs.Rows.Channels.{STREAMS, is_pair_type, pipe2_row, stream_pair, datagram_pair, socketpair_row}
use Rattle.host_makers.specs.declared.channels.StreamEnd.{StreamEnd}
use Rattle.host_makers.specs.Ends.{with_channel_ends, channel_row, datagram_row}
use Rattle.host_makers.proofs.ChannelRows.{no_room, channel_is, datagram_is}
use Rattle.host_makers.proofs.MadeRows.{after_test, refused, passed}

abbrev pub at_side : ℕ → Flags → StreamEnd
at_side side flags = record { side = side; flags = flags }

abbrev pub reader : Flags → StreamEnd
reader flags = at_side 1 (end_flags 0 flags)

abbrev pub writer : Flags → StreamEnd
writer flags = at_side 0 (end_flags O_WRONLY flags)

no_numbers : (left room : Bool) → left ≡ false → (left && room) ≡ false
no_numbers left room is = ap (λ b. b && room) is

module _ (k : PlainKernel) (p : VPid) where
  no_channel_room : has_numbers k p ≡ false → has_channel_room k p ≡ false
  no_channel_room is = no_numbers (has_numbers k p) _ is

  module _ (flags : Flags) where
    abbrev closes : Bool
    closes = has_flag flags O_CLOEXEC

    abbrev pipe : Try Served
    pipe = channel_row k p Pipe closes (reader flags) (writer flags)

    pipe_by : (valid : Bool) → are_making_flags flags ≡ valid → pipe2_row k p flags
        ≡ after_test valid EINVAL pipe
    unfolding pipe2_row channel_row
    pipe_by valid is = ap (λ b. after_test b EINVAL pipe) is

    pub pipe_refused : are_making_flags flags ≡ false → pipe2_row k p flags ≡ Fails EINVAL
    pipe_refused is = pipe_by false is ∙ refused EINVAL pipe

    pub pipe_is : are_making_flags flags ≡ true → pipe2_row k p flags ≡ pipe
    pipe_is is = pipe_by true is ∙ passed EINVAL pipe

    -- as the code makes it
    pub pipe_told : are_making_flags flags ≡ true → (cloexec : Bool) (read write : ℕ) → cloexec ≡ closes
        → read ≡ end_flags 0 flags → write ≡ end_flags O_WRONLY flags
        → channel_row k p Pipe cloexec (at_side 1 read) (at_side 0 write) ≡ pipe2_row k p flags
    pipe_told is cloexec read write is_cloexec is_read is_write =
        (λ i. channel_row k p Pipe (is_cloexec i) (at_side 1 (is_read i)) (at_side 0 (is_write i)))
        ∙ sym (pipe_is is)

    pub pipe_unnumbered : are_making_flags flags ≡ true → has_numbers k p ≡ false → pipe2_row k p flags
        ≡ Fails ENFILE
    pipe_unnumbered is none =
        pipe_is is ∙ channel_is k p closes Pipe (reader flags) (writer flags) false _ (no_channel_room none)
        refl
        ∙ no_room _ (with_channel_ends k p Pipe closes (reader flags) (writer flags))

    abbrev streams : Try Served
    streams = channel_row k p Pair closes (at_side 0 (end_flags O_RDWR flags))
        (at_side 1 (end_flags O_RDWR flags))

    pub stream_pair_is : stream_pair k p flags ≡ streams
    unfolding stream_pair channel_row
    stream_pair_is = refl

    pub streams_told : (cloexec : Bool) (status : ℕ) → cloexec ≡ closes → status ≡ end_flags O_RDWR flags
        → channel_row k p Pair cloexec (at_side 0 status) (at_side 1 status) ≡ stream_pair k p flags
    streams_told cloexec status is_cloexec is_status =
        (λ i. channel_row k p Pair (is_cloexec i) (at_side 0 (is_status i)) (at_side 1 (is_status i)))
        ∙ sym stream_pair_is

    pub streams_unnumbered : has_numbers k p ≡ false → stream_pair k p flags ≡ Fails ENFILE
    streams_unnumbered is =
        stream_pair_is
        ∙ channel_is k p closes Pair (at_side 0 (end_flags O_RDWR flags))
        (at_side 1 (end_flags O_RDWR flags)) false _
        (no_channel_room is) refl
        ∙ no_room _ (with_channel_ends k p Pair closes (at_side 0 (end_flags O_RDWR flags))
        (at_side 1 (end_flags O_RDWR flags)))

    pub datagram_pair_is : datagram_pair k p flags ≡ datagram_row k p closes (end_flags O_RDWR flags)
    unfolding datagram_pair datagram_row
    datagram_pair_is = refl

    pub datagrams_told : (cloexec : Bool) (status : ℕ) → cloexec ≡ closes → status ≡ end_flags O_RDWR flags
        → datagram_row k p cloexec status ≡ datagram_pair k p flags
    datagrams_told cloexec status is_cloexec is_status =
        (λ i. datagram_row k p (is_cloexec i) (is_status i)) ∙ sym datagram_pair_is

    pub datagrams_unnumbered : has_numbers k p ≡ false → datagram_pair k p flags ≡ Fails ENFILE
    datagrams_unnumbered is =
        datagram_pair_is ∙ datagram_is k p closes (end_flags O_RDWR flags) false _ is refl ∙ no_room _ _

  -- the tests of socketpair

  module _ (domain socket_type protocol : ℕ) where
    abbrev pub of_type : Bool → Try Served
    of_type stream = cond stream (stream_pair k p socket_type) (datagram_pair k p socket_type)

    abbrev is_pair : Bool
    is_pair = is_pair_type socket_type && (protocol == 0)

    tested : (internet unix valid stream : Bool) → (domain == 2) ≡ internet → (domain == 1) ≡ unix
        → is_pair ≡ valid
        → (socket_type % 16 == STREAMS) ≡ stream
        → socketpair_row k p domain socket_type protocol
        ≡ after_test (not internet) EOPNOTSUPP
        (after_test unix EAFNOSUPPORT (after_test valid EINVAL (of_type stream)))
    unfolding socketpair_row
    tested internet unix valid stream is_internet is_unix is_valid is_streams =
        λ i. after_test (not (is_internet i)) EOPNOTSUPP
        (after_test (is_unix i) EAFNOSUPPORT (after_test (is_valid i) EINVAL (of_type (is_streams i))))

    pub pair_internet : (domain == 2) ≡ true → socketpair_row k p domain socket_type protocol
        ≡ Fails EOPNOTSUPP
    pair_internet is = tested true _ _ _ is refl refl refl ∙ refused EOPNOTSUPP _

    pub pair_foreign : (domain == 2) ≡ false → (domain == 1) ≡ false
        → socketpair_row k p domain socket_type protocol ≡ Fails EAFNOSUPPORT
    pair_foreign is other =
        tested false false _ _ is other refl refl ∙ passed EOPNOTSUPP _ ∙ refused EAFNOSUPPORT _

    pub pair_refused : (domain == 2) ≡ false → (domain == 1) ≡ true → is_pair ≡ false
        → socketpair_row k p domain socket_type protocol ≡ Fails EINVAL
    pair_refused is unix invalid =
        tested false true false _ is unix invalid refl ∙ passed EOPNOTSUPP _ ∙ passed EAFNOSUPPORT _
        ∙ refused EINVAL _

    pub pair_is : (stream : Bool) → (domain == 2) ≡ false → (domain == 1) ≡ true → is_pair ≡ true
        → (socket_type % 16 == STREAMS) ≡ stream
        → socketpair_row k p domain socket_type protocol ≡ of_type stream
    pair_is stream is unix valid is_streams =
        tested false true true stream is unix valid is_streams ∙ passed EOPNOTSUPP _ ∙ passed EAFNOSUPPORT _
        ∙ passed EINVAL _
