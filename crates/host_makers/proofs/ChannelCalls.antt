-- A new channel, and a new datagram pair, over real numbers through the pairs.
--     channel_full, channel_lacks, channel_made      what the making of a channel answers
--     datagrams_lack, datagrams_made                 and of a datagram pair
use Rattle.std.proofs.Common.{◌≡◌, ℕ, ◌+◌, List, ◌++◌, Bool, true, false, Some, None, refl, sym, ap, ◌∙◌, subst}
use Rattle.std.specs.Prelude.{nat_le}
use Rattle.std.specs.FinMap as map
use Rattle.views.specs.Limits.{CHANNEL_LIMIT}
use Rattle.views.specs.Numbers.{Byte, Flags}
use Rattle.sys_abi.specs.declared.errors.TheConstants.{ENFILE, EMFILE}
use Rattle.sys_abi.specs.declared.identity.RealPid.{RealPid}
use Rattle.sys_abi.specs.declared.identity.VPid.{VPid}
use Rattle.conn_table.specs.Openings.{new_pair}
use Rattle.conn_table.specs.Pairs.{Pairs}
use Rattle.fd_book.specs.Books.{Books}
use Rattle.plain_process.specs.Attempts.{Try}
use Rattle.plain_process.specs.Memory.{low_bytes}
use Rattle.plain_machine.specs.declared.kernel.PlainKernel.{PlainKernel}
use Rattle.plain_machine.specs.Attempts.{Served}
use Rattle.plain_machine.specs.Kernel.{has_numbers, made_of}
use Rattle.plain_machine.specs.Making.{desc_id, conn_id, with_datagrams}
use Rattle.wire_channels.specs.Channels as channels
use Rattle.wire_net.specs.Networks.{Network}
use Rattle.host_tables.specs.declared.kernel.Kernel.{Kernel}
use Rattle.host_tables.specs.declared.attempt.Attempt.TheVariants as answer
use Rattle.host_tables.specs.declared.request.ChannelIds.{ChannelIds}
use Rattle.host_tables.specs.declared.request.PairIds.{PairIds}
use Rattle.host_tables.specs.Conditions.{AreNewEnds, AreNewChannel}
use Rattle.host_tables.specs.Network.{kind_of}
use Rattle.host_tables.specs.Requests.{next_channel, next_pair}
use Rattle.host_tables.specs.Serves.{After, Serves, ByNumber, same}
use Rattle.host_tables.specs.Stands.{Given, Stands, open_conn, with_conn}
use Rattle.host_makers.specs.declared.channels.StreamEnd.{StreamEnd}
use Rattle.host_makers.specs.Ends.{with_channel_ends, channel_row, channel_ends, datagram_row, datagram_ends}
use Rattle.host_makers.specs.Places.{LacksTwo, WasFull, WerePlaced}
use Rattle.host_makers.proofs.Answered.{refused_by, told_by, some_left}
use Rattle.host_makers.proofs.ChannelRows.{channel_is, datagram_is, both_lacked, no_room, both_given, room_full, room_left}
use Rattle.host_makers.proofs.FreePlaces.{two_given, two_lacked}
use Rattle.host_makers.proofs.NewDatagrams.{datagrams_kept}
use Rattle.host_makers.proofs.NewDescriptions.{channel_kept}

module _ (g : Given) (real : Kernel) (k : PlainKernel) (st : Stands g None real k) (p : VPid) (who : RealPid)
    (paired : map.get g.pids p.0 ≡ Some who) (cloexec : Bool) (before : List Byte) where
  module _ (kind : ℕ) (one other : StreamEnd) (ids : ChannelIds) (named : Some ids ≡ next_channel k p) where
    abbrev next_ids : ChannelIds
    next_ids = record {
      channel = conn_id p (made_of k p);
      first = desc_id p (made_of k p + 1);
      second = desc_id p (made_of k p + 2);
    }

    left : has_numbers k p ≡ true
    left = (some_left (has_numbers k p) ids next_ids named).0

    own : ids ≡ next_ids
    own = (some_left (has_numbers k p) ids next_ids named).1

    abbrev pub joins : After
    joins n m given = with_conn given (open_conn ids.channel kind None None)

    abbrev row : Try Served
    row = channel_row k p (kind_of kind) cloexec one other

    abbrev made : ℕ → ℕ → PlainKernel
    made = with_channel_ends k p (kind_of kind) cloexec one other

    pub channel_full : nat_le CHANNEL_LIMIT (map.len real.net.channels) ≡ true
        → Serves ByNumber joins g real real before before (answer.Fails (record { 0 = ENFILE })) row
    channel_full full =
        refused_by joins g real real before before row ENFILE
        (channel_is k p cloexec (kind_of kind) one other false _ (room_full g real k st p left full) refl
        ∙ no_room _ made) refl refl

    module _ (room : nat_le CHANNEL_LIMIT (map.len real.net.channels) ≡ false) (b : Books) where
      pub channel_lacks : WasFull real.book b (LacksTwo real.book.descriptors who)
          → Serves ByNumber joins g real (record real { book = b }) before before
          (answer.Fails (record { 0 = EMFILE })) row
      channel_lacks full =
          refused_by joins g real (record real { book = b }) before before row EMFILE
          (channel_is k p cloexec (kind_of kind) one other true _ (room_left g real k st p left room)
          (two_lacked g real k st p who paired full.lacks) ∙ both_lacked EMFILE made)
          (ap (λ (w : Books). record real { book = w }) full.same) refl

      pub channel_made : (t : Network) (first second : ℕ) (now : List Byte)
          → AreNewChannel real.book real.net (Some ids)
          → WerePlaced real.book b who (channel_ends ids cloexec one other) first second
          → t ≡ record real.net { channels = map.insert real.net.channels ids.channel channels.new_channel }
          → now ≡ low_bytes 4 first ++ low_bytes 4 second
          → Serves ByNumber joins g real (record real { book = b; net = t }) before now (answer.Gives 0) row
      channel_made t first second now new were joined told =
          told_by joins g real (record real { book = b; net = t }) before now row (made first second) first
          second
          (channel_is k p cloexec (kind_of kind) one other true _ (room_left g real k st p left room)
          (two_given g real k st p who paired first second were.lowest) ∙ both_given first second made) told
          (subst (λ (x : Books × Network). Stands (with_conn g (open_conn ids.channel kind None None)) None
          (record real { book = x.0; net = x.1 }) (made first second)) (λ i. (sym were.after i, sym joined i))
          (channel_kept g real k st p who paired first second kind cloexec one other ids new.0 new.1 own))

  module _ (flags : Flags) (ids : PairIds) (named : Some ids ≡ next_pair k p) where
    abbrev next_ends : PairIds
    next_ends = record { first = desc_id p (made_of k p); second = desc_id p (made_of k p + 1) }

    numbers : has_numbers k p ≡ true
    numbers = (some_left (has_numbers k p) ids next_ends named).0

    abbrev datagrams : Try Served
    datagrams = datagram_row k p cloexec flags

    abbrev pair : ℕ → ℕ → PlainKernel
    pair = with_datagrams k p cloexec flags

    module _ (b : Books) where
      pub datagrams_lack : WasFull real.book b (LacksTwo real.book.descriptors who)
          → Serves ByNumber same g real (record real { book = b }) before before
          (answer.Fails (record { 0 = EMFILE })) datagrams
      datagrams_lack full =
          refused_by same g real (record real { book = b }) before before datagrams EMFILE
          (datagram_is k p cloexec flags true _ numbers (two_lacked g real k st p who paired full.lacks)
          ∙ both_lacked EMFILE pair)
          (ap (λ (w : Books). record real { book = w }) full.same) refl

      pub datagrams_made : (queue : ℕ) → map.get real.datagrams queue ≡ None
          → AreNewEnds real.book ids.first ids.second
          → (pairs : Pairs) (first second : ℕ) (now : List Byte)
          → WerePlaced real.book b who (datagram_ends queue ids cloexec flags) first second
          → pairs ≡ map.insert real.datagrams queue (new_pair ids.first ids.second)
          → now ≡ low_bytes 4 first ++ low_bytes 4 second
          → Serves ByNumber same g real (record real { book = b; datagrams = pairs }) before now
          (answer.Gives 0) datagrams
      datagrams_made queue free new pairs first second now were opened told =
          told_by same g real (record real { book = b; datagrams = pairs }) before now datagrams
          (pair first second)
          first second
          (datagram_is k p cloexec flags true _ numbers
          (two_given g real k st p who paired first second were.lowest)
          ∙ both_given first second pair) told
          (subst (λ (x : Books × Pairs). Stands g None (record real { book = x.0; datagrams = x.1 })
          (pair first second)) (λ i. (sym were.after i, sym opened i))
          (datagrams_kept g real k st p who paired queue free ids new cloexec flags first second
          (some_left (has_numbers k p) ids next_ends named).1))
