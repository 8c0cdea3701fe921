-- The rows that make a channel or a datagram pair, test by test.
--     channel_is, datagram_is      by the tests of room and of descriptors
--     room_is                      the plain test of room, by the network's
use Rattle.std.proofs.Common.{◌≡◌, ℕ, Bool, true, false, None, refl, arith}
use Rattle.std.specs.Prelude.{◌&&◌, nat_lt, nat_le}
use Rattle.std.specs.FinMap as map
use Rattle.std.proofs.lemmas.Bool.Decides.{nat_tests}
use Rattle.views.specs.Limits.{CHANNEL_LIMIT}
use Rattle.views.specs.Numbers.{Flags}
use Rattle.sys_abi.specs.declared.errors.TheConstants.{ENFILE}
use Rattle.sys_abi.specs.declared.identity.VPid.{VPid}
use Rattle.plain_tables.specs.declared.channel.ChannelKind.{ChannelKind}
use Rattle.plain_process.specs.Attempts.{Try, Fails, Gives, and_then, need}
use Rattle.plain_machine.specs.declared.kernel.PlainKernel.{PlainKernel}
use Rattle.plain_machine.specs.Attempts.{Served}
use Rattle.plain_machine.specs.Kernel.{has_numbers}
use Rattle.plain_machine.specs.Making.{has_channel_room, with_datagrams}
use Rattle.plain_machine.specs.Rows.Channels.{two_free, numbers_answered}
use Rattle.host_tables.specs.declared.kernel.Kernel.{Kernel}
use Rattle.host_tables.specs.Stands.{Given, Stands}
use Rattle.host_tables.proofs.ChannelChanges.{same_channels}
use Rattle.host_makers.specs.declared.channels.StreamEnd.{StreamEnd}
use Rattle.host_makers.specs.Ends.{with_channel_ends, channel_row, datagram_row}

abbrev pub both_at : Bool → Try (ℕ × ℕ) → (ℕ → ℕ → PlainKernel) → Try Served
both_at room free made =
    and_then (need room ENFILE)
    (λ _. and_then free (λ fds. Gives (numbers_answered (made fds.0 fds.1) fds.0 fds.1)))

module _ (k : PlainKernel) (p : VPid) (cloexec : Bool) where
  pub channel_is : (kind : ChannelKind) (one other : StreamEnd) (room : Bool) (free : Try (ℕ × ℕ))
      → has_channel_room k p ≡ room → two_free k p ≡ free
      → channel_row k p kind cloexec one other
      ≡ both_at room free (with_channel_ends k p kind cloexec one other)
  unfolding channel_row
  channel_is kind one other room free is_room is_free =
      λ i. both_at (is_room i) (is_free i) (with_channel_ends k p kind cloexec one other)

  pub datagram_is : (flags : Flags) (left : Bool) (free : Try (ℕ × ℕ)) → has_numbers k p ≡ left
      → two_free k p ≡ free
      → datagram_row k p cloexec flags ≡ both_at left free (with_datagrams k p cloexec flags)
  unfolding datagram_row
  datagram_is flags left free is_left is_free =
      λ i. both_at (is_left i) (is_free i) (with_datagrams k p cloexec flags)

-- a row that finds no two descriptors, or no room
pub both_lacked : (e : ℕ) (made : ℕ → ℕ → PlainKernel) → both_at true (Fails e) made ≡ Fails e
unfolding and_then need
both_lacked e made = refl

pub no_room : (free : Try (ℕ × ℕ)) (made : ℕ → ℕ → PlainKernel) → both_at false free made ≡ Fails ENFILE
unfolding and_then need
no_room free made = refl

pub both_given : (first second : ℕ) (made : ℕ → ℕ → PlainKernel)
    → both_at true (Gives (first, second)) made ≡ Gives (numbers_answered (made first second) first second)
unfolding and_then need
both_given first second made = refl

-- room for a channel more

full_by : (n m : ℕ) → m ≡ n → nat_le CHANNEL_LIMIT m ≡ true → nat_lt n CHANNEL_LIMIT ≡ false
full_by n m is full = grind (arith, nat_tests, is, full)

left_by : (n m : ℕ) → m ≡ n → nat_le CHANNEL_LIMIT m ≡ false → nat_lt n CHANNEL_LIMIT ≡ true
left_by n m is left = grind (arith, nat_tests, is, left)

module _ (g : Given) (real : Kernel) (k : PlainKernel) (st : Stands g None real k) (p : VPid)
    (numbers : has_numbers k p ≡ true) where
  as_many : map.len real.net.channels ≡ map.len k.channels
  as_many = same_channels g.conns k.channels real.net.channels st.channels

  pub room_full : nat_le CHANNEL_LIMIT (map.len real.net.channels) ≡ true → has_channel_room k p ≡ false
  room_full full =
      λ i. numbers i && full_by (map.len k.channels) (map.len real.net.channels) as_many full i

  pub room_left : nat_le CHANNEL_LIMIT (map.len real.net.channels) ≡ false → has_channel_room k p ≡ true
  room_left left =
      λ i. numbers i && left_by (map.len k.channels) (map.len real.net.channels) as_many left i
