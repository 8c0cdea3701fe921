-- The kernel after a socket listens, after a connection is taken, and after a socket connects.
-- Source: `man 2 listen`, `man 2 accept`, `man 2 connect`.
--     with_listener, with_accepted, with_connected
--     Takes old new who found a      a connection is at the lowest free number, or none is free
use Rattle.std.specs.Prelude.{◌≡◌, ℕ, false, None}
use Rattle.std.specs.FinMap as map
use Rattle.sys_abi.specs.declared.identity.RealPid.{RealPid}
use Rattle.sys_abi.specs.declared.identity.RealAddr.{RealAddr}
use Rattle.sys_abi.specs.declared.errors.TheConstants.{EMFILE}
use Rattle.sys_abi.specs.declared.flags.TheConstants.{O_RDWR}
use Rattle.fd_tables.specs.declared.description.Desc.{Desc}
use Rattle.fd_tables.specs.declared.description.Object.TheVariants.{Stream, Listener}
use Rattle.fd_tables.specs.Numbers.{AllUsed, IsLowestFree}
use Rattle.fd_tables.specs.Parts.{with_object}
use Rattle.fd_tables.specs.Slots as slots
use Rattle.fd_book.specs.Books.{with_changed, with_descriptor}
use Rattle.virt_ids.specs.Changes.{at_key}
use Rattle.wire_channels.specs.Channels as channels
use Rattle.wire_channels.specs.Listeners as listeners
use Rattle.host_descriptors.specs.declared.held.Held.{Held}
use Rattle.host_descriptors.specs.OfHostTables.declared.attempt.Attempt.{Attempt}
use Rattle.host_descriptors.specs.OfHostTables.declared.attempt.Attempt.TheVariants.{Gives, Fails, NotReady}
use Rattle.host_descriptors.specs.OfHostTables.declared.kernel.Kernel.{Kernel}
use Rattle.host_sockets.specs.declared.accepting.Accepting.{Accepting}
use Rattle.host_sockets.specs.declared.connecting.Connecting.{Connecting}

abbrev pub with_listener : Kernel → Held → RealAddr → ℕ → Kernel
with_listener old h at backlog = record old {
  book = with_changed (with_object (Listener at)) old.book h.desc;
  net = record old.net { listeners = map.insert old.net.listeners at (listeners.new_listener backlog) };
}

-- the description of a connection that was taken
abbrev pub taken_stream : Accepting → Desc
taken_stream found = record { object = Stream found.conn 1; flags = O_RDWR; owner = None }

abbrev pub with_accepted : Kernel → RealPid → Accepting → ℕ → Kernel
with_accepted old who found fd = record old {
  book = with_descriptor
      (record old.book { descriptions = map.insert old.book.descriptions found.id (taken_stream found) })
      (slots.slot who fd) found.id false;
  net = record old.net { listeners = at_key old.net.listeners found.at listeners.without_first };
}

pub record TakesAt (old new : Kernel) (who : RealPid) (found : Accepting) (fd : ℕ) : Type 0 where
  pub lowest : IsLowestFree old.book.descriptors who 0 fd
  pub after : new ≡ with_accepted old who found fd

pub record TakesNone (old new : Kernel) (who : RealPid) (e : ℕ) : Type 0 where
  pub used : AllUsed old.book.descriptors who 0
  pub error : e ≡ EMFILE
  pub same : new ≡ old

abbrev pub Takes : Kernel → Kernel → RealPid → Accepting → Attempt → Type 0
Takes old new who found (Gives fd) = TakesAt old new who found fd
Takes old new who found (Fails e) = TakesNone old new who e.0
Takes old new who found NotReady = ⊥

abbrev pub with_connected : Kernel → Connecting → Kernel
with_connected old c = record old {
  book = with_changed (with_object (Stream c.conn 0)) old.book c.held.desc;
  net = record old.net {
    listeners = at_key old.net.listeners c.at (listeners.with_last c.conn);
    channels = map.insert old.net.channels c.conn channels.new_channel;
  };
}
