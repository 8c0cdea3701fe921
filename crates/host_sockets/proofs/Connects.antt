-- A socket connects, through the pairs.
--     connects          the kernel after it
use Rattle.std.proofs.Common.{◌≡◌, ℕ, List, [], ◌∷◌, ◌++◌, Some, None, sym, ap, ◌∙◌, subst}
use Rattle.std.specs.FinMap as map
use Rattle.views.proofs.Seen.{agree_found}
use Rattle.sys_abi.specs.declared.identity.ConnId.{ConnId}
use Rattle.sys_abi.specs.declared.identity.VPid.{VPid}
use Rattle.sys_abi.specs.declared.identity.RealPid.{RealPid}
use Rattle.fd_book.specs.Books.{Books}
use Rattle.fd_tables.specs.declared.description.Desc.{Desc}
use Rattle.fd_tables.specs.declared.description.Object.TheVariants as object
use Rattle.fd_tables.specs.Parts.{with_object}
use Rattle.fd_tables.specs.Slots as slots
use Rattle.plain_tables.specs.declared.channel.ChannelKind.TheVariants.{Internet}
use Rattle.plain_tables.specs.declared.channel.Listening.{Listening}
use Rattle.plain_tables.specs.declared.description.Object.TheVariants.{Stream}
use Rattle.plain_tables.specs.Tables as plain_tables
use Rattle.plain_machine.specs.declared.kernel.PlainKernel.{PlainKernel}
use Rattle.plain_machine.specs.Channels.{open_channel, with_channel}
use Rattle.plain_machine.specs.Kernel as plain
use Rattle.plain_machine.specs.Kernel.{numbered, with_object as with_plain}
use Rattle.plain_machine.specs.Rows.Connections as rows
use Rattle.plain_machine.specs.SocketWords as words
use Rattle.wire_channels.specs.declared.listener.Listener.{Listener}
use Rattle.wire_channels.specs.Channels as channels
use Rattle.wire_channels.specs.Listeners as listeners
use Rattle.host_descriptors.specs.OfHostTables.declared.kernel.Kernel.{Kernel}
use Rattle.host_descriptors.specs.OfHostTables.Datagrams.{inbox_of}
use Rattle.host_descriptors.specs.OfHostTables.Network.{SameListener}
use Rattle.host_descriptors.specs.OfHostTables.Serves.{INTERNET}
use Rattle.host_descriptors.specs.OfHostTables.Stands.{Given, Stands, open_conn, with_conn}
use Rattle.host_descriptors.proofs.OfHostTables.ChannelChanges.{channel_made}
use Rattle.host_descriptors.proofs.OfHostTables.DescriptionChanges.{description_changed}
use Rattle.host_descriptors.proofs.OfHostTables.ListenerChanges.{listener_put}
use Rattle.host_descriptors.proofs.OfHostTables.LookUps.{some_value}
use Rattle.host_descriptors.proofs.OfHostTables.MakerChanges.{made_kept}
use Rattle.host_descriptors.specs.Held.{seen_held}
use Rattle.host_descriptors.proofs.HeldChanges.{held_by}
use Rattle.host_sockets.specs.declared.connecting.Connecting.{Connecting}
use Rattle.host_sockets.specs.Changes.{with_connected}
use Rattle.host_sockets.proofs.ConnectTests.{IsConnecting}
use Rattle.host_sockets.proofs.Listens.{changed_there}
use Rattle.host_sockets.proofs.ListenersTold.{at_key_is, changed_is}

no_datagram : (queue side : ℕ) → object.Socket ≡ object.Datagram queue side → ⊥
no_datagram queue side e = cc

module _ (g : Given) (real : Kernel) (k : PlainKernel) (st : Stands g None real k) (p : VPid) (who : RealPid)
    (fd : ℕ) (x : rows.Connecting) (y : Connecting) (is : IsConnecting g real k p who fd x y)
    (new : map.get real.net.channels y.conn ≡ None) where
  abbrev pub given : Given
  given = with_conn g (open_conn y.conn INTERNET (Some x.own) (Some x.to))

  abbrev described : Desc
  described = with_object (object.Stream y.conn 0) y.held.description

  there : map.get real.book.descriptions y.held.desc ≡ Some y.held.description
  there = (held_by real.book (slots.slot who fd) y.held is.held.at).described

  module _ (l : Listening) (r : Listener) (l_is : map.get k.listeners x.to ≡ Some l)
      (r_is : map.get real.net.listeners y.at ≡ Some r) (alike : SameListener x.to y.at l r) where
    abbrev waiting_there : plain_tables.Listeners
    waiting_there = map.insert k.listeners x.to (words.with_last y.conn l)

    abbrev waiting_here : listeners.Listeners
    waiting_here = map.insert real.net.listeners y.at (listeners.with_last y.conn r)

    abbrev real_after : Books → listeners.Listeners → Kernel
    real_after b m = record real {
      book = b;
      net = record real.net {
        listeners = m;
        channels = map.insert real.net.channels y.conn channels.new_channel;
      };
    }

    abbrev plain_after : plain_tables.Listeners → ConnId → plain.Held → PlainKernel
    plain_after m conn held =
        with_plain (record (with_channel (numbered k p 1) conn
        (open_channel Internet (Some x.own) (Some x.to))) {
          listeners = m;
        }) held (Stream conn 0)

    abbrev book_after : Books
    book_after = record real.book { descriptions = map.insert real.book.descriptions y.held.desc described }

    connected : Stands given None (real_after book_after waiting_here)
        (plain_after waiting_there y.conn (seen_held g real y.held))
    connected =
        let counted = made_kept g None real k st p 1 in
        let opened =
        channel_made g real (numbered k p 1) counted y.conn INTERNET (Some x.own) (Some x.to) new in
        let queued =
        listener_put given None (real_after real.book real.net.listeners)
        (with_channel (numbered k p 1) y.conn (open_channel Internet (Some x.own) (Some x.to))) opened x.to
        y.at
        is.place (words.with_last y.conn l) (listeners.with_last y.conn r)
        (record { backlog = alike.backlog; queue = ap (λ (q : List ConnId). q ++ y.conn ∷ []) alike.queue })
        in
        description_changed given None (real_after real.book waiting_here)
        (record (with_channel (numbered k p 1) y.conn (open_channel Internet (Some x.own) (Some x.to))) {
          listeners = waiting_there;
        }) queued y.held.desc described (st.descriptions.owners y.held.desc y.held.description there) tt
        y.held.description there (ap (inbox_of real.datagrams) is.object)
        (λ queue side e. absurd (no_datagram queue side (sym is.object ∙ e)))

    by_listeners : Stands given None (with_connected real y) (rows.connected k p x)
    by_listeners =
        subst (λ m. Stands given None (real_after (with_connected real y).book m) (rows.connected k p x))
        (sym (at_key_is real.net.listeners y.at (listeners.with_last y.conn) r r_is))
        (subst (λ b. Stands given None (real_after b waiting_here) (rows.connected k p x))
        (sym (changed_there (with_object (object.Stream y.conn 0)) real.book y.held.desc y.held.description
        there))
        (subst (λ conn. Stands given None (real_after book_after waiting_here)
        (plain_after (plain_tables.changed_at k.listeners x.to (words.with_last conn)) conn x.held)) is.named
        (subst (λ m. Stands given None (real_after book_after waiting_here) (plain_after m y.conn x.held))
        (sym (changed_is k.listeners x.to (words.with_last y.conn) l l_is))
        (subst (λ h. Stands given None (real_after book_after waiting_here)
        (plain_after waiting_there y.conn h))
        (sym is.held.seen) connected))))

  pub connects : Stands given None (with_connected real y) (rows.connected k p x)
  connects =
      let l = some_value (map.get k.listeners x.to) is.there in
      let r =
      agree_found (SameListener x.to y.at) (map.get k.listeners x.to) (map.get real.net.listeners y.at) l.0
      (st.listeners.each.at x.to y.at is.place) l.1 in
      by_listeners l.0 r.0 l.1 r.1.0 r.1.1
