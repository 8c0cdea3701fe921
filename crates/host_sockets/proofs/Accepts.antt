-- A connection is taken, through the pairs.
--     first_there, accept_gives      a connection that waits is given
--     accepts          the kernel after it
--     serves_accepted  the call's answer, once its tests found something
use Rattle.std.proofs.Common.{◌≡◌, ℕ, List, Option, Some, None, drop, refl, sym, ap, ◌∙◌, subst, arith}
use Rattle.std.specs.Prelude.{false, IsSome, Result, Ok, OnOk, slice_get, option_and_then}
use Rattle.std.specs.Option.{ok_or}
use Rattle.std.proofs.lemmas.Option.{none-some}
use Rattle.std.specs.FinMap as map
use Rattle.views.specs.Numbers.{Byte}
use Rattle.views.proofs.Seen.{agree_real}
use Rattle.sys_abi.specs.declared.errors.TheConstants.{EMFILE}
use Rattle.sys_abi.specs.declared.flags.TheConstants.{O_RDWR}
use Rattle.sys_abi.specs.declared.identity.DescId.{DescId}
use Rattle.sys_abi.specs.declared.identity.ConnId.{ConnId}
use Rattle.sys_abi.specs.declared.identity.VPid.{VPid}
use Rattle.sys_abi.specs.declared.identity.RealPid.{RealPid}
use Rattle.sys_abi.specs.declared.identity.RealAddr.{RealAddr}
use Rattle.fd_tables.specs.declared.description.Object.TheVariants as object
use Rattle.plain_tables.specs.declared.channel.Listening.{Listening}
use Rattle.plain_tables.specs.declared.description.Object.TheVariants.{Stream}
use Rattle.plain_tables.specs.Tables as plain_tables
use Rattle.plain_process.specs.Attempts.{Fails, Gives}
use Rattle.plain_machine.specs.declared.kernel.PlainKernel.{PlainKernel}
use Rattle.plain_machine.specs.Kernel.{numbered, placed}
use Rattle.plain_machine.specs.Rows.Connections as rows
use Rattle.plain_machine.specs.SocketWords as words
use Rattle.wire_channels.specs.declared.listener.Listener.{Listener}
use Rattle.wire_channels.specs.Listeners as listeners
use Rattle.wire_channels.specs.declared.net_fault.NetFault.{NetFault}
use Rattle.wire_channels.specs.declared.net_fault.NetFault.TheVariants as fault
use Rattle.wire_net.specs.Networks.{Network, accept_answer}
use Rattle.host_descriptors.specs.OfHostTables.declared.attempt.Attempt.{Attempt}
use Rattle.host_descriptors.specs.OfHostTables.declared.attempt.Attempt.TheVariants as answer
use Rattle.host_descriptors.specs.OfHostTables.declared.kernel.Kernel.{Kernel}
use Rattle.host_descriptors.specs.OfHostTables.Network.{SameListener}
use Rattle.host_descriptors.specs.OfHostTables.Serves.{Serves, ByNumber, same}
use Rattle.host_descriptors.specs.OfHostTables.Stands.{Given, Stands}
use Rattle.host_descriptors.proofs.OfHostTables.DescriptionChanges.{description_new}
use Rattle.host_descriptors.proofs.OfHostTables.ListenerChanges.{listener_put}
use Rattle.host_descriptors.proofs.OfHostTables.LookUps.{some_value, free_none, free_some}
use Rattle.host_descriptors.proofs.OfHostTables.MakerChanges.{made_kept}
use Rattle.host_descriptors.proofs.OfHostTables.SlotChanges.{put_kept}
use Rattle.host_sockets.specs.declared.accepting.Accepting.{Accepting}
use Rattle.host_sockets.specs.Changes.{taken_stream, with_accepted, Takes}
use Rattle.host_sockets.specs.Tests.{first_in}
use Rattle.host_sockets.proofs.AcceptTests.{IsAccepting}
use Rattle.host_sockets.proofs.ListenersTold.{at_key_is, changed_is}

-- a connection waits only where somebody listens
there_by : (conn : ConnId) (o : Option Listener)
    → option_and_then (λ (l : Listener). slice_get l.queue 0) o ≡ Some conn → IsSome o
there_by conn None is = absurd (none-some conn is)
there_by conn (Some l) is = refl

pub first_there : (t : Network) (at : RealAddr) (conn : ConnId) → first_in t at ≡ Some conn
    → IsSome (map.get t.listeners at)
first_there t at conn is = there_by conn (map.get t.listeners at) is

answer_by : (conn : ConnId) (o : Option Listener)
    → option_and_then (λ (l : Listener). slice_get l.queue 0) o ≡ Some conn → accept_answer o ≡ Ok conn
answer_by conn None is = absurd (none-some conn is)
answer_by conn (Some l) is = ap (λ q. ok_or q fault.NotReady) is

-- so an accept gives it
pub accept_gives : (t : Network) (at : RealAddr) (conn : ConnId) (result : Result ConnId NetFault)
    → result ≡ accept_answer (map.get t.listeners at) → first_in t at ≡ Some conn → (P : Type 0)
    → OnOk result P → P
accept_gives t at conn result answers is P on =
    subst (λ (r : Result ConnId NetFault). OnOk r P)
    (answers ∙ answer_by conn (map.get t.listeners at) is) on

no_end : (conn : ConnId) (queue side : ℕ) → object.Stream conn 1 ≡ object.Datagram queue side → ⊥
no_end conn queue side e = cc

gives_one : {A : Type 0} (x y : A) → Gives x ≡ Gives y → x ≡ y
gives_one x y e = cc

fails_gives : {A B : Type 0} (e : ℕ) (x : A) → Fails e ≡ Gives x → B
fails_gives e x is = absurd (never is)
  where
    never : Fails e ≡ Gives x → ⊥
    never is = cc

module _ (g : Given) (real : Kernel) (k : PlainKernel) (st : Stands g None real k) (p : VPid) (who : RealPid)
    (paired : map.get g.pids p.0 ≡ Some who) (x : rows.Accepting) (y : Accepting) (is : IsAccepting g k p x y)
    (new : map.get real.book.descriptions y.id ≡ None)
    (there : IsSome (map.get real.net.listeners y.at)) where
  module _ (l : Listening) (r : Listener) (l_is : map.get k.listeners x.address ≡ Some l)
      (r_is : map.get real.net.listeners y.at ≡ Some r) (alike : SameListener x.address y.at l r) where
    abbrev taken_there : plain_tables.Listeners
    taken_there = map.insert k.listeners x.address (words.without_first l)

    abbrev taken_here : listeners.Listeners
    taken_here = map.insert real.net.listeners y.at (listeners.without_first r)

    abbrev real_after : listeners.Listeners → Kernel
    real_after m = record real {
      book = record real.book {
        descriptions = map.insert real.book.descriptions y.id (taken_stream y);
        descriptors = (with_accepted real who y x.fd).book.descriptors;
      };
      net = record real.net { listeners = m };
    }

    abbrev plain_after : plain_tables.Listeners → DescId → ConnId → PlainKernel
    plain_after m id conn =
        placed (numbered (record k { listeners = m }) p 1) p x.fd id false (Stream conn 1) O_RDWR

    taken : Stands g None (real_after taken_here) (plain_after taken_there y.id y.conn)
    taken =
        let first =
        listener_put g None real k st x.address y.at is.place (words.without_first l)
        (listeners.without_first r)
        (record { backlog = alike.backlog; queue = ap (λ (q : List ConnId). drop 1 q) alike.queue }) in
        let counted =
        made_kept g None (record real { net = record real.net { listeners = taken_here } })
        (record k { listeners = taken_there }) first p 1 in
        let opened =
        description_new g None (record real { net = record real.net { listeners = taken_here } })
        (numbered (record k { listeners = taken_there }) p 1) counted y.id (taken_stream y) tt tt new
        (no_end y.conn) in
        put_kept g None (record real {
          book = record real.book { descriptions = map.insert real.book.descriptions y.id (taken_stream y) };
          net = record real.net { listeners = taken_here };
        })
        (record (numbered (record k { listeners = taken_there }) p 1) {
          descriptions = map.insert k.descriptions y.id
              (record { object = Stream y.conn 1; flags = O_RDWR; owner = 0 });
        }) opened p who paired x.fd (record { desc = y.id; cloexec = false })

    by_listeners : Stands g None (with_accepted real who y x.fd) (rows.accepted k p x)
    by_listeners =
        subst (λ m. Stands g None (real_after m) (rows.accepted k p x))
        (sym (at_key_is real.net.listeners y.at listeners.without_first r r_is))
        (subst (λ m. Stands g None (real_after taken_here)
        (plain_after m (words.next_description k p) x.conn))
        (sym (changed_is k.listeners x.address words.without_first l l_is))
        (subst (λ id. Stands g None (real_after taken_here) (plain_after taken_there id x.conn)) is.named
        (subst (λ conn. Stands g None (real_after taken_here) (plain_after taken_there y.id conn))
        (sym is.conn)
        taken)))

  accepts : Stands g None (with_accepted real who y x.fd) (rows.accepted k p x)
  accepts =
      let r = some_value (map.get real.net.listeners y.at) there in
      let l =
      agree_real (SameListener x.address y.at) (map.get k.listeners x.address)
      (map.get real.net.listeners y.at)
      r.0 (st.listeners.each.at x.address y.at is.place) r.1 in
      by_listeners l.0 r.0 l.1.0 r.1 l.1.1

  module _ (bytes : List Byte) (new_kernel : Kernel) where
    abbrev Says : Attempt → Type 0
    Says a = Serves ByNumber same g real new_kernel bytes bytes a (Gives (rows.accept_served k p 0 bytes x))

    pub serves_accepted : (a : Attempt) → Takes real new_kernel who y a → Says a
    serves_accepted (answer.Gives n) takes =
        let same_fd : n ≡ x.fd = gives_one n x.fd
        (sym (free_some g real k st p who paired 0 n (omega arith) takes.lowest) ∙ is.free) in
        record {
          reply = same_fd;
          bytes = refl;
          stands = subst (λ (w : Kernel). Stands g None w (rows.accepted k p x))
              (sym (takes.after ∙ ap (with_accepted real who y) same_fd)) accepts;
        }
    serves_accepted (answer.Fails e) takes =
        fails_gives EMFILE x.fd
        (sym (free_none g real k st p who paired 0 (omega arith) takes.used) ∙ is.free)
    serves_accepted answer.NotReady takes = absurd takes
