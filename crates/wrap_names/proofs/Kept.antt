-- A system goes on standing for a kernel part where its kernel alone has changed.
--     two_alike          lists of two with the same items
--     whole_left         the kernel part that a row leaves is whole
--     next_kept          the nodes' next numbers are as they were
--     kept_wrapped       the system stands for what such a change leaves
--     passed_on          a call that leaves all that the pairs are about
use Rattle.std.proofs.Common.{◌≡◌, ℕ, suc, Bool, false, List, [], ◌∷◌, Option, Some, None, refl, sym, ap, ◌∙◌, subst, arith}
use Rattle.std.specs.Prelude.{length, slice_index_or, IsSome, option_map, option_and_then}
use Rattle.std.specs.FinMap as map
use Rattle.std.proofs.lemmas.Option.{none-some, same_Some}
use Rattle.views.specs.Numbers.{Byte}
use Rattle.views.proofs.MapLaws.{true_false}
use Rattle.sys_abi.specs.declared.identity.VPid.{VPid}
use Rattle.sys_abi.specs.declared.identity.ConnId.{ConnId}
use Rattle.call_table.specs.declared.request.Request.{Request}
use Rattle.conn_table.specs.declared.conn.Conn.{Conn}
use Rattle.plain_process.specs.Attempts.{Try, Fails, NotReady, Gives}
use Rattle.plain_tables.specs.declared.channel.Channel as plain
use Rattle.plain_machine.specs.declared.kernel.PlainKernel.{PlainKernel}
use Rattle.plain_machine.specs.Attempts.{Served, settled}
use Rattle.plain_machine.specs.Kernels.{IsKernel}
use Rattle.plain_machine.specs.RowLaws.{IsAsked}
use Rattle.plain_machine.specs.Serve.{row, serve}
use Rattle.plain_machine.proofs.EachRow.{each_is_served}
use Rattle.plain_machine.proofs.Trying.{Trying}
use Rattle.wire_channels.specs.declared.channel.Channel.{Channel}
use Rattle.host_streams.specs.OfHostTables.declared.reply.KernelReply.{KernelReply}
use Rattle.host_streams.specs.OfHostTables.declared.reply.KernelReply.TheVariants.{Done, Error, Memory}
use Rattle.host_streams.specs.OfHostTables.declared.reply.KernelReply.TheVariants as reply
use Rattle.host_streams.specs.OfHostTables.declared.system.System.{System}
use Rattle.host_streams.specs.OfHostTables.Network.{seen_channel}
use Rattle.host_streams.specs.OfHostTables.Numbers.{HasRoom}
use Rattle.host_streams.specs.OfHostTables.Stands.{Stands}
use Rattle.host_streams.specs.OfHostTables.Systems.{given_of, AreExact}
use Rattle.wrap_names.specs.Passing.{Passed}
use Rattle.wrap_names.specs.Asks.{AsksFor}
use Rattle.wrap_names.specs.Wrapping.{IsWrapped, StandsAfter, kernel_left}
use Rattle.wrap_names.proofs.Keeps.{Keeps, KeepsAll, all_still}

two_alike : (xs ys : List Bool) → length xs ≡ 2 → length ys ≡ 2
    → slice_index_or xs 0 false ≡ slice_index_or ys 0 false
    → slice_index_or xs 1 false ≡ slice_index_or ys 1 false → xs ≡ ys
two_alike (a ∷ b ∷ []) (c ∷ d ∷ []) m n first second = λ i. first i ∷ second i ∷ []
two_alike [] ys m n first second = absurd (let e : 0 ≡ 2 = m in omega (arith, e))
two_alike (a ∷ []) ys m n first second = absurd (let e : 1 ≡ 2 = m in omega (arith, e))
two_alike (a ∷ b ∷ c ∷ xs) ys m n first second =
    absurd (let e : suc (suc (suc (length xs))) ≡ 2 = m in omega (arith, e))
two_alike xs [] m n first second = absurd (let e : 0 ≡ 2 = n in omega (arith, e))
two_alike xs (a ∷ []) m n first second = absurd (let e : 1 ≡ 2 = n in omega (arith, e))
two_alike xs (a ∷ b ∷ c ∷ ys) m n first second =
    absurd (let e : suc (suc (suc (length ys))) ≡ 2 = n in omega (arith, e))

-- channels that are seen alike have the same open ends
module _ (conn : Option Conn) where
  abbrev seen : Option Channel → Option plain.Channel
  seen o = option_and_then (λ channel. option_map (seen_channel channel) conn) o

  abbrev ends : Option Channel → Option (List Bool)
  ends o = option_map (λ (channel : Channel). channel.open_ends) o

pub same_ends : (conn : Option Conn) (a b : Option Channel)
    → (IsSome a → IsSome conn) → (IsSome b → IsSome conn)
    → ((x : Channel) → a ≡ Some x → length x.open_ends ≡ 2)
    → ((x : Channel) → b ≡ Some x → length x.open_ends ≡ 2)
    → seen conn a ≡ seen conn b → ends conn a ≡ ends conn b
same_ends conn None None listed_a listed_b sides_a sides_b e = refl
same_ends None (Some x) b listed_a listed_b sides_a sides_b e = true_false (sym (listed_a refl))
same_ends None None (Some y) listed_a listed_b sides_a sides_b e = true_false (sym (listed_b refl))
same_ends (Some c) (Some x) None listed_a listed_b sides_a sides_b e =
    absurd (none-some (seen_channel x c) (sym e))
same_ends (Some c) None (Some y) listed_a listed_b sides_a sides_b e = absurd (none-some (seen_channel y c) e)
same_ends (Some c) (Some x) (Some y) listed_a listed_b sides_a sides_b e =
    let same = same_Some (seen_channel x c) (seen_channel y c) e in
    ap Some (two_alike x.open_ends y.open_ends (sides_a x refl) (sides_b y refl)
    (ap (λ (w : plain.Channel). w.first.is_open) same) (ap (λ (w : plain.Channel). w.second.is_open) same))

-- the same pairs, so that the nodes have handed out no number more
pub next_kept : (s s' : System) (k' : PlainKernel) → Passed s s' k'
    → s'.kernel.procs.next ≡ s.kernel.procs.next
next_kept s s' k' p = p.stands.paired.next_is

pub given_is : (s s' : System) (k' : PlainKernel) → Passed s s' k' → given_of s' ≡ given_of s
given_is s s' k' p = λ i. record {
  pids = (p.ids i).pids;
  virts = (p.ids i).virts;
  next = next_kept s s' k' p i;
  addresses = (p.ids i).addresses;
  ports = (p.ids i).ports;
  conns = p.conns i;
  names = p.names i;
}

module _ (s : System) (next_id : ℕ) (k : PlainKernel) (w : IsWrapped s next_id k) where
  module _ (s' : System) (k' : PlainKernel) (p : Passed s s' k') (channels : k'.channels ≡ k.channels) where
    same_channels : (id : ConnId) → seen (map.get s.conns.conns id) (map.get s.kernel.net.channels id)
        ≡ seen (map.get s.conns.conns id) (map.get s'.kernel.net.channels id)
    same_channels id =
        sym (w.stands.tables.channels.each id)
        ∙ ap (λ channels. map.get channels id) (sym channels) ∙ p.stands.channels.each id

    pub ends_are : (id : ConnId) → option_map (λ (c : Channel). c.open_ends) (map.get s.kernel.net.channels id)
        ≡ option_map (λ (c : Channel). c.open_ends) (map.get s'.kernel.net.channels id)
    ends_are id =
        same_ends (map.get s.conns.conns id) (map.get s.kernel.net.channels id)
        (map.get s'.kernel.net.channels id) (w.stands.tables.channels.listed id) (p.stands.channels.listed id)
        (w.stands.tables.channels.sides id) (p.stands.channels.sides id) (same_channels id)

  module _ (s' : System) (k' : PlainKernel) (p : Passed s s' k') (keeps : Keeps k k')
      (makers : k'.makers ≡ s'.conns.makers) where
    exact_kept : AreExact s' k'
    exact_kept = record {
      makers = makers;
      numbers = λ v r at.
          keeps.numbers v (w.stands.exact.numbers v r (ap (λ ids. map.get ids.pids v) (sym p.ids) ∙ at));
      places = λ a at is.
          keeps.places a (w.stands.exact.places a at (ap (λ ids. map.get ids.addresses a) (sym p.ids) ∙ is));
      names = λ id a is.
          keeps.names id (w.stands.exact.names id a (ap (λ names. map.get names id) (sym p.names) ∙ is));
      open_ends = λ id.
          ap (λ conns. option_map (λ (c : Conn). c.open_ends) (map.get conns id)) p.conns
          ∙ w.stands.exact.open_ends id ∙ ends_are s' k' p keeps.channels id;
      entries = λ id conn is.
          w.stands.exact.entries id conn (ap (λ conns. map.get conns id) (sym p.conns) ∙ is);
    }

    pub kept_wrapped : IsKernel k' → IsWrapped s' next_id k'
    kept_wrapped whole = record {
      stands = record {
        kernel = whole;
        tables = subst (λ g. Stands g None s'.kernel k') (sym (given_is s s' k' p)) p.stands;
        exact = exact_kept;
        room = subst (λ n. HasRoom n s'.kernel.procs.next) (sym keeps.next)
            (subst (HasRoom k.next_id) (sym (next_kept s s' k' p)) w.stands.room);
      };
      next = keeps.next ∙ w.next;
    }

  module _ (p : VPid) (t : ℕ) (r : Request) (given : List ℕ) (asked : IsAsked k p t r given) where
    whole_by : (m : Try Served) → row k p t r given ≡ m → IsKernel (kernel_left k m)
    unfolding serve
    whole_by (Fails e) is = w.stands.kernel
    whole_by NotReady is = w.stands.kernel
    whole_by (Gives served) is =
        (each_is_served k p t r given served asked (ap (settled k) is)).kernel

    pub whole_left : IsKernel (kernel_left k (row k p t r given))
    whole_left = whole_by (row k p t r given) refl

    left_by : (m : Try Served) → Trying m (λ served. KeepsAll k served.kernel) → KeepsAll k (kernel_left k m)
    left_by (Fails e) keeps = all_still k
    left_by NotReady keeps = all_still k
    left_by (Gives served) keeps = keeps.each served refl

    module _ (keeps : Trying (row k p t r given) (λ served. KeepsAll k served.kernel)) (s' : System)
        (conns : s'.conns ≡ s.conns) (now : List Byte) where
      abbrev m : Try Served
      m = row k p t r given

      on_with : (k' : PlainKernel) → KeepsAll k k' → Passed s s' k' → IsKernel k' → IsWrapped s' next_id k'
      on_with k' all passed whole =
          kept_wrapped s' k' passed all.tables
          (all.makers ∙ w.stands.exact.makers ∙ ap (λ conns. conns.makers) (sym conns)) whole

      left : Passed s s' (kernel_left k m) → IsWrapped s' next_id (kernel_left k m)
      left passed = on_with (kernel_left k m) (left_by m keeps) passed whole_left

      pub passed_on : (answered : KernelReply) → AsksFor s s' k given now answered m
          → StandsAfter s' next_id k given now answered m
      passed_on (Done n) h = (left h.0, h.1)
      passed_on (Error e) h = (left h.0, h.1)
      passed_on reply.NotReady h = (left h.0, h.1)
      passed_on Memory h = (on_with k (all_still k) h.0 w.stands.kernel, h.1)
