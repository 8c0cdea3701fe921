-- What the tests of the calls of sockets tell: what a descriptor's socket is, that a number is new, and that a port is free.
--     Holds, socket_is      the socket of a descriptor      Making, makes      who makes something
--     is_free_fd, automatic_is, bound_is      a free descriptor, an automatic port, an address to use
--     settles_then, certain_..      a row whose tests don't wait
use Rattle.std.proofs.Common.{◌≡◌, ℕ, zero, suc, ◌+◌, ◌-◌, ◌<◌, ◌≤◌, ◌^◌, Bool, true, false, cond, refl, sym, ap, subst, ◌∙◌, arith}
use Rattle.std.specs.Prelude.{◌==◌, ◌||◌, Option, Some, None, is_some}
use Rattle.std.specs.List.{list_any}
use Rattle.std.specs.Option.{option_map_or}
use Rattle.std.specs.FinMap as map
use Rattle.std.proofs.lemmas.Bool.Decides.{nat_tests}
use Rattle.plain_tables.specs.OfViews.Limits.{DESCRIPTOR_LIMIT}
use Rattle.plain_tables.proofs.OfViews.MapLaws.{key_tied, true_false}
use Rattle.plain_tables.proofs.OfViews.MapValues.{some_among-values}
use Rattle.plain_tables.specs.OfSysAbi.declared.identity.VPid.{VPid}
use Rattle.plain_tables.specs.OfSysAbi.declared.identity.DescId.{DescId}
use Rattle.plain_tables.specs.OfSysAbi.declared.identity.VirtAddr.{VirtAddr}
use Rattle.plain_tables.specs.OfSysAbi.declared.errors.TheConstants.{EBADF, EMFILE, EAGAIN, ENOTSOCK}
use Rattle.plain_tables.specs.OfSysAbi.declared.flags.TheConstants.{O_NONBLOCK}
use Rattle.plain_tables.specs.OfSysAbi.Flags.{has_flag}
use Rattle.plain_tables.proofs.OfSysAbi.OrderLaws.{vpid_total, vpid_exact, desc_total, desc_exact, address_total, address_exact}
use Rattle.plain_machine.specs.declared.kernel.PlainKernel.{PlainKernel}
use Rattle.plain_tables.specs.declared.process.Process.{Process}
use Rattle.plain_tables.specs.OfSysAbi.declared.maker.Maker.{Maker}
use Rattle.plain_tables.specs.OfSysAbi.declared.descriptor.Descriptor.{Descriptor}
use Rattle.plain_tables.specs.declared.description.Description.{Description}
use Rattle.plain_tables.specs.declared.description.Object.TheVariants.{Socket}
use Rattle.plain_tables.specs.declared.channel.Channel.{Channel}
use Rattle.plain_tables.specs.Tables.{Descriptors, slot, is_live_process, has_thread_in, made_more}
use Rattle.plain_tables.specs.Objects.{bound_at}
use Rattle.plain_tables.specs.Valid.Sockets.{has_host}
use Rattle.plain_tables.specs.OfPlainProcess.Attempts.{Try, Fails, NotReady, Gives, and_then, need, found}
use Rattle.plain_machine.specs.Attempts.{Served, settled}
use Rattle.plain_machine.specs.Kernel.{Held, held, is_live, free_among, free_from, made_of, host_of, has_numbers, numbered}
use Rattle.plain_machine.specs.Addresses.{address_at, is_at, has_end_at, is_port_used, unused_among, automatic_port, FIRST_AUTOMATIC, AUTOMATIC_COUNT}
use Rattle.plain_machine.specs.SocketWords.{is_settled, unready, socket_at, is_socket, bound_or}
use Rattle.plain_machine.specs.Kernels.{IsKernel}
use Rattle.plain_machine.specs.KernelLaws.{IsNumberOf}
use Rattle.plain_tables.proofs.Changes.{changed_here}
use Rattle.plain_tables.proofs.Entries.{found_at}
use Rattle.plain_machine.proofs.Trying.{Trying, succeeds, fails, after}
use Rattle.plain_machine.proofs.LocalReplies.{was_found, or_try}
use Rattle.plain_machine.proofs.KernelThreads.{SameProcesses}
use Rattle.plain_machine.proofs.RowBounds.{Settles}
use Rattle.plain_machine.proofs.WholePlaced.{fresh, unknown}
use Rattle.plain_machine.proofs.WholeNumbered.{whole_numbered}
use Rattle.plain_machine.proofs.WholeSockets.{IsFreeFor}

-- who lives, where the processes are as they were
pub unchanged : (k next : PlainKernel) → next.processes ≡ k.processes → SameProcesses k next
unfolding is_live
unchanged k next same = record {
  live = λ q. ap (λ m. is_live_process (map.get m q)) same;
  threads = λ q u. ap (λ m. has_thread_in u (map.get m q)) same;
}

-- a row whose tests don't wait

pub settles_then : (k : PlainKernel) {A : Type 0} (attempt : Try A) (next : A → Try Served) → is_settled attempt ≡ true → ((a : A) → Settles k (next a)) → Settles k (and_then attempt next)
unfolding and_then
settles_then k (Fails e) next certain is = refl
settles_then k NotReady next certain is = true_false (sym certain)
settles_then k (Gives a) next certain is = is a

-- one that then only gives
pub settled_gives : (k : PlainKernel) {A : Type 0} (attempt : Try A) (give : A → Served) → is_some (settled k (and_then attempt (λ a. Gives (give a)))) ≡ is_settled attempt
unfolding and_then
settled_gives k (Fails e) give = refl
settled_gives k NotReady give = refl
settled_gives k (Gives a) give = refl

pub certain_then : {A B : Type 0} (attempt : Try A) (next : A → Try B) → is_settled attempt ≡ true → ((a : A) → is_settled (next a) ≡ true) → is_settled (and_then attempt next) ≡ true
unfolding and_then
certain_then (Fails e) next certain is = refl
certain_then NotReady next certain is = true_false (sym certain)
certain_then (Gives a) next certain is = is a

pub certain_need : (b : Bool) (e : ℕ) → is_settled (need b e) ≡ true
unfolding need
certain_need true e = refl
certain_need false e = refl

pub certain_found : {A : Type 0} (o : Option A) (e : ℕ) → is_settled (found o e) ≡ true
unfolding found
certain_found None e = refl
certain_found (Some a) e = refl

pub never : {A : Type 0} {P : A → Type 0} (flags : ℕ) → Trying (unready flags) P
never flags = or_try (has_flag flags O_NONBLOCK) (Fails EAGAIN) NotReady (fails EAGAIN) (record { each = λ a is. cc })

-- the socket of a descriptor

pub record Holds (k : PlainKernel) (p : VPid) (fd : ℕ) (h : Held) : Type 0 where
  pub descriptor : Descriptor
  pub there : map.get k.descriptors (slot p fd) ≡ Some descriptor
  pub same : descriptor.desc ≡ h.desc
  pub known : map.get k.descriptions h.desc ≡ Some h.description

holds : (k : PlainKernel) (p : VPid) (fd : ℕ) → Trying (held k p fd) (Holds k p fd)
unfolding held
holds k p fd = after (found (map.get k.descriptors (slot p fd)) EBADF) (λ z there. after (found (map.get k.descriptions z.desc) EBADF) (λ w stands.
    succeeds (record { desc = z.desc; cloexec = z.cloexec; description = w }) (record {
      descriptor = z;
      there = was_found (map.get k.descriptors (slot p fd)) EBADF z there;
      same = refl;
      known = was_found (map.get k.descriptions z.desc) EBADF w stands;
    })))

pub socket_is : (k : PlainKernel) (p : VPid) (fd : ℕ) → Trying (socket_at k p fd) (Holds k p fd)
unfolding socket_at
socket_is k p fd = after (held k p fd) (λ h is. after (need (is_socket k h.description.object) ENOTSOCK) (λ done allowed. succeeds h ((holds k p fd).each h is)))

pub certain_socket : (k : PlainKernel) (p : VPid) (fd : ℕ) → is_settled (socket_at k p fd) ≡ true
unfolding socket_at held
certain_socket k p fd =
    certain_then _ _ (certain_then _ _ (certain_found (map.get k.descriptors (slot p fd)) EBADF) (λ z. certain_then _ _ (certain_found (map.get k.descriptions z.desc) EBADF) (λ w. refl)))
    (λ h. certain_then _ _ (certain_need (is_socket k h.description.object) ENOTSOCK) (λ done. refl))

-- a free descriptor

free_in : (descriptors : Descriptors) (p : VPid) (from n fd : ℕ) → free_among descriptors p from n ≡ Some fd → (fd < from + n) × (map.get descriptors (slot p fd) ≡ None)
unfolding free_among
free_in descriptors p from zero fd is = absurd (nothing is)
  where
    nothing : None ≡ Some fd → ⊥
    nothing is = cc
free_in descriptors p from (suc n) fd is = chosen (map.get descriptors (slot p from)) refl (free_in descriptors p (from + 1) n fd) is
  where
    chosen : (there : Option Descriptor) → map.get descriptors (slot p from) ≡ there
        → (free_among descriptors p (from + 1) n ≡ Some fd → (fd < from + 1 + n) × (map.get descriptors (slot p fd) ≡ None))
        → cond (is_some there) (free_among descriptors p (from + 1) n) (Some from) ≡ Some fd → (fd < from + suc n) × (map.get descriptors (slot p fd) ≡ None)
    chosen None free later is = let same : from ≡ fd = cc in (omega arith, subst (λ q. map.get descriptors (slot p q) ≡ None) same free)
    chosen (Some y) there later is = let rest = later is in (let low = rest.0 in omega arith, rest.1)

pub is_free_fd : (k : PlainKernel) (p : VPid) (fd : ℕ) → free_from k p 0 ≡ Gives fd → (fd < 256) × (map.get k.descriptors (slot p fd) ≡ None)
unfolding free_from
is_free_fd k p fd is = let at = free_in k.descriptors p 0 (DESCRIPTOR_LIMIT - 0) fd (was_found _ EMFILE fd is) in (let low = at.0 in omega arith, at.1)

pub certain_free : (k : PlainKernel) (p : VPid) → is_settled (free_from k p 0) ≡ true
unfolding free_from
certain_free k p = certain_found (free_among k.descriptors p 0 (DESCRIPTOR_LIMIT - 0)) EMFILE

-- a process that makes something

pub record Making (k : PlainKernel) (p : VPid) : Type 0 where
  pub maker : Maker
  pub known : map.get k.makers p ≡ Some maker
  pub made : made_of k p ≡ maker.made
  pub host : host_of k p ≡ maker.host
  pub low : maker.host < 16

module _ (k : PlainKernel) (is : IsKernel k) (p : VPid) (alive : is_live k p ≡ true) where
  there_if_live : (found : Option Process) → is_live_process found ≡ true → is_some found ≡ true
  there_if_live None lives = true_false (sym lives)
  there_if_live (Some process) lives = refl

  has_maker : (maker : Maker) × (map.get k.makers p ≡ Some maker)
  unfolding is_live
  has_maker = found_at vpid_total vpid_exact k.makers p (is.makers.same p ∙ there_if_live (map.get k.processes p) alive)

  pub makes : Making k p
  makes =
      let found = has_maker in
      record {
        maker = found.0;
        known = found.1;
        made = ap (λ o. option_map_or (λ (m : Maker). m.made) o 0) found.1;
        host = ap (λ o. option_map_or (λ (m : Maker). m.host) o 0) found.1;
        low = is.makers.hosts p found.0 found.1;
      }

  module _ (room : has_numbers k p ≡ true) where
    below : made_of k p < 2 ^ 32 - 4
    below = grind (arith, nat_tests, room)

    pub numbered_is : IsKernel (numbered k p 1)
    numbered_is = whole_numbered k p 1 is (λ maker there.
        let making = makes in
        let same : maker ≡ making.maker = let known = making.known in cc in
        let number : maker.made ≡ made_of k p = ap (λ (m : Maker). m.made) same ∙ sym making.made in
        let few = below in
        omega arith)

    pub next_number : IsNumberOf (numbered k p 1) p (made_of k p)
    next_number =
        let making = makes in
        let above = making.made in
        record {
          maker = made_more 1 making.maker;
          known = changed_here vpid_total vpid_exact k.makers p (made_more 1) making.maker making.known;
          below = omega arith;
          new = fresh k is p (made_of k p) making.maker making.known alive (omega arith);
          unknown = unknown k is p (made_of k p) making.maker making.known alive (omega arith);
        }

    -- no channel has its number
    pub new_channel : map.get k.channels (record { pid = p; num = made_of k p }) ≡ None
    unfolding is_live
    new_channel = chosen (map.get k.channels (record { pid = p; num = made_of k p })) refl
      where
        chosen : (found : Option Channel) → map.get k.channels (record { pid = p; num = made_of k p }) ≡ found → found ≡ None
        chosen None none = refl
        chosen (Some channel) there =
            let making = makes in
            let made = (is.made.joined (record { pid = p; num = made_of k p }) channel there).below making.maker making.known alive in
            let same = making.made in
            absurd (omega arith)

-- its own host, and that it lives, once the number is counted
pub own_host : (k : PlainKernel) (p : VPid) (making : Making k p) → has_host (map.get (numbered k p 1).makers p) (host_of k p) ≡ true
own_host k p making = ap (λ o. has_host o (host_of k p)) (changed_here vpid_total vpid_exact k.makers p (made_more 1) making.maker making.known) ∙ at_host making.maker.host (host_of k p) (sym making.host)
  where
    at_host : (a b : ℕ) → a ≡ b → (a == b) ≡ true
    at_host a b same = grind (arith, nat_tests, same)

pub still_lives : (k : PlainKernel) (p : VPid) → is_live k p ≡ true → is_live (numbered k p 1) p ≡ true
unfolding is_live
still_lives k p alive = alive

-- ports

module _ (k : PlainKernel) where
  unused_is : (host from n port : ℕ) → unused_among k host from n ≡ Some port → (from ≤ port) × (port < from + n) × (is_port_used k (address_at host port) ≡ false)
  unfolding unused_among
  unused_is host from zero port is = absurd (nothing is)
    where
      nothing : None ≡ Some port → ⊥
      nothing is = cc
  unused_is host from (suc n) port is = chosen (is_port_used k (address_at host from)) refl (unused_is host (from + 1) n port) is
    where
      chosen : (b : Bool) → is_port_used k (address_at host from) ≡ b
          → (unused_among k host (from + 1) n ≡ Some port → (from + 1 ≤ port) × (port < from + 1 + n) × (is_port_used k (address_at host port) ≡ false))
          → cond b (unused_among k host (from + 1) n) (Some from) ≡ Some port → (from ≤ port) × (port < from + suc n) × (is_port_used k (address_at host port) ≡ false)
      chosen true used later is = let rest = later is in (let above = rest.0 in omega arith, let low = rest.1 in omega arith, rest.2)
      chosen false unused later is = let same : from ≡ port = cc in (omega arith, omega arith, subst (λ q. is_port_used k (address_at host q) ≡ false) same unused)

  pub automatic_is : (host port : ℕ) → automatic_port k host ≡ Some port → (1 ≤ port) × (port < 65536) × (is_port_used k (address_at host port) ≡ false)
  unfolding automatic_port
  automatic_is host port is =
      let at = unused_is host FIRST_AUTOMATIC AUTOMATIC_COUNT port is in
      (let above = at.0 in omega arith, let low = at.1 in omega arith, at.2)

  -- a port that is not used is no description's
  pub unused_free : (d : DescId) (address : VirtAddr) → is_port_used k address ≡ false → IsFreeFor k.descriptions d address
  unfolding is_port_used
  unused_free d address unused e z other found bound =
      let passes : is_at address (bound_at z.object) ≡ true = ap (is_at address) bound ∙ key_tied address_total address_exact address in
      let some = some_among-values desc_total desc_exact (λ (y : Description). is_at address (bound_at y.object)) k.descriptions e z found passes in
      true_false (sym some ∙ first_none (list_any (λ (y : Description). is_at address (bound_at y.object)) (map.values k.descriptions)) (list_any (has_end_at address) (map.values k.channels)) unused)
    where
      first_none : (a b : Bool) → (a || b) ≡ false → a ≡ false
      first_none true b is = is
      first_none false b is = refl

-- an address that a socket may use

pub record MayUse (k : PlainKernel) (d : DescId) (socket address : VirtAddr) : Type 0 where
  pub host : address.host ≡ socket.host
  pub above : 1 ≤ address.port
  pub low : address.port < 65536
  pub free : IsFreeFor k.descriptions d address

module _ (k : PlainKernel) (is : IsKernel k) (d : DescId) (x : Description) (known : map.get k.descriptions d ≡ Some x) (socket : VirtAddr) (was : x.object ≡ Socket socket) (low : socket.port < 65536) (e : ℕ) where
  own_address : (socket.port == 0) ≡ false → MayUse k d socket socket
  own_address bound = record {
    host = refl;
    above = grind (arith, nat_tests, bound);
    low = low;
    free = λ f z other found also. other (is.addresses.apart f d z x socket found known also (ap bound_at was ∙ ap (λ b. cond b None (Some socket)) bound));
  }

  pub bound_is : Trying (bound_or k socket e) (MayUse k d socket)
  unfolding bound_or
  bound_is = chosen (socket.port == 0) refl
    where
      chosen : (b : Bool) → (socket.port == 0) ≡ b → Trying (cond b (and_then (found (automatic_port k socket.host) e) (λ port. Gives (address_at socket.host port))) (Gives socket)) (MayUse k d socket)
      chosen true none = after (found (automatic_port k socket.host) e) (λ port is_port.
          let at = automatic_is k socket.host port (was_found (automatic_port k socket.host) e port is_port) in
          succeeds (address_at socket.host port) (record { host = refl; above = at.0; low = at.1; free = unused_free k d (address_at socket.host port) at.2 }))
      chosen false bound = succeeds socket (own_address bound)

pub certain_bound : (k : PlainKernel) (socket : VirtAddr) (e : ℕ) → is_settled (bound_or k socket e) ≡ true
unfolding bound_or
certain_bound k socket e = chosen (socket.port == 0)
  where
    chosen : (b : Bool) → is_settled (cond b (and_then (found (automatic_port k socket.host) e) (λ port. Gives (address_at socket.host port))) (Gives socket)) ≡ true
    chosen true = certain_then (found (automatic_port k socket.host) e) _ (certain_found (automatic_port k socket.host) e) (λ port. refl)
    chosen false = refl
