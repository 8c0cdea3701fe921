-- The kernel part stays whole where a socket is bound, listens, accepts and connects.
--     IsFreeFor k d address      no other description has the address
--     whole_bound, whole_listening, whole_accepted, whole_connected
use Rattle.std.proofs.Common.{◌≡◌, ◌≢◌, ℕ, ◌<◌, ◌≤◌, ◌^◌, Bool, true, false, cond, List, [], ◌∷◌, ◌++◌, length, refl, sym, ap, subst, ◌∙◌, inl, inr, arith, ⊎_elim}
use Rattle.std.specs.Prelude.{◌==◌, ◌&&◌, ◌||◌, ◌⊎◌, not, nat_lt, zero, suc, Option, Some, None, is_some, option_map, option_and_then}
use Rattle.std.specs.List.{list_any}
use Rattle.std.specs.Ordering.{eq_by_cmp}
use Rattle.std.specs.FinMap as map
use Rattle.std.proofs.lemmas.Bool.Decides.{nat_tests}
use Rattle.std.proofs.lemmas.List.Elements.{All-head}
use Rattle.plain_tables.proofs.OfViews.MapLaws.{get_insert_same, same_or_other, key_tied, same_key, true_false}
use Rattle.plain_tables.proofs.OfViews.MapValues.{none_among-values}
use Rattle.plain_tables.specs.OfSysAbi.declared.identity.VPid.{VPid}
use Rattle.plain_tables.specs.OfSysAbi.declared.identity.DescId.{DescId}
use Rattle.plain_tables.specs.OfSysAbi.declared.identity.ConnId.{ConnId}
use Rattle.plain_tables.specs.OfSysAbi.declared.identity.VirtAddr.{VirtAddr}
use Rattle.plain_tables.specs.OfSysAbi.Orders.{conn_cmp}
use Rattle.plain_tables.proofs.OfSysAbi.OrderLaws.{desc_total, desc_exact, conn_total, conn_exact, address_total, address_exact}
use Rattle.plain_machine.specs.declared.kernel.PlainKernel.{PlainKernel}
use Rattle.plain_tables.specs.OfSysAbi.declared.maker.Maker.{Maker}
use Rattle.plain_tables.specs.OfSysAbi.declared.descriptor.Descriptor.{Descriptor}
use Rattle.plain_tables.specs.declared.description.Description.{Description}
use Rattle.plain_tables.specs.declared.description.Object.{Object}
use Rattle.plain_tables.specs.declared.description.Object.TheVariants.{Stream, Socket, Listener}
use Rattle.plain_tables.specs.declared.channel.Channel.{Channel}
use Rattle.plain_tables.specs.declared.channel.ChannelKind.{ChannelKind}
use Rattle.plain_tables.specs.declared.channel.ChannelKind.TheVariants.{Internet, Pipe}
use Rattle.plain_tables.specs.Tables.{Descriptions, slot}
use Rattle.plain_tables.specs.Objects.{end_of, is_end, is_listener_at, is_queued, bound_at, host_of_end, host_of_object}
use Rattle.plain_tables.specs.Valid.Descriptions.{AreFlags, IsMade}
use Rattle.plain_tables.specs.Valid.Channels.{AreStreams, MayBeEnd}
use Rattle.plain_tables.specs.Valid.Sockets.{AreListeners, IsConnection, IsAddressed, has_host}
use Rattle.plain_machine.specs.Kernel.{is_live, with_description, placed}
use Rattle.plain_machine.specs.Channels.{open_channel, with_channel}
use Rattle.plain_machine.specs.Addresses.{address_at}
use Rattle.plain_machine.specs.Kernels.{IsKernel}
use Rattle.plain_machine.specs.KernelLaws.{IsNumberOf}
use Rattle.plain_tables.proofs.Entries.{each_with}
use Rattle.plain_tables.proofs.AddedDescriptions.{new_open_files, new_made, new_counters, new_addresses, new_inboxes, new_descriptors, new_descriptions, new_holders, new_hosts}
use Rattle.plain_tables.proofs.NewChannels.{new_channel_keeps}
use Rattle.plain_tables.proofs.OpenedStreams.{named_stream, all_named}
use Rattle.plain_tables.proofs.ClosedStreams.{end_itself, or_left, listeners_without, streams_without}
use Rattle.plain_tables.proofs.SocketObjects.{none, put_back, changed_open_files, changed_made, changed_counters, changed_inboxes, changed_descriptors, changed_descriptions, changed_holders, changed_hosts, changed_addresses, changed_streams, changed_listeners}
use Rattle.plain_tables.proofs.Queues.{waiting_at, pending_streams, empty_pending, empty_hosts, empty_listeners, popped_streams, popped_listeners, popped_hosts, pushed_streams, pushed_listeners, pushed_hosts}
use Rattle.plain_machine.proofs.WholePlaced.{number_of, host_itself}
use Rattle.plain_machine.proofs.WholePairs.{new_sides, none_pending, listeners_still, hosts_still, listeners_with}

abbrev pub IsFreeFor : Descriptions → DescId → VirtAddr → Type 0
IsFreeFor descriptions d address =
    (e : DescId) (z : Description) → e ≢ d → map.get descriptions e ≡ Some z → bound_at z.object ≡ Some address → ⊥

-- the address that a socket has, if it is bound
bound_by : (b : Bool) (own address : VirtAddr) → cond b None (Some own) ≡ Some address → own ≡ address
bound_by true own address is = cc
bound_by false own address is = let same : own ≡ address = cc in same

none_of : {A : Type 0} (found : Option A) → is_some found ≡ false → found ≡ None
none_of None is = refl
none_of (Some a) is = true_false is

inner : (a b : ℕ) → Some a ≡ Some b → a ≡ b
inner a b is = cc

inner_address : (a b : VirtAddr) → Some a ≡ Some b → a ≡ b
inner_address a b is = cc

listener_bound : (address : VirtAddr) (object : Object) → is_listener_at address object ≡ true → bound_at object ≡ Some address
listener_bound address (Listener other) at = ap Some (sym (same_key address_total address_exact address other at))
listener_bound address _ at = true_false (sym at)

listener_addressed : (address : VirtAddr) (object : Object) → IsAddressed object → is_listener_at address object ≡ true → (address.host < 16) × (address.port < 65536)
listener_addressed address (Listener other) is at =
    subst (λ (a : VirtAddr). (a.host < 16) × (a.port < 65536)) (sym (same_key address_total address_exact address other at)) (is.0, is.2)
listener_addressed address _ is at = true_false (sym at)

-- a socket's description
module _ (k : PlainKernel) (is : IsKernel k) (d : DescId) (x : Description) (known : map.get k.descriptions d ≡ Some x) (old : VirtAddr) (was : x.object ≡ Socket old) where
  pub socket_addressed : (old.host < 16) × (old.port < 65536)
  socket_addressed = subst IsAddressed was (is.addresses.each d x known)

  -- it is bound
  pub whole_bound : (port : ℕ) → port < 65536 → IsFreeFor k.descriptions d (address_at old.host port)
      → IsKernel (with_description k d (record { object = Socket (address_at old.host port); flags = x.flags; owner = x.owner }))
  whole_bound port low free =
      let y : Description = record { object = Socket (address_at old.host port); flags = x.flags; owner = x.owner } in
      let addressed = socket_addressed in
      record {
        numbers = is.numbers;
        processes = is.processes;
        makers = is.makers;
        parents = is.parents;
        files = is.files;
        open_files = changed_open_files k.descriptions d x y known old was k.names k.files tt is.open_files;
        descriptors = changed_descriptors k.descriptions d x y known old was k.processes k.descriptors is.descriptors;
        descriptions = changed_descriptions k.descriptions d x y known old was k.descriptors refl is.descriptions;
        holders = changed_holders k.descriptions d x y known old was k.processes k.makers k.descriptors refl is.holders;
        made = changed_made k.descriptions d x y known old was k.next_id k.processes k.makers k.channels tt is.made;
        channels = is.channels;
        streams = changed_streams k.descriptions d x y known old was (λ c s. refl) k.listeners k.channels tt is.streams;
        listeners = changed_listeners k.descriptions d x y known old was (λ c s. refl) k.listeners k.channels (λ a. refl) is.listeners;
        addresses = changed_addresses k.descriptions d x y known old was (addressed.0, low)
            (λ e z address other found bound also. free e z other found (also ∙ ap Some (sym (bound_by (port == 0) (address_at old.host port) address bound)))) is.addresses;
        hosts = changed_hosts k.descriptions d x y known old was k.makers k.descriptors k.listeners k.channels (λ host on. inner old.host host on) is.hosts;
        inboxes = changed_inboxes k.descriptions d x y known old was k.inboxes refl (λ e. refl) is.inboxes;
        counters = changed_counters k.descriptions d x y known old was tt is.counters;
      }

  -- it listens
  module _ (address : VirtAddr) (own : address.host ≡ old.host) (above : 1 ≤ address.port) (low : address.port < 65536) (free : IsFreeFor k.descriptions d address) where
    listens_not : (e : DescId) (z : Description) → map.get k.descriptions e ≡ Some z → (b : Bool) → is_listener_at address z.object ≡ b → b ≡ false
    listens_not e z found false other = refl
    listens_not e z found true at = absurd (⊎_elim
        (λ here.
        let same : z ≡ x = let one = subst (λ r. map.get k.descriptions r ≡ Some z) here found in cc in
        true_false (sym (ap (is_listener_at address) (sym was) ∙ ap (λ (v : Description). is_listener_at address v.object) (sym same) ∙ at)))
        (λ other. free e z other found (listener_bound address z.object at))
        (same_or_other desc_total desc_exact e d))

    absent : map.get k.listeners address ≡ None
    absent = none_of (map.get k.listeners address)
        (is.listeners.described address ∙ none_among-values desc_total desc_exact (λ (z : Description). is_listener_at address z.object) k.descriptions (λ e z found. listens_not e z found (is_listener_at address z.object) refl))

    pub whole_listening : (backlog : ℕ) → backlog < 2 ^ 32
        → IsKernel (record (with_description k d (record { object = Listener address; flags = x.flags; owner = x.owner })) { listeners = map.insert k.listeners address (record { backlog = backlog; queue = [] }) })
    whole_listening backlog small =
        let y : Description = record { object = Listener address; flags = x.flags; owner = x.owner } in
        let with_y = map.insert k.descriptions d y in
        let addressed = socket_addressed in
        record {
          numbers = is.numbers;
          processes = is.processes;
          makers = is.makers;
          parents = is.parents;
          files = is.files;
          open_files = changed_open_files k.descriptions d x y known old was k.names k.files tt is.open_files;
          descriptors = changed_descriptors k.descriptions d x y known old was k.processes k.descriptors is.descriptors;
          descriptions = changed_descriptions k.descriptions d x y known old was k.descriptors refl is.descriptions;
          holders = changed_holders k.descriptions d x y known old was k.processes k.makers k.descriptors refl is.holders;
          made = changed_made k.descriptions d x y known old was k.next_id k.processes k.makers k.channels tt is.made;
          channels = is.channels;
          streams = pending_streams with_y k.listeners (map.insert k.listeners address (waiting_at backlog [])) k.channels (empty_pending k.listeners address backlog absent)
              (changed_streams k.descriptions d x y known old was (λ c s. refl) k.listeners k.channels tt is.streams);
          listeners = subst (λ (m : Descriptions). AreListeners m (map.insert k.listeners address (waiting_at backlog [])) k.channels) (put_back k.descriptions d x y known old was)
              (empty_listeners k.listeners address backlog absent (map.remove k.descriptions d) k.channels d y (none k.descriptions d x y known old was) refl small
              (listeners_without k.descriptions k.listeners k.channels d x known (λ a. ap (is_listener_at a) was) is.listeners));
          addresses = changed_addresses k.descriptions d x y known old was (let host = addressed.0 in omega arith, above, low)
              (λ e z other_address other found bound also. free e z other found (also ∙ sym bound)) is.addresses;
          hosts = empty_hosts k.listeners address backlog absent k.makers k.descriptors with_y k.channels
              (changed_hosts k.descriptions d x y known old was k.makers k.descriptors k.listeners k.channels (λ host on. sym own ∙ inner address.host host on) is.hosts);
          inboxes = changed_inboxes k.descriptions d x y known old was k.inboxes refl (λ e. refl) is.inboxes;
          counters = changed_counters k.descriptions d x y known old was tt is.counters;
        }

-- what a process makes has a number that it gave out
pub given_out : (k : PlainKernel) (is : IsKernel k) (p : VPid) (alive : is_live k p ≡ true) (num : ℕ) (maker : Maker) → map.get k.makers p ≡ Some maker → num < maker.made → IsMade k.next_id k.processes k.makers p num
unfolding is_live
given_out k is p alive num maker there below =
    let bound = is.makers.counts p maker there in
    record {
      known = number_of k is p alive;
      word = omega arith;
      below = λ m found lives. let same : maker ≡ m = cc in subst (λ (w : Maker). num < w.made) same below;
    }

not_pipe : {A : Type 0} (kind : ChannelKind) → kind ≡ Internet → kind ≡ Pipe → A
not_pipe kind one two = cc

and_not : (b : Bool) → (b && not b) ≡ false
and_not true = refl
and_not false = refl

-- the first connection of a listener's queue gets a descriptor
module _ (k : PlainKernel) (is : IsKernel k) (p : VPid) (alive : is_live k p ≡ true) (at num_fd : ℕ) (z : Descriptor) (w : Description) (address : VirtAddr)
    (holds : map.get k.descriptors (slot p at) ≡ Some z) (stands : map.get k.descriptions z.desc ≡ Some w) (listens : w.object ≡ Listener address)
    (backlog : ℕ) (conn : ConnId) (rest : List ConnId) (there : map.get k.listeners address ≡ Some (waiting_at backlog (conn ∷ rest))) where
  queued_first : is_queued conn (waiting_at backlog (conn ∷ rest)) ≡ true
  queued_first = or_left (eq_by_cmp conn_cmp conn conn) (list_any (eq_by_cmp conn_cmp conn) rest) (key_tied conn_total conn_exact conn)

  its_host : (host : ℕ) → host_of_end k.channels conn 1 ≡ Some host → has_host (map.get k.makers p) host ≡ true
  its_host host on = subst (λ h. has_host (map.get k.makers p) h ≡ true) (sym (is.hosts.pending address (waiting_at backlog (conn ∷ rest)) conn host there queued_first on))
      (is.hosts.held (slot p at) z w address.host holds stands (ap (host_of_object k.channels) listens))

  pub whole_accepted : (num flags : ℕ) → num_fd < 256 → map.get k.descriptors (slot p num_fd) ≡ None → IsNumberOf k p num → AreFlags flags
      → IsKernel (placed (record k { listeners = map.insert k.listeners address (record { backlog = backlog; queue = rest }) }) p num_fd (record { pid = p; num = num }) false (Stream conn 1) flags)
  unfolding is_live
  whole_accepted num flags low free number sound =
      let d : DescId = record { pid = p; num = num } in
      let descriptor : Descriptor = record { desc = d; cloexec = false } in
      let x : Description = record { object = Stream conn 1; flags = flags; owner = 0 } in
      let popped = map.insert k.listeners address (waiting_at backlog rest) in
      let joined = All-head (IsConnection k.channels) conn rest (is.listeners.each address (waiting_at backlog (conn ∷ rest)) there).connections in
      let may : MayBeEnd joined.0 flags 1 = record { is_side = omega arith; mode = λ pipe. not_pipe joined.0.kind joined.2 pipe } in
      let loose : ConnId → ℕ → Bool = λ c s. is_end c s (Stream conn 1) in
      let named = named_stream loose k.descriptions popped k.channels d x conn 1 joined.0 number.new refl joined.1 may (end_itself conn 1)
      (popped_streams k.descriptions k.listeners k.channels address backlog conn rest there is.listeners is.streams) in
      record {
        numbers = is.numbers;
        processes = is.processes;
        makers = is.makers;
        parents = is.parents;
        files = is.files;
        open_files = new_open_files k.descriptions d x number.new k.names k.files tt is.open_files;
        descriptors = new_descriptors k.descriptors (slot p num_fd) descriptor free k.descriptions x number.new k.processes low alive is.descriptors;
        descriptions = new_descriptions k.descriptors (slot p num_fd) descriptor free k.descriptions x number.new sound is.descriptions;
        holders = new_holders k.descriptors (slot p num_fd) descriptor free k.descriptions x number.new k.processes k.makers (host_itself (map.get k.makers p) (ap is_some number.known)) refl is.descriptors is.holders;
        made = new_made k.descriptions d x number.new k.next_id k.processes k.makers k.channels (given_out k is p alive num number.maker number.known number.below) tt is.made;
        channels = is.channels;
        streams = all_named (λ c s. loose c s && not (is_end c s (Stream conn 1))) (map.insert k.descriptions d x) popped k.channels (λ c s. and_not (is_end c s (Stream conn 1))) named;
        listeners = listeners_with k.descriptions popped k.channels d x number.new (λ a. refl) (popped_listeners k.descriptions k.listeners k.channels address backlog conn rest there is.listeners);
        addresses = new_addresses k.descriptions d x number.new tt refl is.addresses;
        hosts = new_hosts k.descriptors (slot p num_fd) descriptor free k.descriptions x number.new k.processes k.makers popped k.channels its_host is.descriptors
            (popped_hosts k.descriptions k.listeners k.channels address backlog conn rest there is.listeners k.makers k.descriptors is.hosts);
        inboxes = new_inboxes k.descriptions d x number.new k.inboxes refl (λ e. refl) number.unknown is.inboxes;
        counters = new_counters k.descriptions d x number.new tt is.counters;
      }

-- a listener's address is of a host
module _ (k : PlainKernel) (is : IsKernel k) (address : VirtAddr) (there : is_some (map.get k.listeners address) ≡ true) where
  refused : (nat_lt address.host 16 && nat_lt address.port 65536) ≡ false → (e : DescId) (z : Description) → map.get k.descriptions e ≡ Some z → (b : Bool) → is_listener_at address z.object ≡ b → b ≡ false
  refused beyond e z found false other = refl
  refused beyond e z found true at =
      let within = listener_addressed address z.object (is.addresses.each e z found) at in
      let host = within.0 in
      let port = within.1 in
      let fits : (nat_lt address.host 16 && nat_lt address.port 65536) ≡ true = grind (arith, nat_tests, host, port) in
      true_false (sym fits ∙ beyond)

  pub listener_within : (address.host < 16) × (address.port < 65536)
  listener_within = chosen (nat_lt address.host 16 && nat_lt address.port 65536) refl
    where
      chosen : (b : Bool) → (nat_lt address.host 16 && nat_lt address.port 65536) ≡ b → (address.host < 16) × (address.port < 65536)
      chosen true fits = (grind (arith, nat_tests, fits), grind (arith, nat_tests, fits))
      chosen false beyond = true_false (sym there ∙ is.listeners.described address
          ∙ none_among-values desc_total desc_exact (λ (z : Description). is_listener_at address z.object) k.descriptions (λ e z found. refused beyond e z found (is_listener_at address z.object) refl))

second_side : (e z o : Bool) → (z ≡ true → o ≡ false) → (((e && z) || (e && o)) && not (e && z)) ≡ (e && o)
second_side true true o apart = sym (apart refl)
second_side true false true apart = refl
second_side true false false apart = refl
second_side false z o apart = refl

-- a socket becomes side 0 of a connection, whose side 1 waits at a listener
module _ (k : PlainKernel) (is : IsKernel k) (d : DescId) (x : Description) (known : map.get k.descriptions d ≡ Some x) (old own to : VirtAddr) (was : x.object ≡ Socket old)
    (same_host : own.host ≡ old.host) (low : own.port < 65536) (backlog : ℕ) (queue : List ConnId) (there : map.get k.listeners to ≡ Some (waiting_at backlog queue)) (room : length queue < backlog)
    (conn : ConnId) (few : map.len k.channels < 256) (new : map.get k.channels conn ≡ None) (made_conn : IsMade k.next_id k.processes k.makers conn.pid conn.num) where
  abbrev connection : Channel
  connection = open_channel Internet (Some own) (Some to)

  end_at : (s : ℕ) → host_of_end (map.insert k.channels conn (open_channel Internet (Some own) (Some to))) conn s ≡ option_map (λ (a : VirtAddr). a.host) (end_of (open_channel Internet (Some own) (Some to)) s).address
  end_at s = ap (λ o. option_map (λ (a : VirtAddr). a.host) (option_and_then (λ (c : Channel). (end_of c s).address) o)) (get_insert_same conn_total conn_exact k.channels conn (open_channel Internet (Some own) (Some to)))

  both : (s : ℕ) → s < 2 → (s ≡ 0) ⊎ (s ≡ 1)
  both zero below = inl refl
  both (suc zero) below = inr refl
  both (suc (suc n)) below = absurd (omega arith)

  apart_sides : (s : ℕ) → (s == 0) ≡ true → (s == 1) ≡ false
  apart_sides s is_first = grind (arith, nat_tests, is_first)

  pub whole_connected : IsKernel (with_description (record (with_channel k conn (open_channel Internet (Some own) (Some to))) { listeners = map.insert k.listeners to (record { backlog = backlog; queue = queue ++ conn ∷ [] }) }) d
      (record { object = Stream conn 0; flags = x.flags; owner = x.owner }))
  whole_connected =
      let channel : Channel = open_channel Internet (Some own) (Some to) in
      let y : Description = record { object = Stream conn 0; flags = x.flags; owner = x.owner } in
      let joined = map.insert k.channels conn channel in
      let rest = map.remove k.descriptions d in
      let with_y = map.insert k.descriptions d y in
      let put_y = map.insert (map.remove k.descriptions d) d y in
      let back = put_back k.descriptions d x y known old was in
      let pushed = map.insert k.listeners to (waiting_at backlog (queue ++ conn ∷ [])) in
      let put = get_insert_same conn_total conn_exact k.channels conn channel in
      let streams = streams_without k.descriptions k.listeners k.channels d x known (λ c s. ap (is_end c s) was) is.streams in
      let listeners = listeners_without k.descriptions k.listeners k.channels d x known (λ a. ap (is_listener_at a) was) is.listeners in
      let sides = new_sides rest k.listeners k.channels conn channel new refl refl streams listeners 0 1 both in
      let loose : ConnId → ℕ → Bool = λ c s. is_end c s (Stream conn 0) || is_end c s (Stream conn 1) in
      let may : MayBeEnd channel x.flags 0 = record { is_side = omega arith; mode = λ pipe. not_pipe Internet refl pipe } in
      let named = named_stream loose rest k.listeners joined d y conn 0 channel (none k.descriptions d x y known old was) refl put may
      (or_left (is_end conn 0 (Stream conn 0)) (is_end conn 0 (Stream conn 1)) (end_itself conn 0)) sides in
      let unqueued = none_pending rest k.listeners k.channels conn channel new refl refl streams listeners in
      let waiting = listeners_with rest k.listeners joined d y (none k.descriptions d x y known old was) (λ a. refl) (listeners_still rest k.listeners k.channels conn channel new refl refl streams listeners) in
      let waiting_back = subst (λ (m : Descriptions). AreListeners m k.listeners joined) back waiting in
      let within = listener_within k is to (ap is_some there) in
      let addressed = socket_addressed k is d x known old was in
      record {
        numbers = is.numbers;
        processes = is.processes;
        makers = is.makers;
        parents = is.parents;
        files = is.files;
        open_files = changed_open_files k.descriptions d x y known old was k.names k.files tt is.open_files;
        descriptors = changed_descriptors k.descriptions d x y known old was k.processes k.descriptors is.descriptors;
        descriptions = changed_descriptions k.descriptions d x y known old was k.descriptors refl is.descriptions;
        holders = changed_holders k.descriptions d x y known old was k.processes k.makers k.descriptors refl is.holders;
        made = changed_made k.descriptions d x y known old was k.next_id k.processes k.makers joined tt (record {
          opened = is.made.opened;
          peers = is.made.peers;
          joined = each_with conn_total conn_exact (λ c ch. IsMade k.next_id k.processes k.makers c.pid c.num) k.channels conn channel made_conn (λ c ch other found. is.made.joined c ch found);
        });
        channels = new_channel_keeps k.channels k.directions conn channel is.channels new refl refl few (let host = addressed.0 in omega arith, low) within;
        streams = subst (λ (m : Descriptions). AreStreams m pushed joined) back
            (pushed_streams put_y k.listeners joined to backlog queue conn there waiting unqueued (λ c s. loose c s && not (is_end c s (Stream conn 0)))
            (λ c s. second_side (eq_by_cmp conn_cmp c conn) (s == 0) (s == 1) (apart_sides s)) named);
        listeners = subst (λ (m : Descriptions). AreListeners m pushed joined) back (pushed_listeners put_y k.listeners joined to backlog queue conn there waiting unqueued channel put refl room);
        addresses = changed_addresses k.descriptions d x y known old was tt (λ e z address other found bound also. bound_nothing address bound) is.addresses;
        hosts = pushed_hosts with_y k.listeners joined to backlog queue conn there waiting_back unqueued k.makers k.descriptors (λ host on. sym (inner to.host host (sym (end_at 1) ∙ on)))
            (changed_hosts k.descriptions d x y known old was k.makers k.descriptors k.listeners joined (λ host on. sym same_host ∙ inner own.host host (sym (end_at 0) ∙ on))
            (hosts_still k.descriptions k.listeners k.channels conn channel new refl refl is.streams is.listeners k.makers k.descriptors is.hosts));
        inboxes = changed_inboxes k.descriptions d x y known old was k.inboxes refl (λ e. refl) is.inboxes;
        counters = changed_counters k.descriptions d x y known old was tt is.counters;
      }
    where
      bound_nothing : (address : VirtAddr) → None ≡ Some address → ⊥
      bound_nothing address is = cc
