-- The kernel part stays whole where a process makes a channel and holds both its ends.
--     whole_pair
use Rattle.std.proofs.Common.{◌≡◌, ◌≢◌, ℕ, ◌<◌, Bool, true, false, List, [], ◌∷◌, refl, sym, ap, subst, ◌∙◌, arith, ⊎_elim}
use Rattle.std.specs.Prelude.{◌==◌, ◌&&◌, ◌||◌, ◌⊎◌, not, zero, suc, Some, None, is_some, option_map, option_and_then, All}
use Rattle.std.specs.List.{list_any}
use Rattle.std.specs.Ordering.{eq_by_cmp}
use Rattle.std.specs.FinMap as map
use Rattle.std.proofs.lemmas.List.Elements.{All-head, All-tail}
use Rattle.plain_tables.proofs.OfViews.MapLaws.{get_insert_same, get_insert_other, same_or_other, same_key, true_false}
use Rattle.plain_tables.proofs.OfViews.MapValues.{none_among-values}
use Rattle.plain_tables.specs.OfSysAbi.declared.identity.VPid.{VPid}
use Rattle.plain_tables.specs.OfSysAbi.declared.identity.Slot.{Slot}
use Rattle.plain_tables.specs.OfSysAbi.declared.identity.DescId.{DescId}
use Rattle.plain_tables.specs.OfSysAbi.declared.identity.ConnId.{ConnId}
use Rattle.plain_tables.specs.OfSysAbi.declared.identity.VirtAddr.{VirtAddr}
use Rattle.plain_tables.specs.OfSysAbi.Orders.{conn_cmp}
use Rattle.plain_tables.proofs.OfSysAbi.OrderLaws.{slot_total, slot_exact, desc_total, desc_exact, conn_total, conn_exact, address_total, address_exact}
use Rattle.plain_machine.specs.declared.kernel.PlainKernel.{PlainKernel}
use Rattle.plain_tables.specs.OfSysAbi.declared.maker.Maker.{Maker}
use Rattle.plain_tables.specs.OfSysAbi.declared.descriptor.Descriptor.{Descriptor}
use Rattle.plain_tables.specs.declared.description.Description.{Description}
use Rattle.plain_tables.specs.declared.description.Object.{Object}
use Rattle.plain_tables.specs.declared.description.Object.TheVariants.{Stream, Socket, Listener}
use Rattle.plain_tables.specs.declared.channel.Channel.{Channel}
use Rattle.plain_tables.specs.declared.channel.Listening.{Listening}
use Rattle.plain_tables.specs.Tables.{Makers, Descriptors, Descriptions, Channels, Listeners, slot}
use Rattle.plain_tables.specs.Objects.{end_of, is_end, is_listener_at, is_queued, has_stream, is_pending, is_named, knows, host_of_end, host_of_object}
use Rattle.plain_tables.specs.Valid.Descriptions.{AreFlags, IsMade}
use Rattle.plain_tables.specs.Valid.Channels.{AreStreams, IsStream, MayBeEnd, HasAddress}
use Rattle.plain_tables.specs.Valid.Sockets.{AreListeners, IsConnection, AreHosts, has_host}
use Rattle.plain_machine.specs.Kernel.{is_live, placed}
use Rattle.plain_machine.specs.Channels.{with_channel}
use Rattle.plain_machine.specs.Kernels.{IsKernel}
use Rattle.plain_machine.specs.KernelLaws.{IsNumberOf}
use Rattle.plain_tables.proofs.Entries.{each_with}
use Rattle.plain_tables.proofs.AddedDescriptions.{any_with, new_open_files, new_made, new_counters, new_addresses, new_inboxes, new_descriptors, new_descriptions, new_holders, new_hosts}
use Rattle.plain_tables.proofs.NewChannels.{new_channel_keeps}
use Rattle.plain_tables.proofs.OpenedStreams.{AreStreamsBut, and_first, named_stream, all_named}
use Rattle.plain_tables.proofs.ClosedStreams.{all_queued, end_itself, end_other, or_left, or_right}
use Rattle.plain_machine.proofs.WholePlaced.{number_of, host_itself}

and_none : (b : Bool) → (b && false) ≡ false
and_none true = refl
and_none false = refl

-- what holds of each connection of a queue holds of one that is found in it
head_or : (P : ConnId → Type 0) (conn c : ConnId) (b any : Bool) → eq_by_cmp conn_cmp conn c ≡ b → P c → (any ≡ true → P conn) → (b || any) ≡ true → P conn
head_or P conn c true any tied holds later is = subst P (sym (same_key conn_total conn_exact conn c tied)) holds
head_or P conn c false any tied holds later is = later is

at_queue : (P : ConnId → Type 0) (conn : ConnId) (queue : List ConnId) → All P queue → list_any (eq_by_cmp conn_cmp conn) queue ≡ true → P conn
at_queue P conn [] all is = true_false (sym is)
at_queue P conn (c ∷ rest) all is =
    head_or P conn c (eq_by_cmp conn_cmp conn c) (list_any (eq_by_cmp conn_cmp conn) rest) refl (All-head P c rest all) (at_queue P conn rest (All-tail P c rest all)) is

either_end : (a b : Bool) → a ≡ false → b ≡ true → ((a || b) && not a) ≡ true
either_end true b no_a is_b = true_false no_a
either_end false b no_a is_b = ap (λ x. x && true) is_b

none_left : (a b : Bool) → (((a || b) && not a) && not b) ≡ false
none_left true true = refl
none_left true false = refl
none_left false true = refl
none_left false false = refl

or_false : (a b : Bool) → a ≡ false → b ≡ false → (a || b) ≡ false
or_false true b first second = first
or_false false b first second = second

or_none : (a : Bool) → (a || false) ≡ a
or_none true = refl
or_none false = refl

-- a channel more beside those that streams and listeners know
module _ (descriptions : Descriptions) (listeners : Listeners) (channels : Channels) (conn : ConnId) (channel : Channel) (new : map.get channels conn ≡ None)
    (first : channel.first.is_open ≡ true) (second : channel.second.is_open ≡ true) where
  old_conn : (c : ConnId) (ch : Channel) → map.get channels c ≡ Some ch → c ≢ conn
  old_conn c ch found here = let there : map.get channels conn ≡ Some ch = subst (λ x. map.get channels x ≡ Some ch) here found in cc

  stands : (c : ConnId) (ch : Channel) → map.get channels c ≡ Some ch → map.get (map.insert channels conn channel) c ≡ Some ch
  stands c ch found = get_insert_other conn_total conn_exact channels conn channel c (old_conn c ch found) ∙ found

  stream_still : (flags : ℕ) (object : Object) → IsStream channels flags object → IsStream (map.insert channels conn channel) flags object
  stream_still flags (Stream c s) is = (is.0, stands c is.0 is.1, is.2)
  stream_still flags _ is = tt

  not_its_end : (s flags : ℕ) (object : Object) → IsStream channels flags object → is_end conn s object ≡ true → ⊥
  not_its_end s flags (Stream c t) is ends = old_conn c is.0 is.1 (sym (same_key conn_total conn_exact conn c (and_first (eq_by_cmp conn_cmp conn c) (s == t) ends)))
  not_its_end s flags _ is ends = true_false (sym ends)

  no_end : (s flags : ℕ) (object : Object) → IsStream channels flags object → (b : Bool) → is_end conn s object ≡ b → b ≡ false
  no_end s flags object is true ends = absurd (not_its_end s flags object is ends)
  no_end s flags object is false ends = refl

  module _ (is : AreStreams descriptions listeners channels) (are : AreListeners descriptions listeners channels) where
    no_stream_at : (s : ℕ) → has_stream descriptions conn s ≡ false
    no_stream_at s = none_among-values desc_total desc_exact (λ (y : Description). is_end conn s y.object) descriptions (λ d x found. no_end s x.flags x.object (is.each d x found) (is_end conn s x.object) refl)

    not_queued : (a : VirtAddr) (one : Listening) → map.get listeners a ≡ Some one → (b : Bool) → is_queued conn one ≡ b → b ≡ false
    not_queued a one found true queued =
        let joined = at_queue (IsConnection channels) conn one.queue (are.each a one found).connections queued in
        absurd (old_conn conn joined.0 joined.1 refl)
    not_queued a one found false other = refl

    pub none_pending : is_pending listeners conn ≡ false
    none_pending = none_among-values address_total address_exact (is_queued conn) listeners (λ a one found. not_queued a one found (is_queued conn one) refl)

    unnamed : (s : ℕ) → is_named descriptions listeners conn s ≡ false
    unnamed s = ap (λ b. b || ((s == 1) && is_pending listeners conn)) (no_stream_at s) ∙ ap (λ b. (s == 1) && b) none_pending ∙ and_none (s == 1)

    -- its sides wait for their names
    module _ (side other : ℕ) (both : (s : ℕ) → s < 2 → (s ≡ side) ⊎ (s ≡ other)) where
      abbrev waiting : ConnId → ℕ → Bool
      waiting c s = is_end c s (Stream conn side) || is_end c s (Stream conn other)

      open_side : (s : ℕ) → s < 2 → (end_of channel s).is_open ≡ true
      open_side zero low = first
      open_side (suc zero) low = second
      open_side (suc (suc n)) low = absurd (omega arith)

      waits : (s : ℕ) → s < 2 → waiting conn s ≡ true
      waits s low = ⊎_elim
          (λ one. ap (λ t. waiting conn t) one ∙ or_left (is_end conn side (Stream conn side)) (is_end conn side (Stream conn other)) (end_itself conn side))
          (λ two. ap (λ t. waiting conn t) two ∙ or_right (is_end conn other (Stream conn side)) (is_end conn other (Stream conn other)) (end_itself conn other))
          (both s low)

      waits_not : (c : ConnId) (s : ℕ) → c ≢ conn → waiting c s ≡ false
      waits_not c s apart = or_false (is_end c s (Stream conn side)) (is_end c s (Stream conn other)) (end_other c conn s side (λ same t. apart same)) (end_other c conn s other (λ same t. apart same))

      free_by : (c : ConnId) (s : ℕ) → waiting c s ≡ true → is_named descriptions listeners c s ≡ false
      free_by c s yet = ⊎_elim (λ here. ap (λ q. is_named descriptions listeners q s) here ∙ unnamed s) (λ apart. true_false (sym yet ∙ waits_not c s apart)) (same_or_other conn_total conn_exact c conn)

      pub new_sides : AreStreamsBut (λ c s. is_end c s (Stream conn side) || is_end c s (Stream conn other)) descriptions listeners (map.insert channels conn channel)
      new_sides = record {
        each = λ d x found. stream_still x.flags x.object (is.each d x found);
        once = is.once;
        apart = is.apart;
        opened = λ c ch s found low. each_with conn_total conn_exact (λ q w. (end_of w s).is_open ≡ (is_named descriptions listeners q s || waiting q s)) channels conn channel
            (open_side s low ∙ sym (or_right (is_named descriptions listeners conn s) (waiting conn s) (waits s low)))
            (λ q w apart was. is.opened q w s was low ∙ sym (ap (λ b. is_named descriptions listeners q s || b) (waits_not q s apart) ∙ or_none (is_named descriptions listeners q s)))
            c ch found;
        free = free_by;
      }

    pub listeners_still : AreListeners descriptions listeners (map.insert channels conn channel)
    listeners_still = record {
      each = λ a one found.
          let old = are.each a one found in
          record {
            room = old.room;
            backlog = old.backlog;
            connections = all_queued (IsConnection channels) (IsConnection (map.insert channels conn channel)) one.queue (λ c queued has. (has.0, stands c has.0 has.1, has.2)) old.connections;
            once = old.once;
          };
      described = are.described;
      apart = are.apart;
    }

    end_still : (c : ConnId) (s host : ℕ) (ch : Channel) → map.get channels c ≡ Some ch → host_of_end (map.insert channels conn channel) c s ≡ Some host → host_of_end channels c s ≡ Some host
    end_still c s host ch found on =
        let same : map.get (map.insert channels conn channel) c ≡ map.get channels c = stands c ch found ∙ sym found in
        sym (ap (λ o. option_map (λ address. address.host) (option_and_then (λ w. (end_of w s).address) o)) same) ∙ on

    object_still : (flags host : ℕ) (object : Object) → IsStream channels flags object → host_of_object (map.insert channels conn channel) object ≡ Some host → host_of_object channels object ≡ Some host
    object_still flags host (Stream c s) is on = end_still c s host is.0 is.1 on
    object_still flags host (Socket address) is on = on
    object_still flags host (Listener address) is on = on
    object_still flags host _ is on = on

    pub hosts_still : (makers : Makers) (descriptors : Descriptors) → AreHosts makers descriptors descriptions listeners channels → AreHosts makers descriptors descriptions listeners (map.insert channels conn channel)
    hosts_still makers descriptors hosts = record {
      held = λ a x description host found known on. hosts.held a x description host found known (object_still description.flags host description.object (is.each x.desc description known) on);
      pending = λ a one c host found queued on.
          let joined = at_queue (IsConnection channels) c one.queue (are.each a one found).connections queued in
          hosts.pending a one c host found queued (end_still c 1 host joined.0 joined.1 on);
    }

-- a listener's descriptions, beside a new stream
pub listeners_with : (descriptions : Descriptions) (listeners : Listeners) (channels : Channels) (d : DescId) (x : Description) → map.get descriptions d ≡ None → ((a : VirtAddr) → is_listener_at a x.object ≡ false)
    → AreListeners descriptions listeners channels → AreListeners (map.insert descriptions d x) listeners channels
listeners_with descriptions listeners channels d x new no_listener is = record {
  each = is.each;
  described = λ a. is.described a ∙ sym (any_with descriptions d x new (is_listener_at a) (no_listener a));
  apart = is.apart;
}

-- a channel more, of a number of the process, and a descriptor for each of its ends
pub whole_pair : (k : PlainKernel) (p : VPid) (conn : ConnId) (channel : Channel) (side other fd fd_other num num_other flags flags_other : ℕ) (cloexec : Bool) → IsKernel k → is_live k p ≡ true
    → map.len k.channels < 256 → map.get k.channels conn ≡ None → IsMade k.next_id k.processes k.makers conn.pid conn.num → HasAddress channel.kind channel.first.address → HasAddress channel.kind channel.second.address
    → channel.first.is_open ≡ true → channel.second.is_open ≡ true → ((s host : ℕ) → host_of_end (map.insert k.channels conn channel) conn s ≡ Some host → has_host (map.get k.makers p) host ≡ true)
    → ((s : ℕ) → s < 2 → (s ≡ side) ⊎ (s ≡ other)) → side ≢ other → MayBeEnd channel flags side → MayBeEnd channel flags_other other → fd < 256 → fd_other < 256 → fd ≢ fd_other
    → map.get k.descriptors (slot p fd) ≡ None → map.get k.descriptors (slot p fd_other) ≡ None → num ≢ num_other → IsNumberOf k p num → IsNumberOf k p num_other → AreFlags flags → AreFlags flags_other
    → IsKernel (placed (placed (with_channel k conn channel) p fd (record { pid = p; num = num }) cloexec (Stream conn side) flags) p fd_other (record { pid = p; num = num_other }) cloexec (Stream conn other) flags_other)
unfolding is_live
whole_pair k p conn channel side other fd fd_other num num_other flags flags_other cloexec is alive few new_conn made_conn one_address two_address first second own both apart may may_other low low_other fds free free_other nums number number_other sound sound_other =
    let d : DescId = record { pid = p; num = num } in
    let e : DescId = record { pid = p; num = num_other } in
    let x : Description = record { object = Stream conn side; flags = flags; owner = 0 } in
    let y : Description = record { object = Stream conn other; flags = flags_other; owner = 0 } in
    let a : Descriptor = record { desc = d; cloexec = cloexec } in
    let b : Descriptor = record { desc = e; cloexec = cloexec } in
    let joined = map.insert k.channels conn channel in
    let with_d = map.insert k.descriptions d x in
    let with_a = map.insert k.descriptors (slot p fd) a in
    let numbers : e ≢ d = λ same. nums (ap (λ (z : DescId). z.num) (sym same)) in
    let slots : slot p fd_other ≢ slot p fd = λ same. fds (ap (λ (z : Slot). z.fd) (sym same)) in
    let new_e : map.get with_d e ≡ None = get_insert_other desc_total desc_exact k.descriptions d x e numbers ∙ number_other.new in
    let free_b : map.get with_a (slot p fd_other) ≡ None = get_insert_other slot_total slot_exact k.descriptors (slot p fd) a (slot p fd_other) slots ∙ free_other in
    let itself = host_itself (map.get k.makers p) (ap is_some number.known) in
    let word = is.makers.counts p number.maker number.known in
    let own_number = number_of k is p alive in
    let given : (n : ℕ) → n < number.maker.made → IsMade k.next_id k.processes k.makers p n = λ n below. record {
      known = own_number;
      word = omega arith;
      below = λ m found lives. let same : number.maker ≡ m = let one = number.known in cc in subst (λ (w : Maker). n < w.made) same below;
    } in
    let same_maker : number_other.maker ≡ number.maker = let one = number.known in let two = number_other.known in cc in
    let below_other : num_other < number.maker.made = subst (λ (w : Maker). num_other < w.made) same_maker number_other.below in
    let sides = new_sides k.descriptions k.listeners k.channels conn channel new_conn first second is.streams is.listeners side other both in
    let loose : ConnId → ℕ → Bool = λ c s. is_end c s (Stream conn side) || is_end c s (Stream conn other) in
    let known = get_insert_same conn_total conn_exact k.channels conn channel in
    let one_named = named_stream loose k.descriptions k.listeners joined d x conn side channel number.new refl known may (or_left (is_end conn side (Stream conn side)) (is_end conn side (Stream conn other)) (end_itself conn side)) sides in
    let two_named = named_stream (λ c s. loose c s && not (is_end c s (Stream conn side))) with_d k.listeners joined e y conn other channel new_e refl known may_other
    (either_end (is_end conn other (Stream conn side)) (is_end conn other (Stream conn other)) (end_other conn conn other side (λ same t. apart (sym t))) (end_itself conn other)) one_named in
    let descriptors = new_descriptors k.descriptors (slot p fd) a free k.descriptions x number.new k.processes low alive is.descriptors in
    record {
      numbers = is.numbers;
      processes = is.processes;
      makers = is.makers;
      parents = is.parents;
      files = is.files;
      open_files = new_open_files with_d e y new_e k.names k.files tt (new_open_files k.descriptions d x number.new k.names k.files tt is.open_files);
      descriptors = new_descriptors with_a (slot p fd_other) b free_b with_d y new_e k.processes low_other alive descriptors;
      descriptions = new_descriptions with_a (slot p fd_other) b free_b with_d y new_e sound_other (new_descriptions k.descriptors (slot p fd) a free k.descriptions x number.new sound is.descriptions);
      holders = new_holders with_a (slot p fd_other) b free_b with_d y new_e k.processes k.makers itself refl descriptors (new_holders k.descriptors (slot p fd) a free k.descriptions x number.new k.processes k.makers itself refl is.descriptors is.holders);
      made = new_made with_d e y new_e k.next_id k.processes k.makers joined (given num_other below_other) tt (new_made k.descriptions d x number.new k.next_id k.processes k.makers joined (given num number.below) tt (record {
        opened = is.made.opened;
        peers = is.made.peers;
        joined = each_with conn_total conn_exact (λ c ch. IsMade k.next_id k.processes k.makers c.pid c.num) k.channels conn channel made_conn (λ c ch other found. is.made.joined c ch found);
      }));
      channels = new_channel_keeps k.channels k.directions conn channel is.channels new_conn first second few one_address two_address;
      streams = all_named (λ c s. (loose c s && not (is_end c s (Stream conn side))) && not (is_end c s (Stream conn other))) (map.insert with_d e y) k.listeners joined
          (λ c s. none_left (is_end c s (Stream conn side)) (is_end c s (Stream conn other))) two_named;
      listeners = listeners_with with_d k.listeners joined e y new_e (λ address. refl)
          (listeners_with k.descriptions k.listeners joined d x number.new (λ address. refl) (listeners_still k.descriptions k.listeners k.channels conn channel new_conn first second is.streams is.listeners));
      addresses = new_addresses with_d e y new_e tt refl (new_addresses k.descriptions d x number.new tt refl is.addresses);
      hosts = new_hosts with_a (slot p fd_other) b free_b with_d y new_e k.processes k.makers k.listeners joined (own other) descriptors
          (new_hosts k.descriptors (slot p fd) a free k.descriptions x number.new k.processes k.makers k.listeners joined (own side) is.descriptors
          (hosts_still k.descriptions k.listeners k.channels conn channel new_conn first second is.streams is.listeners k.makers k.descriptors is.hosts));
      inboxes = new_inboxes with_d e y new_e k.inboxes refl (λ q. refl)
          (λ q z found. each_with desc_total desc_exact (λ r w. knows e w.object ≡ false) k.descriptions d x refl (λ r w other was. number_other.unknown r w was) q z found)
          (new_inboxes k.descriptions d x number.new k.inboxes refl (λ q. refl) number.unknown is.inboxes);
      counters = new_counters with_d e y new_e tt (new_counters k.descriptions d x number.new tt is.counters);
    }
