-- The sockets and listeners of an image that can be spelled have addresses of their own, and what is held has its holders' host.
--     addresses_are, hosts_are      a topic each
use Rattle.std.proofs.Common.{◌≡◌, ℕ, ◌==◌, ◌&&◌, Bool, true, false, cond, List, refl, sym, ap, subst, ◌∙◌, ⊎_elim, arith}
use Rattle.std.specs.Prelude.{not, nat_le, Option, Some, None, option_map, option_and_then}
use Rattle.std.specs.List.{list_all}
use Rattle.std.specs.Ordering.{eq_by_cmp}
use Rattle.std.specs.FinMap as map
use Rattle.views.proofs.MapLaws.{true_false, key_tied, same_key}
use Rattle.sys_abi.specs.declared.identity.Slot.{Slot}
use Rattle.sys_abi.specs.declared.identity.DescId.{DescId}
use Rattle.sys_abi.specs.declared.identity.ConnId.{ConnId}
use Rattle.sys_abi.specs.declared.identity.VirtAddr.{VirtAddr}
use Rattle.sys_abi.specs.Orders.{conn_cmp}
use Rattle.sys_abi.proofs.OrderLaws.{conn_total, conn_exact}
use Rattle.plain_machine.specs.declared.kernel.PlainKernel.{PlainKernel}
use Rattle.sys_abi.specs.declared.descriptor.Descriptor.{Descriptor}
use Rattle.plain_tables.specs.declared.description.Description.{Description}
use Rattle.plain_tables.specs.declared.channel.Channel.{Channel}
use Rattle.plain_tables.specs.declared.channel.Listening.{Listening}
use Rattle.plain_tables.specs.Objects.{bound_at, end_of, host_of_end, host_of_object, is_queued}
use Rattle.plain_tables.specs.Valid.Sockets.{IsAddressed, AreAddresses, AreHosts, has_host}
use Rattle.shared_items.specs.declared.shared.ChannelImage.{ChannelImage}
use Rattle.shared_items.specs.declared.shared.ObjectImage.{ObjectImage}
use Rattle.shared_items.specs.declared.shared.ObjectImage.TheVariants.{Console, File, Stream, Socket, Listener}
use Rattle.shared_items.specs.declared.shared.DescriptionImage.{DescriptionImage}
use Rattle.shared_items.specs.declared.shared.ProcessEntry.{ProcessEntry}
use Rattle.shared_items.specs.declared.shared.Shared.{Shared}
use Rattle.shared_items.specs.SharedTests as field
use Rattle.shared_items.specs.Sides.{same_channel}
use Rattle.shared_items.specs.WholeShared as whole
use Rattle.shared_items.specs.SharedFits.{IsShared, ObjectFits}
use Rattle.image_format.specs.Fields.{is_within}
use Rattle.image_codec.specs.KernelParts.{kernel_of, maker_entry, channel_entry, object_of}
use Rattle.image_codec.proofs.HeldImages.{same_pair}
use Rattle.image_codec.proofs.Items.{IsItem, item_fits, item_passes, some_item, which_item, one_item}
use Rattle.image_codec.proofs.KernelItems.{IsInOrder, same_some, channel_item, description_item, listener_item, descriptor_item, item_maker}
use Rattle.image_codec.proofs.ListedProcesses.{ends_of}
use Rattle.image_codec.proofs.OrderedItems.{in_order, IsListed, is_listener}
use Rattle.image_codec.proofs.TestFacts.{and_true, or_either, follows, refused, same_number, equal_numbers, below, at_most}

-- addresses
addressed : (s : Shared) (front : List DescriptionImage) (flags : ℕ) (o : ObjectImage) → ObjectFits s.files s.channels front flags o → IsAddressed (object_of o)
addressed s front flags Console fits = tt
addressed s front flags (File number offset) fits = tt
addressed s front flags (Stream conn side) fits = tt
addressed s front flags (Socket address) fits =
    let port = at_most address.port 65535 (and_true (field.is_port address.port) _ fits.port.1).0 in
    (below address.host 16 fits.host.1, omega (arith, port))
addressed s front flags (Listener address backlog pending) fits =
    let within = (and_true (is_within 1 65535 address.port) (not (field.is_listed_port front address.host address.port)) fits.port.1).0 in
    let (least, most) = and_true (nat_le 1 address.port) (nat_le address.port 65535) within in
    let low = at_most 1 address.port least in
    let high = at_most address.port 65535 most in
    (below address.host 16 fits.host.1, low, omega (arith, high))

-- a port that is bound
bound_socket : (b : Bool) (address other : VirtAddr) → cond b None (Some address) ≡ Some other → (b ≡ false) × (address ≡ other)
bound_socket true address other is = cc
bound_socket false address other is = (refl, same_some address other is)

has_address : (o : ObjectImage) (address : VirtAddr) → bound_at (object_of o) ≡ Some address → field.has_port address.host address.port o ≡ true
has_address Console address is = cc
has_address (File number offset) address is = cc
has_address (Stream conn side) address is = cc
has_address (Socket other) address is =
    let (bound, same) = bound_socket (other.port == 0) other address is in
    ap (λ (a : VirtAddr). (a.host == address.host) && (a.port == address.port)) same ∙ (λ i. same_number address.host i && same_number address.port i)
has_address (Listener other backlog pending) address is =
    let same = same_some other address is in
    ap (λ (a : VirtAddr). (a.host == address.host) && (a.port == address.port)) same ∙ (λ i. same_number address.host i && same_number address.port i)

-- an address that no socket or listener in front has
free_address : (s : Shared) (front : List DescriptionImage) (flags : ℕ) (o : ObjectImage) (address : VirtAddr) → ObjectFits s.files s.channels front flags o → bound_at (object_of o) ≡ Some address
    → field.is_listed_port front address.host address.port ≡ true → ⊥
free_address s front flags Console address fits is used = cc
free_address s front flags (File number offset) address fits is used = cc
free_address s front flags (Stream conn side) address fits is used = cc
free_address s front flags (Socket other) address fits is used =
    let (bound, same) = bound_socket (other.port == 0) other address is in
    ⊎_elim
    (λ unbound. true_false (sym unbound ∙ bound))
    (λ free. refused (field.is_listed_port front other.host other.port) free (ap (λ (a : VirtAddr). field.is_listed_port front a.host a.port) same ∙ used))
    (or_either (other.port == 0) (not (field.is_listed_port front other.host other.port)) (and_true (field.is_port other.port) _ fits.port.1).1)
free_address s front flags (Listener other backlog pending) address fits is used =
    let same = same_some other address is in
    refused (field.is_listed_port front other.host other.port) (and_true (is_within 1 65535 other.port) (not (field.is_listed_port front other.host other.port)) fits.port.1).1
    (ap (λ (a : VirtAddr). field.is_listed_port front a.host a.port) same ∙ used)

record HaveOneAddress (d e : DescriptionImage) : Type 0 where
  address : VirtAddr
  first : bound_at (object_of d.object) ≡ Some address
  second : bound_at (object_of e.object) ≡ Some address

never_both : (s : Shared) (front : List DescriptionImage) (d e : DescriptionImage) → IsListed s front d → IsItem front e → HaveOneAddress e d → ⊥
never_both s front d e fits at one =
    free_address s front d.flags d.object one.address fits.what one.second
    (some_item (λ (it : DescriptionImage). field.has_port one.address.host one.address.port it.object) front e at (has_address e.object one.address one.first))

-- which side of a channel
side_address : (b : Bool) (s : Shared) (c : ChannelImage) → (cond b (channel_entry s.descriptions c).1.first (channel_entry s.descriptions c).1.second).address ≡ (cond b c.first c.second).address
side_address true s c = refl
side_address false s c = refl

module _ (s : Shared) (is : IsShared s) where
  abbrev k : PlainKernel
  k = kernel_of s

  order : IsInOrder s
  order = in_order s is.fields

  fits : (it : DescriptionImage) (at : IsItem s.descriptions it) → IsListed s at.front it
  fits it at = item_fits (IsListed s) s.descriptions it is.fields.descriptions at

  pub addresses_are : AreAddresses k.descriptions
  addresses_are = record {
    each = λ d x found.
        let (it, at, entry) = description_item s d x found in
        subst IsAddressed (ap (λ (e : DescId × Description). e.1.object) entry) (addressed s at.front it.flags it.object (fits it at).what);
    apart = λ d e x y address found too bound also.
        let (it, at, entry) = description_item s d x found in
        let (other, by, entry_too) = description_item s e y too in
        let first : bound_at (object_of it.object) ≡ Some address = ap (λ (f : DescId × Description). bound_at f.1.object) entry ∙ bound in
        let second : bound_at (object_of other.object) ≡ Some address = ap (λ (f : DescId × Description). bound_at f.1.object) entry_too ∙ also in
        let same = one_item (IsListed s) HaveOneAddress (never_both s) s.descriptions it other is.fields.descriptions at by
        (record { address = address; first = first; second = second }) (record { address = address; first = second; second = first }) in
        sym (ap (λ (f : DescId × Description). f.0) entry) ∙ ap (λ (g : DescriptionImage). g.id) same ∙ ap (λ (f : DescId × Description). f.0) entry_too;
  }

  -- an end of a channel
  end_host : (conn : ConnId) (side host own : ℕ) → host_of_end k.channels conn side ≡ Some host → whole.is_side_of_host s.channels own side conn ≡ true → host ≡ own
  end_host conn side host own known near = by_found (map.get k.channels conn) refl known
    where
      at_end : (c : ChannelImage) → IsItem s.channels c → c.id ≡ conn → (address : VirtAddr) → (whole.side_of c side).address ≡ Some address → address.host ≡ own
      at_end c at same address is =
          equal_numbers address.host own
          (ap (whole.is_of_host own) (sym is)
          ∙ follows (same_channel conn c.id) _ (item_passes (whole.is_end_of_host own conn side) s.channels c near at) (ap (eq_by_cmp conn_cmp conn) same ∙ key_tied conn_total conn_exact conn))

      by_address : (c : ChannelImage) → IsItem s.channels c → c.id ≡ conn → (found : Option VirtAddr) → (whole.side_of c side).address ≡ found → option_map (λ (a : VirtAddr). a.host) found ≡ Some host → host ≡ own
      by_address c at same None is known = cc
      by_address c at same (Some address) is known = sym (same_some address.host host known) ∙ at_end c at same address is

      by_found : (found : Option Channel) → map.get k.channels conn ≡ found
          → option_map (λ (a : VirtAddr). a.host) (option_and_then (λ (c : Channel). (end_of c side).address) found) ≡ Some host → host ≡ own
      by_found None there known = cc
      by_found (Some channel) there known =
          let (c, at, entry) = channel_item s conn channel there in
          by_address c at (ap (λ (e : ConnId × Channel). e.0) entry) (whole.side_of c side).address refl
          (ap (option_map (λ (a : VirtAddr). a.host)) (sym (side_address (side == 0) s c) ∙ ap (λ (e : ConnId × Channel). (end_of e.1 side).address) entry) ∙ known)

  -- what a process holds
  held_near : (it : DescriptionImage) → IsItem s.descriptions it → (p : ProcessEntry) → IsItem s.processes p → whole.holds it.id p ≡ true → whole.is_object_of_host s.channels p.host it.object ≡ true
  held_near it at p there holds =
      let rightly = item_passes (whole.is_rightly_held s.channels s.processes) s.descriptions it (ends_of s is).held at in
      let all = (and_true (whole.is_held_by_some s.processes it.id) (list_all (whole.is_rightly_held_by s.channels s.processes it) s.processes) rightly).1 in
      let may = follows (whole.holds it.id p) (whole.may_hold s.channels s.processes it p) (item_passes (whole.is_rightly_held_by s.channels s.processes it) s.processes p all there) holds in
      (and_true (list_all (whole.may_share p it.id) s.processes && whole.is_owner s.processes p.host it.owner) (whole.is_object_of_host s.channels p.host it.object) may).1

  some_holder : (it : DescriptionImage) → IsItem s.descriptions it → (p : ProcessEntry) × IsItem s.processes p × (whole.holds it.id p ≡ true)
  some_holder it at =
      which_item (whole.holds it.id) s.processes
      (and_true (whole.is_held_by_some s.processes it.id) (list_all (whole.is_rightly_held_by s.channels s.processes it) s.processes)
      (item_passes (whole.is_rightly_held s.channels s.processes) s.descriptions it (ends_of s is).held at)).0

  object_host : (o : ObjectImage) (own host : ℕ) → whole.is_object_of_host s.channels own o ≡ true → host_of_object k.channels (object_of o) ≡ Some host → own ≡ host
  object_host Console own host near known = cc
  object_host (File number offset) own host near known = cc
  object_host (Stream conn side) own host near known = sym (end_host conn side host own known near)
  object_host (Socket address) own host near known = sym (equal_numbers address.host own near) ∙ same_some address.host host known
  object_host (Listener address backlog pending) own host near known =
      sym (equal_numbers address.host own (and_true (address.host == own) (list_all (whole.is_side_of_host s.channels own 1) pending) near).0) ∙ same_some address.host host known

  held : (a : Slot) (x : Descriptor) (description : Description) (host : ℕ) → map.get k.descriptors a ≡ Some x → map.get k.descriptions x.desc ≡ Some description
      → host_of_object k.channels description.object ≡ Some host → has_host (map.get k.makers a.pid) host ≡ true
  held a x description host found described known =
      let (p, d, there, of_p, slot) = descriptor_item s a x found in
      let (it, at, entry) = description_item s x.desc description described in
      let refers : d.desc ≡ it.id = ap (λ (e : Slot × Descriptor). e.1.desc) slot ∙ sym (ap (λ (e : DescId × Description). e.0) entry) in
      let holds = some_item (whole.names_description it.id) p.descriptors d of_p (same_pair it.id d.desc refers) in
      let mine : p.host ≡ host = object_host it.object p.host host (held_near it at p there holds) (ap (λ (e : DescId × Description). host_of_object k.channels e.1.object) entry ∙ known) in
      let maker : map.get k.makers a.pid ≡ Some (maker_entry p).1 = ap (map.get k.makers) (sym (ap (λ (e : Slot × Descriptor). e.0.pid) slot)) ∙ item_maker s order p there in
      ap (λ found. has_host found host) maker ∙ ap (λ n. n == host) mine ∙ same_number host

  pending : (address : VirtAddr) (listening : Listening) (conn : ConnId) (host : ℕ) → map.get k.listeners address ≡ Some listening → is_queued conn listening ≡ true
      → host_of_end k.channels conn 1 ≡ Some host → host ≡ address.host
  pending address listening conn host found queued known =
      let (it, at, entry) = listener_item s address listening found in
      let (p, there, holds) = some_holder it at in
      let near : whole.is_object_of_host s.channels p.host (Listener address listening.backlog listening.queue) ≡ true =
      ap (whole.is_object_of_host s.channels p.host) (sym (is_listener it.object address listening entry)) ∙ held_near it at p there holds in
      let (own, all) = and_true (address.host == p.host) (list_all (whole.is_side_of_host s.channels p.host 1) listening.queue) near in
      let (other, waits, tied) = which_item (eq_by_cmp conn_cmp conn) listening.queue queued in
      let same : conn ≡ other = same_key conn_total conn_exact conn other tied in
      let side = ap (whole.is_side_of_host s.channels p.host 1) same ∙ item_passes (whole.is_side_of_host s.channels p.host 1) listening.queue other all waits in
      end_host conn 1 host p.host known side ∙ sym (equal_numbers address.host p.host own)

  pub hosts_are : AreHosts k.makers k.descriptors k.descriptions k.listeners k.channels
  hosts_are = record { held = held; pending = pending }
