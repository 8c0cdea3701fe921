-- A socket becomes another object, with its flags and owner as they were: a bound one, a listener, or an end of a connection.
--     changed_..      what is said of the descriptions with the new object in its place
use Rattle.std.proofs.Common.{◌≡◌, ◌≢◌, ℕ, Bool, true, false, refl, sym, ap, subst, ◌∙◌}
use Rattle.std.specs.Prelude.{◌==◌, ◌&&◌, ◌||◌, Some, None}
use Rattle.std.specs.FinMap as map
use Rattle.plain_process.proofs.OfViews.MapLaws.{get_remove_same, insert_remove, true_false}
use Rattle.id_maps.specs.OfSysAbi.declared.identity.DescId.{DescId}
use Rattle.id_maps.specs.OfSysAbi.declared.identity.ConnId.{ConnId}
use Rattle.id_maps.specs.OfSysAbi.declared.identity.VirtAddr.{VirtAddr}
use Rattle.id_maps.proofs.OfSysAbi.OrderLaws.{desc_total, desc_exact}
use Rattle.plain_tables.specs.declared.description.Description.{Description}
use Rattle.plain_tables.specs.declared.description.Object.TheVariants.{Socket}
use Rattle.plain_tables.specs.Tables.{Names, Files, Processes, Makers, Descriptors, Descriptions, Channels, Listeners, Inboxes, is_held}
use Rattle.plain_tables.specs.Objects.{is_file, is_end, is_listener_at, is_datagram, has_stream, is_pending, knows, bound_at, host_of_object}
use Rattle.plain_tables.specs.Valid.Files.{AreOpenFiles, IsOpenFile}
use Rattle.plain_tables.specs.Valid.Descriptions.{AreDescriptors, AreDescriptions, AreFlags, AreHolders, AreMade, HasMadePeer, IsOwner}
use Rattle.plain_tables.specs.Valid.Channels.{AreStreams, IsStream}
use Rattle.plain_tables.specs.Valid.Sockets.{AreListeners, AreAddresses, IsAddressed, AreHosts, has_host}
use Rattle.plain_tables.specs.Valid.Datagrams.{AreInboxes, AreCounters, IsCounter}
use Rattle.plain_tables.proofs.Entries.{each_with, there_with, still_there}
use Rattle.plain_tables.proofs.AddedDescriptions.{new_open_files, new_made, new_counters, new_listeners, new_inboxes, any_with}
use Rattle.plain_tables.proofs.FewerDescriptions.{without_keeps_open_files, without_keeps_made, without_keeps_counters, without_keeps_inboxes, any_without}
use Rattle.plain_tables.proofs.ClosedStreams.{listeners_without}

module _ (descriptions : Descriptions) (d : DescId) (x y : Description) (known : map.get descriptions d ≡ Some x) (old : VirtAddr) (was : x.object ≡ Socket old) where
  pub none : map.get (map.remove descriptions d) d ≡ None
  none = get_remove_same desc_total desc_exact descriptions d

  pub put_back : map.insert (map.remove descriptions d) d y ≡ map.insert descriptions d y
  put_back = insert_remove desc_total desc_exact descriptions d y

  pub unknown : (inboxes : Inboxes) → AreInboxes descriptions inboxes → (e : DescId) (z : Description) → map.get (map.remove descriptions d) e ≡ Some z → knows d z.object ≡ false
  unknown inboxes is e z found = chosen (knows d z.object) refl
    where
      chosen : (b : Bool) → knows d z.object ≡ b → b ≡ false
      chosen true it = true_false (sym (is.paired e d z x (still_there desc_total desc_exact descriptions d e z found) known it) ∙ ap (knows e) was)
      chosen false other = refl

  pub changed_open_files : (names : Names) (files : Files) → IsOpenFile files y.object → AreOpenFiles names files descriptions → AreOpenFiles names files (map.insert descriptions d y)
  changed_open_files names files opened is = subst (AreOpenFiles names files) put_back
      (new_open_files (map.remove descriptions d) d y none names files opened (without_keeps_open_files descriptions d x known names files (λ number. ap (is_file number) was) is))

  pub changed_made : (next_id : ℕ) (processes : Processes) (makers : Makers) (channels : Channels) → HasMadePeer next_id processes makers y.object
      → AreMade next_id processes makers descriptions channels → AreMade next_id processes makers (map.insert descriptions d y) channels
  changed_made next_id processes makers channels peer is = subst (λ (m : Descriptions). AreMade next_id processes makers m channels) put_back
      (new_made (map.remove descriptions d) d y none next_id processes makers channels (is.opened d x known) peer (without_keeps_made descriptions d x known next_id processes makers channels channels (λ c there. there) is))

  pub changed_counters : IsCounter y.object → AreCounters descriptions → AreCounters (map.insert descriptions d y)
  changed_counters counts is = subst AreCounters put_back (new_counters (map.remove descriptions d) d y none counts (without_keeps_counters descriptions d x known is))

  pub changed_inboxes : (inboxes : Inboxes) → is_datagram y.object ≡ false → ((e : DescId) → knows e y.object ≡ false) → AreInboxes descriptions inboxes → AreInboxes (map.insert descriptions d y) inboxes
  changed_inboxes inboxes other knows_none is = subst (λ (m : Descriptions). AreInboxes m inboxes) put_back
      (new_inboxes (map.remove descriptions d) d y none inboxes other knows_none (unknown inboxes is) (without_keeps_inboxes descriptions d x known inboxes (ap is_datagram was) is))

  pub changed_descriptors : (processes : Processes) (descriptors : Descriptors) → AreDescriptors processes descriptions descriptors → AreDescriptors processes (map.insert descriptions d y) descriptors
  changed_descriptors processes descriptors is = record {
    number = is.number;
    alive = is.alive;
    described = λ at z found. there_with desc_total desc_exact descriptions d y z.desc (is.described at z found);
  }

  pub changed_descriptions : (descriptors : Descriptors) → y.flags ≡ x.flags → AreDescriptions descriptors descriptions → AreDescriptions descriptors (map.insert descriptions d y)
  changed_descriptions descriptors flags is = record {
    held = each_with desc_total desc_exact (λ e z. is_held descriptors e ≡ true) descriptions d y (is.held d x known) (λ e z other found. is.held e z found);
    flags = each_with desc_total desc_exact (λ e z. AreFlags z.flags) descriptions d y (subst AreFlags (sym flags) (is.flags d x known)) (λ e z other found. is.flags e z found);
  }

  pub changed_holders : (processes : Processes) (makers : Makers) (descriptors : Descriptors) → y.owner ≡ x.owner → AreHolders processes makers descriptors descriptions
      → AreHolders processes makers descriptors (map.insert descriptions d y)
  changed_holders processes makers descriptors owner is = record {
    host = is.host;
    owner = λ a z description found there.
        each_with desc_total desc_exact (λ e w. z.desc ≡ e → IsOwner processes makers a.pid w.owner) descriptions d y
        (λ here. subst (IsOwner processes makers a.pid) (sym owner) (is.owner a z x found (ap (map.get descriptions) here ∙ known)))
        (λ e w other stood here. is.owner a z w found (ap (map.get descriptions) here ∙ stood))
        z.desc description there refl;
  }

  pub changed_hosts : (makers : Makers) (descriptors : Descriptors) (listeners : Listeners) (channels : Channels) → ((host : ℕ) → host_of_object channels y.object ≡ Some host → old.host ≡ host)
      → AreHosts makers descriptors descriptions listeners channels → AreHosts makers descriptors (map.insert descriptions d y) listeners channels
  changed_hosts makers descriptors listeners channels same is = record {
    held = λ a z description host found there on.
        each_with desc_total desc_exact (λ e w. z.desc ≡ e → host_of_object channels w.object ≡ Some host → has_host (map.get makers a.pid) host ≡ true) descriptions d y
        (λ here at. is.held a z x host found (ap (map.get descriptions) here ∙ known) (ap (host_of_object channels) was ∙ ap Some (same host at)))
        (λ e w other stood here at. is.held a z w host found (ap (map.get descriptions) here ∙ stood) at)
        z.desc description there refl on;
    pending = is.pending;
  }

  -- nobody else has its address
  pub changed_addresses : IsAddressed y.object
      → ((e : DescId) (z : Description) (address : VirtAddr) → e ≢ d → map.get descriptions e ≡ Some z → bound_at y.object ≡ Some address → bound_at z.object ≡ Some address → ⊥)
      → AreAddresses descriptions → AreAddresses (map.insert descriptions d y)
  changed_addresses addressed unused is = record {
    each = each_with desc_total desc_exact (λ e z. IsAddressed z.object) descriptions d y addressed (λ e z other found. is.each e z found);
    apart = λ e f z w address found too bound also.
        each_with desc_total desc_exact (λ q v. bound_at v.object ≡ Some address → q ≡ f) descriptions d y
        (λ one. each_with desc_total desc_exact (λ q v. bound_at v.object ≡ Some address → d ≡ q) descriptions d y
        (λ two. refl) (λ q v other stood two. absurd (unused q v address other stood one two)) f w too also)
        (λ q v other stood one. each_with desc_total desc_exact (λ r u. bound_at u.object ≡ Some address → q ≡ r) descriptions d y
        (λ two. absurd (unused q v address other stood two one)) (λ r u apart stands two. is.apart q r v u address stood stands one two) f w too also)
        e z found bound;
  }

  -- an object that is no end of a channel
  module _ (no_end : (conn : ConnId) (side : ℕ) → is_end conn side y.object ≡ false) where
    same_streams : (c : ConnId) (s : ℕ) → has_stream (map.insert descriptions d y) c s ≡ has_stream descriptions c s
    same_streams c s = ap (λ (m : Descriptions). has_stream m c s) (sym put_back) ∙ any_with (map.remove descriptions d) d y none (is_end c s) (no_end c s)
        ∙ any_without descriptions d x known (is_end c s) (ap (is_end c s) was)

    pub changed_streams : (listeners : Listeners) (channels : Channels) → IsStream channels y.flags y.object → AreStreams descriptions listeners channels → AreStreams (map.insert descriptions d y) listeners channels
    changed_streams listeners channels stream is = record {
      each = each_with desc_total desc_exact (λ e z. IsStream channels z.flags z.object) descriptions d y stream (λ e z other found. is.each e z found);
      once = λ e f z w c s found too ends also.
          each_with desc_total desc_exact (λ q v. is_end c s v.object ≡ true → q ≡ f) descriptions d y
          (λ one. true_false (sym one ∙ no_end c s))
          (λ q v other stood one. each_with desc_total desc_exact (λ r u. is_end c s u.object ≡ true → q ≡ r) descriptions d y
          (λ two. true_false (sym two ∙ no_end c s)) (λ r u apart stands two. is.once q r v u c s stood stands one two) f w too also)
          e z found ends;
      apart = λ c has. is.apart c (sym (same_streams c 1) ∙ has);
      opened = λ c ch s found low. is.opened c ch s found low ∙ ap (λ b. b || ((s == 1) && is_pending listeners c)) (sym (same_streams c s));
    }

    pub changed_listeners : (listeners : Listeners) (channels : Channels) → ((address : VirtAddr) → is_listener_at address y.object ≡ false)
        → AreListeners descriptions listeners channels → AreListeners (map.insert descriptions d y) listeners channels
    changed_listeners listeners channels no_listener is = subst (λ (m : Descriptions). AreListeners m listeners channels) put_back
        (new_listeners (map.remove descriptions d) d y none no_end no_listener listeners channels (listeners_without descriptions listeners channels d x known (λ address. ap (is_listener_at address) was) is))
