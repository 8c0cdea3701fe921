-- A change of descriptions that keeps each one's object and status flags keeps all that is said of these.
--     Like x y, AreLike before after      open_files_like, described_like, descriptions_like, made_like, streams_like, listeners_like, addresses_like, hosts_like, inboxes_like, counters_like
use Rattle.std.proofs.Common.{◌≡◌, ℕ, Bool, refl, sym, ap, subst, ◌∙◌}
use Rattle.std.specs.Prelude.{◌==◌, ◌&&◌, ◌||◌, Option, Some, None, is_some}
use Rattle.std.specs.List.{list_any}
use Rattle.std.specs.FinMap as map
use Rattle.id_maps.specs.OfSysAbi.declared.identity.ConnId.{ConnId}
use Rattle.id_maps.specs.OfSysAbi.declared.identity.DescId.{DescId}
use Rattle.id_maps.proofs.OfSysAbi.OrderLaws.{desc_total, desc_exact}
use Rattle.plain_tables.specs.declared.description.Description.{Description}
use Rattle.plain_tables.specs.declared.description.Object.{Object}
use Rattle.plain_tables.specs.Tables.{Names, Files, Processes, Makers, Descriptors, Descriptions, Channels, Listeners, Inboxes}
use Rattle.plain_tables.specs.Objects.{is_file, is_end, is_listener_at, is_pending, is_named, has_name, bound_at, host_of_object, is_datagram, knows}
use Rattle.plain_tables.specs.Valid.Files.{AreOpenFiles, IsOpenFile}
use Rattle.plain_tables.specs.Valid.Descriptions.{AreDescriptors, AreDescriptions, AreFlags, AreMade, HasMadePeer}
use Rattle.plain_tables.specs.Valid.Channels.{AreStreams, IsStream}
use Rattle.plain_tables.specs.Valid.Sockets.{AreListeners, AreAddresses, IsAddressed, AreHosts}
use Rattle.plain_tables.specs.Valid.Datagrams.{AreInboxes, AreCounters, IsCounter, is_datagram_in}
use Rattle.plain_tables.proofs.Entries.{same_any}

-- the same object and flags at a description's name
pub record Like (descriptions : Descriptions) (d : DescId) (x : Description) : Type 0 where
  pub y : Description
  pub there : map.get descriptions d ≡ Some y
  pub object : y.object ≡ x.object
  pub flags : y.flags ≡ x.flags

pub record AreLike (before after : Descriptions) : Type 0 where
  pub back : (d : DescId) (x : Description) → map.get after d ≡ Some x → Like before d x
  pub forth : (d : DescId) (x : Description) → map.get before d ≡ Some x → Like after d x

module _ (before after : Descriptions) (like : AreLike before after) where
  -- what a test of objects tells
  any_like : (test : Object → Bool) → list_any (λ (x : Description). test x.object) (map.values after) ≡ list_any (λ (x : Description). test x.object) (map.values before)
  any_like test = same_any desc_total desc_exact (λ (x : Description). test x.object) before after
      (λ d x found passes. let is = like.forth d x found in (is.y, is.there, ap test is.object ∙ passes))
      (λ d x found passes. let is = like.back d x found in (is.y, is.there, ap test is.object ∙ passes))

  there_by : (d : DescId) (found was : Option Description) → map.get after d ≡ found → map.get before d ≡ was → is_some found ≡ is_some was
  there_by d None None is was = refl
  there_by d None (Some x) is was = let one = like.forth d x was in let there = one.there in cc
  there_by d (Some x) None is was = let one = like.back d x is in let there = one.there in cc
  there_by d (Some x) (Some y) is was = refl

  there_like : (d : DescId) → is_some (map.get after d) ≡ is_some (map.get before d)
  there_like d = there_by d (map.get after d) (map.get before d) refl refl

  pub open_files_like : (names : Names) (files : Files) → AreOpenFiles names files before → AreOpenFiles names files after
  open_files_like names files is = record {
    there = λ d x found. let was = like.back d x found in subst (IsOpenFile files) was.object (is.there d was.y was.there);
    kept = λ number bytes found. ap (λ b. has_name names number || b) (any_like (is_file number)) ∙ is.kept number bytes found;
  }

  pub described_like : (processes : Processes) (descriptors : Descriptors) → AreDescriptors processes before descriptors → AreDescriptors processes after descriptors
  described_like processes descriptors is = record {
    number = is.number;
    alive = is.alive;
    described = λ at descriptor found. there_like descriptor.desc ∙ is.described at descriptor found;
  }

  pub descriptions_like : (descriptors : Descriptors) → AreDescriptions descriptors before → AreDescriptions descriptors after
  descriptions_like descriptors is = record {
    held = λ d x found. let was = like.back d x found in is.held d was.y was.there;
    flags = λ d x found. let was = like.back d x found in subst AreFlags was.flags (is.flags d was.y was.there);
  }

  pub made_like : (next_id : ℕ) (processes : Processes) (makers : Makers) (channels : Channels) → AreMade next_id processes makers before channels → AreMade next_id processes makers after channels
  made_like next_id processes makers channels is = record {
    opened = λ d x found. let was = like.back d x found in is.opened d was.y was.there;
    peers = λ d x found. let was = like.back d x found in subst (HasMadePeer next_id processes makers) was.object (is.peers d was.y was.there);
    joined = is.joined;
  }

  named_like : (listeners : Listeners) (conn : ConnId) (side : ℕ) → is_named after listeners conn side ≡ is_named before listeners conn side
  named_like listeners conn side = ap (λ b. b || ((side == 1) && is_pending listeners conn)) (any_like (is_end conn side))

  pub streams_like : (listeners : Listeners) (channels : Channels) → AreStreams before listeners channels → AreStreams after listeners channels
  streams_like listeners channels is = record {
    each = λ d x found.
        let was = like.back d x found in
        subst (λ flags. IsStream channels flags x.object) was.flags (subst (IsStream channels was.y.flags) was.object (is.each d was.y was.there));
    once = λ d e x y conn side found there ends too.
        let a = like.back d x found in
        let b = like.back e y there in
        is.once d e a.y b.y conn side a.there b.there (ap (is_end conn side) a.object ∙ ends) (ap (is_end conn side) b.object ∙ too);
    apart = λ conn has. is.apart conn (sym (any_like (is_end conn 1)) ∙ has);
    opened = λ conn channel side known low. is.opened conn channel side known low ∙ sym (named_like listeners conn side);
  }

  pub listeners_like : (listeners : Listeners) (channels : Channels) → AreListeners before listeners channels → AreListeners after listeners channels
  listeners_like listeners channels is = record {
    each = is.each;
    described = λ address. is.described address ∙ sym (any_like (is_listener_at address));
    apart = is.apart;
  }

  pub addresses_like : AreAddresses before → AreAddresses after
  addresses_like is = record {
    each = λ d x found. let was = like.back d x found in subst IsAddressed was.object (is.each d was.y was.there);
    apart = λ d e x y address found there at too.
        let a = like.back d x found in
        let b = like.back e y there in
        is.apart d e a.y b.y address a.there b.there (ap bound_at a.object ∙ at) (ap bound_at b.object ∙ too);
  }

  pub hosts_like : (makers : Makers) (descriptors : Descriptors) (listeners : Listeners) (channels : Channels) → AreHosts makers descriptors before listeners channels → AreHosts makers descriptors after listeners channels
  hosts_like makers descriptors listeners channels is = record {
    held = λ a x description host held found at.
        let was = like.back x.desc description found in
        is.held a x was.y host held was.there (ap (host_of_object channels) was.object ∙ at);
    pending = is.pending;
  }

  datagram_by : (d : DescId) (found was : Option Description) → map.get after d ≡ found → map.get before d ≡ was → is_datagram_in was ≡ is_datagram_in found
  datagram_by d None None is was = refl
  datagram_by d None (Some x) is was = let one = like.forth d x was in let there = one.there in cc
  datagram_by d (Some x) None is was = let one = like.back d x is in let there = one.there in cc
  datagram_by d (Some x) (Some y) is was =
      let one = like.back d x is in
      let same : one.y ≡ y = let there = one.there in cc in
      ap (λ (z : Description). is_datagram z.object) (sym same) ∙ ap is_datagram one.object

  pub inboxes_like : (inboxes : Inboxes) → AreInboxes before inboxes → AreInboxes after inboxes
  inboxes_like inboxes is = record {
    same = λ d. is.same d ∙ datagram_by d (map.get after d) (map.get before d) refl refl;
    other = λ d x found. let was = like.back d x found in ap (knows d) (sym was.object) ∙ is.other d was.y was.there;
    paired = λ d e x y found there knows_it.
        let a = like.back d x found in
        let b = like.back e y there in
        ap (knows d) (sym b.object) ∙ is.paired d e a.y b.y a.there b.there (ap (knows e) a.object ∙ knows_it);
    once = λ d e peer x y found there knows_it too.
        let a = like.back d x found in
        let b = like.back e y there in
        is.once d e peer a.y b.y a.there b.there (ap (knows peer) a.object ∙ knows_it) (ap (knows peer) b.object ∙ too);
    messages = is.messages;
  }

  pub counters_like : AreCounters before → AreCounters after
  counters_like is = record { each = λ d x found. let was = like.back d x found in subst IsCounter was.object (is.each d was.y was.there) }
