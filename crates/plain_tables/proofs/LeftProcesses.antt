-- A change of processes after which some no longer live keeps what is said of descriptors, holders, numbers given out and hosts, where those hold and own nothing.
--     Leaves      descriptors_left, holders_left, made_left, hosts_left
use Rattle.std.proofs.Common.{◌≡◌, ℕ, ◌<◌, ◌≤◌, true, ap, ◌∙◌, inl, inr, arith, ⊎_elim}
use Rattle.std.specs.Prelude.{Some}
use Rattle.std.specs.FinMap as map
use Rattle.id_maps.specs.OfSysAbi.declared.identity.VPid.{VPid}
use Rattle.id_maps.specs.OfSysAbi.declared.identity.Slot.{Slot}
use Rattle.id_maps.specs.OfSysAbi.declared.maker.Maker.{Maker}
use Rattle.plain_tables.specs.declared.description.Object.{Object}
use Rattle.plain_tables.specs.declared.description.Object.TheVariants.{Datagram}
use Rattle.id_maps.specs.OfSysAbi.declared.descriptor.Descriptor.{Descriptor}
use Rattle.plain_tables.specs.Tables.{Processes, Makers, Descriptors, Descriptions, Channels, Listeners, pid, lives_in, same_host}
use Rattle.plain_tables.specs.Valid.Descriptions.{AreDescriptors, AreHolders, AreMade, IsMade, IsOwner, HasMadePeer}
use Rattle.plain_tables.specs.Valid.Sockets.{AreHosts, has_host}
use Rattle.plain_process.specs.Valid.{Each}

-- those that still live have the makers that they had; none lives that did not, but for a new one
pub record Leaves (next_id : ℕ) (before after : Processes) (makers left : Makers) (still : VPid → Type 0) : Type 0 where
  pub lives : (q : VPid) → still q → lives_in before q ≡ true → lives_in after q ≡ true
  pub lived : (q : VPid) → q.0 < next_id → lives_in after q ≡ true → lives_in before q ≡ true
  pub same : (q : VPid) → still q → lives_in before q ≡ true → map.get left q ≡ map.get makers q
  pub part : (q : VPid) (m : Maker) → q.0 < next_id → map.get left q ≡ Some m → map.get makers q ≡ Some m

module _ (next_id : ℕ) (before after : Processes) (makers left : Makers) (still : VPid → Type 0) (leaves : Leaves next_id before after makers left still)
    (descriptors : Descriptors) (descriptions : Descriptions) (held : AreDescriptors before descriptions descriptors) (holders : Each descriptors (λ at descriptor. still at.pid)) where
  pub descriptors_left : AreDescriptors after descriptions descriptors
  descriptors_left = record {
    number = held.number;
    alive = λ at descriptor found. leaves.lives at.pid (holders at descriptor found) (held.alive at descriptor found);
    described = held.described;
  }

  maker_left : (at : Slot) (descriptor : Descriptor) → map.get descriptors at ≡ Some descriptor → map.get left at.pid ≡ map.get makers at.pid
  maker_left at descriptor found = leaves.same at.pid (holders at descriptor found) (held.alive at descriptor found)

  owner_left : (holder : VPid) (owner : ℕ) → map.get left holder ≡ map.get makers holder → still (pid owner) → IsOwner before makers holder owner → IsOwner after left holder owner
  owner_left holder owner kept stays is = ⊎_elim
      (λ nobody. inl nobody)
      (λ one. inr (
        leaves.lives (pid owner) stays one.0,
        ap (λ m. same_host m (map.get left (pid owner))) kept ∙ ap (same_host (map.get makers holder)) (leaves.same (pid owner) stays one.0) ∙ one.1,
      ))
      is

  pub holders_left : Each descriptions (λ d description. still (pid description.owner)) → AreHolders before makers descriptors descriptions → AreHolders after left descriptors descriptions
  holders_left owners is = record {
    host = λ a b x y found there same.
        ap (λ m. same_host m (map.get left b.pid)) (maker_left a x found) ∙ ap (same_host (map.get makers a.pid)) (maker_left b y there) ∙ is.host a b x y found there same;
    owner = λ a x description found there.
        owner_left a.pid description.owner (maker_left a x found) (owners x.desc description there) (is.owner a x description found there);
  }

  pub hosts_left : (listeners : Listeners) (channels : Channels) → AreHosts makers descriptors descriptions listeners channels → AreHosts left descriptors descriptions listeners channels
  hosts_left listeners channels is = record {
    held = λ a x description host found there at. ap (λ m. has_host m host) (maker_left a x found) ∙ is.held a x description host found there at;
    pending = is.pending;
  }

  -- also where more numbers were given out
  module _ (next : ℕ) (rises : next_id ≤ next) where
    is_made_left : (maker : VPid) (num : ℕ) → IsMade next_id before makers maker num → IsMade next after left maker num
    is_made_left maker num is = record {
      known = let known = is.known in omega arith;
      word = is.word;
      below = λ m found alive. is.below m (leaves.part maker m is.known found) (leaves.lived maker is.known alive);
    }

    peer_left : (object : Object) → HasMadePeer next_id before makers object → HasMadePeer next after left object
    peer_left (Datagram peer) is = is_made_left peer.pid peer.num is
    peer_left _ is = tt

    pub made_left : (channels : Channels) → AreMade next_id before makers descriptions channels → AreMade next after left descriptions channels
    made_left channels is = record {
      opened = λ d description found. is_made_left d.pid d.num (is.opened d description found);
      peers = λ d description found. peer_left description.object (is.peers d description found);
      joined = λ conn channel found. is_made_left conn.pid conn.num (is.joined conn channel found);
    }
