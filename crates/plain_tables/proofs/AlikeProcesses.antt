-- A change of processes that live as before and have the parents that they had keeps what is said of makers, parents, descriptors, holders and numbers given out.
--     AreAlike before after      makers_alike, parents_alike, descriptors_alike, holders_alike, made_alike
use Rattle.std.proofs.Common.{◌≡◌, ℕ, ◌≤◌, refl, sym, ap, subst, ◌∙◌, inl, inr, arith, ⊎_elim}
use Rattle.std.specs.Prelude.{Some, is_some}
use Rattle.std.specs.FinMap as map
use Rattle.id_maps.specs.OfSysAbi.declared.identity.VPid.{VPid}
use Rattle.id_maps.specs.OfSysAbi.declared.life.Life.{Life}
use Rattle.id_maps.specs.OfSysAbi.declared.life.Life.TheVariants.{Live, Zombie}
use Rattle.id_maps.specs.OfSysAbi.Lives.{lives}
use Rattle.id_maps.proofs.OfSysAbi.OrderLaws.{vpid_total, vpid_exact}
use Rattle.plain_tables.specs.declared.process.Process.{Process}
use Rattle.plain_tables.specs.declared.description.Object.{Object}
use Rattle.plain_tables.specs.declared.description.Object.TheVariants.{Datagram}
use Rattle.plain_tables.specs.Tables.{Processes, Makers, Descriptors, Descriptions, Channels, is_live_process, lives_in, changed_at}
use Rattle.plain_tables.specs.Valid.Processes.{AreMakers, AreParents, HasParent, IsParent}
use Rattle.plain_tables.specs.Valid.Descriptions.{AreDescriptors, AreHolders, AreMade, IsMade, IsOwner, HasMadePeer}
use Rattle.plain_tables.proofs.Changes.{each_changed, changed_test}

-- a process that was there, with the same parent and life
pub record Was (before : Processes) (p : VPid) (process : Process) : Type 0 where
  pub old : Process
  pub there : map.get before p ≡ Some old
  pub parent : process.parent ≡ old.parent
  pub life : process.life ≡ old.life

pub record AreAlike (before after : Processes) : Type 0 where
  pub same : (p : VPid) → is_some (map.get after p) ≡ is_some (map.get before p)
  pub lives : (p : VPid) → lives_in after p ≡ lives_in before p
  pub was : (p : VPid) (process : Process) → map.get after p ≡ Some process → Was before p process

-- a change of one process that keeps its parent and life
pub changed_alike : (processes : Processes) (p : VPid) (change : Process → Process) → ((process : Process) → (change process).parent ≡ process.parent)
    → ((process : Process) → (change process).life ≡ process.life) → AreAlike processes (changed_at processes p change)
changed_alike processes p change parent life = record {
  same = changed_test vpid_total vpid_exact processes p change is_some (λ process there. refl);
  lives = changed_test vpid_total vpid_exact processes p change is_live_process (λ process there. ap lives (life process));
  was = each_changed vpid_total vpid_exact processes p change (Was processes) (λ process there. record { old = process; there = there; parent = parent process; life = life process })
      (λ q process found. record { old = process; there = found; parent = refl; life = refl });
}

module _ (before after : Processes) (makers : Makers) (alike : AreAlike before after) where
  pub makers_alike : AreMakers before makers → AreMakers after makers
  makers_alike is = record { same = λ p. is.same p ∙ sym (alike.same p); hosts = is.hosts; counts = is.counts }

  parent_alike : (p : VPid) (parent : ℕ) → IsParent before makers p parent → IsParent after makers p parent
  parent_alike p parent is = record { below = is.below; alive = alike.lives (record { 0 = parent }) ∙ is.alive; host = is.host }

  has_parent_alike : (p : VPid) (parent : ℕ) (life : Life) → HasParent before makers p parent life → HasParent after makers p parent life
  has_parent_alike p parent Live is = ⊎_elim (λ nobody. inl nobody) (λ one. inr (parent_alike p parent one)) is
  has_parent_alike p parent (Zombie status) is = (parent_alike p parent is.0, is.1)

  pub parents_alike : AreParents before makers → AreParents after makers
  parents_alike is = record {
    each = λ p process found.
        let was = alike.was p process found in
        subst (λ life. HasParent after makers p process.parent life) (sym was.life) (subst (λ parent. HasParent after makers p parent was.old.life) (sym was.parent)
        (has_parent_alike p was.old.parent was.old.life (is.each p was.old was.there)));
  }

  pub descriptors_alike : (descriptions : Descriptions) (descriptors : Descriptors) → AreDescriptors before descriptions descriptors → AreDescriptors after descriptions descriptors
  descriptors_alike descriptions descriptors is = record {
    number = is.number;
    alive = λ at descriptor found. alike.lives at.pid ∙ is.alive at descriptor found;
    described = is.described;
  }

  owner_alike : (holder : VPid) (owner : ℕ) → IsOwner before makers holder owner → IsOwner after makers holder owner
  owner_alike holder owner is = ⊎_elim (λ nobody. inl nobody) (λ one. inr (alike.lives (record { 0 = owner }) ∙ one.0, one.1)) is

  pub holders_alike : (descriptors : Descriptors) (descriptions : Descriptions) → AreHolders before makers descriptors descriptions → AreHolders after makers descriptors descriptions
  holders_alike descriptors descriptions is = record {
    host = is.host;
    owner = λ a x description held found. owner_alike a.pid description.owner (is.owner a x description held found);
  }

  -- numbers that were given out stay so, also where more are
  module _ (old next : ℕ) (rises : old ≤ next) where
    is_made_alike : (maker : VPid) (num : ℕ) → IsMade old before makers maker num → IsMade next after makers maker num
    is_made_alike maker num is = record {
      known = let known = is.known in omega arith;
      word = is.word;
      below = λ m found lives. is.below m found (sym (alike.lives maker) ∙ lives);
    }

    peer_alike : (object : Object) → HasMadePeer old before makers object → HasMadePeer next after makers object
    peer_alike (Datagram peer) is = is_made_alike peer.pid peer.num is
    peer_alike _ is = tt

    pub made_alike : (descriptions : Descriptions) (channels : Channels) → AreMade old before makers descriptions channels → AreMade next after makers descriptions channels
    made_alike descriptions channels is = record {
      opened = λ d description found. is_made_alike d.pid d.num (is.opened d description found);
      peers = λ d description found. peer_alike description.object (is.peers d description found);
      joined = λ conn channel found. is_made_alike conn.pid conn.num (is.joined conn channel found);
    }
