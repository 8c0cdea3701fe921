-- A process has made more: its running number rises, and all else that is said of makers stays.
--     counted_makers, counted_parents, counted_holders, counted_made, counted_hosts
use Rattle.std.proofs.Common.{◌≡◌, ℕ, ◌+◌, ◌^◌, ◌<◌, ◌≤◌, refl, ◌∙◌, inl, inr, arith, ⊎_elim}
use Rattle.std.specs.Prelude.{Some, is_some}
use Rattle.std.specs.FinMap as map
use Rattle.id_maps.specs.OfSysAbi.declared.identity.VPid.{VPid}
use Rattle.id_maps.specs.OfSysAbi.declared.life.Life.{Life}
use Rattle.id_maps.specs.OfSysAbi.declared.life.Life.TheVariants.{Live, Zombie}
use Rattle.id_maps.proofs.OfSysAbi.OrderLaws.{vpid_total, vpid_exact}
use Rattle.id_maps.specs.OfSysAbi.declared.maker.Maker.{Maker}
use Rattle.plain_tables.specs.declared.description.Object.{Object}
use Rattle.plain_tables.specs.declared.description.Object.TheVariants.{Datagram}
use Rattle.plain_tables.specs.Tables.{Processes, Makers, Descriptors, Descriptions, Channels, Listeners, pid, changed_at, made_more}
use Rattle.plain_tables.specs.Valid.Processes.{AreMakers, AreParents, IsParent, HasParent}
use Rattle.plain_tables.specs.Valid.Descriptions.{AreHolders, AreMade, IsMade, HasMadePeer}
use Rattle.plain_tables.specs.Valid.Sockets.{AreHosts}
use Rattle.plain_tables.proofs.Changes.{each_changed, changed_test}
use Rattle.plain_tables.proofs.SharedDescriptors.{host_at, same_host_by, has_host_by}

-- a maker that was there, and had made no more
record Had (makers : Makers) (q : VPid) (maker : Maker) : Type 0 where
  old : Maker
  there : map.get makers q ≡ Some old
  fewer : old.made ≤ maker.made

module _ (makers : Makers) (p : VPid) (n : ℕ) where
  host_same : (q : VPid) → host_at (map.get (changed_at makers p (made_more n)) q) ≡ host_at (map.get makers q)
  host_same q = changed_test vpid_total vpid_exact makers p (made_more n) host_at (λ maker there. refl) q

  had : (q : VPid) (maker : Maker) → map.get (changed_at makers p (made_more n)) q ≡ Some maker → Had makers q maker
  had = each_changed vpid_total vpid_exact makers p (made_more n) (Had makers) (λ maker there. record { old = maker; there = there; fewer = omega arith })
      (λ q maker found. record { old = maker; there = found; fewer = omega arith })

  pub counted_makers : (processes : Processes) → ((maker : Maker) → map.get makers p ≡ Some maker → maker.made + n < 2 ^ 32) → AreMakers processes makers → AreMakers processes (changed_at makers p (made_more n))
  counted_makers processes fits is = record {
    same = λ q. changed_test vpid_total vpid_exact makers p (made_more n) is_some (λ maker there. refl) q ∙ is.same q;
    hosts = each_changed vpid_total vpid_exact makers p (made_more n) (λ q maker. maker.host < 16) (λ maker there. is.hosts p maker there) is.hosts;
    counts = each_changed vpid_total vpid_exact makers p (made_more n) (λ q maker. maker.made < 2 ^ 32) (λ maker there. fits maker there) is.counts;
  }

  parent_counted : (processes : Processes) (q : VPid) (parent : ℕ) → IsParent processes makers q parent → IsParent processes (changed_at makers p (made_more n)) q parent
  parent_counted processes q parent is = record {
    below = is.below;
    alive = is.alive;
    host = same_host_by (map.get (changed_at makers p (made_more n)) q) (map.get (changed_at makers p (made_more n)) (pid parent)) (map.get makers q) (map.get makers (pid parent)) (host_same q) (host_same (pid parent)) is.host;
  }

  has_counted : (processes : Processes) (q : VPid) (parent : ℕ) (life : Life) → HasParent processes makers q parent life → HasParent processes (changed_at makers p (made_more n)) q parent life
  has_counted processes q parent Live is = ⊎_elim (λ nobody. inl nobody) (λ one. inr (parent_counted processes q parent one)) is
  has_counted processes q parent (Zombie status) is = (parent_counted processes q parent is.0, is.1)

  pub counted_parents : (processes : Processes) → AreParents processes makers → AreParents processes (changed_at makers p (made_more n))
  counted_parents processes is = record { each = λ q process found. has_counted processes q process.parent process.life (is.each q process found) }

  pub counted_holders : (processes : Processes) (descriptors : Descriptors) (descriptions : Descriptions) → AreHolders processes makers descriptors descriptions → AreHolders processes (changed_at makers p (made_more n)) descriptors descriptions
  counted_holders processes descriptors descriptions is = record {
    host = λ a b x y found too same. same_host_by (map.get (changed_at makers p (made_more n)) a.pid) (map.get (changed_at makers p (made_more n)) b.pid) (map.get makers a.pid) (map.get makers b.pid)
        (host_same a.pid) (host_same b.pid) (is.host a b x y found too same);
    owner = λ a x description found known. ⊎_elim (λ nobody. inl nobody)
        (λ one. inr (
          one.0,
          same_host_by (map.get (changed_at makers p (made_more n)) a.pid) (map.get (changed_at makers p (made_more n)) (pid description.owner)) (map.get makers a.pid) (map.get makers (pid description.owner))
              (host_same a.pid) (host_same (pid description.owner)) one.1,
        ))
        (is.owner a x description found known);
  }

  is_made_counted : (next_id : ℕ) (processes : Processes) (maker : VPid) (num : ℕ) → IsMade next_id processes makers maker num → IsMade next_id processes (changed_at makers p (made_more n)) maker num
  is_made_counted next_id processes maker num is = record {
    known = is.known;
    word = is.word;
    below = λ m found lives. let was = had maker m found in let low = is.below was.old was.there lives in let fewer = was.fewer in omega arith;
  }

  peer_counted : (next_id : ℕ) (processes : Processes) (object : Object) → HasMadePeer next_id processes makers object → HasMadePeer next_id processes (changed_at makers p (made_more n)) object
  peer_counted next_id processes (Datagram peer) is = is_made_counted next_id processes peer.pid peer.num is
  peer_counted next_id processes _ is = tt

  pub counted_made : (next_id : ℕ) (processes : Processes) (descriptions : Descriptions) (channels : Channels) → AreMade next_id processes makers descriptions channels → AreMade next_id processes (changed_at makers p (made_more n)) descriptions channels
  counted_made next_id processes descriptions channels is = record {
    opened = λ d description found. is_made_counted next_id processes d.pid d.num (is.opened d description found);
    peers = λ d description found. peer_counted next_id processes description.object (is.peers d description found);
    joined = λ conn channel found. is_made_counted next_id processes conn.pid conn.num (is.joined conn channel found);
  }

  pub counted_hosts : (descriptors : Descriptors) (descriptions : Descriptions) (listeners : Listeners) (channels : Channels) → AreHosts makers descriptors descriptions listeners channels → AreHosts (changed_at makers p (made_more n)) descriptors descriptions listeners channels
  counted_hosts descriptors descriptions listeners channels is = record {
    held = λ a x description host found known on. has_host_by (map.get (changed_at makers p (made_more n)) a.pid) (map.get makers a.pid) host (host_same a.pid) (is.held a x description host found known on);
    pending = is.pending;
  }
