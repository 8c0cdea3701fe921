-- Publications and look-ups, one after another, and what a directory tells of them.
--     Use                       a publication, or a look-up
--     after_uses uses           the directory after these, from the empty one
--     publishes id, finds id    a publication of the channel;  a look-up of it
--     LastCounts                the address that was published last is found
--     AskedSince                whether there was a look-up since
--     NothingElse               of a channel that was not published nothing is there
use Rattle.std.specs.Prelude.{◌≡◌, Bool, false, List, ◌∷◌, ◌++◌, fold, Some, None}
use Rattle.std.specs.List.{list_any}
use Rattle.std.specs.Ordering.{eq_by_cmp}
use Rattle.std.specs.FinMap as map
use Rattle.sys_abi.specs.declared.identity.ConnId.{ConnId}
use Rattle.sys_abi.specs.declared.identity.RealAddr.{RealAddr}
use Rattle.sys_abi.specs.Orders.{conn_cmp}
use Rattle.discovery.specs.Directories.{Publications, place_of, is_asked, with_place, with_look_up}

pub data Use : Type 0 where
  Publishes : ConnId → RealAddr → Use
  Finds : ConnId → Use

abbrev pub after_use : Publications → Use → Publications
after_use m (Publishes id at) = with_place m id at
after_use m (Finds id) = with_look_up m id

abbrev pub after_uses : List Use → Publications
after_uses uses = fold after_use map.empty uses

abbrev pub publishes : ConnId → Use → Bool
publishes id (Publishes other at) = eq_by_cmp conn_cmp id other
publishes id (Finds other) = false

abbrev pub finds : ConnId → Use → Bool
finds id (Publishes other at) = false
finds id (Finds other) = eq_by_cmp conn_cmp id other

abbrev pub LastCounts : Type 0
LastCounts = (earlier later : List Use) (id : ConnId) (at : RealAddr) → list_any (publishes id) later ≡ false
    → place_of (after_uses (earlier ++ Publishes id at ∷ later)) id ≡ Some at

abbrev pub AskedSince : Type 0
AskedSince = (earlier later : List Use) (id : ConnId) (at : RealAddr) → list_any (publishes id) later ≡ false
    → is_asked (after_uses (earlier ++ Publishes id at ∷ later)) id ≡ list_any (finds id) later

abbrev pub NothingElse : Type 0
NothingElse = (uses : List Use) (id : ConnId) → list_any (publishes id) uses ≡ false → map.get (after_uses uses) id ≡ None
