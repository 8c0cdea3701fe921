-- What contracts see of a directory: for each channel the address that was published last, and whether it was
-- looked up since.
-- Source: the discovery service of DMTCP, where ends of sockets are advertised under the socket's name when a
-- computation is restarted.
--     Publications             from channels to what was published
--     place_of, is_asked       the address of a channel;  whether it was looked up since it was published
--     with_place               a channel published anew, in place of what was there
--     with_look_up             a channel looked up, which leaves no trace where it was not published
use Rattle.std.specs.Prelude.{Bool, true, false, Option}
use Rattle.std.specs.Option.{option_map, option_map_or}
use Rattle.std.specs.FinMap as map
use Rattle.std.specs.FinMap.{FinMap}
use Rattle.std.specs.Coded.{Coded}
use Rattle.sys_abi.specs.declared.identity.ConnId.{ConnId}
use Rattle.sys_abi.specs.declared.identity.RealAddr.{RealAddr}
use Rattle.sys_abi.specs.Orders.{conn_cmp, coded_conn}
use Rattle.discovery.specs.declared.publication.Publication.{Publication}
use Rattle.discovery.specs.contracts.publication.Publication as publication

abbrev pub Publications : Type 0
Publications = FinMap conn_cmp Publication

abbrev pub coded_publications : Coded Publications
coded_publications = map.code coded_conn publication.the_row.coded

abbrev pub place_of : Publications → ConnId → Option RealAddr
place_of m id = option_map (λ p. p.at) (map.get m id)

abbrev pub is_asked : Publications → ConnId → Bool
is_asked m id = option_map_or (λ p. p.asked) (map.get m id) false

abbrev pub with_place : Publications → ConnId → RealAddr → Publications
with_place m id at = map.insert m id (record { at = at; asked = false })

abbrev pub with_look_up : Publications → ConnId → Publications
with_look_up m id = option_map_or (λ p. map.insert m id (record { at = p.at; asked = true })) (map.get m id) m
