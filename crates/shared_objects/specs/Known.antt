-- What the maps that a reader keeps tell of the descriptions that it has read, and of the connections that
-- wait at one listener.
--     KnowsSides, KnowsPorts, KnowsOpened      what descriptions name: sides of channels, addresses, files
--     KnowsQueue      the connections
use Rattle.std.specs.Prelude.{List}
use Rattle.std.specs.List.{list_any}
use Rattle.std.specs.Ordering.{nat_cmp}
use Rattle.std.specs.FinMap as map
use Rattle.sys_abi.specs.declared.identity.ConnId.{ConnId}
use Rattle.sys_abi.specs.Orders.{conn_cmp, dir_cmp, address_cmp}
use Rattle.shared_items.specs.declared.shared.DescriptionImage.{DescriptionImage}
use Rattle.shared_items.specs.Sides.{same_channel, is_side_named}
use Rattle.shared_items.specs.SharedTests.{is_listed_port}
use Rattle.shared_items.specs.WholeShared.{is_opened}
use Rattle.shared_items.specs.Keys.{HasKeys}

abbrev pub KnowsSides : {X : Type 0} → map.FinMap dir_cmp X → List DescriptionImage → Type 0
KnowsSides sides descriptions = HasKeys sides (λ at. is_side_named descriptions at.conn at.side)

abbrev pub KnowsPorts : {X : Type 0} → map.FinMap address_cmp X → List DescriptionImage → Type 0
KnowsPorts ports descriptions =
    HasKeys ports (λ address. is_listed_port descriptions address.host address.port)

abbrev pub KnowsOpened : {X : Type 0} → map.FinMap nat_cmp X → List DescriptionImage → Type 0
KnowsOpened numbers descriptions = HasKeys numbers (is_opened descriptions)

abbrev pub KnowsQueue : {X : Type 0} → map.FinMap conn_cmp X → List ConnId → Type 0
KnowsQueue queued pending = HasKeys queued (λ name. list_any (same_channel name) pending)
