-- A channel whose last open end is closed is gone.
use Rattle.std.proofs.Common.{◌≡◌, ℕ, Bool, true, false, refl, sym, ap, ◌∙◌}
use Rattle.std.specs.Prelude.{Option, Some, None, if◌then◌else◌}
use Rattle.std.specs.Option.{option_map, option_map_or}
use Rattle.std.specs.FinMap as map
use Rattle.id_maps.proofs.OfViews.MapLaws.{true_false, remove_insert}
use Rattle.id_maps.specs.OfSysAbi.declared.identity.ConnId.{ConnId}
use Rattle.id_maps.specs.OfSysAbi.Orders.{conn_cmp}
use Rattle.id_maps.proofs.OfSysAbi.OrderLaws.{conn_total, conn_exact}
use Rattle.conn_table.specs.declared.conn.Conn.{Conn}
use Rattle.conn_table.specs.Conns.{is_open, without_end, put_back, after_end, with_closed, stays_open}

second : {A : Type 0} (b : Bool) (x y : A) → b ≡ false → y ≡ (if b then x else y)
second true x y is = true_false is
second false x y is = refl

taken_out : (side : ℕ) (conns : map.FinMap conn_cmp Conn) (id : ConnId) (found : Option Conn) → stays_open side found ≡ false
    → map.remove (option_map_or (λ conn. map.insert conns id (without_end side conn)) found conns) id ≡ put_back conns id (option_map (without_end side) found)
taken_out side conns id None is = true_false is
taken_out side conns id (Some conn) is =
    remove_insert conn_total conn_exact conns id (without_end side conn)
    ∙ second (is_open (without_end side conn)) (map.insert conns id (without_end side conn)) (map.remove conns id) is

pub after_last_end : (side : ℕ) (conns closed gone : map.FinMap conn_cmp Conn) (id : ConnId) (opens : Bool) → opens ≡ stays_open side (map.get conns id) → opens ≡ false → closed ≡ with_closed side conns id → gone ≡ map.remove closed id → gone ≡ after_end side conns id
after_last_end side conns closed gone id opens told closed_now is removed =
    removed ∙ ap (λ m. map.remove m id) is ∙ taken_out side conns id (map.get conns id) (sym told ∙ closed_now)
