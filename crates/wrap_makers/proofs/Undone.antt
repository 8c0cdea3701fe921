-- An entry that is put into a table that lacks it, and goes again.
--     IsNewEntry c entry      the table has nothing under its name
--     undone                  then the table is as before
use Rattle.std.proofs.Common.{◌≡◌, ℕ, None, refl, ap, ◌∙◌}
use Rattle.std.specs.Prelude.{option_map}
use Rattle.std.specs.FinMap as map
use Rattle.views.proofs.MapLaws.{get_insert_same, insert_insert, remove_insert_new}
use Rattle.sys_abi.specs.declared.identity.ConnId.{ConnId}
use Rattle.sys_abi.proofs.OrderLaws.{conn_total, conn_exact, desc_total, desc_exact}
use Rattle.conn_table.specs.declared.conn.Conn.{Conn}
use Rattle.conn_table.specs.declared.table.ConnTable.{ConnTable}
use Rattle.conn_table.specs.Conns.{after_end, put_back, without_end}
use Rattle.host_tables.specs.Descriptions.{Names}
use Rattle.host_tables.specs.Network.{Conns}
use Rattle.host_tables.specs.Stands.{open_conn}
use Rattle.wrap_makers.specs.declared.entries.Entry.{Entry}
use Rattle.wrap_makers.specs.declared.entries.Entry.TheVariants.{Nothing, Name, Channel}
use Rattle.wrap_makers.specs.Entries.{with_entry, without_conn, without_entry}

abbrev pub IsNewEntry : ConnTable → Entry → Type 0
IsNewEntry c Nothing = Unit {0}
IsNewEntry c (Name id address) = map.get c.names id ≡ None
IsNewEntry c (Channel id kind) = map.get c.conns id ≡ None

module _ (m : Conns) (id : ConnId) (kind : ℕ) where
  abbrev opened : Conn
  opened = open_conn id kind None None

  abbrev half : Conn
  half = without_end 0 opened

  first_closed : after_end 0 (map.insert m id opened) id ≡ map.insert m id half
  first_closed =
      ap (λ o. put_back (map.insert m id opened) id (option_map (without_end 0) o))
      (get_insert_same conn_total conn_exact m id opened)
      ∙ insert_insert conn_total conn_exact m id opened half

  both_closed : map.get m id ≡ None → without_conn (map.insert m id opened) id ≡ m
  both_closed new =
      ap (λ w. after_end 1 w id) first_closed
      ∙ ap (λ o. put_back (map.insert m id half) id (option_map (without_end 1) o))
      (get_insert_same conn_total conn_exact m id half)
      ∙ remove_insert_new conn_total conn_exact m id half new

pub undone : (c : ConnTable) (entry : Entry) → IsNewEntry c entry
    → without_entry (with_entry c entry) entry ≡ c
undone c Nothing new = refl
undone c (Name id address) new =
    ap (λ (names : Names). record c { names = names })
    (remove_insert_new desc_total desc_exact c.names id address new)
undone c (Channel id kind) new =
    ap (λ (conns : Conns). record c { conns = conns }) (both_closed c.conns id kind new)
