-- What was added to a table of pairs or of channels is taken out again.
--     unlisted_again      a channel
--     unpaired_again      the pair of an address
use Rattle.std.proofs.Common.{◌≡◌, ◌↔◌, true, false, cond, [], ◌∷◌, Option, Some, None, inl, inr, refl, ap, ◌∙◌}
use Rattle.std.specs.Prelude.{IsSome, slice_set, option_map, Result, Ok, Err}
use Rattle.std.specs.List.{list_any}
use Rattle.std.specs.FinMap as map
use Rattle.views.proofs.MapLaws.{get_insert_same, remove_insert, remove_insert_new}
use Rattle.sys_abi.specs.declared.identity.ConnId.{ConnId}
use Rattle.sys_abi.specs.declared.identity.RealAddr.{RealAddr}
use Rattle.sys_abi.specs.declared.identity.VirtAddr.{VirtAddr}
use Rattle.sys_abi.specs.Orders.{conn_cmp}
use Rattle.sys_abi.proofs.OrderLaws.{conn_total, conn_exact, address_total, address_exact, real_address_total, real_address_exact}
use Rattle.conn_table.specs.declared.conn.Conn.{Conn}
use Rattle.conn_table.specs.declared.table.ConnTable.{ConnTable}
use Rattle.conn_table.specs.Conns.{without_end, put_back, after_end}
use Rattle.virt_ids.specs.declared.id_fault.IdFault.{IdFault}
use Rattle.virt_ids.specs.declared.id_fault.IdFault.TheVariants.{Taken}
use Rattle.virt_ids.specs.Pairs.{Pairs, IsTaken, without_back}
use Rattle.wrap_sockets.specs.declared.targets.Listed.{Listed}
use Rattle.wrap_sockets.specs.Listing.{with_listed, IsUnlisted}

-- a channel with both its ends open, whose ends are closed one after the other
module _ (m : map.FinMap conn_cmp Conn) (id : ConnId) (conn : Conn) (free : map.get m id ≡ None)
    (ends : conn.open_ends ≡ true ∷ true ∷ []) where
  abbrev m' : map.FinMap conn_cmp Conn
  m' = map.insert m id conn

  abbrev half : Conn
  half = without_end 0 conn

  first_closed : after_end 0 m' id ≡ map.insert m' id half
  first_closed =
      ap (λ o. put_back m' id (option_map (without_end 0) o))
      (get_insert_same conn_total conn_exact m id conn)
      ∙ ap (λ xs. cond (list_any (λ x. x) (slice_set xs 0 false)) (map.insert m' id half)
      (map.remove m' id)) ends

  both_closed : after_end 1 (map.insert m' id half) id ≡ m
  both_closed =
      ap (λ o. put_back (map.insert m' id half) id (option_map (without_end 1) o))
      (get_insert_same conn_total conn_exact m' id half)
      ∙ ap (λ xs. cond (list_any (λ x. x) (slice_set (slice_set xs 0 false) 1 false))
      (map.insert (map.insert m' id half) id (without_end 1 half)) (map.remove (map.insert m' id half) id))
      ends
      ∙ remove_insert conn_total conn_exact m' id half
      ∙ remove_insert_new conn_total conn_exact m id conn free

pub unlisted_again : (before : ConnTable) (l : Listed) → IsUnlisted before (Some l)
    → (conns first second : ConnTable) → conns ≡ with_listed before (Some l)
    → first ≡ record conns { conns = after_end 0 conns.conns l.conn.id }
    → second ≡ record first { conns = after_end 1 first.conns l.conn.id } → second ≡ before
unlisted_again before l free conns first second is first_is second_is =
    second_is
    ∙ (λ i. record (first_is i) { conns = after_end 1 (first_is i).conns l.conn.id })
    ∙ (λ i. record (is i) { conns = after_end 1 (after_end 0 (is i).conns l.conn.id) l.conn.id })
    ∙ (λ i. record before {
      conns = after_end 1 (first_closed before.conns l.conn.id l.conn free.0 free.1 i) l.conn.id;
    })
    ∙ (λ i. record before { conns = both_closed before.conns l.conn.id l.conn free.0 free.1 i })

-- the pair of an address
none_of : {X : Type 0} (o : Option X) → (IsSome o → ⊥) → o ≡ None
none_of None never = refl
none_of (Some x) never = absurd (never refl)

done_taken : (result : Result (Unit {0}) IdFault) (u : Unit {0}) → result ≡ Ok u → result ≡ Err Taken → ⊥
done_taken result u done taken = cc

pub unpaired_again : (ids added back : Pairs) (v : VirtAddr) (r : RealAddr)
    (result : Result (Unit {0}) IdFault)
    (u : Unit {0}) → ((result ≡ Err Taken) ↔ IsTaken ids.addresses ids.ports v r) → result ≡ Ok u
    → added ≡ record ids { addresses = map.insert ids.addresses v r; ports = map.insert ids.ports r v }
    → back ≡ record added {
      addresses = map.remove added.addresses v;
      ports = without_back added.ports (map.get added.addresses v);
    } → back ≡ ids
unpaired_again ids added back v r result u taken done is back_is =
    back_is
    ∙ (λ i. record (is i) {
      addresses = map.remove (is i).addresses v;
      ports = without_back (is i).ports (map.get (is i).addresses v);
    })
    ∙ (λ i. record ids {
      addresses = remove_insert_new address_total address_exact ids.addresses v r no_address i;
      ports = without_back (map.insert ids.ports r v)
          (get_insert_same address_total address_exact ids.addresses v r i);
    })
    ∙ (λ i. record ids {
      ports = remove_insert_new real_address_total real_address_exact ids.ports r v
          no_port i;
    })
  where
    no_address : map.get ids.addresses v ≡ None
    no_address = none_of (map.get ids.addresses v) (λ there. done_taken result u done (taken.1 (inl there)))

    no_port : map.get ids.ports r ≡ None
    no_port = none_of (map.get ids.ports r) (λ there. done_taken result u done (taken.1 (inr there)))
