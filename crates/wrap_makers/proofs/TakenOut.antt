-- A number that was put into the tables and is taken out again leaves them as they were.
--     pair_out       of its pair      maker_out      of its maker, where it has one
use Rattle.std.proofs.Common.{◌≡◌, ℕ, Option, Some, None, ap, ◌∙◌}
use Rattle.std.specs.Cmp.{nat_cmp_total}
use Rattle.std.specs.FinMap as map
use Rattle.std.specs.FinMap.{nat_cmp-IsAntisymmetric}
use Rattle.views.proofs.MapLaws.{get_insert_same, remove_absent, remove_insert_new}
use Rattle.sys_abi.specs.declared.identity.RealPid.{RealPid}
use Rattle.sys_abi.specs.declared.maker.Maker.{Maker}
use Rattle.sys_abi.proofs.OrderLaws.{vpid_total, vpid_exact, real_pid_total, real_pid_exact}
use Rattle.conn_table.specs.declared.table.ConnTable.{ConnTable}
use Rattle.virt_ids.specs.Pairs.{Pairs, without_back}
use Rattle.plain_tables.specs.Tables.{Makers, pid}
use Rattle.wrap_makers.specs.Cloning.{with_pair, without_pair, makers_with, with_maker, without_maker}

pub pair_out : (ids : Pairs) (number : ℕ) (real : RealPid) → map.get ids.pids number ≡ None
    → map.get ids.virts real ≡ None → without_pair (with_pair ids number real) number ≡ ids
pair_out ids number real new_number new_real = λ i. record ids {
  pids = remove_insert_new nat_cmp_total nat_cmp-IsAntisymmetric ids.pids number real new_number i;
  virts = back i;
}
  where
    back : without_back (map.insert ids.virts real number) (map.get (map.insert ids.pids number real) number)
        ≡ ids.virts
    back =
        ap (without_back (map.insert ids.virts real number))
        (get_insert_same nat_cmp_total nat_cmp-IsAntisymmetric ids.pids number real)
        ∙ remove_insert_new real_pid_total real_pid_exact ids.virts real number new_real

makers_out : (makers : Makers) (number : ℕ) (maker : Option Maker) → map.get makers (pid number) ≡ None
    → map.remove (makers_with makers number maker) (pid number) ≡ makers
makers_out makers number None new = remove_absent vpid_total vpid_exact makers (pid number) new
makers_out makers number (Some maker) new =
    remove_insert_new vpid_total vpid_exact makers (pid number) maker new

pub maker_out : (conns : ConnTable) (number : ℕ) (maker : Option Maker)
    → map.get conns.makers (pid number) ≡ None → without_maker (with_maker conns number maker) number ≡ conns
maker_out conns number maker new = λ i. record conns { makers = makers_out conns.makers number maker new i }
