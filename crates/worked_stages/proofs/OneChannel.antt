-- A network of one channel.
--     alone_made      it was made by a pair in an empty network
--     alone_kept      a change of a direction leaves it alone
--     alone_after     and so does a send, refused or not
use Rattle.std.proofs.Common.{◌≡◌, ℕ, List, take, refl, ap, sym, subst, ◌∙◌, inl, inr}
use Rattle.std.specs.Prelude.{Option, Some, None, Result, Ok, Err, IsSome, IfOk, OnErr}
use Rattle.std.specs.Option.{option_map_or}
use Rattle.std.specs.FinMap as map
use Rattle.views.proofs.MapLaws.{same_or_other, get_insert_other, true_false}
use Rattle.sys_abi.specs.declared.identity.ConnId.{ConnId}
use Rattle.sys_abi.specs.declared.identity.Dir.{Dir}
use Rattle.sys_abi.specs.Orders.{conn_cmp}
use Rattle.sys_abi.proofs.OrderLaws.{conn_total, conn_exact}
use Rattle.wire_channels.specs.declared.channel.Channel.{Channel}
use Rattle.wire_channels.specs.declared.net_fault.NetFault.{NetFault}
use Rattle.wire_channels.specs.Directions.{Direction, after_send}
use Rattle.wire_channels.specs.Channels.{Channels, at_side, at_direction}
use Rattle.wire_net.specs.Networks.{Network}
use Rattle.worked_stages.specs.Alone.{IsAlone}
use Rattle.wire_net.proofs.OneCall.{with_channels}

put_alone : (id : ConnId) (m : Channels) (at : ConnId) (channel : Channel) → IsAlone id m → at ≡ id → IsAlone id (map.insert m at channel)
put_alone id m at channel alone is other there = elim (same_or_other conn_total conn_exact other at) [
  | inl same ↦ same ∙ is
  | inr differ ↦ alone other (subst IsSome (get_insert_other conn_total conn_exact m at channel other differ) there)
]

pub alone_made : (id : ConnId) (m n : Channels) (channel : Channel) → m ≡ map.empty → n ≡ map.insert m id channel → IsAlone id n
alone_made id m n channel none is =
    subst (IsAlone id) (sym is) (put_alone id m id channel (λ other there. true_false (sym (subst IsSome (ap (λ (l : Channels). map.get l other) none ∙ map.get-empty conn_cmp other) there))) refl)

pub alone_kept : (id : ConnId) (m n : Channels) (d : Dir) (f : Direction → Direction) → n ≡ at_direction m d f → IsAlone id m → IsAlone id n
alone_kept id m n d f is alone = subst (IsAlone id) (sym is) (found (map.get m d.conn) refl)
  where
    found : (o : Option Channel) → map.get m d.conn ≡ o → IsAlone id (option_map_or (λ channel. map.insert m d.conn (at_side d.side f channel)) o m)
    found None at = alone
    found (Some channel) at = put_alone id m d.conn (at_side d.side f channel) alone (alone d.conn (subst IsSome (sym at) refl))

pub alone_after : (id : ConnId) (t u : Network) (d : Dir) (text : List ℕ) (result : Result ℕ NetFault) → IfOk result (λ count. u ≡ with_channels t (at_direction t.channels d (after_send (take count text))))
    → OnErr result (u ≡ t) → IsAlone id t.channels → IsAlone id u.channels
alone_after id t u d text (Ok count) ok err alone = alone_kept id t.channels u.channels d (after_send (take count text)) (ap (λ (v : Network). v.channels) ok) alone
alone_after id t u d text (Err fault) ok err alone = subst (λ (v : Network). IsAlone id v.channels) (sym err) alone
