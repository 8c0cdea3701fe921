-- Which ends of a channel are open, as a kernel part tells it.
--     ends_of channel      of a channel of a kernel part
--     told_ends            a kernel's channels have the open ends of those for which they stand
use Rattle.std.proofs.Common.{◌≡◌, suc, Bool, false, List, [], ◌∷◌, Option, Some, None, refl, sym, ap, ◌∙◌, arith}
use Rattle.std.specs.Prelude.{length, slice_index_or, IsSome, option_map, option_and_then}
use Rattle.std.specs.FinMap as map
use Rattle.views.proofs.MapLaws.{true_false}
use Rattle.sys_abi.specs.declared.identity.ConnId.{ConnId}
use Rattle.conn_table.specs.declared.conn.Conn.{Conn}
use Rattle.plain_tables.specs.declared.channel.Channel as plain
use Rattle.plain_machine.specs.declared.kernel.PlainKernel.{PlainKernel}
use Rattle.wire_channels.specs.declared.channel.Channel.{Channel}
use Rattle.host_tables.specs.declared.kernel.Kernel.{Kernel}
use Rattle.host_tables.specs.Network.{seen_channel}
use Rattle.host_tables.specs.Stands.{Given, Stands}

abbrev pub ends_of : plain.Channel → List Bool
ends_of channel = channel.first.is_open ∷ channel.second.is_open ∷ []

two : (xs : List Bool) → length xs ≡ 2 → xs ≡ slice_index_or xs 0 false ∷ slice_index_or xs 1 false ∷ []
two (a ∷ b ∷ []) e = refl
two [] e = absurd (let n : 0 ≡ 2 = e in omega (arith, n))
two (a ∷ []) e = absurd (let n : 1 ≡ 2 = e in omega (arith, n))
two (a ∷ b ∷ c ∷ xs) e = absurd (let n : suc (suc (suc (length xs))) ≡ 2 = e in omega (arith, n))

ends_by : (conn : Option Conn) (found : Option Channel) → (IsSome found → IsSome conn)
    → ((x : Channel) → found ≡ Some x → length x.open_ends ≡ 2)
    → option_map (λ (x : Channel). x.open_ends) found
    ≡ option_map ends_of (option_and_then (λ x. option_map (seen_channel x) conn) found)
ends_by conn None listed sides = refl
ends_by None (Some x) listed sides = true_false (sym (listed refl))
ends_by (Some c) (Some x) listed sides = ap Some (two x.open_ends (sides x refl))

pub told_ends : (g : Given) (real : Kernel) (k : PlainKernel) → Stands g None real k → (id : ConnId)
    → option_map (λ (x : Channel). x.open_ends) (map.get real.net.channels id)
    ≡ option_map ends_of (map.get k.channels id)
told_ends g real k st id =
    ends_by (map.get g.conns id) (map.get real.net.channels id) (st.channels.listed id) (st.channels.sides id)
    ∙ ap (option_map ends_of) (sym (st.channels.each id))
