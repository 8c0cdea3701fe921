-- Who holds side 0 of a channel, and the node of the end that accepts.
--     none_hold      where a walk finds nobody that holds it, nobody does
--     at_holders     of a pair or a pipe it is the node of their host
use Rattle.std.proofs.Common.{◌≡◌, ◌⊎◌, ℕ, false, inl, inr, sym, ap, subst, ◌∙◌}
use Rattle.std.specs.Prelude.{None}
use Rattle.std.specs.Option.{option_map_or}
use Rattle.views.proofs.MapLaws.{true_false}
use Rattle.sys_abi.specs.declared.identity.ConnId.{ConnId}
use Rattle.sys_abi.specs.declared.identity.Slot.{Slot}
use Rattle.plain_tables.specs.declared.channel.ChannelKind.{ChannelKind}
use Rattle.plain_tables.specs.declared.channel.ChannelKind.TheVariants.{Pair, Pipe}
use Rattle.plain_machine.specs.declared.kernel.PlainKernel.{PlainKernel}
use Rattle.host_tables.specs.declared.kernel.Hosts.{Hosts}
use Rattle.rebuild_tables.specs.Hosts.{node_at}
use Rattle.rebuild_system.specs.Nets.{IsHolder, IsAtAccepting}
use Rattle.rebuild_system.specs.Holders.{is_first_of, FindsHolder, IsHoldersHost}

pub none_hold : (k : PlainKernel) (id : ConnId) → FindsHolder k id None → (at : Slot) (host : ℕ)
    → IsHolder k id at host → ⊥
none_hold k id none at host holder =
    true_false (sym holder.first
    ∙ sym (ap (λ o. option_map_or (is_first_of id) o false) holder.described)
    ∙ none at holder.descriptor holder.held)

pub at_holders : (h : Hosts) (k : PlainKernel) (id : ConnId) (kind : ChannelKind) (node host : ℕ)
    → (kind ≡ Pair) ⊎ (kind ≡ Pipe) → node ≡ node_at h host → IsHoldersHost k id host
    → IsAtAccepting h k id kind node
at_holders h k id kind node host (inl pair) is all =
    subst (λ x. IsAtAccepting h k id x node) (sym pair)
    (λ at other holder. is ∙ ap (node_at h) (sym (all at other holder)))
at_holders h k id kind node host (inr pipe) is all =
    subst (λ x. IsAtAccepting h k id x node) (sym pipe)
    (λ at other holder. is ∙ ap (node_at h) (sym (all at other holder)))
