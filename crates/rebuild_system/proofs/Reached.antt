-- Where channels were reached.
--     reached_here, reached_kept      by what the directory has of the channel, and where it has the same
--     and_true, and_false, or_true    of tests
use Rattle.std.proofs.Common.{◌≡◌, ◌≤◌, ◌&&◌, ◌||◌, Bool, true, false, refl, ap, ◌∙◌}
use Rattle.std.specs.Prelude.{Option, Some, option_map}
use Rattle.std.specs.Option.{option_map_or}
use Rattle.std.specs.FinMap as map
use Rattle.sys_abi.specs.declared.identity.ConnId.{ConnId}
use Rattle.sys_abi.specs.declared.identity.RealAddr.{RealAddr}
use Rattle.plain_tables.specs.declared.channel.Channel.{Channel}
use Rattle.plain_machine.specs.declared.kernel.PlainKernel.{PlainKernel}
use Rattle.discovery.specs.declared.publication.Publication.{Publication}
use Rattle.discovery.specs.Directories.{Publications}
use Rattle.host_tables.specs.declared.kernel.Hosts.{Hosts}
use Rattle.rebuild_system.specs.Nets.{IsAtAccepting, IsReached}
use Rattle.rebuild_system.specs.Steps.{reached_at}

pub and_true : (a : Bool) → (a && true) ≡ a
and_true true = refl
and_true false = refl

pub and_false : (a : Bool) → (a && false) ≡ false
and_false true = refl
and_false false = refl

pub or_true : (a : Bool) → (a || true) ≡ true
or_true true = refl
or_true false = refl

module _ (h : Hosts) (k : PlainKernel) (id : ConnId) (channel : Channel) where
  pub reached_here : (m : Publications) (at : RealAddr) → map.get m id ≡ Some (reached_at at)
      → h.port_base ≤ at.port → IsAtAccepting h k id channel.kind at.node → IsReached h k id channel m
  reached_here m at is port node = record {
    at = at;
    place = ap (λ (o : Option Publication). option_map (λ p. p.at) o) is;
    asked = ap (λ (o : Option Publication). option_map_or (λ p. p.asked) o false) is;
    port = port;
    node = node;
  }

  pub reached_kept : (m m' : Publications) → map.get m' id ≡ map.get m id → IsReached h k id channel m
      → IsReached h k id channel m'
  reached_kept m m' same reached = record {
    at = reached.at;
    place = ap (λ (o : Option Publication). option_map (λ p. p.at) o) same ∙ reached.place;
    asked = ap (λ (o : Option Publication). option_map_or (λ p. p.asked) o false) same ∙ reached.asked;
    port = reached.port;
    node = reached.node;
  }
