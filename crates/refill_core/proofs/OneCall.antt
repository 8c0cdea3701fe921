-- A read and a send on a direction of the network.
--     nothing_sent, sent_some     the network where nothing was sent, and where something was
use Rattle.std.proofs.Common.{◌≡◌, ◌≢◌, ℕ, ◌==◌, Bool, true, false, List, take, refl, sym, ap, arith}
use Rattle.std.specs.Prelude.{if◌then◌else◌}
use Rattle.std.proofs.lemmas.Bool.Decides.{nat_tests}
use Rattle.views.proofs.MapLaws.{true_false}
use Rattle.sys_abi.specs.declared.identity.Dir.{Dir}
use Rattle.wire_channels.specs.Directions.{Direction, after_send}
use Rattle.wire_channels.specs.Channels.{at_direction}
use Rattle.wire_net.specs.Networks.{Network}
use Rattle.refill_core.specs.Tasks.{sent_on}
use Rattle.wire_channels.proofs.OneDirection.{unchanged_direction}
pub use Rattle.wire_net.proofs.OneCall.{with_channels, nothing_received, some_sent}

pub nothing_sent : (t : Network) (d : Dir) (piece : List ℕ) → t ≡ with_channels t (at_direction t.channels d (sent_on 0 piece))
nothing_sent t d piece = ap (with_channels t) (sym (unchanged_direction t.channels d (sent_on 0 piece) (λ direction. refl)))

pub sent_some : (t : Network) (d : Dir) (piece : List ℕ) (n : ℕ) → n ≢ 0
    → with_channels t (at_direction t.channels d (after_send (take n piece))) ≡ with_channels t (at_direction t.channels d (sent_on n piece))
sent_some t d piece n some = ap (λ (f : Direction → Direction). with_channels t (at_direction t.channels d f)) (choice (n == 0) (let other : (n == 0) ≡ false = grind (arith, nat_tests) in other))
  where
    choice : (b : Bool) → b ≡ false → after_send (take n piece) ≡ (λ direction. if b then direction else after_send (take n piece) direction)
    choice true is = true_false is
    choice false is = refl
