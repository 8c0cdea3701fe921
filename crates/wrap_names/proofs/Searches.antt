-- The search for an automatic port, and what takes one.
--     found_port, one_further, no_automatic        the search
--     bound_already, bound_some, bound_none        the address of a socket
--     any_some, any_none, port_taken, port_free    the port that a bind asks for
use Rattle.std.proofs.Common.{◌≡◌, ◌≢◌, ℕ, ◌+◌, ◌-◌, ◌<◌, ◌≤◌, Bool, true, false, not, cond, Option, Some, None, ap, ◌∙◌, arith}
use Rattle.std.specs.Prelude.{◌==◌}
use Rattle.std.proofs.lemmas.Bool.{eq-eqb}
use Rattle.std.proofs.lemmas.Bool.Decides.{nat_tests}
use Rattle.sys_abi.specs.declared.errors.TheConstants.{EADDRINUSE}
use Rattle.sys_abi.specs.declared.identity.VirtAddr.{VirtAddr}
use Rattle.plain_process.specs.Attempts.{Try, Fails, Gives, and_then, need, found}
use Rattle.plain_machine.specs.declared.kernel.PlainKernel.{PlainKernel}
use Rattle.plain_machine.specs.Addresses.{unused_among, automatic_port, is_port_used, address_at}
use Rattle.plain_machine.specs.Rows.Sockets.{port_for}
use Rattle.plain_machine.specs.SocketWords.{bound_or}
use Rattle.plain_ports.proofs.Searches.{unused_more, unused_none}

not_zero : (n : ℕ) → n ≢ 0 → (n == 0) ≡ false
not_zero n some = grind (arith, nat_tests, some)

module _ (k : PlainKernel) (host : ℕ) where
  automatic_is : (o : Option ℕ) → unused_among k host 32768 28232 ≡ o → automatic_port k host ≡ o
  unfolding automatic_port
  automatic_is o is = is

  module _ (port : ℕ)
      (so_far : unused_among k host 32768 28232 ≡ unused_among k host port (61000 - port)) where
    step : port < 61000 → (b : Bool) → is_port_used k (address_at host port) ≡ b
        → unused_among k host 32768 28232
        ≡ cond b (unused_among k host (port + 1) (61000 - (port + 1))) (Some port)
    step near b is =
        so_far ∙ unused_more k host port near
        ∙ ap (λ c. cond c (unused_among k host (port + 1) (61000 - (port + 1))) (Some port)) is

    pub one_further : port < 61000 → is_port_used k (address_at host port) ≡ true
        → unused_among k host 32768 28232 ≡ unused_among k host (port + 1) (61000 - (port + 1))
    one_further near used = step near true used

    pub found_port : port < 61000 → is_port_used k (address_at host port) ≡ false
        → automatic_port k host ≡ Some port
    found_port near free = automatic_is (Some port) (step near false free)

    pub no_automatic : 61000 ≤ port → automatic_port k host ≡ None
    no_automatic far = automatic_is None (so_far ∙ unused_none k host port far)

module _ (k : PlainKernel) (address : VirtAddr) (e : ℕ) where
  abbrev bound_by : Bool → Option ℕ → Try VirtAddr
  bound_by b o =
      cond b (and_then (found o e) (λ port. Gives (address_at address.host port))) (Gives address)

  pub bound_already : address.port ≢ 0 → bound_or k address e ≡ Gives address
  unfolding bound_or
  bound_already some = ap (λ b. bound_by b (automatic_port k address.host)) (not_zero address.port some)

  none_yet : address.port ≡ 0 → (o : Option ℕ) → automatic_port k address.host ≡ o
      → bound_or k address e ≡ bound_by true o
  unfolding bound_or
  none_yet none o is =
      ap (λ b. bound_by b (automatic_port k address.host)) (eq-eqb address.port 0 none)
      ∙ ap (bound_by true) is

  pub bound_some : address.port ≡ 0 → (port : ℕ) → automatic_port k address.host ≡ Some port
      → bound_or k address e ≡ Gives (address_at address.host port)
  unfolding and_then found
  bound_some none port is = none_yet none (Some port) is

  pub bound_none : address.port ≡ 0 → automatic_port k address.host ≡ None → bound_or k address e ≡ Fails e
  unfolding and_then found
  bound_none none is = none_yet none None is

module _ (k : PlainKernel) (host port : ℕ) where
  abbrev for_by : Bool → Option ℕ → Bool → Try ℕ
  for_by b o used =
      cond b (found o EADDRINUSE) (and_then (need (not used) EADDRINUSE) (λ _. Gives port))

  abbrev used_now : Bool
  used_now = is_port_used k (address_at host port)

  any_by : port ≡ 0 → (o : Option ℕ) → automatic_port k host ≡ o → port_for k host port ≡ found o EADDRINUSE
  unfolding port_for
  any_by zero_port o is =
      ap (λ b. for_by b (automatic_port k host) used_now) (eq-eqb port 0 zero_port)
      ∙ ap (λ x. found x EADDRINUSE) is

  pub any_some : port ≡ 0 → (n : ℕ) → automatic_port k host ≡ Some n → port_for k host port ≡ Gives n
  unfolding found
  any_some zero_port n is = any_by zero_port (Some n) is

  pub any_none : port ≡ 0 → automatic_port k host ≡ None → port_for k host port ≡ Fails EADDRINUSE
  unfolding found
  any_none zero_port is = any_by zero_port None is

  named_by : port ≢ 0 → (used : Bool) → used_now ≡ used → port_for k host port ≡ for_by false None used
  unfolding port_for
  named_by some used is =
      ap (λ b. for_by b (automatic_port k host) used_now) (not_zero port some)
      ∙ ap (for_by false None) is

  pub port_taken : port ≢ 0 → used_now ≡ true → port_for k host port ≡ Fails EADDRINUSE
  unfolding and_then need
  port_taken some is = named_by some true is

  pub port_free : port ≢ 0 → used_now ≡ false → port_for k host port ≡ Gives port
  unfolding and_then need
  port_free some is = named_by some false is
