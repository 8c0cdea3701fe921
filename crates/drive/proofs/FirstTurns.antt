-- The first turn of threads and of processes, where some were passed over.
use Rattle.std.proofs.Common.{◌≡◌, ℕ, List, [], ◌∷◌, Some, None, refl, ap}
use Rattle.std.specs.Option.{option_or}
use Rattle.std.specs.FinMap as map
use Rattle.sys_abi.specs.declared.identity.VPid.{VPid}
use Rattle.plain_machine.specs.declared.plain.Plain.{Plain}
use Rattle.trace_log.specs.Turns.{Place, turn_of, first_thread, first_turn, threads_in}

module _ (g : Plain) (p : VPid) (processes : List VPid) where
  pub no_thread : first_thread g p processes [] ≡ None
  unfolding first_thread
  no_thread = refl

  pub thread_found : (t : ℕ) (threads : List ℕ) (place : Place) → turn_of g p t threads processes ≡ Some place → first_thread g p processes (t ∷ threads) ≡ Some place
  unfolding first_thread
  thread_found t threads place is = ap (λ o. option_or o (first_thread g p processes threads)) is

  pub thread_passed : (t : ℕ) (threads : List ℕ) → turn_of g p t threads processes ≡ None → first_thread g p processes (t ∷ threads) ≡ first_thread g p processes threads
  unfolding first_thread
  thread_passed t threads is = ap (λ o. option_or o (first_thread g p processes threads)) is

module _ (g : Plain) where
  pub no_process : first_turn g [] ≡ None
  unfolding first_turn
  no_process = refl

  pub process_found : (p : VPid) (processes : List VPid) (place : Place) → first_thread g p processes (threads_in (map.get g.users p)) ≡ Some place → first_turn g (p ∷ processes) ≡ Some place
  unfolding first_turn
  process_found p processes place is = ap (λ o. option_or o (first_turn g processes)) is

  pub process_passed : (p : VPid) (processes : List VPid) → first_thread g p processes (threads_in (map.get g.users p)) ≡ None → first_turn g (p ∷ processes) ≡ first_turn g processes
  unfolding first_turn
  process_passed p processes is = ap (λ o. option_or o (first_turn g processes)) is
