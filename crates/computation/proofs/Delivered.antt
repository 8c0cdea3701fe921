-- A delivery to a thread of a guest: what it leaves of the computation.
--     found_lives                   its process lives when it comes
--     state_is, numbered_after      the plain state, and that each guest stands under its number
use Rattle.std.proofs.Common.{◌≡◌, ℕ, Bool, true, false, cond, Some, refl, sym, ap, ◌∙◌}
use Rattle.std.specs.Prelude.{is_some}
use Rattle.std.specs.FinMap as map
use Rattle.views.specs.Maps.{map_values}
use Rattle.views.proofs.MapLaws.{insert_same, remove_insert}
use Rattle.views.proofs.MapValues.{map_values-insert, map_values-remove}
use Rattle.sys_abi.specs.declared.identity.VPid.{VPid}
use Rattle.sys_abi.proofs.OrderLaws.{vpid_total, vpid_exact}
use Rattle.plain_process.specs.Deliveries.{Delivery, Enters, Ignores, Kills, traps_with}
use Rattle.plain_process.specs.Steps.{user_step}
use Rattle.plain_machine.specs.declared.kernel.PlainKernel.{PlainKernel}
use Rattle.plain_machine.specs.Ends.{after_end}
use Rattle.plain_machine.specs.Kernel.{is_live, after_take}
use Rattle.plain_machine.specs.Valid.{IsKernel, IsValid}
use Rattle.plain_machine.specs.Records.{Users, delivered}
use Rattle.plain_machine.proofs.EndedKernels.{kernel_ended}
use Rattle.plain_machine.proofs.KernelThreads.{take_threads}
use Rattle.plain_machine.proofs.WholeChanges.{whole_take}
use Rattle.guest_proc.specs.Guests.{GuestPart, delivered_by, part_after}
use Rattle.computation.specs.Parts.{Guests, kernel_found, kernel_after, guests_after}
use Rattle.computation.proofs.Living.{one_ended}
use Rattle.computation.proofs.Numbered.{Numbered, numbered_put, numbered_taken}
use Rattle.computation.proofs.States.{seen, plain_is}

abbrev users_of : Guests → Users
users_of guests = map_values (λ guest. guest.user) guests

users_put : (guests : Guests) (p : VPid) (guest : GuestPart) → users_of (map.insert guests p guest) ≡ map.insert (users_of guests) p guest.user
users_put guests p guest = map_values-insert vpid_total vpid_exact (λ (guest : GuestPart). guest.user) guests p guest

users_taken : (guests : Guests) (p : VPid) → users_of (map.remove guests p) ≡ map.remove (users_of guests) p
users_taken guests p = map_values-remove vpid_total vpid_exact (λ (guest : GuestPart). guest.user) guests p

module _ (k : PlainKernel) (before : Guests) (p : VPid) (t s : ℕ) (guest : GuestPart) (valid : IsValid (seen k before)) (there : map.get (users_of before) p ≡ Some guest.user) where
  alive : is_live k p ≡ true
  alive = sym (valid.alive p) ∙ ap is_some there

  abbrev found : PlainKernel
  found = kernel_found k p t s guest.user

  whole_by : (traps : Bool) → IsKernel (cond traps k (after_take k p t s))
  whole_by true = valid.kernel
  whole_by false = whole_take k p valid.kernel t s

  live_by : (traps : Bool) (q : VPid) → is_live (cond traps k (after_take k p t s)) q ≡ is_live k q
  live_by true q = refl
  live_by false q = (take_threads k p t s).live q

  pub found_lives : is_live found p ≡ true
  found_lives = live_by (traps_with (user_step guest.user t) s) p ∙ alive

  ends : (status : ℕ) → map.retain_keys (users_of before) (is_live (after_end found p status)) ≡ map.remove (users_of before) p
  ends status =
      let traps = traps_with (user_step guest.user t) s in
      let end = kernel_ended found p status (whole_by traps) (live_by traps p ∙ alive) in
      one_ended (after_end found p status) (users_of before) p end.gone (λ q other. end.live q other ∙ live_by traps q ∙ sym (valid.alive q))

  pub state_is : (moved : GuestPart) (d : Delivery) → moved.user ≡ part_after guest.user d
      → seen (kernel_after found p (delivered_by d)) (guests_after (map.insert before p moved) p (delivered_by d)) ≡ delivered (record { kernel = found; users = users_of before }) p d
  state_is moved (Enters after) part = plain_is found found _ _ refl (users_put before p moved ∙ ap (map.insert (users_of before) p) part)
  state_is moved Ignores part =
      plain_is found found _ _ refl (users_put before p moved ∙ ap (map.insert (users_of before) p) part ∙ insert_same vpid_total vpid_exact (users_of before) p guest.user there)
  state_is moved (Kills status) part =
      plain_is (after_end found p status) (after_end found p status) _ _ refl
      (users_taken (map.insert before p moved) p ∙ ap (λ m. map.remove m p) (users_put before p moved) ∙ remove_insert vpid_total vpid_exact (users_of before) p moved.user ∙ sym (ends status))

pub numbered_after : (before : Guests) (p : VPid) (moved : GuestPart) (d : Delivery) → Numbered before → moved.pid ≡ p → Numbered (guests_after (map.insert before p moved) p (delivered_by d))
numbered_after before p moved (Enters after) each own = numbered_put before p moved each own
numbered_after before p moved Ignores each own = numbered_put before p moved each own
numbered_after before p moved (Kills status) each own = numbered_taken (map.insert before p moved) p (numbered_put before p moved each own)
