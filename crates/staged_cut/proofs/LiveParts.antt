-- The numbers of the parts of a computation's processes.
--     live_listed, listed_lives      each live process is one of them, and each of them lives
--     few_listed       there are at most as many of them as of processes
use Rattle.std.proofs.Common.{◌≡◌, ◌≤◌, true, length, refl, sym, ap, subst, ◌∙◌, arith}
use Rattle.std.specs.Prelude.{Option, Some, None, is_some, IsSome, Contains}
use Rattle.std.specs.Cmp.{eq_by_cmp_equiv}
use Rattle.std.specs.FinMap as map
use Rattle.std.proofs.lemmas.List.{length-map}
use Rattle.std.proofs.lemmas.Map.Views.{Contains-from_any, list_any-from_Contains}
use Rattle.views.proofs.Counting.{led_into}
use Rattle.views.proofs.MapLaws.{true_false, same_key}
use Rattle.views.proofs.MapValues.{keys-map_values}
use Rattle.sys_abi.specs.declared.identity.VPid.{VPid}
use Rattle.sys_abi.proofs.OrderLaws.{vpid_total, vpid_exact}
use Rattle.plain_tables.specs.declared.process.Process.{Process}
use Rattle.plain_tables.specs.Tables.{is_live_process}
use Rattle.plain_machine.specs.Kernel.{is_live}
use Rattle.plain_machine.specs.Valid.{IsValid}
use Rattle.run_start.specs.HandedOn.{Computation, plain_of}

there_if_live : (found : Option Process) → is_live_process found ≡ true → IsSome found
there_if_live None lives = true_false (sym lives)
there_if_live (Some process) lives = refl

module _ (c : Computation) (valid : IsValid (plain_of c)) where
  pub live_listed : (p : VPid) → is_live c.kernel p ≡ true → Contains (map.keys c.guests) p
  live_listed p lives =
      subst (λ live. Contains live p) (keys-map_values (λ guest. guest.user) c.guests)
      (Contains-from_any (same_key vpid_total vpid_exact) p (map.keys (plain_of c).users)
      (sym (map.contains_key-keys (plain_of c).users p) ∙ valid.alive p ∙ lives))

  pub listed_lives : (p : VPid) → Contains (map.keys c.guests) p → is_live c.kernel p ≡ true
  listed_lives p listed =
      sym (valid.alive p) ∙ map.contains_key-keys (plain_of c).users p
      ∙ list_any-from_Contains (eq_by_cmp_equiv vpid_total) p (map.keys (plain_of c).users)
      (subst (λ live. Contains live p) (sym (keys-map_values (λ guest. guest.user) c.guests)) listed)

  few_parts : map.len (plain_of c).users ≤ map.len c.kernel.processes
  unfolding is_live
  few_parts =
      led_into vpid_total vpid_exact vpid_total vpid_exact (λ p q. p ≡ q)
      (λ p q r first second. first ∙ sym second) (plain_of c).users c.kernel.processes (λ p user there.
      (p, (there_if_live (map.get c.kernel.processes p) (sym (valid.alive p) ∙ ap is_some there), refl)))

  pub few_listed : length (map.keys c.guests) ≤ 128
  few_listed =
      let few = few_parts in
      let most = valid.kernel.processes.count in
      let size = map.len-entries (plain_of c).users in
      let listed = length-map (map.entries (plain_of c).users) (λ e. e.0) in
      let same = ap length (keys-map_values (λ guest. guest.user) c.guests) in
      omega arith
