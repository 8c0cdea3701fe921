-- The kernel part stays whole where a process makes a description, which gets its running number.
--     whole_made
use Rattle.std.proofs.Common.{◌≡◌, ℕ, ◌+◌, ◌-◌, ◌^◌, ◌<◌, Bool, true, refl, sym, ap, ◌∙◌, arith}
use Rattle.std.specs.Prelude.{Option, Some, None, is_some}
use Rattle.std.specs.Option.{option_map_or}
use Rattle.std.specs.FinMap as map
use Rattle.std.proofs.lemmas.Bool.Decides.{nat_tests}
use Rattle.plain_tables.specs.OfSysAbi.declared.identity.VPid.{VPid}
use Rattle.plain_tables.proofs.OfSysAbi.OrderLaws.{vpid_total, vpid_exact}
use Rattle.plain_machine.specs.declared.kernel.PlainKernel.{PlainKernel}
use Rattle.plain_tables.specs.declared.process.Process.{Process}
use Rattle.plain_tables.specs.OfSysAbi.declared.maker.Maker.{Maker}
use Rattle.plain_tables.specs.declared.description.Object.{Object}
use Rattle.plain_tables.specs.Tables.{slot, is_live_process, made_more}
use Rattle.plain_tables.specs.Valid.Descriptions.{AreFlags}
use Rattle.plain_tables.specs.Valid.Sockets.{has_host}
use Rattle.plain_machine.specs.Kernel.{is_live, made_of, has_numbers, numbered, placed}
use Rattle.plain_machine.specs.Kernels.{IsKernel}
use Rattle.plain_machine.specs.KernelLaws.{IsAlone, MayBePlaced}
use Rattle.plain_tables.proofs.Changes.{changed_here}
use Rattle.plain_tables.proofs.Entries.{found_at}
use Rattle.plain_machine.proofs.WholeNumbered.{whole_numbered}
use Rattle.plain_machine.proofs.WholePlaced.{fresh, unknown, whole_placed}

live_there : (k : PlainKernel) (p : VPid) → is_live k p ≡ true → is_some (map.get k.processes p) ≡ true
unfolding is_live
live_there k p alive = by_found (map.get k.processes p) alive
  where
    by_found : (found : Option Process) → is_live_process found ≡ true → is_some found ≡ true
    by_found None lives = lives
    by_found (Some process) lives = refl

pub whole_made : (k : PlainKernel) (p : VPid) (fd : ℕ) (cloexec : Bool) (object : Object) (flags : ℕ) → IsKernel k → is_live k p ≡ true → has_numbers k p ≡ true → fd < 256
    → map.get k.descriptors (slot p fd) ≡ None → AreFlags flags → IsAlone object → MayBePlaced k.files k.channels k.makers p object
    → IsKernel (placed (numbered k p 1) p fd (record { pid = p; num = made_of k p }) cloexec object flags)
unfolding is_live
whole_made k p fd cloexec object flags is alive room low free sound alone may =
    let maker = found_at vpid_total vpid_exact k.makers p (is.makers.same p ∙ live_there k p alive) in
    let number : made_of k p ≡ maker.0.made = ap (λ found. option_map_or (λ (m : Maker). m.made) found 0) maker.1 in
    let few : made_of k p < 2 ^ 32 - 4 = grind (arith, nat_tests, room) in
    let fits : (m : Maker) → map.get k.makers p ≡ Some m → m.made + 1 < 2 ^ 32 = λ m found. let same : maker.0 ≡ m = let there = maker.1 in cc in let made = ap (λ (w : Maker). w.made) same in omega arith in
    let known = changed_here vpid_total vpid_exact k.makers p (made_more 1) maker.0 maker.1 in
    whole_placed (numbered k p 1) p fd (made_of k p) cloexec object flags (made_more 1 maker.0) (whole_numbered k p 1 is fits) alive low free known
    (fresh k is p (made_of k p) maker.0 maker.1 alive (omega arith)) (omega arith) (unknown k is p (made_of k p) maker.0 maker.1 alive (omega arith)) sound alone
    (record {
      opened = may.opened;
      addressed = may.addressed;
      counts = may.counts;
      host = λ host on. ap (λ found. has_host found host) known ∙ sym (ap (λ found. has_host found host) maker.1) ∙ may.host host on;
    })
