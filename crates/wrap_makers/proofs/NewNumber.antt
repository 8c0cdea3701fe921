-- The next virtual number is nobody's, and the next real one of each node is there.
--     below                  all paired numbers are below it
--     none_there, unmade     no process has it, and no maker
--     room_left              a node has a number left while there is a virtual one
--     room_after             and keeps as many as there are then to come
use Rattle.std.proofs.Common.{◌≡◌, ℕ, ◌+◌, ◌-◌, ◌^◌, ◌<◌, ◌≤◌, true, false, List, Option, Some, None, inl, inr, refl, sym, ap, ◌∙◌, subst, length, arith}
use Rattle.std.specs.Prelude.{IsSome, is_some, slice_index, slice_set}
use Rattle.std.specs.Cmp.{nat_cmp_total}
use Rattle.std.specs.FinMap as map
use Rattle.std.specs.FinMap.{nat_cmp-IsAntisymmetric}
use Rattle.std.proofs.lemmas.List.{get_or-set_same, get_or-set_other, length-set}
use Rattle.views.proofs.MapLaws.{true_false, same_or_other}
use Rattle.sys_abi.specs.declared.identity.VPid.{VPid}
use Rattle.sys_abi.specs.declared.maker.Maker.{Maker}
use Rattle.plain_tables.specs.declared.process.Process.{Process}
use Rattle.plain_tables.specs.Tables.{Makers, pid, has_thread_in}
use Rattle.plain_machine.specs.declared.kernel.PlainKernel.{PlainKernel}
use Rattle.plain_machine.specs.Kernels.{IsKernel}
use Rattle.plain_machine.specs.Rows.Clone.{LAST_ID}
use Rattle.host_tables.specs.declared.system.System.{System}
use Rattle.host_tables.specs.Numbers.{HasRoom}
use Rattle.host_tables.specs.Requests.{AreBelow}
use Rattle.host_tables.specs.Systems.{given_of, StandsFor, IsNumber}
use Rattle.host_tables.proofs.LookUps.{some_value}

itself : (n : ℕ) → n < n → ⊥
itself n h = omega (arith, h)

module _ (k : PlainKernel) (whole : IsKernel k) where
  process_below : (v : ℕ) → IsSome (map.get k.processes (pid v)) → v < k.next_id
  process_below v there =
      let x = some_value (map.get k.processes (pid v)) there in
      (whole.processes.each (pid v) x.0 x.1).number.1

  thread_below : (v : ℕ) (p : VPid) (o : Option Process) → map.get k.processes p ≡ o
      → has_thread_in v o ≡ true → v < k.next_id
  thread_below v p None is has = true_false (sym has)
  thread_below v p (Some x) is has =
      let signals = some_value (map.get x.threads v) has in
      ((whole.processes.each p x is).threads v signals.0 signals.1).0.1

  pub number_below : (v : ℕ) → IsNumber k v → v < k.next_id
  number_below v is = elim is [
    | inl process ↦ process_below v process
    | inr thread ↦ thread_below v thread.0 (map.get k.processes thread.0) refl thread.1
  ]

  none_by : (o : Option Process) → map.get k.processes (pid k.next_id) ≡ o → o ≡ None
  none_by None is = refl
  none_by (Some x) is =
      absurd (itself k.next_id ((whole.processes.each (pid k.next_id) x is).number.1))

  pub none_there : map.get k.processes (pid k.next_id) ≡ None
  none_there = none_by (map.get k.processes (pid k.next_id)) refl

  no_maker : (o : Option Maker) → is_some o ≡ false → o ≡ None
  no_maker None e = refl
  no_maker (Some m) e = true_false e

  pub none_made : map.get k.makers (pid k.next_id) ≡ None
  none_made =
      no_maker (map.get k.makers (pid k.next_id)) (whole.makers.same (pid k.next_id) ∙ ap is_some none_there)

module _ (s : System) (k : PlainKernel) (stands : StandsFor s None k) where
  pub below : AreBelow (given_of s) k.next_id
  below v r at = number_below k stands.kernel v (stands.exact.numbers v r at)

  pub unmade : map.get s.conns.makers (pid k.next_id) ≡ None
  unmade =
      ap (λ (makers : Makers). map.get makers (pid k.next_id)) (sym stands.exact.makers)
      ∙ none_made k stands.kernel

  pub room_left : (node : ℕ) → node < length s.kernel.procs.next → k.next_id < LAST_ID
      → slice_index s.kernel.procs.next node < 2 ^ 32
  room_left node there last =
      left_by (slice_index s.kernel.procs.next node) k.next_id (stands.room node there) last
    where
      left_by : (n v : ℕ) → n + (LAST_ID - v) ≤ 2 ^ 32 → v < LAST_ID → n < 2 ^ 32
      left_by n v room low =
          let a : n + (LAST_ID - v) ≤ 2 ^ 32 = room in
          let b : v < LAST_ID = low in
          omega (arith, a, b)

pub room_after : (next : List ℕ) (node v : ℕ) → node < length next → v < LAST_ID → HasRoom v next
    → HasRoom (v + 1) (slice_set next node (slice_index next node + 1))
room_after next node v there last room at low =
    elim (same_or_other nat_cmp_total nat_cmp-IsAntisymmetric at node) [
      | inl here ↦
          subst (λ n. slice_index (slice_set next node (slice_index next node + 1)) n + (LAST_ID - (v + 1))
          ≤ 2 ^ 32) (sym here)
          (more (slice_index (slice_set next node (slice_index next node + 1)) node) (slice_index next node) v
          (get_or-set_same next node (slice_index next node + 1) 0 there) last (room node there))
      | inr differ ↦
          fewer (slice_index (slice_set next node (slice_index next node + 1)) at) (slice_index next at) v
          (get_or-set_other next node at (slice_index next node + 1) 0 differ)
          (room at (subst (λ n. at < n) (length-set next node (slice_index next node + 1)) low))
    ]
  where
    more : (m n v : ℕ) → m ≡ n + 1 → v < LAST_ID → n + (LAST_ID - v) ≤ 2 ^ 32
        → m + (LAST_ID - (v + 1)) ≤ 2 ^ 32
    more m n v is low room =
        let a : n + (LAST_ID - v) ≤ 2 ^ 32 = room in
        let b : v < LAST_ID = low in
        omega (arith, is, a, b)

    fewer : (m n v : ℕ) → m ≡ n → n + (LAST_ID - v) ≤ 2 ^ 32 → m + (LAST_ID - (v + 1)) ≤ 2 ^ 32
    fewer m n v is room = let a : n + (LAST_ID - v) ≤ 2 ^ 32 = room in omega (arith, is, a)
