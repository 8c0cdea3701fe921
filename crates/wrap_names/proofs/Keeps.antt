-- What a change of a kernel part leaves of what the pairs and the table of channels are about.
--     Keeps k k'             numbers, listeners, names, channels and the next number; KeepsAll: the makers too
--     still, all_still       no change
--     others                 a change of other tables
--     object_kept            another object of a description, with a name of its own or without as before
--     raised_kept            more signals that are pending
use Rattle.std.proofs.Common.{◌≡◌, ℕ, Bool, true, false, Option, Some, None, inl, inr, refl, sym, ap, ◌∙◌, subst}
use Rattle.std.specs.Prelude.{IsSome, is_some}
use Rattle.std.specs.Cmp.{nat_cmp_total}
use Rattle.std.specs.FinMap as map
use Rattle.std.specs.FinMap.{nat_cmp-IsAntisymmetric}
use Rattle.views.proofs.MapLaws.{true_false, same_or_other, get_insert_same, get_insert_other}
use Rattle.sys_abi.specs.declared.identity.VPid.{VPid}
use Rattle.sys_abi.specs.declared.identity.DescId.{DescId}
use Rattle.sys_abi.specs.declared.identity.VirtAddr.{VirtAddr}
use Rattle.sys_abi.specs.Signals.{with_signal}
use Rattle.sys_abi.proofs.OrderLaws.{vpid_total, vpid_exact, desc_total, desc_exact}
use Rattle.plain_tables.specs.declared.description.Description.{Description}
use Rattle.plain_tables.specs.declared.process.Process.{Process}
use Rattle.plain_tables.specs.Tables.{Processes, Descriptors, Descriptions, Names, Files, Directions, Inboxes, pid, changed_at, has_thread_in, with_signals, signals_of, raised_at, raised_for_all}
use Rattle.plain_machine.specs.declared.kernel.PlainKernel.{PlainKernel}
use Rattle.plain_machine.specs.Kernel.{after_raise, after_raise_for_all, with_description}
use Rattle.plain_machine.proofs.ChangedProcesses.{changed_here, changed_other}
use Rattle.host_streams.specs.OfHostTables.Systems.{IsNumber, has_own_name, is_named_in}

pub record Keeps (k k' : PlainKernel) : Type 0 where
  pub numbers : (v : ℕ) → IsNumber k v → IsNumber k' v
  pub places : (a : VirtAddr) → IsSome (map.get k.listeners a) → IsSome (map.get k'.listeners a)
  pub names : (id : DescId) → is_named_in (map.get k.descriptions id) ≡ true
      → is_named_in (map.get k'.descriptions id) ≡ true
  pub channels : k'.channels ≡ k.channels
  pub next : k'.next_id ≡ k.next_id

-- where nothing is made
pub record KeepsAll (k k' : PlainKernel) : Type 0 where
  pub tables : Keeps k k'
  pub makers : k'.makers ≡ k.makers

pub still : (k : PlainKernel) → Keeps k k
still k = record {
  numbers = λ v h. h;
  places = λ a h. h;
  names = λ id h. h;
  channels = refl;
  next = refl;
}

pub all_still : (k : PlainKernel) → KeepsAll k k
all_still k = record { tables = still k; makers = refl }

-- other tables
pub others : (k : PlainKernel) (descriptors : Descriptors) (names : Names) (files : Files) (directions : Directions)
    (inboxes : Inboxes) → KeepsAll k (record k {
      descriptors = descriptors;
      names = names;
      files = files;
      directions = directions;
      inboxes = inboxes;
    })
others k descriptors names files directions inboxes = record {
  tables = record {
    numbers = λ v h. h;
    places = λ a h. h;
    names = λ id h. h;
    channels = refl;
    next = refl;
  };
  makers = refl;
}

-- descriptions
module _ (m : Descriptions) (id : DescId) (x x' : Description) (there : map.get m id ≡ Some x)
    (same : has_own_name x.object ≡ true → has_own_name x'.object ≡ true) where
  pub named_still : (q : DescId) → is_named_in (map.get m q) ≡ true
      → is_named_in (map.get (map.insert m id x') q) ≡ true
  named_still q h = elim (same_or_other desc_total desc_exact q id) [
    | inl here ↦
        ap is_named_in (ap (map.get (map.insert m id x')) here ∙ get_insert_same desc_total desc_exact m id x')
        ∙ same (sym (ap is_named_in (ap (map.get m) here ∙ there)) ∙ h)
    | inr differ ↦ ap is_named_in (get_insert_other desc_total desc_exact m id x' q differ) ∙ h
  ]

pub object_kept : (k : PlainKernel) (files : Files) (id : DescId) (x x' : Description)
    → map.get k.descriptions id ≡ Some x → (has_own_name x.object ≡ true → has_own_name x'.object ≡ true)
    → KeepsAll k (record (with_description k id x') { files = files })
object_kept k files id x x' there same = record {
  tables = record {
    numbers = λ v h. h;
    places = λ a h. h;
    names = named_still k.descriptions id x x' there same;
    channels = refl;
    next = refl;
  };
  makers = refl;
}

-- processes with as many threads, or more
module _ (m : Processes) (p : VPid) (change : Process → Process)
    (more : (x : Process) (t : ℕ) → is_some (map.get x.threads t) ≡ true
    → is_some (map.get (change x).threads t) ≡ true) where
  here_by : (o : Option Process) → map.get m p ≡ o → (f : Option Process → Bool) → f None ≡ false
      → ((x : Process) → f (Some x) ≡ true → f (Some (change x)) ≡ true)
      → f (map.get m p) ≡ true → f (map.get (changed_at m p change) p) ≡ true
  here_by None e f none keeps h = true_false (sym h ∙ ap f e ∙ none)
  here_by (Some x) e f none keeps h = ap f (changed_here m p change x e) ∙ keeps x (sym (ap f e) ∙ h)

  pub test_still : (f : Option Process → Bool) → f None ≡ false
      → ((x : Process) → f (Some x) ≡ true → f (Some (change x)) ≡ true)
      → (q : VPid) → f (map.get m q) ≡ true → f (map.get (changed_at m p change) q) ≡ true
  test_still f none keeps q h = elim (same_or_other vpid_total vpid_exact q p) [
    | inl here ↦
        subst (λ r. f (map.get (changed_at m p change) r) ≡ true) (sym here)
        (here_by (map.get m p) refl f none keeps (sym (ap (λ r. f (map.get m r)) here) ∙ h))
    | inr differ ↦ ap f (changed_other m p change q differ) ∙ h
  ]

pub changed_kept : (k : PlainKernel) (p : VPid) (change : Process → Process)
    → ((x : Process) (t : ℕ) → is_some (map.get x.threads t) ≡ true
    → is_some (map.get (change x).threads t) ≡ true)
    → KeepsAll k (record k { processes = changed_at k.processes p change })
changed_kept k p change more = record {
  tables = record {
    numbers = λ v h. elim h [
      | inl process ↦ inl (test_still k.processes p change more is_some refl (λ x e. refl) (pid v) process)
      | inr thread ↦ inr (
        thread.0,
        test_still k.processes p change more (has_thread_in v) refl (λ x e. more x v e) thread.0 thread.1,
      )
    ];
    places = λ a h. h;
    names = λ id h. h;
    channels = refl;
    next = refl;
  };
  makers = refl;
}

pub more_signals : (x : Process) (u signals t : ℕ) → is_some (map.get x.threads t) ≡ true
    → is_some (map.get (with_signals x u signals).threads t) ≡ true
more_signals x u signals t h = elim (same_or_other nat_cmp_total nat_cmp-IsAntisymmetric t u) [
  | inl here ↦
      ap is_some (ap (map.get (map.insert x.threads u signals)) here
      ∙ get_insert_same nat_cmp_total nat_cmp-IsAntisymmetric x.threads u signals)
  | inr differ ↦
      ap is_some (get_insert_other nat_cmp_total nat_cmp-IsAntisymmetric x.threads u signals t differ) ∙ h
]

pub raised_kept : (k : PlainKernel) (p : VPid) (t s : ℕ) → KeepsAll k (after_raise k p t s)
unfolding after_raise
raised_kept k p t s =
    changed_kept k p (raised_at t s)
    (λ x u h. more_signals x t (with_signal (signals_of t x) s) u h)

pub raised_for_all_kept : (k : PlainKernel) (p : VPid) (s : ℕ) → KeepsAll k (after_raise_for_all k p s)
unfolding after_raise_for_all
raised_for_all_kept k p s = changed_kept k p (raised_for_all s) (λ x u h. h)
