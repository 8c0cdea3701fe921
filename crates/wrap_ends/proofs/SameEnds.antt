-- What a process leaves does not depend on its threads, nor on its zombies, which go with it.
--     EndsAlike k m makers p      other processes and makers that come to the same
--     same_end                    what the process then leaves is the same
use Rattle.std.proofs.Common.{◌≡◌, ◌≢◌, ℕ, Bool, true, false, cond, Option, Some, None, inl, inr, refl, sym, ap, ◌∙◌}
use Rattle.std.specs.Prelude.{◌==◌, ◌&&◌, not, is_some, option_map}
use Rattle.std.specs.FinMap as map
use Rattle.views.specs.Maps.{option_filter}
use Rattle.views.proofs.MapLaws.{get-retain, same_or_other, get_remove_same, get_remove_other}
use Rattle.sys_abi.specs.declared.identity.VPid.{VPid}
use Rattle.sys_abi.specs.declared.life.Life.TheVariants.{Zombie}
use Rattle.sys_abi.specs.declared.signals.TheConstants.{SIGCHLD}
use Rattle.sys_abi.specs.Lives.{lives}
use Rattle.sys_abi.proofs.OrderLaws.{vpid_total, vpid_exact}
use Rattle.plain_tables.specs.declared.process.Process.{Process}
use Rattle.plain_tables.specs.Ends.{is_child_of, is_zombie_child, orphan, orphaned, makers_of, zombie}
use Rattle.plain_tables.specs.Tables.{NOBODY, Processes, Makers, pid, is_live_process, changed_at, changed_by, raised_for_all}
use Rattle.plain_tables.proofs.Changes.{changed_here, changed_other}
use Rattle.plain_tables.proofs.Orphans.{look_up, orphan_life}
use Rattle.plain_machine.specs.declared.kernel.PlainKernel.{PlainKernel}
use Rattle.plain_machine.specs.Ends.{without_owner, without_children, with_zombie, left_to, left_by}
use Rattle.plain_machine.specs.Kernel.{is_live, without_process, after_raise_for_all}
use Rattle.wrap_names.specs.OfHostProcesses.Leaves.{after_leave}

abbrev pub left_of : VPid → Option Process → Option Process
left_of p o = option_map (orphan p) (option_filter (λ x. not (is_zombie_child p x)) o)

pub record EndsAlike (k : PlainKernel) (m : Processes) (makers : Makers) (p : VPid) : Type 0 where
  pub own : Process
  pub own_now : Process
  pub there : map.get k.processes p ≡ Some own
  pub there_now : map.get m p ≡ Some own_now
  pub parent : own_now.parent ≡ own.parent
  pub alive : lives own.life ≡ true
  pub alive_now : lives own_now.life ≡ true
  pub others : (u : VPid) → u ≢ p → left_of p (map.get m u) ≡ left_of p (map.get k.processes u)
  pub made : (u : VPid) → is_some (map.get (orphaned p k.processes) u) ≡ true
      → map.get makers u ≡ map.get k.makers u

-- a process's own entry
no_zombie : (a b : Bool) → b ≡ true → (a && not b) ≡ false
no_zombie a b alive = by_child a
  where
    by_child : (a : Bool) → (a && not b) ≡ false
    by_child true = ap not alive
    by_child false = refl

orphan_here : (p : VPid) (m : Processes) (x : Process) → map.get m p ≡ Some x → lives x.life ≡ true
    → map.get (orphaned p m) p ≡ Some (orphan p x)
orphan_here p m x there alive =
    look_up p m p ∙ ap (left_of p) there
    ∙ ap (λ b. option_map (orphan p) (cond (not b) (Some x) None))
    (no_zombie (is_child_of p x) (lives x.life) alive)

abbrev parent_by : VPid → ℕ → ℕ
parent_by p n = cond (n == p.0) NOBODY n

orphan_parent : (p : VPid) (x : Process) → (orphan p x).parent ≡ parent_by p x.parent
orphan_parent p x = by_child (is_child_of p x)
  where
    by_child : (b : Bool) → (cond b (record x { parent = NOBODY }) x).parent ≡ cond b NOBODY x.parent
    by_child true = refl
    by_child false = refl

changed_look : (m : Processes) (n : VPid) (f : Process → Process)
    → map.get (changed_at m n f) n ≡ option_map f (map.get m n)
changed_look m n f = by_found (map.get m n) refl
  where
    by_found : (o : Option Process) → map.get m n ≡ o → map.get (changed_at m n f) n ≡ option_map f o
    by_found None e = ap (λ o. map.get (changed_by m n f o) n) e ∙ e
    by_found (Some x) e = changed_here vpid_total vpid_exact m n f x e

-- an entry of a map, of which only the parent counts
record HasParent (m : Processes) (p : VPid) (parent : ℕ) : Type 0 where
  entry : Process
  there : map.get m p ≡ Some entry
  parent_is : entry.parent ≡ parent

raised_parent : (m : Processes) (p n : VPid) (x : Process) → map.get m p ≡ Some x → (parent : ℕ)
    → x.parent ≡ parent → HasParent (changed_at m n (raised_for_all SIGCHLD)) p parent
raised_parent m p n x there parent is = elim (same_or_other vpid_total vpid_exact p n) [
  | inl here ↦ record {
    entry = raised_for_all SIGCHLD x;
    there = ap (map.get (changed_at m n (raised_for_all SIGCHLD))) here
        ∙ changed_here vpid_total vpid_exact m n (raised_for_all SIGCHLD) x
        (ap (map.get m) (sym here) ∙ there);
    parent_is = is;
  }
  | inr differ ↦ record {
    entry = x;
    there = changed_other vpid_total vpid_exact m n (raised_for_all SIGCHLD) p differ ∙ there;
    parent_is = is;
  }
]

zombie_by : (status : ℕ) (x y : Process) (parent : ℕ) → x.parent ≡ parent → y.parent ≡ parent
    → zombie status x ≡ zombie status y
zombie_by status x y parent e f =
    let same = e ∙ sym f in
    λ i. record { parent = same i; life = Zombie status; pending = 0; threads = map.empty }

module _ (k : PlainKernel) (m : Processes) (makers : Makers) (p : VPid) (alike : EndsAlike k m makers p) where
  abbrev old : Processes
  old = orphaned p k.processes

  abbrev new : Processes
  new = orphaned p m

  other : (u : VPid) → u ≢ p → map.get new u ≡ map.get old u
  other u differ = look_up p m u ∙ alike.others u differ ∙ sym (look_up p k.processes u)

  old_here : map.get old p ≡ Some (orphan p alike.own)
  old_here = orphan_here p k.processes alike.own alike.there alike.alive

  new_here : map.get new p ≡ Some (orphan p alike.own_now)
  new_here = orphan_here p m alike.own_now alike.there_now alike.alive_now

  abbrev its_parent : ℕ
  its_parent = parent_by p alike.own.parent

  new_parent : (orphan p alike.own_now).parent ≡ its_parent
  new_parent = orphan_parent p alike.own_now ∙ ap (parent_by p) alike.parent

  -- a test of an entry that tells of the process itself alike
  tested : {A : Type 0} (f : Option Process → A) → f (Some (orphan p alike.own_now)) ≡ f
      (Some (orphan p alike.own))
      → (u : VPid) → f (map.get new u) ≡ f (map.get old u)
  tested f own u = elim (same_or_other vpid_total vpid_exact u p) [
    | inl here ↦
        ap (λ v. f (map.get new v)) here ∙ ap f new_here ∙ own ∙ sym (ap f old_here)
        ∙ ap (λ v. f (map.get old v)) (sym here)
    | inr differ ↦ ap f (other u differ)
  ]

  there_is : (u : VPid) → is_some (map.get new u) ≡ is_some (map.get old u)
  there_is u = tested is_some refl u

  lives_is : (u : VPid) → is_live_process (map.get new u) ≡ is_live_process (map.get old u)
  lives_is u =
      tested is_live_process
      (ap lives (orphan_life p alike.own_now) ∙ alike.alive_now ∙ sym alike.alive
      ∙ sym (ap lives (orphan_life p alike.own))) u

  maker_by : (u : VPid) (b : Bool) → is_some (map.get old u) ≡ b
      → cond b (map.get makers u) None ≡ cond b (map.get k.makers u) None
  maker_by u true e = alike.made u e
  maker_by u false e = refl

  makers_are : makers_of new makers ≡ makers_of old k.makers
  makers_are =
      map.same_map vpid_total vpid_exact _ _ (λ u.
      get-retain vpid_total vpid_exact makers (λ q. is_some (map.get new q)) u
      ∙ ap (λ b. cond b (map.get makers u) None) (there_is u) ∙ maker_by u (is_some (map.get old u)) refl
      ∙ sym (get-retain vpid_total vpid_exact k.makers (λ q. is_some (map.get old q)) u))

  without_are : map.remove new p ≡ map.remove old p
  without_are =
      map.same_map vpid_total vpid_exact _ _ (λ u.
      elim (same_or_other vpid_total vpid_exact u p) [
        | inl here ↦
            ap (map.get (map.remove new p)) here ∙ get_remove_same vpid_total vpid_exact new p
            ∙ sym (ap (map.get (map.remove old p)) here ∙ get_remove_same vpid_total vpid_exact old p)
        | inr differ ↦
            get_remove_other vpid_total vpid_exact new p u differ ∙ other u differ
            ∙ sym (get_remove_other vpid_total vpid_exact old p u differ)
      ])

  -- its parent hears
  module _ (n : VPid) (status : ℕ) where
    abbrev raised : Processes → Processes
    raised o = changed_at o n (raised_for_all SIGCHLD)

    raised_are : (u : VPid) → u ≢ p → map.get (raised new) u ≡ map.get (raised old) u
    raised_are u differ = elim (same_or_other vpid_total vpid_exact u n) [
      | inl here ↦
          ap (map.get (raised new)) here ∙ changed_look new n (raised_for_all SIGCHLD)
          ∙ ap (λ v. option_map (raised_for_all SIGCHLD) (map.get new v)) (sym here)
          ∙ ap (option_map (raised_for_all SIGCHLD)) (other u differ)
          ∙ ap (λ v. option_map (raised_for_all SIGCHLD) (map.get old v)) here
          ∙ sym (ap (map.get (raised old)) here ∙ changed_look old n (raised_for_all SIGCHLD))
      | inr apart ↦
          changed_other vpid_total vpid_exact new n (raised_for_all SIGCHLD) u apart ∙ other u differ
          ∙ sym (changed_other vpid_total vpid_exact old n (raised_for_all SIGCHLD) u apart)
    ]

    zombie_here : map.get (changed_at (raised new) p (zombie status)) p
        ≡ map.get (changed_at (raised old) p (zombie status)) p
    zombie_here =
        let x = raised_parent new p n (orphan p alike.own_now) new_here its_parent new_parent in
        let y = raised_parent old p n (orphan p alike.own) old_here its_parent (orphan_parent p alike.own) in
        changed_here vpid_total vpid_exact (raised new) p (zombie status) x.entry x.there
        ∙ ap Some (zombie_by status x.entry y.entry its_parent x.parent_is y.parent_is)
        ∙ sym (changed_here vpid_total vpid_exact (raised old) p (zombie status) y.entry y.there)

    zombies_are : changed_at (raised new) p (zombie status) ≡ changed_at (raised old) p (zombie status)
    zombies_are =
        map.same_map vpid_total vpid_exact _ _ (λ u.
        elim (same_or_other vpid_total vpid_exact u p) [
          | inl here ↦
              ap (map.get (changed_at (raised new) p (zombie status))) here ∙ zombie_here
              ∙ ap (map.get (changed_at (raised old) p (zombie status))) (sym here)
          | inr differ ↦
              changed_other vpid_total vpid_exact (raised new) p (zombie status) u differ
              ∙ raised_are u differ
              ∙ sym (changed_other vpid_total vpid_exact (raised old) p (zombie status) u differ)
        ])

  abbrev pub k' : PlainKernel
  k' = record k { processes = m; makers = makers }

  abbrev childless : PlainKernel → PlainKernel
  childless k = without_children (without_owner k p) p

  either : (status : ℕ) (n : VPid) (b : Bool)
      → cond b (with_zombie (after_raise_for_all (childless k') n SIGCHLD) p status)
      (without_process p (childless k'))
      ≡ cond b (with_zombie (after_raise_for_all (childless k) n SIGCHLD) p status)
      (without_process p (childless k))
  unfolding after_raise_for_all
  either status n true =
      λ i. record (childless k) { processes = zombies_are n status i; makers = makers_are i }
  either status n false =
      λ i. record (childless k) { processes = without_are i; makers = map.remove (makers_are i) p }

  left_alike : (status : ℕ) (n : VPid) → left_to (childless k') p status n ≡ left_to (childless k) p status n
  unfolding is_live
  left_alike status n =
      ap (λ b. cond b (with_zombie (after_raise_for_all (childless k') n SIGCHLD) p status)
      (without_process p (childless k'))) (lives_is n)
      ∙ either status n (is_live_process (map.get old n))

  pub same_end : (status : ℕ) → after_leave k' p status ≡ after_leave k p status
  same_end status =
      ap (left_by (childless k') p status) alike.there_now
      ∙ ap (λ n. left_to (childless k') p status (pid n)) alike.parent
      ∙ left_alike status (pid alike.own.parent)
      ∙ sym (ap (left_by (childless k) p status) alike.there)
