-- What look-ups find through the pairs: descriptors and their descriptions, free numbers, processes.
--     leads, at_slot               the descriptor of a process
--     held_none, held_some         what a descriptor leads to
--     free_none, free_some         the least free number
--     process_of, lives_of         a process, and whether it lives
use Rattle.std.proofs.Common.{◌≡◌, ◌≢◌, ℕ, zero, suc, ◌+◌, ◌-◌, ◌<◌, ◌≤◌, false, cond, Option, Some, None, refl, sym, ap, ◌∙◌, arith}
use Rattle.std.specs.Prelude.{option_map, is_some, IsSome}
use Rattle.std.specs.Option.{option_map_or}
use Rattle.std.specs.FinMap as map
use Rattle.std.proofs.lemmas.Option.{none-some}
use Rattle.views.specs.Limits.{DESCRIPTOR_LIMIT}
use Rattle.views.specs.Seen.{Agree}
use Rattle.views.proofs.MapLaws.{true_false}
use Rattle.views.proofs.Seen.{agree_same, agree_found, agree_real}
use Rattle.sys_abi.specs.declared.identity.VPid.{VPid}
use Rattle.sys_abi.specs.declared.identity.RealPid.{RealPid}
use Rattle.sys_abi.specs.declared.descriptor.Descriptor.{Descriptor}
use Rattle.sys_abi.specs.declared.errors.TheConstants.{EBADF, EMFILE}
use Rattle.sys_abi.specs.Lives.{lives}
use Rattle.fd_tables.specs.declared.description.Desc.{Desc}
use Rattle.fd_tables.specs.Slots as slots
use Rattle.fd_tables.specs.Numbers.{AllUsed, IsLowestFree}
use Rattle.proc_book.specs.declared.process.Process as real_process
use Rattle.proc_book.specs.Ends.{is_live_at}
use Rattle.plain_machine.specs.OfPlainTables.declared.process.Process.{Process}
use Rattle.plain_machine.specs.OfPlainTables.Tables.{Descriptors, slot, is_live_process}
use Rattle.plain_machine.specs.OfPlainProcess.Attempts.{Try, Fails, Gives, and_then, found}
use Rattle.plain_machine.specs.declared.kernel.PlainKernel.{PlainKernel}
use Rattle.plain_machine.specs.Kernel.{Held, held, free_among, free_from, is_live}
use Rattle.host_tables.specs.declared.kernel.Kernel.{Kernel}
use Rattle.host_tables.specs.Numbers.{Pids, Virts}
use Rattle.host_tables.specs.Processes.{RealDescriptors, SameDescriptors, SameProcess, to_slot}
use Rattle.host_tables.specs.Descriptions.{seen_desc}
use Rattle.host_tables.specs.Stands.{Given, Stands}

pub some_value : {X : Type 0} (o : Option X) → IsSome o → (x : X) × (o ≡ Some x)
some_value None h = true_false (sym h)
some_value (Some x) h = (x, refl)

module _ (pids : Pids) (virts : Virts) (real : RealDescriptors) (virt : Descriptors)
    (same : SameDescriptors pids virts virt real) (p : VPid) (r : RealPid)
    (paired : map.get pids p.0 ≡ Some r) where
  pub leads : (fd : ℕ) → to_slot pids (slot p fd) ≡ Some (slots.slot r fd)
  leads fd = ap (option_map (λ x. slots.slot x fd)) paired

  pub at_slot : (fd : ℕ) → map.get virt (slot p fd) ≡ map.get real (slots.slot r fd)
  at_slot fd = agree_same _ _ (same.at (slot p fd) (slots.slot r fd) (leads fd))

  by_slot : (from n : ℕ) (o : Option Descriptor) → map.get real (slots.slot r from) ≡ o
      → free_among virt p from (suc n) ≡ cond (is_some o) (free_among virt p (from + 1) n) (Some from)
  unfolding free_among
  by_slot from n o is =
      ap (λ x. cond (is_some x) (free_among virt p (from + 1) n) (Some from)) (at_slot from ∙ is)

  none_free : (n from : ℕ) → from + n ≡ DESCRIPTOR_LIMIT → AllUsed real r from → free_among virt p from n ≡ None
  unfolding free_among
  none_free zero from e used = refl
  none_free (suc n) from e used =
      let d = some_value (map.get real (slots.slot r from)) (used from (omega arith) (omega (arith, e))) in
      by_slot from n (Some d.0) d.1
      ∙ none_free n (from + 1) (omega (arith, e)) (λ fd above below. used fd (omega (arith, above)) below)

  lowest_free : (n from fd : ℕ) → from + n ≡ DESCRIPTOR_LIMIT → IsLowestFree real r from fd
      → free_among virt p from n ≡ Some fd
  lowest_free zero from fd e lowest = absurd (below from fd e lowest.from_on lowest.in_range)
    where
      below : (from fd : ℕ) → from + 0 ≡ DESCRIPTOR_LIMIT → from ≤ fd → fd < DESCRIPTOR_LIMIT → ⊥
      below from fd e h l = omega (arith, e, h, l)
  lowest_free (suc n) from fd e lowest = by_found (map.get real (slots.slot r from)) refl
      (λ differ. lowest_free n (from + 1) fd (omega (arith, e)) (record {
        free = lowest.free;
        from_on = above from fd lowest.from_on differ;
        in_range = lowest.in_range;
        lowest = λ lower from_on less. lowest.lowest lower (omega (arith, from_on)) less;
      }))
    where
      above : (from fd : ℕ) → from ≤ fd → from ≢ fd → from + 1 ≤ fd
      above from fd h differ = omega (arith, h, differ)

      not_below : (from fd : ℕ) → from ≤ fd → (from < fd → ⊥) → from ≡ fd
      not_below from fd h differ = grind arith

      by_found : (o : Option Descriptor) → map.get real (slots.slot r from) ≡ o
          → (from ≢ fd → free_among virt p (from + 1) n ≡ Some fd) → free_among virt p from (suc n) ≡ Some fd
      by_found None is later =
          by_slot from n None is
          ∙ ap Some (not_below from fd lowest.from_on
          (λ less. true_false (sym (lowest.lowest from (omega arith) less) ∙ ap is_some is)))
      by_found (Some d) is later =
          by_slot from n (Some d) is
          ∙ later (λ same. none-some d (sym (ap (λ x. map.get real (slots.slot r x)) same ∙ lowest.free) ∙ is))

module _ (g : Given) (real : Kernel) (k : PlainKernel) (st : Stands g None real k) (p : VPid) (r : RealPid)
    (paired : map.get g.pids p.0 ≡ Some r) where
  slot_is : (fd : ℕ) → map.get k.descriptors (slot p fd) ≡ map.get real.book.descriptors (slots.slot r fd)
  slot_is fd = at_slot g.pids g.virts real.book.descriptors k.descriptors st.descriptors p r paired fd

  abbrev described : Descriptor → Try Held
  described d = and_then (found (map.get k.descriptions d.desc) EBADF)
      (λ x. Gives (record { desc = d.desc; cloexec = d.cloexec; description = x }))

  pub held_none : (fd : ℕ) → map.get real.book.descriptors (slots.slot r fd) ≡ None → held k p fd ≡ Fails EBADF
  unfolding held and_then found
  held_none fd is = ap (λ o. and_then (found o EBADF) described) (slot_is fd ∙ is)

  pub held_some : (fd : ℕ) (d : Descriptor) (x : Desc)
      → map.get real.book.descriptors (slots.slot r fd) ≡ Some d
      → map.get real.book.descriptions d.desc ≡ Some x → held k p fd ≡ Gives (record {
        desc = d.desc;
        cloexec = d.cloexec;
        description = seen_desc g.virts g.names real.datagrams None d.desc x;
      })
  unfolding held and_then found
  held_some fd d x is there =
      ap (λ o. and_then (found o EBADF) described) (slot_is fd ∙ is)
      ∙ ap (λ o. and_then (found o EBADF) (λ x. Gives (record {
        desc = d.desc;
        cloexec = d.cloexec;
        description = x;
      })))
      (st.descriptions.each d.desc
      ∙ ap (option_map (seen_desc g.virts g.names real.datagrams None d.desc)) there)

  pub free_none : (from : ℕ) → from ≤ DESCRIPTOR_LIMIT → AllUsed real.book.descriptors r from
      → free_from k p from ≡ Fails EMFILE
  unfolding free_from found
  free_none from h used =
      ap (λ o. found o EMFILE)
      (none_free g.pids g.virts _ _ st.descriptors p r paired (DESCRIPTOR_LIMIT - from) from (omega (arith, h)) used)

  pub free_some : (from fd : ℕ) → from ≤ DESCRIPTOR_LIMIT → IsLowestFree real.book.descriptors r from fd
      → free_from k p from ≡ Gives fd
  unfolding free_from found
  free_some from fd h lowest =
      ap (λ o. found o EMFILE)
      (lowest_free g.pids g.virts _ _ st.descriptors p r paired (DESCRIPTOR_LIMIT - from) from fd (omega (arith, h)) lowest)

  -- the process itself
  pub process_of : (y : real_process.Process) → map.get real.procs.processes r ≡ Some y
      → (x : Process) × ((map.get k.processes p ≡ Some x) × SameProcess g.pids g.virts p r x y)
  process_of y is = agree_real (SameProcess g.pids g.virts p r) _ _ y (st.processes.at p r paired) is

  pub real_process_of : (x : Process) → map.get k.processes p ≡ Some x
      → (y : real_process.Process) × ((map.get real.procs.processes r ≡ Some y) × SameProcess g.pids g.virts p r x y)
  real_process_of x is = agree_found (SameProcess g.pids g.virts p r) _ _ x (st.processes.at p r paired) is

  same_life : (o : Option Process) (q : Option real_process.Process) → Agree (SameProcess g.pids g.virts p r) o q
      → is_live_process o ≡ option_map_or (λ y. lives y.life) q false
  same_life None None h = refl
  same_life None (Some y) h = absurd h
  same_life (Some x) None h = absurd h
  same_life (Some x) (Some y) h = ap lives h.life

  pub lives_of : is_live k p ≡ is_live_at real.procs.processes r
  unfolding is_live
  lives_of = same_life (map.get k.processes p) (map.get real.procs.processes r) (st.processes.at p r paired)
