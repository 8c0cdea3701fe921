-- A system with one number more stands for the kernel part with one process or thread more.
--     after_it               the system then
--     grown                  it stands, where its kernel does so by the pairs with the new one
use Rattle.std.proofs.Common.{◌≡◌, ℕ, ◌+◌, ◌<◌, Bool, true, false, Option, Some, None, inl, inr, refl, sym, ap, ◌∙◌, subst, length}
use Rattle.std.specs.Prelude.{IsSome, is_some, option_map}
use Rattle.std.specs.Cmp.{nat_cmp_total}
use Rattle.std.specs.FinMap as map
use Rattle.std.specs.FinMap.{nat_cmp-IsAntisymmetric}
use Rattle.views.proofs.MapLaws.{true_false, get_insert_same}
use Rattle.sys_abi.specs.declared.cloning.CloneForm.{CloneForm}
use Rattle.sys_abi.specs.declared.cloning.CloneForm.TheVariants.{Fork, Thread}
use Rattle.sys_abi.specs.declared.identity.VPid.{VPid}
use Rattle.sys_abi.specs.declared.identity.ConnId.{ConnId}
use Rattle.sys_abi.specs.declared.identity.RealPid.{RealPid}
use Rattle.proc_book.specs.Procs.{next_of}
use Rattle.wire_channels.specs.declared.channel.Channel.{Channel}
use Rattle.plain_tables.specs.declared.process.Process.{Process}
use Rattle.plain_tables.specs.Tables.{Makers, pid, has_thread_in, with_thread_entry}
use Rattle.plain_machine.specs.declared.kernel.PlainKernel.{PlainKernel}
use Rattle.plain_machine.specs.Ends.{after_fork}
use Rattle.plain_machine.specs.Kernel.{with_next_thread}
use Rattle.plain_machine.specs.Kernels.{IsKernel}
use Rattle.plain_machine.specs.Rows.Clone.{LAST_ID}
use Rattle.plain_machine.proofs.ChangedProcesses.{changed_here}
use Rattle.plain_machine.proofs.ForkedKernels.{forked_other, forked_child}
use Rattle.host_tables.specs.declared.kernel.Kernel.{Kernel}
use Rattle.host_tables.specs.declared.system.System.{System}
use Rattle.host_tables.specs.Numbers.{real, HasRoom}
use Rattle.host_tables.specs.Stands.{Stands, with_number}
use Rattle.host_tables.specs.Systems.{given_of, AreExact, StandsFor, IsNumber, is_named_in}
use Rattle.host_tables.proofs.MorePairs.{real_was}
use Rattle.wrap_names.proofs.Keeps.{changed_kept, more_signals}
use Rattle.wrap_names.proofs.Kept.{same_ends}
use Rattle.wrap_makers.specs.Cloning.{maker_in, makers_with, with_pair, with_maker}
use Rattle.wrap_makers.proofs.CloneRow.{left_by}
use Rattle.wrap_makers.proofs.NewNumber.{none_there, room_after}

-- tables of which a clone leaves all
record Leaves (k k' : PlainKernel) : Type 0 where
  listeners : k'.listeners ≡ k.listeners
  descriptions : k'.descriptions ≡ k.descriptions
  channels : k'.channels ≡ k.channels
  next : k'.next_id ≡ k.next_id + 1

leaves : (k : PlainKernel) (p : VPid) (form : CloneForm) → Leaves k (left_by k p form)
unfolding after_fork with_next_thread
leaves k p Fork = record { listeners = refl; descriptions = refl; channels = refl; next = refl }
leaves k p Thread = record { listeners = refl; descriptions = refl; channels = refl; next = refl }

pub next_more : (k : PlainKernel) (p : VPid) (form : CloneForm) → (left_by k p form).next_id ≡ k.next_id + 1
next_more k p form = (leaves k p form).next

makers_more : (k : PlainKernel) (p : VPid) (form : CloneForm) (makers : Makers) → k.makers ≡ makers
    → (left_by k p form).makers ≡ makers_with makers k.next_id (maker_in makers p form)
unfolding after_fork with_next_thread
makers_more k p Fork makers is =
    ap (λ (m : Makers). makers_with m k.next_id (maker_in m p Fork)) is
makers_more k p Thread makers is = is

module _ (k : PlainKernel) (p : VPid) (whole : IsKernel k) where
  -- the new number is one
  its_thread : (x : Process) → has_thread_in k.next_id (Some (with_thread_entry k.next_id x)) ≡ true
  its_thread x = ap is_some (get_insert_same nat_cmp_total nat_cmp-IsAntisymmetric x.threads k.next_id 0)

  new_number : (form : CloneForm) (x : Process) → map.get k.processes p ≡ Some x
      → IsNumber (left_by k p form) k.next_id
  unfolding with_next_thread
  new_number Fork x is = inl (ap is_some (forked_child k p))
  new_number Thread x is = inr (
    p,
    ap (has_thread_in k.next_id) (changed_here k.processes p (with_thread_entry k.next_id) x is)
        ∙ its_thread x,
  )

  -- and the others still are
  other_process : (q : VPid) (f : Option Process → Bool) → f None ≡ false → f (map.get k.processes q) ≡ true
      → map.get (after_fork k p).processes q ≡ map.get k.processes q
  other_process q f none has =
      forked_other k p q (λ same.
      true_false (sym has ∙ ap f (ap (map.get k.processes) same ∙ none_there k whole) ∙ none))

  number_still : (form : CloneForm) (v : ℕ) → IsNumber k v → IsNumber (left_by k p form) v
  unfolding with_next_thread
  number_still Fork v is = elim is [
    | inl process ↦ inl (ap is_some (other_process (pid v) is_some refl process) ∙ process)
    | inr thread ↦ inr (
      thread.0,
      ap (has_thread_in v) (other_process thread.0 (has_thread_in v) refl thread.1) ∙ thread.1,
    )
  ]
  number_still Thread v is =
      (changed_kept k p (with_thread_entry k.next_id)
      (λ x t h. more_signals x k.next_id 0 t h)).tables.numbers v is

module _ (s : System) (k : PlainKernel) (stands : StandsFor s None k) (p : VPid) (x : Process)
    (there : map.get k.processes p ≡ Some x) (who : RealPid) (on_node : who.node < length s.kernel.procs.next)
    (form : CloneForm) (last : k.next_id < LAST_ID) (new : Kernel) where
  abbrev pub child : RealPid
  child = real who.node (next_of s.kernel.procs who.node)

  abbrev pub left : PlainKernel
  left = left_by k p form

  abbrev pub after_it : System
  after_it = record s {
    kernel = new;
    ids = with_pair s.ids k.next_id child;
    conns = with_maker s.conns k.next_id (maker_in s.conns.makers p form);
  }

  module _ (new_v : map.get s.ids.pids k.next_id ≡ None) (new_r : map.get s.ids.virts child ≡ None)
      (whole : IsKernel left) (st : Stands (with_number (given_of s) k.next_id child) None new left) where
    given_is : given_of after_it ≡ with_number (given_of s) k.next_id child
    given_is = λ i. record (with_number (given_of s) k.next_id child) { next = st.paired.next_is i }

    numbers : (v : ℕ) (r : RealPid) → map.get after_it.ids.pids v ≡ Some r → IsNumber left v
    numbers v r at =
        elim (real_was s.ids.pids s.ids.virts stands.tables.paired.inverse k.next_id child new_v new_r v r
        at) [
          | inl same ↦ subst (IsNumber left) (sym same.0) (new_number k p stands.kernel form x there)
          | inr other ↦ number_still k p stands.kernel form v (stands.exact.numbers v r other.1)
        ]

    ends_are : (id : ConnId) → option_map (λ (c : Channel). c.open_ends) (map.get s.kernel.net.channels id)
        ≡ option_map (λ (c : Channel). c.open_ends) (map.get new.net.channels id)
    ends_are id =
        same_ends (map.get s.conns.conns id) (map.get s.kernel.net.channels id) (map.get new.net.channels id)
        (stands.tables.channels.listed id) (st.channels.listed id) (stands.tables.channels.sides id)
        (st.channels.sides id)
        (sym (stands.tables.channels.each id)
        ∙ ap (λ channels. map.get channels id) (sym (leaves k p form).channels) ∙ st.channels.each id)

    exact : AreExact after_it left
    exact = record {
      makers = makers_more k p form s.conns.makers stands.exact.makers;
      numbers = numbers;
      places = λ a at is.
          subst (λ listeners. IsSome (map.get listeners a)) (sym (leaves k p form).listeners)
          (stands.exact.places a at is);
      names = λ id a is.
          ap (λ descriptions. is_named_in (map.get descriptions id)) (leaves k p form).descriptions
          ∙ stands.exact.names id a is;
      open_ends = λ id. stands.exact.open_ends id ∙ ends_are id;
      entries = stands.exact.entries;
    }

    pub grown : StandsFor after_it None left
    grown = record {
      kernel = whole;
      tables = subst (λ g. Stands g None new left) (sym given_is) st;
      exact = exact;
      room = subst (λ n. HasRoom n new.procs.next) (sym (leaves k p form).next)
          (subst (HasRoom (k.next_id + 1)) (sym st.paired.next_is)
          (room_after s.kernel.procs.next who.node k.next_id on_node last stands.room));
    }
