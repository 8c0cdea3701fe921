-- The kernel's answer to a clone, told with the guest's number, and the tables then.
--     with_number     where there is a number: its pair and its maker stay
--     with_none       where there is none: they are taken out again
use Rattle.std.proofs.Common.{◌≡◌, ℕ, ◌<◌, true, false, List, Option, Some, Result, sym, ap, ◌∙◌, subst}
use Rattle.std.specs.Prelude.{nat_lt, IfOk, OnErr}
use Rattle.std.proofs.lemmas.Result.{IfOk-weaker}
use Rattle.std.specs.FinMap as map
use Rattle.views.specs.Numbers.{Byte, Flags}
use Rattle.sys_abi.specs.declared.cloning.CloneForm.{CloneForm}
use Rattle.sys_abi.specs.declared.identity.VPid.{VPid}
use Rattle.sys_abi.specs.declared.identity.RealPid.{RealPid}
use Rattle.sys_abi.specs.declared.maker.Maker.{Maker}
use Rattle.sys_abi.specs.Clones.{clone_form}
use Rattle.conn_table.specs.declared.table.ConnTable.{ConnTable}
use Rattle.virt_ids.specs.Pairs.{Pairs}
use Rattle.proc_book.specs.Procs.{next_of}
use Rattle.plain_machine.specs.declared.kernel.PlainKernel.{PlainKernel}
use Rattle.plain_machine.specs.Kernel.{is_live}
use Rattle.plain_machine.specs.Rows.Clone.{LAST_ID, clone_row}
use Rattle.host_tables.specs.declared.attempt.Attempt.{Attempt}
use Rattle.host_tables.specs.declared.kernel.Kernel.{Kernel}
use Rattle.host_tables.specs.declared.reply.KernelReply.{KernelReply}
use Rattle.host_tables.specs.declared.system.System.{System}
use Rattle.host_tables.specs.Numbers.{real}
use Rattle.host_tables.specs.Requests.{AreBelow}
use Rattle.host_tables.specs.Serves.{Through, Serves, ByPid, silent}
use Rattle.host_tables.specs.Systems.{given_of}
use Rattle.wrap_names.specs.OfHostProcesses.Forks.{paired_with, IsNext}
use Rattle.wrap_names.specs.Wrapping.{IsWrapped, StandsAfter, is_done}
use Rattle.wrap_makers.specs.Cloning.{maker_in, with_pair, with_maker, without_pair, without_maker, told_as, next_after}
use Rattle.wrap_makers.proofs.CloneRow.{IsCloned, row_cloned}
use Rattle.wrap_makers.proofs.NewNumber.{below}
use Rattle.wrap_makers.proofs.Owed.{is_less, node_there, its_own, last, new_number, new_real, no_maker}
use Rattle.wrap_makers.proofs.Started.{Says, Undone, done_on, undone_on}
use Rattle.wrap_makers.proofs.TakenOut.{pair_out, maker_out}

module _ (s : System) (number : ℕ) (k : PlainKernel) (w : IsWrapped s number k) (p : VPid)
    (flags : Flags) where
  abbrev pub Quiet : System → KernelReply → Type 0
  Quiet s' answered =
      (bytes : List Byte)
      → StandsAfter s' (next_after number answered) k bytes bytes answered (silent (clone_row k p flags))

  module _ (who : RealPid) (paired : map.get s.ids.pids p.0 ≡ Some who) (alive : is_live k p ≡ true)
      (form : CloneForm) (is_form : clone_form flags ≡ Some form) (low : number < LAST_ID) (n : ℕ)
      (n_is : n ≡ next_of s.kernel.procs who.node) (maker : Option Maker)
      (maker_is : maker ≡ maker_in s.conns.makers p form) (ids : Pairs)
      (ids_is : ids ≡ with_pair s.ids number (real who.node n)) (conns : ConnTable)
      (conns_is : conns ≡ with_maker s.conns number maker) where
    cloned : IsCloned k p form flags (clone_row k p flags)
    cloned = row_cloned k p flags w.stands.kernel alive form is_form

    module _ {E : Type 0} (r : Result Attempt E) (new : Kernel)
        (told : IfOk r (λ a. Through s.kernel who (λ g k p. (x : List Byte) → nat_lt k.next_id LAST_ID ≡ true
        → AreBelow g k.next_id
        → Serves (ByPid who) (paired_with who) g s.kernel new x x a (silent (clone_row k p flags)))))
        (answered : KernelReply) (answered_is : answered ≡ told_as number r) where
      says : IfOk r (λ a. Says s number k w p who form flags new a (clone_row k p flags))
      says =
          IfOk-weaker r _ _ (λ a serves x.
          serves (given_of s) k p w.stands.kernel w.stands.tables paired x
          (is_less k.next_id LAST_ID (last s number k w p who paired low)) (below s k w.stands)) told

      pub with_number : IfOk r (IsNext (next_of s.kernel.procs who.node)) → is_done answered ≡ true
          → Quiet (record s { kernel = new; ids = ids; conns = conns }) answered
      with_number next done =
          let x = its_own s number k w p who paired alive in
          subst (λ (ids : Pairs). Quiet (record s { kernel = new; ids = ids; conns = conns }) answered)
          (sym ids_is)
          (subst (λ (conns : ConnTable). Quiet (record s {
            kernel = new;
            ids = with_pair s.ids number (real who.node n);
            conns = conns;
          }) answered) (sym conns_is)
          (subst (Quiet (record s {
            kernel = new;
            ids = with_pair s.ids number (real who.node n);
            conns = with_maker s.conns number maker;
          })) (sym answered_is)
          (done_on s number k w p who form flags new x.0 x.1 (node_there s number k w p who paired) low n n_is
          maker maker_is (new_number s number k w p who paired) (new_real s number k w p who paired n n_is) r
          (clone_row k p flags) cloned says next (ap is_done (sym answered_is) ∙ done))))

      pub with_none : OnErr r (new ≡ s.kernel) → is_done answered ≡ false
          → (ids' : Pairs) (conns' : ConnTable) → ids' ≡ without_pair ids number
          → conns' ≡ without_maker conns number
          → Quiet (record s { kernel = new; ids = ids'; conns = conns' }) answered
      with_none kept none ids' conns' out made_out =
          let undone : Undone s number k w p who form flags new (told_as number r) (clone_row k p flags) =
          undone_on s number k w p who form flags new r (clone_row k p flags) cloned says kept
          (ap is_done (sym answered_is) ∙ none) in
          let same_ids : ids' ≡ s.ids =
          out ∙ ap (λ (i : Pairs). without_pair i number) ids_is
          ∙ pair_out s.ids number (real who.node n) (new_number s number k w p who paired)
          (new_real s number k w p who paired n n_is) in
          let same_conns : conns' ≡ s.conns =
          made_out ∙ ap (λ (t : ConnTable). without_maker t number) conns_is
          ∙ maker_out s.conns number maker (no_maker s number k w p who paired) in
          subst (λ (ids : Pairs). Quiet (record s { kernel = new; ids = ids; conns = conns' }) answered)
          (sym same_ids)
          (subst (λ (conns : ConnTable). Quiet (record s { kernel = new; conns = conns }) answered)
          (sym same_conns)
          (subst (λ (kernel : Kernel). Quiet (record s { kernel = kernel }) answered) (sym undone.0)
          (subst (Quiet s) (sym answered_is) undone.1)))
