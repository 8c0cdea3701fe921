-- The next numbers of a process are nobody's, in the kernel and in the table of channels.
--     free_desc, free_conn       of no description, and of no channel, of the kernel
--     free_name, free_entry      of none of the table
--     fresh_channel, fresh_pair  what the kernel asks of those that a call takes
use Rattle.std.proofs.Common.{◌≡◌, ◌≢◌, ℕ, ◌+◌, ◌≤◌, Bool, true, false, cond, Option, Some, None, refl, sym, ap, ◌∙◌, arith}
use Rattle.std.specs.Prelude.{option_map}
use Rattle.std.specs.FinMap as map
use Rattle.std.proofs.lemmas.Option.{none-some}
use Rattle.views.proofs.MapLaws.{true_false}
use Rattle.sys_abi.specs.declared.identity.VPid.{VPid}
use Rattle.sys_abi.specs.declared.identity.DescId.{DescId}
use Rattle.sys_abi.specs.declared.identity.VirtAddr.{VirtAddr}
use Rattle.conn_table.specs.declared.conn.Conn.{Conn}
use Rattle.plain_tables.specs.declared.channel.Channel as plain
use Rattle.plain_machine.specs.declared.kernel.PlainKernel.{PlainKernel}
use Rattle.plain_machine.specs.Kernel.{is_live, made_of}
use Rattle.plain_machine.specs.Making.{desc_id, conn_id}
use Rattle.plain_machine.proofs.MadeNumbers.{maker_of, made_is}
use Rattle.wire_channels.specs.declared.channel.Channel.{Channel}
use Rattle.host_tables.specs.declared.system.System.{System}
use Rattle.host_tables.specs.Conditions.{IsNewDesc, AreNewEnds, AreNewChannel, AreNewPair}
use Rattle.host_tables.specs.Descriptions.{seen_desc}
use Rattle.host_tables.specs.Systems.{is_named_in}
use Rattle.wrap_names.specs.Wrapping.{IsWrapped}
use Rattle.wrap_makers.specs.Making.{three_ids, two_ids}
use Rattle.wrap_makers.proofs.EndRows.{unmade}
use Rattle.wrap_makers.proofs.OpenEnds.{ends_of, told_ends}

-- what is not there after a change is not there
absent : {A B : Type 0} (f : A → B) (o : Option A) → option_map f o ≡ None → o ≡ None
absent f None e = refl
absent f (Some a) e = absurd (none-some (f a) (sym e))

module _ (s : System) (next_id : ℕ) (k : PlainKernel) (w : IsWrapped s next_id k) (p : VPid)
    (alive : is_live k p ≡ true) where
  module _ (num : ℕ) (from : made_of k p ≤ num) where
    no_desc : map.get k.descriptions (desc_id p num) ≡ None
    no_desc = unmade k p w.stands.kernel alive num from (map.get k.descriptions (desc_id p num)) refl

    pub free_desc : map.get s.kernel.book.descriptions (desc_id p num) ≡ None
    free_desc =
        absent (seen_desc s.ids.virts s.conns.names s.kernel.datagrams None (desc_id p num))
        (map.get s.kernel.book.descriptions (desc_id p num))
        (sym (w.stands.tables.descriptions.each (desc_id p num)) ∙ no_desc)

    name_by : (o : Option VirtAddr) → map.get s.conns.names (desc_id p num) ≡ o → o ≡ None
    name_by None is = refl
    name_by (Some a) is =
        true_false (sym (w.stands.exact.names (desc_id p num) a is) ∙ ap is_named_in no_desc)

    pub free_name : map.get s.conns.names (desc_id p num) ≡ None
    free_name = name_by (map.get s.conns.names (desc_id p num)) refl

    no_channel : (o : Option plain.Channel) → map.get k.channels (conn_id p num) ≡ o → o ≡ None
    unfolding is_live
    no_channel None is = refl
    no_channel (Some x) is =
        let made = w.stands.kernel.made.joined (conn_id p num) x is in
        let m = maker_of k w.stands.kernel p alive in
        let less = made.below m.0 m.1 alive in
        let same : made_of k p ≡ m.0.made = made_is k w.stands.kernel p alive in
        absurd (omega (arith, less, same, from))

    pub free_conn : map.get s.kernel.net.channels (conn_id p num) ≡ None
    free_conn =
        absent (λ (x : Channel). x.open_ends) (map.get s.kernel.net.channels (conn_id p num))
        (told_ends _ s.kernel k w.stands.tables (conn_id p num)
        ∙ ap (option_map ends_of) (no_channel (map.get k.channels (conn_id p num)) refl))

    pub free_entry : map.get s.conns.conns (conn_id p num) ≡ None
    free_entry =
        absent (λ (x : Conn). x.open_ends) (map.get s.conns.conns (conn_id p num))
        (w.stands.exact.open_ends (conn_id p num)
        ∙ ap (option_map (λ (x : Channel). x.open_ends)) free_conn)

  new_ends : (a b : ℕ) → made_of k p ≤ a → made_of k p ≤ b → a ≢ b
      → AreNewEnds s.kernel.book (desc_id p a) (desc_id p b)
  new_ends a b from_a from_b differ = record {
    first_new = free_desc a from_a;
    second_new = free_desc b from_b;
    apart = λ same. differ (ap (λ (id : DescId). id.num) same);
  }

  pub fresh_desc : (left : Bool) → IsNewDesc s.kernel.book (cond left (Some (desc_id p (made_of k p))) None)
  fresh_desc true = free_desc (made_of k p) (omega arith)
  fresh_desc false = tt

  pub fresh_channel : (left : Bool)
      → AreNewChannel s.kernel.book s.kernel.net (cond left (Some (three_ids p (made_of k p))) None)
  fresh_channel true = (
    free_conn (made_of k p) (omega arith),
    new_ends (made_of k p + 1) (made_of k p + 2) (omega arith) (omega arith) (λ same. omega (arith, same)),
  )
  fresh_channel false = tt

  pub fresh_pair : (left : Bool)
      → AreNewPair s.kernel.book (cond left (Some (two_ids p (made_of k p))) None)
  fresh_pair true =
      new_ends (made_of k p) (made_of k p + 1) (omega arith) (omega arith) (λ same. omega (arith, same))
  fresh_pair false = tt
