-- A process owns no description any more, through the pairs.
--     disowned_kept      the kernel goes on to stand
use Rattle.std.proofs.Common.{◌≡◌, ℕ, ◌≤◌, Bool, true, false, cond, Option, Some, None, refl, sym, ap, ◌∙◌, subst}
use Rattle.std.specs.Prelude.{◌==◌, option_map, option_and_then, unwrap_or}
use Rattle.std.specs.Ordering.{eq_by_cmp}
use Rattle.std.specs.FinMap as map
use Rattle.std.proofs.lemmas.Option.{same_Some, none-some}
use Rattle.views.specs.Maps.{map_values}
use Rattle.views.proofs.MapValues.{get-map_values}
use Rattle.sys_abi.specs.Orders.{real_pid_cmp}
use Rattle.sys_abi.specs.declared.identity.VPid.{VPid}
use Rattle.sys_abi.specs.declared.identity.DescId.{DescId}
use Rattle.sys_abi.specs.declared.identity.RealPid.{RealPid}
use Rattle.conn_table.specs.Pairs.{Pairs, end_of}
use Rattle.fd_tables.specs.declared.description.Desc.{Desc}
use Rattle.fd_tables.specs.Parts.{without_owner, disowned}
use Rattle.plain_tables.specs.declared.description.Description.{Description}
use Rattle.plain_tables.specs.Ends as plain
use Rattle.plain_tables.specs.Tables.{FIRST_PID, Descriptions, Inboxes}
use Rattle.plain_machine.specs.declared.kernel.PlainKernel.{PlainKernel}
use Rattle.plain_machine.specs.Ends as ends
use Rattle.virt_ids.specs.Pairs.{AreInverse}
use Rattle.host_descriptors.specs.OfHostTables.declared.kernel.Kernel.{Kernel}
use Rattle.host_descriptors.specs.OfHostTables.Datagrams.{RealDescriptions, SameInboxes, inbox_of}
use Rattle.host_descriptors.specs.OfHostTables.Descriptions.{Names, Addresses, IsTold, seen_desc, SameDescriptions}
use Rattle.host_descriptors.specs.OfHostTables.Numbers.{Pids, Virts, number_of, IsKnown}
use Rattle.host_descriptors.specs.OfHostTables.Stands.{Given, Stands}
use Rattle.host_descriptors.proofs.OfHostTables.Frames.{book_kept}
use Rattle.host_descriptors.proofs.OfHostTables.LookUps.{some_value}
use Rattle.host_descriptors.proofs.OfHostTables.Waits.{same_parent}

abbrev pub without_real_owner : RealPid → RealDescriptions → RealDescriptions
without_real_owner who descriptions = map_values (disowned who) descriptions

-- a description that was there
was_there : (who : RealPid) (o : Option Desc) (d : Desc) → option_map (disowned who) o ≡ Some d
    → (e : Desc) × ((o ≡ Some e) × (disowned who e ≡ d))
was_there who None d is = absurd (none-some d is)
was_there who (Some e) d is = (e, (refl, same_Some (disowned who e) d is))

module _ (who : RealPid) (real : RealDescriptions) where
  was : (id : DescId) (d : Desc) → map.get (without_real_owner who real) id ≡ Some d
      → (e : Desc) × ((map.get real id ≡ Some e) × (disowned who e ≡ d))
  was id d is = was_there who (map.get real id) d (sym (get-map_values (disowned who) real id) ∙ is)

  -- inboxes ask for objects alone
  module _ (pairs : Pairs) where
    same_inbox : (o : Option Desc) → option_and_then (λ d. inbox_of pairs d.object) o
        ≡ option_and_then (λ d. inbox_of pairs d.object) (option_map (disowned who) o)
    same_inbox None = refl
    same_inbox (Some d) = refl

    same_object : (o : Option Desc) → option_map (λ (d : Desc). d.object) (option_map (disowned who) o)
        ≡ option_map (λ (d : Desc). d.object) o
    same_object None = refl
    same_object (Some d) = refl

    pub SameInboxes-disowned : (inboxes : Inboxes) → SameInboxes pairs inboxes real
        → SameInboxes pairs inboxes (without_real_owner who real)
    SameInboxes-disowned inboxes same = record {
      each = λ id. same.each id ∙ same_inbox (map.get real id)
          ∙ sym (ap (option_and_then (λ d. inbox_of pairs d.object)) (get-map_values (disowned who) real id));
      described = λ queue side pair there low opened.
          let id = (end_of side pair).desc in
          ap (option_map (λ (d : Desc). d.object)) (get-map_values (disowned who) real id)
          ∙ same_object (map.get real id) ∙ same.described queue side pair there low opened;
      opened = same.opened;
    }

module _ (pids : Pids) (virts : Virts) (inverse : AreInverse pids virts) (p : VPid) (who : RealPid)
    (paired : map.get pids p.0 ≡ Some who) (first : FIRST_PID ≤ p.0) where
  nobody_either : (b : Bool) → ◌≡◌ {A = ℕ} (cond b 0 0) 0
  nobody_either true = refl
  nobody_either false = refl

  owner_chosen : (s : RealPid) (v : ℕ) → map.get virts s ≡ Some v → (b : Bool)
      → cond b 0 v ≡ number_of virts 0 (cond b None (Some s))
  owner_chosen s v virt true = refl
  owner_chosen s v virt false = sym (ap (λ o. unwrap_or o 0) virt)

  -- the number of an owner, or 0 where it was p
  same_owner : (owner : Option RealPid) → IsKnown virts owner
      → cond (number_of virts 0 owner == p.0) 0 (number_of virts 0 owner)
      ≡ number_of virts 0 (without_owner who owner)
  same_owner None known = nobody_either (0 == p.0)
  same_owner (Some s) known =
      let v = some_value (map.get virts s) known in
      ap (λ n. cond (n == p.0) 0 n) (ap (λ o. unwrap_or o 0) v.1)
      ∙ ap (λ b. cond b 0 v.0) (same_parent pids virts inverse p who paired first (Some s) v.0 v.1)
      ∙ owner_chosen s v.0 v.1 (eq_by_cmp real_pid_cmp who s)

  still_known : (owner : Option RealPid) → IsKnown virts owner → IsKnown virts (without_owner who owner)
  still_known None known = tt
  still_known (Some s) known = chosen (eq_by_cmp real_pid_cmp who s)
    where
      chosen : (b : Bool) → IsKnown virts (cond b None (Some s))
      chosen true = tt
      chosen false = known

  module _ (names : Names) (addresses : Addresses) (pairs : Pairs) (virt : Descriptions) (real : RealDescriptions)
      (same : SameDescriptions virts names addresses pairs None virt real) where
    abbrev seen : DescId → Desc → Description
    seen id = seen_desc virts names pairs None id

    by_owner : (x : Description) (b : Bool) (m : ℕ) → cond b 0 x.owner ≡ m
        → cond b (record x { owner = 0 }) x ≡ record x { owner = m }
    by_owner x true m e = ap (λ n. record x { owner = n }) e
    by_owner x false m e = ap (λ n. record x { owner = n }) e

    seen_disowned : (id : DescId) (o : Option Desc) → map.get real id ≡ o
        → option_map (plain.disown p) (option_map (seen id) o) ≡ option_map (seen id) (option_map (disowned who) o)
    seen_disowned id None there = refl
    seen_disowned id (Some d) there =
        ap Some (by_owner (seen id d) ((seen id d).owner == p.0) (number_of virts 0 (without_owner who d.owner))
        (same_owner d.owner (same.owners id d there)))

    pub SameDescriptions-disowned : SameDescriptions virts names addresses pairs None (plain.disowned p virt)
        (without_real_owner who real)
    SameDescriptions-disowned = record {
      each = λ id. get-map_values (plain.disown p) virt id ∙ ap (option_map (plain.disown p)) (same.each id)
          ∙ seen_disowned id (map.get real id) refl
          ∙ sym (ap (option_map (seen id)) (get-map_values (disowned who) real id));
      owners = λ id d is.
          let e = was who real id d is in
          subst (λ (x : Desc). IsKnown virts x.owner) e.1.1 (still_known e.0.owner (same.owners id e.0 e.1.0));
      objects = λ id d is.
          let e = was who real id d is in
          subst (λ (x : Desc). IsTold names addresses pairs id x.object) e.1.1 (same.objects id e.0 e.1.0);
    }

module _ (g : Given) (real : Kernel) (k : PlainKernel) (st : Stands g None real k) (p : VPid) (who : RealPid)
    (paired : map.get g.pids p.0 ≡ Some who) where
  pub disowned_kept : Stands g None
      (record real {
        book = record real.book { descriptions = without_real_owner who real.book.descriptions };
      })
      (ends.without_owner k p)
  disowned_kept =
      book_kept g None real k st
      (record real.book { descriptions = without_real_owner who real.book.descriptions })
      k.descriptors (plain.disowned p k.descriptions) st.descriptors
      (SameDescriptions-disowned g.pids g.virts st.paired.inverse p who paired
      (st.paired.handed_out p.0 who paired).virt g.names g.addresses real.datagrams k.descriptions
      real.book.descriptions st.descriptions)
      (SameInboxes-disowned who real.book.descriptions real.datagrams k.inboxes st.inboxes)
