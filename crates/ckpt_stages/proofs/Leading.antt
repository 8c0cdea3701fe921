-- Once all have voted each description has a leader.
--     voted_each      each voter has voted
--     all_led         each description has an owner
--     leader_alive    an owner is a live process
use Rattle.std.proofs.Common.{◌≡◌, ℕ, Bool, true, false, cond, ◌&&◌, List, [], ◌∷◌, map as mapped, Option, Some, None, refl, sym, ap, subst, ◌∙◌}
use Rattle.std.specs.Prelude.{IsSome, is_some, option_map, Contains, find, reverse}
use Rattle.std.specs.declared.cmp.Ordering.{Ordering}
use Rattle.std.specs.Ordering.{eq_by_cmp}
use Rattle.std.specs.Option.{option_map_or, option_and_then}
use Rattle.std.specs.List.{list_all}
use Rattle.std.specs.FinMap as map
use Rattle.std.specs.FinMap.{FinMap}
use Rattle.std.proofs.lemmas.Option.{same_Some, none-some}
use Rattle.views.proofs.MapLaws.{true_false}
use Rattle.views.proofs.MapValues.{none_among-values}
use Rattle.sys_abi.specs.declared.descriptor.Descriptor.{Descriptor}
use Rattle.sys_abi.specs.declared.identity.DescId.{DescId}
use Rattle.sys_abi.specs.declared.identity.Dir.{Dir}
use Rattle.sys_abi.specs.declared.identity.RealPid.{RealPid}
use Rattle.sys_abi.specs.declared.identity.VPid.{VPid}
use Rattle.sys_abi.specs.Orders.{vpid_cmp}
use Rattle.fd_tables.specs.declared.description.Desc.{Desc}
use Rattle.fd_tables.specs.declared.real_slot.RealSlot.{RealSlot}
use Rattle.fd_tables.specs.Orders.{real_slot_cmp}
use Rattle.fd_tables.specs.Parts.{with_owner}
use Rattle.fd_tables.specs.Slots.{slot, refers_to, IsHolder}
use Rattle.fd_tables.proofs.OrderLaws.{real_slot_total, real_slot_exact}
use Rattle.fd_book.specs.Books.{Books, is_held, IsWhole}
use Rattle.leader_vote.specs.Elections.{after_votes, HaveVoted, is_holder}
use Rattle.leader_vote.proofs.Elections.{after_votes-descriptors, last_voter_leads, owners_alone, votes_give_leaders}
use Rattle.leader_vote.proofs.Holders.{same-refers, IsHolder-from_is_holder}
use Rattle.proc_book.specs.Ends.{is_live_at}
use Rattle.proc_book.specs.Processes.{is_live}
use Rattle.virt_ids.specs.Pairs.{AreInverse}
use Rattle.plain_tables.specs.Tables.{pid}
use Rattle.plain_machine.specs.declared.kernel.PlainKernel.{PlainKernel}
use Rattle.plain_machine.specs.Kernel.{is_live as is_living}
use Rattle.wire_net.specs.declared.agents.AgentEnd.{AgentEnd}
use Rattle.wire_net.specs.CutRooms.{RoomView}
use Rattle.wire_net.specs.Reserves.{Reserve}
use Rattle.host_tables.specs.declared.system.System.{System}
use Rattle.host_tables.specs.Systems.{given_of}
use Rattle.host_tables.proofs.LookUps.{some_value, lives_of}
use Rattle.cut_stages.proofs.OfWrapNames.Callers.{sound}
use Rattle.leader_vote.specs.Owners.{Owners}
use Rattle.leader_vote.specs.Voters.{Voters, voter, all_voted}
use Rattle.ckpt_stages.specs.Suspensions.{IsSuspended}

nobody_holds : (m : FinMap real_slot_cmp Descriptor) (id : DescId)
    → ((at : RealSlot) (d : Descriptor) → map.get m at ≡ Some d → refers_to id d ≡ false) → is_held m id ≡
    false
unfolding is_held
nobody_holds m id none = none_among-values real_slot_total real_slot_exact (refers_to id) m none

found_passes : (test : RealPid → Bool) (xs : List RealPid) (x : RealPid) → find test xs ≡ Some x
    → test x ≡ true
found_passes test [] x is = absurd (none-some x is)
found_passes test (y ∷ xs) x is =
    elim (test y) as (λ b. test y ≡ b → cond b (Some y) (find test xs) ≡ Some x → test x ≡ true) [
      | true ↦ λ at same. subst (λ z. test z ≡ true) (same_Some y x same) at
      | false ↦ λ at same. found_passes test xs x same
    ] refl is

there_too : (f : Desc → Desc) (o q : Option Desc) → option_map f o ≡ option_map f q → IsSome o → IsSome q
there_too f None q same there = true_false (sym there)
there_too f (Some x) None same there = absurd (none-some (f x) (sym same))
there_too f (Some x) (Some y) same there = refl

module _ {K X : Type 0} (R : K → K → Ordering) (f : X → Bool) where
  first_true : (a b : Bool) → (a && b) ≡ true → a ≡ true
  first_true true b is = refl
  first_true false b is = true_false (sym is)

  second_true : (a b : Bool) → (a && b) ≡ true → b ≡ true
  second_true true b is = is
  second_true false b is = true_false (sym is)

  all_found : (es : List (K × X)) (k : K) (v : X) → list_all f (mapped (λ e. e.1) es) ≡ true
      → map.find R k es ≡ Some v → f v ≡ true
  all_found [] k v all is = absurd (none-some v is)
  all_found (e ∷ es) k v all is =
      elim (eq_by_cmp R k e.0) as (λ t. cond t (Some e.1) (map.find R k es) ≡ Some v → f v ≡ true) [
        | true ↦ λ same. ap f (sym (same_Some e.1 v same)) ∙ first_true _ _ all
        | false ↦ λ same. all_found es k v (second_true _ _ all) same
      ] is

module _ (s : System) (next_id : ℕ) (k : PlainKernel) (owners : Owners) (voters : Voters) (dirs : List Dir)
    (ends : Reserve AgentEnd) (room : RoomView)
    (is : IsSuspended s next_id k owners voters dirs ends room) (all : all_voted voters ≡ true) where
  voted_each : (p : VPid) → IsSome (map.get voters p) → map.get voters p ≡ Some true
  voted_each p there =
      let voted = some_value (map.get voters p) there in
      voted.1 ∙ ap Some (all_found vpid_cmp (λ b. b) (map.entries voters) p voted.0 all (sym
      (map.get-entries voters p) ∙ voted.1))

  abbrev before : System
  before = is.cut.before

  live : (at : RealSlot) (d : Descriptor) → map.get s.kernel.book.descriptors at ≡ Some d
      → is_live_at s.kernel.procs.processes at.pid ≡ true
  live at d found =
      ap (λ (x : System). is_live_at x.kernel.procs.processes at.pid) is.cut.rest
      ∙ (sound before next_id k is.cut.wrapped).alive at d
      (ap (λ m. map.get m at) (sym is.cut.book.descriptors) ∙ found)

  live_there : (r : RealPid) → is_live_at s.kernel.procs.processes r ≡ true
      → (v : ℕ) × (map.get s.ids.virts r ≡ Some v)
  live_there r lives = by_found (map.get before.ids.virts r) refl
    where
      by_found : (found : Option ℕ) → map.get before.ids.virts r ≡ found
          → (v : ℕ) × (map.get s.ids.virts r ≡ Some v)
      by_found (Some v) at = (v, ap (λ (x : System). map.get x.ids.virts r) is.cut.rest ∙ at)
      by_found None at =
          let nobody = is.cut.wrapped.stands.tables.processes.real_alone r (ap (option_map pid) at) in
          true_false (sym (sym (ap (λ (x : System). is_live_at x.kernel.procs.processes r) is.cut.rest) ∙
          lives)
          ∙ ap (λ found. option_map_or is_live found false) nobody)

  inverse : AreInverse s.ids.pids s.ids.virts
  inverse =
      subst (λ (x : System). AreInverse x.ids.pids x.ids.virts) (sym is.cut.rest)
      is.cut.wrapped.stands.tables.paired.inverse

  abbrev unowned : Books
  unowned = is.voting.unowned

  abbrev order : List RealPid
  order = is.voting.order

  same_descriptors : unowned.descriptors ≡ s.kernel.book.descriptors
  same_descriptors =
      sym (ap (λ (b : Books). b.descriptors) is.voting.book_is ∙ after_votes-descriptors unowned order)

  voted_real : (r : RealPid) → is_live_at s.kernel.procs.processes r ≡ true → Contains order r
  voted_real r lives =
      let v = live_there r lives in
      let one = is.voting.voted (voter v.0) (voted_each (voter v.0) (is.voters_are.live r v.0 lives v.1)) in
      let same : one.0 ≡ r = same_Some one.0 r
      (sym (inverse.leads_there v.0 one.0 one.1.0) ∙ inverse.leads_there v.0 r v.1) in
      subst (Contains order) same one.1.1

  have_voted : HaveVoted unowned order
  have_voted id r holds =
      voted_real r (live (slot r holds.0) holds.1 (ap (λ m. map.get m (slot r holds.0)) (sym
      same_descriptors) ∙ holds.2))

  leads : (id : DescId) (d : Desc) → map.get s.kernel.book.descriptions id ≡ Some d
      → (r : RealPid) → IsHolder s.kernel.book.descriptors id r → is_some d.owner ≡ true
  leads id d at r holds =
      let at_votes : map.get (after_votes unowned order).descriptions id ≡ Some d =
      ap (λ (b : Books). map.get b.descriptions id) (sym is.voting.book_is) ∙ at in
      let one = (votes_give_leaders unowned order [] is.voting.none have_voted).descriptions id (record {
        there = ap is_some at_votes;
        holder = r;
        holds = subst (λ (b : Books). IsHolder b.descriptors id r) is.voting.book_is holds;
      }) in
      ap is_some (sym (ap (option_and_then (λ (x : Desc). x.owner)) at_votes) ∙ one.leads)

  pub all_led : IsWhole s.kernel.book → (id : DescId) (d : Desc) → map.get s.kernel.book.descriptions id ≡
      Some d
      → is_some d.owner ≡ true
  all_led whole id d at = by_owner (is_some d.owner) refl
    where
      by_owner : (some : Bool) → is_some d.owner ≡ some → is_some d.owner ≡ true
      by_owner true has = has
      by_owner false has = true_false (sym (whole.held id d at)
          ∙ nobody_holds s.kernel.book.descriptors id (λ slot_at descriptor found.
          not_held slot_at descriptor found (refers_to id descriptor) refl))
        where
          not_held : (slot_at : RealSlot) (descriptor : Descriptor)
              → map.get s.kernel.book.descriptors slot_at ≡ Some descriptor → (refers : Bool)
              → refers_to id descriptor ≡ refers → refers_to id descriptor ≡ false
          not_held slot_at descriptor found false refers = refers
          not_held slot_at descriptor found true refers =
              true_false (sym (leads id d at slot_at.pid
              (slot_at.fd, descriptor, found, same-refers id descriptor refers)) ∙ has)

  found_leader : (id : DescId) (d : Desc) (r : RealPid)
      → map.get (after_votes unowned order).descriptions id ≡ Some d
      → IsSome (map.get unowned.descriptions id) → d.owner ≡ Some r
      → find (is_holder unowned.descriptors id) (reverse order) ≡ Some r
  found_leader id d r at there owner =
      sym (last_voter_leads unowned order id is.voting.none there)
      ∙ ap (option_and_then (λ (x : Desc). x.owner)) at
      ∙ owner

  pub leader_alive : (id : DescId) (d : Desc) (r : RealPid) → map.get s.kernel.book.descriptions id ≡ Some d
      → d.owner ≡ Some r → (p : VPid) × ((is_living k p ≡ true) × (map.get s.ids.pids p.0 ≡ Some r))
  leader_alive id d r at owner =
      let at_votes : map.get (after_votes unowned order).descriptions id ≡ Some d =
      ap (λ (b : Books). map.get b.descriptions id) (sym is.voting.book_is) ∙ at in
      let there = there_too (with_owner None) (map.get (after_votes unowned order).descriptions id)
      (map.get unowned.descriptions id) ((owners_alone unowned order).1 id) (ap is_some at_votes) in
      let found = found_leader id d r at_votes there owner in
      let holds = IsHolder-from_is_holder unowned.descriptors id r
      (found_passes (is_holder unowned.descriptors id) (reverse order) r found) in
      let lives_here = live (slot r holds.0) holds.1 (ap (λ m. map.get m (slot r holds.0)) (sym
      same_descriptors) ∙ holds.2) in
      let v = live_there r lives_here in
      let pair : map.get s.ids.pids v.0 ≡ Some r = inverse.leads_there v.0 r v.1 in
      let pair_before : map.get before.ids.pids v.0 ≡ Some r =
      sym (ap (λ (x : System). map.get x.ids.pids v.0) is.cut.rest) ∙ pair in (
        voter v.0,
        (
          lives_of (given_of before) before.kernel k is.cut.wrapped.stands.tables (voter v.0) r pair_before
              ∙ sym (ap (λ (x : System). is_live_at x.kernel.procs.processes r) is.cut.rest) ∙ lives_here,
          pair,
        ),
      )
