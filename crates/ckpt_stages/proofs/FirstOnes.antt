-- The first descriptor that no image holds: the kernel part's is the one that is found by the real tables.
--     none_open, lower_open, fd_found, fd_done      of one process, found by its numbers one after the other
--     AreLeast b virts processes least above      of the processes that do not come after the last one, it
--                                                 is the
--                                                 first, or there is none
--     least_begun, least_on, least_fewer, least_done
use Rattle.std.proofs.Common.{◌≡◌, ◌+◌, ◌<◌, ◌≤◌, ◌⊎◌, ℕ, Ordering, Less, Equal, Greater, true, false, cond, T, List, [], ◌∷◌, inl, inr, refl, sym, ap, subst, ◌∙◌, arith}
use Rattle.std.specs.Prelude.{Option, Some, None, IsSome, is_some, find, nat_lt, ◌==◌, option_map, option_and_then}
use Rattle.std.specs.List.{filter_map, cons_option}
use Rattle.std.specs.Option.{option_map_or}
use Rattle.std.specs.Ordering.{is_lt, eq_by_cmp, nat_cmp, ordering_then}
use Rattle.std.specs.Cmp.{IsTotalOrder}
use Rattle.std.specs.FinMap as map
use Rattle.std.specs.FinMap.{IsAntisymmetric, is_sorted, nat_cmp-IsAntisymmetric}
use Rattle.std.specs.FinMap.Entries.{below_all}
use Rattle.std.proofs.lemmas.Bool.{cases_lt, ltb-true, ltb-false}
use Rattle.std.proofs.lemmas.Option.{same_Some, none-some}
use Rattle.views.proofs.MapLaws.{true_false, same_key}
use Rattle.views.proofs.MapValues.{EachEntry, each_entry}
use Rattle.views.proofs.Passes.{first, second, less}
use Rattle.sys_abi.specs.declared.descriptor.Descriptor.{Descriptor}
use Rattle.sys_abi.specs.declared.identity.Fd.{Fd}
use Rattle.sys_abi.specs.declared.identity.RealPid.{RealPid}
use Rattle.sys_abi.specs.declared.identity.Slot.{Slot}
use Rattle.sys_abi.specs.declared.record.Kind.{Kind}
use Rattle.sys_abi.specs.Orders.{slot_cmp}
use Rattle.sys_abi.proofs.OrderLaws.{slot_total, slot_exact, real_pid_total, real_pid_exact}
use Rattle.fd_tables.specs.declared.description.Desc.{Desc}
use Rattle.fd_tables.specs.declared.description.Object.{Object}
use Rattle.fd_tables.specs.declared.description.Object.TheVariants.{Console, File, Stream, Socket, Listener, Datagram, Counter}
use Rattle.fd_tables.specs.Numbers.{NoneOpen, IsLowestOpen, first_above}
use Rattle.fd_tables.specs.Slots as slots
use Rattle.fd_book.specs.Books.{Books}
use Rattle.proc_book.specs.declared.process.Process as real_process
use Rattle.proc_book.specs.Ends.{Processes}
use Rattle.proc_book.specs.Processes.{is_live}
use Rattle.proc_book.specs.Procs.{is_above}
use Rattle.virt_ids.specs.Pairs.{AreInverse}
use Rattle.plain_tables.specs.Tables.{slot, pid}
use Rattle.plain_machine.specs.declared.kernel.PlainKernel.{PlainKernel}
use Rattle.plain_machine.specs.Tests as tests
use Rattle.plain_machine.specs.Tests.{UnsupportedAt, unsupported, unsupported_by, unsupported_entry, first_of}
use Rattle.host_tables.specs.declared.system.System.{System}
use Rattle.host_tables.specs.Numbers.{Pids}
use Rattle.host_tables.specs.Descriptions.{seen_desc, seen_object}
use Rattle.host_tables.specs.Stands.{Given, Stands}
use Rattle.host_tables.specs.Systems.{given_of}
use Rattle.host_tables.proofs.LookUps.{some_value, at_slot}
use Rattle.cut_stages.specs.OfWrapNames.Wrapping.{IsWrapped}
use Rattle.cut_stages.proofs.OfWrapNames.Callers.{sound}
use Rattle.leader_vote.specs.Voters.{Virts}
use Rattle.leader_vote.proofs.Walks.{count_of, next_is, walked, none_left, fewer_left}
use Rattle.ckpt_stages.specs.Faults.{Found, unsupported_at, FindsUnsupported}
use Rattle.ckpt_stages.specs.Kinds.{unsupported_kind, kind_in, kind_at, IsFirstFd, IsFirstBy, IsFirstOf, lesser}

-- the first entry of a map that gives something
module _ {K X Z : Type 0} {R : K → K → Ordering} (o : IsTotalOrder R) (exact : IsAntisymmetric R)
    (f : K × X → Option Z) where
  under : (x q : K) (v : X) (es : List (K × X)) → T (below_all R x es) → map.find R q es ≡ Some v → R x q ≡
      Less
  under x q v [] below is = absurd (none-some v is)
  under x q v (e ∷ es) below is =
      elim (eq_by_cmp R q e.0) as (λ b. eq_by_cmp R q e.0 ≡ b → cond b (Some e.1) (map.find R q es) ≡ Some
      v → R x q ≡ Less) [
        | true ↦ λ tied same. ap (R x) (same_key o exact q e.0 tied) ∙ less _ (first _ _ below)
        | false ↦ λ apart same. under x q v es (second _ _ below) same
      ] refl is

  first_found : (q : K) (v : X) (z : Z) (es : List (K × X)) → T (is_sorted R es) → map.find R q es ≡ Some v
      → f (q, v) ≡ Some z → EachEntry (λ k x. is_lt (R k q) ≡ true → f (k, x) ≡ None) es
      → first_of (filter_map f es) ≡ Some z
  first_found q v z [] sorted is gives each = absurd (none-some v is)
  first_found q v z (e ∷ es) sorted is gives each =
      elim (eq_by_cmp R q e.0) as (λ b. eq_by_cmp R q e.0 ≡ b → cond b (Some e.1) (map.find R q es) ≡ Some v
      → first_of (cons_option (f e) (filter_map f es)) ≡ Some z) [
        | true ↦ λ tied same.
            let entry : f e ≡ Some z =
            (λ i. f (sym (same_key o exact q e.0 tied) i, same_Some e.1 v same i)) ∙ gives in
            ap (λ given. first_of (cons_option given (filter_map f es))) entry
        | false ↦ λ apart same.
            ap (λ given. first_of (cons_option given (filter_map f es)))
            (each.0 (ap is_lt (under e.0 q v es (first _ _ sorted) same)))
            ∙ first_found q v z es (second _ _ sorted) same gives each.1
      ] refl is

  none_found : (es : List (K × X)) → EachEntry (λ k x. f (k, x) ≡ None) es → first_of (filter_map f es) ≡ None
  none_found [] each = refl
  none_found (e ∷ es) each =
      ap (λ given. first_of (cons_option given (filter_map f es))) each.0 ∙ none_found es each.1

below_if : (n m : ℕ) → nat_cmp n m ≡ Less → n < m
below_if n m is =
    elim (nat_lt n m) as (λ b. nat_lt n m ≡ b → cond b Less (cond (n == m) Equal Greater) ≡ Less → n < m) [
      | true ↦ λ lower order. ltb-true n m lower
      | false ↦ λ other. elim (n == m) as (λ b. cond b Equal Greater ≡ Less → n < m) [
        | true ↦ λ order. true_false (sym (ap is_lt order))
        | false ↦ λ order. true_false (sym (ap is_lt order))
      ]
    ] refl is

-- a slot with a lower process, or a lower number of the same process
comes_first : (a b : Slot) → is_lt (slot_cmp a b) ≡ true
    → (a.pid.0 < b.pid.0) ⊎ ((a.pid.0 ≡ b.pid.0) × (a.fd < b.fd))
comes_first a b is = by (nat_cmp a.pid.0 b.pid.0) refl is
  where
    by : (r : Ordering) → nat_cmp a.pid.0 b.pid.0 ≡ r → is_lt (ordering_then r (nat_cmp a.fd b.fd)) ≡ true
        → (a.pid.0 < b.pid.0) ⊎ ((a.pid.0 ≡ b.pid.0) × (a.fd < b.fd))
    by Less order lower = inl (below_if a.pid.0 b.pid.0 order)
    by Equal order lower = inr (
      nat_cmp-IsAntisymmetric a.pid.0 b.pid.0 order,
      below_if a.fd b.fd (less _
          (subst T (sym lower) tt)),
    )
    by Greater order lower = true_false (sym lower)

-- of one process, by its numbers
abbrev pub NoneBelow : Books → RealPid → ℕ → Type 0
NoneBelow b r n = (fd : ℕ) → fd < n → kind_at b r fd ≡ None

none_open : (b : Books) (r : RealPid) (fd : ℕ) → map.get b.descriptors (slots.slot r fd) ≡ None → kind_at b
    r fd ≡ None
none_open b r fd none = ap (option_and_then (λ (d : Descriptor). kind_in b d.desc)) none

module _ (b : Books) (r : RealPid) (above : Option Fd) (below : NoneBelow b r (first_above above)) where
  lower_none : (fd : ℕ) → IsLowestOpen b.descriptors r (first_above above) fd → NoneBelow b r fd
  lower_none fd is lower less = elim (cases_lt lower (first_above above)) [
    | inl before ↦ below lower before
    | inr from ↦ none_open b r lower (is.lowest lower from less)
  ]

  pub fd_on : (fd : ℕ) → IsLowestOpen b.descriptors r (first_above above) fd → kind_at b r fd ≡ None
      → NoneBelow b r (fd + 1)
  fd_on fd is none lower less = elim (cases_lt lower fd) [
    | inl before ↦ lower_none fd is lower before
    | inr from ↦
        let same : lower ≡ fd = omega (arith, less, from) in ap (kind_at b r) same ∙ none
  ]

  pub fd_found : (fd : Fd) (kind : Kind) → IsLowestOpen b.descriptors r (first_above above) fd.0
      → kind_at b r fd.0 ≡ Some kind → IsFirstFd b r (Some (fd, kind))
  fd_found fd kind is gives = (gives, lower_none fd.0 is)

  pub fd_done : NoneOpen b.descriptors r (first_above above) → IsFirstFd b r None
  fd_done none fd = elim (cases_lt fd (first_above above)) [
    | inl before ↦ below fd before
    | inr from ↦ none_open b r fd (none fd from)
  ]

-- found is the descriptor, or it comes before
abbrev pub IsUpTo : Found → ℕ → ℕ → Type 0
IsUpTo found v fd = (found.0.0 < v) ⊎ ((found.0.0 ≡ v) × (found.1.0 ≤ fd))

pub record AreLeast (b : Books) (virts : Virts) (processes : Processes) (least : Option Found)
    (above : Option RealPid) : Type 0 where
  pub source : (found : Found) → least ≡ Some found
      → (r : RealPid) × ((map.get virts r ≡ Some found.0.0) × IsFirstFd b r (Some (found.1, found.2)))
  pub up_to : (r : RealPid) (v fd : ℕ) (kind : Kind) → IsSome (map.get processes r) → is_above above r ≡ false
      → map.get virts r ≡ Some v → kind_at b r fd ≡ Some kind
      → (found : Found) × ((least ≡ Some found) × IsUpTo found v fd)

pub least_begun : (b : Books) (virts : Virts) (processes : Processes) → AreLeast b virts processes None None
least_begun b virts processes = record {
  source = λ found is. absurd (none-some found is);
  up_to = λ r v fd kind there behind paired is. true_false behind;
}

-- the first descriptor of a process
first_source : (b : Books) (virts : Virts) (r : RealPid) (found : Found) → IsFirstOf b virts r (Some found)
    → (map.get virts r ≡ Some found.0.0) × IsFirstFd b r (Some (found.1, found.2))
first_source b virts r found is = by (map.get virts r) refl is
  where
    by : (v : Option ℕ) → map.get virts r ≡ v → IsFirstBy b r v (Some found)
        → (map.get virts r ≡ Some found.0.0) × IsFirstFd b r (Some (found.1, found.2))
    by None at is = absurd is
    by (Some v) at is = (at ∙ ap Some (sym is.0), is.1)

first_up_to : (b : Books) (virts : Virts) (r : RealPid) (other : Option Found) → IsFirstOf b virts r other
    → (v fd : ℕ) (kind : Kind) → map.get virts r ≡ Some v → kind_at b r fd ≡ Some kind
    → (found : Found) × ((other ≡ Some found) × ((found.0.0 ≡ v) × (found.1.0 ≤ fd)))
first_up_to b virts r other is v fd kind paired at = by other (subst (λ o. IsFirstBy b r o other) paired is)
  where
    by : (other : Option Found) → IsFirstBy b r (Some v) other
        → (found : Found) × ((other ≡ Some found) × ((found.0.0 ≡ v) × (found.1.0 ≤ fd)))
    by None none = absurd (none-some kind (sym (none fd) ∙ at))
    by (Some found) one = (
      found,
      (
        refl,
        (
          one.0,
          elim (cases_lt fd found.1.0) [
            | inl below ↦ absurd (none-some kind (sym (one.1.1 fd below) ∙ at))
            | inr upward ↦ upward
          ],
        ),
      ),
    )

module _ (b : Books) (pids : Pids) (virts : Virts) (inverse : AreInverse pids virts) (processes : Processes)
    (least : Option Found) (above : Option RealPid) (id : RealPid)
    (next : find (is_above above) (map.keys processes) ≡ Some id) (are : AreLeast b virts processes least
    above)
    (other : Option Found) (first_is : IsFirstOf b virts id other) where
  its : IsSome (map.get processes id) × (is_above above id ≡ true)
  its = next_is real_pid_total real_pid_exact processes is_above (λ k. refl) (λ a k. refl) above id next

  abbrev Source : Found → Type 0
  Source found = (r : RealPid) × ((map.get virts r ≡ Some found.0.0) × IsFirstFd b r (Some (
    found.1,
    found.2,
  )))

  lesser_source : (one two : Option Found) → ((found : Found) → one ≡ Some found → Source found)
      → ((found : Found) → two ≡ Some found → Source found)
      → (found : Found) → lesser one two ≡ Some found → Source found
  lesser_source None two of_one of_two found is = of_two found is
  lesser_source (Some one) None of_one of_two found is = of_one found is
  lesser_source (Some one) (Some two) of_one of_two found is =
      elim (nat_lt two.0.0 one.0.0) as (λ lower. cond lower (Some two) (Some one) ≡ Some found → Source
      found) [
        | true ↦ λ same. of_two found same
        | false ↦ λ same. of_one found same
      ] is

  -- the lesser comes no later than either
  up_to_one : (one : Found) (two : Option Found) (v fd : ℕ) → IsUpTo one v fd
      → (found : Found) × ((lesser (Some one) two ≡ Some found) × IsUpTo found v fd)
  up_to_one one None v fd is = (one, (refl, is))
  up_to_one one (Some two) v fd is =
      elim (nat_lt two.0.0 one.0.0) as (λ lower. nat_lt two.0.0 one.0.0 ≡ lower
      → (found : Found) × ((cond lower (Some two) (Some one) ≡ Some found) × IsUpTo found v fd)) [
        | true ↦ λ lower. (two, (refl, inl (lower_still one two v fd (ltb-true two.0.0 one.0.0 lower) is)))
        | false ↦ λ upward. (one, (refl, is))
      ] refl
    where
      lower_still : (one two : Found) (v fd : ℕ) → two.0.0 < one.0.0 → IsUpTo one v fd → two.0.0 < v
      lower_still one two v fd lower (inl below) = omega (arith, lower, below)
      lower_still one two v fd lower (inr same) =
          let e : one.0.0 ≡ v = same.0 in omega (arith, lower, e)

  up_to_two : (one : Option Found) (two : Found) (v fd : ℕ) → ((found : Found) → one ≡ Some found → Source
      found)
      → map.get virts id ≡ Some v → two.0.0 ≡ v → two.1.0 ≤ fd → IsSome (kind_at b id fd)
      → (found : Found) × ((lesser one (Some two) ≡ Some found) × IsUpTo found v fd)
  up_to_two None two v fd sources paired same below there = (two, (refl, inr (same, below)))
  up_to_two (Some one) two v fd sources paired same below there =
      elim (nat_lt two.0.0 one.0.0) as (λ lower. nat_lt two.0.0 one.0.0 ≡ lower
      → (found : Found) × ((cond lower (Some two) (Some one) ≡ Some found) × IsUpTo found v fd)) [
        | true ↦ λ lower. (two, (refl, inr (same, below)))
        | false ↦ λ upward. (one, (refl, by_one (ltb-false two.0.0 one.0.0 upward)))
      ] refl
    where
      by_one : one.0.0 ≤ two.0.0 → IsUpTo one v fd
      by_one up = elim (cases_lt one.0.0 v) [
        | inl lower ↦ inl lower
        | inr not_lower ↦
            let e : two.0.0 ≡ v = same in
            let equal : one.0.0 ≡ v = omega (arith, e, up, not_lower) in
            inr (equal, of_same equal)
      ]
        where
          of_same : one.0.0 ≡ v → one.1.0 ≤ fd
          of_same equal =
              let source = sources one refl in
              let r_is : source.0 ≡ id = same_Some source.0 id
              (sym (inverse.leads_there v source.0 (source.1.0 ∙ ap Some equal)) ∙ inverse.leads_there v id
              paired) in
              elim (cases_lt fd one.1.0) [
                | inl before ↦ true_false (sym there ∙ ap is_some
                    (ap (λ r. kind_at b r fd) (sym r_is) ∙ source.1.1.1 fd before))
                | inr upward ↦ upward
              ]

  pub least_on : AreLeast b virts processes (lesser least other) (Some id)
  least_on = record {
    source = lesser_source least other are.source (λ found is. (
      id,
      first_source b virts id found
          (subst (IsFirstOf b virts id) is first_is),
    ));
    up_to = λ r v fd kind there behind paired is.
        let x = some_value (map.get processes r) there in
        elim (walked real_pid_total real_pid_exact processes is_above (λ k. refl) (λ a k. refl) above id r
        x.0 next x.1 behind) [
          | inl same ↦
              let paired' = ap (map.get virts) (sym same) ∙ paired in
              let is' = ap (λ q. kind_at b q fd) (sym same) ∙ is in
              let two = first_up_to b virts id other first_is v fd kind paired' is' in
              subst (λ o. (found : Found) × ((lesser least o ≡ Some found) × IsUpTo found v fd)) (sym two.1.0)
              (up_to_two least two.0 v fd are.source paired' two.1.1.0 two.1.1.1 (ap is_some is'))
          | inr before ↦
              let one = are.up_to r v fd kind there before paired is in
              subst (λ l. (found : Found) × ((lesser l other ≡ Some found) × IsUpTo found v fd)) (sym one.1.0)
              (up_to_one one.0 other v fd one.1.1)
        ];
  }

  pub least_fewer : count_of (is_above (Some id)) (map.keys processes) < count_of (is_above above)
      (map.keys processes)
  least_fewer = fewer_left real_pid_total real_pid_exact processes is_above (λ k. refl) (λ a k. refl) above
      id its.0 its.1

-- the kernel part
module _ (s : System) (next_id : ℕ) (k : PlainKernel) (w : IsWrapped s next_id k) where
  abbrev g : Given
  g = given_of s

  st : Stands g None s.kernel k
  st = w.stands.tables

  abbrev b : Books
  b = s.kernel.book

  same_kind : (id : _) (o : Object) → tests.unsupported_kind (seen_object g.names s.kernel.datagrams id o)
      ≡ unsupported_kind o
  same_kind id Console = refl
  same_kind id (File number offset) = refl
  same_kind id (Stream own at) = refl
  same_kind id Socket = refl
  same_kind id (Listener at) = refl
  same_kind id (Datagram queue at) = refl
  same_kind id (Counter value) = refl

  abbrev told : Slot → Option Kind → Option UnsupportedAt
  told at kind = option_map (λ kind. record { slot = at; kind = kind }) kind

  seen_kind : (at : Slot) (id : _) (found : Option Desc)
      → unsupported_by at (option_map (seen_desc g.virts g.names s.kernel.datagrams None id) found)
      ≡ told at (option_and_then (λ (d : Desc). unsupported_kind d.object) found)
  seen_kind at id None = refl
  seen_kind at id (Some d) = ap (told at) (same_kind id d.object)

  -- of a descriptor of the kernel part
  paired_slot : (at : Slot) (d : Descriptor) → map.get k.descriptors at ≡ Some d
      → (r : RealPid) × ((map.get g.pids at.pid.0 ≡ Some r) × (map.get b.descriptors (slots.slot r at.fd) ≡
      Some d))
  paired_slot at d is = by (map.get g.pids at.pid.0) refl
    where
      by : (found : Option RealPid) → map.get g.pids at.pid.0 ≡ found
          → (r : RealPid) × ((map.get g.pids at.pid.0 ≡ Some r) × (map.get b.descriptors (slots.slot r
          at.fd) ≡ Some d))
      by None none = absurd (none-some d (sym (st.descriptors.virt_alone at
          (ap (option_map (λ (r : RealPid). slots.slot r at.fd)) none)) ∙ is))
      by (Some r) paired = (
        r,
        (
          paired,
          sym (at_slot g.pids g.virts b.descriptors k.descriptors st.descriptors at.pid r paired at.fd) ∙ is,
        ),
      )

  entry_is : (at : Slot) (d : Descriptor) (r : RealPid) → map.get k.descriptors at ≡ Some d
      → map.get b.descriptors (slots.slot r at.fd) ≡ Some d
      → unsupported_entry k (at, d) ≡ told at (kind_at b r at.fd)
  entry_is at d r is there =
      ap (unsupported_by at) (st.descriptions.each d.desc) ∙ seen_kind at d.desc (map.get b.descriptions
      d.desc)
      ∙ ap (told at) (sym (ap (option_and_then (λ (x : Descriptor). kind_in b x.desc)) there))

  -- its process is there
  there_of : (r : RealPid) (fd : ℕ) (d : Descriptor) → map.get b.descriptors (slots.slot r fd) ≡ Some d
      → IsSome (map.get s.kernel.procs.processes r)
  there_of r fd d is = by (map.get s.kernel.procs.processes r) ((sound s next_id k w).alive (slots.slot r
      fd) d is)
    where
      by : (found : Option real_process.Process) → option_map_or is_live found false ≡ true → IsSome found
      by None live = live
      by (Some x) live = refl

  module _ (least : Option Found) (above : Option RealPid)
      (none : find (is_above above) (map.keys s.kernel.procs.processes) ≡ None)
      (are : AreLeast b g.virts s.kernel.procs.processes least above) where
    found_up_to : (at : Slot) (d : Descriptor) → map.get k.descriptors at ≡ Some d → (z : UnsupportedAt)
        → unsupported_entry k (at, d) ≡ Some z
        → (found : Found) × ((least ≡ Some found) × IsUpTo found at.pid.0 at.fd)
    found_up_to at d is z gives = by (kind_at b one.0 at.fd) refl (sym (entry_is at d one.0 is one.1.1) ∙
        gives)
      where
        one : (r : RealPid) × ((map.get g.pids at.pid.0 ≡ Some r) × (map.get b.descriptors (slots.slot r
            at.fd) ≡ Some d))
        one = paired_slot at d is

        there : IsSome (map.get s.kernel.procs.processes one.0)
        there = there_of one.0 at.fd d one.1.1

        by : (kind : Option Kind) → kind_at b one.0 at.fd ≡ kind → told at kind ≡ Some z
            → (found : Found) × ((least ≡ Some found) × IsUpTo found at.pid.0 at.fd)
        by None kind_is told_is = absurd (none-some z told_is)
        by (Some kind) kind_is told_is =
            let x = some_value (map.get s.kernel.procs.processes one.0) there in
            are.up_to one.0 at.pid.0 at.fd kind there
            (none_left real_pid_total real_pid_exact s.kernel.procs.processes is_above (λ k. refl)
            (λ a k. refl) above one.0 x.0 none x.1)
            (st.paired.inverse.leads_back at.pid.0 one.0 one.1.0) kind_is

    nothing_before : (at : Slot) (d : Descriptor) → map.get k.descriptors at ≡ Some d
        → ((found : Found) → least ≡ Some found → IsUpTo found at.pid.0 at.fd → ⊥)
        → unsupported_entry k (at, d) ≡ None
    nothing_before at d is not = by (unsupported_entry k (at, d)) refl
      where
        by : (given : Option UnsupportedAt) → unsupported_entry k (at, d) ≡ given → unsupported_entry k
            (at, d) ≡ None
        by None gives = gives
        by (Some z) gives =
            let up = found_up_to at d is z gives in absurd (not up.0 up.1.0 up.1.1)

    unsupported_is : (found : Option Found) → least ≡ found
        → first_of (filter_map (unsupported_entry k) (map.entries k.descriptors)) ≡ option_map
        unsupported_at found
    unsupported_is None is =
        none_found slot_total slot_exact (unsupported_entry k) (map.entries k.descriptors)
        (each_entry slot_total slot_exact (λ at d. unsupported_entry k (at, d) ≡ None) k.descriptors
        (λ at d there. nothing_before at d there (λ found also up. absurd (none-some found (sym is ∙ also)))))
    unsupported_is (Some found) is =
        let source = are.source found is in
        let r = source.0 in
        let paired = st.paired.inverse.leads_there found.0.0 r source.1.0 in
        let at = slot found.0 found.1.0 in
        let kind_is = source.1.1.0 in
        let d = described (map.get b.descriptors (slots.slot r found.1.0)) kind_is in
        let there : map.get k.descriptors at ≡ Some d.0 =
        at_slot g.pids g.virts b.descriptors k.descriptors st.descriptors found.0 r paired found.1.0 ∙ d.1 in
        first_found slot_total slot_exact (unsupported_entry k) at d.0 (unsupported_at found) (map.entries
        k.descriptors)
        (map.entries_sorted k.descriptors) (sym (map.get-entries k.descriptors at) ∙ there)
        (entry_is at d.0 r there d.1 ∙ ap (told at) kind_is)
        (each_entry slot_total slot_exact (λ q e. is_lt (slot_cmp q at) ≡ true → unsupported_entry k (q, e)
        ≡ None)
        k.descriptors (λ q e is_there lower. nothing_before q e is_there (λ other also up.
        not_both found other q (same_Some other found (sym also ∙ is)) up (comes_first q at lower))))
      where
        described : (o : Option Descriptor) → {kind : Kind}
            → option_and_then (λ (d : Descriptor). kind_in b d.desc) o ≡ Some kind → (d : Descriptor) × (o
            ≡ Some d)
        described None {kind} is = absurd (none-some kind is)
        described (Some d) is = (d, refl)

        not_both : (found other : Found) (q : Slot) → other ≡ found → IsUpTo other q.pid.0 q.fd
            → (q.pid.0 < found.0.0) ⊎ ((q.pid.0 ≡ found.0.0) × (q.fd < found.1.0)) → ⊥
        not_both found other q same up before =
            apart found.0.0 q.pid.0 found.1.0 q.fd (subst (λ x. IsUpTo x q.pid.0 q.fd) same up) before
          where
            apart : (p v n fd : ℕ) → (p < v) ⊎ ((p ≡ v) × (n ≤ fd)) → (v < p) ⊎ ((v ≡ p) × (fd < n)) → ⊥
            apart p v n fd (inl lower) (inl higher) = omega (arith, lower, higher)
            apart p v n fd (inl lower) (inr both) = let e : v ≡ p = both.0 in omega (arith, lower, e)
            apart p v n fd (inr both) (inl higher) = let e : p ≡ v = both.0 in omega (arith, higher, e)
            apart p v n fd (inr both) (inr also) =
                let h : n ≤ fd = both.1 in let l : fd < n = also.1 in omega (arith, h, l)

    pub least_done : FindsUnsupported k least
    unfolding unsupported
    least_done g of_k =
        ap (λ (x : PlainKernel). first_of (filter_map (unsupported_entry x) (map.entries x.descriptors))) of_k
        ∙ unsupported_is least refl
