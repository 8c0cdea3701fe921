-- Numbers of processes and threads with one pair more, and then with the child or the thread that it is of.
--     AreNumbered-grows        more pairs
--     AreNumbered-child        a process more, with a maker
--     AreNumbered-thread       a thread more
use Rattle.std.proofs.Common.{◌≡◌, ◌≢◌, ◌⊎◌, ℕ, ◌<◌, true, Option, Some, None, inl, inr, refl, sym, ap, ◌∙◌, subst, List, arith}
use Rattle.std.specs.Prelude.{is_some, IsSome}
use Rattle.std.specs.Cmp.{nat_cmp_total}
use Rattle.std.specs.FinMap as map
use Rattle.std.specs.FinMap.{nat_cmp-IsAntisymmetric}
use Rattle.std.specs.Ordering.{nat_cmp}
use Rattle.std.proofs.lemmas.Bool.{eqb-true}
use Rattle.std.proofs.lemmas.Option.{same_Some, none-some}
use Rattle.views.proofs.MapLaws.{true_false, same_or_other, get_insert_same, get_insert_other}
use Rattle.sys_abi.specs.declared.identity.VPid.{VPid}
use Rattle.sys_abi.specs.declared.identity.RealPid.{RealPid}
use Rattle.sys_abi.specs.declared.maker.Maker.{Maker}
use Rattle.sys_abi.proofs.OrderLaws.{vpid_total, vpid_exact}
use Rattle.plain_tables.specs.declared.process.Process.{Process}
use Rattle.plain_tables.specs.Ends.{child_process}
use Rattle.plain_tables.specs.Tables.{Processes, Makers, pid, same_host, with_thread_entry}
use Rattle.host_descriptors.specs.OfHostTables.Numbers.{Pids, node_of, AreNumbered}
use Rattle.host_descriptors.proofs.OfHostTables.LookUps.{some_value}

-- what is there stays there
kept_some : {X : Type 0} (o o' : Option X) → ((x : X) → o ≡ Some x → o' ≡ Some x) → IsSome o → IsSome o'
kept_some None o' keeps h = true_false (sym h)
kept_some (Some x) o' keeps h = ap is_some (keeps x refl)

-- more pairs

module _ (nodes : List ℕ) (pids pids' : Pids) (processes : Processes) (makers : Makers)
    (are : AreNumbered nodes pids processes makers)
    (kept : (w : ℕ) (s : RealPid) → map.get pids w ≡ Some s → map.get pids' w ≡ Some s) where
  -- a number that was paired is paired as before
  was : (w : ℕ) (s : RealPid) → IsSome (map.get pids w) → map.get pids' w ≡ Some s → map.get pids w ≡ Some s
  was w s there now =
      let before = some_value (map.get pids w) there in
      before.1 ∙ sym (kept w before.0 before.1) ∙ now

  of_process : (q : VPid) (s : RealPid) → IsSome (map.get processes q) → map.get pids' q.0 ≡ Some s
      → map.get pids q.0 ≡ Some s
  of_process q s there now =
      let x = some_value (map.get processes q) there in
      was q.0 s (are.process q x.0 x.1) now

  pub AreNumbered-grows : AreNumbered nodes pids' processes makers
  AreNumbered-grows = record {
    process = λ q x is. kept_some (map.get pids q.0) _ (kept q.0) (are.process q x is);
    thread = λ q x t is at. kept_some (map.get pids t) _ (kept t) (are.thread q x t is at);
    node = λ q x m s is made leads.
        are.node q x m s is made (of_process q s (ap is_some is) leads);
    thread_node = λ q x t s u is at leads thread.
        are.thread_node q x t s u is at (of_process q s (ap is_some is) leads)
        (was t u (are.thread q x t is at) thread);
    order = λ q u s t at_q at_u on leads_q leads_u less.
        are.order q u s t at_q at_u on (of_process q s at_q leads_q) (of_process u t at_u leads_u) less;
  }

-- a process more

-- a thread of a new process is its own
only_thread : (v t : ℕ) → IsSome {T = ℕ} (map.get {R = nat_cmp} (map.insert map.empty v 0) t) → t ≡ v
only_thread v t h = elim (same_or_other nat_cmp_total nat_cmp-IsAntisymmetric t v) [
  | inl same ↦ same
  | inr differ ↦ true_false (sym h
      ∙ ap is_some (get_insert_other nat_cmp_total nat_cmp-IsAntisymmetric map.empty v 0 t differ
      ∙ map.get-empty {X = ℕ} nat_cmp t))
]

hosts_same : (a b : Option Maker) (m n : Maker) → a ≡ Some m → b ≡ Some n → same_host a b ≡ true
    → m.host ≡ n.host
hosts_same None b m n e f h = absurd (none-some m e)
hosts_same (Some x) None m n e f h = absurd (none-some n f)
hosts_same (Some x) (Some y) m n e f h =
    ap (λ (z : Maker). z.host) (sym (same_Some x m e)) ∙ eqb-true x.host y.host h
    ∙ ap (λ (z : Maker). z.host) (same_Some y n f)

has_maker : (a b : Option Maker) → same_host a b ≡ true → (m : Maker) × (a ≡ Some m)
has_maker None b h = true_false (sym h)
has_maker (Some x) b h = (x, refl)

never : (a b w : ℕ) → a < b → a ≡ w → b ≡ w → ⊥
never a b w h e f = omega (arith, h, e, f)

above : (a b w : ℕ) → a < w → b < a → b ≡ w → ⊥
above a b w h l e = omega (arith, h, l, e)

module _ (nodes : List ℕ) (pids : Pids) (processes : Processes) (makers : Makers)
    (are : AreNumbered nodes pids processes makers) (v parent : ℕ) (child : RealPid) (maker : Maker)
    (paired : map.get pids v ≡ Some child) (own_node : child.node ≡ node_of nodes maker.host)
    (below : (q : VPid) (x : Process) → map.get processes q ≡ Some x → q.0 < v)
    (last : (q : VPid) (x : Process) (s : RealPid) → map.get processes q ≡ Some x → map.get pids q.0 ≡ Some s
    → s.node ≡ child.node → s.pid < child.pid) where
  abbrev processes' : Processes
  processes' = map.insert processes (pid v) (child_process parent v)

  abbrev makers' : Makers
  makers' = map.insert makers (pid v) maker

  number_of : (q : VPid) → q ≡ pid v → q.0 ≡ v
  number_of q is = ap (λ (z : VPid). z.0) is

  its_own : (q : VPid) (s : RealPid) → q ≡ pid v → map.get pids q.0 ≡ Some s → child ≡ s
  its_own q s is leads =
      same_Some child s (sym paired ∙ ap (λ (z : VPid). map.get pids z.0) (sym is) ∙ leads)

  process_was : (q : VPid) (x : Process) → map.get processes' q ≡ Some x
      → ((q ≡ pid v) × (child_process parent v ≡ x)) ⊎ ((q ≢ pid v) × (map.get processes q ≡ Some x))
  process_was q x is = elim (same_or_other vpid_total vpid_exact q (pid v)) [
    | inl same ↦ inl (
      same,
      same_Some _ x (sym (get_insert_same vpid_total vpid_exact processes (pid v) (child_process parent v))
          ∙ ap (map.get processes') (sym same) ∙ is),
    )
    | inr differ ↦ inr (
      differ,
      sym (get_insert_other vpid_total vpid_exact processes (pid v) (child_process parent v) q differ) ∙ is,
    )
  ]

  some_was : (q : VPid) → q ≢ pid v → IsSome (map.get processes' q) → IsSome (map.get processes q)
  some_was q differ at =
      ap is_some (sym (get_insert_other vpid_total vpid_exact processes (pid v) (child_process parent v) q
      differ)) ∙ at

  maker_here : map.get makers' (pid v) ≡ Some maker
  maker_here = get_insert_same vpid_total vpid_exact makers (pid v) maker

  maker_beside : (q : VPid) → q ≢ pid v → map.get makers' q ≡ map.get makers q
  maker_beside q differ = get_insert_other vpid_total vpid_exact makers (pid v) maker q differ

  -- the child's number is above all others of its node
  before_child : (q : VPid) (s : RealPid) → q ≢ pid v → IsSome (map.get processes' q)
      → same_host (map.get makers' q) (map.get makers' (pid v)) ≡ true → map.get pids q.0 ≡ Some s
      → s.pid < child.pid
  before_child q s differ at same leads =
      let x = some_value (map.get processes q) (some_was q differ at) in
      let m = has_maker (map.get makers' q) (map.get makers' (pid v)) same in
      let host = hosts_same (map.get makers' q) (map.get makers' (pid v)) m.0 maker m.1 maker_here same in
      last q x.0 s x.1 leads
      (are.node q x.0 m.0 s x.1 (sym (maker_beside q differ) ∙ m.1) leads ∙ ap (node_of nodes) host
      ∙ sym own_node)

  below_some : (q : VPid) → q ≢ pid v → IsSome (map.get processes' q) → q.0 < v
  below_some q differ at =
      let x = some_value (map.get processes q) (some_was q differ at) in
      below q x.0 x.1

  ordered : (q u : VPid) (s t : RealPid) → IsSome (map.get processes' q) → IsSome (map.get processes' u)
      → same_host (map.get makers' q) (map.get makers' u) ≡ true → map.get pids q.0 ≡ Some s
      → map.get pids u.0 ≡ Some t → q.0 < u.0 → s.pid < t.pid
  ordered q u s t at_q at_u same leads_q leads_u smaller =
      elim (same_or_other vpid_total vpid_exact u (pid v)) [
        | inl is_u ↦
            let differ : q ≢ pid v = λ is_q.
            never q.0 u.0 v smaller (number_of q is_q) (number_of u is_u) in
            let top =
            before_child q s differ at_q
            (ap (λ (z : VPid). same_host (map.get makers' q) (map.get makers' z)) (sym is_u) ∙ same)
            leads_q in
            let own = ap (λ (z : RealPid). z.pid) (its_own u t is_u leads_u) in
            omega (arith, top, own)
        | inr differ_u ↦ elim (same_or_other vpid_total vpid_exact q (pid v)) [
          | inl is_q ↦
              absurd (above u.0 q.0 v (below_some u differ_u at_u) smaller (number_of q is_q))
          | inr differ ↦
              are.order q u s t (some_was q differ at_q) (some_was u differ_u at_u)
              ((λ i. same_host (sym (maker_beside q differ) i) (sym (maker_beside u differ_u) i)) ∙ same)
              leads_q leads_u smaller
        ]
      ]

  its_thread : (x : Process) (t : ℕ) → child_process parent v ≡ x → IsSome (map.get x.threads t) → t ≡ v
  its_thread x t is at =
      only_thread v t (subst (λ (z : Process). IsSome (map.get z.threads t)) (sym is) at)

  pub AreNumbered-child : AreNumbered nodes pids processes' makers'
  AreNumbered-child = record {
    process = λ q x is. elim (process_was q x is) [
      | inl new ↦ ap is_some (ap (λ (z : VPid). map.get pids z.0) new.0 ∙ paired)
      | inr old ↦ are.process q x old.1
    ];
    thread = λ q x t is at. elim (process_was q x is) [
      | inl new ↦ ap is_some (ap (map.get pids) (its_thread x t new.1 at) ∙ paired)
      | inr old ↦ are.thread q x t old.1 at
    ];
    node = λ q x m s is made leads. elim (process_was q x is) [
      | inl new ↦
          ap (λ (z : RealPid). z.node) (sym (its_own q s new.0 leads)) ∙ own_node
          ∙ ap (λ (z : Maker). node_of nodes z.host)
          (same_Some maker m (sym maker_here ∙ ap (map.get makers') (sym new.0) ∙ made))
      | inr old ↦ are.node q x m s old.1 (sym (maker_beside q old.0) ∙ made) leads
    ];
    thread_node = λ q x t s u is at leads thread. elim (process_was q x is) [
      | inl new ↦
          let same = its_thread x t new.1 at ∙ sym (number_of q new.0) in
          ap (λ (z : RealPid). z.node) (same_Some u s (sym thread ∙ ap (map.get pids) same ∙ leads))
      | inr old ↦ are.thread_node q x t s u old.1 at leads thread
    ];
    order = ordered;
  }

-- a thread more

module _ (nodes : List ℕ) (pids : Pids) (processes : Processes) (makers : Makers)
    (are : AreNumbered nodes pids processes makers) (p : VPid) (x : Process)
    (there : map.get processes p ≡ Some x) (v : ℕ) (who thread : RealPid)
    (leads_p : map.get pids p.0 ≡ Some who) (leads_v : map.get pids v ≡ Some thread)
    (own_node : thread.node ≡ who.node) where
  abbrev then : Processes
  then = map.insert processes p (with_thread_entry v x)

  -- a thread of the process is the new one, or it had it
  thread_was : (t : ℕ) → IsSome (map.get (with_thread_entry v x).threads t)
      → (t ≡ v) ⊎ IsSome (map.get x.threads t)
  thread_was t at = elim (same_or_other nat_cmp_total nat_cmp-IsAntisymmetric t v) [
    | inl same ↦ inl same
    | inr differ ↦ inr (
        sym (ap is_some (get_insert_other nat_cmp_total nat_cmp-IsAntisymmetric x.threads v 0 t differ)) ∙ at)
  ]

  entry_was : (q : VPid) (y : Process) → map.get then q ≡ Some y
      → ((q ≡ p) × (with_thread_entry v x ≡ y)) ⊎ (map.get processes q ≡ Some y)
  entry_was q y is = elim (same_or_other vpid_total vpid_exact q p) [
    | inl here ↦ inl (
      here,
      same_Some _ y (sym (get_insert_same vpid_total vpid_exact processes p (with_thread_entry v x))
          ∙ ap (map.get then) (sym here) ∙ is),
    )
    | inr differ ↦
        inr (sym (get_insert_other vpid_total vpid_exact processes p (with_thread_entry v x) q differ) ∙ is)
  ]

  -- the process was there, and had the thread unless it is the new one
  process_had : (q : VPid) (y : Process) → map.get then q ≡ Some y
      → (z : Process) × ((map.get processes q ≡ Some z)
      × ((t : ℕ) → IsSome (map.get y.threads t) → ((q ≡ p) × (t ≡ v)) ⊎ IsSome (map.get z.threads t)))
  process_had q y is = elim (entry_was q y is) [
    | inl here ↦ (
      x,
      (
        ap (map.get processes) here.0 ∙ there,
        λ t at. elim (thread_was t (subst (λ (z : Process). IsSome (map.get z.threads t)) (sym here.1) at)) [
          | inl new ↦ inl (here.0, new)
          | inr old ↦ inr old
        ],
      ),
    )
    | inr before ↦ (y, (before, λ t at. inr at))
  ]

  had : (q : VPid) → IsSome (map.get then q) → IsSome (map.get processes q)
  had q at =
      let y = some_value (map.get then q) at in
      ap is_some (process_had q y.0 y.1).1.0

  pub AreNumbered-thread : AreNumbered nodes pids then makers
  AreNumbered-thread = record {
    process = λ q y is. let z = process_had q y is in are.process q z.0 z.1.0;
    thread = λ q y t is at. let z = process_had q y is in elim (z.1.1 t at) [
      | inl new ↦ ap is_some (ap (map.get pids) new.1 ∙ leads_v)
      | inr old ↦ are.thread q z.0 t z.1.0 old
    ];
    node = λ q y m s is made leads. let z = process_had q y is in are.node q z.0 m s z.1.0 made leads;
    thread_node = λ q y t s u is at leads leads_t. let z = process_had q y is in elim (z.1.1 t at) [
      | inl new ↦
          ap (λ (w : RealPid). w.node) (same_Some u thread
          (sym leads_t ∙ ap (map.get pids) new.1 ∙ leads_v))
          ∙ own_node
          ∙ ap (λ (w : RealPid). w.node) (same_Some who s
          (sym leads_p ∙ ap (λ (w : VPid). map.get pids w.0) (sym new.0) ∙ leads))
      | inr old ↦ are.thread_node q z.0 t s u z.1.0 old leads leads_t
    ];
    order = λ q u s t at_q at_u on leads_q leads_u smaller.
        are.order q u s t (had q at_q) (had u at_u) on leads_q leads_u smaller;
  }
