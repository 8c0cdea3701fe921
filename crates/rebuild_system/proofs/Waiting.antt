-- One listener more: its connections wait there, and those of the others are as before.
--     next_queue_new       none of them is there yet
--     AreFilled-listener, AreReached-listener
--     none_done, AreFilled-none, AreReached-none      nothing is there at the beginning
use Rattle.std.proofs.Common.{◌≡◌, ◌≤◌, ◌&&◌, ◌||◌, Bool, true, false, List, ◌∷◌, get_or, refl, sym, ap, subst, ◌∙◌}
use Rattle.std.specs.Prelude.{not, Option, Some, None, All, if◌then◌else◌}
use Rattle.std.specs.List.{list_any, Any}
use Rattle.std.specs.Ordering.{eq_by_cmp}
use Rattle.std.specs.FinMap as map
use Rattle.std.proofs.lemmas.List.Folds.{list_any_at, Any-from_list_any}
use Rattle.std.proofs.lemmas.List.Elements.{All-get_or}
use Rattle.std.proofs.lemmas.Option.{same_Some}
use Rattle.views.specs.Seen.{Agree}
use Rattle.views.proofs.Seen.{agree_by}
use Rattle.views.proofs.MapLaws.{true_false, key_tied, same_key}
use Rattle.views.proofs.MapValues.{some_among-values}
use Rattle.sys_abi.specs.declared.identity.ConnId.{ConnId}
use Rattle.sys_abi.specs.declared.identity.RealAddr.{RealAddr}
use Rattle.sys_abi.specs.declared.identity.VirtAddr.{VirtAddr}
use Rattle.sys_abi.specs.Orders.{address_cmp, conn_cmp}
use Rattle.sys_abi.proofs.OrderLaws.{address_total, address_exact, conn_total, conn_exact}
use Rattle.plain_tables.specs.declared.channel.Channel as plain
use Rattle.plain_tables.specs.declared.channel.Listening.{Listening}
use Rattle.plain_tables.specs.Objects.{is_queued, is_pending}
use Rattle.plain_tables.specs.Valid.Sockets.{IsConnection}
use Rattle.plain_machine.specs.declared.kernel.PlainKernel.{PlainKernel}
use Rattle.plain_machine.specs.Kernels.{IsKernel}
use Rattle.discovery.specs.Directories.{Publications}
use Rattle.wire_channels.specs.Channels.{Channels}
use Rattle.host_tables.specs.declared.kernel.Hosts.{Hosts}
use Rattle.rebuild_tables.specs.Hosts.{node_at}
use Rattle.rebuild_tables.specs.Filled.{IsFilled}
use Rattle.rebuild_system.specs.Nets.{IsAtAccepting, IsReached}
use Rattle.rebuild_system.specs.Making.{is_left, AreFilled, AreReached, is_done_waiting}
use Rattle.rebuild_system.specs.Steps.{AreJoined, AreFound}
use Rattle.rebuild_system.proofs.Walks.{IsWalk, next_left, some_left, any_all}
use Rattle.rebuild_system.proofs.Reached.{and_false, reached_here, reached_kept}

-- nothing is there that is not done
pub agree_nothing : {X Y : Type 0} (Is : X → Y → Type 0) (q : Option Y) → Agree Is None q → q ≡ None
agree_nothing Is None agree = refl
agree_nothing Is (Some y) agree = absurd agree

-- where something holds of each, it holds of one that is among them
among_all : (P : ConnId → Type 0) (ids : List ConnId) (id : ConnId) → All P ids
    → list_any (eq_by_cmp conn_cmp id) ids ≡ true → P id
among_all P ids id all among =
    let one : Any (λ x. eq_by_cmp conn_cmp id x ≡ true) ids =
    Any-from_list_any (eq_by_cmp conn_cmp id) ids among in
    let same : id ≡ one.1 = same_key conn_total conn_exact id one.1 one.4 in
    subst P (sym same) (subst P one.3 (All-get_or P ids one.0 one.1 one.2 all))

pub none_done : (k : PlainKernel) (es : List (VirtAddr × Listening)) → es ≡ map.entries k.listeners
    → (id : ConnId) → is_done_waiting k es id ≡ false
none_done k es begins id =
    ap (λ (fs : List (VirtAddr × Listening)). is_done_waiting k fs id) begins
    ∙ ap (λ b. is_pending k.listeners id && not b) (any_all (is_queued id) k.listeners)
    ∙ never (is_pending k.listeners id)
  where
    never : (b : Bool) → (b && not b) ≡ false
    never true = refl
    never false = refl

pub AreReached-none : (h : Hosts) (k : PlainKernel) (es : List (VirtAddr × Listening))
    → es ≡ map.entries k.listeners → (m : Publications) → AreReached h k (is_done_waiting k es) m
AreReached-none h k es begins m id channel done there first second =
    absurd (true_false (sym done ∙ none_done k es begins id))

pub AreFilled-none : (k : PlainKernel) (m : Channels) → m ≡ map.empty
    → AreFilled k (is_done_waiting k (map.entries k.listeners)) m
AreFilled-none k m empty id =
    agree_by (IsFilled k.directions id) None
    (if is_done_waiting k (map.entries k.listeners) id then map.get k.channels id else None)
    None (map.get m id)
    (ap (λ b. if b then map.get k.channels id else None) (none_done k (map.entries k.listeners) refl id))
    (ap (λ (n : Channels). map.get n id) empty ∙ map.get-empty conn_cmp id) tt

module _ (k : PlainKernel) (whole : IsKernel k) (e : VirtAddr × Listening) (es : List (VirtAddr × Listening))
    (walk : IsWalk k.listeners (e ∷ es)) where
  not_later : (id : ConnId) → is_queued id e.1 ≡ true → list_any (λ f. is_queued id f.1) es ≡ false
  not_later id queued =
      elim (list_any (λ f. is_queued id f.1) es)
      as (λ b. list_any (λ f. is_queued id f.1) es ≡ b → b ≡ false) [
        | true ↦ λ later.
            let one =
            some_left (is_queued id) k.listeners address_total address_exact es walk.entries.1 later in
            let same : e.0 ≡ one.key =
            whole.listeners.apart e.0 one.key e.1 one.value id walk.entries.0 one.there queued
            one.passes in
            absurd (true_false (sym one.left ∙ ap (is_left address_cmp es) (sym same)
            ∙ next_left address_total address_exact k.listeners e es walk))
        | false ↦ λ _. refl
      ] refl

  done_now : (id : ConnId) → is_queued id e.1 ≡ true → is_done_waiting k es id ≡ true
  done_now id queued =
      ap (λ b. b && not (list_any (λ f. is_queued id f.1) es))
      (some_among-values address_total address_exact (is_queued id) k.listeners e.0 e.1 walk.entries.0 queued)
      ∙ ap not (not_later id queued)

  not_before : (id : ConnId) → is_queued id e.1 ≡ true → is_done_waiting k (e ∷ es) id ≡ false
  not_before id queued =
      ap (λ b. is_pending k.listeners id && not (b || list_any (λ f. is_queued id f.1) es)) queued
      ∙ and_false (is_pending k.listeners id)

  same_done : (id : ConnId) → is_queued id e.1 ≡ false
      → is_done_waiting k (e ∷ es) id ≡ is_done_waiting k es id
  same_done id other =
      ap (λ b. is_pending k.listeners id && not (b || list_any (λ f. is_queued id f.1) es)) other

  abbrev due : Bool → ConnId → Option plain.Channel
  due done id = if done then map.get k.channels id else None

  module _ (old : Channels) (filled : AreFilled k (is_done_waiting k (e ∷ es)) old) where
    not_there : (id : ConnId) → is_queued id e.1 ≡ true → map.get old id ≡ None
    not_there id queued =
        agree_nothing (IsFilled k.directions id) (map.get old id)
        (subst (λ b. Agree (IsFilled k.directions id) (due b id) (map.get old id)) (not_before id queued)
        (filled id))

    pub next_queue_new : All (λ id. map.get old id ≡ None) e.1.queue
    next_queue_new = all_by e.1.queue (λ id queued. not_there id queued)
      where
        all_by : (queue : List ConnId)
            → ((id : ConnId) → list_any (eq_by_cmp conn_cmp id) queue ≡ true → map.get old id ≡ None)
            → All (λ id. map.get old id ≡ None) queue
        all_by queue told i d less =
            told (get_or queue i d)
            (list_any_at (eq_by_cmp conn_cmp (get_or queue i d)) queue i d less
            (key_tied conn_total conn_exact (get_or queue i d)))

    pub AreFilled-listener : (new : Channels) → AreJoined k (λ id. is_queued id e.1) old new
        → AreFilled k (is_done_waiting k es) new
    AreFilled-listener new joined id =
        elim (is_queued id e.1) as (λ b. is_queued id e.1 ≡ b
        → Agree (IsFilled k.directions id) (due (is_done_waiting k es id) id) (map.get new id)) [
          | true ↦ λ queued.
              subst (λ b. Agree (IsFilled k.directions id) (due b id) (map.get new id))
              (sym (done_now id queued))
              (joined.filled id queued)
          | false ↦ λ other.
              agree_by (IsFilled k.directions id) (due (is_done_waiting k (e ∷ es) id) id)
              (due (is_done_waiting k es id) id) (map.get old id) (map.get new id)
              (ap (λ b. due b id) (sym (same_done id other))) (joined.others id other) (filled id)
        ] refl

  module _ (h : Hosts) (at : RealAddr) (node : at.node ≡ node_at h e.0.host)
      (port : h.port_base ≤ at.port) where
    -- a connection that waits is of the internet, and has its listener's host
    waits_at : (id : ConnId) (channel : plain.Channel) → map.get k.channels id ≡ Some channel
        → is_queued id e.1 ≡ true → IsAtAccepting h k id channel.kind at.node
    waits_at id channel there queued =
        let one : IsConnection k.channels id =
        among_all (IsConnection k.channels) e.1.queue id
        (whole.listeners.each e.0 e.1 walk.entries.0).connections queued in
        let same : one.0 ≡ channel = same_Some one.0 channel (sym one.1 ∙ there) in
        subst (λ kind. IsAtAccepting h k id kind at.node)
        (sym one.2 ∙ ap (λ (c : plain.Channel). c.kind) same)
        (λ host is. node
        ∙ ap (node_at h) (sym (whole.hosts.pending e.0 e.1 id host walk.entries.0 queued is)))

    pub AreReached-listener : (old new : Publications) → AreReached h k (is_done_waiting k (e ∷ es)) old
        → AreFound at (λ id. is_queued id e.1) old new → AreReached h k (is_done_waiting k es) new
    AreReached-listener old new reached found id channel done there first second =
        elim (is_queued id e.1) as (λ b. is_queued id e.1 ≡ b → IsReached h k id channel new) [
          | true ↦ λ queued.
              reached_here h k id channel new at (found.found id queued) port
              (waits_at id channel there queued)
          | false ↦ λ other.
              reached_kept h k id channel old new (found.others id other)
              (reached id channel (same_done id other ∙ done) there first second)
        ] refl
