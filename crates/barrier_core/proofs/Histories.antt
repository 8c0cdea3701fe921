-- What holds after every run of calls.
--     lawful_run          what every barrier keeps
--     open_run            whether a request is open
--     members_run         who belongs to it
--     messages_run, messages_first      what each process has taken
use Rattle.std.proofs.Common.{◌≡◌, ◌≢◌, ℕ, true, false, cond, not, ◌&&◌, ◌||◌, List, [], ◌∷◌, ◌++◌, length, take, map as each, refl, sym, ap, subst, ◌∙◌, inl, inr, append-nil}
use Rattle.std.specs.Prelude.{Option, Some, None, is_some}
use Rattle.std.specs.Option.{option_to_list}
use Rattle.std.specs.List.{list_any}
use Rattle.std.specs.Ordering.{eq_by_cmp}
use Rattle.std.specs.Cmp.{unsigned_ties}
use Rattle.std.specs.FinMap as map
use Rattle.std.proofs.lemmas.Bool.{eq-eqb, ne_eqb}
use Rattle.sys_abi.specs.declared.identity.VPid.{VPid}
use Rattle.sys_abi.specs.Orders.{vpid_cmp}
use Rattle.sys_abi.proofs.OrderLaws.{vpid_total, vpid_exact}
use Rattle.views.proofs.MapLaws.{same_key, same_or_other, get_insert_same, get_insert_other}
use Rattle.barrier_core.specs.declared.stage.Stage.{Stage}
use Rattle.barrier_core.specs.declared.stage.Message.{Message}
use Rattle.barrier_core.specs.declared.member.Member.{Member}
use Rattle.barrier_core.specs.Stages.{messages_to, all_messages}
use Rattle.barrier_core.specs.Members.{Members, fresh, with_reached, with_taken, changed_to, changed, asked}
use Rattle.barrier_core.specs.Barriers.{BarrierState, awaits, due, with_members, after_ask, after_reached, after_message, after_take, IsLawful}
use Rattle.barrier_core.specs.Calls.{Call, Ask, Reach, Join, Leave, Take, Close, IsAllowed, AreAllowed, after, state_after, is_asked, is_at, belongs, messages, last_taken}
use Rattle.barrier_core.proofs.StageLaws.{next_messages, first_messages}
use Rattle.barrier_core.proofs.Keeping.{IsDue, due_told, lawful_rest, lawful_ask, lawful_reached, lawful_joined, lawful_left, lawful_take, asked-fresh}

-- what every barrier keeps
lawful_after : (limit : ℕ) (b : BarrierState) (call : Call) → IsAllowed limit b call → IsLawful limit b → IsLawful limit (after b call)
lawful_after limit b (Ask live) allowed law = lawful_ask limit b live allowed law
lawful_after limit b (Reach p stage) allowed law = lawful_reached limit b p stage law
lawful_after limit b (Join p) allowed law = lawful_joined limit b p allowed.0 allowed.1 allowed.2 law
lawful_after limit b (Leave p) allowed law = lawful_left limit b p law
lawful_after limit b (Take p) allowed law = lawful_take limit b p law
lawful_after limit b Close allowed law = lawful_rest limit

pub lawful_run : (limit : ℕ) (run : List Call) → AreAllowed limit run → IsLawful limit (state_after run)
lawful_run limit [] allowed = lawful_rest limit
lawful_run limit (call ∷ earlier) allowed = lawful_after limit (state_after earlier) call allowed.1 (lawful_run limit earlier allowed.0)

-- whether a request is open
open_run : (run : List Call) → (state_after run).is_open ≡ is_asked run
open_run [] = refl
open_run (Ask live ∷ earlier) = opened (state_after earlier)
  where
    opened : (b : BarrierState) → (after_ask b live).is_open ≡ true
    opened b = elim b.is_open as (λ o. b.is_open ≡ o → (cond o b (record { is_open = true; members = asked live })).is_open ≡ true) [ true ↦ λ is. is | false ↦ λ is. refl ] refl
open_run (Reach p stage ∷ earlier) = kept (state_after earlier) ∙ open_run earlier
  where
    kept : (b : BarrierState) → (after_reached b p stage).is_open ≡ b.is_open
    kept b = elim (awaits b p stage) as (λ a. (cond a (with_members b (changed b.members p (with_reached stage))) b).is_open ≡ b.is_open) [ true ↦ refl | false ↦ refl ]
open_run (Join p ∷ earlier) = open_run earlier
open_run (Leave p ∷ earlier) = open_run earlier
open_run (Take p ∷ earlier) = kept (state_after earlier) ∙ open_run earlier
  where
    kept : (b : BarrierState) → (after_take b p).is_open ≡ b.is_open
    kept b = elim (due b p) as (λ o. (after_message b p o).is_open ≡ b.is_open) [ None ↦ refl | Some message ↦ refl ]
open_run (Close ∷ earlier) = refl

-- a look-up after one member has changed
get-changed : {A : Type 0} (f : Option Member → A) (members : Members) (q : VPid) (change : Member → Member) (p : VPid) → ((m : Member) → f (Some (change m)) ≡ f (Some m))
    → f (map.get (changed members q change) p) ≡ f (map.get members p)
get-changed f members q change p same =
    elim (map.get members q) as (λ o. map.get members q ≡ o → f (map.get (changed_to members q change o) p) ≡ f (map.get members p)) [
      | None ↦ λ none. refl
      | Some m ↦ λ here.
          ap f (map.get-insert vpid_total members q (change m) p)
          ∙ elim (eq_by_cmp vpid_cmp p q) as (λ t. eq_by_cmp vpid_cmp p q ≡ t → f (cond t (Some (change m)) (map.get members p)) ≡ f (map.get members p)) [
            | true ↦ λ tied. same m ∙ ap f (sym here ∙ ap (map.get members) (sym (same_key vpid_total vpid_exact p q tied)))
            | false ↦ λ apart. refl
          ] refl
    ] refl

after_reach : {A : Type 0} (f : Option Member → A) (b : BarrierState) (q : VPid) (stage : Stage) (p : VPid) → ((m : Member) → f (Some (with_reached stage m)) ≡ f (Some m))
    → f (map.get (after_reached b q stage).members p) ≡ f (map.get b.members p)
after_reach f b q stage p same =
    elim (awaits b q stage) as (λ a. f (map.get (cond a (with_members b (changed b.members q (with_reached stage))) b).members p) ≡ f (map.get b.members p)) [
      | true ↦ get-changed f b.members q (with_reached stage) p same
      | false ↦ refl
    ]

-- who belongs to the request
at_ask : (live : List VPid) (p : VPid) → is_some (map.find vpid_cmp p (each (λ q. (q, fresh)) live)) ≡ list_any (is_at p) live
at_ask [] p = refl
at_ask (q ∷ live) p =
    ap (λ t. is_some (cond t (Some fresh) (map.find vpid_cmp p (each (λ q. (q, fresh)) live)))) (sym (unsigned_ties p.0 q.0))
    ∙ elim (is_at p q) as (λ t. is_some (cond t (Some fresh) (map.find vpid_cmp p (each (λ q. (q, fresh)) live))) ≡ (t || list_any (is_at p) live)) [ true ↦ refl | false ↦ at_ask live p ]

pub members_run : (run : List Call) (p : VPid) → is_some (map.get (state_after run).members p) ≡ belongs p run
members_run [] p = ap is_some (map.get-empty vpid_cmp p)
members_run (Ask live ∷ earlier) p =
    asking (state_after earlier) (members_run earlier p) ∙ ap (λ t. cond t (belongs p earlier) (list_any (is_at p) live)) (open_run earlier)
  where
    asking : (b : BarrierState) → is_some (map.get b.members p) ≡ belongs p earlier
        → is_some (map.get (after_ask b live).members p) ≡ cond b.is_open (belongs p earlier) (list_any (is_at p) live)
    asking b is = elim b.is_open as (λ o. is_some (map.get (cond o b (record { is_open = true; members = asked live })).members p) ≡ cond o (belongs p earlier) (list_any (is_at p) live)) [
      | true ↦ is
      | false ↦ ap is_some (map.get-from_entries vpid_total (each (λ q. (q, fresh)) live) p) ∙ at_ask live p
    ]
members_run (Reach q stage ∷ earlier) p = after_reach is_some (state_after earlier) q stage p (λ _. refl) ∙ members_run earlier p
members_run (Join q ∷ earlier) p =
    ap is_some (map.get-insert vpid_total (state_after earlier).members q fresh p)
    ∙ ap (λ t. is_some (cond t (Some fresh) (map.get (state_after earlier).members p))) (sym (unsigned_ties p.0 q.0))
    ∙ elim (is_at p q) as (λ t. is_some (cond t (Some fresh) (map.get (state_after earlier).members p)) ≡ (t || belongs p earlier)) [ true ↦ refl | false ↦ members_run earlier p ]
members_run (Leave q ∷ earlier) p =
    ap is_some (map.get-remove vpid_total (state_after earlier).members q p)
    ∙ ap (λ t. is_some (cond t None (map.get (state_after earlier).members p))) (sym (unsigned_ties p.0 q.0))
    ∙ elim (is_at p q) as (λ t. is_some (cond t None (map.get (state_after earlier).members p)) ≡ (not t && belongs p earlier)) [ true ↦ refl | false ↦ members_run earlier p ]
members_run (Take q ∷ earlier) p = taking (state_after earlier) ∙ members_run earlier p
  where
    taking : (b : BarrierState) → is_some (map.get (after_take b q).members p) ≡ is_some (map.get b.members p)
    taking b = elim (due b q) as (λ o. is_some (map.get (after_message b q o).members p) ≡ is_some (map.get b.members p)) [
      | None ↦ refl
      | Some message ↦ get-changed is_some b.members q (with_taken message) p (λ _. refl)
    ]
members_run (Close ∷ earlier) p = ap is_some (map.get-empty vpid_cmp p)

-- what each process has taken
abbrev told : Option Member → List Message
told member = messages_to (last_taken member)

at_itself : (b : BarrierState) (p : VPid) (ms : List Message) → ms ≡ told (map.get b.members p) → ms ++ option_to_list (due b p) ≡ told (map.get (after_take b p).members p)
at_itself b p ms is =
    elim (due b p) as (λ o. due b p ≡ o → ms ++ option_to_list o ≡ told (map.get (after_message b p o).members p)) [
      | None ↦ λ none. append-nil ms ∙ is
      | Some message ↦ λ here. more message (due_told b p message here)
    ] refl
  where
    more : (message : Message) → IsDue b p message → ms ++ message ∷ [] ≡ told (map.get (changed b.members p (with_taken message)) p)
    more message d =
        ap (λ l. l ++ message ∷ []) (is ∙ ap told d.found) ∙ next_messages d.member.taken message d.next
        ∙ sym (ap told (ap (λ n. map.get (changed_to b.members p (with_taken message) n) p) d.found ∙ get_insert_same vpid_total vpid_exact b.members p (with_taken message d.member)))

at_other : (b : BarrierState) (p q : VPid) → p ≢ q → map.get (after_take b q).members p ≡ map.get b.members p
at_other b p q differ =
    elim (due b q) as (λ o. map.get (after_message b q o).members p ≡ map.get b.members p) [
      | None ↦ refl
      | Some message ↦ elim (map.get b.members q) as (λ o. map.get (changed_to b.members q (with_taken message) o) p ≡ map.get b.members p) [
        | None ↦ refl
        | Some m ↦ get_insert_other vpid_total vpid_exact b.members q (with_taken message m) p differ
      ]
    ]

same_pid : (p q : VPid) → p.0 ≡ q.0 → p ≡ q
same_pid p q is = ap (λ (n : ℕ). record { 0 = n }) is

took : (b : BarrierState) (p q : VPid) (ms : List Message) → ms ≡ told (map.get b.members p)
    → cond (is_at p q) (ms ++ option_to_list (due b p)) ms ≡ told (map.get (after_take b q).members p)
took b p q ms is =
    elim (same_or_other vpid_total vpid_exact p q) [
      | inl same ↦ subst (λ k. cond (is_at p k) (ms ++ option_to_list (due b p)) ms ≡ told (map.get (after_take b k).members p)) same
          (ap (λ t. cond t (ms ++ option_to_list (due b p)) ms) (eq-eqb p.0 p.0 refl) ∙ at_itself b p ms is)
      | inr differ ↦
          ap (λ t. cond t (ms ++ option_to_list (due b p)) ms) (ne_eqb p.0 q.0 (λ same. differ (same_pid p q same)))
          ∙ is ∙ sym (ap told (at_other b p q differ))
    ]

pub messages_run : (run : List Call) (p : VPid) → messages p run ≡ messages_to (last_taken (map.get (state_after run).members p))
messages_run [] p = sym (ap told (map.get-empty vpid_cmp p))
messages_run (Ask live ∷ earlier) p =
    ap (λ t. cond t (messages p earlier) []) (sym (open_run earlier)) ∙ asking (state_after earlier) (messages_run earlier p)
  where
    none_taken : (o : Option Member) → ((m : Member) → o ≡ Some m → fresh ≡ m) → [] ≡ told o
    none_taken None is = refl
    none_taken (Some m) is = ap (λ w. messages_to w.taken) (is m refl)

    asking : (b : BarrierState) → messages p earlier ≡ told (map.get b.members p) → cond b.is_open (messages p earlier) [] ≡ told (map.get (after_ask b live).members p)
    asking b is = elim b.is_open as (λ o. cond o (messages p earlier) [] ≡ told (map.get (cond o b (record { is_open = true; members = asked live })).members p)) [
      | true ↦ is
      | false ↦ none_taken (map.get (asked live) p) (λ m at. asked-fresh live p m (sym (map.get-from_entries vpid_total (each (λ q. (q, fresh)) live) p) ∙ at))
    ]
messages_run (Reach q stage ∷ earlier) p = messages_run earlier p ∙ sym (after_reach told (state_after earlier) q stage p (λ _. refl))
messages_run (Join q ∷ earlier) p =
    elim (is_at p q) as (λ t. cond t [] (messages p earlier) ≡ told (cond t (Some fresh) (map.get (state_after earlier).members p))) [ true ↦ refl | false ↦ messages_run earlier p ]
    ∙ ap (λ t. told (cond t (Some fresh) (map.get (state_after earlier).members p))) (unsigned_ties p.0 q.0)
    ∙ sym (ap told (map.get-insert vpid_total (state_after earlier).members q fresh p))
messages_run (Leave q ∷ earlier) p =
    elim (is_at p q) as (λ t. cond t [] (messages p earlier) ≡ told (cond t None (map.get (state_after earlier).members p))) [ true ↦ refl | false ↦ messages_run earlier p ]
    ∙ ap (λ t. told (cond t None (map.get (state_after earlier).members p))) (unsigned_ties p.0 q.0)
    ∙ sym (ap told (map.get-remove vpid_total (state_after earlier).members q p))
messages_run (Take q ∷ earlier) p = took (state_after earlier) p q (messages p earlier) (messages_run earlier p)
messages_run (Close ∷ earlier) p = sym (ap told (map.get-empty vpid_cmp p))

pub messages_first : (run : List Call) (p : VPid) → messages p run ≡ take (length (messages p run)) all_messages
messages_first run p =
    let is = messages_run run p in
    is ∙ first_messages (last_taken (map.get (state_after run).members p)) ∙ ap (λ l. take (length l) all_messages) (sym is)
