-- Each record leads from a valid state to a valid one.
use Rattle.std.proofs.Common.{◌≡◌, ◌≢◌, ℕ, ◌+◌, ◌^◌, ◌<◌, ◌≤◌, Bool, true, false, cond, List, length, refl, sym, ap, subst, ◌∙◌, arith, ⊎_elim}
use Rattle.std.specs.Prelude.{◌&&◌, nat_le, Option, Some, None, is_some}
use Rattle.std.specs.FinMap as map
use Rattle.std.proofs.lemmas.Bool.Decides.{nat_tests}
use Rattle.plain_tables.proofs.OfViews.MapLaws.{get_insert_same, get_insert_other, get-retain, same_or_other, true_false}
use Rattle.plain_tables.specs.OfSysAbi.declared.identity.VPid.{VPid}
use Rattle.plain_tables.specs.OfSysAbi.declared.identity.Dir.{Dir}
use Rattle.plain_tables.specs.OfSysAbi.declared.record.Record.{Record}
use Rattle.plain_tables.specs.OfSysAbi.declared.record.Record.TheVariants.{User, Call, Deliver, Arrive, Cut, Drained, Refilled, Complete, Refused, Lapsed}
use Rattle.plain_tables.specs.OfCallTable.declared.request.Request.{Request}
use Rattle.plain_tables.specs.OfSysAbi.Orders.{vpid_cmp}
use Rattle.plain_tables.specs.OfCallTable.Requests.{is_local}
use Rattle.plain_tables.specs.OfSysAbi.Signals.{has_signal}
use Rattle.plain_tables.proofs.OfSysAbi.OrderLaws.{vpid_total, vpid_exact}
use Rattle.plain_machine.specs.declared.plain.Plain.{Plain}
use Rattle.plain_machine.specs.declared.kernel.PlainKernel.{PlainKernel}
use Rattle.plain_tables.specs.declared.channel.Direction.{Direction}
use Rattle.plain_tables.specs.OfPlainProcess.declared.user_part.UserPart.{UserPart}
use Rattle.plain_tables.specs.OfPlainProcess.declared.user_part.ThreadPart.{ThreadPart}
use Rattle.plain_machine.specs.Attempts.{Served}
use Rattle.plain_machine.specs.Kernel.{is_live, has_thread, after_take}
use Rattle.plain_machine.specs.Ends.{after_end}
use Rattle.plain_tables.specs.OfPlainProcess.Steps.{UserStep, Stepped, Asks, Trapped, Waits, NoThread, user_step, user_steps}
use Rattle.plain_tables.specs.OfPlainProcess.Buffers.{lent}
use Rattle.plain_tables.specs.OfPlainProcess.Put.{made_by, put}
use Rattle.plain_tables.specs.OfPlainProcess.Threads.{child_of}
use Rattle.plain_tables.specs.Tables.{pid}
use Rattle.plain_tables.specs.OfPlainProcess.Deliveries.{Delivery, Enters, Ignores, Kills, traps_with}
use Rattle.plain_machine.specs.Serve.{serve}
use Rattle.plain_machine.specs.Records.{Users, with_child, users_after, Outcome, outcome, QUANTUM, quiet, with_user, living, user_ends, if_ends, is_unready, ended_by_signal, delivered, deliverable, with_arrived, outcome_of_user, outcome_of_call, outcome_of_ask, outcome_of_lent, outcome_of_serve, outcome_of_pending, outcome_of_signal, outcome_of_arrival}
use Rattle.plain_machine.specs.Valid.{IsKernel, IsValid}
use Rattle.plain_tables.specs.OfPlainProcess.Valid.{IsUser, Each}
use Rattle.plain_machine.specs.Laws.{StepKeepsValid}
use Rattle.plain_tables.proofs.OfPlainProcess.Giving.{Giving, gives, nothing, where_, either, then_, mapped}
use Rattle.plain_machine.specs.RowLaws.{there_after, IsAsked, IsServed, IsMade}
use Rattle.plain_machine.proofs.UserParts.{Follows}
use Rattle.plain_machine.proofs.UserBounds.{keeps_steps, trap_is_small}
use Rattle.plain_machine.proofs.PutBounds.{put_has, fault_follows}
use Rattle.plain_machine.proofs.DeliveryBounds.{keeps_delivery, kills_with}
use Rattle.plain_machine.proofs.LocalBounds.{asks_there, keeps_local}
use Rattle.plain_tables.proofs.Entries.{retained}
use Rattle.plain_machine.proofs.SignalBounds.{signal_small}
use Rattle.plain_machine.proofs.WholeChanges.{whole_take, whole_arrival}
use Rattle.plain_machine.proofs.WholeEnds.{whole_ended}
use Rattle.plain_machine.proofs.EndedKernels.{kernel_ended}
use Rattle.plain_machine.proofs.CallBounds.{lent_writable}
use Rattle.plain_machine.proofs.KernelThreads.{take_threads, user_lives, known_threads, valid_from}
use Rattle.plain_machine.proofs.ThreadEnds.{HasThreads}
use Rattle.plain_machine.proofs.Asking.{stands_asked, serve_adds}
use Rattle.plain_machine.proofs.Children.{child_is}
use Rattle.plain_machine.proofs.EachRow.{each_is_served}

abbrev Valid : Option Outcome → Type 0
Valid found = Giving found (λ o. IsValid o.state)

-- another part in the place of a process's
put_there : (g : Plain) (p : VPid) (user after : UserPart) → map.get g.users p ≡ Some user → (q : VPid) → is_some (map.get (map.insert g.users p after) q) ≡ is_some (map.get g.users q)
put_there g p user after there q = ⊎_elim
    (λ here. subst (λ k. is_some (map.get (map.insert g.users p after) k) ≡ is_some (map.get g.users k)) (sym here)
    (ap is_some (get_insert_same vpid_total vpid_exact g.users p after) ∙ sym (ap is_some there)))
    (λ other. ap is_some (get_insert_other vpid_total vpid_exact g.users p after q other))
    (same_or_other vpid_total vpid_exact q p)

-- what is found after an insert is what was inserted, at its key, or was there before
module _ (P : VPid → UserPart → Type 0) (users : map.FinMap vpid_cmp UserPart) (p : VPid) (after : UserPart) (here : P p after) (elsewhere : (q : VPid) (user : UserPart) → q ≢ p → map.get users q ≡ Some user → P q user) where
  each_user : (q : VPid) (user : UserPart) → map.get (map.insert users p after) q ≡ Some user → P q user
  each_user q user found = ⊎_elim
      (λ same_key.
      let there : map.get (map.insert users p after) p ≡ Some user = subst (λ k. map.get (map.insert users p after) k ≡ Some user) same_key found in
      let same : after ≡ user = let put = get_insert_same vpid_total vpid_exact users p after in cc in
      subst (λ k. P k user) (sym same_key) (subst (P p) same here))
      (λ other. elsewhere q user other (sym (get_insert_other vpid_total vpid_exact users p after q other) ∙ found))
      (same_or_other vpid_total vpid_exact q p)

-- the part has the threads that the kernel part has of its process
abbrev Agrees : PlainKernel → VPid → UserPart → Type 0
Agrees k p user = (u : ℕ) → is_some (map.get user.threads u) ≡ has_thread k p u

user_follows : (g : Plain) (p : VPid) (user after : UserPart) → IsValid g → map.get g.users p ≡ Some user → Follows user after → IsValid (with_user g p after)
user_follows g p user after is there follows =
    valid_from (with_user g p after) is.kernel (each_user (λ q u. IsUser u) g.users p after follows.user (λ q u other found. is.users q u found)) (λ q. put_there g p user after there q ∙ is.alive q)
    (each_user (Agrees g.kernel) g.users p after (λ u. follows.threads u ∙ known_threads g p user is there u) (λ q u other found. known_threads g q u is found))

-- the parts of those that live over a next kernel part
living_valid : (users : map.FinMap vpid_cmp UserPart) (next : PlainKernel) → IsKernel next → Each users (λ q user. IsUser user) → ((q : VPid) → is_live next q ≡ true → is_some (map.get users q) ≡ true)
    → ((q : VPid) (user : UserPart) → map.get users q ≡ Some user → is_live next q ≡ true → Agrees next q user) → IsValid (living (record { kernel = next; users = users }))
living_valid users next kernel are there agree =
    valid_from (living (record { kernel = next; users = users })) kernel (λ q user found. are q user (retained vpid_total vpid_exact users (is_live next) q user found).1)
    (λ q. ap is_some (get-retain vpid_total vpid_exact users (is_live next) q) ∙ live_parts q (is_live next q) refl)
    (λ q user found. let kept = retained vpid_total vpid_exact users (is_live next) q user found in agree q user kept.1 kept.0)
  where
    live_parts : (q : VPid) (b : Bool) → is_live next q ≡ b → is_some (cond b (map.get users q) None) ≡ b
    live_parts q true alive = there q alive
    live_parts q false alive = refl

-- deliveries
ended_valid : (g : Plain) (p : VPid) (status : ℕ) → IsValid g → is_live g.kernel p ≡ true → status < 2 ^ 32 → IsValid (ended_by_signal g p status)
ended_valid g p status is alive word =
    let over = kernel_ended g.kernel p status is.kernel alive in
    let other : (q : VPid) → is_live (after_end g.kernel p status) q ≡ true → q ≢ p = λ q lives same. true_false (sym lives ∙ ap (is_live (after_end g.kernel p status)) same ∙ over.gone) in
    living_valid g.users (after_end g.kernel p status) (whole_ended g.kernel p status is.kernel alive word) is.users
    (λ q lives. is.alive q ∙ sym (over.live q (other q lives)) ∙ lives)
    (λ q user found lives u. known_threads g q user is found u ∙ sym (over.threads q u (other q lives)))

delivered_valid : (g : Plain) (p : VPid) (user : UserPart) (d : Delivery) → IsValid g → map.get g.users p ≡ Some user → ((after : UserPart) → d ≡ Enters after → Follows user after)
    → ((status : ℕ) → d ≡ Kills status → status < 2 ^ 32) → IsValid (delivered g p d)
delivered_valid g p user (Enters after) is there enters kills = user_follows g p user after is there (enters after refl)
delivered_valid g p user Ignores is there enters kills = is
delivered_valid g p user (Kills status) is there enters kills = ended_valid g p status is (user_lives g p user is there) (kills status refl)

abbrev taken : Plain → VPid → ℕ → ℕ → Plain
taken g p t s = record { kernel = after_take g.kernel p t s; users = g.users }

taken_valid : (g : Plain) (p : VPid) (t s : ℕ) → IsValid g → IsKernel (after_take g.kernel p t s) → IsValid (taken g p t s)
taken_valid g p t s is kernel =
    let keeps = take_threads g.kernel p t s in
    valid_from (taken g p t s) kernel is.users (λ q. is.alive q ∙ sym (keeps.live q)) (λ q user found u. known_threads g q user is found u ∙ sym (keeps.threads q u))

module _ (g : Plain) (is : IsValid g) where
  valid_quiet : Valid (Some (quiet g))
  valid_quiet = gives (quiet g) is

  valid_after : (p : VPid) (user after : UserPart) → map.get g.users p ≡ Some user → Follows user after → Valid (Some (quiet (with_user g p after)))
  valid_after p user after there follows = gives (quiet (with_user g p after)) (user_follows g p user after is there follows)

  -- a process's own steps
  valid_user : (p : VPid) (t n : ℕ) (found : Option UserPart) → map.get g.users p ≡ found → Valid (outcome_of_user g p t n found)
  valid_user p t n None there = nothing
  valid_user p t n (Some user) there = where_ (nat_le 1 n && nat_le n QUANTUM) (λ counted.
      then_ (user_steps n user t) {f = if_ends g p t n} (λ after goes.
      where_ (user_ends n t after) (λ ends. valid_after p user after there ((keeps_steps n user t (is.users p user there)).each after goes))))

  -- calls
  module _ (p : VPid) (t : ℕ) (user : UserPart) (q : Request) (there : map.get g.users p ≡ Some user) (asks : user_step user t ≡ Asks q) where
    module _ (given : List ℕ) (served : Served) (reads : lent user.memory q ≡ Some given) (goes : serve g.kernel p t q given ≡ Some served) where
      asked : IsAsked g.kernel p t q given
      asked = stands_asked g user p t q given is there asks reads

      law : IsServed g.kernel p t q given served
      law = each_is_served g.kernel p t q given served asked goes

      abbrev next_pid : VPid
      next_pid = pid g.kernel.next_id

      abbrev answered : UserPart
      answered = put user t q served.reply served.bytes

      after_has : HasThreads user answered (there_after t q served.reply)
      after_has =
          put_has user t q served.reply (is.users p user there) law.answer.reply (serve_adds g user p q served.reply is there law.adds) (λ new added. asked.request) served.bytes law.answer.bytes
          (law.answer.room user.memory reads) (asks_there user t q asks)

      -- of the processes that were there
      abbrev parts : Users
      parts = map.insert g.users p answered

      users_are : Each parts (λ r u. IsUser u)
      users_are = each_user (λ r u. IsUser u) g.users p answered after_has.user (λ r u other found. is.users r u found)

      lived : (r : VPid) → r ≢ next_pid → is_live served.kernel r ≡ true → is_live g.kernel r ≡ true
      lived r new now = ⊎_elim
          (λ here. subst (λ x. is_live g.kernel x ≡ true) (sym here) asked.alive)
          (λ other. sym (law.live r other new) ∙ now)
          (same_or_other vpid_total vpid_exact r p)

      users_there : (r : VPid) → r ≢ next_pid → is_live served.kernel r ≡ true → is_some (map.get parts r) ≡ true
      users_there r new now = put_there g p user answered there r ∙ is.alive r ∙ lived r new now

      users_agree : (r : VPid) (v : UserPart) → map.get parts r ≡ Some v → r ≢ next_pid → is_live served.kernel r ≡ true → Agrees served.kernel r v
      users_agree = each_user (λ r v. r ≢ next_pid → is_live served.kernel r ≡ true → Agrees served.kernel r v) g.users p answered
          (λ new now u. after_has.threads u ∙ ap (there_after t q served.reply u) (known_threads g p user is there u) ∙ sym (law.here u now))
          (λ r v other found new now u. known_threads g r v is found u ∙ sym (law.elsewhere r u other new))

      abbrev child_part : UserPart
      child_part = child_of user t g.kernel.next_id q

      child_there : (r : VPid) → is_live served.kernel r ≡ true → is_some (map.get (map.insert parts next_pid child_part) r) ≡ true
      child_there r now = ⊎_elim
          (λ here. subst (λ k. is_some (map.get (map.insert parts next_pid child_part) k) ≡ true) (sym here) (ap is_some (get_insert_same vpid_total vpid_exact parts next_pid child_part)))
          (λ other. ap is_some (get_insert_other vpid_total vpid_exact parts next_pid child_part r other) ∙ users_there r other now)
          (same_or_other vpid_total vpid_exact r next_pid)

      valid_with : (made : Option ℕ) → made_by q served.reply ≡ made → IsMade g.kernel served.kernel made → IsValid (living (record { kernel = served.kernel; users = with_child parts user t q g.kernel.next_id made }))
      valid_with None none nobody =
          let new : (r : VPid) → is_live served.kernel r ≡ true → r ≢ next_pid = λ r now same. true_false (sym now ∙ ap (is_live served.kernel) same ∙ nobody) in
          living_valid parts served.kernel law.kernel users_are (λ r now. users_there r (new r now) now) (λ r v found now. users_agree r v found (new r now) now)
      valid_with (Some number) makes made =
          let last = is.kernel.numbers.last_id in
          let born = child_is user t g.kernel.next_id q served.reply number (is.users p user there) asked.request (omega arith) (asks_there user t q asks)
          ((lent_writable user.memory q).each given reads) makes in
          living_valid (map.insert parts next_pid child_part) served.kernel law.kernel
          (each_user (λ r u. IsUser u) parts next_pid child_part born.user (λ r u other found. users_are r u found))
          child_there
          (λ r v found now. each_user (λ r v. is_live served.kernel r ≡ true → Agrees served.kernel r v) parts next_pid child_part
          (λ now u. born.threads u ∙ sym (made.2 u)) (λ r v other found now. users_agree r v found other now) r v found now)

      valid_served : IsValid (living (record { kernel = served.kernel; users = users_after g p t user q served }))
      valid_served = valid_with (made_by q served.reply) refl law.made

    valid_serve : (given : List ℕ) (served : Option Served) → lent user.memory q ≡ Some given → serve g.kernel p t q given ≡ served → Valid (outcome_of_serve g p t user q served)
    valid_serve given None reads goes = nothing
    valid_serve given (Some served) reads goes = gives _ (valid_served given served reads goes)

    valid_lent : (given : Option (List ℕ)) → lent user.memory q ≡ given → Valid (outcome_of_lent g p t user q given)
    valid_lent None reads = valid_after p user _ there (fault_follows user t q (is.users p user there) (asks_there user t q asks) reads)
    valid_lent (Some given) reads =
        either (is_local q) (λ alone. valid_after p user _ there (keeps_local user t q (is.users p user there) asks alone)) (λ global. valid_serve given (serve g.kernel p t q given) reads refl)

  valid_ask : (p : VPid) (t : ℕ) (user : UserPart) (at : UserStep) → map.get g.users p ≡ Some user → user_step user t ≡ at → Valid (outcome_of_ask g p t user at)
  valid_ask p t user (Asks q) there asks = valid_lent p t user q there asks (lent user.memory q) refl
  valid_ask p t user (Stepped after) there asks = nothing
  valid_ask p t user (Trapped s) there asks = nothing
  valid_ask p t user Waits there asks = nothing
  valid_ask p t user NoThread there asks = nothing

  valid_call : (p : VPid) (t : ℕ) (found : Option UserPart) → map.get g.users p ≡ found → Valid (outcome_of_call g p t found)
  valid_call p t None there = nothing
  valid_call p t (Some user) there = valid_ask p t user (user_step user t) there refl

  -- signals
  valid_pending : (p : VPid) (t s : ℕ) (user : UserPart) (found : Option ThreadPart) → map.get g.users p ≡ Some user → Valid (outcome_of_pending g p t s user found)
  valid_pending p t s user None there = nothing
  valid_pending p t s user (Some thread) there =
      either (traps_with (user_step user t) s)
      (λ traps.
      let signal = trap_is_small user t s (is.users p user there) traps in
      gives (quiet _) (delivered_valid g p user _ is there (keeps_delivery user t s false (is.users p user there))
      (λ status kills. kills_with user t s false (is.users p user there) status kills (omega arith))))
      (λ other. where_ (has_signal (deliverable g.kernel p t thread) s) (λ pending.
      let signal = signal_small (deliverable g.kernel p t thread) s pending in
      let unready = is_unready g p t user (user_step user t) in
      gives (quiet _) (delivered_valid (taken g p t s) p user _ (taken_valid g p t s is (whole_take g.kernel p is.kernel t s)) there
      (keeps_delivery user t s unready (is.users p user there))
      (λ status kills. kills_with user t s unready (is.users p user there) status kills (omega arith)))))

  valid_signal : (p : VPid) (t s : ℕ) (found : Option UserPart) → map.get g.users p ≡ found → Valid (outcome_of_signal g p t s found)
  valid_signal p t s None there = nothing
  valid_signal p t s (Some user) there = valid_pending p t s user (map.get user.threads t) there

  -- arrivals
  valid_arrived : (dir : Dir) (direction : Direction) (n : ℕ) → map.get g.kernel.directions dir ≡ Some direction → direction.arrived + n ≤ length direction.left → IsValid (with_arrived g dir direction n)
  unfolding is_live
  valid_arrived dir direction n there fits = record {
    kernel = whole_arrival g.kernel dir direction n is.kernel there fits;
    users = is.users;
    alive = is.alive;
    threads = is.threads;
  }

  valid_arrival : (dir : Dir) (n : ℕ) (found : Option Direction) → map.get g.kernel.directions dir ≡ found → Valid (outcome_of_arrival g dir n found)
  valid_arrival dir n None there = nothing
  valid_arrival dir n (Some direction) there = where_ (nat_le 1 n && nat_le (direction.arrived + n) (length direction.left)) (λ tests.
      gives (quiet (with_arrived g dir direction n)) (valid_arrived dir direction n there (grind (arith, nat_tests, tests))))

  valid_outcome : (r : Record) → Valid (outcome g r)
  unfolding outcome
  valid_outcome (User p t n) = valid_user p t.0 n (map.get g.users p) refl
  valid_outcome (Call p t) = valid_call p t.0 (map.get g.users p) refl
  valid_outcome (Deliver p t s) = valid_signal p t.0 s.0 (map.get g.users p) refl
  valid_outcome (Arrive dir n) = valid_arrival dir n (map.get g.kernel.directions dir) refl
  valid_outcome (Cut generation) = valid_quiet
  valid_outcome (Drained dir n) = valid_quiet
  valid_outcome (Refilled dir n) = valid_quiet
  valid_outcome (Complete generation) = valid_quiet
  valid_outcome (Refused cause) = valid_quiet
  valid_outcome Lapsed = valid_quiet

pub step_keeps_valid : StepKeepsValid
step_keeps_valid g next r is goes = (mapped {P = IsValid} (λ o. o.state) (valid_outcome g is r)).each next goes
