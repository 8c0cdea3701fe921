-- Which record leads where, from a plain state in which a process has this part.
--     user_goes, fault_goes, local_goes, serve_goes      of a quantum and of a call
--     deliver_goes, due_has_thread, due_is_signal        of a signal that is due
--     missing_part, same_part, seen_put                  of the guests that stand for it
--     put_takes, put_valid                               a record that changes one part alone
use Rattle.std.proofs.Common.{◌≡◌, ℕ, ◌-◌, ◌^◌, ◌≤◌, Bool, true, false, not, cond, List, [], Option, Some, None, inl, inr, refl, sym, ap, ◌∙◌, arith, tests}
use Rattle.std.specs.Prelude.{◌==◌, ◌||◌, ◌&&◌, ◌⊎◌, bit_and, nat_le, is_some, IsTrue, option_and_then}
use Rattle.std.specs.Option.{option_map}
use Rattle.std.specs.FinMap as map
use Rattle.std.proofs.lemmas.Nat.{and_le_r}
use Rattle.views.specs.Maps.{map_values}
use Rattle.views.proofs.MapLaws.{true_false}
use Rattle.views.proofs.MapValues.{get-map_values, map_values-insert}
use Rattle.sys_abi.specs.declared.identity.VPid.{VPid}
use Rattle.sys_abi.specs.declared.identity.Tid.{Tid}
use Rattle.sys_abi.specs.declared.identity.Signal.{Signal}
use Rattle.sys_abi.specs.declared.record.Record.{Record}
use Rattle.sys_abi.specs.declared.record.Record.TheVariants.{User, Call, Deliver}
use Rattle.call_table.specs.declared.request.Request.{Request}
use Rattle.call_table.specs.Requests.{is_local}
use Rattle.sys_abi.specs.Signals.{is_signal, has_signal}
use Rattle.sys_abi.proofs.OrderLaws.{vpid_total, vpid_exact}
use Rattle.trace_log.specs.Trace.{TraceState, with_record}
use Rattle.plain_process.specs.declared.user_part.UserPart.{UserPart}
use Rattle.plain_process.specs.declared.user_part.ThreadPart.{ThreadPart}
use Rattle.plain_process.specs.Buffers.{lent}
use Rattle.plain_process.specs.Deliveries.{Delivery, deliver, traps_with}
use Rattle.plain_process.specs.Local.{local_row}
use Rattle.plain_process.specs.Put.{put_fault}
use Rattle.plain_process.specs.Steps.{UserStep, Stepped, Asks, Trapped, Waits, NoThread, user_step, user_steps}
use Rattle.plain_machine.specs.declared.plain.Plain.{Plain}
use Rattle.plain_machine.specs.declared.kernel.PlainKernel.{PlainKernel}
use Rattle.plain_machine.specs.Attempts.{Served}
use Rattle.plain_machine.specs.Kernel.{after_take}
use Rattle.plain_machine.specs.Serve.{serve}
use Rattle.plain_machine.specs.Valid.{IsValid}
use Rattle.plain_machine.specs.Records.{Outcome, outcome, quiet, living, users_after, stands, with_user, if_ends, is_unready, delivered, deliverable, outcome_of_user, outcome_of_lent, outcome_of_serve, outcome_of_signal, outcome_of_pending}
use Rattle.plain_machine.proofs.LocalBounds.{asks_there}
use Rattle.guest_proc.specs.Guests.{GuestPart}
use Rattle.guest_proc.proofs.LocalAnswers.{local_fault}
use Rattle.computation.specs.declared.computation.Computation.{Computation}
use Rattle.computation.specs.Computations.{plain_of}
use Rattle.computation.specs.Parts.{Guests, kernel_found, delivery_at}
use Rattle.edge_io.specs.Sunk.{sunk}
use Rattle.computation.specs.Takes.{Takes, CanDeliver}
use Rattle.computation.proofs.States.{seen}
use Rattle.computation.proofs.Taking.{quiet_takes, valid_after}
use Rattle.computation.proofs.Threads.{asked, signals}
use Rattle.computation.proofs.Traps.{trap_is_signal}

in_quantum : (n : ℕ) → 1 ≤ n → n ≤ 4096 → (nat_le 1 n && nat_le n 4096) ≡ true
in_quantum n some most = grind (arith, tests)

ends_if_whole : (n : ℕ) (b : Bool) → (n ≡ 4096) ⊎ (b ≡ true) → ((n == 4096) || b) ≡ true
ends_if_whole n b (inl whole) = grind (arith, tests)
ends_if_whole n b (inr stand) = grind (arith, tests)

pub user_goes : (g : Plain) (p : VPid) (t : Tid) (n : ℕ) (user next : UserPart) → map.get g.users p ≡ Some user → 1 ≤ n → n ≤ 4096 → user_steps n user t.0 ≡ Some next
    → (n ≡ 4096) ⊎ (stands (user_step next t.0) ≡ true) → outcome g (User p t n) ≡ Some (quiet (with_user g p next))
unfolding outcome
user_goes g p t n user next there some most steps ending =
    ap (outcome_of_user g p t.0 n) there
    ∙ ap (λ b. cond b (option_and_then (if_ends g p t.0 n) (user_steps n user t.0)) None) (in_quantum n some most)
    ∙ ap (option_and_then (if_ends g p t.0 n)) steps
    ∙ ap (λ b. cond b (Some (quiet (with_user g p next))) None) (ends_if_whole n (stands (user_step next t.0)) ending)

pub fault_goes : (g : Plain) (p : VPid) (t : Tid) (user : UserPart) (q : Request) → map.get g.users p ≡ Some user → user_step user t.0 ≡ Asks q → lent user.memory q ≡ None
    → outcome g (Call p t) ≡ Some (quiet (with_user g p (put_fault user t.0 q)))
fault_goes g p t user q there asks faults = asked g p t user q there asks ∙ ap (outcome_of_lent g p t.0 user q) faults

-- a call that the process answers alone, also where its buffers aren't readable or writable as it needs
pub local_goes : (g : Plain) (p : VPid) (t : Tid) (user : UserPart) (q : Request) → map.get g.users p ≡ Some user → user_step user t.0 ≡ Asks q → is_local q ≡ true
    → outcome g (Call p t) ≡ Some (quiet (with_user g p (local_row user t.0 q)))
local_goes g p t user q there asks local = asked g p t user q there asks ∙ by_lent (lent user.memory q) refl
  where
    by_lent : (read : Option (List ℕ)) → lent user.memory q ≡ read → outcome_of_lent g p t.0 user q read ≡ Some (quiet (with_user g p (local_row user t.0 q)))
    by_lent None faults = ap (λ (u : UserPart). Some (quiet (with_user g p u))) (local_fault user t.0 q (asks_there user t.0 q asks) (ap is_some faults))
    by_lent (Some given) reads =
        ap (λ b. cond b (Some (quiet (with_user g p (local_row user t.0 q)))) (outcome_of_serve g p t.0 user q (serve g.kernel p t.0 q given))) local

pub serve_goes : (g : Plain) (p : VPid) (t : Tid) (user : UserPart) (q : Request) (given : List ℕ) (served : Served) → map.get g.users p ≡ Some user → user_step user t.0 ≡ Asks q
    → lent user.memory q ≡ Some given → is_local q ≡ false → serve g.kernel p t.0 q given ≡ Some served
    → outcome g (Call p t) ≡ Some (record { state = living (record { kernel = served.kernel; users = users_after g p t.0 user q served }); console = served.console })
serve_goes g p t user q given served there asks reads kernels serves =
    asked g p t user q there asks ∙ ap (outcome_of_lent g p t.0 user q) reads
    ∙ ap (λ b. cond b (Some (quiet (with_user g p (local_row user t.0 q)))) (outcome_of_serve g p t.0 user q (serve g.kernel p t.0 q given))) kernels
    ∙ ap (outcome_of_serve g p t.0 user q) serves

-- a signal that is due
trap_signal : (user : UserPart) (t s : ℕ) (at : UserStep) → user_step user t ≡ at → traps_with at s ≡ true → IsTrue (is_signal s)
trap_signal user t s (Trapped trap) is traps = let bounds = trap_is_signal user t trap is in grind (arith, tests)
trap_signal user t s (Stepped after) is traps = true_false (sym traps)
trap_signal user t s (Asks q) is traps = true_false (sym traps)
trap_signal user t s Waits is traps = true_false (sym traps)
trap_signal user t s NoThread is traps = true_false (sym traps)

in_set : (set s : ℕ) → has_signal set s ≡ true → IsTrue (is_signal s)
in_set set s has = by_test (is_signal s) has
  where
    none : bit_and set 0 ≡ 0
    none = let less = and_le_r set 0 in omega arith

    by_test : (b : Bool) → not (bit_and set (cond b (2 ^ (s - 1)) 0) == 0) ≡ true → IsTrue b
    by_test true has = refl
    by_test false has = true_false (sym has ∙ ap (λ n. not (n == 0)) none)

trap_goes_on : (g : Plain) (p : VPid) (t s : ℕ) (user : UserPart) (at : UserStep) → traps_with at s ≡ true → is_unready g p t user at ≡ false
trap_goes_on g p t s user (Trapped trap) traps = refl
trap_goes_on g p t s user (Stepped after) traps = refl
trap_goes_on g p t s user (Asks q) traps = true_false (sym traps)
trap_goes_on g p t s user Waits traps = true_false (sym traps)
trap_goes_on g p t s user NoThread traps = refl

module _ (g : Plain) (p : VPid) (t s : ℕ) (user : UserPart) where
  abbrev found_by : Bool → PlainKernel
  found_by traps = cond traps g.kernel (after_take g.kernel p t s)

  abbrev comes : PlainKernel → Delivery → Outcome
  comes k d = quiet (delivered (record { kernel = k; users = g.users }) p d)

  abbrev coming_to : Outcome
  coming_to = comes (kernel_found g.kernel p t s user) (delivery_at g.kernel g.users p t s user)

  due_by : (traps has : Bool) → traps_with (user_step user t) s ≡ traps
      → is_some (cond traps (Some (comes g.kernel (deliver user t s false))) (cond has (Some (comes (after_take g.kernel p t s) (delivery_at g.kernel g.users p t s user))) None)) ≡ true
      → cond traps (Some (comes g.kernel (deliver user t s false))) (cond has (Some (comes (after_take g.kernel p t s) (delivery_at g.kernel g.users p t s user))) None)
      ≡ Some (comes (found_by traps) (delivery_at g.kernel g.users p t s user))
  due_by true has is due = ap (λ unready. Some (comes g.kernel (deliver user t s unready))) (sym (trap_goes_on g p t s user (user_step user t) is))
  due_by false true is due = refl
  due_by false false is due = true_false (sym due)

  signal_by : (traps : Bool) → traps_with (user_step user t) s ≡ traps → (set : ℕ) (trapped taken : Outcome) → is_some (cond traps (Some trapped) (cond (has_signal set s) (Some taken) None)) ≡ true → IsTrue (is_signal s)
  signal_by true is set trapped taken due = trap_signal user t s (user_step user t) refl is
  signal_by false is set trapped taken due = by_set (has_signal set s) refl due
    where
      by_set : (has : Bool) → has_signal set s ≡ has → is_some (cond has (Some taken) None) ≡ true → IsTrue (is_signal s)
      by_set true has due = in_set set s has
      by_set false has due = true_false (sym due)

  pub record Due (found : Option ThreadPart) : Type 0 where
    pub thread : is_some found ≡ true
    pub signal : IsTrue (is_signal s)
    pub goes : outcome_of_pending g p t s user found ≡ Some coming_to

  is_due : (found : Option ThreadPart) → is_some (outcome_of_pending g p t s user found) ≡ true → Due found
  is_due None due = true_false (sym due)
  is_due (Some thread) due = record {
    thread = refl;
    signal = signal_by (traps_with (user_step user t) s) refl (deliverable g.kernel p t thread) _ _ due;
    goes = due_by (traps_with (user_step user t) s) (has_signal (deliverable g.kernel p t thread) s) refl due;
  }

module _ (g : Plain) (p : VPid) (t : Tid) (s : Signal) (user : UserPart) (there : map.get g.users p ≡ Some user) (due : CanDeliver g p t s) where
  due_at : Due g p t.0 s.0 user (map.get user.threads t.0)
  due_at = is_due g p t.0 s.0 user (map.get user.threads t.0) (ap is_some (sym (signals g p t s user there)) ∙ due)

  pub due_has_thread : is_some (map.get user.threads t.0) ≡ true
  due_has_thread = due_at.thread

  pub due_is_signal : IsTrue (is_signal s.0)
  due_is_signal = due_at.signal

  pub deliver_goes : outcome g (Deliver p t s) ≡ Some (quiet (delivered (record { kernel = kernel_found g.kernel p t.0 s.0 user; users = g.users }) p (delivery_at g.kernel g.users p t.0 s.0 user)))
  deliver_goes = signals g p t s user there ∙ due_at.goes

-- a signal for a process that isn't there is not due
none_pending : (g : Plain) (p : VPid) (t : Tid) (s : Signal) → map.get g.users p ≡ None → outcome g (Deliver p t s) ≡ None
unfolding outcome
none_pending g p t s none = ap (λ (found : Option UserPart). outcome_of_signal g p t.0 s.0 found) none

pub due_is_there : (g : Plain) (p : VPid) (t : Tid) (s : Signal) → CanDeliver g p t s → map.get g.users p ≡ None → ⊥
due_is_there g p t s due none = true_false (sym due ∙ ap is_some (none_pending g p t s none))

-- the guests
pub missing_part : (guests : Guests) (p : VPid) → None ≡ map.get guests p → map.get (map_values (λ guest. guest.user) guests) p ≡ None
missing_part guests p none = get-map_values (λ (guest : GuestPart). guest.user) guests p ∙ ap (option_map (λ (guest : GuestPart). guest.user)) (sym none)

pub found_part : (guests : Guests) (p : VPid) (guest : GuestPart) → Some guest ≡ map.get guests p → map.get (map_values (λ guest. guest.user) guests) p ≡ Some guest.user
found_part guests p guest is = get-map_values (λ (guest : GuestPart). guest.user) guests p ∙ ap (option_map (λ (guest : GuestPart). guest.user)) (sym is)

pub nobody : {X : Type 0} (o : Option X) (x : X) → o ≡ None → o ≡ Some x → ⊥
nobody o x none some = let no : None ≡ Some x = sym none ∙ some in cc

pub same_some : (one other : GuestPart) → Some one ≡ Some other → one ≡ other
same_some one other both = cc

pub same_part : (guests : Guests) (p : VPid) (guest : GuestPart) (user : UserPart) → Some guest ≡ map.get guests p → map.get (map_values (λ guest. guest.user) guests) p ≡ Some user → guest.user ≡ user
same_part guests p guest user is there = let both : Some guest.user ≡ Some user = sym (found_part guests p guest is) ∙ there in cc

pub seen_put : (k : PlainKernel) (guests : Guests) (p : VPid) (guest : GuestPart) → seen k (map.insert guests p guest) ≡ with_user (seen k guests) p guest.user
seen_put k guests p guest =
    ap (λ users. let g : Plain = record { kernel = k; users = users } in g) (map_values-insert vpid_total vpid_exact (λ (guest : GuestPart). guest.user) guests p guest)

module _ (before : Computation) (after : Guests) (p : VPid) (guest : GuestPart) (next : UserPart) (r : Record) (goes : outcome (plain_of before) r ≡ Some (quiet (with_user (plain_of before) p next)))
    (put : after ≡ map.insert before.guests p guest) (part : guest.user ≡ next) where
  put_is : seen before.kernel after ≡ with_user (plain_of before) p next
  put_is = ap (seen before.kernel) put ∙ seen_put before.kernel before.guests p guest ∙ ap (with_user (plain_of before) p) part

  pub put_takes : (from to : TraceState) (taken : Option (List ℕ)) → to ≡ with_record from r → Takes (plain_of before) (seen before.kernel after) r from to (sunk taken taken)
  put_takes from to taken noted = quiet_takes (plain_of before) (seen before.kernel after) (with_user (plain_of before) p next) r from to taken goes put_is noted

  pub put_valid : IsValid (plain_of before) → IsValid (seen before.kernel after)
  put_valid valid = valid_after (plain_of before) (seen before.kernel after) (with_user (plain_of before) p next) r [] valid goes put_is

pub same_guest : (guests : Guests) (p : VPid) (one other : GuestPart) → map.get guests p ≡ Some one → map.get guests p ≡ Some other → one ≡ other
same_guest guests p one other first second = let both : Some one ≡ Some other = sym first ∙ second in cc
