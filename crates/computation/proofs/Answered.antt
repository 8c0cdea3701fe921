-- A call of the kernel that was served: what its answer can do, and what it leaves of the computation.
--     answered, waits_never      what the kernel's answer tells
--     law, answer_fits, answer_adds      of the answer
--     made_of, lives_of          of the processes after it
--     left_living                the state after it
--     made_value, makes_fork, lent_twin      of the child that it makes
--     guest_at, grown_at   the caller's guest
--     final_is             the parts of those who live after it
use Rattle.std.proofs.Common.{◌≡◌, ◌≢◌, ℕ, Bool, true, false, cond, List, Option, Some, None, inl, inr, refl, sym, ap, subst, ◌∙◌}
use Rattle.std.specs.Prelude.{◌⊎◌, is_some, IfSome}
use Rattle.std.specs.Option.{option_map}
use Rattle.std.specs.FinMap as map
use Rattle.views.specs.Maps.{map_values}
use Rattle.views.proofs.MapLaws.{true_false, same_or_other, insert_same, get_insert_same, get_insert_other, get_remove_same, get_remove_other}
use Rattle.views.proofs.MapValues.{get-map_values, map_values-insert, map_values-remove}
use Rattle.sys_abi.specs.declared.cloning.CloneForm.{CloneForm}
use Rattle.sys_abi.specs.declared.cloning.CloneForm.TheVariants.{Fork, Thread}
use Rattle.sys_abi.specs.Clones.{clone_form}
use Rattle.sys_abi.specs.declared.identity.VPid.{VPid}
use Rattle.sys_abi.specs.declared.reply.Reply.{Reply}
use Rattle.sys_abi.specs.declared.reply.Reply.TheVariants.{Value, Error}
use Rattle.call_table.specs.declared.request.Request.{Request}
use Rattle.call_table.specs.declared.request.Request.TheVariants.{Clone}
use Rattle.sys_abi.specs.declared.reply.Errno.{Errno}
use Rattle.sys_abi.proofs.OrderLaws.{vpid_total, vpid_exact}
use Rattle.plain_tables.specs.Tables.{pid}
use Rattle.plain_process.specs.declared.user_part.UserPart.{UserPart}
use Rattle.plain_process.specs.Buffers.{lent, filled_spans}
use Rattle.plain_process.specs.Put.{CanTake, made_as, made_by, put}
use Rattle.plain_process.specs.Steps.{Asks, user_step}
use Rattle.plain_process.specs.Threads.{child_of}
use Rattle.plain_process.specs.Twins.{twin_of}
use Rattle.plain_process.specs.Valid.{CanAdd}
use Rattle.plain_machine.specs.declared.plain.Plain.{Plain}
use Rattle.plain_machine.specs.declared.kernel.PlainKernel.{PlainKernel}
use Rattle.plain_process.specs.Attempts.{Try, Fails, NotReady, Gives}
use Rattle.plain_machine.specs.Attempts.{Served, settled, refused}
use Rattle.host_tables.specs.declared.attempt.Attempt.TheVariants as attempt
use Rattle.host_tables.specs.declared.reply.KernelReply.{KernelReply}
use Rattle.host_tables.specs.declared.reply.KernelReply.TheVariants as waits
use Rattle.host_tables.specs.Serves.{IsReply}
use Rattle.wrap_calls.specs.HandedOn.{Answers}
use Rattle.plain_machine.specs.Kernel.{is_live}
use Rattle.plain_machine.specs.Records.{Users, living, users_after, with_child}
use Rattle.plain_machine.specs.RowLaws.{IsServed, IsMade}
use Rattle.plain_machine.specs.Serve.{row, serve}
use Rattle.plain_machine.specs.Valid.{IsValid}
use Rattle.plain_machine.proofs.Asking.{stands_asked, serve_adds}
use Rattle.plain_machine.proofs.EachRow.{each_is_served}
use Rattle.plain_machine.proofs.RowBounds.{next_is_nobody, next_is_other}
use Rattle.guest_proc.specs.Guests.{GuestPart}
use Rattle.computation.specs.Parts.{Guests, HasServed, grown_by, is_fork, is_fork_form, left_by, told_as}
use Rattle.computation.proofs.Living.{kept_if, gone_if, living_is}
use Rattle.computation.proofs.States.{seen}

-- what a call that was served left
by_row : (before after : PlainKernel) (p : VPid) (t : ℕ) (q : Request) (given left : List ℕ) (reply : Reply)
    (m : Try Served) → row before p t q given ≡ m → is_some (settled before m) ≡ true
    → Answers before after given left (told_as reply) m → HasServed before after p t q given left reply
unfolding serve
by_row before after p t q given left (Value n) (Fails e) is goes told =
    let no : attempt.Gives n ≡ attempt.Fails (record { 0 = e }) = told.1.0 in absurd (cc)
by_row before after p t q given left (Value n) NotReady is goes told = true_false (sym goes)
by_row before after p t q given left (Value n) (Gives s) is goes told = record {
  served = s;
  serves = ap (settled before) is;
  kernel = told.0;
  answer = value_is s.reply told.1.0;
  bytes = told.1.1;
}
  where
    value_is : (reply : Reply) → IsReply (λ n m. n ≡ m) (attempt.Gives n) reply → Value n ≡ reply
    value_is (Value m) same = ap (λ (x : ℕ). Value x) same
    value_is (Error f) same = absurd same
by_row before after p t q given left (Error f) (Fails e) is goes told = record {
  served = refused before e;
  serves = ap (settled before) is;
  kernel = told.0;
  answer = let same : attempt.Fails f ≡ attempt.Fails (record { 0 = e }) = told.1.0 in
      let equal : f ≡ record { 0 = e } = cc in ap (λ (x : Errno). Error x) equal;
  bytes = told.1.1;
}
by_row before after p t q given left (Error f) NotReady is goes told = true_false (sym goes)
by_row before after p t q given left (Error f) (Gives s) is goes told = record {
  served = s;
  serves = ap (settled before) is;
  kernel = told.0;
  answer = error_is s.reply told.1.0;
  bytes = told.1.1;
}
  where
    error_is : (reply : Reply) → IsReply (λ n m. n ≡ m) (attempt.Fails f) reply → Error f ≡ reply
    error_is (Value m) same = absurd same
    error_is (Error g) same = ap (λ (x : Errno). Error x) same

module _ (before after : PlainKernel) (p : VPid) (t : ℕ) (q : Request) (given left : List ℕ)
    (goes : is_some (serve before p t q given) ≡ true) where
  pub answered : (reply : Reply) (told : KernelReply) → told ≡ told_as reply
      → Answers before after given left told (row before p t q given)
      → HasServed before after p t q given left reply
  unfolding serve
  answered reply told is answers =
      by_row before after p t q given left reply (row before p t q given) refl goes
      (subst (λ (x : KernelReply). Answers before after given left x (row before p t q given)) is answers)

  -- it does not wait
  by_wait : (m : Try Served) → is_some (settled before m) ≡ true
      → Answers before after given left waits.NotReady m → ⊥
  by_wait (Fails e) goes answers =
      let no : attempt.NotReady ≡ attempt.Fails (record { 0 = e }) = answers.1.0 in cc
  by_wait NotReady goes answers = true_false (sym goes)
  by_wait (Gives s) goes answers = no_reply s.reply answers.1.0
    where
      no_reply : (reply : Reply) → IsReply (λ n m. n ≡ m) attempt.NotReady reply → ⊥
      no_reply (Value m) same = same
      no_reply (Error g) same = same

  pub waits_never : (told : KernelReply)
      → Answers before after given left told (row before p t q given) → told ≢ waits.NotReady
  unfolding serve
  waits_never told answers is =
      by_wait (row before p t q given) goes
      (subst (λ (x : KernelReply). Answers before after given left x (row before p t q given)) is answers)

module _ (g : Plain) (valid : IsValid g) (p : VPid) (t : ℕ) (q : Request) (user : UserPart)
    (there : map.get g.users p ≡ Some user) (asks : user_step user t ≡ Asks q) (given : List ℕ)
    (reads : lent user.memory q ≡ Some given) (served : Served)
    (serves : serve g.kernel p t q given ≡ Some served) where
  pub law : IsServed g.kernel p t q given served
  law = each_is_served g.kernel p t q given served (stands_asked g user p t q given valid there asks reads) serves

  pub answer_fits : CanTake user.memory (filled_spans user.memory q) served.bytes
  answer_fits = law.answer.room user.memory reads

  pub answer_adds : CanAdd user q served.reply
  answer_adds = serve_adds g user p q served.reply valid there law.adds

module _ (g : Plain) (valid : IsValid g) (p : VPid) (t : ℕ) (q : Request) (user : UserPart)
    (there : map.get g.users p ≡ Some user) (asks : user_step user t ≡ Asks q) (given : List ℕ)
    (reads : lent user.memory q ≡ Some given) (after : PlainKernel) (left : List ℕ) (reply : Reply)
    (has : HasServed g.kernel after p t q given left reply) where
  its_law : IsServed g.kernel p t q given has.served
  its_law = law g valid p t q user there asks given reads has.served has.serves

  pub made_of : IsMade g.kernel after (made_by q reply)
  made_of =
      subst (λ (k : PlainKernel). IsMade g.kernel k (made_by q reply)) (sym has.kernel)
      (subst (λ (r : Reply). IsMade g.kernel has.served.kernel (made_by q r)) (sym has.answer) its_law.made)

  pub lives_of : (r : VPid) → r ≢ p → r ≢ pid g.kernel.next_id → is_live after r ≡ is_live g.kernel r
  lives_of r other new = ap (λ (k : PlainKernel). is_live k r) has.kernel ∙ its_law.live r other new

-- the state that the call's record leads to, in words of what the call left
pub left_living : (g : Plain) (p : VPid) (t : ℕ) (q : Request) (user part : UserPart) (after : PlainKernel)
    (reply : Reply) (served : Served) → served.kernel ≡ after → served.reply ≡ reply
    → put user t q served.reply served.bytes ≡ part
    → living (record { kernel = served.kernel; users = users_after g p t user q served })
    ≡ living (record {
      kernel = after;
      users = with_child (map.insert g.users p part) user t q g.kernel.next_id (made_by q reply);
    })
left_living g p t q user part after reply served kernel answer put_is =
    ap (λ (k : PlainKernel). living (record { kernel = k; users = users_after g p t user q served })) kernel
    ∙ ap (λ (r : Reply). living (record {
      kernel = after;
      users = with_child (map.insert g.users p (put user t q served.reply served.bytes)) user t q g.kernel.next_id
          (made_by q r);
    })) answer
    ∙ ap (λ (u : UserPart). living (record {
      kernel = after;
      users = with_child (map.insert g.users p u) user t q g.kernel.next_id (made_by q reply);
    })) put_is

-- the child that an answer makes
form_value : (reply : Reply) (form : Option CloneForm) (n : ℕ) → made_as reply form ≡ Some n → made_as (Value n) form ≡ Some n
form_value (Value v) (Some Fork) n is = refl
form_value (Value v) (Some Thread) n is = absurd (cc)
form_value (Value v) None n is = absurd (cc)
form_value (Error e) form n is = absurd (cc)

pub made_value : (q : Request) (reply : Reply) (n : ℕ) → made_by q reply ≡ Some n → made_by q (Value n) ≡ Some n
unfolding made_by
made_value (Clone flags stack parent_tid tls child_tid) reply n is = form_value reply (clone_form flags) n is
made_value _ reply n is = absurd (cc)

form_forks : (reply : Reply) (form : Option CloneForm) (n : ℕ) → made_as reply form ≡ Some n → is_fork_form form ≡ true
form_forks (Value v) (Some Fork) n is = refl
form_forks (Value v) (Some Thread) n is = absurd (cc)
form_forks (Value v) None n is = absurd (cc)
form_forks (Error e) form n is = absurd (cc)

pub makes_fork : (q : Request) (reply : Reply) (n : ℕ) → made_by q reply ≡ Some n → is_fork q ≡ true
unfolding made_by
makes_fork (Clone flags stack parent_tid tls child_tid) reply n is = form_forks reply (clone_form flags) n is
makes_fork _ reply n is = absurd (cc)

pub lent_twin : (fork : Bool) (twin : Option GuestPart) (p : VPid) (user : UserPart) (t : ℕ) (q : Request) (given : List ℕ) → lent user.memory q ≡ Some given
    → twin ≡ cond fork (Some (record { pid = p; user = twin_of user t; spare = 0 })) None → IfSome twin (λ twin. is_some (lent twin.user.memory q) ≡ true)
lent_twin true twin p user t q given reads is = subst (λ (twin : Option GuestPart). IfSome twin (λ twin. is_some (lent twin.user.memory q) ≡ true)) (sym is) (ap is_some reads)
lent_twin false twin p user t q given reads is = subst (λ (twin : Option GuestPart). IfSome twin (λ twin. is_some (lent twin.user.memory q) ≡ true)) (sym is) tt

-- whether a child was made
pub born_as : (k after : PlainKernel) (made : Option ℕ) → IsMade k after made → is_live after (pid k.next_id) ≡ true → made ≡ Some k.next_id
born_as k after None nobody lives = true_false (sym lives ∙ nobody)
born_as k after (Some n) made lives = ap (λ (x : ℕ). Some x) made.0

pub unborn_as : (k after : PlainKernel) (made : Option ℕ) → IsMade k after made → is_live after (pid k.next_id) ≡ false → made ≡ None
unborn_as k after None nobody dead = refl
unborn_as k after (Some n) made dead = true_false (sym made.1 ∙ dead)

-- the caller's guest
pub guest_at : (guests : Guests) (p : VPid) (user : UserPart) → map.get (map_values (λ guest. guest.user) guests) p ≡ Some user → (guest : GuestPart) × (map.get guests p ≡ Some guest)
guest_at guests p user there = by_found (map.get guests p) refl
  where
    by_found : (found : Option GuestPart) → map.get guests p ≡ found → (guest : GuestPart) × (map.get guests p ≡ Some guest)
    by_found None is =
        let none : None ≡ Some user = sym (ap (option_map (λ (guest : GuestPart). guest.user)) is) ∙ sym (get-map_values (λ (guest : GuestPart). guest.user) guests p) ∙ there in
        absurd (cc)
    by_found (Some guest) is = (guest, is)

pub grown_at : (before : Guests) (p next : VPid) (guest : GuestPart) (user : UserPart) (t : ℕ) (q : Request) (made : Option ℕ) → p ≢ next
    → map.get (grown_by (map.insert before p guest) user t q next made) p ≡ Some guest
grown_at before p next guest user t q None other = get_insert_same vpid_total vpid_exact before p guest
grown_at before p next guest user t q (Some n) other =
    get_insert_other vpid_total vpid_exact (map.insert before p guest) next _ p other ∙ get_insert_same vpid_total vpid_exact before p guest

-- the parts after the call
abbrev users_of : Guests → Users
users_of guests = map_values (λ guest. guest.user) guests

left_is : (lives : Bool) (guests : Guests) (p : VPid) (guest : GuestPart) → users_of (left_by lives guests p guest) ≡ cond lives (map.insert (users_of guests) p guest.user) (map.remove (users_of guests) p)
left_is true guests p guest = map_values-insert vpid_total vpid_exact (λ (guest : GuestPart). guest.user) guests p guest
left_is false guests p guest = map_values-remove vpid_total vpid_exact (λ (guest : GuestPart). guest.user) guests p

at_own : (lives : Bool) (users : Users) (p : VPid) (part : UserPart) → map.get (cond lives (map.insert users p part) (map.remove users p)) p ≡ cond lives (Some part) None
at_own true users p part = get_insert_same vpid_total vpid_exact users p part
at_own false users p part = get_remove_same vpid_total vpid_exact users p

at_other : (lives : Bool) (users : Users) (p : VPid) (part : UserPart) (r : VPid) → r ≢ p → map.get (cond lives (map.insert users p part) (map.remove users p)) r ≡ map.get users r
at_other true users p part r other = get_insert_other vpid_total vpid_exact users p part r other
at_other false users p part r other = get_remove_other vpid_total vpid_exact users p r other

module _ (k after : PlainKernel) (before : Guests) (p : VPid) (guest : GuestPart) (spare t : ℕ) (q : Request) (part : UserPart) (valid : IsValid (seen k before)) (there : map.get (users_of before) p ≡ Some guest.user)
    (live : (r : VPid) → r ≢ p → r ≢ pid k.next_id → is_live after r ≡ is_live k r) where
  abbrev next : VPid
  next = pid k.next_id

  abbrev child : UserPart
  child = child_of guest.user t k.next_id q

  abbrev users : Users
  users = users_of before

  alive : is_live k p ≡ true
  alive = sym (valid.alive p) ∙ ap is_some there

  next_differs : next ≢ p
  next_differs = next_is_other k valid.kernel p alive

  own_differs : p ≢ next
  own_differs same = next_differs (sym same)

  -- the guests and the parts with the child
  abbrev grown : Option ℕ → Guests
  grown made = grown_by (map.insert before p (record { pid = guest.pid; user = guest.user; spare = spare })) guest.user t q next made

  abbrev parts : Option ℕ → Users
  parts made = with_child (map.insert users p part) guest.user t q k.next_id made

  reserved_is : users_of (map.insert before p (record { pid = guest.pid; user = guest.user; spare = spare })) ≡ users
  reserved_is =
      map_values-insert vpid_total vpid_exact (λ (guest : GuestPart). guest.user) before p (record { pid = guest.pid; user = guest.user; spare = spare })
      ∙ insert_same vpid_total vpid_exact users p guest.user there

  born_is : (n : ℕ) → users_of (grown (Some n)) ≡ map.insert users next child
  born_is n =
      map_values-insert vpid_total vpid_exact (λ (guest : GuestPart). guest.user) (grown None) next (record { pid = next; user = child; spare = 0 })
      ∙ ap (λ (m : Users). map.insert m next child) reserved_is

  nobody_there : map.get users next ≡ None
  nobody_there = none_if (map.get users next) (valid.alive next ∙ next_is_nobody k valid.kernel)
    where
      none_if : (o : Option UserPart) → is_some o ≡ false → o ≡ None
      none_if None is = refl
      none_if (Some x) is = absurd (cc)

  parts_own : (made : Option ℕ) → map.get (parts made) p ≡ Some part
  parts_own None = get_insert_same vpid_total vpid_exact users p part
  parts_own (Some n) = get_insert_other vpid_total vpid_exact (map.insert users p part) next child p own_differs ∙ get_insert_same vpid_total vpid_exact users p part

  parts_other : (made : Option ℕ) (r : VPid) → r ≢ p → r ≢ next → map.get (parts made) r ≡ map.get users r
  parts_other None r other new = get_insert_other vpid_total vpid_exact users p part r other
  parts_other (Some n) r other new = get_insert_other vpid_total vpid_exact (map.insert users p part) next child r new ∙ get_insert_other vpid_total vpid_exact users p part r other

  grown_other : (made : Option ℕ) (r : VPid) → r ≢ next → map.get (users_of (grown made)) r ≡ map.get users r
  grown_other None r new = ap (λ (m : Users). map.get m r) reserved_is
  grown_other (Some n) r new = ap (λ (m : Users). map.get m r) (born_is n) ∙ get_insert_other vpid_total vpid_exact users next child r new

  at_next : (made : Option ℕ) → IsMade k after made → cond (is_live after next) (map.get (parts made) next) None ≡ map.get (users_of (grown made)) next
  at_next None nobody =
      gone_if (is_live after next) (map.get (parts None) next) nobody ∙ sym (ap (λ (m : Users). map.get m next) reserved_is ∙ nobody_there)
  at_next (Some n) born =
      ap (λ b. cond b (map.get (parts (Some n)) next) None) born.1 ∙ get_insert_same vpid_total vpid_exact (map.insert users p part) next child
      ∙ sym (ap (λ (m : Users). map.get m next) (born_is n) ∙ get_insert_same vpid_total vpid_exact users next child)

  module _ (made : Option ℕ) (is_made : IsMade k after made) (answered : GuestPart) (same : answered.user ≡ part) where
    abbrev final : Guests
    final = left_by (is_live after p) (grown made) p answered

    final_as : users_of final ≡ cond (is_live after p) (map.insert (users_of (grown made)) p part) (map.remove (users_of (grown made)) p)
    final_as = left_is (is_live after p) (grown made) p answered ∙ ap (λ (u : UserPart). cond (is_live after p) (map.insert (users_of (grown made)) p u) (map.remove (users_of (grown made)) p)) same

    at_caller : cond (is_live after p) (map.get (parts made) p) None ≡ map.get (users_of final) p
    at_caller =
        ap (λ o. cond (is_live after p) o None) (parts_own made) ∙ sym (ap (λ (m : Users). map.get m p) final_as ∙ at_own (is_live after p) (users_of (grown made)) p part)

    elsewhere : (r : VPid) → r ≢ p → map.get (users_of final) r ≡ map.get (users_of (grown made)) r
    elsewhere r other = ap (λ (m : Users). map.get m r) final_as ∙ at_other (is_live after p) (users_of (grown made)) p part r other

    by_key : (r : VPid) → (r ≡ p) ⊎ (r ≢ p) → (r ≡ next) ⊎ (r ≢ next) → cond (is_live after r) (map.get (parts made) r) None ≡ map.get (users_of final) r
    by_key r (inl here) new = subst (λ (x : VPid). cond (is_live after x) (map.get (parts made) x) None ≡ map.get (users_of final) x) (sym here) at_caller
    by_key r (inr other) (inl here) =
        subst (λ (x : VPid). cond (is_live after x) (map.get (parts made) x) None ≡ map.get (users_of final) x) (sym here)
        (at_next made is_made ∙ sym (elsewhere next next_differs))
    by_key r (inr other) (inr new) =
        ap (λ o. cond (is_live after r) o None) (parts_other made r other new)
        ∙ kept_if (is_live after r) (map.get users r) (live r other new ∙ sym (valid.alive r))
        ∙ sym (elsewhere r other ∙ grown_other made r new)

    pub final_is : map.retain_keys (parts made) (is_live after) ≡ users_of final
    final_is = living_is after (parts made) (users_of final) (λ r. by_key r (same_or_other vpid_total vpid_exact r p) (same_or_other vpid_total vpid_exact r next))

pub apart : (k : PlainKernel) (before : Guests) (p : VPid) (guest : GuestPart) → IsValid (seen k before) → map.get (users_of before) p ≡ Some guest.user → p ≢ pid k.next_id
apart k before p guest valid there same = next_is_other k valid.kernel p (sym (valid.alive p) ∙ ap is_some there) (sym same)
