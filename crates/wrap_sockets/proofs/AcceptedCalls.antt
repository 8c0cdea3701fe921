-- An accept of a guest, by what the kernel over real numbers answers.
--     accept_names                                  what it names
--     accept_fails, accept_waits, accept_wants      where no connection is taken
--     countable, accept_done                        where one is taken, counted, and its client told
use Rattle.std.proofs.Common.{◌≡◌, ℕ, ◌+◌, ◌-◌, ◌^◌, ◌<◌, Bool, true, false, List, Option, Some, None, inl, inr, refl, sym, ap, ◌∙◌, subst, arith}
use Rattle.std.specs.Option.{option_map_or}
use Rattle.std.specs.FinMap as map
use Rattle.std.proofs.lemmas.Bool.Decides.{nat_tests}
use Rattle.views.specs.Numbers.{Byte}
use Rattle.views.proofs.MapLaws.{true_false, same_or_other, get_insert_same, get_insert_other}
use Rattle.sys_abi.specs.declared.identity.VPid.{VPid}
use Rattle.sys_abi.specs.declared.identity.DescId.{DescId}
use Rattle.sys_abi.specs.declared.identity.RealPid.{RealPid}
use Rattle.sys_abi.specs.declared.maker.Maker.{Maker}
use Rattle.sys_abi.specs.declared.reply.Errno.{Errno}
use Rattle.sys_abi.specs.declared.errors.TheConstants.{EBADF, EINVAL, ENFILE}
use Rattle.sys_abi.specs.declared.flags.TheConstants.{O_RDWR}
use Rattle.sys_abi.proofs.OrderLaws.{desc_total, desc_exact, slot_total, slot_exact}
use Rattle.call_table.specs.declared.request.Request.TheVariants.{Accept}
use Rattle.conn_table.specs.declared.table.ConnTable.{ConnTable}
use Rattle.fd_book.specs.Books.{IsWhole}
use Rattle.plain_process.specs.Attempts.{Try, Fails, NotReady, Gives, and_then, need, found}
use Rattle.plain_tables.specs.declared.description.Description.{Description}
use Rattle.plain_tables.specs.declared.description.Object.TheVariants.{Stream}
use Rattle.plain_tables.specs.Tables.{Makers, changed_at, made_more, slot}
use Rattle.plain_machine.specs.declared.kernel.PlainKernel.{PlainKernel}
use Rattle.plain_machine.specs.Attempts.{Served}
use Rattle.plain_machine.specs.Kernel.{held, made_of, has_numbers, free_from, is_live}
use Rattle.plain_machine.specs.Kernels.{IsKernel}
use Rattle.plain_machine.specs.RowLaws.{IsAsked}
use Rattle.plain_machine.specs.Rows.Connections.{Accepting, accepting_of, accepted, accept_served, accept_row}
use Rattle.plain_machine.specs.Serve.{row}
use Rattle.plain_machine.specs.SocketWords.{socket_at, listens_at, next_description}
use Rattle.plain_machine.proofs.LocalReplies.{needed}
use Rattle.plain_machine.proofs.SocketTests.{next_number}
use Rattle.plain_machine.proofs.Trying.{Trying, after}
use Rattle.host_tables.specs.declared.attempt.Attempt.{Attempt}
use Rattle.host_tables.specs.declared.attempt.Attempt.TheVariants as answer
use Rattle.host_tables.specs.declared.kernel.Kernel.{Kernel}
use Rattle.host_tables.specs.declared.reply.KernelReply.TheVariants.{Done, Error, Memory}
use Rattle.host_tables.specs.declared.reply.KernelReply.TheVariants as reply
use Rattle.host_tables.specs.declared.system.System.{System}
use Rattle.host_tables.specs.Requests.{next_desc, leads_to_pipe}
use Rattle.host_tables.specs.Serves.{Serves, ByNumber, same}
use Rattle.host_tables.specs.Stands.{Stands}
use Rattle.host_tables.specs.Systems.{given_of, is_named_in}
use Rattle.wrap_names.specs.Naming.{desc_in, of_pipe_in}
use Rattle.wrap_names.specs.Wrapping.{IsWrapped, StandsAfter, TellsRow, kernel_left}
use Rattle.wrap_names.proofs.Keeps.{Keeps}
use Rattle.wrap_names.proofs.Kept.{kept_wrapped, whole_left}
use Rattle.wrap_names.proofs.Named.{pipe_is as pipe_is_told}
use Rattle.wrap_sockets.specs.Clients.{TellsClient}
use Rattle.wrap_sockets.proofs.Listened.{still_listened}

-- what an accept gives has a number
module _ (k : PlainKernel) (p : VPid) (fd : ℕ) where
  pub accept_numbers : Trying (accepting_of k p fd) (λ a. has_numbers k p ≡ true)
  unfolding accepting_of
  accept_numbers =
      after (socket_at k p fd) (λ h at. after (found (listens_at h.description.object) EINVAL)
      (λ address listens.
      after (found (map.get k.listeners address) EINVAL) (λ listening there.
      after (need (has_numbers k p) ENFILE) (λ done has. after (free_from k p 0) (λ new free.
      record { each = λ a is. needed (has_numbers k p) ENFILE done has })))))

-- the kernel part after it
module _ (k : PlainKernel) (p : VPid) (whole : IsKernel k) (alive : is_live k p ≡ true) (a : Accepting)
    (has : has_numbers k p ≡ true) where
  abbrev id : DescId
  id = next_description k p

  abbrev taken : Description
  taken = record { object = Stream a.conn 1; flags = O_RDWR; owner = 0 }

  named_still : (q : DescId) → is_named_in (map.get k.descriptions q) ≡ true
      → is_named_in (map.get (map.insert k.descriptions id taken) q) ≡ true
  named_still q h = elim (same_or_other desc_total desc_exact q id) [
    | inl here ↦
        true_false (sym h ∙ ap is_named_in (ap (map.get k.descriptions) here
        ∙ (next_number k whole p alive has).new))
    | inr differ ↦
        ap is_named_in (get_insert_other desc_total desc_exact k.descriptions id taken q differ) ∙ h
  ]

  pub accept_keeps : Keeps k (accepted k p a)
  accept_keeps = record {
    numbers = λ v h. h;
    places = still_listened k.listeners a.address _;
    names = named_still;
    channels = refl;
    next = refl;
  }

  pub held_taken : held (accepted k p a) p a.fd
      ≡ Gives (record { desc = id; cloexec = false; description = taken })
  unfolding held and_then found
  held_taken =
      ap (λ o. and_then (found o EBADF)
      (λ d. and_then (found (map.get (accepted k p a).descriptions d.desc) EBADF)
      (λ x. Gives (record { desc = d.desc; cloexec = d.cloexec; description = x }))))
      (get_insert_same slot_total slot_exact k.descriptors (slot p a.fd)
      (record { desc = id; cloexec = false }))
      ∙ ap (λ o. and_then (found o EBADF)
      (λ x. Gives (record { desc = id; cloexec = false; description = x })))
      (get_insert_same desc_total desc_exact k.descriptions id taken)

-- what an accept names
pub accept_names : (s : System) (next_id : ℕ) (k : PlainKernel) → IsWrapped s next_id k
    → (p : VPid) (who : RealPid)
    → map.get s.ids.pids p.0 ≡ Some who → IsWhole s.kernel.book → (fd : ℕ) (of_pipe : Bool)
    → of_pipe ≡ of_pipe_in s who fd → (id : Option DescId) → id ≡ desc_in s.conns.makers p
    → (of_pipe ≡ leads_to_pipe k p fd) × (id ≡ next_desc k p)
accept_names s next_id k w p who paired book fd of_pipe pipe_is id id_is = (
  pipe_is ∙ pipe_is_told s next_id k w p who paired book fd,
  id_is ∙ ap (λ (makers : Makers). desc_in makers p) (sym w.stands.exact.makers),
)

module _ (s : System) (next_id : ℕ) (k : PlainKernel) (w : IsWrapped s next_id k) (p : VPid)
    (t fd address length : ℕ)
    (before : List Byte) (asked : IsAsked k p t (Accept fd address length) before) (new : Kernel) where
  abbrev its_row : Try Accepting → Try Served
  its_row x = and_then x (λ a. Gives (accept_served k p address before a))

  abbrev silent_row : Try Accepting → Try Served
  silent_row x = and_then x (λ a. Gives (accept_served k p 0 before a))

  abbrev after_it : System
  after_it = record s { kernel = new }

  abbrev Says : Attempt → Type 0
  Says a = Serves ByNumber same (given_of s) s.kernel new before before a (accept_row k p fd 0 before)

  as_before : new ≡ s.kernel → IsWrapped after_it next_id k
  as_before is = subst (λ x. IsWrapped (record s { kernel = x }) next_id k) (sym is) w

  -- where no connection is taken

  fails_by : (e : Errno) (x : Try Accepting)
      → Serves ByNumber same (given_of s) s.kernel new before before (answer.Fails e) (silent_row x)
      → IsWrapped after_it next_id (kernel_left k (its_row x))
      × TellsRow before before (answer.Fails e) (its_row x)
  unfolding and_then
  fails_by e (Fails f) u = (as_before u.kernel, (u.answer, refl))
  fails_by e NotReady u = (as_before u.kernel, (u.answer, refl))
  fails_by e (Gives a) gave = absurd gave.reply

  pub accept_fails : (e : Errno) → Says (answer.Fails e)
      → StandsAfter after_it next_id k before before (Error e) (row k p t (Accept fd address length) before)
  unfolding row accept_row
  accept_fails e says = fails_by e (accepting_of k p fd) says

  waits_by : (x : Try Accepting)
      → Serves ByNumber same (given_of s) s.kernel new before before answer.NotReady (silent_row x)
      → IsWrapped after_it next_id (kernel_left k (its_row x))
      × TellsRow before before answer.NotReady (its_row x)
  unfolding and_then
  waits_by (Fails f) u = (as_before u.kernel, (u.answer, refl))
  waits_by NotReady u = (as_before u.kernel, (u.answer, refl))
  waits_by (Gives a) gave = absurd gave.reply

  pub accept_waits : Says answer.NotReady
      → StandsAfter after_it next_id k before before reply.NotReady
      (row k p t (Accept fd address length) before)
  unfolding row accept_row
  accept_waits says = waits_by (accepting_of k p fd) says

  pub accept_wants : new ≡ s.kernel
      → StandsAfter after_it next_id k before before Memory (row k p t (Accept fd address length) before)
  accept_wants is = (as_before is, refl)

  -- where one is taken

  record HasAccepted (n : ℕ) : Type 0 where
    found : Accepting
    is : accepting_of k p fd ≡ Gives found
    value : n ≡ found.fd
    stands : Stands (given_of s) None new (accepted k p found)

  gives_by : (n : ℕ) (x : Try Accepting) → accepting_of k p fd ≡ x
      → Serves ByNumber same (given_of s) s.kernel new before before (answer.Gives n) (silent_row x)
      → HasAccepted n
  unfolding and_then
  gives_by n (Fails f) is u = absurd (no_gift u.answer)
    where
      no_gift : answer.Gives n ≡ answer.Fails (record { 0 = f }) → ⊥
      no_gift h = cc
  gives_by n NotReady is u = absurd (no_gift u.answer)
    where
      no_gift : answer.Gives n ≡ answer.NotReady → ⊥
      no_gift h = cc
  gives_by n (Gives a) is gave = record { found = a; is = is; value = gave.reply; stands = gave.stands }

  has_accepted : (n : ℕ) → Says (answer.Gives n) → HasAccepted n
  unfolding accept_row
  has_accepted n says = gives_by n (accepting_of k p fd) refl says

  numbers : (n : ℕ) → HasAccepted n → has_numbers k p ≡ true
  numbers n has = (accept_numbers k p fd).each has.found has.is

  pub countable : (n : ℕ) → Says (answer.Gives n) → (maker : Maker) → map.get s.conns.makers p ≡ Some maker
      → maker.made + 1 < 2 ^ 32
  countable n says maker is =
      let has = numbers n (has_accepted n says) in
      let room : made_of k p < 2 ^ 32 - 4 = grind (arith, nat_tests, has) in
      let made : made_of k p ≡ maker.made =
      ap (λ (makers : Makers). option_map_or (λ (x : Maker). x.made) (map.get makers p) 0)
      w.stands.exact.makers
      ∙ ap (λ o. option_map_or (λ (x : Maker). x.made) o 0) is in
      omega (arith, room, made)

  module _ (n : ℕ) (has : HasAccepted n) where
    abbrev k' : PlainKernel
    k' = accepted k p has.found

    row_is : row k p t (Accept fd address length) before ≡ Gives (accept_served k p address before has.found)
    unfolding row accept_row and_then
    row_is = ap its_row has.is

    abbrev counted : ConnTable → System
    counted conns = record after_it { conns = conns }

    wrapped : IsWrapped (counted (record s.conns { makers = changed_at s.conns.makers p (made_more 1) }))
        next_id k'
    wrapped =
        kept_wrapped s next_id k w
        (counted (record s.conns { makers = changed_at s.conns.makers p (made_more 1) })) k'
        (record { ids = refl; conns = refl; names = refl; stands = has.stands })
        (accept_keeps k p w.stands.kernel asked.alive has.found (numbers n has))
        (ap (λ (makers : Makers). changed_at makers p (made_more 1)) w.stands.exact.makers)
        (subst (λ m. IsKernel (kernel_left k m)) row_is
        (whole_left s next_id k w p t (Accept fd address length) before asked))

  pub accept_done : (n : ℕ) → Says (answer.Gives n) → (who : RealPid) → map.get s.ids.pids p.0 ≡ Some who
      → (conns : ConnTable) → conns ≡ record s.conns { makers = changed_at s.conns.makers p (made_more 1) }
      → (now : List Byte) → TellsClient (record s { kernel = new; conns = conns }) who n address before now
      → StandsAfter (record s { kernel = new; conns = conns }) next_id k before now (Done n)
      (row k p t (Accept fd address length) before)
  accept_done n says who paired conns is now tells =
      let has = has_accepted n says in
      let stands = subst (λ x. IsWrapped (counted n has x) next_id (k' n has)) (sym is) (wrapped n has) in
      let held_there = held_taken k p w.stands.kernel asked.alive has.found (numbers n has) in
      let told = tells (k' n has) next_id p _ has.found.conn stands paired
      (ap (held (k' n has) p) has.value ∙ held_there) refl in
      subst (λ m. StandsAfter (record s { kernel = new; conns = conns }) next_id k before now (Done n) m)
      (sym (row_is n has)) (stands, (has.value, told))
