-- The bytes that stand in the transfer after a call: those of its answer, or what the call read where its
-- answer fills nothing in its process.
--     fits, same_put      either way the process can take it, and is the same after it
use Rattle.std.proofs.Common.{◌≡◌, ◌≢◌, ℕ, Bool, true, false, cond, List, [], ◌∷◌, ◌++◌, Option, Some, None}
use Rattle.std.proofs.Common.{inl, inr, refl, sym, ap, subst, ◌∙◌}
use Rattle.std.specs.Prelude.{◌⊎◌, ◌==◌, min, take, length}
use Rattle.std.specs.FinMap as map
use Rattle.std.proofs.lemmas.Option.{none-some, same_Some, option_and_then_some}
use Rattle.sys_abi.specs.declared.cloning.CloneForm.{CloneForm}
use Rattle.sys_abi.specs.declared.cloning.CloneForm.TheVariants.{Fork, Thread}
use Rattle.sys_abi.specs.declared.identity.VPid.{VPid}
use Rattle.sys_abi.specs.declared.reply.Reply.{Reply}
use Rattle.sys_abi.specs.declared.reply.Reply.TheVariants.{Value, Error}
use Rattle.sys_abi.specs.Clones.{clone_form}
use Rattle.sys_abi.specs.declared.transfer.TheConstants.{TRANSFER_LIMIT}
use Rattle.views.proofs.MapLaws.{true_false}
use Rattle.call_table.specs.Requests.{is_local}
use Rattle.call_table.specs.declared.request.Request.{Request}
use Rattle.call_table.specs.declared.request.Request.TheVariants.{Pipe2, Read, Socketpair, Accept, Getsockname, Getpeername, Clone, Wait4, RtSigaction, RtSigprocmask}
use Rattle.plain_process.specs.Attempts.{Try, Fails, NotReady, Gives, and_then}
use Rattle.plain_process.specs.Buffers.{reads_of, given_of, fills_of, writes_of, filled_spans, if_writable, lent, size_of, address_spans}
use Rattle.plain_process.specs.Memory.{Memory, little_endian, low_bytes}
use Rattle.plain_process.specs.Put.{CanTake, put, with_spans, put_by}
use Rattle.plain_process.specs.declared.user_part.UserPart.{UserPart}
use Rattle.plain_tables.specs.declared.description.Object.{Object}
use Rattle.plain_tables.specs.declared.description.Object.TheVariants as object
use Rattle.plain_tables.specs.declared.waiting.Waiting.{Waiting}
use Rattle.plain_tables.specs.declared.waiting.Waiting.TheVariants as found
use Rattle.plain_machine.specs.declared.kernel.PlainKernel.{PlainKernel}
use Rattle.plain_machine.specs.Addresses.{cut_to}
use Rattle.plain_machine.specs.Attempts.{Served, settled, refused}
use Rattle.plain_machine.specs.Kernel.{Held}
use Rattle.plain_machine.specs.Rows.Channels.{pipe2_row, stream_pair, datagram_pair, socketpair_row}
use Rattle.plain_machine.specs.Rows.Clone.{clone_thread, clone_process, clone_by, clone_row}
use Rattle.plain_machine.specs.Rows.Connections.{accept_row}
use Rattle.plain_machine.specs.Rows.Read.{read_object, read_row}
use Rattle.plain_machine.specs.Rows.Sockets.{getsockname_row, getpeername_row}
use Rattle.plain_machine.specs.Rows.Wait.{WNOHANG, wait4_by, wait4_row}
use Rattle.plain_machine.specs.Serve.{row, serve}
use Rattle.plain_machine.specs.SocketWords.{end_name}
use Rattle.plain_machine.specs.Transfers.Counters.{read_counter}
use Rattle.plain_machine.specs.Transfers.Datagrams.{read_first, messages_at, read_message}
use Rattle.plain_machine.specs.Transfers.Files.{read_file}
use Rattle.plain_machine.specs.Transfers.Streams.{read_stream}
use Rattle.plain_machine.proofs.Trying.{Trying, succeeds, fails, after}
use Rattle.host_tables.specs.Serves.{bytes_or}
use Rattle.computation.specs.Parts.{given_back}

-- the answer is a value
abbrev is_value : Reply → Bool
is_value (Value n) = true
is_value (Error e) = false

abbrev IsValued : Try Served → Type 0
IsValued m = Trying m (λ served. is_value served.reply ≡ true)

then : {A : Type 0} (attempt : Try A) {f : A → Try Served} → ((a : A) → IsValued (f a))
    → IsValued (and_then attempt f)
then attempt each = after attempt (λ a is. each a)

waits_valued : IsValued NotReady
waits_valued = record { each = λ served is. cc }

either : (b : Bool) (m n : Try Served) → IsValued m → IsValued n → IsValued (cond b m n)
either true m n first second = first
either false m n first second = second

-- the answer is a value with some bytes
abbrev IsTold : Served → Type 0
IsTold served = (is_value served.reply ≡ true) × (served.bytes ≢ [])

cut_some : (given name : List ℕ) → cut_to given name ≢ []
cut_some given name = some (take (little_endian (take 4 given)) name)
  where
    some : (front : List ℕ) → front ++ low_bytes 4 (length name) ≢ []
    some [] is = cc
    some (x ∷ xs) is = cc

client_some : (b : Bool) (given name : List ℕ) → b ≡ false → cond b [] (cut_to given name) ≢ []
client_some true given name is = true_false is
client_some false given name is = cut_some given name

module _ (k : PlainKernel) (p : VPid) where
  pipe2_valued : (flags : ℕ) → IsValued (pipe2_row k p flags)
  unfolding pipe2_row
  pipe2_valued flags = then _ (λ a. then _ (λ b. then _ (λ fds. succeeds _ refl)))

  streams_valued : (flags : ℕ) → IsValued (stream_pair k p flags)
  unfolding stream_pair
  streams_valued flags = then _ (λ a. then _ (λ fds. succeeds _ refl))

  datagrams_valued : (flags : ℕ) → IsValued (datagram_pair k p flags)
  unfolding datagram_pair
  datagrams_valued flags = then _ (λ a. then _ (λ fds. succeeds _ refl))

  socketpair_valued : (domain socket_type protocol : ℕ)
      → IsValued (socketpair_row k p domain socket_type protocol)
  unfolding socketpair_row
  socketpair_valued domain socket_type protocol =
      then _ (λ a. then _ (λ b. then _ (λ c.
      either _ _ _ (streams_valued socket_type) (datagrams_valued socket_type))))

  first_valued : (h : Held) (count : ℕ) (messages : List (List ℕ))
      → IsValued (read_first k h.desc count messages)
  first_valued h count [] = succeeds _ refl
  first_valued h count (message ∷ rest) = succeeds _ refl

  object_read : (h : Held) (count : ℕ) (o : Object) → IsValued (read_object k h count o)
  unfolding read_file read_stream read_message read_counter
  object_read h count object.Console = succeeds _ refl
  object_read h count (object.File number offset) = then _ (λ bytes. succeeds _ refl)
  object_read h count (object.Stream conn side) = then _ (λ direction. succeeds _ refl)
  object_read h count (object.Socket address) = fails _
  object_read h count (object.Listener address) = fails _
  object_read h count (object.Datagram peer) = first_valued h count (messages_at k h.desc)
  object_read h count (object.Counter value) = then _ (λ a. succeeds _ refl)

  read_valued : (fd count : ℕ) → IsValued (read_row k p fd count)
  unfolding read_row
  read_valued fd count = then _ (λ h. object_read h (min count TRANSFER_LIMIT) h.description.object)

  form_valued : (flags : ℕ) (form : Option CloneForm) → IsValued (clone_by k p flags form)
  unfolding clone_process clone_thread
  form_valued flags None = fails _
  form_valued flags (Some Fork) = then _ (λ a. succeeds _ refl)
  form_valued flags (Some Thread) = then _ (λ a. succeeds _ refl)

  clone_valued : (flags : ℕ) → IsValued (clone_row k p flags)
  unfolding clone_row
  clone_valued flags = form_valued flags (clone_form flags)

  waited_valued : (options : ℕ) (w : Waiting) → IsValued (wait4_by k options w)
  waited_valued options found.NoChild = fails _
  waited_valued options found.NotReady = either (options == WNOHANG) _ _ (succeeds _ refl) waits_valued
  waited_valued options (found.Ended q status) = succeeds _ refl

  wait4_valued : (number options usage : ℕ) → IsValued (wait4_row k p number options usage)
  unfolding wait4_row
  wait4_valued number options usage = then _ (λ a. waited_valued options _)

  accept_told : (fd address : ℕ) (given : List ℕ) → (address == 0) ≡ false
      → Trying (accept_row k p fd address given) IsTold
  unfolding accept_row
  accept_told fd address given some =
      after _ (λ a is. succeeds _
      (refl, client_some (address == 0) given (end_name (map.get k.channels a.conn) 0) some))

  getsockname_told : (fd : ℕ) (given : List ℕ) → Trying (getsockname_row k p fd given) IsTold
  unfolding getsockname_row
  getsockname_told fd given = after _ (λ h is. succeeds _ (refl, cut_some given _))

  getpeername_told : (fd : ℕ) (given : List ℕ) → Trying (getpeername_row k p fd given) IsTold
  unfolding getpeername_row
  getpeername_told fd given = after _ (λ h is. after _ (λ name there. succeeds _ (refl, cut_some given _)))

-- what stands in the transfer is what the answer gives, or nothing of it is put
abbrev pub IsGiven : Memory → Request → List ℕ → Reply → List ℕ → Type 0
IsGiven memory q given reply bytes =
    (given_back reply (bytes_or given bytes) ≡ bytes) ⊎ (filled_spans memory q ≡ [])

module _ (memory : Memory) (given : List ℕ) where
  some_bytes : (reply : Reply) (bytes : List ℕ) → is_value reply ≡ true → bytes ≢ []
      → given_back reply (bytes_or given bytes) ≡ bytes
  some_bytes (Value n) [] value some = absurd (some refl)
  some_bytes (Value n) (byte ∷ bytes) value some = refl
  some_bytes (Error e) bytes value some = true_false (sym value)

  no_given : (reply : Reply) (bytes : List ℕ) → is_value reply ≡ true → [] ≡ given
      → given_back reply (bytes_or given bytes) ≡ bytes
  no_given (Value n) [] value none = sym none
  no_given (Value n) (byte ∷ bytes) value none = refl
  no_given (Error e) bytes value none = true_false (sym value)

  kept : (b : Bool) (xs : List ℕ) → cond b (Some xs) None ≡ Some given → xs ≡ given
  kept true xs is = same_Some xs given is
  kept false xs is = absurd (none-some given is)

  reads_nothing : (q : Request) → given_of memory q ≡ Some [] → lent memory q ≡ Some given → [] ≡ given
  unfolding lent
  reads_nothing q none reads =
      option_and_then_some (if_writable memory q) (given_of memory q) given reads
      (λ xs at writable. same_Some [] xs (sym none ∙ at) ∙ kept _ xs writable)

  module _ (k : PlainKernel) (p : VPid) (t : ℕ) (s : Served) where
    nothing_read : (q : Request) → given_of memory q ≡ Some [] → lent memory q ≡ Some given
        → IsValued (row k p t q given) → row k p t q given ≡ Gives s → IsGiven memory q given s.reply s.bytes
    nothing_read q none reads valued is =
        inl (no_given s.reply s.bytes (valued.each s is) (reads_nothing q none reads))

    name_told : (q : Request) → Trying (row k p t q given) IsTold → row k p t q given ≡ Gives s
        → IsGiven memory q given s.reply s.bytes
    name_told q told is = let both = told.each s is in inl (some_bytes s.reply s.bytes both.0 both.1)

    accepted : (fd address length : ℕ) (b : Bool) → (address == 0) ≡ b
        → row k p t (Accept fd address length) given ≡ Gives s
        → IsGiven memory (Accept fd address length) given s.reply s.bytes
    unfolding row fills_of writes_of
    accepted fd address length true zero is =
        inr (ap (λ b. cond b [] (address_spans address length (size_of memory (Accept fd address length)))) zero)
    accepted fd address length false some is =
        name_told (Accept fd address length) (accept_told k p fd address given some) is

    pub given_by : (q : Request) → is_local q ≡ false → lent memory q ≡ Some given
        → row k p t q given ≡ Gives s → IsGiven memory q given s.reply s.bytes
    unfolding row fills_of writes_of given_of reads_of
    given_by (Pipe2 fds flags) other reads is = nothing_read (Pipe2 fds flags) refl reads (pipe2_valued k p flags) is
    given_by (Socketpair domain socket_type protocol fds) other reads is =
        nothing_read (Socketpair domain socket_type protocol fds) refl reads
        (socketpair_valued k p domain socket_type protocol) is
    given_by (Read fd buffer count) other reads is = nothing_read (Read fd buffer count) refl reads (read_valued k p fd count) is
    given_by (Clone flags stack parent_tid tls child_tid) other reads is =
        nothing_read (Clone flags stack parent_tid tls child_tid) refl reads (clone_valued k p flags) is
    given_by (Wait4 number status options usage) other reads is =
        nothing_read (Wait4 number status options usage) refl reads (wait4_valued k p number options usage) is
    given_by (Accept fd address length) other reads is = accepted fd address length (address == 0) refl is
    given_by (Getsockname fd address length) other reads is =
        name_told (Getsockname fd address length) (getsockname_told k p fd given) is
    given_by (Getpeername fd address length) other reads is =
        name_told (Getpeername fd address length) (getpeername_told k p fd given) is
    given_by (RtSigaction signal action old_action size) other reads is = true_false other
    given_by (RtSigprocmask how set old_set size) other reads is = true_false other
    given_by _ other reads is = inr refl

module _ (k : PlainKernel) (p : VPid) (t : ℕ) (q : Request) (user : UserPart) (given : List ℕ)
    (reads : lent user.memory q ≡ Some given) (kernels : is_local q ≡ false) (s : Served) where
  by_row : (m : Try Served) → row k p t q given ≡ m → settled k m ≡ Some s
      → IsGiven user.memory q given s.reply s.bytes
  by_row (Fails e) is settles =
      subst (λ (x : Served). IsGiven user.memory q given x.reply x.bytes) (same_Some (refused k e) s settles)
      (inl refl)
  by_row NotReady is settles = absurd (none-some s settles)
  by_row (Gives served) is settles =
      given_by user.memory given k p t s q kernels reads
      (is ∙ ap (λ (x : Served). Gives x) (same_Some served s settles))

  module _ (serves : serve k p t q given ≡ Some s) where
    abbrev standing : List ℕ
    standing = given_back s.reply (bytes_or given s.bytes)

    is_given : IsGiven user.memory q given s.reply s.bytes
    unfolding serve
    is_given = by_row (row k p t q given) refl serves

    pub fits : CanTake user.memory (filled_spans user.memory q) s.bytes
        → CanTake user.memory (filled_spans user.memory q) standing
    fits can = elim is_given [
      | inl same ↦ subst (CanTake user.memory (filled_spans user.memory q)) (sym same) can
      | inr none ↦ subst (λ spans. CanTake user.memory spans standing) (sym none) tt
    ]

    pub same_put : put user t q s.reply standing ≡ put user t q s.reply s.bytes
    unfolding put
    same_put = elim is_given [
      | inl same ↦ ap (λ bytes. put_by user t q s.reply (with_spans user.memory (filled_spans user.memory q) bytes) (map.get user.threads t)) same
      | inr none ↦
          ap (λ spans. put_by user t q s.reply (with_spans user.memory spans standing) (map.get user.threads t)) none
          ∙ sym (ap (λ spans. put_by user t q s.reply (with_spans user.memory spans s.bytes) (map.get user.threads t)) none)
    ]
