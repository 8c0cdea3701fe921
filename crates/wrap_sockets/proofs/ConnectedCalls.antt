-- A connect of a guest, by what the kernel over real numbers answers.
--     new_conn, unlisted         the number of the new channel is nobody's
--     Says, answered             what the kernel promises comes to its row here
--     connect_stays              where no channel is made
--     countable, connect_done    where one is made, counted and listed
use Rattle.std.proofs.Common.{◌≡◌, ◌≢◌, ℕ, ◌+◌, ◌-◌, ◌^◌, ◌<◌, Bool, true, false, cond, List, [], ◌∷◌, Option, Some, None, inl, inr, refl, sym, ap, ◌∙◌, subst, arith}
use Rattle.std.specs.Prelude.{Result, IfOk, OnErr, IsSome, is_some, length as size, option_map, option_and_then}
use Rattle.std.specs.Option.{option_map_or}
use Rattle.std.specs.FinMap as map
use Rattle.std.proofs.lemmas.Bool.Decides.{nat_tests}
use Rattle.std.proofs.lemmas.Option.{none-some, same_Some}
use Rattle.std.proofs.lemmas.Result.{IfOk-weaker}
use Rattle.views.specs.Numbers.{Byte}
use Rattle.views.proofs.MapLaws.{true_false, same_or_other, get_insert_same, get_insert_other, get_remove_same, get_remove_other}
use Rattle.sys_abi.specs.declared.identity.VPid.{VPid}
use Rattle.sys_abi.specs.declared.identity.DescId.{DescId}
use Rattle.sys_abi.specs.declared.identity.ConnId.{ConnId}
use Rattle.sys_abi.specs.declared.identity.RealPid.{RealPid}
use Rattle.sys_abi.specs.declared.identity.VirtAddr.{VirtAddr}
use Rattle.sys_abi.specs.declared.maker.Maker.{Maker}
use Rattle.sys_abi.specs.declared.reply.Errno.{Errno}
use Rattle.sys_abi.proofs.OrderLaws.{desc_total, desc_exact, conn_total, conn_exact}
use Rattle.call_table.specs.declared.request.Request.TheVariants.{Connect}
use Rattle.conn_table.specs.declared.conn.Conn.{Conn}
use Rattle.conn_table.specs.declared.table.ConnTable.{ConnTable}
use Rattle.plain_process.specs.Attempts.{Try, Fails, NotReady, Gives, and_then}
use Rattle.plain_tables.specs.declared.description.Object.TheVariants.{Stream}
use Rattle.plain_tables.specs.Tables.{Makers, changed_at, made_more}
use Rattle.plain_machine.specs.declared.kernel.PlainKernel.{PlainKernel}
use Rattle.plain_machine.specs.Addresses.{endpoint_of}
use Rattle.plain_machine.specs.Attempts.{Served, replied}
use Rattle.plain_machine.specs.Kernel.{held, made_of, has_numbers, is_live}
use Rattle.plain_machine.specs.Kernels.{IsKernel}
use Rattle.plain_machine.specs.RowLaws.{IsAsked}
use Rattle.plain_machine.specs.Rows.Connections.{Connecting, connecting_of, connected, connect_row}
use Rattle.plain_machine.specs.Serve.{row}
use Rattle.plain_machine.specs.SocketWords.{next_channel}
use Rattle.plain_machine.proofs.SocketTests.{new_channel}
use Rattle.wire_channels.specs.declared.channel.Channel.{Channel}
use Rattle.wire_channels.specs.Channels as channels
use Rattle.host_tables.specs.declared.attempt.Attempt.{Attempt}
use Rattle.host_tables.specs.declared.attempt.Attempt.TheVariants as answer
use Rattle.host_tables.specs.declared.kernel.Kernel.{Kernel}
use Rattle.host_tables.specs.declared.reply.KernelReply.{KernelReply}
use Rattle.host_tables.specs.declared.reply.KernelReply.TheVariants.{Done, Error, Memory}
use Rattle.host_tables.specs.declared.reply.KernelReply.TheVariants as reply
use Rattle.host_tables.specs.declared.system.System.{System}
use Rattle.host_tables.specs.Conditions.{IsNewConn}
use Rattle.host_tables.specs.Network.{seen_channel}
use Rattle.host_tables.specs.Numbers.{HasRoom}
use Rattle.host_tables.specs.Requests.{next_conn, leads_to_pipe, IfHeld, ConnectNames}
use Rattle.host_tables.specs.Serves.{Through, Serves, ByNumber, with_connection, INTERNET}
use Rattle.host_tables.specs.Stands.{Given, Stands, open_conn, with_conn}
use Rattle.host_tables.specs.Systems.{given_of, IsEntry, is_named_in, AreExact}
use Rattle.wrap_names.specs.Wrapping.{IsWrapped, StandsAfter, TellsRow, is_done, kernel_left}
use Rattle.wrap_names.proofs.Kept.{same_ends, whole_left}
use Rattle.wrap_sockets.specs.declared.targets.Listed.{Listed}
use Rattle.wrap_sockets.specs.declared.targets.Named.{Named}
use Rattle.wrap_sockets.specs.Listing.{with_listed, IsUnlisted, settled}
use Rattle.wrap_sockets.specs.Naming.{IsEntryOf, IsNamedConnect}
use Rattle.wrap_sockets.specs.Replies.{reply_of, Answered}
use Rattle.wrap_sockets.proofs.Answering.{answered_by}
use Rattle.wrap_sockets.proofs.ConnectTests.{connects_to}
use Rattle.wrap_sockets.proofs.Listened.{still_listened}
use Rattle.wrap_sockets.proofs.Unnamed.{Stands-unnamed}

-- the next number for a channel
numbers_by : (k : PlainKernel) (p : VPid) (b : Bool) (id : ConnId)
    → Some id ≡ cond b (Some (next_channel k p)) None → (b ≡ true) × (id ≡ next_channel k p)
numbers_by k p true id is = (refl, same_Some id (next_channel k p) is)
numbers_by k p false id is = absurd (none-some id (sym is))

module _ (s : System) (next_id : ℕ) (k : PlainKernel) (w : IsWrapped s next_id k) (p : VPid)
    (alive : is_live k p ≡ true) where
  module _ (has : has_numbers k p ≡ true) where
    abbrev id : ConnId
    id = next_channel k p

    no_channel : map.get k.channels id ≡ None
    no_channel = new_channel k w.stands.kernel p alive has

    net_by : (o : Option Channel) (q : Option Conn) → map.get s.kernel.net.channels id ≡ o
        → map.get s.conns.conns id ≡ q → (IsSome o → IsSome q) → map.get s.kernel.net.channels id ≡ None
    net_by None q is also listed = is
    net_by (Some channel) None is also listed = true_false (sym (listed refl))
    net_by (Some channel) (Some conn) is also listed =
        absurd (none-some (seen_channel channel conn) (sym no_channel ∙ w.stands.tables.channels.each id
        ∙ (λ i. option_and_then (λ c. option_map (seen_channel c) (also i)) (is i))))

    pub net_new : map.get s.kernel.net.channels id ≡ None
    net_new =
        net_by (map.get s.kernel.net.channels id) (map.get s.conns.conns id) refl refl
        (w.stands.tables.channels.listed id)

    conns_by : (o : Option Conn) → map.get s.conns.conns id ≡ o
        → option_map (λ (c : Conn). c.open_ends) o ≡ None → map.get s.conns.conns id ≡ None
    conns_by None is ends = is
    conns_by (Some conn) is ends = absurd (none-some conn.open_ends (sym ends))

    pub conns_new : map.get s.conns.conns id ≡ None
    conns_new =
        conns_by (map.get s.conns.conns id) refl
        (w.stands.exact.open_ends id ∙ ap (option_map (λ (c : Channel). c.open_ends)) net_new)

  module _ (fd length : ℕ) (before : List Byte) (n : Named)
      (names : IsNamedConnect (given_of s) k p fd length before n) where
    new_by : (channel : Option ConnId) → n.channel ≡ channel → IsNewConn s.kernel.net channel
    new_by None is = tt
    new_by (Some id') is =
        let has = numbers_by k p (has_numbers k p) id' (sym is ∙ names.channel) in
        ap (map.get s.kernel.net.channels) has.1 ∙ net_new has.0

    pub new_conn : IsNewConn s.kernel.net n.channel
    new_conn = new_by n.channel refl

    unlisted_by : (l : Option Listed) → IsEntryOf n.channel l → IsUnlisted s.conns l
    unlisted_by None entry = tt
    unlisted_by (Some l) entry =
        let has = numbers_by k p (has_numbers k p) l.conn.id (sym entry.0 ∙ names.channel) in
        (ap (map.get s.conns.conns) has.1 ∙ conns_new has.0, entry.1)

    pub unlisted : IsUnlisted s.conns n.listed
    unlisted = unlisted_by n.listed names.entry

-- the call
module _ (s : System) (next_id : ℕ) (k : PlainKernel) (w : IsWrapped s next_id k) (p : VPid)
    (t fd address length : ℕ)
    (before : List Byte) (asked : IsAsked k p t (Connect fd address length) before) (n : Named)
    (names : IsNamedConnect (given_of s) k p fd length before n) (new : Kernel) where
  abbrev tests : Try Connecting
  tests = connecting_of k p fd length (endpoint_of before)

  abbrev its_row : Try Connecting → Try Served
  its_row x = and_then x (λ c. replied (connected k p c) 0)

  abbrev after_it : System
  after_it = record s { kernel = new }

  abbrev By : Try Connecting → Attempt → Type 0
  By x a =
      Serves ByNumber (λ n' m g. with_connection g n.channel x) (given_of s) s.kernel new before before a
      (its_row x)

  abbrev pub Says : Attempt → Type 0
  Says a =
      Serves ByNumber (λ n' m g. with_connection g n.channel tests) (given_of s) s.kernel new before before a
      (connect_row k p fd length before)

  -- what the kernel promises, and what that comes to here
  abbrev pub Promised : RealPid → Attempt → Type 0
  Promised who a =
      Through s.kernel who (λ g' k' p'. (length' : ℕ) (x : List Byte)
      → (n.of_pipe ≡ leads_to_pipe k' p' fd)
      × ((n.channel ≡ next_conn k' p')
      × IfHeld (held k' p' fd) (ConnectNames g' k' length' x n.to n.port_free))
      → Serves ByNumber
      (λ n' m g. with_connection g n.channel (connecting_of k' p' fd length' (endpoint_of x))) g'
      s.kernel new x x a (connect_row k' p' fd length' x))

  pub answered : {E : Type 0} (who : RealPid) → map.get s.ids.pids p.0 ≡ Some who → (r : Result Attempt E)
      → IfOk r (Promised who) → OnErr r (new ≡ s.kernel) → Answered Says (new ≡ s.kernel) (reply_of r)
  answered who paired r does stays =
      answered_by Says (new ≡ s.kernel) r (IfOk-weaker r _ _ (λ a serves.
      serves (given_of s) k p w.stands.kernel w.stands.tables paired length before
      (names.of_pipe, (names.channel, names.names))) does) stays

  as_before : new ≡ s.kernel → IsWrapped after_it next_id k
  as_before is = subst (λ x. IsWrapped (record s { kernel = x }) next_id k) (sym is) w

  fails_by : (e : Errno) (x : Try Connecting) → By x (answer.Fails e)
      → IsWrapped after_it next_id (kernel_left k (its_row x))
      × TellsRow before before (answer.Fails e) (its_row x)
  unfolding and_then
  fails_by e (Fails f) u = (as_before u.kernel, (u.answer, refl))
  fails_by e NotReady u = (as_before u.kernel, (u.answer, refl))
  fails_by e (Gives c) gave = absurd gave.reply

  waits_by : (x : Try Connecting) → By x answer.NotReady
      → IsWrapped after_it next_id (kernel_left k (its_row x))
      × TellsRow before before answer.NotReady (its_row x)
  unfolding and_then
  waits_by (Fails f) u = (as_before u.kernel, (u.answer, refl))
  waits_by NotReady u = (as_before u.kernel, (u.answer, refl))
  waits_by (Gives c) gave = absurd gave.reply

  pub connect_stays : (r : KernelReply) → is_done r ≡ false → Answered Says (new ≡ s.kernel) r
      → StandsAfter after_it next_id k before before r (row k p t (Connect fd address length) before)
  unfolding row connect_row
  connect_stays (Done v) e h = true_false e
  connect_stays (Error f) e h = fails_by f tests h
  connect_stays reply.NotReady e h = waits_by tests h
  connect_stays Memory e h = (as_before h, refl)

  -- where a channel is made

  record HasConnected (v : ℕ) : Type 0 where
    found : Connecting
    is : tests ≡ Gives found
    value : v ≡ 0
    stands : Stands (with_connection (given_of s) n.channel (Gives found)) None new (connected k p found)

  gives_by : (v : ℕ) (x : Try Connecting) → tests ≡ x → By x (answer.Gives v) → HasConnected v
  unfolding and_then
  gives_by v (Fails f) is u = absurd (no_gift u.answer)
    where
      no_gift : answer.Gives v ≡ answer.Fails (record { 0 = f }) → ⊥
      no_gift h = cc
  gives_by v NotReady is u = absurd (no_gift u.answer)
    where
      no_gift : answer.Gives v ≡ answer.NotReady → ⊥
      no_gift h = cc
  gives_by v (Gives c) is gave = record { found = c; is = is; value = gave.reply; stands = gave.stands }

  has_connected : (v : ℕ) → Says (answer.Gives v) → HasConnected v
  unfolding connect_row
  has_connected v says = gives_by v tests refl says

  module _ (v : ℕ) (has : HasConnected v) where
    abbrev c : Connecting
    c = has.found

    abbrev k' : PlainKernel
    k' = connected k p c

    abbrev conn : Conn
    conn = open_conn (next_channel k p) INTERNET (Some c.own) (Some c.to)

    numbers : has_numbers k p ≡ true
    numbers = ((connects_to k p fd length (endpoint_of before)).each c has.is).numbers

    row_is : row k p t (Connect fd address length) before ≡ replied k' 0
    unfolding row connect_row and_then
    row_is = ap its_row has.is

    abbrev g' : Given
    g' = with_conn (given_of s) conn

    stands : Stands g' None new k'
    stands =
        subst (λ o. Stands (with_connection (given_of s) o (Gives c)) None new k')
        (names.channel ∙ ap (λ b. cond b (Some (next_channel k p)) None) numbers) has.stands

    here : map.get k'.descriptions c.held.desc
        ≡ Some (record c.held.description { object = Stream (next_channel k p) 0 })
    here = get_insert_same desc_total desc_exact k.descriptions c.held.desc _

    unnamed : Stands (record g' { names = map.remove s.conns.names c.held.desc }) None new k'
    unnamed = Stands-unnamed g' new k' stands c.held.desc (ap is_named_in here)

    abbrev conns' : ConnTable
    conns' = record s.conns {
      conns = map.insert s.conns.conns (next_channel k p) conn;
      makers = changed_at s.conns.makers p (made_more 1);
      names = map.remove s.conns.names c.held.desc;
    }

    abbrev s' : System
    s' = record s { kernel = new; conns = conns' }

    given_is : given_of s' ≡ record g' { names = map.remove s.conns.names c.held.desc }
    given_is = λ i. record (given_of s') { next = stands.paired.next_is i }

    -- the open ends are those that are seen

    seen_new : option_and_then (λ x. option_map (seen_channel x) (Some conn))
        (map.get new.net.channels (next_channel k p))
        ≡ Some (seen_channel channels.new_channel conn)
    seen_new =
        ap (λ q. option_and_then (λ x. option_map (seen_channel x) q)
        (map.get new.net.channels (next_channel k p)))
        (sym (get_insert_same conn_total conn_exact s.conns.conns (next_channel k p) conn))
        ∙ sym (stands.channels.each (next_channel k p))
        ∙ get_insert_same conn_total conn_exact k.channels (next_channel k p) _

    ends_here : option_map (λ (x : Channel). x.open_ends) (map.get new.net.channels (next_channel k p))
        ≡ Some (true ∷ true ∷ [])
    ends_here =
        same_ends (Some conn) (map.get new.net.channels (next_channel k p)) (Some channels.new_channel)
        (λ there. refl) (λ there. refl) (stands.channels.sides (next_channel k p))
        (λ x is. ap (λ (y : Channel). size y.open_ends) (sym (same_Some channels.new_channel x is))) seen_new

    ends_beside : (id : ConnId) → id ≢ next_channel k p
        → option_map (λ (x : Channel). x.open_ends) (map.get s.kernel.net.channels id)
        ≡ option_map (λ (x : Channel). x.open_ends) (map.get new.net.channels id)
    ends_beside id differ =
        let was = get_insert_other conn_total conn_exact s.conns.conns (next_channel k p) conn id differ in
        same_ends (map.get s.conns.conns id) (map.get s.kernel.net.channels id) (map.get new.net.channels id)
        (w.stands.tables.channels.listed id)
        (λ there. ap is_some (sym was) ∙ stands.channels.listed id there)
        (w.stands.tables.channels.sides id) (stands.channels.sides id)
        (sym (w.stands.tables.channels.each id)
        ∙ sym (get_insert_other conn_total conn_exact k.channels (next_channel k p) _ id differ)
        ∙ stands.channels.each id
        ∙ ap (λ q. option_and_then (λ x. option_map (seen_channel x) q) (map.get new.net.channels id)) was)

    ends_are : (id : ConnId) → option_map (λ (x : Conn). x.open_ends) (map.get conns'.conns id)
        ≡ option_map (λ (x : Channel). x.open_ends) (map.get new.net.channels id)
    ends_are id = elim (same_or_other conn_total conn_exact id (next_channel k p)) [
      | inl same ↦
          ap (λ q. option_map (λ (x : Conn). x.open_ends) (map.get conns'.conns q)) same
          ∙ ap (option_map (λ (x : Conn). x.open_ends))
          (get_insert_same conn_total conn_exact s.conns.conns (next_channel k p) conn)
          ∙ sym ends_here
          ∙ ap (λ q. option_map (λ (x : Channel). x.open_ends) (map.get new.net.channels q)) (sym same)
      | inr differ ↦
          ap (option_map (λ (x : Conn). x.open_ends))
          (get_insert_other conn_total conn_exact s.conns.conns (next_channel k p) conn id differ)
          ∙ w.stands.exact.open_ends id ∙ ends_beside id differ
    ]

    entry_is : (id : ConnId) (x : Conn) → map.get conns'.conns id ≡ Some x → IsEntry id x
    entry_is id x is = elim (same_or_other conn_total conn_exact id (next_channel k p)) [
      | inl same ↦
          let found : conn ≡ x = same_Some conn x
          (sym (get_insert_same conn_total conn_exact s.conns.conns (next_channel k p) conn)
          ∙ ap (map.get conns'.conns) (sym same) ∙ is) in
          subst (λ q. IsEntry id q) found (record { own = sym same; addresses = refl; sides = refl })
      | inr differ ↦
          w.stands.exact.entries id x
          (sym (get_insert_other conn_total conn_exact s.conns.conns (next_channel k p) conn id differ) ∙ is)
    ]

    name_is : (id : DescId) (a : VirtAddr) → map.get conns'.names id ≡ Some a
        → is_named_in (map.get k'.descriptions id) ≡ true
    name_is id a is = elim (same_or_other desc_total desc_exact id c.held.desc) [
      | inl same ↦
          absurd (none-some a (sym (get_remove_same desc_total desc_exact s.conns.names c.held.desc)
          ∙ ap (map.get conns'.names) (sym same) ∙ is))
      | inr differ ↦
          ap is_named_in (get_insert_other desc_total desc_exact k.descriptions c.held.desc _ id differ)
          ∙ w.stands.exact.names id a
          (sym (get_remove_other desc_total desc_exact s.conns.names c.held.desc id differ) ∙ is)
    ]

    exact' : AreExact s' k'
    exact' = record {
      makers = ap (λ (makers : Makers). changed_at makers p (made_more 1)) w.stands.exact.makers;
      numbers = w.stands.exact.numbers;
      places = λ a at is. still_listened k.listeners c.to _ a (w.stands.exact.places a at is);
      names = name_is;
      open_ends = ends_are;
      entries = entry_is;
    }

    wrapped : IsWrapped s' next_id k'
    wrapped = record {
      stands = record {
        kernel = subst (λ m. IsKernel (kernel_left k m)) row_is
            (whole_left s next_id k w p t (Connect fd address length) before asked);
        tables = subst (λ g. Stands g None new k') (sym given_is) unnamed;
        exact = exact';
        room = subst (HasRoom k.next_id) (sym stands.paired.next_is) w.stands.room;
      };
      next = w.next;
    }

    settled_is : settled (with_listed s.conns n.listed) p n.listed ≡ conns'
    settled_is = ap (λ l. settled (with_listed s.conns l) p l) (names.listed_is c has.is)

  pub countable : (r : KernelReply) → is_done r ≡ true → Answered Says (new ≡ s.kernel) r
      → (maker : Maker) → map.get (with_listed s.conns n.listed).makers p ≡ Some maker
      → maker.made + 1 < 2 ^ 32
  countable (Done v) e h maker is =
      let has = numbers v (has_connected v h) in
      let room : made_of k p < 2 ^ 32 - 4 = grind (arith, nat_tests, has) in
      let made : made_of k p ≡ maker.made =
      ap (λ (makers : Makers). option_map_or (λ (x : Maker). x.made) (map.get makers p) 0)
      (w.stands.exact.makers ∙ sym (makers_are n.listed))
      ∙ ap (λ o. option_map_or (λ (x : Maker). x.made) o 0) is in
      omega (arith, room, made)
    where
      makers_are : (l : Option Listed) → (with_listed s.conns l).makers ≡ s.conns.makers
      makers_are None = refl
      makers_are (Some l) = refl
  countable (Error f) e h maker is = true_false (sym e)
  countable reply.NotReady e h maker is = true_false (sym e)
  countable Memory e h maker is = true_false (sym e)

  pub connect_done : (r : KernelReply) → is_done r ≡ true → Answered Says (new ≡ s.kernel) r
      → StandsAfter (record s { kernel = new; conns = settled (with_listed s.conns n.listed) p n.listed })
      next_id k
      before before r (row k p t (Connect fd address length) before)
  connect_done (Done v) e h =
      let has = has_connected v h in
      subst (λ m. StandsAfter
      (record s { kernel = new; conns = settled (with_listed s.conns n.listed) p n.listed })
      next_id k before before (Done v) m) (sym (row_is v has)) (
        subst (λ conns. IsWrapped (record s { kernel = new; conns = conns }) next_id (k' v has))
            (sym (settled_is v has))
            (wrapped v has),
        (has.value, refl),
      )
  connect_done (Error f) e h = true_false (sym e)
  connect_done reply.NotReady e h = true_false (sym e)
  connect_done Memory e h = true_false (sym e)
