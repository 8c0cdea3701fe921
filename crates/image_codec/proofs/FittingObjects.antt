-- What the descriptions of a valid kernel part stand for fits the fields of the shared image.
--     object_fits      a description's, after those before it
use Rattle.std.proofs.Common.{◌≡◌, ◌≢◌, ℕ, ◌<◌, ◌≤◌, ◌^◌, ◌==◌, ◌&&◌, ◌||◌, ◌%◌, Bool, true, false, List, [], ◌∷◌, ◌++◌, length, map as each, refl, sym, ap, subst, ◌∙◌, append_assoc, arith}
use Rattle.std.specs.Prelude.{not, nat_le, Option, Some, None, is_some, All, AllPairs, if◌then◌else◌}
use Rattle.std.specs.List.{list_any}
use Rattle.std.specs.FinMap as map
use Rattle.std.specs.FinMap.{nat_cmp-IsAntisymmetric}
use Rattle.std.specs.Cmp.{nat_cmp_total}
use Rattle.std.proofs.lemmas.List.Elements.{All-head, All-tail}
use Rattle.views.proofs.MapLaws.{true_false, key_tied, same_key}
use Rattle.sys_abi.specs.declared.identity.DescId.{DescId}
use Rattle.sys_abi.specs.declared.identity.ConnId.{ConnId}
use Rattle.sys_abi.specs.declared.identity.VirtAddr.{VirtAddr}
use Rattle.sys_abi.proofs.OrderLaws.{desc_total, desc_exact, conn_total, conn_exact, address_total, address_exact}
use Rattle.plain_machine.specs.declared.kernel.PlainKernel.{PlainKernel}
use Rattle.plain_machine.specs.Kernels.{IsKernel}
use Rattle.plain_tables.specs.declared.description.Object.{Object}
use Rattle.plain_tables.specs.declared.description.Object.TheVariants as object
use Rattle.plain_tables.specs.declared.description.Description.{Description}
use Rattle.plain_tables.specs.declared.channel.Channel.{Channel}
use Rattle.plain_tables.specs.declared.channel.ChannelKind.{ChannelKind}
use Rattle.plain_tables.specs.declared.channel.ChannelKind.TheVariants.{Pair, Internet, Pipe}
use Rattle.plain_tables.specs.declared.channel.Listening.{Listening}
use Rattle.plain_tables.specs.Objects.{bound_at, is_listener_at}
use Rattle.plain_tables.specs.Valid.Channels.{IsStream}
use Rattle.plain_tables.specs.Valid.Files.{IsOpenFile}
use Rattle.plain_tables.specs.Valid.Sockets.{IsAddressed, IsConnection}
use Rattle.plain_tables.proofs.ClosedListeners.{distinct_head, distinct_tail}
use Rattle.plain_tables.proofs.Entries.{found_at}
use Rattle.shared_items.specs.declared.shared.FileImage.{FileImage}
use Rattle.shared_items.specs.declared.shared.ChannelImage.{ChannelImage}
use Rattle.shared_items.specs.declared.shared.DescriptionImage.{DescriptionImage}
use Rattle.shared_items.specs.declared.shared.ObjectImage.{ObjectImage}
use Rattle.shared_items.specs.declared.shared.ObjectImage.TheVariants as image
use Rattle.shared_items.specs.Sides.{same_channel, names_side, is_side_named}
use Rattle.shared_items.specs.SharedTests as field
use Rattle.shared_items.specs.SharedFits.{ConnectionFits, ObjectFits}
use Rattle.image_format.specs.Fields.{is_within}
use Rattle.image_format.specs.Texts.{EachFrom}
use Rattle.image_codec.specs.KernelImages.{file_image, names_by_number, channel_image, description_image, object_image, listener_image}
use Rattle.image_codec.proofs.DescriptionsBack.{has_queue}
use Rattle.image_codec.proofs.Listings.{IsSplit, IsBefore, none_before, some_image}
use Rattle.image_codec.proofs.NamedOnce.{bound_once, not_itself, side_free}
use Rattle.image_codec.proofs.TestFacts.{and_true, both_true, or_later, not_true, same_number, equal_numbers, other_number, is_below, is_at_most}

-- what is told of each place of a list is so of each item with those before it
each_place : {X : Type 0} (P : List X → X → Type 0) (items : List X) → ((front : List X) (x : X) (rest : List X) → items ≡ front ++ x ∷ rest → P front x) → (front rest : List X) → items ≡ front ++ rest → EachFrom P front rest
unfolding EachFrom
each_place P items told front [] is = tt
each_place P items told front (x ∷ rest) is =
    (told front x rest is, each_place P items told (front ++ x ∷ []) rest (is ∙ sym (append_assoc front (x ∷ []) rest)))

at_place : {X : Type 0} (P : X → Type 0) (front : List X) (x : X) (rest : List X) → All P (front ++ x ∷ rest) → P x
at_place P [] x rest are = All-head P x rest are
at_place P (y ∷ front) x rest are = at_place P front x rest (All-tail P y (front ++ x ∷ rest) are)

-- a connection that waits once isn't among those that wait before it
not_earlier : (conn : ConnId) (front rest : List ConnId) → AllPairs (λ c later. c ≢ later) (front ++ conn ∷ rest) → list_any (same_channel conn) front ≡ false
not_earlier conn [] rest apart = refl
not_earlier conn (c ∷ front) rest apart =
    let differ = at_place (λ later. c ≢ later) front conn rest (distinct_head c (front ++ conn ∷ rest) apart) in
    let here : same_channel conn c ≡ false = not_true (same_channel conn c) (λ same. differ (sym (same_key conn_total conn_exact conn c same))) in
    let before = not_earlier conn front rest (distinct_tail c (front ++ conn ∷ rest) apart) in
    λ i. here i || before i

-- the access mode of a pipe's end
mode_fits : (kind : ChannelKind) (flags side : ℕ) → (kind ≡ Pipe → flags % 4 ≡ (if side == 0 then 1 else 0)) → field.fits_mode kind flags side ≡ true
mode_fits Pair flags side mode = refl
mode_fits Internet flags side mode = refl
mode_fits Pipe flags side mode = ap (λ n. n == (if side == 0 then 1 else 0)) (mode refl) ∙ same_number (if side == 0 then 1 else 0)

small_side : (side : ℕ) → side < 2 → (side < 256) × (nat_le side 1 ≡ true)
small_side side below = (omega (arith, below), is_at_most side 1 (omega (arith, below)))

module _ (k : PlainKernel) (is : IsKernel k) where
  abbrev pub files : List FileImage
  files = each (file_image (names_by_number k.names)) (map.entries k.files)

  abbrev pub channels : List ChannelImage
  channels = each (channel_image k.directions) (map.entries k.channels)

  -- numbers of a channel that is there
  small_maker : (conn : ConnId) (channel : Channel) → map.get k.channels conn ≡ Some channel → conn.pid.0 < 2 ^ 32
  small_maker conn channel found =
      let known : conn.pid.0 < k.next_id = (is.made.joined conn channel found).known in
      let last : k.next_id < 2 ^ 31 = is.numbers.last_id in
      omega (arith, last, known)

  small_number : (conn : ConnId) (channel : Channel) → map.get k.channels conn ≡ Some channel → conn.num < 2 ^ 32
  small_number conn channel found = (is.made.joined conn channel found).word

  -- a bound address that an object has
  address_is : (a : VirtAddr) (host port : ℕ) → ((a.host == host) && (a.port == port)) ≡ true → a ≡ record { host = host; port = port }
  address_is a host port has =
      let (same, also) = and_true (a.host == host) (a.port == port) has in
      let first : a.host ≡ host = equal_numbers a.host host same in
      let second : a.port ≡ port = equal_numbers a.port port also in
      λ i. record { host = first i; port = second i }

  listener_has : (a : VirtAddr) (found : Option Listening) (host port : ℕ) → field.has_port host port (listener_image a found) ≡ true → a ≡ record { host = host; port = port }
  listener_has a None host port has = address_is a host port has
  listener_has a (Some listening) host port has = address_is a host port has

  has_port_of : (host port : ℕ) → (port == 0) ≡ false → (o : Object) → field.has_port host port (object_image k.listeners o) ≡ true → bound_at o ≡ Some (record { host = host; port = port })
  has_port_of host port bound object.Console has = true_false (sym has)
  has_port_of host port bound (object.File number offset) has = true_false (sym has)
  has_port_of host port bound (object.Stream conn side) has = true_false (sym has)
  has_port_of host port bound (object.Socket a) has =
      let same = address_is a host port has in
      ap (λ (b : VirtAddr). if b.port == 0 then None else Some b) same ∙ ap (λ b. if b then None else Some (let v : VirtAddr = record { host = host; port = port } in v)) bound
  has_port_of host port bound (object.Listener a) has = ap (λ (b : VirtAddr). Some b) (listener_has a (map.get k.listeners a) host port has)
  has_port_of host port bound (object.Datagram peer) has = true_false (sym has)
  has_port_of host port bound (object.Counter value) has = true_false (sym has)

  module _ (d : DescId) (x : Description) (xs : List (DescId × Description)) (split : IsSplit desc_total desc_exact k.descriptions xs (d, x)) where
    abbrev front : List DescriptionImage
    front = each (description_image k.listeners) xs

    abbrev Fits : ObjectImage → Type 0
    Fits = ObjectFits files channels front x.flags

    side_unnamed : (conn : ConnId) (side : ℕ) → names_side conn side (object_image k.listeners x.object) ≡ true → is_side_named front conn side ≡ false
    unfolding is_side_named
    side_unnamed conn side named = side_free k is d x xs split conn side named

    port_unused : (address : VirtAddr) → bound_at x.object ≡ Some address → (address.port == 0) ≡ false → field.is_listed_port front address.host address.port ≡ false
    port_unused address at bound =
        none_before desc_total desc_exact (description_image k.listeners) (λ (it : DescriptionImage). field.has_port address.host address.port it.object) (IsBefore desc_total desc_exact k.descriptions d) xs split.before (λ e y before.
        not_true (field.has_port address.host address.port (object_image k.listeners y.object)) (λ used.
        not_itself k is d x xs split e before.1 (bound_once k is e d y x address before.0 split.found (has_port_of address.host address.port bound y.object used) at)))

    file_fits : (number offset : ℕ) → x.object ≡ object.File number offset → Fits (image.File number offset)
    file_fits number offset what =
        let (some, small) = subst (IsOpenFile k.files) what (is.open_files.there d x split.found) in
        let (bytes, found) = found_at nat_cmp_total nat_cmp-IsAntisymmetric k.files number some in
        let below : number < k.next_file = (is.files.numbers number bytes found).1 in
        let last = is.numbers.last_file in (
          (omega (arith, below, last), some_image nat_cmp_total nat_cmp-IsAntisymmetric (file_image (names_by_number k.names)) (λ (f : FileImage). f.number == number) k.files number bytes found (same_number number)),
          (small, refl),
        )

    stream_fits : (conn : ConnId) (side : ℕ) → x.object ≡ object.Stream conn side → Fits (image.Stream conn side)
    stream_fits conn side what =
        let (channel, found, end) = subst (IsStream k.channels x.flags) what (is.streams.each d x split.found) in
        let named : names_side conn side (object_image k.listeners x.object) ≡ true =
        ap (λ o. names_side conn side (object_image k.listeners o)) what ∙ (λ i. key_tied conn_total conn_exact conn i && same_number side i) in
        let free = side_unnamed conn side named in
        let mode = mode_fits channel.kind x.flags side end.mode in
        let has : list_any (field.has_end conn x.flags side) channels ≡ true =
        some_image conn_total conn_exact (channel_image k.directions) (field.has_end conn x.flags side) k.channels conn channel found (λ i. key_tied conn_total conn_exact conn i && mode i) in
        let (small, allowed) = small_side side end.is_side in
        record {
          maker = (small_maker conn channel found, refl);
          number = (small_number conn channel found, some_image conn_total conn_exact (channel_image k.directions) (λ (c : ChannelImage). same_channel conn c.id) k.channels conn channel found (key_tied conn_total conn_exact conn));
          end = (small, λ i. allowed i && has i && not (free i));
        }

    socket_fits : (address : VirtAddr) → x.object ≡ object.Socket address → Fits (image.Socket address)
    socket_fits address what =
        let (host, port) = subst IsAddressed what (is.addresses.each d x split.found) in
        let most : address.port ≤ 65535 = omega (arith, port) in
        record {
          host = (omega (arith, host), is_below address.host 16 host);
          port = (omega (arith, port), both_true (field.is_port address.port) _ (is_at_most address.port 65535 most) (by_port (address.port == 0) refl));
        }
      where
        by_port : (b : Bool) → (address.port == 0) ≡ b → ((address.port == 0) || not (field.is_listed_port front address.host address.port)) ≡ true
        by_port true none = ap (λ c. c || not (field.is_listed_port front address.host address.port)) none
        by_port false bound =
            let unused = port_unused address (ap bound_at what ∙ ap (λ b. if b then None else Some address) bound) bound in
            or_later (address.port == 0) _ (λ i. not (unused i))

    -- what waits at a listener
    queued_at : (conn : ConnId) (earlier rest : List ConnId) → list_any (same_channel conn) (earlier ++ conn ∷ rest) ≡ true
    queued_at conn [] rest = ap (λ b. b || list_any (same_channel conn) rest) (key_tied conn_total conn_exact conn)
    queued_at conn (c ∷ earlier) rest = or_later (same_channel conn c) _ (queued_at conn earlier rest)

    connection_fits : (address : VirtAddr) (listening : Listening) → x.object ≡ object.Listener address → map.get k.listeners address ≡ Some listening
        → (earlier : List ConnId) (conn : ConnId) (rest : List ConnId) → listening.queue ≡ earlier ++ conn ∷ rest → ConnectionFits channels front earlier conn
    connection_fits address listening what known earlier conn rest place =
        let fits = is.listeners.each address listening known in
        let (channel, found, kind) = at_place (IsConnection k.channels) earlier conn rest (subst (All (IsConnection k.channels)) place fits.connections) in
        let internet = ap field.is_internet kind in
        let there : list_any (field.is_connection conn) channels ≡ true =
        some_image conn_total conn_exact (channel_image k.directions) (field.is_connection conn) k.channels conn channel found (λ i. key_tied conn_total conn_exact conn i && internet i) in
        let queued : list_any (same_channel conn) listening.queue ≡ true = ap (list_any (same_channel conn)) place ∙ queued_at conn earlier rest in
        let named : names_side conn 1 (object_image k.listeners x.object) ≡ true =
        ap (λ o. names_side conn 1 (object_image k.listeners o)) what ∙ ap (λ l. names_side conn 1 (listener_image address l)) known ∙ queued in
        let free = side_unnamed conn 1 named in
        let once = not_earlier conn earlier rest (subst (AllPairs (λ c later. c ≢ later)) place fits.once) in
        record {
          maker = (small_maker conn channel found, refl);
          number = (small_number conn channel found, λ i. there i && not (free i) && not (once i));
        }

    listener_fits : (address : VirtAddr) → x.object ≡ object.Listener address → (found : Option Listening) → map.get k.listeners address ≡ found → Fits (listener_image address found)
    listener_fits address what None known =
        true_false (sym (has_queue k is d x address split.found (ap (is_listener_at address) what ∙ key_tied address_total address_exact address)) ∙ ap is_some known)
    listener_fits address what (Some listening) known =
        let (host, least, most) = subst IsAddressed what (is.addresses.each d x split.found) in
        let fits = is.listeners.each address listening known in
        let room = fits.room in
        let backlog = fits.backlog in
        let within : is_within 1 65535 address.port ≡ true = both_true (nat_le 1 address.port) _ (is_at_most 1 address.port least) (is_at_most address.port 65535 (omega (arith, most))) in
        let unused = port_unused address (ap bound_at what) (other_number address.port 0 (λ same. omega (arith, same, least))) in
        record {
          host = (omega (arith, host), is_below address.host 16 host);
          port = (omega (arith, most), λ i. within i && not (unused i));
          room = (backlog, refl);
          count = (omega (arith, room, backlog), is_at_most (length listening.queue) listening.backlog room);
          queue = each_place (ConnectionFits channels front) listening.queue (connection_fits address listening what known) [] listening.queue refl;
        }

    pub object_fits : Fits (object_image k.listeners x.object)
    object_fits = by_object x.object refl
      where
        by_object : (o : Object) → x.object ≡ o → Fits (object_image k.listeners o)
        by_object object.Console what = tt
        by_object (object.File number offset) what = file_fits number offset what
        by_object (object.Stream conn side) what = stream_fits conn side what
        by_object (object.Socket address) what = socket_fits address what
        by_object (object.Listener address) what = listener_fits address what (map.get k.listeners address) refl
        by_object (object.Datagram peer) what = tt
        by_object (object.Counter value) what = tt
