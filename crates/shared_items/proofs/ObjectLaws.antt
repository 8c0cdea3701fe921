-- The formats of open descriptions, with what follows in each kind, and their texts
use Rattle.std.proofs.Common.{◌≡◌, ℕ, zero, suc, IsTrue, List, [], ◌++◌, length, refl, sym, ap, subst, ◌∙◌, append_assoc, append-nil, arith}
use Rattle.sys_abi.specs.declared.identity.ConnId.{ConnId}
use Rattle.sys_abi.specs.declared.identity.VirtAddr.{VirtAddr}
use Rattle.shared_items.specs.declared.shared.FileImage.{FileImage}
use Rattle.shared_items.specs.declared.shared.ChannelImage.{ChannelImage}
use Rattle.shared_items.specs.declared.shared.ObjectImage.{ObjectImage}
use Rattle.shared_items.specs.declared.shared.ObjectImage.TheVariants.{Console, File, Stream, Socket, Listener}
use Rattle.shared_items.specs.declared.shared.DescriptionImage.{DescriptionImage}
use Rattle.std.specs.Prelude.{nat_le}
use Rattle.std.specs.List.{flat_map}
use Rattle.std.proofs.lemmas.Bool.Decides.{nat_tests}
use Rattle.image_format.specs.Format.{FormatOf, n8, n32, any, give, number_text}
use Rattle.image_format.specs.Texts.{FitsField, EachFrom}
use Rattle.image_format.proofs.Texts.{Law, in_words, next_law, unsigned_law, counted_law, give_law}
use Rattle.shared_items.specs.SharedTests as field
use Rattle.shared_items.specs.SharedFits.{FitsNumber, ObjectFits, StreamFits, SocketFits, ConnectionFits, ListenerFits, DescriptionFits, kind_of}
use Rattle.shared_items.specs.SharedTexts.{list_text, connection_text, object_text, description_text}
use Rattle.shared_items.specs.SharedFormat as format
use Rattle.shared_items.proofs.FieldLaws.{next_law_if}

-- the parts of an object, where it has them

abbrev nobody : ConnId
nobody = record { pid = record { 0 = 0 }; num = 0 }

abbrev number_in : ObjectImage → ℕ
number_in (File number offset) = number
number_in _ = 0

abbrev offset_in : ObjectImage → ℕ
offset_in (File number offset) = offset
offset_in _ = 0

abbrev conn_in : ObjectImage → ConnId
conn_in (Stream conn side) = conn
conn_in _ = nobody

abbrev side_in : ObjectImage → ℕ
side_in (Stream conn side) = side
side_in _ = 0

abbrev address_in : ObjectImage → VirtAddr
address_in (Socket address) = address
address_in (Listener address backlog pending) = address
address_in _ = record { host = 0; port = 0 }

abbrev backlog_in : ObjectImage → ℕ
backlog_in (Listener address backlog pending) = backlog
backlog_in _ = 0

abbrev queue_in : ObjectImage → List ConnId
queue_in (Listener address backlog pending) = pending
queue_in _ = []

pub connection_law : (channels : List ChannelImage) (front : List DescriptionImage) (earlier : List ConnId) → Law (format.connection channels front earlier) connection_text (ConnectionFits channels front earlier)
unfolding format.connection connection_text
connection_law channels front earlier =
    in_words _ _ _ _ _
    (λ c h. simp append-nil)
    (λ c h. let (maker, (number, is)) = h in record { maker = maker; number = number })
    (λ c h. (h.maker, (h.number, refl)))
    (next_law _ _ _ _ _ _ (λ (c : ConnId). c.pid.0) (unsigned_law n32 _) (λ b c h o. let (number, is) = o in sym (ap (λ (c : ConnId). c.pid.0) is)) (λ maker.
    next_law _ _ _ _ _ _ (λ (c : ConnId). c.num) (unsigned_law n32 _) (λ b c h o. sym (ap (λ (c : ConnId). c.num) o)) (λ number.
    give_law _)))

too_great : (n : ℕ) → IsTrue (nat_le (suc (suc (suc (suc (suc n))))) 4) → ⊥
too_great n h = grind (arith, nat_tests)

three : (a b c : List ℕ) → a ++ (b ++ (c ++ [])) ≡ (a ++ b) ++ c
three a b c = simp (append_assoc, append-nil)

five : (a b c d e : List ℕ) → a ++ (b ++ (c ++ ((d ++ e) ++ []))) ≡ a ++ b ++ c ++ (d ++ e)
five a b c d e = simp (append_assoc, append-nil)

-- an object of this kind
abbrev Fits : List FileImage → List ChannelImage → List DescriptionImage → ℕ → ℕ → ObjectImage → Type 0
Fits files channels front flags kind object = (kind ≡ kind_of object) × ObjectFits files channels front flags object

module _ (files : List FileImage) (channels : List ChannelImage) (front : List DescriptionImage) (flags : ℕ) where
  console_back : (o : ObjectImage) → Fits files channels front flags 0 o → o ≡ Console
  console_back Console h = refl
  console_back (File number offset) h = cc
  console_back (Stream conn side) h = cc
  console_back (Socket address) h = cc
  console_back (Listener address backlog pending) h = cc

  pub console_law : Law (give Console) object_text (Fits files channels front flags 0)
  unfolding object_text
  console_law =
      in_words _ _ _ _ _ (λ o is. sym (ap object_text is)) (λ o is. subst (Fits files channels front flags 0) (sym is) (refl, tt)) console_back (give_law Console)

  file_back : (o : ObjectImage) → Fits files channels front flags 1 o
      → FitsNumber (field.is_listed_file files) (number_in o) × (FitsNumber any (offset_in o) × (o ≡ File (number_in o) (offset_in o)))
  file_back Console h = cc
  file_back (File number offset) h = (h.1.0, (h.1.1, refl))
  file_back (Stream conn side) h = cc
  file_back (Socket address) h = cc
  file_back (Listener address backlog pending) h = cc

  pub file_law : Law (format.open_file files) object_text (Fits files channels front flags 1)
  unfolding format.open_file object_text
  file_law =
      in_words _ _ _ _ _
      (λ o h. let (number, (offset, is)) = h in ap (λ x. number_text n32 (number_in o) ++ x) (append-nil _) ∙ sym (ap object_text is))
      (λ o h. let (number, (offset, is)) = h in subst (Fits files channels front flags 1) (sym is) (refl, (number, offset)))
      file_back
      (next_law _ _ _ _ _ _ number_in (unsigned_law n32 _) (λ b o h r. let (offset, is) = r in sym (ap number_in is)) (λ number.
      next_law _ _ _ _ _ _ offset_in (unsigned_law n32 _) (λ b o h r. sym (ap offset_in r)) (λ offset.
      give_law _)))

  stream_back : (o : ObjectImage) → Fits files channels front flags 2 o
      → FitsNumber any (conn_in o).pid.0 × (FitsNumber (field.is_channel channels (conn_in o).pid.0) (conn_in o).num
      × (FitsField n8 (field.is_stream_side channels front flags (conn_in o)) (side_in o) × (o ≡ Stream (conn_in o) (side_in o))))
  stream_back Console h = cc
  stream_back (File number offset) h = cc
  stream_back (Stream conn side) h = (h.1.maker, (h.1.number, (h.1.end, refl)))
  stream_back (Socket address) h = cc
  stream_back (Listener address backlog pending) h = cc

  pub stream_law : Law (format.stream channels front flags) object_text (Fits files channels front flags 2)
  unfolding format.stream object_text connection_text
  stream_law =
      in_words _ _ _ _ _
      (λ o h.
      let (maker, (number, (end, is))) = h in
      three (number_text n32 (conn_in o).pid.0) (number_text n32 (conn_in o).num) (number_text n8 (side_in o)) ∙ sym (ap object_text is))
      (λ o h.
      let (maker, (number, (end, is))) = h in
      subst (Fits files channels front flags 2) (sym is) (refl, record { maker = maker; number = number; end = end }))
      stream_back
      (next_law _ _ _ _ _ _ (λ o. (conn_in o).pid.0) (unsigned_law n32 _) (λ b o h r. let (number, (end, is)) = r in sym (ap (λ o. (conn_in o).pid.0) is)) (λ maker.
      next_law _ _ _ _ _ _ (λ o. (conn_in o).num) (unsigned_law n32 _) (λ b o h r. let (end, is) = r in sym (ap (λ o. (conn_in o).num) is)) (λ number.
      next_law _ _ _ _ _ _ side_in (unsigned_law n8 _) (λ b o h r. sym (ap side_in r)) (λ end.
      give_law _))))

  socket_back : (o : ObjectImage) → Fits files channels front flags 3 o
      → FitsNumber field.is_host (address_in o).host × (FitsNumber (field.is_socket_port front (address_in o).host) (address_in o).port × (o ≡ Socket (address_in o)))
  socket_back Console h = cc
  socket_back (File number offset) h = cc
  socket_back (Stream conn side) h = cc
  socket_back (Socket address) h = (h.1.host, (h.1.port, refl))
  socket_back (Listener address backlog pending) h = cc

  pub socket_law : Law (format.socket front) object_text (Fits files channels front flags 3)
  unfolding format.socket object_text
  socket_law =
      in_words _ _ _ _ _
      (λ o h. let (host, (port, is)) = h in ap (λ x. number_text n32 (address_in o).host ++ x) (append-nil _) ∙ sym (ap object_text is))
      (λ o h. let (host, (port, is)) = h in subst (Fits files channels front flags 3) (sym is) (refl, record { host = host; port = port }))
      socket_back
      (next_law _ _ _ _ _ _ (λ o. (address_in o).host) (unsigned_law n32 _) (λ b o h r. let (port, is) = r in sym (ap (λ o. (address_in o).host) is)) (λ host.
      next_law _ _ _ _ _ _ (λ o. (address_in o).port) (unsigned_law n32 _) (λ b o h r. sym (ap (λ o. (address_in o).port) r)) (λ port.
      give_law _)))

  listener_back : (o : ObjectImage) → Fits files channels front flags 4 o
      → FitsNumber field.is_host (address_in o).host × (FitsNumber (field.is_listener_port front (address_in o).host) (address_in o).port
      × (FitsNumber any (backlog_in o) × ((FitsNumber (field.is_queue_count (backlog_in o)) (length (queue_in o))
      × EachFrom (ConnectionFits channels front) [] (queue_in o)) × (o ≡ Listener (address_in o) (backlog_in o) (queue_in o)))))
  listener_back Console h = cc
  listener_back (File number offset) h = cc
  listener_back (Stream conn side) h = cc
  listener_back (Socket address) h = cc
  listener_back (Listener address backlog pending) h = (h.1.host, (h.1.port, (h.1.room, ((h.1.count, h.1.queue), refl))))

  pub listener_law : Law (format.listener channels front) object_text (Fits files channels front flags 4)
  unfolding format.listener object_text
  listener_law =
      in_words _ _ _ _ _
      (λ o h.
      let (host, (port, (room, (queue, is)))) = h in
      five (number_text n32 (address_in o).host) (number_text n32 (address_in o).port) (number_text n32 (backlog_in o)) (number_text n32 (length (queue_in o))) (flat_map connection_text (queue_in o)) ∙ sym (ap object_text is))
      (λ o h.
      let (host, (port, (room, (queue, is)))) = h in
      subst (Fits files channels front flags 4) (sym is)
      (refl, record { host = host; port = port; room = room; count = queue.0; queue = queue.1 }))
      listener_back
      (next_law _ _ _ _ _ _ (λ o. (address_in o).host) (unsigned_law n32 _) (λ b o h r. let (port, (room, (queue, is))) = r in sym (ap (λ o. (address_in o).host) is)) (λ host.
      next_law _ _ _ _ _ _ (λ o. (address_in o).port) (unsigned_law n32 _) (λ b o h r. let (room, (queue, is)) = r in sym (ap (λ o. (address_in o).port) is)) (λ port.
      next_law _ _ _ _ _ _ backlog_in (unsigned_law n32 _) (λ b o h r. let (queue, is) = r in sym (ap backlog_in is)) (λ backlog.
      next_law _ _ _ _ _ _ queue_in (counted_law _ _ connection_text (ConnectionFits channels front) (connection_law channels front)) (λ b o h r. sym (ap queue_in r)) (λ pending.
      give_law _)))))

  pub object_law : (version kind : ℕ) → IsTrue (field.is_object_kind version kind)
      → Law (format.object version files channels front kind flags) object_text (Fits files channels front flags kind)
  unfolding format.object format.choice
  object_law version zero h = console_law
  object_law version (suc zero) h = file_law
  object_law version (suc (suc zero)) h = stream_law
  object_law version (suc (suc (suc zero))) h = socket_law
  object_law version (suc (suc (suc (suc zero)))) h = listener_law
  object_law version (suc (suc (suc (suc (suc n))))) h = absurd (too_great n h)

pub description_law : (version next_id : ℕ) (files : List FileImage) (channels : List ChannelImage) (front : List DescriptionImage)
    → Law (format.description version next_id files channels front) description_text (DescriptionFits version next_id files channels front)
unfolding format.description description_text
description_law version next_id files channels front =
    in_words _ _ _ _ _
    (λ d h. simp (append_assoc, append-nil))
    (λ d h.
    let (maker, (number, (kind, (flags, (owner, (what, is)))))) = h in
    record { maker = maker; number = number; kind = kind; flags = flags; owner = owner; what = what.1 })
    (λ d h. (h.maker, (h.number, (h.kind, (h.flags, (h.owner, ((refl, h.what), refl)))))))
    (next_law _ _ _ _ _ _ (λ (d : DescriptionImage). d.id.pid.0) (unsigned_law n32 _) (λ b d h o. let (number, (kind, (flags, (owner, (what, is))))) = o in sym (ap (λ (d : DescriptionImage). d.id.pid.0) is)) (λ maker.
    next_law _ _ _ _ _ _ (λ (d : DescriptionImage). d.id.num) (unsigned_law n32 _) (λ b d h o. let (kind, (flags, (owner, (what, is)))) = o in sym (ap (λ (d : DescriptionImage). d.id.num) is)) (λ number.
    next_law_if _ _ _ _ _ _ (λ (d : DescriptionImage). kind_of d.object) (unsigned_law n8 _) (λ b d h o. let (flags, (owner, (what, is))) = o in what.0) (λ kind known.
    next_law _ _ _ _ _ _ (λ (d : DescriptionImage). d.flags) (unsigned_law n32 _) (λ b d h o. let (owner, (what, is)) = o in sym (ap (λ (d : DescriptionImage). d.flags) is)) (λ flags.
    next_law _ _ _ _ _ _ (λ (d : DescriptionImage). d.owner) (unsigned_law n32 _) (λ b d h o. let (what, is) = o in sym (ap (λ (d : DescriptionImage). d.owner) is)) (λ owner.
    next_law _ _ _ _ _ _ (λ (d : DescriptionImage). d.object) (object_law files channels front flags version kind known.1) (λ b d h o. sym (ap (λ (d : DescriptionImage). d.object) o)) (λ what.
    give_law _)))))))
