-- The formats of a file and of a channel, and their texts
use Rattle.std.proofs.Common.{◌≡◌, ◌==◌, ◌%◌, ℕ, List, ◌++◌, length, refl, sym, ap, ◌∙◌, append_assoc, append-nil}
use Rattle.std.specs.Prelude.{nat_le, is_some}
use Rattle.shared_items.specs.declared.shared.FileImage.{FileImage}
use Rattle.shared_items.specs.declared.shared.SideImage.{SideImage}
use Rattle.shared_items.specs.declared.shared.ChannelImage.{ChannelImage}
use Rattle.image_format.specs.Format.{n8, n16, n32}
use Rattle.image_format.proofs.Texts.{Law, in_words, next_law, unsigned_law, raw_law, give_law}
use Rattle.shared_items.specs.SharedTests as field
use Rattle.shared_items.specs.SharedFits.{FileFits, SideFits, ChannelFits, flag, side_flags, number_of_kind, host_number, port_number}
use Rattle.shared_items.specs.SharedTexts.{file_text, side_text, channel_text}
use Rattle.shared_items.specs.SharedFormat as format
use Rattle.shared_items.proofs.FieldLaws.{two_flags, flags_fit, first_flag, second_flag, kind_of_number, number_of_channel, kind_fits, host_of_side, port_of_side, has_address, address_back}

pub file_law : (next_file : ℕ) (front : List FileImage) → Law (format.file next_file front) file_text (FileFits next_file front)
unfolding format.file file_text
file_law next_file front =
    in_words _ _ _ _ _
    (λ f h. simp (append_assoc, append-nil))
    (λ f h.
    let (number, (name_size, (name, (size, (bytes, is))))) = h in
    record { number = number; name_size = name_size; name = name.1; size = size; bytes = bytes.1 })
    (λ f h. (h.number, (h.name_size, ((refl, h.name), (h.size, ((refl, h.bytes), refl))))))
    (next_law _ _ _ _ _ _ (λ (f : FileImage). f.number) (unsigned_law n32 _) (λ b f h o. let (name_size, (name, (size, (bytes, is)))) = o in sym (ap (λ (f : FileImage). f.number) is)) (λ number.
    next_law _ _ _ _ _ _ (λ (f : FileImage). length f.name) (unsigned_law n16 _) (λ b f h o. sym o.0.0) (λ name_size.
    next_law _ _ _ _ _ _ (λ (f : FileImage). f.name) (raw_law name_size _) (λ b f h o. let (size, (bytes, is)) = o in sym (ap (λ (f : FileImage). f.name) is)) (λ name.
    next_law _ _ _ _ _ _ (λ (f : FileImage). length f.bytes) (unsigned_law n32 _) (λ b f h o. sym o.0.0) (λ size.
    next_law _ _ _ _ _ _ (λ (f : FileImage). f.bytes) (raw_law size _) (λ b f h o. sym (ap (λ (f : FileImage). f.bytes) o)) (λ bytes.
    give_law _))))))

pub side_law : (kind number : ℕ) → Law (format.side kind number) side_text (SideFits kind number)
unfolding format.side side_text
side_law kind number =
    in_words _ _ _ _ _
    (λ s h. simp (append_assoc, append-nil))
    (λ s h.
    let (flags, (size, (left, (host, (port, is))))) = h in
    record {
      size = size;
      left = left.1;
      has_address = ap (λ (s : SideImage). is_some s.address) is ∙ has_address kind (host_number s.address) (port_number s.address);
      host = host;
      port = port;
    })
    (λ s h. (
      flags_fit s.ended s.unread,
      (
        h.size,
        (
          (refl, h.left),
          (
            h.host,
            (
              h.port,
              λ i. record {
                ended = sym (first_flag s.ended s.unread) i;
                unread = sym (second_flag s.ended s.unread) i;
                left = s.left;
                address = address_back kind s.address h.has_address i;
              },
            ),
          ),
        ),
      ),
    ))
    (next_law _ _ _ _ _ _ side_flags (unsigned_law n8 _) (λ b s h o. let (size, (left, (host, (port, is)))) = o in sym (ap side_flags is ∙ two_flags b h.1)) (λ flags.
    next_law _ _ _ _ _ _ (λ (s : SideImage). length s.left) (unsigned_law n32 _) (λ b s h o. sym o.0.0) (λ size.
    next_law _ _ _ _ _ _ (λ (s : SideImage). s.left) (raw_law size _) (λ b s h o. let (host, (port, is)) = o in sym (ap (λ (s : SideImage). s.left) is)) (λ left.
    next_law _ _ _ _ _ _ (λ (s : SideImage). host_number s.address) (unsigned_law n32 _) (λ b s h o. let (port, is) = o in sym (ap (λ (s : SideImage). host_number s.address) is ∙ host_of_side kind b (port_number s.address) h.1)) (λ host.
    next_law _ _ _ _ _ _ (λ (s : SideImage). port_number s.address) (unsigned_law n32 _) (λ b s h o. sym (ap (λ (s : SideImage). port_number s.address) o ∙ port_of_side kind host b h.1)) (λ port.
    give_law _))))))

pub channel_law : (next_id : ℕ) (front : List ChannelImage) → Law (format.channel next_id front) channel_text (ChannelFits next_id front)
unfolding format.channel channel_text
channel_law next_id front =
    in_words _ _ _ _ _
    (λ c h. simp (append_assoc, append-nil))
    (λ c h.
    let (maker, (number, (kind, (first, (second, is))))) = h in
    record { maker = maker; number = number; first = first; second = second })
    (λ c h. (h.maker, (h.number, (kind_fits c.kind, (h.first, (h.second, λ i. record c { kind = sym (number_of_channel c.kind) i }))))))
    (next_law _ _ _ _ _ _ (λ (c : ChannelImage). c.id.pid.0) (unsigned_law n32 _) (λ b c h o. let (number, (kind, (first, (second, is)))) = o in sym (ap (λ (c : ChannelImage). c.id.pid.0) is)) (λ maker.
    next_law _ _ _ _ _ _ (λ (c : ChannelImage). c.id.num) (unsigned_law n32 _) (λ b c h o. let (kind, (first, (second, is))) = o in sym (ap (λ (c : ChannelImage). c.id.num) is)) (λ number.
    next_law _ _ _ _ _ _ (λ (c : ChannelImage). number_of_kind c.kind) (unsigned_law n8 _) (λ b c h o. let (first, (second, is)) = o in sym (ap (λ (c : ChannelImage). number_of_kind c.kind) is ∙ kind_of_number b h.1)) (λ kind.
    next_law _ _ _ _ _ _ (λ (c : ChannelImage). c.first) (side_law kind 0) (λ b c h o. let (second, is) = o in sym (ap (λ (c : ChannelImage). c.first) is)) (λ first.
    next_law _ _ _ _ _ _ (λ (c : ChannelImage). c.second) (side_law kind 1) (λ b c h o. sym (ap (λ (c : ChannelImage). c.second) o)) (λ second.
    give_law _))))))
