-- Changes of one direction that neither end it nor stop its reader, and what two networks with the same frames have alike.
--     KeepsFlags             so it is with a change
--     frames_kept            it keeps the frames of all channels
--     same_frames, then_same     nothing changes;  one change after the other
--     there_framed, direction_framed     with the same frames the same channels are there, and the same directions
--     moves_keep             a move of bytes is such a change
--     none_moved             a move of no bytes changes nothing
use Rattle.std.proofs.Common.{◌≡◌, ℕ, ◌==◌, ◌-◌, Bool, true, false, List, [], ◌++◌, take, drop, length, refl, sym, ap, ap₂, ◌∙◌, append-nil, inl, inr}
use Rattle.std.specs.Prelude.{Option, Some, None, is_some, min, if◌then◌else◌}
use Rattle.std.specs.Option.{option_map, option_map_or}
use Rattle.std.specs.FinMap as map
use Rattle.std.proofs.lemmas.List.{length-take, nil_from_length, take-append-drop}
use Rattle.virt_ids.proofs.OfViews.MapLaws.{same_or_other, get_insert_same, get_insert_other}
use Rattle.virt_ids.specs.OfSysAbi.declared.identity.ConnId.{ConnId}
use Rattle.virt_ids.specs.OfSysAbi.declared.identity.Dir.{Dir}
use Rattle.virt_ids.proofs.OfSysAbi.OrderLaws.{conn_total, conn_exact}
use Rattle.wire_channels.specs.declared.channel.Channel.{Channel}
use Rattle.wire_channels.specs.declared.place.Place.{Place}
use Rattle.wire_channels.specs.declared.place.Place.TheVariants.{Send, Wire}
use Rattle.wire_channels.specs.Directions.{Direction, bytes_at, after_move}
use Rattle.wire_channels.specs.Channels.{Channels, direction_of, direction_at, at_side, at_direction}
use Rattle.wire_channels.specs.Frames.{Flags, Frame, flags_of, frame_of, SameFrames}
use Rattle.wire_channels.specs.Answers.{bytes_on}
use Rattle.wire_channels.proofs.OneDirection.{agreeing_changes, unchanged_direction}

abbrev pub KeepsFlags : (Direction → Direction) → Type 0
KeepsFlags f = (direction : Direction) → flags_of (f direction) ≡ flags_of direction

abbrev framed : Flags → Flags → List Bool → Frame
framed first second open_ends = record { first = first; second = second; open_ends = open_ends }

abbrev changed : Bool → (Direction → Direction) → Channel → Channel
changed b f channel = if b then record channel { first = f channel.first } else record channel { second = f channel.second }

side_kept : (b : Bool) (f : Direction → Direction) (channel : Channel) → KeepsFlags f → frame_of (changed b f channel) ≡ frame_of channel
side_kept true f channel keeps = ap (λ (flags : Flags). framed flags (flags_of channel.second) channel.open_ends) (keeps channel.first)
side_kept false f channel keeps = ap (λ (flags : Flags). framed (flags_of channel.first) flags channel.open_ends) (keeps channel.second)

found_kept : (m : Channels) (id other : ConnId) (g : Channel → Channel) (found : Option Channel) → ((channel : Channel) → frame_of (g channel) ≡ frame_of channel) → map.get m id ≡ found
    → option_map frame_of (map.get (option_map_or (λ channel. map.insert m id (g channel)) found m) other) ≡ option_map frame_of (map.get m other)
found_kept m id other g None keeps is = refl
found_kept m id other g (Some channel) keeps is = elim (same_or_other conn_total conn_exact other id) [
  | inl same ↦
      ap (option_map frame_of) (ap (map.get (map.insert m id (g channel))) same ∙ get_insert_same conn_total conn_exact m id (g channel))
      ∙ ap (λ (frame : Frame). Some frame) (keeps channel)
      ∙ ap (option_map frame_of) (sym (ap (map.get m) same ∙ is))
  | inr differ ↦ ap (option_map frame_of) (get_insert_other conn_total conn_exact m id (g channel) other differ)
]

pub frames_kept : (m : Channels) (d : Dir) (f : Direction → Direction) → KeepsFlags f → SameFrames m (at_direction m d f)
frames_kept m d f keeps id = found_kept m d.conn id (at_side d.side f) (map.get m d.conn) (λ channel. side_kept (d.side == 0) f channel keeps) refl

pub same_frames : (m : Channels) → SameFrames m m
same_frames m id = refl

pub then_same : (l m n : Channels) → SameFrames l m → SameFrames m n → SameFrames l n
then_same l m n first second id = second id ∙ first id

-- ---- what the same frames have alike

mapped : {X : Type 0} (g : Channel → X) (o : Option Channel) → is_some (option_map g o) ≡ is_some o
mapped g None = refl
mapped g (Some channel) = refl

pub there_framed : (m n : Channels) (id : ConnId) → SameFrames m n → is_some (map.get n id) ≡ is_some (map.get m id)
there_framed m n id same = sym (mapped frame_of (map.get n id)) ∙ ap is_some (same id) ∙ mapped frame_of (map.get m id)

pub direction_framed : (m n : Channels) (d : Dir) → SameFrames m n → is_some (direction_at n d) ≡ is_some (direction_at m d)
direction_framed m n d same = mapped (direction_of d.side) (map.get n d.conn) ∙ there_framed m n d.conn same ∙ sym (mapped (direction_of d.side) (map.get m d.conn))

-- ---- moves of bytes

pub moves_keep : (place : Place) (n : ℕ) → KeepsFlags (after_move place n)
moves_keep Send n direction = refl
moves_keep Wire n direction = refl

none_taken : (n : ℕ) (bytes : List ℕ) → min n (length bytes) ≡ 0 → take n bytes ≡ []
none_taken n bytes none = nil_from_length (take n bytes) (length-take n bytes ∙ none)

all_left : (n : ℕ) (bytes : List ℕ) → min n (length bytes) ≡ 0 → drop n bytes ≡ bytes
all_left n bytes none = sym (ap (λ (front : List ℕ). front ++ drop n bytes) (none_taken n bytes none)) ∙ take-append-drop n bytes

unmoved : (place : Place) (n : ℕ) (direction : Direction) → min n (length (bytes_at place direction)) ≡ 0 → after_move place n direction ≡ direction
unmoved Send n direction none =
    ap₂ (λ (sent piece : List ℕ). record direction { sent = sent; wire = direction.wire ++ piece }) (all_left n direction.sent none) (none_taken n direction.sent none)
    ∙ ap (λ (wire : List ℕ). record direction { wire = wire }) (append-nil direction.wire)
unmoved Wire n direction none =
    ap₂ (λ (wire piece : List ℕ). record direction { wire = wire; received = direction.received ++ piece }) (all_left n direction.wire none) (none_taken n direction.wire none)
    ∙ ap (λ (received : List ℕ). record direction { received = received }) (append-nil direction.received)

pub none_moved : (m : Channels) (d : Dir) (place : Place) (n : ℕ) → min n (length (bytes_on place (direction_at m d))) ≡ 0 → at_direction m d (after_move place n) ≡ m
none_moved m d place n none =
    agreeing_changes m d (after_move place n) (λ direction. direction)
    (λ direction at. unmoved place n direction (sym (ap (λ (found : Option Direction). min n (length (bytes_on place found))) at) ∙ none))
    ∙ unchanged_direction m d (λ direction. direction) (λ direction. refl)
