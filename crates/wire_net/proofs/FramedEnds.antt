-- With the same frames a list of ends fits as before.
use Rattle.std.proofs.Common.{◌≡◌, ℕ, ◌==◌, ◌-◌, Bool, true, false, List, refl, sym, ap, ◌∙◌}
use Rattle.std.specs.Prelude.{Option, Some, None, if◌then◌else◌}
use Rattle.std.specs.Option.{option_map}
use Rattle.std.specs.FinMap as map
use Rattle.std.proofs.lemmas.Option.{same_Some, none-some}
use Rattle.sys_abi.specs.declared.identity.ConnId.{ConnId}
use Rattle.wire_net.specs.declared.agents.AgentEnd.{AgentEnd}
use Rattle.wire_channels.specs.declared.channel.Channel.{Channel}
use Rattle.wire_channels.specs.Channels.{Channels, direction_of}
use Rattle.wire_net.specs.Ends.{IsFor}
use Rattle.wire_channels.specs.Frames.{Flags, Frame, flags_of, frame_of, SameFrames}
use Rattle.wire_channels.proofs.KeptFrames.{there_framed}

-- the channel before the change
record Was (m : Channels) (id : ConnId) (after : Channel) : Type 0 where
  channel : Channel
  found : map.get m id ≡ Some channel
  same : frame_of after ≡ frame_of channel

was : (m n : Channels) (id : ConnId) (after : Channel) → SameFrames m n → map.get n id ≡ Some after → Was m id after
was m n id after same at = choice (map.get m id) refl
  where
    choice : (o : Option Channel) → map.get m id ≡ o → Was m id after
    choice None is = absurd (none-some (frame_of after) (sym (sym (ap (option_map frame_of) at) ∙ same id ∙ ap (option_map frame_of) is)))
    choice (Some channel) is = record {
      channel = channel;
      found = is;
      same = same_Some (frame_of after) (frame_of channel) (sym (ap (option_map frame_of) at) ∙ same id ∙ ap (option_map frame_of) is);
    }

side_flags : (side : ℕ) (a b : Channel) → frame_of a ≡ frame_of b → flags_of (direction_of side a) ≡ flags_of (direction_of side b)
side_flags side a b same = choice (side == 0)
  where
    choice : (first : Bool) → flags_of (if first then a.first else a.second) ≡ flags_of (if first then b.first else b.second)
    choice true = ap (λ (frame : Frame). frame.first) same
    choice false = ap (λ (frame : Frame). frame.second) same

pub for_framed : (m n : Channels) (ends : List AgentEnd) → SameFrames m n → IsFor m ends → IsFor n ends
for_framed m n ends same for = record {
  named = λ id side few there. for.named id side few (sym (there_framed m n id same) ∙ there);
  silent = λ id channel side few at none.
      let before = was m n id channel same at in
      ap (λ (flags : Flags). flags.is_ended) (side_flags side channel before.channel before.same) ∙ for.silent id before.channel side few before.found none;
  deaf = λ id channel side few at none.
      let before = was m n id channel same at in
      ap (λ (flags : Flags). flags.is_unread) (side_flags (1 - side) channel before.channel before.same) ∙ for.deaf id before.channel side few before.found none;
}
