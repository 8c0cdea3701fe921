-- A direction in the place of one that is there keeps what is said of channels.
--     direction_keeps      what it needs: the new one fits, is empty where a pipe can't fill it, and goes on being ended and unread
use Rattle.std.proofs.Common.{◌≡◌, ◌-◌, true, [], refl, subst, ◌∙◌}
use Rattle.std.specs.Prelude.{Some, is_some}
use Rattle.std.specs.FinMap as map
use Rattle.id_maps.specs.OfSysAbi.declared.identity.Dir.{Dir}
use Rattle.id_maps.proofs.OfSysAbi.OrderLaws.{dir_total, dir_exact}
use Rattle.plain_tables.specs.declared.channel.Channel.{Channel}
use Rattle.plain_tables.specs.declared.channel.ChannelKind.TheVariants.{Pipe}
use Rattle.plain_tables.specs.declared.channel.Direction.{Direction}
use Rattle.plain_tables.specs.Tables.{Channels, Directions}
use Rattle.plain_tables.specs.Objects.{dir}
use Rattle.plain_tables.specs.Valid.Channels.{AreChannels, IsDirection}
use Rattle.plain_tables.proofs.Entries.{each_with, there_same, found_at}

module _ (channels : Channels) (directions : Directions) (at : Dir) (new : Direction) (is : AreChannels channels directions) (there : is_some (map.get directions at) ≡ true) where
  pub direction_keeps : IsDirection new
      → ((channel : Channel) → map.get channels at.conn ≡ Some channel → channel.kind ≡ Pipe → at.side ≡ 1 → new.left ≡ [])
      → ((old : Direction) → map.get directions at ≡ Some old → old.ended ≡ true → new.ended ≡ true)
      → ((old : Direction) → map.get directions at ≡ Some old → old.unread ≡ true → new.unread ≡ true)
      → AreChannels channels (map.insert directions at new)
  direction_keeps fits empty ended unread =
      let old = found_at dir_total dir_exact directions at there in
      record {
        count = is.count;
        sides = λ e. there_same dir_total dir_exact directions at new e there ∙ is.sides e;
        addresses = is.addresses;
        open_end = is.open_end;
        each = each_with dir_total dir_exact (λ e direction. IsDirection direction) directions at new fits (λ e direction other found. is.each e direction found);
        pipes = λ conn channel direction known pipe found.
            each_with dir_total dir_exact (λ e d. (c : Channel) → map.get channels e.conn ≡ Some c → c.kind ≡ Pipe → e.side ≡ 1 → d.left ≡ []) directions at new empty
            (λ e d other was c is_there is_pipe one. is.pipes e.conn c d is_there is_pipe (subst (λ side. map.get directions (dir e.conn side) ≡ Some d) one was))
            (dir conn 1) direction found channel known pipe refl;
        closed = λ conn side channel known low shut.
            let was = is.closed conn side channel known low shut in
            record {
              ended = λ direction found.
                  each_with dir_total dir_exact (λ e d. ((o : Direction) → map.get directions e ≡ Some o → o.ended ≡ true) → d.ended ≡ true) directions at new
                  (λ all. ended old.0 old.1 (all old.0 old.1)) (λ e d other stands all. all d stands) (dir conn side) direction found was.ended;
              unread = λ direction found.
                  each_with dir_total dir_exact (λ e d. ((o : Direction) → map.get directions e ≡ Some o → o.unread ≡ true) → d.unread ≡ true) directions at new
                  (λ all. unread old.0 old.1 (all old.0 old.1)) (λ e d other stands all. all d stands) (dir conn (1 - side)) direction found was.unread;
            };
      }
