-- What was drained, and what is filled again.
--     lists_drained      a drain that is done leaves lists of a cut
--     counted            the list of a direction has as many bytes as are unread
--     filling_begun      the refill begins with the bytes where they were
--     filled_step, filled_move      it goes on
--     all_filled         a refill that is done leaves a cut of which all bytes can be read
use Rattle.std.proofs.Common.{◌≡◌, ◌<◌, ◌≤◌, ℕ, true, false, ◌||◌, List, [], ◌∷◌, length, Option, Some, None, refl, sym, ap, subst, ◌∙◌}
use Rattle.std.specs.Prelude.{IsSome, is_some, All}
use Rattle.std.specs.Option.{option_map_or}
use Rattle.std.specs.Ordering.{eq_by_cmp}
use Rattle.std.specs.FinMap as map
use Rattle.std.proofs.lemmas.List.Elements.{All-nil, All-cons, All-head, All-tail}
use Rattle.views.specs.Seen.{Agree}
use Rattle.views.proofs.MapLaws.{true_false, same_key}
use Rattle.sys_abi.specs.declared.identity.Dir.{Dir}
use Rattle.sys_abi.specs.Orders.{dir_cmp}
use Rattle.sys_abi.proofs.OrderLaws.{dir_total, dir_exact}
use Rattle.drain_core.specs.Drains as drains
use Rattle.drain_core.specs.Holding as draining
use Rattle.drain_core.specs.Openings.{lists_of, IsGiven}
use Rattle.refill_core.specs.Refills as refills
use Rattle.refill_core.specs.Holding as refilling
use Rattle.plain_tables.specs.declared.channel.Direction as plain
use Rattle.plain_machine.specs.declared.kernel.PlainKernel.{PlainKernel}
use Rattle.wire_channels.specs.declared.limits.TheConstants.{QUEUE_LIMIT}
use Rattle.wire_channels.specs.declared.place.Place.TheVariants.{Send, Wire}
use Rattle.wire_channels.specs.Answers.{received_on}
use Rattle.wire_channels.specs.Channels.{direction_at, at_direction}
use Rattle.wire_channels.specs.Directions.{Direction, after_move}
use Rattle.wire_channels.specs.Frames.{SameFrames}
use Rattle.wire_net.specs.declared.agents.AgentEnd.{AgentEnd}
use Rattle.wire_net.specs.declared.cut_room.DirBytes.{DirBytes}
use Rattle.wire_net.specs.declared.cut_room.DirNotes.{DirNotes}
use Rattle.wire_net.specs.CutRooms.{RoomView}
use Rattle.wire_net.specs.DrainedNets.{list_on, IsListOf, IsDrained, IsNamingLists, agents_of_lists}
use Rattle.wire_net.specs.Networks.{Network}
use Rattle.wire_net.specs.Noted.{named_agents}
use Rattle.wire_net.specs.Whereabouts.{stream_on, whereabouts}
use Rattle.wire_net.proofs.ListsOn.{one_listed, list_dir}
use Rattle.wire_net.proofs.NotedAgents.{noted_named}
use Rattle.wire_net.proofs.Streams.{whereabouts-move, whereabouts-none}
use Rattle.host_tables.specs.declared.system.System.{System}
use Rattle.host_tables.specs.Network.{SameDirection}
use Rattle.leader_vote.specs.Owners.{Owners}
use Rattle.cut_stages.specs.Drains.{IsDraining, pumped}
use Rattle.cut_stages.specs.Resumptions.{left_of, AreShort, count_on, IsDrainedSet, IsFilling, IsFilled}
use Rattle.cut_stages.proofs.Cutting.{with_net, on_channels, there_before, cut_on}

-- drained
module _ (s : System) (next_id : ℕ) (k : PlainKernel) (owners : Owners) (ends : List AgentEnd)
    (notes : drains.Notes) (is : IsDraining s next_id k owners ends notes) where
  abbrev t : Network
  t = s.kernel.net

  -- the bytes of lists are the same by what lists hold
  told_then : (lists whole : List DirBytes) → All (IsListOf t.channels) lists
      → ((d : Dir) → d.side < 2
      → whereabouts t (agents_of_lists whole) d ≡ whereabouts t (draining.agents_of notes) d)
      → All (λ list. list.bytes ≡ whereabouts t (draining.agents_of notes) list.dir) lists
      → All (λ list. list.bytes ≡ whereabouts t (agents_of_lists whole) list.dir) lists
  told_then [] whole all kept told = All-nil (λ list. list.bytes ≡ whereabouts t (agents_of_lists whole)
      list.dir)
  told_then (list ∷ lists) whole all kept told =
      All-cons (λ list. list.bytes ≡ whereabouts t (agents_of_lists whole) list.dir) list lists
      (All-head (λ list. list.bytes ≡ whereabouts t (draining.agents_of notes) list.dir) list lists told
      ∙ sym (kept list.dir (All-head (IsListOf t.channels) list lists all).side))
      (told_then lists whole (All-tail (IsListOf t.channels) list lists all) kept
      (All-tail (λ list. list.bytes ≡ whereabouts t (draining.agents_of notes) list.dir) list lists told))

  pub lists_drained : (lists : List DirBytes) (room : RoomView) → lists ≡ lists_of t.channels notes →
      IsGiven t notes
      → IsDrained t.channels lists
      → ((d : Dir) → d.side < 2 → IsSome (direction_at t.channels d) → drains.has_notes d notes ≡ true
      → IsSome (list_on d lists))
      → IsNamingLists room.lengths lists
      → ((d : Dir) → d.side < 2
      → whereabouts t (agents_of_lists lists) d ≡ whereabouts t (draining.agents_of notes) d)
      → IsDrainedSet s next_id k owners ends lists room
  lists_drained lists room lists_are given drained whole naming kept = record {
    cut = record {
      before = is.cut.before;
      wrapped = is.cut.wrapped;
      plain = is.cut.plain;
      kept = is.cut.kept;
      book = is.cut.book;
      frames = is.cut.frames;
      bytes = λ d below. kept d below ∙ is.cut.bytes d below;
      rest = is.cut.rest;
    };
    agents = is.agents;
    drained = drained;
    whole = λ d below there. whole d below there (is.noted d below there);
    naming = naming;
    bytes = told_then lists lists drained.lists_of kept
        (subst (All (λ list. list.bytes ≡ whereabouts t (draining.agents_of notes) list.dir)) (sym
        lists_are) given.lists);
  }

module _ (s : System) (next_id : ℕ) (k : PlainKernel) (owners : Owners) (ends : List AgentEnd)
    (lists : List DirBytes) (room : RoomView) (is : IsDrainedSet s next_id k owners ends lists room) where
  short_by : (some : List DirBytes) → All (IsListOf s.kernel.net.channels) some → AreShort some
  short_by [] all = All-nil (λ list. length list.bytes ≤ QUEUE_LIMIT)
  short_by (list ∷ some) all =
      All-cons (λ list. length list.bytes ≤ QUEUE_LIMIT) list some
      (All-head (IsListOf s.kernel.net.channels) list some all).few
      (short_by some (All-tail (IsListOf s.kernel.net.channels) list some all))

  pub are_short : AreShort lists
  are_short = short_by lists is.drained.lists_of

  abbrev before : Network
  before = is.cut.before.kernel.net

  -- what is unread
  left_is : (d : Dir) → d.side < 2 → left_of k d ≡ length (stream_on (direction_at before.channels d))
  left_is d below =
      by (map.get k.directions d) (direction_at before.channels d) refl
      (is.cut.wrapped.stands.tables.directions.at d below)
    where
      by : (o : Option plain.Direction) (q : Option Direction) → direction_at before.channels d ≡ q
          → Agree (SameDirection before None d) o q
          → option_map_or (λ (x : plain.Direction). length x.left) o 0 ≡ length (stream_on q)
      by None None at h = refl
      by None (Some y) at h = absurd h
      by (Some x) None at h = absurd h
      by (Some x) (Some y) at h =
          ap (λ (xs : List ℕ). length xs) (h.left ∙ whereabouts-none before d ∙ ap stream_on at)

  pub counted : (d : Dir) → d.side < 2 → count_on lists d ≡ left_of k d
  counted d below = by (list_on d lists) refl ∙ sym (left_is d below)
    where
      by : (found : Option DirBytes) → list_on d lists ≡ found
          → option_map_or (λ (list : DirBytes). length list.bytes) found 0
          ≡ length (stream_on (direction_at before.channels d))
      by (Some list) at =
          let told = one_listed (λ l. l.bytes ≡ whereabouts s.kernel.net (agents_of_lists lists) l.dir) d
          lists list at
          is.bytes in
          ap (λ (xs : List ℕ). length xs)
          (told ∙ ap (whereabouts s.kernel.net (agents_of_lists lists)) (list_dir d lists list at) ∙
          is.cut.bytes d below)
      by None at = by_direction (direction_at s.kernel.net.channels d) refl
        where
          nothing : (o : Option Direction) → direction_at before.channels d ≡ o
              → (IsSome (direction_at before.channels d) → ⊥) → 0 ≡ length (stream_on o)
          nothing None is_none not = refl
          nothing (Some y) is_some_one not = absurd (not (ap is_some is_some_one))

          by_direction : (o : Option Direction) → direction_at s.kernel.net.channels d ≡ o
              → 0 ≡ length (stream_on (direction_at before.channels d))
          by_direction (Some y) here =
              true_false (sym (is.whole d below (ap is_some here)) ∙ ap is_some at)
          by_direction None here =
              nothing (direction_at before.channels d) refl
              (λ there. true_false (sym (there_before s.kernel.net.channels before.channels d (λ id. sym
              (is.cut.frames id)) there)
              ∙ ap is_some here))

  pub filling_begun : (notes : refills.Notes) → refills.Fits s.kernel.net.channels notes
      → ((d : Dir) → d.side < 2 → IsSome (direction_at s.kernel.net.channels d) → refills.has_notes d notes
      ≡ true)
      → ((d : Dir) → whereabouts s.kernel.net (refilling.agents_of notes) d
      ≡ whereabouts s.kernel.net (agents_of_lists lists) d)
      → IsFilling s next_id k owners notes
  filling_begun notes fits there held = record {
    cut = record {
      before = is.cut.before;
      wrapped = is.cut.wrapped;
      plain = is.cut.plain;
      kept = is.cut.kept;
      book = is.cut.book;
      frames = is.cut.frames;
      bytes = λ d below. held d ∙ is.cut.bytes d below;
      rest = is.cut.rest;
    };
    fits = fits;
    noted = there;
  }

-- filled again
module _ (s : System) (next_id : ℕ) (k : PlainKernel) (owners : Owners) (notes : refills.Notes)
    (is : IsFilling s next_id k owners notes) where
  pub filled_step : (t : Network) (notes' : refills.Notes) → t ≡ on_channels s.kernel.net t.channels
      → SameFrames s.kernel.net.channels t.channels → refills.Fits t.channels notes'
      → named_agents notes' ≡ named_agents notes
      → ((d : Dir) → d.side < 2
      → whereabouts t (refilling.agents_of notes') d ≡ whereabouts s.kernel.net (refilling.agents_of notes) d)
      → IsFilling (with_net s t) next_id k owners notes'
  filled_step t notes' net_is frames fits named kept = record {
    cut = cut_on s next_id k owners (refilling.agents_of notes) is.cut t (refilling.agents_of notes')
        net_is frames kept;
    fits = fits;
    noted = λ d below there.
        noted_named d notes' notes named
        ∙ is.noted d below (there_before s.kernel.net.channels t.channels d frames there);
  }

  pub filled_move : (d : Dir) (n : ℕ) → SameFrames s.kernel.net.channels (pumped d n s.kernel.net).channels
      → refills.Fits (pumped d n s.kernel.net).channels notes
      → IsFilling (with_net s (pumped d n s.kernel.net)) next_id k owners notes
  filled_move d n frames fits =
      filled_step (pumped d n s.kernel.net) notes refl frames fits refl
      (λ e below. whereabouts-move (on_channels s.kernel.net (at_direction s.kernel.net.channels d
      (after_move Send n)))
      (refilling.agents_of notes) d e Wire n
      ∙ whereabouts-move s.kernel.net (refilling.agents_of notes) d e Send n)

  abbrev IsBackHere : DirNotes → Type 0
  IsBackHere = refills.IsBack (λ d. whereabouts s.kernel.net (refilling.agents_of notes) d)
      s.kernel.net.channels

  -- what holds of the notes on a direction
  back_at : (d : Dir) (some : refills.Notes) → All IsBackHere some → refills.has_notes d some ≡ true
      → (stream_on (direction_at s.kernel.net.channels d) ≡ received_on (direction_at s.kernel.net.channels
      d))
      × (received_on (direction_at s.kernel.net.channels d)
      ≡ whereabouts s.kernel.net (refilling.agents_of notes) d)
  back_at d [] all has = true_false (sym has)
  back_at d (x ∷ some) all has =
      elim (eq_by_cmp dir_cmp x.dir d) as (λ b. eq_by_cmp dir_cmp x.dir d ≡ b
      → (b || refills.has_notes d some) ≡ true
      → (stream_on (direction_at s.kernel.net.channels d) ≡ received_on (direction_at
      s.kernel.net.channels d))
      × (received_on (direction_at s.kernel.net.channels d)
      ≡ whereabouts s.kernel.net (refilling.agents_of notes) d)) [
        | true ↦ λ tied is_so.
            let here = All-head IsBackHere x some all in
            subst (λ e. (stream_on (direction_at s.kernel.net.channels e) ≡ received_on (direction_at
            s.kernel.net.channels e))
            × (received_on (direction_at s.kernel.net.channels e)
            ≡ whereabouts s.kernel.net (refilling.agents_of notes) e))
            (same_key dir_total dir_exact x.dir d tied) (here.quiet, here.whole)
        | false ↦ λ apart is_so. back_at d some (All-tail IsBackHere x some all) is_so
      ] refl has

  pub all_filled : All IsBackHere notes → IsFilled s next_id k owners
  all_filled back = record {
    cut = record {
      before = is.cut.before;
      wrapped = is.cut.wrapped;
      plain = is.cut.plain;
      kept = is.cut.kept;
      book = is.cut.book;
      frames = is.cut.frames;
      bytes = λ d below. whereabouts-none s.kernel.net d ∙ bytes_by d below (direction_at
          s.kernel.net.channels d) refl;
      rest = is.cut.rest;
    };
    quiet = λ d below. quiet_by d below (direction_at s.kernel.net.channels d) refl;
  }
    where
      quiet_by : (d : Dir) → d.side < 2 → (o : Option Direction) → direction_at s.kernel.net.channels d ≡ o
          → received_on (direction_at s.kernel.net.channels d) ≡ stream_on (direction_at
          s.kernel.net.channels d)
      quiet_by d below None at = ap received_on at ∙ sym (ap stream_on at)
      quiet_by d below (Some y) at = sym (back_at d notes back (is.noted d below (ap is_some at))).0

      gone : (d : Dir) → (o : Option Direction) → direction_at is.cut.before.kernel.net.channels d ≡ o
          → (IsSome (direction_at is.cut.before.kernel.net.channels d) → ⊥) → stream_on o ≡ []
      gone d None at not = refl
      gone d (Some y) at not = absurd (not (ap is_some at))

      bytes_by : (d : Dir) → d.side < 2 → (o : Option Direction) → direction_at s.kernel.net.channels d ≡ o
          → stream_on (direction_at s.kernel.net.channels d)
          ≡ stream_on (direction_at is.cut.before.kernel.net.channels d)
      bytes_by d below None at =
          ap stream_on at
          ∙ sym (gone d (direction_at is.cut.before.kernel.net.channels d) refl
          (λ there. true_false (sym (there_before s.kernel.net.channels is.cut.before.kernel.net.channels d
          (λ id. sym (is.cut.frames id)) there) ∙ ap is_some at)))
      bytes_by d below (Some y) at =
          let both = back_at d notes back (is.noted d below (ap is_some at)) in
          both.0 ∙ both.1 ∙ is.cut.bytes d below
