use Rattle.wire_net.specs.declared.cut_room.DirNotes.{DirNotes}
use Rattle.std.proofs.Common.{◌≤◌, drop, get_or, ◌+◌, ◌∙◌, refl}
use Rattle.std.proofs.lemmas.List.Elements.{All-nil, All-head}
use Rattle.wire_channels.specs.declared.limits.TheConstants.{QUEUE_LIMIT}
use Rattle.drain_core.specs.Openings.{opened}
use Rattle.wire_net.proofs.EachItem.{item_changed, all_changed}
use Rattle.drain_core.proofs.ComingNotes.{IsLedAlike, at_first, one_on, opened_alike, coming}
use Rattle.drain_core.proofs.opening.open_all.Goals as goal

pub loop-notes-init : goal.loop-notes-init
loop-notes-init c = record {
  notes = refl;
  few = All-nil (λ (x : DirNotes). x.count ≤ QUEUE_LIMIT);
  coming = at_first c.args.ends.now c.args.all.now c.requires.apart c.requires.sides;
}

pub loop-notes-preserved : goal.loop-notes-preserved
loop-notes-preserved c =
    let all = c.loop-notes.all in
    let old = c.args.all.now in
    let i = c.loop-notes.notes-index in
    let z = c.notes-item.result in
    let below = c.loop-notes-test.true in
    let is = c.loop-notes.invariant in
    let m = c.args.net.now.channels in
    let ends = c.args.ends.now in
    let rest = c.loop-notes.rest.now in
    let f = opened m ends in
    let x = get_or all i z in
    let still = coming f all old i z below is.notes rest ends c.loop-notes.last is.coming in
    let opens = c.open.ensures.opened
    ∙ opened_alike m rest ends x (All-head (IsLedAlike rest ends) x (drop (i + 1) old) still.led) in
    record {
      notes = item_changed f all old i z c.open.new.notes below is.notes opens;
      few =
          all_changed (λ (x : DirNotes). x.count ≤ QUEUE_LIMIT) f all old i z c.open.new.notes below is.notes
          opens c.open.ensures.few is.few;
      coming =
          one_on rest c.ends_left-rest.result.now ends c.loop-notes.last x (drop (i + 1) old) still
          c.ends_left-rest.ensures;
    }
