use Rattle.std.proofs.Common.{ap, sym, ◌∙◌}
use Rattle.std.specs.FinMap as map
use Rattle.views.specs.Maps.{map_values}
use Rattle.staged_cut.specs.OfGuestProc.Guests.{GuestPart}
use Rattle.image_codec.specs.Sets.{IsStateOf}
use Rattle.image_codec.proofs.ValidSets.{set_is_valid}
use Rattle.staged_cut.specs.HandedOn.{Start, state_of}
use Rattle.checkpointer.proofs.RestoredStates.{all_within, is_shared, no_datagram, numbered, users_are}
use Rattle.checkpointer.proofs.restoring.restored.Goals as goal

pub restored_kernel-requires : goal.restored_kernel-requires
restored_kernel-requires c = let spelled = c.requires.spelled in is_shared c.args.decoded.shared spelled.0 c.args.decoded.procs spelled.1.1

pub guests_of-requires : goal.guests_of-requires
guests_of-requires c = let spelled = c.requires.spelled in all_within c.args.decoded.shared spelled.0 c.args.decoded.procs spelled.1.1

pub returns-clause-state : goal.returns-clause-state
returns-clause-state c = record {
  kernel = c.in_ok-restored_kernel.ensures.kernel;
  users = ap (map_values (λ (guest : GuestPart). guest.user)) c.in_ok-guests_of.ensures ∙ users_are c.args.decoded.procs;
}

pub returns-clause-ready : goal.returns-clause-ready
returns-clause-ready c =
    let spelled = c.requires.spelled in
    let made : Start = record { kernel = c.in_ok-restored_kernel.field-0; guests = c.in_ok-guests_of.field-0 } in
    let stands : IsStateOf c.args.decoded.shared c.args.decoded.procs (state_of made) = record {
      kernel = c.in_ok-restored_kernel.ensures.kernel;
      users = ap (map_values (λ (guest : GuestPart). guest.user)) c.in_ok-guests_of.ensures ∙ users_are c.args.decoded.procs;
    } in
    let is = set_is_valid spelled.0 c.args.decoded.shared c.args.decoded.procs (state_of made) spelled.1.0 spelled.1.1 stands in
    record {
      valid = is.valid;
      arrived = is.arrived;
      plain = λ id description there. no_datagram description.object (is.supported id description there);
      numbered = λ p guest found. numbered c.args.decoded.procs p guest (ap (λ guests. map.get guests p) (sym c.in_ok-guests_of.ensures) ∙ found);
    }
