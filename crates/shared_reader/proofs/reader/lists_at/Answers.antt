use Rattle.std.proofs.Common.{subst, sym}
use Rattle.image_format.proofs.Numerals.{fit_bytes}
use Rattle.shared_items.specs.RisingLists.{FilesRise, ChannelsRise, DescriptionsRise}
use Rattle.shared_reader.proofs.ReadLists.{files_read, channels_read, descriptions_read}
use Rattle.shared_reader.proofs.reader.lists_at.Goals as goal

pub descriptions_at-requires-clause-files : goal.descriptions_at-requires-clause-files
descriptions_at-requires-clause-files c =
    subst FilesRise (sym c.as_slice.ensures)
    (files_read c.args.next_id c.args.next_file c.args.text.now (fit_bytes _ c.type_inv.text) c.in_ok-files.files c.in_ok-files.rest.now c.in_ok-files.ensures)

pub descriptions_at-requires-clause-channels : goal.descriptions_at-requires-clause-channels
descriptions_at-requires-clause-channels c =
    subst ChannelsRise (sym c.as_slice-2.ensures)
    (channels_read c.args.next_id c.args.next_file c.args.text.now (fit_bytes _ c.type_inv.text) c.in_ok-files.files c.in_ok-files.rest.now c.in_ok-files.ensures
    c.in_ok-channels.channels c.in_ok-channels.rest.now c.in_ok-channels.ensures)

pub processes_at-requires-clause-channels : goal.processes_at-requires-clause-channels
processes_at-requires-clause-channels c =
    subst ChannelsRise (sym c.as_slice-3.ensures)
    (channels_read c.args.next_id c.args.next_file c.args.text.now (fit_bytes _ c.type_inv.text) c.in_ok-files.files c.in_ok-files.rest.now c.in_ok-files.ensures
    c.in_ok-channels.channels c.in_ok-channels.rest.now c.in_ok-channels.ensures)

pub processes_at-requires-clause-descriptions : goal.processes_at-requires-clause-descriptions
processes_at-requires-clause-descriptions c =
    let read = rw (c.as_slice.ensures, c.as_slice-2.ensures) at c.in_ok-descriptions.ensures in
    subst DescriptionsRise (sym c.as_slice-4.ensures)
    (descriptions_read c.args.next_id c.args.next_file c.args.text.now (fit_bytes _ c.type_inv.text) c.in_ok-files.files c.in_ok-files.rest.now c.in_ok-files.ensures
    c.in_ok-channels.channels c.in_ok-channels.rest.now c.in_ok-channels.ensures
    c.in_ok-descriptions.descriptions c.in_ok-descriptions.rest.now read)
