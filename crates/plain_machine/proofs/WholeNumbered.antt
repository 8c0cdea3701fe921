-- The kernel part stays whole where a process has made more.
--     whole_numbered
use Rattle.plain_machine.specs.KernelLaws.{NumberedKeeps}
use Rattle.plain_tables.proofs.CountedMakers.{counted_makers, counted_parents, counted_holders, counted_made, counted_hosts}

pub whole_numbered : NumberedKeeps
whole_numbered k p n is fits = record {
  numbers = is.numbers;
  processes = is.processes;
  makers = counted_makers k.makers p n k.processes fits is.makers;
  parents = counted_parents k.makers p n k.processes is.parents;
  files = is.files;
  open_files = is.open_files;
  descriptors = is.descriptors;
  descriptions = is.descriptions;
  holders = counted_holders k.makers p n k.processes k.descriptors k.descriptions is.holders;
  made = counted_made k.makers p n k.next_id k.processes k.descriptions k.channels is.made;
  channels = is.channels;
  streams = is.streams;
  listeners = is.listeners;
  addresses = is.addresses;
  hosts = counted_hosts k.makers p n k.descriptors k.descriptions k.listeners k.channels is.hosts;
  inboxes = is.inboxes;
  counters = is.counters;
}
