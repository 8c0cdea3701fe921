-- The kernel part of a shared image that can be spelled is one that a run may reach, topic by topic.
use Rattle.image_codec.specs.KernelParts.{kernel_of}
use Rattle.image_codec.specs.KernelImages.{ImageIsKernel}
use Rattle.image_codec.proofs.ImageChannels.{channels_are}
use Rattle.image_codec.proofs.ImageStreams.{streams_are}
use Rattle.image_codec.proofs.ListedFiles.{files_are, open_files_are}
use Rattle.image_codec.proofs.ListedHosts.{addresses_are, hosts_are}
use Rattle.image_codec.proofs.ListedKernels.{descriptors_are, descriptions_are, holders_are}
use Rattle.image_codec.proofs.ListedListeners.{listeners_are}
use Rattle.image_codec.proofs.ListedNumbers.{numbers_are, made_are, inboxes_are, counters_are}
use Rattle.image_codec.proofs.ListedProcesses.{processes_are, makers_are, parents_are}

pub image_is_kernel : ImageIsKernel
unfolding kernel_of
image_is_kernel s is = record {
  numbers = numbers_are s is;
  processes = processes_are s is;
  makers = makers_are s is;
  parents = parents_are s is;
  files = files_are s is;
  open_files = open_files_are s is;
  descriptors = descriptors_are s is;
  descriptions = descriptions_are s is;
  holders = holders_are s is;
  made = made_are s is;
  channels = channels_are s is;
  streams = streams_are s is;
  listeners = listeners_are s is;
  addresses = addresses_are s is;
  hosts = hosts_are s is;
  inboxes = inboxes_are s is;
  counters = counters_are s is;
}
