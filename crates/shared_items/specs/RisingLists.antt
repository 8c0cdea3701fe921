-- Lists of the shared image whose names or numbers rise, as those of a file do, so that an item is found by a
-- binary search.
--     FilesRise, ChannelsRise, DescriptionsRise, ProcessesRise      each item's name is below those behind it
-- Source: docs/FORMATS.md, "Shared image".
use Rattle.std.specs.Prelude.{List, map as each}
use Rattle.std.specs.Ordering.{nat_cmp}
use Rattle.std.specs.List.Sorted.{IsStrictlySortedBy}
use Rattle.sys_abi.specs.Orders.{vpid_cmp, desc_cmp, conn_cmp}
use Rattle.shared_items.specs.declared.shared.FileImage.{FileImage}
use Rattle.shared_items.specs.declared.shared.ChannelImage.{ChannelImage}
use Rattle.shared_items.specs.declared.shared.DescriptionImage.{DescriptionImage}
use Rattle.shared_items.specs.declared.shared.ProcessEntry.{ProcessEntry}

abbrev pub FilesRise : List FileImage → Type 0
FilesRise files = IsStrictlySortedBy nat_cmp (each (λ file. file.number) files)

abbrev pub ChannelsRise : List ChannelImage → Type 0
ChannelsRise channels = IsStrictlySortedBy conn_cmp (each (λ channel. channel.id) channels)

abbrev pub DescriptionsRise : List DescriptionImage → Type 0
DescriptionsRise descriptions = IsStrictlySortedBy desc_cmp (each (λ it. it.id) descriptions)

abbrev pub ProcessesRise : List ProcessEntry → Type 0
ProcessesRise processes = IsStrictlySortedBy vpid_cmp (each (λ process. process.pid) processes)
