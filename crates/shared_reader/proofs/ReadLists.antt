-- The lists of a shared image rise as they are read, one behind the other
--     files_read, channels_read, descriptions_read      by all that was read before
use Rattle.std.proofs.Common.{◌≡◌, ℕ, List, Ok}
use Rattle.image_format.specs.Format.{any, counted}
use Rattle.image_format.specs.Reading.{read}
use Rattle.image_format.proofs.Numerals.{AllBytes}
use Rattle.shared_items.specs.declared.shared.FileImage.{FileImage}
use Rattle.shared_items.specs.declared.shared.ChannelImage.{ChannelImage}
use Rattle.shared_items.specs.declared.shared.DescriptionImage.{DescriptionImage}
use Rattle.shared_items.specs.SharedFormat as format
use Rattle.shared_items.specs.SharedFormat.{VERSION}
use Rattle.shared_items.specs.SharedTests as field
use Rattle.shared_items.specs.RisingLists.{FilesRise, ChannelsRise, DescriptionsRise}
use Rattle.shared_items.proofs.RisingItems.{bytes_behind, files_rise, channels_rise, descriptions_rise}

module _ (next_id next_file : ℕ) (at_files : List ℕ) (bytes : AllBytes at_files)
    (files : List FileImage) (at_channels : List ℕ) (read_files : read (counted field.is_file_count (format.file next_file)) at_files ≡ Ok (files, at_channels))
  where
    pub files_read : FilesRise files
    files_read = files_rise next_file at_files at_channels files bytes read_files

    file_bytes : AllBytes at_channels
    file_bytes = bytes_behind (counted field.is_file_count (format.file next_file)) at_files at_channels files bytes read_files

    module _ (channels : List ChannelImage) (at_descriptions : List ℕ) (read_channels : read (counted field.is_channel_count (format.channel next_id)) at_channels ≡ Ok (channels, at_descriptions)) where
      pub channels_read : ChannelsRise channels
      channels_read = channels_rise next_id at_channels at_descriptions channels file_bytes read_channels

      channel_bytes : AllBytes at_descriptions
      channel_bytes = bytes_behind (counted field.is_channel_count (format.channel next_id)) at_channels at_descriptions channels file_bytes read_channels

      pub descriptions_read : (descriptions : List DescriptionImage) (at_processes : List ℕ) → read (counted any (format.description VERSION next_id files channels)) at_descriptions ≡ Ok (descriptions, at_processes)
          → DescriptionsRise descriptions
      descriptions_read descriptions at_processes read_descriptions = descriptions_rise VERSION next_id files channels at_descriptions at_processes descriptions channel_bytes read_descriptions
