-- The refusal of a store that a refusal below it becomes.
use Rattle.disk_folder.specs.declared.disk_fault.DiskFault.{DiskFault as FolderFault}
use Rattle.disk_folder.specs.declared.disk_fault.DiskFault.TheVariants as of_disk
use Rattle.image_format.specs.declared.damage.ReadFault.{ReadFault}
use Rattle.image_format.specs.declared.damage.ReadFault.TheVariants as of_reader
use Rattle.image_store.specs.declared.store_fault.StoreFault.{StoreFault}
use Rattle.image_store.specs.declared.store_fault.StoreFault.TheVariants.{DiskFault, Damaged, Memory}

abbrev pub of_folder : FolderFault → StoreFault
of_folder of_disk.Failed = DiskFault
of_folder of_disk.Memory = Memory

abbrev pub of_reading : ReadFault → StoreFault
of_reading (of_reader.Damaged damage) = Damaged damage
of_reading of_reader.Memory = Memory
