-- Descriptions with the number of descriptors that refer to them, as they stand in a book.
--     IsCounted               each number is that of the descriptors that refer to the description, and is above 0
--     IsBook                  what is true of a book's parts
--     desc_of                 a description without its number
use Rattle.std.specs.Prelude.{◌≡◌, ℕ, ◌<◌, Some, count_by}
use Rattle.std.specs.FinMap as map
use Rattle.std.specs.FinMap.{FinMap}
use Rattle.fd_tables.specs.OfSysAbi.declared.identity.DescId.{DescId}
use Rattle.fd_tables.specs.OfSysAbi.Orders.{desc_cmp}
use Rattle.fd_tables.specs.OfSysAbi.declared.descriptor.Descriptor.{Descriptor}
use Rattle.fd_tables.specs.declared.description.Desc.{Desc}
use Rattle.fd_tables.specs.declared.open.Open.{Open}
use Rattle.fd_tables.specs.Orders.{real_slot_cmp}
use Rattle.fd_tables.specs.Slots.{refers_to}
use Rattle.fd_tables.specs.Counts.{holders_of}

pub record IsCounted (descriptors : FinMap real_slot_cmp Descriptor) (descriptions : FinMap desc_cmp Open) : Type 0 where
  pub counts : (id : DescId) → holders_of (map.get descriptions id) ≡ count_by (refers_to id) (map.values descriptors)
  pub held : (id : DescId) (o : Open) → map.get descriptions id ≡ Some o → 0 < o.holders

-- what is true of a book's parts: the descriptors, the descriptions with their numbers, and how many
-- descriptors there are
pub record IsBook (descriptors : FinMap real_slot_cmp Descriptor) (descriptions : FinMap desc_cmp Open) (count : ℕ) : Type 0 where
  pub counted : IsCounted descriptors descriptions
  pub in_all : count ≡ map.len descriptors

abbrev pub desc_of : Open → Desc
desc_of o = o.desc
