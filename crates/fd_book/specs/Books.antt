-- What contracts see of a book, and what its calls leave.
-- Source: `man 2 open` (descriptors and open descriptions), `man 2 dup`, `man 2 close`, `man 2 fcntl`
-- (F_DUPFD).
--     Books                       descriptions by their names, and descriptors by process and number
--     is_held, lost               whether a descriptor refers to a description;  the description, where none does
--     with_descriptor             a descriptor put at a number
--     after_close, lost_by_close  what a close leaves, and which description it makes nobody's
--     with_cloexec                a descriptor with another flag
--     with_new, with_changed      a description where there is none of that name;  one description changed
--     IsWhole b                   what is always true of a book
use Rattle.std.specs.Prelude.{◌≡◌, Bool, cond, Option, Some, None, IsSome, IsTrue, refl}
use Rattle.std.specs.List.{list_any}
use Rattle.std.specs.FinMap as map
use Rattle.std.specs.FinMap.{FinMap}
use Rattle.std.specs.Coded.{Coded, code_by, coded×}
use Rattle.fd_tables.specs.OfSysAbi.declared.identity.DescId.{DescId}
use Rattle.fd_tables.specs.OfSysAbi.Orders.{desc_cmp, coded_desc}
use Rattle.fd_tables.specs.declared.real_slot.RealSlot.{RealSlot}
use Rattle.fd_tables.specs.declared.description.Desc.{Desc}
use Rattle.fd_tables.specs.OfSysAbi.declared.descriptor.Descriptor.{Descriptor}
use Rattle.fd_tables.specs.contracts.description.Desc as desc
use Rattle.fd_tables.specs.OfSysAbi.contracts.descriptor.Descriptor as descriptor
use Rattle.fd_tables.specs.Orders.{real_slot_cmp, coded_real_slot}
use Rattle.fd_tables.specs.Slots.{refers_to, AreInRange}

pub record Books : Type 0 where
  pub descriptions : FinMap desc_cmp Desc
  pub descriptors : FinMap real_slot_cmp Descriptor

-- stored as the pair of its maps
abbrev pub coded_books : Coded Books
coded_books =
    code_by
    (FinMap desc_cmp Desc × FinMap real_slot_cmp Descriptor)
    (coded× (map.code coded_desc desc.the_row.coded) (map.code coded_real_slot descriptor.the_row.coded))
    (λ b. (b.descriptions, b.descriptors))
    (λ p. record { descriptions = p.0; descriptors = p.1 })
    (λ _. refl)

-- some descriptor refers to the description
unfoldable pub is_held : FinMap real_slot_cmp Descriptor → DescId → Bool
is_held descriptors id = list_any (refers_to id) (map.values descriptors)

-- the description, where no descriptor refers to it
abbrev pub lost : FinMap real_slot_cmp Descriptor → DescId → Option DescId
lost descriptors id = cond (is_held descriptors id) None (Some id)

-- the descriptions without that one, where no descriptor refers to it
abbrev pub held_of : FinMap real_slot_cmp Descriptor → DescId → FinMap desc_cmp Desc → FinMap desc_cmp Desc
held_of descriptors id descriptions = cond (is_held descriptors id) descriptions (map.remove descriptions id)

abbrev pub with_descriptor : Books → RealSlot → DescId → Bool → Books
with_descriptor b at id cloexec =
    record { descriptions = b.descriptions; descriptors = map.insert b.descriptors at (record { desc = id; cloexec = cloexec }) }

abbrev pub without_descriptor : Books → RealSlot → Option Descriptor → Books
without_descriptor b at None = b
without_descriptor b at (Some d) = record { descriptions = held_of (map.remove b.descriptors at) d.desc b.descriptions; descriptors = map.remove b.descriptors at }

abbrev pub lost_without : Books → RealSlot → Option Descriptor → Option DescId
lost_without b at None = None
lost_without b at (Some d) = lost (map.remove b.descriptors at) d.desc

-- the descriptor is gone, and with it a description that had no other
unfoldable pub after_close : Books → RealSlot → Books
after_close b at = without_descriptor b at (map.get b.descriptors at)

-- the description that has lost its last descriptor
unfoldable pub lost_by_close : Books → RealSlot → Option DescId
lost_by_close b at = lost_without b at (map.get b.descriptors at)

abbrev pub new_or_same : Books → DescId → Desc → Option Desc → Books
new_or_same b id d None = record { descriptions = map.insert b.descriptions id d; descriptors = b.descriptors }
new_or_same b id d (Some there) = b

-- the description of that name is there, as it was, or else this one
unfoldable pub with_new : Books → DescId → Desc → Books
with_new b id d = new_or_same b id d (map.get b.descriptions id)

abbrev pub changed_or_same : (Desc → Desc) → Books → DescId → Option Desc → Books
changed_or_same f b id None = b
changed_or_same f b id (Some d) = record { descriptions = map.insert b.descriptions id (f d); descriptors = b.descriptors }

-- the description, if it is there, is changed by f
unfoldable pub with_changed : (Desc → Desc) → Books → DescId → Books
with_changed f b id = changed_or_same f b id (map.get b.descriptions id)

abbrev pub same_with_cloexec : Books → RealSlot → Bool → Option Descriptor → Books
same_with_cloexec b at on None = b
same_with_cloexec b at on (Some d) = with_descriptor b at d.desc on

-- the descriptor, if it is open, has this close-on-exec flag
unfoldable pub with_cloexec : Books → RealSlot → Bool → Books
with_cloexec b at on = same_with_cloexec b at on (map.get b.descriptors at)

-- each descriptor has one of the 256 numbers and refers to a description that is there, and each description
-- has a descriptor
pub record IsWhole (b : Books) : Type 0 where
  pub below : AreInRange b.descriptors
  pub described : (at : RealSlot) (d : Descriptor) → map.get b.descriptors at ≡ Some d → IsSome (map.get b.descriptions d.desc)
  pub held : (id : DescId) (d : Desc) → map.get b.descriptions id ≡ Some d → IsTrue (is_held b.descriptors id)
