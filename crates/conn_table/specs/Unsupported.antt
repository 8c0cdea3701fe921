-- Rows of descriptors with the kinds of what they refer to, and the least of a kind that no image of a
-- checkpoint holds.
-- Source: `man 2 socketpair` (datagram pairs), `man 2 eventfd`; that no image holds these is this project's
-- own rule.
--     is_unsupported kind             a datagram end, or a counter
--     comes_before row other          by the process, then by the descriptor
--     IsLeastUnsupported rows found   found is the first unsupported row before which no unsupported one comes, or there is none
use Rattle.std.specs.Prelude.{◌≡◌, Bool, true, false, List, ◌∷◌, ◌++◌, All, Option, Some, None, if◌then◌else◌}
use Rattle.std.specs.Ordering.{is_lt}
use Rattle.id_maps.specs.OfSysAbi.declared.identity.VPid.{VPid}
use Rattle.id_maps.specs.OfSysAbi.declared.identity.Fd.{Fd}
use Rattle.id_maps.specs.OfSysAbi.declared.identity.Slot.{Slot}
use Rattle.id_maps.specs.OfSysAbi.declared.record.Kind.{Kind}
use Rattle.id_maps.specs.OfSysAbi.declared.record.Kind.TheVariants.{Datagram, Counter}
use Rattle.id_maps.specs.OfSysAbi.Orders.{slot_cmp}

abbrev pub Row : Type 0
Row = VPid × Fd × Kind

abbrev pub is_unsupported : Kind → Bool
is_unsupported Datagram = true
is_unsupported Counter = true
is_unsupported _ = false

abbrev pub slot_of : Row → Slot
slot_of row = record { pid = row.0; fd = row.1.0 }

abbrev pub comes_before : Row → Row → Bool
comes_before row other = is_lt (slot_cmp (slot_of row) (slot_of other))

-- if the row is unsupported, it comes after this one
abbrev pub IsAfter : Row → Row → Type 0
IsAfter found row = is_unsupported row.2 ≡ true → comes_before found row ≡ true

-- if the row is unsupported, it does not come before this one
abbrev pub IsNotBefore : Row → Row → Type 0
IsNotBefore found row = is_unsupported row.2 ≡ true → comes_before row found ≡ false

abbrev pub IsSupported : Row → Type 0
IsSupported row = is_unsupported row.2 ≡ false

pub record IsFirstLeast (rows : List Row) (found : Row) : Type 0 where
  pub earlier : List Row
  pub later : List Row
  pub split : rows ≡ earlier ++ found ∷ later
  pub kind : is_unsupported found.2 ≡ true
  pub after : All (IsAfter found) earlier
  pub none : All (IsNotBefore found) later

abbrev pub IsLeastUnsupported : List Row → Option Row → Type 0
IsLeastUnsupported rows None = All IsSupported rows
IsLeastUnsupported rows (Some found) = IsFirstLeast rows found

-- of two rows, the later one where it is unsupported and comes before the least one so far
abbrev pub lesser_of : Bool → Row → Option Row → Option Row
lesser_of false row least = least
lesser_of true row None = Some row
lesser_of true row (Some other) = if comes_before row other then Some row else Some other

abbrev pub lesser : Option Row → Row → Option Row
lesser least row = lesser_of (is_unsupported row.2) row least
