-- Tests on a plain state: has it ended, what is it once all bytes have arrived, can nothing go on, and what
-- would no image hold.
use Rattle.std.specs.Prelude.{◌≡◌, Bool, true, false, List, [], ◌∷◌, not, length, Option, Some, None}
use Rattle.std.specs.Option.{option_map}
use Rattle.std.specs.List.{list_any, filter_map}
use Rattle.std.specs.FinMap as map
use Rattle.plain_tables.specs.OfViews.Maps.{map_values}
use Rattle.plain_tables.specs.OfSysAbi.declared.identity.Slot.{Slot}
use Rattle.plain_tables.specs.OfSysAbi.declared.record.Record.{Record}
use Rattle.plain_tables.specs.OfSysAbi.declared.record.Record.TheVariants.{User, Call, Deliver}
use Rattle.plain_tables.specs.OfSysAbi.declared.record.Kind.{Kind}
use Rattle.plain_tables.specs.OfSysAbi.declared.record.Kind.TheVariants.{Datagram as DatagramKind, Counter as CounterKind}
use Rattle.plain_machine.specs.declared.plain.Plain.{Plain}
use Rattle.plain_machine.specs.declared.kernel.PlainKernel.{PlainKernel}
use Rattle.plain_tables.specs.declared.channel.Direction.{Direction}
use Rattle.plain_tables.specs.declared.description.Description.{Description}
use Rattle.plain_tables.specs.OfSysAbi.declared.descriptor.Descriptor.{Descriptor}
use Rattle.plain_tables.specs.declared.description.Object.{Object}
use Rattle.plain_tables.specs.declared.description.Object.TheVariants.{Datagram, Counter}
use Rattle.plain_machine.specs.Records.{step}
use Rattle.plain_tables.specs.OfSysAbi.Lives.{lives}

-- some process lives
unfoldable pub has_life : PlainKernel → Bool
has_life k = list_any (λ process. lives process.life) (map.values k.processes)

abbrev pub ended : Plain → Bool
ended g = not (has_life g.kernel)

abbrev pub all_arrived : Direction → Direction
all_arrived direction = record {
  left = direction.left;
  arrived = length direction.left;
  ended = direction.ended;
  unread = direction.unread;
}

-- the state once all bytes have arrived
unfoldable pub full_arrive : Plain → Plain
full_arrive g = record {
  kernel = record g.kernel { directions = map_values all_arrived g.kernel.directions };
  users = g.users;
}

abbrev pub is_work : Record → Bool
is_work (User p t n) = true
is_work (Call p t) = true
is_work (Deliver p t s) = true
is_work _ = false

-- a process lives, and no work is a step, also after every arrival
pub record IsStuck (g : Plain) : Type 0 where
  pub lives : has_life g.kernel ≡ true
  pub still : (r : Record) → is_work r ≡ true → step (full_arrive g) r ≡ None

-- a descriptor that refers to a description of a kind that no image holds
pub record UnsupportedAt : Type 0 where
  pub slot : Slot
  pub kind : Kind

abbrev pub unsupported_kind : Object → Option Kind
unsupported_kind (Datagram peer) = Some DatagramKind
unsupported_kind (Counter value) = Some CounterKind
unsupported_kind _ = None

abbrev pub unsupported_by : Slot → Option Description → Option UnsupportedAt
unsupported_by at None = None
unsupported_by at (Some description) =
    option_map (λ kind. record { slot = at; kind = kind }) (unsupported_kind description.object)

abbrev pub unsupported_entry : PlainKernel → Slot × Descriptor → Option UnsupportedAt
unsupported_entry k entry = unsupported_by entry.0 (map.get k.descriptions entry.1.desc)

abbrev pub first_of : {A : Type 0} → List A → Option A
first_of [] = None
first_of (a ∷ rest) = Some a

-- the one of the lowest process and descriptor
unfoldable pub unsupported : Plain → Option UnsupportedAt
unsupported g = first_of (filter_map (unsupported_entry g.kernel) (map.entries g.kernel.descriptors))
