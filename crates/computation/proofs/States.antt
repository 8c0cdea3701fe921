-- A plain state by its two parts.
--     seen          that of a kernel part and guests
--     plain_is      states whose parts are the same
use Rattle.std.proofs.Common.{◌≡◌, ap, ◌∙◌}
use Rattle.std.specs.FinMap as map
use Rattle.views.specs.Maps.{map_values}
use Rattle.sys_abi.specs.Orders.{vpid_cmp}
use Rattle.plain_machine.specs.declared.kernel.PlainKernel.{PlainKernel}
use Rattle.plain_machine.specs.declared.plain.Plain.{Plain}
use Rattle.plain_machine.specs.Records.{Users}
use Rattle.guest_proc.specs.Guests.{GuestPart}

abbrev pub Guests : Type 0
Guests = map.FinMap vpid_cmp GuestPart

-- the plain state of a kernel part and guests
abbrev pub seen : PlainKernel → Guests → Plain
seen k guests = record { kernel = k; users = map_values (λ guest. guest.user) guests }

pub plain_is : (k l : PlainKernel) (users parts : Users) → k ≡ l → users ≡ parts
    → record { kernel = k; users = users } ≡ (let g : Plain = record { kernel = l; users = parts } in g)
plain_is k l users parts kernel same =
    ap (λ (x : PlainKernel). let g : Plain = record { kernel = x; users = users } in g) kernel ∙ ap (λ (m : Users). let g : Plain = record { kernel = l; users = m } in g) same
