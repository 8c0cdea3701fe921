-- What a function that delivers a signal returns, in the words of the definitions.
--     delivery_told told user      what a delivery comes to, where user is the part after it
--     KeepsUnlessEntered           a delivery that enters no handler has left the part as it was
use Rattle.std.specs.Prelude.{◌≡◌}
use Rattle.call_table.specs.declared.delivery.Delivered.{Delivered}
use Rattle.call_table.specs.declared.delivery.Delivered.TheVariants as came
use Rattle.plain_process.specs.declared.user_part.UserPart.{UserPart}
use Rattle.plain_process.specs.Deliveries.{Delivery, Enters, Ignores, Kills}

abbrev pub delivery_told : Delivered → UserPart → Delivery
delivery_told came.Entered user = Enters user
delivery_told came.Ignored user = Ignores
delivery_told (came.Kills status) user = Kills status

abbrev pub KeepsUnlessEntered : Delivered → UserPart → UserPart → Type 0
KeepsUnlessEntered came.Entered old new = Unit {0}
KeepsUnlessEntered came.Ignored old new = new ≡ old
KeepsUnlessEntered (came.Kills status) old new = new ≡ old
