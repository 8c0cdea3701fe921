-- What a computation that is made of the values of a set is: one that stands for the state that the set spells, and that can be run.
use Rattle.std.proofs.Common.{◌≡◌, ℕ, ◌+◌, false, List, [], ◌∷◌, None, refl, sym, ap, ◌∙◌}
use Rattle.std.specs.Prelude.{All, Some, map as each}
use Rattle.plain_tables.specs.declared.description.Object.{Object}
use Rattle.plain_tables.specs.declared.description.Object.TheVariants as object
use Rattle.plain_tables.specs.Objects.{is_datagram}
use Rattle.plain_machine.specs.Tests.{unsupported_kind}
use Rattle.std.specs.Option.{option_map}
use Rattle.std.specs.FinMap as map
use Rattle.std.proofs.lemmas.List.Elements.{All-nil, All-cons}
use Rattle.views.specs.Maps.{map_values}
use Rattle.views.proofs.MapValues.{EachEntry, get-map_values, map_values-insert}
use Rattle.sys_abi.specs.declared.identity.VPid.{VPid}
use Rattle.sys_abi.specs.Orders.{vpid_cmp}
use Rattle.sys_abi.proofs.OrderLaws.{vpid_total, vpid_exact}
use Rattle.plain_process.specs.declared.user_part.UserPart.{UserPart}
use Rattle.staged_cut.specs.OfGuestProc.Guests.{GuestPart}
use Rattle.image_process.specs.declared.process_image.ProcImage.{ProcImage}
use Rattle.image_process.specs.ProcessImages.{pid_at, tids_at}
use Rattle.image_process.proofs.ProcessFiles.{image_of}
use Rattle.image_process.proofs.FittingParts.{image_numbers, image_few}
use Rattle.shared_items.specs.declared.shared.Shared.{Shared}
use Rattle.shared_items.specs.SharedFits.{IsShared}
use Rattle.shared_items.proofs.SharedLaws.{text_of}
use Rattle.image_codec.specs.Sets.{SpellsFiles, SpellsImages, user_entry}
use Rattle.image_codec.proofs.MadeMaps.{each_made}
use Rattle.checkpointer.specs.Images.{IsWithin, guest_entry}

within : (s : Shared) (file : ℕ) (texts : List (List ℕ)) (images : List ProcImage) → SpellsImages s file texts images → All IsWithin images
unfolding SpellsImages
within s file [] [] spells = All-nil IsWithin
within s file [] (image ∷ images) spells = absurd spells
within s file (text ∷ texts) [] spells = absurd spells
within s file (text ∷ texts) (image ∷ images) spells =
    let fits = image_of (pid_at s file) (tids_at s file) text image spells.0 in
    All-cons IsWithin image images (record { numbers = image_numbers (pid_at s file) (tids_at s file) image fits; few = image_few (pid_at s file) (tids_at s file) image fits })
    (within s (file + 1) texts images spells.1)

pub all_within : (s : Shared) (files : List (List ℕ)) (images : List ProcImage) → SpellsFiles files s images → All IsWithin images
unfolding SpellsFiles
all_within s [] images spells = absurd spells
all_within s (first ∷ texts) images spells = within s 2 texts images spells.2

no_parts : map_values (λ (guest : GuestPart). guest.user) (map.empty {R = vpid_cmp}) ≡ map.empty
no_parts =
    map.same_map vpid_total vpid_exact _ _ (λ q.
    get-map_values (λ (guest : GuestPart). guest.user) map.empty q ∙ ap (option_map (λ (guest : GuestPart). guest.user)) (map.get-empty {X = GuestPart} vpid_cmp q) ∙ sym (map.get-empty {X = UserPart} vpid_cmp q))

-- the user parts of the processes
pub users_are : (images : List ProcImage) → map_values (λ (guest : GuestPart). guest.user) (map.from_entries {R = vpid_cmp} (each guest_entry images)) ≡ map.from_entries (each user_entry images)
users_are [] = no_parts
users_are (image ∷ images) =
    map_values-insert vpid_total vpid_exact (λ guest. guest.user) (map.from_entries (each guest_entry images)) image.pid (guest_entry image).1
    ∙ ap (λ m. map.insert m image.pid (guest_entry image).1.user) (users_are images)

each_numbered : (images : List ProcImage) → EachEntry (λ p guest. guest.pid ≡ p) (each guest_entry images)
each_numbered [] = tt
each_numbered (image ∷ images) = (refl, each_numbered images)

pub numbered : (images : List ProcImage) (p : VPid) (guest : GuestPart) → map.get (map.from_entries {R = vpid_cmp} (each guest_entry images)) p ≡ Some guest → guest.pid ≡ p
numbered images p guest = each_made vpid_total vpid_exact (λ p guest. guest.pid ≡ p) (each guest_entry images) (each_numbered images) p guest

pub is_shared : (s : Shared) (files : List (List ℕ)) (images : List ProcImage) → SpellsFiles files s images → IsShared s
unfolding SpellsFiles
is_shared s [] images spells = absurd spells
is_shared s (first ∷ texts) images spells = (text_of first s spells.0).keeps

-- no image is of an end of a datagram pair
pub no_datagram : (o : Object) → unsupported_kind o ≡ None → is_datagram o ≡ false
no_datagram object.Console supported = refl
no_datagram (object.File number offset) supported = refl
no_datagram (object.Stream conn side) supported = refl
no_datagram (object.Socket address) supported = refl
no_datagram (object.Listener address) supported = refl
no_datagram (object.Datagram peer) supported = cc
no_datagram (object.Counter value) supported = refl
