-- What was just placed is closed again, and the book is as before.
--     closed_again      a description
--     both_closed       two of them
use Rattle.std.proofs.Common.{◌≡◌, ◌≢◌, ℕ, ◌+◌, ◌≤◌, Bool, false, cond, Some, None, inl, inr, sym, ap, ◌∙◌, arith}
use Rattle.std.specs.Prelude.{is_some}
use Rattle.std.specs.FinMap as map
use Rattle.std.proofs.lemmas.Option.{same_Some}
use Rattle.views.proofs.MapLaws.{true_false, same_or_other, other_key, get_insert_same, get_insert_other, remove_insert_new}
use Rattle.views.proofs.MapValues.{none_among-values}
use Rattle.sys_abi.specs.declared.descriptor.Descriptor.{Descriptor}
use Rattle.sys_abi.specs.declared.identity.DescId.{DescId}
use Rattle.sys_abi.specs.declared.identity.RealPid.{RealPid}
use Rattle.sys_abi.proofs.OrderLaws.{desc_total, desc_exact}
use Rattle.fd_tables.specs.declared.description.Desc.{Desc}
use Rattle.fd_tables.specs.declared.real_slot.RealSlot.{RealSlot}
use Rattle.fd_tables.specs.Slots.{slot, refers_to}
use Rattle.fd_tables.proofs.OrderLaws.{real_slot_total, real_slot_exact}
use Rattle.fd_book.specs.Books.{Books, IsWhole, is_held, held_of, without_descriptor, after_close}
use Rattle.host_tables.specs.Conditions.{AreNewEnds}
use Rattle.host_makers.specs.declared.placing.TwoEnds.{TwoEnds}
use Rattle.host_makers.specs.Places.{with_placed, with_two_placed, AreLowestFree}

-- no descriptor refers to the description
abbrev pub IsUnheld : Books → DescId → Type 0
IsUnheld b id = (at : RealSlot) (d : Descriptor) → map.get b.descriptors at ≡ Some d → refers_to id d ≡ false

pub unheld_new : (b : Books) → IsWhole b → (id : DescId) → map.get b.descriptions id ≡ None → IsUnheld b id
unheld_new b whole id new at d is =
    other_key desc_total desc_exact id d.desc
    (λ same. true_false (sym (whole.described at d is)
    ∙ ap is_some (ap (map.get b.descriptions) (sym same) ∙ new)))

module _ (b : Books) (at : RealSlot) (id : DescId) (desc : Desc) (cloexec : Bool)
    (free : map.get b.descriptors at ≡ None) where
  abbrev put : Descriptor
  put = record { desc = id; cloexec = cloexec }

  unheld_beside : (other : DescId) → IsUnheld b other → other ≢ id
      → IsUnheld (with_placed b at id desc cloexec) other
  unheld_beside other unheld differ q d is = elim (same_or_other real_slot_total real_slot_exact q at) [
    | inl here ↦
        ap (λ (x : Descriptor). refers_to other x)
        (same_Some d put (sym is ∙ ap (map.get (map.insert b.descriptors at put)) here
        ∙ get_insert_same real_slot_total real_slot_exact b.descriptors at put))
        ∙ other_key desc_total desc_exact other id differ
    | inr beside ↦
        unheld q d (sym (get_insert_other real_slot_total real_slot_exact b.descriptors at put q beside) ∙ is)
  ]

  module _ (new : map.get b.descriptions id ≡ None) (unheld : IsUnheld b id) where
    slots_again : map.remove (map.insert b.descriptors at put) at ≡ b.descriptors
    slots_again = remove_insert_new real_slot_total real_slot_exact b.descriptors at put free

    descs_again : held_of (map.remove (map.insert b.descriptors at put) at) id
        (map.insert b.descriptions id desc)
        ≡ b.descriptions
    unfolding is_held
    descs_again =
        ap (λ m. held_of m id (map.insert b.descriptions id desc)) slots_again
        ∙ ap (λ t. cond t (map.insert b.descriptions id desc)
        (map.remove (map.insert b.descriptions id desc) id))
        (none_among-values real_slot_total real_slot_exact (refers_to id) b.descriptors unheld)
        ∙ remove_insert_new desc_total desc_exact b.descriptions id desc new

    pub closed_again : after_close (with_placed b at id desc cloexec) at ≡ b
    unfolding after_close
    closed_again =
        ap (without_descriptor (with_placed b at id desc cloexec) at)
        (get_insert_same real_slot_total real_slot_exact b.descriptors at put)
        ∙ (λ i. record { descriptions = descs_again i; descriptors = slots_again i })

module _ (b : Books) (whole : IsWhole b) (who : RealPid) (ends : TwoEnds)
    (new : AreNewEnds b ends.ids.first ends.ids.second) where
  pub first_closed : (fd : ℕ) → map.get b.descriptors (slot who fd) ≡ None
      → after_close (with_placed b (slot who fd) ends.ids.first ends.first ends.cloexec) (slot who fd) ≡ b
  first_closed fd free =
      closed_again b (slot who fd) ends.ids.first ends.first ends.cloexec free new.first_new
      (unheld_new b whole ends.ids.first new.first_new)

  module _ (first second : ℕ) (are : AreLowestFree b.descriptors who first second) where
    abbrev with_first : Books
    with_first = with_placed b (slot who first) ends.ids.first ends.first ends.cloexec

    slots_apart : slot who second ≢ slot who first
    slots_apart same = less first second are.upper.from_on (ap (λ (at : RealSlot). at.fd) same)
      where
        less : (a c : ℕ) → a + 1 ≤ c → c ≡ a → ⊥
        less a c h e = omega (arith, h, e)

    second_again : after_close (with_two_placed b who ends first second) (slot who second) ≡ with_first
    second_again =
        closed_again with_first (slot who second) ends.ids.second ends.second ends.cloexec
        (get_insert_other real_slot_total real_slot_exact b.descriptors (slot who first)
        (record { desc = ends.ids.first; cloexec = ends.cloexec }) (slot who second) slots_apart
        ∙ are.upper.free)
        (get_insert_other desc_total desc_exact b.descriptions ends.ids.first ends.first ends.ids.second
        (λ same. new.apart (sym same)) ∙ new.second_new)
        (unheld_beside b (slot who first) ends.ids.first ends.first ends.cloexec are.lower.free
        ends.ids.second
        (unheld_new b whole ends.ids.second new.second_new) (λ same. new.apart (sym same)))

    pub both_closed : after_close (after_close (with_two_placed b who ends first second) (slot who second))
        (slot who first) ≡ b
    both_closed =
        ap (λ x. after_close x (slot who first)) second_again ∙ first_closed first are.lower.free
