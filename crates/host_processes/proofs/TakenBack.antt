-- A child's descriptors, which its parent has too, taken back one by one.
--     IsBack old b parent child      some are still there, and all else is as before
--     one_back                           one more is taken back
--     all_back                       then all is as before
use Rattle.std.proofs.Common.{◌≡◌, ◌≢◌, ℕ, ◌-◌, ◌<◌, true, cond, sym, ap, subst, ◌∙◌, arith, inl, inr}
use Rattle.std.specs.Prelude.{Option, Some, None, is_some}
use Rattle.std.specs.FinMap as map
use Rattle.views.proofs.MapLaws.{true_false, same_or_other, get_remove_same, get_remove_other}
use Rattle.sys_abi.specs.declared.descriptor.Descriptor.{Descriptor}
use Rattle.sys_abi.specs.declared.identity.RealPid.{RealPid}
use Rattle.sys_abi.proofs.OrderLaws.{real_pid_total, real_pid_exact}
use Rattle.fd_tables.specs.declared.real_slot.RealSlot.{RealSlot}
use Rattle.fd_tables.specs.Numbers.{NoneOpen}
use Rattle.fd_tables.specs.Slots.{slot}
use Rattle.fd_tables.proofs.OrderLaws.{real_slot_total, real_slot_exact}
use Rattle.fd_book.specs.Books.{Books, is_held, without_descriptor, after_close}
use Rattle.fd_book.proofs.BookLaws.{other_held}
use Rattle.fd_book.proofs.CountLaws.{count-remove, count-le-len}

pub record IsBack (old b : Books) (parent child : RealPid) : Type 0 where
  pub descriptions : b.descriptions ≡ old.descriptions
  pub others : (at : RealSlot) → at.pid ≢ child → map.get b.descriptors at ≡ map.get old.descriptors at
  pub same : (fd : ℕ) (d : Descriptor) → map.get b.descriptors (slot child fd) ≡ Some d
      → map.get old.descriptors (slot parent fd) ≡ Some d

closed : (b : Books) (at : RealSlot) (d : Descriptor) → map.get b.descriptors at ≡ Some d
    → is_held (map.remove b.descriptors at) d.desc ≡ true
    → after_close b at ≡ record { descriptions = b.descriptions; descriptors = map.remove b.descriptors at }
unfolding after_close
closed b at d is held =
    ap (without_descriptor b at) is
    ∙ (λ i. record {
      descriptions = cond (held i) b.descriptions (map.remove b.descriptions d.desc);
      descriptors = map.remove b.descriptors at;
    })

module _ (old b : Books) (parent child : RealPid) (fd : ℕ) (d : Descriptor) (good : IsBack old b parent child)
    (apart : parent ≢ child) (is : map.get b.descriptors (slot child fd) ≡ Some d) where
  parents : map.get b.descriptors (slot parent fd) ≡ Some d
  parents = good.others (slot parent fd) apart ∙ good.same fd d is

  abbrev without : Books
  without = record { descriptions = b.descriptions; descriptors = map.remove b.descriptors (slot child fd) }

  left : after_close b (slot child fd) ≡ without
  left =
      closed b (slot child fd) d is
      (other_held b.descriptors (slot child fd) (slot parent fd) d parents
      (λ same. apart (ap (λ (at : RealSlot). at.pid) same)))

  -- at another number of the child's
  beside : (k : ℕ) (e : Descriptor) → map.get without.descriptors (slot child k) ≡ Some e
      → map.get b.descriptors (slot child k) ≡ Some e
  beside k e there = elim (same_or_other real_slot_total real_slot_exact (slot child k) (slot child fd)) [
    | inl same ↦ true_false (ap is_some (sym there ∙ ap (map.get without.descriptors) same
        ∙ get_remove_same real_slot_total real_slot_exact b.descriptors (slot child fd)))
    | inr differ ↦
        sym (get_remove_other real_slot_total real_slot_exact b.descriptors (slot child fd) (slot child k)
        differ) ∙ there
  ]

  back : IsBack old without parent child
  back = record {
    descriptions = good.descriptions;
    others = λ at differ.
        get_remove_other real_slot_total real_slot_exact b.descriptors (slot child fd) at
        (λ same. differ (ap (λ (s : RealSlot). s.pid) same))
        ∙ good.others at differ;
    same = λ k e there. good.same k e (beside k e there);
  }

  fewer : map.len without.descriptors < map.len b.descriptors
  fewer =
      let less =
      map.len-remove real_slot_total b.descriptors (slot child fd)
      ∙ ap (λ found. cond (is_some found) (map.len b.descriptors - 1) (map.len b.descriptors)) is in
      let one = count-remove real_slot_total real_slot_exact (λ _. true) b.descriptors (slot child fd) d is in
      let few = count-le-len real_slot_total real_slot_exact (λ _. true) b.descriptors in
      omega arith

pub one_back : (old b n : Books) (parent child : RealPid) (fd : ℕ) (found : Option Descriptor)
    → IsBack old b parent child → parent ≢ child → map.get b.descriptors (slot child fd) ≡ found
    → is_some found ≡ true → n ≡ after_close b (slot child fd)
    → IsBack old n parent child × (map.len n.descriptors < map.len b.descriptors)
one_back old b n parent child fd None good apart is opened after = true_false (sym opened)
one_back old b n parent child fd (Some d) good apart is opened after =
    let now = after ∙ left old b parent child fd d good apart is in (
      subst (λ (w : Books). IsBack old w parent child) (sym now) (back old b parent child fd d good apart is),
      subst (λ (w : Books). map.len w.descriptors < map.len b.descriptors) (sym now)
          (fewer old b parent child fd d good apart is),
    )

pub all_back : (old b : Books) (parent child : RealPid) → IsBack old b parent child
    → NoneOpen b.descriptors child 0 → NoneOpen old.descriptors child 0 → b ≡ old
all_back old b parent child good none before =
    let slots : b.descriptors ≡ old.descriptors =
    map.same_map real_slot_total real_slot_exact _ _ (λ at.
    elim (same_or_other real_pid_total real_pid_exact at.pid child) [
      | inl same ↦
          ap (λ c. map.get b.descriptors (slot c at.fd)) same ∙ none at.fd (omega arith)
          ∙ sym (ap (λ c. map.get old.descriptors (slot c at.fd)) same ∙ before at.fd (omega arith))
      | inr differ ↦ good.others at differ
    ]) in
    λ i. record { descriptions = good.descriptions i; descriptors = slots i }
