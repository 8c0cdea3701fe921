-- What contracts see of a book after a change of its parts.
use Rattle.std.proofs.Common.{◌≡◌, ◌+◌, ◌-◌, ◌≤◌, ℕ, Bool, true, refl, sym, ap, subst, ◌∙◌, arith}
use Rattle.std.specs.Prelude.{Option, Some, None, is_some, IsSome, Result, Ok, Err, OnOk}
use Rattle.std.specs.Option.{option_map, unwrap_or}
use Rattle.std.specs.FinMap as map
use Rattle.fd_tables.proofs.OfViews.MapLaws.{true_false, insert_remove, get_remove_same}
use Rattle.fd_tables.specs.OfSysAbi.declared.identity.DescId.{DescId}
use Rattle.fd_tables.specs.declared.real_slot.RealSlot.{RealSlot}
use Rattle.fd_tables.specs.declared.description.Desc.{Desc}
use Rattle.fd_tables.specs.OfSysAbi.declared.descriptor.Descriptor.{Descriptor}
use Rattle.fd_tables.specs.declared.open.Open.{Open}
use Rattle.fd_book.specs.Books.{Books, is_held, with_descriptor, without_descriptor, lost_without, after_close, lost_by_close, changed_or_same, with_changed, new_or_same, with_new}
use Rattle.fd_tables.specs.Counts.{after_retain, after_release, lost_by_release}
use Rattle.fd_book.specs.Counted.{desc_of, IsCounted, IsBook}
use Rattle.fd_tables.proofs.OrderLaws.{real_slot_total, real_slot_exact}
use Rattle.fd_book.proofs.BookLaws.{Slots, Opens, descs, is_there, held_there, released_book, lost-released, descs-released, after_retain_book, descs-after_retain, descs-insert, get-descs, holders_few, not_empty, described_there}

abbrev pub seen : Slots → Opens → Books
seen m opens = record { descriptions = descs opens; descriptors = m }

-- a close
pub close_seen : (m : Slots) (opens : Opens) (at : RealSlot) (d : Descriptor) → IsCounted m opens → map.get m at ≡ Some d
    → seen (map.remove m at) (after_release opens d.desc) ≡ after_close (seen m opens) at
unfolding after_close
close_seen m opens at d good there =
    (λ i. record { descriptions = descs-released m opens at d good there i; descriptors = map.remove m at }) ∙ ap (without_descriptor (seen m opens) at) (sym there)

pub lost_seen : (m : Slots) (opens : Opens) (at : RealSlot) (d : Descriptor) → IsCounted m opens → map.get m at ≡ Some d → lost_by_release opens d.desc ≡ lost_by_close (seen m opens) at
unfolding lost_by_close
lost_seen m opens at d good there = lost-released m opens at d good there ∙ ap (lost_without (seen m opens) at) (sym there)

-- nothing open, nothing to close
pub close_none : (b : Books) (at : RealSlot) → map.get b.descriptors at ≡ None → after_close b at ≡ b
unfolding after_close
close_none b at none = ap (without_descriptor b at) none

pub lost_none : (b : Books) (at : RealSlot) → map.get b.descriptors at ≡ None → lost_by_close b at ≡ None
unfolding lost_by_close
lost_none b at none = ap (lost_without b at) none

-- one descriptor more
pub put_same_seen : (m : Slots) (opens : Opens) (at : RealSlot) (id : DescId) (cloexec : Bool)
    → seen (map.insert m at (record { desc = id; cloexec = cloexec })) (after_retain opens id) ≡ with_descriptor (seen m opens) at id cloexec
put_same_seen m opens at id cloexec = λ i. record { descriptions = descs-after_retain opens id i; descriptors = map.insert m at (record { desc = id; cloexec = cloexec }) }

pub put_new_seen : (m : Slots) (opens : Opens) (at : RealSlot) (id : DescId) (o : Open) (cloexec : Bool)
    → seen (map.insert m at (record { desc = id; cloexec = cloexec })) (map.insert opens id o)
    ≡ with_descriptor (record { descriptions = map.insert (descs opens) id o.desc; descriptors = m }) at id cloexec
put_new_seen m opens at id o cloexec = λ i. record { descriptions = descs-insert opens id o i; descriptors = map.insert m at (record { desc = id; cloexec = cloexec }) }

-- a descriptor in another's place
module _ (m : Slots) (opens : Opens) (n : ℕ) (at : RealSlot) (before : Descriptor) (id : DescId) (cloexec : Bool)
    (good : IsBook m opens n) (there : map.get m at ≡ Some before) (held : is_held (map.remove m at) id ≡ true) where
  after : Descriptor
  after = record { desc = id; cloexec = cloexec }

  without : IsBook (map.remove m at) (after_release opens before.desc) (n - 1)
  without = released_book m opens n at before good there

  pub still_there : IsSome (map.get (after_release opens before.desc) id)
  still_there = held_there (map.remove m at) (after_release opens before.desc) id (map.get (after_release opens before.desc) id) without.counted refl held

  pub over_room : (o : Open) → map.get (after_release opens before.desc) id ≡ Some o → o.holders ≤ n - 1
  over_room o is = holders_few (map.remove m at) (after_release opens before.desc) (n - 1) without id o is

  again : IsBook (map.insert (map.remove m at) at (record { desc = id; cloexec = cloexec })) (after_retain (after_release opens before.desc) id) (n - 1 + 1)
  again = after_retain_book (map.remove m at) (after_release opens before.desc) (n - 1) at (record { desc = id; cloexec = cloexec }) without (get_remove_same real_slot_total real_slot_exact m at) still_there

  pub over_book : IsBook (map.insert m at (record { desc = id; cloexec = cloexec })) (after_retain (after_release opens before.desc) id) n
  over_book =
      let up = not_empty m opens n at before good there in
      let same : n - 1 + 1 ≡ n = omega arith in
      subst (λ (k : ℕ). IsBook (map.insert m at (record { desc = id; cloexec = cloexec })) (after_retain (after_release opens before.desc) id) k) same
      (subst (λ (w : Slots). IsBook w (after_retain (after_release opens before.desc) id) (n - 1 + 1)) (insert_remove real_slot_total real_slot_exact m at (record { desc = id; cloexec = cloexec })) again)

  pub over_seen : seen (map.insert m at (record { desc = id; cloexec = cloexec })) (after_retain (after_release opens before.desc) id)
      ≡ with_descriptor (after_close (seen m opens) at) at id cloexec
  over_seen =
      ap (λ (w : Slots). seen w (after_retain (after_release opens before.desc) id)) (sym (insert_remove real_slot_total real_slot_exact m at (record { desc = id; cloexec = cloexec })))
      ∙ put_same_seen (map.remove m at) (after_release opens before.desc) at id cloexec
      ∙ ap (λ (b : Books). with_descriptor b at id cloexec) (close_seen m opens at before good.counted there)

-- a description is changed
pub changed_seen : (f : Desc → Desc) (m : Slots) (opens : Opens) (id : DescId) (o after : Open) → map.get opens id ≡ Some o → after.desc ≡ f o.desc
    → seen m (map.insert opens id after) ≡ with_changed f (seen m opens) id
unfolding with_changed
changed_seen f m opens id o after is same =
    (λ i. record { descriptions = (descs-insert opens id after ∙ ap (map.insert (descs opens) id) same) i; descriptors = m })
    ∙ ap (changed_or_same f (seen m opens) id) (sym (get-descs opens id ∙ ap (option_map desc_of) is))

pub changed_none : (f : Desc → Desc) (m : Slots) (opens : Opens) (id : DescId) → map.get opens id ≡ None → seen m opens ≡ with_changed f (seen m opens) id
unfolding with_changed
changed_none f m opens id none = ap (changed_or_same f (seen m opens) id) (sym (get-descs opens id ∙ ap (option_map desc_of) none))

-- a descriptor's description is there
pub refers_there : (m : Slots) (opens : Opens) (n : ℕ) (now : Books) (at : RealSlot) (d : Descriptor) → IsBook m opens n → seen m opens ≡ now → Some d ≡ map.get m at → IsSome (map.get now.descriptions d.desc)
refers_there m opens n now at d good same there =
    ap (λ b. is_some (map.get b.descriptions d.desc)) (sym same) ∙ described_there opens d.desc ∙ is_there m opens at d (map.get opens d.desc) good.counted (sym there) refl

-- a description that is there stays as it is
pub same_there : (b : Books) (id : DescId) (d : Desc) (found : Option Desc) → map.get b.descriptions id ≡ found → is_some found ≡ true → with_new b id d ≡ b
unfolding with_new
same_there b id d None is there = true_false (sym there)
same_there b id d (Some before) is there = ap (new_or_same b id d) is

pub new_there : (b : Books) (id : DescId) (d : Desc) → map.get b.descriptions id ≡ None → with_new b id d ≡ record { descriptions = map.insert b.descriptions id d; descriptors = b.descriptors }
unfolding with_new
new_there b id d none = ap (new_or_same b id d) none

pub on_ok_along : {A E : Type 0} {P Q : Type 0} (r : Result A E) → (P → Q) → OnOk r P → OnOk r Q
on_ok_along (Ok v) f p = f p
on_ok_along (Err e) f p = tt

pub the_descriptor : (d e : Descriptor) → Some d ≡ Some e → d ≡ e
the_descriptor d e is = ap (λ o. unwrap_or o d) is
