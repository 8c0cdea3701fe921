-- Two descriptions, one placed after the other.
--     second_new                the second one's number is still nobody's
--     two_placed, one_placed    there were two free descriptors, or one, which is free again
--     first_undone, both_undone      the first one, or both, are closed again
use Rattle.std.proofs.Common.{◌≡◌, ℕ, None, inr, sym, ap, ◌∙◌, subst}
use Rattle.std.specs.FinMap as map
use Rattle.views.proofs.MapLaws.{get_insert_other}
use Rattle.sys_abi.specs.declared.descriptor.Descriptor.{Descriptor}
use Rattle.sys_abi.specs.declared.identity.RealPid.{RealPid}
use Rattle.sys_abi.proofs.OrderLaws.{desc_total, desc_exact}
use Rattle.fd_tables.specs.Numbers.{AllUsed, IsLowestFree}
use Rattle.fd_tables.specs.Slots.{slot}
use Rattle.fd_book.specs.Books.{Books, IsWhole, after_close}
use Rattle.host_tables.specs.Conditions.{AreNewEnds}
use Rattle.host_makers.specs.declared.placing.TwoEnds.{TwoEnds}
use Rattle.host_makers.specs.Places.{with_placed, LacksTwo, WasFull, WasPlaced, WerePlaced}
use Rattle.host_makers.proofs.FreePlaces.{next_free, next_used}
use Rattle.host_makers.proofs.Undone.{first_closed, both_closed}

module _ (b : Books) (who : RealPid) (ends : TwoEnds) (new : AreNewEnds b ends.ids.first ends.ids.second)
    (b1 : Books) (fd : ℕ) (was : WasPlaced b b1 who ends.ids.first ends.first ends.cloexec fd) where
  abbrev put : Descriptor
  put = record { desc = ends.ids.first; cloexec = ends.cloexec }

  pub second_new : map.get b1.descriptions ends.ids.second ≡ None
  second_new =
      ap (λ (x : Books). map.get x.descriptions ends.ids.second) was.after
      ∙ get_insert_other desc_total desc_exact b.descriptions ends.ids.first ends.first ends.ids.second
      (λ same. new.apart (sym same)) ∙ new.second_new

  pub two_placed : (b2 : Books) (other : ℕ)
      → WasPlaced b1 b2 who ends.ids.second ends.second ends.cloexec other → WerePlaced b b2 who ends fd other
  two_placed b2 other next = record {
    lowest = record {
      lower = was.lowest;
      upper = next_free b.descriptors who fd was.lowest put other
          (subst (λ (x : Books). IsLowestFree x.descriptors who 0 other) was.after next.lowest);
    };
    after = next.after
        ∙ ap (λ x. with_placed x (slot who other) ends.ids.second ends.second ends.cloexec) was.after;
  }

  module _ (whole : IsWhole b) (b2 : Books) (same : b2 ≡ b1) (b3 : Books)
      (closed : b3 ≡ after_close b2 (slot who fd)) where
    pub first_undone : b3 ≡ b
    first_undone =
        closed ∙ ap (λ x. after_close x (slot who fd)) (same ∙ was.after)
        ∙ first_closed b whole who ends new fd was.lowest.free

    pub one_placed : AllUsed b1.descriptors who 0 → WasFull b b3 (LacksTwo b.descriptors who)
    one_placed full = record {
      lacks = inr (
        fd,
        (
          was.lowest,
          next_used b.descriptors who fd was.lowest put
              (subst (λ (x : Books). AllUsed x.descriptors who 0) was.after full),
        ),
      );
      same = first_undone;
    }

-- the ends as they are, and by their definition
pub both_undone : (b : Books) → IsWhole b → (who : RealPid) (ends own : TwoEnds) → ends ≡ own
    → AreNewEnds b own.ids.first own.ids.second → (b1 : Books) (first second : ℕ)
    → WerePlaced b b1 who ends first second → (b2 : Books)
    → b2 ≡ after_close (after_close b1 (slot who second)) (slot who first) → b2 ≡ b
both_undone b whole who ends own is new b1 first second were b2 closed =
    closed ∙ ap (λ x. after_close (after_close x (slot who second)) (slot who first)) were.after
    ∙ both_closed b whole who ends
    (subst (λ (x : TwoEnds). AreNewEnds b x.ids.first x.ids.second) (sym is) new)
    first second were.lowest
