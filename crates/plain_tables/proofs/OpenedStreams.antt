-- A stream more, of a side that is open and that nothing names yet.
--     AreStreamsBut      all streams, but for sides that wait for their names      named_stream      one of them gets its name
use Rattle.std.proofs.Common.{◌≡◌, ℕ, ◌<◌, Bool, true, false, refl, sym, ap, subst, ◌∙◌, arith}
use Rattle.std.specs.Prelude.{◌==◌, ◌&&◌, ◌||◌, not, Some, None}
use Rattle.std.specs.Ordering.{eq_by_cmp}
use Rattle.std.specs.FinMap as map
use Rattle.std.proofs.lemmas.Bool.Decides.{nat_tests}
use Rattle.plain_process.proofs.OfViews.MapLaws.{get_insert_same, same_key, true_false}
use Rattle.plain_process.proofs.OfViews.MapValues.{some_among-values}
use Rattle.id_maps.specs.OfSysAbi.declared.identity.DescId.{DescId}
use Rattle.id_maps.specs.OfSysAbi.declared.identity.ConnId.{ConnId}
use Rattle.id_maps.specs.OfSysAbi.Orders.{conn_cmp}
use Rattle.id_maps.proofs.OfSysAbi.OrderLaws.{conn_total, conn_exact, desc_total, desc_exact}
use Rattle.plain_process.specs.Valid.{Each}
use Rattle.plain_tables.specs.declared.description.Description.{Description}
use Rattle.plain_tables.specs.declared.description.Object.TheVariants.{Stream}
use Rattle.plain_tables.specs.declared.channel.Channel.{Channel}
use Rattle.plain_tables.specs.Tables.{Descriptions, Channels, Listeners}
use Rattle.plain_tables.specs.Objects.{end_of, is_end, has_stream, is_pending, is_named}
use Rattle.plain_tables.specs.Valid.Channels.{AreStreams, IsStream, MayBeEnd}
use Rattle.plain_tables.proofs.Entries.{each_with}
use Rattle.plain_tables.proofs.AddedDescriptions.{any_with}

-- all streams, but for sides that wait for their names
pub record AreStreamsBut (loose : ConnId → ℕ → Bool) (descriptions : Descriptions) (listeners : Listeners) (channels : Channels) : Type 0 where
  pub each : Each descriptions (λ d description. IsStream channels description.flags description.object)
  pub once : (d e : DescId) (x y : Description) (conn : ConnId) (side : ℕ) → map.get descriptions d ≡ Some x → map.get descriptions e ≡ Some y → is_end conn side x.object ≡ true → is_end conn side y.object ≡ true → d ≡ e
  pub apart : (conn : ConnId) → has_stream descriptions conn 1 ≡ true → is_pending listeners conn ≡ false
  pub opened : (conn : ConnId) (channel : Channel) (side : ℕ) → map.get channels conn ≡ Some channel → side < 2 → (end_of channel side).is_open ≡ (is_named descriptions listeners conn side || loose conn side)
  pub free : (conn : ConnId) (side : ℕ) → loose conn side ≡ true → is_named descriptions listeners conn side ≡ false

parts : (h p l e : Bool) → (e ≡ true → l ≡ true) → ((h || p) || l) ≡ (((h || e) || p) || (l && not e))
parts true p l e has = refl
parts false true l true has = refl
parts false true l false has = refl
parts false false l true has = has refl
parts false false true false has = refl
parts false false false false has = refl

or_parts : (a b : Bool) → (a || b) ≡ false → (a ≡ false) × (b ≡ false)
or_parts true b is = true_false is
or_parts false b is = (refl, is)

no_loose : (a : Bool) → (a && false) ≡ true → ⊥
no_loose true is = true_false (sym is)
no_loose false is = true_false (sym is)

or_none : (a : Bool) → (a || false) ≡ a
or_none true = refl
or_none false = refl

pub and_first : (a b : Bool) → (a && b) ≡ true → a ≡ true
and_first true b is = refl
and_first false b is = is

module _ (loose : ConnId → ℕ → Bool) (descriptions : Descriptions) (listeners : Listeners) (channels : Channels) (d : DescId) (x : Description) (conn : ConnId) (side : ℕ) (channel : Channel)
    (new : map.get descriptions d ≡ None) (ends : x.object ≡ Stream conn side) (there : map.get channels conn ≡ Some channel) (may : MayBeEnd channel x.flags side) (waits : loose conn side ≡ true)
    (is : AreStreamsBut loose descriptions listeners channels) where
  abbrev after : Descriptions
  after = map.insert descriptions d x

  abbrev still : ConnId → ℕ → Bool
  still c s = loose c s && not (is_end c s (Stream conn side))

  -- the side is no other one
  its_own : (c : ConnId) (s : ℕ) → is_end c s (Stream conn side) ≡ true → (c ≡ conn) × (s ≡ side)
  its_own c s ends_it =
      let second : (s == side) ≡ true = and_second (eq_by_cmp conn_cmp c conn) (s == side) ends_it in
      (same_key conn_total conn_exact c conn (and_first (eq_by_cmp conn_cmp c conn) (s == side) ends_it), grind (arith, nat_tests, second))
    where
      and_second : (a b : Bool) → (a && b) ≡ true → b ≡ true
      and_second true b is = is
      and_second false b is = true_false (sym is)

  loose_there : (c : ConnId) (s : ℕ) → is_end c s (Stream conn side) ≡ true → loose c s ≡ true
  loose_there c s ends_it = let own = its_own c s ends_it in ap (λ q. loose q s) own.0 ∙ ap (loose conn) own.1 ∙ waits

  has_now : (c : ConnId) (s : ℕ) → has_stream (map.insert descriptions d x) c s ≡ (has_stream descriptions c s || is_end c s (Stream conn side))
  has_now c s = chosen (is_end c s (Stream conn side)) refl
    where
      or_true : (a : Bool) → (a || true) ≡ true
      or_true true = refl
      or_true false = refl

      or_false : (a : Bool) → (a || false) ≡ a
      or_false true = refl
      or_false false = refl

      chosen : (b : Bool) → is_end c s (Stream conn side) ≡ b → has_stream (map.insert descriptions d x) c s ≡ (has_stream descriptions c s || b)
      chosen true it = some_among-values desc_total desc_exact (λ (y : Description). is_end c s y.object) (map.insert descriptions d x) d x (get_insert_same desc_total desc_exact descriptions d x) (ap (is_end c s) ends ∙ it)
          ∙ sym (or_true (has_stream descriptions c s))
      chosen false other = any_with descriptions d x new (is_end c s) (ap (is_end c s) ends ∙ other) ∙ sym (or_false (has_stream descriptions c s))

  old_end : (e : DescId) (y : Description) (c : ConnId) (s : ℕ) → map.get descriptions e ≡ Some y → is_end c s y.object ≡ true → is_end c s (Stream conn side) ≡ true → ⊥
  old_end e y c s found ends_it also =
      let has : has_stream descriptions c s ≡ true = some_among-values desc_total desc_exact (λ (z : Description). is_end c s z.object) descriptions e y found ends_it in
      let none = or_parts (has_stream descriptions c s) ((s == 1) && is_pending listeners c) (is.free c s (loose_there c s also)) in
      true_false (sym has ∙ none.0)

  pub named_stream : AreStreamsBut (λ c s. loose c s && not (is_end c s (Stream conn side))) (map.insert descriptions d x) listeners channels
  named_stream = record {
    each = each_with desc_total desc_exact (λ e y. IsStream channels y.flags y.object) descriptions d x (subst (IsStream channels x.flags) (sym ends) (channel, there, may)) (λ e y apart found. is.each e y found);
    once = λ e f y z c s found too ends_it also.
        each_with desc_total desc_exact (λ q w. is_end c s w.object ≡ true → q ≡ f) descriptions d x
        (λ one. each_with desc_total desc_exact (λ q w. is_end c s w.object ≡ true → d ≡ q) descriptions d x (λ two. refl)
        (λ q w apart was two. absurd (old_end q w c s was two (ap (is_end c s) (sym ends) ∙ one))) f z too also)
        (λ q w apart was one. each_with desc_total desc_exact (λ r v. is_end c s v.object ≡ true → q ≡ r) descriptions d x
        (λ two. absurd (old_end q w c s was one (ap (is_end c s) (sym ends) ∙ two)))
        (λ r v other stood two. is.once q r w v c s was stood one two) f z too also)
        e y found ends_it;
    apart = λ c has. by_old c (has_stream descriptions c 1) refl (sym (has_now c 1) ∙ has);
    opened = λ c ch s found low. is.opened c ch s found low ∙ parts (has_stream descriptions c s) ((s == 1) && is_pending listeners c) (loose c s) (is_end c s (Stream conn side)) (loose_there c s)
        ∙ ap (λ b. (b || ((s == 1) && is_pending listeners c)) || (loose c s && not (is_end c s (Stream conn side)))) (sym (has_now c s));
    free = λ c s waits_it. still_free c s (is_end c s (Stream conn side)) refl waits_it;
  }
    where
      by_old : (c : ConnId) (b : Bool) → has_stream descriptions c 1 ≡ b → (b || is_end c 1 (Stream conn side)) ≡ true → is_pending listeners c ≡ false
      by_old c true was has = is.apart c was
      by_old c false none has = (or_parts (has_stream descriptions c 1) (is_pending listeners c) (is.free c 1 (loose_there c 1 has))).1

      still_free : (c : ConnId) (s : ℕ) (b : Bool) → is_end c s (Stream conn side) ≡ b → (loose c s && not b) ≡ true → is_named (map.insert descriptions d x) listeners c s ≡ false
      still_free c s true it waits_it = absurd (no_loose (loose c s) waits_it)
      still_free c s false other waits_it =
          ap (λ b. b || ((s == 1) && is_pending listeners c)) (has_now c s ∙ ap (λ b. has_stream descriptions c s || b) other ∙ or_none (has_stream descriptions c s)) ∙ is.free c s (and_first (loose c s) true waits_it)

-- no side waits
pub all_named : (loose : ConnId → ℕ → Bool) (descriptions : Descriptions) (listeners : Listeners) (channels : Channels) → ((c : ConnId) (s : ℕ) → loose c s ≡ false) → AreStreamsBut loose descriptions listeners channels → AreStreams descriptions listeners channels
all_named loose descriptions listeners channels none is = record {
  each = is.each;
  once = is.once;
  apart = is.apart;
  opened = λ c ch s found low. is.opened c ch s found low ∙ ap (λ b. is_named descriptions listeners c s || b) (none c s) ∙ or_none (is_named descriptions listeners c s);
}
