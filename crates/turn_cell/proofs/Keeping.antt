-- Each step on the word keeps the rule.
use Rattle.std.proofs.Common.{◌≡◌, ◌≢◌, ◌⊎◌, inl, inr, ℕ, true, eqb, List, [], ◌∷◌, length, set, refl, sym, ap, ◌∙◌, subst, arith, length-set, get_or-set_same, eq-eqb, ne_eqb}
use Rattle.std.specs.Prelude.{Option, Some, None, is_some, slice_index}
use Rattle.std.specs.Ordering.{nat_cmp}
use Rattle.std.specs.FinMap as map
use Rattle.std.specs.FinMap.{FinMap}
use mathlib.Core.Logic.{dite}
use mathlib.Core.Option.{none, some}
use mathlib.Core.Option as slot
use mathlib.Core.List.{IsPrefix}
use native.Mathlib.Decide.{ℕ_discrete}
use prog.Atomic.{either}
use lib.ListN.{get_elem?}
use Rattle.atomic_table.specs.Table.{State, Me, Valid, carried_after, step, Act, keeps, takes, gives, stepped, Allows, Splits, Joins, opening}
use Rattle.atomic_table.proofs.Lists.{at_set, set_again}
use Rattle.atomic_table.specs.declared.shared.Seat.{Seat}
use Rattle.turn_cell.specs.declared.view.Turn.{Turn}
use Rattle.turn_cell.specs.declared.view.Turn.TheVariants.{Waits, Holds, Shut}
use Rattle.turn_cell.specs.declared.view.View.{View}
use Rattle.turn_cell.specs.Turns.{KeepsOthers, is_held, own, Knows}
use Rattle.turn_cell.specs.Views.{view, newcomer, with_turn, is_waiting, HasIt}
use Rattle.turn_cell.specs.Rule.{Apart, Fits, HasTurn, IsFree, IsTaken, IsKept}
use Rattle.turn_cell.specs.Steps.{Sat, took, released, opened, shut}
use Rattle.turn_cell.proofs.Prefixes.{prefix_empty, prefix_self, prefix_trans}
use Rattle.turn_cell.proofs.Parts.{in_own, held_or_new}

-- ---- the word

word_there : (words : List ℕ) (n : ℕ) → length words ≡ 1 → slice_index (set words 0 n) 0 ≡ n
word_there words n one = get_or-set_same words 0 n 0 (omega arith)

pub same_word : (words : List ℕ) → length words ≡ 1 → set words 0 (slice_index words 0) ≡ words
same_word [] one = absurd (omega arith)
same_word (w ∷ ws) one = refl

one_home : {A : Type 0} (homes : List A) (x : A) → length homes ≡ 1 → set homes 0 x ≡ x ∷ []
one_home [] x one = absurd (omega arith)
one_home (h ∷ []) x one = refl
one_home (h ∷ i ∷ rest) x one = absurd (omega arith)

pub no_items : {A : Type 0} (xs : List A) → length xs ≡ 0 → xs ≡ []
no_items [] size = refl
no_items (x ∷ xs) size = absurd (omega arith)

pub first_of : {A : Type 0} (carried : List (ℕ × A)) (x : A) → carried ≡ (0, x) ∷ [] → carried ≡ (0, x) ∷ Rattle.atomic_table.specs.Table.rest carried
first_of carried x is = is ∙ ap (λ (c : List (ℕ × _)). (0, x) ∷ Rattle.atomic_table.specs.Table.rest c) (sym is)

module _ {E P : Type 0} where
  pub waiting : (turn : Turn E P) → is_waiting turn ≡ true → turn ≡ Waits
  waiting Waits is = refl
  waiting (Holds log all) is = absurd (cc is)
  waiting (Shut log all) is = absurd (cc is)

  -- ---- views that hold no number twice

  -- a view that holds no number of another
  abbrev pub IsApartFrom : List (View E P) → ℕ → View E P → Type 0
  IsApartFrom views id w = (k : ℕ) (v : View E P) → get_elem? views k ≡ some v → k ≢ id → (n : ℕ) (x y : P) → map.get w.parts n ≡ Some x → map.get v.parts n ≡ Some y → ⊥

  pub apart_set : (views : List (View E P)) (id : ℕ) (w : View E P) → Apart views → IsApartFrom views id w → Apart (set views id w)
  apart_set views id w apart new j k u v at_j at_k differ n x y in_u in_v = by (at_set views id j w u at_j) (at_set views id k w v at_k)
    where
      by : ((j ≡ id) × (w ≡ u)) ⊎ ((j ≢ id) × (get_elem? views j ≡ some u)) → ((k ≡ id) × (w ≡ v)) ⊎ ((k ≢ id) × (get_elem? views k ≡ some v)) → ⊥
      by (inl a) (inl b) = differ (a.0 ∙ sym b.0)
      by (inl a) (inr b) = new k v b.1 b.0 n x y (ap (λ (z : View E P). map.get z.parts n) a.1 ∙ in_u) in_v
      by (inr a) (inl b) = new j u a.1 a.0 n y x (ap (λ (z : View E P). map.get z.parts n) b.1 ∙ in_v) in_u
      by (inr a) (inr b) = apart j k u v a.1 b.1 differ n x y in_u in_v

  -- a view that holds no more than before
  pub shrunk : (views : List (View E P)) (id : ℕ) (v w : View E P) → Apart views → get_elem? views id ≡ some v → ((n : ℕ) (x : P) → map.get w.parts n ≡ Some x → map.get v.parts n ≡ Some x) → IsApartFrom views id w
  shrunk views id v w apart at less k u at_k differ n x y in_w in_u = apart id k v u at at_k (λ same. differ (sym same)) n x y (less n x in_w) in_u

  pub same_parts : (views : List (View E P)) (id : ℕ) (v w : View E P) → Apart views → get_elem? views id ≡ some v → w.parts ≡ v.parts → IsApartFrom views id w
  same_parts views id v w apart at same = shrunk views id v w apart at (λ n x is. ap (λ (m : FinMap nat_cmp P). map.get m n) (sym same) ∙ is)

  -- what holds of each view after one has changed
  pub each_set : (Q : ℕ → View E P → Type 0) (views : List (View E P)) (id : ℕ) (w : View E P)
      → Q id w → ((k : ℕ) (v : View E P) → get_elem? views k ≡ some v → k ≢ id → Q k v)
      → (k : ℕ) (v : View E P) → get_elem? (set views id w) k ≡ some v → Q k v
  each_set Q views id w here others k v at = by (at_set views id k w v at)
    where
      by : ((k ≡ id) × (w ≡ v)) ⊎ ((k ≢ id) × (get_elem? views k ≡ some v)) → Q k v
      by (inl is) = subst (λ (z : View E P). Q k z) is.1 (subst (λ (i : ℕ). Q i w) (sym is.0) here)
      by (inr is) = others k v is.1 is.0

  fits_with : (log : List E) (all : FinMap nat_cmp P) (v : View E P) (turn : Turn E P) → Fits log all v → Fits log all (with_turn v turn)
  fits_with log all v turn fits = record { seen = fits.seen; met = fits.met; held = fits.held }

  -- ---- whose turn it is

  pub same_all : (log log' : List E) (all all' : FinMap nat_cmp P) → Holds log all ≡ Holds log' all' → all ≡ all'
  same_all log log' all all' is = cc is

  module _ {S : Type 0} (history : S → List E) (parts : S → FinMap nat_cmp P) where
    abbrev pub Kept : State (Option S) (View E P) → Type 0
    Kept = IsKept history parts

    abbrev Table : Type 0
    Table = State (Option S) (View E P)

    taken_kept : (words : List ℕ) (n : ℕ) (homes : List (slot.Option (Option S))) (views : List (View E P)) → length words ≡ 1 → n ≢ 0 → Apart views
        → IsTaken history parts record { words = set words 0 n; homes = homes; views = views } → Kept record { words = set words 0 n; homes = homes; views = views }
    taken_kept words n homes views one some_n apart taken = record {
      word = length-set words 0 n ∙ one;
      apart = apart;
      free = λ is. absurd (some_n (sym (word_there words n one) ∙ is));
      taken = λ _. taken;
    }

    -- the word is not free while a view has a turn
    is_busy : (s : Table) (id : ℕ) (v : View E P) (turn : Turn E P) → Kept s → get_elem? s.views id ≡ some v → v.turn ≡ turn → (Waits ≡ turn → ⊥) → slice_index s.words 0 ≢ 0
    is_busy s id v turn kept at is other free = other (sym ((kept.free free).each id v at).0 ∙ is)

    is_taken : (s : Table) (id : ℕ) (v : View E P) (turn : Turn E P) → Kept s → get_elem? s.views id ≡ some v → v.turn ≡ turn → (Waits ≡ turn → ⊥) → IsTaken history parts s
    is_taken s id v turn kept at is other = kept.taken (is_busy s id v turn kept at is other)

    others_wait : (homes : List (slot.Option (Option S))) (holder : ℕ) (log : List E) (all : FinMap nat_cmp P) (k : ℕ) (turn : Turn E P) → k ≢ holder → HasTurn homes holder log all k turn → turn ≡ Waits
    others_wait homes holder log all k Waits differ has = refl
    others_wait homes holder log all k (Holds l a) differ has = absurd (differ has.0)
    others_wait homes holder log all k (Shut l a) differ has = absurd (differ has.0)

    -- the turn of a view is another, while the word stays taken
    still_taken : (s : Table) (kept : Kept s) (taken : IsTaken history parts s) (id : ℕ) (v : View E P) → get_elem? s.views id ≡ some v → (homes : List (slot.Option (Option S))) (turn : Turn E P)
        → HasTurn homes taken.holder taken.log taken.all id turn → ((k : ℕ) → id ≡ taken.holder)
        → slice_index s.words 0 ≢ 0 → Kept record { words = set s.words 0 (slice_index s.words 0); homes = homes; views = set s.views id (with_turn v turn) }
    still_taken s kept taken id v at homes turn has holder busy =
        taken_kept s.words (slice_index s.words 0) homes (set s.views id (with_turn v turn)) kept.word busy
        (apart_set s.views id (with_turn v turn) kept.apart (same_parts s.views id v (with_turn v turn) kept.apart at refl)) record {
          holder = taken.holder;
          log = taken.log;
          all = taken.all;
          each = each_set (λ k w. Fits taken.log taken.all w × HasTurn homes taken.holder taken.log taken.all k w.turn) s.views id (with_turn v turn)
              (fits_with taken.log taken.all v turn (taken.each id v at).0, has)
              (λ k w at_k differ. let one = taken.each k w at_k in
              (one.0, subst (HasTurn homes taken.holder taken.log taken.all k) (sym (others_wait s.homes taken.holder taken.log taken.all k w.turn (λ same. differ (same ∙ sym (holder k))) one.1)) tt));
        }

    -- ---- a turn is taken

    -- the pass has its turn, with the value
    abbrev Took : View E P → List (ℕ × Option S) → Sat S E P → Type 0
    Took v carried after = (x : S) × Knows v.seen v.parts (history x) (parts x) × ◌≡◌ {A = Sat S E P} after (with_turn v (Holds (history x) (parts x)), (0, Some x) ∷ carried)

    pub took_it : (me me' after : Sat S E P) → me ≡ me' → me'.1 ≡ [] → Took me.0 me.1 after → Took me'.0 [] after
    took_it me me' after same nothing told = subst (λ carried. Took me'.0 carried after) nothing (subst (λ (m : Sat S E P). Took m.0 m.1 after) same told)

    takes_hit : (slots id : ℕ) (me : Sat S E P) → me.0.turn ≡ Waits → (s : Table) → (kept : Kept s) → get_elem? s.views id ≡ some me.0 → IsFree history parts s
        → (w : View E P) × (a : Act (Option S)) × Valid s.homes me.1 a × Kept (stepped s 0 1 id me.1 w a)
        × ((x : S) × Knows me.0.seen me.0.parts (history x) (parts x) × ◌≡◌ {A = Sat S E P} (w, carried_after me.1 a) (with_turn me.0 (Holds (history x) (parts x)), (0, Some x) ∷ me.1))
    takes_hit slots id me waits s kept at free =
        let x = free.value in
        let w : View E P = with_turn me.0 (Holds (history x) (parts x)) in
        let mine = free.each id me.0 at in (
          w,
          takes 0 (Some x),
          ap (λ hs. get_elem? hs 0) free.home,
          taken_kept s.words 1 (set s.homes 0 none) (set s.views id w) kept.word (λ is. omega (arith, is)) (apart_set s.views id w kept.apart (same_parts s.views id me.0 w kept.apart at refl)) record {
            holder = id;
            log = history x;
            all = parts x;
            each = each_set (λ k v. Fits (history x) (parts x) v × HasTurn (set s.homes 0 none) id (history x) (parts x) k v.turn) s.views id w
                (fits_with (history x) (parts x) me.0 (Holds (history x) (parts x)) mine.1, (refl, refl, refl))
                (λ k v there differ. let one = free.each k v there in (one.1, subst (HasTurn (set s.homes 0 none) id (history x) (parts x) k) (sym one.0) tt));
          },
          (x, (mine.1.seen, mine.1.held), refl),
        )

    unchanged : (s : Table) (id : ℕ) (v : View E P) → Kept s → get_elem? s.views id ≡ some v → (me : List (ℕ × Option S)) → Kept (stepped s 0 (slice_index s.words 0) id me v keeps)
    unchanged s id v kept at me = subst Kept (λ i. record { words = sym (same_word s.words kept.word) i; homes = s.homes; views = sym (set_again s.views id v at) i }) kept

    pub take_keeps : (slots id : ℕ) (me : Sat S E P) → me.0.turn ≡ Waits → Allows Kept slots id me 0 (λ n. either (eqb n 0) 1 n) (took history parts (step slots 0 0 1 none) me)
    take_keeps slots id me waits s kept sized at small = let x : ℕ = slice_index s.words 0 in dite (ℕ_discrete x 0)
        (λ hit. let t = takes_hit slots id me waits s kept at (kept.free hit) in
        (t.0, t.1, t.2, subst (λ b. Kept (stepped s 0 (either b 1 x) id me.1 t.0 t.1)) (sym (eq-eqb x 0 hit)) t.3, ((λ _. t.4), λ miss. absurd (miss hit))))
        (λ miss. (
          me.0,
          keeps,
          tt,
          subst (λ b. Kept (stepped s 0 (either b 1 x) id me.1 me.0 keeps)) (sym (ne_eqb x 0 miss)) (unchanged s id me.0 kept at me.1),
          ((λ hit. absurd (miss hit)), λ _. refl),
        ))

    -- ---- a turn ends

    not_both : (views : List (View E P)) (id k : ℕ) (v w : View E P) → Apart views → get_elem? views id ≡ some v → get_elem? views k ≡ some w → k ≢ id → (n : ℕ) (y : P) → map.get w.parts n ≡ Some y → map.get v.parts n ≡ None
    not_both views id k v w apart at at_k differ n y is = by (map.get v.parts n) refl
      where
        by : (found : Option P) → map.get v.parts n ≡ found → found ≡ None
        by None e = refl
        by (Some z) e = absurd (apart id k v w at at_k (λ same. differ (sym same)) n z y e is)

    module _ (s : Table) (kept : Kept s) (id : ℕ) (me : View E P) (at : get_elem? s.views id ≡ some me) (taken : IsTaken history parts s) (log : List E) (all : FinMap nat_cmp P)
        (holder : id ≡ taken.holder) (same_log : log ≡ taken.log) (same_all : all ≡ taken.all) (x : S) (grows : IsPrefix log (history x)) (rest : KeepsOthers (is_held me.parts) all (parts x)) where
      abbrev after_turn : View E P
      after_turn = view (history x) [] (own me.parts all (parts x)) Waits

      fits_on : (k : ℕ) (v : View E P) → get_elem? s.views k ≡ some v → k ≢ id → Fits log all v → Fits (history x) (parts x) v
      fits_on k v at_k differ fits = record {
        seen = prefix_trans v.seen log (history x) fits.seen grows;
        met = prefix_trans v.met log (history x) fits.met grows;
        held = λ n y is. rest n y (ap is_some (not_both s.views id k me v kept.apart at at_k differ n y is)) (fits.held n y is);
      }

      other_fits : (k : ℕ) (v : View E P) → get_elem? s.views k ≡ some v → Fits log all v
      other_fits k v at_k = subst (λ (z : List E). Fits z all v) (sym same_log) (subst (λ (z : FinMap nat_cmp P). Fits taken.log z v) (sym same_all) (taken.each k v at_k).0)

      own_apart : IsApartFrom s.views id after_turn
      own_apart k v at_k differ n y z in_w in_v =
          let found = in_own me.parts all (parts x) n y in_w in
          by (held_or_new me.parts all n found.0)
        where
          by : ((u : P) × (map.get me.parts n ≡ Some u)) ⊎ (map.get all n ≡ None) → ⊥
          by (inl had) = kept.apart id k me v at at_k (λ same. differ (sym same)) n had.0 z had.1 in_v
          by (inr new) = let stood : map.get all n ≡ Some z = (other_fits k v at_k).held n z in_v in cc (new, stood)

      free_after : length s.homes ≡ 1 → Kept (stepped s 0 0 id ((0, Some x) ∷ []) after_turn gives)
      free_after one = record {
        word = length-set s.words 0 0 ∙ kept.word;
        apart = apart_set s.views id after_turn kept.apart own_apart;
        free = λ _. record {
          value = x;
          home = one_home s.homes (some (Some x)) one;
          each = each_set (λ k v. (v.turn ≡ Waits) × Fits (history x) (parts x) v) s.views id after_turn
              (refl, record { seen = prefix_self (history x); met = prefix_empty (history x); held = λ n y is. (in_own me.parts all (parts x) n y is).1 })
              (λ k v at_k differ. (
                others_wait s.homes taken.holder taken.log taken.all k v.turn (λ same. differ (same ∙ sym holder)) (taken.each k v at_k).1,
                fits_on k v at_k differ (other_fits k v at_k),
              ));
        };
        taken = λ is. absurd (is (word_there s.words 0 kept.word));
      }

    release_one : (slots id : ℕ) (me : Sat S E P) (log : List E) (all : FinMap nat_cmp P) (x : S) → me.0.turn ≡ Holds log all → me.1 ≡ (0, Some x) ∷ []
        → released history parts (step slots 0 0 0 none) me 0 (view (history x) [] (own me.0.parts all (parts x)) Waits, [])
    release_one slots id me log all x holds carries log' all' x' holds' carries' =
        let same_all : all ≡ all' = cc (holds, holds') in
        let pairs : ◌≡◌ {A = ℕ × Option S} (0, Some x) (0, Some x') = cc (carries, carries') in
        let values : Some x ≡ Some x' = ap (λ (p : ℕ × Option S). p.1) pairs in
        let same_x : x ≡ x' = cc values in
        λ i. (view (history (same_x i)) [] (own me.0.parts (same_all i) (parts (same_x i))) Waits, [])

    pub release_keeps : (slots id : ℕ) (me : Sat S E P) (log : List E) (all : FinMap nat_cmp P) (x : S) → slots ≡ 1 → me.0.turn ≡ Holds log all → me.1 ≡ (0, Some x) ∷ []
        → IsPrefix log (history x) → KeepsOthers (is_held me.0.parts) all (parts x)
        → Allows Kept slots id me 0 (λ _. 0) (λ _. released history parts (step slots 0 0 0 none) me 0)
    release_keeps slots id me log all x one holds carries grows rest s kept sized at small =
        let taken = is_taken s id me.0 (Holds log all) kept at holds (λ is. cc is) in
        let turn : HasTurn s.homes taken.holder taken.log taken.all id (Holds log all) = subst (HasTurn s.homes taken.holder taken.log taken.all id) holds (taken.each id me.0 at).1 in
        let w : View E P = view (history x) [] (own me.0.parts all (parts x)) Waits in (
          w,
          gives,
          tt,
          subst (λ carried. Kept (stepped s 0 0 id carried w gives)) (sym carries) (free_after s kept id me.0 at taken log all turn.0 turn.1 turn.2 x grows rest (sized ∙ one)),
          subst (λ carried. released history parts (step slots 0 0 0 none) me 0 (w, Rattle.atomic_table.specs.Table.rest carried)) (sym carries) (release_one slots id me log all x holds carries),
        )

    -- a value was put into an empty slot
    abbrev pub PutIn : Sat S E P → Sat S E P → S → Type 0
    PutIn me me' x = ◌≡◌ {A = Sat S E P} me' (me.0, (0, Some x) ∷ Rattle.atomic_table.specs.Table.rest me.1)

    put_in : (me me' : Sat S E P) (x : S) → PutIn me me' x → me.1 ≡ (0, None) ∷ [] → ◌≡◌ {A = Sat S E P} me' (me.0, (0, Some x) ∷ [])
    put_in me me' x is slot = is ∙ ap (λ (carried : List (ℕ × Option S)). (me.0, (0, Some x) ∷ Rattle.atomic_table.specs.Table.rest carried)) slot

    pub release_it : (slots id : ℕ) (me me' : Sat S E P) (x : S) → slots ≡ 1 → PutIn me me' x → (log : List E) (all : FinMap nat_cmp P) → me.0.turn ≡ Holds log all → me.1 ≡ (0, None) ∷ []
        → IsPrefix log (history x) → KeepsOthers (is_held me.0.parts) all (parts x) → Allows Kept slots id me' 0 (λ _. 0) (λ _. released history parts (step slots 0 0 0 none) me' 0)
    release_it slots id me me' x one is log all holds slot grows others =
        subst (λ (m : Sat S E P). Allows Kept slots id m 0 (λ _. 0) (λ _. released history parts (step slots 0 0 0 none) m 0)) (sym (put_in me me' x is slot))
        (release_keeps slots id (me.0, (0, Some x) ∷ []) log all x one holds refl grows others)

    -- what the pass is then
    pub released_it : (slots : ℕ) (seat : Seat (Option S) (View E P)) (me' me'' : Sat S E P) (x : S) → (it : HasIt history parts seat x) → PutIn seat.me me' x
        → released history parts (step slots 0 0 0 none) me' 0 me'' → ◌≡◌ {A = Sat S E P} me'' (view (history x) [] (own seat.me.0.parts it.all (parts x)) Waits, [])
    released_it slots seat me' me'' x it is told =
        subst (λ (m : Sat S E P). released history parts (step slots 0 0 0 none) m 0 me'') (put_in seat.me me' x is it.slot) told it.log it.all x it.turn refl

    -- ---- before the first turn and after the last one

    -- a turn at which a slot without a value is taken out or put back
    pub open_keeps : (slots id : ℕ) (me : Sat S E P) (log : List E) (all : FinMap nat_cmp P) → me.0.turn ≡ Shut log all
        → Allows Kept slots id me 0 (λ n. n) (opened (step slots 0 0 0 none) me)
    open_keeps slots id me log all is s kept sized at small =
        let taken = is_taken s id me.0 (Shut log all) kept at is (λ e. cc e) in
        let turn : HasTurn s.homes taken.holder taken.log taken.all id (Shut log all) = subst (HasTurn s.homes taken.holder taken.log taken.all id) is (taken.each id me.0 at).1 in
        let w : View E P = with_turn me.0 (Holds log all) in (
          w,
          takes 0 None,
          ap (λ hs. get_elem? hs 0) turn.3,
          still_taken s kept taken id me.0 at (set s.homes 0 none) (Holds log all) (turn.0, turn.1, turn.2) (λ same. turn.0) (is_busy s id me.0 (Shut log all) kept at is (λ e. cc e)),
          (λ log' all' is'. let same_log : log ≡ log' = cc (is, is') in let same_all : all ≡ all' = cc (is, is') in λ i. (with_turn me.0 (Holds (same_log i) (same_all i)), (0, None) ∷ me.1)),
        )

    pub shut_keeps : (slots id : ℕ) (me : Sat S E P) (log : List E) (all : FinMap nat_cmp P) → slots ≡ 1 → me.0.turn ≡ Holds log all → me.1 ≡ (0, None) ∷ []
        → Allows Kept slots id me 0 (λ n. n) (shut (step slots 0 0 0 none) me)
    shut_keeps slots id me log all one is carries s kept sized at small =
        let taken = is_taken s id me.0 (Holds log all) kept at is (λ e. cc e) in
        let turn : HasTurn s.homes taken.holder taken.log taken.all id (Holds log all) = subst (HasTurn s.homes taken.holder taken.log taken.all id) is (taken.each id me.0 at).1 in
        let w : View E P = with_turn me.0 (Shut log all) in (
          w,
          gives,
          tt,
          subst (λ carried. Kept (stepped s 0 (slice_index s.words 0) id carried w gives)) (sym carries)
              (still_taken s kept taken id me.0 at (set s.homes 0 (some None)) (Shut log all) (turn.0, turn.1, turn.2, one_home s.homes (some None) (sized ∙ one)) (λ same. turn.0) (is_busy s id me.0 (Holds log all) kept at is (λ e. cc e))),
          subst (λ carried. shut (step slots 0 0 0 none) me (slice_index s.words 0) (w, Rattle.atomic_table.specs.Table.rest carried)) (sym carries)
              (λ log' all' is' carries'. let same_log : log ≡ log' = cc (is, is') in let same_all : all ≡ all' = cc (is, is') in λ i. (with_turn me.0 (Shut (same_log i) (same_all i)), [])),
        )

    pub opened_it : (slots r : ℕ) (me me' : Sat S E P) → opened (step slots 0 0 0 none) me r me' → ◌≡◌ {A = Sat S E P} me (newcomer, []) → ◌≡◌ {A = Sat S E P} me' (with_turn newcomer (Holds [] map.empty), (0, None) ∷ [])
    opened_it slots r me me' told is = told [] map.empty (ap (λ (m : Sat S E P). m.0.turn) is) ∙ ap (λ (m : Sat S E P). (with_turn m.0 (Holds [] map.empty), (0, None) ∷ m.1)) is

    -- after the last turn the slot has no value
    pub none_left : (s : Table) (id : ℕ) (v : View E P) (log : List E) (all : FinMap nat_cmp P) → Kept s → get_elem? s.views id ≡ some v → v.turn ≡ Shut log all → get_elem? s.homes 0 ≡ some (some None)
    none_left s id v log all kept at is =
        let taken = is_taken s id v (Shut log all) kept at is (λ e. cc e) in
        let turn : HasTurn s.homes taken.holder taken.log taken.all id (Shut log all) = subst (HasTurn s.homes taken.holder taken.log taken.all id) is (taken.each id v at).1 in
        ap (λ hs. get_elem? hs 0) turn.3
