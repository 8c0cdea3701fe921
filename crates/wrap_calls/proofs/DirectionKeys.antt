-- The directions of a kernel part are the two of each channel of the table.
--     AreKeys, keys_are      which directions there are
--     first_of_conn          the direction of side 0 of the next channel
--     none_above, side_one, conn_above      the next direction, by what stands before it
--     first_side             the direction of side 0 of a channel of the table
use Rattle.std.proofs.Common.{◌≡◌, ℕ, ◌<◌, ◌≤◌, ◌⊎◌, inl, inr, Ordering, Less, Equal, Greater, Bool, true, false}
use Rattle.std.proofs.Common.{refl, sym, ap, subst, ◌∙◌, arith}
use Rattle.std.specs.Prelude.{◌==◌, ◌&&◌, Option, Some, None, IsSome, is_some, find, option_map}
use Rattle.std.specs.Ordering.{nat_cmp, is_le, is_lt, ordering_then}
use Rattle.std.specs.Cmp.{tied_itself}
use Rattle.std.specs.FinMap as map
use Rattle.std.proofs.lemmas.Option.{none-some}
use Rattle.std.proofs.lemmas.Bool.{eqb-true, eq-eqb}
use Rattle.std.proofs.lemmas.Bool.Decides.{nat_tests}
use Rattle.views.proofs.MapLaws.{true_false}
use Rattle.views.proofs.Seen.{agree_found, agree_real}
use Rattle.sys_abi.specs.declared.identity.ConnId.{ConnId}
use Rattle.sys_abi.specs.declared.identity.Dir.{Dir}
use Rattle.sys_abi.specs.Orders.{conn_cmp, dir_cmp}
use Rattle.sys_abi.proofs.OrderLaws.{conn_total, conn_exact, dir_total, dir_exact}
use Rattle.conn_table.specs.declared.conn.Conn.{Conn}
use Rattle.conn_table.specs.Conns as table
use Rattle.plain_tables.specs.declared.channel.Direction.{Direction}
use Rattle.plain_tables.specs.Objects.{dir}
use Rattle.plain_tables.specs.Tables.{Directions}
use Rattle.plain_machine.specs.declared.kernel.PlainKernel.{PlainKernel}
use Rattle.wire_channels.specs.declared.channel.Channel.{Channel}
use Rattle.wire_channels.specs.Directions.{Direction as RealDirection}
use Rattle.wire_channels.specs.Channels as channels
use Rattle.host_tables.specs.declared.system.System.{System}
use Rattle.host_tables.specs.Network.{Conns, SameDirection}
use Rattle.host_tables.proofs.LookUps.{some_value}
use Rattle.wrap_passing.specs.OfWrapNames.Wrapping.{IsWrapped}
use Rattle.wrap_calls.specs.Directions.{is_above, is_first_side}
use Rattle.wrap_calls.proofs.FirstKeys.{Finds, finds_key, found_key}

pub record AreKeys (conns : Conns) (directions : Directions) : Type 0 where
  pub side : (d : Dir) (x : Direction) → map.get directions d ≡ Some x → d.side < 2
  pub listed : (d : Dir) (x : Direction) → map.get directions d ≡ Some x → IsSome (map.get conns d.conn)
  pub there : (d : Dir) → d.side < 2 → IsSome (map.get conns d.conn) → IsSome (map.get directions d)

below_or : (n : ℕ) → (n < 2) ⊎ (2 ≤ n)
below_or n = grind arith

some_is : {A B : Type 0} (f : A → B) (o : Option A) (y : B) → option_map f o ≡ Some y → IsSome o
some_is f None y e = absurd (none-some y e)
some_is f (Some x) y e = refl

is_there : {A : Type 0} (o : Option A) (x : A) → o ≡ Some x → IsSome o
is_there o x e = ap is_some e

same_there : {A B C : Type 0} (f : A → C) (g : B → C) (o : Option A) (q : Option B)
    → option_map f o ≡ option_map g q
    → IsSome o → IsSome q
same_there f g None q e h = true_false (sym h)
same_there f g (Some x) None e h = absurd (none-some (f x) (sym e))
same_there f g (Some x) (Some y) e h = refl

module _ (s : System) (next_id : ℕ) (k : PlainKernel) (w : IsWrapped s next_id k) where
  abbrev Same : Dir → Direction → RealDirection → Type 0
  Same d = SameDirection s.kernel.net None d

  side_is : (d : Dir) (x : Direction) → map.get k.directions d ≡ Some x → d.side < 2
  side_is d x is = elim (below_or d.side) [
    | inl less ↦ less
    | inr more ↦ absurd (none-some x (sym (w.stands.tables.directions.no_other d more) ∙ is))
  ]

  listed_is : (d : Dir) (x : Direction) → map.get k.directions d ≡ Some x
      → IsSome (map.get s.conns.conns d.conn)
  listed_is d x is =
      let y = agree_found (Same d) (map.get k.directions d)
      (channels.direction_at s.kernel.net.channels d) x
      (w.stands.tables.directions.at d (side_is d x is)) is in
      w.stands.tables.channels.listed d.conn
      (some_is (channels.direction_of d.side) (map.get s.kernel.net.channels d.conn) y.0 y.1.0)

  there_by : (d : Dir) → d.side < 2 → (o : Option Channel) → map.get s.kernel.net.channels d.conn ≡ o
      → IsSome o
      → IsSome (map.get k.directions d)
  there_by d less None is h = true_false (sym h)
  there_by d less (Some channel) is h =
      let x = agree_real (Same d) (map.get k.directions d)
      (channels.direction_at s.kernel.net.channels d) (channels.direction_of d.side channel)
      (w.stands.tables.directions.at d less) (ap (option_map (channels.direction_of d.side)) is) in
      is_there (map.get k.directions d) x.0 x.1.0

  pub keys_are : AreKeys s.conns.conns k.directions
  keys_are = record {
    side = side_is;
    listed = listed_is;
    there = λ d less listed. there_by d less (map.get s.kernel.net.channels d.conn) refl
        (same_there (λ (c : Conn). c.open_ends) (λ (c : Channel). c.open_ends) (map.get s.conns.conns d.conn)
        (map.get s.kernel.net.channels d.conn) (w.stands.exact.open_ends d.conn) listed);
  }

-- orders

zero_first : (n : ℕ) → is_le (nat_cmp 0 n) ≡ true
zero_first n = grind (arith, nat_tests)

one_next : (m n : ℕ) → m ≡ 0 → is_lt (nat_cmp m n) ≡ true → is_le (nat_cmp 1 n) ≡ true
one_next m n zero below = grind (arith, nat_tests, zero, below)

only_zero : (m n : ℕ) → n < 2 → is_lt (nat_cmp m n) ≡ true → m ≡ 0
only_zero m n few below = grind (arith, nat_tests, few, below)

first_le : (r : Ordering) (n : ℕ) → is_le r ≡ true → is_le (ordering_then r (nat_cmp 0 n)) ≡ true
first_le Less n h = refl
first_le Equal n h = zero_first n
first_le Greater n h = true_false (sym h)

below_then : (r t : Ordering) → is_lt r ≡ true → is_lt (ordering_then r t) ≡ true
below_then Less t h = refl
below_then Equal t h = true_false (sym h)
below_then Greater t h = true_false (sym h)

module _ (conns : Conns) (directions : Directions) (keys : AreKeys conns directions) where
  module _ (above : Option Dir) (last : Option ConnId)
      (skips : (d : Dir) (x : Direction) → map.get directions d ≡ Some x → is_above above d ≡ true
      → table.is_above last d.conn ≡ true)
      (passes : (c : ConnId) → table.is_above last c ≡ true → is_above above (dir c 0) ≡ true) where
    its_conn : (d : Dir) (x : Direction) → map.get directions d ≡ Some x
        → (c : Conn) × (map.get conns d.conn ≡ Some c)
    its_conn d x is = some_value (map.get conns d.conn) (keys.listed d x is)

    none_after : Finds conn_cmp (table.is_above last) (map.get conns) None → (d : Dir) (x : Direction)
        → map.get directions d ≡ Some x → (b : Bool) → is_above above d ≡ b → b ≡ false
    none_after none d x is true after =
        let c = its_conn d x is in
        true_false (sym (skips d x is after) ∙ none d.conn c.0 c.1)
    none_after none d x is false after = refl

    first_by : (found : Option ConnId) → Finds conn_cmp (table.is_above last) (map.get conns) found
        → Finds dir_cmp (is_above above) (map.get directions) (option_map (λ c. dir c 0) found)
    first_by None none = λ d x is. none_after none d x is (is_above above d) refl
    first_by (Some c) is =
        let x = some_value (map.get directions (dir c 0))
        (keys.there (dir c 0) (omega arith) (is_there (map.get conns c) is.value is.there)) in
        record {
          value = x.0;
          there = x.1;
          passes = passes c is.passes;
          least = λ d x at after. let e = its_conn d x at in
              first_le (conn_cmp c d.conn) d.side (is.least d.conn e.0 e.1 (skips d x at after));
        }

    pub first_of_conn : (found : Option ConnId) → find (table.is_above last) (map.keys conns) ≡ found
        → find (is_above above) (map.keys directions) ≡ option_map (λ c. dir c 0) found
    first_of_conn found is =
        found_key dir_total dir_exact (is_above above) directions (option_map (λ c. dir c 0) found)
        (first_by found (subst (Finds conn_cmp (table.is_above last) (map.get conns)) is
        (finds_key conn_total conn_exact (table.is_above last) conns)))

  pub none_above : (found : Option ConnId) → find (table.is_above None) (map.keys conns) ≡ found
      → find (is_above None) (map.keys directions) ≡ option_map (λ c. dir c 0) found
  none_above = first_of_conn None None (λ d x is after. refl) (λ c after. refl)

  module _ (above : Dir) where
    after_by : (d : Dir) (r : Ordering) → is_lt (ordering_then r (nat_cmp above.side d.side)) ≡ true
        → (is_lt r ≡ true) ⊎ ((r ≡ Equal) × (is_lt (nat_cmp above.side d.side) ≡ true))
    after_by d Less after = inl refl
    after_by d Equal after = inr (refl, after)
    after_by d Greater after = true_false (sym after)

    -- the other side of a channel that is there
    module _ (zero : above.side ≡ 0) (there : IsSome (map.get conns above.conn)) where
      one_least : (d : Dir) (r : Ordering) → is_lt (ordering_then r (nat_cmp above.side d.side)) ≡ true
          → is_le (ordering_then r (nat_cmp 1 d.side)) ≡ true
      one_least d Less after = refl
      one_least d Equal after = one_next above.side d.side zero after
      one_least d Greater after = true_false (sym after)

      pub side_one : find (is_above (Some above)) (map.keys directions) ≡ Some (dir above.conn 1)
      side_one =
          let x = some_value (map.get directions (dir above.conn 1))
          (keys.there (dir above.conn 1) (omega arith) there) in
          found_key dir_total dir_exact (is_above (Some above)) directions (Some (dir above.conn 1))
          (record {
            value = x.0;
            there = x.1;
            passes = ap (λ r. is_lt (ordering_then r (nat_cmp above.side 1)))
                (tied_itself conn_total above.conn)
                ∙ ap (λ n. is_lt (nat_cmp n 1)) zero;
            least = λ d x at after. one_least d (conn_cmp above.conn d.conn) after;
          })

    -- no more of this channel
    module _ (last : is_first_side conns above ≡ false) where
      skipped : (d : Dir) (x : Direction) → map.get directions d ≡ Some x → is_above (Some above) d ≡ true
          → table.is_above (Some above.conn) d.conn ≡ true
      skipped d x is after = elim (after_by d (conn_cmp above.conn d.conn) after) [
        | inl below ↦ below
        | inr same ↦
            let zero = only_zero above.side d.side (keys.side d x is) same.1 in
            let here = conn_exact above.conn d.conn same.0 in
            true_false (sym ((λ i. eq-eqb above.side 0 zero i
            && (ap (λ c. is_some (map.get conns c)) here ∙ keys.listed d x is) i)) ∙ last)
      ]

      pub conn_above : (found : Option ConnId)
          → find (table.is_above (Some above.conn)) (map.keys conns) ≡ found
          → find (is_above (Some above)) (map.keys directions) ≡ option_map (λ c. dir c 0) found
      conn_above =
          first_of_conn (Some above) (Some above.conn) skipped
          (λ c after. below_then (conn_cmp above.conn c) (nat_cmp above.side 0) after)

-- what code asks
pub first_side : (conns : Conns) (d : Dir) → is_first_side conns d ≡ true
    → (d.side ≡ 0) × IsSome (map.get conns d.conn)
first_side conns d is = by_test (d.side == 0) refl is
  where
    by_test : (b : Bool) → (d.side == 0) ≡ b → (b && is_some (map.get conns d.conn)) ≡ true
        → (d.side ≡ 0) × IsSome (map.get conns d.conn)
    by_test true zero there = (eqb-true d.side 0 zero, there)
    by_test false other there = true_false (sym there)
