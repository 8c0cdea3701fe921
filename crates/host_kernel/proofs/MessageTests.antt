-- Tests of a read and a write of a message, by what was counted.
--     peer_found, peer_gone        the description across
--     waits_there, none_waits      whether a read has an answer yet
--     long, gone, room             whether a write has
use Rattle.std.proofs.Common.{◌≡◌, ℕ, ◌<◌, ◌≤◌, Bool, true, false, ◌||◌, Option, Some, None, refl, sym, ap, arith}
use Rattle.std.specs.Prelude.{option_map, nat_lt}
use Rattle.std.specs.Option.{option_map_or}
use Rattle.std.proofs.lemmas.Bool.Decides.{nat_tests}
use Rattle.std.proofs.lemmas.Option.{same_Some, none-some}
use Rattle.views.proofs.MapLaws.{true_false}
use Rattle.sys_abi.specs.declared.identity.DescId.{DescId}
use Rattle.conn_table.specs.declared.pairs.DatagramPair.{DatagramPair}
use Rattle.conn_table.specs.Pairs.{end_of}

module _ (s : ℕ) (id : DescId) where
  abbrev pub desc_of : DatagramPair → DescId
  desc_of pair = (end_of s pair).desc

  pub peer_found : (o : Option DatagramPair) (peer : DescId) → option_map desc_of o ≡ Some peer
      → peer ≡ option_map_or desc_of o id
  peer_found None peer e = absurd (none-some peer e)
  peer_found (Some pair) peer e = sym (same_Some (desc_of pair) peer e)

  pub peer_gone : (o : Option DatagramPair) → option_map desc_of o ≡ None → id ≡ option_map_or desc_of o id
  peer_gone None e = refl
  peer_gone (Some pair) e = absurd (none-some (desc_of pair) (sym e))

pub waits_there : (n : ℕ) (b : Bool) → 0 < n → true ≡ (nat_lt 0 n || b)
waits_there n b some =
    let test : nat_lt 0 n ≡ true = grind (arith, nat_tests, some) in
    sym (ap (λ a. a || b) test)

pub none_waits : (n : ℕ) (b : Bool) → n ≤ 0 → b ≡ (nat_lt 0 n || b)
none_waits n b no_one =
    let test : nat_lt 0 n ≡ false = grind (arith, nat_tests, no_one) in
    sym (ap (λ a. a || b) test)

pub long : (a b c : Bool) → a ≡ true → true ≡ (a || b || c)
long true b c e = refl
long false b c e = true_false (sym e)

pub gone : (a b c : Bool) → b ≡ true → true ≡ (a || b || c)
gone true b c e = refl
gone false true c e = refl
gone false false c e = true_false (sym e)

pub room : (a b c : Bool) → a ≡ false → b ≡ false → c ≡ (a || b || c)
room true b c e f = true_false e
room false true c e f = true_false f
room false false c e f = refl
