-- The notes on directions are opened one after the other, and the ends of connections that are passed are left
-- behind.
--     IsLedAlike rest ends x           both lists name the same agents for the direction of the notes
--     AreToCome rest ends last notes   the notes that are to come, with the ends that are left, behind the last
--                                      direction
--     at_first, one_on                 all are to come;  one direction further
--     opened_alike                     notes are opened alike by what is left of the ends
--     coming                           the notes that are to come, by their place
use Rattle.std.proofs.Common.{◌≡◌, ◌≢◌, ℕ, ◌+◌, ◌-◌, ◌<◌, zero, suc, ◌∷◌, ◌++◌, map as each, take, drop, length, get_or, refl, sym, ap₂, subst, ◌∙◌, arith}
use Rattle.std.specs.Prelude.{Option, Some, None, All, IfSome, if◌then◌else◌}
use Rattle.std.specs.Option.{option_map_or}
use Rattle.std.proofs.lemmas.List.Elements.{All-head, All-tail}
use Rattle.sys_abi.specs.declared.identity.ConnId.{ConnId}
use Rattle.sys_abi.specs.declared.identity.Dir.{Dir}
use Rattle.sys_abi.specs.declared.identity.RealPid.{RealPid}
use Rattle.wire_channels.specs.Channels.{Channels, direction_at, is_live_at}
use Rattle.wire_channels.specs.Directions.{standing}
use Rattle.wire_net.specs.declared.agents.AgentEnd.{AgentEnd}
use Rattle.wire_net.specs.declared.cut_room.DirNotes.{DirNotes}
use Rattle.wire_net.specs.Ends.{agent_of}
use Rattle.wire_net.proofs.EachItem.{place, item_here}
use Rattle.drain_core.specs.Drains.{Notes, Apart, dirs_of}
use Rattle.drain_core.specs.Openings.{opened}
use Rattle.drain_core.proofs.AllDirections.{for_each, one_of, of_dirs}
use Rattle.std.specs.Prelude.{List}

abbrev pub IsLedAlike : List AgentEnd → List AgentEnd → DirNotes → Type 0
IsLedAlike rest ends x = (side : ℕ) → agent_of rest x.dir.conn side ≡ agent_of ends x.dir.conn side

abbrev pub IsPassed : Notes → Dir → Type 0
IsPassed notes d = (d.side < 2) × All (λ x. x.dir ≢ d) notes

pub record AreToCome (rest ends : List AgentEnd) (last : Option Dir) (notes : Notes) : Type 0 where
  pub apart : Apart (dirs_of notes)
  pub sides : All (λ x. x.dir.side < 2) notes
  pub led : All (IsLedAlike rest ends) notes
  pub passed : IfSome last (IsPassed notes)

pub at_first : (ends : List AgentEnd) (notes : Notes) → Apart (dirs_of notes)
    → All (λ x. x.dir.side < 2) notes → AreToCome ends ends None notes
at_first ends notes apart sides = record {
  apart = apart;
  sides = sides;
  led = for_each (IsLedAlike ends ends) notes (λ front back x among side. refl);
  passed = tt;
}

-- of three directions of one connection two are one
two_sides : (a b c : ℕ) → a < 2 → b < 2 → c < 2 → a ≢ b → a ≢ c → b ≡ c
two_sides zero zero c first second third other another = absurd (other refl)
two_sides zero (suc zero) zero first second third other another = absurd (another refl)
two_sides zero (suc zero) (suc zero) first second third other another = refl
two_sides zero (suc zero) (suc (suc c)) first second third other another = absurd (omega (arith, third))
two_sides zero (suc (suc b)) c first second third other another = absurd (omega (arith, second))
two_sides (suc zero) zero zero first second third other another = refl
two_sides (suc zero) zero (suc zero) first second third other another = absurd (another refl)
two_sides (suc zero) zero (suc (suc c)) first second third other another = absurd (omega (arith, third))
two_sides (suc zero) (suc zero) c first second third other another = absurd (other refl)
two_sides (suc zero) (suc (suc b)) c first second third other another = absurd (omega (arith, second))
two_sides (suc (suc a)) b c first second third other another = absurd (omega (arith, first))

one_dir : (d e : Dir) → d.conn ≡ e.conn → d.side ≡ e.side → d ≡ e
one_dir d e conn side = ap₂ (λ (c : ConnId) (s : ℕ). let x : Dir = record { conn = c; side = s } in x) conn side

third_apart : (d e f : Dir) → d.side < 2 → e.side < 2 → f.side < 2 → d ≢ e → d ≢ f → e ≢ f → d.conn ≡ e.conn
    → d.conn ≢ f.conn
third_apart d e f first second third other another apart same here =
    apart (one_dir e f (sym same ∙ here)
    (two_sides d.side e.side f.side first second third (λ side. other (one_dir d e same side))
    (λ side. another (one_dir d f here side))))

module _ (rest next ends : List AgentEnd) (last : Option Dir) (x : DirNotes) (notes : Notes)
    (is : AreToCome rest ends last (x ∷ notes)) where
  others : (y : DirNotes) (o : Option Dir) → IfSome o (IsPassed (x ∷ notes)) → y.dir.side < 2
      → y.dir ≢ x.dir → ((e : Dir) → IsPassed (x ∷ notes) e → y.dir ≢ e)
      → IfSome o (λ e. e.conn ≡ x.dir.conn → y.dir.conn ≢ x.dir.conn)
  others y None passed side apart before = tt
  others y (Some e) passed side apart before = λ same here.
      third_apart x.dir e y.dir (All-head (λ z. z.dir.side < 2) x notes is.sides) passed.0 side
      (All-head (λ z. z.dir ≢ e) x notes passed.1) (λ at. apart (sym at))
      (λ at. before e passed (sym at)) (sym same) (sym here)

  pub one_on : ((c : ConnId) (side : ℕ) → IfSome last (λ e. e.conn ≡ x.dir.conn → c ≢ x.dir.conn)
      → agent_of next c side ≡ agent_of rest c side) → AreToCome next ends (Some x.dir) notes
  one_on kept =
      let apart = of_dirs (λ e. e ≢ x.dir) notes is.apart.0 in
      let sides = All-tail (λ z. z.dir.side < 2) x notes is.sides in
      let led = All-tail (IsLedAlike rest ends) x notes is.led in
      record {
        apart = is.apart.1;
        sides = sides;
        led =
            for_each (IsLedAlike next ends) notes (λ front back y among side.
            let of = λ (P : DirNotes → Type 0) (all : All P notes).
            one_of P front back y (subst (All P) among all) in
            kept y.dir.conn side
            (others y last is.passed (of (λ z. z.dir.side < 2) sides) (of (λ z. z.dir ≢ x.dir) apart)
            (λ e passed. of (λ z. z.dir ≢ e) (All-tail (λ z. z.dir ≢ e) x notes passed.1)))
            ∙ of (IsLedAlike rest ends) led side);
        passed = (All-head (λ z. z.dir.side < 2) x notes is.sides, apart);
      }

pub opened_alike : (m : Channels) (rest ends : List AgentEnd) (x : DirNotes) → IsLedAlike rest ends x
    → opened m rest x ≡ opened m ends x
opened_alike m rest ends x alike =
    ap₂ (λ (sender reader : Option RealPid). let y : DirNotes = record x {
      count = option_map_or standing (direction_at m x.dir) 0;
      sender = if is_live_at m x.dir.conn then sender else x.sender;
      reader = if is_live_at m x.dir.conn then reader else x.reader;
    } in y) (alike x.dir.side) (alike (1 - x.dir.side))

-- ---- by their place
module _ (f : DirNotes → DirNotes) (items old : Notes) (i : ℕ) (z : DirNotes) (below : i < length old)
    (seen : items ≡ each f (take i old) ++ drop i old) where
  pub coming : (rest ends : List AgentEnd) (last : Option Dir) → AreToCome rest ends last (drop i old)
      → AreToCome rest ends last (get_or items i z ∷ drop (i + 1) old)
  coming rest ends last =
      let at = place old i z below in
      subst (AreToCome rest ends last) (at.from_here
      ∙ ap₂ (λ (x : DirNotes) (l : Notes). x ∷ l) (sym (item_here f items old i z below seen)) (sym at.behind))
