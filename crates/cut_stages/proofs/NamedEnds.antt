-- The ends that are listed with their agents, one for each direction.
--     end_found         the end of a listed direction is found
--     its_agent         an end that is found is at its place, and has the agent that is told of it
use Rattle.std.proofs.Common.{◌≡◌, ℕ, Bool, true, false, cond, ◌&&◌, ◌||◌, List, [], ◌∷◌, map as each, Some, refl, sym, ap, subst, ◌∙◌}
use Rattle.std.specs.Prelude.{◌==◌, IsSome, is_some, All}
use Rattle.std.specs.Ordering.{eq_by_cmp}
use Rattle.std.proofs.lemmas.Bool.{eqb-true, eq-eqb}
use Rattle.std.proofs.lemmas.List.Elements.{All-head, All-tail}
use Rattle.std.proofs.lemmas.Option.{same_Some, none-some}
use Rattle.views.proofs.MapLaws.{true_false, same_key}
use Rattle.sys_abi.specs.declared.identity.ConnId.{ConnId}
use Rattle.sys_abi.specs.declared.identity.Dir.{Dir}
use Rattle.sys_abi.specs.Orders.{dir_cmp}
use Rattle.sys_abi.proofs.OrderLaws.{dir_total, dir_exact}
use Rattle.wire_net.specs.declared.agents.AgentEnd.{AgentEnd}
use Rattle.wire_net.specs.Ends.{is_end_at, end_of}
use Rattle.leader_vote.specs.Agents.{place_of}
use Rattle.leader_vote.specs.Directions.{is_listed}

abbrev pub side_of : ConnId → ℕ → Dir
side_of id side = record { conn = id; side = side }

at_itself : (e : AgentEnd) → is_end_at e.conn e.side e ≡ true
at_itself e = λ i.
    (eq-eqb e.conn.pid.0 e.conn.pid.0 refl i && eq-eqb e.conn.num e.conn.num refl i) && eq-eqb e.side
    e.side refl i

pub end_found : (id : ConnId) (side : ℕ) (ends : List AgentEnd)
    → is_listed (side_of id side) (each place_of ends) ≡ true → IsSome (end_of ends id side)
end_found id side [] listed = true_false (sym listed)
end_found id side (e ∷ ends) listed =
    elim (eq_by_cmp dir_cmp (place_of e) (side_of id side)) as (λ b.
    eq_by_cmp dir_cmp (place_of e) (side_of id side) ≡ b
    → (b || is_listed (side_of id side) (each place_of ends)) ≡ true
    → is_some (cond (is_end_at id side e) (Some e) (end_of ends id side)) ≡ true) [
      | true ↦ λ tied is.
          let same = same_key dir_total dir_exact (place_of e) (side_of id side) tied in
          ap (λ (d : Dir). is_some (cond (is_end_at d.conn d.side e) (Some e) (end_of ends id side))) (sym
          same)
          ∙ ap (λ b. is_some (cond b (Some e) (end_of ends id side))) (at_itself e)
      | false ↦ λ apart is. either (is_end_at id side e) (end_found id side ends is)
    ] refl listed
  where
    either : (b : Bool) → is_some (end_of ends id side) ≡ true
        → is_some (cond b (Some e) (end_of ends id side)) ≡ true
    either true there = refl
    either false there = there

first_true : (a b : Bool) → (a && b) ≡ true → a ≡ true
first_true true b is = refl
first_true false b is = true_false (sym is)

second_true : (a b : Bool) → (a && b) ≡ true → b ≡ true
second_true true b is = is
second_true false b is = true_false (sym is)

end_at : (id : ConnId) (side : ℕ) (e : AgentEnd) → is_end_at id side e ≡ true → place_of e ≡ side_of id side
end_at id side e is =
    let named = first_true ((e.conn.pid.0 == id.pid.0) && (e.conn.num == id.num)) (e.side == side) is in
    let pid_is = eqb-true e.conn.pid.0 id.pid.0 (first_true (e.conn.pid.0 == id.pid.0) (e.conn.num ==
    id.num) named) in
    let num_is = eqb-true e.conn.num id.num (second_true (e.conn.pid.0 == id.pid.0) (e.conn.num == id.num)
    named) in
    let side_is = eqb-true e.side side
    (second_true ((e.conn.pid.0 == id.pid.0) && (e.conn.num == id.num)) (e.side == side) is) in
    λ i. record { conn = record { pid = record { 0 = pid_is i }; num = num_is i }; side = side_is i }

pub its_agent : (P : AgentEnd → Type 0) (id : ConnId) (side : ℕ) (ends : List AgentEnd) (e : AgentEnd)
    → All P ends → end_of ends id side ≡ Some e → P e × (place_of e ≡ side_of id side)
its_agent P id side [] e all is = absurd (none-some e is)
its_agent P id side (x ∷ ends) e all is =
    elim (is_end_at id side x) as (λ b. is_end_at id side x ≡ b → cond b (Some x) (end_of ends id side) ≡
    Some e
    → P e × (place_of e ≡ side_of id side)) [
      | true ↦ λ here same.
          subst (λ y. P y × (place_of y ≡ side_of id side)) (same_Some x e same)
          (All-head P x ends all, end_at id side x here)
      | false ↦ λ other same. its_agent P id side ends e (All-tail P x ends all) same
    ] refl is
