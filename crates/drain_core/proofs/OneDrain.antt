-- What a step of an agent keeps of a direction that is drained.
--     cookie-length              a cookie has 16 bytes
--     read_stream, sent_stream   the bytes of a direction after a read, and after a send
--     own x bytes                the bytes that are the direction's own
--     Kept, step_kept            the notes fit the direction after a step, and its own bytes are the same
use Rattle.std.proofs.Common.{◌≡◌, ℕ, ◌==◌, ◌+◌, ◌-◌, ◌≤◌, min, Bool, true, false, List, [], ◌∷◌, ◌++◌, take, drop, length, refl, sym, ap, ap₂, subst, ◌∙◌, arith, append_assoc, length-append}
use Rattle.std.specs.Prelude.{if◌then◌else◌}
use Rattle.std.proofs.Math.Seq.{take-add}
use Rattle.std.proofs.lemmas.List.{length-take, length-drop, take-append-le, drop-append-le}
use Rattle.sys_abi.specs.declared.identity.ConnId.{ConnId}
use Rattle.sys_abi.specs.declared.identity.RealPid.{RealPid}
use Rattle.wire_net.specs.declared.cut_room.DirNotes.{DirNotes}
use Rattle.wire_channels.specs.Directions.{Direction, after_receive, after_send}
use Rattle.wire_net.specs.Whereabouts.{stream}
use Rattle.drain_core.specs.Tasks.{cookie, is_agent, unread, unsent, readable, sendable, reads, sends, with_piece, noted_read, noted_sent, with_sent, direction_after, note_after_on}
use Rattle.drain_core.specs.Drains.{IsNoted, IsDraining}
use Rattle.wire_net.proofs.Pieces.{drop_twice, drop_further, take_twice}

pub cookie-length : (id : ConnId) → length (cookie id) ≡ 16
cookie-length id = refl

-- how much a step reads and sends at most
pub read_most : (p : RealPid) (x : DirNotes) (direction : Direction) → (reads p x direction ≤ unread x) × (reads p x direction ≤ length direction.received)
read_most p x direction = choice (is_agent p x.reader)
  where
    choice : (b : Bool) → ((if b then readable x direction else 0) ≤ unread x) × ((if b then readable x direction else 0) ≤ length direction.received)
    choice true = (omega arith, omega arith)
    choice false = (omega arith, omega arith)

pub sent_most : (p : RealPid) (x : DirNotes) (direction : Direction) → sends p x direction ≤ length (unsent x)
sent_most p x direction = choice (is_agent p x.sender)
  where
    choice : (b : Bool) → (if b then sendable x direction else 0) ≤ length (unsent x)
    choice true = omega arith
    choice false = omega arith

pub read_stream : (n : ℕ) (direction : Direction) → n ≤ length direction.received → stream (after_receive n direction) ≡ drop n (stream direction)
read_stream n direction few =
    ap (λ (l : List ℕ). l ++ direction.sent) (sym (drop-append-le n direction.received direction.wire few))
    ∙ sym (drop-append-le n (direction.received ++ direction.wire) direction.sent (omega (arith, few, length-append direction.received direction.wire)))

pub sent_stream : (piece : List ℕ) (direction : Direction) → stream (after_send piece direction) ≡ stream direction ++ piece
sent_stream piece direction = sym (append_assoc (direction.received ++ direction.wire) direction.sent piece)

-- ---- a read of n bytes, noted as a piece

abbrev Front : ℕ → Direction → List ℕ
Front n direction = take n direction.received

pub front_length : (n : ℕ) (direction : Direction) → n ≤ length direction.received → length (Front n direction) ≡ n
front_length n direction few = length-take n direction.received ∙ (let e : min n (length direction.received) ≡ n = omega (arith, few) in e)

front_of_all : (n : ℕ) (direction : Direction) → n ≤ length direction.received → Front n direction ≡ take n (stream direction)
front_of_all n direction few =
    sym (take-append-le n direction.received direction.wire few)
    ∙ sym (take-append-le n (direction.received ++ direction.wire) direction.sent (omega (arith, few, length-append direction.received direction.wire)))

pub piece_drains : (x : DirNotes) (direction : Direction) (n : ℕ) → n ≤ length direction.received → IsDraining x direction
    → IsDraining (with_piece (Front n direction) x) (after_receive n direction)
piece_drains x direction n few is =
    let all : length (stream direction) ≡ length direction.received + length direction.wire + length direction.sent =
    length-append (direction.received ++ direction.wire) direction.sent ∙ ap (λ (k : ℕ). k + length direction.sent) (length-append direction.received direction.wire) in
    let rest : length (stream (after_receive n direction)) ≡ length (stream direction) - n = ap length (read_stream n direction few) ∙ length-drop n (stream direction) in
    let read : length (Front n direction) ≡ n = front_length n direction few in record {
      flows = record { goes_on = is.flows.goes_on; is_read = is.flows.is_read };
      total = omega (arith, all, rest, read, few, is.total);
      behind =
          ap₂ (λ (k : ℕ) (l : List ℕ). drop k l) (let e : x.count - (x.read + length (Front n direction)) ≡ (x.count - x.read) - n = omega (arith, read) in e) (read_stream n direction few)
          ∙ drop_further (x.count - x.read) n (stream direction)
          ∙ ap (drop (n - (x.count - x.read))) is.behind
          ∙ drop_twice (x.read - x.count) (n - (x.count - x.read)) (take x.sent (cookie x.dir.conn))
          ∙ ap (λ (k : ℕ). drop k (take x.sent (cookie x.dir.conn))) (let e : (x.read - x.count) + (n - (x.count - x.read)) ≡ (x.read + length (Front n direction)) - x.count = omega (arith, read) in e);
    }

pub piece_noted : (x : DirNotes) (direction : Direction) (n : ℕ) → n ≤ length direction.received → n ≤ unread x → IsNoted x → IsNoted (with_piece (Front n direction) x)
piece_noted x direction n few wanted is =
    let read : length (Front n direction) ≡ n = front_length n direction few in record {
      side = is.side;
      few = is.few;
      fits = is.fits;
      sent = is.sent;
      read = omega (arith, read, wanted, is.read);
      drained =
          length-append x.drained.items (take (x.count - x.read) (Front n direction))
          ∙ ap₂ (λ (a b : ℕ). a + b) is.drained (length-take (x.count - x.read) (Front n direction))
          ∙ (let e : min x.count x.read + min (x.count - x.read) (length (Front n direction)) ≡ min x.count (x.read + length (Front n direction)) = omega arith in e);
      back = is.back;
      empty = is.empty;
    }

-- the bytes that are the direction's own
abbrev pub own : DirNotes → List ℕ → List ℕ
own x bytes = x.drained.items ++ take (x.count - x.read) bytes

pub piece_keeps : (x : DirNotes) (direction : Direction) (n : ℕ) → n ≤ length direction.received
    → own (with_piece (Front n direction) x) (stream (after_receive n direction)) ≡ own x (stream direction)
piece_keeps x direction n few =
    let read : length (Front n direction) ≡ n = front_length n direction few in
    ap₂ (λ (k : ℕ) (l : List ℕ). (x.drained.items ++ take (x.count - x.read) (Front n direction)) ++ take k l)
    (let e : x.count - (x.read + length (Front n direction)) ≡ (x.count - x.read) - n = omega (arith, read) in e) (read_stream n direction few)
    ∙ append_assoc x.drained.items (take (x.count - x.read) (Front n direction)) (take ((x.count - x.read) - n) (drop n (stream direction)))
    ∙ ap (λ (l : List ℕ). x.drained.items ++ l)
    (ap (λ (l : List ℕ). take (x.count - x.read) l ++ take ((x.count - x.read) - n) (drop n (stream direction))) (front_of_all n direction few)
    ∙ take_twice (x.count - x.read) n (stream direction))

-- ---- a send of the next k bytes of the cookie

abbrev Sent : ℕ → DirNotes → DirNotes
Sent k x = record x { sent = x.sent + k }

abbrev Next : ℕ → DirNotes → List ℕ
Next k x = take k (unsent x)

pub next_length : (k : ℕ) (x : DirNotes) → k ≤ length (unsent x) → length (Next k x) ≡ k
next_length k x few = length-take k (unsent x) ∙ (let e : min k (length (unsent x)) ≡ k = omega (arith, few) in e)

pub sent_drains : (x : DirNotes) (direction : Direction) (k : ℕ) → k ≤ length (unsent x) → x.sent ≤ 16 → IsDraining x direction → IsDraining (Sent k x) (after_send (Next k x) direction)
sent_drains x direction k few most is =
    let next : length (Next k x) ≡ k = next_length k x few in
    let longer : length (stream (after_send (Next k x) direction)) ≡ length (stream direction) + length (Next k x) =
    ap length (sent_stream (Next k x) direction) ∙ length-append (stream direction) (Next k x) in
    let told : length (take x.sent (cookie x.dir.conn)) ≡ x.sent =
    length-take x.sent (cookie x.dir.conn) ∙ (let e : min x.sent (length (cookie x.dir.conn)) ≡ x.sent = omega (arith, most, cookie-length x.dir.conn) in e) in record {
      flows = record { goes_on = is.flows.goes_on; is_read = is.flows.is_read };
      total = omega (arith, next, longer, is.total);
      behind =
          ap (drop (x.count - x.read)) (sent_stream (Next k x) direction)
          ∙ drop-append-le (x.count - x.read) (stream direction) (Next k x) (omega (arith, is.total))
          ∙ ap (λ (l : List ℕ). l ++ Next k x) is.behind
          ∙ sym (drop-append-le (x.read - x.count) (take x.sent (cookie x.dir.conn)) (Next k x) (omega (arith, told, is.total)))
          ∙ ap (drop (x.read - x.count)) (sym (take-add x.sent k (cookie x.dir.conn)));
    }

pub unsent_length : (x : DirNotes) → length (unsent x) ≡ 16 - x.sent
unsent_length x = length-drop x.sent (cookie x.dir.conn) ∙ ap (λ (n : ℕ). n - x.sent) (cookie-length x.dir.conn)

pub sent_noted : (x : DirNotes) (k : ℕ) → k ≤ length (unsent x) → IsNoted x → IsNoted (Sent k x)
sent_noted x k few is =
    let left = unsent_length x in record {
      side = is.side;
      few = is.few;
      fits = is.fits;
      sent = omega (arith, left, few, is.sent);
      read = is.read;
      drained = is.drained;
      back = is.back;
      empty = is.empty;
    }

pub sent_keeps : (x : DirNotes) (direction : Direction) (k : ℕ) → IsDraining x direction → own (Sent k x) (stream (after_send (Next k x) direction)) ≡ own x (stream direction)
sent_keeps x direction k is =
    ap (λ (l : List ℕ). x.drained.items ++ take (x.count - x.read) l) (sent_stream (Next k x) direction)
    ∙ ap (λ (l : List ℕ). x.drained.items ++ l) (take-append-le (x.count - x.read) (stream direction) (Next k x) (omega (arith, is.total)))

-- ---- both

-- what a step leaves of notes that fit, and of the direction
pub record Kept (x y : DirNotes) (direction after : Direction) : Type 0 where
  pub drains : IsDraining y after
  pub noted : IsNoted y
  pub own : own y (stream after) ≡ own x (stream direction)

no_piece : (x : DirNotes) (direction : Direction) → IsNoted x → IsDraining x direction → Kept x x direction direction
no_piece x direction noted is = record { drains = is; noted = noted; own = refl }

reading : (x : DirNotes) (direction : Direction) (n : ℕ) → n ≤ length direction.received → n ≤ unread x → IsNoted x → IsDraining x direction
    → Kept x (noted_read (Front n direction) x) direction (after_receive n direction)
reading x direction n few wanted noted is = pieces (Front n direction) refl
  where
    whole : Kept x (with_piece (Front n direction) x) direction (after_receive n direction)
    whole = record { drains = piece_drains x direction n few is; noted = piece_noted x direction n few wanted noted; own = piece_keeps x direction n few }

    pieces : (piece : List ℕ) → Front n direction ≡ piece → Kept x (noted_read piece x) direction (after_receive n direction)
    pieces [] at =
        let zero : n ≡ 0 = sym (front_length n direction few) ∙ ap length at in
        subst (λ (k : ℕ). Kept x x direction (after_receive k direction)) (sym zero) (no_piece x direction noted is)
    pieces (byte ∷ bytes) at = subst (λ (l : List ℕ). Kept x (with_piece l x) direction (after_receive n direction)) at whole

sending : (x : DirNotes) (direction : Direction) (k : ℕ) → k ≤ length (unsent x) → IsNoted x → IsDraining x direction → Kept x (noted_sent k x) direction (with_sent k x direction)
sending x direction k few noted is = choice (k == 0)
  where
    choice : (none : Bool) → Kept x (if none then x else Sent k x) direction (if none then direction else after_send (Next k x) direction)
    choice true = no_piece x direction noted is
    choice false = record { drains = sent_drains x direction k few noted.sent is; noted = sent_noted x k few noted; own = sent_keeps x direction k is }

both : (x y z : DirNotes) (a b c : Direction) → Kept x y a b → Kept y z b c → Kept x z a c
both x y z a b c first second = record { drains = second.drains; noted = second.noted; own = second.own ∙ first.own }

-- what was read changes nothing of what is to be sent
pub same_sends : (p : RealPid) (piece : List ℕ) (x : DirNotes) (direction : Direction) → with_sent (sends p (noted_read piece x) direction) (noted_read piece x) direction ≡ with_sent (sends p x direction) x direction
same_sends p [] x direction = refl
same_sends p (byte ∷ bytes) x direction = refl

pub same_noted : (p : RealPid) (piece : List ℕ) (x : DirNotes) (direction : Direction) → noted_sent (sends p (noted_read piece x) direction) (noted_read piece x) ≡ noted_sent (sends p x direction) (noted_read piece x)
same_noted p [] x direction = refl
same_noted p (byte ∷ bytes) x direction = refl

pub step_kept : (p : RealPid) (x : DirNotes) (direction : Direction) → IsNoted x → IsDraining x direction → Kept x (note_after_on p direction x) direction (direction_after p x direction)
step_kept p x direction noted is =
    let most = read_most p x direction in
    let n = reads p x direction in
    let piece = Front n direction in
    let middle = after_receive n direction in
    let first = reading x direction n most.1 most.0 noted is in
    let second = sending (noted_read piece x) middle (sends p (noted_read piece x) middle) (sent_most p (noted_read piece x) middle) first.noted first.drains in
    subst (λ (d : Direction). Kept x (note_after_on p direction x) direction d) (same_sends p piece x middle)
    (subst (λ (y : DirNotes). Kept x y direction (with_sent (sends p (noted_read piece x) middle) (noted_read piece x) middle)) (same_noted p piece x middle)
    (both x (noted_read piece x) _ direction middle _ first second))
