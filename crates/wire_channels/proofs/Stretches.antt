-- The three stretches of one list, the queues of a direction whose bytes stand in one ring: the first r can be
-- read, the w behind them are on the wire, and those behind these in the sender's queue.
--     lengths                     their lengths together are the list's
--     put_on, taken_off           the mark behind the wire is moved on;  that before it is
--     read_out                    the first bytes have been taken out
use Rattle.std.proofs.Common.{◌≡◌, ℕ, ◌+◌, ◌-◌, ◌≤◌, Bool, List, ◌++◌, take, drop, length, refl, sym, ap, ap₂, ◌∙◌, arith, length-drop}
use Rattle.std.specs.Prelude.{min}
use Rattle.std.proofs.lemmas.List.{length-take-le, length-take, drop-drop, take-take, drop-take, take_min, drop_min}
use Rattle.std.proofs.Math.Seq.{take-add}
use Rattle.wire_channels.specs.declared.place.Place.TheVariants.{Send, Wire}
use Rattle.wire_channels.specs.Directions.{Direction, after_receive, after_move}

pub wire_length : (r w : ℕ) (xs : List ℕ) → r + w ≤ length xs → length (take w (drop r xs)) ≡ w
wire_length r w xs within = length-take-le w (drop r xs) (let e : length (drop r xs) ≡ length xs - r = length-drop r xs in omega arith)

pub sent_length : (r w : ℕ) (xs : List ℕ) → length (drop (r + w) xs) ≡ length xs - (r + w)
sent_length r w xs = length-drop (r + w) xs

pub received_length : (r w : ℕ) (xs : List ℕ) → r + w ≤ length xs → length (take r xs) ≡ r
received_length r w xs within = length-take-le r xs (omega arith)

pub lengths : (r w : ℕ) (xs : List ℕ) → r + w ≤ length xs → length (drop (r + w) xs) + length (take w (drop r xs)) + length (take r xs) ≡ length xs
lengths r w xs within =
    let a : length (drop (r + w) xs) ≡ length xs - (r + w) = sent_length r w xs in
    let b : length (take w (drop r xs)) ≡ w = wire_length r w xs within in
    let c : length (take r xs) ≡ r = received_length r w xs within in
    omega arith

-- fewer before them
pub received_fewer : (n r : ℕ) (xs : List ℕ) → n ≤ r → take (r - n) (drop n xs) ≡ drop n (take r xs)
received_fewer n r xs few = sym (drop-take n (r - n) xs) ∙ ap (λ (k : ℕ). drop n (take k xs)) (omega arith)

pub wire_kept : (n r w : ℕ) (xs : List ℕ) → n ≤ r → take w (drop (r - n) (drop n xs)) ≡ take w (drop r xs)
wire_kept n r w xs few = ap (take w) (drop-drop (r - n) n xs ∙ ap (λ (k : ℕ). drop k xs) (omega arith))

pub sent_kept : (n r w : ℕ) (xs : List ℕ) → n ≤ r → drop (r - n + w) (drop n xs) ≡ drop (r + w) xs
sent_kept n r w xs few = drop-drop (r - n + w) n xs ∙ ap (λ (k : ℕ). drop k xs) (omega arith)

-- the first n of the last stretch are on the wire
pub wire_gains : (k n r w : ℕ) (xs : List ℕ) → k ≡ min n (length (drop (r + w) xs)) → take (w + k) (drop r xs) ≡ take w (drop r xs) ++ take n (drop (r + w) xs)
wire_gains k n r w xs is =
    take-add w k (drop r xs)
    ∙ ap₂ (λ (i : ℕ) (rest : List ℕ). take w (drop r xs) ++ take i rest) is (drop-drop w r xs)
    ∙ ap (λ (rest : List ℕ). take w (drop r xs) ++ rest) (take_min n (drop (r + w) xs))

pub sent_loses : (k n r w : ℕ) (xs : List ℕ) → k ≡ min n (length (drop (r + w) xs)) → drop (r + (w + k)) xs ≡ drop n (drop (r + w) xs)
sent_loses k n r w xs is =
    ap (λ (i : ℕ). drop i xs) (omega arith) ∙ sym (drop-drop k (r + w) xs) ∙ ap (λ (i : ℕ). drop i (drop (r + w) xs)) is ∙ drop_min n (drop (r + w) xs)

-- the first n of the wire can be read
pub received_gains : (k n r w : ℕ) (xs : List ℕ) → k ≡ min n (length (take w (drop r xs))) → r + w ≤ length xs → take (r + k) xs ≡ take r xs ++ take n (take w (drop r xs))
received_gains k n r w xs is within =
    take-add r k xs
    ∙ ap (λ (front : List ℕ). take r xs ++ front)
    (sym (take-take k w (drop r xs) (let e : length (take w (drop r xs)) ≡ w = wire_length r w xs within in omega arith))
    ∙ ap (λ (i : ℕ). take i (take w (drop r xs))) is ∙ take_min n (take w (drop r xs)))

pub wire_loses : (k n r w : ℕ) (xs : List ℕ) → k ≡ min n (length (take w (drop r xs))) → r + w ≤ length xs → take (w - k) (drop (r + k) xs) ≡ drop n (take w (drop r xs))
wire_loses k n r w xs is within =
    let few : k ≤ w = (let e : length (take w (drop r xs)) ≡ w = wire_length r w xs within in omega arith) in
    ap (take (w - k)) (sym (drop-drop k r xs)) ∙ received_fewer k w (drop r xs) few
    ∙ ap (λ (i : ℕ). drop i (take w (drop r xs))) is ∙ drop_min n (take w (drop r xs))

-- ---- directions

abbrev direction : List ℕ → List ℕ → List ℕ → Bool → Bool → ℕ → Direction
direction sent wire received is_ended is_unread carried =
    record { sent = sent; wire = wire; received = received; is_ended = is_ended; is_unread = is_unread; carried = carried }

abbrev stretched : ℕ → ℕ → List ℕ → Bool → Bool → ℕ → Direction
stretched r w xs e u carried = direction (drop (r + w) xs) (take w (drop r xs)) (take r xs) e u carried

pub put_on : (k n r w : ℕ) (xs : List ℕ) (e u : Bool) (carried : ℕ) (old : Direction) → stretched r w xs e u carried ≡ old → k ≡ min n (length old.sent)
    → stretched r (w + k) xs e u carried ≡ after_move Send n old
put_on k n r w xs e u carried old is count =
    let counted : k ≡ min n (length (drop (r + w) xs)) = count ∙ ap (λ (d : Direction). min n (length d.sent)) (sym is) in
    ap₂ (λ (sent wire : List ℕ). direction sent wire (take r xs) e u carried) (sent_loses k n r w xs counted) (wire_gains k n r w xs counted)
    ∙ ap (after_move Send n) is

pub taken_off : (k n r w : ℕ) (xs : List ℕ) (e u : Bool) (carried : ℕ) (old : Direction) → stretched r w xs e u carried ≡ old → r + w ≤ length xs → k ≡ min n w
    → stretched (r + k) (w - k) xs e u carried ≡ after_move Wire n old
taken_off k n r w xs e u carried old is within count =
    let counted : k ≡ min n (length (take w (drop r xs))) = count ∙ ap (min n) (sym (wire_length r w xs within)) in
    ap (λ (i : ℕ). direction (drop i xs) (take (w - k) (drop (r + k) xs)) (take (r + k) xs) e u carried) (omega arith)
    ∙ ap₂ (λ (wire received : List ℕ). direction (drop (r + w) xs) wire received e u carried) (wire_loses k n r w xs counted within) (received_gains k n r w xs counted within)
    ∙ ap (after_move Wire n) is

pub read_out : (k r w : ℕ) (xs ys : List ℕ) (e u : Bool) (carried : ℕ) (old : Direction) → stretched r w xs e u carried ≡ old → k ≤ r → ys ≡ drop k xs
    → stretched (r - k) w ys e u carried ≡ after_receive k old
read_out k r w xs ys e u carried old is few rest =
    ap (λ (zs : List ℕ). stretched (r - k) w zs e u carried) rest
    ∙ ap₂ (λ (sent wire : List ℕ). direction sent wire (take (r - k) (drop k xs)) e u carried) (sent_kept k r w xs few) (wire_kept k r w xs few)
    ∙ ap (λ (received : List ℕ). direction (drop (r + w) xs) (take w (drop r xs)) received e u carried) (received_fewer k r xs few)
    ∙ ap (after_receive k) is
