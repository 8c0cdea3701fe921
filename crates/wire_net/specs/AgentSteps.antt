-- What a step of an agent may do to a direction.
-- Source: the DMTCP paper (IPDPS 2009), "drain kernel buffers" and "refill kernel buffers".
--     IsStepOn reads sends before after      it takes bytes from the front of the receiver's queue, if it acts for the reading end, and adds bytes at
--                                            the back of the sender's, if it acts for the sending end
--     GrowsBy taken before after             a list grew at its end, by a stretch of what was taken
use Rattle.std.specs.Prelude.{◌≡◌, ℕ, Bool, false, List, [], ◌++◌, take, drop}
use Rattle.wire_channels.specs.Directions.{Direction}

pub record IsStepOn (reads sends : Bool) (before after : Direction) : Type 0 where
  pub taken : ℕ
  pub added : List ℕ
  pub received : after.received ≡ drop taken before.received
  pub wire : after.wire ≡ before.wire
  pub sent : after.sent ≡ before.sent ++ added
  pub unread : reads ≡ false → taken ≡ 0
  pub silent : sends ≡ false → added ≡ []

pub record GrowsBy (taken before after : List ℕ) : Type 0 where
  pub from : ℕ
  pub count : ℕ
  pub grown : after ≡ before ++ take count (drop from taken)
